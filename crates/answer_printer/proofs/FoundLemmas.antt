-- What is found first in bytes is the word that stands there.
use Rattle.std.proofs.Common.{◌≡◌, refl, sym, ap, subst, ◌∙◌, ℕ, suc, ℤ, ◌+◌, ◌<◌, ◌≤◌, Bool, true, false, cond, ◌==◌, Option, Some, None, List, [], ◌∷◌, ◌++◌, length, take, drop, arith, append_assoc, length-append, take-append-drop}
use Rattle.std.specs.Prelude.{codes}
use Rattle.std.specs.Str.{bytes_eq}
use Rattle.std.specs.List.{list_all, take_while}
use Rattle.std.proofs.lemmas.Bool.{and_parts, and_from, cond-true, cond-false, cond_both, false_from_ne_true, eqb-true, ne_eqb}
use Rattle.std.proofs.lemmas.Slice.Eq.{bytes_eq-Decides}
use Rattle.std.proofs.lemmas.List.{take_at}
use Rattle.std.proofs.lemmas.List.Sums.{take_while-cons}
use Rattle.lists.proofs.Places.{run_within, run_split}
use Rattle.asp_syntax.specs.Bytes.{quote, is_lower, is_digit, is_word}
use Rattle.asp_syntax.specs.WellFormed.{IsName, IsId, IsText}
use Rattle.asp_lexer.specs.Lexemes.{closing_quote}
use Rattle.asp_lexer.proofs.Runs.{run_passes, run_cons}
use Rattle.asp_lexer.proofs.ByteClasses.{digit_bounds, not_lower, lower_is_word}
use Rattle.asp_lexer.proofs.Ends.{string_found, StringEnds, string_ends}
use Rattle.asp_meaning.specs.Lines.{integer_text, sign_text}
use Rattle.answer_printer.specs.declared.words.Word.{Word as AWord}
use Rattle.answer_printer.specs.declared.words.Word.TheVariants.{Id, Integer, Text, Minus, Comma, Open, Close, OpenBrace, CloseBrace}
use Rattle.answer_printer.specs.declared.words.Found.{Found}
use Rattle.answer_printer.specs.declared.words.Found.TheVariants.{Word, Nothing}
use Rattle.answer_printer.specs.Words.{spelling, Fits, IsInRange}
use Rattle.answer_printer.specs.Found.{starts, IsApart, id_found, integer_of, integer_found, minus_found, text_found, mark_found, found}
use Rattle.answer_printer.proofs.IntegerWords.{AreDigits, AreDigitsOf, integer_read, integer_digits}

-- ---- runs

-- a run ends where the rest begins otherwise
run_stops : (p : ℕ → Bool) (v rest : List ℕ) → list_all p v ≡ true → starts p rest ≡ false → take_while p (v ++ rest) ≡ v
run_stops p [] [] h e = refl
run_stops p [] (b ∷ bs) h e = take_while-cons p b bs ∙ ap (λ v. cond v (b ∷ take_while p bs) []) e
run_stops p (b ∷ v) rest h e =
    let parts = and_parts _ _ h in
    run_cons p b (v ++ rest) parts.0 ∙ ap (λ w. b ∷ w) (run_stops p v rest parts.1 e)

-- ---- each word is found where it stands

abbrev IsFoundIn : AWord → List ℕ → List ℕ → Type 0
IsFoundIn w bytes rest = found (bytes ++ rest) ≡ Word w (length bytes)

found_digit : (b : ℕ) (bs : List ℕ) → is_digit b ≡ true → found (b ∷ bs) ≡ integer_found (length (take_while is_digit (b ∷ bs))) (integer_of false (take_while is_digit (b ∷ bs)))
found_digit b bs h =
    let bounds = digit_bounds b h in
    cond-false _ _ _ (not_lower b (omega (arith, bounds.1))) ∙ cond-true _ _ _ h

id_is_found : (name rest : List ℕ) → IsId name → starts is_word rest ≡ false → IsFoundIn (Id name) name rest
id_is_found [] rest h apart = absurd h.0
id_is_found (b ∷ more) rest h apart =
    cond-true _ _ _ h.0.0
    ∙ ap id_found (run_stops is_word (b ∷ more) rest (and_from _ _ (lower_is_word b h.0.0) h.0.1) apart)
    ∙ cond-false _ _ _ (false_from_ne_true _ (λ e. h.1 ((bytes_eq-Decides (b ∷ more) (codes "not")).0 e)))

digits_are_found : (negative : Bool) (z : ℤ) (ds rest : List ℕ) → AreDigitsOf negative z ds → starts is_digit rest ≡ false → IsFoundIn (Integer z) (sign_text negative ++ ds) rest
digits_are_found negative z [] rest h apart = absurd (h.some refl)
digits_are_found false z (d ∷ ds) rest h apart =
    let whole : take_while is_digit (d ∷ (ds ++ rest)) ≡ d ∷ ds = run_stops is_digit (d ∷ ds) rest h.digits apart in
    found_digit d (ds ++ rest) (and_parts _ _ h.digits).0
    ∙ ap (λ w. integer_found (length w) (integer_of false w)) whole
    ∙ ap (integer_found (length (d ∷ ds))) h.integer
digits_are_found true z (d ∷ ds) rest h apart =
    let whole : take_while is_digit (d ∷ (ds ++ rest)) ≡ d ∷ ds = run_stops is_digit (d ∷ ds) rest h.digits apart in
    ap minus_found whole
    ∙ cond-false _ _ _ (ne_eqb (length (d ∷ ds)) 0 (λ e. omega (arith, e)))
    ∙ ap (integer_found (length (d ∷ ds) + 1)) h.integer
    ∙ ap (Word (Integer z)) (omega arith)

integer_is_found : (z : ℤ) (rest : List ℕ) → IsInRange z → starts is_digit rest ≡ false → IsFoundIn (Integer z) (integer_text z) rest
integer_is_found z rest h apart =
    let d = integer_digits z h in
    subst (λ bytes. IsFoundIn (Integer z) bytes rest) (sym d.2.text) (digits_are_found d.0 z d.1 rest d.2 apart)

text_is_found : (inside rest : List ℕ) → IsText inside → IsFoundIn (Text inside) (codes "\"" ++ (inside ++ codes "\"")) rest
text_is_found inside rest h =
    let bytes : List ℕ = (inside ++ codes "\"") ++ rest in
    let split : bytes ≡ inside ++ 34 ∷ rest = append_assoc inside (34 ∷ []) rest in
    ap (text_found bytes) (ap (closing_quote 34) split ∙ string_found 34 inside rest h)
    ∙ ap (λ xs. Word (Text (take (length inside) xs)) (length inside + 2)) split
    ∙ ap (λ xs. Word (Text xs) (length inside + 2)) (take_at inside (34 ∷ rest) (length inside) refl)
    ∙ ap (Word (Text inside)) (omega (arith, length-append inside (34 ∷ [])))

minus_is_found : (rest : List ℕ) → starts is_digit rest ≡ false → IsFoundIn Minus (codes "-") rest
minus_is_found rest apart = ap minus_found (run_stops is_digit [] rest refl apart)

-- each word is found where it stands, if the rest leaves it apart
pub word_is_found : (w : AWord) (rest : List ℕ) → Fits w → IsApart w rest → found (spelling w ++ rest) ≡ Word w (length (spelling w))
word_is_found (Id name) rest fits apart = id_is_found name rest fits apart
word_is_found (Integer z) rest fits apart = integer_is_found z rest fits apart
word_is_found (Text inside) rest fits apart = text_is_found inside rest fits
word_is_found Minus rest fits apart = minus_is_found rest apart
word_is_found Comma rest fits apart = refl
word_is_found Open rest fits apart = refl
word_is_found Close rest fits apart = refl
word_is_found OpenBrace rest fits apart = refl
word_is_found CloseBrace rest fits apart = refl

-- ---- what is found stands there

abbrev pub Stands : List ℕ → Found → Type 0
Stands bytes Nothing = Unit {0}
Stands bytes (Word w n) = Fits w × (bytes ≡ spelling w ++ drop n bytes) × (0 < n) × (n ≤ length bytes)

id_stands : (b : ℕ) (bs : List ℕ) → is_lower b ≡ true → Stands (b ∷ bs) (id_found (take_while is_word (b ∷ bs)))
id_stands b bs h =
    let k = lower_is_word b h in
    let run = run_cons is_word b bs k in
    let w = take_while is_word (b ∷ bs) in
    cond_both (bytes_eq w (codes "not")) Nothing (Word (Id w) (length w)) (Stands (b ∷ bs)) (λ e. tt)
    (λ e. (
      (subst (IsName is_lower) (sym run) (h, run_passes is_word bs), λ q. true_not_false (sym ((bytes_eq-Decides w (codes "not")).1 q) ∙ e)),
      run_split is_word (b ∷ bs),
      omega (arith, ap length run),
      run_within is_word (b ∷ bs),
    ))
  where
    true_not_false : true ≡ false → ⊥
    true_not_false e = cc

-- digits behind a sign or none
integer_stands : (negative : Bool) (ds rest : List ℕ) (n : ℕ) (o : Option ℤ) → n ≡ length (sign_text negative ++ ds) → AreDigits ds → (0 < n) → integer_of negative ds ≡ o
    → Stands ((sign_text negative ++ ds) ++ rest) (integer_found n o)
integer_stands negative ds rest n None many h some e = tt
integer_stands negative ds rest n (Some z) many h some e =
    let is = integer_read negative ds z h e in (
      is.1,
      ap (λ t. t ++ rest) (sym is.0) ∙ ap (λ t. integer_text z ++ t) (sym (ap (λ k. drop k ((sign_text negative ++ ds) ++ rest)) many ∙ drop_front (sign_text negative ++ ds) rest)),
      some,
      omega (arith, many, length-append (sign_text negative ++ ds) rest),
    )
  where
    drop_front : (xs ys : List ℕ) → drop (length xs) (xs ++ ys) ≡ ys
    drop_front [] ys = refl
    drop_front (x ∷ xs) ys = drop_front xs ys

digits_stand : (b : ℕ) (bs : List ℕ) → is_digit b ≡ true
    → Stands (b ∷ bs) (integer_found (length (take_while is_digit (b ∷ bs))) (integer_of false (take_while is_digit (b ∷ bs))))
digits_stand b bs h =
    let ds = take_while is_digit (b ∷ bs) in
    subst (λ bytes. Stands bytes (integer_found (length ds) (integer_of false ds))) (sym (run_split is_digit (b ∷ bs)))
    (integer_stands false ds (drop (length ds) (b ∷ bs)) (length ds) (integer_of false ds) refl (run_passes is_digit (b ∷ bs)) (omega (arith, ap length (run_cons is_digit b bs h))) refl)

minus_stands : (bs : List ℕ) → Stands (45 ∷ bs) (minus_found (take_while is_digit bs))
minus_stands bs =
    let ds = take_while is_digit bs in
    cond_both (length ds == 0) (Word Minus 1) (integer_found (length ds + 1) (integer_of true ds)) (Stands (45 ∷ bs))
    (λ e. (tt, refl, omega arith, omega arith))
    (λ e. subst (λ bytes. Stands (45 ∷ bytes) (integer_found (length ds + 1) (integer_of true ds))) (sym (run_split is_digit bs))
    (integer_stands true ds (drop (length ds) bs) (length ds + 1) (integer_of true ds) (omega arith) (run_passes is_digit bs) (omega arith) refl))

text_stands : (bs : List ℕ) (o : Option ℕ) → StringEnds 34 bs o → Stands (34 ∷ bs) (text_found bs o)
text_stands bs None h = tt
text_stands bs (Some k) h = (
  h.0,
  ap (λ xs. 34 ∷ xs) (sym (take-append-drop (suc k) bs) ∙ ap (λ xs. xs ++ drop (suc k) bs) h.1
      ∙ ap (λ n. (take k bs ++ 34 ∷ []) ++ drop n (34 ∷ bs)) two),
  omega arith,
  omega (arith, h.2),
)
  where
    two : suc (suc k) ≡ k + 2
    two = omega arith

mark_case : (b k : ℕ) (bs : List ℕ) (w : AWord) (x : Found) → Fits w → spelling w ≡ k ∷ [] → Stands (b ∷ bs) x → Stands (b ∷ bs) (cond (b == k) (Word w 1) x)
mark_case b k bs w x fits is h = cond_both (b == k) (Word w 1) x (Stands (b ∷ bs))
    (λ e. (fits, ap (λ y. y ∷ bs) (eqb-true b k e) ∙ ap (λ s. s ++ bs) (sym is), omega arith, omega arith)) (λ e. h)

mark_stands : (b : ℕ) (bs : List ℕ) → Stands (b ∷ bs) (mark_found b)
mark_stands b bs =
    mark_case b 44 bs Comma _ tt refl (mark_case b 40 bs Open _ tt refl (mark_case b 41 bs Close _ tt refl (mark_case b 123 bs OpenBrace _ tt refl (mark_case b 125 bs CloseBrace _ tt refl tt))))

-- what is found stands there
pub found_stands : (bytes : List ℕ) → Stands bytes (found bytes)
found_stands [] = tt
found_stands (b ∷ bs) =
    let all = b ∷ bs in
    let mark = mark_found b in
    let text = cond (b == quote) (text_found bs (closing_quote quote bs)) mark in
    let minus = cond (b == 45) (minus_found (take_while is_digit bs)) text in
    let digits = integer_found (length (take_while is_digit all)) (integer_of false (take_while is_digit all)) in
    let number = cond (is_digit b) digits minus in
    cond_both (is_lower b) (id_found (take_while is_word all)) number (Stands all) (λ e. id_stands b bs e)
    (λ _. cond_both (is_digit b) digits minus (Stands all) (λ e. digits_stand b bs e)
    (λ _. cond_both (b == 45) (minus_found (take_while is_digit bs)) text (Stands all)
    (λ e. subst (λ x. Stands (x ∷ bs) (minus_found (take_while is_digit bs))) (sym (eqb-true b 45 e)) (minus_stands bs))
    (λ _. cond_both (b == quote) (text_found bs (closing_quote quote bs)) mark (Stands all)
    (λ e. subst (λ x. Stands (x ∷ bs) (text_found bs (closing_quote quote bs))) (sym (eqb-true b 34 e)) (text_stands bs (closing_quote quote bs) (string_ends 34 bs)))
    (λ _. mark_stands b bs))))
