-- What is read at a place stands there.
use Rattle.std.proofs.Common.{◌≡◌, ◌≢◌, inl, inr, refl, sym, ap, subst, ◌∙◌, ℕ, suc, ◌+◌, ◌≤◌, ◌<◌, Bool, true, false, cond, ◌==◌, Option, Some, None, List, [], ◌∷◌, ◌++◌, length, take, drop, arith, append_assoc, take-append-drop}
use Rattle.std.specs.Prelude.{codes}
use Rattle.std.specs.Str.{bytes_eq}
use Rattle.std.specs.List.{take_while, prefix_len}
use Rattle.std.proofs.lemmas.Bool.{cond_both, eqb-true, eqb-false, not-false}
use Rattle.std.proofs.lemmas.Slice.Eq.{bytes_eq-Decides}
use Rattle.std.proofs.lemmas.List.Sums.{prefix_len-le-length}
use Rattle.lists.proofs.Places.{run_taken, run_within}
use Rattle.asp_syntax.specs.declared.tree.CompareOp.TheVariants.{Equal, NotEqual, Less, LessEqual, Greater, GreaterEqual}
use Rattle.asp_syntax.specs.declared.token.Token.{Token}
use Rattle.asp_syntax.specs.declared.token.Token.TheVariants as token
use Rattle.asp_lexer.specs.declared.lexeme.Lexeme.{Lexeme}
use Rattle.asp_lexer.specs.declared.lexeme.Lexeme.TheVariants as lexeme
use Rattle.asp_syntax.specs.Bytes.{is_lower, is_upper, is_letter, is_digit, is_word, is_blank}
use Rattle.asp_syntax.specs.WellFormed.{IsName, largest}
use Rattle.asp_lexer.specs.Tokens.{IsNumeral, decimal, IsOtherHashWord, Spells, Fits}
use Rattle.asp_lexer.specs.Lexing.{IsSkipped, blank, line_comment, block_comment, EndsLine, BeginsWithoutStar, IsOpen, is_in_line}
use Rattle.asp_lexer.specs.Lexemes.{first_is, lexeme_of, word_lexeme, variable_lexeme, numeral_lexeme, number_lexeme, fitting, text_lexeme, closing_quote, block_length, block_lexeme, comment_lexeme, hash_lexeme, single_sign, single_lexeme, dot_lexeme, colon_lexeme, less_lexeme, greater_lexeme, exclamation_lexeme, sign_lexeme, other_lexeme}
use Rattle.asp_lexer.proofs.Runs.{run_passes, run_cons}
use Rattle.asp_lexer.proofs.Scans.{IsFitting, fitting_is}
use Rattle.asp_lexer.proofs.ByteClasses.{lower_is_word, upper_is_word}
use Rattle.asp_lexer.proofs.Ends.{StringEnds, string_ends, BlockEnds, block_ends, ends_in}

-- n bytes are read, and there are as many
pub record Takes (n : ℕ) (bs : List ℕ) : Type 0 where
  pub some : 1 ≤ n
  pub within : n ≤ length bs

-- the lexeme stands first in the bytes; of bad bytes nothing is said here
abbrev pub StandsFirst : List ℕ → Lexeme → Type 0
StandsFirst bs (lexeme.Skipped n) = IsSkipped (take n bs) (drop n bs) × Takes n bs
StandsFirst bs (lexeme.Token t n) = Spells t (take n bs) × Fits t × Takes n bs
StandsFirst bs (lexeme.TooLarge n) = (v : ℕ) × Spells (token.Number v) (take n bs) × (largest < v) × Takes n bs
StandsFirst bs lexeme.Bad = Unit {0}

-- either of two lexemes stands first where it is chosen
stands_either : (bs : List ℕ) (v : Bool) (x y : Lexeme) → (v ≡ true → StandsFirst bs x) → (v ≡ false → StandsFirst bs y) → StandsFirst bs (cond v x y)
stands_either bs v x y h k = cond_both v x y (StandsFirst bs) h k

-- ---- runs

-- a run whose first byte passes takes at least that
run_takes : (p : ℕ → Bool) (b : ℕ) (bs : List ℕ) → p b ≡ true → Takes (length (take_while p (b ∷ bs))) (b ∷ bs)
run_takes p b bs h = record {
  some = (let e = ap length (run_cons p b bs h) in omega (arith, e));
  within = run_within p (b ∷ bs);
}

-- a name that begins with a byte
run_named : (first : ℕ → Bool) (b : ℕ) (bs : List ℕ) → first b ≡ true → is_word b ≡ true → IsName first (take_while is_word (b ∷ bs))
run_named first b bs h k = subst (IsName first) (sym (run_cons is_word b bs k)) (h, run_passes is_word bs)

stands_word : (b : ℕ) (bs : List ℕ) → is_lower b ≡ true → StandsFirst (b ∷ bs) (word_lexeme (take_while is_word (b ∷ bs)))
stands_word b bs h =
    let k = lower_is_word b h in
    let w = take_while is_word (b ∷ bs) in
    let n = length w in
    let taken : take n (b ∷ bs) ≡ w = run_taken is_word (b ∷ bs) in
    let takes = run_takes is_word b bs k in
    stands_either (b ∷ bs) (bytes_eq w (codes "not")) (lexeme.Token token.Not n) (lexeme.Token (token.Id w) n)
    (λ e. (taken ∙ (bytes_eq-Decides w (codes "not")).0 e, tt, takes))
    (λ e. (subst (Spells (token.Id w)) (sym taken) (refl, (run_named is_lower b bs h k, λ q. true_not_false (sym ((bytes_eq-Decides w (codes "not")).1 q) ∙ e))), tt, takes))
  where
    true_not_false : true ≡ false → ⊥
    true_not_false e = cc

stands_variable : (b : ℕ) (bs : List ℕ) → is_upper b ≡ true → StandsFirst (b ∷ bs) (variable_lexeme (take_while is_word (b ∷ bs)))
stands_variable b bs h =
    let k = upper_is_word b h in
    let w = take_while is_word (b ∷ bs) in
    (subst (Spells (token.Variable w)) (sym (run_taken is_word (b ∷ bs))) (refl, run_named is_upper b bs h k), tt, run_takes is_word b bs k)

stands_number : (bs : List ℕ) (n v : ℕ) (o : Option ℕ) → IsFitting v o → Spells (token.Number v) (take n bs) → Takes n bs → StandsFirst bs (number_lexeme n o)
stands_number bs n v None h s takes = (v, s, h, takes)
stands_number bs n v (Some m) h s takes = (subst (λ x. Spells (token.Number x) (take n bs)) (sym h.0) s, subst (λ x. x ≤ largest) (sym h.0) h.1, takes)

stands_numeral : (b : ℕ) (bs : List ℕ) → is_digit b ≡ true → (b == 48) ≡ false → StandsFirst (b ∷ bs) (numeral_lexeme (take_while is_digit (b ∷ bs)))
stands_numeral b bs h z =
    let w = take_while is_digit (b ∷ bs) in
    let number : IsNumeral w = subst IsNumeral (sym (run_cons is_digit b bs h)) (inr (h, eqb-false b 48 z, run_passes is_digit bs)) in
    stands_number (b ∷ bs) (length w) (decimal w) (fitting (decimal w)) (fitting_is (decimal w))
    (subst (Spells (token.Number (decimal w))) (sym (run_taken is_digit (b ∷ bs))) (refl, number)) (run_takes is_digit b bs h)

-- ---- one and two bytes

-- the first byte, and the first two
one_byte : (b k : ℕ) (bs : List ℕ) → (b == k) ≡ true → take 1 (b ∷ bs) ≡ k ∷ []
one_byte b k bs e = ap (λ x. x ∷ []) (eqb-true b k e)

two_bytes : (b k l : ℕ) (bs : List ℕ) → (b == k) ≡ true → first_is l bs ≡ true → take 2 (b ∷ bs) ≡ k ∷ l ∷ []
two_bytes b k l [] e f = absurd (cc)
two_bytes b k l (c ∷ cs) e f = ap (λ x. x ∷ c ∷ []) (eqb-true b k e) ∙ ap (λ x. k ∷ x ∷ []) (eqb-true c l f)

takes_one : (b : ℕ) (bs : List ℕ) → Takes 1 (b ∷ bs)
takes_one b bs = record { some = omega arith; within = omega arith }

takes_two : (b l : ℕ) (bs : List ℕ) → first_is l bs ≡ true → Takes 2 (b ∷ bs)
takes_two b l [] f = absurd (cc)
takes_two b l (c ∷ cs) f = record { some = omega arith; within = omega arith }

stands_dot : (b : ℕ) (bs : List ℕ) → (b == 46) ≡ true → StandsFirst (b ∷ bs) (dot_lexeme bs)
stands_dot b bs e = stands_either (b ∷ bs) (first_is 46 bs) (lexeme.Token token.DotDot 2) (lexeme.Token token.Dot 1)
    (λ f. (two_bytes b 46 46 bs e f, tt, takes_two b 46 bs f)) (λ f. (one_byte b 46 bs e, tt, takes_one b bs))

stands_colon : (b : ℕ) (bs : List ℕ) → (b == 58) ≡ true → StandsFirst (b ∷ bs) (colon_lexeme bs)
stands_colon b bs e =
    let rest = cond (first_is 126 bs) (lexeme.Token token.WeakIf 2) (lexeme.Token token.Colon 1) in
    stands_either (b ∷ bs) (first_is 45 bs) (lexeme.Token token.If 2) rest
    (λ f. (two_bytes b 58 45 bs e f, tt, takes_two b 45 bs f))
    (λ f. stands_either (b ∷ bs) (first_is 126 bs) (lexeme.Token token.WeakIf 2) (lexeme.Token token.Colon 1)
    (λ g. (two_bytes b 58 126 bs e g, tt, takes_two b 126 bs g)) (λ g. (one_byte b 58 bs e, tt, takes_one b bs)))

stands_less : (b : ℕ) (bs : List ℕ) → (b == 60) ≡ true → StandsFirst (b ∷ bs) (less_lexeme bs)
stands_less b bs e =
    let rest = cond (first_is 62 bs) (lexeme.Token (token.Compare NotEqual) 2) (lexeme.Token (token.Compare Less) 1) in
    stands_either (b ∷ bs) (first_is 61 bs) (lexeme.Token (token.Compare LessEqual) 2) rest
    (λ f. (two_bytes b 60 61 bs e f, tt, takes_two b 61 bs f))
    (λ f. stands_either (b ∷ bs) (first_is 62 bs) (lexeme.Token (token.Compare NotEqual) 2) (lexeme.Token (token.Compare Less) 1)
    (λ g. (inr (two_bytes b 60 62 bs e g), tt, takes_two b 62 bs g)) (λ g. (one_byte b 60 bs e, tt, takes_one b bs)))

stands_greater : (b : ℕ) (bs : List ℕ) → (b == 62) ≡ true → StandsFirst (b ∷ bs) (greater_lexeme bs)
stands_greater b bs e = stands_either (b ∷ bs) (first_is 61 bs) (lexeme.Token (token.Compare GreaterEqual) 2) (lexeme.Token (token.Compare Greater) 1)
    (λ f. (two_bytes b 62 61 bs e f, tt, takes_two b 61 bs f)) (λ f. (one_byte b 62 bs e, tt, takes_one b bs))

stands_exclamation : (b : ℕ) (bs : List ℕ) → (b == 33) ≡ true → StandsFirst (b ∷ bs) (exclamation_lexeme bs)
stands_exclamation b bs e = stands_either (b ∷ bs) (first_is 61 bs) (lexeme.Token (token.Compare NotEqual) 2) lexeme.Bad
    (λ f. (inl (two_bytes b 33 61 bs e f), tt, takes_two b 61 bs f)) (λ f. tt)

-- a sign that begins no longer one
abbrev StandsAsSign : ℕ → Option Token → Type 0
StandsAsSign b None = Unit {0}
StandsAsSign b (Some t) = Spells t (b ∷ []) × Fits t

-- the sign is this byte, or one of those that are asked for next
sign_case : (b k : ℕ) (t : Token) (o : Option Token) → Spells t (k ∷ []) → Fits t → ((b == k) ≡ false → StandsAsSign b o) → StandsAsSign b (cond (b == k) (Some t) o)
sign_case b k t o h s rest = cond_both (b == k) (Some t) o (StandsAsSign b) (λ e. (subst (λ x. Spells t (x ∷ [])) (sym (eqb-true b k e)) h, s)) rest

stands_single_sign : (b : ℕ) → StandsAsSign b (single_sign b)
stands_single_sign b =
    sign_case b 44 token.Comma _ refl tt (λ _.
    sign_case b 40 token.Open _ refl tt (λ _.
    sign_case b 41 token.Close _ refl tt (λ _.
    sign_case b 59 token.Semicolon _ refl tt (λ _.
    sign_case b 123 token.OpenBrace _ refl tt (λ _.
    sign_case b 125 token.CloseBrace _ refl tt (λ _.
    sign_case b 43 token.Plus _ refl tt (λ _.
    sign_case b 45 token.Minus _ refl tt (λ _.
    sign_case b 42 token.Star _ refl tt (λ _.
    sign_case b 47 token.Slash _ refl tt (λ _.
    sign_case b 61 (token.Compare Equal) _ refl tt (λ _.
    sign_case b 95 token.Anonymous _ refl tt (λ _.
    sign_case b 124 token.Bar _ refl tt (λ _.
    sign_case b 92 token.Backslash _ refl tt (λ _.
    sign_case b 63 token.Question _ refl tt (λ _.
    sign_case b 64 token.At _ refl tt (λ _.
    sign_case b 91 token.OpenBracket _ refl tt (λ _.
    sign_case b 93 token.CloseBracket _ refl tt (λ _.
    sign_case b 38 token.Ampersand None refl tt (λ _. tt)))))))))))))))))))

stands_one : (b : ℕ) (bs : List ℕ) (o : Option Token) → StandsAsSign b o → StandsFirst (b ∷ bs) (single_lexeme o)
stands_one b bs None h = tt
stands_one b bs (Some t) h = (h.0, h.1, takes_one b bs)

pub stands_sign : (b : ℕ) (bs : List ℕ) → StandsFirst (b ∷ bs) (sign_lexeme b bs)
stands_sign b bs =
    stands_either (b ∷ bs) (b == 46) (dot_lexeme bs) _ (λ e. stands_dot b bs e) (λ _.
    stands_either (b ∷ bs) (b == 58) (colon_lexeme bs) _ (λ e. stands_colon b bs e) (λ _.
    stands_either (b ∷ bs) (b == 60) (less_lexeme bs) _ (λ e. stands_less b bs e) (λ _.
    stands_either (b ∷ bs) (b == 62) (greater_lexeme bs) _ (λ e. stands_greater b bs e) (λ _.
    stands_either (b ∷ bs) (b == 33) (exclamation_lexeme bs) (single_lexeme (single_sign b)) (λ e. stands_exclamation b bs e) (λ _. stands_one b bs (single_sign b) (stands_single_sign b))))))

-- ---- strings and comments

-- a string whose end was found
stands_inside : (b : ℕ) (bs : List ℕ) (o : Option ℕ) → (b == 34) ≡ true → StringEnds 34 bs o → StandsFirst (b ∷ bs) (text_lexeme bs o)
stands_inside b bs None e h = tt
stands_inside b bs (Some k) e h =
    let two : k + 2 ≡ suc (suc k) = omega arith in (
      (ap (λ n. take n (b ∷ bs)) two ∙ ap (λ xs. b ∷ xs) h.1 ∙ ap (λ x. x ∷ (take k bs ++ 34 ∷ [])) (eqb-true b 34 e), h.0),
      tt,
      record { some = omega arith; within = omega (arith, h.2) },
    )

stands_text : (b : ℕ) (bs : List ℕ) → (b == 34) ≡ true → StandsFirst (b ∷ bs) (text_lexeme bs (closing_quote 34 bs))
stands_text b bs e = stands_inside b bs (closing_quote 34 bs) e (string_ends 34 bs)

-- a line ends behind the bytes that are no line feed
ends_line : (bs : List ℕ) → EndsLine (drop (prefix_len is_in_line bs) bs)
ends_line [] = tt
ends_line (b ∷ bs) = go (ends_line bs) (is_in_line b) refl
  where
    go : EndsLine (drop (prefix_len is_in_line bs) bs) → (v : Bool) → is_in_line b ≡ v → EndsLine (drop (cond v (1 + prefix_len is_in_line bs) 0) (b ∷ bs))
    go ih true e = let one_more : 1 + prefix_len is_in_line bs ≡ suc (prefix_len is_in_line bs) = omega arith in subst (λ n. EndsLine (drop n (b ∷ bs))) (sym one_more) ih
    go ih false e = eqb-true b 10 (not-false _ e)

-- no star stands first
no_star : (bs : List ℕ) → first_is 42 bs ≡ false → BeginsWithoutStar bs
no_star [] h = tt
no_star (b ∷ bs) h = eqb-false b 42 h

stands_line : (b : ℕ) (bs : List ℕ) → (b == 37) ≡ true → first_is 42 bs ≡ false → StandsFirst (b ∷ bs) (lexeme.Skipped (prefix_len is_in_line bs + 1))
stands_line b bs e star =
    let m = prefix_len is_in_line bs in
    let more : m + 1 ≡ suc m = omega arith in
    let taken : take (m + 1) (b ∷ bs) ≡ 37 ∷ take m bs = ap (λ n. take n (b ∷ bs)) more ∙ ap (λ x. x ∷ take m bs) (eqb-true b 37 e) in
    let left : drop (m + 1) (b ∷ bs) ≡ drop m bs = ap (λ n. drop n (b ∷ bs)) more in
    let again : bs ≡ take m bs ++ drop (m + 1) (b ∷ bs) = sym (take-append-drop m bs) ∙ ap (λ xs. take m bs ++ xs) (sym left) in (
      line_comment (take m bs) taken (subst BeginsWithoutStar again (no_star bs star)) (run_passes is_in_line bs) (subst EndsLine (sym left) (ends_line bs)),
      record { some = omega arith; within = omega (arith, prefix_len-le-length is_in_line bs) },
    )

stands_block : (b c : ℕ) (bs : List ℕ) (o : Option ℕ) → (b == 37) ≡ true → (c == 42) ≡ true → BlockEnds 0 bs o → StandsFirst (b ∷ c ∷ bs) (block_lexeme o)
stands_block b c bs None e f h = tt
stands_block b c bs (Some k) e f h =
    let two : k + 2 ≡ suc (suc k) = omega arith in
    let inside = ends_in 0 h.0 h.3 (λ z. absurd (cc)) in
    let x = inside.0 in
    let taken : take k bs ≡ x ++ 42 ∷ 37 ∷ [] = h.1 ∙ ap (λ d. d ++ 37 ∷ []) inside.1 ∙ append_assoc x (42 ∷ []) (37 ∷ []) in
    let all : take (k + 2) (b ∷ c ∷ bs) ≡ 37 ∷ 42 ∷ (x ++ 42 ∷ 37 ∷ []) =
    ap (λ n. take n (b ∷ c ∷ bs)) two ∙ ap (λ xs. b ∷ c ∷ xs) taken
    ∙ ap (λ y. y ∷ c ∷ (x ++ 42 ∷ 37 ∷ [])) (eqb-true b 37 e) ∙ ap (λ y. 37 ∷ y ∷ (x ++ 42 ∷ 37 ∷ [])) (eqb-true c 42 f) in
    (block_comment x all (subst (IsOpen 0) inside.1 h.2), record { some = omega arith; within = omega (arith, h.4) })

stands_star : (b : ℕ) (bs : List ℕ) → (b == 37) ≡ true → first_is 42 bs ≡ true → StandsFirst (b ∷ bs) (block_lexeme (block_length 0 (drop 1 bs)))
stands_star b [] e f = absurd (cc)
stands_star b (c ∷ bs) e f = stands_block b c bs (block_length 0 bs) e f (block_ends 0 bs)

stands_comment : (b : ℕ) (bs : List ℕ) → (b == 37) ≡ true → StandsFirst (b ∷ bs) (comment_lexeme bs)
stands_comment b bs e = stands_either (b ∷ bs) (first_is 42 bs) (block_lexeme (block_length 0 (drop 1 bs))) (lexeme.Skipped (prefix_len is_in_line bs + 1))
    (λ f. stands_star b bs e f) (λ f. stands_line b bs e f)

-- ---- words behind `#`

-- bytes that fail the test differ
differs : (w v : List ℕ) → bytes_eq w v ≡ false → w ≢ v
differs w v f e = clash (sym ((bytes_eq-Decides w v).1 e) ∙ f)
  where
    clash : true ≡ false → ⊥
    clash e = cc

-- equal bytes go on equally
tail_is : (b c : ℕ) (w v : List ℕ) → b ∷ w ≡ c ∷ v → w ≡ v
tail_is b c w v e = cc

stands_hash : (b : ℕ) (bs : List ℕ) → (b == 35) ≡ true → StandsFirst (b ∷ bs) (hash_lexeme (take_while is_letter bs))
stands_hash b bs e =
    let w = take_while is_letter bs in
    let n = length w + 1 in
    let more : n ≡ suc (length w) = omega arith in
    let taken : take n (b ∷ bs) ≡ 35 ∷ w = ap (λ k. take k (b ∷ bs)) more ∙ ap (λ xs. b ∷ xs) (run_taken is_letter bs) ∙ ap (λ x. x ∷ w) (eqb-true b 35 e) in
    let takes : Takes n (b ∷ bs) = record { some = omega arith; within = omega (arith, run_within is_letter bs) } in
    let four = cond (bytes_eq w (codes "max")) (lexeme.Token token.MinMax n) (lexeme.Token token.Directive n) in
    let three = cond (bytes_eq w (codes "min")) (lexeme.Token token.MinMax n) four in
    let two = cond (bytes_eq w (codes "sum")) (lexeme.Token token.Sum n) three in
    let one = cond (bytes_eq w (codes "count")) (lexeme.Token token.Count n) two in
    stands_either (b ∷ bs) (length w == 0) lexeme.Bad one (λ z. tt) (λ z.
    stands_either (b ∷ bs) (bytes_eq w (codes "count")) (lexeme.Token token.Count n) two (λ y. (taken ∙ ap (λ xs. 35 ∷ xs) ((bytes_eq-Decides w (codes "count")).0 y), tt, takes)) (λ c.
    stands_either (b ∷ bs) (bytes_eq w (codes "sum")) (lexeme.Token token.Sum n) three (λ y. (taken ∙ ap (λ xs. 35 ∷ xs) ((bytes_eq-Decides w (codes "sum")).0 y), tt, takes)) (λ s.
    stands_either (b ∷ bs) (bytes_eq w (codes "min")) (lexeme.Token token.MinMax n) four (λ y. (inl (taken ∙ ap (λ xs. 35 ∷ xs) ((bytes_eq-Decides w (codes "min")).0 y)), tt, takes)) (λ m.
    stands_either (b ∷ bs) (bytes_eq w (codes "max")) (lexeme.Token token.MinMax n) (lexeme.Token token.Directive n) (λ y. (inr (taken ∙ ap (λ xs. 35 ∷ xs) ((bytes_eq-Decides w (codes "max")).0 y)), tt, takes)) (λ x. (
      subst IsOtherHashWord (sym taken) (record {
        is_hash_word = (refl, (λ q. eqb-false (length w) 0 z (ap length q)), run_passes is_letter bs);
        not_count = λ q. differs w (codes "count") c (tail_is 35 35 w (codes "count") q);
        not_sum = λ q. differs w (codes "sum") s (tail_is 35 35 w (codes "sum") q);
        not_min = λ q. differs w (codes "min") m (tail_is 35 35 w (codes "min") q);
        not_max = λ q. differs w (codes "max") x (tail_is 35 35 w (codes "max") q);
      }),
      tt,
      takes,
    ))))))

-- ---- all

stands_other : (b : ℕ) (bs : List ℕ) → StandsFirst (b ∷ bs) (other_lexeme b bs)
stands_other b bs =
    stands_either (b ∷ bs) (is_blank b) (lexeme.Skipped 1) _ (λ e. (blank b e refl, takes_one b bs)) (λ _.
    stands_either (b ∷ bs) (b == 37) (comment_lexeme bs) _ (λ e. stands_comment b bs e) (λ _.
    stands_either (b ∷ bs) (b == 34) (text_lexeme bs (closing_quote 34 bs)) _ (λ e. stands_text b bs e) (λ _.
    stands_either (b ∷ bs) (b == 35) (hash_lexeme (take_while is_letter bs)) (sign_lexeme b bs) (λ e. stands_hash b bs e) (λ _. stands_sign b bs))))

stands_zero : (b : ℕ) (bs : List ℕ) → (b == 48) ≡ true → StandsFirst (b ∷ bs) (lexeme.Token (token.Number 0) 1)
stands_zero b bs e =
    let zero_is : Spells (token.Number 0) (48 ∷ []) = (refl, inl (refl, refl)) in
    (subst (λ x. Spells (token.Number 0) (x ∷ [])) (sym (eqb-true b 48 e)) zero_is, omega arith, takes_one b bs)

-- what is read first stands there
pub stands_first : (bs : List ℕ) → StandsFirst bs (lexeme_of bs)
stands_first [] = tt
stands_first (b ∷ bs) =
    stands_either (b ∷ bs) (is_lower b) (word_lexeme (take_while is_word (b ∷ bs))) _ (λ e. stands_word b bs e) (λ _.
    stands_either (b ∷ bs) (is_upper b) (variable_lexeme (take_while is_word (b ∷ bs))) _ (λ e. stands_variable b bs e) (λ _.
    stands_either (b ∷ bs) (b == 48) (lexeme.Token (token.Number 0) 1) _ (λ e. stands_zero b bs e) (λ z.
    stands_either (b ∷ bs) (is_digit b) (numeral_lexeme (take_while is_digit (b ∷ bs))) (other_lexeme b bs) (λ e. stands_numeral b bs e z) (λ _. stands_other b bs))))
