-- How reading a set goes on: blanks change nothing, and the word that is found is the only one that may come.
use Rattle.std.proofs.Common.{◌≡◌, ◌⊎◌, inl, inr, refl, sym, ap, subst, ◌∙◌, ℕ, zero, suc, ℤ, ◌≤◌, Bool, true, false, ◌==◌, Option, Some, None, List, [], ◌∷◌, ◌++◌, length, drop, arith, length-append, true≢false}
use Rattle.std.proofs.lemmas.Bool.{and_parts, and_from, and_right, or_from, cases_Bool, eqb-true, ne_eqb, leb-true, lt-leb}
use Rattle.std.proofs.lemmas.Option.{same_Some, none-some}
use Rattle.lists.specs.Lists.{Each}
use Rattle.asp_syntax.specs.Bytes.{is_digit, is_word, is_lower}
use Rattle.asp_lexer.proofs.ByteClasses.{digit_bounds}
use Rattle.asp_meaning.specs.declared.value.Value.{Value}
use Rattle.asp_meaning.specs.Atoms.{Atom}
use Rattle.answer_printer.specs.declared.words.Word.{Word as AWord}
use Rattle.answer_printer.specs.declared.words.Word.TheVariants.{Id, Integer, Text, Minus, Comma, Open, Close, OpenBrace, CloseBrace}
use Rattle.answer_printer.specs.declared.words.Found.{Found}
use Rattle.answer_printer.specs.declared.words.Found.TheVariants.{Word, Nothing}
use Rattle.answer_printer.specs.declared.phase.Phase.{Phase}
use Rattle.answer_printer.specs.declared.phase.Phase.TheVariants.{Start, First, Due, Signed, Named, Whole, End}
use Rattle.answer_printer.specs.Words.{spelling, Fits, set_words}
use Rattle.answer_printer.specs.Sets.{is_set_blank, IsSpaced, IsSetText}
use Rattle.answer_printer.specs.Machine.{Call, State, start, at_phase, on_name, on_value, on_minus, step, on_state, run}
use Rattle.answer_printer.specs.Found.{starts, IsApart, found}
use Rattle.answer_printer.specs.Reading.{Leads}
use Rattle.answer_printer.proofs.IntegerWords.{AreDigitsOf, integer_digits}
use Rattle.answer_printer.proofs.FoundLemmas.{word_is_found, Stands, found_stands}
use Rattle.answer_printer.proofs.MachineLemmas.{st, set_reads}
use Rattle.answer_printer.proofs.TakenLemmas.{set_taken}

-- ---- a text is a set where the start leads to it

pub text_leads : (bytes : List ℕ) (atoms : List Atom) → IsSetText bytes atoms → Leads start bytes atoms
text_leads bytes atoms h = record { words = set_words atoms; fit = h.fit; spaced = h.spaced; last = st atoms false [] End; runs = set_reads atoms; ends = refl; atoms_are = refl }

pub leads_text : (bytes : List ℕ) (atoms : List Atom) → Leads start bytes atoms → IsSetText bytes atoms
leads_text bytes atoms h =
    let is : h.words ≡ set_words atoms = set_taken h.words h.last h.runs h.ends ∙ ap set_words h.atoms_are in
    record { fit = subst (Each Fits) is h.fit; spaced = subst (λ ws. IsSpaced ws bytes) is h.spaced }

-- ---- blanks

blank_cases : (b : ℕ) → is_set_blank b ≡ true → (b ≡ 32) ⊎ ((b ≡ 9) ⊎ (b ≡ 13))
blank_cases b h = elim (cases_Bool (b == 32)) [
  | inl e ↦ inl (eqb-true b 32 e)
  | inr e ↦ elim (cases_Bool (b == 9)) [
    | inl f ↦ inr (inl (eqb-true b 9 f))
    | inr f ↦ elim (cases_Bool (b == 13)) [
      | inl g ↦ inr (inr (eqb-true b 13 g))
      | inr g ↦ absurd (true≢false (sym h ∙ or_from _ _ (or_from _ _ e f) g))
    ]
  ]
]

-- no blank passes a test that none of the three passes
blanks_fail : (p : ℕ → Bool) → p 32 ≡ false → p 9 ≡ false → p 13 ≡ false → (b : ℕ) → is_set_blank b ≡ true → p b ≡ false
blanks_fail p x y z b h = elim (blank_cases b h) [
  | inl e ↦ ap p e ∙ x
  | inr more ↦ elim more [ inl e ↦ ap p e ∙ y | inr e ↦ ap p e ∙ z ]
]

no_blank : (b : ℕ) → 33 ≤ b → is_set_blank b ≡ false
no_blank b h = or_from _ _ (or_from _ _ (ne_eqb b 32 (λ e. omega (arith, h, e))) (ne_eqb b 9 (λ e. omega (arith, h, e)))) (ne_eqb b 13 (λ e. omega (arith, h, e)))

-- ---- a word has a first byte, which is no blank

pub record BeginsWell (bytes : List ℕ) : Type 0 where
  pub byte : ℕ
  pub more : List ℕ
  pub is : bytes ≡ byte ∷ more
  pub no_blank_first : is_set_blank byte ≡ false

lower_high : (b : ℕ) → is_lower b ≡ true → 97 ≤ b
lower_high b h = leb-true 97 b (and_parts _ _ h).0

digits_begin : (negative : Bool) (z : ℤ) (ds rest : List ℕ) → AreDigitsOf negative z ds → BeginsWell (spelling (Integer z) ++ rest)
digits_begin negative z [] rest h = absurd (h.some refl)
digits_begin false z (d ∷ ds) rest h = record {
  byte = d;
  more = ds ++ rest;
  is = ap (λ t. t ++ rest) h.text;
  no_blank_first = no_blank d (omega (arith, (digit_bounds d (and_parts _ _ h.digits).0).0));
}
digits_begin true z (d ∷ ds) rest h = record { byte = 45; more = (d ∷ ds) ++ rest; is = ap (λ t. t ++ rest) h.text; no_blank_first = refl }

word_begins : (w : AWord) (rest : List ℕ) → Fits w → BeginsWell (spelling w ++ rest)
word_begins (Id []) rest fits = absurd fits.0
word_begins (Id (b ∷ more)) rest fits = record { byte = b; more = more ++ rest; is = refl; no_blank_first = no_blank b (omega (arith, lower_high b fits.0.0)) }
word_begins (Integer z) rest fits = let d = integer_digits z fits in digits_begin d.0 z d.1 rest d.2
word_begins (Text inside) rest fits = record { byte = 34; more = (inside ++ 34 ∷ []) ++ rest; is = refl; no_blank_first = refl }
word_begins Minus rest fits = record { byte = 45; more = rest; is = refl; no_blank_first = refl }
word_begins Comma rest fits = record { byte = 44; more = rest; is = refl; no_blank_first = refl }
word_begins Open rest fits = record { byte = 40; more = rest; is = refl; no_blank_first = refl }
word_begins Close rest fits = record { byte = 41; more = rest; is = refl; no_blank_first = refl }
word_begins OpenBrace rest fits = record { byte = 123; more = rest; is = refl; no_blank_first = refl }
word_begins CloseBrace rest fits = record { byte = 125; more = rest; is = refl; no_blank_first = refl }

abbrev first_or : ℕ → List ℕ → ℕ
first_or d [] = d
first_or d (b ∷ bs) = b

abbrev tail : List ℕ → List ℕ
tail [] = []
tail (b ∷ bs) = bs

-- bytes that are a word and more begin with no blank
same_first : (w : AWord) (b : ℕ) (bs rest : List ℕ) → Fits w → b ∷ bs ≡ spelling w ++ rest → is_set_blank b ≡ false
same_first w b bs rest fits e =
    let begins = word_begins w rest fits in
    ap is_set_blank (ap (first_or b) (e ∙ begins.is)) ∙ begins.no_blank_first

-- ---- a blank first

spaced_skip : (ws : List AWord) (b : ℕ) (bs : List ℕ) → Each Fits ws → is_set_blank b ≡ true → IsSpaced ws (b ∷ bs) → IsSpaced ws bs
spaced_skip [] b bs fit h s = (and_parts _ _ s).1
spaced_skip (w ∷ ws) b bs fit h ([], rest, are, is, on) = absurd (true≢false (sym h ∙ same_first w b bs rest fit.0 is))
spaced_skip (w ∷ ws) b bs fit h (c ∷ blanks, rest, are, is, on) = (blanks, rest, (and_parts _ _ are).1, ap tail is, on)

pub spaced_more : (ws : List AWord) (b : ℕ) (bs : List ℕ) → is_set_blank b ≡ true → IsSpaced ws bs → IsSpaced ws (b ∷ bs)
spaced_more [] b bs h s = and_from _ _ h s
spaced_more (w ∷ ws) b bs h (blanks, rest, are, is, on) = (b ∷ blanks, rest, and_from _ _ h are, ap (λ xs. b ∷ xs) is, on)

pub skip_to : (s : State) (b : ℕ) (bs : List ℕ) (atoms : List Atom) → is_set_blank b ≡ true → Leads s (b ∷ bs) atoms → Leads s bs atoms
skip_to s b bs atoms h l = record { words = l.words; fit = l.fit; spaced = spaced_skip l.words b bs l.fit h l.spaced; last = l.last; runs = l.runs; ends = l.ends; atoms_are = l.atoms_are }

pub skip_back : (s : State) (b : ℕ) (bs : List ℕ) (atoms : List Atom) → is_set_blank b ≡ true → Leads s bs atoms → Leads s (b ∷ bs) atoms
skip_back s b bs atoms h l = record { words = l.words; fit = l.fit; spaced = spaced_more l.words b bs h l.spaced; last = l.last; runs = l.runs; ends = l.ends; atoms_are = l.atoms_are }

-- ---- what follows a word leaves it apart

-- before a word whose bytes fail a test, the rest fails it
before : (p : ℕ → Bool) → ((b : ℕ) → is_set_blank b ≡ true → p b ≡ false) → (w : AWord) (ws : List AWord) (rest : List ℕ) → IsSpaced (w ∷ ws) rest
    → ((more : List ℕ) → starts p (spelling w ++ more) ≡ false) → starts p rest ≡ false
before p fails w ws rest ([], more, are, is, on) h = ap (starts p) is ∙ h more
before p fails w ws rest (b ∷ blanks, more, are, is, on) h = ap (starts p) is ∙ fails b (and_parts _ _ are).0

word_blank : (b : ℕ) → is_set_blank b ≡ true → is_word b ≡ false
word_blank = blanks_fail is_word refl refl refl

digit_blank : (b : ℕ) → is_set_blank b ≡ true → is_digit b ≡ false
digit_blank = blanks_fail is_digit refl refl refl

not_yet : (t last : State) (p : Phase) → (p ≡ End → ⊥) → Some (at_phase t p) ≡ Some last → last.phase ≡ End → ⊥
not_yet t last p other e ends = other (ap (λ (s : State). s.phase) (same_Some (at_phase t p) last e) ∙ ends)

after_name : (ws : List AWord) (x : List ℕ) (t last : State) (rest : List ℕ) → run ws (at_phase t (Named x)) ≡ Some last → last.phase ≡ End → IsSpaced ws rest → starts is_word rest ≡ false
after_name [] x t last rest r e s = absurd (not_yet t last (Named x) (λ f. cc) r e)
after_name (Id y ∷ ws) x t last rest r e s = absurd (none-some last r)
after_name (Integer z ∷ ws) x t last rest r e s = absurd (none-some last r)
after_name (Text y ∷ ws) x t last rest r e s = absurd (none-some last r)
after_name (Minus ∷ ws) x t last rest r e s = absurd (none-some last r)
after_name (Comma ∷ ws) x t last rest r e s = before is_word word_blank Comma ws rest s (λ more. refl)
after_name (Open ∷ ws) x t last rest r e s = before is_word word_blank Open ws rest s (λ more. refl)
after_name (Close ∷ ws) x t last rest r e s = before is_word word_blank Close ws rest s (λ more. refl)
after_name (OpenBrace ∷ ws) x t last rest r e s = absurd (none-some last r)
after_name (CloseBrace ∷ ws) x t last rest r e s = before is_word word_blank CloseBrace ws rest s (λ more. refl)

after_whole : (ws : List AWord) (t last : State) (rest : List ℕ) → run ws (at_phase t Whole) ≡ Some last → last.phase ≡ End → IsSpaced ws rest → starts is_digit rest ≡ false
after_whole [] t last rest r e s = absurd (not_yet t last Whole (λ f. cc) r e)
after_whole (Id y ∷ ws) t last rest r e s = absurd (none-some last r)
after_whole (Integer z ∷ ws) t last rest r e s = absurd (none-some last r)
after_whole (Text y ∷ ws) t last rest r e s = absurd (none-some last r)
after_whole (Minus ∷ ws) t last rest r e s = absurd (none-some last r)
after_whole (Comma ∷ ws) t last rest r e s = before is_digit digit_blank Comma ws rest s (λ more. refl)
after_whole (Open ∷ ws) t last rest r e s = absurd (none-some last r)
after_whole (Close ∷ ws) t last rest r e s = before is_digit digit_blank Close ws rest s (λ more. refl)
after_whole (OpenBrace ∷ ws) t last rest r e s = absurd (none-some last r)
after_whole (CloseBrace ∷ ws) t last rest r e s = before is_digit digit_blank CloseBrace ws rest s (λ more. refl)

lower_no_digit : (b : ℕ) → is_lower b ≡ true → is_digit b ≡ false
lower_no_digit b h = and_right _ _ (lt-leb b 57 (omega (arith, lower_high b h)))

name_no_digit : (name more : List ℕ) → Fits (Id name) → starts is_digit (name ++ more) ≡ false
name_no_digit [] more fits = absurd fits.0
name_no_digit (b ∷ bs) more fits = lower_no_digit b fits.0.0

after_sign : (ws : List AWord) (t last : State) (rest : List ℕ) → run ws (at_phase t Signed) ≡ Some last → last.phase ≡ End → Each Fits ws → IsSpaced ws rest → starts is_digit rest ≡ false
after_sign [] t last rest r e fit s = absurd (not_yet t last Signed (λ f. cc) r e)
after_sign (Id y ∷ ws) t last rest r e fit s = before is_digit digit_blank (Id y) ws rest s (λ more. name_no_digit y more fit.0)
after_sign (Integer z ∷ ws) t last rest r e fit s = absurd (none-some last r)
after_sign (Text y ∷ ws) t last rest r e fit s = absurd (none-some last r)
after_sign (Minus ∷ ws) t last rest r e fit s = absurd (none-some last r)
after_sign (Comma ∷ ws) t last rest r e fit s = absurd (none-some last r)
after_sign (Open ∷ ws) t last rest r e fit s = absurd (none-some last r)
after_sign (Close ∷ ws) t last rest r e fit s = absurd (none-some last r)
after_sign (OpenBrace ∷ ws) t last rest r e fit s = absurd (none-some last r)
after_sign (CloseBrace ∷ ws) t last rest r e fit s = absurd (none-some last r)

name_phase : (x : List ℕ) (p : Phase) (s t : State) → on_name x p s ≡ Some t → t.phase ≡ Named x
name_phase x Start s t e = absurd (none-some t e)
name_phase x First s t e = ap (λ (u : State). u.phase) (sym (same_Some _ t e))
name_phase x Due s t e = ap (λ (u : State). u.phase) (sym (same_Some _ t e))
name_phase x Signed s t e = ap (λ (u : State). u.phase) (sym (same_Some _ t e))
name_phase x (Named y) s t e = absurd (none-some t e)
name_phase x Whole s t e = absurd (none-some t e)
name_phase x End s t e = absurd (none-some t e)

value_phase : (v : Value) (p : Phase) (calls : List Call) (s t : State) → on_value v p calls s ≡ Some t → t.phase ≡ Whole
value_phase v Start calls s t e = absurd (none-some t e)
value_phase v First calls s t e = absurd (none-some t e)
value_phase v Due [] s t e = absurd (none-some t e)
value_phase v Due (c ∷ cs) s t e = ap (λ (u : State). u.phase) (sym (same_Some _ t e))
value_phase v Signed calls s t e = absurd (none-some t e)
value_phase v (Named y) calls s t e = absurd (none-some t e)
value_phase v Whole calls s t e = absurd (none-some t e)
value_phase v End calls s t e = absurd (none-some t e)

sign_phase : (p : Phase) (calls : List Call) (s t : State) → on_minus p calls s ≡ Some t → t.phase ≡ Signed
sign_phase Start calls s t e = absurd (none-some t e)
sign_phase First [] s t e = ap (λ (u : State). u.phase) (sym (same_Some _ t e))
sign_phase First (c ∷ cs) s t e = absurd (none-some t e)
sign_phase Due [] s t e = ap (λ (u : State). u.phase) (sym (same_Some _ t e))
sign_phase Due (c ∷ cs) s t e = absurd (none-some t e)
sign_phase Signed calls s t e = absurd (none-some t e)
sign_phase (Named y) calls s t e = absurd (none-some t e)
sign_phase Whole calls s t e = absurd (none-some t e)
sign_phase End calls s t e = absurd (none-some t e)

-- the state with the phase that it has
run_at : (ws : List AWord) (t : State) (p : Phase) → t.phase ≡ p → run ws t ≡ run ws (at_phase t p)
run_at ws t p e = ap (λ q. run ws (at_phase t q)) e

-- what may come behind a word leaves it apart
apart : (w : AWord) (s t last : State) (ws : List AWord) (rest : List ℕ) → step w s ≡ Some t → run ws t ≡ Some last → last.phase ≡ End → Each Fits ws → IsSpaced ws rest → IsApart w rest
apart (Id x) s t last ws rest f r e fit sp = after_name ws x t last rest (sym (run_at ws t (Named x) (name_phase x s.phase s t f)) ∙ r) e sp
apart (Integer z) s t last ws rest f r e fit sp = after_whole ws t last rest (sym (run_at ws t Whole (value_phase _ s.phase s.calls s t f)) ∙ r) e sp
apart (Text x) s t last ws rest f r e fit sp = tt
apart Minus s t last ws rest f r e fit sp = after_sign ws t last rest (sym (run_at ws t Signed (sign_phase s.phase s.calls s t f)) ∙ r) e fit sp
apart Comma s t last ws rest f r e fit sp = tt
apart Open s t last ws rest f r e fit sp = tt
apart Close s t last ws rest f r e fit sp = tt
apart OpenBrace s t last ws rest f r e fit sp = tt
apart CloseBrace s t last ws rest f r e fit sp = tt

-- ---- a word first

-- the word with which bytes begin that lead to a set, and what comes then
pub record Begun (s : State) (bytes : List ℕ) (atoms : List Atom) : Type 0 where
  pub word : AWord
  pub fits : Fits word
  pub is_found : found bytes ≡ Word word (length (spelling word))
  pub next : State
  pub steps : step word s ≡ Some next
  pub on : Leads next (drop (length (spelling word)) bytes) atoms

drop_front : (xs ys : List ℕ) → drop (length xs) (xs ++ ys) ≡ ys
drop_front [] ys = refl
drop_front (x ∷ xs) ys = drop_front xs ys

begun_by : (s : State) (b : ℕ) (bs : List ℕ) (atoms : List Atom) → is_set_blank b ≡ false → (ws : List AWord) (last : State) → Each Fits ws → IsSpaced ws (b ∷ bs) → run ws s ≡ Some last → last.phase ≡ End → last.atoms ≡ atoms
    → Begun s (b ∷ bs) atoms
begun_by s b bs atoms h [] last fit sp r e a = absurd (true≢false (sym (and_parts _ _ sp).0 ∙ h))
begun_by s b bs atoms h (w ∷ ws) last fit (c ∷ blanks, rest, are, is, on) r e a =
    absurd (true≢false (sym (and_parts _ _ are).0 ∙ ap is_set_blank (ap (first_or c) (sym is)) ∙ h))
begun_by s b bs atoms h (w ∷ ws) last fit ([], rest, are, is, on) r e a = by_step (step w s) refl r
  where
    by_step : (o : Option State) → step w s ≡ o → on_state (run ws) o ≡ Some last → Begun s (b ∷ bs) atoms
    by_step None f g = absurd (none-some last g)
    by_step (Some t) f g = record {
      word = w;
      fits = fit.0;
      is_found = ap found is ∙ word_is_found w rest fit.0 (apart w s t last ws rest f g e fit.1 on);
      next = t;
      steps = f;
      on = record {
        words = ws;
        fit = fit.1;
        spaced = subst (IsSpaced ws) (sym (ap (drop (length (spelling w))) is ∙ drop_front (spelling w) rest)) on;
        last = last;
        runs = g;
        ends = e;
        atoms_are = a;
      };
    }

pub begun : (s : State) (b : ℕ) (bs : List ℕ) (atoms : List Atom) → is_set_blank b ≡ false → Leads s (b ∷ bs) atoms → Begun s (b ∷ bs) atoms
begun s b bs atoms h l = begun_by s b bs atoms h l.words l.last l.fit l.spaced l.runs l.ends l.atoms_are

-- where no word is found, nothing leads on
pub nothing_leads : (s : State) (b : ℕ) (bs : List ℕ) (atoms : List Atom) → is_set_blank b ≡ false → found (b ∷ bs) ≡ Nothing → Leads s (b ∷ bs) atoms → ⊥
nothing_leads s b bs atoms h none l =
    let g = begun s b bs atoms h l in
    other (sym none ∙ g.is_found)
  where
    other : {w : AWord} {n : ℕ} → Nothing ≡ Word w n → ⊥
    other e = cc

abbrev word_or : AWord → Found → AWord
word_or d (Word w n) = w
word_or d Nothing = d

abbrev length_or : Found → ℕ
length_or (Word w n) = n
length_or Nothing = 0

-- a word that is found has to come, and then its step
pub word_leads : (s : State) (b : ℕ) (bs : List ℕ) (atoms : List Atom) (w : AWord) (n : ℕ) → is_set_blank b ≡ false → found (b ∷ bs) ≡ Word w n → Leads s (b ∷ bs) atoms
    → (t : State) × (step w s ≡ Some t) × Leads t (drop n (b ∷ bs)) atoms
word_leads s b bs atoms w n h is l =
    let g = begun s b bs atoms h l in
    let same : w ≡ g.word = ap (word_or w) (sym is ∙ g.is_found) in
    let long : n ≡ length (spelling g.word) = ap length_or (sym is ∙ g.is_found) in
    (g.next, ap (λ u. step u s) same ∙ g.steps, subst (λ k. Leads g.next (drop k (b ∷ bs)) atoms) (sym long) g.on)

-- and where its step leads on, so does the word
pub word_back : (s t : State) (b : ℕ) (bs : List ℕ) (atoms : List Atom) (w : AWord) (n : ℕ) → found (b ∷ bs) ≡ Word w n → step w s ≡ Some t → Leads t (drop n (b ∷ bs)) atoms → Leads s (b ∷ bs) atoms
word_back s t b bs atoms w n is f l =
    let stands : Stands (b ∷ bs) (Word w n) = subst (Stands (b ∷ bs)) is (found_stands (b ∷ bs)) in
    record {
      words = w ∷ l.words;
      fit = (stands.0, l.fit);
      spaced = ([], drop n (b ∷ bs), refl, stands.1, l.spaced);
      last = l.last;
      runs = ap (on_state (run l.words)) f ∙ l.runs;
      ends = l.ends;
      atoms_are = l.atoms_are;
    }

-- ---- the end

pub end_leads : (s : State) (atoms : List Atom) → Leads s [] atoms → (s.phase ≡ End) × (s.atoms ≡ atoms)
end_leads s atoms l = go l.words l.fit l.spaced l.runs
  where
    go : (ws : List AWord) → Each Fits ws → IsSpaced ws [] → run ws s ≡ Some l.last → (s.phase ≡ End) × (s.atoms ≡ atoms)
    go [] fit sp r = let e = same_Some s l.last r in (ap (λ (t : State). t.phase) e ∙ l.ends, ap (λ (t : State). t.atoms) e ∙ l.atoms_are)
    go (w ∷ ws) fit ([], rest, are, is, on) r = let g = word_begins w rest fit.0 in absurd (omega (arith, ap length (is ∙ g.is)))
    go (w ∷ ws) fit (b ∷ blanks, rest, are, is, on) r = absurd (omega (arith, ap length is))

pub end_back : (s : State) → s.phase ≡ End → Leads s [] s.atoms
end_back s e = record { words = []; fit = tt; spaced = refl; last = s; runs = refl; ends = e; atoms_are = refl }

-- ---- a text is one set at most

one_leads : (n : ℕ) (bytes : List ℕ) (s : State) (xs ys : List Atom) → length bytes ≤ n → Leads s bytes xs → Leads s bytes ys → xs ≡ ys
one_leads n [] s xs ys le l m = sym (end_leads s xs l).1 ∙ (end_leads s ys m).1
one_leads zero (b ∷ bytes) s xs ys le l m = absurd (omega (arith, le))
one_leads (suc n) (b ∷ bytes) s xs ys le l m = elim (cases_Bool (is_set_blank b)) [
  | inl h ↦ one_leads n bytes s xs ys (omega (arith, le)) (skip_to s b bytes xs h l) (skip_to s b bytes ys h m)
  | inr h ↦
      let g = begun s b bytes xs h l in
      let k = word_leads s b bytes ys g.word (length (spelling g.word)) h g.is_found m in
      let same : k.0 ≡ g.next = same_Some k.0 g.next (sym k.1 ∙ g.steps) in
      let stands : Stands (b ∷ bytes) (Word g.word (length (spelling g.word))) = subst (Stands (b ∷ bytes)) g.is_found (found_stands (b ∷ bytes)) in
      one_leads n (drop (length (spelling g.word)) (b ∷ bytes)) g.next xs ys (omega (arith, le, stands.2, stands.3, ap length stands.1, length-append (spelling g.word) (drop (length (spelling g.word)) (b ∷ bytes))))
      g.on (subst (λ t. Leads t (drop (length (spelling g.word)) (b ∷ bytes)) ys) same k.2)
]

pub one_set : (bytes : List ℕ) (xs ys : List Atom) → IsSetText bytes xs → IsSetText bytes ys → xs ≡ ys
one_set bytes xs ys h k = one_leads (length bytes) bytes start xs ys (omega arith) (text_leads bytes xs h) (text_leads bytes ys k)
