-- Where names, integers and texts end: before what is apart from them, they are told by the bytes.
use Rattle.std.proofs.Common.{◌≡◌, ◌≢◌, inl, inr, refl, sym, ap, subst, ℕ, suc, ℤ, pos, negsuc, ◌≤◌, ◌<◌, true, ◌||◌, ◌==◌, List, [], ◌∷◌, ◌++◌, arith}
use Rattle.std.specs.Prelude.{nat_le}
use Rattle.std.specs.List.{list_all}
use Rattle.std.proofs.lemmas.Bool.{and_parts, or_cases, leb-true, eqb-true}
use Rattle.lists.specs.Lists.{Each}
use Rattle.lists.proofs.ListLemmas.{Each-map}
use Rattle.asp_syntax.specs.Bytes.{is_lower, is_upper, is_digit, is_word}
use Rattle.asp_syntax.specs.WellFormed.{IsId, IsInside}
use Rattle.asp_meaning.specs.Lines.{natural_text, integer_text}
use Rattle.asp_laws.proofs.Numerals.{IsDigit, natural_digits}

-- ---- bytes

-- the first byte, or 0
abbrev pub first : List ℕ → ℕ
first [] = 0
first (b ∷ bytes) = b

-- what comes after the first byte
pub rest_same : (a b : ℕ) (xs ys : List ℕ) → (a ∷ xs) ≡ (b ∷ ys) → xs ≡ ys
rest_same a b xs ys e = cc

-- the byte may stand in a name or in an integer
abbrev pub IsPart : ℕ → Type 0
IsPart b = (45 ≤ b) × (b ≤ 122)

-- no byte of a name or an integer comes first
abbrev pub IsApart : List ℕ → Type 0
IsApart r = 45 ≤ first r → 122 < first r

-- names or integers before what is apart from them are the same, and so is what follows
pub split : (x y r s : List ℕ) → Each IsPart x → Each IsPart y → IsApart r → IsApart s → (x ++ r) ≡ (y ++ s) → (x ≡ y) × (r ≡ s)
split [] [] r s p q u v e = (refl, e)
split [] (b ∷ y) r s p q u v e = let same : first r ≡ b = ap first e in let part = q.0 in absurd (omega arith)
split (a ∷ x) [] r s p q u v e = let same : a ≡ first s = ap first e in let part = p.0 in absurd (omega arith)
split (a ∷ x) (b ∷ y) r s p q u v e =
    let same : a ≡ b = ap first e in
    let more = split x y r s p.1 q.1 u v (rest_same a b (x ++ r) (y ++ s) e) in
    ((λ i. same i ∷ more.0 i), more.1)

-- what may end the text of a value: a parenthesis that closes, a comma or a brace
pub record Ends (r : List ℕ) : Type 0 where
  pub apart : IsApart r
  pub no_arguments : first r ≢ 40
  pub no_text : first r ≢ 34

-- a parenthesis that closes, a comma and a brace do so
pub at_close : (r : List ℕ) → Ends (41 ∷ r)
at_close r = record { apart = λ k. omega arith; no_arguments = λ e. omega arith; no_text = λ e. omega arith }

pub at_comma : (r : List ℕ) → Ends (44 ∷ r)
at_comma r = record { apart = λ k. omega arith; no_arguments = λ e. omega arith; no_text = λ e. omega arith }

pub at_brace : (r : List ℕ) → Ends (125 ∷ r)
at_brace r = record { apart = λ k. omega arith; no_arguments = λ e. omega arith; no_text = λ e. omega arith }

-- ---- names

-- the codes of lower-case letters
lower_range : (b : ℕ) → is_lower b ≡ true → (97 ≤ b) × (b ≤ 122)
lower_range b h = let k = and_parts (nat_le 97 b) (nat_le b 122) h in (leb-true 97 b k.0, leb-true b 122 k.1)

-- letters, digits and `_` are bytes of a name
word_part : (b : ℕ) → is_word b ≡ true → IsPart b
word_part b h = elim (or_cases ((is_lower b || is_upper b) || is_digit b) (b == 95) h) [
  | inl k ↦ elim (or_cases (is_lower b || is_upper b) (is_digit b) k) [
    | inl l ↦ elim (or_cases (is_lower b) (is_upper b) l) [
      | inl m ↦ let range = lower_range b m in (omega arith, omega arith)
      | inr m ↦ let k = and_parts (nat_le 65 b) (nat_le b 90) m in let low = leb-true 65 b k.0 in let high = leb-true b 90 k.1 in (omega arith, omega arith)
    ]
    | inr l ↦ let k = and_parts (nat_le 48 b) (nat_le b 57) l in let low = leb-true 48 b k.0 in let high = leb-true b 57 k.1 in (omega arith, omega arith)
  ]
  | inr k ↦ let is = eqb-true b 95 k in (omega arith, omega arith)
]

-- so a name's later bytes are such
word_parts : (bytes : List ℕ) → list_all is_word bytes ≡ true → Each IsPart bytes
word_parts [] h = tt
word_parts (b ∷ more) h = let k = and_parts (is_word b) (list_all is_word more) h in (word_part b k.0, word_parts more k.1)

-- an ID has only bytes of a name
pub id_parts : (f : List ℕ) → IsId f → Each IsPart f
id_parts [] h = absurd h.0
id_parts (b ∷ more) h = let range = lower_range b h.0.0 in ((omega arith, range.1), word_parts more h.0.1)

-- a name begins with a letter
pub id_first : (f t : List ℕ) → IsId f → (97 ≤ first (f ++ t)) × (first (f ++ t) ≤ 122)
id_first [] t h = absurd h.0
id_first (b ∷ more) t h = lower_range b h.0.0

-- ---- integers

-- a digit or a minus sign
abbrev IsSignOrDigit : ℕ → Type 0
IsSignOrDigit c = (45 ≤ c) × (c ≤ 57)

-- a natural number has only digits
natural_range : (n : ℕ) → Each IsSignOrDigit (natural_text n)
natural_range n = Each-map IsDigit IsSignOrDigit (λ c d. (omega arith, d.1)) (natural_text n) (natural_digits n)

-- an integer has digits, and a minus sign where it is negative
integer_range : (z : ℤ) → Each IsSignOrDigit (integer_text z)
integer_range (pos n) = natural_range n
integer_range (negsuc n) = ((omega arith, omega arith), natural_range (suc n))

-- an integer has only bytes of a name or an integer
pub integer_parts : (z : ℤ) → Each IsPart (integer_text z)
integer_parts z = Each-map IsSignOrDigit IsPart (λ c d. (d.0, omega arith)) (integer_text z) (integer_range z)

-- no integer is a name
pub no_name : {A : Type 0} (z : ℤ) (f : List ℕ) → IsId f → integer_text z ≡ f → A
no_name z [] h e = absurd h.0
no_name z (b ∷ more) h e =
    let range = subst (Each IsSignOrDigit) e (integer_range z) in
    let low = (lower_range b h.0.0).0 in
    let high = range.0.1 in
    absurd (omega arith)

-- ---- texts

-- the first quote that is not directly after a backslash ends a text
pub closes : (p : ℕ) (x y r s : List ℕ) → IsInside p x → IsInside p y → (x ++ 34 ∷ r) ≡ (y ++ 34 ∷ s) → (x ≡ y) × (r ≡ s)
closes p [] [] r s h k e = (refl, rest_same 34 34 r s e)
closes p [] (b ∷ y) r s h k e = absurd (h (k.1 (sym (ap first e))))
closes p (a ∷ x) [] r s h k e = absurd (k (h.1 (ap first e)))
closes p (a ∷ x) (b ∷ y) r s h k e =
    let same : a ≡ b = ap first e in
    let more = closes b x y r s (subst (λ c. IsInside c x) same h.2) k.2 (rest_same a b (x ++ 34 ∷ r) (y ++ 34 ∷ s) e) in
    ((λ i. same i ∷ more.0 i), more.1)
