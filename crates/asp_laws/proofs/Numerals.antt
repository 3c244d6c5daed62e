-- The text of an integer, whatever its size, is read back as that integer: so no two integers have the same text.
use Rattle.std.proofs.Common.{◌≡◌, refl, sym, ap, subst, ◌∙◌, ℕ, zero, suc, pos, negsuc, ◌+◌, ◌-◌, ◌*◌, ◌/◌, ◌%◌, ◌<◌, ◌≤◌, ◌==◌, Bool, true, false, List, [], ◌∷◌, arith}
use Rattle.std.specs.Prelude.{if◌then◌else◌}
use Rattle.std.specs.Fmt.{digits_onto, digit_glyph}
use Rattle.std.proofs.lemmas.Bool.{eqb-true, eqb-false, lt-ltb}
use Rattle.lists.specs.Lists.{Each}
use Rattle.asp_meaning.specs.Lines.{natural_text}
use Rattle.asp_laws.specs.Laws.{IntegersOfAnySizeHaveTheirOwnText}

-- the number that decimal digits write when they follow those of n
abbrev read_after : ℕ → List ℕ → ℕ
read_after n [] = n
read_after n (c ∷ text) = read_after (n * 10 + (c - 48)) text

-- the byte of a digit
glyph_of : (d : ℕ) → d < 10 → digit_glyph false d ≡ 48 + d
glyph_of d small = ap (λ (b : Bool). if b then 48 + d else 87 + d) (lt-ltb d 10 small)

last_glyph : (n : ℕ) → digit_glyph false (n % 10) ≡ 48 + n % 10
last_glyph n = glyph_of (n % 10) (omega arith)

-- the digits of n before a text are read as n before it, where there is room for more digits than n is large
reads_back : (k n : ℕ) (text : List ℕ) → n < k → read_after 0 (digits_onto k 10 false n text) ≡ read_after n text
reads_back zero n text room = absurd (omega arith)
reads_back (suc k) n text room =
    by_case (n / 10 == 0) refl (reads_back k (n / 10) (digit_glyph false (n % 10) ∷ text))
  where
    whole : (m : ℕ) → m ≡ n / 10 → m * 10 + (digit_glyph false (n % 10) - 48) ≡ n
    whole m is = let digit = last_glyph n in omega arith

    by_case : (v : Bool) → (n / 10 == 0) ≡ v
        → (n / 10 < k → read_after 0 (digits_onto k 10 false (n / 10) (digit_glyph false (n % 10) ∷ text)) ≡ read_after (n / 10) (digit_glyph false (n % 10) ∷ text))
        → read_after 0 (if v then digit_glyph false (n % 10) ∷ text else digits_onto k 10 false (n / 10) (digit_glyph false (n % 10) ∷ text)) ≡ read_after n text
    by_case true e more = ap (λ m. read_after m text) (whole 0 (sym (eqb-true (n / 10) 0 e)))
    by_case false e more = more (omega (arith, eqb-false (n / 10) 0 e)) ∙ ap (λ m. read_after m text) (whole (n / 10) refl)

natural_read : (n : ℕ) → read_after 0 (natural_text n) ≡ n
natural_read n = reads_back (suc n) n [] (omega arith)

natural_own : (m n : ℕ) → natural_text m ≡ natural_text n → m ≡ n
natural_own m n e = sym (natural_read m) ∙ ap (read_after 0) e ∙ natural_read n

-- the byte is that of a digit
abbrev pub IsDigit : ℕ → Type 0
IsDigit c = (48 ≤ c) × (c ≤ 57)

-- each byte is that of a digit, so none is a minus sign
all_digits : (k n : ℕ) (text : List ℕ) → Each IsDigit text → Each IsDigit (digits_onto k 10 false n text)
all_digits zero n text given = given
all_digits (suc k) n text given =
    by_case (n / 10 == 0) (all_digits k (n / 10) (digit_glyph false (n % 10) ∷ text) more)
  where
    more : Each IsDigit (digit_glyph false (n % 10) ∷ text)
    more = let digit = last_glyph n in ((omega arith, omega arith), given)

    by_case : (v : Bool) → Each IsDigit (digits_onto k 10 false (n / 10) (digit_glyph false (n % 10) ∷ text))
        → Each IsDigit (if v then digit_glyph false (n % 10) ∷ text else digits_onto k 10 false (n / 10) (digit_glyph false (n % 10) ∷ text))
    by_case true longer = more
    by_case false longer = longer

pub natural_digits : (n : ℕ) → Each IsDigit (natural_text n)
natural_digits n = all_digits (suc n) n [] tt

no_minus : (n : ℕ) (text : List ℕ) → ¬ (natural_text n ≡ 45 ∷ text)
no_minus n text e = let digits = subst (Each IsDigit) e (natural_digits n) in omega (arith, digits.0)

pub integers_have_their_own_text : IntegersOfAnySizeHaveTheirOwnText
integers_have_their_own_text (pos m) (pos n) e = ap pos (natural_own m n e)
integers_have_their_own_text (pos m) (negsuc n) e = absurd (no_minus m (natural_text (suc n)) e)
integers_have_their_own_text (negsuc m) (pos n) e = absurd (no_minus n (natural_text (suc m)) (sym e))
integers_have_their_own_text (negsuc m) (negsuc n) e =
    let same = natural_own (suc m) (suc n) (ap tail e) in ap negsuc (omega arith)
  where
    tail : List ℕ → List ℕ
    tail [] = []
    tail (c ∷ text) = text
