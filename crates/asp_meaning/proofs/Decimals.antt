-- The text of an integer of at most 64 bits is what the library writes.
use Rattle.std.proofs.Common.{◌≡◌, refl, ap, subst, ℕ, zero, suc, ℤ, pos, negsuc, ◌*◌, ◌/◌, ◌%◌, ◌^◌, ◌<◌, ◌==◌, Bool, true, false, List, [], ◌∷◌, arith, lit<}
use Rattle.std.specs.Prelude.{if◌then◌else◌}
use Rattle.std.proofs.Math.Nat.{pow-suc, div-lt_iff_lt-mul}
use Rattle.std.specs.Fmt.{digits_onto, digits, decimal, signed_decimal, digit_glyph}
use Rattle.asp_meaning.specs.Lines.{natural_text, integer_text}

-- a tenth of a number has a digit less
tenth : (k n : ℕ) → n < 10 ^ suc k → n / 10 < 10 ^ k
tenth k n few =
    let below : n < 10 ^ k * 10 = subst (λ m. n < m) (pow-suc 10 k) few in
    (div-lt_iff_lt-mul (lit< tt)).1 below

-- a number other than 0 has a digit
has_digit : (k m : ℕ) → m < 10 ^ k → (m == 0) ≡ false → 0 < k
has_digit zero m few other =
    let none : m ≡ 0 = omega (arith, few) in
    let is : (m == 0) ≡ true = ap (λ n. n == 0) none in
    absurd (cc)
has_digit (suc k) m few other = omega arith

-- two counts of digits that are both enough give the same digits
enough : (k j n : ℕ) (text : List ℕ) → n < 10 ^ k → n < 10 ^ j → 0 < k → 0 < j
    → digits_onto k 10 false n text ≡ digits_onto j 10 false n text
enough zero j n text a b p q = absurd (omega (arith, p))
enough (suc k) zero n text a b p q = absurd (omega (arith, q))
enough (suc k) (suc j) n text a b p q =
    by_case (n / 10 == 0) refl (enough k j (n / 10) (digit_glyph false (n % 10) ∷ text) (tenth k n a) (tenth j n b))
  where
    by_case : (v : Bool) → (n / 10 == 0) ≡ v
        → (0 < k → 0 < j → digits_onto k 10 false (n / 10) (digit_glyph false (n % 10) ∷ text) ≡ digits_onto j 10 false (n / 10) (digit_glyph false (n % 10) ∷ text))
        → (if v then digit_glyph false (n % 10) ∷ text else digits_onto k 10 false (n / 10) (digit_glyph false (n % 10) ∷ text))
        ≡ (if v then digit_glyph false (n % 10) ∷ text else digits_onto j 10 false (n / 10) (digit_glyph false (n % 10) ∷ text))
    by_case true e same = refl
    by_case false e same = same (has_digit k (n / 10) (tenth k n a) e) (has_digit j (n / 10) (tenth j n b) e)

-- no number has more digits than it is large
few_digits : (n : ℕ) → n < 10 ^ suc n
few_digits zero = lit< tt
few_digits (suc n) = let below = few_digits n in let e = pow-suc 10 (suc n) in omega (arith, below, e)

-- the text of a number of 64 bits
pub natural_text-decimal : (n : ℕ) → n < 10 ^ 64 → natural_text n ≡ decimal n
unfolding digits
natural_text-decimal n fits = enough (suc n) 64 n [] (few_digits n) fits (omega arith) (lit< tt)

-- the text of an integer of 64 bits
pub integer_text-decimal : (z : ℤ) → ((n : ℕ) → z ≡ pos n → n < 10 ^ 64) → ((n : ℕ) → z ≡ negsuc n → suc n < 10 ^ 64)
    → integer_text z ≡ signed_decimal z
integer_text-decimal (pos n) up down = natural_text-decimal n (up n refl)
integer_text-decimal (negsuc n) up down = ap (λ text. 45 ∷ text) (natural_text-decimal (suc n) (down n refl))
