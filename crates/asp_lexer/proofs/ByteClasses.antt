-- Classes of bytes exclude one another.
use Rattle.std.proofs.Common.{◌≡◌, ◌≢◌, ◌∙◌, ℕ, ◌≤◌, ◌<◌, true, false, List, ◌∷◌, arith}
use Rattle.std.proofs.lemmas.Bool.{and_parts, and_left, or_left, or_right, cond-true, cond-false, leb-true, lt-leb, ne_eqb}
use Rattle.std.specs.List.{take_while}
use Rattle.asp_syntax.specs.Bytes.{is_lower, is_upper, is_digit, is_word}
use Rattle.asp_lexer.specs.Lexemes.{lexeme_of, word_lexeme, variable_lexeme, numeral_lexeme}

-- where upper-case letters and digits stand among the bytes
pub upper_bounds : (b : ℕ) → is_upper b ≡ true → (65 ≤ b) × (b ≤ 90)
upper_bounds b h = let parts = and_parts _ _ h in (leb-true 65 b parts.0, leb-true b 90 parts.1)

pub digit_bounds : (b : ℕ) → is_digit b ≡ true → (48 ≤ b) × (b ≤ 57)
digit_bounds b h = let parts = and_parts _ _ h in (leb-true 48 b parts.0, leb-true b 57 parts.1)

-- what is below a class is not in it
pub not_lower : (b : ℕ) → b < 97 → is_lower b ≡ false
not_lower b h = and_left _ _ (lt-leb 97 b h)

pub not_upper : (b : ℕ) → b < 65 → is_upper b ≡ false
not_upper b h = and_left _ _ (lt-leb 65 b h)

-- letters go on in a name
pub lower_is_word : (b : ℕ) → is_lower b ≡ true → is_word b ≡ true
lower_is_word b h = or_left _ _ (or_left _ _ (or_left _ _ h))

pub upper_is_word : (b : ℕ) → is_upper b ≡ true → is_word b ≡ true
upper_is_word b h = or_left _ _ (or_left _ _ (or_right _ _ h))

-- which kind of thing a first byte begins
pub lexeme_of-lower : (b : ℕ) (bs : List ℕ) → is_lower b ≡ true → lexeme_of (b ∷ bs) ≡ word_lexeme (take_while is_word (b ∷ bs))
lexeme_of-lower b bs h = cond-true _ _ _ h

pub lexeme_of-upper : (b : ℕ) (bs : List ℕ) → is_upper b ≡ true → lexeme_of (b ∷ bs) ≡ variable_lexeme (take_while is_word (b ∷ bs))
lexeme_of-upper b bs h =
    let bounds = upper_bounds b h in
    cond-false _ _ _ (not_lower b (omega (arith, bounds.1))) ∙ cond-true _ _ _ h

pub lexeme_of-digit : (b : ℕ) (bs : List ℕ) → is_digit b ≡ true → b ≢ 48 → lexeme_of (b ∷ bs) ≡ numeral_lexeme (take_while is_digit (b ∷ bs))
lexeme_of-digit b bs h n =
    let bounds = digit_bounds b h in
    cond-false _ _ _ (not_lower b (omega (arith, bounds.1))) ∙ cond-false _ _ _ (not_upper b (omega (arith, bounds.1))) ∙ cond-false _ _ _ (ne_eqb b 48 n) ∙ cond-true _ _ _ h
