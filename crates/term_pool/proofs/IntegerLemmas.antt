-- The text that the library writes of an integer of 64 bits.
use Rattle.std.proofs.Common.{◌≡◌, ℤ, pos, negsuc, ◌^◌, ◌<◌, FitsSigned, w64, to_z, of_z, sym, ap, ◌∙◌, arith, lit<}
use Rattle.std.proofs.lemmas.Int.{to_z-of_z}
use lib.Signed.{mag}
use Rattle.std.specs.Fmt.{signed_decimal}
use Rattle.asp_meaning.specs.Lines.{integer_text}
use Rattle.asp_meaning.proofs.Decimals.{integer_text-decimal}

wide : 2 ^ 63 < 10 ^ 64
wide = lit< tt

-- it has few enough digits
within : (z : ℤ) → FitsSigned w64 z → integer_text z ≡ signed_decimal z
within (pos n) fits = integer_text-decimal (pos n) (λ m e. omega (arith, ap mag e, fits.sfits, wide)) (λ m e. absurd (cc))
within (negsuc n) fits = integer_text-decimal (negsuc n) (λ m e. absurd (cc)) (λ m e. omega (arith, ap mag e, fits.sfits, wide))

-- what is written is the text
pub integer_written : (z : ℤ) → FitsSigned w64 z → signed_decimal (to_z w64 (of_z w64 z)) ≡ integer_text z
integer_written z fits = ap signed_decimal (to_z-of_z w64 z fits) ∙ sym (within z fits)
