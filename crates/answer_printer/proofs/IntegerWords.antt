-- Which sign and digits are the text of which integer of 64 bits.
use Rattle.std.proofs.Common.{◌≡◌, ◌≢◌, ◌⊎◌, inl, inr, refl, sym, ap, subst, ◌∙◌, ℕ, zero, suc, ℤ, pos, negsuc, ◌+◌, ◌-◌, ◌*◌, ◌^◌, ◌<◌, ◌≤◌, Bool, true, false, not, cond, ◌==◌, ◌||◌, Option, Some, None, List, [], ◌∷◌, ◌++◌, length, get_or, arith, lit<}
use Rattle.std.specs.Prelude.{nat_le}
use Rattle.std.specs.Fmt.{decimal as written}
use Rattle.std.specs.List.{list_all}
use Rattle.std.proofs.lemmas.Bool.{and_parts, and_from, and_left, and_right, and_cases, or_parts, cond-true, cond-false, cond_both, cases_Bool, leb-true, le-leb, eqb-true, eqb-false, eq-eqb, not-false, not_from_true}
use Rattle.std.proofs.lemmas.Option.{same_Some, none-some}
use Rattle.std.proofs.lemmas.Str.{digit_value_digit}
use Rattle.std.proofs.lemmas.Str.Parse.{IsNumeralModel, IsDigitsTest, numerals_by_value}
use Rattle.std.proofs.lemmas.Fmt.{digits_decimal, digits_value-decimal, decimal-digits_value, decimal_nonempty, decimal_digit, first_decimal}
use Rattle.std.specs.Str.Parse.{digits_value_after}
use Rattle.asp_syntax.specs.Bytes.{is_digit}
use Rattle.asp_syntax.specs.WellFormed.{largest}
use Rattle.asp_lexer.specs.Tokens.{decimal, value_from}
use Rattle.asp_lexer.specs.Lexemes.{fitting}
use Rattle.asp_lexer.proofs.Scans.{IsFitting, fitting_is, fitting_yes}
use Rattle.asp_meaning.specs.Lines.{natural_text, integer_text, sign_text}
use Rattle.asp_meaning.proofs.Decimals.{natural_text-decimal}
use Rattle.answer_printer.specs.Words.{IsInRange}
use Rattle.answer_printer.specs.Found.{is_needless, signed_number, integer_from, integer_of}

-- ---- digits

abbrev pub AreDigits : List ℕ → Type 0
AreDigits ds = list_all is_digit ds ≡ true

tells : IsDigitsTest AreDigits
tells = record {
  empty = refl;
  parts = λ c cs e. let k = and_parts _ _ e in let m = and_parts _ _ k.0 in ((leb-true 48 c m.0, leb-true c 57 m.1), k.1);
  more = λ c cs k e. and_from _ _ (and_from _ _ (le-leb 48 c k.0) (le-leb c 57 k.1)) e;
}

same_value : (n : ℕ) (ds : List ℕ) → AreDigits ds → value_from n ds ≡ digits_value_after 10 n ds
same_value n [] h = refl
same_value n (c ∷ cs) h =
    let p = tells.parts c cs h in
    same_value (n * 10 + (c - 48)) cs p.1 ∙ ap (λ k. digits_value_after 10 (n * 10 + k) cs) (omega (arith, digit_value_digit c p.0, p.0))

numerals : IsNumeralModel AreDigits decimal
numerals = let own = numerals_by_value AreDigits tells in
    record { to = own.to; from = own.from; same = λ ds h. same_value 0 ds (own.from ds h) }

-- what is written of a number, and back
natural : (n : ℕ) → n < 2 ^ 64 → natural_text n ≡ written n
natural n h = natural_text-decimal n (omega (arith, h, wide))
  where
    wide : 2 ^ 64 < 10 ^ 64
    wide = lit< tt

-- ---- from digits to the integer

-- digits with no needless `0` are the text of their number
text_of_digits : (negative : Bool) (ds : List ℕ) → AreDigits ds → is_needless negative ds ≡ false → decimal ds < 2 ^ 64 → natural_text (decimal ds) ≡ ds
text_of_digits negative [] h need small = absurd (cc)
text_of_digits negative (d ∷ ds) h need small = natural (decimal (d ∷ ds)) small ∙ decimal-digits_value numerals (d ∷ ds) h (omega arith) lead small
  where
    lead : d ≡ 48 → length (d ∷ ds) ≡ 1
    lead e = elim (and_cases _ _ need) [
      | inl f ↦ absurd (eqb-false d 48 f e)
      | inr f ↦ omega (arith, eqb-true (length ds) 0 (not-false _ (or_parts _ _ f).1))
    ]

-- the integer of the digits has them as its text
pub integer_read : (negative : Bool) (ds : List ℕ) (z : ℤ) → AreDigits ds → integer_of negative ds ≡ Some z → (integer_text z ≡ sign_text negative ++ ds) × IsInRange z
integer_read negative ds z h e = by_need (is_needless negative ds) refl e
  where
    Is : Type 0
    Is = (integer_text z ≡ sign_text negative ++ ds) × IsInRange z

    by_sign : (b : Bool) (n : ℕ) → n ≤ largest → natural_text n ≡ ds → signed_number b n ≡ Some z → (integer_text z ≡ sign_text b ++ ds) × IsInRange z
    by_sign false n small text f = cond_both (nat_le (suc n) largest) (Some (pos n)) None (λ o. o ≡ Some z → (integer_text z ≡ ds) × IsInRange z)
        (λ g k. subst (λ y. (integer_text y ≡ ds) × IsInRange y) (same_Some (pos n) z k) (text, below (leb-true (suc n) largest g)))
        (λ g k. absurd (none-some z k)) f
      where
        below : suc n ≤ largest → n < 2 ^ 63
        below g = omega (arith, g)
    by_sign true zero small text f = absurd (none-some z f)
    by_sign true (suc n) small text f = subst (λ y. (integer_text y ≡ 45 ∷ ds) × IsInRange y) (same_Some (negsuc n) z f) (ap (λ t. 45 ∷ t) text, omega (arith, small))

    by_number : (o : Option ℕ) → is_needless negative ds ≡ false → IsFitting (decimal ds) o → integer_from negative o ≡ Some z → Is
    by_number None need fit f = absurd (none-some z f)
    by_number (Some n) need fit f = by_sign negative n (omega (arith, fit.0, fit.1)) (ap natural_text fit.0 ∙ text_of_digits negative ds h need (omega (arith, fit.1))) f

    by_need : (b : Bool) → is_needless negative ds ≡ b → cond b None (integer_from negative (fitting (decimal ds))) ≡ Some z → Is
    by_need true need f = absurd (none-some z f)
    by_need false need f = by_number (fitting (decimal ds)) need (fitting_is (decimal ds)) f

-- ---- from the integer to its digits

-- the digits of a number, without a needless `0`
pub record AreDigitsOf (negative : Bool) (z : ℤ) (ds : List ℕ) : Type 0 where
  pub digits : AreDigits ds
  pub some : ds ≢ []
  pub text : integer_text z ≡ sign_text negative ++ ds
  pub integer : integer_of negative ds ≡ Some z

one_digit : length (written 0) ≡ 1
one_digit = ap length (decimal_digit 0 (omega arith))

either_way : (c p : Bool) → (c ≡ true → ⊥) → p ≡ true → (c || not p) ≡ false
either_way true p bad f = absurd (bad refl)
either_way false p bad f = not_from_true _ f

not_needless : (negative : Bool) (n : ℕ) → n < 2 ^ 64 → (negative ≡ true → 0 < n) → is_needless negative (written n) ≡ false
not_needless negative n small signed = go (written n) refl
  where
    single : (b : Bool) → (b ≡ true → 0 < n) → (ds : List ℕ) → written n ≡ 48 ∷ ds → (b || not (length ds == 0)) ≡ false
    single b up ds e = elim (zero_or n) [
      | inl z ↦ either_way b (length ds == 0) (λ f. omega (arith, up f, z)) (only (ap written (sym z) ∙ e))
      | inr p ↦ absurd (omega (arith, first_decimal n p small, ap (λ l. get_or l 0 0) e))
    ]
      where
        zero_or : (m : ℕ) → (m ≡ 0) ⊎ (0 < m)
        zero_or zero = inl refl
        zero_or (suc m) = inr (omega arith)

        only : written 0 ≡ 48 ∷ ds → (length ds == 0) ≡ true
        only f = eq-eqb (length ds) 0 (omega (arith, ap length f, one_digit))

    go : (ds : List ℕ) → written n ≡ ds → is_needless negative ds ≡ false
    go [] e = absurd (omega (arith, decimal_nonempty n small, ap length e))
    go (d ∷ ds) e = elim (cases_Bool (d == 48)) [
      | inl f ↦ and_right _ _ (single negative signed ds (e ∙ ap (λ x. x ∷ ds) (eqb-true d 48 f)))
      | inr f ↦ and_left _ _ f
    ]

-- the number of what is written
number_back : (n : ℕ) → n ≤ largest → fitting (decimal (written n)) ≡ Some n
number_back n small = ap fitting (digits_value-decimal numerals n (omega (arith, small))) ∙ fitting_yes n small

some_written : (n : ℕ) → n < 2 ^ 64 → written n ≢ []
some_written n small e = omega (arith, decimal_nonempty n small, ap length e)

-- an integer of 64 bits has a sign and digits
pub integer_digits : (z : ℤ) → IsInRange z → (negative : Bool) × (ds : List ℕ) × AreDigitsOf negative z ds
integer_digits (pos n) small = (
  false,
  written n,
  record {
    digits = digits_decimal numerals n (omega (arith, small));
    some = some_written n (omega (arith, small));
    text = natural n (omega (arith, small));
    integer =
        cond-false _ _ _ (not_needless false n (omega (arith, small)) (λ e. absurd (cc)))
        ∙ ap (integer_from false) (number_back n (omega (arith, small)))
        ∙ cond-true _ _ _ (le-leb (suc n) largest (omega (arith, small)));
  },
)
integer_digits (negsuc n) small = (
  true,
  written (suc n),
  record {
    digits = digits_decimal numerals (suc n) (omega (arith, small));
    some = some_written (suc n) (omega (arith, small));
    text = ap (λ t. 45 ∷ t) (natural (suc n) (omega (arith, small)));
    integer =
        cond-false _ _ _ (not_needless true (suc n) (omega (arith, small)) (λ e. omega arith))
        ∙ ap (integer_from true) (number_back (suc n) (omega (arith, small)));
  },
)
