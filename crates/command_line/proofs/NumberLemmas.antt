-- How a number is read.
use Rattle.std.proofs.Common.{◌≡◌, ◌<◌, ◌≤◌, ◌^◌, ◌&&◌, ℕ, Bool, true, false, refl, sym, ap, subst, arith, List, [], ◌∷◌, length, Some, None, Result, Ok, Err, true≢false, nat_lt, lt-ltb, ltb-true}
use Rattle.std.specs.Prelude.{slice_index, ◌==◌, not, nat_le}
use Rattle.std.specs.List.{list_all}
use Rattle.std.specs.Char.{digit_value}
use Rattle.std.specs.Str.Parse.{ParsesUnsigned, IsNumeral, AllDigits, digits_value, without_leading_plus}
use Rattle.std.proofs.lemmas.Result.{OkIff-at_ok}
use Rattle.std.proofs.lemmas.Bool.{leb-true, le-leb, ne_eqb}
use Rattle.command_line.specs.Numbers.{is_digit, has_number_form, most_number, number_of}

-- where no plus stands first, nothing is left out
unsigned : (text : List ℕ) → ¬ (slice_index text 0 ≡ 43) → without_leading_plus text ≡ text
unsigned text h = rw (ne_eqb (slice_index text 0) 43 h) refl

-- digits pass the test
digits_pass : (ds : List ℕ) → AllDigits 10 ds → list_all is_digit ds ≡ true
digits_pass [] h = refl
digits_pass (d ∷ ds) h = rw (lt-ltb (digit_value d) 10 h.0) (digits_pass ds h.1)

-- both of two tests hold
both : (a b : Bool) → (a && b) ≡ true → (a ≡ true) × (b ≡ true)
both true b e = (refl, e)
both false b e = absurd (true≢false (sym e))

-- and what passes it are digits
digits_from : (ds : List ℕ) → list_all is_digit ds ≡ true → AllDigits 10 ds
digits_from [] e = tt
digits_from (d ∷ ds) e =
    let parts = both _ _ e in
    (ltb-true _ _ parts.0, digits_from ds parts.1)

-- a number that is small enough is the text's
pub number_read : {E : Type 0} (text : List ℕ) (n : ℕ) (r : Result ℕ E) → r ≡ Ok n → ParsesUnsigned 64 10 text r
    → ¬ (slice_index text 0 ≡ 48)
    → ¬ (slice_index text 0 ≡ 43) → length text ≤ 13 → n ≤ most_number → Some n ≡ number_of text
number_read text n r is h not_zero not_plus few small =
    let parts = OkIff-at_ok r (IsNumeral 10 (without_leading_plus text) × (digits_value 10 (without_leading_plus text) < 2 ^ 64))
    (digits_value 10 (without_leading_plus text)) n h is in
    let v = subst (λ (ds : List ℕ). (IsNumeral 10 ds × (digits_value 10 ds < 2 ^ 64)) × (n ≡ digits_value 10 ds)) (unsigned text not_plus)
    parts in
    let at_most : digits_value 10 text ≤ most_number = subst (λ (k : ℕ). k ≤ most_number) v.1 small in
    rw (
      lt-ltb 0 (length text) v.0.0.0,
      le-leb (length text) 13 few,
      ne_eqb (slice_index text 0) 48 not_zero,
      digits_pass text v.0.0.1,
      le-leb (digits_value 10 text) most_number at_most,
    ) (ap Some v.1)

-- a text that is no numeral has no number
pub number_refused : {E : Type 0} (text : List ℕ) (e : E) → ParsesUnsigned 64 10 text (Err e) → ¬ (slice_index text 0 ≡ 43)
    → None ≡ number_of text
number_refused text e h not_plus = go (has_number_form text && nat_le (digits_value 10 text) most_number) refl
  where
    go : (b : Bool) → (has_number_form text && nat_le (digits_value 10 text) most_number) ≡ b → None ≡ number_of text
    go false t = rw t refl
    go true t =
        let outer = both (has_number_form text) _ t in
        let form = both (nat_lt 0 (length text)) _ outer.0 in
        let rest = both (not (slice_index text 0 == 48)) (list_all is_digit text) (both (nat_le (length text) 13) _ form.1).1 in
        let small : digits_value 10 text ≤ most_number = leb-true _ _ outer.1 in
        let fits : digits_value 10 text < 2 ^ 64 = omega arith in
        let g = subst (λ (ds : List ℕ). ¬ (IsNumeral 10 ds × (digits_value 10 ds < 2 ^ 64))) (unsigned text not_plus) h in
        absurd (g ((ltb-true _ _ form.0, digits_from text rest.1), fits))
