-- Strings and block comments end where they are found to end.
use Rattle.std.proofs.Common.{◌≡◌, ◌≢◌, refl, sym, ap, subst, ◌∙◌, ℕ, suc, ◌<◌, ◌≤◌, true, false, cond, not, ◌==◌, ◌⊎◌, inl, inr, Option, Some, None, List, [], ◌∷◌, ◌++◌, length, take, arith}
use Rattle.std.specs.Option.{option_map}
use Rattle.std.proofs.lemmas.Bool.{and_parts, and_left, and_right, and_cases, cond-true, cond-false, cond_both, cases_Bool, eqb-true, eq-eqb, ne_eqb, eqb-false, not_from_true, not_from_false, not-true, not-false}
use Rattle.asp_syntax.specs.WellFormed.{IsInside}
use Rattle.asp_lexer.specs.Lexing.{IsOpen}
use Rattle.asp_lexer.specs.Lexemes.{is_closing, closing_quote, is_block_end, block_length}

-- no quote that closes: a byte of an inside
no_closing : (p b : ℕ) → (b ≡ 34 → p ≡ 92) → is_closing p b ≡ false
no_closing p b h = go (cases_Bool (b == 34))
  where
    go : ((b == 34) ≡ true) ⊎ ((b == 34) ≡ false) → is_closing p b ≡ false
    go (inl e) = and_right _ _ (not_from_true _ (eq-eqb p 92 (h (eqb-true b 34 e))))
    go (inr e) = and_left _ _ e

-- the quote behind an inside is found
pub string_found : (p : ℕ) (s r : List ℕ) → IsInside p s → closing_quote p (s ++ 34 ∷ r) ≡ Some (length s)
string_found p [] r h = cond-true _ _ _ (not_from_false _ (ne_eqb p 92 h))
string_found p (b ∷ s) r h =
    cond-false _ _ _ (ne_eqb b 10 h.0) ∙ cond-false _ _ _ (no_closing p b h.1) ∙ ap (option_map suc) (string_found b s r h.2)

-- what is known of where a string was found to end
abbrev pub StringEnds : ℕ → List ℕ → Option ℕ → Type 0
StringEnds p bs None = Unit {0}
StringEnds p bs (Some k) = IsInside p (take k bs) × (take (suc k) bs ≡ take k bs ++ 34 ∷ []) × (k < length bs)

-- one byte more before the end
more : (p b : ℕ) (bs : List ℕ) (o : Option ℕ) → (b ≢ 10) → (b ≡ 34 → p ≡ 92) → StringEnds b bs o → StringEnds p (b ∷ bs) (option_map suc o)
more p b bs None f q h = tt
more p b bs (Some k) f q h = ((f, q, h.0), ap (λ xs. b ∷ xs) h.1, omega (arith, h.2))

-- a quote that ends nothing is directly after a backslash
quote_only : (p b : ℕ) → is_closing p b ≡ false → b ≡ 34 → p ≡ 92
quote_only p b h e = go (and_cases _ _ h)
  where
    go : ((b == 34) ≡ false) ⊎ (not (p == 92) ≡ false) → p ≡ 92
    go (inl f) = absurd (eqb-false b 34 f e)
    go (inr f) = eqb-true p 92 (not-false _ f)

-- the end is here
here : (p b : ℕ) (bs : List ℕ) → is_closing p b ≡ true → StringEnds p (b ∷ bs) (Some 0)
here p b bs h =
    let parts = and_parts _ _ h in
    (eqb-false p 92 (not-true _ parts.1), ap (λ x. x ∷ []) (eqb-true b 34 parts.0), omega arith)

-- where a string is found to end, it ends
pub string_ends : (p : ℕ) (bs : List ℕ) → StringEnds p bs (closing_quote p bs)
string_ends p [] = tt
string_ends p (b ∷ bs) =
    let ih = string_ends b bs in
    cond_both (b == 10) None (cond (is_closing p b) (Some 0) (option_map suc (closing_quote b bs))) (StringEnds p (b ∷ bs)) (λ e. tt)
    (λ f. cond_both (is_closing p b) (Some 0) (option_map suc (closing_quote b bs)) (StringEnds p (b ∷ bs)) (λ e. here p b bs e)
    (λ e. more p b bs (closing_quote b bs) (eqb-false b 10 f) (quote_only p b e) ih))

-- ---- block comments

-- the last byte, or the one before where there is none
abbrev pub last : ℕ → List ℕ → ℕ
last p [] = p
last p (b ∷ bs) = last b bs

-- no `*%`: two bytes of an open comment
no_block_end : (p b : ℕ) → (p ≡ 42 → b ≢ 37) → is_block_end p b ≡ false
no_block_end p b h = go (cases_Bool (p == 42))
  where
    go : ((p == 42) ≡ true) ⊎ ((p == 42) ≡ false) → is_block_end p b ≡ false
    go (inl e) = and_right _ _ (ne_eqb b 37 (h (eqb-true p 42 e)))
    go (inr e) = and_left _ _ e

-- the `*%` behind an open comment is found
pub block_found : (p : ℕ) (d r : List ℕ) → IsOpen p d → last p d ≡ 42 → block_length p (d ++ 37 ∷ r) ≡ Some (suc (length d))
block_found p [] r h e = subst (λ q. block_length q (37 ∷ r) ≡ Some 1) (sym e) refl
block_found p (b ∷ d) r h e = cond-false _ _ _ (no_block_end p b h.0) ∙ ap (option_map suc) (block_found b d r h.1 e)

-- what is known of where a block comment was found to end
abbrev pub BlockEnds : ℕ → List ℕ → Option ℕ → Type 0
BlockEnds p bs None = Unit {0}
BlockEnds p bs (Some k) = (d : List ℕ) × (take k bs ≡ d ++ 37 ∷ []) × IsOpen p d × (last p d ≡ 42) × (k ≤ length bs)

-- one byte more before the end
block_more : (p b : ℕ) (bs : List ℕ) (o : Option ℕ) → (p ≡ 42 → b ≢ 37) → BlockEnds b bs o → BlockEnds p (b ∷ bs) (option_map suc o)
block_more p b bs None f h = tt
block_more p b bs (Some k) f h = (b ∷ h.0, ap (λ xs. b ∷ xs) h.1, (f, h.2), h.3, omega (arith, h.4))

-- the end is here
block_here : (p b : ℕ) (bs : List ℕ) → is_block_end p b ≡ true → BlockEnds p (b ∷ bs) (Some 1)
block_here p b bs h =
    let parts = and_parts _ _ h in
    ([], ap (λ x. x ∷ []) (eqb-true b 37 parts.1), tt, eqb-true p 42 parts.0, omega arith)

-- two bytes that are no `*%`
not_both : (p b : ℕ) → is_block_end p b ≡ false → p ≡ 42 → b ≢ 37
not_both p b h e f = go (and_cases _ _ h)
  where
    go : ((p == 42) ≡ false) ⊎ ((b == 37) ≡ false) → ⊥
    go (inl x) = eqb-false p 42 x e
    go (inr x) = eqb-false b 37 x f

-- where a block comment is found to end, it ends
pub block_ends : (p : ℕ) (bs : List ℕ) → BlockEnds p bs (block_length p bs)
block_ends p [] = tt
block_ends p (b ∷ bs) =
    let ih = block_ends b bs in
    cond_both (is_block_end p b) (Some 1) (option_map suc (block_length b bs)) (BlockEnds p (b ∷ bs)) (λ e. block_here p b bs e)
    (λ e. block_more p b bs (block_length b bs) (not_both p b e) ih)

-- bytes whose last is `*`
ends_any : (b : ℕ) (d : List ℕ) → last b d ≡ 42 → (c : List ℕ) × (b ∷ d ≡ c ++ 42 ∷ [])
ends_any b [] e = ([], ap (λ x. x ∷ []) e)
ends_any b (b' ∷ d) e = let h = ends_any b' d e in (b ∷ h.0, ap (λ xs. b ∷ xs) h.1)

-- the star of `*%` stands among the bytes behind `%*`
pub ends_in : (p : ℕ) (d : List ℕ) → last p d ≡ 42 → p ≢ 42 → (c : List ℕ) × (d ≡ c ++ 42 ∷ [])
ends_in p [] e n = absurd (n e)
ends_in p (b ∷ d) e n = ends_any b d e

-- the last byte of bytes that end with a star
pub last_star : (p : ℕ) (c : List ℕ) → last p (c ++ 42 ∷ []) ≡ 42
last_star p [] = refl
last_star p (b ∷ c) = last_star b c
