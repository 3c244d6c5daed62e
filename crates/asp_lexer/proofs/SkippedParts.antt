-- A blank or a comment is read as what it is.
use Rattle.std.proofs.Common.{Bool, cond, suc, ◌≡◌, ◌⊎◌, inl, inr, refl, sym, ap, subst, ◌∙◌, ℕ, ◌+◌, true, false, ◌||◌, ◌==◌, List, [], ◌∷◌, ◌++◌, length, arith, length-append, append_assoc}
use Rattle.std.specs.List.{list_all, prefix_len}
use Rattle.std.proofs.lemmas.Bool.{and_parts, or_cases, cond-true, cond-false, eqb-true, ne_eqb, eq-eqb, not_from_true}
use Rattle.asp_lexer.specs.declared.lexeme.Lexeme.TheVariants as lexeme
use Rattle.asp_syntax.specs.Bytes.{is_blank}
use Rattle.asp_lexer.specs.Lexing.{IsSkipped, blank, line_comment, block_comment, EndsLine, BeginsWithoutStar, IsOpen, is_in_line}
use Rattle.asp_lexer.specs.Lexemes.{first_is, lexeme_of, block_length, block_lexeme}
use Rattle.asp_lexer.proofs.Ends.{last_star, block_found}

-- the bytes before the rest are passed over
abbrev IsRead : List ℕ → List ℕ → Type 0
IsRead rest w = lexeme_of (w ++ rest) ≡ lexeme.Skipped (length w)

blank_read : (b : ℕ) (rest : List ℕ) → is_blank b ≡ true → IsRead rest (b ∷ [])
blank_read b rest h = first (or_cases _ _ h)
  where
    at : (k : ℕ) → (b == k) ≡ true → IsRead rest (k ∷ []) → IsRead rest (b ∷ [])
    at k e r = subst (λ x. IsRead rest (x ∷ [])) (sym (eqb-true b k e)) r

    third : ((b == 32) ≡ true) ⊎ ((b == 9) ≡ true) → IsRead rest (b ∷ [])
    third (inl e) = at 32 e refl
    third (inr e) = at 9 e refl

    second : (((b == 32) || (b == 9)) ≡ true) ⊎ ((b == 10) ≡ true) → IsRead rest (b ∷ [])
    second (inl e) = third (or_cases _ _ e)
    second (inr e) = at 10 e refl

    first : ((((b == 32) || (b == 9)) || (b == 10)) ≡ true) ⊎ ((b == 13) ≡ true) → IsRead rest (b ∷ [])
    first (inl e) = second (or_cases _ _ e)
    first (inr e) = at 13 e refl

-- no star stands first
no_star : (bs : List ℕ) → BeginsWithoutStar bs → first_is 42 bs ≡ false
no_star [] h = refl
no_star (b ∷ bs) h = ne_eqb b 42 h

-- a line comment is as long as there are bytes before the line feed
line_prefix : (c rest : List ℕ) → list_all is_in_line c ≡ true → EndsLine rest → prefix_len is_in_line (c ++ rest) ≡ length c
line_prefix [] [] h e = refl
line_prefix [] (b ∷ rest) h e = cond-false _ _ _ (not_from_true _ (eq-eqb b 10 e))
line_prefix (b ∷ c) rest h e =
    let parts = and_parts (is_in_line b) (list_all is_in_line c) h in
    let ih : prefix_len is_in_line (c ++ rest) ≡ length c = line_prefix c rest parts.1 e in
    one_more (prefix_len is_in_line (c ++ rest)) (length c) (is_in_line b) parts.0 ih
  where
    one_more : (m n : ℕ) (v : Bool) → v ≡ true → m ≡ n → cond v (1 + m) 0 ≡ suc n
    one_more m n v t q = cond-true v (1 + m) 0 t ∙ omega (arith, q)

line_read : (c rest : List ℕ) → BeginsWithoutStar (c ++ rest) → list_all is_in_line c ≡ true → EndsLine rest → IsRead rest (37 ∷ c)
line_read c rest star feeds ends =
    cond-false _ _ _ (no_star (c ++ rest) star) ∙ ap (λ n. lexeme.Skipped (n + 1)) (line_prefix c rest feeds ends) ∙ ap lexeme.Skipped (omega arith)

block_read : (c rest : List ℕ) → IsOpen 0 (c ++ 42 ∷ []) → IsRead rest (37 ∷ 42 ∷ (c ++ 42 ∷ 37 ∷ []))
block_read c rest open_ =
    let inside : (c ++ 42 ∷ 37 ∷ []) ++ rest ≡ (c ++ 42 ∷ []) ++ 37 ∷ rest = append_assoc c (42 ∷ 37 ∷ []) rest ∙ sym (append_assoc c (42 ∷ []) (37 ∷ rest)) in
    let found = ap (block_length 0) inside ∙ block_found 0 (c ++ 42 ∷ []) rest open_ (last_star 0 c) in
    ap block_lexeme found ∙ ap lexeme.Skipped (omega (arith, length-append c (42 ∷ []), length-append c (42 ∷ 37 ∷ [])))

-- each blank and each comment is passed over whole
pub skip_read : (w rest : List ℕ) → IsSkipped w rest → lexeme_of (w ++ rest) ≡ lexeme.Skipped (length w)
skip_read w rest (blank b h e) = subst (IsRead rest) (sym e) (blank_read b rest h)
skip_read w rest (line_comment c e star feeds ends) = subst (IsRead rest) (sym e) (line_read c rest star feeds ends)
skip_read w rest (block_comment c e open_) = subst (IsRead rest) (sym e) (block_read c rest open_)
