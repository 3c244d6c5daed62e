-- The turns of the lexer's loop.
use Rattle.std.proofs.Common.{◌≡◌, ◌≢◌, refl, sym, ap, subst, ◌∙◌, ℕ, zero, suc, ◌+◌, ◌≤◌, ◌<◌, List, [], ◌∷◌, ◌++◌, length, take, drop, arith, append_assoc, append-nil, take-append-drop, length-drop, zero-add}
use Rattle.std.proofs.lemmas.List.{length-take-le, drop-drop, drop_all}
use Rattle.std.proofs.lemmas.List.Sums.{sum_by-append}
use Rattle.asp_syntax.specs.declared.token.Token.{Token}
use Rattle.asp_syntax.specs.declared.token.Spanned.{Spanned}
use Rattle.asp_lexer.specs.declared.lexeme.Lexeme.{Lexeme}
use Rattle.asp_lexer.specs.declared.lexeme.Lexeme.TheVariants as lexeme
use Rattle.asp_lexer.specs.Lexing.{spanned, line_feeds, AreTokens, IsFirstBad, IsFirstTooLarge, End, whole, bad, too_large, Reads, at_end, at_bad, at_too_large, past_skipped, past_token}
use Rattle.asp_lexer.specs.Lexemes.{lexeme_of}
use Rattle.asp_lexer.proofs.OneReading.{skip_stands, token_stands, large_stands, bad_stands}

-- the first bytes of none, and of two parts
take_none : (n : ℕ) → take n (let e : List ℕ = [] in e) ≡ []
take_none zero = refl
take_none (suc n) = refl

take-add : (m n : ℕ) (xs : List ℕ) → take (m + n) xs ≡ take m xs ++ take n (drop m xs)
take-add zero n xs = ap (λ k. take k xs) (zero-add n)
take-add (suc m) n [] = take_none (suc m + n) ∙ sym (take_none n)
take-add (suc m) n (x ∷ xs) = let e : suc m + n ≡ suc (m + n) = omega arith in ap (λ k. take k (x ∷ xs)) e ∙ ap (λ ys. x ∷ ys) (take-add m n xs)

-- where a loop has come to: what is left gives the rest of the tokens
abbrev pub Left : List ℕ → ℕ → List Spanned → Type 0
Left text at ts = (us : List Spanned) (e : End) → Reads (take at text) (drop at text) us e → Reads [] text (ts ++ us) e

module _ (text rest : List ℕ) (at n : ℕ) (r : rest ≡ drop at text) where
  -- the line feeds up to the next place
  pub feeds-add : line_feeds (take (at + n) text) ≡ line_feeds (take at text) + line_feeds (take n rest)
  feeds-add = ap line_feeds (take-add at n text) ∙ sum_by-append _ (take at text) (take n (drop at text))
      ∙ ap (λ xs. line_feeds (take at text) + line_feeds (take n xs)) (sym r)

  onward : (us : List Spanned) (e : End) → Reads (take (at + n) text) (drop (at + n) text) us e → Reads (take at text ++ take n (drop at text)) (drop n (drop at text)) us e
  onward us e h =
      subst (λ x. Reads (take at text ++ take n (drop at text)) x us e) (sym (drop-drop n at text))
      (subst (λ x. Reads x (drop (at + n) text) us e) (take-add at n text) h)

module _ (text rest : List ℕ) (at : ℕ) (f : Lexeme) (r : rest ≡ drop at text) (is : f ≡ lexeme_of rest) where
  here : lexeme_of (drop at text) ≡ f
  here = sym (is ∙ ap lexeme_of r)

  pub skip_fits : (n : ℕ) → f ≡ lexeme.Skipped n → (1 ≤ n) × (n ≤ length rest) × (at ≤ length text → at + n ≤ length text)
  skip_fits n e =
      let takes = (skip_stands (drop at text) n (here ∙ e)).1 in
      (takes.some, subst (λ xs. n ≤ length xs) (sym r) takes.within, (λ l. omega (arith, takes.within, length-drop at text)))

  pub token_fits : (t : Token) (n : ℕ) → f ≡ lexeme.Token t n → (1 ≤ n) × (n ≤ length rest) × (at ≤ length text → at + n ≤ length text)
  token_fits t n e =
      let takes = (token_stands (drop at text) t n (here ∙ e)).2 in
      (takes.some, subst (λ xs. n ≤ length xs) (sym r) takes.within, (λ l. omega (arith, takes.within, length-drop at text)))

  pub skip_turn : (n : ℕ) (ts : List Spanned) → f ≡ lexeme.Skipped n → Left text at ts → Left text (at + n) ts
  skip_turn n ts e left us end h =
      left us end (past_skipped (take at text) (drop at text) (take n (drop at text)) (drop n (drop at text)) us end
      (sym (take-append-drop n (drop at text))) (skip_stands (drop at text) n (here ∙ e)).0 (onward text rest at n r us end h))

  pub token_turn : (t : Token) (n : ℕ) (s : Spanned) (ts ts' : List Spanned) → f ≡ lexeme.Token t n → s ≡ spanned t (take at text) → ts' ≡ ts ++ s ∷ [] → Left text at ts → Left text (at + n) ts'
  token_turn t n s ts ts' e same pushed left us end h =
      let stands = token_stands (drop at text) t n (here ∙ e) in
      let read = past_token (take at text) (drop at text) (take n (drop at text)) (drop n (drop at text)) t us end
      (sym (take-append-drop n (drop at text))) stands.0 stands.1 (onward text rest at n r us end h) in
      let all : ts ++ spanned t (take at text) ∷ us ≡ ts' ++ us =
      ap (λ x. ts ++ x ∷ us) (sym same) ∙ sym (append_assoc ts (s ∷ []) us) ∙ ap (λ xs. xs ++ us) (sym pushed) in
      subst (λ xs. Reads [] text xs end) all (left (spanned t (take at text) ∷ us) end read)

  pub bad_turn : (ts : List Spanned) → f ≡ lexeme.Bad → at < length text → Left text at ts → IsFirstBad text at
  bad_turn ts e inside left =
      let some : drop at text ≢ [] = (λ z. absurd (nothing z)) in
      let read = at_bad (take at text) (drop at text) (bad_stands (drop at text) some (here ∙ e)) in
      (ts ++ [], subst (λ k. Reads [] text (ts ++ []) (bad k)) (length-take-le at text (omega arith)) (left [] (bad (length (take at text))) read))
    where
      nothing : drop at text ≡ [] → ⊥
      nothing z = let none = ap length z in omega (arith, none, length-drop at text)

  pub large_turn : (n : ℕ) (ts : List Spanned) → f ≡ lexeme.TooLarge n → at ≤ length text → Left text at ts → IsFirstTooLarge text at
  large_turn n ts e inside left =
      let stands = large_stands (drop at text) n (here ∙ e) in
      let read = at_too_large (take at text) (drop at text) (take n (drop at text)) (drop n (drop at text)) stands.0
      (sym (take-append-drop n (drop at text))) stands.1 stands.2 in
      (ts ++ [], subst (λ k. Reads [] text (ts ++ []) (too_large k)) (length-take-le at text inside) (left [] (too_large (length (take at text))) read))

-- the place and line that the code writes
pub spanned_is : (text : List ℕ) (at line : ℕ) (t : Token) → at ≤ length text → line ≡ line_feeds (take at text) + 1 → record { token = t; at = record { 0 = at }; line = line } ≡ spanned t (take at text)
spanned_is text at line t inside is =
    let here : at ≡ length (take at text) = sym (length-take-le at text inside) in
    let made : ℕ → ℕ → Spanned = λ p l. record { token = t; at = record { 0 = p }; line = l } in
    ap (λ p. made p line) here ∙ ap (made (length (take at text))) is

pub end_turn : (text : List ℕ) (at : ℕ) (ts : List Spanned) → length text ≤ at → Left text at ts → AreTokens text ts
end_turn text at ts done left =
    subst (λ xs. Reads [] text xs whole) (append-nil ts) (left [] whole (at_end (take at text) (drop at text) (drop_all at text done)))
