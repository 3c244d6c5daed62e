-- Each text is read in some way: it has tokens, or bad bytes come first, or a number that is too large.
use Rattle.std.proofs.Common.{◌≡◌, refl, sym, ℕ, zero, suc, ◌≤◌, ◌++◌, List, [], ◌∷◌, length, take, drop, arith, take-append-drop, length-drop}
use Rattle.asp_syntax.specs.declared.token.Spanned.{Spanned}
use Rattle.asp_lexer.specs.declared.lexeme.Lexeme.{Lexeme}
use Rattle.asp_lexer.specs.declared.lexeme.Lexeme.TheVariants as lexeme
use Rattle.asp_lexer.specs.Lexing.{spanned, End, whole, bad, too_large, Reads, at_end, at_bad, at_too_large, past_skipped, past_token}
use Rattle.asp_lexer.specs.Lexemes.{lexeme_of}
use Rattle.asp_lexer.proofs.OneReading.{skip_stands, token_stands, large_stands, bad_stands}

-- the bytes are read in some way
abbrev pub SomeWay : List ℕ → List ℕ → Type 0
SomeWay b bs = (ts : List Spanned) × (e : End) × Reads b bs ts e

-- one turn, where what is left after it is read in some way
step : (n : ℕ) (b : List ℕ) (x : ℕ) (xs : List ℕ) → length xs ≤ n → ((b' bs' : List ℕ) → length bs' ≤ n → SomeWay b' bs') → (f : Lexeme) → lexeme_of (x ∷ xs) ≡ f → SomeWay b (x ∷ xs)
step n b x xs l rest (lexeme.Skipped k) e =
    let bs : List ℕ = x ∷ xs in
    let stands = skip_stands bs k e in
    let some = stands.1.some in
    let more = rest (b ++ take k bs) (drop k bs) (omega (arith, l, some, length-drop k bs)) in
    (more.0, more.1, past_skipped b bs (take k bs) (drop k bs) more.0 more.1 (sym (take-append-drop k bs)) stands.0 more.2)
step n b x xs l rest (lexeme.Token t k) e =
    let bs : List ℕ = x ∷ xs in
    let stands = token_stands bs t k e in
    let some = stands.2.some in
    let more = rest (b ++ take k bs) (drop k bs) (omega (arith, l, some, length-drop k bs)) in
    (spanned t b ∷ more.0, more.1, past_token b bs (take k bs) (drop k bs) t more.0 more.1 (sym (take-append-drop k bs)) stands.0 stands.1 more.2)
step n b x xs l rest (lexeme.TooLarge k) e =
    let bs : List ℕ = x ∷ xs in
    let stands = large_stands bs k e in
    ([], too_large (length b), at_too_large b bs (take k bs) (drop k bs) stands.0 (sym (take-append-drop k bs)) stands.1 stands.2)
step n b x xs l rest lexeme.Bad e = ([], bad (length b), at_bad b (x ∷ xs) (bad_stands (x ∷ xs) some e))
  where
    some : x ∷ xs ≡ [] → ⊥
    some z = cc

-- as many turns as there are bytes
some_way : (n : ℕ) (b bs : List ℕ) → length bs ≤ n → SomeWay b bs
some_way n b [] l = ([], whole, at_end b [] refl)
some_way zero b (x ∷ xs) l = absurd (omega arith)
some_way (suc n) b (x ∷ xs) l = step n b x xs (omega arith) (λ b' bs' l'. some_way n b' bs' l') (lexeme_of (x ∷ xs)) refl

-- each text
pub each_text : (text : List ℕ) → SomeWay [] text
each_text text = some_way (length text) [] text (omega arith)
