-- The bytes of a token, with nothing behind them, are read as that token.
use Rattle.std.proofs.Common.{◌≡◌, ◌≢◌, inl, inr, refl, sym, ap, subst, ◌∙◌, ℕ, ◌+◌, false, ◌==◌, List, [], ◌∷◌, ◌++◌, length, arith, length-append}
use Rattle.std.specs.Prelude.{codes}
use Rattle.std.specs.Str.{bytes_eq}
use Rattle.std.proofs.lemmas.Bool.{and_from, cond-false, false_from_ne_true, ne_eqb}
use Rattle.std.proofs.lemmas.Slice.Eq.{bytes_eq-Decides}
use Rattle.std.proofs.lemmas.List.{take_at}
use Rattle.asp_syntax.specs.declared.tree.CompareOp.{CompareOp}
use Rattle.asp_syntax.specs.declared.tree.CompareOp.TheVariants.{Equal, NotEqual, Less, LessEqual, Greater, GreaterEqual}
use Rattle.asp_syntax.specs.declared.token.Token.{Token}
use Rattle.asp_syntax.specs.declared.token.Token.TheVariants as token
use Rattle.asp_lexer.specs.declared.lexeme.Lexeme.{Lexeme}
use Rattle.asp_lexer.specs.declared.lexeme.Lexeme.TheVariants as lexeme
use Rattle.asp_syntax.specs.Bytes.{is_lower, is_upper, is_letter, is_digit, is_word}
use Rattle.asp_syntax.specs.WellFormed.{IsName, IsInside}
use Rattle.asp_lexer.specs.Tokens.{IsNumeral, decimal, IsHashWord, IsOtherHashWord, SpellsCompare, Spells}
use Rattle.asp_lexer.specs.Lexemes.{lexeme_of, word_lexeme, variable_lexeme, numeral_lexeme, number_lexeme, fitting, text_lexeme, hash_lexeme}
use Rattle.asp_lexer.proofs.Runs.{run_all}
use Rattle.asp_lexer.proofs.ByteClasses.{lower_is_word, upper_is_word, lexeme_of-lower, lexeme_of-upper, lexeme_of-digit}
use Rattle.asp_lexer.proofs.Ends.{string_found}

-- a token as it is answered
abbrev pub lexeme_for : Token → ℕ → Lexeme
lexeme_for (token.Number v) n = number_lexeme n (fitting v)
lexeme_for t n = lexeme.Token t n

-- the bytes, with nothing behind them, are read as the token
abbrev pub IsAlone : Token → List ℕ → Type 0
IsAlone t v = lexeme_of v ≡ lexeme_for t (length v)

at : (t : Token) (w v : List ℕ) → w ≡ v → IsAlone t v → IsAlone t w
at t w v e h = subst (IsAlone t) (sym e) h

-- bytes that differ fail the test
not_same : (w v : List ℕ) → w ≢ v → bytes_eq w v ≡ false
not_same w v h = false_from_ne_true _ (λ e. h ((bytes_eq-Decides w v).0 e))

alone_id : (n w : List ℕ) → n ≡ w → IsName is_lower w → w ≢ codes "not" → IsAlone (token.Id n) w
alone_id n [] e h k = absurd h
alone_id n (b ∷ more) e h k =
    let whole = run_all is_word (b ∷ more) (and_from _ _ (lower_is_word b h.0) h.1) in
    lexeme_of-lower b more h.0 ∙ ap word_lexeme whole ∙ cond-false _ _ _ (not_same (b ∷ more) (codes "not") k)
    ∙ ap (λ m. lexeme.Token (token.Id m) (length (b ∷ more))) (sym e)

alone_variable : (n w : List ℕ) → n ≡ w → IsName is_upper w → IsAlone (token.Variable n) w
alone_variable n [] e h = absurd h
alone_variable n (b ∷ more) e h =
    let whole = run_all is_word (b ∷ more) (and_from _ _ (upper_is_word b h.0) h.1) in
    lexeme_of-upper b more h.0 ∙ ap variable_lexeme whole ∙ ap (λ m. lexeme.Token (token.Variable m) (length (b ∷ more))) (sym e)

alone_number : (n : ℕ) (w : List ℕ) → n ≡ decimal w → IsNumeral w → IsAlone (token.Number n) w
alone_number n [] e h = absurd h
alone_number n (b ∷ more) e (inl z) =
    let P : List ℕ → Type 0 = λ w. lexeme_of w ≡ number_lexeme (length w) (fitting (decimal w)) in
    let zero_ : b ∷ more ≡ 48 ∷ [] = ap (λ x. x ∷ more) z.0 ∙ ap (λ xs. 48 ∷ xs) z.1 in
    let shown_zero : P (48 ∷ []) = refl in
    subst P (sym zero_) shown_zero ∙ ap (λ m. number_lexeme (length (b ∷ more)) (fitting m)) (sym e)
alone_number n (b ∷ more) e (inr d) =
    let whole = run_all is_digit (b ∷ more) (and_from _ _ d.0 d.2) in
    lexeme_of-digit b more d.0 d.1 ∙ ap numeral_lexeme whole ∙ ap (λ m. number_lexeme (length (b ∷ more)) (fitting m)) (sym e)

alone_text : (s w : List ℕ) → w ≡ 34 ∷ (s ++ 34 ∷ []) → IsInside 34 s → IsAlone (token.Text s) w
alone_text s w e h = at (token.Text s) w (34 ∷ (s ++ 34 ∷ [])) e
    (ap (text_lexeme (s ++ 34 ∷ [])) (string_found 34 s [] h)
    ∙ ap (λ i. lexeme.Token (token.Text i) (length s + 2)) (take_at s (34 ∷ []) (length s) refl)
    ∙ ap (lexeme.Token (token.Text s)) (omega (arith, length-append s (34 ∷ []))))

alone_compare : (op : CompareOp) (w : List ℕ) → SpellsCompare op w → IsAlone (token.Compare op) w
alone_compare Equal w e = at (token.Compare Equal) w (codes "=") e refl
alone_compare NotEqual w (inl e) = at (token.Compare NotEqual) w (codes "!=") e refl
alone_compare NotEqual w (inr e) = at (token.Compare NotEqual) w (codes "<>") e refl
alone_compare Less w e = at (token.Compare Less) w (codes "<") e refl
alone_compare LessEqual w e = at (token.Compare LessEqual) w (codes "<=") e refl
alone_compare Greater w e = at (token.Compare Greater) w (codes ">") e refl
alone_compare GreaterEqual w e = at (token.Compare GreaterEqual) w (codes ">=") e refl

alone_directive : (w : List ℕ) → IsHashWord w → IsOtherHashWord w → IsAlone token.Directive w
alone_directive [] i h = absurd i
alone_directive (b ∷ more) i h = at token.Directive (b ∷ more) (35 ∷ more) (ap (λ x. x ∷ more) i.0)
    (ap hash_lexeme (run_all is_letter more i.2)
    ∙ cond-false _ _ _ (some more i.1)
    ∙ cond-false _ _ _ (not_same more (codes "count") (λ e. h.not_count (same e)))
    ∙ cond-false _ _ _ (not_same more (codes "sum") (λ e. h.not_sum (same e)))
    ∙ cond-false _ _ _ (not_same more (codes "min") (λ e. h.not_min (same e)))
    ∙ cond-false _ _ _ (not_same more (codes "max") (λ e. h.not_max (same e)))
    ∙ ap (lexeme.Token token.Directive) (omega arith))
  where
    same : {v : List ℕ} → more ≡ v → b ∷ more ≡ 35 ∷ v
    same e = ap (λ x. x ∷ more) i.0 ∙ ap (λ xs. 35 ∷ xs) e

    some : (xs : List ℕ) → xs ≢ [] → (length xs == 0) ≡ false
    some [] n = absurd (n refl)
    some (x ∷ xs) n = ne_eqb _ 0 (λ e. omega arith)

-- each token's bytes alone are read as that token
pub read_alone : (t : Token) (w : List ℕ) → Spells t w → IsAlone t w
read_alone (token.Id n) w h = alone_id n w h.0 h.1.0 h.1.1
read_alone token.Not w e = at token.Not w (codes "not") e refl
read_alone (token.Variable n) w h = alone_variable n w h.0 h.1
read_alone token.Anonymous w e = at token.Anonymous w (codes "_") e refl
read_alone (token.Number n) w h = alone_number n w h.0 h.1
read_alone (token.Text s) w h = alone_text s w h.0 h.1
read_alone token.Dot w e = at token.Dot w (codes ".") e refl
read_alone token.Comma w e = at token.Comma w (codes ",") e refl
read_alone token.Colon w e = at token.Colon w (codes ":") e refl
read_alone token.Semicolon w e = at token.Semicolon w (codes ";") e refl
read_alone token.Open w e = at token.Open w (codes "(") e refl
read_alone token.Close w e = at token.Close w (codes ")") e refl
read_alone token.OpenBrace w e = at token.OpenBrace w (codes "{") e refl
read_alone token.CloseBrace w e = at token.CloseBrace w (codes "}") e refl
read_alone token.If w e = at token.If w (codes ":-") e refl
read_alone token.Plus w e = at token.Plus w (codes "+") e refl
read_alone token.Minus w e = at token.Minus w (codes "-") e refl
read_alone token.Star w e = at token.Star w (codes "*") e refl
read_alone token.Slash w e = at token.Slash w (codes "/") e refl
read_alone (token.Compare op) w e = alone_compare op w e
read_alone token.Count w e = at token.Count w (codes "#count") e refl
read_alone token.Sum w e = at token.Sum w (codes "#sum") e refl
read_alone token.Bar w e = at token.Bar w (codes "|") e refl
read_alone token.DotDot w e = at token.DotDot w (codes "..") e refl
read_alone token.Backslash w e = at token.Backslash w (92 ∷ []) e refl
read_alone token.WeakIf w e = at token.WeakIf w (codes ":~") e refl
read_alone token.Question w e = at token.Question w (codes "?") e refl
read_alone token.MinMax w (inl e) = at token.MinMax w (codes "#min") e refl
read_alone token.MinMax w (inr e) = at token.MinMax w (codes "#max") e refl
read_alone token.Directive w h = alone_directive w h.is_hash_word h
read_alone token.At w e = at token.At w (codes "@") e refl
read_alone token.OpenBracket w e = at token.OpenBracket w (codes "[") e refl
read_alone token.CloseBracket w e = at token.CloseBracket w (codes "]") e refl
read_alone token.Ampersand w e = at token.Ampersand w (codes "&") e refl
