-- No token at a place is longer than what is read there.
use Rattle.std.proofs.Common.{◌≡◌, ◌≢◌, inl, inr, refl, sym, ap, subst, ◌∙◌, ℕ, suc, ◌+◌, ◌≤◌, Bool, true, cond, ◌==◌, Option, Some, None, List, [], ◌∷◌, ◌++◌, length, arith, length-append, append_assoc}
use Rattle.std.specs.Prelude.{codes}
use Rattle.std.specs.Str.{bytes_eq}
use Rattle.std.specs.List.{list_all, take_while}
use Rattle.std.proofs.lemmas.Bool.{and_from, cond_both, eqb-true}
use Rattle.asp_syntax.specs.declared.tree.CompareOp.{CompareOp}
use Rattle.asp_syntax.specs.declared.tree.CompareOp.TheVariants.{Equal, NotEqual, Less, LessEqual, Greater, GreaterEqual}
use Rattle.asp_syntax.specs.declared.token.Token.{Token}
use Rattle.asp_syntax.specs.declared.token.Token.TheVariants as token
use Rattle.asp_lexer.specs.declared.lexeme.Lexeme.{Lexeme}
use Rattle.asp_lexer.specs.declared.lexeme.Lexeme.TheVariants as lexeme
use Rattle.asp_syntax.specs.Bytes.{is_lower, is_upper, is_letter, is_digit, is_word}
use Rattle.asp_syntax.specs.WellFormed.{IsName, IsInside}
use Rattle.asp_lexer.specs.Tokens.{IsNumeral, decimal, IsHashWord, SpellsCompare, Spells}
use Rattle.asp_lexer.specs.Lexemes.{first_is, token_length, lexeme_of, word_lexeme, number_lexeme, fitting, text_lexeme, closing_quote, hash_lexeme}
use Rattle.asp_lexer.proofs.Runs.{run_longest}
use Rattle.asp_lexer.proofs.ByteClasses.{lower_is_word, upper_is_word, lexeme_of-lower, lexeme_of-upper, lexeme_of-digit}
use Rattle.asp_lexer.proofs.Ends.{string_found}

-- what is read where the bytes stand before a rest is no shorter than they
abbrev pub IsReached : List ℕ → List ℕ → Type 0
IsReached r v = length v ≤ token_length (lexeme_of (v ++ r))

at : (r w v : List ℕ) → w ≡ v → IsReached r v → IsReached r w
at r w v e h = subst (IsReached r) (sym e) h

-- either of two lexemes is long enough, so the one that is chosen is
either : (n : ℕ) (v : Bool) (x y : Lexeme) → n ≤ token_length x → n ≤ token_length y → n ≤ token_length (cond v x y)
either n v x y h k = cond_both v x y (λ f. n ≤ token_length f) (λ _. h) (λ _. k)

word-len : (w : List ℕ) → length w ≤ token_length (word_lexeme w)
word-len w = either (length w) (bytes_eq w (codes "not")) (lexeme.Token token.Not (length w)) (lexeme.Token (token.Id w) (length w)) (omega arith) (omega arith)

reached_id : (w r : List ℕ) → IsName is_lower w → IsReached r w
reached_id [] r h = absurd h
reached_id (b ∷ more) r h =
    let run = run_longest is_word (b ∷ more) r (and_from _ _ (lower_is_word b h.0) h.1) in
    let all = word-len (take_while is_word (b ∷ (more ++ r))) in
    subst (λ f. suc (length more) ≤ token_length f) (sym (lexeme_of-lower b (more ++ r) h.0)) (omega (arith, run, all))

reached_variable : (w r : List ℕ) → IsName is_upper w → IsReached r w
reached_variable [] r h = absurd h
reached_variable (b ∷ more) r h =
    let run = run_longest is_word (b ∷ more) r (and_from _ _ (upper_is_word b h.0) h.1) in
    subst (λ f. suc (length more) ≤ token_length f) (sym (lexeme_of-upper b (more ++ r) h.0)) run

number-len : (n : ℕ) (o : Option ℕ) → token_length (number_lexeme n o) ≡ n
number-len n None = refl
number-len n (Some v) = refl

reached_number : (w r : List ℕ) → IsNumeral w → IsReached r w
reached_number [] r h = absurd h
reached_number (b ∷ more) r (inl z) =
    at r (b ∷ more) (48 ∷ []) (ap (λ x. x ∷ more) z.0 ∙ ap (λ xs. 48 ∷ xs) z.1) (omega arith)
reached_number (b ∷ more) r (inr d) =
    let run = run_longest is_digit (b ∷ more) r (and_from _ _ d.0 d.2) in
    let digits = take_while is_digit (b ∷ (more ++ r)) in
    let all = number-len (length digits) (fitting (decimal digits)) in
    subst (λ f. suc (length more) ≤ token_length f) (sym (lexeme_of-digit b (more ++ r) d.0 d.1)) (omega (arith, run, all))

reached_text : (s w r : List ℕ) → w ≡ 34 ∷ (s ++ 34 ∷ []) → IsInside 34 s → IsReached r w
reached_text s w r e h =
    let inside : (s ++ 34 ∷ []) ++ r ≡ s ++ 34 ∷ r = append_assoc s (34 ∷ []) r in
    let found : text_lexeme ((s ++ 34 ∷ []) ++ r) (closing_quote 34 ((s ++ 34 ∷ []) ++ r)) ≡ text_lexeme ((s ++ 34 ∷ []) ++ r) (Some (length s)) =
    ap (text_lexeme ((s ++ 34 ∷ []) ++ r)) (ap (closing_quote 34) inside ∙ string_found 34 s r h) in
    at r w (34 ∷ (s ++ 34 ∷ [])) e
    (subst (λ f. length (34 ∷ (s ++ 34 ∷ [])) ≤ token_length f) (sym found) (omega (arith, length-append s (34 ∷ []))))

hash-len : (w : List ℕ) → 1 ≤ length w → length w + 1 ≤ token_length (hash_lexeme w)
hash-len [] h = absurd (omega arith)
hash-len (b ∷ w) h =
    let n = length (b ∷ w) + 1 in
    let self : n ≤ n = omega arith in
    let four = cond (bytes_eq (b ∷ w) (codes "max")) (lexeme.Token token.MinMax n) (lexeme.Token token.Directive n) in
    let three = cond (bytes_eq (b ∷ w) (codes "min")) (lexeme.Token token.MinMax n) four in
    let two = cond (bytes_eq (b ∷ w) (codes "sum")) (lexeme.Token token.Sum n) three in
    let one = cond (bytes_eq (b ∷ w) (codes "count")) (lexeme.Token token.Count n) two in
    let at_four : n ≤ token_length four = either n (bytes_eq (b ∷ w) (codes "max")) (lexeme.Token token.MinMax n) (lexeme.Token token.Directive n) self self in
    let at_three : n ≤ token_length three = either n (bytes_eq (b ∷ w) (codes "min")) (lexeme.Token token.MinMax n) four self at_four in
    let at_two : n ≤ token_length two = either n (bytes_eq (b ∷ w) (codes "sum")) (lexeme.Token token.Sum n) three self at_three in
    let at_one : n ≤ token_length one = either n (bytes_eq (b ∷ w) (codes "count")) (lexeme.Token token.Count n) two self at_two in
    cond_both (length (b ∷ w) == 0) lexeme.Bad one (λ f. n ≤ token_length f) (λ e. absurd (none (eqb-true _ 0 e))) (λ e. at_one)
  where
    none : length (b ∷ w) ≡ 0 → ⊥
    none e = omega arith

reached_hash : (v r : List ℕ) → list_all is_letter v ≡ true → 1 ≤ length v → IsReached r (35 ∷ v)
reached_hash v r h k =
    let run = run_longest is_letter v r h in
    let all = hash-len (take_while is_letter (v ++ r)) (omega (arith, run, k)) in
    let goal : suc (length v) ≤ token_length (hash_lexeme (take_while is_letter (v ++ r))) = omega (arith, run, all) in
    goal

reached_directive : (w r : List ℕ) → IsHashWord w → IsReached r w
reached_directive [] r i = absurd i
reached_directive (b ∷ more) r i = at r (b ∷ more) (35 ∷ more) (ap (λ x. x ∷ more) i.0) (reached_hash more r i.2 (some more i.1))
  where
    some : (xs : List ℕ) → xs ≢ [] → 1 ≤ length xs
    some [] n = absurd (n refl)
    some (x ∷ xs) n = omega arith

reached_compare : (op : CompareOp) (w r : List ℕ) → SpellsCompare op w → IsReached r w
reached_compare Equal w r e = at r w (codes "=") e (omega arith)
reached_compare NotEqual w r (inl e) = at r w (codes "!=") e (omega arith)
reached_compare NotEqual w r (inr e) = at r w (codes "<>") e (omega arith)
reached_compare Less w r e = at r w (codes "<") e (either 1 (first_is 61 r) (lexeme.Token (token.Compare LessEqual) 2) _ (omega arith) (either 1 (first_is 62 r) (lexeme.Token (token.Compare NotEqual) 2) (lexeme.Token (token.Compare Less) 1) (omega arith) (omega arith)))
reached_compare LessEqual w r e = at r w (codes "<=") e (omega arith)
reached_compare Greater w r e = at r w (codes ">") e (either 1 (first_is 61 r) (lexeme.Token (token.Compare GreaterEqual) 2) (lexeme.Token (token.Compare Greater) 1) (omega arith) (omega arith))
reached_compare GreaterEqual w r e = at r w (codes ">=") e (omega arith)

-- no token that stands somewhere is longer than what is read there
pub reached : (t : Token) (w r : List ℕ) → Spells t w → IsReached r w
reached (token.Id n) w r h = reached_id w r h.1.0
reached token.Not w r e = at r w (codes "not") e (reached_id (codes "not") r (refl, refl))
reached (token.Variable n) w r h = reached_variable w r h.1
reached token.Anonymous w r e = at r w (codes "_") e (omega arith)
reached (token.Number n) w r h = reached_number w r h.1
reached (token.Text s) w r h = reached_text s w r h.0 h.1
reached token.Dot w r e = at r w (codes ".") e (either 1 (first_is 46 r) (lexeme.Token token.DotDot 2) (lexeme.Token token.Dot 1) (omega arith) (omega arith))
reached token.Comma w r e = at r w (codes ",") e (omega arith)
reached token.Colon w r e = at r w (codes ":") e (either 1 (first_is 45 r) (lexeme.Token token.If 2) _ (omega arith) (either 1 (first_is 126 r) (lexeme.Token token.WeakIf 2) (lexeme.Token token.Colon 1) (omega arith) (omega arith)))
reached token.Semicolon w r e = at r w (codes ";") e (omega arith)
reached token.Open w r e = at r w (codes "(") e (omega arith)
reached token.Close w r e = at r w (codes ")") e (omega arith)
reached token.OpenBrace w r e = at r w (codes "{") e (omega arith)
reached token.CloseBrace w r e = at r w (codes "}") e (omega arith)
reached token.If w r e = at r w (codes ":-") e (omega arith)
reached token.Plus w r e = at r w (codes "+") e (omega arith)
reached token.Minus w r e = at r w (codes "-") e (omega arith)
reached token.Star w r e = at r w (codes "*") e (omega arith)
reached token.Slash w r e = at r w (codes "/") e (omega arith)
reached (token.Compare op) w r e = reached_compare op w r e
reached token.Count w r e = at r w (codes "#count") e (reached_hash (codes "count") r refl (omega arith))
reached token.Sum w r e = at r w (codes "#sum") e (reached_hash (codes "sum") r refl (omega arith))
reached token.Bar w r e = at r w (codes "|") e (omega arith)
reached token.DotDot w r e = at r w (codes "..") e (omega arith)
reached token.Backslash w r e = at r w (92 ∷ []) e (omega arith)
reached token.WeakIf w r e = at r w (codes ":~") e (omega arith)
reached token.Question w r e = at r w (codes "?") e (omega arith)
reached token.MinMax w r (inl e) = at r w (codes "#min") e (reached_hash (codes "min") r refl (omega arith))
reached token.MinMax w r (inr e) = at r w (codes "#max") e (reached_hash (codes "max") r refl (omega arith))
reached token.Directive w r h = reached_directive w r h.is_hash_word
reached token.At w r e = at r w (codes "@") e (omega arith)
reached token.OpenBracket w r e = at r w (codes "[") e (omega arith)
reached token.CloseBracket w r e = at r w (codes "]") e (omega arith)
reached token.Ampersand w r e = at r w (codes "&") e (omega arith)
