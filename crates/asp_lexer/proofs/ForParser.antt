-- What a parser may ask of the tokens of a text: their places rise and are below its end, and each is well-formed.
use Rattle.std.proofs.Common.{◌≡◌, ap, sym, subst, ℕ, ◌+◌, ◌≤◌, ◌++◌, List, [], ◌∷◌, length, arith, length-append}
use Rattle.std.specs.Prelude.{Result, Ok, Err, IfOk}
use Rattle.lists.specs.Lists.{Each}
use Rattle.asp_syntax.specs.declared.token.Token.{Token}
use Rattle.asp_syntax.specs.declared.token.Token.TheVariants as token
use Rattle.asp_syntax.specs.declared.token.Spanned.{Spanned}
use Rattle.asp_syntax.specs.Places.{IsRising}
use Rattle.asp_syntax.specs.WellFormed.{IsId, IsVariable, IsWellFormed}
use Rattle.asp_lexer.specs.Tokens.{Spells, Fits}
use Rattle.asp_lexer.specs.Lexing.{AreTokens, End, Reads, at_end, at_bad, at_too_large, past_skipped, past_token}
use Rattle.asp_lexer.specs.declared.fault.LexFault.{LexFault}
use Rattle.asp_lexer.specs.Answer.{IsAnswer}
use Rattle.asp_lexer.proofs.OneReading.{spelled_some}

-- ---- places

-- places that rise from somewhere rise from before it
rises_before : (p q end : ℕ) (ts : List Spanned) → q ≤ p → IsRising p end ts → IsRising q end ts
rises_before p q end [] l h = tt
rises_before p q end (t ∷ ts) l h = (omega (arith, l, h.0), h.1, h.2)

-- what has been read and what is left are the whole text
sum_stays : (b bs w rest : List ℕ) → bs ≡ w ++ rest → length (b ++ w) + length rest ≡ length b + length bs
sum_stays b bs w rest q = omega (arith, ap length q, length-append w rest, length-append b w)

-- of bytes that are read
places : {b bs : List ℕ} {ts : List Spanned} {e : End} → Reads b bs ts e → IsRising (length b) (length b + length bs) ts
places (at_end b bs e) = tt
places (at_bad b bs h) = tt
places (at_too_large b bs w rest n q h l) = tt
places (past_skipped b bs w rest ts e q s r) =
    let ih = subst (λ k. IsRising (length (b ++ w)) k ts) (sum_stays b bs w rest q) (places r) in
    rises_before (length (b ++ w)) (length b) (length b + length bs) ts (omega (arith, length-append b w)) ih
places (past_token b bs w rest t ts e q h s r) =
    let ih = subst (λ k. IsRising (length (b ++ w)) k ts) (sum_stays b bs w rest q) (places r) in
    let some = spelled_some t w h.spelled in (
      omega arith,
      omega (arith, some, ap length q, length-append w rest),
      rises_before (length (b ++ w)) (length b + 1) (length b + length bs) ts (omega (arith, some, length-append b w)) ih,
    )

-- of a text
rising : (text : List ℕ) (ts : List Spanned) → AreTokens text ts → IsRising 0 (length text) ts
rising text ts h = let all : 0 + length text ≡ length text = omega arith in subst (λ k. IsRising 0 k ts) all (places h)

-- ---- what the tokens have in them

-- a token that bytes spell, with a number that is not too large
fine : (t : Token) (w : List ℕ) → Spells t w → Fits t → IsWellFormed t
fine (token.Id name) w h f = subst IsId (sym h.0) h.1
fine (token.Variable name) w h f = subst IsVariable (sym h.0) h.1
fine (token.Text inside) w h f = h.1
fine (token.Number number) w h f = f
fine _ w h f = tt

-- of bytes that are read
each_fine : {b bs : List ℕ} {ts : List Spanned} {e : End} → Reads b bs ts e → Each (λ s. IsWellFormed s.token) ts
each_fine (at_end b bs e) = tt
each_fine (at_bad b bs h) = tt
each_fine (at_too_large b bs w rest n q h l) = tt
each_fine (past_skipped b bs w rest ts e q s r) = each_fine r
each_fine (past_token b bs w rest t ts e q h f r) = (fine t w h.spelled f, each_fine r)

-- of a text
well_formed : (text : List ℕ) (ts : List Spanned) → AreTokens text ts → Each (λ s. IsWellFormed s.token) ts
well_formed text ts h = each_fine h

-- ---- of an answer

-- what holds of the tokens of a text holds of those that are answered
IfOk-answer : (text : List ℕ) (P : List Spanned → Type 0) → ((ts : List Spanned) → AreTokens text ts → P ts) → (r : Result (List Spanned) LexFault) → IsAnswer text r → IfOk r P
IfOk-answer text P holds (Ok ts) a = holds ts a
IfOk-answer text P holds (Err f) a = tt

pub answer_rises : (text : List ℕ) (r : Result (List Spanned) LexFault) → IsAnswer text r → IfOk r (λ ts. IsRising 0 (length text) ts)
answer_rises text r a = IfOk-answer text (λ ts. IsRising 0 (length text) ts) (rising text) r a

pub answer_well_formed : (text : List ℕ) (r : Result (List Spanned) LexFault) → IsAnswer text r → IfOk r (λ ts. Each (λ s. IsWellFormed s.token) ts)
answer_well_formed text r a = IfOk-answer text (λ ts. Each (λ s. IsWellFormed s.token) ts) (well_formed text) r a
