-- An answer that says what the text is, is the only one.
use Rattle.std.proofs.Common.{◌≡◌, inl, inr, refl, sym, ap, ℕ, List, []}
use Rattle.std.specs.Prelude.{Result, Ok, Err}
use Rattle.asp_syntax.specs.declared.token.Spanned.{Spanned}
use Rattle.asp_lexer.specs.declared.fault.LexFault.{LexFault}
use Rattle.asp_lexer.specs.declared.fault.LexFault.TheVariants.{Lex, NumberTooLarge, OutOfMemory}
use Rattle.asp_lexer.specs.Lexing.{AreTokens, IsFirstBad, IsFirstTooLarge, whole, bad, too_large}
use Rattle.asp_lexer.specs.Answer.{IsAnswer, Gives, bad_at, too_large_at, HasSomeAnswer, HasOneList, HasOneAnswer}
use Rattle.asp_lexer.proofs.OneReading.{unique}
use Rattle.asp_lexer.proofs.EachText.{SomeWay, each_text}

-- the ends of reading differ
bad_whole : (p : ℕ) → bad p ≡ whole → ⊥
bad_whole p e = cc

large_whole : (p : ℕ) → too_large p ≡ whole → ⊥
large_whole p e = cc

bad_large : (p q : ℕ) → bad p ≡ too_large q → ⊥
bad_large p q e = cc

bad_same : (p q : ℕ) → bad p ≡ bad q → p ≡ q
bad_same p q e = cc

large_same : (p q : ℕ) → too_large p ≡ too_large q → p ≡ q
large_same p q e = cc

-- A text has at most one token list.
pub one_list : (text : List ℕ) → HasOneList text
one_list text ts us x y = (unique x y).0

-- an answer that is the text's own is the one that the text has
pub exact_tokens : (text : List ℕ) (r : Result (List Spanned) LexFault) → IsAnswer text r → (ts : List Spanned) → AreTokens text ts → Gives r (Ok ts)
exact_tokens text (Ok us) a ts h = inl (ap Ok (unique a h).0)
exact_tokens text (Err (Lex at)) a ts h = absurd (bad_whole at.0 (unique a.1 h).1)
exact_tokens text (Err (NumberTooLarge at)) a ts h = absurd (large_whole at.0 (unique a.1 h).1)
exact_tokens text (Err OutOfMemory) a ts h = inr refl

pub exact_bad : (text : List ℕ) (r : Result (List Spanned) LexFault) → IsAnswer text r → (p : ℕ) → IsFirstBad text p → Gives r (Err (bad_at p))
exact_bad text (Ok us) a p h = absurd (bad_whole p (sym (unique a h.1).1))
exact_bad text (Err (Lex at)) a p h = inl (ap (λ q. Err (bad_at q)) (bad_same at.0 p (unique a.1 h.1).1))
exact_bad text (Err (NumberTooLarge at)) a p h = absurd (bad_large p at.0 (sym (unique a.1 h.1).1))
exact_bad text (Err OutOfMemory) a p h = inr refl

pub exact_too_large : (text : List ℕ) (r : Result (List Spanned) LexFault) → IsAnswer text r → (p : ℕ) → IsFirstTooLarge text p → Gives r (Err (too_large_at p))
exact_too_large text (Ok us) a p h = absurd (large_whole p (sym (unique a h.1).1))
exact_too_large text (Err (Lex at)) a p h = absurd (bad_large at.0 p (unique a.1 h.1).1)
exact_too_large text (Err (NumberTooLarge at)) a p h = inl (ap (λ q. Err (too_large_at q)) (large_same at.0 p (unique a.1 h.1).1))
exact_too_large text (Err OutOfMemory) a p h = inr refl

-- ---- the text alone

-- one of the three
some_answer : (text : List ℕ) → HasSomeAnswer text
some_answer text = go (each_text text)
  where
    go : SomeWay [] text → HasSomeAnswer text
    go (ts, whole, r) = inl (ts, r)
    go (ts, bad at, r) = inr (inl (at, (ts, r)))
    go (ts, too_large at, r) = inr (inr (at, (ts, r)))

-- and no other
pub one_answer : (text : List ℕ) → HasOneAnswer text
one_answer text = record {
  some = some_answer text;
  one_list = one_list text;
  one_bad = λ p q x y. bad_same p q (unique x.1 y.1).1;
  one_too_large = λ p q x y. large_same p q (unique x.1 y.1).1;
  tokens_not_bad = λ ts p x y. bad_whole p (sym (unique x y.1).1);
  tokens_not_too_large = λ ts p x y. large_whole p (sym (unique x y.1).1);
  bad_not_too_large = λ p q x y. bad_large p q (unique x.1 y.1).1;
}
