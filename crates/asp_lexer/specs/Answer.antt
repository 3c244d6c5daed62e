-- What a text has, and what `lex` answers.
use Rattle.std.specs.Prelude.{◌≡◌, ◌⊎◌, ℕ, List, Result, Ok, Err}
use Rattle.asp_syntax.specs.declared.token.Spanned.{Spanned}
use Rattle.asp_lexer.specs.declared.fault.LexFault.{LexFault}
use Rattle.asp_lexer.specs.declared.fault.LexFault.TheVariants.{Lex, NumberTooLarge, OutOfMemory}
use Rattle.asp_lexer.specs.Lexing.{AreTokens, IsFirstBad, IsFirstTooLarge}

-- the fault says where the text can't be read, or that there was no memory
abbrev pub IsFault : List ℕ → LexFault → Type 0
IsFault text (Lex at) = IsFirstBad text at.0
IsFault text (NumberTooLarge at) = IsFirstTooLarge text at.0
IsFault text OutOfMemory = Unit {0}

-- the answer is the tokens of the text, or its fault
abbrev pub IsAnswer : List ℕ → Result (List Spanned) LexFault → Type 0
IsAnswer text (Ok tokens) = AreTokens text tokens
IsAnswer text (Err fault) = IsFault text fault

-- the fault of bad bytes at a place
abbrev pub bad_at : ℕ → LexFault
bad_at at = Lex (record { 0 = at })

-- the fault of a number that is too large at a place
abbrev pub too_large_at : ℕ → LexFault
too_large_at at = NumberTooLarge (record { 0 = at })

-- the result is this answer, or there was no memory
abbrev pub Gives : Result (List Spanned) LexFault → Result (List Spanned) LexFault → Type 0
Gives result answer = (result ≡ answer) ⊎ (result ≡ Err OutOfMemory)

-- a text has tokens, or bad bytes come first, or a number that is too large does
abbrev pub HasSomeAnswer : List ℕ → Type 0
HasSomeAnswer text =
    ((tokens : List Spanned) × AreTokens text tokens)
    ⊎ (((at : ℕ) × IsFirstBad text at)
    ⊎ ((at : ℕ) × IsFirstTooLarge text at))

-- a text has at most one list of tokens
abbrev pub HasOneList : List ℕ → Type 0
HasOneList text = (tokens others : List Spanned) → AreTokens text tokens → AreTokens text others → tokens ≡ others

-- each text has just one answer: one list of tokens, one place of the first bad bytes, or one of the first number that is too large
pub record HasOneAnswer (text : List ℕ) : Type 0 where
  pub some : HasSomeAnswer text
  pub one_list : HasOneList text
  pub one_bad : (at other : ℕ) → IsFirstBad text at → IsFirstBad text other → at ≡ other
  pub one_too_large : (at other : ℕ) → IsFirstTooLarge text at → IsFirstTooLarge text other → at ≡ other
  pub tokens_not_bad : (tokens : List Spanned) (at : ℕ) → AreTokens text tokens → IsFirstBad text at → ⊥
  pub tokens_not_too_large : (tokens : List Spanned) (at : ℕ) → AreTokens text tokens → IsFirstTooLarge text at → ⊥
  pub bad_not_too_large : (at other : ℕ) → IsFirstBad text at → IsFirstTooLarge text other → ⊥
