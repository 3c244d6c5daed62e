-- Which program a text is, and for what a text or a program is refused.
use Rattle.std.specs.Prelude.{◌≡◌, ◌⊎◌, ℕ, List, length, Some, None}
use Rattle.asp_syntax.specs.declared.token.Place.{Place}
use Rattle.asp_syntax.specs.declared.token.Spanned.{Spanned}
use Rattle.asp_syntax.specs.declared.tree.Statement.{Statement}
use Rattle.asp_lexer.specs.Lexing.{AreTokens, IsFirstBad, IsFirstTooLarge}
use Rattle.asp_grammar.specs.Programs.{program_of}
use Rattle.asp_grammar.specs.Faults.{Cause, unsupported, syntax, too_deep, number_too_large, FaultAt, Parsed}
use Rattle.asp_lexer.specs.declared.fault.LexFault.{LexFault}
use Rattle.asp_lexer.specs.declared.fault.LexFault.TheVariants as lexer
use Rattle.asp_parser.specs.declared.fault.ParseFault.{ParseFault}
use Rattle.asp_parser.specs.declared.fault.ParseFault.TheVariants as parser
use Rattle.asp_safety.specs.declared.fault.SafetyFault.{SafetyFault}
use Rattle.asp_safety.specs.declared.fault.SafetyFault.TheVariants as fault
use Rattle.asp_safety.specs.Faults.{IsFault, IsAccepted}
use Rattle.alpha.specs.Built.{unbuilt}
use Rattle.alpha.specs.declared.status.Refusal.{Refusal}
use Rattle.alpha.specs.declared.status.Refusal.TheVariants.{Lex, NumberTooLarge, Syntax, TooDeep, Unsupported, NotYet, Unsafe, AggregateRecursive}
use Rattle.alpha.specs.declared.status.Status.{Status}
use Rattle.alpha.specs.declared.status.Status.TheVariants as status

-- the text's tokens are those of the program by the grammar, none of them is faulty, and each statement is built
pub record IsBuiltText (text : List ℕ) (P : List Statement) : Type 0 where
  pub tokens : List Spanned
  pub lexed : AreTokens text tokens
  pub parsed : Parsed tokens (program_of P)
  pub built : unbuilt P ≡ None

-- the same, and the program is safe and has no recursive aggregate
pub record IsProgramText (text : List ℕ) (P : List Statement) : Type 0 where
  pub tokens : List Spanned
  pub lexed : AreTokens text tokens
  pub parsed : Parsed tokens (program_of P)
  pub built : unbuilt P ≡ None
  pub accepted : IsAccepted P

-- the place behind the text
abbrev pub end_of : List ℕ → Place
end_of text = record { 0 = length text }

-- the text has tokens, and they are refused for this cause at this place
pub record IsFaultyText (text : List ℕ) (cause : Cause) (at : Place) : Type 0 where
  pub tokens : List Spanned
  pub lexed : AreTokens text tokens
  pub fault : FaultAt tokens (end_of text) cause at

-- the text's tokens are those of a program, none of them is faulty, and its first statement that isn't built has this line
pub record IsUnbuiltText (text : List ℕ) (line : ℕ) : Type 0 where
  pub tokens : List Spanned
  pub lexed : AreTokens text tokens
  pub program : List Statement
  pub parsed : Parsed tokens (program_of program)
  pub first : unbuilt program ≡ Some line

-- the text is that of a program, each of whose statements is built, and which has this fault
pub record IsUnacceptedText (text : List ℕ) (fault : SafetyFault) : Type 0 where
  pub program : List Statement
  pub built : IsBuiltText text program
  pub faulty : IsFault program fault

-- the text is refused for this
abbrev pub IsRefusedText : List ℕ → Refusal → Type 0
IsRefusedText text (Lex at) = IsFirstBad text at.0
IsRefusedText text (NumberTooLarge at) = IsFirstTooLarge text at.0 ⊎ IsFaultyText text number_too_large at
IsRefusedText text (Syntax at) = IsFaultyText text syntax at
IsRefusedText text (TooDeep at) = IsFaultyText text too_deep at
IsRefusedText text (Unsupported at what) = IsFaultyText text (unsupported what) at
IsRefusedText text (NotYet line) = IsUnbuiltText text line
IsRefusedText text (Unsafe line variable) = IsUnacceptedText text (fault.Unsafe line variable)
IsRefusedText text (AggregateRecursive line name) = IsUnacceptedText text (fault.AggregateRecursive line name)

-- the status of a text that gives no program: it is refused for this, or there was no memory
abbrev pub IsStopOf : List ℕ → Status → Type 0
IsStopOf text (status.Refused refusal) = IsRefusedText text refusal
IsStopOf text status.OutOfMemory = Unit {0}
IsStopOf text _ = ⊥

-- the status for a fault of the lexer
abbrev pub lex_status : LexFault → Status
lex_status (lexer.Lex at) = status.Refused (Lex at)
lex_status (lexer.NumberTooLarge at) = status.Refused (NumberTooLarge at)
lex_status lexer.OutOfMemory = status.OutOfMemory

-- the status for a fault of the parser
abbrev pub parse_status : ParseFault → Status
parse_status (parser.Unsupported at what) = status.Refused (Unsupported at what)
parse_status (parser.Syntax at) = status.Refused (Syntax at)
parse_status (parser.TooDeep at) = status.Refused (TooDeep at)
parse_status (parser.NumberTooLarge at) = status.Refused (NumberTooLarge at)
parse_status parser.OutOfMemory = status.OutOfMemory

-- the status for a fault of a program
abbrev pub safety_status : SafetyFault → Status
safety_status (fault.Unsafe line variable) = status.Refused (Unsafe line variable)
safety_status (fault.AggregateRecursive line name) = status.Refused (AggregateRecursive line name)
safety_status fault.OutOfMemory = status.OutOfMemory

-- the status of a program that gives no core: it has this fault, or there was no memory
abbrev pub IsFaultOf : List Statement → Status → Type 0
IsFaultOf P s = (f : SafetyFault) × IsFault P f × (s ≡ safety_status f)
