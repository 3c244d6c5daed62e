-- What tokens have, and what `parse` answers.
use Rattle.std.specs.Prelude.{◌≡◌, ◌⊎◌, List, Result, Ok, Err}
use Rattle.asp_syntax.specs.declared.token.Place.{Place}
use Rattle.asp_syntax.specs.declared.token.Spanned.{Spanned}
use Rattle.asp_syntax.specs.declared.tree.Program.{Program}
use Rattle.asp_grammar.specs.Programs.{IsProgram}
use Rattle.asp_grammar.specs.Faults.{Cause, unsupported, syntax, too_deep, number_too_large, FaultAt, Parsed}
use Rattle.asp_parser.specs.declared.fault.ParseFault.{ParseFault}
use Rattle.asp_parser.specs.declared.fault.ParseFault.TheVariants.{Unsupported, Syntax, TooDeep, NumberTooLarge, OutOfMemory}

-- the fault is the tokens' own: it names the first faulty token, and the cause that counts there; or there was no memory
abbrev pub IsFault : List Spanned → Place → ParseFault → Type 0
IsFault tokens end (Unsupported at what) = FaultAt tokens end (unsupported what) at
IsFault tokens end (Syntax at) = FaultAt tokens end syntax at
IsFault tokens end (TooDeep at) = FaultAt tokens end too_deep at
IsFault tokens end (NumberTooLarge at) = FaultAt tokens end number_too_large at
IsFault tokens end OutOfMemory = Unit {0}

-- tokens are those of no program but this one
abbrev pub IsOnly : List Spanned → Program → Type 0
IsOnly tokens program = (other : Program) → IsProgram tokens other → other ≡ program

-- the answer is the one program of the tokens, none of which is faulty, or the tokens' fault
abbrev pub IsAnswer : List Spanned → Place → Result Program ParseFault → Type 0
IsAnswer tokens end (Ok program) = Parsed tokens program
IsAnswer tokens end (Err fault) = IsFault tokens end fault

-- the fault of a cause at a place
abbrev pub fault_of : Cause → Place → ParseFault
fault_of (unsupported what) place = Unsupported place what
fault_of syntax place = Syntax place
fault_of too_deep place = TooDeep place
fault_of number_too_large place = NumberTooLarge place

-- the result is this answer, or there was no memory
abbrev pub Gives : Result Program ParseFault → Result Program ParseFault → Type 0
Gives result answer = (result ≡ answer) ⊎ (result ≡ Err OutOfMemory)

-- tokens have just one answer: one program, with no faulty token, or one cause at one place
pub record HasOneAnswer (tokens : List Spanned) (end : Place) : Type 0 where
  pub some : ((program : Program) × Parsed tokens program) ⊎ ((cause : Cause) × (place : Place) × FaultAt tokens end cause place)
  pub one_program : (program other : Program) → Parsed tokens program → Parsed tokens other → program ≡ other
  pub one_fault : (cause other : Cause) (place there : Place) → FaultAt tokens end cause place → FaultAt tokens end other there → (cause ≡ other) × (place ≡ there)
  pub not_both : (program : Program) (cause : Cause) (place : Place) → Parsed tokens program → FaultAt tokens end cause place → ⊥
