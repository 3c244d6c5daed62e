-- The machine that reads a program: one token after the other, from statement to statement.
use Rattle.std.specs.Prelude.{ℕ, List, [], ◌∷◌, ◌++◌, Option, Some, None}
use Rattle.asp_syntax.specs.declared.token.Token.{Token}
use Rattle.asp_syntax.specs.declared.token.Spanned.{Spanned}
use Rattle.asp_syntax.specs.declared.tree.Statement.{Statement}
use Rattle.asp_syntax.specs.declared.tree.Program.{Program}
use Rattle.asp_grammar.specs.declared.state.State.{State}
use Rattle.asp_grammar.specs.declared.state.State.TheVariants.{Starting, SignRead, OperandDue, Ended}
use Rattle.asp_grammar.specs.declared.state.Progress.{Progress}
use Rattle.asp_grammar.specs.declared.state.Progress.TheVariants as at
use Rattle.asp_grammar.specs.Terminals.{terminal_of, anonymous_after}
use Rattle.asp_grammar.specs.Machine.{step, clause_of}
use Rattle.asp_grammar.specs.Programs.{statement_of, program_of}

-- in this state of the statement that began on the line: after its full stop the statement is done
abbrev pub settled : List Statement → ℕ → State → Progress
settled done line (Ended h items) = at.Between (done ++ statement_of line (clause_of h items) ∷ [])
settled done line state = at.Inside done line state

-- the same, where there is a next state
abbrev pub settle : List Statement → ℕ → Option State → Option Progress
settle done line None = None
settle done line (Some state) = Some (settled done line state)

-- where the machine stands after a token on a line, before which so many `_` stand
abbrev pub advance_on : Progress → ℕ → ℕ → Token → Option Progress
advance_on (at.Between done) count line t = settle done line (step Starting (terminal_of count t))
advance_on (at.Inside done first state) count line t = settle done first (step state (terminal_of count t))

-- the same for a token with its line
abbrev pub advance_of : Progress → ℕ → Spanned → Option Progress
advance_of progress count t = advance_on progress count t.line t.token

-- where the machine stands after the tokens, if it passes them all
abbrev pub passed : Option Progress → ℕ → List Spanned → Option Progress
passed progress count [] = progress
passed None count (t ∷ ts) = None
passed (Some progress) count (t ∷ ts) = passed (advance_of progress count t) (anonymous_after count t.token) ts

-- where it stands after the tokens from the beginning on
abbrev pub standing : List Spanned → Option Progress
standing tokens = passed (Some (at.Between [])) 0 tokens

-- the program that is read where the tokens end: there is one between statements
abbrev pub program_at : Option Progress → Option Program
program_at (Some (at.Between done)) = Some (program_of done)
program_at _ = None

-- the program that the machine reads
abbrev pub read : List Spanned → Option Program
read tokens = program_at (standing tokens)

-- the machine stands inside a statement
abbrev pub IsInside : Option Progress → Type 0
IsInside (Some (at.Inside done line state)) = Unit {0}
IsInside _ = ⊥

-- how many unary minuses wait for their operand
abbrev pub signs_of : State → ℕ
signs_of (SignRead role) = 1
signs_of (OperandDue sum product signs frames purpose) = signs
signs_of _ = 0

-- the same in a program
abbrev pub signs_in : Progress → ℕ
signs_in (at.Between done) = 0
signs_in (at.Inside done line state) = signs_of state
