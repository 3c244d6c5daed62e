-- Programs, and what begins as one.
--
-- "Program" means here the grammar alone: neither nesting nor the size of a number matters.
use Rattle.std.specs.Prelude.{ℕ, List, [], ◌∷◌, ◌++◌}
use Rattle.asp_syntax.specs.declared.token.Spanned.{Spanned}
use Rattle.asp_syntax.specs.declared.tree.Statement.{Statement}
use Rattle.asp_syntax.specs.declared.tree.Program.{Program}
use Rattle.asp_grammar.specs.Terminals.{Terminal, terminal_of, anonymous_after}
use Rattle.asp_grammar.specs.Grammar.{Clause, IsClause}

-- a token as the grammar sees it, and its line
pub record Lined : Type 0 where
  pub line : ℕ
  pub terminal : Terminal

-- the tokens as the grammar sees them, where so many `_` stand before the first
abbrev pub lined_from : ℕ → List Spanned → List Lined
lined_from count [] = []
lined_from count (t ∷ ts) = record { line = t.line; terminal = terminal_of count t.token } ∷ lined_from (anonymous_after count t.token) ts

-- the same without their lines
abbrev pub terminals : List Lined → List Terminal
terminals [] = []
terminals (t ∷ ts) = t.terminal ∷ terminals ts

-- the statement, on its line
abbrev pub statement_of : ℕ → Clause → Statement
statement_of line c = record { line = line; head = c.head; body = c.body }

-- program = { statement }
-- A statement has the line of its first token.
pub data AreStatements : List Lined → List Statement → Type 0 where
  none : AreStatements [] []
  more :
      {first : Lined} {c : Clause} {ss : List Statement} (ts rest : List Lined) → IsClause (first.terminal ∷ terminals ts) c
      → AreStatements rest ss → AreStatements (first ∷ (ts ++ rest)) (statement_of first.line c ∷ ss)

-- the program of the statements
abbrev pub program_of : List Statement → Program
program_of statements = record { statements = statements }

-- The tokens are those of the program. Each anonymous variable has the number of `_` before its own.
abbrev pub IsProgram : List Spanned → Program → Type 0
IsProgram tokens program = AreStatements (lined_from 0 tokens) program.statements

-- The tokens of some program begin with these.
pub record IsViable (front : List Spanned) : Type 0 where
  pub rest : List Spanned
  pub program : Program
  pub whole : IsProgram (front ++ rest) program

-- The tokens before this one begin some program, and those through it begin none.
pub record Breaks (front : List Spanned) (t : Spanned) : Type 0 where
  pub before : IsViable front
  pub through : ¬ IsViable (front ++ t ∷ [])

-- The tokens begin some program, and are none themselves.
pub record Stops (tokens : List Spanned) : Type 0 where
  pub before : IsViable tokens
  pub whole : (program : Program) → ¬ IsProgram tokens program
