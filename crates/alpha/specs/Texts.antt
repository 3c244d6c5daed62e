-- What is written of a status.
use Rattle.std.specs.Prelude.{ℕ, Bool, true, false, List, [], ◌∷◌, ◌++◌, codes}
use Rattle.std.specs.Fmt.{decimal}
use Rattle.alpha.specs.declared.status.BudgetKind.{BudgetKind}
use Rattle.alpha.specs.declared.status.BudgetKind.TheVariants as budget
use Rattle.alpha.specs.declared.status.Refusal.{Refusal}
use Rattle.alpha.specs.declared.status.Refusal.TheVariants as refusal
use Rattle.alpha.specs.declared.status.Status.{Status}
use Rattle.alpha.specs.declared.status.Status.TheVariants as status

-- the exit code
abbrev pub code_of : Status → ℕ
code_of (status.Finished printed) = 0
code_of status.Usage = 2
code_of (status.Refused refusal) = 3
code_of (status.AfterRefused line) = 4
code_of (status.TextTooLong name) = 5
code_of (status.ReadFault name) = 6
code_of status.WriteFault = 7
code_of status.TraceFault = 8
code_of status.OutOfMemory = 9
code_of (status.LimitReached printed) = 10
code_of (status.BudgetSpent kind number printed) = 11
code_of (status.TermTooLarge line size printed) = 13
code_of (status.Overflow line op left right printed) = 12

-- ---- the last line

-- the end of each last line
abbrev pub printed_text : ℕ → List ℕ
printed_text printed = decimal printed ++ (codes " printed" ++ (10 ∷ []))

abbrev pub finished_line : ℕ → List ℕ
finished_line printed = codes "% complete, " ++ printed_text printed

abbrev pub limit_line : ℕ → List ℕ
limit_line printed = codes "% limit, " ++ printed_text printed

abbrev pub budget_line : BudgetKind → ℕ → ℕ → List ℕ
budget_line budget.Conflicts number printed = codes "% budget conflicts " ++ (decimal number ++ (codes ", " ++ printed_text printed))
budget_line budget.Instances number printed = codes "% budget instances " ++ (decimal number ++ (codes ", " ++ printed_text printed))

abbrev pub too_large_line : ℕ → ℕ → List ℕ
too_large_line line printed = codes "% term too large line " ++ (decimal line ++ (codes ", " ++ printed_text printed))

abbrev pub overflow_line : ℕ → ℕ → List ℕ
overflow_line line printed = codes "% overflow line " ++ (decimal line ++ (codes ", " ++ printed_text printed))

-- the last line on the output, where the status has one
abbrev pub last_line_of : Status → List ℕ
last_line_of (status.Finished printed) = finished_line printed
last_line_of (status.LimitReached printed) = limit_line printed
last_line_of (status.BudgetSpent kind number printed) = budget_line kind number printed
last_line_of (status.TermTooLarge line size printed) = too_large_line line printed
last_line_of (status.Overflow line op left right printed) = overflow_line line printed
last_line_of _ = []

-- ---- the message

-- a text before and one after a name, and a line feed
abbrev pub around : List ℕ → List ℕ → List ℕ → List ℕ
around before name after = before ++ (name ++ (after ++ (10 ∷ [])))

-- a text and a place behind it, and a line feed
abbrev pub placed : List ℕ → ℕ → List ℕ
placed before at = before ++ (decimal at ++ (10 ∷ []))

-- a text behind the line of a statement
abbrev pub lined : ℕ → List ℕ → List ℕ
lined line after = codes "alpha: line " ++ (decimal line ++ after)

abbrev pub refusal_message : Refusal → List ℕ
refusal_message (refusal.Lex at) = placed (codes "alpha: unreadable at byte ") at.0
refusal_message (refusal.NumberTooLarge at) = placed (codes "alpha: number too large at byte ") at.0
refusal_message (refusal.Syntax at) = placed (codes "alpha: syntax fault at byte ") at.0
refusal_message (refusal.TooDeep at) = placed (codes "alpha: nested too deep at byte ") at.0
refusal_message (refusal.Unsupported at what) = placed (codes "alpha: unsupported at byte ") at.0
refusal_message (refusal.NotYet line) = lined line (codes ": not built yet" ++ (10 ∷ []))
refusal_message (refusal.Unsafe line variable) = lined line (around (codes ": variable ") variable (codes " is not bound"))
refusal_message (refusal.AggregateRecursive line name) = lined line (around (codes ": the aggregate over ") name (codes " depends on its own head"))

-- of a line of the file of sets
abbrev pub after_message : ℕ → List ℕ
after_message line = codes "alpha: line " ++ (decimal line ++ (codes " of the after file is not a set" ++ (10 ∷ [])))

-- whether there is a message
abbrev pub has_message : Status → Bool
has_message (status.Finished printed) = false
has_message (status.LimitReached printed) = false
has_message (status.BudgetSpent kind number printed) = false
has_message (status.TermTooLarge line size printed) = false
has_message (status.Overflow line op left right printed) = false
has_message _ = true

-- the message, where the status has one
abbrev pub message_of : Status → List ℕ
message_of (status.Finished printed) = []
message_of (status.LimitReached printed) = []
message_of (status.BudgetSpent kind number printed) = []
message_of (status.TermTooLarge line size printed) = []
message_of (status.Overflow line op left right printed) = []
message_of status.Usage = codes "alpha: usage: alpha solve [--after FILE] [--limit N] [--conflicts N] [--instances N] [--trace FILE] FILE... or alpha sample SEED N" ++ (10 ∷ [])
message_of (status.Refused r) = refusal_message r
message_of (status.TextTooLong name) = around (codes "alpha: ") name (codes " is too long")
message_of (status.AfterRefused line) = after_message line
message_of (status.ReadFault name) = around (codes "alpha: cannot read ") name []
message_of status.WriteFault = codes "alpha: cannot write" ++ (10 ∷ [])
message_of status.TraceFault = codes "alpha: cannot write the trace" ++ (10 ∷ [])
message_of status.OutOfMemory = codes "alpha: out of memory" ++ (10 ∷ [])
