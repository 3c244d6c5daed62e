-- What each fault says of a program.
use Rattle.std.specs.Prelude.{◌≡◌, List}
use Rattle.asp_syntax.specs.declared.tree.Statement.{Statement}
use Rattle.asp_strata.specs.declared.fault.RecursionFault.{RecursionFault}
use Rattle.asp_strata.specs.declared.fault.RecursionFault.TheVariants as fault
use Rattle.asp_strata.specs.Recursion.{HasNoRecursion}
use Rattle.asp_strata.specs.Firsts.{FirstDependent, FirstRecursive}

-- the statement of the program P has a recursive aggregate, begins in this line, and the first predicate in its elements that depends
-- on its head is written so
abbrev pub IsStatementFault : List Statement → Statement → RecursionFault → Type 0
IsStatementFault P s (fault.Recursive line name) = (¬ HasNoRecursion P s) × (line ≡ s.line) × FirstDependent P s name
IsStatementFault P s fault.OutOfMemory = Unit {0}

-- the first statement of the program with a recursive aggregate begins in this line, and the first predicate in its elements that
-- depends on its head is written so
abbrev pub IsRecursionFault : List Statement → RecursionFault → Type 0
IsRecursionFault P (fault.Recursive line name) = FirstRecursive P line name
IsRecursionFault P fault.OutOfMemory = Unit {0}
