-- What each fault says of a program.
use Rattle.std.specs.Prelude.{◌≡◌, List}
use Rattle.lists.specs.Lists.{Each}
use Rattle.asp_syntax.specs.declared.tree.Statement.{Statement}
use Rattle.asp_safety.specs.declared.fault.SafetyFault.{SafetyFault}
use Rattle.asp_safety.specs.declared.fault.SafetyFault.TheVariants as fault
use Rattle.asp_safety.specs.Binding.{IsSafe}
use Rattle.asp_strata.specs.Recursion.{HasNoRecursion}
use Rattle.asp_strata.specs.Firsts.{FirstRecursive}
use Rattle.asp_safety.specs.Firsts.{FirstUnbound, FirstUnsafe}

-- the statement is unsafe, begins in this line, and its first variable that isn't bound is spelled so
abbrev pub IsStatementFault : Statement → SafetyFault → Type 0
IsStatementFault s (fault.Unsafe line variable) = (¬ IsSafe s) × (line ≡ s.line) × FirstUnbound s variable
IsStatementFault s (fault.AggregateRecursive line name) = ⊥
IsStatementFault s fault.OutOfMemory = Unit {0}

-- the first unsafe statement of the program begins in this line, and its first variable that isn't bound is spelled so
abbrev pub IsVariableFault : List Statement → SafetyFault → Type 0
IsVariableFault P (fault.Unsafe line variable) = FirstUnsafe P line variable
IsVariableFault P (fault.AggregateRecursive line name) = ⊥
IsVariableFault P fault.OutOfMemory = Unit {0}

-- the first unsafe statement with its first unbound variable; or all are safe, and this is the first statement with a recursive
-- aggregate, with the first predicate in its elements that depends on its head
abbrev pub IsFault : List Statement → SafetyFault → Type 0
IsFault P (fault.Unsafe line variable) = FirstUnsafe P line variable
IsFault P (fault.AggregateRecursive line name) = Each IsSafe P × FirstRecursive P line name
IsFault P fault.OutOfMemory = Unit {0}

-- the program is accepted
abbrev pub IsAccepted : List Statement → Type 0
IsAccepted P = Each IsSafe P × Each (HasNoRecursion P) P
