-- What a program is that was checked.
use Rattle.std.specs.Prelude.{List}
use Rattle.lists.specs.Lists.{Each}
use Rattle.asp_syntax.specs.declared.tree.Statement.{Statement}
use Rattle.asp_strata.specs.Recursion.{HasNoRecursion}
use Rattle.asp_strata.specs.Strata.{IsStratification, Levels, stratum_of}
use Rattle.asp_safety.specs.Binding.{IsSafe}

-- what contracts see of a program that was checked: its statements, and its predicates with their strata
pub record Checked : Type 0 where
  pub statements : List Statement
  pub levels : Levels

-- it is safe, has no recursive aggregate, and its strata are right
pub record IsChecked (c : Checked) : Type 0 where
  pub safe : Each IsSafe c.statements
  pub no_recursion : Each (HasNoRecursion c.statements) c.statements
  pub strata_rise : IsStratification c.statements (stratum_of c.levels)
