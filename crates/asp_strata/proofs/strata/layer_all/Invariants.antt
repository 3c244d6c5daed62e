use Rattle.std.proofs.Common.{◌≡◌, ◌⊎◌, ℕ, List, drop, length}
use Rattle.lists.specs.Lists.{◌∈◌, ◌⊆◌, Each}
use Rattle.asp_syntax.specs.declared.tree.Statement.{Statement}
use Rattle.asp_strata.specs.Recursion.{HasNoRecursion}
use Rattle.asp_strata.specs.Firsts.{FirstRecursiveOf}
use Rattle.asp_strata.specs.Graphs.{KeepsUp, IsLayered}
use Rattle.asp_strata.proofs.strata.layer_all.Given as goal

abbrev pub invariant-loop-statement : goal.invariant-loop-statement
invariant-loop-statement l =
    let P = l.graph.statements.now in
    let left = drop l.statement-index P in
    record {
      count : length l.strata ≡ length l.initial.strata;
      keeps_up : KeepsUp l.graph.rows.items l.strata;
      inside : left ⊆ P;
      layered : (s : Statement) → s ∈ P → (s ∈ left) ⊎ IsLayered l.graph.table l.strata s;
      all : Each (HasNoRecursion P) left → Each (HasNoRecursion P) P;
      first : (line : ℕ) (name : List ℕ) → FirstRecursiveOf P left line name → FirstRecursiveOf P P line name;
    }
