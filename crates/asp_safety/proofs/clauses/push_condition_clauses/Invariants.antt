use Rattle.std.proofs.Common.{◌≡◌, ◌++◌, map, drop}
use Rattle.lists.specs.Lists.{concat}
use Rattle.asp_safety.specs.ClauseLists.{literal_clauses}
use Rattle.asp_safety.proofs.clauses.push_condition_clauses.Given as goal

abbrev pub invariant-loop-literal : goal.invariant-loop-literal
invariant-loop-literal l = l.into ++ concat (map literal_clauses (drop l.literal-index l.condition)) ≡ l.initial.into ++ concat (map literal_clauses l.condition)
