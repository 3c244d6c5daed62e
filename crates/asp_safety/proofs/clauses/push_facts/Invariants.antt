use Rattle.std.proofs.Common.{◌≡◌, ◌++◌, map, drop}
use Rattle.asp_safety.specs.ClauseLists.{fact}
use Rattle.asp_safety.proofs.clauses.push_facts.Given as goal

abbrev pub invariant-loop-key : goal.invariant-loop-key
invariant-loop-key l = l.into ++ map fact (drop l.key-index l.keys) ≡ l.initial.into ++ map fact l.keys
