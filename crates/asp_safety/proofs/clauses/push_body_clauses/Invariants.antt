use Rattle.std.proofs.Common.{◌≡◌, ◌++◌, map, drop}
use Rattle.lists.specs.Lists.{concat}
use Rattle.asp_safety.specs.ClauseLists.{item_clauses}
use Rattle.asp_safety.proofs.clauses.push_body_clauses.Given as goal

abbrev pub invariant-loop-item : goal.invariant-loop-item
invariant-loop-item l = l.into ++ concat (map (item_clauses l.globals.keys) (drop l.item-index l.body)) ≡ l.initial.into ++ concat (map (item_clauses l.globals.keys) l.body)
