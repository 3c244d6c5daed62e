use Rattle.std.proofs.Common.{◌≡◌, ◌++◌, drop}
use Rattle.std.specs.Prelude.{filter}
use Rattle.asp_safety.specs.ClauseLists.{is_among}
use Rattle.asp_safety.proofs.clauses.copy_among.Given as goal

abbrev pub invariant-loop-key : goal.invariant-loop-key
invariant-loop-key l = l.kept ++ filter (is_among l.set.keys) (drop l.key-index l.keys) ≡ filter (is_among l.set.keys) l.keys
