use Rattle.std.proofs.Common.{◌≡◌, take}
use Rattle.asp_syntax.proofs.tree.Term.+copy.Given as goal

abbrev pub invariant-loop-arg : goal.invariant-loop-arg
invariant-loop-arg l = l.copies ≡ take l.arg-index l.arg-items
