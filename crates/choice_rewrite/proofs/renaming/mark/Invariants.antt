use Rattle.std.proofs.Common.{◌≡◌, ◌++◌}
use Rattle.single_rules.specs.Renaming.{marked}
use Rattle.choice_rewrite.proofs.renaming.mark.Given as goal

abbrev pub invariant-loop-left : goal.invariant-loop-left
invariant-loop-left l = l.bytes.items ++ marked l.left l.name ≡ marked l.marks l.name

abbrev pub decreases-loop-left : goal.decreases-loop-left
decreases-loop-left l = l.left
