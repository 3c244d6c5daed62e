use Rattle.std.proofs.Common.{◌≡◌, ◌+◌, drop}
use Rattle.single_rules.specs.Renaming.{marks_of}
use Rattle.choice_rewrite.proofs.above.marks_of.Given as goal

abbrev pub invariant-loop-byte : goal.invariant-loop-byte
invariant-loop-byte l = (l.count ≡ l.byte-index) × (l.count + marks_of (drop l.byte-index l.name) ≡ marks_of l.name)
