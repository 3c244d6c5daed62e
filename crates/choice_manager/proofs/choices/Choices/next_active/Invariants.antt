use Rattle.std.proofs.Common.{take}
use Rattle.choice_manager.specs.Active.{NoneActiveIn}
use Rattle.choice_manager.proofs.choices.Choices.next_active.Given as goal

abbrev pub invariant-loop-inst : goal.invariant-loop-inst
invariant-loop-inst l = NoneActiveIn l.trail.stack l.instances (take l.inst-index l.inst-items)
