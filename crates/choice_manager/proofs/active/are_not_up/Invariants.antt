use Rattle.std.proofs.Common.{take, true}
use Rattle.lists.specs.Lists.{Each}
use Rattle.search_values.specs.Values.{Holds, lit}
use Rattle.choice_manager.proofs.active.are_not_up.Given as goal

abbrev pub invariant-loop-a : goal.invariant-loop-a
invariant-loop-a l = Each (λ a. ¬ Holds l.trail.stack (lit a true)) (take l.a-index l.atoms)
