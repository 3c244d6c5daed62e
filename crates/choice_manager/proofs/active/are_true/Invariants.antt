use Rattle.std.proofs.Common.{◌≡◌, take, Some}
use Rattle.lists.specs.Lists.{Each}
use Rattle.alpha_outside.specs.declared.literal.Value.TheVariants.{True}
use Rattle.search_values.specs.Values.{value_of}
use Rattle.choice_manager.proofs.active.are_true.Given as goal

abbrev pub invariant-loop-a : goal.invariant-loop-a
invariant-loop-a l = Each (λ a. value_of l.trail.stack a ≡ Some True) (take l.a-index l.atoms)
