use Rattle.std.proofs.Common.{drop}
use Rattle.lists.specs.Lists.{Each}
use Rattle.justification.specs.Heads.{NeverGives}
use Rattle.justification.proofs.heads.is_underivable.Given as goal

abbrev pub invariant-loop-rule : goal.invariant-loop-rule
invariant-loop-rule l =
    Each (NeverGives l.fn.core.aggregates l.fn.ground l.fn.atom) (drop l.rule-index l.rule-items) → Each (NeverGives l.fn.core.aggregates l.fn.ground l.fn.atom) l.rule-items
