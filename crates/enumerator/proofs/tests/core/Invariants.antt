use Rattle.std.proofs.Common.{[]}
use Rattle.lists.specs.Lists.{Each}
use Rattle.core_rules.specs.CoreForm.{IsRuleForm}
use Rattle.core_rules.specs.Names.{IsNamedRule}
use Rattle.enumerator.proofs.tests.core.Given as goal

abbrev pub invariant-loop-line : goal.invariant-loop-line
invariant-loop-line l = Each (λ r. IsRuleForm [] r × IsNamedRule r) l.rules
