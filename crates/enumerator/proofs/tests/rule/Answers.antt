use Rattle.enumerator.proofs.TestRules.{rule_fits}
use Rattle.enumerator.proofs.tests.rule.Goals as goal

pub returns : goal.returns
returns c = rule_fits c.in_ok-kind.kind c.in_ok-kind.head c.in_ok-pos.pos c.in_ok-neg.neg 1 c.in_ok-kind.ensures.fits c.in_ok-pos.ensures c.in_ok-neg.ensures
    c.new.result c.new-2.result c.new.ensures c.new-2.ensures c.in_ok-kind.ensures.kind
