use Rattle.justification.proofs.HeadLemmas.{headless, by_head}
use Rattle.justification.proofs.heads.may_give.Goals as goal

pub returns-in-None : goal.returns-in-None
returns-in-None c = λ ended aggs form stand. headless aggs c.args.ground.now c.args.atom c.args.rule.now c.in-None.is

pub returns-in_ok-may_become-in-Some : goal.returns-in_ok-may_become-in-Some
returns-in_ok-may_become-in-Some c = λ ended aggs form stand.
    by_head aggs c.args.ground.now c.args.atom c.args.rule.now c.in-Some.head c.in-Some.is (c.in_ok-may_become-in-Some.ensures ended aggs form stand)
