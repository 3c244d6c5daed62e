use Rattle.std.proofs.Common.{rules, ◌≡◌, sym, ap, ◌∙◌}
use Rattle.std.proofs.lemmas.Result.{IfOk-weaker}
use Rattle.unification.proofs.Unifier.{head_low}
use Rattle.unification.proofs.Exactness.{head_some, head_none, head_uncovered, head_covered, head_many, head_formed}
use Rattle.unification.proofs.unifying.unify.Goals as goal

pub unify_head-requires-clause-below : goal.unify_head-requires-clause-below
unify_head-requires-clause-below c = head_low c.args.rule.now.head c.in-Some.head c.args.rule.now.variables c.in-Some.is c.requires.below

pub returns-clause-some : goal.returns-clause-some
returns-clause-some c = IfOk-weaker c.unify_head.result _ _ (λ found k.
    head_some c.unify_head.new.pool c.args.rule.now.variables c.args.rule.now.head c.in-Some.head c.args.pattern.now c.in-Some.is found k) c.unify_head.ensures.found

pub returns-clause-none : goal.returns-clause-none
returns-clause-none c = IfOk-weaker c.unify_head.result _ _ (λ found k.
    head_none c.unify_head.new.pool c.args.rule.now.variables c.args.rule.now.head c.in-Some.head c.args.pattern.now c.in-Some.is found k) c.unify_head.ensures.found

pub returns-clause-uncovered : goal.returns-clause-uncovered
returns-clause-uncovered c = IfOk-weaker c.unify_head.result _ _ (λ found k.
    head_uncovered c.unify_head.new.pool c.args.rule.now.variables c.args.rule.now.head c.in-Some.head c.args.pattern.now c.in-Some.is found k) c.unify_head.ensures.found

pub returns-clause-covered : goal.returns-clause-covered
returns-clause-covered c = IfOk-weaker c.unify_head.result _ _ (λ found k.
    head_covered c.unify_head.new.pool c.args.rule.now.variables c.args.rule.now.head c.in-Some.head c.args.pattern.now c.in-Some.is found k) c.unify_head.ensures.found

pub returns-clause-many : goal.returns-clause-many
returns-clause-many c = IfOk-weaker c.unify_head.result _ _ (λ found k.
    head_many c.unify_head.new.pool c.args.rule.now.variables c.in-Some.head c.args.pattern.now found k) c.unify_head.ensures.found

pub returns-clause-formed : goal.returns-clause-formed
returns-clause-formed c = IfOk-weaker c.unify_head.result _ _ (λ found k.
    head_formed c.unify_head.new.pool c.args.rule.now.variables c.in-Some.head c.args.pattern.now found k) c.unify_head.ensures.found
