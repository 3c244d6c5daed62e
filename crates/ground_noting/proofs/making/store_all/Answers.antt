use Rattle.std.proofs.Common.{◌∙◌}
use Rattle.ground_noting.proofs.Adding.{some_drafts}
use Rattle.ground_noting.proofs.making.store_all.Goals as goal

pub returns-in_err-admit-clause-some : goal.returns-in_err-admit-clause-some
returns-in_err-admit-clause-some c =
    some_drafts c.args.nogoods.now c.admit.new.store c.loop-draft.draft-index c.args.drafts.now
    (c.in_err-admit.ensures.err ∙ c.loop-draft.invariant.0)

pub returns-clause-some : goal.returns-clause-some
returns-clause-some c = some_drafts c.args.nogoods.now c.loop-draft.nogoods c.loop-draft.draft-index c.args.drafts.now
    c.loop-draft.invariant.0
