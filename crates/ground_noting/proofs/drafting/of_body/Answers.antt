use Rattle.std.proofs.Common.{◌∙◌, sym, subst, true, false, ◌++◌}
use Rattle.lists.specs.Lists.{Each}
use Rattle.search_values.specs.Values.{lit}
use Rattle.search_values.specs.Tables.{lits_of}
use Rattle.nogood_store.specs.Stored.{LitsAreBelow}
use Rattle.ground_noting.specs.Instances.{AreBelow}
use Rattle.ground_noting.specs.Drafts.{IsDraft, head_lits}
use Rattle.ground_noting.proofs.DraftLemmas.{below_more, below_append, below_two, below_lits_of, below_head_lits}
use Rattle.ground_noting.proofs.drafting.of_body.Goals as goal

pub returns-clause-drafts : goal.returns-clause-drafts
returns-clause-drafts c = λ n body head positive negative.
    let first : LitsAreBelow n c.as_slice.result.now = subst (LitsAreBelow n) (sym (c.as_slice.ensures.value ∙ c.in_ok-lits.ensures))
    (below_more n (lit c.args.body false)
    (head_lits c.args.chosen c.args.head ++ lits_of true c.args.made.now.pos ++ lits_of false c.args.made.now.neg) body
    (below_append n (head_lits c.args.chosen c.args.head ++ lits_of true c.args.made.now.pos) (lits_of false c.args.made.now.neg)
    (below_append n (head_lits c.args.chosen c.args.head) (lits_of true c.args.made.now.pos)
    (below_head_lits n c.args.chosen c.args.head head) (below_lits_of n true c.args.made.now.pos positive))
    (below_lits_of n false c.args.made.now.neg negative))) in
    let last : LitsAreBelow n c.as_slice-4.result.now = subst (LitsAreBelow n) (sym (c.as_slice-4.ensures.value ∙ c.in_ok-lits-2.ensures))
    (below_two n c.args.head false c.args.body true head body) in
    c.in_ok-push_set-2.ensures.drafts n last
    (c.in_ok-push_each-2.ensures.drafts n body (subst (AreBelow n) (sym c.as_slice-3.ensures) negative)
    (c.in_ok-push_each.ensures.drafts n body (subst (AreBelow n) (sym c.as_slice-2.ensures) positive)
    (c.in_ok-push_set.ensures.drafts n first (subst (Each (IsDraft n)) (sym c.new-drafts.ensures.items) tt))))
