use Rattle.std.proofs.Common.{rules, ◌≡◌, sym, subst, true, false, ◌++◌}
use Rattle.lists.specs.Lists.{Each}
use Rattle.search_values.specs.Tables.{lits_of}
use Rattle.nogood_store.specs.Stored.{LitsAreBelow}
use Rattle.ground_noting.specs.Drafts.{IsDraft}
use Rattle.ground_noting.proofs.DraftLemmas.{below_append, below_lits_of}
use Rattle.ground_noting.proofs.drafting.of_constraint.Goals as goal

pub returns-clause-drafts : goal.returns-clause-drafts
returns-clause-drafts c = λ n positive negative.
    let are : c.as_slice-3.result.now ≡ lits_of true c.args.made.now.pos ++ lits_of false c.args.made.now.neg = search rules in
    c.in_ok-push_set.ensures.drafts n
    (subst (LitsAreBelow n) (sym are)
    (below_append n (lits_of true c.args.made.now.pos) (lits_of false c.args.made.now.neg)
    (below_lits_of n true c.args.made.now.pos positive) (below_lits_of n false c.args.made.now.neg negative)))
    (subst (Each (IsDraft n)) (sym c.new-drafts.ensures.items) tt)
