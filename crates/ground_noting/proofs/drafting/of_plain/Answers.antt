use Rattle.std.proofs.Common.{rules, ◌≡◌, sym, subst, true, false, ◌∷◌}
use Rattle.lists.specs.Lists.{Each}
use Rattle.search_values.specs.Values.{lit}
use Rattle.search_values.specs.Tables.{lits_of}
use Rattle.nogood_store.specs.Stored.{LitsAreBelow}
use Rattle.ground_noting.specs.Drafts.{IsDraft}
use Rattle.ground_noting.proofs.DraftLemmas.{below_more, below_lits_of}
use Rattle.ground_noting.proofs.drafting.of_plain.Goals as goal

pub returns-clause-drafts : goal.returns-clause-drafts
returns-clause-drafts c = λ n head positive.
    let are : c.as_slice-2.result.now ≡ lit c.args.head false ∷ lits_of true c.args.made.now.pos = search rules in
    c.in_ok-push_set.ensures.drafts n
    (subst (LitsAreBelow n) (sym are)
    (below_more n (lit c.args.head false) (lits_of true c.args.made.now.pos) head (below_lits_of n true c.args.made.now.pos positive)))
    (subst (Each (IsDraft n)) (sym c.new-drafts.ensures.items) tt)
