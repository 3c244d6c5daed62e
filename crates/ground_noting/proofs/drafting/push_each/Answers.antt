use Rattle.std.proofs.Common.{arith, sym, subst, map, ◌∙◌}
use Rattle.nogood_store.specs.Stored.{LitsAreBelow}
use Rattle.ground_noting.specs.Drafts.{nogood_of}
use Rattle.ground_noting.proofs.DraftLemmas.{each_step, below_two, member_at}
use Rattle.ground_noting.proofs.drafting.push_each.Goals as goal

pub loop-atom-preserved : goal.loop-atom-preserved
loop-atom-preserved c =
    let same = c.as_slice.ensures.value ∙ c.in_ok-lits.ensures in (
      each_step c.args.body c.args.positive c.args.atoms.now c.loop-atom.atom-index c.atom-item.result
          (map nogood_of c.loop-atom.drafts.items) (map nogood_of c.push_set.new.drafts.items) _
          c.as_slice.result.now (omega arith) c.atom-item.is same c.in_ok-push_set.ensures.table c.loop-atom.invariant.0,
      λ n body below each. c.in_ok-push_set.ensures.drafts n
          (subst (LitsAreBelow n) (sym same)
          (below_two n c.args.body _ c.atom-item.result _ body
          (below c.atom-item.result
          (member_at c.args.atoms.now c.loop-atom.atom-index c.atom-item.result (omega arith) c.atom-item.is))))
          (c.loop-atom.invariant.1 n body below each),
    )
