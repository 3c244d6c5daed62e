use Rattle.std.proofs.Common.{map, inr}
use Rattle.nogood_store.specs.Stored.{atom_of}
use Rattle.ground_noting.proofs.DraftLemmas.{added_new, adds_at}
use Rattle.ground_noting.proofs.drafting.add_once.Goals as goal

pub returns-in-Ok-push-clause-kept : goal.returns-in-Ok-push-clause-kept
returns-in-Ok-push-clause-kept c =
    inr (
      added_new c.args.atoms.now.keys
          (map atom_of c.args.kept.now.items) c.args.lit.atom c.in-Ok.is_new c.requires c.in-Ok.ensures.added c.if-is_new.true,
      c.in-Ok-push.ensures.items,
    )

pub returns-else-is_new-clause-kept : goal.returns-else-is_new-clause-kept
returns-else-is_new-clause-kept c =
    adds_at c.args.kept.now.items c.args.atoms.now.keys c.insert_full.new.self.keys c.in-Ok.place c.args.lit c.index.result.now
    c.in-Ok.is_new c.requires c.in-Ok.ensures.added c.if-is_new.false c.in-Ok.ensures.keys c.in-Ok.ensures.stored c.index.ensures
