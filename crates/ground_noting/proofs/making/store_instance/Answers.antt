use Rattle.std.proofs.Common.{◌⊎◌, List, length, map, ◌++◌, ◌∙◌, ap, sym, subst}
use Rattle.lists.specs.Lists.{◌∈◌, Each}
use Rattle.nogood_store.specs.Stored.{Stored}
use Rattle.ground_noting.specs.declared.drafting.Draft.{Draft}
use Rattle.ground_noting.specs.Notings.{Adds}
use Rattle.ground_noting.specs.Drafts.{IsStorable, stored_of}
use Rattle.ground_noting.proofs.Adding.{adds_drafts, adds_either}
use Rattle.ground_noting.proofs.StoringLemmas.{storable, stores_one, on_ok}
use Rattle.ground_noting.proofs.making.store_instance.Goals as goal
use Rattle.ground_noting.proofs.making.store_instance.Goals.{After-store_all}

pub store_all-requires-clause-storable : goal.store_all-requires-clause-storable
store_all-requires-clause-storable c =
    let n = length c.args.ground.now.atoms.atoms in
    subst (Each IsStorable) (sym c.as_slice.ensures.value)
    (storable n c.in_ok-drafts.drafts.items
    (c.in_ok-drafts.ensures.drafts n (c.requires.notable.within c.args.inst c.get.result.now c.get.ensures)))

pub returns-clause-ok : goal.returns-clause-ok
returns-clause-ok c = on_ok c.note_instance.result c.note_instance.ensures.ok (λ noted.
    stores_one c.args.ground.now c.args.inst c.get.result.now c.in_ok-drafts.drafts.items c.args.nogoods.now c.store_all.new.nogoods
    c.args.choices.now c.note_instance.new.self
    c.get.ensures c.in_ok-drafts.ensures.table
    (c.in_ok-drafts.ensures.drafts (length c.args.ground.now.atoms.atoms)
    (c.requires.notable.within c.args.inst c.get.result.now c.get.ensures))
    (c.in_ok-store_all.ensures.all ∙ ap (λ l. c.args.nogoods.now ++ map stored_of l) c.as_slice.ensures.value)
    (noted c.get.result.now c.get.ensures))

-- its drafts came into the store
came : (c : After-store_all) → Adds c.args.ground.now c.args.nogoods.now c.store_all.new.nogoods c.args.choices.now c.args.choices.now
came c =
    adds_drafts c.args.ground.now c.in_ok-drafts.drafts.items c.args.nogoods.now c.store_all.new.nogoods c.args.choices.now
    (c.in_ok-drafts.ensures.drafts (length c.args.ground.now.atoms.atoms)
    (c.requires.notable.within c.args.inst c.get.result.now c.get.ensures))
    (subst (λ (ds : List Draft). (s : Stored) → s ∈ c.store_all.new.nogoods → (s ∈ c.args.nogoods.now) ⊎ (s ∈ map stored_of ds))
    c.as_slice.ensures.value c.store_all.ensures.some)

pub returns-in_err-store_all-clause-adds : goal.returns-in_err-store_all-clause-adds
returns-in_err-store_all-clause-adds c = came (goal.at.returns-in_err-store_all-clause-adds c).After-store_all

pub returns-clause-adds : goal.returns-clause-adds
returns-clause-adds c =
    adds_either c.note_instance.result c.args.ground.now c.args.inst c.get.result.now.body c.args.nogoods.now c.store_all.new.nogoods
    c.args.choices.now c.note_instance.new.self c.requires.there c.note_instance.ensures.ok
    (λ noted. noted c.get.result.now c.get.ensures) c.note_instance.ensures.err (came (goal.at.returns-clause-adds c).After-store_all)
