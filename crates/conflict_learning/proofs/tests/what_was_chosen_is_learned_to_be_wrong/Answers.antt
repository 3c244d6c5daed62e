use Rattle.std.proofs.Common.{◌≡◌, List, [], ◌∷◌, length, map, ◌∙◌, ap}
use Rattle.trail.specs.Assigning.{Trailed}
use Rattle.nogood_store.specs.Stored.{nogood_of}
use Rattle.conflict_learning.proofs.Tested.{two, choice, given, stack_is, nogoods_are, one_there, all_rest, only_one}
use Rattle.conflict_learning.proofs.tests.what_was_chosen_is_learned_to_be_wrong.Goals as goal

pub analyse-requires-clause-rests : goal.analyse-requires-clause-rests
analyse-requires-clause-rests g c =
    let stack : c.set_mbt.new.self.stack ≡ given ∷ choice ∷ [] =
    stack_is c.new-trail.result c.reserve_atom.new.self c.reserve_atom-2.new.self c.decide.new.self c.set_mbt.new.self
    c.in_ok-gives.gives
    (ap (λ (t : Trailed). t.stack) c.new-trail.ensures) c.in_ok-reserve_atom.ensures.ok c.in_ok-reserve_atom-2.ensures.ok
    c.decide.ensures c.set_mbt.ensures (c.in_ok-gives.ensures.id ∙ ap length c.new-store.ensures) in
    let ngs : map nogood_of c.add-2.new.self ≡ two =
    nogoods_are c.new-store.result c.add.new.self c.add-2.new.self c.lit.result c.lit-2.result c.lit-3.result c.lit-4.result
    c.new-store.ensures c.in_ok-gives.ensures.ok c.in_ok-struck.ensures.ok c.lit.ensures c.lit-2.ensures c.lit-3.ensures c.lit-4.ensures
    in
    all_rest (map nogood_of c.add-2.new.self) c.set_mbt.new.self.stack ngs stack

pub analyse-requires-clause-preferred : goal.analyse-requires-clause-preferred
analyse-requires-clause-preferred g c =
    let stack : c.set_mbt.new.self.stack ≡ given ∷ choice ∷ [] =
    stack_is c.new-trail.result c.reserve_atom.new.self c.reserve_atom-2.new.self c.decide.new.self c.set_mbt.new.self
    c.in_ok-gives.gives
    (ap (λ (t : Trailed). t.stack) c.new-trail.ensures) c.in_ok-reserve_atom.ensures.ok c.in_ok-reserve_atom-2.ensures.ok
    c.decide.ensures c.set_mbt.ensures (c.in_ok-gives.ensures.id ∙ ap length c.new-store.ensures) in
    let ngs : map nogood_of c.add-2.new.self ≡ two =
    nogoods_are c.new-store.result c.add.new.self c.add-2.new.self c.lit.result c.lit-2.result c.lit-3.result c.lit-4.result
    c.new-store.ensures c.in_ok-gives.ensures.ok c.in_ok-struck.ensures.ok c.lit.ensures c.lit-2.ensures c.lit-3.ensures c.lit-4.ensures
    in
    only_one (map nogood_of c.add-2.new.self) c.set_mbt.new.self.stack c.in_ok-struck.struck ngs stack
    (c.in_ok-struck.ensures.id ∙ one_there c.new-store.result c.add.new.self _ c.new-store.ensures c.in_ok-gives.ensures.ok)
