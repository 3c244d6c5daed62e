-- How the fronts of a search stand beside its other fields.
use Rattle.std.proofs.Common.{◌≡◌, ℕ, List, [], ◌++◌, length, refl, sym, ap, subst, arith}
use Rattle.search_values.specs.declared.entry.Entry.{Entry}
use Rattle.trail.specs.Assigning.{Trailed}
use Rattle.atom_pool.specs.declared.atom.AtomNode.{AtomNode}
use Rattle.atom_pool.specs.declared.instances.Made.{Made}
use Rattle.atom_pool.specs.declared.ground.Ground.{Ground}
use Rattle.choice_manager.specs.Active.{ArePlaced}
use Rattle.lazy_grounder.specs.Dues.{Makes}
use Rattle.search_fronts.specs.declared.fronts.Fronts as front
use Rattle.search_fronts.specs.Fronts.{AreFronts, HaveBodies, no_fronts}
use Rattle.search_fronts.proofs.Moving.{fronts_grown}
use Rattle.search_state.specs.Searching.{Fields, Ties}
use Rattle.search_state.proofs.Bodies.{made_are_placed}

-- the body atoms are those of the instances
pub have_bodies : (f : Fields) → Ties f → HaveBodies f.ground.atoms.atoms f.ground.instances
have_bodies f ties = ties.built.bodies_named

-- the atoms of the instances have places
pub are_placed : (f : Fields) → Ties f → ArePlaced f.trail.atoms f.ground.instances
are_placed f ties = made_are_placed f.ground.instances (length f.ground.atoms.atoms) f.trail.atoms ties.placed ties.built.whole.within

-- at first nothing was looked at
pub fronts_new : (atoms : List AtomNode) (made : List Made) (stack : List Entry) (f : front.Fronts) → f ≡ no_fronts → stack ≡ []
    → AreFronts atoms made stack f
fronts_new atoms made stack f none empty =
    subst (AreFronts atoms made stack) (sym none)
    (subst (λ s. AreFronts atoms made s no_fronts) (sym empty) (record {
      assigned_within = omega arith;
      not_must_within = omega arith;
      settled_within = omega arith;
      assigned = λ x low. absurd (omega (arith, low));
      not_must = λ x low. absurd (omega (arith, low));
      settled = λ i k low. absurd (omega (arith, low));
      unclosed = refl;
    }))

-- a call of the grounder opens nothing before the fronts
pub fronts_made : (Wanted : List ℕ → Type 0) (g g' : Ground) (t t' : Trailed) (left left' : ℕ) → Makes Wanted g g' t t' left left'
    → (f : front.Fronts) → AreFronts g.atoms.atoms g.instances t.stack f → AreFronts g'.atoms.atoms g'.instances t'.stack f
fronts_made Wanted g g' t t' left left' makes f old =
    subst (λ s. AreFronts g'.atoms.atoms g'.instances s f) (sym (ap (λ (x : Trailed). x.stack) makes.trail))
    (subst (λ ns. AreFronts ns g'.instances t.stack f) (sym makes.atoms)
    (subst (λ ks. AreFronts (g.atoms.atoms ++ makes.more_atoms) ks t.stack f) (sym makes.made)
    (fronts_grown g.atoms.atoms makes.more_atoms g.instances makes.more t.stack f old)))
