-- What a loop over atoms or instances did so far.
use Rattle.std.proofs.Common.{◌≡◌, ℕ, ◌+◌, ◌≤◌, List, length, refl, ◌∙◌, ap, subst, arith}
use Rattle.std.specs.Prelude.{Option}
use Rattle.alpha_outside.specs.Outside.{Journal}
use Rattle.nogood_store.specs.Matching.{Matches}
use Rattle.nogood_store.specs.Stored.{Stored}
use Rattle.trail.specs.Assigning.{Trailed}
use Rattle.atom_pool.specs.declared.ground.Ground.{Ground}
use Rattle.ground_noting.specs.declared.telling.Told.{Told}
use Rattle.ground_noting.specs.Notings.{IsTold, Noted, Stores}
use Rattle.ground_noting.proofs.NotingLemmas.{noted_none, noted_on, instances_rise}
use Rattle.ground_noting.proofs.StoringLemmas.{stores_none, stores_on}

-- events were noted, and what belongs to them was stored
pub record SoFar (g : Ground) (t : Trailed) (u u' : Told) (told told' : Option Journal) (s s' : List Stored) (c c' : List ℕ)
    (f f' : ℕ) : Type 0 where
  pub noted : Noted g u u' told told'
  pub stores : Stores g u.instances u'.instances s s' c c'
  pub matches : Matches s' t
  pub later : f ≤ f'

-- nothing yet
pub so_far_none : (g : Ground) (t : Trailed) (u : Told) (told : Option Journal) (s : List Stored) (c : List ℕ) (f : ℕ) → Matches s t
    → SoFar g t u u told told s s c c f f
so_far_none g t u told s c f m =
    record { noted = noted_none g u told told refl; stores = stores_none g u.instances s c; matches = m; later = omega arith }

-- and one part more
pub so_far_on : (g : Ground) (t : Trailed) (u u' u'' : Told) (told told' told'' : Option Journal) (s s' s'' : List Stored)
    (c c' c'' : List ℕ) (f f' f'' : ℕ) → u''.instances ≤ length g.instances
    → SoFar g t u u' told told' s s' c c' f f' → SoFar g t u' u'' told' told'' s' s'' c' c'' f' f''
    → SoFar g t u u'' told told'' s s'' c c'' f f''
so_far_on g t u u' u'' told told' told'' s s' s'' c c' c'' f f' f'' low p q = record {
  noted = noted_on g u u' u'' told told' told'' p.noted q.noted;
  stores = stores_on g u.instances u'.instances u''.instances s s' s'' c c' c'' (instances_rise g u u' p.noted.events p.noted.notes)
      (instances_rise g u' u'' q.noted.events q.noted.notes) low p.stores q.stores;
  matches = q.matches;
  later = let a = p.later in let b = q.later in omega (arith, a, b);
}

-- instances alone were noted
pub instances_alone : (a b c : Told) → b ≡ record a { instances = b.instances } → c ≡ record b { instances = b.instances + 1 }
    → c ≡ record a { instances = c.instances }
instances_alone a b c p q =
    λ i. record {
      terms = (ap (λ (t : Told). t.terms) q ∙ ap (λ (t : Told). t.terms) p) i;
      atoms =
          (ap (λ (t : Told). t.atoms) q ∙ ap (λ (t : Told). t.atoms) p) i;
      instances = c.instances;
    }

-- atoms and instances alone were noted
pub terms_stay : (a b c : Told) → b ≡ record a { atoms = b.atoms; instances = b.instances }
    → c ≡ record b { atoms = b.atoms + 1; instances = c.instances } → c ≡ record a { atoms = c.atoms; instances = c.instances }
terms_stay a b c p q =
    λ i. record { terms = (ap (λ (t : Told). t.terms) q ∙ ap (λ (t : Told). t.terms) p) i; atoms = c.atoms; instances = c.instances }

-- terms alone were noted
pub terms_alone : (a b c : Told) → b ≡ record a { terms = b.terms } → c ≡ record b { terms = b.terms + 1 }
    → c ≡ record a { terms = c.terms }
terms_alone a b c p q =
    λ i. record {
      terms = c.terms;
      atoms = (ap (λ (t : Told). t.atoms) q ∙ ap (λ (t : Told). t.atoms) p) i;
      instances =
          (ap (λ (t : Told). t.instances) q ∙ ap (λ (t : Told). t.instances) p) i;
    }

-- what is stored when the terms, the atoms and the last instances were noted
pub all_stored : (g : Ground) (u u1 u2 u3 : Told) (n : ℕ) (j1 j2 j3 : Option Journal) (s s' s'' : List Stored) (c c' c'' : List ℕ)
    → u1 ≡ record u { terms = n } → Noted g u1 u2 j1 j2 → Noted g u2 u3 j2 j3 → IsTold g u3
    → Stores g u1.instances u2.instances s s' c c' → Stores g u2.instances u3.instances s' s'' c' c''
    → Stores g u.instances u3.instances s s'' c c''
all_stored g u u1 u2 u3 n j1 j2 j3 s s' s'' c c' c'' same p q t x y =
    subst (λ m. Stores g m u3.instances s s'' c c'') (ap (λ (w : Told). w.instances) same)
    (stores_on g u1.instances u2.instances u3.instances s s' s'' c c' c'' (instances_rise g u1 u2 p.events p.notes)
    (instances_rise g u2 u3 q.events q.notes) t.instances x y)
