-- What of a ground was noted, in which order that may be, and what is stored with it.
use Rattle.std.specs.Prelude.{◌≡◌, ◌⊎◌, ℕ, ◌+◌, ◌<◌, ◌≤◌, List, [], ◌∷◌, ◌++◌, map, length, Option, Some, None, option_map, slice_get}
use Rattle.lists.specs.Lists.{◌∈◌, Each}
use Rattle.alpha_outside.specs.Outside.{Journal, Rose}
use Rattle.alpha_outside.specs.declared.event.Event.{Event}
use Rattle.alpha_outside.specs.declared.event.Event.TheVariants as say
use Rattle.alpha_outside.specs.declared.node.Node.{Node}
use Rattle.alpha_outside.specs.declared.pred.Pred.{Pred}
use Rattle.nogood_store.specs.Stored.{Stored, nogood_of, LitsAreBelow}
use Rattle.propagation.specs.Runs.{with_events}
use Rattle.atom_pool.specs.declared.atom.AtomNode.TheVariants as node
use Rattle.atom_pool.specs.declared.ground.Ground.{Ground}
use Rattle.atom_pool.specs.declared.instances.Made.{Made}
use Rattle.atom_pool.specs.Meanings.{IsBeside}
use Rattle.ground_noting.specs.declared.telling.Told.{Told}
use Rattle.ground_noting.specs.declared.telling.NoteFault.{NoteFault}
use Rattle.ground_noting.specs.declared.telling.NoteFault.TheVariants.{TraceFault, OutOfMemory}
use Rattle.ground_noting.specs.Instances.{IsWithin, HasTermsBelow, all_nogoods, all_noted, between}

-- ---- what is asked of a ground

-- the atom with this id is the body atom of this instance
abbrev pub IsBodyOf : Ground → ℕ → ℕ → Type 0
IsBodyOf g b i = slice_get g.atoms.atoms b ≡ Some (node.Body i)

-- What a ground has to be so that it can be noted.
pub record IsNotable (g : Ground) : Type 0 where
  -- the arguments of atoms are there
  pub beside : IsBeside g.atoms (length g.terms)
  -- the atoms of instances are there
  pub within : (i : ℕ) (k : Made) → slice_get g.instances i ≡ Some k → IsWithin (length g.atoms.atoms) k
  -- the terms of their makers are there
  pub makers : (i : ℕ) (k : Made) → slice_get g.instances i ≡ Some k → HasTermsBelow (length g.terms) k.maker
  -- an atom that is the body of an instance is the body atom that this instance has
  pub bodies : (b i : ℕ) → IsBodyOf g b i → (k : Made) × (slice_get g.instances i ≡ Some k) × (k.body ≡ Some b)
  -- and the body atom that an instance has is its body
  pub has_body : (i : ℕ) (k : Made) → slice_get g.instances i ≡ Some k → (b : ℕ) → k.body ≡ Some b → IsBodyOf g b i
  -- the atoms of an instance come before the body atom of each later one
  pub in_order : (i j : ℕ) (k : Made) → i < j → slice_get g.instances i ≡ Some k → (b : ℕ) → IsBodyOf g b j → IsWithin b k

-- ---- what was noted

-- No more was noted than there is. The atoms of an instance that was noted were noted before, and a body that was noted is that of
-- an instance that was noted, or of the next one.
pub record IsTold (g : Ground) (u : Told) : Type 0 where
  pub terms : u.terms ≤ length g.terms
  pub atoms : u.atoms ≤ length g.atoms.atoms
  pub instances : u.instances ≤ length g.instances
  pub within : (i : ℕ) (k : Made) → i < u.instances → slice_get g.instances i ≡ Some k → IsWithin u.atoms k
  pub bodies : (b i : ℕ) → b < u.atoms → IsBodyOf g b i → i ≤ u.instances

-- no atom that was noted is the body of the next instance
abbrev pub NoneWaits : Ground → Told → Type 0
NoneWaits g u = (b : ℕ) → b < u.atoms → ¬ IsBodyOf g b u.instances

-- the body atom of the next instance was noted; where it has none, no atom that was noted waits for it
abbrev pub BodyIsNext : Ground → Told → Option ℕ → Type 0
BodyIsNext g u None = NoneWaits g u
BodyIsNext g u (Some b) = (b < u.atoms) × IsBodyOf g b u.instances

-- These events note a ground from one point up to another: terms, atoms and instances each in the order of their ids, and each only after
-- what it is made of.
pub data Notes (g : Ground) (from : Told) : List Event → Told → Type 0 where
  -- nothing is noted
  Nothing : Notes g from [] from
  -- the next term
  NextTerm : (events : List Event) (u : Told) → Notes g from events u → (n : Node) → slice_get g.terms u.terms ≡ Some n
      → Notes g from (events ++ say.Term u.terms n ∷ []) (record u { terms = u.terms + 1 })
  -- the next atom, a named one whose arguments were noted
  NextAtom : (events : List Event) (u : Told) → Notes g from events u → (p : ℕ) (args : List ℕ) (pred : Pred)
      → slice_get g.atoms.atoms u.atoms ≡ Some (node.Named p args)
      → slice_get g.atoms.preds p ≡ Some pred → Each (λ t. t < u.terms) args
      → Notes g from (events ++ say.Atom u.atoms pred args ∷ []) (record u { atoms = u.atoms + 1 })
  -- the next atom, the body of the next instance, of which no body was noted
  NextBody : (events : List Event) (u : Told) → Notes g from events u → IsBodyOf g u.atoms u.instances → NoneWaits g u
      → Notes g from (events ++ say.Body u.atoms u.instances ∷ []) (record u { atoms = u.atoms + 1 })
  -- the next instance, whose atoms and terms were noted
  NextMade : (events : List Event) (u : Told) → Notes g from events u → (k : Made) → slice_get g.instances u.instances ≡ Some k
      → IsWithin u.atoms k → HasTermsBelow u.terms k.maker → BodyIsNext g u k.body
      → Notes g from (events ++ say.Made u.instances k.maker ∷ []) (record u { instances = u.instances + 1 })

-- a part of a ground was noted, and the trace tells it
pub record Noted (g : Ground) (from to : Told) (told told' : Option Journal) : Type 0 where
  pub events : List Event
  pub notes : Notes g from events to
  pub tells : told' ≡ option_map (with_events events) told

-- all of the ground was noted
abbrev pub all_of : Ground → Told
all_of g = record { terms = length g.terms; atoms = length g.atoms.atoms; instances = length g.instances }

-- ---- what is stored

-- The nogoods of the instances from one id up to another were stored, in order, over atoms that are there, and each of these instances
-- was noted as a choice. An instance comes into the store and the choices before its event is noted: so after a fault these may know of
-- one instance that isn't noted, and the journal is the front of one that goes on.
pub record Stores (g : Ground) (from to : ℕ) (store store' : List Stored) (choices choices' : List ℕ) : Type 0 where
  pub added : List Stored
  pub stored : store' ≡ store ++ added
  pub nogoods : map nogood_of added ≡ all_nogoods (between g.instances from to)
  pub placed : Each (λ (s : Stored). LitsAreBelow (length g.atoms.atoms) s.lits) added
  pub noted : choices' ≡ all_noted choices from (between g.instances from to)

-- Whatever the answer, each nogood that came is over atoms that are there, and each instance that was noted as a choice is there.
pub record Adds (g : Ground) (store store' : List Stored) (choices choices' : List ℕ) : Type 0 where
  pub placed : (s : Stored) → s ∈ store' → (s ∈ store) ⊎ LitsAreBelow (length g.atoms.atoms) s.lits
  pub there : (i : ℕ) → i ∈ choices' → (i ∈ choices) ⊎ (i < length g.instances)

-- a fault of the trace comes only where its count rose
abbrev pub IsCause : ℕ → ℕ → NoteFault → Type 0
IsCause faults faults' TraceFault = Rose faults faults'
IsCause faults faults' OutOfMemory = Unit {0}
