-- Which grounds can be closed, and what is said of all their atoms.
use Rattle.std.specs.Prelude.{◌≡◌, ℕ, ◌<◌, List, length, Some, slice_get}
use Rattle.lists.specs.Lists.{◌∈◌}
use Rattle.search_values.specs.declared.entry.Entry.{Entry}
use Rattle.search_values.specs.Values.{Value, MustBe, value_of}
use Rattle.search_values.specs.Nogoods.{Nogood}
use Rattle.search_values.specs.Tables.{BodyFits}
use Rattle.atom_pool.specs.declared.atom.AtomNode.TheVariants as node
use Rattle.atom_pool.specs.declared.ground.Ground.{Ground}
use Rattle.atom_pool.specs.declared.instances.Made.{Made}
use Rattle.ground_noting.specs.Instances.{kind_of, nogoods_of}
use Rattle.ground_noting.specs.Notings.{IsBodyOf}

-- the id is that of a named atom
abbrev pub IsNamed : Ground → ℕ → Type 0
IsNamed g x = (p : ℕ) × (args : List ℕ) × (slice_get g.atoms.atoms x ≡ Some (node.Named p args))

-- head and atoms of the instance are named atoms
pub record IsOverNamed (g : Ground) (k : Made) : Type 0 where
  pub head : (h : ℕ) → k.head ≡ Some h → IsNamed g h
  pub pos : (p : ℕ) → p ∈ k.pos → IsNamed g p
  pub neg : (n : ℕ) → n ∈ k.neg → IsNamed g n

-- each instance is over named atoms and has a body atom exactly where the table of its nogoods has one, and each body atom is that of an
-- instance
pub record IsClosable (g : Ground) : Type 0 where
  pub named : (k : Made) → k ∈ g.instances → IsOverNamed g k
  pub fits : (k : Made) → k ∈ g.instances → BodyFits (kind_of k.kind k.head) k.neg k.body
  pub bodies : (b i : ℕ) → IsBodyOf g b i → (k : Made) × (slice_get g.instances i ≡ Some k) × (k.body ≡ Some b)

-- the nogoods of each instance are among these
abbrev pub HoldsAll : Ground → List Nogood → Type 0
HoldsAll g ngs = (k : Made) → k ∈ g.instances → (ng : Nogood) → ng ∈ nogoods_of k → ng ∈ ngs

-- no named atom is must-be-true
abbrev pub NoneMustBe : Ground → List Entry → Type 0
NoneMustBe g stack = (x : ℕ) → IsNamed g x → ¬ (value_of stack x ≡ Some MustBe)

-- each atom has a value, and none is must-be-true
pub record IsFull (g : Ground) (stack : List Entry) : Type 0 where
  pub all_valued : (x : ℕ) → x < length g.atoms.atoms → (v : Value) × (value_of stack x ≡ Some v)
  pub none_must_be : (x : ℕ) → x < length g.atoms.atoms → ¬ (value_of stack x ≡ Some MustBe)
