-- Before which atoms, instances and entries nothing is open.
use Rattle.std.specs.Prelude.{◌≡◌, ℕ, ◌<◌, ◌≤◌, List, length, Some, None, slice_get}
use Rattle.alpha_outside.specs.declared.literal.Value.TheVariants.{MustBe}
use Rattle.search_values.specs.declared.entry.Entry.{Entry}
use Rattle.search_values.specs.Values.{value_of, before_closed}
use Rattle.trail.specs.Assigning.{MayRise}
use Rattle.atom_pool.specs.declared.atom.AtomNode.{AtomNode}
use Rattle.atom_pool.specs.declared.atom.AtomNode.TheVariants as node
use Rattle.atom_pool.specs.declared.instances.Made.{Made}
use Rattle.search_fronts.specs.declared.fronts.Fronts.{Fronts}

-- the id is that of a named atom
abbrev pub IsNamedAt : List AtomNode → ℕ → Type 0
IsNamedAt atoms x = (p : ℕ) × (args : List ℕ) × (slice_get atoms x ≡ Some (node.Named p args))

-- the body atom of each instance is its body
abbrev pub HaveBodies : List AtomNode → List Made → Type 0
HaveBodies atoms made = (i b : ℕ) (k : Made) → slice_get made i ≡ Some k → k.body ≡ Some b → slice_get atoms b ≡ Some (node.Body i)

-- the body of the instance, where it has one, is true or false
abbrev pub HasSettledBody : List Entry → Made → Type 0
HasSettledBody stack k = (b : ℕ) → k.body ≡ Some b → ¬ MayRise (value_of stack b)

-- before the fronts nothing is open on this stack
pub record AreFronts (atoms : List AtomNode) (made : List Made) (stack : List Entry) (f : Fronts) : Type 0 where
  pub assigned_within : f.assigned ≤ length atoms
  pub not_must_within : f.not_must ≤ length atoms
  pub settled_within : f.settled ≤ length made
  pub assigned : (x : ℕ) → x < f.assigned → IsNamedAt atoms x → ¬ (value_of stack x ≡ None)
  pub not_must : (x : ℕ) → x < f.not_must → IsNamedAt atoms x → ¬ (value_of stack x ≡ Some MustBe)
  pub settled : (i : ℕ) (k : Made) → i < f.settled → slice_get made i ≡ Some k → HasSettledBody stack k
  pub unclosed : f.unclosed ≡ length (before_closed stack)

-- nothing was looked at
abbrev pub no_fronts : Fronts
no_fronts = record { assigned = 0; not_must = 0; settled = 0; unclosed = 0 }
