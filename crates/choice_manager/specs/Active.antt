-- Which body atoms are active, and which instances are noted.
use Rattle.std.specs.Prelude.{◌≡◌, ℕ, ◌<◌, ◌⊎◌, true, List, [], ◌∷◌, ◌++◌, length, Option, Some, None, slice_get}
use Rattle.lists.specs.Lists.{◌∈◌, Each}
use Rattle.alpha_outside.specs.declared.literal.Value.TheVariants.{True, MustBe}
use Rattle.search_values.specs.declared.entry.Entry.{Entry}
use Rattle.search_values.specs.Values.{value_of, lit, Holds}
use Rattle.atom_pool.specs.declared.instances.Made.{Made}

-- the atom is the instance's body atom and is unassigned or must-be-true, all positive atoms are true, and no negative one is true or
-- must-be-true
pub record IsActiveBody (stack : List Entry) (k : Made) (b : ℕ) : Type 0 where
  pub has_body : k.body ≡ Some b
  pub not_yet : (value_of stack b ≡ None) ⊎ (value_of stack b ≡ Some MustBe)
  pub pos_true : Each (λ p. value_of stack p ≡ Some True) k.pos
  pub neg_not_up : Each (λ n. ¬ Holds stack (lit n true)) k.neg

-- the noted instances after one more: those without a body atom are never active, and are passed over
abbrev pub with_noted : List ℕ → ℕ → Option ℕ → List ℕ
with_noted noted inst None = noted
with_noted noted inst (Some body) = noted ++ inst ∷ []

-- each of these instances is there
abbrev pub AreThere : List Made → List ℕ → Type 0
AreThere made noted = (i : ℕ) → i ∈ noted → i < length made

-- each atom of the instances is one of so many
abbrev pub ArePlaced : ℕ → List Made → Type 0
ArePlaced atoms made =
    (k : Made) → k ∈ made → ((b : ℕ) → k.body ≡ Some b → b < atoms) × Each (λ p. p < atoms) k.pos × Each (λ n. n < atoms) k.neg

-- some noted instance has this active body
abbrev pub IsActiveIn : List Entry → List Made → List ℕ → ℕ → Type 0
IsActiveIn stack made noted b = (i : ℕ) × (i ∈ noted) × ((k : Made) × (slice_get made i ≡ Some k) × IsActiveBody stack k b)

-- no noted instance has an active body
abbrev pub NoneActiveIn : List Entry → List Made → List ℕ → Type 0
NoneActiveIn stack made noted = (i : ℕ) → i ∈ noted → (k : Made) → slice_get made i ≡ Some k → (b : ℕ) → ¬ IsActiveBody stack k b
