-- Named atoms, and the atoms of instances.
use Rattle.std.proofs.Common.{◌≡◌, ℕ, ◌<◌, ◌≤◌, ◌+◌, false, List, Some, slice_get, true≢false, sym, ap, subst, ◌∙◌}
use Rattle.std.specs.Prelude.{Option, is_some}
use Rattle.std.proofs.lemmas.Option.{same_Some}
use borrow.Author.Count.{below_more}
use Rattle.search_values.specs.declared.entry.Entry.{Entry}
use Rattle.search_values.proofs.Basics.{get_in}
use Rattle.lists.specs.Lists.{Each}
use Rattle.atom_pool.specs.Atoms.{pred_of}
use Rattle.atom_pool.specs.declared.atom.AtomNode.{AtomNode}
use Rattle.atom_pool.specs.declared.atom.AtomNode.TheVariants as node
use Rattle.atom_pool.specs.declared.instances.Made.{Made}
use Rattle.choice_manager.specs.Active.{ArePlaced, IsActiveBody}
use Rattle.search_fronts.specs.Fronts.{IsNamedAt}

-- an atom without a predicate isn't named
pub no_pred : (atoms : List AtomNode) (x : ℕ) (o : Option ℕ) → ((n : AtomNode) → slice_get atoms x ≡ Some n → o ≡ pred_of n)
    → is_some o ≡ false → ¬ IsNamedAt atoms x
no_pred atoms x o told lacks named = true≢false (sym (ap is_some (told (node.Named named.0 named.1) named.2)) ∙ lacks)

-- the atoms of an instance that is there
pub body_below : (places : ℕ) (made : List Made) (x : ℕ) (k : Made) → ArePlaced places made → slice_get made x ≡ Some k
    → (b : ℕ) → k.body ≡ Some b → b < places
body_below places made x k placed at = (placed k (get_in made x k at)).0

pub pos_below : (places : ℕ) (made : List Made) (x : ℕ) (k : Made) → ArePlaced places made → slice_get made x ≡ Some k
    → Each (λ p. p < places) k.pos
pos_below places made x k placed at = (placed k (get_in made x k at)).1

pub neg_below : (places : ℕ) (made : List Made) (x : ℕ) (k : Made) → ArePlaced places made → slice_get made x ≡ Some k
    → Each (λ n. n < places) k.neg
neg_below places made x k placed at = (placed k (get_in made x k at)).2

-- one more has no active body
pub none_more : (stack : List Entry) (made : List Made) (from i : ℕ) (k : Made) → slice_get made i ≡ Some k
    → ((j : ℕ) → from ≤ j → j < i → (l : Made) → slice_get made j ≡ Some l → (b : ℕ) → ¬ IsActiveBody stack l b)
    → ((b : ℕ) → ¬ IsActiveBody stack k b)
    → (j : ℕ) → from ≤ j → j < i + 1 → (l : Made) → slice_get made j ≡ Some l → (b : ℕ) → ¬ IsActiveBody stack l b
none_more stack made from i k here before idle j low high l at b active =
    below_more (λ n. slice_get made n ≡ Some l → from ≤ n → ⊥) i (λ n under there after. before n after under l there b active)
    (λ there after. idle b (subst (λ m. IsActiveBody stack m b) (same_Some l k (sym there ∙ here)) active)) j high at low
