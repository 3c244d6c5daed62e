-- Which literals of a nogood are watched, and what a visit may make of them.
use Rattle.std.specs.Prelude.{◌≡◌, ◌⊎◌, ℕ, suc, ◌+◌, ◌*◌, Bool, true, false, ◌||◌, cond, nat_eq, List, [], ◌∷◌, get_or, Option, Some, None, slice_get}
use Rattle.std.specs.List.{count_by}
use Rattle.lists.specs.Lists.{◌∈◌}
use Rattle.alpha_outside.specs.declared.literal.Lit.{Lit}
use Rattle.search_values.specs.declared.entry.Entry.{Entry}
use Rattle.search_values.specs.Values.{Holds, HoldsFully}
use Rattle.nogood_store.specs.declared.watching.Watches.{Watches}
use Rattle.nogood_store.specs.Stored.{Stored}

-- each literal has a number, and each atom two
abbrev pub number_of : Lit → ℕ
number_of l = 2 * l.atom + cond l.positive 1 0

-- whether the slot has this literal
abbrev pub is_at : Option Lit → Lit → Bool
is_at None l = false
is_at (Some k) l = nat_eq (number_of k) (number_of l)

abbrev pub is_watched : Watches → Lit → Bool
is_watched w l = (is_at w.first l || is_at w.second l) || is_at w.third l

abbrev pub no_watches : Watches
no_watches = record { first = None; second = None; third = None }

-- the nogood of this id watches the literal
abbrev pub Watching : List Stored → Lit → ℕ → Type 0
Watching store l n = (s : Stored) × (slice_get store n ≡ Some s) × (is_watched s.watches l ≡ true)

-- how many nogoods watch the literal
abbrev pub watch_count : List Stored → Lit → ℕ
watch_count store l = count_by (λ (s : Stored). is_watched s.watches l) store

-- a nogood that was just added watches its first two literals
abbrev pub first_watches : List Lit → Watches
first_watches [] = record { first = None; second = None; third = None }
first_watches (l ∷ []) = record { first = Some l; second = None; third = None }
first_watches (l ∷ k ∷ rest) = record { first = Some l; second = Some k; third = None }

-- the watched literals are the nogood's; the first two differ, and the third isn't that of the head
pub record AreWatches (lits : List Lit) (head : Option ℕ) (w : Watches) : Type 0 where
  pub first_in : (l : Lit) → w.first ≡ Some l → l ∈ lits
  pub second_in : (l : Lit) → w.second ≡ Some l → l ∈ lits
  pub third_in : (l : Lit) → w.third ≡ Some l → l ∈ lits
  pub third_beside : (l : Lit) → w.third ≡ Some l → ¬ (head ≡ Some l.atom)
  pub differ : (l : Lit) → w.first ≡ Some l → ¬ (w.second ≡ Some l)

-- the slot has a literal that doesn't hold
abbrev pub IsMissing : List Entry → Option Lit → Type 0
IsMissing stack slot = (l : Lit) × (slot ≡ Some l) × (¬ Holds stack l)

-- the slot has a literal that doesn't hold fully
abbrev pub IsDull : List Entry → Option Lit → Type 0
IsDull stack slot = (l : Lit) × (slot ≡ Some l) × (¬ HoldsFully stack l)

-- at most one literal doesn't hold
abbrev pub OneMissing : List Entry → List Lit → Type 0
OneMissing stack lits = (l k : Lit) → l ∈ lits → k ∈ lits → (¬ Holds stack l) → (¬ Holds stack k) → l ≡ k

-- where a literal beside that of the head doesn't hold fully, the third that is watched doesn't
abbrev pub ThirdIsDull : List Entry → List Lit → Option ℕ → Watches → Type 0
ThirdIsDull stack lits head w = (a : ℕ) → head ≡ Some a → (l : Lit) → l ∈ lits → (¬ (l.atom ≡ a)) → (¬ HoldsFully stack l) → IsDull stack w.third

-- what a visit makes of the watches: each stays or moves to a literal that doesn't hold, or doesn't hold fully; and the first two are literals
-- that don't hold, or there aren't two such and the third is one that doesn't hold fully, where there is one
pub record AreMoved (stack : List Entry) (lits : List Lit) (head : Option ℕ) (before after : Watches) : Type 0 where
  pub first : (after.first ≡ before.first) ⊎ IsMissing stack after.first
  pub second : (after.second ≡ before.second) ⊎ IsMissing stack after.second
  pub third : (after.third ≡ before.third) ⊎ IsDull stack after.third
  pub are_watches : AreWatches lits head after
  pub enough : (IsMissing stack after.first × IsMissing stack after.second) ⊎ (OneMissing stack lits × ThirdIsDull stack lits head after)

-- ---- the lists of watchers

-- the list of a literal
abbrev pub row_of : List (List ℕ) → Lit → List ℕ
row_of rows l = get_or rows (number_of l) []

-- what the nogoods that watch the literal weigh together
abbrev pub weight : (ℕ → ℕ) → ℕ → List Stored → Lit → ℕ
weight f n [] l = 0
weight f n (s ∷ rest) l = cond (is_watched s.watches l) (f n) 0 + weight f (suc n) rest l

-- what the ids of a list weigh together
abbrev pub weigh : (ℕ → ℕ) → List ℕ → ℕ
weigh f [] = 0
weigh f (n ∷ ns) = f n + weigh f ns

-- the list of each literal has the ids of the nogoods that watch it, each once: whatever an id weighs, both weigh the same
abbrev pub AreListed : List (List ℕ) → List Stored → Type 0
AreListed rows store = (f : ℕ → ℕ) (l : Lit) → weigh f (row_of rows l) ≡ weight f 0 store l

-- the slot's literal, unless it is watched
abbrev pub fresh : Option Lit → Watches → Option Lit
fresh None w = None
fresh (Some l) w = cond (is_watched w l) None (Some l)

-- the first two alone
abbrev pub two_of : Watches → Watches
two_of w = record { first = w.first; second = w.second; third = None }
