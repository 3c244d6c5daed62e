-- When a store and a trail match.
use Rattle.std.specs.Prelude.{◌≡◌, ◌<◌, ◌≤◌, ℕ, cond, nat_lt, false, List, [], ◌∷◌, length, Some, slice_get, slice_index, set}
use Rattle.lists.specs.Lists.{◌∈◌}
use Rattle.alpha_outside.specs.declared.literal.Value.TheVariants.{True, MustBe}
use Rattle.alpha_outside.specs.declared.literal.Value.{Value}
use Rattle.alpha_outside.specs.declared.literal.Lit.{Lit}
use Rattle.search_values.specs.declared.entry.Entry.{Entry}
use Rattle.search_values.specs.Values.{is_up, lit, value_of, level_of, back_to, Holds, HoldsFully}
use Rattle.trail.specs.Assigning.{Trailed}
use Rattle.nogood_store.specs.Stored.{Stored, head_atom}
use Rattle.nogood_store.specs.Visits.{VisitIs}
use Rattle.nogood_store.specs.Watched.{AreMoved}
use Rattle.nogood_store.specs.declared.looking.Visit.{Visit}
use Rattle.nogood_store.specs.declared.looking.Visit.TheVariants.{Idle, Unit as Forces, Struck}

-- the oldest entries, so many
abbrev pub taken_up : ℕ → List Entry → List Entry
taken_up kept [] = []
taken_up kept (e ∷ rest) = cond (nat_lt (length rest) kept) (e ∷ rest) (taken_up kept rest)

-- the literal's atom has a value by which it doesn't hold
abbrev pub Fails : List Entry → Lit → Type 0
Fails stack l = (v : Value) × (value_of stack l.atom ≡ Some v) × (¬ (is_up v ≡ l.positive))

-- the nogood's watches suffice on the stack, of which so much was taken up: before it is unit or struck, an entry that isn't taken up yet
-- makes a watched literal hold
pub data Suffices (taken stack : List Entry) (s : Stored) : Type 0 where
  -- a literal fails that isn't the head's: the nogood says nothing
  OtherFails : (l : Lit) → l ∈ s.lits → (¬ (head_atom s.lits s.head ≡ Some l.atom)) → Fails stack l → Suffices taken stack s
  -- the head is true: the nogood says nothing
  HeadIsTrue : (a : ℕ) → head_atom s.lits s.head ≡ Some a → lit a false ∈ s.lits → value_of stack a ≡ Some True → Suffices taken stack s
  -- the head is must-be-true, and the third literal that is watched didn't hold fully
  HeadMustBe : (a : ℕ) (l : Lit) → head_atom s.lits s.head ≡ Some a → lit a false ∈ s.lits → value_of stack a ≡ Some MustBe → s.watches.third ≡ Some l → l ∈ s.lits → (¬ (l.atom ≡ a))
      → (¬ HoldsFully taken l) → Suffices taken stack s
  -- the first two that are watched didn't hold
  TwoAreMissing : (l k : Lit) → s.watches.first ≡ Some l → s.watches.second ≡ Some k → l ∈ s.lits → k ∈ s.lits → (¬ (l ≡ k)) → (¬ Holds taken l) → (¬ Holds taken k) → Suffices taken stack s

-- A store and a trail match: no more nogoods were visited than are stored, now and as each level was opened; what isn't taken up yet stands at the
-- present level; and the watches of each nogood that was visited suffice, now and as each level was opened.
pub record Matches (store : List Stored) (t : Trailed) : Type 0 where
  pub visited_within : t.visited ≤ length store
  pub visits_within : (k : ℕ) → k < level_of t.stack → slice_index t.visits k ≤ length store
  pub levels_are : length t.visits ≡ level_of t.stack
  pub lower_taken : (k : ℕ) → k < level_of t.stack → length (back_to k t.stack) ≤ t.kept
  pub now : (n : ℕ) (s : Stored) → n < t.visited → slice_get store n ≡ Some s → Suffices (taken_up t.kept t.stack) t.stack s
  pub below : (k n : ℕ) (s : Stored) → k < level_of t.stack → n < slice_index t.visits k → slice_get store n ≡ Some s → Suffices (back_to k t.stack) (back_to k t.stack) s

-- the watches suffice once the answer is carried out: at once where it is idle, and where it is unit after the value
abbrev pub SufficesAfter : List Entry → Stored → Visit → Type 0
SufficesAfter stack s Idle = Suffices stack stack s
SufficesAfter stack s (Forces place v) = (l : Lit) (e : Entry) → slice_get s.lits place ≡ Some l → e.atom ≡ l.atom → e.value ≡ v → Suffices stack (e ∷ stack) s
SufficesAfter stack s Struck = Unit {0}

-- what a visit makes of the store: it moves watches of this nogood alone, so that they suffice once its answer is carried out
pub record Visited (stack : List Entry) (old new : List Stored) (n : ℕ) (answer : Visit) : Type 0 where
  pub before : Stored
  pub after : Stored
  pub was : slice_get old n ≡ Some before
  pub becomes : new ≡ set old n after
  pub same_lits : after.lits ≡ before.lits
  pub same_head : after.head ≡ before.head
  pub moved : AreMoved stack before.lits (head_atom before.lits before.head) before.watches after.watches
  pub exact : VisitIs stack after answer
  pub suffices : SufficesAfter stack after answer
