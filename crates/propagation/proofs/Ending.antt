-- The nogoods that weren't visited, and how a propagation ends.
use Rattle.std.proofs.Common.{◌≡◌, ℕ, suc, ◌+◌, ◌-◌, ◌<◌, ◌≤◌, ◌⊎◌, List, [], ◌∷◌, length, drop, reverse, refl, sym, ◌∙◌, ap, subst, inl, inr, arith}
use Rattle.std.specs.Prelude.{Option, Some, slice_get, ⊤}
use Rattle.lists.specs.Lists.{◌∈◌}
use Rattle.alpha_outside.specs.Outside.{Journal}
use Rattle.search_values.specs.declared.entry.Entry.{Entry}
use Rattle.search_values.specs.Nogoods.{Nogood, IsStruck, Gives, NoneStruck, NoneUnit}
use Rattle.trail.specs.Assigning.{Trailed, IsStackOf}
use Rattle.nogood_store.specs.Stored.{Stored, nogood_of}
use Rattle.nogood_store.specs.Matching.{taken_up, Suffices}
use Rattle.nogood_store.proofs.Suffice.{suffices_less, says_nothing}
use Rattle.nogood_store.proofs.Matched.{there_below, marked_match}
use Rattle.nogood_store.proofs.Visiting.{IsLower, lower_taken}
use Rattle.propagation.specs.Runs.{SameNogoods, nogoods_of, Ran, Propagated, TheseSuffice, OthersStay, NoEntry, IsBounded, FixIs}
use Rattle.propagation.specs.declared.fixpoint.Fix.TheVariants.{Quiet}
use Rattle.propagation.proofs.Taking.{puts_taken}
use Rattle.propagation.proofs.Visits.{same_length}

-- ---- those that weren't visited

below_or_not : (a b : ℕ) → (a < b) ⊎ (b ≤ a)
below_or_not a b = grind arith

-- after they were visited all suffice
pub new_suffices : (ids : List ℕ) (store store' : List Stored) (t t' : Trailed) (a b : Option Journal) → IsStackOf t.atoms t.stack → t.kept ≤ length t.stack → Ran store store' t t' a b
    → ((n : ℕ) → t.visited ≤ n → n < length store → n ∈ ids) → TheseSuffice (λ n. n ∈ ids) t.stack t'.stack store' → TheseSuffice (λ n. ⊤) (taken_up t'.kept t'.stack) t'.stack store'
new_suffices ids store store' t t' a b lawful within r all new n s u at = elim (below_or_not n t.visited) [
  | inl old ↦ r.matches.now n s (let v = ap (λ (x : Trailed). x.visited) r.trail in omega (arith, old, v)) at
  | inr young ↦ subst (λ (x : List Entry). Suffices x t'.stack s) (sym same)
      (suffices_less (taken_up t.kept t.stack) t.stack t'.stack s lower.holds lower.full
      (new n s (all n young (let h = there_below store' n s at in let l = same_length store store' r.same in omega (arith, h, l))) at))
]
  where
    lower : IsLower (taken_up t.kept t.stack) t.stack
    lower = lower_taken t.atoms t.kept t.stack lawful

    same : taken_up t'.kept t'.stack ≡ taken_up t.kept t.stack
    same = ap (λ k. taken_up k t'.stack) (ap (λ (x : Trailed). x.kept) r.trail) ∙ (puts_taken (nogoods_of store) t.stack t'.stack r.events t.kept r.puts within).0

-- ---- what it costs

-- where no entry was taken up
pub bounded_new : (s0 s1 : List Stored) (t0 t1 : Trailed) (steps0 steps1 : ℕ) → SameNogoods s0 s1 → OthersStay (λ n. t0.visited ≤ n) s0 s1 → steps1 ≤ steps0 + (length s0 - t0.visited)
    → IsBounded s0 s1 t0 t1 steps0 steps1
bounded_new s0 s1 t0 t1 steps0 steps1 same stay cost = record {
  start = s1;
  entries = [];
  cost = 0;
  same = same;
  others = stay;
  taken = NoEntry;
  which = (drop t0.kept (reverse t1.stack), refl);
  bound = omega (arith, cost);
}

-- ---- what it answers

-- where a nogood is struck
pub struck_values : (s0 s1 : List Stored) (t0 t1 : Trailed) (a b : Option Journal) → Ran s0 s1 t0 t1 a b → Propagated s0 s1 t0 t1 a b
struck_values s0 s1 t0 t1 a b r = record {
  same = r.same;
  events = r.events;
  puts = r.puts;
  trail = λ i. record { stack = t1.stack; atoms = atoms i; kept = t1.kept; visited = t1.visited; visits = visits i };
  tells = r.tells;
  matches = r.matches;
}
  where
    atoms : t1.atoms ≡ t0.atoms
    atoms = ap (λ (x : Trailed). x.atoms) r.trail

    visits : t1.visits ≡ t0.visits
    visits = ap (λ (x : Trailed). x.visits) r.trail

-- a nogood of the theory is one that is stored
stored_at : (store : List Stored) (ng : Nogood) → ng ∈ nogoods_of store → (n : ℕ) × (s : Stored) × (slice_get store n ≡ Some s) × (ng ≡ nogood_of s)
stored_at [] ng i = absurd i
stored_at (s ∷ rest) ng (inl e) = (0, s, refl, e)
stored_at (s ∷ rest) ng (inr i) = let w = stored_at rest ng i in (suc w.0, w.1, w.2, w.3)

-- where all watches suffice on the whole stack, and the trail is marked
module _ (s0 s1 : List Stored) (t0 t1 t2 : Trailed) (a b : Option Journal) (r : Ran s0 s1 t0 t1 a b) (all : TheseSuffice (λ n. ⊤) t1.stack t1.stack s1) (stored : ℕ) (is : stored ≡ length s1)
    (mark : t2 ≡ record t1 { kept = length t1.stack; visited = stored }) where
  abbrev marked : Trailed
  marked = record t1 { kept = length t1.stack; visited = length s1 }

  is_marked : t2 ≡ marked
  is_marked = mark ∙ ap (λ k. let x : Trailed = record t1 { kept = length t1.stack; visited = k } in x) is

  values : Propagated s0 s1 t0 marked a b
  values = record {
    same = r.same;
    events = r.events;
    puts = r.puts;
    trail = λ i. record { stack = t1.stack; atoms = atoms i; kept = length t1.stack; visited = length s1; visits = visits i };
    tells = r.tells;
    matches = marked_match s1 t1 r.matches (λ n s at. all n s tt at);
  }
    where
      atoms : t1.atoms ≡ t0.atoms
      atoms = ap (λ (x : Trailed). x.atoms) r.trail

      visits : t1.visits ≡ t0.visits
      visits = ap (λ (x : Trailed). x.visits) r.trail

  pub quiet_values : Propagated s0 s1 t0 t2 a b
  quiet_values = subst (λ (x : Trailed). Propagated s0 s1 t0 x a b) (sym is_marked) values

  none_struck : NoneStruck t1.stack (nogoods_of s1)
  none_struck ng i h = let w = stored_at s1 ng i in (says_nothing t1.stack w.1 (all w.0 w.1 tt w.2)).0 (subst (λ (x : Nogood). IsStruck t1.stack x) w.3 h)

  none_unit : NoneUnit t1.stack (nogoods_of s1)
  none_unit ng i x v h = let w = stored_at s1 ng i in (says_nothing t1.stack w.1 (all w.0 w.1 tt w.2)).1 x v (subst (λ (y : Nogood). Gives t1.stack y x v) w.3 h)

  pub quiet_fix : FixIs s1 t2 Quiet
  quiet_fix = subst (λ (x : Trailed). FixIs s1 x Quiet) (sym is_marked) (none_struck, none_unit, refl, refl)
