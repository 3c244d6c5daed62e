-- Rounds of closing follow one another, from a quiet start, to a struck nogood, a stuck atom or the end.
use Rattle.std.proofs.Common.{◌≡◌, ℕ, ◌+◌, ◌<◌, ◌≤◌, ◌⊎◌, List, [], ◌∷◌, ◌++◌, length, drop, reverse, refl, sym, ◌∙◌, ap, subst, inl, inr, arith}
use Rattle.std.specs.Prelude.{Option, Some, None, option_map, Result, Ok, Err, IfOk, IfErr}
use Rattle.lists.specs.Lists.{Each}
use Rattle.lists.proofs.ListLemmas.{∈-map}
use Rattle.alpha_outside.specs.Outside.{Journal, with_event}
use Rattle.alpha_outside.specs.declared.event.Event.{Event}
use Rattle.alpha_outside.specs.declared.event.Event.TheVariants as say
use Rattle.search_values.specs.declared.entry.Entry.{Entry}
use Rattle.search_values.specs.declared.entry.Why.TheVariants.{Closed}
use Rattle.search_values.specs.Values.{MustBe, False, value_of, entry_on}
use Rattle.search_values.specs.Nogoods.{Nogood, NoneStruck, NoneUnit}
use Rattle.search_values.proofs.Basics.{get_in}
use Rattle.trail.specs.Assigning.{Trailed, assigned}
use Rattle.nogood_store.specs.Stored.{Stored, nogood_of, AllAreBelow}
use Rattle.nogood_store.specs.Matching.{Matches}
use Rattle.nogood_store.proofs.Matched.{opened_keeps}
use Rattle.propagation.specs.Runs.{nogoods_of, with_events, OneMore, Propagated, Faulted, IsCause, IsStruckAt, IsBounded, FixIs}
use Rattle.propagation.specs.declared.putting.PropFault.{PropFault}
use Rattle.propagation.specs.declared.putting.PropFault.TheVariants.{TraceFault, OutOfMemory}
use Rattle.propagation.specs.declared.fixpoint.Fix.TheVariants.{Quiet}
use Rattle.propagation.proofs.Running.{tells_none, tells_on, same_nogoods}
use Rattle.propagation.proofs.Ending.{bounded_new}
use Rattle.propagation.proofs.Visits.{same_below}
use Rattle.atom_pool.specs.declared.ground.Ground.{Ground}
use Rattle.closing.specs.declared.rounds.Closing.{Closing}
use Rattle.closing.specs.declared.rounds.Closing.TheVariants as ends
use Rattle.closing.specs.Closable.{IsNamed, NoneMustBe, IsFull}
use Rattle.closing.specs.Closings.{closed_on, IsNext, Closes, NoRound, Round, HasClosed, OneClosed, Stopped, IsSpent, Later, EndsBy, SettledIs, ClosingIs}
use Rattle.closing.proofs.Values.{HasValue, closes_must, quiet_puts, nogoods_below, Comes, puts_comes, longer, each_comes, none_comes, closes_valued, puts_valued, newest_valued, none_closed, named_below, closed_taken}

append_none : (xs : List Event) → xs ++ [] ≡ xs
append_none [] = refl
append_none (x ∷ xs) = ap (λ ys. x ∷ ys) (append_none xs)

append_assoc : (xs ys zs : List Event) → (xs ++ ys) ++ zs ≡ xs ++ (ys ++ zs)
append_assoc [] ys zs = refl
append_assoc (x ∷ xs) ys zs = ap (λ ws. x ∷ ws) (append_assoc xs ys zs)

-- ---- results that aren't taken apart

pub if_ok : {A E : Type 0} (P Q : A → Type 0) (r : Result A E) → ((x : A) → P x → Q x) → IfOk r P → IfOk r Q
if_ok P Q (Ok x) f h = f x h
if_ok P Q (Err e) f h = tt

pub if_err : {A E : Type 0} (P Q : E → Type 0) (r : Result A E) → ((e : E) → P e → Q e) → IfErr r P → IfErr r Q
if_err P Q (Ok x) f h = tt
if_err P Q (Err e) f h = f e h

-- a fault that is told by a later count of faults is told by an earlier one
pub cause_later : (f0 f1 f2 : ℕ) → f0 ≤ f1 → (f : PropFault) → IsCause f1 f2 f → IsCause f0 f2 f
cause_later f0 f1 f2 le TraceFault rose = omega (arith, le, rose)
cause_later f0 f1 f2 le OutOfMemory rose = tt

-- ---- nogoods over atoms that are there

-- the nogoods are over atoms that have a place
pub below_more : (m n : ℕ) (store : List Stored) → m ≤ n → AllAreBelow m store → AllAreBelow n store
below_more m n store le below i s at l j = let low = below i s at l j in omega (arith, low, le)

-- ---- one propagation

module _ (g : Ground) (s0 s1 : List Stored) (t0 t1 : Trailed) (a b : Option Journal) (p : Propagated s0 s1 t0 t1 a b) (below : AllAreBelow (length g.atoms.atoms) s0) (within : t0.kept ≤ length t0.stack) where
  comes : Comes (length g.atoms.atoms) t0.stack t1.stack
  comes = puts_comes (length g.atoms.atoms) (nogoods_of s0) (nogoods_below (length g.atoms.atoms) s0 below) t0.stack t1.stack p.events p.puts

  -- the entries that were there are still there
  pub prop_within : t0.kept ≤ length t1.stack
  prop_within = subst (λ (s : List Entry). t0.kept ≤ length s) (sym comes.is) (longer comes.above t0.stack t0.kept within)

  -- those that came are of atoms that are there
  pub prop_there : Each (λ (e : Entry). e.atom < length g.atoms.atoms) (drop t0.kept (reverse t0.stack)) → Each (λ (e : Entry). e.atom < length g.atoms.atoms) (drop t0.kept (reverse t1.stack))
  prop_there = each_comes (length g.atoms.atoms) t0.kept t0.stack t1.stack comes within

  -- where none of them must be true, none must
  pub prop_none : NoneMustBe g t0.stack → Each (λ (e : Entry). IsNamed g e.atom → ¬ (value_of t1.stack e.atom ≡ Some MustBe)) (drop t0.kept (reverse t1.stack)) → NoneMustBe g t1.stack
  prop_none = none_comes g (length g.atoms.atoms) t0.kept t0.stack t1.stack comes within

-- the places stay
pub prop_places : (n : ℕ) (s0 s1 : List Stored) (t0 t1 : Trailed) (a b : Option Journal) → Propagated s0 s1 t0 t1 a b → n ≤ t0.atoms → n ≤ t1.atoms
prop_places n s0 s1 t0 t1 a b p h = subst (λ k. n ≤ k) (sym (ap (λ (x : Trailed). x.atoms) p.trail)) h

-- ---- the start, where nothing is unit

pub start_stack : (s0 s1 : List Stored) (t0 t1 : Trailed) (a b : Option Journal) → Propagated s0 s1 t0 t1 a b → NoneUnit t0.stack (nogoods_of s0) → t1.stack ≡ t0.stack
start_stack s0 s1 t0 t1 a b p quiet = (quiet_puts (nogoods_of s0) t0.stack t1.stack p.events p.puts quiet).1

pub start_closes : (g : Ground) (s0 s1 : List Stored) (t0 t1 : Trailed) (a b : Option Journal) → Propagated s0 s1 t0 t1 a b → NoneUnit t0.stack (nogoods_of s0) → HasClosed g s0 s1 t0 t1 a b
start_closes g s0 s1 t0 t1 a b p quiet =
    let r = quiet_puts (nogoods_of s0) t0.stack t1.stack p.events p.puts quiet in
    record {
      same = p.same;
      events = [];
      closes = subst (λ (s : List Entry). Closes g (nogoods_of s0) t0.stack [] s) (sym r.1) NoRound;
      atoms = ap (λ (x : Trailed). x.atoms) p.trail;
      tells = subst (λ (es : List Event). b ≡ option_map (with_events es) a) r.0 p.tells;
      matches = p.matches;
    }

pub start_stops : (g : Ground) (s0 s1 : List Stored) (t0 t1 : Trailed) (a b : Option Journal) → Faulted s0 s1 t0 t1 a b → NoneUnit t0.stack (nogoods_of s0) → Stopped g s0 s1 t0 t1 a b
start_stops g s0 s1 t0 t1 a b f quiet =
    let r = quiet_puts (nogoods_of s0) t0.stack f.stack f.events f.puts quiet in
    record {
      same = f.same;
      events = [];
      stack = t0.stack;
      closes = NoRound;
      more = inl (subst (λ (s : List Entry). OneMore (nogoods_of s0) s t1.stack) r.1 f.more);
      atoms = ap (λ (x : Trailed). x.atoms) f.trail;
      tells = subst (λ (es : List Event). b ≡ option_map (with_events es) a) r.0 f.tells;
      matches = f.matches;
    }

-- ---- one round

-- the trail after the atom was closed
abbrev pub closed_trail : Trailed → ℕ → Trailed
closed_trail t a = assigned t a False (Closed None)

module _ (g : Ground) (s : List Stored) (t t1 : Trailed) (a : ℕ) (is : t1 ≡ closed_trail t a) where
  -- the atom may be closed
  pub next_is : IsNamed g a → value_of t.stack a ≡ None → FixIs s t Quiet → NoneMustBe g t.stack → IsNext g (nogoods_of s) t.stack a
  next_is named free quiet none = record { named = named; unassigned = free; none_struck = quiet.0; none_unit = quiet.1; none_must_be = none }

  -- what is asked before its propagation
  pub round_places : (n : ℕ) → n ≤ t.atoms → n ≤ t1.atoms
  round_places n h = subst (λ (x : Trailed). n ≤ x.atoms) (sym is) h

  pub round_matches : Matches s t → t.kept ≡ length t.stack → value_of t.stack a ≡ None → Matches s t1
  round_matches m marked free = subst (λ (x : Trailed). Matches s x) (sym is) (opened_keeps s t m marked a False (Closed None) refl (inl free))

  pub round_taken : t.kept ≡ length t.stack → IsNamed g a → Each (λ (e : Entry). e.atom < length g.atoms.atoms) (drop t1.kept (reverse t1.stack))
  round_taken marked named = subst (λ (x : Trailed). Each (λ (e : Entry). e.atom < length g.atoms.atoms) (drop x.kept (reverse x.stack))) (sym is)
      (closed_taken (length g.atoms.atoms) t.kept a t.stack marked (named_below g a named))

  pub round_none : NoneMustBe g t.stack → NoneMustBe g t1.stack
  round_none none = subst (λ (x : Trailed). NoneMustBe g x.stack) (sym is) (none_closed g t.stack a none)

  module _ (s2 : List Stored) (t2 : Trailed) (told b c : Option Journal) (next : IsNext g (nogoods_of s) t.stack a) where
    -- the round, with its propagation
    pub round_closes : b ≡ option_map (with_event (say.Closed a)) told → Propagated s s2 t1 t2 b c → HasClosed g s s2 t t2 told c
    round_closes noted q = go (subst (λ (x : Trailed). Propagated s s2 x t2 b c) is q)
      where
        go : Propagated s s2 (closed_trail t a) t2 b c → HasClosed g s s2 t t2 told c
        go p = record {
          same = p.same;
          events = say.Closed a ∷ p.events;
          closes = Round [] t.stack NoRound a next p.events t2.stack p.puts;
          atoms = ap (λ (x : Trailed). x.atoms) p.trail;
          tells = tells_on (say.Closed a ∷ []) p.events told b c noted p.tells;
          matches = p.matches;
        }

    -- its atom has a value then
    pub round_valued : Propagated s s2 t1 t2 b c → HasValue t2.stack a
    round_valued q = go (subst (λ (x : Trailed). Propagated s s2 x t2 b c) is q)
      where
        go : Propagated s s2 (closed_trail t a) t2 b c → HasValue t2.stack a
        go p = puts_valued (nogoods_of s) (closed_on t.stack a) t2.stack p.events p.puts a (newest_valued (entry_on t.stack a False (Closed None)) t.stack a refl)

    -- the round, where its propagation came to a fault
    pub round_stops : b ≡ option_map (with_event (say.Closed a)) told → Faulted s s2 t1 t2 b c → Stopped g s s2 t t2 told c
    round_stops noted q = go (subst (λ (x : Trailed). Faulted s s2 x t2 b c) is q)
      where
        go : Faulted s s2 (closed_trail t a) t2 b c → Stopped g s s2 t t2 told c
        go f = record {
          same = f.same;
          events = say.Closed a ∷ f.events;
          stack = f.stack;
          closes = Round [] t.stack NoRound a next f.events f.stack f.puts;
          more = inl f.more;
          atoms = ap (λ (x : Trailed). x.atoms) f.trail;
          tells = tells_on (say.Closed a ∷ []) f.events told b c noted f.tells;
          matches = f.matches;
        }

  -- the round, where it could not be noted
  pub round_unnoted : (told b : Option Journal) → IsNext g (nogoods_of s) t.stack a → Matches s t → t.kept ≡ length t.stack → b ≡ told → Stopped g s s t t1 told b
  round_unnoted told b next m marked same = subst (λ (x : Trailed). Stopped g s s t x told b) (sym is) (record {
    same = refl;
    events = [];
    stack = t.stack;
    closes = NoRound;
    more = inr (a, next, refl);
    atoms = refl;
    tells = same ∙ tells_none told;
    matches = opened_keeps s t m marked a False (Closed None) refl (inl next.unassigned);
  })

  -- to close it alone costs nothing
  pub round_free : (n : ℕ) → IsBounded s s (closed_trail t a) t1 n n
  round_free n = bounded_new s s (closed_trail t a) t1 n n refl (λ m h. refl) (omega arith)

-- ---- one after another

closes_on : (g : Ground) (ngs : List Nogood) (a b c : List Entry) (es fs : List Event) → Closes g ngs a es b → Closes g ngs b fs c → Closes g ngs a (es ++ fs) c
closes_on g ngs a b _ es _ p NoRound = subst (λ (gs : List Event). Closes g ngs a gs b) (sym (append_none es)) p
closes_on g ngs a b _ es _ p (Round events stack q x next puts after r) =
    subst (λ (gs : List Event). Closes g ngs a gs after) (append_assoc es events (say.Closed x ∷ puts)) (Round (es ++ events) stack (closes_on g ngs a b stack es events p q) x next puts after r)

module _ (g : Ground) (s0 s1 s2 : List Stored) (t0 t1 t2 : Trailed) (a b c : Option Journal) (h : HasClosed g s0 s1 t0 t1 a b) where
  moved_on : (fs : List Event) (stack : List Entry) → Closes g (nogoods_of s1) t1.stack fs stack → Closes g (nogoods_of s0) t0.stack (h.events ++ fs) stack
  moved_on fs stack q = closes_on g (nogoods_of s0) t0.stack t1.stack stack h.events fs h.closes
      (subst (λ (ngs : List Nogood). Closes g ngs t1.stack fs stack) (same_nogoods s0 s1 h.same) q)

  pub closes_then : HasClosed g s1 s2 t1 t2 b c → HasClosed g s0 s2 t0 t2 a c
  closes_then k = record {
    same = k.same ∙ h.same;
    events = h.events ++ k.events;
    closes = moved_on k.events t2.stack k.closes;
    atoms = k.atoms ∙ h.atoms;
    tells = tells_on h.events k.events a b c h.tells k.tells;
    matches = k.matches;
  }

  pub closes_stops : Stopped g s1 s2 t1 t2 b c → Stopped g s0 s2 t0 t2 a c
  closes_stops k = record {
    same = k.same ∙ h.same;
    events = h.events ++ k.events;
    stack = k.stack;
    closes = moved_on k.events k.stack k.closes;
    more = subst (λ (ngs : List Nogood). OneMore ngs k.stack t2.stack ⊎ OneClosed g ngs k.stack t2.stack) (same_nogoods s0 s1 h.same) k.more;
    atoms = k.atoms ∙ h.atoms;
    tells = tells_on h.events k.events a b c h.tells k.tells;
    matches = k.matches;
  }

-- ---- the loop

-- atoms with smaller ids have values, and the next may be closed
pub record Going (g : Ground) (s0 s : List Stored) (t0 t : Trailed) (a b : Option Journal) (place steps0 steps f0 f : ℕ) : Type 0 where
  pub has : HasClosed g s0 s t0 t a b
  pub quiet : FixIs s t Quiet
  pub none_must_be : NoneMustBe g t.stack
  pub valued : (x : ℕ) → x < place → IsNamed g x → HasValue t.stack x
  pub later : f0 ≤ f
  pub spent : (s' : List Stored) (t' : Trailed) (n : ℕ) → IsSpent s' t' n s0 t0 steps0 → IsSpent s' t' n s t steps

pub going_start : (g : Ground) (s : List Stored) (t : Trailed) (a : Option Journal) (steps f : ℕ) → Matches s t → FixIs s t Quiet → NoneMustBe g t.stack → Going g s s t t a a 0 steps steps f f
going_start g s t a steps f m quiet none = record {
  has = record { same = refl; events = []; closes = NoRound; atoms = refl; tells = tells_none a; matches = m };
  quiet = quiet;
  none_must_be = none;
  valued = λ x low named. absurd (omega (arith, low));
  later = omega arith;
  spent = λ s' t' n h. h;
}

below_cases : (x n : ℕ) → x < n + 1 → (x < n) ⊎ (x ≡ n)
below_cases x n h = grind (arith, h)

-- the atom at this place is none to close
pub going_over : (g : Ground) (s0 s : List Stored) (t0 t : Trailed) (a b : Option Journal) (place steps0 steps f0 f : ℕ) → Going g s0 s t0 t a b place steps0 steps f0 f
    → (IsNamed g place → HasValue t.stack place) → Going g s0 s t0 t a b (place + 1) steps0 steps f0 f
going_over g s0 s t0 t a b place steps0 steps f0 f w has = record {
  has = w.has;
  quiet = w.quiet;
  none_must_be = w.none_must_be;
  valued = λ x low named. elim (below_cases x place low) [ inl l ↦ w.valued x l named | inr e ↦ subst (HasValue t.stack) (sym e) (has (subst (IsNamed g) e named)) ];
  later = w.later;
  spent = w.spent;
}

-- it was closed
pub going_on : (g : Ground) (s0 s s2 : List Stored) (t0 t t2 : Trailed) (a b c : Option Journal) (place steps0 steps steps2 f0 f f2 : ℕ) → Going g s0 s t0 t a b place steps0 steps f0 f
    → HasClosed g s s2 t t2 b c → SettledIs g s2 t2 None → HasValue t2.stack place → f ≤ f2 → IsBounded s s2 (closed_trail t place) t2 steps steps2
    → Going g s0 s2 t0 t2 a c (place + 1) steps0 steps2 f0 f2
going_on g s0 s s2 t0 t t2 a b c place steps0 steps steps2 f0 f f2 w h settled value later bound = record {
  has = closes_then g s0 s s2 t0 t t2 a b c w.has h;
  quiet = settled.0;
  none_must_be = settled.1;
  valued = λ x low named. elim (below_cases x place low) [
    | inl l ↦ closes_valued g (nogoods_of s) t.stack t2.stack h.events h.closes x (w.valued x l named)
    | inr e ↦ subst (HasValue t2.stack) (sym e) value
  ];
  later = let l = w.later in omega (arith, l, later);
  spent = λ s' t' n k. Later s t steps (w.spent s' t' n k) w.quiet place s2 t2 steps2 bound;
}

-- what is asked before the next one is closed
pub going_places : {g : Ground} {s0 s : List Stored} {t0 t : Trailed} {a b : Option Journal} {place steps0 steps f0 f : ℕ} → Going g s0 s t0 t a b place steps0 steps f0 f
    → (n : ℕ) → n ≤ t0.atoms → n ≤ t.atoms
going_places w n h = subst (λ k. n ≤ k) (sym w.has.atoms) h

pub going_below : {g : Ground} {s0 s : List Stored} {t0 t : Trailed} {a b : Option Journal} {place steps0 steps f0 f : ℕ} → Going g s0 s t0 t a b place steps0 steps f0 f
    → (n : ℕ) → AllAreBelow n s0 → AllAreBelow n s
going_below w n h = same_below n _ _ w.has.same h

-- what it has cost, with one more
pub going_spent : {g : Ground} {s0 s : List Stored} {t0 t : Trailed} {a b : Option Journal} {place steps0 steps f0 f : ℕ} → Going g s0 s t0 t a b place steps0 steps f0 f
    → (x : ℕ) (s2 : List Stored) (t2 : Trailed) (steps2 : ℕ) → IsBounded s s2 (closed_trail t x) t2 steps steps2
    → (s' : List Stored) (t' : Trailed) (n : ℕ) → IsSpent s' t' n s0 t0 steps0 → IsSpent s' t' n s2 t2 steps2
going_spent w x s2 t2 steps2 bound s' t' n k = Later _ _ _ (w.spent s' t' n k) w.quiet x s2 t2 steps2 bound

-- seen from what is equal
pub going_is : {g : Ground} {s0 s s' : List Stored} {t0 t t' : Trailed} {a b b' : Option Journal} {place steps0 steps steps' f0 f f' : ℕ} → s' ≡ s → t' ≡ t → b' ≡ b → steps' ≡ steps → f' ≡ f
    → Going g s0 s t0 t a b place steps0 steps f0 f → Going g s0 s' t0 t' a b' place steps0 steps' f0 f'
going_is {g} {s0} {s} {s'} {t0} {t} {t'} {a} {b} {b'} {place} {steps0} {steps} {steps'} {f0} {f} {f'} es et eb en ef w =
    subst (λ (x : ℕ). Going g s0 s' t0 t' a b' place steps0 steps' f0 x) (sym ef)
    (subst (λ (x : ℕ). Going g s0 s' t0 t' a b' place steps0 x f0 f) (sym en)
    (subst (λ (x : Option Journal). Going g s0 s' t0 t' a x place steps0 steps f0 f) (sym eb)
    (subst (λ (x : Trailed). Going g s0 s' t0 x a b place steps0 steps f0 f) (sym et)
    (subst (λ (x : List Stored). Going g s0 x t0 t a b place steps0 steps f0 f) (sym es) w))))

-- ---- how it ends

-- a named atom that must be true had no value at the start
pub stuck_was : (g : Ground) (s0 s : List Stored) (t0 t : Trailed) (a b : Option Journal) → HasClosed g s0 s t0 t a b → NoneMustBe g t0.stack → (x : ℕ) → IsNamed g x → value_of t.stack x ≡ Some MustBe
    → value_of t0.stack x ≡ None
stuck_was g s0 s t0 t a b h none x named must = elim (closes_must g (nogoods_of s0) t0.stack t.stack h.events h.closes x must) [
  | inl e ↦ e
  | inr m ↦ absurd (none x named m)
]

-- what ends it after a round is what ends it
pub ends_as : (g : Ground) (s0 s : List Stored) (t0 t : Trailed) (a b : Option Journal) → HasClosed g s0 s t0 t a b → NoneMustBe g t0.stack → (closing : Closing) → EndsBy g s t closing → ClosingIs g s t0 t closing
ends_as g s0 s t0 t a b h none ends.Closed e = absurd e
ends_as g s0 s t0 t a b h none (ends.Struck n) e = e
ends_as g s0 s t0 t a b h none (ends.Stuck x) e = (e.0, stuck_was g s0 s t0 t a b h none x e.0 e.1, e.1, e.2)

-- seen from an equal stack
pub ends_from : (g : Ground) (s : List Stored) (t0 t1 t2 : Trailed) → t1.stack ≡ t0.stack → (closing : Closing) → ClosingIs g s t1 t2 closing → ClosingIs g s t0 t2 closing
ends_from g s t0 t1 t2 same ends.Closed e = e
ends_from g s t0 t1 t2 same (ends.Struck n) e = e
ends_from g s t0 t1 t2 same (ends.Stuck x) e = (e.0, ap (λ (st : List Entry). value_of st x) (sym same) ∙ e.1, e.2, e.3)

struck_in : (s : List Stored) (stack : List Entry) (n : ℕ) → IsStruckAt s stack n → ¬ NoneStruck stack (nogoods_of s)
struck_in s stack n w none = none (nogood_of w.0) (∈-map nogood_of w.0 s (get_in s n w.0 w.1)) w.2

-- where each atom has a value, none is must-be-true and nothing is struck, it answers that all are closed
pub exact_end : (g : Ground) (s : List Stored) (t0 t : Trailed) (closing : Closing) → ClosingIs g s t0 t closing → IsFull g t.stack → NoneStruck t.stack (nogoods_of s) → closing ≡ ends.Closed
exact_end g s t0 t ends.Closed e full none = refl
exact_end g s t0 t (ends.Struck n) e full none = absurd (struck_in s t.stack n e none)
exact_end g s t0 t (ends.Stuck x) e full none = absurd (full.none_must_be x (named_below g x e.0) e.2)
