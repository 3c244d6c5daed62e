-- Parts of a propagation, and one after another.
use Rattle.std.proofs.Common.{◌≡◌, ℕ, suc, zero, ◌<◌, ◌≤◌, ◌⊎◌, List, [], ◌∷◌, ◌++◌, length, map, set, get_or, refl, sym, ◌∙◌, ap, subst, inl, inr}
use Rattle.std.specs.Prelude.{Option, Some, None, option_map, slice_get, Result, Ok, Err, IfOk, OnErr}
use Rattle.lists.specs.Lists.{◌∈◌}
use Rattle.alpha_outside.specs.Outside.{Journal}
use Rattle.alpha_outside.specs.declared.event.Event.{Event}
use Rattle.alpha_outside.specs.declared.event.Event.TheVariants.{Put}
use Rattle.search_values.specs.declared.entry.Entry.{Entry}
use Rattle.search_values.specs.declared.entry.Why.TheVariants.{Given}
use Rattle.search_values.specs.Values.{Value, True, MustBe, False, Lit, value_of, Holds, HoldsFully, entry_on}
use Rattle.search_values.specs.Nogoods.{Nogood, Gives}
use Rattle.trail.specs.Assigning.{Trailed, MayBecome, assigned}
use Rattle.nogood_store.specs.Stored.{Stored, nogood_of, head_atom, AllAreBelow}
use Rattle.nogood_store.specs.Matching.{Suffices, Matches, Visited}
use Rattle.nogood_store.specs.declared.looking.Visit.TheVariants.{Idle, Unit as Forces, Struck as Strikes}
use Rattle.nogood_store.specs.declared.looking.Visit.{Visit}
use Rattle.nogood_store.proofs.Matched.{given_keeps, added_keeps, there_below}
use Rattle.nogood_store.proofs.Weighing.{same_or_not}
use Rattle.nogood_store.proofs.Suffice.{suffices_on, suffices_less, holds_on, full_on}
use Rattle.propagation.specs.Runs.{bare, SameNogoods, nogoods_of, Puts, Nothing, Then, with_events, Ran, OneMore, Faulted, IsStruckAt, TheseSuffice, OthersStay}

-- ---- lists

get_set_same : {X : Type 0} (xs : List X) (i : ℕ) (x y : X) → slice_get xs i ≡ Some x → slice_get (set xs i y) i ≡ Some y
get_set_same [] i x y e = cc
get_set_same (z ∷ zs) zero x y e = refl
get_set_same (z ∷ zs) (suc i) x y e = get_set_same zs i x y e

get_set_other : {X : Type 0} (xs : List X) (i j : ℕ) (y : X) → (j ≡ i → ⊥) → slice_get (set xs i y) j ≡ slice_get xs j
get_set_other [] i j y h = refl
get_set_other (x ∷ xs) zero zero y h = absurd (h refl)
get_set_other (x ∷ xs) zero (suc j) y h = refl
get_set_other (x ∷ xs) (suc i) zero y h = refl
get_set_other (x ∷ xs) (suc i) (suc j) y h = get_set_other xs i j y (λ e. h (ap suc e))

map_set : {X Y : Type 0} (f : X → Y) (xs : List X) (i : ℕ) (x y : X) → slice_get xs i ≡ Some x → f y ≡ f x → map f (set xs i y) ≡ map f xs
map_set f [] i x y e s = cc
map_set f (z ∷ zs) zero x y e s = let same : z ≡ x = cc in ap (λ w. w ∷ map f zs) (s ∙ ap f (sym same))
map_set f (z ∷ zs) (suc i) x y e s = ap (λ ws. f z ∷ ws) (map_set f zs i x y e s)

pub get_map : {X Y : Type 0} (f : X → Y) (xs : List X) (i : ℕ) (x : X) → slice_get xs i ≡ Some x → slice_get (map f xs) i ≡ Some (f x)
get_map f [] i x e = cc
get_map f (z ∷ zs) zero x e = let same : z ≡ x = cc in ap (λ w. Some (f w)) same
get_map f (z ∷ zs) (suc i) x e = get_map f zs i x e

-- what is read at a place
pub read_or : (ls : List Lit) (i : ℕ) (l d : Lit) → slice_get ls i ≡ Some l → get_or ls i d ≡ l
read_or [] i l d e = cc
read_or (x ∷ xs) zero l d e = cc
read_or (x ∷ xs) (suc i) l d e = read_or xs i l d e

append_none : {X : Type 0} (xs : List X) → xs ++ [] ≡ xs
append_none [] = refl
append_none (x ∷ xs) = ap (λ ys. x ∷ ys) (append_none xs)

append_assoc : {X : Type 0} (xs ys zs : List X) → (xs ++ ys) ++ zs ≡ xs ++ (ys ++ zs)
append_assoc [] ys zs = refl
append_assoc (x ∷ xs) ys zs = ap (λ ws. x ∷ ws) (append_assoc xs ys zs)

-- ---- what is told

pub tells_none : (told : Option Journal) → told ≡ option_map (with_events []) told
tells_none None = refl
tells_none (Some j) = ap (λ (es : List Event). let k : Option Journal = Some (record j { events = es }) in k) (sym (append_none j.events))

pub tells_on : (es fs : List Event) (a b c : Option Journal) → b ≡ option_map (with_events es) a → c ≡ option_map (with_events fs) b → c ≡ option_map (with_events (es ++ fs)) a
tells_on es fs a b c p q = q ∙ ap (option_map (with_events fs)) p ∙ go a
  where
    go : (a : Option Journal) → option_map (with_events fs) (option_map (with_events es) a) ≡ option_map (with_events (es ++ fs)) a
    go None = refl
    go (Some j) = ap (λ (gs : List Event). let k : Option Journal = Some (record j { events = gs }) in k) (append_assoc j.events es fs)

-- a nogood that was added, or wasn't, keeps the match
pub admitted_match : {A E : Type 0} (r : Result A E) (store new : List Stored) (s : Stored) (t : Trailed) → Matches store t → IfOk r (λ id. new ≡ store ++ s ∷ []) → OnErr r (new ≡ store) → Matches new t
admitted_match (Ok x) store new s t m ok err = subst (λ z. Matches z t) (sym ok) (added_keeps store t s m)
admitted_match (Err e) store new s t m ok err = subst (λ z. Matches z t) (sym err) m

-- ---- one visit

-- the same answer
pub as_answer : (stack : List Entry) (store store' : List Stored) (n : ℕ) (a b : Visit) → a ≡ b → Visited stack store store' n a → Visited stack store store' n b
as_answer stack store store' n a b e v = subst (λ (x : Visit). Visited stack store store' n x) e v

module _ (stack : List Entry) (store store' : List Stored) (n : ℕ) (answer : Visit) (v : Visited stack store store' n answer) where
  pub visited_same : SameNogoods store store'
  visited_same = ap (map bare) v.becomes ∙ map_set bare store n v.before v.after v.was (λ i. (v.same_lits i, v.same_head i))

  pub visited_others : OthersStay (λ m. m ≡ n) store store'
  visited_others m other = ap (λ (xs : List Stored). slice_get xs m) v.becomes ∙ get_set_other store n m v.after other

  pub visited_at : slice_get store' n ≡ Some v.after
  visited_at = ap (λ (xs : List Stored). slice_get xs n) v.becomes ∙ get_set_same store n v.before v.after v.was

  -- the nogood of the theory is the same
  pub visited_nogood : nogood_of v.after ≡ nogood_of v.before
  visited_nogood = λ i. record { lits = v.same_lits i; head = head_atom (v.same_lits i) (v.same_head i) }

-- what was read there is what the visit left
pub visited_read : (stack : List Entry) (store store' : List Stored) (n : ℕ) (answer : Visit) (v : Visited stack store store' n answer) (m : ℕ) (s : Stored) → m ≡ n → slice_get store' m ≡ Some s → v.after ≡ s
visited_read stack store store' n answer v m s same at =
    let e : Some v.after ≡ Some s = sym (visited_at stack store store' n answer v) ∙ subst (λ k. slice_get store' k ≡ Some s) same at in cc

module _ (store store' : List Stored) (t : Trailed) (n : ℕ) (told : Option Journal) where
  -- a visit that gives no value
  pub ran_visit : (answer : Visit) → Visited t.stack store store' n answer → Matches store' t → Ran store store' t t told told
  ran_visit answer v m = record {
    same = visited_same t.stack store store' n answer v;
    events = [];
    puts = Nothing;
    trail = refl;
    tells = tells_none told;
    matches = m;
  }

  pub idle_suffices : Visited t.stack store store' n Idle → TheseSuffice (λ m. m ≡ n) t.stack t.stack store'
  idle_suffices v m s same at = subst (λ (x : Stored). Suffices t.stack t.stack x) (visited_read t.stack store store' n Idle v m s same at) v.suffices

  pub struck_is : Visited t.stack store store' n Strikes → IsStruckAt store' t.stack n
  struck_is v = (v.after, visited_at t.stack store store' n Strikes v, v.exact)

-- a value that a nogood gives may come
pub gives_may : (stack : List Entry) (ng : Nogood) (a : ℕ) (v : Value) → Gives stack ng a v → MayBecome (value_of stack a) v
gives_may stack ng a True r = elim r.not_yet [ inl e ↦ inl e | inr e ↦ inr (e, refl) ]
gives_may stack ng a MustBe r = inl r.0.unassigned
gives_may stack ng a False r = inl r.unassigned

module _ (store store' : List Stored) (t : Trailed) (n place : ℕ) (value : Value) (v : Visited t.stack store store' n (Forces place value)) (ls : List Lit)
    (lits : (s : Stored) × (slice_get store' n ≡ Some s) × (ls ≡ s.lits)) where
  -- the literal whose atom gets the value
  pub left_at : slice_get ls place ≡ Some v.exact.0
  left_at = subst (λ (xs : List Lit). slice_get xs place ≡ Some v.exact.0)
      (ap (λ (s : Stored). s.lits) (visited_read t.stack store store' n (Forces place value) v n lits.0 refl lits.1) ∙ sym lits.2) v.exact.1

  pub left_low : place < length ls
  left_low = there_below ls place v.exact.0 left_at

  pub gives_left : Gives t.stack (nogood_of v.before) v.exact.0.atom value
  gives_left = subst (λ (ng : Nogood). Gives t.stack ng v.exact.0.atom value) (visited_nogood t.stack store store' n (Forces place value) v) v.exact.2

  module _ (d : Lit) where
    -- its atom
    pub atom_is : (get_or ls place d).atom ≡ v.exact.0.atom
    atom_is = ap (λ (l : Lit). l.atom) (read_or ls place v.exact.0 d left_at)

    pub left_placed : AllAreBelow t.atoms store → (get_or ls place d).atom < t.atoms
    left_placed below = subst (λ k. k < t.atoms) (sym atom_is) (below n v.before v.was v.exact.0 (subst (λ (xs : List Lit). v.exact.0 ∈ xs) v.same_lits (in_at v.after.lits place v.exact.0 v.exact.1)))
      where
        in_at : (xs : List Lit) (i : ℕ) (x : Lit) → slice_get xs i ≡ Some x → x ∈ xs
        in_at [] i x e = cc
        in_at (z ∷ zs) zero x e = inl cc
        in_at (z ∷ zs) (suc i) x e = inr (in_at zs i x e)

    pub left_may : MayBecome (value_of t.stack (get_or ls place d).atom) value
    left_may = subst (λ k. MayBecome (value_of t.stack k) value) (sym atom_is) (gives_may t.stack (nogood_of v.before) v.exact.0.atom value gives_left)

    pub gives_here : Gives t.stack (nogood_of v.before) (get_or ls place d).atom value
    gives_here = subst (λ k. Gives t.stack (nogood_of v.before) k value) (sym atom_is) gives_left

    module _ (t' : Trailed) (put : t' ≡ assigned t (get_or ls place d).atom value (Given n)) (m : Matches store' t) (within : t.kept ≤ length t.stack) where
      put_matches : Matches store' t'
      put_matches = subst (λ (x : Trailed). Matches store' x) (sym put) (given_keeps store' t m within (get_or ls place d).atom value n left_may)

      put_stack : t'.stack ≡ entry_on t.stack (get_or ls place d).atom value (Given n) ∷ t.stack
      put_stack = ap (λ (x : Trailed). x.stack) put

      put_trail : t' ≡ record t { stack = t'.stack }
      put_trail = put ∙ ap (λ (s : List Entry). let x : Trailed = record t { stack = s } in x) (sym put_stack)

      pub ran_put : (told told' : Option Journal) → told' ≡ option_map (with_events (Put (get_or ls place d).atom value n ∷ [])) told → Ran store store' t t' told told'
      ran_put told told' tells = record {
        same = visited_same t.stack store store' n (Forces place value) v;
        events = Put (get_or ls place d).atom value n ∷ [];
        puts = subst (λ (s : List Entry). Puts (nogoods_of store) t.stack (Put (get_or ls place d).atom value n ∷ []) s) (sym put_stack)
            (Then [] t.stack Nothing n (get_or ls place d).atom value (nogood_of v.before) (get_map nogood_of store n v.before v.was) gives_here);
        trail = put_trail;
        tells = tells;
        matches = put_matches;
      }

      pub fault_put : (told told' : Option Journal) → told' ≡ told → Faulted store store' t t' told told'
      fault_put told told' same = record {
        same = visited_same t.stack store store' n (Forces place value) v;
        events = [];
        stack = t.stack;
        puts = Nothing;
        more = inr (n, (get_or ls place d).atom, value, nogood_of v.before, get_map nogood_of store n v.before v.was, gives_here, put_stack);
        trail = put_trail;
        tells = same ∙ tells_none told;
        matches = put_matches;
      }

      pub put_suffices : TheseSuffice (λ k. k ≡ n) t.stack t'.stack store'
      put_suffices k s same at = subst (λ (x : List Entry). Suffices t.stack x s) (sym put_stack)
          (subst (λ (x : Stored). Suffices t.stack (entry_on t.stack (get_or ls place d).atom value (Given n) ∷ t.stack) x) (visited_read t.stack store store' n (Forces place value) v k s same at)
          (v.suffices v.exact.0 (entry_on t.stack (get_or ls place d).atom value (Given n)) v.exact.1 atom_is refl))

-- nothing was done
pub fault_none : (store store' : List Stored) (t : Trailed) (told : Option Journal) → store' ≡ store → Matches store t → Faulted store store' t t told told
fault_none store store' t told e m = record {
  same = ap (map bare) e;
  events = [];
  stack = t.stack;
  puts = Nothing;
  more = inl refl;
  trail = refl;
  tells = tells_none told;
  matches = subst (λ (s : List Stored). Matches s t) (sym e) m;
}

-- ---- one part after another

-- a nogood of the theory without its watches
abbrev theory : List Lit × Option ℕ → Nogood
theory b = record { lits = b.0; head = head_atom b.0 b.1 }

same_theory : (store : List Stored) → map theory (map bare store) ≡ nogoods_of store
same_theory store = go store
  where
    go : (store : List Stored) → map theory (map bare store) ≡ nogoods_of store
    go [] = refl
    go (s ∷ rest) = ap (λ (ngs : List Nogood). nogood_of s ∷ ngs) (go rest)

pub same_nogoods : (store store' : List Stored) → SameNogoods store store' → nogoods_of store' ≡ nogoods_of store
same_nogoods store store' e = sym (same_theory store') ∙ ap (map theory) e ∙ same_theory store

puts_on : (ngs : List Nogood) (a b c : List Entry) (es fs : List Event) → Puts ngs a es b → Puts ngs b fs c → Puts ngs a (es ++ fs) c
puts_on ngs a b _ es _ p Nothing = subst (λ (gs : List Event). Puts ngs a gs b) (sym (append_none es)) p
puts_on ngs a b _ es _ p (Then events stack q n x v ng at g) =
    subst (λ (gs : List Event). Puts ngs a gs (entry_on stack x v (Given n) ∷ stack)) (append_assoc es events (Put x v n ∷ [])) (Then (es ++ events) stack (puts_on ngs a b stack es events p q) n x v ng at g)

module _ (s0 s1 s2 : List Stored) (t0 t1 t2 : Trailed) (a b c : Option Journal) (r : Ran s0 s1 t0 t1 a b) where
  moved_on : (fs : List Event) (stack : List Entry) → Puts (nogoods_of s1) t1.stack fs stack → Puts (nogoods_of s0) t0.stack (r.events ++ fs) stack
  moved_on fs stack p = puts_on (nogoods_of s0) t0.stack t1.stack stack r.events fs r.puts (subst (λ (ngs : List Nogood). Puts ngs t1.stack fs stack) (same_nogoods s0 s1 r.same) p)

  trail_on : t2 ≡ record t1 { stack = t2.stack } → t2 ≡ record t0 { stack = t2.stack }
  trail_on e = e ∙ ap (λ (x : Trailed). let y : Trailed = record x { stack = t2.stack } in y) r.trail

  pub ran_on : Ran s1 s2 t1 t2 b c → Ran s0 s2 t0 t2 a c
  ran_on q = record {
    same = q.same ∙ r.same;
    events = r.events ++ q.events;
    puts = moved_on q.events t2.stack q.puts;
    trail = trail_on q.trail;
    tells = tells_on r.events q.events a b c r.tells q.tells;
    matches = q.matches;
  }

  pub fault_on : Faulted s1 s2 t1 t2 b c → Faulted s0 s2 t0 t2 a c
  fault_on q = record {
    same = q.same ∙ r.same;
    events = r.events ++ q.events;
    stack = q.stack;
    puts = moved_on q.events q.stack q.puts;
    more = subst (λ (ngs : List Nogood). OneMore ngs q.stack t2.stack) (same_nogoods s0 s1 r.same) q.more;
    trail = trail_on q.trail;
    tells = tells_on r.events q.events a b c r.tells q.tells;
    matches = q.matches;
  }

pub ran_start : (store : List Stored) (t : Trailed) (told : Option Journal) → Matches store t → Ran store store t t told told
ran_start store t told m = record { same = refl; events = []; puts = Nothing; trail = refl; tells = tells_none told; matches = m }

-- ---- what holds goes on to hold

-- as values are given: what holds goes on to hold, and what suffices to suffice
pub puts_holds : (ngs : List Nogood) (a b : List Entry) (es : List Event) → Puts ngs a es b → (l : Lit) → Holds a l → Holds b l
puts_holds ngs a _ _ Nothing l h = h
puts_holds ngs a _ _ (Then events stack p n x v ng at g) l h = holds_on (entry_on stack x v (Given n)) stack (gives_may stack ng x v g) l (puts_holds ngs a stack events p l h)

pub puts_full : (ngs : List Nogood) (a b : List Entry) (es : List Event) → Puts ngs a es b → (l : Lit) → HoldsFully a l → HoldsFully b l
puts_full ngs a _ _ Nothing l h = h
puts_full ngs a _ _ (Then events stack p n x v ng at g) l h = full_on (entry_on stack x v (Given n)) stack (gives_may stack ng x v g) l (puts_full ngs a stack events p l h)

pub puts_suffices : (ngs : List Nogood) (taken a b : List Entry) (es : List Event) (s : Stored) → Puts ngs a es b → Suffices taken a s → Suffices taken b s
puts_suffices ngs taken a _ _ s Nothing h = h
puts_suffices ngs taken a _ _ s (Then events stack p n x v ng at g) h = suffices_on taken stack (entry_on stack x v (Given n)) s (gives_may stack ng x v g) (puts_suffices ngs taken a stack events s p h)

-- these and one more suffice
pub suffice_more : (ids : List ℕ) (id : ℕ) (s1 s2 : List Stored) (ngs ngs' : List Nogood) (a b c : List Entry) (es fs : List Event) → Puts ngs a es b → Puts ngs' b fs c
    → TheseSuffice (λ n. n ∈ ids) a b s1 → TheseSuffice (λ n. n ≡ id) b c s2 → OthersStay (λ n. n ≡ id) s1 s2 → TheseSuffice (λ n. (n ∈ ids) ⊎ (n ≡ id)) a c s2
suffice_more ids id s1 s2 ngs ngs' a b c es fs p q old new stay n s which at = elim (same_or_not n id) [
  | inl e ↦ suffices_less a b c s (puts_holds ngs a b es p) (puts_full ngs a b es p) (new n s e at)
  | inr k ↦ elim which [
    | inl i ↦ puts_suffices ngs' a b c fs s q (old n s i (sym (stay n k) ∙ at))
    | inr e ↦ absurd (k e)
  ]
]
