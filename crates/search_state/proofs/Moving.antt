-- What the moves of a search do to its trail and its store, which go on to match.
use Rattle.std.proofs.Common.{◌≡◌, ℕ, ◌<◌, Bool, true, false, cond, List, [], ◌∷◌, ◌++◌, length, map, sym, ◌∙◌, ap, subst, inl, inr, refl, arith}
use Rattle.std.specs.Prelude.{Option, nat_lt, min, Result, Ok, Err, IfOk, IfErr}
use Rattle.std.specs.Option.{option_map}
use Rattle.std.proofs.lemmas.Option.{slice_get-map}
use Rattle.lists.specs.Lists.{◌∈◌}
use Rattle.lists.proofs.ListLemmas.{∈-map, ∈-map_from, ∈-append_right}
use Rattle.alpha_outside.specs.Outside.{Journal}
use Rattle.alpha_outside.specs.declared.event.Event.{Event}
use Rattle.alpha_outside.specs.declared.literal.Lit.{Lit}
use Rattle.core_rules.specs.declared.rules.Core.{Core}
use Rattle.search_values.specs.declared.entry.Entry.{Entry}
use Rattle.search_values.specs.declared.entry.Why.TheVariants.{Given}
use Rattle.search_values.specs.Values.{Value, level_of, decision, entry_on, back_to}
use Rattle.search_values.specs.Nogoods.{Nogood}
use Rattle.search_values.proofs.Basics.{get_in}
use Rattle.trail.specs.Assigning.{Trailed, MayBecome, MayDecide, taken_to, jumped}
use Rattle.atom_pool.specs.declared.ground.Ground.{Ground}
use Rattle.nogood_store.specs.Stored.{Stored, nogood_of, AllAreBelow}
use Rattle.nogood_store.specs.Matching.{Matches}
use Rattle.working_memory.specs.Noting.{Noted}
use Rattle.ground_noting.specs.declared.telling.Told.{Told}
use Rattle.ground_noting.specs.Notings.{all_of}
use Rattle.propagation.specs.Runs.{Puts, Propagated, Faulted, OneMore, FixIs as EndsBy, bare, SameNogoods}
use Rattle.propagation.specs.Runs as run
use Rattle.propagation.specs.declared.fixpoint.Fix.{Fix}
use Rattle.propagation.specs.declared.putting.PropFault.{PropFault}
use Rattle.propagation.specs.declared.fixpoint.Fix.TheVariants.{Quiet, Struck}
use Rattle.propagation.proofs.Running.{same_nogoods}
use Rattle.search_state.specs.Searching.{Searching, searching, Fields, Ties, fields, oldest, LitsAreBelow}
use Rattle.search_state.specs.Moves.{HasPropagated, HasNoted, FixIs}
use Rattle.search_state.specs.declared.search.Stage.{Stage}
use Rattle.search_state.proofs.Found.{gives_below}
use Rattle.search_state.proofs.FieldLemmas.{ties_risen, ties_moved, lits_more}
use Rattle.search_state.proofs.Fronts.{oldest_back, back_below}

-- ---- propagating

-- the atoms of the nogoods are there
abbrev ArePlaced : ℕ → List Nogood → Type 0
ArePlaced n ngs = (ng : Nogood) → ng ∈ ngs → LitsAreBelow n ng.lits

-- entries of atoms that are there have come onto the stack
abbrev pub IsAbove : ℕ → List Entry → List Entry → Type 0
IsAbove n from stack = (above : List Entry) × (stack ≡ above ++ from) × ((e : Entry) → e ∈ above → e.atom < n)

-- one entry more
above_more : (n : ℕ) (from stack : List Entry) (e : Entry) → e.atom < n → IsAbove n from stack → IsAbove n from (e ∷ stack)
above_more n from stack e low above = (
  e ∷ above.0,
  ap (λ es. e ∷ es) above.1,
  λ x among. elim among [ inl is ↦ subst (λ (z : Entry). z.atom < n) (sym is) low | inr old ↦ above.2 x old ],
)

-- values that nogoods give are of atoms that are there
puts_above : (n : ℕ) (ngs : List Nogood) (from : List Entry) → ArePlaced n ngs → (events : List Event) (stack : List Entry)
    → Puts ngs from events stack → IsAbove n from stack
puts_above n ngs from placed events stack run.Nothing = ([], refl, λ e among. absurd among)
puts_above n ngs from placed events stack (run.Then before under puts k a v ng at gives) =
    above_more n from under (entry_on under a v (Given k)) (gives_below under n ng (placed ng (get_in ngs k ng at)) a v gives)
    (puts_above n ngs from placed before under puts)

-- so is one more
more_above : (n : ℕ) (ngs : List Nogood) (from stack stack' : List Entry) → ArePlaced n ngs → OneMore ngs stack stack'
    → IsAbove n from stack → IsAbove n from stack'
more_above n ngs from stack stack' placed (inl same) above = subst (IsAbove n from) (sym same) above
more_above n ngs from stack stack' placed (inr one) above =
    subst (IsAbove n from) (sym one.6)
    (above_more n from stack (entry_on stack one.1 one.2 (Given one.0))
    (gives_below stack n one.3 (placed one.3 (get_in ngs one.0 one.3 one.4)) one.1 one.2 one.5) above)

-- the stored nogoods are of atoms that are there
pub nogoods_there : (f : Fields) → Ties f → ArePlaced (length f.ground.atoms.atoms) (map nogood_of f.store)
nogoods_there f ties ng i =
    let from = ∈-map_from nogood_of ng f.store i in
    subst (λ (z : Nogood). LitsAreBelow (length f.ground.atoms.atoms) z.lits) (sym from.2) (ties.lits_placed from.0 from.1)

-- nogoods that only watch other literals are of the same atoms
same_there : (f : Fields) → Ties f → (store : List Stored) → SameNogoods f.store store → (s : Stored) → s ∈ store → LitsAreBelow
    (length f.ground.atoms.atoms) s.lits
same_there f ties store same s i =
    let was = ∈-map_from bare (bare s) f.store (subst (λ bs. bare s ∈ bs) same (∈-map bare s store i)) in
    subst (LitsAreBelow (length f.ground.atoms.atoms)) (sym (ap (λ (b : List Lit × Option ℕ). b.0) was.2)) (ties.lits_placed was.0 was.1)

-- what a propagation puts onto the stack, also before a fault
pub risen_by : (f : Fields) → Ties f → (store : List Stored) (trail : Trailed) (told told' : Option Journal) (r : Result Fix PropFault)
    → IfOk r (λ fix. Propagated f.store store f.trail trail told told')
    → IfErr r (λ e. Faulted f.store store f.trail trail told told') → IsAbove (length f.ground.atoms.atoms) f.trail.stack trail.stack
risen_by f ties store trail told told' (Ok fix) p e =
    puts_above (length f.ground.atoms.atoms) (map nogood_of f.store) f.trail.stack (nogoods_there f ties) p.events trail.stack p.puts
risen_by f ties store trail told told' (Err fault) p e =
    more_above (length f.ground.atoms.atoms) (map nogood_of f.store) f.trail.stack e.stack trail.stack (nogoods_there f ties) e.more
    (puts_above (length f.ground.atoms.atoms) (map nogood_of f.store) f.trail.stack (nogoods_there f ties) e.events e.stack e.puts)

-- after a propagation the fields keep to one another, also after a fault
pub ties_after : (f : Fields) → Ties f → (store : List Stored) (trail : Trailed) (told told' : Option Journal) (r : Result Fix PropFault)
    → IfOk r (λ fix. Propagated f.store store f.trail trail told told')
    → IfErr r (λ e. Faulted f.store store f.trail trail told told') → Ties
    (fields f.core f.ground f.told f.memory f.risen f.joined f.choices store trail)
ties_after f ties store trail told told' (Ok fix) p e =
    let above = risen_by f ties store trail told told' (Ok fix) p e in
    ties_risen f ties above.0 store trail (ap (λ (t : Trailed). t.atoms) p.trail) above.1 above.2 (same_there f ties store p.same) p.matches
ties_after f ties store trail told told' (Err fault) p e =
    let above = risen_by f ties store trail told told' (Err fault) p e in
    ties_risen f ties above.0 store trail (ap (λ (t : Trailed). t.atoms) e.trail) above.1 above.2 (same_there f ties store e.same) e.matches

-- the literals of the stored nogoods have places
pub all_below : (f : Fields) → Ties f → AllAreBelow f.trail.atoms f.store
all_below f ties n s at l i =
    let low = ties.lits_placed s (get_in f.store n s at) l i in
    let placed = ties.placed in
    omega (arith, low, placed)

-- with all told their atoms have ids
pub nogoods_placed : (f : Fields) → Ties f → f.told ≡ all_of f.ground → (ng : Nogood) → ng ∈ map nogood_of f.store
    → LitsAreBelow f.told.atoms ng.lits
nogoods_placed f ties all ng i =
    lits_more (length f.ground.atoms.atoms) f.told.atoms (let k : f.told.atoms ≡ length f.ground.atoms.atoms = ap
    (λ (t : Told). t.atoms) all in omega (arith, k)) ng.lits (nogoods_there f ties ng i)

-- ---- deciding and taking back

-- a decision gives an atom a value that it may become
pub may_of : (before : Option Value) → MayDecide before true → MayBecome before (decision true)
may_of before (inl e) = inl e
may_of before (inr e) = inr (e.0, refl)

-- taking levels away leaves the places
pub jumped_atoms : (t : Trailed) (level : ℕ) → Trailed.atoms (jumped t level) ≡ t.atoms
jumped_atoms t level = go (nat_lt level (level_of t.stack))
  where
    go : (b : Bool) → Trailed.atoms (cond b (taken_to t level) t) ≡ t.atoms
    go true = refl
    go false = refl

-- and takes them from the stack
pub jumped_stack : (t : Trailed) (level : ℕ) → level < level_of t.stack → Trailed.stack (jumped t level) ≡ back_to level t.stack
jumped_stack t level low = ap (λ b. Trailed.stack (cond b (taken_to t level) t)) (lower level (level_of t.stack) low)
  where
    lower : (a b : ℕ) → a < b → nat_lt a b ≡ true
    lower a b h = grind arith

-- after levels were taken away the fronts are no longer than what stays
pub ties_back : (f : Fields) → Ties f → (level : ℕ) (trail : Trailed) (left risen joined : ℕ) → trail.atoms ≡ f.trail.atoms
    → trail.stack ≡ back_to level f.trail.stack → left ≡ length trail.stack
    → risen ≡ min f.risen left → joined ≡ min f.joined left → Matches f.store trail → Ties
    (fields f.core f.ground f.told f.memory risen joined f.choices f.store trail)
ties_back f ties level trail left risen joined places is count r j matches =
    let under = back_below level f.trail.stack in
    let order = ties.fronts.0 in
    let cut : risen ≡ min f.risen (length (back_to level f.trail.stack)) = r ∙ ap (min f.risen) (count ∙ ap length is) in
    let same : oldest risen trail.stack ≡ oldest (min f.risen (length (back_to level f.trail.stack))) (back_to level f.trail.stack) =
    λ i. oldest (cut i) (is i) in
    ties_moved f ties risen joined f.store trail places (omega (arith, r, j, order), omega (arith, r, count))
    (λ e among. ties.risen e (oldest_back level f.risen f.trail.stack e (subst (λ es. e ∈ es) same among))) ties.lits_placed
    (λ e among. ties.stack_placed e (subst (λ es. e ∈ es) (sym under.1)
    (∈-append_right e under.0 (back_to level f.trail.stack) (subst (λ es. e ∈ es) is among)))) matches

-- ---- what contracts see

module _ (core : Core) (arena : Ground) (noted : Told) (memory : List Noted) (risen joined left : ℕ) (choices : List ℕ) (closing : Bool)
    (stage : Stage)
    (store store' : List Stored) (t t' : Trailed) (told told' : Option Journal) where
  abbrev before : Searching
  before = searching core arena noted memory risen joined left choices store t.stack closing stage

  abbrev after : Searching
  after = searching core arena noted memory risen joined left choices store' t'.stack closing stage

  -- a propagation puts values on the search's stack
  pub view_propagated : Propagated store store' t t' told told' → HasPropagated before after told told'
  view_propagated p = record {
    events = p.events;
    puts = p.puts;
    is = λ i. record before { nogoods = same_nogoods store store' p.same i; stack = t'.stack };
    tells = p.tells;
  }

  -- what it noted before a fault
  pub view_faulted : Faulted store store' t t' told told' → HasNoted before told told'
  view_faulted f = record { events = f.events; stack = f.stack; puts = f.puts; tells = f.tells }

  -- how it ends
  pub view_fix : (fix : Fix) → EndsBy store' t' fix → FixIs after fix
  view_fix Quiet e = (e.0, e.1)
  view_fix (Struck n) e = (nogood_of e.0, slice_get-map nogood_of store' n ∙ ap (option_map nogood_of) e.1, e.2)
