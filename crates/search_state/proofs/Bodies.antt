-- Bodies that are active.
use Rattle.std.proofs.Common.{◌≡◌, ℕ, ◌<◌, ◌≤◌, true, List, map, length, Some, slice_get, inl, inr, sym, ap, subst, ◌∙◌, arith}
use Rattle.std.specs.Option.{option_map}
use Rattle.std.proofs.lemmas.Bool.{cases_lt}
use Rattle.std.proofs.lemmas.Option.{slice_get-map}
use Rattle.lists.specs.Lists.{◌∈◌}
use Rattle.lists.proofs.ListLemmas.{Each-at, Each-from}
use Rattle.search_values.specs.Values.{True, lit, value_of, Holds}
use Rattle.search_values.specs.declared.entry.Entry.{Entry}
use Rattle.search_values.specs.Tables as table
use Rattle.search_values.proofs.Basics.{get_in}
use Rattle.nogood_store.proofs.Matched.{there_below}
use Rattle.journal_theory.specs.States.{IsActive}
use Rattle.atom_pool.specs.declared.atom.AtomNode.{AtomNode}
use Rattle.atom_pool.specs.declared.instances.Made.{Made}
use Rattle.choice_manager.specs.Active.{IsActiveBody, ArePlaced}
use Rattle.search_fronts.specs.declared.fronts.Fronts.{Fronts}
use Rattle.search_fronts.specs.Fronts.{AreFronts}
use Rattle.search_rules.specs.Tests.{Maker}
use Rattle.lazy_grounder.specs.Lawful.{IsWithin}
use Rattle.ground_noting.specs.declared.telling.Told.{Told}
use Rattle.search_state.specs.Searching.{Searching, IsAllTold, ids, made, made_of, state_of}
use Rattle.search_state.specs.Moves.{NoChoice}
use Rattle.search_state.proofs.Takes.{take_get, get_take, get_mapped}

-- the atoms of instances whose ids are below one number are below a greater one
pub made_are_placed : (made : List Made) (n places : ℕ) → n ≤ places → ((k : Made) → k ∈ made → IsWithin n k) → ArePlaced places made
made_are_placed made n places fits within k among =
    let w = within k among in (
      λ b is. let low = w.body b is in omega (arith, fits, low),
      Each-from (λ p. p < places) k.pos (λ p i. let low = Each-at (λ x. x < n) k.pos p w.pos i in omega (arith, fits, low)),
      Each-from (λ m. m < places) k.neg (λ m i. let low = Each-at (λ x. x < n) k.neg m w.neg i in omega (arith, fits, low)),
    )

-- with all told an active body that was found is one of an instance that was made, and has an id
pub active_found : (v : Searching) → IsAllTold v → ((k : Made) → k ∈ v.ground.instances → IsWithin (length v.ground.atoms.atoms) k) →
    (b : ℕ) → ((i : ℕ) × (k : Made) × (slice_get v.ground.instances i ≡ Some k) × IsActiveBody v.stack k b)
    → (b < ids v) × ((k : table.Made Maker) × (k ∈ made v) × IsActive (state_of v) k b)
active_found v all within b found =
    let k = found.1 in
    let at = found.2 in
    let opens = found.3 in
    let atoms : v.told.atoms ≡ length v.ground.atoms.atoms = ap (λ (t : Told). t.atoms) all in
    let instances : v.told.instances ≡ length v.ground.instances = ap (λ (t : Told). t.instances) all in
    let low = (within k (get_in v.ground.instances found.0 k at)).body b opens.has_body in
    let there = there_below v.ground.instances found.0 k at in
    let told : slice_get (made v) found.0 ≡ Some (made_of v.ground.terms k) =
    get_take v.told.instances (map (made_of v.ground.terms) v.ground.instances) found.0 (made_of v.ground.terms k)
    (omega (arith, there, instances))
    (slice_get-map (made_of v.ground.terms) v.ground.instances found.0 ∙ ap (option_map (made_of v.ground.terms)) at) in (
      omega (arith, low, atoms),
      (
        made_of v.ground.terms k,
        get_in (made v) found.0 (made_of v.ground.terms k) told,
        record {
          has_body = opens.has_body;
          not_yet = opens.not_yet;
          pos_true = λ p i. Each-at (λ x. value_of v.stack x ≡ Some True) k.pos p opens.pos_true i;
          neg_not_up = λ x i. Each-at (λ x. ¬ Holds v.stack (lit x true)) k.neg x opens.neg_not_up i;
        },
      ),
    )

-- before the front no body is active, so there is none where there is none from the front on
pub none_active : (atoms : List AtomNode) (made : List Made) (stack : List Entry) (f : Fronts) → AreFronts atoms made stack f
    → ((i : ℕ) → f.settled ≤ i → (k : Made) → slice_get made i ≡ Some k → (b : ℕ) → ¬ IsActiveBody stack k b)
    → (i : ℕ) (k : Made) → slice_get made i ≡ Some k → (b : ℕ) → ¬ IsActiveBody stack k b
none_active atoms made stack f are none i k at b active = elim (cases_lt i f.settled) [
  | inl before ↦ are.settled i k before at b active.has_body active.not_yet
  | inr from ↦ none i from k at b active
]

-- where no instance has an active body, there is no choice
pub no_choice : (v : Searching) → ((i : ℕ) (k : Made) → slice_get v.ground.instances i ≡ Some k → (b : ℕ) → ¬ IsActiveBody v.stack k b)
    → NoChoice v
no_choice v none i among k at b active =
    let from = get_mapped (made_of v.ground.terms) v.ground.instances i k
    (take_get v.told.instances (map (made_of v.ground.terms) v.ground.instances) i k at).1 in
    let still : IsActive (state_of v) (made_of v.ground.terms from.0) b = subst (λ (z : table.Made Maker). IsActive (state_of v) z b)
    (sym from.2) active in
    none i from.0 from.1 b (record {
      has_body = still.has_body;
      not_yet = still.not_yet;
      pos_true = Each-from (λ x. value_of v.stack x ≡ Some True) from.0.pos still.pos_true;
      neg_not_up = Each-from (λ x. ¬ Holds v.stack (lit x true)) from.0.neg still.neg_not_up;
    })
