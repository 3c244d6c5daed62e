-- How the fields of a search keep to one another, step by step.
use Rattle.std.proofs.Common.{◌≡◌, ◌⊎◌, ℕ, suc, ◌+◌, ◌<◌, ◌≤◌, Bool, true, false, ◌&&◌, cond, List, [], ◌∷◌, ◌++◌, length, drop, get_or, drop-cons, refl, sym, ◌∙◌, ap, subst, inl, inr, arith, length-append}
use Rattle.std.specs.Prelude.{Option, Some, None, slice_get, nat_eq, is_none}
use Rattle.std.specs.Option.{option_map}
use Rattle.std.proofs.lemmas.Option.{slice_get_read}
use Rattle.lists.specs.Lists.{◌∈◌}
use Rattle.lists.proofs.ListLemmas.{∈-append_cases}
use Rattle.alpha_outside.specs.declared.literal.Lit.{Lit}
use Rattle.alpha_outside.specs.declared.literal.Value.{Value}
use Rattle.alpha_outside.specs.declared.pred.Pred.{Pred}
use Rattle.core_rules.specs.declared.rules.Core.{Core}
use Rattle.search_values.specs.declared.entry.Entry.{Entry}
use Rattle.search_values.specs.Values.{value_of, first_level, level_of, opened, all_at_0}
use Rattle.search_values.proofs.Basics.{in_single, get_in}
use Rattle.nogood_store.specs.Stored.{Stored}
use Rattle.nogood_store.specs.Matching.{Matches}
use Rattle.nogood_store.proofs.Matched.{new_match, reserved_keeps}
use Rattle.trail.specs.Assigning.{Trailed}
use Rattle.term_pool.proofs.PlaceLemmas.{get-before, get-kept}
use Rattle.atom_pool.specs.declared.atom.AtomNode.{AtomNode}
use Rattle.atom_pool.specs.declared.ground.Ground.{Ground}
use Rattle.atom_pool.specs.Pools.{Pool}
use Rattle.choice_manager.specs.Active.{AreThere}
use Rattle.working_memory.specs.Noting.{Noted, AreEntriesOf}
use Rattle.lazy_grounder.specs.Dues.{Makes}
use Rattle.lazy_grounder.specs.Grounders.{AddsPreds}
use Rattle.lazy_grounder.specs.Lawful.{IsBuilt}
use Rattle.ground_noting.specs.declared.telling.Told.{Told}
use Rattle.ground_noting.specs.Notings.{IsTold}
use Rattle.search_rules.specs.Stage.{IsSearchable}
use Rattle.search_state.specs.Searching.{Fields, Ties, fields, HasFronts, AreInMemory, LitsAreBelow, oldest, is_level_0}
use Rattle.search_state.proofs.Fronts.{oldest_over, rises_still}

-- what is below a number is below a greater one
pub lits_more : (n m : ℕ) → n ≤ m → (lits : List Lit) → LitsAreBelow n lits → LitsAreBelow m lits
lits_more n m le lits h l i = let k = h l i in omega (arith, k, le)

-- an atom that was told is there
pub told_there : (f : Fields) → Ties f → (a : ℕ) → a < f.told.atoms → a < length f.ground.atoms.atoms
told_there f ties a low = let few = ties.told.atoms in omega (arith, low, few)

-- a ground without terms, atoms and instances
pub empty_built : (core : Core) (preds : List Pred) → IsBuilt core
    (record { terms = []; atoms = record { preds = preds; atoms = [] }; instances = [] })
empty_built core preds = record {
  whole = record { beside = λ id a e. absurd (cc); within = λ k i. absurd i; makers = λ k i. absurd i };
  made = λ k i. absurd i;
  atoms = λ x p args q e f. absurd (cc);
  rising = λ i j b k l e f h low. absurd (cc);
  bodies_named = λ i b k e h. absurd (cc);
}

-- of an empty ground nothing was told
empty_told : (preds : List Pred) → IsTold (record { terms = []; atoms = record { preds = preds; atoms = [] }; instances = [] })
    (record { terms = 0; atoms = 0; instances = 0 })
empty_told preds = record {
  terms = omega arith;
  atoms = omega arith;
  instances = omega arith;
  within = λ i k low e. absurd
      (omega (arith, low));
  bodies = λ b i low e. absurd (omega (arith, low));
}

-- a search that has done nothing
pub ties_fresh : (core : Core) (preds : List Pred) → IsSearchable core
    → Ties (fields core (record { terms = []; atoms = record { preds = preds; atoms = [] }; instances = [] })
    (record { terms = 0; atoms = 0; instances = 0 }) [] 0 0 [] []
    (record { stack = []; atoms = 0; kept = 0; visited = 0; visits = [] }))
ties_fresh core preds searchable = record {
  searchable = searchable;
  built = empty_built core preds;
  told = empty_told preds;
  placed = omega arith;
  entries = λ n i. absurd i;
  fronts = (omega arith, omega arith);
  risen = λ e i up. absurd i;
  lits_placed = λ s i. absurd i;
  stack_placed = λ e i. absurd i;
  choices_there = λ i among. absurd among;
  matches = new_match;
}

-- as its parts come to be: a ground to which the grounder added the core's predicates
pub ties_new : (core : Core) → IsSearchable core → (old g : Ground) → old.terms ≡ [] → old.atoms ≡ record { preds = []; atoms = [] }
    → old.instances ≡ [] → AddsPreds old g → (memory : List Noted) (choices : List ℕ) (store : List Stored) (trail : Trailed) → memory ≡ []
    → choices ≡ [] → store ≡ [] → trail ≡ record { stack = []; atoms = 0; kept = 0; visited = 0; visits = [] }
    → Ties (fields core g (record { terms = 0; atoms = 0; instances = 0 }) memory 0 0 choices store trail)
ties_new core searchable old g terms atoms instances adds memory choices store trail m c s t =
    let preds : List Pred = old.atoms.preds ++ adds.0 in
    let none : Ground = record { terms = []; atoms = record { preds = preds; atoms = [] }; instances = [] } in
    let rest : List AtomNode = [] in
    let no_atoms : old.atoms.atoms ≡ rest = ap (λ (p : Pool). p.atoms) atoms in
    let empty : g ≡ none = adds.1 ∙ (λ i. record {
      terms = terms i;
      atoms = record { preds = preds; atoms = no_atoms i };
      instances =
          instances i;
    }) in
    let told : Told = record { terms = 0; atoms = 0; instances = 0 } in
    let whole : fields core g told memory 0 0 choices store trail ≡ fields core none told [] 0 0 [] []
    (record { stack = []; atoms = 0; kept = 0; visited = 0; visits = [] })
    = λ i. fields core (empty i) told (m i) 0 0 (c i) (s i) (t i) in
    subst (λ (f : Fields). Ties f) (sym whole) (ties_fresh core preds searchable)

module _ (f : Fields) (ties : Ties f) where
  -- the trail, the store and the fronts have moved
  pub ties_moved : (risen joined : ℕ) (store : List Stored) (trail : Trailed) → trail.atoms ≡ f.trail.atoms
      → HasFronts joined risen trail.stack → AreInMemory f.ground.atoms f.memory risen trail.stack
      → ((s : Stored) → s ∈ store → LitsAreBelow (length f.ground.atoms.atoms) s.lits) →
      ((e : Entry) → e ∈ trail.stack → e.atom < length f.ground.atoms.atoms) → Matches store trail
      → Ties (fields f.core f.ground f.told f.memory risen joined f.choices store trail)
  ties_moved risen joined store trail places fronts inside lits stack matches = record {
    searchable = ties.searchable;
    built = ties.built;
    told = ties.told;
    placed = (let k = ties.placed in omega (arith, k, places));
    entries = ties.entries;
    fronts = fronts;
    risen = inside;
    lits_placed = lits;
    stack_placed = stack;
    choices_there = ties.choices_there;
    matches = matches;
  }

  -- entries have come, of atoms that are there
  pub ties_risen : (above : List Entry) (store : List Stored) (trail : Trailed) → trail.atoms ≡ f.trail.atoms
      → trail.stack ≡ above ++ f.trail.stack → ((e : Entry) → e ∈ above → e.atom < length f.ground.atoms.atoms)
      → ((s : Stored) → s ∈ store → LitsAreBelow (length f.ground.atoms.atoms) s.lits) → Matches store trail
      → Ties (fields f.core f.ground f.told f.memory f.risen f.joined f.choices store trail)
  ties_risen above store trail places is low lits matches =
      let longer : length trail.stack ≡ length above + length f.trail.stack = ap length is ∙ length-append above f.trail.stack in
      let within = ties.fronts.1 in
      ties_moved f.risen f.joined store trail places (ties.fronts.0, omega (arith, longer, within))
      (λ e among. ties.risen e (subst (λ es. e ∈ es) (ap (oldest f.risen) is ∙ oldest_over above f.trail.stack f.risen within) among)) lits
      (λ e among. elim (∈-append_cases e above f.trail.stack (subst (λ es. e ∈ es) is among)) [
        | inl new ↦ low e new
        | inr old ↦ ties.stack_placed e old
      ]) matches

  -- one entry has come
  pub ties_put : (e : Entry) (trail : Trailed) → trail.atoms ≡ f.trail.atoms → trail.stack ≡ e ∷ f.trail.stack
      → e.atom < length f.ground.atoms.atoms → Matches f.store trail
      → Ties (fields f.core f.ground f.told f.memory f.risen f.joined f.choices f.store trail)
  ties_put e trail places is low matches =
      ties_risen (e ∷ []) f.store trail places is (λ x among. subst (λ (z : Entry). z.atom < length f.ground.atoms.atoms)
      (sym (in_single among)) low) ties.lits_placed matches

  -- one nogood more is stored
  pub ties_learned : (store : List Stored) (new : Stored) → store ≡ f.store ++ new ∷ [] → Matches store f.trail
      → LitsAreBelow f.told.atoms new.lits
      → Ties (fields f.core f.ground f.told f.memory f.risen f.joined f.choices store f.trail)
  ties_learned store new e matches below =
      ties_moved f.risen f.joined store f.trail refl ties.fronts ties.risen
      (λ s i. elim (∈-append_cases s f.store (new ∷ []) (subst (λ z. s ∈ z) e i)) [
        | inl j ↦ ties.lits_placed s j
        | inr j ↦ subst (λ (z : Stored). LitsAreBelow (length f.ground.atoms.atoms) z.lits) (sym (in_single j))
            (lits_more f.told.atoms (length f.ground.atoms.atoms) ties.told.atoms new.lits below)
      ]) ties.stack_placed matches

  -- more was told, nogoods were stored and instances noted as choices
  pub ties_told : (told : Told) (choices : List ℕ) (store : List Stored) → IsTold f.ground told → AreThere f.ground.instances choices
      → ((s : Stored) → s ∈ store → (s ∈ f.store) ⊎ LitsAreBelow (length f.ground.atoms.atoms) s.lits) → Matches store f.trail
      → Ties (fields f.core f.ground told f.memory f.risen f.joined choices store f.trail)
  ties_told told choices store is there low matches = record {
    searchable = ties.searchable;
    built = ties.built;
    told = is;
    placed = ties.placed;
    entries = ties.entries;
    fronts = ties.fronts;
    risen = ties.risen;
    lits_placed = λ s among. elim (low s among) [ inl old ↦ ties.lits_placed s old | inr new ↦ new ];
    stack_placed = ties.stack_placed;
    choices_there = there;
    matches = matches;
  }

  -- atoms were noted in the memory
  pub ties_noted : (memory : List Noted) (risen : ℕ) → AreEntriesOf f.ground.atoms memory → f.risen ≤ risen → risen ≤ length f.trail.stack
      → AreInMemory f.ground.atoms memory risen f.trail.stack
      → Ties (fields f.core f.ground f.told memory risen f.joined f.choices f.store f.trail)
  ties_noted memory risen entries more within inside = record {
    searchable = ties.searchable;
    built = ties.built;
    told = ties.told;
    placed = ties.placed;
    entries = entries;
    fronts = (let k = ties.fronts.0 in omega (arith, k, more), within);
    risen = inside;
    lits_placed = ties.lits_placed;
    stack_placed = ties.stack_placed;
    choices_there = ties.choices_there;
    matches = ties.matches;
  }

  -- one entry more is joined
  pub ties_joined : f.joined < f.risen → Ties (fields f.core f.ground f.told f.memory f.risen (f.joined + 1) f.choices f.store f.trail)
  ties_joined low = record {
    searchable = ties.searchable;
    built = ties.built;
    told = ties.told;
    placed = ties.placed;
    entries = ties.entries;
    fronts = (omega (arith, low), ties.fronts.1);
    risen = ties.risen;
    lits_placed = ties.lits_placed;
    stack_placed = ties.stack_placed;
    choices_there = ties.choices_there;
    matches = ties.matches;
  }

  module _ (Wanted : List ℕ → Type 0) (g : Ground) (t : Trailed) (left left' : ℕ)
      (makes : Makes Wanted f.ground g f.trail t left left') where
    -- what stands in the ground stays there
    atom_kept : (x : ℕ) (n : AtomNode) → slice_get f.ground.atoms.atoms x ≡ Some n → slice_get g.atoms.atoms x ≡ Some n
    atom_kept x n at = ap (λ ns. slice_get ns x) makes.atoms ∙ get-kept f.ground.atoms.atoms makes.more_atoms x n at

    more_atoms : length f.ground.atoms.atoms ≤ length g.atoms.atoms
    more_atoms = let k : length g.atoms.atoms ≡ length f.ground.atoms.atoms + length makes.more_atoms = ap length makes.atoms
        ∙ length-append f.ground.atoms.atoms makes.more_atoms in omega (arith, k)

    more_instances : length f.ground.instances ≤ length g.instances
    more_instances = let k : length g.instances ≡ length f.ground.instances + length makes.more = ap length makes.made
        ∙ length-append f.ground.instances makes.more in omega (arith, k)

    -- below what was there nothing else came
    atom_was : (x : ℕ) (n : AtomNode) → x < length f.ground.atoms.atoms → slice_get g.atoms.atoms x ≡ Some n
        → slice_get f.ground.atoms.atoms x ≡ Some n
    atom_was x n low at = sym (get-before f.ground.atoms.atoms makes.more_atoms x low) ∙ ap (λ ns. slice_get ns x) (sym makes.atoms) ∙ at

    -- as much was told
    told_still : IsTold g f.told
    told_still =
        let terms = makes.kept.0 in
        let low = ties.told.atoms in
        record {
          terms = (let k = ties.told.terms in omega (arith, k, terms));
          atoms = (let k = more_atoms in omega (arith, k, low));
          instances = (let k = ties.told.instances in let m = more_instances in omega (arith, k, m));
          within = λ i k under at.
              let few = ties.told.instances in
              ties.told.within i k under (sym (get-before f.ground.instances makes.more i (omega (arith, few, under))) ∙ ap
              (λ ks. slice_get ks i) (sym makes.made) ∙ at);
          bodies = λ b i under at. ties.told.bodies b i under (atom_was b _ (omega (arith, low, under)) at);
        }

    -- the grounder was called
    pub ties_grounded : IsBuilt f.core g → Ties (fields f.core g f.told f.memory f.risen f.joined f.choices f.store t)
    ties_grounded built =
        let stack : t.stack ≡ f.trail.stack = ap (λ (z : Trailed). z.stack) makes.trail in
        let more = more_atoms in
        record {
          searchable = ties.searchable;
          built = built;
          told = told_still;
          placed = makes.placed;
          entries = λ n among. atom_kept n.atom _ (ties.entries n among);
          fronts = (ties.fronts.0, subst (λ es. f.risen ≤ length es) (sym stack) ties.fronts.1);
          risen = λ e among up.
              let there : e ∈ oldest f.risen f.trail.stack = subst (λ es. e ∈ oldest f.risen es) stack among in
              ties.risen e there
              (rises_still f.ground.atoms g.atoms makes.more_atoms makes.atoms f.trail.stack ties.stack_placed f.risen e there up);
          lits_placed = λ s among. lits_more (length f.ground.atoms.atoms) (length g.atoms.atoms) more s.lits (ties.lits_placed s among);
          stack_placed = λ e among. let low = ties.stack_placed e (subst (λ es. e ∈ es) stack among) in omega (arith, low, more);
          choices_there = λ i among. let low = ties.choices_there i among in let m = more_instances in omega (arith, low, m);
          matches = subst (λ (z : Trailed). Matches f.store z) (sym makes.trail) (reserved_keeps f.store f.trail ties.matches t.atoms);
        }

  -- the literals of a stored nogood have places
  pub stored_placed : (n : ℕ) (s : Stored) → slice_get f.store n ≡ Some s → LitsAreBelow f.trail.atoms s.lits
  stored_placed n s at l i =
      let low = ties.lits_placed s (get_in f.store n s at) l i in
      let placed = ties.placed in
      omega (arith, low, placed)

-- ---- levels

-- an atom without a value has no first level
pub no_level : (stack : List Entry) (a : ℕ) → value_of stack a ≡ None → first_level stack a ≡ 0
no_level [] a e = refl
no_level (x ∷ rest) a e = go (nat_eq x.atom a) e (no_level rest a)
  where
    go : (b : Bool) → cond b (Some x.value) (value_of rest a) ≡ None → (value_of rest a ≡ None → first_level rest a ≡ 0)
        → cond (b && is_none (value_of rest a)) (level_of rest + opened x.why) (first_level rest a) ≡ 0
    go true e h = cc
    go false e h = h e

-- the level that a trail tells is 0, or there is none
pub told_level : (stack : List Entry) (a : ℕ) → is_level_0 (option_map (λ v. first_level stack a) (value_of stack a)) ≡ nat_eq
    (first_level stack a) 0
told_level stack a = go (value_of stack a) (no_level stack a)
  where
    go : (v : Option Value) → (v ≡ None → first_level stack a ≡ 0) → is_level_0 (option_map (λ w. first_level stack a) v) ≡ nat_eq
        (first_level stack a) 0
    go None h = ap (λ n. nat_eq n 0) (sym (h refl))
    go (Some w) h = refl

-- the literals from a place on stand at level 0 where this one and those behind it do
pub at_0_on : (stack : List Entry) (lits : List Lit) (i : ℕ) (l : Lit) → i < length lits → l ≡ get_or lits i l → all_at_0 stack
    (drop i lits) ≡ (nat_eq (first_level stack l.atom) 0 && all_at_0 stack (drop (i + 1) lits))
at_0_on stack lits i l low e =
    let next : suc i ≡ i + 1 = omega arith in
    ap (all_at_0 stack) (drop-cons lits i l low)
    ∙ ap (λ (z : Lit). nat_eq (first_level stack z.atom) 0 && all_at_0 stack (drop (suc i) lits)) (sym e)
    ∙ ap (λ n. nat_eq (first_level stack l.atom) 0 && all_at_0 stack (drop n lits)) next

-- a literal at a place is one of the list
pub lit_there : (lits : List Lit) (i : ℕ) (l : Lit) → i < length lits → l ≡ get_or lits i l → l ∈ lits
lit_there lits i l low e = get_in lits i l (slice_get_read lits (length lits) i l refl low e)
