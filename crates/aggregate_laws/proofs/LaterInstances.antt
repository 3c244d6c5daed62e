-- Which instances there are under later numberings.
use Rattle.std.proofs.Common.{◌≡◌, ℕ, suc, zero, ◌⊎◌, Bool, true, List, [], ◌∷◌, ◌++◌, refl, sym, ◌∙◌, ap, subst, inl, inr}
use Rattle.std.specs.Prelude.{Option, Some, None, slice_get}
use Rattle.lists.specs.Lists.{◌∈◌, HasNoRepeats}
use Rattle.core_rules.specs.declared.rules.CoreAggregate.{CoreAggregate}
use Rattle.search_values.specs.Instances.{Instance}
use Rattle.search_values.proofs.Basics.{get_in, get_left}
use Rattle.asp_meaning.specs.declared.value.Value.{Value}
use Rattle.core_meaning.specs.Atoms.{GroundAtom, Member}
use Rattle.core_meaning.specs.Numberings.{Numbering, ExtendsFor}
use Rattle.core_meaning.specs.Steps.{Step, step_instance, skip_with, add_with}
use Rattle.core_meaning.specs.Steps as step
use Rattle.aggregate_laws.specs.Rules.{ByRule, ByStep, NumbersOnce}
use Rattle.aggregate_laws.specs.Uses.{used_with, step_uses}
use Rattle.aggregate_laws.specs.Laws.{Extends, InstancesStay, InstancesWereMadeBefore}
use Rattle.aggregate_laws.proofs.Kept.{set_append}

-- ---- instances stay

module _ (aggs : List CoreAggregate) (n later : Numbering) (ext : Extends n later) where
  -- a member keeps its place
  place_stays : (agg : ℕ) (side : Bool) (key : List Value) (j : ℕ) (t : List Value) → slice_get (n agg side key) j ≡ Some t → slice_get (later agg side key) j ≡ Some t
  place_stays agg side key j t e = subst (λ xs. slice_get xs j ≡ Some t) (sym (ext agg side key).1) (get_left (n agg side key) (ext agg side key).0 j t e)

  step_stays : (s : Step) (i : Instance GroundAtom) → step_instance aggs n s ≡ Some i → step_instance aggs later s ≡ Some i
  step_stays (step.Zero agg side key) i e = e
  step_stays (step.Skip agg side zero sum key) i e = e
  step_stays (step.Skip agg side (suc j) sum key) i e = go (slice_get (n agg side key) j) refl e
    where
      go : (o : Option (List Value)) → slice_get (n agg side key) j ≡ o → skip_with agg side j sum key o ≡ Some i → skip_with agg side j sum key (slice_get (later agg side key) j) ≡ Some i
      go None o e = cc
      go (Some t) o e = ap (skip_with agg side j sum key) (place_stays agg side key j t o) ∙ e
  step_stays (step.Add agg side zero sum key) i e = e
  step_stays (step.Add agg side (suc j) sum key) i e = go (slice_get (n agg side key) j) refl e
    where
      go : (o : Option (List Value)) → slice_get (n agg side key) j ≡ o → add_with aggs agg side j sum key o ≡ Some i → add_with aggs agg side j sum key (slice_get (later agg side key) j) ≡ Some i
      go None o e = cc
      go (Some t) o e = ap (add_with aggs agg side j sum key) (place_stays agg side key j t o) ∙ e
  step_stays (step.Reach agg side k sum key) i e = e
  step_stays (step.Above agg side low high key) i e = e
  step_stays (step.Total agg up down key) i e = e

pub instances_stay : {R : Type 0} → InstancesStay R
instances_stay aggs rules n later ext (ByRule r) i e = e
instances_stay aggs rules n later ext (ByStep s) i e = step_stays aggs n later ext s i e

-- ---- instances were made before

-- what stands at a place of both lists stands there in the first, or is in the second
place_cases : {X : Type 0} (xs ys : List X) (j : ℕ) (x : X) → slice_get (xs ++ ys) j ≡ Some x → (slice_get xs j ≡ Some x) ⊎ (x ∈ ys)
place_cases [] ys j x e = inr (get_in ys j x e)
place_cases (z ∷ xs) ys zero x e = inl e
place_cases (z ∷ xs) ys (suc j) x e = place_cases xs ys j x e

module _ (aggs : List CoreAggregate) (n n' : Numbering) (c : GroundAtom → Bool) (once : NumbersOnce aggs n') (ext : ExtendsFor c n n') where
  -- those of these members that are in the set had their numbers before
  Before : List GroundAtom → Type 0
  Before used = (agg : ℕ) (side : Bool) (key tuple : List Value) → Member agg key tuple ∈ used → c (Member agg key tuple) ≡ true → tuple ∈ n' agg side key → tuple ∈ n agg side key

  -- a member that had its number before stood at this place
  place_before : (agg : ℕ) (side : Bool) (key : List Value) (j : ℕ) (t : List Value) → slice_get (n' agg side key) j ≡ Some t → Before (Member agg key t ∷ []) → slice_get (n agg side key) j ≡ Some t
  unfolding Before
  place_before agg side key j t e before =
      let more = ext agg side key in
      elim (place_cases (n agg side key) more.0 j t (subst (λ xs. slice_get xs j ≡ Some t) more.1 e)) [
        | inl old ↦ old
        | inr new ↦ (let there = before agg side key t (inl refl) (more.2 t new) (get_in (n' agg side key) j t e) in
            absurd ((set_append (n agg side key) more.0 (subst (λ xs. HasNoRepeats xs) more.1 (once.once agg side key))).2 t there new))
      ]

  step_before : (s : Step) (i : Instance GroundAtom) → step_instance aggs n' s ≡ Some i → Before (step_uses n' s) → step_instance aggs n s ≡ Some i
  step_before (step.Zero agg side key) i e before = e
  step_before (step.Skip agg side zero sum key) i e before = e
  step_before (step.Skip agg side (suc j) sum key) i e before = go (slice_get (n' agg side key) j) refl e before
    where
      go : (o : Option (List Value)) → slice_get (n' agg side key) j ≡ o → skip_with agg side j sum key o ≡ Some i → Before (used_with agg key o)
          → skip_with agg side j sum key (slice_get (n agg side key) j) ≡ Some i
      go None o e before = cc
      go (Some t) o e before = ap (skip_with agg side j sum key) (place_before agg side key j t o before) ∙ e
  step_before (step.Add agg side zero sum key) i e before = e
  step_before (step.Add agg side (suc j) sum key) i e before = go (slice_get (n' agg side key) j) refl e before
    where
      go : (o : Option (List Value)) → slice_get (n' agg side key) j ≡ o → add_with aggs agg side j sum key o ≡ Some i → Before (used_with agg key o)
          → add_with aggs agg side j sum key (slice_get (n agg side key) j) ≡ Some i
      go None o e before = cc
      go (Some t) o e before = ap (add_with aggs agg side j sum key) (place_before agg side key j t o before) ∙ e
  step_before (step.Reach agg side k sum key) i e before = e
  step_before (step.Above agg side low high key) i e before = e
  step_before (step.Total agg up down key) i e before = e

  made_before : (s : Step) (i : Instance GroundAtom) → step_instance aggs n' s ≡ Some i
      → ((agg : ℕ) (side : Bool) (key tuple : List Value) → Member agg key tuple ∈ step_uses n' s → c (Member agg key tuple) ≡ true → tuple ∈ n' agg side key → tuple ∈ n agg side key)
      → step_instance aggs n s ≡ Some i
  unfolding Before
  made_before = step_before

pub instances_were_made_before : {R : Type 0} → InstancesWereMadeBefore R
instances_were_made_before aggs rules n n' c once ext (ByRule r) i e before = e
instances_were_made_before aggs rules n n' c once ext (ByStep s) i e before = made_before aggs n n' c once ext s i e before
