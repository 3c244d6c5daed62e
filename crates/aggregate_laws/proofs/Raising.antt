-- An answer set with totals has a core answer set under an extension of each numbering.
use Rattle.std.proofs.Common.{◌≡◌, ℕ, ◌⊎◌, Bool, true, false, ◌&&◌, List, ◌++◌, refl, ◌∙◌, inl, inr}
use Rattle.lists.specs.Lists.{◌∈◌}
use Rattle.lists.proofs.ListLemmas.{∈-append_left, ∈-append_right, ∈-append_cases}
use Rattle.core_rules.specs.declared.rules.CoreAggregate.{CoreAggregate}
use Rattle.asp_meaning.specs.declared.value.Value.{Value}
use Rattle.core_meaning.specs.Atoms.{GroundAtom, User, Member}
use Rattle.core_meaning.specs.Numberings.{Numbering}
use Rattle.aggregate_laws.specs.Rules.{NumbersOnce, IsAnswerSetOf}
use Rattle.asp_meaning.specs.Atoms.{Atom}
use Rattle.search_values.proofs.Basics.{and_left, and_right, and_intro}
use Rattle.aggregate_laws.specs.TotalsInBodies.{GroundProgram, IsAnswerSetWithTotals, user_atoms, core_rules, HasDomains, IsListed, NotRecursive}
use Rattle.aggregate_laws.proofs.Sameness.{decide_list, decide_value}
use Rattle.aggregate_laws.proofs.CoreOfTotals.{are_rules}
use Rattle.core_meaning.specs.Numberings.{ExtendsFor}
use Rattle.aggregate_laws.proofs.Kept.{kept, kept_in, in_kept, kept_set, append_set}
use Rattle.aggregate_laws.proofs.FromTotals.{by_extents, core_set, from_answer_set, user_same}
use Rattle.aggregate_laws.proofs.Renumbering.{moved, moved_same, renumbered}
use Rattle.aggregate_laws.specs.Laws.{AnswerSetsBecomeCoreSets}
use Rattle.aggregate_laws.proofs.Sameness.{decide_member}

-- whether a decision is no
is_no : {X Y : Type 0} → X ⊎ Y → Bool
is_no (inl x) = false
is_no (inr y) = true

no_then : {X : Type 0} (d : X ⊎ (X → ⊥)) → is_no d ≡ true → X → ⊥
unfolding is_no
no_then (inl x) e = cc
no_then (inr n) e = n

then_no : {X : Type 0} (d : X ⊎ (X → ⊥)) → (X → ⊥) → is_no d ≡ true
unfolding is_no
then_no (inl x) h = absurd (h x)
then_no (inr n) h = refl

-- a numbering that has, after its own members, those of another that are in the set
module _ (aggs : List CoreAggregate) (N more : Numbering) (c : GroundAtom → Bool) (ok : NumbersOnce aggs N) (good : NumbersOnce aggs more) where
  is_new : ℕ → Bool → List Value → List Value → Bool
  is_new agg side key t = is_no (decide_member (decide_list decide_value) t (N agg side key)) && c (Member agg key t)

  both : Numbering
  both agg side key = N agg side key ++ kept (is_new agg side key) (more agg side key)

  both_ok : NumbersOnce aggs both
  unfolding both is_new
  both_ok = record {
    once = λ agg side key. append_set (N agg side key) (kept (is_new agg side key) (more agg side key)) (ok.once agg side key) (kept_set (is_new agg side key) (more agg side key) (good.once agg side key))
        (λ x i j. no_then (decide_member (decide_list decide_value) x (N agg side key)) (and_left _ _ (kept_in (is_new agg side key) (more agg side key) x j).1) i);
    weighs = λ agg side key t i. elim (∈-append_cases t (N agg side key) (kept (is_new agg side key) (more agg side key)) i) [
      | inl j ↦ ok.weighs agg side key t j
      | inr j ↦ good.weighs agg side key t (kept_in (is_new agg side key) (more agg side key) t j).0
    ];
  }

  in_both : (agg : ℕ) (side : Bool) (key t : List Value) → (t ∈ (more agg side key)) → c (Member agg key t) ≡ true → (t ∈ (both agg side key))
  unfolding both is_new
  in_both agg side key t i h = elim (decide_member (decide_list decide_value) t (N agg side key)) [
    | inl j ↦ ∈-append_left t (N agg side key) (kept (is_new agg side key) (more agg side key)) j
    | inr n ↦ ∈-append_right t (N agg side key) (kept (is_new agg side key) (more agg side key)) (in_kept (is_new agg side key) (more agg side key) t i (and_intro _ _ (then_no (decide_member (decide_list decide_value) t (N agg side key)) n) h))
  ]

  both_extends : ExtendsFor c N both
  unfolding both is_new
  both_extends agg side key = (kept (is_new agg side key) (more agg side key), refl, λ t i. (and_right _ _ (kept_in (is_new agg side key) (more agg side key) t i).1))

module _ {R D E : Type 0} (aggs : List CoreAggregate) (P : GroundProgram R D E) (has : HasDomains P)
    (stratum : Atom → ℕ) (strata : NotRecursive P stratum) (I : Atom → Bool) (set : IsAnswerSetWithTotals aggs P I) (listed : IsListed aggs P I) (N : Numbering) (ok : NumbersOnce aggs N) where
  raise : ((u : Atom) → core_set aggs P has stratum strata I set listed (User u) ≡ I u)
      → (M : Numbering) × (c : GroundAtom → Bool) × ExtendsFor c N M × IsAnswerSetOf aggs (core_rules P) M c × ((u : Atom) → c (User u) ≡ I u)
  raise user_atoms =
      let list = by_extents aggs P has stratum strata I set listed in
      let c = core_set aggs P has stratum strata I set listed in
      let whole = from_answer_set aggs P has stratum strata I set listed in
      let M = both aggs N list c ok whole.numbering in
      let ext = both_extends aggs N list c ok whole.numbering in (
        M,
        moved aggs M c,
        (λ agg side key. let r = ext agg side key in (r.0, r.1, λ t i. moved_same aggs M c (Member agg key t) tt ∙ r.2 t i)),
        renumbered aggs (core_rules P) (are_rules P) list M c whole
            (both_ok aggs N list c ok whole.numbering)
            (λ agg side key t h l. in_both aggs N list c ok whole.numbering agg side key t (whole.numbers agg side key t h l) h),
        λ u. moved_same aggs M c (User u) tt ∙ user_atoms u,
      )

pub answer_sets_become_core_sets : {R D E : Type 0} → AnswerSetsBecomeCoreSets R D E
answer_sets_become_core_sets aggs P has stratum strata I set listed N ok = raise aggs P has stratum strata I set listed N ok (user_same aggs P has stratum strata I set listed)
