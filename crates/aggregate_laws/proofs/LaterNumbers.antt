-- The law on later numberings.
use Rattle.std.proofs.Common.{◌≡◌, ℕ, Bool, true, List, ◌++◌, refl, sym, ◌∙◌, ap, subst, inl, inr}
use Rattle.std.specs.Prelude.{Option}
use Rattle.lists.specs.Lists.{◌∈◌, HasNoRepeats}
use Rattle.lists.proofs.ListLemmas.{∈-append_left, ∈-append_right, ∈-append_cases}
use Rattle.core_rules.specs.declared.rules.CoreAggregate.{CoreAggregate}
use Rattle.search_values.specs.Instances.{Instance}
use Rattle.asp_meaning.specs.declared.value.Value.{Value}
use Rattle.core_meaning.specs.Atoms.{GroundAtom, User, Domain, Member, Total, Grid, Reach, Above}
use Rattle.core_meaning.specs.Numberings.{Numbering, NumbersAll, adds}
use Rattle.aggregate_laws.specs.Rules.{rules_of, AreRules, NumbersOnce, IsAnswerSetOf}
use Rattle.aggregate_laws.proofs.Derivable.{both_ways}
use Rattle.aggregate_laws.proofs.Sums.{SumsTo}
use Rattle.aggregate_laws.proofs.Totals.{grid_of, path_of, domain_of}
use Rattle.aggregate_laws.proofs.Kept.{kept, kept_in, in_kept, kept_set, set_append, append_set}
use Rattle.std.proofs.Common.{append_assoc}
use Rattle.core_meaning.specs.Numberings.{ExtendsFor}
use Rattle.aggregate_laws.proofs.CoreSets.{are_core_rules, of_core, core_from, numbering_from}
use Rattle.aggregate_laws.specs.Laws.{Extends, NumbersNoMore, IsKnown, LaterNumbersChangeNothing, LaterCoreNumbersChangeNothing}
use Rattle.aggregate_laws.proofs.Renumbering.{moved, moved_same, renumbered, grid_parts, grid_true}
use Rattle.aggregate_laws.proofs.Picking.{path_prefix}

module _ {R : Type 0} (aggs : List CoreAggregate) (rules : R → Option (Instance GroundAtom)) (are : AreRules rules)
    (N later M : Numbering) (c : GroundAtom → Bool) (ext : Extends N later) (for : ExtendsFor c later M) (set : IsAnswerSetOf aggs rules M c) where
  -- the members that got their numbers since
  since : Numbering
  since agg side key = (ext agg side key).0 ++ (for agg side key).0

  -- whether it is in the set
  is_member : ℕ → List Value → List Value → Bool
  is_member agg key t = c (Member agg key t)

  -- those of them that are in the set come after the members that had numbers before
  closed_up : Numbering
  closed_up agg side key = N agg side key ++ kept (is_member agg key) (since agg side key)

  whole : (agg : ℕ) (side : Bool) (key : List Value) → M agg side key ≡ N agg side key ++ since agg side key
  unfolding since
  whole agg side key =
      (for agg side key).1 ∙ (ap (λ xs. xs ++ (for agg side key).0) (ext agg side key).1 ∙ append_assoc (N agg side key) (ext agg side key).0 (for agg side key).0)

  no_more : NumbersNoMore closed_up M
  unfolding closed_up
  no_more agg side key t i = subst (λ xs. (t ∈ xs)) (sym (whole agg side key))
      (elim (∈-append_cases t (N agg side key) (kept (is_member agg key) (since agg side key)) i) [
        | inl j ↦ ∈-append_left t (N agg side key) (since agg side key) j
        | inr j ↦ ∈-append_right t (N agg side key) (since agg side key) (kept_in (is_member agg key) (since agg side key) t j).0
      ])

  closed_up_ok : NumbersOnce aggs closed_up
  unfolding closed_up
  closed_up_ok = record {
    once = λ agg side key.
        let s = set_append (N agg side key) (since agg side key) (subst (λ xs. HasNoRepeats xs) (whole agg side key) (set.numbering.once agg side key)) in
        append_set (N agg side key) (kept (is_member agg key) (since agg side key)) s.0 (kept_set (is_member agg key) (since agg side key) s.1)
        (λ x i j. s.2 x i (kept_in (is_member agg key) (since agg side key) x j).0);
    weighs = λ agg side key t i. set.numbering.weighs agg side key t (no_more agg side key t i);
  }

  closed_up_all : NumbersAll aggs closed_up c
  unfolding closed_up is_member
  closed_up_all agg side key t h l =
      elim (∈-append_cases t (N agg side key) (since agg side key) (subst (λ xs. (t ∈ xs)) (whole agg side key) (set.numbers agg side key t h l))) [
        | inl j ↦ ∈-append_left t (N agg side key) (kept (is_member agg key) (since agg side key)) j
        | inr j ↦ ∈-append_right t (N agg side key) (kept (is_member agg key) (since agg side key)) (in_kept (is_member agg key) (since agg side key) t j h)
      ]

  extends_for : ExtendsFor c N closed_up
  unfolding closed_up is_member
  extends_for agg side key = (kept (is_member agg key) (since agg side key), refl, λ t i. (kept_in (is_member agg key) (since agg side key) t i).1)

  result : IsAnswerSetOf aggs rules closed_up (moved aggs closed_up c)
  result = renumbered aggs rules are M closed_up c set closed_up_ok closed_up_all

  -- the sets say the same of known atoms
  known_same : (a : GroundAtom) → IsKnown N a → moved aggs closed_up c a ≡ c a
  unfolding closed_up
  known_same (Grid agg side key k sum) h = both_ways _ _
      (λ t. let p = grid_parts aggs rules are M closed_up c set closed_up_ok closed_up_all agg side key k sum t in
      grid_of aggs rules are M c set.answers agg side key p.0 k sum
      (subst (λ xs. SumsTo (λ t. c (Member agg key t) ≡ true) (adds aggs agg side) xs k sum) (sym (whole agg side key))
      (path_prefix (N agg side key) (kept (is_member agg key) (since agg side key)) (since agg side key) k sum h p.1)))
      (λ t. let p = path_of aggs rules are M c set.answers agg side key k sum t in
      let q = subst (λ xs. SumsTo (λ t. c (Member agg key t) ≡ true) (adds aggs agg side) xs k sum) (whole agg side key) p in
      grid_true aggs rules are M closed_up c set closed_up_ok closed_up_all agg side key k sum
      (domain_of aggs rules are M c set.answers agg side key k sum t)
      (path_prefix (N agg side key) (since agg side key) (kept (is_member agg key) (since agg side key)) k sum h q))
  known_same (User u) h = moved_same aggs closed_up c (User u) tt
  known_same (Domain agg key) h = moved_same aggs closed_up c (Domain agg key) tt
  known_same (Member agg key t) h = moved_same aggs closed_up c (Member agg key t) tt
  known_same (Total agg key v) h = moved_same aggs closed_up c (Total agg key v) tt
  known_same (Reach agg side key sum) h = moved_same aggs closed_up c (Reach agg side key sum) tt
  known_same (Above agg side key sum) h = moved_same aggs closed_up c (Above agg side key sum) tt

  later_law : (M' : Numbering) × (e : GroundAtom → Bool) × ExtendsFor e N M' × NumbersNoMore M' M × IsAnswerSetOf aggs rules M' e × ((a : GroundAtom) → IsKnown N a → e a ≡ c a)
  later_law = (
    closed_up,
    moved aggs closed_up c,
    (λ agg side key. let r = extends_for agg side key in (r.0, r.1, λ t i. moved_same aggs closed_up c (Member agg key t) tt ∙ r.2 t i)),
    no_more,
    result,
    known_same,
  )

pub later_numbers : {R : Type 0} → LaterNumbersChangeNothing R
later_numbers aggs rules are N later M c ext for set = later_law aggs rules are N later M c ext for set

pub later_core_numbers : LaterCoreNumbersChangeNothing
later_core_numbers core form N later M c ext for set =
    let r = later_numbers core.aggregates (rules_of core) (are_core_rules core form) N later M c ext for (of_core core M c set) in
    (r.0, r.1, r.2, r.3, core_from core r.0 r.1 (numbering_from core M r.0 set.numbering r.3 (IsAnswerSetOf.numbering r.4)) r.4, r.5)
