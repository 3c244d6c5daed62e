-- Members in a set of a core's rules are members of the core, so a numbering that is extended for the set stays one of the core.
use Rattle.std.proofs.Common.{◌≡◌, ℕ, suc, ◌+◌, ◌-◌, ◌≤◌, ◌⊎◌, Bool, true, List, [], ◌∷◌, ◌++◌, map, length, refl, sym, ◌∙◌, ap, subst, inl, inr, arith}
use Rattle.std.specs.Prelude.{Option, Some, None, slice_get, take, drop}
use Rattle.std.proofs.lemmas.List.{length-take-le, length-drop, length-map}
use Rattle.lists.specs.Lists.{◌∈◌}
use Rattle.lists.proofs.ListLemmas.{Each-at, ∈-append_left, ∈-append_right, ∈-append_cases}
use Rattle.alpha_outside.specs.declared.pred.Pred.{Pred}
use Rattle.alpha_outside.specs.declared.pred.Pred.TheVariants as pred
use Rattle.core_rules.specs.declared.rules.CoreAtom.{CoreAtom}
use Rattle.core_rules.specs.declared.rules.CoreAggregate.{CoreAggregate}
use Rattle.core_rules.specs.declared.rules.Core.{Core}
use Rattle.core_rules.specs.CoreForm.{IsCoreForm, IsRuleForm, MayStand, arity_of, IsNoTotal, IsFitting}
use Rattle.core_rules.specs.CoreForm as form
use Rattle.search_values.specs.Instances.{Instance}
use Rattle.asp_meaning.specs.declared.value.Value.{Value}
use Rattle.asp_meaning.specs.Terms.{all_of, before}
use Rattle.core_meaning.specs.Terms.{Binding, eval, eval_all}
use Rattle.core_meaning.specs.Atoms.{GroundAtom, Member, member_of, ground_atom, with_arguments, atom_under}
use Rattle.core_meaning.specs.Numberings.{Numbering, IsMember, head_atoms}
use Rattle.aggregate_laws.specs.Rules.{MakerOf, ByRule, ByStep, instance_of, rules_of, IsAnswerSetOf}
use Rattle.aggregate_laws.specs.Laws.{SetsOfTheRulesAreCoreSets}
use Rattle.aggregate_laws.proofs.Derivable.{Licence, licence, derivable}
use Rattle.aggregate_laws.proofs.Totals.{step_is, step_not_base}
use Rattle.aggregate_laws.proofs.CoreSets.{of_rule, head_from, core_from}

-- as many values as terms
all_of_length : {A : Type 0} (options : List (Option A)) (xs : List A) → all_of options ≡ Some xs → length xs ≡ length options
all_of_length [] xs e = let h : [] ≡ xs = cc in ap (λ ys. length ys) (sym h)
all_of_length (None ∷ options) xs e = cc
all_of_length {A} (Some x ∷ options) xs e = go (all_of options) (λ ys same. all_of_length options ys same) e
  where
    go : (o : Option (List A)) → ((ys : List A) → o ≡ Some ys → length ys ≡ length options) → before x o ≡ Some xs → length xs ≡ length (Some x ∷ options)
    go None f e = cc
    go (Some ys) f e = let h : x ∷ ys ≡ xs = cc in ap (λ zs. length zs) (sym h) ∙ ap suc (f ys refl)

-- what a member that the atom becomes says of its predicate
record IsOfMember (aggs : List CoreAggregate) (p : Pred) (agg : ℕ) (key tuple : List Value) : Type 0 where
  predicate : p ≡ pred.Member agg (length key + length tuple)
  aggregate : CoreAggregate
  numbered : slice_get aggs agg ≡ Some aggregate
  of_key : length key ≡ aggregate.key

-- ---- the predicate of a member

module _ (aggs : List CoreAggregate) (agg : ℕ) (key tuple : List Value) where
  with_aggregate : (a arity : ℕ) (args : List Value) (g : CoreAggregate) → slice_get aggs a ≡ Some g → g.key ≤ arity → length args ≡ arity
      → ◌≡◌ {A = GroundAtom} (Member a (take g.key args) (drop g.key args)) (Member agg key tuple) → IsOfMember aggs (pred.Member a arity) agg key tuple
  with_aggregate a arity args g found below long e =
      let same_agg : a ≡ agg = cc in
      let same_key : take g.key args ≡ key = cc in
      let same_tuple : drop g.key args ≡ tuple = cc in
      let key_long : length key ≡ g.key = ap (λ xs. length xs) (sym same_key) ∙ length-take-le g.key args (subst (λ n. g.key ≤ n) (sym long) below) in
      let rest_long : length tuple ≡ length args - g.key = ap (λ xs. length xs) (sym same_tuple) ∙ length-drop g.key args in
      let whole : arity ≡ length key + length tuple = omega (arith, key_long, rest_long, long, below) in
      record {
        predicate = λ i. pred.Member (same_agg i) (whole i);
        aggregate = g;
        numbered = ap (λ x. slice_get aggs x) (sym same_agg) ∙ found;
        of_key = key_long;
      }

  of_predicate : (p : Pred) (args : List Value) → IsNoTotal p → MayStand aggs p → length args ≡ arity_of p → ground_atom aggs p args ≡ Some (Member agg key tuple) → IsOfMember aggs p agg key tuple
  of_predicate (pred.User negated name arity) args n may long e = cc
  of_predicate (pred.Domain a arity) args n may long e = cc
  of_predicate (pred.Member a arity) args n may long e = go (slice_get aggs a) refl e
    where
      go : (o : Option CoreAggregate) → slice_get aggs a ≡ o → member_of a args o ≡ Some (Member agg key tuple) → IsOfMember aggs (pred.Member a arity) agg key tuple
      go None same e = cc
      go (Some g) same e =
          let which : may.0 ≡ g = (let h : Some may.0 ≡ Some g = sym may.1 ∙ same in cc) in
          with_aggregate a arity args g same (subst (λ (x : CoreAggregate). x.key ≤ arity) which may.2) long (let h : ◌≡◌ {A = GroundAtom} (Member a (take g.key args) (drop g.key args)) (Member agg key tuple) = cc in h)
  of_predicate (pred.Total a arity) args n may long e = absurd n
  of_predicate (pred.Grid a plus arity) args n may long e = absurd may
  of_predicate (pred.Reach a plus arity) args n may long e = absurd may
  of_predicate (pred.Above a plus arity) args n may long e = absurd may

  of_atom : (b : Binding) (h : CoreAtom) → IsFitting aggs h → IsNoTotal h.pred → atom_under aggs b h ≡ Some (Member agg key tuple) → IsOfMember aggs h.pred agg key tuple
  of_atom b h fits n e = go (eval_all b h.args) refl e
    where
      go : (o : Option (List Value)) → eval_all b h.args ≡ o → with_arguments aggs h.pred o ≡ Some (Member agg key tuple) → IsOfMember aggs h.pred agg key tuple
      go None same e = cc
      go (Some args) same e = of_predicate h.pred args n fits.0 (all_of_length (map (eval b) h.args) args same ∙ length-map h.args (eval b) ∙ fits.1) e

-- a member in the set is one of the core
member_is : (core : Core) → IsCoreForm core → (n : Numbering) (c : GroundAtom → Bool) → IsAnswerSetOf core.aggregates (rules_of core) n c
    → (agg : ℕ) (key tuple : List Value) → c (Member agg key tuple) ≡ true → IsMember core agg key tuple
member_is core in_form n c set agg key tuple t = with_licence (licence (derivable set.answers (Member agg key tuple) t))
  where
    with_licence : Licence (instance_of core.aggregates (rules_of core) n) c (Member agg key tuple) → IsMember core agg key tuple
    with_licence l = go l.maker l.is
      where
        go : (m : MakerOf (ℕ × Binding)) → instance_of core.aggregates (rules_of core) n m ≡ Some l.inst → IsMember core agg key tuple
        go (ByRule r) e =
            let of = of_rule core r l.inst e in
            let head = head_from core.aggregates r.1 of.rule.kind of.rule.head (Instance.kind l.inst) of.parts.kind (Member agg key tuple) l.head in
            let ok = subst (λ o. form.IsHead core.aggregates o) head.is (IsRuleForm.head (Each-at (IsRuleForm core.aggregates) core.rules of.rule in_form.rules of.among)) in
            let is = of_atom core.aggregates agg key tuple r.1 head.atom ok.0 ok.1 head.becomes in
            record {
              rule = of.rule;
              among = of.among;
              atom = head.atom;
              stands = ∈-append_left head.atom (head_atoms of.rule.head) _ (subst (λ o. head.atom ∈ head_atoms o) (sym head.is) (inl refl));
              predicate = is.predicate;
              aggregate = is.aggregate;
              numbered = is.numbered;
              of_key = is.of_key;
            }
        go (ByStep s) e = absurd (step_not_base core.aggregates n l.inst (step_is core.aggregates n s l.inst e) (Member agg key tuple) l.head tt)

pub sets_of_the_rules_are_core_sets : SetsOfTheRulesAreCoreSets
sets_of_the_rules_are_core_sets core in_form n n' c ok extends set = core_from core n' c (record {
  once = set.numbering.once;
  weighs = set.numbering.weighs;
  members = λ agg side key tuple i. elim (cases agg side key tuple i) [ inl old ↦ ok.members agg side key tuple old | inr new ↦ member_is core in_form n' c set agg key tuple new ];
  all = ok.all ++ set.answers.order;
  finite = λ agg side key tuple i. elim (cases agg side key tuple i) [
    | inl old ↦ ∈-append_left (Member agg key tuple) ok.all set.answers.order (ok.finite agg side key tuple old)
    | inr new ↦ ∈-append_right (Member agg key tuple) ok.all set.answers.order (set.answers.all_there (Member agg key tuple) new)
  ];
}) set
  where
    cases : (agg : ℕ) (side : Bool) (key tuple : List Value) → tuple ∈ n' agg side key → (tuple ∈ n agg side key) ⊎ (c (Member agg key tuple) ≡ true)
    cases agg side key tuple i =
        let more = extends agg side key in
        elim (∈-append_cases tuple (n agg side key) more.0 (subst (λ xs. tuple ∈ xs) more.1 i)) [ inl old ↦ inl old | inr new ↦ inr (more.2 tuple new) ]
