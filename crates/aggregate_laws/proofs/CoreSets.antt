-- Core answer sets of a core are sets of its rules beside the steps.
use Rattle.std.proofs.Common.{◌≡◌, ℕ, ◌⊎◌, Bool, true, false, cond, List, [], ◌∷◌, map, refl, sym, ◌∙◌, ap, subst, inl, inr}
use Rattle.std.specs.Prelude.{Option, Some, None, slice_get, take, drop}
use Rattle.std.proofs.lemmas.Option.{same_Some}
use Rattle.lists.specs.Lists.{◌∈◌}
use Rattle.lists.proofs.ListLemmas.{Each-at}
use Rattle.alpha_outside.specs.declared.pred.Pred.{Pred}
use Rattle.alpha_outside.specs.declared.pred.Pred.TheVariants as pred
use Rattle.alpha_outside.specs.declared.kinds.RuleKind.{RuleKind}
use Rattle.alpha_outside.specs.declared.kinds.RuleKind.TheVariants as rule
use Rattle.core_rules.specs.declared.rules.CoreAtom.{CoreAtom}
use Rattle.core_rules.specs.declared.rules.CoreRule.{CoreRule}
use Rattle.core_rules.specs.declared.rules.CoreAggregate.{CoreAggregate}
use Rattle.core_rules.specs.declared.rules.Core.{Core}
use Rattle.core_rules.specs.CoreForm.{IsCoreForm, IsRuleForm, IsNoTotal}
use Rattle.core_rules.specs.CoreForm as form
use Rattle.search_values.specs.Instances.{Kind, Instance, IsHead, IsFounded}
use Rattle.search_values.proofs.Basics.{get_in}
use Rattle.asp_meaning.specs.declared.value.Value.{Value}
use Rattle.asp_meaning.specs.Terms.{all_of, before}
use Rattle.core_meaning.specs.Terms.{Binding, eval_all}
use Rattle.core_meaning.specs.Atoms.{GroundAtom, User, Domain, Member, Total, member_of, total_with, total_of, ground_atom, with_arguments, atom_under}
use Rattle.core_meaning.specs.Instances.{is_met, kind_with, kind_under, atoms_under, assembled, instance_in}
use Rattle.core_meaning.specs.Numberings.{Numbering, IsNumbering}
use Rattle.core_meaning.specs.AnswerSets.{Maker, core_instance, IsCoreAnswerSet}
use Rattle.core_meaning.specs.AnswerSets as core
use Rattle.aggregate_laws.specs.Rules.{rules_of, NumbersOnce, MakerOf, ByRule, ByStep, instance_of, IsHeadAtom, IsBodyAtom, IsAnswerSetOf}
use Rattle.aggregate_laws.specs.Laws.{CoreFormGivesRules, CoreSetsAreOfTheRules, NumbersNoMore, CoreTotalsAreExact}
use Rattle.aggregate_laws.proofs.Totals.{totals_are_exact}

-- ---- what the atoms of a rule become

-- P of the atom of the predicate and the values, where each kind of predicate that has atoms gives P
of_ground_atom : (P : GroundAtom → Type 0) (aggs : List CoreAggregate) (p : Pred) (args : List Value) (a : GroundAtom) → ground_atom aggs p args ≡ Some a
    → ((x : _) → P (User x)) → ((agg : ℕ) (key : List Value) → P (Domain agg key)) → ((agg : ℕ) (key tuple : List Value) → P (Member agg key tuple))
    → (IsNoTotal p ⊎ ((agg : ℕ) (key : List Value) (x : Value) → P (Total agg key x))) → P a
of_ground_atom P aggs (pred.User negated name arity) args a e user domain member total = subst P (same_Some _ a e) (user _)
of_ground_atom P aggs (pred.Domain agg arity) args a e user domain member total = subst P (same_Some _ a e) (domain agg args)
of_ground_atom P aggs (pred.Member agg arity) args a e user domain member total = go (slice_get aggs agg) e
  where
    go : (o : Option CoreAggregate) → member_of agg args o ≡ Some a → P a
    go None e = cc
    go (Some g) e = subst P (same_Some _ a e) (member agg (take g.key args) (drop g.key args))
of_ground_atom P aggs (pred.Total agg arity) args a e user domain member (inl h) = absurd h
of_ground_atom P aggs (pred.Total agg arity) args a e user domain member (inr total) = go (slice_get aggs agg) e
  where
    with_rest : (key rest : List Value) → total_with agg key rest ≡ Some a → P a
    with_rest key [] e = cc
    with_rest key (x ∷ []) e = subst P (same_Some _ a e) (total agg key x)
    with_rest key (x ∷ y ∷ zs) e = cc

    go : (o : Option CoreAggregate) → total_of agg args o ≡ Some a → P a
    go None e = cc
    go (Some g) e = with_rest (take g.key args) (drop g.key args) e
of_ground_atom P aggs (pred.Grid agg plus arity) args a e user domain member total = cc
of_ground_atom P aggs (pred.Reach agg plus arity) args a e user domain member total = cc
of_ground_atom P aggs (pred.Above agg plus arity) args a e user domain member total = cc

-- an atom that is no total becomes one that may be a head
head_atom : (aggs : List CoreAggregate) (b : Binding) (h : CoreAtom) → IsNoTotal h.pred → (a : GroundAtom) → atom_under aggs b h ≡ Some a → IsHeadAtom a
head_atom aggs b h n a e = go (eval_all b h.args) e
  where
    go : (o : Option (List Value)) → with_arguments aggs h.pred o ≡ Some a → IsHeadAtom a
    go None e = cc
    go (Some args) e = of_ground_atom IsHeadAtom aggs h.pred args a e (λ x. tt) (λ agg key. tt) (λ agg key tuple. tt) (inl n)

-- each atom becomes one that may stand in a body
body_atom : (aggs : List CoreAggregate) (b : Binding) (h : CoreAtom) (a : GroundAtom) → atom_under aggs b h ≡ Some a → IsBodyAtom a
body_atom aggs b h a e = go (eval_all b h.args) e
  where
    go : (o : Option (List Value)) → with_arguments aggs h.pred o ≡ Some a → IsBodyAtom a
    go None e = cc
    go (Some args) e = of_ground_atom IsBodyAtom aggs h.pred args a e (λ x. tt) (λ agg key. tt) (λ agg key tuple. tt) (inr (λ agg key x. tt))

body_atoms : (aggs : List CoreAggregate) (b : Binding) (atoms : List CoreAtom) (atoms' : List GroundAtom) → atoms_under aggs b atoms ≡ Some atoms' → (a : GroundAtom) → a ∈ atoms' → IsBodyAtom a
body_atoms aggs b [] atoms' e a i = absurd (subst (λ xs. a ∈ xs) (sym (same_Some _ atoms' e)) i)
body_atoms aggs b (h ∷ atoms) atoms' e a i = first (atom_under aggs b h) (body_atom aggs b h) (λ xs same j. body_atoms aggs b atoms xs same a j) e
  where
    rest : (x : GroundAtom) → IsBodyAtom x → (o : Option (List GroundAtom)) → ((xs : List GroundAtom) → o ≡ Some xs → a ∈ xs → IsBodyAtom a) → before x o ≡ Some atoms' → IsBodyAtom a
    rest x f None g e = cc
    rest x f (Some xs) g e = elim (subst (λ zs. a ∈ zs) (sym (same_Some _ atoms' e)) i) [ inl same ↦ subst IsBodyAtom (sym same) f | inr j ↦ g xs refl j ]

    first : (o : Option GroundAtom) → ((x : GroundAtom) → o ≡ Some x → IsBodyAtom x)
        → ((xs : List GroundAtom) → atoms_under aggs b atoms ≡ Some xs → a ∈ xs → IsBodyAtom a) → all_of (o ∷ map (atom_under aggs b) atoms) ≡ Some atoms' → IsBodyAtom a
    first None f g e = cc
    first (Some x) f g e = rest x (f x refl) (atoms_under aggs b atoms) g e

-- ---- instances of rules

heads_with : (kind : RuleKind) (o : Option GroundAtom) (k : Kind GroundAtom) → kind_with kind o ≡ Some k → (a : GroundAtom) → IsHead k a → o ≡ Some a
heads_with rule.Plain None k e a h = cc
heads_with rule.Plain (Some x) k e a h = ap (λ y. Some y) (subst (λ z. IsHead z a) (sym (same_Some _ k e)) h)
heads_with rule.Choice None k e a h = cc
heads_with rule.Choice (Some x) k e a h = ap (λ y. Some y) (subst (λ z. IsHead z a) (sym (same_Some _ k e)) h)
heads_with rule.Constraint None k e a h = cc
heads_with rule.Constraint (Some x) k e a h = cc

-- the head becomes the atom
pub record BecomesHead (aggs : List CoreAggregate) (b : Binding) (head : Option CoreAtom) (a : GroundAtom) : Type 0 where
  pub atom : CoreAtom
  pub is : head ≡ Some atom
  pub becomes : atom_under aggs b atom ≡ Some a

pub head_from : (aggs : List CoreAggregate) (b : Binding) (kind : RuleKind) (head : Option CoreAtom) (k : Kind GroundAtom) → kind_under aggs b kind head ≡ Some k
    → (a : GroundAtom) → IsHead k a → BecomesHead aggs b head a
head_from aggs b rule.Constraint None k e a h = absurd (subst (λ z. IsHead z a) (sym (same_Some _ k e)) h)
head_from aggs b rule.Plain None k e a h = cc
head_from aggs b rule.Choice None k e a h = cc
head_from aggs b kind (Some h) k e a is = record { atom = h; is = refl; becomes = go kind e }
  where
    go : (kind : RuleKind) → kind_under aggs b kind (Some h) ≡ Some k → atom_under aggs b h ≡ Some a
    go rule.Plain e = heads_with rule.Plain (atom_under aggs b h) k e a is
    go rule.Choice e = heads_with rule.Choice (atom_under aggs b h) k e a is
    go rule.Constraint e = heads_with rule.Constraint (atom_under aggs b h) k e a is

-- what an instance was assembled from
pub record Assembled (k : Option (Kind GroundAtom)) (ps ns : Option (List GroundAtom)) (i : Instance GroundAtom) : Type 0 where
  pub kind : k ≡ Some i.kind
  pub pos : ps ≡ Some i.pos
  pub neg : ns ≡ Some i.neg

assembled_from : (kind : Option (Kind GroundAtom)) (ps ns : Option (List GroundAtom)) (i : Instance GroundAtom) → assembled kind ps ns ≡ Some i → Assembled kind ps ns i
assembled_from None ps ns i e = cc
assembled_from (Some kind) None ns i e = cc
assembled_from (Some kind) (Some ps) None i e = cc
assembled_from (Some kind) (Some ps) (Some ns) i e =
    let same = same_Some _ i e in
    record { kind = ap (λ (j : Instance GroundAtom). Some j.kind) same; pos = ap (λ (j : Instance GroundAtom). Some j.pos) same; neg = ap (λ (j : Instance GroundAtom). Some j.neg) same }

-- the rule of an instance
pub record IsOfRule (c : Core) (r : ℕ × Binding) (i : Instance GroundAtom) : Type 0 where
  pub rule : CoreRule
  pub among : rule ∈ c.rules
  pub parts : Assembled (kind_under c.aggregates r.1 rule.kind rule.head) (atoms_under c.aggregates r.1 rule.pos) (atoms_under c.aggregates r.1 rule.neg) i

pub of_rule : (c : Core) (r : ℕ × Binding) (i : Instance GroundAtom) → rules_of c r ≡ Some i → IsOfRule c r i
of_rule c r i e = go (slice_get c.rules r.0) refl e
  where
    met : (test : Bool) (o : Option (Instance GroundAtom)) → cond test o None ≡ Some i → o ≡ Some i
    met true o e = e
    met false o e = cc

    go : (o : Option CoreRule) → slice_get c.rules r.0 ≡ o → instance_in c.aggregates r.1 o ≡ Some i → IsOfRule c r i
    go None same e = cc
    go (Some rule) same e = record {
      rule = rule;
      among = get_in c.rules r.0 rule same;
      parts = assembled_from _ _ _ i (met (is_met rule r.1) _ e);
    }

-- rules in core form have heads and bodies as it says
pub are_core_rules : CoreFormGivesRules
are_core_rules c in_form = record {
  heads = λ r i e a h.
      let of = of_rule c r i e in
      let head = head_from c.aggregates r.1 of.rule.kind of.rule.head i.kind of.parts.kind a h in
      let ok = subst (λ o. form.IsHead c.aggregates o) head.is (IsRuleForm.head (Each-at (IsRuleForm c.aggregates) c.rules of.rule in_form.rules of.among)) in
      head_atom c.aggregates r.1 head.atom ok.1 a head.becomes;
  pos = λ r i e. let of = of_rule c r i e in body_atoms c.aggregates r.1 of.rule.pos i.pos of.parts.pos;
  neg = λ r i e. let of = of_rule c r i e in body_atoms c.aggregates r.1 of.rule.neg i.neg of.parts.neg;
}

-- ---- sets

module _ (c : Core) (n : Numbering) where
  -- what makes an instance, in both types
  abbrev pub to_core : MakerOf (ℕ × Binding) → Maker
  to_core (ByRule r) = core.ByRule r.0 r.1
  to_core (ByStep s) = core.ByStep s

  abbrev pub from_core : Maker → MakerOf (ℕ × Binding)
  from_core (core.ByRule number b) = ByRule (number, b)
  from_core (core.ByStep s) = ByStep s

  pub to_same : (m : MakerOf (ℕ × Binding)) → core_instance c n (to_core m) ≡ instance_of c.aggregates (rules_of c) n m
  to_same (ByRule r) = refl
  to_same (ByStep s) = refl

  pub from_same : (m : Maker) → instance_of c.aggregates (rules_of c) n (from_core m) ≡ core_instance c n m
  from_same (core.ByRule number b) = refl
  from_same (core.ByStep s) = refl

-- a founded list is founded by other makers of the same instances
pub founded_by_others : {A K L : Type 0} (first : K → Option (Instance A)) (second : L → Option (Instance A)) (f : K → L) → ((m : K) → second (f m) ≡ first m)
    → (set : A → Bool) (order : List A) → IsFounded first set order → IsFounded second set order
founded_by_others first second f same set [] founded = tt
founded_by_others first second f same set (a ∷ order) founded =
    let from = founded.0 in
    ((f from.0, from.1, same from.0 ∙ from.2, from.3, from.4, from.5), founded.1, founded.2, founded_by_others first second f same set order founded.3)

-- a core answer set is one of the core's rules
pub of_core : CoreSetsAreOfTheRules
of_core c n set s = record {
  answers = record {
    closed = λ m i e. s.closed (to_core c n m) i (to_same c n m ∙ e);
    order = s.order;
    all_there = s.all_there;
    founded = founded_by_others (core_instance c n) (instance_of c.aggregates (rules_of c) n) (from_core c n) (from_same c n) set s.order s.founded;
  };
  numbering = record { once = s.numbering.once; weighs = s.numbering.weighs };
  numbers = s.numbered;
}

-- a set of the core's rules under a numbering of the core is a core answer set
pub core_from : (c : Core) (n : Numbering) (set : GroundAtom → Bool) → IsNumbering c n → IsAnswerSetOf c.aggregates (rules_of c) n set → IsCoreAnswerSet c n set
core_from c n set numbering s = record {
  numbering = numbering;
  closed = λ m i e. s.answers.closed (from_core c n m) i (from_same c n m ∙ e);
  order = s.answers.order;
  all_there = s.answers.all_there;
  founded = founded_by_others (instance_of c.aggregates (rules_of c) n) (core_instance c n) (to_core c n) (to_same c n) set s.answers.order s.answers.founded;
  numbered = s.numbers;
}

-- a numbering that numbers nothing that one of the core doesn't is one too
pub numbering_from : (c : Core) (n m : Numbering) → IsNumbering c n → NumbersNoMore m n → NumbersOnce c.aggregates m → IsNumbering c m
numbering_from c n m ok no_more once = record {
  once = once.once;
  weighs = once.weighs;
  members = λ agg side key tuple i. ok.members agg side key tuple (no_more agg side key tuple i);
  all = ok.all;
  finite = λ agg side key tuple i. ok.finite agg side key tuple (no_more agg side key tuple i);
}

pub core_totals_are_exact : CoreTotalsAreExact
core_totals_are_exact c form n set s = totals_are_exact c.aggregates (rules_of c) (are_core_rules c form) n set (of_core c n set s)
