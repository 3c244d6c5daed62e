-- Rules that have the same instances make the same sets.
use Rattle.std.proofs.Common.{◌≡◌, Bool, true, List, [], ◌∷◌, refl, sym, subst}
use Rattle.std.specs.Prelude.{Option}
use Rattle.lists.proofs.ListLemmas.{SameSet-refl}
use Rattle.core_rules.specs.declared.rules.CoreAggregate.{CoreAggregate}
use Rattle.search_values.specs.Instances.{Instance, IsHead, KindHolds, body_holds, IsFounded}
use Rattle.search_values.proofs.Basics.{body_parts, body_from}
use Rattle.core_meaning.specs.Atoms.{GroundAtom}
use Rattle.core_meaning.specs.Numberings.{Numbering}
use Rattle.aggregate_laws.specs.Rules.{ByRule, ByStep, instance_of, IsFoundedSet, SameInstance, Covers}
use Rattle.aggregate_laws.specs.Laws.{SameInstancesMakeTheSameSets}

same_itself : {A : Type 0} (i : Instance A) → SameInstance i i
same_itself i = record { kind = refl; pos = SameSet-refl i.pos; neg = SameSet-refl i.neg }

body_same : {A : Type 0} (c : A → Bool) (i j : Instance A) → SameInstance i j → body_holds c i ≡ true → body_holds c j ≡ true
body_same c i j s h =
    let b = body_parts c i h in
    body_from c j (record { pos = λ p q. b.pos p (s.pos.back p q); neg = λ n q. b.neg n (s.neg.back n q) })

founded_same : {A K L : Type 0} (c : A → Bool) (core : K → Option (Instance A)) (others : L → Option (Instance A)) → Covers c core others → (order : List A) → IsFounded core c order
    → IsFounded others c order
founded_same c core others covers [] f = tt
founded_same {A} c core others covers (a ∷ order) f =
    let from = f.0 in
    let m = covers from.0 from.1 from.2 from.4 in
    let s = m.3 in (
      (m.0, m.1, m.2, subst (λ k. IsHead k a) (SameInstance.kind s) from.3, body_same c from.1 m.1 s from.4, (λ p i. from.5 p ((SameInstance.pos s).back p i))),
      f.1,
      f.2,
      founded_same c core others covers order f.3,
    )

sets_same : {A K L : Type 0} (c : A → Bool) (core : K → Option (Instance A)) (others : L → Option (Instance A)) → Covers c core others → Covers c others core → IsFoundedSet core c → IsFoundedSet others c
sets_same c core others to back s = record {
  closed = λ l j e b.
      let k = back l j e b in
      subst (λ x. KindHolds c x) (sym (SameInstance.kind k.3)) (s.closed k.0 k.1 k.2 (body_same c j k.1 k.3 b));
  order = s.order;
  all_there = s.all_there;
  founded = founded_same c core others to s.order s.founded;
}

-- steps are the same beside whatever rules
beside_steps : {R S : Type 0} (aggs : List CoreAggregate) (rules : R → Option (Instance GroundAtom)) (others : S → Option (Instance GroundAtom)) (n : Numbering) (c : GroundAtom → Bool)
    → Covers c rules others → Covers c (instance_of aggs rules n) (instance_of aggs others n)
beside_steps aggs rules others n c covers (ByRule r) i e b = let k = covers r i e b in (ByRule k.0, k.1, k.2, k.3)
beside_steps aggs rules others n c covers (ByStep s) i e b = (ByStep s, i, e, same_itself i)

pub same_instances : {R S : Type 0} → SameInstancesMakeTheSameSets R S
same_instances aggs rules others n c to back set = record {
  answers = sets_same c (instance_of aggs rules n) (instance_of aggs others n) (beside_steps aggs rules others n c to) (beside_steps aggs others rules n c back) set.answers;
  numbering = set.numbering;
  numbers = set.numbers;
}
