-- Instances of rules beside the steps that add up aggregates, and the sets that both make.
use Rattle.std.specs.Prelude.{◌≡◌, ◌≤◌, ℕ, Bool, true, List, Option, Some}
use Rattle.lists.specs.Lists.{◌∈◌, HasNoRepeats, SameSet}
use Rattle.core_rules.specs.declared.rules.CoreAggregate.{CoreAggregate}
use Rattle.core_rules.specs.declared.rules.Core.{Core}
use Rattle.search_values.specs.Instances.{Instance, IsHead, KindHolds, body_holds, IsFounded}
use Rattle.asp_meaning.specs.declared.value.Value.{Value}
use Rattle.core_meaning.specs.Terms.{Binding}
use Rattle.core_meaning.specs.Instances.{rule_instance}
use Rattle.core_meaning.specs.Atoms.{GroundAtom, User, Domain, Member, Grid, Reach, Above}
use Rattle.core_meaning.specs.Numberings.{Numbering, NumbersAll, adds}
use Rattle.core_meaning.specs.Steps.{Step, step_instance}

-- what makes an instance: a maker of rules, of any type, or a step
pub data MakerOf (R : Type 0) : Type 0 where
  ByRule : R → MakerOf R
  ByStep : Step → MakerOf R

-- the instance that it makes under a numbering, if it makes one
abbrev pub instance_of : {R : Type 0} → List CoreAggregate → (R → Option (Instance GroundAtom)) → Numbering → MakerOf R → Option (Instance GroundAtom)
instance_of aggs rules n (ByRule r) = rules r
instance_of aggs rules n (ByStep s) = step_instance aggs n s

-- the instances of a core's rules, by the number of a rule and the values of its variables
abbrev pub rules_of : Core → ℕ × Binding → Option (Instance GroundAtom)
rules_of core r = rule_instance core r.0 r.1

-- the atom may be the head of a rule
abbrev pub IsHeadAtom : GroundAtom → Type 0
IsHeadAtom (User a) = Unit {0}
IsHeadAtom (Domain agg key) = Unit {0}
IsHeadAtom (Member agg key tuple) = Unit {0}
IsHeadAtom _ = ⊥

-- the atom may stand in the body of a rule
abbrev pub IsBodyAtom : GroundAtom → Type 0
IsBodyAtom (Grid agg side key k sum) = ⊥
IsBodyAtom (Reach agg side key sum) = ⊥
IsBodyAtom (Above agg side key sum) = ⊥
IsBodyAtom _ = Unit {0}

-- the instances of these rules have heads and bodies as core form says
pub record AreRules {R : Type 0} (rules : R → Option (Instance GroundAtom)) : Type 0 where
  pub heads : (r : R) (i : Instance GroundAtom) → rules r ≡ Some i → (a : GroundAtom) → IsHead i.kind a → IsHeadAtom a
  pub pos : (r : R) (i : Instance GroundAtom) → rules r ≡ Some i → (a : GroundAtom) → a ∈ i.pos → IsBodyAtom a
  pub neg : (r : R) (i : Instance GroundAtom) → rules r ≡ Some i → (a : GroundAtom) → a ∈ i.neg → IsBodyAtom a

-- no member has two numbers, and each that has one weighs something on its side
pub record NumbersOnce (aggs : List CoreAggregate) (n : Numbering) : Type 0 where
  pub once : (agg : ℕ) (side : Bool) (key : List Value) → HasNoRepeats (n agg side key)
  pub weighs : (agg : ℕ) (side : Bool) (key tuple : List Value) → tuple ∈ n agg side key → 1 ≤ adds aggs agg side tuple

-- a finite set that is closed under the instances and founded
pub record IsFoundedSet {A K : Type 0} (core : K → Option (Instance A)) (c : A → Bool) : Type 0 where
  pub closed : (m : K) (i : Instance A) → core m ≡ Some i → body_holds c i ≡ true → KindHolds c i.kind
  pub order : List A
  pub all_there : (a : A) → c a ≡ true → a ∈ order
  pub founded : IsFounded core c order

-- a finite set that is closed under these rules and the steps and founded, and in which each member that weighs anything has its number
pub record IsAnswerSetOf {R : Type 0} (aggs : List CoreAggregate) (rules : R → Option (Instance GroundAtom)) (n : Numbering) (c : GroundAtom → Bool) : Type 0 where
  pub answers : IsFoundedSet (instance_of aggs rules n) c
  pub numbering : NumbersOnce aggs n
  pub numbers : NumbersAll aggs n c

-- the same kind, and the same atoms in whatever order and however often
pub record SameInstance {A : Type 0} (i j : Instance A) : Type 0 where
  pub kind : i.kind ≡ j.kind
  pub pos : SameSet i.pos j.pos
  pub neg : SameSet i.neg j.neg

-- each instance whose body holds in the set is the same as one of the others
abbrev pub Covers : {A K L : Type 0} → (A → Bool) → (K → Option (Instance A)) → (L → Option (Instance A)) → Type 0
Covers {A} {K} {L} c core others =
    (k : K) (i : Instance A) → core k ≡ Some i → body_holds c i ≡ true → (l : L) × (j : Instance A) × (others l ≡ Some j) × SameInstance i j
