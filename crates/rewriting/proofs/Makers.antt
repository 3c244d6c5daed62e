-- What makes the core instances of single rules: their rules alone, since a step rests on what no rule gives.
use Rattle.std.proofs.Common.{◌≡◌, inl, inr, refl, sym, ap, subst, ◌∙◌, ℕ, zero, suc, Bool, true, false, nat_le, List, [], ◌∷◌, map, Option, Some, None, slice_get}
use Rattle.lists.specs.Lists.{◌∈◌, Each}
use Rattle.asp_meaning.specs.declared.value.Value.{Value}
use Rattle.asp_meaning.specs.Terms.{Substitution}
use Rattle.single_rules.specs.declared.single.SingleRule.{SingleRule}
use Rattle.search_values.specs.Instances.{Instance, IsHead, IsFounded}
use Rattle.core_rules.specs.declared.rules.CoreRule.{CoreRule}
use Rattle.core_meaning.specs.Terms.{Binding}
use Rattle.core_meaning.specs.Atoms.{GroundAtom, User}
use Rattle.core_meaning.specs.Instances.{instance_under, instance_in, rule_instance}
use Rattle.core_meaning.specs.Numberings.{Numbering}
use Rattle.core_meaning.specs.Steps.{Step, Zero, Skip, Add, Reach, Above, Total, plain, skip_with, add_with, above_with, step_instance}
use Rattle.core_meaning.specs.AnswerSets.{Maker, ByRule, ByStep, core_instance}
use Rattle.rewriting.specs.CoreRules.{core_rule_of, core_of}
use Rattle.rewriting.proofs.LiftLemmas.{Holds}
use Rattle.rewriting.proofs.RuleInstances.{equations_of, Makes, binding_of, core_rule_to, core_rule_from}
use Rattle.rewriting.proofs.Singles.{head_read, head_is_user}

-- the atom is one of the program
abbrev pub IsUser : GroundAtom → Type 0
IsUser (User a) = Unit {0}
IsUser _ = ⊥

-- ---- steps

-- two instances that are there and the same are the same
same_instance : (i j : Instance GroundAtom) → Some i ≡ Some j → i ≡ j
same_instance i j e = cc

-- what is missing is no instance
no_instance : {A : Type 0} (i : Instance GroundAtom) → None ≡ Some i → A
no_instance i e = cc

-- the instance rests on an atom that is none of the program
abbrev RestsOnOthers : Instance GroundAtom → Type 0
RestsOnOthers i = (g : GroundAtom) × (g ∈ i.pos) × (IsUser g → ⊥)

-- a plain instance rests on its first atom
plain_rests : (h g : GroundAtom) (ps ns : List GroundAtom) (i : Instance GroundAtom) → (IsUser g → ⊥) → plain h (g ∷ ps) ns ≡ Some i → RestsOnOthers i
plain_rests h g ps ns i other e = (g, subst (λ (j : Instance GroundAtom). g ∈ j.pos) (same_instance _ i e) (inl refl), other)

-- to skip a member rests on a sum
skip_rests : (agg : ℕ) (side : Bool) (j sum : ℕ) (key : List Value) (o : Option (List Value)) (i : Instance GroundAtom) → skip_with agg side j sum key o ≡ Some i → RestsOnOthers i
skip_rests agg side j sum key None i e = no_instance i e
skip_rests agg side j sum key (Some tuple) i e = plain_rests _ _ [] [] i (λ u. u) e

-- to add a member rests on a sum
add_rests : (agg : ℕ) (side : Bool) (j sum : ℕ) (key : List Value) (o : Option (List Value)) (i : Instance GroundAtom) → add_with [] agg side j sum key o ≡ Some i → RestsOnOthers i
add_rests agg side j sum key None i e = no_instance i e
add_rests agg side j sum key (Some tuple) i e = plain_rests _ _ _ [] i (λ u. u) e

-- that a sum is not the last rests on that sum
above_rests : (agg : ℕ) (side : Bool) (low high : ℕ) (key : List Value) (farther : Bool) (i : Instance GroundAtom) → above_with agg side low high key farther ≡ Some i → RestsOnOthers i
above_rests agg side low high key false i e = no_instance i e
above_rests agg side low high key true i e = plain_rests _ _ _ [] i (λ u. u) e

-- so each step rests on an atom that is none of the program
step_rests : (n : Numbering) (step : Step) (i : Instance GroundAtom) → step_instance [] n step ≡ Some i → RestsOnOthers i
step_rests n (Zero agg side key) i e = plain_rests _ _ [] [] i (λ u. u) e
step_rests n (Skip agg side zero sum key) i e = no_instance i e
step_rests n (Skip agg side (suc j) sum key) i e = skip_rests agg side j sum key (slice_get (n agg side key) j) i e
step_rests n (Add agg side zero sum key) i e = no_instance i e
step_rests n (Add agg side (suc j) sum key) i e = add_rests agg side j sum key (slice_get (n agg side key) j) i e
step_rests n (Reach agg side k sum key) i e = plain_rests _ _ [] [] i (λ u. u) e
step_rests n (Above agg side low high key) i e = above_rests agg side low high key (nat_le (suc low) high) i e
step_rests n (Total agg up down key) i e = plain_rests _ _ _ _ i (λ u. u) e

-- ---- rules

-- what stands at a place of a list that a function gave comes from a member of the list before
get_map : {A B : Type 0} (f : A → B) (xs : List A) (k : ℕ) (y : B) → slice_get (map f xs) k ≡ Some y → (x : A) × (x ∈ xs) × (y ≡ f x)
get_map f [] k y e = cc
get_map f (x ∷ xs) zero y e = (x, inl refl, cc)
get_map f (x ∷ xs) (suc k) y e = let found = get_map f xs k y e in (found.0, inr found.1, found.2)

-- each member has a place there
get_number : {A B : Type 0} (f : A → B) (xs : List A) (x : A) → x ∈ xs → (k : ℕ) × (slice_get (map f xs) k ≡ Some (f x))
get_number f [] x among = absurd among
get_number f (y ∷ xs) x (inl e) = (0, ap (λ z. Some (f z)) (sym e))
get_number f (y ∷ xs) x (inr among) = let rest = get_number f xs x among in (suc rest.0, rest.1)

-- a single rule that makes the instance
pub record MadeBy (rules : List SingleRule) (i : Instance GroundAtom) : Type 0 where
  pub rule : SingleRule
  pub among : rule ∈ rules
  pub values : Substitution
  pub makes : Makes values rule i

-- what a core rule makes is made by a single rule
pub made_by_rule : (rules : List SingleRule) (number : ℕ) (b : Binding) (i : Instance GroundAtom) → rule_instance (core_of rules) number b ≡ Some i → MadeBy rules i
made_by_rule rules number b i e = by_case (slice_get (map core_rule_of rules) number) refl e
  where
    by_case : (o : Option CoreRule) → slice_get (map core_rule_of rules) number ≡ o → instance_in [] b o ≡ Some i → MadeBy rules i
    by_case None is e = no_instance i e
    by_case (Some q) is e =
        let found = get_map core_rule_of rules number q is in
        let made = core_rule_from b found.0 i (ap (instance_under [] b) (sym found.2) ∙ e) in
        record { rule = found.0; among = found.1; values = made.0; makes = made.1 }

-- an instance is made by a single rule, or it rests on an atom that is none of the program
pub data IsMade (rules : List SingleRule) (i : Instance GroundAtom) : Type 0 where
  by_rule : MadeBy rules i → IsMade rules i
  by_step : (g : GroundAtom) → g ∈ i.pos → (IsUser g → ⊥) → IsMade rules i

-- whatever makes an instance of the core
pub made_by : (rules : List SingleRule) (n : Numbering) (m : Maker) (i : Instance GroundAtom) → core_instance (core_of rules) n m ≡ Some i → IsMade rules i
made_by rules n (ByRule number b) i e = by_rule (made_by_rule rules number b i e)
made_by rules n (ByStep step) i e = let rests = step_rests n step i e in by_step rests.0 rests.1 rests.2

-- what a single rule makes where the equations are true, the core makes
pub made_in_core : (rules : List SingleRule) (n : Numbering) (r : SingleRule) (s : Substitution) (i : Instance GroundAtom) → r ∈ rules → Each (Holds s) (equations_of r) → Makes s r i
    → (m : Maker) × (core_instance (core_of rules) n m ≡ Some i)
made_in_core rules n r s i among holds makes =
    let at = get_number core_rule_of rules r among in
    (ByRule at.0 (binding_of s r), ap (instance_in [] (binding_of s r)) at.1 ∙ core_rule_to s r i holds makes)

-- ---- founded lists

-- the head of what rests on atoms of the program alone is one
user_head : (rules : List SingleRule) (x : GroundAtom) (i : Instance GroundAtom) → IsMade rules i → IsHead i.kind x → ((p : GroundAtom) → p ∈ i.pos → IsUser p) → IsUser x
user_head rules x i (by_rule made) is users =
    let user = head_is_user made.values made.rule.head x (head_read made.values made.rule.kind made.rule.head i.kind made.makes.kind x is) in
    subst IsUser (sym user.1) tt
user_head rules x i (by_step g among other) is users = absurd (other (users g among))

-- a founded list has atoms of the program alone
pub founded_users : (rules : List SingleRule) (n : Numbering) (c : GroundAtom → Bool) (order : List GroundAtom) → IsFounded (core_instance (core_of rules) n) c order
    → (g : GroundAtom) → g ∈ order → IsUser g
founded_users rules n c [] h g among = absurd among
founded_users rules n c (x ∷ earlier) h g (inr among) = founded_users rules n c earlier h.3 g among
founded_users rules n c (x ∷ earlier) h g (inl e) =
    subst IsUser (sym e) (user_head rules x h.0.1 (made_by rules n h.0.0 h.0.1 h.0.2) h.0.3 (λ p k. founded_users rules n c earlier h.3 p (h.0.5 p k)))
