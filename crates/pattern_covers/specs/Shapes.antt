-- Shapes: patterns without exceptions, to which the rules of a core lead.
use Rattle.std.specs.Prelude.{◌≡◌, ◌↔◌, ℕ, ◌<◌, ◌≤◌, true, List, [], length, Some, slice_get}
use Rattle.lists.specs.Lists.{◌∈◌, Each}
use Rattle.alpha_outside.specs.declared.node.Node.{Node}
use Rattle.alpha_outside.specs.declared.pattern.Pattern.{Pattern}
use Rattle.asp_meaning.specs.declared.value.Value as meaning
use Rattle.core_rules.specs.declared.rules.CoreAtom.{CoreAtom}
use Rattle.core_rules.specs.declared.rules.CoreRule.{CoreRule}
use Rattle.core_rules.specs.declared.rules.Core.{Core}
use Rattle.core_rules.specs.CoreForm.{HasNoArithmetic}
use Rattle.core_meaning.specs.Terms.{Binding, eval_all}
use Rattle.core_meaning.specs.Atoms.{GroundAtom, ground_atom}
use Rattle.search_values.specs.Values.{Value, True, False, value_of, before_closed}
use Rattle.journal_theory.specs.States.{IsName}
use Rattle.search_rules.specs.Rules.{search_rules}
use Rattle.unification.specs.Patterns.{Become}
use Rattle.unification.specs.Unifiers.{Unifies}
use Rattle.pattern_covers.specs.States.{Reached}

-- the values for the variables of the rule that unify its head and the shape
abbrev pub Under : List Node → CoreRule → CoreAtom → Pattern → Binding → Type 0
Under nodes r head h b = (length b ≡ r.variables) × Unifies nodes head h b

-- the atom has no holes under the most general unifier: it has these arguments under all values that unify
abbrev pub IsAlways : List Node → CoreRule → CoreAtom → Pattern → CoreAtom → List meaning.Value → Type 0
IsAlways nodes r head h a vs = (b : Binding) → Under nodes r head h b → eval_all b a.args ≡ Some vs

-- the atom of these arguments had this value before the first closed entry
abbrev pub Had : Core → Reached → CoreAtom → List meaning.Value → Value → Type 0
Had core s a vs v = (g : GroundAtom) × (x : ℕ) × (ground_atom core.aggregates a.pred vs ≡ Some g) × IsName s x g × (value_of (before_closed s.stack) x ≡ Some v)

-- the rule is left out: a positive atom without holes was false, or a negative one without holes and arithmetic was true
pub data IsLeftOut (core : Core) (nodes : List Node) (s : Reached) (r : CoreRule) (head : CoreAtom) (h : Pattern) : Type 0 where
  lacks : (a : CoreAtom) (vs : List meaning.Value) → a ∈ r.pos → IsAlways nodes r head h a vs → Had core s a vs False → IsLeftOut core nodes s r head h
  is_denied : (a : CoreAtom) (vs : List meaning.Value) → a ∈ r.neg → HasNoArithmetic a → IsAlways nodes r head h a vs → Had core s a vs True → IsLeftOut core nodes s r head h

-- a rule leads from the first shape to the second: its head unifies with the first, it isn't left out, and the second is one of its positive
-- atoms under the most general unifier, up to the numbers of holes
pub record Leads (core : Core) (nodes : List Node) (s : Reached) (h q : Pattern) : Type 0 where
  pub rule : CoreRule
  pub among : rule ∈ core.rules
  pub head : CoreAtom
  pub head_is : rule.head ≡ Some head
  pub unifier : (b : Binding) × Under nodes rule head h b
  pub stays : ¬ IsLeftOut core nodes s rule head h
  pub atom : CoreAtom
  pub positive : atom ∈ rule.pos
  pub predicate : q.pred ≡ atom.pred
  pub shape : (vs : List meaning.Value) → Become nodes q.args vs ↔ ((b : Binding) × Under nodes rule head h b × (eval_all b atom.args ≡ Some vs))

-- the second shape is next to the first: a rule leads to it. Steps of aggregates only add cases
pub data IsNext (core : Core) (nodes : List Node) (s : Reached) (h q : Pattern) : Type 0 where
  by_rule : Leads core nodes s h q → IsNext core nodes s h q

-- the first shape is an instance of the second: it covers nothing else
abbrev pub IsInstance : List Node → Pattern → Pattern → Type 0
IsInstance nodes q h = (q.pred ≡ h.pred) × ((vs : List meaning.Value) → Become nodes q.args vs → Become nodes h.args vs)

-- the shape is that of the atom alone
abbrev pub IsShapeOf : Core → List Node → Reached → Pattern → ℕ → Type 0
IsShapeOf core nodes s h x =
    (g : GroundAtom) × IsName s x g × ((search_rules core).fits nodes h g ≡ true) × ((vs : List meaning.Value) → Become nodes h.args vs → ground_atom core.aggregates h.pred vs ≡ Some g)

-- 257 shapes, the first of which is that of the atom; each later one is next to an earlier one, and an instance of none
pub record ShowsWide (core : Core) (nodes : List Node) (s : Reached) (shapes : List Pattern) (x : ℕ) : Type 0 where
  pub many : length shapes ≡ 257
  pub are_shapes : Each (λ (p : Pattern). p.except ≡ []) shapes
  pub first : (h : Pattern) → slice_get shapes 0 ≡ Some h → IsShapeOf core nodes s h x
  pub later : (i : ℕ) (q : Pattern) → 1 ≤ i → slice_get shapes i ≡ Some q → (j : ℕ) × (h : Pattern) × (j < i) × (slice_get shapes j ≡ Some h) × IsNext core nodes s h q
  pub no_instance : (i j : ℕ) (q h : Pattern) → j < i → slice_get shapes i ≡ Some q → slice_get shapes j ≡ Some h → ¬ IsInstance nodes q h

-- the atom has such shapes
abbrev pub IsWide : Core → List Node → Reached → ℕ → Type 0
IsWide core nodes s x = (shapes : List Pattern) × ShowsWide core nodes s shapes x
