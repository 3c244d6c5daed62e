-- The instances of a rule whose head a pattern covers, and their most general form.
use Rattle.std.specs.Prelude.{◌≡◌, ℕ, ℤ, List, length, Option, Some, None, slice_get}
use Rattle.lists.specs.Lists.{Each}
use Rattle.alpha_outside.specs.declared.kinds.ArithOp.{ArithOp}
use Rattle.alpha_outside.specs.declared.node.Node.{Node}
use Rattle.alpha_outside.specs.declared.pattern.Pattern.{Pattern}
use Rattle.alpha_outside.specs.declared.pattern.PatternTerm.{PatternTerm}
use Rattle.core_rules.specs.declared.rules.CoreTerm.{CoreTerm}
use Rattle.core_rules.specs.declared.rules.CoreTerm.TheVariants as term
use Rattle.core_rules.specs.declared.rules.CoreAtom.{CoreAtom}
use Rattle.asp_meaning.specs.declared.value.Value.{Value}
use Rattle.asp_meaning.specs.declared.value.Value.TheVariants as value
use Rattle.asp_meaning.specs.Terms.{functional}
use Rattle.core_meaning.specs.Terms.{Partly, Binding, eval_all}
use Rattle.unification.specs.Patterns.{Become, IsPatternTerm}

-- a term may be this value where each operation in it may be any: as in a head, in which an arithmetic term unifies with everything
pub data MayBe (p : Partly) : CoreTerm → Value → Type 0 where
  integer : (t : CoreTerm) (v : Value) (n : ℤ) → t ≡ term.Int n → v ≡ value.Int n → MayBe p t v
  variable : (t : CoreTerm) (v : Value) (x : ℕ) → t ≡ term.Var x → p x ≡ Some v → MayBe p t v
  symbol : (t : CoreTerm) (v : Value) (x : List ℕ) → t ≡ term.Symbol x → v ≡ value.Symbol x → MayBe p t v
  text : (t : CoreTerm) (v : Value) (x : List ℕ) → t ≡ term.Text x → v ≡ value.Text x → MayBe p t v
  call : (t : CoreTerm) (v : Value) (f : List ℕ) (args : List CoreTerm) (vs : List Value) → t ≡ term.Fun f args → v ≡ functional f vs → length args ≡ length vs
      → ((i : ℕ) (a : CoreTerm) (w : Value) → slice_get args i ≡ Some a → slice_get vs i ≡ Some w → MayBe p a w) → MayBe p t v
  minus : (t : CoreTerm) (v : Value) (l : CoreTerm) → t ≡ term.Minus l → MayBe p t v
  operation : (t : CoreTerm) (v : Value) (op : ArithOp) (l r : CoreTerm) → t ≡ term.Arith op l r → MayBe p t v

-- terms may be these values, one by one
abbrev pub MayAllBe : Partly → List CoreTerm → List Value → Type 0
MayAllBe p ts vs =
    (length ts ≡ length vs) × ((i : ℕ) (t : CoreTerm) (v : Value) → slice_get ts i ≡ Some t → slice_get vs i ≡ Some v → MayBe p t v)

-- under these values for its variables the head may be an atom that the pattern covers, its exceptions aside
pub record Unifies (nodes : List Node) (head : CoreAtom) (p : Pattern) (b : Binding) : Type 0 where
  pub predicate : head.pred ≡ p.pred
  pub values : List Value
  pub may : MayAllBe (slice_get b) head.args values
  pub covered : Become nodes p.args values

-- The terms are those of n variables under the most general unifier of head and pattern: the values for the variables that they become are exactly
-- those that unify the two
pub record IsMostGeneral (nodes : List Node) (n : ℕ) (head : CoreAtom) (p : Pattern) (terms : List PatternTerm) : Type 0 where
  pub each : (b : Binding) → length b ≡ n → Unifies nodes head p b → Become nodes terms b
  pub only : (b : Binding) → Become nodes terms b → (length b ≡ n) × Unifies nodes head p b

-- no values for n variables unify head and pattern
abbrev pub NoneUnifies : List Node → ℕ → CoreAtom → Pattern → Type 0
NoneUnifies nodes n head p = (b : Binding) → length b ≡ n → ¬ Unifies nodes head p b

-- under these values for its variables the head is an atom that the pattern covers, its exceptions aside
pub record IsHeadCovered (nodes : List Node) (head : CoreAtom) (p : Pattern) (b : Binding) : Type 0 where
  pub predicate : head.pred ≡ p.pred
  pub values : List Value
  pub are : eval_all b head.args ≡ Some values
  pub covered : Become nodes p.args values

-- the pattern covers no instance of the head, which has n variables
abbrev pub NoneCovered : List Node → ℕ → CoreAtom → Pattern → Type 0
NoneCovered nodes n head p = (b : Binding) → length b ≡ n → ¬ IsHeadCovered nodes head p b

-- it covers one
abbrev pub SomeCovered : List Node → ℕ → CoreAtom → Pattern → Type 0
SomeCovered nodes n head p = (b : Binding) × (length b ≡ n) × IsHeadCovered nodes head p b

-- ---- what is found

-- what is found of a head with n variables and a pattern
abbrev pub HeadUnified : List Node → ℕ → CoreAtom → Pattern → Option (List PatternTerm) → Type 0
HeadUnified nodes n head p None = NoneUnifies nodes n head p
HeadUnified nodes n head p (Some terms) = Each (IsPatternTerm (length nodes)) terms × IsMostGeneral nodes n head p terms

-- what is found of arguments alone, whatever predicate they have
abbrev pub ArgumentsUnified : List Node → ℕ → List CoreTerm → List PatternTerm → Option (List PatternTerm) → Type 0
ArgumentsUnified nodes n ts ps found = (head : CoreAtom) (p : Pattern) → head.args ≡ ts → p.args ≡ ps → head.pred ≡ p.pred → HeadUnified nodes n head p found
