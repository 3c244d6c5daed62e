-- The core instances of a single rule: which substitutions make them, and which bindings.
use Rattle.std.proofs.Common.{◌≡◌, refl, sym, ap, ◌∙◌, ℕ, List, [], ◌∷◌, map, length, Some}
use Rattle.lists.specs.Lists.{◌∈◌, Each}
use Rattle.lists.proofs.ListLemmas.{Each-append}
use Rattle.asp_syntax.specs.declared.tree.Term.{Term}
use Rattle.asp_syntax.specs.declared.tree.Term.TheOpen as layer
use Rattle.asp_syntax.specs.declared.tree.Atom as syntax
use Rattle.asp_meaning.specs.declared.value.Value.{Value}
use Rattle.asp_meaning.specs.Terms.{Variable, anonymous, Substitution, all_of}
use Rattle.asp_meaning.specs.Variables.{variables}
use Rattle.asp_meaning.specs.Programs.{HasValue}
use Rattle.asp_laws.proofs.Lines.{equal_is_the_same}
use Rattle.asp_safety.specs.Binding.{variables_of}
use Rattle.single_rules.specs.declared.single.SingleRule.{SingleRule}
use Rattle.search_values.specs.Instances.{Instance}
use Rattle.core_meaning.specs.Terms.{Binding}
use Rattle.core_meaning.specs.Atoms.{GroundAtom}
use Rattle.core_meaning.specs.Instances.{instance_under}
use Rattle.rewriting.specs.Parts.{positives, negatives, comparisons}
use Rattle.rewriting.specs.Lifting.{Equation, LiftedRule, lift_each, lift_atom, free_in, equation_test, lift_rule}
use Rattle.rewriting.specs.Numbering.{rule_terms, table_of}
use Rattle.rewriting.specs.CoreRules.{core_rule_of}
use Rattle.rewriting.proofs.Evaluating.{eval_roll, Stands, Agrees, numbered_value}
use Rattle.rewriting.proofs.Tables.{get-place, substitution_of, substitution-stands, with_variables-has}
use Rattle.rewriting.proofs.LiftLemmas.{Holds, Each-left, Each-right, each-same, atom_values}
use Rattle.rewriting.proofs.Extending.{in_each}
use Rattle.rewriting.proofs.Grounding.{made, atom_of}
use Rattle.rewriting.proofs.Bodies.{IsTrueOf}
use Rattle.rewriting.proofs.Numbered.{kind_at, LiftedMakes, IsUnder, instance_under-read, met_length, number_to, number_from}

-- ---- equations

-- two values that are there and the same are the same
some_same : (x y : Value) → Some x ≡ Some y → x ≡ y
some_same x y e = cc

-- a true equation is a true comparison
equation_to : (s : Substitution) (e : Equation) → Holds s e → IsTrueOf s (equation_test e)
equation_to s e h = (s (anonymous e.fresh), s (anonymous e.fresh), eval_roll s (layer.Anonymous e.fresh), h, (equal_is_the_same (s (anonymous e.fresh)) (s (anonymous e.fresh))).1 refl)

-- and a comparison that is true is a true equation
equation_from : (s : Substitution) (e : Equation) → IsTrueOf s (equation_test e) → Holds s e
equation_from s e h =
    let left : s (anonymous e.fresh) ≡ h.0 = some_same (s (anonymous e.fresh)) h.0 (sym (eval_roll s (layer.Anonymous e.fresh)) ∙ h.2) in
    h.3 ∙ ap (λ x. Some x) (sym (left ∙ (equal_is_the_same h.0 h.1).0 h.4))

-- so it is with all equations
equations_to : (s : Substitution) (es : List Equation) → Each (Holds s) es → Each (IsTrueOf s) (map equation_test es)
equations_to s [] h = tt
equations_to s (e ∷ es) h = (equation_to s e h.0, equations_to s es h.1)

-- and with all their comparisons
equations_from : (s : Substitution) (es : List Equation) → Each (IsTrueOf s) (map equation_test es) → Each (Holds s) es
equations_from s [] h = tt
equations_from s (e ∷ es) h = (equation_from s e h.0, equations_from s es h.1)

-- ---- lifting

-- the equations of a rule
abbrev pub equations_of : SingleRule → List Equation
equations_of r = (lift_each lift_atom (positives r.body) (free_in r)).equations

-- under the substitution the rule makes this instance
pub record Makes (s : Substitution) (r : SingleRule) (i : Instance GroundAtom) : Type 0 where
  pub tests : Each (IsTrueOf s) (comparisons r.body)
  pub defined : Each (HasValue s) r.defined
  pub kind : kind_at s r.kind r.head ≡ Some i.kind
  pub pos : all_of (map (atom_of s) (positives r.body)) ≡ Some i.pos
  pub neg : all_of (map (atom_of s) (negatives r.body)) ≡ Some i.neg

-- under the equations lifted atoms become what the atoms do
lifted_atoms : (s : Substitution) (ps : List syntax.Atom) (k : ℕ) → Each (Holds s) (lift_each lift_atom ps k).equations
    → map (atom_of s) (lift_each lift_atom ps k).lifted ≡ map (atom_of s) ps
lifted_atoms s ps k h = each-same (Holds s) lift_atom (atom_of s) (atom_of s) ps (λ p i j g. ap (λ xs. made p.negated p.name (all_of xs)) (atom_values s p j g)) k h

-- where the equations are true, the lifted rule makes what the rule does
lift_to : (s : Substitution) (r : SingleRule) (i : Instance GroundAtom) → Each (Holds s) (equations_of r) → Makes s r i → LiftedMakes s (lift_rule r) i
lift_to s r i h makes = record {
  tests = Each-append (IsTrueOf s) (map equation_test (equations_of r)) (comparisons r.body) (equations_to s (equations_of r) h) makes.tests;
  defined = makes.defined;
  kind = makes.kind;
  pos = ap all_of (lifted_atoms s (positives r.body) (free_in r) h) ∙ makes.pos;
  neg = makes.neg;
}

-- what the lifted rule makes, the rule does
lift_from : (s : Substitution) (r : SingleRule) (i : Instance GroundAtom) → LiftedMakes s (lift_rule r) i → Makes s r i
lift_from s r i makes =
    let holds = equations_from s (equations_of r) (Each-left (IsTrueOf s) (map equation_test (equations_of r)) (comparisons r.body) makes.tests) in
    record {
      tests = Each-right (IsTrueOf s) (map equation_test (equations_of r)) (comparisons r.body) makes.tests;
      defined = makes.defined;
      kind = makes.kind;
      pos = ap all_of (sym (lifted_atoms s (positives r.body) (free_in r) holds)) ∙ makes.pos;
      neg = makes.neg;
    }

-- ---- numbers

-- where the variables stand at their places, all terms of the rule agree
agree : (b : Binding) (s : Substitution) (r : LiftedRule) → ((v : Variable) → v ∈ table_of r → Stands b (table_of r) s v) → (t : Term) → t ∈ rule_terms r → Agrees b (table_of r) s t
agree b s r stands t among = numbered_value b (table_of r) s t (λ v i.
    stands v (with_variables-has [] (variables_of (rule_terms r)) v (in_each variables (rule_terms r) t v among i)))

-- there are as many values as variables
length-values : (s : Substitution) (vs : List Variable) → length (map s vs) ≡ length vs
length-values s [] = refl
length-values s (v ∷ vs) = let rest = length-values s vs in cc

-- the binding that a substitution gives a rule
abbrev pub binding_of : Substitution → SingleRule → Binding
binding_of s r = map s (table_of (lift_rule r))

-- what a rule makes under a substitution that makes the equations true, its core rule makes under the binding
pub core_rule_to : (s : Substitution) (r : SingleRule) (i : Instance GroundAtom) → Each (Holds s) (equations_of r) → Makes s r i
    → instance_under [] (binding_of s r) (core_rule_of r) ≡ Some i
core_rule_to s r i h makes =
    number_to (binding_of s r) (table_of (lift_rule r)) s (lift_rule r) i (agree (binding_of s r) s (lift_rule r) (get-place (table_of (lift_rule r)) s))
    (length-values s (table_of (lift_rule r))) (lift_to s r i h makes)

-- what a core rule makes under a binding, its rule makes under a substitution
pub core_rule_from : (b : Binding) (r : SingleRule) (i : Instance GroundAtom) → instance_under [] b (core_rule_of r) ≡ Some i → (s : Substitution) × Makes s r i
core_rule_from b r i e =
    let table : List Variable = table_of (lift_rule r) in
    let under : IsUnder b (core_rule_of r) i = instance_under-read b (core_rule_of r) i e in
    let sizes : length b ≡ length table = met_length b (core_rule_of r) under.met in
    let s : Substitution = substitution_of b table in
    (s, lift_from s r i (number_from b table s (lift_rule r) i (agree b s (lift_rule r) (λ v among. substitution-stands b table v sizes among)) under))
