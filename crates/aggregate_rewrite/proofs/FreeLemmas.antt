-- Numbers above those of anonymous variables, part by part.
use Rattle.std.proofs.Common.{◌≡◌, refl, sym, ap, ◌∙◌, ℕ, max, List, [], ◌∷◌, ◌++◌, map, Option, Some, None, arith}
use Rattle.lists.specs.Lists.{concat}
use Rattle.single_rules.specs.declared.single.SingleRule.{SingleRule}
use Rattle.single_rules.specs.SingleRules.{head_of, as_statement}
use Rattle.alpha_outside.specs.declared.kinds.ArithOp.{ArithOp}
use Rattle.asp_syntax.specs.declared.tree.Atom.{Atom}
use Rattle.asp_syntax.specs.declared.tree.Term.{Term}
use Rattle.asp_syntax.specs.declared.tree.Term.TheVariants as tree
use Rattle.asp_syntax.specs.declared.tree.Term.TheOpen as layer
use Rattle.asp_syntax.specs.declared.tree.Term.TheFolds.{fold-roll-Term}
use Rattle.asp_meaning.specs.Terms.{Variable, named, anonymous}
use Rattle.asp_meaning.specs.Variables.{variables, variables_step, global_variables, head_terms}
use Rattle.asp_safety.specs.Binding.{variables_of, body_variables}
use Rattle.asp_safety.proofs.TermLemmas.{globals_in_parts}
use Rattle.rewriting.specs.Lifting.{free_above, free_in}
use Rattle.rewriting.specs.Numbering.{atom_terms}

-- what is free above two lists
pub free_above_both : (vs ws : List Variable) → free_above (vs ++ ws) ≡ max (free_above vs) (free_above ws)
free_above_both [] ws = omega arith
free_above_both (named x ∷ vs) ws = free_above_both vs ws
free_above_both (anonymous k ∷ vs) ws = omega (arith, free_above_both vs ws)

-- one turn of a loop that goes over items with variables
pub above_on : {A : Type 0} (f : A → List Variable) (old left : List A) (x : A) (free here more whole : ℕ) → old ≡ x ∷ left → here ≡ free_above (f x) → more ≡ max free here
    → max free (free_above (concat (map f old))) ≡ whole → max more (free_above (concat (map f left))) ≡ whole
above_on f old left x free here more whole at e m h =
    let split : free_above (concat (map f old)) ≡ max (free_above (f x)) (free_above (concat (map f left))) =
    ap (λ xs. free_above (concat (map f xs))) at ∙ free_above_both (f x) (concat (map f left)) in
    omega arith

-- at the end of the loop
pub above_done : {A : Type 0} (f : A → List Variable) (old : List A) (free whole : ℕ) → old ≡ [] → max free (free_above (concat (map f old))) ≡ whole → free ≡ whole
above_done f old free whole e h =
    let none : free_above (concat (map f old)) ≡ 0 = ap (λ xs. free_above (concat (map f xs))) e in
    omega arith

-- what is free above the operands of an operation
pub above_Arith : (op : ArithOp) (l r t : Term) → t ≡ tree.Arith op l r → free_above (variables t) ≡ max (free_above (variables l)) (free_above (variables r))
above_Arith op l r t is =
    ap (λ u. free_above (variables u)) (is ∙ sym (tree.rolls-Arith op l r))
    ∙ ap free_above (fold-roll-Term (List Variable) variables_step (layer.Arith op l r))
    ∙ free_above_both (variables l) (variables r)

-- a head has the same terms in the rule and in the statement
head_terms_of : (h : Option Atom) → head_terms (head_of h) ≡ atom_terms h
head_terms_of None = refl
head_terms_of (Some a) = refl

-- what is free in a rule, part by part
pub free_in_parts : (r : SingleRule)
    → free_in r ≡ max (max (free_above (variables_of (atom_terms r.head))) (free_above (body_variables r.body))) (free_above (variables_of r.defined))
free_in_parts r =
    let both = free_above_both (global_variables (as_statement r)) (variables_of r.defined) in
    let parts : free_above (global_variables (as_statement r)) ≡ free_above (variables_of (atom_terms r.head) ++ body_variables r.body) =
    ap free_above (globals_in_parts (as_statement r)) ∙ ap (λ ts. free_above (variables_of ts ++ body_variables r.body)) (head_terms_of r.head) in
    let halves = free_above_both (variables_of (atom_terms r.head)) (body_variables r.body) in
    omega arith
