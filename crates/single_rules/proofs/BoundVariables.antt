-- Where the bound variables of a statement stand.
use Rattle.std.proofs.Common.{inl, inr, refl, sym, subst, [], ◌∷◌, ◌++◌, Option, false}
use Rattle.lists.specs.Lists.{◌∈◌}
use Rattle.lists.proofs.ListLemmas.{∈-append_left, ∈-append_right}
use Rattle.asp_syntax.specs.declared.tree.Term.{Term}
use Rattle.asp_syntax.specs.declared.tree.Guard.{Guard}
use Rattle.asp_syntax.specs.declared.tree.Aggregate.{Aggregate}
use Rattle.asp_syntax.specs.declared.tree.Literal.{Literal}
use Rattle.asp_syntax.specs.declared.tree.Literal.TheVariants as literal
use Rattle.asp_syntax.specs.declared.tree.Item.TheVariants as item
use Rattle.asp_syntax.specs.declared.tree.Statement.{Statement}
use Rattle.asp_meaning.specs.Terms.{Variable}
use Rattle.asp_meaning.specs.Variables.{variables, guard_terms, global_variables, head_terms}
use Rattle.asp_safety.specs.Binding.{variables_of, literal_variables, item_variables, body_variables, term_of, IsEquation, IsEqualTo, IsNumberOf, IsBound, in_atom, by_equation, by_aggregate, IsSafe}
use Rattle.asp_safety.proofs.TermLemmas.{globals_in_parts}
use Rattle.single_rules.proofs.Parts.{∈-concat_map}
use Rattle.single_rules.proofs.Bounds.{globals_bound}
use Rattle.single_rules.proofs.Renamed.{outside_of_within, own_variable}

-- the variable of an equation is one of its literal's
pub equation_has : (l : Literal) (v : Variable) (t : Term) → IsEquation l v t → v ∈ literal_variables l
equation_has l v t (inl e) =
    subst (λ x. v ∈ literal_variables x) (sym e) (∈-concat_map variables (term_of v) (term_of v ∷ t ∷ []) v (inl refl) (own_variable v))
equation_has l v t (inr e) =
    subst (λ x. v ∈ literal_variables x) (sym e)
    (∈-concat_map variables (term_of v) (t ∷ term_of v ∷ []) v (inr (inl refl)) (own_variable v))

-- a guard that says what a variable is has it as its term
guard_has : (g : Option Guard) (v : Variable) → IsEqualTo g v → term_of v ∈ guard_terms g
guard_has g v e = subst (λ x. term_of v ∈ guard_terms x) (sym e) (inl refl)

-- a variable that is the number of an aggregate stands in its guards
number_has : (g : Aggregate) (v : Variable) → IsNumberOf v g → v ∈ variables_of (guard_terms g.left ++ guard_terms g.right)
number_has g v (inl e) = ∈-concat_map variables (term_of v) (guard_terms g.left ++ guard_terms g.right) v
    (∈-append_left (term_of v) (guard_terms g.left) (guard_terms g.right) (guard_has g.left v e)) (own_variable v)
number_has g v (inr e) = ∈-concat_map variables (term_of v) (guard_terms g.left ++ guard_terms g.right) v
    (∈-append_right (term_of v) (guard_terms g.left) (guard_terms g.right) (guard_has g.right v e)) (own_variable v)

-- a bound variable stands in the body, outside elements
pub bound_in_body : (s : Statement) (v : Variable) → IsBound s v → v ∈ body_variables s.body
bound_in_body s v (in_atom w p here k) =
    ∈-concat_map item_variables (item.Plain (literal.Positive p)) s.body w here (outside_of_within p.args w k)
bound_in_body s v (by_equation w t l here e h) = ∈-concat_map item_variables (item.Plain l) s.body w here (equation_has l w t e)
bound_in_body s v (by_aggregate w g here e h) = ∈-concat_map item_variables (item.Aggregate false g) s.body w here (number_has g w e)

-- the global variables of the body are global
pub body_global : (s : Statement) (v : Variable) → v ∈ body_variables s.body → v ∈ global_variables s
body_global s v k =
    subst (λ vs. v ∈ vs) (sym (globals_in_parts s)) (∈-append_right v (variables_of (head_terms s.head)) (body_variables s.body) k)

-- and in a safe statement there are no others
pub global_in_body : (s : Statement) → IsSafe s → (v : Variable) → v ∈ global_variables s → v ∈ body_variables s.body
global_in_body s safe v k = bound_in_body s v (globals_bound s safe v k)
