-- The value of a core term under values for the variables, and when a test is true.
use Rattle.std.specs.Prelude.{ℕ, pos, Bool, not, ◌&&◌, List, map, Option, Some, None, slice_get}
use Rattle.alpha_outside.specs.declared.kinds.ArithOp.TheVariants.{Sub}
use Rattle.asp_syntax.specs.declared.tree.CompareOp.{CompareOp}
use Rattle.core_rules.specs.declared.rules.CoreTerm.{CoreTerm}
use Rattle.core_rules.specs.declared.rules.CoreTerm.TheOpen.{CoreTerm-F}
use Rattle.core_rules.specs.declared.rules.CoreTerm.TheOpen as term
use Rattle.core_rules.specs.declared.rules.CoreTerm.TheFolds.{fold-CoreTerm}
use Rattle.core_rules.specs.declared.rules.Test.{Test}
use Rattle.core_rules.specs.declared.rules.Test.TheVariants as test
use Rattle.asp_meaning.specs.declared.value.Value.{Value}
use Rattle.asp_meaning.specs.declared.value.Value.TheVariants as value
use Rattle.asp_meaning.specs.Terms.{operation, all_of, functional_of}
use Rattle.asp_meaning.specs.Orders.{value_cmp, passes}

-- values for some variables of a rule, by their numbers
abbrev pub Partly : Type 0
Partly = ℕ → Option Value

-- the value of a term, from the values of its parts
abbrev pub step_partly : Partly → CoreTerm-F (Option Value) → Option Value
step_partly p (term.Int n) = Some (value.Int n)
step_partly p (term.Var v) = p v
step_partly p (term.Symbol x) = Some (value.Symbol x)
step_partly p (term.Text x) = Some (value.Text x)
step_partly p (term.Fun f args) = functional_of f (all_of args)
step_partly p (term.Minus t) = operation Sub (Some (value.Int (pos 0))) t
step_partly p (term.Arith op l r) = operation op l r

-- the value of a term, or none where its arithmetic is undefined or a variable has no value
abbrev pub eval_partly : Partly → CoreTerm → Option Value
eval_partly p = fold-CoreTerm (Option Value) (step_partly p)

-- the value of each variable of a rule, in the order of their numbers
abbrev pub Binding : Type 0
Binding = List Value

abbrev pub eval_step : Binding → CoreTerm-F (Option Value) → Option Value
eval_step b = step_partly (slice_get b)

-- the value of a term where each variable has one
abbrev pub eval : Binding → CoreTerm → Option Value
eval b = fold-CoreTerm (Option Value) (eval_step b)

-- the values of terms, where each has one
abbrev pub eval_all : Binding → List CoreTerm → Option (List Value)
eval_all b ts = all_of (map (eval b) ts)

-- whether the comparison is true, where both terms have values
abbrev pub compared : CompareOp → Option Value → Option Value → Option Bool
compared op (Some x) (Some y) = Some (passes op (value_cmp x y))
compared op _ _ = None

abbrev pub not_both : Option Bool → Option Bool → Option Bool
not_both (Some p) (Some q) = Some (not (p && q))
not_both _ _ = None

-- whether the test is true, where all its terms have values
abbrev pub outcome : Binding → Test → Option Bool
outcome b (test.Compare op l r) = compared op (eval b l) (eval b r)
outcome b (test.NotBoth op l r op' l' r') = not_both (compared op (eval b l) (eval b r)) (compared op' (eval b l') (eval b r'))
