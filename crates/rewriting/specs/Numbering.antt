-- Variables become numbers, by where they come first.
use Rattle.std.specs.Prelude.{ℕ, suc, Bool, cond, List, [], ◌∷◌, ◌++◌, map, length, Option, Some, None}
use Rattle.std.specs.List.{list_any}
use Rattle.lists.specs.Lists.{concat}
use Rattle.alpha_outside.specs.declared.pred.Pred.TheVariants as pred
use Rattle.asp_syntax.specs.declared.tree.Term.{Term}
use Rattle.asp_syntax.specs.declared.tree.Term.TheOpen.{Term-F}
use Rattle.asp_syntax.specs.declared.tree.Term.TheOpen as term
use Rattle.asp_syntax.specs.declared.tree.Term.TheFolds.{fold-Term}
use Rattle.asp_syntax.specs.declared.tree.Atom as syntax
use Rattle.core_rules.specs.declared.rules.CoreTerm.{CoreTerm}
use Rattle.core_rules.specs.declared.rules.CoreTerm.TheVariants as core
use Rattle.core_rules.specs.declared.rules.CoreAtom.{CoreAtom}
use Rattle.core_rules.specs.declared.rules.Test.{Test}
use Rattle.core_rules.specs.declared.rules.Test.TheVariants as test
use Rattle.asp_meaning.specs.Terms.{Variable, named, anonymous}
use Rattle.asp_safety.specs.Keys.{variable_eq}
use Rattle.asp_safety.specs.Binding.{variables_of}
use Rattle.rewriting.specs.Parts.{Comparison}
use Rattle.rewriting.specs.Lifting.{LiftedRule}

abbrev pub atom_terms : Option syntax.Atom → List Term
atom_terms None = []
atom_terms (Some a) = a.args

-- the terms of a rule in the order of its fields
abbrev pub rule_terms : LiftedRule → List Term
rule_terms r =
    atom_terms r.head ++ concat (map (λ a. a.args) r.pos) ++ concat (map (λ a. a.args) r.neg)
    ++ concat (map (λ (c : Comparison). c.left ∷ c.right ∷ []) r.tests) ++ r.defined

-- whether the variable is in the table
abbrev pub has_variable : List Variable → Variable → Bool
has_variable table v = list_any (variable_eq v) table

-- a variable that isn't in the table yet goes last
abbrev pub with_variable : List Variable → Variable → List Variable
with_variable table v = cond (has_variable table v) table (table ++ v ∷ [])

abbrev pub with_variables : List Variable → List Variable → List Variable
with_variables table [] = table
with_variables table (v ∷ vs) = with_variables (with_variable table v) vs

-- the variables of a rule, each where it comes first
abbrev pub table_of : LiftedRule → List Variable
table_of r = with_variables [] (variables_of (rule_terms r))

-- the number of a variable is its place in the table
abbrev pub place : List Variable → Variable → ℕ
place [] v = 0
place (w ∷ ws) v = cond (variable_eq w v) 0 (suc (place ws v))

abbrev pub number_step : List Variable → Term-F CoreTerm → CoreTerm
number_step table (term.Int n) = core.Int n
number_step table (term.Variable x) = core.Var (place table (named x))
number_step table (term.Anonymous k) = core.Var (place table (anonymous k))
number_step table (term.Symbol x) = core.Symbol x
number_step table (term.Text x) = core.Text x
number_step table (term.Fun f args) = core.Fun f args
number_step table (term.Minus t) = core.Minus t
number_step table (term.Arith op l r) = core.Arith op l r

-- the term with numbers for variables
abbrev pub numbered : List Variable → Term → CoreTerm
numbered table = fold-Term CoreTerm (number_step table)

-- an atom of the program as an atom of a core rule
abbrev pub numbered_atom : List Variable → syntax.Atom → CoreAtom
numbered_atom table a = record { pred = pred.User a.negated a.name (length a.args); args = map (numbered table) a.args }

abbrev pub numbered_head : List Variable → Option syntax.Atom → Option CoreAtom
numbered_head table None = None
numbered_head table (Some a) = Some (numbered_atom table a)

abbrev pub numbered_test : List Variable → Comparison → Test
numbered_test table c = test.Compare c.op (numbered table c.left) (numbered table c.right)
