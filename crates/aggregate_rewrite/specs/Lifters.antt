-- What the code holds of a lifted rule.
use Rattle.std.specs.Prelude.{List, [], ◌∷◌, map}
use Rattle.lists.specs.Lists.{concat}
use Rattle.asp_syntax.specs.declared.tree.Term.{Term}
use Rattle.asp_syntax.specs.declared.tree.Atom.{Atom}
use Rattle.single_rules.specs.declared.single.SingleRule.{SingleRule}
use Rattle.rewriting.specs.Parts.{Comparison}
use Rattle.rewriting.specs.Lifting.{LiftedRule}
use Rattle.aggregate_rewrite.specs.declared.lifting.LiftedBody.{LiftedBody}

-- the rule with this body
abbrev pub lifted_rule : SingleRule → LiftedBody → LiftedRule
lifted_rule r body = record { kind = r.kind; head = r.head; pos = body.pos; neg = body.neg; tests = body.tests; defined = r.defined; line = r.line }

-- the terms of atoms
abbrev pub atoms_terms : List Atom → List Term
atoms_terms atoms = concat (map (λ (a : Atom). a.args) atoms)

-- the terms of comparisons
abbrev pub tests_terms : List Comparison → List Term
tests_terms tests = concat (map (λ (c : Comparison). c.left ∷ c.right ∷ []) tests)
