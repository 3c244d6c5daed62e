-- Terms and atoms of a rule, where its variables are terms with holes.
use Rattle.std.specs.Prelude.{◌≡◌, List, map, Some}
use Rattle.alpha_outside.specs.declared.node.Node.{Node}
use Rattle.alpha_outside.specs.declared.pattern.PatternTerm.{PatternTerm}
use Rattle.core_rules.specs.declared.rules.CoreTerm.{CoreTerm}
use Rattle.core_meaning.specs.Terms.{eval, eval_all}
use Rattle.term_pool.specs.Nodes.{KeepsValues}
use Rattle.unification.specs.Patterns.{Holes, fill}

-- under all values for the holes the second term becomes the value of the first under what the terms for the variables become, in each pool that
-- goes on from this one
abbrev pub IsTermUnder : List Node → List PatternTerm → CoreTerm → PatternTerm → Type 0
IsTermUnder pool terms t p =
    (nodes : List Node) → KeepsValues pool nodes → (h : Holes) → eval (map (fill nodes h) terms) t ≡ Some (fill nodes h p)

-- the same of terms, one by one
abbrev pub AreTermsUnder : List Node → List PatternTerm → List CoreTerm → List PatternTerm → Type 0
AreTermsUnder pool terms ts ps =
    (nodes : List Node) → KeepsValues pool nodes → (h : Holes) → eval_all (map (fill nodes h) terms) ts ≡ Some (map (fill nodes h) ps)
