-- The variables of a core rule are the numbers of those of the lifted rule.
use Rattle.std.proofs.Common.{◌≡◌, refl, sym, ap, ◌∙◌, ℕ, List, [], ◌∷◌, ◌++◌, map, Option, Some, None}
use Rattle.std.proofs.lemmas.List.{map-append}
use Rattle.lists.specs.Lists.{concat}
use Rattle.asp_syntax.specs.declared.tree.Term.{Term}
use Rattle.asp_syntax.specs.declared.tree.Atom as syntax
use Rattle.core_rules.specs.Variables as core
use Rattle.asp_meaning.specs.Terms.{Variable}
use Rattle.asp_meaning.specs.Variables.{variables}
use Rattle.asp_safety.specs.Binding.{variables_of}
use Rattle.asp_safety.proofs.TermLemmas.{concat_map-append}
use Rattle.rewriting.specs.Parts.{Comparison}
use Rattle.rewriting.specs.Lifting.{LiftedRule}
use Rattle.rewriting.specs.Numbering.{atom_terms, rule_terms, place, numbered, numbered_atom, numbered_head, numbered_test}
use Rattle.rewriting.specs.CoreRules.{rule_by}
use Rattle.rewriting.proofs.NumberedTerms.{numbered_variables}

module _ (table : List Variable) where
  -- these are the numbers of the variables of the terms
  abbrev AreNumbers : List Term → List ℕ → Type 0
  AreNumbers ts numbers = numbers ≡ map (place table) (variables_of ts)

  -- the numbers of two lists of terms, one after the other
  joined : (ts us : List Term) (xs ys : List ℕ) → AreNumbers ts xs → AreNumbers us ys → AreNumbers (ts ++ us) (xs ++ ys)
  joined ts us xs ys first second =
      (λ i. first i ++ second i)
      ∙ sym (map-append (place table) (variables_of ts) (variables_of us))
      ∙ ap (map (place table)) (sym (concat_map-append variables ts us))

  -- those of a list of terms
  pub terms_numbers : (ts : List Term) → core.variables_of (map (numbered table) ts) ≡ map (place table) (variables_of ts)
  terms_numbers [] = refl
  terms_numbers (t ∷ ts) =
      let first = numbered_variables table t in
      let rest = terms_numbers ts in
      (λ i. first i ++ rest i) ∙ sym (map-append (place table) (variables t) (variables_of ts))

  -- those of a head
  head_numbers : (h : Option syntax.Atom) → AreNumbers (atom_terms h) (core.head_variables (numbered_head table h))
  head_numbers None = refl
  head_numbers (Some a) = terms_numbers a.args

  -- those of atoms
  atoms_numbers : (ps : List syntax.Atom) → AreNumbers (concat (map (λ a. a.args) ps)) (concat (map core.atom_variables (map (numbered_atom table) ps)))
  atoms_numbers [] = refl
  atoms_numbers (p ∷ ps) = joined p.args (concat (map (λ a. a.args) ps)) (core.atom_variables (numbered_atom table p)) (concat (map core.atom_variables (map (numbered_atom table) ps)))
      (terms_numbers p.args) (atoms_numbers ps)

  -- those of comparisons
  tests_numbers : (cs : List Comparison) → AreNumbers (concat (map (λ (c : Comparison). c.left ∷ c.right ∷ []) cs)) (concat (map core.test_variables (map (numbered_test table) cs)))
  tests_numbers [] = refl
  tests_numbers (c ∷ cs) = joined (c.left ∷ c.right ∷ []) (concat (map (λ (d : Comparison). d.left ∷ d.right ∷ []) cs)) (core.test_variables (numbered_test table c))
      (concat (map core.test_variables (map (numbered_test table) cs))) (terms_numbers (c.left ∷ c.right ∷ [])) (tests_numbers cs)

  -- the variables of the rule with numbers, in the order of its fields
  pub rule_numbers : (r : LiftedRule) → core.rule_variables (rule_by table r) ≡ map (place table) (variables_of (rule_terms r))
  rule_numbers r =
      let head = atom_terms r.head in
      let pos = concat (map (λ a. a.args) r.pos) in
      let neg = concat (map (λ a. a.args) r.neg) in
      let tests = concat (map (λ (c : Comparison). c.left ∷ c.right ∷ []) r.tests) in
      joined (head ++ pos ++ neg ++ tests) r.defined _ _
      (joined (head ++ pos ++ neg) tests _ _
      (joined (head ++ pos) neg _ _
      (joined head pos _ _ (head_numbers r.head) (atoms_numbers r.pos))
      (atoms_numbers r.neg))
      (tests_numbers r.tests))
      (terms_numbers r.defined)
