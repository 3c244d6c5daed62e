-- What single rules without aggregates become has names and texts of a program.
use Rattle.std.proofs.Common.{inl, inr, refl, sym, subst, List, [], ◌∷◌, map, Option, Some, None}
use Rattle.lists.specs.Lists.{◌∈◌, Each}
use Rattle.lists.proofs.ListLemmas.{Each-at, ∈-append_cases, ∈-map_from}
use Rattle.asp_syntax.specs.declared.tree.Term.{Term}
use Rattle.asp_syntax.specs.declared.tree.Term.TheOpen as layer
use Rattle.asp_syntax.specs.declared.tree.Term.TheFolds.{fold-roll-Term}
use Rattle.asp_syntax.specs.declared.tree.Atom as syntax
use Rattle.asp_syntax.specs.declared.tree.Literal.{Literal}
use Rattle.asp_syntax.specs.declared.tree.Literal.TheVariants as literal
use Rattle.asp_syntax.specs.declared.tree.Item.TheVariants as item
use Rattle.asp_syntax.specs.Trees.{Part, IsAllowed, parts_step, IsWellFormedTerm, IsWellFormedAtom, IsWellFormedLiteral, IsWellFormedItem, IsWellFormedHead}
use Rattle.asp_meaning.specs.Terms.{Variable}
use Rattle.single_rules.specs.declared.single.SingleRule.{SingleRule}
use Rattle.single_rules.specs.SingleRules.{head_of, IsWellFormedRule}
use Rattle.core_rules.specs.Variables.{test_terms}
use Rattle.core_rules.specs.Names.{IsNamedTerm, IsNamedAtom, IsNamedHead, IsNamedRule}
use Rattle.rewriting.specs.Parts.{Comparison, positives, comparisons}
use Rattle.rewriting.specs.Lifting.{Equation, lift_each, lift_atom, equation_test, free_in, lift_rule}
use Rattle.rewriting.specs.Numbering.{table_of, numbered, numbered_atom, numbered_head, numbered_test}
use Rattle.rewriting.specs.CoreRules.{core_rule_of}
use Rattle.rewriting.specs.Laws.{KeepsNames}
use Rattle.rewriting.proofs.NumberedTerms.{numbered_parts}
use Rattle.rewriting.proofs.LiftedLists.{lifted_from, equation_from}
use Rattle.rewriting.proofs.LiftedTerms.{terms_formed, terms_sources}
use Rattle.rewriting.proofs.Bound.{positive_from, negative_from, comparison_from}

-- ---- the parts of the lifted rule

module _ (r : SingleRule) (formed : IsWellFormedRule r) where
  -- the literals of the body are fine
  body_formed : (l : Literal) → item.Plain l ∈ r.body → IsWellFormedLiteral l
  body_formed l here = Each-at IsWellFormedItem r.body (item.Plain l) formed.0.1 here

  -- so are the lifted atoms
  pos_formed : (a : syntax.Atom) → a ∈ (lift_rule r).pos → IsWellFormedAtom a
  pos_formed a k =
      let of = lifted_from lift_atom (positives r.body) (free_in r) a k in
      let source = body_formed (literal.Positive of.source) (positive_from r.body of.source of.among) in
      subst IsWellFormedAtom (sym of.is) (source.0, terms_formed of.source.args of.start source.1)

  -- the atoms under `not`
  neg_formed : (a : syntax.Atom) → a ∈ (lift_rule r).neg → IsWellFormedAtom a
  neg_formed a k = body_formed (literal.Negative a) (negative_from r.body a k)

  -- both sides are fine
  abbrev IsWellFormedComparison : Comparison → Type 0
  IsWellFormedComparison c = IsWellFormedTerm c.left × IsWellFormedTerm c.right

  -- the equations
  equation_formed : (e : Equation) → e ∈ (lift_each lift_atom (positives r.body) (free_in r)).equations → IsWellFormedComparison (equation_test e)
  equation_formed e k =
      let of = equation_from lift_atom (positives r.body) (free_in r) e k in
      let from = terms_sources of.source.args of.start e of.here in
      let source = body_formed (literal.Positive of.source) (positive_from r.body of.source of.among) in
      (subst (Each IsAllowed) (sym (fold-roll-Term (List Part) parts_step (layer.Anonymous e.fresh))) tt, from.2.formed (Each-at IsWellFormedTerm of.source.args from.0 source.1 from.1))

  -- the tests
  tests_formed : (c : Comparison) → c ∈ (lift_rule r).tests → IsWellFormedComparison c
  tests_formed c k = elim (∈-append_cases c (map equation_test (lift_each lift_atom (positives r.body) (free_in r)).equations) (comparisons r.body) k) [
    | inl h ↦ let found = ∈-map_from equation_test c (lift_each lift_atom (positives r.body) (free_in r)).equations h in
        subst IsWellFormedComparison (sym found.2) (equation_formed found.0 found.1)
    | inr h ↦ body_formed (literal.Compare c.op c.left c.right) (comparison_from r.body c h)
  ]

-- ---- with numbers

module _ (table : List Variable) where
  -- a term that is fine is so with numbers
  term_named : (t : Term) → IsWellFormedTerm t → IsNamedTerm (numbered table t)
  term_named t h = subst (Each IsAllowed) (sym (numbered_parts table t)) h

  -- so is each of a list
  terms_named : (ts : List Term) → Each IsWellFormedTerm ts → Each IsNamedTerm (map (numbered table) ts)
  terms_named [] h = tt
  terms_named (t ∷ ts) h = (term_named t h.0, terms_named ts h.1)

  -- an atom that is fine is so with numbers
  atom_named : (a : syntax.Atom) → IsWellFormedAtom a → IsNamedAtom (numbered_atom table a)
  atom_named a h = (h.0, terms_named a.args h.1)

  -- so is each of a list of atoms
  atoms_named : (ps : List syntax.Atom) → ((a : syntax.Atom) → a ∈ ps → IsWellFormedAtom a) → Each IsNamedAtom (map (numbered_atom table) ps)
  atoms_named [] h = tt
  atoms_named (p ∷ ps) h = (atom_named p (h p (inl refl)), atoms_named ps (λ a k. h a (inr k)))

  -- a head that is fine is so with numbers
  head_named : (h : Option syntax.Atom) → IsWellFormedHead (head_of h) → IsNamedHead (numbered_head table h)
  head_named None h = tt
  head_named (Some a) h = atom_named a h

  -- comparisons that are fine are so with numbers
  tests_named : (cs : List Comparison) → ((c : Comparison) → c ∈ cs → IsWellFormedTerm c.left × IsWellFormedTerm c.right)
      → Each (λ t. Each IsNamedTerm (test_terms t)) (map (numbered_test table) cs)
  tests_named [] h = tt
  tests_named (c ∷ cs) h = let first = h c (inl refl) in ((term_named c.left first.0, (term_named c.right first.1, tt)), tests_named cs (λ d k. h d (inr k)))

-- the core rule of a rule that is fine
rule_named : (r : SingleRule) → IsWellFormedRule r → IsNamedRule (core_rule_of r)
rule_named r formed =
    let names = table_of (lift_rule r) in record {
      head = head_named names r.head formed.0.0;
      pos = atoms_named names (lift_rule r).pos (pos_formed r formed);
      neg = atoms_named names (lift_rule r).neg (neg_formed r formed);
      tests = tests_named names (lift_rule r).tests (tests_formed r formed);
      defined = terms_named names r.defined formed.1;
    }

-- each core rule has names and texts of a program
pub keeps_names : KeepsNames
keeps_names [] formed none = tt
keeps_names (r ∷ rules) formed none = (rule_named r formed.0, keeps_names rules formed.1 none.1)
