-- The terms of a statement outside elements: their variables are bound where it is safe, and they are well-formed where it is.
use Rattle.std.proofs.Common.{inl, inr, List, ◌++◌, map, Option, Some, None}
use Rattle.lists.specs.Lists.{◌∈◌, Each, concat}
use Rattle.lists.proofs.ListLemmas.{Each-at, Each-append, ∈-append_left, ∈-append_right, ∈-append_cases, ∈-map}
use Rattle.asp_syntax.specs.declared.tree.Term.{Term}
use Rattle.asp_syntax.specs.declared.tree.Literal.{Literal}
use Rattle.asp_syntax.specs.declared.tree.Literal.TheVariants as literal
use Rattle.asp_syntax.specs.declared.tree.Guard.{Guard}
use Rattle.asp_syntax.specs.declared.tree.Item.{Item}
use Rattle.asp_syntax.specs.declared.tree.Item.TheVariants as item
use Rattle.asp_syntax.specs.declared.tree.Head.{Head}
use Rattle.asp_syntax.specs.declared.tree.Head.TheVariants as head
use Rattle.asp_syntax.specs.declared.tree.Statement.{Statement}
use Rattle.asp_syntax.specs.Trees.{IsWellFormedTerm, IsWellFormedLiteral, IsWellFormedGuard, IsWellFormedItem, IsWellFormedHead, IsWellFormedStatement}
use Rattle.asp_meaning.specs.Terms.{Variable}
use Rattle.asp_meaning.specs.Variables.{variables, literal_terms, guard_terms, item_terms, head_terms, global_terms}
use Rattle.asp_safety.specs.Binding.{IsBound, IsBoundThere, IsSafe, Occurrence, variables_of, occur, element_occurrences, choice_occurrences, guard_occurrences, item_occurrences, head_occurrences, occurrences}
use Rattle.single_rules.proofs.Parts.{Each-concat, ∈-concat_map, ∈-concat_map_from}

-- ---- variables

-- an occurrence outside elements
abbrev pub outside : Variable → Occurrence
outside v = record { within = None; variable = v }

-- a variable of a term is one of the terms
∈-variables_of : (t : Term) (ts : List Term) (v : Variable) → t ∈ ts → v ∈ variables t → v ∈ variables_of ts
∈-variables_of t ts v = ∈-concat_map variables t ts v

-- and occurs where these stand
occurs : (ts : List Term) (t : Term) (v : Variable) → t ∈ ts → v ∈ variables t → outside v ∈ occur None (variables_of ts)
occurs ts t v among here = ∈-map outside v (variables_of ts) (∈-variables_of t ts v among here)

-- a variable of a guard, on either side of the elements, is an occurrence
in_guards : (left right : Option Guard) (inside : List Occurrence) (t : Term) (v : Variable) → t ∈ (guard_terms left ++ guard_terms right)
    → v ∈ variables t
    → outside v ∈ (guard_occurrences left ++ (inside ++ guard_occurrences right))
in_guards left right inside t v among here = elim (∈-append_cases t (guard_terms left) (guard_terms right) among) [
  | inl k ↦ ∈-append_left (outside v) (guard_occurrences left) (inside ++ guard_occurrences right) (occurs (guard_terms left) t v k here)
  | inr k ↦ ∈-append_right (outside v) (guard_occurrences left) (inside ++ guard_occurrences right)
      (∈-append_right (outside v) inside (guard_occurrences right) (occurs (guard_terms right) t v k here))
]

-- a variable of a term of an item occurs in it
in_item : (i : Item) (t : Term) (v : Variable) → t ∈ item_terms i → v ∈ variables t → outside v ∈ item_occurrences i
in_item (item.Plain l) t v among here = occurs (literal_terms l) t v among here
in_item (item.Aggregate denied g) t v among here = in_guards g.left g.right (concat (map element_occurrences g.elements)) t v among here

-- the same of a head
in_head : (h : Head) (t : Term) (v : Variable) → t ∈ head_terms h → v ∈ variables t → outside v ∈ head_occurrences h
in_head head.Absent t v among here = absurd among
in_head (head.Single p) t v among here = occurs p.args t v among here
in_head (head.Choice left elements right) t v among here = in_guards left right (concat (map choice_occurrences elements)) t v among here

-- and of a statement, for its terms outside elements
pub in_statement : (s : Statement) (t : Term) (v : Variable) → t ∈ global_terms s → v ∈ variables t → outside v ∈ occurrences s
in_statement s t v among here = elim (∈-append_cases t (head_terms s.head) (concat (map item_terms s.body)) among) [
  | inl k ↦ ∈-append_left (outside v) (head_occurrences s.head) (concat (map item_occurrences s.body)) (in_head s.head t v k here)
  | inr k ↦
      let found = ∈-concat_map_from item_terms s.body t k in
      ∈-append_right (outside v) (head_occurrences s.head) (concat (map item_occurrences s.body))
      (∈-concat_map item_occurrences found.0 s.body (outside v) found.1 (in_item found.0 t v found.2 here))
]

-- in a safe statement each variable of the terms outside elements is bound
pub globals_bound : (s : Statement) → IsSafe s → (v : Variable) → v ∈ variables_of (global_terms s) → IsBound s v
globals_bound s safe v among =
    let found = ∈-concat_map_from variables (global_terms s) v among in
    Each-at (IsBoundThere s) (occurrences s) (outside v) safe (in_statement s found.0 v found.1 found.2)

-- ---- well-formed terms

-- the terms of a well-formed literal are well-formed
of_literal : (l : Literal) → IsWellFormedLiteral l → Each IsWellFormedTerm (literal_terms l)
of_literal (literal.Positive p) h = h.1
of_literal (literal.Negative p) h = h.1
of_literal (literal.Compare op l r) h = (h.0, (h.1, tt))

-- those of a well-formed guard are
of_guard : (g : Option Guard) → IsWellFormedGuard g → Each IsWellFormedTerm (guard_terms g)
of_guard None h = tt
of_guard (Some g) h = (h, tt)

-- those of a well-formed item outside elements are
of_item : (i : Item) → IsWellFormedItem i → Each IsWellFormedTerm (item_terms i)
of_item (item.Plain l) h = of_literal l h
of_item (item.Aggregate denied g) h =
    Each-append IsWellFormedTerm (guard_terms g.left) (guard_terms g.right) (of_guard g.left h.left) (of_guard g.right h.right)

-- and those of a well-formed head
of_head : (h : Head) → IsWellFormedHead h → Each IsWellFormedTerm (head_terms h)
of_head head.Absent h = tt
of_head (head.Single p) h = h.1
of_head (head.Choice left elements right) h =
    Each-append IsWellFormedTerm (guard_terms left) (guard_terms right) (of_guard left h.0) (of_guard right h.2)

-- in a well-formed statement each term outside elements is well-formed
pub globals_well_formed : (s : Statement) → IsWellFormedStatement s → Each IsWellFormedTerm (global_terms s)
globals_well_formed s h =
    Each-append IsWellFormedTerm (head_terms s.head) (concat (map item_terms s.body))
    (of_head s.head h.0) (Each-concat item_terms IsWellFormedItem IsWellFormedTerm of_item s.body h.1)
