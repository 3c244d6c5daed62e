-- The single rules of statements without aggregates and without bounds of choices have no aggregates.
use Rattle.std.proofs.Common.{◌≡◌, inl, inr, refl, sym, subst, List, [], ◌∷◌, ◌++◌, map, Option, Some, None}
use Rattle.lists.specs.Lists.{◌∈◌, Each, concat}
use Rattle.lists.proofs.ListLemmas.{Each-from, Each-append, ∈-append_cases, ∈-map_from}
use Rattle.asp_syntax.specs.declared.tree.Guard.{Guard}
use Rattle.asp_syntax.specs.declared.tree.ChoiceElement.{ChoiceElement}
use Rattle.asp_syntax.specs.declared.tree.Head.{Head}
use Rattle.asp_syntax.specs.declared.tree.Head.TheVariants as head
use Rattle.asp_syntax.specs.declared.tree.Statement.{Statement}
use Rattle.single_rules.specs.declared.single.SingleRule.{SingleRule}
use Rattle.single_rules.specs.Signs.{predicates_in_text, later_signs, sign_rule, sign_rules}
use Rattle.single_rules.specs.Splitting.{condition_item, element_rule, bound_rules, rules_with, rules_of, singles_of}
use Rattle.single_rules.proofs.Parts.{∈-concat_map_from}
use Rattle.rewriting.specs.Parts.{IsLiteral, HasNoAggregate}

-- a choice that is the head has no bound
abbrev pub IsUnbounded : Statement → Type 0
IsUnbounded x =
    (left right : Option Guard) (elements : List ChoiceElement) → x.head ≡ head.Choice left elements right → (left ≡ None) × (right ≡ None)

-- without bounds there is no constraint for them
no_bound_rule : (x : Statement) (left right : Option Guard) (elements : List ChoiceElement) → left ≡ None → right ≡ None
    → bound_rules x left elements right ≡ []
no_bound_rule x left right elements l r = λ i. bound_rules x (l i) elements (r i)

-- the rule of an element has no aggregate where the body has none
element_plain : (x : Statement) (e : ChoiceElement) → Each IsLiteral x.body → HasNoAggregate (element_rule x e)
element_plain x e body =
    Each-append IsLiteral x.body (map (condition_item x) e.condition) body (Each-from IsLiteral (map (condition_item x) e.condition) (λ i k.
    let f = ∈-map_from (condition_item x) i e.condition k in subst IsLiteral (sym f.2) tt))

-- and so it is with each rule of the statement
rule_plain : (x : Statement) (h : Head) → x.head ≡ h → Each IsLiteral x.body → IsUnbounded x → (r : SingleRule) → r ∈ rules_with x h
    → HasNoAggregate r
rule_plain x head.Absent is body none r (inl e) = subst HasNoAggregate (sym e) body
rule_plain x head.Absent is body none r (inr no_more) = absurd no_more
rule_plain x (head.Single a) is body none r (inl e) = subst HasNoAggregate (sym e) body
rule_plain x (head.Single a) is body none r (inr no_more) = absurd no_more
rule_plain x (head.Choice left elements right) is body none r k =
    elim (∈-append_cases r (map (element_rule x) elements) (bound_rules x left elements right) k) [
      | inl j ↦ let f = ∈-map_from (element_rule x) r elements j in subst HasNoAggregate (sym f.2) (element_plain x f.0 body)
      | inr j ↦ let free = none left right elements is in absurd (subst (λ rs. r ∈ rs) (no_bound_rule x left right elements free.0 free.1) j)
    ]

-- and with all single rules of a program
pub split_without_aggregates : (P : List Statement) → ((x : Statement) → x ∈ P → Each IsLiteral x.body)
    → ((x : Statement) → x ∈ P → IsUnbounded x) → Each HasNoAggregate (singles_of P)
split_without_aggregates P plain unbounded = Each-append HasNoAggregate (concat (map rules_of P)) (sign_rules P)
    (Each-from HasNoAggregate (concat (map rules_of P)) (λ r k.
    let f = ∈-concat_map_from rules_of P r k in rule_plain f.0 f.0.head refl (plain f.0 f.1) (unbounded f.0 f.1) r f.2))
    (Each-from HasNoAggregate (sign_rules P) (λ r k.
    let f = ∈-map_from sign_rule r (later_signs [] (predicates_in_text P)) k in subst HasNoAggregate (sym f.2) (tt, (tt, tt))))
