-- The single rules of a program whose statements are built have no aggregates.
use Rattle.std.proofs.Common.{◌≡◌, refl, subst, Bool, true, false, ◌&&◌, List, [], ◌∷◌}
use Rattle.std.specs.Prelude.{if◌then◌else◌, Option, Some, None}
use Rattle.std.specs.List.{list_all}
use Rattle.lists.specs.Lists.{Each}
use Rattle.lists.proofs.ListLemmas.{Each-at}
use Rattle.asp_syntax.specs.declared.tree.Guard.{Guard}
use Rattle.asp_syntax.specs.declared.tree.ChoiceElement.{ChoiceElement}
use Rattle.asp_syntax.specs.declared.tree.Item.{Item}
use Rattle.asp_syntax.specs.declared.tree.Item.TheVariants as item
use Rattle.asp_syntax.specs.declared.tree.Head.TheVariants as head
use Rattle.asp_syntax.specs.declared.tree.Statement.{Statement}
use Rattle.single_rules.specs.Splitting.{singles_of}
use Rattle.rewriting.specs.Parts.{IsLiteral, HasNoAggregate}
use Rattle.rewriting.proofs.SplitRules.{IsUnbounded, split_without_aggregates}
use Rattle.alpha.specs.Built.{is_built_item, is_built_head, is_built, unbuilt}

-- both tests are true
both : (v w : Bool) → (v && w) ≡ true → (v ≡ true) × (w ≡ true)
both true w e = (refl, e)
both false w e = absurd (cc)

-- an item that is built is a literal
item_literal : (i : Item) → is_built_item i ≡ true → IsLiteral i
item_literal (item.Plain l) e = tt
item_literal (item.Aggregate denied g) e = absurd (cc)

-- and so are those of a body
body_literals : (body : List Item) → list_all is_built_item body ≡ true → Each IsLiteral body
body_literals [] e = tt
body_literals (i ∷ body) e = let parts = both (is_built_item i) (list_all is_built_item body) e in (item_literal i parts.0, body_literals body parts.1)

-- a choice that is built has no bounds
no_bounds : (left right : Option Guard) (elements : List ChoiceElement) → is_built_head (head.Choice left elements right) ≡ true → (left ≡ None) × (right ≡ None)
no_bounds None None elements e = (refl, refl)
no_bounds None (Some g) elements e = absurd (cc)
no_bounds (Some g) right elements e = absurd (cc)

-- a statement that is built has literals alone, and no bounds
record IsBuiltStatement (s : Statement) : Type 0 where
  pub body : Each IsLiteral s.body
  pub head : IsUnbounded s

-- so the test says
statement_built : (s : Statement) → is_built s ≡ true → IsBuiltStatement s
statement_built s e =
    let parts = both (is_built_head s.head) (list_all is_built_item s.body) e in
    record {
      body = body_literals s.body parts.1;
      head = λ left right elements is. no_bounds left right elements (subst (λ h. is_built_head h ≡ true) is parts.0);
    }

-- each statement is built where none is unbuilt
each_built : (P : List Statement) → unbuilt P ≡ None → Each IsBuiltStatement P
each_built [] e = tt
each_built (s ∷ P) e = by_case (is_built s) (λ t. statement_built s t) (λ rest. each_built P rest) e
  where
    by_case : (v : Bool) → (v ≡ true → IsBuiltStatement s) → (unbuilt P ≡ None → Each IsBuiltStatement P)
        → (if v then unbuilt P else Some s.line) ≡ None → Each IsBuiltStatement (s ∷ P)
    by_case true one more e = (one refl, more e)
    by_case false one more e = absurd (cc)

-- the single rules of a built program have no aggregates
pub built_no_aggregates : (P : List Statement) → unbuilt P ≡ None → Each HasNoAggregate (singles_of P)
built_no_aggregates P e =
    let each = each_built P e in
    split_without_aggregates P (λ x k. IsBuiltStatement.body (Each-at IsBuiltStatement P x each k)) (λ x k. IsBuiltStatement.head (Each-at IsBuiltStatement P x each k))
