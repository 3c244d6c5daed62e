-- Items of a body where further variables are global that do not occur in the elements of its aggregates.
use Rattle.std.proofs.Common.{◌≡◌, inl, inr, sym, ap, ◌∙◌, true, false, cond, List, [], ◌++◌}
use Rattle.lists.specs.Lists.{◌∈◌, ◌⊆◌}
use Rattle.lists.proofs.ListLemmas.{Each-at, Each-from, AtLeastOne-at, AtLeastOne-from, ∈-append_left, ∈-append_right}
use Rattle.asp_syntax.specs.declared.tree.Term.{Term}
use Rattle.asp_syntax.specs.declared.tree.Aggregate.{Aggregate}
use Rattle.asp_syntax.specs.declared.tree.Element.{Element}
use Rattle.asp_syntax.specs.declared.tree.Literal.{Literal}
use Rattle.asp_syntax.specs.declared.tree.Item.{Item}
use Rattle.asp_syntax.specs.declared.tree.Item.TheVariants as item
use Rattle.asp_meaning.specs.declared.value.Value.{Value}
use Rattle.asp_meaning.specs.Terms.{Variable, Substitution}
use Rattle.asp_meaning.specs.Variables.{variables, literal_terms, guard_terms, item_terms}
use Rattle.asp_meaning.specs.Atoms.{Atom}
use Rattle.asp_meaning.specs.Bodies.{LiteralHolds, Gives, IsExtent, GuardsHold, ItemHolds, total}
use Rattle.asp_safety.specs.ClauseLists.{is_among}
use Rattle.asp_safety.specs.Binding.{variables_of, literal_variables, condition_variables, element_variables, aggregate_variables}
use Rattle.single_rules.proofs.Parts.{∈-concat_map}
use Rattle.single_rules.proofs.Names.{is_or_not, among_true, among_false}
use Rattle.asp_laws.proofs.Globals.{AreSame, turn, all_same, literal_same, left_same, right_same, guards_same}
use Rattle.single_rules.proofs.Values.{same_by_variables}

-- t on these variables, and s elsewhere
abbrev pub joined : List Variable → Substitution → Substitution → Substitution
joined vs t s v = cond (is_among vs v) (t v) (s v)

-- on these variables it is t
pub joined_in : (vs : List Variable) (t s : Substitution) (v : Variable) → v ∈ vs → joined vs t s v ≡ t v
joined_in vs t s v k = ap (λ b. cond b (t v) (s v)) (among_true v vs k)

-- elsewhere it is s
pub joined_out : (vs : List Variable) (t s : Substitution) (v : Variable) → ¬ (v ∈ vs) → joined vs t s v ≡ s v
joined_out vs t s v k = ap (λ b. cond b (t v) (s v)) (among_false v vs k)

-- a variable of a term is one of the terms
in_terms : (ts : List Term) (u : Term) → u ∈ ts → (v : Variable) → v ∈ variables u → v ∈ variables_of ts
in_terms ts u k v here = ∈-concat_map variables u ts v k here

-- and one of the condition where the term stands in a literal of it
pub in_condition_variables : (ls : List Literal) (l : Literal) → l ∈ ls → (u : Term) → u ∈ literal_terms l → (v : Variable)
    → v ∈ variables u → v ∈ condition_variables ls
in_condition_variables ls l k u j v here = ∈-concat_map literal_variables l ls v k (in_terms (literal_terms l) u j v here)

-- two lists of global variables with a substitution each, of which the second says more, but nothing else on the first
pub record IsWider (G H : List Variable) (s t : Substitution) : Type 0 where
  pub more : G ⊆ H
  pub same : (v : Variable) → v ∈ G → t v ≡ s v

module _ (G H : List Variable) (s t : Substitution) (I : List Atom) (wide : IsWider G H s t) where
  -- no variable of these is global only in the second
  abbrev pub AreApart : List Variable → Type 0
  AreApart vs = (v : Variable) → v ∈ vs → v ∈ H → v ∈ G

  -- an element gives a tuple where more variables are global
  gives_to : (e : Element) → AreApart (element_variables e) → (tuple : List Value) → Gives G s I tuple e → Gives H t I tuple e
  gives_to e apart tuple k =
      let u = k.0 in
      let vs = element_variables e in
      let on_terms : AreSame u (joined vs u t) e.terms = same_by_variables u (joined vs u t) e.terms (λ w j v here.
      joined_in vs u t v (∈-append_left v (variables_of e.terms) (condition_variables e.condition) (in_terms e.terms w j v here))) in
      let on_literal : (l : Literal) → l ∈ e.condition
      → AreSame u (joined vs u t) (literal_terms l) = λ l i. same_by_variables u (joined vs u t) (literal_terms l) (λ w j v here.
      joined_in vs u t v
      (∈-append_right v (variables_of e.terms) (condition_variables e.condition) (in_condition_variables e.condition l i w j v here))) in (
        joined vs u t,
        Each-from (λ v. joined vs u t v ≡ t v) H (λ v among. elim (is_or_not v vs) [
          | inl here ↦ let g = apart v here among in joined_in vs u t v here ∙ Each-at (λ v. u v ≡ s v) G v k.1 g ∙ sym (wide.same v g)
          | inr out ↦ joined_out vs u t v out
        ]),
        all_same u (joined vs u t) e.terms on_terms ∙ k.2,
        Each-from (LiteralHolds (joined vs u t) I) e.condition
            (λ l i. literal_same u (joined vs u t) I l (on_literal l i) (Each-at (LiteralHolds u I) e.condition l k.3 i)),
      )

  -- and back
  gives_back : (e : Element) (tuple : List Value) → Gives H t I tuple e → Gives G s I tuple e
  gives_back e tuple k = (
    k.0,
    Each-from (λ v. k.0 v ≡ s v) G (λ v among. Each-at (λ v. k.0 v ≡ t v) H v k.1 (wide.more v among) ∙ wide.same v among),
    k.2,
    k.3,
  )

  -- so does one of the elements of an aggregate
  some_to : (g : Aggregate) → AreApart (aggregate_variables g) → (tuple : List Value) → (e : Element) → e ∈ g.elements → Gives G s I tuple e
      → Gives H t I tuple e
  some_to g apart tuple e k = gives_to e (λ v here. apart v (∈-concat_map element_variables e g.elements v k here)) tuple

  -- so an aggregate has the same extent
  pub extent_to : (g : Aggregate) → AreApart (aggregate_variables g) → (tuples : List (List Value)) → IsExtent G s I g tuples
      → IsExtent H t I g tuples
  extent_to g apart tuples k = record {
    once = k.once;
    given = λ x j. let f = AtLeastOne-at (Gives G s I x) g.elements (k.given x j) in
        AtLeastOne-from (Gives H t I x) g.elements f.0 f.1 (some_to g apart x f.0 f.1 f.2);
    all_given = λ x j. let f = AtLeastOne-at (Gives H t I x) g.elements j in
        k.all_given x (AtLeastOne-from (Gives G s I x) g.elements f.0 f.1 (gives_back f.0 x f.2));
  }

  -- and back
  pub extent_back : (g : Aggregate) → AreApart (aggregate_variables g) → (tuples : List (List Value)) → IsExtent H t I g tuples
      → IsExtent G s I g tuples
  extent_back g apart tuples k = record {
    once = k.once;
    given = λ x j. let f = AtLeastOne-at (Gives H t I x) g.elements (k.given x j) in
        AtLeastOne-from (Gives G s I x) g.elements f.0 f.1 (gives_back f.0 x f.2);
    all_given = λ x j. let f = AtLeastOne-at (Gives G s I x) g.elements j in
        k.all_given x (AtLeastOne-from (Gives H t I x) g.elements f.0 f.1 (some_to g apart x f.0 f.1 f.2));
  }

-- the variables in the elements of an item's aggregate
abbrev pub inner_variables : Item → List Variable
inner_variables (item.Plain l) = []
inner_variables (item.Aggregate denied g) = aggregate_variables g

-- an item of a body holds where more variables are global
pub item_to : (G H : List Variable) (s t : Substitution) (I : List Atom) → IsWider G H s t → (i : Item) → AreSame s t (item_terms i)
    → ((v : Variable) → v ∈ inner_variables i → v ∈ H → v ∈ G) → ItemHolds G s I i → ItemHolds H t I i
item_to G H s t I wide (item.Plain l) h apart k = literal_same s t I l h k
item_to G H s t I wide (item.Aggregate false g) h apart k =
    (k.0, extent_to G H s t I wide g apart k.0 k.1, guards_same s t (total g.kind k.0) g h k.2)
item_to G H s t I wide (item.Aggregate true g) h apart k = (
  k.0,
  extent_to G H s t I wide g apart k.0 k.1,
  λ j. k.2
      (guards_same t s (total g.kind k.0) g (turn s t (guard_terms g.left ++ guard_terms g.right) h) j),
)

-- and back
pub item_back : (G H : List Variable) (s t : Substitution) (I : List Atom) → IsWider G H s t → (i : Item) → AreSame s t (item_terms i)
    → ((v : Variable) → v ∈ inner_variables i → v ∈ H → v ∈ G) → ItemHolds H t I i → ItemHolds G s I i
item_back G H s t I wide (item.Plain l) h apart k = literal_same t s I l (turn s t (literal_terms l) h) k
item_back G H s t I wide (item.Aggregate false g) h apart k = (
  k.0,
  extent_back G H s t I wide g apart k.0 k.1,
  guards_same t s (total g.kind k.0) g
      (turn s t (guard_terms g.left ++ guard_terms g.right) h) k.2,
)
item_back G H s t I wide (item.Aggregate true g) h apart k =
    (k.0, extent_back G H s t I wide g apart k.0 k.1, λ j. k.2 (guards_same s t (total g.kind k.0) g h j))
