-- What the definitions say does not depend on the order of atoms, or of statements.
use Rattle.std.proofs.Common.{ℤ, true, false, List, [], ◌∷◌, Option, Some, None}
use Rattle.lists.specs.Lists.{◌⊆◌, HasNoRepeats, Each, AtLeastOne, SameSet}
use Rattle.lists.proofs.ListLemmas.{Each-map, AtLeastOne-at, AtLeastOne-from, AtLeastOne-map, SameSet-refl, SameSet-sym, SameSet-trans}
use Rattle.asp_syntax.specs.declared.tree.Literal.{Literal}
use Rattle.asp_syntax.specs.declared.tree.Literal.TheVariants as literal
use Rattle.asp_syntax.specs.declared.tree.Guard.{Guard}
use Rattle.asp_syntax.specs.declared.tree.Element.{Element}
use Rattle.asp_syntax.specs.declared.tree.Aggregate.{Aggregate}
use Rattle.asp_syntax.specs.declared.tree.ChoiceElement.{ChoiceElement}
use Rattle.asp_syntax.specs.declared.tree.Item.{Item}
use Rattle.asp_syntax.specs.declared.tree.Item.TheVariants as item
use Rattle.asp_syntax.specs.declared.tree.Head.{Head}
use Rattle.asp_syntax.specs.declared.tree.Head.TheVariants as head
use Rattle.asp_syntax.specs.declared.tree.Statement.{Statement}
use Rattle.asp_meaning.specs.declared.value.Value.{Value}
use Rattle.asp_meaning.specs.Terms.{Variable, Substitution}
use Rattle.asp_meaning.specs.Variables.{global_variables}
use Rattle.asp_meaning.specs.Atoms.{Atom, strong_negation}
use Rattle.asp_meaning.specs.Bodies.{LiteralHolds, Gives, IsExtent, ItemHolds, LeftHolds, RightHolds}
use Rattle.asp_meaning.specs.Programs.{BodyHolds, Offers, Rests, ItemRests, HeadGives, LicensesFrom, AreChosen, BoundHolds, HeadIsMet, IsClosed, IsFoundedList, IsAnswerSet}
use Rattle.asp_laws.specs.Laws.{OrderOfStatementsDoesNotMatter, OrderOfAtomsDoesNotMatter}

-- ---- from a set to the same set

literal_moves : (s : Substitution) (I J : List Atom) → SameSet I J → (l : Literal) → LiteralHolds s I l → LiteralHolds s J l
literal_moves s I J same (literal.Positive p) h = (h.0, h.1, same.to h.0 h.2)
literal_moves s I J same (literal.Negative p) h = (h.0, h.1, λ among. h.2 (same.back h.0 among))
literal_moves s I J same (literal.Compare op l r) h = h

literals_move : (s : Substitution) (I J : List Atom) → SameSet I J → (ls : List Literal) → Each (LiteralHolds s I) ls → Each (LiteralHolds s J) ls
literals_move s I J same ls h = Each-map (LiteralHolds s I) (LiteralHolds s J) (literal_moves s I J same) ls h

gives_moves : (globals : List Variable) (s : Substitution) (I J : List Atom) → SameSet I J → (t : List Value) (e : Element) → Gives globals s I t e → Gives globals s J t e
gives_moves globals s I J same t e h = (h.0, h.1, h.2, literals_move h.0 I J same e.condition h.3)

given_moves : (globals : List Variable) (s : Substitution) (I J : List Atom) → SameSet I J → (t : List Value) (es : List Element) → AtLeastOne (Gives globals s I t) es → AtLeastOne (Gives globals s J t) es
given_moves globals s I J same t es h = AtLeastOne-map (Gives globals s I t) (Gives globals s J t) (gives_moves globals s I J same t) es h

extent_moves : (globals : List Variable) (s : Substitution) (I J : List Atom) → SameSet I J → (g : Aggregate) (ts : List (List Value)) → IsExtent globals s I g ts → IsExtent globals s J g ts
extent_moves globals s I J same g ts h = record {
  once = h.once;
  given = λ t k. given_moves globals s I J same t g.elements (h.given t k);
  all_given = λ t k. h.all_given t (given_moves globals s J I (SameSet-sym I J same) t g.elements k);
}

item_moves : (globals : List Variable) (s : Substitution) (I J : List Atom) → SameSet I J → (i : Item) → ItemHolds globals s I i → ItemHolds globals s J i
item_moves globals s I J same (item.Plain l) h = literal_moves s I J same l h
item_moves globals s I J same (item.Aggregate false g) h = (h.0, extent_moves globals s I J same g h.0 h.1, h.2)
item_moves globals s I J same (item.Aggregate true g) h = (h.0, extent_moves globals s I J same g h.0 h.1, h.2)

body_moves : (r : Statement) (s : Substitution) (I J : List Atom) → SameSet I J → BodyHolds r s I → BodyHolds r s J
body_moves r s I J same h =
    Each-map (ItemHolds (global_variables r) s I) (ItemHolds (global_variables r) s J) (item_moves (global_variables r) s I J same) r.body h

pub rests_grow : (s : Substitution) (E F : List Atom) → E ⊆ F → (l : Literal) → Rests s E l → Rests s F l
rests_grow s E F more (literal.Positive p) h = (h.0, h.1, more h.0 h.2)
rests_grow s E F more (literal.Negative p) h = tt
rests_grow s E F more (literal.Compare op l r) h = tt

pub item_rests_grow : (s : Substitution) (E F : List Atom) → E ⊆ F → (i : Item) → ItemRests s E i → ItemRests s F i
item_rests_grow s E F more (item.Plain l) h = rests_grow s E F more l h
item_rests_grow s E F more (item.Aggregate denied g) h = tt

offer_moves : (globals : List Variable) (s : Substitution) (I J E F : List Atom) → SameSet I J → E ⊆ F → (a : Atom) (t : Substitution) (e : ChoiceElement)
    → Offers globals s I a t e × Each (Rests t E) e.condition → Offers globals s J a t e × Each (Rests t F) e.condition
offer_moves globals s I J E F same more a t e h = (
  (h.0.0, h.0.1, literals_move t I J same e.condition h.0.2),
  Each-map (Rests t E) (Rests t F) (rests_grow t E F more) e.condition h.1,
)

head_gives_moves : (globals : List Variable) (s : Substitution) (I J E F : List Atom) → SameSet I J → E ⊆ F → (a : Atom) (h : Head) → HeadGives globals s I E a h → HeadGives globals s J F a h
head_gives_moves globals s I J E F same more a head.Absent k = k
head_gives_moves globals s I J E F same more a (head.Single p) k = k
head_gives_moves globals s I J E F same more a (head.Choice left elements right) k = (
  k.0,
  AtLeastOne-map (λ e. Offers globals s I a k.0 e × Each (Rests k.0 E) e.condition) (λ e. Offers globals s J a k.0 e × Each (Rests k.0 F) e.condition)
      (offer_moves globals s I J E F same more a k.0) elements k.1,
)

pub licenses_move : (r : Statement) (s : Substitution) (a : Atom) (I J E F : List Atom) → SameSet I J → E ⊆ F → LicensesFrom r s a I E → LicensesFrom r s a J F
licenses_move r s a I J E F same more h = record {
  instance = h.instance;
  body = body_moves r s I J same h.body;
  head = head_gives_moves (global_variables r) s I J E F same more a r.head h.head;
  rests = Each-map (ItemRests s E) (ItemRests s F) (item_rests_grow s E F more) r.body h.rests;
}

chosen_moves : (r : Statement) (s : Substitution) (I J : List Atom) → SameSet I J → (chosen : List Atom) → AreChosen r s I chosen → AreChosen r s J chosen
chosen_moves r s I J same chosen h = record {
  once = h.once;
  sound = λ a k. let f = h.sound a k in (same.to a f.0, licenses_move r s a I J I J same same.to f.1);
  complete = λ a k l. h.complete a (same.back a k) (licenses_move r s a J I J I (SameSet-sym I J same) same.back l);
}

bound_moves : (r : Statement) (s : Substitution) (I J : List Atom) → SameSet I J → (Holds : ℤ → Option Guard → Type 0) (o : Option Guard) → BoundHolds r s I Holds o → BoundHolds r s J Holds o
bound_moves r s I J same Holds None h = tt
bound_moves r s I J same Holds (Some g) h = (h.0, chosen_moves r s I J same h.0 h.1, h.2)

head_met_moves : (r : Statement) (s : Substitution) (I J : List Atom) → SameSet I J → (h : Head) → HeadIsMet r s I h → HeadIsMet r s J h
head_met_moves r s I J same head.Absent k = k
head_met_moves r s I J same (head.Single p) k = λ a b. same.to a (k a b)
head_met_moves r s I J same (head.Choice left elements right) k =
    (bound_moves r s I J same (LeftHolds s) left k.0, bound_moves r s I J same (RightHolds s) right k.1)

closed_moves : (P Q : List Statement) (I J : List Atom) → Q ⊆ P → SameSet I J → IsClosed P I → IsClosed Q J
closed_moves P Q I J fewer same h = record {
  met = λ r k s i b. head_met_moves r s I J same r.head (h.met r (fewer r k) s i (body_moves r s J I (SameSet-sym I J same) b));
  consistent = λ a k n. h.consistent a (same.back a k) (same.back (strong_negation a) n);
}

founded_list_moves : (P Q : List Statement) (I J order : List Atom) → P ⊆ Q → SameSet I J → IsFoundedList P I order → IsFoundedList Q J order
founded_list_moves P Q I J [] more same h = tt
founded_list_moves P Q I J (a ∷ earlier) more same h =
    let found = AtLeastOne-at (λ r. (s : Substitution) × LicensesFrom r s a I earlier) P h.0 in (
      AtLeastOne-from (λ r. (s : Substitution) × LicensesFrom r s a J earlier) Q found.0 (more found.0 found.1)
          (found.2.0, licenses_move found.0 found.2.0 a I J earlier earlier same (λ x k. k) found.2.1),
      founded_list_moves P Q I J earlier more same h.1,
    )

-- ---- the laws

answer_set_moves : (P Q : List Statement) (I J : List Atom) → SameSet P Q → HasNoRepeats J → SameSet I J → IsAnswerSet P I → IsAnswerSet Q J
answer_set_moves P Q I J programs set same h = record {
  set = set;
  closed = closed_moves P Q I J programs.back same h.closed;
  founded = record {
    order = h.founded.order;
    once = h.founded.once;
    same = SameSet-trans J I h.founded.order (SameSet-sym I J same) h.founded.same;
    founded = founded_list_moves P Q I J h.founded.order programs.to same h.founded.founded;
  };
}

pub order_of_statements : OrderOfStatementsDoesNotMatter
order_of_statements P Q I same = (
  λ h. answer_set_moves P Q I I same h.set (SameSet-refl I) h,
  λ h. answer_set_moves Q P I I (SameSet-sym P Q same) h.set (SameSet-refl I) h,
)

pub order_of_atoms : OrderOfAtomsDoesNotMatter
order_of_atoms P I J set same h = answer_set_moves P P I J (SameSet-refl P) set same h
