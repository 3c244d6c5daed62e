-- Answer sets are those of the reduct.
use Rattle.std.proofs.Common.{◌⊎◌, inl, inr, refl, sym, subst, List, [], ◌∷◌}
use Rattle.lists.specs.Lists.{◌∈◌, ◌⊆◌, HasNoRepeats, Each}
use Rattle.lists.proofs.ListLemmas.{Each-at, Each-from, Each-map, AtLeastOne-at, AtLeastOne-from, AtLeastOne-map}
use Rattle.asp_syntax.specs.declared.tree.Literal.{Literal}
use Rattle.asp_syntax.specs.declared.tree.Literal.TheVariants as literal
use Rattle.asp_syntax.specs.declared.tree.Item.{Item}
use Rattle.asp_syntax.specs.declared.tree.Item.TheVariants as item
use Rattle.asp_syntax.specs.declared.tree.Head.{Head}
use Rattle.asp_syntax.specs.declared.tree.Head.TheVariants as head
use Rattle.asp_syntax.specs.declared.tree.Statement.{Statement}
use Rattle.asp_meaning.specs.Terms.{Variable, Substitution}
use Rattle.asp_meaning.specs.Variables.{global_variables}
use Rattle.asp_meaning.specs.Atoms.{Atom, Becomes}
use Rattle.asp_meaning.specs.Bodies.{LiteralHolds, ItemHolds, Extends}
use Rattle.asp_meaning.specs.Programs.{IsInstance, BodyHolds, Offers, Rests, ItemRests, HeadGives, HeadIsMet, LicensesFrom, IsClosed, IsFoundedList, IsAnswerSet}
use Rattle.asp_laws.specs.Reduct.{LiteralIsKept, ItemIsKept, HeadIsKept, Follows, by, HeadIsAllowed, IsStable, IsClosedUnderReduct}
use Rattle.asp_laws.specs.Words.{IsPlainHead, IsNormalItem, IsNormal}
use Rattle.asp_laws.specs.Laws.{AnswerSetsAreThoseOfTheReduct, AnAnswerSetIsLeastUnderItsReduct, AnAnswerSetIsClosedUnderItsReduct, NoAnswerSetLiesInAnother}
use Rattle.asp_laws.proofs.Foundations.{item_rests_on_set}
use Rattle.asp_laws.proofs.Moves.{rests_grow, item_rests_grow}
use Rattle.asp_meaning.proofs.AtomOrder.{same_atom}

-- ---- what holds is what is kept and what it rests on

literal_kept : (s : Substitution) (I : List Atom) (l : Literal) → LiteralHolds s I l → LiteralIsKept s I l
literal_kept s I (literal.Positive p) h = tt
literal_kept s I (literal.Negative p) h = h
literal_kept s I (literal.Compare op l r) h = h

literal_holds : (s : Substitution) (I given : List Atom) → given ⊆ I → (l : Literal) → LiteralIsKept s I l → Rests s given l → LiteralHolds s I l
literal_holds s I given more (literal.Positive p) kept rests = (rests.0, rests.1, more rests.0 rests.2)
literal_holds s I given more (literal.Negative p) kept rests = kept
literal_holds s I given more (literal.Compare op l r) kept rests = kept

literals_hold : (s : Substitution) (I given : List Atom) → given ⊆ I → (ls : List Literal) → Each (LiteralIsKept s I) ls → Each (Rests s given) ls → Each (LiteralHolds s I) ls
literals_hold s I given more [] kept rests = tt
literals_hold s I given more (l ∷ ls) kept rests = (literal_holds s I given more l kept.0 rests.0, literals_hold s I given more ls kept.1 rests.1)

item_kept : (globals : List Variable) (s : Substitution) (I : List Atom) (i : Item) → ItemHolds globals s I i → ItemIsKept globals s I i
item_kept globals s I (item.Plain l) h = literal_kept s I l h
item_kept globals s I (item.Aggregate denied g) h = h

item_holds : (globals : List Variable) (s : Substitution) (I given : List Atom) → given ⊆ I → (i : Item) → ItemIsKept globals s I i → ItemRests s given i → ItemHolds globals s I i
item_holds globals s I given more (item.Plain l) kept rests = literal_holds s I given more l kept rests
item_holds globals s I given more (item.Aggregate denied g) kept rests = kept

items_hold : (globals : List Variable) (s : Substitution) (I given : List Atom) → given ⊆ I → (is : List Item) → Each (ItemIsKept globals s I) is → Each (ItemRests s given) is
    → Each (ItemHolds globals s I) is
items_hold globals s I given more [] kept rests = tt
items_hold globals s I given more (i ∷ is) kept rests = (item_holds globals s I given more i kept.0 rests.0, items_hold globals s I given more is kept.1 rests.1)

body_kept : (r : Statement) (s : Substitution) (I : List Atom) → BodyHolds r s I → Each (ItemIsKept (global_variables r) s I) r.body
body_kept r s I h = Each-map (ItemHolds (global_variables r) s I) (ItemIsKept (global_variables r) s I) (item_kept (global_variables r) s I) r.body h

head_kept : (globals : List Variable) (s : Substitution) (I given : List Atom) (a : Atom) → a ∈ I → (h : Head) → HeadGives globals s I given a h → HeadIsKept globals s I given a h
head_kept globals s I given a among head.Absent k = k
head_kept globals s I given a among (head.Single p) k = k
head_kept globals s I given a among (head.Choice left elements right) k = (
  k.0,
  among,
  AtLeastOne-map (λ e. Offers globals s I a k.0 e × Each (Rests k.0 given) e.condition)
      (λ e. Extends globals s k.0 × Becomes k.0 e.atom a × Each (LiteralIsKept k.0 I) e.condition × Each (Rests k.0 given) e.condition)
      (λ e o. (o.0.0, o.0.1, Each-map (LiteralHolds k.0 I) (LiteralIsKept k.0 I) (literal_kept k.0 I) e.condition o.0.2, o.1)) elements k.1,
)

head_gives : (globals : List Variable) (s : Substitution) (I given order : List Atom) (a : Atom) → given ⊆ I → given ⊆ order → (h : Head) → HeadIsKept globals s I given a h
    → HeadGives globals s I order a h
head_gives globals s I given order a more further head.Absent k = k
head_gives globals s I given order a more further (head.Single p) k = k
head_gives globals s I given order a more further (head.Choice left elements right) k = (
  k.0,
  AtLeastOne-map (λ e. Extends globals s k.0 × Becomes k.0 e.atom a × Each (LiteralIsKept k.0 I) e.condition × Each (Rests k.0 given) e.condition)
      (λ e. Offers globals s I a k.0 e × Each (Rests k.0 order) e.condition)
      (λ e o. ((o.0, o.1, literals_hold k.0 I given more e.condition o.2 o.3), Each-map (Rests k.0 given) (Rests k.0 order) (rests_grow k.0 given order further) e.condition o.3))
      elements k.2,
)

-- ---- an answer set is stable

listed_follows : (P : List Statement) (I order : List Atom) → order ⊆ I → IsFoundedList P I order → (a : Atom) → a ∈ order → Follows P I a
listed_follows P I [] within h a among = absurd among
listed_follows P I (b ∷ earlier) within h a (inr among) = listed_follows P I earlier (λ x k. within x (inr k)) h.1 a among
listed_follows P I (b ∷ earlier) within h a (inl e) =
    let found = AtLeastOne-at (λ r. (s : Substitution) × LicensesFrom r s b I earlier) P h.0 in
    let r = found.0 in
    let s = found.2.0 in
    let l = found.2.1 in
    subst (Follows P I) (sym e)
    (by r found.1 s l.instance earlier (listed_follows P I earlier (λ x k. within x (inr k)) h.1) (body_kept r s I l.body) l.rests
    (head_kept (global_variables r) s I earlier b (within b (inl refl)) r.head l.head))

met_by_kept : (r : Statement) (s : Substitution) (I given : List Atom) (a : Atom) (h : Head) → HeadIsKept (global_variables r) s I given a h → HeadIsMet r s I h → a ∈ I
met_by_kept r s I given a head.Absent kept met = absurd kept
met_by_kept r s I given a (head.Single p) kept met = met a kept
met_by_kept r s I given a (head.Choice left elements right) kept met = kept.1

in_closed : (P : List Statement) (I : List Atom) → IsClosed P I → (a : Atom) → Follows P I a → a ∈ I
in_closed P I closed a (by r among s i given follow kept rests gives) =
    met_by_kept r s I given a r.head gives
    (closed.met r among s i (items_hold (global_variables r) s I given (λ b k. in_closed P I closed b (follow b k)) r.body kept rests))

allowed_by_met : (r : Statement) (s : Substitution) (I : List Atom) (h : Head) → HeadIsMet r s I h → HeadIsAllowed r s I h
allowed_by_met r s I head.Absent k = k
allowed_by_met r s I (head.Single p) k = tt
allowed_by_met r s I (head.Choice left elements right) k = k

stable : (P : List Statement) (I : List Atom) → IsAnswerSet P I → IsStable P I
stable P I h = record {
  set = h.set;
  follows = λ a k. listed_follows P I h.founded.order h.founded.same.back h.founded.founded a (h.founded.same.to a k);
  no_more = in_closed P I h.closed;
  allowed = λ r k s i b. allowed_by_met r s I r.head (h.closed.met r k s i b);
  consistent = h.closed.consistent;
}

-- ---- a stable set is an answer set

met_by_allowed : (r : Statement) (s : Substitution) (I : List Atom) (h : Head) → HeadIsAllowed r s I h → ((a : Atom) → HeadIsKept (global_variables r) s I I a h → a ∈ I) → HeadIsMet r s I h
met_by_allowed r s I head.Absent allowed all = allowed
met_by_allowed r s I (head.Single p) allowed all = λ a b. all a b
met_by_allowed r s I (head.Choice left elements right) allowed all = allowed

pub in_or_out : (a : Atom) (xs : List Atom) → (a ∈ xs) ⊎ (¬ (a ∈ xs))
in_or_out a [] = inr (λ k. k)
in_or_out a (x ∷ xs) = elim (same_atom a x) [
  | inl e ↦ inl (inl e)
  | inr other ↦ elim (in_or_out a xs) [ inl k ↦ inl (inr k) | inr out ↦ inr (λ k. elim k [ inl e ↦ other e | inr j ↦ out j ]) ]
]

-- a founded list in the set
record IsBegun (P : List Statement) (I order : List Atom) : Type 0 where
  once : HasNoRepeats order
  within : order ⊆ I
  founded : IsFoundedList P I order

-- one that goes on from another, and has these too
record Grown (P : List Statement) (I order wanted : List Atom) : Type 0 where
  list : List Atom
  begun : IsBegun P I list
  keeps : order ⊆ list
  has : wanted ⊆ list

only : (a : Atom) (xs : List Atom) → a ∈ xs → (a ∷ []) ⊆ xs
only a xs k x (inl e) = subst (λ y. y ∈ xs) (sym e) k
only a xs k x (inr j) = absurd j

add_all : (P : List Statement) (I wanted : List Atom) → ((a : Atom) → a ∈ wanted → (order : List Atom) → IsBegun P I order → Grown P I order (a ∷ []))
    → (order : List Atom) → IsBegun P I order → Grown P I order wanted
add_all P I [] add order begun = record { list = order; begun = begun; keeps = λ x k. k; has = λ x k. absurd k }
add_all P I (a ∷ wanted) add order begun =
    let one = add a (inl refl) order begun in
    let rest = add_all P I wanted (λ b k. add b (inr k)) one.list one.begun in
    record {
      list = rest.list;
      begun = rest.begun;
      keeps = λ x k. rest.keeps x (one.keeps x k);
      has = λ x k. elim k [ inl e ↦ subst (λ y. y ∈ rest.list) (sym e) (rest.keeps a (one.has a (inl refl))) | inr j ↦ rest.has x j ];
    }

put_first : (P : List Statement) (I given order : List Atom) (a : Atom) → a ∈ I → given ⊆ I → (r : Statement) → r ∈ P → (s : Substitution) → IsInstance r s
    → Each (ItemIsKept (global_variables r) s I) r.body → Each (ItemRests s given) r.body → HeadIsKept (global_variables r) s I given a r.head
    → (below : Grown P I order given) → Grown P I order (a ∷ [])
put_first P I given order a among more r program s i kept rests gives below = go (in_or_out a below.list)
  where
    go : (a ∈ below.list) ⊎ (¬ (a ∈ below.list)) → Grown P I order (a ∷ [])
    go (inl k) = record { list = below.list; begun = below.begun; keeps = below.keeps; has = only a below.list k }
    go (inr out) = record {
      list = a ∷ below.list;
      begun = record {
        once = (out, below.begun.once);
        within = λ x k. elim k [ inl e ↦ subst (λ y. y ∈ I) (sym e) among | inr j ↦ below.begun.within x j ];
        founded = (
          AtLeastOne-from (λ r. (s : Substitution) × LicensesFrom r s a I below.list) P r program (
            s,
            record {
              instance = i;
              body = items_hold (global_variables r) s I given more r.body kept rests;
              head = head_gives (global_variables r) s I given below.list a more below.has r.head gives;
              rests = Each-map (ItemRests s given) (ItemRests s below.list) (item_rests_grow s given below.list below.has) r.body rests;
            },
          ),
          below.begun.founded,
        );
      };
      keeps = λ x k. inr (below.keeps x k);
      has = only a (a ∷ below.list) (inl refl);
    }

add_one : (P : List Statement) (I : List Atom) → ((a : Atom) → Follows P I a → a ∈ I) → (a : Atom) → Follows P I a → (order : List Atom) → IsBegun P I order → Grown P I order (a ∷ [])
add_one P I no_more a (by r among s i given follow kept rests gives) order begun =
    put_first P I given order a (no_more a (by r among s i given follow kept rests gives)) (λ b k. no_more b (follow b k)) r among s i kept rests gives
    (add_all P I given (λ b k. add_one P I no_more b (follow b k)) order begun)

answer_set : (P : List Statement) (I : List Atom) → IsStable P I → IsAnswerSet P I
answer_set P I h =
    let grown = add_all P I I (λ a k. add_one P I h.no_more a (h.follows a k)) [] (record { once = tt; within = λ x k. absurd k; founded = tt }) in
    record {
      set = h.set;
      closed = record {
        met = λ r k s i b. met_by_allowed r s I r.head (h.allowed r k s i b) (λ a gives. h.no_more a
            (by r k s i I h.follows (body_kept r s I b)
            (Each-map (ItemHolds (global_variables r) s I) (ItemRests s I) (item_rests_on_set (global_variables r) s I) r.body b) gives));
        consistent = h.consistent;
      };
      founded = record { order = grown.list; once = grown.begun.once; same = record { to = grown.has; back = grown.begun.within }; founded = grown.begun.founded };
    }

pub answer_sets_are_stable : AnswerSetsAreThoseOfTheReduct
answer_sets_are_stable P I = (stable P I, answer_set P I)

-- ---- the least set

head_kept_grows : (globals : List Variable) (s : Substitution) (I given J : List Atom) (a : Atom) → given ⊆ J → (h : Head) → HeadIsKept globals s I given a h → HeadIsKept globals s I J a h
head_kept_grows globals s I given J a more head.Absent k = k
head_kept_grows globals s I given J a more (head.Single p) k = k
head_kept_grows globals s I given J a more (head.Choice left elements right) k = (
  k.0,
  k.1,
  AtLeastOne-map (λ e. Extends globals s k.0 × Becomes k.0 e.atom a × Each (LiteralIsKept k.0 I) e.condition × Each (Rests k.0 given) e.condition)
      (λ e. Extends globals s k.0 × Becomes k.0 e.atom a × Each (LiteralIsKept k.0 I) e.condition × Each (Rests k.0 J) e.condition)
      (λ e o. (o.0, o.1, o.2, Each-map (Rests k.0 given) (Rests k.0 J) (rests_grow k.0 given J more) e.condition o.3)) elements k.2,
)

follows_within : (P : List Statement) (I J : List Atom) → IsClosedUnderReduct P I J → (a : Atom) → Follows P I a → a ∈ J
follows_within P I J closed a (by r among s i given follow kept rests gives) =
    let more : given ⊆ J = λ b k. follows_within P I J closed b (follow b k) in
    closed r among s i a kept (Each-map (ItemRests s given) (ItemRests s J) (item_rests_grow s given J more) r.body rests)
    (head_kept_grows (global_variables r) s I given J a more r.head gives)

pub least_under_reduct : AnAnswerSetIsLeastUnderItsReduct
least_under_reduct P I J h closed a k = follows_within P I J closed a ((stable P I h).follows a k)

pub closed_under_reduct : AnAnswerSetIsClosedUnderItsReduct
closed_under_reduct P I h r among s i a kept rests gives = (stable P I h).no_more a (by r among s i I (stable P I h).follows kept rests gives)

-- ---- normal programs

kept_in_smaller : (globals : List Variable) (s : Substitution) (I J : List Atom) → I ⊆ J → (i : Item) → IsNormalItem i → ItemIsKept globals s J i → ItemIsKept globals s I i
kept_in_smaller globals s I J more (item.Plain (literal.Positive p)) normal k = tt
kept_in_smaller globals s I J more (item.Plain (literal.Negative p)) normal k = (k.0, k.1, λ among. k.2 (more k.0 among))
kept_in_smaller globals s I J more (item.Plain (literal.Compare op l r)) normal k = k
kept_in_smaller globals s I J more (item.Aggregate denied g) normal k = absurd normal

plain_kept : (globals : List Variable) (s : Substitution) (I J given : List Atom) (a : Atom) (h : Head) → IsPlainHead h → HeadIsKept globals s J given a h → HeadIsKept globals s I given a h
plain_kept globals s I J given a head.Absent plain k = k
plain_kept globals s I J given a (head.Single p) plain k = k
plain_kept globals s I J given a (head.Choice left elements right) plain k = absurd plain

pub no_answer_set_lies_in_another : NoAnswerSetLiesInAnother
no_answer_set_lies_in_another P I J normal h k more = record {
  to = more;
  back = least_under_reduct P J I k (λ r among s i a kept rests gives.
      let n = Each-at IsNormal P r normal among in
      let globals = global_variables r in
      closed_under_reduct P I h r among s i a
      (Each-from (ItemIsKept globals s I) r.body (λ x j. kept_in_smaller globals s I J more x (Each-at IsNormalItem r.body x n.body j) (Each-at (ItemIsKept globals s J) r.body x kept j)))
      rests (plain_kept globals s I J I a r.head n.head gives));
}
