-- Each atom of an answer set is licensed, and no unfounded atom is in one.
use Rattle.std.proofs.Common.{◌≡◌, inl, inr, sym, subst, ◌∙◌, List, [], ◌∷◌}
use Rattle.std.proofs.lemmas.Option.{same_Some}
use Rattle.lists.specs.Lists.{◌∈◌, ◌⊆◌, Each, AtLeastOne}
use Rattle.lists.proofs.ListLemmas.{Each-at, Each-map, AtLeastOne-at, AtLeastOne-map}
use Rattle.asp_syntax.specs.declared.tree.Atom as syntax
use Rattle.asp_syntax.specs.declared.tree.Literal.{Literal}
use Rattle.asp_syntax.specs.declared.tree.Literal.TheVariants as literal
use Rattle.asp_syntax.specs.declared.tree.Item.{Item}
use Rattle.asp_syntax.specs.declared.tree.Item.TheVariants as item
use Rattle.asp_syntax.specs.declared.tree.Head.{Head}
use Rattle.asp_syntax.specs.declared.tree.Head.TheVariants as head
use Rattle.asp_syntax.specs.declared.tree.Statement.{Statement}
use Rattle.asp_meaning.specs.Terms.{Variable, Substitution}
use Rattle.asp_meaning.specs.Variables.{global_variables}
use Rattle.asp_meaning.specs.Atoms.{Atom, Becomes}
use Rattle.asp_meaning.specs.Bodies.{LiteralHolds, ItemHolds}
use Rattle.asp_meaning.specs.Programs.{Offers, Rests, ItemRests, HeadGives, HeadIsMet, LicensesFrom, Licenses, IsFoundedList, IsAnswerSet}
use Rattle.asp_laws.specs.Words.{HasAtomIn, IsUnfounded, IsPositiveItem, IsPlainHead, IsPositive}
use Rattle.asp_laws.specs.Laws.{EachAtomIsLicensed, UnfoundedSetsAreOut, SelfSupportIsNoFoundation, APositiveProgramHasAtMostOne}
use Rattle.asp_meaning.proofs.AtomOrder.{atom_from_parts}

-- ---- an atom becomes one atom

pub Becomes-one : (s : Substitution) (p : syntax.Atom) (a b : Atom) → Becomes s p a → Becomes s p b → a ≡ b
Becomes-one s p a b f g =
    atom_from_parts a b (f.0 ∙ sym g.0) (f.1 ∙ sym g.1) (same_Some a.args b.args (sym f.2 ∙ g.2))

-- ---- what holds in a set rests on it

rests_on_set : (s : Substitution) (I : List Atom) (l : Literal) → LiteralHolds s I l → Rests s I l
rests_on_set s I (literal.Positive p) h = h
rests_on_set s I (literal.Negative p) h = tt
rests_on_set s I (literal.Compare op l r) h = tt

pub item_rests_on_set : (globals : List Variable) (s : Substitution) (I : List Atom) (i : Item) → ItemHolds globals s I i → ItemRests s I i
item_rests_on_set globals s I (item.Plain l) h = rests_on_set s I l h
item_rests_on_set globals s I (item.Aggregate denied g) h = tt

head_on_set : (globals : List Variable) (s : Substitution) (I earlier : List Atom) (a : Atom) (h : Head) → HeadGives globals s I earlier a h → HeadGives globals s I I a h
head_on_set globals s I earlier a head.Absent k = k
head_on_set globals s I earlier a (head.Single p) k = k
head_on_set globals s I earlier a (head.Choice left elements right) k = (
  k.0,
  AtLeastOne-map (λ e. Offers globals s I a k.0 e × Each (Rests k.0 earlier) e.condition) (λ e. Offers globals s I a k.0 e × Each (Rests k.0 I) e.condition)
      (λ e o. (o.0, Each-map (LiteralHolds k.0 I) (Rests k.0 I) (rests_on_set k.0 I) e.condition o.0.2)) elements k.1,
)

pub licenses-from_earlier : (r : Statement) (s : Substitution) (a : Atom) (I earlier : List Atom) → LicensesFrom r s a I earlier → Licenses r s a I
licenses-from_earlier r s a I earlier h = record {
  instance = h.instance;
  body = h.body;
  head = head_on_set (global_variables r) s I earlier a r.head h.head;
  rests = Each-map (ItemHolds (global_variables r) s I) (ItemRests s I) (item_rests_on_set (global_variables r) s I) r.body h.body;
}

-- ---- each atom is licensed

listed_is_licensed : (P : List Statement) (I order : List Atom) → IsFoundedList P I order → (a : Atom) → a ∈ order → AtLeastOne (λ r. (s : Substitution) × Licenses r s a I) P
listed_is_licensed P I [] h a among = absurd among
listed_is_licensed P I (b ∷ earlier) h a (inr among) = listed_is_licensed P I earlier h.1 a among
listed_is_licensed P I (b ∷ earlier) h a (inl e) =
    let ByOne : Atom → Type 0 = λ x. AtLeastOne (λ r. (s : Substitution) × Licenses r s x I) P in
    subst ByOne (sym e)
    (AtLeastOne-map (λ r. (s : Substitution) × LicensesFrom r s b I earlier) (λ r. (s : Substitution) × Licenses r s b I)
    (λ r k. (k.0, licenses-from_earlier r k.0 b I earlier k.1)) P h.0)

pub each_atom_is_licensed : EachAtomIsLicensed
each_atom_is_licensed P I h a among = listed_is_licensed P I h.founded.order h.founded.founded a (h.founded.same.to a among)

-- ---- unfounded sets

none_unfounded : (P : List Statement) (I U order : List Atom) → IsUnfounded P I U → IsFoundedList P I order → Each (λ b. ¬ (b ∈ U)) order
none_unfounded P I U [] unfounded h = tt
none_unfounded P I U (a ∷ earlier) unfounded h =
    let rest = none_unfounded P I U earlier unfounded h.1 in
    let found = AtLeastOne-at (λ r. (s : Substitution) × LicensesFrom r s a I earlier) P h.0 in
    ((λ k. unfounded found.0 found.1 found.2.0 a k earlier found.2.1 rest), rest)

pub unfounded_sets_are_out : UnfoundedSetsAreOut
unfounded_sets_are_out P I U unfounded h a out among =
    Each-at (λ b. ¬ (b ∈ U)) h.founded.order a (none_unfounded P I U h.founded.order unfounded h.founded.founded) (h.founded.same.to a among) out

-- an item that rests on earlier atoms has no atom outside them
not_both : (s : Substitution) (U earlier : List Atom) (i : Item) → HasAtomIn s U i → ItemRests s earlier i → Each (λ b. ¬ (b ∈ U)) earlier → ⊥
not_both s U earlier (item.Plain (literal.Positive p)) has rests none =
    Each-at (λ b. ¬ (b ∈ U)) earlier rests.0 none rests.2 (subst (λ x. x ∈ U) (Becomes-one s p has.0 rests.0 has.1 rests.1) has.2)
not_both s U earlier (item.Plain (literal.Negative p)) has rests none = has
not_both s U earlier (item.Plain (literal.Compare op l r)) has rests none = has
not_both s U earlier (item.Aggregate denied g) has rests none = has

pub self_support_is_no_foundation : SelfSupportIsNoFoundation
self_support_is_no_foundation P I U rests = unfounded_sets_are_out P I U (λ r k s a u earlier l none.
    let found = AtLeastOne-at (HasAtomIn s U) r.body (rests r k s a u (licenses-from_earlier r s a I earlier l)) in
    not_both s U earlier found.0 found.2 (Each-at (ItemRests s earlier) r.body found.0 l.rests found.1) none)

-- ---- positive programs

item_in_other : (globals : List Variable) (s : Substitution) (I J earlier : List Atom) → earlier ⊆ J → (i : Item) → IsPositiveItem i → ItemHolds globals s I i → ItemRests s earlier i
    → ItemHolds globals s J i
item_in_other globals s I J earlier more (item.Plain (literal.Positive p)) positive holds rests = (rests.0, rests.1, more rests.0 rests.2)
item_in_other globals s I J earlier more (item.Plain (literal.Negative p)) positive holds rests = absurd positive
item_in_other globals s I J earlier more (item.Plain (literal.Compare op l r)) positive holds rests = holds
item_in_other globals s I J earlier more (item.Aggregate denied g) positive holds rests = absurd positive

body_in_other : (globals : List Variable) (s : Substitution) (I J earlier : List Atom) → earlier ⊆ J → (is : List Item) → Each IsPositiveItem is → Each (ItemHolds globals s I) is
    → Each (ItemRests s earlier) is → Each (ItemHolds globals s J) is
body_in_other globals s I J earlier more [] positive holds rests = tt
body_in_other globals s I J earlier more (i ∷ is) positive holds rests =
    (item_in_other globals s I J earlier more i positive.0 holds.0 rests.0, body_in_other globals s I J earlier more is positive.1 holds.1 rests.1)

head_in_other : (r : Statement) (s : Substitution) (I J earlier : List Atom) (a : Atom) (h : Head) → IsPlainHead h → HeadGives (global_variables r) s I earlier a h → HeadIsMet r s J h → a ∈ J
head_in_other r s I J earlier a head.Absent plain gives met = absurd gives
head_in_other r s I J earlier a (head.Single p) plain gives met = met a gives
head_in_other r s I J earlier a (head.Choice left elements right) plain gives met = absurd plain

listed_in_other : (P : List Statement) (I J order : List Atom) → Each IsPositive P → IsAnswerSet P J → IsFoundedList P I order → order ⊆ J
listed_in_other P I J [] positive other h a among = absurd among
listed_in_other P I J (b ∷ earlier) positive other h a (inr among) = listed_in_other P I J earlier positive other h.1 a among
listed_in_other P I J (b ∷ earlier) positive other h a (inl e) =
    let found = AtLeastOne-at (λ r. (s : Substitution) × LicensesFrom r s b I earlier) P h.0 in
    let r = found.0 in
    let s = found.2.0 in
    let l = found.2.1 in
    let plain = Each-at IsPositive P r positive found.1 in
    let body = body_in_other (global_variables r) s I J earlier (listed_in_other P I J earlier positive other h.1) r.body plain.body l.body l.rests in
    subst (λ x. x ∈ J) (sym e) (head_in_other r s I J earlier b r.head plain.head l.head (other.closed.met r found.1 s l.instance body))

pub a_positive_program_has_at_most_one : APositiveProgramHasAtMostOne
a_positive_program_has_at_most_one P I J positive h k = record {
  to = λ a among. listed_in_other P I J h.founded.order positive k h.founded.founded a (h.founded.same.to a among);
  back = λ a among. listed_in_other P J I k.founded.order positive h k.founded.founded a (k.founded.same.to a among);
}
