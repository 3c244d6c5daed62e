-- Answer sets of single rules are core answer sets.
use Rattle.std.proofs.Common.{◌≡◌, inl, inr, refl, sym, ap, subst, ◌∙◌, Bool, true, false, ◌||◌, List, [], ◌∷◌, map, append-nil, true≢false}
use Rattle.std.specs.Ordering.{is_eq}
use Rattle.std.specs.Cmp.{Equal-is, tied_itself}
use Rattle.lists.specs.Lists.{◌∈◌, ◌⊆◌, HasNoRepeats, Each}
use Rattle.lists.proofs.ListLemmas.{Each-at, AtLeastOne-at, ∈-map, ∈-map_from}
use Rattle.asp_meaning.specs.Variables.{global_variables}
use Rattle.asp_meaning.specs.Atoms.{Atom}
use Rattle.asp_meaning.specs.Lines.{atom_cmp}
use Rattle.asp_meaning.proofs.AtomOrder.{atom_cmp_total, atom_same}
use Rattle.asp_laws.proofs.Globals.{only_global_variables_matter}
use Rattle.single_rules.specs.declared.single.SingleRule.{SingleRule}
use Rattle.single_rules.specs.SingleRules.{as_statement}
use Rattle.single_rules.specs.AnswerSets.{LicensesSingly, IsFoundedList, IsSingleAnswerSet}
use Rattle.search_values.specs.Instances.{Instance, body_holds, KindHolds, IsFounded}
use Rattle.search_values.proofs.Basics.{or_cases, or_left, or_right, body_parts}
use Rattle.core_meaning.specs.Atoms.{GroundAtom, User}
use Rattle.core_meaning.specs.Numberings.{Numbering, IsNumbering}
use Rattle.core_meaning.specs.AnswerSets.{core_instance, IsCoreAnswerSet, HasUserAtoms, HasCoreSets}
use Rattle.rewriting.specs.Parts.{HasNoAggregate}
use Rattle.rewriting.specs.CoreRules.{core_of}
use Rattle.rewriting.proofs.Singles.{HasItsHead, fresh, gives_to, makes_some, makes_instance, body_to, body_back, rests_to, met_to, user_same}
use Rattle.rewriting.proofs.Makers.{IsUser, IsMade, by_rule, by_step, made_by, made_in_core}

-- ---- the test for members

-- whether the atoms are the same
abbrev equal_atoms : Atom → Atom → Bool
equal_atoms a b = is_eq (atom_cmp a b)

-- an atom is equal to itself
equal_itself : (a : Atom) → equal_atoms a a ≡ true
equal_itself a = ap is_eq (tied_itself atom_cmp_total a)

-- and to no other
equal_is_same : (a b : Atom) → equal_atoms a b ≡ true → a ≡ b
equal_is_same a b same = atom_same a b ((Equal-is (atom_cmp a b)).0 same)

-- whether the atom is in the list
abbrev has : List Atom → Atom → Bool
has [] a = false
has (b ∷ atoms) a = equal_atoms b a || has atoms a

-- a member passes the test
has_member : (I : List Atom) (a : Atom) → a ∈ I → has I a ≡ true
has_member [] a among = absurd among
has_member (b ∷ I) a (inl e) = or_left (equal_atoms b a) (has I a) (ap (equal_atoms b) e ∙ equal_itself b)
has_member (b ∷ I) a (inr among) = or_right (equal_atoms b a) (has I a) (has_member I a among)

-- and what passes it is a member
member_had : (I : List Atom) (a : Atom) → has I a ≡ true → a ∈ I
member_had [] a h = absurd (true≢false (sym h))
member_had (b ∷ I) a h = elim (or_cases (equal_atoms b a) (has I a) h) [ inl e ↦ inl (sym (equal_is_same b a e)) | inr more ↦ inr (member_had I a more) ]

-- the set of the list's atoms
abbrev pub set_of : List Atom → GroundAtom → Bool
set_of I (User a) = has I a
set_of I _ = false

-- it has just these atoms of the program
pub set_tells : (I : List Atom) → HasUserAtoms (set_of I) I
set_tells I a = (member_had I a, has_member I a)

-- its members are the list's atoms
set_users : (I : List Atom) (g : GroundAtom) → set_of I g ≡ true → (a : Atom) × (g ≡ User a) × (a ∈ I)
set_users I (User a) h = (a, refl, member_had I a h)
set_users I _ h = absurd (true≢false (sym h))

-- so none of it is no atom of the program
set_no_other : (I : List Atom) (g : GroundAtom) → set_of I g ≡ true → IsUser g
set_no_other I g h = let found = set_users I g h in subst IsUser (sym found.1) tt

-- ---- the parts of a core answer set

-- what has to follow where the body of an instance holds is in the set
closed_at : (rules : List SingleRule) (I : List Atom) (i : Instance GroundAtom) → Each HasNoAggregate rules → IsSingleAnswerSet rules I → IsMade rules i
    → body_holds (set_of I) i ≡ true → KindHolds (set_of I) i.kind
closed_at rules I i plain answers (by_rule made) holds =
    let none = Each-at HasNoAggregate rules made.rule plain made.among in
    met_to made.rule made.values I (set_of I) (set_tells I) made.rule.kind i.kind made.makes.kind
    (answers.closed made.rule made.among made.values (makes_instance made.rule made.values i none made.makes, made.makes.defined)
    (body_back made.rule made.values i I (set_of I) none (set_tells I) made.makes holds))
closed_at rules I i plain answers (by_step g among other) holds = absurd (other (set_no_other I g ((body_parts (set_of I) i holds).pos g among)))

-- what is among atoms of the program as a core atom is among them
in_users : (order : List Atom) (a : Atom) → User a ∈ map User order → a ∈ order
in_users order a among = let found = ∈-map_from User (User a) order among in subst (λ b. b ∈ order) (sym (user_same a found.0 found.2)) found.1

-- a founded list is founded as a list of core atoms
founded_to : (rules : List SingleRule) (n : Numbering) (I order : List Atom) → Each HasItsHead rules → Each HasNoAggregate rules → HasNoRepeats order → order ⊆ I → IsFoundedList rules I order
    → IsFounded (core_instance (core_of rules) n) (set_of I) (map User order)
founded_to rules n I [] heads plain once within h = tt
founded_to rules n I (a ∷ earlier) heads plain once within h =
    let found = AtLeastOne-at (λ r. LicensesSingly r a I earlier) rules h.0 in
    let r = found.0 in
    let licensed = found.2.1 in
    let none = Each-at HasNoAggregate rules r plain found.1 in
    let other = fresh r found.2.0 licensed.instance found.2.2 in
    let s = other.0 in
    let l = (only_global_variables_matter (as_statement r) found.2.0 s I other.1.extends).3 a earlier licensed in
    let made = makes_some r s I none (Each-at HasItsHead rules r heads found.1) l.instance other.1.defined l.body in
    let i = made.0 in
    let m = made_in_core rules n r s i found.1 other.1.equations made.1 in (
      (
        m.0,
        i,
        m.1,
        gives_to (global_variables (as_statement r)) s I earlier r.kind r.head i.kind made.1.kind a l.head,
        body_to r s i I (set_of I) none (set_tells I) made.1 l.body,
        rests_to r s i earlier none made.1 l.rests,
      ),
      (λ k. once.0 (in_users earlier a k)),
      has_member I a (within a (inl refl)),
      founded_to rules n I earlier heads plain once.1 (λ x k. within x (inr k)) h.1,
    )

-- an answer set is a core answer set under each numbering
pub answer_set_to : (rules : List SingleRule) (I : List Atom) → Each HasItsHead rules → Each HasNoAggregate rules → IsSingleAnswerSet rules I
    → (n : Numbering) → IsNumbering (core_of rules) n → IsCoreAnswerSet (core_of rules) n (set_of I)
answer_set_to rules I heads plain answers n numbering = record {
  numbering = numbering;
  closed = λ m i e holds. closed_at rules I i plain answers (made_by rules n m i e) holds;
  order = map User answers.order;
  all_there = λ g h. let found = set_users I g h in subst (λ x. x ∈ map User answers.order) (sym found.1) (∈-map User found.0 answers.order (answers.same.to found.0 found.2));
  founded = founded_to rules n I answers.order heads plain answers.once answers.same.back answers.founded;
  numbered = λ agg side key tuple h. absurd (true≢false (sym h));
}

-- for every numbering there is a core answer set with just these atoms under that numbering itself
pub core_sets_to : (rules : List SingleRule) (I : List Atom) → Each HasItsHead rules → Each HasNoAggregate rules → IsSingleAnswerSet rules I → HasCoreSets (core_of rules) I
core_sets_to rules I heads plain answers n numbering = (
  n,
  set_of I,
  (λ agg side key. ([], sym (append-nil (n agg side key)), λ tuple among. absurd among)),
  answer_set_to rules I heads plain answers n numbering,
  set_tells I,
)
