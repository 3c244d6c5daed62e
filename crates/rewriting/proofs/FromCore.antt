-- Core answer sets of single rules are answer sets, and atoms of the program determine them.
use Rattle.std.proofs.Common.{◌≡◌, ◌⊎◌, inl, inr, refl, sym, ap, subst, ◌∙◌, Bool, true, false, List, [], ◌∷◌}
use Rattle.lists.specs.Lists.{◌∈◌, HasNoRepeats, Each}
use Rattle.lists.proofs.ListLemmas.{Each-at, AtLeastOne-from}
use Rattle.asp_meaning.specs.Terms.{Substitution}
use Rattle.asp_meaning.specs.Variables.{global_variables}
use Rattle.asp_meaning.specs.Atoms.{Atom}
use Rattle.asp_meaning.specs.Programs.{BodyHolds}
use Rattle.asp_laws.proofs.Globals.{only_global_variables_matter}
use Rattle.single_rules.specs.declared.single.SingleRule.{SingleRule}
use Rattle.single_rules.specs.SingleRules.{as_statement}
use Rattle.single_rules.specs.AnswerSets.{IsSingleInstance, IsMet, LicensesSingly, IsFoundedList, IsSingleAnswerSet}
use Rattle.search_values.specs.Instances.{Instance, IsHead, body_holds, IsFounded}
use Rattle.search_values.proofs.Basics.{bool_cases}
use Rattle.core_meaning.specs.Atoms.{GroundAtom, User}
use Rattle.core_meaning.specs.Numberings.{Numbering, no_numbers, IsNumbering}
use Rattle.core_meaning.specs.AnswerSets.{core_instance, IsCoreAnswerSet, HasUserAtoms, HasCoreSets, AreDetermined}
use Rattle.rewriting.specs.Parts.{HasNoAggregate}
use Rattle.rewriting.specs.CoreRules.{core_of}
use Rattle.rewriting.proofs.Singles.{HasItsHead, fresh, fresh-met, head_read, gives_back, makes_some, makes_instance, body_to, body_back, rests_back, met_back}
use Rattle.rewriting.proofs.Makers.{IsUser, IsMade, by_rule, by_step, made_by, made_in_core, founded_users}

-- ---- the atoms of the program in a list

-- the atom before these, where it is one of the program
abbrev with_user : GroundAtom → List Atom → List Atom
with_user (User a) atoms = a ∷ atoms
with_user _ atoms = atoms

-- the atoms of the program in the list, in order
abbrev users_of : List GroundAtom → List Atom
users_of [] = []
users_of (g ∷ gs) = with_user g (users_of gs)

-- an atom of the program that is put before others is among them
with_user-here : (a : Atom) (g : GroundAtom) (atoms : List Atom) → User a ≡ g → a ∈ with_user g atoms
with_user-here a g atoms e = subst (λ x. a ∈ with_user x atoms) e (inl refl)

-- what is there already stays there
with_user-there : (a : Atom) (g : GroundAtom) (atoms : List Atom) → a ∈ atoms → a ∈ with_user g atoms
with_user-there a (User b) atoms among = inr among
with_user-there a _ atoms among = among

-- and nothing else is there
with_user-from : (a : Atom) (g : GroundAtom) (atoms : List Atom) → a ∈ with_user g atoms → (User a ≡ g) ⊎ (a ∈ atoms)
with_user-from a (User b) atoms (inl e) = inl (ap User e)
with_user-from a (User b) atoms (inr among) = inr among
with_user-from a _ atoms among = inr among

-- each atom of the program in the list is among them
users-have : (a : Atom) (gs : List GroundAtom) → User a ∈ gs → a ∈ users_of gs
users-have a [] among = absurd among
users-have a (g ∷ gs) (inl e) = with_user-here a g (users_of gs) e
users-have a (g ∷ gs) (inr among) = with_user-there a g (users_of gs) (users-have a gs among)

-- and they are all in the list
users-from : (a : Atom) (gs : List GroundAtom) → a ∈ users_of gs → User a ∈ gs
users-from a [] among = absurd among
users-from a (g ∷ gs) among = elim (with_user-from a g (users_of gs) among) [ inl e ↦ inl e | inr more ↦ inr (users-from a gs more) ]

-- ---- founded

-- the members of a founded list are in the set
founded_in : (rules : List SingleRule) (n : Numbering) (c : GroundAtom → Bool) (order : List GroundAtom) → IsFounded (core_instance (core_of rules) n) c order
    → (g : GroundAtom) → g ∈ order → c g ≡ true
founded_in rules n c [] h g among = absurd among
founded_in rules n c (x ∷ earlier) h g (inl e) = ap c e ∙ h.2
founded_in rules n c (x ∷ earlier) h g (inr among) = founded_in rules n c earlier h.3 g among

-- in a founded list no atom of the program stands twice
founded_once : (rules : List SingleRule) (n : Numbering) (c : GroundAtom → Bool) (order : List GroundAtom) → IsFounded (core_instance (core_of rules) n) c order → HasNoRepeats (users_of order)
founded_once rules n c [] h = tt
founded_once rules n c (User a ∷ earlier) h = ((λ k. h.1 (users-from a earlier k)), founded_once rules n c earlier h.3)
founded_once rules n c (_ ∷ earlier) h = founded_once rules n c earlier h.3

-- what makes an atom of the program licenses it
licensed : (rules : List SingleRule) (I : List Atom) (c : GroundAtom → Bool) (earlier : List GroundAtom) (a : Atom) (i : Instance GroundAtom) → Each HasNoAggregate rules → HasUserAtoms c I
    → ((g : GroundAtom) → g ∈ earlier → IsUser g) → IsMade rules i → IsHead i.kind (User a) → body_holds c i ≡ true → ((p : GroundAtom) → p ∈ i.pos → p ∈ earlier)
    → (r : SingleRule) × (r ∈ rules) × LicensesSingly r a I (users_of earlier)
licensed rules I c earlier a i plain tells users (by_rule made) is holds rests =
    let r = made.rule in
    let s = made.values in
    let none = Each-at HasNoAggregate rules r plain made.among in (
      r,
      made.among,
      (
        s,
        record {
          instance = makes_instance r s i none made.makes;
          body = body_back r s i I c none tells made.makes holds;
          head = gives_back (global_variables (as_statement r)) s I (users_of earlier) r.head a (head_read s r.kind r.head i.kind made.makes.kind (User a) is);
          rests = rests_back r s i (users_of earlier) none made.makes (λ b k. users-have b earlier (rests (User b) k));
        },
        made.makes.defined,
      ),
    )
licensed rules I c earlier a i plain tells users (by_step g among other) is holds rests = absurd (other (users g (rests g among)))

-- the atoms of the program in a founded list are founded
founded_back : (rules : List SingleRule) (n : Numbering) (I : List Atom) (c : GroundAtom → Bool) (order : List GroundAtom) → Each HasNoAggregate rules → HasUserAtoms c I
    → IsFounded (core_instance (core_of rules) n) c order → IsFoundedList rules I (users_of order)
founded_back rules n I c [] plain tells h = tt
founded_back rules n I c (User a ∷ earlier) plain tells h =
    let found = licensed rules I c earlier a h.0.1 plain tells (founded_users rules n c earlier h.3) (made_by rules n h.0.0 h.0.1 h.0.2) h.0.3 h.0.4 h.0.5 in
    (AtLeastOne-from (λ r. LicensesSingly r a I (users_of earlier)) rules found.0 found.1 found.2, founded_back rules n I c earlier plain tells h.3)
founded_back rules n I c (_ ∷ earlier) plain tells h = founded_back rules n I c earlier plain tells h.3

-- ---- closed

-- a list of the atoms of a core answer set is closed
closed_back : (rules : List SingleRule) (n : Numbering) (I : List Atom) (c : GroundAtom → Bool) → Each HasItsHead rules → Each HasNoAggregate rules → HasUserAtoms c I
    → IsCoreAnswerSet (core_of rules) n c
    → (r : SingleRule) → r ∈ rules → (s : Substitution) → IsSingleInstance r s → BodyHolds (as_statement r) s I → IsMet r s I r.kind
closed_back rules n I c heads plain tells answers r among s instance body =
    let none = Each-at HasNoAggregate rules r plain among in
    let other = fresh r s instance.0 instance.1 in
    let s' = other.0 in
    let same = only_global_variables_matter (as_statement r) s s' I other.1.extends in
    let holds = same.1 body in
    let made = makes_some r s' I none (Each-at HasItsHead rules r heads among) (same.0 instance.0) other.1.defined holds in
    let i = made.0 in
    let m = made_in_core rules n r s' i among other.1.equations made.1 in
    fresh-met r s s' I other.1 r.kind
    (met_back r s' I c tells r.kind i.kind made.1.kind (answers.closed m.0 i m.1 (body_to r s' i I c none tells made.1 holds)))

-- a core answer set is an answer set
answer_set_back : (rules : List SingleRule) (n : Numbering) (I : List Atom) (c : GroundAtom → Bool) → Each HasItsHead rules → Each HasNoAggregate rules → HasNoRepeats I → HasUserAtoms c I
    → IsCoreAnswerSet (core_of rules) n c → IsSingleAnswerSet rules I
answer_set_back rules n I c heads plain once tells answers = record {
  set = once;
  closed = closed_back rules n I c heads plain tells answers;
  order = users_of answers.order;
  once = founded_once rules n c answers.order answers.founded;
  same = record {
    to = λ a k. users-have a answers.order (answers.all_there (User a) ((tells a).1 k));
    back = λ a k. (tells a).0 (founded_in rules n c answers.order answers.founded (User a) (users-from a answers.order k));
  };
  founded = founded_back rules n I c answers.order plain tells answers.founded;
}

-- to give no member a number is a numbering
nothing_numbered : (rules : List SingleRule) → IsNumbering (core_of rules) no_numbers
nothing_numbered rules = record {
  once = λ agg side key. tt;
  weighs = λ agg side key tuple among. absurd among;
  members = λ agg side key tuple among. absurd among;
  all = [];
  finite = λ agg side key tuple among. absurd among;
}

-- so what has core answer sets is an answer set
pub core_sets_back : (rules : List SingleRule) (I : List Atom) → Each HasItsHead rules → Each HasNoAggregate rules → HasNoRepeats I → HasCoreSets (core_of rules) I → IsSingleAnswerSet rules I
core_sets_back rules I heads plain once h =
    let found = h no_numbers (nothing_numbered rules) in
    answer_set_back rules found.0 I found.1 heads plain once found.4 found.3

-- ---- determined

-- no other atom is in a core answer set
no_others : (rules : List SingleRule) (n : Numbering) (c : GroundAtom → Bool) → IsCoreAnswerSet (core_of rules) n c → (g : GroundAtom) → (IsUser g → ⊥) → c g ≡ false
no_others rules n c answers g other =
    elim (bool_cases (c g)) [ inl there ↦ absurd (other (founded_users rules n c answers.order answers.founded g (answers.all_there g there))) | inr out ↦ out ]

-- core answer sets have atoms of the program alone, and so these determine them
pub users_determine : (rules : List SingleRule) → AreDetermined (core_of rules)
users_determine rules n c d of_c of_d alike (User a) = alike a
users_determine rules n c d of_c of_d alike g = no_others rules n c of_c g (λ u. u) ∙ sym (no_others rules n d of_d g (λ u. u))
