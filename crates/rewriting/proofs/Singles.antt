-- Single rules beside what they make: their instances, bodies and heads.
use Rattle.std.proofs.Common.{◌≡◌, ◌↔◌, inl, inr, refl, sym, ap, subst, ◌∙◌, Bool, true, List, ◌++◌, map, Option, Some, None, true≢false}
use Rattle.alpha_outside.specs.declared.kinds.RuleKind.{RuleKind}
use Rattle.alpha_outside.specs.declared.kinds.RuleKind.TheVariants as rule
use Rattle.lists.specs.Lists.{◌∈◌, Each, concat}
use Rattle.lists.proofs.ListLemmas.{Each-at, Each-from, Each-map, Each-append, ∈-append_left, ∈-append_right, ∈-map}
use Rattle.asp_syntax.specs.declared.tree.Atom as syntax
use Rattle.asp_syntax.specs.declared.tree.Statement.{Statement}
use Rattle.asp_meaning.specs.Terms.{Variable, Substitution}
use Rattle.asp_meaning.specs.Variables.{variables, item_terms, head_terms, global_terms, global_variables}
use Rattle.asp_meaning.specs.Atoms.{Atom, Becomes}
use Rattle.asp_meaning.specs.Bodies.{Extends}
use Rattle.asp_meaning.specs.Programs.{HasValue, IsInstance, BodyHolds, ItemRests, HeadGives, HeadIsMet}
use Rattle.asp_laws.proofs.Globals.{eval_same, only_global_variables_matter}
use Rattle.asp_safety.specs.Binding.{variables_of}
use Rattle.single_rules.specs.declared.single.SingleRule.{SingleRule}
use Rattle.single_rules.specs.SingleRules.{head_of, as_statement}
use Rattle.single_rules.specs.AnswerSets.{IsMet}
use Rattle.search_values.specs.Instances.{Kind, Plain, Choice, Constraint, Instance, body_holds, IsHead, KindHolds}
use Rattle.search_values.proofs.Basics.{bool_cases, body_parts, body_from}
use Rattle.core_meaning.specs.Atoms.{GroundAtom, User}
use Rattle.core_meaning.specs.Instances.{kind_with}
use Rattle.core_meaning.specs.AnswerSets.{HasUserAtoms}
use Rattle.rewriting.specs.Parts.{HasNoAggregate, positives, negatives}
use Rattle.rewriting.specs.Lifting.{free_in}
use Rattle.rewriting.proofs.LiftLemmas.{Holds}
use Rattle.rewriting.proofs.Extending.{below-free_above, in_each, extension}
use Rattle.rewriting.proofs.Grounding.{atom_of, atom_of-made, atom_of-read, terms-have, becomes-some, atoms_from, atoms_to, atoms_exist}
use Rattle.rewriting.proofs.Bodies.{body_taken, body_given, rests_taken, rests_given, terms_given, positive_terms}
use Rattle.rewriting.proofs.Numbered.{kind_at}
use Rattle.rewriting.proofs.RuleInstances.{equations_of, Makes}

-- only a constraint has no head
abbrev pub HasItsHead : SingleRule → Type 0
HasItsHead r = (r.head ≡ None) ↔ (r.kind ≡ rule.Constraint)

-- ---- fresh variables

-- the second substitution differs from the first in fresh variables alone, and makes the equations of the rule true
pub record IsFresh (r : SingleRule) (s s' : Substitution) : Type 0 where
  pub extends : Extends (global_variables (as_statement r)) s s'
  pub defined : Each (HasValue s') r.defined
  pub equations : Each (Holds s') (equations_of r)

-- there is one for each instance
pub fresh : (r : SingleRule) (s : Substitution) → IsInstance (as_statement r) s → Each (HasValue s) r.defined → (s' : Substitution) × IsFresh r s s'
fresh r s instance defined =
    let vs : List Variable = global_variables (as_statement r) in
    let ds : List Variable = variables_of r.defined in
    let found = extension s (free_in r) (positives r.body) (λ p i t j.
    let among : t ∈ global_terms (as_statement r) = ∈-append_right t (head_terms (head_of r.head)) (concat (map item_terms r.body)) (positive_terms r.body p i t j) in
    record {
      has = Each-at (HasValue s) (global_terms (as_statement r)) t instance among;
      below = λ v k. below-free_above (vs ++ ds) v (∈-append_left v vs ds (in_each variables (global_terms (as_statement r)) t v among k));
    }) in (
      found.0,
      record {
        extends = Each-from (λ v. found.0 v ≡ s v) vs (λ v i. found.1.keeps v (below-free_above (vs ++ ds) v (∈-append_left v vs ds i)));
        defined = Each-from (HasValue found.0) r.defined (λ t i.
            let has = Each-at (HasValue s) r.defined t defined i in
            (has.0, eval_same s found.0 t (λ v k. found.1.keeps v (below-free_above (vs ++ ds) v (∈-append_right v vs ds (in_each variables r.defined t v i k)))) ∙ has.1));
        equations = found.1.equations;
      },
    )

-- what has to follow under the second has to under the first
pub fresh-met : (r : SingleRule) (s s' : Substitution) (I : List Atom) → IsFresh r s s' → (kind : RuleKind) → IsMet r s' I kind → IsMet r s I kind
fresh-met r s s' I h rule.Plain met =
    (only_global_variables_matter (as_statement r) s' s I
    (Each-map (λ v. s' v ≡ s v) (λ v. s v ≡ s' v) (λ v e. sym e) (global_variables (as_statement r)) h.extends)).2 met
fresh-met r s s' I h rule.Choice met = tt
fresh-met r s s' I h rule.Constraint met = met

-- ---- kinds

-- what is missing is not there
none_some : {A : Type 0} (x : A) → None ≡ Some x → ⊥
none_some x e = cc

-- what is there is not missing
some_none : {A : Type 0} (x : A) → Some x ≡ None → ⊥
some_none x e = cc

-- two kinds that are there and the same are the same
same_kind : (x y : Kind GroundAtom) → Some x ≡ Some y → x ≡ y
same_kind x y e = cc

-- and so are two core atoms
same_ground : (x y : GroundAtom) → Some x ≡ Some y → x ≡ y
same_ground x y e = cc

-- what a plain rule makes of its head
plain_read : (o : Option GroundAtom) (k : Kind GroundAtom) → kind_with rule.Plain o ≡ Some k → (g : GroundAtom) × (o ≡ Some g) × (k ≡ Plain g)
plain_read None k e = absurd (none_some k e)
plain_read (Some g) k e = (g, refl, sym (same_kind (Plain g) k e))

-- what a choice makes of its head
choice_read : (o : Option GroundAtom) (k : Kind GroundAtom) → kind_with rule.Choice o ≡ Some k → (g : GroundAtom) × (o ≡ Some g) × (k ≡ Choice g)
choice_read None k e = absurd (none_some k e)
choice_read (Some g) k e = (g, refl, sym (same_kind (Choice g) k e))

-- a constraint makes nothing of a head
no_constraint : (o : Option GroundAtom) (k : Kind GroundAtom) → kind_with rule.Constraint o ≡ Some k → ⊥
no_constraint None k e = none_some k e
no_constraint (Some g) k e = none_some k e

-- the head of an instance is what the rule's head becomes
pub record HeadBecomes (s : Substitution) (h : Option syntax.Atom) (g : GroundAtom) : Type 0 where
  pub atom : syntax.Atom
  pub is : h ≡ Some atom
  pub becomes : atom_of s atom ≡ Some g

-- so it is for each kind
pub head_read : (s : Substitution) (kind : RuleKind) (h : Option syntax.Atom) (k : Kind GroundAtom) → kind_at s kind h ≡ Some k → (g : GroundAtom) → IsHead k g → HeadBecomes s h g
head_read s rule.Plain None k e g is = absurd (none_some k e)
head_read s rule.Choice None k e g is = absurd (none_some k e)
head_read s rule.Constraint None k e g is = absurd (subst (λ j. IsHead j g) (sym (same_kind Constraint k e)) is)
head_read s rule.Plain (Some a) k e g is =
    let read = plain_read (atom_of s a) k e in
    let same : read.0 ≡ g = subst (λ j. IsHead j g) read.2 is in
    record { atom = a; is = refl; becomes = read.1 ∙ ap (λ x. Some x) same }
head_read s rule.Choice (Some a) k e g is =
    let read = choice_read (atom_of s a) k e in
    let same : read.0 ≡ g = subst (λ j. IsHead j g) read.2 is in
    record { atom = a; is = refl; becomes = read.1 ∙ ap (λ x. Some x) same }
head_read s rule.Constraint (Some a) k e g is = absurd (no_constraint (atom_of s a) k e)

-- it is an atom of the program
pub head_is_user : (s : Substitution) (h : Option syntax.Atom) (g : GroundAtom) → HeadBecomes s h g → (a : Atom) × (g ≡ User a)
head_is_user s h g b = let read = atom_of-read s b.atom g b.becomes in (read.0, read.2)

-- atoms of the program that are the same as core atoms are the same
pub user_same : (a b : Atom) → User a ≡ User b → a ≡ b
user_same a b e = cc

-- an atom of the program that is the head of the instance is given by the head
pub gives_back : (vs : List Variable) (s : Substitution) (I earlier : List Atom) (h : Option syntax.Atom) (a : Atom) → HeadBecomes s h (User a) → HeadGives vs s I earlier a (head_of h)
gives_back vs s I earlier h a b =
    let read = atom_of-read s b.atom (User a) b.becomes in
    let given : Becomes s b.atom a = subst (Becomes s b.atom) (sym (user_same a read.0 read.2)) read.1 in
    subst (λ o. HeadGives vs s I earlier a (head_of o)) (sym b.is) given

-- and an atom that the head gives is the head of the instance
pub gives_to : (vs : List Variable) (s : Substitution) (I earlier : List Atom) (kind : RuleKind) (h : Option syntax.Atom) (k : Kind GroundAtom) → kind_at s kind h ≡ Some k
    → (a : Atom) → HeadGives vs s I earlier a (head_of h) → IsHead k (User a)
gives_to vs s I earlier kind None k e a gives = absurd gives
gives_to vs s I earlier rule.Plain (Some p) k e a gives =
    let read = plain_read (atom_of s p) k e in
    subst (λ j. IsHead j (User a)) (sym read.2) (same_ground read.0 (User a) (sym read.1 ∙ atom_of-made s p a gives))
gives_to vs s I earlier rule.Choice (Some p) k e a gives =
    let read = choice_read (atom_of s p) k e in
    subst (λ j. IsHead j (User a)) (sym read.2) (same_ground read.0 (User a) (sym read.1 ∙ atom_of-made s p a gives))
gives_to vs s I earlier rule.Constraint (Some p) k e a gives = absurd (no_constraint (atom_of s p) k e)

-- a rule whose head's terms have values makes an instance of a kind
kind_exists : (s : Substitution) (kind : RuleKind) (h : Option syntax.Atom) → ((h ≡ None) ↔ (kind ≡ rule.Constraint)) → Each (HasValue s) (head_terms (head_of h))
    → (k : Kind GroundAtom) × (kind_at s kind h ≡ Some k)
kind_exists s rule.Plain None heads have = absurd (let e : rule.Plain ≡ rule.Constraint = heads.0 refl in cc)
kind_exists s rule.Choice None heads have = absurd (let e : rule.Choice ≡ rule.Constraint = heads.0 refl in cc)
kind_exists s rule.Constraint None heads have = (Constraint, refl)
kind_exists s rule.Plain (Some p) heads have = let b = becomes-some s p have in (Plain (User b.0), ap (kind_with rule.Plain) (atom_of-made s p b.0 b.1))
kind_exists s rule.Choice (Some p) heads have = let b = becomes-some s p have in (Choice (User b.0), ap (kind_with rule.Choice) (atom_of-made s p b.0 b.1))
kind_exists s rule.Constraint (Some p) heads have = absurd (some_none p (heads.1 refl))

-- the terms of the head of a rule that makes an instance have values
head_has : (s : Substitution) (kind : RuleKind) (h : Option syntax.Atom) (k : Kind GroundAtom) → kind_at s kind h ≡ Some k → Each (HasValue s) (head_terms (head_of h))
head_has s kind None k e = tt
head_has s rule.Plain (Some p) k e =
    let read = plain_read (atom_of s p) k e in let b = atom_of-read s p read.0 read.1 in terms-have s p b.0 b.1
head_has s rule.Choice (Some p) k e =
    let read = choice_read (atom_of s p) k e in let b = atom_of-read s p read.0 read.1 in terms-have s p b.0 b.1
head_has s rule.Constraint (Some p) k e = absurd (no_constraint (atom_of s p) k e)

-- ---- instances

-- an instance whose body holds makes a core instance
pub makes_some : (r : SingleRule) (s : Substitution) (I : List Atom) → HasNoAggregate r → HasItsHead r → IsInstance (as_statement r) s → Each (HasValue s) r.defined
    → BodyHolds (as_statement r) s I → (i : Instance GroundAtom) × Makes s r i
makes_some r s I plain heads instance defined body =
    let taken = body_taken (global_variables (as_statement r)) s I r.body plain body in
    let pos = atoms_exist s (λ a. a ∈ I) (positives r.body) taken.pos in
    let neg = atoms_exist s (λ a. ¬ (a ∈ I)) (negatives r.body) taken.neg in
    let of_head : Each (HasValue s) (head_terms (head_of r.head)) = Each-from (HasValue s) (head_terms (head_of r.head)) (λ t i.
    Each-at (HasValue s) (global_terms (as_statement r)) t instance (∈-append_left t (head_terms (head_of r.head)) (concat (map item_terms r.body)) i)) in
    let kind = kind_exists s r.kind r.head heads of_head in (
      record { kind = kind.0; pos = pos.0; neg = neg.0 },
      record { tests = taken.tests; defined = defined; kind = kind.1; pos = pos.1; neg = neg.1 },
    )

-- nothing is asked of the atom
abbrev Any : Atom → Type 0
Any a = Unit {0}

-- what makes a core instance is an instance
pub makes_instance : (r : SingleRule) (s : Substitution) (i : Instance GroundAtom) → HasNoAggregate r → Makes s r i → IsInstance (as_statement r) s
makes_instance r s i plain makes =
    Each-append (HasValue s) (head_terms (head_of r.head)) (concat (map item_terms r.body)) (head_has s r.kind r.head i.kind makes.kind)
    (terms_given s Any Any r.body plain (record {
      pos = atoms_from s Any (positives r.body) i.pos makes.pos (λ a k. tt);
      neg = atoms_from s Any (negatives r.body) i.neg makes.neg (λ a k. tt);
      tests = makes.tests;
    }))

-- ---- bodies

-- a body that holds in the list holds in the set
pub body_to : (r : SingleRule) (s : Substitution) (i : Instance GroundAtom) (I : List Atom) (c : GroundAtom → Bool) → HasNoAggregate r → HasUserAtoms c I → Makes s r i
    → BodyHolds (as_statement r) s I → body_holds c i ≡ true
body_to r s i I c plain tells makes body =
    let taken = body_taken (global_variables (as_statement r)) s I r.body plain body in
    body_from c i (record {
      pos = λ g k. let found = atoms_to s (λ a. a ∈ I) (positives r.body) i.pos makes.pos taken.pos g k in ap c found.1 ∙ (tells found.0).1 found.2;
      neg = λ g k. let found = atoms_to s (λ a. ¬ (a ∈ I)) (negatives r.body) i.neg makes.neg taken.neg g k in
          elim (bool_cases (c g)) [ inl in_set ↦ absurd (found.2 ((tells found.0).0 (sym (ap c found.1) ∙ in_set))) | inr out ↦ out ];
    })

-- and the other way round
pub body_back : (r : SingleRule) (s : Substitution) (i : Instance GroundAtom) (I : List Atom) (c : GroundAtom → Bool) → HasNoAggregate r → HasUserAtoms c I → Makes s r i
    → body_holds c i ≡ true → BodyHolds (as_statement r) s I
body_back r s i I c plain tells makes holds =
    let parts = body_parts c i holds in
    body_given (global_variables (as_statement r)) s I r.body plain (record {
      pos = atoms_from s (λ a. a ∈ I) (positives r.body) i.pos makes.pos (λ a k. (tells a).0 (parts.pos (User a) k));
      neg = atoms_from s (λ a. ¬ (a ∈ I)) (negatives r.body) i.neg makes.neg (λ a k in_list. true≢false (sym ((tells a).1 in_list) ∙ parts.neg (User a) k));
      tests = makes.tests;
    })

-- what an instance rests on is among the atoms on which the body rests
pub rests_to : (r : SingleRule) (s : Substitution) (i : Instance GroundAtom) (earlier : List Atom) → HasNoAggregate r → Makes s r i → Each (ItemRests s earlier) r.body
    → (g : GroundAtom) → g ∈ i.pos → g ∈ map User earlier
rests_to r s i earlier plain makes rests g among =
    let found = atoms_to s (λ a. a ∈ earlier) (positives r.body) i.pos makes.pos (rests_taken s earlier r.body plain rests) g among in
    subst (λ x. x ∈ map User earlier) (sym found.1) (∈-map User found.0 earlier found.2)

-- and the other way round
pub rests_back : (r : SingleRule) (s : Substitution) (i : Instance GroundAtom) (earlier : List Atom) → HasNoAggregate r → Makes s r i
    → ((a : Atom) → User a ∈ i.pos → a ∈ earlier) → Each (ItemRests s earlier) r.body
rests_back r s i earlier plain makes h = rests_given s earlier r.body plain (atoms_from s (λ a. a ∈ earlier) (positives r.body) i.pos makes.pos h)

-- ---- what has to follow

-- where the head of a plain rule is in the list, its core atom is in the set
plain_to : (st : Statement) (s : Substitution) (I : List Atom) (c : GroundAtom → Bool) → HasUserAtoms c I → (h : Option syntax.Atom) (k : Kind GroundAtom) → kind_at s rule.Plain h ≡ Some k
    → HeadIsMet st s I (head_of h) → KindHolds c k
plain_to st s I c tells None k e met = absurd met
plain_to st s I c tells (Some p) k e met =
    let read = plain_read (atom_of s p) k e in
    let b = atom_of-read s p read.0 read.1 in
    subst (KindHolds c) (sym read.2) (ap c b.2 ∙ (tells b.0).1 (met b.0 b.1))

-- nothing is asked of a choice
choice_to : (s : Substitution) (c : GroundAtom → Bool) (h : Option syntax.Atom) (k : Kind GroundAtom) → kind_at s rule.Choice h ≡ Some k → KindHolds c k
choice_to s c None k e = absurd (none_some k e)
choice_to s c (Some p) k e = subst (KindHolds c) (sym (choice_read (atom_of s p) k e).2) tt

-- where what has to follow is in the list, the instance's kind holds in the set
pub met_to : (r : SingleRule) (s : Substitution) (I : List Atom) (c : GroundAtom → Bool) → HasUserAtoms c I → (kind : RuleKind) (k : Kind GroundAtom) → kind_at s kind r.head ≡ Some k
    → IsMet r s I kind → KindHolds c k
met_to r s I c tells rule.Plain k e met = plain_to (as_statement r) s I c tells r.head k e met
met_to r s I c tells rule.Choice k e met = choice_to s c r.head k e
met_to r s I c tells rule.Constraint k e met = absurd met

-- where the core atom is in the set, the head is in the list
plain_back : (st : Statement) (s : Substitution) (I : List Atom) (c : GroundAtom → Bool) → HasUserAtoms c I → (h : Option syntax.Atom) (k : Kind GroundAtom) → kind_at s rule.Plain h ≡ Some k
    → KindHolds c k → HeadIsMet st s I (head_of h)
plain_back st s I c tells None k e holds = absurd (none_some k e)
plain_back st s I c tells (Some p) k e holds = λ a becomes.
    let read = plain_read (atom_of s p) k e in
    let there : c read.0 ≡ true = subst (KindHolds c) read.2 holds in
    (tells a).0 (ap c (same_ground (User a) read.0 (sym (atom_of-made s p a becomes) ∙ read.1)) ∙ there)

-- the kind of a constraint never holds
constraint_back : (s : Substitution) (c : GroundAtom → Bool) (h : Option syntax.Atom) (k : Kind GroundAtom) → kind_at s rule.Constraint h ≡ Some k → KindHolds c k → ⊥
constraint_back s c None k e holds = subst (KindHolds c) (sym (same_kind Constraint k e)) holds
constraint_back s c (Some p) k e holds = no_constraint (atom_of s p) k e

-- and the other way round
pub met_back : (r : SingleRule) (s : Substitution) (I : List Atom) (c : GroundAtom → Bool) → HasUserAtoms c I → (kind : RuleKind) (k : Kind GroundAtom) → kind_at s kind r.head ≡ Some k
    → KindHolds c k → IsMet r s I kind
met_back r s I c tells rule.Plain k e holds = plain_back (as_statement r) s I c tells r.head k e holds
met_back r s I c tells rule.Choice k e holds = tt
met_back r s I c tells rule.Constraint k e holds = constraint_back s c r.head k e holds
