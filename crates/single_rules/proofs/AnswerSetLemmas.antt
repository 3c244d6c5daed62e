-- The single rules of a program have its answer sets.
use Rattle.std.proofs.Common.{◌≡◌, ◌↔◌, inl, inr, refl, sym, ap, subst, ◌∙◌, ℕ, suc, Bool, true, false, List, [], ◌∷◌, ◌++◌, map, length, Option, Some, None}
use Rattle.std.specs.Prelude.{not}
use Rattle.lists.specs.Lists.{◌∈◌, HasNoRepeats, Each, AtLeastOne, concat}
use Rattle.lists.proofs.ListLemmas.{Each-at, AtLeastOne-at, AtLeastOne-from, ∈-append_left, ∈-append_right, ∈-append_cases, ∈-map, ∈-map_from}
use Rattle.asp_syntax.specs.declared.tree.Atom as syntax
use Rattle.asp_syntax.specs.declared.tree.Guard.{Guard}
use Rattle.asp_syntax.specs.declared.tree.ChoiceElement.{ChoiceElement}
use Rattle.asp_syntax.specs.declared.tree.Head.{Head}
use Rattle.asp_syntax.specs.declared.tree.Head.TheVariants as head
use Rattle.asp_syntax.specs.declared.tree.Statement.{Statement}
use Rattle.asp_syntax.specs.declared.tree.Term.{Term}
use Rattle.asp_meaning.specs.declared.value.Value.{Value}
use Rattle.asp_meaning.specs.Terms.{Variable, Substitution, all_of, before, eval, eval_all}
use Rattle.asp_meaning.specs.Variables.{global_variables}
use Rattle.asp_meaning.specs.Atoms.{Atom, Becomes, strong_negation}
use Rattle.asp_meaning.specs.Programs.{IsInstance, BodyHolds, Offers, Rests, HeadGives, HeadIsMet, LicensesFrom, IsAnswerSet}
use Rattle.asp_meaning.specs.Programs as program
use Rattle.asp_strata.specs.declared.predicate.Predicate.{Predicate}
use Rattle.asp_strata.specs.Recursion.{predicate_of}
use Rattle.asp_safety.specs.Binding.{IsSafe}
use Rattle.single_rules.specs.declared.single.SingleRule.{SingleRule}
use Rattle.single_rules.specs.SingleRules.{head_of, as_statement}
use Rattle.single_rules.specs.AnswerSets.{IsSingleInstance, IsMet, IsClosed, LicensesSingly, IsFoundedList, IsSingleAnswerSet}
use Rattle.single_rules.specs.Renaming.{new_name}
use Rattle.single_rules.specs.Signs.{opposite, choice_in_text, head_in_text, item_in_text, statement_in_text, predicates_in_text, later_signs, sign_rule, sign_rules}
use Rattle.single_rules.specs.Splitting.{constraint_rule, plain_rule, element_rule, bound_rules, rules_with, rules_of, singles_of}
use Rattle.single_rules.proofs.Parts.{∈-concat_map, ∈-concat_map_from}
use Rattle.single_rules.proofs.ElementRules.{IsElement, licence_to, body_back, offers_back, condition_rests_back, body_rests_back}
use Rattle.single_rules.proofs.Values.{option_apart}
use Rattle.single_rules.proofs.SignLemmas.{or_none, both_give_one, never_both, by_number, both_hold, both_instance}

-- ---- rules that are their statements

-- the statement with this head
abbrev with_head : Statement → Head → Statement
with_head x h = record { line = x.line; head = h; body = x.body }

-- with its own head it is itself
same_head : (x : Statement) (h : Head) → x.head ≡ h → with_head x h ≡ x
same_head x h is = ap (with_head x) (sym is)

-- nothing is missing that the rule asks for
abbrev pub IsFollowed : List Atom → SingleRule → Type 0
IsFollowed I r = (s : Substitution) → IsSingleInstance r s → BodyHolds (as_statement r) s I → IsMet r s I r.kind

-- nothing is missing that the statement asks for, its head being this one
abbrev pub Follows : List Atom → Statement → Head → Type 0
Follows I x h = (s : Substitution) → IsInstance x s → BodyHolds x s I → HeadIsMet x s I h

-- what the bounds of the statement ask for is what the constraint for them asks for
pub record BoundsAreKept (I : List Atom) (x : Statement) : Type 0 where
  pub to : (left right : Option Guard) (elements : List ChoiceElement) → x.head ≡ head.Choice left elements right
      → Follows I x (head.Choice left elements right)
      → (r : SingleRule) → r ∈ bound_rules x left elements right → IsFollowed I r
  pub back : (left right : Option Guard) (elements : List ChoiceElement) → x.head ≡ head.Choice left elements right
      → ((r : SingleRule) → r ∈ bound_rules x left elements right → IsFollowed I r) → Follows I x (head.Choice left elements right)

-- ---- closed

-- each rule of a statement asks for what the statement asks for
rule_followed : (I : List Atom) (x : Statement) → BoundsAreKept I x → (h : Head) → x.head ≡ h → Follows I x h → (r : SingleRule)
    → r ∈ rules_with x h → IsFollowed I r
rule_followed I x kept head.Absent is follows r (inl e) = subst (IsFollowed I) (sym e) (λ s instance holds.
    follows s instance.1 (subst (λ y. BodyHolds y s I) (same_head x head.Absent is) holds))
rule_followed I x kept head.Absent is follows r (inr none) = absurd none
rule_followed I x kept (head.Single p) is follows r (inl e) = subst (IsFollowed I) (sym e) (λ s instance holds.
    follows s instance.1 (subst (λ y. BodyHolds y s I) (same_head x (head.Single p) is) holds))
rule_followed I x kept (head.Single p) is follows r (inr none) = absurd none
rule_followed I x kept (head.Choice left elements right) is follows r k =
    elim (∈-append_cases r (map (element_rule x) elements) (bound_rules x left elements right) k) [
      | inl j ↦ let f = ∈-map_from (element_rule x) r elements j in subst (IsFollowed I) (sym f.2) (λ s instance holds. tt)
      | inr j ↦ kept.to left right elements is follows r j
    ]

-- where its rules are followed, the statement asks for nothing that is missing
rules_follow : (I : List Atom) (x : Statement) → BoundsAreKept I x → (h : Head) → x.head ≡ h
    → ((r : SingleRule) → r ∈ rules_with x h → IsFollowed I r) → Follows I x h
rules_follow I x kept head.Absent is followed s instance holds =
    let same = sym (same_head x head.Absent is) in
    followed (constraint_rule x) (inl refl) s (subst (λ y. IsInstance y s) same instance, instance)
    (subst (λ y. BodyHolds y s I) same holds)
rules_follow I x kept (head.Single p) is followed s instance holds =
    let same = sym (same_head x (head.Single p) is) in
    followed (plain_rule x p) (inl refl) s (subst (λ y. IsInstance y s) same instance, instance) (subst (λ y. BodyHolds y s I) same holds)
rules_follow I x kept (head.Choice left elements right) is followed s instance holds =
    kept.back left right elements is
    (λ r k. followed r (∈-append_right r (map (element_rule x) elements) (bound_rules x left elements right) k)) s instance holds

-- ---- founded

-- what a statement licenses, one of its rules does
licensed_singly : (x : Statement) → IsSafe x → (h : Head) → x.head ≡ h → (s : Substitution) (a : Atom) (I earlier : List Atom)
    → LicensesFrom x s a I earlier
    → AtLeastOne (λ r. LicensesSingly r a I earlier) (rules_with x h)
licensed_singly x safe head.Absent is s a I earlier k = absurd (subst (HeadGives (global_variables x) s I earlier a) is k.head)
licensed_singly x safe (head.Single p) is s a I earlier k =
    inl (s, subst (λ y. LicensesFrom y s a I earlier) (sym (same_head x (head.Single p) is)) k, k.instance)
licensed_singly x safe (head.Choice left elements right) is s a I earlier k =
    let gives = subst (HeadGives (global_variables x) s I earlier a) is k.head in
    let t = gives.0 in
    let f = AtLeastOne-at (λ e. Offers (global_variables x) s I a t e × Each (Rests t earlier) e.condition) elements gives.1 in
    let e = f.0 in
    AtLeastOne-from (λ r. LicensesSingly r a I earlier) (map (element_rule x) elements ++ bound_rules x left elements right)
    (element_rule x e)
    (∈-append_left (element_rule x e) (map (element_rule x) elements) (bound_rules x left elements right)
    (∈-map (element_rule x) e elements f.1))
    (licence_to x e
    (record { safe = safe; left = left; right = right; elements = elements; is = is; among = f.1 })
    s t a I earlier k.instance k.body k.rests f.2.0 f.2.1)

-- the constraint for bounds has no head
bound_gives_none : (x : Statement) (left right : Option Guard) (elements : List ChoiceElement) (r : SingleRule)
    → r ∈ bound_rules x left elements right → r.head ≡ None
bound_gives_none x None None elements r k = absurd k
bound_gives_none x None (Some right) elements r (inl e) = ap (λ (q : SingleRule). q.head) e
bound_gives_none x None (Some right) elements r (inr none) = absurd none
bound_gives_none x (Some left) right elements r (inl e) = ap (λ (q : SingleRule). q.head) e
bound_gives_none x (Some left) right elements r (inr none) = absurd none

-- a rule without a head licenses nothing
none_licenses : (r : SingleRule) → r.head ≡ None → (a : Atom) (I earlier : List Atom) → ¬ LicensesSingly r a I earlier
none_licenses r none a I earlier k = subst (λ o. HeadGives (global_variables (as_statement r)) k.0 I earlier a (head_of o)) none k.1.head

-- what one of its rules licenses, the statement does
licensed_back : (x : Statement) → IsSafe x → (h : Head) → x.head ≡ h → (r : SingleRule) → r ∈ rules_with x h
    → (a : Atom) (I earlier : List Atom) → LicensesSingly r a I earlier
    → (s : Substitution) × LicensesFrom x s a I earlier
licensed_back x safe head.Absent is r (inl e) a I earlier k = absurd (none_licenses r (ap (λ (q : SingleRule). q.head) e) a I earlier k)
licensed_back x safe head.Absent is r (inr none) a I earlier k = absurd none
licensed_back x safe (head.Single p) is r (inl e) a I earlier k =
    let j = subst (λ q. LicensesSingly q a I earlier) e k in
    (j.0, subst (λ y. LicensesFrom y j.0 a I earlier) (same_head x (head.Single p) is) j.1)
licensed_back x safe (head.Single p) is r (inr none) a I earlier k = absurd none
licensed_back x safe (head.Choice left elements right) is r among a I earlier k =
    elim (∈-append_cases r (map (element_rule x) elements) (bound_rules x left elements right) among) [
      | inl j ↦
          let f = ∈-map_from (element_rule x) r elements j in
          let e = f.0 in
          let of : IsElement x e = record { safe = safe; left = left; right = right; elements = elements; is = is; among = f.1 } in
          let q = subst (λ q. LicensesSingly q a I earlier) f.2 k in
          let s = q.0 in
          let gives : HeadGives (global_variables x) s I earlier a (head.Choice left elements right) = (
            (λ v. s (new_name x v)),
            AtLeastOne-from
                (λ c. Offers (global_variables x) s I a (λ v. s (new_name x v)) c
                × Each (Rests (λ v. s (new_name x v)) earlier) c.condition) elements e f.1
                (offers_back x e of s a I q.1.body q.1.head, condition_rests_back x e of s earlier q.1.rests),
          ) in (
            s,
            record {
              instance = q.2;
              body = body_back x e of s I q.1.body;
              head = subst (HeadGives (global_variables x) s I earlier a) (sym is) gives;
              rests = body_rests_back x e of s earlier q.1.rests;
            },
          )
      | inr j ↦ absurd (none_licenses r (bound_gives_none x left right elements r j) a I earlier k)
    ]

-- an instance of the statement licenses the atom
abbrev Licensed : Atom → List Atom → List Atom → Statement → Type 0
Licensed a I earlier x = (s : Substitution) × LicensesFrom x s a I earlier

module _ (P : List Statement) (safe : Each IsSafe P) (I : List Atom) where
  -- the rules of the statements alone
  abbrev of_statements : List SingleRule
  of_statements = concat (map rules_of P)

  -- an atom that a statement licenses is licensed by a single rule
  to_licensed : (a : Atom) (earlier : List Atom) → AtLeastOne (Licensed a I earlier) P
      → AtLeastOne (λ r. LicensesSingly r a I earlier) (singles_of P)
  to_licensed a earlier some =
      let f = AtLeastOne-at (Licensed a I earlier) P some in
      let x = f.0 in
      let g = AtLeastOne-at (λ r. LicensesSingly r a I earlier) (rules_of x)
      (licensed_singly x (Each-at IsSafe P x safe f.1) x.head refl f.2.0 a I earlier f.2.1) in
      AtLeastOne-from (λ r. LicensesSingly r a I earlier) (singles_of P) g.0
      (∈-append_left g.0 of_statements (sign_rules P) (∈-concat_map rules_of x P g.0 f.1 g.1)) g.2

  -- and back
  from_licensed : (a : Atom) (earlier : List Atom) → AtLeastOne (λ r. LicensesSingly r a I earlier) (singles_of P)
      → AtLeastOne (Licensed a I earlier) P
  from_licensed a earlier some =
      let f = AtLeastOne-at (λ r. LicensesSingly r a I earlier) (singles_of P) some in
      elim (∈-append_cases f.0 of_statements (sign_rules P) f.1) [
        | inl k ↦
            let g = ∈-concat_map_from rules_of P f.0 k in
            AtLeastOne-from (Licensed a I earlier) P g.0 g.1
            (licensed_back g.0 (Each-at IsSafe P g.0 safe g.1) g.0.head refl f.0 g.2 a I earlier f.2)
        | inr k ↦
            let g = ∈-map_from sign_rule f.0 (later_signs [] (predicates_in_text P)) k in
            absurd (none_licenses f.0 (ap (λ (q : SingleRule). q.head) g.2) a I earlier f.2)
      ]

  -- a founded list of the program is one of its single rules
  to_founded : (order : List Atom) → program.IsFoundedList P I order → IsFoundedList (singles_of P) I order
  to_founded [] f = tt
  to_founded (a ∷ earlier) f = (to_licensed a earlier f.0, to_founded earlier f.1)

  -- and back
  from_founded : (order : List Atom) → IsFoundedList (singles_of P) I order → program.IsFoundedList P I order
  from_founded [] f = tt
  from_founded (a ∷ earlier) f = (from_licensed a earlier f.0, from_founded earlier f.1)

-- ---- predicates of atoms

-- the predicate of an atom over values
abbrev pub ground_predicate : Atom → Predicate
ground_predicate a = record { negated = a.negated; name = a.name; arity = length a.args }

-- as many values as terms
as_many : (s : Substitution) (ts : List Term) (xs : List Value) → eval_all s ts ≡ Some xs → length ts ≡ length xs
as_many s [] [] e = refl
as_many s [] (x ∷ xs) e = absurd (cc)
as_many s (t ∷ ts) xs e = by_case (eval s t) refl (all_of (map (eval s) ts)) refl xs e (as_many s ts)
  where
    by_case : (o : Option Value) → eval s t ≡ o → (rest : Option (List Value)) → all_of (map (eval s) ts) ≡ rest → (xs : List Value)
        → eval_all s (t ∷ ts) ≡ Some xs
        → ((ys : List Value) → eval_all s ts ≡ Some ys → length ts ≡ length ys) → length (t ∷ ts) ≡ length xs
    by_case None is rest others xs e later = absurd (option_apart (sym (ap (λ o. all_of (o ∷ map (eval s) ts)) is) ∙ e))
    by_case (Some x) is None others xs e later =
        absurd (option_apart (sym (ap (λ o. all_of (o ∷ map (eval s) ts)) is ∙ ap (before x) others) ∙ e))
    by_case (Some x) is (Some ys) others xs e later =
        let front : eval_all s (t ∷ ts) ≡ Some (x ∷ ys) = ap (λ o. all_of (o ∷ map (eval s) ts)) is ∙ ap (before x) others in
        let same : xs ≡ x ∷ ys = ap or_none (sym e ∙ front) in
        ap suc (later ys others) ∙ sym (ap length same)

-- an atom of a statement has the predicate of the atom that it becomes
pub becomes_predicate : (s : Substitution) (p : syntax.Atom) (a : Atom) → Becomes s p a → predicate_of p ≡ ground_predicate a
becomes_predicate s p a b =
    let signs = sym b.0 in let names = sym b.1 in let arities = as_many s p.args a.args b.2 in
    λ i. record { negated = signs i; name = names i; arity = arities i }

-- the head that gives an atom has its predicate
given_predicate : (h : Head) (globals : List Variable) (s : Substitution) (I earlier : List Atom) (a : Atom)
    → HeadGives globals s I earlier a h
    → ground_predicate a ∈ head_in_text h
given_predicate head.Absent globals s I earlier a gives = absurd gives
given_predicate (head.Single p) globals s I earlier a gives = inl (sym (becomes_predicate s p a gives))
given_predicate (head.Choice left elements right) globals s I earlier a gives =
    let f = AtLeastOne-at (λ e. Offers globals s I a gives.0 e × Each (Rests gives.0 earlier) e.condition) elements gives.1 in
    ∈-concat_map choice_in_text f.0 elements (ground_predicate a) f.1 (inl (sym (becomes_predicate gives.0 f.0.atom a f.2.0.1)))

-- a founded atom has a predicate of the program
founded_predicate : (P : List Statement) (I order : List Atom) → program.IsFoundedList P I order → (a : Atom) → a ∈ order
    → ground_predicate a ∈ predicates_in_text P
founded_predicate P I [] f a among = absurd among
founded_predicate P I (b ∷ earlier) f a (inl e) =
    let k = AtLeastOne-at (Licensed b I earlier) P f.0 in
    let x = k.0 in
    let g = given_predicate x.head (global_variables x) k.2.0 I earlier b k.2.1.head in
    subst (λ q. q ∈ predicates_in_text P) (sym (ap ground_predicate e))
    (∈-concat_map statement_in_text x P (ground_predicate b) k.1
    (∈-append_left (ground_predicate b) (head_in_text x.head) (concat (map item_in_text x.body)) g))
founded_predicate P I (b ∷ earlier) f a (inr among) = founded_predicate P I earlier f.1 a among

-- ---- strong negation

module _ (P : List Statement) (I : List Atom) (closed : IsClosed (singles_of P) I) where
  -- the constraint for a later sign
  sign_followed : (p : Predicate) → p ∈ later_signs [] (predicates_in_text P) → (s : Substitution)
      → IsInstance (as_statement (sign_rule p)) s
      → ¬ BodyHolds (as_statement (sign_rule p)) s I
  sign_followed p k s instance holds =
      closed (sign_rule p)
      (∈-append_right (sign_rule p) (concat (map rules_of P)) (sign_rules P)
      (∈-map sign_rule p (later_signs [] (predicates_in_text P)) k)) s (instance, tt) holds

  -- the constraint for a predicate of this name and number of arguments forbids both signs
  forbidden : (name : List ℕ) (args : List Value) (p : Predicate) → p.name ≡ name → p.arity ≡ length args
      → p ∈ later_signs [] (predicates_in_text P)
      → (record { negated = false; name = name; args = args }) ∈ I → ¬ ((record { negated = true; name = name; args = args }) ∈ I)
  forbidden name args p names arities k one other =
      sign_followed p k (by_number args) (both_instance args p arities) (both_hold I name args p names arities one other)

  -- the same for atoms in the order of their signs
  apart : (negated : Bool) (name : List ℕ) (args : List Value) (p : Predicate) → p.name ≡ name → p.arity ≡ length args
      → p ∈ later_signs [] (predicates_in_text P)
      → (record { negated = negated; name = name; args = args }) ∈ I → ¬ ((record { negated = not negated; name = name; args = args }) ∈ I)
  apart false name args p names arities k one other = forbidden name args p names arities k one other
  apart true name args p names arities k one other = forbidden name args p names arities k other one

  -- where the constraints for both signs hold, no atom stands beside its strong negation
  consistent : (order : List Atom) → program.IsFoundedList P I order → ((a : Atom) → a ∈ I → a ∈ order) → (a : Atom) → a ∈ I
      → ¬ (strong_negation a ∈ I)
  consistent order founded in_order a among other =
      let one = founded_predicate P I order founded a (in_order a among) in
      let denied = founded_predicate P I order founded (strong_negation a) (in_order (strong_negation a) other) in
      elim (both_give_one (predicates_in_text P) (ground_predicate a) one denied) [
        | inl k ↦ apart a.negated a.name a.args (ground_predicate a) refl refl k among other
        | inr k ↦ apart a.negated a.name a.args (opposite (ground_predicate a)) refl refl k among other
      ]

-- ---- answer sets

module _ (P : List Statement) (safe : Each IsSafe P) (I : List Atom) (kept : HasNoRepeats I → Each (BoundsAreKept I) P) where
  -- a set that is closed under the program is closed under its single rules
  to_closed : HasNoRepeats I → program.IsClosed P I → IsClosed (singles_of P) I
  to_closed set closed r among = elim (∈-append_cases r (concat (map rules_of P)) (sign_rules P) among) [
    | inl k ↦
        let f = ∈-concat_map_from rules_of P r k in
        rule_followed I f.0 (Each-at (BoundsAreKept I) P f.0 (kept set) f.1) f.0.head refl (closed.met f.0 f.1) r f.2
    | inr k ↦
        let f = ∈-map_from sign_rule r (later_signs [] (predicates_in_text P)) k in
        subst (IsFollowed I) (sym f.2) (λ s instance holds. never_both I closed.consistent f.0 s holds)
  ]

  -- in a set closed under the single rules what must follow from a statement does
  from_closed : HasNoRepeats I → IsClosed (singles_of P) I → (x : Statement) → x ∈ P → Follows I x x.head
  from_closed set closed x k = rules_follow I x (Each-at (BoundsAreKept I) P x (kept set) k) x.head refl (λ r j.
      closed r (∈-append_left r (concat (map rules_of P)) (sign_rules P) (∈-concat_map rules_of x P r k j)))

  -- an answer set of the program is one of its single rules
  to_single : IsAnswerSet P I → IsSingleAnswerSet (singles_of P) I
  to_single answer = record {
    set = answer.set;
    closed = to_closed answer.set answer.closed;
    order = answer.founded.order;
    once = answer.founded.once;
    same = answer.founded.same;
    founded = to_founded P safe I answer.founded.order answer.founded.founded;
  }

  -- and back
  from_single : IsSingleAnswerSet (singles_of P) I → IsAnswerSet P I
  from_single answer =
      let founded = from_founded P safe I answer.order answer.founded in
      record {
        set = answer.set;
        closed =
            record {
              met = from_closed answer.set answer.closed;
              consistent = consistent P I answer.closed answer.order founded answer.same.to;
            };
        founded = record { order = answer.order; once = answer.once; same = answer.same; founded = founded };
      }

  -- so both have the same answer sets, where bounds are kept
  pub same_answer_sets : IsAnswerSet P I ↔ IsSingleAnswerSet (singles_of P) I
  same_answer_sets = (to_single, from_single)
