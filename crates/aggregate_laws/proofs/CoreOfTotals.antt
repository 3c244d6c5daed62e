-- The core rules of a ground program have heads and bodies as core form says.
use Rattle.std.proofs.Common.{◌≡◌, List, [], ◌∷◌, ◌++◌, refl, sym, ap, subst, inl, inr}
use Rattle.std.specs.Prelude.{Option, Some, None}
use Rattle.std.proofs.lemmas.Option.{same_Some}
use Rattle.lists.specs.Lists.{◌∈◌}
use Rattle.lists.proofs.ListLemmas.{∈-append_cases}
use Rattle.search_values.specs.Instances.{Kind, Plain, Choice, Constraint, Instance, IsHead}
use Rattle.core_meaning.specs.Atoms.{GroundAtom, User, Domain, Member, Total}
use Rattle.aggregate_laws.specs.Rules.{IsHeadAtom, IsBodyAtom, AreRules}
use Rattle.asp_meaning.specs.Atoms.{Atom}
use Rattle.aggregate_laws.specs.TotalsInBodies.{NeededTotal, RuleInstance, DomainInstance, ElementInstance, GroundProgram, CoreMaker, FromRule, FromDomain, FromElement, user_atoms, total_atoms, user_kind, core_rule, core_domain, core_element, core_rules}

pub in_users : (us : List Atom) (u : Atom) → (u ∈ us) → ((User u) ∈ (user_atoms us))
in_users [] u i = absurd i
in_users (v ∷ us) u (inl e) = inl (ap (λ x. User x) e)
in_users (v ∷ us) u (inr i) = inr (in_users us u i)

pub users_in : (us : List Atom) (a : GroundAtom) → (a ∈ (user_atoms us)) → (u : Atom) × (u ∈ us) × (a ≡ User u)
users_in [] a i = absurd i
users_in (v ∷ us) a (inl e) = (v, inl refl, e)
users_in (v ∷ us) a (inr i) = let r = users_in us a i in (r.0, inr r.1, r.2)

pub in_totals : (ns : List NeededTotal) (n : NeededTotal) → (n ∈ ns) → ((Total n.agg n.key n.value) ∈ (total_atoms ns))
in_totals [] n i = absurd i
in_totals (m ∷ ns) n (inl e) = inl (ap (λ (x : NeededTotal). Total x.agg x.key x.value) e)
in_totals (m ∷ ns) n (inr i) = inr (in_totals ns n i)

pub totals_in : (ns : List NeededTotal) (a : GroundAtom) → (a ∈ (total_atoms ns)) → (n : NeededTotal) × (n ∈ ns) × (a ≡ Total n.agg n.key n.value)
totals_in [] a i = absurd i
totals_in (m ∷ ns) a (inl e) = (m, inl refl, e)
totals_in (m ∷ ns) a (inr i) = let r = totals_in ns a i in (r.0, inr r.1, r.2)

-- what stands in core rules

-- the core instance of a rule
pub data RuleIs {R D E : Type 0} (P : GroundProgram R D E) : Instance GroundAtom → Type 0 where
  of_rule : (r : R) (i : RuleInstance) → P.rules r ≡ Some i → RuleIs P (record { kind = user_kind i.kind; pos = user_atoms i.pos ++ total_atoms i.totals; neg = user_atoms i.neg })
  of_domain : (d : D) (i : DomainInstance) → P.domains d ≡ Some i → RuleIs P (record { kind = Plain (Domain i.agg i.key); pos = user_atoms i.pos ++ total_atoms i.totals; neg = [] })
  of_element : (e : E) (i : ElementInstance) → P.elements e ≡ Some i
      → RuleIs P (record { kind = Plain (Member i.agg i.key i.tuple); pos = Domain i.agg i.key ∷ user_atoms i.pos; neg = user_atoms i.neg })

pub rule_is : {R D E : Type 0} (P : GroundProgram R D E) (m : CoreMaker R D E) (i : Instance GroundAtom) → core_rules P m ≡ Some i → RuleIs P i
rule_is P (FromRule r) i e = go (P.rules r) refl e
  where
    go : (o : Option RuleInstance) → P.rules r ≡ o → core_rule o ≡ Some i → RuleIs P i
    go None o e = cc
    go (Some x) o e = subst (λ j. RuleIs P j) (same_Some _ _ e) (of_rule r x o)
rule_is P (FromDomain d) i e = go (P.domains d) refl e
  where
    go : (o : Option DomainInstance) → P.domains d ≡ o → core_domain o ≡ Some i → RuleIs P i
    go None o e = cc
    go (Some x) o e = subst (λ j. RuleIs P j) (same_Some _ _ e) (of_domain d x o)
rule_is P (FromElement d) i e = go (P.elements d) refl e
  where
    go : (o : Option ElementInstance) → P.elements d ≡ o → core_element o ≡ Some i → RuleIs P i
    go None o e = cc
    go (Some x) o e = subst (λ j. RuleIs P j) (same_Some _ _ e) (of_element d x o)

module _ {R D E : Type 0} (P : GroundProgram R D E) where
  flat_users : (us : List Atom) (a : GroundAtom) → (a ∈ (user_atoms us)) → IsBodyAtom a
  flat_users us a i = let r = users_in us a i in subst (λ x. IsBodyAtom x) (sym r.2) tt

  flat_totals : (ns : List NeededTotal) (a : GroundAtom) → (a ∈ (total_atoms ns)) → IsBodyAtom a
  flat_totals ns a i = let r = totals_in ns a i in subst (λ x. IsBodyAtom x) (sym r.2) tt

  flat_both : (us : List Atom) (ns : List NeededTotal) (a : GroundAtom) → (a ∈ (user_atoms us ++ total_atoms ns)) → IsBodyAtom a
  flat_both us ns a i = elim (∈-append_cases a (user_atoms us) (total_atoms ns) i) [ inl j ↦ flat_users us a j | inr j ↦ flat_totals ns a j ]

  user_head : (k : Kind Atom) (a : GroundAtom) → IsHead (user_kind k) a → IsHeadAtom a
  user_head (Plain h) a e = subst (λ x. IsHeadAtom x) e tt
  user_head (Choice h) a e = subst (λ x. IsHeadAtom x) e tt
  user_head Constraint a e = absurd e

  heads_of : (i : Instance GroundAtom) → RuleIs P i → (a : GroundAtom) → IsHead i.kind a → IsHeadAtom a
  heads_of i (of_rule r x e) a h = user_head x.kind a h
  heads_of i (of_domain d x e) a h = subst (λ x. IsHeadAtom x) h tt
  heads_of i (of_element d x e) a h = subst (λ x. IsHeadAtom x) h tt

  pos_of : (i : Instance GroundAtom) → RuleIs P i → (a : GroundAtom) → (a ∈ i.pos) → IsBodyAtom a
  pos_of i (of_rule r x e) a j = flat_both x.pos x.totals a j
  pos_of i (of_domain d x e) a j = flat_both x.pos x.totals a j
  pos_of i (of_element d x e) a (inl h) = subst (λ x. IsBodyAtom x) (sym h) tt
  pos_of i (of_element d x e) a (inr j) = flat_users x.pos a j

  neg_of : (i : Instance GroundAtom) → RuleIs P i → (a : GroundAtom) → (a ∈ i.neg) → IsBodyAtom a
  neg_of i (of_rule r x e) a j = flat_users x.neg a j
  neg_of i (of_domain d x e) a j = absurd j
  neg_of i (of_element d x e) a j = flat_users x.neg a j

  pub are_rules : AreRules (core_rules P)
  are_rules = record {
    heads = λ m i e. heads_of i (rule_is P m i e);
    pos = λ m i e. pos_of i (rule_is P m i e);
    neg = λ m i e. neg_of i (rule_is P m i e);
  }
