-- What constraints and facts do.
use Rattle.std.proofs.Common.{◌≡◌, ◌↔◌, inl, inr, refl, sym, ap, subst, ◌∙◌, List, [], ◌∷◌, ◌++◌, map, Option, Some, None}
use Rattle.lists.specs.Lists.{Each, AtLeastOne, concat}
use Rattle.lists.proofs.ListLemmas.{Each-append}
use Rattle.asp_syntax.specs.declared.tree.Statement.{Statement}
use Rattle.asp_syntax.specs.declared.tree.Term.{Term}
use Rattle.asp_meaning.specs.declared.value.Value.{Value}
use Rattle.asp_meaning.specs.Terms.{Substitution, before, all_of, eval, eval_all}
use Rattle.asp_meaning.specs.Variables.{item_terms, head_terms, global_terms, global_variables}
use Rattle.asp_meaning.specs.Bodies.{ItemHolds}
use Rattle.asp_meaning.specs.Atoms.{Atom}
use Rattle.asp_meaning.specs.Programs.{HasValue, IsInstance, BodyHolds, HeadGives, HeadIsMet, LicensesFrom, IsFoundedList, IsAnswerSet}
use Rattle.asp_laws.specs.Laws.{AConstraintOnlyTakesAway, AFactIsInEachAnswerSet}

-- a list that is founded without statements that license nothing
pub founded_without : (P : List Statement) (r : Statement) (I order : List Atom) → ((s : Substitution) (a : Atom) (earlier : List Atom) → ¬ LicensesFrom r s a I earlier)
    → IsFoundedList (r ∷ P) I order → IsFoundedList P I order
founded_without P r I [] none h = tt
founded_without P r I (a ∷ earlier) none h = (other h.0, founded_without P r I earlier none h.1)
  where
    other : AtLeastOne (λ r. (s : Substitution) × LicensesFrom r s a I earlier) (r ∷ P) → AtLeastOne (λ r. (s : Substitution) × LicensesFrom r s a I earlier) P
    other (inl l) = absurd (none l.0 a earlier l.1)
    other (inr rest) = rest

pub founded_with : (P : List Statement) (r : Statement) (I order : List Atom) → IsFoundedList P I order → IsFoundedList (r ∷ P) I order
founded_with P r I [] h = tt
founded_with P r I (a ∷ earlier) h = (inr h.0, founded_with P r I earlier h.1)

-- a statement that licenses nothing does no more than to demand what its head says
pub demands_alone : (P : List Statement) (r : Statement) (I : List Atom) → ((s : Substitution) (a : Atom) (earlier : List Atom) → ¬ LicensesFrom r s a I earlier)
    → IsAnswerSet (r ∷ P) I ↔ (IsAnswerSet P I × ((s : Substitution) → IsInstance r s → BodyHolds r s I → HeadIsMet r s I r.head))
demands_alone P r I none = (
  λ h. (
    record {
      set = h.set;
      closed = record { met = λ q k. h.closed.met q (inr k); consistent = h.closed.consistent };
      founded = record {
        order = h.founded.order;
        once = h.founded.once;
        same = h.founded.same;
        founded = founded_without P r I h.founded.order none h.founded.founded;
      };
    },
    h.closed.met r (inl refl),
  ),
  λ h. record {
    set = h.0.set;
    closed = record {
      met = λ q k. elim k [ inl e ↦ subst (λ (x : Statement). (s : Substitution) → IsInstance x s → BodyHolds x s I → HeadIsMet x s I x.head) (sym e) h.1 | inr among ↦ h.0.closed.met q among ];
      consistent = h.0.closed.consistent;
    };
    founded = record {
      order = h.0.founded.order;
      once = h.0.founded.once;
      same = h.0.founded.same;
      founded = founded_with P r I h.0.founded.order h.0.founded.founded;
    };
  },
)

pub a_constraint_only_takes_away : AConstraintOnlyTakesAway
a_constraint_only_takes_away P r I absent =
    let none : (s : Substitution) (a : Atom) (earlier : List Atom) → ¬ LicensesFrom r s a I earlier =
    λ s a earlier l. subst (HeadGives (global_variables r) s I earlier a) absent l.head in
    let alone = demands_alone P r I none in (
      λ h. ((alone.0 h).0, λ s i b. subst (HeadIsMet r s I) absent ((alone.0 h).1 s i b)),
      λ h. alone.1 (h.0, λ s i b. absurd (h.1 s i b)),
    )

-- ---- facts

-- where terms have values, each has one
each_has_value : (s : Substitution) (ts : List Term) (vs : List Value) → eval_all s ts ≡ Some vs → Each (HasValue s) ts
each_has_value s [] vs e = tt
each_has_value s (t ∷ ts) vs e = go (each_has_value s ts) (eval s t) refl (eval_all s ts) refl e
  where
    go : ((vs : List Value) → eval_all s ts ≡ Some vs → Each (HasValue s) ts) → (o : Option Value) → eval s t ≡ o → (p : Option (List Value)) → eval_all s ts ≡ p
        → all_of (o ∷ map (eval s) ts) ≡ Some vs → Each (HasValue s) (t ∷ ts)
    go rest None f p g h = cc
    go rest (Some x) f None g h = let bad : None ≡ Some vs = ap (before x) (sym g) ∙ h in cc
    go rest (Some x) f (Some xs) g h = ((x, f), rest xs g)

pub a_fact_is_in_each : AFactIsInEachAnswerSet
a_fact_is_in_each P I r p s a among head_is body_is becomes h =
    let terms : global_terms r ≡ p.args ++ [] = λ i. head_terms (head_is i) ++ concat (map item_terms (body_is i)) in
    let instance : IsInstance r s = subst (Each (HasValue s)) (sym terms) (Each-append (HasValue s) p.args [] (each_has_value s p.args a.args becomes.2) tt) in
    let body : BodyHolds r s I = subst (Each (ItemHolds (global_variables r) s I)) (sym body_is) tt in
    (subst (HeadIsMet r s I) head_is (h.closed.met r among s instance body)) a becomes
