-- A head whose predicate is another, or whose arguments can't match, becomes no atom of this id; and what follows for instances.
use Rattle.std.proofs.Common.{◌≡◌, refl, sym, ap, subst, ◌∙◌, ℕ, zero, suc, ◌+◌, ◌<◌, ◌≤◌, arith, add-one, Bool, ◌||◌, true≢false, true, false, List, [], ◌∷◌, ◌++◌, map, length, replicate, drop, get_or, Option, Some, None, slice_get}
use Rattle.std.specs.List.{list_any}
use Rattle.lists.specs.Lists.{◌∈◌, Each, concat}
use Rattle.lists.proofs.ListLemmas.{Each-at, Each-from, ∈-append_left, ∈-concat_map}
use Rattle.alpha_outside.specs.declared.node.Node.{Node}
use Rattle.alpha_outside.specs.declared.pred.Pred.{Pred}
use Rattle.core_rules.specs.declared.rules.CoreAtom.{CoreAtom}
use Rattle.core_rules.specs.declared.rules.CoreAggregate.{CoreAggregate}
use Rattle.core_rules.specs.declared.rules.CoreRule.{CoreRule}
use Rattle.core_rules.specs.declared.rules.Core.{Core}
use Rattle.core_rules.specs.CoreForm.{IsFitting, IsRuleForm, arity_of}
use Rattle.core_rules.specs.CoreForm as form
use Rattle.core_rules.specs.Variables.{variables, atom_variables, head_variables, rule_variables, test_variables, variables_of}
use Rattle.asp_meaning.specs.declared.value.Value.{Value}
use Rattle.asp_meaning.specs.Terms.{all_of, before}
use Rattle.core_meaning.specs.Terms.{Partly, Binding, eval, eval_all}
use Rattle.core_meaning.specs.Atoms.{GroundAtom, ground_atom, with_arguments, atom_under}
use Rattle.term_eval.specs.Evals.{values_by}
use Rattle.term_eval.proofs.Arguments.{next_left}
use Rattle.term_eval.specs.Matching.{Extends, AreTerms, IsKnown}
use Rattle.atom_pool.specs.declared.atom.AtomNode.TheVariants as node
use Rattle.atom_pool.specs.declared.ground.Ground.{Ground}
use Rattle.atom_pool.specs.Pools.{IsAtomPool}
use Rattle.lazy_grounder.specs.Grounds.{IsNameOf}
use Rattle.lazy_grounder.specs.Joining.{MayStandIn, HaveValuesAt, CannotMatchAll, HasSoMany}
use Rattle.lazy_grounder.proofs.NameLemmas.{says, same_arity}
use Rattle.search_rules.proofs.RuleInstances.{head_from, made_by}
use Rattle.justification.specs.Heads.{HasPred, NeverBecomes, NeverGives, NothingGives}

-- what is there is one thing
some_same : {A : Type 0} (x y : A) → Some x ≡ Some y → x ≡ y
some_same x y e = cc

-- ---- values

-- where all have values, each has one, in order
all_values : {A : Type 0} (os : List (Option A)) (vs : List A) → all_of os ≡ Some vs → os ≡ map Some vs
all_values [] vs e = ap (map Some) (some_same [] vs e)
all_values {A} (None ∷ os) vs e = cc
all_values {A} (Some x ∷ os) vs e = by_case (all_values os) (all_of os) refl e
  where
    by_case : ((ws : List A) → all_of os ≡ Some ws → os ≡ map Some ws) → (o : Option (List A)) → all_of os ≡ o → before x o ≡ Some vs → (Some x ∷ os) ≡ map Some vs
    by_case rest None is e = cc
    by_case rest (Some ws) is e = (λ i. Some x ∷ rest ws is i) ∙ ap (map Some) (some_same (x ∷ ws) vs e)

-- a list of results is as long as its list
length_results : {A B : Type 0} (f : A → B) (xs : List A) → length (map f xs) ≡ length xs
length_results f [] = refl
length_results f (x ∷ xs) = ap suc (length_results f xs)

-- they are as many
as_many : {A : Type 0} (os : List (Option A)) (vs : List A) → os ≡ map Some vs → length os ≡ length vs
as_many os vs e = ap length e ∙ length_results Some vs

-- an atom with variables becomes one by the values of its terms
by_values : (aggs : List CoreAggregate) (p : Pred) (o : Option (List Value)) (a : GroundAtom) → with_arguments aggs p o ≡ Some a → (vs : List Value) × (o ≡ Some vs) × (ground_atom aggs p vs ≡ Some a)
by_values aggs p None a e = cc
by_values aggs p (Some vs) a e = (vs, refl, e)

-- in a new binding nothing is bound, so any values extend it
nothing_bound : (n v t : ℕ) → ¬ (slice_get (replicate n None) v ≡ Some (Some t))
nothing_bound zero v t e = cc
nothing_bound (suc n) zero t e = cc
nothing_bound (suc n) (suc v) t e = nothing_bound n v t e

pub extends_nothing : (nodes : List Node) (n : ℕ) (q : Partly) → Extends (values_by nodes (replicate n None)) q
extends_nothing nodes n q v x e = absurd (no_value n v e)
  where
    no_value : (n v : ℕ) → ¬ (values_by nodes (replicate n None) v ≡ Some x)
    no_value zero v e = cc
    no_value (suc n) zero e = cc
    no_value (suc n) (suc v) e = no_value n v e

-- ---- heads

module _ (aggs : List CoreAggregate) (g : Ground) (pool : IsAtomPool g.atoms) (stand : MayStandIn aggs g) (head : CoreAtom) (fits : IsFitting aggs head) (x : ℕ) where
  -- where the head becomes the atom of this id, that has its predicate, and the values of its arguments
  pub becomes : (b : Binding) (a : GroundAtom) → IsNameOf aggs g x a → atom_under aggs b head ≡ Some a
      → (p : ℕ) × (ids : List ℕ) × (slice_get g.atoms.atoms x ≡ Some (node.Named p ids)) × (slice_get g.atoms.preds p ≡ Some head.pred) × HaveValuesAt (slice_get b) g.terms head.args ids
  becomes b a name e =
      let from = by_values aggs head.pred (eval_all b head.args) a e in
      let are = all_values (map (eval b) head.args) from.0 from.1 in
      let many : length from.0 ≡ arity_of head.pred = sym (as_many (map (eval b) head.args) from.0 are) ∙ length_results (eval b) head.args ∙ fits.1 in
      let n = says aggs g pool stand x a head.pred from.0 name fits.0 many from.2 in
      (n.0, n.1, n.2, n.3, are ∙ ap (map Some) (sym n.4))

  -- so with another predicate it never does
  pub other_pred : ¬ HasPred g x head.pred → NeverBecomes aggs g head x
  other_pred other b a name e = let n = becomes b a name e in other (n.0, n.1, n.2, n.3)

  -- and never where the arguments can't match
  pub no_match : (n : ℕ) → ((p : ℕ) (ids : List ℕ) → slice_get g.atoms.atoms x ≡ Some (node.Named p ids) → CannotMatchAll g.terms (replicate n None) head.args ids) → NeverBecomes aggs g head x
  no_match n cannot b a name e = let w = becomes b a name e in cannot w.0 w.1 w.2 (slice_get b) (extends_nothing g.terms n (slice_get b)) w.4

-- ---- what is left of a list

-- nothing is left behind its end
pub each_past : {A : Type 0} (P : A → Type 0) (xs : List A) (i : ℕ) → length xs ≤ i → Each P (drop i xs)
each_past P [] zero h = tt
each_past P [] (suc i) h = tt
each_past P (x ∷ xs) zero h = absurd (omega (arith, h))
each_past P (x ∷ xs) (suc i) h = each_past P xs i (omega (arith, h))

-- what holds of the next and of all behind it holds of what is left
pub each_next : {A : Type 0} (P : A → Type 0) (xs : List A) (i : ℕ) (x : A) → i < length xs → x ≡ get_or xs i x → P x → Each P (drop (i + 1) xs) → Each P (drop i xs)
each_next P xs i x low is own rest = subst (Each P) (sym (next_left xs i x low is)) (own, subst (λ k. Each P (drop k xs)) (add-one i) rest)

-- ---- what is asked of a head

-- the head of a rule may stand where it does
pub fits_head : (aggs : List CoreAggregate) (r : CoreRule) (p : CoreAtom) → IsRuleForm aggs r → r.head ≡ Some p → IsFitting aggs p
fits_head aggs r p f is = (subst (form.IsHead aggs) is f.head).0

-- its variables have numbers that the rule knows
pub head_known : (aggs : List CoreAggregate) (r : CoreRule) (p : CoreAtom) (n : ℕ) → IsRuleForm aggs r → r.head ≡ Some p → n ≡ r.variables → Each (IsKnown n) p.args
head_known aggs r p n f is many = Each-from (IsKnown n) p.args (λ t k v j. subst (λ m. v < m) (sym many) (f.below v (in_head v (∈-concat_map variables t p.args v k j))))
  where
    in_head : (v : ℕ) → v ∈ atom_variables p → v ∈ rule_variables r
    in_head v k =
        let own : v ∈ head_variables r.head = subst (λ o. v ∈ head_variables o) (sym is) k in
        ∈-append_left v (head_variables r.head ++ concat (map atom_variables r.pos) ++ concat (map atom_variables r.neg) ++ concat (map test_variables r.tests)) (variables_of r.defined)
        (∈-append_left v (head_variables r.head ++ concat (map atom_variables r.pos) ++ concat (map atom_variables r.neg)) (concat (map test_variables r.tests))
        (∈-append_left v (head_variables r.head ++ concat (map atom_variables r.pos)) (concat (map atom_variables r.neg))
        (∈-append_left v (head_variables r.head) (concat (map atom_variables r.pos)) own)))

-- where none passes a test, each fails it
pub each_fails : {A : Type 0} (test : A → Bool) (xs : List A) → list_any test xs ≡ false → Each (λ x. test x ≡ false) xs
each_fails test [] e = tt
each_fails test (x ∷ xs) e = (left (test x) (list_any test xs) e, each_fails test xs (right (test x) (list_any test xs) e))
  where
    left : (p q : Bool) → (p || q) ≡ false → p ≡ false
    left true q e = e
    left false q e = refl

    right : (p q : Bool) → (p || q) ≡ false → q ≡ false
    right true q e = absurd (true≢false e)
    right false q e = e

-- in a new binding nothing is bound
pub new_bound : (n terms : ℕ) (binding : List (Option ℕ)) → binding ≡ replicate n None → AreTerms terms binding
new_bound n terms binding is v t e = absurd (nothing_bound n v t (subst (λ b. slice_get b v ≡ Some (Some t)) is e))

-- an atom with the predicate of a head has as many arguments
pub so_many : (aggs : List CoreAggregate) (g : Ground) (x : ℕ) (head : CoreAtom) → IsAtomPool g.atoms → IsFitting aggs head → HasPred g x head.pred → HasSoMany g x (length head.args)
so_many aggs g x head pool fits has =
    let fit = pool.fit x (node.Named has.0 has.1) has.2 in
    let same : fit.0 ≡ head.pred = some_same fit.0 head.pred (sym fit.1 ∙ has.3) in
    (has.0, has.1, has.2, sym fit.2 ∙ same_arity fit.0 ∙ ap arity_of same ∙ sym fits.1)

-- ---- instances

-- where the head of no rule becomes the atom, no instance gives it
pub none_gives : (core : Core) (g : Ground) (x : ℕ) → Each (NeverGives core.aggregates g x) core.rules → NothingGives core g x
none_gives core g x each a name rule b i e is =
    let made = made_by core (rule, b) i e in
    let head = head_from core.aggregates b made.rule.kind made.rule.head i.kind a made.kind is in
    Each-at (NeverGives core.aggregates g x) core.rules made.rule each made.among head.0 head.1 b a name head.2

-- a rule without a head gives nothing
pub headless : (aggs : List CoreAggregate) (g : Ground) (x : ℕ) (r : CoreRule) → r.head ≡ None → NeverGives aggs g x r
headless aggs g x r none p e = absurd (cc)

-- and one with this head none that this never becomes
pub by_head : (aggs : List CoreAggregate) (g : Ground) (x : ℕ) (r : CoreRule) (p : CoreAtom) → r.head ≡ Some p → NeverBecomes aggs g p x → NeverGives aggs g x r
by_head aggs g x r p is never q e = subst (λ z. NeverBecomes aggs g z x) (some_same p q (sym is ∙ e)) never
