-- A substitution that makes the equations of lifted atoms true.
use Rattle.std.proofs.Common.{◌≡◌, ◌<◌, ◌≤◌, inl, inr, refl, sym, ap, subst, ◌∙◌, ℕ, suc, max, Bool, true, false, cond, List, [], ◌∷◌, map, Option, Some, None, arith}
use Rattle.lists.specs.Lists.{◌∈◌, Each, concat}
use Rattle.lists.proofs.ListLemmas.{Each-at, Each-from, ∈-append_left, ∈-append_right, ∈-map}
use Rattle.asp_syntax.specs.declared.tree.Term.{Term}
use Rattle.asp_syntax.specs.declared.tree.Term.TheOpen as layer
use Rattle.asp_syntax.specs.declared.tree.Term.TheViews.{roll-Term}
use Rattle.asp_syntax.specs.declared.tree.Term.TheFolds.{fold-roll-Term}
use Rattle.asp_syntax.specs.declared.tree.Atom as syntax
use Rattle.asp_meaning.specs.declared.value.Value.{Value}
use Rattle.asp_meaning.specs.Terms.{Variable, named, anonymous, Substitution, before, all_of, functional_of, eval, eval_all}
use Rattle.asp_meaning.specs.Variables.{variables, variables_step}
use Rattle.asp_meaning.specs.Programs.{HasValue}
use Rattle.asp_safety.specs.Keys.{variable_eq}
use Rattle.asp_safety.specs.KeyLaws.{variable_same, variable_itself}
use Rattle.asp_laws.proofs.Globals.{eval_same}
use Rattle.rewriting.specs.Lifting.{Equation, lift_each, lift_atom, free_above}
use Rattle.rewriting.proofs.Evaluating.{eval_roll}
use Rattle.rewriting.proofs.Tables.{value_or}
use Rattle.rewriting.proofs.LiftLemmas.{Holds, AreFrom, lift_atoms-from, lift_atoms-old}

-- ---- numbers that are not free

-- the variable is named, or its number is below this one
abbrev pub IsBelow : ℕ → Variable → Type 0
IsBelow k (named x) = Unit {0}
IsBelow k (anonymous j) = j < k

-- what is below a number is below a greater one
IsBelow-more : (k n : ℕ) → k ≤ n → (v : Variable) → IsBelow k v → IsBelow n v
IsBelow-more k n le (named x) h = tt
IsBelow-more k n le (anonymous j) h = omega (arith, le, h)

-- the variables have no number that is free above them
pub below-free_above : (vs : List Variable) (v : Variable) → v ∈ vs → IsBelow (free_above vs) v
below-free_above [] v among = absurd among
below-free_above (named x ∷ vs) v (inl e) = subst (IsBelow (free_above vs)) (sym e) tt
below-free_above (named x ∷ vs) v (inr among) = below-free_above vs v among
below-free_above (anonymous k ∷ vs) v (inl e) = subst (IsBelow (max (suc k) (free_above vs))) (sym e) (let h : k < max (suc k) (free_above vs) = omega arith in h)
below-free_above (anonymous k ∷ vs) v (inr among) = IsBelow-more (free_above vs) (max (suc k) (free_above vs)) (omega arith) v (below-free_above vs v among)

-- ---- values of parts

-- where no value of a list is missing, each is there
each_value : (os : List (Option Value)) (xs : List Value) → all_of os ≡ Some xs → Each (λ o. (x : Value) × (o ≡ Some x)) os
each_value [] xs e = tt
each_value (None ∷ os) xs e = cc
each_value (Some x ∷ os) xs e = by_case (all_of os) refl e (each_value os)
  where
    by_case : (o : Option (List Value)) → all_of os ≡ o → before x o ≡ Some xs → ((ys : List Value) → all_of os ≡ Some ys → Each (λ o. (x : Value) × (o ≡ Some x)) os)
        → Each (λ o. (x : Value) × (o ≡ Some x)) (Some x ∷ os)
    by_case None is e rest = cc
    by_case (Some ys) is e rest = ((x, refl), rest ys is)

-- where terms have values, each has one
pub values-at : (s : Substitution) (ts : List Term) (xs : List Value) → eval_all s ts ≡ Some xs → (t : Term) → t ∈ ts → HasValue s t
values-at s ts xs e t among = Each-at (λ o. (x : Value) × (o ≡ Some x)) (map (eval s) ts) (eval s t) (each_value (map (eval s) ts) xs e) (∈-map (eval s) t ts among)

-- where each term has a value, all have
pub values-from : (s : Substitution) (ts : List Term) → Each (HasValue s) ts → (xs : List Value) × (eval_all s ts ≡ Some xs)
values-from s [] h = ([], refl)
values-from s (t ∷ ts) h =
    let rest = values-from s ts h.1 in
    (h.0.0 ∷ rest.0, (λ i. all_of (h.0.1 i ∷ map (eval s) ts)) ∙ ap (before h.0.0) rest.1)

-- where a functional term has a value, its arguments have values
fun_values : (f : List ℕ) (o : Option (List Value)) (x : Value) → functional_of f o ≡ Some x → (xs : List Value) × (o ≡ Some xs)
fun_values f None x e = cc
fun_values f (Some xs) x e = (xs, refl)

-- ---- terms that are there before

-- the term has a value, and its variables are named or have numbers below this one
pub record IsOld (s : Substitution) (k : ℕ) (t : Term) : Type 0 where
  pub has : HasValue s t
  pub below : (v : Variable) → v ∈ variables t → IsBelow k v

-- a member of one of the lists is a member of all of them put together
in_concat : {A : Type 0} (x : A) (xs : List A) (xss : List (List A)) → x ∈ xs → xs ∈ xss → x ∈ concat xss
in_concat x xs [] k among = absurd among
in_concat x xs (ys ∷ xss) k (inl e) = ∈-append_left x ys (concat xss) (subst (λ zs. x ∈ zs) e k)
in_concat x xs (ys ∷ xss) k (inr among) = ∈-append_right x ys (concat xss) (in_concat x xs xss k among)

-- a member of the list that one gives is a member of all that they give
pub in_each : {A B : Type 0} (f : A → List B) (xs : List A) (x : A) (y : B) → x ∈ xs → y ∈ f x → y ∈ concat (map f xs)
in_each f xs x y among k = in_concat y (f x) (map f xs) k (∈-map f x xs among)

-- the arguments of such a term are such terms
old_parts : (s : Substitution) (k : ℕ) (f : List ℕ) (ts : List Term) → IsOld s k (roll-Term (layer.Fun f ts)) → (t : Term) → t ∈ ts → IsOld s k t
old_parts s k f ts h t among =
    let some = fun_values f (all_of (map (eval s) ts)) h.has.0 (sym (eval_roll s (layer.Fun f ts)) ∙ h.has.1) in
    record {
      has = values-at s ts some.0 some.1 t among;
      below = λ v i. h.below v (subst (λ vs. v ∈ vs) (sym (fold-roll-Term (List Variable) variables_step (layer.Fun f ts))) (in_each variables ts t v among i));
    }

-- ---- the extension

-- each fresh variable has the value of its term
abbrev extended : Substitution → List Equation → Substitution
extended s [] v = s v
extended s (e ∷ es) v = cond (variable_eq v (anonymous e.fresh)) (value_or (eval s e.term)) (extended s es v)

-- variables that are there before keep their values
extended-keeps : (s : Substitution) (k n : ℕ) (es : List Equation) → AreFrom k es n → (v : Variable) → IsBelow k v → extended s es v ≡ s v
extended-keeps s k n [] from v below = refl
extended-keeps s k n (e ∷ es) from v below = by_case (variable_eq v (anonymous e.fresh)) refl ∙ extended-keeps s (suc k) n es from.1 v (IsBelow-more k (suc k) (omega arith) v below)
  where
    by_case : (b : Bool) → variable_eq v (anonymous e.fresh) ≡ b → cond b (value_or (eval s e.term)) (extended s es v) ≡ extended s es v
    by_case true same =
        let below : IsBelow k (anonymous e.fresh) = subst (IsBelow k) (variable_same v (anonymous e.fresh) same) below in
        absurd (omega (arith, below, from.0))
    by_case false same = refl

-- no fresh number is less than the first
from-least : (k n : ℕ) (es : List Equation) → AreFrom k es n → (e : Equation) → e ∈ es → k ≤ e.fresh
from-least k n [] from e among = absurd among
from-least k n (x ∷ es) from e (inl same) = let h : e.fresh ≡ x.fresh = ap (λ (y : Equation). y.fresh) same in omega (arith, h, from.0)
from-least k n (x ∷ es) from e (inr among) = omega (arith, from-least (suc k) n es from.1 e among)

-- anonymous variables that are the same have the same number
number_same : (i j : ℕ) → anonymous i ≡ anonymous j → i ≡ j
number_same i j same = cc

-- each fresh variable has its value
extended-at : (s : Substitution) (k n : ℕ) (es : List Equation) → AreFrom k es n → (e : Equation) → e ∈ es → extended s es (anonymous e.fresh) ≡ value_or (eval s e.term)
extended-at s k n [] from e among = absurd among
extended-at s k n (x ∷ es) from e (inl same) =
    ap (λ (y : Equation). extended s (x ∷ es) (anonymous y.fresh)) same
    ∙ ap (λ b. cond b (value_or (eval s x.term)) (extended s es (anonymous x.fresh))) (variable_itself (anonymous x.fresh))
    ∙ ap (λ (y : Equation). value_or (eval s y.term)) (sym same)
extended-at s k n (x ∷ es) from e (inr among) = by_case (variable_eq (anonymous e.fresh) (anonymous x.fresh)) refl ∙ extended-at s (suc k) n es from.1 e among
  where
    by_case : (b : Bool) → variable_eq (anonymous e.fresh) (anonymous x.fresh) ≡ b
        → cond b (value_or (eval s x.term)) (extended s es (anonymous e.fresh)) ≡ extended s es (anonymous e.fresh)
    by_case true same =
        let equal : e.fresh ≡ x.fresh = number_same e.fresh x.fresh (variable_same (anonymous e.fresh) (anonymous x.fresh) same) in
        absurd (omega (arith, equal, from.0, from-least (suc k) n es from.1 e among))
    by_case false same = refl

-- s' has the values of s for the variables that are named or have numbers below k, and the equations are true under it
pub record IsExtension (s s' : Substitution) (k : ℕ) (es : List Equation) : Type 0 where
  pub keeps : (v : Variable) → IsBelow k v → s' v ≡ s v
  pub equations : Each (Holds s') es

-- a value that is there is the one that is taken
value_or-is : (o : Option Value) (x : Value) → o ≡ Some x → o ≡ Some (value_or o)
value_or-is o x e = e ∙ ap (λ p. Some (value_or p)) (sym e)

-- where the terms of the atoms have values, and their variables numbers below k, there is such an extension for what lifting them from k takes out
pub extension : (s : Substitution) (k : ℕ) (ps : List syntax.Atom) → ((a : syntax.Atom) → a ∈ ps → (t : Term) → t ∈ a.args → IsOld s k t)
    → (s' : Substitution) × IsExtension s s' k (lift_each lift_atom ps k).equations
extension s k ps old =
    let es : List Equation = (lift_each lift_atom ps k).equations in
    let n : ℕ = (lift_each lift_atom ps k).next in
    let from : AreFrom k es n = lift_atoms-from s (IsOld s k) (old_parts s k) ps k in
    let olds : Each (λ e. IsOld s k e.term) es = lift_atoms-old s (IsOld s k) (old_parts s k) ps old k in (
      extended s es,
      record {
        keeps = extended-keeps s k n es from;
        equations = Each-from (Holds (extended s es)) es (λ e among.
            let is_old : IsOld s k e.term = Each-at (λ (e : Equation). IsOld s k e.term) es e olds among in
            eval_same s (extended s es) e.term (λ v i. extended-keeps s k n es from v (is_old.below v i))
            ∙ value_or-is (eval s e.term) is_old.has.0 is_old.has.1
            ∙ ap (λ x. Some x) (sym (extended-at s k n es from e among)));
      },
    )
