-- What lifting leaves of a term, and what its equations say.
use Rattle.std.proofs.Common.{◌≡◌, ◌⊎◌, inl, inr, refl, sym, ap, subst, ◌∙◌, ℕ, suc, Bool, false, ◌||◌, List, [], ◌∷◌, map}
use Rattle.std.specs.List.{list_any}
use Rattle.lists.specs.Lists.{◌∈◌, ◌⊆◌, Each, concat}
use Rattle.lists.proofs.ListLemmas.{Each-at, Each-from, ∈-map_from}
use Rattle.asp_syntax.specs.declared.tree.Term.{Term, map-Term}
use Rattle.asp_syntax.specs.declared.tree.Term.TheOpen.{Term-F}
use Rattle.asp_syntax.specs.declared.tree.Term.TheOpen as layer
use Rattle.asp_syntax.specs.declared.tree.Term.TheViews.{roll-Term}
use Rattle.asp_syntax.specs.declared.tree.Term.TheFolds.{fold-Term, fold-roll-Term}
use Rattle.asp_syntax.specs.Trees.{Part, IsAllowed, call_parts, parts, parts_step, IsWellFormedTerm}
use Rattle.asp_meaning.specs.Terms.{Variable, anonymous}
use Rattle.asp_meaning.specs.Variables.{variables, variables_step}
use Rattle.asp_safety.specs.Binding.{outside_arithmetic, outside_step, outside_of, variables_of}
use Rattle.rewriting.specs.Lifting.{Equation, Lifted, Lifting, lift_each, call_with, lift_step, lift_term}
use Rattle.rewriting.proofs.TermInduction.{children, by_children}
use Rattle.rewriting.proofs.NumberedTerms.{has_arithmetic, arithmetic_step}
use Rattle.rewriting.proofs.LiftedLists.{∈-concat_map, ∈-concat_map_from, lifted_from, lifted_to, equation_from, lift_each-map}

-- ---- lifting, layer by layer

-- a term with all that it becomes
abbrev lifting : Term → Lifting
lifting = fold-Term Lifting lift_step

-- the term that is lifted is kept whole beside
whole_same : (t : Term) → (lifting t).whole ≡ t
whole_same = by_children (λ t. (lifting t).whole ≡ t) (λ y h. ap (λ (l : Lifting). l.whole) (fold-roll-Term Lifting lift_step y) ∙ of_layer y h)
  where
    list_same : (ts : List Term) → ((u : Term) → u ∈ ts → (lifting u).whole ≡ u) → map (λ (l : Lifting). l.whole) (map lifting ts) ≡ ts
    list_same [] h = refl
    list_same (t ∷ ts) h = let first = h t (inl refl) in let rest = list_same ts (λ u k. h u (inr k)) in λ i. first i ∷ rest i

    of_layer : (y : Term-F Term) → ((u : Term) → u ∈ children y → (lifting u).whole ≡ u) → (lift_step (map-Term Term Lifting lifting y)).whole ≡ roll-Term y
    of_layer (layer.Int n) h = refl
    of_layer (layer.Variable x) h = refl
    of_layer (layer.Anonymous k) h = refl
    of_layer (layer.Symbol x) h = refl
    of_layer (layer.Text x) h = refl
    of_layer (layer.Fun f args) h = ap (λ ts. roll-Term (layer.Fun f ts)) (list_same args h)
    of_layer (layer.Minus t) h = ap (λ u. roll-Term (layer.Minus u)) (h t (inl refl))
    of_layer (layer.Arith op l r) h = let a = h l (inl refl) in let b = h r (inr (inl refl)) in λ i. roll-Term (layer.Arith op (a i) (b i))

-- the term as it is
abbrev kept : Term → ℕ → Lifted Term
kept t k = record { lifted = t; equations = []; next = k }

-- a fresh variable in place of the term, and its equation
abbrev out : Term → ℕ → Lifted Term
out t k = record { lifted = roll-Term (layer.Anonymous k); equations = record { fresh = k; term = t } ∷ []; next = suc k }

-- what a layer becomes
abbrev pub lift_layer : Term-F Term → ℕ → Lifted Term
lift_layer (layer.Int n) k = kept (roll-Term (layer.Int n)) k
lift_layer (layer.Variable x) k = kept (roll-Term (layer.Variable x)) k
lift_layer (layer.Anonymous j) k = kept (roll-Term (layer.Anonymous j)) k
lift_layer (layer.Symbol x) k = kept (roll-Term (layer.Symbol x)) k
lift_layer (layer.Text x) k = kept (roll-Term (layer.Text x)) k
lift_layer (layer.Fun f args) k = call_with f (lift_each lift_term args k)
lift_layer (layer.Minus t) k = out (roll-Term (layer.Minus t)) k
lift_layer (layer.Arith op l r) k = out (roll-Term (layer.Arith op l r)) k

-- lifting a term is lifting its layer
pub lift_roll : (y : Term-F Term) (k : ℕ) → lift_term (roll-Term y) k ≡ lift_layer y k
lift_roll y k = ap (λ (l : Lifting). l.from k) (fold-roll-Term Lifting lift_step y) ∙ of_layer y
  where
    of_layer : (y : Term-F Term) → (lift_step (map-Term Term Lifting lifting y)).from k ≡ lift_layer y k
    of_layer (layer.Int n) = refl
    of_layer (layer.Variable x) = refl
    of_layer (layer.Anonymous j) = refl
    of_layer (layer.Symbol x) = refl
    of_layer (layer.Text x) = refl
    of_layer (layer.Fun f args) = ap (call_with f) (lift_each-map (λ (l : Lifting). l.from) lifting args k)
    of_layer (layer.Minus t) = ap (λ u. out (roll-Term (layer.Minus u)) k) (whole_same t)
    of_layer (layer.Arith op l r) = let a = whole_same l in let b = whole_same r in λ i. out (roll-Term (layer.Arith op (a i) (b i))) k

-- ---- what is left

-- v is what one of the equations says the value of
abbrev pub IsFresh : List Equation → Variable → Type 0
IsFresh equations v = (e : Equation) × (e ∈ equations) × (v ≡ anonymous e.fresh)

-- the term has only variables of t, and only names and texts that t has
pub record IsWithin (t u : Term) : Type 0 where
  pub variables : variables u ⊆ variables t
  pub formed : IsWellFormedTerm t → IsWellFormedTerm u

-- no arithmetic is left, no variable outside arithmetic is lost, those that come are fresh, and the equations speak of parts of the term
pub record IsLift (t : Term) (l : Lifted Term) : Type 0 where
  pub plain : has_arithmetic l.lifted ≡ false
  pub outside : outside_arithmetic t ⊆ outside_arithmetic l.lifted
  pub variables : (v : Variable) → v ∈ variables l.lifted → (v ∈ variables t) ⊎ IsFresh l.equations v
  pub formed : IsWellFormedTerm t → IsWellFormedTerm l.lifted
  pub sources : (e : Equation) → e ∈ l.equations → IsWithin t e.term

-- a term without arithmetic stays
kept_good : (t : Term) (k : ℕ) → has_arithmetic t ≡ false → IsLift t (kept t k)
kept_good t k plain = record {
  plain = plain;
  outside = λ v h. h;
  variables = λ v h. inl h;
  formed = λ h. h;
  sources = λ e h. absurd h;
}

-- arithmetic goes out
out_good : (t : Term) (k : ℕ) → outside_arithmetic t ≡ [] → IsLift t (out t k)
out_good t k none = record {
  plain = fold-roll-Term Bool arithmetic_step (layer.Anonymous k);
  outside = λ v h. absurd (subst (λ vs. v ∈ vs) none h);
  variables = λ v h. fresh v (subst (λ vs. v ∈ vs) (fold-roll-Term (List Variable) variables_step (layer.Anonymous k)) h);
  formed = λ h. subst (Each IsAllowed) (sym (fold-roll-Term (List Part) parts_step (layer.Anonymous k))) tt;
  sources = λ e h. source e h;
}
  where
    fresh : (v : Variable) → v ∈ (anonymous k ∷ []) → (v ∈ variables t) ⊎ IsFresh (record { fresh = k; term = t } ∷ []) v
    fresh v (inl e) = inr (record { fresh = k; term = t }, inl refl, e)
    fresh v (inr none) = absurd none

    source : (e : Equation) → e ∈ (record { fresh = k; term = t } ∷ []) → IsWithin t e.term
    source e (inl same) = subst (λ (q : Equation). IsWithin t q.term) (sym same) (record { variables = λ v h. h; formed = λ h. h })
    source e (inr none) = absurd none

-- ---- functional terms

-- none of these tests is true
none_true : (bs : List Bool) → ((b : Bool) → b ∈ bs → b ≡ false) → list_any (λ there. there) bs ≡ false
none_true [] h = refl
none_true (b ∷ bs) h = let first = h b (inl refl) in let rest = none_true bs (λ c k. h c (inr k)) in λ i. first i || rest i

-- the variables of a functional term are those of its arguments
variables_call : (f : List ℕ) (args : List Term) → variables (roll-Term (layer.Fun f args)) ≡ concat (map variables args)
variables_call f args = fold-roll-Term (List Variable) variables_step (layer.Fun f args)

-- so are those outside arithmetic
outside_call : (f : List ℕ) (args : List Term) → outside_arithmetic (roll-Term (layer.Fun f args)) ≡ concat (map outside_arithmetic args)
outside_call f args = fold-roll-Term (List Variable) outside_step (layer.Fun f args)

-- a functional term has arithmetic where one of its arguments has
arithmetic_call : (f : List ℕ) (args : List Term) → has_arithmetic (roll-Term (layer.Fun f args)) ≡ list_any (λ there. there) (map has_arithmetic args)
arithmetic_call f args = fold-roll-Term Bool arithmetic_step (layer.Fun f args)

-- the names and texts of a functional term
parts_call : (f : List ℕ) (args : List Term) → parts (roll-Term (layer.Fun f args)) ≡ call_parts f (map parts args)
parts_call f args = fold-roll-Term (List Part) parts_step (layer.Fun f args)

-- an argument of a functional term has only its variables, names and texts
argument_within : (f : List ℕ) (args : List Term) (u : Term) → u ∈ args → IsWithin (roll-Term (layer.Fun f args)) u
argument_within f args u k = record {
  variables = λ v h. subst (λ vs. v ∈ vs) (sym (variables_call f args)) (∈-concat_map variables u args v k h);
  formed = λ h. Each-from IsAllowed (parts u) (λ p j. Each-at IsAllowed (concat (map parts args)) p (of_call args (subst (Each IsAllowed) (parts_call f args) h)) (∈-concat_map parts u args p k j));
}
  where
    of_call : (args : List Term) → Each IsAllowed (call_parts f (map parts args)) → Each IsAllowed (concat (map parts args))
    of_call [] h = tt
    of_call (a ∷ args) h = h.1

-- a part of a part
within_trans : (t u w : Term) → IsWithin t u → IsWithin u w → IsWithin t w
within_trans t u w first second = record {
  variables = λ v h. first.variables v (second.variables v h);
  formed = λ h. second.formed (first.formed h);
}

-- what a list of terms becomes, where each is lifted well
module _ (ts : List Term) (k : ℕ) (good : (u : Term) → u ∈ ts → (j : ℕ) → IsLift u (lift_term u j)) where
  -- what the list becomes
  abbrev all : Lifted (List Term)
  all = lift_each lift_term ts k

  -- no arithmetic is left in any of them
  list_plain : (t : Term) → t ∈ all.lifted → has_arithmetic t ≡ false
  list_plain t h = let of = lifted_from lift_term ts k t h in ap has_arithmetic of.is ∙ (good of.source of.among of.start).plain

  -- no variable outside arithmetic is lost
  list_outside : outside_of ts ⊆ outside_of all.lifted
  list_outside v h =
      let found = ∈-concat_map_from outside_arithmetic ts v h in
      let made = lifted_to lift_term ts k found.0 found.1 in
      ∈-concat_map outside_arithmetic (lift_term found.0 made.start).lifted all.lifted v made.among ((good found.0 found.1 made.start).outside v found.2)

  -- the variables that come are fresh
  list_variables : (v : Variable) → v ∈ variables_of all.lifted → (v ∈ variables_of ts) ⊎ IsFresh all.equations v
  list_variables v h =
      let found = ∈-concat_map_from variables all.lifted v h in
      let of = lifted_from lift_term ts k found.0 found.1 in
      elim ((good of.source of.among of.start).variables v (subst (λ t. v ∈ variables t) of.is found.2)) [
        | inl j ↦ inl (∈-concat_map variables of.source ts v of.among j)
        | inr fresh ↦ inr (fresh.0, of.within fresh.0 fresh.1, fresh.2)
      ]

  -- names and texts stay fine
  list_formed : Each IsWellFormedTerm ts → Each IsWellFormedTerm all.lifted
  list_formed h = Each-from IsWellFormedTerm all.lifted (λ t j.
      let of = lifted_from lift_term ts k t j in
      subst IsWellFormedTerm (sym of.is) ((good of.source of.among of.start).formed (Each-at IsWellFormedTerm ts of.source h of.among)))

  -- each equation speaks of a part of one of the terms
  list_sources : (e : Equation) → e ∈ all.equations → (u : Term) × (u ∈ ts) × IsWithin u e.term
  list_sources e h = let of = equation_from lift_term ts k e h in (of.source, of.among, (good of.source of.among of.start).sources e of.here)

-- lists have parts that are fine where each of their terms is fine
concat_formed : (ts : List Term) → Each IsWellFormedTerm ts → Each IsAllowed (concat (map parts ts))
concat_formed ts h = Each-from IsAllowed (concat (map parts ts)) (λ p j.
    let found = ∈-concat_map_from parts ts p j in Each-at IsAllowed (parts found.0) p (Each-at IsWellFormedTerm ts found.0 h found.1) found.2)

-- a functional term with lifted arguments
call_formed : (f : List ℕ) (ts : List Term) (k : ℕ) → Each IsAllowed (call_parts f (map parts ts)) → Each IsWellFormedTerm (lift_each lift_term ts k).lifted
    → Each IsAllowed (call_parts f (map parts (lift_each lift_term ts k).lifted))
call_formed f [] k h formed = h
call_formed f (t ∷ ts) k h formed = (h.0, concat_formed (lift_each lift_term (t ∷ ts) k).lifted formed)

-- a functional term is lifted argument by argument
call_good : (f : List ℕ) (args : List Term) (k : ℕ) → ((u : Term) → u ∈ args → (j : ℕ) → IsLift u (lift_term u j))
    → IsLift (roll-Term (layer.Fun f args)) (call_with f (lift_each lift_term args k))
call_good f args k good =
    let lifted = (lift_each lift_term args k).lifted in record {
      plain = arithmetic_call f lifted ∙ none_true (map has_arithmetic lifted) (λ b h. let found = ∈-map_from has_arithmetic b lifted h in found.2 ∙ list_plain args k good found.0 found.1);
      outside = λ v h. subst (λ vs. v ∈ vs) (sym (outside_call f lifted)) (list_outside args k good v (subst (λ vs. v ∈ vs) (outside_call f args) h));
      variables = λ v h. elim (list_variables args k good v (subst (λ vs. v ∈ vs) (variables_call f lifted) h)) [
        | inl j ↦ inl (subst (λ vs. v ∈ vs) (sym (variables_call f args)) j)
        | inr fresh ↦ inr fresh
      ];
      formed = λ h. subst (Each IsAllowed) (sym (parts_call f lifted)) (call_formed f args k (subst (Each IsAllowed) (parts_call f args) h)
          (list_formed args k good (Each-from IsWellFormedTerm args (λ u j. (argument_within f args u j).formed h))));
      sources = λ e h. let from = list_sources args k good e h in within_trans (roll-Term (layer.Fun f args)) from.0 e.term (argument_within f args from.0 from.1) from.2;
    }

-- a layer is lifted well where the terms in it are
layer_good : (y : Term-F Term) → ((u : Term) → u ∈ children y → (j : ℕ) → IsLift u (lift_term u j)) → (k : ℕ) → IsLift (roll-Term y) (lift_layer y k)
layer_good (layer.Int n) h k = kept_good (roll-Term (layer.Int n)) k (fold-roll-Term Bool arithmetic_step (layer.Int n))
layer_good (layer.Variable x) h k = kept_good (roll-Term (layer.Variable x)) k (fold-roll-Term Bool arithmetic_step (layer.Variable x))
layer_good (layer.Anonymous j) h k = kept_good (roll-Term (layer.Anonymous j)) k (fold-roll-Term Bool arithmetic_step (layer.Anonymous j))
layer_good (layer.Symbol x) h k = kept_good (roll-Term (layer.Symbol x)) k (fold-roll-Term Bool arithmetic_step (layer.Symbol x))
layer_good (layer.Text x) h k = kept_good (roll-Term (layer.Text x)) k (fold-roll-Term Bool arithmetic_step (layer.Text x))
layer_good (layer.Fun f args) h k = call_good f args k h
layer_good (layer.Minus t) h k = out_good (roll-Term (layer.Minus t)) k (fold-roll-Term (List Variable) outside_step (layer.Minus t))
layer_good (layer.Arith op l r) h k = out_good (roll-Term (layer.Arith op l r)) k (fold-roll-Term (List Variable) outside_step (layer.Arith op l r))

-- each term is lifted well
pub lift_good : (t : Term) (k : ℕ) → IsLift t (lift_term t k)
lift_good = by_children (λ t. (k : ℕ) → IsLift t (lift_term t k)) (λ y h k. subst (IsLift (roll-Term y)) (sym (lift_roll y k)) (layer_good y h k))

-- ---- the terms of a list, and atoms

-- no arithmetic is left in the terms of a list
pub terms_plain : (ts : List Term) (k : ℕ) (t : Term) → t ∈ (lift_each lift_term ts k).lifted → has_arithmetic t ≡ false
terms_plain ts k = list_plain ts k (λ u h. lift_good u)

-- none of their variables outside arithmetic is lost
pub terms_outside : (ts : List Term) (k : ℕ) → outside_of ts ⊆ outside_of (lift_each lift_term ts k).lifted
terms_outside ts k = list_outside ts k (λ u h. lift_good u)

-- their variables are those that were there, and fresh ones
pub terms_variables : (ts : List Term) (k : ℕ) (v : Variable) → v ∈ variables_of (lift_each lift_term ts k).lifted → (v ∈ variables_of ts) ⊎ IsFresh (lift_each lift_term ts k).equations v
terms_variables ts k = list_variables ts k (λ u h. lift_good u)

-- their names and texts stay fine
pub terms_formed : (ts : List Term) (k : ℕ) → Each IsWellFormedTerm ts → Each IsWellFormedTerm (lift_each lift_term ts k).lifted
terms_formed ts k = list_formed ts k (λ u h. lift_good u)

-- each equation speaks of a part of one of them
pub terms_sources : (ts : List Term) (k : ℕ) (e : Equation) → e ∈ (lift_each lift_term ts k).equations → (u : Term) × (u ∈ ts) × IsWithin u e.term
terms_sources ts k = list_sources ts k (λ u h. lift_good u)
