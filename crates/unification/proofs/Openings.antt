-- Terms of a rule as terms of a pattern.
use Rattle.std.proofs.Common.{◌≡◌, ◌⊎◌, inl, inr, ℕ, ℤ, zero, suc, ◌+◌, ◌<◌, ◌≤◌, List, [], ◌∷◌, ◌++◌, length, map, drop, slice_get, Option, Some, refl, sym, ap, subst, ◌∙◌, arith, append_assoc, add-one, get_or, cond, Bool, true, false, nat_eq}
use Rattle.std.proofs.lemmas.Option.{same_Some}
use Rattle.std.proofs.lemmas.List.{drop_all, append-nil}
use Rattle.lists.specs.Lists.{◌∈◌, Each}
use Rattle.lists.proofs.ListLemmas.{Each-map, Each-at, ∈-concat_map}
use Rattle.std.proofs.lemmas.Bool.Decides.{Decides-eqb}
use Rattle.term_pool.proofs.PlaceLemmas.{length-map}
use Rattle.asp_syntax.specs.Trees.{name, IsAllowed}
use Rattle.term_pool.specs.Nodes.{IsPool}
use Rattle.term_eval.specs.Evals.{Grows}
use Rattle.term_eval.proofs.Kept.{grows_none, kept_none, grows_on, kept_on}
use Rattle.lists.proofs.Places.{drop-at, ∈-drop}
use Rattle.alpha_outside.specs.declared.kinds.ArithOp.{ArithOp}
use Rattle.alpha_outside.specs.declared.node.Node.{Node}
use Rattle.alpha_outside.specs.declared.pattern.PatternTerm.{PatternTerm}
use Rattle.alpha_outside.specs.declared.pattern.PatternTerm.TheVariants as pattern
use Rattle.core_rules.specs.declared.rules.CoreTerm.{CoreTerm}
use Rattle.core_rules.specs.declared.rules.CoreTerm.TheVariants as term
use Rattle.core_rules.specs.declared.rules.CoreTerm.TheOpen.{CoreTerm-F}
use Rattle.core_rules.specs.declared.rules.CoreTerm.TheOpen as layer
use Rattle.core_rules.specs.declared.rules.CoreTerm.TheViews.{out-CoreTerm, out-roll-CoreTerm}
use Rattle.core_rules.specs.Variables.{variables}
use Rattle.asp_meaning.specs.declared.value.Value.{Value}
use Rattle.asp_meaning.specs.declared.value.Value.TheVariants as value
use Rattle.asp_meaning.specs.Terms.{functional}
use Rattle.core_meaning.specs.Terms.{Partly}
use Rattle.term_pool.specs.Nodes.{value_at, KeepsValues}
use Rattle.unification.specs.Patterns.{HasHole, hole, Piece, IsFine, known, part, IsPatternTerm, pieces, Holes, fill}
use Rattle.unification.specs.Solving.{HolesBelow}
use Rattle.unification.specs.Unifiers.{MayBe, MayAllBe, integer, variable, symbol, text, call, minus, operation}
use Rattle.unification.specs.Opening.{as_values, VariablesBelow, IsOpened, AreOpened}
use Rattle.unification.proofs.PatternTerms.{by_terms, fill-Hole, fill-Known, fill-Fun, fine_hole, fine_known, known_below, fine_argument, fine_call, hole_of_hole, no_hole_known, hole_of_call, has_some}
use Rattle.unification.proofs.Putting.{map_on, fill_same}
use Rattle.core_rules.specs.Names.{parts, IsNamedTerm}
use Rattle.term_eval.proofs.Layers.{variables-Var, variables-Fun, parts-Fun}
use Rattle.search_values.proofs.Basics.{get_in}

-- ---- the outermost symbol of a term

out-Int : (n : ℤ) → out-CoreTerm (term.Int n) ≡ layer.Int n
out-Int n = ap out-CoreTerm (sym (term.rolls-Int n)) ∙ out-roll-CoreTerm (layer.Int n)

out-Var : (x : ℕ) → out-CoreTerm (term.Var x) ≡ layer.Var x
out-Var x = ap out-CoreTerm (sym (term.rolls-Var x)) ∙ out-roll-CoreTerm (layer.Var x)

out-Symbol : (x : List ℕ) → out-CoreTerm (term.Symbol x) ≡ layer.Symbol x
out-Symbol x = ap out-CoreTerm (sym (term.rolls-Symbol x)) ∙ out-roll-CoreTerm (layer.Symbol x)

out-Text : (x : List ℕ) → out-CoreTerm (term.Text x) ≡ layer.Text x
out-Text x = ap out-CoreTerm (sym (term.rolls-Text x)) ∙ out-roll-CoreTerm (layer.Text x)

out-Fun : (f : List ℕ) (args : List CoreTerm) → out-CoreTerm (term.Fun f args) ≡ layer.Fun f args
out-Fun f args = ap out-CoreTerm (sym (term.rolls-Fun f args)) ∙ out-roll-CoreTerm (layer.Fun f args)

out-Minus : (l : CoreTerm) → out-CoreTerm (term.Minus l) ≡ layer.Minus l
out-Minus l = ap out-CoreTerm (sym (term.rolls-Minus l)) ∙ out-roll-CoreTerm (layer.Minus l)

out-Arith : (op : ArithOp) (l r : CoreTerm) → out-CoreTerm (term.Arith op l r) ≡ layer.Arith op l r
out-Arith op l r = ap out-CoreTerm (sym (term.rolls-Arith op l r)) ∙ out-roll-CoreTerm (layer.Arith op l r)

-- ---- what a term may be, by its outermost symbol

abbrev MayBeLayer : Partly → CoreTerm-F CoreTerm → Value → Type 0
MayBeLayer p (layer.Int n) v = v ≡ value.Int n
MayBeLayer p (layer.Var x) v = p x ≡ Some v
MayBeLayer p (layer.Symbol x) v = v ≡ value.Symbol x
MayBeLayer p (layer.Text x) v = v ≡ value.Text x
MayBeLayer p (layer.Fun f args) v = (vs : List Value) × (v ≡ functional f vs) × MayAllBe p args vs
MayBeLayer p (layer.Minus l) v = Unit {0}
MayBeLayer p (layer.Arith op l r) v = Unit {0}

may_layer : (p : Partly) (t : CoreTerm) (v : Value) → MayBe p t v → MayBeLayer p (out-CoreTerm t) v
may_layer p t v (integer _ _ n e is) = subst (λ y. MayBeLayer p y v) (sym (ap out-CoreTerm e ∙ out-Int n)) is
may_layer p t v (variable _ _ x e at) = subst (λ y. MayBeLayer p y v) (sym (ap out-CoreTerm e ∙ out-Var x)) at
may_layer p t v (symbol _ _ x e is) = subst (λ y. MayBeLayer p y v) (sym (ap out-CoreTerm e ∙ out-Symbol x)) is
may_layer p t v (text _ _ x e is) = subst (λ y. MayBeLayer p y v) (sym (ap out-CoreTerm e ∙ out-Text x)) is
may_layer p t v (call _ _ f args vs e is many each) = subst (λ y. MayBeLayer p y v) (sym (ap out-CoreTerm e ∙ out-Fun f args)) (vs, is, (many, each))
may_layer p t v (minus _ _ l e) = subst (λ y. MayBeLayer p y v) (sym (ap out-CoreTerm e ∙ out-Minus l)) tt
may_layer p t v (operation _ _ op l r e) = subst (λ y. MayBeLayer p y v) (sym (ap out-CoreTerm e ∙ out-Arith op l r)) tt

module _ (p : Partly) (t : CoreTerm) (v : Value) where
  pub may-Int : (n : ℤ) → t ≡ term.Int n → MayBe p t v → v ≡ value.Int n
  may-Int n e m = subst (λ y. MayBeLayer p y v) (ap out-CoreTerm e ∙ out-Int n) (may_layer p t v m)

  pub may-Var : (x : ℕ) → t ≡ term.Var x → MayBe p t v → p x ≡ Some v
  may-Var x e m = subst (λ y. MayBeLayer p y v) (ap out-CoreTerm e ∙ out-Var x) (may_layer p t v m)

  pub may-Symbol : (x : List ℕ) → t ≡ term.Symbol x → MayBe p t v → v ≡ value.Symbol x
  may-Symbol x e m = subst (λ y. MayBeLayer p y v) (ap out-CoreTerm e ∙ out-Symbol x) (may_layer p t v m)

  pub may-Text : (x : List ℕ) → t ≡ term.Text x → MayBe p t v → v ≡ value.Text x
  may-Text x e m = subst (λ y. MayBeLayer p y v) (ap out-CoreTerm e ∙ out-Text x) (may_layer p t v m)

  pub may-Fun : (f : List ℕ) (args : List CoreTerm) → t ≡ term.Fun f args → MayBe p t v → (vs : List Value) × (v ≡ functional f vs) × MayAllBe p args vs
  may-Fun f args e m = subst (λ y. MayBeLayer p y v) (ap out-CoreTerm e ∙ out-Fun f args) (may_layer p t v m)

-- only the values of the term's own variables matter
pub may_same : (p q : Partly) (t : CoreTerm) (v : Value) → ((x : ℕ) → x ∈ variables t → p x ≡ q x) → MayBe p t v → MayBe q t v
may_same p q t v agree (integer _ _ n e is) = integer t v n e is
may_same p q t v agree (variable _ _ x e at) = variable t v x e (sym (agree x (subst (λ vs. x ∈ vs) (sym (ap variables e ∙ variables-Var x)) (inl refl))) ∙ at)
may_same p q t v agree (symbol _ _ x e is) = symbol t v x e is
may_same p q t v agree (text _ _ x e is) = text t v x e is
may_same p q t v agree (call _ _ g us ws e is many each) = call t v g us ws e is many (λ i a w at to.
    may_same p q a w (λ x k. agree x (subst (λ vs. x ∈ vs) (sym (ap variables e ∙ variables-Fun g us)) (∈-concat_map variables a us x (get_in us i a at) k))) (each i a w at to))
may_same p q t v agree (minus _ _ l e) = minus t v l e
may_same p q t v agree (operation _ _ op l r e) = operation t v op l r e

pub may_all_same : (p q : Partly) (ts : List CoreTerm) (vs : List Value) → ((t : CoreTerm) → t ∈ ts → (x : ℕ) → x ∈ variables t → p x ≡ q x) → MayAllBe p ts vs → MayAllBe q ts vs
may_all_same p q ts vs agree may = (may.0, λ i t v at to. may_same p q t v (agree t (get_in ts i t at)) (may.1 i t v at to))

-- one more term before others
pub may_cons : (p : Partly) (t : CoreTerm) (ts : List CoreTerm) (v : Value) (vs : List Value) → MayBe p t v → MayAllBe p ts vs → MayAllBe p (t ∷ ts) (v ∷ vs)
may_cons p t ts v vs first rest = (ap suc rest.0, each)
  where
    each : (i : ℕ) (a : CoreTerm) (w : Value) → slice_get (t ∷ ts) i ≡ Some a → slice_get (v ∷ vs) i ≡ Some w → MayBe p a w
    each zero a w at to = let one : t ≡ a = same_Some t a at in let two : v ≡ w = same_Some v w to in subst (λ u. MayBe p u w) one (subst (MayBe p t) two first)
    each (suc i) a w at to = rest.1 i a w at to

pub may_tail : (p : Partly) (t : CoreTerm) (ts : List CoreTerm) (v : Value) (vs : List Value) → MayAllBe p (t ∷ ts) (v ∷ vs) → MayAllBe p ts vs
may_tail p t ts v vs may = (omega (arith, may.0), λ i a w at to. may.1 (suc i) a w at to)

-- ---- growing pools

module _ (a b : List Node) (kept : KeepsValues a b) where
  piece_kept : (q : Piece) → IsFine (length a) q → IsFine (length b) q
  piece_kept (hole x) fine = tt
  piece_kept (known id) fine = omega (arith, fine, kept.0)
  piece_kept (part x) fine = fine

  pub fine_kept : (t : PatternTerm) → IsPatternTerm (length a) t → IsPatternTerm (length b) t
  fine_kept t fine = Each-map (IsFine (length a)) (IsFine (length b)) piece_kept (pieces t) fine

  pub fill_kept : (h : Holes) (t : PatternTerm) → IsPatternTerm (length a) t → fill b h t ≡ fill a h t
  fill_kept h = by_terms (λ t. IsPatternTerm (length a) t → fill b h t ≡ fill a h t)
      (λ x fine. fill-Hole b h x ∙ sym (fill-Hole a h x))
      (λ id fine. fill-Known b h id ∙ kept.1 id (known_below (length a) id fine) ∙ sym (fill-Known a h id))
      (λ f args ih fine. fill-Fun b h f args ∙ ap (functional f) (map_on (fill b h) (fill a h) args (λ u i. ih u i (fine_argument (length a) f args fine u i))) ∙ sym (fill-Fun a h f args))

  pub opened_kept : (from to : ℕ) (t : CoreTerm) (p : PatternTerm) → IsOpened a from to t p → IsOpened b from to t p
  opened_kept from to t p o = record {
    ordered = o.ordered;
    formed = fine_kept p o.formed;
    below = o.below;
    sound = λ h. subst (MayBe (as_values h) t) (sym (fill_kept h p o.formed)) (o.sound h);
    reached = λ h v may. let r = o.reached h v may in (r.0, r.1, fill_kept r.0 p o.formed ∙ r.2);
  }

-- ---- terms one after another

module _ (nodes : List Node) where
  pub opened_none : (n : ℕ) → AreOpened nodes n n [] []
  opened_none n = record {
    ordered = omega arith;
    formed = tt;
    below = tt;
    sound = λ h. (refl, λ i t v at to. absurd (cc));
    reached = λ h vs may. (h, (λ y out. refl), none vs may.0);
  }
    where
      none : (vs : List Value) → 0 ≡ length vs → [] ≡ vs
      none [] e = refl
      none (v ∷ vs) e = absurd (omega (arith, e))

  pub opened_cons : (from mid to : ℕ) (t : CoreTerm) (ts : List CoreTerm) (p : PatternTerm) (ps : List PatternTerm) → ((u : CoreTerm) → u ∈ ts → VariablesBelow from u)
      → IsOpened nodes from mid t p → AreOpened nodes mid to ts ps → AreOpened nodes from to (t ∷ ts) (p ∷ ps)
  opened_cons from mid to t ts p ps low o os = record {
    ordered = omega (arith, o.ordered, os.ordered);
    formed = (o.formed, os.formed);
    below = ((λ y has. omega (arith, o.below y has, os.ordered)), os.below);
    sound = λ h. may_cons (as_values h) t ts (fill nodes h p) (map (fill nodes h) ps) (o.sound h) (os.sound h);
    reached = on_all;
  }
    where
      on_all : (h : Holes) (vs : List Value) → MayAllBe (as_values h) (t ∷ ts) vs → (k : Holes) × ((y : ℕ) → (y < from) ⊎ (to ≤ y) → k y ≡ h y) × (map (fill nodes k) (p ∷ ps) ≡ vs)
      on_all h [] may = absurd (omega (arith, may.0))
      on_all h (v ∷ vs) may =
          let r = o.reached h v (may.1 zero t v refl refl) in
          let rest : MayAllBe (as_values r.0) ts vs = may_all_same (as_values h) (as_values r.0) ts vs
          (λ u i x k. ap Some (sym (r.1 x (inl (low u i x k))))) (may_tail (as_values h) t ts v vs may) in
          let q = os.reached r.0 vs rest in
          let first : fill nodes q.0 p ≡ v = fill_same nodes q.0 r.0 p (λ x has. q.1 x (inl (o.below x has))) ∙ r.2 in
          let others = q.2 in (
            q.0,
            (λ y out. elim out [
              | inl less ↦ q.1 y (inl (omega (arith, less, o.ordered))) ∙ r.1 y (inl less)
              | inr more ↦ q.1 y (inr more) ∙ r.1 y (inr (omega (arith, more, os.ordered)))
            ]),
            (λ i. first i ∷ others i),
          )

-- the first arguments were opened: whatever the others become, all do together
pub record IsOpening (old now : List Node) (from mid : ℕ) (args rest : List CoreTerm) (parts : List PatternTerm) : Type 0 where
  pub grows : Grows old now
  pub kept : KeepsValues old now
  pub pool : IsPool now
  pub later : from ≤ mid
  pub goes : (nodes : List Node) (to : ℕ) (qs : List PatternTerm) → KeepsValues now nodes → AreOpened nodes mid to rest qs → AreOpened nodes from to args (parts ++ qs)

pub opening_first : (old : List Node) (from : ℕ) (args : List CoreTerm) (none : List PatternTerm) → IsPool old → none ≡ [] → IsOpening old old from from args args none
opening_first old from args none pool empty = subst (IsOpening old old from from args args) (sym empty) (record {
  grows = grows_none old;
  kept = kept_none old;
  pool = pool;
  later = omega arith;
  goes = λ nodes to qs kept os. os;
})

-- one more argument
pub opening_next : (old now next : List Node) (from mid to : ℕ) (args : List CoreTerm) (parts more : List PatternTerm) (i : ℕ) (a : CoreTerm) (p : PatternTerm)
    → IsOpening old now from mid args (drop i args) parts → ((u : CoreTerm) → u ∈ args → VariablesBelow from u) → i < length args → a ≡ get_or args i a
    → Grows now next → KeepsValues now next → IsPool next → mid ≤ to → IsOpened next mid to a p → more ≡ parts ++ p ∷ []
    → IsOpening old next from to args (drop (i + 1) args) more
opening_next old now next from mid to args parts more i a p way low lt read grows kept pool later o pushed = record {
  grows = grows_on old now next way.grows grows;
  kept = kept_on old now next way.kept kept;
  pool = pool;
  later = omega (arith, way.later, later);
  goes = λ nodes end qs keeps os.
      let rest = drop-at args i a lt read in
      let all = way.goes nodes end (p ∷ qs) (kept_on now next nodes kept keeps)
      (subst (λ ts. AreOpened nodes mid end ts (p ∷ qs)) (sym rest) (opened_cons nodes mid to end a (drop (i + 1) args) p qs
      (λ u k x j. omega (arith, low u (∈-drop (i + 1) args u k) x j, way.later)) (opened_kept next nodes keeps mid to a p o) os)) in
      subst (AreOpened nodes from end args) (sym (ap (λ l. l ++ qs) pushed ∙ append_assoc parts (p ∷ []) qs)) all;
}

-- none is left
pub opening_all : (old now : List Node) (from mid : ℕ) (args : List CoreTerm) (parts : List PatternTerm) (i : ℕ) → IsOpening old now from mid args (drop i args) parts → length args ≤ i
    → AreOpened now from mid args parts
opening_all old now from mid args parts i way le =
    subst (AreOpened now from mid args) (append-nil parts)
    (way.goes now mid [] (kept_none now) (subst (λ ts. AreOpened now mid mid ts []) (sym (drop_all i args le)) (opened_none now mid)))

-- ---- a term, by its outermost symbol

pub opened_Fun : (nodes : List Node) (from to : ℕ) (t : CoreTerm) (f : List ℕ) (args : List CoreTerm) (ps : List PatternTerm) → t ≡ term.Fun f args → 0 < length args → IsAllowed (name f)
    → from ≤ to → AreOpened nodes from to args ps → IsOpened nodes from to t (pattern.Fun f ps)
opened_Fun nodes from to t f args ps is some named later os = record {
  ordered = later;
  formed = fine_call (length nodes) f ps (omega (arith, some, count)) named (λ u k. Each-at (IsPatternTerm (length nodes)) ps u os.formed k);
  below = λ y has. let r = hole_of_call y f ps has in Each-at (HolesBelow to) ps r.0 os.below r.1 y r.2;
  sound = λ h. call t (fill nodes h (pattern.Fun f ps)) f args (map (fill nodes h) ps) is (fill-Fun nodes h f ps) (os.sound h).0 (os.sound h).1;
  reached = λ h v may.
      let r = may-Fun (as_values h) t v f args is may in
      let q = os.reached h r.0 r.2 in
      (q.0, q.1, fill-Fun nodes q.0 f ps ∙ ap (functional f) q.2 ∙ sym r.1);
}
  where
    count : length args ≡ length ps
    count = (os.sound (λ x. value_at nodes x)).0 ∙ length-map (fill nodes (λ x. value_at nodes x)) ps

pub opened_Var : (nodes : List Node) (from : ℕ) (t : CoreTerm) (x : ℕ) → t ≡ term.Var x → VariablesBelow from t → IsOpened nodes from from t (pattern.Hole x)
opened_Var nodes from t x is low = record {
  ordered = omega arith;
  formed = fine_hole (length nodes) x;
  below = λ y has. subst (λ z. z < from) (sym (hole_of_hole x y has)) (low x (subst (λ vs. x ∈ vs) (sym (ap variables is ∙ variables-Var x)) (inl refl)));
  sound = λ h. variable t (fill nodes h (pattern.Hole x)) x is (ap Some (sym (fill-Hole nodes h x)));
  reached = λ h v may. (h, (λ y out. refl), fill-Hole nodes h x ∙ same_Some (h x) v (may-Var (as_values h) t v x is may));
}

-- a term without parts
pub opened_leaf : (nodes : List Node) (from : ℕ) (t : CoreTerm) (p : PatternTerm) (u : Value) → ((id : ℕ) × (p ≡ pattern.Known id) × (id < length nodes) × (value_at nodes id ≡ u))
    → ((q : Partly) → MayBe q t u) → ((q : Partly) (v : Value) → MayBe q t v → v ≡ u) → IsOpened nodes from from t p
opened_leaf nodes from t p u found may must = subst (IsOpened nodes from from t) (sym found.1) (record {
  ordered = omega arith;
  formed = fine_known (length nodes) found.0 found.2;
  below = λ y has. absurd (no_hole_known found.0 y has);
  sound = λ h. subst (MayBe (as_values h) t) (sym (fill-Known nodes h found.0 ∙ found.3)) (may (as_values h));
  reached = λ h v m. (h, (λ y out. refl), fill-Known nodes h found.0 ∙ found.3 ∙ sym (must (as_values h) v m));
})

-- an operation
pub opened_any : (nodes : List Node) (from to : ℕ) (t : CoreTerm) → to ≡ from + 1 → ((q : Partly) (v : Value) → MayBe q t v) → IsOpened nodes from to t (pattern.Hole from)
opened_any nodes from to t next any = record {
  ordered = omega (arith, next);
  formed = fine_hole (length nodes) from;
  below = λ y has. omega (arith, next, hole_of_hole from y has);
  sound = λ h. any (as_values h) (fill nodes h (pattern.Hole from));
  reached = λ h v m. ((λ y. cond (nat_eq y from) v (h y)), (λ y out. ap (λ b. cond b v (h y)) (apart y out)), fill-Hole nodes (λ y. cond (nat_eq y from) v (h y)) from ∙ ap (λ b. cond b v (h from)) ((Decides-eqb from from).1 refl));
}
  where
    apart : (y : ℕ) → (y < from) ⊎ (to ≤ y) → nat_eq y from ≡ false
    apart y out = by_case (nat_eq y from) refl
      where
        by_case : (b : Bool) → nat_eq y from ≡ b → nat_eq y from ≡ false
        by_case false e = e
        by_case true e = let s = (Decides-eqb y from).0 e in elim out [ inl less ↦ absurd (omega (arith, less, s)) | inr more ↦ absurd (omega (arith, more, s, next)) ]

-- ---- the arguments of a term

pub name_allowed : (t : CoreTerm) (f : List ℕ) (args : List CoreTerm) → t ≡ term.Fun f args → IsNamedTerm t → IsAllowed (name f)
name_allowed t f [] e named = absurd (subst (Each IsAllowed) (ap parts e ∙ parts-Fun f []) named).0
name_allowed t f (a ∷ args) e named = (subst (Each IsAllowed) (ap parts e ∙ parts-Fun f (a ∷ args)) named).0

pub argument_low : (n : ℕ) (t : CoreTerm) (f : List ℕ) (args : List CoreTerm) (x : CoreTerm) → t ≡ term.Fun f args → x ∈ args → VariablesBelow n t → VariablesBelow n x
argument_low n t f args x e among low v inside = low v (subst (λ vs. v ∈ vs) (sym (ap variables e ∙ variables-Fun f args)) (∈-concat_map variables x args v among inside))

-- a new hole for an operation
pub opened_new : (nodes : List Node) (from to : ℕ) (t : CoreTerm) (p : PatternTerm) → (p ≡ pattern.Hole from) × (to ≡ from + 1) → ((q : Partly) (v : Value) → MayBe q t v) → IsOpened nodes from to t p
opened_new nodes from to t p is any = subst (IsOpened nodes from to t) (sym is.0) (opened_any nodes from to t is.1 any)
