-- The test for the atoms that fit a pattern is right: what an atom says of the holes gives its arguments back, where any values do.
use Rattle.std.proofs.Common.{◌≡◌, ℕ, inl, inr, ◌⊎◌, Bool, true, false, cond, nat_eq, ◌&&◌, List, [], ◌∷◌, ◌++◌, length, map, take, drop, refl, sym, ap, subst, ◌∙◌}
use Rattle.std.specs.Prelude.{Option, Some, None, slice_get}
use Rattle.std.proofs.lemmas.List.{take-append-drop}
use Rattle.std.proofs.lemmas.Bool.Decides.{Decides-eqb}
use Rattle.lists.specs.Lists.{◌∈◌}
use Rattle.lists.proofs.ListLemmas.{∈-append_left, ∈-append_right, ∈-append_cases}
use Rattle.alpha_outside.specs.declared.node.Node.{Node}
use Rattle.alpha_outside.specs.declared.pred.Pred.{Pred}
use Rattle.alpha_outside.specs.declared.pred.Pred.TheVariants as pred
use Rattle.alpha_outside.specs.declared.pattern.Pattern.{Pattern}
use Rattle.alpha_outside.specs.declared.pattern.PatternTerm.{PatternTerm, map-PatternTerm}
use Rattle.alpha_outside.specs.declared.pattern.PatternTerm.TheOpen.{PatternTerm-F}
use Rattle.alpha_outside.specs.declared.pattern.PatternTerm.TheOpen as layer
use Rattle.alpha_outside.specs.declared.pattern.PatternTerm.TheVariants as pattern
use Rattle.alpha_outside.specs.declared.pattern.PatternTerm.TheViews.{roll-PatternTerm}
use Rattle.alpha_outside.specs.declared.pattern.PatternTerm.TheFolds.{ind-PatternTerm, fold-roll-PatternTerm}
use Rattle.asp_meaning.specs.declared.value.Value.{Value}
use Rattle.asp_meaning.specs.declared.value.Value.TheOpen as part
use Rattle.asp_meaning.specs.declared.value.Value.TheVariants as value
use Rattle.asp_meaning.specs.declared.value.Value.TheViews.{out-roll-Value}
use Rattle.asp_meaning.specs.Terms.{functional}
use Rattle.term_pool.specs.Nodes.{value_at}
use Rattle.core_rules.specs.declared.rules.Core.{Core}
use Rattle.core_rules.specs.declared.rules.CoreAggregate.{CoreAggregate}
use Rattle.core_rules.specs.CoreForm.{arity_of}
use Rattle.core_meaning.specs.Atoms.{GroundAtom, User, Domain, Member, Total, Grid, Reach, Above, ground_atom, member_of, total_of, total_with}
use Rattle.search_values.proofs.Basics.{and_left, and_right, and_intro, nat_eq-true}
use Rattle.search_rules.specs.Tests.{same_atom, is_this}
use Rattle.search_rules.specs.Sameness.{atom_itself, atoms_same}
use Rattle.search_rules.specs.Fitting.{Holes, fill, fill_step, Arises, Said, arguments_in, arguments_of, said, said_step, said_by_each, first_said, arguments, found_holes, fits}
use Rattle.search_rules.specs.Laws.{FittingIsArising, atom_with, AHoleTakesAnyValue, AHoleTakesOneValue}

-- ---- induction over the terms of a pattern

-- the terms that stand right in a term
abbrev children : PatternTerm-F PatternTerm → List PatternTerm
children (layer.Hole x) = []
children (layer.Known id) = []
children (layer.Fun f args) = args

module _ (P : PatternTerm → Type 0) where
  -- what holds of each of a list holds of a member
  of_list : (es : List ((t : PatternTerm) × P t)) → (u : PatternTerm) → u ∈ map (λ e. e.0) es → P u
  of_list [] u k = absurd k
  of_list (e ∷ es) u (inl same) = subst P (sym same) e.1
  of_list (e ∷ es) u (inr k) = of_list es u k

  -- what holds of the terms in a layer holds of each child
  of_children : (y : PatternTerm-F ((t : PatternTerm) × P t)) → (u : PatternTerm) → u ∈ children (map-PatternTerm ((t : PatternTerm) × P t) PatternTerm (λ e. e.0) y) → P u
  of_children (layer.Hole x) u k = absurd k
  of_children (layer.Known id) u k = absurd k
  of_children (layer.Fun f args) u k = of_list args u k

  -- what holds of a term where it holds of its children holds of every term
  by_children : ((y : PatternTerm-F PatternTerm) → ((u : PatternTerm) → u ∈ children y → P u) → P (roll-PatternTerm y)) → (t : PatternTerm) → P t
  by_children step = ind-PatternTerm P (λ x y is. subst (λ z. P (roll-PatternTerm z)) is (step (map-PatternTerm ((t : PatternTerm) × P t) PatternTerm (λ e. e.0) y) (of_children y)))

-- ---- what a term becomes, and what it says

-- the arguments of a functional term are those that it was made of
arguments_back : (f : List ℕ) (vs : List Value) → arguments_of (functional f vs) ≡ vs
arguments_back f [] = ap arguments_of (sym (value.rolls-Symbol f)) ∙ ap arguments_in (out-roll-Value (part.Symbol f))
arguments_back f (v ∷ vs) = ap arguments_of (sym (value.rolls-Fun f v vs)) ∙ ap arguments_in (out-roll-Value (part.Fun f v vs))

module _ (nodes : List Node) (h : Holes) where
  -- a term becomes what its outermost symbol makes of its arguments
  fill-roll : (y : PatternTerm-F PatternTerm) → fill nodes h (roll-PatternTerm y) ≡ fill_step nodes h (map-PatternTerm PatternTerm Value (fill nodes h) y)
  fill-roll y = fold-roll-PatternTerm Value (fill_step nodes h) y

  -- and says what that makes of what they say
  said-roll : (y : PatternTerm-F PatternTerm) (v : Value) → said (roll-PatternTerm y) v ≡ said_step (map-PatternTerm PatternTerm (Value → List Said) said y) v
  said-roll y v = ap (λ f. f v) (fold-roll-PatternTerm (Value → List Said) said_step y)

  -- what several terms say is said by one of them
  said_by_one : (ts : List PatternTerm) (s : Said) → s ∈ said_by_each (map said ts) (map (fill nodes h) ts) → (t : PatternTerm) × (t ∈ ts) × (s ∈ said t (fill nodes h t))
  said_by_one [] s k = absurd k
  said_by_one (t ∷ ts) s k = elim (∈-append_cases s (said t (fill nodes h t)) (said_by_each (map said ts) (map (fill nodes h) ts)) k) [
    | inl i ↦ (t, inl refl, i)
    | inr j ↦ let r = said_by_one ts s j in (r.0, inr r.1, r.2)
  ]

  -- and what one says they all say
  one_says : (ts : List PatternTerm) (t : PatternTerm) → t ∈ ts → (s : Said) → s ∈ said t (fill nodes h t) → s ∈ said_by_each (map said ts) (map (fill nodes h) ts)
  one_says [] t k s i = absurd k
  one_says (u ∷ ts) t (inl e) s i =
      ∈-append_left s (said u (fill nodes h u)) (said_by_each (map said ts) (map (fill nodes h) ts)) (subst (λ z. s ∈ said z (fill nodes h z)) e i)
  one_says (u ∷ ts) t (inr k) s i = ∈-append_right s (said u (fill nodes h u)) (said_by_each (map said ts) (map (fill nodes h) ts)) (one_says ts t k s i)

  -- what a functional term says is what its arguments say
  said_of_call : (f : List ℕ) (args : List PatternTerm) → said (roll-PatternTerm (layer.Fun f args)) (fill nodes h (roll-PatternTerm (layer.Fun f args))) ≡ said_by_each (map said args) (map (fill nodes h) args)
  said_of_call f args = said-roll (layer.Fun f args) (fill nodes h (roll-PatternTerm (layer.Fun f args)))
      ∙ ap (λ z. said_by_each (map said args) (arguments_of z)) (fill-roll (layer.Fun f args))
      ∙ ap (said_by_each (map said args)) (arguments_back f (map (fill nodes h) args))

  -- ---- what is said of a hole is its value

  abbrev SaysRight : PatternTerm → Type 0
  SaysRight t = (s : Said) → s ∈ said t (fill nodes h t) → s.1 ≡ h s.0

  -- a term that became its value says the values of its holes
  says_right : (t : PatternTerm) → SaysRight t
  says_right = by_children SaysRight step
    where
      step : (y : PatternTerm-F PatternTerm) → ((u : PatternTerm) → u ∈ children y → SaysRight u) → SaysRight (roll-PatternTerm y)
      step (layer.Hole x) ih s i = elim (subst (λ z. s ∈ z) (said-roll (layer.Hole x) (fill nodes h (roll-PatternTerm (layer.Hole x)))) i) [
        | inl e ↦ ap (λ (z : Said). z.1) e ∙ fill-roll (layer.Hole x) ∙ ap (λ (z : Said). h z.0) (sym e)
        | inr j ↦ absurd j
      ]
      step (layer.Known id) ih s i = absurd (subst (λ z. s ∈ z) (said-roll (layer.Known id) (fill nodes h (roll-PatternTerm (layer.Known id)))) i)
      step (layer.Fun f args) ih s i = let r = said_by_one args s (subst (λ z. s ∈ z) (said_of_call f args) i) in ih r.0 r.1 s r.2

  -- ---- values that agree with what is said fill a term alike

  module _ (other : Holes) where
    -- the other values are the same for all holes that something is said of
    abbrev Agree : PatternTerm → Type 0
    Agree t = (s : Said) → s ∈ said t (fill nodes h t) → other s.0 ≡ h s.0

    abbrev FillsAlike : PatternTerm → Type 0
    FillsAlike t = Agree t → fill nodes other t ≡ fill nodes h t

    -- terms that are filled alike one by one are so together
    alike_all : (ts : List PatternTerm) → ((u : PatternTerm) → u ∈ ts → fill nodes other u ≡ fill nodes h u) → map (fill nodes other) ts ≡ map (fill nodes h) ts
    alike_all [] each = refl
    alike_all (t ∷ ts) each = let p = each t (inl refl) in let q = alike_all ts (λ u k. each u (inr k)) in λ i. p i ∷ q i

    fills_alike : (t : PatternTerm) → FillsAlike t
    fills_alike = by_children FillsAlike step
      where
        step : (y : PatternTerm-F PatternTerm) → ((u : PatternTerm) → u ∈ children y → FillsAlike u) → FillsAlike (roll-PatternTerm y)
        step (layer.Hole x) ih agree =
            let v = fill nodes h (roll-PatternTerm (layer.Hole x)) in
            fold-roll-PatternTerm Value (fill_step nodes other) (layer.Hole x)
            ∙ agree (x, v) (subst (λ z. (x, v) ∈ z) (sym (said-roll (layer.Hole x) v)) (inl refl)) ∙ sym (fill-roll (layer.Hole x))
        step (layer.Known id) ih agree = fold-roll-PatternTerm Value (fill_step nodes other) (layer.Known id) ∙ sym (fill-roll (layer.Known id))
        step (layer.Fun f args) ih agree =
            fold-roll-PatternTerm Value (fill_step nodes other) (layer.Fun f args)
            ∙ ap (functional f) (alike_all args (λ u k. ih u k (λ s i. agree s (subst (λ z. s ∈ z) (sym (said_of_call f args)) (one_says args u k s i)))))
            ∙ sym (fill-roll (layer.Fun f args))

  -- ---- the values that were found

  -- the value said first of a hole is its value, where all that is said is right
  first_is : (ss : List Said) → ((s : Said) → s ∈ ss → s.1 ≡ h s.0) → (t : Said) → t ∈ ss → first_said ss t.0 ≡ h t.0
  first_is [] right t k = absurd k
  first_is (s ∷ ss) right t k = by_test (first_is ss (λ u i. right u (inr i)) t) (nat_eq s.0 t.0) refl
    where
      differ : (b : Bool) → b ≡ false → b ≡ true → ⊥
      differ true p r = cc
      differ false p r = cc

      rest : t ∈ (s ∷ ss) → nat_eq s.0 t.0 ≡ false → t ∈ ss
      rest (inl e) q = absurd (differ (nat_eq s.0 t.0) q ((Decides-eqb s.0 t.0).1 (ap (λ (z : Said). z.0) (sym e))))
      rest (inr j) q = j

      by_test : (t ∈ ss → first_said ss t.0 ≡ h t.0) → (b : Bool) → nat_eq s.0 t.0 ≡ b → first_said (s ∷ ss) t.0 ≡ h t.0
      by_test later true q = ap (λ b. cond b s.1 (first_said ss t.0)) q ∙ right s (inl refl) ∙ ap h (nat_eq-true s.0 t.0 q)
      by_test later false q = ap (λ b. cond b s.1 (first_said ss t.0)) q ∙ later (rest k q)

  -- the values found in what terms became give the same again
  refilled : (ts : List PatternTerm) → map (fill nodes (found_holes ts (map (fill nodes h) ts))) ts ≡ map (fill nodes h) ts
  refilled ts =
      let all = said_by_each (map said ts) (map (fill nodes h) ts) in
      let right : (s : Said) → s ∈ all → s.1 ≡ h s.0 = (λ s i. let r = said_by_one ts s i in says_right r.0 s r.2) in
      alike_all (first_said all) ts (λ u k. fills_alike (first_said all) u (λ s i. first_is all right s (one_says ts u k s i)))

-- ---- atoms

-- the arguments of an atom, where there is one
abbrev arguments_there : Option GroundAtom → List Value
arguments_there None = []
arguments_there (Some a) = arguments a

-- the arguments of an atom are those that it was made of
arguments_are : (aggs : List CoreAggregate) (p : Pred) (vs : List Value) (a : GroundAtom) → ground_atom aggs p vs ≡ Some a → arguments a ≡ vs
arguments_are aggs (pred.User negated name arity) vs a e = sym (ap arguments_there e)
arguments_are aggs (pred.Domain agg arity) vs a e = sym (ap arguments_there e)
arguments_are aggs (pred.Member agg arity) vs a e = by_aggregate (slice_get aggs agg) e
  where
    by_aggregate : (g : Option CoreAggregate) → member_of agg vs g ≡ Some a → arguments a ≡ vs
    by_aggregate None e = cc
    by_aggregate (Some g) e = sym (ap arguments_there e) ∙ take-append-drop g.key vs
arguments_are aggs (pred.Total agg arity) vs a e = by_aggregate (slice_get aggs agg) e
  where
    by_rest : (key rest : List Value) → total_with agg key rest ≡ Some a → arguments a ≡ key ++ rest
    by_rest key [] e = cc
    by_rest key (x ∷ []) e = sym (ap arguments_there e)
    by_rest key (x ∷ y ∷ more) e = cc

    by_aggregate : (g : Option CoreAggregate) → total_of agg vs g ≡ Some a → arguments a ≡ vs
    by_aggregate None e = cc
    by_aggregate (Some g) e = by_rest (take g.key vs) (drop g.key vs) e ∙ take-append-drop g.key vs
arguments_are aggs (pred.Grid agg plus arity) vs a e = cc
arguments_are aggs (pred.Reach agg plus arity) vs a e = cc
arguments_are aggs (pred.Above agg plus arity) vs a e = cc

-- where the test says so, there is an atom, and it is this one
this_is : (a : GroundAtom) (found : Option GroundAtom) → is_this a found ≡ true → found ≡ Some a
this_is a None e = cc
this_is a (Some b) e = ap Some (atoms_same b a e)

-- law: an atom fits a pattern exactly where it arises by values for the holes
pub fitting_is_arising : FittingIsArising
fitting_is_arising core nodes p a = (to, from)
  where
    to : fits core nodes p a ≡ true → Arises core nodes p a
    to e = record {
      holes = found_holes p.args (arguments a);
      arity = nat_eq-true (arity_of p.pred) (length p.args) (and_left (nat_eq (arity_of p.pred) (length p.args)) _ e);
      is = this_is a (ground_atom core.aggregates p.pred (map (fill nodes (found_holes p.args (arguments a))) p.args)) (and_right (nat_eq (arity_of p.pred) (length p.args)) _ e);
    }

    from : Arises core nodes p a → fits core nodes p a ≡ true
    from r =
        let are : arguments a ≡ map (fill nodes r.holes) p.args = arguments_are core.aggregates p.pred (map (fill nodes r.holes) p.args) a r.is in
        let again : map (fill nodes (found_holes p.args (arguments a))) p.args ≡ map (fill nodes r.holes) p.args =
        (ap (λ vs. map (fill nodes (found_holes p.args vs)) p.args) are ∙ refilled nodes r.holes p.args) in
        let this : is_this a (ground_atom core.aggregates p.pred (map (fill nodes (found_holes p.args (arguments a))) p.args)) ≡ true =
        (ap (λ vs. is_this a (ground_atom core.aggregates p.pred vs)) again ∙ ap (is_this a) r.is ∙ atom_itself a) in
        and_intro (nat_eq (arity_of p.pred) (length p.args)) _ ((Decides-eqb (arity_of p.pred) (length p.args)).1 r.arity) this

-- ---- holes

-- a hole becomes its value
hole_is : (nodes : List Node) (h : Holes) (x : ℕ) → fill nodes h (pattern.Hole x) ≡ h x
hole_is nodes h x = ap (fill nodes h) (sym (pattern.rolls-Hole x)) ∙ fill-roll nodes h (layer.Hole x)

-- law: a hole takes any value
pub a_hole_takes_any_value : AHoleTakesAnyValue
a_hole_takes_any_value core nodes name x v =
    (fitting_is_arising core nodes (record { pred = pred.User false name 1; args = pattern.Hole x ∷ []; except = [] }) (atom_with name (v ∷ []))).1
    (record { holes = λ y. v; arity = refl; is = ap (λ z. Some (atom_with name (z ∷ []))) (hole_is nodes (λ y. v) x) })

-- the arguments of an atom that there is
arguments_same : (vs ws : List Value) (name : List ℕ) → Some (atom_with name vs) ≡ Some (atom_with name ws) → vs ≡ ws
arguments_same vs ws name e = ap arguments_there e

first_two : (a b v w : Value) → (a ∷ b ∷ []) ≡ (v ∷ w ∷ []) → (a ≡ v) × (b ≡ w)
first_two a b v w e = (let p : a ≡ v = cc in p, let q : b ≡ w = cc in q)

-- law: the same hole takes the same value
pub a_hole_takes_one_value : AHoleTakesOneValue
a_hole_takes_one_value core nodes name x v w e =
    let r = (fitting_is_arising core nodes (record { pred = pred.User false name 2; args = pattern.Hole x ∷ pattern.Hole x ∷ []; except = [] }) (atom_with name (v ∷ w ∷ []))).0 e in
    let s = arguments_same (map (fill nodes r.holes) (pattern.Hole x ∷ pattern.Hole x ∷ [])) (v ∷ w ∷ []) name r.is in
    let both = first_two (fill nodes r.holes (pattern.Hole x)) (fill nodes r.holes (pattern.Hole x)) v w s in
    sym both.0 ∙ both.1
