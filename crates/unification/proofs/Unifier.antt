-- From the solution of equations to the most general unifier of a head and a pattern.
use Rattle.std.proofs.Common.{◌≡◌, ◌⊎◌, inl, inr, ℕ, zero, suc, ◌+◌, ◌-◌, ◌<◌, ◌≤◌, Bool, true, false, nat_lt, cond, List, [], ◌∷◌, ◌++◌, length, map, take, slice_get, Option, Some, None, refl, sym, ap, subst, ◌∙◌, arith}
use Rattle.std.specs.Prelude.{slice_index_or}
use Rattle.std.proofs.lemmas.Option.{same_Some, get_or_from_slice_get, slice_get_within}
use Rattle.std.proofs.lemmas.Bool.{lt-ltb, le-ltb}
use Rattle.std.proofs.lemmas.List.{length-take-le}
use Rattle.lists.specs.Lists.{◌∈◌, Each}
use Rattle.lists.proofs.ListLemmas.{Each-at, Each-from, ∈-map_from, ∈-concat_map}
use Rattle.alpha_outside.specs.declared.node.Node.{Node}
use Rattle.alpha_outside.specs.declared.pattern.Pattern.{Pattern}
use Rattle.alpha_outside.specs.declared.pattern.PatternTerm.{PatternTerm}
use Rattle.alpha_outside.specs.declared.pattern.PatternTerm.TheVariants as pattern
use Rattle.core_rules.specs.declared.rules.CoreTerm.{CoreTerm}
use Rattle.core_rules.specs.declared.rules.CoreAtom.{CoreAtom}
use Rattle.asp_meaning.specs.declared.value.Value.{Value}
use Rattle.core_meaning.specs.Terms.{Binding, Partly}
use Rattle.core_rules.specs.Variables.{variables, head_variables}
use Rattle.term_pool.specs.Nodes.{value_at, KeepsValues}
use Rattle.term_pool.proofs.PlaceLemmas.{length-map, map-map}
use Rattle.unification.specs.Patterns.{HasHole, IsPatternTerm, Holes, fill, put, at_places, later_by, Become}
use Rattle.unification.specs.Solving.{IsSolved, AgreesWith, Solves, IsFree, HolesBelow, IsTermOf, IsEquationOf, IsKnown, equations_of, IsSolution, SolvedOrNot}
use Rattle.unification.specs.Unifiers.{MayBe, MayAllBe, Unifies, IsMostGeneral, NoneUnifies, ArgumentsUnified}
use Rattle.unification.specs.Opening.{as_values, VariablesBelow, AreOpened, AreOwn}
use Rattle.unification.proofs.PatternTerms.{fill-Hole, fine_hole, hole_of_hole}
use Rattle.unification.proofs.Putting.{map_on, fill_put, fill_same, hole_put, fine_put}
use Rattle.lists.proofs.Places.{get_below, get_of, ∈-take}
use Rattle.search_values.proofs.Basics.{get_in}
use Rattle.unification.proofs.Places.{mapped_at}
use Rattle.unification.proofs.Taking.{parts_solved, solved_parts, parts_formed}
use Rattle.unification.proofs.Openings.{may_all_same}

-- the first of a list at their places
take_at : {A : Type 0} (xs : List A) (n x : ℕ) → x < n → slice_get (take n xs) x ≡ slice_get xs x
take_at [] zero x lt = absurd (omega (arith, lt))
take_at [] (suc n) x lt = refl
take_at (y ∷ ys) zero x lt = absurd (omega (arith, lt))
take_at (y ∷ ys) (suc n) zero lt = refl
take_at (y ∷ ys) (suc n) (suc x) lt = take_at ys n x (omega (arith, lt))

-- what becomes of the first terms, where each becomes the value at its place
firsts_become : {A : Type 0} (g : A → Value) (f : ℕ → Value) (b : List Value) (ts : List A) → length b ≤ length ts
    → ((x : ℕ) (v : Value) → slice_get b x ≡ Some v → f x ≡ v) → ((x : ℕ) (t : A) → slice_get ts x ≡ Some t → f x ≡ g t) → map g (take (length b) ts) ≡ b
firsts_become g f [] [] le at is = refl
firsts_become g f [] (t ∷ ts) le at is = refl
firsts_become g f (v ∷ b) [] le at is = absurd (omega (arith, le))
firsts_become g f (v ∷ b) (t ∷ ts) le at is =
    let first : g t ≡ v = sym (is zero t refl) ∙ at zero v refl in
    let rest = firsts_become g (λ x. f (suc x)) b ts (omega (arith, le)) (λ x w e. at (suc x) w e) (λ x u e. is (suc x) u e) in
    λ i. first i ∷ rest i

-- the first of what is known are terms beside the pool
pub firsts_formed : (nodes : List Node) (terms : List PatternTerm) (n : ℕ) → IsKnown nodes terms → Each (IsPatternTerm (length nodes)) (take n terms)
firsts_formed nodes terms n known = Each-from (IsPatternTerm (length nodes)) (take n terms) (λ t k. (Each-at (IsTermOf (length terms) (length nodes)) terms t known.formed (∈-take n terms t k)).1)

-- as many terms as were opened
pub opened_many : (nodes : List Node) (from to : ℕ) (ts : List CoreTerm) (qs : List PatternTerm) → AreOpened nodes from to ts qs → length qs ≡ length ts
opened_many nodes from to ts qs opened = omega (arith, (opened.sound (λ x. value_at nodes x)).0, length-map (fill nodes (λ x. value_at nodes x)) qs)

-- the variables of a head's arguments
pub head_low : (o : Option CoreAtom) (head : CoreAtom) (n : ℕ) → o ≡ Some head → ((v : ℕ) → v ∈ head_variables o → v < n)
    → (u : CoreTerm) → u ∈ head.args → VariablesBelow n u
head_low o head n is low u among v inside = low v (subst (λ q. v ∈ head_variables q) (sym is) (∈-concat_map variables u head.args v among inside))

-- other predicates, and other numbers of arguments, don't unify
pub other_predicate : (nodes : List Node) (n : ℕ) (head : CoreAtom) (p : Pattern) → ¬ (head.pred ≡ p.pred) → NoneUnifies nodes n head p
other_predicate nodes n head p apart b long u = apart u.predicate

pub other_many : (nodes : List Node) (n : ℕ) (head : CoreAtom) (p : Pattern) → ¬ (length head.args ≡ length p.args) → NoneUnifies nodes n head p
other_many nodes n head p apart b long u = apart (u.may.0 ∙ sym (ap length u.covered.1) ∙ length-map (fill nodes u.covered.0) p.args)

module _ (nodes : List Node) (n mid low many : ℕ) (ts : List CoreTerm) (ps qs own : List PatternTerm) (count : many ≡ mid + low)
    (variables_low : (u : CoreTerm) → u ∈ ts → VariablesBelow n u) (opened : AreOpened nodes n mid ts qs)
    (formed : Each (IsPatternTerm (length nodes)) ps) (holes_low : (u : PatternTerm) → u ∈ ps → HolesBelow low u) (are_own : AreOwn many own) (same : length ts ≡ length ps) where
  -- the arguments of the pattern, with holes of other numbers
  abbrev moved : List PatternTerm
  moved = map (put (later_by mid)) ps

  own_at : (x : ℕ) → x < many → slice_get own x ≡ Some (pattern.Hole x)
  own_at x lt = let r = get_below own x (omega (arith, lt, are_own.many)) in r.1 ∙ ap Some (are_own.own x r.0 r.1)

  pub own_known : IsKnown nodes own
  own_known = record {
    free = λ x t at y has.
        let is = are_own.own x t at in
        let e : y ≡ x = hole_of_hole x y (subst (λ q. HasHole q y) is has) in
        subst (λ z. slice_get own z ≡ Some (pattern.Hole z)) (sym e) (at ∙ ap Some is);
    formed = Each-from (IsTermOf (length own) (length nodes)) own (λ t k.
        let r = get_of own t k in
        let is = are_own.own r.0 t r.1 in
        subst (IsTermOf (length own) (length nodes)) (sym is) ((λ y has. subst (λ z. z < length own) (sym (hole_of_hole r.0 y has)) (slice_get_within own r.0 t r.1)), fine_hole (length nodes) r.0));
  }

  count_same : length qs ≡ length moved
  count_same = omega (arith, (opened.sound (λ x. value_at nodes x)).0, length-map (fill nodes (λ x. value_at nodes x)) qs, same, length-map (put (later_by mid)) ps)

  pub todo_formed : Each (IsEquationOf (length own) (length nodes)) (equations_of qs moved)
  todo_formed = parts_formed nodes (length own) (length nodes) qs moved
      (Each-from (IsTermOf (length own) (length nodes)) qs (λ q k. ((λ y has. omega (arith, Each-at (HolesBelow mid) qs q opened.below k y has, are_own.many, count)), Each-at (IsPatternTerm (length nodes)) qs q opened.formed k)))
      (Each-from (IsTermOf (length own) (length nodes)) moved (λ q k.
      let w = ∈-map_from (put (later_by mid)) q ps k in
      subst (IsTermOf (length own) (length nodes)) (sym w.2) (
        (λ y has.
            let r = hole_put (later_by mid) y w.0 has in
            omega (arith, hole_of_hole (mid + r.0) y r.2, holes_low w.0 w.1 r.0 r.1, are_own.many, count)),
        fine_put (length nodes) (later_by mid) w.0 (Each-at (IsPatternTerm (length nodes)) ps w.0 formed w.1) (λ x has. fine_hole (length nodes) (mid + x)),
      )))

  agrees_own : (h : Holes) → AgreesWith nodes h own
  agrees_own h x t at = sym (ap (fill nodes h) (are_own.own x t at) ∙ fill-Hole nodes h x)

  fill_moved : (h : Holes) → map (fill nodes h) moved ≡ map (fill nodes (λ x. h (mid + x))) ps
  fill_moved h = map-map (fill nodes h) (put (later_by mid)) ps ∙ map_on (λ p. fill nodes h (put (later_by mid) p)) (fill nodes (λ x. h (mid + x))) ps (λ p k.
      fill_put nodes h (later_by mid) p ∙ fill_same nodes (λ x. fill nodes h (later_by mid x)) (λ x. h (mid + x)) p (λ x has. fill-Hole nodes h (mid + x)))

  pub solves_own : (h : Holes) → map (fill nodes h) qs ≡ map (fill nodes (λ x. h (mid + x))) ps → Solves nodes h own (equations_of qs moved)
  solves_own h e = (agrees_own h, parts_solved nodes h qs moved (e ∙ sym (fill_moved h)))

  pub own_solved : (h : Holes) → Solves nodes h own (equations_of qs moved) → map (fill nodes h) qs ≡ map (fill nodes (λ x. h (mid + x))) ps
  own_solved h s = solved_parts nodes h qs moved count_same s.1 ∙ fill_moved h

  module _ (head : CoreAtom) (p : Pattern) (head_args : head.args ≡ ts) (pattern_args : p.args ≡ ps) (pred_same : head.pred ≡ p.pred) where
    -- values that unify give values for the holes that solve
    module _ (b : Binding) (long : length b ≡ n) (u : Unifies nodes head p b) where
      may : MayAllBe (slice_get b) ts u.values
      may = subst (λ l. MayAllBe (slice_get b) l u.values) head_args u.may

      arise : map (fill nodes u.covered.0) ps ≡ u.values
      arise = subst (λ l. map (fill nodes u.covered.0) l ≡ u.values) pattern_args u.covered.1

      abbrev start : Holes
      start y = cond (nat_lt y n) (slice_index_or b y (value_at nodes 0)) (u.covered.0 (y - mid))

      start_low : (y : ℕ) → y < n → slice_get b y ≡ Some (start y)
      start_low y lt =
          let g = get_below b y (omega (arith, lt, long)) in
          g.1 ∙ ap Some (sym (ap (λ t. cond t (slice_index_or b y (value_at nodes 0)) (u.covered.0 (y - mid))) (lt-ltb y n lt) ∙ get_or_from_slice_get b y g.0 (value_at nodes 0) g.1))

      start_high : (x : ℕ) → start (mid + x) ≡ u.covered.0 x
      start_high x =
          let far : n ≤ mid + x = omega (arith, opened.ordered) in
          let back : (mid + x) - mid ≡ x = omega arith in
          ap (λ t. cond t (slice_index_or b (mid + x) (value_at nodes 0)) (u.covered.0 ((mid + x) - mid))) (le-ltb (mid + x) n far) ∙ ap u.covered.0 back

      pub found : (k : Holes) × ((y : ℕ) → (y < n) ⊎ (mid ≤ y) → k y ≡ start y) × (map (fill nodes k) qs ≡ u.values)
      found = opened.reached start u.values (may_all_same (slice_get b) (as_values start) ts u.values (λ t i x k. start_low x (variables_low t i x k)) may)

      pub solution : Solves nodes found.0 own (equations_of qs moved)
      solution = solves_own found.0 (found.2 ∙ sym (map_on (fill nodes (λ x. found.0 (mid + x))) (fill nodes u.covered.0) ps (λ q k.
          fill_same nodes (λ x. found.0 (mid + x)) u.covered.0 q (λ x has. found.1 (mid + x) (inr (omega arith)) ∙ start_high x)) ∙ arise))

      pub solution_at : (x : ℕ) (v : Value) → slice_get b x ≡ Some v → x < n → found.0 x ≡ v
      solution_at x v at lt = found.1 x (inl lt) ∙ same_Some (start x) v (sym (start_low x lt) ∙ at)

    -- there is none
    pub no_unifier : ((h : Holes) → ¬ Solves nodes h own (equations_of qs moved)) → NoneUnifies nodes n head p
    no_unifier never b long u = never (found b long u).0 (solution b long u)

    module _ (terms : List PatternTerm) (sol : IsSolution nodes own (equations_of qs moved) terms) where
      long_terms : n ≤ length terms
      long_terms = omega (arith, sol.many, are_own.many, opened.ordered, count)

      -- values that the first terms become unify
      module _ (b : Binding) (h : Holes) (e : map (fill nodes h) (take n terms) ≡ b) where
        abbrev final : Holes
        final y = fill nodes h (at_places terms y)

        long_b : length b ≡ n
        long_b = sym (ap length e) ∙ length-map (fill nodes h) (take n terms) ∙ length-take-le n terms long_terms

        final_agrees : AgreesWith nodes final terms
        final_agrees x t at = ap (fill nodes h) (get_or_from_slice_get terms x t (pattern.Hole x) at) ∙ sym (fill_same nodes final h t (λ y has.
            ap (fill nodes h) (get_or_from_slice_get terms y (pattern.Hole y) (pattern.Hole y) (sol.known.free x t at y has)) ∙ fill-Hole nodes h y))

        b_at : (x : ℕ) → x < n → slice_get b x ≡ Some (final x)
        b_at x lt =
            let g = get_below terms x (omega (arith, lt, long_terms)) in
            subst (λ l. slice_get l x ≡ Some (final x)) e
            (mapped_at (fill nodes h) (take n terms) x g.0 (take_at terms n x lt ∙ g.1) ∙ ap (λ t. Some (fill nodes h t)) (sym (get_or_from_slice_get terms x g.0 (pattern.Hole x) g.1)))

        pub they_unify : (length b ≡ n) × Unifies nodes head p b
        they_unify = (
          long_b,
          record {
            predicate = pred_same;
            values = map (fill nodes final) qs;
            may = subst (λ l. MayAllBe (slice_get b) l (map (fill nodes final) qs)) (sym head_args)
                (may_all_same (as_values final) (slice_get b) ts (map (fill nodes final) qs) (λ t i x k. sym (b_at x (variables_low t i x k))) (opened.sound final));
            covered = (
              (λ x. final (mid + x)),
              subst (λ l. map (fill nodes (λ x. final (mid + x))) l ≡ map (fill nodes final) qs) (sym pattern_args)
                  (sym (own_solved final (sol.back final final_agrees))),
            );
          },
        )

      pub most_general : IsMostGeneral nodes n head p (take n terms)
      most_general = record {
        each = λ b long u.
            let k = (found b long u).0 in (
              k,
              subst (λ m. map (fill nodes k) (take m terms) ≡ b) long
                  (firsts_become (fill nodes k) k b terms (omega (arith, long_terms, long)) (λ x v at. solution_at b long u x v at (omega (arith, slice_get_within b x v at, long)))
                  (sol.to k (solution b long u))),
            );
        only = λ b become. they_unify b become.0 become.1;
      }
