-- Equations that are taken one by one: the values for the holes that solve all stay the same.
use Rattle.std.proofs.Common.{◌≡◌, ◌⊎◌, inl, inr, ℕ, zero, suc, ◌+◌, ◌<◌, ◌≤◌, Bool, true, false, true≢false, nat_eq, cond, List, [], ◌∷◌, ◌++◌, length, map, slice_get, Option, Some, None, refl, sym, ap, subst, ◌∙◌, arith}
use Rattle.std.specs.Prelude.{sum, All}
use Rattle.std.proofs.lemmas.List.Elements.{All-head, All-tail, All-weaker}
use Rattle.std.proofs.lemmas.List.Sums.{sum_by-cons, sum-map}
use Rattle.std.proofs.lemmas.Bool.Decides.{Decides-eqb}
use Rattle.term_pool.proofs.PlaceLemmas.{length-map}
use Rattle.lists.specs.Lists.{◌∈◌, Each}
use Rattle.lists.proofs.ListLemmas.{Each-at, Each-from, Each-append, ∈-map_from}
use Rattle.alpha_outside.specs.declared.node.Node.{Node}
use Rattle.alpha_outside.specs.declared.node.Node.TheVariants as node
use Rattle.alpha_outside.specs.declared.pattern.PatternTerm.{PatternTerm}
use Rattle.alpha_outside.specs.declared.pattern.PatternTerm.TheVariants as pattern
use Rattle.asp_meaning.specs.declared.value.Value.{Value}
use Rattle.asp_meaning.specs.Terms.{functional}
use Rattle.term_pool.specs.Nodes.{part, values, value_at, value_from, value_size, IsPool, PartsBelow}
use Rattle.term_pool.specs.Interning.{NoneTwice}
use Rattle.term_pool.proofs.ValueLemmas.{size-functional}
use Rattle.term_pool.proofs.PoolLemmas.{length-values, value_here}
use Rattle.term_pool.proofs.OnceLemmas.{same_part}
use Rattle.unification.specs.declared.solving.Equation.{Equation}
use Rattle.unification.specs.Patterns.{HasHole, hole, IsPatternTerm, Holes, fill, put, only}
use Rattle.unification.specs.Solving.{IsSolved, AgreesWith, Solves, IsFree, HolesBelow, IsTermOf, IsEquationOf, IsKnown, equations_of, bound_to_hole, IsTaken, HasNoSolution, TakenOrNot, HoleTaken, KnownTaken, CallsTaken}
use Rattle.unification.proofs.PatternTerms.{by_terms, fill-Hole, fill-Known, fill-Fun, put-Hole, hole_of_call, of_argument, its_own_hole, hole_of_hole, no_hole_known, fine_hole, fine_known, known_below, fine_argument, has_some}
use Rattle.unification.proofs.Putting.{fill_put, fill_same, hole_put, fine_put}
use Rattle.unification.proofs.Calls.{same_call, call_node}
use Rattle.lists.proofs.Places.{get_below}
use Rattle.search_values.proofs.Basics.{get_in}
use Rattle.unification.proofs.Places.{get_mapped, mapped_at, each_of_first, each_of_second}

-- ---- one term in place of one hole

pub only_cases : (x : ℕ) (t : PatternTerm) (y : ℕ) → ((y ≡ x) × (only x t y ≡ t)) ⊎ ((¬ (y ≡ x)) × (only x t y ≡ pattern.Hole y))
only_cases x t y = by_case (nat_eq y x) refl
  where
    by_case : (b : Bool) → nat_eq y x ≡ b → ((y ≡ x) × (only x t y ≡ t)) ⊎ ((¬ (y ≡ x)) × (only x t y ≡ pattern.Hole y))
    by_case true e = inl ((Decides-eqb y x).0 e, ap (λ b. cond b t (pattern.Hole y)) e)
    by_case false e = inr ((λ s. true≢false (sym ((Decides-eqb y x).1 s) ∙ e)), ap (λ b. cond b t (pattern.Hole y)) e)

only_same : (x : ℕ) (t : PatternTerm) → only x t x ≡ t
only_same x t = elim (only_cases x t x) [ inl e ↦ e.1 | inr e ↦ absurd (e.0 refl) ]

only_other : (x : ℕ) (t : PatternTerm) (y : ℕ) → ¬ (y ≡ x) → only x t y ≡ pattern.Hole y
only_other x t y apart = elim (only_cases x t y) [ inl e ↦ absurd (apart e.0) | inr e ↦ e.1 ]

module _ (nodes : List Node) where
  -- where the hole is what the term becomes, nothing changes
  fill_only : (h : Holes) (x : ℕ) (t : PatternTerm) → h x ≡ fill nodes h t → (u : PatternTerm) → fill nodes h (put (only x t) u) ≡ fill nodes h u
  fill_only h x t is u = fill_put nodes h (only x t) u ∙ fill_same nodes (λ z. fill nodes h (only x t z)) h u (λ z has. at z)
    where
      at : (z : ℕ) → fill nodes h (only x t z) ≡ h z
      at z = elim (only_cases x t z) [ inl e ↦ ap (fill nodes h) e.1 ∙ sym is ∙ ap h (sym e.0) | inr e ↦ ap (fill nodes h) e.1 ∙ fill-Hole nodes h z ]

  module _ (x : ℕ) (t : PatternTerm) (terms : List PatternTerm) (known : IsKnown nodes terms)
      (own : slice_get terms x ≡ Some (pattern.Hole x)) (free : IsFree terms t) (formed : IsTermOf (length terms) (length nodes) t) (out : ¬ HasHole t x) where
    stays : (z : ℕ) → slice_get terms z ≡ Some (pattern.Hole z) → ¬ (z ≡ x) → slice_get (bound_to_hole x t terms) z ≡ Some (pattern.Hole z)
    stays z at apart = mapped_at (put (only x t)) terms z (pattern.Hole z) at ∙ ap Some (put-Hole (only x t) z ∙ only_other x t z apart)

    free_of : (s : PatternTerm) → ((w : ℕ) → HasHole s w → slice_get terms w ≡ Some (pattern.Hole w)) → (z : ℕ) → HasHole (put (only x t) s) z
        → slice_get (bound_to_hole x t terms) z ≡ Some (pattern.Hole z)
    free_of s each z has =
        let r = hole_put (only x t) z s has in
        elim (only_cases x t r.0) [
          | inl e ↦ let in_t : HasHole t z = subst (λ q. HasHole q z) e.1 r.2 in stays z (free z in_t) (λ s. out (subst (HasHole t) s in_t))
          | inr e ↦
              let same : z ≡ r.0 = hole_of_hole r.0 z (subst (λ q. HasHole q z) e.1 r.2) in
              stays z (subst (λ w. slice_get terms w ≡ Some (pattern.Hole w)) (sym same) (each r.0 r.1)) (λ s. e.0 (sym same ∙ s))
        ]

    below_of : (s : PatternTerm) → HolesBelow (length terms) s → HolesBelow (length terms) (put (only x t) s)
    below_of s below z has =
        let r = hole_put (only x t) z s has in
        elim (only_cases x t r.0) [
          | inl e ↦ formed.0 z (subst (λ q. HasHole q z) e.1 r.2)
          | inr e ↦ subst (λ w. w < length terms) (sym (hole_of_hole r.0 z (subst (λ q. HasHole q z) e.1 r.2))) (below r.0 r.1)
        ]

    fine_of : (s : PatternTerm) → IsPatternTerm (length nodes) s → IsPatternTerm (length nodes) (put (only x t) s)
    fine_of s fine = fine_put (length nodes) (only x t) s fine (λ w has. elim (only_cases x t w) [
      | inl e ↦ subst (IsPatternTerm (length nodes)) (sym e.1) formed.1
      | inr e ↦ subst (IsPatternTerm (length nodes)) (sym e.1) (fine_hole (length nodes) w)
    ])

    bound_known : IsKnown nodes (bound_to_hole x t terms)
    bound_known = record {
      free = λ y u at z has.
          let r = get_mapped (put (only x t)) terms y u at in
          free_of r.0 (λ w k. known.free y r.0 r.1 w k) z (subst (λ q. HasHole q z) (sym r.2) has);
      formed = Each-from (IsTermOf (length (bound_to_hole x t terms)) (length nodes)) (bound_to_hole x t terms) (λ u i.
          let r = ∈-map_from (put (only x t)) u terms i in
          let old = Each-at (IsTermOf (length terms) (length nodes)) terms r.0 known.formed r.1 in
          subst (λ n. IsTermOf n (length nodes) u) (sym (length-map (put (only x t)) terms))
          (subst (IsTermOf (length terms) (length nodes)) (sym r.2) (below_of r.0 old.0, fine_of r.0 old.1)));
    }

    -- the hole gets the term
    pub taken_bound : (e : Equation) (todo : List Equation) → Each (IsEquationOf (length terms) (length nodes)) todo
        → ((h : Holes) → IsSolved nodes h e → h x ≡ fill nodes h t) → ((h : Holes) → h x ≡ fill nodes h t → IsSolved nodes h e)
        → IsTaken nodes e terms todo (bound_to_hole x t terms) todo
    taken_bound e todo others to from = record {
      known = bound_known;
      many = length-map (put (only x t)) terms;
      formed = others;
      to = λ h agrees solved rest. (
        (λ y u at.
            let r = get_mapped (put (only x t)) terms y u at in
            agrees y r.0 r.1 ∙ sym (fill_only h x t (to h solved) r.0) ∙ ap (fill nodes h) r.2),
        rest,
      );
      back = λ h all.
          let is : h x ≡ fill nodes h t =
          all.0 x (put (only x t) (pattern.Hole x)) (mapped_at (put (only x t)) terms x (pattern.Hole x) own)
          ∙ ap (fill nodes h) (put-Hole (only x t) x ∙ only_same x t) in
          ((λ y s at. all.0 y (put (only x t) s) (mapped_at (put (only x t)) terms y s at) ∙ fill_only h x t is s), from h is, all.1);
    }

  -- the equation holds for all values
  pub taken_itself : (e : Equation) (terms : List PatternTerm) (todo : List Equation) → IsKnown nodes terms → Each (IsEquationOf (length terms) (length nodes)) todo
      → ((h : Holes) → IsSolved nodes h e) → IsTaken nodes e terms todo terms todo
  taken_itself e terms todo known others always = record {
    known = known;
    many = refl;
    formed = others;
    to = λ h agrees solved rest. (agrees, rest);
    back = λ h all. (all.0, always h, all.1);
  }

  -- ---- a hole in a term that isn't that hole

  sum_first : (h : Holes) (v : PatternTerm) (us : List PatternTerm)
      → sum (map value_size (map (fill nodes h) (v ∷ us))) ≡ value_size (fill nodes h v) + sum (map value_size (map (fill nodes h) us))
  sum_first h v us =
      sum-map value_size (fill nodes h v ∷ map (fill nodes h) us) ∙ sum_by-cons value_size (fill nodes h v) (map (fill nodes h) us)
      ∙ ap (λ n. value_size (fill nodes h v) + n) (sym (sum-map value_size (map (fill nodes h) us)))

  member_sum : (h : Holes) (us : List PatternTerm) (u : PatternTerm) → u ∈ us → value_size (fill nodes h u) ≤ sum (map value_size (map (fill nodes h) us))
  member_sum h [] u k = absurd k
  member_sum h (v ∷ us) u (inl e) = omega (arith, ap (λ q. value_size (fill nodes h q)) e, sum_first h v us)
  member_sum h (v ∷ us) u (inr k) = omega (arith, member_sum h us u k, sum_first h v us)

  call_size : (h : Holes) (f : List ℕ) (args : List PatternTerm) → value_size (fill nodes h (pattern.Fun f args)) ≡ 1 + sum (map value_size (map (fill nodes h) args))
  call_size h f args = ap value_size (fill-Fun nodes h f args) ∙ size-functional f (map (fill nodes h) args)

  size_in : (h : Holes) (x : ℕ) (t : PatternTerm) → HasHole t x → value_size (h x) ≤ value_size (fill nodes h t)
  size_in h x = by_terms (λ t. HasHole t x → value_size (h x) ≤ value_size (fill nodes h t))
      (λ y k. omega (arith, ap (λ z. value_size (h z)) (hole_of_hole y x k), ap value_size (fill-Hole nodes h y)))
      (λ id k. absurd (no_hole_known id x k))
      (λ f args ih k. let r = hole_of_call x f args k in omega (arith, ih r.0 r.1 r.2, member_sum h args r.0 r.1, call_size h f args))

  pub no_cycle : (h : Holes) (x : ℕ) (t : PatternTerm) → HasHole t x → ¬ (t ≡ pattern.Hole x) → ¬ (h x ≡ fill nodes h t)
  no_cycle h x = by_terms (λ t. HasHole t x → ¬ (t ≡ pattern.Hole x) → ¬ (h x ≡ fill nodes h t))
      (λ y k other e. other (ap pattern.Hole (sym (hole_of_hole y x k))))
      (λ id k other e. no_hole_known id x k)
      (λ f args ih. strict f args)
    where
      strict : (f : List ℕ) (args : List PatternTerm) → HasHole (pattern.Fun f args) x → ¬ (pattern.Fun f args ≡ pattern.Hole x) → ¬ (h x ≡ fill nodes h (pattern.Fun f args))
      strict f args k other e =
          let r = hole_of_call x f args k in
          let same : value_size (h x) ≡ value_size (fill nodes h (pattern.Fun f args)) = ap value_size e in
          absurd (omega (arith, size_in h x r.0 r.2, member_sum h args r.0 r.1, call_size h f args, same))

  -- a hole is taken
  pub hole_taken : (e : Equation) (x : ℕ) (t : PatternTerm) (terms terms' : List PatternTerm) (todo : List Equation) (found : Bool) → IsKnown nodes terms
      → IsFree terms (pattern.Hole x) → IsFree terms t → IsTermOf (length terms) (length nodes) t → Each (IsEquationOf (length terms) (length nodes)) todo
      → ((h : Holes) → IsSolved nodes h e → h x ≡ fill nodes h t) → ((h : Holes) → h x ≡ fill nodes h t → IsSolved nodes h e)
      → HoleTaken x t terms terms' found → TakenOrNot nodes e terms todo terms' todo found
  hole_taken e x t terms terms' todo true known own free formed others to from (inl same) =
      subst (λ ts. IsTaken nodes e terms todo ts todo) (sym same.1)
      (taken_itself e terms todo known others (λ h. from h (sym (ap (fill nodes h) same.0 ∙ fill-Hole nodes h x))))
  hole_taken e x t terms terms' todo true known own free formed others to from (inr bound) =
      subst (λ ts. IsTaken nodes e terms todo ts todo) (sym bound.1)
      (taken_bound x t terms known (own x (its_own_hole x)) free formed bound.0 e todo others to from)
  hole_taken e x t terms terms' todo false known own free formed others to from never = λ h agrees solved. no_cycle h x t never.0 never.1 (to h solved)

  -- ---- parts

  pub parts_solved : (h : Holes) (ls rs : List PatternTerm) → map (fill nodes h) ls ≡ map (fill nodes h) rs → Each (IsSolved nodes h) (equations_of ls rs)
  parts_solved h [] rs e = tt
  parts_solved h (l ∷ ls) [] e = tt
  parts_solved h (l ∷ ls) (r ∷ rs) e = (cc, parts_solved h ls rs (cc))

  pub solved_parts : (h : Holes) (ls rs : List PatternTerm) → length ls ≡ length rs → Each (IsSolved nodes h) (equations_of ls rs) → map (fill nodes h) ls ≡ map (fill nodes h) rs
  solved_parts h [] [] many s = refl
  solved_parts h [] (r ∷ rs) many s = absurd (omega (arith, many))
  solved_parts h (l ∷ ls) [] many s = absurd (omega (arith, many))
  solved_parts h (l ∷ ls) (r ∷ rs) many s = let rest = solved_parts h ls rs (omega (arith, many)) s.1 in let first = s.0 in λ i. first i ∷ rest i

  pub parts_formed : (n m : ℕ) (ls rs : List PatternTerm) → Each (IsTermOf n m) ls → Each (IsTermOf n m) rs → Each (IsEquationOf n m) (equations_of ls rs)
  parts_formed n m [] rs a b = tt
  parts_formed n m (l ∷ ls) [] a b = tt
  parts_formed n m (l ∷ ls) (r ∷ rs) a b = ((a.0, b.0), parts_formed n m ls rs a.1 b.1)

  pub arguments_formed : (n m : ℕ) (f : List ℕ) (args : List PatternTerm) → IsTermOf n m (pattern.Fun f args) → Each (IsTermOf n m) args
  arguments_formed n m f args formed = Each-from (IsTermOf n m) args (λ u i. ((λ y has. formed.0 y (of_argument (hole y) f args u i has)), fine_argument m f args formed.1 u i))

  pub known_formed : (n m : ℕ) (parts : List ℕ) → All (λ a. a < m) parts → Each (IsTermOf n m) (map pattern.Known parts)
  known_formed n m [] low = tt
  known_formed n m (p ∷ ps) low = (((λ y has. absurd (no_hole_known p y has)), fine_known m p (All-head (λ a. a < m) p ps low)), known_formed n m ps (All-tail (λ a. a < m) p ps low))

  -- an equation that says the same as those of parts
  pub taken_parts : (e : Equation) (terms : List PatternTerm) (todo : List Equation) (ls rs : List PatternTerm) → IsKnown nodes terms → Each (IsEquationOf (length terms) (length nodes)) todo
      → length ls ≡ length rs → Each (IsTermOf (length terms) (length nodes)) ls → Each (IsTermOf (length terms) (length nodes)) rs
      → ((h : Holes) → IsSolved nodes h e → map (fill nodes h) ls ≡ map (fill nodes h) rs) → ((h : Holes) → map (fill nodes h) ls ≡ map (fill nodes h) rs → IsSolved nodes h e)
      → IsTaken nodes e terms todo terms (todo ++ equations_of ls rs)
  taken_parts e terms todo ls rs known others many lf rf to from = record {
    known = known;
    many = refl;
    formed = Each-append (IsEquationOf (length terms) (length nodes)) todo (equations_of ls rs) others (parts_formed (length terms) (length nodes) ls rs lf rf);
    to = λ h agrees solved rest. (agrees, Each-append (IsSolved nodes h) todo (equations_of ls rs) rest (parts_solved h ls rs (to h solved)));
    back = λ h all. (all.0, from h (solved_parts h ls rs many (each_of_second (IsSolved nodes h) todo (equations_of ls rs) all.1)), each_of_first (IsSolved nodes h) todo (equations_of ls rs) all.1);
  }

  -- ---- the sides of an equation

  module _ (e : Equation) (terms : List PatternTerm) (todo : List Equation) (known : IsKnown nodes terms) (others : Each (IsEquationOf (length terms) (length nodes)) todo)
      (formed : IsEquationOf (length terms) (length nodes) e) (pool : IsPool nodes) (once : NoneTwice (values nodes)) where
    -- two terms of the pool
    pub knowns_taken : (a b : ℕ) (found : Bool) → e.left ≡ pattern.Known a → e.right ≡ pattern.Known b → (found ≡ true → a ≡ b) → (found ≡ false → ¬ (a ≡ b))
        → TakenOrNot nodes e terms todo terms todo found
    knowns_taken a b true l r same apart = taken_itself e terms todo known others (λ h. ap (fill nodes h) (l ∙ ap pattern.Known (same refl) ∙ sym r))
    knowns_taken a b false l r same apart = λ h agrees solved.
        let low : a < length (values nodes) = subst (λ n. a < n) (sym (length-values nodes)) (known_below (length nodes) a (subst (IsPatternTerm (length nodes)) l formed.0.1)) in
        let low' : b < length (values nodes) = subst (λ n. b < n) (sym (length-values nodes)) (known_below (length nodes) b (subst (IsPatternTerm (length nodes)) r formed.1.1)) in
        let is : value_at nodes a ≡ value_at nodes b = sym (fill-Known nodes h a) ∙ sym (ap (fill nodes h) l) ∙ solved ∙ ap (fill nodes h) r ∙ fill-Known nodes h b in
        apart refl (same_part (values nodes) once a b low low' is)

    -- a hole on one side
    pub left_hole : (x : ℕ) (terms' : List PatternTerm) (found : Bool) → IsFree terms e.left → IsFree terms e.right → e.left ≡ pattern.Hole x
        → HoleTaken x e.right terms terms' found → TakenOrNot nodes e terms todo terms' todo found
    left_hole x terms' found own free l taken = hole_taken e x e.right terms terms' todo found known (subst (IsFree terms) l own) free formed.1 others
        (λ h solved. sym (fill-Hole nodes h x) ∙ sym (ap (fill nodes h) l) ∙ solved)
        (λ h is. ap (fill nodes h) l ∙ fill-Hole nodes h x ∙ is) taken

    pub right_hole : (x : ℕ) (terms' : List PatternTerm) (found : Bool) → IsFree terms e.left → IsFree terms e.right → e.right ≡ pattern.Hole x
        → HoleTaken x e.left terms terms' found → TakenOrNot nodes e terms todo terms' todo found
    right_hole x terms' found free own r taken = hole_taken e x e.left terms terms' todo found known (subst (IsFree terms) r own) free formed.0 others
        (λ h solved. sym (fill-Hole nodes h x) ∙ sym (ap (fill nodes h) r) ∙ sym solved)
        (λ h is. sym (ap (fill nodes h) r ∙ fill-Hole nodes h x ∙ is)) taken

    -- two functional terms
    module _ (f g : List ℕ) (ls rs : List PatternTerm) (l : e.left ≡ pattern.Fun f ls) (r : e.right ≡ pattern.Fun g rs) where
      left_formed : IsTermOf (length terms) (length nodes) (pattern.Fun f ls)
      left_formed = subst (IsTermOf (length terms) (length nodes)) l formed.0

      right_formed : IsTermOf (length terms) (length nodes) (pattern.Fun g rs)
      right_formed = subst (IsTermOf (length terms) (length nodes)) r formed.1

      calls_same : (h : Holes) → IsSolved nodes h e → (f ≡ g) × (map (fill nodes h) ls ≡ map (fill nodes h) rs)
      calls_same h solved =
          let some = has_some (length nodes) f ls left_formed.1 in
          let more = has_some (length nodes) g rs right_formed.1 in
          same_call f g (map (fill nodes h) ls) (map (fill nodes h) rs) (omega (arith, some.0, length-map (fill nodes h) ls)) (omega (arith, more.0, length-map (fill nodes h) rs))
          (sym (fill-Fun nodes h f ls) ∙ sym (ap (fill nodes h) l) ∙ solved ∙ ap (fill nodes h) r ∙ fill-Fun nodes h g rs)

      pub calls_taken : (todo' : List Equation) (found : Bool) → CallsTaken f g ls rs todo todo' found → TakenOrNot nodes e terms todo terms todo' found
      calls_taken todo' true k =
          subst (λ ts. IsTaken nodes e terms todo terms ts) (sym k.2)
          (taken_parts e terms todo ls rs known others k.1
          (arguments_formed (length terms) (length nodes) f ls left_formed) (arguments_formed (length terms) (length nodes) g rs right_formed)
          (λ h solved. (calls_same h solved).1)
          (λ h is. ap (fill nodes h) l ∙ fill-Fun nodes h f ls ∙ (λ i. functional (k.0 i) (is i)) ∙ sym (fill-Fun nodes h g rs) ∙ sym (ap (fill nodes h) r)))
      calls_taken todo' false never = λ h agrees solved.
          let same = calls_same h solved in
          never same.0 (sym (length-map (fill nodes h) ls) ∙ ap length same.1 ∙ length-map (fill nodes h) rs)

    -- a term of the pool and a functional term, on either side
    module _ (id : ℕ) (f : List ℕ) (args : List PatternTerm) (low : id < length nodes) (call : IsTermOf (length terms) (length nodes) (pattern.Fun f args))
        (to : (h : Holes) → IsSolved nodes h e → fill nodes h (pattern.Fun f args) ≡ value_at nodes id)
        (from : (h : Holes) → fill nodes h (pattern.Fun f args) ≡ value_at nodes id → IsSolved nodes h e) where
      call_value : (n : Node) → slice_get nodes id ≡ Some n → value_at nodes id ≡ value_from (values nodes) n
      call_value n at = value_here nodes pool id n at

      parts_low : (parts : List ℕ) → slice_get nodes id ≡ Some (node.Fun f parts) → All (λ a. a < length nodes) parts
      parts_low parts at = All-weaker (λ a. a < id) (λ a. a < length nodes) (λ a lt. omega (arith, lt, low)) parts (pool.parts id (node.Fun f parts) at)

      known_parts : (h : Holes) (parts : List ℕ) → map (fill nodes h) (map pattern.Known parts) ≡ map (part (values nodes)) parts
      known_parts h [] = refl
      known_parts h (p ∷ ps) = let first = fill-Known nodes h p in let rest = known_parts h ps in λ i. first i ∷ rest i

      some : 0 < length args
      some = (has_some (length nodes) f args call.1).0

      parts_same : (h : Holes) (parts : List ℕ) → slice_get nodes id ≡ Some (node.Fun f parts) → length parts ≡ length args → IsSolved nodes h e
          → map (fill nodes h) args ≡ map (fill nodes h) (map pattern.Known parts)
      parts_same h parts at many solved =
          (same_call f f (map (fill nodes h) args) (map (part (values nodes)) parts) (omega (arith, some, length-map (fill nodes h) args)) (omega (arith, some, many, length-map (part (values nodes)) parts))
          (sym (fill-Fun nodes h f args) ∙ to h solved ∙ call_value (node.Fun f parts) at)).1
          ∙ sym (known_parts h parts)

      pub known_taken : (todo' : List Equation) (found : Bool) → KnownTaken nodes id f args todo todo' found → TakenOrNot nodes e terms todo terms todo' found
      known_taken todo' true k =
          subst (λ ts. IsTaken nodes e terms todo terms ts) (sym k.3)
          (taken_parts e terms todo args (map pattern.Known k.0) known others (sym k.2 ∙ sym (length-map pattern.Known k.0))
          (arguments_formed (length terms) (length nodes) f args call) (known_formed (length terms) (length nodes) k.0 (parts_low k.0 k.1))
          (λ h solved. parts_same h k.0 k.1 k.2 solved)
          (λ h is. from h (fill-Fun nodes h f args ∙ ap (functional f) (is ∙ known_parts h k.0) ∙ sym (call_value (node.Fun f k.0) k.1))))
      known_taken todo' false never = λ h agrees solved.
          let n = get_below nodes id low in
          let r = call_node (values nodes) n.0 f (map (fill nodes h) args) (omega (arith, some, length-map (fill nodes h) args)) (sym (fill-Fun nodes h f args) ∙ to h solved ∙ call_value n.0 n.1) in
          never r.0 (n.1 ∙ ap Some r.1) (sym (length-map (part (values nodes)) r.0) ∙ ap length r.2 ∙ length-map (fill nodes h) args)

    pub left_known : (id : ℕ) (f : List ℕ) (args : List PatternTerm) → e.left ≡ pattern.Known id → e.right ≡ pattern.Fun f args → (todo' : List Equation) (found : Bool)
        → KnownTaken nodes id f args todo todo' found → TakenOrNot nodes e terms todo terms todo' found
    left_known id f args l r = known_taken id f args (known_below (length nodes) id (subst (IsPatternTerm (length nodes)) l formed.0.1)) (subst (IsTermOf (length terms) (length nodes)) r formed.1)
        (λ h solved. sym (ap (fill nodes h) r) ∙ sym solved ∙ ap (fill nodes h) l ∙ fill-Known nodes h id)
        (λ h is. sym (ap (fill nodes h) r ∙ is ∙ sym (fill-Known nodes h id) ∙ sym (ap (fill nodes h) l)))

    pub right_known : (id : ℕ) (f : List ℕ) (args : List PatternTerm) → e.right ≡ pattern.Known id → e.left ≡ pattern.Fun f args → (todo' : List Equation) (found : Bool)
        → KnownTaken nodes id f args todo todo' found → TakenOrNot nodes e terms todo terms todo' found
    right_known id f args r l = known_taken id f args (known_below (length nodes) id (subst (IsPatternTerm (length nodes)) r formed.1.1)) (subst (IsTermOf (length terms) (length nodes)) l formed.0)
        (λ h solved. sym (ap (fill nodes h) l) ∙ solved ∙ ap (fill nodes h) r ∙ fill-Known nodes h id)
        (λ h is. ap (fill nodes h) l ∙ is ∙ sym (fill-Known nodes h id) ∙ sym (ap (fill nodes h) r))
