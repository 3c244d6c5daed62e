-- Terms become nothing but what others become exactly where the most general solution leaves their holes apart.
use Rattle.std.proofs.Common.{◌≡◌, inl, inr, ℕ, zero, suc, ◌+◌, ◌-◌, ◌<◌, ◌≤◌, pos, Bool, nat_lt, nat_eq, cond, List, [], ◌∷◌, length, map, take, slice_get, Some, refl, sym, ap, subst, ◌∙◌, arith}
use Rattle.std.specs.Prelude.{IsTrue, ◌↔◌}
use Rattle.std.proofs.lemmas.Option.{same_Some, slice_get_within}
use Rattle.std.proofs.lemmas.Bool.{lt-ltb, le-ltb, eq-eqb, ne_eqb}
use Rattle.lists.specs.Lists.{◌∈◌, Each, HasNoRepeats}
use Rattle.lists.proofs.ListLemmas.{Each-at, Each-from, ∈-map_from}
use Rattle.lists.proofs.Places.{get_below, get_of}
use Rattle.alpha_outside.specs.declared.node.Node.{Node}
use Rattle.alpha_outside.specs.declared.pattern.PatternTerm.{PatternTerm}
use Rattle.alpha_outside.specs.declared.pattern.PatternTerm.TheVariants as pattern
use Rattle.asp_meaning.specs.declared.value.Value.{Value}
use Rattle.asp_meaning.specs.declared.value.Value.TheOpen.{Value-F}
use Rattle.asp_meaning.specs.declared.value.Value.TheOpen as layer
use Rattle.asp_meaning.specs.declared.value.Value.TheVariants as value
use Rattle.asp_meaning.specs.declared.value.Value.TheFolds.{fold-Value, fold-roll-Value}
use Rattle.asp_meaning.specs.Terms.{functional}
use Rattle.term_pool.specs.Nodes.{value_at, value_size}
use Rattle.term_pool.proofs.ValueLemmas.{size-functional}
use Rattle.term_pool.proofs.PlaceLemmas.{length-map, map-map}
use Rattle.unification.specs.Patterns.{HasHole, IsPatternTerm, Holes, fill, put, later_by}
use Rattle.unification.specs.Solving.{AgreesWith, Solves, HolesBelow, IsTermOf, IsEquationOf, equations_of, IsSolution}
use Rattle.unification.specs.Opening.{AreOwn}
use Rattle.unification.proofs.PatternTerms.{by_terms, fill-Hole, fill-Known, fill-Fun, fine_hole, hole_of_hole, its_own_hole}
use Rattle.unification.proofs.Putting.{map_on, fill_put, fill_same, hole_put, fine_put}
use Rattle.unification.proofs.Taking.{parts_solved, solved_parts, parts_formed}
use Rattle.pattern_fitting.specs.Instances.{AreInstances, IsHole, AreApart}
use Rattle.pattern_fitting.proofs.FittingLemmas.{known_values, value_there, values_agree, agrees_own}

-- ---- values that differ

-- what kind of value it is, and of an integer that isn't negative which one
kind_step : Value-F ℕ → ℕ
kind_step (layer.Int (pos n)) = suc n
kind_step _ = 0

kind : Value → ℕ
kind = fold-Value ℕ kind_step

kind-Int : (n : ℕ) → kind (value.Int (pos n)) ≡ suc n
unfolding kind kind_step
kind-Int n = ap kind (sym (value.rolls-Int (pos n))) ∙ fold-roll-Value ℕ kind_step (layer.Int (pos n))

kind-functional : (f : List ℕ) (args : List Value) → kind (functional f args) ≡ 0
unfolding kind kind_step
kind-functional f [] = ap kind (sym (value.rolls-Symbol f)) ∙ fold-roll-Value ℕ kind_step (layer.Symbol f)
kind-functional f (x ∷ xs) = ap kind (sym (value.rolls-Fun f x xs)) ∙ fold-roll-Value ℕ kind_step (layer.Fun f x xs)

-- each hole as an integer of its own
abbrev numbered : Holes
numbered x = value.Int (pos x)

numbers_differ : (x y : ℕ) → numbered x ≡ numbered y → x ≡ y
numbers_differ x y e = let same : suc x ≡ suc y = sym (kind-Int x) ∙ ap kind e ∙ kind-Int y in omega (arith, same)

no_call : (x : ℕ) (f : List ℕ) (args : List Value) → ¬ (numbered x ≡ functional f args)
no_call x f args e = let same : suc x ≡ 0 = sym (kind-Int x) ∙ ap kind e ∙ kind-functional f args in omega (arith, same)

-- a value that isn't this one
abbrev wrapped : Value → Value
wrapped v = functional (97 ∷ []) (v ∷ [])

never_wrapped : (v : Value) → ¬ (wrapped v ≡ v)
never_wrapped v e =
    let size = size-functional (97 ∷ []) (v ∷ []) in
    let same : value_size (wrapped v) ≡ value_size v = ap value_size e in
    omega (arith, size, same)

-- ---- places

take_at : {A : Type 0} (xs : List A) (n x : ℕ) → x < n → slice_get (take n xs) x ≡ slice_get xs x
take_at [] zero x lt = absurd (omega (arith, lt))
take_at [] (suc n) x lt = refl
take_at (y ∷ ys) zero x lt = absurd (omega (arith, lt))
take_at (y ∷ ys) (suc n) zero lt = refl
take_at (y ∷ ys) (suc n) (suc x) lt = take_at ys n x (omega (arith, lt))

take_short : {A : Type 0} (xs : List A) (n : ℕ) → length (take n xs) ≤ n
take_short xs zero = omega arith
take_short [] (suc n) = omega arith
take_short (y ∷ ys) (suc n) = let r = take_short ys n in omega (arith, r)

-- where each member has one place, none is there twice
once_by_places : {A : Type 0} (xs : List A) → ((x y : ℕ) (a : A) → slice_get xs x ≡ Some a → slice_get xs y ≡ Some a → x ≡ y) → HasNoRepeats xs
once_by_places [] one = tt
once_by_places (a ∷ xs) one = (
  (λ k. let r = get_of xs a k in let same : zero ≡ suc r.0 = one zero (suc r.0) a refl r.1 in omega (arith, same)),
  once_by_places xs (λ x y b p q. let same : suc x ≡ suc y = one (suc x) (suc y) b p q in omega (arith, same)),
)

-- ---- values for the terms that are holes

hole_number : (x y : ℕ) → pattern.Hole x ≡ pattern.Hole y → y ≡ x
hole_number x y e = hole_of_hole x y (subst (λ t. HasHole t y) (sym e) (its_own_hole y))

-- the value of the first that is this hole
picked : (ts : List PatternTerm) → Each IsHole ts → (ℕ → Value) → ℕ → Value
picked [] holes f z = value.Int (pos 0)
picked (t ∷ ts) holes f z = cond (nat_eq holes.0.0 z) (f zero) (picked ts holes.1 (λ x. f (suc x)) z)

picked_at : (ts : List PatternTerm) (holes : Each IsHole ts) → HasNoRepeats ts → (f : ℕ → Value) (x z : ℕ) → slice_get ts x ≡ Some (pattern.Hole z)
    → picked ts holes f z ≡ f x
unfolding picked
picked_at [] holes once f x z at = cc
picked_at (t ∷ ts) holes once f zero z at =
    let is : t ≡ pattern.Hole z = same_Some t (pattern.Hole z) at in
    let same : z ≡ holes.0.0 = hole_number holes.0.0 z (sym holes.0.1 ∙ is) in
    ap (λ b. cond b (f zero) (picked ts holes.1 (λ x. f (suc x)) z)) (eq-eqb holes.0.0 z (sym same))
picked_at (t ∷ ts) holes once f (suc x) z at =
    ap (λ b. cond b (f zero) (picked ts holes.1 (λ y. f (suc y)) z))
    (ne_eqb holes.0.0 z (λ same. once.0 (subst (λ u. u ∈ ts) (sym (holes.0.1 ∙ ap pattern.Hole same)) (member ts x (pattern.Hole z) at))))
    ∙ picked_at ts holes.1 once.1 (λ y. f (suc y)) x z at
  where
    member : {A : Type 0} (xs : List A) (n : ℕ) (a : A) → slice_get xs n ≡ Some a → a ∈ xs
    member [] n a e = absurd (cc)
    member (b ∷ xs) zero a e = inl (sym (same_Some b a e))
    member (b ∷ xs) (suc n) a e = inr (member xs n a e)

module _ (nodes : List Node) (first second many : ℕ) (own ps qs : List PatternTerm) (count : many ≡ first + second) (are_own : AreOwn many own)
    (formed : Each (IsPatternTerm (length nodes)) ps) (below : (t : PatternTerm) → t ∈ ps → HolesBelow first t)
    (others_formed : Each (IsPatternTerm (length nodes)) qs) (others_below : (t : PatternTerm) → t ∈ qs → HolesBelow second t)
    (same : length ps ≡ length qs) where
  -- the others, with holes of other numbers
  abbrev moved : List PatternTerm
  moved = map (put (later_by first)) qs

  pub instances_formed : Each (IsEquationOf (length own) (length nodes)) (equations_of ps moved)
  instances_formed = parts_formed nodes (length own) (length nodes) ps moved
      (Each-from (IsTermOf (length own) (length nodes)) ps (λ t k. (
        (λ y has. omega (arith, below t k y has, are_own.many, count)),
        Each-at (IsPatternTerm (length nodes)) ps t formed k,
      )))
      (Each-from (IsTermOf (length own) (length nodes)) moved (λ t k.
      let w = ∈-map_from (put (later_by first)) t qs k in
      subst (IsTermOf (length own) (length nodes)) (sym w.2) (
        (λ y has.
            let r = hole_put (later_by first) y w.0 has in
            omega (arith, hole_of_hole (first + r.0) y r.2, others_below w.0 w.1 r.0 r.1, are_own.many, count)),
        fine_put (length nodes) (later_by first) w.0 (Each-at (IsPatternTerm (length nodes)) qs w.0 others_formed w.1) (λ x has. fine_hole (length nodes) (first + x)),
      )))

  fill_moved : (h : Holes) → map (fill nodes h) moved ≡ map (fill nodes (λ x. h (first + x))) qs
  fill_moved h = map-map (fill nodes h) (put (later_by first)) qs
      ∙ map_on (λ p. fill nodes h (put (later_by first) p)) (fill nodes (λ x. h (first + x))) qs (λ p k.
      fill_put nodes h (later_by first) p
      ∙ fill_same nodes (λ x. fill nodes h (later_by first x)) (λ x. h (first + x)) p (λ x has. fill-Hole nodes h (first + x)))

  -- values for the holes of both
  abbrev both : Holes → Holes → Holes
  both h g y = cond (nat_lt y first) (h y) (g (y - first))

  both_first : (h g : Holes) (y : ℕ) → y < first → both h g y ≡ h y
  both_first h g y low = ap (λ b. cond b (h y) (g (y - first))) (lt-ltb y first low)

  both_second : (h g : Holes) (y : ℕ) → both h g (first + y) ≡ g y
  both_second h g y = ap (λ b. cond b (h (first + y)) (g (first + y - first))) (le-ltb (first + y) first (omega arith)) ∙ ap g (omega arith)

  module _ (now : List PatternTerm) (sol : IsSolution nodes own (equations_of ps moved) now) where
    -- ---- where they are instances, the holes are apart

    module _ (are : AreInstances nodes ps qs) where
      -- any values for the holes of the first are part of a solution
      agreeing : (h : Holes) → (g : Holes) × AgreesWith nodes (both h g) now
      agreeing h =
          let w = are (map (fill nodes h) ps) (h, refl) in
          let left : map (fill nodes (both h w.0)) ps ≡ map (fill nodes h) ps =
          map_on (fill nodes (both h w.0)) (fill nodes h) ps (λ t k. fill_same nodes (both h w.0) h t (λ y has. both_first h w.0 y (below t k y has))) in
          let right : map (fill nodes (λ x. both h w.0 (first + x))) qs ≡ map (fill nodes w.0) qs =
          map_on (fill nodes (λ x. both h w.0 (first + x))) (fill nodes w.0) qs (λ t k. fill_same nodes (λ x. both h w.0 (first + x)) w.0 t (λ y has. both_second h w.0 y)) in
          let equal : map (fill nodes (both h w.0)) ps ≡ map (fill nodes (both h w.0)) moved = left ∙ sym w.1 ∙ sym right ∙ sym (fill_moved (both h w.0)) in
          (w.0, sol.to (both h w.0) (agrees_own nodes many own are_own (both h w.0), parts_solved nodes (both h w.0) ps moved equal))

      -- so each of the first holes has any value
      any_value : (h : Holes) (x : ℕ) (t : PatternTerm) → x < first → slice_get now x ≡ Some t → (k : Holes) × (AgreesWith nodes k now) × (h x ≡ fill nodes k t) × ((y : ℕ) → y < first → k y ≡ h y)
      any_value h x t low at =
          let w = agreeing h in
          (both h w.0, w.1, sym (both_first h w.0 x low) ∙ w.1 x t at, (λ y lt. both_first h w.0 y lt))

      -- and is a hole
      is_hole : (x : ℕ) (t : PatternTerm) → x < first → slice_get now x ≡ Some t → IsHole t
      is_hole x t low = by_terms (λ u. slice_get now x ≡ Some u → IsHole u)
          (λ z at. (z, refl))
          (λ id at.
          let w = any_value (λ y. wrapped (value_at nodes id)) x (pattern.Known id) low at in
          absurd (never_wrapped (value_at nodes id) (w.2 ∙ fill-Known nodes w.0 id)))
          (λ f args ih at.
          let w = any_value numbered x (pattern.Fun f args) low at in
          absurd (no_call x f (map (fill nodes w.0) args) (w.2 ∙ fill-Fun nodes w.0 f args)))
          t

      -- of which each is there once
      one_place : (x y : ℕ) (t : PatternTerm) → x < first → y < first → slice_get now x ≡ Some t → slice_get now y ≡ Some t → x ≡ y
      one_place x y t low lower at there =
          let w = any_value numbered x t low at in
          let other : numbered y ≡ fill nodes w.0 t = sym (w.3 y lower) ∙ w.1 y t there in
          numbers_differ x y (w.2 ∙ sym other)

      low_place : (x : ℕ) (t : PatternTerm) → slice_get (take first now) x ≡ Some t → (x < first) × (slice_get now x ≡ Some t)
      low_place x t at =
          let within = slice_get_within (take first now) x t at in
          let short = take_short now first in
          let low : x < first = omega (arith, within, short) in
          (low, sym (take_at now first x low) ∙ at)

      are_apart : AreApart (take first now)
      are_apart = (
        Each-from IsHole (take first now) (λ t k.
            let r = get_of (take first now) t k in let p = low_place r.0 t r.1 in is_hole r.0 t p.0 p.1),
        once_by_places (take first now) (λ x y t at there.
            let p = low_place x t at in let q = low_place y t there in one_place x y t p.0 q.0 p.1 q.1),
      )

    -- ---- where the holes are apart, they are instances

    module _ (apart : AreApart (take first now)) where
      -- values for the holes that are left, from those of the first
      abbrev back : Holes → Holes
      back h = known_values nodes (picked (take first now) apart.0 h) now

      back_first : (h : Holes) (y : ℕ) → y < first → back h y ≡ h y
      back_first h y low =
          let at = get_below now y (omega (arith, low, sol.many, are_own.many, count)) in
          let here : slice_get (take first now) y ≡ Some at.0 = take_at now first y low ∙ at.1 in
          let hole = Each-at IsHole (take first now) at.0 apart.0 (member (take first now) y at.0 here) in
          value_there nodes (picked (take first now) apart.0 h) now y at.0 at.1
          ∙ ap (fill nodes (picked (take first now) apart.0 h)) hole.1 ∙ fill-Hole nodes (picked (take first now) apart.0 h) hole.0
          ∙ picked_at (take first now) apart.0 apart.1 h y hole.0 (here ∙ ap Some hole.1)
        where
          member : {A : Type 0} (xs : List A) (n : ℕ) (a : A) → slice_get xs n ≡ Some a → a ∈ xs
          member [] n a e = absurd (cc)
          member (b ∷ xs) zero a e = inl (sym (same_Some b a e))
          member (b ∷ xs) (suc n) a e = inr (member xs n a e)

      instances : AreInstances nodes ps qs
      instances vs become =
          let h = become.0 in
          let k = back h in
          let solved = sol.back k (values_agree nodes (picked (take first now) apart.0 h) now sol.known) in
          let equal = solved_parts nodes k ps moved (same ∙ sym (length-map (put (later_by first)) qs)) solved.1 in
          let left : map (fill nodes k) ps ≡ map (fill nodes h) ps =
          map_on (fill nodes k) (fill nodes h) ps (λ t i. fill_same nodes k h t (λ y has. back_first h y (below t i y has))) in
          ((λ x. k (first + x)), sym (fill_moved k) ∙ sym equal ∙ left ∙ become.1)

    -- so both are the same
    pub instances_where_apart : (b : Bool) → IsTrue b ↔ AreApart (take first now) → IsTrue b ↔ AreInstances nodes ps qs
    instances_where_apart b is = ((λ yes. instances (is.0 yes)), (λ are. is.1 (are_apart are)))

  -- without a solution they are none
  pub none_where_unsolved : ((h : Holes) → ¬ Solves nodes h own (equations_of ps moved)) → ¬ AreInstances nodes ps qs
  none_where_unsolved none are =
      let h : Holes = value_at nodes in
      let w = are (map (fill nodes h) ps) (h, refl) in
      let left : map (fill nodes (both h w.0)) ps ≡ map (fill nodes h) ps =
      map_on (fill nodes (both h w.0)) (fill nodes h) ps (λ t k. fill_same nodes (both h w.0) h t (λ y has. both_first h w.0 y (below t k y has))) in
      let right : map (fill nodes (λ x. both h w.0 (first + x))) qs ≡ map (fill nodes w.0) qs =
      map_on (fill nodes (λ x. both h w.0 (first + x))) (fill nodes w.0) qs (λ t k. fill_same nodes (λ x. both h w.0 (first + x)) w.0 t (λ y has. both_second h w.0 y)) in
      let equal : map (fill nodes (both h w.0)) ps ≡ map (fill nodes (both h w.0)) moved = left ∙ sym w.1 ∙ sym right ∙ sym (fill_moved (both h w.0)) in
      none (both h w.0) (agrees_own nodes many own are_own (both h w.0), parts_solved nodes (both h w.0) ps moved equal)

-- terms that become all that others become are as many
pub as_many_instances : (nodes : List Node) (ps qs : List PatternTerm) → AreInstances nodes ps qs → length ps ≡ length qs
as_many_instances nodes ps qs are =
    let h : Holes = value_at nodes in
    let w = are (map (fill nodes h) ps) (h, refl) in
    sym (length-map (fill nodes h) ps) ∙ sym (ap length w.1) ∙ length-map (fill nodes w.0) qs
