-- What a term becomes with others in place of its holes.
use Rattle.std.proofs.Common.{◌≡◌, inl, inr, ℕ, ◌<◌, List, [], ◌∷◌, length, map, refl, sym, ap, subst, ◌∙◌, arith}
use Rattle.term_pool.proofs.PlaceLemmas.{length-map, map-map}
use Rattle.lists.specs.Lists.{◌∈◌}
use Rattle.lists.proofs.ListLemmas.{∈-map_from}
use Rattle.alpha_outside.specs.declared.node.Node.{Node}
use Rattle.alpha_outside.specs.declared.pattern.PatternTerm.{PatternTerm}
use Rattle.alpha_outside.specs.declared.pattern.PatternTerm.TheVariants as pattern
use Rattle.asp_meaning.specs.declared.value.Value.{Value}
use Rattle.asp_meaning.specs.Terms.{functional}
use Rattle.unification.specs.Patterns.{HasHole, IsPatternTerm, Holes, fill, put, hole}
use Rattle.unification.proofs.PatternTerms.{by_terms, fill-Hole, fill-Known, fill-Fun, put-Hole, put-Known, put-Fun, hole_of_call, of_argument, its_own_hole, no_hole_known, fine_known, fine_argument, has_some, fine_call}

-- functions that are the same on a list give the same list
pub map_on : {A B : Type 0} (f g : A → B) (xs : List A) → ((x : A) → x ∈ xs → f x ≡ g x) → map f xs ≡ map g xs
map_on f g [] h = refl
map_on f g (x ∷ xs) h = let first = h x (inl refl) in let rest = map_on f g xs (λ y k. h y (inr k)) in λ i. first i ∷ rest i

module _ (nodes : List Node) where
  -- a term with others in place of its holes becomes what it becomes where the holes are what these become
  pub fill_put : (h : Holes) (s : ℕ → PatternTerm) (t : PatternTerm) → fill nodes h (put s t) ≡ fill nodes (λ x. fill nodes h (s x)) t
  fill_put h s = by_terms (λ t. fill nodes h (put s t) ≡ fill nodes k t)
      (λ x. ap (fill nodes h) (put-Hole s x) ∙ sym (fill-Hole nodes k x))
      (λ id. ap (fill nodes h) (put-Known s id) ∙ fill-Known nodes h id ∙ sym (fill-Known nodes k id))
      (λ f args ih. ap (fill nodes h) (put-Fun s f args) ∙ fill-Fun nodes h f (map (put s) args)
      ∙ ap (functional f) (map-map (fill nodes h) (put s) args ∙ map_on (λ t. fill nodes h (put s t)) (fill nodes k) args ih)
      ∙ sym (fill-Fun nodes k f args))
    where
      k : Holes
      k x = fill nodes h (s x)

  -- only the values of its own holes matter
  pub fill_same : (h k : Holes) (t : PatternTerm) → ((x : ℕ) → HasHole t x → h x ≡ k x) → fill nodes h t ≡ fill nodes k t
  fill_same h k = by_terms (λ t. ((x : ℕ) → HasHole t x → h x ≡ k x) → fill nodes h t ≡ fill nodes k t)
      (λ x agree. fill-Hole nodes h x ∙ agree x (its_own_hole x) ∙ sym (fill-Hole nodes k x))
      (λ id agree. fill-Known nodes h id ∙ sym (fill-Known nodes k id))
      (λ f args ih agree. fill-Fun nodes h f args
      ∙ ap (functional f) (map_on (fill nodes h) (fill nodes k) args (λ u i. ih u i (λ x j. agree x (of_argument (hole x) f args u i j))))
      ∙ sym (fill-Fun nodes k f args))

-- a hole of the result is one of a term that was put in place of a hole
pub hole_put : (s : ℕ → PatternTerm) (y : ℕ) (t : PatternTerm) → HasHole (put s t) y → (x : ℕ) × HasHole t x × HasHole (s x) y
hole_put s y = by_terms (λ t. HasHole (put s t) y → (x : ℕ) × HasHole t x × HasHole (s x) y)
    (λ x k. (x, its_own_hole x, subst (λ t. HasHole t y) (put-Hole s x) k))
    (λ id k. absurd (no_hole_known id y (subst (λ t. HasHole t y) (put-Known s id) k)))
    (λ f args ih k.
    let r = hole_of_call y f (map (put s) args) (subst (λ t. HasHole t y) (put-Fun s f args) k) in
    let w = ∈-map_from (put s) r.0 args r.1 in
    let q = ih w.0 w.1 (subst (λ t. HasHole t y) w.2 r.2) in
    (q.0, of_argument (hole q.0) f args w.0 w.1 q.1, q.2))

-- the result is a term beside the pool
pub fine_put : (n : ℕ) (s : ℕ → PatternTerm) (t : PatternTerm) → IsPatternTerm n t → ((x : ℕ) → HasHole t x → IsPatternTerm n (s x)) → IsPatternTerm n (put s t)
fine_put n s = by_terms (λ t. IsPatternTerm n t → ((x : ℕ) → HasHole t x → IsPatternTerm n (s x)) → IsPatternTerm n (put s t))
    (λ x fine each. subst (IsPatternTerm n) (sym (put-Hole s x)) (each x (its_own_hole x)))
    (λ id fine each. subst (IsPatternTerm n) (sym (put-Known s id)) fine)
    (λ f args ih fine each.
    let some = has_some n f args fine in
    subst (IsPatternTerm n) (sym (put-Fun s f args)) (fine_call n f (map (put s) args) (omega (arith, some.0, length-map (put s) args)) some.1 (λ u i.
    let w = ∈-map_from (put s) u args i in
    subst (IsPatternTerm n) (sym w.2) (ih w.0 w.1 (fine_argument n f args fine w.0 w.1) (λ x j. each x (of_argument (hole x) f args w.0 w.1 j))))))
