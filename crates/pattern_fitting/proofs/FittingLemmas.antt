-- From the solution of the equations between terms with holes and terms of the pool to whether those become these.
use Rattle.std.proofs.Common.{◌≡◌, ℕ, ◌<◌, Bool, true, false, List, length, map, slice_get, Option, Some, None, refl, sym, ap, subst, ◌∙◌}
use Rattle.std.specs.Prelude.{All, IsTrue, ◌↔◌}
use Rattle.std.proofs.lemmas.Option.{slice_get_within}
use Rattle.lists.specs.Lists.{◌∈◌, Each}
use Rattle.lists.proofs.ListLemmas.{Each-at, Each-from}
use Rattle.lists.proofs.Places.{get_of}
use Rattle.alpha_outside.specs.declared.node.Node.{Node}
use Rattle.alpha_outside.specs.declared.pattern.PatternTerm.{PatternTerm}
use Rattle.alpha_outside.specs.declared.pattern.PatternTerm.TheVariants as pattern
use Rattle.asp_meaning.specs.declared.value.Value.{Value}
use Rattle.term_pool.specs.Nodes.{value_at}
use Rattle.term_pool.proofs.PlaceLemmas.{length-map, map-map}
use Rattle.unification.specs.Patterns.{HasHole, IsPatternTerm, Holes, fill, Become}
use Rattle.unification.specs.Solving.{AgreesWith, Solves, HolesBelow, IsTermOf, IsEquationOf, IsKnown, equations_of, SolvedOrNot}
use Rattle.unification.specs.Opening.{AreOwn}
use Rattle.unification.proofs.PatternTerms.{fill-Hole, fill-Known, fine_hole, hole_of_hole}
use Rattle.unification.proofs.Putting.{map_on, fill_same}
use Rattle.unification.proofs.Taking.{parts_solved, solved_parts, parts_formed, known_formed}

-- terms that become others are as many
pub as_many : (nodes : List Node) (terms : List PatternTerm) (ids : List ℕ) → Become nodes terms (map (value_at nodes) ids) → length terms ≡ length ids
as_many nodes terms ids (h, e) = sym (length-map (fill nodes h) terms) ∙ ap length e ∙ length-map (value_at nodes) ids

-- the value of what is known of a hole, or any
value_in : List Node → Holes → ℕ → Option PatternTerm → Value
value_in nodes h x None = h x
value_in nodes h x (Some t) = fill nodes h t

-- the values of all holes, from any values for those of which nothing else is known
pub known_values : List Node → Holes → List PatternTerm → Holes
known_values nodes h terms x = value_in nodes h x (slice_get terms x)

pub value_there : (nodes : List Node) (h : Holes) (terms : List PatternTerm) (x : ℕ) (t : PatternTerm) → slice_get terms x ≡ Some t
    → known_values nodes h terms x ≡ fill nodes h t
unfolding known_values value_in
value_there nodes h terms x t at = ap (value_in nodes h x) at

-- these agree with all that is known
pub values_agree : (nodes : List Node) (h : Holes) (terms : List PatternTerm) → IsKnown nodes terms → AgreesWith nodes (known_values nodes h terms) terms
values_agree nodes h terms known x t at =
    value_there nodes h terms x t at ∙ fill_same nodes h (known_values nodes h terms) t (λ y has.
    sym (value_there nodes h terms y (pattern.Hole y) (known.free x t at y has) ∙ fill-Hole nodes h y))

-- nothing is known before the first equation
pub own_known : (nodes : List Node) (holes : ℕ) (own : List PatternTerm) → AreOwn holes own → IsKnown nodes own
own_known nodes holes own are_own = record {
  free = λ x t at y has.
      let is = are_own.own x t at in
      let e : y ≡ x = hole_of_hole x y (subst (λ q. HasHole q y) is has) in
      subst (λ z. slice_get own z ≡ Some (pattern.Hole z)) (sym e) (at ∙ ap Some is);
  formed = Each-from (IsTermOf (length own) (length nodes)) own (λ t k.
      let r = get_of own t k in
      let is = are_own.own r.0 t r.1 in
      subst (IsTermOf (length own) (length nodes)) (sym is) (
        (λ y has. subst (λ z. z < length own) (sym (hole_of_hole r.0 y has)) (slice_get_within own r.0 t r.1)),
        fine_hole (length nodes) r.0,
      ));
}

-- and all values for the holes agree with it
pub agrees_own : (nodes : List Node) (holes : ℕ) (own : List PatternTerm) → AreOwn holes own → (h : Holes) → AgreesWith nodes h own
agrees_own nodes holes own are_own h x t at = sym (ap (fill nodes h) (are_own.own x t at) ∙ fill-Hole nodes h x)

module _ (nodes : List Node) (holes : ℕ) (own terms : List PatternTerm) (ids : List ℕ) (are_own : AreOwn holes own)
    (formed : Each (IsPatternTerm (length nodes)) terms) (below : (t : PatternTerm) → t ∈ terms → HolesBelow holes t)
    (there : All (λ id. id < length nodes) ids) (many : length terms ≡ length ids) where
  -- and the equations are of these holes and of terms of the pool
  pub todo_formed : Each (IsEquationOf (length own) (length nodes)) (equations_of terms (map pattern.Known ids))
  todo_formed = parts_formed nodes (length own) (length nodes) terms (map pattern.Known ids)
      (Each-from (IsTermOf (length own) (length nodes)) terms (λ t k. (
        (λ y has. subst (λ n. y < n) (sym are_own.many) (below t k y has)),
        Each-at (IsPatternTerm (length nodes)) terms t formed k,
      )))
      (known_formed nodes (length own) (length nodes) ids there)

  -- what the terms of the pool are
  fill_known : (h : Holes) → map (fill nodes h) (map pattern.Known ids) ≡ map (value_at nodes) ids
  fill_known h = map-map (fill nodes h) pattern.Known ids
      ∙ map_on (λ id. fill nodes h (pattern.Known id)) (value_at nodes) ids (λ id k. fill-Known nodes h id)

  solves : (h : Holes) → map (fill nodes h) terms ≡ map (value_at nodes) ids → Solves nodes h own (equations_of terms (map pattern.Known ids))
  solves h e = (
    agrees_own nodes holes own are_own h,
    parts_solved nodes h terms (map pattern.Known ids) (e ∙ sym (fill_known h)),
  )

  solved : (h : Holes) → Solves nodes h own (equations_of terms (map pattern.Known ids)) → map (fill nodes h) terms ≡ map (value_at nodes) ids
  solved h s =
      solved_parts nodes h terms (map pattern.Known ids) (many ∙ sym (length-map pattern.Known ids)) s.1 ∙ fill_known h

  -- so the terms become those of the pool exactly where there is a solution
  pub exactly : (now : List PatternTerm) (found : Bool) → SolvedOrNot nodes own (equations_of terms (map pattern.Known ids)) now found
      → IsTrue found ↔ Become nodes terms (map (value_at nodes) ids)
  exactly now true solution =
      let h = known_values nodes (value_at nodes) now in
      ((λ yes. (h, solved h (solution.back h (values_agree nodes (value_at nodes) now solution.known)))), (λ become. refl))
  exactly now false none = ((λ yes. absurd (cc)), (λ become. absurd (none become.0 (solves become.0 become.1))))
