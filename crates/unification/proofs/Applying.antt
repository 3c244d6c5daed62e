-- What is known of the holes, put into an equation that is then taken.
use Rattle.std.proofs.Common.{◌≡◌, ◌⊎◌, inl, inr, ℕ, ◌<◌, Bool, true, false, List, [], ◌∷◌, ◌++◌, length, slice_get, Option, Some, None, refl, sym, ap, subst, ◌∙◌, arith}
use Rattle.std.proofs.lemmas.Option.{get_or_from_slice_get}
use Rattle.lists.specs.Lists.{◌∈◌, Each}
use Rattle.lists.proofs.ListLemmas.{Each-at, Each-from, Each-append}
use Rattle.alpha_outside.specs.declared.node.Node.{Node}
use Rattle.alpha_outside.specs.declared.pattern.PatternTerm.{PatternTerm}
use Rattle.alpha_outside.specs.declared.pattern.PatternTerm.TheVariants as pattern
use Rattle.unification.specs.declared.solving.Equation.{Equation}
use Rattle.unification.specs.Patterns.{HasHole, IsPatternTerm, Holes, fill, put, at_places}
use Rattle.unification.specs.Solving.{IsSolved, AgreesWith, Solves, IsFree, HolesBelow, IsTermOf, IsEquationOf, IsKnown, IsTaken, HasNoSolution, TakenOrNot, IsSolution, SolvedOrNot}
use Rattle.unification.proofs.Putting.{fill_put, fill_same, hole_put, fine_put}
use Rattle.lists.proofs.Places.{get_below}
use Rattle.search_values.proofs.Basics.{get_in}
use Rattle.unification.proofs.Places.{each_of_first, each_of_second}

module _ (nodes : List Node) (terms : List PatternTerm) (known : IsKnown nodes terms) where
  -- the term at the place of a hole
  at_there : (y : ℕ) → y < length terms → (t : PatternTerm) × (slice_get terms y ≡ Some t) × (at_places terms y ≡ t)
  at_there y low = let r = get_below terms y low in (r.0, r.1, get_or_from_slice_get terms y r.0 (pattern.Hole y) r.1)

  at_formed : (y : ℕ) → y < length terms → IsTermOf (length terms) (length nodes) (at_places terms y)
  at_formed y low = let r = at_there y low in
      subst (IsTermOf (length terms) (length nodes)) (sym r.2) (Each-at (IsTermOf (length terms) (length nodes)) terms r.0 known.formed (get_in terms y r.0 r.1))

  at_free : (y : ℕ) → y < length terms → IsFree terms (at_places terms y)
  at_free y low = let r = at_there y low in subst (IsFree terms) (sym r.2) (known.free y r.0 r.1)

  pub applied_free : (t : PatternTerm) → HolesBelow (length terms) t → IsFree terms (put (at_places terms) t)
  applied_free t below z has = let r = hole_put (at_places terms) z t has in at_free r.0 (below r.0 r.1) z r.2

  pub applied_formed : (t : PatternTerm) → IsTermOf (length terms) (length nodes) t → IsTermOf (length terms) (length nodes) (put (at_places terms) t)
  applied_formed t formed = (
    (λ z has. let r = hole_put (at_places terms) z t has in (at_formed r.0 (formed.0 r.0 r.1)).0 z r.2),
    fine_put (length nodes) (at_places terms) t formed.1 (λ x has. (at_formed x (formed.0 x has)).1),
  )

  pub applied_same : (h : Holes) → AgreesWith nodes h terms → (t : PatternTerm) → HolesBelow (length terms) t → fill nodes h (put (at_places terms) t) ≡ fill nodes h t
  applied_same h agrees t below = fill_put nodes h (at_places terms) t ∙ fill_same nodes (λ x. fill nodes h (at_places terms x)) h t (λ x has.
      let r = at_there x (below x has) in ap (fill nodes h) r.2 ∙ sym (agrees x r.0 r.1))

-- an equation into which what is known was put is taken as the equation itself
module _ (nodes : List Node) (terms : List PatternTerm) (known : IsKnown nodes terms) (e : Equation) (formed : IsEquationOf (length terms) (length nodes) e) where
  pub taken_itself_too : (todo : List Equation) (terms' : List PatternTerm) (todo' : List Equation) (found : Bool)
      → TakenOrNot nodes (record { left = put (at_places terms) e.left; right = put (at_places terms) e.right }) terms todo terms' todo' found → TakenOrNot nodes e terms todo terms' todo' found
  taken_itself_too todo terms' todo' true taken = record {
    known = taken.known;
    many = taken.many;
    formed = taken.formed;
    to = λ h agrees solved rest. taken.to h agrees (applied_same nodes terms known h agrees e.left formed.0.0 ∙ solved ∙ sym (applied_same nodes terms known h agrees e.right formed.1.0)) rest;
    back = λ h solves.
        let all = taken.back h solves in
        (all.0, sym (applied_same nodes terms known h all.0 e.left formed.0.0) ∙ all.1 ∙ applied_same nodes terms known h all.0 e.right formed.1.0, all.2);
  }
  taken_itself_too todo terms' todo' false never = λ h agrees solved.
      never h agrees (applied_same nodes terms known h agrees e.left formed.0.0 ∙ solved ∙ sym (applied_same nodes terms known h agrees e.right formed.1.0))

  pub taken_as : (l r : PatternTerm) (todo : List Equation) (terms' : List PatternTerm) (todo' : List Equation) (found : Bool) → l ≡ put (at_places terms) e.left → r ≡ put (at_places terms) e.right
      → TakenOrNot nodes (record { left = l; right = r }) terms todo terms' todo' found → TakenOrNot nodes e terms todo terms' todo' found
  taken_as l r todo terms' todo' found el er k = taken_itself_too todo terms' todo' found
      (subst (λ (q : Equation). TakenOrNot nodes q terms todo terms' todo' found) (λ i. record { left = el i; right = er i }) k)

-- on the way: exactly the same values solve all as at the beginning
pub record IsOnTheWay (nodes : List Node) (terms : List PatternTerm) (todo : List Equation) (now : List PatternTerm) (left : List Equation) : Type 0 where
  pub known : IsKnown nodes now
  pub many : length now ≡ length terms
  pub formed : Each (IsEquationOf (length now) (length nodes)) left
  pub to : (h : Holes) → Solves nodes h terms todo → Solves nodes h now left
  pub back : (h : Holes) → Solves nodes h now left → Solves nodes h terms todo

pub first_of_all : (nodes : List Node) (terms : List PatternTerm) (todo : List Equation) → IsKnown nodes terms → Each (IsEquationOf (length terms) (length nodes)) todo
    → IsOnTheWay nodes terms todo terms todo
first_of_all nodes terms todo known formed = record { known = known; many = refl; formed = formed; to = λ h s. s; back = λ h s. s }

module _ (nodes : List Node) (terms : List PatternTerm) (todo : List Equation) (now : List PatternTerm) (left : List Equation) (way : IsOnTheWay nodes terms todo now left)
    (rest : List Equation) (e : Equation) (popped : left ≡ rest ++ e ∷ []) where
  abbrev Formed : Equation → Type 0
  Formed = IsEquationOf (length now) (length nodes)

  pub rest_formed : Each Formed rest
  rest_formed = each_of_first Formed rest (e ∷ []) (subst (Each Formed) popped way.formed)

  pub popped_formed : Formed e
  popped_formed = (each_of_second Formed rest (e ∷ []) (subst (Each Formed) popped way.formed)).0

  all_left : (h : Holes) → Solves nodes h terms todo → Solves nodes h now (rest ++ e ∷ [])
  all_left h solves = subst (λ es. Solves nodes h now es) popped (way.to h solves)

  -- one more was taken
  pub way_on : (now' : List PatternTerm) (left' : List Equation) → IsTaken nodes e now rest now' left' → IsOnTheWay nodes terms todo now' left'
  way_on now' left' taken = record {
    known = taken.known;
    many = taken.many ∙ way.many;
    formed = subst (λ n. Each (IsEquationOf n (length nodes)) left') (sym taken.many) taken.formed;
    to = λ h solves.
        let all = all_left h solves in
        taken.to h all.0 (each_of_second (IsSolved nodes h) rest (e ∷ []) all.1).0 (each_of_first (IsSolved nodes h) rest (e ∷ []) all.1);
    back = λ h solves.
        let all = taken.back h solves in
        way.back h (subst (λ es. Solves nodes h now es) (sym popped) (all.0, Each-append (IsSolved nodes h) rest (e ∷ []) all.2 (all.1, tt)));
  }

  -- there was none
  pub no_way : HasNoSolution nodes e now → (h : Holes) → ¬ Solves nodes h terms todo
  no_way never h solves = let all = all_left h solves in never h all.0 (each_of_second (IsSolved nodes h) rest (e ∷ []) all.1).0

-- none is left
pub all_taken : (nodes : List Node) (terms : List PatternTerm) (todo : List Equation) (now : List PatternTerm) (left : List Equation) → IsOnTheWay nodes terms todo now left → left ≡ []
    → IsSolution nodes terms todo now
all_taken nodes terms todo now left way none = record {
  known = way.known;
  many = way.many;
  to = λ h solves. (way.to h solves).0;
  back = λ h agrees. way.back h (agrees, subst (Each (IsSolved nodes h)) (sym none) tt);
}
