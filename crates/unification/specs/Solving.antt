-- Equations between terms of patterns, and what is known of their holes.
use Rattle.std.specs.Prelude.{◌≡◌, ◌⊎◌, ◌↔◌, ℕ, ◌<◌, Bool, true, false, List, [], ◌∷◌, ◌++◌, map, length, Some, slice_get}
use Rattle.lists.specs.Lists.{◌∈◌, Each}
use Rattle.alpha_outside.specs.declared.node.Node.{Node}
use Rattle.alpha_outside.specs.declared.node.Node.TheVariants as node
use Rattle.alpha_outside.specs.declared.pattern.PatternTerm.{PatternTerm}
use Rattle.alpha_outside.specs.declared.pattern.PatternTerm.TheVariants as pattern
use Rattle.unification.specs.declared.solving.Equation.{Equation}
use Rattle.unification.specs.Patterns.{Holes, fill, HasHole, IsPatternTerm, put, only, at_places}

-- both sides become the same value
abbrev pub IsSolved : List Node → Holes → Equation → Type 0
IsSolved nodes h e = fill nodes h e.left ≡ fill nodes h e.right

-- each hole becomes what the term at its place becomes
abbrev pub AgreesWith : List Node → Holes → List PatternTerm → Type 0
AgreesWith nodes h terms = (x : ℕ) (t : PatternTerm) → slice_get terms x ≡ Some t → h x ≡ fill nodes h t

-- all that is known and asked holds
abbrev pub Solves : List Node → Holes → List PatternTerm → List Equation → Type 0
Solves nodes h terms todo = AgreesWith nodes h terms × Each (IsSolved nodes h) todo

-- the term's holes are below n, and are their own terms
abbrev pub IsFree : List PatternTerm → PatternTerm → Type 0
IsFree terms t = (y : ℕ) → HasHole t y → slice_get terms y ≡ Some (pattern.Hole y)

-- in the terms only holes stand that are their own terms
abbrev pub AreFree : List PatternTerm → Type 0
AreFree terms = (x : ℕ) (t : PatternTerm) → slice_get terms x ≡ Some t → IsFree terms t

-- all holes are below n
abbrev pub HolesBelow : ℕ → PatternTerm → Type 0
HolesBelow n t = (y : ℕ) → HasHole t y → y < n

-- a term of so many holes and so many terms of a pool
abbrev pub IsTermOf : ℕ → ℕ → PatternTerm → Type 0
IsTermOf holes terms t = HolesBelow holes t × IsPatternTerm terms t

abbrev pub IsEquationOf : ℕ → ℕ → Equation → Type 0
IsEquationOf holes terms e = IsTermOf holes terms e.left × IsTermOf holes terms e.right

-- what is known so far: for each hole a term, in which only holes stand that are their own terms
pub record IsKnown (nodes : List Node) (terms : List PatternTerm) : Type 0 where
  pub free : AreFree terms
  pub formed : Each (IsTermOf (length terms) (length nodes)) terms

-- the parts have to be the same, one by one
abbrev pub equations_of : List PatternTerm → List PatternTerm → List Equation
equations_of [] rs = []
equations_of (l ∷ ls) [] = []
equations_of (l ∷ ls) (r ∷ rs) = record { left = l; right = r } ∷ equations_of ls rs

-- all holes get this term in place of one
abbrev pub bound_to_hole : ℕ → PatternTerm → List PatternTerm → List PatternTerm
bound_to_hole x t terms = map (put (only x t)) terms

-- how a hole that has to be this term is taken: it is that already, or gets it; there is no solution where it stands in the term
abbrev pub HoleTaken : ℕ → PatternTerm → List PatternTerm → List PatternTerm → Bool → Type 0
HoleTaken x t terms terms' true = ((t ≡ pattern.Hole x) × (terms' ≡ terms)) ⊎ ((¬ HasHole t x) × (terms' ≡ bound_to_hole x t terms))
HoleTaken x t terms terms' false = HasHole t x × (¬ (t ≡ pattern.Hole x))

-- how a term of the pool that has to be this functional term is taken
abbrev pub KnownTaken : List Node → ℕ → List ℕ → List PatternTerm → List Equation → List Equation → Bool → Type 0
KnownTaken nodes id f args todo todo' true =
    (parts : List ℕ) × (slice_get nodes id ≡ Some (node.Fun f parts)) × (length parts ≡ length args) × (todo' ≡ todo ++ equations_of args (map pattern.Known parts))
KnownTaken nodes id f args todo todo' false = (parts : List ℕ) → slice_get nodes id ≡ Some (node.Fun f parts) → length parts ≡ length args → ⊥

-- how two functional terms that have to be the same are taken
abbrev pub CallsTaken : List ℕ → List ℕ → List PatternTerm → List PatternTerm → List Equation → List Equation → Bool → Type 0
CallsTaken f g ls rs todo todo' true = (f ≡ g) × (length ls ≡ length rs) × (todo' ≡ todo ++ equations_of ls rs)
CallsTaken f g ls rs todo todo' false = f ≡ g → length ls ≡ length rs → ⊥

-- an equation was taken: exactly the values for holes that solve it with the rest solve what there is now
pub record IsTaken (nodes : List Node) (e : Equation) (terms : List PatternTerm) (todo : List Equation) (terms' : List PatternTerm) (todo' : List Equation) : Type 0 where
  pub known : IsKnown nodes terms'
  pub many : length terms' ≡ length terms
  pub formed : Each (IsEquationOf (length terms) (length nodes)) todo'
  pub to : (h : Holes) → AgreesWith nodes h terms → IsSolved nodes h e → Each (IsSolved nodes h) todo → Solves nodes h terms' todo'
  pub back : (h : Holes) → Solves nodes h terms' todo' → AgreesWith nodes h terms × IsSolved nodes h e × Each (IsSolved nodes h) todo

-- no values for the holes agree with what is known and solve the equation
abbrev pub HasNoSolution : List Node → Equation → List PatternTerm → Type 0
HasNoSolution nodes e terms = (h : Holes) → AgreesWith nodes h terms → ¬ IsSolved nodes h e

abbrev pub TakenOrNot : List Node → Equation → List PatternTerm → List Equation → List PatternTerm → List Equation → Bool → Type 0
TakenOrNot nodes e terms todo terms' todo' true = IsTaken nodes e terms todo terms' todo'
TakenOrNot nodes e terms todo terms' todo' false = HasNoSolution nodes e terms

-- all equations were taken: exactly the values for holes that solved all agree with what is known now
pub record IsSolution (nodes : List Node) (terms : List PatternTerm) (todo : List Equation) (terms' : List PatternTerm) : Type 0 where
  pub known : IsKnown nodes terms'
  pub many : length terms' ≡ length terms
  pub to : (h : Holes) → Solves nodes h terms todo → AgreesWith nodes h terms'
  pub back : (h : Holes) → AgreesWith nodes h terms' → Solves nodes h terms todo

abbrev pub SolvedOrNot : List Node → List PatternTerm → List Equation → List PatternTerm → Bool → Type 0
SolvedOrNot nodes terms todo terms' true = IsSolution nodes terms todo terms'
SolvedOrNot nodes terms todo terms' false = (h : Holes) → ¬ Solves nodes h terms todo
