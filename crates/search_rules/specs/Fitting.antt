-- Which core atoms fit a pattern: those whose arguments arise by putting values for its holes, the same value for the same hole.
use Rattle.std.specs.Prelude.{◌≡◌, ℕ, pos, Bool, ◌&&◌, nat_eq, cond, List, [], ◌∷◌, ◌++◌, Some, map, length}
use Rattle.alpha_outside.specs.declared.node.Node.{Node}
use Rattle.alpha_outside.specs.declared.pattern.Pattern.{Pattern}
use Rattle.alpha_outside.specs.declared.pattern.PatternTerm.{PatternTerm}
use Rattle.alpha_outside.specs.declared.pattern.PatternTerm.TheOpen.{PatternTerm-F}
use Rattle.alpha_outside.specs.declared.pattern.PatternTerm.TheOpen as layer
use Rattle.alpha_outside.specs.declared.pattern.PatternTerm.TheFolds.{fold-PatternTerm}
use Rattle.asp_meaning.specs.declared.value.Value.{Value}
use Rattle.asp_meaning.specs.declared.value.Value.TheOpen.{Value-F}
use Rattle.asp_meaning.specs.declared.value.Value.TheOpen as part
use Rattle.asp_meaning.specs.declared.value.Value.TheViews.{out-Value}
use Rattle.asp_meaning.specs.declared.value.Value.TheVariants as value
use Rattle.asp_meaning.specs.Terms.{functional}
use Rattle.term_pool.specs.Nodes.{value_at}
use Rattle.core_rules.specs.declared.rules.Core.{Core}
use Rattle.core_rules.specs.CoreForm.{arity_of}
use Rattle.core_meaning.specs.Atoms.{GroundAtom, User, Domain, Member, Total, Grid, Reach, Above, ground_atom}
use Rattle.search_rules.specs.Tests.{is_this}

-- ---- what a pattern covers

-- values for the holes
abbrev pub Holes : Type 0
Holes = ℕ → Value

-- the value of a term by those of its arguments: a hole has its own, and a known term is one of the terms so far
abbrev pub fill_step : List Node → Holes → PatternTerm-F Value → Value
fill_step nodes h (layer.Hole x) = h x
fill_step nodes h (layer.Known id) = value_at nodes id
fill_step nodes h (layer.Fun f args) = functional f args

-- the value that the term becomes
abbrev pub fill : List Node → Holes → PatternTerm → Value
fill nodes h = fold-PatternTerm Value (fill_step nodes h)

-- the atom has the pattern's predicate, and its arguments arise by values for the holes
pub record Arises (core : Core) (nodes : List Node) (p : Pattern) (a : GroundAtom) : Type 0 where
  pub holes : Holes
  pub arity : arity_of p.pred ≡ length p.args
  pub is : ground_atom core.aggregates p.pred (map (fill nodes holes) p.args) ≡ Some a

-- ---- the test for it: what the atom's arguments say of the holes has to give them back

-- a hole with a value that is said of it
abbrev pub Said : Type 0
Said = ℕ × Value

-- the arguments of a functional term; other values have none
abbrev pub arguments_in : Value-F Value → List Value
arguments_in (part.Fun f first rest) = first ∷ rest
arguments_in _ = []

abbrev pub arguments_of : Value → List Value
arguments_of v = arguments_in (out-Value v)

-- what is said of the holes of several terms by these values, one by one
abbrev pub said_by_each : List (Value → List Said) → List Value → List Said
said_by_each [] vs = []
said_by_each (t ∷ ts) [] = []
said_by_each (t ∷ ts) (v ∷ vs) = t v ++ said_by_each ts vs

-- what a term says that becomes this value, by what its arguments say
abbrev pub said_step : PatternTerm-F (Value → List Said) → Value → List Said
said_step (layer.Hole x) v = (x, v) ∷ []
said_step (layer.Known id) v = []
said_step (layer.Fun f args) v = said_by_each args (arguments_of v)

-- what is said of the holes of the term, where it is to become this value
abbrev pub said : PatternTerm → Value → List Said
said = fold-PatternTerm (Value → List Said) said_step

-- the value that is said of a hole first; one of which nothing is said may have any
abbrev pub first_said : List Said → Holes
first_said [] x = value.Int (pos 0)
first_said (s ∷ more) x = cond (nat_eq s.0 x) s.1 (first_said more x)

-- the arguments of a core atom; sums stand in no rule
abbrev pub arguments : GroundAtom → List Value
arguments (User a) = a.args
arguments (Domain agg key) = key
arguments (Member agg key tuple) = key ++ tuple
arguments (Total agg key total) = key ++ total ∷ []
arguments _ = []

-- the values that the atom's arguments say of the holes of these terms
abbrev pub found_holes : List PatternTerm → List Value → Holes
found_holes terms values = first_said (said_by_each (map said terms) values)

-- whether the atom fits the pattern
abbrev pub fits : Core → List Node → Pattern → GroundAtom → Bool
fits core nodes p a =
    nat_eq (arity_of p.pred) (length p.args) && is_this a (ground_atom core.aggregates p.pred (map (fill nodes (found_holes p.args (arguments a))) p.args))
