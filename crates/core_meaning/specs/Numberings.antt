-- Members of aggregates, their weights, and numberings of them.
use Rattle.std.specs.Prelude.{◌≡◌, ◌++◌, ◌+◌, ◌≤◌, ℕ, suc, ℤ, pos, negsuc, Bool, true, false, List, [], ◌∷◌, length, Option, Some, None, slice_get}
use Rattle.lists.specs.Lists.{◌∈◌, HasNoRepeats}
use Rattle.asp_syntax.specs.declared.tree.AggKind.{AggKind}
use Rattle.asp_syntax.specs.declared.tree.AggKind.TheVariants as kind
use Rattle.alpha_outside.specs.declared.pred.Pred.TheVariants as pred
use Rattle.core_rules.specs.declared.rules.CoreAtom.{CoreAtom}
use Rattle.core_rules.specs.declared.rules.CoreRule.{CoreRule}
use Rattle.core_rules.specs.declared.rules.CoreAggregate.{CoreAggregate}
use Rattle.core_rules.specs.declared.rules.Core.{Core}
use Rattle.asp_meaning.specs.declared.value.Value.{Value}
use Rattle.asp_meaning.specs.Bodies.{weight}
use Rattle.core_meaning.specs.Atoms.{GroundAtom, Member}

-- how far the number lies from 0 on this side
abbrev pub distance : Bool → ℤ → ℕ
distance true (pos n) = n
distance true (negsuc n) = 0
distance false (pos n) = 0
distance false (negsuc n) = suc n

-- the weight of a tuple: 1 where tuples are counted, and its first member, where it is an integer, where these are added
abbrev pub weight_in : AggKind → List Value → ℤ
weight_in kind.Count tuple = pos 1
weight_in kind.Sum tuple = weight tuple

abbrev pub adds_in : Option CoreAggregate → Bool → List Value → ℕ
adds_in None side tuple = 0
adds_in (Some g) side tuple = distance side (weight_in g.kind tuple)

-- what a tuple adds to this side of the aggregate: the distance of its weight from 0, where that lies on this side
abbrev pub adds : List CoreAggregate → ℕ → Bool → List Value → ℕ
adds aggs agg side tuple = adds_in (slice_get aggs agg) side tuple

-- for each aggregate, side and key its numbered members by their tuples, in the order of their numbers from 1
abbrev pub Numbering : Type 0
Numbering = ℕ → Bool → List Value → List (List Value)

-- no member has a number
abbrev pub no_numbers : Numbering
no_numbers agg side key = []

abbrev pub head_atoms : Option CoreAtom → List CoreAtom
head_atoms None = []
head_atoms (Some a) = a ∷ []

-- the atoms of a rule
abbrev pub rule_atoms : CoreRule → List CoreAtom
rule_atoms r = head_atoms r.head ++ (r.pos ++ r.neg)

-- the tuple has as many values as a member predicate of the aggregate in the core says, and the key as many as the aggregate's key
pub record IsMember (core : Core) (agg : ℕ) (key tuple : List Value) : Type 0 where
  pub rule : CoreRule
  pub among : rule ∈ core.rules
  pub atom : CoreAtom
  pub stands : atom ∈ rule_atoms rule
  pub predicate : atom.pred ≡ pred.Member agg (length key + length tuple)
  pub aggregate : CoreAggregate
  pub numbered : slice_get core.aggregates agg ≡ Some aggregate
  pub of_key : length key ≡ aggregate.key

-- A numbering gives numbers to finitely many members: from 1 on, no number to two and no two to one, and only to those whose weight isn't 0
-- and lies on the side
pub record IsNumbering (core : Core) (n : Numbering) : Type 0 where
  pub once : (agg : ℕ) (side : Bool) (key : List Value) → HasNoRepeats (n agg side key)
  pub weighs : (agg : ℕ) (side : Bool) (key tuple : List Value) → tuple ∈ n agg side key → 1 ≤ adds core.aggregates agg side tuple
  pub members : (agg : ℕ) (side : Bool) (key tuple : List Value) → tuple ∈ n agg side key → IsMember core agg key tuple
  pub all : List GroundAtom
  pub finite : (agg : ℕ) (side : Bool) (key tuple : List Value) → tuple ∈ n agg side key → Member agg key tuple ∈ all

-- the second keeps all numbers of the first, and gives new ones to members of the set alone
abbrev pub ExtendsFor : (GroundAtom → Bool) → Numbering → Numbering → Type 0
ExtendsFor c n n' =
    (agg : ℕ) (side : Bool) (key : List Value)
    → (more : List (List Value)) × (n' agg side key ≡ n agg side key ++ more) × ((tuple : List Value) → tuple ∈ more → c (Member agg key tuple) ≡ true)

-- whether each member in the set that weighs anything has its number
abbrev pub NumbersAll : List CoreAggregate → Numbering → (GroundAtom → Bool) → Type 0
NumbersAll aggs n c =
    (agg : ℕ) (side : Bool) (key tuple : List Value) → c (Member agg key tuple) ≡ true → 1 ≤ adds aggs agg side tuple → tuple ∈ n agg side key
