-- Core atoms without variables.
use Rattle.std.specs.Prelude.{ℕ, Bool, List, [], ◌∷◌, Option, Some, None, slice_get, take, drop}
use Rattle.alpha_outside.specs.declared.pred.Pred.{Pred}
use Rattle.alpha_outside.specs.declared.pred.Pred.TheVariants as pred
use Rattle.core_rules.specs.declared.rules.CoreAtom.{CoreAtom}
use Rattle.core_rules.specs.declared.rules.CoreAggregate.{CoreAggregate}
use Rattle.asp_meaning.specs.declared.value.Value.{Value}
use Rattle.asp_meaning.specs.Atoms.{Atom}
use Rattle.core_meaning.specs.Terms.{Binding, eval_all}

-- An atom of the program, or one of an aggregate. The latter have the aggregate's number and the values of its key. A side is true for
-- the members whose weights are positive and false for those whose weights are negative; a sum of a side is its distance from 0
pub data GroundAtom : Type 0 where
  User : Atom → GroundAtom
  -- the aggregate applies to this key
  Domain : ℕ → List Value → GroundAtom
  -- the tuple is one of those that are counted
  Member : ℕ → List Value → List Value → GroundAtom
  -- the total is this value
  Total : ℕ → List Value → Value → GroundAtom
  -- of the members of the side that are numbered up to this number, those in the set have this sum
  Grid : ℕ → Bool → List Value → ℕ → ℕ → GroundAtom
  -- the sum is that of the members in the set that are numbered up to some number
  Reach : ℕ → Bool → List Value → ℕ → GroundAtom
  -- the sum is reached, and one farther from 0 too
  Above : ℕ → Bool → List Value → ℕ → GroundAtom

-- a member by the values of the key and those of the tuple
abbrev pub member_of : ℕ → List Value → Option CoreAggregate → Option GroundAtom
member_of agg args None = None
member_of agg args (Some g) = Some (Member agg (take g.key args) (drop g.key args))

abbrev pub total_with : ℕ → List Value → List Value → Option GroundAtom
total_with agg key (x ∷ []) = Some (Total agg key x)
total_with agg key _ = None

-- a total by the values of the key and then the total
abbrev pub total_of : ℕ → List Value → Option CoreAggregate → Option GroundAtom
total_of agg args None = None
total_of agg args (Some g) = total_with agg (take g.key args) (drop g.key args)

-- the atom of this predicate and these arguments; sums stand in no rule
abbrev pub ground_atom : List CoreAggregate → Pred → List Value → Option GroundAtom
ground_atom aggs (pred.User negated name arity) args = Some (User (record { negated = negated; name = name; args = args }))
ground_atom aggs (pred.Domain agg arity) args = Some (Domain agg args)
ground_atom aggs (pred.Member agg arity) args = member_of agg args (slice_get aggs agg)
ground_atom aggs (pred.Total agg arity) args = total_of agg args (slice_get aggs agg)
ground_atom aggs _ args = None

abbrev pub with_arguments : List CoreAggregate → Pred → Option (List Value) → Option GroundAtom
with_arguments aggs p None = None
with_arguments aggs p (Some args) = ground_atom aggs p args

-- the atom that one with variables becomes, where its terms have values
abbrev pub atom_under : List CoreAggregate → Binding → CoreAtom → Option GroundAtom
atom_under aggs b a = with_arguments aggs a.pred (eval_all b a.args)
