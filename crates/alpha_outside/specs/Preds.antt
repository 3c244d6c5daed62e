-- When two predicates are the same, and what a hash reads of one.
use Rattle.std.specs.Prelude.{ℕ, Bool, false, ◌&&◌, nat_eq, List, ◌++◌}
use mathlib.Core.Bool.{beq as bool_eq}
use Rattle.std.specs.Cmp.Lexicographic.{pointwise}
use Rattle.std.specs.Hash as fed
use Rattle.alpha_outside.specs.declared.pred.Pred.{Pred}
use Rattle.alpha_outside.specs.declared.pred.Pred.TheVariants.{User, Domain, Member, Total, Grid, Reach, Above}

abbrev pub plain_eq : ℕ → ℕ → ℕ → ℕ → Bool
plain_eq agg arity g a = nat_eq agg g && nat_eq arity a

abbrev pub sided_eq : ℕ → Bool → ℕ → ℕ → Bool → ℕ → Bool
sided_eq agg plus arity g p a = nat_eq agg g && bool_eq plus p && nat_eq arity a

abbrev pub pred_eq : Pred → Pred → Bool
pred_eq (User negated name arity) (User n m a) = bool_eq negated n && nat_eq arity a && pointwise nat_eq name m
pred_eq (Domain agg arity) (Domain g a) = plain_eq agg arity g a
pred_eq (Member agg arity) (Member g a) = plain_eq agg arity g a
pred_eq (Total agg arity) (Total g a) = plain_eq agg arity g a
pred_eq (Grid agg plus arity) (Grid g p a) = sided_eq agg plus arity g p a
pred_eq (Reach agg plus arity) (Reach g p a) = sided_eq agg plus arity g p a
pred_eq (Above agg plus arity) (Above g p a) = sided_eq agg plus arity g p a
pred_eq _ _ = false

abbrev pub plain_writes : ℕ → ℕ → ℕ → List (List ℕ)
plain_writes kind agg arity = fed.u8 kind ++ (fed.u32 agg ++ fed.u32 arity)

abbrev pub sided_writes : ℕ → ℕ → Bool → ℕ → List (List ℕ)
sided_writes kind agg plus arity = fed.u8 kind ++ (fed.u32 agg ++ (fed.bool plus ++ fed.u32 arity))

abbrev pub pred_writes : Pred → List (List ℕ)
pred_writes (User negated name arity) = fed.u8 0 ++ (fed.bool negated ++ (fed.u32 arity ++ fed.slice fed.u8 name))
pred_writes (Domain agg arity) = plain_writes 1 agg arity
pred_writes (Member agg arity) = plain_writes 2 agg arity
pred_writes (Total agg arity) = plain_writes 3 agg arity
pred_writes (Grid agg plus arity) = sided_writes 4 agg plus arity
pred_writes (Reach agg plus arity) = sided_writes 5 agg plus arity
pred_writes (Above agg plus arity) = sided_writes 6 agg plus arity
