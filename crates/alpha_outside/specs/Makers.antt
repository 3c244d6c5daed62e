-- When two steps of aggregates are the same, and two makers, and what a hash reads of one.
use Rattle.std.specs.Prelude.{ℕ, ℤ, Bool, false, ◌&&◌, nat_eq, List, ◌++◌}
use mathlib.Core.Bool.{beq as bool_eq}
use Rattle.std.specs.Ordering.{int_eq}
use Rattle.std.specs.Cmp.Lexicographic.{pointwise}
use Rattle.std.specs.Hash as fed
use Rattle.alpha_outside.specs.declared.maker.Step.{Step}
use Rattle.alpha_outside.specs.declared.maker.Step.TheVariants.{Zero, Skip, Add, Reach, Above, Total}
use Rattle.alpha_outside.specs.declared.maker.Maker.{Maker}
use Rattle.alpha_outside.specs.declared.maker.Maker.TheVariants as maker

-- the same side of the same aggregate, with the same key
abbrev pub side_eq : ℕ → Bool → List ℕ → ℕ → Bool → List ℕ → Bool
side_eq agg plus key a p xs = nat_eq agg a && bool_eq plus p && pointwise nat_eq key xs

-- the same number of a member, and the same sum
abbrev pub member_eq : ℕ → ℤ → ℕ → ℤ → Bool
member_eq k sum n s = nat_eq k n && int_eq sum s

-- the same two sums
abbrev pub sums_eq : ℤ → ℤ → ℤ → ℤ → Bool
sums_eq x y u v = int_eq x u && int_eq y v

-- the same kind of step with the same parts
abbrev pub step_eq : Step → Step → Bool
step_eq (Zero agg plus key) (Zero a p xs) = side_eq agg plus key a p xs
step_eq (Skip agg plus k sum key) (Skip a p n s xs) = member_eq k sum n s && side_eq agg plus key a p xs
step_eq (Add agg plus k sum key) (Add a p n s xs) = member_eq k sum n s && side_eq agg plus key a p xs
step_eq (Reach agg plus k sum key) (Reach a p n s xs) = member_eq k sum n s && side_eq agg plus key a p xs
step_eq (Above agg plus low high key) (Above a p l h xs) = sums_eq low high l h && side_eq agg plus key a p xs
step_eq (Total agg up down key) (Total a u d xs) = sums_eq up down u d && nat_eq agg a && pointwise nat_eq key xs
step_eq _ _ = false

-- the same rule with the same values, or the same step
abbrev pub maker_eq : Maker → Maker → Bool
maker_eq (maker.Rule rule binding) (maker.Rule r xs) = nat_eq rule r && pointwise nat_eq binding xs
maker_eq (maker.Step s) (maker.Step t) = step_eq s t
maker_eq _ _ = false

-- a kind, the aggregate and the key
abbrev pub key_writes : ℕ → ℕ → List ℕ → List (List ℕ)
key_writes kind agg key = fed.u8 kind ++ (fed.u32 agg ++ fed.slice fed.u32 key)

-- and the side
abbrev pub side_writes : ℕ → ℕ → Bool → List ℕ → List (List ℕ)
side_writes kind agg plus key = key_writes kind agg key ++ fed.bool plus

-- and the number of a member with its sum
abbrev pub member_writes : ℕ → ℕ → Bool → ℕ → ℤ → List ℕ → List (List ℕ)
member_writes kind agg plus k sum key = side_writes kind agg plus key ++ (fed.u32 k ++ fed.i64 sum)

-- the kind of the step, and then what it holds
abbrev pub step_writes : Step → List (List ℕ)
step_writes (Zero agg plus key) = side_writes 0 agg plus key
step_writes (Skip agg plus k sum key) = member_writes 1 agg plus k sum key
step_writes (Add agg plus k sum key) = member_writes 2 agg plus k sum key
step_writes (Reach agg plus k sum key) = member_writes 3 agg plus k sum key
step_writes (Above agg plus low high key) = side_writes 4 agg plus key ++ (fed.i64 low ++ fed.i64 high)
step_writes (Total agg up down key) = key_writes 5 agg key ++ (fed.i64 up ++ fed.i64 down)

-- the kind of the maker, and then what it holds
abbrev pub maker_writes : Maker → List (List ℕ)
maker_writes (maker.Rule rule binding) = fed.u8 0 ++ (fed.u32 rule ++ fed.slice fed.u32 binding)
maker_writes (maker.Step s) = fed.u8 1 ++ step_writes s
