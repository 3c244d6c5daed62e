-- Steps of aggregates.
use Rattle.std.specs.Prelude.{ℕ, List}
use Rattle.alpha_outside.specs.declared.maker.Step.{Step}
use Rattle.alpha_outside.specs.declared.maker.Step.TheVariants.{Zero, Skip, Add, Reach, Above, Total}

-- the values of the aggregate's global variables
abbrev pub step_key : Step → List ℕ
step_key (Zero agg plus key) = key
step_key (Skip agg plus k sum key) = key
step_key (Add agg plus k sum key) = key
step_key (Reach agg plus k sum key) = key
step_key (Above agg plus low high key) = key
step_key (Total agg up down key) = key
