-- The order of values: integers by value, then symbols by bytes, then strings by bytes, then functional terms by the number of
-- their arguments, their name, and their arguments from the left.
-- (ASP-Core-2, "Built-in atoms", leaves symbols and strings in one order; here symbols come first.)
use Rattle.std.specs.Prelude.{ℕ, Bool, true, false, List, [], ◌∷◌, length}
use Rattle.std.specs.declared.cmp.Ordering.{Ordering}
use Rattle.std.specs.declared.cmp.Ordering.TheVariants.{Less, Equal, Greater}
use Rattle.std.specs.Ordering.{nat_cmp, int_cmp, ordering_then}
use Rattle.std.specs.Cmp.Lexicographic.{slice_cmp}
use Rattle.asp_syntax.specs.declared.tree.CompareOp.{CompareOp}
use Rattle.asp_syntax.specs.declared.tree.CompareOp.TheVariants as op
use Rattle.asp_meaning.specs.declared.value.Value.{Value}
use Rattle.asp_meaning.specs.declared.value.Value.TheOpen.{Value-F}
use Rattle.asp_meaning.specs.declared.value.Value.TheOpen as value
use Rattle.asp_meaning.specs.declared.value.Value.TheViews.{out-Value}
use Rattle.asp_meaning.specs.declared.value.Value.TheFolds.{fold-Value}

-- byte by byte, a front before what goes on from it
abbrev pub bytes_cmp : List ℕ → List ℕ → Ordering
bytes_cmp = slice_cmp nat_cmp

-- arguments from the left, each given by how it compares; for lists of one length
abbrev pub args_cmp : List (Value → Ordering) → List Value → Ordering
args_cmp [] _ = Equal
args_cmp (f ∷ fs) [] = Equal
args_cmp (f ∷ fs) (y ∷ ys) = ordering_then (f y) (args_cmp fs ys)

-- a value, whose arguments are given by how they compare, against another
abbrev pub layer_cmp : Value-F (Value → Ordering) → Value-F Value → Ordering
layer_cmp (value.Int x) (value.Int y) = int_cmp x y
layer_cmp (value.Int x) _ = Less
layer_cmp (value.Symbol x) (value.Int y) = Greater
layer_cmp (value.Symbol x) (value.Symbol y) = bytes_cmp x y
layer_cmp (value.Symbol x) _ = Less
layer_cmp (value.Text x) (value.Fun g y ys) = Less
layer_cmp (value.Text x) (value.Text y) = bytes_cmp x y
layer_cmp (value.Text x) _ = Greater
layer_cmp (value.Fun f x xs) (value.Fun g y ys) =
    ordering_then (nat_cmp (length (x ∷ xs)) (length (y ∷ ys))) (ordering_then (bytes_cmp f g) (args_cmp (x ∷ xs) (y ∷ ys)))
layer_cmp (value.Fun f x xs) _ = Greater

-- the order of values
abbrev pub value_cmp : Value → Value → Ordering
value_cmp = fold-Value (Value → Ordering) (λ x y. layer_cmp x (out-Value y))

abbrev pub values_cmp : List Value → List Value → Ordering
values_cmp = slice_cmp value_cmp

-- whether a comparison is true of two values that stand so to one another
abbrev pub passes : CompareOp → Ordering → Bool
passes op.Equal Equal = true
passes op.NotEqual Less = true
passes op.NotEqual Greater = true
passes op.Less Less = true
passes op.LessEqual Less = true
passes op.LessEqual Equal = true
passes op.Greater Greater = true
passes op.GreaterEqual Greater = true
passes op.GreaterEqual Equal = true
passes _ _ = false
