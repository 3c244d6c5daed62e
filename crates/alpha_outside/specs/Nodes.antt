-- When two nodes are the same, and what a hash reads of one.
use Rattle.std.specs.Prelude.{ℕ, Bool, false, ◌&&◌, nat_eq, List, ◌++◌}
use Rattle.std.specs.Ordering.{int_eq}
use Rattle.std.specs.Cmp.Lexicographic.{pointwise}
use Rattle.std.specs.Hash as fed
use Rattle.alpha_outside.specs.declared.node.Node.{Node}
use Rattle.alpha_outside.specs.declared.node.Node.TheVariants.{Int, Symbol, Text, Fun}

-- the same symbol with the same parts
abbrev pub node_eq : Node → Node → Bool
node_eq (Int x) (Int y) = int_eq x y
node_eq (Symbol x) (Symbol y) = pointwise nat_eq x y
node_eq (Text x) (Text y) = pointwise nat_eq x y
node_eq (Fun f xs) (Fun g ys) = pointwise nat_eq f g && pointwise nat_eq xs ys
node_eq _ _ = false

-- the kind of the node, and then what it holds
abbrev pub node_writes : Node → List (List ℕ)
node_writes (Int x) = fed.u8 0 ++ fed.i64 x
node_writes (Symbol x) = fed.u8 1 ++ fed.slice fed.u8 x
node_writes (Text x) = fed.u8 2 ++ fed.slice fed.u8 x
node_writes (Fun f xs) = fed.u8 3 ++ (fed.slice fed.u8 f ++ fed.slice fed.u32 xs)
