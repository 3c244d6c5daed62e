-- How far the outermost symbols of two nodes decide their order.
use Rattle.std.specs.Prelude.{◌≡◌, ℕ, ◌<◌, List, Option, Some, None, take, slice_get}
use Rattle.std.specs.declared.cmp.Ordering.TheVariants.{Equal}
use Rattle.alpha_outside.specs.declared.node.Node.{Node}
use Rattle.asp_meaning.specs.declared.value.Value.{Value}
use Rattle.asp_meaning.specs.Orders.{value_cmp}
use Rattle.term_pool.specs.declared.order.NodeOrder.{NodeOrder}
use Rattle.term_pool.specs.declared.order.NodeOrder.TheVariants.{Known, Parts}
use Rattle.term_pool.specs.Nodes.{part, value_from, PartsBelow}

-- p and q stand at the first place at which the lists differ
pub record IsFirstApart (xs ys : List ℕ) (p q : ℕ) : Type 0 where
  pub place : ℕ
  pub before : take place xs ≡ take place ys
  pub left : slice_get xs place ≡ Some p
  pub right : slice_get ys place ≡ Some q
  pub apart : p ≡ q → ⊥

-- the parts at the first place at which the lists differ, or none where they are the same
abbrev pub FirstApart : List ℕ → List ℕ → Option (ℕ × ℕ) → Type 0
FirstApart xs ys None = xs ≡ ys
FirstApart xs ys (Some r) = IsFirstApart xs ys r.0 r.1

-- the terms compare as these parts do, which differ
pub record IsDownTo (x y : Node) (p q : ℕ) : Type 0 where
  pub left : (n : ℕ) → PartsBelow n x → p < n
  pub right : (n : ℕ) → PartsBelow n y → q < n
  pub apart : p ≡ q → ⊥
  pub same : (vs : List Value) → (value_cmp (part vs p) (part vs q) ≡ Equal → ⊥) → value_cmp (value_from vs x) (value_from vs y) ≡ value_cmp (part vs p) (part vs q)

-- how two nodes compare over whatever values, or the parts as which they compare
abbrev pub IsNodeOrder : Node → Node → NodeOrder → Type 0
IsNodeOrder x y (Known o) = (vs : List Value) → value_cmp (value_from vs x) (value_from vs y) ≡ o
IsNodeOrder x y (Parts p q) = IsDownTo x y p q
