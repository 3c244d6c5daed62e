-- What the nodes of a pool mean: the list of them, the oldest first, becomes a list of values.
use Rattle.std.specs.Prelude.{◌≡◌, ℕ, pos, ◌+◌, ◌<◌, ◌≤◌, List, [], ◌∷◌, ◌++◌, All, Some, fold, length, map, slice_get, slice_index_or, sum}
use Rattle.alpha_outside.specs.declared.node.Node.{Node}
use Rattle.alpha_outside.specs.declared.node.Node.TheVariants as node
use Rattle.asp_meaning.specs.declared.value.Value.{Value}
use Rattle.asp_meaning.specs.declared.value.Value.TheOpen.{Value-F}
use Rattle.asp_meaning.specs.declared.value.Value.TheOpen as layer
use Rattle.asp_meaning.specs.declared.value.Value.TheVariants as value
use Rattle.asp_meaning.specs.declared.value.Value.TheFolds.{fold-Value}
use Rattle.asp_meaning.specs.Terms.{functional}
use Rattle.asp_meaning.specs.Lines.{value_text}
use Rattle.term_pool.specs.Interning.{NoneTwice}

-- the most symbols that a term may have
abbrev pub most_symbols : ℕ
most_symbols = 1048576

-- the value at a place; a place past the end counts as 0, and no contract looks there
abbrev pub part : List Value → ℕ → Value
part vs i = slice_index_or vs i (value.Int (pos 0))

-- the value of a node whose parts stand among these values
abbrev pub value_from : List Value → Node → Value
value_from vs (node.Int x) = value.Int x
value_from vs (node.Symbol x) = value.Symbol x
value_from vs (node.Text x) = value.Text x
value_from vs (node.Fun f args) = functional f (map (part vs) args)

-- the values, and then the node's
abbrev pub with_value : List Value → Node → List Value
with_value vs n = vs ++ value_from vs n ∷ []

-- the values of the nodes, in their order
abbrev pub values : List Node → List Value
values ns = fold with_value [] ns

-- the value of the node at a place
abbrev pub value_at : List Node → ℕ → Value
value_at ns i = part (values ns) i

-- one symbol more than the parts have together
abbrev pub size_step : Value-F ℕ → ℕ
size_step (layer.Int x) = 1
size_step (layer.Symbol x) = 1
size_step (layer.Text x) = 1
size_step (layer.Fun f first rest) = 1 + sum (first ∷ rest)

-- the number of symbols of a value, counted as a tree
abbrev pub value_size : Value → ℕ
value_size = fold-Value ℕ size_step

-- the number of bytes of a value's text
abbrev pub text_len_of : Value → ℕ
text_len_of v = length (value_text v)

-- each part of the node stands before this place
abbrev pub PartsBelow : ℕ → Node → Type 0
PartsBelow n (node.Int x) = Unit {0}
PartsBelow n (node.Symbol x) = Unit {0}
PartsBelow n (node.Text x) = Unit {0}
PartsBelow n (node.Fun f args) = All (λ a. a < n) args

-- a functional term has at least one argument
abbrev pub HasArguments : Node → Type 0
HasArguments (node.Int x) = Unit {0}
HasArguments (node.Symbol x) = Unit {0}
HasArguments (node.Text x) = Unit {0}
HasArguments (node.Fun f args) = 0 < length args

-- the nodes of a pool: the parts of each stand before it, a functional term has arguments, and none stands twice
pub record IsPool (ns : List Node) : Type 0 where
  pub parts : (i : ℕ) (n : Node) → slice_get ns i ≡ Some n → PartsBelow i n
  pub arguments : (i : ℕ) (n : Node) → slice_get ns i ≡ Some n → HasArguments n
  pub once : NoneTwice ns

-- each term of the old pool has its old value
abbrev pub KeepsValues : List Node → List Node → Type 0
KeepsValues old new = (length old ≤ length new) × ((i : ℕ) → i < length old → value_at new i ≡ value_at old i)
