-- The table of a pool: each node with the measures of its term.
use Rattle.std.specs.Prelude.{◌≡◌, ℕ, ◌+◌, ◌^◌, ◌<◌, ◌≤◌, List, [], ◌∷◌, All, length, map, sum_by, slice_index_or}
use Rattle.std.specs.Map.{keys_of, values_of}
use Rattle.alpha_outside.specs.declared.node.Node.{Node}
use Rattle.alpha_outside.specs.declared.node.Node.TheVariants as node
use Rattle.asp_meaning.specs.Lines.{integer_text}
use Rattle.term_pool.specs.declared.measure.Measure.{Measure}
use Rattle.term_pool.specs.Nodes.{most_symbols, values, value_size, text_len_of, IsPool}

-- the nodes in their order, each with its measures
abbrev pub Entries : Type 0
Entries = List (Node × Measure)

-- the measures of an empty place
abbrev pub nothing : Measure
nothing = record { size = 0; text_len = 0 }

-- the measures at a place
abbrev pub measure_at : Entries → ℕ → Measure
measure_at es i = slice_index_or (values_of es) i nothing

-- the size at a place
abbrev pub size_at : Entries → ℕ → ℕ
size_at es i = (measure_at es i).size

-- the text's length at a place
abbrev pub text_len_at : Entries → ℕ → ℕ
text_len_at es i = (measure_at es i).text_len

-- a node's symbols, from those of its parts
abbrev pub node_size : (ℕ → ℕ) → Node → ℕ
node_size of (node.Int x) = 1
node_size of (node.Symbol x) = 1
node_size of (node.Text x) = 1
node_size of (node.Fun f args) = 1 + sum_by of args

-- the parentheses and commas
abbrev pub marks : {A : Type 0} → List A → ℕ
marks [] = 0
marks (a ∷ args) = 2 + length args

-- the length of a node's text, from those of its parts
abbrev pub node_text_len : (ℕ → ℕ) → Node → ℕ
node_text_len of (node.Int x) = length (integer_text x)
node_text_len of (node.Symbol x) = length x
node_text_len of (node.Text x) = length x + 2
node_text_len of (node.Fun f args) = length f + (marks args + sum_by of args)

-- the nodes of a pool, each with the measures of its term, all within the limit and few enough for their ids
pub record IsTable (es : Entries) : Type 0 where
  pub pool : IsPool (keys_of es)
  pub sizes : map (λ m. m.size) (values_of es) ≡ map value_size (values (keys_of es))
  pub text_lens : map (λ m. m.text_len) (values_of es) ≡ map text_len_of (values (keys_of es))
  pub small : All (λ m. m.size ≤ most_symbols) (values_of es)
  pub few : length es < 2 ^ 32
