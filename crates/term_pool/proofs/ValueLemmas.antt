-- The size of a value, by its outermost symbol.
use Rattle.std.proofs.Common.{◌≡◌, ℕ, ◌+◌, ℤ, List, [], ◌∷◌, map, sym, ap, ◌∙◌}
use Rattle.std.specs.Prelude.{sum}
use Rattle.asp_meaning.specs.declared.value.Value.{Value}
use Rattle.asp_meaning.specs.declared.value.Value.TheOpen as layer
use Rattle.asp_meaning.specs.declared.value.Value.TheVariants as value
use Rattle.asp_meaning.specs.declared.value.Value.TheFolds.{fold-roll-Value}
use Rattle.asp_meaning.specs.Terms.{functional}
use Rattle.term_pool.specs.Nodes.{value_size, size_step}

-- of an integer: one symbol
pub size-Int : (x : ℤ) → value_size (value.Int x) ≡ 1
size-Int x = ap value_size (sym (value.rolls-Int x)) ∙ fold-roll-Value ℕ size_step (layer.Int x)

-- of a symbol: one symbol
pub size-Symbol : (x : List ℕ) → value_size (value.Symbol x) ≡ 1
size-Symbol x = ap value_size (sym (value.rolls-Symbol x)) ∙ fold-roll-Value ℕ size_step (layer.Symbol x)

-- of a string: one symbol
pub size-Text : (x : List ℕ) → value_size (value.Text x) ≡ 1
size-Text x = ap value_size (sym (value.rolls-Text x)) ∙ fold-roll-Value ℕ size_step (layer.Text x)

-- of a functional term: one symbol more than its arguments have together
pub size-functional : (f : List ℕ) (args : List Value) → value_size (functional f args) ≡ 1 + sum (map value_size args)
size-functional f [] = size-Symbol f
size-functional f (x ∷ xs) = ap value_size (sym (value.rolls-Fun f x xs)) ∙ fold-roll-Value ℕ size_step (layer.Fun f x xs)
