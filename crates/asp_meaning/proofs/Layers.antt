-- A value by its outermost layer, and its text.
use Rattle.std.proofs.Common.{◌≡◌, sym, ap, subst, ◌∙◌, ℕ, ℤ, List, [], ◌∷◌, ◌++◌, map, codes}
use Rattle.asp_meaning.specs.declared.value.Value.{Value}
use Rattle.asp_meaning.specs.declared.value.Value.TheVariants as value
use Rattle.asp_meaning.specs.declared.value.Value.TheOpen.{Value-F}
use Rattle.asp_meaning.specs.declared.value.Value.TheOpen as layer
use Rattle.asp_meaning.specs.declared.value.Value.TheViews.{out-Value, roll-Value, out-roll-Value, roll-out-Value}
use Rattle.asp_meaning.specs.declared.value.Value.TheFolds.{fold-roll-Value}
use Rattle.asp_meaning.specs.Terms.{functional}
use Rattle.asp_meaning.specs.Lines.{integer_text, value_text, value_text_step, call_text}

-- ---- the outermost layer

-- of an integer
pub out-Int : (n : ℤ) → out-Value (value.Int n) ≡ layer.Int n
out-Int n = ap out-Value (sym (value.rolls-Int n)) ∙ out-roll-Value (layer.Int n)

-- of a symbol
pub out-Symbol : (x : List ℕ) → out-Value (value.Symbol x) ≡ layer.Symbol x
out-Symbol x = ap out-Value (sym (value.rolls-Symbol x)) ∙ out-roll-Value (layer.Symbol x)

-- of a string
pub out-Text : (x : List ℕ) → out-Value (value.Text x) ≡ layer.Text x
out-Text x = ap out-Value (sym (value.rolls-Text x)) ∙ out-roll-Value (layer.Text x)

-- of a functional term
pub out-Fun : (f : List ℕ) (x : Value) (xs : List Value) → out-Value (value.Fun f x xs) ≡ layer.Fun f x xs
out-Fun f x xs = ap out-Value (sym (value.rolls-Fun f x xs)) ∙ out-roll-Value (layer.Fun f x xs)

-- what holds of each kind of value holds of each value
pub value_cases : (Q : Value → Type 0) → ((n : ℤ) → Q (value.Int n)) → ((x : List ℕ) → Q (value.Symbol x))
    → ((x : List ℕ) → Q (value.Text x))
    → ((f : List ℕ) (x : Value) (xs : List Value) → Q (value.Fun f x xs)) → (v : Value) → Q v
value_cases Q int symbol text fun v = subst Q (roll-out-Value v) (go (out-Value v))
  where
    go : (x : Value-F Value) → Q (roll-Value x)
    go (layer.Int n) = subst Q (sym (value.rolls-Int n)) (int n)
    go (layer.Symbol x) = subst Q (sym (value.rolls-Symbol x)) (symbol x)
    go (layer.Text x) = subst Q (sym (value.rolls-Text x)) (text x)
    go (layer.Fun f x xs) = subst Q (sym (value.rolls-Fun f x xs)) (fun f x xs)

-- ---- the text

-- of an integer
pub text-Int : (n : ℤ) → value_text (value.Int n) ≡ integer_text n
text-Int n = ap value_text (sym (value.rolls-Int n)) ∙ fold-roll-Value (List ℕ) value_text_step (layer.Int n)

-- of a symbol
pub text-Symbol : (x : List ℕ) → value_text (value.Symbol x) ≡ x
text-Symbol x = ap value_text (sym (value.rolls-Symbol x)) ∙ fold-roll-Value (List ℕ) value_text_step (layer.Symbol x)

-- of a string
pub text-Text : (x : List ℕ) → value_text (value.Text x) ≡ codes "\"" ++ (x ++ codes "\"")
text-Text x = ap value_text (sym (value.rolls-Text x)) ∙ fold-roll-Value (List ℕ) value_text_step (layer.Text x)

-- of a functional term, and of a symbol as one without arguments
pub text-functional : (f : List ℕ) (args : List Value) → value_text (functional f args) ≡ call_text f (map value_text args)
text-functional f [] = text-Symbol f
text-functional f (x ∷ xs) = ap value_text (sym (value.rolls-Fun f x xs)) ∙ fold-roll-Value (List ℕ) value_text_step (layer.Fun f x xs)
