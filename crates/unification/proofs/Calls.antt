-- Values that are functional terms.
use Rattle.std.proofs.Common.{◌≡◌, ℕ, ◌<◌, List, [], ◌∷◌, length, map, sym, ap, ◌∙◌, arith}
use Rattle.alpha_outside.specs.declared.node.Node.{Node}
use Rattle.alpha_outside.specs.declared.node.Node.TheVariants as node
use Rattle.asp_meaning.specs.declared.value.Value.{Value}
use Rattle.asp_meaning.specs.declared.value.Value.TheOpen as layer
use Rattle.asp_meaning.specs.declared.value.Value.TheViews.{out-Value}
use Rattle.asp_meaning.specs.Terms.{functional}
use Rattle.asp_meaning.proofs.Layers.{out-Int, out-Symbol, out-Text, out-Fun}
use Rattle.term_pool.specs.Nodes.{part, value_from}

-- equal functional terms have equal names and arguments
pub same_call : (f g : List ℕ) (xs ys : List Value) → 0 < length xs → 0 < length ys → functional f xs ≡ functional g ys → (f ≡ g) × (xs ≡ ys)
same_call f g [] ys some more e = absurd (omega (arith, some))
same_call f g (x ∷ xs) [] some more e = absurd (omega (arith, more))
same_call f g (x ∷ xs) (y ∷ ys) some more e =
    let l : layer.Fun f x xs ≡ layer.Fun g y ys = sym (out-Fun f x xs) ∙ ap out-Value e ∙ out-Fun g y ys in (cc, cc)

module _ (vs : List Value) (f : List ℕ) (w : Value) (ws : List Value) where
  node_of : (n : Node) → functional f (w ∷ ws) ≡ value_from vs n → (parts : List ℕ) × (n ≡ node.Fun f parts) × (map (part vs) parts ≡ w ∷ ws)
  node_of (node.Int z) e = let l : layer.Fun f w ws ≡ layer.Int z = sym (out-Fun f w ws) ∙ ap out-Value e ∙ out-Int z in absurd (cc)
  node_of (node.Symbol x) e = let l : layer.Fun f w ws ≡ layer.Symbol x = sym (out-Fun f w ws) ∙ ap out-Value e ∙ out-Symbol x in absurd (cc)
  node_of (node.Text x) e = let l : layer.Fun f w ws ≡ layer.Text x = sym (out-Fun f w ws) ∙ ap out-Value e ∙ out-Text x in absurd (cc)
  node_of (node.Fun g []) e = let l : layer.Fun f w ws ≡ layer.Symbol g = sym (out-Fun f w ws) ∙ ap out-Value e ∙ out-Symbol g in absurd (cc)
  node_of (node.Fun g (p ∷ ps)) e =
      let l : layer.Fun f w ws ≡ layer.Fun g (part vs p) (map (part vs) ps) = sym (out-Fun f w ws) ∙ ap out-Value e ∙ out-Fun g (part vs p) (map (part vs) ps) in
      (p ∷ ps, cc, cc)

-- only the node of a functional term has one as its value, and that has its name and the values of its parts
pub call_node : (vs : List Value) (n : Node) (f : List ℕ) (ws : List Value) → 0 < length ws → functional f ws ≡ value_from vs n
    → (parts : List ℕ) × (n ≡ node.Fun f parts) × (map (part vs) parts ≡ ws)
call_node vs n f [] some e = absurd (omega (arith, some))
call_node vs n f (w ∷ ws) some e = node_of vs f w ws n e
