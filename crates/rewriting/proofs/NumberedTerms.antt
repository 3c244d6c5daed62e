-- What is computed of a term by one fold is computed of the term with numbers by another.
use Rattle.std.proofs.Common.{◌≡◌, inl, inr, refl, sym, ap, ◌∙◌, ℕ, Bool, true, false, List, [], ◌∷◌, ◌++◌, map}
use Rattle.std.proofs.lemmas.List.{map-append, map-id}
use Rattle.std.specs.List.{list_any}
use Rattle.lists.specs.Lists.{◌∈◌, concat}
use Rattle.asp_syntax.specs.declared.tree.Term.{Term, map-Term}
use Rattle.asp_syntax.specs.declared.tree.Term.TheOpen.{Term-F}
use Rattle.asp_syntax.specs.declared.tree.Term.TheOpen as layer
use Rattle.asp_syntax.specs.declared.tree.Term.TheViews.{roll-Term}
use Rattle.asp_syntax.specs.declared.tree.Term.TheFolds.{fold-Term, fold-roll-Term}
use Rattle.asp_syntax.specs.declared.tree.Term.TheVariants as tree
use Rattle.asp_syntax.specs.Trees.{Part, parts}
use Rattle.asp_syntax.specs.Trees as tree_parts
use Rattle.core_rules.specs.declared.rules.CoreTerm.{CoreTerm, map-CoreTerm}
use Rattle.core_rules.specs.declared.rules.CoreTerm.TheOpen.{CoreTerm-F}
use Rattle.core_rules.specs.declared.rules.CoreTerm.TheOpen as core_layer
use Rattle.core_rules.specs.declared.rules.CoreTerm.TheVariants as core_term
use Rattle.core_rules.specs.declared.rules.CoreTerm.TheViews.{roll-CoreTerm}
use Rattle.core_rules.specs.declared.rules.CoreTerm.TheFolds.{fold-CoreTerm, fold-roll-CoreTerm}
use Rattle.core_rules.specs.Variables as core
use Rattle.core_rules.specs.Names as core_names
use Rattle.asp_meaning.specs.Terms.{Variable, named, anonymous}
use Rattle.asp_meaning.specs.Variables.{variables, variables_step}
use Rattle.asp_safety.specs.Binding.{outside_arithmetic, outside_step, term_of}
use Rattle.rewriting.specs.Numbering.{place, number_step, numbered}
use Rattle.rewriting.proofs.TermInduction.{children, by_children}

-- ---- one layer

-- a layer with numbers for its variables
abbrev pub number_layer : {X : Type 0} → List Variable → Term-F X → CoreTerm-F X
number_layer table (layer.Int n) = core_layer.Int n
number_layer table (layer.Variable x) = core_layer.Var (place table (named x))
number_layer table (layer.Anonymous k) = core_layer.Var (place table (anonymous k))
number_layer table (layer.Symbol x) = core_layer.Symbol x
number_layer table (layer.Text x) = core_layer.Text x
number_layer table (layer.Fun f args) = core_layer.Fun f args
number_layer table (layer.Minus t) = core_layer.Minus t
number_layer table (layer.Arith op l r) = core_layer.Arith op l r

-- the step of numbering rolls the layer with numbers
number_step_rolls : (table : List Variable) (y : Term-F CoreTerm) → number_step table y ≡ roll-CoreTerm (number_layer table y)
number_step_rolls table (layer.Int n) = sym (core_term.rolls-Int n)
number_step_rolls table (layer.Variable x) = sym (core_term.rolls-Var (place table (named x)))
number_step_rolls table (layer.Anonymous k) = sym (core_term.rolls-Var (place table (anonymous k)))
number_step_rolls table (layer.Symbol x) = sym (core_term.rolls-Symbol x)
number_step_rolls table (layer.Text x) = sym (core_term.rolls-Text x)
number_step_rolls table (layer.Fun f args) = sym (core_term.rolls-Fun f args)
number_step_rolls table (layer.Minus t) = sym (core_term.rolls-Minus t)
number_step_rolls table (layer.Arith op l r) = sym (core_term.rolls-Arith op l r)

-- the term of a layer with numbers is the layer of terms with numbers
pub numbered_roll : (table : List Variable) (y : Term-F Term) → numbered table (roll-Term y) ≡ roll-CoreTerm (number_layer table (map-Term Term CoreTerm (numbered table) y))
numbered_roll table y = fold-roll-Term CoreTerm (number_step table) y ∙ number_step_rolls table (map-Term Term CoreTerm (numbered table) y)

-- a variable with a number is the variable of that number
pub numbered_variable : (table : List Variable) (v : Variable) → numbered table (term_of v) ≡ core_term.Var (place table v)
numbered_variable table (named x) = ap (numbered table) (sym (tree.rolls-Variable x)) ∙ fold-roll-Term CoreTerm (number_step table) (layer.Variable x)
numbered_variable table (anonymous k) = ap (numbered table) (sym (tree.rolls-Anonymous k)) ∙ fold-roll-Term CoreTerm (number_step table) (layer.Anonymous k)

-- ---- folds

module _ (A B : Type 0) (core_step : CoreTerm-F A → A) (step : Term-F B → B) (h : B → A) (table : List Variable)
    (fits : (y : Term-F B) → core_step (number_layer table (map-Term B A h y)) ≡ h (step y)) where
  -- the fold of terms with numbers
  abbrev over_core : CoreTerm → A
  over_core = fold-CoreTerm A core_step

  -- the fold of terms
  abbrev over_tree : Term → B
  over_tree = fold-Term B step

  -- the first of the term with numbers comes from the second of the term
  abbrev Fused : Term → Type 0
  Fused t = over_core (numbered table t) ≡ h (over_tree t)

  -- a list of terms that are fused
  list_fused : (ts : List Term) → ((u : Term) → u ∈ ts → Fused u) → map over_core (map (numbered table) ts) ≡ map h (map over_tree ts)
  list_fused [] k = refl
  list_fused (t ∷ ts) k = let first = k t (inl refl) in let rest = list_fused ts (λ u j. k u (inr j)) in λ i. first i ∷ rest i

  -- one layer of terms that are fused
  layer_fused : (y : Term-F Term) → ((u : Term) → u ∈ children y → Fused u)
      → core_step (map-CoreTerm CoreTerm A over_core (number_layer table (map-Term Term CoreTerm (numbered table) y))) ≡ core_step (number_layer table (map-Term B A h (map-Term Term B over_tree y)))
  layer_fused (layer.Int n) k = refl
  layer_fused (layer.Variable x) k = refl
  layer_fused (layer.Anonymous j) k = refl
  layer_fused (layer.Symbol x) k = refl
  layer_fused (layer.Text x) k = refl
  layer_fused (layer.Fun f args) k = ap (λ xs. core_step (core_layer.Fun f xs)) (list_fused args k)
  layer_fused (layer.Minus t) k = ap (λ x. core_step (core_layer.Minus x)) (k t (inl refl))
  layer_fused (layer.Arith op l r) k = let a = k l (inl refl) in let b = k r (inr (inl refl)) in λ i. core_step (core_layer.Arith op (a i) (b i))

  -- the fold of a term with numbers comes from that of the term
  pub fused : (t : Term) → over_core (numbered table t) ≡ h (over_tree t)
  fused = by_children Fused (λ y k.
      ap over_core (numbered_roll table y)
      ∙ fold-roll-CoreTerm A core_step (number_layer table (map-Term Term CoreTerm (numbered table) y))
      ∙ layer_fused y k
      ∙ fits (map-Term Term B over_tree y)
      ∙ ap h (sym (fold-roll-Term B step y)))

-- ---- variables

-- lists one after another, member by member
map-concat : {A B : Type 0} (f : A → B) (xss : List (List A)) → concat (map (map f) xss) ≡ map f (concat xss)
map-concat f [] = refl
map-concat f (xs ∷ xss) = ap (λ zs. map f xs ++ zs) (map-concat f xss) ∙ sym (map-append f xs (concat xss))

-- the steps that give the variables fit
variables_fit : (table : List Variable) (y : Term-F (List Variable)) → core.variables_step (number_layer table (map-Term (List Variable) (List ℕ) (map (place table)) y)) ≡ map (place table) (variables_step y)
variables_fit table (layer.Int n) = refl
variables_fit table (layer.Variable x) = refl
variables_fit table (layer.Anonymous k) = refl
variables_fit table (layer.Symbol x) = refl
variables_fit table (layer.Text x) = refl
variables_fit table (layer.Fun f args) = map-concat (place table) args
variables_fit table (layer.Minus t) = refl
variables_fit table (layer.Arith op l r) = sym (map-append (place table) l r)

-- the variables of a term with numbers are the numbers of its variables
pub numbered_variables : (table : List Variable) (t : Term) → core.variables (numbered table t) ≡ map (place table) (variables t)
numbered_variables table = fused (List ℕ) (List Variable) core.variables_step variables_step (map (place table)) table (variables_fit table)

-- so do those that give the ones outside arithmetic
outside_fits : (table : List Variable) (y : Term-F (List Variable)) → core.outside_step (number_layer table (map-Term (List Variable) (List ℕ) (map (place table)) y)) ≡ map (place table) (outside_step y)
outside_fits table (layer.Int n) = refl
outside_fits table (layer.Variable x) = refl
outside_fits table (layer.Anonymous k) = refl
outside_fits table (layer.Symbol x) = refl
outside_fits table (layer.Text x) = refl
outside_fits table (layer.Fun f args) = map-concat (place table) args
outside_fits table (layer.Minus t) = refl
outside_fits table (layer.Arith op l r) = refl

-- so are those outside arithmetic
pub numbered_outside : (table : List Variable) (t : Term) → core.outside_arithmetic (numbered table t) ≡ map (place table) (outside_arithmetic t)
numbered_outside table = fused (List ℕ) (List Variable) core.outside_step outside_step (map (place table)) table (outside_fits table)

-- ---- arithmetic

-- whether arithmetic stands in a layer, from the terms in it
abbrev pub arithmetic_step : Term-F Bool → Bool
arithmetic_step (layer.Int n) = false
arithmetic_step (layer.Variable x) = false
arithmetic_step (layer.Anonymous k) = false
arithmetic_step (layer.Symbol x) = false
arithmetic_step (layer.Text x) = false
arithmetic_step (layer.Fun f args) = list_any (λ there. there) args
arithmetic_step (layer.Minus t) = true
arithmetic_step (layer.Arith op l r) = true

-- whether arithmetic stands in a term
abbrev pub has_arithmetic : Term → Bool
has_arithmetic = fold-Term Bool arithmetic_step

-- the steps that look for arithmetic fit
arithmetic_fits : (table : List Variable) (y : Term-F Bool) → core.arithmetic_step (number_layer table (map-Term Bool Bool (λ x. x) y)) ≡ arithmetic_step y
arithmetic_fits table (layer.Int n) = refl
arithmetic_fits table (layer.Variable x) = refl
arithmetic_fits table (layer.Anonymous k) = refl
arithmetic_fits table (layer.Symbol x) = refl
arithmetic_fits table (layer.Text x) = refl
arithmetic_fits table (layer.Fun f args) = ap (λ xs. list_any (λ there. there) xs) (map-id args)
arithmetic_fits table (layer.Minus t) = refl
arithmetic_fits table (layer.Arith op l r) = refl

-- numbers make no arithmetic
pub numbered_arithmetic : (table : List Variable) (t : Term) → core.has_arithmetic (numbered table t) ≡ has_arithmetic t
numbered_arithmetic table = fused Bool Bool core.arithmetic_step arithmetic_step (λ x. x) table (arithmetic_fits table)

-- ---- names and texts

-- the steps that give names and texts fit
parts_fit : (table : List Variable) (y : Term-F (List Part)) → core_names.parts_step (number_layer table (map-Term (List Part) (List Part) (λ x. x) y)) ≡ tree_parts.parts_step y
parts_fit table (layer.Int n) = refl
parts_fit table (layer.Variable x) = refl
parts_fit table (layer.Anonymous k) = refl
parts_fit table (layer.Symbol x) = refl
parts_fit table (layer.Text x) = refl
parts_fit table (layer.Fun f args) = ap (tree_parts.call_parts f) (map-id args)
parts_fit table (layer.Minus t) = refl
parts_fit table (layer.Arith op l r) = refl

-- a term with numbers has the parts of the term
pub numbered_parts : (table : List Variable) (t : Term) → core_names.parts (numbered table t) ≡ parts t
numbered_parts table = fused (List Part) (List Part) core_names.parts_step tree_parts.parts_step (λ x. x) table (parts_fit table)
