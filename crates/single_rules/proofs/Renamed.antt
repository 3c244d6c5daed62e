-- What a term with other names for its variables is: its value, its variables and its parts.
use Rattle.std.proofs.Common.{◌≡◌, inl, inr, refl, sym, ap, subst, ◌∙◌, ℕ, pos, List, [], ◌∷◌, ◌++◌, map, Option, Some}
use Rattle.std.proofs.lemmas.List.{map-append}
use Rattle.alpha_outside.specs.declared.kinds.ArithOp.TheVariants.{Sub}
use Rattle.lists.specs.Lists.{◌∈◌, concat}
use Rattle.lists.proofs.ListLemmas.{∈-append_left, ∈-append_right, ∈-append_cases}
use Rattle.asp_syntax.specs.declared.tree.Term.{Term, map-Term}
use Rattle.asp_syntax.specs.declared.tree.Term.TheVariants as tree
use Rattle.asp_syntax.specs.declared.tree.Term.TheOpen.{Term-F}
use Rattle.asp_syntax.specs.declared.tree.Term.TheOpen as layer
use Rattle.asp_syntax.specs.declared.tree.Term.TheViews.{roll-Term}
use Rattle.asp_syntax.specs.declared.tree.Term.TheFolds.{fold-roll-Term, ind-Term}
use Rattle.asp_syntax.specs.Trees.{Part, text, parts, parts_step, call_parts}
use Rattle.asp_meaning.specs.declared.value.Value.{Value}
use Rattle.asp_meaning.specs.declared.value.Value.TheVariants as value
use Rattle.asp_meaning.specs.Terms.{Variable, named, anonymous, Substitution, all_of, functional_of, operation, eval, eval_step}
use Rattle.asp_meaning.specs.Variables.{variables, variables_step}
use Rattle.asp_safety.specs.Binding.{variables_of, outside_arithmetic, outside_step, outside_of, term_of}
use Rattle.single_rules.specs.Renaming.{rename_step, renamed}

-- ---- terms by their layers

-- a term with what is known of it
abbrev pub Proved : (Term → Type 0) → Type 0
Proved P = (t : Term) × P t

-- a layer without what is known of the terms in it
abbrev pub firsts : (P : Term → Type 0) → Term-F (Proved P) → Term-F Term
firsts P y = map-Term (Proved P) Term (λ (e : Proved P). e.0) y

-- terms without what is known of them
abbrev pub of_each : (P : Term → Type 0) → List (Proved P) → List Term
of_each P es = map (λ (e : Proved P). e.0) es

-- what holds of a term where it holds of those in it holds of every term
pub by_layers : (P : Term → Type 0) → ((y : Term-F (Proved P)) → P (roll-Term (firsts P y))) → (t : Term) → P t
by_layers P step = ind-Term P (λ x y is. subst (λ z. P (roll-Term z)) is (step y))

-- renaming a term is renaming its layer
renamed_roll : (r : Variable → Variable) (x : Term-F Term) → renamed r (roll-Term x) ≡ rename_step r (map-Term Term Term (renamed r) x)
renamed_roll r x = fold-roll-Term Term (rename_step r) x

-- its value is that of its layer
pub eval_roll : (s : Substitution) (x : Term-F Term) → eval s (roll-Term x) ≡ eval_step s (map-Term Term (Option Value) (eval s) x)
eval_roll s x = fold-roll-Term (Option Value) (eval_step s) x

-- so are its variables
pub variables_roll : (x : Term-F Term) → variables (roll-Term x) ≡ variables_step (map-Term Term (List Variable) variables x)
variables_roll x = fold-roll-Term (List Variable) variables_step x

-- those outside arithmetic
pub outside_roll : (x : Term-F Term) → outside_arithmetic (roll-Term x) ≡ outside_step (map-Term Term (List Variable) outside_arithmetic x)
outside_roll x = fold-roll-Term (List Variable) outside_step x

-- and its parts
parts_roll : (x : Term-F Term) → parts (roll-Term x) ≡ parts_step (map-Term Term (List Part) parts x)
parts_roll x = fold-roll-Term (List Part) parts_step x

-- ---- variables as terms

-- a variable has its value
pub eval_variable : (s : Substitution) (v : Variable) → eval s (term_of v) ≡ Some (s v)
eval_variable s (named x) = ap (eval s) (sym (tree.rolls-Variable x)) ∙ eval_roll s (layer.Variable x)
eval_variable s (anonymous k) = ap (eval s) (sym (tree.rolls-Anonymous k)) ∙ eval_roll s (layer.Anonymous k)

-- it is its own variable
pub variables_variable : (v : Variable) → variables (term_of v) ≡ v ∷ []
variables_variable (named x) = ap variables (sym (tree.rolls-Variable x)) ∙ variables_roll (layer.Variable x)
variables_variable (anonymous k) = ap variables (sym (tree.rolls-Anonymous k)) ∙ variables_roll (layer.Anonymous k)

-- a text has none
pub variables_text : (t : List ℕ) → variables (tree.Text t) ≡ []
variables_text t = ap variables (sym (tree.rolls-Text t)) ∙ variables_roll (layer.Text t)

-- a variable is outside arithmetic
pub outside_variable : (v : Variable) → outside_arithmetic (term_of v) ≡ v ∷ []
outside_variable (named x) = ap outside_arithmetic (sym (tree.rolls-Variable x)) ∙ outside_roll (layer.Variable x)
outside_variable (anonymous k) = ap outside_arithmetic (sym (tree.rolls-Anonymous k)) ∙ outside_roll (layer.Anonymous k)

-- nothing is asked of it
pub parts_variable : (v : Variable) → parts (term_of v) ≡ []
parts_variable (named x) = ap parts (sym (tree.rolls-Variable x)) ∙ parts_roll (layer.Variable x)
parts_variable (anonymous k) = ap parts (sym (tree.rolls-Anonymous k)) ∙ parts_roll (layer.Anonymous k)

-- a variable becomes the variable of its new name
pub renamed_variable : (r : Variable → Variable) (v : Variable) → renamed r (term_of v) ≡ term_of (r v)
renamed_variable r (named x) = ap (renamed r) (sym (tree.rolls-Variable x)) ∙ renamed_roll r (layer.Variable x)
renamed_variable r (anonymous k) = ap (renamed r) (sym (tree.rolls-Anonymous k)) ∙ renamed_roll r (layer.Anonymous k)

-- ---- values

module _ (r : Variable → Variable) (s : Substitution) where
  -- the values of the new names
  abbrev before : Substitution
  before v = s (r v)

  -- with new names the term has the value that it has where variables have the values of their new names
  abbrev SameValue : Term → Type 0
  SameValue t = eval s (renamed r t) ≡ eval before t

  -- so it is with arguments
  same_values : (es : List (Proved SameValue))
      → map (eval s) (map (renamed r) (of_each SameValue es)) ≡ map (eval before) (of_each SameValue es)
  same_values [] = refl
  same_values (e ∷ es) = let first = e.1 in let rest = same_values es in λ i. first i ∷ rest i

  -- so it is with a layer where it is so with the terms in it
  value_layer : (y : Term-F (Proved SameValue)) → eval s (rename_step r (map-Term Term Term (renamed r) (firsts SameValue y)))
      ≡ eval_step before (map-Term Term (Option Value) (eval before) (firsts SameValue y))
  value_layer (layer.Int n) = ap (eval s) (sym (tree.rolls-Int n)) ∙ eval_roll s (layer.Int n)
  value_layer (layer.Variable x) = eval_variable s (r (named x))
  value_layer (layer.Anonymous k) = eval_variable s (r (anonymous k))
  value_layer (layer.Symbol x) = ap (eval s) (sym (tree.rolls-Symbol x)) ∙ eval_roll s (layer.Symbol x)
  value_layer (layer.Text x) = ap (eval s) (sym (tree.rolls-Text x)) ∙ eval_roll s (layer.Text x)
  value_layer (layer.Fun f args) =
      let ts : List Term = map (renamed r) (of_each SameValue args) in
      ap (eval s) (sym (tree.rolls-Fun f ts)) ∙ eval_roll s (layer.Fun f ts) ∙ ap (λ xs. functional_of f (all_of xs)) (same_values args)
  value_layer (layer.Minus t) =
      ap (eval s) (sym (tree.rolls-Minus (renamed r t.0))) ∙ eval_roll s (layer.Minus (renamed r t.0))
      ∙ ap (λ x. operation Sub (Some (value.Int (pos 0))) x) t.1
  value_layer (layer.Arith op x y) =
      let first = x.1 in let second = y.1 in
      ap (eval s) (sym (tree.rolls-Arith op (renamed r x.0) (renamed r y.0))) ∙ eval_roll s (layer.Arith op (renamed r x.0) (renamed r y.0))
      ∙ (λ i. operation op (first i) (second i))

  -- the term with other names has the value that the term has where each variable has the value of its new name
  pub eval_renamed : (t : Term) → eval s (renamed r t) ≡ eval (λ v. s (r v)) t
  eval_renamed = by_layers SameValue (λ y.
      ap (eval s) (renamed_roll r (firsts SameValue y)) ∙ value_layer y ∙ sym (eval_roll before (firsts SameValue y)))

-- ---- variables

module _ (r : Variable → Variable) where
  -- with new names the term has the new names of its variables
  abbrev SameVariables : Term → Type 0
  SameVariables t = variables (renamed r t) ≡ map r (variables t)

  -- so it is with arguments
  same_variables : (es : List (Proved SameVariables))
      → concat (map variables (map (renamed r) (of_each SameVariables es))) ≡ map r (concat (map variables (of_each SameVariables es)))
  same_variables [] = refl
  same_variables (e ∷ es) =
      let first = e.1 in let rest = same_variables es in
      (λ i. first i ++ rest i) ∙ sym (map-append r (variables e.0) (concat (map variables (of_each SameVariables es))))

  -- so it is with a layer where it is so with the terms in it
  variables_layer : (y : Term-F (Proved SameVariables))
      → variables (rename_step r (map-Term Term Term (renamed r) (firsts SameVariables y)))
      ≡ map r (variables_step (map-Term Term (List Variable) variables (firsts SameVariables y)))
  variables_layer (layer.Int n) = ap variables (sym (tree.rolls-Int n)) ∙ variables_roll (layer.Int n)
  variables_layer (layer.Variable x) = variables_variable (r (named x))
  variables_layer (layer.Anonymous k) = variables_variable (r (anonymous k))
  variables_layer (layer.Symbol x) = ap variables (sym (tree.rolls-Symbol x)) ∙ variables_roll (layer.Symbol x)
  variables_layer (layer.Text x) = ap variables (sym (tree.rolls-Text x)) ∙ variables_roll (layer.Text x)
  variables_layer (layer.Fun f args) =
      let ts : List Term = map (renamed r) (of_each SameVariables args) in
      ap variables (sym (tree.rolls-Fun f ts)) ∙ variables_roll (layer.Fun f ts) ∙ same_variables args
  variables_layer (layer.Minus t) =
      ap variables (sym (tree.rolls-Minus (renamed r t.0))) ∙ variables_roll (layer.Minus (renamed r t.0)) ∙ t.1
  variables_layer (layer.Arith op x y) =
      let first = x.1 in let second = y.1 in
      ap variables (sym (tree.rolls-Arith op (renamed r x.0) (renamed r y.0)))
      ∙ variables_roll (layer.Arith op (renamed r x.0) (renamed r y.0))
      ∙ (λ i. first i ++ second i) ∙ sym (map-append r (variables x.0) (variables y.0))

  -- its variables are the new names
  pub variables_renamed : (t : Term) → variables (renamed r t) ≡ map r (variables t)
  variables_renamed = by_layers SameVariables (λ y.
      ap variables (renamed_roll r (firsts SameVariables y)) ∙ variables_layer y
      ∙ ap (map r) (sym (variables_roll (firsts SameVariables y))))

  -- the same of variables outside arithmetic
  abbrev SameOutside : Term → Type 0
  SameOutside t = outside_arithmetic (renamed r t) ≡ map r (outside_arithmetic t)

  -- so it is with arguments
  same_outside : (es : List (Proved SameOutside))
      → concat (map outside_arithmetic (map (renamed r) (of_each SameOutside es)))
      ≡ map r (concat (map outside_arithmetic (of_each SameOutside es)))
  same_outside [] = refl
  same_outside (e ∷ es) =
      let first = e.1 in let rest = same_outside es in
      (λ i. first i ++ rest i) ∙ sym (map-append r (outside_arithmetic e.0) (concat (map outside_arithmetic (of_each SameOutside es))))

  -- so it is with a layer where it is so with the terms in it
  outside_layer : (y : Term-F (Proved SameOutside))
      → outside_arithmetic (rename_step r (map-Term Term Term (renamed r) (firsts SameOutside y)))
      ≡ map r (outside_step (map-Term Term (List Variable) outside_arithmetic (firsts SameOutside y)))
  outside_layer (layer.Int n) = ap outside_arithmetic (sym (tree.rolls-Int n)) ∙ outside_roll (layer.Int n)
  outside_layer (layer.Variable x) = outside_variable (r (named x))
  outside_layer (layer.Anonymous k) = outside_variable (r (anonymous k))
  outside_layer (layer.Symbol x) = ap outside_arithmetic (sym (tree.rolls-Symbol x)) ∙ outside_roll (layer.Symbol x)
  outside_layer (layer.Text x) = ap outside_arithmetic (sym (tree.rolls-Text x)) ∙ outside_roll (layer.Text x)
  outside_layer (layer.Fun f args) =
      let ts : List Term = map (renamed r) (of_each SameOutside args) in
      ap outside_arithmetic (sym (tree.rolls-Fun f ts)) ∙ outside_roll (layer.Fun f ts) ∙ same_outside args
  outside_layer (layer.Minus t) =
      ap outside_arithmetic (sym (tree.rolls-Minus (renamed r t.0))) ∙ outside_roll (layer.Minus (renamed r t.0))
  outside_layer (layer.Arith op x y) =
      ap outside_arithmetic (sym (tree.rolls-Arith op (renamed r x.0) (renamed r y.0)))
      ∙ outside_roll (layer.Arith op (renamed r x.0) (renamed r y.0))

  -- and so with those outside arithmetic
  pub outside_renamed : (t : Term) → outside_arithmetic (renamed r t) ≡ map r (outside_arithmetic t)
  outside_renamed = by_layers SameOutside (λ y.
      ap outside_arithmetic (renamed_roll r (firsts SameOutside y)) ∙ outside_layer y
      ∙ ap (map r) (sym (outside_roll (firsts SameOutside y))))

  -- with new names the term has the same parts
  abbrev SameParts : Term → Type 0
  SameParts t = parts (renamed r t) ≡ parts t

  -- so it is with arguments
  same_parts : (es : List (Proved SameParts)) → map parts (map (renamed r) (of_each SameParts es)) ≡ map parts (of_each SameParts es)
  same_parts [] = refl
  same_parts (e ∷ es) = let first = e.1 in let rest = same_parts es in λ i. first i ∷ rest i

  -- so it is with a layer where it is so with the terms in it
  parts_layer : (y : Term-F (Proved SameParts)) → parts (rename_step r (map-Term Term Term (renamed r) (firsts SameParts y)))
      ≡ parts_step (map-Term Term (List Part) parts (firsts SameParts y))
  parts_layer (layer.Int n) = ap parts (sym (tree.rolls-Int n)) ∙ parts_roll (layer.Int n)
  parts_layer (layer.Variable x) = parts_variable (r (named x))
  parts_layer (layer.Anonymous k) = parts_variable (r (anonymous k))
  parts_layer (layer.Symbol x) = ap parts (sym (tree.rolls-Symbol x)) ∙ parts_roll (layer.Symbol x)
  parts_layer (layer.Text x) = ap parts (sym (tree.rolls-Text x)) ∙ parts_roll (layer.Text x)
  parts_layer (layer.Fun f args) =
      let ts : List Term = map (renamed r) (of_each SameParts args) in
      ap parts (sym (tree.rolls-Fun f ts)) ∙ parts_roll (layer.Fun f ts) ∙ ap (call_parts f) (same_parts args)
  parts_layer (layer.Minus t) = ap parts (sym (tree.rolls-Minus (renamed r t.0))) ∙ parts_roll (layer.Minus (renamed r t.0)) ∙ t.1
  parts_layer (layer.Arith op x y) =
      let first = x.1 in let second = y.1 in
      ap parts (sym (tree.rolls-Arith op (renamed r x.0) (renamed r y.0))) ∙ parts_roll (layer.Arith op (renamed r x.0) (renamed r y.0))
      ∙ (λ i. first i ++ second i)

  -- its parts are those of the term
  pub parts_renamed : (t : Term) → parts (renamed r t) ≡ parts t
  parts_renamed = by_layers SameParts (λ y.
      ap parts (renamed_roll r (firsts SameParts y)) ∙ parts_layer y ∙ sym (parts_roll (firsts SameParts y)))

  -- ---- lists of terms

  -- terms with new names have the new names of their variables
  pub variables_of_renamed : (ts : List Term) → variables_of (map (renamed r) ts) ≡ map r (variables_of ts)
  variables_of_renamed [] = refl
  variables_of_renamed (t ∷ ts) =
      (λ i. variables_renamed t i ++ variables_of_renamed ts i) ∙ sym (map-append r (variables t) (variables_of ts))

  -- and outside arithmetic those of what stands there
  pub outside_of_renamed : (ts : List Term) → outside_of (map (renamed r) ts) ≡ map r (outside_of ts)
  outside_of_renamed [] = refl
  outside_of_renamed (t ∷ ts) =
      (λ i. outside_renamed t i ++ outside_of_renamed ts i) ∙ sym (map-append r (outside_arithmetic t) (outside_of ts))

-- ---- outside arithmetic

-- the variables outside arithmetic are among the variables
abbrev IsWithin : Term → Type 0
IsWithin t = (v : Variable) → v ∈ outside_arithmetic t → v ∈ variables t

-- so it is with arguments
each_within : (es : List (Proved IsWithin)) (v : Variable) → v ∈ concat (map outside_arithmetic (of_each IsWithin es))
    → v ∈ concat (map variables (of_each IsWithin es))
each_within [] v k = k
each_within (e ∷ es) v k = elim (∈-append_cases v (outside_arithmetic e.0) (concat (map outside_arithmetic (of_each IsWithin es))) k) [
  | inl h ↦ ∈-append_left v (variables e.0) (concat (map variables (of_each IsWithin es))) (e.1 v h)
  | inr h ↦ ∈-append_right v (variables e.0) (concat (map variables (of_each IsWithin es))) (each_within es v h)
]

-- so it is with a layer where it is so with the terms in it
within_layer : (y : Term-F (Proved IsWithin)) (v : Variable)
    → v ∈ outside_step (map-Term Term (List Variable) outside_arithmetic (firsts IsWithin y))
    → v ∈ variables_step (map-Term Term (List Variable) variables (firsts IsWithin y))
within_layer (layer.Int n) v k = k
within_layer (layer.Variable x) v k = k
within_layer (layer.Anonymous j) v k = k
within_layer (layer.Symbol x) v k = k
within_layer (layer.Text x) v k = k
within_layer (layer.Fun f args) v k = each_within args v k
within_layer (layer.Minus t) v k = absurd k
within_layer (layer.Arith op x y) v k = absurd k

-- a variable outside arithmetic is one of the term's
pub outside_within : (t : Term) (v : Variable) → v ∈ outside_arithmetic t → v ∈ variables t
outside_within = by_layers IsWithin (λ y v k.
    subst (λ vs. v ∈ vs) (sym (variables_roll (firsts IsWithin y)))
    (within_layer y v (subst (λ vs. v ∈ vs) (outside_roll (firsts IsWithin y)) k)))

-- so it is with terms
pub outside_of_within : (ts : List Term) (v : Variable) → v ∈ outside_of ts → v ∈ variables_of ts
outside_of_within [] v k = k
outside_of_within (t ∷ ts) v k = elim (∈-append_cases v (outside_arithmetic t) (outside_of ts) k) [
  | inl h ↦ ∈-append_left v (variables t) (variables_of ts) (outside_within t v h)
  | inr h ↦ ∈-append_right v (variables t) (variables_of ts) (outside_of_within ts v h)
]

-- the variable is that of the term that it is
pub own_variable : (v : Variable) → v ∈ variables (term_of v)
own_variable v = subst (λ vs. v ∈ vs) (sym (variables_variable v)) (inl refl)

-- a text has itself alone as a part
pub parts_text : (t : List ℕ) → parts (tree.Text t) ≡ text t ∷ []
parts_text t = ap parts (sym (tree.rolls-Text t)) ∙ parts_roll (layer.Text t)
