-- The value of a term with numbers for its variables is that of the term.
use Rattle.std.proofs.Common.{◌≡◌, inl, refl, sym, ap, subst, ◌∙◌, pos, List, [], ◌∷◌, map, Option, Some, slice_get}
use Rattle.alpha_outside.specs.declared.kinds.ArithOp.TheVariants.{Sub}
use Rattle.lists.specs.Lists.{◌∈◌, concat}
use Rattle.lists.proofs.ListLemmas.{∈-append_left, ∈-append_right}
use Rattle.asp_syntax.specs.declared.tree.Term.{Term, map-Term}
use Rattle.asp_syntax.specs.declared.tree.Term.TheOpen.{Term-F}
use Rattle.asp_syntax.specs.declared.tree.Term.TheOpen as layer
use Rattle.asp_syntax.specs.declared.tree.Term.TheViews.{roll-Term}
use Rattle.asp_syntax.specs.declared.tree.Term.TheFolds.{fold-roll-Term, ind-Term}
use Rattle.core_rules.specs.declared.rules.CoreTerm.{CoreTerm, map-CoreTerm}
use Rattle.core_rules.specs.declared.rules.CoreTerm.TheVariants as core
use Rattle.core_rules.specs.declared.rules.CoreTerm.TheOpen.{CoreTerm-F}
use Rattle.core_rules.specs.declared.rules.CoreTerm.TheOpen as core_layer
use Rattle.core_rules.specs.declared.rules.CoreTerm.TheViews.{roll-CoreTerm}
use Rattle.core_rules.specs.declared.rules.CoreTerm.TheFolds.{fold-roll-CoreTerm}
use Rattle.asp_meaning.specs.declared.value.Value.{Value}
use Rattle.asp_meaning.specs.declared.value.Value.TheVariants as value
use Rattle.asp_meaning.specs.Terms.{Variable, named, anonymous, Substitution, all_of, functional_of, operation, eval, eval_step}
use Rattle.asp_meaning.specs.Variables.{variables, variables_step}
use Rattle.core_meaning.specs.Terms.{Binding}
use Rattle.core_meaning.specs.Terms as meaning
use Rattle.rewriting.specs.Numbering.{place, number_step, numbered}

-- the value of a term by its layer
pub eval_roll : (s : Substitution) (x : Term-F Term) → eval s (roll-Term x) ≡ eval_step s (map-Term Term (Option Value) (eval s) x)
eval_roll s x = fold-roll-Term (Option Value) (eval_step s) x

-- the term with numbers by its layer
numbered_roll : (table : List Variable) (x : Term-F Term) → numbered table (roll-Term x) ≡ number_step table (map-Term Term CoreTerm (numbered table) x)
numbered_roll table x = fold-roll-Term CoreTerm (number_step table) x

-- the value of a core term by its layer
core_roll : (b : Binding) (x : CoreTerm-F CoreTerm) → meaning.eval b (roll-CoreTerm x) ≡ meaning.eval_step b (map-CoreTerm CoreTerm (Option Value) (meaning.eval b) x)
core_roll b x = fold-roll-CoreTerm (Option Value) (meaning.eval_step b) x

-- the binding has the value of the variable at its place
abbrev pub Stands : Binding → List Variable → Substitution → Variable → Type 0
Stands b table s v = slice_get b (place table v) ≡ Some (s v)

-- the core term has the value of the term
abbrev pub Agrees : Binding → List Variable → Substitution → Term → Type 0
Agrees b table s t = meaning.eval b (numbered table t) ≡ eval s t

module _ (b : Binding) (table : List Variable) (s : Substitution) where
  -- all of these variables stand at their places
  abbrev AllStand : List Variable → Type 0
  AllStand vs = (v : Variable) → v ∈ vs → Stands b table s v

  -- where its variables do, the core term has the value of the term
  abbrev Same : Term → Type 0
  Same t = AllStand (variables t) → Agrees b table s t

  -- a term of which this is proved
  abbrev Proved : Type 0
  Proved = (t : Term) × Same t

  -- the layer of the terms themselves
  abbrev firsts : Term-F Proved → Term-F Term
  firsts y = map-Term Proved Term (λ (e : Proved). e.0) y

  -- so it is with lists of such terms
  args_same : (es : List Proved) → AllStand (concat (map variables (map (λ (e : Proved). e.0) es)))
      → map (meaning.eval b) (map (numbered table) (map (λ (e : Proved). e.0) es)) ≡ map (eval s) (map (λ (e : Proved). e.0) es)
  args_same [] h = refl
  args_same (e ∷ es) h =
      let first = e.1 (λ v k. h v (∈-append_left v (variables e.0) _ k)) in
      let rest = args_same es (λ v k. h v (∈-append_right v (variables e.0) _ k)) in
      λ i. first i ∷ rest i

  -- and with a layer of them
  layer_same : (y : Term-F Proved) → AllStand (variables_step (map-Term Term (List Variable) variables (firsts y)))
      → meaning.eval b (number_step table (map-Term Term CoreTerm (numbered table) (firsts y))) ≡ eval_step s (map-Term Term (Option Value) (eval s) (firsts y))
  layer_same (layer.Int n) h = ap (meaning.eval b) (sym (core.rolls-Int n)) ∙ core_roll b (core_layer.Int n)
  layer_same (layer.Variable x) h =
      ap (meaning.eval b) (sym (core.rolls-Var (place table (named x)))) ∙ core_roll b (core_layer.Var (place table (named x))) ∙ h (named x) (inl refl)
  layer_same (layer.Anonymous k) h =
      ap (meaning.eval b) (sym (core.rolls-Var (place table (anonymous k)))) ∙ core_roll b (core_layer.Var (place table (anonymous k))) ∙ h (anonymous k) (inl refl)
  layer_same (layer.Symbol x) h = ap (meaning.eval b) (sym (core.rolls-Symbol x)) ∙ core_roll b (core_layer.Symbol x)
  layer_same (layer.Text x) h = ap (meaning.eval b) (sym (core.rolls-Text x)) ∙ core_roll b (core_layer.Text x)
  layer_same (layer.Fun f args) h =
      let ts : List CoreTerm = map (numbered table) (map (λ (e : Proved). e.0) args) in
      ap (meaning.eval b) (sym (core.rolls-Fun f ts)) ∙ core_roll b (core_layer.Fun f ts) ∙ ap (λ xs. functional_of f (all_of xs)) (args_same args h)
  layer_same (layer.Minus t) h =
      ap (meaning.eval b) (sym (core.rolls-Minus (numbered table t.0))) ∙ core_roll b (core_layer.Minus (numbered table t.0))
      ∙ ap (λ x. operation Sub (Some (value.Int (pos 0))) x) (t.1 h)
  layer_same (layer.Arith op l r) h =
      let first = l.1 (λ v k. h v (∈-append_left v (variables l.0) (variables r.0) k)) in
      let second = r.1 (λ v k. h v (∈-append_right v (variables l.0) (variables r.0) k)) in
      ap (meaning.eval b) (sym (core.rolls-Arith op (numbered table l.0) (numbered table r.0)))
      ∙ core_roll b (core_layer.Arith op (numbered table l.0) (numbered table r.0)) ∙ (λ i. operation op (first i) (second i))

  -- where the binding has the values of the variables, the core term has the value of the term
  pub numbered_value : (t : Term) → ((v : Variable) → v ∈ variables t → Stands b table s v) → Agrees b table s t
  numbered_value = ind-Term Same (λ x y is.
      subst (λ z. Same (roll-Term z)) is (λ h.
      ap (meaning.eval b) (numbered_roll table (firsts y))
      ∙ layer_same y (λ v k. h v (subst (λ vs. v ∈ vs) (sym (fold-roll-Term (List Variable) variables_step (firsts y))) k))
      ∙ sym (eval_roll s (firsts y))))
