-- Terms without a value.
use Rattle.std.proofs.Common.{◌≡◌, refl, sym, ap, ◌∙◌, ℕ, ℤ, pos, negsuc, List, ◌∷◌, Option, Some, None}
use Rattle.alpha_outside.specs.declared.kinds.ArithOp.{ArithOp}
use Rattle.alpha_outside.specs.declared.kinds.ArithOp.TheVariants.{Div}
use Rattle.lists.proofs.ListLemmas.{Each-at}
use Rattle.asp_syntax.specs.declared.tree.Term.{Term}
use Rattle.asp_syntax.specs.declared.tree.Term.TheOpen.{Term-F}
use Rattle.asp_syntax.specs.declared.tree.Term.TheOpen as layer
use Rattle.asp_syntax.specs.declared.tree.Term.TheVariants as term
use Rattle.asp_syntax.specs.declared.tree.Term.TheFolds.{fold-roll-Term}
use Rattle.asp_meaning.specs.declared.value.Value.{Value}
use Rattle.asp_meaning.specs.declared.value.Value.TheVariants as value
use Rattle.asp_meaning.specs.declared.value.Value.TheOpen.{Value-F}
use Rattle.asp_meaning.specs.declared.value.Value.TheOpen as shape
use Rattle.asp_meaning.specs.declared.value.Value.TheViews.{out-Value, roll-Value, out-roll-Value}
use Rattle.asp_meaning.specs.Terms.{Substitution, operation, eval, eval_step}
use Rattle.asp_meaning.specs.Bodies.{weight}
use Rattle.asp_meaning.specs.Programs.{HasValue, IsInstance}
use Rattle.asp_meaning.proofs.Layers.{value_cases}
use Rattle.asp_laws.proofs.Constraints.{demands_alone}
use Rattle.asp_laws.specs.Laws.{ArithmeticWithoutAValueGivesNoInstance, AStatementWithoutInstancesSaysNothing, NoDivisionByZero, NoArithmeticOnSymbols, DivisionCutsTowardsZero}

-- ---- the value of a term, by its kind

pub eval-Int : (s : Substitution) (n : ℤ) → eval s (term.Int n) ≡ Some (value.Int n)
eval-Int s n = ap (eval s) (sym (term.rolls-Int n)) ∙ fold-roll-Term (Option Value) (eval_step s) (layer.Int n)

pub eval-Symbol : (s : Substitution) (x : List ℕ) → eval s (term.Symbol x) ≡ Some (value.Symbol x)
eval-Symbol s x = ap (eval s) (sym (term.rolls-Symbol x)) ∙ fold-roll-Term (Option Value) (eval_step s) (layer.Symbol x)

pub eval-Arith : (s : Substitution) (op : ArithOp) (l r : Term) → eval s (term.Arith op l r) ≡ operation op (eval s l) (eval s r)
eval-Arith s op l r = ap (eval s) (sym (term.rolls-Arith op l r)) ∙ fold-roll-Term (Option Value) (eval_step s) (layer.Arith op l r)

-- ---- values by their kind

out-Symbol : (x : List ℕ) → out-Value (value.Symbol x) ≡ shape.Symbol x
out-Symbol x = ap out-Value (sym (value.rolls-Symbol x)) ∙ out-roll-Value (shape.Symbol x)

pub Symbol-one : (x y : List ℕ) → value.Symbol x ≡ value.Symbol y → x ≡ y
Symbol-one x y e = let f : shape.Symbol x ≡ shape.Symbol y = sym (out-Symbol x) ∙ ap out-Value e ∙ out-Symbol y in cc

pub weight-Int : (n : ℤ) (xs : List Value) → weight (value.Int n ∷ xs) ≡ n
weight-Int n xs =
    let rolled : weight (roll-Value (shape.Int n) ∷ xs) ≡ n = rw (out-roll-Value (shape.Int n), weight) refl in
    ap (λ v. weight (v ∷ xs)) (sym (value.rolls-Int n)) ∙ rolled

-- ---- no instance

no_value : (s : Substitution) (t : Term) → eval s t ≡ None → ¬ HasValue s t
no_value s t e h = let f : Some h.0 ≡ None = sym h.1 ∙ e in cc

pub arithmetic_without_a_value : ArithmeticWithoutAValueGivesNoInstance
arithmetic_without_a_value r s t among e = (none, λ a I earlier l. none l.instance)
  where
    none : ¬ IsInstance r s
    none h = no_value s t e (Each-at (HasValue s) _ t h among)

pub a_statement_without_instances : AStatementWithoutInstancesSaysNothing
a_statement_without_instances P r I none =
    let alone = demands_alone P r I (λ s a earlier l. none s l.instance) in
    (λ h. (alone.0 h).0, λ h. alone.1 (h, λ s i b. absurd (none s i)))

-- ---- operations

divided_by_zero : (o : Option Value) → operation Div o (Some (value.Int (pos 0))) ≡ None
divided_by_zero None = refl
divided_by_zero (Some v) =
    value_cases (λ w. operation Div (Some w) (Some (value.Int (pos 0))) ≡ None) (λ n. refl) (λ x. refl) (λ x. refl) (λ f x xs. refl) v

pub no_division_by_zero : NoDivisionByZero
no_division_by_zero s t = eval-Arith s Div t (term.Int (pos 0)) ∙ ap (operation Div (eval s t)) (eval-Int s (pos 0)) ∙ divided_by_zero (eval s t)

symbol_on_left : (op : ArithOp) (x : List ℕ) (o : Option Value) → operation op (Some (value.Symbol x)) o ≡ None
symbol_on_left op x None = refl
symbol_on_left op x (Some v) = refl

symbol_on_right : (op : ArithOp) (x : List ℕ) (o : Option Value) → operation op o (Some (value.Symbol x)) ≡ None
symbol_on_right op x None = refl
symbol_on_right op x (Some v) =
    value_cases (λ w. operation op (Some w) (Some (value.Symbol x)) ≡ None) (λ n. refl) (λ y. refl) (λ y. refl) (λ f y ys. refl) v

pub no_arithmetic_on_symbols : NoArithmeticOnSymbols
no_arithmetic_on_symbols s op a t = (
  eval-Arith s op (term.Symbol a) t ∙ ap (λ o. operation op o (eval s t)) (eval-Symbol s a) ∙ symbol_on_left op a (eval s t),
  eval-Arith s op t (term.Symbol a) ∙ ap (operation op (eval s t)) (eval-Symbol s a) ∙ symbol_on_right op a (eval s t),
)

pub division_cuts_towards_zero : DivisionCutsTowardsZero
division_cuts_towards_zero s =
    eval-Arith s Div (term.Int (negsuc 6)) (term.Int (pos 2)) ∙ (λ i. operation Div (eval-Int s (negsuc 6) i) (eval-Int s (pos 2) i))
