-- What a term may be is its value, where it has no arithmetic; and its value is always one that it may be.
use Rattle.std.proofs.Common.{◌≡◌, inl, inr, ℕ, zero, suc, ◌<◌, Bool, true, false, true≢false, List, [], ◌∷◌, length, map, slice_get, Option, Some, None, refl, sym, ap, subst, ◌∙◌, arith}
use Rattle.std.proofs.lemmas.Option.{same_Some}
use Rattle.std.specs.List.{list_any}
use Rattle.lists.specs.Lists.{◌∈◌, Each}
use Rattle.lists.proofs.ListLemmas.{Each-at}
use Rattle.alpha_outside.specs.declared.node.Node.{Node}
use Rattle.alpha_outside.specs.declared.pattern.Pattern.{Pattern}
use Rattle.alpha_outside.specs.declared.pattern.PatternTerm.{PatternTerm}
use Rattle.core_rules.specs.declared.rules.CoreTerm.{CoreTerm, map-CoreTerm}
use Rattle.core_rules.specs.declared.rules.CoreTerm.TheVariants as term
use Rattle.core_rules.specs.declared.rules.CoreTerm.TheOpen.{CoreTerm-F}
use Rattle.core_rules.specs.declared.rules.CoreTerm.TheOpen as layer
use Rattle.core_rules.specs.declared.rules.CoreTerm.TheViews.{roll-CoreTerm}
use Rattle.core_rules.specs.declared.rules.CoreTerm.TheFolds.{fold-roll-CoreTerm}
use Rattle.core_rules.specs.declared.rules.CoreAtom.{CoreAtom}
use Rattle.core_rules.specs.CoreForm.{HasNoArithmetic}
use Rattle.core_rules.specs.Variables.{has_arithmetic, arithmetic_step}
use Rattle.asp_meaning.specs.declared.value.Value.{Value}
use Rattle.asp_meaning.specs.declared.value.Value.TheVariants as value
use Rattle.asp_meaning.specs.Terms.{functional, functional_of, all_of, before}
use Rattle.core_meaning.specs.Terms.{Binding, eval, eval_step, eval_all}
use Rattle.term_pool.specs.Nodes.{value_at}
use Rattle.term_pool.proofs.PlaceLemmas.{length-map}
use Rattle.std.specs.Prelude.{IfSome, IfNone}
use Rattle.unification.specs.Patterns.{fill, IsPatternTerm}
use Rattle.unification.specs.Unifiers.{MayBe, MayAllBe, integer, variable, symbol, text, call, minus, operation, Unifies, IsMostGeneral, NoneUnifies, NoneCovered, SomeCovered, IsHeadCovered, HeadUnified}
use Rattle.term_eval.proofs.TermInduction.{by_children, children}
use Rattle.term_eval.proofs.MetLemmas.{all_known, none_plain}
use Rattle.search_values.proofs.Basics.{get_in}
use Rattle.unification.proofs.Places.{mapped_at}
use Rattle.unification.proofs.Openings.{may-Int, may-Var, may-Symbol, may-Text, may-Fun, may_tail}

call_value : (f : List ℕ) (o : Option (List Value)) (v : Value) → functional_of f o ≡ Some v → (vs : List Value) × (o ≡ Some vs) × (functional f vs ≡ v)
call_value f None v e = absurd (cc)
call_value f (Some vs) v e = (vs, refl, same_Some (functional f vs) v e)

module _ (b : Binding) where
  evaluated : (y : CoreTerm-F CoreTerm) → eval b (roll-CoreTerm y) ≡ eval_step b (map-CoreTerm CoreTerm (Option Value) (eval b) y)
  evaluated y = fold-roll-CoreTerm (Option Value) (eval_step b) y

  each_value : (args : List CoreTerm) (vs : List Value) → all_of (map (eval b) args) ≡ Some vs → (i : ℕ) (a : CoreTerm) (w : Value) → slice_get args i ≡ Some a → slice_get vs i ≡ Some w → eval b a ≡ Some w
  each_value args vs e i a w at to =
      let known = all_known (map (eval b) args) vs e in
      same_Some (eval b a) (Some w) (sym (mapped_at (eval b) args i a at) ∙ ap (λ l. slice_get l i) known ∙ mapped_at Some vs i w to)

  many_values : (args : List CoreTerm) (vs : List Value) → all_of (map (eval b) args) ≡ Some vs → length args ≡ length vs
  many_values args vs e = sym (length-map (eval b) args) ∙ ap length (all_known (map (eval b) args) vs e) ∙ length-map Some vs

  -- the value of a term is one that it may be
  pub value_may : (t : CoreTerm) → (v : Value) → eval b t ≡ Some v → MayBe (slice_get b) t v
  value_may = by_children (λ t. (v : Value) → eval b t ≡ Some v → MayBe (slice_get b) t v) step
    where
      step : (y : CoreTerm-F CoreTerm) → ((u : CoreTerm) → u ∈ children y → (v : Value) → eval b u ≡ Some v → MayBe (slice_get b) u v) → (v : Value) → eval b (roll-CoreTerm y) ≡ Some v → MayBe (slice_get b) (roll-CoreTerm y) v
      step (layer.Int n) ih v e = integer (roll-CoreTerm (layer.Int n)) v n (term.rolls-Int n) (sym (same_Some (value.Int n) v (sym (evaluated (layer.Int n)) ∙ e)))
      step (layer.Var x) ih v e = variable (roll-CoreTerm (layer.Var x)) v x (term.rolls-Var x) (sym (evaluated (layer.Var x)) ∙ e)
      step (layer.Symbol x) ih v e = symbol (roll-CoreTerm (layer.Symbol x)) v x (term.rolls-Symbol x) (sym (same_Some (value.Symbol x) v (sym (evaluated (layer.Symbol x)) ∙ e)))
      step (layer.Text x) ih v e = text (roll-CoreTerm (layer.Text x)) v x (term.rolls-Text x) (sym (same_Some (value.Text x) v (sym (evaluated (layer.Text x)) ∙ e)))
      step (layer.Fun f args) ih v e =
          let r = call_value f (all_of (map (eval b) args)) v (sym (evaluated (layer.Fun f args)) ∙ e) in
          call (roll-CoreTerm (layer.Fun f args)) v f args r.0 (term.rolls-Fun f args) (sym r.2) (many_values args r.0 r.1)
          (λ i a w at to. ih a (get_in args i a at) w (each_value args r.0 r.1 i a w at to))
      step (layer.Minus l) ih v e = minus (roll-CoreTerm (layer.Minus l)) v l (term.rolls-Minus l)
      step (layer.Arith op l r) ih v e = operation (roll-CoreTerm (layer.Arith op l r)) v op l r (term.rolls-Arith op l r)

  all_values : (args : List CoreTerm) (vs : List Value) → length args ≡ length vs → ((i : ℕ) (a : CoreTerm) (w : Value) → slice_get args i ≡ Some a → slice_get vs i ≡ Some w → eval b a ≡ Some w)
      → all_of (map (eval b) args) ≡ Some vs
  all_values [] [] many each = refl
  all_values [] (v ∷ vs) many each = absurd (omega (arith, many))
  all_values (a ∷ args) [] many each = absurd (omega (arith, many))
  all_values (a ∷ args) (v ∷ vs) many each =
      ap (λ o. all_of (o ∷ map (eval b) args)) (each zero a v refl refl) ∙ ap (before v) (all_values args vs (omega (arith, many)) (λ i u w at to. each (suc i) u w at to))

  -- and without arithmetic it may be nothing else
  pub may_value : (t : CoreTerm) → has_arithmetic t ≡ false → (v : Value) → MayBe (slice_get b) t v → eval b t ≡ Some v
  may_value = by_children (λ t. has_arithmetic t ≡ false → (v : Value) → MayBe (slice_get b) t v → eval b t ≡ Some v) step
    where
      step : (y : CoreTerm-F CoreTerm) → ((u : CoreTerm) → u ∈ children y → has_arithmetic u ≡ false → (v : Value) → MayBe (slice_get b) u v → eval b u ≡ Some v)
          → has_arithmetic (roll-CoreTerm y) ≡ false → (v : Value) → MayBe (slice_get b) (roll-CoreTerm y) v → eval b (roll-CoreTerm y) ≡ Some v
      step (layer.Int n) ih plain v m = evaluated (layer.Int n) ∙ ap Some (sym (may-Int (slice_get b) (roll-CoreTerm (layer.Int n)) v n (term.rolls-Int n) m))
      step (layer.Var x) ih plain v m = evaluated (layer.Var x) ∙ may-Var (slice_get b) (roll-CoreTerm (layer.Var x)) v x (term.rolls-Var x) m
      step (layer.Symbol x) ih plain v m = evaluated (layer.Symbol x) ∙ ap Some (sym (may-Symbol (slice_get b) (roll-CoreTerm (layer.Symbol x)) v x (term.rolls-Symbol x) m))
      step (layer.Text x) ih plain v m = evaluated (layer.Text x) ∙ ap Some (sym (may-Text (slice_get b) (roll-CoreTerm (layer.Text x)) v x (term.rolls-Text x) m))
      step (layer.Fun f args) ih plain v m =
          let r = may-Fun (slice_get b) (roll-CoreTerm (layer.Fun f args)) v f args (term.rolls-Fun f args) m in
          let none : list_any (λ there. there) (map has_arithmetic args) ≡ false = sym (fold-roll-CoreTerm Bool arithmetic_step (layer.Fun f args)) ∙ plain in
          evaluated (layer.Fun f args)
          ∙ ap (functional_of f) (all_values args r.0 r.2.0 (λ i a w at to. ih a (get_in args i a at) (none_plain args a (get_in args i a at) none) w (r.2.1 i a w at to)))
          ∙ ap Some (sym r.1)
      step (layer.Minus l) ih plain v m = absurd (true≢false (sym (fold-roll-CoreTerm Bool arithmetic_step (layer.Minus l)) ∙ plain))
      step (layer.Arith op l r) ih plain v m = absurd (true≢false (sym (fold-roll-CoreTerm Bool arithmetic_step (layer.Arith op l r)) ∙ plain))

-- where nothing unifies, no instance of the head is covered
pub none_covered : (nodes : List Node) (n : ℕ) (head : CoreAtom) (p : Pattern) → NoneUnifies nodes n head p → NoneCovered nodes n head p
none_covered nodes n head p never b long c = never b long (record {
  predicate = c.predicate;
  values = c.values;
  may = (many_values b head.args c.values c.are, λ i a w at to. value_may b a w (each_value b head.args c.values c.are i a w at to));
  covered = c.covered;
})

-- where something does and the head has no arithmetic, one is
pub some_covered : (nodes : List Node) (n : ℕ) (head : CoreAtom) (p : Pattern) (terms : List PatternTerm) → HasNoArithmetic head → IsMostGeneral nodes n head p terms → SomeCovered nodes n head p
some_covered nodes n head p terms plain general =
    let b : Binding = map (fill nodes (λ x. value_at nodes x)) terms in
    let u = general.only b ((λ x. value_at nodes x), refl) in (
      b,
      u.0,
      record {
        predicate = u.1.predicate;
        values = u.1.values;
        are = all_values b head.args u.1.values u.1.may.0 (λ i a w at to. may_value b a (Each-at (λ t. has_arithmetic t ≡ false) head.args a plain (get_in head.args i a at)) w (u.1.may.1 i a w at to));
        covered = u.1.covered;
      },
    )

-- ---- what is found of the head of a rule

module _ (nodes : List Node) (n : ℕ) (o : Option CoreAtom) (here : CoreAtom) (p : Pattern) (is : o ≡ Some here) where
  -- what holds of the head holds of whatever is the head
  of_head : (P : CoreAtom → Type 0) → P here → (head : CoreAtom) → o ≡ Some head → P head
  of_head P holds head e = subst P (same_Some here head (sym is ∙ e)) holds

  pub head_some : (found : Option (List PatternTerm)) → HeadUnified nodes n here p found
      → IfSome found (λ terms. (head : CoreAtom) → o ≡ Some head → IsMostGeneral nodes n head p terms)
  head_some None k = tt
  head_some (Some terms) k = of_head (λ head. IsMostGeneral nodes n head p terms) k.1

  pub head_none : (found : Option (List PatternTerm)) → HeadUnified nodes n here p found
      → IfNone found ((head : CoreAtom) → o ≡ Some head → NoneUnifies nodes n head p)
  head_none None k = of_head (λ head. NoneUnifies nodes n head p) k
  head_none (Some terms) k = tt

  pub head_uncovered : (found : Option (List PatternTerm)) → HeadUnified nodes n here p found
      → IfNone found ((head : CoreAtom) → o ≡ Some head → NoneCovered nodes n head p)
  head_uncovered None k = of_head (λ head. NoneCovered nodes n head p) (none_covered nodes n here p k)
  head_uncovered (Some terms) k = tt

  pub head_covered : (found : Option (List PatternTerm)) → HeadUnified nodes n here p found
      → IfSome found (λ _. (head : CoreAtom) → o ≡ Some head → HasNoArithmetic head → SomeCovered nodes n head p)
  head_covered None k = tt
  head_covered (Some terms) k = of_head (λ head. HasNoArithmetic head → SomeCovered nodes n head p) (λ plain. some_covered nodes n here p terms plain k.1)

module _ (nodes : List Node) (n : ℕ) (head : CoreAtom) (p : Pattern) where
  -- there are as many terms as variables
  pub head_many : (found : Option (List PatternTerm)) → HeadUnified nodes n head p found → IfSome found (λ terms. length terms ≡ n)
  head_many None k = tt
  head_many (Some terms) k =
      let become : Binding = map (fill nodes (λ x. value_at nodes x)) terms in
      sym (length-map (fill nodes (λ x. value_at nodes x)) terms) ∙ (k.1.only become ((λ x. value_at nodes x), refl)).0

  -- and they are terms beside the pool
  pub head_formed : (found : Option (List PatternTerm)) → HeadUnified nodes n head p found → IfSome found (λ terms. Each (IsPatternTerm (length nodes)) terms)
  head_formed None k = tt
  head_formed (Some terms) k = k.0
