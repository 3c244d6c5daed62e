-- In a safe element each variable has finitely many values that can make the condition hold. So it is decided whether some values do.
use Rattle.std.proofs.Common.{◌≡◌, ◌⊎◌, inl, inr, refl, sym, ap, subst, ◌∙◌, ℕ, Bool, true, false, true≢false, cond, List, [], ◌∷◌, map, Option, Some, None}
use Rattle.std.specs.declared.cmp.Ordering.{Ordering}
use Rattle.std.specs.declared.cmp.Ordering.TheVariants.{Less, Equal, Greater}
use Rattle.lists.specs.Lists.{◌∈◌, ◌⊆◌, Each, AtLeastOne, concat}
use Rattle.lists.proofs.ListLemmas.{Each-at, Each-from, AtLeastOne-at, AtLeastOne-from, ∈-append_cases, ∈-map}
use Rattle.asp_syntax.specs.declared.tree.CompareOp.TheVariants as op
use Rattle.asp_syntax.specs.declared.tree.Term.{Term, map-Term}
use Rattle.asp_syntax.specs.declared.tree.Term.TheOpen.{Term-F}
use Rattle.asp_syntax.specs.declared.tree.Term.TheOpen as layer
use Rattle.asp_syntax.specs.declared.tree.Atom as syntax
use Rattle.asp_syntax.specs.declared.tree.Literal.{Literal}
use Rattle.asp_syntax.specs.declared.tree.Literal.TheVariants as literal
use Rattle.asp_syntax.specs.declared.tree.Statement.{Statement}
use Rattle.asp_meaning.specs.declared.value.Value.{Value}
use Rattle.asp_meaning.specs.declared.value.Value.TheVariants as value
use Rattle.asp_meaning.specs.declared.value.Value.TheOpen as shape
use Rattle.asp_meaning.specs.declared.value.Value.TheViews.{out-Value, roll-Value, out-roll-Value}
use Rattle.asp_meaning.specs.Terms.{Variable, named, anonymous, Substitution, all_of, before, functional, functional_of, eval, eval_step, eval_all}
use Rattle.asp_meaning.specs.Variables.{variables, literal_terms, global_variables}
use Rattle.asp_meaning.specs.Orders.{value_cmp, passes}
use Rattle.asp_meaning.specs.Atoms.{Atom, Becomes}
use Rattle.asp_meaning.specs.Bodies.{LiteralHolds, Extends}
use Rattle.asp_laws.proofs.Globals.{eval_same, literal_same}
use Rattle.asp_meaning.proofs.AtomOrder.{same_atom}
use Rattle.asp_laws.proofs.Stable.{in_or_out}
use Rattle.asp_meaning.proofs.ValueOrder.{value_same, value_itself, less_equal, greater_equal}
use Rattle.asp_safety.specs.Keys.{variable_eq}
use Rattle.asp_safety.specs.KeyLaws.{variable_same, variable_itself}
use Rattle.asp_safety.specs.Binding.{condition_variables, outside_arithmetic, outside_step, outside_of, IsEquation, IsBoundInside, global, in_condition, by_equality}
use Rattle.single_rules.proofs.Parts.{∈-concat_map, ∈-concat_map_from}
use Rattle.single_rules.proofs.Renamed.{Proved, firsts, of_each, by_layers, eval_roll, outside_roll, eval_variable}
use Rattle.single_rules.proofs.Names.{is_or_not}
use Rattle.single_rules.proofs.Values.{option_apart, same_by_variables}
use Rattle.single_rules.proofs.Wider.{joined, joined_in, joined_out, in_condition_variables}
use Rattle.single_rules.proofs.BoundVariables.{bound_in_body, body_global}

-- it is so, or it isn't
abbrev pub Or : Type 0 → Type 0
Or X = X ⊎ (¬ X)

-- the value, where there is one
abbrev pub some_value : Option Value → Value
some_value None = value.Symbol []
some_value (Some x) = x

-- the values, where there are some
abbrev pub some_values : Option (List Value) → List Value
some_values None = []
some_values (Some xs) = xs

-- ---- the values in a value

-- the values right in a value
abbrev children : Value → List Value
children x = elim (out-Value x) [ shape.Fun f first rest ↦ first ∷ rest | _ ↦ [] ]

-- those of a functional value are its arguments
children_functional : (f : List ℕ) (zs : List Value) → children (functional f zs) ≡ zs
children_functional f [] =
    let rolled : children (roll-Value (shape.Symbol f)) ≡ [] = rw (out-roll-Value (shape.Symbol f), children) refl in
    ap children (sym (value.rolls-Symbol f)) ∙ rolled
children_functional f (z ∷ zs) =
    let rolled : children (roll-Value (shape.Fun f z zs)) ≡ z ∷ zs = rw (out-roll-Value (shape.Fun f z zs), children) refl in
    ap children (sym (value.rolls-Fun f z zs)) ∙ rolled

-- all have values, and so the first has one
first_value : (o : Option Value) (os : List (Option Value)) (zs : List Value) → all_of (o ∷ os) ≡ Some zs
    → (z : Value) × (rest : List Value) × (o ≡ Some z) × (all_of os ≡ Some rest) × (zs ≡ z ∷ rest)
first_value None os zs e = absurd (option_apart e)
first_value (Some z) os zs e = by_rest (all_of os) refl
  where
    by_rest : (r : Option (List Value)) → all_of os ≡ r
        → (y : Value) × (rest : List Value) × (Some z ≡ Some y) × (all_of os ≡ Some rest) × (zs ≡ y ∷ rest)
    by_rest None is = absurd (option_apart (sym (ap (before z) is) ∙ e))
    by_rest (Some rest) is = (z, rest, refl, is, ap some_values (sym e ∙ ap (before z) is))

-- where a variable stands outside arithmetic, its value is among finitely many that the value of the term gives
abbrev Found : Term → Type 0
Found u = (v : Variable) → v ∈ outside_arithmetic u → (y : Value) → (ys : List Value) × ((t : Substitution) → eval t u ≡ Some y → t v ∈ ys)

-- the same for arguments
argument_found : (es : List (Proved Found)) (v : Variable) → v ∈ concat (map outside_arithmetic (of_each Found es))
    → (gives : Value → List Value)
    × ((t : Substitution) (zs : List Value) → all_of (map (eval t) (of_each Found es)) ≡ Some zs → (z : Value)
    × (z ∈ zs) × (t v ∈ gives z))
argument_found [] v k = absurd k
argument_found (e ∷ es) v k = elim (∈-append_cases v (outside_arithmetic e.0) (concat (map outside_arithmetic (of_each Found es))) k) [
  | inl j ↦ (
    (λ z. (e.1 v j z).0),
    λ t zs is.
        let f = first_value (eval t e.0) (map (eval t) (of_each Found es)) zs is in
        (f.0, subst (λ ws. f.0 ∈ ws) (sym f.4) (inl refl), (e.1 v j f.0).1 t f.2),
  )
  | inr j ↦
      let rest = argument_found es v j in (
        rest.0,
        λ t zs is.
            let f = first_value (eval t e.0) (map (eval t) (of_each Found es)) zs is in
            let g = rest.1 t f.1 f.3 in
            (g.0, subst (λ ws. g.0 ∈ ws) (sym f.4) (inr g.1), g.2),
      )
]

-- the same of the layer of a term
abbrev FoundLayer : Term-F (Proved Found) → Type 0
FoundLayer y = (v : Variable) → v ∈ outside_step (map-Term Term (List Variable) outside_arithmetic (firsts Found y)) → (val : Value)
    → (ys : List Value) × ((t : Substitution) → eval_step t (map-Term Term (Option Value) (eval t) (firsts Found y)) ≡ Some val → t v ∈ ys)

-- the variable itself has that value alone
own_value : (v w : Variable) (val : Value) → v ≡ w → (ys : List Value) × ((t : Substitution) → Some (t w) ≡ Some val → t v ∈ ys)
own_value v w val is = (val ∷ [], λ t e. inl (ap t is ∙ ap some_value e))

-- it holds of a layer where it holds of the terms in it
found_layer : (y : Term-F (Proved Found)) → FoundLayer y
found_layer (layer.Int n) v k val = absurd k
found_layer (layer.Variable x) v (inl is) val = own_value v (named x) val is
found_layer (layer.Variable x) v (inr none) val = absurd none
found_layer (layer.Anonymous j) v (inl is) val = own_value v (anonymous j) val is
found_layer (layer.Anonymous j) v (inr none) val = absurd none
found_layer (layer.Symbol x) v k val = absurd k
found_layer (layer.Text x) v k val = absurd k
found_layer (layer.Fun f args) v k val =
    let found = argument_found args v k in
    (concat (map found.0 (children val)), λ t e. called f (map (eval t) (of_each Found args)) val e (found.0) (t v) (found.1 t))
  where
    called : (f : List ℕ) (os : List (Option Value)) (val : Value) → functional_of f (all_of os) ≡ Some val
        → (gives : Value → List Value) (y : Value)
        → ((zs : List Value) → all_of os ≡ Some zs → (z : Value) × (z ∈ zs) × (y ∈ gives z)) → y ∈ concat (map gives (children val))
    called f os val e gives y found = by_values (all_of os) refl
      where
        by_values : (r : Option (List Value)) → all_of os ≡ r → y ∈ concat (map gives (children val))
        by_values None is = absurd (option_apart (sym (ap (functional_of f) is) ∙ e))
        by_values (Some zs) is =
            let g = found zs is in
            let same : functional f zs ≡ val = ap some_value (sym (ap (functional_of f) is) ∙ e) in
            let inside : children val ≡ zs = ap children (sym same) ∙ children_functional f zs in
            ∈-concat_map gives g.0 (children val) y (subst (λ ws. g.0 ∈ ws) (sym inside) g.1) g.2
found_layer (layer.Minus u) v k val = absurd k
found_layer (layer.Arith o a b) v k val = absurd k

-- and so of every term
found : (u : Term) → Found u
found = by_layers Found (λ y v k val.
    let g = found_layer y v (subst (λ vs. v ∈ vs) (outside_roll (firsts Found y)) k) val in
    (g.0, λ t e. g.1 t (sym (eval_roll t (firsts Found y)) ∙ e)))

-- the value of a term is one of the values of all
value_among : (t : Substitution) (ts : List Term) (zs : List Value) → eval_all t ts ≡ Some zs → (u : Term) → u ∈ ts
    → (z : Value) × (z ∈ zs) × (eval t u ≡ Some z)
value_among t [] zs e u k = absurd k
value_among t (w ∷ ts) zs e u k =
    let f = first_value (eval t w) (map (eval t) ts) zs e in
    elim k [
      | inl is ↦ (f.0, subst (λ ws. f.0 ∈ ws) (sym f.4) (inl refl), ap (eval t) is ∙ f.2)
      | inr j ↦ let g = value_among t ts f.1 f.3 u j in (g.0, subst (λ ws. g.0 ∈ ws) (sym f.4) (inr g.1), g.2)
    ]

-- ---- deciding

-- two values are the same or not
pub same_value : (v w : Value) → Or (v ≡ w)
same_value v w = by_order (value_cmp v w) refl
  where
    apart : (o : Ordering) → value_cmp v w ≡ o → (o ≡ Equal → ⊥) → ¬ (v ≡ w)
    apart o is other e = other (sym is ∙ ap (value_cmp v) (sym e) ∙ value_itself v)

    by_order : (o : Ordering) → value_cmp v w ≡ o → Or (v ≡ w)
    by_order Less is = inr (apart Less is (λ e. less_equal e))
    by_order Equal is = inl (value_same v w is)
    by_order Greater is = inr (apart Greater is (λ e. greater_equal e))

-- a condition that is decided holds of each of a list, or not
each_or_not : {A : Type 0} (P : A → Type 0) → ((x : A) → Or (P x)) → (xs : List A) → Or (Each P xs)
each_or_not P decide [] = inl tt
each_or_not P decide (x ∷ xs) = elim (decide x) [
  | inl h ↦ elim (each_or_not P decide xs) [ inl rest ↦ inl (h, rest) | inr none ↦ inr (λ k. none k.1) ]
  | inr none ↦ inr (λ k. none k.0)
]

-- it holds of at least one, or not
pub any_or_none : {A : Type 0} (P : A → Type 0) (xs : List A) → ((x : A) → x ∈ xs → Or (P x)) → Or (AtLeastOne P xs)
any_or_none P [] decide = inr (λ k. k)
any_or_none P (x ∷ xs) decide = elim (decide x (inl refl)) [
  | inl h ↦ inl (inl h)
  | inr none ↦
      elim (any_or_none P xs (λ y k. decide y (inr k))) [
        | inl h ↦ inl (inr h)
        | inr others ↦ inr (λ k. elim k [ inl h ↦ none h | inr h ↦ others h ])
      ]
]

-- the atom of these values
abbrev atom_of : syntax.Atom → List Value → Atom
atom_of p xs = record { negated = p.negated; name = p.name; args = xs }

-- an atom whose terms have these values becomes no other atom
becomes_that : (t : Substitution) (p : syntax.Atom) (xs : List Value) (a : Atom) → eval_all t p.args ≡ Some xs → Becomes t p a
    → a ≡ atom_of p xs
becomes_that t p xs a e b =
    let args : a.args ≡ xs = ap some_values (sym b.2 ∙ e) in λ i. record { negated = b.0 i; name = b.1 i; args = args i }

-- an atom becomes this one or not
pub becomes_or_not : (t : Substitution) (p : syntax.Atom) (a : Atom) → Or (Becomes t p a)
becomes_or_not t p a = by_values (eval_all t p.args) refl
  where
    by_values : (o : Option (List Value)) → eval_all t p.args ≡ o → Or (Becomes t p a)
    by_values None is = inr (λ b. option_apart (sym is ∙ b.2))
    by_values (Some xs) is = elim (same_atom a (atom_of p xs)) [
      | inl e ↦ inl (ap (λ (b : Atom). b.negated) e, ap (λ (b : Atom). b.name) e, is ∙ ap (λ (b : Atom). Some b.args) (sym e))
      | inr other ↦ inr (λ b. other (becomes_that t p xs a is b))
    ]

-- a positive literal holds or not
in_set_or_not : (t : Substitution) (I : List Atom) (p : syntax.Atom) → Or (LiteralHolds t I (literal.Positive p))
in_set_or_not t I p = by_values (eval_all t p.args) refl
  where
    by_values : (o : Option (List Value)) → eval_all t p.args ≡ o → Or (LiteralHolds t I (literal.Positive p))
    by_values None is = inr (λ k. option_apart (sym is ∙ k.1.2))
    by_values (Some xs) is = elim (in_or_out (atom_of p xs) I) [
      | inl k ↦ inl (atom_of p xs, (refl, refl, is), k)
      | inr out ↦ inr (λ k. out (subst (λ a. a ∈ I) (becomes_that t p xs k.0 is k.1) k.2))
    ]

-- a literal under `not` holds or not
out_or_not : (t : Substitution) (I : List Atom) (p : syntax.Atom) → Or (LiteralHolds t I (literal.Negative p))
out_or_not t I p = by_values (eval_all t p.args) refl
  where
    by_values : (o : Option (List Value)) → eval_all t p.args ≡ o → Or (LiteralHolds t I (literal.Negative p))
    by_values None is = inr (λ k. option_apart (sym is ∙ k.1.2))
    by_values (Some xs) is = elim (in_or_out (atom_of p xs) I) [
      | inl j ↦ inr (λ k. k.2 (subst (λ a. a ∈ I) (sym (becomes_that t p xs k.0 is k.1)) j))
      | inr out ↦ inl (atom_of p xs, (refl, refl, is), out)
    ]

-- any literal holds or not
pub holds_or_not : (t : Substitution) (I : List Atom) (l : Literal) → Or (LiteralHolds t I l)
holds_or_not t I (literal.Positive p) = in_set_or_not t I p
holds_or_not t I (literal.Negative p) = out_or_not t I p
holds_or_not t I (literal.Compare o l r) = by_values (eval t l) refl (eval t r) refl
  where
    by_test : (x y : Value) → eval t l ≡ Some x → eval t r ≡ Some y → (b : Bool) → passes o (value_cmp x y) ≡ b
        → Or (LiteralHolds t I (literal.Compare o l r))
    by_test x y i j true e = inl (x, y, i, j, e)
    by_test x y i j false e = inr (λ k.
        let one : k.0 ≡ x = ap some_value (sym k.2 ∙ i) in
        let two : k.1 ≡ y = ap some_value (sym k.3 ∙ j) in
        true≢false (sym k.4 ∙ (λ n. passes o (value_cmp (one n) (two n))) ∙ e))

    by_values : (a : Option Value) → eval t l ≡ a → (b : Option Value) → eval t r ≡ b → Or (LiteralHolds t I (literal.Compare o l r))
    by_values None i b j = inr (λ k. option_apart (sym i ∙ k.2))
    by_values (Some x) i None j = inr (λ k. option_apart (sym j ∙ k.3))
    by_values (Some x) i (Some y) j = by_test x y i j (passes o (value_cmp x y)) refl

-- a substitution extends another one on these variables or not
extends_or_not : (globals : List Variable) (s t : Substitution) → Or (Extends globals s t)
extends_or_not globals s t = each_or_not (λ v. t v ≡ s v) (λ v. same_value (t v) (s v)) globals

-- `=` is true of a value and itself alone
equal_same : (x y : Value) → passes op.Equal (value_cmp x y) ≡ true → x ≡ y
equal_same x y e = by_order (value_cmp x y) refl e
  where
    by_order : (o : Ordering) → value_cmp x y ≡ o → passes op.Equal o ≡ true → x ≡ y
    by_order Less is fails = absurd (true≢false (sym fails))
    by_order Equal is passed = value_same x y is
    by_order Greater is fails = absurd (true≢false (sym fails))

-- ---- candidates

module _ (x : Statement) (c : List Literal) (s : Substitution) (I : List Atom) where
  -- t extends s, and the condition holds under it
  abbrev pub Satisfies : Substitution → Type 0
  Satisfies t = Extends (global_variables x) s t × Each (LiteralHolds t I) c

  -- the values that a variable can have
  record Candidates (v : Variable) : Type 0 where
    values : List Value
    all : (t : Substitution) → Satisfies t → t v ∈ values

  -- substitutions of which one agrees with each that satisfies
  record Assignments (vs : List Variable) : Type 0 where
    list : List Substitution
    all : (t : Substitution) → Satisfies t → (u : Substitution) × (u ∈ list) × ((v : Variable) → v ∈ vs → u v ≡ t v)

  -- the substitution with this value for this variable
  abbrev set_to : Variable → Value → Substitution → Substitution
  set_to v y u w = cond (variable_eq v w) y (u w)

  -- a substitution that agrees on further variables agrees on this one too, once it is set to its value
  set_right : (v : Variable) (vs : List Variable) (t u : Substitution) → ((w : Variable) → w ∈ vs → u w ≡ t w) → (w : Variable)
      → w ∈ (v ∷ vs) → set_to v (t v) u w ≡ t w
  set_right v vs t u same w k = by_case (variable_eq v w) refl
    where
      by_case : (b : Bool) → variable_eq v w ≡ b → cond b (t v) (u w) ≡ t w
      by_case true e = ap t (variable_same v w e)
      by_case false e = elim k [
        | inl is ↦ absurd (true≢false (sym (variable_itself w) ∙ ap (λ z. variable_eq z w) is ∙ e))
        | inr j ↦ same w j
      ]

  -- with candidates for each variable there are finitely many assignments
  assign : (vs : List Variable) → ((v : Variable) → v ∈ vs → Candidates v) → Assignments vs
  assign [] h = record { list = s ∷ []; all = λ t k. (s, inl refl, λ v none. absurd none) }
  assign (v ∷ vs) h =
      let rest = assign vs (λ w k. h w (inr k)) in
      let here = h v (inl refl) in
      record {
        list = concat (map (λ y. map (set_to v y) rest.list) here.values);
        all = λ t k.
            let u = rest.all t k in (
              set_to v (t v) u.0,
              ∈-concat_map (λ y. map (set_to v y) rest.list) (t v) here.values (set_to v (t v) u.0) (here.all t k)
                  (∈-map (set_to v (t v)) u.0 rest.list u.1),
              set_right v vs t u.0 u.2,
            );
      }

  -- a variable of a positive literal
  in_positive : (p : syntax.Atom) → literal.Positive p ∈ c → (w : Variable) → w ∈ outside_of p.args → Candidates w
  in_positive p here w k =
      let f = ∈-concat_map_from outside_arithmetic p.args w k in
      let gives = λ (z : Value). (found f.0 w f.2 z).0 in
      record {
        values = concat (map (λ (a : Atom). concat (map gives a.args)) I);
        all = λ t sat.
            let h = Each-at (LiteralHolds t I) c (literal.Positive p) sat.1 here in
            let g = value_among t p.args h.0.args h.1.2 f.0 f.1 in
            ∈-concat_map (λ (a : Atom). concat (map gives a.args)) h.0 I (t w) h.2
            (∈-concat_map gives g.0 h.0.args (t w) g.1 ((found f.0 w f.2 g.0).1 t g.2));
      }

  -- the value as a list, where there is one
  abbrev listed : Option Value → List Value
  listed None = []
  listed (Some y) = y ∷ []

  -- the value of an equation's variable is that of its term
  equation_value : (t : Substitution) (w : Variable) (u : Term) (l : Literal) → IsEquation l w u → LiteralHolds t I l
      → eval t u ≡ Some (t w)
  equation_value t w u l (inl e) h =
      let k = subst (LiteralHolds t I) e h in
      let own : k.0 ≡ t w = ap some_value (sym k.2 ∙ eval_variable t w) in
      k.3 ∙ ap Some (sym (equal_same k.0 k.1 k.4) ∙ own)
  equation_value t w u l (inr e) h =
      let k = subst (LiteralHolds t I) e h in
      let own : k.1 ≡ t w = ap some_value (sym k.3 ∙ eval_variable t w) in
      k.2 ∙ ap Some (equal_same k.0 k.1 k.4 ∙ own)

  -- a variable that an equation says is a term has candidates where the term's variables have assignments
  by_term : (w : Variable) (u : Term) (l : Literal) → l ∈ c → IsEquation l w u → Assignments (variables u) → Candidates w
  by_term w u l here e set = record {
    values = concat (map (λ (m : Substitution). listed (eval m u)) set.list);
    all = λ t sat.
        let m = set.all t sat in
        let value : eval m.0 u ≡ Some (t w) = eval_same t m.0 u m.2
        ∙ equation_value t w u l e (Each-at (LiteralHolds t I) c l sat.1 here) in
        ∈-concat_map (λ (n : Substitution). listed (eval n u)) m.0 set.list (t w) m.1 (subst (λ o. t w ∈ listed o) (sym value) (inl refl));
  }

  -- each variable that is bound has candidates
  candidates : (v : Variable) → IsBoundInside x c v → Candidates v
  candidates v (global w b) = record {
    values = s w ∷ [];
    all = λ t sat. inl (Each-at (λ v. t v ≡ s v) (global_variables x) w sat.0 (body_global x w (bound_in_body x w b)));
  }
  candidates v (in_condition w p local here k) = in_positive p here w k
  candidates v (by_equality w u l local here e h) = by_term w u l here e (assign (variables u) (λ w k. candidates w (h w k)))

  -- ---- whether some substitution satisfies

  module _ (vs : List Variable) (bound : (v : Variable) → v ∈ vs → IsBoundInside x c v) (within : condition_variables c ⊆ vs) where
    assigned : Assignments vs
    assigned = assign vs (λ v k. candidates v (bound v k))

    -- finitely many substitutions of which one agrees with each that satisfies, and satisfies itself
    pub attempts : (list : List Substitution)
        × ((t : Substitution) → Satisfies t → (m : Substitution) × (m ∈ list) × ((v : Variable) → v ∈ vs → m v ≡ t v) × Satisfies m)
    attempts = (
      map (λ (u : Substitution). joined vs u s) (assigned).list,
      λ t sat.
          let u = (assigned).all t sat in
          let m = joined vs u.0 s in
          let agrees : (v : Variable) → v ∈ vs → m v ≡ t v = λ v k. joined_in vs u.0 s v k ∙ u.2 v k in
          let extends : Extends (global_variables x) s m = Each-from (λ v. m v ≡ s v) (global_variables x) (λ v g. elim (is_or_not v vs) [
            | inl k ↦ agrees v k ∙ Each-at (λ v. t v ≡ s v) (global_variables x) v sat.0 g
            | inr out ↦ joined_out vs u.0 s v out
          ]) in
          let holds : Each (LiteralHolds m I) c = Each-from (LiteralHolds m I) c (λ l j. literal_same t m I l
          (same_by_variables t m (literal_terms l) (λ w k v here. agrees v (within v (in_condition_variables c l j w k v here))))
          (Each-at (LiteralHolds t I) c l sat.1 j)) in
          (m, ∈-map (λ (n : Substitution). joined vs n s) u.0 (assigned).list u.1, agrees, (extends, holds)),
    )

    module _ (Q : Substitution → Type 0) (decide : (t : Substitution) → Or (Q t))
        (kept : (t u : Substitution) → ((v : Variable) → v ∈ vs → u v ≡ t v) → Q t → Q u) where
      good_or_not : (t : Substitution) → Or (Satisfies t × Q t)
      good_or_not t = elim (extends_or_not (global_variables x) s t) [
        | inl e ↦ elim (each_or_not (LiteralHolds t I) (holds_or_not t I) c) [
          | inl h ↦ elim (decide t) [ inl q ↦ inl ((e, h), q) | inr none ↦ inr (λ k. none k.1) ]
          | inr none ↦ inr (λ k. none k.0.1)
        ]
        | inr none ↦ inr (λ k. none k.0.0)
      ]

      some_tried : (t : Substitution) → Satisfies t × Q t → AtLeastOne (λ u. Satisfies u × Q u) (attempts).0
      some_tried t k = let m = (attempts).1 t k.0 in AtLeastOne-from (λ n. Satisfies n × Q n) (attempts).0 m.0 m.1 (m.3, kept t m.0 m.2 k.1)

      pub some_or_none : Or ((t : Substitution) × Satisfies t × Q t)
      some_or_none = elim (any_or_none (λ u. Satisfies u × Q u) (attempts).0 (λ u k. good_or_not u)) [
        | inl h ↦ let f = AtLeastOne-at (λ u. Satisfies u × Q u) (attempts).0 h in inl (f.0, f.2.0, f.2.1)
        | inr none ↦ inr (λ k. none (some_tried k.0 (k.1, k.2)))
      ]
