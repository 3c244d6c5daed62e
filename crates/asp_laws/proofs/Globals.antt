-- Substitutions that agree on the global variables make the same instance.
use Rattle.std.proofs.Common.{◌≡◌, inl, inr, refl, sym, ap, subst, ◌∙◌, ℤ, pos, true, false, List, [], ◌∷◌, ◌++◌, map, Option, Some, None}
use Rattle.alpha_outside.specs.declared.kinds.ArithOp.TheVariants.{Sub}
use Rattle.lists.specs.Lists.{◌∈◌, Each, concat}
use Rattle.lists.proofs.ListLemmas.{Each-at, Each-from, Each-map, AtLeastOne-map, ∈-append_left, ∈-append_right, ∈-map, ∈-concat}
use Rattle.asp_syntax.specs.declared.tree.Atom as syntax
use Rattle.asp_syntax.specs.declared.tree.Aggregate.{Aggregate}
use Rattle.asp_syntax.specs.declared.tree.Element.{Element}
use Rattle.asp_syntax.specs.declared.tree.Guard.{Guard}
use Rattle.asp_syntax.specs.declared.tree.Head.{Head}
use Rattle.asp_syntax.specs.declared.tree.Head.TheVariants as head
use Rattle.asp_syntax.specs.declared.tree.Item.{Item}
use Rattle.asp_syntax.specs.declared.tree.Item.TheVariants as item
use Rattle.asp_syntax.specs.declared.tree.Literal.{Literal}
use Rattle.asp_syntax.specs.declared.tree.Literal.TheVariants as literal
use Rattle.asp_syntax.specs.declared.tree.Statement.{Statement}
use Rattle.asp_syntax.specs.declared.tree.Term.{Term, map-Term}
use Rattle.asp_syntax.specs.declared.tree.Term.TheOpen.{Term-F}
use Rattle.asp_syntax.specs.declared.tree.Term.TheOpen as layer
use Rattle.asp_syntax.specs.declared.tree.Term.TheViews.{roll-Term}
use Rattle.asp_syntax.specs.declared.tree.Term.TheFolds.{fold-roll-Term, ind-Term}
use Rattle.asp_meaning.specs.declared.value.Value.{Value}
use Rattle.asp_meaning.specs.declared.value.Value.TheVariants as value
use Rattle.asp_meaning.specs.Terms.{Variable, named, anonymous, Substitution, all_of, functional_of, operation, eval, eval_step, eval_all}
use Rattle.asp_meaning.specs.Variables.{variables, variables_step, literal_terms, guard_terms, item_terms, head_terms, global_terms, global_variables}
use Rattle.asp_meaning.specs.Atoms.{Atom, Becomes}
use Rattle.asp_meaning.specs.Bodies.{LiteralHolds, Extends, Gives, IsExtent, LeftHolds, RightHolds, GuardsHold, ItemHolds, total}
use Rattle.asp_meaning.specs.Programs.{HasValue, IsInstance, BodyHolds, Offers, Rests, ItemRests, HeadGives, LicensesFrom, AreChosen, BoundHolds, HeadIsMet}
use Rattle.asp_laws.specs.Laws.{OnlyGlobalVariablesMatter}

-- ---- terms

module _ (s t : Substitution) where
  abbrev Agree : List Variable → Type 0
  Agree vs = (v : Variable) → v ∈ vs → t v ≡ s v

  abbrev Same : Term → Type 0
  Same u = Agree (variables u) → eval t u ≡ eval s u

  args_same : (es : List ((u : Term) × Same u)) → Agree (concat (map variables (map (λ e. e.0) es))) → map (eval t) (map (λ e. e.0) es) ≡ map (eval s) (map (λ e. e.0) es)
  args_same [] h = refl
  args_same (e ∷ es) h =
      let first = e.1 (λ v k. h v (∈-append_left v (variables e.0) _ k)) in
      let rest = args_same es (λ v k. h v (∈-append_right v (variables e.0) _ k)) in
      λ i. first i ∷ rest i

  layer_same : (y : Term-F ((u : Term) × Same u)) → Agree (variables_step (map-Term Term (List Variable) variables (map-Term ((u : Term) × Same u) Term (λ e. e.0) y)))
      → eval_step t (map-Term Term (Option Value) (eval t) (map-Term ((u : Term) × Same u) Term (λ e. e.0) y)) ≡ eval_step s (map-Term Term (Option Value) (eval s) (map-Term ((u : Term) × Same u) Term (λ e. e.0) y))
  layer_same (layer.Int n) h = refl
  layer_same (layer.Variable x) h = ap (λ v. Some v) (h (named x) (inl refl))
  layer_same (layer.Anonymous k) h = ap (λ v. Some v) (h (anonymous k) (inl refl))
  layer_same (layer.Symbol x) h = refl
  layer_same (layer.Text x) h = refl
  layer_same (layer.Fun f args) h = ap (λ xs. functional_of f (all_of xs)) (args_same args h)
  layer_same (layer.Minus u) h = ap (λ x. operation Sub (Some (value.Int (pos 0))) x) (u.1 h)
  layer_same (layer.Arith op l r) h =
      let a = l.1 (λ v k. h v (∈-append_left v (variables l.0) (variables r.0) k)) in
      let b = r.1 (λ v k. h v (∈-append_right v (variables l.0) (variables r.0) k)) in
      λ i. operation op (a i) (b i)

  pub eval_same : (u : Term) → ((v : Variable) → v ∈ variables u → t v ≡ s v) → eval t u ≡ eval s u
  eval_same = ind-Term Same (λ x y is.
      subst (λ z. Same (roll-Term z)) is (λ h.
      let part = map-Term ((u : Term) × Same u) Term (λ e. e.0) y in
      fold-roll-Term (Option Value) (eval_step t) part
      ∙ layer_same y (λ v k. h v (subst (λ vs. v ∈ vs) (sym (fold-roll-Term (List Variable) variables_step part)) k))
      ∙ sym (fold-roll-Term (Option Value) (eval_step s) part)))

-- each of these terms has the same value
abbrev pub AreSame : Substitution → Substitution → List Term → Type 0
AreSame s t ts = (u : Term) → u ∈ ts → eval t u ≡ eval s u

pub turn : (s t : Substitution) (ts : List Term) → AreSame s t ts → AreSame t s ts
turn s t ts h u k = sym (h u k)

pub all_same : (s t : Substitution) (ts : List Term) → AreSame s t ts → eval_all t ts ≡ eval_all s ts
all_same s t ts h = ap all_of (values ts h)
  where
    values : (us : List Term) → AreSame s t us → map (eval t) us ≡ map (eval s) us
    values [] h = refl
    values (u ∷ us) h = let first = h u (inl refl) in let rest = values us (λ w k. h w (inr k)) in λ i. first i ∷ rest i

globals_same : (r : Statement) (s t : Substitution) → Extends (global_variables r) s t → AreSame s t (global_terms r)
globals_same r s t h u among = eval_same s t u (λ v k.
    Each-at (λ v. t v ≡ s v) (global_variables r) v h (∈-concat v (variables u) (map variables (global_terms r)) k (∈-map variables u (global_terms r) among)))

head_same : (r : Statement) (s t : Substitution) → AreSame s t (global_terms r) → AreSame s t (head_terms r.head)
head_same r s t h u k = h u (∈-append_left u (head_terms r.head) (concat (map item_terms r.body)) k)

item_same : (r : Statement) (s t : Substitution) → AreSame s t (global_terms r) → (i : Item) → i ∈ r.body → AreSame s t (item_terms i)
item_same r s t h i among u k =
    h u (∈-append_right u (head_terms r.head) (concat (map item_terms r.body)) (∈-concat u (item_terms i) (map item_terms r.body) k (∈-map item_terms i r.body among)))

-- ---- bodies

pub becomes_same : (s t : Substitution) (p : syntax.Atom) (a : Atom) → AreSame s t p.args → Becomes s p a → Becomes t p a
becomes_same s t p a h b = (b.0, b.1, all_same s t p.args h ∙ b.2)

pub literal_same : (s t : Substitution) (I : List Atom) (l : Literal) → AreSame s t (literal_terms l) → LiteralHolds s I l → LiteralHolds t I l
literal_same s t I (literal.Positive p) h k = (k.0, becomes_same s t p k.0 h k.1, k.2)
literal_same s t I (literal.Negative p) h k = (k.0, becomes_same s t p k.0 h k.1, k.2)
literal_same s t I (literal.Compare op l r) h k = (k.0, k.1, h l (inl refl) ∙ k.2, h r (inr (inl refl)) ∙ k.3, k.4)

pub rests_same : (s t : Substitution) (earlier : List Atom) (l : Literal) → AreSame s t (literal_terms l) → Rests s earlier l → Rests t earlier l
rests_same s t earlier (literal.Positive p) h k = (k.0, becomes_same s t p k.0 h k.1, k.2)
rests_same s t earlier (literal.Negative p) h k = tt
rests_same s t earlier (literal.Compare op l r) h k = tt

item_rests_same : (s t : Substitution) (earlier : List Atom) (i : Item) → AreSame s t (item_terms i) → ItemRests s earlier i → ItemRests t earlier i
item_rests_same s t earlier (item.Plain l) h k = rests_same s t earlier l h k
item_rests_same s t earlier (item.Aggregate denied g) h k = tt

-- an extension of one is one of the other
extends_other : (globals : List Variable) (s t u : Substitution) → Extends globals s t → Extends globals s u → Extends globals t u
extends_other globals s t u h k = Each-from (λ v. u v ≡ t v) globals (λ v among.
    Each-at (λ v. u v ≡ s v) globals v k among ∙ sym (Each-at (λ v. t v ≡ s v) globals v h among))

extends_turn : (globals : List Variable) (s t : Substitution) → Extends globals s t → Extends globals t s
extends_turn globals s t h = Each-map (λ v. t v ≡ s v) (λ v. s v ≡ t v) (λ v e. sym e) globals h

gives_same : (globals : List Variable) (s t : Substitution) (I : List Atom) → Extends globals s t → (tuple : List Value) (e : Element) → Gives globals s I tuple e → Gives globals t I tuple e
gives_same globals s t I h tuple e k = (k.0, extends_other globals s t k.0 h k.1, k.2, k.3)

extent_same : (globals : List Variable) (s t : Substitution) (I : List Atom) → Extends globals s t → (g : Aggregate) (tuples : List (List Value)) → IsExtent globals s I g tuples
    → IsExtent globals t I g tuples
extent_same globals s t I h g tuples k = record {
  once = k.once;
  given = λ x j. AtLeastOne-map (Gives globals s I x) (Gives globals t I x) (gives_same globals s t I h x) g.elements (k.given x j);
  all_given = λ x j. k.all_given x (AtLeastOne-map (Gives globals t I x) (Gives globals s I x) (gives_same globals t s I (extends_turn globals s t h) x) g.elements j);
}

pub left_same : (s t : Substitution) (n : ℤ) (o : Option Guard) → AreSame s t (guard_terms o) → LeftHolds s n o → LeftHolds t n o
left_same s t n None h k = tt
left_same s t n (Some g) h k = (k.0, h g.term (inl refl) ∙ k.1, k.2)

pub right_same : (s t : Substitution) (n : ℤ) (o : Option Guard) → AreSame s t (guard_terms o) → RightHolds s n o → RightHolds t n o
right_same s t n None h k = tt
right_same s t n (Some g) h k = (k.0, h g.term (inl refl) ∙ k.1, k.2)

pub guards_same : (s t : Substitution) (n : ℤ) (g : Aggregate) → AreSame s t (guard_terms g.left ++ guard_terms g.right) → GuardsHold s n g → GuardsHold t n g
guards_same s t n g h k = (
  left_same s t n g.left (λ u j. h u (∈-append_left u (guard_terms g.left) (guard_terms g.right) j)) k.0,
  right_same s t n g.right (λ u j. h u (∈-append_right u (guard_terms g.left) (guard_terms g.right) j)) k.1,
)

holds_same : (globals : List Variable) (s t : Substitution) (I : List Atom) → Extends globals s t → (i : Item) → AreSame s t (item_terms i) → ItemHolds globals s I i → ItemHolds globals t I i
holds_same globals s t I e (item.Plain l) h k = literal_same s t I l h k
holds_same globals s t I e (item.Aggregate false g) h k = (k.0, extent_same globals s t I e g k.0 k.1, guards_same s t (total g.kind k.0) g h k.2)
holds_same globals s t I e (item.Aggregate true g) h k =
    (k.0, extent_same globals s t I e g k.0 k.1, λ j. k.2 (guards_same t s (total g.kind k.0) g (turn s t (item_terms (item.Aggregate true g)) h) j))

body_same : (r : Statement) (s t : Substitution) (I : List Atom) → Extends (global_variables r) s t → BodyHolds r s I → BodyHolds r t I
body_same r s t I e k = Each-from (ItemHolds (global_variables r) t I) r.body (λ i among.
    holds_same (global_variables r) s t I e i (item_same r s t (globals_same r s t e) i among) (Each-at (ItemHolds (global_variables r) s I) r.body i k among))

-- ---- instances and licences

instance_same : (r : Statement) (s t : Substitution) → Extends (global_variables r) s t → IsInstance r s → IsInstance r t
instance_same r s t e k = Each-from (HasValue t) (global_terms r) (λ u among.
    let v = Each-at (HasValue s) (global_terms r) u k among in (v.0, globals_same r s t e u among ∙ v.1))

head_gives_same : (globals : List Variable) (s t : Substitution) (I earlier : List Atom) (a : Atom) → Extends globals s t → (h : Head) → AreSame s t (head_terms h)
    → HeadGives globals s I earlier a h → HeadGives globals t I earlier a h
head_gives_same globals s t I earlier a e head.Absent same k = k
head_gives_same globals s t I earlier a e (head.Single p) same k = becomes_same s t p a same k
head_gives_same globals s t I earlier a e (head.Choice left elements right) same k = (
  k.0,
  AtLeastOne-map (λ c. Offers globals s I a k.0 c × Each (Rests k.0 earlier) c.condition) (λ c. Offers globals t I a k.0 c × Each (Rests k.0 earlier) c.condition)
      (λ c o. ((extends_other globals s t k.0 e o.0.0, o.0.1, o.0.2), o.1)) elements k.1,
)

licenses_same : (r : Statement) (s t : Substitution) (a : Atom) (I earlier : List Atom) → Extends (global_variables r) s t → LicensesFrom r s a I earlier → LicensesFrom r t a I earlier
licenses_same r s t a I earlier e k = record {
  instance = instance_same r s t e k.instance;
  body = body_same r s t I e k.body;
  head = head_gives_same (global_variables r) s t I earlier a e r.head (head_same r s t (globals_same r s t e)) k.head;
  rests = Each-from (ItemRests t earlier) r.body (λ i among.
      item_rests_same s t earlier i (item_same r s t (globals_same r s t e) i among) (Each-at (ItemRests s earlier) r.body i k.rests among));
}

chosen_same : (r : Statement) (s t : Substitution) (I chosen : List Atom) → Extends (global_variables r) s t → AreChosen r s I chosen → AreChosen r t I chosen
chosen_same r s t I chosen e k = record {
  once = k.once;
  sound = λ a j. let f = k.sound a j in (f.0, licenses_same r s t a I I e f.1);
  complete = λ a j l. k.complete a j (licenses_same r t s a I I (extends_turn (global_variables r) s t e) l);
}

bound_same : (r : Statement) (s t : Substitution) (I : List Atom) → Extends (global_variables r) s t → (Of : Substitution → ℤ → Option Guard → Type 0) (o : Option Guard)
    → ((n : ℤ) → Of s n o → Of t n o) → BoundHolds r s I (Of s) o → BoundHolds r t I (Of t) o
bound_same r s t I e Of None more k = tt
bound_same r s t I e Of (Some g) more k = (k.0, chosen_same r s t I k.0 e k.1, more _ k.2)

met_same : (r : Statement) (s t : Substitution) (I : List Atom) → Extends (global_variables r) s t → (h : Head) → AreSame s t (head_terms h) → HeadIsMet r s I h → HeadIsMet r t I h
met_same r s t I e head.Absent same k = k
met_same r s t I e (head.Single p) same k = λ a b. k a (becomes_same t s p a (turn s t p.args same) b)
met_same r s t I e (head.Choice left elements right) same k = (
  bound_same r s t I e LeftHolds left (λ n. left_same s t n left (λ u j. same u (∈-append_left u (guard_terms left) (guard_terms right) j))) k.0,
  bound_same r s t I e RightHolds right (λ n. right_same s t n right (λ u j. same u (∈-append_right u (guard_terms left) (guard_terms right) j))) k.1,
)

pub only_global_variables_matter : OnlyGlobalVariablesMatter
only_global_variables_matter r s t I e = (
  instance_same r s t e,
  body_same r s t I e,
  met_same r s t I e r.head (head_same r s t (globals_same r s t e)),
  (λ a earlier. licenses_same r s t a I earlier e),
)
