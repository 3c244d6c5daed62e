-- What is bound in a statement is bound in its single rules, so that these are safe where it is.
use Rattle.std.proofs.Common.{◌≡◌, inl, inr, refl, sym, ap, subst, ◌∙◌, ℕ, zero, suc, Bool, true, false, List, [], ◌∷◌, ◌++◌, map, Option, Some, None}
use Rattle.lists.specs.Lists.{◌∈◌, ◌⊆◌, Each, concat}
use Rattle.lists.proofs.ListLemmas.{Each-at, Each-from, Each-append, ∈-append_left, ∈-append_right, ∈-append_cases, ∈-map, ∈-map_from}
use Rattle.asp_syntax.specs.declared.tree.CompareOp.TheVariants.{Equal}
use Rattle.asp_syntax.specs.declared.tree.Term.{Term}
use Rattle.asp_syntax.specs.declared.tree.Term.TheVariants as tree
use Rattle.asp_syntax.specs.declared.tree.Guard.{Guard}
use Rattle.asp_syntax.specs.declared.tree.Literal.{Literal}
use Rattle.asp_syntax.specs.declared.tree.Literal.TheVariants as literal
use Rattle.asp_syntax.specs.declared.tree.Element.{Element}
use Rattle.asp_syntax.specs.declared.tree.Item.{Item}
use Rattle.asp_syntax.specs.declared.tree.Item.TheVariants as item
use Rattle.asp_syntax.specs.declared.tree.Aggregate.{Aggregate}
use Rattle.asp_syntax.specs.declared.tree.ChoiceElement.{ChoiceElement}
use Rattle.asp_syntax.specs.declared.tree.Head.TheVariants as head
use Rattle.asp_syntax.specs.declared.tree.Statement.{Statement}
use Rattle.asp_meaning.specs.Terms.{Variable, anonymous}
use Rattle.asp_meaning.specs.Variables.{variables, literal_terms, guard_terms, item_terms, global_variables}
use Rattle.asp_safety.specs.Binding.{variables_of, literal_variables, condition_variables, element_variables, item_variables, outside_of, outside_arithmetic, IsEquation, IsBound, in_atom, by_equation, by_aggregate, IsBoundInside, global, in_condition, by_equality, Occurrence, occur, element_occurrences, choice_occurrences, guard_occurrences, item_occurrences, head_occurrences, IsBoundThere, IsSafe}
use Rattle.single_rules.specs.SingleRules.{as_statement}
use Rattle.single_rules.specs.Renaming.{new_name, renamed, renamed_atom, renamed_literal}
use Rattle.single_rules.specs.Signs.{variables_from, atom_over, sign_rule}
use Rattle.asp_strata.specs.declared.predicate.Predicate.{Predicate}
use Rattle.single_rules.specs.Splitting.{condition_item, element_rule, counted, count_of, bound_rule}
use Rattle.single_rules.proofs.Parts.{∈-concat_map, ∈-concat_map_from}
use Rattle.single_rules.proofs.Renamed.{variables_renamed, variables_of_renamed, outside_of_renamed, renamed_variable, variables_variable, variables_text, outside_variable, outside_of_within}
use Rattle.single_rules.proofs.Names.{global_stays, choice_variables}
use Rattle.single_rules.proofs.Wider.{inner_variables}
use Rattle.single_rules.proofs.BoundVariables.{equation_has, bound_in_body, body_global}
use Rattle.single_rules.proofs.ElementRules.{IsElement, apart, terms_renamed}

-- ---- a statement with a longer body

-- y has the body of x and perhaps more, and captures no variable in an aggregate of x
pub record IsLonger (x y : Statement) : Type 0 where
  pub body : x.body ⊆ y.body
  pub apart : (i : Item) → i ∈ x.body → (v : Variable) → v ∈ inner_variables i → v ∈ global_variables y → v ∈ global_variables x

module _ (x y : Statement) (longer : IsLonger x y) where
  -- what is bound in a statement is bound in one with a longer body
  pub bound_too : (v : Variable) → IsBound x v → IsBound y v
  bound_too v (in_atom w p here k) = in_atom w p (longer.body (item.Plain (literal.Positive p)) here) k
  bound_too v (by_equation w t l here e h) = by_equation w t l (longer.body (item.Plain l) here) e (λ u k. bound_too u (h u k))
  bound_too v (by_aggregate w g here e h) = by_aggregate w g (longer.body (item.Aggregate false g) here) e (λ u k j.
      bound_too u (h u k (longer.apart (item.Aggregate false g) here u k j)))

  -- and so inside elements whose variables are not captured
  pub inside_too : (c d : List Literal) → c ⊆ d
      → ((v : Variable) → v ∈ condition_variables c → v ∈ global_variables y → v ∈ global_variables x)
      → (v : Variable) → IsBoundInside x c v → IsBoundInside y d v
  inside_too c d more out v (global w b) = global w (bound_too w b)
  inside_too c d more out v (in_condition w p local here k) = in_condition w p
      (λ g. local (out w (∈-concat_map literal_variables (literal.Positive p) c w here (outside_of_within p.args w k)) g))
      (more (literal.Positive p) here) k
  inside_too c d more out v (by_equality w t l local here e h) = by_equality w t l
      (λ g. local (out w (∈-concat_map literal_variables l c w here (equation_has l w t e)) g)) (more l here) e
      (λ u k. inside_too c d more out u (h u k))

-- ---- occurrences

-- an occurrence outside elements
abbrev outside : Variable → Occurrence
outside v = record { within = None; variable = v }

-- an occurrence in an element with this condition
abbrev within : List Literal → Variable → Occurrence
within c v = record { within = Some c; variable = v }

-- each of these variables is bound at the place of the occurrence
each_occurs : (s : Statement) (place : Option (List Literal)) (vs : List Variable)
    → ((v : Variable) → v ∈ vs → IsBoundThere s (record { within = place; variable = v }))
    → Each (IsBoundThere s) (occur place vs)
each_occurs s place [] all = tt
each_occurs s place (v ∷ vs) all = (all v (inl refl), each_occurs s place vs (λ w k. all w (inr k)))

-- occurrences at one place are bound where each variable is bound there
pub occurs_each : (s : Statement) (place : Option (List Literal)) (vs : List Variable) → Each (IsBoundThere s) (occur place vs)
    → (v : Variable) → v ∈ vs → IsBoundThere s (record { within = place; variable = v })
occurs_each s place vs each v k = Each-at (IsBoundThere s) (occur place vs) (record { within = place; variable = v }) each
    (∈-map (λ w. record { within = place; variable = w }) v vs k)

-- those of a list of parts are bound where those of each part are
each_concat : {A : Type 0} (s : Statement) (f : A → List Occurrence) (xs : List A) → ((a : A) → a ∈ xs → Each (IsBoundThere s) (f a))
    → Each (IsBoundThere s) (concat (map f xs))
each_concat s f [] all = tt
each_concat s f (a ∷ xs) all =
    Each-append (IsBoundThere s) (f a) (concat (map f xs)) (all a (inl refl)) (each_concat s f xs (λ b k. all b (inr k)))

-- and back
pub concat_each : {A : Type 0} (s : Statement) (f : A → List Occurrence) (xs : List A) → Each (IsBoundThere s) (concat (map f xs)) → (a : A)
    → a ∈ xs → Each (IsBoundThere s) (f a)
concat_each s f xs each a k =
    Each-from (IsBoundThere s) (f a) (λ o j. Each-at (IsBoundThere s) (concat (map f xs)) o each (∈-concat_map f a xs o k j))

-- of two lists of occurrences the first one
pub front_each : (s : Statement) (xs ys : List Occurrence) → Each (IsBoundThere s) (xs ++ ys) → Each (IsBoundThere s) xs
front_each s xs ys each = Each-from (IsBoundThere s) xs (λ o k. Each-at (IsBoundThere s) (xs ++ ys) o each (∈-append_left o xs ys k))

-- and the second one
pub back_each : (s : Statement) (xs ys : List Occurrence) → Each (IsBoundThere s) (xs ++ ys) → Each (IsBoundThere s) ys
back_each s xs ys each = Each-from (IsBoundThere s) ys (λ o k. Each-at (IsBoundThere s) (xs ++ ys) o each (∈-append_right o xs ys k))

module _ (x y : Statement) (longer : IsLonger x y) where
  -- what is bound outside elements stays so
  outside_kept : (vs : List Variable) → Each (IsBoundThere x) (occur None vs) → Each (IsBoundThere y) (occur None vs)
  outside_kept vs each = each_occurs y None vs (λ v k. bound_too x y longer v (occurs_each x None vs each v k))

  -- the occurrences in an element of an aggregate stay bound
  element_kept : (denied : Bool) (g : Aggregate) → item.Aggregate denied g ∈ x.body → (e : Element) → e ∈ g.elements
      → Each (IsBoundThere x) (element_occurrences e)
      → Each (IsBoundThere y) (element_occurrences e)
  element_kept denied g among e k each = each_occurs y (Some e.condition) (element_variables e) (λ v j.
      inside_too x y longer e.condition e.condition (λ l i. i) (λ w h. longer.apart (item.Aggregate denied g) among w
      (∈-concat_map element_variables e g.elements w k (∈-append_right w (variables_of e.terms) (condition_variables e.condition) h)))
      v (occurs_each x (Some e.condition) (element_variables e) each v j))

  -- the occurrences in an item of the body are bound in the longer one
  item_kept : (i : Item) → i ∈ x.body → Each (IsBoundThere x) (item_occurrences i) → Each (IsBoundThere y) (item_occurrences i)
  item_kept (item.Plain l) among each = outside_kept (literal_variables l) each
  item_kept (item.Aggregate denied g) among each =
      let inner = concat (map element_occurrences g.elements) in
      let after = back_each x (guard_occurrences g.left) (inner ++ guard_occurrences g.right) each in
      Each-append (IsBoundThere y) (guard_occurrences g.left) (inner ++ guard_occurrences g.right)
      (outside_kept (variables_of (guard_terms g.left)) (front_each x (guard_occurrences g.left) (inner ++ guard_occurrences g.right) each))
      (Each-append (IsBoundThere y) inner (guard_occurrences g.right)
      (each_concat y element_occurrences g.elements (λ e k. element_kept denied g among e k
      (concat_each x element_occurrences g.elements (front_each x inner (guard_occurrences g.right) after) e k)))
      (outside_kept (variables_of (guard_terms g.right)) (back_each x inner (guard_occurrences g.right) after)))

  -- the occurrences in the body of a safe statement stay bound
  pub body_kept : IsSafe x → Each (IsBoundThere y) (concat (map item_occurrences x.body))
  body_kept safe = each_concat y item_occurrences x.body (λ i k. item_kept i k
      (concat_each x item_occurrences x.body (back_each x (head_occurrences x.head) (concat (map item_occurrences x.body)) safe) i k))

-- ---- the rule of an element

module _ (x : Statement) (e : ChoiceElement) (of : IsElement x e) where
  -- the new names
  abbrev r : Variable → Variable
  r = new_name x

  -- the rule of the element, as a statement
  abbrev rule : Statement
  rule = as_statement (element_rule x e)

  -- what its body has beside that of the statement
  abbrev added : List Item
  added = map (condition_item x) e.condition

  -- its body is longer than that of the statement
  pub rule_longer : IsLonger x rule
  rule_longer = record { body = λ i k. ∈-append_left i x.body added k; apart = apart x e of }

  -- each literal of the condition stands in it with new names
  literal_added : (l : Literal) → l ∈ e.condition → item.Plain (renamed_literal r l) ∈ rule.body
  literal_added l k = ∈-append_right (condition_item x l) x.body added (∈-map (condition_item x) l e.condition k)

  -- an equation with new names says what the new name of its variable is
  equation_renamed : (l : Literal) (v : Variable) (t : Term) → IsEquation l v t → IsEquation (renamed_literal r l) (r v) (renamed r t)
  equation_renamed l v t (inl h) = inl (ap (renamed_literal r) h ∙ ap (λ u. literal.Compare Equal u (renamed r t)) (renamed_variable r v))
  equation_renamed l v t (inr h) = inr (ap (renamed_literal r) h ∙ ap (λ u. literal.Compare Equal (renamed r t) u) (renamed_variable r v))

  -- what is bound in the element is bound in the rule under its new name
  new_bound : (v : Variable) → IsBoundInside x e.condition v → IsBound rule (r v)
  new_bound v (global w b) =
      subst (IsBound rule) (sym (global_stays x w (body_global x w (bound_in_body x w b)))) (bound_too x rule rule_longer w b)
  new_bound v (in_condition w p local here k) = in_atom (r w) (renamed_atom r p) (literal_added (literal.Positive p) here)
      (subst (λ vs. r w ∈ vs) (sym (outside_of_renamed r p.args)) (∈-map r w (outside_of p.args) k))
  new_bound v (by_equality w t l local here h needs) =
      by_equation (r w) (renamed r t) (renamed_literal r l) (literal_added l here) (equation_renamed l w t h) (λ u k.
      let f = ∈-map_from r u (variables t) (subst (λ vs. u ∈ vs) (variables_renamed r t) k) in
      subst (IsBound rule) (sym f.2) (new_bound f.0 (needs f.0 f.1)))

  -- each variable of the element is bound inside it
  pub element_occurs : (v : Variable) → v ∈ choice_variables e → IsBoundInside x e.condition v
  element_occurs v k = occurs_each x (Some e.condition) (choice_variables e)
      (concat_each x choice_occurrences of.elements
      (front_each x (concat (map choice_occurrences of.elements)) (guard_occurrences of.right)
      (back_each x (guard_occurrences of.left) (concat (map choice_occurrences of.elements) ++ guard_occurrences of.right)
      (subst (λ h. Each (IsBoundThere x) (head_occurrences h)) of.is
      (front_each x (head_occurrences x.head) (concat (map item_occurrences x.body)) of.safe))))
      e of.among) v k

  -- the variables of renamed terms of the element are bound in its rule
  renamed_bound : (ts : List Term) → ((v : Variable) → v ∈ variables_of ts → v ∈ choice_variables e) → (u : Variable)
      → u ∈ variables_of (map (renamed r) ts) → IsBound rule u
  renamed_bound ts all u k =
      let f = ∈-map_from r u (variables_of ts) (subst (λ vs. u ∈ vs) (variables_of_renamed r ts) k) in
      subst (IsBound rule) (sym f.2) (new_bound f.0 (element_occurs f.0 (all f.0 f.1)))

  -- and so are those of its renamed condition
  condition_bound : (l : Literal) → l ∈ e.condition → (u : Variable) → u ∈ literal_variables (renamed_literal r l) → IsBound rule u
  condition_bound l k u j = renamed_bound (literal_terms l)
      (λ v h. ∈-append_right v (variables_of e.atom.args) (condition_variables e.condition)
      (∈-concat_map literal_variables l e.condition v k h))
      u (subst (λ ts. u ∈ variables_of ts) (terms_renamed r l) j)

  -- so the rule is safe
  pub element_rule_safe : IsSafe rule
  element_rule_safe =
      Each-append (IsBoundThere rule) (occur None (variables_of (map (renamed r) e.atom.args)))
      (concat (map item_occurrences (x.body ++ added)))
      (each_occurs rule None (variables_of (map (renamed r) e.atom.args))
      (renamed_bound e.atom.args (λ v h. ∈-append_left v (variables_of e.atom.args) (condition_variables e.condition) h)))
      (each_concat rule item_occurrences (x.body ++ added) (λ i k. elim (∈-append_cases i x.body added k) [
        | inl j ↦ concat_each rule item_occurrences x.body (body_kept x rule rule_longer of.safe) i j
        | inr j ↦ let f = ∈-map_from (condition_item x) i e.condition j in
            subst (λ a. Each (IsBoundThere rule) (item_occurrences a)) (sym f.2)
            (each_occurs rule None (literal_variables (renamed_literal r f.0)) (condition_bound f.0 f.1))
      ]))

-- ---- the constraint for bounds

module _ (x : Statement) (safe : IsSafe x) (left right : Option Guard) (elements : List ChoiceElement)
    (is : x.head ≡ head.Choice left elements right) where
  -- the count of the chosen atoms
  abbrev count : Aggregate
  count = count_of left elements right

  -- the constraint for the bounds, as a statement
  abbrev bound : Statement
  bound = as_statement (bound_rule x count)

  -- what occurs in the head of the statement is bound there
  guards_occur : Each (IsBoundThere x) (guard_occurrences left)
      × (Each (IsBoundThere x) (concat (map choice_occurrences elements)) × Each (IsBoundThere x) (guard_occurrences right))
  guards_occur =
      let whole = subst (λ h. Each (IsBoundThere x) (head_occurrences h)) is
      (front_each x (head_occurrences x.head) (concat (map item_occurrences x.body)) safe) in
      let inner = concat (map choice_occurrences elements) in
      let after = back_each x (guard_occurrences left) (inner ++ guard_occurrences right) whole in (
        front_each x (guard_occurrences left) (inner ++ guard_occurrences right) whole,
        (front_each x inner (guard_occurrences right) after, back_each x inner (guard_occurrences right) after),
      )

  -- a variable of a guard is global
  guard_global : (g : Option Guard) → Each (IsBoundThere x) (guard_occurrences g) → (v : Variable) → v ∈ variables_of (guard_terms g)
      → v ∈ global_variables x
  guard_global g each v k = body_global x v (bound_in_body x v (occurs_each x None (variables_of (guard_terms g)) each v k))

  -- a global variable of the constraint is one of the statement
  pub bound_globals : (v : Variable) → v ∈ global_variables bound → v ∈ global_variables x
  bound_globals v k =
      let f = ∈-concat_map_from variables (concat (map item_terms (x.body ++ item.Aggregate true count ∷ []))) v k in
      let g = ∈-concat_map_from item_terms (x.body ++ item.Aggregate true count ∷ []) f.0 f.1 in
      elim (∈-append_cases g.0 x.body (item.Aggregate true count ∷ []) g.1) [
        | inl j ↦ body_global x v (∈-concat_map item_variables g.0 x.body v j (∈-concat_map variables f.0 (item_terms g.0) v g.2 f.2))
        | inr j ↦ elim j [
          | inl same ↦ elim (∈-append_cases f.0 (guard_terms left) (guard_terms right) (subst (λ i. f.0 ∈ item_terms i) same g.2)) [
            | inl h ↦ guard_global left guards_occur.0 v (∈-concat_map variables f.0 (guard_terms left) v h f.2)
            | inr h ↦ guard_global right guards_occur.1.1 v (∈-concat_map variables f.0 (guard_terms right) v h f.2)
          ]
          | inr none ↦ absurd none
        ]
      ]

  -- the constraint has a longer body than the statement
  pub bound_longer : IsLonger x bound
  bound_longer =
      record { body = λ i k. ∈-append_left i x.body (item.Aggregate true count ∷ []) k; apart = λ i k v here g. bound_globals v g }

  -- a text has no variables
  text_variables : (t : List ℕ) (v : Variable) → ¬ (v ∈ variables (tree.Text t))
  text_variables t v k = subst (λ vs. v ∈ vs) (variables_text t) k

  -- a variable of a counted tuple is one of the element
  counted_variable : (e : ChoiceElement) (v : Variable) → v ∈ element_variables (counted e) → v ∈ choice_variables e
  counted_variable e v k =
      elim (∈-append_cases v (variables (tree.Text _) ++ variables_of e.atom.args)
      (variables_of e.atom.args ++ condition_variables e.condition) k) [
        | inl j ↦ elim (∈-append_cases v (variables (tree.Text _)) (variables_of e.atom.args) j) [
          | inl h ↦ absurd (text_variables _ v h)
          | inr h ↦ ∈-append_left v (variables_of e.atom.args) (condition_variables e.condition) h
        ]
        | inr j ↦ j
      ]

  -- and is bound inside it
  counted_bound : (e : ChoiceElement) → e ∈ elements → (v : Variable) → v ∈ element_variables (counted e)
      → IsBoundInside bound (literal.Positive e.atom ∷ e.condition) v
  counted_bound e k v j =
      inside_too x bound bound_longer e.condition (literal.Positive e.atom ∷ e.condition) (λ l h. inr h) (λ w h g. bound_globals w g) v
      (occurs_each x (Some e.condition) (choice_variables e) (concat_each x choice_occurrences elements guards_occur.1.0 e k) v
      (counted_variable e v j))

  -- so all that occurs in the count is bound
  counted_occurs : Each (IsBoundThere bound) (concat (map element_occurrences (map counted elements)))
  counted_occurs = each_concat bound element_occurrences (map counted elements) (λ a k.
      let f = ∈-map_from counted a elements k in
      subst (λ b. Each (IsBoundThere bound) (element_occurrences b)) (sym f.2)
      (each_occurs bound (Some (literal.Positive f.0.atom ∷ f.0.condition)) (element_variables (counted f.0)) (counted_bound f.0 f.1)))

  -- and the constraint is safe
  pub bound_rule_safe : IsSafe bound
  bound_rule_safe =
      each_concat bound item_occurrences (x.body ++ item.Aggregate true count ∷ [])
      (λ i k. elim (∈-append_cases i x.body (item.Aggregate true count ∷ []) k) [
        | inl j ↦ concat_each bound item_occurrences x.body (body_kept x bound bound_longer safe) i j
        | inr j ↦ elim j [
          | inl same ↦ subst (λ a. Each (IsBoundThere bound) (item_occurrences a)) (sym same)
              (Each-append (IsBoundThere bound) (guard_occurrences left)
              (concat (map element_occurrences (map counted elements)) ++ guard_occurrences right)
              (outside_kept x bound bound_longer (variables_of (guard_terms left)) guards_occur.0)
              (Each-append (IsBoundThere bound) (concat (map element_occurrences (map counted elements))) (guard_occurrences right)
              counted_occurs (outside_kept x bound bound_longer (variables_of (guard_terms right)) guards_occur.1.1)))
          | inr none ↦ absurd none
        ]
      ])

-- ---- the constraint for both signs

-- each of the variables stands outside arithmetic
from_outside : (k n : ℕ) (v : Variable) → v ∈ variables_of (variables_from k n) → v ∈ outside_of (variables_from k n)
from_outside k zero v h = absurd h
from_outside k (suc n) v h = elim (∈-append_cases v (variables (tree.Anonymous k)) (variables_of (variables_from (suc k) n)) h) [
  | inl j ↦ ∈-append_left v (outside_arithmetic (tree.Anonymous k)) (outside_of (variables_from (suc k) n))
      (subst (λ vs. v ∈ vs) (variables_variable (anonymous k) ∙ sym (outside_variable (anonymous k))) j)
  | inr j ↦ ∈-append_right v (outside_arithmetic (tree.Anonymous k)) (outside_of (variables_from (suc k) n)) (from_outside (suc k) n v j)
]

-- the constraint for both signs is safe
pub sign_rule_safe : (p : Predicate) → IsSafe (as_statement (sign_rule p))
sign_rule_safe p =
    let y = as_statement (sign_rule p) in
    let ts = variables_from 0 p.arity in
    let one = each_occurs y None (variables_of ts)
    (λ v k. in_atom v (atom_over false p.name p.arity) (inl refl) (from_outside 0 p.arity v k)) in
    Each-append (IsBoundThere y) (occur None (variables_of ts)) (occur None (variables_of ts) ++ []) one
    (Each-append (IsBoundThere y) (occur None (variables_of ts)) [] one tt)
