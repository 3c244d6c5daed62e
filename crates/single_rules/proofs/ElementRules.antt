-- The rule of an element of a choice: what its instances are, by those of the statement.
use Rattle.std.proofs.Common.{◌≡◌, ◌⊎◌, inl, inr, refl, sym, ap, subst, ◌∙◌, Bool, true, false, true≢false, cond, List, [], ◌∷◌, ◌++◌, map, Option}
use Rattle.lists.specs.Lists.{◌∈◌, ◌⊆◌, Each, concat}
use Rattle.lists.proofs.ListLemmas.{Each-at, Each-from, Each-append, ∈-append_left, ∈-append_right, ∈-append_cases, ∈-map, ∈-map_from}
use Rattle.asp_syntax.specs.declared.tree.Term.{Term}
use Rattle.asp_syntax.specs.declared.tree.Guard.{Guard}
use Rattle.asp_syntax.specs.declared.tree.Literal.{Literal}
use Rattle.asp_syntax.specs.declared.tree.Literal.TheVariants as literal
use Rattle.asp_syntax.specs.declared.tree.Item.{Item}
use Rattle.asp_syntax.specs.declared.tree.Item.TheVariants as item
use Rattle.asp_syntax.specs.declared.tree.ChoiceElement.{ChoiceElement}
use Rattle.asp_syntax.specs.declared.tree.Head.TheVariants as head
use Rattle.asp_syntax.specs.declared.tree.Statement.{Statement}
use Rattle.asp_meaning.specs.Terms.{Variable, Substitution, eval}
use Rattle.asp_meaning.specs.Variables.{variables, literal_terms, item_terms, head_terms, global_terms, global_variables}
use Rattle.asp_meaning.specs.Atoms.{Atom, Becomes}
use Rattle.asp_meaning.specs.Bodies.{LiteralHolds, Extends, ItemHolds}
use Rattle.asp_meaning.specs.Programs.{HasValue, IsInstance, BodyHolds, Offers, Rests, ItemRests, HeadGives}
use Rattle.asp_laws.proofs.Globals.{eval_same, AreSame, rests_same}
use Rattle.asp_safety.specs.Keys.{variable_eq}
use Rattle.asp_safety.specs.KeyLaws.{variable_same, variable_itself}
use Rattle.asp_safety.specs.Binding.{variables_of, literal_variables, condition_variables, item_variables, IsSafe}
use Rattle.single_rules.specs.SingleRules.{as_statement}
use Rattle.single_rules.specs.AnswerSets.{LicensesSingly}
use Rattle.single_rules.specs.Renaming.{all_variables, new_name, renamed, renamed_literal}
use Rattle.single_rules.specs.Splitting.{condition_item, element_rule}
use Rattle.single_rules.proofs.Parts.{∈-concat_map, ∈-concat_map_from}
use Rattle.single_rules.proofs.Renamed.{eval_renamed, variables_renamed}
use Rattle.single_rules.proofs.Names.{is_or_not, global_stays, local_apart, globals_among, aggregate_among, choice_variables, choice_among, new_name_same}
use Rattle.single_rules.proofs.Values.{same_by_variables, AreCarried, becomes_to, becomes_back, literal_to, literal_back, rests_to, rests_back, becomes_values, literal_values}
use Rattle.single_rules.proofs.Wider.{IsWider, inner_variables, item_to, item_back}
use Rattle.single_rules.proofs.BoundVariables.{body_global, global_in_body}

-- ---- carrying values over to new names

-- under its new name each of these variables has its value in t, and all others that in s
abbrev carried : (Variable → Variable) → List Variable → Substitution → Substitution → Substitution
carried r [] t s v = s v
carried r (w ∷ ws) t s v = cond (variable_eq (r w) v) (t w) (carried r ws t s v)

-- the new name of one of these variables has its old value, where no other one of them gets that name
carried_at : (r : Variable → Variable) (ws : List Variable) (t s : Substitution) (v : Variable) → v ∈ ws
    → ((w : Variable) → w ∈ ws → r w ≡ r v → w ≡ v)
    → carried r ws t s (r v) ≡ t v
carried_at r [] t s v among same = absurd among
carried_at r (w ∷ ws) t s v among same = by_case (variable_eq (r w) (r v)) refl (carried_at r ws t s v)
  where
    by_case : (b : Bool) → variable_eq (r w) (r v) ≡ b
        → (v ∈ ws → ((w : Variable) → w ∈ ws → r w ≡ r v → w ≡ v) → carried r ws t s (r v) ≡ t v)
        → cond b (t w) (carried r ws t s (r v)) ≡ t v
    by_case true e later = ap t (same w (inl refl) (variable_same (r w) (r v) e))
    by_case false e later = elim among [
      | inl is ↦ absurd (true≢false (sym (variable_itself (r v)) ∙ ap (λ x. variable_eq (r x) (r v)) is ∙ e))
      | inr k ↦ later k (λ u j. same u (inr j))
    ]

-- any other variable keeps its value
carried_other : (r : Variable → Variable) (ws : List Variable) (t s : Substitution) (v : Variable)
    → ((w : Variable) → w ∈ ws → r w ≡ v → t w ≡ s v)
    → carried r ws t s v ≡ s v
carried_other r [] t s v same = refl
carried_other r (w ∷ ws) t s v same = by_case (variable_eq (r w) v) refl (carried_other r ws t s v (λ u j. same u (inr j)))
  where
    by_case : (b : Bool) → variable_eq (r w) v ≡ b → carried r ws t s v ≡ s v → cond b (t w) (carried r ws t s v) ≡ s v
    by_case true e later = same w (inl refl) (variable_same (r w) v e)
    by_case false e later = later

-- ---- the terms of the rule

-- the terms of a literal with other names
pub terms_renamed : (r : Variable → Variable) (l : Literal) → literal_terms (renamed_literal r l) ≡ map (renamed r) (literal_terms l)
terms_renamed r (literal.Positive p) = refl
terms_renamed r (literal.Negative p) = refl
terms_renamed r (literal.Compare op x y) = refl

-- a statement whose head is a choice, and an element of it
pub record IsElement (x : Statement) (e : ChoiceElement) : Type 0 where
  pub safe : IsSafe x
  pub left : Option Guard
  pub right : Option Guard
  pub elements : List ChoiceElement
  pub is : x.head ≡ head.Choice left elements right
  pub among : e ∈ elements

module _ (x : Statement) (e : ChoiceElement) (of : IsElement x e) where
  -- the new names
  abbrev r : Variable → Variable
  r = new_name x

  -- the rule of the element, as a statement
  abbrev rule : Statement
  rule = as_statement (element_rule x e)

  -- what its body has beside that of the statement
  abbrev added : List Item
  added = map (condition_item x) e.condition

  -- where a term of the rule stands
  data Stands (u : Term) : Type 0 where
    in_head : (t : Term) → t ∈ e.atom.args → u ≡ renamed r t → Stands u
    in_body : (i : Item) → i ∈ x.body → u ∈ item_terms i → Stands u
    in_condition : (l : Literal) → l ∈ e.condition → (t : Term) → t ∈ literal_terms l → u ≡ renamed r t → Stands u

  -- its terms outside elements stand in the statement, or are renamed ones of the element
  stands : (u : Term) → u ∈ global_terms rule → Stands u
  stands u k = elim (∈-append_cases u (map (renamed r) e.atom.args) (concat (map item_terms (x.body ++ added))) k) [
    | inl h ↦ let f = ∈-map_from (renamed r) u e.atom.args h in in_head f.0 f.1 f.2
    | inr h ↦
        let f = ∈-concat_map_from item_terms (x.body ++ added) u h in
        elim (∈-append_cases f.0 x.body added f.1) [
          | inl j ↦ in_body f.0 j f.2
          | inr j ↦
              let g = ∈-map_from (condition_item x) f.0 e.condition j in
              let m = ∈-map_from (renamed r) u (literal_terms g.0) (subst (λ ts. u ∈ ts) (ap item_terms g.2 ∙ terms_renamed r g.0) f.2) in
              in_condition g.0 g.1 m.0 m.1 m.2
        ]
  ]

  -- a variable of a renamed term is the new name of one of the term's variables
  of_renamed : (t u : Term) (v : Variable) → u ≡ renamed r t → v ∈ variables u → (w : Variable) × (w ∈ variables t) × (v ≡ r w)
  of_renamed t u v is here = ∈-map_from r v (variables t) (subst (λ vs. v ∈ vs) (ap variables is ∙ variables_renamed r t) here)

  -- a variable of the element's atom is one of the element
  argument_variable : (t : Term) → t ∈ e.atom.args → (w : Variable) → w ∈ variables t → w ∈ choice_variables e
  argument_variable t k w here =
      ∈-append_left w (variables_of e.atom.args) (condition_variables e.condition) (∈-concat_map variables t e.atom.args w k here)

  -- a variable of its condition is one of the element
  condition_variable : (l : Literal) → l ∈ e.condition → (t : Term) → t ∈ literal_terms l → (w : Variable) → w ∈ variables t
      → w ∈ choice_variables e
  condition_variable l j t k w here = ∈-append_right w (variables_of e.atom.args) (condition_variables e.condition)
      (∈-concat_map literal_variables l e.condition w j (∈-concat_map variables t (literal_terms l) w k here))

  -- a variable of an item of the body is global
  in_item : (i : Item) → i ∈ x.body → (u : Term) → u ∈ item_terms i → (v : Variable) → v ∈ variables u → v ∈ global_variables x
  in_item i j u k v here = body_global x v (∈-concat_map item_variables i x.body v j (∈-concat_map variables u (item_terms i) v k here))

  -- a global variable of the rule is one of the statement, or the new name of one in the element
  pub from_rule : (v : Variable) → v ∈ global_variables rule
      → (v ∈ global_variables x) ⊎ ((w : Variable) × (w ∈ choice_variables e) × (v ≡ r w))
  from_rule v k = let f = ∈-concat_map_from variables (global_terms rule) v k in by_case f.0 (stands f.0 f.1) f.2
    where
      by_case : (u : Term) → Stands u → v ∈ variables u → (v ∈ global_variables x) ⊎ ((w : Variable) × (w ∈ choice_variables e) × (v ≡ r w))
      by_case u (in_head t j is) here = let g = of_renamed t u v is here in inr (g.0, argument_variable t j g.0 g.1, g.2)
      by_case u (in_body i j m) here = inl (in_item i j u m v here)
      by_case u (in_condition l j t m is) here = let g = of_renamed t u v is here in inr (g.0, condition_variable l j t m g.0 g.1, g.2)

  -- a variable of the statement that is global in the rule is global in the statement
  pub not_captured : (v : Variable) → v ∈ all_variables x → v ∈ global_variables rule → v ∈ global_variables x
  not_captured v there k = elim (from_rule v k) [
    | inl g ↦ g
    | inr (w, here, is) ↦ elim (is_or_not w (global_variables x)) [
      | inl g ↦ subst (λ u. u ∈ global_variables x) (sym (is ∙ global_stays x w g)) g
      | inr out ↦ absurd (local_apart x w out (subst (λ u. u ∈ all_variables x) is there))
    ]
  ]

  -- the elements of an aggregate in the body have no variable that is global in the rule alone
  pub apart : (i : Item) → i ∈ x.body → (v : Variable) → v ∈ inner_variables i → v ∈ global_variables rule → v ∈ global_variables x
  apart (item.Plain l) among v here k = absurd here
  apart (item.Aggregate denied g) among v here k = not_captured v (aggregate_among x denied g among v here) k

  -- the global variables of the statement are global in the rule
  pub globals_more : global_variables x ⊆ global_variables rule
  globals_more v k =
      let f = ∈-concat_map_from item_variables x.body v (global_in_body x of.safe v k) in
      body_global rule v (∈-concat_map item_variables f.0 (x.body ++ added) v (∈-append_left f.0 x.body added f.1) f.2)

  -- ---- from an instance of the statement to one of the rule

  module _ (s t : Substitution) (extends : Extends (global_variables x) s t) where
    abbrev both : Substitution
    both = carried r (choice_variables e) t s

    among_all : (v : Variable) → v ∈ choice_variables e → v ∈ all_variables x
    among_all v k = choice_among x of.left of.right of.elements of.is e of.among v k

    both_new : (v : Variable) → v ∈ choice_variables e → both (r v) ≡ t v
    both_new v k = carried_at r (choice_variables e) t s v k (λ w j same. new_name_same x w v (among_all w j) (among_all v k) same)

    both_global : (v : Variable) → v ∈ global_variables x → both v ≡ s v
    both_global v k = carried_other r (choice_variables e) t s v (λ w j same. elim (is_or_not w (global_variables x)) [
      | inl g ↦ Each-at (λ v. t v ≡ s v) (global_variables x) w extends g ∙ ap s (sym (global_stays x w g) ∙ same)
      | inr out ↦ absurd (local_apart x w out (subst (λ u. u ∈ all_variables x) (sym same) (globals_among x v k)))
    ])

    carries : (u : Term) → ((w : Variable) → w ∈ variables u → w ∈ choice_variables e) → eval both (renamed r u) ≡ eval t u
    carries u within = eval_renamed r both u ∙ eval_same t (λ v. both (r v)) u (λ w here. both_new w (within w here))

    arguments : AreCarried r both t e.atom.args
    arguments u k = carries u (argument_variable u k)

    conditions : (l : Literal) → l ∈ e.condition → AreCarried r both t (literal_terms l)
    conditions l j u k = carries u (condition_variable l j u k)

    wide : IsWider (global_variables x) (global_variables rule) s both
    wide = record { more = globals_more; same = both_global }

    body_terms : (i : Item) → i ∈ x.body → AreSame s both (item_terms i)
    body_terms i j = same_by_variables s both (item_terms i) (λ u k v here. both_global v (in_item i j u k v here))

    defined_to : IsInstance x s → Each (HasValue both) (global_terms x)
    defined_to instance = Each-from (HasValue both) (global_terms x) (λ u k.
        let v = Each-at (HasValue s) (global_terms x) u instance k in
        (v.0, eval_same s both u (λ w here. both_global w (∈-concat_map variables u (global_terms x) w k here)) ∙ v.1))

    body_to : (I : List Atom) → BodyHolds x s I → Each (LiteralHolds t I) e.condition → BodyHolds rule both I
    body_to I body condition = Each-append (ItemHolds (global_variables rule) both I) x.body added
        (Each-from (ItemHolds (global_variables rule) both I) x.body (λ i j.
        item_to (global_variables x) (global_variables rule) s both I wide i (body_terms i j) (apart i j)
        (Each-at (ItemHolds (global_variables x) s I) x.body i body j)))
        (Each-from (ItemHolds (global_variables rule) both I) added (λ i j.
        let f = ∈-map_from (condition_item x) i e.condition j in
        subst (ItemHolds (global_variables rule) both I) (sym f.2)
        (literal_to r both t I f.0 (conditions f.0 f.1) (Each-at (LiteralHolds t I) e.condition f.0 condition f.1))))

    instance_to : (a : Atom) (I : List Atom) → IsInstance x s → Becomes t e.atom a → Each (LiteralHolds t I) e.condition
        → IsInstance rule both
    instance_to a I instance becomes condition = Each-from (HasValue both) (global_terms rule) (λ u k. by_case u (stands u k))
      where
        by_case : (u : Term) → Stands u → HasValue both u
        by_case u (in_head v j is) = let k = becomes_values t e.atom a becomes v j in (k.0, ap (eval both) is ∙ arguments v j ∙ k.1)
        by_case u (in_body i j m) =
            let k = Each-at (HasValue s) (global_terms x) u instance
            (∈-append_right u (head_terms x.head) (concat (map item_terms x.body)) (∈-concat_map item_terms i x.body u j m)) in
            (k.0, body_terms i j u m ∙ k.1)
        by_case u (in_condition l j v m is) =
            let k = literal_values t I l (Each-at (LiteralHolds t I) e.condition l condition j) v m in
            (k.0, ap (eval both) is ∙ conditions l j v m ∙ k.1)

    item_rests_to : (earlier : List Atom) (i : Item) → i ∈ x.body → ItemRests s earlier i → ItemRests both earlier i
    item_rests_to earlier (item.Plain l) j k = rests_same s both earlier l (body_terms (item.Plain l) j) k
    item_rests_to earlier (item.Aggregate denied g) j k = tt

    rests_over : (earlier : List Atom) → Each (ItemRests s earlier) x.body → Each (Rests t earlier) e.condition
        → Each (ItemRests both earlier) (x.body ++ added)
    rests_over earlier body condition = Each-append (ItemRests both earlier) x.body added
        (Each-from (ItemRests both earlier) x.body (λ i j. item_rests_to earlier i j (Each-at (ItemRests s earlier) x.body i body j)))
        (Each-from (ItemRests both earlier) added (λ i j.
        let f = ∈-map_from (condition_item x) i e.condition j in
        subst (ItemRests both earlier) (sym f.2)
        (rests_to r both t earlier f.0 (conditions f.0 f.1) (Each-at (Rests t earlier) e.condition f.0 condition f.1))))

  -- what the element gives under an extension of an instance is licensed by its rule
  pub licence_to : (s t : Substitution) (a : Atom) (I earlier : List Atom) → IsInstance x s → BodyHolds x s I
      → Each (ItemRests s earlier) x.body
      → Offers (global_variables x) s I a t e → Each (Rests t earlier) e.condition → LicensesSingly (element_rule x e) a I earlier
  licence_to s t a I earlier instance body rests offers condition_rests = (
    both s t offers.0,
    record {
      instance = instance_to s t offers.0 a I instance offers.1 offers.2;
      body = body_to s t offers.0 I body offers.2;
      head = becomes_to r (both s t offers.0) t e.atom a (arguments s t offers.0) offers.1;
      rests = rests_over s t offers.0 earlier rests condition_rests;
    },
    defined_to s t offers.0 instance,
  )

  -- ---- from an instance of the rule to one of the statement

  module _ (s : Substitution) where
    abbrev back : Substitution
    back v = s (r v)

    carries_back : (ts : List Term) → AreCarried r s back ts
    carries_back ts u k = eval_renamed r s u

    extends_back : Extends (global_variables x) s back
    extends_back = Each-from (λ v. back v ≡ s v) (global_variables x) (λ v k. ap s (global_stays x v k))

    wide_back : IsWider (global_variables x) (global_variables rule) s s
    wide_back = record { more = globals_more; same = λ v k. refl }

    pub body_back : (I : List Atom) → BodyHolds rule s I → BodyHolds x s I
    body_back I body = Each-from (ItemHolds (global_variables x) s I) x.body (λ i j.
        item_back (global_variables x) (global_variables rule) s s I wide_back i (λ u k. refl) (apart i j)
        (Each-at (ItemHolds (global_variables rule) s I) (x.body ++ added) i body (∈-append_left i x.body added j)))

    condition_back : (I : List Atom) → BodyHolds rule s I → Each (LiteralHolds back I) e.condition
    condition_back I body = Each-from (LiteralHolds back I) e.condition (λ l j.
        literal_back r s back I l (carries_back (literal_terms l))
        (Each-at (ItemHolds (global_variables rule) s I) (x.body ++ added) (condition_item x l) body
        (∈-append_right (condition_item x l) x.body added (∈-map (condition_item x) l e.condition j))))

    pub offers_back : (a : Atom) (I : List Atom) → BodyHolds rule s I → HeadGives (global_variables rule) s I I a rule.head
        → Offers (global_variables x) s I a back e
    offers_back a I body gives = (extends_back, becomes_back r s back e.atom a (carries_back e.atom.args) gives, condition_back I body)

    pub condition_rests_back : (earlier : List Atom) → Each (ItemRests s earlier) (x.body ++ added) → Each (Rests back earlier) e.condition
    condition_rests_back earlier rests = Each-from (Rests back earlier) e.condition (λ l j.
        rests_back r s back earlier l (carries_back (literal_terms l))
        (Each-at (ItemRests s earlier) (x.body ++ added) (condition_item x l) rests
        (∈-append_right (condition_item x l) x.body added (∈-map (condition_item x) l e.condition j))))

    pub body_rests_back : (earlier : List Atom) → Each (ItemRests s earlier) (x.body ++ added) → Each (ItemRests s earlier) x.body
    body_rests_back earlier rests = Each-from (ItemRests s earlier) x.body (λ i j.
        Each-at (ItemRests s earlier) (x.body ++ added) i rests (∈-append_left i x.body added j))
