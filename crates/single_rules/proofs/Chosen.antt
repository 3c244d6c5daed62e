-- The atoms that an instance of a choice licenses: they can be listed, and the constraint for the bounds counts them.
use Rattle.std.proofs.Common.{◌≡◌, inl, inr, refl, sym, ap, subst, ◌∙◌, ℕ, ℤ, pos, suc, Bool, true, false, true≢false, if◌then◌else◌, List, [], ◌∷◌, ◌++◌, map, length, Option, Some, None}
use Rattle.lists.specs.Lists.{◌∈◌, ◌⊆◌, HasNoRepeats, Each, AtLeastOne, concat}
use Rattle.lists.proofs.ListLemmas.{Each-at, Each-from, Each-append, AtLeastOne-at, AtLeastOne-from, ∈-append_left, ∈-append_right, ∈-append_cases, ∈-map, ∈-map_from}
use Rattle.asp_syntax.specs.declared.tree.Term.{Term}
use Rattle.asp_syntax.specs.declared.tree.Term.TheVariants as tree
use Rattle.asp_syntax.specs.declared.tree.Term.TheOpen as layer
use Rattle.asp_syntax.specs.declared.tree.Guard.{Guard}
use Rattle.asp_syntax.specs.declared.tree.AggKind.TheVariants as kind
use Rattle.asp_syntax.specs.declared.tree.Literal.{Literal}
use Rattle.asp_syntax.specs.declared.tree.Literal.TheVariants as literal
use Rattle.asp_syntax.specs.declared.tree.Aggregate.{Aggregate}
use Rattle.asp_syntax.specs.declared.tree.Item.{Item}
use Rattle.asp_syntax.specs.declared.tree.Item.TheVariants as item
use Rattle.asp_syntax.specs.declared.tree.ChoiceElement.{ChoiceElement}
use Rattle.asp_syntax.specs.declared.tree.Head.TheVariants as head
use Rattle.asp_syntax.specs.declared.tree.Statement.{Statement}
use Rattle.asp_syntax.specs.Bytes.{is_lower}
use Rattle.asp_syntax.specs.WellFormed.{IsId, IsName}
use Rattle.asp_syntax.specs.Trees.{IsWellFormedChoice, IsWellFormedHead, IsWellFormedStatement}
use Rattle.asp_meaning.specs.declared.value.Value.{Value}
use Rattle.asp_meaning.specs.declared.value.Value.TheVariants as value
use Rattle.asp_meaning.specs.declared.value.Value.TheOpen as shape
use Rattle.asp_meaning.specs.declared.value.Value.TheViews.{out-Value, roll-Value, out-roll-Value}
use Rattle.asp_meaning.specs.Terms.{Variable, Substitution, all_of, before, eval, eval_all}
use Rattle.asp_meaning.specs.Variables.{variables, item_terms, head_terms, global_terms, global_variables}
use Rattle.asp_meaning.specs.Atoms.{Atom, Becomes}
use Rattle.asp_meaning.specs.Bodies.{LiteralHolds, ItemHolds, Gives, IsExtent, LeftHolds, RightHolds, total}
use Rattle.asp_meaning.specs.Programs.{HasValue, IsInstance, BodyHolds, Offers, Rests, ItemRests, HeadGives, Licenses, AreChosen, BoundHolds}
use Rattle.asp_strata.specs.Recursion.{written, predicate_of}
use Rattle.asp_laws.proofs.Globals.{becomes_same}
use Rattle.asp_laws.proofs.Extents.{one_total, aggregate_or_denial}
use Rattle.asp_safety.specs.Binding.{IsSafe, variables_of, condition_variables, item_variables}
use Rattle.single_rules.specs.declared.single.SingleRule.{SingleRule}
use Rattle.single_rules.specs.SingleRules.{as_statement}
use Rattle.single_rules.specs.Splitting.{counted, count_of, bound_rule, bound_rules}
use Rattle.single_rules.proofs.Parts.{∈-concat_map, ∈-concat_map_from}
use Rattle.single_rules.proofs.Renamed.{eval_roll}
use Rattle.single_rules.proofs.Names.{choice_variables}
use Rattle.single_rules.proofs.Values.{same_by_variables}
use Rattle.single_rules.proofs.Wider.{IsWider, item_to, item_back, extent_to, extent_back}
use Rattle.single_rules.proofs.BoundVariables.{body_global, global_in_body}
use Rattle.single_rules.proofs.ElementRules.{IsElement}
use Rattle.single_rules.proofs.KeptBound.{element_occurs, bound_globals}
use Rattle.single_rules.proofs.Candidates.{Or, some_values, any_or_none, becomes_or_not, some_or_none}
use Rattle.single_rules.proofs.AnswerSetLemmas.{ground_predicate, becomes_predicate, IsFollowed, Follows, BoundsAreKept}

-- ---- tuples of atoms

-- the tuple that an atom counts by
abbrev tuple_of : Atom → List Value
tuple_of a = value.Text (written (ground_predicate a)) ∷ a.args

-- the text of a value, where it is one
abbrev text_in : Value → List ℕ
text_in x = elim (out-Value x) [ shape.Text t ↦ t | _ ↦ [] ]

-- a text has its own
text_in_Text : (t : List ℕ) → text_in (value.Text t) ≡ t
text_in_Text t =
    let rolled : text_in (roll-Value (shape.Text t)) ≡ t = rw (out-roll-Value (shape.Text t), text_in) refl in
    ap text_in (sym (value.rolls-Text t)) ∙ rolled

-- a text is its own value
eval_text : (s : Substitution) (t : List ℕ) → eval s (tree.Text t) ≡ Some (value.Text t)
eval_text s t = ap (eval s) (sym (tree.rolls-Text t)) ∙ eval_roll s (layer.Text t)

-- the first byte of a text, where it has one
abbrev first_byte : List ℕ → ℕ
first_byte [] = 0
first_byte (x ∷ xs) = x

-- those after it
abbrev bytes_after : List ℕ → List ℕ
bytes_after [] = []
bytes_after (x ∷ xs) = xs

-- a name does not begin with a minus
no_minus : (name other : List ℕ) → IsName is_lower name → ¬ (name ≡ 45 ∷ other)
no_minus [] other h e = h
no_minus (b ∷ bytes) other h e = true≢false (sym h.0 ∙ ap is_lower (ap first_byte e))

-- and so a name with its sign tells both
sign_told : (a b : Bool) (n m : List ℕ) → IsName is_lower n → IsName is_lower m → (if a then 45 ∷ n else n) ≡ (if b then 45 ∷ m else m)
    → (a ≡ b) × (n ≡ m)
sign_told true true n m hn hm e = (refl, ap bytes_after e)
sign_told false false n m hn hm e = (refl, e)
sign_told true false n m hn hm e = absurd (no_minus m n hm (sym e))
sign_told false true n m hn hm e = absurd (no_minus n m hn e)

-- the text of the first of some values
abbrev first_text : List Value → List ℕ
first_text [] = []
first_text (x ∷ xs) = text_in x

-- the values after the first
abbrev later_values : List Value → List Value
later_values [] = []
later_values (x ∷ xs) = xs

-- atoms with such names have tuples of their own
tuples_tell : (a b : Atom) → IsId a.name → IsId b.name → tuple_of a ≡ tuple_of b → a ≡ b
tuples_tell a b ha hb e =
    let texts : written (ground_predicate a) ≡ written (ground_predicate b) =
    sym (text_in_Text (written (ground_predicate a))) ∙ ap first_text e ∙ text_in_Text (written (ground_predicate b)) in
    let told = sign_told a.negated b.negated a.name b.name ha.0 hb.0 texts in
    let signs = told.0 in let names = told.1 in let args = ap later_values e in
    λ i. record { negated = signs i; name = names i; args = args i }

-- ---- keeping some of a list

-- ys are those of xs of which the condition holds
record IsKept (P : Atom → Type 0) (xs ys : List Atom) : Type 0 where
  sound : (a : Atom) → a ∈ ys → (a ∈ xs) × P a
  complete : (a : Atom) → a ∈ xs → P a → a ∈ ys
  once : HasNoRepeats xs → HasNoRepeats ys

-- where the condition is decided, these can be listed
keep : (P : Atom → Type 0) → ((a : Atom) → Or (P a)) → (xs : List Atom) → (ys : List Atom) × IsKept P xs ys
keep P decide [] = ([], record { sound = λ a k. absurd k; complete = λ a k h. k; once = λ h. h })
keep P decide (x ∷ xs) =
    let rest = keep P decide xs in
    elim (decide x) [
      | inl h ↦ (
        x ∷ rest.0,
        record {
          sound = λ a k. elim k [
            | inl e ↦ (inl e, subst P (sym e) h)
            | inr j ↦ let f = rest.1.sound a j in (inr f.0, f.1)
          ];
          complete = λ a k g. elim k [ inl e ↦ inl e | inr j ↦ inr (rest.1.complete a j g) ];
          once = λ set. ((λ k. set.0 (rest.1.sound x k).0), rest.1.once set.1);
        },
      )
      | inr none ↦ (
        rest.0,
        record {
          sound = λ a k. let f = rest.1.sound a k in (inr f.0, f.1);
          complete = λ a k g. elim k [ inl e ↦ absurd (none (subst P e g)) | inr j ↦ rest.1.complete a j g ];
          once = λ set. rest.1.once set.1;
        },
      )
    ]

-- a function that tells the members of a list apart keeps it without repeats
once_map : {A B : Type 0} (f : A → B) (xs : List A) → ((a b : A) → a ∈ xs → b ∈ xs → f a ≡ f b → a ≡ b) → HasNoRepeats xs
    → HasNoRepeats (map f xs)
once_map f [] one set = tt
once_map f (x ∷ xs) one set = (
  (λ k. let g = ∈-map_from f (f x) xs k in set.0 (subst (λ y. y ∈ xs) (sym (one x g.0 (inl refl) (inr g.1) g.2)) g.1)),
  once_map f xs (λ a b i j e. one a b (inr i) (inr j) e) set.1,
)

-- what a list becomes is as long as it is
as_long : {A B : Type 0} (f : A → B) (xs : List A) → length (map f xs) ≡ length xs
as_long f [] = refl
as_long f (x ∷ xs) = ap suc (as_long f xs)

-- ---- what holds rests on the set

-- a literal that holds in a set rests on it
holds_rests : (t : Substitution) (I : List Atom) (l : Literal) → LiteralHolds t I l → Rests t I l
holds_rests t I (literal.Positive p) h = h
holds_rests t I (literal.Negative p) h = tt
holds_rests t I (literal.Compare o y z) h = tt

-- and so does an item of a body
item_holds_rests : (G : List Variable) (s : Substitution) (I : List Atom) (i : Item) → ItemHolds G s I i → ItemRests s I i
item_holds_rests G s I (item.Plain l) h = holds_rests s I l h
item_holds_rests G s I (item.Aggregate denied g) h = tt

-- all have values, and so the rest has
text_first : (t : Substitution) (n : List ℕ) (ts : List Term) (zs : List Value) → eval_all t ts ≡ Some zs
    → eval_all t (tree.Text n ∷ ts) ≡ Some (value.Text n ∷ zs)
text_first t n ts zs e = ap (λ o. all_of (o ∷ map (eval t) ts)) (eval_text t n) ∙ ap (before (value.Text n)) e

-- ---- an instance of a choice

module _ (x : Statement) (safe : IsSafe x) (formed : IsWellFormedStatement x) (left right : Option Guard) (elements : List ChoiceElement)
    (is : x.head ≡ head.Choice left elements right) where
  -- the global variables of the statement
  abbrev G : List Variable
  G = global_variables x

  -- the element is one of its choice
  abbrev element_at : (e : ChoiceElement) → e ∈ elements → IsElement x e
  element_at e k = record { safe = safe; left = left; right = right; elements = elements; is = is; among = k }

  -- the name of its atom is a name
  name_at : (e : ChoiceElement) → e ∈ elements → IsId e.atom.name
  name_at e k = (Each-at IsWellFormedChoice elements e (subst IsWellFormedHead is formed.0).1 k).0.0

  -- an element gives the atom under some extension
  abbrev IsOffered : Substitution → List Atom → Atom → ChoiceElement → Type 0
  IsOffered s I a e = (t : Substitution) × Offers G s I a t e

  module _ (s : Substitution) (I : List Atom) where
    licence_from : (a : Atom) → Licenses x s a I → AtLeastOne (IsOffered s I a) elements
    licence_from a k =
        let gives = subst (HeadGives G s I I a) is k.head in
        let f = AtLeastOne-at (λ e. Offers G s I a gives.0 e × Each (Rests gives.0 I) e.condition) elements gives.1 in
        AtLeastOne-from (IsOffered s I a) elements f.0 f.1 (gives.0, f.2.0)

    name_of : (a : Atom) → Licenses x s a I → IsId a.name
    name_of a k =
        let f = AtLeastOne-at (IsOffered s I a) elements (licence_from a k) in
        subst IsId (sym f.2.1.1.1) (name_at f.0 f.1)

    module _ (instance : IsInstance x s) (body : BodyHolds x s I) where
      licence : (a : Atom) → AtLeastOne (IsOffered s I a) elements → Licenses x s a I
      licence a some =
          let f = AtLeastOne-at (IsOffered s I a) elements some in
          let t = f.2.0 in
          let o = f.2.1 in
          let gives : HeadGives G s I I a (head.Choice left elements right) = (
            t,
            AtLeastOne-from (λ e. Offers G s I a t e × Each (Rests t I) e.condition) elements f.0 f.1
                (o, Each-from (Rests t I) f.0.condition (λ l j. holds_rests t I l (Each-at (LiteralHolds t I) f.0.condition l o.2 j))),
          ) in
          record {
            instance = instance;
            body = body;
            head = subst (HeadGives G s I I a) (sym is) gives;
            rests = Each-from (ItemRests s I) x.body (λ i j. item_holds_rests G s I i (Each-at (ItemHolds G s I) x.body i body j));
          }

      offered_or_not : (a : Atom) (e : ChoiceElement) → e ∈ elements → Or (IsOffered s I a e)
      offered_or_not a e k =
          let decided = some_or_none x e.condition s I (choice_variables e) (element_occurs x e (element_at e k))
          (λ v j. ∈-append_right v (variables_of e.atom.args) (condition_variables e.condition) j)
          (λ t. Becomes t e.atom a) (λ t. becomes_or_not t e.atom a)
          (λ t u agree b. becomes_same t u e.atom a
          (same_by_variables t u e.atom.args
          (λ w j v here. agree v (∈-append_left v (variables_of e.atom.args) (condition_variables e.condition)
          (∈-concat_map variables w e.atom.args v j here)))) b) in
          elim decided [
            | inl h ↦ inl (h.0, (h.1.0, h.2, h.1.1))
            | inr none ↦ inr (λ h. none (h.0, (h.1.0, h.1.2), h.1.1))
          ]

      licensed_or_not : (a : Atom) → Or (Licenses x s a I)
      licensed_or_not a = elim (any_or_none (IsOffered s I a) elements (offered_or_not a)) [
        | inl h ↦ inl (licence a h)
        | inr none ↦ inr (λ k. none (licence_from a k))
      ]

      -- the atoms that are licensed can be listed
      pub chosen_list : HasNoRepeats I → (chosen : List Atom) × AreChosen x s I chosen
      chosen_list set =
          let k = keep (λ a. Licenses x s a I) licensed_or_not I in
          (k.0, record { once = k.1.once set; sound = k.1.sound; complete = k.1.complete })

      abbrev count : Aggregate
      count = count_of left elements right

      -- an atom that is licensed gives its tuple
      tuple_given : (a : Atom) → a ∈ I → Licenses x s a I → AtLeastOne (Gives G s I (tuple_of a)) count.elements
      tuple_given a among k =
          let f = AtLeastOne-at (IsOffered s I a) elements (licence_from a k) in
          let e = f.0 in
          let t = f.2.0 in
          let o = f.2.1 in
          let texts : written (predicate_of e.atom) ≡ written (ground_predicate a) = ap written (becomes_predicate t e.atom a o.1) in
          AtLeastOne-from (Gives G s I (tuple_of a)) count.elements (counted e) (∈-map counted e elements f.1) (
            t,
            o.0,
            text_first t (written (predicate_of e.atom)) e.atom.args a.args o.1.2
                ∙ ap (λ n. Some (value.Text n ∷ a.args)) texts,
            ((a, o.1, among), o.2),
          )

      -- and a tuple that is given is that of an atom that is licensed
      tuple_from : (tuple : List Value) → AtLeastOne (Gives G s I tuple) count.elements
          → (a : Atom) × (a ∈ I) × Licenses x s a I × (tuple ≡ tuple_of a)
      tuple_from tuple some =
          let f = AtLeastOne-at (Gives G s I tuple) count.elements some in
          let g = ∈-map_from counted f.0 elements f.1 in
          let e = g.0 in
          let k = subst (Gives G s I tuple) g.2 f.2 in
          let t = k.0 in
          let a = k.3.0.0 in
          let b : Becomes t e.atom a = k.3.0.1 in
          let texts : written (predicate_of e.atom) ≡ written (ground_predicate a) = ap written (becomes_predicate t e.atom a b) in (
            a,
            k.3.0.2,
            licence a (AtLeastOne-from (IsOffered s I a) elements e g.1 (t, (k.1, b, k.3.1))),
            ap some_values (sym k.2 ∙ text_first t (written (predicate_of e.atom)) e.atom.args a.args b.2)
                ∙ ap (λ n. value.Text n ∷ a.args) texts,
          )

      -- the tuples of the chosen atoms are the extent of the count
      pub chosen_extent : (chosen : List Atom) → AreChosen x s I chosen → IsExtent G s I count (map tuple_of chosen)
      chosen_extent chosen k = record {
        once = once_map tuple_of chosen (λ a b i j e. tuples_tell a b (name_of a (k.sound a i).1) (name_of b (k.sound b j).1) e) k.once;
        given = λ tuple j.
            let f = ∈-map_from tuple_of tuple chosen j in
            let g = k.sound f.0 f.1 in
            subst (λ z. AtLeastOne (Gives G s I z) count.elements) (sym f.2) (tuple_given f.0 g.0 g.1);
        all_given = λ tuple some.
            let f = tuple_from tuple some in
            subst (λ z. z ∈ map tuple_of chosen) (sym f.3) (∈-map tuple_of f.0 chosen (k.complete f.0 f.1 f.2));
      }

      -- so the total of any extent of it is the number of the chosen atoms
      pub chosen_total : (chosen : List Atom) → AreChosen x s I chosen → (tuples : List (List Value)) → IsExtent G s I count tuples
          → pos (length chosen) ≡ total kind.Count tuples
      chosen_total chosen k tuples extent =
          sym (ap (λ n. pos n) (as_long tuple_of chosen))
          ∙ one_total G s I count (map tuple_of chosen) tuples (chosen_extent chosen k) extent kind.Count

  -- ---- the constraint

  -- the constraint for the bounds, as a statement
  abbrev bound : Statement
  bound = as_statement (bound_rule x (count_of left elements right))

  -- its global variables
  abbrev H : List Variable
  H = global_variables bound

  -- it has all global variables of the statement
  globals_more : G ⊆ H
  globals_more v k =
      let f = ∈-concat_map_from item_variables x.body v (global_in_body x safe v k) in
      body_global bound v (∈-concat_map item_variables f.0 (x.body ++ item.Aggregate true (count_of left elements right) ∷ []) v
      (∈-append_left f.0 x.body (item.Aggregate true (count_of left elements right) ∷ []) f.1) f.2)

  -- so more variables are global there
  wide : (s : Substitution) → IsWider G H s s
  wide s = record { more = globals_more; same = λ v k. refl }

  -- but none that wasn't before
  not_captured : (v : Variable) → v ∈ H → v ∈ G
  not_captured v k = bound_globals x safe left right elements is v k

  -- a body that holds in the statement holds in the constraint
  body_to : (s : Substitution) (I : List Atom) → BodyHolds x s I → Each (ItemHolds H s I) x.body
  body_to s I body = Each-from (ItemHolds H s I) x.body (λ i j.
      item_to G H s s I (wide s) i (λ u k. refl) (λ v here k. not_captured v k) (Each-at (ItemHolds G s I) x.body i body j))

  -- and back
  body_back : (s : Substitution) (I : List Atom) → BodyHolds bound s I → BodyHolds x s I
  body_back s I body = Each-from (ItemHolds G s I) x.body (λ i j.
      item_back G H s s I (wide s) i (λ u k. refl) (λ v here k. not_captured v k)
      (Each-at (ItemHolds H s I) (x.body ++ item.Aggregate true (count_of left elements right) ∷ []) i body
      (∈-append_left i x.body (item.Aggregate true (count_of left elements right) ∷ []) j)))

  -- bounds that are true of the chosen atoms are true of the total
  left_total : (s : Substitution) (I : List Atom) (n : ℤ) (o : Option Guard)
      → ((chosen : List Atom) → AreChosen x s I chosen → pos (length chosen) ≡ n)
      → BoundHolds x s I (LeftHolds s) o → LeftHolds s n o
  left_total s I n None same k = tt
  left_total s I n (Some g) same k = subst (λ m. LeftHolds s m (Some g)) (same k.0 k.1) k.2

  -- the same of the right one
  right_total : (s : Substitution) (I : List Atom) (n : ℤ) (o : Option Guard)
      → ((chosen : List Atom) → AreChosen x s I chosen → pos (length chosen) ≡ n)
      → BoundHolds x s I (RightHolds s) o → RightHolds s n o
  right_total s I n None same k = tt
  right_total s I n (Some g) same k = subst (λ m. RightHolds s m (Some g)) (same k.0 k.1) k.2

  -- a left guard that is true of the number of chosen atoms is a bound that is kept
  left_bound : (s : Substitution) (I : List Atom) (n : ℤ) (o : Option Guard) (chosen : List Atom) → AreChosen x s I chosen
      → pos (length chosen) ≡ n
      → LeftHolds s n o → BoundHolds x s I (LeftHolds s) o
  left_bound s I n None chosen k same h = tt
  left_bound s I n (Some g) chosen k same h = (chosen, k, subst (λ m. LeftHolds s m (Some g)) (sym same) h)

  -- the same of the right one
  right_bound : (s : Substitution) (I : List Atom) (n : ℤ) (o : Option Guard) (chosen : List Atom) → AreChosen x s I chosen
      → pos (length chosen) ≡ n
      → RightHolds s n o → BoundHolds x s I (RightHolds s) o
  right_bound s I n None chosen k same h = tt
  right_bound s I n (Some g) chosen k same h = (chosen, k, subst (λ m. RightHolds s m (Some g)) (sym same) h)

  -- where the bounds are met, the body of the constraint does not hold
  bound_followed : (I : List Atom) → Follows I x (head.Choice left elements right)
      → IsFollowed I (bound_rule x (count_of left elements right))
  bound_followed I follows s instance holds =
      let body = body_back s I holds in
      let met = follows s instance.1 body in
      let k = Each-at (ItemHolds H s I) (x.body ++ item.Aggregate true (count_of left elements right) ∷ [])
      (item.Aggregate true (count_of left elements right)) holds
      (∈-append_right (item.Aggregate true (count_of left elements right)) x.body (item.Aggregate true (count_of left elements right) ∷ [])
      (inl refl)) in
      let extent = extent_back G H s s I (wide s) (count_of left elements right) (λ v here j. not_captured v j) k.0 k.1 in
      let same : (chosen : List Atom) → AreChosen x s I chosen → pos (length chosen) ≡ total kind.Count k.0 =
      λ chosen c. chosen_total s I instance.1 body chosen c k.0 extent in
      k.2 (left_total s I (total kind.Count k.0) left same met.0, right_total s I (total kind.Count k.0) right same met.1)

  -- an instance of the statement is one of the constraint
  instance_to : (s : Substitution) → IsInstance x s → IsInstance bound s
  instance_to s instance = Each-from (HasValue s) (global_terms bound) (λ u k.
      Each-at (HasValue s) (global_terms x) u instance (terms_among u k))
    where
      terms_among : (u : Term) → u ∈ global_terms bound → u ∈ global_terms x
      terms_among u k =
          let f = ∈-concat_map_from item_terms (x.body ++ item.Aggregate true (count_of left elements right) ∷ []) u k in
          elim (∈-append_cases f.0 x.body (item.Aggregate true (count_of left elements right) ∷ []) f.1) [
            | inl j ↦ ∈-append_right u (head_terms x.head) (concat (map item_terms x.body)) (∈-concat_map item_terms f.0 x.body u j f.2)
            | inr j ↦ elim j [
              | inl same ↦ ∈-append_left u (head_terms x.head) (concat (map item_terms x.body))
                  (subst (λ h. u ∈ head_terms h) (sym is) (subst (λ i. u ∈ item_terms i) same f.2))
              | inr none ↦ absurd none
            ]
          ]

  -- where the constraint is followed, the bounds are met
  bounds_met : (I : List Atom) → HasNoRepeats I → IsFollowed I (bound_rule x (count_of left elements right))
      → Follows I x (head.Choice left elements right)
  bounds_met I set followed s instance body =
      let c = chosen_list s I instance body set in
      let g = count_of left elements right in
      let extent = chosen_extent s I instance body c.0 c.1 in
      elim (aggregate_or_denial G s I g (map tuple_of c.0) extent) [
        | inl h ↦
            let same = chosen_total s I instance body c.0 c.1 h.0 h.1 in
            (left_bound s I (total kind.Count h.0) left c.0 c.1 same h.2.0, right_bound s I (total kind.Count h.0) right c.0 c.1 same h.2.1)
        | inr h ↦ absurd (followed s (instance_to s instance, instance)
            (Each-append (ItemHolds H s I) x.body (item.Aggregate true g ∷ []) (body_to s I body)
            ((h.0, extent_to G H s s I (wide s) g (λ v here j. not_captured v j) h.0 h.1, h.2), tt)))
      ]

-- ---- the rules for bounds

-- where the bounds of a choice are kept, the constraint for them is met
bounds_to : (x : Statement) → IsSafe x → IsWellFormedStatement x
    → (I : List Atom) (left right : Option Guard) (elements : List ChoiceElement) → x.head ≡ head.Choice left elements right
    → Follows I x (head.Choice left elements right) → (r : SingleRule) → r ∈ bound_rules x left elements right → IsFollowed I r
bounds_to x safe formed I None None elements is follows r k = absurd k
bounds_to x safe formed I None (Some right) elements is follows r (inl e) =
    subst (IsFollowed I) (sym e) (bound_followed x safe formed None (Some right) elements is I follows)
bounds_to x safe formed I None (Some right) elements is follows r (inr none) = absurd none
bounds_to x safe formed I (Some left) right elements is follows r (inl e) =
    subst (IsFollowed I) (sym e) (bound_followed x safe formed (Some left) right elements is I follows)
bounds_to x safe formed I (Some left) right elements is follows r (inr none) = absurd none

-- and back
bounds_back : (x : Statement) → IsSafe x → IsWellFormedStatement x → (I : List Atom) → HasNoRepeats I
    → (left right : Option Guard) (elements : List ChoiceElement)
    → x.head ≡ head.Choice left elements right → ((r : SingleRule) → r ∈ bound_rules x left elements right → IsFollowed I r)
    → Follows I x (head.Choice left elements right)
bounds_back x safe formed I set None None elements is followed = λ s instance holds. (tt, tt)
bounds_back x safe formed I set None (Some right) elements is followed =
    bounds_met x safe formed None (Some right) elements is I set (followed (bound_rule x (count_of None elements (Some right))) (inl refl))
bounds_back x safe formed I set (Some left) right elements is followed =
    bounds_met x safe formed (Some left) right elements is I set (followed (bound_rule x (count_of (Some left) elements right)) (inl refl))

-- the constraint for the bounds of a safe statement keeps what they ask for
pub bounds_are_kept : (I : List Atom) → HasNoRepeats I → (x : Statement) → IsSafe x → IsWellFormedStatement x → BoundsAreKept I x
bounds_are_kept I set x safe formed = record {
  to = λ left right elements. bounds_to x safe formed I left right elements;
  back = λ left right elements. bounds_back x safe formed I set left right elements;
}
