-- New names are apart from all others: a new name is no variable of the statement, and different variables have different ones.
use Rattle.std.proofs.Common.{◌≡◌, ◌<◌, ◌+◌, ◌⊎◌, inl, inr, refl, sym, ap, subst, ◌∙◌, ℕ, zero, suc, Bool, true, false, true≢false, cond, List, [], ◌∷◌, ◌++◌, map, Option, arith}
use Rattle.lists.specs.Lists.{◌∈◌, concat}
use Rattle.lists.proofs.ListLemmas.{∈-append_left, ∈-append_right, ∈-append_cases}
use Rattle.asp_syntax.specs.declared.tree.Term.{Term}
use Rattle.asp_syntax.specs.declared.tree.Item.{Item}
use Rattle.asp_syntax.specs.declared.tree.Aggregate.{Aggregate}
use Rattle.asp_syntax.specs.declared.tree.Item.TheVariants as item
use Rattle.asp_syntax.specs.declared.tree.ChoiceElement.{ChoiceElement}
use Rattle.asp_syntax.specs.declared.tree.Element.{Element}
use Rattle.asp_syntax.specs.declared.tree.Guard.{Guard}
use Rattle.asp_syntax.specs.declared.tree.Literal.{Literal}
use Rattle.asp_syntax.specs.declared.tree.Head.{Head}
use Rattle.asp_syntax.specs.declared.tree.Head.TheVariants as head
use Rattle.asp_syntax.specs.declared.tree.Statement.{Statement}
use Rattle.asp_meaning.specs.Terms.{Variable, named, anonymous}
use Rattle.asp_meaning.specs.Variables.{variables, literal_terms, guard_terms, item_terms, head_terms, global_terms, global_variables}
use Rattle.asp_safety.specs.ClauseLists.{is_among}
use Rattle.asp_safety.specs.Binding.{variables_of, literal_variables, condition_variables, element_variables, aggregate_variables}
use Rattle.asp_safety.proofs.Sets.{∈-from_test, test-from_∈}
use Rattle.single_rules.specs.Renaming.{marks_of, marked, marks_above, numbers_above, condition_terms, element_terms, choice_terms, all_item_terms, all_head_terms, all_terms, all_variables, fresh_by, new_name}
use Rattle.single_rules.proofs.Parts.{∈-concat_map, ∈-concat_map_from}

-- ---- marks

-- marks before a name are that many more marks
marks_marked : (n : ℕ) (x : List ℕ) → marks_of (marked n x) ≡ n + marks_of x
marks_marked zero x = omega arith
marks_marked (suc n) x = let h = marks_marked n x in omega (arith, h)

-- what stands after the first byte
abbrev rest_of : List ℕ → List ℕ
rest_of [] = []
rest_of (x ∷ xs) = xs

-- with as many marks before them different names stay different
marked_same : (n : ℕ) (x y : List ℕ) → marked n x ≡ marked n y → x ≡ y
marked_same zero x y e = e
marked_same (suc n) x y e = marked_same n x y (ap rest_of e)

-- ---- above all of a list

-- the name has fewer marks than are above the list, or the number is smaller
abbrev IsBelow : List Variable → Variable → Type 0
IsBelow vs (named x) = marks_of x < marks_above vs
IsBelow vs (anonymous k) = k < numbers_above vs

-- the first of some variables is below what is above all of them
below_own : (v : Variable) (vs : List Variable) → IsBelow (v ∷ vs) v
below_own (named x) vs = omega arith
below_own (anonymous k) vs = omega arith

-- and one that is below stays so with one variable more
below_more : (w v : Variable) (vs : List Variable) → IsBelow vs v → IsBelow (w ∷ vs) v
below_more (named y) (named x) vs h = omega (arith, h)
below_more (named y) (anonymous k) vs h = h
below_more (anonymous j) (named x) vs h = h
below_more (anonymous j) (anonymous k) vs h = omega (arith, h)

-- each of them is below
all_below : (v : Variable) (vs : List Variable) → v ∈ vs → IsBelow vs v
all_below v [] among = absurd among
all_below v (w ∷ vs) (inl e) = subst (IsBelow (w ∷ vs)) (sym e) (below_own w vs)
all_below v (w ∷ vs) (inr among) = below_more w v vs (all_below v vs among)

-- a name with more marks or a higher number than these is none of them
abbrev fresh_above : List Variable → Variable → Variable
fresh_above vs = fresh_by (marks_above vs) (numbers_above vs)

-- a fresh name is none of those that it is above
fresh_apart : (vs : List Variable) (v : Variable) → ¬ (fresh_above vs v ∈ vs)
fresh_apart vs (named x) among =
    let below : marks_of (marked (marks_above vs) x) < marks_above vs = all_below (named (marked (marks_above vs) x)) vs among in
    let many = marks_marked (marks_above vs) x in
    absurd (omega (arith, below, many))
fresh_apart vs (anonymous k) among =
    let below : numbers_above vs + k < numbers_above vs = all_below (anonymous (numbers_above vs + k)) vs among in
    absurd (omega (arith, below))

-- the name of a variable, where it has one
abbrev name_in : Variable → List ℕ
name_in (named x) = x
name_in (anonymous k) = []

-- the number of a variable, where it has one
abbrev number_in : Variable → ℕ
number_in (named x) = 0
number_in (anonymous k) = k

-- whether a variable has a name
abbrev is_named : Variable → Bool
is_named (named x) = true
is_named (anonymous k) = false

-- different variables get different fresh names
fresh_same : (vs : List Variable) (v w : Variable) → fresh_above vs v ≡ fresh_above vs w → v ≡ w
fresh_same vs (named x) (named y) e = ap named (marked_same (marks_above vs) x y (ap name_in e))
fresh_same vs (named x) (anonymous k) e = absurd (true≢false (ap is_named e))
fresh_same vs (anonymous j) (named y) e = absurd (true≢false (sym (ap is_named e)))
fresh_same vs (anonymous j) (anonymous k) e =
    let h : numbers_above vs + j ≡ numbers_above vs + k = ap number_in e in
    let same : j ≡ k = omega (arith, h) in
    ap anonymous same

-- ---- whether a variable is one of a list

-- a variable is one of these or not
pub is_or_not : (v : Variable) (vs : List Variable) → (v ∈ vs) ⊎ (¬ (v ∈ vs))
is_or_not v vs = by_case (is_among vs v) refl
  where
    by_case : (b : Bool) → is_among vs v ≡ b → (v ∈ vs) ⊎ (¬ (v ∈ vs))
    by_case true e = inl (∈-from_test v vs e)
    by_case false e = inr (λ k. true≢false (sym (test-from_∈ v vs k) ∙ e))

-- the test finds one of them
pub among_true : (v : Variable) (vs : List Variable) → v ∈ vs → is_among vs v ≡ true
among_true v vs k = test-from_∈ v vs k

-- and no other one
pub among_false : (v : Variable) (vs : List Variable) → ¬ (v ∈ vs) → is_among vs v ≡ false
among_false v vs out = by_case (is_among vs v) refl
  where
    by_case : (b : Bool) → is_among vs v ≡ b → is_among vs v ≡ false
    by_case true e = absurd (out (∈-from_test v vs e))
    by_case false e = e

-- ---- new names

-- a global variable keeps its name
pub global_stays : (s : Statement) (v : Variable) → v ∈ global_variables s → new_name s v ≡ v
global_stays s v k = ap (λ b. cond b v (fresh_above (all_variables s) v)) (among_true v (global_variables s) k)

-- a local one gets a new one
local_moves : (s : Statement) (v : Variable) → ¬ (v ∈ global_variables s) → new_name s v ≡ fresh_above (all_variables s) v
local_moves s v out = ap (λ b. cond b v (fresh_above (all_variables s) v)) (among_false v (global_variables s) out)

-- the new name of a local variable is no variable of the statement
pub local_apart : (s : Statement) (v : Variable) → ¬ (v ∈ global_variables s) → ¬ (new_name s v ∈ all_variables s)
local_apart s v out k = fresh_apart (all_variables s) v (subst (λ w. w ∈ all_variables s) (local_moves s v out) k)

-- ---- where variables stand

-- a variable of a term is one of the terms
in_terms : (ts : List Term) (t : Term) (v : Variable) → t ∈ ts → v ∈ variables t → v ∈ variables_of ts
in_terms ts t v k here = ∈-concat_map variables t ts v k here

-- a variable of a condition stands in one of its terms
in_condition_terms : (ls : List Literal) (v : Variable) → v ∈ condition_variables ls
    → (t : Term) × (t ∈ condition_terms ls) × (v ∈ variables t)
in_condition_terms ls v k =
    let f = ∈-concat_map_from literal_variables ls v k in
    let g = ∈-concat_map_from variables (literal_terms f.0) v f.2 in
    (g.0, ∈-concat_map literal_terms f.0 ls g.0 f.1 g.1, g.2)

-- a variable of an element of an aggregate stands in one of its terms
in_element : (e : Element) (v : Variable) → v ∈ element_variables e → (t : Term) × (t ∈ element_terms e) × (v ∈ variables t)
in_element e v k = elim (∈-append_cases v (variables_of e.terms) (condition_variables e.condition) k) [
  | inl j ↦ let f = ∈-concat_map_from variables e.terms v j in (f.0, ∈-append_left f.0 e.terms (condition_terms e.condition) f.1, f.2)
  | inr j ↦ let f = in_condition_terms e.condition v j in (f.0, ∈-append_right f.0 e.terms (condition_terms e.condition) f.1, f.2)
]

-- the variables of an element of a choice
abbrev pub choice_variables : ChoiceElement → List Variable
choice_variables e = variables_of e.atom.args ++ condition_variables e.condition

-- and one of an element of a choice in one of its
in_choice_element : (e : ChoiceElement) (v : Variable) → v ∈ choice_variables e → (t : Term) × (t ∈ choice_terms e) × (v ∈ variables t)
in_choice_element e v k = elim (∈-append_cases v (variables_of e.atom.args) (condition_variables e.condition) k) [
  | inl j ↦ let f = ∈-concat_map_from variables e.atom.args v j in
      (f.0, ∈-append_left f.0 e.atom.args (condition_terms e.condition) f.1, f.2)
  | inr j ↦ let f = in_condition_terms e.condition v j in (f.0, ∈-append_right f.0 e.atom.args (condition_terms e.condition) f.1, f.2)
]

-- what stands in guards, or between them
guards_or_inside : (t : Term) (left inside right : List Term) → ((t ∈ (left ++ right)) ⊎ (t ∈ inside)) → t ∈ (left ++ (inside ++ right))
guards_or_inside t left inside right (inl k) = elim (∈-append_cases t left right k) [
  | inl j ↦ ∈-append_left t left (inside ++ right) j
  | inr j ↦ ∈-append_right t left (inside ++ right) (∈-append_right t inside right j)
]
guards_or_inside t left inside right (inr k) = ∈-append_right t left (inside ++ right) (∈-append_left t inside right k)

-- the terms of an item outside elements are among all of its terms
item_within : (i : Item) (t : Term) → t ∈ item_terms i → t ∈ all_item_terms i
item_within (item.Plain l) t k = k
item_within (item.Aggregate denied g) t k =
    guards_or_inside t (guard_terms g.left) (concat (map element_terms g.elements)) (guard_terms g.right) (inl k)

-- and those of a head
head_within : (h : Head) (t : Term) → t ∈ head_terms h → t ∈ all_head_terms h
head_within head.Absent t k = k
head_within (head.Single a) t k = k
head_within (head.Choice left elements right) t k =
    guards_or_inside t (guard_terms left) (concat (map choice_terms elements)) (guard_terms right) (inl k)

-- the terms of an item are among those of the statement
from_body : (s : Statement) (i : Item) → i ∈ s.body → (t : Term) → t ∈ all_item_terms i → t ∈ all_terms s
from_body s i j t k =
    ∈-append_right t (all_head_terms s.head) (concat (map all_item_terms s.body)) (∈-concat_map all_item_terms i s.body t j k)

-- and those of the head
from_head : (s : Statement) (t : Term) → t ∈ all_head_terms s.head → t ∈ all_terms s
from_head s t k = ∈-append_left t (all_head_terms s.head) (concat (map all_item_terms s.body)) k

-- global variables are variables of the statement
pub globals_among : (s : Statement) (v : Variable) → v ∈ global_variables s → v ∈ all_variables s
globals_among s v k =
    let f = ∈-concat_map_from variables (global_terms s) v k in
    in_terms (all_terms s) f.0 v (elim (∈-append_cases f.0 (head_terms s.head) (concat (map item_terms s.body)) f.1) [
      | inl j ↦ from_head s f.0 (head_within s.head f.0 j)
      | inr j ↦ let g = ∈-concat_map_from item_terms s.body f.0 j in from_body s g.0 g.1 f.0 (item_within g.0 f.0 g.2)
    ]) f.2

-- the variables in the elements of an aggregate of the body
pub aggregate_among : (s : Statement) (denied : Bool) (g : Aggregate) → item.Aggregate denied g ∈ s.body → (v : Variable)
    → v ∈ aggregate_variables g → v ∈ all_variables s
aggregate_among s denied g among v k =
    let f = ∈-concat_map_from element_variables g.elements v k in
    let t = in_element f.0 v f.2 in
    in_terms (all_terms s) t.0 v (from_body s (item.Aggregate denied g) among t.0
    (guards_or_inside t.0 (guard_terms g.left) (concat (map element_terms g.elements)) (guard_terms g.right)
    (inr (∈-concat_map element_terms f.0 g.elements t.0 f.1 t.1)))) t.2

-- the variables in an element of the choice that is the head
pub choice_among : (s : Statement) (left right : Option Guard) (elements : List ChoiceElement) → s.head ≡ head.Choice left elements right
    → (e : ChoiceElement) → e ∈ elements
    → (v : Variable) → v ∈ choice_variables e → v ∈ all_variables s
choice_among s left right elements is e k v here =
    let t = in_choice_element e v here in
    in_terms (all_terms s) t.0 v (from_head s t.0 (subst (λ h. t.0 ∈ all_head_terms h) (sym is)
    (guards_or_inside t.0 (guard_terms left) (concat (map choice_terms elements)) (guard_terms right)
    (inr (∈-concat_map choice_terms e elements t.0 k t.1))))) t.2

-- variables of the statement with one new name are one variable
pub new_name_same : (s : Statement) (v w : Variable) → v ∈ all_variables s → w ∈ all_variables s → new_name s v ≡ new_name s w → v ≡ w
new_name_same s v w i j e = by_case (is_or_not v (global_variables s)) (is_or_not w (global_variables s))
  where
    by_case : ((v ∈ global_variables s) ⊎ (¬ (v ∈ global_variables s))) → ((w ∈ global_variables s) ⊎ (¬ (w ∈ global_variables s))) → v ≡ w
    by_case (inl p) (inl q) = sym (global_stays s v p) ∙ e ∙ global_stays s w q
    by_case (inl p) (inr q) = absurd (local_apart s w q (subst (λ x. x ∈ all_variables s) (sym (global_stays s v p) ∙ e) i))
    by_case (inr p) (inl q) = absurd (local_apart s v p (subst (λ x. x ∈ all_variables s) (sym (global_stays s w q) ∙ sym e) j))
    by_case (inr p) (inr q) = fresh_same (all_variables s) v w (sym (local_moves s v p) ∙ e ∙ local_moves s w q)
