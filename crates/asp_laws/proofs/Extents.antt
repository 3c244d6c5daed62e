-- An aggregate has one extent and one total.
use Rattle.std.proofs.Common.{◌≡◌, ◌⊎◌, inl, inr, refl, sym, ap, subst, ◌∙◌, suc, ◌+◌, ℤ, pos, ◌+ℤ◌, Bool, true, false, List, [], ◌∷◌, ◌++◌, map, length, Option, Some, None, arith}
use Rattle.std.proofs.Math.IntN.{+ℤ_assoc, +ℤ_comm, pos-+ℤ-pos}
use Rattle.lists.specs.Lists.{◌∈◌, ◌⊆◌, HasNoRepeats}
use Rattle.lists.proofs.ListLemmas.{∈-append_left, ∈-append_right, ∈-append_cases}
use Rattle.asp_syntax.specs.declared.tree.Guard.{Guard}
use Rattle.asp_syntax.specs.declared.tree.AggKind.TheVariants as kind
use Rattle.asp_meaning.specs.declared.value.Value.{Value}
use Rattle.asp_meaning.specs.declared.value.Value.TheVariants as value
use Rattle.asp_meaning.specs.Terms.{Substitution, eval}
use Rattle.asp_meaning.specs.Orders.{value_cmp, passes}
use Rattle.asp_meaning.specs.Bodies.{weight, sum_of, total, LeftHolds, RightHolds, GuardsHold}
use Rattle.asp_laws.specs.Laws.{AnExtentIsOneSet, AnAggregateHasOneTotal, AChoiceHasOneNumber, AnAggregateOrItsDenialHolds, NeverBesideItsDenial, ALiteralNeverBesideItsDenial, ALiteralOrItsDenialHolds}
use Rattle.asp_laws.proofs.Foundations.{Becomes-one}
use Rattle.asp_laws.proofs.Stable.{in_or_out}

-- ---- lists without repeats

module _ {A : Type 0} where
  -- a member, what stands before it, and what stands after it
  pub split_at : (x : A) (ys : List A) → x ∈ ys → (front : List A) × (back : List A) × (ys ≡ front ++ (x ∷ back))
  split_at x [] k = absurd k
  split_at x (y ∷ ys) (inl e) = ([], ys, λ i. sym e i ∷ ys)
  split_at x (y ∷ ys) (inr k) = let r = split_at x ys k in (y ∷ r.0, r.1, ap (λ zs. y ∷ zs) r.2)

  not_again : (x : A) (front back : List A) → HasNoRepeats (front ++ (x ∷ back)) → ¬ (x ∈ (front ++ back))
  not_again x [] back once k = once.0 k
  not_again x (y ∷ front) back once (inl e) = once.0 (subst (λ z. z ∈ (front ++ (x ∷ back))) e (∈-append_right x front (x ∷ back) (inl refl)))
  not_again x (y ∷ front) back once (inr k) = not_again x front back once.1 k

  skipped : (x y : A) (front back : List A) → y ∈ (front ++ back) → y ∈ (front ++ (x ∷ back))
  skipped x y front back k = elim (∈-append_cases y front back k) [
    | inl j ↦ ∈-append_left y front (x ∷ back) j
    | inr j ↦ ∈-append_right y front (x ∷ back) (inr j)
  ]

  one_less : (x : A) (front back : List A) → HasNoRepeats (front ++ (x ∷ back)) → HasNoRepeats (front ++ back)
  one_less x [] back once = once.1
  one_less x (y ∷ front) back once = ((λ k. once.0 (skipped x y front back k)), one_less x front back once.1)

  other_than : (x y : A) (front back : List A) → y ∈ (front ++ (x ∷ back)) → ¬ (y ≡ x) → y ∈ (front ++ back)
  other_than x y front back k other = elim (∈-append_cases y front (x ∷ back) k) [
    | inl j ↦ ∈-append_left y front back j
    | inr j ↦ elim j [ inl e ↦ absurd (other e) | inr m ↦ ∈-append_right y front back m ]
  ]

  -- a sum along a list, by what each member adds
  module _ (sum : List A → ℤ) (adds : A → ℤ) (step : (x : A) (xs : List A) → sum (x ∷ xs) ≡ adds x +ℤ sum xs) where
    swap : (a b c : ℤ) → a +ℤ (b +ℤ c) ≡ b +ℤ (a +ℤ c)
    swap a b c = sym (+ℤ_assoc a b c) ∙ ap (λ z. z +ℤ c) (+ℤ_comm a b) ∙ +ℤ_assoc b a c

    moved : (x : A) (front back : List A) → sum (front ++ (x ∷ back)) ≡ adds x +ℤ sum (front ++ back)
    moved x [] back = step x back
    moved x (y ∷ front) back =
        step y (front ++ (x ∷ back)) ∙ ap (λ z. adds y +ℤ z) (moved x front back) ∙ swap (adds y) (adds x) (sum (front ++ back))
        ∙ ap (λ z. adds x +ℤ z) (sym (step y (front ++ back)))

    pub one_sum : (xs ys : List A) → HasNoRepeats xs → HasNoRepeats ys → xs ⊆ ys → ys ⊆ xs → sum xs ≡ sum ys
    one_sum [] [] once twice to back = refl
    one_sum [] (y ∷ ys) once twice to back = absurd (back y (inl refl))
    one_sum (x ∷ xs) ys once twice to back =
        let r = split_at x ys (to x (inl refl)) in
        let set : HasNoRepeats (r.0 ++ (x ∷ r.1)) = subst HasNoRepeats r.2 twice in
        let rest = one_sum xs (r.0 ++ r.1) once.1 (one_less x r.0 r.1 set)
        (λ y k. other_than x y r.0 r.1 (subst (λ zs. y ∈ zs) r.2 (to y (inr k))) (λ e. once.0 (subst (λ z. z ∈ xs) e k)))
        (λ y k. elim (back y (subst (λ zs. y ∈ zs) (sym r.2) (skipped x y r.0 r.1 k))) [
          | inl e ↦ absurd (not_again x r.0 r.1 set (subst (λ z. z ∈ (r.0 ++ r.1)) e k))
          | inr j ↦ j
        ]) in
        step x xs ∙ ap (λ z. adds x +ℤ z) rest ∙ sym (moved x r.0 r.1) ∙ ap sum (sym r.2)

  one_more : (x : A) (xs : List A) → pos (length (x ∷ xs)) ≡ pos 1 +ℤ pos (length xs)
  one_more x xs = let n : suc (length xs) ≡ 1 + length xs = omega arith in ap (λ k. pos k) n ∙ sym (pos-+ℤ-pos 1 (length xs))

  pub one_length : (xs ys : List A) → HasNoRepeats xs → HasNoRepeats ys → xs ⊆ ys → ys ⊆ xs → pos (length xs) ≡ pos (length ys)
  one_length xs ys = one_sum (λ zs. pos (length zs)) (λ x. pos 1) one_more xs ys

-- ---- extents

pub an_extent_is_one_set : AnExtentIsOneSet
an_extent_is_one_set globals s I g xs ys h k = record { to = λ t i. k.all_given t (h.given t i); back = λ t i. h.all_given t (k.given t i) }

pub one_total : AnAggregateHasOneTotal
one_total globals s I g xs ys h k kind.Count = one_length xs ys h.once k.once (λ t i. k.all_given t (h.given t i)) (λ t i. h.all_given t (k.given t i))
one_total globals s I g xs ys h k kind.Sum =
    one_sum (λ ts. sum_of (map weight ts)) weight (λ t ts. refl) xs ys h.once k.once (λ t i. k.all_given t (h.given t i)) (λ t i. h.all_given t (k.given t i))

pub one_number : AChoiceHasOneNumber
one_number r s I xs ys h k =
    let e : pos (length xs) ≡ pos (length ys) = one_length xs ys h.once k.once
    (λ a i. let f = h.sound a i in k.complete a f.0 f.1) (λ a i. let f = k.sound a i in h.complete a f.0 f.1) in
    cc

-- ---- an aggregate and its denial

pub never_beside_denial : NeverBesideItsDenial
never_beside_denial globals s I g h k =
    k.2 (subst (λ n. GuardsHold s n g) (one_total globals s I g h.0 k.0 h.1 k.1 g.kind) h.2)

abbrev Or : Type 0 → Type 0
Or X = X ⊎ (¬ X)

passes_or_not : (b : Bool) → Or (b ≡ true)
passes_or_not true = inl refl
passes_or_not false = inr (λ e. cc)

-- a comparison with a term, if it has a value
compared : (o : Option Value) (test : Value → Bool) → Or ((x : Value) × (o ≡ Some x) × (test x ≡ true))
compared None test = inr (λ h. let bad = h.1 in cc)
compared (Some x) test = elim (passes_or_not (test x)) [
  | inl holds ↦ inl (x, refl, holds)
  | inr fails ↦ inr (λ h. fails (let e : x ≡ h.0 = same x h.0 h.1 in ap test e ∙ h.2))
]
  where
    same : (x y : Value) → Some x ≡ Some y → x ≡ y
    same x y e = cc

left_or_not : (s : Substitution) (n : ℤ) (o : Option Guard) → Or (LeftHolds s n o)
left_or_not s n None = inl tt
left_or_not s n (Some g) = compared (eval s g.term) (λ x. passes g.op (value_cmp x (value.Int n)))

right_or_not : (s : Substitution) (n : ℤ) (o : Option Guard) → Or (RightHolds s n o)
right_or_not s n None = inl tt
right_or_not s n (Some g) = compared (eval s g.term) (λ x. passes g.op (value_cmp (value.Int n) x))

pub aggregate_or_denial : AnAggregateOrItsDenialHolds
aggregate_or_denial globals s I g ts h = elim (left_or_not s (total g.kind ts) g.left) [
  | inr no_left ↦ inr (ts, h, λ guards. no_left guards.0)
  | inl left ↦ elim (right_or_not s (total g.kind ts) g.right) [
    | inl right ↦ inl (ts, h, (left, right))
    | inr no_right ↦ inr (ts, h, λ guards. no_right guards.1)
  ]
]

-- ---- a literal and its denial

pub literal_never_beside_denial : ALiteralNeverBesideItsDenial
literal_never_beside_denial s I p h k = k.2 (subst (λ a. a ∈ I) (Becomes-one s p h.0 k.0 h.1 k.1) h.2)

pub literal_or_denial : ALiteralOrItsDenialHolds
literal_or_denial s I p a b = elim (in_or_out a I) [ inl among ↦ inl (a, b, among) | inr out ↦ inr (a, b, out) ]
