-- The search over rows, and what it finds.
use Rattle.std.proofs.Common.{◌≡◌, ◌⊎◌, ◌↔◌, inl, inr, refl, sym, ap, subst, ◌∙◌, ℕ, zero, suc, ◌+◌, ◌<◌, ◌≤◌, Bool, true, false, nat_eq, List, [], ◌∷◌, ◌++◌, length, drop, get_or, slice_get, Some, add-one}
use Rattle.std.specs.List.{IsDistinct, AllByRecursion}
use Rattle.std.proofs.Math.ListN.{drop_of_length-le}
use Rattle.std.proofs.lemmas.Option.{same_Some, slice_get-get_or}
use Rattle.std.proofs.lemmas.Map.Steps.{length-le_from_distinct_below}
use Rattle.lists.specs.Lists.{◌∈◌, ◌⊆◌, HasNoRepeats}
use Rattle.lists.proofs.ListLemmas.{∈-append_left, ∈-append_right, ∈-append_cases}
use Rattle.asp_syntax.specs.declared.tree.Statement.{Statement}
use Rattle.asp_strata.specs.declared.predicate.Predicate.{Predicate}
use Rattle.asp_strata.specs.Recursion.{head_predicates, needed_predicates, statement_predicates, occurring, DependsOn, at_once, carried_on, DependsOnHead}
use Rattle.asp_strata.specs.Graphs.{IsPlaceOf, Leads, Reached, root, onward, IsGraph, IsWithin, AreDependents}
use Rattle.asp_strata.proofs.Members.{member, nat_same, nat_itself, place_of, at_place}

-- ---- a set of numbers below n has at most n

distinct : (xs : List ℕ) → HasNoRepeats xs → IsDistinct nat_eq xs
unfolding IsDistinct
distinct [] once = tt
distinct (x ∷ xs) once = (apart x xs once.0, distinct xs once.1)
  where
    apart : (x : ℕ) (xs : List ℕ) → ¬ (x ∈ xs) → AllByRecursion (λ y. nat_eq x y ≡ false) xs
    apart x [] out = tt
    apart x (y ∷ xs) out = (by_case (nat_eq x y) refl, apart x xs (λ k. out (inr k)))
      where
        by_case : (b : Bool) → nat_eq x y ≡ b → nat_eq x y ≡ false
        by_case true e = absurd (out (inl (nat_same x y e)))
        by_case false e = e

pub few_below : (xs : List ℕ) (n : ℕ) → HasNoRepeats xs → ((i : ℕ) → i ∈ xs → i < n) → length xs ≤ n
few_below xs n once below = length-le_from_distinct_below xs n (distinct xs once) (λ q h. below q (member nat_eq nat_same nat_itself q xs h))

-- ---- the search

-- those before the place `next` were looked at
pub record IsSearch (rows : List (List ℕ)) (roots found : List ℕ) (next : ℕ) : Type 0 where
  pub begun : roots ⊆ found
  pub sound : (i : ℕ) → i ∈ found → Reached rows roots i
  pub closed : (j : ℕ) → j ∈ found → (j ∈ drop next found) ⊎ ((i : ℕ) → Leads rows j i → i ∈ found)
  pub within : (i : ℕ) → i ∈ found → i < length rows

pub search_begins : (rows : List (List ℕ)) (roots : List ℕ) → ((i : ℕ) → i ∈ roots → i < length rows) → IsSearch rows roots roots 0
search_begins rows roots within = record {
  begun = λ i k. k;
  sound = λ i k. root i k;
  closed = λ j k. inl k;
  within = within;
}

module _ (rows : List (List ℕ)) (roots found more extra row : List ℕ) (next place : ℕ) (rest : List ℕ) (at : drop next found ≡ place ∷ rest)
    (here : slice_get rows place ≡ Some row) (grown : more ≡ found ++ extra) (members : (i : ℕ) → (i ∈ more) ↔ ((i ∈ found) ⊎ (i ∈ row))) (inside : IsWithin rows) (s : IsSearch rows roots found next) where
  later : drop (next + 1) more ≡ rest ++ extra
  later = rw add-one (ap (drop (suc next)) grown ∙ onward_drop found extra next rest at)
    where
      tail : {a b : ℕ} {us vs : List ℕ} → a ∷ us ≡ b ∷ vs → us ≡ vs
      tail e = cc

      onward_drop : (xs ys : List ℕ) (n : ℕ) (zs : List ℕ) → drop n xs ≡ place ∷ zs → drop (suc n) (xs ++ ys) ≡ zs ++ ys
      onward_drop [] ys zero zs e = absurd (cc)
      onward_drop (x ∷ xs) ys zero zs e = ap (λ l. l ++ ys) (tail e)
      onward_drop [] ys (suc n) zs e = absurd (cc)
      onward_drop (x ∷ xs) ys (suc n) zs e = onward_drop xs ys n zs e

  keeps : (i : ℕ) → i ∈ found → i ∈ more
  keeps i k = (members i).1 (inl k)

  among : place ∈ found
  among = from_drop found next at
    where
      from_drop : (xs : List ℕ) (n : ℕ) → drop n xs ≡ place ∷ rest → place ∈ xs
      from_drop xs zero e = subst (λ l. place ∈ l) (sym e) (inl refl)
      from_drop [] (suc n) e = absurd (cc)
      from_drop (x ∷ xs) (suc n) e = inr (from_drop xs n e)

  pub search_on : IsSearch rows roots more (next + 1)
  search_on = record {
    begun = λ i k. keeps i (s.begun i k);
    sound = λ i k. elim ((members i).0 k) [
      | inl k ↦ s.sound i k
      | inr k ↦ onward i place (s.sound place among) (row, here, k)
    ];
    closed = λ j k. elim (∈-append_cases j found extra (subst (λ xs. j ∈ xs) grown k)) [
      | inl k ↦ elim (s.closed j k) [
        | inl k ↦ elim (subst (λ xs. j ∈ xs) at k) [
          | inl same ↦ inr (λ i (r, there, h). (members i).1 (inr (subst (λ xs. i ∈ xs) (same_Some r row (sym there ∙ ap (slice_get rows) same ∙ here)) h)))
          | inr k ↦ inl (subst (λ xs. j ∈ xs) (sym later) (∈-append_left j rest extra k))
        ]
        | inr all ↦ inr (λ i h. keeps i (all i h))
      ]
      | inr k ↦ inl (subst (λ xs. j ∈ xs) (sym later) (∈-append_right j rest extra k))
    ];
    within = λ i k. elim ((members i).0 k) [
      | inl k ↦ s.within i k
      | inr k ↦ inside place i (row, here, k)
    ];
  }

-- a place that is looked at is one of a row
pub looked_at : (rows : List (List ℕ)) (roots found slice : List ℕ) (next : ℕ) → slice ≡ found → next < length slice → IsSearch rows roots found next → get_or slice next 0 < length rows
looked_at rows roots found slice next e lt s = s.within (get_or slice next 0) (subst (λ xs. get_or slice next 0 ∈ xs) e (at_place (get_or slice next 0) slice next (slice_get-get_or slice next 0 lt)))

pub search_done : (rows : List (List ℕ)) (roots found : List ℕ) (next : ℕ) → length found ≤ next → IsSearch rows roots found next → (i : ℕ) → (i ∈ found) ↔ Reached rows roots i
search_done rows roots found next long s i = (s.sound i, complete i)
  where
    all : (j : ℕ) → j ∈ found → (i : ℕ) → Leads rows j i → i ∈ found
    all j k = elim (s.closed j k) [ inl k ↦ absurd (subst (λ xs. j ∈ xs) (drop_of_length-le found long) k) | inr h ↦ h ]

    complete : (i : ℕ) → Reached rows roots i → i ∈ found
    complete i (root j k) = s.begun j k
    complete i (onward k j r l) = all j (complete j r) k l

-- ---- what the search finds in a graph

-- the place of a predicate that is in the statement's head or depends on one of it
reached_sound : (P : List Statement) (table : List Predicate) (rows : List (List ℕ)) (s : Statement) (roots : List ℕ) → IsGraph P table rows → ((i : ℕ) → (i ∈ roots) ↔ IsPlaceOf table (head_predicates s.head) i)
    → (i : ℕ) → Reached rows roots i → (p : Predicate) × (slice_get table i ≡ Some p) × DependsOnHead P s p
reached_sound P table rows s roots g heads i (root j k) = let at = (heads i).0 k in (at.0, at.2, (at.0, at.1, inl refl))
reached_sound P table rows s roots g heads i (onward k j r l) =
    let before = reached_sound P table rows s roots g heads j r in
    let linked = (g.rows_are j i).0 l in
    let t = linked.0 in
    let h = linked.2 in
    let n = linked.3 in
    let same : n.0 ≡ before.0 = same_Some n.0 before.0 (sym n.2 ∙ before.1) in
    let once : DependsOn P h.0 before.0 = subst (λ q. DependsOn P h.0 q) same (at_once h.0 n.0 t linked.1 h.1 n.1) in (
      h.0,
      h.2,
      (
        before.2.0,
        before.2.1,
        inr (elim before.2.2 [
          | inl e ↦ subst (λ q. DependsOn P h.0 q) e once
          | inr d ↦ carried_on h.0 before.0 before.2.0 once d
        ]),
      ),
    )

-- what occurs in a statement of the program occurs in it
occurs : (P : List Statement) (s : Statement) (p : Predicate) → s ∈ P → p ∈ statement_predicates s → p ∈ occurring P
occurs [] s p k h = absurd k
occurs (t ∷ P) s p (inl e) h = ∈-append_left p (statement_predicates t) (occurring P) (subst (λ u. p ∈ statement_predicates u) e h)
occurs (t ∷ P) s p (inr k) h = ∈-append_right p (statement_predicates t) (occurring P) (occurs P s p k h)

pub head_occurs : (P : List Statement) (s : Statement) (p : Predicate) → s ∈ P → p ∈ head_predicates s.head → p ∈ occurring P
head_occurs P s p k h = occurs P s p k (∈-append_left p (head_predicates s.head) (needed_predicates s) h)

pub needed_occurs : (P : List Statement) (s : Statement) (p : Predicate) → s ∈ P → p ∈ needed_predicates s → p ∈ occurring P
needed_occurs P s p k h = occurs P s p k (∈-append_right p (head_predicates s.head) (needed_predicates s) h)

module _ (P : List Statement) (table : List Predicate) (rows : List (List ℕ)) (roots : List ℕ) (g : IsGraph P table rows) where
  -- each place of the predicate is reached
  abbrev AllReached : Predicate → Type 0
  AllReached p = (i : ℕ) → slice_get table i ≡ Some p → Reached rows roots i

  carried : (p q : Predicate) → DependsOn P p q → AllReached q → AllReached p
  carried p q (at_once h n s k a b) reached = λ i at.
      let found = place_of n table ((g.occur n).1 (needed_occurs P s n k b)) in
      onward i found.0 (reached found.0 found.1) ((g.rows_are found.0 i).1 (s, k, (h, a, at), (n, b, found.1)))
  carried p q (carried_on a b c d e) reached = carried a b d (carried b c e reached)

pub dependents_found : (P : List Statement) (table : List Predicate) (rows : List (List ℕ)) (s : Statement) (roots found : List ℕ) → IsGraph P table rows
    → ((i : ℕ) → (i ∈ roots) ↔ IsPlaceOf table (head_predicates s.head) i) → ((i : ℕ) → (i ∈ found) ↔ Reached rows roots i) → AreDependents P table s found
dependents_found P table rows s roots found g heads reached = record {
  sound = λ i k. reached_sound P table rows s roots g heads i ((reached i).0 k);
  complete = λ i p at d. (reached i).1 (all p d i at);
}
  where
    of_head : (h : Predicate) → h ∈ head_predicates s.head → AllReached P table rows roots g h
    of_head h k = λ i at. root i ((heads i).1 (h, k, at))

    all : (p : Predicate) → DependsOnHead P s p → AllReached P table rows roots g p
    all p (h, k, inl e) = subst (AllReached P table rows roots g) (sym e) (of_head h k)
    all p (h, k, inr d) = carried P table rows roots g p h d (of_head h k)
