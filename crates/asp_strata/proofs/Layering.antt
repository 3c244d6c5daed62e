-- Strata as they are raised.
use Rattle.std.proofs.Common.{◌≡◌, ◌⊎◌, inl, inr, refl, sym, ap, subst, ◌∙◌, ℕ, zero, suc, ◌+◌, ◌<◌, List, [], ◌∷◌, ◌++◌, length, slice_get, Option, Some, None, arith}
use Rattle.std.specs.Option.{option_map}
use Rattle.std.proofs.lemmas.Option.{same_Some, slice_get_within}
use Rattle.lists.specs.Lists.{◌∈◌, HasNoRepeats, Each}
use Rattle.lists.proofs.ListLemmas.{∈-append_right, Each-at}
use Rattle.asp_syntax.specs.declared.tree.Statement.{Statement}
use Rattle.asp_strata.specs.declared.predicate.Predicate.{Predicate}
use Rattle.asp_strata.specs.Recursion.{head_predicates, condition_of_head, body_predicates, element_predicates, needed_predicates, occurring, DependsOn, at_once, carried_on, DependsOnHead, HasNoRecursion, written}
use Rattle.asp_strata.specs.Firsts.{FirstDependent, FirstRecursiveOf}
use Rattle.asp_strata.specs.Strata.{AtMost, Below}
use Rattle.asp_strata.specs.Graphs.{IsPlaceOf, Leads, IsGraph, AreDependents, IsFound, FindsDependent, Raised, KeepsUp, IsLayered, Climbs}
use Rattle.asp_strata.proofs.Members.{nat_decided, place_of}
use Rattle.asp_strata.proofs.GraphLemmas.{same_or_not}
use Rattle.asp_strata.proofs.Searching.{head_occurs}
use Rattle.asp_strata.proofs.FirstBad.{first_here, first_later}

-- ---- raising one stratum after another

pub raised_on : (old cur next found rest left : List ℕ) (p : ℕ) → rest ≡ p ∷ left → HasNoRepeats rest → Raised old cur found rest
    → slice_get next p ≡ option_map (λ n. n + 1) (slice_get cur p) → ((i : ℕ) → ¬ (i ≡ p) → slice_get next i ≡ slice_get cur i) → length next ≡ length cur
    → Raised old next found left
raised_on old cur next found rest left p e once r here others size = record {
  size = size ∙ r.size;
  inside = λ i k. r.inside i (still i k);
  later = λ i k. others i (λ same. out (subst (λ j. j ∈ left) same k)) ∙ r.later i (still i k);
  raised = λ i k. elim (same_or_not i p) [
    | inl same ↦ inr (subst (λ j. slice_get next j ≡ option_map (λ n. n + 1) (slice_get old j)) (sym same) (here ∙ ap (option_map (λ n. n + 1)) (r.later p first)))
    | inr apart ↦ elim (r.raised i k) [
      | inl k ↦ elim (subst (λ xs. i ∈ xs) e k) [ inl same ↦ absurd (apart same) | inr k ↦ inl k ]
      | inr h ↦ inr (others i apart ∙ h)
    ]
  ];
  other = λ i away. others i (λ same. away (subst (λ j. j ∈ found) (sym same) (r.inside p first))) ∙ r.other i away;
}
  where
    first : p ∈ rest
    first = subst (λ xs. p ∈ xs) (sym e) (inl refl)

    still : (i : ℕ) → i ∈ left → i ∈ rest
    still i k = subst (λ xs. i ∈ xs) (sym e) (inr k)

    out : ¬ (p ∈ left)
    out = (subst HasNoRepeats e once).0

-- at first none is raised
pub raising_begins : (old found : List ℕ) → Raised old old found found
raising_begins old found = record { size = refl; inside = λ i k. k; later = λ i k. refl; raised = λ i k. inl k; other = λ i k. refl }

-- ---- comparing strata

abbrev up : Option ℕ → Option ℕ
up = option_map (λ n. n + 1)

both_up : (o p : Option ℕ) → AtMost o p → AtMost (up o) (up p)
both_up (Some m) (Some n) h = omega (arith, h)
both_up (Some m) None h = absurd h
both_up None (Some n) h = absurd h
both_up None None h = absurd h

head_up : (o p : Option ℕ) → AtMost o p → AtMost o (up p)
head_up (Some m) (Some n) h = omega (arith, h)
head_up (Some m) None h = absurd h
head_up None (Some n) h = absurd h
head_up None None h = absurd h

above : (o p : Option ℕ) → AtMost o p → Below o (up p)
above (Some m) (Some n) h = omega (arith, h)
above (Some m) None h = absurd h
above None (Some n) h = absurd h
above None None h = absurd h

both_up_below : (o p : Option ℕ) → Below o p → Below (up o) (up p)
both_up_below (Some m) (Some n) h = omega (arith, h)
both_up_below (Some m) None h = absurd h
both_up_below None (Some n) h = absurd h
both_up_below None None h = absurd h

head_up_below : (o p : Option ℕ) → Below o p → Below o (up p)
head_up_below (Some m) (Some n) h = omega (arith, h)
head_up_below (Some m) None h = absurd h
head_up_below None (Some n) h = absurd h
head_up_below None None h = absurd h

-- ---- what depends on a head

depends_occurs : (P : List Statement) (p q : Predicate) → DependsOn P p q → p ∈ occurring P
depends_occurs P p q (at_once h n s k a b) = head_occurs P s h k a
depends_occurs P p q (carried_on a b c d e) = depends_occurs P a b d

pub found_depends : (P : List Statement) (table : List Predicate) (s : Statement) (found : List ℕ) (p : Predicate) → AreDependents P table s found → IsFound table found p → DependsOnHead P s p
found_depends P table s found p d (i, at, k) = let a = d.sound i k in subst (DependsOnHead P s) (same_Some a.0 p (sym a.1 ∙ at)) a.2

pub depends_found : (P : List Statement) (table : List Predicate) (rows : List (List ℕ)) (s : Statement) (found : List ℕ) (p : Predicate) → IsGraph P table rows → s ∈ P → AreDependents P table s found
    → DependsOnHead P s p → IsFound table found p
depends_found P table rows s found p g k d h =
    let place = place_of p table ((g.occur p).1 (there h)) in
    (place.0, place.1, d.complete place.0 p place.1 h)
  where
    there : DependsOnHead P s p → p ∈ occurring P
    there (q, a, inl e) = head_occurs P s p k (subst (λ r. r ∈ head_predicates s.head) (sym e) a)
    there (q, a, inr e) = depends_occurs P p q e

pub finds_here : (P : List Statement) (s : Statement) (p : Predicate) (ps old : List Predicate) (name : List ℕ) → old ≡ p ∷ ps → DependsOnHead P s p → name ≡ written p → FindsDependent P s old (Some name)
finds_here P s p ps old name e d w = subst (λ qs. FindsDependent P s qs (Some name)) (sym e) (p, first_here (λ q. ¬ DependsOnHead P s q) p ps (λ good. good d), d, w)

pub finds_later : (P : List Statement) (s : Statement) (p : Predicate) (ps old : List Predicate) (o : Option (List ℕ)) → old ≡ p ∷ ps → ¬ DependsOnHead P s p → FindsDependent P s ps o → FindsDependent P s old o
finds_later P s p ps old None e n h = subst (λ qs. FindsDependent P s qs None) (sym e) (n, h)
finds_later P s p ps old (Some name) e n (q, f, d, w) = subst (λ qs. FindsDependent P s qs (Some name)) (sym e) (q, first_later (λ r. ¬ DependsOnHead P s r) p q ps n f, d, w)

-- ---- what one statement raises

elements_needed : (s : Statement) (p : Predicate) → p ∈ element_predicates s → p ∈ needed_predicates s
elements_needed s p k = ∈-append_right p (condition_of_head s.head) (body_predicates s ++ element_predicates s) (∈-append_right p (body_predicates s) (element_predicates s) k)

module _ (P : List Statement) (table : List Predicate) (rows : List (List ℕ)) (g : IsGraph P table rows) where
  -- rows lead from the elements of a statement to its head
  element_leads : (t : Statement) → t ∈ P → (i j : ℕ) → IsPlaceOf table (head_predicates t.head) i → IsPlaceOf table (element_predicates t) j → Leads rows j i
  element_leads t k i j h e = (g.rows_are j i).1 (t, k, h, (e.0, elements_needed t e.0 e.1, e.2))

  module _ (s : Statement) (found old new : List ℕ) (here : s ∈ P) (d : AreDependents P table s found) (r : Raised old new found []) where
    lifted : (i : ℕ) → i ∈ found → slice_get new i ≡ up (slice_get old i)
    lifted i k = elim (r.raised i k) [ inl none ↦ absurd none | inr e ↦ e ]

    -- what depends on a predicate that was found was found
    closed : (j i : ℕ) → j ∈ found → Leads rows j i → i ∈ found
    closed j i k l =
        let a = d.sound j k in
        let linked = (g.rows_are j i).0 l in
        let h = linked.2 in
        let n = linked.3 in
        let once : DependsOn P h.0 a.0 = subst (λ q. DependsOn P h.0 q) (same_Some n.0 a.0 (sym n.2 ∙ a.1)) (at_once h.0 n.0 linked.0 linked.1 h.1 n.1) in
        d.complete i h.0 h.2 (a.2.0, a.2.1, inr (elim a.2.2 [ inl e ↦ subst (λ q. DependsOn P h.0 q) e once | inr c ↦ carried_on h.0 a.0 a.2.0 once c ]))

    pub climbs : Climbs table rows P old new
    climbs = record {
      size = r.size;
      keeps_up = λ level j i l. elim (nat_decided j found) [
        | inl k ↦ subst (λ o. AtMost o (slice_get new i)) (sym (lifted j k)) (subst (λ o. AtMost (up (slice_get old j)) o) (sym (lifted i (closed j i k l))) (both_up (slice_get old j) (slice_get old i) (level j i l)))
        | inr out ↦ subst (λ o. AtMost o (slice_get new i)) (sym (r.other j out)) (elim (nat_decided i found) [
          | inl k ↦ subst (λ o. AtMost (slice_get old j) o) (sym (lifted i k)) (head_up (slice_get old j) (slice_get old i) (level j i l))
          | inr away ↦ subst (λ o. AtMost (slice_get old j) o) (sym (r.other i away)) (level j i l)
        ])
      ];
      layered = λ t k low i j h e. elim (nat_decided j found) [
        | inl f ↦ subst (λ o. Below o (slice_get new i)) (sym (lifted j f)) (subst (λ o. Below (up (slice_get old j)) o) (sym (lifted i (closed j i f (element_leads t k i j h e)))) (both_up_below (slice_get old j) (slice_get old i) (low i j h e)))
        | inr out ↦ subst (λ o. Below o (slice_get new i)) (sym (r.other j out)) (elim (nat_decided i found) [
          | inl f ↦ subst (λ o. Below (slice_get old j) o) (sym (lifted i f)) (head_up_below (slice_get old j) (slice_get old i) (low i j h e))
          | inr away ↦ subst (λ o. Below (slice_get old j) o) (sym (r.other i away)) (low i j h e)
        ])
      ];
    }

    -- the head is above the elements then, where none of their predicates depends on it
    pub lifted_above : Each (λ q. ¬ DependsOnHead P s q) (element_predicates s) → KeepsUp rows old → IsLayered table new s
    lifted_above none level i j h e =
        let out : ¬ (j ∈ found) = λ k. Each-at (λ q. ¬ DependsOnHead P s q) (element_predicates s) e.0 none e.1 (found_depends P table s found e.0 d (j, e.2, k)) in
        let inside : i ∈ found = d.complete i h.0 h.2 (h.0, h.1, inl refl) in
        subst (λ o. Below o (slice_get new i)) (sym (r.other j out)) (subst (λ o. Below (slice_get old j) o) (sym (lifted i inside)) (above (slice_get old j) (slice_get old i) (level j i (element_leads s here i j h e))))

-- ---- at the beginning all strata are the same

zero_at : (xs : List ℕ) (i : ℕ) → Each (λ n. n ≡ 0) xs → i < length xs → slice_get xs i ≡ Some 0
zero_at [] i each lt = absurd (omega (arith, lt))
zero_at (x ∷ xs) zero each lt = ap Some each.0
zero_at (x ∷ xs) (suc i) each lt = zero_at xs i each.1 (omega (arith, lt))

pub zeros_level : (P : List Statement) (table : List Predicate) (rows : List (List ℕ)) (strata : List ℕ) → IsGraph P table rows → length strata ≡ length table → Each (λ n. n ≡ 0) strata → KeepsUp rows strata
zeros_level P table rows strata g size all_zero j i l =
    let linked = (g.rows_are j i).0 l in
    let at : (k : ℕ) (p : Predicate) → slice_get table k ≡ Some p → slice_get strata k ≡ Some 0 = λ k p e. zero_at strata k all_zero (let lt = slice_get_within table k p e in omega (arith, lt, size)) in
    let least : AtMost (Some 0) (Some 0) = omega arith in
    subst (λ o. AtMost o (slice_get strata i)) (sym (at j linked.3.0 linked.3.2)) (subst (λ o. AtMost (Some 0) o) (sym (at i linked.2.0 linked.2.2)) least)

-- ---- recursive aggregates

pub is_recursive : (P : List Statement) (s : Statement) (name : List ℕ) → FirstDependent P s name → ¬ HasNoRecursion P s
is_recursive P s name (p, f, d, w) each = f.bad (Each-at (λ q. ¬ DependsOnHead P s q) (element_predicates s) p each (subst (λ xs. p ∈ xs) (sym f.stands) (∈-append_right p f.front (p ∷ f.back) (inl refl))))

-- one turn of the loop over the statements
pub recursive_on : (P : List Statement) (s : Statement) (old left whole : List Statement) → old ≡ s ∷ left → HasNoRecursion P s
    → ((line : ℕ) (name : List ℕ) → FirstRecursiveOf P old line name → FirstRecursiveOf P whole line name)
    → (line : ℕ) (name : List ℕ) → FirstRecursiveOf P left line name → FirstRecursiveOf P whole line name
recursive_on P s old left whole e good h line name (t, f, l, d) = h line name (subst (λ xs. FirstRecursiveOf P xs line name) (sym e) (t, first_later (HasNoRecursion P) s t left good f, l, d))

-- what was seen before a turn still holds after it
pub seen_up : (Before After : Statement → Type 0) (P old : List Statement) → ((s : Statement) → s ∈ P → Before s → After s) → ((s : Statement) → s ∈ P → (s ∈ old) ⊎ Before s)
    → (s : Statement) → s ∈ P → (s ∈ old) ⊎ After s
seen_up Before After P old up seen s k = elim (seen s k) [ inl k ↦ inl k | inr h ↦ inr (up s k h) ]
