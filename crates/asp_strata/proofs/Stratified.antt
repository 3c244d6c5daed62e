-- Strata beside a table of predicates.
use Rattle.std.proofs.Common.{◌≡◌, inl, inr, refl, sym, ap, subst, ◌∙◌, ℕ, zero, suc, ◌+◌, ◌<◌, Bool, true, false, List, [], ◌∷◌, ◌++◌, length, drop, drop-drop, get_or, slice_get, Some, None, if◌then◌else◌, true≢false}
use Rattle.std.proofs.lemmas.Option.{none-some, slice_get_within, slice_get-get_or}
use Rattle.lists.specs.Lists.{◌∈◌}
use Rattle.lists.proofs.ListLemmas.{∈-append_left, ∈-append_right, Each-from}
use Rattle.asp_syntax.specs.declared.tree.Statement.{Statement}
use Rattle.asp_strata.specs.declared.predicate.Predicate.{Predicate}
use Rattle.asp_strata.specs.Predicates.{predicate_eq}
use Rattle.asp_strata.specs.PredicateLaws.{predicate_same, predicate_equal}
use Rattle.asp_strata.specs.Recursion.{head_predicates, condition_of_head, body_predicates, element_predicates, needed_predicates, occurring}
use Rattle.asp_strata.specs.Strata.{AtMost, Below, Rises, IsStratification, stratum_in}
use Rattle.asp_strata.specs.Graphs.{Leads, IsGraph, KeepsUp, IsLayered}
use Rattle.asp_strata.proofs.Searching.{head_occurs, needed_occurs}

-- ---- looking a stratum up

pub stratum_here : (q p : Predicate) (qs : List Predicate) (ns : List ℕ) → predicate_eq q p ≡ true → stratum_in (q ∷ qs) ns p ≡ slice_get ns 0
stratum_here q p qs [] e = refl
stratum_here q p qs (n ∷ ns) e = ap (λ b. if b then Some n else stratum_in qs ns p) e

no_strata : (qs : List Predicate) (p : Predicate) → stratum_in qs [] p ≡ None
no_strata [] p = refl
no_strata (q ∷ qs) p = refl

pub stratum_later : (q p : Predicate) (qs : List Predicate) (ns : List ℕ) → predicate_eq q p ≡ false → stratum_in (q ∷ qs) ns p ≡ stratum_in qs (drop 1 ns) p
stratum_later q p qs [] e = sym (no_strata qs p)
stratum_later q p qs (n ∷ ns) e = ap (λ b. if b then Some n else stratum_in qs ns p) e

-- the stratum of a predicate stands beside it
pub beside : (qs : List Predicate) (ns : List ℕ) (p : Predicate) → p ∈ qs → (i : ℕ) × (slice_get qs i ≡ Some p) × (stratum_in qs ns p ≡ slice_get ns i)
beside [] ns p k = absurd k
beside (q ∷ qs) ns p k = by_case (predicate_eq q p) refl k (beside qs (drop 1 ns) p)
  where
    dropped : (ns : List ℕ) (i : ℕ) → slice_get (drop 1 ns) i ≡ slice_get ns (suc i)
    dropped [] i = refl
    dropped (n ∷ ns) i = refl

    by_case : (b : Bool) → predicate_eq q p ≡ b → p ∈ (q ∷ qs) → (p ∈ qs → (i : ℕ) × (slice_get qs i ≡ Some p) × (stratum_in qs (drop 1 ns) p ≡ slice_get (drop 1 ns) i))
        → (i : ℕ) × (slice_get (q ∷ qs) i ≡ Some p) × (stratum_in (q ∷ qs) ns p ≡ slice_get ns i)
    by_case true e k rest = (0, ap Some (predicate_same q p e), stratum_here q p qs ns e)
    by_case false e (inl same) rest = absurd (true≢false (sym (predicate_equal q p (sym same)) ∙ e))
    by_case false e (inr k) rest = let f = rest k in (suc f.0, f.1, stratum_later q p qs ns e ∙ f.2 ∙ dropped ns f.0)

pub stands_nowhere : (qs : List Predicate) (ns : List ℕ) (p : Predicate) → ¬ (p ∈ qs) → stratum_in qs ns p ≡ None
stands_nowhere [] ns p out = refl
stands_nowhere (q ∷ qs) ns p out = by_case (predicate_eq q p) refl (stands_nowhere qs (drop 1 ns) p (λ k. out (inr k)))
  where
    by_case : (b : Bool) → predicate_eq q p ≡ b → stratum_in qs (drop 1 ns) p ≡ None → stratum_in (q ∷ qs) ns p ≡ None
    by_case true e rest = absurd (out (inl (sym (predicate_same q p e))))
    by_case false e rest = stratum_later q p qs ns e ∙ rest

-- ---- the strata that were found

module _ (P : List Statement) (table : List Predicate) (rows : List (List ℕ)) (strata : List ℕ) (g : IsGraph P table rows) (size : length strata ≡ length table) (level : KeepsUp rows strata)
    (low : (s : Statement) → s ∈ P → IsLayered table strata s) where
  at : (p : Predicate) → p ∈ occurring P → (i : ℕ) × (slice_get table i ≡ Some p) × (stratum_in table strata p ≡ slice_get strata i)
  at p k = beside table strata p ((g.occur p).1 k)

  at_most : (s : Statement) (h q : Predicate) → s ∈ P → h ∈ head_predicates s.head → q ∈ needed_predicates s → AtMost (stratum_in table strata q) (stratum_in table strata h)
  at_most s h q k a b =
      let i = at h (head_occurs P s h k a) in
      let j = at q (needed_occurs P s q k b) in
      let leads : Leads rows j.0 i.0 = (g.rows_are j.0 i.0).1 (s, k, (h, a, i.1), (q, b, j.1)) in
      subst (λ o. AtMost o (stratum_in table strata h)) (sym j.2) (subst (λ o. AtMost (slice_get strata j.0) o) (sym i.2) (level j.0 i.0 leads))

  rises_in : (s : Statement) → s ∈ P → Rises (stratum_in table strata) s
  rises_in s k = record {
    body = λ h q a b. at_most s h q k a (∈-append_right q (condition_of_head s.head) _ (∈-append_left q (body_predicates s) (element_predicates s) b));
    conditions = λ h q a b. at_most s h q k a (∈-append_left q (condition_of_head s.head) (body_predicates s ++ element_predicates s) b);
    elements = λ h q a b.
        let i = at h (head_occurs P s h k a) in
        let j = at q (needed_occurs P s q k (∈-append_right q (condition_of_head s.head) _ (∈-append_right q (body_predicates s) (element_predicates s) b))) in
        subst (λ o. Below o (stratum_in table strata h)) (sym j.2) (subst (λ o. Below (slice_get strata j.0) o) (sym i.2) (low s k i.0 j.0 (h, a, i.1) (q, b, j.1)));
  }

  pub stratified : IsStratification P (stratum_in table strata)
  stratified = record {
    there = λ p k e.
        let i = at p k in
        let lt : i.0 < length strata = subst (λ n. i.0 < n) (sym size) (slice_get_within table i.0 p i.1) in
        none-some (get_or strata i.0 0) (sym e ∙ i.2 ∙ slice_get-get_or strata i.0 0 lt);
    none = λ p out. stands_nowhere table strata p (λ k. out ((g.occur p).0 k));
    rises = Each-from (Rises (stratum_in table strata)) P rises_in;
  }

-- ---- turns of the loop that looks one up

pub look_later : (qs : List Predicate) (ns : List ℕ) (i : ℕ) (q p : Predicate) → drop i qs ≡ q ∷ drop (i + 1) qs → predicate_eq q p ≡ false
    → stratum_in (drop (i + 1) qs) (drop (i + 1) ns) p ≡ stratum_in (drop i qs) (drop i ns) p
look_later qs ns i q p e no_match =
    ap (λ ms. stratum_in (drop (i + 1) qs) ms p) (sym (drop_more ns i)) ∙ sym (stratum_later q p (drop (i + 1) qs) (drop i ns) no_match) ∙ ap (λ l. stratum_in l (drop i ns) p) (sym e)
  where
    drop_more : (ms : List ℕ) (k : ℕ) → drop 1 (drop k ms) ≡ drop (k + 1) ms
    drop_more ms k = drop-drop 1 k ms

pub look_here : (qs : List Predicate) (ns : List ℕ) (i : ℕ) (q p : Predicate) → drop i qs ≡ q ∷ drop (i + 1) qs → predicate_eq q p ≡ true
    → slice_get ns i ≡ stratum_in (drop i qs) (drop i ns) p
look_here qs ns i q p e match = first ns i ∙ sym (stratum_here q p (drop (i + 1) qs) (drop i ns) match) ∙ ap (λ l. stratum_in l (drop i ns) p) (sym e)
  where
    first : (ms : List ℕ) (k : ℕ) → slice_get ms k ≡ slice_get (drop k ms) 0
    first ms zero = refl
    first [] (suc k) = refl
    first (m ∷ ms) (suc k) = first ms k
