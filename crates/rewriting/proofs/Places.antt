-- The table of a rule's variables: each stands in it once, and its place is a number below the length.
use Rattle.std.proofs.Common.{◌≡◌, ◌<◌, ◌⊎◌, inl, inr, refl, sym, ap, subst, ◌∙◌, ℕ, zero, suc, Bool, true, false, cond, List, [], ◌∷◌, ◌++◌, length, arith, true≢false}
use Rattle.lists.specs.Lists.{◌∈◌, HasNoRepeats}
use Rattle.lists.proofs.ListLemmas.{∈-append_left, ∈-append_right, ∈-append_cases}
use Rattle.asp_meaning.specs.Terms.{Variable}
use Rattle.asp_safety.specs.Keys.{variable_eq}
use Rattle.asp_safety.specs.KeyLaws.{variable_same, variable_itself}
use Rattle.asp_safety.proofs.Sets.{∈-from_test, test-from_∈}
use Rattle.rewriting.specs.Numbering.{has_variable, with_variable, with_variables, place}

-- ---- what stands in the table

-- the variable stands in the table with it
there : (table : List Variable) (v : Variable) → v ∈ with_variable table v
there table v = by_case (has_variable table v) refl
  where
    by_case : (b : Bool) → has_variable table v ≡ b → v ∈ (cond b table (table ++ v ∷ []))
    by_case true e = ∈-from_test v table e
    by_case false e = ∈-append_right v table (v ∷ []) (inl refl)

-- what stands in the table stays there
stays_there : (table : List Variable) (v w : Variable) → w ∈ table → w ∈ with_variable table v
stays_there table v w k = by_case (has_variable table v)
  where
    by_case : (b : Bool) → w ∈ (cond b table (table ++ v ∷ []))
    by_case true = k
    by_case false = ∈-append_left w table (v ∷ []) k

-- what stands in the table with a variable is that variable or stood there before
from_there : (table : List Variable) (v w : Variable) → w ∈ with_variable table v → (w ∈ table) ⊎ (w ≡ v)
from_there table v w k = by_case (has_variable table v) k
  where
    last : w ∈ (v ∷ []) → (w ∈ table) ⊎ (w ≡ v)
    last (inl e) = inr e
    last (inr none) = absurd none

    by_case : (b : Bool) → w ∈ (cond b table (table ++ v ∷ [])) → (w ∈ table) ⊎ (w ≡ v)
    by_case true k = inl k
    by_case false k = elim (∈-append_cases w table (v ∷ []) k) [ inl h ↦ inl h | inr h ↦ last h ]

-- a member more at the end makes no repeat where it wasn't there
once_more : {A : Type 0} (xs : List A) (x : A) → HasNoRepeats xs → (¬ (x ∈ xs)) → HasNoRepeats (xs ++ x ∷ [])
once_more [] x once apart = ((λ k. k), tt)
once_more (y ∷ ys) x once apart = (
  (λ k. elim (∈-append_cases y ys (x ∷ []) k) [ inl h ↦ once.0 h | inr h ↦ elim h [ inl e ↦ apart (inl (sym e)) | inr none ↦ none ] ]),
  once_more ys x once.1 (λ k. apart (inr k)),
)

-- with a variable more no variable stands twice
once_with : (table : List Variable) (v : Variable) → HasNoRepeats table → HasNoRepeats (with_variable table v)
once_with table v once = by_case (has_variable table v) refl
  where
    by_case : (b : Bool) → has_variable table v ≡ b → HasNoRepeats (cond b table (table ++ v ∷ []))
    by_case true e = once
    by_case false e = once_more table v once (λ k. absurd (true≢false (sym (test-from_∈ v table k) ∙ e)))

-- what stands in the table stays there as more come
pub stays_in : (table vs : List Variable) (w : Variable) → w ∈ table → w ∈ with_variables table vs
stays_in table [] w k = k
stays_in table (v ∷ vs) w k = stays_in (with_variable table v) vs w (stays_there table v w k)

-- each that comes stands in the table
pub comes_in : (table vs : List Variable) (w : Variable) → w ∈ vs → w ∈ with_variables table vs
comes_in table [] w k = absurd k
comes_in table (v ∷ vs) w (inl e) = stays_in (with_variable table v) vs w (subst (λ u. u ∈ with_variable table v) (sym e) (there table v))
comes_in table (v ∷ vs) w (inr k) = comes_in (with_variable table v) vs w k

-- only those that came stand in it
pub comes_from : (table vs : List Variable) (w : Variable) → w ∈ with_variables table vs → (w ∈ table) ⊎ (w ∈ vs)
comes_from table [] w k = inl k
comes_from table (v ∷ vs) w k = elim (comes_from (with_variable table v) vs w k) [
  | inl h ↦ elim (from_there table v w h) [ inl j ↦ inl j | inr e ↦ inr (inl e) ]
  | inr h ↦ inr (inr h)
]

-- none stands in it twice
pub comes_once : (table vs : List Variable) → HasNoRepeats table → HasNoRepeats (with_variables table vs)
comes_once table [] once = once
comes_once table (v ∷ vs) once = comes_once (with_variable table v) vs (once_with table v once)

-- ---- places

-- the place of a variable that stands in the table is below its length
pub place_below : (table : List Variable) (v : Variable) → v ∈ table → place table v < length table
place_below [] v k = absurd k
place_below (w ∷ ws) v k = by_case (variable_eq w v) refl (elim k [ inl e ↦ inl e | inr h ↦ inr (place_below ws v h) ])
  where
    by_case : (b : Bool) → variable_eq w v ≡ b → (v ≡ w) ⊎ (place ws v < length ws) → (cond b 0 (suc (place ws v))) < length (w ∷ ws)
    by_case true e h = omega arith
    by_case false e (inl same) = absurd (true≢false (sym (subst (λ u. variable_eq u v ≡ true) same (variable_itself v)) ∙ e))
    by_case false e (inr h) = omega arith

-- the variable of a place
pub record IsAt (table : List Variable) (i : ℕ) : Type 0 where
  pub variable : Variable
  pub among : variable ∈ table
  pub is : place table variable ≡ i

-- each number below the length of a table without repeats is the place of a variable
pub at_place : (table : List Variable) (i : ℕ) → HasNoRepeats table → i < length table → IsAt table i
at_place [] i once below = absurd (omega arith)
at_place (w ∷ ws) zero once below = record { variable = w; among = inl refl; is = ap (λ b. cond b 0 (suc (place ws w))) (variable_itself w) }
at_place (w ∷ ws) (suc i) once below =
    let found = at_place ws i once.1 (omega arith) in record {
      variable = found.variable;
      among = inr found.among;
      is = by_case found.variable found.among found.is (variable_eq w found.variable) refl;
    }
  where
    by_case : (v : Variable) → v ∈ ws → place ws v ≡ i → (b : Bool) → variable_eq w v ≡ b → (cond b 0 (suc (place ws v))) ≡ suc i
    by_case v k e true same = absurd (once.0 (subst (λ u. u ∈ ws) (sym (variable_same w v same)) k))
    by_case v k e false other = ap suc e
