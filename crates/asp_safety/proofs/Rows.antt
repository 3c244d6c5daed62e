-- The rows of clauses that wait.
use Rattle.std.proofs.Common.{◌≡◌, ◌⊎◌, ◌↔◌, inl, inr, refl, sym, ap, subst, ◌∙◌, ◌+◌, Bool, true, false, cond, List, [], ◌∷◌, ◌++◌, length, Option, Some, None, arith, true≢false}
use Rattle.std.specs.Map.{lookup, set_value}
use Rattle.std.specs.Option.{unwrap_or}
use Rattle.indexmap.specs.IndexMap.{insert_entry}
use Rattle.lists.specs.Lists.{◌∈◌}
use Rattle.lists.proofs.ListLemmas.{∈-append_left, ∈-append_right, ∈-append_cases}
use Rattle.asp_meaning.specs.Terms.{Variable}
use Rattle.asp_safety.specs.declared.clause.Clause.{Clause}
use Rattle.asp_safety.specs.Keys.{variable_eq}
use Rattle.asp_safety.specs.KeyLaws.{variable_same, variable_equal}
use Rattle.asp_safety.specs.Settling.{Waits, waiting_count}

abbrev Rows : Type 0
Rows = List (Variable × List Clause)

-- the test fails on variables that aren't the same
pub apart : (v u : Variable) → variable_eq v u ≡ false → ¬ (u ≡ v)
apart v u e same = true≢false (sym (variable_equal v u (sym same)) ∙ e)

-- ---- taking a row out

-- where no row is found, no clause waits
pub none_taken : (rows : Rows) (v : Variable) → lookup (variable_eq v) rows ≡ None → (c : Clause) → (c ∈ []) ↔ Waits rows v c
none_taken rows v e c = (λ k. absurd k, λ (row, is, k). absurd (cc))

pub none_left : (rows : Rows) (v : Variable) → lookup (variable_eq v) rows ≡ None → (u : Variable) (c : Clause) → Waits rows u c ↔ (Waits rows u c × (¬ (u ≡ v)))
none_left rows v e u c = (λ w. (w, λ same. (none_taken rows v e c).1 (subst (λ x. Waits rows x c) same w)), λ (w, h). w)

-- the clauses of a row are those that wait
pub some_taken : (rows : Rows) (v : Variable) (row : List Clause) → lookup (variable_eq v) rows ≡ Some row → (c : Clause) → (c ∈ row) ↔ Waits rows v c
some_taken rows v row e c = (λ k. (row, e, k), λ (other, is, k). let same : other ≡ row = cc in subst (λ xs. c ∈ xs) same k)

-- and once it is empty the others wait
pub some_left : (old new : Rows) (v : Variable) → ((q : Variable) → lookup (variable_eq q) new ≡ cond (variable_eq v q) (Some []) (lookup (variable_eq q) old))
    → (u : Variable) (c : Clause) → Waits new u c ↔ (Waits old u c × (¬ (u ≡ v)))
some_left old new v h u c = by_case (variable_eq v u) refl (h u)
  where
    by_case : (b : Bool) → variable_eq v u ≡ b → lookup (variable_eq u) new ≡ cond b (Some []) (lookup (variable_eq u) old) → Waits new u c ↔ (Waits old u c × (¬ (u ≡ v)))
    by_case true e is = (
      λ (row, at, k). let none : row ≡ [] = cc in absurd (subst (λ xs. c ∈ xs) none k),
      λ (w, other). absurd (other (sym (variable_same v u e))),
    )
    by_case false e is = (
      λ (row, at, k). ((row, sym is ∙ at, k), apart v u e),
      λ ((row, at, k), other). (row, is ∙ at, k),
    )

pub set_count : (test : Variable → Bool) (rows : Rows) (row : List Clause) → lookup test rows ≡ Some row → waiting_count (set_value test rows []) + length row ≡ waiting_count rows
set_count test [] row e = absurd (cc)
set_count test (r ∷ rows) row e = by_case (test r.0) e (set_count test rows row)
  where
    by_case : (b : Bool) → cond b (Some r.1) (lookup test rows) ≡ Some row
        → (lookup test rows ≡ Some row → waiting_count (set_value test rows []) + length row ≡ waiting_count rows)
        → waiting_count (cond b ((r.0, []) ∷ rows) (r ∷ set_value test rows [])) + length row ≡ length r.1 + waiting_count rows
    by_case true is rest = let same : r.1 ≡ row = cc in omega (arith, ap length same)
    by_case false is rest = omega (arith, rest is)

-- ---- putting a clause in

-- the clauses that wait for v
abbrev pub row_of : Rows → Variable → List Clause
row_of rows v = unwrap_or (lookup (variable_eq v) rows) []

is_row : (rows : Rows) (v : Variable) (c : Clause) → (c ∈ row_of rows v) ↔ Waits rows v c
is_row rows v c = by_case (lookup (variable_eq v) rows) refl
  where
    by_case : (o : Option (List Clause)) → lookup (variable_eq v) rows ≡ o → (c ∈ unwrap_or o []) ↔ Waits rows v c
    by_case None e = none_taken rows v e c
    by_case (Some row) e = some_taken rows v row e c

pub put_waits : (old new : Rows) (v : Variable) (more : List Clause) (d : Clause) → more ≡ row_of old v ++ d ∷ []
    → ((q : Variable) → lookup (variable_eq q) new ≡ cond (variable_eq v q) (Some more) (lookup (variable_eq q) old))
    → (u : Variable) (c : Clause) → Waits new u c ↔ (Waits old u c ⊎ ((u ≡ v) × (c ≡ d)))
put_waits old new v more d longer h u c = by_case (variable_eq v u) refl (h u)
  where
    by_case : (b : Bool) → variable_eq v u ≡ b → lookup (variable_eq u) new ≡ cond b (Some more) (lookup (variable_eq u) old)
        → Waits new u c ↔ (Waits old u c ⊎ ((u ≡ v) × (c ≡ d)))
    by_case true e is =
        let same : v ≡ u = variable_same v u e in (
          λ (other, at, k).
              let whole : other ≡ row_of old v ++ d ∷ [] = cc in
              elim (∈-append_cases c (row_of old v) (d ∷ []) (subst (λ xs. c ∈ xs) whole k)) [
                | inl k ↦ inl (subst (λ x. Waits old x c) same ((is_row old v c).0 k))
                | inr k ↦ elim k [ inl here ↦ inr (sym same, here) | inr none ↦ absurd none ]
              ],
          λ k. (
            row_of old v ++ d ∷ [],
            is ∙ ap Some longer,
            elim k [
              | inl w ↦ ∈-append_left c (row_of old v) (d ∷ []) ((is_row old v c).1 (subst (λ x. Waits old x c) (sym same) w))
              | inr (at, here) ↦ ∈-append_right c (row_of old v) (d ∷ []) (inl here)
            ],
          ),
        )
    by_case false e is = (
      λ (other, at, k). inl (other, sym is ∙ at, k),
      λ k. elim k [
        | inl (other, at, k) ↦ (other, is ∙ at, k)
        | inr (at, here) ↦ absurd (apart v u e at)
      ],
    )

pub insert_count : (v : Variable) (more : List Clause) (rows : Rows) → waiting_count (insert_entry variable_eq rows v more) + length (row_of rows v) ≡ waiting_count rows + length more
insert_count v more [] = omega arith
insert_count v more (r ∷ rows) = by_case (variable_eq v r.0) (insert_count v more rows)
  where
    by_case : (b : Bool) → waiting_count (insert_entry variable_eq rows v more) + length (row_of rows v) ≡ waiting_count rows + length more
        → waiting_count (cond b ((r.0, more) ∷ rows) (r ∷ insert_entry variable_eq rows v more)) + length (unwrap_or (cond b (Some r.1) (lookup (variable_eq v) rows)) [])
        ≡ (length r.1 + waiting_count rows) + length more
    by_case true rest = omega arith
    by_case false rest = omega (arith, rest)
