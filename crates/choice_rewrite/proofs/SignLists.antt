-- The predicates that were seen, as the code holds them.
use Rattle.std.proofs.Common.{◌≡◌, refl, sym, ap, ◌∙◌, ℕ, suc, ◌<◌, ◌-◌, ◌+◌, Bool, true, false, cond, ◌||◌, List, [], ◌∷◌, ◌++◌, append_assoc, arith}
use Rattle.asp_syntax.specs.declared.tree.Term.{Term}
use Rattle.asp_syntax.specs.declared.tree.Term.TheVariants as tree
use Rattle.asp_strata.specs.declared.predicate.Predicate.{Predicate}
use Rattle.asp_strata.specs.Predicates.{predicate_eq}
use Rattle.single_rules.specs.Signs.{opposite, has_predicate, later_signs, variables_from}

-- later signs depend on what was seen by the test alone
same_later : (xs ys : List Predicate) → ((q : Predicate) → has_predicate xs q ≡ has_predicate ys q) → (ps : List Predicate)
    → later_signs xs ps ≡ later_signs ys ps
same_later xs ys same [] = refl
same_later xs ys same (p ∷ ps) =
    let here = same p in
    let other = same (opposite p) in
    let passed = same_later xs ys same ps in
    let put = same_later (p ∷ xs) (p ∷ ys) (λ q. ap (λ b. predicate_eq q p || b) (same q)) ps in
    λ i. cond (here i) (passed i) (cond (other i) (p ∷ put i) (put i))

-- the order of tests doesn't matter
or_swapped : (a b c : Bool) → (a || (b || c)) ≡ (b || (a || c))
or_swapped true true c = refl
or_swapped true false c = refl
or_swapped false true c = refl
or_swapped false false c = refl

-- and so not where in a list a predicate stands
last_is_first : (xs : List Predicate) (p q : Predicate) → has_predicate (xs ++ p ∷ []) q ≡ has_predicate (p ∷ xs) q
last_is_first [] p q = refl
last_is_first (x ∷ xs) p q =
    ap (λ b. predicate_eq q x || b) (last_is_first xs p q) ∙ or_swapped (predicate_eq q x) (predicate_eq q p) (has_predicate xs q)

-- one that was seen gives nothing
pub was_seen : (later seen ps : List Predicate) (p : Predicate) → has_predicate seen p ≡ true
    → later ++ later_signs seen ps ≡ later ++ later_signs seen (p ∷ ps)
was_seen later seen ps p is = ap (λ xs. later ++ xs)
    (sym (ap (λ b. cond b (later_signs seen ps)
    (cond (has_predicate seen (opposite p)) (p ∷ later_signs (p ∷ seen) ps) (later_signs (p ∷ seen) ps))) is))

-- one whose other sign was seen comes later
pub comes_later : (later more seen new ps : List Predicate) (p : Predicate) → has_predicate seen p ≡ false
    → has_predicate seen (opposite p) ≡ true
    → more ≡ later ++ p ∷ [] → new ≡ seen ++ p ∷ [] → more ++ later_signs new ps ≡ later ++ later_signs seen (p ∷ ps)
comes_later later more seen new ps p is other m n =
    let step : later_signs seen (p ∷ ps) ≡ p ∷ later_signs (p ∷ seen) ps =
    λ i. cond (is i) (later_signs seen ps) (cond (other i) (p ∷ later_signs (p ∷ seen) ps) (later_signs (p ∷ seen) ps)) in
    (λ i. m i ++ later_signs (n i) ps) ∙ append_assoc later (p ∷ []) (later_signs (seen ++ p ∷ []) ps)
    ∙ ap (λ xs. later ++ p ∷ xs) (same_later (seen ++ p ∷ []) (p ∷ seen) (last_is_first seen p) ps)
    ∙ sym (ap (λ xs. later ++ xs) step)

-- one whose other sign wasn't seen is only put to those that were
pub comes_first : (later seen new ps : List Predicate) (p : Predicate) → has_predicate seen p ≡ false
    → has_predicate seen (opposite p) ≡ false
    → new ≡ seen ++ p ∷ [] → later ++ later_signs new ps ≡ later ++ later_signs seen (p ∷ ps)
comes_first later seen new ps p is other n =
    let step : later_signs seen (p ∷ ps) ≡ later_signs (p ∷ seen) ps =
    λ i. cond (is i) (later_signs seen ps) (cond (other i) (p ∷ later_signs (p ∷ seen) ps) (later_signs (p ∷ seen) ps)) in
    ap (λ xs. later ++ later_signs xs ps) n
    ∙ ap (λ xs. later ++ xs) (same_later (seen ++ p ∷ []) (p ∷ seen) (last_is_first seen p) ps)
    ∙ sym (ap (λ xs. later ++ xs) step)

-- the first of so many variables
pub variables_more : (k n : ℕ) → k < n → variables_from k (n - k) ≡ tree.Anonymous k ∷ variables_from (suc k) (n - suc k)
variables_more k n below = let e : n - k ≡ suc (n - suc k) = omega (arith, below) in ap (variables_from k) e

-- ---- one predicate more

-- where its other sign was seen
pub noted_later : (later put last seen middle new ps : List Predicate) (p one two other : Predicate) → has_predicate seen p ≡ false
    → other ≡ opposite p
    → has_predicate seen other ≡ true → one ≡ p → two ≡ p → put ≡ later ++ one ∷ [] → last ≡ put → middle ≡ seen → new ≡ middle ++ two ∷ []
    → last ++ later_signs new ps ≡ later ++ later_signs seen (p ∷ ps)
noted_later later put last seen middle new ps p one two other is o h i j e f m n =
    comes_later later last seen new ps p is (sym (ap (has_predicate seen) o) ∙ h) (f ∙ e ∙ ap (λ q. later ++ q ∷ []) i)
    (n ∙ (λ k. m k ++ j k ∷ []))

-- where it wasn't
pub noted_first : (later last seen new ps : List Predicate) (p two other : Predicate) → has_predicate seen p ≡ false → other ≡ opposite p
    → has_predicate seen other ≡ false → two ≡ p → last ≡ later → new ≡ seen ++ two ∷ []
    → last ++ later_signs new ps ≡ later ++ later_signs seen (p ∷ ps)
noted_first later last seen new ps p two other is o h j f n =
    ap (λ xs. xs ++ later_signs new ps) f
    ∙ comes_first later seen new ps p is (sym (ap (has_predicate seen) o) ∙ h) (n ∙ ap (λ q. seen ++ q ∷ []) j)

-- ---- a loop over predicates

-- one turn
pub signs_on : (later more seen new left old whole : List Predicate) (p : Predicate) → old ≡ p ∷ left
    → ((ps : List Predicate) → more ++ later_signs new ps ≡ later ++ later_signs seen (p ∷ ps)) → later ++ later_signs seen old ≡ whole
    → more ++ later_signs new left ≡ whole
signs_on later more seen new left old whole p at step h = step left ∙ ap (λ xs. later ++ later_signs seen xs) (sym at) ∙ h

-- ---- a loop over numbers

-- one variable more
pub variables_on : (terms more : List Term) (k n : ℕ) (t : Term) (whole : List Term) → k < n → t ≡ tree.Anonymous k → more ≡ terms ++ t ∷ []
    → terms ++ variables_from k (n - k) ≡ whole → more ++ variables_from (k + 1) (n - (k + 1)) ≡ whole
variables_on terms more k n t whole below is e h =
    let next : k + 1 ≡ suc k = omega arith in
    ap (λ m. more ++ variables_from m (n - m)) next
    ∙ ap (λ xs. xs ++ variables_from (suc k) (n - suc k)) e ∙ append_assoc terms (t ∷ []) (variables_from (suc k) (n - suc k))
    ∙ ap (λ u. terms ++ u ∷ variables_from (suc k) (n - suc k)) is ∙ ap (λ xs. terms ++ xs) (sym (variables_more k n below)) ∙ h
