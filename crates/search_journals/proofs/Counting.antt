-- What is learned is new, so that only so much can be learned.
use Rattle.std.proofs.Common.{◌≡◌, ℕ, zero, suc, ◌^◌, ◌<◌, ◌≤◌, ◌⊎◌, Bool, true, false, not, ◌&&◌, ◌||◌, cond, List, [], ◌∷◌, ◌++◌, map, refl, sym, ap, subst, inl, inr, arith}
use Rattle.std.specs.Prelude.{None, nat_eq}
use Rattle.std.specs.List.{list_any}
use Rattle.lists.specs.Lists.{◌∈◌, ◌⊆◌}
use Rattle.lists.proofs.ListLemmas.{∈-append_left, ∈-append_right}
use Rattle.alpha_outside.specs.declared.literal.Lit.{Lit}
use Rattle.search_values.specs.Values.{lit}
use Rattle.search_values.specs.Nogoods.{Nogood}
use Rattle.search_values.specs.Tables.{same_lit}
use Rattle.search_values.proofs.Basics.{nat_eq-true, nat_eq-same, and_left, and_right, and_intro, or_cases, or_left, or_right, any_to, any_from}
use Rattle.search_journals.specs.Measures.{id_count, candidates, has, all_in, is_empty, blocks, open_of, still_open}

-- ---- literals in lists

-- signs that the test calls the same are
signs_same : (a b : Bool) → ((a && b) || (not a && not b)) ≡ true → a ≡ b
signs_same true true h = refl
signs_same false false h = refl
signs_same true false h = absurd (let k : false ≡ true = h in cc)
signs_same false true h = absurd (let k : false ≡ true = h in cc)

-- a sign is the same as itself
same_signs : (a : Bool) → ((a && a) || (not a && not a)) ≡ true
same_signs true = refl
same_signs false = refl

-- literals that the test calls the same are
same_lit-true : (l k : Lit) → same_lit l k ≡ true → l ≡ k
same_lit-true l k h =
    let a = nat_eq-true l.atom k.atom
    (and_left (nat_eq l.atom k.atom) ((l.positive && k.positive) || (not l.positive && not k.positive)) h) in
    let b = signs_same l.positive k.positive
    (and_right (nat_eq l.atom k.atom) ((l.positive && k.positive) || (not l.positive && not k.positive)) h) in
    λ i. record { atom = a i; positive = b i }

-- a literal is the same as itself
same_lit-same : (l : Lit) → same_lit l l ≡ true
same_lit-same l = and_intro (nat_eq l.atom l.atom) ((l.positive && l.positive) || (not l.positive && not l.positive)) (nat_eq-same l.atom)
    (same_signs l.positive)

-- what the test finds is a member
has_in : (ls : List Lit) (l : Lit) → has ls l ≡ true → l ∈ ls
has_in [] l h = cc
has_in (k ∷ ks) l h = elim (or_cases (same_lit k l) (has ks l) h) [ inl e ↦ inl (sym (same_lit-true k l e)) | inr r ↦ inr (has_in ks l r) ]

-- and it finds each member
in_has : (ls : List Lit) (l : Lit) → l ∈ ls → has ls l ≡ true
in_has [] l i = absurd i
in_has (k ∷ ks) l (inl e) = or_left (same_lit k l) (has ks l) (subst (λ (z : Lit). same_lit z l ≡ true) e (same_lit-same l))
in_has (k ∷ ks) l (inr i) = or_right (same_lit k l) (has ks l) (in_has ks l i)

-- where the test finds all they are among them
all_in-among : (ls ks : List Lit) → all_in ls ks ≡ true → ls ⊆ ks
all_in-among [] ks h l i = absurd i
all_in-among (k ∷ ls) ks h l (inl e) = has_in ks l (subst (λ (z : Lit). has ks z ≡ true) (sym e) (and_left (has ks k) (all_in ls ks) h))
all_in-among (k ∷ ls) ks h l (inr i) = all_in-among ls ks (and_right (has ks k) (all_in ls ks) h) l i

-- and it finds all where they are among them
among-all_in : (ls ks : List Lit) → ls ⊆ ks → all_in ls ks ≡ true
among-all_in [] ks h = refl
among-all_in (k ∷ ls) ks h = and_intro (has ks k) (all_in ls ks) (in_has ks k (h k (inl refl))) (among-all_in ls ks (λ l i. h l (inr i)))

-- ---- counting

-- what is blocked by fewer counts no less
less_weight : (new old : Bool) → (old ≡ true → new ≡ true) → cond new 0 1 ≤ cond old 0 1
less_weight true true h = omega arith
less_weight true false h = omega arith
less_weight false true h = absurd (let k : false ≡ true = h refl in cc)
less_weight false false h = omega arith

-- what is blocked stays so with more nogoods
blocked_stays : (old new : List Nogood) → old ⊆ new → (ks : List Lit) → list_any (blocks ks) old ≡ true → list_any (blocks ks) new ≡ true
blocked_stays old new h ks b = let w = any_to (blocks ks) old b in any_from (blocks ks) new w.0 (h w.0 w.1) w.2

-- with more nogoods no more candidates are open
pub open_less : (old new : List Nogood) → old ⊆ new → (cs : List (List Lit)) → open_of new cs ≤ open_of old cs
open_less old new h [] = omega arith
open_less old new h (ks ∷ cs) =
    let r = open_less old new h cs in
    let w = less_weight (list_any (blocks ks) new) (list_any (blocks ks) old) (blocked_stays old new h ks) in
    omega (arith, r, w)

-- one that was open and is blocked counts less
strict : (n o : Bool) → n ≡ true → o ≡ false → cond n 0 1 < cond o 0 1
strict true false p q = omega arith
strict true true p q = cc
strict false o p q = cc

-- where a candidate is blocked that was open, fewer are open
open_falls : (old new : List Nogood) → old ⊆ new → (ks : List Lit) → list_any (blocks ks) old ≡ false → list_any (blocks ks) new ≡ true
    → (cs : List (List Lit)) → ks ∈ cs → open_of new cs < open_of old cs
open_falls old new h ks a b [] i = absurd i
open_falls old new h ks a b (js ∷ cs) (inl e) =
    let r = open_less old new h cs in
    let w = strict (list_any (blocks js) new) (list_any (blocks js) old) (subst (λ z. list_any (blocks z) new ≡ true) e b)
    (subst (λ z. list_any (blocks z) old ≡ false) e a) in
    omega (arith, r, w)
open_falls old new h ks a b (js ∷ cs) (inr i) =
    let r = open_falls old new h ks a b cs i in
    let w = less_weight (list_any (blocks js) new) (list_any (blocks js) old) (blocked_stays old new h js) in
    omega (arith, r, w)

-- ---- the candidate with the same literals

-- the literals with this one put before them where the tests say so
abbrev pick : Bool → Bool → ℕ → List Lit → List Lit
pick true b n r = lit n true ∷ r
pick false true n r = lit n false ∷ r
pick false false n r = r

-- the literals of a list, by their atoms, the highest first
abbrev normal : ℕ → List Lit → List Lit
normal zero ls = []
normal (suc n) ls = pick (has ls (lit n true)) (has ls (lit n false)) n (normal n ls)

-- what a function makes of a member is a member of what it makes of the list
in_map : {X Y : Type 0} (f : X → Y) (xs : List X) (x : X) → x ∈ xs → f x ∈ map f xs
in_map f [] x i = absurd i
in_map f (y ∷ xs) x (inl e) = inl (ap f e)
in_map f (y ∷ xs) x (inr i) = inr (in_map f xs x i)

-- with a literal of the next atom, or without, it is a candidate
pick_candidate : (n : ℕ) (a b : Bool) (r : List Lit) → r ∈ candidates n → pick a b n r ∈ candidates (suc n)
pick_candidate n true b r i =
    let up = map (λ ks. lit n true ∷ ks) (candidates n) in
    let down = map (λ ks. lit n false ∷ ks) (candidates n) in
    ∈-append_left _ (up ++ down) (candidates n) (∈-append_left _ up down (in_map (λ ks. lit n true ∷ ks) (candidates n) r i))
pick_candidate n false true r i =
    let up = map (λ ks. lit n true ∷ ks) (candidates n) in
    let down = map (λ ks. lit n false ∷ ks) (candidates n) in
    ∈-append_left _ (up ++ down) (candidates n) (∈-append_right _ up down (in_map (λ ks. lit n false ∷ ks) (candidates n) r i))
pick_candidate n false false r i =
    ∈-append_right r (map (λ ks. lit n true ∷ ks) (candidates n) ++ map (λ ks. lit n false ∷ ks) (candidates n)) (candidates n) i

-- the literals by their atoms are a candidate
normal_candidate : (n : ℕ) (ls : List Lit) → normal n ls ∈ candidates n
normal_candidate zero ls = inl refl
normal_candidate (suc n) ls = pick_candidate n (has ls (lit n true)) (has ls (lit n false)) (normal n ls) (normal_candidate n ls)

-- what was put before a list is in the other, where the tests said so
picked : (n : ℕ) (ls r : List Lit) (l : Lit) (a : Bool) → has ls (lit n true) ≡ a → (b : Bool) → has ls (lit n false) ≡ b
    → (l ∈ r → l ∈ ls) → l ∈ pick a b n r → l ∈ ls
picked n ls r l true e b f deeper (inl q) = subst (λ (z : Lit). z ∈ ls) (sym q) (has_in ls (lit n true) e)
picked n ls r l true e b f deeper (inr i) = deeper i
picked n ls r l false e true f deeper (inl q) = subst (λ (z : Lit). z ∈ ls) (sym q) (has_in ls (lit n false) f)
picked n ls r l false e true f deeper (inr i) = deeper i
picked n ls r l false e false f deeper i = deeper i

-- the literals by their atoms are among those of the list
normal_among : (n : ℕ) (ls : List Lit) → normal n ls ⊆ ls
normal_among zero ls l i = absurd i
normal_among (suc n) ls l i = picked n ls (normal n ls) l (has ls (lit n true)) refl (has ls (lit n false)) refl (normal_among n ls l) i

-- not both signs of an atom
abbrev pub HasOneSign : List Lit → Type 0
HasOneSign ls = (x : ℕ) → lit x true ∈ ls → lit x false ∈ ls → ⊥

-- what stands in the list stands there still
pick_deeper : (n : ℕ) (r : List Lit) (l : Lit) (a b : Bool) → l ∈ r → l ∈ pick a b n r
pick_deeper n r l true b j = inr j
pick_deeper n r l false true j = inr j
pick_deeper n r l false false j = j

-- the positive literal is put first
pick_true : (n : ℕ) (r : List Lit) (l : Lit) (a b : Bool) → a ≡ true → l ≡ lit n true → l ∈ pick a b n r
pick_true n r l true b p q = inl q
pick_true n r l false b p q = cc

-- and the negative one where that is not
pick_false : (n : ℕ) (r : List Lit) (l : Lit) (a b : Bool) → a ≡ false → b ≡ true → l ≡ lit n false → l ∈ pick a b n r
pick_false n r l true b p q e = cc
pick_false n r l false true p q e = inl e
pick_false n r l false false p q e = cc

-- where the negative literal is in the list the positive one is not
not_both : (ls : List Lit) (n : ℕ) → HasOneSign ls → lit n false ∈ ls → (a : Bool) → has ls (lit n true) ≡ a → a ≡ false
not_both ls n one j true e = absurd (one n (has_in ls (lit n true) e) j)
not_both ls n one j false e = refl

-- a literal is made of its atom and its sign
lit_at : (l : Lit) (n : ℕ) (b : Bool) → l.atom ≡ n → l.positive ≡ b → l ≡ lit n b
lit_at l n b e u = λ i. record { atom = e i; positive = u i }

-- a literal of the list is put there at its atom
pick_here : (n : ℕ) (ls r : List Lit) (l : Lit) → HasOneSign ls → l ∈ ls → l.atom ≡ n → (b : Bool) → l.positive ≡ b
    → l ∈ pick (has ls (lit n true)) (has ls (lit n false)) n r
pick_here n ls r l one i e true u = pick_true n r l (has ls (lit n true)) (has ls (lit n false))
    (in_has ls (lit n true) (subst (λ (z : Lit). z ∈ ls) (lit_at l n true e u) i)) (lit_at l n true e u)
pick_here n ls r l one i e false u =
    let j : lit n false ∈ ls = subst (λ (z : Lit). z ∈ ls) (lit_at l n false e u) i in
    pick_false n r l (has ls (lit n true)) (has ls (lit n false)) (not_both ls n one j (has ls (lit n true)) refl)
    (in_has ls (lit n false) j) (lit_at l n false e u)

-- one number is below another or not
below_or : (a b : ℕ) → (a < b) ⊎ (b ≤ a)
below_or a zero = inr (omega arith)
below_or zero (suc b) = inl (omega arith)
below_or (suc a) (suc b) = elim (below_or a b) [ inl h ↦ inl (omega arith) | inr h ↦ inr (omega arith) ]

-- each literal of the list is among the literals by their atoms
normal_has : (n : ℕ) (ls : List Lit) → HasOneSign ls → (l : Lit) → l.atom < n → l ∈ ls → l ∈ normal n ls
normal_has zero ls one l low i = absurd (omega arith)
normal_has (suc n) ls one l low i = elim (below_or l.atom n) [
  | inl less ↦ pick_deeper n (normal n ls) l (has ls (lit n true)) (has ls (lit n false)) (normal_has n ls one l less i)
  | inr more ↦ (let e : l.atom ≡ n = omega arith in pick_here n ls (normal n ls) l one i e l.positive refl)
]

-- ---- what is learned

-- no list is empty and not
empty_no : (ks : List Lit) → ks ≡ [] → not (is_empty ks) ≡ true → ⊥
empty_no [] q h = cc
empty_no (k ∷ ks) q h = cc

-- a list with members is not empty
some_yes : (ks : List Lit) → ¬ (ks ≡ []) → not (is_empty ks) ≡ true
some_yes [] q = absurd (q refl)
some_yes (k ∷ ks) q = refl

-- literals of which no nogood has a part are not blocked
not_blocked : (old : List Nogood) (ls ks : List Lit) → ks ⊆ ls → ((ng : Nogood) → ng ∈ old → ng.lits ⊆ ls → ng.lits ≡ []) → (b : Bool)
    → list_any (blocks ks) old ≡ b → b ≡ false
not_blocked old ls ks sub none false q = refl
not_blocked old ls ks sub none true q =
    let w = any_to (blocks ks) old q in
    let a = and_left (not (is_empty w.0.lits)) (all_in w.0.lits ks) w.2 in
    let b = and_right (not (is_empty w.0.lits)) (all_in w.0.lits ks) w.2 in
    let k = none w.0 w.1 (λ l i. sub l (all_in-among w.0.lits ks b l i)) in
    absurd (empty_no w.0.lits k a)

-- an id has a place in 32 bits
ids_count : (x : ℕ) → x < 2 ^ 32 → x < id_count
unfolding id_count
ids_count x h = h

-- a nogood that is a superset of none but the empty one leaves less to learn
pub learned_falls : (old new : List Nogood) (ls : List Lit) → new ≡ old ++ record { lits = ls; head = None } ∷ [] → ¬ (ls ≡ [])
    → HasOneSign ls → ((l : Lit) → l ∈ ls → l.atom < 2 ^ 32)
    → ((ng : Nogood) → ng ∈ old → ng.lits ⊆ ls → ng.lits ≡ []) → still_open new < still_open old
learned_falls old new ls e some one low none =
    let learned : Nogood = record { lits = ls; head = None } in
    let grows : old ⊆ new = (λ ng i. subst (λ z. ng ∈ z) (sym e) (∈-append_left ng old (learned ∷ []) i)) in
    let there : learned ∈ new = subst (λ z. learned ∈ z) (sym e) (∈-append_right learned old (learned ∷ []) (inl refl)) in
    let is_new : list_any (blocks (normal id_count ls)) new ≡ true = any_from (blocks (normal id_count ls)) new learned there
    (and_intro (not (is_empty ls)) (all_in ls (normal id_count ls)) (some_yes ls some)
    (among-all_in ls (normal id_count ls) (λ l i. normal_has id_count ls one l (ids_count l.atom (low l i)) i))) in
    open_falls old new grows (normal id_count ls)
    (not_blocked old ls (normal id_count ls) (normal_among id_count ls) none (list_any (blocks (normal id_count ls)) old) refl) is_new
    (candidates id_count) (normal_candidate id_count ls)
