-- Lists of watchers by what their ids weigh.
use Rattle.std.proofs.Common.{◌≡◌, ℕ, suc, zero, ◌+◌, ◌*◌, ◌<◌, ◌≤◌, ◌⊎◌, Bool, true, false, not, ◌&&◌, ◌||◌, cond, List, [], ◌∷◌, ◌++◌, length, take, get_or, set, refl, sym, ◌∙◌, ap, subst, inl, inr, arith}
use Rattle.std.specs.Prelude.{Option, Some, None, nat_eq}
use Rattle.std.specs.List.{sum_by, swap_remove}
use Rattle.std.proofs.lemmas.List.Sums.{sum_by-cons, sum_by-swap_remove}
use Rattle.lists.specs.Lists.{◌∈◌, HasNoRepeats}
use Rattle.alpha_outside.specs.declared.literal.Lit.{Lit}
use Rattle.search_values.proofs.Basics.{nat_eq-true, nat_eq-same}
use Rattle.nogood_store.specs.declared.watching.Watches.{Watches}
use Rattle.nogood_store.specs.Watched.{number_of, is_at, is_watched, row_of, weigh, fresh, two_of}

-- ---- what a list weighs

pub weigh_push : (f : ℕ → ℕ) (xs : List ℕ) (x : ℕ) → weigh f (xs ++ x ∷ []) ≡ weigh f xs + f x
weigh_push f [] x = omega arith
weigh_push f (y ∷ ys) x = omega (arith, weigh_push f ys x)

weigh_sum : (f : ℕ → ℕ) (xs : List ℕ) → weigh f xs ≡ sum_by f xs
weigh_sum f [] = refl
weigh_sum f (x ∷ xs) = omega (arith, weigh_sum f xs, sum_by-cons f x xs)

-- an id was taken out
pub weigh_removed : (f : ℕ → ℕ) (xs ys : List ℕ) (i id d x : ℕ) → i < length xs → ys ≡ swap_remove xs i d → x ≡ get_or xs i x → x ≡ id → weigh f ys + f id ≡ weigh f xs
weigh_removed f xs ys i id d x low e read same =
    let here : get_or xs i d ≡ id = at xs i low x d read ∙ same in
    let s = sum_by-swap_remove f xs i d low in
    let w : weigh f ys ≡ sum_by f (swap_remove xs i d) = ap (weigh f) e ∙ weigh_sum f (swap_remove xs i d) in
    let g : f (get_or xs i d) ≡ f id = ap f here in
    omega (arith, s, w, g, weigh_sum f xs)
  where
    at : (xs : List ℕ) (i : ℕ) → i < length xs → (x d : ℕ) → x ≡ get_or xs i x → get_or xs i d ≡ x
    at [] i low x d r = absurd (omega arith)
    at (y ∷ ys) zero low x d r = sym r
    at (y ∷ ys) (suc i) low x d r = at ys i (omega arith) x d r

-- a member of a longer front is one of the front or the next
pub take_cases : (xs : List ℕ) (i x y : ℕ) → x ∈ take (suc i) xs → y ≡ get_or xs i y → i < length xs → (x ≡ y) ⊎ (x ∈ take i xs)
take_cases [] i x y h r low = absurd (omega arith)
take_cases (z ∷ zs) zero x y (inl e) r low = inl (e ∙ sym r)
take_cases (z ∷ zs) zero x y (inr h) r low = absurd h
take_cases (z ∷ zs) (suc i) x y (inl e) r low = inr (inl e)
take_cases (z ∷ zs) (suc i) x y (inr h) r low = elim (take_cases zs i x y h r (omega arith)) [ inl e ↦ inl e | inr k ↦ inr (inr k) ]

-- ---- which ids stand in a list

-- an id weighs one, and others nothing
abbrev pub one_at : ℕ → ℕ → ℕ
one_at n m = cond (nat_eq m n) 1 0

abbrev bit : Bool → ℕ
bit b = cond b 1 0

one_at-same : (n : ℕ) → one_at n n ≡ 1
one_at-same n = ap bit (nat_eq-same n)

one_at-other : (n m : ℕ) → (m ≡ n → ⊥) → one_at n m ≡ 0
one_at-other n m h = go (nat_eq m n) refl
  where
    go : (b : Bool) → nat_eq m n ≡ b → ◌≡◌ {A = ℕ} (cond b 1 0) 0
    go true e = absurd (h (nat_eq-true m n e))
    go false e = refl

-- two numbers are the same, or not
pub same_or_not : (n m : ℕ) → (n ≡ m) ⊎ (n ≡ m → ⊥)
same_or_not n m = go (nat_eq n m) refl
  where
    go : (b : Bool) → nat_eq n m ≡ b → (n ≡ m) ⊎ (n ≡ m → ⊥)
    go true e = inl (nat_eq-true n m e)
    go false e = inr (λ k. let t : nat_eq n m ≡ true = subst (λ z. nat_eq n z ≡ true) k (nat_eq-same n) in cc)

pub weighs_in : (n : ℕ) (xs : List ℕ) → n ∈ xs → 0 < weigh (one_at n) xs
weighs_in n [] h = absurd h
weighs_in n (x ∷ xs) (inl e) = let o : one_at n x ≡ 1 = subst (λ z. one_at n z ≡ 1) e (one_at-same n) in omega (arith, o)
weighs_in n (x ∷ xs) (inr h) = omega (arith, weighs_in n xs h)

pub in_weighs : (n : ℕ) (xs : List ℕ) → 0 < weigh (one_at n) xs → n ∈ xs
in_weighs n [] h = absurd (omega arith)
in_weighs n (x ∷ xs) h = elim (same_or_not x n) [
  | inl e ↦ inl (sym e)
  | inr k ↦ inr (in_weighs n xs (let o = one_at-other n x k in omega (arith, h, o)))
]

-- where each id weighs one at most, none stands twice
pub once_where : (xs : List ℕ) → ((n : ℕ) → weigh (one_at n) xs ≤ 1) → HasNoRepeats xs
once_where [] h = tt
once_where (x ∷ xs) h = (
  (λ i. let w = weighs_in x xs i in let l = h x in let o = one_at-same x in omega (arith, w, l, o)),
  once_where xs (λ n. let l = h n in omega (arith, l)),
)

pub weigh_length : (xs : List ℕ) → weigh (λ n. 1) xs ≡ length xs
weigh_length [] = refl
weigh_length (x ∷ xs) = omega (arith, weigh_length xs)

-- ---- numbers of literals

pub number_same : (k l : Lit) → number_of k ≡ number_of l → k ≡ l
number_same k l e = go k.positive l.positive refl refl
  where
    alike : k.atom ≡ l.atom → k.positive ≡ l.positive → k ≡ l
    alike a p = λ i. record { atom = a i; positive = p i }

    go : (b c : Bool) → k.positive ≡ b → l.positive ≡ c → k ≡ l
    go true true p q = let x : number_of k ≡ 2 * k.atom + 1 = ap (λ b. 2 * k.atom + cond b 1 0) p in let y : number_of l ≡ 2 * l.atom + 1 = ap (λ b. 2 * l.atom + cond b 1 0) q in
        alike (omega (arith, e, x, y)) (p ∙ sym q)
    go true false p q = let x : number_of k ≡ 2 * k.atom + 1 = ap (λ b. 2 * k.atom + cond b 1 0) p in let y : number_of l ≡ 2 * l.atom + 0 = ap (λ b. 2 * l.atom + cond b 1 0) q in
        absurd (omega (arith, e, x, y))
    go false true p q = let x : number_of k ≡ 2 * k.atom + 0 = ap (λ b. 2 * k.atom + cond b 1 0) p in let y : number_of l ≡ 2 * l.atom + 1 = ap (λ b. 2 * l.atom + cond b 1 0) q in
        absurd (omega (arith, e, x, y))
    go false false p q = let x : number_of k ≡ 2 * k.atom + 0 = ap (λ b. 2 * k.atom + cond b 1 0) p in let y : number_of l ≡ 2 * l.atom + 0 = ap (λ b. 2 * l.atom + cond b 1 0) q in
        alike (omega (arith, e, x, y)) (p ∙ sym q)

-- the slot has the literal where the test says so
pub is_at-true : (slot : Option Lit) (l : Lit) → is_at slot l ≡ true → slot ≡ Some l
is_at-true None l e = cc
is_at-true (Some k) l e = ap (λ z. Some z) (number_same k l (nat_eq-true (number_of k) (number_of l) e))

pub is_at-same : (l : Lit) → is_at (Some l) l ≡ true
is_at-same l = nat_eq-same (number_of l)

-- ---- rows

get_set_same : (rows : List (List ℕ)) (i : ℕ) (r : List ℕ) → i < length rows → get_or (set rows i r) i [] ≡ r
get_set_same [] i r h = absurd (omega arith)
get_set_same (x ∷ xs) zero r h = refl
get_set_same (x ∷ xs) (suc i) r h = get_set_same xs i r (omega arith)

get_set_other : (rows : List (List ℕ)) (i j : ℕ) (r : List ℕ) → (i ≡ j → ⊥) → get_or (set rows i r) j [] ≡ get_or rows j []
get_set_other [] i j r h = refl
get_set_other (x ∷ xs) zero zero r h = absurd (h refl)
get_set_other (x ∷ xs) zero (suc j) r h = refl
get_set_other (x ∷ xs) (suc i) zero r h = refl
get_set_other (x ∷ xs) (suc i) (suc j) r h = get_set_other xs i j r (λ e. h (ap suc e))

-- a row that is past the end is empty, and an empty one more changes none
pub row_grown : (rows : List (List ℕ)) (l : Lit) → row_of (rows ++ [] ∷ []) l ≡ row_of rows l
row_grown rows l = go rows (number_of l)
  where
    go : (rows : List (List ℕ)) (i : ℕ) → get_or (rows ++ [] ∷ []) i [] ≡ get_or rows i []
    go [] zero = refl
    go [] (suc i) = refl
    go (x ∷ xs) zero = refl
    go (x ∷ xs) (suc i) = go xs i

-- a row that was read is that of the literal
pub row_read : (rows : List (List ℕ)) (i : ℕ) (r : List ℕ) (l : Lit) → i ≡ number_of l → i < length rows → r ≡ get_or rows i r → row_of rows l ≡ r
row_read rows i r l e low read = subst (λ n. get_or rows n [] ≡ r) e (go rows i low read)
  where
    go : (rows : List (List ℕ)) (i : ℕ) → i < length rows → r ≡ get_or rows i r → get_or rows i [] ≡ r
    go [] i low read = absurd (omega arith)
    go (x ∷ xs) zero low read = sym read
    go (x ∷ xs) (suc i) low read = go xs i (omega arith) read

-- after one row was written
pub row_set : (f : ℕ → ℕ) (rows : List (List ℕ)) (i : ℕ) (r : List ℕ) (k l : Lit) → i ≡ number_of k → i < length rows
    → (weigh f (row_of (set rows i r) l) ≡ cond (is_at (Some k) l) (weigh f r) (weigh f (row_of rows l)))
row_set f rows i r k l e low = go (nat_eq (number_of k) (number_of l)) refl
  where
    go : (b : Bool) → nat_eq (number_of k) (number_of l) ≡ b → weigh f (row_of (set rows i r) l) ≡ cond b (weigh f r) (weigh f (row_of rows l))
    go true q = let n : i ≡ number_of l = e ∙ nat_eq-true (number_of k) (number_of l) q in
        ap (weigh f) (subst (λ z. get_or (set rows i r) z [] ≡ r) n (get_set_same rows i r low))
    go false q = ap (weigh f) (get_set_other rows i (number_of l) r (λ same.
        let t : nat_eq (number_of k) (number_of l) ≡ true = subst (λ z. nat_eq (number_of k) z ≡ true) (sym e ∙ same) (nat_eq-same (number_of k)) in cc))

-- one id more in the row of a literal
pub row_entered : (f : ℕ → ℕ) (rows : List (List ℕ)) (i id : ℕ) (old new : List ℕ) (k l : Lit) → i ≡ number_of k → i < length rows → old ≡ get_or rows i old → new ≡ old ++ id ∷ []
    → weigh f (row_of (set rows i new) l) ≡ weigh f (row_of rows l) + cond (is_at (Some k) l) (f id) 0
row_entered f rows i id old new k l e low read put = row_set f rows i new k l e low ∙ go (is_at (Some k) l) refl
  where
    go : (b : Bool) → is_at (Some k) l ≡ b → cond b (weigh f new) (weigh f (row_of rows l)) ≡ weigh f (row_of rows l) + cond b (f id) 0
    go true q =
        let same : k ≡ l = number_same k l (nat_eq-true (number_of k) (number_of l) q) in
        let r : row_of rows l ≡ old = subst (λ (z : Lit). row_of rows z ≡ old) same (row_read rows i old k e low read) in
        let w : weigh f (row_of rows l) ≡ weigh f old = ap (weigh f) r in
        let n : weigh f new ≡ weigh f old + f id = ap (weigh f) put ∙ weigh_push f old id in
        omega (arith, w, n)
    go false q = omega arith

-- one id fewer in the row of a literal
pub row_left : (f : ℕ → ℕ) (rows : List (List ℕ)) (i id : ℕ) (old new : List ℕ) (k l : Lit) → i ≡ number_of k → i < length rows → old ≡ get_or rows i old
    → weigh f new + f id ≡ weigh f old → weigh f (row_of (set rows i new) l) + cond (is_at (Some k) l) (f id) 0 ≡ weigh f (row_of rows l)
row_left f rows i id old new k l e low read out = let s = row_set f rows i new k l e low in go (is_at (Some k) l) refl s
  where
    go : (b : Bool) → is_at (Some k) l ≡ b → weigh f (row_of (set rows i new) l) ≡ cond b (weigh f new) (weigh f (row_of rows l)) → weigh f (row_of (set rows i new) l) + cond b (f id) 0 ≡ weigh f (row_of rows l)
    go true q s =
        let same : k ≡ l = number_same k l (nat_eq-true (number_of k) (number_of l) q) in
        let r : row_of rows l ≡ old = subst (λ (z : Lit). row_of rows z ≡ old) same (row_read rows i old k e low read) in
        let w : weigh f (row_of rows l) ≡ weigh f old = ap (weigh f) r in
        omega (arith, w, s, out)
    go false q s = omega (arith, s)

-- a row with a member has its place
pub row_there : (rows : List (List ℕ)) (k : Lit) (i id : ℕ) → i ≡ number_of k → id ∈ row_of rows k → i < length rows
row_there rows k i id e h = go rows i (subst (λ n. id ∈ get_or rows n []) (sym e) h)
  where
    go : (rows : List (List ℕ)) (i : ℕ) → id ∈ get_or rows i [] → i < length rows
    go [] i h = absurd h
    go (x ∷ xs) zero h = omega arith
    go (x ∷ xs) (suc i) h = omega (arith, go xs i h)

-- an id that weighs something in a row is there
pub row_has : (rows : List (List ℕ)) (l : Lit) (id : ℕ) (slot : Option Lit) → slot ≡ Some l → cond (is_at slot l) (one_at id id) 0 ≤ weigh (one_at id) (row_of rows l) → id ∈ row_of rows l
row_has rows l id slot e h = in_weighs id (row_of rows l) (
    let t : is_at slot l ≡ true = subst (λ (o : Option Lit). is_at o l ≡ true) (sym e) (is_at-same l) in
    let c : cond (is_at slot l) (one_at id id) 0 ≡ one_at id id = ap (λ b. cond b (one_at id id) 0) t in
    let o = one_at-same id in
    omega (arith, h, c, o))

-- ---- what is entered and left where the watches change

-- whether the slot's literal is fresh
at_fresh : (slot : Option Lit) (w : Watches) (l : Lit) → is_at (fresh slot w) l ≡ (is_at slot l && not (is_watched w l))
at_fresh None w l = refl
at_fresh (Some k) w l = go (nat_eq (number_of k) (number_of l)) refl
  where
    pick : (b c : Bool) → b ≡ c → nat_eq (number_of k) (number_of l) ≡ true → is_at (cond b None (Some k)) l ≡ not c
    pick true true e q = refl
    pick false false e q = q
    pick true false e q = cc
    pick false true e q = cc

    off : (b : Bool) → nat_eq (number_of k) (number_of l) ≡ false → is_at (cond b None (Some k)) l ≡ false
    off true q = refl
    off false q = q

    go : (b : Bool) → nat_eq (number_of k) (number_of l) ≡ b → is_at (cond (is_watched w k) None (Some k)) l ≡ (b && not (is_watched w l))
    go true q = pick (is_watched w k) (is_watched w l) (ap (λ (z : Lit). is_watched w z) (number_same k l (nat_eq-true (number_of k) (number_of l) q))) q
    go false q = off (is_watched w k) q

-- each literal that is watched and wasn't is entered once
bits : (x : ℕ) (a b t w : Bool) → (a ≡ true → b ≡ true → ⊥)
    → cond (a && not w) x 0 + cond (b && not w) x 0 + cond ((t && not w) && not ((a || b) || false)) x 0 + cond w x 0 ≡ cond (((a || b) || t) || w) x 0
bits x true true t w d = absurd (d refl refl)
bits x true false true true d = omega arith
bits x true false true false d = omega arith
bits x true false false true d = omega arith
bits x true false false false d = omega arith
bits x false true true true d = omega arith
bits x false true true false d = omega arith
bits x false true false true d = omega arith
bits x false true false false d = omega arith
bits x false false true true d = omega arith
bits x false false true false d = omega arith
bits x false false false true d = omega arith
bits x false false false false d = omega arith

-- what is entered, with what was watched, is what was or is watched
pub entered : (x : ℕ) (from to : Watches) (l : Lit) → ((k : Lit) → to.first ≡ Some k → to.second ≡ Some k → ⊥)
    → cond (is_at (fresh to.first from) l) x 0 + cond (is_at (fresh to.second from) l) x 0 + cond (is_at (fresh (fresh to.third from) (two_of to)) l) x 0 + cond (is_watched from l) x 0
    ≡ cond (is_watched to l || is_watched from l) x 0
entered x from to l differ =
    let a = ap (λ b. cond b x 0) (at_fresh to.first from l) in
    let b = ap (λ b. cond b x 0) (at_fresh to.second from l) in
    let t = ap (λ b. cond b x 0) (at_fresh (fresh to.third from) (two_of to) l ∙ ap (λ b. b && not (is_watched (two_of to) l)) (at_fresh to.third from l)) in
    let s = bits x (is_at to.first l) (is_at to.second l) (is_at to.third l) (is_watched from l) (λ p q. differ l (is_at-true to.first l p) (is_at-true to.second l q)) in
    omega (arith, a, b, t, s)

pub or_swap : (x : ℕ) (a b : Bool) → cond (a || b) x 0 ≡ cond (b || a) x 0
or_swap x true true = refl
or_swap x true false = refl
or_swap x false true = refl
or_swap x false false = refl

pub or_more : (x : ℕ) (a b : Bool) → cond b x 0 ≤ cond (a || b) x 0
or_more x true true = omega arith
or_more x true false = omega arith
or_more x false true = omega arith
or_more x false false = omega arith

-- what is entered and what was watched, and what is left and what is watched, are the same
pub changed : (x : ℕ) (from to : Watches) (l : Lit) → ((k : Lit) → from.first ≡ Some k → from.second ≡ Some k → ⊥) → ((k : Lit) → to.first ≡ Some k → to.second ≡ Some k → ⊥)
    → (a b t p q r : Option Lit) → a ≡ fresh to.first from → b ≡ fresh to.second from → t ≡ fresh (fresh to.third from) (two_of to)
    → p ≡ fresh from.first to → q ≡ fresh from.second to → r ≡ fresh (fresh from.third to) (two_of from)
    → cond (is_at a l) x 0 + cond (is_at b l) x 0 + cond (is_at t l) x 0 + cond (is_watched from l) x 0 ≡ cond (is_at p l) x 0 + cond (is_at q l) x 0 + cond (is_at r l) x 0 + cond (is_watched to l) x 0
changed x from to l from_differ to_differ a b t p q r ea eb et ep eq er =
    let bit_of : (o k : Option Lit) → o ≡ k → cond (is_at o l) x 0 ≡ cond (is_at k l) x 0 = λ o k e. ap (λ (z : Option Lit). cond (is_at z l) x 0) e in
    let i = entered x from to l to_differ in
    let o = entered x to from l from_differ in
    let s = or_swap x (is_watched to l) (is_watched from l) in
    let ka = bit_of a _ ea in let kb = bit_of b _ eb in let kt = bit_of t _ et in
    let kp = bit_of p _ ep in let kq = bit_of q _ eq in let kr = bit_of r _ er in
    omega (arith, i, o, s, ka, kb, kt, kp, kq, kr)
