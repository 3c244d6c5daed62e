-- What is stored of the instances from one id up to another, one part after another.
use Rattle.std.proofs.Common.{◌≡◌, ℕ, zero, suc, ◌+◌, ◌-◌, ◌≤◌, List, [], ◌∷◌, ◌++◌, length, map, take, drop, refl, sym, ◌∙◌, ap, subst, arith, append_assoc}
use Rattle.std.specs.Prelude.{Some, slice_get, Result, Ok, Err, OnOk}
use Rattle.std.proofs.Math.Seq.{drop-nil, take-add}
use Rattle.std.proofs.lemmas.List.{append-nil, map-append, drop-take, length-take-le, length-drop}
use Rattle.lists.specs.Lists.{Each, concat}
use Rattle.lists.proofs.ListLemmas.{Each-at, Each-append, Each-map, concat-append}
use Rattle.search_values.proofs.Basics.{get_in}
use Rattle.nogood_store.specs.Stored as store
use Rattle.nogood_store.specs.Stored.{Stored, LitsAreBelow, AllAreBelow}
use Rattle.choice_manager.specs.Active.{with_noted}
use Rattle.atom_pool.specs.declared.ground.Ground.{Ground}
use Rattle.atom_pool.specs.declared.instances.Made.{Made}
use Rattle.ground_noting.specs.declared.drafting.Draft.{Draft}
use Rattle.ground_noting.specs.Drafts.{IsDraft, IsStorable, stored_of, nogood_of}
use Rattle.ground_noting.specs.Instances.{nogoods_of, all_nogoods, all_noted, between}
use Rattle.ground_noting.specs.Notings.{Stores}

-- ---- the instances from one id up to another

-- what is left after so many and so many more
drop_more : {A : Type 0} (n m : ℕ) (xs : List A) → drop (n + m) xs ≡ drop m (drop n xs)
drop_more zero m xs = ap (λ k. drop k xs) (none m)
  where
    none : (m : ℕ) → 0 + m ≡ m
    none m = omega arith
drop_more (suc n) m [] = drop-nil (suc n + m) ∙ sym (drop-nil m)
drop_more (suc n) m (x ∷ xs) = ap (λ k. drop k (x ∷ xs)) (one n m) ∙ drop_more n m xs
  where
    one : (n m : ℕ) → suc n + m ≡ suc (n + m)
    one n m = omega arith

-- there is none from an id up to itself
pub between_none : (made : List Made) (i : ℕ) → between made i i ≡ []
between_none made i = ap (λ n. drop i (take n made)) (zero_more i) ∙ drop-take i 0 made
  where
    zero_more : (i : ℕ) → i ≡ i + 0
    zero_more i = omega arith

-- what stands at a place is the first of what is left there
left_at : (made : List Made) (i : ℕ) (k : Made) → slice_get made i ≡ Some k → (rest : List Made) × (drop i made ≡ k ∷ rest)
left_at [] i k e = cc
left_at (x ∷ made) zero k e = let same : x ≡ k = cc in (made, ap (λ z. z ∷ made) same)
left_at (x ∷ made) (suc i) k e = left_at made i k e

-- there is one from an id up to the next
pub between_one : (made : List Made) (i : ℕ) (k : Made) → slice_get made i ≡ Some k → between made i (i + 1) ≡ k ∷ []
between_one made i k at = let left = left_at made i k at in drop-take i 1 made ∙ ap (λ l. take 1 l) left.1

-- those up to an id, and then those from there on
pub between_on : (made : List Made) (a b c : ℕ) → a ≤ b → b ≤ c → between made a c ≡ between made a b ++ between made b c
between_on made a b c first last =
    subst (λ y. between made a y ≡ between made a b ++ between made b y) c_is
    (subst (λ x. between made a (x + (c - b)) ≡ between made a x ++ between made x (x + (c - b))) b_is here)
  where
    b_is : a + (b - a) ≡ b
    b_is = omega (arith, first)

    c_is : b + (c - b) ≡ c
    c_is = omega (arith, last)

    assoc : (x y z : ℕ) → (x + y) + z ≡ x + (y + z)
    assoc x y z = omega arith

    here : between made a ((a + (b - a)) + (c - b)) ≡ between made a (a + (b - a)) ++ between made (a + (b - a)) ((a + (b - a)) + (c - b))
    here = ap (λ n. drop a (take n made)) (assoc a (b - a) (c - b)) ∙ drop-take a ((b - a) + (c - b)) made ∙ take-add (b - a) (c - b)
        (drop a made)
        ∙ ap (λ l. take (b - a) (drop a made) ++ take (c - b) l) (sym (drop_more a (b - a) made))
        ∙ (λ i. sym (drop-take a (b - a) made) i ++ sym (drop-take (a + (b - a)) (c - b) made) i)

-- how many there are
pub between_length : (made : List Made) (a b : ℕ) → a ≤ b → b ≤ length made → b ≡ a + length (between made a b)
between_length made a b first last =
    subst (λ x. x ≡ a + length (between made a x)) b_is (sym (ap (λ l. a + length l) (drop-take a (b - a) made) ∙ ap (λ n. a + n) count))
  where
    b_is : a + (b - a) ≡ b
    b_is = omega (arith, first)

    count : length (take (b - a) (drop a made)) ≡ b - a
    count = length-take-le (b - a) (drop a made) (let l = length-drop a made in omega (arith, l, first, last))

-- ---- their nogoods and choices

-- the nogoods of two lists of instances
nogoods_on : (xs ys : List Made) → all_nogoods (xs ++ ys) ≡ all_nogoods xs ++ all_nogoods ys
nogoods_on xs ys = ap concat (map-append nogoods_of xs ys) ∙ concat-append (map nogoods_of xs) (map nogoods_of ys)

-- the choices of two lists of instances
noted_on : (choices : List ℕ) (a b : ℕ) (xs ys : List Made) → b ≡ a + length xs
    → all_noted choices a (xs ++ ys) ≡ all_noted (all_noted choices a xs) b ys
noted_on choices a b [] ys e = ap (λ n. all_noted choices n ys) (let z : a ≡ b = omega (arith, e) in z)
noted_on choices a b (k ∷ xs) ys e = noted_on (with_noted choices a k.body) (a + 1) b xs ys (omega (arith, e))

-- ---- what is stored

-- nothing is stored
pub stores_none : (g : Ground) (i : ℕ) (s : List Stored) (c : List ℕ) → Stores g i i s s c c
stores_none g i s c = record {
  added = [];
  stored = sym (append-nil s);
  nogoods = ap all_nogoods (sym (between_none g.instances i));
  placed = tt;
  noted = ap (all_noted c i) (sym (between_none g.instances i));
}

-- one part is stored, and then the next
pub stores_on : (g : Ground) (a b c : ℕ) (s t u : List Stored) (x y z : List ℕ) → a ≤ b → b ≤ c → c ≤ length g.instances
    → Stores g a b s t x y → Stores g b c t u y z → Stores g a c s u x z
stores_on g a b c s t u x y z first next last p q = record {
  added = p.added ++ q.added;
  stored = q.stored ∙ ap (λ l. l ++ q.added) p.stored ∙ append_assoc s p.added q.added;
  nogoods = map-append store.nogood_of p.added q.added ∙ (λ i. p.nogoods i ++ q.nogoods i) ∙ sym
      (nogoods_on (between g.instances a b) (between g.instances b c)) ∙ ap all_nogoods (sym whole);
  placed = Each-append (λ (k : Stored). LitsAreBelow (length g.atoms.atoms) k.lits) p.added q.added p.placed q.placed;
  noted = q.noted ∙ ap (λ l. all_noted l b (between g.instances b c)) p.noted
      ∙ sym (noted_on x a b (between g.instances a b) (between g.instances b c)
      (between_length g.instances a b first (omega (arith, next, last)))) ∙ ap (all_noted x a) (sym whole);
}
  where
    whole : between g.instances a c ≡ between g.instances a b ++ between g.instances b c
    whole = between_on g.instances a b c first next

-- ---- one instance

-- drafts over ids below n may be stored
pub storable : (n : ℕ) (ds : List Draft) → Each (IsDraft n) ds → Each IsStorable ds
storable n ds each = Each-map (IsDraft n) IsStorable (λ d i. (i.no_atom_twice, i.negative)) ds each

-- as stored they have ids below n
pub stored_placed : (n : ℕ) (ds : List Draft) → Each (IsDraft n) ds → Each (λ (k : Stored). LitsAreBelow n k.lits) (map stored_of ds)
stored_placed n [] each = tt
stored_placed n (d ∷ ds) each = (each.0.below, stored_placed n ds each.1)

-- and are the same nogoods
stored_nogoods : (ds : List Draft) → map store.nogood_of (map stored_of ds) ≡ map nogood_of ds
stored_nogoods [] = refl
stored_nogoods (d ∷ ds) = ap (λ l. nogood_of d ∷ l) (stored_nogoods ds)

-- an instance was stored, and noted as a choice
pub stores_one : (g : Ground) (i : ℕ) (k : Made) (ds : List Draft) (s s' : List Stored) (c c' : List ℕ) → slice_get g.instances i ≡ Some k
    → map nogood_of ds ≡ nogoods_of k → Each (IsDraft (length g.atoms.atoms)) ds
    → s' ≡ s ++ map stored_of ds → c' ≡ with_noted c i k.body → Stores g i (i + 1) s s' c c'
stores_one g i k ds s s' c c' at table each stored noted = record {
  added = map stored_of ds;
  stored = stored;
  nogoods = stored_nogoods ds ∙ table ∙ sym (append-nil (nogoods_of k)) ∙ ap all_nogoods (sym one);
  placed = stored_placed (length g.atoms.atoms) ds each;
  noted = noted ∙ ap (all_noted c i) (sym one);
}
  where
    one : between g.instances i (i + 1) ≡ k ∷ []
    one = between_one g.instances i k at

-- what holds of a result that is Ok gives something else of it
pub on_ok : {A E P Q : Type 0} (r : Result A E) → OnOk r P → (P → Q) → OnOk r Q
on_ok (Ok a) p f = f p
on_ok (Err e) p f = tt

-- ---- for what stands above

-- one instance more
pub between_next : (made : List Made) (a b : ℕ) (k : Made) → a ≤ b → slice_get made b ≡ Some k
    → between made a (b + 1) ≡ between made a b ++ k ∷ []
between_next made a b k low at = between_on made a b (b + 1) low (omega arith) ∙ ap (λ l. between made a b ++ l) (between_one made b k at)

-- its nogoods come last
pub nogoods_next : (made : List Made) (a b : ℕ) (k : Made) → a ≤ b → slice_get made b ≡ Some k
    → all_nogoods (between made a (b + 1)) ≡ all_nogoods (between made a b) ++ nogoods_of k
nogoods_next made a b k low at =
    ap all_nogoods (between_next made a b k low at) ∙ nogoods_on (between made a b) (k ∷ []) ∙ ap
    (λ l. all_nogoods (between made a b) ++ l) (append-nil (nogoods_of k))

-- where the choices are those of all instances before, they are so after
pub choices_on : (made : List Made) (a b : ℕ) (c c' : List ℕ) → a ≤ b → b ≤ length made → c ≡ all_noted [] 0 (between made 0 a)
    → c' ≡ all_noted c a (between made a b) → c' ≡ all_noted [] 0 (between made 0 b)
choices_on made a b c c' low last before after = after ∙ ap (λ l. all_noted l a (between made a b)) before
    ∙ sym (noted_on [] 0 a (between made 0 a) (between made a b) (between_length made 0 a (omega arith) (omega (arith, low, last)))) ∙ ap
    (all_noted [] 0) (sym (between_on made 0 a b (omega arith) low))

-- nogoods over ids below n go after others that are so
below_append : (n : ℕ) (xs ys : List Stored) → AllAreBelow n xs → Each (λ (k : Stored). LitsAreBelow n k.lits) ys
    → AllAreBelow n (xs ++ ys)
below_append n [] ys low each m s at = Each-at (λ (k : Stored). LitsAreBelow n k.lits) ys s each (get_in ys m s at)
below_append n (x ∷ xs) ys low each zero s at = low zero s at
below_append n (x ∷ xs) ys low each (suc m) s at = below_append n xs ys (λ i k here. low (suc i) k here) each m s at

-- the atoms of what is stored have places where those of the ground and of the store before have
pub stores_below : (g : Ground) (a b n : ℕ) (s s' : List Stored) (c c' : List ℕ) → Stores g a b s s' c c' → length g.atoms.atoms ≤ n
    → AllAreBelow n s → AllAreBelow n s'
stores_below g a b n s s' c c' p many low = subst (AllAreBelow n) (sym p.stored)
    (below_append n s p.added low
    (Each-map (λ (k : Stored). LitsAreBelow (length g.atoms.atoms) k.lits) (λ (k : Stored). LitsAreBelow n k.lits)
    (λ k placed l i. let h = placed l i in omega (arith, h, many)) p.added p.placed))
