-- Whether two core atoms are the same can be decided.
use Rattle.std.proofs.Common.{◌≡◌, ℕ, ◌⊎◌, Bool, true, false, List, [], ◌∷◌, refl, sym, ◌∙◌, ap, inl, inr, arith}
use Rattle.asp_meaning.specs.declared.value.Value.{Value}
use Rattle.core_meaning.specs.Atoms.{GroundAtom, User, Domain, Member, Total, Grid, Reach, Above}
use Rattle.std.specs.declared.cmp.Ordering.{Ordering}
use Rattle.std.specs.declared.cmp.Ordering.TheVariants.{Less, Equal, Greater}
use Rattle.asp_meaning.specs.Orders.{value_cmp}
use Rattle.asp_meaning.proofs.ValueOrder.{less_equal, greater_equal, value_same, value_itself}
use Rattle.asp_meaning.proofs.AtomOrder.{same_atom}
use Rattle.lists.specs.Lists.{◌∈◌}

-- two values of the type are the same or not
abbrev pub Decides : Type 0 → Type 0
Decides X = (a b : X) → (a ≡ b) ⊎ (a ≡ b → ⊥)

pub decide_value : Decides Value
decide_value x y = go (value_cmp x y) refl
  where
    go : (o : Ordering) → value_cmp x y ≡ o → (x ≡ y) ⊎ (x ≡ y → ⊥)
    go Less e = inr (λ same. less_equal (sym e ∙ ap (value_cmp x) (sym same) ∙ value_itself x))
    go Equal e = inl (value_same x y e)
    go Greater e = inr (λ same. greater_equal (sym e ∙ ap (value_cmp x) (sym same) ∙ value_itself x))

pub decide_list : {X : Type 0} → Decides X → Decides (List X)
decide_list f [] [] = inl refl
decide_list f [] (y ∷ ys) = inr (λ e. cc)
decide_list f (x ∷ xs) [] = inr (λ e. cc)
decide_list f (x ∷ xs) (y ∷ ys) = elim (f x y) [
  | inr n ↦ inr (λ e. n (let h : x ≡ y = cc in h))
  | inl e ↦ elim (decide_list f xs ys) [ inr n ↦ inr (λ g. n (let h : xs ≡ ys = cc in h)) | inl g ↦ inl cc ]
]

pub decide_member : {X : Type 0} → Decides X → (x : X) (xs : List X) → (x ∈ xs) ⊎ (x ∈ xs → ⊥)
decide_member equal a [] = inr (λ i. i)
decide_member equal a (x ∷ xs) = elim (equal a x) [
  | inl e ↦ inl (inl e)
  | inr n ↦ elim (decide_member equal a xs) [ inl i ↦ inl (inr i) | inr m ↦ inr (λ i. elim i [ inl e ↦ n e | inr j ↦ m j ]) ]
]

pub decide_nat : Decides ℕ
decide_nat a b = grind arith

decide_bool : Decides Bool
decide_bool true true = inl refl
decide_bool true false = inr (λ e. cc)
decide_bool false true = inr (λ e. cc)
decide_bool false false = inl refl

pub decide_pair : {X Y : Type 0} → Decides X → Decides Y → Decides (X × Y)
decide_pair {X} {Y} f g (a, b) (x, y) = elim (f a x) [
  | inr n ↦ inr (λ e. n (ap (λ (p : X × Y). p.0) e))
  | inl p ↦ elim (g b y) [ inr n ↦ inr (λ e. n (ap (λ (p : X × Y). p.1) e)) | inl q ↦ inl (λ i. (p i, q i)) ]
]

-- what core atoms are told apart by, but for the atom of the program
abbrev Tuple : Type 0
Tuple = (ℕ × Bool) × ((List Value × List Value) × (ℕ × ℕ))

decide_tuple : Decides Tuple
decide_tuple = decide_pair (decide_pair decide_nat decide_bool) (decide_pair (decide_pair (decide_list decide_value) (decide_list decide_value)) (decide_pair decide_nat decide_nat))

abbrev tuple : ℕ → Bool → List Value → List Value → ℕ → ℕ → Tuple
tuple agg side key t k sum = ((agg, side), ((key, t), (k, sum)))

-- the parts of a core atom
abbrev parts : GroundAtom → Tuple
parts (User u) = tuple 0 true [] [] 0 0
parts (Domain agg key) = tuple agg true key [] 0 0
parts (Member agg key t) = tuple agg true key t 0 0
parts (Total agg key v) = tuple agg true key (v ∷ []) 0 0
parts (Grid agg side key k sum) = tuple agg side key [] k sum
parts (Reach agg side key sum) = tuple agg side key [] 0 sum
parts (Above agg side key sum) = tuple agg side key [] 0 sum

by_parts : (a b : GroundAtom) → (parts a ≡ parts b → a ≡ b) → (a ≡ b) ⊎ (a ≡ b → ⊥)
by_parts a b f = elim (decide_tuple (parts a) (parts b)) [ inl e ↦ inl (f e) | inr n ↦ inr (λ e. n (ap (λ (x : GroundAtom). parts x) e)) ]

pub decide_ground_atom : Decides GroundAtom
decide_ground_atom (User u) (User v) = elim (same_atom u v) [ inl e ↦ inl (ap (λ x. User x) e) | inr n ↦ inr (λ e. n (let h : u ≡ v = cc in h)) ]
decide_ground_atom (Domain agg key) (Domain agagg' key') = by_parts _ _ (λ e. λ i. Domain ((e i).0.0) ((e i).1.0.0))
decide_ground_atom (Member agg key t) (Member agagg' key' t') = by_parts _ _ (λ e. λ i. Member ((e i).0.0) ((e i).1.0.0) ((e i).1.0.1))
decide_ground_atom (Total agg key v) (Total agagg' key' v') = by_parts _ _ (λ e. let h : ◌≡◌ {A = List Value} (v ∷ []) (v' ∷ []) = (λ i. (e i).1.0.1) in let k : v ≡ v' = cc in λ i. Total ((e i).0.0) ((e i).1.0.0) (k i))
decide_ground_atom (Grid agg side key k sum) (Grid agagg' side' key' k' sum') = by_parts _ _ (λ e. λ i. Grid ((e i).0.0) ((e i).0.1) ((e i).1.0.0) ((e i).1.1.0) ((e i).1.1.1))
decide_ground_atom (Reach agg side key sum) (Reach agagg' side' key' sum') = by_parts _ _ (λ e. λ i. Reach ((e i).0.0) ((e i).0.1) ((e i).1.0.0) ((e i).1.1.1))
decide_ground_atom (Above agg side key sum) (Above agagg' side' key' sum') = by_parts _ _ (λ e. λ i. Above ((e i).0.0) ((e i).0.1) ((e i).1.0.0) ((e i).1.1.1))
decide_ground_atom a b = inr (λ e. cc)
