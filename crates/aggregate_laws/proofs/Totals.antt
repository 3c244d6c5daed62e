-- In a set that is closed and founded the total of a key is that of its members.
use Rattle.std.proofs.Common.{◌≡◌, ℕ, suc, zero, ◌+◌, ◌≤◌, ◌<◌, ◌⊎◌, Bool, true, false, List, [], ◌∷◌, length, refl, sym, ◌∙◌, ap, subst, inl, inr, arith}
use Rattle.std.specs.Prelude.{Option, Some, None, nat_le, slice_get, pos, ◌-ℤ◌}
use Rattle.std.proofs.lemmas.Option.{same_Some}
use Rattle.lists.proofs.ListLemmas.{∈-one, ∈-two}
use Rattle.lists.specs.Lists.{◌∈◌}
use Rattle.core_rules.specs.declared.rules.CoreAggregate.{CoreAggregate}
use Rattle.search_values.specs.Instances.{Plain, Instance, IsHead}
use Rattle.search_values.proofs.Basics.{bool_cases}
use Rattle.asp_meaning.specs.declared.value.Value.{Value}
use Rattle.asp_meaning.specs.declared.value.Value.TheVariants as value
use Rattle.core_meaning.specs.Atoms.{GroundAtom, Domain, Member, Total, Grid, Reach, Above}
use Rattle.core_meaning.specs.Numberings.{Numbering, adds}
use Rattle.core_meaning.specs.Steps.{Step, step_instance, skip_at, add_at, skip_with, add_with, above_with}
use Rattle.core_meaning.specs.Steps as step
use Rattle.aggregate_laws.specs.Rules.{MakerOf, ByRule, ByStep, instance_of, IsHeadAtom, AreRules, IsFoundedSet}
use Rattle.aggregate_laws.specs.Totals.{side_sum, total_in}
use Rattle.aggregate_laws.specs.Laws.{TotalsAreExact}
use Rattle.aggregate_laws.proofs.Derivable.{Derivable, Licence, by, derivable, closed_at}
use Rattle.aggregate_laws.proofs.Sums.{SumsTo, none, skip, add, full_sum, sum_most}

-- an instance that makes its head follow
abbrev pub inst : {A : Type 0} → A → List A → List A → Instance A
inst h ps ns = record { kind = Plain h; pos = ps; neg = ns }

-- the instances of steps
pub data StepIs (aggs : List CoreAggregate) (N : Numbering) : Instance GroundAtom → Type 0 where
  is_zero : (agg : ℕ) (side : Bool) (key : List Value) → StepIs aggs N (inst (Grid agg side key 0 0) (Domain agg key ∷ []) [])
  is_skip : (agg : ℕ) (side : Bool) (key : List Value) (k sum : ℕ) (t : List Value) → slice_get (N agg side key) k ≡ Some t
      → StepIs aggs N (inst (Grid agg side key (suc k) sum) (Grid agg side key k sum ∷ []) [])
  is_add : (agg : ℕ) (side : Bool) (key : List Value) (k sum : ℕ) (t : List Value) → slice_get (N agg side key) k ≡ Some t
      → StepIs aggs N (inst (Grid agg side key (suc k) (sum + adds aggs agg side t)) (Grid agg side key k sum ∷ Member agg key t ∷ []) [])
  is_reach : (agg : ℕ) (side : Bool) (key : List Value) (k sum : ℕ) → StepIs aggs N (inst (Reach agg side key sum) (Grid agg side key k sum ∷ []) [])
  is_above : (agg : ℕ) (side : Bool) (key : List Value) (low high : ℕ) → low < high
      → StepIs aggs N (inst (Above agg side key low) (Reach agg side key low ∷ Reach agg side key high ∷ []) [])
  is_total : (agg : ℕ) (key : List Value) (up down : ℕ)
      → StepIs aggs N (inst (Total agg key (value.Int (pos up -ℤ pos down))) (Reach agg true key up ∷ Reach agg false key down ∷ []) (Above agg true key up ∷ Above agg false key down ∷ []))

-- Which step gives the atom: P of its positive atoms, and Q of its negative ones.
pub data StepBy (aggs : List CoreAggregate) (N : Numbering) (P Q : GroundAtom → Type 0) : GroundAtom → Type 0 where
  by_rule : {a : GroundAtom} → IsHeadAtom a → StepBy aggs N P Q a
  by_zero : {agg : ℕ} {side : Bool} {key : List Value} → P (Domain agg key) → StepBy aggs N P Q (Grid agg side key 0 0)
  by_skip : {agg : ℕ} {side : Bool} {key : List Value} {k sum : ℕ} (t : List Value) → slice_get (N agg side key) k ≡ Some t → P (Grid agg side key k sum) → StepBy aggs N P Q (Grid agg side key (suc k) sum)
  by_add : {agg : ℕ} {side : Bool} {key : List Value} {k sum : ℕ} (t : List Value) → slice_get (N agg side key) k ≡ Some t → P (Grid agg side key k sum) → P (Member agg key t)
      → StepBy aggs N P Q (Grid agg side key (suc k) (sum + adds aggs agg side t))
  by_reach : {agg : ℕ} {side : Bool} {key : List Value} (k : ℕ) {sum : ℕ} → P (Grid agg side key k sum) → StepBy aggs N P Q (Reach agg side key sum)
  by_above : {agg : ℕ} {side : Bool} {key : List Value} {low : ℕ} (high : ℕ) → low < high → P (Reach agg side key low) → P (Reach agg side key high) → StepBy aggs N P Q (Above agg side key low)
  by_total : {agg : ℕ} {key : List Value} (up down : ℕ) → P (Reach agg true key up) → P (Reach agg false key down) → Q (Above agg true key up) → Q (Above agg false key down)
      → StepBy aggs N P Q (Total agg key (value.Int (pos up -ℤ pos down)))

module _ (aggs : List CoreAggregate) (N : Numbering) where
  pub step_is : (s : Step) (i : Instance GroundAtom) → step_instance aggs N s ≡ Some i → StepIs aggs N i
  step_is (step.Zero agg side key) i e = subst (λ j. StepIs aggs N j) (same_Some _ _ e) (is_zero agg side key)
  step_is (step.Skip agg side zero sum key) i e = cc
  step_is (step.Skip agg side (suc k) sum key) i e = go (slice_get (N agg side key) k) refl e
    where
      go : (o : Option (List Value)) → slice_get (N agg side key) k ≡ o → skip_with agg side k sum key o ≡ Some i → StepIs aggs N i
      go None o e = cc
      go (Some t) o e = subst (λ j. StepIs aggs N j) (same_Some _ _ e) (is_skip agg side key k sum t o)
  step_is (step.Add agg side zero sum key) i e = cc
  step_is (step.Add agg side (suc k) sum key) i e = go (slice_get (N agg side key) k) refl e
    where
      go : (o : Option (List Value)) → slice_get (N agg side key) k ≡ o → add_with aggs agg side k sum key o ≡ Some i → StepIs aggs N i
      go None o e = cc
      go (Some t) o e = subst (λ j. StepIs aggs N j) (same_Some _ _ e) (is_add agg side key k sum t o)
  step_is (step.Reach agg side k sum key) i e = subst (λ j. StepIs aggs N j) (same_Some _ _ e) (is_reach agg side key k sum)
  step_is (step.Above agg side low high key) i e = go (nat_le (suc low) high) refl e
    where
      go : (b : Bool) → nat_le (suc low) high ≡ b → above_with agg side low high key b ≡ Some i → StepIs aggs N i
      go false h e = cc
      go true h e = let below : low < high = grind arith in subst (λ j. StepIs aggs N j) (same_Some _ _ e) (is_above agg side key low high below)
  step_is (step.Total agg up down key) i e = subst (λ j. StepIs aggs N j) (same_Some _ _ e) (is_total agg key up down)

  pub step_by : (P Q : GroundAtom → Type 0) (i : Instance GroundAtom) → StepIs aggs N i → (a : GroundAtom) → IsHead i.kind a
      → ((p : GroundAtom) → (p ∈ i.pos) → P p) → ((n : GroundAtom) → (n ∈ i.neg) → Q n) → StepBy aggs N P Q a
  step_by P Q i (is_zero agg side key) a h p q = subst (λ x. StepBy aggs N P Q x) h (by_zero (p _ (inl refl)))
  step_by P Q i (is_skip agg side key k sum t e) a h p q = subst (λ x. StepBy aggs N P Q x) h (by_skip t e (p _ (inl refl)))
  step_by P Q i (is_add agg side key k sum t e) a h p q = subst (λ x. StepBy aggs N P Q x) h (by_add t e (p _ (inl refl)) (p _ (inr (inl refl))))
  step_by P Q i (is_reach agg side key k sum) a h p q = subst (λ x. StepBy aggs N P Q x) h (by_reach k (p _ (inl refl)))
  step_by P Q i (is_above agg side key low high below) a h p q = subst (λ x. StepBy aggs N P Q x) h (by_above high below (p _ (inl refl)) (p _ (inr (inl refl))))
  step_by P Q i (is_total agg key up down) a h p q =
      subst (λ x. StepBy aggs N P Q x) h (by_total up down (p _ (inl refl)) (p _ (inr (inl refl))) (q _ (inl refl)) (q _ (inr (inl refl))))

-- no step gives an atom that may be the head of a rule
pub step_not_base : (aggs : List CoreAggregate) (N : Numbering) (i : Instance GroundAtom) → StepIs aggs N i → (a : GroundAtom) → IsHead i.kind a → IsHeadAtom a → ⊥
step_not_base aggs N i (is_zero agg side key) a h b = subst (λ x. IsHeadAtom x) (sym h) b
step_not_base aggs N i (is_skip agg side key k sum t e) a h b = subst (λ x. IsHeadAtom x) (sym h) b
step_not_base aggs N i (is_add agg side key k sum t e) a h b = subst (λ x. IsHeadAtom x) (sym h) b
step_not_base aggs N i (is_reach agg side key k sum) a h b = subst (λ x. IsHeadAtom x) (sym h) b
step_not_base aggs N i (is_above agg side key low high below) a h b = subst (λ x. IsHeadAtom x) (sym h) b
step_not_base aggs N i (is_total agg key up down) a h b = subst (λ x. IsHeadAtom x) (sym h) b

module _ {R : Type 0} (aggs : List CoreAggregate) (rules : R → Option (Instance GroundAtom)) (are : AreRules rules) (N : Numbering) where
  -- P of the positive atoms of a licence
  pub licence_by : (c : GroundAtom → Bool) (P : GroundAtom → Type 0) (a : GroundAtom) (l : Licence (instance_of aggs rules N) c a)
      → ((p : GroundAtom) → (p ∈ l.inst.pos) → P p) → StepBy aggs N P (λ n. c n ≡ false) a
  licence_by c P a l p = go l.maker l.is
    where
      go : (m : MakerOf R) → instance_of aggs rules N m ≡ Some l.inst → StepBy aggs N P (λ n. c n ≡ false) a
      go (ByRule r) e = by_rule (are.heads r l.inst e a l.head)
      go (ByStep s) e = step_by aggs N P (λ n. c n ≡ false) l.inst (step_is aggs N s l.inst e) a l.head p l.body.neg

  module _ (c : GroundAtom → Bool) (set : IsFoundedSet (instance_of aggs rules N) c) where
    -- a step gives the atom, or a rule
    abbrev pub IsGiven : GroundAtom → Type 0
    IsGiven a = StepBy aggs N (λ p. c p ≡ true) (λ n. c n ≡ false) a

    pub true_by : (a : GroundAtom) → c a ≡ true → IsGiven a
    true_by a t = go (derivable set a t)
      where
        go : Derivable (instance_of aggs rules N) c a → IsGiven a
        go (by l u d) = licence_by c (λ p. c p ≡ true) a l l.body.pos

    -- an aggregate has sums for the keys alone to which it applies
    pub domain_of : (agg : ℕ) (side : Bool) (key : List Value) (k sum : ℕ) → c (Grid agg side key k sum) ≡ true → c (Domain agg key) ≡ true
    domain_of agg side key zero sum t = go (true_by (Grid agg side key zero sum) t)
      where
        go : {s : ℕ} → IsGiven (Grid agg side key zero s) → c (Domain agg key) ≡ true
        go (by_rule b) = absurd b
        go (by_zero d) = d
    domain_of agg side key (suc k) sum t = go (λ s d. domain_of agg side key k s d) (true_by (Grid agg side key (suc k) sum) t)
      where
        go : ((s : ℕ) → c (Grid agg side key k s) ≡ true → c (Domain agg key) ≡ true) → {s : ℕ} → IsGiven (Grid agg side key (suc k) s) → c (Domain agg key) ≡ true
        go f (by_rule b) = absurd b
        go f (by_skip {sum = s} t e d) = f s d
        go f (by_add {sum = s} t e d m) = f s d

    -- a sum up to a number in the set is one of members in the set
    pub path_of : (agg : ℕ) (side : Bool) (key : List Value) (k sum : ℕ) → c (Grid agg side key k sum) ≡ true → SumsTo (λ t. c (Member agg key t) ≡ true) (adds aggs agg side) (N agg side key) k sum
    path_of agg side key zero sum t = go (true_by (Grid agg side key zero sum) t)
      where
        go : {s : ℕ} → IsGiven (Grid agg side key zero s) → SumsTo (λ t. c (Member agg key t) ≡ true) (adds aggs agg side) (N agg side key) zero s
        go (by_rule b) = absurd b
        go (by_zero d) = none
    path_of agg side key (suc k) sum t = go (λ s d. path_of agg side key k s d) (true_by (Grid agg side key (suc k) sum) t)
      where
        go : ((s : ℕ) → c (Grid agg side key k s) ≡ true → SumsTo (λ t. c (Member agg key t) ≡ true) (adds aggs agg side) (N agg side key) k s)
            → {s : ℕ} → IsGiven (Grid agg side key (suc k) s) → SumsTo (λ t. c (Member agg key t) ≡ true) (adds aggs agg side) (N agg side key) (suc k) s
        go f (by_rule b) = absurd b
        go f (by_skip {sum = s} t e d) = skip t e (f s d)
        go f (by_add {sum = s} t e d m) = add t e m (f s d)

    -- a step whose body holds
    fires : (s : Step) (h : GroundAtom) (ps ns : List GroundAtom) → step_instance aggs N s ≡ Some (inst h ps ns)
        → ((p : GroundAtom) → (p ∈ ps) → c p ≡ true) → ((n : GroundAtom) → (n ∈ ns) → c n ≡ false) → c h ≡ true
    fires s h ps ns e p n = closed_at set (ByStep s) (inst h ps ns) e (record { pos = p; neg = n })

    -- and each such sum is in the set
    pub grid_of : (agg : ℕ) (side : Bool) (key : List Value) → c (Domain agg key) ≡ true → (k sum : ℕ) → SumsTo (λ t. c (Member agg key t) ≡ true) (adds aggs agg side) (N agg side key) k sum → c (Grid agg side key k sum) ≡ true
    grid_of agg side key d k sum none = fires (step.Zero agg side key) (Grid agg side key 0 0) (Domain agg key ∷ []) [] refl (∈-one (λ x. c x ≡ true) (Domain agg key) d) (λ n i. absurd i)
    grid_of agg side key d k sum (skip {k = j} {sum = s} t e p) =
        fires (step.Skip agg side (suc j) s key) (Grid agg side key (suc j) s) (Grid agg side key j s ∷ []) [] (ap (skip_with agg side j s key) e)
        (∈-one (λ x. c x ≡ true) (Grid agg side key j s) (grid_of agg side key d j s p)) (λ n i. absurd i)
    grid_of agg side key d k sum (add {k = j} {sum = s} t e h p) =
        fires (step.Add agg side (suc j) s key) (Grid agg side key (suc j) (s + adds aggs agg side t)) (Grid agg side key j s ∷ Member agg key t ∷ []) [] (ap (add_with aggs agg side j s key) e)
        (∈-two (λ x. c x ≡ true) (Grid agg side key j s) (Member agg key t) (grid_of agg side key d j s p) h) (λ n i. absurd i)

    pub reach_of : (agg : ℕ) (side : Bool) (key : List Value) → c (Domain agg key) ≡ true → (k sum : ℕ) → SumsTo (λ t. c (Member agg key t) ≡ true) (adds aggs agg side) (N agg side key) k sum → c (Reach agg side key sum) ≡ true
    reach_of agg side key d k sum p =
        fires (step.Reach agg side k sum key) (Reach agg side key sum) (Grid agg side key k sum ∷ []) [] refl
        (∈-one (λ x. c x ≡ true) (Grid agg side key k sum) (grid_of agg side key d k sum p)) (λ n i. absurd i)

    pub reach_by : (agg : ℕ) (side : Bool) (key : List Value) (sum : ℕ) → c (Reach agg side key sum) ≡ true
        → (c (Domain agg key) ≡ true) × ((k : ℕ) × SumsTo (λ t. c (Member agg key t) ≡ true) (adds aggs agg side) (N agg side key) k sum)
    reach_by agg side key sum t = go (true_by (Reach agg side key sum) t)
      where
        go : IsGiven (Reach agg side key sum) → (c (Domain agg key) ≡ true) × ((k : ℕ) × SumsTo (λ t. c (Member agg key t) ≡ true) (adds aggs agg side) (N agg side key) k sum)
        go (by_rule b) = absurd b
        go (by_reach k h) = (domain_of agg side key k sum h, (k, path_of agg side key k sum h))

    reach_most : (agg : ℕ) (side : Bool) (key : List Value) (sum : ℕ) → c (Reach agg side key sum) ≡ true → sum ≤ side_sum aggs N c agg key side
    reach_most agg side key sum t = let r = reach_by agg side key sum t in sum_most (λ t. c (Member agg key t)) (adds aggs agg side) (N agg side key) r.1.0 sum r.1.1

    reach_full : (agg : ℕ) (side : Bool) (key : List Value) → c (Domain agg key) ≡ true → c (Reach agg side key (side_sum aggs N c agg key side)) ≡ true
    reach_full agg side key d = reach_of agg side key d (length (N agg side key)) (side_sum aggs N c agg key side) (full_sum (λ t. c (Member agg key t)) (adds aggs agg side) (N agg side key))

    not_above : (agg : ℕ) (side : Bool) (key : List Value) → c (Above agg side key (side_sum aggs N c agg key side)) ≡ false
    not_above agg side key = go (bool_cases (c (Above agg side key (side_sum aggs N c agg key side))))
      where
        above : {s : ℕ} → s ≡ side_sum aggs N c agg key side → IsGiven (Above agg side key s) → ⊥
        above e (by_rule b) = absurd b
        above e (by_above high below l h) = omega (arith, reach_most agg side key high h)

        go : (c (Above agg side key (side_sum aggs N c agg key side)) ≡ true) ⊎ (c (Above agg side key (side_sum aggs N c agg key side)) ≡ false) → c (Above agg side key (side_sum aggs N c agg key side)) ≡ false
        go (inr f) = f
        go (inl t) = absurd (above refl (true_by _ t))

    pub above_less : (agg : ℕ) (side : Bool) (key : List Value) (low high : ℕ) → low < high → c (Reach agg side key low) ≡ true → c (Reach agg side key high) ≡ true → c (Above agg side key low) ≡ true
    above_less agg side key low high below l h =
        let b : nat_le (suc low) high ≡ true = grind arith in
        fires (step.Above agg side low high key) (Above agg side key low) (Reach agg side key low ∷ Reach agg side key high ∷ []) [] (ap (above_with agg side low high key) b)
        (∈-two (λ x. c x ≡ true) (Reach agg side key low) (Reach agg side key high) l h) (λ n i. absurd i)

    -- the highest reached sum is the sum of all members in the set
    pub reach_highest : (agg : ℕ) (side : Bool) (key : List Value) (sum : ℕ) → c (Domain agg key) ≡ true → c (Reach agg side key sum) ≡ true → c (Above agg side key sum) ≡ false → sum ≡ side_sum aggs N c agg key side
    reach_highest agg side key sum d r a = go (le_cases sum (side_sum aggs N c agg key side) (reach_most agg side key sum r))
      where
        le_cases : (m n : ℕ) → m ≤ n → (m ≡ n) ⊎ (m < n)
        le_cases m n h = grind arith

        go : (sum ≡ side_sum aggs N c agg key side) ⊎ (sum < side_sum aggs N c agg key side) → sum ≡ side_sum aggs N c agg key side
        go (inl e) = e
        go (inr b) = let t = above_less agg side key sum (side_sum aggs N c agg key side) b r (reach_full agg side key d) in let wrong : true ≡ false = sym t ∙ a in cc

    -- the total of the members is in the set
    pub total_there : (agg : ℕ) (key : List Value) → c (Domain agg key) ≡ true → c (Total agg key (total_in aggs N c agg key)) ≡ true
    total_there agg key d =
        let up = side_sum aggs N c agg key true in
        let down = side_sum aggs N c agg key false in
        fires (step.Total agg up down key) (Total agg key (total_in aggs N c agg key)) (Reach agg true key up ∷ Reach agg false key down ∷ []) (Above agg true key up ∷ Above agg false key down ∷ []) refl
        (∈-two (λ x. c x ≡ true) (Reach agg true key up) (Reach agg false key down) (reach_full agg true key d) (reach_full agg false key d))
        (∈-two (λ x. c x ≡ false) (Above agg true key up) (Above agg false key down) (not_above agg true key) (not_above agg false key))

    -- and no other
    pub total_only : (agg : ℕ) (key : List Value) (v : Value) → c (Total agg key v) ≡ true → (c (Domain agg key) ≡ true) × (v ≡ total_in aggs N c agg key)
    total_only agg key v t = go (true_by (Total agg key v) t)
      where
        go : {v : Value} → IsGiven (Total agg key v) → (c (Domain agg key) ≡ true) × (v ≡ total_in aggs N c agg key)
        go (by_rule b) = absurd b
        go (by_total up down ru rd au ad) =
            let d = (reach_by agg true key up ru).0 in
            let eu = reach_highest agg true key up d ru au in
            let ed = reach_highest agg false key down d rd ad in
            (d, ap (λ (q : ℕ × ℕ). value.Int (pos q.0 -ℤ pos q.1)) (pair up _ down _ eu ed))
          where
            pair : (a b x y : ℕ) → a ≡ b → x ≡ y → ◌≡◌ {A = ℕ × ℕ} (a, x) (b, y)
            pair a b x y e f = cc

pub totals_are_exact : {R : Type 0} → TotalsAreExact R
totals_are_exact aggs rules are N c set agg key v = (total_only aggs rules are N c set.answers agg key v, total_there aggs rules are N c set.answers agg key)
