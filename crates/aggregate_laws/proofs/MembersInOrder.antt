-- Members of a set can stand before their sums.
use Rattle.std.proofs.Common.{◌≡◌, ℕ, suc, ◌+◌, Bool, true, false, List, [], ◌∷◌, refl, sym, ◌∙◌, ap, subst, inl, inr, arith}
use Rattle.std.specs.Prelude.{Option, Some, nat_le, slice_get, pos, ◌-ℤ◌}
use Rattle.lists.proofs.Places.{get_of}
use Rattle.lists.proofs.ListLemmas.{∈-one, ∈-two}
use Rattle.lists.specs.Lists.{◌∈◌}
use Rattle.core_rules.specs.declared.rules.CoreAggregate.{CoreAggregate}
use Rattle.core_rules.specs.declared.rules.Core.{Core}
use Rattle.search_values.specs.Instances.{Instance, IsOrdered}
use Rattle.search_values.proofs.Basics.{body_from, bool_cases, get_in}
use Rattle.asp_meaning.specs.declared.value.Value.{Value}
use Rattle.asp_meaning.specs.declared.value.Value.TheVariants as value
use Rattle.core_meaning.specs.Terms.{Binding}
use Rattle.core_meaning.specs.Atoms.{GroundAtom, User, Domain, Member, Total, Grid, Reach, Above}
use Rattle.core_meaning.specs.Numberings.{Numbering, adds}
use Rattle.core_meaning.specs.Steps.{Step, step_instance, skip_with, add_with, above_with}
use Rattle.core_meaning.specs.Steps as step
use Rattle.core_meaning.specs.AnswerSets.{core_instance}
use Rattle.aggregate_laws.specs.Rules.{MakerOf, ByRule, ByStep, instance_of, rules_of, IsHeadAtom, IsBodyAtom, AreRules, IsAnswerSetOf}
use Rattle.aggregate_laws.specs.Uses.{used_with, step_uses, uses_of, core_uses}
use Rattle.aggregate_laws.specs.Totals.{side_sum}
use Rattle.aggregate_laws.specs.Laws.{HasMembersFirst, MembersCanStandFirst, CoreMembersCanStandFirst}
use Rattle.aggregate_laws.proofs.Sums.{SumsTo, none, skip, add, all_picked}
use Rattle.aggregate_laws.proofs.Picking.{path_map}
use Rattle.aggregate_laws.proofs.Derivable.{Derivable, Licence, by, derivable}
use Rattle.aggregate_laws.proofs.Totals.{inst, StepBy, by_rule, by_zero, by_skip, by_add, by_reach, by_above, by_total, step_is, step_by, step_not_base, grid_of, reach_of, reach_by, reach_highest, domain_of, path_of, true_by}
use Rattle.aggregate_laws.proofs.CoreSets.{are_core_rules, of_core, to_core, to_same}

-- an atom that follows from atoms, and beside members whose numbers are used, that do so too
pub data Ready {R : Type 0} (aggs : List CoreAggregate) (rules : R → Option (Instance GroundAtom)) (N : Numbering) (c : GroundAtom → Bool) : GroundAtom → Type 0 where
  ready : {a : GroundAtom} (l : Licence (instance_of aggs rules N) c a) → c a ≡ true → ((p : GroundAtom) → p ∈ l.inst.pos → Ready aggs rules N c p)
      → ((u : GroundAtom) → u ∈ uses_of N l.maker → c u ≡ true → Ready aggs rules N c u) → Ready aggs rules N c a

-- a longer list in the same order
record Further {R : Type 0} (aggs : List CoreAggregate) (rules : R → Option (Instance GroundAtom)) (N : Numbering) (c : GroundAtom → Bool) (order : List GroundAtom) : Type 0 where
  list : List GroundAtom
  ordered : IsOrdered (instance_of aggs rules N) (uses_of N) c list
  keeps : (x : GroundAtom) → x ∈ order → x ∈ list

module _ {R : Type 0} (aggs : List CoreAggregate) (rules : R → Option (Instance GroundAtom)) (are : AreRules rules) (N : Numbering) (c : GroundAtom → Bool) (set : IsAnswerSetOf aggs rules N c) where
  -- the atom is ready
  Is : GroundAtom → Type 0
  Is a = Ready aggs rules N c a

  is_true : (a : GroundAtom) → Is a → c a ≡ true
  unfolding Is
  is_true a (ready l t p u) = t

  -- ---- an order

  -- the list is in such an order
  Ordered : List GroundAtom → Type 0
  Ordered order = IsOrdered (instance_of aggs rules N) (uses_of N) c order

  -- a longer list that has the atom
  Put : GroundAtom → List GroundAtom → Type 0
  Put a order = (l : Further aggs rules N c order) × (a ∈ l.list)

  -- all of these that are in the set can be put in turn
  put_all : (xs : List GroundAtom) → ((p : GroundAtom) → p ∈ xs → c p ≡ true → (order : List GroundAtom) → Ordered order → Put p order)
      → (order : List GroundAtom) → Ordered order → (l : Further aggs rules N c order) × ((p : GroundAtom) → p ∈ xs → c p ≡ true → p ∈ l.list)
  unfolding Put Ordered
  put_all [] f order o = (record { list = order; ordered = o; keeps = λ x i. i }, λ p i h. absurd i)
  put_all (x ∷ xs) f order o = elim (bool_cases (c x)) [
    | inl t ↦ (let one = f x (inl refl) t order o in
        let rest = put_all xs (λ p i. f p (inr i)) one.0.list one.0.ordered in (
          record { list = rest.0.list; ordered = rest.0.ordered; keeps = λ y i. rest.0.keeps y (one.0.keeps y i) },
          λ p i h. elim i [ inl e ↦ subst (λ y. y ∈ rest.0.list) (sym e) (rest.0.keeps x one.1) | inr j ↦ rest.1 p j h ],
        ))
    | inr n ↦ (let rest = put_all xs (λ p i. f p (inr i)) order o in
        (rest.0, λ p i h. elim i [ inl e ↦ (let wrong : true ≡ false = sym h ∙ ap c e ∙ n in cc) | inr j ↦ rest.1 p j h ]))
  ]

  put : (a : GroundAtom) → Ready aggs rules N c a → (order : List GroundAtom) → Ordered order → Put a order
  unfolding Put Ordered
  put a (ready l t d u) order o =
      let below = put_all l.inst.pos (λ p i h order o. put p (d p i) order o) order o in
      let used = put_all (uses_of N l.maker) (λ p i h order o. put p (u p i h) order o) below.0.list below.0.ordered in (
        record {
          list = a ∷ used.0.list;
          ordered = ((l.maker, l.inst, l.is, l.head, body_from c l.inst l.body, (λ p i. used.0.keeps p (below.1 p i (l.body.pos p i))), used.1), t, used.0.ordered);
          keeps = λ x i. inr (used.0.keeps x (below.0.keeps x i));
        },
        inl refl,
      )

  in_order : ((a : GroundAtom) → c a ≡ true → Ready aggs rules N c a) → HasMembersFirst (instance_of aggs rules N) (uses_of N) c
  unfolding Put Ordered
  in_order all =
      let r = put_all set.answers.order (λ p i h order o. put p (all p h) order o) [] tt in
      (r.0.list, (λ a h. r.1 a (set.answers.all_there a h) h), r.0.ordered)

  -- ---- steps

  -- what a step gives whose atoms and used members are ready
  makes : (s : Step) (h : GroundAtom) (ps ns : List GroundAtom) → step_instance aggs N s ≡ Some (inst h ps ns) → ((p : GroundAtom) → p ∈ ps → Is p)
      → ((n : GroundAtom) → n ∈ ns → c n ≡ false) → c h ≡ true → ((u : GroundAtom) → u ∈ step_uses N s → c u ≡ true → Is u) → Is h
  unfolding Is
  makes s h ps ns e p n t u =
      ready (record { maker = ByStep s; inst = inst h ps ns; is = e; head = refl; body = record { pos = λ q i. is_true q (p q i); neg = n } }) t p u

  -- all numbered members in the set are ready
  AllReady : ℕ → Bool → List Value → Type 0
  AllReady agg side key = (t : List Value) → t ∈ N agg side key → c (Member agg key t) ≡ true → Is (Member agg key t)

  used_ready : (agg : ℕ) (side : Bool) (key : List Value) → AllReady agg side key → (j : ℕ) (t : List Value) → slice_get (N agg side key) j ≡ Some t
      → (u : GroundAtom) → u ∈ used_with agg key (slice_get (N agg side key) j) → c u ≡ true → Is u
  unfolding AllReady
  used_ready agg side key all j t e u i h = elim (subst (λ o. u ∈ used_with agg key o) e i) [
    | inl same ↦ subst (λ x. Is x) (sym same) (all t (get_in (N agg side key) j t e) (sym (ap c same) ∙ h))
    | inr k ↦ absurd k
  ]

  grid_ready : (agg : ℕ) (side : Bool) (key : List Value) → Is (Domain agg key) → AllReady agg side key → (k sum : ℕ)
      → SumsTo (λ t. c (Member agg key t) ≡ true) (adds aggs agg side) (N agg side key) k sum → Is (Grid agg side key k sum)
  unfolding AllReady
  grid_ready agg side key d all k sum none =
      makes (step.Zero agg side key) (Grid agg side key 0 0) (Domain agg key ∷ []) [] refl (∈-one (λ a. Is a) (Domain agg key) d) (λ n i. absurd i)
      (grid_of aggs rules are N c set.answers agg side key (is_true (Domain agg key) d) 0 0 none) (λ u i h. absurd i)
  grid_ready agg side key d all k sum (skip {k = j} {sum = s} t e p) =
      makes (step.Skip agg side (suc j) s key) (Grid agg side key (suc j) s) (Grid agg side key j s ∷ []) [] (ap (skip_with agg side j s key) e)
      (∈-one (λ a. Is a) (Grid agg side key j s) (grid_ready agg side key d all j s p)) (λ n i. absurd i)
      (grid_of aggs rules are N c set.answers agg side key (is_true (Domain agg key) d) (suc j) s (skip t e p)) (used_ready agg side key all j t e)
  grid_ready agg side key d all k sum (add {k = j} {sum = s} t e h p) =
      makes (step.Add agg side (suc j) s key) (Grid agg side key (suc j) (s + adds aggs agg side t)) (Grid agg side key j s ∷ Member agg key t ∷ []) [] (ap (add_with aggs agg side j s key) e)
      (∈-two (λ a. Is a) (Grid agg side key j s) (Member agg key t) (grid_ready agg side key d all j s p) (all t (get_in (N agg side key) j t e) h)) (λ n i. absurd i)
      (grid_of aggs rules are N c set.answers agg side key (is_true (Domain agg key) d) (suc j) (s + adds aggs agg side t) (add t e h p)) (used_ready agg side key all j t e)

  reach_ready : (agg : ℕ) (side : Bool) (key : List Value) → Is (Domain agg key) → AllReady agg side key → (k sum : ℕ)
      → SumsTo (λ t. c (Member agg key t) ≡ true) (adds aggs agg side) (N agg side key) k sum → Is (Reach agg side key sum)
  reach_ready agg side key d all k sum p =
      makes (step.Reach agg side k sum key) (Reach agg side key sum) (Grid agg side key k sum ∷ []) [] refl (∈-one (λ a. Is a) (Grid agg side key k sum) (grid_ready agg side key d all k sum p)) (λ n i. absurd i)
      (reach_of aggs rules are N c set.answers agg side key (is_true (Domain agg key) d) k sum p) (λ u i h. absurd i)

  -- ---- what a derivation gives: of sums up to a number, that the members that are added are ready

  -- what a derivation of the atom gives
  Gives : GroundAtom → Type 0
  Gives (Grid agg side key k sum) = Is (Domain agg key) × SumsTo (λ t. Is (Member agg key t)) (adds aggs agg side) (N agg side key) k sum
  Gives (Reach agg side key sum) = Is (Domain agg key) × ((k : ℕ) × SumsTo (λ t. Is (Member agg key t)) (adds aggs agg side) (N agg side key) k sum)
  Gives (Above agg side key sum) = Unit {0}
  Gives a = Is a

  body_gives : (a : GroundAtom) → IsBodyAtom a → Gives a → Is a
  unfolding Gives
  body_gives (User u) b g = g
  body_gives (Domain agg key) b g = g
  body_gives (Member agg key t) b g = g
  body_gives (Total agg key v) b g = g
  body_gives (Grid agg side key k sum) b g = absurd b
  body_gives (Reach agg side key sum) b g = absurd b
  body_gives (Above agg side key sum) b g = absurd b

  gives_head : (a : GroundAtom) → IsHeadAtom a → Is a → Gives a
  unfolding Gives
  gives_head (User u) b g = g
  gives_head (Domain agg key) b g = g
  gives_head (Member agg key t) b g = g
  gives_head (Total agg key v) b g = absurd b
  gives_head (Grid agg side key k sum) b g = absurd b
  gives_head (Reach agg side key sum) b g = absurd b
  gives_head (Above agg side key sum) b g = absurd b

  -- where the sum is that of all members in the set, all of them are ready
  whole_ready : (agg : ℕ) (side : Bool) (key : List Value) (k sum : ℕ) → SumsTo (λ t. Is (Member agg key t)) (adds aggs agg side) (N agg side key) k sum
      → sum ≡ side_sum aggs N c agg key side → AllReady agg side key
  unfolding AllReady
  whole_ready agg side key k sum p whole t i h =
      let at = get_of (N agg side key) t i in
      all_picked (λ t. c (Member agg key t)) (adds aggs agg side) (λ t. Is (Member agg key t)) (λ t g. is_true (Member agg key t) g) (N agg side key)
      (λ j t e. set.numbering.weighs agg side key t (get_in (N agg side key) j t e)) k sum p whole at.0 t at.1 h

  -- the same, and the atom is in the set
  Both : GroundAtom → Type 0
  Both a = Gives a × (c a ≡ true)

  step_gives : (a : GroundAtom) → c a ≡ true → StepBy aggs N Both (λ n. c n ≡ false) a → (IsHeadAtom a → ⊥) → Gives a
  unfolding Gives Both
  step_gives a t (by_rule b) f = absurd (f b)
  step_gives a t (by_zero x) f = (x.0, none)
  step_gives a t (by_skip s e x) f = (x.0.0, skip s e x.0.1)
  step_gives a t (by_add s e x y) f = (x.0.0, add s e y.0 x.0.1)
  step_gives a t (by_reach k x) f = (x.0.0, (k, x.0.1))
  step_gives a t (by_above high below x y) f = tt
  step_gives a t (by_total {agg = agg} {key = key} up down x y m n) f =
      let d = x.0.0 in
      let dom = is_true (Domain agg key) d in
      let eu = reach_highest aggs rules are N c set.answers agg true key up dom x.1 m in
      let ed = reach_highest aggs rules are N c set.answers agg false key down dom y.1 n in
      let ups = whole_ready agg true key x.0.1.0 up x.0.1.1 eu in
      let downs = whole_ready agg false key y.0.1.0 down y.0.1.1 ed in
      makes (step.Total agg up down key) (Total agg key (value.Int (pos up -ℤ pos down))) (Reach agg true key up ∷ Reach agg false key down ∷ []) (Above agg true key up ∷ Above agg false key down ∷ []) refl
      (∈-two (λ a. Is a) (Reach agg true key up) (Reach agg false key down)
      (reach_ready agg true key d ups x.0.1.0 up (path_map (λ t g. is_true (Member agg key t) g) x.0.1.0 up x.0.1.1))
      (reach_ready agg false key d downs y.0.1.0 down (path_map (λ t g. is_true (Member agg key t) g) y.0.1.0 down y.0.1.1)))
      (∈-two (λ x. c x ≡ false) (Above agg true key up) (Above agg false key down) m n) t (λ u i h. absurd i)

  gives : (a : GroundAtom) → Derivable (instance_of aggs rules N) c a → Gives a
  unfolding Is Both
  gives a (by l t d) = go l.maker l.is (λ p i. gives p (d p i))
    where
      go : (m : MakerOf R) → instance_of aggs rules N m ≡ Some l.inst → ((p : GroundAtom) → p ∈ l.inst.pos → Gives p) → Gives a
      go (ByRule r) e below = gives_head a (are.heads r l.inst e a l.head)
          (ready (record { maker = ByRule r; inst = l.inst; is = e; head = l.head; body = l.body }) t (λ p i. body_gives p (are.pos r l.inst e p i) (below p i)) (λ u i h. absurd i))
      go (ByStep s) e below =
          let is = step_is aggs N s l.inst e in
          step_gives a t (step_by aggs N Both (λ n. c n ≡ false) l.inst is a l.head (λ p i. (below p i, l.body.pos p i)) l.body.neg) (λ b. step_not_base aggs N l.inst is a l.head b)

  -- ---- all atoms

  given : (a : GroundAtom) → c a ≡ true → IsBodyAtom a → Is a
  given a t b = body_gives a b (gives a (derivable set.answers a t))

  members_ready : (agg : ℕ) (side : Bool) (key : List Value) → AllReady agg side key
  unfolding AllReady
  members_ready agg side key t i h = given (Member agg key t) h tt

  reach_is : (agg : ℕ) (side : Bool) (key : List Value) (sum : ℕ) → c (Reach agg side key sum) ≡ true → Is (Reach agg side key sum)
  reach_is agg side key sum t =
      let r = reach_by aggs rules are N c set.answers agg side key sum t in
      reach_ready agg side key (given (Domain agg key) r.0 tt) (members_ready agg side key) r.1.0 sum r.1.1

  above_is : (agg : ℕ) (side : Bool) (key : List Value) (low : ℕ) → c (Above agg side key low) ≡ true
      → StepBy aggs N (λ p. c p ≡ true) (λ n. c n ≡ false) (Above agg side key low) → Is (Above agg side key low)
  above_is agg side key low t (by_rule b) = absurd b
  above_is agg side key low t (by_above high below l h) =
      let b : nat_le (suc low) high ≡ true = grind arith in
      makes (step.Above agg side low high key) (Above agg side key low) (Reach agg side key low ∷ Reach agg side key high ∷ []) [] (ap (above_with agg side low high key) b)
      (∈-two (λ a. Is a) (Reach agg side key low) (Reach agg side key high) (reach_is agg side key low l) (reach_is agg side key high h)) (λ n i. absurd i) t (λ u i h. absurd i)

  all_ready : (a : GroundAtom) → c a ≡ true → Is a
  all_ready (User u) t = given (User u) t tt
  all_ready (Domain agg key) t = given (Domain agg key) t tt
  all_ready (Member agg key x) t = given (Member agg key x) t tt
  all_ready (Total agg key v) t = given (Total agg key v) t tt
  all_ready (Grid agg side key k sum) t =
      grid_ready agg side key (given (Domain agg key) (domain_of aggs rules are N c set.answers agg side key k sum t) tt) (members_ready agg side key) k sum
      (path_of aggs rules are N c set.answers agg side key k sum t)
  all_ready (Reach agg side key sum) t = reach_is agg side key sum t
  all_ready (Above agg side key sum) t = above_is agg side key sum t (true_by aggs rules are N c set.answers (Above agg side key sum) t)

  members_in_order : HasMembersFirst (instance_of aggs rules N) (uses_of N) c
  unfolding Is
  members_in_order = in_order all_ready

pub members_can_stand_first : {R : Type 0} → MembersCanStandFirst R
members_can_stand_first aggs rules are n c set = members_in_order aggs rules are n c set

-- ---- of a core

-- a list is ordered by other makers of the same instances that use the same numbers
ordered_by_others : {A K L : Type 0} (first : K → Option (Instance A)) (second : L → Option (Instance A)) (uses : K → List A) (others : L → List A) (f : K → L)
    → ((m : K) → second (f m) ≡ first m) → ((m : K) → others (f m) ≡ uses m)
    → (set : A → Bool) (order : List A) → IsOrdered first uses set order → IsOrdered second others set order
ordered_by_others first second uses others f same uses_same set [] ordered = tt
ordered_by_others first second uses others f same uses_same set (a ∷ order) ordered =
    let from = ordered.0 in (
      (f from.0, from.1, same from.0 ∙ from.2, from.3, from.4, from.5, (λ u i h. from.6 u (subst (λ xs. u ∈ xs) (uses_same from.0) i) h)),
      ordered.1,
      ordered_by_others first second uses others f same uses_same set order ordered.2,
    )

core_uses_same : (core : Core) (n : Numbering) (m : MakerOf (ℕ × Binding)) → core_uses n (to_core core n m) ≡ uses_of n m
core_uses_same core n (ByRule r) = refl
core_uses_same core n (ByStep s) = refl

pub core_members_can_stand_first : CoreMembersCanStandFirst
core_members_can_stand_first core form n c set =
    let r = members_can_stand_first core.aggregates (rules_of core) (are_core_rules core form) n c (of_core core n c set) in
    (r.0, r.1, ordered_by_others (instance_of core.aggregates (rules_of core) n) (core_instance core n) (uses_of n) (core_uses n) (to_core core n) (to_same core n) (core_uses_same core n) c r.0 r.2)
