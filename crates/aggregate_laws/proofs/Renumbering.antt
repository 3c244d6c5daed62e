-- A set stays one of its rules when its members get other numbers; only its sums up to a number change.
use Rattle.std.proofs.Common.{◌≡◌, ℕ, suc, ◌+◌, ◌⊎◌, Bool, true, false, ◌&&◌, List, [], ◌∷◌, ◌++◌, length, refl, sym, ◌∙◌, ap, subst, inl, inr, arith}
use Rattle.std.specs.Prelude.{Option, Some, nat_le, pos, ◌-ℤ◌}
use Rattle.lists.specs.Lists.{◌∈◌}
use Rattle.lists.proofs.ListLemmas.{∈-append_left, ∈-append_right, ∈-one, ∈-two}
use Rattle.core_rules.specs.declared.rules.CoreAggregate.{CoreAggregate}
use Rattle.search_values.specs.Instances.{Kind, Plain, Choice, Constraint, Instance, IsHead, KindHolds, body_holds}
use Rattle.search_values.proofs.Basics.{BodyParts, body_parts}
use Rattle.asp_meaning.specs.declared.value.Value.{Value}
use Rattle.asp_meaning.specs.declared.value.Value.TheVariants as value
use Rattle.core_meaning.specs.Atoms.{GroundAtom, User, Domain, Member, Total, Grid, Reach, Above}
use Rattle.core_meaning.specs.Numberings.{Numbering, NumbersAll, adds}
use Rattle.core_meaning.specs.Steps.{Step, step_instance, skip_at, add_at, skip_with, add_with, above_with}
use Rattle.core_meaning.specs.Steps as step
use Rattle.aggregate_laws.specs.Rules.{MakerOf, ByRule, ByStep, instance_of, IsHeadAtom, IsBodyAtom, AreRules, NumbersOnce, IsAnswerSetOf}
use Rattle.aggregate_laws.proofs.Derivable.{Derivable, Licence, by, derivable, derivable_true, founded_by, closed_at}
use Rattle.aggregate_laws.proofs.Sums.{SumsTo, none, skip, add}
use Rattle.aggregate_laws.proofs.Picking.{path_map, path_index, path_moves, decide_sum}
use Rattle.aggregate_laws.proofs.Totals.{inst, StepIs, is_zero, is_skip, is_add, is_reach, is_above, is_total, StepBy, by_rule, by_zero, by_skip, by_add, by_reach, by_above, by_total, step_is, step_by, step_not_base, reach_of, above_less}
use Rattle.aggregate_laws.proofs.Sameness.{decide_list, decide_value, decide_ground_atom}
use Rattle.search_values.proofs.Basics.{and_left, and_right, and_intro}
use Rattle.aggregate_laws.proofs.Rows.{rows, in_rows}

-- whether a decision is yes
pub is_yes : {X Y : Type 0} → X ⊎ Y → Bool
is_yes (inl x) = true
is_yes (inr y) = false

pub yes_then : {X : Type 0} (d : X ⊎ (X → ⊥)) → is_yes d ≡ true → X
unfolding is_yes
yes_then (inl x) e = x
yes_then (inr n) e = cc

pub then_yes : {X : Type 0} (d : X ⊎ (X → ⊥)) → X → is_yes d ≡ true
unfolding is_yes
then_yes (inl x) h = refl
then_yes (inr n) h = absurd (n h)

-- the set with the grid atoms of another numbering
pub moved : List CoreAggregate → Numbering → (GroundAtom → Bool) → GroundAtom → Bool
moved aggs M c (Grid agg side key k sum) = c (Domain agg key) && is_yes (decide_sum (λ t. c (Member agg key t)) (adds aggs agg side) (M agg side key) k sum)
moved aggs M c (User u) = c (User u)
moved aggs M c (Domain agg key) = c (Domain agg key)
moved aggs M c (Member agg key t) = c (Member agg key t)
moved aggs M c (Total agg key v) = c (Total agg key v)
moved aggs M c (Reach agg side key sum) = c (Reach agg side key sum)
moved aggs M c (Above agg side key sum) = c (Above agg side key sum)

-- no number stands in the atom
abbrev pub NoGrid : GroundAtom → Type 0
NoGrid (Grid agg side key k sum) = ⊥
NoGrid _ = Unit {0}

flat_no_grid : (a : GroundAtom) → IsBodyAtom a → NoGrid a
flat_no_grid (User u) h = tt
flat_no_grid (Domain agg key) h = tt
flat_no_grid (Member agg key t) h = tt
flat_no_grid (Total agg key v) h = tt
flat_no_grid (Grid agg side key k sum) h = h
flat_no_grid (Reach agg side key sum) h = tt
flat_no_grid (Above agg side key sum) h = tt

base_no_grid : (a : GroundAtom) → IsHeadAtom a → NoGrid a
base_no_grid (User u) h = tt
base_no_grid (Domain agg key) h = tt
base_no_grid (Member agg key t) h = tt
base_no_grid (Total agg key v) h = tt
base_no_grid (Grid agg side key k sum) h = h
base_no_grid (Reach agg side key sum) h = tt
base_no_grid (Above agg side key sum) h = tt

pub moved_same : (aggs : List CoreAggregate) (M : Numbering) (c : GroundAtom → Bool) (a : GroundAtom) → NoGrid a → moved aggs M c a ≡ c a
unfolding moved
moved_same aggs M c (User u) h = refl
moved_same aggs M c (Domain agg key) h = refl
moved_same aggs M c (Member agg key t) h = refl
moved_same aggs M c (Total agg key v) h = refl
moved_same aggs M c (Grid agg side key k sum) h = absurd h
moved_same aggs M c (Reach agg side key sum) h = refl
moved_same aggs M c (Above agg side key sum) h = refl

module _ {R : Type 0} (aggs : List CoreAggregate) (rules : R → Option (Instance GroundAtom)) (are : AreRules rules)
    (old new : Numbering) (c : GroundAtom → Bool) (set : IsAnswerSetOf aggs rules old c)
    (ok : NumbersOnce aggs new) (numbers : NumbersAll aggs new c) where
  -- the set with the sums of the new numbering
  abbrev pub d : GroundAtom → Bool
  d = moved aggs new c

  pub grid_parts : (agg : ℕ) (side : Bool) (key : List Value) (k sum : ℕ) → d (Grid agg side key k sum) ≡ true
      → (c (Domain agg key) ≡ true) × SumsTo (λ t. c (Member agg key t) ≡ true) (adds aggs agg side) (new agg side key) k sum
  unfolding moved
  grid_parts agg side key k sum h =
      (and_left _ _ h, yes_then (decide_sum (λ t. c (Member agg key t)) (adds aggs agg side) (new agg side key) k sum) (and_right _ _ h))

  pub grid_true : (agg : ℕ) (side : Bool) (key : List Value) (k sum : ℕ) → c (Domain agg key) ≡ true → SumsTo (λ t. c (Member agg key t) ≡ true) (adds aggs agg side) (new agg side key) k sum
      → d (Grid agg side key k sum) ≡ true
  unfolding moved
  grid_true agg side key k sum h p = and_intro _ _ h (then_yes (decide_sum (λ t. c (Member agg key t)) (adds aggs agg side) (new agg side key) k sum) p)

  same : (a : GroundAtom) → NoGrid a → d a ≡ c a
  same = moved_same aggs new c

  -- the atom is derivable under the new numbering
  Der : GroundAtom → Type 0
  Der a = Derivable (instance_of aggs rules new) d a

  derives : (s : Step) (h : GroundAtom) (ps ns : List GroundAtom) → step_instance aggs new s ≡ Some (inst h ps ns)
      → ((p : GroundAtom) → (p ∈ ps) → Der p) → ((n : GroundAtom) → (n ∈ ns) → d n ≡ false) → d h ≡ true → Der h
  unfolding Der
  derives s h ps ns e p n t =
      by (record { maker = ByStep s; inst = inst h ps ns; is = e; head = refl; body = record { pos = λ q i. derivable_true (p q i); neg = n } }) t p

  der_true : (a : GroundAtom) → Der a → d a ≡ true
  unfolding Der
  der_true a h = derivable_true h

  -- a grid atom whose path's members are derivable
  grid_der : (agg : ℕ) (side : Bool) (key : List Value) → Der (Domain agg key) → (k sum : ℕ) → SumsTo (λ t. Der (Member agg key t)) (adds aggs agg side) (new agg side key) k sum → Der (Grid agg side key k sum)
  grid_der agg side key x k sum none =
      derives (step.Zero agg side key) (Grid agg side key 0 0) (Domain agg key ∷ []) [] refl (∈-one (λ a. Der a) (Domain agg key) x) (λ n i. absurd i)
      (grid_true agg side key 0 0 (sym (same (Domain agg key) tt) ∙ der_true _ x) none)
  grid_der agg side key x k sum (skip {k = j} {sum = s} t e p) =
      let below = grid_der agg side key x j s p in
      let parts = grid_parts agg side key j s (der_true _ below) in
      derives (step.Skip agg side (suc j) s key) (Grid agg side key (suc j) s) (Grid agg side key j s ∷ []) [] (ap (skip_with agg side j s key) e)
      (∈-one (λ a. Der a) (Grid agg side key j s) below) (λ n i. absurd i)
      (grid_true agg side key (suc j) s parts.0 (skip t e parts.1))
  grid_der agg side key x k sum (add {k = j} {sum = s} t e h p) =
      let below = grid_der agg side key x j s p in
      let parts = grid_parts agg side key j s (der_true _ below) in
      derives (step.Add agg side (suc j) s key) (Grid agg side key (suc j) (s + adds aggs agg side t)) (Grid agg side key j s ∷ Member agg key t ∷ []) [] (ap (add_with aggs agg side j s key) e)
      (∈-two (λ a. Der a) (Grid agg side key j s) (Member agg key t) below h) (λ n i. absurd i)
      (grid_true agg side key (suc j) (s + adds aggs agg side t) parts.0 (add t e (sym (same (Member agg key t) tt) ∙ der_true _ h) parts.1))

  -- what becomes of a derivation under the old numbering
  Moves : GroundAtom → Type 0
  Moves (Grid agg side key k sum) = Der (Domain agg key) × SumsTo (λ t. Der (Member agg key t)) (adds aggs agg side) (old agg side key) k sum
  Moves a = Der a

  moves_der : (a : GroundAtom) → NoGrid a → Moves a → Der a
  unfolding Moves
  moves_der (User u) h m = m
  moves_der (Domain agg key) h m = m
  moves_der (Member agg key t) h m = m
  moves_der (Total agg key v) h m = m
  moves_der (Grid agg side key k sum) h m = absurd h
  moves_der (Reach agg side key sum) h m = m
  moves_der (Above agg side key sum) h m = m

  der_moves : (a : GroundAtom) → NoGrid a → Der a → Moves a
  unfolding Moves
  der_moves (User u) h m = m
  der_moves (Domain agg key) h m = m
  der_moves (Member agg key t) h m = m
  der_moves (Total agg key v) h m = m
  der_moves (Grid agg side key k sum) h m = absurd h
  der_moves (Reach agg side key sum) h m = m
  der_moves (Above agg side key sum) h m = m

  reach_der : (agg : ℕ) (side : Bool) (key : List Value) (k sum : ℕ) → Moves (Grid agg side key k sum) → c (Reach agg side key sum) ≡ true → Der (Reach agg side key sum)
  unfolding Moves
  reach_der agg side key k sum m t =
      let p = path_moves (decide_list decide_value) (λ t. Der (Member agg key t)) (adds aggs agg side) (old agg side key) (new agg side key) (set.numbering.once agg side key)
      (λ z i h. numbers agg side key z (sym (same (Member agg key z) tt) ∙ der_true _ h) (set.numbering.weighs agg side key z i)) k sum m.1 in
      derives (step.Reach agg side (length (new agg side key)) sum key) (Reach agg side key sum) (Grid agg side key (length (new agg side key)) sum ∷ []) [] refl
      (∈-one (λ a. Der a) (Grid agg side key (length (new agg side key)) sum) (grid_der agg side key m.0 (length (new agg side key)) sum p)) (λ n i. absurd i) (same (Reach agg side key sum) tt ∙ t)

  step_moves : (a : GroundAtom) → NoGrid a ⊎ Unit {0} → c a ≡ true → StepBy aggs old Moves (λ n. c n ≡ false) a → (IsHeadAtom a → Moves a) → Moves a
  unfolding Moves
  step_moves a u t (by_rule b) f = f b
  step_moves a u t (by_zero x) f = (x, none)
  step_moves a u t (by_skip s e x) f = (x.0, skip s e x.1)
  step_moves a u t (by_add s e x y) f = (x.0, add s e y x.1)
  step_moves a u t (by_reach {agg = agg} {side = side} {key = key} k {sum = sum} x) f = reach_der agg side key k sum x t
  step_moves a u t (by_above {agg = agg} {side = side} {key = key} {low = low} high below x y) f =
      let b : nat_le (suc low) high ≡ true = grind arith in
      derives (step.Above agg side low high key) (Above agg side key low) (Reach agg side key low ∷ Reach agg side key high ∷ []) [] (ap (above_with agg side low high key) b)
      (∈-two (λ a. Der a) (Reach agg side key low) (Reach agg side key high) x y) (λ n i. absurd i) (same (Above agg side key low) tt ∙ t)
  step_moves a u t (by_total {agg = agg} {key = key} up down x y m n) f =
      derives (step.Total agg up down key) (Total agg key (value.Int (pos up -ℤ pos down))) (Reach agg true key up ∷ Reach agg false key down ∷ []) (Above agg true key up ∷ Above agg false key down ∷ []) refl
      (∈-two (λ a. Der a) (Reach agg true key up) (Reach agg false key down) x y)
      (∈-two (λ a. d a ≡ false) (Above agg true key up) (Above agg false key down) (same (Above agg true key up) tt ∙ m) (same (Above agg false key down) tt ∙ n))
      (same (Total agg key (value.Int (pos up -ℤ pos down))) tt ∙ t)

  rule_moves : (a : GroundAtom) (r : R) (l : Licence (instance_of aggs rules old) c a) → rules r ≡ Some l.inst → c a ≡ true → ((p : GroundAtom) → (p ∈ l.inst.pos) → Moves p) → Moves a
  unfolding Der
  rule_moves a r l e t below =
      let base = are.heads r l.inst e a l.head in
      let flat : (p : GroundAtom) → (p ∈ l.inst.pos) → Der p = λ p i. moves_der p (flat_no_grid p (are.pos r l.inst e p i)) (below p i) in
      der_moves a (base_no_grid a base) (build base flat)
    where
      build : IsHeadAtom a → ((p : GroundAtom) → (p ∈ l.inst.pos) → Der p) → Der a
      build base flat = by (record {
        maker = ByRule r;
        inst = l.inst;
        is = e;
        head = l.head;
        body = record { pos = λ p i. derivable_true (flat p i); neg = λ n i. same n (flat_no_grid n (are.neg r l.inst e n i)) ∙ l.body.neg n i };
      }) (same a (base_no_grid a base) ∙ t) flat

  moves : (a : GroundAtom) → Derivable (instance_of aggs rules old) c a → Moves a
  moves a (by l t der) = go l.maker l.is (λ p i. moves p (der p i))
    where
      go : (m : MakerOf R) → instance_of aggs rules old m ≡ Some l.inst → ((p : GroundAtom) → (p ∈ l.inst.pos) → Moves p) → Moves a
      go (ByRule r) e below = rule_moves a r l e t below
      go (ByStep s) e below =
          step_moves a (inr tt) t (step_by aggs old Moves (λ n. c n ≡ false) l.inst (step_is aggs old s l.inst e) a l.head below l.body.neg) (λ b. absurd (step_not_base aggs old l.inst (step_is aggs old s l.inst e) a l.head b))

  all_derivable : (a : GroundAtom) → d a ≡ true → Der a
  all_derivable (Grid agg side key k sum) t =
      let p = grid_parts agg side key k sum t in
      grid_der agg side key (moves_der (Domain agg key) tt (moves (Domain agg key) (derivable set.answers (Domain agg key) p.0))) k sum
      (path_map (λ z h. moves_der (Member agg key z) tt (moves (Member agg key z) (derivable set.answers (Member agg key z) h))) k sum p.1)
  all_derivable (User u) t = moves_der (User u) tt (moves (User u) (derivable set.answers (User u) (sym (same (User u) tt) ∙ t)))
  all_derivable (Domain agg key) t = moves_der (Domain agg key) tt (moves (Domain agg key) (derivable set.answers (Domain agg key) (sym (same (Domain agg key) tt) ∙ t)))
  all_derivable (Member agg key z) t = moves_der (Member agg key z) tt (moves (Member agg key z) (derivable set.answers (Member agg key z) (sym (same (Member agg key z) tt) ∙ t)))
  all_derivable (Total agg key v) t = moves_der (Total agg key v) tt (moves (Total agg key v) (derivable set.answers (Total agg key v) (sym (same (Total agg key v) tt) ∙ t)))
  all_derivable (Reach agg side key s) t = moves_der (Reach agg side key s) tt (moves (Reach agg side key s) (derivable set.answers (Reach agg side key s) (sym (same (Reach agg side key s) tt) ∙ t)))
  all_derivable (Above agg side key s) t = moves_der (Above agg side key s) tt (moves (Above agg side key s) (derivable set.answers (Above agg side key s) (sym (same (Above agg side key s) tt) ∙ t)))

  -- closedness

  reach_old : (agg : ℕ) (side : Bool) (key : List Value) (k sum : ℕ) → d (Grid agg side key k sum) ≡ true → c (Reach agg side key sum) ≡ true
  reach_old agg side key k sum t =
      let p = grid_parts agg side key k sum t in
      let q = path_moves (decide_list decide_value) (λ t. c (Member agg key t) ≡ true) (adds aggs agg side) (new agg side key) (old agg side key) (ok.once agg side key)
      (λ z i h. set.numbers agg side key z h (ok.weighs agg side key z i)) k sum p.1 in
      reach_of aggs rules are old c set.answers agg side key p.0 (length (old agg side key)) sum q

  step_closed : (i : Instance GroundAtom) → StepIs aggs new i → BodyParts d i → KindHolds d i.kind
  step_closed i (is_zero agg side key) b = grid_true agg side key 0 0 (sym (same (Domain agg key) tt) ∙ b.pos _ (inl refl)) none
  step_closed i (is_skip agg side key k sum t e) b = let p = grid_parts agg side key k sum (b.pos _ (inl refl)) in grid_true agg side key (suc k) sum p.0 (skip t e p.1)
  step_closed i (is_add agg side key k sum t e) b =
      let p = grid_parts agg side key k sum (b.pos _ (inl refl)) in
      grid_true agg side key (suc k) (sum + adds aggs agg side t) p.0 (add t e (sym (same (Member agg key t) tt) ∙ b.pos _ (inr (inl refl))) p.1)
  step_closed i (is_reach agg side key k sum) b = same (Reach agg side key sum) tt ∙ reach_old agg side key k sum (b.pos _ (inl refl))
  step_closed i (is_above agg side key low high below) b =
      same (Above agg side key low) tt ∙ above_less aggs rules are old c set.answers agg side key low high below
      (sym (same (Reach agg side key low) tt) ∙ b.pos _ (inl refl)) (sym (same (Reach agg side key high) tt) ∙ b.pos _ (inr (inl refl)))
  step_closed i (is_total agg key up down) b =
      same (Total agg key (value.Int (pos up -ℤ pos down))) tt ∙ closed_at set.answers (ByStep (step.Total agg up down key)) _ refl (record {
        pos = ∈-two (λ x. c x ≡ true) (Reach agg true key up) (Reach agg false key down) (sym (same (Reach agg true key up) tt) ∙ b.pos _ (inl refl)) (sym (same (Reach agg false key down) tt) ∙ b.pos _ (inr (inl refl)));
        neg = ∈-two (λ x. c x ≡ false) (Above agg true key up) (Above agg false key down) (sym (same (Above agg true key up) tt) ∙ b.neg _ (inl refl)) (sym (same (Above agg false key down) tt) ∙ b.neg _ (inr (inl refl)));
      })

  kind_moves : (k : Kind GroundAtom) → ((a : GroundAtom) → IsHead k a → NoGrid a) → KindHolds c k → KindHolds d k
  kind_moves (Plain h) n t = same h (n h refl) ∙ t
  kind_moves (Choice h) n t = tt
  kind_moves Constraint n t = t

  rule_closed : (r : R) (i : Instance GroundAtom) → rules r ≡ Some i → BodyParts d i → KindHolds d i.kind
  rule_closed r i e b = kind_moves i.kind (λ a h. base_no_grid a (are.heads r i e a h)) (closed_at set.answers (ByRule r) i e (record {
    pos = λ p j. sym (same p (flat_no_grid p (are.pos r i e p j))) ∙ b.pos p j;
    neg = λ n j. sym (same n (flat_no_grid n (are.neg r i e n j))) ∙ b.neg n j;
  }))

  all_closed : (m : MakerOf R) (i : Instance GroundAtom) → instance_of aggs rules new m ≡ Some i → body_holds d i ≡ true → KindHolds d i.kind
  all_closed (ByRule r) i e b = rule_closed r i e (body_parts d i b)
  all_closed (ByStep s) i e b = step_closed i (step_is aggs new s i e) (body_parts d i b)

  -- a list that has all atoms

  -- the atoms on the sums of the new numbering that come with a reached sum
  extra : GroundAtom → List GroundAtom
  extra (Reach agg side key sum) = rows agg side key sum (length (new agg side key))
  extra _ = []

  -- a list of all atoms of the new set
  cover : List GroundAtom → List GroundAtom
  cover [] = []
  cover (a ∷ others) = a ∷ (extra a ++ cover others)

  in_cover : (a : GroundAtom) (others : List GroundAtom) → (a ∈ others) → (a ∈ (cover others))
  unfolding cover
  in_cover a [] i = i
  in_cover a (b ∷ others) (inl e) = inl e
  in_cover a (b ∷ others) (inr i) = inr (∈-append_right a (extra b) (cover others) (in_cover a others i))

  in_extra : (a b : GroundAtom) (others : List GroundAtom) → (b ∈ others) → (a ∈ (extra b)) → (a ∈ (cover others))
  unfolding cover
  in_extra a b [] i j = absurd i
  in_extra a b (x ∷ others) (inl e) j = inr (∈-append_left a (extra x) (cover others) (subst (λ y. (a ∈ (extra y))) e j))
  in_extra a b (x ∷ others) (inr i) j = inr (∈-append_right a (extra x) (cover others) (in_extra a b others i j))

  covers : (a : GroundAtom) → d a ≡ true → (a ∈ (cover set.answers.order))
  unfolding extra
  covers (Grid agg side key k sum) t =
      in_extra (Grid agg side key k sum) (Reach agg side key sum) set.answers.order (set.answers.all_there (Reach agg side key sum) (reach_old agg side key k sum t))
      (in_rows agg side key sum (length (new agg side key)) k (path_index (new agg side key) k sum (grid_parts agg side key k sum t).1))
  covers (User u) t = in_cover _ _ (set.answers.all_there _ (sym (same (User u) tt) ∙ t))
  covers (Domain agg key) t = in_cover _ _ (set.answers.all_there _ (sym (same (Domain agg key) tt) ∙ t))
  covers (Member agg key z) t = in_cover _ _ (set.answers.all_there _ (sym (same (Member agg key z) tt) ∙ t))
  covers (Total agg key v) t = in_cover _ _ (set.answers.all_there _ (sym (same (Total agg key v) tt) ∙ t))
  covers (Reach agg side key s) t = in_cover _ _ (set.answers.all_there _ (sym (same (Reach agg side key s) tt) ∙ t))
  covers (Above agg side key s) t = in_cover _ _ (set.answers.all_there _ (sym (same (Above agg side key s) tt) ∙ t))

  -- the set is one under the new numbering
  pub renumbered : IsAnswerSetOf aggs rules new (moved aggs new c)
  unfolding Der
  renumbered =
      let f = founded_by (instance_of aggs rules new) d decide_ground_atom (cover set.answers.order) covers all_derivable in
      record {
        answers = record { closed = all_closed; order = f.0; all_there = f.1; founded = f.2 };
        numbering = ok;
        numbers = λ agg side key t h l. numbers agg side key t (sym (same (Member agg key t) tt) ∙ h) l;
      }
