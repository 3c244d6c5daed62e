-- An answer set with totals is the user part of a core answer set.
use Rattle.std.proofs.Common.{◌≡◌, ℕ, suc, zero, ◌+◌, ◌≤◌, ◌<◌, ◌⊎◌, Bool, true, false, ◌&&◌, cond, List, [], ◌∷◌, ◌++◌, length, refl, sym, ◌∙◌, ap, subst, inl, inr, arith}
use Rattle.std.specs.Prelude.{Some, nat_le, pos, ◌-ℤ◌}
use Rattle.std.proofs.lemmas.Option.{same_Some}
use Rattle.lists.specs.Lists.{◌∈◌, HasNoRepeats}
use Rattle.lists.proofs.ListLemmas.{∈-append_left, ∈-append_right, ∈-append_cases, ∈-one, ∈-two}
use Rattle.core_rules.specs.declared.rules.CoreAggregate.{CoreAggregate}
use Rattle.search_values.specs.Instances.{Kind, Plain, Choice, Constraint, Instance, IsHead, KindHolds, body_holds}
use Rattle.search_values.proofs.Basics.{bool_cases, BodyParts, body_parts}
use Rattle.asp_meaning.specs.declared.value.Value.{Value}
use Rattle.asp_meaning.specs.declared.value.Value.TheVariants as value
use Rattle.core_meaning.specs.Atoms.{GroundAtom, User, Domain, Member, Total, Grid, Reach, Above}
use Rattle.core_meaning.specs.Numberings.{Numbering, NumbersAll, adds}
use Rattle.core_meaning.specs.Steps.{Step, step_instance, skip_at, add_at, skip_with, add_with, above_with}
use Rattle.core_meaning.specs.Steps as step
use Rattle.aggregate_laws.specs.Rules.{MakerOf, ByRule, ByStep, instance_of, NumbersOnce, IsAnswerSetOf}
use Rattle.asp_meaning.specs.Atoms.{Atom}
use Rattle.core_meaning.specs.Steps.{plain}
use Rattle.search_values.proofs.Basics.{and_left, and_right, and_intro}
use Rattle.aggregate_laws.specs.TotalsInBodies.{NeededTotal, DomainInstance, ElementInstance, GroundProgram, Meets, sum_sizes, total_of_tuples, HasTotal, RuleWithTotals, rule_with_totals, IsAnswerSetWithTotals, CoreMaker, FromRule, FromDomain, FromElement, user_atoms, total_atoms, user_kind, core_rule, core_domain, core_element, core_rules, AllCome, HasDomains, InDomain, enters, IsListed, NotRecursive}
use Rattle.aggregate_laws.proofs.Derivable.{Derivable, by, derivable, derivable_true, founded_by, closed_at}
use Rattle.aggregate_laws.proofs.Sums.{SumsTo, none, skip, add, full_sum, sum_most}
use Rattle.aggregate_laws.proofs.Picking.{path_index, path_moves, decide_sum}
use Rattle.aggregate_laws.proofs.Totals.{inst, StepIs, is_zero, is_skip, is_add, is_reach, is_above, is_total, step_is}
use Rattle.aggregate_laws.proofs.Sameness.{decide_list, decide_nat, decide_pair, decide_value, decide_ground_atom}
use Rattle.aggregate_laws.proofs.CoreOfTotals.{in_users, users_in, in_totals, totals_in, RuleIs, of_rule, of_domain, of_element, rule_is}
use Rattle.aggregate_laws.proofs.TotalsOfTuples.{sums_same, equal_ints, always_sum}
use Rattle.aggregate_laws.proofs.Kept.{kept, kept_in, in_kept, kept_set}
use Rattle.aggregate_laws.proofs.Renumbering.{is_yes, yes_then, then_yes}
use Rattle.aggregate_laws.proofs.Sameness.{decide_member}
use Rattle.aggregate_laws.proofs.Picking.{path_in}
use Rattle.aggregate_laws.proofs.Rows.{rows, in_rows}

-- whether it weighs anything
weighs : {T : Type 0} → (T → ℕ) → T → Bool
weighs size t = nat_le 1 (size t)

kept_sum : {T : Type 0} (size : T → ℕ) (ts : List T) → sum_sizes size (kept (weighs size) ts) ≡ sum_sizes size ts
unfolding weighs
kept_sum size [] = refl
kept_sum {T} size (t ∷ ts) = go (nat_le 1 (size t)) refl (kept_sum size ts)
  where
    go : (b : Bool) → nat_le 1 (size t) ≡ b → sum_sizes size (kept (weighs size) ts) ≡ sum_sizes size ts → sum_sizes size (cond b (t ∷ kept (weighs size) ts) (kept (weighs size) ts)) ≡ size t + sum_sizes size ts
    go true h e = omega (arith, e)
    go false h e = let z : size t ≡ 0 = grind arith in omega (arith, e, z)

-- each counts
always : {T : Type 0} → T → Bool
always t = true

module _ {R D E : Type 0} (aggs : List CoreAggregate) (P : GroundProgram R D E) (has : HasDomains P)
    (stratum : Atom → ℕ) (strata : NotRecursive P stratum) (I : Atom → Bool) (set : IsAnswerSetWithTotals aggs P I) (listed : IsListed aggs P I) where
  is_key : (agg : ℕ) (key : List Value) → ((agg, key) ∈ listed.keys) ⊎ (((agg, key) ∈ listed.keys) → ⊥)
  is_key agg key = decide_member (decide_pair decide_nat (decide_list decide_value)) (agg, key) listed.keys

  -- the members that weigh, in the order of the extent
  pub by_extents : Numbering
  by_extents agg side key = kept (weighs (adds aggs agg side)) (listed.extents agg key)

  -- whether the sum is one of the first k, of members that all count
  sum_case : (agg : ℕ) (side : Bool) (key : List Value) (k sum : ℕ) → SumsTo (λ t. always t ≡ true) (adds aggs agg side) (by_extents agg side key) k sum ⊎ (SumsTo (λ t. always t ≡ true) (adds aggs agg side) (by_extents agg side key) k sum → ⊥)
  sum_case agg side key k sum = decide_sum always (adds aggs agg side) (by_extents agg side key) k sum

  -- the sum of all
  most : ℕ → Bool → List Value → ℕ
  most agg side key = sum_sizes (adds aggs agg side) (by_extents agg side key)

  -- the total of the extent
  total_value : ℕ → List Value → Value
  total_value agg key = total_of_tuples aggs agg (listed.extents agg key)

  -- the set: what the keys, the extents and their sums say
  pub core_set : GroundAtom → Bool
  core_set (User u) = I u
  core_set (Domain agg key) = is_yes (is_key agg key)
  core_set (Member agg key t) = is_yes (is_key agg key) && is_yes (decide_member (decide_list decide_value) t (listed.extents agg key))
  core_set (Total agg key v) = is_yes (is_key agg key) && is_yes (decide_value v (total_value agg key))
  core_set (Grid agg side key k sum) = is_yes (is_key agg key) && is_yes (sum_case agg side key k sum)
  core_set (Reach agg side key sum) = is_yes (is_key agg key) && is_yes (sum_case agg side key (length (by_extents agg side key)) sum)
  core_set (Above agg side key sum) = (is_yes (is_key agg key) && is_yes (sum_case agg side key (length (by_extents agg side key)) sum)) && nat_le (suc sum) (most agg side key)

  -- what the atoms say

  -- the sum is one of the first k
  Full : ℕ → Bool → List Value → ℕ → ℕ → Type 0
  Full agg side key k sum = SumsTo (λ t. always t ≡ true) (adds aggs agg side) (by_extents agg side key) k sum

  key_of : (agg : ℕ) (key : List Value) → core_set (Domain agg key) ≡ true → ((agg, key) ∈ listed.keys)
  unfolding core_set
  key_of agg key h = yes_then (is_key agg key) h

  of_key : (agg : ℕ) (key : List Value) → ((agg, key) ∈ listed.keys) → core_set (Domain agg key) ≡ true
  unfolding core_set
  of_key agg key h = then_yes (is_key agg key) h

  member_of : (agg : ℕ) (key t : List Value) → core_set (Member agg key t) ≡ true → ((agg, key) ∈ listed.keys) × (t ∈ (listed.extents agg key))
  unfolding core_set
  member_of agg key t h = (yes_then (is_key agg key) (and_left _ _ h), yes_then (decide_member (decide_list decide_value) t (listed.extents agg key)) (and_right _ _ h))

  of_member : (agg : ℕ) (key t : List Value) → ((agg, key) ∈ listed.keys) → (t ∈ (listed.extents agg key)) → core_set (Member agg key t) ≡ true
  unfolding core_set
  of_member agg key t k i = and_intro _ _ (then_yes (is_key agg key) k) (then_yes (decide_member (decide_list decide_value) t (listed.extents agg key)) i)

  value_of : (agg : ℕ) (key : List Value) (v : Value) → core_set (Total agg key v) ≡ true → ((agg, key) ∈ listed.keys) × (v ≡ total_value agg key)
  unfolding core_set
  value_of agg key v h = (yes_then (is_key agg key) (and_left _ _ h), yes_then (decide_value v (total_value agg key)) (and_right _ _ h))

  of_value : (agg : ℕ) (key : List Value) (v : Value) → ((agg, key) ∈ listed.keys) → v ≡ total_value agg key → core_set (Total agg key v) ≡ true
  unfolding core_set
  of_value agg key v k i = and_intro _ _ (then_yes (is_key agg key) k) (then_yes (decide_value v (total_value agg key)) i)

  grid_parts : (agg : ℕ) (side : Bool) (key : List Value) (k sum : ℕ) → core_set (Grid agg side key k sum) ≡ true → ((agg, key) ∈ listed.keys) × Full agg side key k sum
  unfolding core_set Full
  grid_parts agg side key k sum h = (yes_then (is_key agg key) (and_left _ _ h), yes_then (sum_case agg side key k sum) (and_right _ _ h))

  grid_true : (agg : ℕ) (side : Bool) (key : List Value) (k sum : ℕ) → ((agg, key) ∈ listed.keys) → Full agg side key k sum → core_set (Grid agg side key k sum) ≡ true
  unfolding core_set Full
  grid_true agg side key k sum h p = and_intro _ _ (then_yes (is_key agg key) h) (then_yes (sum_case agg side key k sum) p)

  reach_parts : (agg : ℕ) (side : Bool) (key : List Value) (sum : ℕ) → core_set (Reach agg side key sum) ≡ true → ((agg, key) ∈ listed.keys) × Full agg side key (length (by_extents agg side key)) sum
  unfolding core_set Full
  reach_parts agg side key sum h = (yes_then (is_key agg key) (and_left _ _ h), yes_then (sum_case agg side key (length (by_extents agg side key)) sum) (and_right _ _ h))

  reach_true : (agg : ℕ) (side : Bool) (key : List Value) (sum : ℕ) → ((agg, key) ∈ listed.keys) → Full agg side key (length (by_extents agg side key)) sum → core_set (Reach agg side key sum) ≡ true
  unfolding core_set Full
  reach_true agg side key sum h p = and_intro _ _ (then_yes (is_key agg key) h) (then_yes (sum_case agg side key (length (by_extents agg side key)) sum) p)

  above_parts : (agg : ℕ) (side : Bool) (key : List Value) (sum : ℕ) → core_set (Above agg side key sum) ≡ true → (core_set (Reach agg side key sum) ≡ true) × (sum < most agg side key)
  unfolding core_set
  above_parts agg side key sum h = (and_left _ _ h, lt sum (most agg side key) (and_right _ _ h))
    where
      lt : (a b : ℕ) → nat_le (suc a) b ≡ true → a < b
      lt a b e = grind arith

  above_true : (agg : ℕ) (side : Bool) (key : List Value) (sum : ℕ) → core_set (Reach agg side key sum) ≡ true → sum < most agg side key → core_set (Above agg side key sum) ≡ true
  unfolding core_set
  above_true agg side key sum h l = and_intro _ _ h (lt sum (most agg side key) l)
    where
      lt : (a b : ℕ) → a < b → nat_le (suc a) b ≡ true
      lt a b e = grind arith

  list_once : (agg : ℕ) (side : Bool) (key : List Value) → HasNoRepeats (by_extents agg side key)
  unfolding by_extents
  list_once agg side key = kept_set (weighs (adds aggs agg side)) (listed.extents agg key) (listed.are agg key).once

  full_end : (agg : ℕ) (side : Bool) (key : List Value) (k sum : ℕ) → Full agg side key k sum → Full agg side key (length (by_extents agg side key)) sum
  unfolding Full
  full_end agg side key k sum p = path_moves (decide_list decide_value) (λ t. always t ≡ true) (adds aggs agg side) (by_extents agg side key) (by_extents agg side key) (list_once agg side key) (λ z i h. i) k sum p

  full_most : (agg : ℕ) (side : Bool) (key : List Value) (k sum : ℕ) → Full agg side key k sum → sum ≤ most agg side key
  unfolding Full most always
  full_most agg side key k sum p = omega (arith, sum_most always (adds aggs agg side) (by_extents agg side key) k sum p, always_sum (adds aggs agg side) (by_extents agg side key))

  full_all : (agg : ℕ) (side : Bool) (key : List Value) → Full agg side key (length (by_extents agg side key)) (most agg side key)
  unfolding Full most always
  full_all agg side key = subst (λ n. SumsTo (λ t. always t ≡ true) (adds aggs agg side) (by_extents agg side key) (length (by_extents agg side key)) n) (always_sum (adds aggs agg side) (by_extents agg side key)) (full_sum always (adds aggs agg side) (by_extents agg side key))

  most_is : (agg : ℕ) (side : Bool) (key : List Value) → most agg side key ≡ sum_sizes (adds aggs agg side) (listed.extents agg key)
  unfolding most by_extents
  most_is agg side key = kept_sum (adds aggs agg side) (listed.extents agg key)

  total_is : (agg : ℕ) (key : List Value) → value.Int (pos (most agg true key) -ℤ pos (most agg false key)) ≡ total_value agg key
  unfolding total_value
  total_is agg key = equal_ints _ _ _ _ (most_is agg true key) (most_is agg false key)

  -- the reached sum with nothing above
  highest : (agg : ℕ) (side : Bool) (key : List Value) (sum : ℕ) → core_set (Reach agg side key sum) ≡ true → core_set (Above agg side key sum) ≡ false → sum ≡ most agg side key
  highest agg side key sum r a = elim (cases sum (most agg side key) (full_most agg side key _ sum (reach_parts agg side key sum r).1)) [
    | inl e ↦ e
    | inr l ↦ (let t = above_true agg side key sum r l in let x : true ≡ false = sym t ∙ a in cc)
  ]
    where
      cases : (a b : ℕ) → a ≤ b → (a ≡ b) ⊎ (a < b)
      cases a b h = grind arith

  not_above : (agg : ℕ) (side : Bool) (key : List Value) → core_set (Above agg side key (most agg side key)) ≡ false
  not_above agg side key = elim (bool_cases (core_set (Above agg side key (most agg side key)))) [
    | inr f ↦ f
    | inl t ↦ absurd (let p = above_parts agg side key (most agg side key) t in omega (arith, p.1))
  ]

  -- closedness

  step_closed : (i : Instance GroundAtom) → StepIs aggs by_extents i → BodyParts core_set i → KindHolds core_set i.kind
  unfolding Full always
  step_closed i (is_zero agg side key) b = grid_true agg side key 0 0 (key_of agg key (b.pos _ (inl refl))) none
  step_closed i (is_skip agg side key k sum t e) b = let p = grid_parts agg side key k sum (b.pos _ (inl refl)) in grid_true agg side key (suc k) sum p.0 (skip t e p.1)
  step_closed i (is_add agg side key k sum t e) b = let p = grid_parts agg side key k sum (b.pos _ (inl refl)) in grid_true agg side key (suc k) (sum + adds aggs agg side t) p.0 (add t e refl p.1)
  step_closed i (is_reach agg side key k sum) b = let p = grid_parts agg side key k sum (b.pos _ (inl refl)) in reach_true agg side key sum p.0 (full_end agg side key k sum p.1)
  step_closed i (is_above agg side key low high below) b =
      let h = reach_parts agg side key high (b.pos _ (inr (inl refl))) in
      let l = full_most agg side key _ high h.1 in
      above_true agg side key low (b.pos _ (inl refl)) (omega (arith, l, below))
  step_closed i (is_total agg key up down) b =
      let r = reach_parts agg true key up (b.pos _ (inl refl)) in
      of_value agg key _ r.0 (equal_ints up (most agg true key) down (most agg false key) (highest agg true key up (b.pos _ (inl refl)) (b.neg _ (inl refl))) (highest agg false key down (b.pos _ (inr (inl refl))) (b.neg _ (inr (inl refl)))) ∙ total_is agg key)

  pub user_same : (u : Atom) → core_set (User u) ≡ I u
  unfolding core_set
  user_same u = refl

  has_total : (n : NeededTotal) → core_set (Total n.agg n.key n.value) ≡ true → HasTotal aggs P I n
  unfolding total_value
  has_total n h = (listed.extents n.agg n.key, listed.are n.agg n.key, (value_of n.agg n.key n.value h).1)

  value_is : (n : NeededTotal) → HasTotal aggs P I n → n.value ≡ total_value n.agg n.key
  unfolding total_value
  value_is n h =
      let mine = listed.are n.agg n.key in
      let same : (side : Bool) → sum_sizes (adds aggs n.agg side) h.0 ≡ sum_sizes (adds aggs n.agg side) (listed.extents n.agg n.key)
      = λ side. sums_same (decide_list decide_value) (adds aggs n.agg side) h.0 (listed.extents n.agg n.key) h.1.once mine.once (λ t i. mine.complete t (h.1.sound t i)) (λ t i. h.1.complete t (mine.sound t i)) in
      h.2 ∙ equal_ints _ _ _ _ (same true) (same false)

  kind_up : (k : Kind Atom) → KindHolds I k → KindHolds core_set (user_kind k)
  kind_up (Plain h) t = user_same h ∙ t
  kind_up (Choice h) t = tt
  kind_up Constraint t = t

  users_true : (us : List Atom) (rest : List GroundAtom) → ((p : GroundAtom) → (p ∈ (user_atoms us ++ rest)) → core_set p ≡ true) → (u : Atom) → (u ∈ us) → I u ≡ true
  users_true us rest f u i = sym (user_same u) ∙ f (User u) (∈-append_left _ (user_atoms us) rest (in_users us u i))

  rule_closed : (i : Instance GroundAtom) → RuleIs P i → BodyParts core_set i → KindHolds core_set i.kind
  rule_closed i (of_rule r x e) b = kind_up x.kind (closed_at set (record { maker = r; rule = x; is = e; totals = λ n j. has_total n (b.pos _ (∈-append_right _ (user_atoms x.pos) (total_atoms x.totals) (in_totals x.totals n j))) })
      (record { kind = x.kind; pos = x.pos; neg = x.neg }) refl (record {
        pos = users_true x.pos (total_atoms x.totals) b.pos;
        neg = λ u j. sym (user_same u) ∙ b.neg (User u) (in_users x.neg u j);
      }))
  rule_closed i (of_domain d x e) b = of_key x.agg x.key (listed.complete x.agg x.key (enters d x e refl refl (users_true x.pos (total_atoms x.totals) b.pos)
      (λ n j. has_total n (b.pos _ (∈-append_right _ (user_atoms x.pos) (total_atoms x.totals) (in_totals x.totals n j))))
      (λ n j. listed.sound n.agg n.key (value_of n.agg n.key n.value (b.pos _ (∈-append_right _ (user_atoms x.pos) (total_atoms x.totals) (in_totals x.totals n j)))).0)))
  rule_closed i (of_element m x e) b =
      of_member x.agg x.key x.tuple (key_of x.agg x.key (b.pos _ (inl refl))) ((listed.are x.agg x.key).complete x.tuple (record {
        maker = m;
        element = x;
        is = e;
        of_agg = refl;
        of_key = refl;
        gives = refl;
        meets = record {
          pos = λ u j. sym (user_same u) ∙ b.pos (User u) (inr (in_users x.pos u j));
          neg = λ u j. sym (user_same u) ∙ b.neg (User u) (in_users x.neg u j);
        };
      }))

  all_closed : (m : MakerOf (CoreMaker R D E)) (i : Instance GroundAtom) → instance_of aggs (core_rules P) by_extents m ≡ Some i → body_holds core_set i ≡ true → KindHolds core_set i.kind
  all_closed (ByRule m) i e b = rule_closed i (rule_is P m i e) (body_parts core_set i b)
  all_closed (ByStep s) i e b = step_closed i (step_is aggs by_extents s i e) (body_parts core_set i b)

  -- derivations

  -- the atom is derivable
  Der : GroundAtom → Type 0
  Der a = Derivable (instance_of aggs (core_rules P) by_extents) core_set a

  der_true : (a : GroundAtom) → Der a → core_set a ≡ true
  unfolding Der
  der_true a h = derivable_true h

  derives : (m : MakerOf (CoreMaker R D E)) (i : Instance GroundAtom) (h : GroundAtom) → instance_of aggs (core_rules P) by_extents m ≡ Some i → IsHead i.kind h
      → ((p : GroundAtom) → (p ∈ i.pos) → Der p) → ((n : GroundAtom) → (n ∈ i.neg) → core_set n ≡ false) → core_set h ≡ true → Der h
  unfolding Der
  derives m i h e hd p n t = by (record { maker = m; inst = i; is = e; head = hd; body = record { pos = λ q j. derivable_true (p q j); neg = n } }) t p

  step_der : (s : Step) (h : GroundAtom) (ps ns : List GroundAtom) → step_instance aggs by_extents s ≡ Some (inst h ps ns)
      → ((p : GroundAtom) → (p ∈ ps) → Der p) → ((n : GroundAtom) → (n ∈ ns) → core_set n ≡ false) → core_set h ≡ true → Der h
  step_der s h ps ns e p n t = derives (ByStep s) (inst h ps ns) h e refl p n t

  -- the members of the key are derivable
  MembersDer : ℕ → List Value → Type 0
  MembersDer agg key = (t : List Value) → (t ∈ (listed.extents agg key)) → Der (Member agg key t)

  grid_der : (agg : ℕ) (side : Bool) (key : List Value) → Der (Domain agg key) → (k sum : ℕ) → SumsTo (λ t. Der (Member agg key t)) (adds aggs agg side) (by_extents agg side key) k sum → Der (Grid agg side key k sum)
  unfolding Full always
  grid_der agg side key x k sum none =
      step_der (step.Zero agg side key) (Grid agg side key 0 0) (Domain agg key ∷ []) [] refl (∈-one (λ a. Der a) (Domain agg key) x) (λ n i. absurd i)
      (grid_true agg side key 0 0 (key_of agg key (der_true _ x)) none)
  grid_der agg side key x k sum (skip {k = j} {sum = s} t e p) =
      let below = grid_der agg side key x j s p in
      let parts = grid_parts agg side key j s (der_true _ below) in
      step_der (step.Skip agg side (suc j) s key) (Grid agg side key (suc j) s) (Grid agg side key j s ∷ []) [] (ap (skip_with agg side j s key) e)
      (∈-one (λ a. Der a) (Grid agg side key j s) below) (λ n i. absurd i)
      (grid_true agg side key (suc j) s parts.0 (skip t e parts.1))
  grid_der agg side key x k sum (add {k = j} {sum = s} t e h p) =
      let below = grid_der agg side key x j s p in
      let parts = grid_parts agg side key j s (der_true _ below) in
      step_der (step.Add agg side (suc j) s key) (Grid agg side key (suc j) (s + adds aggs agg side t)) (Grid agg side key j s ∷ Member agg key t ∷ []) [] (ap (add_with aggs agg side j s key) e)
      (∈-two (λ a. Der a) (Grid agg side key j s) (Member agg key t) below h) (λ n i. absurd i)
      (grid_true agg side key (suc j) (s + adds aggs agg side t) parts.0 (add t e refl parts.1))

  path_der : (agg : ℕ) (side : Bool) (key : List Value) → MembersDer agg key → (k sum : ℕ) → Full agg side key k sum → SumsTo (λ t. Der (Member agg key t)) (adds aggs agg side) (by_extents agg side key) k sum
  unfolding Full MembersDer by_extents
  path_der agg side key f k sum p = path_in (kept (weighs (adds aggs agg side)) (listed.extents agg key)) (λ t i h. f t (kept_in (weighs (adds aggs agg side)) (listed.extents agg key) t i).0) k sum p

  reach_der : (agg : ℕ) (side : Bool) (key : List Value) → Der (Domain agg key) → MembersDer agg key → (sum : ℕ) → Full agg side key (length (by_extents agg side key)) sum → Der (Reach agg side key sum)
  reach_der agg side key x f sum p =
      step_der (step.Reach agg side (length (by_extents agg side key)) sum key) (Reach agg side key sum) (Grid agg side key (length (by_extents agg side key)) sum ∷ []) [] refl
      (∈-one (λ a. Der a) (Grid agg side key (length (by_extents agg side key)) sum) (grid_der agg side key x _ sum (path_der agg side key f _ sum p))) (λ n i. absurd i)
      (reach_true agg side key sum (key_of agg key (der_true _ x)) p)

  above_der : (agg : ℕ) (side : Bool) (key : List Value) → Der (Domain agg key) → MembersDer agg key → (sum : ℕ) → Full agg side key (length (by_extents agg side key)) sum → sum < most agg side key → Der (Above agg side key sum)
  above_der agg side key x f sum p l =
      let low = reach_der agg side key x f sum p in
      let high = reach_der agg side key x f (most agg side key) (full_all agg side key) in
      let b : nat_le (suc sum) (most agg side key) ≡ true = lt sum (most agg side key) l in
      step_der (step.Above agg side sum (most agg side key) key) (Above agg side key sum) (Reach agg side key sum ∷ Reach agg side key (most agg side key) ∷ []) [] (ap (above_with agg side sum (most agg side key) key) b)
      (∈-two (λ a. Der a) (Reach agg side key sum) (Reach agg side key (most agg side key)) low high) (λ n i. absurd i)
      (above_true agg side key sum (der_true _ low) l)
    where
      lt : (a b : ℕ) → a < b → nat_le (suc a) b ≡ true
      lt a b e = grind arith

  total_der : (agg : ℕ) (key : List Value) → Der (Domain agg key) → MembersDer agg key → Der (Total agg key (total_value agg key))
  total_der agg key x f =
      let up = reach_der agg true key x f (most agg true key) (full_all agg true key) in
      let down = reach_der agg false key x f (most agg false key) (full_all agg false key) in
      subst (λ v. Der (Total agg key v)) (total_is agg key)
      (step_der (step.Total agg (most agg true key) (most agg false key) key) (Total agg key (value.Int (pos (most agg true key) -ℤ pos (most agg false key))))
      (Reach agg true key (most agg true key) ∷ Reach agg false key (most agg false key) ∷ []) (Above agg true key (most agg true key) ∷ Above agg false key (most agg false key) ∷ []) refl
      (∈-two (λ a. Der a) (Reach agg true key (most agg true key)) (Reach agg false key (most agg false key)) up down)
      (∈-two (λ a. core_set a ≡ false) (Above agg true key (most agg true key)) (Above agg false key (most agg false key)) (not_above agg true key) (not_above agg false key))
      (of_value agg key _ (key_of agg key (der_true _ x)) (total_is agg key)))

  -- members whose elements' atoms are derivable
  members_der : (agg : ℕ) (key : List Value) → Der (Domain agg key)
      → ((m : E) (e : ElementInstance) → P.elements m ≡ Some e → e.agg ≡ agg → Meets I e → (u : Atom) → (u ∈ e.pos) → Der (User u)) → MembersDer agg key
  unfolding MembersDer
  members_der agg key x f t i =
      let v = (listed.are agg key).sound t i in
      let back : ◌≡◌ {A = GroundAtom} (Domain agg key) (Domain v.element.agg v.element.key) = λ j. Domain (sym v.of_agg j) (sym v.of_key j) in
      let there : ◌≡◌ {A = GroundAtom} (Member v.element.agg v.element.key v.element.tuple) (Member agg key t) = λ j. Member (v.of_agg j) (v.of_key j) (v.gives j) in
      subst (λ a. Der a) there (derives (ByRule (FromElement v.maker)) _ (Member v.element.agg v.element.key v.element.tuple) (ap (λ o. core_element o) v.is) refl
      (λ p j. elim j [
        | inl e ↦ subst (λ a. Der a) (back ∙ sym e) x
        | inr k ↦ (let r = users_in v.element.pos p k in subst (λ a. Der a) (sym r.2) (f v.maker v.element v.is v.of_agg v.meets r.0 r.1))
      ])
      (λ n j. let r = users_in v.element.neg n j in ap core_set r.2 ∙ user_same r.0 ∙ v.meets.neg r.0 r.1)
      (ap core_set there ∙ of_member agg key t (key_of agg key (der_true _ x)) i))

  domain_der : (m : D) (d : DomainInstance) → P.domains m ≡ Some d → ((u : Atom) → (u ∈ d.pos) → Der (User u)) → ((n : NeededTotal) → (n ∈ d.totals) → HasTotal aggs P I n × Der (Total n.agg n.key n.value)) → Der (Domain d.agg d.key)
  domain_der m d e us ts =
      derives (ByRule (FromDomain m)) (inst (Domain d.agg d.key) (user_atoms d.pos ++ total_atoms d.totals) []) (Domain d.agg d.key) (ap (λ o. core_domain o) e) refl all (λ n i. absurd i) there
    where
      all : (p : GroundAtom) → (p ∈ (user_atoms d.pos ++ total_atoms d.totals)) → Der p
      all p i = elim (∈-append_cases p (user_atoms d.pos) (total_atoms d.totals) i) [
        | inl k ↦ (let r = users_in d.pos p k in subst (λ a. Der a) (sym r.2) (us r.0 r.1))
        | inr k ↦ (let r = totals_in d.totals p k in subst (λ a. Der a) (sym r.2) (ts r.0 r.1).1)
      ]

      there : core_set (Domain d.agg d.key) ≡ true
      there = of_key d.agg d.key (listed.complete d.agg d.key (enters m d e refl refl (λ u i. sym (user_same u) ∙ der_true _ (us u i)) (λ n i. (ts n i).0)
          (λ n i. listed.sound n.agg n.key (value_of n.agg n.key n.value (der_true _ (ts n i).1)).0)))

  -- the totals of a rule, in their order
  totals_der : (atoms : List Atom) → ((u : Atom) → (u ∈ atoms) → Der (User u)) → (earlier ns : List NeededTotal) → AllCome P atoms earlier ns
      → ((m : NeededTotal) → (m ∈ earlier) → HasTotal aggs P I m × Der (Total m.agg m.key m.value)) → ((m : NeededTotal) → (m ∈ ns) → HasTotal aggs P I m)
      → ((m : NeededTotal) → (m ∈ ns) → (e : E) (x : ElementInstance) → P.elements e ≡ Some x → x.agg ≡ m.agg → Meets I x → (u : Atom) → (u ∈ x.pos) → Der (User u))
      → (m : NeededTotal) → (m ∈ ns) → Der (Total m.agg m.key m.value)
  totals_der atoms there earlier [] all before right elements m i = absurd i
  totals_der atoms there earlier (n ∷ ns) all before right elements m i =
      let v = all.0 in
      let dom = domain_der v.maker v.domain v.is (λ u j. there u (v.pos u j)) (λ x j. before x (v.totals x j)) in
      let same : ◌≡◌ {A = GroundAtom} (Domain v.domain.agg v.domain.key) (Domain n.agg n.key) = λ j. Domain (v.of_agg j) (v.of_key j) in
      let here = subst (λ a. Der a) same dom in
      let value = value_is n (right n (inl refl)) in
      let first : Der (Total n.agg n.key n.value) = subst (λ x. Der (Total n.agg n.key x)) (sym value) (total_der n.agg n.key here (members_der n.agg n.key here (elements n (inl refl)))) in
      elim i [
        | inl e ↦ subst (λ (x : NeededTotal). Der (Total x.agg x.key x.value)) (sym e) first
        | inr j ↦ totals_der atoms there (n ∷ earlier) ns all.1 (λ x k. elim k [
          | inl e ↦ (subst (λ (y : NeededTotal). HasTotal aggs P I y) (sym e) (right n (inl refl)), subst (λ (y : NeededTotal). Der (Total y.agg y.key y.value)) (sym e) first)
          | inr q ↦ before x q
        ]) (λ x k. right x (inr k)) (λ x k. elements x (inr k)) m j
      ]

  user_head_up : (k : Kind Atom) (u : Atom) → IsHead k u → IsHead (user_kind k) (User u)
  user_head_up (Plain h) u e = ap (λ x. User x) e
  user_head_up (Choice h) u e = ap (λ x. User x) e
  user_head_up Constraint u e = e

  -- one user atom, where those of lower strata are derivable
  one_user : (n : ℕ) → ((u : Atom) → stratum u < n → I u ≡ true → Der (User u)) → (u : Atom) → Derivable (rule_with_totals aggs P I) I u → stratum u ≤ n → Der (User u)
  one_user n lower u (by l t d) bound = go l.maker l.inst l.is l.head l.body (λ p i le. one_user n lower p (d p i) le)
    where
      go : (m : RuleWithTotals aggs P I) (i : Instance Atom) → rule_with_totals aggs P I m ≡ Some i → IsHead i.kind u → BodyParts I i → ((p : Atom) → (p ∈ i.pos) → stratum p ≤ n → Der (User p)) → Der (User u)
      go m i e hd b below =
          let same = sym (same_Some _ _ e) in
          with_rule (subst (λ (j : Instance Atom). IsHead j.kind u) same hd) (subst (λ (j : Instance Atom). BodyParts I j) same b) (subst (λ (j : Instance Atom). (p : Atom) → (p ∈ j.pos) → stratum p ≤ n → Der (User p)) same below)
        where
          with_rule : IsHead m.rule.kind u → BodyParts I (record { kind = m.rule.kind; pos = m.rule.pos; neg = m.rule.neg }) → ((p : Atom) → (p ∈ m.rule.pos) → stratum p ≤ n → Der (User p)) → Der (User u)
          with_rule hd b below =
              let there : (p : Atom) → (p ∈ m.rule.pos) → Der (User p) = λ p j. let s = strata.body m.maker m.rule m.is u hd p j in below p j (omega (arith, s, bound)) in
              let right = totals_der m.rule.pos there [] m.rule.totals (has m.maker m.rule m.is) (λ x j. absurd j) m.totals
              (λ k j e x is same meets p q. let s = strata.elements m.maker m.rule m.is u hd k j e x is same p q in lower p (omega (arith, s, bound)) (meets.pos p q)) in
              derives (ByRule (FromRule m.maker)) (record { kind = user_kind m.rule.kind; pos = user_atoms m.rule.pos ++ total_atoms m.rule.totals; neg = user_atoms m.rule.neg }) (User u) (ap (λ o. core_rule o) m.is) (user_head_up m.rule.kind u hd)
              (λ p j. elim (∈-append_cases p (user_atoms m.rule.pos) (total_atoms m.rule.totals) j) [
                | inl k ↦ (let r = users_in m.rule.pos p k in subst (λ a. Der a) (sym r.2) (there r.0 r.1))
                | inr k ↦ (let r = totals_in m.rule.totals p k in subst (λ a. Der a) (sym r.2) (right r.0 r.1))
              ])
              (λ x j. let r = users_in m.rule.neg x j in ap core_set r.2 ∙ user_same r.0 ∙ b.neg r.0 r.1)
              (user_same u ∙ t)

  users_below : (n : ℕ) (u : Atom) → stratum u < n → I u ≡ true → Der (User u)
  users_below zero u l t = absurd (omega arith)
  users_below (suc n) u l t = one_user n (users_below n) u (derivable set u t) (omega arith)

  all_users : (u : Atom) → I u ≡ true → Der (User u)
  all_users u t = users_below (suc (stratum u)) u (omega arith) t

  key_members : (agg : ℕ) (key : List Value) → Der (Domain agg key) → MembersDer agg key
  key_members agg key x = members_der agg key x (λ m e is same meets u i. all_users u (meets.pos u i))

  all_domains : (agg : ℕ) (key : List Value) → InDomain aggs P I agg key → Der (Domain agg key)
  all_domains agg key (enters m d e eg ek posd right below) =
      let dom = domain_der m d e (λ u i. all_users u (posd u i)) (λ n i.
      let x = all_domains n.agg n.key (below n i) in
      (right n i, subst (λ v. Der (Total n.agg n.key v)) (sym (value_is n (right n i))) (total_der n.agg n.key x (key_members n.agg n.key x)))) in
      subst (λ a. Der a) (λ j. Domain (eg j) (ek j)) dom

  key_der : (agg : ℕ) (key : List Value) → ((agg, key) ∈ listed.keys) → Der (Domain agg key)
  key_der agg key k = all_domains agg key (listed.sound agg key k)

  all_derivable : (a : GroundAtom) → core_set a ≡ true → Der a
  unfolding MembersDer
  all_derivable (User u) t = all_users u (sym (user_same u) ∙ t)
  all_derivable (Domain agg key) t = key_der agg key (key_of agg key t)
  all_derivable (Member agg key x) t = let p = member_of agg key x t in apply agg key x (key_members agg key (key_der agg key p.0)) p.1
    where
      apply : (agg : ℕ) (key x : List Value) → MembersDer agg key → (x ∈ (listed.extents agg key)) → Der (Member agg key x)
      apply agg key x f i = f x i
  all_derivable (Total agg key v) t = let p = value_of agg key v t in let x = key_der agg key p.0 in subst (λ v. Der (Total agg key v)) (sym p.1) (total_der agg key x (key_members agg key x))
  all_derivable (Grid agg side key k sum) t = let p = grid_parts agg side key k sum t in let x = key_der agg key p.0 in grid_der agg side key x k sum (path_der agg side key (key_members agg key x) k sum p.1)
  all_derivable (Reach agg side key sum) t = let p = reach_parts agg side key sum t in let x = key_der agg key p.0 in reach_der agg side key x (key_members agg key x) sum p.1
  all_derivable (Above agg side key sum) t =
      let q = above_parts agg side key sum t in
      let p = reach_parts agg side key sum q.0 in
      let x = key_der agg key p.0 in above_der agg side key x (key_members agg key x) sum p.1 q.1

  -- a list of all atoms

  -- the atoms on the sums of a side up to this one
  sums : ℕ → Bool → List Value → ℕ → List GroundAtom
  sums agg side key zero = Reach agg side key 0 ∷ Above agg side key 0 ∷ rows agg side key 0 (length (by_extents agg side key))
  sums agg side key (suc n) = (Reach agg side key (suc n) ∷ Above agg side key (suc n) ∷ rows agg side key (suc n) (length (by_extents agg side key))) ++ sums agg side key n

  -- the atoms on one sum
  block : ℕ → Bool → List Value → ℕ → List GroundAtom
  block agg side key s = Reach agg side key s ∷ Above agg side key s ∷ rows agg side key s (length (by_extents agg side key))

  in_sums : (agg : ℕ) (side : Bool) (key : List Value) (n s : ℕ) → s ≤ n → (a : GroundAtom) → (a ∈ (block agg side key s)) → (a ∈ (sums agg side key n))
  unfolding sums block
  in_sums agg side key zero s h a i = let z : s ≡ 0 = omega arith in subst (λ q. (a ∈ (Reach agg side key q ∷ Above agg side key q ∷ rows agg side key q (length (by_extents agg side key))))) z i
  in_sums agg side key (suc n) s h a i = elim (cases s (suc n) h) [
    | inl e ↦ ∈-append_left a (Reach agg side key (suc n) ∷ Above agg side key (suc n) ∷ rows agg side key (suc n) (length (by_extents agg side key))) (sums agg side key n) (subst (λ q. (a ∈ (Reach agg side key q ∷ Above agg side key q ∷ rows agg side key q (length (by_extents agg side key))))) e i)
    | inr l ↦ ∈-append_right a (Reach agg side key (suc n) ∷ Above agg side key (suc n) ∷ rows agg side key (suc n) (length (by_extents agg side key))) (sums agg side key n) (in_sums agg side key n s (omega arith) a i)
  ]
    where
      cases : (a b : ℕ) → a ≤ b → (a ≡ b) ⊎ (a < b)
      cases a b h = grind arith

  -- the members of these tuples
  members : ℕ → List Value → List (List Value) → List GroundAtom
  members agg key [] = []
  members agg key (t ∷ ts) = Member agg key t ∷ members agg key ts

  in_members : (agg : ℕ) (key : List Value) (ts : List (List Value)) (t : List Value) → (t ∈ ts) → ((Member agg key t) ∈ (members agg key ts))
  unfolding members
  in_members agg key [] t i = absurd i
  in_members agg key (x ∷ ts) t (inl e) = inl (ap (λ z. Member agg key z) e)
  in_members agg key (x ∷ ts) t (inr i) = inr (in_members agg key ts t i)

  -- the atoms of one key
  of_one_key : ℕ → List Value → List GroundAtom
  of_one_key agg key = Domain agg key ∷ Total agg key (total_value agg key) ∷ (members agg key (listed.extents agg key) ++ (sums agg true key (most agg true key) ++ sums agg false key (most agg false key)))

  of_keys : List (ℕ × List Value) → List GroundAtom
  of_keys [] = []
  of_keys (k ∷ ks) = of_one_key k.0 k.1 ++ of_keys ks

  in_keys : (agg : ℕ) (key : List Value) (ks : List (ℕ × List Value)) → ((agg, key) ∈ ks) → (a : GroundAtom) → (a ∈ (of_one_key agg key)) → (a ∈ (of_keys ks))
  unfolding of_keys
  in_keys agg key [] i a j = absurd i
  in_keys agg key (k ∷ ks) (inl e) a j = ∈-append_left a (of_one_key k.0 k.1) (of_keys ks) (subst (λ (q : ℕ × List Value). (a ∈ (of_one_key q.0 q.1))) e j)
  in_keys agg key (k ∷ ks) (inr i) a j = ∈-append_right a (of_one_key k.0 k.1) (of_keys ks) (in_keys agg key ks i a j)

  -- a list of all atoms of the set
  cover : List GroundAtom
  cover = user_atoms set.order ++ of_keys listed.keys

  in_cover : (agg : ℕ) (key : List Value) → ((agg, key) ∈ listed.keys) → (a : GroundAtom) → (a ∈ (of_one_key agg key)) → (a ∈ cover)
  unfolding cover
  in_cover agg key k a j = ∈-append_right a (user_atoms set.order) (of_keys listed.keys) (in_keys agg key listed.keys k a j)

  in_side : (agg : ℕ) (side : Bool) (key : List Value) (s : ℕ) → s ≤ most agg side key → (a : GroundAtom) → (a ∈ (block agg side key s)) → (a ∈ (of_one_key agg key))
  unfolding of_one_key
  in_side agg true key s h a i = inr (inr (∈-append_right a (members agg key (listed.extents agg key)) _ (∈-append_left a (sums agg true key (most agg true key)) (sums agg false key (most agg false key)) (in_sums agg true key (most agg true key) s h a i))))
  in_side agg false key s h a i = inr (inr (∈-append_right a (members agg key (listed.extents agg key)) _ (∈-append_right a (sums agg true key (most agg true key)) (sums agg false key (most agg false key)) (in_sums agg false key (most agg false key) s h a i))))

  covers : (a : GroundAtom) → core_set a ≡ true → (a ∈ cover)
  unfolding cover of_one_key block Full
  covers (User u) t = ∈-append_left (User u) (user_atoms set.order) (of_keys listed.keys) (in_users set.order u (set.all_there u (sym (user_same u) ∙ t)))
  covers (Domain agg key) t = in_cover agg key (key_of agg key t) (Domain agg key) (inl refl)
  covers (Member agg key x) t = let p = member_of agg key x t in in_cover agg key p.0 (Member agg key x) (inr (inr (∈-append_left (Member agg key x) (members agg key (listed.extents agg key)) _ (in_members agg key (listed.extents agg key) x p.1))))
  covers (Total agg key v) t = let p = value_of agg key v t in in_cover agg key p.0 (Total agg key v) (inr (inl (ap (λ z. Total agg key z) p.1)))
  covers (Grid agg side key k sum) t =
      let p = grid_parts agg side key k sum t in
      in_cover agg key p.0 _ (in_side agg side key sum (full_most agg side key k sum p.1) _ (inr (inr (in_rows agg side key sum (length (by_extents agg side key)) k (index agg side key k sum p.1)))))
    where
      index : (agg : ℕ) (side : Bool) (key : List Value) (k sum : ℕ) → Full agg side key k sum → k ≤ length (by_extents agg side key)
      index agg side key k sum p = path_index (by_extents agg side key) k sum p
  covers (Reach agg side key sum) t = let p = reach_parts agg side key sum t in in_cover agg key p.0 _ (in_side agg side key sum (full_most agg side key _ sum p.1) _ (inl refl))
  covers (Above agg side key sum) t =
      let q = above_parts agg side key sum t in
      let p = reach_parts agg side key sum q.0 in
      in_cover agg key p.0 _ (in_side agg side key sum (full_most agg side key _ sum p.1) _ (inr (inl refl)))

  numbered : NumbersOnce aggs by_extents
  unfolding by_extents weighs
  numbered = record { once = list_once; weighs = λ agg side key t i. weight agg side key t i }
    where
      weight : (agg : ℕ) (side : Bool) (key t : List Value) → (t ∈ (by_extents agg side key)) → 1 ≤ adds aggs agg side t
      weight agg side key t i = le (kept_in (weighs (adds aggs agg side)) (listed.extents agg key) t i).1
        where
          le : weighs (adds aggs agg side) t ≡ true → 1 ≤ adds aggs agg side t
          le h = grind arith

  numbers_all : NumbersAll aggs by_extents core_set
  unfolding by_extents weighs
  numbers_all agg side key t h l = in_kept (weighs (adds aggs agg side)) (listed.extents agg key) t (member_of agg key t h).1 (le (adds aggs agg side t) l)
    where
      le : (n : ℕ) → 1 ≤ n → nat_le 1 n ≡ true
      le n l = grind arith

  pub from_answer_set : IsAnswerSetOf aggs (core_rules P) by_extents core_set
  unfolding Der
  from_answer_set =
      let f = founded_by (instance_of aggs (core_rules P) by_extents) core_set decide_ground_atom cover covers all_derivable in
      record {
        answers = record { closed = all_closed; order = f.0; all_there = f.1; founded = f.2 };
        numbering = numbered;
        numbers = numbers_all;
      }
