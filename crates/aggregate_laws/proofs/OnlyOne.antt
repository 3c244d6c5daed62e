-- Under one numbering the atoms of the program determine a core answer set.
use Rattle.std.proofs.Common.{◌≡◌, ℕ, suc, zero, ◌<◌, ◌⊎◌, Bool, true, false, List, refl, sym, ap, subst, inl, inr, arith}
use Rattle.std.specs.Prelude.{Some}
use Rattle.lists.specs.Lists.{◌∈◌}
use Rattle.lists.proofs.ListLemmas.{∈-append_cases}
use Rattle.core_rules.specs.declared.rules.CoreAggregate.{CoreAggregate}
use Rattle.search_values.specs.Instances.{Kind, Plain, Choice, Constraint, Instance, IsHead}
use Rattle.asp_meaning.specs.declared.value.Value.{Value}
use Rattle.core_meaning.specs.Atoms.{GroundAtom, User, Domain, Member, Total, Grid, Reach, Above}
use Rattle.core_meaning.specs.Numberings.{Numbering}
use Rattle.aggregate_laws.specs.Rules.{MakerOf, ByRule, ByStep, instance_of, IsAnswerSetOf}
use Rattle.asp_meaning.specs.Atoms.{Atom}
use Rattle.aggregate_laws.specs.TotalsInBodies.{NeededTotal, GroundProgram, CoreMaker, user_atoms, total_atoms, user_kind, core_rules, AreOrdered}
use Rattle.aggregate_laws.specs.Laws.{UserAtomsDetermineSets}
use Rattle.aggregate_laws.proofs.Derivable.{Rests, given, from, agree_on}
use Rattle.aggregate_laws.proofs.Totals.{StepIs, is_zero, is_skip, is_add, is_reach, is_above, is_total, step_is}
use Rattle.aggregate_laws.proofs.CoreOfTotals.{users_in, totals_in, RuleIs, of_rule, of_domain, of_element, rule_is}

-- the atom is one of the program
IsUser : GroundAtom → Type 0
IsUser (User u) = Unit {0}
IsUser _ = ⊥

-- the atom directly rests on the other
Below : GroundAtom → GroundAtom → Type 0
Below (Domain agg key) (User u) = Unit {0}
Below (Domain agg key) (Total h k v) = h < agg
Below (Member agg key t) (User u) = Unit {0}
Below (Member agg key t) (Domain h k) = h ≡ agg
Below (Grid agg side key k sum) (Domain h q) = h ≡ agg
Below (Grid agg side key k sum) (Member h q t) = h ≡ agg
Below (Grid agg side key k sum) (Grid h s q j m) = (h ≡ agg) × (j < k)
Below (Reach agg side key sum) (Grid h s q j m) = h ≡ agg
Below (Above agg side key sum) (Reach h s q m) = h ≡ agg
Below (Total agg key v) (Reach h s q m) = h ≡ agg
Below (Total agg key v) (Above h s q m) = h ≡ agg
Below _ _ = ⊥

module _ {R D E : Type 0} (aggs : List CoreAggregate) (P : GroundProgram R D E) (ordered : AreOrdered P) (N : Numbering) where
  -- the atom rests on those of the program
  Rest : GroundAtom → Type 0
  Rest a = Rests (instance_of aggs (core_rules P) N) IsUser a

  -- the atom is one of an aggregate
  IsDerived : GroundAtom → Type 0
  IsDerived (User u) = ⊥
  IsDerived _ = Unit {0}

  moved_below : (a b p q : GroundAtom) → a ≡ p → b ≡ q → Below p q → Below a b
  moved_below a b p q e f h = subst (λ x. Below x b) (sym e) (subst (λ x. Below p x) (sym f) h)

  step_below : (i : Instance GroundAtom) → StepIs aggs N i → (a : GroundAtom) → IsHead i.kind a → (b : GroundAtom) → (b ∈ i.pos) ⊎ (b ∈ i.neg) → Below a b
  unfolding Below
  step_below i (is_zero agg side key) a h b (inl (inl e)) = moved_below a b _ (Domain agg key) (sym h) e refl
  step_below i (is_zero agg side key) a h b (inl (inr j)) = absurd j
  step_below i (is_zero agg side key) a h b (inr j) = absurd j
  step_below i (is_skip agg side key k sum t e) a h b (inl (inl f)) = moved_below a b _ (Grid agg side key k sum) (sym h) f (refl, omega arith)
  step_below i (is_skip agg side key k sum t e) a h b (inl (inr j)) = absurd j
  step_below i (is_skip agg side key k sum t e) a h b (inr j) = absurd j
  step_below i (is_add agg side key k sum t e) a h b (inl (inl f)) = moved_below a b _ (Grid agg side key k sum) (sym h) f (refl, omega arith)
  step_below i (is_add agg side key k sum t e) a h b (inl (inr (inl f))) = moved_below a b _ (Member agg key t) (sym h) f refl
  step_below i (is_add agg side key k sum t e) a h b (inl (inr (inr j))) = absurd j
  step_below i (is_add agg side key k sum t e) a h b (inr j) = absurd j
  step_below i (is_reach agg side key k sum) a h b (inl (inl f)) = moved_below a b _ (Grid agg side key k sum) (sym h) f refl
  step_below i (is_reach agg side key k sum) a h b (inl (inr j)) = absurd j
  step_below i (is_reach agg side key k sum) a h b (inr j) = absurd j
  step_below i (is_above agg side key low high l) a h b (inl (inl f)) = moved_below a b _ (Reach agg side key low) (sym h) f refl
  step_below i (is_above agg side key low high l) a h b (inl (inr (inl f))) = moved_below a b _ (Reach agg side key high) (sym h) f refl
  step_below i (is_above agg side key low high l) a h b (inl (inr (inr j))) = absurd j
  step_below i (is_above agg side key low high l) a h b (inr j) = absurd j
  step_below i (is_total agg key up down) a h b (inl (inl f)) = moved_below a b _ (Reach agg true key up) (sym h) f refl
  step_below i (is_total agg key up down) a h b (inl (inr (inl f))) = moved_below a b _ (Reach agg false key down) (sym h) f refl
  step_below i (is_total agg key up down) a h b (inl (inr (inr j))) = absurd j
  step_below i (is_total agg key up down) a h b (inr (inl f)) = moved_below a b _ (Above agg true key up) (sym h) f refl
  step_below i (is_total agg key up down) a h b (inr (inr (inl f))) = moved_below a b _ (Above agg false key down) (sym h) f refl
  step_below i (is_total agg key up down) a h b (inr (inr (inr j))) = absurd j

  step_plain : (i : Instance GroundAtom) → StepIs aggs N i → (a : GroundAtom) → IsHead i.kind a → i.kind ≡ Plain a
  step_plain i (is_zero agg side key) a h = ap (λ x. Plain x) h
  step_plain i (is_skip agg side key k sum t e) a h = ap (λ x. Plain x) h
  step_plain i (is_add agg side key k sum t e) a h = ap (λ x. Plain x) h
  step_plain i (is_reach agg side key k sum) a h = ap (λ x. Plain x) h
  step_plain i (is_above agg side key low high l) a h = ap (λ x. Plain x) h
  step_plain i (is_total agg key up down) a h = ap (λ x. Plain x) h

  no_user_head : (k : Kind Atom) (a : GroundAtom) → IsDerived a → IsHead (user_kind k) a → ⊥
  unfolding IsDerived
  no_user_head (Plain x) a n h = subst (λ y. IsDerived y) (sym h) n
  no_user_head (Choice x) a n h = subst (λ y. IsDerived y) (sym h) n
  no_user_head Constraint a n h = h

  rule_plain : (i : Instance GroundAtom) → RuleIs P i → (a : GroundAtom) → IsDerived a → IsHead i.kind a → i.kind ≡ Plain a
  rule_plain i (of_rule r x e) a n h = absurd (no_user_head x.kind a n h)
  rule_plain i (of_domain d x e) a n h = ap (λ x. Plain x) h
  rule_plain i (of_element m x e) a n h = ap (λ x. Plain x) h

  rule_below : (i : Instance GroundAtom) → RuleIs P i → (a : GroundAtom) → IsDerived a → IsHead i.kind a → (b : GroundAtom) → (b ∈ i.pos) ⊎ (b ∈ i.neg) → Below a b
  unfolding Below
  rule_below i (of_rule r x e) a n h b j = absurd (no_user_head x.kind a n h)
  rule_below i (of_domain d x e) a n h b (inl j) = elim (∈-append_cases b (user_atoms x.pos) (total_atoms x.totals) j) [
    | inl k ↦ (let r = users_in x.pos b k in moved_below a b _ (User r.0) (sym h) r.2 tt)
    | inr k ↦ (let r = totals_in x.totals b k in moved_below a b _ (Total (NeededTotal.agg r.0) (NeededTotal.key r.0) (NeededTotal.value r.0)) (sym h) r.2 (ordered d x e r.0 r.1))
  ]
  rule_below i (of_domain d x e) a n h b (inr j) = absurd j
  rule_below i (of_element m x e) a n h b (inl (inl f)) = moved_below a b _ (Domain x.agg x.key) (sym h) f refl
  rule_below i (of_element m x e) a n h b (inl (inr j)) = let r = users_in x.pos b j in moved_below a b _ (User r.0) (sym h) r.2 tt
  rule_below i (of_element m x e) a n h b (inr j) = let r = users_in x.neg b j in moved_below a b _ (User r.0) (sym h) r.2 tt

  rests : (a : GroundAtom) → IsDerived a → ((b : GroundAtom) → Below a b → Rest b) → Rest a
  unfolding Rest
  rests a n f = from plain below
    where
      plain : (m : MakerOf (CoreMaker R D E)) (i : Instance GroundAtom) → instance_of aggs (core_rules P) N m ≡ Some i → IsHead i.kind a → i.kind ≡ Plain a
      plain (ByRule m) i e h = rule_plain i (rule_is P m i e) a n h
      plain (ByStep s) i e h = step_plain i (step_is aggs N s i e) a h

      below : (m : MakerOf (CoreMaker R D E)) (i : Instance GroundAtom) → instance_of aggs (core_rules P) N m ≡ Some i → IsHead i.kind a → (b : GroundAtom) → (b ∈ i.pos) ⊎ (b ∈ i.neg) → Rest b
      below (ByRule m) i e h b j = f b (rule_below i (rule_is P m i e) a n h b j)
      below (ByStep s) i e h b j = f b (step_below i (step_is aggs N s i e) a h b j)

  user_rests : (u : Atom) → Rest (User u)
  unfolding Rest IsUser
  user_rests u = given tt

  -- all atoms of one aggregate, over those of lower numbers
  module _ (agg : ℕ) (lower : (h : ℕ) → h < agg → (key : List Value) (v : Value) → Rest (Total h key v)) where
    domain_rests : (key : List Value) → Rest (Domain agg key)
    unfolding Below IsDerived
    domain_rests key = rests (Domain agg key) tt go
      where
        go : (b : GroundAtom) → Below (Domain agg key) b → Rest b
        go (User u) h = user_rests u
        go (Total h k v) l = lower h l k v
        go (Domain h k) l = absurd l
        go (Member h k t) l = absurd l
        go (Grid h s k j m) l = absurd l
        go (Reach h s k m) l = absurd l
        go (Above h s k m) l = absurd l

    member_rests : (key t : List Value) → Rest (Member agg key t)
    unfolding Below IsDerived
    member_rests key t = rests (Member agg key t) tt go
      where
        go : (b : GroundAtom) → Below (Member agg key t) b → Rest b
        go (User u) h = user_rests u
        go (Domain h k) l = subst (λ x. Rest (Domain x k)) (sym l) (domain_rests k)
        go (Total h k v) l = absurd l
        go (Member h k t) l = absurd l
        go (Grid h s k j m) l = absurd l
        go (Reach h s k m) l = absurd l
        go (Above h s k m) l = absurd l

    grid_rests : (n k : ℕ) → k < n → (side : Bool) (key : List Value) (sum : ℕ) → Rest (Grid agg side key k sum)
    unfolding Below IsDerived
    grid_rests zero k l side key sum = absurd (omega arith)
    grid_rests (suc n) k l side key sum = rests (Grid agg side key k sum) tt (go (λ j l s q m. grid_rests n j l s q m))
      where
        go : ((j : ℕ) → j < n → (s : Bool) (q : List Value) (m : ℕ) → Rest (Grid agg s q j m)) → (b : GroundAtom) → Below (Grid agg side key k sum) b → Rest b
        go f (Domain h q) e = subst (λ x. Rest (Domain x q)) (sym e) (domain_rests q)
        go f (Member h q t) e = subst (λ x. Rest (Member x q t)) (sym e) (member_rests q t)
        go f (Grid h s q j m) e = subst (λ x. Rest (Grid x s q j m)) (sym e.0) (f j (omega (arith, e.1, l)) s q m)
        go f (User u) e = absurd e
        go f (Total h q v) e = absurd e
        go f (Reach h s q m) e = absurd e
        go f (Above h s q m) e = absurd e

    reach_rests : (side : Bool) (key : List Value) (sum : ℕ) → Rest (Reach agg side key sum)
    unfolding Below IsDerived
    reach_rests side key sum = rests (Reach agg side key sum) tt go
      where
        go : (b : GroundAtom) → Below (Reach agg side key sum) b → Rest b
        go (Grid h s q j m) e = subst (λ x. Rest (Grid x s q j m)) (sym e) (grid_rests (suc j) j (omega arith) s q m)
        go (User u) e = absurd e
        go (Domain h q) e = absurd e
        go (Member h q t) e = absurd e
        go (Total h q v) e = absurd e
        go (Reach h s q m) e = absurd e
        go (Above h s q m) e = absurd e

    above_rests : (side : Bool) (key : List Value) (sum : ℕ) → Rest (Above agg side key sum)
    unfolding Below IsDerived
    above_rests side key sum = rests (Above agg side key sum) tt go
      where
        go : (b : GroundAtom) → Below (Above agg side key sum) b → Rest b
        go (Reach h s q m) e = subst (λ x. Rest (Reach x s q m)) (sym e) (reach_rests s q m)
        go (User u) e = absurd e
        go (Domain h q) e = absurd e
        go (Member h q t) e = absurd e
        go (Total h q v) e = absurd e
        go (Grid h s q j m) e = absurd e
        go (Above h s q m) e = absurd e

    total_rests : (key : List Value) (v : Value) → Rest (Total agg key v)
    unfolding Below IsDerived
    total_rests key v = rests (Total agg key v) tt go
      where
        go : (b : GroundAtom) → Below (Total agg key v) b → Rest b
        go (Reach h s q m) e = subst (λ x. Rest (Reach x s q m)) (sym e) (reach_rests s q m)
        go (Above h s q m) e = subst (λ x. Rest (Above x s q m)) (sym e) (above_rests s q m)
        go (User u) e = absurd e
        go (Domain h q) e = absurd e
        go (Member h q t) e = absurd e
        go (Total h q v) e = absurd e
        go (Grid h s q j m) e = absurd e

  lower_rests : (n h : ℕ) → h < n → (key : List Value) (v : Value) → Rest (Total h key v)
  lower_rests zero h l key v = absurd (omega arith)
  lower_rests (suc n) h l key v = total_rests h (λ j m q x. lower_rests n j (omega (arith, l, m)) q x) key v

  totals_rest : (agg h : ℕ) → h < agg → (key : List Value) (v : Value) → Rest (Total h key v)
  totals_rest agg h l key v = lower_rests agg h l key v

  all_rest : (a : GroundAtom) → Rest a
  all_rest (User u) = user_rests u
  all_rest (Domain agg key) = domain_rests agg (totals_rest agg) key
  all_rest (Member agg key t) = member_rests agg (totals_rest agg) key t
  all_rest (Total agg key v) = total_rests agg (totals_rest agg) key v
  all_rest (Grid agg side key k sum) = grid_rests agg (totals_rest agg) (suc k) k (omega arith) side key sum
  all_rest (Reach agg side key sum) = reach_rests agg (totals_rest agg) side key sum
  all_rest (Above agg side key sum) = above_rests agg (totals_rest agg) side key sum

  only_one : (c d : GroundAtom → Bool) → IsAnswerSetOf aggs (core_rules P) N c → IsAnswerSetOf aggs (core_rules P) N d → ((u : Atom) → c (User u) ≡ d (User u)) → (a : GroundAtom) → c a ≡ d a
  unfolding Rest IsUser
  only_one c d sc sd same a = agree_on (instance_of aggs (core_rules P) N) IsUser c d sc.answers sd.answers on a (all_rest a)
    where
      on : (b : GroundAtom) → IsUser b → c b ≡ d b
      on (User u) h = same u
      on (Domain agg key) h = absurd h
      on (Member agg key t) h = absurd h
      on (Total agg key v) h = absurd h
      on (Grid agg side key k sum) h = absurd h
      on (Reach agg side key sum) h = absurd h
      on (Above agg side key sum) h = absurd h

pub user_atoms_determine_sets : {R D E : Type 0} → UserAtomsDetermineSets R D E
user_atoms_determine_sets aggs P ordered N c d sc sd same = only_one aggs P ordered N c d sc sd same
