-- The user atoms of a core answer set are an answer set with totals.
use Rattle.std.proofs.Common.{◌≡◌, ℕ, ◌⊎◌, Bool, true, false, List, [], ◌∷◌, ◌++◌, refl, sym, ◌∙◌, ap, subst, inl, inr, arith}
use Rattle.std.specs.Prelude.{Option, Some}
use Rattle.std.proofs.lemmas.Option.{same_Some}
use Rattle.lists.specs.Lists.{◌∈◌, HasNoRepeats}
use Rattle.lists.proofs.ListLemmas.{∈-append_left, ∈-append_right, ∈-append_cases}
use Rattle.core_rules.specs.declared.rules.CoreAggregate.{CoreAggregate}
use Rattle.search_values.specs.Instances.{Kind, Plain, Choice, Constraint, Instance, IsHead, KindHolds, body_holds, IsFounded}
use Rattle.search_values.proofs.Basics.{BodyParts, body_parts}
use Rattle.asp_meaning.specs.declared.value.Value.{Value}
use Rattle.core_meaning.specs.Atoms.{GroundAtom, User, Domain, Member, Total, Grid, Reach, Above}
use Rattle.core_meaning.specs.Numberings.{Numbering, adds}
use Rattle.aggregate_laws.specs.Rules.{MakerOf, ByRule, ByStep, instance_of, IsAnswerSetOf}
use Rattle.aggregate_laws.specs.Totals.{side_sum, total_in}
use Rattle.asp_meaning.specs.Atoms.{Atom}
use Rattle.asp_meaning.proofs.AtomOrder.{same_atom}
use Rattle.aggregate_laws.specs.TotalsInBodies.{NeededTotal, GroundProgram, GivesTuple, IsExtentOf, sum_sizes, total_of_tuples, HasTotal, RuleWithTotals, rule_with_totals, IsAnswerSetWithTotals, CoreMaker, FromRule, FromDomain, FromElement, user_atoms, total_atoms, user_kind, core_rule, core_domain, core_element, core_rules, AllCome, HasDomains}
use Rattle.aggregate_laws.specs.Laws.{CoreSetsBecomeAnswerSets}
use Rattle.aggregate_laws.proofs.Derivable.{Derivable, by, derivable, founded_by, closed_at}
use Rattle.aggregate_laws.proofs.Totals.{inst, step_is, step_not_base, total_there, total_only}
use Rattle.aggregate_laws.proofs.Sameness.{Decides, decide_list, decide_nat, decide_value}
use Rattle.aggregate_laws.proofs.CoreOfTotals.{in_users, users_in, in_totals, totals_in, RuleIs, of_rule, of_domain, of_element, rule_is, are_rules}
use Rattle.aggregate_laws.proofs.TotalsOfTuples.{sums_below, sums_above, sums_same, equal_ints}

-- lists taken out of a founded order

-- the tuples of the members of this key in the list
tuples_at : Decides ℕ → Decides (List Value) → ℕ → List Value → List GroundAtom → List (List Value)
tuples_at f h agg key [] = []
tuples_at f h agg key (Member agagg' key' t ∷ others) = elim (f agagg' agg) [
  | inl e ↦ elim (h key' key) [ inl d ↦ t ∷ tuples_at f h agg key others | inr n ↦ tuples_at f h agg key others ]
  | inr n ↦ tuples_at f h agg key others
]
tuples_at f h agg key (_ ∷ others) = tuples_at f h agg key others

tuple_in : (f : Decides ℕ) (h : Decides (List Value)) (agg : ℕ) (key t : List Value) (others : List GroundAtom) → (t ∈ (tuples_at f h agg key others)) → ((Member agg key t) ∈ others)
unfolding tuples_at
tuple_in f h agg key t [] i = i
tuple_in f h agg key t (Member agagg' key' t' ∷ others) i = go (f agagg' agg) (h key' key) (λ j. tuple_in f h agg key t others j) i
  where
    go : (p : (agagg' ≡ agg) ⊎ (agagg' ≡ agg → ⊥)) (q : (key' ≡ key) ⊎ (key' ≡ key → ⊥)) → ((t ∈ (tuples_at f h agg key others)) → ((Member agg key t) ∈ others))
        → (t ∈ (elim p [ inl e ↦ elim q [ inl d ↦ t' ∷ tuples_at f h agg key others | inr n ↦ tuples_at f h agg key others ] | inr n ↦ tuples_at f h agg key others ]))
        → ((Member agg key t) ∈ (Member agagg' key' t' ∷ others))
    go (inl e) (inl d) r (inl j) = inl (λ i. Member (sym e i) (sym d i) (j i))
    go (inl e) (inl d) r (inr j) = inr (r j)
    go (inl e) (inr n) r j = inr (r j)
    go (inr n) q r j = inr (r j)
tuple_in f h agg key t (User u ∷ others) i = inr (tuple_in f h agg key t others i)
tuple_in f h agg key t (_ ∷ others) i = inr (tuple_in f h agg key t others i)

in_tuples : (f : Decides ℕ) (h : Decides (List Value)) (agg : ℕ) (key t : List Value) (others : List GroundAtom) → ((Member agg key t) ∈ others) → (t ∈ (tuples_at f h agg key others))
unfolding tuples_at
in_tuples f h agg key t [] i = i
in_tuples f h agg key t (Member agagg' key' t' ∷ others) i = go (f agagg' agg) (h key' key) (λ j. in_tuples f h agg key t others j) i
  where
    go : (p : (agagg' ≡ agg) ⊎ (agagg' ≡ agg → ⊥)) (q : (key' ≡ key) ⊎ (key' ≡ key → ⊥)) → (((Member agg key t) ∈ others) → (t ∈ (tuples_at f h agg key others)))
        → ((Member agg key t) ∈ (Member agagg' key' t' ∷ others))
        → (t ∈ (elim p [ inl e ↦ elim q [ inl d ↦ t' ∷ tuples_at f h agg key others | inr n ↦ tuples_at f h agg key others ] | inr n ↦ tuples_at f h agg key others ]))
    go (inl e) (inl d) r (inl j) = inl cc
    go (inl e) (inl d) r (inr j) = inr (r j)
    go (inl e) (inr n) r (inl j) = absurd (n (let k : key ≡ key' = cc in sym k))
    go (inl e) (inr n) r (inr j) = r j
    go (inr n) q r (inl j) = absurd (n (let k : agg ≡ agagg' = cc in sym k))
    go (inr n) q r (inr j) = r j
in_tuples f h agg key t (User u ∷ others) (inl e) = cc
in_tuples f h agg key t (User u ∷ others) (inr i) = in_tuples f h agg key t others i
in_tuples f h agg key t (_ ∷ others) (inl e) = cc
in_tuples f h agg key t (_ ∷ others) (inr i) = in_tuples f h agg key t others i

tuples_once : (f : Decides ℕ) (h : Decides (List Value)) (agg : ℕ) (key : List Value) (others : List GroundAtom) → HasNoRepeats others → HasNoRepeats (tuples_at f h agg key others)
unfolding tuples_at
tuples_once f h agg key [] s = tt
tuples_once f h agg key (Member agagg' key' t' ∷ others) s = go (f agagg' agg) (h key' key) (tuples_once f h agg key others s.1)
  where
    go : (p : (agagg' ≡ agg) ⊎ (agagg' ≡ agg → ⊥)) (q : (key' ≡ key) ⊎ (key' ≡ key → ⊥)) → HasNoRepeats (tuples_at f h agg key others)
        → HasNoRepeats (elim p [ inl e ↦ elim q [ inl d ↦ t' ∷ tuples_at f h agg key others | inr n ↦ tuples_at f h agg key others ] | inr n ↦ tuples_at f h agg key others ])
    go (inl e) (inl d) r = ((λ j. s.0 (subst (λ (z : GroundAtom). (z ∈ others)) (λ i. Member (sym e i) (sym d i) t') (tuple_in f h agg key t' others j))), r)
    go (inl e) (inr n) r = r
    go (inr n) q r = r
tuples_once f h agg key (User u ∷ others) s = tuples_once f h agg key others s.1
tuples_once f h agg key (_ ∷ others) s = tuples_once f h agg key others s.1

founded_set : {A K : Type 0} (core : K → Option (Instance A)) (c : A → Bool) (order : List A) → IsFounded core c order → HasNoRepeats order
founded_set core c [] f = tt
founded_set core c (a ∷ order) f = (f.1, founded_set core c order f.3)

founded_true : {A K : Type 0} (core : K → Option (Instance A)) (c : A → Bool) (order : List A) → IsFounded core c order → (a : A) → (a ∈ order) → c a ≡ true
founded_true core c [] f a i = absurd i
founded_true core c (b ∷ order) f a (inl e) = ap c e ∙ f.2
founded_true core c (b ∷ order) f a (inr i) = founded_true core c order f.3 a i

-- the atoms of the program in the list
users_of : List GroundAtom → List Atom
users_of [] = []
users_of (User u ∷ others) = u ∷ users_of others
users_of (_ ∷ others) = users_of others

in_users_of : (u : Atom) (others : List GroundAtom) → ((User u) ∈ others) → (u ∈ (users_of others))
unfolding users_of
in_users_of u [] i = i
in_users_of u (User v ∷ others) (inl e) = inl (let k : u ≡ v = cc in k)
in_users_of u (User v ∷ others) (inr i) = inr (in_users_of u others i)
in_users_of u (Domain agg key ∷ others) (inl e) = cc
in_users_of u (Domain agg key ∷ others) (inr i) = in_users_of u others i
in_users_of u (_ ∷ others) (inl e) = cc
in_users_of u (_ ∷ others) (inr i) = in_users_of u others i

module _ {R D E : Type 0} (aggs : List CoreAggregate) (P : GroundProgram R D E) (has : HasDomains P)
    (N : Numbering) (c : GroundAtom → Bool) (set : IsAnswerSetOf aggs (core_rules P) N c) where
  -- the atoms of the program in the set
  abbrev pub user_part : Atom → Bool
  user_part u = c (User u)

  -- a list of the set
  abbrev Order : List GroundAtom
  Order = set.answers.order

  -- the tuples of the members in the set
  abbrev tuples : ℕ → List Value → List (List Value)
  tuples agg key = tuples_at decide_nat (decide_list decide_value) agg key Order

  member_true : (agg : ℕ) (key t : List Value) → (t ∈ (tuples agg key)) → c (Member agg key t) ≡ true
  member_true agg key t i = founded_true (instance_of aggs (core_rules P) N) c Order set.answers.founded (Member agg key t) (tuple_in decide_nat (decide_list decide_value) agg key t Order i)

  true_member : (agg : ℕ) (key t : List Value) → c (Member agg key t) ≡ true → (t ∈ (tuples agg key))
  true_member agg key t h = in_tuples decide_nat (decide_list decide_value) agg key t Order (set.answers.all_there (Member agg key t) h)

  -- a member comes through an element
  gives : (agg : ℕ) (key t : List Value) → c (Member agg key t) ≡ true → GivesTuple P user_part agg key t
  gives agg key t h = go (derivable set.answers (Member agg key t) h)
    where
      head_of : (k : Kind Atom) → IsHead (user_kind k) (Member agg key t) → ⊥
      head_of (Plain x) e = cc
      head_of (Choice x) e = cc
      head_of Constraint e = e

      from_rule : (i : Instance GroundAtom) → RuleIs P i → IsHead i.kind (Member agg key t) → BodyParts c i → GivesTuple P user_part agg key t
      from_rule i (of_rule r x e) hd b = absurd (head_of x.kind hd)
      from_rule i (of_domain d x e) hd b = cc
      from_rule i (of_element m x e) hd b = record {
        maker = m;
        element = x;
        is = e;
        of_agg = let k : x.agg ≡ agg = cc in k;
        of_key = let k : x.key ≡ key = cc in k;
        gives = let k : x.tuple ≡ t = cc in k;
        meets = record { pos = λ u j. b.pos (User u) (inr (in_users x.pos u j)); neg = λ u j. b.neg (User u) (in_users x.neg u j) };
      }

      go : Derivable (instance_of aggs (core_rules P) N) c (Member agg key t) → GivesTuple P user_part agg key t
      go (by l u d) = from l.maker l.is
        where
          from : (m : MakerOf (CoreMaker R D E)) → instance_of aggs (core_rules P) N m ≡ Some l.inst → GivesTuple P user_part agg key t
          from (ByRule m) e = from_rule l.inst (rule_is P m l.inst e) l.head l.body
          from (ByStep s) e = absurd (step_not_base aggs N l.inst (step_is aggs N s l.inst e) (Member agg key t) l.head tt)

  extent : (agg : ℕ) (key : List Value) → c (Domain agg key) ≡ true → IsExtentOf P user_part agg key (tuples agg key)
  extent agg key dom = record {
    once = tuples_once decide_nat (decide_list decide_value) agg key Order (founded_set (instance_of aggs (core_rules P) N) c Order set.answers.founded);
    sound = λ t i. gives agg key t (member_true agg key t i);
    complete = λ t v. true_member agg key t (fires t v);
  }
    where
      fires : (t : List Value) → GivesTuple P user_part agg key t → c (Member agg key t) ≡ true
      fires t v =
          let is : instance_of aggs (core_rules P) N (ByRule (FromElement v.maker)) ≡ Some (inst (Member v.element.agg v.element.key v.element.tuple) (Domain v.element.agg v.element.key ∷ user_atoms v.element.pos) (user_atoms v.element.neg))
          = ap (λ o. core_element o) v.is in
          let there : c (Member v.element.agg v.element.key v.element.tuple) ≡ true = closed_at set.answers (ByRule (FromElement v.maker)) _ is (record {
            pos = λ p j. elim j [
              | inl e ↦ (ap c e ∙ (λ i. c (Domain (v.of_agg i) (v.of_key i))) ∙ dom)
              | inr k ↦ (let r = users_in v.element.pos p k in ap c r.2 ∙ v.meets.pos r.0 r.1)
            ];
            neg = λ n j. let r = users_in v.element.neg n j in ap c r.2 ∙ v.meets.neg r.0 r.1;
          }) in
          (λ i. c (Member (sym v.of_agg i) (sym v.of_key i) (sym v.gives i))) ∙ there

  side_same : (agg : ℕ) (side : Bool) (key : List Value) → side_sum aggs N c agg key side ≡ sum_sizes (adds aggs agg side) (tuples agg key)
  side_same agg side key =
      let below = sums_below (decide_list decide_value) (λ t. c (Member agg key t)) (adds aggs agg side) (tuples agg key) (N agg side key)
      (tuples_once decide_nat (decide_list decide_value) agg key Order (founded_set (instance_of aggs (core_rules P) N) c Order set.answers.founded))
      (λ t i h. (set.numbers agg side key t (member_true agg key t i) h, member_true agg key t i)) in
      let above = sums_above (decide_list decide_value) (λ t. c (Member agg key t)) (adds aggs agg side) (tuples agg key) (N agg side key) (set.numbering.once agg side key) (λ t i h. true_member agg key t h) in
      omega (arith, below, above)

  total_same : (agg : ℕ) (key : List Value) → total_in aggs N c agg key ≡ total_of_tuples aggs agg (tuples agg key)
  total_same agg key = equal_ints _ _ _ _ (side_same agg true key) (side_same agg false key)

  has_total : (n : NeededTotal) → c (Total n.agg n.key n.value) ≡ true → HasTotal aggs P user_part n
  has_total n h =
      let r = total_only aggs (core_rules P) (are_rules P) N c set.answers n.agg n.key n.value h in
      (tuples n.agg n.key, extent n.agg n.key r.0, r.1 ∙ total_same n.agg n.key)

  total_true : (n : NeededTotal) → c (Domain n.agg n.key) ≡ true → HasTotal aggs P user_part n → c (Total n.agg n.key n.value) ≡ true
  total_true n dom h =
      let mine = extent n.agg n.key dom in
      let there = total_there aggs (core_rules P) (are_rules P) N c set.answers n.agg n.key dom in
      let same : (side : Bool) → sum_sizes (adds aggs n.agg side) h.0 ≡ sum_sizes (adds aggs n.agg side) (tuples n.agg n.key)
      = λ side. sums_same (decide_list decide_value) (adds aggs n.agg side) h.0 (tuples n.agg n.key) h.1.once mine.once (λ t i. mine.complete t (h.1.sound t i)) (λ t i. h.1.complete t (mine.sound t i)) in
      let value : n.value ≡ total_in aggs N c n.agg n.key = h.2 ∙ equal_ints _ _ _ _ (same true) (same false) ∙ sym (total_same n.agg n.key) in
      ap (λ v. c (Total n.agg n.key v)) value ∙ there

  -- the totals of a rule are in the set, where they are right
  come : (atoms : List Atom) → ((u : Atom) → (u ∈ atoms) → c (User u) ≡ true) → (earlier ns : List NeededTotal) → AllCome P atoms earlier ns
      → ((m : NeededTotal) → (m ∈ earlier) → c (Total m.agg m.key m.value) ≡ true) → ((m : NeededTotal) → (m ∈ ns) → HasTotal aggs P user_part m)
      → (m : NeededTotal) → (m ∈ ns) → c (Total m.agg m.key m.value) ≡ true
  come atoms there earlier [] all before right m i = absurd i
  come atoms there earlier (n ∷ ns) all before right m i =
      let v = all.0 in
      let is : instance_of aggs (core_rules P) N (ByRule (FromDomain v.maker)) ≡ Some (inst (Domain v.domain.agg v.domain.key) (user_atoms v.domain.pos ++ total_atoms v.domain.totals) [])
      = ap (λ o. core_domain o) v.is in
      let dom : c (Domain v.domain.agg v.domain.key) ≡ true = closed_at set.answers (ByRule (FromDomain v.maker)) _ is (record {
        pos = λ p j. elim (∈-append_cases p (user_atoms v.domain.pos) (total_atoms v.domain.totals) j) [
          | inl k ↦ (let r = users_in v.domain.pos p k in ap c r.2 ∙ there r.0 (v.pos r.0 r.1))
          | inr k ↦ (let r = totals_in v.domain.totals p k in ap c r.2 ∙ before r.0 (v.totals r.0 r.1))
        ];
        neg = λ x j. absurd j;
      }) in
      let here : c (Domain n.agg n.key) ≡ true = (λ i. c (Domain (sym v.of_agg i) (sym v.of_key i))) ∙ dom in
      let first = total_true n here (right n (inl refl)) in
      elim i [
        | inl e ↦ (ap (λ (x : NeededTotal). c (Total x.agg x.key x.value)) e ∙ first)
        | inr j ↦ come atoms there (n ∷ earlier) ns all.1 (λ x k. elim k [ inl e ↦ (ap (λ (y : NeededTotal). c (Total y.agg y.key y.value)) e ∙ first) | inr q ↦ before x q ]) (λ x k. right x (inr k)) m j
      ]

  kind_back : (k : Kind Atom) → KindHolds c (user_kind k) → KindHolds user_part k
  kind_back (Plain h) t = t
  kind_back (Choice h) t = tt
  kind_back Constraint t = t

  totals_closed : (m : RuleWithTotals aggs P user_part) (i : Instance Atom) → rule_with_totals aggs P user_part m ≡ Some i → body_holds user_part i ≡ true → KindHolds user_part i.kind
  totals_closed m i e b =
      let same = same_Some _ _ e in
      subst (λ (j : Instance Atom). KindHolds user_part j.kind) same (go (subst (λ (j : Instance Atom). BodyParts user_part j) (sym same) (body_parts user_part i b)))
    where
      go : BodyParts user_part (record { kind = m.rule.kind; pos = m.rule.pos; neg = m.rule.neg }) → KindHolds user_part m.rule.kind
      go b =
          let is : instance_of aggs (core_rules P) N (ByRule (FromRule m.maker)) ≡ Some (record { kind = user_kind m.rule.kind; pos = user_atoms m.rule.pos ++ total_atoms m.rule.totals; neg = user_atoms m.rule.neg }) = ap (λ o. core_rule o) m.is in
          let right = come m.rule.pos b.pos [] m.rule.totals (has m.maker m.rule m.is) (λ x j. absurd j) m.totals in
          kind_back m.rule.kind (closed_at set.answers (ByRule (FromRule m.maker)) _ is (record {
            pos = λ p j. elim (∈-append_cases p (user_atoms m.rule.pos) (total_atoms m.rule.totals) j) [
              | inl k ↦ (let r = users_in m.rule.pos p k in ap c r.2 ∙ b.pos r.0 r.1)
              | inr k ↦ (let r = totals_in m.rule.totals p k in ap c r.2 ∙ right r.0 r.1)
            ];
            neg = λ n j. let r = users_in m.rule.neg n j in ap c r.2 ∙ b.neg r.0 r.1;
          }))

  user_head_back : (k : Kind Atom) (u : Atom) → IsHead (user_kind k) (User u) → IsHead k u
  user_head_back (Plain h) u e = cc
  user_head_back (Choice h) u e = cc
  user_head_back Constraint u e = e

  -- an atom of the program is derivable with totals
  Given : GroundAtom → Type 0
  Given (User u) = Derivable (rule_with_totals aggs P user_part) user_part u
  Given _ = Unit {0}

  given_user : (u : Atom) → Given (User u) → Derivable (rule_with_totals aggs P user_part) user_part u
  unfolding Given
  given_user u h = h

  given : (a : GroundAtom) → Derivable (instance_of aggs (core_rules P) N) c a → Given a
  unfolding Given
  given (User u) (by l t d) = go l.maker l.is (λ p i. given p (d p i))
    where
      from_rule : (i : Instance GroundAtom) → RuleIs P i → IsHead i.kind (User u) → BodyParts c i → ((p : GroundAtom) → (p ∈ i.pos) → Given p) → Derivable (rule_with_totals aggs P user_part) user_part u
      from_rule i (of_domain m x e) hd b below = cc
      from_rule i (of_element m x e) hd b below = cc
      from_rule i (of_rule r x e) hd b below = by (record {
        maker = record { maker = r; rule = x; is = e; totals = λ n j. has_total n (b.pos _ (∈-append_right _ (user_atoms x.pos) (total_atoms x.totals) (in_totals x.totals n j))) };
        inst = record { kind = x.kind; pos = x.pos; neg = x.neg };
        is = refl;
        head = user_head_back x.kind u hd;
        body = record {
          pos = λ v j. b.pos _ (∈-append_left _ (user_atoms x.pos) (total_atoms x.totals) (in_users x.pos v j));
          neg = λ v j. b.neg _ (in_users x.neg v j);
        };
      }) t (λ v j. below (User v) (∈-append_left _ (user_atoms x.pos) (total_atoms x.totals) (in_users x.pos v j)))

      go : (m : MakerOf (CoreMaker R D E)) → instance_of aggs (core_rules P) N m ≡ Some l.inst → ((p : GroundAtom) → (p ∈ l.inst.pos) → Given p) → Derivable (rule_with_totals aggs P user_part) user_part u
      go (ByRule m) e below = from_rule l.inst (rule_is P m l.inst e) l.head l.body below
      go (ByStep s) e below = absurd (step_not_base aggs N l.inst (step_is aggs N s l.inst e) (User u) l.head tt)
  given (Domain agg key) h = tt
  given (Member agg key t) h = tt
  given (Total agg key v) h = tt
  given (Grid agg side key k sum) h = tt
  given (Reach agg side key sum) h = tt
  given (Above agg side key sum) h = tt

  pub to_answer_set : IsAnswerSetWithTotals aggs P user_part
  to_answer_set =
      let f = founded_by (rule_with_totals aggs P user_part) user_part same_atom (users_of Order) (λ u t. in_users_of u Order (set.answers.all_there (User u) t))
      (λ u t. given_user u (given (User u) (derivable set.answers (User u) t))) in
      record { closed = totals_closed; order = f.0; all_there = f.1; founded = f.2 }

pub core_sets_become_answer_sets : {R D E : Type 0} → CoreSetsBecomeAnswerSets R D E
core_sets_become_answer_sets aggs P has N c set = to_answer_set aggs P has N c set
