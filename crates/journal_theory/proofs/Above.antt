-- Above a closed entry nothing is due that was so below it: no atom becomes true after the first Closed, and so each closed atom stands apart from the
-- nogoods of instances that are made later.
use Rattle.std.proofs.Common.{◌≡◌, ℕ, ◌⊎◌, Bool, true, false, List, [], ◌∷◌, ◌++◌, length, refl, sym, ◌∙◌, ap, subst, inl, inr}
use Rattle.std.specs.Prelude.{Option, Some, None, slice_get}
use Rattle.lists.specs.Lists.{◌∈◌}
use Rattle.lists.proofs.ListLemmas.{∈-append_left, ∈-append_right, ∈-append_cases}
use Rattle.search_values.specs.declared.entry.Why.TheVariants.{Given, Closed}
use Rattle.search_values.specs.declared.entry.Entry.{Entry}
use Rattle.search_values.specs.Values.{Value, True, MustBe, False, Lit, is_up, lit, value_of, entry_on, Holds, full_value, HoldsFully}
use Rattle.search_values.specs.Nogoods.{Nogood, Rises, Gives}
use Rattle.search_values.specs.Instances.{Kind, Plain, Choice, Constraint, Instance, IsHead, Rules}
use Rattle.search_values.specs.Tables.{Made, BodyFits, lits_of, once, set_of, each_with, with_body, table_of, nogoods_of}
use Rattle.search_values.specs.Ids.{AtomNode, Named, BodyOf, Names, KindNames}
use Rattle.journal_theory.specs.States.{State, IsName, IsPending, IsUp, IsMade, IsSettled}
use Rattle.search_values.proofs.Basics.{in_single, get_in, get_none, value_cases}
use Rattle.journal_theory.proofs.Meaning.{OfAtom, OfBody, Known, Grows}
use Rattle.search_values.proofs.Tables.{set_of-is, set_of-all, lits_of-in, in_lits_of, head_rises}
use Rattle.journal_theory.proofs.Stack.{value_known}
use Rattle.journal_theory.proofs.Central.{GoodMade, Valid, names_in}
use Rattle.journal_theory.proofs.Support.{Founds, rises_support, none_head, each_head, head_same, up_differs}
use Rattle.journal_theory.specs.Covers.{IsWanted, for_stuck, for_closed, for_unassigned, CanBeRuledOut}
use Rattle.journal_theory.specs.Events.{Event, NameTerm, NameAtom, NameBody, Number, Make, Put, Choose, Close, Strike, Keep, Learn, Justify, CallWide, Back, Show, Pass, explain_first, happens, BodyIsNext, Allowed}
use Rattle.journal_theory.specs.Journals.{replay, Legal}
use Rattle.journal_theory.specs.Laws.{JustifiedIsNew}
use Rattle.journal_theory.proofs.Explaining.{value_explain, value_first, holds_more}
use Rattle.journal_theory.proofs.Covers.{stuck_is_new}
use Rattle.journal_theory.proofs.Keep.{IsSafe, name_grows}
use Rattle.journal_theory.proofs.Events.{legal_safe, make_grows}
use Rattle.journal_theory.proofs.Growing.{grows_trans}
use Rattle.journal_theory.proofs.Support.{legal_founds}
use Rattle.journal_theory.proofs.Since.{IsClean, legal_clean}
use Rattle.journal_theory.proofs.Fresh.{legal_newly}
use Rattle.journal_theory.proofs.Closed.{ruled_out_is_new, IsTight, EachClosed, Below, clash, each_map, closed_explain, closed_back, none_closed, ClosedApart, apart_keep, closed_is_new}

-- ---- which atom a nogood of an instance has as its head

-- the nogood of the body has all its atoms
record BodyFacts (i : Instance ℕ) (ng : Nogood) : Type 0 where
  pos : (p : ℕ) → p ∈ i.pos → lit p true ∈ ng.lits
  neg : (n : ℕ) → n ∈ i.neg → lit n false ∈ ng.lits

with_body_facts : (b : ℕ) (head : List Lit) (i : Instance ℕ) (h : ℕ) (ng : Nogood) → ng ∈ with_body b head i h → (a : ℕ) → ng.head ≡ Some a → ((b ≡ a) × BodyFacts i ng) ⊎ (h ≡ a)
with_body_facts b head i h ng j a e = elim (∈-append_cases ng (first ++ each_with b false i.pos ++ each_with b true i.neg) last j) [
  | inl m ↦ elim (∈-append_cases ng (first ++ each_with b false i.pos) (each_with b true i.neg) m) [
    | inl n ↦ elim (∈-append_cases ng first (each_with b false i.pos) n) [
      | inl o ↦ inl (
        head_same b a (once first_lits) ng (set_of-is (Some b) first_lits ng o) e,
        record {
          pos = λ p q. set_of-all (Some b) first_lits ng o (lit p true) (inr (∈-append_left (lit p true) (head ++ lits_of true i.pos) (lits_of false i.neg) (∈-append_right (lit p true) head (lits_of true i.pos) (lits_of-in true i.pos p q))));
          neg = λ p q. set_of-all (Some b) first_lits ng o (lit p false) (inr (∈-append_right (lit p false) (head ++ lits_of true i.pos) (lits_of false i.neg) (lits_of-in false i.neg p q)));
        },
      )
      | inr o ↦ absurd (each_head b false i.pos ng o a e)
    ]
    | inr n ↦ absurd (each_head b true i.neg ng n a e)
  ]
  | inr m ↦ inr (head_same h a (once (lit h false ∷ lit b true ∷ [])) ng (set_of-is (Some h) (lit h false ∷ lit b true ∷ []) ng m) e)
]
  where
    first_lits : List Lit
    first_lits = lit b false ∷ head ++ lits_of true i.pos ++ lits_of false i.neg

    first : List Nogood
    first = set_of (Some b) (lit b false ∷ head ++ lits_of true i.pos ++ lits_of false i.neg)

    last : List Nogood
    last = set_of (Some h) (lit h false ∷ lit b true ∷ [])

table_facts : (kind : Kind ℕ) (body : Option ℕ) (i : Instance ℕ) (ng : Nogood) → ng ∈ table_of kind body i → (a : ℕ) → ng.head ≡ Some a → ((body ≡ Some a) × BodyFacts i ng) ⊎ IsHead kind a
table_facts (Plain h) None i ng j a e = inr (head_same h a (once (lit h false ∷ lits_of true i.pos)) ng (set_of-is (Some h) (lit h false ∷ lits_of true i.pos) ng j) e)
table_facts (Plain h) (Some b) i ng j a e = elim (with_body_facts b [] i h ng j a e) [ inl w ↦ inl (ap (λ z. Some z) w.0, w.1) | inr w ↦ inr w ]
table_facts (Choice h) None i ng j a e = absurd j
table_facts (Choice h) (Some b) i ng j a e = elim (with_body_facts b (lit h true ∷ []) i h ng j a e) [ inl w ↦ inl (ap (λ z. Some z) w.0, w.1) | inr w ↦ inr w ]
table_facts Constraint body i ng j a e = absurd (none_head a (sym (ap (λ (z : Nogood). z.head) (set_of-is None (lits_of true i.pos ++ lits_of false i.neg) ng j)) ∙ e))

-- each nogood with a body has a literal of the body
pub with_body_has : (b : ℕ) (head : List Lit) (i : Instance ℕ) (h : ℕ) (ng : Nogood) → ng ∈ with_body b head i h → (l : Lit) × (l ∈ ng.lits) × (l.atom ≡ b)
with_body_has b head i h ng j = elim (∈-append_cases ng (first ++ each_with b false i.pos ++ each_with b true i.neg) (set_of (Some h) (lit h false ∷ lit b true ∷ [])) j) [
  | inl m ↦ elim (∈-append_cases ng (first ++ each_with b false i.pos) (each_with b true i.neg) m) [
    | inl n ↦ elim (∈-append_cases ng first (each_with b false i.pos) n) [
      | inl o ↦ (lit b false, set_of-all (Some b) (lit b false ∷ head ++ lits_of true i.pos ++ lits_of false i.neg) ng o (lit b false) (inl refl), refl)
      | inr o ↦ (lit b true, each_has false i.pos o, refl)
    ]
    | inr n ↦ (lit b true, each_has true i.neg n, refl)
  ]
  | inr m ↦ (lit b true, set_of-all (Some h) (lit h false ∷ lit b true ∷ []) ng m (lit b true) (inr (inl refl)), refl)
]
  where
    first : List Nogood
    first = set_of (Some b) (lit b false ∷ head ++ lits_of true i.pos ++ lits_of false i.neg)

    each_has : (up : Bool) (ids : List ℕ) → ng ∈ each_with b up ids → lit b true ∈ ng.lits
    each_has up [] k = absurd k
    each_has up (x ∷ ids) k = elim (∈-append_cases ng (set_of None (lit b true ∷ lit x up ∷ [])) (each_with b up ids) k) [
      | inl o ↦ set_of-all None (lit b true ∷ lit x up ∷ []) ng o (lit b true) (inl refl)
      | inr o ↦ each_has up ids o
    ]

-- ---- since a settled state

-- the positive atoms of the instance are all true there
abbrev pub AllTrue : {N A K : Type 0} → State N A K → Made K → Type 0
AllTrue s k = (p : ℕ) → p ∈ k.inst.pos → value_of s.stack p ≡ Some True

-- the first state was settled, and no atom has become true since
pub record IsSince {N A K : Type 0} (core : Rules N A K) (s0 s : State N A K) : Type 0 where
  pub settled : IsSettled core s0
  pub valid : Valid core s0
  pub numbers : s0.numbers ≡ s.numbers
  pub grows : Grows s0 s
  pub more : (k : Made K) → k ∈ s0.made → k ∈ s.made
  pub holds : (l : Lit) → Holds s0.stack l → Holds s.stack l
  pub trues : (x : ℕ) → value_of s.stack x ≡ Some True → value_of s0.stack x ≡ Some True
  pub made : (k : Made K) → k ∈ s.made → (k ∈ s0.made) ⊎ (¬ AllTrue s0 k)

module _ {N A K : Type 0} (core : Rules N A K) (s0 s : State N A K) (since : IsSince core s0 s) where
  -- where its positive atoms were true, the instance was made then
  made_then : (k : Made K) → k ∈ s.made → AllTrue s0 k → k ∈ s0.made
  made_then k i all = elim (since.made k i) [ inl j ↦ j | inr none ↦ absurd (none all) ]

  not_false_then : (a : ℕ) → (value_of s.stack a ≡ None) ⊎ (value_of s.stack a ≡ Some MustBe) → ¬ (value_of s0.stack a ≡ Some False)
  not_false_then a w e =
      let h = since.holds (lit a false) (False, e, refl) in
      elim w [
        | inl n ↦ (let q = h.1 in cc)
        | inr m ↦ (let q : Some h.0 ≡ Some MustBe = sym h.1 ∙ m in let v : h.0 ≡ MustBe = cc in let u : true ≡ false = sym (ap is_up v) ∙ h.2 in cc)
      ]

  -- a head whose instance's positive atoms, and body, were true was true
  head_then : (k : Made K) → k ∈ s0.made → (kind : Kind ℕ) (body : Option ℕ) (neg : List ℕ) → BodyFits kind neg body
      → ((ng : Nogood) → ng ∈ table_of kind body k.inst → ng ∈ s0.nogoods) → AllTrue s0 k → ((b : ℕ) → body ≡ Some b → value_of s0.stack b ≡ Some True)
      → (a : ℕ) → IsHead kind a → ¬ (value_of s0.stack a ≡ Some False) → value_of s0.stack a ≡ Some True
  head_then k i (Plain g) None neg fits stored all body a same low =
      subst (λ z. value_of s0.stack z ≡ Some True) same
      (head_rises s0.stack s0.nogoods since.settled.none_unit g (lits_of true k.inst.pos) stored
      (λ l j. let r = in_lits_of true k.inst.pos l j in all l.atom r.0 ∙ ap (λ (u : Bool). Some (full_value u)) (sym r.1))
      (λ w. low (subst (λ z. value_of s0.stack z ≡ Some False) same w)))
  head_then k i (Plain g) (Some b) neg fits stored all body a same low =
      subst (λ z. value_of s0.stack z ≡ Some True) same (by_body k [] g b stored (body b refl) (λ w. low (subst (λ z. value_of s0.stack z ≡ Some False) same w)))
    where
      by_body : (k : Made K) (head : List Lit) (g b : ℕ) → ((ng : Nogood) → ng ∈ with_body b head k.inst g → ng ∈ s0.nogoods) → value_of s0.stack b ≡ Some True → ¬ (value_of s0.stack g ≡ Some False) → value_of s0.stack g ≡ Some True
      by_body k head g b stored t low = head_rises s0.stack s0.nogoods since.settled.none_unit g (lit b true ∷ [])
          (λ ng m. stored ng (∈-append_right ng (set_of (Some b) (lit b false ∷ head ++ lits_of true k.inst.pos ++ lits_of false k.inst.neg) ++ each_with b false k.inst.pos ++ each_with b true k.inst.neg) (set_of (Some g) (lit g false ∷ lit b true ∷ [])) m))
          (λ l m. elim m [ inl f ↦ subst (λ (z : Lit). HoldsFully s0.stack z) (sym f) t | inr f ↦ absurd f ]) low
  head_then k i (Choice g) None neg fits stored all body a same low = let w : None ≡ Some fits.0 = fits.1 in cc
  head_then k i (Choice g) (Some b) neg fits stored all body a same low =
      subst (λ z. value_of s0.stack z ≡ Some True) same (by_body k (lit g true ∷ []) g b stored (body b refl) (λ w. low (subst (λ z. value_of s0.stack z ≡ Some False) same w)))
    where
      by_body : (k : Made K) (head : List Lit) (g b : ℕ) → ((ng : Nogood) → ng ∈ with_body b head k.inst g → ng ∈ s0.nogoods) → value_of s0.stack b ≡ Some True → ¬ (value_of s0.stack g ≡ Some False) → value_of s0.stack g ≡ Some True
      by_body k head g b stored t low = head_rises s0.stack s0.nogoods since.settled.none_unit g (lit b true ∷ [])
          (λ ng m. stored ng (∈-append_right ng (set_of (Some b) (lit b false ∷ head ++ lits_of true k.inst.pos ++ lits_of false k.inst.neg) ++ each_with b false k.inst.pos ++ each_with b true k.inst.neg) (set_of (Some g) (lit g false ∷ lit b true ∷ [])) m))
          (λ l m. elim m [ inl f ↦ subst (λ (z : Lit). HoldsFully s0.stack z) (sym f) t | inr f ↦ absurd f ]) low
  head_then k i Constraint body neg fits stored all b a same low = absurd same

  -- an atom that becomes true was true then
  rises_then : Valid core s → Founds s → (ng : Nogood) → ng ∈ s.nogoods → (a : ℕ) → Rises s.stack ng a → value_of s0.stack a ≡ Some True
  rises_then valid founds ng i a r =
      let h = founds.heads ng i a r.heads in
      elim (table_facts h.0.inst.kind h.0.body h.0.inst ng h.2 a r.heads) [
        | inl w ↦ by_body h.0 h.1 w.0 w.1 (value_of s0.stack a) refl
        | inr w ↦ by_head h.0 h.1 w (rises_support core s valid founds ng i a r)
      ]
    where
      low : ¬ (value_of s0.stack a ≡ Some False)
      low = not_false_then a r.not_yet

      by_body : (k : Made K) → k ∈ s.made → k.body ≡ Some a → BodyFacts k.inst ng → (v : Option Value) → value_of s0.stack a ≡ v → value_of s0.stack a ≡ Some True
      by_body k j has facts v e =
          let all : AllTrue s0 k = (λ p m. since.trues p (elim (r.others (lit p true) (facts.pos p m)) [ inl q ↦ absurd (up_differs p a q) | inr t ↦ t ])) in
          let j0 : k ∈ s0.made = made_then k j all in
          let negs : (n : ℕ) → n ∈ k.inst.neg → IsUp s0 n → ⊥ = (λ n m up. elim (r.others (lit n false) (facts.neg n m)) [
            | inl q ↦ (let g = valid.made k j in let w = names_in s.names k.inst.neg g.inst.neg g.denotes.neg n m in let c = g.body a has in
                let same : n ≡ a = ap (λ (z : Lit). z.atom) q in let nm = subst (λ z. slice_get s.names z ≡ Some (Named w.0)) same w.2 in let bad = sym nm ∙ c.1 in cc)
            | inr f ↦ clash core s s.stack n (since.holds (lit n true) up) (False, f, refl)
          ]) in
          go v e j0 all negs
        where
          go : (v : Option Value) → value_of s0.stack a ≡ v → k ∈ s0.made → AllTrue s0 k → ((n : ℕ) → n ∈ k.inst.neg → IsUp s0 n → ⊥) → value_of s0.stack a ≡ Some True
          go (Some True) e j0 all negs = e
          go (Some False) e j0 all negs = absurd (low e)
          go None e j0 all negs = absurd (since.settled.none_active k j0 a (record { has_body = has; not_yet = inl e; pos_true = all; neg_not_up = negs }))
          go (Some MustBe) e j0 all negs = absurd (since.settled.none_active k j0 a (record { has_body = has; not_yet = inr e; pos_true = all; neg_not_up = negs }))

      kind_named : (kd : Kind ℕ) (ki : Kind A) → KindNames s.names kd ki → IsHead kd a → (b : A) × IsName s a b
      kind_named (Plain x) (Plain b) d e = (b, subst (λ z. slice_get s.names z ≡ Some (Named b)) e d)
      kind_named (Choice x) (Choice b) d e = (b, subst (λ z. slice_get s.names z ≡ Some (Named b)) e d)
      kind_named Constraint Constraint d e = absurd e
      kind_named (Plain x) (Choice b) d e = absurd d
      kind_named (Plain x) Constraint d e = absurd d
      kind_named (Choice x) (Plain b) d e = absurd d
      kind_named (Choice x) Constraint d e = absurd d
      kind_named Constraint (Plain b) d e = absurd d
      kind_named Constraint (Choice b) d e = absurd d

      by_head : (k : Made K) → k ∈ s.made → IsHead k.inst.kind a
          → ((m : Made K) × (m ∈ s.made) × ((p : ℕ) → p ∈ m.inst.pos → value_of s.stack p ≡ Some True) × ((m.body ≡ Some a) ⊎ (IsHead m.inst.kind a × ((b : ℕ) → m.body ≡ Some b → value_of s.stack b ≡ Some True))))
          → value_of s0.stack a ≡ Some True
      by_head k j hd sup = elim sup.3 [
        | inl has ↦ (let g = valid.made k j in let n = kind_named k.inst.kind g.inst.kind g.denotes.kind hd in let c = (valid.made sup.0 sup.1).body a has in let bad = sym n.1 ∙ c.1 in cc)
        | inr w ↦ (
            let m : Made K = sup.0 in
            let all : AllTrue s0 m = (λ p q. since.trues p (sup.2 p q)) in
            let j0 = made_then m sup.1 all in
            let g0 : GoodMade core s0 m = since.valid.made m j0 in
            head_then m j0 m.inst.kind m.body m.inst.neg g0.fits g0.stored all (λ b q. since.trues b (w.1 b q)) a w.0 low)
      ]

-- the ids that name the positive atoms of an instance
pub names_back : {A : Type 0} (names : List (AtomNode A)) (xs : List ℕ) (atoms : List A) → Names names xs atoms → (a : A) → a ∈ atoms → (x : ℕ) × (x ∈ xs) × (slice_get names x ≡ Some (Named a))
names_back names [] [] h a i = absurd i
names_back names [] (b ∷ atoms) h a i = absurd h
names_back names (y ∷ xs) [] h a i = absurd h
names_back names (y ∷ xs) (b ∷ atoms) h a (inl e) = (y, inl refl, subst (λ z. slice_get names y ≡ Some (Named z)) (sym e) h.0)
names_back names (y ∷ xs) (b ∷ atoms) h a (inr i) = let r = names_back names xs atoms h.1 a i in (r.0, inr r.1, r.2)

-- an id that meant something and is a name later was that name
name_before : {N A K : Type 0} (s0 s : State N A K) → Grows s0 s → (x : ℕ) → Known s0 x → (a : A) → IsName s x a → IsName s0 x a
name_before s0 s g x (OfAtom b, h) a n = let e : Some (Named b) ≡ Some (Named a) = sym (g.names x (Named b) h) ∙ n in let f : b ≡ a = cc in subst (λ z. IsName s0 x z) f h
name_before s0 s g x (OfBody i, h) a n = let e : Some (BodyOf h.number) ≡ Some (Named a) = sym (g.names x (BodyOf h.number) h.node) ∙ n in cc

-- nothing is due where these atoms are up
abbrev pub NoneDueOn : {N A K : Type 0} → Rules N A K → State N A K → List Entry → Type 0
NoneDueOn {N} {A} {K} core s stack =
    (m : K) (i : Instance A) → core.instance_of s.numbers m ≡ Some i → ((a : A) → a ∈ i.pos → (x : ℕ) × IsName s x a × Holds stack (lit x true)) → IsMade core s m

module _ {N A K : Type 0} (core : Rules N A K) (s : State N A K) (valid : Valid core s) (founds : Founds s) (clean : IsClean s.names s.stack) where
  -- what was so since the settled state is so in a state that goes on
  carry : (s0 : State N A K) → IsSince core s0 s → (s' : State N A K) → s.numbers ≡ s'.numbers → Grows s s' → ((k : Made K) → k ∈ s.made → k ∈ s'.made)
      → ((l : Lit) → Holds s.stack l → Holds s'.stack l) → ((x : ℕ) → value_of s'.stack x ≡ Some True → value_of s0.stack x ≡ Some True)
      → ((k : Made K) → k ∈ s'.made → (k ∈ s.made) ⊎ (¬ AllTrue s0 k)) → IsSince core s0 s'
  carry s0 r s' numbers grows more holds trues made = record {
    settled = r.settled;
    valid = r.valid;
    numbers = r.numbers ∙ numbers;
    grows = grows_trans s0 s s' r.grows grows;
    more = λ k i. more k (r.more k i);
    holds = λ l h. holds l (r.holds l h);
    trues = trues;
    made = λ k i. elim (made k i) [ inl j ↦ r.made k j | inr none ↦ inr none ];
  }

  -- a settled state since itself
  since_here : IsSettled core s → IsSince core s s
  since_here settled = record {
    settled = settled;
    valid = valid;
    numbers = refl;
    grows = record { names = λ x n e. e; made = λ j k e. e };
    more = λ k i. i;
    holds = λ l h. h;
    trues = λ x h. h;
    made = λ k i. inl i;
  }

  abbrev pub Since : State N A K → Type 0
  Since s' = (s0 : State N A K) × IsSince core s0 s'

  same_names : Grows s s
  same_names = record { names = λ x n e. e; made = λ j k e. e }

  -- one more entry that doesn't make an atom true
  pushed_since : (s0 : State N A K) → IsSince core s0 s → (e : Entry) → (closing : Bool) → ((l : Lit) → Holds s.stack l → Holds (e ∷ s.stack) l) → (e.value ≡ True → value_of s0.stack e.atom ≡ Some True)
      → IsSince core s0 (record s { stack = e ∷ s.stack; closing = closing })
  pushed_since s0 r e closing holds true_then = carry s0 r (record s { stack = e ∷ s.stack; closing = closing }) refl (record { names = λ x n e. e; made = λ j k e. e }) (λ k i. i) holds
      (λ x t. elim (value_cases e s.stack x) [
        | inl c ↦ (let q : Some e.value ≡ Some True = sym c.1 ∙ t in let v : e.value ≡ True = cc in subst (λ z. value_of s0.stack z ≡ Some True) c.0 (true_then v))
        | inr c ↦ r.trues x (sym c.1 ∙ t)
      ])
      (λ k i. inl i)

  -- an instance that is made now wasn't due then
  not_due_then : (s0 : State N A K) → IsSince core s0 s → (listed : List (List A)) (k : Made K) → Allowed core listed s (Make k) → ¬ AllTrue s0 k
  not_due_then s0 r listed k ok all =
      let due = r.settled.none_due k.maker ok.2.0 (subst (λ z. core.instance_of z k.maker ≡ Some ok.2.0) (sym r.numbers) ok.2.1)
      (λ a i. let n = names_back s.names k.inst.pos ok.2.0.pos ok.2.2.pos a i in
      let t = all n.0 n.1 in
      (n.0, name_before s0 s r.grows n.0 (value_known core s0 s0.stack r.valid.good n.0 True t) a n.2, (True, t, refl))) in
      ok.1 (due.0, r.more due.0 due.1, due.2)

  put_true : (s0 : State N A K) → IsSince core s0 s → (ng : Nogood) → ng ∈ s.nogoods → (a : ℕ) (v : Value) → Gives s.stack ng a v → v ≡ True → value_of s0.stack a ≡ Some True
  put_true s0 r ng i a True h e = rises_then core s0 s r valid founds ng i a h
  put_true s0 r ng i a MustBe h e = cc
  put_true s0 r ng i a False h e = cc

  -- each event keeps it
  since_keep : (listed : List (List A)) (e : Event A K) → Allowed core listed s e → IsSafe core s → IsSafe core (happens core s e) → (s.closing ≡ true → Since s) → State.closing (happens core s e) ≡ true → Since (happens core s e)
  since_keep listed (NameTerm node) ok inv inv' h c = (let r = h c in (r.0, carry r.0 r.1 (happens core s (NameTerm node)) refl (record { names = λ x n e. e; made = λ j k e. e }) (λ k i. i) (λ l k. k) r.1.trues (λ k i. inl i)))
  since_keep listed (Strike n) ok inv inv' h c = (let r = h c in (r.0, carry r.0 r.1 (happens core s (Strike n)) refl (record { names = λ x n e. e; made = λ j k e. e }) (λ k i. i) (λ l k. k) r.1.trues (λ k i. inl i)))
  since_keep listed (Keep n) ok inv inv' h c = (let r = h c in (r.0, carry r.0 r.1 (happens core s (Keep n)) refl (record { names = λ x n e. e; made = λ j k e. e }) (λ k i. i) (λ l k. k) r.1.trues (λ k i. inl i)))
  since_keep listed (Learn how ls) ok inv inv' h c = (let r = h c in (r.0, carry r.0 r.1 (happens core s (Learn how ls)) refl (record { names = λ x n e. e; made = λ j k e. e }) (λ k i. i) (λ l k. k) r.1.trues (λ k i. inl i)))
  since_keep listed (CallWide x) ok inv inv' h c = (let r = h c in (r.0, carry r.0 r.1 (happens core s (CallWide x)) refl (record { names = λ x n e. e; made = λ j k e. e }) (λ k i. i) (λ l k. k) r.1.trues (λ k i. inl i)))
  since_keep listed (Show ids) ok inv inv' h c = (let r = h c in (r.0, carry r.0 r.1 (happens core s (Show ids)) refl (record { names = λ x n e. e; made = λ j k e. e }) (λ k i. i) (λ l k. k) r.1.trues (λ k i. inl i)))
  since_keep listed (Pass ids) ok inv inv' h c = (let r = h c in (r.0, carry r.0 r.1 (happens core s (Pass ids)) refl (record { names = λ x n e. e; made = λ j k e. e }) (λ k i. i) (λ l k. k) r.1.trues (λ k i. inl i)))
  since_keep listed (NameAtom a) ok inv inv' h c = (let r = h c in (r.0, carry r.0 r.1 (happens core s (NameAtom a)) refl (name_grows s (Named a)) (λ k i. i) (λ l k. k) r.1.trues (λ k i. inl i)))
  since_keep listed NameBody ok inv inv' h c = (let r = h c in (r.0, carry r.0 r.1 (happens core s NameBody) refl (name_grows s (BodyOf (length s.made))) (λ k i. i) (λ l k. k) r.1.trues (λ k i. inl i)))
  since_keep listed (Number x a number) ok inv inv' h c = absurd (ok.5 (inv.closing c))
  since_keep listed (Make k) ok inv inv' h c =
      (let r = h c in (
        r.0,
        carry r.0 r.1 (happens core s (Make k)) refl (make_grows core s k) (λ m i. ∈-append_left m s.made (k ∷ []) i) (λ l j. j) r.1.trues
            (λ m i. elim (∈-append_cases m s.made (k ∷ []) i) [
              | inl j ↦ inl j
              | inr j ↦ inr (subst (λ (z : Made K). ¬ AllTrue r.0 z) (sym (in_single j)) (not_due_then r.0 r.1 listed k ok))
            ]),
      ))
  since_keep listed (Put a v n) ok inv inv' h c =
      (let r = h c in (
        r.0,
        pushed_since r.0 r.1 (entry_on s.stack a v (Given n)) s.closing
            (λ l k. holds_more core (happens core s (Put a v n)) (entry_on s.stack a v (Given n)) s.stack inv'.valid.good.0 l k)
            (put_true r.0 r.1 ok.1.0 (get_in s.nogoods n ok.1.0 ok.1.1) a v ok.1.2),
      ))
  since_keep listed (Choose b up) ok inv inv' h c = cc
  since_keep listed (Close x) ok inv inv' h c =
      (let r : Since s = from s.closing refl in (
        r.0,
        pushed_since r.0 r.1 (entry_on s.stack x False (Closed None)) true
            (λ l k. holds_more core (happens core s (Close x)) (entry_on s.stack x False (Closed None)) s.stack inv'.valid.good.0 l k)
            (λ e. cc),
      ))
    where
      from : (b : Bool) → s.closing ≡ b → (s0 : State N A K) × IsSince core s0 s
      from true q = h q
      from false q = (s, since_here (ok.6 q))
  since_keep listed (Justify patterns ls) ok inv inv' h c =
      (let r = h c in (
        r.0,
        carry r.0 r.1 (happens core s (Justify patterns ls)) refl (record { names = λ x n e. e; made = λ j k e. e }) (λ k i. i)
            (λ l k. (k.0, value_first ls (length s.nogoods) s.stack l.atom ∙ k.1, k.2))
            (λ x t. r.1.trues x (sym (value_first ls (length s.nogoods) s.stack x) ∙ t)) (λ k i. inl i),
      ))
  since_keep listed (Back level) ok inv inv' h c = cc

  -- ---- nothing is due below a closed entry

  pub made_still : (s' : State N A K) → ((k : Made K) → k ∈ s.made → k ∈ s'.made) → (m : K) → IsMade core s m → IsMade core s' m
  made_still s' more m h = (h.0, more h.0 h.1, h.2)

  pub none_due_later : (s' : State N A K) → s.numbers ≡ s'.numbers → Grows s s' → ((k : Made K) → k ∈ s.made → k ∈ s'.made) → (a : ℕ) (rest : List Entry) → Below core s s.stack a rest
      → NoneDueOn core s rest → NoneDueOn core s' rest
  none_due_later s' numbers grows more a rest b due m i e up =
      made_still s' more m (due m i (subst (λ z. core.instance_of z m ≡ Some i) (sym numbers) e) (λ p j.
      let r = up p j in
      let h = b.up (lit r.0 true) r.2 in
      (r.0, name_before s s' grows r.0 (value_known core s s.stack valid.good r.0 h.0 h.1) p r.1, r.2)))

  -- where no named atom is must-be-true, and no atom has become true, nothing is due
  pub close_due : (listed : List (List A)) (x : ℕ) → Allowed core listed s (Close x) → (s.closing ≡ true → Since s) → NoneDueOn core s s.stack
  close_due listed x ok h = go s.closing refl
    where
      is_true : (v : Value) → is_up v ≡ true → ¬ (v ≡ MustBe) → v ≡ True
      is_true True u n = refl
      is_true MustBe u n = absurd (n refl)
      is_true False u n = cc

      go : (b : Bool) → s.closing ≡ b → NoneDueOn core s s.stack
      go false q m i e up = (ok.6 q).none_due m i e up
      go true q m i e up =
          let r = h q in
          let due = r.1.settled.none_due m i (subst (λ z. core.instance_of z m ≡ Some i) (sym r.1.numbers) e) (λ p j.
          let w = up p j in
          let v : w.2.0 ≡ True = is_true w.2.0 w.2.2 (λ mb. ok.5 w.0 p w.1 (w.2.1 ∙ ap (λ z. Some z) mb)) in
          let t = r.1.trues w.0 (w.2.1 ∙ ap (λ z. Some z) v) in
          (w.0, name_before r.0 s r.1.grows w.0 (value_known core r.0 (State.stack r.0) r.1.valid.good w.0 True t) p w.1, (True, t, refl))) in
          (due.0, r.1.more due.0 due.1, due.2)

  abbrev DueBelow : State N A K → Type 0
  DueBelow s' = EachClosed (λ a rest. NoneDueOn core s' rest) s'.stack

  same_due : (s' : State N A K) → s.numbers ≡ s'.numbers → Grows s s' → ((k : Made K) → k ∈ s.made → k ∈ s'.made) → DueBelow s → EachClosed (λ a rest. NoneDueOn core s' rest) s.stack
  same_due s' numbers grows more h = each_map core s (λ a rest. NoneDueOn core s rest) (λ a rest. NoneDueOn core s' rest) s.stack valid.good clean (λ a rest b p. none_due_later s' numbers grows more a rest b p) h

  explained_due : (s' : State N A K) (ls : List Lit) (n : ℕ) (stack : List Entry) → EachClosed (λ a rest. NoneDueOn core s' rest) stack → EachClosed (λ a rest. NoneDueOn core s' rest) (explain_first ls n stack)
  explained_due s' [] n stack h = h
  explained_due s' (l ∷ ls) n stack h = closed_explain (λ a rest. NoneDueOn core s' rest) (λ a rest. NoneDueOn core s' rest) l.atom n stack
      (λ b rest other p m i e up. p m i e (λ q j. let r = up q j in (r.0, r.1, (r.2.0, sym (value_explain l.atom n rest r.0) ∙ r.2.1, r.2.2)))) h

  due_keep : (listed : List (List A)) (e : Event A K) → Allowed core listed s e → (s.closing ≡ true → Since s) → DueBelow s → DueBelow (happens core s e)
  due_keep listed (NameTerm node) ok since h = same_due (happens core s (NameTerm node)) refl (record { names = λ x n e. e; made = λ j k e. e }) (λ k i. i) h
  due_keep listed (Strike n) ok since h = same_due (happens core s (Strike n)) refl (record { names = λ x n e. e; made = λ j k e. e }) (λ k i. i) h
  due_keep listed (Keep n) ok since h = same_due (happens core s (Keep n)) refl (record { names = λ x n e. e; made = λ j k e. e }) (λ k i. i) h
  due_keep listed (Learn how ls) ok since h = same_due (happens core s (Learn how ls)) refl (record { names = λ x n e. e; made = λ j k e. e }) (λ k i. i) h
  due_keep listed (CallWide x) ok since h = same_due (happens core s (CallWide x)) refl (record { names = λ x n e. e; made = λ j k e. e }) (λ k i. i) h
  due_keep listed (Show ids) ok since h = same_due (happens core s (Show ids)) refl (record { names = λ x n e. e; made = λ j k e. e }) (λ k i. i) h
  due_keep listed (Pass ids) ok since h = same_due (happens core s (Pass ids)) refl (record { names = λ x n e. e; made = λ j k e. e }) (λ k i. i) h
  due_keep listed (NameAtom a) ok since h = same_due (happens core s (NameAtom a)) refl (name_grows s (Named a)) (λ k i. i) h
  due_keep listed NameBody ok since h = same_due (happens core s NameBody) refl (name_grows s (BodyOf (length s.made))) (λ k i. i) h
  due_keep listed (Number x a number) ok since h = none_closed (λ b rest. NoneDueOn core (happens core s (Number x a number)) rest) s.stack ok.5
  due_keep listed (Make k) ok since h = same_due (happens core s (Make k)) refl (make_grows core s k) (λ m i. ∈-append_left m s.made (k ∷ []) i) h
  due_keep listed (Put a v n) ok since h = ((λ w. cc), same_due (happens core s (Put a v n)) refl (record { names = λ x n e. e; made = λ j k e. e }) (λ k i. i) h)
  due_keep listed (Choose b up) ok since h = ((λ w. cc), same_due (happens core s (Choose b up)) refl (record { names = λ x n e. e; made = λ j k e. e }) (λ k i. i) h)
  due_keep listed (Close x) ok since h = ((λ w m i e up. close_due listed x ok since m i e up), same_due (happens core s (Close x)) refl (record { names = λ x n e. e; made = λ j k e. e }) (λ k i. i) h)
  due_keep listed (Justify patterns ls) ok since h =
      explained_due (happens core s (Justify patterns ls)) ls (length s.nogoods) s.stack (same_due (happens core s (Justify patterns ls)) refl (record { names = λ x n e. e; made = λ j k e. e }) (λ k i. i) h)
  due_keep listed (Back level) ok since h =
      closed_back (λ a rest. NoneDueOn core (happens core s (Back level)) rest) level s.stack (same_due (happens core s (Back level)) refl (record { names = λ x n e. e; made = λ j k e. e }) (λ k i. i) h)

  -- ---- the nogoods of an instance that may be made are tight at no closed atom

  -- an id that waits for its instance has no value
  pub pending_none : (b : ℕ) → IsPending s b → (v : Value) → ¬ (value_of s.stack b ≡ Some v)
  pending_none b p v e = by_known (value_known core s s.stack valid.good b v e)
    where
      by_known : Known s b → ⊥
      by_known (OfAtom a, h) = (let q : Some (Named a) ≡ Some (BodyOf (length s.made)) = sym h ∙ p in cc)
      by_known (OfBody i, h) = (let q : Some (BodyOf h.number) ≡ Some (BodyOf (length s.made)) = sym h.node ∙ p in let n : h.number ≡ length s.made = cc in
          get_none s.made h.made (subst (λ z. slice_get s.made z ≡ Some h.made) n h.is_made))

  -- one with a literal of such an id isn't tight
  body_loose : (b : ℕ) → IsPending s b → (a : ℕ) (rest : List Entry) → Below core s s.stack a rest → (ng : Nogood) → ((l : Lit) × (l ∈ ng.lits) × (l.atom ≡ b)) → ¬ IsTight a rest ng
  body_loose b p a rest below ng w tight = elim (tight w.0 w.1) [
    | inl e ↦ (let same : b ≡ a = sym w.2 ∙ ap (λ (z : Lit). z.atom) e in pending_none b p below.low.0 (subst (λ z. value_of s.stack z ≡ Some below.low.0) (sym same) below.low.1))
    | inr h ↦ (let u = below.up w.0 h in pending_none b p u.0 (subst (λ z. value_of s.stack z ≡ Some u.0) w.2 u.1))
  ]

  -- one with all positive atoms of the instance isn't tight: the instance would have been made
  pos_loose : (listed : List (List A)) (k : Made K) → Allowed core listed s (Make k) → (a : ℕ) (rest : List Entry) → Below core s s.stack a rest → NoneDueOn core s rest
      → (ng : Nogood) → ((p : ℕ) → p ∈ k.inst.pos → lit p true ∈ ng.lits) → ¬ IsTight a rest ng
  pos_loose listed k ok a rest below due ng has tight = ok.1 (due k.maker ok.2.0 ok.2.1 (λ q j.
      let n = names_back s.names k.inst.pos ok.2.0.pos ok.2.2.pos q j in (
        n.0,
        n.2,
        elim (tight (lit n.0 true) (has n.0 n.1)) [
          | inl e ↦ absurd (clash core s s.stack a (subst (λ z. Holds s.stack (lit z true)) (ap (λ (z : Lit). z.atom) e) (ok.3 n.0 n.1)) below.low)
          | inr h ↦ h
        ],
      )))

  table_loose : (listed : List (List A)) (k : Made K) → Allowed core listed s (Make k) → (a : ℕ) (rest : List Entry) → Below core s s.stack a rest → NoneDueOn core s rest
      → (kind : Kind ℕ) (body : Option ℕ) → BodyIsNext s body → (ng : Nogood) → ng ∈ table_of kind body k.inst → ¬ IsTight a rest ng
  table_loose listed k ok a rest below due (Plain h) None next ng i =
      pos_loose listed k ok a rest below due ng (λ p j. set_of-all (Some h) (lit h false ∷ lits_of true k.inst.pos) ng i (lit p true) (inr (lits_of-in true k.inst.pos p j)))
  table_loose listed k ok a rest below due (Plain h) (Some b) next ng i = body_loose b next a rest below ng (with_body_has b [] k.inst h ng i)
  table_loose listed k ok a rest below due (Choice h) None next ng i = absurd i
  table_loose listed k ok a rest below due (Choice h) (Some b) next ng i = body_loose b next a rest below ng (with_body_has b (lit h true ∷ []) k.inst h ng i)
  table_loose listed k ok a rest below due Constraint body next ng i =
      pos_loose listed k ok a rest below due ng (λ p j. set_of-all None (lits_of true k.inst.pos ++ lits_of false k.inst.neg) ng i (lit p true) (∈-append_left (lit p true) (lits_of true k.inst.pos) (lits_of false k.inst.neg) (lits_of-in true k.inst.pos p j)))

  made_loose : (listed : List (List A)) (k : Made K) → Allowed core listed s (Make k) → DueBelow s → EachClosed (λ a rest. (ng : Nogood) → ng ∈ nogoods_of k → ¬ IsTight a rest ng) s.stack
  made_loose listed k ok h = each_map core s (λ a rest. NoneDueOn core s rest) (λ a rest. (ng : Nogood) → ng ∈ nogoods_of k → ¬ IsTight a rest ng) s.stack valid.good clean
      (λ a rest b due ng i. table_loose listed k ok a rest b due k.inst.kind k.body ok.5 ng i) h

-- ---- journals

pub record Above {N A K : Type 0} (core : Rules N A K) (s : State N A K) : Type 0 where
  pub since : s.closing ≡ true → (s0 : State N A K) × IsSince core s0 s
  pub due : EachClosed (λ a rest. NoneDueOn core s rest) s.stack
  pub apart : ClosedApart s

pub legal_above : {N A K : Type 0} (core : Rules N A K) (listed : List (List A)) (journal : List (Event A K)) → Legal core listed journal → Above core (replay core journal)
legal_above core listed [] legal = record { since = λ c. cc; due = tt; apart = tt }
legal_above core listed (e ∷ journal) legal =
    let s = replay core journal in
    let inv = legal_safe core listed journal legal.0 in
    let founds = legal_founds core listed journal legal.0 in
    let clean = legal_clean core listed journal legal.0 in
    let newly = legal_newly core listed journal legal.0 in
    let h = legal_above core listed journal legal.0 in
    record {
      since = since_keep core s inv.valid founds clean listed e legal.1 inv (legal_safe core listed (e ∷ journal) legal) h.since;
      due = due_keep core s inv.valid founds clean listed e legal.1 h.since h.due;
      apart = apart_keep core s inv.valid newly.0 newly.1 clean h.apart listed e legal.1
          (λ k same. made_loose core s inv.valid founds clean listed k (subst (λ z. Allowed core listed s z) same legal.1) h.due);
    }

-- law: what is justified is new
pub justified_is_new : {N A K : Type 0} → JustifiedIsNew N A K
justified_is_new {N} {A} {K} core listed journal legal patterns ls may ng i sub = by_wanted may.wanted
  where
    by_wanted : IsWanted core (replay core journal) may.id → ⊥
    by_wanted (for_stuck e stuck) = stuck_is_new core (replay core journal) (legal_safe core listed journal legal).valid patterns ls may stuck ng i sub
    by_wanted (for_unassigned e can) = ruled_out_is_new core (replay core journal) (legal_safe core listed journal legal).valid patterns ls may can ng i sub
    by_wanted (for_closed m struck ms e at w x y) =
        let r = legal_newly core listed journal legal in
        closed_is_new core (replay core journal) (legal_safe core listed journal legal).valid r.0 r.1 (legal_clean core listed journal legal) (Above.apart (legal_above core listed journal legal)) patterns ls may m e ng i sub
