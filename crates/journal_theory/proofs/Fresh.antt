-- The literals chosen are a superset of no earlier nogood.
use Rattle.std.proofs.Common.{◌≡◌, ℕ, ◌+◌, ◌⊎◌, Bool, true, false, cond, List, [], ◌∷◌, ◌++◌, length, refl, sym, ◌∙◌, ap, subst, inl, inr}
use Rattle.std.specs.Prelude.{Option, Some, None, nat_le, slice_get}
use Rattle.lists.specs.Lists.{◌∈◌, ◌⊆◌}
use Rattle.lists.proofs.ListLemmas.{∈-append_left, ∈-append_right, ∈-append_cases}
use Rattle.search_values.specs.declared.entry.Why.{Why}
use Rattle.search_values.specs.declared.entry.Why.TheVariants.{Given, Chosen, Closed}
use Rattle.search_values.specs.declared.entry.Entry.{Entry}
use Rattle.search_values.specs.Values.{Value, True, MustBe, False, Lit, is_up, lit, value_of, Holds, opened, level_of, entry_on, back_to, all_at_0, chosen_with, chosen}
use Rattle.search_values.specs.Nogoods.{Nogood, IsStruck, Gives}
use Rattle.search_values.specs.Instances.{Kind, Plain, Choice, Constraint, Instance, Rules}
use Rattle.search_values.specs.Tables.{Made, BodyFits, lits_of, set_of, each_with, with_body, table_of, nogoods_of}
use Rattle.journal_theory.specs.Resolution.{Arises, itself, by_reason}
use Rattle.journal_theory.specs.Covers.{IsWanted, for_stuck, for_closed, for_unassigned}
use Rattle.search_values.specs.Ids.{Named, BodyOf, KindNames}
use Rattle.journal_theory.specs.States.{Phase, Free, MustLearn, MustDecide, Found, MustStrike, MustJump, Over, State, IsName, IsActive}
use Rattle.journal_theory.specs.Events.{Analysed, Justified, Decisions, Enumerated, Event, NameTerm, NameAtom, NameBody, Number, Make, Put, Choose, Close, Strike, Keep, Learn, Justify, CallWide, Back, Show, Pass, phase_struck, phase_learned, first_value, phase_justified, MayStrike, lits_in, lits_at, happens, Allowed}
use Rattle.search_values.specs.Values.{decision}
use Rattle.journal_theory.specs.Journals.{replay, Legal}
use Rattle.search_values.proofs.Basics.{in_single, get_left, get_last, value_cases, some_or_all}
use Rattle.journal_theory.proofs.Stack.{GoodEntry, Good, chosen_with-more, chosen_with-cases, good_back}
use Rattle.journal_theory.proofs.Explaining.{chosen_first}
use Rattle.search_values.proofs.Tables.{nogood, set_of-is, set_of-all, lits_of-in}
use Rattle.journal_theory.proofs.Central.{GoodMade, Valid, names_in}
use Rattle.journal_theory.proofs.Events.{legal_safe}

-- the nogood that was just learned, struck or kept is the one that the chosen literals may be a superset of
abbrev pub IsLearnt : List Nogood → Phase → Nogood → Type 0
IsLearnt ngs (MustStrike n) ng = slice_get ngs n ≡ Some ng
IsLearnt ngs (MustLearn n) ng = slice_get ngs n ≡ Some ng
IsLearnt ngs (MustJump n) ng = slice_get ngs n ≡ Some ng
IsLearnt ngs Over ng = Unit {0}
IsLearnt ngs Free ng = ⊥
IsLearnt ngs MustDecide ng = ⊥
IsLearnt ngs Found ng = ⊥

-- the same with a longer list of nogoods
learnt_grows : (ngs more : List Nogood) (phase : Phase) (ng : Nogood) → IsLearnt ngs phase ng → IsLearnt (ngs ++ more) phase ng
learnt_grows ngs more (MustStrike n) ng h = get_left ngs more n ng h
learnt_grows ngs more (MustLearn n) ng h = get_left ngs more n ng h
learnt_grows ngs more (MustJump n) ng h = get_left ngs more n ng h
learnt_grows ngs more Over ng h = tt
learnt_grows ngs more Free ng h = h
learnt_grows ngs more MustDecide ng h = h
learnt_grows ngs more Found ng h = h

-- the literals chosen are a superset of no stored nogood but the empty one
abbrev pub NewlyChosen : {N A K : Type 0} → State N A K → Type 0
NewlyChosen s = (ng : Nogood) → ng ∈ s.nogoods → ng.lits ⊆ chosen s.stack → (ng.lits ≡ []) ⊎ IsLearnt s.nogoods s.phase ng

-- each literal chosen is of a body, and holds
abbrev pub ChosenAreBodies : {N A K : Type 0} → State N A K → Type 0
ChosenAreBodies s = (l : Lit) → l ∈ chosen s.stack → (j : ℕ) × (slice_get s.names l.atom ≡ Some (BodyOf j))

-- where nothing is unit or struck, no nogood is made of a new literal and of literals that hold
pub new_literal : (stack : List Entry) (ng : Nogood) → (IsStruck stack ng → ⊥) → ((a : ℕ) (v : Value) → Gives stack ng a v → ⊥)
    → (x : Lit) → value_of stack x.atom ≡ None → ((l : Lit) → l ∈ ng.lits → (l ≡ x) ⊎ Holds stack l) → ⊥
new_literal stack ng struck unit x free others = elim (some_or_all {P = λ l. Holds stack l} x ng.lits others) [
  | inr all ↦ struck all
  | inl i ↦ by_sign x.positive refl i
]
  where
    by_sign : (b : Bool) → x.positive ≡ b → x ∈ ng.lits → ⊥
    by_sign true e i = unit x.atom False (let w : x ≡ lit x.atom true = (λ j. record { atom = x.atom; positive = e j }) in record {
      among = subst (λ (z : Lit). (z ∈ ng.lits)) w i;
      unassigned = free;
      others = λ l m. elim (others l m) [ inl q ↦ inl (q ∙ w) | inr h ↦ inr h ];
    })
    by_sign false e i = unit x.atom MustBe (let w : x ≡ lit x.atom false = (λ j. record { atom = x.atom; positive = e j }) in (
      record {
        among = subst (λ (z : Lit). (z ∈ ng.lits)) w i;
        unassigned = free;
        others = λ l m. elim (others l m) [ inl q ↦ inl (q ∙ w) | inr h ↦ inr h ];
      },
      (λ r. unit x.atom True r),
    ))

-- each nogood of an instance is empty or speaks of a named atom

abbrev SpeaksOf : (ℕ → Type 0) → Nogood → Type 0
SpeaksOf P ng = (ng.lits ≡ []) ⊎ ((l : Lit) × (l ∈ ng.lits) × P l.atom)

module _ (P : ℕ → Type 0) where
  kept_speaks : (head : Option ℕ) (ls : List Lit) (l : Lit) → l ∈ ls → P l.atom → (ng : Nogood) → ng ∈ set_of head ls → SpeaksOf P ng
  kept_speaks head ls l i p ng j = inr (l, set_of-all head ls ng j l i, p)

  each_speaks : (b : ℕ) (up : Bool) (ids : List ℕ) → ((x : ℕ) → x ∈ ids → P x) → (ng : Nogood) → ng ∈ each_with b up ids → SpeaksOf P ng
  each_speaks b up [] h ng i = absurd i
  each_speaks b up (x ∷ ids) h ng i = elim (∈-append_cases ng (set_of None (lit b true ∷ lit x up ∷ [])) (each_with b up ids) i) [
    | inl j ↦ kept_speaks None (lit b true ∷ lit x up ∷ []) (lit x up) (inr (inl refl)) (h x (inl refl)) ng j
    | inr j ↦ each_speaks b up ids (λ y m. h y (inr m)) ng j
  ]

  all_lits_of : (xs ys : List ℕ) → ((x : ℕ) → x ∈ xs → P x) → ((x : ℕ) → x ∈ ys → P x) → (head : Option ℕ) → (ng : Nogood) → (ng ∈ (set_of head (lits_of true xs ++ lits_of false ys))) → SpeaksOf P ng
  all_lits_of [] [] hx hy head ng i = inl (ap (λ (z : Nogood). z.lits) (set_of-is head [] ng i))
  all_lits_of (x ∷ xs) ys hx hy head ng i = kept_speaks head (lits_of true (x ∷ xs) ++ lits_of false ys) (lit x true) (inl refl) (hx x (inl refl)) ng i
  all_lits_of [] (y ∷ ys) hx hy head ng i = kept_speaks head (lits_of false (y ∷ ys)) (lit y false) (inl refl) (hy y (inl refl)) ng i

  abbrev HeadIs : Kind ℕ → Type 0
  HeadIs (Plain h) = P h
  HeadIs (Choice h) = P h
  HeadIs Constraint = Unit {0}

  -- the first nogood of a Plain instance with a body has a positive or a negative atom
  first_speaks : (b : ℕ) (head : List Lit) (xs ys : List ℕ) → ((x : ℕ) → x ∈ xs → P x) → ((x : ℕ) → x ∈ ys → P x)
      → ((l : Lit) × (l ∈ head) × P l.atom) ⊎ ((y : ℕ) × (y ∈ ys))
      → (ng : Nogood) → (ng ∈ (set_of (Some b) (lit b false ∷ head ++ lits_of true xs ++ lits_of false ys))) → SpeaksOf P ng
  first_speaks b head xs ys hx hy (inl w) ng i =
      kept_speaks (Some b) (lit b false ∷ head ++ lits_of true xs ++ lits_of false ys) w.0 (inr (∈-append_left w.0 (head ++ lits_of true xs) (lits_of false ys) (∈-append_left w.0 head (lits_of true xs) w.1))) w.2 ng i
  first_speaks b head xs ys hx hy (inr w) ng i =
      kept_speaks (Some b) (lit b false ∷ head ++ lits_of true xs ++ lits_of false ys) (lit w.0 false) (inr (∈-append_right (lit w.0 false) (head ++ lits_of true xs) (lits_of false ys) (lits_of-in false ys w.0 w.1))) (hy w.0 w.1) ng i

  body_speaks : (b : ℕ) (head : List Lit) (i : Instance ℕ) (h : ℕ) → P h → ((x : ℕ) → x ∈ i.pos → P x) → ((x : ℕ) → x ∈ i.neg → P x)
      → ((l : Lit) × (l ∈ head) × P l.atom) ⊎ ((y : ℕ) × (y ∈ i.neg))
      → (ng : Nogood) → ng ∈ with_body b head i h → SpeaksOf P ng
  body_speaks b head i h ph hx hy some ng j =
      elim (∈-append_cases ng (first ++ each_with b false i.pos ++ each_with b true i.neg) (set_of (Some h) (lit h false ∷ lit b true ∷ [])) j) [
        | inl m ↦ elim (∈-append_cases ng (first ++ each_with b false i.pos) (each_with b true i.neg) m) [
          | inl n ↦ elim (∈-append_cases ng first (each_with b false i.pos) n) [
            | inl o ↦ first_speaks b head i.pos i.neg hx hy some ng o
            | inr o ↦ each_speaks b false i.pos hx ng o
          ]
          | inr n ↦ each_speaks b true i.neg hy ng n
        ]
        | inr m ↦ kept_speaks (Some h) (lit h false ∷ lit b true ∷ []) (lit h false) (inl refl) ph ng m
      ]
    where
      first : List Nogood
      first = set_of (Some b) (lit b false ∷ head ++ lits_of true i.pos ++ lits_of false i.neg)

  table_speaks : (kind : Kind ℕ) (neg : List ℕ) (body : Option ℕ) (i : Instance ℕ) → i.neg ≡ neg → BodyFits kind neg body → HeadIs kind → ((x : ℕ) → x ∈ i.pos → P x) → ((x : ℕ) → x ∈ i.neg → P x)
      → (ng : Nogood) → ng ∈ table_of kind body i → SpeaksOf P ng
  table_speaks (Plain h) neg None i e fits p hx hy ng j = kept_speaks (Some h) (lit h false ∷ lits_of true i.pos) (lit h false) (inl refl) p ng j
  table_speaks (Plain h) [] (Some b) i e fits p hx hy ng j = cc
  table_speaks (Plain h) (n ∷ ns) (Some b) i e fits p hx hy ng j = body_speaks b [] i h p hx hy (inr (n, subst (λ zs. (n ∈ zs)) (sym e) (inl refl))) ng j
  table_speaks (Choice h) neg None i e fits p hx hy ng j = absurd j
  table_speaks (Choice h) neg (Some b) i e fits p hx hy ng j = body_speaks b (lit h true ∷ []) i h p hx hy (inl (lit h true, inl refl, p)) ng j
  table_speaks Constraint neg body i e fits p hx hy ng j = all_lits_of i.pos i.neg hx hy None ng j

module _ {N A K : Type 0} (core : Rules N A K) (s : State N A K) (valid : Valid core s) (bodies : ChosenAreBodies s) (newly : NewlyChosen s) where
  holds_stays : (e : Entry) (rest : List Entry) → GoodEntry core s e rest → (l : Lit) → Holds rest l → Holds (e ∷ rest) l
  holds_stays e rest g l h = elim (value_cases e rest l.atom) [
    | inl c ↦ elim g.may_push [
      | inl n ↦ (let w : value_of rest l.atom ≡ None = subst (λ z. value_of rest z ≡ None) c.0 n in let k = h.1 in cc)
      | inr m ↦ (let w : value_of rest l.atom ≡ Some MustBe = subst (λ z. value_of rest z ≡ Some MustBe) c.0 m.0 in
          let k : Some h.0 ≡ Some MustBe = sym h.1 ∙ w in let v : h.0 ≡ MustBe = cc in
          let u : true ≡ l.positive = sym (ap is_up v) ∙ h.2 in
          (True, c.1 ∙ ap (λ z. Some z) m.1, u))
    ]
    | inr c ↦ (h.0, c.1 ∙ h.1, h.2)
  ]

  -- the literals chosen hold
  pub chosen_holds : (stack : List Entry) → Good core s stack → (l : Lit) → l ∈ chosen stack → Holds stack l
  chosen_holds [] g l i = absurd i
  chosen_holds (e ∷ rest) g l i = elim (chosen_with-cases e.why (value_of rest e.atom) (lit e.atom (is_up e.value)) (chosen rest) l i) [
    | inl k ↦ (let v : value_of (e ∷ rest) e.atom ≡ Some e.value = elim (value_cases e rest e.atom) [ inl c ↦ c.1 | inr c ↦ absurd (c.0 refl) ] in
        subst (λ (z : Lit). Holds (e ∷ rest) z) (sym k) (e.value, v, refl))
    | inr k ↦ holds_stays e rest g.0 l (chosen_holds rest g.1 l k)
  ]

  chosen_pick : (b : Bool) (stack other : List Entry) (big : List Lit) → chosen stack ⊆ big → chosen other ⊆ big → chosen (cond b stack other) ⊆ big
  chosen_pick true stack other big g h = g
  chosen_pick false stack other big g h = h

  chosen_back : (l : ℕ) (stack : List Entry) → chosen (back_to l stack) ⊆ chosen stack
  chosen_back l [] = λ x i. i
  chosen_back l (e ∷ rest) = chosen_pick (nat_le (level_of rest + opened e.why) l) (e ∷ rest) (back_to l rest) (chosen (e ∷ rest)) (λ x i. i)
      (λ x i. chosen_with-more e.why (value_of rest e.atom) (lit e.atom (is_up e.value)) (chosen rest) x (chosen_back l rest x i))

  -- what each event keeps
  abbrev pub Result : Event A K → Type 0
  Result e = ChosenAreBodies (happens core s e) × NewlyChosen (happens core s e)

  free_only : (phase : Phase) → phase ≡ Free → (ngs : List Nogood) (ng : Nogood) → IsLearnt ngs phase ng → ⊥
  free_only phase e ngs ng h = subst (λ z. IsLearnt ngs z ng) e h

  -- what held before holds with more nogoods, where the phase is free
  old_newly : (phase : Phase) → phase ≡ Free → s.phase ≡ phase → (ng : Nogood) → ng ∈ s.nogoods → ng.lits ⊆ chosen s.stack → ng.lits ≡ []
  old_newly phase e f ng i sub = elim (newly ng i sub) [ inl k ↦ k | inr k ↦ absurd (free_only s.phase (f ∙ e) s.nogoods ng k) ]

  strike_newly : (phase : Phase) (n : ℕ) (ng : Nogood) (low : Bool) → MayStrike phase n
      → (ng.lits ≡ []) ⊎ IsLearnt s.nogoods phase ng → (ng.lits ≡ []) ⊎ IsLearnt s.nogoods (phase_struck n low) ng
  strike_newly phase n ng true w h = inr tt
  strike_newly Free n ng false w h = elim h [ inl e ↦ inl e | inr k ↦ absurd k ]
  strike_newly (MustStrike m) n ng false w h = elim w [
    | inl e ↦ cc
    | inr e ↦ elim h [ inl k ↦ inl k | inr k ↦ (let same : m ≡ n = cc in inr (subst (λ z. slice_get s.nogoods z ≡ Some ng) same k)) ]
  ]
  strike_newly (MustLearn m) n ng false w h = elim w [ inl e ↦ cc | inr e ↦ cc ]
  strike_newly MustDecide n ng false w h = elim w [ inl e ↦ cc | inr e ↦ cc ]
  strike_newly Found n ng false w h = elim w [ inl e ↦ cc | inr e ↦ cc ]
  strike_newly (MustJump m) n ng false w h = elim w [ inl e ↦ cc | inr e ↦ cc ]
  strike_newly Over n ng false w h = elim w [ inl e ↦ cc | inr e ↦ cc ]

  -- a phase in which no nogood is left out
  abbrev pub IsPlain : Phase → Type 0
  IsPlain phase = (phase ≡ Free) ⊎ ((phase ≡ MustDecide) ⊎ (phase ≡ Found))

  not_learnt : (phase : Phase) (ng : Nogood) → IsPlain phase → IsLearnt s.nogoods phase ng → ⊥
  not_learnt Free ng w h = h
  not_learnt MustDecide ng w h = h
  not_learnt Found ng w h = h
  not_learnt (MustLearn m) ng w h = elim w [ inl e ↦ cc | inr e ↦ elim e [ inl f ↦ cc | inr f ↦ cc ] ]
  not_learnt (MustStrike m) ng w h = elim w [ inl e ↦ cc | inr e ↦ elim e [ inl f ↦ cc | inr f ↦ cc ] ]
  not_learnt (MustJump m) ng w h = elim w [ inl e ↦ cc | inr e ↦ elim e [ inl f ↦ cc | inr f ↦ cc ] ]
  not_learnt Over ng w h = elim w [ inl e ↦ cc | inr e ↦ elim e [ inl f ↦ cc | inr f ↦ cc ] ]

  -- law: what is learned is a superset of no earlier nogood but an empty one
  pub superset_of_none : IsPlain s.phase → (ng : Nogood) → ng ∈ s.nogoods → ng.lits ⊆ chosen s.stack → ng.lits ≡ []
  superset_of_none w ng i sub = elim (newly ng i sub) [ inl e ↦ e | inr h ↦ absurd (not_learnt s.phase ng w h) ]

  -- the nogood that was just learned is the one that is left out
  learnt_new : (phase : Phase) (ls : List Lit) (ng : Nogood) → ng ≡ nogood None ls → (phase ≡ Found) ⊎ ((phase ≡ MustDecide) ⊎ ((n : ℕ) × (phase ≡ MustLearn n)))
      → IsLearnt (s.nogoods ++ nogood None ls ∷ []) (phase_learned phase (length s.nogoods)) ng
  learnt_new phase ls ng e w = go phase w
    where
      at : slice_get (s.nogoods ++ nogood None ls ∷ []) (length s.nogoods) ≡ Some ng
      at = get_last s.nogoods (nogood None ls) ∙ ap (λ z. Some z) (sym e)

      go : (phase : Phase) → (phase ≡ Found) ⊎ ((phase ≡ MustDecide) ⊎ ((n : ℕ) × (phase ≡ MustLearn n))) → IsLearnt (s.nogoods ++ nogood None ls ∷ []) (phase_learned phase (length s.nogoods)) ng
      go Found w = at
      go MustDecide w = at
      go (MustLearn n) w = at
      go Free w = elim w [ inl e ↦ cc | inr e ↦ elim e [ inl f ↦ cc | inr f ↦ (let q = f.1 in cc) ] ]
      go (MustStrike n) w = elim w [ inl e ↦ cc | inr e ↦ elim e [ inl f ↦ cc | inr f ↦ (let q = f.1 in cc) ] ]
      go (MustJump n) w = elim w [ inl e ↦ cc | inr e ↦ elim e [ inl f ↦ cc | inr f ↦ (let q = f.1 in cc) ] ]
      go Over w = elim w [ inl e ↦ cc | inr e ↦ elim e [ inl f ↦ cc | inr f ↦ (let q = f.1 in cc) ] ]

  learn_newly : (ls : List Lit) (ng : Nogood) → (s.phase ≡ Found) ⊎ (s.phase ≡ MustDecide)
      → ng ∈ (s.nogoods ++ nogood None ls ∷ []) → ng.lits ⊆ chosen s.stack
      → (ng.lits ≡ []) ⊎ IsLearnt (s.nogoods ++ nogood None ls ∷ []) (phase_learned s.phase (length s.nogoods)) ng
  learn_newly ls ng w i sub = elim (∈-append_cases ng s.nogoods (nogood None ls ∷ []) i) [
    | inl j ↦ inl (superset_of_none (elim w [ inl e ↦ inr (inr e) | inr e ↦ inr (inl e) ]) ng j sub)
    | inr j ↦ inr (learnt_new s.phase ls ng (in_single j) (elim w [ inl e ↦ inl e | inr e ↦ inr (inl e) ]))
  ]

  -- a unit nogood has a literal that does not hold
  unit_not : (stack : List Entry) → Good core s stack → (ng : Nogood) (a : ℕ) (v : Value) → Gives stack ng a v → ng.lits ⊆ chosen stack → ⊥
  unit_not stack g ng a True r sub =
      let h = chosen_holds stack g (lit a false) (sub (lit a false) r.among) in
      elim r.not_yet [
        | inl n ↦ (let k = h.1 in cc)
        | inr m ↦ (let k : Some h.0 ≡ Some MustBe = sym h.1 ∙ m in let v : h.0 ≡ MustBe = cc in let u : true ≡ false = sym (ap is_up v) ∙ h.2 in cc)
      ]
  unit_not stack g ng a MustBe r sub = let h = chosen_holds stack g (lit a false) (sub (lit a false) r.0.among) in let n = r.0.unassigned in let k = h.1 in cc
  unit_not stack g ng a False r sub = let h = chosen_holds stack g (lit a true) (sub (lit a true) r.among) in let n = r.unassigned in let k = h.1 in cc

  lits_here : (n : ℕ) (ng : Nogood) → slice_get s.nogoods n ≡ Some ng → lits_at s.nogoods n ≡ ng.lits
  lits_here n ng e = ap lits_in e

  -- an atom with an entry has a value
  entry_valued : (stack : List Entry) (e : Entry) → e ∈ stack → (v : Value) × (value_of stack e.atom ≡ Some v)
  entry_valued [] e i = absurd i
  entry_valued (t ∷ rest) e i = elim (value_cases t rest e.atom) [
    | inl c ↦ (t.value, c.1)
    | inr c ↦ elim i [
      | inl q ↦ absurd (c.0 (ap (λ (z : Entry). z.atom) (sym q)))
      | inr j ↦ (let r = entry_valued rest e j in (r.0, c.1 ∙ r.1))
    ]
  ]

  -- a literal chosen is of an atom with that one entry, and not must-be-true
  abbrev pub IsAlone : List Entry → Lit → Type 0
  IsAlone stack l = ((e : Entry) → e ∈ stack → e.atom ≡ l.atom → e.why ≡ Chosen) × (¬ (value_of stack l.atom ≡ Some MustBe))

  alone_new : (t : Entry) (rest : List Entry) → GoodEntry core s t rest → t.why ≡ Chosen → value_of rest t.atom ≡ None → (l : Lit) → l ≡ lit t.atom (is_up t.value) → IsAlone (t ∷ rest) l
  alone_new t rest g q n l same = (
    (λ e i at. elim i [
      | inl k ↦ (ap (λ (z : Entry). z.why) k ∙ q)
      | inr j ↦ (let r = entry_valued rest e j in let w : value_of rest t.atom ≡ Some r.0 = subst (λ z. value_of rest z ≡ Some r.0) (at ∙ ap (λ (z : Lit). z.atom) same) r.1 in cc)
    ]),
    (λ m. elim (value_cases t rest l.atom) [
      | inl c ↦ (let w : Some t.value ≡ Some MustBe = sym c.1 ∙ m in let v : t.value ≡ MustBe = cc in g.decided q v)
      | inr c ↦ absurd (c.0 (ap (λ (z : Lit). z.atom) (sym same)))
    ]),
  )

  alone_old : (t : Entry) (rest : List Entry) → GoodEntry core s t rest → Good core s rest → (l : Lit) → l ∈ chosen rest → IsAlone rest l → IsAlone (t ∷ rest) l
  alone_old t rest g good l i old = (
    (λ e j at. elim j [
      | inl k ↦ absurd (other (ap (λ (z : Entry). z.atom) (sym k) ∙ at))
      | inr m ↦ old.0 e m at
    ]),
    (λ m. elim (value_cases t rest l.atom) [
      | inl c ↦ other c.0
      | inr c ↦ old.1 (sym c.1 ∙ m)
    ]),
  )
    where
      other : ¬ (t.atom ≡ l.atom)
      other e = elim g.may_push [
        | inl n ↦ (let h = chosen_holds rest good l i in let k = h.1 in let w : value_of rest l.atom ≡ None = subst (λ z. value_of rest z ≡ None) e n in cc)
        | inr m ↦ old.1 (subst (λ z. value_of rest z ≡ Some MustBe) e m.0)
      ]

  pub chosen_alone : (stack : List Entry) → Good core s stack → (l : Lit) → l ∈ chosen stack → IsAlone stack l
  chosen_alone [] g l i = absurd i
  chosen_alone (t ∷ rest) g l i = go (λ j. alone_old t rest g.0 g.1 l j (chosen_alone rest g.1 l j)) t.why refl (value_of rest t.atom) refl i
    where
      go : (l ∈ chosen rest → IsAlone (t ∷ rest) l) → (w : Why) → t.why ≡ w → (v : Option Value) → value_of rest t.atom ≡ v
          → l ∈ chosen_with w v (lit t.atom (is_up t.value)) (chosen rest) → IsAlone (t ∷ rest) l
      go old (Given m) q v n i = old i
      go old Chosen q None n (inl same) = alone_new t rest g.0 q n l same
      go old Chosen q None n (inr i) = old i
      go old Chosen q (Some v) n i = old i
      go old (Closed reason) q v n i = old i

  -- what arises from literals chosen is of literals chosen, since nothing is resolved with them
  arises_chosen : (struck : List Lit) → struck ⊆ chosen s.stack → (ls : List Lit) → Arises s.nogoods s.stack struck ls → ls ⊆ chosen s.stack
  arises_chosen struck sub ls (itself _ same) = λ l i. sub l (same.back l i)
  arises_chosen struck sub result (by_reason l ng ls _ a r w) =
      let alone = chosen_alone s.stack valid.good l (arises_chosen struck sub ls a l w.among) in
      let why = alone.0 r.entry r.among r.atom_is in
      absurd (elim r.why [ inl e ↦ (let q = sym why ∙ e in cc) | inr e ↦ (let q = sym why ∙ e in cc) ])

  -- what is wanted isn't so where the nogood just learned is of literals chosen
  pub not_wanted : (x : ℕ) → IsWanted core s x → (ng : Nogood) → ng ∈ s.nogoods → IsLearnt s.nogoods s.phase ng → ng.lits ⊆ chosen s.stack → ⊥
  not_wanted x (for_stuck e stuck) ng i w sub = subst (λ z. IsLearnt s.nogoods z ng) e w
  not_wanted x (for_unassigned e can) ng i w sub = subst (λ z. IsLearnt s.nogoods z ng) e w
  not_wanted x (for_closed n struck ls e at without a among) ng i w sub =
      let h : slice_get s.nogoods n ≡ Some ng = subst (λ z. IsLearnt s.nogoods z ng) e w in
      let q : Some struck ≡ Some ng = sym at ∙ h in
      let same : struck ≡ ng = cc in
      let in_chosen : lit x false ∈ chosen s.stack = arises_chosen struck.lits (subst (λ (z : Nogood). z.lits ⊆ chosen s.stack) (sym same) sub) ls a (lit x false) among in
      let alone = chosen_alone s.stack valid.good (lit x false) in_chosen in
      let why = alone.0 without.0 without.1 without.2 in
      let bad = sym why ∙ without.3 in cc

  -- each event keeps it
  pub newly_keeps : (listed : List (List A)) (e : Event A K) → Allowed core listed s e → Result e
  newly_keeps listed (NameTerm node) ok = (bodies, newly)
  newly_keeps listed (Number x a number) ok = (bodies, newly)
  newly_keeps listed (NameAtom a) ok = ((λ l i. let r = bodies l i in (r.0, get_left s.names (Named a ∷ []) l.atom (BodyOf r.0) r.1)), newly)
  newly_keeps listed NameBody ok = ((λ l i. let r = bodies l i in (r.0, get_left s.names (BodyOf (length s.made) ∷ []) l.atom (BodyOf r.0) r.1)), newly)
  newly_keeps listed (Make k) ok = (
    bodies,
    (λ ng i sub. elim (∈-append_cases ng s.nogoods (nogoods_of k) i) [
      | inl j ↦ inl (old_newly Free refl ok.0 ng j sub)
      | inr j ↦ elim (table_speaks (λ x. (a : A) × IsName s x a) k.inst.kind k.inst.neg k.body k.inst refl ok.4 (head_named k.inst.kind ok.2.0.kind ok.2.2.kind)
          (λ x m. let r = names_in s.names k.inst.pos ok.2.0.pos ok.2.2.pos x m in (r.0, r.2))
          (λ x m. let r = names_in s.names k.inst.neg ok.2.0.neg ok.2.2.neg x m in (r.0, r.2)) ng j) [
            | inl e ↦ inl e
            | inr w ↦ (let r = bodies w.0 (sub w.0 w.1) in let n = w.2 in let bad = sym n.1 ∙ r.1 in cc)
          ]
    ]),
  )
    where
      head_named : (kd : Kind ℕ) (ki : Kind A) → KindNames s.names kd ki → HeadIs (λ x. (a : A) × IsName s x a) kd
      head_named (Plain x) (Plain a) h = (a, h)
      head_named (Choice x) (Choice a) h = (a, h)
      head_named Constraint Constraint h = tt
      head_named (Plain x) (Choice a) h = absurd h
      head_named (Plain x) Constraint h = absurd h
      head_named (Choice x) (Plain a) h = absurd h
      head_named (Choice x) Constraint h = absurd h
      head_named Constraint (Plain a) h = absurd h
      head_named Constraint (Choice a) h = absurd h
  newly_keeps listed (Put a v n) ok = (bodies, newly)
  newly_keeps listed (Choose b up) ok = (chosen_bodies, (λ ng i sub. go (value_of s.stack b) refl ng i sub))
    where
      e : Entry
      e = entry_on s.stack b (decision up) Chosen

      k : Made K
      k = ok.3.0

      g : GoodMade core s k
      g = valid.made k ok.3.1

      act : IsActive s k b
      act = ok.3.2

      node : (j : ℕ) × (slice_get s.names b ≡ Some (BodyOf j)) × (slice_get s.made j ≡ Some k)
      node = g.body b act.has_body

      chosen_bodies : ChosenAreBodies (happens core s (Choose b up))
      chosen_bodies l i = elim (chosen_with-cases Chosen (value_of s.stack b) (lit b (is_up (decision up))) (chosen s.stack) l i) [
        | inl q ↦ (node.0, subst (λ (z : Lit). slice_get s.names z.atom ≡ Some (BodyOf node.0)) (sym q) node.1)
        | inr q ↦ bodies l q
      ]

      go : (v : Option Value) → value_of s.stack b ≡ v → (ng : Nogood) → ng ∈ s.nogoods → ng.lits ⊆ (chosen_with Chosen v (lit b (is_up (decision up))) (chosen s.stack)) → (ng.lits ≡ []) ⊎ IsLearnt s.nogoods s.phase ng
      go (Some v) w ng i sub = newly ng i sub
      go None w ng i sub = absurd (new_literal s.stack ng (ok.1 ng i) (ok.2 ng i) (lit b (is_up (decision up))) w
          (λ l m. elim (sub l m) [ inl q ↦ inl q | inr q ↦ inr (chosen_holds s.stack valid.good l q) ]))
  newly_keeps listed (Close x) ok = (bodies, newly)
  newly_keeps listed (Strike n) ok = (bodies, (λ ng i sub. strike_newly s.phase n ng (all_at_0 s.stack (lits_at s.nogoods n)) ok.0 (newly ng i sub)))
  newly_keeps listed (Learn Decisions ls) ok = (bodies, (λ ng i sub. learn_newly ls ng (inr ok.0.1) i sub))
  newly_keeps listed (Learn Enumerated ls) ok = (bodies, (λ ng i sub. learn_newly ls ng (inl ok.0.1) i sub))
  newly_keeps listed (Learn Analysed ls) ok = (
    bodies,
    (λ ng i sub. elim (∈-append_cases ng s.nogoods (nogood None ls ∷ []) i) [
      | inl j ↦ elim (newly ng j sub) [
        | inl e ↦ inl e
        | inr w ↦ absurd (ok.0.0.2 (λ l m. sub l (subst (λ z. l ∈ z) (lits_here ok.0.0.0 ng (subst (λ z. IsLearnt s.nogoods z ng) ok.0.0.1 w)) m)))
      ]
      | inr j ↦ inr (learnt_new s.phase ls ng (in_single j) (inr (inr (ok.0.0.0, ok.0.0.1))))
    ]),
  )
  newly_keeps listed (Learn Justified ls) ok = absurd ok.0
  newly_keeps listed (Keep n) ok = (
    bodies,
    (λ ng i sub. elim (newly ng i sub) [
      | inl e ↦ inl e
      | inr w ↦ inr (subst (λ z. IsLearnt s.nogoods z ng) ok.0 w)
    ]),
  )
  newly_keeps listed (CallWide x) ok = (
    bodies,
    (λ ng i sub. elim (newly ng i sub) [
      | inl e ↦ inl e
      | inr w ↦ absurd (not_wanted x ok.0 ng i w sub)
    ]),
  )
  newly_keeps listed (Justify patterns ls) ok = (
    (λ l i. bodies l (subst (λ z. l ∈ z) (chosen_first ls (length s.nogoods) s.stack) i)),
    (λ ng i sub. elim (∈-append_cases ng s.nogoods (nogood None ls ∷ []) i) [
      | inl j ↦ elim (newly ng j (λ l m. subst (λ z. l ∈ z) (chosen_first ls (length s.nogoods) s.stack) (sub l m))) [
        | inl e ↦ inl e
        | inr w ↦ inr (justified_learnt ng w)
      ]
      | inr j ↦ absurd (not_chosen (subst (λ z. lit ok.0.id true ∈ z) (chosen_first ls (length s.nogoods) s.stack)
          (sub (lit ok.0.id true) (subst (λ (z : Nogood). lit ok.0.id true ∈ z.lits) (sym (in_single j)) (subst (λ z. lit ok.0.id true ∈ z) (sym ok.0.lits_are) (inl refl))))))
    ]),
  )
    where
      not_chosen : ¬ (lit ok.0.id true ∈ chosen s.stack)
      not_chosen m = let r = bodies (lit ok.0.id true) m in let n = ok.0.named in let bad = sym n ∙ r.1 in cc

      justified_learnt : (ng : Nogood) → IsLearnt s.nogoods s.phase ng → IsLearnt (s.nogoods ++ nogood None ls ∷ []) (phase_justified s.phase (first_value ls s.stack) (length s.nogoods)) ng
      justified_learnt ng w = go s.phase (first_value ls s.stack) w
        where
          go : (phase : Phase) (v : Option Value) → IsLearnt s.nogoods phase ng → IsLearnt (s.nogoods ++ nogood None ls ∷ []) (phase_justified phase v (length s.nogoods)) ng
          go Free v h = absurd h
          go (MustLearn n) v h = get_left s.nogoods (nogood None ls ∷ []) n ng h
          go MustDecide v h = h
          go Found v h = h
          go (MustStrike n) v h = get_left s.nogoods (nogood None ls ∷ []) n ng h
          go (MustJump n) v h = get_left s.nogoods (nogood None ls ∷ []) n ng h
          go Over v h = tt
  newly_keeps listed (Back l) ok = (
    (λ x i. bodies x (chosen_back l s.stack x i)),
    (λ ng i sub. elim (newly ng i (λ x m. chosen_back l s.stack x (sub x m))) [
      | inl e ↦ inl e
      | inr w ↦ absurd (jumped ng w sub)
    ]),
  )
    where
      n : ℕ
      n = ok.1.0

      jumped : (ng : Nogood) → IsLearnt s.nogoods s.phase ng → ng.lits ⊆ chosen (back_to l s.stack) → ⊥
      jumped ng w sub =
          let h : slice_get s.nogoods n ≡ Some ng = subst (λ z. IsLearnt s.nogoods z ng) ok.1.1 w in
          let q : Some ng ≡ Some ok.1.2.0 = sym h ∙ ok.1.2.1 in
          let same : ng ≡ ok.1.2.0 = cc in
          unit_not (back_to l s.stack) (good_back core s l s.stack valid.good) ok.1.2.0 ok.1.2.2.0 ok.1.2.2.1 ok.1.2.2.2 (subst (λ (z : Nogood). z.lits ⊆ chosen (back_to l s.stack)) same sub)
  newly_keeps listed (Show ids) ok = (bodies, (λ ng i sub. inl (old_newly Free refl ok.0 ng i sub)))
  newly_keeps listed (Pass ids) ok = (bodies, (λ ng i sub. inl (old_newly Free refl ok.0 ng i sub)))

-- a legal journal leads to a state in which the literals chosen are of bodies, and new
pub legal_newly : {N A K : Type 0} (core : Rules N A K) (listed : List (List A)) (journal : List (Event A K)) → Legal core listed journal
    → ChosenAreBodies (replay core journal) × NewlyChosen (replay core journal)
legal_newly core listed [] legal = ((λ l i. absurd i), (λ ng i sub. absurd i))
legal_newly core listed (e ∷ journal) legal =
    let r = legal_newly core listed journal legal.0 in
    newly_keeps core (replay core journal) (legal_safe core listed journal legal.0).valid r.0 r.1 listed e legal.1
