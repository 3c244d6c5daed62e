-- A nogood that is justified for a closed atom is a superset of no earlier one: each closed atom stands apart from all nogoods.
use Rattle.std.proofs.Common.{◌≡◌, ℕ, ◌+◌, ◌⊎◌, Bool, true, false, cond, List, [], ◌∷◌, ◌++◌, length, refl, sym, ◌∙◌, ap, subst, inl, inr}
use Rattle.std.specs.Prelude.{Option, Some, None, slice_get, nat_le, nat_eq}
use Rattle.lists.specs.Lists.{◌∈◌, ◌⊆◌}
use Rattle.lists.proofs.ListLemmas.{∈-append_cases}
use Rattle.alpha_outside.specs.declared.pattern.Pattern.{Pattern}
use Rattle.search_values.specs.declared.entry.Why.{Why}
use Rattle.search_values.specs.declared.entry.Why.TheVariants.{Given, Chosen, Closed}
use Rattle.search_values.specs.declared.entry.Entry.{Entry}
use Rattle.search_values.specs.Values.{Value, True, MustBe, False, Lit, is_up, lit, value_of, entry_on, Holds, opened, level_of, back_to, all_at_0, chosen, is_closed, any_closed, before_closed, HasClosed, with_reason, explain}
use Rattle.search_values.specs.Nogoods.{Nogood, Gives}
use Rattle.search_values.specs.Instances.{Rules}
use Rattle.search_values.specs.Tables.{nogoods_of, Made}
use Rattle.search_values.specs.Ids.{AtomNode, Named, BodyOf}
use Rattle.journal_theory.specs.States.{Phase, Free, MustLearn, MustDecide, Found, MustStrike, MustJump, Over, State, IsName}
use Rattle.journal_theory.specs.Covers.{IsWanted, for_stuck, for_closed, for_unassigned, MayJustify, CanBeRuledOut}
use Rattle.journal_theory.specs.Events.{Analysed, Justified, Decisions, Enumerated, Event, NameTerm, NameAtom, NameBody, Number, Make, Put, Choose, Close, Strike, Keep, Learn, Justify, CallWide, Back, Show, Pass, MayStrike, phase_struck, phase_learned, first_value, phase_justified, lits_in, lits_at, explain_first, happens, IsUnitAt, Allowed}
use Rattle.search_values.specs.Values.{decision}
use Rattle.search_values.proofs.Basics.{in_single, get_left, get_last, value_cases, nat_eq-same}
use Rattle.search_values.proofs.Tables.{nogood}
use Rattle.journal_theory.proofs.Covers.{valueless}
use Rattle.journal_theory.proofs.Stack.{Good, GoodEntry, true_stays, good_back}
use Rattle.journal_theory.proofs.Explaining.{value_explain, holds_more, holds_before, chosen_first}
use Rattle.journal_theory.proofs.Central.{Valid}
use Rattle.journal_theory.proofs.Reasons.{holds_same}
use Rattle.journal_theory.proofs.Fresh.{NewlyChosen, ChosenAreBodies, IsLearnt, new_literal, not_wanted}
use Rattle.journal_theory.proofs.Since.{IsClean, clean_back}
use Rattle.journal_theory.proofs.Counting.{has_any_closed}

-- all literals of the nogood hold, but for the positive one of this atom
abbrev pub IsTight : ℕ → List Entry → Nogood → Type 0
IsTight a stack ng = (l : Lit) → l ∈ ng.lits → (l ≡ lit a true) ⊎ Holds stack l

-- this is so of each closed entry without a reason: of its atom, and of the stack below
abbrev pub EachClosed : (ℕ → List Entry → Type 0) → List Entry → Type 0
EachClosed P [] = Unit {0}
EachClosed P (e ∷ rest) = (e.why ≡ Closed None → P e.atom rest) × EachClosed P rest

-- the nogood at hand is left out: one of literals chosen that was learned and struck, and one at which levels are to be taken away
abbrev pub IsLeftOut : List Nogood → List Lit → Phase → Nogood → Type 0
IsLeftOut ngs ls (MustStrike n) ng = (slice_get ngs n ≡ Some ng) × (ng.lits ⊆ ls)
IsLeftOut ngs ls (MustLearn n) ng = (slice_get ngs n ≡ Some ng) × (ng.lits ⊆ ls)
IsLeftOut ngs ls (MustJump n) ng = slice_get ngs n ≡ Some ng
IsLeftOut ngs ls Over ng = Unit {0}
IsLeftOut ngs ls Free ng = ⊥
IsLeftOut ngs ls MustDecide ng = ⊥
IsLeftOut ngs ls Found ng = ⊥

-- no nogood is tight at a closed atom, but for one that is left out
abbrev pub StandsApart : {N A K : Type 0} → State N A K → ℕ → List Entry → Type 0
StandsApart s a rest = (ng : Nogood) → ng ∈ s.nogoods → IsTight a rest ng → IsLeftOut s.nogoods (chosen s.stack) s.phase ng

abbrev pub ClosedApart : {N A K : Type 0} → State N A K → Type 0
ClosedApart s = EachClosed (StandsApart s) s.stack

closed_pick : (P : ℕ → List Entry → Type 0) (b : Bool) (stack other : List Entry) → EachClosed P stack → EachClosed P other → EachClosed P (cond b stack other)
closed_pick P true stack other g h = g
closed_pick P false stack other g h = h

pub closed_back : (P : ℕ → List Entry → Type 0) (l : ℕ) (stack : List Entry) → EachClosed P stack → EachClosed P (back_to l stack)
closed_back P l [] h = tt
closed_back P l (e ∷ rest) h = closed_pick P (nat_le (level_of rest + opened e.why) l) (e ∷ rest) (back_to l rest) h (closed_back P l rest h.1)

module _ {N A K : Type 0} (core : Rules N A K) (s : State N A K) where
  -- what is known of a closed entry on a stack: its atom is false there, was unassigned before, and what held below holds
  pub record Below (whole : List Entry) (a : ℕ) (rest : List Entry) : Type 0 where
    pub low : Holds whole (lit a false)
    pub free : value_of rest a ≡ None
    pub up : (l : Lit) → Holds rest l → Holds whole l
    pub trues : (x : ℕ) → value_of rest x ≡ Some True → value_of whole x ≡ Some True
    pub calm : (x : ℕ) (b : A) → IsName s x b → ¬ (value_of rest x ≡ Some MustBe)

  below_here : (e : Entry) (rest whole : List Entry) → GoodEntry core s e rest → IsClean s.names (e ∷ rest) → e.why ≡ Closed None → ((l : Lit) → Holds (e ∷ rest) l → Holds whole l)
      → ((x : ℕ) → value_of (e ∷ rest) x ≡ Some True → value_of whole x ≡ Some True) → Below whole e.atom rest
  below_here e rest whole g clean w up trues = record {
    low = up (lit e.atom false) (e.value, here, ap is_up down);
    free = elim g.may_push [ inl n ↦ n | inr m ↦ (let q = m.1 in let f = down in cc) ];
    up = λ l h. up l (holds_more core s e rest g l h);
    trues = λ x h. trues x (true_stays core s e rest g x h);
    calm = (clean.0 None w).1;
  }
    where
      down : e.value ≡ False
      down = g.closed_down None w

      here : value_of (e ∷ rest) e.atom ≡ Some e.value
      here = elim (value_cases e rest e.atom) [ inl c ↦ c.1 | inr c ↦ absurd (c.0 refl) ]

  -- what holds of each closed entry becomes another thing
  map_below : (P Q : ℕ → List Entry → Type 0) (whole stack : List Entry) → Good core s stack → IsClean s.names stack → ((l : Lit) → Holds stack l → Holds whole l)
      → ((x : ℕ) → value_of stack x ≡ Some True → value_of whole x ≡ Some True)
      → ((a : ℕ) (rest : List Entry) → Below whole a rest → P a rest → Q a rest) → EachClosed P stack → EachClosed Q stack
  map_below P Q whole [] g clean up trues f h = tt
  map_below P Q whole (e ∷ rest) g clean up trues f h = (
    (λ w. f e.atom rest (below_here e rest whole g.0 clean w up trues) (h.0 w)),
    map_below P Q whole rest g.1 clean.1 (λ l k. up l (holds_more core s e rest g.0 l k)) (λ x k. trues x (true_stays core s e rest g.0 x k)) f h.1,
  )

  pub each_map : (P Q : ℕ → List Entry → Type 0) (stack : List Entry) → Good core s stack → IsClean s.names stack
      → ((a : ℕ) (rest : List Entry) → Below stack a rest → P a rest → Q a rest) → EachClosed P stack → EachClosed Q stack
  each_map P Q stack g clean f h = map_below P Q stack stack g clean (λ l k. k) (λ x k. k) f h

  -- what holds of the closed entry of this atom, below which all is that stood before the first closed entry
  pub each_at : (P : ℕ → List Entry → Type 0) (stack : List Entry) → Good core s stack → (e : Entry) → e ∈ stack → e.why ≡ Closed None → EachClosed P stack
      → (rest : List Entry) × P e.atom rest × ((l : Lit) → Holds (before_closed stack) l → Holds rest l)
  each_at P [] g e i w h = absurd i
  each_at P (t ∷ rest) g e (inl same) w h =
      let v : t.why ≡ Closed None = ap (λ (z : Entry). z.why) (sym same) ∙ w in
      (rest, subst (λ (z : Entry). P z.atom rest) (sym same) (h.0 v), (λ l k. go (any_closed rest) (is_closed t.why) (ap is_closed v) l k (holds_before core s rest g.1 l)))
    where
      go : (b d : Bool) → d ≡ true → (l : Lit) → Holds (cond b (before_closed rest) (cond d rest (t ∷ rest))) l → (Holds (before_closed rest) l → Holds rest l) → Holds rest l
      go true d c l k below = below k
      go false true c l k below = k
      go false false c l k below = cc
  each_at P (t ∷ rest) g e (inr i) w h =
      let r = each_at P rest g.1 e i w h.1 in
      (r.0, r.1, (λ l k. r.2 l (go (any_closed rest) (has_any_closed rest e i (ap is_closed w)) l k)))
    where
      go : (b : Bool) → b ≡ true → (l : Lit) → Holds (cond b (before_closed rest) (cond (is_closed t.why) rest (t ∷ rest))) l → Holds (before_closed rest) l
      go true c l k = k
      go false c l k = cc

  -- both signs don't hold
  pub clash : (stack : List Entry) (a : ℕ) → Holds stack (lit a true) → Holds stack (lit a false) → ⊥
  clash stack a h k = let e : Some h.0 ≡ Some k.0 = sym h.1 ∙ k.1 in let f : h.0 ≡ k.0 = cc in let g : true ≡ false = sym h.2 ∙ ap is_up f ∙ k.2 in cc

  -- a nogood that is unit is tight at no closed atom
  unit_not_tight : (whole : List Entry) (a : ℕ) (rest : List Entry) → Below whole a rest → (ng : Nogood) (x : ℕ) (v : Value) → Gives whole ng x v → ¬ IsTight a rest ng
  unit_not_tight whole a rest b ng x True r tight = elim (tight (lit x false) r.among) [
    | inl e ↦ (let w : false ≡ true = ap (λ (z : Lit). z.positive) e in cc)
    | inr k ↦ (let h = b.up (lit x false) k in elim r.not_yet [
      | inl n ↦ (let q = h.1 in cc)
      | inr m ↦ (let q : Some h.0 ≡ Some MustBe = sym h.1 ∙ m in let u : h.0 ≡ MustBe = cc in let w : true ≡ false = sym (ap is_up u) ∙ h.2 in cc)
    ])
  ]
  unit_not_tight whole a rest b ng x MustBe r tight = elim (tight (lit x false) r.0.among) [
    | inl e ↦ (let w : false ≡ true = ap (λ (z : Lit). z.positive) e in cc)
    | inr k ↦ (let h = b.up (lit x false) k in let n = r.0.unassigned in let q = h.1 in cc)
  ]
  unit_not_tight whole a rest b ng x False r tight = elim (tight (lit x true) r.among) [
    | inl e ↦ (let at : x ≡ a = ap (λ (z : Lit). z.atom) e in let h = b.low in let n : value_of whole a ≡ None = subst (λ z. value_of whole z ≡ None) at r.unassigned in let q = h.1 in cc)
    | inr k ↦ (let h = b.up (lit x true) k in let n = r.unassigned in let q = h.1 in cc)
  ]

-- ---- events

-- a nogood of more is an earlier one, or one of those that came
abbrev Came : List Nogood → List Nogood → Nogood → Type 0
Came ngs more ng = (ng ∈ ngs) ⊎ (ng ∈ more)

-- where nothing is left out, no nogood is tight
pub none_out : (ngs : List Nogood) (ls : List Lit) (phase other : Phase) → phase ≡ other → (ng : Nogood) → IsLeftOut ngs ls phase ng → IsLeftOut ngs ls other ng
none_out ngs ls phase other e ng h = subst (λ z. IsLeftOut ngs ls z ng) e h

pub closed_explain : (P Q : ℕ → List Entry → Type 0) (a n : ℕ) (stack : List Entry) → ((b : ℕ) (rest : List Entry) → ¬ (b ≡ a) → P b rest → Q b (explain a n rest)) → EachClosed P stack
    → EachClosed Q (explain a n stack)
closed_explain P Q a n [] f h = tt
closed_explain P Q a n (e ∷ rest) f h = (
  (λ w. let r = was_open (nat_eq e.atom a) refl e.why w in f e.atom rest r.0 (h.0 r.1)),
  closed_explain P Q a n rest f h.1,
)
  where
    was_open : (b : Bool) → nat_eq e.atom a ≡ b → (w : Why) → cond b (with_reason w n) w ≡ Closed None → (¬ (e.atom ≡ a)) × (w ≡ Closed None)
    was_open true q (Given m) h = cc
    was_open true q Chosen h = cc
    was_open true q (Closed None) h = cc
    was_open true q (Closed (Some m)) h = cc
    was_open false q w h = ((λ e. differ (nat_eq-same _) e q), h)
      where
        differ : {x y : ℕ} → nat_eq x x ≡ true → x ≡ y → nat_eq x y ≡ false → ⊥
        differ {x} {y} t e f = let g : nat_eq x x ≡ false = subst (λ z. nat_eq x z ≡ false) (sym e) f in cc

-- the same of all atoms but this one
abbrev ApartBut : {N A K : Type 0} → State N A K → ℕ → ℕ → List Entry → Type 0
ApartBut s x a rest = ¬ (a ≡ x) → StandsApart s a rest

module _ {N A K : Type 0} (core : Rules N A K) (s : State N A K) (valid : Valid core s) (bodies : ChosenAreBodies s) (newly : NewlyChosen s) (clean : IsClean s.names s.stack) (apart : ClosedApart s) where
  -- where the phase is another, and nothing is left out before
  same_stack : (phase : Phase) (listed : List (List A)) → ((ng : Nogood) → ng ∈ s.nogoods → IsLeftOut s.nogoods (chosen s.stack) s.phase ng → IsLeftOut s.nogoods (chosen s.stack) phase ng)
      → ClosedApart (record s { phase = phase })
  same_stack phase listed f = each_map core s (StandsApart s) (StandsApart (record s { phase = phase })) s.stack valid.good clean (λ a rest b p ng i tight. f ng i (p ng i tight)) apart

  -- what is left out of no nogood in a free phase
  free_out : (ls : List Lit) (ngs : List Nogood) (ng : Nogood) → s.phase ≡ Free → IsLeftOut ngs ls s.phase ng → ⊥
  free_out ls ngs ng e h = none_out ngs ls s.phase Free e ng h

  -- one more entry, where the phase is free
  pushed_apart : (e : Entry) (closing : Bool) → s.phase ≡ Free → (e.why ≡ Closed None → (ng : Nogood) → ng ∈ s.nogoods → ¬ IsTight e.atom s.stack ng) → ClosedApart (record s { stack = e ∷ s.stack; closing = closing })
  pushed_apart e closing free f = (
    (λ w ng i tight. absurd (f w ng i tight)),
    each_map core s (StandsApart s) (StandsApart (record s { stack = e ∷ s.stack; closing = closing })) s.stack valid.good clean
        (λ a rest b p ng i tight. absurd (free_out (chosen s.stack) s.nogoods ng free (p ng i tight))) apart,
  )

  strike_out : (n : ℕ) (low : Bool) (phase : Phase) → MayStrike phase n → (ng : Nogood) → IsLeftOut s.nogoods (chosen s.stack) phase ng → IsLeftOut s.nogoods (chosen s.stack) (phase_struck n low) ng
  strike_out n true phase w ng h = tt
  strike_out n false Free w ng h = absurd h
  strike_out n false MustDecide w ng h = absurd h
  strike_out n false Found w ng h = absurd h
  strike_out n false (MustStrike m) w ng h = elim w [ inl e ↦ cc | inr e ↦ (let same : m ≡ n = cc in (subst (λ z. slice_get s.nogoods z ≡ Some ng) same h.0, h.1)) ]
  strike_out n false (MustLearn m) w ng h = elim w [ inl e ↦ cc | inr e ↦ cc ]
  strike_out n false (MustJump m) w ng h = elim w [ inl e ↦ cc | inr e ↦ cc ]
  strike_out n false Over w ng h = elim w [ inl e ↦ cc | inr e ↦ cc ]

  -- one more nogood without a head, by what becomes of those left out and of itself
  learned_apart : (ls : List Lit) (phase : Phase)
      → ((ng : Nogood) → ng ∈ s.nogoods → IsLeftOut s.nogoods (chosen s.stack) s.phase ng → ⊥)
      → IsLeftOut (s.nogoods ++ nogood None ls ∷ []) (chosen s.stack) phase (nogood None ls)
      → ClosedApart (record s { nogoods = s.nogoods ++ nogood None ls ∷ []; phase = phase })
  learned_apart ls phase old new = each_map core s (StandsApart s) (StandsApart (record s { nogoods = s.nogoods ++ nogood None ls ∷ []; phase = phase })) s.stack valid.good clean
      (λ a rest b p ng i tight. elim (∈-append_cases ng s.nogoods (nogood None ls ∷ []) i) [
        | inl j ↦ absurd (old ng j (p ng j tight))
        | inr j ↦ subst (λ z. IsLeftOut (s.nogoods ++ nogood None ls ∷ []) (chosen s.stack) phase z) (sym (in_single j)) new
      ])
      apart

  new_at : (ls : List Lit) → slice_get (s.nogoods ++ nogood None ls ∷ []) (length s.nogoods) ≡ Some (nogood None ls)
  new_at ls = get_last s.nogoods (nogood None ls)

  wide_out : (x : ℕ) → IsWanted core s x → (ng : Nogood) → ng ∈ s.nogoods → IsLeftOut s.nogoods (chosen s.stack) s.phase ng → ⊥
  wide_out x (for_stuck e stuck) ng i h = free_out (chosen s.stack) s.nogoods ng e h
  wide_out x (for_unassigned e can) ng i h = free_out (chosen s.stack) s.nogoods ng e h
  wide_out x (for_closed n struck ls e at w a among) ng i h =
      let out = none_out s.nogoods (chosen s.stack) s.phase (MustLearn n) e ng h in
      not_wanted core s valid bodies newly x (for_closed n struck ls e at w a among) ng i (subst (λ z. IsLearnt s.nogoods z ng) (sym e) out.0) out.1

  back_apart : (level : ℕ) → ((n : ℕ) × (s.phase ≡ MustJump n) × IsUnitAt (back_to level s.stack) s.nogoods n) → ClosedApart (record s { stack = back_to level s.stack; closing = false; phase = Free })
  back_apart level at =
      let s' : State N A K = record s { stack = back_to level s.stack; closing = false; phase = Free } in
      each_map core s (StandsApart s) (StandsApart s') (back_to level s.stack) (good_back core s level s.stack valid.good) (clean_back s.names level s.stack clean)
      (λ a rest b p ng i tight.
      let out = none_out s.nogoods (chosen s.stack) s.phase (MustJump at.0) at.1 ng (p ng i tight) in
      let q : Some at.2.0 ≡ Some ng = sym at.2.1 ∙ out in
      let same : at.2.0 ≡ ng = cc in
      absurd (unit_not_tight core s (back_to level s.stack) a rest b ng at.2.2.0 at.2.2.1 (subst (λ z. Gives (back_to level s.stack) z at.2.2.0 at.2.2.1) same at.2.2.2) tight))
      (closed_back (StandsApart s) level s.stack apart)

  -- a nogood that is justified for a stuck atom is tight at no closed atom
  stuck_loose : (patterns : List Pattern) (ls : List Lit) (may : MayJustify core s patterns ls) → value_of s.stack may.id ≡ Some MustBe → (a : ℕ) (rest : List Entry) → Below core s s.stack a rest
      → ¬ IsTight a rest (nogood None ls)
  stuck_loose patterns ls may must a rest b tight = elim (tight (lit may.id true) (subst (λ z. lit may.id true ∈ z) (sym may.lits_are) (inl refl))) [
    | inl e ↦ (let same : may.id ≡ a = ap (λ (z : Lit). z.atom) e in
        let m : value_of s.stack a ≡ Some MustBe = subst (λ z. value_of s.stack z ≡ Some MustBe) same must in
        clash core s s.stack a (MustBe, m, refl) b.low)
    | inr h ↦ by_value h.0 h.1 h.2
  ]
    where
      by_value : (v : Value) → value_of rest may.id ≡ Some v → is_up v ≡ true → ⊥
      by_value True e u = (let w = sym (b.trues may.id e) ∙ must in cc)
      by_value MustBe e u = b.calm may.id may.atom may.named e
      by_value False e u = cc

  -- one that is justified for a closed atom is tight at no other closed atom
  closed_loose : (patterns : List Pattern) (ls : List Lit) (may : MayJustify core s patterns ls) → Holds s.stack (lit may.id false) → (a : ℕ) (rest : List Entry) → Below core s s.stack a rest
      → ¬ (a ≡ may.id) → ¬ IsTight a rest (nogood None ls)
  closed_loose patterns ls may low a rest b other tight = elim (tight (lit may.id true) (subst (λ z. lit may.id true ∈ z) (sym may.lits_are) (inl refl))) [
    | inl e ↦ other (sym (ap (λ (z : Lit). z.atom) e))
    | inr h ↦ clash core s s.stack may.id (b.up (lit may.id true) h) low
  ]

  -- a closed atom is false
  closed_low : (stack : List Entry) → Good core s stack → (e : Entry) → e ∈ stack → e.why ≡ Closed None → Holds stack (lit e.atom false)
  closed_low [] g e i w = absurd i
  closed_low (t ∷ rest) g e (inl same) w =
      let v : t.why ≡ Closed None = ap (λ (z : Entry). z.why) (sym same) ∙ w in
      subst (λ (z : Entry). Holds (t ∷ rest) (lit z.atom false)) (sym same)
      (t.value, elim (value_cases t rest t.atom) [ inl c ↦ c.1 | inr c ↦ absurd (c.0 refl) ], ap is_up (g.0.closed_down None v))
  closed_low (t ∷ rest) g e (inr i) w = holds_more core s t rest g.0 (lit e.atom false) (closed_low rest g.1 e i w)

  -- one that is justified for an atom without a value is tight at no closed atom
  valueless_loose : (patterns : List Pattern) (ls : List Lit) (may : MayJustify core s patterns ls) → CanBeRuledOut core s may.id → (a : ℕ) (rest : List Entry) → Below core s s.stack a rest
      → ¬ (a ≡ may.id) → ¬ IsTight a rest (nogood None ls)
  valueless_loose patterns ls may can a rest b other tight = elim (tight (lit may.id true) (subst (λ z. lit may.id true ∈ z) (sym may.lits_are) (inl refl))) [
    | inl e ↦ other (sym (ap (λ (z : Lit). z.atom) e))
    | inr h ↦ valueless core s can (b.up (lit may.id true) h).1
  ]

  -- a nogood that is justified is tight at no closed atom but the one that it is for
  justified_loose : (patterns : List Pattern) (ls : List Lit) (may : MayJustify core s patterns ls) → IsWanted core s may.id → (a : ℕ) (rest : List Entry) → Below core s s.stack a rest
      → ¬ (a ≡ may.id) → ¬ IsTight a rest (nogood None ls)
  justified_loose patterns ls may (for_stuck e stuck) a rest b other = stuck_loose patterns ls may stuck.must_be a rest b
  justified_loose patterns ls may (for_unassigned e can) a rest b other = valueless_loose patterns ls may can a rest b other
  justified_loose patterns ls may (for_closed n ng ms e at w x y) a rest b other =
      closed_loose patterns ls may (subst (λ z. Holds s.stack (lit z false)) w.2 (closed_low s.stack valid.good w.0 w.1 w.3)) a rest b other

  -- what is left out after a nogood was justified
  justified_out : (x : ℕ) → IsWanted core s x → (more : List Nogood) (v : Option Value) (n : ℕ) (ng : Nogood) → IsLeftOut s.nogoods (chosen s.stack) s.phase ng → (ls : List Lit) → ls ≡ chosen s.stack
      → IsLeftOut (s.nogoods ++ more) ls (phase_justified s.phase v n) ng
  justified_out x (for_stuck e stuck) more v n ng h ls same = absurd (free_out (chosen s.stack) s.nogoods ng e h)
  justified_out x (for_unassigned e can) more v n ng h ls same = absurd (free_out (chosen s.stack) s.nogoods ng e h)
  justified_out x (for_closed m struck ms e at w a i) more v n ng h ls same =
      let out = none_out s.nogoods (chosen s.stack) s.phase (MustLearn m) e ng h in
      subst (λ z. IsLeftOut (s.nogoods ++ more) ls (phase_justified z v n) ng) (sym e)
      (get_left s.nogoods more m ng out.0, subst (λ z. ng.lits ⊆ z) (sym same) out.1)

  -- one more nogood is justified
  justify_apart : (patterns : List Pattern) (ls : List Lit) → MayJustify core s patterns ls → ClosedApart (happens core s (Justify patterns ls))
  justify_apart patterns ls may = go ls may.lits_are
    where
      s' : State N A K
      s' = happens core s (Justify patterns ls)

      go : (ks : List Lit) → ks ≡ lit may.id true ∷ may.reasons → EachClosed (StandsApart s') (explain_first ks (length s.nogoods) s.stack)
      go [] q = cc
      go (k ∷ ks) q =
          let at : k.atom ≡ may.id = (let w : k ≡ lit may.id true = cc in ap (λ (z : Lit). z.atom) w) in
          closed_explain (ApartBut s' may.id) (StandsApart s') k.atom (length s.nogoods) s.stack
          (λ b rest other p ng i tight. p (λ e. other (e ∙ sym at)) ng i (λ l j. elim (tight l j) [ inl e ↦ inl e | inr h ↦ inr (holds_same (explain k.atom (length s.nogoods) rest) rest (λ x. sym (value_explain k.atom (length s.nogoods) rest x)) l h) ]))
          (each_map core s (StandsApart s) (ApartBut s' may.id) s.stack valid.good clean (λ a rest b p other ng i tight. elim (∈-append_cases ng s.nogoods (nogood None ls ∷ []) i) [
            | inl j ↦ justified_out may.id may.wanted (nogood None ls ∷ []) (first_value ls s.stack) (length s.nogoods) ng (p ng j tight) (chosen s'.stack) (chosen_first ls (length s.nogoods) s.stack)
            | inr j ↦ absurd (justified_loose patterns ls may may.wanted a rest b other (subst (λ z. IsTight a rest z) (in_single j) tight))
          ]) apart)

  -- the nogoods of one more instance
  made_apart : (k : Made K) → s.phase ≡ Free → EachClosed (λ a rest. (ng : Nogood) → ng ∈ nogoods_of k → ¬ IsTight a rest ng) s.stack → ClosedApart (happens core s (Make k))
  made_apart k free fresh = both s.stack valid.good clean apart fresh
    where
      both : (stack : List Entry) → Good core s stack → IsClean s.names stack → EachClosed (StandsApart s) stack → EachClosed (λ a rest. (ng : Nogood) → ng ∈ nogoods_of k → ¬ IsTight a rest ng) stack
          → EachClosed (StandsApart (happens core s (Make k))) stack
      both [] g cl p q = tt
      both (e ∷ rest) g cl p q = (
        (λ w ng i tight. elim (∈-append_cases ng s.nogoods (nogoods_of k) i) [
          | inl j ↦ absurd (free_out (chosen s.stack) s.nogoods ng free (p.0 w ng j tight))
          | inr j ↦ absurd (q.0 w ng j tight)
        ]),
        both rest g.1 cl.1 p.1 q.1,
      )

  -- the names don't matter
  names_apart : (names : List (AtomNode A)) → ClosedApart (record s { names = names })
  names_apart names = each_map core s (StandsApart s) (StandsApart (record s { names = names })) s.stack valid.good clean (λ a rest b p. p) apart

  -- each event keeps it
  pub apart_keep : (listed : List (List A)) (e : Event A K) → Allowed core listed s e
      → ((k : Made K) → e ≡ Make k → EachClosed (λ a rest. (ng : Nogood) → ng ∈ nogoods_of k → ¬ IsTight a rest ng) s.stack)
      → ClosedApart (happens core s e)
  apart_keep listed (NameTerm node) ok fresh = each_map core s (StandsApart s) (StandsApart (happens core s (NameTerm node))) s.stack valid.good clean (λ a rest b p. p) apart
  apart_keep listed (NameAtom a) ok fresh = names_apart (s.names ++ Named a ∷ [])
  apart_keep listed NameBody ok fresh = names_apart (s.names ++ BodyOf (length s.made) ∷ [])
  apart_keep listed (Number x a number) ok fresh = each_map core s (StandsApart s) (StandsApart (happens core s (Number x a number))) s.stack valid.good clean (λ a rest b p. p) apart
  apart_keep listed (Make k) ok fresh = made_apart k ok.0 (fresh k refl)
  apart_keep listed (Put a v n) ok fresh = pushed_apart (entry_on s.stack a v (Given n)) s.closing ok.0 (λ w. cc)
  apart_keep listed (Choose b up) ok fresh = pushed_apart (entry_on s.stack b (decision up) Chosen) false ok.0 (λ w. cc)
  apart_keep listed (Close x) ok fresh = pushed_apart (entry_on s.stack x False (Closed None)) true ok.0 (λ w ng i tight. new_literal s.stack ng (ok.1 ng i) (ok.2 ng i) (lit x true) ok.4 tight)
  apart_keep listed (Strike n) ok fresh = same_stack (phase_struck n (all_at_0 s.stack (lits_at s.nogoods n))) listed (λ ng i h. strike_out n (all_at_0 s.stack (lits_at s.nogoods n)) s.phase ok.0 ng h)
  apart_keep listed (Keep n) ok fresh = each_map core s (StandsApart s) (StandsApart (happens core s (Keep n))) s.stack valid.good clean
      (λ a rest b p ng i tight. (none_out s.nogoods (chosen s.stack) s.phase (MustLearn n) ok.0 ng (p ng i tight)).0) apart
  apart_keep listed (Learn Analysed ls) ok fresh =
      learned_apart ls (phase_learned s.phase (length s.nogoods))
      (λ ng i h. let out = none_out s.nogoods (chosen s.stack) s.phase (MustLearn ok.0.0.0) ok.0.0.1 ng h in
      ok.0.0.2 (λ l m. out.1 l (subst (λ z. l ∈ z) (ap lits_in out.0) m)))
      (subst (λ z. IsLeftOut (s.nogoods ++ nogood None ls ∷ []) (chosen s.stack) (phase_learned z (length s.nogoods)) (nogood None ls)) (sym ok.0.0.1) (new_at ls))
  apart_keep listed (Learn Justified ls) ok fresh = absurd ok.0
  apart_keep listed (Learn Decisions ls) ok fresh =
      learned_apart ls (phase_learned s.phase (length s.nogoods)) (λ ng i h. none_out s.nogoods (chosen s.stack) s.phase MustDecide ok.0.1 ng h)
      (subst (λ z. IsLeftOut (s.nogoods ++ nogood None ls ∷ []) (chosen s.stack) (phase_learned z (length s.nogoods)) (nogood None ls)) (sym ok.0.1) (new_at ls, (λ l i. subst (λ z. l ∈ z) ok.0.0 i)))
  apart_keep listed (Learn Enumerated ls) ok fresh =
      learned_apart ls (phase_learned s.phase (length s.nogoods)) (λ ng i h. none_out s.nogoods (chosen s.stack) s.phase Found ok.0.1 ng h)
      (subst (λ z. IsLeftOut (s.nogoods ++ nogood None ls ∷ []) (chosen s.stack) (phase_learned z (length s.nogoods)) (nogood None ls)) (sym ok.0.1) (new_at ls))
  apart_keep listed (Justify patterns ls) ok fresh = justify_apart patterns ls ok.0
  apart_keep listed (CallWide x) ok fresh = same_stack MustDecide listed (λ ng i h. wide_out x ok.0 ng i h)
  apart_keep listed (Back level) ok fresh = back_apart level ok.1
  apart_keep listed (Show ids) ok fresh = each_map core s (StandsApart s) (StandsApart (happens core s (Show ids))) s.stack valid.good clean
      (λ a rest b p ng i tight. free_out (chosen s.stack) s.nogoods ng ok.0 (p ng i tight)) apart
  apart_keep listed (Pass ids) ok fresh = each_map core s (StandsApart s) (StandsApart (happens core s (Pass ids))) s.stack valid.good clean
      (λ a rest b p ng i tight. free_out (chosen s.stack) s.nogoods ng ok.0 (p ng i tight)) apart

  -- so what is justified for a closed atom is new
  pub closed_is_new : (patterns : List Pattern) (ls : List Lit) → MayJustify core s patterns ls → (n : ℕ) → s.phase ≡ MustLearn n → (ng : Nogood) → ng ∈ s.nogoods → ¬ (ng.lits ⊆ ls)
  closed_is_new patterns ls may n phase ng i sub = by_wanted may.wanted
    where
      by_wanted : IsWanted core s may.id → ⊥
      by_wanted (for_stuck e stuck) = (let q = sym e ∙ phase in cc)
      by_wanted (for_unassigned e can) = (let q = sym e ∙ phase in cc)
      by_wanted (for_closed m struck ms e at w x y) =
          let r = each_at core s (StandsApart s) s.stack valid.good w.0 w.1 w.3 apart in
          let tight : IsTight w.0.atom r.0 ng = (λ l j. elim (subst (λ z. l ∈ z) may.lits_are (sub l j)) [
            | inl q ↦ inl (q ∙ ap (λ z. lit z true) (sym w.2))
            | inr k ↦ inr (r.2 l (may.before l k))
          ]) in
          let out = none_out s.nogoods (chosen s.stack) s.phase (MustLearn m) e ng (r.1 ng i tight) in
          not_wanted core s valid bodies newly may.id (for_closed m struck ms e at w x y) ng i (subst (λ z. IsLearnt s.nogoods z ng) (sym e) out.0) out.1

-- what is justified for an atom without a value is new too: an earlier nogood without the atom would be struck, and one with it would be unit
pub ruled_out_is_new : {N A K : Type 0} (core : Rules N A K) (s : State N A K) → Valid core s → (patterns : List Pattern) (ls : List Lit) (may : MayJustify core s patterns ls)
    → CanBeRuledOut core s may.id → (ng : Nogood) → ng ∈ s.nogoods → ¬ (ng.lits ⊆ ls)
ruled_out_is_new core s valid patterns ls may can ng i sub =
    new_literal s.stack ng (can.none_struck ng i) (can.none_unit ng i) (lit may.id true) can.no_value (λ l j. elim (subst (λ z. l ∈ z) may.lits_are (sub l j)) [
      | inl q ↦ inl q
      | inr k ↦ inr (holds_before core s s.stack valid.good l (may.before l k))
    ])

-- ---- journals

-- where nothing is closed, all is so of each closed entry
pub none_closed : (P : ℕ → List Entry → Type 0) (stack : List Entry) → ¬ HasClosed stack → EachClosed P stack
none_closed P [] h = tt
none_closed P (e ∷ rest) h = ((λ w. absurd (h (e, inl refl, (None, w)))), none_closed P rest (λ c. h (c.0, inr c.1, c.2)))
