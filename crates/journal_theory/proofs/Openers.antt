-- A closed atom isn't alone at the highest level of a struck nogood: it would have been unit before the atom was closed.
use Rattle.std.proofs.Common.{◌≡◌, ℕ, ◌+◌, ◌≤◌, ◌<◌, ◌⊎◌, Bool, true, false, cond, List, [], ◌∷◌, ◌++◌, length, refl, sym, ◌∙◌, ap, subst, inl, inr, arith}
use Rattle.std.specs.Prelude.{Option, Some, None, slice_get, nat_le, nat_eq}
use Rattle.lists.specs.Lists.{◌∈◌, ◌⊆◌}
use Rattle.lists.proofs.ListLemmas.{∈-append_left, ∈-append_cases}
use Rattle.alpha_outside.specs.declared.pattern.Pattern.{Pattern}
use Rattle.search_values.specs.declared.entry.Why.{Why}
use Rattle.search_values.specs.declared.entry.Why.TheVariants.{Given, Chosen, Closed}
use Rattle.search_values.specs.declared.entry.Entry.{Entry}
use Rattle.search_values.specs.Values.{Value, True, MustBe, False, Lit, is_up, lit, value_of, entry_on, Holds, opened, level_of, back_to, first_level, all_at_0, chosen, is_closed, HasClosed, with_reason, explain}
use Rattle.search_values.specs.Nogoods.{Nogood, Gives}
use Rattle.search_values.specs.Instances.{Kind, Plain, Choice, Constraint, Rules}
use Rattle.search_values.specs.Tables.{Made, lits_of, table_of, nogoods_of}
use Rattle.search_values.specs.Ids.{AtomNode, Named, BodyOf}
use Rattle.journal_theory.specs.States.{Phase, Free, MustLearn, MustDecide, Found, MustStrike, MustJump, Over, State, IsPending}
use Rattle.journal_theory.specs.Covers.{IsWanted, for_stuck, for_closed, for_unassigned, MayJustify}
use Rattle.journal_theory.specs.Events.{Analysed, Justified, Decisions, Enumerated, Event, NameTerm, NameAtom, NameBody, Number, Make, Put, Choose, Close, Strike, Keep, Learn, Justify, CallWide, Back, Show, Pass, MayStrike, phase_struck, phase_learned, first_value, phase_justified, lits_in, lits_at, explain_first, happens, IsUnitAt, BodyIsNext, Allowed}
use Rattle.search_values.specs.Values.{decision}
use Rattle.journal_theory.specs.Journals.{replay, Legal}
use Rattle.journal_theory.specs.Laws.{HighestIsNotClosed}
use Rattle.search_values.proofs.Basics.{in_single, get_in, get_left, get_last, value_cases, lit_is}
use Rattle.journal_theory.proofs.Covers.{valueless}
use Rattle.journal_theory.proofs.Meaning.{Grows}
use Rattle.search_values.proofs.Tables.{nogood, set_of-all, lits_of-in}
use Rattle.journal_theory.proofs.Stack.{Good, GoodEntry, true_stays, good_back, at_level}
use Rattle.journal_theory.proofs.Explaining.{value_explain, holds_more, chosen_first}
use Rattle.journal_theory.proofs.Central.{Valid}
use Rattle.journal_theory.proofs.Keep.{name_grows}
use Rattle.journal_theory.proofs.Events.{legal_safe, make_grows}
use Rattle.journal_theory.proofs.Support.{Founds, legal_founds}
use Rattle.journal_theory.proofs.Reasons.{holds_same}
use Rattle.journal_theory.proofs.Fresh.{NewlyChosen, ChosenAreBodies, IsLearnt, new_literal, not_wanted, chosen_alone, legal_newly}
use Rattle.journal_theory.proofs.Since.{IsClean, clean_back, legal_clean}
use Rattle.search_values.proofs.Levels.{back_above, back_here}
use Rattle.journal_theory.proofs.Highest.{first_low}
use Rattle.journal_theory.proofs.Keeping.{first_here, first_stays}
use Rattle.journal_theory.proofs.Closed.{IsLeftOut, Below, clash, none_out}
use Rattle.journal_theory.proofs.Above.{Above, IsSince, NoneDueOn, none_due_later, close_due, pending_none, with_body_has, names_back, legal_above}

-- all literals of the nogood hold, but for the negative one of this atom
abbrev pub IsLowest : ℕ → List Entry → Nogood → Type 0
IsLowest a stack ng = (l : Lit) → l ∈ ng.lits → (l ≡ lit a false) ⊎ Holds stack l

-- this is so of each closed entry: of its atom, and of the stack below
abbrev pub EachShut : (ℕ → List Entry → Type 0) → List Entry → Type 0
EachShut P [] = Unit {0}
EachShut P (e ∷ rest) = (is_closed e.why ≡ true → P e.atom rest) × EachShut P rest

-- no nogood is so at a closed atom, but for one that is left out
abbrev pub NotLowest : {N A K : Type 0} → State N A K → ℕ → List Entry → Type 0
NotLowest s a rest = (ng : Nogood) → ng ∈ s.nogoods → IsLowest a rest ng → IsLeftOut s.nogoods (chosen s.stack) s.phase ng

abbrev pub NoneLowest : {N A K : Type 0} → State N A K → Type 0
NoneLowest s = EachShut (NotLowest s) s.stack

shut_pick : (P : ℕ → List Entry → Type 0) (b : Bool) (stack other : List Entry) → EachShut P stack → EachShut P other → EachShut P (cond b stack other)
shut_pick P true stack other g h = g
shut_pick P false stack other g h = h

pub shut_back : (P : ℕ → List Entry → Type 0) (l : ℕ) (stack : List Entry) → EachShut P stack → EachShut P (back_to l stack)
shut_back P l [] h = tt
shut_back P l (e ∷ rest) h = shut_pick P (nat_le (level_of rest + opened e.why) l) (e ∷ rest) (back_to l rest) h (shut_back P l rest h.1)

why_closed : (w : Why) → is_closed w ≡ true → (reason : Option ℕ) × (w ≡ Closed reason)
why_closed (Given n) c = cc
why_closed Chosen c = cc
why_closed (Closed reason) c = (reason, refl)

still_closed : (n : ℕ) (b : Bool) (w : Why) → is_closed (cond b (with_reason w n) w) ≡ true → is_closed w ≡ true
still_closed n true (Given m) h = h
still_closed n true Chosen h = h
still_closed n true (Closed None) h = h
still_closed n true (Closed (Some m)) h = h
still_closed n false w h = h

shut_explain : (P Q : ℕ → List Entry → Type 0) (a n : ℕ) (stack : List Entry) → ((b : ℕ) (rest : List Entry) → P b rest → Q b (explain a n rest)) → EachShut P stack → EachShut Q (explain a n stack)
shut_explain P Q a n [] f h = tt
shut_explain P Q a n (e ∷ rest) f h = ((λ w. f e.atom rest (h.0 (still_closed n (nat_eq e.atom a) e.why w))), shut_explain P Q a n rest f h.1)

shut_same : (P Q : ℕ → List Entry → Type 0) (stack : List Entry) → ((b : ℕ) (rest : List Entry) → P b rest → Q b rest) → EachShut P stack → EachShut Q stack
shut_same P Q [] f h = tt
shut_same P Q (e ∷ rest) f h = ((λ w. f e.atom rest (h.0 w)), shut_same P Q rest f h.1)

pub shut_first : (P Q : ℕ → List Entry → Type 0) (ls : List Lit) (n : ℕ) (stack : List Entry) → ((a b : ℕ) (rest : List Entry) → P b rest → Q b (explain a n rest))
    → ((b : ℕ) (rest : List Entry) → P b rest → Q b rest) → EachShut P stack → EachShut Q (explain_first ls n stack)
shut_first P Q [] n stack f g h = shut_same P Q stack g h
shut_first P Q (l ∷ ls) n stack f g h = shut_explain P Q l.atom n stack (λ b rest p. f l.atom b rest p) h

-- where nothing is closed, all is so of each closed entry
pub none_shut : (P : ℕ → List Entry → Type 0) (stack : List Entry) → ¬ HasClosed stack → EachShut P stack
none_shut P [] h = tt
none_shut P (e ∷ rest) h = ((λ w. let r = why_closed e.why w in absurd (h (e, inl refl, (r.0, r.1)))), none_shut P rest (λ c. h (c.0, inr c.1, c.2)))

module _ {N A K : Type 0} (core : Rules N A K) (s : State N A K) where
  shut_here : (e : Entry) (rest whole : List Entry) → GoodEntry core s e rest → IsClean s.names (e ∷ rest) → (reason : Option ℕ) → e.why ≡ Closed reason → ((l : Lit) → Holds (e ∷ rest) l → Holds whole l)
      → ((x : ℕ) → value_of (e ∷ rest) x ≡ Some True → value_of whole x ≡ Some True) → Below core s whole e.atom rest
  shut_here e rest whole g clean reason w up trues = record {
    low = up (lit e.atom false) (e.value, here, ap is_up down);
    free = elim g.may_push [ inl n ↦ n | inr m ↦ (let q = m.1 in let f = down in cc) ];
    up = λ l h. up l (holds_more core s e rest g l h);
    trues = λ x h. trues x (true_stays core s e rest g x h);
    calm = (clean.0 reason w).1;
  }
    where
      down : e.value ≡ False
      down = g.closed_down reason w

      here : value_of (e ∷ rest) e.atom ≡ Some e.value
      here = elim (value_cases e rest e.atom) [ inl c ↦ c.1 | inr c ↦ absurd (c.0 refl) ]

  map_shut : (P Q : ℕ → List Entry → Type 0) (whole stack : List Entry) → Good core s stack → IsClean s.names stack → ((l : Lit) → Holds stack l → Holds whole l)
      → ((x : ℕ) → value_of stack x ≡ Some True → value_of whole x ≡ Some True)
      → ((a : ℕ) (rest : List Entry) → Below core s whole a rest → P a rest → Q a rest) → EachShut P stack → EachShut Q stack
  map_shut P Q whole [] g clean up trues f h = tt
  map_shut P Q whole (e ∷ rest) g clean up trues f h = (
    (λ w. let r = why_closed e.why w in f e.atom rest (shut_here e rest whole g.0 clean r.0 r.1 up trues) (h.0 w)),
    map_shut P Q whole rest g.1 clean.1 (λ l k. up l (holds_more core s e rest g.0 l k)) (λ x k. trues x (true_stays core s e rest g.0 x k)) f h.1,
  )

  -- what holds of each closed entry becomes another thing
  pub shut_map : (P Q : ℕ → List Entry → Type 0) (stack : List Entry) → Good core s stack → IsClean s.names stack
      → ((a : ℕ) (rest : List Entry) → Below core s stack a rest → P a rest → Q a rest) → EachShut P stack → EachShut Q stack
  shut_map P Q stack g clean f h = map_shut P Q stack stack g clean (λ l k. k) (λ x k. k) f h

  -- a closed atom is false
  pub shut_low : (stack : List Entry) → Good core s stack → (e : Entry) → e ∈ stack → (reason : Option ℕ) → e.why ≡ Closed reason → Holds stack (lit e.atom false)
  shut_low [] g e i reason w = absurd i
  shut_low (t ∷ rest) g e (inl same) reason w =
      let v : t.why ≡ Closed reason = ap (λ (z : Entry). z.why) (sym same) ∙ w in
      subst (λ (z : Entry). Holds (t ∷ rest) (lit z.atom false)) (sym same)
      (t.value, elim (value_cases t rest t.atom) [ inl c ↦ c.1 | inr c ↦ absurd (c.0 refl) ], ap is_up (g.0.closed_down reason v))
  shut_low (t ∷ rest) g e (inr i) reason w = holds_more core s t rest g.0 (lit e.atom false) (shut_low rest g.1 e i reason w)

  -- a nogood that is unit isn't so at any closed atom
  unit_not_lowest : (whole : List Entry) (a : ℕ) (rest : List Entry) → Below core s whole a rest → (ng : Nogood) (x : ℕ) (v : Value) → Gives whole ng x v → ¬ IsLowest a rest ng
  unit_not_lowest whole a rest b ng x v r tight = by_value v r
    where
      -- the literal that is left, or the head that rises, is false or unassigned
      negative : lit x false ∈ ng.lits → ¬ Holds whole (lit x false) → ⊥
      negative i not = elim (tight (lit x false) i) [
        | inl e ↦ not (subst (λ z. Holds whole (lit z false)) (sym (ap (λ (z : Lit). z.atom) e)) b.low)
        | inr k ↦ not (b.up (lit x false) k)
      ]

      by_value : (v : Value) → Gives whole ng x v → ⊥
      by_value True r = negative r.among (λ h. elim r.not_yet [
        | inl n ↦ (let q = h.1 in cc)
        | inr m ↦ (let q : Some h.0 ≡ Some MustBe = sym h.1 ∙ m in let u : h.0 ≡ MustBe = cc in let w : true ≡ false = sym (ap is_up u) ∙ h.2 in cc)
      ])
      by_value MustBe r = negative r.0.among (λ h. let n = r.0.unassigned in let q = h.1 in cc)
      by_value False r = elim (tight (lit x true) r.among) [
        | inl e ↦ (let w : true ≡ false = ap (λ (z : Lit). z.positive) e in cc)
        | inr k ↦ (let h = b.up (lit x true) k in let n = r.unassigned in let q = h.1 in cc)
      ]

module _ {N A K : Type 0} (core : Rules N A K) (s : State N A K) (valid : Valid core s) (bodies : ChosenAreBodies s) (newly : NewlyChosen s) (clean : IsClean s.names s.stack) (apart : NoneLowest s) where
  -- where the phase is another, and nothing is left out before
  same_stack : (phase : Phase) (listed : List (List A)) → ((ng : Nogood) → ng ∈ s.nogoods → IsLeftOut s.nogoods (chosen s.stack) s.phase ng → IsLeftOut s.nogoods (chosen s.stack) phase ng)
      → NoneLowest (record s { phase = phase })
  same_stack phase listed f = shut_map core s (NotLowest s) (NotLowest (record s { phase = phase })) s.stack valid.good clean (λ a rest b p ng i tight. f ng i (p ng i tight)) apart

  -- what is left out of no nogood in a free phase
  free_out : (ls : List Lit) (ngs : List Nogood) (ng : Nogood) → s.phase ≡ Free → IsLeftOut ngs ls s.phase ng → ⊥
  free_out ls ngs ng e h = none_out ngs ls s.phase Free e ng h

  -- one more entry, where the phase is free
  pushed_apart : (e : Entry) (closing : Bool) → s.phase ≡ Free → (is_closed e.why ≡ true → (ng : Nogood) → ng ∈ s.nogoods → ¬ IsLowest e.atom s.stack ng) → NoneLowest (record s { stack = e ∷ s.stack; closing = closing })
  pushed_apart e closing free f = (
    (λ w ng i tight. absurd (f w ng i tight)),
    shut_map core s (NotLowest s) (NotLowest (record s { stack = e ∷ s.stack; closing = closing })) s.stack valid.good clean
        (λ a rest b p ng i tight. absurd (free_out (chosen s.stack) s.nogoods ng free (p ng i tight))) apart,
  )

  strike_out : (n : ℕ) (low : Bool) (phase : Phase) → MayStrike phase n → (ng : Nogood) → IsLeftOut s.nogoods (chosen s.stack) phase ng → IsLeftOut s.nogoods (chosen s.stack) (phase_struck n low) ng
  strike_out n true phase w ng h = tt
  strike_out n false Free w ng h = absurd h
  strike_out n false MustDecide w ng h = absurd h
  strike_out n false Found w ng h = absurd h
  strike_out n false (MustStrike m) w ng h = elim w [ inl e ↦ cc | inr e ↦ (let same : m ≡ n = cc in (subst (λ z. slice_get s.nogoods z ≡ Some ng) same h.0, h.1)) ]
  strike_out n false (MustLearn m) w ng h = elim w [ inl e ↦ cc | inr e ↦ cc ]
  strike_out n false (MustJump m) w ng h = elim w [ inl e ↦ cc | inr e ↦ cc ]
  strike_out n false Over w ng h = elim w [ inl e ↦ cc | inr e ↦ cc ]

  -- one more nogood without a head, by what becomes of those left out and of itself
  learned_apart : (ls : List Lit) (phase : Phase)
      → ((ng : Nogood) → ng ∈ s.nogoods → IsLeftOut s.nogoods (chosen s.stack) s.phase ng → ⊥)
      → IsLeftOut (s.nogoods ++ nogood None ls ∷ []) (chosen s.stack) phase (nogood None ls)
      → NoneLowest (record s { nogoods = s.nogoods ++ nogood None ls ∷ []; phase = phase })
  learned_apart ls phase old new = shut_map core s (NotLowest s) (NotLowest (record s { nogoods = s.nogoods ++ nogood None ls ∷ []; phase = phase })) s.stack valid.good clean
      (λ a rest b p ng i tight. elim (∈-append_cases ng s.nogoods (nogood None ls ∷ []) i) [
        | inl j ↦ absurd (old ng j (p ng j tight))
        | inr j ↦ subst (λ z. IsLeftOut (s.nogoods ++ nogood None ls ∷ []) (chosen s.stack) phase z) (sym (in_single j)) new
      ])
      apart

  new_at : (ls : List Lit) → slice_get (s.nogoods ++ nogood None ls ∷ []) (length s.nogoods) ≡ Some (nogood None ls)
  new_at ls = get_last s.nogoods (nogood None ls)

  wide_out : (x : ℕ) → IsWanted core s x → (ng : Nogood) → ng ∈ s.nogoods → IsLeftOut s.nogoods (chosen s.stack) s.phase ng → ⊥
  wide_out x (for_stuck e stuck) ng i h = free_out (chosen s.stack) s.nogoods ng e h
  wide_out x (for_unassigned e can) ng i h = free_out (chosen s.stack) s.nogoods ng e h
  wide_out x (for_closed n struck ls e at w a among) ng i h =
      let out = none_out s.nogoods (chosen s.stack) s.phase (MustLearn n) e ng h in
      not_wanted core s valid bodies newly x (for_closed n struck ls e at w a among) ng i (subst (λ z. IsLearnt s.nogoods z ng) (sym e) out.0) out.1

  back_apart : (level : ℕ) → ((n : ℕ) × (s.phase ≡ MustJump n) × IsUnitAt (back_to level s.stack) s.nogoods n) → NoneLowest (record s { stack = back_to level s.stack; closing = false; phase = Free })
  back_apart level at =
      let s' : State N A K = record s { stack = back_to level s.stack; closing = false; phase = Free } in
      shut_map core s (NotLowest s) (NotLowest s') (back_to level s.stack) (good_back core s level s.stack valid.good) (clean_back s.names level s.stack clean)
      (λ a rest b p ng i tight.
      let out = none_out s.nogoods (chosen s.stack) s.phase (MustJump at.0) at.1 ng (p ng i tight) in
      let q : Some at.2.0 ≡ Some ng = sym at.2.1 ∙ out in
      let same : at.2.0 ≡ ng = cc in
      absurd (unit_not_lowest core s (back_to level s.stack) a rest b ng at.2.2.0 at.2.2.1 (subst (λ z. Gives (back_to level s.stack) z at.2.2.0 at.2.2.1) same at.2.2.2) tight))
      (shut_back (NotLowest s) level s.stack apart)

  -- a nogood that is justified isn't so at any closed atom: its first literal is positive, and didn't hold below
  justified_loose : (patterns : List Pattern) (ls : List Lit) (may : MayJustify core s patterns ls) → IsWanted core s may.id → (a : ℕ) (rest : List Entry) → Below core s s.stack a rest → ¬ IsLowest a rest (nogood None ls)
  justified_loose patterns ls may wanted a rest b tight = elim (tight (lit may.id true) (subst (λ z. lit may.id true ∈ z) (sym may.lits_are) (inl refl))) [
    | inl e ↦ (let w : true ≡ false = ap (λ (z : Lit). z.positive) e in cc)
    | inr h ↦ by_wanted wanted h
  ]
    where
      by_value : value_of s.stack may.id ≡ Some MustBe → (v : Value) → value_of rest may.id ≡ Some v → is_up v ≡ true → ⊥
      by_value must True e u = (let w = sym (b.trues may.id e) ∙ must in cc)
      by_value must MustBe e u = b.calm may.id may.atom may.named e
      by_value must False e u = cc

      by_wanted : IsWanted core s may.id → Holds rest (lit may.id true) → ⊥
      by_wanted (for_stuck e stuck) h = by_value stuck.must_be h.0 h.1 h.2
      by_wanted (for_unassigned e can) h = valueless core s can (b.up (lit may.id true) h).1
      by_wanted (for_closed n ng ms e at w x y) h =
          clash core s s.stack may.id (b.up (lit may.id true) h) (subst (λ z. Holds s.stack (lit z false)) w.2 (shut_low core s s.stack valid.good w.0 w.1 None w.3))

  -- what is left out after a nogood was justified
  justified_out : (x : ℕ) → IsWanted core s x → (more : List Nogood) (v : Option Value) (n : ℕ) (ng : Nogood) → IsLeftOut s.nogoods (chosen s.stack) s.phase ng → (ls : List Lit) → ls ≡ chosen s.stack
      → IsLeftOut (s.nogoods ++ more) ls (phase_justified s.phase v n) ng
  justified_out x (for_stuck e stuck) more v n ng h ls same = absurd (free_out (chosen s.stack) s.nogoods ng e h)
  justified_out x (for_unassigned e can) more v n ng h ls same = absurd (free_out (chosen s.stack) s.nogoods ng e h)
  justified_out x (for_closed m struck ms e at w a i) more v n ng h ls same =
      let out = none_out s.nogoods (chosen s.stack) s.phase (MustLearn m) e ng h in
      subst (λ z. IsLeftOut (s.nogoods ++ more) ls (phase_justified z v n) ng) (sym e)
      (get_left s.nogoods more m ng out.0, subst (λ z. ng.lits ⊆ z) (sym same) out.1)

  -- one more nogood is justified
  justify_apart : (patterns : List Pattern) (ls : List Lit) → MayJustify core s patterns ls → NoneLowest (happens core s (Justify patterns ls))
  justify_apart patterns ls may =
      shut_first (NotLowest s') (NotLowest s') ls (length s.nogoods) s.stack
      (λ l b rest p ng i tight. p ng i (λ k j. elim (tight k j) [ inl e ↦ inl e | inr h ↦ inr (holds_same (explain l (length s.nogoods) rest) rest (λ x. sym (value_explain l (length s.nogoods) rest x)) k h) ]))
      (λ b rest p. p)
      (shut_map core s (NotLowest s) (NotLowest s') s.stack valid.good clean (λ a rest b p ng i tight. elim (∈-append_cases ng s.nogoods (nogood None ls ∷ []) i) [
        | inl j ↦ justified_out may.id may.wanted (nogood None ls ∷ []) (first_value ls s.stack) (length s.nogoods) ng (p ng j tight) (chosen s'.stack) (chosen_first ls (length s.nogoods) s.stack)
        | inr j ↦ absurd (justified_loose patterns ls may may.wanted a rest b (subst (λ z. IsLowest a rest z) (in_single j) tight))
      ]) apart)
    where
      s' : State N A K
      s' = happens core s (Justify patterns ls)

  -- the nogoods of one more instance
  made_apart : (k : Made K) → s.phase ≡ Free → EachShut (λ a rest. (ng : Nogood) → ng ∈ nogoods_of k → ¬ IsLowest a rest ng) s.stack → NoneLowest (happens core s (Make k))
  made_apart k free fresh = both s.stack valid.good clean apart fresh
    where
      both : (stack : List Entry) → Good core s stack → IsClean s.names stack → EachShut (NotLowest s) stack → EachShut (λ a rest. (ng : Nogood) → ng ∈ nogoods_of k → ¬ IsLowest a rest ng) stack
          → EachShut (NotLowest (happens core s (Make k))) stack
      both [] g cl p q = tt
      both (e ∷ rest) g cl p q = (
        (λ w ng i tight. elim (∈-append_cases ng s.nogoods (nogoods_of k) i) [
          | inl j ↦ absurd (free_out (chosen s.stack) s.nogoods ng free (p.0 w ng j tight))
          | inr j ↦ absurd (q.0 w ng j tight)
        ]),
        both rest g.1 cl.1 p.1 q.1,
      )

  -- the names don't matter
  names_apart : (names : List (AtomNode A)) → NoneLowest (record s { names = names })
  names_apart names = shut_map core s (NotLowest s) (NotLowest (record s { names = names })) s.stack valid.good clean (λ a rest b p. p) apart

  -- each event keeps it
  pub lowest_keep : (listed : List (List A)) (e : Event A K) → Allowed core listed s e
      → ((k : Made K) → e ≡ Make k → EachShut (λ a rest. (ng : Nogood) → ng ∈ nogoods_of k → ¬ IsLowest a rest ng) s.stack)
      → NoneLowest (happens core s e)
  lowest_keep listed (NameTerm node) ok fresh = shut_map core s (NotLowest s) (NotLowest (happens core s (NameTerm node))) s.stack valid.good clean (λ a rest b p. p) apart
  lowest_keep listed (NameAtom a) ok fresh = names_apart (s.names ++ Named a ∷ [])
  lowest_keep listed NameBody ok fresh = names_apart (s.names ++ BodyOf (length s.made) ∷ [])
  lowest_keep listed (Number x a number) ok fresh = shut_map core s (NotLowest s) (NotLowest (happens core s (Number x a number))) s.stack valid.good clean (λ a rest b p. p) apart
  lowest_keep listed (Make k) ok fresh = made_apart k ok.0 (fresh k refl)
  lowest_keep listed (Put a v n) ok fresh = pushed_apart (entry_on s.stack a v (Given n)) s.closing ok.0 (λ w. cc)
  lowest_keep listed (Choose b up) ok fresh = pushed_apart (entry_on s.stack b (decision up) Chosen) false ok.0 (λ w. cc)
  lowest_keep listed (Close x) ok fresh = pushed_apart (entry_on s.stack x False (Closed None)) true ok.0 (λ w ng i tight. new_literal s.stack ng (ok.1 ng i) (ok.2 ng i) (lit x false) ok.4 tight)
  lowest_keep listed (Strike n) ok fresh = same_stack (phase_struck n (all_at_0 s.stack (lits_at s.nogoods n))) listed (λ ng i h. strike_out n (all_at_0 s.stack (lits_at s.nogoods n)) s.phase ok.0 ng h)
  lowest_keep listed (Keep n) ok fresh = shut_map core s (NotLowest s) (NotLowest (happens core s (Keep n))) s.stack valid.good clean
      (λ a rest b p ng i tight. (none_out s.nogoods (chosen s.stack) s.phase (MustLearn n) ok.0 ng (p ng i tight)).0) apart
  lowest_keep listed (Learn Analysed ls) ok fresh =
      learned_apart ls (phase_learned s.phase (length s.nogoods))
      (λ ng i h. let out = none_out s.nogoods (chosen s.stack) s.phase (MustLearn ok.0.0.0) ok.0.0.1 ng h in
      ok.0.0.2 (λ l m. out.1 l (subst (λ z. l ∈ z) (ap lits_in out.0) m)))
      (subst (λ z. IsLeftOut (s.nogoods ++ nogood None ls ∷ []) (chosen s.stack) (phase_learned z (length s.nogoods)) (nogood None ls)) (sym ok.0.0.1) (new_at ls))
  lowest_keep listed (Learn Justified ls) ok fresh = absurd ok.0
  lowest_keep listed (Learn Decisions ls) ok fresh =
      learned_apart ls (phase_learned s.phase (length s.nogoods)) (λ ng i h. none_out s.nogoods (chosen s.stack) s.phase MustDecide ok.0.1 ng h)
      (subst (λ z. IsLeftOut (s.nogoods ++ nogood None ls ∷ []) (chosen s.stack) (phase_learned z (length s.nogoods)) (nogood None ls)) (sym ok.0.1) (new_at ls, (λ l i. subst (λ z. l ∈ z) ok.0.0 i)))
  lowest_keep listed (Learn Enumerated ls) ok fresh =
      learned_apart ls (phase_learned s.phase (length s.nogoods)) (λ ng i h. none_out s.nogoods (chosen s.stack) s.phase Found ok.0.1 ng h)
      (subst (λ z. IsLeftOut (s.nogoods ++ nogood None ls ∷ []) (chosen s.stack) (phase_learned z (length s.nogoods)) (nogood None ls)) (sym ok.0.1) (new_at ls))
  lowest_keep listed (Justify patterns ls) ok fresh = justify_apart patterns ls ok.0
  lowest_keep listed (CallWide x) ok fresh = same_stack MustDecide listed (λ ng i h. wide_out x ok.0 ng i h)
  lowest_keep listed (Back level) ok fresh = back_apart level ok.1
  lowest_keep listed (Show ids) ok fresh = shut_map core s (NotLowest s) (NotLowest (happens core s (Show ids))) s.stack valid.good clean
      (λ a rest b p ng i tight. free_out (chosen s.stack) s.nogoods ng ok.0 (p ng i tight)) apart
  lowest_keep listed (Pass ids) ok fresh = shut_map core s (NotLowest s) (NotLowest (happens core s (Pass ids))) s.stack valid.good clean
      (λ a rest b p ng i tight. free_out (chosen s.stack) s.nogoods ng ok.0 (p ng i tight)) apart

module _ {N A K : Type 0} (core : Rules N A K) (s : State N A K) (valid : Valid core s) (founds : Founds s) (clean : IsClean s.names s.stack) where
  -- nothing is due below each closed entry
  abbrev pub DueBelowShut : State N A K → Type 0
  DueBelowShut s' = EachShut (λ a rest. NoneDueOn core s' rest) s'.stack

  same_due : (s' : State N A K) → s.numbers ≡ s'.numbers → Grows s s' → ((k : Made K) → k ∈ s.made → k ∈ s'.made) → DueBelowShut s → EachShut (λ a rest. NoneDueOn core s' rest) s.stack
  same_due s' numbers grows more h = shut_map core s (λ a rest. NoneDueOn core s rest) (λ a rest. NoneDueOn core s' rest) s.stack valid.good clean
      (λ a rest b p. none_due_later core s valid founds clean s' numbers grows more a rest b p) h

  shut_due_keep : (listed : List (List A)) (e : Event A K) → Allowed core listed s e → (s.closing ≡ true → (s0 : State N A K) × IsSince core s0 s) → DueBelowShut s → DueBelowShut (happens core s e)
  shut_due_keep listed (NameTerm node) ok since h = same_due (happens core s (NameTerm node)) refl (record { names = λ x n e. e; made = λ j k e. e }) (λ k i. i) h
  shut_due_keep listed (Strike n) ok since h = same_due (happens core s (Strike n)) refl (record { names = λ x n e. e; made = λ j k e. e }) (λ k i. i) h
  shut_due_keep listed (Keep n) ok since h = same_due (happens core s (Keep n)) refl (record { names = λ x n e. e; made = λ j k e. e }) (λ k i. i) h
  shut_due_keep listed (Learn how ls) ok since h = same_due (happens core s (Learn how ls)) refl (record { names = λ x n e. e; made = λ j k e. e }) (λ k i. i) h
  shut_due_keep listed (CallWide x) ok since h = same_due (happens core s (CallWide x)) refl (record { names = λ x n e. e; made = λ j k e. e }) (λ k i. i) h
  shut_due_keep listed (Show ids) ok since h = same_due (happens core s (Show ids)) refl (record { names = λ x n e. e; made = λ j k e. e }) (λ k i. i) h
  shut_due_keep listed (Pass ids) ok since h = same_due (happens core s (Pass ids)) refl (record { names = λ x n e. e; made = λ j k e. e }) (λ k i. i) h
  shut_due_keep listed (NameAtom a) ok since h = same_due (happens core s (NameAtom a)) refl (name_grows s (Named a)) (λ k i. i) h
  shut_due_keep listed NameBody ok since h = same_due (happens core s NameBody) refl (name_grows s (BodyOf (length s.made))) (λ k i. i) h
  shut_due_keep listed (Number x a number) ok since h = none_shut (λ b rest. NoneDueOn core (happens core s (Number x a number)) rest) s.stack ok.5
  shut_due_keep listed (Make k) ok since h = same_due (happens core s (Make k)) refl (make_grows core s k) (λ m i. ∈-append_left m s.made (k ∷ []) i) h
  shut_due_keep listed (Put a v n) ok since h = ((λ w. cc), same_due (happens core s (Put a v n)) refl (record { names = λ x n e. e; made = λ j k e. e }) (λ k i. i) h)
  shut_due_keep listed (Choose b up) ok since h = ((λ w. cc), same_due (happens core s (Choose b up)) refl (record { names = λ x n e. e; made = λ j k e. e }) (λ k i. i) h)
  shut_due_keep listed (Close x) ok since h = ((λ w m i e up. close_due core s valid founds clean listed x ok since m i e up), same_due (happens core s (Close x)) refl (record { names = λ x n e. e; made = λ j k e. e }) (λ k i. i) h)
  shut_due_keep listed (Justify patterns ls) ok since h =
      shut_first (λ a rest. NoneDueOn core s' rest) (λ a rest. NoneDueOn core s' rest) ls (length s.nogoods) s.stack
      (λ l b rest p m i e up. p m i e (λ q j. let r = up q j in (r.0, r.1, (r.2.0, sym (value_explain l (length s.nogoods) rest r.0) ∙ r.2.1, r.2.2))))
      (λ b rest p. p)
      (same_due s' refl (record { names = λ x n e. e; made = λ j k e. e }) (λ k i. i) h)
    where
      s' : State N A K
      s' = happens core s (Justify patterns ls)
  shut_due_keep listed (Back level) ok since h =
      shut_back (λ a rest. NoneDueOn core (happens core s (Back level)) rest) level s.stack (same_due (happens core s (Back level)) refl (record { names = λ x n e. e; made = λ j k e. e }) (λ k i. i) h)

  body_loose : (b : ℕ) → IsPending s b → (a : ℕ) (rest : List Entry) → Below core s s.stack a rest → (ng : Nogood) → ((l : Lit) × (l ∈ ng.lits) × (l.atom ≡ b)) → ¬ IsLowest a rest ng
  body_loose b p a rest below ng w tight = elim (tight w.0 w.1) [
    | inl e ↦ (let same : b ≡ a = sym w.2 ∙ ap (λ (z : Lit). z.atom) e in pending_none core s valid founds clean b p below.low.0 (subst (λ z. value_of s.stack z ≡ Some below.low.0) (sym same) below.low.1))
    | inr h ↦ (let u = below.up w.0 h in pending_none core s valid founds clean b p u.0 (subst (λ z. value_of s.stack z ≡ Some u.0) w.2 u.1))
  ]

  pos_loose : (listed : List (List A)) (k : Made K) → Allowed core listed s (Make k) → (a : ℕ) (rest : List Entry) → NoneDueOn core s rest
      → (ng : Nogood) → ((p : ℕ) → p ∈ k.inst.pos → lit p true ∈ ng.lits) → ¬ IsLowest a rest ng
  pos_loose listed k ok a rest due ng has tight = ok.1 (due k.maker ok.2.0 ok.2.1 (λ q j.
      let n = names_back s.names k.inst.pos ok.2.0.pos ok.2.2.pos q j in (
        n.0,
        n.2,
        elim (tight (lit n.0 true) (has n.0 n.1)) [
          | inl e ↦ (let w : true ≡ false = ap (λ (z : Lit). z.positive) e in cc)
          | inr h ↦ h
        ],
      )))

  table_loose : (listed : List (List A)) (k : Made K) → Allowed core listed s (Make k) → (a : ℕ) (rest : List Entry) → Below core s s.stack a rest → NoneDueOn core s rest
      → (kind : Kind ℕ) (body : Option ℕ) → BodyIsNext s body → (ng : Nogood) → ng ∈ table_of kind body k.inst → ¬ IsLowest a rest ng
  table_loose listed k ok a rest below due (Plain h) None next ng i =
      pos_loose listed k ok a rest due ng (λ p j. set_of-all (Some h) (lit h false ∷ lits_of true k.inst.pos) ng i (lit p true) (inr (lits_of-in true k.inst.pos p j)))
  table_loose listed k ok a rest below due (Plain h) (Some b) next ng i = body_loose b next a rest below ng (with_body_has b [] k.inst h ng i)
  table_loose listed k ok a rest below due (Choice h) None next ng i = absurd i
  table_loose listed k ok a rest below due (Choice h) (Some b) next ng i = body_loose b next a rest below ng (with_body_has b (lit h true ∷ []) k.inst h ng i)
  table_loose listed k ok a rest below due Constraint body next ng i =
      pos_loose listed k ok a rest due ng (λ p j. set_of-all None (lits_of true k.inst.pos ++ lits_of false k.inst.neg) ng i (lit p true) (∈-append_left (lit p true) (lits_of true k.inst.pos) (lits_of false k.inst.neg) (lits_of-in true k.inst.pos p j)))

  made_loose : (listed : List (List A)) (k : Made K) → Allowed core listed s (Make k) → DueBelowShut s → EachShut (λ a rest. (ng : Nogood) → ng ∈ nogoods_of k → ¬ IsLowest a rest ng) s.stack
  made_loose listed k ok h = shut_map core s (λ a rest. NoneDueOn core s rest) (λ a rest. (ng : Nogood) → ng ∈ nogoods_of k → ¬ IsLowest a rest ng) s.stack valid.good clean
      (λ a rest b due ng i. table_loose listed k ok a rest b due k.inst.kind k.body ok.5 ng i) h

legal_lowest : {N A K : Type 0} (core : Rules N A K) (listed : List (List A)) (journal : List (Event A K)) → Legal core listed journal
    → EachShut (λ a rest. NoneDueOn core (replay core journal) rest) (State.stack (replay core journal)) × NoneLowest (replay core journal)
legal_lowest core listed [] legal = (tt, tt)
legal_lowest core listed (e ∷ journal) legal =
    let s = replay core journal in
    let inv = legal_safe core listed journal legal.0 in
    let founds = legal_founds core listed journal legal.0 in
    let clean = legal_clean core listed journal legal.0 in
    let newly = legal_newly core listed journal legal.0 in
    let h = legal_lowest core listed journal legal.0 in (
      shut_due_keep core s inv.valid founds clean listed e legal.1 (Above.since (legal_above core listed journal legal.0)) h.0,
      lowest_keep core s inv.valid newly.0 newly.1 clean h.1 listed e legal.1
          (λ k same. made_loose core s inv.valid founds clean listed k (subst (λ z. Allowed core listed s z) same legal.1) h.0),
    )

-- what holds of the closed entry of this atom, which opened a level
shut_at : {N A K : Type 0} (core : Rules N A K) (s : State N A K) (P : ℕ → List Entry → Type 0) (stack : List Entry) → Good core s stack → (e : Entry) → e ∈ stack → is_closed e.why ≡ true → EachShut P stack
    → (rest : List Entry) × P e.atom rest × (first_level stack e.atom ≡ level_of rest + 1) × (back_to (level_of rest) stack ≡ rest)
shut_at core s P [] g e i c h = absurd i
shut_at core s P (t ∷ rest) g e (inl same) c h =
    let k : is_closed t.why ≡ true = ap (λ (z : Entry). is_closed z.why) (sym same) ∙ c in
    let w = why_closed t.why k in
    let one : opened t.why ≡ 1 = ap opened w.1 in
    let free : value_of rest t.atom ≡ None = (elim g.0.may_push [ inl n ↦ n | inr m ↦ (let q = m.1 in let f = g.0.closed_down w.0 w.1 in cc) ]) in (
      rest,
      subst (λ (z : Entry). P z.atom rest) (sym same) (h.0 k),
      ap (λ (z : Entry). first_level (t ∷ rest) z.atom) same ∙ first_here t rest free ∙ ap (λ z. level_of rest + z) one,
      back_above (level_of rest) t rest (next (level_of rest) (opened t.why) one) ∙ back_here rest,
    )
  where
    next : (m o : ℕ) → o ≡ 1 → m < m + o
    next m o h = omega (h, arith)
shut_at core s P (t ∷ rest) g e (inr i) c h =
    let r = shut_at core s P rest g.1 e i c h.1 in
    let v = shut_valued rest e i in
    let f : first_level (t ∷ rest) e.atom ≡ level_of r.0 + 1 = first_stays t rest e.atom v.0 v.1 ∙ r.2 in
    (r.0, r.1, f, back_above (level_of r.0) t rest (low (first_level rest e.atom) (level_of r.0) (level_of rest) (opened t.why) r.2 (first_low rest e.atom)) ∙ r.3)
  where
    low : (f m n o : ℕ) → f ≡ m + 1 → f ≤ n → m < n + o
    low f m n o e h = omega (e, h, arith)

    shut_valued : (stack : List Entry) (e : Entry) → e ∈ stack → (v : Value) × (value_of stack e.atom ≡ Some v)
    shut_valued [] e i = absurd i
    shut_valued (t ∷ rest) e i = elim (value_cases t rest e.atom) [
      | inl c ↦ (t.value, c.1)
      | inr c ↦ elim i [
        | inl q ↦ absurd (c.0 (ap (λ (z : Entry). z.atom) (sym q)))
        | inr j ↦ (let r = shut_valued rest e j in (r.0, c.1 ∙ r.1))
      ]
    ]

-- law: the one literal at the highest level of a struck nogood isn't closed
pub highest_is_not_closed : {N A K : Type 0} → HighestIsNotClosed N A K
highest_is_not_closed core listed journal legal n ng phase at struck high closed =
    let s = replay core journal in
    let valid = (legal_safe core listed journal legal).valid in
    let newly = legal_newly core listed journal legal in
    let h = shut_at core s (NotLowest s) s.stack valid.good closed.0 closed.1 closed.3 (legal_lowest core listed journal legal).1 in
    let level : first_level s.stack high.left.atom ≡ level_of h.0 + 1 = ap (first_level s.stack) (sym closed.2) ∙ h.2 in
    let down = closed_literal s.stack high.left (struck high.left high.among) (subst (λ z. Holds s.stack (lit z false)) closed.2 (shut_low core s s.stack valid.good closed.0 closed.1 (why_closed (Entry.why closed.0) closed.3).0 (why_closed (Entry.why closed.0) closed.3).1)) in
    let lowest : IsLowest (Entry.atom closed.0) h.0 ng = (λ l i. elim (high.others l i) [
      | inl e ↦ inl (e ∙ down ∙ ap (λ z. lit z false) (sym closed.2))
      | inr low ↦ inr (
          let v = struck l i in
          let r = at_level core s (level_of h.0) s.stack valid.good l.atom v.0 v.1 (at_most (first_level s.stack l.atom) (first_level s.stack high.left.atom) (level_of h.0) low level) in
          subst (λ z. Holds z l) h.3 (r.0, r.1, r.2 ∙ v.2))
    ]) in
    let out = none_out s.nogoods (chosen s.stack) s.phase (MustLearn n) phase ng (h.1 ng (get_in s.nogoods n ng at) lowest) in
    let alone = chosen_alone core s valid newly.0 newly.1 s.stack valid.good high.left (out.1 high.left high.among) in
    let why = alone.0 closed.0 closed.1 closed.2 in
    let bad : false ≡ true = sym (ap is_closed why) ∙ closed.3 in cc
  where
    at_most : (a b m : ℕ) → a < b → b ≡ m + 1 → a ≤ m
    at_most a b m h e = omega (h, e, arith)

    closed_literal : (stack : List Entry) (l : Lit) → Holds stack l → Holds stack (lit l.atom false) → l ≡ lit l.atom false
    closed_literal stack l h k =
        let q : Some h.0 ≡ Some k.0 = sym h.1 ∙ k.1 in
        let f : h.0 ≡ k.0 = cc in
        let p : l.positive ≡ false = sym h.2 ∙ ap is_up f ∙ k.2 in
        sym (lit_is l l.atom false refl p)
