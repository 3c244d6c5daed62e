-- Each entry rests on what it should: a given value on a nogood that gave it, and a closed one on its reason.
use Rattle.std.proofs.Common.{◌≡◌, ℕ, ◌+◌, ◌⊎◌, Bool, true, false, ◌||◌, cond, List, [], ◌∷◌, ◌++◌, length, refl, sym, ◌∙◌, ap, subst, inl, inr}
use Rattle.std.specs.Prelude.{Some, None, slice_get, nat_eq, nat_le}
use Rattle.lists.specs.Lists.{◌∈◌}
use Rattle.search_values.specs.declared.entry.Why.{Why}
use Rattle.search_values.specs.declared.entry.Why.TheVariants.{Given, Chosen, Closed}
use Rattle.search_values.specs.declared.entry.Entry.{Entry}
use Rattle.search_values.specs.Values.{Value, True, MustBe, False, Lit, lit, value_of, Holds, opened, level_of, back_to, is_closed, any_closed, before_closed, with_reason, explained, explain}
use Rattle.search_values.specs.Nogoods.{Nogood, IsLeft, Rises, Gives}
use Rattle.search_values.specs.Instances.{Rules}
use Rattle.search_values.specs.Tables.{nogoods_of}
use Rattle.journal_theory.specs.Resolution.{IsClosedReason, RestsOn, EachRests}
use Rattle.journal_theory.specs.States.{State}
use Rattle.journal_theory.specs.Events.{Event, NameTerm, NameAtom, NameBody, Number, Make, Put, Choose, Close, Strike, Keep, Learn, Justify, CallWide, Back, Show, Pass, explain_first, happens, Allowed}
use Rattle.journal_theory.specs.Journals.{replay}
use Rattle.search_values.proofs.Basics.{get_left, get_last, or_left, or_right, nat_eq-true}
use Rattle.search_values.proofs.Tables.{nogood}
use Rattle.journal_theory.proofs.Explaining.{value_explain}
use Rattle.journal_theory.specs.Laws.{EachEntryRests}

-- ---- stacks with the same values

module _ (stack other : List Entry) (same : (x : ℕ) → value_of other x ≡ value_of stack x) where
  -- what holds on one holds on the other
  pub holds_same : (l : Lit) → Holds stack l → Holds other l
  holds_same l h = (h.0, same l.atom ∙ h.1, h.2)

  pub left_same : (ng : Nogood) (l : Lit) → IsLeft stack ng l → IsLeft other ng l
  left_same ng l h = record { among = h.among; unassigned = same l.atom ∙ h.unassigned; others = λ k i. elim (h.others k i) [ inl e ↦ inl e | inr w ↦ inr (holds_same k w) ] }

  rises_same : (ng : Nogood) (a : ℕ) → Rises stack ng a → Rises other ng a
  rises_same ng a h = record {
    heads = h.heads;
    among = h.among;
    not_yet = elim h.not_yet [ inl n ↦ inl (same a ∙ n) | inr m ↦ inr (same a ∙ m) ];
    others = λ k i. elim (h.others k i) [ inl e ↦ inl e | inr w ↦ inr (same k.atom ∙ w) ];
  }

-- a nogood gives the same value
gives_same : (stack other : List Entry) → ((x : ℕ) → value_of other x ≡ value_of stack x) → (ng : Nogood) (a : ℕ) (v : Value) → Gives stack ng a v → Gives other ng a v
gives_same stack other same ng a True h = rises_same stack other same ng a h
gives_same stack other same ng a MustBe h = (left_same stack other same ng (lit a false) h.0, (λ r. h.1 (rises_same other stack (λ x. sym (same x)) ng a r)))
gives_same stack other same ng a False h = left_same stack other same ng (lit a true) h

-- ---- nogoods and levels

rests_more : (ngs more : List Nogood) (e : Entry) (rest : List Entry) (w : Why) → RestsOn ngs e rest w → RestsOn (ngs ++ more) e rest w
rests_more ngs more e rest (Given n) h = (h.0, get_left ngs more n h.0 h.1, h.2)
rests_more ngs more e rest Chosen h = tt
rests_more ngs more e rest (Closed None) h = h
rests_more ngs more e rest (Closed (Some n)) h = (h.0, h.1, (h.2.0, get_left ngs more n h.2.0 h.2.1, h.2.2))

each_more : (ngs more : List Nogood) (stack : List Entry) → EachRests ngs stack → EachRests (ngs ++ more) stack
each_more ngs more [] h = tt
each_more ngs more (e ∷ rest) h = (rests_more ngs more e rest e.why h.0, each_more ngs more rest h.1)

each_pick : (ngs : List Nogood) (b : Bool) (stack other : List Entry) → EachRests ngs stack → EachRests ngs other → EachRests ngs (cond b stack other)
each_pick ngs true stack other g h = g
each_pick ngs false stack other g h = h

each_back : (ngs : List Nogood) (l : ℕ) (stack : List Entry) → EachRests ngs stack → EachRests ngs (back_to l stack)
each_back ngs l [] h = tt
each_back ngs l (e ∷ rest) h = each_pick ngs (nat_le (level_of rest + opened e.why) l) (e ∷ rest) (back_to l rest) h (each_back ngs l rest h.1)

-- ---- an entry that gets its reason

module _ (a n : ℕ) where
  closed_with : (b : Bool) (w : Why) → is_closed (cond b (with_reason w n) w) ≡ is_closed w
  closed_with false w = refl
  closed_with true (Given m) = refl
  closed_with true Chosen = refl
  closed_with true (Closed None) = refl
  closed_with true (Closed (Some m)) = refl

  any_explain : (stack : List Entry) → any_closed (explain a n stack) ≡ any_closed stack
  any_explain [] = refl
  any_explain (e ∷ rest) = λ i. closed_with (nat_eq e.atom a) e.why i || any_explain rest i

  -- values before the first closed entry stay
  pub before_explain : (stack : List Entry) (x : ℕ) → value_of (before_closed (explain a n stack)) x ≡ value_of (before_closed stack) x
  before_explain [] x = refl
  before_explain (e ∷ rest) x =
      (λ i. value_of (cond (any_explain rest i) (before_closed (explain a n rest)) (cond (closed_with (nat_eq e.atom a) e.why i) (explain a n rest) (explain a n (e ∷ rest)))) x)
      ∙ go (any_closed rest) (is_closed e.why) (before_explain rest x)
    where
      go : (b d : Bool) → value_of (before_closed (explain a n rest)) x ≡ value_of (before_closed rest) x
          → value_of (cond b (before_closed (explain a n rest)) (cond d (explain a n rest) (explain a n (e ∷ rest)))) x ≡ value_of (cond b (before_closed rest) (cond d rest (e ∷ rest))) x
      go true d h = h
      go false true h = value_explain a n rest x
      go false false h = value_explain a n (e ∷ rest) x

  module _ (ngs : List Nogood) (new : Nogood) (at : slice_get ngs n ≡ Some new) (among : lit a true ∈ new.lits) where
    -- the other literals of the nogood held before the first closed entry of this stack
    abbrev HeldBefore : List Entry → Type 0
    HeldBefore stack = any_closed stack ≡ true → (l : Lit) → l ∈ new.lits → (l ≡ lit a true) ⊎ Holds (before_closed stack) l

    reason_here : (e : Entry) (rest : List Entry) → e.atom ≡ a → is_closed e.why ≡ true → HeldBefore (e ∷ rest) → IsClosedReason (before_closed (explain a n (e ∷ rest))) e.atom new
    reason_here e rest same c held = record {
      among = subst (λ z. lit z true ∈ new.lits) (sym same) among;
      others = λ l i. elim (held (or_left (is_closed e.why) (any_closed rest) c) l i) [
        | inl q ↦ inl (subst (λ z. l ≡ lit z true) (sym same) q)
        | inr h ↦ inr (holds_same (before_closed (e ∷ rest)) (before_closed (explain a n (e ∷ rest))) (before_explain (e ∷ rest)) l h)
      ];
    }

    reason_stays : (e : Entry) (rest : List Entry) (ng : Nogood) → IsClosedReason (before_closed (e ∷ rest)) e.atom ng → IsClosedReason (before_closed (explain a n (e ∷ rest))) e.atom ng
    reason_stays e rest ng r = record {
      among = r.among;
      others = λ l i. elim (r.others l i) [ inl q ↦ inl q | inr h ↦ inr (holds_same (before_closed (e ∷ rest)) (before_closed (explain a n (e ∷ rest))) (before_explain (e ∷ rest)) l h) ];
    }

    entry_rests : (e : Entry) (rest : List Entry) → HeldBefore (e ∷ rest) → (b : Bool) → nat_eq e.atom a ≡ b → (w : Why) → e.why ≡ w → RestsOn ngs e rest w
        → RestsOn ngs (explained a n e) (explain a n rest) (cond b (with_reason w n) w)
    entry_rests e rest held b same (Given m) q h = given b
      where
        there : (ng : Nogood) × (slice_get ngs m ≡ Some ng) × Gives (explain a n rest) ng e.atom e.value
        there = (h.0, h.1, gives_same rest (explain a n rest) (value_explain a n rest) h.0 e.atom e.value h.2)

        given : (b : Bool) → RestsOn ngs (explained a n e) (explain a n rest) (cond b (Given m) (Given m))
        given true = there
        given false = there
    entry_rests e rest held true same Chosen q h = tt
    entry_rests e rest held false same Chosen q h = tt
    entry_rests e rest held true same (Closed None) q h =
        (value_explain a n rest e.atom ∙ h.0, h.1, (new, at, reason_here e rest (nat_eq-true e.atom a same) (ap is_closed q) held))
    entry_rests e rest held false same (Closed None) q h = (value_explain a n rest e.atom ∙ h.0, h.1)
    entry_rests e rest held true same (Closed (Some m)) q h = (value_explain a n rest e.atom ∙ h.0, h.1, (h.2.0, h.2.1, reason_stays e rest h.2.0 h.2.2))
    entry_rests e rest held false same (Closed (Some m)) q h = (value_explain a n rest e.atom ∙ h.0, h.1, (h.2.0, h.2.1, reason_stays e rest h.2.0 h.2.2))

    -- each entry rests on what it should once the nogood is found
    pub each_explain : (stack : List Entry) → HeldBefore stack → EachRests ngs stack → EachRests ngs (explain a n stack)
    each_explain [] held h = tt
    each_explain (e ∷ rest) held h = (
      entry_rests e rest held (nat_eq e.atom a) refl e.why refl h.0,
      each_explain rest (λ c l i. elim (held (or_right (is_closed e.why) (any_closed rest) c) l i) [ inl q ↦ inl q | inr k ↦ inr (lower c l k) ]) h.1,
    )
      where
        lower : any_closed rest ≡ true → (l : Lit) → Holds (before_closed (e ∷ rest)) l → Holds (before_closed rest) l
        lower c l k = subst (λ b. Holds (cond b (before_closed rest) (cond (is_closed e.why) rest (e ∷ rest))) l) c k

module _ {N A K : Type 0} (core : Rules N A K) (s : State N A K) where
  justified_rests : (ls : List Lit) (x : ℕ) (reasons : List Lit) → ls ≡ lit x true ∷ reasons → ((l : Lit) → l ∈ reasons → Holds (before_closed s.stack) l)
      → EachRests s.nogoods s.stack → EachRests (s.nogoods ++ nogood None ls ∷ []) (explain_first ls (length s.nogoods) s.stack)
  justified_rests [] x reasons e held h = each_more s.nogoods (nogood None [] ∷ []) s.stack h
  justified_rests (k ∷ ks) x reasons e held h =
      let head : k ≡ lit x true = cc in
      let tail : ks ≡ reasons = cc in
      let first : k ≡ lit k.atom true = subst (λ (z : Lit). z ≡ lit z.atom true) (sym head) refl in
      each_explain k.atom (length s.nogoods) (s.nogoods ++ nogood None (k ∷ ks) ∷ []) (nogood None (k ∷ ks)) (get_last s.nogoods (nogood None (k ∷ ks))) (inl (sym first)) s.stack
      (λ c l i. elim i [ inl q ↦ inl (q ∙ first) | inr j ↦ inr (held l (subst (λ z. l ∈ z) tail j)) ])
      (each_more s.nogoods (nogood None (k ∷ ks) ∷ []) s.stack h)

  -- each event keeps it
  rests_keep : (listed : List (List A)) (e : Event A K) → Allowed core listed s e → EachRests s.nogoods s.stack → EachRests (State.nogoods (happens core s e)) (State.stack (happens core s e))
  rests_keep listed (NameTerm node) ok h = h
  rests_keep listed (NameAtom a) ok h = h
  rests_keep listed NameBody ok h = h
  rests_keep listed (Number x a number) ok h = h
  rests_keep listed (Choose b up) ok h = (tt, h)
  rests_keep listed (Strike n) ok h = h
  rests_keep listed (Keep n) ok h = h
  rests_keep listed (CallWide x) ok h = h
  rests_keep listed (Show ids) ok h = h
  rests_keep listed (Pass ids) ok h = h
  rests_keep listed (Make k) ok h = each_more s.nogoods (nogoods_of k) s.stack h
  rests_keep listed (Put a v n) ok h = ((ok.1.0, ok.1.1, ok.1.2), h)
  rests_keep listed (Close x) ok h = ((ok.4, refl), h)
  rests_keep listed (Learn how ls) ok h = each_more s.nogoods (nogood None ls ∷ []) s.stack h
  rests_keep listed (Justify patterns ls) ok h = justified_rests ls ok.0.id ok.0.reasons ok.0.lits_are ok.0.before h
  rests_keep listed (Back level) ok h = each_back s.nogoods level s.stack h

-- law: each entry rests on what it should
pub each_entry_rests : {N A K : Type 0} → EachEntryRests N A K
each_entry_rests core listed [] legal = tt
each_entry_rests core listed (e ∷ journal) legal = rests_keep core (replay core journal) listed e legal.1 (each_entry_rests core listed journal legal.0)
