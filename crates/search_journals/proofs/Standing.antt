-- Where a search stands after an event.
use Rattle.std.proofs.Common.{◌≡◌, ℕ, zero, suc, ◌+◌, ◌<◌, ◌≤◌, List, [], ◌∷◌, map, length, take, arith, length-append, refl, sym, ◌∙◌, ap, subst}
use Rattle.std.specs.Prelude.{Option, Some, option_map, slice_get}
use Rattle.alpha_outside.specs.declared.event.Event as event
use Rattle.alpha_outside.specs.Outside as outside
use Rattle.alpha_outside.specs.Outside.{with_event, Rose}
use Rattle.search_values.specs.Ids.{AtomNode, Named, BodyOf, Names}
use Rattle.journal_theory.specs.States.{State}
use Rattle.journal_theory.specs.Events.{NameTerm, NameAtom, NameBody, Number, Make, Put, Choose, Close, Strike, Keep, Learn, Justify, CallWide, Back, Show, Pass, happens, Allowed}
use Rattle.journal_theory.specs.Journals.{Says, replay}
use Rattle.journal_theory.specs.Laws.{EachBackIsFar}
use Rattle.std.proofs.lemmas.List.{length-map}
use Rattle.search_values.proofs.Basics.{get_left}
use Rattle.core_rules.specs.declared.rules.Core.{Core}
use Rattle.core_meaning.specs.Atoms.{GroundAtom}
use Rattle.search_rules.specs.Rules.{Reached, search_rules}
use Rattle.search_state.specs.Searching.{Searching, made, made_of, state_of}
use Rattle.search_journals.specs.Journals.{Step, Tells, AreLinesOf, strikes, makes}
use Rattle.search_journals.specs.Standing.{Given, StandsAt, Stands, Fits, Carries, Halts, Hands, IsInside, IsTraceFault, IsRoundFault, IsTraceCause, unlisted, listed}
use Rattle.search_journals.specs.declared.ends.SearchFault.{SearchFault}
use Rattle.search_journals.specs.declared.ends.SearchFault.TheVariants.{WriteFault, TraceFault, OutOfMemory}
use Rattle.search_journals.proofs.Unlisted.{ShowsNone, IsSimple, simple_shows, allowed_on, unlisted_next, says_on}
use Rattle.search_journals.proofs.Telling.{tells_on}

-- ---- names that grow

-- what stands in the first list stands there in the second
abbrev pub Stay : List (AtomNode GroundAtom) → List (AtomNode GroundAtom) → Type 0
Stay names names' = (x : ℕ) (n : AtomNode GroundAtom) → slice_get names x ≡ Some n → slice_get names' x ≡ Some n

-- ids that name atoms name them among more names
pub names_stay : (names names' : List (AtomNode GroundAtom)) → Stay names names' → (xs : List ℕ) (atoms : List GroundAtom)
    → Names names xs atoms → Names names' xs atoms
names_stay names names' stay [] [] are = tt
names_stay names names' stay [] (a ∷ atoms) are = absurd are
names_stay names names' stay (x ∷ xs) [] are = absurd are
names_stay names names' stay (x ∷ xs) (a ∷ atoms) are = (stay x (Named a) are.0, names_stay names names' stay xs atoms are.1)

-- so the lines of sets stay theirs
pub lines_stay : (s s' : Reached) → Stay s.names s'.names → (sets lines : List (List ℕ)) → AreLinesOf s sets lines
    → AreLinesOf s' sets lines
lines_stay s s' stay [] [] are = tt
lines_stay s s' stay [] (line ∷ lines) are = absurd are
lines_stay s s' stay (ids ∷ sets) [] are = absurd are
lines_stay s s' stay (ids ∷ sets) (line ∷ lines) are =
    ((are.0.0, names_stay s.names s'.names stay ids _ are.0.1, are.0.2), lines_stay s s' stay sets lines are.1)

-- each event leaves the names so far
pub names_kept : (core : Core) (s : Reached) (e : Step) → Stay s.names (State.names (happens (search_rules core) s e))
names_kept core s (NameTerm node) x n there = there
names_kept core s (NameAtom a) x n there = get_left s.names (Named a ∷ []) x n there
names_kept core s NameBody x n there = get_left s.names (BodyOf (length s.made) ∷ []) x n there
names_kept core s (Number y a number) x n there = there
names_kept core s (Make k) x n there = there
names_kept core s (Put a v m) x n there = there
names_kept core s (Choose b up) x n there = there
names_kept core s (Close y) x n there = there
names_kept core s (Strike m) x n there = there
names_kept core s (Keep m) x n there = there
names_kept core s (Learn how ls) x n there = there
names_kept core s (Justify patterns ls) x n there = there
names_kept core s (CallWide y) x n there = there
names_kept core s (Back l) x n there = there
names_kept core s (Show ids) x n there = there
names_kept core s (Pass ids) x n there = there

-- ---- an event

-- the sets shown are the same
shown_same : (core : Core) (s : Reached) (e : Step) → ShowsNone e → State.shown (happens (search_rules core) s e) ≡ State.shown s
shown_same core s (NameTerm node) w = refl
shown_same core s (NameAtom a) w = refl
shown_same core s NameBody w = refl
shown_same core s (Number x a number) w = refl
shown_same core s (Make k) w = refl
shown_same core s (Put a v n) w = refl
shown_same core s (Choose b up) w = refl
shown_same core s (Close x) w = refl
shown_same core s (Strike n) w = refl
shown_same core s (Keep n) w = refl
shown_same core s (Learn how ls) w = refl
shown_same core s (Justify patterns ls) w = refl
shown_same core s (CallWide x) w = refl
shown_same core s (Back l) w = refl
shown_same core s (Show ids) w = absurd w
shown_same core s (Pass ids) w = refl

-- the lines written are those of the sets shown, after an event that shows none
hands_same : (g : Given) (held : Option (List ℕ)) (journal : List Step) (e : Step) → ShowsNone e → Hands g.core g.held held journal
    → Hands g.core g.held held (e ∷ journal)
hands_same g held journal e w h =
    let s = replay (search_rules g.core) journal in
    let s' = happens (search_rules g.core) s e in
    record {
      lines = h.lines;
      are = subst (λ (z : List (List ℕ)). AreLinesOf s' z h.lines) (sym (shown_same g.core s e w))
          (lines_stay s s' (names_kept g.core s e) (State.shown s) h.lines h.are);
      bytes = h.bytes;
    }

-- the levels that were taken away were so as far as before
far_on : (core : Core) (e : Step) (journal : List Step) → IsSimple e → EachBackIsFar (search_rules core) journal
    → EachBackIsFar (search_rules core) (e ∷ journal)
far_on core (Show ids) journal w far = absurd w
far_on core (NameTerm node) journal w far = far
far_on core (NameAtom a) journal w far = far
far_on core NameBody journal w far = far
far_on core (Number x a number) journal w far = far
far_on core (Make k) journal w far = far
far_on core (Put a v n) journal w far = far
far_on core (Choose b up) journal w far = far
far_on core (Close x) journal w far = far
far_on core (Strike n) journal w far = far
far_on core (Keep n) journal w far = absurd w
far_on core (Learn how ls) journal w far = far
far_on core (Justify patterns ls) journal w far = far
far_on core (CallWide x) journal w far = far
far_on core (Back l) journal w far = absurd w
far_on core (Pass ids) journal w far = far

-- ---- what may still be made

-- the instances that were made and those that may still be made
abbrev pub budget : Searching → ℕ
budget v = length v.ground.instances + v.left

module _ (g : Given) (v v' : Searching) (told told' : Option outside.Journal) (held : Option (List ℕ)) (left rest rest' : ℕ)
    (journal : List Step) (at : StandsAt g v told held left rest journal) where
  -- an event came that may come where the journal leads, and was noted
  pub stands_by : (e : Step) (ev : event.Event) → ShowsNone e → Allowed (search_rules g.core) (listed g) (replay (search_rules g.core) journal) e
      → EachBackIsFar (search_rules g.core) (e ∷ journal) → Says (search_rules g.core) (replay (search_rules g.core) journal) ev e
      → state_of v' ≡ unlisted (happens (search_rules g.core) (state_of v) e) → told' ≡ option_map (with_event ev) told
      → strikes (e ∷ journal) + rest' ≡ g.conflicts
      → budget v' ≡ budget v → StandsAt g v' told' held left rest' (e ∷ journal)
  stands_by e ev w ok far says is t count same = record {
    legal = (at.legal, ok);
    far = far;
    is = is ∙ ap (λ (s : Reached). unlisted (happens (search_rules g.core) s e)) at.is
        ∙ unlisted_next (search_rules g.core) (replay (search_rules g.core) journal) e;
    tells = tells_on g.core g.told told told' journal e ev at.tells says t;
    hands = hands_same g held journal e w at.hands;
    sets_left = ap (λ (z : List (List ℕ)). length z + left) (shown_same g.core (replay (search_rules g.core) journal) e w) ∙ at.sets_left;
    strikes_left = count;
    instances_left = same ∙ at.instances_left;
  }

  -- so it is with most events that may come in the search's state
  pub stands_on : (e : Step) (ev : event.Event) → IsSimple e → Allowed (search_rules g.core) [] (state_of v) e
      → Says (search_rules g.core) (replay (search_rules g.core) journal) ev e
      → state_of v' ≡ unlisted (happens (search_rules g.core) (state_of v) e) → told' ≡ option_map (with_event ev) told
      → strikes (e ∷ journal) + rest' ≡ g.conflicts
      → budget v' ≡ budget v → StandsAt g v' told' held left rest' (e ∷ journal)
  stands_on e ev w ok = stands_by e ev (simple_shows e w)
      (allowed_on (search_rules g.core) (replay (search_rules g.core) journal) (listed g) e w
      (subst (λ (s : Reached). Allowed (search_rules g.core) [] s e) at.is ok))
      (far_on g.core e journal w at.far)

module _ (v v' : Searching) (told told' : Option outside.Journal) (e : Step) (ev : event.Event) where
  -- an event that may come wherever the search stands, and was told, carries it on
  pub event_carries : (held : Option (List ℕ)) (left rest rest' : ℕ) → IsSimple e
      → Allowed (search_rules v.core) [] (state_of v) e
      → Says (search_rules v.core) (state_of v) ev e → state_of v' ≡ unlisted (happens (search_rules v.core) (state_of v) e)
      → told' ≡ option_map (with_event ev) told
      → ((journal : List Step) → strikes (e ∷ journal) + rest' ≡ strikes journal + rest) → budget v' ≡ budget v
      → Carries v v' told told' held held (left, rest) (left, rest')
  event_carries held left rest rest' w ok says is t count same g fits (journal, at) = (
    e ∷ journal,
    stands_on g v v' told told' held left rest rest' journal at e ev w
        (subst (λ core. Allowed (search_rules core) [] (state_of v) e) fits ok)
        (says_on (search_rules g.core) (replay (search_rules g.core) journal) ev e
        (subst (λ s. Says (search_rules g.core) s ev e) at.is (subst (λ core. Says (search_rules core) (state_of v) ev e) fits says)))
        (subst (λ core. state_of v' ≡ unlisted (happens (search_rules core) (state_of v) e)) fits is)
        t
        (count journal ∙ at.strikes_left)
        same,
  )

-- ---- how many instances were made

-- each event that makes an instance makes one
pub made_count : (core : Core) (journal : List Step) → length (State.made (replay (search_rules core) journal)) ≡ makes journal
made_count core [] = refl
made_count core (NameTerm node ∷ journal) = made_count core journal
made_count core (NameAtom a ∷ journal) = made_count core journal
made_count core (NameBody ∷ journal) = made_count core journal
made_count core (Number x a number ∷ journal) = made_count core journal
made_count core (Make k ∷ journal) =
    let before = made_count core journal in
    let more = length-append (State.made (replay (search_rules core) journal)) (k ∷ []) in
    omega (arith, before, more)
made_count core (Put a v n ∷ journal) = made_count core journal
made_count core (Choose b up ∷ journal) = made_count core journal
made_count core (Close x ∷ journal) = made_count core journal
made_count core (Strike n ∷ journal) = made_count core journal
made_count core (Keep n ∷ journal) = made_count core journal
made_count core (Learn how ls ∷ journal) = made_count core journal
made_count core (Justify patterns ls ∷ journal) = made_count core journal
made_count core (CallWide x ∷ journal) = made_count core journal
made_count core (Back level ∷ journal) = made_count core journal
made_count core (Show ids ∷ journal) = made_count core journal
made_count core (Pass ids ∷ journal) = made_count core journal

-- no more instances were made than may be
pub makes_within : (g : Given) (v : Searching) (told : Option outside.Journal) (held : Option (List ℕ)) (left rest : ℕ) (journal : List Step)
    → StandsAt g v told held left rest journal → makes journal ≤ g.instances
makes_within g v told held left rest journal at =
    let noted : length (made v) ≡ makes journal = ap (λ (z : Reached). length z.made) at.is ∙ made_count g.core journal in
    let front : length (made v) ≤ length v.ground.instances =
    subst (λ n. length (made v) ≤ n) (length-map v.ground.instances (made_of v.ground.terms))
    (take_short v.told.instances (map (made_of v.ground.terms) v.ground.instances)) in
    let all = at.instances_left in
    omega (arith, noted, front, all)
  where
    take_short : {X : Type 0} (n : ℕ) (xs : List X) → length (take n xs) ≤ length xs
    take_short zero xs = omega arith
    take_short (suc n) [] = omega arith
    take_short (suc n) (x ∷ xs) = let less = take_short n xs in omega (arith, less)

-- ---- faults

-- where a set may still be shown, fewer were shown than may be
pub inside_at : (g : Given) (v : Searching) (told : Option outside.Journal) (held : Option (List ℕ)) (left rest : ℕ) (journal : List Step)
    → 0 < left → StandsAt g v told held left rest journal → IsInside g journal
inside_at g v told held left rest journal room at = record {
  sets = (let k = at.sets_left in omega (arith, k, room));
  struck = (let k = at.strikes_left in omega (arith, k));
  made = makes_within g v told held left rest journal at;
}

-- at a fault the journal told so far is legal
pub halts_at : (g : Given) (v : Searching) (told told' : Option outside.Journal) (held : Option (List ℕ)) (left rest : ℕ) → Fits g v
    → told' ≡ told → 0 < left → Stands g v told held left rest → Halts g told' held
halts_at g v told told' held left rest fits same room s = record {
  journal = s.0;
  legal = s.1.legal;
  tells = subst (λ z. Tells g.core g.told z s.0) (sym same) s.1.tells;
  hands = s.1.hands;
  inside = inside_at g v told held left rest s.0 room s.1;
}

-- a fault of noting leaves what was told
pub note_fault : (v : Searching) (told told' : Option outside.Journal) (before now : ℕ) (fault : SearchFault) → told' ≡ told
    → IsTraceCause before now fault → IsTraceFault v told told' before now fault
note_fault v told told' before now fault same cause =
    record { halts = λ g fits held left rest room s. halts_at g v told told' held left rest fits same room s; cause = cause }

-- it is one of a round
pub round_fault : (v : Searching) (told told' : Option outside.Journal) (rest before now : ℕ) (fault : SearchFault)
    → IsTraceFault v told told' before now fault → IsRoundFault v told told' rest before now fault
round_fault v told told' rest before now fault f =
    record { halts = λ g fits held left room s. f.halts g fits held left rest room s; cause = f.cause }

-- a count that rose later rose since before
pub rose_on : (before mid now : ℕ) → before ≤ mid → Rose mid now → Rose before now
rose_on before mid now later rose = grind arith

-- a cause in the later part of a call is one in the whole
pub cause_on : (before mid now : ℕ) (fault : SearchFault) → before ≤ mid → IsTraceCause mid now fault → IsTraceCause before now fault
cause_on before mid now WriteFault later c = c
cause_on before mid now TraceFault later c = rose_on before mid now later c
cause_on before mid now OutOfMemory later c = tt
