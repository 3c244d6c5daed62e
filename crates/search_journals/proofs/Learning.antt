-- A search learns, keeps what is struck, and goes back.
use Rattle.std.proofs.Common.{◌≡◌, ℕ, ◌+◌, ◌<◌, ◌⊎◌, List, [], ◌∷◌, length, refl, sym, ◌∙◌, ap, subst, inl, inr, arith}
use Rattle.std.specs.Prelude.{Option, Some, slice_get, option_map}
use Rattle.lists.specs.Lists.{◌∈◌, ◌⊆◌}
use Rattle.alpha_outside.specs.declared.literal.Value.TheVariants.{MustBe}
use Rattle.alpha_outside.specs.declared.literal.Lit.{Lit}
use Rattle.alpha_outside.specs.declared.event.Event.TheVariants as say
use Rattle.alpha_outside.specs.Outside as outside
use Rattle.alpha_outside.specs.Outside.{with_event}
use Rattle.search_values.specs.Values.{value_of, level_of, back_to, chosen, all_at_0, HasClosed, MustSinceClosed, Holds}
use Rattle.search_values.specs.Nogoods.{Nogood, IsStruck}
use Rattle.trail.specs.Assigning.{IsStackOf}
use Rattle.journal_theory.specs.Resolution.{EachRests}
use Rattle.journal_theory.specs.States as phase
use Rattle.journal_theory.specs.States.{State, Phase, IsName, IsSettled, IsStuck}
use Rattle.journal_theory.specs.Covers.{for_stuck, for_closed}
use Rattle.journal_theory.specs.Events.{How, Decisions, Enumerated, Analysed, Justified, Strike, Keep, Learn, CallWide, Back, Allowed, MayLearn, IsNew, IsUnitAt, lits_at}
use Rattle.journal_theory.specs.Journals.{replay}
use Rattle.journal_theory.specs.Laws.{NoneEmpty, IsFar}
use Rattle.journal_theory.proofs.Events.{legal_safe}
use Rattle.journal_theory.proofs.Fresh.{ChosenAreBodies, NewlyChosen, legal_newly, chosen_holds}
use Rattle.journal_theory.proofs.Keeping.{chosen_have_one_highest, kept_is_new}
use Rattle.journal_theory.proofs.Openers.{highest_is_not_closed}
use Rattle.journal_theory.proofs.Phases.{PhaseLeads, legal_leads, learned_is_new}
use Rattle.journal_theory.proofs.Reasons.{each_entry_rests}
use Rattle.journal_theory.proofs.Since.{must_be_is_since_closed}
use Rattle.journal_theory.proofs.Central.{Valid}
use Rattle.conflict_learning.specs.Analysing.{IsUnitBelow, HasOpenHighest}
use Rattle.conflict_learning.proofs.LawProofs.{is_unit_after_back, is_unit_no_lower}
use Rattle.conflict_learning.proofs.Opening.{highest_is_open}
use Rattle.search_state.specs.Searching.{Searching, state_of, taken_back}
use Rattle.core_rules.specs.declared.rules.Core.{Core}
use Rattle.core_meaning.specs.Atoms.{GroundAtom}
use Rattle.search_rules.specs.Rules.{Reached, search_rules}
use Rattle.search_journals.specs.Journals.{Step}
use Rattle.search_journals.specs.Standing as standing
use Rattle.search_journals.specs.Standing.{StandsAt, Fits, IsKept, IsReady, listed}
use Rattle.search_journals.specs.Moves.{MoveIs}
use Rattle.search_journals.specs.declared.moves.Move.TheVariants as move
use Rattle.search_journals.specs.Settling.{IsAnalysedTo, JumpsTo, MayStrikeNow, MayLearnNow, MayCallWide, struck_by, learned_by, kept_by, called_wide, Carried}
use Rattle.search_journals.proofs.Standing.{budget, stands_on, stands_by}
use Rattle.search_journals.proofs.Allowing.{settled}
use Rattle.search_journals.proofs.Choosing.{has_value}

-- ---- what the journal tells

-- what is known of the state that a legal journal leads to
pub record Told (core : Core) (s : Reached) : Type 0 where
  pub valid : Valid (search_rules core) s
  pub bodies : ChosenAreBodies s
  pub newly : NewlyChosen s
  pub leads : PhaseLeads s s.phase

-- so it is of the search's state
pub told_at : (g : standing.Given) (v : Searching) (told : Option outside.Journal) (held : Option (List ℕ)) (left rest : ℕ)
    (journal : List Step) → StandsAt g v told held left rest journal → Told g.core (replay (search_rules g.core) journal)
told_at g v told held left rest journal at =
    let newly = legal_newly (search_rules g.core) (listed g) journal at.legal in
    record {
      valid = (legal_safe (search_rules g.core) (listed g) journal at.legal).valid;
      bodies = newly.0;
      newly = newly.1;
      leads = legal_leads (search_rules g.core) (listed g) journal at.legal;
    }

module _ (core : Core) (s : Reached) (known : Told core s) where
  -- the literals chosen hold
  pub chosen_hold : (l : Lit) → l ∈ chosen s.stack → Holds s.stack l
  chosen_hold = chosen_holds (search_rules core) s known.valid known.bodies known.newly s.stack known.valid.good

-- a list is empty or not
pub empty_or : (ls : List Lit) → (ls ≡ []) ⊎ (¬ (ls ≡ []))
empty_or [] = inl refl
empty_or (l ∷ ls) = inr (λ e. cc)

-- the nogood at which to go back
jump_number : Phase → ℕ
jump_number (phase.MustJump n) = n
jump_number _ = 0

module _ (g : standing.Given) (v : Searching) (told : Option outside.Journal) (held : Option (List ℕ)) (left rest : ℕ)
    (journal : List Step) (at : StandsAt g v told held left rest journal) where
  -- the state that the journal leads to
  abbrev reached : Reached
  reached = replay (search_rules g.core) journal

  -- its phase is the search's
  phase_here : (p : Phase) → v.phase ≡ p → State.phase reached ≡ p
  phase_here p e = sym (ap (λ (s : Reached). s.phase) at.is) ∙ e

  -- so are its nogoods
  nogood_here : (n : ℕ) (ng : Nogood) → slice_get v.nogoods n ≡ Some ng → slice_get (State.nogoods reached) n ≡ Some ng
  nogood_here n ng e = subst (λ (s : Reached). slice_get s.nogoods n ≡ Some ng) at.is e

  -- and its stack
  struck_here : (ng : Nogood) → IsStruck v.stack ng → IsStruck (State.stack reached) ng
  struck_here ng e = subst (λ (s : Reached). IsStruck s.stack ng) at.is e

  -- ---- what the laws say

  -- the nogood just learned, where it is to be struck, is so
  pub learned_struck : (n : ℕ) → v.phase ≡ phase.MustStrike n → (ng : Nogood) × (slice_get v.nogoods n ≡ Some ng) × IsStruck v.stack ng
  learned_struck n e =
      let known = told_at g v told held left rest journal at in
      let leads : PhaseLeads reached (phase.MustStrike n) = subst (λ z. PhaseLeads reached z) (phase_here (phase.MustStrike n) e) known.leads in
      subst (λ (s : Reached). (ng : Nogood) × (slice_get s.nogoods n ≡ Some ng) × IsStruck s.stack ng) (sym at.is) leads

  -- the literals chosen hold
  pub chosen_here : (l : Lit) → l ∈ chosen v.stack → Holds v.stack l
  chosen_here = subst (λ (s : Reached). (l : Lit) → l ∈ chosen s.stack → Holds s.stack l) (sym at.is)
      (chosen_hold g.core reached (told_at g v told held left rest journal at))

  -- each entry rests on what it should
  pub rests_here : EachRests v.nogoods v.stack
  rests_here = subst (λ (s : Reached). EachRests s.nogoods s.stack) (sym at.is)
      (each_entry_rests (search_rules g.core) (listed g) journal at.legal)

  -- a literal of a struck nogood at its highest level isn't closed
  pub open_here : (atoms n : ℕ) (ng : Nogood) → IsStackOf atoms v.stack → v.phase ≡ phase.MustLearn n → slice_get v.nogoods n ≡ Some ng
      → IsStruck v.stack ng → HasOpenHighest v.stack ng.lits
  open_here atoms n ng are e there struck =
      subst (λ (s : Reached). HasOpenHighest s.stack ng.lits) (sym at.is)
      (highest_is_open atoms (State.stack reached) ng.lits (subst (λ (s : Reached). IsStackOf atoms s.stack) at.is are)
      (struck_here ng struck)
      (highest_is_not_closed (search_rules g.core) (listed g) journal at.legal n ng (phase_here (phase.MustLearn n) e) (nogood_here n ng there)
      (struck_here ng struck)))

  -- literals chosen, where there are some, are unit below their highest level
  pub chosen_unit : (ls : List Lit) → ls ⊆ chosen v.stack → ¬ (ls ≡ []) → IsUnitBelow v.stack ls
  chosen_unit ls sub some =
      subst (λ (s : Reached). IsUnitBelow s.stack ls) (sym at.is)
      (let w = chosen_have_one_highest (search_rules g.core) (listed g) journal at.legal ls
      (subst (λ (s : Reached). ls ⊆ chosen s.stack) at.is sub) some in (w.1, w.0))

  -- ---- what may come

  -- the nogood may be struck
  pub may_strike : (n : ℕ) → MayStrikeNow v n → Allowed (search_rules g.core) [] (state_of v) (Strike n)
  may_strike n (inl found) = (inl found.0, found.1)
  may_strike n (inr e) = (inr e, learned_struck n e)

  -- the literals chosen are new
  chosen_new : (how : How) (ls : List Lit) → ¬ (how ≡ Analysed) → NoneEmpty v.nogoods → MayLearn (search_rules g.core) (state_of v) how ls
      → IsNew v.nogoods ls
  chosen_new how ls other firm may =
      subst (λ (s : Reached). IsNew s.nogoods ls) (sym at.is)
      (learned_is_new (search_rules g.core) (listed g) journal at.legal (subst (λ (s : Reached). NoneEmpty s.nogoods) at.is firm) how ls other
      (on how other (subst (λ (s : Reached). MayLearn (search_rules g.core) s how ls) at.is may)))
    where
      on : (how : How) → ¬ (how ≡ Analysed) → MayLearn (search_rules g.core) (standing.unlisted reached) how ls
          → MayLearn (search_rules g.core) reached how ls
      on Decisions other m = m
      on Enumerated other m = m
      on Analysed other m = absurd (other refl)
      on Justified other m = absurd m

  -- what was analysed isn't of literals chosen alone, for then it would be kept
  not_chosen : (ls : List Lit) (level : ℕ) (a : IsAnalysedTo v ls level) → ¬ (lits_at v.nogoods a.struck ⊆ chosen v.stack)
  not_chosen ls level a sub = elim (empty_or (lits_at v.nogoods a.struck)) [
    | inl none ↦ a.to_resolve.0 (ap (all_at_0 v.stack) none)
    | inr some ↦ a.to_resolve.1 (chosen_unit (lits_at v.nogoods a.struck) sub some)
  ]

  -- these literals may be learned
  pub may_learn : (how : How) (ls : List Lit) → MayLearnNow v how ls → Allowed (search_rules g.core) [] (state_of v) (Learn how ls)
  may_learn Decisions ls m = ((m.0, m.2), chosen_new Decisions ls (λ e. cc) m.1 (m.0, m.2))
  may_learn Enumerated ls m =
      let may : MayLearn (search_rules g.core) (state_of v) Enumerated ls = (m.0, m.2, λ e. m.3 (sym m.0 ∙ e)) in
      (may, chosen_new Enumerated ls (λ e. cc) m.1 may)
  may_learn Analysed ls m =
      (((m.1.struck, m.1.phase_is, not_chosen ls m.0 m.1), m.1.learned.analysed), m.1.learned.new)
  may_learn Justified ls m = absurd m

  -- where levels are taken away the nogood is unit
  unit_at : (n level : ℕ) → IsKept v → JumpsTo v n level → (level < level_of v.stack) × IsUnitAt (back_to level v.stack) v.nogoods n
  unit_at n level kept j =
      let w = is_unit_after_back kept.stack.places v.stack j.nogood level kept.stack.is_stack j.struck j.below j.second in
      (w.0, (j.nogood, j.there, w.1))

  -- the struck nogood may be kept
  pub may_keep : (n level : ℕ) → IsKept v → v.phase ≡ phase.MustLearn n → JumpsTo v n level
      → Allowed (search_rules g.core) (listed g) reached (Keep n)
  may_keep n level kept e j = (
    phase_here (phase.MustLearn n) e,
    kept_is_new (search_rules g.core) (listed g) journal at.legal at.far n j.nogood (phase_here (phase.MustLearn n) e)
        (nogood_here n j.nogood j.there) (struck_here j.nogood j.struck)
        (subst (λ (s : Reached). Rattle.journal_theory.specs.Resolution.IsOneHighest s.stack j.nogood.lits) at.is j.below.1),
    (let w = subst (λ (s : Reached). (level < level_of s.stack) × IsUnitAt (back_to level s.stack) s.nogoods n) at.is
        (unit_at n level kept j) in (level, w.0, w.1)),
  )

  -- the search may go back
  pub may_back : (n level : ℕ) → IsKept v → v.phase ≡ phase.MustJump n → JumpsTo v n level
      → Allowed (search_rules g.core) (listed g) reached (Back level)
  may_back n level kept e j =
      let w = subst (λ (s : Reached). (level < level_of s.stack) × IsUnitAt (back_to level s.stack) s.nogoods n) at.is
      (unit_at n level kept j) in
      (w.0, (n, phase_here (phase.MustJump n) e, w.1))

  -- and goes as far as it can
  pub back_far : (n level : ℕ) → v.phase ≡ phase.MustJump n → JumpsTo v n level → IsFar reached level
  unfolding jump_number
  back_far n level e j m q lower less unit =
      let same : m ≡ n = ap jump_number (sym q ∙ phase_here (phase.MustJump n) e) in
      let here : IsUnitAt (back_to lower v.stack) v.nogoods m =
      subst (λ (s : Reached). IsUnitAt (back_to lower s.stack) s.nogoods m) (sym at.is) unit in
      let one : Some here.0 ≡ Some j.nogood = sym here.1 ∙ ap (slice_get v.nogoods) same ∙ j.there in
      let ng : here.0 ≡ j.nogood = cc in
      is_unit_no_lower v.stack j.nogood level lower j.below j.second less
      (here.2.0, here.2.1, subst (λ (z : Nogood). Rattle.search_values.specs.Nogoods.Gives (back_to lower v.stack) z here.2.0 here.2.1) ng here.2.2)

  -- what became must-be-true while an atom is closed did so since
  since : (x : ℕ) (a : GroundAtom) → IsName (state_of v) x a → value_of v.stack x ≡ Some MustBe → HasClosed v.stack
      → MustSinceClosed v.stack x
  since x a name must closed = subst (λ (s : Reached). MustSinceClosed s.stack x) (sym at.is)
      (must_be_is_since_closed (search_rules g.core) (listed g) journal at.legal x a
      (subst (λ (s : Reached). IsName s x a) at.is name)
      (subst (λ (s : Reached). value_of s.stack x ≡ Some MustBe) at.is must)
      (subst (λ (s : Reached). HasClosed s.stack) at.is closed))

  -- an atom that stays must-be-true is stuck
  pub is_stuck : (x : ℕ) → Fits g v → IsReady v → MoveIs v (move.Stuck x) → IsStuck (search_rules g.core) (state_of v) x
  is_stuck x fits ready next = record {
    named = next.1;
    must_be = next.2;
    none_struck = next.0.none_struck;
    none_unit = next.0.none_unit;
    why = elim next.3 [
      | inl closed ↦ inr (since x next.1.0 next.1.1 next.2 closed)
      | inr idle ↦ inl (subst (λ core. IsSettled (search_rules core) (state_of v)) fits (settled v ready next.0 idle))
    ];
  }

  -- the atom may be called wide
  pub may_call : (x : ℕ) → Fits g v → MayCallWide v x → Allowed (search_rules g.core) [] (state_of v) (CallWide x)
  may_call x fits (inl w) = (for_stuck w.0.free (is_stuck x fits w.0 w.1), (λ none. let bad = sym w.1.2 ∙ none in cc))
  may_call x fits (inr w) = (
    for_closed w.0 w.1 w.4.resolvent w.2 w.3 w.4.without w.4.arises w.4.among,
    (λ none. has_value v.stack w.4.without.0 w.4.without.1 (ap (value_of v.stack) w.4.without.2 ∙ none)),
  )

-- the level to go back to is below the present one
pub jump_low : (v : Searching) (n level : ℕ) → IsKept v → JumpsTo v n level → level < level_of v.stack
jump_low v n level kept j =
    (is_unit_after_back kept.stack.places v.stack j.nogood level kept.stack.is_stack j.struck j.below j.second).0

-- ---- the steps

-- a nogood was struck, and noted
pub carried_strike : (v v' : Searching) (told told' : Option outside.Journal) (n : ℕ) → MayStrikeNow v n → v' ≡ struck_by v n
    → told' ≡ option_map (with_event (say.Struck n)) told → Carried v v' told told' 1
carried_strike v v' told told' n may is t held left rest g fits s = (
  Strike n ∷ s.0,
  stands_on g v v' told told' held left (rest + 1) rest s.0 s.1 (Strike n) (say.Struck n) tt
      (may_strike g v told held left (rest + 1) s.0 s.1 n may) refl (ap state_of is) t
      (let k = s.1.strikes_left in omega (arith, k)) (ap budget is),
)

-- literals were learned, and noted
pub carried_learn : (v v' : Searching) (told told' : Option outside.Journal) (how : How) (ls : List Lit) (n : ℕ) → MayLearnNow v how ls
    → v' ≡ learned_by v ls → n ≡ length v.nogoods
    → told' ≡ option_map (with_event (say.Learned n how ls [])) told → Carried v v' told told' 0
carried_learn v v' told told' how ls n may is number t held left rest g fits s = (
  Learn how ls ∷ s.0,
  stands_on g v v' told told' held left (rest + 0) rest s.0 s.1 (Learn how ls) (say.Learned n how ls []) tt
      (may_learn g v told held left (rest + 0) s.0 s.1 how ls may)
      (number ∙ ap (λ (z : Reached). length z.nogoods) s.1.is, inl (refl, refl)) (ap state_of is) t
      (let k = s.1.strikes_left in omega (arith, k)) (ap budget is),
)

-- the struck nogood was kept, and that noted
pub carried_keep : (v v' : Searching) (told told' : Option outside.Journal) (n level : ℕ) → IsKept v → v.phase ≡ phase.MustLearn n
    → JumpsTo v n level → v' ≡ kept_by v n → told' ≡ option_map (with_event (say.Kept n)) told → Carried v v' told told' 0
carried_keep v v' told told' n level kept e j is t held left rest g fits s = (
  Keep n ∷ s.0,
  stands_by g v v' told told' held left (rest + 0) rest s.0 s.1 (Keep n) (say.Kept n) tt
      (may_keep g v told held left (rest + 0) s.0 s.1 n level kept e j) s.1.far refl (ap state_of is) t
      (let k = s.1.strikes_left in omega (arith, k)) (ap budget is),
)

-- an atom was called wide, and that noted
pub carried_wide : (v v' : Searching) (told told' : Option outside.Journal) (x : ℕ) → MayCallWide v x → v' ≡ called_wide v
    → told' ≡ option_map (with_event (say.Wide x 256)) told → Carried v v' told told' 0
carried_wide v v' told told' x may is t held left rest g fits s = (
  CallWide x ∷ s.0,
  stands_on g v v' told told' held left (rest + 0) rest s.0 s.1 (CallWide x) (say.Wide x 256) tt
      (may_call g v told held left (rest + 0) s.0 s.1 x fits may) (refl, refl) (ap state_of is) t
      (let k = s.1.strikes_left in omega (arith, k)) (ap budget is),
)

-- the search went back, and noted it
pub carried_back : (v v' : Searching) (told told' : Option outside.Journal) (n level : ℕ) → IsKept v → v.phase ≡ phase.MustJump n
    → JumpsTo v n level → v' ≡ taken_back v level → told' ≡ option_map (with_event (say.Back level)) told → Carried v v' told told' 0
carried_back v v' told told' n level kept e j is t held left rest g fits s = (
  Back level ∷ s.0,
  stands_by g v v' told told' held left (rest + 0) rest s.0 s.1 (Back level) (say.Back level) tt
      (may_back g v told held left (rest + 0) s.0 s.1 n level kept e j)
      (back_far g v told held left (rest + 0) s.0 s.1 n level e j, s.1.far) refl (ap state_of is) t
      (let k = s.1.strikes_left in omega (arith, k)) (ap budget is),
)
