-- How a round ends: the search goes on, or it is at its end.
use Rattle.std.proofs.Common.{◌≡◌, ℕ, ℤ, ◌+◌, ◌-◌, ◌^◌, ◌<◌, ◌≤◌, Bool, true, false, List, [], ◌∷◌, length, refl, sym, ◌∙◌, ap, subst, inl, inr, arith}
use Rattle.std.specs.Prelude.{Option, Some, None, Result, Ok, Err, IfOk, slice_get}
use Rattle.std.specs.Bool.{◌==◌}
use Rattle.alpha_outside.specs.Outside as outside
use Rattle.alpha_outside.specs.declared.literal.Lit.{Lit}
use Rattle.search_values.specs.Values.{chosen, all_at_0}
use Rattle.search_values.specs.Nogoods.{Nogood, IsStruck}
use Rattle.journal_theory.specs.States as phase
use Rattle.journal_theory.specs.Laws.{NoneEmpty}
use Rattle.journal_theory.specs.Events.{phase_struck, lits_at}
use Rattle.alpha_outside.specs.declared.kinds.ArithOp.{ArithOp}
use Rattle.journal_theory.specs.Journals.{replay}
use Rattle.search_state.specs.Searching.{Searching, IsAllTold, ids, made, state_of, taken_back}
use Rattle.search_rules.specs.Rules.{Reached, search_rules}
use Rattle.search_rules.specs.Faults.{IsOverflow, IsTooLarge}
use Rattle.search_journals.specs.Journals.{Step, makes, SomeStruck, IsSomeDue}
use Rattle.search_journals.specs.Standing as standing
use Rattle.search_journals.specs.Standing.{Stands, StandsAt, Fits, Carries, CarriesOver, Ends, EndsBy, IsReady, IsKept, IsGrounded, IsTraceFault, IsRoundFault, Leaves}
use Rattle.search_journals.specs.Moves.{MoveIs}
use Rattle.search_journals.specs.declared.moves.Move.TheVariants as move
use Rattle.search_journals.specs.declared.ends.SearchFault.{SearchFault}
use Rattle.search_journals.specs.declared.ends.SearchFault.TheVariants.{WriteFault, TraceFault, OutOfMemory}
use Rattle.search_journals.specs.declared.ends.Finish.{Finish}
use Rattle.search_journals.specs.declared.ends.Finish.TheVariants as finish
use Rattle.search_journals.specs.Settling.{IsFound, struck_by, learned_by, Carried, Again, Turned, Rounds, HasLearnedChosen, IsLess, Outcome}
use Rattle.search_journals.proofs.Standing.{cause_on, made_count, makes_within}
use Rattle.search_journals.proofs.Unlisted.{overflow_on, too_large_on, due_on}
use Rattle.search_journals.proofs.Readying.{none_empty, kept_back, kept_with}
use Rattle.search_journals.proofs.ToldAll.{made_length}
use Rattle.search_journals.proofs.Choosing.{all_low, chosen_below, none_empty_more}
use Rattle.search_journals.proofs.Learning.{learned_struck}

-- ---- how many instances were made

-- where no more may be made and all were noted, as many were noted as may be made
pub makes_all : (g : standing.Given) (v : Searching) (told : Option outside.Journal) (held : Option (List ℕ)) (left rest : ℕ)
    (journal : List Step) → StandsAt g v told held left rest journal → IsAllTold v → v.left ≡ 0
    → makes journal ≡ g.instances
makes_all g v told held left rest journal at all none =
    let noted : length (made v) ≡ makes journal = ap (λ (z : Reached). length z.made) at.is ∙ made_count g.core journal in
    let count : length (made v) ≡ length v.ground.instances = made_length v all in
    let budget = at.instances_left in
    omega (arith, noted, count, budget, none)

-- ---- the end

module _ (g : standing.Given) (v : Searching) (told : Option outside.Journal) (held : Option (List ℕ)) (left rest : ℕ) (fits : Fits g v)
    (s : Stands g v told held left rest) where
  -- it ends so where it stands
  ends_by : (how : Finish) → EndsBy g s.0 left rest how → Ends g told held left rest how
  ends_by how is = record {
    journal = s.0;
    legal = s.1.legal;
    tells = s.1.tells;
    hands = s.1.hands;
    sets_left = s.1.sets_left;
    strikes_left = s.1.strikes_left;
    made_within = makes_within g v told held left rest s.0 s.1;
    how_is = is;
  }

  -- as many nogoods were struck as may be, and one more is struck
  pub ends_struck : 0 < left → rest ≡ 0 → (n : ℕ) × (ng : Nogood) × (slice_get v.nogoods n ≡ Some ng) × IsStruck v.stack ng
      → Ends g told held left rest finish.Conflicts
  ends_struck room none struck = ends_by finish.Conflicts (room, none, subst (λ (z : Reached). SomeStruck z) s.1.is struck)

  -- so it is where the nogood just learned is to be struck
  pub ends_learned : 0 < left → rest ≡ 0 → (n : ℕ) → v.phase ≡ phase.MustStrike n → Ends g told held left rest finish.Conflicts
  ends_learned room none n e = let w = learned_struck g v told held left rest s.0 s.1 n e in ends_struck room none (n, w.0, w.1, w.2)

  -- the journal has ended
  pub ends_over : 0 < left → v.phase ≡ phase.Over → Ends g told held left rest finish.Finished
  ends_over room e = ends_by finish.Finished (room, inl (sym (ap (λ (z : Reached). z.phase) s.1.is) ∙ e))

  -- a set was found while no literal was chosen
  pub ends_found : 0 < left → v.phase ≡ phase.Found → chosen v.stack ≡ [] → Ends g told held left rest finish.Finished
  ends_found room e none = ends_by finish.Finished
      (room, inr (sym (ap (λ (z : Reached). z.phase) s.1.is) ∙ e, sym (ap (λ (z : Reached). chosen z.stack) s.1.is) ∙ none))

  -- as many sets were shown as may be
  pub ends_limit : left ≡ 0 → Ends g told held left rest finish.LimitReached
  ends_limit none = ends_by finish.LimitReached none

  -- a term is too large
  pub ends_too_large : 0 < left → (line size : ℕ) → IsTooLarge v.core (state_of v) line size
      → Ends g told held left rest (finish.TermTooLarge line size)
  ends_too_large room line size large =
      ends_by (finish.TermTooLarge line size) (
        room,
        too_large_on g.core (replay (search_rules g.core) s.0) line size
            (subst (λ (z : Reached). IsTooLarge g.core z line size) s.1.is
            (subst (λ core. IsTooLarge core (state_of v) line size) fits large)),
      )

  -- an operation has no place in 64 bits
  pub ends_overflow : 0 < left → (line : ℕ) (op : ArithOp) (x y : ℤ) → IsOverflow v.core (state_of v) line op x y
      → Ends g told held left rest (finish.Overflow line op x y)
  ends_overflow room line op x y outside =
      ends_by (finish.Overflow line op x y) (
        room,
        overflow_on g.core (replay (search_rules g.core) s.0) line op x y
            (subst (λ (z : Reached). IsOverflow g.core z line op x y) s.1.is
            (subst (λ core. IsOverflow core (state_of v) line op x y) fits outside)),
      )

  -- as many instances were made as may be, and one more is due
  pub ends_instances : 0 < left → IsAllTold v → v.left ≡ 0 → IsSomeDue v.core (state_of v) → Ends g told held left rest finish.Instances
  ends_instances room all none due =
      ends_by finish.Instances (
        room,
        makes_all g v told held left rest s.0 s.1 all none,
        due_on g.core (replay (search_rules g.core) s.0)
            (subst (λ (z : Reached). IsSomeDue g.core z) s.1.is (subst (λ core. IsSomeDue core (state_of v)) fits due)),
      )

-- ---- counts

-- one strike was taken
pub carried_less : (v v' : Searching) (told told' : Option outside.Journal) (held : Option (List ℕ)) (left rest : ℕ)
    → Carried v v' told told' 1 → ¬ (rest ≡ 0) → Carries v v' told told' held held (left, rest) (left, rest - 1)
carried_less v v' told told' held left rest c some g fits s =
    let same : rest - 1 + 1 ≡ rest = omega (arith, some) in
    c held left (rest - 1) g fits (subst (λ z. Stands g v told held left z) (sym same) s)

-- none was taken
pub carried_same : (v v' : Searching) (told told' : Option outside.Journal) (held : Option (List ℕ)) (left rest : ℕ)
    → Carried v v' told told' 0 → Carries v v' told told' held held (left, rest) (left, rest)
carried_same v v' told told' held left rest c g fits s =
    let same : rest + 0 ≡ rest = omega arith in
    c held left rest g fits (subst (λ z. Stands g v told held left z) (sym same) s)

-- what isn't none is some
pub some_left : (left : ℕ) → ¬ (left ≡ 0) → 0 < left
some_left left some = omega (arith, some)

-- ---- what is kept

-- a struck nogood leaves what is kept
pub kept_struck : (v v' : Searching) (n : ℕ) → v' ≡ struck_by v n → IsKept v → IsKept v'
kept_struck v v' n is k = subst (λ (z : Searching). IsKept z) (sym is) (kept_with v (struck_by v n) refl k)

-- so does a learned one
pub kept_learned : (v v' : Searching) (ls : List Lit) → v' ≡ learned_by v ls → IsKept v → IsKept v'
kept_learned v v' ls is k = subst (λ (z : Searching). IsKept z) (sym is) (kept_with v (learned_by v ls) refl k)

-- ---- a nogood is struck

-- where a strike does not end the search the nogood is not struck at level 0
not_over : (n : ℕ) (root : Bool) → ¬ (phase_struck n root ≡ phase.Over) → root ≡ false
not_over n true other = absurd (other refl)
not_over n false other = refl

-- where the search isn't over, the nogood isn't struck at level 0
pub not_root : (v v' : Searching) (n : ℕ) → v' ≡ struck_by v n → ¬ (v'.phase ≡ phase.Over) → all_at_0 v.stack (lits_at v.nogoods n) ≡ false
not_root v v' n is over = not_over n (all_at_0 v.stack (lits_at v.nogoods n)) (λ e. over (ap (λ (z : Searching). z.phase) is ∙ e))

-- so the search has to learn
pub must_learn : (v v' : Searching) (n : ℕ) → v' ≡ struck_by v n → ¬ (v'.phase ≡ phase.Over) → v'.phase ≡ phase.MustLearn n
must_learn v v' n is over = ap (λ (z : Searching). z.phase) is ∙ ap (phase_struck n) (not_root v v' n is over)

-- and is above level 0, where no nogood is empty
pub firm_struck : (v : Searching) (n : ℕ) → IsGrounded v → ¬ (all_at_0 v.stack (lits_at v.nogoods n) ≡ true) → NoneEmpty v.nogoods
firm_struck v n (inl z) above = absurd (above (all_low v.stack (lits_at v.nogoods n) z))
firm_struck v n (inr f) above = f

-- no nogood is empty where an atom stays must-be-true
pub firm_stuck : (v : Searching) (x : ℕ) → MoveIs v (move.Stuck x) → NoneEmpty v.nogoods
firm_stuck v x next = none_empty v.stack v.nogoods next.0.none_struck

-- nor where a set is found
pub firm_full : (v : Searching) → MoveIs v move.Full → NoneEmpty v.nogoods
firm_full v next = none_empty v.stack v.nogoods next.0.none_struck

-- ---- the search goes on

-- the search went back after something was learned or kept
pub again : (v v1 v' : Searching) (level : ℕ) → v1.core ≡ v.core → v' ≡ taken_back v1 level → NoneEmpty v1.nogoods → IsKept v1 → Again v v'
again v v1 v' level core back firm kept = record {
  core = ap (λ (z : Searching). z.core) back ∙ core;
  ready = subst (λ (z : Searching). IsReady z) (sym back)
      (record { kept = kept_back v1 level kept; free = refl; grounded = inr firm });
}

-- ---- faults after a part of a round

-- a fault after one strike
pub fault_struck : (v v1 : Searching) (told told1 told' : Option outside.Journal) (rest before mid now : ℕ) (fault : SearchFault)
    → v1.core ≡ v.core → before ≤ mid → ¬ (rest ≡ 0)
    → Carried v v1 told told1 1 → IsRoundFault v1 told1 told' (rest - 1) mid now fault → IsRoundFault v told told' rest before now fault
fault_struck v v1 told told1 told' rest before mid now fault core later some carried f = record {
  halts = λ g fits held left room s. f.halts g (core ∙ fits) held left room
      (carried_less v v1 told told1 held left rest carried some g fits s);
  cause = cause_on before mid now fault later f.cause;
}

-- and after events that strike nothing
pub fault_same : (v v1 : Searching) (told told1 told' : Option outside.Journal) (rest before mid now : ℕ) (fault : SearchFault)
    → v1.core ≡ v.core → before ≤ mid
    → Carried v v1 told told1 0 → IsRoundFault v1 told1 told' rest mid now fault → IsRoundFault v told told' rest before now fault
fault_same v v1 told told1 told' rest before mid now fault core later carried f = record {
  halts = λ g fits held left room s. f.halts g (core ∙ fits) held left room (carried_same v v1 told told1 held left rest carried g fits s);
  cause = cause_on before mid now fault later f.cause;
}

-- a fault of noting after such events
pub fault_then : (v v1 : Searching) (told told1 told' : Option outside.Journal) (before mid now : ℕ) (fault : SearchFault)
    → v1.core ≡ v.core → before ≤ mid → Carried v v1 told told1 0 → IsTraceFault v1 told1 told' mid now fault
    → IsTraceFault v told told' before now fault
fault_then v v1 told told1 told' before mid now fault core later carried f = record {
  halts = λ g fits held left rest room s. f.halts g (core ∙ fits) held left rest room
      (carried_same v v1 told told1 held left rest carried g fits s);
  cause = cause_on before mid now fault later f.cause;
}

-- ---- a round

-- events that strike nothing, after others
pub carried_on : (v v1 v2 : Searching) (told told1 told2 : Option outside.Journal) → v1.core ≡ v.core → Carried v v1 told told1 0
    → Carried v1 v2 told1 told2 0 → Carried v v2 told told2 0
carried_on v v1 v2 told told1 told2 core first next held left rest g fits s =
    carried_same v1 v2 told1 told2 held left rest next g (core ∙ fits) (first held left rest g fits s)

-- events that leave as many strikes strike nothing
pub justified_carried : (v v' : Searching) (told told' : Option outside.Journal)
    → ((held : Option (List ℕ)) (left rest : ℕ) → Carries v v' told told' held held (left, rest) (left, rest)) → Carried v v' told told' 0
justified_carried v v' told told' carries held left rest g fits s =
    let same : rest + 0 ≡ rest = omega arith in
    carries held left rest g fits (subst (λ z. Stands g v told held left z) same s)

-- the search went back after such events
pub turned_back : (v v1 v2 : Searching) (told told1 told2 : Option outside.Journal) (level : ℕ) → v1.core ≡ v.core → v2 ≡ taken_back v1 level
    → NoneEmpty v1.nogoods → IsKept v1 → Carried v v1 told told1 0 → Carried v1 v2 told1 told2 0 → (rest : ℕ)
    → Turned v v2 told told2 rest rest None
turned_back v v1 v2 told told1 told2 level core back firm kept first next rest = (
  again v v1 v2 level core back firm kept,
  λ held left g fits s. carried_same v v2 told told2 held left rest (carried_on v v1 v2 told told1 told2 core first next) g fits s,
)

-- what holds whatever may still be struck holds for so many
pub turned_for : (r : Result (Option Finish) SearchFault) (v v' : Searching) (told told' : Option outside.Journal) (rest : ℕ)
    → IfOk r (λ end. (rest : ℕ) → Turned v v' told told' rest rest end) → IfOk r (Turned v v' told told' rest rest)
turned_for (Ok end) v v' told told' rest p = p rest
turned_for (Err f) v v' told told' rest p = tt

-- a round after events that strike nothing is one with them
pub rounds_after : (r : Result (Option Finish) SearchFault) (v v1 v2 : Searching) (told told1 told2 : Option outside.Journal) (rest rest' : ℕ)
    → v1.core ≡ v.core → Carried v v1 told told1 0 → IfOk r (Rounds v1 v2 told1 told2 rest rest') → IfOk r (Rounds v v2 told told2 rest rest')
rounds_after (Ok None) v v1 v2 told told1 told2 rest rest' core carried p = (
  p.0,
  (
    record { core = p.1.0.core ∙ core; ready = p.1.0.ready },
    λ held left g fits s. p.1.1 held left g (core ∙ fits) (carried_same v v1 told told1 held left rest carried g fits s),
  ),
)
rounds_after (Ok (Some how)) v v1 v2 told told1 told2 rest rest' core carried p =
    λ held left g fits room s. p held left g (core ∙ fits) room (carried_same v v1 told told1 held left rest carried g fits s)
rounds_after (Err f) v v1 v2 told told1 told2 rest rest' core carried p = tt

-- what comes after a strike is a round with it
pub rounds_struck : (r : Result (Option Finish) SearchFault) (v v1 v2 : Searching) (told told1 told2 : Option outside.Journal) (rest rest' : ℕ)
    → v1.core ≡ v.core → ¬ (rest ≡ 0) → rest' ≤ rest - 1 → Carried v v1 told told1 1 → IfOk r (Turned v1 v2 told1 told2 (rest - 1) rest')
    → IfOk r (Rounds v v2 told told2 rest rest')
rounds_struck (Ok None) v v1 v2 told told1 told2 rest rest' core some fewer carried p = (
  omega (arith, some, fewer),
  (
    record { core = p.0.core ∙ core; ready = p.0.ready },
    λ held left g fits s. p.1 held left g (core ∙ fits) (carried_less v v1 told told1 held left rest carried some g fits s),
  ),
)
rounds_struck (Ok (Some how)) v v1 v2 told told1 told2 rest rest' core some fewer carried p =
    λ held left g fits room s. p held left g (core ∙ fits) room (carried_less v v1 told told1 held left rest carried some g fits s)
rounds_struck (Err f) v v1 v2 told told1 told2 rest rest' core some fewer carried p = tt

-- a round turns the search
pub rounds_turn : (r : Result (Option Finish) SearchFault) (v v' : Searching) (told told' : Option outside.Journal) (rest rest' : ℕ)
    → IfOk r (Rounds v v' told told' rest rest') → IfOk r (Turned v v' told told' rest rest')
rounds_turn (Ok None) v v' told told' rest rest' p = p.1
rounds_turn (Ok (Some how)) v v' told told' rest rest' p = p
rounds_turn (Err f) v v' told told' rest rest' p = tt

-- a round leaves less to come
pub rounds_outcome : (book : List (List ℕ)) (r : Result (Option Finish) SearchFault) (v v' : Searching) (told told' : Option outside.Journal)
    (held : Option (List ℕ)) (left rest rest' : ℕ) → 0 < left → IfOk r (Rounds v v' told told' rest rest')
    → IfOk r (Outcome book v v' told told' held held (left, rest) (left, rest'))
rounds_outcome book (Ok None) v v' told told' held left rest rest' room p =
    (p.1.0, room, inl p.0, λ g fits lists s. p.1.1 held left g fits s)
rounds_outcome book (Ok (Some how)) v v' told told' held left rest rest' room p = λ g fits lists s. p held left g fits room s
rounds_outcome book (Err f) v v' told told' held left rest rest' room p = tt

-- after a set the literals chosen were learned, and the search went back
pub outcome_back : (v v2 v3 : Searching) (told told2 told3 : Option outside.Journal) (left level : ℕ) → v2 ≡ learned_by v (chosen v.stack)
    → NoneEmpty v.nogoods → IsKept v → ids v < 2 ^ 32 → ¬ (chosen v.stack ≡ []) → ¬ (left ≡ 0) → Carried v v2 told told2 0
    → v3 ≡ taken_back v2 level → Carried v2 v3 told2 told3 0
    → (book : List (List ℕ)) (held : Option (List ℕ)) (rest : ℕ) → Outcome book v v3 told told3 held held (left, rest) (left, rest) None
outcome_back v v2 v3 told told2 told3 left level learned firm kept few some room carried back carried' book held rest = (
  again v v2 v3 level (ap (λ (z : Searching). z.core) learned) back
      (subst (λ (z : Searching). NoneEmpty z.nogoods) (sym learned) (none_empty_more v.nogoods (chosen v.stack) some firm))
      (kept_learned v v2 (chosen v.stack) learned kept),
  omega (arith, room),
  inr (
    refl,
    record {
      learned = ap (λ (z : Searching). z.nogoods) back ∙ ap (λ (z : Searching). z.nogoods) learned;
      some = some;
      low = λ l i. let k = chosen_below v.stack (ids v) kept.placed l i in omega (arith, k, few);
    },
  ),
  λ g fits lists s. carried_same v2 v3 told2 told3 held left rest carried' g (ap (λ (z : Searching). z.core) learned ∙ fits)
      (carried_same v v2 told told2 held left rest carried g fits s),
)

-- ---- whether a literal is chosen

-- where the list is found empty no literal is chosen
pub none_chosen : (n : ℕ) (items ls : List Lit) → n ≡ length items → (n == 0) ≡ true → items ≡ ls → ls ≡ []
none_chosen n [] ls len z e = sym e
none_chosen n (x ∷ items) ls len z e =
    let zero : n ≡ 0 = grind (arith, z) in
    absurd (let bad : length (x ∷ items) ≡ 0 = sym len ∙ zero in cc)

-- and else some are
pub some_chosen : (n : ℕ) (items ls : List Lit) → n ≡ length items → (n == 0) ≡ false → items ≡ ls → ¬ (ls ≡ [])
some_chosen n items ls len z e none =
    let bad : true ≡ false = sym (ap (λ k. k == 0) (len ∙ ap length (e ∙ none))) ∙ z in
    cc

-- ---- after what is found

-- a fault while nothing is written leaves what a search may leave
pub leaves_fault : (v : Searching) (told told' : Option outside.Journal) (rest before now : ℕ) (sink : ℕ × ℕ) (fault : SearchFault)
    → IsRoundFault v told told' rest before now fault
    → (g : standing.Given) → Fits g v → (held : Option (List ℕ)) (left : ℕ) → 0 < left → Stands g v told held left rest
    → Leaves g told' held sink (before, now) fault
leaves_fault v told told' rest before now sink WriteFault f g fits held left room s = absurd f.cause
leaves_fault v told told' rest before now sink TraceFault f g fits held left room s = (f.cause, inl (f.halts g fits held left room s))
leaves_fault v told told' rest before now sink OutOfMemory f g fits held left room s = inl (f.halts g fits held left room s)

-- the search goes on after a set of which it has `left` before, and `less` after
module _ (book : List (List ℕ)) (v v1 : Searching) (told told1 : Option outside.Journal) (held held1 : Option (List ℕ)) (left less : ℕ)
    (is : (let w : Searching = record v { phase = phase.Found } in v1 ≡ w))
    (carries : (rest : ℕ) → CarriesOver book v v1 told told1 held held1 (left, rest) (less, rest)) where
  -- there is less to come than before it was
  less_on : (v' : Searching) (rest : ℕ) → IsLess v1 v' rest rest → IsLess v v' rest rest
  less_on v' rest (inl fewer) = inl fewer
  less_on v' rest (inr same) =
      let h : HasLearnedChosen (record v { phase = phase.Found }) v' = subst (λ (z : Searching). HasLearnedChosen z v') is same.1 in
      inr (refl, record { learned = h.learned; some = h.some; low = h.low })

  -- a set was found, and the round went on
  pub found_outcome : (r : Result (Option Finish) SearchFault) (v' : Searching) (told' : Option outside.Journal) (rest : ℕ)
      → IfOk r (λ end. (book : List (List ℕ)) (held : Option (List ℕ)) (rest : ℕ) → Outcome book v1 v' told1 told' held held (less, rest) (less, rest) end)
      → IfOk r (Outcome book v v' told told' held held1 (left, rest) (less, rest))
  found_outcome (Ok None) v' told' rest p =
      let w = p book held1 rest in (
        record { core = w.0.core ∙ ap (λ (z : Searching). z.core) is; ready = w.0.ready },
        w.1,
        less_on v' rest w.2,
        λ g fits lists s. w.3 g (ap (λ (z : Searching). z.core) is ∙ fits) lists (carries rest g fits lists s),
      )
  found_outcome (Ok (Some how)) v' told' rest p =
      λ g fits lists s. p book held1 rest g (ap (λ (z : Searching). z.core) is ∙ fits) lists (carries rest g fits lists s)
  found_outcome (Err f) v' told' rest p = tt

  -- or there was a fault
  pub found_fault : (told' : Option outside.Journal) (rest : ℕ) (before mid now : ℕ) (sink : ℕ × ℕ) (fault : SearchFault)
      → before ≤ mid → (0 < less) × ((rest : ℕ) → IsRoundFault v1 told1 told' rest mid now fault)
      → (g : standing.Given) → Fits g v → g.lists.book ≡ book → Stands g v told held left rest → Leaves g told' held1 sink (before, now) fault
  found_fault told' rest before mid now sink fault later f g fits lists s =
      let h = f.1 rest in
      leaves_fault v1 told1 told' rest before now sink fault
      (record { halts = h.halts; cause = cause_on before mid now fault later h.cause }) g
      (ap (λ (z : Searching). z.core) is ∙ fits) held1 less f.0 (carries rest g fits lists s)

  -- the search has found a set
  pub is_found : IsReady v → MoveIs v move.Full → IsFound v1
  is_found ready next = subst (λ (z : Searching). IsFound z) (sym is)
      (record { kept = kept_with v (record v { phase = phase.Found }) refl ready.kept; firm = firm_full v next; phase_is = refl })
