-- What follows a struck nogood and a stuck atom: what the analysis needs, what it leads to, and where the search goes back to.
use Rattle.std.proofs.Common.{◌≡◌, ℕ, ◌-◌, ◌<◌, true, List, [], ◌∷◌, ◌++◌, length, refl, sym, ◌∙◌, ap, subst, inl, inr}
use Rattle.std.specs.Prelude.{Option, Some, None, slice_get}
use Rattle.lists.specs.Lists.{◌∈◌}
use Rattle.alpha_outside.specs.Outside as outside
use Rattle.alpha_outside.specs.declared.literal.Lit.{Lit}
use Rattle.search_values.specs.Values.{chosen, all_at_0, Holds}
use Rattle.search_values.specs.Nogoods.{Nogood, IsStruck, NoneStruck}
use Rattle.search_values.proofs.Basics.{get_last}
use Rattle.journal_theory.specs.States as phase
use Rattle.journal_theory.specs.Resolution.{EachRests, IsOneHighest}
use Rattle.journal_theory.specs.Events.{Analysed, Decisions, phase_learned, lits_at, lits_in}
use Rattle.journal_theory.specs.Laws.{NoneEmpty}
use Rattle.conflict_learning.specs.Analysing.{AllHold, HasOpenHighest, IsUnitBelow, IsSecondLevel, IsAnalysis}
use Rattle.conflict_learning.specs.Choosing.{IsFirstStruck, IsChoice}
use Rattle.conflict_learning.specs.declared.analysis.Analysis.{Analysis}
use Rattle.conflict_learning.specs.declared.analysis.Analysis.TheVariants as analysis
use Rattle.nogood_store.specs.Stored.{HasNoAtomTwice}
use Rattle.search_state.specs.Searching.{Searching, ids, LitsAreBelow}
use Rattle.search_journals.specs.Standing.{IsKept, IsReady, CarriesOver}
use Rattle.search_journals.specs.Moves.{MoveIs}
use Rattle.search_journals.specs.declared.moves.Move.TheVariants as move
use Rattle.search_journals.specs.Settling.{JumpsTo, MayLearnNow, MayCallWide, IsToStrike, IsToLearn, IsSomewhere, StandsSomewhere, Carried, learnt, struck_by, learned_by, kept_by, called_wide, decided}
use Rattle.search_journals.proofs.Names.{get_some, has_entry}
use Rattle.search_journals.proofs.Choosing.{none_empty_more}
use Rattle.search_journals.proofs.Readying.{kept_with}
use Rattle.search_journals.proofs.Learning.{empty_or, chosen_here, chosen_unit, rests_here, open_here}
use Rattle.search_journals.proofs.Ending.{carried_less, carried_same, kept_struck, kept_learned, not_root, must_learn, firm_struck}

-- ---- where the search stands

module _ (v : Searching) (told : Option outside.Journal) (rest : ℕ) (s : IsSomewhere v told rest) where
  -- each entry rests on what it should
  pub rests_somewhere : EachRests v.nogoods v.stack
  rests_somewhere = rests_here s.given v told s.held s.left rest s.stands.0 s.stands.1

  -- the literals chosen hold
  pub chosen_somewhere : (l : Lit) → l ∈ chosen v.stack → Holds v.stack l
  chosen_somewhere = chosen_here s.given v told s.held s.left rest s.stands.0 s.stands.1

  -- and are unit below their highest level, where there are some
  pub unit_somewhere : ¬ (chosen v.stack ≡ []) → IsUnitBelow v.stack (chosen v.stack)
  unit_somewhere some = chosen_unit s.given v told s.held s.left rest s.stands.0 s.stands.1 (chosen v.stack) (λ l i. i) some

  -- a literal of a struck nogood at its highest level isn't closed
  pub open_somewhere : (n : ℕ) → IsToLearn v n → HasOpenHighest v.stack (lits_at v.nogoods n)
  open_somewhere n next =
      let at = get_some v.nogoods n next.first.there in
      let same : lits_at v.nogoods n ≡ Nogood.lits at.0 = ap lits_in at.1 in
      subst (λ ls. HasOpenHighest v.stack ls) (sym same)
      (open_here s.given v told s.held s.left rest s.stands.0 s.stands.1 next.kept.stack.places n at.0 next.kept.stack.is_stack next.phase_is
      at.1 (λ l i. next.first.holds l (subst (λ ls. l ∈ ls) (sym same) i)))

  module _ (v' : Searching) (told' : Option outside.Journal) (core : v'.core ≡ v.core) where
    -- after a strike it stands where one fewer may come
    pub somewhere_struck : ¬ (rest ≡ 0) → Carried v v' told told' 1 → IsSomewhere v' told' (rest - 1)
    somewhere_struck some carried = record {
      given = s.given;
      fits = core ∙ s.fits;
      held = s.held;
      left = s.left;
      stands = carried_less v v' told told' s.held s.left rest carried some s.given s.fits s.stands;
    }

    -- and where as many may after other events
    pub somewhere_still : Carried v v' told told' 0 → IsSomewhere v' told' rest
    somewhere_still carried = record {
      given = s.given;
      fits = core ∙ s.fits;
      held = s.held;
      left = s.left;
      stands = carried_same v v' told told' s.held s.left rest carried s.given s.fits s.stands;
    }

-- a search that stands where sets are listed stands somewhere
pub somewhere : (book : List (List ℕ)) (v : Searching) (told : Option outside.Journal) (held : Option (List ℕ)) (left rest : ℕ)
    → StandsSomewhere book v told held left rest → IsSomewhere v told rest
somewhere book v told held left rest s = record { given = s.given; fits = s.fits; held = held; left = left; stands = s.stands }

-- so it does after a set was found
pub somewhere_found : (book : List (List ℕ)) (v v1 : Searching) (told told1 : Option outside.Journal) (held held1 : Option (List ℕ))
    (left less rest : ℕ) → StandsSomewhere book v told held left rest → v1.core ≡ v.core
    → ((rest : ℕ) → CarriesOver book v v1 told told1 held held1 (left, rest) (less, rest)) → IsSomewhere v1 told1 rest
somewhere_found book v v1 told told1 held held1 left less rest s core carries = record {
  given = s.given;
  fits = core ∙ s.fits;
  held = held1;
  left = less;
  stands = carries rest s.given s.fits s.lists s.stands;
}

-- ---- which nogood is analysed

-- some nogood is struck, so one is found
pub found_struck : (v : Searching) (found : Option ℕ) (n : ℕ) → IsChoice v.nogoods v.stack found → MoveIs v (move.Strike n) → ¬ (found ≡ None)
found_struck v found n is next none =
    let quiet : NoneStruck v.stack v.nogoods = subst (λ z. IsChoice v.nogoods v.stack z) none is in
    quiet next.0 (Rattle.search_values.proofs.Basics.get_in v.nogoods n next.0 next.1) next.2

-- it is struck
pub first_is_struck : (v : Searching) (n : ℕ) → IsFirstStruck v.nogoods v.stack n
    → (ng : Nogood) × (slice_get v.nogoods n ≡ Some ng) × IsStruck v.stack ng
first_is_struck v n first =
    let at = get_some v.nogoods n first.there in
    (at.0, at.1, λ l i. first.holds l (subst (λ ls. l ∈ ls) (sym (ap lits_in at.1)) i))

-- after it was struck, and didn't end the search, it is to be learned from
pub to_learn : (v v' : Searching) (n : ℕ) → IsReady v → IsFirstStruck v.nogoods v.stack n → v' ≡ struck_by v n → ¬ (v'.phase ≡ phase.Over)
    → IsToLearn v' n
to_learn v v' n ready first is over =
    let root = not_root v v' n is over in
    let above : ¬ (all_at_0 v.stack (lits_at v.nogoods n) ≡ true) = (λ e. let bad = sym e ∙ root in cc) in
    let phase_is = must_learn v v' n is over in
    record {
      kept = kept_struck v v' n is ready.kept;
      phase_is = phase_is;
      first = subst (λ (z : Searching). IsFirstStruck z.nogoods z.stack n) (sym is) first;
      above = subst (λ (z : Searching). ¬ (all_at_0 z.stack (lits_at z.nogoods n) ≡ true)) (sym is) above;
      firm = subst (λ (z : Searching). NoneEmpty z.nogoods) (sym is) (firm_struck v n ready.grounded above);
    }

-- ---- what the analysis leads to

module _ (v : Searching) (n : ℕ) (next : IsToLearn v n) where
  -- it isn't at level 0
  pub not_at_root : (a : Analysis) → IsAnalysis v.nogoods v.stack n a → ¬ (a ≡ analysis.Root)
  not_at_root a is root = next.above (subst (λ z. IsAnalysis v.nogoods v.stack n z) root is)

  -- it is unit itself
  pub jumps_already : (id level : ℕ) → IsAnalysis v.nogoods v.stack n (analysis.AlreadyUnit id level) → JumpsTo v n level
  jumps_already id level is =
      let at = first_is_struck v n next.first in
      let same : lits_at v.nogoods n ≡ Nogood.lits at.0 = ap lits_in at.1 in
      record {
        nogood = at.0;
        there = at.1;
        struck = at.2;
        below = subst (λ ls. IsUnitBelow v.stack ls) same is.1;
        second = subst (λ ls. IsSecondLevel v.stack ls level) same is.2;
      }

  -- or a closed atom is in the way
  pub may_call_needed : (x : ℕ) → IsAnalysis v.nogoods v.stack n (analysis.NeedsReason x) → MayCallWide v x
  may_call_needed x is =
      let at = first_is_struck v n next.first in
      let same : lits_at v.nogoods n ≡ Nogood.lits at.0 = ap lits_in at.1 in
      inr (
        n,
        at.0,
        next.phase_is,
        at.1,
        record {
          without = is.1.without;
          resolvent = is.1.resolvent;
          arises = subst (λ ls. Rattle.journal_theory.specs.Resolution.Arises v.nogoods v.stack ls is.1.resolvent) same is.1.arises;
          among = is.1.among;
        },
      )

  module _ (ls : List Lit) (level : ℕ) (is : IsAnalysis v.nogoods v.stack n (analysis.New ls level)) where
    -- or a new nogood was found
    pub may_learn_new : MayLearnNow v Analysed ls
    may_learn_new = (level, record { struck = n; phase_is = next.phase_is; to_resolve = is.0; learned = is.1 })

    -- whose atoms have ids
    pub new_low : LitsAreBelow (ids v) ls
    new_low l i =
        let h = is.1.analysed.hold l i in
        let e = has_entry v.stack l.atom h.0 h.1 in
        subst (λ z. z < ids v) e.2 (next.kept.placed e.0 e.1)

    -- no two the same
    pub new_once : HasNoAtomTwice ls
    new_once = is.1.once

    -- it isn't empty
    new_some : ¬ (ls ≡ [])
    new_some none = subst (λ z. Rattle.journal_theory.specs.Resolution.IsOneHighest.left is.1.analysed.one_highest ∈ z) none
        is.1.analysed.one_highest.among

    module _ (v' : Searching) (learned : v' ≡ learned_by v ls) where
      -- after it was learned the search goes back
      pub new_jumps : (v'.phase ≡ phase.MustJump (length v.nogoods)) × JumpsTo v' (length v.nogoods) level
      new_jumps = subst (λ (z : Searching). (z.phase ≡ phase.MustJump (length v.nogoods)) × JumpsTo z (length v.nogoods) level) (sym learned) (
        ap (λ p. phase_learned p (length v.nogoods)) next.phase_is,
        record {
          nogood = learnt ls;
          there = get_last v.nogoods (learnt ls);
          struck = is.1.analysed.hold;
          below = (is.1.analysed.none_closed, is.1.analysed.one_highest);
          second = is.1.second;
        },
      )

      -- to where no nogood is empty
      pub new_firm : NoneEmpty v'.nogoods
      new_firm = subst (λ (z : Searching). NoneEmpty z.nogoods) (sym learned) (none_empty_more v.nogoods ls new_some next.firm)

      -- and what is kept is kept
      pub new_kept : IsKept v'
      new_kept = kept_learned v v' ls learned next.kept

-- ---- the struck nogood is kept

module _ (v v' : Searching) (n : ℕ) (is : v' ≡ kept_by v n) where
  -- what is kept is kept
  pub kept_kept : IsKept v → IsKept v'
  kept_kept k = subst (λ (z : Searching). IsKept z) (sym is) (kept_with v (kept_by v n) refl k)

  -- and no nogood is empty
  pub kept_firm : NoneEmpty v.nogoods → NoneEmpty v'.nogoods
  kept_firm firm = subst (λ (z : Searching). NoneEmpty z.nogoods) (sym is) firm

  -- and the search goes back
  pub kept_jumps : (level : ℕ) → JumpsTo v n level → (m : ℕ) × (v'.phase ≡ phase.MustJump m) × JumpsTo v' m level
  kept_jumps level j = subst (λ (z : Searching). (m : ℕ) × (z.phase ≡ phase.MustJump m) × JumpsTo z m level) (sym is)
      (n, refl, record { nogood = j.nogood; there = j.there; struck = j.struck; below = j.below; second = j.second })

-- ---- the literals chosen are learned

module _ (v v1 : Searching) (ls : List Lit) (called : v1 ≡ called_wide v) (are : ls ≡ chosen v.stack) where
  -- they may be learned after an atom was called wide
  pub may_learn_chosen : NoneEmpty v.nogoods → MayLearnNow v1 Decisions ls
  may_learn_chosen firm = subst (λ (z : Searching). MayLearnNow z Decisions ls) (sym called) (are, firm, refl)

  -- and are to be struck then
  pub decided_is : (v2 : Searching) → v2 ≡ learned_by v1 ls → v2 ≡ decided v
  decided_is v2 is = is ∙ (λ i. learned_by (called i) (are i))

-- ---- the nogood just learned is struck

-- after an atom was called wide, and the literals chosen were learned, they are to be struck
pub strike_decided : (v v' : Searching) (told : Option outside.Journal) (rest n : ℕ) → IsKept v → NoneEmpty v.nogoods → IsSomewhere v told rest
    → v' ≡ decided v → n ≡ length v.nogoods → IsToStrike v' n
strike_decided v v' told rest n kept firm s is number = subst (λ (z : Searching). IsToStrike z n) (sym is) (record {
  kept = kept_with v (decided v) refl kept;
  phase_is = ap (λ m. phase.MustStrike m) (sym number);
  nogood = learnt (chosen v.stack);
  there = ap (slice_get (v.nogoods ++ learnt (chosen v.stack) ∷ [])) number ∙ get_last v.nogoods (learnt (chosen v.stack));
  struck = chosen_somewhere v told rest s;
  alone = elim (empty_or (chosen v.stack)) [
    | inl none ↦ inl (ap (all_at_0 v.stack) none)
    | inr some ↦ inr (unit_somewhere v told rest s some)
  ];
  firm = λ above. none_empty_more v.nogoods (chosen v.stack) (λ none. above (ap (all_at_0 v.stack) none)) firm;
})

module _ (v v' : Searching) (n : ℕ) (next : IsToStrike v n) (is : v' ≡ struck_by v n) (over : ¬ (v'.phase ≡ phase.Over)) where
  -- its literals are those of its number
  same_lits : lits_at v.nogoods n ≡ next.nogood.lits
  same_lits = ap lits_in next.there

  -- not all are at level 0
  above_root : ¬ (all_at_0 v.stack next.nogood.lits ≡ true)
  above_root e = let bad = sym (ap (all_at_0 v.stack) same_lits ∙ e) ∙ not_root v v' n is over in cc

  -- so it is unit below its highest level
  unit_below : IsUnitBelow v.stack next.nogood.lits
  unit_below = elim next.alone [ inl root ↦ absurd (above_root root) | inr unit ↦ unit ]

  -- so is the nogood of this number
  pub struck_hold : AllHold v'.stack (lits_at v'.nogoods n)
  struck_hold = subst (λ (z : Searching). AllHold z.stack (lits_at z.nogoods n)) (sym is)
      (subst (λ ls. AllHold v.stack ls) (sym same_lits) next.struck)

  pub struck_one : IsOneHighest v'.stack (lits_at v'.nogoods n)
  struck_one = subst (λ (z : Searching). IsOneHighest z.stack (lits_at z.nogoods n)) (sym is)
      (subst (λ ls. IsOneHighest v.stack ls) (sym same_lits) unit_below.1)

  -- it is there
  pub struck_there : n < length v'.nogoods
  struck_there = Rattle.std.proofs.lemmas.Option.slice_get_within v'.nogoods n next.nogood
      (subst (λ (z : Searching). slice_get z.nogoods n ≡ Some next.nogood) (sym is) next.there)

  -- it is kept, and the search goes back
  pub struck_jumps : (level : ℕ) → IsSecondLevel v'.stack (lits_at v'.nogoods n) level → JumpsTo v' n level
  struck_jumps level second = subst (λ (z : Searching). JumpsTo z n level) (sym is) (record {
    nogood = next.nogood;
    there = next.there;
    struck = next.struck;
    below = unit_below;
    second = subst (λ ls. IsSecondLevel v.stack ls level) same_lits
        (subst (λ (z : Searching). IsSecondLevel z.stack (lits_at z.nogoods n) level) is second);
  })

  -- what is kept is kept, and no nogood is empty
  pub struck_kept : IsKept v'
  struck_kept = kept_struck v v' n is next.kept

  pub struck_firm : NoneEmpty v'.nogoods
  struck_firm = subst (λ (z : Searching). NoneEmpty z.nogoods) (sym is) (next.firm above_root)

  pub struck_must : v'.phase ≡ phase.MustLearn n
  struck_must = must_learn v v' n is over

-- it is there before
pub strike_there : (v : Searching) (n : ℕ) → IsToStrike v n → n < length v.nogoods
strike_there v n next = Rattle.std.proofs.lemmas.Option.slice_get_within v.nogoods n next.nogood next.there

-- ---- after a set

module _ (v v' : Searching) (told : Option outside.Journal) (rest n : ℕ) (s : IsSomewhere v told rest) (some : ¬ (chosen v.stack ≡ []))
    (is : v' ≡ learned_by v (chosen v.stack)) (number : n ≡ length v.nogoods) where
  -- the nogood of the literals chosen is there
  found_at : slice_get v'.nogoods n ≡ Some (learnt (chosen v.stack))
  found_at = subst (λ (z : Searching). slice_get z.nogoods n ≡ Some (learnt (chosen v.stack))) (sym is)
      (ap (slice_get (v.nogoods ++ learnt (chosen v.stack) ∷ [])) number ∙ get_last v.nogoods (learnt (chosen v.stack)))

  found_lits : lits_at v'.nogoods n ≡ chosen v.stack
  found_lits = ap lits_in found_at

  found_stack : v.stack ≡ v'.stack
  found_stack = sym (ap (λ (z : Searching). z.stack) is)

  pub found_there : n < length v'.nogoods
  found_there = Rattle.std.proofs.lemmas.Option.slice_get_within v'.nogoods n (learnt (chosen v.stack)) found_at

  -- it holds
  pub found_hold : AllHold v'.stack (lits_at v'.nogoods n)
  found_hold = subst (λ ls. AllHold v'.stack ls) (sym found_lits)
      (subst (λ st. AllHold st (chosen v.stack)) found_stack (chosen_somewhere v told rest s))

  -- and has one literal at its highest level
  pub found_one : IsOneHighest v'.stack (lits_at v'.nogoods n)
  found_one = subst (λ ls. IsOneHighest v'.stack ls) (sym found_lits)
      (subst (λ st. IsOneHighest st (chosen v.stack)) found_stack (unit_somewhere v told rest s some).1)

  -- so the search goes back
  pub found_jumps : v.phase ≡ phase.Found → (level : ℕ) → IsSecondLevel v'.stack (lits_at v'.nogoods n) level
      → (v'.phase ≡ phase.MustJump n) × JumpsTo v' n level
  found_jumps found level second = (
    ap (λ (z : Searching). z.phase) is ∙ ap (λ p. phase_learned p (length v.nogoods)) found ∙ ap (λ m. phase.MustJump m) (sym number),
    record {
      nogood = learnt (chosen v.stack);
      there = found_at;
      struck = subst (λ ls. AllHold v'.stack ls) found_lits found_hold;
      below = subst (λ st. IsUnitBelow st (chosen v.stack)) found_stack (unit_somewhere v told rest s some);
      second = subst (λ ls. IsSecondLevel v'.stack ls level) found_lits second;
    },
  )
