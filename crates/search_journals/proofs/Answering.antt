-- Where a search ends it answers as it promises.
use Rattle.std.proofs.Common.{◌≡◌, ℕ, ◌+◌, ◌<◌, ◌≤◌, List, [], ◌∷◌, ◌++◌, length, take, reverse, refl, sym, ◌∙◌, ap, subst, inl, inr, arith, append-nil}
use Rattle.std.specs.Prelude.{Option, Ok, Err}
use Rattle.std.specs.Io.KnownBytes.{Appends}
use Rattle.std.proofs.lemmas.List.{length-reverse, take_all}
use Rattle.lists.specs.Lists.{◌∈◌, SameSet, concat}
use Rattle.lists.proofs.ListLemmas.{Each-from, Each-append, concat-append}
use Rattle.asp_meaning.specs.Atoms.{Atom}
use Rattle.asp_meaning.specs.Output.{IsBraceLine}
use Rattle.asp_laws.proofs.Readable.{one_line_for_the_same_set}
use Rattle.alpha_outside.specs.Outside as outside
use Rattle.core_rules.specs.declared.rules.Core.{Core}
use Rattle.journal_theory.specs.States.{State}
use Rattle.journal_theory.specs.Journals.{replay, Legal, IsFinished}
use Rattle.journal_theory.proofs.Events.{legal_safe}
use Rattle.journal_theory.proofs.LawProofs.{shown_is_not_listed, shown_once}
use Rattle.journal_theory.proofs.FoundOnce.{found_is_new, found_are_answer_sets}
use Rattle.journal_theory.proofs.Missed.{none_is_missed}
use Rattle.search_rules.specs.Rules.{Reached, search_rules}
use Rattle.search_rules.specs.Stage.{IsSearchable}
use Rattle.search_rules.proofs.CoreSets.{core_sets_are_found}
use Rattle.search_rules.proofs.UserAtoms.{found_are_determined}
use Rattle.search_journals.specs.Journals.{Step, Tells, IsLineOfIds, AreLinesOf, strikes, makes}
use Rattle.search_journals.specs.Search.{SinkChange, TraceChange, Journaled, Wrote, WroteFront, WroteOneMore, IsWithin, EndIs, SearchAnswer, IsCoreSetLine, AreCoreSetLines, HaveAllOf, IsAmong, core_sets}
use Rattle.search_journals.specs.Standing.{Listed, given_for, Halts, HaltsWithin, HaltsBehind, Leaves, EndsBy, Ends}
use Rattle.search_journals.specs.Settling.{ended}
use Rattle.search_settings.specs.declared.Settings.{Settings}
use Rattle.search_journals.specs.declared.ends.SearchFault.{SearchFault}
use Rattle.search_journals.specs.declared.ends.SearchFault.TheVariants.{WriteFault, TraceFault, OutOfMemory}
use Rattle.search_journals.specs.declared.ends.Finish.{Finish}
use Rattle.search_journals.specs.declared.ends.Finish.TheVariants as finish
use Rattle.search_journals.proofs.Lines.{∈-turned, ∈-turned_back, Each-turned, no_repeats-last, no_repeats-turned, lines_length, set_with_line, line_with_set, IsSetWithLine, core_line, whole_line, lines_turned, ids_tell, same_ids, lines_once}
use Rattle.search_journals.proofs.Listing.{full_with_line, not_among, passed_is_listed, passed_among}

-- the state that a journal over a core leads to
abbrev at : Core → List Step → Reached
at core journal = replay (search_rules core) journal

module _ (core : Core) (searchable : IsSearchable core) (A : List (List Atom)) (journal : List Step)
    (legal : Legal (search_rules core) (core_sets A) journal) where
  -- a set that was shown is a core answer set, with the line of its ids
  abbrev shown_is : (ids line : List ℕ) → ids ∈ State.shown (at core journal) → IsLineOfIds (at core journal) ids line
      → IsSetWithLine core (at core journal) ids line
  shown_is ids line i is =
      let w = found_are_answer_sets (search_rules core) (core_sets A) journal legal ids (inl i) in
      record {
        set = w.1;
        answers = w.2;
        atoms = is.0;
        names = is.1;
        users = ids_tell core (at core journal) w.1 ids is.0 w.3 is.1;
        line_is = is.2;
      }

  -- it isn't listed
  shown_unlisted : (ids line : List ℕ) → ids ∈ State.shown (at core journal) → (is : IsLineOfIds (at core journal) ids line)
      → (I : List Atom) → SameSet I is.0 → ¬ IsAmong A I
  shown_unlisted ids line i is =
      not_among (at core journal) ids is.0 is.1 A (shown_is_not_listed (search_rules core) (core_sets A) journal legal ids i)

  -- so its line is that of such a core answer set
  shown_line : (ids line : List ℕ) → ids ∈ State.shown (at core journal) → IsLineOfIds (at core journal) ids line → IsCoreSetLine core A line
  shown_line ids line i is = core_line core searchable (at core journal) A ids line (shown_is ids line i is) (shown_unlisted ids line i is)

  module _ (lines : List (List ℕ)) (are : AreLinesOf (at core journal) (State.shown (at core journal)) lines) where
    -- the lines are those of core answer sets
    sets_are : AreCoreSetLines core A (reverse lines)
    sets_are = record {
      each = Each-turned (IsCoreSetLine core A) lines (Each-from (IsCoreSetLine core A) lines (λ line i.
          let w = set_with_line (at core journal) (State.shown (at core journal)) lines are line i in
          shown_line w.0 line w.1 w.2));
      once = no_repeats-turned lines
          (lines_once core searchable (at core journal) (legal_safe (search_rules core) (core_sets A) journal legal).valid.once
          (State.shown (at core journal)) lines are (shown_once (search_rules core) (core_sets A) journal legal) shown_is);
      whole = Each-turned IsBraceLine lines (Each-from IsBraceLine lines (λ line i.
          let w = set_with_line (at core journal) (State.shown (at core journal)) lines are line i in
          whole_line core searchable (at core journal) w.0 line (shown_is w.0 line w.1 w.2)));
    }

    -- and where the search is finished, they are all others
    all_are : IsFinished (at core journal) → HaveAllOf core A (reverse lines)
    all_are finished I once sets =
        let found = core_sets_are_found core I (searchable.form, searchable.no_aggregates) sets in
        let w = none_is_missed (search_rules core) (core_sets A) journal legal finished tt found.0
        (record { members = []; may = tt; is = refl }) found.1 in
        elim w.1 [
          | inl i ↦ inr (
              let l = line_with_set (at core journal) (State.shown (at core journal)) lines are w.0 i in
              let users = ids_tell core (at core journal) found.0 w.0 l.2.0 w.2 l.2.1 in (
                l.0,
                ∈-turned l.0 lines l.1,
                one_line_for_the_same_set I l.2.0 l.0 (record {
                  to = λ a j. (users a).0 ((found.2 a).1 j);
                  back = λ a j. (found.2 a).0 ((users a).1 j);
                }) l.2.2,
              ))
          | inr i ↦ inl (passed_among core (at core journal) A found.0 w.0 w.2
              (passed_is_listed (search_rules core) (core_sets A) journal legal w.0 i) I found.2)
        ]

    -- a legal journal of them was told
    journaled : (trace : TraceChange) → Tells core trace.told trace.told' journal → Journaled core A trace (reverse lines)
    journaled trace tells = record {
      journal = journal;
      legal = legal;
      tells = tells;
      shown = lines_turned (at core journal) (State.shown (at core journal)) lines are;
    }

    -- they were written
    wrote : (sink : SinkChange) (trace : TraceChange) → Tells core trace.told trace.told' journal
        → Appends sink.held sink.held' (concat (reverse lines)) → Wrote core A sink trace
    wrote sink trace tells bytes = record { lines = reverse lines; bytes = bytes; sets = sets_are; journaled = journaled trace tells }

    -- as many as there are sets
    count_is : (printed left limit : ℕ) → length (State.shown (at core journal)) + left ≡ limit → printed + left ≡ limit
        → printed ≡ length (reverse lines)
    count_is printed left limit sets_left all =
        let a = length-reverse lines in
        let b = lines_length (at core journal) (State.shown (at core journal)) lines are in
        omega (arith, a, b, sets_left, all)

    -- where a set may still be shown, fewer were than may be
    fewer : (left limit : ℕ) → length (State.shown (at core journal)) + left ≡ limit → 0 < left
        → length (State.shown (at core journal)) < limit
    fewer left limit sets_left room = omega (arith, sets_left, room)

    -- what was struck and what may still be is all that may be
    no_more : (rest conflicts : ℕ) → strikes journal + rest ≡ conflicts → strikes journal ≤ conflicts
    no_more rest conflicts strikes_left = omega (arith, strikes_left)

    -- there are fewer lines than the limit then
    within : (settings : Settings) → length (State.shown (at core journal)) < settings.limit → strikes journal ≤ settings.conflicts → makes journal ≤ settings.instances
        → IsWithin settings (reverse lines) journal
    within settings sets struck made = record {
      sets = (let a = length-reverse lines in let b = lines_length (at core journal) (State.shown (at core journal)) lines are in omega
          (arith, a, b, sets));
      struck = struck;
      made = made;
    }

    -- how the search ends
    end_is : (lists : Listed) (settings : Settings) (told : Option outside.Journal) (held : Option (List ℕ)) (how : Finish) (left rest printed : ℕ)
        → length (State.shown (at core journal)) + left ≡ settings.limit → strikes journal + rest ≡ settings.conflicts
        → makes journal ≤ settings.instances
        → EndsBy (given_for core lists told held settings) journal left rest how → printed + left ≡ settings.limit
        → EndIs core A settings (reverse lines) journal (ended how printed)
    end_is lists settings told held finish.Finished left rest printed sets_left strikes_left few how all = (
      count_is printed left settings.limit sets_left all,
      within settings (fewer left settings.limit sets_left how.0) (no_more rest settings.conflicts strikes_left) few,
      all_are how.1,
      how.1,
    )
    end_is lists settings told held finish.LimitReached left rest printed sets_left strikes_left few how all =
        let count : printed ≡ length (reverse lines) = count_is printed left settings.limit sets_left all in
        (count, omega (arith, count, how, all), no_more rest settings.conflicts strikes_left, few)
    end_is lists settings told held finish.Conflicts left rest printed sets_left strikes_left few how all =
        let none : rest ≡ 0 = how.1 in (
          count_is printed left settings.limit sets_left all,
          within settings (fewer left settings.limit sets_left how.0) (no_more rest settings.conflicts strikes_left) few,
          omega (arith, none, strikes_left),
          how.2,
        )
    end_is lists settings told held finish.Instances left rest printed sets_left strikes_left few how all = (
      count_is printed left settings.limit sets_left all,
      within settings (fewer left settings.limit sets_left how.0) (no_more rest settings.conflicts strikes_left) few,
      how.1,
      how.2,
    )
    end_is lists settings told held (finish.Overflow line op x y) left rest printed sets_left strikes_left few how all = (
      count_is printed left settings.limit sets_left all,
      within settings (fewer left settings.limit sets_left how.0) (no_more rest settings.conflicts strikes_left) few,
      how.1,
    )
    end_is lists settings told held (finish.TermTooLarge line size) left rest printed sets_left strikes_left few how all = (
      count_is printed left settings.limit sets_left all,
      within settings (fewer left settings.limit sets_left how.0) (no_more rest settings.conflicts strikes_left) few,
      how.1,
    )

module _ (core : Core) (searchable : IsSearchable core) (lists : Listed) (settings : Settings) (sink : SinkChange) (trace : TraceChange) where
  -- a search that ends by itself answers as it promises
  pub end_answers : (left rest : ℕ) (how : Finish)
      → Ends (given_for core lists trace.told sink.held settings) trace.told' sink.held' left rest how → (printed : ℕ)
      → printed + left ≡ settings.limit
      → SearchAnswer core lists.sets settings sink trace (Ok (ended how printed))
  unfolding wrote journaled
  end_answers left rest how e printed all = (
    wrote core searchable lists.sets e.journal e.legal e.hands.lines e.hands.are sink trace e.tells e.hands.bytes,
    end_is core searchable lists.sets e.journal e.legal e.hands.lines e.hands.are lists settings trace.told sink.held how left rest printed
        e.sets_left e.strikes_left e.made_within e.how_is all,
  )

  -- at a fault between lines the lines were written
  halts_wrote : Halts (given_for core lists trace.told sink.held settings) trace.told' sink.held' → Wrote core lists.sets sink trace
  halts_wrote h = wrote core searchable lists.sets h.journal h.legal h.hands.lines h.hands.are sink trace h.tells h.hands.bytes

  -- the line that comes next is that of an answer set
  abbrev next_is : (h : HaltsWithin (given_for core lists trace.told sink.held settings) trace.told' sink.held')
      → IsSetWithLine core (at core h.journal) h.ids h.next
  next_is h = full_with_line core (core_sets lists.sets) h.journal h.legal h.ids h.full h.atoms h.next h.line

  -- it isn't listed
  next_line : (h : HaltsWithin (given_for core lists trace.told sink.held settings) trace.told' sink.held') → IsCoreSetLine core lists.sets h.next
  next_line h = core_line core searchable (at core h.journal) lists.sets h.ids h.next (next_is h)
      (not_among (at core h.journal) h.ids h.line.0 h.line.1 lists.sets h.unlisted)

  -- and none of the lines before it
  next_new : (h : HaltsWithin (given_for core lists trace.told sink.held settings) trace.told' sink.held') → ¬ (h.next ∈ reverse h.lines)
  next_new h i =
      let w = set_with_line (at core h.journal) (State.shown (at core h.journal)) h.lines h.are h.next (∈-turned_back h.next h.lines i) in
      found_is_new (search_rules core) (core_sets lists.sets) h.journal h.legal
      (found_are_determined core (searchable.form, searchable.no_aggregates)) h.free h.ids h.full h.atoms w.0 (inl w.1)
      (same_ids core searchable (at core h.journal) (legal_safe (search_rules core) (core_sets lists.sets) h.journal h.legal).valid.once h.ids w.0 h.next
      (next_is h) (shown_is core searchable lists.sets h.journal h.legal w.0 h.next w.1 w.2))

  -- at a fault within a line a front of it was written
  within_wrote : HaltsWithin (given_for core lists trace.told sink.held settings) trace.told' sink.held' → WroteFront core lists.sets sink trace
  within_wrote h = record {
    lines = reverse h.lines;
    next = h.next;
    cut = h.cut;
    bytes = h.bytes;
    sets = sets_are core searchable lists.sets h.journal h.legal h.lines h.are;
    journaled = journaled core searchable lists.sets h.journal h.legal h.lines h.are trace h.tells;
    next_set = next_line h;
    next_whole = whole_line core searchable (at core h.journal) h.ids h.next (next_is h);
    next_new = next_new h;
  }

  -- at a fault behind a line the whole of it was written
  behind_wrote : HaltsBehind (given_for core lists trace.told sink.held settings) trace.told' sink.held' → WroteOneMore core lists.sets sink trace
  behind_wrote b =
      let h = b.0 in
      let before = sets_are core searchable lists.sets h.journal h.legal h.lines h.are in
      let whole : take h.cut h.next ≡ h.next = take_all h.cut h.next (omega (arith, b.1)) in
      let all : concat (reverse h.lines ++ h.next ∷ []) ≡ concat (reverse h.lines) ++ take h.cut h.next =
      concat-append (reverse h.lines) (h.next ∷ []) ∙ ap (λ z. concat (reverse h.lines) ++ z) (append-nil h.next ∙ sym whole) in
      record {
        lines = reverse h.lines;
        next = h.next;
        bytes = subst (Appends sink.held sink.held') (sym all) h.bytes;
        sets = record {
          each = Each-append (IsCoreSetLine core lists.sets) (reverse h.lines) (h.next ∷ []) before.each
              (next_line h, tt);
          once = no_repeats-last (reverse h.lines) h.next before.once (next_new h);
          whole = Each-append IsBraceLine (reverse h.lines) (h.next ∷ []) before.whole
              (whole_line core searchable (at core h.journal) h.ids h.next (next_is h), tt);
        };
        journaled = journaled core searchable lists.sets h.journal h.legal h.lines h.are trace h.tells;
      }

  -- at a fault there are fewer lines than the limit, before the one that comes next too
  halts_within : (h : Halts (given_for core lists trace.told sink.held settings) trace.told' sink.held')
      → IsWithin settings (reverse h.hands.lines) h.journal
  halts_within h = within core searchable lists.sets h.journal h.legal h.hands.lines h.hands.are settings h.inside.sets h.inside.struck h.inside.made

  -- and before the rest of a line that was begun
  front_within : (h : HaltsWithin (given_for core lists trace.told sink.held settings) trace.told' sink.held')
      → IsWithin settings (reverse h.lines) h.journal
  front_within h = within core searchable lists.sets h.journal h.legal h.lines h.are settings h.inside.sets h.inside.struck h.inside.made

  -- so a search that ends by a fault answers as it promises
  pub fault_answers : (fault : SearchFault) → Leaves (given_for core lists trace.told sink.held settings) trace.told' sink.held'
      (sink.faults, sink.faults') (trace.faults, trace.faults') fault
      → SearchAnswer core lists.sets settings sink trace (Err fault)
  unfolding wrote journaled halts_wrote within_wrote behind_wrote
  fault_answers WriteFault l = (l.0, (within_wrote l.1, front_within l.1))
  fault_answers TraceFault l = (
    l.0,
    elim l.1 [
      | inl h ↦ inl (halts_wrote h, halts_within h)
      | inr b ↦ inr (behind_wrote b, front_within b.0)
    ],
  )
  fault_answers OutOfMemory l = elim l [ inl h ↦ inl (halts_wrote h, halts_within h) | inr b ↦ inr (behind_wrote b, front_within b.0) ]
