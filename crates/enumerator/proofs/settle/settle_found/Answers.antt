use Rattle.std.proofs.Common.{List, ◌∙◌, sym, ap, subst, refl}
use Rattle.std.proofs.lemmas.Result.{err_from_is_err_and}
use Rattle.alpha_outside.specs.declared.literal.Lit.{Lit}
use Rattle.nogood_store.specs.Stored.{HasNoAtomTwice}
use Rattle.search_state.specs.Searching.{Searching, ids, LitsAreBelow}
use Rattle.search_journals.specs.Settling.{learned_by}
use Rattle.search_journals.proofs.Choosing.{chosen_once, chosen_below}
use Rattle.search_journals.proofs.Standing.{note_fault, round_fault}
use Rattle.search_journals.proofs.Ending.{ends_limit, ends_found, kept_learned, none_chosen, some_chosen, outcome_back, fault_then, some_left}
use Rattle.search_journals.proofs.Conflicts.{found_there, found_hold, found_one, found_jumps}
use Rattle.enumerator.proofs.settle.settle_found.Goals as goal

pub returns-then-left-eq0-clause-ok : goal.returns-then-left-eq0-clause-ok
returns-then-left-eq0-clause-ok g c =
    λ book held rest g' fits lists s. ends_limit g' c.args.search.now _ held c.args.left rest fits s c.if-left-eq0.true

pub returns-in_default-clause-err : goal.returns-in_default-clause-err
returns-in_default-clause-err g c = (
  some_left c.args.left c.if-left-eq0.false,
  λ rest. round_fault c.args.search.now _ _ rest _ _ _ (note_fault c.args.search.now _ _ _ _ _ refl tt),
)

pub returns-then-is_empty-clause-ok : goal.returns-then-is_empty-clause-ok
returns-then-is_empty-clause-ok g c =
    λ book held rest g' fits lists s. ends_found g' c.args.search.now _ held c.args.left rest fits s
    (some_left c.args.left c.if-left-eq0.false) c.requires.found.phase_is
    (none_chosen _ c.in-Ok.chosen.items _ c.in-Ok.chosen.ok.0 (sym c.is_empty.ensures ∙ c.if-is_empty.true) c.in-Ok.ensures)

pub learn-requires-clause-may : goal.learn-requires-clause-may
learn-requires-clause-may g c = (
  c.from_vec.ensures ∙ c.in-Ok.ensures,
  c.requires.found.firm,
  c.requires.found.phase_is,
  (some_chosen _ c.in-Ok.chosen.items _ c.in-Ok.chosen.ok.0 (sym c.is_empty.ensures ∙ c.if-is_empty.false) c.in-Ok.ensures),
)

pub learn-requires-clause-below : goal.learn-requires-clause-below
learn-requires-clause-below g c =
    subst (λ (ls : List Lit). LitsAreBelow (ids c.args.search.now) ls) (sym (c.from_vec.ensures ∙ c.in-Ok.ensures))
    (chosen_below c.args.search.now.stack (ids c.args.search.now) c.requires.found.kept.placed)

pub learn-requires-clause-once : goal.learn-requires-clause-once
learn-requires-clause-once g c =
    subst (λ (ls : List Lit). HasNoAtomTwice ls) (sym (c.from_vec.ensures ∙ c.in-Ok.ensures)) (chosen_once c.args.search.now.stack)

pub returns-in_err-nogood-clause-err : goal.returns-in_err-nogood-clause-err
returns-in_err-nogood-clause-err g c =
    let p = err_from_is_err_and c.from_residual.result c.from_residual.ensures.1 in
    rw (p.1, p.2) (
      some_left c.args.left c.if-left-eq0.false,
      (λ rest. round_fault c.args.search.now _ _ rest _ _ _ c.in_err-nogood.ensures.err),
    )

pub unit_level-level-requires : goal.unit_level-level-requires
unit_level-level-requires g c =
    let some = some_chosen _ c.in-Ok.chosen.items _ c.in-Ok.chosen.ok.0 (sym c.is_empty.ensures ∙ c.if-is_empty.false) c.in-Ok.ensures in
    let is = c.in_ok-nogood.ensures.learned ∙ ap (learned_by c.args.search.now) (c.from_vec.ensures ∙ c.in-Ok.ensures) in
    record {
      there = found_there c.args.search.now c.learn.new.search _ c.requires.stands.0 c.in_ok-nogood.nogood c.requires.stands.1 some is
          c.in_ok-nogood.ensures.number;
      hold = found_hold c.args.search.now c.learn.new.search _ c.requires.stands.0 c.in_ok-nogood.nogood c.requires.stands.1 some is
          c.in_ok-nogood.ensures.number;
      one = found_one c.args.search.now c.learn.new.search _ c.requires.stands.0 c.in_ok-nogood.nogood c.requires.stands.1 some is
          c.in_ok-nogood.ensures.number;
    }

pub back-requires-clause-kept : goal.back-requires-clause-kept
back-requires-clause-kept g c =
    kept_learned c.args.search.now c.learn.new.search _ c.in_ok-nogood.ensures.learned c.requires.found.kept

pub back-requires-clause-jumps : goal.back-requires-clause-jumps
back-requires-clause-jumps g c =
    let some = some_chosen _ c.in-Ok.chosen.items _ c.in-Ok.chosen.ok.0 (sym c.is_empty.ensures ∙ c.if-is_empty.false) c.in-Ok.ensures in
    let is = c.in_ok-nogood.ensures.learned ∙ ap (learned_by c.args.search.now) (c.from_vec.ensures ∙ c.in-Ok.ensures) in
    let w = found_jumps c.args.search.now c.learn.new.search _ c.requires.stands.0 c.in_ok-nogood.nogood c.requires.stands.1 some is
    c.in_ok-nogood.ensures.number c.requires.found.phase_is c.unit_level-level.result c.unit_level-level.ensures in
    (c.in_ok-nogood.nogood, w.0, w.1)

pub returns-in-Ok-back-clause-ok : goal.returns-in-Ok-back-clause-ok
returns-in-Ok-back-clause-ok g c =
    outcome_back c.args.search.now c.learn.new.search c.back.new.search _ _ _ c.args.left c.unit_level-level.result
    (c.in_ok-nogood.ensures.learned ∙ ap (learned_by c.args.search.now) (c.from_vec.ensures ∙ c.in-Ok.ensures))
    c.requires.found.firm c.requires.found.kept c.in_ok-nogood.ensures.ids_fit
    (some_chosen _ c.in-Ok.chosen.items _ c.in-Ok.chosen.ok.0 (sym c.is_empty.ensures ∙ c.if-is_empty.false) c.in-Ok.ensures)
    c.if-left-eq0.false c.in_ok-nogood.ensures.carries c.in-Ok-back.ensures.back c.in-Ok-back.ensures.carries

pub returns-in-Err-clause-err : goal.returns-in-Err-clause-err
returns-in-Err-clause-err g c = (
  some_left c.args.left c.if-left-eq0.false,
  λ rest. round_fault c.args.search.now _ _ rest _ _ _ (fault_then c.args.search.now c.learn.new.search _ _ _ _ _ _ c.in-Err.fault
      (ap (λ (z : Searching). z.core) c.in_ok-nogood.ensures.learned) c.in_ok-nogood.ensures.later c.in_ok-nogood.ensures.carries
      c.in-Err.ensures.err),
)
