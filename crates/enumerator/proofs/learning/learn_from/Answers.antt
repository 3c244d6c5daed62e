use Rattle.std.proofs.Common.{subst, refl}
use Rattle.conflict_learning.specs.Analysing.{IsAnalysis}
use Rattle.search_journals.proofs.Standing.{note_fault, round_fault}
use Rattle.search_journals.proofs.Stepping.{err_on}
use Rattle.search_journals.proofs.Ending.{turned_for, rounds_turn}
use Rattle.search_journals.proofs.Conflicts.{rests_somewhere, open_somewhere, jumps_already, may_call_needed}
use Rattle.enumerator.proofs.learning.learn_from.Goals as goal

pub analyse-requires : goal.analyse-requires
analyse-requires g c = record {
  there = c.requires.next.first.there;
  holds = c.requires.next.first.holds;
  rests = rests_somewhere c.args.search.now _ _ c.requires.stands;
  open_highest = open_somewhere c.args.search.now _ _ c.requires.stands c.args.struck c.requires.next;
  first = c.requires.next.first.first;
  preferred = c.requires.next.first.preferred;
}

pub returns-in_default-clause-err : goal.returns-in_default-clause-err
returns-in_default-clause-err g c = round_fault c.args.search.now _ _ _ _ _ _ (note_fault c.args.search.now _ _ _ _ _ refl tt)

pub keep_and_go-requires-clause-jumps : goal.keep_and_go-requires-clause-jumps
keep_and_go-requires-clause-jumps g c =
    jumps_already c.args.search.now c.args.struck c.requires.next c.in-AlreadyUnit.id c.in-AlreadyUnit.back_to
    (subst (λ a. IsAnalysis c.args.search.now.nogoods c.args.search.now.stack c.args.struck a) c.in-AlreadyUnit.is c.in-Ok.ensures)

pub returns-in-AlreadyUnit-clause-err : goal.returns-in-AlreadyUnit-clause-err
returns-in-AlreadyUnit-clause-err g c =
    err_on c.keep_and_go.result (λ f fault. round_fault c.args.search.now _ _ _ _ _ f fault) c.keep_and_go.ensures.err

pub returns-in-AlreadyUnit-clause-ok : goal.returns-in-AlreadyUnit-clause-ok
returns-in-AlreadyUnit-clause-ok g c =
    turned_for c.keep_and_go.result c.args.search.now c.keep_and_go.new.search _ _ c.args.rest.now c.keep_and_go.ensures.ok

pub learn_and_go-requires-clause-new : goal.learn_and_go-requires-clause-new
learn_and_go-requires-clause-new g c =
    subst (λ a. IsAnalysis c.args.search.now.nogoods c.args.search.now.stack c.args.struck a) c.in-New.is c.in-Ok.ensures

pub returns-in-New-clause-err : goal.returns-in-New-clause-err
returns-in-New-clause-err g c =
    err_on c.learn_and_go.result (λ f fault. round_fault c.args.search.now _ _ _ _ _ f fault) c.learn_and_go.ensures.err

pub returns-in-New-clause-ok : goal.returns-in-New-clause-ok
returns-in-New-clause-ok g c =
    turned_for c.learn_and_go.result c.args.search.now c.learn_and_go.new.search _ _ c.args.rest.now c.learn_and_go.ensures.ok

pub give_up-requires-clause-may : goal.give_up-requires-clause-may
give_up-requires-clause-may g c =
    may_call_needed c.args.search.now c.args.struck c.requires.next c.in-NeedsReason.atom
    (subst (λ a. IsAnalysis c.args.search.now.nogoods c.args.search.now.stack c.args.struck a) c.in-NeedsReason.is c.in-Ok.ensures)

pub returns-in-NeedsReason-clause-ok : goal.returns-in-NeedsReason-clause-ok
returns-in-NeedsReason-clause-ok g c =
    rounds_turn c.give_up.result c.args.search.now c.give_up.new.search _ _ c.args.rest.now _ c.give_up.ensures.ok
