use Rattle.std.proofs.Common.{ap, subst, arith}
use Rattle.std.proofs.lemmas.Result.{err_from_is_err_and}
use Rattle.search_state.specs.Searching.{Searching}
use Rattle.search_journals.specs.Moves.{MoveIs}
use Rattle.search_journals.proofs.Stepping.{err_on}
use Rattle.search_journals.proofs.Ending.{leaves_fault, rounds_outcome, found_outcome, found_fault, is_found}
use Rattle.search_journals.proofs.Conflicts.{somewhere, somewhere_found}
use Rattle.enumerator.proofs.Ends.{other_stops, ends_stop}
use Rattle.enumerator.proofs.settle.settle.Goals as goal

pub returns-in_err-find-in-Full-clause-err : goal.returns-in_err-find-in-Full-clause-err
returns-in_err-find-in-Full-clause-err g c =
    let p = err_from_is_err_and c.from_residual.result c.from_residual.ensures.1 in
    rw (p.1, p.2) (c.in_err-find-in-Full.ensures.err c.args.rest.now)

pub settle_found-requires : goal.settle_found-requires
settle_found-requires g c = record {
  found = is_found c.args.book.now c.args.search.now c.find.new.search _ _ _ _ _ _ c.in_ok-find-in-Full.ensures.found
      c.in_ok-find-in-Full.ensures.carries c.requires.ready (subst (λ m. MoveIs c.args.search.now m) c.in-Full.is c.requires.next);
  stands = (
    c.args.rest.now,
    somewhere_found c.args.book.now c.args.search.now c.find.new.search _ _ _ _ c.args.left.now c.find.new.left c.args.rest.now
        c.requires.stands (ap (λ (z : Searching). z.core) c.in_ok-find-in-Full.ensures.found) c.in_ok-find-in-Full.ensures.carries,
  );
}

pub settle_struck-requires-clause-stands : goal.settle_struck-requires-clause-stands
settle_struck-requires-clause-stands g c = somewhere c.args.book.now c.args.search.now _ _ c.args.left.now c.args.rest.now c.requires.stands

pub settle_stuck-requires-clause-stands : goal.settle_stuck-requires-clause-stands
settle_stuck-requires-clause-stands g c = somewhere c.args.book.now c.args.search.now _ _ c.args.left.now c.args.rest.now c.requires.stands

pub returns-in-Strike-clause-ok : goal.returns-in-Strike-clause-ok
returns-in-Strike-clause-ok g c =
    rounds_outcome c.args.book.now c.settle_struck.result c.args.search.now c.settle_struck.new.search _ _ _ c.args.left.now c.args.rest.now _
    c.requires.room c.settle_struck.ensures.ok

pub returns-in-Stuck-clause-ok : goal.returns-in-Stuck-clause-ok
returns-in-Stuck-clause-ok g c =
    rounds_outcome c.args.book.now c.settle_stuck.result c.args.search.now c.settle_stuck.new.search _ _ _ c.args.left.now c.args.rest.now _
    c.requires.room c.settle_stuck.ensures.ok

pub returns-in-Strike-clause-err : goal.returns-in-Strike-clause-err
returns-in-Strike-clause-err g c =
    err_on c.settle_struck.result
    (λ f fault g' fits lists s. leaves_fault c.args.search.now _ _ _ _ _ _ f fault g' fits _ _ c.requires.room s) c.settle_struck.ensures.err

pub returns-in-Stuck-clause-err : goal.returns-in-Stuck-clause-err
returns-in-Stuck-clause-err g c =
    err_on c.settle_stuck.result
    (λ f fault g' fits lists s. leaves_fault c.args.search.now _ _ _ _ _ _ f fault g' fits _ _ c.requires.room s) c.settle_stuck.ensures.err

pub returns-in_ok-find-in-Full-clause-ok : goal.returns-in_ok-find-in-Full-clause-ok
returns-in_ok-find-in-Full-clause-ok g c =
    found_outcome c.args.book.now c.args.search.now c.find.new.search _ _ _ _ c.args.left.now c.find.new.left
    c.in_ok-find-in-Full.ensures.found c.in_ok-find-in-Full.ensures.carries
    c.settle_found.result c.settle_found.new.search _ c.args.rest.now c.settle_found.ensures.ok

pub returns-in_ok-find-in-Full-clause-err : goal.returns-in_ok-find-in-Full-clause-err
returns-in_ok-find-in-Full-clause-err g c = err_on c.settle_found.result
    (λ f fault g' fits lists s. found_fault c.args.book.now c.args.search.now c.find.new.search _ _ _ _ c.args.left.now c.find.new.left
    c.in_ok-find-in-Full.ensures.found c.in_ok-find-in-Full.ensures.carries
    _ c.args.rest.now _ _ _ _ f c.in_ok-find-in-Full.ensures.later fault g' fits lists s)
    c.settle_found.ensures.err

pub end_by_stop-requires : goal.end_by_stop-requires
end_by_stop-requires g c = other_stops c.args.found c.requires.halt c.in_default.not-Strike c.in_default.not-Stuck c.in_default.not-Full

pub returns-in_default : goal.returns-in_default
returns-in_default g c = record {
  out_later = omega arith;
  later = omega arith;
  fewer = omega arith;
  ok = λ g' fits lists s.
      ends_stop g' c.args.search.now _ _ _ _ fits s c.requires.room c.requires.ready.kept.told c.args.found c.end_by_stop.result
      c.end_by_stop.ensures c.requires.next;
  err = tt;
}
