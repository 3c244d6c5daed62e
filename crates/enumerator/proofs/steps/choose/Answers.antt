use Rattle.std.proofs.lemmas.Result.{err_from_is_err_and}
use Rattle.search_journals.proofs.Standing.{note_fault}
use Rattle.search_journals.proofs.Stepping.{runs_choose}
use Rattle.enumerator.proofs.steps.choose.Goals as goal

pub returns-clause-ok : goal.returns-clause-ok
returns-clause-ok g c =
    runs_choose c.args.search.now c.choose.new.self _ _ c.args.body c.requires.ready c.requires.next c.choose.ensures.assigned
    c.choose.ensures.ids_fit c.in_ok-noted.ensures.ok

pub returns-in_err-noted-clause-err : goal.returns-in_err-noted-clause-err
returns-in_err-noted-clause-err g c =
    let p = err_from_is_err_and c.from_residual.result c.from_residual.ensures.1 in
    rw (p.1, p.2) (note_fault c.args.search.now _ _ _ _ _ c.in_err-noted.ensures.unchanged c.in_err-noted.ensures.cause)
