use Rattle.std.proofs.Common.{refl}
use Rattle.std.proofs.lemmas.Result.{err_from_is_err_and}
use Rattle.search_journals.proofs.Standing.{note_fault}
use Rattle.search_journals.proofs.Justified.{has_justified}
use Rattle.enumerator.proofs.justifying.learn_justified.Goals as goal

pub returns-in_default-clause-err : goal.returns-in_default-clause-err
returns-in_default-clause-err g c = note_fault c.args.search.now _ _ _ _ _ refl tt

pub returns-in_default-justify-clause-err : goal.returns-in_default-justify-clause-err
returns-in_default-justify-clause-err g c = note_fault c.args.search.now _ _ _ _ _ refl tt

pub returns-in_err-noted-clause-err : goal.returns-in_err-noted-clause-err
returns-in_err-noted-clause-err g c =
    let p = err_from_is_err_and c.from_residual.result c.from_residual.ensures.1 in
    rw (p.1, p.2) (note_fault c.args.search.now _ _ _ _ _ c.in_err-noted.ensures.unchanged c.in_err-noted.ensures.cause)

pub returns-clause-learned : goal.returns-clause-learned
returns-clause-learned g c = has_justified c.args.search.now c.justify.new.self _ _ c.args.atom _ _ _ c.requires.may
    c.in-Ok.ensures c.in-Ok-justify.ensures.ok c.in-Ok-justify.ensures.id c.in-Ok-justify.ensures.lits c.in_ok-noted.ensures.ok
