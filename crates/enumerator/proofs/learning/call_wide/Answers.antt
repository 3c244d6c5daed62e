use Rattle.std.proofs.lemmas.Result.{on_ok_weaker}
use Rattle.search_journals.proofs.Stepping.{noted_fault}
use Rattle.search_journals.proofs.Learning.{carried_wide}
use Rattle.enumerator.proofs.learning.call_wide.Goals as goal

pub returns-clause-carries : goal.returns-clause-carries
returns-clause-carries g c =
    on_ok_weaker c.noted.result
    (carried_wide c.args.search.now c.call_wide.new.self _ _ c.args.atom c.requires.may c.call_wide.ensures) c.noted.ensures.ok

pub returns-clause-err : goal.returns-clause-err
returns-clause-err g c = noted_fault c.noted.result c.args.search.now _ _ _ _ c.noted.ensures.unchanged c.noted.ensures.cause
