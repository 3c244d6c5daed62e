use Rattle.std.proofs.lemmas.Result.{on_ok_weaker}
use Rattle.search_journals.proofs.Stepping.{noted_fault}
use Rattle.search_journals.proofs.Learning.{carried_strike}
use Rattle.enumerator.proofs.learning.strike.Goals as goal

pub returns-clause-carries : goal.returns-clause-carries
returns-clause-carries g c =
    on_ok_weaker c.noted.result
    (carried_strike c.args.search.now c.strike.new.self _ _ c.args.nogood c.requires.may c.strike.ensures) c.noted.ensures.ok

pub returns-clause-err : goal.returns-clause-err
returns-clause-err g c = noted_fault c.noted.result c.args.search.now _ _ _ _ c.noted.ensures.unchanged c.noted.ensures.cause
