use Rattle.std.proofs.lemmas.Result.{on_ok_weaker}
use Rattle.search_journals.proofs.Stepping.{noted_fault}
use Rattle.search_journals.proofs.Learning.{carried_back, jump_low}
use Rattle.enumerator.proofs.learning.back.Goals as goal

pub back-requires : goal.back-requires
back-requires g c = jump_low c.args.search.now c.requires.jumps.0 c.args.level c.requires.kept c.requires.jumps.2

pub returns-clause-carries : goal.returns-clause-carries
returns-clause-carries g c =
    on_ok_weaker c.noted.result
    (carried_back c.args.search.now c.back.new.self _ _ c.requires.jumps.0 c.args.level c.requires.kept c.requires.jumps.1
    c.requires.jumps.2 c.back.ensures) c.noted.ensures.ok

pub returns-clause-err : goal.returns-clause-err
returns-clause-err g c = noted_fault c.noted.result c.args.search.now _ _ _ _ c.noted.ensures.unchanged c.noted.ensures.cause
