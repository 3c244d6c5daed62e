use Rattle.alpha.proofs.ReadLemmas.{core_found, core_stopped}
use Rattle.alpha.proofs.reading.core_of_text.Goals as goal

pub returns-in-Ok-clause-core : goal.returns-in-Ok-clause-core
returns-in-Ok-clause-core c = core_found c.args.text.now c.in-Ok.program.statements c.core_for.result c.in-Ok.ensures.program
    c.core_for.ensures.core c.core_for.ensures.accepted c.core_for.ensures.answer_sets

pub returns-in-Ok-clause-stop : goal.returns-in-Ok-clause-stop
returns-in-Ok-clause-stop c = core_stopped c.args.text.now c.in-Ok.program.statements c.core_for.result c.in-Ok.ensures.program
    c.core_for.ensures.stop
