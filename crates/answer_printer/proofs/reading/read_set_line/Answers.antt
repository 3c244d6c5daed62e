use Rattle.std.proofs.Common.{Ok, Err}
use Rattle.answer_printer.specs.Answers.{IsAnswer}
use Rattle.answer_printer.proofs.LeadsLemmas.{one_set}
use Rattle.answer_printer.proofs.ItselfLemmas.{canonical, itself, same_fault}
use Rattle.answer_printer.proofs.reading.read_set_line.Goals as goal

pub returns-in-Err-clause-one_set : goal.returns-in-Err-clause-one_set
returns-in-Err-clause-one_set c = one_set c.args.line.now

pub returns-in-Err-clause-itself : goal.returns-in-Err-clause-itself
returns-in-Err-clause-itself c = λ atoms. itself c.args.line.now (Err c.in-Err.fault) atoms (same_fault c.args.line.now c.in-Err.fault c.in-Err.ensures)

pub returns-in-Ok-line_of_all-clause-one_set : goal.returns-in-Ok-line_of_all-clause-one_set
returns-in-Ok-line_of_all-clause-one_set c = one_set c.args.line.now

answered : (c : goal.Joined-reader) → IsAnswer c.args.line.now (Ok c.in-Ok-line_of_all.canonical)
answered c = (c.in-Ok.ensures.0.atoms, c.in-Ok.ensures.2, c.in-Ok-line_of_all.ensures c.in-Ok.ensures.0 c.in-Ok.ensures.1)

pub returns-in-Ok-line_of_all-clause-canonical : goal.returns-in-Ok-line_of_all-clause-canonical
returns-in-Ok-line_of_all-clause-canonical c = λ atoms. canonical c.args.line.now (Ok c.in-Ok-line_of_all.canonical) atoms (answered c)

pub returns-in-Ok-line_of_all-clause-itself : goal.returns-in-Ok-line_of_all-clause-itself
returns-in-Ok-line_of_all-clause-itself c = λ atoms. itself c.args.line.now (Ok c.in-Ok-line_of_all.canonical) atoms (answered c)

pub returns-clause-one_set : goal.returns-clause-one_set
returns-clause-one_set c = one_set c.args.line.now
