use Rattle.std.proofs.Common.{rules}
use Rattle.std.proofs.lemmas.List.{take_min}
use Rattle.alpha_outside.proofs.in_memory.MemSinkSink.write.Goals as goal

pub returns-in-Ok-clause-writes : goal.returns-in-Ok-clause-writes
returns-in-Ok-clause-writes c = record { faults_later = search rules; empty = search rules; answer = (search rules, (c.min-end.result, search rules)) }

pub returns-in-Ok-clause-fails : goal.returns-in-Ok-clause-fails
returns-in-Ok-clause-fails c = λ filled. record {
  cut = search rules;
  numbered = search rules;
  answer = (search rules, search (rules, take_min));
}
