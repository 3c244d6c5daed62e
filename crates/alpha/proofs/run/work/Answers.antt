use Rattle.std.proofs.Common.{map, string_bytes}
use Rattle.command_line.proofs.Bounds.{asked_is_bounded}
use Rattle.alpha.specs.Outcomes.{no_memory}
use Rattle.alpha.proofs.ReadLemmas.{still, no_request}
use Rattle.alpha.proofs.run.work.Goals as goal

pub answer-requires-clause-few : goal.answer-requires-clause-few
answer-requires-clause-few g c = (asked_is_bounded (map string_bytes c.args.words.now) c.in-Ok.request c.in-Ok.ensures.request).1

pub answer-requires-clause-some : goal.answer-requires-clause-some
answer-requires-clause-some g c = (asked_is_bounded (map string_bytes c.args.words.now) c.in-Ok.request c.in-Ok.ensures.request).0

pub returns-in-Err-Usage-clause-outcome : goal.returns-in-Err-Usage-clause-outcome
returns-in-Err-Usage-clause-outcome g c =
    no_request _ _ _ _ _ (c.in-Err-Usage.ensures.usage c.in-Err-Usage.field-0-is) (still _ _ _ _)

pub returns-in-Err-OutOfMemory-clause-outcome : goal.returns-in-Err-OutOfMemory-clause-outcome
returns-in-Err-OutOfMemory-clause-outcome g c = no_memory (still _ _ _ _)
