use Rattle.alpha.proofs.Messages.{written, cut_off, no_message, nothing_for_memory, kept_for_memory}
use Rattle.std.proofs.Common.{rules, take}
use Rattle.std.proofs.KnownBytes.{Keeps-refl}
use Rattle.alpha.proofs.Appended.{only_appends, only_keeps}
use Rattle.alpha.proofs.run.report.Goals as goal

pub returns-then-not-has_message-clause-message : goal.returns-then-not-has_message-clause-message
returns-then-not-has_message-clause-message g c = λ m is. no_message _ _ _ c.args.status m (search rules) is

pub returns-in_default-clause-message : goal.returns-in_default-clause-message
returns-in_default-clause-message g c = λ m is. nothing_for_memory _ (g.E.Sink.faults c.args.err.now) (g.E.Sink.faults c.args.err.now) m is

pub returns-in-Ok-write-clause-message : goal.returns-in-Ok-write-clause-message
returns-in-Ok-write-clause-message g c = λ m is. written _ _ _ _ c.args.status m is c.as_slice.result.now (search rules) c.in-Ok-write.ensures.answer

pub returns-in-Err-Failed-clause-message : goal.returns-in-Err-Failed-clause-message
returns-in-Err-Failed-clause-message g c =
    let failed = rw c.in-Err-Failed.field-0-is at c.in-Err-Failed.ensures.answer in
    λ m is. cut_off _ _ _ _ c.args.status m is c.as_slice.result.now (search rules) failed.0 failed.1

pub returns-in-Err-OutOfMemory-clause-message : goal.returns-in-Err-OutOfMemory-clause-message
returns-in-Err-OutOfMemory-clause-message g c =
    let kept = rw c.in-Err-OutOfMemory.field-0-is at c.in-Err-OutOfMemory.ensures.answer in
    λ m is. kept_for_memory _ _ (g.E.Sink.faults c.args.err.now) (g.E.Sink.faults c.write.new.self) m is kept

pub returns-then-not-has_message-clause-appends : goal.returns-then-not-has_message-clause-appends
returns-then-not-has_message-clause-appends g c = only_keeps _ _ (Keeps-refl _)

pub returns-in_default-clause-appends : goal.returns-in_default-clause-appends
returns-in_default-clause-appends g c = only_keeps _ _ (Keeps-refl _)

pub returns-in-Ok-write-clause-appends : goal.returns-in-Ok-write-clause-appends
returns-in-Ok-write-clause-appends g c = only_appends _ _ c.as_slice.result.now c.in-Ok-write.ensures.answer

pub returns-in-Err-Failed-clause-appends : goal.returns-in-Err-Failed-clause-appends
returns-in-Err-Failed-clause-appends g c =
    let failed = rw c.in-Err-Failed.field-0-is at c.in-Err-Failed.ensures.answer in
    only_appends _ _ (take failed.1.0 c.as_slice.result.now) failed.1.1

pub returns-in-Err-OutOfMemory-clause-appends : goal.returns-in-Err-OutOfMemory-clause-appends
returns-in-Err-OutOfMemory-clause-appends g c =
    let kept = rw c.in-Err-OutOfMemory.field-0-is at c.in-Err-OutOfMemory.ensures.answer in
    only_keeps _ _ kept
