use Rattle.std.proofs.Common.{◌≡◌, ◌∙◌, sym, inl, ap}
use Rattle.std.specs.Prelude.{Ok, Err}
use Rattle.search_settings.specs.declared.Settings.{Settings}
use Rattle.search_journals.specs.Search.{SinkChange, TraceChange}
use Rattle.alpha.specs.Texts.{last_line_of}
use Rattle.alpha.specs.Outcomes.{ended, cut_off, untraced, memory, status_of}
use Rattle.alpha.proofs.SolveLemmas.{with_last_line, with_front, without_last_line, some_lines, fewer_lines, its_lines, cut_line, with_settings, rose_later}
use Rattle.alpha.proofs.solving.solve.Goals as goal

pub returns-in-Err-WriteFault-clause-searched : goal.returns-in-Err-WriteFault-clause-searched
returns-in-Err-WriteFault-clause-searched g c = λ k of same lines.
    let sink : SinkChange = record {
      held = g.O.Sink.held c.args.out.now;
      held' = g.O.Sink.held c.search.new.out;
      faults = g.O.Sink.faults c.args.out.now;
      faults' = g.O.Sink.faults c.search.new.out;
    } in
    let trace : TraceChange = record {
      told = g.T.Trace.journal c.args.trace.now;
      told' = g.T.Trace.journal c.search.new.trace;
      faults = g.T.Trace.faults c.args.trace.now;
      faults' = g.T.Trace.faults c.search.new.trace;
    } in
    let failed = rw c.in-Err-WriteFault.field-0-is at
    (with_settings k c.args.core c.args.settings same sink trace (Err c.in-Err-WriteFault.field-0) (c.in-Err-WriteFault.ensures.answer k.listed lines)) in
    cut_off failed.0 (cut_line k c.args.core of sink trace failed.1.0)

pub returns-in-Err-TraceFault-clause-searched : goal.returns-in-Err-TraceFault-clause-searched
returns-in-Err-TraceFault-clause-searched g c = λ k of same lines.
    let sink : SinkChange = record {
      held = g.O.Sink.held c.args.out.now;
      held' = g.O.Sink.held c.search.new.out;
      faults = g.O.Sink.faults c.args.out.now;
      faults' = g.O.Sink.faults c.search.new.out;
    } in
    let trace : TraceChange = record {
      told = g.T.Trace.journal c.args.trace.now;
      told' = g.T.Trace.journal c.search.new.trace;
      faults = g.T.Trace.faults c.args.trace.now;
      faults' = g.T.Trace.faults c.search.new.trace;
    } in
    let failed = rw c.in-Err-TraceFault.field-0-is at
    (with_settings k c.args.core c.args.settings same sink trace (Err c.in-Err-TraceFault.field-0) (c.in-Err-TraceFault.ensures.answer k.listed lines)) in
    untraced failed.0 (fewer_lines k c.args.core of sink trace failed.1)

pub returns-in-Err-OutOfMemory-clause-searched : goal.returns-in-Err-OutOfMemory-clause-searched
returns-in-Err-OutOfMemory-clause-searched g c = λ k of same lines.
    let sink : SinkChange = record {
      held = g.O.Sink.held c.args.out.now;
      held' = g.O.Sink.held c.search.new.out;
      faults = g.O.Sink.faults c.args.out.now;
      faults' = g.O.Sink.faults c.search.new.out;
    } in
    let trace : TraceChange = record {
      told = g.T.Trace.journal c.args.trace.now;
      told' = g.T.Trace.journal c.search.new.trace;
      faults = g.T.Trace.faults c.args.trace.now;
      faults' = g.T.Trace.faults c.search.new.trace;
    } in
    let failed = rw c.in-Err-OutOfMemory.field-0-is at
    (with_settings k c.args.core c.args.settings same sink trace (Err c.in-Err-OutOfMemory.field-0) (c.in-Err-OutOfMemory.ensures.answer k.listed lines)) in
    memory (some_lines k c.args.core of sink trace failed)

pub returns-in_default-clause-searched : goal.returns-in_default-clause-searched
returns-in_default-clause-searched g c = λ k of same lines.
    let sink : SinkChange = record {
      held = g.O.Sink.held c.args.out.now;
      held' = g.O.Sink.held c.search.new.out;
      faults = g.O.Sink.faults c.args.out.now;
      faults' = g.O.Sink.faults c.search.new.out;
    } in
    let trace : TraceChange = record {
      told = g.T.Trace.journal c.args.trace.now;
      told' = g.T.Trace.journal c.search.new.trace;
      faults = g.T.Trace.faults c.args.trace.now;
      faults' = g.T.Trace.faults c.search.new.trace;
    } in
    let answer = with_settings k c.args.core c.args.settings same sink trace (Ok c.in-Ok.end) (c.in-Ok.ensures.answer k.listed lines) in
    memory (inl (its_lines k c.args.core of sink trace c.in-Ok.end answer))

pub returns-in-Ok-write-clause-searched : goal.returns-in-Ok-write-clause-searched
returns-in-Ok-write-clause-searched g c = λ k of same lines.
    let sink : SinkChange = record {
      held = g.O.Sink.held c.args.out.now;
      held' = g.O.Sink.held c.search.new.out;
      faults = g.O.Sink.faults c.args.out.now;
      faults' = g.O.Sink.faults c.search.new.out;
    } in
    let trace : TraceChange = record {
      told = g.T.Trace.journal c.args.trace.now;
      told' = g.T.Trace.journal c.search.new.trace;
      faults = g.T.Trace.faults c.args.trace.now;
      faults' = g.T.Trace.faults c.search.new.trace;
    } in
    let answer = with_settings k c.args.core c.args.settings same sink trace (Ok c.in-Ok.end) (c.in-Ok.ensures.answer k.listed lines) in
    let full : c.ended-status.result ≡ status_of k.settings c.in-Ok.end =
    c.ended-status.ensures ∙ ap (λ (z : Settings). status_of z c.in-Ok.end) (sym same) in
    let is = c.as_slice.ensures ∙ (c.in-Ok-last_line.ensures ∙ ap last_line_of full) in
    rw full (ended (with_last_line k c.args.core of sink.held sink.held' (g.O.Sink.held c.write.new.self) (g.O.Sink.faults c.args.out.now) (g.O.Sink.faults c.search.new.out)
    (g.O.Sink.faults c.write.new.self) trace c.in-Ok.end c.as_slice.result.now is answer c.in-Ok-write.ensures.answer))

pub returns-in-Err-Failed-clause-searched : goal.returns-in-Err-Failed-clause-searched
returns-in-Err-Failed-clause-searched g c = λ k of same lines.
    let sink : SinkChange = record {
      held = g.O.Sink.held c.args.out.now;
      held' = g.O.Sink.held c.search.new.out;
      faults = g.O.Sink.faults c.args.out.now;
      faults' = g.O.Sink.faults c.search.new.out;
    } in
    let trace : TraceChange = record {
      told = g.T.Trace.journal c.args.trace.now;
      told' = g.T.Trace.journal c.search.new.trace;
      faults = g.T.Trace.faults c.args.trace.now;
      faults' = g.T.Trace.faults c.search.new.trace;
    } in
    let answer = with_settings k c.args.core c.args.settings same sink trace (Ok c.in-Ok.end) (c.in-Ok.ensures.answer k.listed lines) in
    let full : c.ended-status.result ≡ status_of k.settings c.in-Ok.end =
    c.ended-status.ensures ∙ ap (λ (z : Settings). status_of z c.in-Ok.end) (sym same) in
    let is = c.as_slice.ensures ∙ (c.in-Ok-last_line.ensures ∙ ap last_line_of full) in
    let failed = rw c.in-Err-Failed.field-0-is at c.in-Err-Failed.ensures.answer in
    let later = c.search.ensures.out_later in
    cut_off (rose_later _ _ _ later failed.0) (with_front k c.args.core of sink.held sink.held' (g.O.Sink.held c.write.new.self) (g.O.Sink.faults c.args.out.now)
    (g.O.Sink.faults c.search.new.out) (g.O.Sink.faults c.write.new.self) trace c.in-Ok.end c.as_slice.result.now is answer failed.1)

pub returns-clause-searched : goal.returns-clause-searched
returns-clause-searched g c = λ k of same lines.
    let sink : SinkChange = record {
      held = g.O.Sink.held c.args.out.now;
      held' = g.O.Sink.held c.search.new.out;
      faults = g.O.Sink.faults c.args.out.now;
      faults' = g.O.Sink.faults c.search.new.out;
    } in
    let trace : TraceChange = record {
      told = g.T.Trace.journal c.args.trace.now;
      told' = g.T.Trace.journal c.search.new.trace;
      faults = g.T.Trace.faults c.args.trace.now;
      faults' = g.T.Trace.faults c.search.new.trace;
    } in
    let answer = with_settings k c.args.core c.args.settings same sink trace (Ok c.in-Ok.end) (c.in-Ok.ensures.answer k.listed lines) in
    let kept = rw c.in-Err-OutOfMemory-write.field-0-is at c.in-Err-OutOfMemory-write.ensures.answer in
    memory (inl (without_last_line k c.args.core of sink.held sink.held' (g.O.Sink.held c.write.new.self) (g.O.Sink.faults c.args.out.now) (g.O.Sink.faults c.search.new.out)
    (g.O.Sink.faults c.write.new.self) trace c.in-Ok.end answer kept))
