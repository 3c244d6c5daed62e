use Rattle.std.proofs.Common.{◌∙◌, sym, true≢false}
use Rattle.answer_printer.specs.Machine.{settled}
use Rattle.answer_printer.proofs.ReaderSteps.{end_comes, end_refused, end_refused_within}
use Rattle.answer_printer.proofs.reader.Reader.on_close_brace.Goals as goal
use Rattle.answer_printer.proofs.reader.Reader.on_close_brace.Goals.{then-not-takes_end-via-then-not-takes_end, then-not-takes_end-via-else-not-takes_end+then-not-is_empty}

pub returns-then-not-takes_end : goal.returns-then-not-takes_end
returns-then-not-takes_end c = λ s h. elim c.then-not-takes_end.branch [
  | then-not-takes_end-via-then-not-takes_end w ↦ end_refused c.settle.new.self (settled s) (sym c.takes_end.ensures ∙ w.if-not-takes_end.true) (c.in-Ok.ensures s h)
  | then-not-takes_end-via-else-not-takes_end+then-not-is_empty w ↦
      end_refused_within c.settle.new.self (settled s) (λ e. true≢false (sym (w.is_empty.ensures.1 e) ∙ w.if-not-is_empty.true)) (c.in-Ok.ensures s h)
]

pub returns : goal.returns
returns c = λ s h. end_comes c.settle.new.self (settled s) (sym c.takes_end.ensures ∙ c.if-not-takes_end.false) (c.is_empty.ensures.0 c.if-not-is_empty.false) (c.in-Ok.ensures s h)
