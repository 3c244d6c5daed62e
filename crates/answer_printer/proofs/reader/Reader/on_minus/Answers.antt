use Rattle.std.proofs.Common.{◌∙◌, sym, true≢false}
use Rattle.answer_printer.proofs.ReaderSteps.{minus_comes, minus_refused, minus_refused_within}
use Rattle.answer_printer.proofs.reader.Reader.on_minus.Goals as goal
use Rattle.answer_printer.proofs.reader.Reader.on_minus.Goals.{then-not-takes_atom-via-then-not-takes_atom, then-not-takes_atom-via-else-not-takes_atom+then-not-is_empty}

pub returns-then-not-takes_atom : goal.returns-then-not-takes_atom
returns-then-not-takes_atom c = λ s h. elim c.then-not-takes_atom.branch [
  | then-not-takes_atom-via-then-not-takes_atom w ↦ minus_refused c.args.self.now s (sym c.takes_atom.ensures ∙ w.if-not-takes_atom.true) h
  | then-not-takes_atom-via-else-not-takes_atom+then-not-is_empty w ↦ minus_refused_within c.args.self.now s (λ e. true≢false (sym (w.is_empty.ensures.1 e) ∙ w.if-not-is_empty.true)) h
]

pub returns : goal.returns
returns c = λ s h. minus_comes c.args.self.now s (sym c.takes_atom.ensures ∙ c.if-not-takes_atom.false) (c.is_empty.ensures.0 c.if-not-is_empty.false) h
