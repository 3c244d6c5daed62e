use Rattle.journal_theory.proofs.laws.examples.Goals as goal
use Rattle.journal_theory.proofs.Example.{example_is_legal}
use Rattle.journal_theory.proofs.ClosingExample.{closing_is_legal, closed_is_refused}
use Rattle.journal_theory.proofs.WideExample.{wide_is_legal}

pub returns-clause-example_is_legal : goal.returns-clause-example_is_legal
returns-clause-example_is_legal c = example_is_legal

pub returns-clause-closing_is_legal : goal.returns-clause-closing_is_legal
returns-clause-closing_is_legal c = closing_is_legal

pub returns-clause-closed_is_refused : goal.returns-clause-closed_is_refused
returns-clause-closed_is_refused c = closed_is_refused

pub returns-clause-wide_is_legal : goal.returns-clause-wide_is_legal
returns-clause-wide_is_legal c = wide_is_legal
