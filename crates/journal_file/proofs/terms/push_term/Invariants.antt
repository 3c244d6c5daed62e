use Rattle.std.proofs.Common.{◌≡◌, ◌++◌}
use Rattle.journal_file.specs.Terms.{rest_text, term_text, weight}
use Rattle.journal_file.proofs.terms.push_term.Given as goal

-- what is written and what is left are the text of the term
abbrev pub invariant-loop-call : goal.invariant-loop-call
invariant-loop-call l = l.text.items ++ rest_text l.stack.items ≡ l.fn.text.items ++ term_text l.term

abbrev pub decreases-loop-call : goal.decreases-loop-call
decreases-loop-call l = weight l.stack.items
