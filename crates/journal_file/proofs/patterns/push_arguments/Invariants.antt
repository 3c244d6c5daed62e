use Rattle.std.proofs.Common.{◌≡◌, ◌++◌, drop, map}
use Rattle.journal_file.specs.Lines.{behind}
use Rattle.journal_file.specs.Terms.{term_text}
use Rattle.journal_file.proofs.patterns.push_arguments.Given as goal

-- what is written and the arguments that are left are the arguments
abbrev pub invariant-loop-arg : goal.invariant-loop-arg
invariant-loop-arg l = l.text.items ++ behind (map term_text (drop l.arg-index l.args)) ≡ l.initial.text.items ++ behind (map term_text l.args)
