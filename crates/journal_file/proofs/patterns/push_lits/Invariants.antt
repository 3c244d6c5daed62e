use Rattle.std.proofs.Common.{◌≡◌, ◌++◌, drop, map}
use Rattle.journal_file.specs.Lines.{behind, lit_text}
use Rattle.journal_file.proofs.patterns.push_lits.Given as goal

-- what is written and the literals that are left are the literals
abbrev pub invariant-loop-lit : goal.invariant-loop-lit
invariant-loop-lit l = l.text.items ++ behind (map lit_text (drop l.lit-index l.lits)) ≡ l.initial.text.items ++ behind (map lit_text l.lits)
