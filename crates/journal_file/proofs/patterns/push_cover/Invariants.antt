use Rattle.std.proofs.Common.{◌≡◌, ◌++◌, drop, map}
use Rattle.lists.specs.Lists.{concat}
use Rattle.journal_file.specs.Lines.{behind, pattern_words}
use Rattle.journal_file.proofs.patterns.push_cover.Given as goal

-- what is written and the patterns that are left are the cover
abbrev pub invariant-loop-pattern : goal.invariant-loop-pattern
invariant-loop-pattern l =
    l.text.items ++ behind (concat (map pattern_words (drop l.pattern-index l.patterns))) ≡ l.initial.text.items ++ behind (concat (map pattern_words l.patterns))
