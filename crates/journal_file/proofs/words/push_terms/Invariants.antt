use Rattle.std.proofs.Common.{◌≡◌, ◌++◌, drop}
use Rattle.journal_file.specs.Lines.{behind, id_words}
use Rattle.journal_file.proofs.words.push_terms.Given as goal

-- what is written and the ids that are left are the ids
abbrev pub invariant-loop-id : goal.invariant-loop-id
invariant-loop-id l = l.text.items ++ behind (id_words (drop l.id-index l.ids)) ≡ l.initial.text.items ++ behind (id_words l.ids)
