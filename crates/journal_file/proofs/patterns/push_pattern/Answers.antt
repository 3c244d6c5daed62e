use Rattle.std.proofs.Common.{ap, map, ◌∙◌, ◌++◌}
use Rattle.journal_file.specs.Lines.{behind, id_words}
use Rattle.journal_file.specs.Terms.{term_text}
use Rattle.journal_file.proofs.BehindLemmas.{on_ok, pattern_written}
use Rattle.journal_file.proofs.patterns.push_pattern.Goals as goal

pub returns : goal.returns
returns c =
    on_ok c.push_atoms.result
    (λ h. pattern_written c.args.pattern.now c.args.text.now.items c.push_word.new.text.items c.push_pred.new.text.items c.push_arguments.new.text.items
    c.push_word-2.new.text.items c.push_atoms.new.text.items c.in_ok-push_word.ensures c.in_ok-push_pred.ensures
    (c.in_ok-push_arguments.ensures ∙ ap (λ l. c.push_pred.new.text.items ++ behind (map term_text l)) c.as_slice.ensures) c.in_ok-push_word-2.ensures
    (h ∙ ap (λ l. c.push_word-2.new.text.items ++ behind (id_words l)) c.as_slice-2.ensures))
    c.push_atoms.ensures
