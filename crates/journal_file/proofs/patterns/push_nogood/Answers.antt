use Rattle.std.proofs.Common.{map}
use Rattle.lists.specs.Lists.{concat}
use Rattle.journal_file.specs.Lines.{lit_text, pattern_words}
use Rattle.journal_file.proofs.BehindLemmas.{on_ok, both_written}
use Rattle.journal_file.proofs.patterns.push_nogood.Goals as goal

pub returns : goal.returns
returns c =
    on_ok c.push_cover.result
    (both_written (map lit_text c.args.lits.now) (concat (map pattern_words c.args.patterns.now)) c.args.text.now.items c.push_lits.new.text.items c.push_cover.new.text.items c.in_ok-push_lits.ensures)
    c.push_cover.ensures
