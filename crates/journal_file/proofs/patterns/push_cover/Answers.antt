use Rattle.journal_file.proofs.BehindLemmas.{one_more_pattern}
use Rattle.journal_file.proofs.patterns.push_cover.Goals as goal

pub loop-pattern-preserved : goal.loop-pattern-preserved
loop-pattern-preserved c =
    one_more_pattern c.args.patterns.now c.loop-pattern.pattern-index c.pattern-item.result c.args.text.now.items c.loop-pattern.text.items c.push_pattern.new.text.items
    c.loop-pattern-test.true c.pattern-item.is c.loop-pattern.invariant c.in_ok-push_pattern.ensures
