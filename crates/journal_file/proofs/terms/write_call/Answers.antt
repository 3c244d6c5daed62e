use Rattle.std.proofs.Common.{true, refl}
use Rattle.journal_file.proofs.BehindLemmas.{on_ok}
use Rattle.journal_file.proofs.WriteLemmas.{argument_written}
use Rattle.journal_file.proofs.terms.write_call.Goals as goal

pub returns : goal.returns
returns c =
    on_ok c.write_term.result
    (argument_written c.args.call c.in-Some.first.now c.in-Some.others.now c.args.text.now.items c.write_comma.new.text.items c.args.stack.now.items
    (record { args = c.in-Some.others; begun = true }) c.push.new.self.items c.write_term.new.text.items c.write_term.new.stack.items
    c.in-Some.ensures.cases.0 c.in_ok-write_comma.ensures refl refl c.in_ok-push.ensures.items)
    c.write_term.ensures
