use Rattle.answer_printer.proofs.TestLemmas.{term_made}
use Rattle.answer_printer.proofs.tests.Made.push.Goals as goal

pub returns : goal.returns
returns c =
    term_made c.args.self.now.terms c.intern.new.self c.args.self.now.atoms c.args.self.now.stack.items c.push.new.self.items c.args.node c.in_ok-id.id
    c.in_ok-id.ensures.ok c.in_ok-id.ensures.kept c.in_ok-push.ensures.items c.requires.made
