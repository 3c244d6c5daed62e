use Rattle.term_pool.specs.Nodes.{value_from, values}
use Rattle.answer_printer.proofs.ReadTermsLemmas.{interned_within}
use Rattle.answer_printer.proofs.ReaderLemmas.{terms_grow, value_ends, value_ends_outside}
use Rattle.answer_printer.proofs.reader.Reader.end_value.Goals as goal

pub returns-in_default : goal.returns-in_default
returns-in_default c = λ s h.
    value_ends_outside (record { terms = c.intern.new.self; atoms = c.args.self.now.atoms; negated = c.args.self.now.negated; calls = c.args.self.now.calls; phase = c.args.self.now.phase }) s
    (value_from (values c.args.self.now.terms) c.args.node) c.pop.new.self
    (terms_grow c.args.self.now s c.intern.new.self h c.in_ok-id.ensures.pool c.in_ok-id.ensures.kept) c.in_default.ensures.0 c.in_default.ensures.1

pub returns : goal.returns
returns c = λ s h.
    value_ends (record { terms = c.intern.new.self; atoms = c.args.self.now.atoms; negated = c.args.self.now.negated; calls = c.args.self.now.calls; phase = c.args.self.now.phase }) s
    (value_from (values c.args.self.now.terms) c.args.node) c.in_ok-id.id c.pop.new.self c.in-Some.call c.push.new.self c.push-2.new.self
    (terms_grow c.args.self.now s c.intern.new.self h c.in_ok-id.ensures.pool c.in_ok-id.ensures.kept)
    (interned_within c.args.self.now.terms c.intern.new.self c.args.node c.in_ok-id.id c.in_ok-id.ensures.ok)
    c.in_ok-id.ensures.value c.in-Some.ensures c.in_ok-push.ensures.ok c.in_ok-push-2.ensures.ok
