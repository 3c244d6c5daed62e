use Rattle.asp_safety.specs.Settling.{IsMet}
use Rattle.asp_safety.proofs.Settling.{is_unmet, off, off_less, all_off}
use Rattle.asp_safety.proofs.agenda.take_unmet.Goals as goal

pub returns-then-not-is_met-clause-unmet : goal.returns-then-not-is_met-clause-unmet
returns-then-not-is_met-clause-unmet c =
    let given = c.args.known.now.given.now.keys in
    let found = c.args.known.now.found.keys in
    is_unmet given found c.args.needs.now c.taking.needs c.pop.new.self c.in-Some.need c.in-Some.ensures
    (λ met. absurd (cc (c.is_met.ensures.1 met, c.if-not-is_met.true))) c.taking.invariant.less c.taking.invariant.seen

pub taking-preserved-else-not-is_met : goal.taking-preserved-else-not-is_met
taking-preserved-else-not-is_met c =
    let given = c.args.known.now.given.now.keys in
    let found = c.args.known.now.found.keys in
    record {
      less = off_less c.args.needs.now c.taking.needs c.pop.new.self c.in-Some.need c.in-Some.ensures c.taking.invariant.less;
      seen = off (IsMet given found) c.args.needs.now c.taking.needs c.pop.new.self c.in-Some.need c.in-Some.ensures (c.is_met.ensures.0 c.if-not-is_met.false) c.taking.invariant.seen;
    }

pub taking-preserved : goal.taking-preserved
taking-preserved c =
    let given = c.args.known.now.given.now.keys in
    let found = c.args.known.now.found.keys in
    record {
      less = off_less c.args.needs.now c.taking.needs c.pop.new.self c.in-Some.need c.in-Some.ensures c.taking.invariant.less;
      seen = off (IsMet given found) c.args.needs.now c.taking.needs c.pop.new.self c.in-Some.need c.in-Some.ensures (c.is_met.ensures.0 c.if-not-is_met.false) c.taking.invariant.seen;
    }

pub returns-clause-met : goal.returns-clause-met
returns-clause-met c = λ _. all_off (IsMet c.args.known.now.given.now.keys c.args.known.now.found.keys) c.args.needs.now c.taking.needs c.in_default.ensures.0 c.taking.invariant.seen
