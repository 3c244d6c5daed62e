use Rattle.std.proofs.Common.{◌∷◌, [], ◌≡◌, ◌+◌, ap, length, length-append, arith, ◌∙◌}
use Rattle.asp_safety.proofs.Settling.{placed}
use Rattle.asp_safety.proofs.agenda.Agenda.place_all.Goals as goal

pub placing-preserved : goal.placing-preserved
placing-preserved c =
    let given = c.args.known.now.given.now.keys in
    let found = c.args.known.now.found.keys in
    let size : length c.placing.clauses ≡ length c.pop.new.self + 1 = ap length c.in-Some.ensures ∙ length-append c.pop.new.self (c.in-Some.clause ∷ []) in
    record {
      settling = λ all s. placed given found c.placing.self.fresh c.place.new.self.fresh c.placing.self.waiting c.place.new.self.waiting all c.placing.clauses c.pop.new.self c.in-Some.clause c.in-Some.ensures
          (c.placing.invariant.settling all s) c.in_ok-place.ensures.placed;
      count = omega (arith, c.placing.invariant.count, c.in_ok-place.ensures.count, size);
    }
