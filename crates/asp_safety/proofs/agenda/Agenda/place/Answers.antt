use Rattle.std.proofs.Common.{refl}
use Rattle.asp_strata.proofs.Loops.{on_ok}
use Rattle.asp_safety.specs.Settling.{fired, filed}
use Rattle.asp_safety.proofs.agenda.Agenda.place.Goals as goal

pub returns-in_ok-push-in-None-clause-placed : goal.returns-in_ok-push-in-None-clause-placed
returns-in_ok-push-in-None-clause-placed c = fired (c.in-None.ensures.met refl) c.in_ok-push-in-None.ensures.ok refl

pub returns-in-Some-clause-placed : goal.returns-in-Some-clause-placed
returns-in-Some-clause-placed c =
    on_ok c.put.result _ _ (λ put. filed c.in-Some.need (record { needs = c.take_unmet.new.needs; gives = c.args.clause.gives }) refl c.in-Some.ensures.unmet refl put) c.put.ensures.waits
