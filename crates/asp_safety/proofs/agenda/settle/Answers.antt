use Rattle.std.proofs.Common.{◌⊎◌, ◌↔◌, refl, subst}
use Rattle.lists.specs.Lists.{◌∈◌}
use Rattle.asp_meaning.specs.Terms.{Variable}
use Rattle.asp_safety.specs.Clauses.{Derives}
use Rattle.asp_safety.proofs.Settling.{settling_at_first, passed_on, settled}
use Rattle.asp_safety.proofs.agenda.settle.Goals as goal

pub settling-init : goal.settling-init
settling-init c = record {
  given = refl;
  settling = c.in_ok-place_all.ensures.settling c.args.clauses
      (settling_at_first c.args.given.now.keys c.new.result.keys c.new-agenda.result.fresh c.new-agenda.result.waiting c.args.clauses c.new.ensures.empty c.new-agenda.ensures.fresh c.new-agenda.ensures.waiting);
}

pub settling-preserved : goal.settling-preserved
settling-preserved c = record {
  given = c.settling.invariant.given;
  settling = c.in_ok-place_all-2.ensures.settling c.args.clauses
      (passed_on c.settling.known.given.now.keys c.settling.known.found.keys c.add.new.set.keys c.settling.agenda.fresh c.pop.new.self c.settling.agenda.waiting c.take-clauses.new.self c.args.clauses _ c.take-clauses.result c.in-Some.key
      refl c.in-Some.ensures c.in_ok-add.ensures c.take-clauses.ensures.taken c.take-clauses.ensures.left c.settling.invariant.settling);
}

pub returns : goal.returns
returns c =
    let found = c.settling.known.found.keys in
    subst (λ given. (v : Variable) → ((v ∈ given) ⊎ (v ∈ found)) ↔ Derives given c.args.clauses v) c.settling.invariant.given
    (settled c.settling.known.given.now.keys found c.settling.agenda.fresh c.settling.agenda.waiting c.args.clauses _ refl c.in_default.ensures.0 c.settling.invariant.settling)
