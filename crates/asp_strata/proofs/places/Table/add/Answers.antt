use Rattle.std.proofs.Common.{◌≡◌, ◌⊎◌, ◌↔◌, OnOk, subst, sym}
use Rattle.lists.specs.Lists.{◌∈◌}
use Rattle.asp_strata.specs.declared.predicate.Predicate.{Predicate}
use Rattle.asp_strata.specs.Predicates.{predicate_eq}
use Rattle.asp_strata.specs.PredicateLaws.{predicate_same, predicate_itself}
use Rattle.asp_strata.proofs.Members.{no_repeats}
use Rattle.asp_strata.proofs.TableLemmas.{predicate_inserted}
use Rattle.asp_strata.proofs.places.Table.add.Goals as goal
use Rattle.asp_strata.proofs.places.Table.add.Goals.{in-Ok, in-Err}

pub invariant_of-self : goal.invariant_of-self
invariant_of-self c = no_repeats predicate_eq predicate_same predicate_itself c.insert.new.self.keys c.insert.ensures.unique

pub returns : goal.returns
returns c = elim c.match-insert.branch [
  | in-Ok w ↦ subst (λ r. OnOk r ((p : Predicate) → (p ∈ c.insert.new.self.keys) ↔ ((p ∈ c.args.self.now) ⊎ (p ≡ c.args.predicate)))) (sym w.result-is)
      (predicate_inserted c.args.self.now c.insert.new.self.keys c.self.inside.predicates.keys c.args.predicate c.self.view_is w.in-Ok.ensures.keys)
  | in-Err w ↦ subst (λ r. OnOk r ((p : Predicate) → (p ∈ c.insert.new.self.keys) ↔ ((p ∈ c.args.self.now) ⊎ (p ≡ c.args.predicate)))) (sym w.result-is) tt
]
