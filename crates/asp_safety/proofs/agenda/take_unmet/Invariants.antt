use Rattle.std.proofs.Common.{◌⊎◌, length}
use Rattle.lists.specs.Lists.{◌∈◌, ◌⊆◌}
use Rattle.asp_meaning.specs.Terms.{Variable}
use Rattle.asp_safety.specs.Settling.{IsMet}
use Rattle.asp_safety.proofs.agenda.take_unmet.Given as goal

abbrev pub invariant-taking : goal.invariant-taking
invariant-taking l = record {
  less : l.needs ⊆ l.initial.needs;
  seen : (w : Variable) → w ∈ l.initial.needs → (w ∈ l.needs) ⊎ IsMet l.known.given.now.keys l.known.found.keys w;
}

abbrev pub decreases-taking : goal.decreases-taking
decreases-taking l = length l.needs
