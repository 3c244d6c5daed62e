use Rattle.std.proofs.Common.{drop}
use Rattle.lists.specs.Lists.{HasNoRepeats}
use Rattle.asp_strata.specs.Graphs.{Raised}
use Rattle.asp_strata.proofs.strata.raise.Given as goal

abbrev pub invariant-loop-place : goal.invariant-loop-place
invariant-loop-place l = record {
  raised : Raised l.initial.strata l.strata l.places (drop l.place-index l.places);
  once : HasNoRepeats (drop l.place-index l.places);
}
