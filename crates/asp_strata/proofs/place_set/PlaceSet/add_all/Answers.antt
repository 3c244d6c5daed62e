use Rattle.std.proofs.Common.{◌⊎◌}
use Rattle.std.proofs.Math.ListN.{drop_of_length-le}
use Rattle.lists.specs.Lists.{◌∈◌}
use Rattle.asp_strata.proofs.Loops.{drop-read}
use Rattle.asp_strata.proofs.GraphLemmas.{members_on, members_done, grown_on}
use Rattle.asp_strata.proofs.place_set.PlaceSet.add_all.Goals as goal

pub loop-place-preserved : goal.loop-place-preserved
loop-place-preserved c =
    let places = c.args.places.now in
    let at = drop-read places c.loop-place.place-index 0 c.loop-place-test.true in
    record {
      members = members_on (λ i. (i ∈ c.args.self.now) ⊎ (i ∈ places)) c.loop-place.self c.add.new.self _ _ _ at c.in_ok-add.ensures c.loop-place.invariant.members;
      grown = grown_on c.args.self.now c.loop-place.self c.add.new.self _ c.in_ok-add.ensures c.loop-place.invariant.grown;
    }

pub returns-clause-members : goal.returns-clause-members
returns-clause-members c =
    let places = c.args.places.now in
    members_done (λ i. (i ∈ c.args.self.now) ⊎ (i ∈ places)) c.loop-place.self _ (drop_of_length-le places c.loop-place-test.false) c.loop-place.invariant.members
