use Rattle.std.proofs.Common.{subst}
use Rattle.lists.specs.Lists.{HasNoRepeats}
use Rattle.asp_strata.proofs.Loops.{drop-read}
use Rattle.asp_strata.proofs.Layering.{raised_on}
use Rattle.asp_strata.proofs.strata.raise.Goals as goal

pub loop-place-preserved : goal.loop-place-preserved
loop-place-preserved c =
    let places = c.args.places.now in
    let at = drop-read places c.loop-place.place-index 0 c.loop-place-test.true in
    let one = c.in_ok-raise_one.ensures in
    record {
      raised = raised_on c.args.strata.now c.loop-place.strata c.raise_one.new.strata places _ _ _ at c.loop-place.invariant.once c.loop-place.invariant.raised one.raised one.others one.count;
      once = (subst HasNoRepeats at c.loop-place.invariant.once).1;
    }
