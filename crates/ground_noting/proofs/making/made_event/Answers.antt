use Rattle.ground_noting.proofs.NotingLemmas.{next_made}
use Rattle.ground_noting.proofs.making.made_event.Goals as goal

pub returns : goal.returns
returns c = next_made c.args.ground.now c.args.told.now c.get.result.now c.in_ok-maker.maker c.requires.notable c.requires.terms
    c.get.ensures (c.requires.within c.get.result.now c.get.ensures) c.in_ok-maker.ensures
