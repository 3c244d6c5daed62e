use Rattle.search_fronts.proofs.Naming.{body_below}
use Rattle.search_fronts.proofs.fronts.Fronts.pass_settled.Goals as goal

pub has_open_body-requires : goal.has_open_body-requires
has_open_body-requires c = body_below c.args.trail.now.atoms c.args.instances.now c.loop-self.self.settled c.get.result.now c.requires c.get.ensures
