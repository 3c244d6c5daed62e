use Rattle.ground_noting.proofs.TestGround.{is_notable}
use Rattle.ground_noting.proofs.tests.fact_and_choice.Goals as goal

pub returns : goal.returns
returns c = is_notable c.new.result c.in_ok-atoms.atoms c.in_ok-instances.instances c.in_ok-atoms.ensures c.in_ok-instances.ensures
