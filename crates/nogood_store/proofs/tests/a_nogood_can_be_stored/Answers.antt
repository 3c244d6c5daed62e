use Rattle.std.proofs.Common.{refl}
use Rattle.nogood_store.proofs.tests.a_nogood_can_be_stored.Goals as goal

pub add-requires-clause-negative : goal.add-requires-clause-negative
add-requires-clause-negative g c = (7, refl)
