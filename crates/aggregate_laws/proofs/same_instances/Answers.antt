use Rattle.aggregate_laws.proofs.same_instances.Goals as goal
use Rattle.aggregate_laws.proofs.SameInstances as lemma

pub returns : goal.returns
returns g c = record { same_instances_make_the_same_sets = lemma.same_instances }
