use Rattle.std.proofs.Common.{subst, nat_eq}
use Rattle.lists.specs.Lists.{HasNoRepeats}
use Rattle.asp_strata.proofs.Members.{no_repeats, nat_same, nat_itself}
use Rattle.asp_strata.proofs.place_set.PlaceSet.as_slice.Goals as goal

pub returns-clause-once : goal.returns-clause-once
returns-clause-once c = subst HasNoRepeats c.self.view_is (no_repeats nat_eq nat_same nat_itself c.self.inside.places.keys c.as_slice.ensures.unique)
