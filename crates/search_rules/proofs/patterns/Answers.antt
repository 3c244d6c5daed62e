use Rattle.search_rules.proofs.patterns.Goals as goal
use Rattle.search_rules.proofs.FittingLemmas.{fitting_is_arising, a_hole_takes_any_value, a_hole_takes_one_value}

pub returns : goal.returns
returns c = record { fitting_is_arising = fitting_is_arising; a_hole_takes_any_value = a_hole_takes_any_value; a_hole_takes_one_value = a_hole_takes_one_value }
