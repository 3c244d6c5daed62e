use Rattle.asp_laws.proofs.values_are_ordered.Goals as goal
use Rattle.asp_laws.proofs.Written.{kinds_are_in_order, each_kind_is_ordered}
use Rattle.asp_meaning.proofs.ValueOrder.{value_cmp_total}
use Rattle.asp_laws.proofs.Lines.{equal_is_the_same, comparisons_are_opposites}

pub returns-clause-the_order_of_values_is_total : goal.returns-clause-the_order_of_values_is_total
returns-clause-the_order_of_values_is_total c = value_cmp_total

pub returns-clause-equal_is_the_same : goal.returns-clause-equal_is_the_same
returns-clause-equal_is_the_same c = equal_is_the_same

pub returns-clause-comparisons_are_opposites : goal.returns-clause-comparisons_are_opposites
returns-clause-comparisons_are_opposites c = comparisons_are_opposites

pub returns-clause-kinds_are_in_order : goal.returns-clause-kinds_are_in_order
returns-clause-kinds_are_in_order c = kinds_are_in_order

pub returns-clause-each_kind_is_ordered : goal.returns-clause-each_kind_is_ordered
returns-clause-each_kind_is_ordered c = each_kind_is_ordered
