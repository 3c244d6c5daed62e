use Rattle.std.proofs.Common.{ℕ, List, Option, drop}
use Rattle.asp_strata.specs.Graphs.{FindsDependent}
use Rattle.asp_strata.proofs.strata.first_dependent.Given as goal

abbrev pub invariant-loop-predicate : goal.invariant-loop-predicate
invariant-loop-predicate l = (o : Option (List ℕ)) → FindsDependent l.graph.statements.now l.statement (drop l.predicate-index l.predicates) o → FindsDependent l.graph.statements.now l.statement l.predicates o
