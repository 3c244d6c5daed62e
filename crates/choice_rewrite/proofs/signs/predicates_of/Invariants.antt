use Rattle.std.proofs.Common.{◌≡◌, ◌++◌, map, drop}
use Rattle.lists.specs.Lists.{concat}
use Rattle.single_rules.specs.Signs.{statement_in_text}
use Rattle.choice_rewrite.proofs.signs.predicates_of.Given as goal

abbrev pub invariant-loop-statement : goal.invariant-loop-statement
invariant-loop-statement l = l.predicates ++ concat (map statement_in_text (drop l.statement-index l.statements)) ≡ concat (map statement_in_text l.statements)
