use Rattle.std.proofs.Common.{◌≡◌, ◌++◌, map, drop}
use Rattle.lists.specs.Lists.{concat}
use Rattle.single_rules.specs.Splitting.{rules_of}
use Rattle.choice_rewrite.proofs.splitting.rules_of_all.Given as goal

abbrev pub invariant-loop-statement : goal.invariant-loop-statement
invariant-loop-statement l = l.rules ++ concat (map rules_of (drop l.statement-index l.statements)) ≡ concat (map rules_of l.statements)
