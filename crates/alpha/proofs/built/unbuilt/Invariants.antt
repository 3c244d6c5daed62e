use Rattle.std.proofs.Common.{◌≡◌, drop}
use Rattle.alpha.specs.Built.{unbuilt}
use Rattle.alpha.proofs.built.unbuilt.Given as goal

abbrev pub invariant-loop-statement : goal.invariant-loop-statement
invariant-loop-statement l = unbuilt (drop l.statement-index l.program.statements) ≡ unbuilt l.program.statements
