use Rattle.std.proofs.Common.{refl, subst}
use Rattle.asp_safety.specs.Binding.{occurrences}
use Rattle.asp_safety.specs.Firsts.{FirstUnbound}
use Rattle.asp_safety.specs.Walks.{Finds}
use Rattle.asp_safety.proofs.Finding.{is_unsafe}
use Rattle.asp_safety.proofs.checking.check_statement.Goals as goal

pub returns-in-Ok-Some-clause-fault : goal.returns-in-Ok-Some-clause-fault
returns-in-Ok-Some-clause-fault c =
    let s = c.args.statement.now in
    let u : FirstUnbound s c.in-Ok-Some.variable = subst (λ o. Finds s (occurrences s) o) c.in-Ok-Some.field-0-is c.in-Ok-Some.ensures in
    (is_unsafe s c.in-Ok-Some.variable u, refl, u)
