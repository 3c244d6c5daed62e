use Rattle.std.proofs.Common.{◌≡◌, ℕ, ◌<◌, true, false, length, ap, ◌∙◌, arith}
use Rattle.std.specs.Prelude.{nat_lt}
use Rattle.std.proofs.lemmas.List.{length-reverse}
use Rattle.search_fronts.proofs.Closing.{closed_of, none_of, has_closed, no_closed}
use Rattle.search_fronts.proofs.fronts.Fronts.has_closed.Goals as goal

lower : (a b c d : ℕ) → nat_lt a b ≡ true → b ≡ d → a ≡ c → c < d
lower a b c d test all few = grind (arith, test, all, few)

not_lower : (a b c d : ℕ) → nat_lt a b ≡ false → b ≡ d → a ≡ c → ¬ (c < d)
not_lower a b c d test all few low = grind (arith, test, all, few, low)

pub returns-clause-yes : goal.returns-clause-yes
returns-clause-yes c = λ yes.
    let all = ap length c.entries.ensures.value ∙ length-reverse c.args.trail.now.stack in
    has_closed c.args.trail.now.stack (closed_of c.args.trail.now.stack (lower _ _ _ _ yes all c.requires))

pub returns-clause-no : goal.returns-clause-no
returns-clause-no c = λ no.
    let all = ap length c.entries.ensures.value ∙ length-reverse c.args.trail.now.stack in
    no_closed c.args.trail.now.stack (none_of c.args.trail.now.stack (not_lower _ _ _ _ no all c.requires))
