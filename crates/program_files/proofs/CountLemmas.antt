-- Counts of 64 bits that go up over several calls.
use Rattle.std.proofs.Common.{ℕ, ◌+◌, ◌≤◌, arith}
use Rattle.alpha_outside.specs.Outside.{RoseBy}

-- a count went up by so much at least also where other calls came before
pub rose_from : (a first second third : ℕ) → first ≤ second → RoseBy a second third → RoseBy a first third
rose_from a first second third later rose = omega (arith, later, rose)

-- and what two calls add, both add together
pub rose_both : (a b first second third : ℕ) → RoseBy a first second → RoseBy b second third → RoseBy (a + b) first third
rose_both a b first second third one two = omega (arith, one, two)
