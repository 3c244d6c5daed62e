-- What taking levels away leaves of a stack.
use Rattle.std.proofs.Common.{◌≡◌, ℕ, ◌+◌, ◌≤◌, ◌<◌, true, false, cond, List, [], ◌∷◌, refl, ap, arith}
use Rattle.std.specs.Prelude.{nat_le}
use Rattle.search_values.specs.Values.{Entry, opened, level_of, back_to}

nat_le-false : (a b : ℕ) → b < a → nat_le a b ≡ false
nat_le-false a b h = grind arith

nat_le-yes : (a b : ℕ) → a ≤ b → nat_le a b ≡ true
nat_le-yes a b h = grind arith

-- an entry above the level is taken away
pub back_above : (l : ℕ) (e : Entry) (rest : List Entry) → l < level_of rest + opened e.why → back_to l (e ∷ rest) ≡ back_to l rest
back_above l e rest h = ap (λ b. cond b (e ∷ rest) (back_to l rest)) (nat_le-false (level_of rest + opened e.why) l h)

-- going back to the level of a stack leaves it whole
pub back_here : (stack : List Entry) → back_to (level_of stack) stack ≡ stack
back_here [] = refl
back_here (e ∷ rest) = ap (λ b. cond b (e ∷ rest) (back_to (level_of rest + opened e.why) rest)) (nat_le-yes (level_of rest + opened e.why) (level_of rest + opened e.why) (omega arith))
