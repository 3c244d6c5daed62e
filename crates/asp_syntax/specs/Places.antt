-- Where tokens stand.
use Rattle.std.specs.Prelude.{ℕ, ◌+◌, ◌<◌, ◌≤◌, List, [], ◌∷◌}
use Rattle.asp_syntax.specs.declared.token.Spanned.{Spanned}

-- the places of the tokens rise, from one place on and below another
abbrev pub IsRising : ℕ → ℕ → List Spanned → Type 0
IsRising from_ end [] = Unit {0}
IsRising from_ end (t ∷ ts) = (from_ ≤ t.at.0) × (t.at.0 < end) × IsRising (t.at.0 + 1) end ts
