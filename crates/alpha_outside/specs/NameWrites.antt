-- What a hash reads of a name.
use Rattle.std.specs.Prelude.{ℕ, List}
use Rattle.std.specs.Hash as fed

-- its length, and its bytes
abbrev pub name_writes : List ℕ → List (List ℕ)
name_writes x = fed.slice fed.u8 x
