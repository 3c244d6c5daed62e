-- The atoms of what nogoods give.
use Rattle.std.proofs.Common.{ℕ, ◌<◌, true, false, List}
use Rattle.search_values.specs.declared.entry.Entry.{Entry}
use Rattle.search_values.specs.Values.{Value, True, MustBe, False, lit}
use Rattle.search_values.specs.Nogoods.{Nogood, Gives}
use Rattle.search_state.specs.Searching.{LitsAreBelow}

-- the atom that a nogood gives a value is one of its literals'
pub gives_below : (stack : List Entry) (places : ℕ) (ng : Nogood) → LitsAreBelow places ng.lits → (a : ℕ) (v : Value) → Gives stack ng a v
    → a < places
gives_below stack places ng below a True g = below (lit a false) g.among
gives_below stack places ng below a MustBe g = below (lit a false) g.0.among
gives_below stack places ng below a False g = below (lit a true) g.among
