-- Atoms whose names and texts are those of the language.
use Rattle.std.specs.Prelude.{List, [], ◌∷◌}
use Rattle.lists.specs.Lists.{Each, concat}
use Rattle.asp_syntax.specs.WellFormed.{IsId}
use Rattle.asp_syntax.specs.Trees.{Part, name, text, IsAllowed}
use Rattle.asp_meaning.specs.declared.value.Value.{Value}
use Rattle.asp_meaning.specs.declared.value.Value.TheOpen.{Value-F}
use Rattle.asp_meaning.specs.declared.value.Value.TheOpen as value
use Rattle.asp_meaning.specs.declared.value.Value.TheFolds.{fold-Value}
use Rattle.asp_meaning.specs.Atoms.{Atom}

-- the names and texts in a value, from those of its parts
abbrev pub value_parts_step : Value-F (List Part) → List Part
value_parts_step (value.Int z) = []
value_parts_step (value.Symbol x) = name x ∷ []
value_parts_step (value.Text x) = text x ∷ []
value_parts_step (value.Fun f first rest) = name f ∷ concat (first ∷ rest)

-- the names and texts in a value
abbrev pub value_parts : Value → List Part
value_parts = fold-Value (List Part) value_parts_step

-- each name in the value is an ID other than `not`, and each text may stand between quotes
abbrev pub IsReadableValue : Value → Type 0
IsReadableValue v = Each IsAllowed (value_parts v)

-- each name in the atom is an ID other than `not`, and each text may stand between quotes
pub record IsReadable (a : Atom) : Type 0 where
  pub named : IsId a.name
  pub arguments : Each IsReadableValue a.args
