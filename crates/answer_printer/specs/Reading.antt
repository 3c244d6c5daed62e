-- What may still come while a set is read.
use Rattle.std.specs.Prelude.{◌≡◌, ℕ, List, Some}
use Rattle.lists.specs.Lists.{Each}
use Rattle.asp_meaning.specs.Atoms.{Atom}
use Rattle.answer_printer.specs.declared.words.Word.{Word}
use Rattle.answer_printer.specs.declared.phase.Phase.TheVariants.{End}
use Rattle.answer_printer.specs.Words.{Fits}
use Rattle.answer_printer.specs.Sets.{IsSpaced}
use Rattle.answer_printer.specs.Machine.{State, run}

-- from this state the bytes lead on to this set
pub record Leads (s : State) (bytes : List ℕ) (atoms : List Atom) : Type 0 where
  pub words : List Word
  pub fit : Each Fits words
  pub spaced : IsSpaced words bytes
  pub last : State
  pub runs : run words s ≡ Some last
  pub ends : last.phase ≡ End
  pub atoms_are : last.atoms ≡ atoms
