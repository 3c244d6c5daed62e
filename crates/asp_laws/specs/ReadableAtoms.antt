-- What a line tells of the set that it is of.
use Rattle.std.specs.Prelude.{ℕ, List}
use Rattle.lists.specs.Lists.{Each, SameSet}
use Rattle.asp_meaning.specs.Atoms.{Atom}
use Rattle.asp_meaning.specs.Lines.{IsSetLine}
use Rattle.asp_meaning.specs.Output.{IsBraceLine}
use Rattle.asp_meaning.specs.Readable.{IsReadable}

-- sets of readable atoms with one line are the same set
abbrev pub LinesTellTheirSets : Type 0
LinesTellTheirSets =
    (I J : List Atom) (line : List ℕ) → Each IsReadable I → Each IsReadable J → IsSetLine I line → IsSetLine J line → SameSet I J

-- a line of a set is one of the same set, in whatever order it is listed
abbrev pub OneLineForTheSameSet : Type 0
OneLineForTheSameSet = (I J : List Atom) (line : List ℕ) → SameSet I J → IsSetLine J line → IsSetLine I line

-- the line of a set of readable atoms is one whole line, which begins with `{`
abbrev pub LinesOfReadableAtomsAreWhole : Type 0
LinesOfReadableAtomsAreWhole = (I : List Atom) (line : List ℕ) → Each IsReadable I → IsSetLine I line → IsBraceLine line
