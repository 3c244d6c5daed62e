-- When a nogood may be analysed, and where the search goes back to after an analysis.
use Rattle.std.specs.Prelude.{ℕ, ◌<◌, List}
use Rattle.search_values.specs.declared.entry.Entry.{Entry}
use Rattle.search_values.specs.Values.{Value, Lit, IsClosed, level_of, back_to}
use Rattle.search_values.specs.Nogoods.{Nogood, IsStruck, Gives}
use Rattle.trail.specs.Assigning.{IsStackOf}
use Rattle.journal_theory.specs.Resolution.{IsOneHighest}
use Rattle.conflict_learning.specs.Analysing.{AllHold, HasOpenHighest, IsUnitBelow, IsSecondLevel}

-- the nogood gives some atom a value
abbrev pub IsUnit : List Entry → Nogood → Type 0
IsUnit stack ng = (a : ℕ) × (v : Value) × Gives stack ng a v

-- where the literals hold, and one that stands alone at their highest level isn't closed, a literal at that level isn't closed, if it isn't
-- 0
abbrev pub HighestIsOpen : Type 0
HighestIsOpen =
    (atoms : ℕ) (stack : List Entry) (ls : List Lit) → IsStackOf atoms stack → AllHold stack ls
    → ((high : IsOneHighest stack ls) → ¬ IsClosed stack high.left.atom) → HasOpenHighest stack ls

-- after the search went back to the second level, a struck nogood that is unit below its highest level is unit, and a level at least was
-- taken away
abbrev pub IsUnitAfterBack : Type 0
IsUnitAfterBack =
    (atoms : ℕ) (stack : List Entry) (ng : Nogood) (level : ℕ) → IsStackOf atoms stack → IsStruck stack ng → IsUnitBelow stack ng.lits
    → IsSecondLevel stack ng.lits level → (level < level_of stack) × IsUnit (back_to level stack) ng

-- at no lower level it is
abbrev pub IsUnitNoLower : Type 0
IsUnitNoLower =
    (stack : List Entry) (ng : Nogood) (level lower : ℕ) → IsUnitBelow stack ng.lits → IsSecondLevel stack ng.lits level → lower < level
    → ¬ IsUnit (back_to lower stack) ng
