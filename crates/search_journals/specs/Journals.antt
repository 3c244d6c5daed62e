-- The journal of a search: what a trace is told, and the lines of the sets that it shows.
use Rattle.std.specs.Prelude.{◌≡◌, ℕ, ◌+◌, List, [], ◌∷◌, ◌++◌, map, Option, Some, None, slice_get}
use Rattle.lists.specs.Lists.{◌∈◌}
use Rattle.alpha_outside.specs.declared.event.Event as event
use Rattle.alpha_outside.specs.Outside as outside
use Rattle.asp_meaning.specs.Atoms.{Atom}
use Rattle.asp_meaning.specs.Lines.{IsSetLine}
use Rattle.core_rules.specs.declared.rules.Core.{Core}
use Rattle.core_meaning.specs.Atoms.{GroundAtom, User}
use Rattle.search_values.specs.Nogoods.{Nogood, IsStruck}
use Rattle.search_values.specs.Instances.{Instance}
use Rattle.search_values.specs.Ids.{Names}
use Rattle.journal_theory.specs.States.{IsName, IsUp, IsMade}
use Rattle.journal_theory.specs.Events.{Event, NameTerm, NameAtom, NameBody, Number, Make, Put, Choose, Close, Strike, Keep, Learn, Justify, CallWide, Back, Show, Pass}
use Rattle.journal_theory.specs.Journals.{SaysAll}
use Rattle.search_rules.specs.Tests.{Maker}
use Rattle.search_rules.specs.Rules.{Reached, search_rules, instance_by}

-- one event; a journal has the newest event first
abbrev pub Step : Type 0
Step = Event GroundAtom Maker

-- ---- what a trace is told

-- these events were told in between, and nothing else has changed
abbrev pub Adds : Option outside.Journal → Option outside.Journal → List event.Event → Type 0
Adds None now events = now ≡ None
Adds (Some before) now events = now ≡ Some (record before { events = before.events ++ events })

-- the events told in between say this journal
abbrev pub Tells : Core → Option outside.Journal → Option outside.Journal → List Step → Type 0
Tells core told told' journal = (events : List event.Event) × Adds told told' events × SaysAll (search_rules core) events journal

-- how many nogoods were noted as struck
abbrev pub strikes : List Step → ℕ
strikes [] = 0
strikes (Strike n ∷ earlier) = strikes earlier + 1
strikes (NameTerm node ∷ earlier) = strikes earlier
strikes (NameAtom a ∷ earlier) = strikes earlier
strikes (NameBody ∷ earlier) = strikes earlier
strikes (Number x a number ∷ earlier) = strikes earlier
strikes (Make k ∷ earlier) = strikes earlier
strikes (Put a v n ∷ earlier) = strikes earlier
strikes (Choose b up ∷ earlier) = strikes earlier
strikes (Close x ∷ earlier) = strikes earlier
strikes (Keep n ∷ earlier) = strikes earlier
strikes (Learn how ls ∷ earlier) = strikes earlier
strikes (Justify patterns ls ∷ earlier) = strikes earlier
strikes (CallWide x ∷ earlier) = strikes earlier
strikes (Back level ∷ earlier) = strikes earlier
strikes (Show ids ∷ earlier) = strikes earlier
strikes (Pass ids ∷ earlier) = strikes earlier

-- how many instances were noted as made
abbrev pub makes : List Step → ℕ
makes [] = 0
makes (Make k ∷ earlier) = makes earlier + 1
makes (NameTerm node ∷ earlier) = makes earlier
makes (NameAtom a ∷ earlier) = makes earlier
makes (NameBody ∷ earlier) = makes earlier
makes (Number x a number ∷ earlier) = makes earlier
makes (Put a v n ∷ earlier) = makes earlier
makes (Choose b up ∷ earlier) = makes earlier
makes (Close x ∷ earlier) = makes earlier
makes (Strike n ∷ earlier) = makes earlier
makes (Keep n ∷ earlier) = makes earlier
makes (Learn how ls ∷ earlier) = makes earlier
makes (Justify patterns ls ∷ earlier) = makes earlier
makes (CallWide x ∷ earlier) = makes earlier
makes (Back level ∷ earlier) = makes earlier
makes (Show ids ∷ earlier) = makes earlier
makes (Pass ids ∷ earlier) = makes earlier

-- some instance is due: it isn't made, and its positive atoms are named, and true or must-be-true
pub record IsSomeDue (core : Core) (s : Reached) : Type 0 where
  pub maker : Maker
  pub inst : Instance GroundAtom
  pub is : instance_by core maker ≡ Some inst
  pub up : (a : GroundAtom) → a ∈ inst.pos → (x : ℕ) × IsName s x a × IsUp s x
  pub not_made : ¬ IsMade (search_rules core) s maker

-- some nogood is struck
abbrev pub SomeStruck : Reached → Type 0
SomeStruck s = (n : ℕ) × (ng : Nogood) × (slice_get s.nogoods n ≡ Some ng) × IsStruck s.stack ng

-- ---- the lines of the sets shown

-- the line of the atoms with these ids, all of which are of the program
abbrev pub IsLineOfIds : Reached → List ℕ → List ℕ → Type 0
IsLineOfIds s ids line = (atoms : List Atom) × Names s.names ids (map User atoms) × IsSetLine atoms line

-- the lines of these sets, one by one
abbrev pub AreLinesOf : Reached → List (List ℕ) → List (List ℕ) → Type 0
AreLinesOf s [] [] = Unit {0}
AreLinesOf s [] (line ∷ lines) = ⊥
AreLinesOf s (ids ∷ sets) [] = ⊥
AreLinesOf s (ids ∷ sets) (line ∷ lines) = IsLineOfIds s ids line × AreLinesOf s sets lines
