-- Core answer sets under a numbering, and how they stand for sets of atoms.
use Rattle.std.specs.Prelude.{◌≡◌, ◌↔◌, ℕ, Bool, true, List, Option, Some}
use Rattle.lists.specs.Lists.{◌∈◌}
use Rattle.core_rules.specs.declared.rules.Core.{Core}
use Rattle.search_values.specs.Instances.{Instance, KindHolds, body_holds, IsFounded}
use Rattle.asp_meaning.specs.Atoms.{Atom}
use Rattle.core_meaning.specs.Terms.{Binding}
use Rattle.core_meaning.specs.Atoms.{GroundAtom, User}
use Rattle.core_meaning.specs.Instances.{rule_instance}
use Rattle.core_meaning.specs.Numberings.{Numbering, IsNumbering, ExtendsFor, NumbersAll}
use Rattle.core_meaning.specs.Steps.{Step, step_instance}

-- what makes a core instance: a rule by its number with values for its variables, or a step
pub data Maker : Type 0 where
  ByRule : ℕ → Binding → Maker
  ByStep : Step → Maker

-- the core instance that it makes under a numbering, if it makes one
abbrev pub core_instance : Core → Numbering → Maker → Option (Instance GroundAtom)
core_instance core n (ByRule number b) = rule_instance core number b
core_instance core n (ByStep s) = step_instance core.aggregates n s

-- A finite set of core atoms, as a test, that is closed under the core instances: what is plain follows, and no constraint's body holds. It is
-- founded: it can be listed so that each atom is the head of an instance whose body holds and whose positive atoms stand earlier. And each of
-- its members that weighs anything has its number
pub record IsCoreAnswerSet (core : Core) (n : Numbering) (c : GroundAtom → Bool) : Type 0 where
  pub numbering : IsNumbering core n
  pub closed : (m : Maker) (i : Instance GroundAtom) → core_instance core n m ≡ Some i → body_holds c i ≡ true → KindHolds c i.kind
  pub order : List GroundAtom
  pub all_there : (a : GroundAtom) → c a ≡ true → a ∈ order
  pub founded : IsFounded (core_instance core n) c order
  pub numbered : NumbersAll core.aggregates n c

-- the atoms of the program in the set are those of the list
abbrev pub HasUserAtoms : (GroundAtom → Bool) → List Atom → Type 0
HasUserAtoms c I = (a : Atom) → (c (User a) ≡ true) ↔ (a ∈ I)

-- for every numbering there is one that extends it for a set with just these atoms of the program, under which that is a core answer set
abbrev pub HasCoreSets : Core → List Atom → Type 0
HasCoreSets core I =
    (n : Numbering) → IsNumbering core n
    → (n' : Numbering) × (c : GroundAtom → Bool) × ExtendsFor c n n' × IsCoreAnswerSet core n' c × HasUserAtoms c I

-- atoms of the program determine a core answer set under a numbering
abbrev pub AreDetermined : Core → Type 0
AreDetermined core =
    (n : Numbering) (c d : GroundAtom → Bool) → IsCoreAnswerSet core n c → IsCoreAnswerSet core n d
    → ((a : Atom) → c (User a) ≡ d (User a)) → (a : GroundAtom) → c a ≡ d a
