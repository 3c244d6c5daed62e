-- Answer sets of single rules: those of statements, but that a choice asks for nothing, and that what has to be defined has to have values.
use Rattle.std.specs.Prelude.{List, [], ◌∷◌}
use Rattle.lists.specs.Lists.{◌∈◌, HasNoRepeats, Each, AtLeastOne, SameSet}
use Rattle.alpha_outside.specs.declared.kinds.RuleKind.{RuleKind}
use Rattle.alpha_outside.specs.declared.kinds.RuleKind.TheVariants as rule
use Rattle.asp_meaning.specs.Terms.{Substitution}
use Rattle.asp_meaning.specs.Atoms.{Atom}
use Rattle.asp_meaning.specs.Programs.{HasValue, IsInstance, BodyHolds, HeadIsMet, LicensesFrom}
use Rattle.single_rules.specs.declared.single.SingleRule.{SingleRule}
use Rattle.single_rules.specs.SingleRules.{head_of, as_statement}

-- an instance: a substitution under which each term outside aggregate elements, and each that has to be defined, has a value
abbrev pub IsSingleInstance : SingleRule → Substitution → Type 0
IsSingleInstance r s = IsInstance (as_statement r) s × Each (HasValue s) r.defined

-- what must follow where the body holds: the head is in I, nothing, or the impossible
abbrev pub IsMet : SingleRule → Substitution → List Atom → RuleKind → Type 0
IsMet r s I rule.Plain = HeadIsMet (as_statement r) s I (head_of r.head)
IsMet r s I rule.Choice = Unit {0}
IsMet r s I rule.Constraint = ⊥

-- nothing that must follow is missing
abbrev pub IsClosed : List SingleRule → List Atom → Type 0
IsClosed rules I =
    (r : SingleRule) → r ∈ rules → (s : Substitution) → IsSingleInstance r s → BodyHolds (as_statement r) s I → IsMet r s I r.kind

-- the rule licenses the atom in I by an instance that rests on `earlier`
abbrev pub LicensesSingly : SingleRule → Atom → List Atom → List Atom → Type 0
LicensesSingly r a I earlier = (s : Substitution) × LicensesFrom (as_statement r) s a I earlier × Each (HasValue s) r.defined

-- each atom is licensed in I by a rule that rests on the atoms after it: the newest atom comes first
abbrev pub IsFoundedList : List SingleRule → List Atom → List Atom → Type 0
IsFoundedList rules I [] = Unit {0}
IsFoundedList rules I (a ∷ earlier) = AtLeastOne (λ r. LicensesSingly r a I earlier) rules × IsFoundedList rules I earlier

-- a finite set of atoms, as a list without repeats in any order, that is closed, and that can be listed so that each atom is licensed by a
-- rule
-- that rests on earlier ones
pub record IsSingleAnswerSet (rules : List SingleRule) (I : List Atom) : Type 0 where
  pub set : HasNoRepeats I
  pub closed : IsClosed rules I
  pub order : List Atom
  pub once : HasNoRepeats order
  pub same : SameSet I order
  pub founded : IsFoundedList rules I order
