-- What a justification asks and answers.
use Rattle.std.specs.Prelude.{◌≡◌, ℕ, ◌≤◌, List, ◌∷◌, length, slice_get, Some}
use Rattle.lists.specs.Lists.{◌∈◌, Each, HasNoRepeats}
use Rattle.alpha_outside.specs.declared.literal.Lit.{Lit}
use Rattle.alpha_outside.specs.declared.pattern.Pattern.{Pattern}
use Rattle.core_rules.specs.declared.rules.Core.{Core}
use Rattle.core_meaning.specs.Atoms.{GroundAtom}
use Rattle.search_values.specs.declared.entry.Entry.{Entry}
use Rattle.search_values.specs.Values.{Holds, before_closed}
use Rattle.journal_theory.specs.States.{IsName}
use Rattle.journal_theory.specs.Covers.{PatternCovers, IsCover}
use Rattle.search_rules.specs.Rules.{search_rules}
use Rattle.atom_pool.specs.declared.atom.AtomNode.TheVariants as node
use Rattle.atom_pool.specs.declared.ground.Ground.{Ground}
use Rattle.unification.specs.Patterns.{IsPatternTerm}
use Rattle.pattern_covers.specs.States.{state_of}
use Rattle.pattern_covers.specs.Shapes.{ShowsWide}
use Rattle.pattern_covers.specs.declared.reason.Reason.{Reason}
use Rattle.pattern_covers.specs.declared.reason.Reason.TheVariants as reason

-- the id is that of a named atom
abbrev pub IsNamed : Ground → ℕ → Type 0
IsNamed g x = (p : ℕ) × (args : List ℕ) × (slice_get g.atoms.atoms x ≡ Some (node.Named p args))

-- The patterns with the literals are a cover for the atom: the first covers it, and no core instance, made or not, derives an atom that they cover
-- where the literals hold. Each literal stands once, and held before the first closed entry
pub record IsCoverFor (core : Core) (g : Ground) (stack : List Entry) (x : ℕ) (patterns : List Pattern) (lits : List Lit) : Type 0 where
  pub few : length patterns ≤ 256
  pub first : Pattern
  pub others : List Pattern
  pub patterns_are : patterns ≡ first ∷ others
  pub covers_atom : (a : GroundAtom) → IsName (state_of core g stack) x a → PatternCovers (search_rules core) (state_of core g stack) first a
  pub formed : Each (λ (p : Pattern). Each (IsPatternTerm (length g.terms)) p.args) patterns
  pub exceptions_named : Each (λ (p : Pattern). Each (IsNamed g) p.except) patterns
  pub held : (l : Lit) → l ∈ lits → Holds (before_closed stack) l
  pub once : HasNoRepeats lits
  pub covers : IsCover (search_rules core) (state_of core g stack) patterns lits

abbrev pub IsReason : Core → Ground → List Entry → ℕ → Reason → Type 0
IsReason core g stack x (reason.Cover patterns lits) = IsCoverFor core g stack x patterns lits
IsReason core g stack x (reason.Wide shapes) = ShowsWide core g.terms (state_of core g stack) shapes x
