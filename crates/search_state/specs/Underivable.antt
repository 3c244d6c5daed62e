-- What a search finds that no rule gives: a named atom that is in no answer set.
use Rattle.std.specs.Prelude.{◌≡◌, ℕ, ◌<◌, true, List, [], ◌∷◌, ◌++◌, map, length, None}
use Rattle.lists.specs.Lists.{Each}
use Rattle.alpha_outside.specs.declared.literal.Lit.{Lit}
use Rattle.alpha_outside.specs.declared.pattern.Pattern.{Pattern}
use Rattle.alpha_outside.specs.declared.pattern.PatternTerm.TheVariants.{Known}
use Rattle.core_meaning.specs.Atoms.{GroundAtom}
use Rattle.search_values.specs.Values.{value_of, lit}
use Rattle.journal_theory.specs.States.{IsName}
use Rattle.journal_theory.specs.Events.{phase_justified}
use Rattle.search_rules.specs.Rules.{names_atom}
use Rattle.justification.specs.Heads.{NoneGives}
use Rattle.search_state.specs.Searching.{Searching, state_of, terms}

-- the id is that of a named atom that no core instance, made or not, has as its head
pub record IsUnderivable (v : Searching) (x : ℕ) : Type 0 where
  pub atom : GroundAtom
  pub named : IsName (state_of v) x atom
  pub none_gives : NoneGives v.core atom

-- it is one without a value
abbrev pub CanBeOut : Searching → ℕ → Type 0
CanBeOut v x = IsUnderivable v x × (value_of v.stack x ≡ None)

-- the literals of the nogood that says so
abbrev pub justified_lits : ℕ → List Lit
justified_lits x = lit x true ∷ []

-- the search with that nogood: where the atom has a value, it is to be struck
abbrev pub with_justified : Searching → ℕ → Searching
with_justified v x = record v {
  nogoods = v.nogoods ++ record { lits = justified_lits x; head = None } ∷ [];
  phase = phase_justified v.phase (value_of v.stack x) (length v.nogoods);
}

-- the pattern is that of this atom alone, with terms of the search in place of holes
abbrev pub IsPatternAt : Searching → ℕ → Pattern → Type 0
IsPatternAt v x p =
    (g : GroundAtom) → IsName (state_of v) x g
    → (args : List ℕ) × (p.args ≡ map Known args) × (p.except ≡ []) × Each (λ t. t < length (terms v)) args
    × (names_atom v.core (terms v) p.pred args g ≡ true)
