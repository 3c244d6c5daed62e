-- Atoms without variables (ASP-Core-2, "Atoms" and "Literals").
use Rattle.std.specs.Prelude.{◌≡◌, ℕ, Bool, not, List, Some}
use Rattle.asp_syntax.specs.declared.tree.Atom as syntax
use Rattle.asp_meaning.specs.declared.value.Value.{Value}
use Rattle.asp_meaning.specs.Terms.{Substitution, eval_all}

-- a sign, a name and a list of values; a negated atom is one under strong negation
pub record Atom : Type 0 where
  pub negated : Bool
  pub name : List ℕ
  pub args : List Value

-- the atom with the other sign
abbrev pub strong_negation : Atom → Atom
strong_negation a = record a { negated = not a.negated }

-- an atom with variables becomes this one under the substitution: each of its terms has a value
abbrev pub Becomes : Substitution → syntax.Atom → Atom → Type 0
Becomes s p a = (a.negated ≡ p.negated) × (a.name ≡ p.name) × (eval_all s p.args ≡ Some a.args)
