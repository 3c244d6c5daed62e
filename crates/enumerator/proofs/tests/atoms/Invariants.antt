use Rattle.std.proofs.Common.{◌≡◌, []}
use Rattle.lists.specs.Lists.{Each}
use Rattle.core_rules.specs.CoreForm.{IsFitting, HasNoArithmetic}
use Rattle.core_rules.specs.Names.{IsNamedAtom}
use Rattle.core_rules.specs.Variables.{atom_variables}
use Rattle.enumerator.proofs.tests.atoms.Given as goal

abbrev pub invariant-loop-letter : goal.invariant-loop-letter
invariant-loop-letter l = Each (λ a. IsFitting [] a × HasNoArithmetic a × IsNamedAtom a × (atom_variables a ≡ [])) l.atoms
