-- What the test builds.
use Rattle.std.specs.Prelude.{ℕ, false, [], ◌∷◌}
use Rattle.alpha_outside.specs.declared.pred.Pred.TheVariants as pred
use Rattle.core_rules.specs.declared.rules.CoreAtom.{CoreAtom}
use Rattle.core_rules.specs.declared.rules.CoreRule.{CoreRule}
use Rattle.core_rules.specs.declared.rules.Core.{Core}
use Rattle.core_rules.specs.CoreForm.{IsRuleForm, IsCoreForm}
use Rattle.core_rules.specs.Names.{IsNamedRule, IsNamedCore}

-- the atom of one letter, without arguments
abbrev pub plain_of : ℕ → CoreAtom
plain_of letter = record { pred = pred.User false (letter ∷ []) 0; args = [] }

-- a rule in core form, with names that are allowed
abbrev pub IsTestRule : CoreRule → Type 0
IsTestRule r = IsRuleForm [] r × IsNamedRule r

-- so is the core
abbrev pub IsTestCore : Core → Type 0
IsTestCore core = IsCoreForm core × IsNamedCore core
