-- Which members' numbers an instance uses.
use Rattle.std.specs.Prelude.{ℕ, suc, zero, Bool, List, [], ◌∷◌, Option, Some, None, slice_get}
use Rattle.asp_meaning.specs.declared.value.Value.{Value}
use Rattle.core_meaning.specs.Atoms.{GroundAtom, Member}
use Rattle.core_meaning.specs.Numberings.{Numbering}
use Rattle.core_meaning.specs.Steps.{Step, Skip, Add}
use Rattle.core_meaning.specs.AnswerSets.{Maker}
use Rattle.core_meaning.specs.AnswerSets as core
use Rattle.aggregate_laws.specs.Rules.{MakerOf, ByRule, ByStep}

-- the member, if there is one
abbrev pub used_with : ℕ → List Value → Option (List Value) → List GroundAtom
used_with agg key None = []
used_with agg key (Some tuple) = Member agg key tuple ∷ []

-- the member of this number
abbrev pub used_at : Numbering → ℕ → Bool → ℕ → List Value → List GroundAtom
used_at n agg side zero key = []
used_at n agg side (suc j) key = used_with agg key (slice_get (n agg side key) j)

-- the members whose numbers the step uses: the one that it skips or adds
abbrev pub step_uses : Numbering → Step → List GroundAtom
step_uses n (Skip agg side k sum key) = used_at n agg side k key
step_uses n (Add agg side k sum key) = used_at n agg side k key
step_uses n _ = []

-- the members whose numbers an instance uses; one of a rule uses none
abbrev pub uses_of : {R : Type 0} → Numbering → MakerOf R → List GroundAtom
uses_of n (ByRule r) = []
uses_of n (ByStep s) = step_uses n s

-- the same of the core instances of a core
abbrev pub core_uses : Numbering → Maker → List GroundAtom
core_uses n (core.ByRule number b) = []
core_uses n (core.ByStep s) = step_uses n s
