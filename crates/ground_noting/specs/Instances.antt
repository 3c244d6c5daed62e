-- Instances of a ground: what they do, their nogoods, and below which numbers their ids stand.
use Rattle.std.specs.Prelude.{◌≡◌, ℕ, ◌+◌, ◌<◌, List, [], ◌∷◌, map, take, drop, Option, Some, None}
use Rattle.lists.specs.Lists.{◌∈◌, Each, concat}
use Rattle.alpha_outside.specs.Steps.{step_key}
use Rattle.alpha_outside.specs.declared.kinds.RuleKind.{RuleKind}
use Rattle.alpha_outside.specs.declared.kinds.RuleKind.TheVariants as rule
use Rattle.alpha_outside.specs.declared.maker.Maker.{Maker}
use Rattle.alpha_outside.specs.declared.maker.Maker.TheVariants as maker
use Rattle.search_values.specs.Nogoods.{Nogood}
use Rattle.search_values.specs.Instances.{Kind, Plain, Choice, Constraint, Instance}
use Rattle.search_values.specs.Tables.{table_of}
use Rattle.atom_pool.specs.declared.instances.Made.{Made}
use Rattle.choice_manager.specs.Active.{with_noted}

-- ---- what they do

-- what an instance of this kind does; without a head it is a constraint
abbrev pub kind_of : RuleKind → Option ℕ → Kind ℕ
kind_of rule.Plain (Some h) = Plain h
kind_of rule.Choice (Some h) = Choice h
kind_of rule.Constraint (Some h) = Constraint
kind_of kind None = Constraint

-- the instance of the theory, over ids
abbrev pub instance_of : Made → Instance ℕ
instance_of k = record { kind = kind_of k.kind k.head; pos = k.pos; neg = k.neg }

-- its nogoods by the table, in their order
abbrev pub nogoods_of : Made → List Nogood
nogoods_of k = table_of (kind_of k.kind k.head) k.body (instance_of k)

-- the nogoods of several instances, one after another
abbrev pub all_nogoods : List Made → List Nogood
all_nogoods made = concat (map nogoods_of made)

-- the choices after these instances were noted, of which the first has this id
abbrev pub all_noted : List ℕ → ℕ → List Made → List ℕ
all_noted choices first [] = choices
all_noted choices first (k ∷ made) = all_noted (with_noted choices first k.body) (first + 1) made

-- the instances from one id up to another
abbrev pub between : List Made → ℕ → ℕ → List Made
between made from to = drop from (take to made)

-- ---- their ids

-- the atoms have ids below n
abbrev pub AreBelow : ℕ → List ℕ → Type 0
AreBelow n atoms = (a : ℕ) → a ∈ atoms → a < n

-- head, atoms and body atom of the instance have ids below n
pub record IsWithin (n : ℕ) (k : Made) : Type 0 where
  pub head : (h : ℕ) → k.head ≡ Some h → h < n
  pub pos : AreBelow n k.pos
  pub neg : AreBelow n k.neg
  pub body : (b : ℕ) → k.body ≡ Some b → b < n

-- the terms of a maker have ids below n
abbrev pub HasTermsBelow : ℕ → Maker → Type 0
HasTermsBelow n (maker.Rule r binding) = Each (λ t. t < n) binding
HasTermsBelow n (maker.Step step) = Each (λ t. t < n) (step_key step)
