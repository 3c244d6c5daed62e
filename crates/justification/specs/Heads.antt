-- When no rule gives an atom.
use Rattle.std.specs.Prelude.{◌≡◌, ℕ, List, Some, slice_get}
use Rattle.alpha_outside.specs.declared.pred.Pred.{Pred}
use Rattle.core_rules.specs.declared.rules.CoreAtom.{CoreAtom}
use Rattle.core_rules.specs.declared.rules.CoreAggregate.{CoreAggregate}
use Rattle.core_rules.specs.declared.rules.CoreRule.{CoreRule}
use Rattle.core_rules.specs.declared.rules.Core.{Core}
use Rattle.core_meaning.specs.Terms.{Binding}
use Rattle.core_meaning.specs.Atoms.{GroundAtom, atom_under}
use Rattle.core_meaning.specs.Instances.{rule_instance}
use Rattle.search_values.specs.Instances.{Instance, IsHead}
use Rattle.atom_pool.specs.declared.atom.AtomNode.TheVariants as node
use Rattle.atom_pool.specs.declared.ground.Ground.{Ground}
use Rattle.lazy_grounder.specs.Grounds.{IsNameOf}

-- no core instance, made or not, has the atom as its head
abbrev pub NoneGives : Core → GroundAtom → Type 0
NoneGives core a = (rule : ℕ) (b : Binding) (i : Instance GroundAtom) → rule_instance core rule b ≡ Some i → ¬ IsHead i.kind a

-- so it is with the atom of this id
abbrev pub NothingGives : Core → Ground → ℕ → Type 0
NothingGives core g x = (a : GroundAtom) → IsNameOf core.aggregates g x a → NoneGives core a

-- the id is that of a named atom
abbrev pub IsNamed : Ground → ℕ → Type 0
IsNamed g x = (p : ℕ) × (args : List ℕ) × (slice_get g.atoms.atoms x ≡ Some (node.Named p args))

-- and this is its predicate
abbrev pub HasPred : Ground → ℕ → Pred → Type 0
HasPred g x q = (p : ℕ) × (args : List ℕ) × (slice_get g.atoms.atoms x ≡ Some (node.Named p args)) × (slice_get g.atoms.preds p ≡ Some q)

-- the atom with variables doesn't become the atom of this id, whatever values its variables have
abbrev pub NeverBecomes : List CoreAggregate → Ground → CoreAtom → ℕ → Type 0
NeverBecomes aggs g head x = (b : Binding) (a : GroundAtom) → IsNameOf aggs g x a → ¬ (atom_under aggs b head ≡ Some a)

-- the head of the rule never becomes it
abbrev pub NeverGives : List CoreAggregate → Ground → ℕ → CoreRule → Type 0
NeverGives aggs g x r = (head : CoreAtom) → r.head ≡ Some head → NeverBecomes aggs g head x
