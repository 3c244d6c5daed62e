-- What contracts see of a search, as a state of the search's theory.
use Rattle.std.specs.Prelude.{◌≡◌, ℕ, ◌<◌, ◌≤◌, min, Bool, true, false, ◌&&◌, nat_eq, List, [], ◌∷◌, map, take, reverse, length, Option, Some, None, slice_get}
use Rattle.lists.specs.Lists.{◌∈◌}
use Rattle.alpha_outside.specs.declared.node.Node.{Node}
use Rattle.alpha_outside.specs.declared.pred.Pred.{Pred}
use Rattle.alpha_outside.specs.declared.literal.Lit.{Lit}
use Rattle.alpha_outside.specs.declared.literal.Value.{Value}
use Rattle.alpha_outside.specs.declared.maker.Maker as outside
use Rattle.alpha_outside.specs.declared.maker.Maker.TheVariants as say
use Rattle.core_rules.specs.declared.rules.Core.{Core}
use Rattle.core_meaning.specs.Atoms.{GroundAtom}
use Rattle.search_values.specs.declared.entry.Why.{Why}
use Rattle.search_values.specs.declared.entry.Why.TheVariants.{Given, Chosen, Closed}
use Rattle.search_values.specs.declared.entry.Entry.{Entry}
use Rattle.search_values.specs.Values.{entry_on, is_up, back_to}
use Rattle.search_values.specs.Nogoods.{Nogood}
use Rattle.search_values.specs.Tables as table
use Rattle.search_values.specs.Ids as theory_id
use Rattle.journal_theory.specs.States as theory
use Rattle.nogood_store.specs.Stored.{Stored, nogood_of}
use Rattle.nogood_store.specs.Matching.{Matches}
use Rattle.trail.specs.Assigning.{Trailed}
use Rattle.term_pool.specs.Nodes.{value_at}
use Rattle.atom_pool.specs.declared.atom.AtomNode.{AtomNode}
use Rattle.atom_pool.specs.declared.atom.AtomNode.TheVariants as node
use Rattle.atom_pool.specs.Pools.{Pool}
use Rattle.atom_pool.specs.declared.instances.Made.{Made}
use Rattle.atom_pool.specs.declared.ground.Ground.{Ground}
use Rattle.choice_manager.specs.Active.{AreThere}
use Rattle.working_memory.specs.Noting.{Noted, IsNoted, AreEntriesOf}
use Rattle.lazy_grounder.specs.Grounds.{names_of, instance_of}
use Rattle.lazy_grounder.specs.Lawful.{IsBuilt}
use Rattle.ground_noting.specs.declared.telling.Told.{Told}
use Rattle.ground_noting.specs.Notings.{IsTold, all_of}
use Rattle.search_rules.specs.Tests.{Maker}
use Rattle.search_rules.specs.Rules.{Reached}
use Rattle.search_rules.specs.Stage.{IsSearchable}
use Rattle.search_state.specs.declared.search.Stage.{Stage}
use Rattle.search_state.specs.declared.search.Stage.TheVariants as stage

-- what a search keeps
pub record Searching : Type 0 where
  pub core : Core
  -- all terms, atoms and instances
  pub ground : Ground
  -- how many of each were noted to the trace, in the order of their ids
  pub told : Told
  -- the atoms that are or were true or must-be-true, for joins
  pub memory : List Noted
  -- how many entries of the stack, from the oldest on, have their atoms in the memory
  pub risen : ℕ
  -- how many of those were handed to the grounder
  pub joined : ℕ
  -- how many instances may still be made
  pub left : ℕ
  -- the instances that are noted as choices
  pub choices : List ℕ
  pub nogoods : List Nogood
  -- the assigned atoms, the newest entry first
  pub stack : List Entry
  pub closing : Bool
  pub phase : theory.Phase

-- ---- what was told of it

-- the maker, where it is a rule; no step makes anything yet
abbrev pub maker_of : List Node → outside.Maker → Maker
maker_of nodes (say.Rule r binding) = (r, map (value_at nodes) binding)
maker_of nodes (say.Step step) = (0, [])

abbrev pub made_of : List Node → Made → table.Made Maker
made_of nodes k = record { maker = maker_of nodes k.maker; inst = instance_of k; body = k.body }

-- the terms that were noted
abbrev pub terms : Searching → List Node
terms v = take v.told.terms v.ground.terms

-- what the ids of the atoms that were noted stand for
abbrev pub names : Searching → List (theory_id.AtomNode GroundAtom)
names v = take v.told.atoms (names_of v.core.aggregates v.ground)

-- the instances that were noted
abbrev pub made : Searching → List (table.Made Maker)
made v = take v.told.instances (map (made_of v.ground.terms) v.ground.instances)

-- how many ids were noted
abbrev pub ids : Searching → ℕ
ids v = v.told.atoms

-- the state of the theory, but for the sets found and the nogoods kept, of which a search has no list
abbrev pub state_of : Searching → Reached
state_of v = record {
  numbers = tt;
  terms = terms v;
  names = names v;
  made = made v;
  nogoods = v.nogoods;
  stack = v.stack;
  shown = [];
  passed = [];
  kept = [];
  closing = v.closing;
  phase = v.phase;
}

-- all that there is was noted
abbrev pub IsAllTold : Searching → Type 0
IsAllTold v = v.told ≡ all_of v.ground

-- ---- entries, from the oldest on

-- the first n entries, the oldest first
abbrev pub oldest : ℕ → List Entry → List Entry
oldest n stack = take n (reverse stack)

abbrev pub is_named_node : Option AtomNode → Bool
is_named_node None = false
is_named_node (Some (node.Named p args)) = true
is_named_node (Some (node.Body inst)) = false

-- whether the entry makes a named atom true or must-be-true
abbrev pub rises : Pool → Entry → Bool
rises pool e = is_up e.value && is_named_node (slice_get pool.atoms e.atom)

-- the named atoms that the first n entries make true or must-be-true are in the memory
abbrev pub AreInMemory : Pool → List Noted → ℕ → List Entry → Type 0
AreInMemory pool memory n stack = (e : Entry) → e ∈ oldest n stack → rises pool e ≡ true → IsNoted memory e.atom

-- the fronts are in order, and within the stack
abbrev pub HasFronts : ℕ → ℕ → List Entry → Type 0
HasFronts joined risen stack = (joined ≤ risen) × (risen ≤ length stack)

-- ---- the fields of a search

abbrev pub phase_of : Stage → theory.Phase
phase_of stage.Free = theory.Phase.Free
phase_of (stage.MustLearn n) = theory.Phase.MustLearn n
phase_of stage.MustDecide = theory.Phase.MustDecide
phase_of stage.Found = theory.Phase.Found
phase_of (stage.MustStrike n) = theory.Phase.MustStrike n
phase_of (stage.MustJump n) = theory.Phase.MustJump n
phase_of stage.Over = theory.Phase.Over

-- the fields of a search that keep to one another
pub record Fields : Type 0 where
  pub core : Core
  pub ground : Ground
  pub told : Told
  pub memory : List Noted
  pub risen : ℕ
  pub joined : ℕ
  pub choices : List ℕ
  pub store : List Stored
  pub trail : Trailed

abbrev pub LitsAreBelow : ℕ → List Lit → Type 0
LitsAreBelow n lits = (l : Lit) → l ∈ lits → l.atom < n

-- how they keep to one another
pub record Ties (f : Fields) : Type 0 where
  pub searchable : IsSearchable f.core
  pub built : IsBuilt f.core f.ground
  pub told : IsTold f.ground f.told
  -- each atom of the ground has a place on the trail
  pub placed : length f.ground.atoms.atoms ≤ f.trail.atoms
  pub entries : AreEntriesOf f.ground.atoms f.memory
  pub fronts : HasFronts f.joined f.risen f.trail.stack
  pub risen : AreInMemory f.ground.atoms f.memory f.risen f.trail.stack
  -- what is stored, given or noted as a choice is of atoms and instances of the ground
  pub lits_placed : (s : Stored) → s ∈ f.store → LitsAreBelow (length f.ground.atoms.atoms) s.lits
  pub stack_placed : (e : Entry) → e ∈ f.trail.stack → e.atom < length f.ground.atoms.atoms
  pub choices_there : AreThere f.ground.instances f.choices
  pub matches : Matches f.store f.trail

-- what contracts see of the fields
abbrev pub searching : Core → Ground → Told → List Noted → ℕ → ℕ → ℕ → List ℕ → List Stored → List Entry → Bool → Stage → Searching
searching core ground told memory risen joined left choices store stack closing stage = record {
  core = core;
  ground = ground;
  told = told;
  memory = memory;
  risen = risen;
  joined = joined;
  left = left;
  choices = choices;
  nogoods = map nogood_of store;
  stack = stack;
  closing = closing;
  phase = phase_of stage;
}

-- the same fields with another value of each part that steps change
abbrev pub fields : Core → Ground → Told → List Noted → ℕ → ℕ → List ℕ → List Stored → Trailed → Fields
fields core ground told memory risen joined choices store trail = record {
  core = core;
  ground = ground;
  told = told;
  memory = memory;
  risen = risen;
  joined = joined;
  choices = choices;
  store = store;
  trail = trail;
}

-- a search over the core that has done nothing, with these predicates
abbrev pub fresh : Core → List Pred → ℕ → Searching
fresh core preds left = record {
  core = core;
  ground = record { terms = []; atoms = record { preds = preds; atoms = [] }; instances = [] };
  told = record { terms = 0; atoms = 0; instances = 0 };
  memory = [];
  risen = 0;
  joined = 0;
  left = left;
  choices = [];
  nogoods = [];
  stack = [];
  closing = false;
  phase = theory.Phase.Free;
}

-- ---- the steps

-- the atom got the value for this reason
abbrev pub assigned : Searching → ℕ → Value → Why → Searching
assigned v a value why = record v { stack = entry_on v.stack a value why ∷ v.stack }

-- the levels above this one were taken away, and the fronts are no longer than what stays
abbrev pub taken_back : Searching → ℕ → Searching
taken_back v level = record v {
  stack = back_to level v.stack;
  risen = min v.risen (length (back_to level v.stack));
  joined = min v.joined (length (back_to level v.stack));
  closing = false;
  phase = theory.Phase.Free;
}

-- the search with all that a call of the grounder may change as it is in another
abbrev pub with_ground_of : Searching → Searching → Searching
with_ground_of v w = record v { ground = w.ground; memory = w.memory; risen = w.risen; joined = w.joined; left = w.left }

-- whether it is level 0, or none
abbrev pub is_level_0 : Option ℕ → Bool
is_level_0 None = true
is_level_0 (Some level) = nat_eq level 0

-- ---- the literals chosen

-- whether an entry for this reason, over this value of its atom, adds to the literals chosen
abbrev pub adds_choice : Why → Option Value → Bool
adds_choice (Given n) before = false
adds_choice Chosen None = true
adds_choice Chosen (Some v) = false
adds_choice (Closed reason) before = false
