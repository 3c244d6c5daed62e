-- What was made so far, as a state of the theory of the search.
use Rattle.std.specs.Prelude.{false, List, [], map}
use Rattle.alpha_outside.specs.declared.node.Node.{Node}
use Rattle.alpha_outside.specs.declared.maker.Maker as outside
use Rattle.alpha_outside.specs.declared.maker.Maker.TheVariants as say
use Rattle.core_rules.specs.declared.rules.Core.{Core}
use Rattle.core_meaning.specs.Atoms.{GroundAtom}
use Rattle.search_values.specs.declared.entry.Entry.{Entry}
use Rattle.search_values.specs.Tables as table
use Rattle.journal_theory.specs.States as theory
use Rattle.journal_theory.specs.States.{Free}
use Rattle.search_rules.specs.Tests.{Maker}
use Rattle.search_rules.specs.Rules.{Numbers}
use Rattle.term_pool.specs.Nodes.{value_at}
use Rattle.atom_pool.specs.declared.ground.Ground.{Ground}
use Rattle.atom_pool.specs.declared.instances.Made.{Made}
use Rattle.lazy_grounder.specs.Grounds.{names_of, instance_of}

-- a state of a search over a core
abbrev pub Reached : Type 0
Reached = theory.State Numbers GroundAtom Maker

-- the maker, where it is a rule; no step makes anything yet
abbrev pub maker_of : List Node → outside.Maker → Maker
maker_of nodes (say.Rule r binding) = (r, map (value_at nodes) binding)
maker_of nodes (say.Step step) = (0, [])

abbrev pub made_of : List Node → Made → table.Made Maker
made_of nodes k = record { maker = maker_of nodes k.maker; inst = instance_of k; body = k.body }

-- the ground with these entries on the stack
abbrev pub state_of : Core → Ground → List Entry → Reached
state_of core g stack = record {
  numbers = tt;
  terms = g.terms;
  names = names_of core.aggregates g;
  made = map (made_of g.terms) g.instances;
  nogoods = [];
  stack = stack;
  shown = [];
  passed = [];
  kept = [];
  closing = false;
  phase = Free;
}
