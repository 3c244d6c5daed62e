use Rattle.std.proofs.Common.{◌≡◌, ◌≤◌, take}
use Rattle.asp_grammar.specs.Nesting.{levels_of, one_level, levels_through, depth, deepest}
use Rattle.asp_grammar.proofs.FaultLemmas.{Sound}
use Rattle.asp_parser.proofs.parsing.read_all.Given as goal

abbrev pub invariant-loop-token : goal.invariant-loop-token
invariant-loop-token l = record {
  sound : Sound l.tokens l.token-index l.count l.progress;
  levels : levels_of l.nesting.operators l.nesting.outside ≡ levels_through one_level (take l.token-index l.tokens);
  depth : l.nesting.depth ≡ depth (levels_of l.nesting.operators l.nesting.outside);
  shallow : l.nesting.depth ≤ deepest;
  few : l.count ≤ l.token-index;
}
