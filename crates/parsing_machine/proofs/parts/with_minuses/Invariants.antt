use Rattle.std.proofs.Common.{◌≡◌}
use Rattle.asp_grammar.specs.Machine.{minuses}
use Rattle.parsing_machine.proofs.parts.with_minuses.Given as goal

abbrev pub invariant-loop-i : goal.invariant-loop-i
invariant-loop-i l = l.term ≡ minuses l._i l.fn.term
