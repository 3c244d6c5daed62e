use Rattle.std.proofs.Common.{◌≡◌, ◌++◌, map, take}
use Rattle.std.specs.Prelude.{codes}
use Rattle.asp_meaning.specs.Lines.{each_after}
use Rattle.answer_printer.specs.Pieces.{term_text}
use Rattle.answer_printer.proofs.atoms.push_each_after.Given as goal

abbrev pub invariant-loop-arg : goal.invariant-loop-arg
invariant-loop-arg l = l.text.items ≡ l.initial.text.items ++ each_after (codes ",") (map (term_text l.terms) (take l.arg-index l.args))
