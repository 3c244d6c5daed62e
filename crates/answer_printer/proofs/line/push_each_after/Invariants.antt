use Rattle.std.proofs.Common.{◌≡◌, ◌++◌, map, take}
use Rattle.std.specs.Prelude.{codes}
use Rattle.asp_meaning.specs.Lines.{atom_text, each_after}
use Rattle.atom_pool.specs.Meanings.{atom_at}
use Rattle.answer_printer.proofs.line.push_each_after.Given as goal

abbrev pub invariant-loop-atom : goal.invariant-loop-atom
invariant-loop-atom l = l.text.items ≡ l.initial.text.items ++ each_after (codes ", ") (map (λ id. atom_text (atom_at l.terms l.pool id)) (take l.atom-index l.atoms))
