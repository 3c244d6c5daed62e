use Rattle.std.proofs.Common.{refl}
use Rattle.search_journals.proofs.Standing.{note_fault}
use Rattle.search_journals.proofs.Stepping.{fault_on}
use Rattle.enumerator.proofs.moves.next_move.Goals as goal

pub returns-in-Err-move_after-clause-err : goal.returns-in-Err-move_after-clause-err
returns-in-Err-move_after-clause-err g c =
    fault_on c.args.search.now c.propagate.new.search _ _ _ _ _ _ _ c.in-Ok.ensures.goes_on.0 c.propagate.ensures.later
    (note_fault c.propagate.new.search _ _ _ _ _ refl tt)
