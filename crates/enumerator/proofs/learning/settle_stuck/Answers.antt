use Rattle.std.proofs.Common.{inl, refl}
use Rattle.search_journals.proofs.Standing.{note_fault, round_fault}
use Rattle.search_journals.proofs.Ending.{firm_stuck}
use Rattle.enumerator.proofs.learning.settle_stuck.Goals as goal

pub returns-in_default-clause-err : goal.returns-in_default-clause-err
returns-in_default-clause-err g c = round_fault c.args.search.now _ _ _ _ _ _ (note_fault c.args.search.now _ _ _ _ _ refl tt)

pub give_up-requires-clause-firm : goal.give_up-requires-clause-firm
give_up-requires-clause-firm g c = firm_stuck c.args.search.now c.args.atom c.requires.next

pub give_up-requires-clause-may : goal.give_up-requires-clause-may
give_up-requires-clause-may g c = inl (c.requires.ready, c.requires.next)
