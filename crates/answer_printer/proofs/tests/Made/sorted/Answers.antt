use Rattle.std.proofs.Common.{◌∙◌, sym, ap, subst, length}
use Rattle.lists.specs.Lists.{HasNoRepeats, Each}
use Rattle.atom_pool.specs.Meanings.{IsUserAtom}
use Rattle.answer_printer.specs.Readers.{below}
use Rattle.answer_printer.proofs.TestLemmas.{users_below}
use Rattle.answer_printer.proofs.TurnLemmas.{below_once}
use Rattle.answer_printer.proofs.tests.Made.sorted.Goals as goal

pub sorted_atoms-requires-clause-user : goal.sorted_atoms-requires-clause-user
sorted_atoms-requires-clause-user c =
    subst (Each (IsUserAtom c.args.self.now.atoms)) (sym (c.as_slice.ensures.value ∙ c.in_ok-all.ensures ∙ ap below c.len.ensures.len)) (users_below c.args.self.now.atoms c.requires.users)

pub sorted_atoms-requires-clause-distinct : goal.sorted_atoms-requires-clause-distinct
sorted_atoms-requires-clause-distinct c = subst HasNoRepeats (sym (c.as_slice.ensures.value ∙ c.in_ok-all.ensures ∙ ap below c.len.ensures.len)) (below_once (length c.args.self.now.atoms.atoms))
