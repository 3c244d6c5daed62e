use Rattle.std.proofs.Common.{◌∙◌, sym, ap, subst, length, map}
use Rattle.lists.specs.Lists.{HasNoRepeats, Each}
use Rattle.lists.proofs.ListLemmas.{Each-from}
use Rattle.asp_meaning.specs.Lines.{IsSetLine}
use Rattle.atom_pool.specs.Meanings.{atom_at, IsUserAtom}
use Rattle.answer_printer.specs.Readers.{below}
use Rattle.answer_printer.proofs.WriteLemmas.{if_ok}
use Rattle.answer_printer.proofs.TurnLemmas.{in_below, below_once, line_of_atoms}
use Rattle.answer_printer.proofs.reading.line_of_all.Goals as goal

pub set_line_of-requires-clause-user : goal.set_line_of-requires-clause-user
set_line_of-requires-clause-user c =
    subst (Each (IsUserAtom c.args.reader.now.atoms)) (sym (c.as_slice.ensures.value ∙ c.in_ok-all.ensures ∙ ap below c.len.ensures.len))
    (Each-from (IsUserAtom c.args.reader.now.atoms) (below (length c.args.reader.now.atoms.atoms)) (λ k among. c.requires.1.users k (in_below (length c.args.reader.now.atoms.atoms) k among)))

pub set_line_of-requires-clause-distinct : goal.set_line_of-requires-clause-distinct
set_line_of-requires-clause-distinct c = subst HasNoRepeats (sym (c.as_slice.ensures.value ∙ c.in_ok-all.ensures ∙ ap below c.len.ensures.len)) (below_once (length c.args.reader.now.atoms.atoms))

pub returns : goal.returns
returns c = λ s h.
    if_ok c.set_line_of.result (λ line k. line_of_atoms c.args.reader.now.terms c.args.reader.now.atoms s.atoms line h.atoms
    (subst (λ ids. IsSetLine (map (atom_at c.args.reader.now.terms c.args.reader.now.atoms) ids) line) (c.as_slice.ensures.value ∙ c.in_ok-all.ensures ∙ ap below c.len.ensures.len)
    (subst (λ ns. IsSetLine (map (atom_at ns c.args.reader.now.atoms) c.as_slice.result.now) line) c.nodes.ensures.nodes k))) c.set_line_of.ensures
