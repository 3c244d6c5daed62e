use Rattle.std.proofs.Common.{sym, ◌∙◌}
use Rattle.conflict_learning.proofs.Calls.{closed_yes, closed_no}
use Rattle.conflict_learning.proofs.places.is_closed_atom.Goals as goal

pub returns-clause-yes : goal.returns-clause-yes
returns-clause-yes c h =
    closed_yes c.args.trail.now.stack c.entries-entries.result.now c.entries-entries.ensures.value c.args.atom c.place_of.result
    c.place_of.ensures.value c.index-entries-place_of.result c.index-entries-place_of.is
    (sym c.is_closed_entry.ensures ∙ h)

pub returns-clause-no : goal.returns-clause-no
returns-clause-no c h =
    closed_no c.args.trail.now.stack c.entries-entries.result.now c.entries-entries.ensures.value c.args.atom c.place_of.result
    c.place_of.ensures.value c.index-entries-place_of.result c.index-entries-place_of.is
    c.args.trail.now.atoms c.entries-entries.ensures.is_stack (sym c.is_closed_entry.ensures ∙ h)
