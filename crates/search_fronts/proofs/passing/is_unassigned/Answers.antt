use Rattle.std.proofs.Common.{sym, ◌∙◌}
use Rattle.search_fronts.proofs.Naming.{no_pred}
use Rattle.search_fronts.proofs.passing.is_unassigned.Goals as goal

pub returns-then-is_none-clause-no : goal.returns-then-is_none-clause-no
returns-then-is_none-clause-no c = λ no named none.
    no_pred c.args.atoms.now.atoms c.args.atom c.pred_of.result c.pred_of.ensures.pred (sym c.is_some.ensures ∙ no) named
