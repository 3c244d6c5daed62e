use Rattle.std.proofs.Common.{sym, ◌∙◌}
use Rattle.search_fronts.proofs.Naming.{no_pred}
use Rattle.search_fronts.proofs.passing.is_must_be.Goals as goal

pub returns-then-eq-clause-no : goal.returns-then-eq-clause-no
returns-then-eq-clause-no c = λ no named must.
    no_pred c.args.atoms.now.atoms c.args.atom c.pred_of.result c.pred_of.ensures.pred (sym c.is_some.ensures ∙ no) named
