use Rattle.std.proofs.Common.{◌∙◌, ap, sym, subst, ◌<◌, Some}
use Rattle.std.specs.Prelude.{All}
use Rattle.atom_pool.specs.declared.atom.AtomNode.TheVariants.{Named, Body}
use Rattle.answer_printer.proofs.AtomLemmas.{at_node, at_other, nothing_is, none_below}
use Rattle.answer_printer.proofs.atoms.parts_of.Goals as goal

pub returns-in-User-clause-below : goal.returns-in-User-clause-below
returns-in-User-clause-below c = λ n beside.
    subst (λ l. All (λ a. a < n) l) (sym c.as_slice.ensures) (beside c.args.id (Named c.in-Named.pred c.in-Named.args) (c.get.ensures.there ∙ ap Some c.in-Named.is))

pub returns-in_default : goal.returns-in_default
returns-in_default c = record {
  atom = λ terms.
      at_other terms c.args.pool.now c.args.id c.in-Named.pred c.in-Named.args c.pred_at.result.now (c.get.ensures.there ∙ ap Some c.in-Named.is) c.pred_at.ensures c.in_default.not-User
      ∙ nothing_is terms c.nothing-in_default.result.negated c.nothing-in_default.result.name.now c.nothing-in_default.result.args.now c.nothing-in_default.ensures.negated c.nothing-in_default.ensures.name c.nothing-in_default.ensures.args;
  below = λ n beside. none_below n c.nothing-in_default.result.args.now c.nothing-in_default.ensures.args;
}

pub returns-in-Body-clause-atom : goal.returns-in-Body-clause-atom
returns-in-Body-clause-atom c = λ terms.
    at_node terms c.args.pool.now c.args.id (Body c.in-Body.field-0) (c.get.ensures.there ∙ ap Some c.in-Body.is)
    ∙ nothing_is terms c.nothing-in-Body.result.negated c.nothing-in-Body.result.name.now c.nothing-in-Body.result.args.now c.nothing-in-Body.ensures.negated c.nothing-in-Body.ensures.name c.nothing-in-Body.ensures.args
