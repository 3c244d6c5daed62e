use Rattle.std.proofs.Common.{◌≡◌, length, sym, subst}
use Rattle.std.proofs.lemmas.Result.{IfOk-weaker}
use Rattle.unification.specs.Opening.{VariablesBelow}
use Rattle.pattern_shapes.proofs.Under.{under_value, under_fine}
use Rattle.pattern_shapes.proofs.shapes.term_under.Goals as goal

pub returns-clause-value : goal.returns-clause-value
returns-clause-value c = IfOk-weaker c.applied.result _ _
    (λ t is. under_value c.opened.new.pool c.args.terms.now.items c.args.variables c.opened.new.next c.args.term.now c.in_ok-whole.whole t
    (sym c.requires.many) c.requires.plain (subst (λ n. VariablesBelow n c.args.term.now) (sym c.requires.many) c.requires.below)
    c.in_ok-whole.ensures.opened is) c.applied.ensures

pub returns-clause-formed : goal.returns-clause-formed
returns-clause-formed c = IfOk-weaker c.applied.result _ _
    (λ t is. under_fine c.args.pool.now c.opened.new.pool c.args.terms.now.items c.args.variables c.opened.new.next c.args.term.now
    c.in_ok-whole.whole t c.opened.ensures.kept c.requires.formed c.in_ok-whole.ensures.opened is) c.applied.ensures
