use Rattle.std.proofs.Common.{rules, ◌≡◌, ◌<◌, ◌∙◌, inl, inr, ℕ, List, length, refl, sym, ap, true, false}
use Rattle.std.proofs.Common.{true≢false, subst, arith}
use Rattle.std.proofs.lemmas.Bool.Decides.{Decides-eqb}
use Rattle.std.proofs.lemmas.Result.{IfOk-weaker}
use Rattle.alpha_outside.specs.declared.pattern.PatternTerm.TheVariants as pattern
use Rattle.unification.proofs.Taking.{left_hole, right_hole, knowns_taken, left_known, right_known, calls_taken}
use Rattle.unification.proofs.solving.take.Goals as goal

pub returns-in-Hole-default : goal.returns-in-Hole-default
returns-in-Hole-default c = IfOk-weaker c.take_hole.result _ _ (λ found k.
    left_hole c.args.pool.now c.args.equation.now c.args.terms.now.items c.args.todo.now.items c.requires.known c.requires.others c.requires.formed c.len.ensures.pool c.len.ensures.distinct
    c.in-Hole-default.hole _ found c.requires.left_free c.requires.right_free c.in-Hole-default.is-0 k) c.take_hole.ensures

pub returns-in-Known-Hole : goal.returns-in-Known-Hole
returns-in-Known-Hole c = IfOk-weaker c.take_hole-in-Known-Hole.result _ _ (λ found k.
    right_hole c.args.pool.now c.args.equation.now c.args.terms.now.items c.args.todo.now.items c.requires.known c.requires.others c.requires.formed c.len.ensures.pool c.len.ensures.distinct
    c.in-Known-Hole.hole _ found c.requires.left_free c.requires.right_free c.in-Known-Hole.is-1 k) c.take_hole-in-Known-Hole.ensures

pub returns-in-Fun-Hole : goal.returns-in-Fun-Hole
returns-in-Fun-Hole c = IfOk-weaker c.take_hole-in-Fun-Hole.result _ _ (λ found k.
    right_hole c.args.pool.now c.args.equation.now c.args.terms.now.items c.args.todo.now.items c.requires.known c.requires.others c.requires.formed c.len.ensures.pool c.len.ensures.distinct
    c.in-Fun-Hole.hole _ found c.requires.left_free c.requires.right_free c.in-Fun-Hole.is-1 k) c.take_hole-in-Fun-Hole.ensures

pub returns-in-Known-Known : goal.returns-in-Known-Known
returns-in-Known-Known c =
    knowns_taken c.args.pool.now c.args.equation.now c.args.terms.now.items c.args.todo.now.items c.requires.known c.requires.others c.requires.formed c.len.ensures.pool c.len.ensures.distinct
    c.in-Known-Known.left c.in-Known-Known.right c.eq.result c.in-Known-Known.is-0 c.in-Known-Known.is-1
    (λ e. (Decides-eqb c.in-Known-Known.left c.in-Known-Known.right).0 (sym c.eq.ensures ∙ e))
    (λ e s. true≢false (sym ((Decides-eqb c.in-Known-Known.left c.in-Known-Known.right).1 s) ∙ sym c.eq.ensures ∙ e))

pub returns-in-Known-Fun : goal.returns-in-Known-Fun
returns-in-Known-Fun c = IfOk-weaker c.take_known.result _ _ (λ found k.
    left_known c.args.pool.now c.args.equation.now c.args.terms.now.items c.args.todo.now.items c.requires.known c.requires.others c.requires.formed c.len.ensures.pool c.len.ensures.distinct
    c.in-Known-Fun.id c.in-Known-Fun.name c.as_slice.result.now c.in-Known-Fun.is-0 (c.in-Known-Fun.is-1 ∙ ap (pattern.Fun c.in-Known-Fun.name) (sym c.as_slice.ensures)) _ found k) c.take_known.ensures

pub returns-in-Fun-Known : goal.returns-in-Fun-Known
returns-in-Fun-Known c = IfOk-weaker c.take_known-in-Fun-Known.result _ _ (λ found k.
    right_known c.args.pool.now c.args.equation.now c.args.terms.now.items c.args.todo.now.items c.requires.known c.requires.others c.requires.formed c.len.ensures.pool c.len.ensures.distinct
    c.in-Fun-Known.id c.in-Fun-Known.name c.as_slice-in-Fun-Known.result.now c.in-Fun-Known.is-1 (c.in-Fun-Known.is-0 ∙ ap (pattern.Fun c.in-Fun-Known.name) (sym c.as_slice-in-Fun-Known.ensures)) _ found k) c.take_known-in-Fun-Known.ensures

pub returns-in-Fun-Fun : goal.returns-in-Fun-Fun
returns-in-Fun-Fun c = IfOk-weaker c.take_calls.result _ _ (λ found k.
    calls_taken c.args.pool.now c.args.equation.now c.args.terms.now.items c.args.todo.now.items c.requires.known c.requires.others c.requires.formed c.len.ensures.pool c.len.ensures.distinct
    c.in-Fun-Fun.name c.in-Fun-Fun.other c.as_slice-in-Fun-Fun.result.now c.as_slice-in-Fun-Fun-2.result.now
    (c.in-Fun-Fun.is-0 ∙ ap (pattern.Fun c.in-Fun-Fun.name) (sym c.as_slice-in-Fun-Fun.ensures))
    (c.in-Fun-Fun.is-1 ∙ ap (pattern.Fun c.in-Fun-Fun.other) (sym c.as_slice-in-Fun-Fun-2.ensures)) _ found k) c.take_calls.ensures
