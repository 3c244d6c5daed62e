use Rattle.std.proofs.Common.{rules, ◌≡◌, ◌<◌, ◌∙◌, ℕ, refl, sym, ap, subst, arith, to_z, of_z, w64, FitsSigned}
use Rattle.std.proofs.lemmas.Int.{to_z-of_z}
use Rattle.std.proofs.lemmas.Result.{IfOk-weaker}
use Rattle.lists.specs.Lists.{◌∈◌}
use Rattle.alpha_outside.specs.declared.pattern.PatternTerm.TheVariants as pattern
use Rattle.core_rules.specs.declared.rules.CoreTerm.TheVariants as term
use Rattle.asp_meaning.specs.declared.value.Value.TheVariants as value
use Rattle.unification.specs.Unifiers.{integer, variable, symbol, text, call, minus, operation}
use Rattle.unification.specs.Opening.{IsOpened}
use Rattle.term_eval.proofs.Sizes.{term_size, arg_smaller}
use Rattle.lists.proofs.Places.{∈-get_or}
use Rattle.term_eval.proofs.Arguments.{arg_named, has_arguments}
use Rattle.unification.proofs.Openings.{may-Int, may-Symbol, may-Text, opened_leaf, opened_Var, opened_Fun, opened_new, opening_next, opening_all, name_allowed, argument_low}
use Rattle.unification.proofs.opening.+opened.Goals as goal

pub opened-requires : goal.opened-requires
opened-requires t c =
    let items = c.as_slice-arg-items.result.now in
    let is : c.args.term.now ≡ term.Fun c.in-Fun.name items = c.in-Fun.is ∙ ap (term.Fun c.in-Fun.name) (sym c.as_slice-arg-items.ensures) in
    let among : c.arg-item.result ∈ items = ∈-get_or items c.loop-arg.arg-index c.arg-item.result c.loop-arg-test.true c.arg-item.is in
    let smaller : term_size c.arg-item.result < term_size c.args.term.now = arg_smaller c.args.term.now c.in-Fun.name items c.arg-item.result is among in
    let later = c.loop-arg.invariant.later in (
      search rules,
      (
        arg_named c.args.term.now c.in-Fun.name items c.arg-item.result is among c.requires.named,
        λ v inside. let low : v < c.args.next.now = argument_low c.args.next.now c.args.term.now c.in-Fun.name items c.arg-item.result is among c.requires.below v inside in omega (arith, low, later),
      ),
    )

pub loop-arg-preserved : goal.loop-arg-preserved
loop-arg-preserved t c =
    let items = c.as_slice-arg-items.result.now in
    let is : c.args.term.now ≡ term.Fun c.in-Fun.name items = c.in-Fun.is ∙ ap (term.Fun c.in-Fun.name) (sym c.as_slice-arg-items.ensures) in
    opening_next c.args.pool.now c.loop-arg.pool c.opened.new.pool c.args.next.now c.loop-arg.next c.opened.new.next items c.loop-arg.parts c.push.new.self c.loop-arg.arg-index c.arg-item.result c.in_ok-opened-in-Fun.field-0
    c.loop-arg.invariant (λ u k. argument_low c.args.next.now c.args.term.now c.in-Fun.name items u is k c.requires.below) c.loop-arg-test.true c.arg-item.is
    c.in_ok-opened-in-Fun.ensures.grows c.in_ok-opened-in-Fun.ensures.kept c.in_ok-opened-in-Fun.ensures.pool c.in_ok-opened-in-Fun.ensures.later c.in_ok-opened-in-Fun.ensures.opened
    c.in_ok-push-in-Fun.ensures.ok

pub returns-in-Int-clause-opened : goal.returns-in-Int-clause-opened
returns-in-Int-clause-opened t c =
    let fits : FitsSigned w64 c.in-Int.number = search rules in
    let same : to_z w64 (of_z w64 c.in-Int.number) ≡ c.in-Int.number = to_z-of_z w64 c.in-Int.number fits in
    IfOk-weaker c.leaf.result _ _ (λ p found.
    opened_leaf c.leaf.new.pool c.args.next.now c.args.term.now p (value.Int c.in-Int.number) (found.0, found.1, found.2, found.3 ∙ ap value.Int same)
    (λ q. integer c.args.term.now (value.Int c.in-Int.number) c.in-Int.number c.in-Int.is refl)
    (λ q v m. may-Int q c.args.term.now v c.in-Int.number c.in-Int.is m)) c.leaf.ensures.term

pub returns-in-Var-clause-opened : goal.returns-in-Var-clause-opened
returns-in-Var-clause-opened t c = opened_Var c.args.pool.now c.args.next.now c.args.term.now c.in-Var.v c.in-Var.is c.requires.below

pub returns-in_ok-copy-in-Symbol-clause-opened : goal.returns-in_ok-copy-in-Symbol-clause-opened
returns-in_ok-copy-in-Symbol-clause-opened t c = IfOk-weaker c.leaf-in-Symbol.result _ _ (λ p found.
    opened_leaf c.leaf-in-Symbol.new.pool c.args.next.now c.args.term.now p (value.Symbol c.in-Symbol.name) (found.0, found.1, found.2, found.3 ∙ ap value.Symbol c.in_ok-copy-in-Symbol.ensures)
    (λ q. symbol c.args.term.now (value.Symbol c.in-Symbol.name) c.in-Symbol.name c.in-Symbol.is refl)
    (λ q v m. may-Symbol q c.args.term.now v c.in-Symbol.name c.in-Symbol.is m)) c.leaf-in-Symbol.ensures.term

pub returns-in_ok-copy-in-Text-clause-opened : goal.returns-in_ok-copy-in-Text-clause-opened
returns-in_ok-copy-in-Text-clause-opened t c = IfOk-weaker c.leaf-in-Text.result _ _ (λ p found.
    opened_leaf c.leaf-in-Text.new.pool c.args.next.now c.args.term.now p (value.Text c.in-Text.inside) (found.0, found.1, found.2, found.3 ∙ ap value.Text c.in_ok-copy-in-Text.ensures)
    (λ q. text c.args.term.now (value.Text c.in-Text.inside) c.in-Text.inside c.in-Text.is refl)
    (λ q v m. may-Text q c.args.term.now v c.in-Text.inside c.in-Text.is m)) c.leaf-in-Text.ensures.term

pub returns-in_ok-copy-in-Fun-clause-opened : goal.returns-in_ok-copy-in-Fun-clause-opened
returns-in_ok-copy-in-Fun-clause-opened t c =
    let items = c.as_slice-arg-items.result.now in
    let is : c.args.term.now ≡ term.Fun c.in-Fun.name items = c.in-Fun.is ∙ ap (term.Fun c.in-Fun.name) (sym c.as_slice-arg-items.ensures) in
    subst (λ f. IsOpened c.loop-arg.pool c.args.next.now c.loop-arg.next c.args.term.now (pattern.Fun f c.loop-arg.parts)) (sym c.in_ok-copy-in-Fun.ensures)
    (opened_Fun c.loop-arg.pool c.args.next.now c.loop-arg.next c.args.term.now c.in-Fun.name items c.loop-arg.parts is (has_arguments c.args.term.now c.in-Fun.name items is c.requires.named)
    (name_allowed c.args.term.now c.in-Fun.name items is c.requires.named) c.loop-arg.invariant.later
    (opening_all c.args.pool.now c.loop-arg.pool c.args.next.now c.loop-arg.next items c.loop-arg.parts c.loop-arg.arg-index c.loop-arg.invariant c.loop-arg-test.false))

pub returns-in-Minus-clause-opened : goal.returns-in-Minus-clause-opened
returns-in-Minus-clause-opened t c = IfOk-weaker c.new_hole.result _ _ (λ p is.
    opened_new c.args.pool.now c.args.next.now c.new_hole.new.next c.args.term.now p is (λ q v. minus c.args.term.now v c.in-Minus.field-0 c.in-Minus.is)) c.new_hole.ensures.hole

pub returns-in-Arith-clause-opened : goal.returns-in-Arith-clause-opened
returns-in-Arith-clause-opened t c = IfOk-weaker c.new_hole-in-Arith.result _ _ (λ p is.
    opened_new c.args.pool.now c.args.next.now c.new_hole-in-Arith.new.next c.args.term.now p is
    (λ q v. operation c.args.term.now v c.in-Arith.field-0 c.in-Arith.field-1 c.in-Arith.field-2 c.in-Arith.is)) c.new_hole-in-Arith.ensures.hole
