use Rattle.std.proofs.Common.{refl, ap, arith}
use Rattle.ground_noting.specs.declared.telling.Told.{Told}
use Rattle.ground_noting.proofs.NotingLemmas.{noted_none, noted_on}
use Rattle.ground_noting.proofs.Loops.{terms_alone}
use Rattle.ground_noting.proofs.naming.note_terms.Goals as goal

pub loop-told-init : goal.loop-told-init
loop-told-init g c = (noted_none c.args.ground.now c.args.told.now _ _ refl, omega arith, refl, c.requires)

pub loop-told-preserved : goal.loop-told-preserved
loop-told-preserved g c =
    let next = ap (λ (t : Told). t.terms) c.in_ok-note_term.ensures.ok in
    let test = c.loop-told-test.true in
    let many = c.len.ensures.len in
    let before = c.loop-told.invariant.1 in
    let after = c.in_ok-note_term.ensures.later in (
      noted_on c.args.ground.now c.args.told.now c.loop-told.told c.note_term.new.told _ _ _ c.loop-told.invariant.0
          c.in_ok-note_term.ensures.noted,
      omega (arith, before, after),
      terms_alone c.args.told.now c.loop-told.told c.note_term.new.told c.loop-told.invariant.2 c.in_ok-note_term.ensures.ok,
      omega (arith, next, test, many),
    )

pub returns-in_err-note_term-clause-noted : goal.returns-in_err-note_term-clause-noted
returns-in_err-note_term-clause-noted g c =
    noted_on c.args.ground.now c.args.told.now c.loop-told.told c.note_term.new.told _ _ _ c.loop-told.invariant.0 c.note_term.ensures.noted
