use Rattle.std.proofs.Common.{◌≡◌, arith, subst, true, false}
use Rattle.ground_noting.specs.Drafts.{AddsOnce}
use Rattle.ground_noting.proofs.DraftLemmas.{kept_clash, kept_next, kept_all}
use Rattle.ground_noting.proofs.drafting.each_once.Goals as goal

pub returns-then-not-branch : goal.returns-then-not-branch
returns-then-not-branch c =
    let clashes : c.in_ok-add_once.field-0 ≡ false = c.if-not-branch.true in
    kept_clash c.args.lits.now c.loop-lit.kept.items c.add_once.new.kept.items c.loop-lit.lit-index c.lit-item.result
    (omega arith) c.lit-item.is c.loop-lit.invariant.1
    (subst (λ b. AddsOnce b c.loop-lit.kept.items c.lit-item.result c.add_once.new.kept.items) clashes c.in_ok-add_once.ensures.kept)

pub loop-lit-preserved : goal.loop-lit-preserved
loop-lit-preserved c =
    let fits : c.in_ok-add_once.field-0 ≡ true = c.if-not-branch.false in (
      c.in_ok-add_once.ensures.atoms,
      kept_next c.args.lits.now c.loop-lit.kept.items c.add_once.new.kept.items c.loop-lit.lit-index c.lit-item.result
          (omega arith) c.lit-item.is c.loop-lit.invariant.1
          (subst (λ b. AddsOnce b c.loop-lit.kept.items c.lit-item.result c.add_once.new.kept.items) fits c.in_ok-add_once.ensures.kept),
    )

pub returns : goal.returns
returns c = kept_all c.args.lits.now c.loop-lit.kept.items c.loop-lit.lit-index (omega arith) c.loop-lit.invariant.1
