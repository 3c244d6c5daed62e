use Rattle.std.proofs.Common.{refl, arith}
use Rattle.ground_noting.proofs.NotingLemmas.{body_noted}
use Rattle.ground_noting.proofs.naming.note_body.Goals as goal

pub make_below-requires-clause-within : goal.make_below-requires-clause-within
make_below-requires-clause-within g c =
    λ i k low at. let view = c.inst.view_is in c.requires.notable.in_order i c.args.inst k
    (omega (arith, low, view)) at c.args.told.now.atoms c.requires.next

pub returns-clause-noted : goal.returns-clause-noted
returns-clause-noted g c =
    body_noted c.args.ground.now c.args.told.now c.make_below.new.told c.inst.inside.0 c.args.inst _ _ _ _ c.requires.notable
    c.in_ok-make_below.ensures.ok (let view = c.inst.view_is in omega (arith, view)) c.requires.next
    c.make_below.ensures.noted refl c.in_ok-tell.ensures.ok
