use Rattle.std.proofs.Common.{◌≡◌, sym, ◌∙◌, arith}
use Rattle.std.specs.Prelude.{Some}
use Rattle.conflict_learning.proofs.Calls.{read_place}
use Rattle.conflict_learning.proofs.places.place_of.Goals as goal

pub returns-in-Some-clause-low : goal.returns-in-Some-clause-low
returns-in-Some-clause-low c =
    let r = read_place c.args.trail.now.stack c.args.places.now.items c.requires.places c.args.atom c.requires.placed c.place.result
    c.index.result.now c.place.ensures c.index.ensures in
    let same : Some c.in-Some.place ≡ Some r.0 = sym c.in-Some.is ∙ r.1 in
    let place : c.in-Some.place ≡ r.0 = cc in
    let low = r.4 in
    omega (arith, place, low)
