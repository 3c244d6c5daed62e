use Rattle.std.proofs.Common.{OnOk, subst, sym}
use Rattle.asp_strata.specs.Graphs.{Adds}
use Rattle.asp_strata.proofs.TableLemmas.{adds}
use Rattle.asp_strata.proofs.place_set.PlaceSet.add.Goals as goal
use Rattle.asp_strata.proofs.place_set.PlaceSet.add.Goals.{in-Ok, in-Err}

pub returns : goal.returns
returns c = elim c.match-insert.branch [
  | in-Ok w ↦ subst (λ r. OnOk r (Adds c.args.self.now c.insert.new.self.keys c.args.place)) (sym w.result-is)
      (adds c.args.self.now c.insert.new.self.keys c.self.inside.places.keys c.args.place c.self.view_is w.in-Ok.ensures.keys)
  | in-Err w ↦ subst (λ r. OnOk r (Adds c.args.self.now c.insert.new.self.keys c.args.place)) (sym w.result-is) tt
]
