use Rattle.std.proofs.Common.{◌≡◌, ◌∙◌, sym, ap}
use Rattle.asp_strata.proofs.Loops.{if_ok}
use Rattle.rewriting.specs.Numbering.{place}
use Rattle.aggregate_rewrite.proofs.TableLemmas.{place_found, place_missed}
use Rattle.aggregate_rewrite.proofs.table.Table.number_of.Goals as goal

pub returns-in-Some : goal.returns-in-Some
returns-in-Some c =
    let found : c.in-Some.place ≡ place c.args.self.now c.args.variable.now =
    place_found c.args.variable.now c.self.inside.variables.keys c.in-Some.place (sym c.get_index_of.ensures.index ∙ c.in-Some.is) ∙ ap (λ table. place table c.args.variable.now) c.self.view_is in
    if_ok c.number.result _ _ (λ n h. h ∙ found) c.number.ensures

pub returns-in-None : goal.returns-in-None
returns-in-None c =
    let missed : c.len.result ≡ place c.args.self.now c.args.variable.now =
    c.len.ensures.len ∙ place_missed c.args.variable.now c.self.inside.variables.keys (sym c.get_index_of.ensures.index ∙ c.in-None.is) ∙ ap (λ table. place table c.args.variable.now) c.self.view_is in
    if_ok c.number-in-None.result _ _ (λ n h. h ∙ missed) c.number-in-None.ensures
