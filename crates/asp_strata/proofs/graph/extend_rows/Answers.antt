use Rattle.std.proofs.Common.{◌⊎◌, subst, sym, ◌∙◌, ◌<◌, get_or}
use Rattle.std.proofs.Math.ListN.{drop_of_length-le}
use Rattle.lists.specs.Lists.{◌∈◌}
use Rattle.asp_strata.specs.Graphs.{Leads}
use Rattle.asp_strata.proofs.Loops.{drop-read, passed, stands}
use Rattle.asp_strata.proofs.GraphLemmas.{turn, turned, needed_split}
use Rattle.asp_strata.proofs.graph.extend_rows.Goals as goal

pub extend_row-requires : goal.extend_row-requires
extend_row-requires c =
    let needed = c.args.needed.now in
    let at = drop-read needed c.loop-place.place-index 0 c.loop-place-test.true in
    subst (λ n. get_or needed c.loop-place.place-index 0 < n) (sym c.loop-place.invariant.count) (c.requires _ (stands needed _ _ _ at c.loop-place.invariant.inside))

pub loop-place-preserved : goal.loop-place-preserved
loop-place-preserved c =
    let needed = c.args.needed.now in
    let heads = c.args.heads.now in
    let at = drop-read needed c.loop-place.place-index 0 c.loop-place-test.true in
    record {
      rows = turn (Leads c.loop-place.rows.items) (Leads c.extend_row.new.rows.items) _ _ _ (λ j i. Leads c.args.rows.now.items j i ⊎ ((j ∈ needed) × (i ∈ heads)))
          c.in_ok-extend_row.ensures.rows (needed_split _ _ heads _ at) c.loop-place.invariant.rows;
      count = c.in_ok-extend_row.ensures.count ∙ c.loop-place.invariant.count;
      inside = passed needed _ _ _ at c.loop-place.invariant.inside;
    }

pub returns-clause-rows : goal.returns-clause-rows
returns-clause-rows c =
    let needed = c.args.needed.now in
    let heads = c.args.heads.now in
    let over = drop_of_length-le needed c.loop-place-test.false in
    turned (Leads c.loop-place.rows.items) _ (λ j i. Leads c.args.rows.now.items j i ⊎ ((j ∈ needed) × (i ∈ heads)))
    (λ j i. λ (k, h). subst (λ xs. j ∈ xs) over k) c.loop-place.invariant.rows
