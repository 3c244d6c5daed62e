use Rattle.std.proofs.Common.{◌≡◌, ◌⊎◌, ◌↔◌, ◌<◌, ◌-◌, ◌+◌, ◌++◌, ℕ, List, length, get_or, slice_get, Some, subst, sym, ap, ◌∙◌, arith, vec_len}
use Rattle.std.proofs.lemmas.Option.{slice_get_read}
use Rattle.lists.specs.Lists.{◌∈◌}
use Rattle.asp_strata.proofs.Loops.{drop-read}
use Rattle.asp_strata.proofs.Searching.{IsSearch, search_begins, search_on, search_done, few_below, looked_at}
use Rattle.asp_strata.proofs.dependents.reach.Goals as goal

pub searching-init : goal.searching-init
searching-init c = search_begins c.args.rows.now.items c.args.roots c.requires.roots

pub index-requires : goal.index-requires
index-requires c =
    let lt : c.searching.next < length c.as_slice.result.now = let e = c.len.ensures in let t = c.searching-test.true in let same = ap length c.as_slice.ensures.places in omega (arith, e, t, same) in
    let inside = looked_at c.args.rows.now.items c.args.roots c.searching.found c.as_slice.result.now c.searching.next c.as_slice.ensures.places lt c.searching.invariant in
    let items = c.args.rows.now.ok.0 in
    omega (arith, inside, items)

pub searching-smaller : goal.searching-smaller
searching-smaller c =
    let rows = c.args.rows.now.items in
    let few = few_below c.searching.found (length rows) c.as_slice.ensures.once c.searching.invariant.within in
    let e = c.len.ensures in
    let t = c.searching-test.true in
    let smaller : length rows - (c.searching.next + 1) < length rows - c.searching.next = omega (arith, few, e, t) in
    smaller

pub searching-preserved : goal.searching-preserved
searching-preserved c =
    let rows = c.args.rows.now.items in
    let slice = c.as_slice.result.now in
    let next = c.searching.next in
    let more = c.add_all.new.self in
    let row = c.index.result.now in
    let place = get_or slice next 0 in
    let same : slice ≡ c.searching.found = c.as_slice.ensures.places in
    let lt : next < length slice = let e = c.len.ensures in let t = c.searching-test.true in let long = ap length same in omega (arith, e, t, long) in
    let s = subst (λ xs. IsSearch rows c.args.roots xs next) (sym same) c.searching.invariant in
    let inside : place < vec_len c.args.rows.now = let i = looked_at rows c.args.roots c.searching.found slice next same lt c.searching.invariant in let items = c.args.rows.now.ok.0 in omega (arith, i, items) in
    let here : slice_get rows place ≡ Some row = slice_get_read rows (vec_len c.args.rows.now) place row c.args.rows.now.ok.0 inside c.index.ensures in
    let grown = c.in_ok-add_all.ensures.grown in
    let members : (i : ℕ) → (i ∈ more) ↔ ((i ∈ slice) ⊎ (i ∈ row)) =
    subst (λ xs. (i : ℕ) → (i ∈ more) ↔ ((i ∈ xs) ⊎ (i ∈ row))) (sym same)
    (subst (λ (ys : List ℕ). (i : ℕ) → (i ∈ more) ↔ ((i ∈ c.searching.found) ⊎ (i ∈ ys))) c.as_slice-in-searching.ensures.places c.in_ok-add_all.ensures.members) in
    search_on rows c.args.roots slice more grown.0 row next place _ (drop-read slice next 0 lt) here (grown.1 ∙ ap (λ xs. xs ++ grown.0) (sym same)) members c.requires.rows s

pub returns : goal.returns
returns c = search_done c.args.rows.now.items c.args.roots c.searching.found c.searching.next (let e = c.len.ensures in let t = c.searching-test.false in omega (arith, e, t)) c.searching.invariant
