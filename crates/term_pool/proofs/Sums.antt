-- A step of a sum over the parts of a node.
use Rattle.std.proofs.Common.{◌≡◌, ℕ, ◌+◌, ◌<◌, List, take, length, get_or, slice_get, sum_by, Some, sym, ap, ◌∙◌, arith}
use Rattle.std.proofs.lemmas.List.Sums.{sum_by_more}
use Rattle.std.proofs.lemmas.Option.{get_or_from_slice_get}
use Rattle.std.specs.Map.{values_of}
use Rattle.term_pool.specs.declared.measure.Measure.{Measure}
use Rattle.term_pool.specs.Table.{Entries, nothing, measure_at}

pub next : (f : ℕ → ℕ) (args : List ℕ) (k a x total after : ℕ) → k < length args → a ≡ get_or args k a → f a ≡ x
    → total ≡ sum_by f (take k args) → after ≡ total + x → after ≡ sum_by f (take (k + 1) args)
next f args k a x total after lt at is so e =
    let more : sum_by f (take (k + 1) args) ≡ sum_by f (take k args) + f (get_or args k a) = sum_by_more f args k a lt in
    let here : f (get_or args k a) ≡ x = ap f (sym at) ∙ is in
    omega (arith, more, here, so, e)

pub measure_there : (es : Entries) (a : ℕ) (m : Measure) → slice_get (values_of es) a ≡ Some m → measure_at es a ≡ m
measure_there es a m e = get_or_from_slice_get (values_of es) a m nothing e
