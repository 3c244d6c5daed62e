-- What contracts see of a search, after a step.
use Rattle.std.proofs.Common.{◌≡◌, ℕ, Bool, List, map, ◌∙◌, ap, sym}
use Rattle.std.specs.Prelude.{Some, slice_get}
use Rattle.std.specs.Option.{option_map}
use Rattle.std.proofs.lemmas.Option.{slice_get-map}
use Rattle.search_values.specs.Values.{all_at_0}
use Rattle.journal_theory.specs.Events.{lits_at, lits_in, phase_struck}
use Rattle.nogood_store.specs.Stored as nogoods
use Rattle.nogood_store.specs.Stored.{Stored}
use Rattle.search_state.specs.Searching.{Searching, phase_of}
use Rattle.search_state.specs.declared.search.Stage.{Stage}

-- the literals of a stored nogood
pub view_lits : (v : Searching) (store : List Stored) → v.nogoods ≡ map nogoods.nogood_of store → (n : ℕ) (s : Stored)
    → slice_get store n ≡ Some s → lits_at v.nogoods n ≡ s.lits
view_lits v store is n s g = ap (λ ngs. lits_at ngs n) is
    ∙ ap lits_in (slice_get-map nogoods.nogood_of store n ∙ ap (option_map nogoods.nogood_of) g)

-- a nogood was struck
pub view_struck : (v : Searching) (store : List Stored) → v.nogoods ≡ map nogoods.nogood_of store → (stage : Stage) (n : ℕ) (s : Stored)
    (root : Bool) → slice_get store n ≡ Some s → root ≡ all_at_0 v.stack s.lits → phase_of stage ≡ phase_struck n root
    → phase_of stage ≡ phase_struck n (all_at_0 v.stack (lits_at v.nogoods n))
view_struck v store is stage n s root g r p = p ∙ ap (phase_struck n) (r ∙ ap (all_at_0 v.stack) (sym (view_lits v store is n s g)))
