use Rattle.std.proofs.Common.{◌≡◌, ℕ, List, length, reverse, sym, ap, subst, refl, ◌∙◌, arith}
use Rattle.std.specs.Prelude.{slice_get, Some}
use Rattle.std.proofs.lemmas.List.{length-reverse}
use Rattle.std.proofs.lemmas.Option.{slice_get_read}
use Rattle.lists.specs.Lists.{◌∈◌}
use Rattle.alpha_outside.specs.declared.literal.Lit.{Lit}
use Rattle.search_values.specs.declared.entry.Entry.{Entry}
use Rattle.nogood_store.specs.Watched.{Watching, watch_count}
use Rattle.propagation.proofs.Taking.{if_ok}
use Rattle.propagation.proofs.fixpoint.watchers_at.Goals as goal

pub returns-clause-ok : goal.returns-clause-ok
returns-clause-ok c = if_ok c.copied.result (λ v. v.items ≡ c.watchers.result.now) (λ v. v.items ≡ c.watchers.result.now) _ c.copied.ensures.ok c.copied.ensures.ok (λ v p q. (
  c.index-entries-place.result,
  at,
  (λ n. (
    (λ i. subst (λ (l : Lit). Watching c.args.store.now l n) c.literal.ensures ((c.watchers.ensures.exact n).0 (subst (λ (ns : List ℕ). n ∈ ns) p i))),
    (λ w. subst (λ (ns : List ℕ). n ∈ ns) (sym p) ((c.watchers.ensures.exact n).1 (subst (λ (l : Lit). Watching c.args.store.now l n) (sym c.literal.ensures) w))),
  )),
  ap length p ∙ c.watchers.ensures.count ∙ ap (watch_count c.args.store.now) c.literal.ensures,
))
  where
    at : slice_get (reverse c.args.trail.now.stack) c.args.place ≡ Some c.index-entries-place.result
    at = subst (λ (s : List Entry). slice_get s c.args.place ≡ Some c.index-entries-place.result) c.entries.ensures.value
        (slice_get_read c.entries.result.now (length c.entries.result.now) c.args.place c.index-entries-place.result refl
        (let r = c.requires in let l = ap length c.entries.ensures.value in omega (arith, r, l, length-reverse c.args.trail.now.stack)) c.index-entries-place.is)
