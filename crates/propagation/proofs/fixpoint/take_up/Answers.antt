use Rattle.std.proofs.Common.{◌≡◌, ◌∙◌, ℕ, List, refl, sym, subst}
use Rattle.std.specs.Prelude.{Some}
use Rattle.lists.specs.Lists.{◌∈◌}
use Rattle.search_values.specs.declared.entry.Entry.{Entry}
use Rattle.nogood_store.specs.Watched.{Watching}
use Rattle.nogood_store.proofs.Matched.{there_below}
use Rattle.propagation.specs.Runs.{literal_of}
use Rattle.propagation.proofs.Running.{fault_none}
use Rattle.propagation.proofs.Taking.{if_ok, taken_suffices}
use Rattle.propagation.proofs.fixpoint.take_up.Goals as goal

pub visit_all-requires-clause-there : goal.visit_all-requires-clause-there
visit_all-requires-clause-there g c n i =
    let w = (c.in-Ok.ensures.ok.2 n).0 (subst (λ (ns : List ℕ). n ∈ ns) c.as_slice.ensures.value i) in there_below c.args.store.now n w.0 w.1

pub returns-in-Ok-clause-suffice : goal.returns-in-Ok-clause-suffice
returns-in-Ok-clause-suffice g c = if_ok c.visit_all.result _ _ _ c.visit_all.ensures.ran c.visit_all.ensures.suffice (λ found r s e.
    taken_suffices c.args.trail.now.atoms c.args.trail.now.stack c.visit_all.new.trail.stack _ r.events c.args.place c.in-Ok.ensures.ok.0 c.as_slice.result.now c.args.store.now c.visit_all.new.store
    c.entries.ensures.is_stack r.puts c.in-Ok.ensures.ok.1 c.requires.within c.requires.suffice (s e) c.visit_all.ensures.others
    (λ n w. subst (λ (ns : List ℕ). n ∈ ns) (sym c.as_slice.ensures.value) ((c.in-Ok.ensures.ok.2 n).1 w)))

pub returns-in-Ok-clause-others : goal.returns-in-Ok-clause-others
returns-in-Ok-clause-others g c e at n other =
    let q : Some c.in-Ok.ensures.ok.0 ≡ Some e = sym c.in-Ok.ensures.ok.1 ∙ at in
    let same : c.in-Ok.ensures.ok.0 ≡ e = cc in
    c.visit_all.ensures.others n (λ i. other (subst (λ (x : Entry). Watching c.args.store.now (literal_of x) n) same ((c.in-Ok.ensures.ok.2 n).0 (subst (λ (ns : List ℕ). n ∈ ns) c.as_slice.ensures.value i))))

pub returns-in-Err-clause-err : goal.returns-in-Err-clause-err
returns-in-Err-clause-err g c = fault_none c.args.store.now c.args.store.now c.args.trail.now _ refl c.requires.matches
