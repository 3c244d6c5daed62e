use Rattle.std.proofs.Common.{◌≡◌, ◌<◌, ◌≤◌, length, drop, reverse, sym, subst}
use Rattle.std.specs.Prelude.{Some}
use Rattle.lists.specs.Lists.{Each}
use Rattle.search_values.specs.declared.entry.Entry.{Entry}
use Rattle.search_values.specs.Values.{MustBe, value_of}
use Rattle.propagation.specs.Runs.{FixIs}
use Rattle.closing.specs.Closable.{IsNamed}
use Rattle.closing.proofs.RoundLemmas.{below_more, prop_within, prop_there, prop_none}
use Rattle.closing.proofs.rounds.settle.Goals as goal

pub propagate-requires-clause-below : goal.propagate-requires-clause-below
propagate-requires-clause-below g c = below_more (length c.args.ground.now.atoms.atoms) c.args.trail.now.atoms c.args.store.now c.requires.places c.requires.below

pub stuck_since-requires-clause-within : goal.stuck_since-requires-clause-within
stuck_since-requires-clause-within g c = subst (λ k. k ≤ length c.propagate.new.trail.stack) (sym c.kept-from.ensures.value)
    (prop_within c.args.ground.now c.args.store.now c.propagate.new.store c.args.trail.now c.propagate.new.trail (g.T.Trace.journal c.args.trace.now) (g.T.Trace.journal c.propagate.new.trace)
    c.in-Ok.ensures.values c.requires.below (subst (λ k. k ≤ length c.args.trail.now.stack) c.kept-from.ensures.value c.kept-from.ensures.within))

pub stuck_since-requires-clause-there : goal.stuck_since-requires-clause-there
stuck_since-requires-clause-there g c = subst (λ k. Each (λ (e : Entry). e.atom < length c.args.ground.now.atoms.atoms) (drop k (reverse c.propagate.new.trail.stack))) (sym c.kept-from.ensures.value)
    (prop_there c.args.ground.now c.args.store.now c.propagate.new.store c.args.trail.now c.propagate.new.trail (g.T.Trace.journal c.args.trace.now) (g.T.Trace.journal c.propagate.new.trace)
    c.in-Ok.ensures.values c.requires.below (subst (λ k. k ≤ length c.args.trail.now.stack) c.kept-from.ensures.value c.kept-from.ensures.within) c.requires.taken)

pub returns-in-None-clause-settled : goal.returns-in-None-clause-settled
returns-in-None-clause-settled g c = (
  subst (FixIs c.propagate.new.store c.propagate.new.trail) c.in-Quiet.is c.in-Ok.ensures.fix,
  prop_none c.args.ground.now c.args.store.now c.propagate.new.store c.args.trail.now c.propagate.new.trail (g.T.Trace.journal c.args.trace.now) (g.T.Trace.journal c.propagate.new.trace)
      c.in-Ok.ensures.values c.requires.below (subst (λ k. k ≤ length c.args.trail.now.stack) c.kept-from.ensures.value c.kept-from.ensures.within) c.requires.none_must_be
      (subst (λ k. Each (λ (e : Entry). IsNamed c.args.ground.now e.atom → ¬ (value_of c.propagate.new.trail.stack e.atom ≡ Some MustBe)) (drop k (reverse c.propagate.new.trail.stack)))
      c.kept-from.ensures.value c.in-None.ensures.none),
)
