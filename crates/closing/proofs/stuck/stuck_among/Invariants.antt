use Rattle.std.proofs.Common.{◌≡◌, take}
use Rattle.std.specs.Prelude.{Some}
use Rattle.lists.specs.Lists.{Each}
use Rattle.search_values.specs.declared.entry.Entry.{Entry}
use Rattle.search_values.specs.Values.{MustBe, value_of}
use Rattle.closing.specs.Closable.{IsNamed}
use Rattle.closing.proofs.stuck.stuck_among.Given as goal

abbrev pub invariant-loop-entry : goal.invariant-loop-entry
invariant-loop-entry l = Each (λ (e : Entry). IsNamed l.ground e.atom → ¬ (value_of l.trail.stack e.atom ≡ Some MustBe)) (take l.entry-index l.entries)
