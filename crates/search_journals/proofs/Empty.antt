-- A search that has done nothing.
use Rattle.std.proofs.Common.{ℕ, List, [], refl, sym, ap, arith, append-nil}
use Rattle.std.specs.Prelude.{Option, Some, None}
use Rattle.std.specs.Io.KnownBytes.{Appends}
use Rattle.alpha_outside.specs.Outside as outside
use Rattle.alpha_outside.specs.declared.pred.Pred.{Pred}
use Rattle.core_rules.specs.declared.rules.Core.{Core}
use Rattle.search_state.specs.Searching.{fresh}
use Rattle.search_journals.specs.Journals.{Adds, Tells}
use Rattle.search_journals.specs.Standing.{Given, Stands}

-- nothing was written
pub nothing_written : (held : Option (List ℕ)) → Appends held held []
nothing_written None = tt
nothing_written (Some xs) = sym (append-nil xs)

-- nothing was told
pub nothing_added : (told : Option outside.Journal) → Adds told told []
nothing_added None = refl
nothing_added (Some j) = ap (λ z. let k : outside.Journal = record j { events = z } in Some k) (sym (append-nil j.events))

-- the empty journal says so
pub nothing_told : (core : Core) (told : Option outside.Journal) → Tells core told told []
nothing_told core told = ([], nothing_added told, refl)

-- it stands where no event has come
pub stands_fresh : (g : Given) (preds : List Pred) → Stands g (fresh g.core preds g.instances) g.told g.held g.limit g.conflicts
stands_fresh g preds = (
  [],
  record {
    legal = tt;
    far = tt;
    is = refl;
    tells = nothing_told g.core g.told;
    hands = record { lines = []; are = tt; bytes = nothing_written g.held };
    sets_left = omega arith;
    strikes_left = omega arith;
    instances_left = omega arith;
  },
)
