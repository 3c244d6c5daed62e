-- What came of a task where the trace's count of faults stood lower before.
use Rattle.std.proofs.Common.{ℕ, ◌≤◌, ◌⊎◌, inl, inr, List, Option}
use Rattle.alpha_outside.specs.Outside.{Journal}
use Rattle.search_journals.specs.Search.{SinkChange, TraceChange, Journaled}
use Rattle.alpha.specs.Journals.{Task, core_for}
use Rattle.alpha.specs.Outcomes.{WroteAll, Wrote, WroteOneMore, WroteFewer, WroteFront, Searched, ended, cut_off, untraced, memory, cut_off_memory}
use Rattle.alpha.specs.declared.status.Status.{Status}
use Rattle.alpha.proofs.SolveLemmas.{rose_later}

module _ (k : Task) (sink : SinkChange) (told told' : Option Journal) (before between after : ℕ) where
  -- the trace from where its count stood higher
  abbrev late : TraceChange
  late = record { told = told; told' = told'; faults = between; faults' = after }

  -- and from where it stood lower
  abbrev early : TraceChange
  early = record { told = told; told' = told'; faults = before; faults' = after }

  abbrev journaled_from : (lines : List (List ℕ)) → Journaled (core_for k.program) k.listed late lines
      → Journaled (core_for k.program) k.listed early lines
  journaled_from lines j = record { journal = j.journal; legal = j.legal; tells = j.tells; shown = j.shown }

  all_from : (s : Status) → WroteAll k sink late s → WroteAll k sink early s
  all_from s w = record { lines = w.lines; bytes = w.bytes; sets = w.sets; journaled = journaled_from w.lines w.journaled; ends = w.ends }

  abbrev wrote_from : Wrote k sink late → Wrote k sink early
  wrote_from w = record { lines = w.lines; bytes = w.bytes; sets = w.sets; journaled = journaled_from w.lines w.journaled }

  abbrev one_more_from : WroteOneMore k sink late → WroteOneMore k sink early
  one_more_from w =
      record { lines = w.lines; next = w.next; bytes = w.bytes; sets = w.sets; journaled = journaled_from w.lines w.journaled }

  front_from : WroteFront k sink late → WroteFront k sink early
  front_from w = record {
    lines = w.lines;
    next = w.next;
    cut = w.cut;
    bytes = w.bytes;
    sets = w.sets;
    journaled = journaled_from w.lines w.journaled;
    next_is = w.next_is;
  }

  fewer_from : WroteFewer k sink late → WroteFewer k sink early
  fewer_from (inl w) = inl (wrote_from w.0, w.1)
  fewer_from (inr w) = inr (one_more_from w.0, w.1)

  some_from : Wrote k sink late ⊎ WroteOneMore k sink late → Wrote k sink early ⊎ WroteOneMore k sink early
  some_from (inl w) = inl (wrote_from w)
  some_from (inr w) = inr (one_more_from w)

  pub searched_from : before ≤ between → (s : Status) → Searched k sink late s → Searched k sink early s
  searched_from later s (ended w) = ended (all_from s w)
  searched_from later s (cut_off rose w) = cut_off rose (front_from w)
  searched_from later s (untraced rose w) = untraced (rose_later before between after later rose) (fewer_from w)
  searched_from later s (memory w) = memory (some_from w)
  searched_from later s (cut_off_memory rose w) = cut_off_memory rose (front_from w)
