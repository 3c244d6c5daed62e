-- What the objects in memory hold, and what their calls do.
use Rattle.std.specs.Prelude.{◌≡◌, ◌⊎◌, ℕ, ◌+◌, ◌<◌, ◌≤◌, ◌==◌, ◌++◌, min, Bool, true, false, List, take, length, Option, Some, None, Result, Ok, Err, if◌then◌else◌}
use Rattle.std.specs.List.{list_any}
use Rattle.std.specs.Str.{bytes_eq}
use Rattle.std.specs.declared.alloc.Global.{Global}
use Rattle.std.specs.declared.vec.Vec.{Vec}
use Rattle.alpha_outside.specs.declared.stops.ReadStop.{ReadStop}
use Rattle.alpha_outside.specs.declared.stops.ReadStop.TheVariants as stop
use Rattle.alpha_outside.specs.declared.stops.SinkStop.{SinkStop}
use Rattle.alpha_outside.specs.declared.stops.SinkStop.TheVariants as sink
use Rattle.alpha_outside.specs.declared.stops.TraceStop.{TraceStop}
use Rattle.alpha_outside.specs.declared.stops.TraceStop.TheVariants as trace
use Rattle.alpha_outside.specs.declared.in_memory.Calls.{Calls}
use Rattle.alpha_outside.specs.declared.in_memory.MemShelf.{MemShelf}
use Rattle.alpha_outside.specs.declared.in_memory.MemSink.{MemSink}
use Rattle.alpha_outside.specs.declared.in_memory.MemTrace.{MemTrace}
use Rattle.alpha_outside.specs.Files.{last_file}
use Rattle.alpha_outside.specs.Outside.{Journal}

-- ---- the calls of an object, which are numbered from 0

-- whether the number of the next call is one of those that fail
abbrev pub fails_next : Calls → Bool
fails_next c = list_any (λ n. n == c.next) c.fails

-- a count of 64 bits, which stays at its end
abbrev pub counted : ℕ → ℕ
counted n = min (n + 1) 18446744073709551615

-- one call was numbered, and counted as a fault where it failed
pub record IsNumbered (old new : Calls) (failed : Bool) : Type 0 where
  pub fails : new.fails ≡ old.fails
  pub next : new.next ≡ counted old.next
  pub faults : new.faults ≡ (if failed then counted old.faults else old.faults)

-- ---- files

-- the file of a name, where it was put in
abbrev pub shelf_files : MemShelf → List ℕ → Option (List ℕ)
shelf_files s name = last_file s.files name None

-- files, with one put in, in place of one of the same name
abbrev pub put_file : List ℕ → List ℕ → (List ℕ → Option (List ℕ)) → List ℕ → Option (List ℕ)
put_file name bytes files n = if bytes_eq name n then Some bytes else files n

-- the numbers of the calls that fail, and that of the next call
abbrev pub shelf_fails : MemShelf → List ℕ × ℕ
shelf_fails s = (s.calls.fails, s.calls.next)

abbrev pub read_failed : {A : Type 0} → Result A ReadStop → Bool
read_failed (Ok _) = false
read_failed (Err stop.Failed) = true
read_failed (Err stop.TooLong) = false
read_failed (Err stop.OutOfMemory) = false

-- a call fails exactly where its number is one of those that fail, or the file isn't there
abbrev pub MemReadAnswer : List ℕ → ℕ → MemShelf → MemShelf → Result (Vec ℕ Global) ReadStop → Type 0
MemReadAnswer name at_most old new (Ok bytes) =
    (fails_next old.calls ≡ false) × (shelf_files old name ≡ Some bytes.items) × (length bytes.items ≤ at_most)
MemReadAnswer name at_most old new (Err stop.Failed) = (fails_next old.calls ≡ true) ⊎ (shelf_files old name ≡ None)
MemReadAnswer name at_most old new (Err stop.TooLong) =
    (fails_next old.calls ≡ false) × ((bytes : List ℕ) × (shelf_files old name ≡ Some bytes) × (at_most < length bytes))
MemReadAnswer name at_most old new (Err stop.OutOfMemory) =
    (fails_next old.calls ≡ false) × ((bytes : List ℕ) × (shelf_files old name ≡ Some bytes))

pub record MemReads (name : List ℕ) (at_most : ℕ) (old new : MemShelf) (result : Result (Vec ℕ Global) ReadStop) : Type 0 where
  pub files : new.files ≡ old.files
  pub numbered : IsNumbered old.calls new.calls (read_failed result)
  pub answer : MemReadAnswer name at_most old new result

-- ---- bytes

abbrev pub sink_bytes : MemSink → List ℕ
sink_bytes s = s.held.items

-- the numbers of the calls that fail, that of the next call, and how much of a piece a failing call takes
abbrev pub sink_fails : MemSink → List ℕ × ℕ × ℕ
sink_fails s = (s.calls.fails, s.calls.next, s.cut)

abbrev pub write_failed : Result (Unit {0}) SinkStop → Bool
write_failed (Ok _) = false
write_failed (Err sink.Failed) = true
write_failed (Err sink.OutOfMemory) = false

-- a call fails exactly where its number is one of those that fail: then the first `cut` bytes of the piece were appended
abbrev pub MemWriteAnswer : List ℕ → MemSink → MemSink → Result (Unit {0}) SinkStop → Type 0
MemWriteAnswer piece old new (Ok _) = (fails_next old.calls ≡ false) × (sink_bytes new ≡ sink_bytes old ++ piece)
MemWriteAnswer piece old new (Err sink.Failed) = (fails_next old.calls ≡ true) × (sink_bytes new ≡ sink_bytes old ++ take old.cut piece)
MemWriteAnswer piece old new (Err sink.OutOfMemory) = sink_bytes new ≡ sink_bytes old

-- a write of a piece that isn't empty
pub record MemWrites (piece : List ℕ) (old new : MemSink) (result : Result (Unit {0}) SinkStop) : Type 0 where
  pub cut : new.cut ≡ old.cut
  pub numbered : IsNumbered old.calls new.calls (write_failed result)
  pub answer : MemWriteAnswer piece old new result

-- ---- events

-- the events, and the name that was given last
abbrev pub trace_journal : MemTrace → Journal
trace_journal t = record { events = t.events; name = t.name }

-- the numbers of the calls that fail, and that of the next call
abbrev pub trace_fails : MemTrace → List ℕ × ℕ
trace_fails t = (t.calls.fails, t.calls.next)

abbrev pub step_failed : Result (Unit {0}) TraceStop → Bool
step_failed (Ok _) = false
step_failed (Err trace.Failed) = true
step_failed (Err trace.OutOfMemory) = false

-- a call fails exactly where its number is one of those that fail; where it fails or has no memory, what is told is as before
abbrev pub MemStepAnswer : (Journal → Journal) → MemTrace → MemTrace → Result (Unit {0}) TraceStop → Type 0
MemStepAnswer step old new (Ok _) = (fails_next old.calls ≡ false) × (trace_journal new ≡ step (trace_journal old))
MemStepAnswer step old new (Err trace.Failed) = (fails_next old.calls ≡ true) × (trace_journal new ≡ trace_journal old)
MemStepAnswer step old new (Err trace.OutOfMemory) = (fails_next old.calls ≡ false) × (trace_journal new ≡ trace_journal old)

-- a call that names the file or appends an event
pub record MemSteps (step : Journal → Journal) (old new : MemTrace) (result : Result (Unit {0}) TraceStop) : Type 0 where
  pub numbered : IsNumbered old.calls new.calls (step_failed result)
  pub answer : MemStepAnswer step old new result
