-- What the calls of a shelf, a sink and a trace may do. Each is told by what the object meant before and after the call.
use Rattle.std.specs.Prelude.{◌≡◌, ◌<◌, ◌≤◌, ◌+◌, ◌-◌, ◌^◌, ◌++◌, [], ◌∷◌, option_map, min, ℕ, List, length, take, Option, Some, Result, Ok, Err, IfSome}
use Rattle.std.specs.declared.alloc.Global.{Global}
use Rattle.std.specs.declared.vec.Vec.{Vec}
use Rattle.alpha_outside.specs.declared.stops.ReadStop.{ReadStop}
use Rattle.alpha_outside.specs.declared.stops.ReadStop.TheVariants as stop
use Rattle.alpha_outside.specs.declared.stops.SinkStop.{SinkStop}
use Rattle.alpha_outside.specs.declared.stops.SinkStop.TheVariants as sink
use Rattle.alpha_outside.specs.declared.stops.TraceStop.{TraceStop}
use Rattle.alpha_outside.specs.declared.stops.TraceStop.TheVariants as trace
use Rattle.alpha_outside.specs.declared.event.Event.{Event}
use Rattle.std.specs.Io.KnownBytes.{Appends, Keeps}

-- a count of 64 bits went up, or stands at its end
abbrev pub Rose : ℕ → ℕ → Type 0
Rose before now = min (before + 1) (2 ^ 64 - 1) ≤ now

-- a count of 64 bits went up by so much, or stands at its end
abbrev pub RoseBy : ℕ → ℕ → ℕ → Type 0
RoseBy by before now = min (before + by) (2 ^ 64 - 1) ≤ now

-- The file is these bytes, where the files are told.
abbrev pub FileIs : Option (List ℕ → Option (List ℕ)) → List ℕ → List ℕ → Type 0
FileIs told name bytes = IfSome told (λ files. files name ≡ Some bytes)

-- Bytes are those of the file, and so many at least were taken. A failure comes only where the count of faults rose. Too long is
-- a file only where more than `at_most` bytes were taken, and, where the files are told, where it is there and longer than that.
abbrev pub ReadAnswer : List ℕ → ℕ → Option (List ℕ → Option (List ℕ)) → ℕ → ℕ → ℕ → ℕ → Result (Vec ℕ Global) ReadStop → Type 0
ReadAnswer name at_most told taken taken' faults faults' (Ok bytes) =
    (length bytes.items ≤ at_most) × RoseBy (length bytes.items) taken taken' × FileIs told name bytes.items
ReadAnswer name at_most told taken taken' faults faults' (Err stop.Failed) = Rose faults faults'
ReadAnswer name at_most told taken taken' faults faults' (Err stop.TooLong) =
    RoseBy (at_most + 1) taken taken' × IfSome told (λ files. (bytes : List ℕ) × (files name ≡ Some bytes) × (at_most < length bytes))
ReadAnswer name at_most told taken taken' faults faults' (Err stop.OutOfMemory) = Unit {0}

-- one read: the counts never fall
pub record Reads (name : List ℕ) (at_most : ℕ) (told : Option (List ℕ → Option (List ℕ))) (taken taken' faults faults' : ℕ) (result : Result (Vec ℕ Global) ReadStop) : Type 0 where
  pub taken_later : taken ≤ taken'
  pub faults_later : faults ≤ faults'
  pub answer : ReadAnswer name at_most told taken taken' faults faults' result

-- The piece stands at the end, or, after a failure, which comes only where the count of faults rose, a front of it, perhaps empty
-- or whole. After want of memory nothing was appended.
abbrev pub WriteAnswer : List ℕ → Option (List ℕ) → Option (List ℕ) → ℕ → ℕ → Result (Unit {0}) SinkStop → Type 0
WriteAnswer piece held held' faults faults' (Ok _) = Appends held held' piece
WriteAnswer piece held held' faults faults' (Err sink.Failed) = Rose faults faults' × ((n : ℕ) × Appends held held' (take n piece))
WriteAnswer piece held held' faults faults' (Err sink.OutOfMemory) = Keeps held held'

-- one write; that of an empty piece has nothing to do
pub record Writes (piece : List ℕ) (held held' : Option (List ℕ)) (faults faults' : ℕ) (result : Result (Unit {0}) SinkStop) : Type 0 where
  pub faults_later : faults ≤ faults'
  pub empty : piece ≡ [] → result ≡ Ok tt
  pub answer : WriteAnswer piece held held' faults faults' result

-- what a trace tells: its events, and the name of the file to which they are written or none
pub record Journal : Type 0 where
  pub events : List Event
  pub name : Option (List ℕ)

abbrev pub named : List ℕ → Journal → Journal
named n j = record j { name = Some n }

abbrev pub with_event : Event → Journal → Journal
with_event e j = record j { events = j.events ++ e ∷ [] }

-- The step was taken, or nothing has changed; a failure comes only where the count of faults rose.
abbrev pub TraceAnswer : (Journal → Journal) → Option Journal → Option Journal → ℕ → ℕ → Result (Unit {0}) TraceStop → Type 0
TraceAnswer step told told' faults faults' (Ok _) = told' ≡ option_map step told
TraceAnswer step told told' faults faults' (Err trace.Failed) = Rose faults faults' × (told' ≡ told)
TraceAnswer step told told' faults faults' (Err trace.OutOfMemory) = told' ≡ told

-- the file was named
pub record Begins (name : List ℕ) (told told' : Option Journal) (faults faults' : ℕ) (result : Result (Unit {0}) TraceStop) : Type 0 where
  pub faults_later : faults ≤ faults'
  pub answer : TraceAnswer (named name) told told' faults faults' result

-- the event was appended
pub record Notes (event : Event) (told told' : Option Journal) (faults faults' : ℕ) (result : Result (Unit {0}) TraceStop) : Type 0 where
  pub faults_later : faults ≤ faults'
  pub answer : TraceAnswer (with_event event) told told' faults faults' result
