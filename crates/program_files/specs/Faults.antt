-- By which causes files aren't read.
use Rattle.std.specs.Prelude.{◌≡◌, ◌≤◌, ◌+◌, ℕ, List, length, Result, Ok, Err, IfSome}
use Rattle.std.specs.declared.alloc.Global.{Global}
use Rattle.std.specs.declared.vec.Vec.{Vec}
use Rattle.lists.specs.Lists.{◌∈◌}
use Rattle.alpha_outside.specs.Outside.{Rose, RoseBy, FileIs}
use Rattle.alpha_outside.specs.declared.stops.ReadStop.{ReadStop}
use Rattle.alpha_outside.specs.declared.stops.ReadStop.TheVariants as stop
use Rattle.program_files.specs.declared.fault.FilesFault.{FilesFault}
use Rattle.program_files.specs.declared.fault.FilesFault.TheVariants as fault
use Rattle.program_files.specs.Files.{Told, IsReached, MakesTooLong, IsLonger, most_bytes, most_listed_bytes}

-- Each fault of the program's files comes only by its cause, by what a shelf tells and by its counts before and after. Where the files
-- are told, a file that can't be read is one that was reached.
abbrev pub IsFilesCause : List (List ℕ) → Told → ℕ → ℕ → ℕ → ℕ → FilesFault → Type 0
IsFilesCause names told taken taken' faults faults' (fault.TooLong name) =
    (name ∈ names) × RoseBy (most_bytes + 1) taken taken' × IfSome told (λ files. MakesTooLong files names name)
IsFilesCause names told taken taken' faults faults' (fault.Unreadable name) =
    (name ∈ names) × Rose faults faults' × IfSome told (λ files. IsReached files names name)
IsFilesCause names told taken taken' faults faults' fault.OutOfMemory = Unit {0}

-- each fault of one file that may have so many bytes comes only by its cause
abbrev pub IsFileCause : List ℕ → ℕ → Told → ℕ → ℕ → ℕ → ℕ → FilesFault → Type 0
IsFileCause name at_most told taken taken' faults faults' (fault.TooLong long) =
    (long ≡ name) × RoseBy (at_most + 1) taken taken' × IfSome told (λ files. IsLonger files at_most name)
IsFileCause name at_most told taken taken' faults faults' (fault.Unreadable read) = (read ≡ name) × Rose faults faults'
IsFileCause name at_most told taken taken' faults faults' fault.OutOfMemory = Unit {0}

-- and those of the file of the sets that are not to be printed again
abbrev pub IsListedCause : List ℕ → Told → ℕ → ℕ → ℕ → ℕ → FilesFault → Type 0
IsListedCause name = IsFileCause name most_listed_bytes

-- the fault that names a file of which a shelf gave no bytes, or want of memory
abbrev pub IsFaultOf : List ℕ → ReadStop → FilesFault → Type 0
IsFaultOf name why (fault.TooLong long) = (long ≡ name) × (why ≡ stop.TooLong)
IsFaultOf name why (fault.Unreadable read) = (read ≡ name) × (why ≡ stop.Failed)
IsFaultOf name why fault.OutOfMemory = Unit {0}

-- bytes are those of the file, and so many at least were taken; a fault comes only by its cause
abbrev pub FileAnswer : List ℕ → ℕ → Told → ℕ → ℕ → ℕ → ℕ → Result (Vec ℕ Global) FilesFault → Type 0
FileAnswer name at_most told taken taken' faults faults' (Ok bytes) =
    (length bytes.items ≤ at_most) × RoseBy (length bytes.items) taken taken' × FileIs told name bytes.items
FileAnswer name at_most told taken taken' faults faults' (Err why) = IsFileCause name at_most told taken taken' faults faults' why

-- one file that may have so many bytes: the counts never fall
pub record FileReads (name : List ℕ) (at_most : ℕ) (told : Told) (taken taken' faults faults' : ℕ)
    (result : Result (Vec ℕ Global) FilesFault) : Type 0 where
  pub taken_later : taken ≤ taken'
  pub faults_later : faults ≤ faults'
  pub answer : FileAnswer name at_most told taken taken' faults faults' result
