-- What callers know of files that are told, where the outside doesn't fail: the clauses of a call decide its answer.
use Rattle.std.proofs.Common.{◌≡◌, refl, sym, ap, subst, ◌∙◌, ℕ, ◌≤◌, List, length, arith}
use Rattle.std.specs.Prelude.{Option, Some, IfSome, IfOk, IfErr, MatchResult, Result, Ok, Err}
use Rattle.std.specs.declared.alloc.Global.{Global}
use Rattle.std.specs.declared.vec.Vec.{Vec}
use Rattle.std.proofs.lemmas.Option.{same_Some}
use Rattle.alpha_outside.specs.Outside.{Rose, FileIs}
use Rattle.program_files.specs.declared.fault.FilesFault.{FilesFault}
use Rattle.program_files.specs.declared.fault.FilesFault.TheVariants as fault
use Rattle.program_files.specs.Files.{Told, IsJoinedText, MakesTooLong, IsLonger, most_listed_bytes}
use Rattle.program_files.specs.Faults.{IsFilesCause, IsListedCause}
use Rattle.program_files.proofs.FileLemmas.{one_text, no_text}

-- Files that are there, with no more bytes than they may have, give their text, unless memory is wanting.
pub readable : (told : Told) (names : List (List ℕ)) (taken taken' faults faults' : ℕ) (result : Result (Vec ℕ Global) FilesFault)
    → IfOk result (λ text. IfSome told (λ files. IsJoinedText files names text.items))
    → IfErr result (IsFilesCause names told taken taken' faults faults')
    → (files : List ℕ → Option (List ℕ)) (text : List ℕ) → told ≡ Some files → IsJoinedText files names text → ¬ Rose faults faults'
    → MatchResult result (λ given. given.items ≡ text) (λ why. why ≡ fault.OutOfMemory)
readable told names taken taken' faults faults' (Ok given) is _ files text t whole still =
    one_text files names given.items text (subst (λ w. IfSome w (λ fs. IsJoinedText fs names given.items)) t is) whole
readable told names taken taken' faults faults' (Err (fault.TooLong name)) _ is files text t whole still =
    absurd (no_text files names name text (subst (λ w. IfSome w (λ fs. MakesTooLong fs names name)) t is.2) whole)
readable told names taken taken' faults faults' (Err (fault.Unreadable name)) _ is files text t whole still = absurd (still is.1)
readable told names taken taken' faults faults' (Err fault.OutOfMemory) _ is files text t whole still = refl

-- A file that is there, with no more bytes than it may have, gives its bytes, unless memory is wanting.
pub listed_readable : (told : Told) (name : List ℕ) (taken taken' faults faults' : ℕ) (result : Result (Vec ℕ Global) FilesFault)
    → IfOk result (λ given. FileIs told name given.items) → IfErr result (IsListedCause name told taken taken' faults faults')
    → (files : List ℕ → Option (List ℕ)) (bytes : List ℕ) → told ≡ Some files → files name ≡ Some bytes
    → length bytes ≤ most_listed_bytes → ¬ Rose faults faults'
    → MatchResult result (λ given. given.items ≡ bytes) (λ why. why ≡ fault.OutOfMemory)
listed_readable told name taken taken' faults faults' (Ok given) is _ files bytes t file within still =
    let there = subst (λ w. FileIs w name given.items) t is in
    same_Some given.items bytes (sym there ∙ file)
listed_readable told name taken taken' faults faults' (Err (fault.TooLong long)) _ is files bytes t file within still =
    let longer = subst (λ w. IfSome w (λ fs. IsLonger fs most_listed_bytes name)) t is.2 in
    let same = ap length (same_Some longer.bytes bytes (sym longer.file ∙ file)) in
    let above = longer.above in
    absurd (omega (arith, same, above, within))
listed_readable told name taken taken' faults faults' (Err (fault.Unreadable read)) _ is files bytes t file within still =
    absurd (still is.1)
listed_readable told name taken taken' faults faults' (Err fault.OutOfMemory) _ is files bytes t file within still = refl
