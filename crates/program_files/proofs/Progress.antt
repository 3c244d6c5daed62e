-- How far the reading of the program's files has come, and how it ends.
use Rattle.std.proofs.Common.{◌≡◌, ◌⊎◌, inl, inr, refl, sym, ap, subst, ◌∙◌, ℕ, zero, suc, ◌+◌, ◌-◌, ◌<◌, ◌≤◌, arith, add-one}
use Rattle.std.proofs.Common.{List, [], ◌∷◌, ◌++◌, length, take, drop, get_or, take-append-drop, length-append}
use Rattle.std.specs.Prelude.{Option, Some, None, IfSome, IfOk, IfErr, Result, Ok, Err}
use Rattle.std.specs.declared.alloc.Global.{Global}
use Rattle.std.specs.declared.vec.Vec.{Vec}
use Rattle.lists.specs.Lists.{◌∈◌}
use Rattle.lists.proofs.ListLemmas.{∈-append_right}
use Rattle.lists.proofs.Places.{drop-at}
use Rattle.alpha_outside.specs.Outside.{Rose, RoseBy, FileIs}
use Rattle.program_files.specs.declared.fault.FilesFault.{FilesFault}
use Rattle.program_files.specs.declared.fault.FilesFault.TheVariants as fault
use Rattle.program_files.specs.Files.{Told, joined_text, total, AreFiles, IsJoinedText, IsReached, MakesTooLong, IsLonger, most_bytes}
use Rattle.program_files.specs.Faults.{IsFileCause, IsFilesCause}
use Rattle.program_files.proofs.CountLemmas.{rose_from, rose_both}
use Rattle.program_files.proofs.FileLemmas.{joined_more, total_more, there_more, no_text, one_name}

-- ---- places of names

-- the names before a place, the name there, and those behind it
pub names_at : (names : List (List ℕ)) (n : ℕ) (name : List ℕ) → n < length names → name ≡ get_or names n name
    → names ≡ take n names ++ (name ∷ drop (n + 1) names)
names_at names n name low e = sym (take-append-drop n names) ∙ ap (λ rest. take n names ++ rest) (drop-at names n name low e)

-- the names up to a place are those before it and the one there
taken_next : (names : List (List ℕ)) (n : ℕ) (name : List ℕ) → n < length names → name ≡ get_or names n name
    → take (suc n) names ≡ take n names ++ name ∷ []
taken_next [] n name low e = absurd (omega arith)
taken_next (x ∷ names) zero name low e = ap (λ y. y ∷ []) (sym e)
taken_next (x ∷ names) (suc n) name low e = ap (λ ns. x ∷ ns) (taken_next names n name (omega (arith, low)) e)

pub taken_more : (names : List (List ℕ)) (n : ℕ) (name : List ℕ) → n < length names → name ≡ get_or names n name
    → take (n + 1) names ≡ take n names ++ name ∷ []
taken_more names n name low e = rw add-one (taken_next names n name low e)

-- ---- how far the reading has come

-- the files of these names were read, this is their text, and so many bytes are left
pub record IsProgress (files : List ℕ → Option (List ℕ)) (names : List (List ℕ)) (text : List ℕ) (left : ℕ) : Type 0 where
  pub contents : List (List ℕ)
  pub there : AreFiles files names contents
  pub all : total contents + left ≡ most_bytes
  pub text_is : text ≡ joined_text contents

-- the same where the files are told
abbrev pub Progresses : Told → List (List ℕ) → List ℕ → ℕ → Type 0
Progresses told names text left = IfSome told (λ files. IsProgress files names text left)

-- nothing was read
pub begins : (told : Told) → Progresses told [] [] most_bytes
begins None = tt
begins (Some files) = record { contents = []; there = tt; all = refl; text_is = refl }

-- one more file was read
goes_on_by : (told : Told) (names more : List (List ℕ)) (name bytes text longer : List ℕ) (left rest : ℕ)
    → Progresses told names text left → FileIs told name bytes → length bytes ≤ left → more ≡ names ++ name ∷ []
    → longer ≡ text ++ (bytes ++ 10 ∷ []) → rest ≡ left - length bytes → Progresses told more longer rest
goes_on_by None names more name bytes text longer left rest p file within m l r = tt
goes_on_by (Some files) names more name bytes text longer left rest p file within m l r = record {
  contents = p.contents ++ bytes ∷ [];
  there = subst (λ ns. AreFiles files ns (p.contents ++ bytes ∷ [])) (sym m) (there_more files names p.contents name bytes p.there file);
  all = let all = p.all in let more = total_more p.contents bytes in omega (arith, all, more, within, r);
  text_is = l ∙ ap (λ t. t ++ (bytes ++ 10 ∷ [])) p.text_is ∙ sym (joined_more p.contents bytes);
}

-- the same by what a shelf says
pub goes_on : (told now : Told) (names more : List (List ℕ)) (name seen bytes text longer : List ℕ) (left rest : ℕ)
    → Progresses told names text left → now ≡ told → seen ≡ name → FileIs now seen bytes → length bytes ≤ left → more ≡ names ++ name ∷ []
    → longer ≡ text ++ (bytes ++ 10 ∷ []) → rest ≡ left - length bytes → Progresses told more longer rest
goes_on told now names more name seen bytes text longer left rest p kept same file within m l r =
    let is = subst (λ n. FileIs told n bytes) same (subst (λ w. FileIs w seen bytes) kept file) in
    goes_on_by told names more name bytes text longer left rest p is within m l r

-- its bytes are taken from those that are left
pub taken_goes_on : (count left rest first second third : ℕ) → rest ≡ left - count → count ≤ left → left ≤ most_bytes
    → RoseBy (most_bytes - left) first second → RoseBy count second third → RoseBy (most_bytes - rest) first third
taken_goes_on count left rest first second third r within most one two =
    let sum : (most_bytes - left) + count ≡ most_bytes - rest = omega (arith, r, within, most) in
    subst (λ n. RoseBy n first third) sum (rose_both (most_bytes - left) count first second third one two)

-- the text has a line feed more for each file
pub size_goes_on : (text bytes longer : List ℕ) (left rest number : ℕ) → longer ≡ text ++ (bytes ++ 10 ∷ []) → rest ≡ left - length bytes
    → length bytes ≤ left → length text + left ≡ most_bytes + number → length longer + rest ≡ most_bytes + (number + 1)
size_goes_on text bytes longer left rest number l r within size =
    let long = ap length l ∙ length-append text (bytes ++ 10 ∷ []) in
    let behind = length-append bytes (10 ∷ []) in
    omega (arith, long, behind, r, within, size)

-- all were read
pub ends : (told : Told) (names all : List (List ℕ)) (text : List ℕ) (left : ℕ) → Progresses told names text left → names ≡ all
    → IfSome told (λ files. IsJoinedText files all text)
ends None names all text left p same = tt
ends (Some files) names all text left p same = record {
  contents = p.contents;
  there = subst (λ ns. AreFiles files ns p.contents) same p.there;
  within = let all = p.all in omega (arith, all);
  text_is = p.text_is;
}

-- ---- a file that isn't read

-- the file at a place was reached
abbrev reached_at : (files : List ℕ → Option (List ℕ)) (names before after : List (List ℕ)) (name text : List ℕ) (left : ℕ)
    → IsProgress files before text left → names ≡ before ++ (name ∷ after) → IsReached files names name
reached_at files names before after name text left p e =
    let all = p.all in
    record { before = before; after = after; contents = p.contents; names_are = e; there = p.there; within = omega (arith, all) }

reached : (told : Told) (names before after : List (List ℕ)) (name text : List ℕ) (left : ℕ)
    → Progresses told before text left → names ≡ before ++ (name ∷ after) → IfSome told (λ files. IsReached files names name)
reached None names before after name text left p e = tt
reached (Some files) names before after name text left p e = reached_at files names before after name text left p e

exceeds : (told : Told) (names before after : List (List ℕ)) (name text : List ℕ) (left : ℕ)
    → Progresses told before text left → names ≡ before ++ (name ∷ after) → IfSome told (λ files. IsLonger files left name)
    → IfSome told (λ files. MakesTooLong files names name)
exceeds None names before after name text left p e long = tt
exceeds (Some files) names before after name text left p e long = record {
  reached = reached_at files names before after name text left p e;
  bytes = long.bytes;
  file = long.file;
  above = let all = p.all in let above = long.above in omega (arith, all, above);
}

-- a name at a place is one of the names
among_names : (names before after : List (List ℕ)) (name : List ℕ) → names ≡ before ++ (name ∷ after) → name ∈ names
among_names names before after name e = subst (λ ns. name ∈ ns) (sym e) (∈-append_right name before (name ∷ after) (inl refl))

-- what one file's fault comes from, that of all comes from
caused_by : (told : Told) (names before after : List (List ℕ)) (name text : List ℕ)
    (left taken mid taken' faults some faults' : ℕ) (why : FilesFault)
    → Progresses told before text left → names ≡ before ++ (name ∷ after) → left ≤ most_bytes
    → RoseBy (most_bytes - left) taken mid → faults ≤ some
    → IsFileCause name left told mid taken' some faults' why → IsFilesCause names told taken taken' faults faults' why
caused_by told names before after name text left taken mid taken' faults some faults' (fault.TooLong long) p e within rose later is =
    subst (λ n. (n ∈ names) × RoseBy (most_bytes + 1) taken taken' × IfSome told (λ files. MakesTooLong files names n)) (sym is.0) (
      among_names names before after name e,
      (let two = is.1 in omega (arith, within, rose, two)),
      exceeds told names before after name text left p e is.2,
    )
caused_by told names before after name text left taken mid taken' faults some faults' (fault.Unreadable read) p e within rose later is =
    subst (λ n. (n ∈ names) × Rose faults faults' × IfSome told (λ files. IsReached files names n)) (sym is.0) (
      among_names names before after name e,
      rose_from 1 faults some faults' later is.1,
      reached told names before after name text left p e,
    )
caused_by told names before after name text left taken mid taken' faults some faults' fault.OutOfMemory p e within rose later is = tt

-- the same by what a shelf says
pub caused : (told now : Told) (names before after : List (List ℕ)) (name seen text : List ℕ)
    (left taken mid taken' faults some faults' : ℕ) (why : FilesFault)
    → Progresses told before text left → now ≡ told → seen ≡ name → names ≡ before ++ (name ∷ after) → left ≤ most_bytes
    → RoseBy (most_bytes - left) taken mid → faults ≤ some
    → IsFileCause seen left now mid taken' some faults' why → IsFilesCause names told taken taken' faults faults' why
caused told now names before after name seen text left taken mid taken' faults some faults' why p kept same e within rose later is =
    let here = subst (λ w. IsFileCause seen left w mid taken' some faults' why) kept is in
    let named_so = subst (λ n. IsFileCause n left told mid taken' some faults' why) same here in
    caused_by told names before after name text left taken mid taken' faults some faults' why p e within rose later named_so

-- ---- what the files are decides the answer

-- files that are too long are answered so, where the outside doesn't fail and there is memory
pub answers_too_long : (told : Told) (names : List (List ℕ)) (taken taken' faults faults' : ℕ) (result : Result (Vec ℕ Global) FilesFault)
    → IfOk result (λ text. IfSome told (λ files. IsJoinedText files names text.items))
    → IfErr result (IsFilesCause names told taken taken' faults faults')
    → (files : List ℕ → Option (List ℕ)) (name : List ℕ) → told ≡ Some files → MakesTooLong files names name → ¬ Rose faults faults'
    → (result ≡ Err (fault.TooLong name)) ⊎ (result ≡ Err fault.OutOfMemory)
answers_too_long told names taken taken' faults faults' (Ok text) is _ files name t long still =
    absurd (no_text files names name text.items long (subst (λ w. IfSome w (λ fs. IsJoinedText fs names text.items)) t is))
answers_too_long told names taken taken' faults faults' (Err (fault.TooLong other)) _ is files name t long still =
    let told_long = subst (λ w. IfSome w (λ fs. MakesTooLong fs names other)) t is.2 in
    inl (ap (λ n. Err (fault.TooLong n)) (one_name files names other name told_long long))
answers_too_long told names taken taken' faults faults' (Err (fault.Unreadable read)) _ is files name t long still = absurd (still is.1)
answers_too_long told names taken taken' faults faults' (Err fault.OutOfMemory) _ is files name t long still = inr refl
