-- The promises of a run whose words and files are accepted.
use Rattle.std.proofs.Common.{◌≡◌, ◌⊎◌, inl, inr, refl, sym, ap, subst, ◌∙◌, ℕ, suc, ℤ, ◌+◌, ◌<◌, ◌≤◌, arith, List, [], ◌∷◌, ◌++◌, length, Option, Some, None, append-nil}
use Rattle.std.specs.Prelude.{IfSome}
use Rattle.lists.specs.Lists.{Each, HasNoRepeats}
use Rattle.lists.proofs.ListLemmas.{Each-at, ∈-append_right}
use Rattle.alpha_outside.specs.declared.kinds.ArithOp.{ArithOp}
use Rattle.alpha_outside.specs.declared.event.Event.{Event}
use Rattle.alpha_outside.specs.Outside.{Rose, FileIs}
use Rattle.asp_syntax.specs.declared.tree.Statement.{Statement}
use Rattle.asp_meaning.specs.Output.{set_lines}
use Rattle.search_journals.specs.Search.{SinkChange, TraceChange, Journaled}
use Rattle.search_journals.proofs.Lines.{lines_length}
use Rattle.program_files.specs.Files.{Told, most_listed_bytes, IsJoinedText, MakesTooLong, IsLonger}
use Rattle.program_files.proofs.FileLemmas.{one_text, no_text, one_name}
use Rattle.command_line.specs.declared.request.Solve.{Solve}
use Rattle.after_book.specs.Parts.{ended_lines, IsFine}
use Rattle.after_book.specs.Listed.{IsFirstRefused}
use Rattle.alpha.specs.declared.status.BudgetKind.{BudgetKind}
use Rattle.alpha.specs.declared.status.Refusal.{Refusal}
use Rattle.alpha.specs.declared.status.Status.{Status}
use Rattle.alpha.specs.declared.status.Status.TheVariants as status
use Rattle.alpha.specs.Journals.{Task, core_for, state_after, most_of, shown_sets, AreLegal, AreShownLines, AreShownLinesAndOne, LinesAre, AreSpent, AreEnded, AreOverflow, AreTooLarge}
use Rattle.alpha.specs.TextAnswers.{IsProgramText, IsRefusedText}
use Rattle.alpha.specs.Promises.{Counts, IsListFile, IsAccepted, IsRefusedFile, IsOverlong, IsBesideList, IsTextOf, IsProgramOf, IsListOf, IsNewLine, HaveAllOthers, IsAppended, IsNoted, IsEnded, Gives, begun, trace_name}
use Rattle.alpha.specs.Outcomes.{IsStill, IsTaskFor, WroteAll, WroteFewer, Searched, ended, cut_off, untraced, memory, cut_off_memory}
use Rattle.alpha.specs.Outcomes.{Outcome, usage, no_memory, too_long, unreadable, refused, list_too_long, list_unreadable, list_refused, unnamed, searched}
use Rattle.alpha.proofs.Appended.{kept_is, none_noted}
use Rattle.alpha.proofs.TextLemmas.{one_program, one_refusal, not_refused}
use Rattle.alpha.proofs.Shown.{Shows, noted_alone, all_lines, shows-all, shows-lines, shows-front, have_all}
use Rattle.alpha.proofs.Noted.{nothing_said, told_by, shown_lines, spent, has_ended, overflow, too_large}

-- ---- what was asked for, and the files

-- no words, and yet a request
no_words : (r : Solve) → None ≡ Some r → ⊥
no_words r e = cc

-- one request is asked for
same_solve : (r q : Solve) → Some r ≡ Some q → r ≡ q
same_solve r q e = cc

-- one file has one content
same_some : (b c : List ℕ) → Some b ≡ Some c → b ≡ c
same_some b c e = cc

-- no file is named, and yet one
no_name : (name : List ℕ) → None ≡ Some name → ⊥
no_name name e = cc

-- what is so where the files are told
at_files : (told : Told) (files : List ℕ → Option (List ℕ)) (IsSo : (List ℕ → Option (List ℕ)) → Type 0) → told ≡ Some files
    → IfSome told IsSo → IsSo files
at_files told files IsSo e h = subst (λ t. IfSome t IsSo) e h

-- a file of sets has one content
same_list : (files : List ℕ → Option (List ℕ)) (after : Option (List ℕ)) (b c : List ℕ) → IsListFile files after b → IsListFile files after c
    → b ≡ c
same_list files None b c one two = one ∙ sym two
same_list files (Some name) b c one two = same_some b c (sym one.0 ∙ two.0)

-- the file that is named is there, within its limit, and each line of it may stand there
named_list : (files : List ℕ → Option (List ℕ)) (after : Option (List ℕ)) (name b : List ℕ) → after ≡ Some name → IsListFile files after b
    → (files name ≡ Some b) × (length b ≤ most_listed_bytes) × Each IsFine (ended_lines b)
named_list files after name b e is = subst (λ o. IsListFile files o b) e is

-- in one list just one member is the first of which something isn't so
first_same : {A : Type 0} (Q : A → Type 0) (before others behind rest : List A) (x y : A) → before ++ x ∷ behind ≡ others ++ y ∷ rest
    → Each Q before → ¬ Q x → Each Q others → ¬ Q y → length before ≡ length others
first_same Q [] [] behind rest x y e fine wrong good bad = refl
first_same Q [] (o ∷ others) behind rest x y e fine wrong good bad =
    absurd (wrong (subst Q (sym (heads x o behind (others ++ y ∷ rest) e)) good.0))
  where
    heads : {A : Type 0} (x y : A) (xs ys : List A) → x ∷ xs ≡ y ∷ ys → x ≡ y
    heads x y xs ys e = cc
first_same Q (b ∷ before) [] behind rest x y e fine wrong good bad =
    absurd (bad (subst Q (heads b y (before ++ x ∷ behind) rest e) fine.0))
  where
    heads : {A : Type 0} (x y : A) (xs ys : List A) → x ∷ xs ≡ y ∷ ys → x ≡ y
    heads x y xs ys e = cc
first_same Q (b ∷ before) (o ∷ others) behind rest x y e fine wrong good bad =
    ap suc (first_same Q before others behind rest x y (tails b o (before ++ x ∷ behind) (others ++ y ∷ rest) e) fine.1 wrong good.1 bad)
  where
    tails : {A : Type 0} (x y : A) (xs ys : List A) → x ∷ xs ≡ y ∷ ys → xs ≡ ys
    tails x y xs ys e = cc

-- so just one line is the first that may not stand in a file
one_line : (bytes : List ℕ) (m n : ℕ) → IsFirstRefused bytes m → IsFirstRefused bytes n → m ≡ n
one_line bytes m n one two =
    let same : length one.before ≡ length two.before = first_same IsFine one.before two.before one.behind two.behind one.line two.line
    (sym one.lines ∙ two.lines) one.fine one.refused two.fine two.refused in
    one.counted ∙ ap (λ k. k + 1) same ∙ sym two.counted

-- and none does where each may
no_line : (bytes : List ℕ) (n : ℕ) → IsFirstRefused bytes n → ¬ Each IsFine (ended_lines bytes)
no_line bytes n first fine =
    first.refused (Each-at IsFine (first.before ++ first.line ∷ first.behind) first.line
    (subst (λ ls. Each IsFine ls) first.lines fine)
    (∈-append_right first.line first.before (first.line ∷ first.behind) (inl refl)))

-- ---- program files that are too long

module _ (told : Told) (shelf : Counts) (sink : SinkChange) (trace : TraceChange) (long : List ℕ) (asks : Option Solve) (a : IsOverlong asks told long) where
  -- they have no text
  long_text : (request : Solve) → asks ≡ Some request → (text : List ℕ) → IsTextOf told request.files text → ⊥
  long_text request e text is =
      let same : request ≡ a.request = same_solve request a.request (sym e ∙ a.asked) in
      no_text a.files a.request.files long text a.above
      (subst (λ (r : Solve). IsJoinedText a.files r.files text) same
      (at_files told a.files (λ files. IsJoinedText files request.files text) a.told_is is))

  -- and no other file makes them too long
  long_name : (request : Solve) → asks ≡ Some request → (other : List ℕ) → IfSome told (λ files. MakesTooLong files request.files other) → other ≡ long
  long_name request e other is =
      let same : request ≡ a.request = same_solve request a.request (sym e ∙ a.asked) in
      one_name a.files a.request.files other long
      (subst (λ (r : Solve). MakesTooLong a.files r.files other) same
      (at_files told a.files (λ files. MakesTooLong files request.files other) a.told_is is)) a.above

  -- it is named
  too_long_at : (asked_for : Option Solve) → asks ≡ asked_for → (s : Status) → Outcome told shelf sink trace asked_for s → ¬ Rose shelf.faults shelf.faults' → Gives s (status.TextTooLong long)
  too_long_at asked_for e s (usage kept) read = absurd (no_words a.request (sym e ∙ a.asked))
  too_long_at asked_for e s (no_memory kept) read = inr refl
  too_long_at asked_for e s (too_long {request} {long = other} among rose is kept) read = inl (ap status.TextTooLong (long_name request e other is))
  too_long_at asked_for e s (unreadable among rose kept) read = absurd (read rose)
  too_long_at asked_for e s (refused {request} text is why kept) read = absurd (long_text request e text is)
  too_long_at asked_for e s (list_too_long {request} P of after rose is kept) read = absurd (long_text request e of.0 of.1)
  too_long_at asked_for e s (list_unreadable after rose kept) read = absurd (read rose)
  too_long_at asked_for e s (list_refused {request} P name bytes of after file within first kept) read = absurd (long_text request e of.0 of.1)
  too_long_at asked_for e s (unnamed {request} P bytes of list rose kept) read = absurd (long_text request e of.0 of.1)
  too_long_at asked_for e s (searched {request} P bytes of list A are all) read = absurd (long_text request e of.0 of.1)

  pub too_long_comes : (s : Status) → Outcome told shelf sink trace asks s → ¬ Rose shelf.faults shelf.faults' → Gives s (status.TextTooLong long)
  too_long_comes s o read = too_long_at asks refl s o read

-- ---- a text that is refused

module _ (told : Told) (shelf : Counts) (sink : SinkChange) (trace : TraceChange) (r : Refusal) (asks : Option Solve) (a : IsRefusedFile asks told r) where
  -- the files have just this text
  refused_text : (request : Solve) → asks ≡ Some request → (text : List ℕ) → IsTextOf told request.files text → text ≡ a.text
  refused_text request e text is =
      let same : request ≡ a.request = same_solve request a.request (sym e ∙ a.asked) in
      one_text a.files a.request.files text a.text
      (subst (λ (q : Solve). IsJoinedText a.files q.files text) same
      (at_files told a.files (λ files. IsJoinedText files request.files text) a.told_is is)) a.joined

  -- so they are those of no program
  no_program : (request : Solve) → asks ≡ Some request → (P : List Statement) → IsProgramOf told request.files P → ⊥
  no_program request e P of =
      not_refused a.text P r (subst (λ t. IsProgramText t P) (refused_text request e of.0 of.1) of.2) a.refused

  -- and have no file that makes them too long
  not_long : (request : Solve) → asks ≡ Some request → (other : List ℕ) → IfSome told (λ files. MakesTooLong files request.files other) → ⊥
  not_long request e other is =
      let same : request ≡ a.request = same_solve request a.request (sym e ∙ a.asked) in
      no_text a.files a.request.files other a.text
      (subst (λ (q : Solve). MakesTooLong a.files q.files other) same
      (at_files told a.files (λ files. MakesTooLong files request.files other) a.told_is is)) a.joined

  -- it is refused for just this
  refusal_at : (asked_for : Option Solve) → asks ≡ asked_for → (s : Status) → Outcome told shelf sink trace asked_for s → ¬ Rose shelf.faults shelf.faults' → Gives s (status.Refused r)
  refusal_at asked_for e s (usage kept) read = absurd (no_words a.request (sym e ∙ a.asked))
  refusal_at asked_for e s (no_memory kept) read = inr refl
  refusal_at asked_for e s (too_long {request} {long = other} among rose is kept) read = absurd (not_long request e other is)
  refusal_at asked_for e s (unreadable among rose kept) read = absurd (read rose)
  refusal_at asked_for e s (refused {request} {r = q} text is why kept) read =
      inl (ap status.Refused (one_refusal a.text q r (subst (λ t. IsRefusedText t q) (refused_text request e text is) why) a.refused))
  refusal_at asked_for e s (list_too_long {request} P of after rose is kept) read = absurd (no_program request e P of)
  refusal_at asked_for e s (list_unreadable after rose kept) read = absurd (read rose)
  refusal_at asked_for e s (list_refused {request} P name bytes of after file within first kept) read = absurd (no_program request e P of)
  refusal_at asked_for e s (unnamed {request} P bytes of list rose kept) read = absurd (no_program request e P of)
  refusal_at asked_for e s (searched {request} P bytes of list A are all) read = absurd (no_program request e P of)

  pub refusal_comes : (s : Status) → Outcome told shelf sink trace asks s → ¬ Rose shelf.faults shelf.faults' → Gives s (status.Refused r)
  refusal_comes s o read = refusal_at asks refl s o read

-- ---- a file of sets

module _ (told : Told) (shelf : Counts) (sink : SinkChange) (trace : TraceChange) (name bytes : List ℕ) (asks : Option Solve)
    (a : IsBesideList asks told name bytes) where
  -- the text of the program files is that of a program
  beside_text : (request : Solve) → asks ≡ Some request → (text : List ℕ) → IsTextOf told request.files text → text ≡ a.text
  beside_text request e text is =
      let same : request ≡ a.request = same_solve request a.request (sym e ∙ a.asked) in
      one_text a.files a.request.files text a.text
      (subst (λ (q : Solve). IsJoinedText a.files q.files text) same
      (at_files told a.files (λ files. IsJoinedText files request.files text) a.told_is is)) a.joined

  -- so it isn't refused
  beside_refused : (request : Solve) → asks ≡ Some request → (r : Refusal) (text : List ℕ) → IsTextOf told request.files text
      → IsRefusedText text r → ⊥
  beside_refused request e r text is why =
      not_refused a.text a.program r a.program_is (subst (λ t. IsRefusedText t r) (beside_text request e text is) why)

  -- and no program file makes them too long
  beside_long : (request : Solve) → asks ≡ Some request → (other : List ℕ) → IfSome told (λ files. MakesTooLong files request.files other) → ⊥
  beside_long request e other is =
      let same : request ≡ a.request = same_solve request a.request (sym e ∙ a.asked) in
      no_text a.files a.request.files other a.text
      (subst (λ (q : Solve). MakesTooLong a.files q.files other) same
      (at_files told a.files (λ files. MakesTooLong files request.files other) a.told_is is)) a.joined

  -- just this file of sets is asked for
  beside_name : (request : Solve) → asks ≡ Some request → (other : List ℕ) → request.after ≡ Some other → other ≡ name
  beside_name request e other after =
      let same : request ≡ a.request = same_solve request a.request (sym e ∙ a.asked) in
      same_some other name (sym after ∙ ap (λ (q : Solve). q.after) same ∙ a.after)

  -- with these bytes
  beside_bytes : (request : Solve) → asks ≡ Some request → (other content : List ℕ) → request.after ≡ Some other → FileIs told other content
      → content ≡ bytes
  beside_bytes request e other content after file =
      let at : a.files other ≡ Some content = at_files told a.files (λ files. files other ≡ Some content) a.told_is file in
      same_some content bytes (sym at ∙ ap a.files (beside_name request e other after) ∙ a.file)

  -- where it was read it is within its limit, and each of its lines may stand there
  beside_list : (request : Solve) → asks ≡ Some request → (content : List ℕ) → IsListOf told request.after content
      → (length bytes ≤ most_listed_bytes) × Each IsFine (ended_lines bytes)
  beside_list request e content is =
      let same : request ≡ a.request = same_solve request a.request (sym e ∙ a.asked) in
      let at : IsListFile a.files request.after content = at_files told a.files (λ files. IsListFile files request.after content) a.told_is is in
      let n = named_list a.files request.after name content (ap (λ (q : Solve). q.after) same ∙ a.after) at in
      let whole : content ≡ bytes = same_some content bytes (sym n.0 ∙ a.file) in
      (subst (λ bs. length bs ≤ most_listed_bytes) whole n.1, subst (λ bs. Each IsFine (ended_lines bs)) whole n.2)

  -- a file of sets that is longer than it may be is longer
  beside_longer : (request : Solve) → asks ≡ Some request → (other : List ℕ) → request.after ≡ Some other
      → IfSome told (λ files. IsLonger files most_listed_bytes other) → most_listed_bytes < length bytes
  beside_longer request e other after is =
      let at : IsLonger a.files most_listed_bytes other = at_files told a.files (λ files. IsLonger files most_listed_bytes other) a.told_is is in
      let whole : at.bytes ≡ bytes = same_some at.bytes bytes (sym at.file ∙ ap a.files (beside_name request e other after) ∙ a.file) in
      subst (λ bs. most_listed_bytes < length bs) whole at.above

  -- one that is too long is named
  list_too_long_at : (asked_for : Option Solve) → asks ≡ asked_for → most_listed_bytes < length bytes → (s : Status) → Outcome told shelf sink trace asked_for s
      → ¬ Rose shelf.faults shelf.faults' → Gives s (status.TextTooLong name)
  list_too_long_at asked_for e above s (usage kept) read = absurd (no_words a.request (sym e ∙ a.asked))
  list_too_long_at asked_for e above s (no_memory kept) read = inr refl
  list_too_long_at asked_for e above s (too_long {request} {long = other} among rose is kept) read = absurd (beside_long request e other is)
  list_too_long_at asked_for e above s (unreadable among rose kept) read = absurd (read rose)
  list_too_long_at asked_for e above s (refused {request} {r} text is why kept) read = absurd (beside_refused request e r text is why)
  list_too_long_at asked_for e above s (list_too_long {request} {long = other} P of after rose is kept) read =
      inl (ap status.TextTooLong (beside_name request e other after))
  list_too_long_at asked_for e above s (list_unreadable after rose kept) read = absurd (read rose)
  list_too_long_at asked_for e above s (list_refused {request} P other content of after file within first kept) read =
      let short : length bytes ≤ most_listed_bytes = subst (λ bs. length bs ≤ most_listed_bytes) (beside_bytes request e other content after file) within in
      absurd (omega (arith, above, short))
  list_too_long_at asked_for e above s (unnamed {request} P content of list rose kept) read =
      let short = (beside_list request e content list).0 in absurd (omega (arith, above, short))
  list_too_long_at asked_for e above s (searched {request} P content of list A are all) read =
      let short = (beside_list request e content list).0 in absurd (omega (arith, above, short))

  pub list_too_long_comes : most_listed_bytes < length bytes → (s : Status) → Outcome told shelf sink trace asks s
      → ¬ Rose shelf.faults shelf.faults' → Gives s (status.TextTooLong name)
  list_too_long_comes above s o read = list_too_long_at asks refl above s o read

  -- and the first line of one that may not stand there
  list_refusal_at : (asked_for : Option Solve) → asks ≡ asked_for → length bytes ≤ most_listed_bytes → (line : ℕ) → IsFirstRefused bytes line → (s : Status)
      → Outcome told shelf sink trace asked_for s → ¬ Rose shelf.faults shelf.faults' → Gives s (status.AfterRefused line)
  list_refusal_at asked_for e short line first s (usage kept) read = absurd (no_words a.request (sym e ∙ a.asked))
  list_refusal_at asked_for e short line first s (no_memory kept) read = inr refl
  list_refusal_at asked_for e short line first s (too_long {request} {long = other} among rose is kept) read = absurd (beside_long request e other is)
  list_refusal_at asked_for e short line first s (unreadable among rose kept) read = absurd (read rose)
  list_refusal_at asked_for e short line first s (refused {request} {r} text is why kept) read = absurd (beside_refused request e r text is why)
  list_refusal_at asked_for e short line first s (list_too_long {request} {long = other} P of after rose is kept) read =
      let above = beside_longer request e other after is in absurd (omega (arith, above, short))
  list_refusal_at asked_for e short line first s (list_unreadable after rose kept) read = absurd (read rose)
  list_refusal_at asked_for e short line first s (list_refused {request} {line = number} P other content of after file within other_first kept) read =
      inl (ap status.AfterRefused (one_line bytes number line
      (subst (λ bs. IsFirstRefused bs number) (beside_bytes request e other content after file) other_first) first))
  list_refusal_at asked_for e short line first s (unnamed {request} P content of list rose kept) read =
      absurd (no_line bytes line first (beside_list request e content list).1)
  list_refusal_at asked_for e short line first s (searched {request} P content of list A are all) read =
      absurd (no_line bytes line first (beside_list request e content list).1)

  pub list_refusal_comes : length bytes ≤ most_listed_bytes → (line : ℕ) → IsFirstRefused bytes line → (s : Status)
      → Outcome told shelf sink trace asks s → ¬ Rose shelf.faults shelf.faults' → Gives s (status.AfterRefused line)
  list_refusal_comes short line first s o read = list_refusal_at asks refl short line first s o read

-- ---- a task that is accepted

-- what came of an accepted task: there was no memory, a file can't be read or the journal's file not be named, and else it was searched
data Came (k : Task) (name : Option (List ℕ)) (shelf : Counts) (sink : SinkChange) (trace : TraceChange) : Status → Type 0 where
  stopped : IsStill sink trace → Came k name shelf sink trace status.OutOfMemory
  not_read : {read : List ℕ} → Rose shelf.faults shelf.faults' → IsStill sink trace → Came k name shelf sink trace (status.ReadFault read)
  not_named : Rose trace.faults trace.faults' → IsStill sink trace → Came k name shelf sink trace status.TraceFault
  done : {s : Status} → Searched k sink (record trace { told = begun name trace.told }) s → Came k name shelf sink trace s

module _ (told : Told) (shelf : Counts) (sink : SinkChange) (trace : TraceChange) (k : Task) (asks : Option Solve) (a : IsAccepted asks told k) where
  -- the files have just this text
  accepted_text : (request : Solve) → asks ≡ Some request → (text : List ℕ) → IsTextOf told request.files text → text ≡ a.text
  accepted_text request e text is =
      let same : request ≡ a.request = same_solve request a.request (sym e ∙ a.asked) in
      one_text a.files a.request.files text a.text
      (subst (λ (q : Solve). IsJoinedText a.files q.files text) same
      (at_files told a.files (λ files. IsJoinedText files request.files text) a.told_is is)) a.joined

  -- which is that of this program
  accepted_program : (request : Solve) → asks ≡ Some request → (P : List Statement) → IsProgramOf told request.files P → k.program ≡ P
  accepted_program request e P of =
      one_program a.text k.program P a.program (subst (λ t. IsProgramText t P) (accepted_text request e of.0 of.1) of.2)

  -- and is no text that is refused
  accepted_refused : (request : Solve) → asks ≡ Some request → (r : Refusal) (text : List ℕ) → IsTextOf told request.files text
      → IsRefusedText text r → ⊥
  accepted_refused request e r text is why =
      not_refused a.text k.program r a.program (subst (λ t. IsRefusedText t r) (accepted_text request e text is) why)

  -- no file makes them too long
  accepted_long : (request : Solve) → asks ≡ Some request → (other : List ℕ) → IfSome told (λ files. MakesTooLong files request.files other) → ⊥
  accepted_long request e other is =
      let same : request ≡ a.request = same_solve request a.request (sym e ∙ a.asked) in
      no_text a.files a.request.files other a.text
      (subst (λ (q : Solve). MakesTooLong a.files q.files other) same
      (at_files told a.files (λ files. MakesTooLong files request.files other) a.told_is is)) a.joined

  -- the file of sets has just these bytes
  accepted_list : (request : Solve) → asks ≡ Some request → (content : List ℕ) → IsListOf told request.after content → k.bytes ≡ content
  accepted_list request e content is =
      let same : request ≡ a.request = same_solve request a.request (sym e ∙ a.asked) in
      same_list a.files a.request.after k.bytes content a.list
      (subst (λ (q : Solve). IsListFile a.files q.after content) same
      (at_files told a.files (λ files. IsListFile files request.after content) a.told_is is))

  -- the file that is asked for is there, within its limit, and each line of it may stand there
  accepted_name : (request : Solve) → asks ≡ Some request → (other : List ℕ) → request.after ≡ Some other
      → (a.files other ≡ Some k.bytes) × (length k.bytes ≤ most_listed_bytes) × Each IsFine (ended_lines k.bytes)
  accepted_name request e other after =
      let same : a.request ≡ request = same_solve a.request request (sym a.asked ∙ e) in
      named_list a.files a.request.after other k.bytes (ap (λ (q : Solve). q.after) same ∙ after) a.list

  accepted_longer : (request : Solve) → asks ≡ Some request → (other : List ℕ) → request.after ≡ Some other
      → IfSome told (λ files. IsLonger files most_listed_bytes other) → ⊥
  accepted_longer request e other after is =
      let at : IsLonger a.files most_listed_bytes other = at_files told a.files (λ files. IsLonger files most_listed_bytes other) a.told_is is in
      let n = accepted_name request e other after in
      let whole : at.bytes ≡ k.bytes = same_some at.bytes k.bytes (sym at.file ∙ n.0) in
      let above = subst (λ bs. most_listed_bytes < length bs) whole at.above in
      let short = n.1 in
      omega (arith, above, short)

  accepted_line : (request : Solve) → asks ≡ Some request → (other content : List ℕ) → request.after ≡ Some other → FileIs told other content
      → (line : ℕ) → IsFirstRefused content line → ⊥
  accepted_line request e other content after file line first =
      let at : a.files other ≡ Some content = at_files told a.files (λ files. files other ≡ Some content) a.told_is file in
      let n = accepted_name request e other after in
      no_line k.bytes line (subst (λ bs. IsFirstRefused bs line) (same_some content k.bytes (sym at ∙ n.0)) first) n.2

  -- the task is that of the files
  accepted_task : (request : Solve) → asks ≡ Some request → (P : List Statement) (content : List ℕ) → IsProgramOf told request.files P
      → IsListOf told request.after content → IsTaskFor P content request.settings k
  accepted_task request e P content of list =
      let same : a.request ≡ request = same_solve a.request request (sym a.asked ∙ e) in
      record {
        program = accepted_program request e P of;
        list = accepted_list request e content list;
        settings_are = a.settings ∙ ap (λ (q : Solve). q.settings) same;
      }

  came_at : (asked_for : Option Solve) → asks ≡ asked_for → (s : Status) → Outcome told shelf sink trace asked_for s
      → Came k (trace_name asked_for) shelf sink trace s
  came_at asked_for e s (usage kept) = absurd (no_words a.request (sym e ∙ a.asked))
  came_at asked_for e s (no_memory kept) = stopped kept
  came_at asked_for e s (too_long {request} {long = other} among rose is kept) = absurd (accepted_long request e other is)
  came_at asked_for e s (unreadable among rose kept) = not_read rose kept
  came_at asked_for e s (refused {request} {r} text is why kept) = absurd (accepted_refused request e r text is why)
  came_at asked_for e s (list_too_long {request} {long = other} P of after rose is kept) = absurd (accepted_longer request e other after is)
  came_at asked_for e s (list_unreadable after rose kept) = not_read rose kept
  came_at asked_for e s (list_refused {request} {line} P other content of after file within first kept) =
      absurd (accepted_line request e other content after file line first)
  came_at asked_for e s (unnamed P content of list rose kept) = not_named rose kept
  came_at asked_for e s (searched {request} P content of list A are all) = done (all k (accepted_task request e P content of list))

  came : (s : Status) → Outcome told shelf sink trace asks s → Came k (trace_name asks) shelf sink trace s
  came s o = came_at asks refl s o

module _ (shelf : Counts) (sink : SinkChange) (trace : TraceChange) (k : Task) (name : Option (List ℕ)) where
  -- the trace from where its file was named on
  abbrev after_begin : TraceChange
  after_begin = record trace { told = begun name trace.told }

  -- ---- which status comes

  ended_is : (s : Status) → WroteAll k sink after_begin s → IsEnded s
  ended_is (status.Finished printed) w = tt
  ended_is (status.LimitReached printed) w = tt
  ended_is (status.BudgetSpent kind number printed) w = tt
  ended_is (status.TermTooLarge line size printed) w = tt
  ended_is (status.Overflow line op left right printed) w = tt
  ended_is status.OutOfMemory w = tt
  ended_is status.Usage w = absurd w.ends
  ended_is (status.Refused r) w = absurd w.ends
  ended_is (status.TextTooLong name) w = absurd w.ends
  ended_is (status.ReadFault read) w = absurd w.ends
  ended_is (status.AfterRefused line) w = absurd w.ends
  ended_is status.WriteFault w = absurd w.ends
  ended_is status.TraceFault w = absurd w.ends

  searched_ends : (s : Status) → Searched k sink after_begin s → ¬ Rose sink.faults sink.faults' → ¬ Rose trace.faults trace.faults' → IsEnded s
  searched_ends s (ended w) write note = ended_is s w
  searched_ends s (cut_off rose w) write note = write rose
  searched_ends s (untraced rose w) write note = note rose
  searched_ends s (memory w) write note = tt
  searched_ends s (cut_off_memory rose w) write note = tt

  came_ends : (s : Status) → Came k name shelf sink trace s → ¬ Rose shelf.faults shelf.faults' → ¬ Rose sink.faults sink.faults' → ¬ Rose trace.faults trace.faults' → IsEnded s
  came_ends s (stopped kept) read write note = tt
  came_ends s (not_read rose kept) read write note = read rose
  came_ends s (not_named rose kept) read write note = note rose
  came_ends s (done w) read write note = searched_ends s w write note

  -- ---- set lines

  module _ (b : List ℕ) (is : IsAppended sink.held sink.held' b) where
    -- the set lines, which are those of answer sets that aren't listed, and stand once
    abbrev AreFine : Type 0
    AreFine = Each (IsNewLine k) (set_lines b) × HasNoRepeats (set_lines b)

    nothing_fine : IsStill sink trace → AreFine
    nothing_fine kept =
        let none : set_lines b ≡ [] = ap set_lines (kept_is sink.held sink.held' b is kept.bytes) in
        (subst (Each (IsNewLine k)) (sym none) tt, subst HasNoRepeats (sym none) tt)

    shows_fine : Shows k after_begin b → AreFine
    shows_fine h = (subst (Each (IsNewLine k)) (sym h.are) h.sets.each, subst HasNoRepeats (sym h.are) h.sets.once)

    searched_shows : (s : Status) → Searched k sink after_begin s → Shows k after_begin b
    searched_shows s (ended w) = shows-all k sink after_begin b is s w
    searched_shows s (cut_off rose w) = shows-front k sink after_begin b is w
    searched_shows s (untraced rose w) = shows-lines k sink after_begin b is (noted_alone k sink after_begin w)
    searched_shows s (memory w) = shows-lines k sink after_begin b is w
    searched_shows s (cut_off_memory rose w) = shows-front k sink after_begin b is w

    came_fine : (s : Status) → Came k name shelf sink trace s → AreFine
    came_fine s (stopped kept) = nothing_fine kept
    came_fine s (not_read rose kept) = nothing_fine kept
    came_fine s (not_named rose kept) = nothing_fine kept
    came_fine s (done w) = shows_fine (searched_shows s w)

    searched_all : (printed : ℕ) (s : Status) → s ≡ status.Finished printed → Searched k sink after_begin s → HaveAllOthers k (set_lines b)
    searched_all printed s e (ended w) = have_all k sink after_begin b is printed (subst (WroteAll k sink after_begin) e w)
    searched_all printed s e (cut_off rose w) = absurd (cc)
    searched_all printed s e (untraced rose w) = absurd (cc)
    searched_all printed s e (memory w) = absurd (cc)
    searched_all printed s e (cut_off_memory rose w) = absurd (cc)

    came_all : (printed : ℕ) (s : Status) → s ≡ status.Finished printed → Came k name shelf sink trace s → HaveAllOthers k (set_lines b)
    came_all printed s e (stopped kept) = absurd (cc)
    came_all printed s e (not_read rose kept) = absurd (cc)
    came_all printed s e (not_named rose kept) = absurd (cc)
    came_all printed s e (done w) = searched_all printed s e w

  -- ---- events

  searched_journal : (s : Status) → Searched k sink after_begin s → (lines : List (List ℕ)) × Journaled (core_for k.program) k.listed after_begin lines
  searched_journal s (ended w) = (w.lines, w.journaled)
  searched_journal s (cut_off rose w) = (w.lines, w.journaled)
  searched_journal s (untraced rose (inl w)) = (w.0.lines, w.0.journaled)
  searched_journal s (untraced rose (inr w)) = (w.0.lines, w.0.journaled)
  searched_journal s (memory (inl w)) = (w.lines, w.journaled)
  searched_journal s (memory (inr w)) = (w.lines, w.journaled)
  searched_journal s (cut_off_memory rose w) = (w.lines, w.journaled)

  module _ (E : List Event) (noted : IsNoted trace.told trace.told' E) where
    -- where nothing was noted
    still_legal : IsStill sink trace → AreShownLines k E []
    still_legal kept = nothing_said k E (none_noted trace.told trace.told' E kept.events noted)

    legal_lines : (lines : List (List ℕ)) → AreShownLines k E lines → AreLegal k E
    legal_lines lines h = (h.journal, h.said)

    came_legal : (s : Status) → Came k name shelf sink trace s → AreLegal k E
    came_legal s (stopped kept) = legal_lines [] (still_legal kept)
    came_legal s (not_read rose kept) = legal_lines [] (still_legal kept)
    came_legal s (not_named rose kept) = legal_lines [] (still_legal kept)
    came_legal s (done w) = let j = searched_journal s w in legal_lines j.0 (shown_lines k name trace E noted j.0 j.1)

    searched_spent : (kind : BudgetKind) (number printed : ℕ) (s : Status) → s ≡ status.BudgetSpent kind number printed → Searched k sink after_begin s → (number ≡ most_of kind k.settings) × AreSpent k E kind number
    searched_spent kind number printed s e (ended w) =
        let at = subst (WroteAll k sink after_begin) e w in
        (at.ends.2, spent k name trace E noted kind number (record { journal = at.journaled.journal; told = told_by k after_begin at.lines at.journaled; used = at.ends.3; one_more = at.ends.4 }))
    searched_spent kind number printed s e (cut_off rose w) = absurd (cc)
    searched_spent kind number printed s e (untraced rose w) = absurd (cc)
    searched_spent kind number printed s e (memory w) = absurd (cc)
    searched_spent kind number printed s e (cut_off_memory rose w) = absurd (cc)

    came_spent : (kind : BudgetKind) (number printed : ℕ) (s : Status) → s ≡ status.BudgetSpent kind number printed → Came k name shelf sink trace s → (number ≡ most_of kind k.settings) × AreSpent k E kind number
    came_spent kind number printed s e (stopped kept) = absurd (cc)
    came_spent kind number printed s e (not_read rose kept) = absurd (cc)
    came_spent kind number printed s e (not_named rose kept) = absurd (cc)
    came_spent kind number printed s e (done w) = searched_spent kind number printed s e w

    searched_ended : (printed : ℕ) (s : Status) → s ≡ status.Finished printed → Searched k sink after_begin s → AreEnded k E
    searched_ended printed s e (ended w) =
        let at = subst (WroteAll k sink after_begin) e w in
        has_ended k name trace E noted (record { journal = at.journaled.journal; told = told_by k after_begin at.lines at.journaled; ended = at.ends.3 })
    searched_ended printed s e (cut_off rose w) = absurd (cc)
    searched_ended printed s e (untraced rose w) = absurd (cc)
    searched_ended printed s e (memory w) = absurd (cc)
    searched_ended printed s e (cut_off_memory rose w) = absurd (cc)

    came_ended : (printed : ℕ) (s : Status) → s ≡ status.Finished printed → Came k name shelf sink trace s → AreEnded k E
    came_ended printed s e (stopped kept) = absurd (cc)
    came_ended printed s e (not_read rose kept) = absurd (cc)
    came_ended printed s e (not_named rose kept) = absurd (cc)
    came_ended printed s e (done w) = searched_ended printed s e w

    searched_too_large : (line size printed : ℕ) (s : Status) → s ≡ status.TermTooLarge line size printed → Searched k sink after_begin s → AreTooLarge k E line size
    searched_too_large line size printed s e (ended w) =
        let at = subst (WroteAll k sink after_begin) e w in
        too_large k name trace E noted line size (record { journal = at.journaled.journal; told = told_by k after_begin at.lines at.journaled; too_large = at.ends.2 })
    searched_too_large line size printed s e (cut_off rose w) = absurd (cc)
    searched_too_large line size printed s e (untraced rose w) = absurd (cc)
    searched_too_large line size printed s e (memory w) = absurd (cc)
    searched_too_large line size printed s e (cut_off_memory rose w) = absurd (cc)

    came_too_large : (line size printed : ℕ) (s : Status) → s ≡ status.TermTooLarge line size printed → Came k name shelf sink trace s → AreTooLarge k E line size
    came_too_large line size printed s e (stopped kept) = absurd (cc)
    came_too_large line size printed s e (not_read rose kept) = absurd (cc)
    came_too_large line size printed s e (not_named rose kept) = absurd (cc)
    came_too_large line size printed s e (done w) = searched_too_large line size printed s e w

    searched_overflow : (line : ℕ) (op : ArithOp) (left right : ℤ) (printed : ℕ) (s : Status) → s ≡ status.Overflow line op left right printed → Searched k sink after_begin s → AreOverflow k E line op left right
    searched_overflow line op left right printed s e (ended w) =
        let at = subst (WroteAll k sink after_begin) e w in
        overflow k name trace E noted line op left right (record { journal = at.journaled.journal; told = told_by k after_begin at.lines at.journaled; overflow = at.ends.2 })
    searched_overflow line op left right printed s e (cut_off rose w) = absurd (cc)
    searched_overflow line op left right printed s e (untraced rose w) = absurd (cc)
    searched_overflow line op left right printed s e (memory w) = absurd (cc)
    searched_overflow line op left right printed s e (cut_off_memory rose w) = absurd (cc)

    came_overflow : (line : ℕ) (op : ArithOp) (left right : ℤ) (printed : ℕ) (s : Status) → s ≡ status.Overflow line op left right printed → Came k name shelf sink trace s → AreOverflow k E line op left right
    came_overflow line op left right printed s e (stopped kept) = absurd (cc)
    came_overflow line op left right printed s e (not_read rose kept) = absurd (cc)
    came_overflow line op left right printed s e (not_named rose kept) = absurd (cc)
    came_overflow line op left right printed s e (done w) = searched_overflow line op left right printed s e w

    -- so many sets are shown as the journal has lines
    shown_many : (lines : List (List ℕ)) → Journaled (core_for k.program) k.listed after_begin lines → length (shown_sets E) ≡ length lines
    shown_many lines j =
        let are = shown_lines k name trace E noted lines j in
        sym (lines_length (state_after k are.journal) (shown_sets E) lines are.lines_are)

    -- so fewer than are shown at the limit
    too_few : (lines : List (List ℕ)) → Journaled (core_for k.program) k.listed after_begin lines → length (shown_sets E) ≡ k.settings.limit → length lines < k.settings.limit → ⊥
    too_few lines j all few = let many = shown_many lines j in omega (arith, many, all, few)

    ended_limit : (s : Status) → length (shown_sets E) ≡ k.settings.limit → WroteAll k sink after_begin s → Gives s (status.LimitReached k.settings.limit)
    ended_limit (status.Finished printed) all w = absurd (too_few w.lines w.journaled all w.ends.1)
    ended_limit (status.LimitReached printed) all w = inl (ap status.LimitReached (w.ends.0 ∙ sym w.ends.1))
    ended_limit (status.BudgetSpent kind number printed) all w = absurd (too_few w.lines w.journaled all w.ends.1)
    ended_limit (status.TermTooLarge line size printed) all w = absurd (too_few w.lines w.journaled all w.ends.1)
    ended_limit (status.Overflow line op left right printed) all w = absurd (too_few w.lines w.journaled all w.ends.1)
    ended_limit status.OutOfMemory all w = absurd w.ends
    ended_limit status.Usage all w = absurd w.ends
    ended_limit (status.Refused r) all w = absurd w.ends
    ended_limit (status.TextTooLong name) all w = absurd w.ends
    ended_limit (status.ReadFault read) all w = absurd w.ends
    ended_limit (status.AfterRefused line) all w = absurd w.ends
    ended_limit status.WriteFault all w = absurd w.ends
    ended_limit status.TraceFault all w = absurd w.ends

    fewer_noted : WroteFewer k sink after_begin → length (shown_sets E) ≡ k.settings.limit → ⊥
    fewer_noted (inl w) all = too_few w.0.lines w.0.journaled all w.1
    fewer_noted (inr w) all = too_few w.0.lines w.0.journaled all w.1

    searched_limit : (s : Status) → length (shown_sets E) ≡ k.settings.limit → ¬ Rose sink.faults sink.faults' → Searched k sink after_begin s → Gives s (status.LimitReached k.settings.limit)
    searched_limit s all write (ended w) = ended_limit s all w
    searched_limit s all write (cut_off rose w) = absurd (write rose)
    searched_limit s all write (untraced rose w) = absurd (fewer_noted w all)
    searched_limit s all write (memory w) = inr refl
    searched_limit s all write (cut_off_memory rose w) = inr refl

    nothing_shown_at : IsStill sink trace → 0 < k.settings.limit → length (shown_sets E) ≡ k.settings.limit → ⊥
    nothing_shown_at kept some all =
        let none : length (shown_sets E) ≡ 0 = ap (λ es. length (shown_sets es)) (none_noted trace.told trace.told' E kept.events noted) in
        omega (arith, none, some, all)

    came_limit : (s : Status) → 0 < k.settings.limit → length (shown_sets E) ≡ k.settings.limit → ¬ Rose sink.faults sink.faults' → Came k name shelf sink trace s → Gives s (status.LimitReached k.settings.limit)
    came_limit s some all write (stopped kept) = inr refl
    came_limit s some all write (not_read rose kept) = absurd (nothing_shown_at kept some all)
    came_limit s some all write (not_named rose kept) = absurd (nothing_shown_at kept some all)
    came_limit s some all write (done w) = searched_limit s all write w

    module _ (b : List ℕ) (is : IsAppended sink.held sink.held' b) where
      -- all lines, or all but one, as the events say
      all_or_one : Shows k after_begin b → AreShownLines k E (set_lines b) ⊎ AreShownLinesAndOne k E (set_lines b)
      all_or_one h = elim h.few [
        | inl none ↦ inl (subst (AreShownLines k E) (sym (h.are ∙ ap (λ xs. h.noted ++ xs) none ∙ append-nil h.noted)) (shown_lines k name trace E noted h.noted h.journaled))
        | inr some ↦ inr (h.noted, some.0, h.are ∙ ap (λ xs. h.noted ++ xs) some.1, shown_lines k name trace E noted h.noted h.journaled)
      ]

      nothing_shown : IsStill sink trace → AreShownLines k E (set_lines b)
      nothing_shown kept =
          subst (AreShownLines k E) (sym (ap set_lines (kept_is sink.held sink.held' b is kept.bytes))) (still_legal kept)

      all_ended : (s : Status) → WroteAll k sink after_begin s → AreShownLines k E (set_lines b)
      all_ended s w = subst (AreShownLines k E) (sym (all_lines k sink after_begin b is s w)) (shown_lines k name trace E noted w.lines w.journaled)

      -- all lines, whatever the status
      lines_of : (s : Status) → AreShownLines k E (set_lines b) → LinesAre k s E (set_lines b)
      lines_of (status.Finished printed) h = h
      lines_of (status.LimitReached printed) h = h
      lines_of (status.BudgetSpent kind number printed) h = h
      lines_of (status.TermTooLarge line size printed) h = h
      lines_of (status.Overflow line op left right printed) h = h
      lines_of status.Usage h = h
      lines_of (status.Refused r) h = h
      lines_of (status.TextTooLong name) h = h
      lines_of (status.ReadFault read) h = h
      lines_of (status.AfterRefused line) h = h
      lines_of status.WriteFault h = inl h
      lines_of status.TraceFault h = inl h
      lines_of status.OutOfMemory h = inl h

      searched_lines : (s : Status) → Searched k sink after_begin s → LinesAre k s E (set_lines b)
      searched_lines s (ended w) = lines_of s (all_ended s w)
      searched_lines s (cut_off rose w) = all_or_one (shows-front k sink after_begin b is w)
      searched_lines s (untraced rose w) = all_or_one (shows-lines k sink after_begin b is (noted_alone k sink after_begin w))
      searched_lines s (memory w) = all_or_one (shows-lines k sink after_begin b is w)
      searched_lines s (cut_off_memory rose w) = all_or_one (shows-front k sink after_begin b is w)

      came_lines : (s : Status) → Came k name shelf sink trace s → LinesAre k s E (set_lines b)
      came_lines s (stopped kept) = inl (nothing_shown kept)
      came_lines s (not_read rose kept) = nothing_shown kept
      came_lines s (not_named rose kept) = inl (nothing_shown kept)
      came_lines s (done w) = searched_lines s w

-- ---- the promises

module _ (told : Told) (shelf : Counts) (sink : SinkChange) (trace : TraceChange) (asks : Option Solve) (k : Task) (a : IsAccepted asks told k)
    (s : Status) (o : Outcome told shelf sink trace asks s) where
  -- what came of the task
  here : Came k (trace_name asks) shelf sink trace s
  here = came told shelf sink trace k asks a s o

  pub accepted_ends : ¬ Rose shelf.faults shelf.faults' → ¬ Rose sink.faults sink.faults' → ¬ Rose trace.faults trace.faults' → IsEnded s
  accepted_ends = came_ends shelf sink trace k (trace_name asks) s here

  module _ (b : List ℕ) (is : IsAppended sink.held sink.held' b) where
    pub shown_are_answer_sets : Each (IsNewLine k) (set_lines b)
    shown_are_answer_sets = (came_fine shelf sink trace k (trace_name asks) b is s here).0

    pub shown_once : HasNoRepeats (set_lines b)
    shown_once = (came_fine shelf sink trace k (trace_name asks) b is s here).1

    pub finished_is_complete : (printed : ℕ) → s ≡ status.Finished printed → HaveAllOthers k (set_lines b)
    finished_is_complete printed e = came_all shelf sink trace k (trace_name asks) b is printed s e here

  module _ (E : List Event) (noted : IsNoted trace.told trace.told' E) where
    pub journal_is_legal : AreLegal k E
    journal_is_legal = came_legal shelf sink trace k (trace_name asks) E noted s here

    pub finished_has_ended : (printed : ℕ) → s ≡ status.Finished printed → AreEnded k E
    finished_has_ended printed e = came_ended shelf sink trace k (trace_name asks) E noted printed s e here

    pub limit_is_reached : 0 < k.settings.limit → length (shown_sets E) ≡ k.settings.limit → ¬ Rose sink.faults sink.faults'
        → Gives s (status.LimitReached k.settings.limit)
    limit_is_reached some all write = came_limit shelf sink trace k (trace_name asks) E noted s some all write here

    pub budget_is_spent : (kind : BudgetKind) (number printed : ℕ) → s ≡ status.BudgetSpent kind number printed
        → (number ≡ most_of kind k.settings) × AreSpent k E kind number
    budget_is_spent kind number printed e = came_spent shelf sink trace k (trace_name asks) E noted kind number printed s e here

    pub term_too_large : (line size printed : ℕ) → s ≡ status.TermTooLarge line size printed → AreTooLarge k E line size
    term_too_large line size printed e = came_too_large shelf sink trace k (trace_name asks) E noted line size printed s e here

    pub overflow_in_rule : (line : ℕ) (op : ArithOp) (left right : ℤ) (printed : ℕ) → s ≡ status.Overflow line op left right printed
        → AreOverflow k E line op left right
    overflow_in_rule line op left right printed e =
        came_overflow shelf sink trace k (trace_name asks) E noted line op left right printed s e here

    pub lines_are_shown_events : (b : List ℕ) → IsAppended sink.held sink.held' b → LinesAre k s E (set_lines b)
    lines_are_shown_events b is = came_lines shelf sink trace k (trace_name asks) E noted b is s here
