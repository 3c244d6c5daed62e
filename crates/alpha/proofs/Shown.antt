-- The set lines of an output, and its bytes, by what was written.
use Rattle.std.proofs.Common.{◌≡◌, ◌⊎◌, inl, inr, refl, sym, ap, subst, ◌∙◌, ℕ, List, [], ◌∷◌, ◌++◌, length, take, append-nil}
use Rattle.lists.specs.Lists.{Each, HasNoRepeats, concat}
use Rattle.lists.proofs.ListLemmas.{Each-map}
use Rattle.asp_meaning.specs.Output.{set_lines, IsBraceLine}
use Rattle.asp_meaning.proofs.LineLemmas.{IsOtherLine, set_lines-concat, set_lines-take, set_lines-other}
use Rattle.lists.proofs.ListLemmas.{Each-append, ∈-append_cases}
use Rattle.lists.specs.Lists.{◌∈◌}
use Rattle.search_journals.specs.Search.{SinkChange, TraceChange, Journaled}
use Rattle.alpha.specs.declared.status.Status.{Status}
use Rattle.alpha.specs.declared.status.Status.TheVariants as status
use Rattle.alpha.specs.Texts.{last_line_of}
use Rattle.alpha.specs.Promises.{IsNewLine, HaveAllOthers, IsAppended, IsLineOfSet, IsSetLines, IsWholeOutput, IsCutOutput, HasPrinted, IsLastLine, OutputIs}
use Rattle.alpha.specs.Journals.{Task, core_for}
use Rattle.alpha.specs.Outcomes.{AreNewLines, WroteAll, Wrote, WroteOneMore, WroteFewer, IsNext, WroteFront}
use Rattle.alpha.proofs.Appended.{appended_is}
use Rattle.alpha.proofs.LastLine.{last_line_is_other}

-- ---- lines

take-all : (xs : List ℕ) → take (length xs) xs ≡ xs
take-all [] = refl
take-all (x ∷ xs) = ap (λ ys. x ∷ ys) (take-all xs)

whole_set_lines : (lines : List (List ℕ)) → Each IsBraceLine lines → set_lines (concat lines) ≡ lines
whole_set_lines lines whole = ap set_lines (sym (append-nil (concat lines))) ∙ set_lines-concat lines [] whole ∙ append-nil lines

-- lines before a front of another line that is none of a set
before_other : (lines : List (List ℕ)) (other : List ℕ) (cut : ℕ) → Each IsBraceLine lines → IsOtherLine other → set_lines (concat lines ++ take cut other) ≡ lines
before_other lines other cut whole is = set_lines-concat lines (take cut other) whole ∙ ap (λ xs. lines ++ xs) (set_lines-other cut other is) ∙ append-nil lines

-- and before such a line
before_whole_other : (lines : List (List ℕ)) (other : List ℕ) → Each IsBraceLine lines → IsOtherLine other → set_lines (concat lines ++ other) ≡ lines
before_whole_other lines other whole is =
    ap (λ xs. set_lines (concat lines ++ xs)) (sym (take-all other)) ∙ before_other lines other (length other) whole is

once-push : (xs : List (List ℕ)) (x : List ℕ) → HasNoRepeats xs → ¬ (x ∈ xs) → HasNoRepeats (xs ++ x ∷ [])
once-push [] x once new = ((λ k. k), tt)
once-push (y ∷ ys) x once new = (
  (λ k. elim (∈-append_cases y ys (x ∷ []) k) [ inl l ↦ once.0 l | inr r ↦ elim r [ inl e ↦ new (inl (sym e)) | inr none ↦ none ] ]),
  once-push ys x once.1 (λ k. new (inr k)),
)

-- what was written, whatever may be
pub noted_alone : (k : Task) (sink : SinkChange) (trace : TraceChange) → WroteFewer k sink trace → Wrote k sink trace ⊎ WroteOneMore k sink trace
noted_alone k sink trace (inl w) = inl w.0
noted_alone k sink trace (inr w) = inr w.0

-- ---- how a run ended

-- a run that ended by itself has printed what it says
pub printed_all : (k : Task) (sink : SinkChange) (trace : TraceChange) (s : Status) (w : WroteAll k sink trace s) → HasPrinted (length w.lines) s
printed_all k sink trace (status.Finished printed) w = w.ends.0
printed_all k sink trace (status.LimitReached printed) w = w.ends.0
printed_all k sink trace (status.BudgetSpent kind number printed) w = w.ends.0
printed_all k sink trace (status.TermTooLarge line size printed) w = w.ends.0
printed_all k sink trace (status.Overflow line op left right printed) w = w.ends.0
printed_all k sink trace status.Usage w = absurd w.ends
printed_all k sink trace (status.Refused r) w = absurd w.ends
printed_all k sink trace (status.TextTooLong name) w = absurd w.ends
printed_all k sink trace (status.ReadFault name) w = absurd w.ends
printed_all k sink trace (status.AfterRefused line) w = absurd w.ends
printed_all k sink trace status.WriteFault w = absurd w.ends
printed_all k sink trace status.TraceFault w = absurd w.ends
printed_all k sink trace status.OutOfMemory w = absurd w.ends

-- its last line is no set line
pub last_is_other : (k : Task) (sink : SinkChange) (trace : TraceChange) (s : Status) (w : WroteAll k sink trace s) → IsOtherLine (last_line_of s)
last_is_other k sink trace s w = last_line_is_other (length w.lines) (last_line_of s) (s, printed_all k sink trace s w, refl)

-- ---- the set lines

-- lines of answer sets, of which the journal tells all or all but the last
pub record Shows (k : Task) (trace : TraceChange) (b : List ℕ) : Type 0 where
  pub noted : List (List ℕ)
  pub more : List (List ℕ)
  pub few : (more ≡ []) ⊎ ((line : List ℕ) × (more ≡ line ∷ []))
  pub are : set_lines b ≡ noted ++ more
  pub sets : AreNewLines k (noted ++ more)
  pub journaled : Journaled (core_for k.program) k.listed trace noted

module _ (k : Task) (sink : SinkChange) (trace : TraceChange) (b : List ℕ) (is : IsAppended sink.held sink.held' b) where
  -- the set lines are just those of the journal
  pub all_lines : (s : Status) (w : WroteAll k sink trace s) → set_lines b ≡ w.lines
  all_lines s w =
      ap set_lines (appended_is sink.held sink.held' b (concat w.lines ++ last_line_of s) is w.bytes)
      ∙ before_whole_other w.lines (last_line_of s) w.sets.whole (last_is_other k sink trace s w)

  nothing_more : (lines : List (List ℕ)) → set_lines b ≡ lines → AreNewLines k lines → Journaled (core_for k.program) k.listed trace lines → Shows k trace b
  nothing_more lines are sets journaled = record {
    noted = lines;
    more = [];
    few = inl refl;
    are = are ∙ sym (append-nil lines);
    sets = subst (AreNewLines k) (sym (append-nil lines)) sets;
    journaled = journaled;
  }

  one_more : (lines : List (List ℕ)) (next : List ℕ) → set_lines b ≡ lines ++ next ∷ [] → AreNewLines k (lines ++ next ∷ []) → Journaled (core_for k.program) k.listed trace lines → Shows k trace b
  one_more lines next are sets journaled = record {
    noted = lines;
    more = next ∷ [];
    few = inr (next, refl);
    are = are;
    sets = sets;
    journaled = journaled;
  }

  pub shows-all : (s : Status) → WroteAll k sink trace s → Shows k trace b
  shows-all s w = nothing_more w.lines (all_lines s w) w.sets w.journaled

  pub shows-lines : Wrote k sink trace ⊎ WroteOneMore k sink trace → Shows k trace b
  shows-lines (inl w) =
      nothing_more w.lines (ap set_lines (appended_is sink.held sink.held' b (concat w.lines) is w.bytes) ∙ whole_set_lines w.lines w.sets.whole) w.sets w.journaled
  shows-lines (inr w) =
      one_more w.lines w.next
      (ap set_lines (appended_is sink.held sink.held' b (concat (w.lines ++ w.next ∷ [])) is w.bytes) ∙ whole_set_lines (w.lines ++ w.next ∷ []) w.sets.whole)
      w.sets w.journaled

  with_next : (lines : List (List ℕ)) (next : List ℕ) → AreNewLines k lines → IsNewLine k next → IsBraceLine next → ¬ (next ∈ lines) → AreNewLines k (lines ++ next ∷ [])
  with_next lines next sets set whole new = record {
    each = Each-append (IsNewLine k) lines (next ∷ []) sets.each (set, tt);
    once = once-push lines next sets.once new;
    whole = Each-append IsBraceLine lines (next ∷ []) sets.whole (whole, tt);
  }

  shows-next : (lines : List (List ℕ)) (next : List ℕ) (cut : ℕ) → b ≡ concat lines ++ take cut next → AreNewLines k lines → Journaled (core_for k.program) k.listed trace lines → IsNext k lines next → Shows k trace b
  shows-next lines next cut e sets journaled (inr last) =
      nothing_more lines (ap set_lines e ∙ before_other lines next cut sets.whole (last_line_is_other (length lines) next last)) sets journaled
  shows-next lines next cut e sets journaled (inl set) = elim (set_lines-take cut next set.1) [
    | inl none ↦ nothing_more lines (ap set_lines e ∙ set_lines-concat lines (take cut next) sets.whole ∙ ap (λ xs. lines ++ xs) none ∙ append-nil lines) sets journaled
    | inr whole ↦
        one_more lines next (ap set_lines e ∙ set_lines-concat lines (take cut next) sets.whole ∙ ap (λ xs. lines ++ xs) whole) (with_next lines next sets set.0 set.1 set.2) journaled
  ]

  pub shows-front : WroteFront k sink trace → Shows k trace b
  shows-front w = shows-next w.lines w.next w.cut (appended_is sink.held sink.held' b (concat w.lines ++ take w.cut w.next) is w.bytes) w.sets w.journaled w.next_is

  pub have_all : (printed : ℕ) → WroteAll k sink trace (status.Finished printed) → HaveAllOthers k (set_lines b)
  have_all printed w = subst (HaveAllOthers k) (sym (all_lines (status.Finished printed) w)) w.ends.2

  -- ---- byte for byte

  set_of : (line : List ℕ) → IsNewLine k line → IsLineOfSet line
  set_of line l = (l.set, l.answer_set.set, l.is)

  sets_of : (lines : List (List ℕ)) → AreNewLines k lines → Each IsLineOfSet lines
  sets_of lines sets = Each-map (IsNewLine k) IsLineOfSet set_of lines sets.each

  whole_output : (s : Status) (printed : ℕ) (w : WroteAll k sink trace s) → printed ≡ length w.lines → IsWholeOutput s printed b
  whole_output s printed w count = record {
    lines = w.lines;
    bytes = appended_is sink.held sink.held' b (concat w.lines ++ last_line_of s) is w.bytes;
    sets = sets_of w.lines w.sets;
    count = count;
  }

  pub ended_output : (s : Status) → WroteAll k sink trace s → OutputIs sink.faults sink.faults' s b
  ended_output (status.Finished printed) w = whole_output (status.Finished printed) printed w w.ends.0
  ended_output (status.LimitReached printed) w = whole_output (status.LimitReached printed) printed w w.ends.0
  ended_output (status.BudgetSpent kind number printed) w = whole_output (status.BudgetSpent kind number printed) printed w w.ends.0
  ended_output (status.TermTooLarge line size printed) w = whole_output (status.TermTooLarge line size printed) printed w w.ends.0
  ended_output (status.Overflow line op left right printed) w = whole_output (status.Overflow line op left right printed) printed w w.ends.0
  ended_output status.Usage w = absurd w.ends
  ended_output (status.Refused r) w = absurd w.ends
  ended_output (status.TextTooLong name) w = absurd w.ends
  ended_output (status.ReadFault name) w = absurd w.ends
  ended_output (status.AfterRefused line) w = absurd w.ends
  ended_output status.WriteFault w = absurd w.ends
  ended_output status.TraceFault w = absurd w.ends
  ended_output status.OutOfMemory w = absurd w.ends

  next_of : (lines : List (List ℕ)) (next : List ℕ) → IsNext k lines next → IsLineOfSet next ⊎ IsLastLine (length lines) next
  next_of lines next (inl set) = inl (set_of next set.0)
  next_of lines next (inr last) = inr last

  pub cut_output : WroteFront k sink trace → IsCutOutput b
  cut_output w = record {
    lines = w.lines;
    next = w.next;
    cut = w.cut;
    bytes = appended_is sink.held sink.held' b (concat w.lines ++ take w.cut w.next) is w.bytes;
    sets = sets_of w.lines w.sets;
    next_is = next_of w.lines w.next w.next_is;
  }

  pub lines_output : Wrote k sink trace ⊎ WroteOneMore k sink trace → IsSetLines b
  lines_output (inl w) =
      record { lines = w.lines; bytes = appended_is sink.held sink.held' b (concat w.lines) is w.bytes; sets = sets_of w.lines w.sets }
  lines_output (inr w) =
      record { lines = w.lines ++ w.next ∷ []; bytes = appended_is sink.held sink.held' b (concat (w.lines ++ w.next ∷ [])) is w.bytes; sets = sets_of (w.lines ++ w.next ∷ []) w.sets }
