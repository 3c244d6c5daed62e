-- From what a search over a core wrote and noted to what came of its program.
use Rattle.std.proofs.Common.{◌≡◌, ◌≤◌, ◌⊎◌, inl, inr, refl, sym, subst, ℕ, List, take, length, Option, arith}
use Rattle.std.specs.Prelude.{Result, Ok}
use Rattle.std.specs.Io.KnownBytes.{Appends, Keeps}
use Rattle.std.proofs.KnownBytes.{Appends-trans, Appends-kept}
use Rattle.lists.specs.Lists.{concat}
use Rattle.lists.proofs.ListLemmas.{Each-map}
use Rattle.alpha_outside.specs.Outside.{Rose}
use Rattle.asp_meaning.specs.Atoms.{Atom}
use Rattle.core_rules.specs.declared.rules.Core.{Core}
use Rattle.search_journals.specs.Journals.{Step}
use Rattle.search_journals.specs.Search as search
use Rattle.search_journals.specs.Search.{SinkChange, TraceChange, IsCoreSetLine, AreCoreSetLines, HaveAllOf, EndIs}
use Rattle.search_settings.specs.declared.Settings.{Settings}
use Rattle.search_journals.specs.declared.ends.End.{End}
use Rattle.search_journals.specs.declared.ends.SearchFault.{SearchFault}
use Rattle.search_journals.specs.declared.ends.End.TheVariants.{Finished, LimitReached, Conflicts, Instances, Overflow, TermTooLarge}
use Rattle.alpha.specs.Journals.{Task, core_for}
use Rattle.alpha.specs.Texts.{last_line_of}
use Rattle.alpha.specs.Promises.{HasPrinted, IsNewLine, HaveAllOthers}
use Rattle.alpha.specs.Outcomes.{status_of, IsCoreOf, AreNewLines, EndsAs, WroteAll, Wrote, WroteOneMore, WroteFewer, WroteFront}

has_printed : (core : Core) (A : List (List Atom)) (settings : Settings) (lines : List (List ℕ)) (journal : List Step) (e : End)
    → EndIs core A settings lines journal e → HasPrinted (length lines) (status_of settings e)
has_printed core A settings lines journal (Finished printed) is = is.0
has_printed core A settings lines journal (LimitReached printed) is = is.0
has_printed core A settings lines journal (Conflicts printed) is = is.0
has_printed core A settings lines journal (Instances printed) is = is.0
has_printed core A settings lines journal (Overflow line op left right printed) is = is.0
has_printed core A settings lines journal (TermTooLarge line size printed) is = is.0

module _ (k : Task) (core : Core) (of : IsCoreOf k.program core) where
  -- ---- answer sets

  -- the line of a set of the core that isn't listed is that of an answer set of the program
  set_line : (line : List ℕ) → IsCoreSetLine (core_for k.program) k.listed line → IsNewLine k line
  set_line line l = record { set = l.set; answer_set = (of.answer_sets l.set l.once).1 l.has_core_sets; unlisted = l.unlisted; is = l.is }

  set_lines : (lines : List (List ℕ)) → AreCoreSetLines (core_for k.program) k.listed lines → AreNewLines k lines
  set_lines lines sets = record {
    each = Each-map (IsCoreSetLine (core_for k.program) k.listed) (IsNewLine k) set_line lines sets.each;
    once = sets.once;
    whole = sets.whole;
  }

  all_lines : (lines : List (List ℕ)) → HaveAllOf (core_for k.program) k.listed lines → HaveAllOthers k lines
  all_lines lines all = λ I is. all I is.set ((of.answer_sets I is.set).0 is)

  ends_as : (lines : List (List ℕ)) (journal : List Step) (e : End) → EndIs (core_for k.program) k.listed k.settings lines journal e
      → EndsAs k lines journal (status_of k.settings e)
  ends_as lines journal (Finished printed) is = (is.0, is.1.sets, all_lines lines is.2, is.3)
  ends_as lines journal (LimitReached printed) is = (is.0, is.1)
  ends_as lines journal (Conflicts printed) is = (is.0, is.1.sets, refl, is.2, is.3)
  ends_as lines journal (Instances printed) is = (is.0, is.1.sets, refl, is.2, is.3)
  ends_as lines journal (Overflow line op left right printed) is = (is.0, is.1.sets, is.2)
  ends_as lines journal (TermTooLarge line size printed) is = (is.0, is.1.sets, is.2)

  -- ---- what was written

  wrote : (sink : SinkChange) (trace : TraceChange) → search.Wrote (core_for k.program) k.listed sink trace → Wrote k sink trace
  wrote sink trace w = record { lines = w.lines; bytes = w.bytes; sets = set_lines w.lines w.sets; journaled = w.journaled }

  wrote_one_more : (sink : SinkChange) (trace : TraceChange) → search.WroteOneMore (core_for k.program) k.listed sink trace → WroteOneMore k sink trace
  wrote_one_more sink trace w =
      record { lines = w.lines; next = w.next; bytes = w.bytes; sets = set_lines _ w.sets; journaled = w.journaled }

  module _ (held middle held' : Option (List ℕ)) (faults between faults' : ℕ) (trace : TraceChange) where
    -- the answer of a search that ended by itself
    abbrev Ended : Core → End → Type 0
    Ended c e = search.SearchAnswer c k.listed k.settings (record { held = held; held' = middle; faults = faults; faults' = between }) trace (Ok e)

    module _ (e : End) (text : List ℕ) (is : text ≡ last_line_of (status_of k.settings e)) where
      -- the last line behind the lines
      pub with_last_line : Ended core e → Appends middle held' text
          → WroteAll k (record { held = held; held' = held'; faults = faults; faults' = faults' }) trace (status_of k.settings e)
      with_last_line answer appends =
          let at : Ended (core_for k.program) e = subst (λ c. Ended c e) of.is answer in
          let w = at.0 in
          record {
            lines = w.lines;
            bytes = Appends-trans held middle held' (concat w.lines) (last_line_of (status_of k.settings e)) w.bytes
                (subst (Appends middle held') is appends);
            sets = set_lines w.lines w.sets;
            journaled = w.journaled;
            ends = ends_as w.lines w.journaled.journal e at.1;
          }

      -- a front of the last line behind the lines
      pub with_front : Ended core e → ((n : ℕ) × Appends middle held' (take n text))
          → WroteFront k (record { held = held; held' = held'; faults = faults; faults' = faults' }) trace
      with_front answer part =
          let at : Ended (core_for k.program) e = subst (λ c. Ended c e) of.is answer in
          let w = at.0 in
          record {
            lines = w.lines;
            next = text;
            cut = part.0;
            bytes = Appends-trans held middle held' (concat w.lines) (take part.0 text) w.bytes part.1;
            sets = set_lines w.lines w.sets;
            journaled = w.journaled;
            next_is = inr (
              status_of k.settings e,
              has_printed (core_for k.program) k.listed k.settings w.lines w.journaled.journal e at.1,
              is,
            );
          }

    -- the lines alone
    pub without_last_line : (e : End) → Ended core e → Keeps middle held'
        → Wrote k (record { held = held; held' = held'; faults = faults; faults' = faults' }) trace
    without_last_line e answer keeps =
        let at : Ended (core_for k.program) e = subst (λ c. Ended c e) of.is answer in
        let w = at.0 in
        record {
          lines = w.lines;
          bytes = Appends-kept held middle held' (concat w.lines) w.bytes keeps;
          sets = set_lines w.lines w.sets;
          journaled = w.journaled;
        }

  module _ (sink : SinkChange) (trace : TraceChange) where
    either : search.WroteSome (core_for k.program) k.listed k.settings sink trace → Wrote k sink trace ⊎ WroteOneMore k sink trace
    either (inl w) = inl (wrote sink trace w.0)
    either (inr w) = inr (wrote_one_more sink trace w.0)

    -- the lines, or one more
    pub some_lines : search.WroteSome core k.listed k.settings sink trace → Wrote k sink trace ⊎ WroteOneMore k sink trace
    some_lines some = either (subst (λ c. search.WroteSome c k.listed k.settings sink trace) of.is some)

    -- the lines of a search that ended by itself
    pub its_lines : (e : End) → search.SearchAnswer core k.listed k.settings sink trace (Ok e) → Wrote k sink trace
    its_lines e answer =
        let at : search.SearchAnswer (core_for k.program) k.listed k.settings sink trace (Ok e) =
        subst (λ c. search.SearchAnswer c k.listed k.settings sink trace (Ok e)) of.is answer in
        wrote sink trace at.0

    front : search.WroteFront (core_for k.program) k.listed sink trace → WroteFront k sink trace
    front w = record {
      lines = w.lines;
      next = w.next;
      cut = w.cut;
      bytes = w.bytes;
      sets = set_lines w.lines w.sets;
      journaled = w.journaled;
      next_is = inl (set_line w.next w.next_set, w.next_whole, w.next_new);
    }

    -- a front of the line of another set
    pub cut_line : search.WroteFront core k.listed sink trace → WroteFront k sink trace
    cut_line w = front (subst (λ c. search.WroteFront c k.listed sink trace) of.is w)

    -- the lines, fewer than may be written, or one more
    either_fewer : search.WroteSome (core_for k.program) k.listed k.settings sink trace → WroteFewer k sink trace
    unfolding wrote wrote_one_more
    either_fewer (inl w) = inl (wrote sink trace w.0, w.1.sets)
    either_fewer (inr w) = inr (wrote_one_more sink trace w.0, w.1.sets)

    pub fewer_lines : search.WroteSome core k.listed k.settings sink trace → WroteFewer k sink trace
    fewer_lines some = either_fewer (subst (λ c. search.WroteSome c k.listed k.settings sink trace) of.is some)

-- the settings of the search are those of the task
pub with_settings : (k : Task) (core : Core) (settings : Settings) → k.settings ≡ settings → (sink : SinkChange) (trace : TraceChange)
    (r : Result End SearchFault) → search.SearchAnswer core k.listed settings sink trace r → search.SearchAnswer core k.listed k.settings sink trace r
with_settings k core settings same sink trace r answer = subst (λ z. search.SearchAnswer core k.listed z sink trace r) (sym same) answer

-- a count that rose from a later value rose from an earlier one
pub rose_later : (a b c : ℕ) → a ≤ b → Rose b c → Rose a c
rose_later a b c later rose = omega (arith, later, rose)
