-- A state without the sets found and the nogoods kept is as good as the state for all that a search does but showing sets and keeping nogoods.
use Rattle.std.proofs.Common.{◌≡◌, ℕ, ℤ, List, [], refl, inl, inr}
use Rattle.alpha_outside.specs.declared.event.Event as event
use Rattle.alpha_outside.specs.declared.event.Event.TheVariants as say
use Rattle.alpha_outside.specs.declared.pattern.Pattern.{Pattern}
use Rattle.search_values.specs.Values.{Lit}
use Rattle.journal_theory.specs.Covers.{IsBlocked, needs_one, lacks, is_denied, has_false_body, uses_one, uses_lacking, CanBeRuledOut, IsWanted, for_stuck, for_closed, for_unassigned, MayJustify}
use Rattle.journal_theory.specs.Journals.{Says}
use Rattle.search_values.specs.Tables.{Made}
use Rattle.journal_theory.specs.States.{IsActive, IsSettled, IsStuck, IsFull, AreTrueUserAtoms}
use Rattle.journal_theory.specs.Events.{NameTerm, NameAtom, NameBody, Number, Make, Put, Choose, Close, Strike, Keep, Learn, Justify, CallWide, Back, Show, Pass, How, Analysed, Justified, Decisions, Enumerated, happens, MayLearn, Allowed, NoneStuck}
use Rattle.search_values.specs.Instances.{Instance, Rules}
use Rattle.core_meaning.specs.Atoms.{GroundAtom}
use Rattle.search_rules.specs.Tests.{Maker}
use Rattle.core_rules.specs.declared.rules.Core.{Core}
use Rattle.core_rules.specs.declared.rules.CoreRule.{CoreRule}
use Rattle.core_meaning.specs.Terms.{Partly}
use Rattle.alpha_outside.specs.declared.kinds.ArithOp.{ArithOp}
use Rattle.search_rules.specs.Rules.{Numbers, Reached}
use Rattle.search_rules.specs.Faults.{IsUp, IsOverflow, IsTooLarge}
use Rattle.term_eval.specs.Faulty.{IsFaultyBinding}
use Rattle.search_journals.specs.Journals.{Step, IsSomeDue}
use Rattle.search_journals.specs.Standing.{unlisted}

-- the event shows no set
abbrev pub ShowsNone : Step → Type 0
ShowsNone (Show ids) = ⊥
ShowsNone (NameTerm node) = Unit {0}
ShowsNone (NameAtom a) = Unit {0}
ShowsNone NameBody = Unit {0}
ShowsNone (Number x a number) = Unit {0}
ShowsNone (Make k) = Unit {0}
ShowsNone (Put a v n) = Unit {0}
ShowsNone (Choose b up) = Unit {0}
ShowsNone (Close x) = Unit {0}
ShowsNone (Strike n) = Unit {0}
ShowsNone (Keep n) = Unit {0}
ShowsNone (Learn how ls) = Unit {0}
ShowsNone (Justify patterns ls) = Unit {0}
ShowsNone (CallWide x) = Unit {0}
ShowsNone (Back l) = Unit {0}
ShowsNone (Pass ids) = Unit {0}

-- it neither shows a set nor keeps a nogood nor takes levels away
abbrev pub IsSimple : Step → Type 0
IsSimple (Show ids) = ⊥
IsSimple (NameTerm node) = Unit {0}
IsSimple (NameAtom a) = Unit {0}
IsSimple NameBody = Unit {0}
IsSimple (Number x a number) = Unit {0}
IsSimple (Make k) = Unit {0}
IsSimple (Put a v n) = Unit {0}
IsSimple (Choose b up) = Unit {0}
IsSimple (Close x) = Unit {0}
IsSimple (Strike n) = Unit {0}
IsSimple (Keep n) = ⊥
IsSimple (Learn how ls) = Unit {0}
IsSimple (Justify patterns ls) = Unit {0}
IsSimple (CallWide x) = Unit {0}
IsSimple (Back l) = ⊥
IsSimple (Pass ids) = Unit {0}

-- so it shows none
pub simple_shows : (e : Step) → IsSimple e → ShowsNone e
simple_shows (Show ids) w = absurd w
simple_shows (NameTerm node) w = tt
simple_shows (NameAtom a) w = tt
simple_shows NameBody w = tt
simple_shows (Number x a number) w = tt
simple_shows (Make k) w = tt
simple_shows (Put a v n) w = tt
simple_shows (Choose b up) w = tt
simple_shows (Close x) w = tt
simple_shows (Strike n) w = tt
simple_shows (Keep n) w = tt
simple_shows (Learn how ls) w = tt
simple_shows (Justify patterns ls) w = tt
simple_shows (CallWide x) w = tt
simple_shows (Back l) w = tt
simple_shows (Pass ids) w = tt

module _ (rules : Rules Numbers GroundAtom Maker) (s : Reached) where
  -- an instance that is active is so
  active_on : (k : Made Maker) (b : ℕ) → IsActive (unlisted s) k b → IsActive s k b
  active_on k b a = record { has_body = a.has_body; not_yet = a.not_yet; pos_true = a.pos_true; neg_not_up = a.neg_not_up }

  -- and back
  active_off : (k : Made Maker) (b : ℕ) → IsActive s k b → IsActive (unlisted s) k b
  active_off k b a = record { has_body = a.has_body; not_yet = a.not_yet; pos_true = a.pos_true; neg_not_up = a.neg_not_up }

  -- a settled state is settled
  pub settled_on : IsSettled rules (unlisted s) → IsSettled rules s
  settled_on t = record {
    none_struck = t.none_struck;
    none_unit = t.none_unit;
    none_active = λ k i b a. t.none_active k i b (active_off k b a);
    none_due = t.none_due;
    none_waiting = t.none_waiting;
  }

  -- and back
  pub settled_off : IsSettled rules s → IsSettled rules (unlisted s)
  settled_off t = record {
    none_struck = t.none_struck;
    none_unit = t.none_unit;
    none_active = λ k i b a. t.none_active k i b (active_on k b a);
    none_due = t.none_due;
    none_waiting = t.none_waiting;
  }

  -- an atom that is stuck is so
  pub stuck_on : (x : ℕ) → IsStuck rules (unlisted s) x → IsStuck rules s x
  stuck_on x t = record {
    named = t.named;
    must_be = t.must_be;
    none_struck = t.none_struck;
    none_unit = t.none_unit;
    why = elim t.why [ inl k ↦ inl (settled_on k) | inr h ↦ inr h ];
  }

  -- and back
  stuck_off : (x : ℕ) → IsStuck rules s x → IsStuck rules (unlisted s) x
  stuck_off x t = record {
    named = t.named;
    must_be = t.must_be;
    none_struck = t.none_struck;
    none_unit = t.none_unit;
    why = elim t.why [ inl k ↦ inl (settled_off k) | inr h ↦ inr h ];
  }

  -- so where none is, none is
  none_stuck_on : NoneStuck rules (unlisted s) → NoneStuck rules s
  none_stuck_on h x t = h x (stuck_off x t)

  -- an atom that can be ruled out can be
  ruled_out_on : (x : ℕ) → CanBeRuledOut rules (unlisted s) x → CanBeRuledOut rules s x
  ruled_out_on x can = record {
    no_value = can.no_value;
    none_struck = can.none_struck;
    none_unit = can.none_unit;
    none_stuck = none_stuck_on can.none_stuck;
    none_closed = can.none_closed;
  }

  -- what is wanted is wanted
  wanted_on : (x : ℕ) → IsWanted rules (unlisted s) x → IsWanted rules s x
  wanted_on x (for_stuck e stuck) = for_stuck e (stuck_on x stuck)
  wanted_on x (for_closed n struck ls e at without arises among) = for_closed n struck ls e at without arises among
  wanted_on x (for_unassigned e can) = for_unassigned e (ruled_out_on x can)

  -- an instance that is blocked is so
  blocked_on : (patterns : List Pattern) (lits : List Lit) (n : Numbers) (m : Maker) (i : Instance GroundAtom)
      → IsBlocked rules (unlisted s) patterns lits n m i → IsBlocked rules s patterns lits n m i
  blocked_on patterns lits n m i (needs_one p j among) = needs_one p j among
  blocked_on patterns lits n m i (lacks p x j named k) = lacks p x j named k
  blocked_on patterns lits n m i (is_denied d x j named k) = is_denied d x j named k
  blocked_on patterns lits n m i (has_false_body k b made same has j) = has_false_body k b made same has j
  blocked_on patterns lits n m i (uses_one u j none covered) = uses_one u j none covered
  blocked_on patterns lits n m i (uses_lacking u x j none named k) = uses_lacking u x j none named k

  -- a nogood that may be justified may be
  pub justify_on : (patterns : List Pattern) (lits : List Lit) → MayJustify rules (unlisted s) patterns lits → MayJustify rules s patterns lits
  justify_on patterns lits may = record {
    id = may.id;
    wanted = wanted_on may.id may.wanted;
    atom = may.atom;
    named = may.named;
    first = may.first;
    others = may.others;
    patterns_are = may.patterns_are;
    covered = may.covered;
    reasons = may.reasons;
    lits_are = may.lits_are;
    before = may.before;
    covers = λ n c extends m i at a among head. blocked_on patterns may.reasons n m i (may.covers n c extends m i at a among head);
  }

  -- a full state is full
  pub full_on : IsFull rules (unlisted s) → IsFull rules s
  full_on t = record {
    all_valued = t.all_valued;
    none_must_be = t.none_must_be;
    none_struck = t.none_struck;
    none_due = t.none_due;
    none_waiting = t.none_waiting;
  }

  -- the atoms of a set are so
  pub atoms_on : (ids : List ℕ) → AreTrueUserAtoms rules (unlisted s) ids → AreTrueUserAtoms rules s ids
  atoms_on ids t = record { all_there = t.all_there; each_true = t.each_true; atoms = t.atoms; names = t.names; ordered = t.ordered }

  -- what may be learned may be
  learn_on : (how : How) (ls : List Lit) → MayLearn rules (unlisted s) how ls → MayLearn rules s how ls
  learn_on Analysed ls may = may
  learn_on Justified ls may = absurd may
  learn_on Decisions ls may = may
  learn_on Enumerated ls may = may

  -- what may come where no set is listed may come where some are, but for a set
  pub allowed_on : (sets : List (List GroundAtom)) (e : Step) → IsSimple e → Allowed rules [] (unlisted s) e → Allowed rules sets s e
  allowed_on sets (NameTerm node) w h = h
  allowed_on sets (NameAtom a) w h = h
  allowed_on sets NameBody w h = (h.0, h.1, none_stuck_on h.2)
  allowed_on sets (Number x a number) w h = h
  allowed_on sets (Make k) w h = (h.0, h.1, h.2, h.3, h.4, h.5, none_stuck_on h.6)
  allowed_on sets (Put a v n) w h = h
  allowed_on sets (Choose b up) w h = (h.0, h.1, h.2, (h.3.0, h.3.1, active_on h.3.0 b h.3.2), h.4, none_stuck_on h.5)
  allowed_on sets (Close x) w h = (h.0, h.1, h.2, h.3, h.4, h.5, (λ c. settled_on (h.6 c)))
  allowed_on sets (Strike n) w h = h
  allowed_on sets (Keep n) w h = absurd w
  allowed_on sets (Learn how ls) w h = (learn_on how ls h.0, h.1)
  allowed_on sets (Justify patterns ls) w h = (justify_on patterns ls h.0, h.1)
  allowed_on sets (CallWide x) w h = (wanted_on x h.0, h.1)
  allowed_on sets (Back l) w h = absurd w
  allowed_on sets (Show ids) w h = absurd w
  allowed_on sets (Pass ids) w h = absurd h.3.1

  -- the state after an event, without the sets found
  pub unlisted_next : (e : Step) → unlisted (happens rules (unlisted s) e) ≡ unlisted (happens rules s e)
  unlisted_next (NameTerm node) = refl
  unlisted_next (NameAtom a) = refl
  unlisted_next NameBody = refl
  unlisted_next (Number x a number) = refl
  unlisted_next (Make k) = refl
  unlisted_next (Put a v n) = refl
  unlisted_next (Choose b up) = refl
  unlisted_next (Close x) = refl
  unlisted_next (Strike n) = refl
  unlisted_next (Keep n) = refl
  unlisted_next (Learn how ls) = refl
  unlisted_next (Justify patterns ls) = refl
  unlisted_next (CallWide x) = refl
  unlisted_next (Back l) = refl
  unlisted_next (Show ids) = refl
  unlisted_next (Pass ids) = refl

  -- a project's event says the same in both
  pub says_on : (ev : event.Event) (e : Step) → Says rules (unlisted s) ev e → Says rules s ev e
  says_on (say.Term id node) e h = h
  says_on (say.Atom id pred args) e h = h
  says_on (say.Body id inst) e h = h
  says_on (say.Numbered atom number) e h = h
  says_on (say.Made inst maker) e h = h
  says_on (say.Put atom value by) e h = h
  says_on (say.Chosen body up) e h = h
  says_on (say.Closed atom) e h = h
  says_on (say.Struck nogood) e h = h
  says_on (say.Kept nogood) e h = h
  says_on (say.Learned nogood how lits cover) e h = h
  says_on (say.Back level) e h = h
  says_on (say.Wide atom count) e h = h
  says_on (say.Shown atoms) e h = h
  says_on (say.Passed atoms) e h = h

-- ---- what ends a search

-- a faulty binding is so
faulty_on : (core : Core) (s : Reached) (rule : CoreRule) (binding : Partly) → IsFaultyBinding core (IsUp (unlisted s)) rule binding
    → IsFaultyBinding core (IsUp s) rule binding
faulty_on core s rule binding f =
    record { among = f.among; bound = f.bound; no_other = f.no_other; up = f.up; tests = f.tests; terms = f.terms }

-- a term that is too large is so
pub too_large_on : (core : Core) (s : Reached) (line size : ℕ) → IsTooLarge core (unlisted s) line size → IsTooLarge core s line size
too_large_on core s line size t = record {
  rule = t.rule;
  binding = t.binding;
  faulty = faulty_on core s t.rule t.binding t.faulty;
  line_is = t.line_is;
  term = t.term;
  stands = t.stands;
  large = t.large;
}

-- an operation without a place in 64 bits is so
pub overflow_on : (core : Core) (s : Reached) (line : ℕ) (op : ArithOp) (x y : ℤ) → IsOverflow core (unlisted s) line op x y
    → IsOverflow core s line op x y
overflow_on core s line op x y t = record {
  rule = t.rule;
  binding = t.binding;
  faulty = faulty_on core s t.rule t.binding t.faulty;
  line_is = t.line_is;
  term = t.term;
  stands = t.stands;
  outside = t.outside;
}

-- an instance that is due is so
pub due_on : (core : Core) (s : Reached) → IsSomeDue core (unlisted s) → IsSomeDue core s
due_on core s t = record { maker = t.maker; inst = t.inst; is = t.is; up = t.up; not_made = t.not_made }
