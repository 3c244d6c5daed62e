-- A search shows the set that it found.
use Rattle.std.proofs.Common.{◌≡◌, ℕ, ◌+◌, ◌<◌, List, [], ◌∷◌, ◌++◌, map, length, get_or, reverse, take, append_assoc, append-nil, refl, sym, ◌∙◌, ap, subst, inl, inr, arith}
use Rattle.std.specs.Prelude.{Option, Some, None, slice_get, option_map, Err}
use Rattle.std.specs.Io.KnownBytes.{Appends, Keeps}
use Rattle.std.proofs.Math.Seq.{take-length}
use Rattle.std.proofs.lemmas.Option.{slice_get-get_or}
use Rattle.lists.specs.Lists.{◌∈◌, concat}
use Rattle.asp_meaning.specs.Lines.{IsSetLine}
use Rattle.alpha_outside.specs.declared.literal.Value.TheVariants.{MustBe}
use Rattle.alpha_outside.specs.declared.event.Event.TheVariants as say
use Rattle.alpha_outside.specs.Outside as outside
use Rattle.alpha_outside.specs.Outside.{with_event, Rose, WriteAnswer}
use Rattle.alpha_outside.specs.declared.stops.SinkStop.{SinkStop}
use Rattle.alpha_outside.specs.declared.stops.SinkStop.TheVariants as stop
use Rattle.search_values.specs.Values.{value_of}
use Rattle.search_values.specs.Instances.{Constraint}
use Rattle.search_values.specs.Tables.{Made}
use Rattle.journal_theory.specs.States as phase
use Rattle.search_values.specs.Ids.{BodyOf, Names}
use Rattle.journal_theory.specs.States.{State, IsName, IsSettled, IsFull, AreTrueUserAtoms, IsSetOf}
use Rattle.journal_theory.specs.Events.{Show, Pass, Allowed}
use Rattle.journal_theory.specs.Journals.{replay}
use Rattle.journal_theory.proofs.Events.{legal_safe}
use Rattle.journal_theory.proofs.BodyNames.{legal_body_names}
use Rattle.journal_theory.proofs.FoundOnce.{found_is_new}
use Rattle.core_meaning.specs.Atoms.{GroundAtom, User}
use Rattle.search_rules.specs.Tests.{Maker}
use Rattle.search_rules.specs.Stage.{IsSearchable}
use Rattle.search_rules.specs.Rules.{Reached, search_rules}
use Rattle.search_rules.proofs.LineOrder.{line_order_is_that_of_set_lines}
use Rattle.search_rules.proofs.UserAtoms.{found_are_determined}
use Rattle.search_state.specs.Searching.{Searching, made, state_of}
use Rattle.search_state.specs.Moves.{AreTrueIds}
use Rattle.search_journals.specs.Journals.{Step, Tells, IsLineOfIds}
use Rattle.search_journals.specs.Standing as standing
use Rattle.search_journals.specs.Standing.{Stands, StandsAt, Fits, CarriesOver, listed, HaltsWithin, HaltsBehind, Leaves, IsReady, IsTraceCause}
use Rattle.search_journals.specs.Moves.{MoveIs}
use Rattle.search_journals.specs.declared.moves.Move.TheVariants as move
use Rattle.search_journals.specs.declared.ends.SearchFault.{SearchFault}
use Rattle.search_journals.specs.declared.ends.SearchFault.TheVariants.{WriteFault, TraceFault, OutOfMemory}
use Rattle.search_journals.proofs.Standing.{budget, lines_stay, inside_at, halts_at}
use Rattle.search_journals.proofs.ToldAll.{bodies_made}
use Rattle.search_journals.proofs.Allowing.{settled}
use Rattle.search_journals.proofs.Unlisted.{atoms_on, settled_on}
use Rattle.search_journals.proofs.Lines.{turned, readable}
use Rattle.search_journals.proofs.Listing.{not_listed, is_listed, full_with_line}
use Rattle.search_journals.proofs.Telling.{tells_on}
use Rattle.search_journals.proofs.Filling.{full_of}

-- ---- the ids of the set

-- they are those of the true atoms of the program
pub true_atoms : (v : Searching) (xs : List ℕ) → AreTrueIds v xs → AreTrueUserAtoms (search_rules v.core) (state_of v) xs
true_atoms v xs are = record {
  all_there = λ x a name user value. are.all_there x (a, name) value;
  each_true = λ x i. let w = are.each_true x i in (User w.0, w.1, refl, w.2);
  atoms = map User are.set;
  names = are.names;
  ordered = (line_order_is_that_of_set_lines are.set).1 are.ordered;
}

-- ---- the set may be shown

module _ (g : standing.Given) (v : Searching) (told : Option outside.Journal) (held : Option (List ℕ)) (left rest : ℕ)
    (journal : List Step) (fits : Fits g v) (at : StandsAt g v told held left rest journal)
    (ready : IsReady v) (next : MoveIs v move.Full) where
  -- each body atom is that of an instance
  bodies_there : (x j : ℕ) → slice_get (State.names (replay (search_rules g.core) journal)) x ≡ Some (BodyOf j)
      → (k : Made Maker) × (slice_get (State.made (replay (search_rules g.core) journal)) j ≡ Some k) × (k.body ≡ Some x)
  bodies_there x j e =
      let low : j < length (made v) = bodies_made v ready.kept.lawful ready.kept.told x j
      (subst (λ (s : Reached). slice_get s.names x ≡ Some (BodyOf j)) (sym at.is) e) in
      let no : Made Maker = record { maker = (0, []); inst = record { kind = Constraint; pos = []; neg = [] }; body = None } in
      let there : slice_get (State.made (replay (search_rules g.core) journal)) j ≡ Some (get_or (made v) j no) =
      subst (λ (s : Reached). slice_get s.made j ≡ Some (get_or (made v) j no)) at.is (slice_get-get_or (made v) j no low) in
      (get_or (made v) j no, there, (legal_body_names (search_rules g.core) (listed g) journal at.legal).are x j (get_or (made v) j no) e there)

  -- the state is settled
  settled_now : IsSettled (search_rules g.core) (replay (search_rules g.core) journal)
  settled_now = settled_on (search_rules g.core) (replay (search_rules g.core) journal)
      (subst (λ (s : Reached). IsSettled (search_rules g.core) s) at.is
      (subst (λ core. IsSettled (search_rules core) (state_of v)) fits (settled v ready next.0 next.1)))

  -- and full
  pub full_now : IsFull (search_rules g.core) (replay (search_rules g.core) journal)
  full_now = full_of (search_rules g.core) (replay (search_rules g.core) journal)
      (legal_safe (search_rules g.core) (listed g) journal at.legal).valid settled_now
      (subst (λ (s : Reached). (x : ℕ) (a : GroundAtom) → IsName s x a → ¬ (value_of s.stack x ≡ Some MustBe)) at.is
      (λ x a name. next.2 x (a, name)))
      (subst (λ (s : Reached). (x : ℕ) (a : GroundAtom) → IsName s x a → ¬ (value_of s.stack x ≡ None)) at.is
      (λ x a name. next.3 x (a, name)))
      bodies_there

  -- nothing in particular has to come
  pub free_now : State.phase (replay (search_rules g.core) journal) ≡ phase.Free
  free_now = sym (ap (λ (s : Reached). s.phase) at.is) ∙ ready.free

  module _ (xs : List ℕ) (are : AreTrueIds v xs) where
    -- the ids are those of its true atoms
    pub atoms_now : AreTrueUserAtoms (search_rules g.core) (replay (search_rules g.core) journal) xs
    atoms_now = atoms_on (search_rules g.core) (replay (search_rules g.core) journal) xs
        (subst (λ (s : Reached). AreTrueUserAtoms (search_rules g.core) s xs) at.is
        (subst (λ core. AreTrueUserAtoms (search_rules core) (state_of v) xs) fits (true_atoms v xs are)))

    -- they name its atoms
    pub names_now : Names (State.names (replay (search_rules g.core) journal)) xs (map User are.set)
    names_now = subst (λ (s : Reached). Names s.names xs (map User are.set)) at.is are.names

    -- its line
    abbrev pub line_now : (line : List ℕ) → IsSetLine are.set line → IsLineOfIds (replay (search_rules g.core) journal) xs line
    line_now line is = (are.set, names_now, is)

    -- they name no set that is listed, where its line isn't among those
    pub unlisted_now : (line : List ℕ) → IsSetLine are.set line → ¬ (line ∈ g.lists.book) → (atoms : List GroundAtom) → atoms ∈ listed g
        → ¬ IsSetOf (replay (search_rules g.core) journal) xs atoms
    unlisted_now line is out = not_listed (replay (search_rules g.core) journal) xs are.set names_now g.lists line is out

    -- then the set may be shown
    pub may_show : (line : List ℕ) → IsSetLine are.set line → ¬ (line ∈ g.lists.book)
        → Allowed (search_rules g.core) (listed g) (replay (search_rules g.core) journal) (Show xs)
    may_show line is out =
        let searchable = subst IsSearchable fits ready.kept.searchable in (
          free_now,
          full_now,
          atoms_now,
          unlisted_now line is out,
          (λ earlier i same. found_is_new (search_rules g.core) (listed g) journal at.legal
              (found_are_determined g.core (searchable.form, searchable.no_aggregates)) free_now xs full_now atoms_now earlier
              (inl i) same),
        )

    -- and else it may be passed
    pub may_pass : (line : List ℕ) → IsSetLine are.set line → line ∈ g.lists.book
        → Allowed (search_rules g.core) (listed g) (replay (search_rules g.core) journal) (Pass xs)
    may_pass line is among =
        let searchable = subst IsSearchable fits ready.kept.searchable in
        let w = full_with_line g.core (listed g) journal at.legal xs full_now atoms_now line (line_now line is) in (
          free_now,
          full_now,
          atoms_now,
          is_listed (replay (search_rules g.core) journal) xs are.set names_now g.lists line is
              (readable g.core searchable (replay (search_rules g.core) journal) xs line w) among,
        )

-- ---- what is written

-- one line more, all in a row
concat_last : (lines : List (List ℕ)) (line : List ℕ) → concat (lines ++ line ∷ []) ≡ concat lines ++ line
concat_last [] line = append-nil line
concat_last (l ∷ lines) line = ap (λ z. l ++ z) (concat_last lines line) ∙ sym (append_assoc l (concat lines) line)

-- bytes appended one after another
pub appends_on : (held0 held held' : Option (List ℕ)) (a b : List ℕ) → Appends held0 held a → Appends held held' b
    → Appends held0 held' (a ++ b)
appends_on None held held' a b p q = tt
appends_on (Some xs) None held' a b p q = absurd p
appends_on (Some xs) (Some ys) None a b p q = absurd q
appends_on (Some xs) (Some ys) (Some zs) a b p q = q ∙ ap (λ z. z ++ b) p ∙ append_assoc xs a b

-- bytes that are kept
pub appends_kept : (held0 held held' : Option (List ℕ)) (a : List ℕ) → Appends held0 held a → Keeps held held' → Appends held0 held' a
appends_kept None held held' a p q = tt
appends_kept (Some xs) None held' a p q = absurd p
appends_kept (Some xs) (Some ys) None a p q = absurd q
appends_kept (Some xs) (Some ys) (Some zs) a p q = q ∙ p

-- one line more
lines_on : (held0 held held' : Option (List ℕ)) (lines : List (List ℕ)) (line : List ℕ) → Appends held0 held (concat (reverse lines))
    → Appends held held' line → Appends held0 held' (concat (reverse (line ∷ lines)))
lines_on held0 held held' lines line p q = subst (λ z. Appends held0 held' z)
    (sym (ap concat (turned line lines) ∙ concat_last (reverse lines) line)) (appends_on held0 held held' (concat (reverse lines)) line p q)

-- ---- the step

-- the set was written, and noted
pub carries_show : (book : List (List ℕ)) (v v' : Searching) (told told' : Option outside.Journal) (held held' : Option (List ℕ)) (xs line : List ℕ)
    → IsReady v → MoveIs v move.Full → (are : AreTrueIds v xs)
    → IsSetLine are.set line → ¬ (line ∈ book) → Appends held held' line → (let w : Searching = record v { phase = phase.Found } in v' ≡ w)
    → told' ≡ option_map (with_event (say.Shown xs)) told
    → (left rest : ℕ) → CarriesOver book v v' told told' held held' (left + 1, rest) (left, rest)
carries_show book v v' told told' held held' xs line ready next are line_is out wrote is t left rest g fits lists s = (
  Show xs ∷ s.0,
  record {
    legal = (
      s.1.legal,
      may_show g v told held (left + 1) rest s.0 fits s.1 ready next xs are line line_is (subst (λ b. ¬ (line ∈ b)) (sym lists) out),
    );
    far = s.1.far;
    is = ap state_of is ∙ ap (λ (z : Reached). let w : Reached = record z { phase = phase.Found } in w) s.1.is;
    tells = tells_on g.core g.told told told' s.0 (Show xs) (say.Shown xs) s.1.tells refl t;
    hands = record {
      lines = line ∷ s.1.hands.lines;
      are = (
        line_now g v told held (left + 1) rest s.0 fits s.1 ready next xs are line line_is,
        lines_stay (replay (search_rules g.core) s.0) (replay (search_rules g.core) (Show xs ∷ s.0)) (λ x n there. there)
            (State.shown (replay (search_rules g.core) s.0)) s.1.hands.lines s.1.hands.are,
      );
      bytes = lines_on g.held held held' s.1.hands.lines line s.1.hands.bytes wrote;
    };
    sets_left = (let k = s.1.sets_left in omega (arith, k));
    strikes_left = s.1.strikes_left;
    instances_left = ap budget is ∙ s.1.instances_left;
  },
)

-- a set that is listed was noted as passed
pub carries_pass : (book : List (List ℕ)) (v v' : Searching) (told told' : Option outside.Journal) (held : Option (List ℕ)) (xs line : List ℕ)
    → IsReady v → MoveIs v move.Full → (are : AreTrueIds v xs)
    → IsSetLine are.set line → line ∈ book → (let w : Searching = record v { phase = phase.Found } in v' ≡ w)
    → told' ≡ option_map (with_event (say.Passed xs)) told
    → (left rest : ℕ) → CarriesOver book v v' told told' held held (left, rest) (left, rest)
carries_pass book v v' told told' held xs line ready next are line_is among is t left rest g fits lists s = (
  Pass xs ∷ s.0,
  record {
    legal = (
      s.1.legal,
      may_pass g v told held left rest s.0 fits s.1 ready next xs are line line_is (subst (λ b. line ∈ b) (sym lists) among),
    );
    far = s.1.far;
    is = ap state_of is ∙ ap (λ (z : Reached). let w : Reached = record z { phase = phase.Found } in w) s.1.is;
    tells = tells_on g.core g.told told told' s.0 (Pass xs) (say.Passed xs) s.1.tells refl t;
    hands = record {
      lines = s.1.hands.lines;
      are = lines_stay (replay (search_rules g.core) s.0) (replay (search_rules g.core) (Pass xs ∷ s.0)) (λ x n there. there)
          (State.shown (replay (search_rules g.core) s.0)) s.1.hands.lines s.1.hands.are;
      bytes = s.1.hands.bytes;
    };
    sets_left = s.1.sets_left;
    strikes_left = s.1.strikes_left;
    instances_left = ap budget is ∙ s.1.instances_left;
  },
)

-- ---- faults

-- nothing was written or told
pub leaves_now : (v : Searching) (told : Option outside.Journal) (held held' : Option (List ℕ)) (sink trace : ℕ × ℕ) (g : standing.Given)
    → Fits g v → (left rest : ℕ) → Keeps held held' → 0 < left → Stands g v told held left rest → Leaves g told held' sink trace OutOfMemory
leaves_now v told held held' sink trace g fits left rest kept room s =
    let h = halts_at g v told told held left rest fits refl room s in
    inl (record {
      journal = h.journal;
      legal = h.legal;
      tells = h.tells;
      hands = record {
        lines = h.hands.lines;
        are = h.hands.are;
        bytes = appends_kept g.held held held' (concat (reverse h.hands.lines)) h.hands.bytes kept;
      };
      inside = h.inside;
    })

module _ (book : List (List ℕ)) (v : Searching) (told told' : Option outside.Journal) (held held' : Option (List ℕ)) (xs line : List ℕ)
    (ready : IsReady v) (next : MoveIs v move.Full) (are : AreTrueIds v xs)
    (line_is : IsSetLine are.set line) (out : ¬ (line ∈ book)) where
  -- a front of the line was written, and nothing told
  abbrev pub halts_within : (g : standing.Given) → Fits g v → g.lists.book ≡ book → (left rest n : ℕ) → told' ≡ told
      → Appends held held' (take n line) → 0 < left → Stands g v told held left rest → HaltsWithin g told' held'
  halts_within g fits lists left rest n same wrote room s = record {
    journal = s.0;
    legal = s.1.legal;
    tells = subst (λ z. Tells g.core g.told z s.0) (sym same) s.1.tells;
    lines = s.1.hands.lines;
    are = s.1.hands.are;
    ids = xs;
    next = line;
    cut = n;
    bytes = appends_on g.held held held' (concat (reverse s.1.hands.lines)) (take n line) s.1.hands.bytes wrote;
    free = free_now g v told held left rest s.0 fits s.1 ready next;
    full = full_now g v told held left rest s.0 fits s.1 ready next;
    atoms = atoms_now g v told held left rest s.0 fits s.1 ready next xs are;
    line = line_now g v told held left rest s.0 fits s.1 ready next xs are line line_is;
    unlisted = unlisted_now g v told held left rest s.0 fits s.1 ready next xs are line line_is (subst (λ b. ¬ (line ∈ b)) (sym lists) out);
    inside = inside_at g v told held left rest s.0 room s.1;
  }

  -- the whole line was written, and noting it failed
  pub leaves_behind : (g : standing.Given) → Fits g v → g.lists.book ≡ book → (left rest : ℕ) → (sink : ℕ × ℕ) (before now : ℕ) (f : SearchFault) → told' ≡ told
      → IsTraceCause before now f → Appends held held' line → 0 < left → Stands g v told held left rest
      → Leaves g told' held' sink (before, now) f
  leaves_behind g fits lists left rest sink before now f same cause wrote room s = go f cause
    where
      all_written : Appends held held' (take (length line) line)
      all_written = subst (λ z. Appends held held' z) (sym (take-length line)) wrote

      behind : HaltsBehind g told' held'
      behind = (halts_within g fits lists left rest (length line) same all_written room s, refl)

      go : (f : SearchFault) → IsTraceCause before now f → Leaves g told' held' sink (before, now) f
      go WriteFault c = absurd c
      go TraceFault c = (c, inr behind)
      go OutOfMemory c = inr behind

-- noting a set that is listed failed, after which nothing was written or told
pub leaves_unpassed : (v : Searching) (told told' : Option outside.Journal) (held : Option (List ℕ)) (sink : ℕ × ℕ) (before now : ℕ) (f : SearchFault)
    → told' ≡ told → IsTraceCause before now f → (g : standing.Given) → Fits g v → (left rest : ℕ) → 0 < left → Stands g v told held left rest
    → Leaves g told' held sink (before, now) f
leaves_unpassed v told told' held sink before now WriteFault same cause g fits left rest room s = absurd cause
leaves_unpassed v told told' held sink before now TraceFault same cause g fits left rest room s =
    (cause, inl (halts_at g v told told' held left rest fits same room s))
leaves_unpassed v told told' held sink before now OutOfMemory same cause g fits left rest room s =
    inl (halts_at g v told told' held left rest fits same room s)

-- bytes to which nothing happened
pub kept_here : (held : Option (List ℕ)) → Keeps held held
kept_here None = tt
kept_here (Some xs) = refl

-- what a failed write leaves
pub failed_answer : (piece : List ℕ) (held held' : Option (List ℕ)) (before now : ℕ) (e : SinkStop) → e ≡ stop.Failed
    → WriteAnswer piece held held' before now (Err e) → Rose before now × ((n : ℕ) × Appends held held' (take n piece))
failed_answer piece held held' before now e is a = subst (λ (z : SinkStop). WriteAnswer piece held held' before now (Err z)) is a

-- and what want of memory leaves
pub wanting_answer : (piece : List ℕ) (held held' : Option (List ℕ)) (before now : ℕ) (e : SinkStop) → e ≡ stop.OutOfMemory
    → WriteAnswer piece held held' before now (Err e) → Keeps held held'
wanting_answer piece held held' before now e is a = subst (λ (z : SinkStop). WriteAnswer piece held held' before now (Err z)) is a
