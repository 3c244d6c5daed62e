-- What clap's function makes of plain words.
use Rattle.std.proofs.Common.{◌≡◌, ◌∙◌, ◌≤◌, ◌||◌, refl, sym, ap, ap₂, subst, arith, Bool, true, false, cond, true≢false, ℕ, List, [], ◌∷◌, ◌++◌, map, length, append-nil, append_assoc, codes, Option, Some, None, inl, inr}
use Rattle.std.specs.Prelude.{◌⊎◌, is_some, slice_get, option_and_then, option_map, find, fold, ◌==◌}
use Rattle.std.specs.Str.{bytes_eq}
use Rattle.std.proofs.lemmas.Bool.{le-leb, le-ltb, ne_eqb}
use Rattle.lists.specs.Lists.{Each, HasNoRepeats, ◌∈◌}
use Rattle.clap.specs.Lexer.{long_of, short_of, usize_max}
use Rattle.clap.specs.Values.{reading_of}
use Rattle.clap.specs.Kinds.{Kinds, or_else, range_kinds, values_kinds}
use Rattle.clap.specs.Walk.{Held, Row, Rule, Step, Text, Waiting, Walk, at_row, first_of, has_row, idle, positional, option, nothing_held, settled, settled_rows, walk, walked, walk_from, with_default, with_values, without, word_met, plain_word, after_step, subcommand_met, is_pending, finished, more_values}
use Rattle.clap.specs.Simple.{App, Shape, built, entered, matches_of}
use Rattle.clap.specs.Faults.{check_fault, default_fault, defaults_fault, entered_fault, fault_of, settle_fault, turn_fault, walk_fault, word_fault, step_fault}
use Rattle.clap.specs.declared.builder.action.ArgAction.TheVariants.{Set, Append}
use Rattle.clap.specs.declared.builder.range.ValueRange.{ValueRange}
use Rattle.clap.specs.declared.builder.value_parser.ValueParser.TheVariants as vp
use Rattle.clap.specs.declared.parser.matches.ValueSource.TheVariants.{CommandLine}
use Rattle.search_settings.specs.Defaults.{most_sets, most_conflicts, most_instances}
use Rattle.command_line.specs.Numbers.{number_or}
use Rattle.command_line.specs.Requests.{few, files_of, most_files, request_from, request_of, settings_from, settings_of}
use Rattle.command_line.specs.Commands.{asked, bare_command, files_rule, option_rule, solve_command}
use Rattle.command_line.specs.Plain.{After, Conflicts, Given, Instances, IsPlain, IsPlainFile, IsPlainText, Limit, OptionName, Trace, name_of, value_of, words_of}
use Rattle.command_line.specs.declared.request.Solve.{Solve}
use Rattle.command_line.proofs.CommandLemmas.{asked_by_rows}

-- ---- the command as it is built

-- one value
abbrev single : ValueRange
single = record { start_inclusive = 1; end_inclusive = 1 }

-- an option, filled in
abbrev option_built : Text → Rule
option_built name = record (option_rule name) { action = Some Set; range = Some single; parser = Some vp.String }

-- the files, filled in
abbrev files_built : Rule
files_built = record files_rule { action = Some Append; parser = Some vp.String; index = Some 1 }

-- all arguments
abbrev arguments : List Rule
arguments = option_built (codes "after") ∷ option_built (codes "limit") ∷ option_built (codes "conflicts")
    ∷ option_built (codes "instances") ∷ option_built (codes "trace") ∷ files_built ∷ []

-- what a parse reads of the command
abbrev top : Shape
top = record bare_command.top { rules = arguments; disable_help_subcommand = true; is_built = true }

-- the command
abbrev ready : App
ready = record { top = top; subs = [] }

-- building makes this of it
is_ready : built solve_command ≡ ready
is_ready = refl

-- ---- a word that is no flag

module _ (word : Text) where
  -- what the walk reads of it
  abbrev IsNoFlag : Type 0
  IsNoFlag = (bytes_eq word (45 ∷ 45 ∷ []) ≡ false) × (long_of word ≡ None) × (short_of word ≡ None)

-- a plain text is no flag
no_flag_text : (word : Text) → IsPlainText word → IsNoFlag word
no_flag_text [] h = absurd h
no_flag_text (b ∷ bytes) h =
    let e : (b == 45) ≡ false = ne_eqb b 45 h in
    (rw e refl, rw e refl, rw e refl)

-- a plain file is none
no_flag : (word : Text) → IsPlainFile word → IsNoFlag word
no_flag word (inl is) = subst IsNoFlag (sym is) (refl, refl, refl)
no_flag word (inr text) = no_flag_text word text

-- and no word is a subcommand
no_subcommand : (waiting : Waiting) (word : Text) → subcommand_met [] waiting word ≡ None
no_subcommand idle word = refl
no_subcommand (option id) word = refl
no_subcommand positional word = refl

-- so such a word goes to what waits, or to the files
plain_met : (waiting : Waiting) (position : ℕ) (word : Text) (h : Held) → IsNoFlag word
    → word_met arguments [] false waiting position word h ≡ plain_word arguments waiting word h
plain_met waiting position word h flagless = rw (no_subcommand waiting word, flagless.0, flagless.1, flagless.2) refl

-- and no step fails at it
plain_faultless : (waiting : Waiting) (word : Text) (h : Held) → IsNoFlag word → word_fault top [] false waiting word h ≡ []
plain_faultless waiting word h flagless = rw (no_subcommand waiting word, flagless.0, flagless.1, flagless.2) refl

-- ---- rows

-- what is found for an option
abbrev row : Given → Row
row o = record { id = name_of o.0; values = o.1 ∷ []; count = None; source = Some CommandLine; reading = reading_of vp.String }

-- what is found for the files
abbrev files_row : List Text → Row
files_row fs = record { id = codes "files"; values = fs; count = None; source = Some CommandLine; reading = reading_of vp.String }

-- where no row has the id, what would stand for it is put at the end
at_absent : (id : Text) (change : Row → List Row) (missing rows : List Row) → has_row id rows ≡ false
    → at_row id change missing rows ≡ rows ++ missing
at_absent id change missing [] h = refl
at_absent id change missing (r ∷ rs) h = go (bytes_eq r.id id) h (at_absent id change missing rs)
  where
    go : (b : Bool) → (b || has_row id rs) ≡ false → (has_row id rs ≡ false → at_row id change missing rs ≡ rs ++ missing)
        → cond b (change r ++ rs) (r ∷ at_row id change missing rs) ≡ r ∷ (rs ++ missing)
    go true h rest = absurd (true≢false h)
    go false h rest = ap (λ (xs : List Row). r ∷ xs) (rest h)

-- an id that no row has, and that the next one doesn't have
absent_more : (id : Text) (rows : List Row) (r : Row) → has_row id rows ≡ false → bytes_eq r.id id ≡ false
    → has_row id (rows ++ r ∷ []) ≡ false
absent_more id [] r h other = rw other refl
absent_more id (x ∷ xs) r h other = go (bytes_eq x.id id) h (λ e. absent_more id xs r e other)
  where
    go : (b : Bool) → (b || has_row id xs) ≡ false → (has_row id xs ≡ false → has_row id (xs ++ r ∷ []) ≡ false)
        → (b || has_row id (xs ++ r ∷ [])) ≡ false
    go true h rest = h
    go false h rest = rest h

-- the last row, where no other has its id
find_last : (id : Text) (rows : List Row) (r : Row) → has_row id rows ≡ false → bytes_eq r.id id ≡ true
    → find (λ x. bytes_eq x.id id) (rows ++ r ∷ []) ≡ Some r
find_last id [] r h same = rw same refl
find_last id (x ∷ xs) r h same = go (bytes_eq x.id id) h (λ e. find_last id xs r e same)
  where
    go : (b : Bool) → (b || has_row id xs) ≡ false → (has_row id xs ≡ false → find (λ y. bytes_eq y.id id) (xs ++ r ∷ []) ≡ Some r)
        → cond b (Some x) (find (λ y. bytes_eq y.id id) (xs ++ r ∷ [])) ≡ Some r
    go true h rest = absurd (true≢false h)
    go false h rest = rest h

-- two options are called differently, or are the same
differ : (m n : OptionName) → (bytes_eq (name_of m) (name_of n) ≡ false) ⊎ (m ≡ n)
differ After After = inr refl
differ Limit Limit = inr refl
differ Conflicts Conflicts = inr refl
differ Instances Instances = inr refl
differ Trace Trace = inr refl
differ After Limit = inl refl
differ After Conflicts = inl refl
differ After Instances = inl refl
differ After Trace = inl refl
differ Limit After = inl refl
differ Limit Conflicts = inl refl
differ Limit Instances = inl refl
differ Limit Trace = inl refl
differ Conflicts After = inl refl
differ Conflicts Limit = inl refl
differ Conflicts Instances = inl refl
differ Conflicts Trace = inl refl
differ Instances After = inl refl
differ Instances Limit = inl refl
differ Instances Conflicts = inl refl
differ Instances Trace = inl refl
differ Trace After = inl refl
differ Trace Limit = inl refl
differ Trace Conflicts = inl refl
differ Trace Instances = inl refl

-- the same, where they are known to
others : (m n : OptionName) → ¬ (m ≡ n) → bytes_eq (name_of m) (name_of n) ≡ false
others m n h = elim (differ m n) [ inl e ↦ e | inr e ↦ absurd (h e) ]

-- no option is called as the files are
no_option_is_files : (n : OptionName) → bytes_eq (name_of n) (codes "files") ≡ false
no_option_is_files After = refl
no_option_is_files Limit = refl
no_option_is_files Conflicts = refl
no_option_is_files Instances = refl
no_option_is_files Trace = refl

-- and the files as no option
files_is_no_option : (n : OptionName) → bytes_eq (codes "files") (name_of n) ≡ false
files_is_no_option After = refl
files_is_no_option Limit = refl
files_is_no_option Conflicts = refl
files_is_no_option Instances = refl
files_is_no_option Trace = refl

-- ---- one option

-- what is held after an option and its value
abbrev held_after : Given → Held → Held
held_after o h = record { rows = settled_rows arguments h.pending h.rows; pending = Some (name_of o.0, o.1 ∷ []); skip = h.skip }

-- between the two words
abbrev between : OptionName → Held → Walk
between n h = record {
  held = record { rows = settled_rows arguments h.pending h.rows; pending = Some (name_of n, []); skip = h.skip };
  waiting = option (name_of n);
  position = 1;
  is_trailing = false;
  stopped = None;
}

-- the walk after the name of an option
name_walked : (n : OptionName) (h : Held) → walked arguments [] (walk_from h) (45 ∷ 45 ∷ name_of n) ≡ between n h
unfolding walked
name_walked After h = refl
name_walked Limit h = refl
name_walked Conflicts h = refl
name_walked Instances h = refl
name_walked Trace h = refl

-- no step fails at a name, where none fails at what was held
name_faultless : (n : OptionName) (h : Held) → turn_fault top [] (walk_from h) (45 ∷ 45 ∷ name_of n)
    ≡ or_else (settle_fault arguments false h) []
name_faultless After h = refl
name_faultless Limit h = refl
name_faultless Conflicts h = refl
name_faultless Instances h = refl
name_faultless Trace h = refl

-- the walk after a value that goes to the option
value_taken : (n : OptionName) (v : Text) (h : Held) → (let w : Walk = between n h in
    let met : Held × Step = plain_word arguments w.waiting v w.held in after_step arguments v w met.0 met.1)
    ≡ walk_from (held_after (n, v) h)
value_taken After v h = refl
value_taken Limit v h = refl
value_taken Conflicts v h = refl
value_taken Instances v h = refl
value_taken Trace v h = refl

-- so it does, where the value is plain
value_walked : (n : OptionName) (v : Text) (h : Held) → IsPlainText v → walked arguments [] (between n h) v
    ≡ walk_from (held_after (n, v) h)
unfolding walked
value_walked n v h text =
    ap (λ (met : Held × Step). after_step arguments v (between n h) met.0 met.1)
    (plain_met (option (name_of n)) 1 v (between n h).held (no_flag_text v text)) ∙ value_taken n v h

-- a value of an option is no step of a positional
value_step : (n : OptionName) (v : Text) (h : Held) → (let w : Walk = between n h in
    let met : Held × Step = plain_word arguments w.waiting v w.held in step_fault top 1 met.0 met.1) ≡ []
value_step After v h = refl
value_step Limit v h = refl
value_step Conflicts v h = refl
value_step Instances v h = refl
value_step Trace v h = refl

-- no step fails at a value
value_faultless : (n : OptionName) (v : Text) (h : Held) → IsPlainText v → turn_fault top [] (between n h) v ≡ []
value_faultless n v h text =
    let flagless = no_flag_text v text in
    ap₂ or_else (plain_faultless (option (name_of n)) v (between n h).held flagless)
    (ap (λ (met : Held × Step). step_fault top 1 met.0 met.1) (plain_met (option (name_of n)) 1 v (between n h).held flagless)
    ∙ value_step n v h)

-- both words
option_walked : (o : Given) (h : Held) (rest : List Text) → IsPlainText o.1
    → fold (walked arguments []) (walk_from h) ((45 ∷ 45 ∷ name_of o.0) ∷ o.1 ∷ rest)
    ≡ fold (walked arguments []) (walk_from (held_after o h)) rest
option_walked o h rest text =
    ap (λ (w : Walk). fold (walked arguments []) w rest) (ap (λ (w : Walk). walked arguments [] w o.1) (name_walked o.0 h)
    ∙ value_walked o.0 o.1 h text)

-- no step fails at either
option_faultless : (o : Given) (h : Held) (rest : List Text) → IsPlainText o.1 → settle_fault arguments false h ≡ []
    → walk_fault top [] (walk_from h) ((45 ∷ 45 ∷ name_of o.0) ∷ o.1 ∷ rest) ≡ walk_fault top [] (walk_from (held_after o h)) rest
unfolding walk_fault
option_faultless o h rest text settles =
    let first : turn_fault top [] (walk_from h) (45 ∷ 45 ∷ name_of o.0) ≡ [] = name_faultless o.0 h
    ∙ ap (λ (ks : Kinds). or_else ks []) settles in
    ap (λ (ks : Kinds). or_else ks (walk_fault top [] (walked arguments [] (walk_from h) (45 ∷ 45 ∷ name_of o.0)) (o.1 ∷ rest))) first
    ∙ ap (λ (w : Walk). walk_fault top [] w (o.1 ∷ rest)) (name_walked o.0 h)
    ∙ ap (λ (ks : Kinds). or_else ks (walk_fault top [] (walked arguments [] (between o.0 h) o.1) rest)) (value_faultless o.0 o.1 h text)
    ∙ ap (λ (w : Walk). walk_fault top [] w rest) (value_walked o.0 o.1 h text)

-- ---- options

-- where the walk stands after options whose rows are these
record StandsAfter (rows : List Row) (h : Held) : Type 0 where
  pub rows_are : settled_rows arguments h.pending h.rows ≡ rows
  pub settles : settle_fault arguments false h ≡ []
  pub no_files : is_pending files_built h.pending ≡ false

-- the option has no row
abbrev IsNew : List Row → Given → Type 0
IsNew rows o = has_row (name_of o.0) rows ≡ false

-- an option is used, with its value
option_used : (n : OptionName) (v : Text) (rows : List Row)
    → settled_rows arguments (Some (name_of n, v ∷ [])) rows
    ≡ with_values (name_of n) (reading_of vp.String) CommandLine (v ∷ []) (without (name_of n) rows)
option_used After v rows = refl
option_used Limit v rows = refl
option_used Conflicts v rows = refl
option_used Instances v rows = refl
option_used Trace v rows = refl

-- its row is put at the end, where it had none
option_put : (o : Given) (rows : List Row) → IsNew rows o → settled_rows arguments (Some (name_of o.0, o.1 ∷ [])) rows ≡ rows ++ row o ∷ []
option_put o rows new =
    let cleared : without (name_of o.0) rows ≡ rows = at_absent (name_of o.0) (λ r. []) [] rows new ∙ append-nil rows in
    option_used o.0 o.1 rows ∙ ap (with_values (name_of o.0) (reading_of vp.String) CommandLine (o.1 ∷ [])) cleared
    ∙ at_absent (name_of o.0) (more_values CommandLine (o.1 ∷ [])) (row o ∷ []) rows new

-- and no step fails at that
option_settles : (n : OptionName) (v : Text) (rows : List Row) (skip : ℕ) → has_row (name_of n) rows ≡ false
    → settle_fault arguments false (record { rows = rows; pending = Some (name_of n, v ∷ []); skip = skip }) ≡ []
option_settles After v rows skip new = rw new refl
option_settles Limit v rows skip new = rw new refl
option_settles Conflicts v rows skip new = rw new refl
option_settles Instances v rows skip new = rw new refl
option_settles Trace v rows skip new = rw new refl

-- one more option
stands_after : (rows : List Row) (h : Held) (o : Given) → StandsAfter rows h → IsNew rows o
    → StandsAfter (rows ++ row o ∷ []) (held_after o h)
stands_after rows h o s new =
    let there : IsNew (settled_rows arguments h.pending h.rows) o = ap (has_row (name_of o.0)) s.rows_are ∙ new in
    record {
      rows_are = option_put o (settled_rows arguments h.pending h.rows) there ∙ ap (λ (rs : List Row). rs ++ row o ∷ []) s.rows_are;
      settles = option_settles o.0 o.1 (settled_rows arguments h.pending h.rows) h.skip there;
      no_files = no_option_is_files o.0;
    }

-- the options behind one that isn't among them stay new
stay_new : (rows : List Row) (o : Given) (os : List Given) → Each (IsNew rows) os → ¬ (o.0 ∈ map (λ p. p.0) os)
    → Each (IsNew (rows ++ row o ∷ [])) os
stay_new rows o [] new h = tt
stay_new rows o (p ∷ ps) new h =
    (absent_more (name_of p.0) rows (row o) new.0 (others o.0 p.0 (λ e. h (inl e))), stay_new rows o ps new.1 (λ m. h (inr m)))

-- where the walk stands after all options
record Walked (os : List Given) (rows : List Row) (h : Held) (rest : List Text) : Type 0 where
  pub later : Held
  pub stands : StandsAfter (rows ++ map row os) later
  pub walk_is : fold (walked arguments []) (walk_from h) (words_of os ++ rest) ≡ fold (walked arguments []) (walk_from later) rest
  pub faults_are : walk_fault top [] (walk_from h) (words_of os ++ rest) ≡ walk_fault top [] (walk_from later) rest

-- so the walk stands after any number of options
options_walked : (os : List Given) (rows : List Row) (h : Held) (rest : List Text) → StandsAfter rows h → Each (IsNew rows) os
    → HasNoRepeats (map (λ o. o.0) os) → Each (λ o. IsPlainText o.1) os → Walked os rows h rest
options_walked [] rows h rest stands new once texts = record {
  later = h;
  stands = subst (λ (rs : List Row). StandsAfter rs h) (sym (append-nil rows)) stands;
  walk_is = refl;
  faults_are = refl;
}
options_walked (o ∷ os) rows h rest stands new once texts =
    let more = options_walked os (rows ++ row o ∷ []) (held_after o h) rest (stands_after rows h o stands new.0)
    (stay_new rows o os new.1 once.0) once.1 texts.1 in
    record {
      later = more.later;
      stands = subst (λ (rs : List Row). StandsAfter rs more.later) (append_assoc rows (row o ∷ []) (map row os)) more.stands;
      walk_is = option_walked o h (words_of os ++ rest) texts.0 ∙ more.walk_is;
      faults_are = option_faultless o h (words_of os ++ rest) texts.0 stands.settles ∙ more.faults_are;
    }

-- at first no option has a row
all_new : (os : List Given) → Each (IsNew []) os
all_new [] = tt
all_new (o ∷ os) = (refl, all_new os)

-- the files have none after options
no_files_row : (os : List Given) → has_row (codes "files") (map row os) ≡ false
no_files_row [] = refl
no_files_row (o ∷ os) = rw (no_option_is_files o.0) (no_files_row os)

-- ---- files

-- where the walk stands after files
abbrev files_walk : List Row → ℕ → List Text → Walk
files_walk rows skip fs = record {
  held = record { rows = rows; pending = Some (codes "files", fs); skip = skip };
  waiting = positional;
  position = 1;
  is_trailing = false;
  stopped = None;
}

-- the first file
first_file : (h : Held) (f : Text) → is_pending files_built h.pending ≡ false → IsPlainFile f
    → walked arguments [] (walk_from h) f ≡ files_walk (settled_rows arguments h.pending h.rows) h.skip (f ∷ [])
unfolding walked
first_file h f none plain =
    ap (λ (met : Held × Step). after_step arguments f (walk_from h) met.0 met.1) (plain_met idle 1 f h (no_flag f plain)) ∙ rw none refl

-- no step fails at it
first_faultless : (h : Held) (f : Text) → is_pending files_built h.pending ≡ false → settle_fault arguments false h ≡ [] → IsPlainFile f
    → turn_fault top [] (walk_from h) f ≡ []
first_faultless h f none settles plain =
    let flagless = no_flag f plain in
    ap₂ or_else (plain_faultless idle f h flagless)
    (ap (λ (met : Held × Step). step_fault top 1 met.0 met.1) (plain_met idle 1 f h flagless) ∙ rw none settles)

-- one more file
next_file : (rows : List Row) (skip : ℕ) (fs : List Text) (f : Text) → IsPlainFile f
    → walked arguments [] (files_walk rows skip fs) f ≡ files_walk rows skip (fs ++ f ∷ [])
unfolding walked
next_file rows skip fs f plain =
    ap (λ (met : Held × Step). after_step arguments f (files_walk rows skip fs) met.0 met.1)
    (plain_met positional 1 f (files_walk rows skip fs).held (no_flag f plain))

-- no step fails at it either
next_faultless : (rows : List Row) (skip : ℕ) (fs : List Text) (f : Text) → IsPlainFile f
    → turn_fault top [] (files_walk rows skip fs) f ≡ []
next_faultless rows skip fs f plain =
    let flagless = no_flag f plain in
    ap₂ or_else (plain_faultless positional f (files_walk rows skip fs).held flagless)
    (ap (λ (met : Held × Step). step_fault top 1 met.0 met.1) (plain_met positional 1 f (files_walk rows skip fs).held flagless))

-- all files behind the first
later_files : (rows : List Row) (skip : ℕ) (fs more : List Text) → Each IsPlainFile more
    → (fold (walked arguments []) (files_walk rows skip fs) more ≡ files_walk rows skip (fs ++ more))
    × (walk_fault top [] (files_walk rows skip fs) more ≡ [])
unfolding walk_fault
later_files rows skip fs [] plain = (ap (files_walk rows skip) (sym (append-nil fs)), refl)
later_files rows skip fs (f ∷ more) plain =
    let rest = later_files rows skip (fs ++ f ∷ []) more plain.1 in
    let step = next_file rows skip fs f plain.0 in (
      ap (λ (w : Walk). fold (walked arguments []) w more) step ∙ rest.0 ∙ ap (files_walk rows skip) (append_assoc fs (f ∷ []) more),
      ap (λ (ks : Kinds). or_else ks (walk_fault top [] (walked arguments [] (files_walk rows skip fs) f) more))
          (next_faultless rows skip fs f plain.0)
          ∙ ap (λ (w : Walk). walk_fault top [] w more) step ∙ rest.1,
    )

-- all files
files_walked : (h : Held) (f : Text) (more : List Text) (rows : List Row) → StandsAfter rows h → Each IsPlainFile (f ∷ more)
    → (fold (walked arguments []) (walk_from h) (f ∷ more) ≡ files_walk rows h.skip (f ∷ more))
    × (walk_fault top [] (walk_from h) (f ∷ more) ≡ [])
unfolding walk_fault
files_walked h f more rows s plain =
    let step = first_file h f s.no_files plain.0 ∙ ap (λ (rs : List Row). files_walk rs h.skip (f ∷ [])) s.rows_are in
    let rest = later_files rows h.skip (f ∷ []) more plain.1 in (
      ap (λ (w : Walk). fold (walked arguments []) w more) step ∙ rest.0,
      ap (λ (ks : Kinds). or_else ks (walk_fault top [] (walked arguments [] (walk_from h) f) more))
          (first_faultless h f s.no_files s.settles plain.0)
          ∙ ap (λ (w : Walk). walk_fault top [] w more) step ∙ rest.1,
    )

-- ---- after the walk

-- any number of values
values_pass : (vs : List Text) → values_kinds false vp.String vs ≡ []
values_pass [] = refl
values_pass (v ∷ vs) = values_pass vs

-- as many as there may be
range_passes : (n : ℕ) → 1 ≤ n → n ≤ most_files → range_kinds 1 usize_max n ≡ []
range_passes n some few =
    let not_none : (n == 0) ≡ false = ne_eqb n 0 (λ e. omega arith) in
    rw (not_none, le-ltb n 1 some, le-ltb usize_max n (omega arith)) refl

-- the files are used
files_used : (f : Text) (more : List Text) (rows : List Row) → has_row (codes "files") rows ≡ false
    → settled_rows arguments (Some (codes "files", f ∷ more)) rows ≡ rows ++ files_row (f ∷ more) ∷ []
files_used f more rows none = at_absent (codes "files") (more_values CommandLine (f ∷ more)) (files_row (f ∷ more) ∷ []) rows none

-- and no step fails at that
files_settle : (f : Text) (more : List Text) (rows : List Row) (skip : ℕ) → length (f ∷ more) ≤ most_files
    → settle_fault arguments false (record { rows = rows; pending = Some (codes "files", f ∷ more); skip = skip }) ≡ []
files_settle f more rows skip few =
    let some : 1 ≤ length (f ∷ more) = omega arith in
    ap₂ or_else (range_passes (length (f ∷ more)) some few) (values_pass (f ∷ more))

-- a choice between the same
either_same : {X : Type 0} (b : Bool) (x : X) → cond b x x ≡ x
either_same true x = refl
either_same false x = refl

-- a choice that holds
or_true : (b : Bool) → (b || true) ≡ true
or_true true = refl
or_true false = refl

-- the argument has no default
abbrev HasNoDefault : Rule → Type 0
HasNoDefault a = a.defaults ≡ []

-- it gets no row
no_default : (rows : List Row) (a : Rule) → HasNoDefault a → with_default rows a ≡ rows
no_default rows a h = rw h (either_same (has_row a.id rows) rows)

-- and no step fails at it
no_default_fault : (rows : List Row) (a : Rule) → HasNoDefault a → default_fault rows a ≡ []
no_default_fault rows a h = rw (h, or_true (has_row a.id rows)) refl

-- the same of all
no_defaults : (c : List Rule) (rows : List Row) → Each HasNoDefault c → (fold with_default rows c ≡ rows) × (defaults_fault rows c ≡ [])
unfolding defaults_fault
no_defaults [] rows h = (refl, refl)
no_defaults (a ∷ c) rows h =
    let same = no_default rows a h.0 in
    let rest = no_defaults c rows h.1 in (
      ap (λ (rs : List Row). fold with_default rs c) same ∙ rest.0,
      ap (λ (ks : Kinds). or_else ks (defaults_fault (with_default rows a) c)) (no_default_fault rows a h.0)
          ∙ ap (λ (rs : List Row). defaults_fault rs c) same ∙ rest.1,
    )

-- as it is here
arguments_have_none : Each HasNoDefault arguments
arguments_have_none = (refl, (refl, (refl, (refl, (refl, (refl, tt))))))

-- the one argument that is required is there
check_passes : (rows : List Row) (fs : List Text) → has_row (codes "files") rows ≡ false
    → check_fault top (rows ++ files_row fs ∷ []) false ≡ []
check_passes rows fs none = rw (find_last (codes "files") rows (files_row fs) none refl) refl

-- how a level ends, by where its walk ended and what it met
abbrev fault_after : Walk → Kinds → Kinds
fault_after w met =
    or_else met (or_else (entered_fault ready w.stopped) (or_else (settle_fault arguments false w.held)
    (or_else (defaults_fault (settled arguments w.held).rows arguments)
    (check_fault top (finished arguments w.held) (is_some (entered ready w.stopped))))))

-- clap's faults are these
fault_is : (words : List Text) → fault_of solve_command words
    ≡ fault_after (walk arguments [] nothing_held words) (walk_fault top [] (walk_from nothing_held) words)
fault_is words = refl

-- clap's matches are the rows at the end
matches_are : (words : List Text) → matches_of solve_command words ≡ finished arguments (walk arguments [] nothing_held words).held
matches_are words = refl

module _ (f : Text) (more : List Text) (rows : List Row) (skip : ℕ) (none : has_row (codes "files") rows ≡ false) where
  -- the rows of options and files
  abbrev all_rows : List Row
  all_rows = rows ++ files_row (f ∷ more) ∷ []

  -- no step fails after the walk
  end_faultless : length (f ∷ more) ≤ most_files → fault_after (files_walk rows skip (f ∷ more)) [] ≡ []
  end_faultless few =
      let ended = no_defaults arguments all_rows arguments_have_none in
      ap (λ (ks : Kinds). or_else ks (or_else (defaults_fault (settled_rows arguments (Some (codes "files", f ∷ more)) rows) arguments)
      (check_fault top (fold with_default (settled_rows arguments (Some (codes "files", f ∷ more)) rows) arguments) false)))
      (files_settle f more rows skip few)
      ∙ ap (λ (rs : List Row). or_else (defaults_fault rs arguments) (check_fault top (fold with_default rs arguments) false))
      (files_used f more rows none)
      ∙ ap₂ or_else ended.1 (ap (λ (rs : List Row). check_fault top rs false) ended.0 ∙ check_passes rows (f ∷ more) none)

  -- the rows at the end
  end_rows : finished arguments (files_walk rows skip (f ∷ more)).held ≡ all_rows
  end_rows = ap (λ (rs : List Row). fold with_default rs arguments) (files_used f more rows none)
      ∙ (no_defaults arguments all_rows arguments_have_none).0

-- ---- the request

-- the value of an option
value_read : (n : OptionName) (os : List Given) (fs : List Text) → first_of (name_of n) (map row os ++ files_row fs ∷ []) ≡ value_of n os
value_read n [] fs = rw (files_is_no_option n) refl
value_read n (o ∷ os) fs = go (bytes_eq (name_of o.0) (name_of n)) (value_read n os fs)
  where
    go : (b : Bool) → first_of (name_of n) (map row os ++ files_row fs ∷ []) ≡ value_of n os
        → option_and_then (λ (r : Row). slice_get r.values 0)
        (cond b (Some (row o)) (find (λ (r : Row). bytes_eq r.id (name_of n)) (map row os ++ files_row fs ∷ [])))
        ≡ option_map (λ (p : Given). p.1) (cond b (Some o) (find (λ (p : Given). bytes_eq (name_of p.0) (name_of n)) os))
    go true e = refl
    go false e = e

-- there are not too many files
few_pass : (fs : List Text) → length fs ≤ most_files → few fs ≡ Some fs
few_pass fs h = rw (le-leb (length fs) most_files h) refl

-- the files
files_read : (rows : List Row) (fs : List Text) → has_row (codes "files") rows ≡ false → length fs ≤ most_files
    → files_of (rows ++ files_row fs ∷ []) ≡ Some fs
files_read rows fs none h =
    ap (λ (o : Option Row). option_and_then few (option_map (λ (r : Row). r.values) o))
    (find_last (codes "files") rows (files_row fs) none refl) ∙ few_pass fs h

-- the matches of plain words ask for the request
request_read : (os : List Given) (r : Solve) → length r.files ≤ most_files → r.after ≡ value_of After os → r.trace ≡ value_of Trace os
    → number_or most_sets (value_of Limit os) ≡ Some r.settings.limit → number_or most_conflicts (value_of Conflicts os)
    ≡ Some r.settings.conflicts
    → number_or most_instances (value_of Instances os) ≡ Some r.settings.instances
    → request_of (map row os ++ files_row r.files ∷ []) ≡ Some r
request_read os r small after trace limit conflicts instances =
    let rows : List Row = map row os ++ files_row r.files ∷ [] in
    let l : number_or most_sets (first_of (codes "limit") rows) ≡ Some r.settings.limit = ap (number_or most_sets)
    (value_read Limit os r.files) ∙ limit in
    let c : number_or most_conflicts (first_of (codes "conflicts") rows) ≡ Some r.settings.conflicts =
    ap (number_or most_conflicts) (value_read Conflicts os r.files) ∙ conflicts in
    let n : number_or most_instances (first_of (codes "instances") rows) ≡ Some r.settings.instances =
    ap (number_or most_instances) (value_read Instances os r.files) ∙ instances in
    let s : settings_of rows ≡ Some r.settings = λ i. settings_from (l i) (c i) (n i) in
    let f : files_of rows ≡ Some r.files = files_read (map row os) r.files (no_files_row os) small in
    let a : first_of (codes "after") rows ≡ r.after = value_read After os r.files ∙ sym after in
    let t : first_of (codes "trace") rows ≡ r.trace = value_read Trace os r.files ∙ sym trace in
    λ i. request_from (s i) (f i) (a i) (t i)

-- before the first word
at_start : StandsAfter [] nothing_held
at_start = record { rows_are = refl; settles = refl; no_files = refl }

-- what clap's function gives for plain words
record Reads (os : List Given) (fs : List Text) : Type 0 where
  pub faultless : fault_of solve_command (words_of os ++ fs) ≡ []
  pub rows_are : matches_of solve_command (words_of os ++ fs) ≡ map row os ++ files_row fs ∷ []

-- no step fails at plain words, and their rows are those of the options and the files
plain_reads : (os : List Given) (fs : List Text) → HasNoRepeats (map (λ o. o.0) os) → Each (λ o. IsPlainText o.1) os → 1 ≤ length fs
    → length fs ≤ most_files → Each IsPlainFile fs → Reads os fs
plain_reads os [] once texts some small plain = absurd (omega arith)
plain_reads os (f ∷ more) once texts some small plain =
    let w = options_walked os [] nothing_held (f ∷ more) at_start (all_new os) once texts in
    let fw = files_walked w.later f more (map row os) w.stands plain in
    let walk_is : walk arguments [] nothing_held (words_of os ++ f ∷ more) ≡ files_walk (map row os) w.later.skip (f ∷ more) = w.walk_is
    ∙ fw.0 in
    let met : walk_fault top [] (walk_from nothing_held) (words_of os ++ f ∷ more) ≡ [] = w.faults_are ∙ fw.1 in
    record {
      faultless = fault_is (words_of os ++ f ∷ more) ∙ ap₂ fault_after walk_is met
          ∙ end_faultless f more (map row os) w.later.skip (no_files_row os) small;
      rows_are = matches_are (words_of os ++ f ∷ more) ∙ ap (λ (x : Walk). finished arguments x.held) walk_is
          ∙ end_rows f more (map row os) w.later.skip (no_files_row os);
    }

-- plain words ask for just what they say
pub plain_asks : (words : List Text) (r : Solve) → IsPlain words r → asked words ≡ Some r
plain_asks words r p =
    let reads = plain_reads p.options r.files p.no_option_twice p.plain_values p.some_file p.few_files p.plain_files in
    ap asked p.words_are ∙ asked_by_rows (words_of p.options ++ r.files) (map row p.options ++ files_row r.files ∷ []) reads.faultless
    (sym reads.rows_are)
    ∙ request_read p.options r p.few_files p.after p.trace p.limit p.conflicts p.instances
