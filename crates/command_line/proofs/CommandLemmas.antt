-- The command that is built is the one that the definitions name, and what its parse gives.
use Rattle.std.proofs.Common.{◌≡◌, ◌∙◌, refl, sym, ap, ap₂, true, false, List, [], ◌∷◌, codes, Option, Some, None, Result, Ok, Err, IfOk}
use Rattle.std.specs.Option.{IsSomeAnd}
use Rattle.clap.specs.Lexer.{usize_max}
use Rattle.clap.specs.Words.{AddsArg, App, Kinds, Rule, Row, Shape, Text, app_of, fault_of, matches_of, new_app, new_rule, rule_of, with_rule}
use Rattle.clap.specs.Simple.{app_of_fields, on_top}
use Rattle.clap.specs.declared.builder.arg.Arg.{Arg}
use Rattle.clap.specs.declared.builder.range.ValueRange.{ValueRange}
use Rattle.clap.specs.declared.builder.command.Command.{Command}
use Rattle.clap.specs.declared.builder.command.Command.TheViews.{out-Command}
use Rattle.clap.specs.declared.builder.command.Command.TheOpen.{Command-F}
use Rattle.command_line.specs.Commands.{asked_by, asked_of_solve, bare_command, files_rule, option_rule, solve_command}
use Rattle.command_line.specs.Requests.{request_of}

-- ---- the command

-- three settings
pub bare_is : (a b d e : Command) → app_of a ≡ new_app (codes "solve") → out-Command b ≡ record (out-Command a) { no_binary_name = true }
    → out-Command d ≡ record (out-Command b) { disable_help_flag = true }
    → out-Command e ≡ record (out-Command d) { disable_version_flag = true }
    → app_of e ≡ bare_command
bare_is a b d e new first second third =
    ap app_of_fields third ∙ ap (λ (f : Command-F Command). app_of_fields (record f { disable_version_flag = true })) second
    ∙ ap (λ (f : Command-F Command). app_of_fields (record (record f { disable_help_flag = true }) { disable_version_flag = true })) first
    ∙ ap (on_top (λ (s : Shape). record s { no_binary_name = true; disable_help_flag = true; disable_version_flag = true })) new

-- one more argument
pub adds : {E : Type 0} (old : Command) (a : Arg) (rule : Rule) (r : Result Command E) → IfOk r (λ c. AddsArg old a c) → a.global ≡ false
    → rule_of a ≡ rule → IfOk r (λ c. app_of c ≡ with_rule (app_of old) rule)
adds old a rule (Ok c) h local is = h.shape local ∙ ap (with_rule (app_of old)) is
adds old a rule (Err e) h local is = tt

-- one value or more
abbrev full : ValueRange
full = record { start_inclusive = 1; end_inclusive = usize_max }

-- the range that was given
range_is : (o : Option ValueRange) → IsSomeAnd o (λ r. r ≡ full) → o ≡ Some full
range_is None h = absurd h
range_is (Some r) h = ap Some h

-- the files
pub files_are : (a b d : Arg) → rule_of a ≡ new_rule (codes "files") → b ≡ record a { num_vals = b.num_vals }
    → IsSomeAnd b.num_vals (λ r. r ≡ full)
    → d ≡ record b { required = true } → rule_of d ≡ files_rule
files_are a b d new ranged range required =
    ap rule_of required ∙ ap (λ (x : Arg). rule_of (record x { required = true })) ranged
    ∙ ap (λ (o : Option ValueRange). record (rule_of a) { range = o; required = true }) (range_is b.num_vals range)
    ∙ ap (λ (x : Rule). record x { range = Some full; required = true }) new

-- five options, and the files
pub all_are : {E : Type 0} (b c1 c2 c3 c4 c5 : Command) (r : Result Command E) → app_of b ≡ bare_command
    → app_of c1 ≡ with_rule (app_of b) (option_rule (codes "after")) → app_of c2 ≡ with_rule (app_of c1) (option_rule (codes "limit"))
    → app_of c3 ≡ with_rule (app_of c2) (option_rule (codes "conflicts"))
    → app_of c4 ≡ with_rule (app_of c3) (option_rule (codes "instances"))
    → app_of c5 ≡ with_rule (app_of c4) (option_rule (codes "trace")) → IfOk r (λ c. app_of c ≡ with_rule (app_of c5) files_rule)
    → IfOk r (λ c. app_of c ≡ solve_command)
all_are b c1 c2 c3 c4 c5 (Err e) h h1 h2 h3 h4 h5 h6 = tt
all_are b c1 c2 c3 c4 c5 (Ok c) h h1 h2 h3 h4 h5 h6 =
    let more : Text → App → App = λ name a. with_rule a (option_rule name) in
    h6 ∙ ap (λ (a : App). with_rule a files_rule) (h5 ∙ ap (more (codes "trace")) (h4 ∙ ap (more (codes "instances")) (h3
    ∙ ap (more (codes "conflicts")) (h2 ∙ ap (more (codes "limit")) (h1 ∙ ap (more (codes "after")) h)))))

-- ---- the request

-- where no step fails, the words ask for what the matches ask for
pub asked_by_rows : (words : List Text) (rows : List Row) → fault_of solve_command words ≡ [] → rows ≡ matches_of solve_command words
    → asked_of_solve words ≡ request_of rows
unfolding asked_of_solve
asked_by_rows words rows none are = ap₂ asked_by none (sym are)

-- where a step fails nothing is asked for
by_some_kind : (kinds : Kinds) (rows : List Row) → ¬ (kinds ≡ []) → asked_by kinds rows ≡ None
by_some_kind [] rows h = absurd (h refl)
by_some_kind (k ∷ kinds) rows h = refl

-- and where one fails they ask for nothing
pub asked_for_none : (words : List Text) → ¬ (fault_of solve_command words ≡ []) → asked_of_solve words ≡ None
unfolding asked_of_solve
asked_for_none words some = by_some_kind (fault_of solve_command words) (matches_of solve_command words) some
