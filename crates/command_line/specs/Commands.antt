-- The command that is read, and what words ask for.
use Rattle.std.specs.Prelude.{ℕ, true, if◌then◌else◌, List, [], ◌∷◌, Option, Some, None, codes}
use Rattle.std.specs.Str.{bytes_eq}
use Rattle.clap.specs.Lexer.{usize_max}
use Rattle.clap.specs.Kinds.{Kinds}
use Rattle.clap.specs.Walk.{Row, Rule}
use Rattle.clap.specs.Simple.{App, matches_of, new_app, new_rule, on_top, with_rule}
use Rattle.clap.specs.Faults.{fault_of}
use Rattle.command_line.specs.Requests.{request_of}
use Rattle.command_line.specs.declared.request.Solve.{Solve}

-- an option with one value
abbrev pub option_rule : List ℕ → Rule
option_rule name = record (new_rule name) { long = Some name }

-- the files: one or more
abbrev pub files_rule : Rule
files_rule = record (new_rule (codes "files")) {
  range = Some (record { start_inclusive = 1; end_inclusive = usize_max });
  required = true;
}

-- a command without arguments, that has no help and no version, and of which all words are arguments
abbrev pub bare_command : App
bare_command = on_top (λ s. record s { no_binary_name = true; disable_help_flag = true; disable_version_flag = true })
    (new_app (codes "solve"))

-- the command: five options and the files
abbrev pub solve_command : App
solve_command = with_rule (with_rule (with_rule (with_rule (with_rule (with_rule bare_command
    (option_rule (codes "after"))) (option_rule (codes "limit"))) (option_rule (codes "conflicts")))
    (option_rule (codes "instances"))) (option_rule (codes "trace"))) files_rule

-- what matches ask for, where no step of the parse fails
abbrev pub asked_by : Kinds → List Row → Option Solve
asked_by [] rows = request_of rows
asked_by (k ∷ kinds) rows = None

-- what the words behind `solve` ask for
unfoldable pub asked_of_solve : List (List ℕ) → Option Solve
asked_of_solve rest = asked_by (fault_of solve_command rest) (matches_of solve_command rest)

-- what words ask for, where they are not refused
abbrev pub asked : List (List ℕ) → Option Solve
asked [] = None
asked (command ∷ rest) = if bytes_eq command (codes "solve") then asked_of_solve rest else None
