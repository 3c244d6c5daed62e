-- What the matches of a command line ask for.
use Rattle.std.specs.Prelude.{ℕ, if◌then◌else◌, nat_le, List, length, Option, Some, None, codes, option_and_then}
use Rattle.clap.specs.Words.{Row, all_of, first_of}
use Rattle.search_settings.specs.Defaults.{most_sets, most_conflicts, most_instances}
use Rattle.search_settings.specs.declared.Settings.{Settings}
use Rattle.command_line.specs.Numbers.{number_or}
use Rattle.command_line.specs.declared.request.Solve.{Solve}

-- the most files that may be named
abbrev pub most_files : ℕ
most_files = 65536

-- how far the search may go, where all three numbers have their form
abbrev pub settings_from : Option ℕ → Option ℕ → Option ℕ → Option Settings
settings_from (Some l) (Some c) (Some i) = Some (record { limit = l; conflicts = c; instances = i })
settings_from _ _ _ = None

-- how far the search may go
abbrev pub settings_of : List Row → Option Settings
settings_of rows = settings_from (number_or most_sets (first_of (codes "limit") rows))
    (number_or most_conflicts (first_of (codes "conflicts") rows))
    (number_or most_instances (first_of (codes "instances") rows))

-- files, where there are not too many
abbrev pub few : List (List ℕ) → Option (List (List ℕ))
few files = if nat_le (length files) most_files then Some files else None

-- the files
abbrev pub files_of : List Row → Option (List (List ℕ))
files_of rows = option_and_then few (all_of (codes "files") rows)

-- the request, where there are settings and files
abbrev pub request_from : Option Settings → Option (List (List ℕ)) → Option (List ℕ) → Option (List ℕ) → Option Solve
request_from (Some s) (Some fs) after trace = Some (record { files = fs; after = after; trace = trace; settings = s })
request_from _ _ after trace = None

-- what the matches ask for
abbrev pub request_of : List Row → Option Solve
request_of rows = request_from (settings_of rows) (files_of rows) (first_of (codes "after") rows) (first_of (codes "trace") rows)
