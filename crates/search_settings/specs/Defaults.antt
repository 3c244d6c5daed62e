-- How far a search may go where no option says otherwise.
use Rattle.std.specs.Prelude.{ℕ}
use Rattle.search_settings.specs.declared.Settings.{Settings}

-- the most sets that are written
abbrev pub most_sets : ℕ
most_sets = 1000000000

-- the most nogoods that are noted as struck
abbrev pub most_conflicts : ℕ
most_conflicts = 1000000

-- the most instances that are made
abbrev pub most_instances : ℕ
most_instances = 10000000

-- all three
abbrev pub defaults : Settings
defaults = record { limit = most_sets; conflicts = most_conflicts; instances = most_instances }
