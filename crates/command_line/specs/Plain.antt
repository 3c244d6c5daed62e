-- Words that are written plainly: `solve`, options with their values, and files.
use Rattle.std.specs.Prelude.{◌≡◌, ◌⊎◌, ◌≤◌, ℕ, List, [], ◌∷◌, ◌++◌, map, length, find, Option, Some, option_map, codes}
use Rattle.std.specs.Str.{bytes_eq}
use Rattle.lists.specs.Lists.{Each, HasNoRepeats}
use Rattle.search_settings.specs.Defaults.{most_sets, most_conflicts, most_instances}
use Rattle.command_line.specs.Numbers.{number_or}
use Rattle.command_line.specs.Requests.{most_files}
use Rattle.command_line.specs.declared.request.Solve.{Solve}

-- the options
pub data OptionName : Type 0 where
  After : OptionName
  Limit : OptionName
  Conflicts : OptionName
  Instances : OptionName
  Trace : OptionName

-- what an option is called
abbrev pub name_of : OptionName → List ℕ
name_of After = codes "after"
name_of Limit = codes "limit"
name_of Conflicts = codes "conflicts"
name_of Instances = codes "instances"
name_of Trace = codes "trace"

-- an option with its value
abbrev pub Given : Type 0
Given = OptionName × List ℕ

-- options as words: `--` with the name, and the value
abbrev pub words_of : List Given → List (List ℕ)
words_of [] = []
words_of (o ∷ os) = (45 ∷ 45 ∷ name_of o.0) ∷ o.1 ∷ words_of os

-- the value that was given to an option
abbrev pub value_of : OptionName → List Given → Option (List ℕ)
value_of name os = option_map (λ o. o.1) (find (λ o. bytes_eq (name_of o.0) (name_of name)) os)

-- not empty, and not beginning with `-`
abbrev pub IsPlainText : List ℕ → Type 0
IsPlainText [] = ⊥
IsPlainText (b ∷ bytes) = ¬ (b ≡ 45)

-- `-`, or not empty and not beginning with it
abbrev pub IsPlainFile : List ℕ → Type 0
IsPlainFile word = (word ≡ 45 ∷ []) ⊎ IsPlainText word

-- the words are `solve`, then options with their values, none twice, then files; and the request is what they say
pub record IsPlain (words : List (List ℕ)) (r : Solve) : Type 0 where
  pub options : List Given
  pub words_are : words ≡ codes "solve" ∷ (words_of options ++ r.files)
  pub no_option_twice : HasNoRepeats (map (λ o. o.0) options)
  pub plain_values : Each (λ o. IsPlainText o.1) options
  pub some_file : 1 ≤ length r.files
  pub few_files : length r.files ≤ most_files
  pub plain_files : Each IsPlainFile r.files
  pub after : r.after ≡ value_of After options
  pub trace : r.trace ≡ value_of Trace options
  pub limit : number_or most_sets (value_of Limit options) ≡ Some r.settings.limit
  pub conflicts : number_or most_conflicts (value_of Conflicts options) ≡ Some r.settings.conflicts
  pub instances : number_or most_instances (value_of Instances options) ≡ Some r.settings.instances
