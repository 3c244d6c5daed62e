-- Words that are written plainly, as an example.
use Rattle.std.proofs.Common.{arith, refl, [], ◌∷◌, None, codes, inr}
use Rattle.search_settings.specs.Defaults.{most_conflicts, most_instances}
use Rattle.command_line.specs.Plain.{IsPlain, Limit}
use Rattle.command_line.specs.declared.request.Solve.{Solve}

-- what is asked for: three sets of one file
abbrev three_sets : Solve
three_sets = record {
  files = codes "p.lp" ∷ [];
  after = None;
  trace = None;
  settings = record { limit = 3; conflicts = most_conflicts; instances = most_instances };
}

-- `solve --limit 3 p.lp`
example : IsPlain (codes "solve" ∷ codes "--limit" ∷ codes "3" ∷ codes "p.lp" ∷ []) three_sets
example = record {
  options = (Limit, codes "3") ∷ [];
  words_are = refl;
  no_option_twice = ((λ e. e), tt);
  plain_values = ((λ e. omega arith), tt);
  some_file = omega arith;
  few_files = omega arith;
  plain_files = (inr (λ e. omega arith), tt);
  after = refl;
  trace = refl;
  limit = refl;
  conflicts = refl;
  instances = refl;
}
