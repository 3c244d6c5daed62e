use Rattle.std.proofs.Common.{◌≡◌, ◌++◌, map, drop}
use Rattle.single_rules.specs.Renaming.{name_by, renamed}
use Rattle.choice_rewrite.proofs.renaming.Names.rename_terms.Given as goal

abbrev pub invariant-loop-term : goal.invariant-loop-term
invariant-loop-term l =
    l.done ++ map (renamed (name_by l.self.globals.keys l.self.marks l.self.numbers)) (drop l.term-index l.terms)
    ≡ map (renamed (name_by l.self.globals.keys l.self.marks l.self.numbers)) l.terms
