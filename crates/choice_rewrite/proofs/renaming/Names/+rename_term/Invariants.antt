use Rattle.std.proofs.Common.{◌≡◌, ◌++◌, map, drop}
use Rattle.single_rules.specs.Renaming.{name_by, renamed}
use Rattle.choice_rewrite.proofs.renaming.Names.+rename_term.Given as goal

abbrev pub invariant-loop-arg : goal.invariant-loop-arg
invariant-loop-arg l =
    l.parts ++ map (renamed (name_by l.self.globals.keys l.self.marks l.self.numbers)) (drop l.arg-index l.arg-items)
    ≡ map (renamed (name_by l.self.globals.keys l.self.marks l.self.numbers)) l.arg-items
