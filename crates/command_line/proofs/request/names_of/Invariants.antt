use Rattle.std.proofs.Common.{◌≡◌, ◌++◌, drop, map}
use Rattle.command_line.proofs.request.names_of.Given as goal

abbrev pub invariant-loop-text : goal.invariant-loop-text
invariant-loop-text l = l.names ++ map (λ s. s.now) (drop l.text-index l.texts) ≡ map (λ s. s.now) l.texts
