-- Predicates as the code holds them: when two are the same, and what a hash reads of one.
use Rattle.std.specs.Prelude.{ℕ, Bool, ◌&&◌, nat_eq, List, ◌++◌}
use mathlib.Core.Bool.{beq as bool_eq}
use Rattle.std.specs.Cmp.Lexicographic.{pointwise}
use Rattle.std.specs.Hash as fed
use Rattle.asp_strata.specs.declared.predicate.Predicate.{Predicate}

abbrev pub predicate_eq : Predicate → Predicate → Bool
predicate_eq p q = bool_eq p.negated q.negated && nat_eq p.arity q.arity && pointwise nat_eq p.name q.name

abbrev pub predicate_writes : Predicate → List (List ℕ)
predicate_writes p = fed.bool p.negated ++ (fed.usize p.arity ++ fed.slice fed.u8 p.name)
