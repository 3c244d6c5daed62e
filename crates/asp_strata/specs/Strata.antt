-- The strata of a program's predicates.
use Rattle.std.specs.Prelude.{◌≡◌, ◌≢◌, ℕ, ◌≤◌, ◌<◌, List, [], ◌∷◌, Option, Some, None, if◌then◌else◌}
use Rattle.lists.specs.Lists.{◌∈◌, Each}
use Rattle.asp_syntax.specs.declared.tree.Statement.{Statement}
use Rattle.asp_strata.specs.declared.predicate.Predicate.{Predicate}
use Rattle.asp_strata.specs.Predicates.{predicate_eq}
use Rattle.asp_strata.specs.Recursion.{head_predicates, condition_of_head, body_predicates, element_predicates, occurring}

-- both are there, and the first is at most the second
abbrev pub AtMost : Option ℕ → Option ℕ → Type 0
AtMost (Some m) (Some n) = m ≤ n
AtMost _ _ = ⊥

-- both are there, and the first is below the second
abbrev pub Below : Option ℕ → Option ℕ → Type 0
Below (Some m) (Some n) = m < n
Below _ _ = ⊥

-- the strata of the head predicates of a statement are at least those of the predicates in its body outside aggregates and in its
-- choice elements' conditions, and greater than those of the predicates in its aggregates' elements
pub record Rises (stratum : Predicate → Option ℕ) (s : Statement) : Type 0 where
  pub body : (h q : Predicate) → h ∈ head_predicates s.head → q ∈ body_predicates s → AtMost (stratum q) (stratum h)
  pub conditions : (h q : Predicate) → h ∈ head_predicates s.head → q ∈ condition_of_head s.head → AtMost (stratum q) (stratum h)
  pub elements : (h q : Predicate) → h ∈ head_predicates s.head → q ∈ element_predicates s → Below (stratum q) (stratum h)

-- each predicate that occurs has a stratum, no other has one, and in each statement they rise
pub record IsStratification (P : List Statement) (stratum : Predicate → Option ℕ) : Type 0 where
  pub there : (p : Predicate) → p ∈ occurring P → stratum p ≢ None
  pub none : (p : Predicate) → ¬ (p ∈ occurring P) → stratum p ≡ None
  pub rises : Each (Rises stratum) P

-- predicates, and beside each its stratum
pub record Levels : Type 0 where
  pub predicates : List Predicate
  pub strata : List ℕ

-- the stratum of a predicate, in a list of predicates beside that of their strata
abbrev pub stratum_in : List Predicate → List ℕ → Predicate → Option ℕ
stratum_in [] ns p = None
stratum_in (q ∷ qs) [] p = None
stratum_in (q ∷ qs) (n ∷ ns) p = if predicate_eq q p then Some n else stratum_in qs ns p

abbrev pub stratum_of : Levels → Predicate → Option ℕ
stratum_of l = stratum_in l.predicates l.strata
