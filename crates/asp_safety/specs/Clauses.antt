-- The least set of variables that holds what is given and is closed under clauses.
use Rattle.std.specs.Prelude.{◌≡◌, List}
use Rattle.lists.specs.Lists.{◌∈◌}
use Rattle.asp_meaning.specs.Terms.{Variable}
use Rattle.asp_safety.specs.declared.clause.Clause.{Clause}

-- v is given, or a clause gives it whose needs are all derived
pub data Derives (given : List Variable) (clauses : List Clause) : Variable → Type 0 where
  from_given : (v : Variable) → v ∈ given → Derives given clauses v
  by_clause : (v : Variable) (c : Clause) → c ∈ clauses → v ≡ c.gives → ((w : Variable) → w ∈ c.needs → Derives given clauses w)
      → Derives given clauses v
