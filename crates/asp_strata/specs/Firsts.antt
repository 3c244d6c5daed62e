-- The first bad member of a list, and the first recursive aggregate of a program.
use Rattle.std.specs.Prelude.{◌≡◌, ℕ, List, ◌∷◌, ◌++◌}
use Rattle.lists.specs.Lists.{Each}
use Rattle.asp_syntax.specs.declared.tree.Statement.{Statement}
use Rattle.asp_strata.specs.declared.predicate.Predicate.{Predicate}
use Rattle.asp_strata.specs.Recursion.{DependsOnHead, HasNoRecursion, element_predicates, written}

-- x is the first of the list that isn't good
pub record IsFirstBad {A : Type 0} (Good : A → Type 0) (xs : List A) (x : A) : Type 0 where
  pub front : List A
  pub back : List A
  pub stands : xs ≡ front ++ x ∷ back
  pub good : Each Good front
  pub bad : ¬ Good x

-- the first predicate in an aggregate element of the statement that depends on its head is written so
abbrev pub FirstDependent : List Statement → Statement → List ℕ → Type 0
FirstDependent P s name = (p : Predicate) × IsFirstBad (λ q. ¬ DependsOnHead P s q) (element_predicates s) p × DependsOnHead P s p
    × (name ≡ written p)

-- of the statements in the list, the first that has a recursive aggregate in the program P begins in this line, and the first element
-- predicate in it that depends on its head is written so
abbrev pub FirstRecursiveOf : List Statement → List Statement → ℕ → List ℕ → Type 0
FirstRecursiveOf P rest line name = (s : Statement) × IsFirstBad (HasNoRecursion P) rest s × (line ≡ s.line) × FirstDependent P s name

-- the first statement with a recursive aggregate begins in this line, and the first element predicate that depends on its head is
-- written so
abbrev pub FirstRecursive : List Statement → ℕ → List ℕ → Type 0
FirstRecursive P line name = FirstRecursiveOf P P line name
