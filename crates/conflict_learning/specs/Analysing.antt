-- What the analysis of a struck nogood needs, and what it answers.
use Rattle.std.specs.Prelude.{◌≡◌, ℕ, ◌<◌, ◌≤◌, ◌⊎◌, true, false, List}
use Rattle.lists.specs.Lists.{◌∈◌}
use Rattle.search_values.specs.declared.entry.Entry.{Entry}
use Rattle.search_values.specs.Values.{Lit, lit, Holds, first_level, all_at_0, IsClosed, IsWithoutReason}
use Rattle.search_values.specs.Nogoods.{Nogood, IsStruck}
use Rattle.nogood_store.specs.Stored.{HasNoAtomTwice}
use Rattle.journal_theory.specs.Resolution.{Arises, IsOneHighest, IsAnalysed}
use Rattle.journal_theory.specs.Events.{lits_at, IsNew}
use Rattle.conflict_learning.specs.FirstValues.{came_with}
use Rattle.conflict_learning.specs.declared.analysis.Analysis.{Analysis}
use Rattle.conflict_learning.specs.declared.analysis.Analysis.TheVariants.{Root, NeedsReason, AlreadyUnit, New}

-- all the literals hold
abbrev pub AllHold : List Entry → List Lit → Type 0
AllHold stack ls = (l : Lit) → l ∈ ls → Holds stack l

-- none of the literals is of a closed atom
abbrev pub NoneClosed : List Entry → List Lit → Type 0
NoneClosed stack ls = (l : Lit) → l ∈ ls → ¬ IsClosed stack l.atom

-- the level of a literal is that of its atom's first value
abbrev pub level_at : List Entry → Lit → ℕ
level_at stack l = first_level stack l.atom

-- the literal is at the highest level of these
pub record IsHighest (stack : List Entry) (ls : List Lit) (l : Lit) : Type 0 where
  pub among : l ∈ ls
  pub highest : (k : Lit) → k ∈ ls → level_at stack k ≤ level_at stack l

-- the nogood is unit below its highest level: no literal is closed, and just one stands at the highest level, which isn't 0
abbrev pub IsUnitBelow : List Entry → List Lit → Type 0
IsUnitBelow stack ls = NoneClosed stack ls × IsOneHighest stack ls

-- the second highest level, or 0: the level below the highest one to which the search goes back
pub record IsSecondLevel (stack : List Entry) (ls : List Lit) (level : ℕ) : Type 0 where
  pub highest : Lit
  pub is_highest : IsHighest stack ls highest
  pub below : (l : Lit) → l ∈ ls → level_at stack l < level_at stack highest → level_at stack l ≤ level
  pub reached : (level ≡ 0) ⊎ ((l : Lit) × (l ∈ ls) × (level_at stack l ≡ level))
  pub lower : level < level_at stack highest

-- ---- what is needed

-- where the highest level isn't 0, a literal at that level isn't closed
abbrev pub HasOpenHighest : List Entry → List Lit → Type 0
HasOpenHighest stack ls = (all_at_0 stack ls ≡ true) ⊎ ((l : Lit) × IsHighest stack ls l × (¬ IsClosed stack l.atom))

-- no other struck nogood's last literal came onto the stack earlier; so where there is an empty nogood, these are no literals
abbrev pub CameFirst : List Nogood → List Entry → List Lit → Type 0
CameFirst ngs stack ls = (ng : Nogood) → ng ∈ ngs → IsStruck stack ng → came_with stack ls ≤ came_with stack ng.lits

-- where some struck nogood has the same last literal and is unit below that literal's level, this one is so too
abbrev pub IsUnitWhereOneIs : List Nogood → List Entry → List Lit → Type 0
IsUnitWhereOneIs ngs stack ls =
    (ng : Nogood) → ng ∈ ngs → IsStruck stack ng → came_with stack ls ≡ came_with stack ng.lits → IsUnitBelow stack ng.lits
    → IsUnitBelow stack ls

-- ---- what is answered

-- What is learned: it follows by resolution, holds, has no closed literal, just one at its highest level, which isn't 0, and no atom
-- twice; no earlier nogood is a subset of it, and the level to go back to is its second highest.
pub record IsLearned (ngs : List Nogood) (stack : List Entry) (ls : List Lit) (back_to : ℕ) : Type 0 where
  pub analysed : IsAnalysed ngs stack ls
  pub second : IsSecondLevel stack ls back_to
  pub once : HasNoAtomTwice ls
  pub new : IsNew ngs ls

-- the atom is closed without a reason, and its literal stands in the struck nogood or in a resolvent of it
pub record IsNeeded (ngs : List Nogood) (stack : List Entry) (struck : List Lit) (a : ℕ) : Type 0 where
  pub without : IsWithoutReason stack a
  pub resolvent : List Lit
  pub arises : Arises ngs stack struck resolvent
  pub among : lit a false ∈ resolvent

-- neither do all literals stand at level 0 nor is the nogood unit below its highest level
abbrev pub HasToResolve : List Entry → List Lit → Type 0
HasToResolve stack ls = (¬ (all_at_0 stack ls ≡ true)) × (¬ IsUnitBelow stack ls)

-- the answer for the nogood with this id: Root and AlreadyUnit come exactly where they may, and the other two exactly where neither of
-- these does
abbrev pub IsAnalysis : List Nogood → List Entry → ℕ → Analysis → Type 0
IsAnalysis ngs stack struck Root = all_at_0 stack (lits_at ngs struck) ≡ true
IsAnalysis ngs stack struck (NeedsReason a) = HasToResolve stack (lits_at ngs struck) × IsNeeded ngs stack (lits_at ngs struck) a
IsAnalysis ngs stack struck (AlreadyUnit n back_to) =
    (n ≡ struck) × IsUnitBelow stack (lits_at ngs struck) × IsSecondLevel stack (lits_at ngs struck) back_to
IsAnalysis ngs stack struck (New ls back_to) = HasToResolve stack (lits_at ngs struck) × IsLearned ngs stack ls back_to
