-- Covers: patterns of atoms that no core instance derives where some literals are true, and the nogood that says so of an atom of the first.
use Rattle.std.specs.Prelude.{◌≡◌, ℕ, Bool, true, false, List, ◌∷◌, Some, None, slice_get}
use Rattle.lists.specs.Lists.{◌∈◌, AtLeastOne}
use Rattle.alpha_outside.specs.declared.pattern.Pattern.{Pattern}
use Rattle.search_values.specs.Values.{Lit, lit, value_of, Holds, before_closed, HasClosed, IsWithoutReason}
use Rattle.search_values.specs.Nogoods.{Nogood, NoneStruck, NoneUnit}
use Rattle.search_values.specs.Instances.{Instance, IsHead, Rules, IsExtension}
use Rattle.search_values.specs.Tables.{Made}
use Rattle.journal_theory.specs.Resolution.{Arises}
use Rattle.journal_theory.specs.States.{Free, MustLearn, State, IsName, IsStuck, NoneStuck}

-- the pattern covers the atom: its predicate and arguments fit it, and it isn't one of those that the pattern excepts
abbrev pub PatternCovers : {N A K : Type 0} → Rules N A K → State N A K → Pattern → A → Type 0
PatternCovers core s p a = (core.fits s.terms p a ≡ true) × ((x : ℕ) → x ∈ p.except → ¬ IsName s x a)

-- one of the patterns covers the atom
abbrev pub Covers : {N A K : Type 0} → Rules N A K → State N A K → List Pattern → A → Type 0
Covers core s patterns a = AtLeastOne (λ p. PatternCovers core s p a) patterns

-- why the instance that this maker makes under the numbering derives none of the atoms that are covered, where the literals are true
pub data IsBlocked {N A K : Type 0} (core : Rules N A K) (s : State N A K) (patterns : List Pattern) (lits : List Lit) (n : N) (m : K) (i : Instance A) : Type 0 where
  -- one of its positive atoms is covered
  needs_one : (p : A) → p ∈ i.pos → Covers core s patterns p → IsBlocked core s patterns lits n m i
  -- a literal says that one of its positive atoms is false
  lacks : (p : A) (x : ℕ) → p ∈ i.pos → IsName s x p → lit x false ∈ lits → IsBlocked core s patterns lits n m i
  -- a literal says that one of its negative atoms is true
  is_denied : (d : A) (x : ℕ) → d ∈ i.neg → IsName s x d → lit x true ∈ lits → IsBlocked core s patterns lits n m i
  -- a literal says that its body atom is false
  has_false_body : (k : Made K) (b : ℕ) → k ∈ s.made → core.same_maker k.maker m ≡ true → k.body ≡ Some b → lit b false ∈ lits → IsBlocked core s patterns lits n m i
  -- it uses the number of a member that has none yet, and so is in each set whose members get numbers: it counts as a positive atom, and is
  -- covered
  uses_one : (u : A) → u ∈ core.uses n m → core.is_numbered s.numbers u ≡ false → Covers core s patterns u → IsBlocked core s patterns lits n m i
  -- or a literal says that such a member is false
  uses_lacking : (u : A) (x : ℕ) → u ∈ core.uses n m → core.is_numbered s.numbers u ≡ false → IsName s x u → lit x false ∈ lits → IsBlocked core s patterns lits n m i

-- the literals, with which the patterns are a cover: under every numbering that extends the one so far, each core instance whose head is
-- covered is blocked. It speaks of all core instances, made or not
abbrev pub IsCover : {N A K : Type 0} → Rules N A K → State N A K → List Pattern → List Lit → Type 0
IsCover {N} {A} {K} core s patterns lits =
    (n : N) (c : A → Bool) → IsExtension core s.numbers n c
    → (m : K) (i : Instance A) → core.instance_of n m ≡ Some i → (a : A) → Covers core s patterns a → IsHead i.kind a → IsBlocked core s patterns lits n m i

-- the atom has no value where nothing is unit or struck, no named atom is stuck and no closed entry is on the stack. So it may be ruled out by what
-- no instance derives, before more is chosen, and long before it would be closed
pub record CanBeRuledOut {N A K : Type 0} (core : Rules N A K) (s : State N A K) (x : ℕ) : Type 0 where
  pub no_value : value_of s.stack x ≡ None
  pub none_struck : NoneStruck s.stack s.nogoods
  pub none_unit : NoneUnit s.stack s.nogoods
  pub none_stuck : NoneStuck core s
  pub none_closed : ¬ HasClosed s.stack

-- a nogood that says why the atom can't be in the set is wanted, or, but for an atom without a value, the word that the atom is wide
pub data IsWanted {N A K : Type 0} (core : Rules N A K) (s : State N A K) (x : ℕ) : Type 0 where
  -- for an atom that is stuck
  for_stuck : s.phase ≡ Free → IsStuck core s x → IsWanted core s x
  -- for a closed atom without a reason, whose literal stands in the struck nogood or in a resolvent of it
  for_closed : (n : ℕ) (struck : Nogood) (ls : List Lit) → s.phase ≡ MustLearn n → slice_get s.nogoods n ≡ Some struck → IsWithoutReason s.stack x
      → Arises s.nogoods s.stack struck.lits ls → lit x false ∈ ls → IsWanted core s x
  -- for an atom without a value that can be ruled out
  for_unassigned : s.phase ≡ Free → CanBeRuledOut core s x → IsWanted core s x

-- The nogood of these literals may be learned as justified by a cover of these patterns. It says that an atom that the first pattern covers isn't
-- in a set where the other literals are true; each of those had its value before the first closed entry. It is wanted for this atom
pub record MayJustify {N A K : Type 0} (core : Rules N A K) (s : State N A K) (patterns : List Pattern) (lits : List Lit) : Type 0 where
  pub id : ℕ
  pub wanted : IsWanted core s id
  pub atom : A
  pub named : IsName s id atom
  pub first : Pattern
  pub others : List Pattern
  pub patterns_are : patterns ≡ first ∷ others
  pub covered : PatternCovers core s first atom
  pub reasons : List Lit
  pub lits_are : lits ≡ lit id true ∷ reasons
  pub before : (l : Lit) → l ∈ reasons → Holds (before_closed s.stack) l
  pub covers : IsCover core s patterns reasons
