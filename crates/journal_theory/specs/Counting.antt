-- Counting conflicts: each struck nogood but the last is followed by a nogood that is new, or by one that is kept and wasn't before.
use Rattle.std.specs.Prelude.{ℕ, zero, suc, ◌+◌, ◌*◌, ◌^◌, ◌≤◌, List, [], ◌∷◌, length}
use Rattle.search_values.specs.Values.{Lit}
use Rattle.search_values.specs.Instances.{Rules}
use Rattle.search_values.specs.Ids.{AtomNode, Named, BodyOf}
use Rattle.search_values.specs.Tables.{nogoods_of}
use Rattle.journal_theory.specs.States.{Phase, MustLearn, MustDecide, Over, State}
use Rattle.journal_theory.specs.Events.{Event, Make, Strike, Learn, Justify, How, Analysed, Justified, Decisions, Enumerated}
use Rattle.journal_theory.specs.Journals.{replay, Legal}

-- how many nogoods were noted as struck
abbrev pub strikes : {A K : Type 0} → List (Event A K) → ℕ
strikes [] = 0
strikes (Strike n ∷ earlier) = strikes earlier + 1
strikes (_ ∷ earlier) = strikes earlier

-- whether a nogood of this kind answers a conflict
abbrev pub answering : How → ℕ
answering Analysed = 1
answering Justified = 0
answering Decisions = 1
answering Enumerated = 0

-- how many nogoods were learned that analysis gave, or that are of the literals chosen where an atom was called wide
abbrev pub answers : {A K : Type 0} → List (Event A K) → ℕ
answers [] = 0
answers (Learn how ls ∷ earlier) = answers earlier + answering how
answers (_ ∷ earlier) = answers earlier

-- the nogoods that were learned, of whatever kind, the newest first
abbrev pub learned : {A K : Type 0} → List (Event A K) → List (List Lit)
learned [] = []
learned (Learn how ls ∷ earlier) = ls ∷ learned earlier
learned (Justify patterns ls ∷ earlier) = ls ∷ learned earlier
learned (_ ∷ earlier) = learned earlier

-- how many nogoods the instances made have
abbrev pub of_instances : {A K : Type 0} → List (Event A K) → ℕ
of_instances [] = 0
of_instances (Make k ∷ earlier) = of_instances earlier + length (nogoods_of k)
of_instances (_ ∷ earlier) = of_instances earlier

-- whether what was struck last is still to be answered
abbrev pub unanswered : Phase → ℕ
unanswered (MustLearn n) = 1
unanswered MustDecide = 1
unanswered Over = 1
unanswered _ = 0

-- how many sets of literals there are over so many atoms that have no atom with both signs: each atom is absent, or has one of two signs
abbrev pub sets_over : ℕ → ℕ
sets_over zero = 1
sets_over (suc n) = sets_over n + sets_over n + sets_over n

-- each struck nogood but a last one is followed by an analysed nogood, the literals chosen, or one that is kept
abbrev pub EachStruckIsAnswered : (N A K : Type 0) → Type 0
EachStruckIsAnswered N A K =
    (core : Rules N A K) (listed : List (List A)) (journal : List (Event A K)) → Legal core listed journal
    → strikes journal ≤ answers journal + length (State.kept (replay core journal)) + unanswered (State.phase (replay core journal))

-- so there are only so many over these atoms and instances, for all nogoods that are learned differ, and none is kept twice
abbrev pub StrikesAreBounded : (N A K : Type 0) → Type 0
StrikesAreBounded N A K =
    (core : Rules N A K) (listed : List (List A)) (journal : List (Event A K)) → Legal core listed journal
    → strikes journal ≤ sets_over (length (State.names (replay core journal))) + sets_over (length (State.names (replay core journal))) + of_instances journal
    + unanswered (State.phase (replay core journal))

-- how many of the ids are those of named atoms
abbrev pub named_so_far : {A : Type 0} → List (AtomNode A) → ℕ
named_so_far [] = 0
named_so_far (Named a ∷ names) = named_so_far names + 1
named_so_far (BodyOf k ∷ names) = named_so_far names

-- and how many are those of bodies
abbrev pub bodies_so_far : {A : Type 0} → List (AtomNode A) → ℕ
bodies_so_far [] = 0
bodies_so_far (Named a ∷ names) = bodies_so_far names
bodies_so_far (BodyOf k ∷ names) = bodies_so_far names + 1

-- where at most n atoms are named, there are at most m bodies, and at most k nogoods are of instances, a budget above 2 * 3 ^ (n + m) + k isn't
-- spent: at most so many nogoods are struck, beside one that is still to be answered
abbrev pub StrikesAreFew : (N A K : Type 0) → Type 0
StrikesAreFew N A K =
    (core : Rules N A K) (listed : List (List A)) (journal : List (Event A K)) → Legal core listed journal → (n m k : ℕ)
    → named_so_far (State.names (replay core journal)) ≤ n → bodies_so_far (State.names (replay core journal)) ≤ m → of_instances journal ≤ k
    → strikes journal ≤ 2 * 3 ^ (n + m) + k + unanswered (State.phase (replay core journal))
