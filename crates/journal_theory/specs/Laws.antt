-- The laws of the search, over all rules and all legal journals.
use Rattle.std.specs.Prelude.{◌≡◌, ℕ, ◌+◌, ◌<◌, ◌⊎◌, Bool, true, false, List, [], ◌∷◌, ◌++◌, Some, slice_get, length}
use Rattle.lists.specs.Lists.{◌∈◌, ◌⊆◌, SameSet, HasNoRepeats}
use Rattle.alpha_outside.specs.declared.pattern.Pattern.{Pattern}
use Rattle.alpha_outside.specs.declared.event.Event as outside
use Rattle.alpha_outside.specs.declared.event.Event.TheVariants as say
use Rattle.search_values.specs.declared.entry.Why.TheVariants.{Closed}
use Rattle.search_values.specs.declared.entry.Entry.{Entry}
use Rattle.search_values.specs.Values.{Value, True, MustBe, is_up, Lit, lit, value_of, opened, level_of, back_to, first_level, chosen, HasClosed, IsClosed, MustSinceClosed, IsWithoutReason}
use Rattle.search_values.specs.Nogoods.{Nogood, IsStruck}
use Rattle.search_values.specs.Instances.{Plain, Rules, IsExtension, IsAnswerUnder}
use Rattle.search_values.specs.Tables.{Made, nogoods_of}
use Rattle.journal_theory.specs.Resolution.{IsOneHighest, EachRests}
use Rattle.search_values.specs.Ids.{BodyOf}
use Rattle.journal_theory.specs.States.{Phase, Free, MustLearn, MustDecide, Found, MustStrike, MustJump, Over, State, IsName, truth, Agrees, WasFound, AreUserAtoms, IsOpen, IsSound, IsSettled, IsFull, AreTrueUserAtoms, IsSetOf}
use Rattle.journal_theory.specs.Covers.{Covers, IsCover, MayJustify}
use Rattle.journal_theory.specs.Events.{Event, NameTerm, Justify, CallWide, Close, Strike, Learn, Back, How, Analysed, Decisions, Enumerated, Show, Pass, MayLearn, happens, IsNew, IsUnitAt, Allowed}
use Rattle.journal_theory.specs.Journals.{replay, Legal, IsLegal, IsFinished}

-- ---- values

-- a core answer set that is still to come and agrees with the literals chosen agrees with every value
abbrev pub ValuesFollow : (N A K : Type 0) → Type 0
ValuesFollow N A K =
    (core : Rules N A K) (listed : List (List A)) (journal : List (Event A K)) → Legal core listed journal
    → (c : A → Bool) → IsOpen core (replay core journal) c → Agrees (replay core journal) c (chosen (State.stack (replay core journal)))
    → (x : ℕ) (v : Value) → value_of (State.stack (replay core journal)) x ≡ Some v → truth (replay core journal) c x ≡ is_up v

-- each entry's level is the number of levels that are open with it
abbrev pub LevelsAre : List Entry → Type 0
LevelsAre [] = Unit {0}
LevelsAre (e ∷ rest) = (e.level ≡ level_of (e ∷ rest)) × LevelsAre rest

-- the levels of a legal journal's entries are told rightly
abbrev pub LevelsAreTold : (N A K : Type 0) → Type 0
LevelsAreTold N A K =
    (core : Rules N A K) (listed : List (List A)) (journal : List (Event A K)) → Legal core listed journal → LevelsAre (State.stack (replay core journal))

-- each entry of a legal journal's stack rests on what it should: a given value on a nogood that gave it, and a closed one on its reason
abbrev pub EachEntryRests : (N A K : Type 0) → Type 0
EachEntryRests N A K =
    (core : Rules N A K) (listed : List (List A)) (journal : List (Event A K)) → Legal core listed journal
    → EachRests (State.nogoods (replay core journal)) (State.stack (replay core journal))

-- a nogood that is justified for a closed atom without a reason, which it names first, is the reason of its entry from then on
abbrev pub JustifiedIsReason : (N A K : Type 0) → Type 0
JustifiedIsReason N A K =
    (core : Rules N A K) (s : State N A K) (patterns : List Pattern) (x : ℕ) (reasons : List Lit) → IsWithoutReason s.stack x
    → (e : Entry) × (e ∈ State.stack (happens core s (Justify patterns (lit x true ∷ reasons)))) × (e.atom ≡ x) × (e.why ≡ Closed (Some (length s.nogoods)))

-- the true atoms are all that a set still to come can have that agrees with the literals chosen
abbrev pub TrueAtomsAreAll : {N A K : Type 0} → Rules N A K → State N A K → Type 0
TrueAtomsAreAll {N} {A} core s =
    (c : A → Bool) → IsOpen core s c → Agrees s c (chosen s.stack) → (a : A) → c a ≡ true → (x : ℕ) × IsName s x a × (value_of s.stack x ≡ Some True)

-- so it is in a settled state
abbrev pub SettledIsAll : (N A K : Type 0) → Type 0
SettledIsAll N A K =
    (core : Rules N A K) (listed : List (List A)) (journal : List (Event A K)) → Legal core listed journal
    → IsSettled core (replay core journal) → TrueAtomsAreAll core (replay core journal)

-- and so it is above a closed entry
abbrev pub ClosedIsAll : (N A K : Type 0) → Type 0
ClosedIsAll N A K =
    (core : Rules N A K) (listed : List (List A)) (journal : List (Event A K)) → Legal core listed journal
    → HasClosed (State.stack (replay core journal)) → TrueAtomsAreAll core (replay core journal)

-- a named atom that is must-be-true above a closed entry became so after it
abbrev pub MustBeIsSinceClosed : (N A K : Type 0) → Type 0
MustBeIsSinceClosed N A K =
    (core : Rules N A K) (listed : List (List A)) (journal : List (Event A K)) → Legal core listed journal
    → (x : ℕ) (a : A) → IsName (replay core journal) x a → value_of (State.stack (replay core journal)) x ≡ Some MustBe
    → HasClosed (State.stack (replay core journal)) → MustSinceClosed (State.stack (replay core journal)) x

-- ---- nogoods

-- each nogood of a legal journal is sound
abbrev pub NogoodsAreSound : (N A K : Type 0) → Type 0
NogoodsAreSound N A K =
    (core : Rules N A K) (listed : List (List A)) (journal : List (Event A K)) → Legal core listed journal
    → (ng : Nogood) → ng ∈ State.nogoods (replay core journal) → IsSound core (replay core journal) ng.lits

-- the id is that of a named atom, or of the body of an instance that was made
abbrev pub HasMeaning : {N A K : Type 0} → State N A K → ℕ → Type 0
HasMeaning {N} {A} {K} s x =
    ((a : A) × IsName s x a) ⊎ ((j : ℕ) × (k : Made K) × (slice_get s.names x ≡ Some (BodyOf j)) × (slice_get s.made j ≡ Some k))

-- a nogood that is sound after a journal is sound after every legal journal that goes on from it
abbrev pub SoundStays : (N A K : Type 0) → Type 0
SoundStays N A K =
    (core : Rules N A K) (listed : List (List A)) (journal later : List (Event A K)) → Legal core listed (later ++ journal)
    → (ls : List Lit) → ((l : Lit) → l ∈ ls → HasMeaning (replay core journal) l.atom)
    → IsSound core (replay core journal) ls → IsSound core (replay core (later ++ journal)) ls

-- a nogood is sound where it may be learned: what analysis gives, since it follows from sound ones, and the literals chosen
abbrev pub LearnedIsSound : (N A K : Type 0) → Type 0
LearnedIsSound N A K =
    (core : Rules N A K) (listed : List (List A)) (journal : List (Event A K)) → Legal core listed journal
    → (how : How) (ls : List Lit) → MayLearn core (replay core journal) how ls → IsSound core (replay core journal) ls

-- a nogood that may be justified is sound
abbrev pub JustifiedIsSound : (N A K : Type 0) → Type 0
JustifiedIsSound N A K =
    (core : Rules N A K) (listed : List (List A)) (journal : List (Event A K)) → Legal core listed journal
    → (patterns : List Pattern) (ls : List Lit) → MayJustify core (replay core journal) patterns ls → IsSound core (replay core journal) ls

-- ---- sets

-- a state in which a set may be shown or passed has a core answer set under the numbers given, whose user atoms are that set
abbrev pub FullIsAnswerSet : (N A K : Type 0) → Type 0
FullIsAnswerSet N A K =
    (core : Rules N A K) (listed : List (List A)) (journal : List (Event A K)) → Legal core listed journal
    → (ids : List ℕ) → IsFull core (replay core journal) → AreTrueUserAtoms core (replay core journal) ids
    → (c : A → Bool) × IsAnswerUnder core (State.numbers (replay core journal)) c × AreUserAtoms core (replay core journal) c ids

-- so each set that was shown or passed is a core answer set
abbrev pub FoundAreAnswerSets : (N A K : Type 0) → Type 0
FoundAreAnswerSets N A K =
    (core : Rules N A K) (listed : List (List A)) (journal : List (Event A K)) → Legal core listed journal
    → (ids : List ℕ) → WasFound (replay core journal) ids
    → (n : N) × (c : A → Bool) × IsAnswerUnder core n c × AreUserAtoms core (replay core journal) c ids

-- where a search is finished, every core answer set, under whatever numbering extends the numbers given for it, was shown or passed
abbrev pub NoneIsMissed : (N A K : Type 0) → Type 0
NoneIsMissed N A K =
    (core : Rules N A K) (listed : List (List A)) (journal : List (Event A K)) → Legal core listed journal
    → IsFinished (replay core journal)
    → (n : N) (c : A → Bool) → IsExtension core (State.numbers (replay core journal)) n c → IsAnswerUnder core n c
    → (ids : List ℕ) × WasFound (replay core journal) ids × AreUserAtoms core (replay core journal) c ids

-- no set of the list is the same as a later one
abbrev pub NoneTwice : List (List ℕ) → Type 0
NoneTwice [] = Unit {0}
NoneTwice (ids ∷ earlier) = ((other : List ℕ) → other ∈ earlier → ¬ SameSet ids other) × NoneTwice earlier

-- no set is shown twice
abbrev pub ShownOnce : (N A K : Type 0) → Type 0
ShownOnce N A K =
    (core : Rules N A K) (listed : List (List A)) (journal : List (Event A K)) → Legal core listed journal → NoneTwice (State.shown (replay core journal))

-- a set that was shown is none that the file lists
abbrev pub ShownIsNotListed : (N A K : Type 0) → Type 0
ShownIsNotListed N A K =
    (core : Rules N A K) (listed : List (List A)) (journal : List (Event A K)) → Legal core listed journal
    → (ids : List ℕ) → ids ∈ State.shown (replay core journal) → (atoms : List A) → atoms ∈ listed → ¬ IsSetOf (replay core journal) ids atoms

-- ---- what the definitions refuse

-- no nogood completes a head: in those of a plain instance no literal says that its head is true, unless the head is an atom of its body
abbrev pub HeadsStayOpen : (K : Type 0) → Type 0
HeadsStayOpen K =
    (k : Made K) (h : ℕ) → k.inst.kind ≡ Plain h → ¬ (h ∈ k.inst.pos) → ¬ (h ∈ k.inst.neg) → ¬ (k.body ≡ Some h)
    → (ng : Nogood) → ng ∈ nogoods_of k → ¬ (lit h true ∈ ng.lits)

-- a closed atom isn't proved false: it stands above level 0, and is no literal chosen
abbrev pub ClosedIsNoProof : (N A K : Type 0) → Type 0
ClosedIsNoProof N A K =
    (core : Rules N A K) (listed : List (List A)) (journal : List (Event A K)) (x : ℕ) → Legal core listed (Close x ∷ journal)
    → (first_level (State.stack (replay core (Close x ∷ journal))) x ≡ level_of (State.stack (replay core journal)) + 1)
    × (chosen (State.stack (replay core (Close x ∷ journal))) ≡ chosen (State.stack (replay core journal)))

-- a cover has no fact: no atom that it covers is the head of a plain core instance without a body
abbrev pub FactsAreNotCovered : (N A K : Type 0) → Type 0
FactsAreNotCovered N A K =
    (core : Rules N A K) (listed : List (List A)) (journal : List (Event A K)) → Legal core listed journal
    → (m : K) (a : A) → core.instance_of (State.numbers (replay core journal)) m ≡ Some (record { kind = Plain a; pos = []; neg = [] })
    → (patterns : List Pattern) (lits : List Lit) → IsCover core (replay core journal) patterns lits → ¬ Covers core (replay core journal) patterns a

-- and no rule is left out of a cover: where a plain core instance without negative atoms has a head that is covered, one of its positive atoms is covered,
-- or a literal says that it is false. So beside `p(f(X)) :- q(X).` and `{q(0)}.` what covers p(f(0)) covers q(0)
abbrev pub NoRuleIsLeftOut : (N A K : Type 0) → Type 0
NoRuleIsLeftOut N A K =
    (core : Rules N A K) (listed : List (List A)) (journal : List (Event A K)) → Legal core listed journal
    → (m : K) (a : A) (pos : List A) → core.instance_of (State.numbers (replay core journal)) m ≡ Some (record { kind = Plain a; pos = pos; neg = [] })
    → (patterns : List Pattern) (lits : List Lit) → IsCover core (replay core journal) patterns lits → Covers core (replay core journal) patterns a
    → ¬ ((p : A) → p ∈ pos → (¬ Covers core (replay core journal) patterns p) × ((x : ℕ) → IsName (replay core journal) x p → ¬ (lit x false ∈ lits)))

-- no atom that is must-be-true is shown or passed: each atom of the set is true, and no atom is must-be-true
abbrev pub MustBeIsNotShown : (N A K : Type 0) → Type 0
MustBeIsNotShown N A K =
    (core : Rules N A K) (listed : List (List A)) (journal : List (Event A K)) (ids : List ℕ)
    → Legal core listed (Show ids ∷ journal) ⊎ Legal core listed (Pass ids ∷ journal)
    → ((x : ℕ) → x ∈ ids → value_of (State.stack (replay core journal)) x ≡ Some True)
    × ((x : ℕ) → ¬ (value_of (State.stack (replay core journal)) x ≡ Some MustBe))

-- Back takes exactly the entries above a level away: where an entry opened a level, going back below it leaves the stack that was there
abbrev pub BackRestores : Type 0
BackRestores =
    (above : List Entry) (opener : Entry) (below : List Entry) → opened opener.why ≡ 1 → back_to (level_of below) (above ++ opener ∷ below) ≡ below

-- so an atom that was must-be-true below a level that is taken away is so again, whatever it became above
abbrev pub MustBeAgain : Type 0
MustBeAgain =
    (above : List Entry) (opener : Entry) (below : List Entry) (x : ℕ) → opened opener.why ≡ 1 → value_of below x ≡ Some MustBe
    → value_of (back_to (level_of below) (above ++ opener ∷ below)) x ≡ Some MustBe

-- analysis learns no literal of a closed atom
abbrev pub ClosedIsNotLearned : (N A K : Type 0) → Type 0
ClosedIsNotLearned N A K =
    (core : Rules N A K) (listed : List (List A)) (s : State N A K) (ls : List Lit) (l : Lit) → l ∈ ls → IsClosed s.stack l.atom → ¬ Allowed core listed s (Learn Analysed ls)

-- and nothing that the nogoods so far don't imply, as where the literal of a closed atom is dropped that no reason was found for: where values make
-- all literals of no nogood true, but all of these, they aren't learned
abbrev pub UnimpliedIsNotLearned : (N A K : Type 0) → Type 0
UnimpliedIsNotLearned N A K =
    (core : Rules N A K) (listed : List (List A)) (s : State N A K) (ls : List Lit) (values : ℕ → Bool)
    → ((ng : Nogood) → ng ∈ s.nogoods → ¬ ((l : Lit) → l ∈ ng.lits → values l.atom ≡ l.positive))
    → ((l : Lit) → l ∈ ls → values l.atom ≡ l.positive) → ¬ Allowed core listed s (Learn Analysed ls)

-- where a legal journal calls an atom wide, it was so: its count is 256, and the test says that it is in the state before
abbrev pub WideIsAsked : (N A K : Type 0) → Type 0
WideIsAsked N A K =
    (core : Rules N A K) (is_wide : State N A K → ℕ → Bool) (listed : List (List A)) (events : List outside.Event) (x count : ℕ)
    → IsLegal core (λ s y. is_wide s y ≡ true) listed events → say.Wide x count ∈ events
    → (count ≡ 256) × ((earlier : List (Event A K)) × Legal core listed earlier × (is_wide (replay core earlier) x ≡ true))

-- the journal without the terms that came last
abbrev pub before_terms : {A K : Type 0} → List (Event A K) → List (Event A K)
before_terms [] = []
before_terms (NameTerm node ∷ earlier) = before_terms earlier
before_terms (e ∷ earlier) = e ∷ earlier

-- the literals chosen are learned only directly after an atom was called wide, but for terms
abbrev pub DecisionsFollowWide : (N A K : Type 0) → Type 0
DecisionsFollowWide N A K =
    (core : Rules N A K) (listed : List (List A)) (journal : List (Event A K)) (ls : List Lit) → Legal core listed (Learn Decisions ls ∷ journal)
    → (x : ℕ) × (earlier : List (Event A K)) × (before_terms journal ≡ CallWide x ∷ earlier)

-- ---- how a journal goes on

-- no nogood is empty
abbrev pub NoneEmpty : List Nogood → Type 0
NoneEmpty ngs = (ng : Nogood) → ng ∈ ngs → ¬ (ng.lits ≡ [])

-- where no nogood is empty, the literals chosen are a superset of no earlier nogood where they may be learned
abbrev pub LearnedIsNew : (N A K : Type 0) → Type 0
LearnedIsNew N A K =
    (core : Rules N A K) (listed : List (List A)) (journal : List (Event A K)) → Legal core listed journal → NoneEmpty (State.nogoods (replay core journal))
    → (how : How) (ls : List Lit) → ¬ (how ≡ Analysed) → MayLearn core (replay core journal) how ls → IsNew (State.nogoods (replay core journal)) ls

-- a nogood that may be justified, for a stuck atom or a closed one, is a superset of no earlier nogood
abbrev pub JustifiedIsNew : (N A K : Type 0) → Type 0
JustifiedIsNew N A K =
    (core : Rules N A K) (listed : List (List A)) (journal : List (Event A K)) → Legal core listed journal
    → (patterns : List Pattern) (ls : List Lit) → MayJustify core (replay core journal) patterns ls
    → IsNew (State.nogoods (replay core journal)) ls

-- no nogood is kept twice
abbrev pub KeptOnce : (N A K : Type 0) → Type 0
KeptOnce N A K =
    (core : Rules N A K) (listed : List (List A)) (journal : List (Event A K)) → Legal core listed journal → HasNoRepeats (State.kept (replay core journal))

-- a nogood whose literals all hold, with just one of them at their highest level, which isn't 0, is unit after some Back
abbrev pub OneHighestJumps : (N A K : Type 0) → Type 0
OneHighestJumps N A K =
    (core : Rules N A K) (listed : List (List A)) (journal : List (Event A K)) → Legal core listed journal
    → (n : ℕ) (ng : Nogood) → slice_get (State.nogoods (replay core journal)) n ≡ Some ng → IsStruck (State.stack (replay core journal)) ng
    → IsOneHighest (State.stack (replay core journal)) ng.lits
    → (level : ℕ) × (level < level_of (State.stack (replay core journal))) × IsUnitAt (back_to level (State.stack (replay core journal))) (State.nogoods (replay core journal)) n

-- a nogood of literals chosen alone, but for the empty one, has no closed literal and just one at its highest level, so it can be kept when it is struck
abbrev pub ChosenHaveOneHighest : (N A K : Type 0) → Type 0
ChosenHaveOneHighest N A K =
    (core : Rules N A K) (listed : List (List A)) (journal : List (Event A K)) → Legal core listed journal
    → (ls : List Lit) → ls ⊆ chosen (State.stack (replay core journal)) → ¬ (ls ≡ [])
    → IsOneHighest (State.stack (replay core journal)) ls × ((l : Lit) → l ∈ ls → ¬ IsClosed (State.stack (replay core journal)) l.atom)

-- where just one literal of a nogood that was noted as struck stands at its highest level, that one isn't closed
abbrev pub HighestIsNotClosed : (N A K : Type 0) → Type 0
HighestIsNotClosed N A K =
    (core : Rules N A K) (listed : List (List A)) (journal : List (Event A K)) → Legal core listed journal
    → (n : ℕ) (ng : Nogood) → State.phase (replay core journal) ≡ MustLearn n → slice_get (State.nogoods (replay core journal)) n ≡ Some ng
    → IsStruck (State.stack (replay core journal)) ng → (high : IsOneHighest (State.stack (replay core journal)) ng.lits)
    → ¬ IsClosed (State.stack (replay core journal)) high.left.atom

-- levels are taken away as far as the nogood stays unit: at no lower level it is
abbrev pub IsFar : {N A K : Type 0} → State N A K → ℕ → Type 0
IsFar s level = (n : ℕ) → s.phase ≡ MustJump n → (lower : ℕ) → lower < level → ¬ IsUnitAt (back_to lower s.stack) s.nogoods n

-- each Back of the journal goes as far
abbrev pub EachBackIsFar : {N A K : Type 0} → Rules N A K → List (Event A K) → Type 0
EachBackIsFar core [] = Unit {0}
EachBackIsFar core (Back level ∷ earlier) = IsFar (replay core earlier) level × EachBackIsFar core earlier
EachBackIsFar core (_ ∷ earlier) = EachBackIsFar core earlier

-- where each Back goes as far as it can, a struck nogood that can be kept, since just one of its literals stands at the highest level, wasn't kept before
abbrev pub KeptIsNew : (N A K : Type 0) → Type 0
KeptIsNew N A K =
    (core : Rules N A K) (listed : List (List A)) (journal : List (Event A K)) → Legal core listed journal → EachBackIsFar core journal
    → (n : ℕ) (ng : Nogood) → State.phase (replay core journal) ≡ MustLearn n → slice_get (State.nogoods (replay core journal)) n ≡ Some ng
    → IsStruck (State.stack (replay core journal)) ng → IsOneHighest (State.stack (replay core journal)) ng.lits
    → ¬ (n ∈ State.kept (replay core journal))

-- what may come in this phase, where something in particular has to
abbrev pub GoesOn : {N A K : Type 0} → Rules N A K → List (List A) → State N A K → Phase → Type 0
GoesOn core listed s Free = Unit {0}
GoesOn core listed s (MustLearn n) = Unit {0}
GoesOn core listed s MustDecide = Allowed core listed s (Learn Decisions (chosen s.stack))
GoesOn core listed s Found = (chosen s.stack ≡ []) ⊎ Allowed core listed s (Learn Enumerated (chosen s.stack))
GoesOn core listed s (MustStrike n) = Allowed core listed s (Strike n)
GoesOn core listed s (MustJump n) = (level : ℕ) × Allowed core listed s (Back level)
GoesOn core listed s Over = Unit {0}

-- where no nogood is empty, what has to come next may come: the literals chosen can be learned where an atom was called wide or a set was found, the
-- nogood just learned is struck where it is to be noted so, and there is a level at which what was learned or kept is unit. What may come after a
-- struck nogood is for analysis to find
abbrev pub WhatMustComeMay : (N A K : Type 0) → Type 0
WhatMustComeMay N A K =
    (core : Rules N A K) (listed : List (List A)) (journal : List (Event A K)) → Legal core listed journal → NoneEmpty (State.nogoods (replay core journal))
    → GoesOn core listed (replay core journal) (State.phase (replay core journal))

-- the set is a core answer set under a numbering that extends the one so far for it
pub record IsAnswerNow {N A K : Type 0} (core : Rules N A K) (s : State N A K) (c : A → Bool) : Type 0 where
  pub numbering : N
  pub extending : IsExtension core s.numbers numbering c
  pub answers : IsAnswerUnder core numbering c

-- user atoms determine a core answer set: of two with the same user atoms, one under a numbering and one under a numbering that extends it for
-- that set, no atom is in one alone
abbrev pub IsDetermined : {N A K : Type 0} → Rules N A K → Type 0
IsDetermined {N} {A} core =
    (n n' : N) (c c' : A → Bool) → IsAnswerUnder core n c → IsExtension core n n' c' → IsAnswerUnder core n' c'
    → ((a : A) → core.is_user a ≡ true → c a ≡ c' a) → (a : A) → c a ≡ c' a

-- where user atoms determine core answer sets, a set that may be shown or passed was neither shown nor passed before
abbrev pub FoundIsNew : (N A K : Type 0) → Type 0
FoundIsNew N A K =
    (core : Rules N A K) (listed : List (List A)) (journal : List (Event A K)) → Legal core listed journal → IsDetermined core
    → State.phase (replay core journal) ≡ Free
    → (ids : List ℕ) → IsFull core (replay core journal) → AreTrueUserAtoms core (replay core journal) ids
    → (earlier : List ℕ) → WasFound (replay core journal) earlier → ¬ SameSet ids earlier
