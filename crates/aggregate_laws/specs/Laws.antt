-- Laws of sets under numberings.
use Rattle.std.specs.Prelude.{◌≡◌, ◌↔◌, ◌≤◌, ◌++◌, ℕ, Bool, true, List, length, Option, Some, slice_get}
use Rattle.lists.specs.Lists.{◌∈◌, HasNoRepeats}
use Rattle.core_rules.specs.declared.rules.CoreAggregate.{CoreAggregate}
use Rattle.core_rules.specs.declared.rules.Core.{Core}
use Rattle.core_rules.specs.CoreForm.{IsCoreForm}
use Rattle.search_values.specs.Instances.{Instance, IsOrdered}
use Rattle.asp_meaning.specs.declared.value.Value.{Value}
use Rattle.asp_meaning.specs.declared.value.Value.TheVariants as value
use Rattle.asp_meaning.specs.Atoms.{Atom}
use Rattle.asp_meaning.specs.Bodies.{total}
use Rattle.core_meaning.specs.Atoms.{GroundAtom, User, Domain, Member, Total, Grid}
use Rattle.core_meaning.specs.Numberings.{Numbering, IsNumbering, ExtendsFor}
use Rattle.core_meaning.specs.AnswerSets.{core_instance, IsCoreAnswerSet}
use Rattle.aggregate_laws.specs.Rules.{MakerOf, instance_of, AreRules, NumbersOnce, IsAnswerSetOf, Covers, rules_of}
use Rattle.aggregate_laws.specs.Totals.{total_in}
use Rattle.aggregate_laws.specs.Uses.{uses_of, core_uses}
use Rattle.aggregate_laws.specs.TotalsInBodies.{total_of_tuples, GroundProgram, IsAnswerSetWithTotals, core_rules, HasDomains, IsListed, NotRecursive, AreOrdered}

-- ---- sets of a core

-- the rules of a core have heads and bodies as core form says
abbrev pub CoreFormGivesRules : Type 0
CoreFormGivesRules = (core : Core) → IsCoreForm core → AreRules (rules_of core)

-- a core answer set is one of the core's rules beside the steps
abbrev pub CoreSetsAreOfTheRules : Type 0
CoreSetsAreOfTheRules = (core : Core) (n : Numbering) (c : GroundAtom → Bool) → IsCoreAnswerSet core n c → IsAnswerSetOf core.aggregates (rules_of core) n c

-- a set of the core's rules beside the steps, under a numbering that extends one of the core for it, is a core answer set
abbrev pub SetsOfTheRulesAreCoreSets : Type 0
SetsOfTheRulesAreCoreSets =
    (core : Core) → IsCoreForm core → (n n' : Numbering) (c : GroundAtom → Bool) → IsNumbering core n → ExtendsFor c n n'
    → IsAnswerSetOf core.aggregates (rules_of core) n' c → IsCoreAnswerSet core n' c

-- rules that have the same instances, as far as their bodies hold in the set, make the same sets
abbrev pub SameInstancesMakeTheSameSets : Type 0 → Type 0 → Type 0
SameInstancesMakeTheSameSets R S =
    (aggs : List CoreAggregate) (rules : R → Option (Instance GroundAtom)) (others : S → Option (Instance GroundAtom)) (n : Numbering) (c : GroundAtom → Bool)
    → Covers c rules others → Covers c others rules → IsAnswerSetOf aggs rules n c → IsAnswerSetOf aggs others n c

-- ---- totals

-- the total atoms of each aggregate in the set are those of the keys to which it applies, with the total of the members in the set
abbrev pub HasExactTotals : List CoreAggregate → Numbering → (GroundAtom → Bool) → Type 0
HasExactTotals aggs n c =
    (agg : ℕ) (key : List Value) (x : Value)
    → (c (Total agg key x) ≡ true → (c (Domain agg key) ≡ true) × (x ≡ total_in aggs n c agg key))
    × (c (Domain agg key) ≡ true → c (Total agg key (total_in aggs n c agg key)) ≡ true)

-- the totals are exact, whatever the rules and the numbering
abbrev pub TotalsAreExact : Type 0 → Type 0
TotalsAreExact R =
    (aggs : List CoreAggregate) (rules : R → Option (Instance GroundAtom)) → AreRules rules
    → (n : Numbering) (c : GroundAtom → Bool) → IsAnswerSetOf aggs rules n c → HasExactTotals aggs n c

-- the totals of a core answer set are exact
abbrev pub CoreTotalsAreExact : Type 0
CoreTotalsAreExact = (core : Core) → IsCoreForm core → (n : Numbering) (c : GroundAtom → Bool) → IsCoreAnswerSet core n c → HasExactTotals core.aggregates n c

-- the tuples, each once, are those of the aggregate's members under this key in the set
abbrev pub AreMembers : (GroundAtom → Bool) → ℕ → List Value → List (List Value) → Type 0
AreMembers c agg key tuples = HasNoRepeats tuples × ((tuple : List Value) → (tuple ∈ tuples) ↔ (c (Member agg key tuple) ≡ true))

-- the total of the members in the set is how many they are or the sum of their weights, whatever numbers they have
abbrev pub TotalsAreOfMembers : Type 0 → Type 0
TotalsAreOfMembers R =
    (aggs : List CoreAggregate) (rules : R → Option (Instance GroundAtom)) (n : Numbering) (c : GroundAtom → Bool) → IsAnswerSetOf aggs rules n c
    → (agg : ℕ) (g : CoreAggregate) → slice_get aggs agg ≡ Some g → (key : List Value) (tuples : List (List Value)) → AreMembers c agg key tuples
    → total_in aggs n c agg key ≡ value.Int (total g.kind tuples)

-- ---- later numbers

-- the second keeps all numbers of the first
abbrev pub Extends : Numbering → Numbering → Type 0
Extends n later = (agg : ℕ) (side : Bool) (key : List Value) → (more : List (List Value)) × (later agg side key ≡ n agg side key ++ more)

-- the first numbers nothing that the second doesn't
abbrev pub NumbersNoMore : Numbering → Numbering → Type 0
NumbersNoMore m n = (agg : ℕ) (side : Bool) (key tuple : List Value) → tuple ∈ m agg side key → tuple ∈ n agg side key

-- the number in the atom, where there is one, was given or is 0
abbrev pub IsKnown : Numbering → GroundAtom → Type 0
IsKnown n (Grid agg side key k sum) = k ≤ length (n agg side key)
IsKnown n _ = Unit {0}

-- What a set under a later numbering says of the atoms that were known before is said by a set under a numbering that leaves out the members
-- which got their numbers since and aren't in the set
abbrev pub LaterNumbersChangeNothing : Type 0 → Type 0
LaterNumbersChangeNothing R =
    (aggs : List CoreAggregate) (rules : R → Option (Instance GroundAtom)) → AreRules rules
    → (n later n' : Numbering) (c : GroundAtom → Bool) → Extends n later → ExtendsFor c later n' → IsAnswerSetOf aggs rules n' c
    → (m : Numbering) × (d : GroundAtom → Bool) × ExtendsFor d n m × NumbersNoMore m n' × IsAnswerSetOf aggs rules m d × ((a : GroundAtom) → IsKnown n a → d a ≡ c a)

-- the same of the core answer sets of a core
abbrev pub LaterCoreNumbersChangeNothing : Type 0
LaterCoreNumbersChangeNothing =
    (core : Core) → IsCoreForm core
    → (n later n' : Numbering) (c : GroundAtom → Bool) → Extends n later → ExtendsFor c later n' → IsCoreAnswerSet core n' c
    → (m : Numbering) × (d : GroundAtom → Bool) × ExtendsFor d n m × NumbersNoMore m n' × IsCoreAnswerSet core m d × ((a : GroundAtom) → IsKnown n a → d a ≡ c a)

-- giving numbers takes no instance away
abbrev pub InstancesStay : Type 0 → Type 0
InstancesStay R =
    (aggs : List CoreAggregate) (rules : R → Option (Instance GroundAtom)) (n later : Numbering) → Extends n later
    → (m : MakerOf R) (i : Instance GroundAtom) → instance_of aggs rules n m ≡ Some i → instance_of aggs rules later m ≡ Some i

-- an instance under a numbering that was extended for a set was there before, where those members of the set whose numbers it uses had
-- theirs already
abbrev pub InstancesWereMadeBefore : Type 0 → Type 0
InstancesWereMadeBefore R =
    (aggs : List CoreAggregate) (rules : R → Option (Instance GroundAtom)) (n n' : Numbering) (c : GroundAtom → Bool) → NumbersOnce aggs n' → ExtendsFor c n n'
    → (m : MakerOf R) (i : Instance GroundAtom) → instance_of aggs rules n' m ≡ Some i
    → ((agg : ℕ) (side : Bool) (key tuple : List Value) → Member agg key tuple ∈ uses_of n' m → c (Member agg key tuple) ≡ true → tuple ∈ n' agg side key → tuple ∈ n agg side key)
    → instance_of aggs rules n m ≡ Some i

-- ---- members and sums

-- an order of the set in which the members whose numbers an instance uses stand before the atom that it gives
abbrev pub HasMembersFirst : {K : Type 0} → (K → Option (Instance GroundAtom)) → (K → List GroundAtom) → (GroundAtom → Bool) → Type 0
HasMembersFirst core uses c = (order : List GroundAtom) × ((a : GroundAtom) → c a ≡ true → a ∈ order) × IsOrdered core uses c order

-- members of the set can stand before their sums
abbrev pub MembersCanStandFirst : Type 0 → Type 0
MembersCanStandFirst R =
    (aggs : List CoreAggregate) (rules : R → Option (Instance GroundAtom)) → AreRules rules
    → (n : Numbering) (c : GroundAtom → Bool) → IsAnswerSetOf aggs rules n c → HasMembersFirst (instance_of aggs rules n) (uses_of n) c

-- the same in core answer sets of a core
abbrev pub CoreMembersCanStandFirst : Type 0
CoreMembersCanStandFirst =
    (core : Core) → IsCoreForm core → (n : Numbering) (c : GroundAtom → Bool) → IsCoreAnswerSet core n c
    → HasMembersFirst (core_instance core n) (core_uses n) c

-- ---- totals in bodies

-- the total of tuples is how many they are or the sum of their weights
abbrev pub TotalsOfTuplesAreTotals : Type 0
TotalsOfTuplesAreTotals =
    (aggs : List CoreAggregate) (agg : ℕ) (g : CoreAggregate) → slice_get aggs agg ≡ Some g → (tuples : List (List Value))
    → total_of_tuples aggs agg tuples ≡ value.Int (total g.kind tuples)

-- for every numbering there is one that extends it for a set that has just these atoms of the program, under which that is a set of the core
-- rules beside the steps
abbrev pub AnswerSetsBecomeCoreSets : Type 0 → Type 0 → Type 0 → Type 0
AnswerSetsBecomeCoreSets R D E =
    (aggs : List CoreAggregate) (P : GroundProgram R D E) → HasDomains P → (stratum : Atom → ℕ) → NotRecursive P stratum
    → (I : Atom → Bool) → IsAnswerSetWithTotals aggs P I → IsListed aggs P I → (n : Numbering) → NumbersOnce aggs n
    → (n' : Numbering) × (c : GroundAtom → Bool) × ExtendsFor c n n' × IsAnswerSetOf aggs (core_rules P) n' c × ((u : Atom) → c (User u) ≡ I u)

-- the atoms of the program in a set of the core rules beside the steps are an answer set with totals
abbrev pub CoreSetsBecomeAnswerSets : Type 0 → Type 0 → Type 0 → Type 0
CoreSetsBecomeAnswerSets R D E =
    (aggs : List CoreAggregate) (P : GroundProgram R D E) → HasDomains P
    → (n : Numbering) (c : GroundAtom → Bool) → IsAnswerSetOf aggs (core_rules P) n c → IsAnswerSetWithTotals aggs P (λ u. c (User u))

-- under one numbering the atoms of the program determine the set
abbrev pub UserAtomsDetermineSets : Type 0 → Type 0 → Type 0 → Type 0
UserAtomsDetermineSets R D E =
    (aggs : List CoreAggregate) (P : GroundProgram R D E) → AreOrdered P
    → (n : Numbering) (c d : GroundAtom → Bool) → IsAnswerSetOf aggs (core_rules P) n c → IsAnswerSetOf aggs (core_rules P) n d
    → ((u : Atom) → c (User u) ≡ d (User u)) → (a : GroundAtom) → c a ≡ d a
