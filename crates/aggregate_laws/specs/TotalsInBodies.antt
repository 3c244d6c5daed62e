-- Ground programs whose rules have totals of aggregates in their bodies: a meaning between that of single rules and that of core rules, which
-- knows no sums and no numbers. A set of atoms is a test here.
use Rattle.std.specs.Prelude.{◌≡◌, ◌++◌, ◌+◌, ◌≤◌, ◌<◌, ◌-ℤ◌, ℕ, pos, Bool, true, false, List, [], ◌∷◌, Option, Some, None}
use Rattle.lists.specs.Lists.{◌∈◌, HasNoRepeats}
use Rattle.core_rules.specs.declared.rules.CoreAggregate.{CoreAggregate}
use Rattle.search_values.specs.Instances.{Kind, Plain, Choice, Constraint, Instance, IsHead}
use Rattle.asp_meaning.specs.declared.value.Value.{Value}
use Rattle.asp_meaning.specs.declared.value.Value.TheVariants as value
use Rattle.asp_meaning.specs.Atoms.{Atom}
use Rattle.core_meaning.specs.Atoms.{GroundAtom, User, Domain, Member, Total}
use Rattle.core_meaning.specs.Numberings.{adds}
use Rattle.core_meaning.specs.Steps.{plain}
use Rattle.aggregate_laws.specs.Rules.{IsFoundedSet}

-- the aggregate of this number has this total under these values of its key
pub record NeededTotal : Type 0 where
  pub agg : ℕ
  pub key : List Value
  pub value : Value

-- an instance of a rule, with its totals in the order of its aggregates
pub record RuleInstance : Type 0 where
  pub kind : Kind Atom
  pub pos : List Atom
  pub neg : List Atom
  pub totals : List NeededTotal

-- the aggregate applies to the key where these atoms and totals hold
pub record DomainInstance : Type 0 where
  pub agg : ℕ
  pub key : List Value
  pub pos : List Atom
  pub totals : List NeededTotal

-- an element of the aggregate gives the tuple where its condition holds
pub record ElementInstance : Type 0 where
  pub agg : ℕ
  pub key : List Value
  pub tuple : List Value
  pub pos : List Atom
  pub neg : List Atom

-- the instances of rules, domains and elements, by what makes them
pub record GroundProgram (R D E : Type 0) : Type 0 where
  pub rules : R → Option RuleInstance
  pub domains : D → Option DomainInstance
  pub elements : E → Option ElementInstance

-- ---- what they mean

-- the element's condition holds
pub record Meets (I : Atom → Bool) (e : ElementInstance) : Type 0 where
  pub pos : (u : Atom) → u ∈ e.pos → I u ≡ true
  pub neg : (u : Atom) → u ∈ e.neg → I u ≡ false

-- an element of the aggregate gives the tuple under this key
pub record GivesTuple {R D E : Type 0} (P : GroundProgram R D E) (I : Atom → Bool) (agg : ℕ) (key tuple : List Value) : Type 0 where
  pub maker : E
  pub element : ElementInstance
  pub is : P.elements maker ≡ Some element
  pub of_agg : element.agg ≡ agg
  pub of_key : element.key ≡ key
  pub gives : element.tuple ≡ tuple
  pub meets : Meets I element

-- the tuples that the aggregate's elements give under this key, each once
pub record IsExtentOf {R D E : Type 0} (P : GroundProgram R D E) (I : Atom → Bool) (agg : ℕ) (key : List Value) (tuples : List (List Value)) : Type 0 where
  pub once : HasNoRepeats tuples
  pub sound : (tuple : List Value) → tuple ∈ tuples → GivesTuple P I agg key tuple
  pub complete : (tuple : List Value) → GivesTuple P I agg key tuple → tuple ∈ tuples

-- the sum of the sizes
abbrev pub sum_sizes : {T : Type 0} → (T → ℕ) → List T → ℕ
sum_sizes size [] = 0
sum_sizes size (t ∷ ts) = size t + sum_sizes size ts

-- the total of these tuples: what they add on the positive side less what they add on the other
abbrev pub total_of_tuples : List CoreAggregate → ℕ → List (List Value) → Value
total_of_tuples aggs agg tuples = value.Int (pos (sum_sizes (adds aggs agg true) tuples) -ℤ pos (sum_sizes (adds aggs agg false) tuples))

-- the total is that of the extent
abbrev pub HasTotal : {R D E : Type 0} → List CoreAggregate → GroundProgram R D E → (Atom → Bool) → NeededTotal → Type 0
HasTotal aggs P I n = (tuples : List (List Value)) × IsExtentOf P I n.agg n.key tuples × (n.value ≡ total_of_tuples aggs n.agg tuples)

-- an instance of a rule all of whose totals are right in the set
pub record RuleWithTotals {R D E : Type 0} (aggs : List CoreAggregate) (P : GroundProgram R D E) (I : Atom → Bool) : Type 0 where
  pub maker : R
  pub rule : RuleInstance
  pub is : P.rules maker ≡ Some rule
  pub totals : (n : NeededTotal) → n ∈ rule.totals → HasTotal aggs P I n

-- the rest of the instance
abbrev pub rule_with_totals : {R D E : Type 0} → (aggs : List CoreAggregate) → (P : GroundProgram R D E) → (I : Atom → Bool) → RuleWithTotals aggs P I → Option (Instance Atom)
rule_with_totals aggs P I r = Some (record { kind = r.rule.kind; pos = r.rule.pos; neg = r.rule.neg })

-- a finite set that is closed and founded under the rules whose totals are right in it
abbrev pub IsAnswerSetWithTotals : {R D E : Type 0} → List CoreAggregate → GroundProgram R D E → (Atom → Bool) → Type 0
IsAnswerSetWithTotals aggs P I = IsFoundedSet (rule_with_totals aggs P I) I

-- ---- their core rules

-- what makes a core rule's instance
pub data CoreMaker (R D E : Type 0) : Type 0 where
  FromRule : R → CoreMaker R D E
  FromDomain : D → CoreMaker R D E
  FromElement : E → CoreMaker R D E

-- the atoms of the program as core atoms
abbrev pub user_atoms : List Atom → List GroundAtom
user_atoms [] = []
user_atoms (u ∷ us) = User u ∷ user_atoms us

-- the totals as core atoms
abbrev pub total_atoms : List NeededTotal → List GroundAtom
total_atoms [] = []
total_atoms (n ∷ ns) = Total n.agg n.key n.value ∷ total_atoms ns

-- the kind over core atoms
abbrev pub user_kind : Kind Atom → Kind GroundAtom
user_kind (Plain h) = Plain (User h)
user_kind (Choice h) = Choice (User h)
user_kind Constraint = Constraint

-- the rule with its totals as atoms
abbrev pub core_rule : Option RuleInstance → Option (Instance GroundAtom)
core_rule None = None
core_rule (Some r) = Some (record { kind = user_kind r.kind; pos = user_atoms r.pos ++ total_atoms r.totals; neg = user_atoms r.neg })

-- the aggregate applies to the key where the atoms and totals of its domain hold
abbrev pub core_domain : Option DomainInstance → Option (Instance GroundAtom)
core_domain None = None
core_domain (Some d) = plain (Domain d.agg d.key) (user_atoms d.pos ++ total_atoms d.totals) []

-- a tuple is a member where the aggregate applies and the element gives it
abbrev pub core_element : Option ElementInstance → Option (Instance GroundAtom)
core_element None = None
core_element (Some e) = plain (Member e.agg e.key e.tuple) (Domain e.agg e.key ∷ user_atoms e.pos) (user_atoms e.neg)

-- the core rules of a ground program
abbrev pub core_rules : {R D E : Type 0} → GroundProgram R D E → CoreMaker R D E → Option (Instance GroundAtom)
core_rules P (FromRule r) = core_rule (P.rules r)
core_rules P (FromDomain d) = core_domain (P.domains d)
core_rules P (FromElement e) = core_element (P.elements e)

-- ---- what the correspondence asks of a program

-- a domain instance for a total of a rule instance: it needs no atoms but those of the rule, and totals that stand earlier alone
pub record ComesWith {R D E : Type 0} (P : GroundProgram R D E) (atoms : List Atom) (earlier : List NeededTotal) (n : NeededTotal) : Type 0 where
  pub maker : D
  pub domain : DomainInstance
  pub is : P.domains maker ≡ Some domain
  pub of_agg : domain.agg ≡ n.agg
  pub of_key : domain.key ≡ n.key
  pub pos : (u : Atom) → u ∈ domain.pos → u ∈ atoms
  pub totals : (m : NeededTotal) → m ∈ domain.totals → m ∈ earlier

-- each total has its domain instance, and may need the totals before it
abbrev pub AllCome : {R D E : Type 0} → GroundProgram R D E → List Atom → List NeededTotal → List NeededTotal → Type 0
AllCome P atoms earlier [] = Unit {0}
AllCome P atoms earlier (n ∷ ns) = ComesWith P atoms earlier n × AllCome P atoms (n ∷ earlier) ns

-- each rule instance has a domain instance for each of its totals
abbrev pub HasDomains : {R D E : Type 0} → GroundProgram R D E → Type 0
HasDomains {R} P = (r : R) (i : RuleInstance) → P.rules r ≡ Some i → AllCome P i.pos [] i.totals

-- the aggregate applies to the key in the set
pub data InDomain {R D E : Type 0} (aggs : List CoreAggregate) (P : GroundProgram R D E) (I : Atom → Bool) : ℕ → List Value → Type 0 where
  enters : {agg : ℕ} {key : List Value} (maker : D) (d : DomainInstance) → P.domains maker ≡ Some d → d.agg ≡ agg → d.key ≡ key
      → ((u : Atom) → u ∈ d.pos → I u ≡ true) → ((n : NeededTotal) → n ∈ d.totals → HasTotal aggs P I n) → ((n : NeededTotal) → n ∈ d.totals → InDomain aggs P I n.agg n.key) → InDomain aggs P I agg key

-- the keys to which aggregates apply in the set are finitely many, and each extent is finite
pub record IsListed {R D E : Type 0} (aggs : List CoreAggregate) (P : GroundProgram R D E) (I : Atom → Bool) : Type 0 where
  pub keys : List (ℕ × List Value)
  pub sound : (agg : ℕ) (key : List Value) → (agg, key) ∈ keys → InDomain aggs P I agg key
  pub complete : (agg : ℕ) (key : List Value) → InDomain aggs P I agg key → (agg, key) ∈ keys
  pub extents : ℕ → List Value → List (List Value)
  pub are : (agg : ℕ) (key : List Value) → IsExtentOf P I agg key (extents agg key)

-- no aggregate depends on a head of a rule that needs its total: positive atoms of the aggregate's elements lie in lower strata
pub record NotRecursive {R D E : Type 0} (P : GroundProgram R D E) (stratum : Atom → ℕ) : Type 0 where
  pub body : (r : R) (i : RuleInstance) → P.rules r ≡ Some i → (h : Atom) → IsHead i.kind h → (p : Atom) → p ∈ i.pos → stratum p ≤ stratum h
  pub elements : (r : R) (i : RuleInstance) → P.rules r ≡ Some i → (h : Atom) → IsHead i.kind h → (n : NeededTotal) → n ∈ i.totals
      → (m : E) (e : ElementInstance) → P.elements m ≡ Some e → e.agg ≡ n.agg → (p : Atom) → p ∈ e.pos → stratum p < stratum h

-- a domain needs totals of aggregates with lower numbers alone
abbrev pub AreOrdered : {R D E : Type 0} → GroundProgram R D E → Type 0
AreOrdered {R} {D} P = (m : D) (d : DomainInstance) → P.domains m ≡ Some d → (n : NeededTotal) → n ∈ d.totals → n.agg < d.agg
