-- What the definitions of answer sets come to. Each law is a type, and a function of `src/lib.rt` ensures it.
--
-- P and Q are programs, as lists of statements. I and J are sets of atoms, as lists. s is a substitution, which has a value for each
-- variable; p is an atom as a statement has it, with terms, and `Becomes s p a` says that it becomes the atom a, with values, under s.
-- Where a and b are lists of bytes, they are names. `pos n` is the integer n, and `negsuc n` is -(n + 1).
use Rattle.std.specs.Prelude.{◌≡◌, ◌⊎◌, ◌↔◌, ℕ, ℤ, pos, negsuc, true, false, not, length, List, [], ◌∷◌, ◌++◌, map, Option, Some, None, codes}
use Rattle.std.specs.declared.cmp.Ordering.TheVariants.{Less, Equal}
use Rattle.std.specs.Ordering.{nat_cmp, int_cmp, ordering_then}
use Rattle.alpha_outside.specs.declared.kinds.ArithOp.{ArithOp}
use Rattle.alpha_outside.specs.declared.kinds.ArithOp.TheVariants.{Div}
use Rattle.lists.specs.Lists.{◌∈◌, ◌⊆◌, HasNoRepeats, Each, AtLeastOne, SameSet}
use Rattle.asp_syntax.specs.declared.tree.Atom as syntax
use Rattle.asp_syntax.specs.declared.tree.AggKind.{AggKind}
use Rattle.asp_syntax.specs.declared.tree.AggKind.TheVariants as kind
use Rattle.asp_syntax.specs.declared.tree.Aggregate.{Aggregate}
use Rattle.asp_syntax.specs.declared.tree.Guard.{Guard}
use Rattle.asp_syntax.specs.declared.tree.CompareOp.TheVariants as op
use Rattle.asp_syntax.specs.declared.tree.Item.TheVariants as item
use Rattle.asp_syntax.specs.declared.tree.Literal.TheVariants as literal
use Rattle.asp_syntax.specs.declared.tree.Head.TheVariants as head
use Rattle.asp_syntax.specs.declared.tree.Term.{Term}
use Rattle.asp_syntax.specs.declared.tree.Term.TheVariants as term
use Rattle.asp_syntax.specs.declared.tree.Statement.{Statement}
use Rattle.asp_meaning.specs.declared.value.Value.{Value}
use Rattle.asp_meaning.specs.declared.value.Value.TheVariants as value
use Rattle.asp_meaning.specs.Orders.{bytes_cmp, value_cmp, values_cmp, passes}
use Rattle.asp_meaning.specs.Lines.{joined, integer_text, value_text, atom_cmp, IsSetLine}
use Rattle.asp_meaning.specs.Terms.{Variable, Substitution, eval}
use Rattle.asp_meaning.specs.Variables.{global_terms, global_variables}
use Rattle.asp_meaning.specs.Atoms.{Atom, Becomes, strong_negation}
use Rattle.asp_meaning.specs.Bodies.{LiteralHolds, Extends, IsExtent, total, LeftHolds, RightHolds, ItemHolds}
use Rattle.asp_meaning.specs.Output.{whole_lines, set_lines}
use Rattle.asp_meaning.specs.Programs.{IsInstance, BodyHolds, LicensesFrom, Licenses, AreChosen, HeadIsMet, IsAnswerSet}
use Rattle.asp_laws.specs.Words.{HasAtomIn, IsUnfounded, IsPositive, IsNormal}
use Rattle.asp_laws.specs.Reduct.{IsStable, IsClosedUnderReduct}
use Rattle.asp_laws.specs.Examples.{atom, fact, rule, rule_without, must_be, may_be, may_be_where, one_of, denied, weights, sum_over, weight_alone, weight_and_name, value_of, tuple_of, two_elements, number, start, step, vs}

-- ---- order

-- programs of the same statements, in whatever order and however often, have the same answer sets
abbrev pub OrderOfStatementsDoesNotMatter : Type 0
OrderOfStatementsDoesNotMatter = (P Q : List Statement) (I : List Atom) → SameSet P Q → IsAnswerSet P I ↔ IsAnswerSet Q I

-- an answer set stays one in whatever order its atoms are listed, each once
abbrev pub OrderOfAtomsDoesNotMatter : Type 0
OrderOfAtomsDoesNotMatter =
    (P : List Statement) (I J : List Atom) → HasNoRepeats J → SameSet I J → IsAnswerSet P I → IsAnswerSet P J

-- ---- foundation

-- the answer sets are the stable sets: those that have just what follows from the reduct of the program in them, break no constraint
-- and no bound of a choice, and have no atom beside its strong negation
abbrev pub AnswerSetsAreThoseOfTheReduct : Type 0
AnswerSetsAreThoseOfTheReduct = (P : List Statement) (I : List Atom) → IsAnswerSet P I ↔ IsStable P I

-- an answer set lies in each set J that is closed under the reduct of the program in it
abbrev pub AnAnswerSetIsLeastUnderItsReduct : Type 0
AnAnswerSetIsLeastUnderItsReduct =
    (P : List Statement) (I J : List Atom) → IsAnswerSet P I → IsClosedUnderReduct P I J → I ⊆ J

-- and it is closed under that reduct itself; so it is the least set that is
abbrev pub AnAnswerSetIsClosedUnderItsReduct : Type 0
AnAnswerSetIsClosedUnderItsReduct = (P : List Statement) (I : List Atom) → IsAnswerSet P I → IsClosedUnderReduct P I I

-- each atom of an answer set is licensed in it: some instance of a statement has a body that holds, and a head that gives the atom
abbrev pub EachAtomIsLicensed : Type 0
EachAtomIsLicensed =
    (P : List Statement) (I : List Atom) → IsAnswerSet P I → (a : Atom) → a ∈ I
    → AtLeastOne (λ r. (s : Substitution) × Licenses r s a I) P

-- no answer set has an atom of a set U that is unfounded in it: whatever licenses an atom of U rests on an atom of U
abbrev pub UnfoundedSetsAreOut : Type 0
UnfoundedSetsAreOut = (P : List Statement) (I U : List Atom) → IsUnfounded P I U → IsAnswerSet P I → (a : Atom) → a ∈ U → ¬ (a ∈ I)

-- where each instance that licenses an atom of U has an atom of U among its positive body literals, no answer set has an atom of U
abbrev pub SelfSupportIsNoFoundation : Type 0
SelfSupportIsNoFoundation =
    (P : List Statement) (I U : List Atom)
    → ((r : Statement) → r ∈ P → (s : Substitution) (a : Atom) → a ∈ U → Licenses r s a I → AtLeastOne (HasAtomIn s U) r.body)
    → IsAnswerSet P I → (a : Atom) → a ∈ U → ¬ (a ∈ I)

-- `a :- b. b :- a.` has the empty set alone
abbrev pub ALoopHasTheEmptySet : Type 0
ALoopHasTheEmptySet = (a b : List ℕ) (I : List Atom) → IsAnswerSet (rule a b ∷ rule b a ∷ []) I ↔ (I ≡ [])

-- `:- not a.` has no answer set: that a must be true gives no a
abbrev pub MustBeTrueAloneIsNoSupport : Type 0
MustBeTrueAloneIsNoSupport = (a : List ℕ) (I : List Atom) → ¬ IsAnswerSet (must_be a ∷ []) I

-- `a :- b. b :- a. :- not a.` has none either: that a must be true is no foundation of the loop
abbrev pub MustBeTrueInALoopIsNoSupport : Type 0
MustBeTrueInALoopIsNoSupport = (a b : List ℕ) (I : List Atom) → ¬ IsAnswerSet (rule a b ∷ rule b a ∷ must_be a ∷ []) I

-- ---- small programs

-- the empty program has the empty set alone
abbrev pub TheEmptyProgramHasTheEmptySet : Type 0
TheEmptyProgramHasTheEmptySet = (I : List Atom) → IsAnswerSet [] I ↔ (I ≡ [])

-- `{a}.` has the empty set and {a}, and no other answer set
abbrev pub AChoiceGivesBoth : Type 0
AChoiceGivesBoth = (a : List ℕ) (I : List Atom) → IsAnswerSet (may_be a ∷ []) I ↔ ((I ≡ []) ⊎ (I ≡ atom a ∷ []))

-- `{a; b} = 1.` has {a} and {b}, and no other; a and b may be one atom, which then counts once
abbrev pub AChoiceOfOneGivesEach : Type 0
AChoiceOfOneGivesEach = (a b : List ℕ) (I : List Atom) → IsAnswerSet (one_of a b ∷ []) I ↔ ((I ≡ atom a ∷ []) ⊎ (I ≡ atom b ∷ []))

-- `{a : b}. {b : a}.` has the empty set alone: what a choice rests on must be there before it
abbrev pub ChoicesThatRestOnOneAnother : Type 0
ChoicesThatRestOnOneAnother = (a b : List ℕ) (I : List Atom) → IsAnswerSet (may_be_where a b ∷ may_be_where b a ∷ []) I ↔ (I ≡ [])

-- `a :- not b. b :- not a.` has {a} and {b}, and no other
abbrev pub TwoRulesWithoutEachOther : Type 0
TwoRulesWithoutEachOther =
    (a b : List ℕ) (I : List Atom) → ¬ (a ≡ b)
    → IsAnswerSet (rule_without a b ∷ rule_without b a ∷ []) I ↔ ((I ≡ atom a ∷ []) ⊎ (I ≡ atom b ∷ []))

-- `a :- not a.` has no answer set
abbrev pub NoAtomFollowsFromItsAbsence : Type 0
NoAtomFollowsFromItsAbsence = (a : List ℕ) (I : List Atom) → ¬ IsAnswerSet (rule_without a a ∷ []) I

-- `n(0). n(X+1) :- n(X), X < 3.` has {n(0), n(1), n(2), n(3)}, in any order, and no other
abbrev pub CountingStops : Type 0
CountingStops =
    (I : List Atom) → HasNoRepeats I
    → IsAnswerSet (start ∷ step ∷ []) I ↔ SameSet I (number (pos 3) ∷ number (pos 2) ∷ number (pos 1) ∷ number (pos 0) ∷ [])

-- ---- variables

-- substitutions s and t that agree on the global variables of a statement make the same instance of it: what is true of it under s, that
-- it has values, that its body holds, that its head is met and that it licenses an atom, is true under t
abbrev pub OnlyGlobalVariablesMatter : Type 0
OnlyGlobalVariablesMatter =
    (r : Statement) (s t : Substitution) (I : List Atom) → Extends (global_variables r) s t
    → (IsInstance r s → IsInstance r t) × (BodyHolds r s I → BodyHolds r t I) × (HeadIsMet r s I r.head → HeadIsMet r t I r.head)
    × ((a : Atom) (earlier : List Atom) → LicensesFrom r s a I earlier → LicensesFrom r t a I earlier)

-- ---- negation

-- an atom and its `not` are never true together
abbrev pub ALiteralNeverBesideItsDenial : Type 0
ALiteralNeverBesideItsDenial =
    (s : Substitution) (I : List Atom) (p : syntax.Atom) → LiteralHolds s I (literal.Positive p) → ¬ LiteralHolds s I (literal.Negative p)

-- and one of them is true, where the atom's terms have values
abbrev pub ALiteralOrItsDenialHolds : Type 0
ALiteralOrItsDenialHolds =
    (s : Substitution) (I : List Atom) (p : syntax.Atom) (a : Atom) → Becomes s p a
    → LiteralHolds s I (literal.Positive p) ⊎ LiteralHolds s I (literal.Negative p)

-- no answer set has an atom beside its strong negation, as a and -a
abbrev pub NeverBesideStrongNegation : Type 0
NeverBesideStrongNegation = (P : List Statement) (I : List Atom) → IsAnswerSet P I → (a : Atom) → a ∈ I → ¬ (strong_negation a ∈ I)

-- `-a. a :- not b.` has no answer set
abbrev pub StrongNegationContradicts : Type 0
StrongNegationContradicts = (a b : List ℕ) (I : List Atom) → ¬ IsAnswerSet (denied a ∷ rule_without a b ∷ []) I

-- in a program without choices and aggregates no answer set lies in another one
abbrev pub NoAnswerSetLiesInAnother : Type 0
NoAnswerSetLiesInAnother =
    (P : List Statement) (I J : List Atom) → Each IsNormal P → IsAnswerSet P I → IsAnswerSet P J → I ⊆ J → SameSet I J

-- a program without choice, `not` and aggregates has at most one answer set
abbrev pub APositiveProgramHasAtMostOne : Type 0
APositiveProgramHasAtMostOne =
    (P : List Statement) (I J : List Atom) → Each IsPositive P → IsAnswerSet P I → IsAnswerSet P J → SameSet I J

-- ---- aggregates and bounds

-- the extent of an aggregate in I, which is the list of the tuples that its elements give, is one set
abbrev pub AnExtentIsOneSet : Type 0
AnExtentIsOneSet =
    (globals : List Variable) (s : Substitution) (I : List Atom) (g : Aggregate) (xs ys : List (List Value))
    → IsExtent globals s I g xs → IsExtent globals s I g ys → SameSet xs ys

-- and so the aggregate has one total, whether it counts or sums
abbrev pub AnAggregateHasOneTotal : Type 0
AnAggregateHasOneTotal =
    (globals : List Variable) (s : Substitution) (I : List Atom) (g : Aggregate) (xs ys : List (List Value))
    → IsExtent globals s I g xs → IsExtent globals s I g ys → (k : AggKind) → total k xs ≡ total k ys

-- an aggregate under `not` is true where not all its guards are: with two guards, where they aren't both
abbrev pub TwoGuardsUnderNot : Type 0
TwoGuardsUnderNot =
    (globals : List Variable) (s : Substitution) (I : List Atom) (g : Aggregate) (tuples : List (List Value)) → IsExtent globals s I g tuples
    → ItemHolds globals s I (item.Aggregate true g) ↔ (¬ (LeftHolds s (total g.kind tuples) g.left × RightHolds s (total g.kind tuples) g.right))

-- local variables of two elements are two variables, also where they have the same name: `#count{1 : p(X); 2 : q(X)}` has both tuples
-- where there is some p(x) and some q(y)
abbrev pub EqualLocalNamesAreTwoVariables : Type 0
EqualLocalNamesAreTwoVariables =
    (s : Substitution) (I : List Atom) (p q : List ℕ) (x y : Value) (tuples : List (List Value)) → IsExtent [] s I (two_elements p q None None) tuples
    → value_of p x ∈ I → value_of q y ∈ I → (tuple_of 1 ∈ tuples) × (tuple_of 2 ∈ tuples)

-- an aggregate and its `not` are never true together; the `Bool` of `item.Aggregate` says whether `not` stands before it
abbrev pub NeverBesideItsDenial : Type 0
NeverBesideItsDenial =
    (globals : List Variable) (s : Substitution) (I : List Atom) (g : Aggregate)
    → ItemHolds globals s I (item.Aggregate false g) → ¬ ItemHolds globals s I (item.Aggregate true g)

-- and one of them is true, where the aggregate has an extent; an extent is a list, so there is none of infinitely many tuples
abbrev pub AnAggregateOrItsDenialHolds : Type 0
AnAggregateOrItsDenialHolds =
    (globals : List Variable) (s : Substitution) (I : List Atom) (g : Aggregate) (tuples : List (List Value)) → IsExtent globals s I g tuples
    → ItemHolds globals s I (item.Aggregate false g) ⊎ ItemHolds globals s I (item.Aggregate true g)

-- in the set of w(3,a), w(3,b) and w(-2,c) the aggregate #sum{W : w(W,I)} has the tuples 3 and -2, and the total 1
abbrev pub EqualTuplesCountOnce : Type 0
EqualTuplesCountOnce =
    (s : Substitution) (left right : Option Guard)
    → let tuples = (value.Int (pos 3) ∷ []) ∷ (value.Int (negsuc 1) ∷ []) ∷ [] in
    IsExtent [] s weights (sum_over weight_alone left right) tuples × (total kind.Sum tuples ≡ pos 1)

-- and there #sum{W,I : w(W,I)} has the tuples 3,a and 3,b and -2,c, and the total 4
abbrev pub OtherTuplesCountEach : Type 0
OtherTuplesCountEach =
    (s : Substitution) (left right : Option Guard)
    → let tuples =
    (value.Int (pos 3) ∷ value.Symbol (codes "a") ∷ []) ∷ (value.Int (pos 3) ∷ value.Symbol (codes "b") ∷ [])
    ∷ (value.Int (negsuc 1) ∷ value.Symbol (codes "c") ∷ []) ∷ [] in
    IsExtent [] s weights (sum_over weight_and_name left right) tuples × (total kind.Sum tuples ≡ pos 4)

-- the number of atoms of I that an instance licenses, of which the bounds of a choice speak, is one number
abbrev pub AChoiceHasOneNumber : Type 0
AChoiceHasOneNumber =
    (r : Statement) (s : Substitution) (I xs ys : List Atom) → AreChosen r s I xs → AreChosen r s I ys → length xs ≡ length ys

-- the answer sets with `{a}.` are those with `a.` in its place, and those of the program without the choice that do not have a
abbrev pub AChoiceIsAFactOrNothing : Type 0
AChoiceIsAFactOrNothing =
    (P : List Statement) (a : List ℕ) (I : List Atom)
    → IsAnswerSet (may_be a ∷ P) I ↔ (IsAnswerSet (fact a ∷ P) I ⊎ ((¬ (atom a ∈ I)) × IsAnswerSet P I))

-- ---- constraints and facts

-- a constraint, which is a statement without a head, takes away the answer sets in which the body of an instance holds, and does nothing else
abbrev pub AConstraintOnlyTakesAway : Type 0
AConstraintOnlyTakesAway =
    (P : List Statement) (r : Statement) (I : List Atom) → r.head ≡ head.Absent
    → IsAnswerSet (r ∷ P) I ↔ (IsAnswerSet P I × ((s : Substitution) → IsInstance r s → ¬ BodyHolds r s I))

-- what a statement with one atom as its head, and without a body, gives is in each answer set
abbrev pub AFactIsInEachAnswerSet : Type 0
AFactIsInEachAnswerSet =
    (P : List Statement) (I : List Atom) (r : Statement) (p : syntax.Atom) (s : Substitution) (a : Atom)
    → r ∈ P → r.head ≡ head.Single p → r.body ≡ [] → Becomes s p a → IsAnswerSet P I → a ∈ I

-- ---- arithmetic

-- where a term outside aggregate and choice elements has no value, there is no instance, and nothing is licensed
abbrev pub ArithmeticWithoutAValueGivesNoInstance : Type 0
ArithmeticWithoutAValueGivesNoInstance =
    (r : Statement) (s : Substitution) (t : Term) → t ∈ global_terms r → eval s t ≡ None
    → (¬ IsInstance r s) × ((a : Atom) (I earlier : List Atom) → ¬ LicensesFrom r s a I earlier)

-- a statement without instances may be left out
abbrev pub AStatementWithoutInstancesSaysNothing : Type 0
AStatementWithoutInstancesSaysNothing =
    (P : List Statement) (r : Statement) (I : List Atom) → ((s : Substitution) → ¬ IsInstance r s)
    → IsAnswerSet (r ∷ P) I ↔ IsAnswerSet P I

-- a division by 0 has no value
abbrev pub NoDivisionByZero : Type 0
NoDivisionByZero = (s : Substitution) (t : Term) → eval s (term.Arith Div t (term.Int (pos 0))) ≡ None

-- arithmetic on a symbol has no value, on either side
abbrev pub NoArithmeticOnSymbols : Type 0
NoArithmeticOnSymbols =
    (s : Substitution) (op : ArithOp) (a : List ℕ) (t : Term)
    → (eval s (term.Arith op (term.Symbol a) t) ≡ None) × (eval s (term.Arith op t (term.Symbol a)) ≡ None)

-- division cuts towards zero: -7/2 is -3
abbrev pub DivisionCutsTowardsZero : Type 0
DivisionCutsTowardsZero =
    (s : Substitution) → eval s (term.Arith Div (term.Int (negsuc 6)) (term.Int (pos 2))) ≡ Some (value.Int (negsuc 2))

-- ---- the order of values and of atoms

-- `=` is true of two values just where they are the same
abbrev pub EqualIsTheSame : Type 0
EqualIsTheSame = (x y : Value) → (passes op.Equal (value_cmp x y) ≡ true) ↔ (x ≡ y)

-- `!=`, `<=` and `>=` are true just where `=`, `>` and `<` are not
abbrev pub ComparisonsAreOpposites : Type 0
ComparisonsAreOpposites =
    (x y : Value) → (passes op.NotEqual (value_cmp x y) ≡ not (passes op.Equal (value_cmp x y)))
    × (passes op.LessEqual (value_cmp x y) ≡ not (passes op.Greater (value_cmp x y)))
    × (passes op.GreaterEqual (value_cmp x y) ≡ not (passes op.Less (value_cmp x y)))

-- integers are below symbols, symbols below strings, and strings below functional terms
abbrev pub KindsAreInOrder : Type 0
KindsAreInOrder =
    (n : ℤ) (x y f : List ℕ) (first : Value) (rest : List Value)
    → (value_cmp (value.Int n) (value.Symbol x) ≡ Less) × (value_cmp (value.Symbol x) (value.Text y) ≡ Less)
    × (value_cmp (value.Text y) (value.Fun f first rest) ≡ Less)

-- integers are ordered by value, symbols and strings by bytes, functional terms by number of arguments, then name, then arguments from the left
abbrev pub EachKindIsOrdered : Type 0
EachKindIsOrdered =
    ((m n : ℤ) → value_cmp (value.Int m) (value.Int n) ≡ int_cmp m n)
    × ((x y : List ℕ) → value_cmp (value.Symbol x) (value.Symbol y) ≡ bytes_cmp x y)
    × ((x y : List ℕ) → value_cmp (value.Text x) (value.Text y) ≡ bytes_cmp x y)
    × ((f g : List ℕ) (x y : Value) (xs ys : List Value) → value_cmp (value.Fun f x xs) (value.Fun g y ys)
    ≡ ordering_then (nat_cmp (length (x ∷ xs)) (length (y ∷ ys))) (ordering_then (bytes_cmp f g) (values_cmp (x ∷ xs) (y ∷ ys))))

-- two atoms of which neither is below the other are the same
abbrev pub AtomsThatStandLevelAreTheSame : Type 0
AtomsThatStandLevelAreTheSame = (a b : Atom) → atom_cmp a b ≡ Equal → a ≡ b

-- ---- lines

-- each set has a line: its atoms in order, each once, between braces, and a line feed
abbrev pub ASetHasALine : Type 0
ASetHasALine = (I : List Atom) → (line : List ℕ) × IsSetLine I line

-- and no other
abbrev pub ASetHasOneLine : Type 0
ASetHasOneLine = (I : List Atom) (x y : List ℕ) → IsSetLine I x → IsSetLine I y → x ≡ y

-- an integer is written in decimals, a symbol as it is, a string in quotes, a functional term with its arguments in parentheses
abbrev pub EachKindIsWritten : Type 0
EachKindIsWritten =
    ((n : ℤ) → value_text (value.Int n) ≡ integer_text n)
    × ((x : List ℕ) → value_text (value.Symbol x) ≡ x)
    × ((x : List ℕ) → value_text (value.Text x) ≡ codes "\"" ++ (x ++ codes "\""))
    × ((f : List ℕ) (x : Value) (xs : List Value)
    → value_text (value.Fun f x xs) ≡ f ++ (codes "(" ++ (joined (codes ",") (map value_text (x ∷ xs)) ++ codes ")")))

-- two integers with the same text are the same, however many digits it has
abbrev pub IntegersOfAnySizeHaveTheirOwnText : Type 0
IntegersOfAnySizeHaveTheirOwnText = (x y : ℤ) → integer_text x ≡ integer_text y → x ≡ y

-- the line of the eight atoms of `vs`: the one without arguments comes first, and then integers, symbols, strings and functional terms,
-- of one argument and of two; 10 is the line feed
abbrev pub ALineIsWritten : Type 0
ALineIsWritten = IsSetLine vs (codes "{v, v(-1), -v(2), v(a), v(g), v(\"b\"), v(f(1)), v(f(0,0))}" ++ (10 ∷ []))

-- ---- output

-- a text without a line feed, with the line feed after it, is the first whole line
abbrev pub ALineEndsAtItsLineFeed : Type 0
ALineEndsAtItsLineFeed =
    (text rest : List ℕ) → ¬ (10 ∈ text) → whole_lines (text ++ (10 ∷ rest)) ≡ (text ++ (10 ∷ [])) ∷ whole_lines rest

-- and without a line feed after it there is no whole line
abbrev pub NoLineWithoutALineFeed : Type 0
NoLineWithoutALineFeed = (text : List ℕ) → ¬ (10 ∈ text) → whole_lines text ≡ []

-- the line of a set is the first set line of what begins with it, where it has no line feed before its end. A name has
-- none, nor has what stands between the quotes of a string (`IsName` and `IsText` of asp_syntax).
abbrev pub ASetLineIsReadBack : Type 0
ASetLineIsReadBack =
    (I : List Atom) (text rest : List ℕ) → IsSetLine I (text ++ (10 ∷ [])) → ¬ (10 ∈ text)
    → set_lines (text ++ (10 ∷ rest)) ≡ (text ++ (10 ∷ [])) ∷ set_lines rest
