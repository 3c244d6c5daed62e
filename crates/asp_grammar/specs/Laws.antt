-- What the grammar, the machine and the faults come to.
use Rattle.std.specs.Prelude.{◌≡◌, ◌⊎◌, ◌↔◌, ℕ, suc, ◌≤◌, pos, ◌-ℤ◌, true, false, List, [], ◌∷◌, ◌++◌, take, Some, None}
use Rattle.alpha_outside.specs.declared.kinds.ArithOp.TheVariants.{Add, Sub, Mul, Div}
use Rattle.lists.specs.Lists.{Each}
use Rattle.asp_syntax.specs.declared.token.Token.{Token}
use Rattle.asp_syntax.specs.declared.token.Token.TheVariants as token
use Rattle.asp_syntax.specs.declared.token.Spanned.{Spanned}
use Rattle.asp_syntax.specs.declared.token.Place.{Place}
use Rattle.asp_syntax.specs.declared.what.What.{What}
use Rattle.asp_syntax.specs.declared.what.What.TheVariants.{Disjunction}
use Rattle.asp_syntax.specs.declared.tree.AggKind.TheVariants as kind
use Rattle.asp_syntax.specs.declared.tree.CompareOp.TheVariants.{Equal, NotEqual, Less, LessEqual, Greater}
use Rattle.asp_syntax.specs.declared.tree.Term.TheVariants as term
use Rattle.asp_syntax.specs.declared.tree.Literal.TheVariants as literal
use Rattle.asp_syntax.specs.declared.tree.Item.TheVariants as item
use Rattle.asp_syntax.specs.declared.tree.Head.TheVariants as head
use Rattle.asp_syntax.specs.declared.tree.Program.{Program}
use Rattle.asp_syntax.specs.WellFormed.{largest}
use Rattle.asp_grammar.specs.declared.state.State.{State}
use Rattle.asp_grammar.specs.declared.state.Progress.{Progress}
use Rattle.asp_grammar.specs.Terminals.{Terminal}
use Rattle.asp_grammar.specs.Grammar.{Clause, IsClause}
use Rattle.asp_grammar.specs.Programs.{program_of, lined_from, terminals, IsProgram, IsViable, Breaks, Stops}
use Rattle.asp_grammar.specs.Machine.{step}
use Rattle.asp_grammar.specs.Reading.{standing, read, IsInside, signs_in}
use Rattle.asp_grammar.specs.Continuations.{Leads}
use Rattle.asp_grammar.specs.Nesting.{nesting, deepest}
use Rattle.asp_grammar.specs.UnaryMinus.{ends_in_unary_minus}
use Rattle.asp_grammar.specs.Faults.{what_of, Cause, unsupported, syntax, too_deep, number_too_large, IsFaulty, FirstFault, FaultAt, Parsed}
use Rattle.asp_grammar.specs.Examples.{a, b, c, f, x, on, on_line, times, in_p, in_body, atom, negated_atom, guard, rule, p_of, constraint, holds, choosing, element}

-- ---- one tree

-- tokens are those of at most one program
abbrev pub TokensHaveOneTree : Type 0
TokensHaveOneTree = (tokens : List Spanned) (p q : Program) → IsProgram tokens p → IsProgram tokens q → p ≡ q

-- and of at most one statement
abbrev pub TokensAreOneStatement : Type 0
TokensAreOneStatement = (ts : List Terminal) (c d : Clause) → IsClause ts c → IsClause ts d → c ≡ d

-- ---- the machine

-- the machine gives a program for tokens exactly where they are those of the program
abbrev pub TheMachineReadsJustThePrograms : Type 0
TheMachineReadsJustThePrograms = (tokens : List Spanned) (p : Program) → (read tokens ≡ Some p) ↔ IsProgram tokens p

-- what leads on from a state by a token leads on from the next state without it
abbrev pub AStepKeepsWhatMayCome : Type 0
AStepKeepsWhatMayCome =
    (state : State) (t : Terminal) (ts : List Terminal) (c : Clause)
    → Leads state (t ∷ ts) c ↔ ((next : State) × (step state t ≡ Some next) × Leads next ts c)

-- from each state some tokens lead to a whole statement, however many `_` were read
abbrev pub EachStateCanBeCompleted : Type 0
EachStateCanBeCompleted = (state : State) (count : ℕ) → (ts : List Spanned) × (c : Clause) × Leads state (terminals (lined_from count ts)) c

-- after tokens that the machine passes, a minus waits for its operand exactly where the last token is a unary minus
abbrev pub TheMachineKnowsUnaryMinuses : Type 0
TheMachineKnowsUnaryMinuses =
    (tokens : List Spanned) (progress : Progress) → standing tokens ≡ Some progress
    → (signs_in progress ≡ 0) ↔ (ends_in_unary_minus false tokens ≡ false)

-- ---- what may go on

-- tokens that the machine passes are the front of some program's
abbrev pub PassedTokensBeginAProgram : Type 0
PassedTokensBeginAProgram = (tokens : List Spanned) (progress : Progress) → standing tokens ≡ Some progress → IsViable tokens

-- tokens that it doesn't pass are the front of no program's
abbrev pub OtherTokensBeginNone : Type 0
OtherTokensBeginNone = (tokens : List Spanned) → standing tokens ≡ None → ¬ IsViable tokens

-- tokens begin some program or none
abbrev pub TokensBeginAProgramOrNone : Type 0
TokensBeginAProgramOrNone = (tokens : List Spanned) → IsViable tokens ⊎ (¬ IsViable tokens)

-- a token that is refused after tokens that are passed is the first that no program has there
abbrev pub ARefusedTokenBreaks : Type 0
ARefusedTokenBreaks =
    (front : List Spanned) (t : Spanned) (progress : Progress) → standing front ≡ Some progress
    → standing (front ++ t ∷ []) ≡ None → Breaks front t

-- a token that no program has there is refused
abbrev pub ATokenThatBreaksIsRefused : Type 0
ATokenThatBreaksIsRefused = (front : List Spanned) (t : Spanned) → Breaks front t → standing (front ++ t ∷ []) ≡ None

-- tokens that end inside a statement begin some program and are none
abbrev pub TheEndInsideAStatementStops : Type 0
TheEndInsideAStatementStops = (tokens : List Spanned) → IsInside (standing tokens) ↔ Stops tokens

-- ---- faults

-- tokens are those of a program, and none is faulty, or they are refused for a cause at a place
abbrev pub AnAnswerComes : Type 0
AnAnswerComes =
    (tokens : List Spanned) (end : Place)
    → ((p : Program) × Parsed tokens p) ⊎ ((cause : Cause) × (place : Place) × FaultAt tokens end cause place)

-- and not both
abbrev pub AProgramHasNoFault : Type 0
AProgramHasNoFault =
    (tokens : List Spanned) (end : Place) (p : Program) (cause : Cause) (place : Place) → Parsed tokens p → ¬ FaultAt tokens end cause place

-- tokens are refused for one cause at one place
abbrev pub OneFault : Type 0
OneFault =
    (tokens : List Spanned) (end : Place) (first second : Cause) (here there : Place) → FaultAt tokens end first here
    → FaultAt tokens end second there → (first ≡ second) × (here ≡ there)

-- what stands before the first fault begins some program
abbrev pub AProgramBeginsBeforeTheFirstFault : Type 0
AProgramBeginsBeforeTheFirstFault =
    (tokens : List Spanned) (index : ℕ) (t : Spanned) (cause : Cause) → FirstFault tokens index t cause → IsViable (take index tokens)

-- a named construct is unsupported, and no fault of another cause
abbrev pub ANamedConstructIsUnsupported : Type 0
ANamedConstructIsUnsupported =
    (tokens : List Spanned) (index : ℕ) (t : Spanned) (cause : Cause) (what : What) → FirstFault tokens index t cause
    → what_of t.token ≡ Some what → cause ≡ unsupported what

-- no token is too deep and too large at once
abbrev pub DeepAndLargeNeverMeet : Type 0
DeepAndLargeNeverMeet = (front : List Spanned) (t : Spanned) → IsFaulty front t too_deep → ¬ IsFaulty front t number_too_large

-- ---- nesting

-- `(` or `)`
abbrev pub IsParenthesis : Token → Type 0
IsParenthesis token.Open = Unit {0}
IsParenthesis token.Close = Unit {0}
IsParenthesis _ = ⊥

-- a token raises the nesting by at most one
abbrev pub NestingRisesByOne : Type 0
NestingRisesByOne = (front : List Spanned) (t : Spanned) → nesting (front ++ t ∷ []) ≤ suc (nesting front)

-- each open `(` counts
abbrev pub EachParenthesisCounts : Type 0
EachParenthesisCounts = (count : ℕ) → nesting (on_line (times count (token.Open ∷ []))) ≡ count

-- each operator of a chain counts, without a parenthesis
abbrev pub EachOperatorCounts : Type 0
EachOperatorCounts = (count n : ℕ) → nesting (on_line (token.Number n ∷ times count (token.Plus ∷ token.Number n ∷ []))) ≡ count

-- a group in parentheses leaves the nesting as it was before
abbrev pub AGroupEnds : Type 0
AGroupEnds =
    (front inside : List Spanned) (open_ close_ : Spanned) → open_.token ≡ token.Open → close_.token ≡ token.Close
    → Each (λ t. ¬ IsParenthesis t.token) inside → nesting (front ++ open_ ∷ (inside ++ close_ ∷ [])) ≡ nesting front

-- a comma ends the chains of operators of its level
abbrev pub ASeparatorEndsAChain : Type 0
ASeparatorEndsAChain =
    (front : List Spanned) (comma : Spanned) → comma.token ≡ token.Comma → Each (λ t. ¬ IsParenthesis t.token) front
    → nesting (front ++ comma ∷ []) ≡ 0

-- ---- terms

-- `p(1-2-3).` has `(1-2)-3`
abbrev pub SumsGroupFromTheLeft : Type 0
SumsGroupFromTheLeft =
    IsProgram (in_p (token.Number 1 ∷ token.Minus ∷ token.Number 2 ∷ token.Minus ∷ token.Number 3 ∷ []))
    (p_of (term.Arith Sub (term.Arith Sub (term.Int (pos 1)) (term.Int (pos 2))) (term.Int (pos 3)) ∷ []))

-- and not `1-(2-3)`
abbrev pub SumsDoNotGroupFromTheRight : Type 0
SumsDoNotGroupFromTheRight =
    ¬ IsProgram (in_p (token.Number 1 ∷ token.Minus ∷ token.Number 2 ∷ token.Minus ∷ token.Number 3 ∷ []))
    (p_of (term.Arith Sub (term.Int (pos 1)) (term.Arith Sub (term.Int (pos 2)) (term.Int (pos 3))) ∷ []))

-- `p(8/4*2).` has `(8/4)*2`
abbrev pub ProductsGroupFromTheLeft : Type 0
ProductsGroupFromTheLeft =
    IsProgram (in_p (token.Number 8 ∷ token.Slash ∷ token.Number 4 ∷ token.Star ∷ token.Number 2 ∷ []))
    (p_of (term.Arith Mul (term.Arith Div (term.Int (pos 8)) (term.Int (pos 4))) (term.Int (pos 2)) ∷ []))

-- `p(1+2*3).` has `1+(2*3)`
abbrev pub ProductsBindTighter : Type 0
ProductsBindTighter =
    IsProgram (in_p (token.Number 1 ∷ token.Plus ∷ token.Number 2 ∷ token.Star ∷ token.Number 3 ∷ []))
    (p_of (term.Arith Add (term.Int (pos 1)) (term.Arith Mul (term.Int (pos 2)) (term.Int (pos 3))) ∷ []))

-- and not `(1+2)*3`
abbrev pub SumsDoNotBindTighter : Type 0
SumsDoNotBindTighter =
    ¬ IsProgram (in_p (token.Number 1 ∷ token.Plus ∷ token.Number 2 ∷ token.Star ∷ token.Number 3 ∷ []))
    (p_of (term.Arith Mul (term.Arith Add (term.Int (pos 1)) (term.Int (pos 2))) (term.Int (pos 3)) ∷ []))

-- `p((1+2)*3).` has it
abbrev pub ParenthesesGroup : Type 0
ParenthesesGroup =
    IsProgram
    (in_p (token.Open ∷ token.Number 1 ∷ token.Plus ∷ token.Number 2 ∷ token.Close ∷ token.Star ∷ token.Number 3 ∷ []))
    (p_of (term.Arith Mul (term.Arith Add (term.Int (pos 1)) (term.Int (pos 2))) (term.Int (pos 3)) ∷ []))

-- `p(-1).` has the integer -1
abbrev pub AMinusBeforeANumberIsItsSign : Type 0
AMinusBeforeANumberIsItsSign = IsProgram (in_p (token.Minus ∷ token.Number 1 ∷ [])) (p_of (term.Int (pos 0 -ℤ pos 1) ∷ []))

-- and not the minus of 1
abbrev pub AMinusBeforeANumberIsNoOperator : Type 0
AMinusBeforeANumberIsNoOperator = ¬ IsProgram (in_p (token.Minus ∷ token.Number 1 ∷ [])) (p_of (term.Minus (term.Int (pos 1)) ∷ []))

-- `p(-a).` has the minus of `a`
abbrev pub AMinusBeforeASymbolIsAnOperator : Type 0
AMinusBeforeASymbolIsAnOperator = IsProgram (in_p (token.Minus ∷ token.Id a ∷ [])) (p_of (term.Minus (term.Symbol a) ∷ []))

-- `p(--1).` has the minus of -1
abbrev pub TwoMinusesBeforeANumber : Type 0
TwoMinusesBeforeANumber =
    IsProgram (in_p (token.Minus ∷ token.Minus ∷ token.Number 1 ∷ [])) (p_of (term.Minus (term.Int (pos 0 -ℤ pos 1)) ∷ []))

-- `p(f(),f(X),_,"a",_).`: `f()` is the symbol, and each `_` has its number
abbrev pub EachKindOfOperand : Type 0
EachKindOfOperand =
    IsProgram
    (in_p
    (token.Id f ∷ token.Open ∷ token.Close ∷ token.Comma ∷ token.Id f ∷ token.Open ∷ token.Variable x ∷ token.Close ∷ token.Comma
    ∷ token.Anonymous ∷ token.Comma ∷ token.Text a ∷ token.Comma ∷ token.Anonymous ∷ []))
    (p_of (term.Symbol f ∷ term.Fun f (term.Variable x ∷ []) ∷ term.Anonymous 0 ∷ term.Text a ∷ term.Anonymous 1 ∷ []))

-- ---- statements

-- `f().` has the atom without arguments
abbrev pub AnEmptyListOfArgumentsIsNone : Type 0
AnEmptyListOfArgumentsIsNone =
    IsProgram (on_line (token.Id f ∷ token.Open ∷ token.Close ∷ token.Dot ∷ [])) (rule (head.Single (atom f [])) [])

-- `-a :- b, not c, -a < X.`: a literal before a comparison is a term
abbrev pub ALiteralBeforeAComparisonIsATerm : Type 0
ALiteralBeforeAComparisonIsATerm =
    IsProgram
    (on_line
    (token.Minus ∷ token.Id a ∷ token.If ∷ token.Id b ∷ token.Comma ∷ token.Not ∷ token.Id c ∷ token.Comma ∷ token.Minus ∷ token.Id a
    ∷ token.Compare Less ∷ token.Variable x ∷ token.Dot ∷ []))
    (rule (head.Single (negated_atom a []))
    (holds b ∷ item.Plain (literal.Negative (atom c [])) ∷ item.Plain (literal.Compare Less (term.Minus (term.Symbol a)) (term.Variable x)) ∷ []))

-- `:- .` and `a :- .` have an empty body
abbrev pub ABodyMayBeEmpty : Type 0
ABodyMayBeEmpty =
    IsProgram (in_body []) (constraint [])
    × IsProgram (on_line (token.Id a ∷ token.If ∷ token.Dot ∷ [])) (rule (head.Single (atom a [])) [])

-- a statement has the line of its first token: `a.` on line 1, and `b` on line 2 with its full stop on line 3
abbrev pub AStatementHasTheLineOfItsFirstToken : Type 0
AStatementHasTheLineOfItsFirstToken =
    IsProgram (on 1 (token.Id a) ∷ on 1 token.Dot ∷ on 2 (token.Id b) ∷ on 3 token.Dot ∷ [])
    (program_of
    (record { line = 1; head = head.Single (atom a []); body = [] } ∷ record { line = 2; head = head.Single (atom b []); body = [] } ∷ []))

-- ---- choices

-- `{}.` and `{a}.` have no bounds
abbrev pub AChoiceMayHaveNoBounds : Type 0
AChoiceMayHaveNoBounds =
    IsProgram (on_line (token.OpenBrace ∷ token.CloseBrace ∷ token.Dot ∷ [])) (rule (head.Choice None [] None) [])
    × IsProgram (on_line (token.OpenBrace ∷ token.Id a ∷ token.CloseBrace ∷ token.Dot ∷ [])) (rule (head.Choice None (choosing a [] ∷ []) None) [])

-- `1 {a:b;c:} 2.` has `<=` on both sides
abbrev pub ABoundWithoutAnOperatorIsAtMost : Type 0
ABoundWithoutAnOperatorIsAtMost =
    IsProgram
    (on_line
    (token.Number 1 ∷ token.OpenBrace ∷ token.Id a ∷ token.Colon ∷ token.Id b ∷ token.Semicolon ∷ token.Id c ∷ token.Colon
    ∷ token.CloseBrace ∷ token.Number 2 ∷ token.Dot ∷ []))
    (rule
    (head.Choice (guard LessEqual (term.Int (pos 1))) (choosing a (literal.Positive (atom b []) ∷ []) ∷ choosing c [] ∷ [])
    (guard LessEqual (term.Int (pos 2)))) [])

-- `X < {a} != 3 :- b.` has those that are written
abbrev pub ABoundHasItsOperator : Type 0
ABoundHasItsOperator =
    IsProgram
    (on_line
    (token.Variable x ∷ token.Compare Less ∷ token.OpenBrace ∷ token.Id a ∷ token.CloseBrace ∷ token.Compare NotEqual ∷ token.Number 3
    ∷ token.If ∷ token.Id b ∷ token.Dot ∷ []))
    (rule (head.Choice (guard Less (term.Variable x)) (choosing a [] ∷ []) (guard NotEqual (term.Int (pos 3)))) (holds b ∷ []))

-- ---- aggregates

-- `:- not X < #count{X,1:a,not b;:c;:} <= 3.`
abbrev pub AnAggregateMayBeDenied : Type 0
AnAggregateMayBeDenied =
    IsProgram
    (in_body
    (token.Not ∷ token.Variable x ∷ token.Compare Less ∷ token.Count ∷ token.OpenBrace ∷ token.Variable x ∷ token.Comma ∷ token.Number 1
    ∷ token.Colon ∷ token.Id a ∷ token.Comma ∷ token.Not ∷ token.Id b ∷ token.Semicolon ∷ token.Colon ∷ token.Id c ∷ token.Semicolon
    ∷ token.Colon ∷ token.CloseBrace ∷ token.Compare LessEqual ∷ token.Number 3 ∷ []))
    (constraint
    (item.Aggregate true
    (record {
      kind = kind.Count;
      elements =
          element (term.Variable x ∷ term.Int (pos 1) ∷ []) (literal.Positive (atom a []) ∷ literal.Negative (atom b []) ∷ [])
          ∷ element [] (literal.Positive (atom c []) ∷ []) ∷ element [] [] ∷ [];
      left = guard Less (term.Variable x);
      right = guard LessEqual (term.Int (pos 3));
    }) ∷ []))

-- `:- 1 = #sum{}.` and `:- #sum{X} > 1.` have a guard on one side
abbrev pub AnAggregateHasAGuard : Type 0
AnAggregateHasAGuard =
    IsProgram (in_body (token.Number 1 ∷ token.Compare Equal ∷ token.Sum ∷ token.OpenBrace ∷ token.CloseBrace ∷ []))
    (constraint (item.Aggregate false (record { kind = kind.Sum; elements = []; left = guard Equal (term.Int (pos 1)); right = None }) ∷ []))
    × IsProgram (in_body (token.Sum ∷ token.OpenBrace ∷ token.Variable x ∷ token.CloseBrace ∷ token.Compare Greater ∷ token.Number 1 ∷ []))
    (constraint
    (item.Aggregate false
    (record { kind = kind.Sum; elements = element (term.Variable x ∷ []) [] ∷ []; left = None; right = guard Greater (term.Int (pos 1)) }) ∷ []))

-- ---- refusals

-- `:- #sum{}.` is refused at the full stop
abbrev pub AnAggregateNeedsAGuard : Type 0
AnAggregateNeedsAGuard =
    Breaks (on_line (token.If ∷ token.Sum ∷ token.OpenBrace ∷ token.CloseBrace ∷ [])) (on 1 token.Dot)

-- `:- not a < b.` is refused at `b`, since only an aggregate may follow
abbrev pub NoComparisonIsDenied : Type 0
NoComparisonIsDenied = FirstFault (in_body (token.Not ∷ token.Id a ∷ token.Compare Less ∷ token.Id b ∷ [])) 4 (on 1 (token.Id b)) syntax

-- `X.` is refused at the full stop, since a choice may follow
abbrev pub AVariableIsNoHead : Type 0
AVariableIsNoHead = FirstFault (on_line (token.Variable x ∷ token.Dot ∷ [])) 1 (on 1 token.Dot) syntax

-- `a | b.` is refused at `|`, which is named
abbrev pub ADisjunctionIsUnsupported : Type 0
ADisjunctionIsUnsupported =
    FirstFault (on_line (token.Id a ∷ token.Bar ∷ token.Id b ∷ token.Dot ∷ [])) 1 (on 1 token.Bar) (unsupported Disjunction)

-- `a` ends too early
abbrev pub AStatementNeedsItsFullStop : Type 0
AStatementNeedsItsFullStop = Stops (on_line (token.Id a ∷ []))

-- ---- limits

-- after 200 operators of a chain the next is too deep
abbrev pub ASumMayBeTooDeep : Type 0
ASumMayBeTooDeep =
    (n : ℕ) → IsFaulty (on_line (token.Number n ∷ times deepest (token.Plus ∷ token.Number n ∷ []))) (on 1 token.Plus) too_deep

-- after 200 open parentheses the next is too deep
abbrev pub ParenthesesMayBeTooDeep : Type 0
ParenthesesMayBeTooDeep = IsFaulty (on_line (times deepest (token.Open ∷ []))) (on 1 token.Open) too_deep

-- `p(9223372036854775808).` is refused at the number
abbrev pub TheLargestNumberNeedsAMinus : Type 0
TheLargestNumberNeedsAMinus = FirstFault (in_p (token.Number largest ∷ [])) 2 (on 1 (token.Number largest)) number_too_large

-- `p(-9223372036854775808).` is not refused
abbrev pub AMinusMakesTheLargestNumberFit : Type 0
AMinusMakesTheLargestNumberFit =
    Parsed (in_p (token.Minus ∷ token.Number largest ∷ [])) (p_of (term.Int (pos 0 -ℤ pos largest) ∷ []))
