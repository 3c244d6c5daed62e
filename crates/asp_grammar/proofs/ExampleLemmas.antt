-- The examples, as the machine reads them.
use Rattle.std.proofs.Common.{◌≡◌, ℕ, suc, ℤ, pos, ◌-ℤ◌, arith, List, [], ◌∷◌, refl, sym, ap, ◌∙◌}
use Rattle.asp_syntax.specs.declared.token.Token.TheVariants as token
use Rattle.asp_syntax.specs.declared.token.Spanned.{Spanned}
use Rattle.asp_syntax.specs.declared.tree.CompareOp.TheVariants.{Equal, Greater, Less, LessEqual, NotEqual}
use Rattle.asp_syntax.specs.declared.tree.Head.{Head}
use Rattle.asp_syntax.specs.declared.tree.Head.TheVariants as head
use Rattle.asp_syntax.specs.declared.tree.Statement.{Statement}
use Rattle.asp_syntax.specs.declared.tree.Term.{Term}
use Rattle.asp_syntax.specs.declared.tree.Term.TheOpen.{Term-F}
use Rattle.asp_syntax.specs.declared.tree.Term.TheOpen as layer
use Rattle.asp_syntax.specs.declared.tree.Term.TheVariants as term
use Rattle.asp_syntax.specs.declared.tree.Term.TheFolds.{fold-Term, fold-roll-Term}
use Rattle.alpha_outside.specs.declared.kinds.ArithOp.{ArithOp}
use Rattle.alpha_outside.specs.declared.kinds.ArithOp.TheVariants.{Add, Sub, Mul}
use Rattle.asp_syntax.specs.WellFormed.{largest}
use Rattle.asp_grammar.specs.declared.state.Progress.TheVariants as at
use Rattle.asp_grammar.specs.Programs.{IsProgram}
use Rattle.asp_grammar.specs.Examples.{a, b, c, f, p, x, on, on_line, in_p, in_body, p_of}
use Rattle.asp_grammar.specs.Laws.{SumsGroupFromTheLeft, SumsDoNotGroupFromTheRight, ProductsGroupFromTheLeft, ProductsBindTighter, SumsDoNotBindTighter, ParenthesesGroup, AMinusBeforeANumberIsItsSign, AMinusBeforeANumberIsNoOperator, AMinusBeforeASymbolIsAnOperator, TwoMinusesBeforeANumber, EachKindOfOperand, AnEmptyListOfArgumentsIsNone, ALiteralBeforeAComparisonIsATerm, ABodyMayBeEmpty, AStatementHasTheLineOfItsFirstToken, AChoiceMayHaveNoBounds, ABoundWithoutAnOperatorIsAtMost, ABoundHasItsOperator, AnAggregateMayBeDenied, AnAggregateHasAGuard, AnAggregateNeedsAGuard, NoComparisonIsDenied, AVariableIsNoHead, ADisjunctionIsUnsupported, AStatementNeedsItsFullStop, TheLargestNumberNeedsAMinus, AMinusMakesTheLargestNumberFit}
use Rattle.asp_grammar.proofs.FaultLemmas.{sound_first, sound_on, named_first, broken_first, large_first, sound_parsed}
use Rattle.asp_grammar.proofs.StandingLemmas.{read_program, one_tree, refused_breaks, inside_stops}

pub sums_left : SumsGroupFromTheLeft
sums_left = read_program (in_p (token.Number 1 ∷ token.Minus ∷ token.Number 2 ∷ token.Minus ∷ token.Number 3 ∷ [])) _ refl

pub products_left : ProductsGroupFromTheLeft
products_left = read_program (in_p (token.Number 8 ∷ token.Slash ∷ token.Number 4 ∷ token.Star ∷ token.Number 2 ∷ [])) _ refl

pub products_tighter : ProductsBindTighter
products_tighter = read_program (in_p (token.Number 1 ∷ token.Plus ∷ token.Number 2 ∷ token.Star ∷ token.Number 3 ∷ [])) _ refl

pub parentheses_group : ParenthesesGroup
parentheses_group = read_program (in_p (token.Open ∷ token.Number 1 ∷ token.Plus ∷ token.Number 2 ∷ token.Close ∷ token.Star ∷ token.Number 3 ∷ [])) _ refl

pub minus_number : AMinusBeforeANumberIsItsSign
minus_number = read_program (in_p (token.Minus ∷ token.Number 1 ∷ [])) _ refl

pub minus_symbol : AMinusBeforeASymbolIsAnOperator
minus_symbol = read_program (in_p (token.Minus ∷ token.Id a ∷ [])) _ refl

pub two_minuses : TwoMinusesBeforeANumber
two_minuses = read_program (in_p (token.Minus ∷ token.Minus ∷ token.Number 1 ∷ [])) _ refl

pub operands : EachKindOfOperand
operands = read_program (in_p (token.Id f ∷ token.Open ∷ token.Close ∷ token.Comma ∷ token.Id f ∷ token.Open ∷ token.Variable x ∷ token.Close ∷ token.Comma ∷ token.Anonymous ∷ token.Comma ∷ token.Text a ∷ token.Comma ∷ token.Anonymous ∷ [])) _ refl

pub no_arguments : AnEmptyListOfArgumentsIsNone
no_arguments = read_program (on_line (token.Id f ∷ token.Open ∷ token.Close ∷ token.Dot ∷ [])) _ refl

pub compared_literal : ALiteralBeforeAComparisonIsATerm
compared_literal = read_program (on_line (token.Minus ∷ token.Id a ∷ token.If ∷ token.Id b ∷ token.Comma ∷ token.Not ∷ token.Id c ∷ token.Comma ∷ token.Minus ∷ token.Id a ∷ token.Compare Less ∷ token.Variable x ∷ token.Dot ∷ [])) _ refl

pub empty_bodies : ABodyMayBeEmpty
empty_bodies = (read_program (in_body []) _ refl, read_program (on_line (token.Id a ∷ token.If ∷ token.Dot ∷ [])) _ refl)

pub first_lines : AStatementHasTheLineOfItsFirstToken
first_lines = read_program (on 1 (token.Id a) ∷ on 1 token.Dot ∷ on 2 (token.Id b) ∷ on 3 token.Dot ∷ []) _ refl

pub no_bounds : AChoiceMayHaveNoBounds
no_bounds = (read_program (on_line (token.OpenBrace ∷ token.CloseBrace ∷ token.Dot ∷ [])) _ refl, read_program (on_line (token.OpenBrace ∷ token.Id a ∷ token.CloseBrace ∷ token.Dot ∷ [])) _ refl)

pub bare_bounds : ABoundWithoutAnOperatorIsAtMost
bare_bounds = read_program (on_line (token.Number 1 ∷ token.OpenBrace ∷ token.Id a ∷ token.Colon ∷ token.Id b ∷ token.Semicolon ∷ token.Id c ∷ token.Colon ∷ token.CloseBrace ∷ token.Number 2 ∷ token.Dot ∷ [])) _ refl

pub bounds : ABoundHasItsOperator
bounds = read_program (on_line (token.Variable x ∷ token.Compare Less ∷ token.OpenBrace ∷ token.Id a ∷ token.CloseBrace ∷ token.Compare NotEqual ∷ token.Number 3 ∷ token.If ∷ token.Id b ∷ token.Dot ∷ [])) _ refl

pub denied_aggregate : AnAggregateMayBeDenied
denied_aggregate = read_program (in_body (token.Not ∷ token.Variable x ∷ token.Compare Less ∷ token.Count ∷ token.OpenBrace ∷ token.Variable x ∷ token.Comma ∷ token.Number 1 ∷ token.Colon ∷ token.Id a ∷ token.Comma ∷ token.Not ∷ token.Id b ∷ token.Semicolon ∷ token.Colon ∷ token.Id c ∷ token.Semicolon ∷ token.Colon ∷ token.CloseBrace ∷ token.Compare LessEqual ∷ token.Number 3 ∷ [])) _ refl

pub guards : AnAggregateHasAGuard
guards = (read_program (in_body (token.Number 1 ∷ token.Compare Equal ∷ token.Sum ∷ token.OpenBrace ∷ token.CloseBrace ∷ [])) _ refl, read_program (in_body (token.Sum ∷ token.OpenBrace ∷ token.Variable x ∷ token.CloseBrace ∷ token.Compare Greater ∷ token.Number 1 ∷ [])) _ refl)

-- ---- trees that are not

-- how often a term goes down to its left before it comes to an operand
abbrev left_step : Term-F ℕ → ℕ
left_step (layer.Arith op left right) = suc left
left_step (layer.Minus inner) = suc inner
left_step _ = 0

abbrev left_depth : Term → ℕ
left_depth y = fold-Term ℕ left_step y

left-Int : (n : ℤ) → left_depth (term.Int n) ≡ 0
left-Int n = ap left_depth (sym (term.rolls-Int n)) ∙ fold-roll-Term ℕ left_step (layer.Int n)

left-Minus : (y : Term) → left_depth (term.Minus y) ≡ suc (left_depth y)
left-Minus y = ap left_depth (sym (term.rolls-Minus y)) ∙ fold-roll-Term ℕ left_step (layer.Minus y)

left-Arith : (op : ArithOp) (y z : Term) → left_depth (term.Arith op y z) ≡ suc (left_depth y)
left-Arith op y z = ap left_depth (sym (term.rolls-Arith op y z)) ∙ fold-roll-Term ℕ left_step (layer.Arith op y z)

one_down : (op : ArithOp) (n : ℤ) (z : Term) → left_depth (term.Arith op (term.Int n) z) ≡ 1
one_down op n z = left-Arith op (term.Int n) z ∙ ap suc (left-Int n)

two_down : (op inner : ArithOp) (n m : ℤ) (z : Term) → left_depth (term.Arith op (term.Arith inner (term.Int n) (term.Int m)) z) ≡ 2
two_down op inner n m z = left-Arith op (term.Arith inner (term.Int n) (term.Int m)) z ∙ ap suc (one_down inner n (term.Int m))

-- the first argument of the first fact
abbrev first_term : List Term → ℕ
first_term [] = 0
first_term (y ∷ ys) = left_depth y

abbrev head_term : Head → ℕ
head_term (head.Single atom) = first_term atom.args
head_term _ = 0

abbrev first_of : List Statement → ℕ
first_of [] = 0
first_of (s ∷ ss) = head_term s.head

other_tree : (tokens : List Spanned) (right wrong : Term) (n m : ℕ) → IsProgram tokens (p_of (right ∷ [])) → left_depth right ≡ n → left_depth wrong ≡ m → (n ≡ m → ⊥) → ¬ IsProgram tokens (p_of (wrong ∷ []))
other_tree tokens right wrong n m is e g apart h =
    apart (sym e ∙ ap (λ q. first_of q.statements) (one_tree tokens (p_of (right ∷ [])) (p_of (wrong ∷ [])) is h) ∙ g)

pub not_right : SumsDoNotGroupFromTheRight
not_right =
    other_tree (in_p (token.Number 1 ∷ token.Minus ∷ token.Number 2 ∷ token.Minus ∷ token.Number 3 ∷ []))
    (term.Arith Sub (term.Arith Sub (term.Int (pos 1)) (term.Int (pos 2))) (term.Int (pos 3)))
    (term.Arith Sub (term.Int (pos 1)) (term.Arith Sub (term.Int (pos 2)) (term.Int (pos 3)))) 2 1 sums_left
    (two_down Sub Sub (pos 1) (pos 2) (term.Int (pos 3))) (one_down Sub (pos 1) (term.Arith Sub (term.Int (pos 2)) (term.Int (pos 3)))) (λ e. omega arith)

pub not_tighter : SumsDoNotBindTighter
not_tighter =
    other_tree (in_p (token.Number 1 ∷ token.Plus ∷ token.Number 2 ∷ token.Star ∷ token.Number 3 ∷ []))
    (term.Arith Add (term.Int (pos 1)) (term.Arith Mul (term.Int (pos 2)) (term.Int (pos 3))))
    (term.Arith Mul (term.Arith Add (term.Int (pos 1)) (term.Int (pos 2))) (term.Int (pos 3))) 1 2 products_tighter
    (one_down Add (pos 1) (term.Arith Mul (term.Int (pos 2)) (term.Int (pos 3)))) (two_down Mul Add (pos 1) (pos 2) (term.Int (pos 3))) (λ e. omega arith)

pub no_operator : AMinusBeforeANumberIsNoOperator
no_operator =
    other_tree (in_p (token.Minus ∷ token.Number 1 ∷ [])) (term.Int (pos 0 -ℤ pos 1)) (term.Minus (term.Int (pos 1))) 0 1 minus_number
    (left-Int (pos 0 -ℤ pos 1)) (left-Minus (term.Int (pos 1)) ∙ ap suc (left-Int (pos 1))) (λ e. omega arith)

-- ---- refusals

pub no_guard : AnAggregateNeedsAGuard
no_guard = refused_breaks (on_line (token.If ∷ token.Sum ∷ token.OpenBrace ∷ token.CloseBrace ∷ [])) (on 1 token.Dot) _ refl refl

pub no_full_stop : AStatementNeedsItsFullStop
no_full_stop = inside_stops (on_line (token.Id a ∷ [])) tt

pub variable_head : AVariableIsNoHead
variable_head =
    let tokens = on_line (token.Variable x ∷ token.Dot ∷ []) in
    let one = sound_on tokens 0 0 (at.Between []) (on 1 (token.Variable x)) (sound_first tokens) refl _ refl (omega arith) (λ e. absurd cc) in
    broken_first tokens 1 0 _ (on 1 token.Dot) one refl refl refl

pub disjunction : ADisjunctionIsUnsupported
disjunction =
    let tokens = on_line (token.Id a ∷ token.Bar ∷ token.Id b ∷ token.Dot ∷ []) in
    let one = sound_on tokens 0 0 (at.Between []) (on 1 (token.Id a)) (sound_first tokens) refl _ refl (omega arith) (λ e. absurd cc) in
    named_first tokens 1 0 _ (on 1 token.Bar) one refl _ refl

pub denied_comparison : NoComparisonIsDenied
denied_comparison =
    let tokens = in_body (token.Not ∷ token.Id a ∷ token.Compare Less ∷ token.Id b ∷ []) in
    let one = sound_on tokens 0 0 (at.Between []) (on 1 token.If) (sound_first tokens) refl _ refl (omega arith) (λ e. absurd cc) in
    let two = sound_on tokens 1 0 _ (on 1 token.Not) one refl _ refl (omega arith) (λ e. absurd cc) in
    let three = sound_on tokens 2 0 _ (on 1 (token.Id a)) two refl _ refl (omega arith) (λ e. absurd cc) in
    let four = sound_on tokens 3 0 _ (on 1 (token.Compare Less)) three refl _ refl (omega arith) (λ e. absurd cc) in
    broken_first tokens 4 0 _ (on 1 (token.Id b)) four refl refl refl

pub needs_minus : TheLargestNumberNeedsAMinus
needs_minus =
    let tokens = in_p (token.Number largest ∷ []) in
    let one = sound_on tokens 0 0 (at.Between []) (on 1 (token.Id p)) (sound_first tokens) refl _ refl (omega arith) (λ e. absurd cc) in
    let two = sound_on tokens 1 0 _ (on 1 token.Open) one refl _ refl (omega arith) (λ e. absurd cc) in
    large_first tokens 2 0 _ (on 1 (token.Number largest)) two refl _ refl (omega arith) refl refl

pub largest_fits : AMinusMakesTheLargestNumberFit
largest_fits =
    let tokens = in_p (token.Minus ∷ token.Number largest ∷ []) in
    let one = sound_on tokens 0 0 (at.Between []) (on 1 (token.Id p)) (sound_first tokens) refl _ refl (omega arith) (λ e. absurd cc) in
    let two = sound_on tokens 1 0 _ (on 1 token.Open) one refl _ refl (omega arith) (λ e. absurd cc) in
    let three = sound_on tokens 2 0 _ (on 1 token.Minus) two refl _ refl (omega arith) (λ e. absurd cc) in
    let four = sound_on tokens 3 0 _ (on 1 (token.Number largest)) three refl _ refl (omega arith) (λ e. refl) in
    let five = sound_on tokens 4 0 _ (on 1 token.Close) four refl _ refl (omega arith) (λ e. absurd cc) in
    let six = sound_on tokens 5 0 _ (on 1 token.Dot) five refl _ refl (omega arith) (λ e. absurd cc) in
    sound_parsed tokens 6 0 _ (omega arith) six
