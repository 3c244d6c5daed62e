-- The tree of well-formed tokens is well-formed: along the grammar, what is read is, and so are the tokens that are left.
use Rattle.std.proofs.Common.{◌≡◌, ℕ, List, [], ◌∷◌, ◌++◌, sym, ap, subst, ◌∙◌}
use Rattle.std.specs.Prelude.{Option, map, ℤ, pos, ◌-ℤ◌}
use Rattle.alpha_outside.specs.declared.kinds.ArithOp.{ArithOp}
use Rattle.lists.specs.Lists.{Each, concat}
use Rattle.lists.proofs.ListLemmas.{Each-append}
use Rattle.asp_syntax.specs.declared.token.Token.{Token}
use Rattle.asp_syntax.specs.declared.token.Token.TheVariants as token
use Rattle.asp_syntax.specs.declared.token.Spanned.{Spanned}
use Rattle.asp_syntax.specs.declared.tree.Term.{Term}
use Rattle.asp_syntax.specs.declared.tree.Term.TheVariants as term
use Rattle.asp_syntax.specs.declared.tree.Term.TheOpen as layer
use Rattle.asp_syntax.specs.declared.tree.Term.TheFolds.{fold-roll-Term}
use Rattle.asp_syntax.specs.declared.tree.Atom.{Atom}
use Rattle.asp_syntax.specs.declared.tree.Literal.{Literal}
use Rattle.asp_syntax.specs.declared.tree.Element.{Element}
use Rattle.asp_syntax.specs.declared.tree.Guard.{Guard}
use Rattle.asp_syntax.specs.declared.tree.Aggregate.{Aggregate}
use Rattle.asp_syntax.specs.declared.tree.AggKind.{AggKind}
use Rattle.asp_syntax.specs.declared.tree.Item.{Item}
use Rattle.asp_syntax.specs.declared.tree.ChoiceElement.{ChoiceElement}
use Rattle.asp_syntax.specs.declared.tree.Head.{Head}
use Rattle.asp_syntax.specs.declared.tree.Statement.{Statement}
use Rattle.asp_syntax.specs.declared.tree.Program.{Program}
use Rattle.asp_syntax.specs.WellFormed.{IsId, IsText, IsWellFormed}
use Rattle.asp_syntax.specs.Trees.{Part, IsAllowed, parts, parts_step, IsWellFormedTerm, IsWellFormedAtom, IsWellFormedLiteral, IsWellFormedElement, IsWellFormedGuard, IsWellFormedAggregate, IsWellFormedItem, IsWellFormedChoice, IsWellFormedHead, IsWellFormedStatement, IsWellFormedProgram}
use Rattle.asp_grammar.specs.Terminals.{Terminal, terminal_of, anonymous_after}
use Rattle.asp_grammar.specs.Terminals as terminal
use Rattle.asp_grammar.specs.Grammar.{IsProductSign, IsSumSign, IsUnary, IsProduct, ContinuesProduct, IsTerm, ContinuesTerm, AreTerms, AreArguments, IsLiteral, IsNaf, AreNafs, IsCondition, IsElement, AreElements, IsKindSign, IsFunction, IsAggregate, IsItem, IsBody, IsChosen, AreChosen, IsBraced, IsLeftBound, IsRightBound, IsChoice, IsHead, Clause, IsClause}
use Rattle.asp_grammar.specs.Grammar as g
use Rattle.asp_grammar.specs.Programs.{Lined, lined_from, terminals, AreStatements, none, more, IsProgram}

-- ---- terms, made of their parts

each_parts : (x : Term) (ps : List Part) → parts x ≡ ps → Each IsAllowed ps → IsWellFormedTerm x
each_parts x ps e h = subst (Each IsAllowed) (sym e) h

int_fine : (n : ℤ) → IsWellFormedTerm (term.Int n)
int_fine n = each_parts (term.Int n) [] (ap parts (sym (term.rolls-Int n)) ∙ fold-roll-Term (List Part) parts_step (layer.Int n)) tt

variable_fine : (n : List ℕ) → IsWellFormedTerm (term.Variable n)
variable_fine n = each_parts (term.Variable n) [] (ap parts (sym (term.rolls-Variable n)) ∙ fold-roll-Term (List Part) parts_step (layer.Variable n)) tt

anonymous_fine : (k : ℕ) → IsWellFormedTerm (term.Anonymous k)
anonymous_fine k = each_parts (term.Anonymous k) [] (ap parts (sym (term.rolls-Anonymous k)) ∙ fold-roll-Term (List Part) parts_step (layer.Anonymous k)) tt

symbol_fine : (n : List ℕ) → IsId n → IsWellFormedTerm (term.Symbol n)
symbol_fine n h = each_parts (term.Symbol n) (parts_step (layer.Symbol n)) (ap parts (sym (term.rolls-Symbol n)) ∙ fold-roll-Term (List Part) parts_step (layer.Symbol n)) (h, tt)

text_fine : (t : List ℕ) → IsText t → IsWellFormedTerm (term.Text t)
text_fine t h = each_parts (term.Text t) (parts_step (layer.Text t)) (ap parts (sym (term.rolls-Text t)) ∙ fold-roll-Term (List Part) parts_step (layer.Text t)) (h, tt)

minus_fine : (x : Term) → IsWellFormedTerm x → IsWellFormedTerm (term.Minus x)
minus_fine x h = each_parts (term.Minus x) (parts x) (ap parts (sym (term.rolls-Minus x)) ∙ fold-roll-Term (List Part) parts_step (layer.Minus x)) h

arith_fine : (op : ArithOp) (x y : Term) → IsWellFormedTerm x → IsWellFormedTerm y → IsWellFormedTerm (term.Arith op x y)
arith_fine op x y h k =
    each_parts (term.Arith op x y) (parts x ++ parts y) (ap parts (sym (term.rolls-Arith op x y)) ∙ fold-roll-Term (List Part) parts_step (layer.Arith op x y))
    (Each-append IsAllowed (parts x) (parts y) h k)

all_parts : (xs : List Term) → Each IsWellFormedTerm xs → Each IsAllowed (concat (map parts xs))
all_parts [] h = tt
all_parts (x ∷ xs) h = Each-append IsAllowed (parts x) (concat (map parts xs)) h.0 (all_parts xs h.1)

fun_fine : (n : List ℕ) (x : Term) (xs : List Term) → IsId n → Each IsWellFormedTerm (x ∷ xs) → IsWellFormedTerm (term.Fun n (x ∷ xs))
fun_fine n x xs h k =
    each_parts (term.Fun n (x ∷ xs)) (parts_step (layer.Fun n (map parts (x ∷ xs))))
    (ap parts (sym (term.rolls-Fun n (x ∷ xs))) ∙ fold-roll-Term (List Part) parts_step (layer.Fun n (x ∷ xs)))
    (h, all_parts (x ∷ xs) k)

-- ---- tokens

-- a token as the grammar sees it has an ID or a text that is allowed
abbrev IsFine : Terminal → Type 0
IsFine (terminal.Id n) = IsId n
IsFine (terminal.Text t) = IsText t
IsFine _ = Unit {0}

terminal_fine : (count : ℕ) (t : Token) → IsWellFormed t → IsFine (terminal_of count t)
terminal_fine count (token.Id n) h = h
terminal_fine count (token.Text t) h = h
terminal_fine count _ h = tt

-- ---- the grammar

call_fine : (n : List ℕ) {ts r : List Terminal} {xs : List Term} → AreTerms ts r xs → IsId n → Each IsWellFormedTerm xs → IsWellFormedTerm (term.Fun n xs)
call_fine n (g.last {x = x} t) h k = fun_fine n x [] h k
call_fine n (g.another {x = x} {xs = xs} t others) h k = fun_fine n x xs h k

mutual
  unary_fine : {ts r : List Terminal} {x : Term} → IsUnary ts r x → Each IsFine ts → Each IsFine r × IsWellFormedTerm x
  unary_fine (g.negative {n = n}) f = (f.1.1, int_fine (pos 0 -ℤ pos n))
  unary_fine (g.minus {x = x} no_number u) f = let d = unary_fine u f.1 in (d.0, minus_fine x d.1)
  unary_fine (g.group t) f = let d = term_fine t f.1 in (d.0.1, d.1)
  unary_fine (g.symbol {n = n}) f = (f.1, symbol_fine n f.0)
  unary_fine (g.empty_call {n = n}) f = (f.1.1.1, symbol_fine n f.0)
  unary_fine (g.call {n = n} terms) f = let d = terms_fine terms f.1.1 in (d.0.1, call_fine n terms f.0 d.1)
  unary_fine (g.number {n = n}) f = (f.1, int_fine (pos n))
  unary_fine (g.text {n = n}) f = (f.1, text_fine n f.0)
  unary_fine (g.variable {n = n}) f = (f.1, variable_fine n)
  unary_fine (g.anonymous {n = n}) f = (f.1, anonymous_fine n)

  product_fine : {ts r : List Terminal} {x : Term} → IsProduct ts r x → Each IsFine ts → Each IsFine r × IsWellFormedTerm x
  product_fine (g.product u factors) f = let d = unary_fine u f in factors_fine factors d.1 d.0

  factors_fine : {x y : Term} {ts r : List Terminal} → ContinuesProduct x ts r y → IsWellFormedTerm x → Each IsFine ts → Each IsFine r × IsWellFormedTerm y
  factors_fine g.no_factor h f = (f, h)
  factors_fine (g.factor {op = op} {x = x} {y = y} sign u factors) h f =
      let d = unary_fine u f.1 in factors_fine factors (arith_fine op x y h d.1) d.0

  term_fine : {ts r : List Terminal} {x : Term} → IsTerm ts r x → Each IsFine ts → Each IsFine r × IsWellFormedTerm x
  term_fine (g.sum product summands) f = let d = product_fine product f in summands_fine summands d.1 d.0

  summands_fine : {x y : Term} {ts r : List Terminal} → ContinuesTerm x ts r y → IsWellFormedTerm x → Each IsFine ts → Each IsFine r × IsWellFormedTerm y
  summands_fine g.no_summand h f = (f, h)
  summands_fine (g.summand {op = op} {x = x} {y = y} sign product summands) h f =
      let d = product_fine product f.1 in summands_fine summands (arith_fine op x y h d.1) d.0

  terms_fine : {ts r : List Terminal} {xs : List Term} → AreTerms ts r xs → Each IsFine ts → Each IsFine r × Each IsWellFormedTerm xs
  terms_fine (g.last t) f = let d = term_fine t f in (d.0, (d.1, tt))
  terms_fine (g.another t terms) f = let d = term_fine t f in let e = terms_fine terms d.0.1 in (e.0, (d.1, e.1))

arguments_fine : {ts r : List Terminal} {xs : List Term} → AreArguments ts r xs → Each IsFine ts → Each IsFine r × Each IsWellFormedTerm xs
arguments_fine g.none f = (f, tt)
arguments_fine g.empty f = (f.1.1, tt)
arguments_fine (g.some terms) f = let d = terms_fine terms f.1 in (d.0.1, d.1)

literal_fine : {ts r : List Terminal} {a : Atom} → IsLiteral ts r a → Each IsFine ts → Each IsFine r × IsWellFormedAtom a
literal_fine (g.plain arguments) f = let d = arguments_fine arguments f.1 in (d.0, (f.0, d.1))
literal_fine (g.negated arguments) f = let d = arguments_fine arguments f.1.1 in (d.0, (f.1.0, d.1))

naf_fine : {ts r : List Terminal} {l : Literal} → IsNaf ts r l → Each IsFine ts → Each IsFine r × IsWellFormedLiteral l
naf_fine (g.positive l) f = literal_fine l f
naf_fine (g.negative l) f = literal_fine l f.1
naf_fine (g.compare first second) f = let d = term_fine first f in let e = term_fine second d.0.1 in (e.0, (d.1, e.1))

nafs_fine : {ts r : List Terminal} {ls : List Literal} → AreNafs ts r ls → Each IsFine ts → Each IsFine r × Each IsWellFormedLiteral ls
nafs_fine (g.lone l) f = let d = naf_fine l f in (d.0, (d.1, tt))
nafs_fine (g.further l ls) f = let d = naf_fine l f in let e = nafs_fine ls d.0.1 in (e.0, (d.1, e.1))

condition_fine : {ts r : List Terminal} {ls : List Literal} → IsCondition ts r ls → Each IsFine ts → Each IsFine r × Each IsWellFormedLiteral ls
condition_fine g.absent f = (f, tt)
condition_fine g.bare f = (f.1, tt)
condition_fine (g.given ls) f = nafs_fine ls f.1

element_fine : {ts r : List Terminal} {e : Element} → IsElement ts r e → Each IsFine ts → Each IsFine r × IsWellFormedElement e
element_fine (g.tuple terms condition) f = let d = terms_fine terms f in let e = condition_fine condition d.0 in (e.0, (d.1, e.1))
element_fine g.colon_alone f = (f.1, (tt, tt))
element_fine (g.untupled ls) f = let d = nafs_fine ls f.1 in (d.0, (tt, d.1))

elements_fine : {ts r : List Terminal} {es : List Element} → AreElements ts r es → Each IsFine ts → Each IsFine r × Each IsWellFormedElement es
elements_fine (g.sole e) f = let d = element_fine e f in (d.0, (d.1, tt))
elements_fine (g.besides e es) f = let d = element_fine e f in let k = elements_fine es d.0.1 in (k.0, (d.1, k.1))

function_fine : {ts r : List Terminal} {k : AggKind} {es : List Element} → IsFunction ts r k es → Each IsFine ts → Each IsFine r × Each IsWellFormedElement es
function_fine (g.of_none sign) f = (f.1.1.1, tt)
function_fine (g.of_some sign es) f = let d = elements_fine es f.1.1 in (d.0.1, d.1)

aggregate_fine : {ts r : List Terminal} {a : Aggregate} → IsAggregate ts r a → Each IsFine ts → Each IsFine r × IsWellFormedAggregate a
aggregate_fine (g.at_left first function) f =
    let d = term_fine first f in
    let e = function_fine function d.0.1 in
    (e.0, record { elements = e.1; left = d.1; right = tt; guarded = tt })
aggregate_fine (g.at_both first function second) f =
    let d = term_fine first f in
    let e = function_fine function d.0.1 in
    let k = term_fine second e.0.1 in
    (k.0, record { elements = e.1; left = d.1; right = k.1; guarded = tt })
aggregate_fine (g.at_right function second) f =
    let e = function_fine function f in
    let k = term_fine second e.0.1 in
    (k.0, record { elements = e.1; left = tt; right = k.1; guarded = tt })

item_fine : {ts r : List Terminal} {i : Item} → IsItem ts r i → Each IsFine ts → Each IsFine r × IsWellFormedItem i
item_fine (g.plain_item l) f = naf_fine l f
item_fine (g.aggregate a) f = aggregate_fine a f
item_fine (g.denied_aggregate a) f = aggregate_fine a f.1

body_fine : {ts r : List Terminal} {is : List Item} → IsBody ts r is → Each IsFine ts → Each IsFine r × Each IsWellFormedItem is
body_fine (g.one i) f = let d = item_fine i f in (d.0, (d.1, tt))
body_fine (g.more i is) f = let d = item_fine i f in let e = body_fine is d.0.1 in (e.0, (d.1, e.1))

chosen_fine : {ts r : List Terminal} {e : ChoiceElement} → IsChosen ts r e → Each IsFine ts → Each IsFine r × IsWellFormedChoice e
chosen_fine (g.chosen l condition) f = let d = literal_fine l f in let e = condition_fine condition d.0 in (e.0, (d.1, e.1))

all_chosen_fine : {ts r : List Terminal} {es : List ChoiceElement} → AreChosen ts r es → Each IsFine ts → Each IsFine r × Each IsWellFormedChoice es
all_chosen_fine (g.final e) f = let d = chosen_fine e f in (d.0, (d.1, tt))
all_chosen_fine (g.next e es) f = let d = chosen_fine e f in let k = all_chosen_fine es d.0.1 in (k.0, (d.1, k.1))

braced_fine : {ts r : List Terminal} {es : List ChoiceElement} → IsBraced ts r es → Each IsFine ts → Each IsFine r × Each IsWellFormedChoice es
braced_fine g.hollow f = (f.1.1, tt)
braced_fine (g.filled es) f = let d = all_chosen_fine es f.1 in (d.0.1, d.1)

left_fine : {ts r : List Terminal} {bound : Option Guard} → IsLeftBound ts r bound → Each IsFine ts → Each IsFine r × IsWellFormedGuard bound
left_fine g.free f = (f, tt)
left_fine (g.at_least t) f = term_fine t f
left_fine (g.bounded t) f = let d = term_fine t f in (d.0.1, d.1)

right_fine : {ts r : List Terminal} {bound : Option Guard} → IsRightBound ts r bound → Each IsFine ts → Each IsFine r × IsWellFormedGuard bound
right_fine g.unbounded f = (f, tt)
right_fine (g.at_most t) f = term_fine t f
right_fine (g.bound t) f = term_fine t f.1

head_fine : {ts r : List Terminal} {h : Head} → IsHead ts r h → Each IsFine ts → Each IsFine r × IsWellFormedHead h
head_fine (g.single l) f = literal_fine l f
head_fine (g.choosing (g.choice left braced right)) f =
    let d = left_fine left f in
    let e = braced_fine braced d.0 in
    let k = right_fine right e.0 in
    (k.0, (d.1, e.1, k.1))

clause_fine : {ts : List Terminal} {c : Clause} → IsClause ts c → Each IsFine ts → IsWellFormedHead c.head × Each IsWellFormedItem c.body
clause_fine g.empty_constraint f = (tt, tt)
clause_fine (g.constraint body) f = let d = body_fine body f.1 in (tt, d.1)
clause_fine (g.fact head) f = let d = head_fine head f in (d.1, tt)
clause_fine (g.empty_rule head) f = let d = head_fine head f in (d.1, tt)
clause_fine (g.rule head body) f = let d = head_fine head f in let e = body_fine body d.0.1 in (d.1, e.1)

-- ---- programs

abbrev IsFineLined : Lined → Type 0
IsFineLined l = IsFine l.terminal

lined_fine : (count : ℕ) (tokens : List Spanned) → Each (λ t. IsWellFormed t.token) tokens → Each IsFineLined (lined_from count tokens)
lined_fine count [] h = tt
lined_fine count (t ∷ ts) h = (terminal_fine count t.token h.0, lined_fine (anonymous_after count t.token) ts h.1)

-- the tokens of a statement, and those behind it
split_fine : (ts rest : List Lined) → Each IsFineLined (ts ++ rest) → Each IsFine (terminals ts) × Each IsFineLined rest
split_fine [] rest f = (tt, f)
split_fine (t ∷ ts) rest f = let d = split_fine ts rest f.1 in ((f.0, d.0), d.1)

statements_fine : {ls : List Lined} {ss : List Statement} → AreStatements ls ss → Each IsFineLined ls → Each IsWellFormedStatement ss
statements_fine none f = tt
statements_fine (more ts rest clause statements) f =
    let d = split_fine ts rest f.1 in
    (clause_fine clause (f.0, d.0), statements_fine statements d.1)

pub program_fine : (tokens : List Spanned) (p : Program) → Each (λ t. IsWellFormed t.token) tokens → IsProgram tokens p → IsWellFormedProgram p
program_fine tokens p h program = statements_fine program (lined_fine 0 tokens h)
