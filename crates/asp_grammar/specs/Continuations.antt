-- What may still come in each state of the machine: the tokens that lead on to a whole statement, and that statement.
--
-- It says what a state means in the words of the grammar alone, by what is still open in it. That the machine keeps it, token by
-- token, is what ties the machine to the grammar.
use Rattle.std.specs.Prelude.{◌≡◌, ℕ, zero, suc, Bool, true, false, List, [], ◌∷◌, ◌++◌, ◌⊎◌}
use Rattle.std.specs.Prelude.{Option, Some, None}
use Rattle.asp_syntax.specs.declared.tree.CompareOp.{CompareOp}
use Rattle.asp_syntax.specs.declared.tree.Term.{Term}
use Rattle.asp_syntax.specs.declared.tree.Atom.{Atom}
use Rattle.asp_syntax.specs.declared.tree.Literal.{Literal}
use Rattle.asp_syntax.specs.declared.tree.Literal.TheVariants as literal
use Rattle.asp_syntax.specs.declared.tree.Item.{Item}
use Rattle.asp_syntax.specs.declared.tree.Item.TheVariants as item
use Rattle.asp_syntax.specs.declared.tree.ChoiceElement.{ChoiceElement}
use Rattle.asp_syntax.specs.declared.tree.Guard.{Guard}
use Rattle.asp_syntax.specs.declared.tree.Element.{Element}
use Rattle.asp_syntax.specs.declared.tree.AggKind.{AggKind}
use Rattle.asp_syntax.specs.declared.tree.CompareOp.TheVariants.{LessEqual}
use Rattle.asp_syntax.specs.declared.tree.Head.{Head}
use Rattle.asp_syntax.specs.declared.tree.Head.TheVariants as head
use Rattle.asp_grammar.specs.Terminals.{Terminal}
use Rattle.asp_grammar.specs.Terminals as terminal
use Rattle.asp_grammar.specs.Grammar.{Clause, IsClause, IsLiteral, AreNafs, IsCondition, AreChosen, IsRightBound, AreArguments, IsBody, IsKindSign, AreElements, IsUnary, ContinuesProduct, ContinuesTerm, IsTerm, AreTerms}
use Rattle.asp_grammar.specs.declared.state.Pending.{Pending}
use Rattle.asp_grammar.specs.declared.state.Pending.TheVariants.{Nothing}
use Rattle.asp_grammar.specs.declared.state.Opening.{Opening}
use Rattle.asp_grammar.specs.declared.state.Owner.{Owner}
use Rattle.asp_grammar.specs.declared.state.Owner.TheVariants.{Chosen, Tuple}
use Rattle.asp_grammar.specs.declared.state.LiteralRole.{LiteralRole}
use Rattle.asp_grammar.specs.declared.state.LiteralRole.TheVariants.{AsHead, AsDenied, AsItem, AsChosen, InCondition, DeniedInCondition}
use Rattle.asp_grammar.specs.declared.state.TermRole.{TermRole}
use Rattle.asp_grammar.specs.declared.state.TermRole.TheVariants.{BodyLeft, BodyRight, HeadLeft, HeadRight, ConditionLeft, ConditionRight, GuardRight}
use Rattle.asp_grammar.specs.declared.state.Frame.{Frame}
use Rattle.asp_grammar.specs.declared.state.Frame.TheVariants.{Group, Call}
use Rattle.asp_grammar.specs.declared.state.Purpose.{Purpose}
use Rattle.asp_grammar.specs.declared.state.Purpose.TheVariants.{ForTerm, ForArguments, ForTuple}
use Rattle.asp_grammar.specs.declared.state.State.{State}
use Rattle.asp_grammar.specs.declared.state.State.TheVariants.{Starting, BodyOpened, BraceDue, BraceOpened, BraceClosed, CompareRead, KindRead, ElementsOpened, ElementDue, FunctionClosed, ConditionOpened, LiteralDue, SignRead, NameRead, ArgumentsOpened, ArgumentsRead, OperandDue, SymbolRead, CallOpened, OperandRead, Ended}
use Rattle.asp_grammar.specs.Machine.{join, minuses, call_term, signed, atom_of, clause_of, term_role, guard_of, element_of, tuple_of, opening_of, with_aggregate}

-- tokens that are still to come, and the statement that they complete
abbrev pub Continuation : Type 1
Continuation = List Terminal → Clause → Type 0

-- the product so far, for which `sum` waits: operators and operands may follow, and what comes of all goes on as P says
abbrev pub Chain : (Term → Continuation) → Pending → Term → Continuation
Chain P sum x ts c = (y z : Term) × (r q : List Terminal) × ContinuesProduct x ts r y × ContinuesTerm (join sum y) r q z × P z q c

-- a term begins, and what it is goes on as P says
abbrev pub Fresh : (Term → Continuation) → Continuation
Fresh P ts c = (x : Term) × (r : List Terminal) × IsUnary ts r x × Chain P Nothing x r c

-- after an item: a full stop, or a comma and more items
abbrev pub AfterItem : Head → List Item → Continuation
AfterItem h items ts c =
    ((ts ≡ terminal.Dot ∷ []) × (c ≡ clause_of h items))
    ⊎ ((r : List Terminal) × (more : List Item) × (ts ≡ terminal.Comma ∷ r) × IsBody r (terminal.Dot ∷ []) more
    × (c ≡ clause_of h (items ++ more)))

-- after `:-`: a full stop, or a body and a full stop
abbrev pub InBody : Head → Continuation
InBody h ts c =
    ((ts ≡ terminal.Dot ∷ []) × (c ≡ clause_of h []))
    ⊎ ((items : List Item) × IsBody ts (terminal.Dot ∷ []) items × (c ≡ clause_of h items))

-- after a head: a full stop, or `:-` and what follows it
abbrev pub HeadRead : Head → Continuation
HeadRead h ts c = ((ts ≡ terminal.Dot ∷ []) × (c ≡ clause_of h [])) ⊎ ((r : List Terminal) × (ts ≡ terminal.If ∷ r) × InBody h r c)

-- after the `}` of a choice: maybe a right bound, and what follows the head
abbrev pub AfterBraces : Option Guard → List ChoiceElement → Continuation
AfterBraces left elements ts c = (g : Option Guard) × (r : List Terminal) × IsRightBound ts r g × HeadRead (head.Choice left elements g) r c

-- elements of a choice up to its `}`, and what follows it
abbrev pub ChoicesDue : Option Guard → List ChoiceElement → Continuation
ChoicesDue left elements ts c =
    (r : List Terminal) × (more : List ChoiceElement) × AreChosen ts (terminal.CloseBrace ∷ r) more × AfterBraces left (elements ++ more) r c

-- after an element of a choice: `}`, or `;` and more elements
abbrev pub AfterElement : Option Guard → List ChoiceElement → ChoiceElement → Continuation
AfterElement left elements e ts c =
    ((r : List Terminal) × (ts ≡ terminal.CloseBrace ∷ r) × AfterBraces left (elements ++ e ∷ []) r c)
    ⊎ ((r : List Terminal) × (ts ≡ terminal.Semicolon ∷ r) × ChoicesDue left (elements ++ e ∷ []) r c)

-- after an aggregate of these parts
abbrev pub AfterAggregate : Opening → AggKind → List Element → Option Guard → Continuation
AfterAggregate opening which elements g ts c = AfterItem opening.head (with_aggregate opening which elements g) ts c

-- a right guard of an aggregate, and what follows it
abbrev pub Guarded : Opening → AggKind → List Element → Continuation
Guarded opening which elements ts c =
    (op : CompareOp) × (r : List Terminal) × (ts ≡ terminal.Compare op ∷ r)
    × Fresh (λ y. AfterAggregate opening which elements (Some (guard_of op y))) r c

-- an aggregate ends without a right guard, where it has a left one
abbrev pub Unguarded : Option Guard → Opening → AggKind → List Element → Continuation
Unguarded None opening which elements ts c = ⊥
Unguarded (Some g) opening which elements ts c = AfterAggregate opening which elements None ts c

-- after the `}` of an aggregate
abbrev pub AfterFunction : Opening → AggKind → List Element → Continuation
AfterFunction opening which elements ts c = Guarded opening which elements ts c ⊎ Unguarded opening.left opening which elements ts c

-- elements of an aggregate up to its `}`, and what follows it
abbrev pub ElementsDue : Opening → AggKind → List Element → Continuation
ElementsDue opening which elements ts c =
    (r : List Terminal) × (more : List Element) × AreElements ts (terminal.CloseBrace ∷ r) more × AfterFunction opening which (elements ++ more) r c

-- after an element of an aggregate: `}`, or `;` and more elements
abbrev pub AfterTuple : Opening → AggKind → List Element → Element → Continuation
AfterTuple opening which elements e ts c =
    ((r : List Terminal) × (ts ≡ terminal.CloseBrace ∷ r) × AfterFunction opening which (elements ++ e ∷ []) r c)
    ⊎ ((r : List Terminal) × (ts ≡ terminal.Semicolon ∷ r) × ElementsDue opening which (elements ++ e ∷ []) r c)

-- after the `{` of an aggregate
abbrev pub OpenedElements : Opening → AggKind → Continuation
OpenedElements opening which ts c =
    ((r : List Terminal) × (ts ≡ terminal.CloseBrace ∷ r) × AfterFunction opening which [] r c)
    ⊎ ElementsDue opening which [] ts c

-- after `#count` or `#sum`
abbrev pub AfterKind : Opening → AggKind → Continuation
AfterKind opening which ts c = (r : List Terminal) × (ts ≡ terminal.OpenBrace ∷ r) × OpenedElements opening which r c

-- `#count` or `#sum`, and what follows it
abbrev pub AtFunction : Opening → Continuation
AtFunction opening ts c = (t : Terminal) × (which : AggKind) × (r : List Terminal) × (ts ≡ t ∷ r) × IsKindSign t which × AfterKind opening which r c

-- the term after a comparison, where no `not` stands before
abbrev pub SecondTerm : Bool → Head → List Item → CompareOp → Term → Continuation
SecondTerm true h items op x ts c = ⊥
SecondTerm false h items op x ts c = Fresh (λ y. AfterItem h (items ++ item.Plain (literal.Compare op x y) ∷ [])) ts c

-- after a term and a comparison in a body: a term, or an aggregate
abbrev pub Compared : Bool → Head → List Item → CompareOp → Term → Continuation
Compared denied h items op x ts c = SecondTerm denied h items op x ts c ⊎ AtFunction (opening_of h items denied (Some (guard_of op x))) ts c

-- behind what a condition belongs to, and the condition
abbrev pub AfterOwner : Owner → List Literal → Continuation
AfterOwner (Chosen left elements atom) literals ts c = AfterElement left elements (element_of atom literals) ts c
AfterOwner (Tuple opening which elements terms) literals ts c = AfterTuple opening which elements (tuple_of terms literals) ts c

-- literals of a condition, and what follows them
abbrev pub NafsDue : Owner → List Literal → Continuation
NafsDue owner literals ts c = (r : List Terminal) × (more : List Literal) × AreNafs ts r more × AfterOwner owner (literals ++ more) r c

-- after a literal of a condition: the end of the condition, or a comma and more literals
abbrev pub AfterCondition : Owner → List Literal → Continuation
AfterCondition owner literals ts c =
    AfterOwner owner literals ts c
    ⊎ ((r : List Terminal) × (ts ≡ terminal.Comma ∷ r) × NafsDue owner literals r c)

-- behind what a condition may belong to
abbrev pub AfterOwned : Owner → Continuation
AfterOwned owner ts c = (r : List Terminal) × (literals : List Literal) × IsCondition ts r literals × AfterOwner owner literals r c

-- after the `:` of a condition
abbrev pub AfterColon : Owner → Continuation
AfterColon owner ts c = AfterOwner owner [] ts c ⊎ NafsDue owner [] ts c

-- after the `{` of a choice
abbrev pub OpenedBrace : Option Guard → Continuation
OpenedBrace left ts c = ((r : List Terminal) × (ts ≡ terminal.CloseBrace ∷ r) × AfterBraces left [] r c) ⊎ ChoicesDue left [] ts c

-- the `{` of a choice, and what follows it
abbrev pub AtBrace : Option Guard → Continuation
AtBrace left ts c = (r : List Terminal) × (ts ≡ terminal.OpenBrace ∷ r) × OpenedBrace left r c

-- after a whole literal
abbrev pub AfterLiteral : LiteralRole → Atom → Continuation
AfterLiteral AsHead atom ts c = HeadRead (head.Single atom) ts c
AfterLiteral (AsDenied h items) atom ts c = AfterItem h (items ++ item.Plain (literal.Negative atom) ∷ []) ts c
AfterLiteral (AsItem h items) atom ts c = AfterItem h (items ++ item.Plain (literal.Positive atom) ∷ []) ts c
AfterLiteral (AsChosen left elements) atom ts c = AfterOwned (Chosen left elements atom) ts c
AfterLiteral (InCondition owner literals) atom ts c = AfterCondition owner (literals ++ literal.Positive atom ∷ []) ts c
AfterLiteral (DeniedInCondition owner literals) atom ts c = AfterCondition owner (literals ++ literal.Negative atom ∷ []) ts c

-- after a whole term that is no part of another
abbrev pub AfterWholeTerm : TermRole → Term → Continuation
AfterWholeTerm (BodyLeft denied h items) x ts c =
    (op : CompareOp) × (r : List Terminal) × (ts ≡ terminal.Compare op ∷ r) × Compared denied h items op x r c
AfterWholeTerm (BodyRight h items op x) y ts c = AfterItem h (items ++ item.Plain (literal.Compare op x y) ∷ []) ts c
AfterWholeTerm HeadLeft x ts c =
    ((op : CompareOp) × (r : List Terminal) × (ts ≡ terminal.Compare op ∷ r) × AtBrace (Some (guard_of op x)) r c)
    ⊎ AtBrace (Some (guard_of LessEqual x)) ts c
AfterWholeTerm (HeadRight left elements op) x ts c = HeadRead (head.Choice left elements (Some (guard_of op x))) ts c
AfterWholeTerm (ConditionLeft owner literals) x ts c =
    (op : CompareOp) × (r s : List Terminal) × (y : Term) × (ts ≡ terminal.Compare op ∷ r) × IsTerm r s y
    × AfterCondition owner (literals ++ literal.Compare op x y ∷ []) s c
AfterWholeTerm (ConditionRight owner literals op x) y ts c = AfterCondition owner (literals ++ literal.Compare op x y ∷ []) ts c
AfterWholeTerm (GuardRight opening which elements op) y ts c = AfterAggregate opening which elements (Some (guard_of op y)) ts c

-- x is the first of terms, after which the others follow, `)` and r
abbrev pub Others : Term → List Terminal → List Terminal → List Term → Type 0
Others x ts r arguments =
    ((ts ≡ terminal.Close ∷ r) × (arguments ≡ x ∷ []))
    ⊎ ((q : List Terminal) × (ys : List Term) × (ts ≡ terminal.Comma ∷ q) × AreTerms q (terminal.Close ∷ r) ys × (arguments ≡ x ∷ ys))

-- x is the first of terms, after which the others follow and r
abbrev pub Tail : Term → List Terminal → List Terminal → List Term → Type 0
Tail x ts r terms =
    ((ts ≡ r) × (terms ≡ x ∷ []))
    ⊎ ((q : List Terminal) × (ys : List Term) × (ts ≡ terminal.Comma ∷ q) × AreTerms q r ys × (terms ≡ x ∷ ys))

-- x is the next of terms, the others follow, and what they are goes on as Q says
abbrev pub InTuple : (List Term → Continuation) → List Term → Term → Continuation
InTuple Q front x ts c = (r : List Terminal) × (ys : List Term) × Tail x ts r ys × Q (front ++ ys) r c

-- after the terms of a tuple
abbrev pub TupleRead : Opening → AggKind → List Element → List Term → Continuation
TupleRead opening which elements terms ts c = AfterOwned (Tuple opening which elements terms) ts c

-- the name and arguments of a literal, read as the first operand of a term, where a term may stand
abbrev pub TermPart : Option TermRole → Bool → List ℕ → List Term → Continuation
TermPart None negated name arguments ts c = ⊥
TermPart (Some role) negated name arguments ts c = Chain (AfterWholeTerm role) Nothing (signed negated (call_term name arguments)) ts c

-- after the name and arguments of a literal: it is one, or the first operand of a term
abbrev pub AfterArguments : LiteralRole → Bool → List ℕ → List Term → Continuation
AfterArguments role negated name arguments ts c =
    AfterLiteral role (atom_of negated name arguments) ts c
    ⊎ TermPart (term_role role) negated name arguments ts c

-- after a whole term: what the open parentheses still want, the innermost first
abbrev pub AfterTerm : List Frame → Purpose → Term → Continuation
AfterTerm [] (ForTerm role) x ts c = AfterWholeTerm role x ts c
AfterTerm [] (ForArguments role negated name arguments) x ts c =
    (r : List Terminal) × (ys : List Term) × Others x ts r ys × AfterArguments role negated name (arguments ++ ys) r c
AfterTerm [] (ForTuple opening which elements terms) x ts c = InTuple (TupleRead opening which elements) terms x ts c
AfterTerm (Group sum product signs ∷ frames) purpose x ts c =
    (r : List Terminal) × (ts ≡ terminal.Close ∷ r) × Chain (AfterTerm frames purpose) sum (join product (minuses signs x)) r c
AfterTerm (Call sum product signs name arguments ∷ frames) purpose x ts c =
    (r : List Terminal) × (ys : List Term) × Others x ts r ys
    × Chain (AfterTerm frames purpose) sum (join product (minuses signs (call_term name (arguments ++ ys)))) r c

-- x is the next of arguments, the others and `)` follow, and what they are goes on as Q says
abbrev pub InArguments : (List Term → Continuation) → List Term → Term → Continuation
InArguments Q front x ts c = (r : List Terminal) × (ys : List Term) × Others x ts r ys × Q (front ++ ys) r c

-- after a name: maybe arguments, and what they are goes on as Q says
abbrev pub Named : (List Term → Continuation) → Continuation
Named Q ts c = (r : List Terminal) × (arguments : List Term) × AreArguments ts r arguments × Q arguments r c

-- after a name and `(`: arguments and `)`, and what they are goes on as Q says
abbrev pub Opened : (List Term → Continuation) → Continuation
Opened Q ts c = ((r : List Terminal) × (ts ≡ terminal.Close ∷ r) × Q [] r c) ⊎ Fresh (InArguments Q []) ts c

-- after the arguments of a name in a term
abbrev pub CallRead : Pending → Pending → ℕ → List Frame → Purpose → List ℕ → List Term → Continuation
CallRead sum product signs frames purpose name ys r c = Chain (AfterTerm frames purpose) sum (join product (minuses signs (call_term name ys))) r c

-- so many minus signs before the tokens
abbrev pub under : ℕ → List Terminal → List Terminal
under zero ts = ts
under (suc signs) ts = terminal.Minus ∷ under signs ts

-- after so many minus signs of an operand, which are read together with it
abbrev pub AtOperand : Pending → Pending → ℕ → List Frame → Purpose → Continuation
AtOperand sum product signs frames purpose ts c =
    (x : Term) × (r : List Terminal) × IsUnary (under signs ts) r x × Chain (AfterTerm frames purpose) sum (join product x) r c

-- after so many minus signs of a term, where a term may stand
abbrev pub TermBegins : Option TermRole → ℕ → Continuation
TermBegins None signs ts c = ⊥
TermBegins (Some role) signs ts c = AtOperand Nothing Nothing signs [] (ForTerm role) ts c

-- a literal begins
abbrev pub LiteralBegins : LiteralRole → Continuation
LiteralBegins role ts c = (atom : Atom) × (r : List Terminal) × IsLiteral ts r atom × AfterLiteral role atom r c

-- a literal or a term begins
abbrev pub Begins : LiteralRole → Continuation
Begins role ts c = LiteralBegins role ts c ⊎ TermBegins (term_role role) 0 ts c

-- an element of an aggregate begins
abbrev pub ElementBegins : Opening → AggKind → List Element → Continuation
ElementBegins opening which elements ts c =
    ((r : List Terminal) × (ts ≡ terminal.Colon ∷ r) × AfterColon (Tuple opening which elements []) r c)
    ⊎ Fresh (InTuple (TupleRead opening which elements) []) ts c

-- a literal begins, or what may stand in its place
abbrev pub Due : LiteralRole → Continuation
Due (AsItem h items) ts c = (more : List Item) × IsBody ts (terminal.Dot ∷ []) more × (c ≡ clause_of h (items ++ more))
Due (AsDenied h items) ts c = Begins (AsDenied h items) ts c ⊎ AtFunction (opening_of h items true None) ts c
Due (InCondition owner literals) ts c = NafsDue owner literals ts c
Due (AsChosen left elements) ts c = ChoicesDue left elements ts c
Due role ts c = Begins role ts c

-- The tokens lead from the state to the statement.
abbrev pub Leads : State → Continuation
Leads Starting ts c = IsClause ts c
Leads (BodyOpened h) ts c = InBody h ts c
Leads (BraceDue left) ts c = AtBrace left ts c
Leads (BraceOpened left) ts c = OpenedBrace left ts c
Leads (BraceClosed left elements) ts c = AfterBraces left elements ts c
Leads (CompareRead denied h items op x) ts c = Compared denied h items op x ts c
Leads (KindRead opening which) ts c = AfterKind opening which ts c
Leads (ElementsOpened opening which) ts c = OpenedElements opening which ts c
Leads (ElementDue opening which elements) ts c = ElementsDue opening which elements ts c
Leads (FunctionClosed opening which elements) ts c = AfterFunction opening which elements ts c
Leads (ConditionOpened owner) ts c = AfterColon owner ts c
Leads (LiteralDue role) ts c = Due role ts c
Leads (SignRead role) ts c = Begins role (terminal.Minus ∷ ts) c
Leads (NameRead role negated name) ts c = Named (AfterArguments role negated name) ts c
Leads (ArgumentsOpened role negated name) ts c = Opened (AfterArguments role negated name) ts c
Leads (ArgumentsRead role negated name arguments) ts c = AfterArguments role negated name arguments ts c
Leads (OperandDue sum product signs frames purpose) ts c = AtOperand sum product signs frames purpose ts c
Leads (SymbolRead sum product signs frames purpose name) ts c = Named (CallRead sum product signs frames purpose name) ts c
Leads (CallOpened sum product signs frames purpose name) ts c = Opened (CallRead sum product signs frames purpose name) ts c
Leads (OperandRead sum x frames purpose) ts c = Chain (AfterTerm frames purpose) sum x ts c
Leads (Ended h items) ts c = (ts ≡ []) × (clause_of h items ≡ c)
