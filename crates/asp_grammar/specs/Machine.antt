-- The machine that reads one statement: what one token does in each state.
--
-- A token that may not stand there has no next state. What is still open stands in the state, so the machine needs no recursion.
use Rattle.std.specs.Prelude.{ℕ, zero, suc, pos, ◌-ℤ◌, Bool, true, false, List, [], ◌∷◌, ◌++◌, Option, Some, None}
use Rattle.asp_syntax.specs.declared.tree.CompareOp.{CompareOp}
use Rattle.alpha_outside.specs.declared.kinds.ArithOp.TheVariants.{Add, Sub, Mul, Div}
use Rattle.asp_syntax.specs.declared.tree.Term.{Term}
use Rattle.asp_syntax.specs.declared.tree.Term.TheVariants as term
use Rattle.asp_syntax.specs.declared.tree.Atom.{Atom}
use Rattle.asp_syntax.specs.declared.tree.Literal.{Literal}
use Rattle.asp_syntax.specs.declared.tree.Literal.TheVariants as literal
use Rattle.asp_syntax.specs.declared.tree.Item.{Item}
use Rattle.asp_syntax.specs.declared.tree.Item.TheVariants as item
use Rattle.asp_syntax.specs.declared.tree.ChoiceElement.{ChoiceElement}
use Rattle.asp_syntax.specs.declared.tree.Guard.{Guard}
use Rattle.asp_syntax.specs.declared.tree.Element.{Element}
use Rattle.asp_syntax.specs.declared.tree.Aggregate.{Aggregate}
use Rattle.asp_syntax.specs.declared.tree.AggKind.{AggKind}
use Rattle.asp_syntax.specs.declared.tree.AggKind.TheVariants as kind
use Rattle.asp_syntax.specs.declared.tree.CompareOp.TheVariants.{LessEqual}
use Rattle.asp_syntax.specs.declared.tree.Head.{Head}
use Rattle.asp_syntax.specs.declared.tree.Head.TheVariants as head
use Rattle.asp_grammar.specs.declared.state.Pending.{Pending}
use Rattle.asp_grammar.specs.declared.state.Pending.TheVariants.{Nothing, Waiting}
use Rattle.asp_grammar.specs.declared.state.Opening.{Opening}
use Rattle.asp_grammar.specs.declared.state.Owner.{Owner}
use Rattle.asp_grammar.specs.declared.state.Owner.TheVariants.{Chosen, Tuple}
use Rattle.asp_grammar.specs.declared.state.LiteralRole.{LiteralRole}
use Rattle.asp_grammar.specs.declared.state.LiteralRole.TheVariants.{AsHead, AsDenied, AsItem, AsChosen, InCondition, DeniedInCondition}
use Rattle.asp_grammar.specs.declared.state.TermRole.{TermRole}
use Rattle.asp_grammar.specs.declared.state.TermRole.TheVariants.{BodyLeft, BodyRight, HeadLeft, HeadRight, ConditionLeft, ConditionRight, GuardRight}
use Rattle.asp_grammar.specs.declared.state.Frame.{Frame}
use Rattle.asp_grammar.specs.declared.state.Frame.TheVariants.{Group, Call}
use Rattle.asp_grammar.specs.declared.state.Purpose.{Purpose}
use Rattle.asp_grammar.specs.declared.state.Purpose.TheVariants.{ForTerm, ForArguments, ForTuple}
use Rattle.asp_grammar.specs.declared.state.State.{State}
use Rattle.asp_grammar.specs.declared.state.State.TheVariants.{Starting, BodyOpened, BraceDue, BraceOpened, BraceClosed, CompareRead, KindRead, ElementsOpened, ElementDue, FunctionClosed, ConditionOpened, LiteralDue, SignRead, NameRead, ArgumentsOpened, ArgumentsRead, OperandDue, SymbolRead, CallOpened, OperandRead, Ended}
use Rattle.asp_grammar.specs.Terminals.{Terminal}
use Rattle.asp_grammar.specs.Terminals as terminal
use Rattle.asp_grammar.specs.Grammar.{Clause}

-- ---- the trees that the machine makes

-- an operand at the right of what waits for it
abbrev pub join : Pending → Term → Term
join Nothing right = right
join (Waiting op left) right = term.Arith op left right

-- the term under so many minus signs
abbrev pub minuses : ℕ → Term → Term
minuses zero x = x
minuses (suc count) x = term.Minus (minuses count x)

-- a number under so many minus signs: the last of them belongs to the integer
abbrev pub numbered : ℕ → ℕ → Term
numbered zero number = term.Int (pos number)
numbered (suc count) number = minuses count (term.Int (pos 0 -ℤ pos number))

-- a name with its arguments, as a term: without arguments it is a symbol
abbrev pub call_term : List ℕ → List Term → Term
call_term name [] = term.Symbol name
call_term name (x ∷ arguments) = term.Fun name (x ∷ arguments)

-- the term, under a minus sign where one stands before it
abbrev pub signed : Bool → Term → Term
signed false x = x
signed true x = term.Minus x

-- the atom of a literal, from its parts
abbrev pub atom_of : Bool → List ℕ → List Term → Atom
atom_of negated name arguments = record { negated = negated; name = name; args = arguments }

-- a statement, from its parts
abbrev pub clause_of : Head → List Item → Clause
clause_of h items = record { head = h; body = items }

-- a bound, from its parts
abbrev pub guard_of : CompareOp → Term → Guard
guard_of op x = record { op = op; term = x }

-- an element of a choice, from its parts
abbrev pub element_of : Atom → List Literal → ChoiceElement
element_of atom literals = record { atom = atom; condition = literals }

-- an element of an aggregate, from its parts
abbrev pub tuple_of : List Term → List Literal → Element
tuple_of terms literals = record { terms = terms; condition = literals }

-- what stands before `#count` or `#sum`, from its parts
abbrev pub opening_of : Head → List Item → Bool → Option Guard → Opening
opening_of h items denied left = record { head = h; items = items; denied = denied; left = left }

-- the aggregate after what stands before it, with its right guard
abbrev pub aggregate_of : Opening → AggKind → List Element → Option Guard → Aggregate
aggregate_of opening which elements g = record { kind = which; elements = elements; left = opening.left; right = g }

-- the items, and the aggregate after them
abbrev pub with_aggregate : Opening → AggKind → List Element → Option Guard → List Item
with_aggregate opening which elements g = opening.items ++ item.Aggregate opening.denied (aggregate_of opening which elements g) ∷ []

-- ---- roles

-- what a term is read as, where a term may stand as well as the literal
abbrev pub term_role : LiteralRole → Option TermRole
term_role AsHead = Some HeadLeft
term_role (AsDenied h items) = Some (BodyLeft true h items)
term_role (AsItem h items) = Some (BodyLeft false h items)
term_role (AsChosen left elements) = None
term_role (InCondition owner literals) = Some (ConditionLeft owner literals)
term_role (DeniedInCondition owner literals) = None

-- a term begins
abbrev pub fresh_term : List Frame → Purpose → State
fresh_term frames purpose = OperandDue Nothing Nothing 0 frames purpose

-- ---- items, heads and conditions

-- after an item
abbrev pub item_next : Head → List Item → Terminal → Option State
item_next h items terminal.Comma = Some (LiteralDue (AsItem h items))
item_next h items terminal.Dot = Some (Ended h items)
item_next h items _ = None

-- after a head
abbrev pub head_next : Head → Terminal → Option State
head_next h terminal.Dot = Some (Ended h [])
head_next h terminal.If = Some (BodyOpened h)
head_next h _ = None

-- after the `;` behind what a condition belongs to, and the condition
abbrev pub owner_more : Owner → List Literal → State
owner_more (Chosen left elements atom) literals = LiteralDue (AsChosen left (elements ++ element_of atom literals ∷ []))
owner_more (Tuple opening which elements terms) literals = ElementDue opening which (elements ++ tuple_of terms literals ∷ [])

-- after the `}` behind what a condition belongs to, and the condition
abbrev pub owner_closed : Owner → List Literal → State
owner_closed (Chosen left elements atom) literals = BraceClosed left (elements ++ element_of atom literals ∷ [])
owner_closed (Tuple opening which elements terms) literals = FunctionClosed opening which (elements ++ tuple_of terms literals ∷ [])

-- behind what a condition belongs to, and the condition
abbrev pub owner_next : Owner → List Literal → Terminal → Option State
owner_next owner literals terminal.Semicolon = Some (owner_more owner literals)
owner_next owner literals terminal.CloseBrace = Some (owner_closed owner literals)
owner_next owner literals _ = None

-- after a literal of a condition
abbrev pub condition_next : Owner → List Literal → Terminal → Option State
condition_next owner literals terminal.Comma = Some (LiteralDue (InCondition owner literals))
condition_next owner literals t = owner_next owner literals t

-- behind what a condition may belong to
abbrev pub owned_next : Owner → Terminal → Option State
owned_next owner terminal.Colon = Some (ConditionOpened owner)
owned_next owner t = owner_next owner [] t

-- ---- terms

-- where an operand must begin, after so many minus signs
abbrev pub operand : Pending → Pending → ℕ → List Frame → Purpose → Terminal → Option State
operand sum product signs frames purpose terminal.Minus = Some (OperandDue sum product (suc signs) frames purpose)
operand sum product signs frames purpose terminal.Open = Some (fresh_term (Group sum product signs ∷ frames) purpose)
operand sum product signs frames purpose (terminal.Id name) = Some (SymbolRead sum product signs frames purpose name)
operand sum product signs frames purpose (terminal.Number number) =
    Some (OperandRead sum (join product (numbered signs number)) frames purpose)
operand sum product signs frames purpose (terminal.Text bytes) =
    Some (OperandRead sum (join product (minuses signs (term.Text bytes))) frames purpose)
operand sum product signs frames purpose (terminal.Variable name) =
    Some (OperandRead sum (join product (minuses signs (term.Variable name))) frames purpose)
operand sum product signs frames purpose (terminal.Anonymous number) =
    Some (OperandRead sum (join product (minuses signs (term.Anonymous number))) frames purpose)
operand sum product signs frames purpose _ = None

-- after a whole term that is no part of another
abbrev pub whole_term_next : TermRole → Term → Terminal → Option State
whole_term_next (BodyLeft denied h items) x (terminal.Compare op) = Some (CompareRead denied h items op x)
whole_term_next (BodyLeft denied h items) x _ = None
whole_term_next HeadLeft x (terminal.Compare op) = Some (BraceDue (Some (guard_of op x)))
whole_term_next HeadLeft x terminal.OpenBrace = Some (BraceOpened (Some (guard_of LessEqual x)))
whole_term_next HeadLeft x _ = None
whole_term_next (HeadRight left elements op) x t = head_next (head.Choice left elements (Some (guard_of op x))) t
whole_term_next (ConditionLeft owner literals) x (terminal.Compare op) = Some (fresh_term [] (ForTerm (ConditionRight owner literals op x)))
whole_term_next (ConditionLeft owner literals) x _ = None
whole_term_next (ConditionRight owner literals op x) y t = condition_next owner (literals ++ literal.Compare op x y ∷ []) t
whole_term_next (GuardRight opening which elements op) x t =
    item_next opening.head (with_aggregate opening which elements (Some (guard_of op x))) t
whole_term_next (BodyRight h items op x) y t = item_next h (items ++ item.Plain (literal.Compare op x y) ∷ []) t

-- after a whole term: an open parenthesis may end, or its arguments go on
abbrev pub term_next : List Frame → Purpose → Term → Terminal → Option State
term_next (Group sum product signs ∷ frames) purpose x terminal.Close =
    Some (OperandRead sum (join product (minuses signs x)) frames purpose)
term_next (Group sum product signs ∷ frames) purpose x _ = None
term_next (Call sum product signs name arguments ∷ frames) purpose x terminal.Close =
    Some (OperandRead sum (join product (minuses signs (call_term name (arguments ++ x ∷ [])))) frames purpose)
term_next (Call sum product signs name arguments ∷ frames) purpose x terminal.Comma =
    Some (fresh_term (Call sum product signs name (arguments ++ x ∷ []) ∷ frames) purpose)
term_next (Call sum product signs name arguments ∷ frames) purpose x _ = None
term_next [] (ForArguments role negated name arguments) x terminal.Close = Some (ArgumentsRead role negated name (arguments ++ x ∷ []))
term_next [] (ForArguments role negated name arguments) x terminal.Comma =
    Some (fresh_term [] (ForArguments role negated name (arguments ++ x ∷ [])))
term_next [] (ForArguments role negated name arguments) x _ = None
term_next [] (ForTuple opening which elements terms) x terminal.Comma =
    Some (fresh_term [] (ForTuple opening which elements (terms ++ x ∷ [])))
term_next [] (ForTuple opening which elements terms) x t = owned_next (Tuple opening which elements (terms ++ x ∷ [])) t
term_next [] (ForTerm role) x t = whole_term_next role x t

-- after an operand, where `sum` waits for the product so far
abbrev pub operand_next : Pending → Term → List Frame → Purpose → Terminal → Option State
operand_next sum x frames purpose terminal.Star = Some (OperandDue sum (Waiting Mul x) 0 frames purpose)
operand_next sum x frames purpose terminal.Slash = Some (OperandDue sum (Waiting Div x) 0 frames purpose)
operand_next sum x frames purpose terminal.Plus = Some (OperandDue (Waiting Add (join sum x)) Nothing 0 frames purpose)
operand_next sum x frames purpose terminal.Minus = Some (OperandDue (Waiting Sub (join sum x)) Nothing 0 frames purpose)
operand_next sum x frames purpose t = term_next frames purpose (join sum x) t

-- after a name in a term
abbrev pub symbol_next : Pending → Pending → ℕ → List Frame → Purpose → List ℕ → Terminal → Option State
symbol_next sum product signs frames purpose name terminal.Open = Some (CallOpened sum product signs frames purpose name)
symbol_next sum product signs frames purpose name t = operand_next sum (join product (minuses signs (term.Symbol name))) frames purpose t

-- after a name and `(` in a term
abbrev pub call_next : Pending → Pending → ℕ → List Frame → Purpose → List ℕ → Terminal → Option State
call_next sum product signs frames purpose name terminal.Close =
    Some (OperandRead sum (join product (minuses signs (term.Symbol name))) frames purpose)
call_next sum product signs frames purpose name t = operand Nothing Nothing 0 (Call sum product signs name [] ∷ frames) purpose t

-- ---- literals

-- after a whole literal
abbrev pub literal_next : LiteralRole → Atom → Terminal → Option State
literal_next AsHead atom t = head_next (head.Single atom) t
literal_next (AsChosen left elements) atom t = owned_next (Chosen left elements atom) t
literal_next (InCondition owner literals) atom t = condition_next owner (literals ++ literal.Positive atom ∷ []) t
literal_next (DeniedInCondition owner literals) atom t = condition_next owner (literals ++ literal.Negative atom ∷ []) t
literal_next (AsDenied h items) atom t = item_next h (items ++ item.Plain (literal.Negative atom) ∷ []) t
literal_next (AsItem h items) atom t = item_next h (items ++ item.Plain (literal.Positive atom) ∷ []) t

-- the first that is there
abbrev pub or_else : Option State → Option State → Option State
or_else None other = other
or_else (Some state) other = Some state

-- the name and arguments of a literal read as the first operand of a term, where a term may stand
abbrev pub term_part : Option TermRole → Bool → List ℕ → List Term → Terminal → Option State
term_part None negated name arguments t = None
term_part (Some role) negated name arguments t = operand_next Nothing (signed negated (call_term name arguments)) [] (ForTerm role) t

-- after the name and arguments of a literal, which a comparison or an operator makes a term
abbrev pub arguments_next : LiteralRole → Bool → List ℕ → List Term → Terminal → Option State
arguments_next role negated name arguments t =
    or_else (literal_next role (atom_of negated name arguments) t) (term_part (term_role role) negated name arguments t)

-- after the name of a literal
abbrev pub name_next : LiteralRole → Bool → List ℕ → Terminal → Option State
name_next role negated name terminal.Open = Some (ArgumentsOpened role negated name)
name_next role negated name t = arguments_next role negated name [] t

-- after the name of a literal and `(`
abbrev pub opened_next : LiteralRole → Bool → List ℕ → Terminal → Option State
opened_next role negated name terminal.Close = Some (ArgumentsRead role negated name [])
opened_next role negated name t = operand Nothing Nothing 0 [] (ForArguments role negated name []) t

-- ---- where a literal or a term begins

-- where a term may begin, after so many minus signs
abbrev pub term_begins : Option TermRole → ℕ → Terminal → Option State
term_begins None signs t = None
term_begins (Some role) signs t = operand Nothing Nothing signs [] (ForTerm role) t

-- after the `-` with which a literal or a term begins
abbrev pub sign_next : LiteralRole → Terminal → Option State
sign_next role (terminal.Id name) = Some (NameRead role true name)
sign_next role t = term_begins (term_role role) 1 t

-- where a literal or a term must begin
abbrev pub begin_next : LiteralRole → Terminal → Option State
begin_next role (terminal.Id name) = Some (NameRead role false name)
begin_next role terminal.Minus = Some (SignRead role)
begin_next role t = term_begins (term_role role) 0 t

-- where a literal must begin, or what may stand in its place
abbrev pub due_next : LiteralRole → Terminal → Option State
due_next (AsItem h items) terminal.Not = Some (LiteralDue (AsDenied h items))
due_next (AsItem h items) terminal.Count = Some (KindRead (opening_of h items false None) kind.Count)
due_next (AsItem h items) terminal.Sum = Some (KindRead (opening_of h items false None) kind.Sum)
due_next (AsDenied h items) terminal.Count = Some (KindRead (opening_of h items true None) kind.Count)
due_next (AsDenied h items) terminal.Sum = Some (KindRead (opening_of h items true None) kind.Sum)
due_next (InCondition owner literals) terminal.Not = Some (LiteralDue (DeniedInCondition owner literals))
due_next role t = begin_next role t

-- after `:-`
abbrev pub body_next : Head → Terminal → Option State
body_next h terminal.Dot = Some (Ended h [])
body_next h t = due_next (AsItem h []) t

-- at the first token of a statement
abbrev pub start_next : Terminal → Option State
start_next terminal.If = Some (BodyOpened head.Absent)
start_next terminal.OpenBrace = Some (BraceOpened None)
start_next t = begin_next AsHead t

-- ---- choices

-- after a term and a comparison in a head
abbrev pub brace_due_next : Option Guard → Terminal → Option State
brace_due_next left terminal.OpenBrace = Some (BraceOpened left)
brace_due_next left _ = None

-- after the `{` of a choice
abbrev pub brace_opened_next : Option Guard → Terminal → Option State
brace_opened_next left terminal.CloseBrace = Some (BraceClosed left [])
brace_opened_next left t = due_next (AsChosen left []) t

-- after the `}` of a choice
abbrev pub brace_closed_next : Option Guard → List ChoiceElement → Terminal → Option State
brace_closed_next left elements (terminal.Compare op) = Some (fresh_term [] (ForTerm (HeadRight left elements op)))
brace_closed_next left elements terminal.Dot = head_next (head.Choice left elements None) terminal.Dot
brace_closed_next left elements terminal.If = head_next (head.Choice left elements None) terminal.If
brace_closed_next left elements t = operand Nothing Nothing 0 [] (ForTerm (HeadRight left elements LessEqual)) t

-- ---- aggregates

-- the term after a comparison, where no `not` stands before
abbrev pub second_next : Bool → Head → List Item → CompareOp → Term → Terminal → Option State
second_next true h items op x t = None
second_next false h items op x t = operand Nothing Nothing 0 [] (ForTerm (BodyRight h items op x)) t

-- after a term and a comparison in a body
abbrev pub compare_next : Bool → Head → List Item → CompareOp → Term → Terminal → Option State
compare_next denied h items op x terminal.Count = Some (KindRead (opening_of h items denied (Some (guard_of op x))) kind.Count)
compare_next denied h items op x terminal.Sum = Some (KindRead (opening_of h items denied (Some (guard_of op x))) kind.Sum)
compare_next denied h items op x t = second_next denied h items op x t

-- after `#count` or `#sum`
abbrev pub kind_next : Opening → AggKind → Terminal → Option State
kind_next opening which terminal.OpenBrace = Some (ElementsOpened opening which)
kind_next opening which _ = None

-- where an element of an aggregate must begin
abbrev pub element_due_next : Opening → AggKind → List Element → Terminal → Option State
element_due_next opening which elements terminal.Colon = Some (ConditionOpened (Tuple opening which elements []))
element_due_next opening which elements t = operand Nothing Nothing 0 [] (ForTuple opening which elements []) t

-- after the `{` of an aggregate
abbrev pub elements_opened_next : Opening → AggKind → Terminal → Option State
elements_opened_next opening which terminal.CloseBrace = Some (FunctionClosed opening which [])
elements_opened_next opening which t = element_due_next opening which [] t

-- after an aggregate without a right guard, where it has a left one
abbrev pub unguarded_next : Option Guard → Opening → AggKind → List Element → Terminal → Option State
unguarded_next None opening which elements t = None
unguarded_next (Some g) opening which elements t = item_next opening.head (with_aggregate opening which elements None) t

-- after the `}` of an aggregate
abbrev pub function_closed_next : Opening → AggKind → List Element → Terminal → Option State
function_closed_next opening which elements (terminal.Compare op) = Some (fresh_term [] (ForTerm (GuardRight opening which elements op)))
function_closed_next opening which elements t = unguarded_next opening.left opening which elements t

-- ---- conditions

-- after the `:` of a condition
abbrev pub condition_opened_next : Owner → Terminal → Option State
condition_opened_next owner terminal.Semicolon = Some (owner_more owner [])
condition_opened_next owner terminal.CloseBrace = Some (owner_closed owner [])
condition_opened_next owner t = due_next (InCondition owner []) t

-- ---- every state

-- one token: the state after it, where it may stand there
abbrev pub step : State → Terminal → Option State
step Starting t = start_next t
step (BodyOpened h) t = body_next h t
step (BraceDue left) t = brace_due_next left t
step (BraceOpened left) t = brace_opened_next left t
step (BraceClosed left elements) t = brace_closed_next left elements t
step (CompareRead denied h items op x) t = compare_next denied h items op x t
step (KindRead opening which) t = kind_next opening which t
step (ElementsOpened opening which) t = elements_opened_next opening which t
step (ElementDue opening which elements) t = element_due_next opening which elements t
step (FunctionClosed opening which elements) t = function_closed_next opening which elements t
step (ConditionOpened owner) t = condition_opened_next owner t
step (LiteralDue role) t = due_next role t
step (SignRead role) t = sign_next role t
step (NameRead role negated name) t = name_next role negated name t
step (ArgumentsOpened role negated name) t = opened_next role negated name t
step (ArgumentsRead role negated name arguments) t = arguments_next role negated name arguments t
step (OperandDue sum product signs frames purpose) t = operand sum product signs frames purpose t
step (SymbolRead sum product signs frames purpose name) t = symbol_next sum product signs frames purpose name t
step (CallOpened sum product signs frames purpose name) t = call_next sum product signs frames purpose name t
step (OperandRead sum x frames purpose) t = operand_next sum x frames purpose t
step (Ended h items) t = None
