-- Which states have a pending sign: those where the last token is a unary minus.
use Rattle.std.proofs.Common.{◌≡◌, ℕ, zero, suc, Bool, true, false, not, ◌&&◌, List, [], ◌∷◌, ◌++◌, refl, sym, ap, subst, ◌∙◌}
use Rattle.std.specs.Prelude.{Option, Some, None}
use Rattle.asp_syntax.specs.declared.token.Token.{Token}
use Rattle.asp_syntax.specs.declared.token.Token.TheVariants as token
use Rattle.asp_syntax.specs.declared.token.Spanned.{Spanned}
use Rattle.asp_syntax.specs.declared.tree.CompareOp.{CompareOp}
use Rattle.asp_syntax.specs.declared.tree.CompareOp.TheVariants.{LessEqual}
use Rattle.asp_syntax.specs.declared.tree.Term.{Term}
use Rattle.asp_syntax.specs.declared.tree.Term.TheVariants as term
use Rattle.asp_syntax.specs.declared.tree.Atom.{Atom}
use Rattle.asp_syntax.specs.declared.tree.Literal.{Literal}
use Rattle.asp_syntax.specs.declared.tree.Literal.TheVariants as literal
use Rattle.asp_syntax.specs.declared.tree.Item.{Item}
use Rattle.asp_syntax.specs.declared.tree.Item.TheVariants as item
use Rattle.asp_syntax.specs.declared.tree.ChoiceElement.{ChoiceElement}
use Rattle.asp_syntax.specs.declared.tree.Element.{Element}
use Rattle.asp_syntax.specs.declared.tree.AggKind.{AggKind}
use Rattle.asp_syntax.specs.declared.tree.Guard.{Guard}
use Rattle.asp_syntax.specs.declared.tree.Head.{Head}
use Rattle.asp_syntax.specs.declared.tree.Head.TheVariants as head
use Rattle.asp_syntax.specs.declared.tree.Statement.{Statement}
use Rattle.asp_grammar.specs.declared.state.Pending.{Pending}
use Rattle.asp_grammar.specs.declared.state.Pending.TheVariants.{Nothing}
use Rattle.asp_grammar.specs.declared.state.Opening.{Opening}
use Rattle.asp_grammar.specs.declared.state.Owner.{Owner}
use Rattle.asp_grammar.specs.declared.state.Owner.TheVariants.{Chosen, Tuple}
use Rattle.asp_grammar.specs.declared.state.LiteralRole.{LiteralRole}
use Rattle.asp_grammar.specs.declared.state.LiteralRole.TheVariants.{AsHead, AsDenied, AsItem, AsChosen, InCondition, DeniedInCondition}
use Rattle.asp_grammar.specs.declared.state.TermRole.{TermRole}
use Rattle.asp_grammar.specs.declared.state.TermRole.TheVariants.{BodyLeft, BodyRight, HeadLeft, HeadRight, ConditionLeft, ConditionRight, GuardRight}
use Rattle.asp_grammar.specs.declared.state.Frame.{Frame}
use Rattle.asp_grammar.specs.declared.state.Frame.TheVariants.{Group, Call}
use Rattle.asp_grammar.specs.declared.state.Purpose.{Purpose}
use Rattle.asp_grammar.specs.declared.state.Purpose.TheVariants.{ForTerm, ForArguments, ForTuple}
use Rattle.asp_grammar.specs.declared.state.State.{State}
use Rattle.asp_grammar.specs.declared.state.State.TheVariants.{Starting, BodyOpened, BraceDue, BraceOpened, BraceClosed, CompareRead, KindRead, ElementsOpened, ElementDue, FunctionClosed, ConditionOpened, LiteralDue, SignRead, NameRead, ArgumentsOpened, ArgumentsRead, OperandDue, SymbolRead, CallOpened, OperandRead, Ended}
use Rattle.asp_grammar.specs.declared.state.Progress.{Progress}
use Rattle.asp_grammar.specs.declared.state.Progress.TheVariants as at
use Rattle.asp_grammar.specs.Terminals.{Terminal, terminal_of, anonymous_after}
use Rattle.asp_grammar.specs.Terminals as terminal
use Rattle.asp_grammar.specs.Machine.{join, minuses, call_term, signed, atom_of, term_role, operand, item_next, guard_of, with_aggregate, head_next, owner_next, condition_next, owned_next, whole_term_next, term_next, operand_next, symbol_next, call_next, literal_next, or_else, term_part, arguments_next, name_next, opened_next, term_begins, sign_next, begin_next, due_next, body_next, start_next, brace_due_next, brace_opened_next, condition_opened_next, brace_closed_next, second_next, compare_next, kind_next, element_due_next, elements_opened_next, unguarded_next, function_closed_next, step}
use Rattle.asp_grammar.specs.Reading.{settled, settle, advance_of}
use Rattle.asp_grammar.specs.UnaryMinus.{ends_operand, is_minus, ends_in_operand, ends_in_unary_minus}
use Rattle.asp_grammar.proofs.TermLemmas.{none_some, some_is}

-- the last token ended an operand
abbrev pub ended : State → Bool
ended (NameRead b negated n) = true
ended (ArgumentsRead b negated n xs) = true
ended (SymbolRead s m k K B n) = true
ended (OperandRead s x K B) = true
ended _ = false

-- the last token was a unary minus
abbrev pub pending : State → Bool
pending (SignRead b) = true
pending (OperandDue s m zero K B) = false
pending (OperandDue s m (suc k) K B) = true
pending _ = false

abbrev terminal_ends : Terminal → Bool
terminal_ends (terminal.Id n) = true
terminal_ends (terminal.Variable n) = true
terminal_ends (terminal.Anonymous n) = true
terminal_ends (terminal.Number n) = true
terminal_ends (terminal.Text n) = true
terminal_ends terminal.Close = true
terminal_ends _ = false

abbrev terminal_is_minus : Terminal → Bool
terminal_is_minus terminal.Minus = true
terminal_is_minus _ = false

-- The state after the token t, where b says whether an operand ended before it.
abbrev Marked : Bool → Terminal → State → Type 0
Marked b t s = (ended s ≡ terminal_ends t) × (pending s ≡ (terminal_is_minus t && not b))

mark : (b : Bool) (t : Terminal) {s s' : State} → Some s ≡ Some s' → Marked b t s → Marked b t s'
mark b t e m = subst (λ v. Marked b t v) (some_is e) m

operand_marks : (s m : Pending) (k : ℕ) (K : List Frame) (B : Purpose) (t : Terminal) (s' : State) → operand s m k K B t ≡ Some s' → Marked false t s'
operand_marks s m k K B terminal.Minus s' e = mark false terminal.Minus e (refl, refl)
operand_marks s m k K B terminal.Open s' e = mark false terminal.Open e (refl, refl)
operand_marks s m k K B (terminal.Id n) s' e = mark false (terminal.Id n) e (refl, refl)
operand_marks s m k K B (terminal.Number n) s' e = mark false (terminal.Number n) e (refl, refl)
operand_marks s m k K B (terminal.Text n) s' e = mark false (terminal.Text n) e (refl, refl)
operand_marks s m k K B (terminal.Variable n) s' e = mark false (terminal.Variable n) e (refl, refl)
operand_marks s m k K B (terminal.Anonymous n) s' e = mark false (terminal.Anonymous n) e (refl, refl)
operand_marks s m k K B _ s' e = absurd (none_some e)

item_marks : (b : Bool) (h : Head) (ls : List Item) (t : Terminal) (s' : State) → item_next h ls t ≡ Some s' → Marked b t s'
item_marks b h ls terminal.Comma s' e = mark b terminal.Comma e (refl, refl)
item_marks b h ls terminal.Dot s' e = mark b terminal.Dot e (refl, refl)
item_marks b h ls _ s' e = absurd (none_some e)

head_marks : (b : Bool) (h : Head) (t : Terminal) (s' : State) → head_next h t ≡ Some s' → Marked b t s'
head_marks b h terminal.Dot s' e = mark b terminal.Dot e (refl, refl)
head_marks b h terminal.If s' e = mark b terminal.If e (refl, refl)
head_marks b h _ s' e = absurd (none_some e)

owner_marks : (b : Bool) (w : Owner) (ls : List Literal) (t : Terminal) (s' : State) → owner_next w ls t ≡ Some s' → Marked b t s'
owner_marks b (Chosen l es a) ls terminal.Semicolon s' e = mark b terminal.Semicolon e (refl, refl)
owner_marks b (Chosen l es a) ls terminal.CloseBrace s' e = mark b terminal.CloseBrace e (refl, refl)
owner_marks b (Tuple o k es xs) ls terminal.Semicolon s' e = mark b terminal.Semicolon e (refl, refl)
owner_marks b (Tuple o k es xs) ls terminal.CloseBrace s' e = mark b terminal.CloseBrace e (refl, refl)
owner_marks b w ls _ s' e = absurd (none_some e)

condition_marks : (b : Bool) (w : Owner) (ls : List Literal) (t : Terminal) (s' : State) → condition_next w ls t ≡ Some s' → Marked b t s'
condition_marks b w ls terminal.Comma s' e = mark b terminal.Comma e (refl, refl)
condition_marks b w ls t s' e = owner_marks b w ls t s' e

owned_marks : (b : Bool) (w : Owner) (t : Terminal) (s' : State) → owned_next w t ≡ Some s' → Marked b t s'
owned_marks b w terminal.Colon s' e = mark b terminal.Colon e (refl, refl)
owned_marks b w t s' e = owner_marks b w [] t s' e

base_marks : (b : Bool) (q : TermRole) (x : Term) (t : Terminal) (s' : State) → whole_term_next q x t ≡ Some s' → Marked b t s'
base_marks b (BodyLeft denied h ls) x (terminal.Compare op) s' e = mark b (terminal.Compare op) e (refl, refl)
base_marks b (BodyLeft denied h ls) x _ s' e = absurd (none_some e)
base_marks b HeadLeft x (terminal.Compare op) s' e = mark b (terminal.Compare op) e (refl, refl)
base_marks b HeadLeft x terminal.OpenBrace s' e = mark b terminal.OpenBrace e (refl, refl)
base_marks b HeadLeft x _ s' e = absurd (none_some e)
base_marks b (HeadRight l es op) x t s' e = head_marks b (head.Choice l es (Some (guard_of op x))) t s' e
base_marks b (ConditionLeft w ls) x (terminal.Compare op) s' e = mark b (terminal.Compare op) e (refl, refl)
base_marks b (ConditionLeft w ls) x _ s' e = absurd (none_some e)
base_marks b (ConditionRight w ls op x) y t s' e = condition_marks b w (ls ++ literal.Compare op x y ∷ []) t s' e
base_marks b (GuardRight o k es op) x t s' e = item_marks b o.head (with_aggregate o k es (Some (guard_of op x))) t s' e
base_marks b (BodyRight h ls op x) y t s' e = item_marks b h (ls ++ item.Plain (literal.Compare op x y) ∷ []) t s' e

term_marks : (b : Bool) (K : List Frame) (B : Purpose) (x : Term) (t : Terminal) (s' : State) → term_next K B x t ≡ Some s' → Marked b t s'
term_marks b (Group s m k ∷ K) B x terminal.Close s' e = mark b terminal.Close e (refl, refl)
term_marks b (Group s m k ∷ K) B x _ s' e = absurd (none_some e)
term_marks b (Call s m k n xs ∷ K) B x terminal.Close s' e = mark b terminal.Close e (refl, refl)
term_marks b (Call s m k n xs ∷ K) B x terminal.Comma s' e = mark b terminal.Comma e (refl, refl)
term_marks b (Call s m k n xs ∷ K) B x _ s' e = absurd (none_some e)
term_marks b [] (ForArguments q negated n xs) x terminal.Close s' e = mark b terminal.Close e (refl, refl)
term_marks b [] (ForArguments q negated n xs) x terminal.Comma s' e = mark b terminal.Comma e (refl, refl)
term_marks b [] (ForArguments q negated n xs) x _ s' e = absurd (none_some e)
term_marks b [] (ForTuple o k es xs) x terminal.Comma s' e = mark b terminal.Comma e (refl, refl)
term_marks b [] (ForTuple o k es xs) x t s' e = owned_marks b (Tuple o k es (xs ++ x ∷ [])) t s' e
term_marks b [] (ForTerm q) x t s' e = base_marks b q x t s' e

operand_next_marks : (s : Pending) (x : Term) (K : List Frame) (B : Purpose) (t : Terminal) (s' : State) → operand_next s x K B t ≡ Some s' → Marked true t s'
operand_next_marks s x K B terminal.Star s' e = mark true terminal.Star e (refl, refl)
operand_next_marks s x K B terminal.Slash s' e = mark true terminal.Slash e (refl, refl)
operand_next_marks s x K B terminal.Plus s' e = mark true terminal.Plus e (refl, refl)
operand_next_marks s x K B terminal.Minus s' e = mark true terminal.Minus e (refl, refl)
operand_next_marks s x K B t s' e = term_marks true K B (join s x) t s' e

symbol_marks : (s m : Pending) (k : ℕ) (K : List Frame) (B : Purpose) (n : List ℕ) (t : Terminal) (s' : State) → symbol_next s m k K B n t ≡ Some s' → Marked true t s'
symbol_marks s m k K B n terminal.Open s' e = mark true terminal.Open e (refl, refl)
symbol_marks s m k K B n t s' e = operand_next_marks s (join m (minuses k (term.Symbol n))) K B t s' e

call_marks : (s m : Pending) (k : ℕ) (K : List Frame) (B : Purpose) (n : List ℕ) (t : Terminal) (s' : State) → call_next s m k K B n t ≡ Some s' → Marked false t s'
call_marks s m k K B n terminal.Close s' e = mark false terminal.Close e (refl, refl)
call_marks s m k K B n t s' e = operand_marks Nothing Nothing 0 (Call s m k n [] ∷ K) B t s' e

literal_marks : (b : Bool) (q : LiteralRole) (a : Atom) (t : Terminal) (s' : State) → literal_next q a t ≡ Some s' → Marked b t s'
literal_marks b AsHead a t s' e = head_marks b (head.Single a) t s' e
literal_marks b (AsChosen l es) a t s' e = owned_marks b (Chosen l es a) t s' e
literal_marks b (InCondition w ls) a t s' e = condition_marks b w (ls ++ literal.Positive a ∷ []) t s' e
literal_marks b (DeniedInCondition w ls) a t s' e = condition_marks b w (ls ++ literal.Negative a ∷ []) t s' e
literal_marks b (AsDenied h ls) a t s' e = item_marks b h (ls ++ item.Plain (literal.Negative a) ∷ []) t s' e
literal_marks b (AsItem h ls) a t s' e = item_marks b h (ls ++ item.Plain (literal.Positive a) ∷ []) t s' e

or_either : {A : Type 0} (o q : Option State) (s' : State) → (o ≡ Some s' → A) → (q ≡ Some s' → A) → or_else o q ≡ Some s' → A
or_either None q s' f g e = g e
or_either (Some s) q s' f g e = f e

part_marks : (o : Option TermRole) (negated : Bool) (n : List ℕ) (xs : List Term) (t : Terminal) (s' : State) → term_part o negated n xs t ≡ Some s' → Marked true t s'
part_marks None negated n xs t s' e = absurd (none_some e)
part_marks (Some q) negated n xs t s' e = operand_next_marks Nothing (signed negated (call_term n xs)) [] (ForTerm q) t s' e

args_marks : (q : LiteralRole) (negated : Bool) (n : List ℕ) (xs : List Term) (t : Terminal) (s' : State) → arguments_next q negated n xs t ≡ Some s' → Marked true t s'
args_marks q negated n xs t s' e = or_either (literal_next q (atom_of negated n xs) t) (term_part (term_role q) negated n xs t) s' (λ e. literal_marks true q (atom_of negated n xs) t s' e) (λ e. part_marks (term_role q) negated n xs t s' e) e

name_marks : (q : LiteralRole) (negated : Bool) (n : List ℕ) (t : Terminal) (s' : State) → name_next q negated n t ≡ Some s' → Marked true t s'
name_marks q negated n terminal.Open s' e = mark true terminal.Open e (refl, refl)
name_marks q negated n t s' e = args_marks q negated n [] t s' e

open_marks : (q : LiteralRole) (negated : Bool) (n : List ℕ) (t : Terminal) (s' : State) → opened_next q negated n t ≡ Some s' → Marked false t s'
open_marks q negated n terminal.Close s' e = mark false terminal.Close e (refl, refl)
open_marks q negated n t s' e = operand_marks Nothing Nothing 0 [] (ForArguments q negated n []) t s' e

begins_marks : (o : Option TermRole) (k : ℕ) (t : Terminal) (s' : State) → term_begins o k t ≡ Some s' → Marked false t s'
begins_marks None k t s' e = absurd (none_some e)
begins_marks (Some q) k t s' e = operand_marks Nothing Nothing k [] (ForTerm q) t s' e

sign_marks : (q : LiteralRole) (t : Terminal) (s' : State) → sign_next q t ≡ Some s' → Marked false t s'
sign_marks q (terminal.Id n) s' e = mark false (terminal.Id n) e (refl, refl)
sign_marks q t s' e = begins_marks (term_role q) 1 t s' e

begin_marks : (q : LiteralRole) (t : Terminal) (s' : State) → begin_next q t ≡ Some s' → Marked false t s'
begin_marks q (terminal.Id n) s' e = mark false (terminal.Id n) e (refl, refl)
begin_marks q terminal.Minus s' e = mark false terminal.Minus e (refl, refl)
begin_marks q t s' e = begins_marks (term_role q) 0 t s' e

due_marks : (q : LiteralRole) (t : Terminal) (s' : State) → due_next q t ≡ Some s' → Marked false t s'
due_marks (AsItem h ls) terminal.Not s' e = mark false terminal.Not e (refl, refl)
due_marks (AsItem h ls) terminal.Count s' e = mark false terminal.Count e (refl, refl)
due_marks (AsItem h ls) terminal.Sum s' e = mark false terminal.Sum e (refl, refl)
due_marks (AsDenied h ls) terminal.Count s' e = mark false terminal.Count e (refl, refl)
due_marks (AsDenied h ls) terminal.Sum s' e = mark false terminal.Sum e (refl, refl)
due_marks (InCondition w ls) terminal.Not s' e = mark false terminal.Not e (refl, refl)
due_marks q t s' e = begin_marks q t s' e

body_marks : (h : Head) (t : Terminal) (s' : State) → body_next h t ≡ Some s' → Marked false t s'
body_marks h terminal.Dot s' e = mark false terminal.Dot e (refl, refl)
body_marks h t s' e = due_marks (AsItem h []) t s' e

start_marks : (t : Terminal) (s' : State) → start_next t ≡ Some s' → Marked false t s'
start_marks terminal.If s' e = mark false terminal.If e (refl, refl)
start_marks terminal.OpenBrace s' e = mark false terminal.OpenBrace e (refl, refl)
start_marks t s' e = begin_marks AsHead t s' e

brace_due_marks : (l : Option Guard) (t : Terminal) (s' : State) → brace_due_next l t ≡ Some s' → Marked false t s'
brace_due_marks l terminal.OpenBrace s' e = mark false terminal.OpenBrace e (refl, refl)
brace_due_marks l _ s' e = absurd (none_some e)

brace_opened_marks : (l : Option Guard) (t : Terminal) (s' : State) → brace_opened_next l t ≡ Some s' → Marked false t s'
brace_opened_marks l terminal.CloseBrace s' e = mark false terminal.CloseBrace e (refl, refl)
brace_opened_marks l t s' e = due_marks (AsChosen l []) t s' e

colon_marks : (w : Owner) (t : Terminal) (s' : State) → condition_opened_next w t ≡ Some s' → Marked false t s'
colon_marks w terminal.Semicolon s' e = owner_marks false w [] terminal.Semicolon s' e
colon_marks w terminal.CloseBrace s' e = owner_marks false w [] terminal.CloseBrace s' e
colon_marks w t s' e = due_marks (InCondition w []) t s' e

brace_closed_marks : (l : Option Guard) (es : List ChoiceElement) (t : Terminal) (s' : State) → brace_closed_next l es t ≡ Some s' → Marked false t s'
brace_closed_marks l es (terminal.Compare op) s' e = mark false (terminal.Compare op) e (refl, refl)
brace_closed_marks l es terminal.Dot s' e = mark false terminal.Dot e (refl, refl)
brace_closed_marks l es terminal.If s' e = mark false terminal.If e (refl, refl)
brace_closed_marks l es t s' e = operand_marks Nothing Nothing 0 [] (ForTerm (HeadRight l es LessEqual)) t s' e

second_marks : (denied : Bool) (h : Head) (ls : List Item) (op : CompareOp) (x : Term) (t : Terminal) (s' : State) → second_next denied h ls op x t ≡ Some s' → Marked false t s'
second_marks true h ls op x t s' e = absurd (none_some e)
second_marks false h ls op x t s' e = operand_marks Nothing Nothing 0 [] (ForTerm (BodyRight h ls op x)) t s' e

compare_marks : (denied : Bool) (h : Head) (ls : List Item) (op : CompareOp) (x : Term) (t : Terminal) (s' : State) → compare_next denied h ls op x t ≡ Some s' → Marked false t s'
compare_marks denied h ls op x terminal.Count s' e = mark false terminal.Count e (refl, refl)
compare_marks denied h ls op x terminal.Sum s' e = mark false terminal.Sum e (refl, refl)
compare_marks denied h ls op x t s' e = second_marks denied h ls op x t s' e

kind_marks : (o : Opening) (k : AggKind) (t : Terminal) (s' : State) → kind_next o k t ≡ Some s' → Marked false t s'
kind_marks o k terminal.OpenBrace s' e = mark false terminal.OpenBrace e (refl, refl)
kind_marks o k _ s' e = absurd (none_some e)

element_due_marks : (o : Opening) (k : AggKind) (es : List Element) (t : Terminal) (s' : State) → element_due_next o k es t ≡ Some s' → Marked false t s'
element_due_marks o k es terminal.Colon s' e = mark false terminal.Colon e (refl, refl)
element_due_marks o k es t s' e = operand_marks Nothing Nothing 0 [] (ForTuple o k es []) t s' e

elements_marks : (o : Opening) (k : AggKind) (t : Terminal) (s' : State) → elements_opened_next o k t ≡ Some s' → Marked false t s'
elements_marks o k terminal.CloseBrace s' e = mark false terminal.CloseBrace e (refl, refl)
elements_marks o k t s' e = element_due_marks o k [] t s' e

unguarded_marks : (l : Option Guard) (o : Opening) (k : AggKind) (es : List Element) (t : Terminal) (s' : State) → unguarded_next l o k es t ≡ Some s' → Marked false t s'
unguarded_marks None o k es t s' e = absurd (none_some e)
unguarded_marks (Some x) o k es t s' e = item_marks false o.head (with_aggregate o k es None) t s' e

function_marks : (o : Opening) (k : AggKind) (es : List Element) (t : Terminal) (s' : State) → function_closed_next o k es t ≡ Some s' → Marked false t s'
function_marks o k es (terminal.Compare op) s' e = mark false (terminal.Compare op) e (refl, refl)
function_marks o k es t s' e = unguarded_marks o.left o k es t s' e

step_marks : (s : State) (t : Terminal) (s' : State) → step s t ≡ Some s' → Marked (ended s) t s'
step_marks Starting t s' e = start_marks t s' e
step_marks (BodyOpened h) t s' e = body_marks h t s' e
step_marks (BraceDue l) t s' e = brace_due_marks l t s' e
step_marks (BraceOpened l) t s' e = brace_opened_marks l t s' e
step_marks (BraceClosed l es) t s' e = brace_closed_marks l es t s' e
step_marks (CompareRead denied h ls op x) t s' e = compare_marks denied h ls op x t s' e
step_marks (KindRead o k) t s' e = kind_marks o k t s' e
step_marks (ElementsOpened o k) t s' e = elements_marks o k t s' e
step_marks (ElementDue o k es) t s' e = element_due_marks o k es t s' e
step_marks (FunctionClosed o k es) t s' e = function_marks o k es t s' e
step_marks (ConditionOpened w) t s' e = colon_marks w t s' e
step_marks (LiteralDue q) t s' e = due_marks q t s' e
step_marks (SignRead q) t s' e = sign_marks q t s' e
step_marks (NameRead q negated n) t s' e = name_marks q negated n t s' e
step_marks (ArgumentsOpened q negated n) t s' e = open_marks q negated n t s' e
step_marks (ArgumentsRead q negated n xs) t s' e = args_marks q negated n xs t s' e
step_marks (OperandDue s m k K B) t s' e = operand_marks s m k K B t s' e
step_marks (SymbolRead s m k K B n) t s' e = symbol_marks s m k K B n t s' e
step_marks (CallOpened s m k K B n) t s' e = call_marks s m k K B n t s' e
step_marks (OperandRead s x K B) t s' e = operand_next_marks s x K B t s' e
step_marks (Ended h ls) t s' e = absurd (none_some e)

-- the same between statements
abbrev pub ended_in : Progress → Bool
ended_in (at.Between done) = false
ended_in (at.Inside done line s) = ended s

abbrev pub pending_in : Progress → Bool
pending_in (at.Between done) = false
pending_in (at.Inside done line s) = pending s

settled_ended : (done : List Statement) (line : ℕ) (s : State) → ended_in (settled done line s) ≡ ended s
settled_ended done line (Ended h ls) = refl
settled_ended done line _ = refl

settled_pending : (done : List Statement) (line : ℕ) (s : State) → pending_in (settled done line s) ≡ pending s
settled_pending done line (Ended h ls) = refl
settled_pending done line _ = refl

abbrev MarkedIn : Bool → Terminal → Progress → Type 0
MarkedIn b t w = (ended_in w ≡ terminal_ends t) × (pending_in w ≡ (terminal_is_minus t && not b))

settle_marks : (b : Bool) (t : Terminal) (done : List Statement) (line : ℕ) (o : Option State) (w : Progress) → ((s : State) → o ≡ Some s → Marked b t s) → settle done line o ≡ Some w → MarkedIn b t w
settle_marks b t done line None w f e = absurd (none_some e)
settle_marks b t done line (Some s) w f e =
    let m = f s refl in
    subst (λ v. MarkedIn b t v) (some_is e) (settled_ended done line s ∙ m.0, settled_pending done line s ∙ m.1)

advance_marks : (w : Progress) (k : ℕ) (t : Spanned) (w' : Progress) → advance_of w k t ≡ Some w' → MarkedIn (ended_in w) (terminal_of k t.token) w'
advance_marks (at.Between done) k t w' e = settle_marks false (terminal_of k t.token) done t.line (step Starting (terminal_of k t.token)) w' (λ s f. step_marks Starting (terminal_of k t.token) s f) e
advance_marks (at.Inside done line s) k t w' e = settle_marks (ended s) (terminal_of k t.token) done line (step s (terminal_of k t.token)) w' (λ s' f. step_marks s (terminal_of k t.token) s' f) e

ends_same : (k : ℕ) (t : Token) → terminal_ends (terminal_of k t) ≡ ends_operand t
ends_same k (token.Id n) = refl
ends_same k _ = refl

minus_same : (k : ℕ) (t : Token) → terminal_is_minus (terminal_of k t) ≡ is_minus t
minus_same k token.Minus = refl
minus_same k _ = refl

-- one token more
ends_more : (b : Bool) (ts : List Spanned) (t : Spanned) → ends_in_operand b (ts ++ t ∷ []) ≡ ends_operand t.token
ends_more b [] t = refl
ends_more b (u ∷ ts) t = ends_more (ends_operand u.token) ts t

sign_more : (b : Bool) (ts : List Spanned) (t : Spanned) → ends_in_unary_minus b (ts ++ t ∷ []) ≡ (is_minus t.token && not (ends_in_operand b ts))
sign_more b [] t = refl
sign_more b (u ∷ []) t = refl
sign_more b (u ∷ v ∷ ts) t = sign_more (ends_operand u.token) (v ∷ ts) t

-- A state has a pending sign exactly where the last token is a unary minus.
pub record Marks (front : List Spanned) (w : Progress) : Type 0 where
  pub ended_same : ended_in w ≡ ends_in_operand false front
  pub pending_same : pending_in w ≡ ends_in_unary_minus false front

pub marks_first : Marks [] (at.Between [])
marks_first = record { ended_same = refl; pending_same = refl }

pub marks_on : (front : List Spanned) (k : ℕ) (t : Spanned) (w w' : Progress) → Marks front w → advance_of w k t ≡ Some w' → Marks (front ++ t ∷ []) w'
marks_on front k t w w' m e =
    let d = advance_marks w k t w' e in
    record {
      ended_same = d.0 ∙ ends_same k t.token ∙ sym (ends_more false front t);
      pending_same = d.1 ∙ ap (λ v. v && not (ended_in w)) (minus_same k t.token) ∙ ap (λ v. is_minus t.token && not v) m.ended_same ∙ sym (sign_more false front t);
    }
