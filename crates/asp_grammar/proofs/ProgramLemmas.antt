-- From statements to programs: where a prefix leads, and that something completes it.
use Rattle.std.proofs.Common.{◌≡◌, ℕ, Bool, true, false, List, [], ◌∷◌, ◌++◌, inl, inr, refl, sym, ap, subst, ◌∙◌, append_assoc, true≢false, append-nil}
use Rattle.std.specs.Prelude.{Option, Some, None}
use Rattle.asp_syntax.specs.declared.token.Token.{Token}
use Rattle.asp_syntax.specs.declared.token.Token.TheVariants as token
use Rattle.asp_syntax.specs.declared.token.Spanned.{Spanned}
use Rattle.asp_syntax.specs.declared.tree.CompareOp.TheVariants.{Equal}
use Rattle.asp_syntax.specs.declared.tree.Term.{Term}
use Rattle.asp_syntax.specs.declared.tree.Term.TheVariants as term
use Rattle.asp_syntax.specs.declared.tree.Atom.{Atom}
use Rattle.asp_syntax.specs.declared.tree.Literal.{Literal}
use Rattle.asp_syntax.specs.declared.tree.Literal.TheVariants as literal
use Rattle.asp_syntax.specs.declared.tree.Item.{Item}
use Rattle.asp_syntax.specs.declared.tree.Item.TheVariants as item
use Rattle.asp_syntax.specs.declared.tree.ChoiceElement.{ChoiceElement}
use Rattle.asp_syntax.specs.declared.tree.Guard.{Guard}
use Rattle.asp_syntax.specs.declared.tree.Element.{Element}
use Rattle.asp_syntax.specs.declared.tree.Aggregate.{Aggregate}
use Rattle.asp_syntax.specs.declared.tree.CompareOp.{CompareOp}
use Rattle.asp_syntax.specs.declared.tree.AggKind.{AggKind}
use Rattle.asp_syntax.specs.declared.tree.AggKind.TheVariants as kind
use Rattle.asp_syntax.specs.declared.tree.CompareOp.TheVariants.{LessEqual}
use Rattle.asp_syntax.specs.declared.tree.Head.{Head}
use Rattle.asp_syntax.specs.declared.tree.Head.TheVariants as head
use Rattle.asp_syntax.specs.declared.tree.Statement.{Statement}
use Rattle.asp_syntax.specs.declared.tree.Program.{Program}
use Rattle.asp_grammar.specs.Terminals.{Terminal, terminal_of, anonymous_after}
use Rattle.asp_grammar.specs.Terminals as terminal
use Rattle.asp_grammar.specs.Grammar.{Clause, IsClause, IsHead, IsBraced, IsRightBound, AreChosen, AreNafs, IsCondition, IsLiteral, IsUnary, ContinuesProduct, ContinuesTerm, IsTerm, IsBody, IsNaf, AreArguments, IsItem, IsAggregate, IsFunction, IsKindSign, AreElements, IsElement, AreTerms}
use Rattle.asp_grammar.specs.Grammar as g
use Rattle.asp_grammar.specs.declared.state.Pending.{Pending}
use Rattle.asp_grammar.specs.declared.state.Pending.TheVariants.{Nothing}
use Rattle.asp_grammar.specs.declared.state.Opening.{Opening}
use Rattle.asp_grammar.specs.declared.state.Owner.{Owner}
use Rattle.asp_grammar.specs.declared.state.Owner.TheVariants.{Chosen, Tuple}
use Rattle.asp_grammar.specs.declared.state.LiteralRole.{LiteralRole}
use Rattle.asp_grammar.specs.declared.state.LiteralRole.TheVariants.{AsHead, AsDenied, AsItem, AsChosen, InCondition, DeniedInCondition}
use Rattle.asp_grammar.specs.declared.state.TermRole.{TermRole}
use Rattle.asp_grammar.specs.declared.state.TermRole.TheVariants.{BodyLeft, BodyRight, HeadLeft, HeadRight, ConditionLeft, ConditionRight, GuardRight}
use Rattle.asp_grammar.specs.declared.state.Frame.{Frame}
use Rattle.asp_grammar.specs.declared.state.Frame.TheVariants.{Group, Call}
use Rattle.asp_grammar.specs.declared.state.Purpose.{Purpose}
use Rattle.asp_grammar.specs.declared.state.Purpose.TheVariants.{ForTerm, ForArguments, ForTuple}
use Rattle.asp_grammar.specs.declared.state.State.{State}
use Rattle.asp_grammar.specs.declared.state.State.TheVariants.{Starting, BodyOpened, BraceDue, BraceOpened, BraceClosed, CompareRead, KindRead, ElementsOpened, ElementDue, FunctionClosed, ConditionOpened, LiteralDue, SignRead, NameRead, ArgumentsOpened, ArgumentsRead, OperandDue, SymbolRead, CallOpened, OperandRead, Ended}
use Rattle.asp_grammar.specs.Machine.{guard_of, element_of, tuple_of, opening_of, with_aggregate, owner_next, join, minuses, call_term, signed, clause_of, term_role, step, atom_of}
use Rattle.asp_grammar.specs.Programs.{Lined, lined_from, terminals, statement_of, AreStatements, program_of, IsProgram, IsViable, Breaks, Stops}
use Rattle.asp_grammar.specs.Programs as p
use Rattle.asp_grammar.specs.Continuations.{Continuation, AfterItem, HeadRead, AfterBraces, AfterElement, AfterTuple, AfterOwner, AfterCondition, AfterOwned, Unguarded, AfterFunction, AtFunction, SecondTerm, AtBrace, AfterLiteral, AfterTerm, AfterArguments, Chain, Others, TermPart, Leads, Named, CallRead, AtOperand, Fresh, InArguments, Opened, Begins, TermBegins}
use Rattle.asp_grammar.proofs.TermLemmas.{none_some, some_is, name_plain, unsigned, Under}
use Rattle.asp_grammar.proofs.StepLemmas.{step_on, step_back}

-- a token with a place and a line that don't matter
abbrev pub bare : Token → Spanned
bare t = record { token = t; at = record { 0 = 0 }; line = 0 }

-- Something leads from the state to a clause, whatever number the next `_` has.
abbrev pub Live : State → Type 0
Live s = (k : ℕ) → (ts : List Spanned) × (c : Clause) × Leads s (terminals (lined_from k ts)) c

via : (s s' : State) (t : Token) → ((k : ℕ) → step s (terminal_of k t) ≡ Some s') → ((k : ℕ) → anonymous_after k t ≡ k) → Live s' → Live s
via s s' t e f live k =
    let d = live k in
    (bare t ∷ d.0, d.1, step_back s (terminal_of k t) (terminals (lined_from (anonymous_after k t) d.0)) d.1 s' (e k) (subst (λ v. Leads s' (terminals (lined_from v d.0)) d.1) (sym (f k)) d.2))

live_ended : (h : Head) (ls : List Item) → Live (Ended h ls)
live_ended h ls k = ([], clause_of h ls, (refl, refl))

live_body : (h : Head) → Live (BodyOpened h)
live_body h = via (BodyOpened h) (Ended h []) token.Dot (λ k. refl) (λ k. refl) (live_ended h [])

live_starting : Live Starting
live_starting = via Starting (BodyOpened head.Absent) token.If (λ k. refl) (λ k. refl) (live_body head.Absent)

live_closed : (l : Option Guard) (es : List ChoiceElement) → Live (BraceClosed l es)
live_closed l es = via (BraceClosed l es) (Ended (head.Choice l es None) []) token.Dot (λ k. refl) (λ k. refl) (live_ended (head.Choice l es None) [])

live_opened : (l : Option Guard) → Live (BraceOpened l)
live_opened l = via (BraceOpened l) (BraceClosed l []) token.CloseBrace (λ k. refl) (λ k. refl) (live_closed l [])

-- inside an aggregate
live_guard : (o : Opening) (k : AggKind) (es : List Element) (op : CompareOp) (s : Pending) (x : Term) → Live (OperandRead s x [] (ForTerm (GuardRight o k es op)))
live_guard o k es op s x = via (OperandRead s x [] (ForTerm (GuardRight o k es op))) (Ended o.head (with_aggregate o k es (Some (guard_of op (join s x))))) token.Dot (λ k. refl) (λ k. refl) (live_ended o.head (with_aggregate o k es (Some (guard_of op (join s x)))))

live_function : (o : Opening) (k : AggKind) (es : List Element) → Live (FunctionClosed o k es)
live_function o k es =
    via (FunctionClosed o k es) (OperandDue Nothing Nothing 0 [] (ForTerm (GuardRight o k es Equal))) (token.Compare Equal) (λ k. refl) (λ k. refl)
    (via (OperandDue Nothing Nothing 0 [] (ForTerm (GuardRight o k es Equal))) (OperandRead Nothing (term.Text []) [] (ForTerm (GuardRight o k es Equal))) (token.Text []) (λ k. refl) (λ k. refl)
    (live_guard o k es Equal Nothing (term.Text [])))

live_elements : (o : Opening) (k : AggKind) → Live (ElementsOpened o k)
live_elements o k = via (ElementsOpened o k) (FunctionClosed o k []) token.CloseBrace (λ k. refl) (λ k. refl) (live_function o k [])

live_kind : (o : Opening) (k : AggKind) → Live (KindRead o k)
live_kind o k = via (KindRead o k) (ElementsOpened o k) token.OpenBrace (λ k. refl) (λ k. refl) (live_elements o k)

live_compare : (denied : Bool) (h : Head) (ls : List Item) (op : CompareOp) (x : Term) → Live (CompareRead denied h ls op x)
live_compare denied h ls op x = via (CompareRead denied h ls op x) (KindRead (opening_of h ls denied (Some (guard_of op x))) kind.Count) token.Count (λ k. refl) (λ k. refl) (live_kind (opening_of h ls denied (Some (guard_of op x))) kind.Count)

-- A state from which `}` closes what the condition belongs to.
live_owner : (s : State) (w : Owner) (ls : List Literal) → step s terminal.CloseBrace ≡ owner_next w ls terminal.CloseBrace → Live s
live_owner s (Chosen l es a) ls e = via s (BraceClosed l (es ++ element_of a ls ∷ [])) token.CloseBrace (λ k. e) (λ k. refl) (live_closed l (es ++ element_of a ls ∷ []))
live_owner s (Tuple o k es xs) ls e = via s (FunctionClosed o k (es ++ tuple_of xs ls ∷ [])) token.CloseBrace (λ k. e) (λ k. refl) (live_function o k (es ++ tuple_of xs ls ∷ []))

-- after a literal, and after a term
live_args : (b : LiteralRole) (negated : Bool) (n : List ℕ) (xs : List Term) → Live (ArgumentsRead b negated n xs)
live_args AsHead negated n xs = via (ArgumentsRead AsHead negated n xs) (Ended (head.Single (atom_of negated n xs)) []) token.Dot (λ k. refl) (λ k. refl) (live_ended (head.Single (atom_of negated n xs)) [])
live_args (AsDenied h ls) negated n xs = via (ArgumentsRead (AsDenied h ls) negated n xs) (Ended h (ls ++ item.Plain (literal.Negative (atom_of negated n xs)) ∷ [])) token.Dot (λ k. refl) (λ k. refl) (live_ended h (ls ++ item.Plain (literal.Negative (atom_of negated n xs)) ∷ []))
live_args (AsItem h ls) negated n xs = via (ArgumentsRead (AsItem h ls) negated n xs) (Ended h (ls ++ item.Plain (literal.Positive (atom_of negated n xs)) ∷ [])) token.Dot (λ k. refl) (λ k. refl) (live_ended h (ls ++ item.Plain (literal.Positive (atom_of negated n xs)) ∷ []))
live_args (AsChosen l es) negated n xs = live_owner (ArgumentsRead (AsChosen l es) negated n xs) (Chosen l es (atom_of negated n xs)) [] refl
live_args (InCondition w ls) negated n xs = live_owner (ArgumentsRead (InCondition w ls) negated n xs) w (ls ++ literal.Positive (atom_of negated n xs) ∷ []) refl
live_args (DeniedInCondition w ls) negated n xs = live_owner (ArgumentsRead (DeniedInCondition w ls) negated n xs) w (ls ++ literal.Negative (atom_of negated n xs) ∷ []) refl

live_operand : (K : List Frame) (B : Purpose) (s : Pending) (x : Term) → Live (OperandRead s x K B)
live_operand [] (ForTerm (BodyRight h ls op y)) s x = via (OperandRead s x [] (ForTerm (BodyRight h ls op y))) (Ended h (ls ++ item.Plain (literal.Compare op y (join s x)) ∷ [])) token.Dot (λ k. refl) (λ k. refl) (live_ended h (ls ++ item.Plain (literal.Compare op y (join s x)) ∷ []))
live_operand [] (ForTerm (BodyLeft denied h ls)) s x = via (OperandRead s x [] (ForTerm (BodyLeft denied h ls))) (CompareRead denied h ls Equal (join s x)) (token.Compare Equal) (λ k. refl) (λ k. refl) (live_compare denied h ls Equal (join s x))
live_operand [] (ForTerm (GuardRight o k es op)) s x = live_guard o k es op s x
live_operand [] (ForTerm HeadLeft) s x = via (OperandRead s x [] (ForTerm HeadLeft)) (BraceOpened (Some (guard_of LessEqual (join s x)))) token.OpenBrace (λ k. refl) (λ k. refl) (live_opened (Some (guard_of LessEqual (join s x))))
live_operand [] (ForTerm (HeadRight l es op)) s x = via (OperandRead s x [] (ForTerm (HeadRight l es op))) (Ended (head.Choice l es (Some (guard_of op (join s x)))) []) token.Dot (λ k. refl) (λ k. refl) (live_ended (head.Choice l es (Some (guard_of op (join s x)))) [])
live_operand [] (ForTerm (ConditionRight w ls op y)) s x = live_owner (OperandRead s x [] (ForTerm (ConditionRight w ls op y))) w (ls ++ literal.Compare op y (join s x) ∷ []) refl
live_operand [] (ForTerm (ConditionLeft w ls)) s x =
    via (OperandRead s x [] (ForTerm (ConditionLeft w ls))) (OperandDue Nothing Nothing 0 [] (ForTerm (ConditionRight w ls Equal (join s x)))) (token.Compare Equal) (λ k. refl) (λ k. refl)
    (via (OperandDue Nothing Nothing 0 [] (ForTerm (ConditionRight w ls Equal (join s x)))) (OperandRead Nothing (term.Text []) [] (ForTerm (ConditionRight w ls Equal (join s x)))) (token.Text []) (λ k. refl) (λ k. refl)
    (live_owner (OperandRead Nothing (term.Text []) [] (ForTerm (ConditionRight w ls Equal (join s x)))) w (ls ++ literal.Compare Equal (join s x) (term.Text []) ∷ []) refl))
live_operand [] (ForTuple o k es xs) s x = live_owner (OperandRead s x [] (ForTuple o k es xs)) (Tuple o k es (xs ++ join s x ∷ [])) [] refl
live_operand [] (ForArguments b negated n xs) s x = via (OperandRead s x [] (ForArguments b negated n xs)) (ArgumentsRead b negated n (xs ++ join s x ∷ [])) token.Close (λ k. refl) (λ k. refl) (live_args b negated n (xs ++ join s x ∷ []))
live_operand (Group s' m n ∷ K) B s x = via (OperandRead s x (Group s' m n ∷ K) B) (OperandRead s' (join m (minuses n (join s x))) K B) token.Close (λ k. refl) (λ k. refl) (live_operand K B s' (join m (minuses n (join s x))))
live_operand (Call s' m k' n xs ∷ K) B s x = via (OperandRead s x (Call s' m k' n xs ∷ K) B) (OperandRead s' (join m (minuses k' (call_term n (xs ++ join s x ∷ [])))) K B) token.Close (λ k. refl) (λ k. refl) (live_operand K B s' (join m (minuses k' (call_term n (xs ++ join s x ∷ [])))))

live_named : (b : LiteralRole) (negated : Bool) (n : List ℕ) → Live (NameRead b negated n)
live_named b negated n k = let d = live_args b negated n [] k in (d.0, d.1, name_plain (AfterArguments b negated n) (terminals (lined_from k d.0)) d.1 d.2)

live_due : (b : LiteralRole) → Live (LiteralDue b)
live_due AsHead = via (LiteralDue AsHead) (NameRead AsHead false (97 ∷ [])) (token.Id (97 ∷ [])) (λ k. refl) (λ k. refl) (live_named AsHead false (97 ∷ []))
live_due (AsDenied h ls) = via (LiteralDue (AsDenied h ls)) (NameRead (AsDenied h ls) false (97 ∷ [])) (token.Id (97 ∷ [])) (λ k. refl) (λ k. refl) (live_named (AsDenied h ls) false (97 ∷ []))
live_due (AsItem h ls) = via (LiteralDue (AsItem h ls)) (NameRead (AsItem h ls) false (97 ∷ [])) (token.Id (97 ∷ [])) (λ k. refl) (λ k. refl) (live_named (AsItem h ls) false (97 ∷ []))
live_due (AsChosen l es) = via (LiteralDue (AsChosen l es)) (NameRead (AsChosen l es) false (97 ∷ [])) (token.Id (97 ∷ [])) (λ k. refl) (λ k. refl) (live_named (AsChosen l es) false (97 ∷ []))
live_due (InCondition w ls) = via (LiteralDue (InCondition w ls)) (NameRead (InCondition w ls) false (97 ∷ [])) (token.Id (97 ∷ [])) (λ k. refl) (λ k. refl) (live_named (InCondition w ls) false (97 ∷ []))
live_due (DeniedInCondition w ls) = via (LiteralDue (DeniedInCondition w ls)) (NameRead (DeniedInCondition w ls) false (97 ∷ [])) (token.Id (97 ∷ [])) (λ k. refl) (λ k. refl) (live_named (DeniedInCondition w ls) false (97 ∷ []))

live_symbol : (s m : Pending) (n : ℕ) (K : List Frame) (B : Purpose) (name : List ℕ) → Live (SymbolRead s m n K B name)
live_symbol s m n K B name k = let d = live_operand K B s (join m (minuses n (call_term name []))) k in (d.0, d.1, name_plain (CallRead s m n K B name) (terminals (lined_from k d.0)) d.1 d.2)

-- Each state is live: what is read begins some statement.
pub live : (s : State) → Live s
live Starting = live_starting
live (BodyOpened h) = live_body h
live (BraceDue l) = via (BraceDue l) (BraceOpened l) token.OpenBrace (λ k. refl) (λ k. refl) (live_opened l)
live (BraceOpened l) = live_opened l
live (BraceClosed l es) = live_closed l es
live (CompareRead denied h ls op x) = live_compare denied h ls op x
live (KindRead o k) = live_kind o k
live (ElementsOpened o k) = live_elements o k
live (ElementDue o k es) = via (ElementDue o k es) (ConditionOpened (Tuple o k es [])) token.Colon (λ k. refl) (λ k. refl) (live_owner (ConditionOpened (Tuple o k es [])) (Tuple o k es []) [] refl)
live (FunctionClosed o k es) = live_function o k es
live (ConditionOpened w) = live_owner (ConditionOpened w) w [] refl
live (LiteralDue b) = live_due b
live (SignRead b) = via (SignRead b) (NameRead b true (97 ∷ [])) (token.Id (97 ∷ [])) (λ k. refl) (λ k. refl) (live_named b true (97 ∷ []))
live (NameRead b negated n) = live_named b negated n
live (ArgumentsOpened b negated n) = via (ArgumentsOpened b negated n) (ArgumentsRead b negated n []) token.Close (λ k. refl) (λ k. refl) (live_args b negated n [])
live (ArgumentsRead b negated n xs) = live_args b negated n xs
live (OperandDue s m n K B) = via (OperandDue s m n K B) (OperandRead s (join m (minuses n (term.Text []))) K B) (token.Text []) (λ k. refl) (λ k. refl) (live_operand K B s (join m (minuses n (term.Text []))))
live (SymbolRead s m n K B name) = live_symbol s m n K B name
live (CallOpened s m n K B name) = via (CallOpened s m n K B name) (OperandRead s (join m (minuses n (call_term name []))) K B) token.Close (λ k. refl) (λ k. refl) (live_operand K B s (join m (minuses n (call_term name []))))
live (OperandRead s x K B) = live_operand K B s x
live (Ended h ls) = live_ended h ls

-- Nothing but the end of a statement leads on without a token.
empty_cons : {t : Terminal} {ts : List Terminal} → ◌≡◌ {A = List Terminal} [] (t ∷ ts) → ⊥
empty_cons e = cc

no_unary : {r : List Terminal} {x : Term} → IsUnary [] r x → ⊥
no_unary h = elim h [ ]

no_sum : {r : List Terminal} {x : Term} → IsTerm [] r x → ⊥
no_sum (g.sum (g.product u mp) ms) = no_unary u

no_literal : {r : List Terminal} {a : Atom} → IsLiteral [] r a → ⊥
no_literal h = elim h [ ]

no_naf : {r : List Terminal} {l : Literal} → IsNaf [] r l → ⊥
no_naf (g.positive lit) = no_literal lit
no_naf (g.compare s1 s2) = no_sum s1

no_function : {r : List Terminal} {k : AggKind} {es : List Element} → IsFunction [] r k es → ⊥
no_function h = elim h [ ]

no_aggregate : {r : List Terminal} {a : Aggregate} → IsAggregate [] r a → ⊥
no_aggregate (g.at_left x f) = no_sum x
no_aggregate (g.at_both x f y) = no_sum x
no_aggregate (g.at_right f y) = no_function f

no_item : {r : List Terminal} {i : Item} → IsItem [] r i → ⊥
no_item (g.plain_item n) = no_naf n
no_item (g.aggregate a) = no_aggregate a

no_terms : {r : List Terminal} {xs : List Term} → AreTerms [] r xs → ⊥
no_terms (g.last x) = no_sum x
no_terms (g.another x y) = no_sum x

no_element : {r : List Terminal} {x : Element} → IsElement [] r x → ⊥
no_element (g.tuple xs cond) = no_terms xs

no_elements : {r : List Terminal} {es : List Element} → AreElements [] r es → ⊥
no_elements (g.sole x) = no_element x
no_elements (g.besides x xs) = no_element x

no_body : {r : List Terminal} {ls : List Item} → IsBody [] r ls → ⊥
no_body (g.one n) = no_item n
no_body (g.more n b) = no_item n

no_braces : {r : List Terminal} {es : List ChoiceElement} → IsBraced [] r es → ⊥
no_braces h = elim h [ ]

no_head : {r : List Terminal} {h : Head} → IsHead [] r h → ⊥
no_head (g.single lit) = no_literal lit
no_head (g.choosing (g.choice g.free b r)) = no_braces b
no_head (g.choosing (g.choice (g.at_least first) b r)) = no_sum first
no_head (g.choosing (g.choice (g.bounded first) b r)) = no_sum first

no_clause : {c : Clause} → IsClause [] c → ⊥
no_clause (g.fact h) = no_head h
no_clause (g.empty_rule h) = no_head h
no_clause (g.rule h b) = no_head h

no_nafs : {r : List Terminal} {ls : List Literal} → AreNafs [] r ls → ⊥
no_nafs (g.lone n) = no_naf n
no_nafs (g.further n b) = no_naf n

no_choices : {r : List Terminal} {es : List ChoiceElement} → AreChosen [] r es → ⊥
no_choices (g.final (g.chosen lit c)) = no_literal lit
no_choices (g.next (g.chosen lit c) r) = no_literal lit

element_none : (l : Option Guard) (es : List ChoiceElement) (x : ChoiceElement) (c : Clause) → AfterElement l es x [] c → ⊥
element_none l es x c (inl p) = empty_cons p.1
element_none l es x c (inr p) = empty_cons p.1

item_none : (h : Head) (ls : List Item) (c : Clause) → AfterItem h ls [] c → ⊥
item_none h ls c (inl p) = empty_cons p.0
item_none h ls c (inr p) = empty_cons p.2

tuple_none : (o : Opening) (k : AggKind) (es : List Element) (x : Element) (c : Clause) → AfterTuple o k es x [] c → ⊥
tuple_none o k es x c (inl p) = empty_cons p.1
tuple_none o k es x c (inr p) = empty_cons p.1

owner_none : (w : Owner) (ls : List Literal) (c : Clause) → AfterOwner w ls [] c → ⊥
owner_none (Chosen l es a) ls c h = element_none l es (element_of a ls) c h
owner_none (Tuple o k es xs) ls c h = tuple_none o k es (tuple_of xs ls) c h

condition_none : (w : Owner) (ls : List Literal) (c : Clause) → AfterCondition w ls [] c → ⊥
condition_none w ls c (inl p) = owner_none w ls c p
condition_none w ls c (inr p) = empty_cons p.1

owned_none : (w : Owner) (c : Clause) → AfterOwned w [] c → ⊥
owned_none w c (r, ls, cond, h) = go cond h
  where
    go : {r : List Terminal} {ls : List Literal} → IsCondition [] r ls → AfterOwner w ls r c → ⊥
    go g.absent h = owner_none w [] c h

at_function_none : (o : Opening) (c : Clause) → AtFunction o [] c → ⊥
at_function_none o c d = empty_cons d.3

unguarded_none : (l : Option Guard) (o : Opening) (k : AggKind) (es : List Element) (c : Clause) → Unguarded l o k es [] c → ⊥
unguarded_none None o k es c h = h
unguarded_none (Some x) o k es c h = item_none o.head (with_aggregate o k es None) c h

function_none : (o : Opening) (k : AggKind) (es : List Element) (c : Clause) → AfterFunction o k es [] c → ⊥
function_none o k es c (inl d) = empty_cons d.2
function_none o k es c (inr h) = unguarded_none o.left o k es c h

second_none : (denied : Bool) (h : Head) (ls : List Item) (op : CompareOp) (x : Term) (c : Clause) → SecondTerm denied h ls op x [] c → ⊥
second_none true h ls op x c d = d
second_none false h ls op x c d = no_unary d.2

head_none : (h : Head) (c : Clause) → HeadRead h [] c → ⊥
head_none h c (inl p) = empty_cons p.0
head_none h c (inr p) = empty_cons p.1

brace_none : (l : Option Guard) (c : Clause) → AtBrace l [] c → ⊥
brace_none l c d = empty_cons d.1

braces_none : (l : Option Guard) (es : List ChoiceElement) (c : Clause) → AfterBraces l es [] c → ⊥
braces_none l es c (b, r, w, h) = go w h
  where
    go : {r : List Terminal} {b : Option Guard} → IsRightBound [] r b → HeadRead (head.Choice l es b) r c → ⊥
    go g.unbounded h = head_none (head.Choice l es None) c h
    go (g.at_most sm) h = no_sum sm

others_none : (x : Term) (r : List Terminal) (ys : List Term) → Others x [] r ys → ⊥
others_none x r ys (inl p) = empty_cons p.0
others_none x r ys (inr p) = empty_cons p.2

term_none : (K : List Frame) (B : Purpose) (x : Term) (c : Clause) → AfterTerm K B x [] c → ⊥
term_none [] (ForTerm (BodyLeft denied h ls)) x c d = empty_cons d.2
term_none [] (ForTerm (BodyRight h ls op y)) x c d = item_none h (ls ++ item.Plain (literal.Compare op y x) ∷ []) c d
term_none [] (ForTerm HeadLeft) x c (inl d) = empty_cons d.2
term_none [] (ForTerm HeadLeft) x c (inr d) = brace_none (Some (guard_of LessEqual x)) c d
term_none [] (ForTerm (HeadRight l es op)) x c d = head_none (head.Choice l es (Some (guard_of op x))) c d
term_none [] (ForTerm (ConditionLeft w ls)) x c d = empty_cons d.4
term_none [] (ForTerm (ConditionRight w ls op y)) x c d = condition_none w (ls ++ literal.Compare op y x ∷ []) c d
term_none [] (ForTerm (GuardRight o k es op)) x c d = item_none o.head (with_aggregate o k es (Some (guard_of op x))) c d
term_none [] (ForTuple o k es xs) x c (r, ys, inl p, h) = owned_none (Tuple o k es (xs ++ ys)) c (subst (λ v. AfterOwned (Tuple o k es (xs ++ ys)) v c) (sym p.0) h)
term_none [] (ForTuple o k es xs) x c (r, ys, inr p, h) = empty_cons p.2
term_none [] (ForArguments b negated n xs) x c d = others_none x d.0 d.1 d.2
term_none (Group s m k ∷ K) B x c d = empty_cons d.1
term_none (Call s m k n xs ∷ K) B x c d = others_none x d.0 d.1 d.2

chain_none : (s : Pending) (x : Term) (K : List Frame) (B : Purpose) (c : Clause) → Chain (AfterTerm K B) s x [] c → ⊥
chain_none s x K B c (y, z, r, q, mp, ms, h) = go mp ms h
  where
    go2 : {y z : Term} {q : List Terminal} → ContinuesTerm y [] q z → AfterTerm K B z q c → ⊥
    go2 {z = z} g.no_summand h = term_none K B z c h

    go : {y z : Term} {r q : List Terminal} → ContinuesProduct x [] r y → ContinuesTerm (join s y) r q z → AfterTerm K B z q c → ⊥
    go g.no_factor ms h = go2 ms h

fresh_none : (P : Term → Continuation) (c : Clause) → Fresh P [] c → ⊥
fresh_none P c d = no_unary d.2

begins_none : (b : LiteralRole) (c : Clause) → Begins b [] c → ⊥
begins_none b c (inl p) = no_literal p.2
begins_none b c (inr h) = go (term_role b) h
  where
    go : (o : Option TermRole) → TermBegins o 0 [] c → ⊥
    go None h = h
    go (Some t) h = no_unary h.2

sign_literal_none : {r : List Terminal} {a : Atom} → IsLiteral (terminal.Minus ∷ []) r a → ⊥
sign_literal_none h = elim h [ ]

sign_unary_none : {r : List Terminal} {x : Term} → IsUnary (terminal.Minus ∷ []) r x → ⊥
sign_unary_none (g.minus e u) = no_unary u

sign_none : (b : LiteralRole) (c : Clause) → Begins b (terminal.Minus ∷ []) c → ⊥
sign_none b c (inl p) = sign_literal_none p.2
sign_none b c (inr h) = go (term_role b) h
  where
    go : (o : Option TermRole) → TermBegins o 0 (terminal.Minus ∷ []) c → ⊥
    go None h = h
    go (Some t) h = sign_unary_none h.2

named_none : (Q : List Term → Continuation) (c : Clause) → (Q [] [] c → ⊥) → Named Q [] c → ⊥
named_none Q c f (r, xs, a, h) = go a h
  where
    go : {r : List Terminal} {xs : List Term} → AreArguments [] r xs → Q xs r c → ⊥
    go g.none h = f h

opened_none : (Q : List Term → Continuation) (c : Clause) → Opened Q [] c → ⊥
opened_none Q c (inl p) = empty_cons p.1
opened_none Q c (inr f) = fresh_none (InArguments Q []) c f

after_literal_none : (b : LiteralRole) (a : Atom) (c : Clause) → AfterLiteral b a [] c → ⊥
after_literal_none AsHead a c d = head_none (head.Single a) c d
after_literal_none (AsChosen l es) a c d = owned_none (Chosen l es a) c d
after_literal_none (InCondition w ls) a c d = condition_none w (ls ++ literal.Positive a ∷ []) c d
after_literal_none (DeniedInCondition w ls) a c d = condition_none w (ls ++ literal.Negative a ∷ []) c d
after_literal_none (AsDenied h ls) a c d = item_none h (ls ++ item.Plain (literal.Negative a) ∷ []) c d
after_literal_none (AsItem h ls) a c d = item_none h (ls ++ item.Plain (literal.Positive a) ∷ []) c d

args_none : (b : LiteralRole) (negated : Bool) (n : List ℕ) (xs : List Term) (c : Clause) → AfterArguments b negated n xs [] c → ⊥
args_none b negated n xs c (inl h) = after_literal_none b (atom_of negated n xs) c h
args_none b negated n xs c (inr h) = go (term_role b) h
  where
    go : (o : Option TermRole) → TermPart o negated n xs [] c → ⊥
    go None h = h
    go (Some t) h = chain_none Nothing (signed negated (call_term n xs)) [] (ForTerm t) c h

abbrev pub is_ended : State → Bool
is_ended (Ended h ls) = true
is_ended _ = false

operand_none : (s m : Pending) (k : ℕ) (K : List Frame) (B : Purpose) (c : Clause) → AtOperand s m k K B [] c → ⊥
operand_none s m k K B c (x, r, u, h) = go (unsigned k [] r x u)
  where
    go : Under k [] r x → ⊥
    go (inl p) = empty_cons p.1
    go (inr p) = no_unary p.2

pub leads_none : (s : State) (c : Clause) → is_ended s ≡ false → Leads s [] c → ⊥
leads_none Starting c e h = no_clause h
leads_none (BodyOpened k) c e (inl p) = empty_cons p.0
leads_none (BodyOpened k) c e (inr p) = no_body p.1
leads_none (BraceDue l) c e h = brace_none l c h
leads_none (BraceOpened l) c e (inl p) = empty_cons p.1
leads_none (BraceOpened l) c e (inr p) = no_choices p.2
leads_none (BraceClosed l es) c e h = braces_none l es c h
leads_none (CompareRead denied h ls op x) c e (inl p) = second_none denied h ls op x c p
leads_none (CompareRead denied h ls op x) c e (inr p) = at_function_none (opening_of h ls denied (Some (guard_of op x))) c p
leads_none (KindRead o k) c e p = empty_cons p.1
leads_none (ElementsOpened o k) c e (inl p) = empty_cons p.1
leads_none (ElementsOpened o k) c e (inr p) = no_elements p.2
leads_none (ElementDue o k es) c e p = no_elements p.2
leads_none (FunctionClosed o k es) c e p = function_none o k es c p
leads_none (ConditionOpened w) c e (inl p) = owner_none w [] c p
leads_none (ConditionOpened w) c e (inr p) = no_nafs p.2
leads_none (LiteralDue (AsChosen l es)) c e h = no_choices h.2
leads_none (LiteralDue (InCondition w ls)) c e h = no_nafs h.2
leads_none (LiteralDue (DeniedInCondition w ls)) c e h = begins_none (DeniedInCondition w ls) c h
leads_none (LiteralDue AsHead) c e h = begins_none AsHead c h
leads_none (LiteralDue (AsDenied k ls)) c e (inl h) = begins_none (AsDenied k ls) c h
leads_none (LiteralDue (AsDenied k ls)) c e (inr h) = at_function_none (opening_of k ls true None) c h
leads_none (LiteralDue (AsItem k ls)) c e h = no_body h.1
leads_none (SignRead b) c e h = sign_none b c h
leads_none (NameRead b negated n) c e h = named_none (AfterArguments b negated n) c (args_none b negated n [] c) h
leads_none (ArgumentsOpened b negated n) c e h = opened_none (AfterArguments b negated n) c h
leads_none (ArgumentsRead b negated n xs) c e h = args_none b negated n xs c h
leads_none (OperandDue s m k K B) c e h = operand_none s m k K B c h
leads_none (SymbolRead s m k K B n) c e h = named_none (CallRead s m k K B n) c (chain_none s (join m (minuses k (call_term n []))) K B c) h
leads_none (CallOpened s m k K B n) c e h = opened_none (CallRead s m k K B n) c h
leads_none (OperandRead s x K B) c e h = chain_none s x K B c h
leads_none (Ended k ls) c e h = true≢false e

-- Tokens lead from inside a statement that began on this line, with those before it done, to all statements.
pub record Inside (done : List Statement) (line : ℕ) (s : State) (ts : List Lined) (all : List Statement) : Type 0 where
  pub front : List Lined
  pub rest : List Lined
  pub clause : Clause
  pub others : List Statement
  pub cut : ts ≡ front ++ rest
  pub leads : Leads s (terminals front) clause
  pub behind : AreStatements rest others
  pub total : all ≡ done ++ statement_of line clause ∷ others

abbrev pub Between : List Statement → List Lined → List Statement → Type 0
Between done ts all = (others : List Statement) × AreStatements ts others × (all ≡ done ++ others)

begin_cases : (done all : List Statement) {t : Lined} {ts : List Lined} {others : List Statement} → AreStatements (t ∷ ts) others → all ≡ done ++ others → (s : State) × (step Starting t.terminal ≡ Some s) × Inside done t.line s ts all
begin_cases done all {t = t} (p.more {c = c} {ss = ss} us rest h behind) e =
    let q = step_on Starting t.terminal (terminals us) c h in
    (q.0, q.1, record { front = us; rest = rest; clause = c; others = ss; cut = refl; leads = q.2; behind = behind; total = e })

pub begin_on : (done : List Statement) (t : Lined) (ts : List Lined) (all : List Statement) → Between done (t ∷ ts) all → (s : State) × (step Starting t.terminal ≡ Some s) × Inside done t.line s ts all
begin_on done t ts all (others, st, e) = begin_cases done all st e

pub begin_back : (done : List Statement) (t : Lined) (ts : List Lined) (all : List Statement) (s : State) → step Starting t.terminal ≡ Some s → Inside done t.line s ts all → Between done (t ∷ ts) all
begin_back done t ts all s e d = (
  statement_of t.line d.clause ∷ d.others,
  subst (λ v. AreStatements (t ∷ v) (statement_of t.line d.clause ∷ d.others)) (sym d.cut) (p.more d.front d.rest (step_back Starting t.terminal (terminals d.front) d.clause s e d.leads) d.behind),
  d.total,
)

inside_cases : (done : List Statement) (line : ℕ) (s : State) (t : Lined) (ts : List Lined) (all : List Statement) (front rest : List Lined) (c : Clause) (others : List Statement)
    → is_ended s ≡ false → t ∷ ts ≡ front ++ rest → Leads s (terminals front) c → AreStatements rest others → all ≡ done ++ statement_of line c ∷ others
    → (s' : State) × (step s t.terminal ≡ Some s') × Inside done line s' ts all
inside_cases done line s t ts all [] rest c others o cut leads behind total = absurd (leads_none s c o leads)
inside_cases done line s t ts all (f ∷ front) rest c others o cut leads behind total =
    let same : f ≡ t = cc in
    let q = step_on s t.terminal (terminals front) c (subst (λ v. Leads s (v.terminal ∷ terminals front) c) same leads) in
    (q.0, q.1, record { front = front; rest = rest; clause = c; others = others; cut = cc; leads = q.2; behind = behind; total = total })

pub inside_on : (done : List Statement) (line : ℕ) (s : State) (t : Lined) (ts : List Lined) (all : List Statement) → is_ended s ≡ false → Inside done line s (t ∷ ts) all → (s' : State) × (step s t.terminal ≡ Some s') × Inside done line s' ts all
inside_on done line s t ts all o d = inside_cases done line s t ts all d.front d.rest d.clause d.others o d.cut d.leads d.behind d.total

pub inside_back : (done : List Statement) (line : ℕ) (s : State) (t : Lined) (ts : List Lined) (all : List Statement) (s' : State) → step s t.terminal ≡ Some s' → Inside done line s' ts all → Inside done line s (t ∷ ts) all
inside_back done line s t ts all s' e d =
    record { front = t ∷ d.front; rest = d.rest; clause = d.clause; others = d.others; cut = ap (λ v. t ∷ v) d.cut; leads = step_back s t.terminal (terminals d.front) d.clause s' e d.leads; behind = d.behind; total = d.total }

terminals_empty : (ts : List Lined) → terminals ts ≡ [] → ts ≡ []
terminals_empty [] e = refl
terminals_empty (t ∷ ts) e = absurd cc

pub ended_on : (done : List Statement) (line : ℕ) (h : Head) (ls : List Item) (ts : List Lined) (all : List Statement) → Inside done line (Ended h ls) ts all → Between (done ++ statement_of line (clause_of h ls) ∷ []) ts all
ended_on done line h ls ts all d =
    let none = terminals_empty d.front d.leads.0 in
    let same : ts ≡ d.rest = d.cut ∙ ap (λ v. v ++ d.rest) none in (
      d.others,
      subst (λ v. AreStatements v d.others) (sym same) d.behind,
      d.total ∙ ap (λ v. done ++ statement_of line v ∷ d.others) (sym d.leads.1) ∙ sym (append_assoc done (statement_of line (clause_of h ls) ∷ []) d.others),
    )

pub ended_back : (done : List Statement) (line : ℕ) (h : Head) (ls : List Item) (ts : List Lined) (all : List Statement) → Between (done ++ statement_of line (clause_of h ls) ∷ []) ts all → Inside done line (Ended h ls) ts all
ended_back done line h ls ts all (others, st, e) =
    record { front = []; rest = ts; clause = clause_of h ls; others = others; cut = refl; leads = (refl, refl); behind = st; total = e ∙ append_assoc done (statement_of line (clause_of h ls) ∷ []) others }

-- After the tokens front, with k `_` among them, all that leads to a program is P.
pub record Reads (front : List Spanned) (k : ℕ) (P : List Lined → List Statement → Type 0) : Type 0 where
  pub on : (rest : List Spanned) (all : List Statement) → AreStatements (lined_from 0 (front ++ rest)) all → P (lined_from k rest) all
  pub back : (rest : List Spanned) (all : List Statement) → P (lined_from k rest) all → AreStatements (lined_from 0 (front ++ rest)) all

abbrev lined : ℕ → Spanned → Lined
lined k t = record { line = t.line; terminal = terminal_of k t.token }

pub reads_start : Reads [] 0 (Between [])
reads_start = record { on = λ rest all h. (all, h, refl); back = λ rest all h. subst (λ v. AreStatements (lined_from 0 rest) v) (sym h.2) h.1 }

-- one token more
further : (front : List Spanned) (k : ℕ) (t : Spanned) (P Q : List Lined → List Statement → Type 0) → ((ts : List Lined) (all : List Statement) → P (lined k t ∷ ts) all → Q ts all) → ((ts : List Lined) (all : List Statement) → Q ts all → P (lined k t ∷ ts) all) → Reads front k P → Reads (front ++ t ∷ []) (anonymous_after k t.token) Q
further front k t P Q f b r = record {
  on = λ rest all h. f (lined_from (anonymous_after k t.token) rest) all (r.on (t ∷ rest) all (subst (λ v. AreStatements (lined_from 0 v) all) (append_assoc front (t ∷ []) rest) h));
  back = λ rest all h. subst (λ v. AreStatements (lined_from 0 v) all) (sym (append_assoc front (t ∷ []) rest)) (r.back (t ∷ rest) all (b (lined_from (anonymous_after k t.token) rest) all h));
}

pub reads_begin : (front : List Spanned) (k : ℕ) (t : Spanned) (done : List Statement) (s : State) → step Starting (terminal_of k t.token) ≡ Some s → Reads front k (Between done) → Reads (front ++ t ∷ []) (anonymous_after k t.token) (Inside done t.line s)
reads_begin front k t done s e r = further front k t (Between done) (Inside done t.line s)
    (λ ts all h. let q = begin_on done (lined k t) ts all h in subst (λ v. Inside done t.line v ts all) (some_is (sym q.1 ∙ e)) q.2)
    (λ ts all h. begin_back done (lined k t) ts all s e h) r

pub reads_inside : (front : List Spanned) (k : ℕ) (t : Spanned) (done : List Statement) (line : ℕ) (s s' : State) → is_ended s ≡ false → step s (terminal_of k t.token) ≡ Some s' → Reads front k (Inside done line s) → Reads (front ++ t ∷ []) (anonymous_after k t.token) (Inside done line s')
reads_inside front k t done line s s' o e r = further front k t (Inside done line s) (Inside done line s')
    (λ ts all h. let q = inside_on done line s (lined k t) ts all o h in subst (λ v. Inside done line v ts all) (some_is (sym q.1 ∙ e)) q.2)
    (λ ts all h. inside_back done line s (lined k t) ts all s' e h) r

pub reads_end : (front : List Spanned) (k : ℕ) (done : List Statement) (line : ℕ) (h : Head) (ls : List Item) → Reads front k (Inside done line (Ended h ls)) → Reads front k (Between (done ++ statement_of line (clause_of h ls) ∷ []))
reads_end front k done line h ls r = record {
  on = λ rest all d. ended_on done line h ls (lined_from k rest) all (r.on rest all d);
  back = λ rest all d. r.back rest all (ended_back done line h ls (lined_from k rest) all d);
}

-- what stands between statements is a program, and the only one
pub reads_whole : (front : List Spanned) (k : ℕ) (done : List Statement) → Reads front k (Between done) → IsProgram front (program_of done)
reads_whole front k done r = subst (λ v. AreStatements (lined_from 0 v) done) (append-nil front) (r.back [] done ([], p.none, sym (append_nothing done)))
  where
    append_nothing : (ss : List Statement) → ss ++ [] ≡ ss
    append_nothing [] = refl
    append_nothing (s ∷ ss) = ap (λ v. s ∷ v) (append_nothing ss)

nothing_left : {ss : List Statement} → AreStatements [] ss → ss ≡ []
nothing_left p.none = refl

pub reads_only : (front : List Spanned) (k : ℕ) (done : List Statement) (q : Program) → Reads front k (Between done) → IsProgram front q → q.statements ≡ done
reads_only front k done q r h = go (r.on [] q.statements (subst (λ v. AreStatements (lined_from 0 v) q.statements) (sym (append-nil front)) h))
  where
    append_nothing : (ss : List Statement) → ss ++ [] ≡ ss
    append_nothing [] = refl
    append_nothing (s ∷ ss) = ap (λ v. s ∷ v) (append_nothing ss)

    go : Between done [] q.statements → q.statements ≡ done
    go (others, st, e) = e ∙ ap (λ v. done ++ v) (nothing_left st) ∙ append_nothing done

pub viable_between : (front : List Spanned) (k : ℕ) (done : List Statement) → Reads front k (Between done) → IsViable front
viable_between front k done r = record { rest = []; program = program_of done; whole = subst (λ v. AreStatements (lined_from 0 v) done) (sym (append-nil front)) (reads_whole front k done r) }

pub viable_inside : (front : List Spanned) (k : ℕ) (done : List Statement) (line : ℕ) (s : State) → Reads front k (Inside done line s) → IsViable front
viable_inside front k done line s r =
    let d = live s k in
    let all = done ++ statement_of line d.1 ∷ [] in
    record { rest = d.0; program = program_of all; whole = r.back d.0 all (record { front = lined_from k d.0; rest = []; clause = d.1; others = []; cut = sym (append_lined (lined_from k d.0)); leads = d.2; behind = p.none; total = refl }) }
  where
    append_lined : (ts : List Lined) → ts ++ [] ≡ ts
    append_lined [] = refl
    append_lined (t ∷ ts) = ap (λ v. t ∷ v) (append_lined ts)

no_way : (front : List Spanned) (k : ℕ) (t : Spanned) (P : List Lined → List Statement → Type 0) → ((ts : List Lined) (all : List Statement) → P (lined k t ∷ ts) all → ⊥) → Reads front k P → ¬ IsViable (front ++ t ∷ [])
no_way front k t P f r v = f (lined_from (anonymous_after k t.token) v.rest) v.program.statements (r.on (t ∷ v.rest) v.program.statements (subst (λ w. AreStatements (lined_from 0 w) v.program.statements) (append_assoc front (t ∷ []) v.rest) v.whole))

-- A refused token is the first that no program has there.
pub breaks_between : (front : List Spanned) (k : ℕ) (t : Spanned) (done : List Statement) → step Starting (terminal_of k t.token) ≡ None → Reads front k (Between done) → Breaks front t
breaks_between front k t done e r = record {
  before = viable_between front k done r;
  through = no_way front k t (Between done) (λ ts all h. let q = begin_on done (lined k t) ts all h in none_some (sym e ∙ q.1)) r;
}

pub breaks_inside : (front : List Spanned) (k : ℕ) (t : Spanned) (done : List Statement) (line : ℕ) (s : State) → is_ended s ≡ false → step s (terminal_of k t.token) ≡ None → Reads front k (Inside done line s) → Breaks front t
breaks_inside front k t done line s o e r = record {
  before = viable_inside front k done line s r;
  through = no_way front k t (Inside done line s) (λ ts all h. let q = inside_on done line s (lined k t) ts all o h in none_some (sym e ∙ q.1)) r;
}

-- The end inside a statement: a beginning, and no program.
pub stops_inside : (front : List Spanned) (k : ℕ) (done : List Statement) (line : ℕ) (s : State) → is_ended s ≡ false → Reads front k (Inside done line s) → Stops front
stops_inside front k done line s o r = record { before = viable_inside front k done line s r; whole = λ q h. go (r.on [] q.statements (subst (λ v. AreStatements (lined_from 0 v) q.statements) (sym (append-nil front)) h)) }
  where
    go2 : (ff rest : List Lined) (c : Clause) → ◌≡◌ {A = List Lined} [] (ff ++ rest) → Leads s (terminals ff) c → ⊥
    go2 [] rest c e l = leads_none s c o l
    go2 (f ∷ ff) rest c e l = cc

    go : {all : List Statement} → Inside done line s [] all → ⊥
    go d = go2 d.front d.rest d.clause d.cut d.leads
