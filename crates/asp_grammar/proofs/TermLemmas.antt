-- A step is exact: what leads from a state by a token leads from the next state without it.
use Rattle.std.proofs.Common.{◌≡◌, ℕ, zero, suc, false, List, [], ◌∷◌, ◌++◌, ◌⊎◌, inl, inr, refl, sym, ap, subst, ◌∙◌, append_assoc, true≢false}
use Rattle.std.specs.Prelude.{Option, Some, None, pos, ◌-ℤ◌}
use Rattle.alpha_outside.specs.declared.kinds.ArithOp.{ArithOp}
use Rattle.alpha_outside.specs.declared.kinds.ArithOp.TheVariants.{Add, Sub, Mul, Div}
use Rattle.asp_syntax.specs.declared.tree.Term.{Term}
use Rattle.asp_syntax.specs.declared.tree.Term.TheVariants as term
use Rattle.asp_syntax.specs.declared.tree.Item.{Item}
use Rattle.asp_syntax.specs.declared.tree.Item.TheVariants as item
use Rattle.asp_syntax.specs.declared.tree.Literal.TheVariants as literal
use Rattle.asp_syntax.specs.declared.tree.Element.{Element}
use Rattle.asp_syntax.specs.declared.tree.AggKind.{AggKind}
use Rattle.asp_syntax.specs.declared.tree.CompareOp.TheVariants.{LessEqual}
use Rattle.asp_syntax.specs.declared.tree.Head.{Head}
use Rattle.asp_syntax.specs.declared.tree.Head.TheVariants as head
use Rattle.asp_syntax.specs.declared.tree.Literal.{Literal}
use Rattle.asp_grammar.specs.Terminals.{Terminal}
use Rattle.asp_grammar.specs.Terminals as terminal
use Rattle.asp_grammar.specs.Grammar.{Clause, IsUnary, IsProduct, ContinuesProduct, ContinuesTerm, IsTerm, AreTerms, AreArguments, IsBody, IsCondition, AreNafs, IsSumSign, IsProductSign, begins_number}
use Rattle.asp_grammar.specs.Grammar as g
use Rattle.asp_grammar.specs.declared.state.Pending.{Pending}
use Rattle.asp_grammar.specs.declared.state.Pending.TheVariants.{Nothing, Waiting}
use Rattle.asp_grammar.specs.declared.state.Opening.{Opening}
use Rattle.asp_grammar.specs.declared.state.Owner.{Owner}
use Rattle.asp_grammar.specs.declared.state.Owner.TheVariants.{Chosen, Tuple}
use Rattle.asp_grammar.specs.declared.state.LiteralRole.TheVariants.{AsItem, InCondition}
use Rattle.asp_grammar.specs.declared.state.TermRole.{TermRole}
use Rattle.asp_grammar.specs.declared.state.TermRole.TheVariants.{BodyLeft, BodyRight, HeadLeft, HeadRight, ConditionLeft, ConditionRight, GuardRight}
use Rattle.asp_grammar.specs.declared.state.Frame.{Frame}
use Rattle.asp_grammar.specs.declared.state.Frame.TheVariants.{Group, Call}
use Rattle.asp_grammar.specs.declared.state.Purpose.{Purpose}
use Rattle.asp_grammar.specs.declared.state.Purpose.TheVariants.{ForTerm, ForArguments, ForTuple}
use Rattle.asp_grammar.specs.declared.state.State.{State}
use Rattle.asp_grammar.specs.declared.state.State.TheVariants.{BodyOpened, BraceDue, BraceOpened, CompareRead, ConditionOpened, LiteralDue, ArgumentsRead, OperandDue, SymbolRead, CallOpened, OperandRead, Ended}
use Rattle.asp_grammar.specs.Machine.{join, minuses, numbered, call_term, fresh_term, operand, item_next, head_next, owner_more, owner_closed, owner_next, condition_next, owned_next, guard_of, with_aggregate, whole_term_next, term_next, operand_next, symbol_next, call_next}
use Rattle.asp_grammar.specs.Continuations.{Continuation, AfterItem, HeadRead, AfterOwner, AfterCondition, AfterOwned, AfterColon, InTuple, TupleRead, AfterWholeTerm, AfterTerm, Chain, AfterArguments, AtOperand, under, Leads, Fresh, InArguments, Named, Opened, CallRead}

pub none_some : {A : Type 0} {x : A} → ◌≡◌ {A = Option A} None (Some x) → ⊥
none_some e = cc

pub never : {A : Type 0} {o : Option State} {s : State} → o ≡ None → o ≡ Some s → A
never n e = absurd (none_some (sym n ∙ e))

pub some_is : {A : Type 0} {x y : A} → Some x ≡ Some y → x ≡ y
some_is e = cc

-- what holds of the first token and the others
pub moved : {t u : Terminal} {ts r : List Terminal} (P : Terminal → List Terminal → Type 0) → t ∷ ts ≡ u ∷ r → P u r → P t ts
moved {t} {u} {ts} {r} P e h =
    let e1 : u ≡ t = cc in
    let e2 : r ≡ ts = cc in
    subst (λ v. P t v) e2 (subst (λ v. P v r) e1 h)

-- A token goes on to a state that leads where it led.
abbrev pub Goes : Option State → List Terminal → Clause → Type 0
Goes next ts c = (s : State) × (next ≡ Some s) × Leads s ts c

pub record Exact (P : Continuation) (next : Terminal → Option State) : Type 0 where
  pub on : (t : Terminal) (ts : List Terminal) (c : Clause) → P (t ∷ ts) c → Goes (next t) ts c
  pub back : (t : Terminal) (ts : List Terminal) (c : Clause) (s : State) → next t ≡ Some s → Leads s ts c → P (t ∷ ts) c

pub arrives : {s s' : State} (ts : List Terminal) (c : Clause) → Some s ≡ Some s' → Leads s' ts c → Leads s ts c
arrives {s} {s'} ts c e h = subst (λ v. Leads v ts c) (sym (some_is e)) h

-- after an item
pub item_on : (h : Head) (ls : List Item) (t : Terminal) (ts : List Terminal) (c : Clause) → AfterItem h ls (t ∷ ts) c → Goes (item_next h ls t) ts c
item_on h ls t ts c (inl p) = moved (λ t ts. Goes (item_next h ls t) ts c) p.0 (Ended h ls, refl, (refl, sym p.1))
item_on h ls t ts c (inr p) = moved (λ t ts. Goes (item_next h ls t) ts c) p.2 (LiteralDue (AsItem h ls), refl, (p.1, p.3, p.4))

pub item_back : (h : Head) (ls : List Item) (t : Terminal) (ts : List Terminal) (c : Clause) (s : State) → item_next h ls t ≡ Some s → Leads s ts c → AfterItem h ls (t ∷ ts) c
item_back h ls terminal.Comma ts c s e l = let d = arrives ts c e l in inr (ts, d.0, refl, d.1, d.2)
item_back h ls terminal.Dot ts c s e l = let d = arrives ts c e l in inl (ap (λ v. terminal.Dot ∷ v) d.0, sym d.1)
item_back h ls _ ts c s e l = absurd (none_some e)

-- after a head
pub head_on : (h : Head) (t : Terminal) (ts : List Terminal) (c : Clause) → HeadRead h (t ∷ ts) c → Goes (head_next h t) ts c
head_on h t ts c (inl p) = moved (λ t ts. Goes (head_next h t) ts c) p.0 (Ended h [], refl, (refl, sym p.1))
head_on h t ts c (inr p) = moved (λ t ts. Goes (head_next h t) ts c) p.1 (BodyOpened h, refl, p.2)

pub head_back : (h : Head) (t : Terminal) (ts : List Terminal) (c : Clause) (st : State) → head_next h t ≡ Some st → Leads st ts c → HeadRead h (t ∷ ts) c
head_back h terminal.Dot ts c st e l = let d = arrives ts c e l in inl (ap (λ v. terminal.Dot ∷ v) d.0, sym d.1)
head_back h terminal.If ts c st e l = inr (ts, refl, arrives ts c e l)
head_back h _ ts c st e l = absurd (none_some e)

-- after what a condition belongs to, and the condition
pub owner_on : (w : Owner) (ls : List Literal) (t : Terminal) (ts : List Terminal) (c : Clause) → AfterOwner w ls (t ∷ ts) c → Goes (owner_next w ls t) ts c
owner_on (Chosen l es a) ls t ts c (inl p) = moved (λ t ts. Goes (owner_next (Chosen l es a) ls t) ts c) p.1 (owner_closed (Chosen l es a) ls, refl, p.2)
owner_on (Chosen l es a) ls t ts c (inr p) = moved (λ t ts. Goes (owner_next (Chosen l es a) ls t) ts c) p.1 (owner_more (Chosen l es a) ls, refl, p.2)
owner_on (Tuple o k es xs) ls t ts c (inl p) = moved (λ t ts. Goes (owner_next (Tuple o k es xs) ls t) ts c) p.1 (owner_closed (Tuple o k es xs) ls, refl, p.2)
owner_on (Tuple o k es xs) ls t ts c (inr p) = moved (λ t ts. Goes (owner_next (Tuple o k es xs) ls t) ts c) p.1 (owner_more (Tuple o k es xs) ls, refl, p.2)

pub owner_back : (w : Owner) (ls : List Literal) (t : Terminal) (ts : List Terminal) (c : Clause) (st : State) → owner_next w ls t ≡ Some st → Leads st ts c → AfterOwner w ls (t ∷ ts) c
owner_back (Chosen l es a) ls terminal.CloseBrace ts c st e d = inl (ts, refl, arrives ts c e d)
owner_back (Chosen l es a) ls terminal.Semicolon ts c st e d = inr (ts, refl, arrives ts c e d)
owner_back (Tuple o k es xs) ls terminal.CloseBrace ts c st e d = inl (ts, refl, arrives ts c e d)
owner_back (Tuple o k es xs) ls terminal.Semicolon ts c st e d = inr (ts, refl, arrives ts c e d)
owner_back w ls _ ts c st e d = absurd (none_some e)

condition_agrees : (w : Owner) (ls : List Literal) (t : Terminal) (st : State) → owner_next w ls t ≡ Some st → condition_next w ls t ≡ Some st
condition_agrees w ls terminal.Comma st e = absurd (none_some e)
condition_agrees w ls _ st e = e

pub condition_on : (w : Owner) (ls : List Literal) (t : Terminal) (ts : List Terminal) (c : Clause) → AfterCondition w ls (t ∷ ts) c → Goes (condition_next w ls t) ts c
condition_on w ls t ts c (inl p) = let q = owner_on w ls t ts c p in (q.0, condition_agrees w ls t q.0 q.1, q.2)
condition_on w ls t ts c (inr p) = moved (λ t ts. Goes (condition_next w ls t) ts c) p.1 (LiteralDue (InCondition w ls), refl, p.2)

pub condition_back : (w : Owner) (ls : List Literal) (t : Terminal) (ts : List Terminal) (c : Clause) (st : State) → condition_next w ls t ≡ Some st → Leads st ts c → AfterCondition w ls (t ∷ ts) c
condition_back w ls terminal.Comma ts c st e d = inr (ts, refl, arrives ts c e d)
condition_back w ls t ts c st e d = inl (owner_back w ls t ts c st e d)

owned_agrees : (w : Owner) (t : Terminal) (st : State) → owner_next w [] t ≡ Some st → owned_next w t ≡ Some st
owned_agrees w terminal.Colon st e = absurd (none_some e)
owned_agrees w _ st e = e

owned_cases : (w : Owner) (c : Clause) {us r : List Terminal} {ls : List Literal} → IsCondition us r ls → (t : Terminal) (ts : List Terminal) → t ∷ ts ≡ us → AfterOwner w ls r c → Goes (owned_next w t) ts c
owned_cases w c g.absent t ts e h = let q = owner_on w [] t ts c (subst (λ v. AfterOwner w [] v c) (sym e) h) in (q.0, owned_agrees w t q.0 q.1, q.2)
owned_cases w c g.bare t ts e h = moved (λ t ts. Goes (owned_next w t) ts c) e (ConditionOpened w, refl, inl h)
owned_cases w c (g.given {r = r} {ls = ls} nafs) t ts e h = moved (λ t ts. Goes (owned_next w t) ts c) e (ConditionOpened w, refl, inr (r, ls, nafs, h))

pub owned_on : (w : Owner) (t : Terminal) (ts : List Terminal) (c : Clause) → AfterOwned w (t ∷ ts) c → Goes (owned_next w t) ts c
owned_on w t ts c (r, ls, cond, h) = owned_cases w c cond t ts refl h

colon_back : (w : Owner) (ts : List Terminal) (c : Clause) → AfterColon w ts c → AfterOwned w (terminal.Colon ∷ ts) c
colon_back w ts c (inl h) = (ts, [], g.bare, h)
colon_back w ts c (inr (r, ls, nafs, h)) = (r, ls, g.given nafs, h)

pub owned_back : (w : Owner) (t : Terminal) (ts : List Terminal) (c : Clause) (st : State) → owned_next w t ≡ Some st → Leads st ts c → AfterOwned w (t ∷ ts) c
owned_back w terminal.Colon ts c st e d = colon_back w ts c (arrives ts c e d)
owned_back w t ts c st e d = (t ∷ ts, [], g.absent, owner_back w [] t ts c st e d)

pub sum_in : {ts s : List Terminal} {y : Term} (P : Term → Continuation) (c : Clause) → IsTerm ts s y → P y s c → Fresh P ts c
sum_in P c (g.sum {s = s} {y = y} (g.product {r = r} {s = q} {x = x} {y = p} u mp) ms) h = (x, r, u, (p, y, q, s, mp, ms, h))

pub sum_out : (P : Term → Continuation) (ts : List Terminal) (c : Clause) → Fresh P ts c → (y : Term) × (s : List Terminal) × IsTerm ts s y × P y s c
sum_out P ts c (x, r, u, (y, z, q, s, mp, ms, h)) = (z, s, g.sum (g.product u mp) ms, h)

-- after a whole term that is no part of another
base_on : (b : TermRole) (x : Term) (t : Terminal) (ts : List Terminal) (c : Clause) → AfterWholeTerm b x (t ∷ ts) c → Goes (whole_term_next b x t) ts c
base_on (BodyLeft denied h ls) x t ts c (op, r, e, w) = moved (λ t ts. Goes (whole_term_next (BodyLeft denied h ls) x t) ts c) e (CompareRead denied h ls op x, refl, w)
base_on HeadLeft x t ts c (inl (op, r, e, w)) = moved (λ t ts. Goes (whole_term_next HeadLeft x t) ts c) e (BraceDue (Some (guard_of op x)), refl, w)
base_on HeadLeft x t ts c (inr (r, e, w)) = moved (λ t ts. Goes (whole_term_next HeadLeft x t) ts c) e (BraceOpened (Some (guard_of LessEqual x)), refl, w)
base_on (HeadRight l es op) x t ts c rest = head_on (head.Choice l es (Some (guard_of op x))) t ts c rest
base_on (ConditionLeft w ls) x t ts c (op, r, s, y, e, terms, rest) =
    moved (λ t ts. Goes (whole_term_next (ConditionLeft w ls) x t) ts c) e (fresh_term [] (ForTerm (ConditionRight w ls op x)), refl, sum_in (AfterTerm [] (ForTerm (ConditionRight w ls op x))) c terms rest)
base_on (ConditionRight w ls op x) y t ts c rest = condition_on w (ls ++ literal.Compare op x y ∷ []) t ts c rest
base_on (GuardRight o k es op) y t ts c rest = item_on o.head (with_aggregate o k es (Some (guard_of op y))) t ts c rest
base_on (BodyRight h ls op x) y t ts c rest = item_on h (ls ++ item.Plain (literal.Compare op x y) ∷ []) t ts c rest

base_back : (b : TermRole) (x : Term) (t : Terminal) (ts : List Terminal) (c : Clause) (s : State) → whole_term_next b x t ≡ Some s → Leads s ts c → AfterWholeTerm b x (t ∷ ts) c
base_back (BodyLeft denied h ls) x (terminal.Compare op) ts c s e l = (op, ts, refl, arrives ts c e l)
base_back (BodyLeft denied h ls) x _ ts c s e l = absurd (none_some e)
base_back HeadLeft x (terminal.Compare op) ts c s e l = inl (op, ts, refl, arrives ts c e l)
base_back HeadLeft x terminal.OpenBrace ts c s e l = inr (ts, refl, arrives ts c e l)
base_back HeadLeft x _ ts c s e l = absurd (none_some e)
base_back (HeadRight l es op) x t ts c s e d = head_back (head.Choice l es (Some (guard_of op x))) t ts c s e d
base_back (ConditionLeft w ls) x (terminal.Compare op) ts c s e q =
    let d = sum_out (AfterTerm [] (ForTerm (ConditionRight w ls op x))) ts c (arrives ts c e q) in
    (op, ts, d.1, d.0, refl, d.2, d.3)
base_back (ConditionLeft w ls) x _ ts c s e q = absurd (none_some e)
base_back (ConditionRight w ls op x) y t ts c s e d = condition_back w (ls ++ literal.Compare op x y ∷ []) t ts c s e d
base_back (GuardRight o k es op) y t ts c s e d = item_back o.head (with_aggregate o k es (Some (guard_of op y))) t ts c s e d
base_back (BodyRight h ls op x) y t ts c s e l = item_back h (ls ++ item.Plain (literal.Compare op x y) ∷ []) t ts c s e l

pub terms_in : {q r : List Terminal} {zs : List Term} (Q : List Term → Continuation) (front : List Term) (c : Clause) → AreTerms q (terminal.Close ∷ r) zs → Q (front ++ zs) r c → Fresh (InArguments Q front) q c
terms_in {r = r} {zs = zs} Q front c (g.last s) h = sum_in (InArguments Q front) c s (r, zs, inl (refl, refl), h)
terms_in {r = r} {zs = zs} Q front c (g.another {r = q} {xs = ys} s ts) h = sum_in (InArguments Q front) c s (r, zs, inr (q, ys, refl, ts, refl), h)

pub terms_out : (Q : List Term → Continuation) (front : List Term) (ts : List Terminal) (c : Clause) → Fresh (InArguments Q front) ts c → (r : List Terminal) × (zs : List Term) × AreTerms ts (terminal.Close ∷ r) zs × Q (front ++ zs) r c
terms_out Q front ts c f = go (sum_out (InArguments Q front) ts c f)
  where
    go : ((y : Term) × (s : List Terminal) × IsTerm ts s y × InArguments Q front y s c) → (r : List Terminal) × (zs : List Term) × AreTerms ts (terminal.Close ∷ r) zs × Q (front ++ zs) r c
    go (y, s, m, (r, ys, inl p, h)) = (r, ys, subst (λ v. AreTerms ts (terminal.Close ∷ r) v) (sym p.1) (g.last (subst (λ v. IsTerm ts v y) p.0 m)), h)
    go (y, s, m, (r, ys, inr p, h)) = (r, ys, subst (λ v. AreTerms ts (terminal.Close ∷ r) v) (sym p.4) (g.another (subst (λ v. IsTerm ts v y) p.2 m) p.3), h)

-- after an argument comes `)` or the next one
abbrev pub ArgsGo : (List Term → Continuation) → List Term → Term → Terminal → Continuation
ArgsGo Q front x t ts c = ((t ≡ terminal.Close) × Q (front ++ x ∷ []) ts c) ⊎ ((t ≡ terminal.Comma) × Fresh (InArguments Q (front ++ x ∷ [])) ts c)

args_on : (Q : List Term → Continuation) (front : List Term) (x : Term) (t : Terminal) (ts : List Terminal) (c : Clause) → InArguments Q front x (t ∷ ts) c → ArgsGo Q front x t ts c
args_on Q front x t ts c (r, ys, inl p, h) = moved (λ t ts. ArgsGo Q front x t ts c) p.0 (inl (refl, subst (λ v. Q (front ++ v) r c) p.1 h))
args_on Q front x t ts c (r, ys, inr p, h) = moved (λ t ts. ArgsGo Q front x t ts c) p.2
    (inr (refl, terms_in Q (front ++ x ∷ []) c p.3 (subst (λ v. Q v r c) (ap (λ v. front ++ v) p.4 ∙ sym (append_assoc front (x ∷ []) p.1)) h)))

args_close : (Q : List Term → Continuation) (front : List Term) (x : Term) (ts : List Terminal) (c : Clause) → Q (front ++ x ∷ []) ts c → InArguments Q front x (terminal.Close ∷ ts) c
args_close Q front x ts c h = (ts, x ∷ [], inl (refl, refl), h)

args_comma : (Q : List Term → Continuation) (front : List Term) (x : Term) (ts : List Terminal) (c : Clause) → Fresh (InArguments Q (front ++ x ∷ [])) ts c → InArguments Q front x (terminal.Comma ∷ ts) c
args_comma Q front x ts c f =
    let d = terms_out Q (front ++ x ∷ []) ts c f in
    (d.0, x ∷ d.1, inr (ts, d.1, refl, d.2, refl), subst (λ v. Q v d.0 c) (append_assoc front (x ∷ []) d.1) d.3)

-- the terms of a tuple, without an end of their own
pub tuple_in : {q r : List Terminal} {zs : List Term} (Q : List Term → Continuation) (front : List Term) (c : Clause) → AreTerms q r zs → Q (front ++ zs) r c → Fresh (InTuple Q front) q c
tuple_in {r = r} {zs = zs} Q front c (g.last s) h = sum_in (InTuple Q front) c s (r, zs, inl (refl, refl), h)
tuple_in {r = r} {zs = zs} Q front c (g.another {r = q} {xs = ys} s ts) h = sum_in (InTuple Q front) c s (r, zs, inr (q, ys, refl, ts, refl), h)

pub tuple_out : (Q : List Term → Continuation) (front : List Term) (ts : List Terminal) (c : Clause) → Fresh (InTuple Q front) ts c → (r : List Terminal) × (zs : List Term) × AreTerms ts r zs × Q (front ++ zs) r c
tuple_out Q front ts c f = go (sum_out (InTuple Q front) ts c f)
  where
    go : ((y : Term) × (s : List Terminal) × IsTerm ts s y × InTuple Q front y s c) → (r : List Terminal) × (zs : List Term) × AreTerms ts r zs × Q (front ++ zs) r c
    go (y, s, m, (r, ys, inl p, h)) = (r, ys, subst (λ v. AreTerms ts r v) (sym p.1) (g.last (subst (λ v. IsTerm ts v y) p.0 m)), h)
    go (y, s, m, (r, ys, inr p, h)) = (r, ys, subst (λ v. AreTerms ts r v) (sym p.4) (g.another (subst (λ v. IsTerm ts v y) p.2 m) p.3), h)

-- after a term of a tuple comes another, or what follows the tuple
abbrev pub TupleGoes : (List Term → Continuation) → List Term → Term → Terminal → Continuation
TupleGoes Q front x t ts c = Q (front ++ x ∷ []) (t ∷ ts) c ⊎ ((t ≡ terminal.Comma) × Fresh (InTuple Q (front ++ x ∷ [])) ts c)

tail_on : (Q : List Term → Continuation) (front : List Term) (x : Term) (t : Terminal) (ts : List Terminal) (c : Clause) → InTuple Q front x (t ∷ ts) c → TupleGoes Q front x t ts c
tail_on Q front x t ts c (r, ys, inl p, h) = inl (subst (λ v. Q (front ++ x ∷ []) v c) (sym p.0) (subst (λ v. Q (front ++ v) r c) p.1 h))
tail_on Q front x t ts c (r, ys, inr p, h) = moved (λ t ts. TupleGoes Q front x t ts c) p.2
    (inr (refl, tuple_in Q (front ++ x ∷ []) c p.3 (subst (λ v. Q v r c) (ap (λ v. front ++ v) p.4 ∙ sym (append_assoc front (x ∷ []) p.1)) h)))

tail_end : (Q : List Term → Continuation) (front : List Term) (x : Term) (ts : List Terminal) (c : Clause) → Q (front ++ x ∷ []) ts c → InTuple Q front x ts c
tail_end Q front x ts c h = (ts, x ∷ [], inl (refl, refl), h)

tail_comma : (Q : List Term → Continuation) (front : List Term) (x : Term) (ts : List Terminal) (c : Clause) → Fresh (InTuple Q (front ++ x ∷ [])) ts c → InTuple Q front x (terminal.Comma ∷ ts) c
tail_comma Q front x ts c f =
    let d = tuple_out Q (front ++ x ∷ []) ts c f in
    (d.0, x ∷ d.1, inr (ts, d.1, refl, d.2, refl), subst (λ v. Q v d.0 c) (append_assoc front (x ∷ []) d.1) d.3)

tuple_no_comma : (o : Opening) (k : AggKind) (es : List Element) (xs : List Term) (x : Term) (t : Terminal) (st : State) → owned_next (Tuple o k es (xs ++ x ∷ [])) t ≡ Some st → term_next [] (ForTuple o k es xs) x t ≡ Some st
tuple_no_comma o k es xs x terminal.Comma st e = absurd (none_some e)
tuple_no_comma o k es xs x _ st e = e

-- after a whole term
term_on : (K : List Frame) (B : Purpose) (x : Term) (t : Terminal) (ts : List Terminal) (c : Clause) → AfterTerm K B x (t ∷ ts) c → Goes (term_next K B x t) ts c
term_on [] (ForTerm b) x t ts c h = base_on b x t ts c h
term_on [] (ForArguments b negated n xs) x t ts c h = go (args_on (AfterArguments b negated n) xs x t ts c h)
  where
    go : ArgsGo (AfterArguments b negated n) xs x t ts c → Goes (term_next [] (ForArguments b negated n xs) x t) ts c
    go (inl p) = subst (λ t. Goes (term_next [] (ForArguments b negated n xs) x t) ts c) (sym p.0) (ArgumentsRead b negated n (xs ++ x ∷ []), refl, p.1)
    go (inr p) = subst (λ t. Goes (term_next [] (ForArguments b negated n xs) x t) ts c) (sym p.0) (fresh_term [] (ForArguments b negated n (xs ++ x ∷ [])), refl, p.1)
term_on [] (ForTuple o k es xs) x t ts c h = go (tail_on (TupleRead o k es) xs x t ts c h)
  where
    go : TupleGoes (TupleRead o k es) xs x t ts c → Goes (term_next [] (ForTuple o k es xs) x t) ts c
    go (inl p) = let q = owned_on (Tuple o k es (xs ++ x ∷ [])) t ts c p in (q.0, tuple_no_comma o k es xs x t q.0 q.1, q.2)
    go (inr p) = subst (λ t. Goes (term_next [] (ForTuple o k es xs) x t) ts c) (sym p.0) (fresh_term [] (ForTuple o k es (xs ++ x ∷ [])), refl, p.1)
term_on (Group s m k ∷ K) B x t ts c (r, e, h) = moved (λ t ts. Goes (term_next (Group s m k ∷ K) B x t) ts c) e (OperandRead s (join m (minuses k x)) K B, refl, h)
term_on (Call s m k n xs ∷ K) B x t ts c h = go (args_on (CallRead s m k K B n) xs x t ts c h)
  where
    go : ArgsGo (CallRead s m k K B n) xs x t ts c → Goes (term_next (Call s m k n xs ∷ K) B x t) ts c
    go (inl p) = subst (λ t. Goes (term_next (Call s m k n xs ∷ K) B x t) ts c) (sym p.0) (OperandRead s (join m (minuses k (call_term n (xs ++ x ∷ [])))) K B, refl, p.1)
    go (inr p) = subst (λ t. Goes (term_next (Call s m k n xs ∷ K) B x t) ts c) (sym p.0) (fresh_term (Call s m k n (xs ++ x ∷ []) ∷ K) B, refl, p.1)

term_back : (K : List Frame) (B : Purpose) (x : Term) (t : Terminal) (ts : List Terminal) (c : Clause) (st : State) → term_next K B x t ≡ Some st → Leads st ts c → AfterTerm K B x (t ∷ ts) c
term_back [] (ForTerm b) x t ts c st e l = base_back b x t ts c st e l
term_back [] (ForArguments b negated n xs) x terminal.Close ts c st e l = args_close (AfterArguments b negated n) xs x ts c (arrives ts c e l)
term_back [] (ForArguments b negated n xs) x terminal.Comma ts c st e l = args_comma (AfterArguments b negated n) xs x ts c (arrives ts c e l)
term_back [] (ForArguments b negated n xs) x _ ts c st e l = absurd (none_some e)
term_back [] (ForTuple o k es xs) x terminal.Comma ts c st e l = tail_comma (TupleRead o k es) xs x ts c (arrives ts c e l)
term_back [] (ForTuple o k es xs) x t ts c st e l = tail_end (TupleRead o k es) xs x (t ∷ ts) c (owned_back (Tuple o k es (xs ++ x ∷ [])) t ts c st e l)
term_back (Group s m k ∷ K) B x terminal.Close ts c st e l = (ts, refl, arrives ts c e l)
term_back (Group s m k ∷ K) B x _ ts c st e l = absurd (none_some e)
term_back (Call s m k n xs ∷ K) B x terminal.Close ts c st e l = args_close (CallRead s m k K B n) xs x ts c (arrives ts c e l)
term_back (Call s m k n xs ∷ K) B x terminal.Comma ts c st e l = args_comma (CallRead s m k K B n) xs x ts c (arrives ts c e l)
term_back (Call s m k n xs ∷ K) B x _ ts c st e l = absurd (none_some e)

-- tokens that nothing takes after a whole term
pub data Refused : Terminal → Type 0 where
  star : Refused terminal.Star
  slash : Refused terminal.Slash
  plus : Refused terminal.Plus
  minus : Refused terminal.Minus
  opened : Refused terminal.Open
  foreign : Refused terminal.Foreign
  number : (n : ℕ) → Refused (terminal.Number n)

pub condition_refuses : (w : Owner) (ls : List Literal) {t : Terminal} → Refused t → condition_next w ls t ≡ None
condition_refuses w ls star = refl
condition_refuses w ls slash = refl
condition_refuses w ls plus = refl
condition_refuses w ls minus = refl
condition_refuses w ls opened = refl
condition_refuses w ls foreign = refl
condition_refuses w ls (number v) = refl

base_refuses : (b : TermRole) (x : Term) {t : Terminal} → Refused t → whole_term_next b x t ≡ None
base_refuses (ConditionRight w ls op y) x r = condition_refuses w (ls ++ literal.Compare op y x ∷ []) r
base_refuses (BodyLeft denied h ls) x star = refl
base_refuses (BodyLeft denied h ls) x slash = refl
base_refuses (BodyLeft denied h ls) x plus = refl
base_refuses (BodyLeft denied h ls) x minus = refl
base_refuses (BodyLeft denied h ls) x opened = refl
base_refuses (BodyLeft denied h ls) x foreign = refl
base_refuses (BodyLeft denied h ls) x (number v) = refl
base_refuses (BodyRight h ls op y) x star = refl
base_refuses (BodyRight h ls op y) x slash = refl
base_refuses (BodyRight h ls op y) x plus = refl
base_refuses (BodyRight h ls op y) x minus = refl
base_refuses (BodyRight h ls op y) x opened = refl
base_refuses (BodyRight h ls op y) x foreign = refl
base_refuses (BodyRight h ls op y) x (number v) = refl
base_refuses HeadLeft x star = refl
base_refuses HeadLeft x slash = refl
base_refuses HeadLeft x plus = refl
base_refuses HeadLeft x minus = refl
base_refuses HeadLeft x opened = refl
base_refuses HeadLeft x foreign = refl
base_refuses HeadLeft x (number v) = refl
base_refuses (HeadRight l es op) x star = refl
base_refuses (HeadRight l es op) x slash = refl
base_refuses (HeadRight l es op) x plus = refl
base_refuses (HeadRight l es op) x minus = refl
base_refuses (HeadRight l es op) x opened = refl
base_refuses (HeadRight l es op) x foreign = refl
base_refuses (HeadRight l es op) x (number v) = refl
base_refuses (ConditionLeft w ls) x star = refl
base_refuses (ConditionLeft w ls) x slash = refl
base_refuses (ConditionLeft w ls) x plus = refl
base_refuses (ConditionLeft w ls) x minus = refl
base_refuses (ConditionLeft w ls) x opened = refl
base_refuses (ConditionLeft w ls) x foreign = refl
base_refuses (ConditionLeft w ls) x (number v) = refl
base_refuses (GuardRight o k es op) x star = refl
base_refuses (GuardRight o k es op) x slash = refl
base_refuses (GuardRight o k es op) x plus = refl
base_refuses (GuardRight o k es op) x minus = refl
base_refuses (GuardRight o k es op) x opened = refl
base_refuses (GuardRight o k es op) x foreign = refl
base_refuses (GuardRight o k es op) x (number v) = refl

pub term_refuses : (K : List Frame) (B : Purpose) (x : Term) {t : Terminal} → Refused t → term_next K B x t ≡ None
term_refuses [] (ForTerm b) x r = base_refuses b x r
term_refuses [] (ForArguments b negated n xs) x star = refl
term_refuses [] (ForArguments b negated n xs) x slash = refl
term_refuses [] (ForArguments b negated n xs) x plus = refl
term_refuses [] (ForArguments b negated n xs) x minus = refl
term_refuses [] (ForArguments b negated n xs) x opened = refl
term_refuses [] (ForArguments b negated n xs) x foreign = refl
term_refuses [] (ForArguments b negated n xs) x (number v) = refl
term_refuses [] (ForTuple o k es xs) x star = refl
term_refuses [] (ForTuple o k es xs) x slash = refl
term_refuses [] (ForTuple o k es xs) x plus = refl
term_refuses [] (ForTuple o k es xs) x minus = refl
term_refuses [] (ForTuple o k es xs) x opened = refl
term_refuses [] (ForTuple o k es xs) x foreign = refl
term_refuses [] (ForTuple o k es xs) x (number v) = refl
term_refuses (Group s m k ∷ K) B x star = refl
term_refuses (Group s m k ∷ K) B x slash = refl
term_refuses (Group s m k ∷ K) B x plus = refl
term_refuses (Group s m k ∷ K) B x minus = refl
term_refuses (Group s m k ∷ K) B x opened = refl
term_refuses (Group s m k ∷ K) B x foreign = refl
term_refuses (Group s m k ∷ K) B x (number v) = refl
term_refuses (Call s m k n xs ∷ K) B x star = refl
term_refuses (Call s m k n xs ∷ K) B x slash = refl
term_refuses (Call s m k n xs ∷ K) B x plus = refl
term_refuses (Call s m k n xs ∷ K) B x minus = refl
term_refuses (Call s m k n xs ∷ K) B x opened = refl
term_refuses (Call s m k n xs ∷ K) B x foreign = refl
term_refuses (Call s m k n xs ∷ K) B x (number v) = refl

operand_agrees : (s : Pending) (x : Term) (K : List Frame) (B : Purpose) (t : Terminal) (st : State) → term_next K B (join s x) t ≡ Some st → operand_next s x K B t ≡ Some st
operand_agrees s x K B terminal.Star st e = never (term_refuses K B (join s x) star) e
operand_agrees s x K B terminal.Slash st e = never (term_refuses K B (join s x) slash) e
operand_agrees s x K B terminal.Plus st e = never (term_refuses K B (join s x) plus) e
operand_agrees s x K B terminal.Minus st e = never (term_refuses K B (join s x) minus) e
operand_agrees s x K B _ st e = e

chain_sum : (s : Pending) (x : Term) (K : List Frame) (B : Purpose) (t : Terminal) (ts : List Terminal) (c : Clause) (r q : List Terminal) (op : ArithOp) (y z : Term) → IsSumSign t op → IsProduct ts r y → ContinuesTerm (term.Arith op (join s x) y) r q z → AfterTerm K B z q c → Goes (operand_next s x K B t) ts c
chain_sum s x K B t ts c r q op y z g.plus (g.product {r = a} {x = w} u mp) ms h = (OperandDue (Waiting Add (join s x)) Nothing 0 K B, refl, (w, a, u, (y, z, r, q, mp, ms, h)))
chain_sum s x K B t ts c r q op y z g.minus (g.product {r = a} {x = w} u mp) ms h = (OperandDue (Waiting Sub (join s x)) Nothing 0 K B, refl, (w, a, u, (y, z, r, q, mp, ms, h)))

chain_product : (s : Pending) (x : Term) (K : List Frame) (B : Purpose) (t : Terminal) (ts : List Terminal) (c : Clause) (a r q : List Terminal) (op : ArithOp) (w y z : Term) → IsProductSign t op → IsUnary ts a w → ContinuesProduct (term.Arith op x w) a r y → ContinuesTerm (join s y) r q z → AfterTerm K B z q c → Goes (operand_next s x K B t) ts c
chain_product s x K B t ts c a r q op w y z g.star u mp ms h = (OperandDue s (Waiting Mul x) 0 K B, refl, (w, a, u, (y, z, r, q, mp, ms, h)))
chain_product s x K B t ts c a r q op w y z g.slash u mp ms h = (OperandDue s (Waiting Div x) 0 K B, refl, (w, a, u, (y, z, r, q, mp, ms, h)))

operand_of_term : (s : Pending) (x : Term) (K : List Frame) (B : Purpose) (t : Terminal) (ts : List Terminal) (c : Clause) → Goes (term_next K B (join s x) t) ts c → Goes (operand_next s x K B t) ts c
operand_of_term s x K B t ts c (st, e, l) = (st, operand_agrees s x K B t st e, l)

chain_on2 : (s : Pending) (x : Term) (K : List Frame) (B : Purpose) (t : Terminal) (ts : List Terminal) (c : Clause) {q : List Terminal} {z : Term} → ContinuesTerm (join s x) (t ∷ ts) q z → AfterTerm K B z q c → Goes (operand_next s x K B t) ts c
chain_on2 s x K B t ts c {q} {z} (g.summand {op = op} {y = y} {r = r} sign p ms) h = chain_sum s x K B t ts c r q op y z sign p ms h
chain_on2 s x K B t ts c g.no_summand h = operand_of_term s x K B t ts c (term_on K B (join s x) t ts c h)

chain_on1 : (s : Pending) (x : Term) (K : List Frame) (B : Purpose) (t : Terminal) (ts : List Terminal) (c : Clause) {r q : List Terminal} {y z : Term} → ContinuesProduct x (t ∷ ts) r y → ContinuesTerm (join s y) r q z → AfterTerm K B z q c → Goes (operand_next s x K B t) ts c
chain_on1 s x K B t ts c {r} {q} {y} {z} (g.factor {op = op} {y = w} {r = a} sign u mp) ms h = chain_product s x K B t ts c a r q op w y z sign u mp ms h
chain_on1 s x K B t ts c g.no_factor ms h = chain_on2 s x K B t ts c ms h

pub chain_on : (s : Pending) (x : Term) (K : List Frame) (B : Purpose) (t : Terminal) (ts : List Terminal) (c : Clause) → Chain (AfterTerm K B) s x (t ∷ ts) c → Goes (operand_next s x K B t) ts c
chain_on s x K B t ts c (y, z, r, q, mp, ms, h) = chain_on1 s x K B t ts c mp ms h

pub chain_back : (s : Pending) (x : Term) (K : List Frame) (B : Purpose) (t : Terminal) (ts : List Terminal) (c : Clause) (st : State) → operand_next s x K B t ≡ Some st → Leads st ts c → Chain (AfterTerm K B) s x (t ∷ ts) c
chain_back s x K B terminal.Star ts c st e l =
    let (w, a, u, (y, z, r, q, mp, ms, h)) = arrives ts c e l in (y, z, r, q, g.factor g.star u mp, ms, h)
chain_back s x K B terminal.Slash ts c st e l =
    let (w, a, u, (y, z, r, q, mp, ms, h)) = arrives ts c e l in (y, z, r, q, g.factor g.slash u mp, ms, h)
chain_back s x K B terminal.Plus ts c st e l =
    let (w, a, u, (y, z, r, q, mp, ms, h)) = arrives ts c e l in (x, z, terminal.Plus ∷ ts, q, g.no_factor, g.summand g.plus (g.product u mp) ms, h)
chain_back s x K B terminal.Minus ts c st e l =
    let (w, a, u, (y, z, r, q, mp, ms, h)) = arrives ts c e l in (x, z, terminal.Minus ∷ ts, q, g.no_factor, g.summand g.minus (g.product u mp) ms, h)
chain_back s x K B t ts c st e l = (x, join s x, t ∷ ts, t ∷ ts, g.no_factor, g.no_summand, term_back K B (join s x) t ts c st e l)

-- k minus signs before a number, or before an operand that begins with none
abbrev pub Under : ℕ → List Terminal → List Terminal → Term → Type 0
Under k us r x = ((n : ℕ) × (us ≡ terminal.Number n ∷ r) × (x ≡ numbered k n)) ⊎ ((y : Term) × (begins_number us ≡ false) × IsUnary us r y × (x ≡ minuses k y))

minus_cases : {ts r : List Terminal} {x : Term} → IsUnary (terminal.Minus ∷ ts) r x → ((n : ℕ) × (ts ≡ terminal.Number n ∷ r) × (x ≡ term.Int (pos 0 -ℤ pos n))) ⊎ ((y : Term) × (begins_number ts ≡ false) × IsUnary ts r y × (x ≡ term.Minus y))
minus_cases (g.negative {n = n}) = inl (n, refl, refl)
minus_cases (g.minus {x = y} e u) = inr (y, e, u, refl)

number_first : {us r : List Terminal} {x : Term} → IsUnary us r x → Under 0 us r x
number_first (g.number {n = n}) = inl (n, refl, refl)
number_first (g.negative {n = n}) = inr (_, refl, g.negative, refl)
number_first (g.minus e u) = inr (_, refl, g.minus e u, refl)
number_first (g.group s) = inr (_, refl, g.group s, refl)
number_first g.symbol = inr (_, refl, g.symbol, refl)
number_first g.empty_call = inr (_, refl, g.empty_call, refl)
number_first (g.call s) = inr (_, refl, g.call s, refl)
number_first g.text = inr (_, refl, g.text, refl)
number_first g.variable = inr (_, refl, g.variable, refl)
number_first g.anonymous = inr (_, refl, g.anonymous, refl)

negative_under : (k : ℕ) (n : ℕ) (us r : List Terminal) (x : Term) → under k us ≡ terminal.Number n ∷ r → x ≡ term.Int (pos 0 -ℤ pos n) → Under (suc k) us r x
negative_under zero n us r x e f = inl (n, e, f)
negative_under (suc k) n us r x e f = absurd cc

one_deeper : (k : ℕ) (us r : List Terminal) (x y : Term) → begins_number (under k us) ≡ false → x ≡ term.Minus y → Under k us r y → Under (suc k) us r x
one_deeper k us r x y b f (inr p) = inr (p.0, p.1, p.2, f ∙ ap term.Minus p.3)
one_deeper zero us r x y b f (inl p) = absurd (true≢false (sym (ap begins_number p.1) ∙ b))
one_deeper (suc k) us r x y b f (inl p) = inl (p.0, p.1, f ∙ ap term.Minus p.2)

pub unsigned : (k : ℕ) (us r : List Terminal) (x : Term) → IsUnary (under k us) r x → Under k us r x
unsigned zero us r x u = number_first u
unsigned (suc k) us r x u = go (minus_cases u) (λ y v. unsigned k us r y v)
  where
    go : ((n : ℕ) × (under k us ≡ terminal.Number n ∷ r) × (x ≡ term.Int (pos 0 -ℤ pos n))) ⊎ ((y : Term) × (begins_number (under k us) ≡ false) × IsUnary (under k us) r y × (x ≡ term.Minus y)) → ((y : Term) → IsUnary (under k us) r y → Under k us r y) → Under (suc k) us r x
    go (inl p) ih = negative_under k p.0 us r x p.1 p.2
    go (inr p) ih = one_deeper k us r x p.0 p.1 p.3 (ih p.0 p.2)

under_minus : (k : ℕ) (ts : List Terminal) → under k (terminal.Minus ∷ ts) ≡ under (suc k) ts
under_minus zero ts = refl
under_minus (suc k) ts = ap (λ v. terminal.Minus ∷ v) (under_minus k ts)

signed_number : (k n : ℕ) (r : List Terminal) → IsUnary (under k (terminal.Number n ∷ r)) r (numbered k n)
signed_number zero n r = g.number
signed_number (suc zero) n r = g.negative
signed_number (suc (suc k)) n r = g.minus refl (signed_number (suc k) n r)

not_number : (k : ℕ) (us : List Terminal) → begins_number us ≡ false → begins_number (under k us) ≡ false
not_number zero us b = b
not_number (suc k) us b = refl

signed_operand : (k : ℕ) (us r : List Terminal) (x : Term) → begins_number us ≡ false → IsUnary us r x → IsUnary (under k us) r (minuses k x)
signed_operand zero us r x b u = u
signed_operand (suc k) us r x b u = g.minus (not_number k us b) (signed_operand k us r x b u)

-- a term that begins with a name
pub called_with : {n : List ℕ} {ts r : List Terminal} {x : Term} → IsUnary (terminal.Id n ∷ ts) r x → (xs : List Term) × AreArguments ts r xs × (x ≡ call_term n xs)
called_with g.symbol = ([], g.none, refl)
called_with g.empty_call = ([], g.empty, refl)
called_with (g.call (g.last {x = x} s)) = (x ∷ [], g.some (g.last s), refl)
called_with (g.call (g.another {x = x} {xs = xs} s ts)) = (x ∷ xs, g.some (g.another s ts), refl)

pub unary_with : {n : List ℕ} {ts r : List Terminal} {xs : List Term} → AreArguments ts r xs → IsUnary (terminal.Id n ∷ ts) r (call_term n xs)
unary_with g.none = g.symbol
unary_with g.empty = g.empty_call
unary_with (g.some (g.last s)) = g.call (g.last s)
unary_with (g.some (g.another s ts)) = g.call (g.another s ts)

-- the operand after the signs
module _ (s m : Pending) (k : ℕ) (K : List Frame) (B : Purpose) (c : Clause) where
  abbrev pub At : Terminal → List Terminal → Type 0
  At t ts = Goes (operand s m k K B t) ts c

  abbrev pub After : Term → List Terminal → Type 0
  After x r = Chain (AfterTerm K B) s (join m x) r c

  named_on : (n : List ℕ) (ts r : List Terminal) (y : Term) → IsUnary (terminal.Id n ∷ ts) r y → After (minuses k y) r → Named (CallRead s m k K B n) ts c
  named_on n ts r y u h = go (called_with u)
    where
      go : ((xs : List Term) × AreArguments ts r xs × (y ≡ call_term n xs)) → Named (CallRead s m k K B n) ts c
      go (xs, a, f) = (r, xs, a, subst (λ v. After (minuses k v) r) f h)

  unary_on : {us r : List Terminal} {y : Term} → IsUnary us r y → (t : Terminal) (ts : List Terminal) → t ∷ ts ≡ us → begins_number us ≡ false → After (minuses k y) r → AtOperand s m k K B us c → At t ts
  unary_on (g.number {n = n}) t ts e b h w = absurd (true≢false b)
  unary_on (g.text {n = n} {r = r}) t ts e b h w = moved At e (OperandRead s (join m (minuses k (term.Text n))) K B, refl, h)
  unary_on (g.variable {n = n}) t ts e b h w = moved At e (OperandRead s (join m (minuses k (term.Variable n))) K B, refl, h)
  unary_on (g.anonymous {n = n}) t ts e b h w = moved At e (OperandRead s (join m (minuses k (term.Anonymous n))) K B, refl, h)
  unary_on (g.symbol {n = n} {r = r}) t ts e b h w = moved At e (SymbolRead s m k K B n, refl, named_on n r r (term.Symbol n) g.symbol h)
  unary_on (g.empty_call {n = n} {r = r}) t ts e b h w = moved At e (SymbolRead s m k K B n, refl, named_on n (terminal.Open ∷ terminal.Close ∷ r) r (term.Symbol n) g.empty_call h)
  unary_on (g.call {n = n} {ts = us} {r = r} {xs = xs} args) t ts e b h w = moved At e (SymbolRead s m k K B n, refl, named_on n (terminal.Open ∷ us) r (term.Fun n xs) (g.call args) h)
  unary_on (g.group {ts = us} {r = r} {x = x} sm) t ts e b h w = moved At e (fresh_term (Group s m k ∷ K) B, refl, sum_in (AfterTerm (Group s m k ∷ K) B) c sm (r, refl, h))
  unary_on (g.negative {n = n} {r = r}) t ts e b h w = moved At e (OperandDue s m (suc k) K B, refl, subst (λ v. (x : Term) × (q : List Terminal) × IsUnary v q x × After x q) (under_minus k (terminal.Number n ∷ r)) w)
  unary_on (g.minus {ts = us} f u) t ts e b h w = moved At e (OperandDue s m (suc k) K B, refl, subst (λ v. (x : Term) × (q : List Terminal) × IsUnary v q x × After x q) (under_minus k us) w)

  pub operand_on : (t : Terminal) (ts : List Terminal) → AtOperand s m k K B (t ∷ ts) c → At t ts
  operand_on t ts (x, r, u, h) = go (unsigned k (t ∷ ts) r x u)
    where
      go : Under k (t ∷ ts) r x → At t ts
      go (inl p) = moved At p.1 (OperandRead s (join m (numbered k p.0)) K B, refl, subst (λ v. After v r) p.2 h)
      go (inr p) = unary_on p.2 t ts refl p.1 (subst (λ v. After v r) p.3 h) (x, r, u, h)

  pub operand_back : (t : Terminal) (ts : List Terminal) (st : State) → operand s m k K B t ≡ Some st → Leads st ts c → AtOperand s m k K B (t ∷ ts) c
  operand_back terminal.Minus ts st e l = subst (λ v. (x : Term) × (q : List Terminal) × IsUnary v q x × After x q) (sym (under_minus k ts)) (arrives ts c e l)
  operand_back terminal.Open ts st e l = go (sum_out (AfterTerm (Group s m k ∷ K) B) ts c (arrives ts c e l))
    where
      go : ((y : Term) × (q : List Terminal) × IsTerm ts q y × AfterTerm (Group s m k ∷ K) B y q c) → AtOperand s m k K B (terminal.Open ∷ ts) c
      go (y, q, sm, (r, f, h)) = (minuses k y, r, signed_operand k (terminal.Open ∷ ts) r y refl (g.group (subst (λ v. IsTerm ts v y) f sm)), h)
  operand_back (terminal.Id n) ts st e l = go (arrives ts c e l)
    where
      go : Named (CallRead s m k K B n) ts c → AtOperand s m k K B (terminal.Id n ∷ ts) c
      go (r, xs, a, h) = (minuses k (call_term n xs), r, signed_operand k (terminal.Id n ∷ ts) r (call_term n xs) refl (unary_with a), h)
  operand_back (terminal.Number n) ts st e l = (numbered k n, ts, signed_number k n ts, arrives ts c e l)
  operand_back (terminal.Text n) ts st e l = (minuses k (term.Text n), ts, signed_operand k (terminal.Text n ∷ ts) ts (term.Text n) refl g.text, arrives ts c e l)
  operand_back (terminal.Variable n) ts st e l = (minuses k (term.Variable n), ts, signed_operand k (terminal.Variable n ∷ ts) ts (term.Variable n) refl g.variable, arrives ts c e l)
  operand_back (terminal.Anonymous n) ts st e l = (minuses k (term.Anonymous n), ts, signed_operand k (terminal.Anonymous n ∷ ts) ts (term.Anonymous n) refl g.anonymous, arrives ts c e l)
  operand_back _ ts st e l = absurd (none_some e)

-- after a name comes `(`, or what follows it without arguments
abbrev pub NameGoes : (List Term → Continuation) → Terminal → Continuation
NameGoes Q t ts c = Q [] (t ∷ ts) c ⊎ ((t ≡ terminal.Open) × Opened Q ts c)

pub name_on : (Q : List Term → Continuation) (t : Terminal) (ts : List Terminal) (c : Clause) → Named Q (t ∷ ts) c → NameGoes Q t ts c
name_on Q t ts c (r, xs, a, h) = go a t ts refl h
  where
    go : {us r : List Terminal} {xs : List Term} → AreArguments us r xs → (t : Terminal) (ts : List Terminal) → t ∷ ts ≡ us → Q xs r c → NameGoes Q t ts c
    go g.none t ts e h = inl (subst (λ v. Q [] v c) (sym e) h)
    go (g.empty {r = r}) t ts e h = moved (λ t ts. NameGoes Q t ts c) e (inr (refl, inl (r, refl, h)))
    go (g.some args) t ts e h = moved (λ t ts. NameGoes Q t ts c) e (inr (refl, inr (terms_in Q [] c args h)))

pub name_plain : (Q : List Term → Continuation) (ts : List Terminal) (c : Clause) → Q [] ts c → Named Q ts c
name_plain Q ts c h = (ts, [], g.none, h)

pub name_open : (Q : List Term → Continuation) (ts : List Terminal) (c : Clause) → Opened Q ts c → Named Q (terminal.Open ∷ ts) c
name_open Q ts c (inl (r, e, h)) = (r, [], subst (λ v. AreArguments (terminal.Open ∷ v) r []) (sym e) g.empty, h)
name_open Q ts c (inr f) = let d = terms_out Q [] ts c f in (d.0, d.1, g.some d.2, d.3)

-- after a name and `(` comes `)` or an argument
abbrev pub OpenGoes : (List Term → Continuation) → Terminal → Continuation
OpenGoes Q t ts c = ((t ≡ terminal.Close) × Q [] ts c) ⊎ Fresh (InArguments Q []) (t ∷ ts) c

pub open_on : (Q : List Term → Continuation) (t : Terminal) (ts : List Terminal) (c : Clause) → Opened Q (t ∷ ts) c → OpenGoes Q t ts c
open_on Q t ts c (inl (r, e, h)) = moved (λ t ts. ((t ≡ terminal.Close) × Q [] ts c) ⊎ Fresh (InArguments Q []) (t ∷ ts) c) e (inl (refl, h))
open_on Q t ts c (inr f) = inr f

-- after a symbol of a term
opens_refused : (s : Pending) (x : Term) (K : List Frame) (B : Purpose) → operand_next s x K B terminal.Open ≡ None
opens_refused s x K B = term_refuses K B (join s x) opened

module _ (s m : Pending) (k : ℕ) (K : List Frame) (B : Purpose) (n : List ℕ) where
  symbol_agrees : (t : Terminal) (st : State) → operand_next s (join m (minuses k (term.Symbol n))) K B t ≡ Some st → symbol_next s m k K B n t ≡ Some st
  symbol_agrees terminal.Open st e = never (opens_refused s (join m (minuses k (term.Symbol n))) K B) e
  symbol_agrees _ st e = e

  pub symbol_on : (t : Terminal) (ts : List Terminal) (c : Clause) → Named (CallRead s m k K B n) (t ∷ ts) c → Goes (symbol_next s m k K B n t) ts c
  symbol_on t ts c h = go (name_on (CallRead s m k K B n) t ts c h)
    where
      plain : Goes (operand_next s (join m (minuses k (term.Symbol n))) K B t) ts c → Goes (symbol_next s m k K B n t) ts c
      plain (st, e, l) = (st, symbol_agrees t st e, l)

      go : NameGoes (CallRead s m k K B n) t ts c → Goes (symbol_next s m k K B n t) ts c
      go (inl q) = plain (chain_on s (join m (minuses k (term.Symbol n))) K B t ts c q)
      go (inr p) = subst (λ t. Goes (symbol_next s m k K B n t) ts c) (sym p.0) (CallOpened s m k K B n, refl, p.1)

  pub symbol_back : (t : Terminal) (ts : List Terminal) (c : Clause) (st : State) → symbol_next s m k K B n t ≡ Some st → Leads st ts c → Named (CallRead s m k K B n) (t ∷ ts) c
  symbol_back terminal.Open ts c st e l = name_open (CallRead s m k K B n) ts c (arrives ts c e l)
  symbol_back t ts c st e l = name_plain (CallRead s m k K B n) (t ∷ ts) c (chain_back s (join m (minuses k (term.Symbol n))) K B t ts c st e l)

  call_agrees : (t : Terminal) (st : State) → operand Nothing Nothing 0 (Call s m k n [] ∷ K) B t ≡ Some st → call_next s m k K B n t ≡ Some st
  call_agrees terminal.Close st e = absurd (none_some e)
  call_agrees _ st e = e

  pub call_on : (t : Terminal) (ts : List Terminal) (c : Clause) → Opened (CallRead s m k K B n) (t ∷ ts) c → Goes (call_next s m k K B n t) ts c
  call_on t ts c h = go (open_on (CallRead s m k K B n) t ts c h)
    where
      more : Goes (operand Nothing Nothing 0 (Call s m k n [] ∷ K) B t) ts c → Goes (call_next s m k K B n t) ts c
      more (st, e, l) = (st, call_agrees t st e, l)

      go : OpenGoes (CallRead s m k K B n) t ts c → Goes (call_next s m k K B n t) ts c
      go (inl p) = subst (λ t. Goes (call_next s m k K B n t) ts c) (sym p.0) (OperandRead s (join m (minuses k (term.Symbol n))) K B, refl, p.1)
      go (inr f) = more (operand_on Nothing Nothing 0 (Call s m k n [] ∷ K) B c t ts f)

  pub call_back : (t : Terminal) (ts : List Terminal) (c : Clause) (st : State) → call_next s m k K B n t ≡ Some st → Leads st ts c → Opened (CallRead s m k K B n) (t ∷ ts) c
  call_back terminal.Close ts c st e l = inl (ts, refl, arrives ts c e l)
  call_back t ts c st e l = inr (operand_back Nothing Nothing 0 (Call s m k n [] ∷ K) B c t ts st e l)
