-- Each state's step is exact: what leads from it by a token leads from the next state without it, and back.
use Rattle.std.proofs.Common.{◌≡◌, Bool, true, false, List, [], ◌∷◌, ◌++◌, ◌⊎◌, inl, inr, refl, sym, ap, subst, ◌∙◌, append_assoc}
use Rattle.std.specs.Prelude.{Option, Some, None}
use Rattle.asp_syntax.specs.declared.tree.CompareOp.{CompareOp}
use Rattle.asp_syntax.specs.declared.tree.Term.{Term}
use Rattle.asp_syntax.specs.declared.tree.Literal.{Literal}
use Rattle.asp_syntax.specs.declared.tree.Literal.TheVariants as literal
use Rattle.asp_syntax.specs.declared.tree.Item.{Item}
use Rattle.asp_syntax.specs.declared.tree.Item.TheVariants as item
use Rattle.asp_syntax.specs.declared.tree.ChoiceElement.{ChoiceElement}
use Rattle.asp_syntax.specs.declared.tree.Guard.{Guard}
use Rattle.asp_syntax.specs.declared.tree.Element.{Element}
use Rattle.asp_syntax.specs.declared.tree.Aggregate.{Aggregate}
use Rattle.asp_syntax.specs.declared.tree.AggKind.{AggKind}
use Rattle.asp_syntax.specs.declared.tree.AggKind.TheVariants as kind
use Rattle.asp_syntax.specs.declared.tree.CompareOp.TheVariants.{LessEqual}
use Rattle.asp_syntax.specs.declared.tree.Head.{Head}
use Rattle.asp_syntax.specs.declared.tree.Head.TheVariants as head
use Rattle.asp_grammar.specs.Terminals.{Terminal}
use Rattle.asp_grammar.specs.Terminals as terminal
use Rattle.asp_grammar.specs.Grammar.{Clause, IsClause, IsHead, IsBraced, IsRightBound, AreChosen, AreNafs, IsCondition, IsLiteral, IsNaf, IsItem, IsAggregate, IsFunction, IsKindSign, AreElements, IsElement, IsUnary, IsTerm, AreTerms, AreArguments, IsBody}
use Rattle.asp_grammar.specs.Grammar as g
use Rattle.asp_grammar.specs.declared.state.Pending.TheVariants.{Nothing}
use Rattle.asp_grammar.specs.declared.state.Opening.{Opening}
use Rattle.asp_grammar.specs.declared.state.Owner.{Owner}
use Rattle.asp_grammar.specs.declared.state.Owner.TheVariants.{Tuple}
use Rattle.asp_grammar.specs.declared.state.LiteralRole.{LiteralRole}
use Rattle.asp_grammar.specs.declared.state.LiteralRole.TheVariants.{AsHead, AsDenied, AsItem, AsChosen, InCondition, DeniedInCondition}
use Rattle.asp_grammar.specs.declared.state.TermRole.TheVariants.{BodyLeft, BodyRight, HeadLeft, HeadRight, ConditionLeft, GuardRight}
use Rattle.asp_grammar.specs.declared.state.Purpose.TheVariants.{ForTerm, ForTuple}
use Rattle.asp_grammar.specs.declared.state.State.{State}
use Rattle.asp_grammar.specs.declared.state.State.TheVariants.{Starting, BodyOpened, BraceDue, BraceOpened, BraceClosed, CompareRead, KindRead, ElementsOpened, ElementDue, FunctionClosed, ConditionOpened, LiteralDue, SignRead, NameRead, ArgumentsOpened, ArgumentsRead, OperandDue, SymbolRead, CallOpened, OperandRead, Ended}
use Rattle.asp_grammar.specs.Machine.{clause_of, operand, guard_of, element_of, tuple_of, opening_of, with_aggregate, owner_next, second_next, compare_next, kind_next, element_due_next, elements_opened_next, unguarded_next, function_closed_next, head_next, brace_due_next, brace_opened_next, condition_opened_next, brace_closed_next, begin_next, due_next, body_next, start_next, step, fresh_term}
use Rattle.asp_grammar.specs.Continuations.{Continuation, AfterItem, HeadRead, AfterBraces, ChoicesDue, AfterTuple, AfterOwner, NafsDue, AfterCondition, AfterColon, AfterAggregate, Unguarded, AfterFunction, ElementsDue, OpenedElements, AfterKind, AtFunction, SecondTerm, Compared, TupleRead, ElementBegins, OpenedBrace, AtBrace, InBody, AfterWholeTerm, AfterTerm, TermBegins, LiteralBegins, Begins, Due, Leads, Fresh}
use Rattle.asp_grammar.proofs.TermLemmas.{none_some, moved, Goes, arrives, item_on, item_back, head_on, head_back, owner_on, owner_back, tuple_in, tuple_out, sum_in, sum_out, chain_on, chain_back, operand_on, operand_back, symbol_on, symbol_back, call_on, call_back, never}
use Rattle.asp_grammar.proofs.LiteralSteps.{args_on, args_back, name_goes, name_back, open_goes, open_back, sign_on, sign_back, begin_on, begin_back}

-- a function and what follows it
function_in : (o : Opening) (c : Clause) {ts r : List Terminal} {k : AggKind} {es : List Element} → IsFunction ts r k es → AfterFunction o k es r c → AtFunction o ts c
function_in o c (g.of_none {t = t} {r = r} {k = k} sign) h = (t, k, terminal.OpenBrace ∷ terminal.CloseBrace ∷ r, refl, sign, (terminal.CloseBrace ∷ r, refl, inl (r, refl, h)))
function_in o c (g.of_some {t = t} {ts = ts} {r = r} {k = k} {es = es} sign els) h = (t, k, terminal.OpenBrace ∷ ts, refl, sign, (ts, refl, inr (r, es, els, h)))

abbrev Counted : Opening → Continuation
Counted o ts c = (k : AggKind) × (es : List Element) × (r : List Terminal) × IsFunction ts r k es × AfterFunction o k es r c

function_out : (o : Opening) (ts : List Terminal) (c : Clause) → AtFunction o ts c → Counted o ts c
function_out o ts c (t, k, r, e, sign, (q, f, inl (s, d, h))) = (k, [], s, subst (λ v. IsFunction v s k []) (sym (e ∙ ap (λ v. t ∷ v) (f ∙ ap (λ v. terminal.OpenBrace ∷ v) d))) (g.of_none sign), h)
function_out o ts c (t, k, r, e, sign, (q, f, inr (s, es, els, h))) = (k, es, s, subst (λ v. IsFunction v s k es) (sym (e ∙ ap (λ v. t ∷ v) f)) (g.of_some sign els), h)

-- an aggregate and what follows it
module _ (denied : Bool) (h : Head) (ls : List Item) (c : Clause) where
  abbrev First : CompareOp → Term → Opening
  First op x = opening_of h ls denied (Some (guard_of op x))

  abbrev Bare : Opening
  Bare = opening_of h ls denied None

  abbrev Within : List Terminal → Type 0
  Within ts = TermBegins (Some (BodyLeft denied h ls)) 0 ts c ⊎ AtFunction Bare ts c

  aggregate_in : {ts r : List Terminal} {a : Aggregate} → IsAggregate ts r a → AfterItem h (ls ++ item.Aggregate denied a ∷ []) r c → Within ts
  aggregate_in (g.at_left {r = r} {op = op} {x = x} first f) w = inl (sum_in (AfterWholeTerm (BodyLeft denied h ls)) c first (op, r, refl, inr (function_in (First op x) c f (inr w))))
  aggregate_in (g.at_both {r = r} {s = s} {op = op} {right_op = right_op} {x = x} {k = k} {es = es} first f second) w =
      inl (sum_in (AfterWholeTerm (BodyLeft denied h ls)) c first (op, r, refl, inr (function_in (First op x) c f (inl (right_op, s, refl, sum_in (λ y. AfterAggregate (First op x) k es (Some (guard_of right_op y))) c second w)))))
  aggregate_in (g.at_right {r = r} {op = op} {k = k} {es = es} f second) w =
      inr (function_in Bare c f (inl (op, r, refl, sum_in (λ y. AfterAggregate Bare k es (Some (guard_of op y))) c second w)))

  abbrev Aggregated : List Terminal → Type 0
  Aggregated ts = (a : Aggregate) × (r : List Terminal) × IsAggregate ts r a × AfterItem h (ls ++ item.Aggregate denied a ∷ []) r c

  left_out : (ts r : List Terminal) (op : CompareOp) (x : Term) → IsTerm ts (terminal.Compare op ∷ r) x → AtFunction (First op x) r c → Aggregated ts
  left_out ts r op x first f = go (function_out (First op x) r c f)
    where
      both : (k : AggKind) (es : List Element) (q s : List Terminal) (right_op : CompareOp) → IsFunction r (terminal.Compare right_op ∷ s) k es → Fresh (λ y. AfterAggregate (First op x) k es (Some (guard_of right_op y))) s c → Aggregated ts
      both k es q s right_op f w = let d = sum_out (λ y. AfterAggregate (First op x) k es (Some (guard_of right_op y))) s c w in (_, d.1, g.at_both first f d.2, d.3)

      go : Counted (First op x) r c → Aggregated ts
      go (k, es, q, f, inl (right_op, s, e, w)) = both k es q s right_op (subst (λ v. IsFunction r v k es) e f) w
      go (k, es, q, f, inr w) = (_, q, g.at_left first f, w)

  right_out : (ts : List Terminal) → AtFunction Bare ts c → Aggregated ts
  right_out ts f = go (function_out Bare ts c f)
    where
      go : Counted Bare ts c → Aggregated ts
      go (k, es, q, f, inl (op, s, e, w)) = let d = sum_out (λ y. AfterAggregate Bare k es (Some (guard_of op y))) s c w in (_, d.1, g.at_right (subst (λ v. IsFunction ts v k es) e f) d.2, d.3)
      go (k, es, q, f, inr w) = absurd w

-- an item: a literal, a comparison or an aggregate, or `not` and a literal or an aggregate
abbrev ItemDue : Head → List Item → Continuation
ItemDue h ls ts c = Begins (AsItem h ls) ts c ⊎ (AtFunction (opening_of h ls false None) ts c ⊎ ((r : List Terminal) × (ts ≡ terminal.Not ∷ r) × Due (AsDenied h ls) r c))

-- what comes after the first item
after_in : (h : Head) (ls : List Item) (i : Item) (more : List Item) (ts r : List Terminal) (c : Clause) → ts ≡ terminal.Comma ∷ r → IsBody r (terminal.Dot ∷ []) more → c ≡ clause_of h (ls ++ i ∷ more) → AfterItem h (ls ++ i ∷ []) ts c
after_in h ls i more ts r c e body f = inr (r, more, e, body, f ∙ ap (clause_of h) (sym (append_assoc ls (i ∷ []) more)))

naf_in : (h : Head) (ls : List Item) (c : Clause) {ts r : List Terminal} {l : Literal} → IsNaf ts r l → AfterItem h (ls ++ item.Plain l ∷ []) r c → ItemDue h ls ts c
naf_in h ls c (g.positive {r = r} {a = a} lit) f = inl (inl (a, r, lit, f))
naf_in h ls c (g.negative {ts = ts} {r = r} {a = a} lit) f = inr (inr (ts, refl, inl (inl (a, r, lit, f))))
naf_in h ls c (g.compare {r = r} {s = s} {op = op} {x = x} {y = y} first second) f =
    inl (inr (sum_in (AfterWholeTerm (BodyLeft false h ls)) c first (op, r, refl, inl (sum_in (λ y. AfterItem h (ls ++ item.Plain (literal.Compare op x y) ∷ [])) c second f))))

one_in : (h : Head) (ls : List Item) (c : Clause) {ts r : List Terminal} {i : Item} → IsItem ts r i → AfterItem h (ls ++ i ∷ []) r c → ItemDue h ls ts c
one_in h ls c (g.plain_item naf) f = naf_in h ls c naf f
one_in h ls c (g.aggregate agg) f = go (aggregate_in false h ls c agg f)
  where
    go : {ts : List Terminal} → Within false h ls c ts → ItemDue h ls ts c
    go (inl w) = inl (inr w)
    go (inr w) = inr (inl w)
one_in h ls c (g.denied_aggregate {ts = ts} agg) f = go (aggregate_in true h ls c agg f)
  where
    go : Within true h ls c ts → ItemDue h ls (terminal.Not ∷ ts) c
    go (inl w) = inr (inr (ts, refl, inl (inr w)))
    go (inr w) = inr (inr (ts, refl, inr w))

due_in : (h : Head) (ls : List Item) (ts : List Terminal) (c : Clause) → Due (AsItem h ls) ts c → ItemDue h ls ts c
due_in h ls ts c (more, body, f) = go body f
  where
    go : {more : List Item} → IsBody ts (terminal.Dot ∷ []) more → c ≡ clause_of h (ls ++ more) → ItemDue h ls ts c
    go (g.one one) f = one_in h ls c one (inl (refl, f))
    go (g.more {r = r} {i = i} {is = more} one body) f = one_in h ls c one (after_in h ls i more (terminal.Comma ∷ r) r c refl body f)

one_out : (h : Head) (ls : List Item) (c : Clause) (ts r : List Terminal) (i : Item) → IsItem ts r i → AfterItem h (ls ++ i ∷ []) r c → Due (AsItem h ls) ts c
one_out h ls c ts r i one (inl p) = (i ∷ [], g.one (subst (λ v. IsItem ts v i) p.0 one), p.1)
one_out h ls c ts r i one (inr (q, more, e, body, f)) = (i ∷ more, g.more (subst (λ v. IsItem ts v i) e one) body, f ∙ ap (clause_of h) (append_assoc ls (i ∷ []) more))

aggregate_out : (h : Head) (ls : List Item) (ts : List Terminal) (c : Clause) → Aggregated false h ls c ts → Due (AsItem h ls) ts c
aggregate_out h ls ts c (a, r, agg, f) = one_out h ls c ts r (item.Aggregate false a) (g.aggregate agg) f

denied_aggregate_out : (h : Head) (ls : List Item) (ts : List Terminal) (c : Clause) → Aggregated true h ls c ts → Due (AsItem h ls) (terminal.Not ∷ ts) c
denied_aggregate_out h ls ts c (a, r, agg, f) = one_out h ls c (terminal.Not ∷ ts) r (item.Aggregate true a) (g.denied_aggregate agg) f

due_out : (h : Head) (ls : List Item) (ts : List Terminal) (c : Clause) → Begins (AsItem h ls) ts c → Due (AsItem h ls) ts c
due_out h ls ts c (inl (a, r, lit, f)) = one_out h ls c ts r (item.Plain (literal.Positive a)) (g.plain_item (g.positive lit)) f
due_out h ls ts c (inr f) = go (sum_out (AfterWholeTerm (BodyLeft false h ls)) ts c f)
  where
    go : ((x : Term) × (q : List Terminal) × IsTerm ts q x × AfterWholeTerm (BodyLeft false h ls) x q c) → Due (AsItem h ls) ts c
    go (x, q, first, (op, r, e, inl second)) =
        let d = sum_out (λ y. AfterItem h (ls ++ item.Plain (literal.Compare op x y) ∷ [])) r c second in
        one_out h ls c ts d.1 (item.Plain (literal.Compare op x d.0)) (g.plain_item (g.compare (subst (λ v. IsTerm ts v x) e first) d.2)) d.3
    go (x, q, first, (op, r, e, inr f)) = aggregate_out h ls ts c (left_out false h ls c ts r op x (subst (λ v. IsTerm ts v x) e first) f)

denied_out : (h : Head) (ls : List Item) (ts : List Terminal) (c : Clause) → Due (AsDenied h ls) ts c → Due (AsItem h ls) (terminal.Not ∷ ts) c
denied_out h ls ts c (inl (inl (a, r, lit, f))) = one_out h ls c (terminal.Not ∷ ts) r (item.Plain (literal.Negative a)) (g.plain_item (g.negative lit)) f
denied_out h ls ts c (inl (inr f)) = go (sum_out (AfterWholeTerm (BodyLeft true h ls)) ts c f)
  where
    go : ((x : Term) × (q : List Terminal) × IsTerm ts q x × AfterWholeTerm (BodyLeft true h ls) x q c) → Due (AsItem h ls) (terminal.Not ∷ ts) c
    go (x, q, first, (op, r, e, inl second)) = absurd second
    go (x, q, first, (op, r, e, inr f)) = denied_aggregate_out h ls ts c (left_out true h ls c ts r op x (subst (λ v. IsTerm ts v x) e first) f)
denied_out h ls ts c (inr f) = denied_aggregate_out h ls ts c (right_out true h ls c ts f)

not_apart : (h : Head) (ls : List Item) (t : Terminal) (st : State) → begin_next (AsItem h ls) t ≡ Some st → due_next (AsItem h ls) t ≡ Some st
not_apart h ls terminal.Not st e = absurd (none_some e)
not_apart h ls terminal.Count st e = absurd (none_some e)
not_apart h ls terminal.Sum st e = absurd (none_some e)
not_apart h ls _ st e = e

denied_apart : (h : Head) (ls : List Item) (t : Terminal) (st : State) → begin_next (AsDenied h ls) t ≡ Some st → due_next (AsDenied h ls) t ≡ Some st
denied_apart h ls terminal.Count st e = absurd (none_some e)
denied_apart h ls terminal.Sum st e = absurd (none_some e)
denied_apart h ls _ st e = e

-- where a function may begin
function_on : (o : Opening) (next : Terminal → Option State) → next terminal.Count ≡ Some (KindRead o kind.Count) → next terminal.Sum ≡ Some (KindRead o kind.Sum) → (t : Terminal) (ts : List Terminal) (c : Clause) → AtFunction o (t ∷ ts) c → Goes (next t) ts c
function_on o next e1 e2 t ts c (u, k, r, e, sign, w) = moved (λ t ts. Goes (next t) ts c) e (go sign w)
  where
    go : {u : Terminal} {k : AggKind} → IsKindSign u k → AfterKind o k r c → Goes (next u) r c
    go g.count w = (KindRead o kind.Count, e1, w)
    go g.total w = (KindRead o kind.Sum, e2, w)

-- choice elements
choices_step : (l : Option Guard) (es : List ChoiceElement) (c : Clause) (r : List Terminal) {ts : List Terminal} {more : List ChoiceElement} → AreChosen ts (terminal.CloseBrace ∷ r) more → AfterBraces l (es ++ more) r c → LiteralBegins (AsChosen l es) ts c
choices_step l es c r (g.final (g.chosen {r = q} {a = a} {ls = ls} lit cond)) h = (a, q, lit, (terminal.CloseBrace ∷ r, ls, cond, inl (r, refl, h)))
choices_step l es c r (g.next {r = p} {es = more} (g.chosen {r = q} {a = a} {ls = ls} lit cond) rest) h =
    (a, q, lit, (terminal.Semicolon ∷ p, ls, cond, inr (p, refl, (r, more, rest, subst (λ v. AfterBraces l v r c) (sym (append_assoc es (element_of a ls ∷ []) more)) h))))

choices_in : (l : Option Guard) (es : List ChoiceElement) (c : Clause) (ts : List Terminal) → ChoicesDue l es ts c → LiteralBegins (AsChosen l es) ts c
choices_in l es c ts (r, more, ch, h) = choices_step l es c r ch h

choices_out : (l : Option Guard) (es : List ChoiceElement) (c : Clause) (ts : List Terminal) → Begins (AsChosen l es) ts c → ChoicesDue l es ts c
choices_out l es c ts (inl (a, q, lit, (s, ls, cond, inl (r, e, h)))) = (r, element_of a ls ∷ [], g.final (g.chosen lit (subst (λ v. IsCondition q v ls) e cond)), h)
choices_out l es c ts (inl (a, q, lit, (s, ls, cond, inr (p, e, (r, more, rest, h))))) =
    (r, element_of a ls ∷ more, g.next (g.chosen lit (subst (λ v. IsCondition q v ls) e cond)) rest, subst (λ v. AfterBraces l v r c) (append_assoc es (element_of a ls ∷ []) more) h)
choices_out l es c ts (inr h) = absurd h

-- the literals of a condition
abbrev ConditionDue : Owner → List Literal → Continuation
ConditionDue w ls ts c = Begins (InCondition w ls) ts c ⊎ ((r : List Terminal) × (ts ≡ terminal.Not ∷ r) × Begins (DeniedInCondition w ls) r c)

naf_in_in : (w : Owner) (ls : List Literal) (c : Clause) {ts r : List Terminal} {x : Literal} → IsNaf ts r x → AfterCondition w (ls ++ x ∷ []) r c → ConditionDue w ls ts c
naf_in_in w ls c (g.positive {r = r} {a = a} lit) f = inl (inl (a, r, lit, f))
naf_in_in w ls c (g.negative {ts = ts} {r = r} {a = a} lit) f = inr (ts, refl, inl (a, r, lit, f))
naf_in_in w ls c (g.compare {r = r} {s = s} {op = op} {y = y} first second) f = inl (inr (sum_in (AfterWholeTerm (ConditionLeft w ls)) c first (op, r, s, y, refl, second, f)))

nafs_step : (w : Owner) (ls : List Literal) (c : Clause) {ts r : List Terminal} {more : List Literal} → AreNafs ts r more → AfterOwner w (ls ++ more) r c → ConditionDue w ls ts c
nafs_step w ls c (g.lone naf) f = naf_in_in w ls c naf (inl f)
nafs_step w ls c {r = s} (g.further {r = r} {l = x} {ls = more} naf rest) f =
    naf_in_in w ls c naf (inr (r, refl, (s, more, rest, subst (λ v. AfterOwner w v s c) (sym (append_assoc ls (x ∷ []) more)) f)))

conditions_in : (w : Owner) (ls : List Literal) (ts : List Terminal) (c : Clause) → NafsDue w ls ts c → ConditionDue w ls ts c
conditions_in w ls ts c (r, more, nafs, f) = nafs_step w ls c nafs f

naf_out_in : (w : Owner) (ls : List Literal) (c : Clause) (ts r : List Terminal) (x : Literal) → IsNaf ts r x → AfterCondition w (ls ++ x ∷ []) r c → NafsDue w ls ts c
naf_out_in w ls c ts r x naf (inl f) = (r, x ∷ [], g.lone naf, f)
naf_out_in w ls c ts r x naf (inr (q, e, (s, more, rest, f))) =
    (s, x ∷ more, g.further (subst (λ v. IsNaf ts v x) e naf) rest, subst (λ v. AfterOwner w v s c) (append_assoc ls (x ∷ []) more) f)

conditions_out : (w : Owner) (ls : List Literal) (ts : List Terminal) (c : Clause) → Begins (InCondition w ls) ts c → NafsDue w ls ts c
conditions_out w ls ts c (inl (a, r, lit, f)) = naf_out_in w ls c ts r (literal.Positive a) (g.positive lit) f
conditions_out w ls ts c (inr f) = go (sum_out (AfterWholeTerm (ConditionLeft w ls)) ts c f)
  where
    go : ((x : Term) × (q : List Terminal) × IsTerm ts q x × AfterWholeTerm (ConditionLeft w ls) x q c) → NafsDue w ls ts c
    go (x, q, first, (op, r, s, y, e, second, f)) = naf_out_in w ls c ts s (literal.Compare op x y) (g.compare (subst (λ v. IsTerm ts v x) e first) second) f

denied_in_out : (w : Owner) (ls : List Literal) (ts : List Terminal) (c : Clause) → Begins (DeniedInCondition w ls) ts c → NafsDue w ls (terminal.Not ∷ ts) c
denied_in_out w ls ts c (inl (a, r, lit, f)) = naf_out_in w ls c (terminal.Not ∷ ts) r (literal.Negative a) (g.negative lit) f
denied_in_out w ls ts c (inr f) = absurd f

not_apart_in : (w : Owner) (ls : List Literal) (t : Terminal) (st : State) → begin_next (InCondition w ls) t ≡ Some st → due_next (InCondition w ls) t ≡ Some st
not_apart_in w ls terminal.Not st e = absurd (none_some e)
not_apart_in w ls _ st e = e

due_on : (b : LiteralRole) (t : Terminal) (ts : List Terminal) (c : Clause) → Due b (t ∷ ts) c → Goes (due_next b t) ts c
due_on AsHead t ts c h = begin_on AsHead t ts c h
due_on (AsDenied h ls) t ts c (inl w) = plain (begin_on (AsDenied h ls) t ts c w)
  where
    plain : Goes (begin_next (AsDenied h ls) t) ts c → Goes (due_next (AsDenied h ls) t) ts c
    plain (st, e, q) = (st, denied_apart h ls t st e, q)
due_on (AsDenied h ls) t ts c (inr w) = function_on (opening_of h ls true None) (due_next (AsDenied h ls)) refl refl t ts c w
due_on (DeniedInCondition w ls) t ts c h = begin_on (DeniedInCondition w ls) t ts c h
due_on (AsChosen l es) t ts c h = begin_on (AsChosen l es) t ts c (inl (choices_in l es c (t ∷ ts) h))
due_on (InCondition w ls) t ts c d = go (conditions_in w ls (t ∷ ts) c d)
  where
    plain : Goes (begin_next (InCondition w ls) t) ts c → Goes (due_next (InCondition w ls) t) ts c
    plain (st, e, q) = (st, not_apart_in w ls t st e, q)

    go : ConditionDue w ls (t ∷ ts) c → Goes (due_next (InCondition w ls) t) ts c
    go (inl h) = plain (begin_on (InCondition w ls) t ts c h)
    go (inr (r, e, h)) = moved (λ t ts. Goes (due_next (InCondition w ls) t) ts c) e (LiteralDue (DeniedInCondition w ls), refl, h)
due_on (AsItem h ls) t ts c d = go (due_in h ls (t ∷ ts) c d)
  where
    plain : Goes (begin_next (AsItem h ls) t) ts c → Goes (due_next (AsItem h ls) t) ts c
    plain (st, e, l) = (st, not_apart h ls t st e, l)

    go : ItemDue h ls (t ∷ ts) c → Goes (due_next (AsItem h ls) t) ts c
    go (inl w) = plain (begin_on (AsItem h ls) t ts c w)
    go (inr (inl w)) = function_on (opening_of h ls false None) (due_next (AsItem h ls)) refl refl t ts c w
    go (inr (inr (r, e, w))) = moved (λ t ts. Goes (due_next (AsItem h ls) t) ts c) e (LiteralDue (AsDenied h ls), refl, w)

due_back : (b : LiteralRole) (t : Terminal) (ts : List Terminal) (c : Clause) (st : State) → due_next b t ≡ Some st → Leads st ts c → Due b (t ∷ ts) c
due_back AsHead t ts c st e l = begin_back AsHead t ts c st e l
due_back (AsDenied h ls) terminal.Count ts c st e l = inr (terminal.Count, kind.Count, ts, refl, g.count, arrives ts c e l)
due_back (AsDenied h ls) terminal.Sum ts c st e l = inr (terminal.Sum, kind.Sum, ts, refl, g.total, arrives ts c e l)
due_back (AsDenied h ls) t ts c st e l = inl (begin_back (AsDenied h ls) t ts c st e l)
due_back (DeniedInCondition w ls) t ts c st e d = begin_back (DeniedInCondition w ls) t ts c st e d
due_back (AsChosen l es) t ts c st e d = choices_out l es c (t ∷ ts) (begin_back (AsChosen l es) t ts c st e d)
due_back (InCondition w ls) terminal.Not ts c st e d = denied_in_out w ls ts c (arrives ts c e d)
due_back (InCondition w ls) t ts c st e d = conditions_out w ls (t ∷ ts) c (begin_back (InCondition w ls) t ts c st e d)
due_back (AsItem h ls) terminal.Not ts c st e l = denied_out h ls ts c (arrives ts c e l)
due_back (AsItem h ls) terminal.Count ts c st e l = aggregate_out h ls (terminal.Count ∷ ts) c (right_out false h ls c (terminal.Count ∷ ts) (terminal.Count, kind.Count, ts, refl, g.count, arrives ts c e l))
due_back (AsItem h ls) terminal.Sum ts c st e l = aggregate_out h ls (terminal.Sum ∷ ts) c (right_out false h ls c (terminal.Sum ∷ ts) (terminal.Sum, kind.Sum, ts, refl, g.total, arrives ts c e l))
due_back (AsItem h ls) t ts c st e l = due_out h ls (t ∷ ts) c (begin_back (AsItem h ls) t ts c st e l)

-- a body, after `:-`
dot_apart : (h : Head) (t : Terminal) (st : State) → due_next (AsItem h []) t ≡ Some st → body_next h t ≡ Some st
dot_apart h terminal.Dot st e = absurd (none_some e)
dot_apart h _ st e = e

body_on : (h : Head) (t : Terminal) (ts : List Terminal) (c : Clause) → InBody h (t ∷ ts) c → Goes (body_next h t) ts c
body_on h t ts c (inl p) = moved (λ t ts. Goes (body_next h t) ts c) p.0 (Ended h [], refl, (refl, sym p.1))
body_on h t ts c (inr d) = plain (due_on (AsItem h []) t ts c d)
  where
    plain : Goes (due_next (AsItem h []) t) ts c → Goes (body_next h t) ts c
    plain (st, e, l) = (st, dot_apart h t st e, l)

body_back : (h : Head) (t : Terminal) (ts : List Terminal) (c : Clause) (st : State) → body_next h t ≡ Some st → Leads st ts c → InBody h (t ∷ ts) c
body_back h terminal.Dot ts c st e l = let d = arrives ts c e l in inl (ap (λ v. terminal.Dot ∷ v) d.0, sym d.1)
body_back h t ts c st e l = inr (due_back (AsItem h []) t ts c st e l)

-- a head
braces_in : (l : Option Guard) (c : Clause) {us r s : List Terminal} {es : List ChoiceElement} {b : Option Guard} → IsBraced us r es → IsRightBound r s b → HeadRead (head.Choice l es b) s c → AtBrace l us c
braces_in l c {s = s} {b = b} (g.hollow {r = r}) limit h = (terminal.CloseBrace ∷ r, refl, inl (r, refl, (b, s, limit, h)))
braces_in l c {s = s} {b = b} (g.filled {ts = ts} {r = r} {es = es} ch) limit h = (ts, refl, inr (r, es, ch, (b, s, limit, h)))

-- a choice from its `{` on
abbrev Choosing : Option Guard → Continuation
Choosing l us c = (r s : List Terminal) × (es : List ChoiceElement) × (b : Option Guard) × IsBraced us r es × IsRightBound r s b × HeadRead (head.Choice l es b) s c

braces_out : (l : Option Guard) (us : List Terminal) (c : Clause) → AtBrace l us c → Choosing l us c
braces_out l us c (q, e, inl (r, f, (b, s, limit, h))) = (r, s, [], b, subst (λ v. IsBraced v r []) (sym (e ∙ ap (λ v. terminal.OpenBrace ∷ v) f)) g.hollow, limit, h)
braces_out l us c (q, e, inr (r, es, ch, (b, s, limit, h))) = (r, s, es, b, subst (λ v. IsBraced v r es) (sym e) (g.filled ch), limit, h)

head_in : (c : Clause) {us r : List Terminal} {h : Head} → IsHead us r h → HeadRead h r c → Begins AsHead us c ⊎ AtBrace None us c
head_in c (g.single {r = r} {a = a} lit) f = inl (inl (a, r, lit, f))
head_in c (g.choosing (g.choice g.free braces limit)) f = inr (braces_in None c braces limit f)
head_in c (g.choosing (g.choice (g.at_least {x = x} first) braces limit)) f = inl (inr (sum_in (AfterWholeTerm HeadLeft) c first (inr (braces_in (Some (guard_of LessEqual x)) c braces limit f))))
head_in c (g.choosing (g.choice (g.bounded {r = r} {op = op} {x = x} first) braces limit)) f = inl (inr (sum_in (AfterWholeTerm HeadLeft) c first (inl (op, r, refl, braces_in (Some (guard_of op x)) c braces limit f))))

-- a head and what follows it make a statement
clause_from : (us r : List Terminal) (h : Head) (c : Clause) → IsHead us r h → HeadRead h r c → IsClause us c
clause_from us r h c hd (inl p) = subst (λ v. IsClause us v) (sym p.1) (g.fact (subst (λ v. IsHead us v h) p.0 hd))
clause_from us r h c hd (inr (q, e, inl p)) = subst (λ v. IsClause us v) (sym p.1) (g.empty_rule (subst (λ v. IsHead us v h) (e ∙ ap (λ v. terminal.If ∷ v) p.0) hd))
clause_from us r h c hd (inr (q, e, inr (ls, body, f))) = subst (λ v. IsClause us v) (sym f) (g.rule (subst (λ v. IsHead us v h) e hd) body)

head_out : (us : List Terminal) (c : Clause) → Begins AsHead us c → IsClause us c
head_out us c (inl (a, r, lit, f)) = clause_from us r (head.Single a) c (g.single lit) f
head_out us c (inr f) = go (sum_out (AfterWholeTerm HeadLeft) us c f)
  where
    least : (x : Term) (q : List Terminal) → IsTerm us q x → Choosing (Some (guard_of LessEqual x)) q c → IsClause us c
    least x q first (r, s, es, b, braces, limit, h) = clause_from us s (head.Choice (Some (guard_of LessEqual x)) es b) c (g.choosing (g.choice (g.at_least first) braces limit)) h

    compared : (op : CompareOp) (x : Term) (q : List Terminal) → IsTerm us (terminal.Compare op ∷ q) x → Choosing (Some (guard_of op x)) q c → IsClause us c
    compared op x q first (r, s, es, b, braces, limit, h) = clause_from us s (head.Choice (Some (guard_of op x)) es b) c (g.choosing (g.choice (g.bounded first) braces limit)) h

    go : ((x : Term) × (q : List Terminal) × IsTerm us q x × AfterWholeTerm HeadLeft x q c) → IsClause us c
    go (x, q, first, inl (op, r, e, w)) = compared op x r (subst (λ v. IsTerm us v x) e first) (braces_out (Some (guard_of op x)) r c w)
    go (x, q, first, inr w) = least x q first (braces_out (Some (guard_of LessEqual x)) q c w)

free_out : (us : List Terminal) (c : Clause) → AtBrace None us c → IsClause us c
free_out us c w = go (braces_out None us c w)
  where
    go : Choosing None us c → IsClause us c
    go (r, s, es, b, braces, limit, h) = clause_from us s (head.Choice None es b) c (g.choosing (g.choice g.free braces limit)) h

-- `{` and what follows
brace_due_on : (l : Option Guard) (t : Terminal) (ts : List Terminal) (c : Clause) → AtBrace l (t ∷ ts) c → Goes (brace_due_next l t) ts c
brace_due_on l t ts c (r, e, w) = moved (λ t ts. Goes (brace_due_next l t) ts c) e (BraceOpened l, refl, w)

brace_due_back : (l : Option Guard) (t : Terminal) (ts : List Terminal) (c : Clause) (st : State) → brace_due_next l t ≡ Some st → Leads st ts c → AtBrace l (t ∷ ts) c
brace_due_back l terminal.OpenBrace ts c st e d = (ts, refl, arrives ts c e d)
brace_due_back l _ ts c st e d = absurd (none_some e)

brace_opened_agrees : (l : Option Guard) (t : Terminal) (st : State) → due_next (AsChosen l []) t ≡ Some st → brace_opened_next l t ≡ Some st
brace_opened_agrees l terminal.CloseBrace st e = absurd (none_some e)
brace_opened_agrees l _ st e = e

brace_opened_on : (l : Option Guard) (t : Terminal) (ts : List Terminal) (c : Clause) → OpenedBrace l (t ∷ ts) c → Goes (brace_opened_next l t) ts c
brace_opened_on l t ts c (inl (r, e, w)) = moved (λ t ts. Goes (brace_opened_next l t) ts c) e (BraceClosed l [], refl, w)
brace_opened_on l t ts c (inr w) = let q = due_on (AsChosen l []) t ts c w in (q.0, brace_opened_agrees l t q.0 q.1, q.2)

brace_opened_back : (l : Option Guard) (t : Terminal) (ts : List Terminal) (c : Clause) (st : State) → brace_opened_next l t ≡ Some st → Leads st ts c → OpenedBrace l (t ∷ ts) c
brace_opened_back l terminal.CloseBrace ts c st e d = inl (ts, refl, arrives ts c e d)
brace_opened_back l t ts c st e d = inr (due_back (AsChosen l []) t ts c st e d)

-- after the `:` of an element
colon_owner : (w : Owner) (t : Terminal) (st : State) → owner_next w [] t ≡ Some st → condition_opened_next w t ≡ Some st
colon_owner w terminal.Semicolon st e = e
colon_owner w terminal.CloseBrace st e = e
colon_owner w _ st e = absurd (none_some e)

colon_naf : (w : Owner) (t : Terminal) (st : State) → due_next (InCondition w []) t ≡ Some st → condition_opened_next w t ≡ Some st
colon_naf w terminal.Semicolon st e = absurd (none_some e)
colon_naf w terminal.CloseBrace st e = absurd (none_some e)
colon_naf w _ st e = e

colon_on : (w : Owner) (t : Terminal) (ts : List Terminal) (c : Clause) → AfterColon w (t ∷ ts) c → Goes (condition_opened_next w t) ts c
colon_on w t ts c (inl h) = let q = owner_on w [] t ts c h in (q.0, colon_owner w t q.0 q.1, q.2)
colon_on w t ts c (inr h) = let q = due_on (InCondition w []) t ts c h in (q.0, colon_naf w t q.0 q.1, q.2)

colon_from : (w : Owner) (t : Terminal) (ts : List Terminal) (c : Clause) (st : State) → condition_opened_next w t ≡ Some st → Leads st ts c → AfterColon w (t ∷ ts) c
colon_from w terminal.Semicolon ts c st e d = inl (owner_back w [] terminal.Semicolon ts c st e d)
colon_from w terminal.CloseBrace ts c st e d = inl (owner_back w [] terminal.CloseBrace ts c st e d)
colon_from w t ts c st e d = inr (due_back (InCondition w []) t ts c st e d)

-- after a term and a comparison in a body
second_on : (denied : Bool) (h : Head) (ls : List Item) (op : CompareOp) (x : Term) (t : Terminal) (ts : List Terminal) (c : Clause) → SecondTerm denied h ls op x (t ∷ ts) c → Goes (second_next denied h ls op x t) ts c
second_on true h ls op x t ts c w = absurd w
second_on false h ls op x t ts c w = operand_on Nothing Nothing 0 [] (ForTerm (BodyRight h ls op x)) c t ts w

second_back : (denied : Bool) (h : Head) (ls : List Item) (op : CompareOp) (x : Term) (t : Terminal) (ts : List Terminal) (c : Clause) (st : State) → second_next denied h ls op x t ≡ Some st → Leads st ts c → SecondTerm denied h ls op x (t ∷ ts) c
second_back true h ls op x t ts c st e q = absurd (none_some e)
second_back false h ls op x t ts c st e q = operand_back Nothing Nothing 0 [] (ForTerm (BodyRight h ls op x)) c t ts st e q

second_apart : (denied : Bool) (h : Head) (ls : List Item) (op : CompareOp) (x : Term) (t : Terminal) (st : State) → second_next denied h ls op x t ≡ Some st → compare_next denied h ls op x t ≡ Some st
second_apart true h ls op x t st e = absurd (none_some e)
second_apart false h ls op x terminal.Count st e = absurd (none_some e)
second_apart false h ls op x terminal.Sum st e = absurd (none_some e)
second_apart false h ls op x _ st e = e

compare_on : (denied : Bool) (h : Head) (ls : List Item) (op : CompareOp) (x : Term) (t : Terminal) (ts : List Terminal) (c : Clause) → Compared denied h ls op x (t ∷ ts) c → Goes (compare_next denied h ls op x t) ts c
compare_on denied h ls op x t ts c (inl w) = let q = second_on denied h ls op x t ts c w in (q.0, second_apart denied h ls op x t q.0 q.1, q.2)
compare_on denied h ls op x t ts c (inr w) = function_on (opening_of h ls denied (Some (guard_of op x))) (compare_next denied h ls op x) refl refl t ts c w

compare_back : (denied : Bool) (h : Head) (ls : List Item) (op : CompareOp) (x : Term) (t : Terminal) (ts : List Terminal) (c : Clause) (st : State) → compare_next denied h ls op x t ≡ Some st → Leads st ts c → Compared denied h ls op x (t ∷ ts) c
compare_back denied h ls op x terminal.Count ts c st e q = inr (terminal.Count, kind.Count, ts, refl, g.count, arrives ts c e q)
compare_back denied h ls op x terminal.Sum ts c st e q = inr (terminal.Sum, kind.Sum, ts, refl, g.total, arrives ts c e q)
compare_back denied h ls op x t ts c st e q = inl (second_back denied h ls op x t ts c st e q)

-- the elements of an aggregate
kind_on : (o : Opening) (k : AggKind) (t : Terminal) (ts : List Terminal) (c : Clause) → AfterKind o k (t ∷ ts) c → Goes (kind_next o k t) ts c
kind_on o k t ts c (r, e, w) = moved (λ t ts. Goes (kind_next o k t) ts c) e (ElementsOpened o k, refl, w)

kind_back : (o : Opening) (k : AggKind) (t : Terminal) (ts : List Terminal) (c : Clause) (st : State) → kind_next o k t ≡ Some st → Leads st ts c → AfterKind o k (t ∷ ts) c
kind_back o k terminal.OpenBrace ts c st e q = (ts, refl, arrives ts c e q)
kind_back o k _ ts c st e q = absurd (none_some e)

element_in : (o : Opening) (k : AggKind) (es : List Element) (c : Clause) {ts r : List Terminal} {x : Element} → IsElement ts r x → AfterTuple o k es x r c → ElementBegins o k es ts c
element_in o k es c {r = s} (g.tuple {r = r} {ls = ls} terms cond) h = inr (tuple_in (TupleRead o k es) [] c terms (s, ls, cond, h))
element_in o k es c (g.colon_alone {r = r}) h = inl (r, refl, inl h)
element_in o k es c {r = s} (g.untupled {ts = ts} {ls = ls} nafs) h = inl (ts, refl, inr (s, ls, nafs, h))

element_out : (o : Opening) (k : AggKind) (es : List Element) (ts : List Terminal) (c : Clause) → ElementBegins o k es ts c → (x : Element) × (r : List Terminal) × IsElement ts r x × AfterTuple o k es x r c
element_out o k es ts c (inl (r, e, inl h)) = (tuple_of [] [], r, subst (λ v. IsElement v r (tuple_of [] [])) (sym e) g.colon_alone, h)
element_out o k es ts c (inl (r, e, inr (q, ls, nafs, h))) = (tuple_of [] ls, q, subst (λ v. IsElement v q (tuple_of [] ls)) (sym e) (g.untupled nafs), h)
element_out o k es ts c (inr f) = go (tuple_out (TupleRead o k es) [] ts c f)
  where
    go : ((r : List Terminal) × (xs : List Term) × AreTerms ts r xs × TupleRead o k es xs r c) → (x : Element) × (r : List Terminal) × IsElement ts r x × AfterTuple o k es x r c
    go (r, xs, terms, (q, ls, cond, h)) = (tuple_of xs ls, q, g.tuple terms cond, h)

elements_step : (o : Opening) (k : AggKind) (es : List Element) (c : Clause) (r : List Terminal) {ts : List Terminal} {more : List Element} → AreElements ts (terminal.CloseBrace ∷ r) more → AfterFunction o k (es ++ more) r c → ElementBegins o k es ts c
elements_step o k es c r (g.sole x) h = element_in o k es c x (inl (r, refl, h))
elements_step o k es c r (g.besides {r = q} {e = x} {es = more} first rest) h =
    element_in o k es c first (inr (q, refl, (r, more, rest, subst (λ v. AfterFunction o k v r c) (sym (append_assoc es (x ∷ []) more)) h)))

elements_in : (o : Opening) (k : AggKind) (es : List Element) (ts : List Terminal) (c : Clause) → ElementsDue o k es ts c → ElementBegins o k es ts c
elements_in o k es ts c (r, more, els, h) = elements_step o k es c r els h

elements_out : (o : Opening) (k : AggKind) (es : List Element) (ts : List Terminal) (c : Clause) → ElementBegins o k es ts c → ElementsDue o k es ts c
elements_out o k es ts c w = go (element_out o k es ts c w)
  where
    go : ((x : Element) × (r : List Terminal) × IsElement ts r x × AfterTuple o k es x r c) → ElementsDue o k es ts c
    go (x, r, first, inl (q, e, h)) = (q, x ∷ [], g.sole (subst (λ v. IsElement ts v x) e first), h)
    go (x, r, first, inr (q, e, (s, more, rest, h))) = (s, x ∷ more, g.besides (subst (λ v. IsElement ts v x) e first) rest, subst (λ v. AfterFunction o k v s c) (append_assoc es (x ∷ []) more) h)

element_apart : (o : Opening) (k : AggKind) (es : List Element) (t : Terminal) (st : State) → operand Nothing Nothing 0 [] (ForTuple o k es []) t ≡ Some st → element_due_next o k es t ≡ Some st
element_apart o k es terminal.Colon st e = absurd (none_some e)
element_apart o k es _ st e = e

element_due_on : (o : Opening) (k : AggKind) (es : List Element) (t : Terminal) (ts : List Terminal) (c : Clause) → ElementBegins o k es (t ∷ ts) c → Goes (element_due_next o k es t) ts c
element_due_on o k es t ts c (inl (r, e, h)) = moved (λ t ts. Goes (element_due_next o k es t) ts c) e (ConditionOpened (Tuple o k es []), refl, h)
element_due_on o k es t ts c (inr f) = let q = operand_on Nothing Nothing 0 [] (ForTuple o k es []) c t ts f in (q.0, element_apart o k es t q.0 q.1, q.2)

elements_on : (o : Opening) (k : AggKind) (es : List Element) (t : Terminal) (ts : List Terminal) (c : Clause) → ElementsDue o k es (t ∷ ts) c → Goes (element_due_next o k es t) ts c
elements_on o k es t ts c h = element_due_on o k es t ts c (elements_in o k es (t ∷ ts) c h)

element_due_back : (o : Opening) (k : AggKind) (es : List Element) (t : Terminal) (ts : List Terminal) (c : Clause) (st : State) → element_due_next o k es t ≡ Some st → Leads st ts c → ElementBegins o k es (t ∷ ts) c
element_due_back o k es terminal.Colon ts c st e q = inl (ts, refl, arrives ts c e q)
element_due_back o k es t ts c st e q = inr (operand_back Nothing Nothing 0 [] (ForTuple o k es []) c t ts st e q)

elements_back : (o : Opening) (k : AggKind) (es : List Element) (t : Terminal) (ts : List Terminal) (c : Clause) (st : State) → element_due_next o k es t ≡ Some st → Leads st ts c → ElementsDue o k es (t ∷ ts) c
elements_back o k es t ts c st e q = elements_out o k es (t ∷ ts) c (element_due_back o k es t ts c st e q)

opened_apart : (o : Opening) (k : AggKind) (t : Terminal) (st : State) → element_due_next o k [] t ≡ Some st → elements_opened_next o k t ≡ Some st
opened_apart o k terminal.CloseBrace st e = absurd (none_some e)
opened_apart o k _ st e = e

elements_opened_on : (o : Opening) (k : AggKind) (t : Terminal) (ts : List Terminal) (c : Clause) → OpenedElements o k (t ∷ ts) c → Goes (elements_opened_next o k t) ts c
elements_opened_on o k t ts c (inl (r, e, w)) = moved (λ t ts. Goes (elements_opened_next o k t) ts c) e (FunctionClosed o k [], refl, w)
elements_opened_on o k t ts c (inr w) = let q = elements_on o k [] t ts c w in (q.0, opened_apart o k t q.0 q.1, q.2)

elements_opened_back : (o : Opening) (k : AggKind) (t : Terminal) (ts : List Terminal) (c : Clause) (st : State) → elements_opened_next o k t ≡ Some st → Leads st ts c → OpenedElements o k (t ∷ ts) c
elements_opened_back o k terminal.CloseBrace ts c st e q = inl (ts, refl, arrives ts c e q)
elements_opened_back o k t ts c st e q = inr (elements_back o k [] t ts c st e q)

-- after the `}` of an aggregate
unguarded_on : (l : Option Guard) (o : Opening) (k : AggKind) (es : List Element) (t : Terminal) (ts : List Terminal) (c : Clause) → Unguarded l o k es (t ∷ ts) c → Goes (unguarded_next l o k es t) ts c
unguarded_on None o k es t ts c w = absurd w
unguarded_on (Some x) o k es t ts c w = item_on o.head (with_aggregate o k es None) t ts c w

unguarded_back : (l : Option Guard) (o : Opening) (k : AggKind) (es : List Element) (t : Terminal) (ts : List Terminal) (c : Clause) (st : State) → unguarded_next l o k es t ≡ Some st → Leads st ts c → Unguarded l o k es (t ∷ ts) c
unguarded_back None o k es t ts c st e q = absurd (none_some e)
unguarded_back (Some x) o k es t ts c st e q = item_back o.head (with_aggregate o k es None) t ts c st e q

unguarded_no_compare : (l : Option Guard) (o : Opening) (k : AggKind) (es : List Element) (op : CompareOp) → unguarded_next l o k es (terminal.Compare op) ≡ None
unguarded_no_compare None o k es op = refl
unguarded_no_compare (Some x) o k es op = refl

unguarded_apart : (o : Opening) (k : AggKind) (es : List Element) (t : Terminal) (st : State) → unguarded_next o.left o k es t ≡ Some st → function_closed_next o k es t ≡ Some st
unguarded_apart o k es (terminal.Compare op) st e = never (unguarded_no_compare o.left o k es op) e
unguarded_apart o k es _ st e = e

function_closed_on : (o : Opening) (k : AggKind) (es : List Element) (t : Terminal) (ts : List Terminal) (c : Clause) → AfterFunction o k es (t ∷ ts) c → Goes (function_closed_next o k es t) ts c
function_closed_on o k es t ts c (inl (op, r, e, w)) = moved (λ t ts. Goes (function_closed_next o k es t) ts c) e (fresh_term [] (ForTerm (GuardRight o k es op)), refl, w)
function_closed_on o k es t ts c (inr w) = let q = unguarded_on o.left o k es t ts c w in (q.0, unguarded_apart o k es t q.0 q.1, q.2)

function_closed_back : (o : Opening) (k : AggKind) (es : List Element) (t : Terminal) (ts : List Terminal) (c : Clause) (st : State) → function_closed_next o k es t ≡ Some st → Leads st ts c → AfterFunction o k es (t ∷ ts) c
function_closed_back o k es (terminal.Compare op) ts c st e q = inl (op, ts, refl, arrives ts c e q)
function_closed_back o k es t ts c st e q = inr (unguarded_back o.left o k es t ts c st e q)

-- after `}`
closed_head : (l : Option Guard) (es : List ChoiceElement) (t : Terminal) (st : State) → head_next (head.Choice l es None) t ≡ Some st → brace_closed_next l es t ≡ Some st
closed_head l es terminal.Dot st e = e
closed_head l es terminal.If st e = e
closed_head l es _ st e = absurd (none_some e)

closed_term : (l : Option Guard) (es : List ChoiceElement) (t : Terminal) (st : State) → operand Nothing Nothing 0 [] (ForTerm (HeadRight l es LessEqual)) t ≡ Some st → brace_closed_next l es t ≡ Some st
closed_term l es (terminal.Compare op) st e = absurd (none_some e)
closed_term l es terminal.Dot st e = absurd (none_some e)
closed_term l es terminal.If st e = absurd (none_some e)
closed_term l es _ st e = e

closed_cases : (l : Option Guard) (es : List ChoiceElement) (c : Clause) {us r : List Terminal} {b : Option Guard} → IsRightBound us r b → (t : Terminal) (ts : List Terminal) → t ∷ ts ≡ us → HeadRead (head.Choice l es b) r c → Goes (brace_closed_next l es t) ts c
closed_cases l es c g.unbounded t ts e h = let q = head_on (head.Choice l es None) t ts c (subst (λ v. HeadRead (head.Choice l es None) v c) (sym e) h) in (q.0, closed_head l es t q.0 q.1, q.2)
closed_cases l es c (g.at_most {ts = us} {r = r} {x = x} sm) t ts e h =
    let q = operand_on Nothing Nothing 0 [] (ForTerm (HeadRight l es LessEqual)) c t ts (sum_in (AfterTerm [] (ForTerm (HeadRight l es LessEqual))) c (subst (λ v. IsTerm v r x) (sym e) sm) h) in
    (q.0, closed_term l es t q.0 q.1, q.2)
closed_cases l es c (g.bound {op = op} sm) t ts e h = moved (λ t ts. Goes (brace_closed_next l es t) ts c) e (fresh_term [] (ForTerm (HeadRight l es op)), refl, sum_in (AfterTerm [] (ForTerm (HeadRight l es op))) c sm h)

closed_on : (l : Option Guard) (es : List ChoiceElement) (t : Terminal) (ts : List Terminal) (c : Clause) → AfterBraces l es (t ∷ ts) c → Goes (brace_closed_next l es t) ts c
closed_on l es t ts c (b, r, limit, h) = closed_cases l es c limit t ts refl h

closed_back : (l : Option Guard) (es : List ChoiceElement) (t : Terminal) (ts : List Terminal) (c : Clause) (st : State) → brace_closed_next l es t ≡ Some st → Leads st ts c → AfterBraces l es (t ∷ ts) c
closed_back l es (terminal.Compare op) ts c st e q =
    let d = sum_out (AfterTerm [] (ForTerm (HeadRight l es op))) ts c (arrives ts c e q) in
    (Some (guard_of op d.0), d.1, g.bound d.2, d.3)
closed_back l es terminal.Dot ts c st e q = (None, terminal.Dot ∷ ts, g.unbounded, head_back (head.Choice l es None) terminal.Dot ts c st e q)
closed_back l es terminal.If ts c st e q = (None, terminal.If ∷ ts, g.unbounded, head_back (head.Choice l es None) terminal.If ts c st e q)
closed_back l es t ts c st e q =
    let d = sum_out (AfterTerm [] (ForTerm (HeadRight l es LessEqual))) (t ∷ ts) c (operand_back Nothing Nothing 0 [] (ForTerm (HeadRight l es LessEqual)) c t ts st e q) in
    (Some (guard_of LessEqual d.0), d.1, g.at_most d.2, d.3)

-- a statement
if_apart : (t : Terminal) (st : State) → begin_next AsHead t ≡ Some st → start_next t ≡ Some st
if_apart terminal.If st e = absurd (none_some e)
if_apart terminal.OpenBrace st e = absurd (none_some e)
if_apart _ st e = e

abbrev Started : Continuation
Started us c = ((r : List Terminal) × (us ≡ terminal.If ∷ r) × InBody head.Absent r c) ⊎ (Begins AsHead us c ⊎ AtBrace None us c)

clause_in : {us : List Terminal} {c : Clause} → IsClause us c → Started us c
clause_in g.empty_constraint = inl (terminal.Dot ∷ [], refl, inl (refl, refl))
clause_in (g.constraint {ts = ts} {ls = ls} body) = inl (ts, refl, inr (ls, body, refl))
clause_in (g.fact hd) = inr (head_in _ hd (inl (refl, refl)))
clause_in (g.empty_rule hd) = inr (head_in _ hd (inr (terminal.Dot ∷ [], refl, inl (refl, refl))))
clause_in (g.rule {r = r} {ls = ls} hd body) = inr (head_in _ hd (inr (r, refl, inr (ls, body, refl))))

constraint_out : (r : List Terminal) (c : Clause) → InBody head.Absent r c → IsClause (terminal.If ∷ r) c
constraint_out r c (inl p) = subst (λ v. IsClause (terminal.If ∷ v) c) (sym p.0) (subst (λ v. IsClause (terminal.If ∷ terminal.Dot ∷ []) v) (sym p.1) g.empty_constraint)
constraint_out r c (inr (ls, body, f)) = subst (λ v. IsClause (terminal.If ∷ r) v) (sym f) (g.constraint body)

start_on : (t : Terminal) (ts : List Terminal) (c : Clause) → IsClause (t ∷ ts) c → Goes (start_next t) ts c
start_on t ts c h = go (clause_in h)
  where
    plain : Goes (begin_next AsHead t) ts c → Goes (start_next t) ts c
    plain (st, e, l) = (st, if_apart t st e, l)

    go : Started (t ∷ ts) c → Goes (start_next t) ts c
    go (inl (r, e, b)) = moved (λ t ts. Goes (start_next t) ts c) e (BodyOpened head.Absent, refl, b)
    go (inr (inl w)) = plain (begin_on AsHead t ts c w)
    go (inr (inr (r, e, w))) = moved (λ t ts. Goes (start_next t) ts c) e (BraceOpened None, refl, w)

start_back : (t : Terminal) (ts : List Terminal) (c : Clause) (st : State) → start_next t ≡ Some st → Leads st ts c → IsClause (t ∷ ts) c
start_back terminal.If ts c st e l = constraint_out ts c (arrives ts c e l)
start_back terminal.OpenBrace ts c st e l = free_out (terminal.OpenBrace ∷ ts) c (ts, refl, arrives ts c e l)
start_back t ts c st e l = head_out (t ∷ ts) c (begin_back AsHead t ts c st e l)

-- What leads from a state by a token leads from the next state without it.
pub step_on : (s : State) (t : Terminal) (ts : List Terminal) (c : Clause) → Leads s (t ∷ ts) c → Goes (step s t) ts c
step_on Starting t ts c h = start_on t ts c h
step_on (BodyOpened h') t ts c h = body_on h' t ts c h
step_on (BraceDue l) t ts c h = brace_due_on l t ts c h
step_on (BraceOpened l) t ts c h = brace_opened_on l t ts c h
step_on (BraceClosed l es) t ts c h = closed_on l es t ts c h
step_on (CompareRead denied h' ls op x) t ts c h = compare_on denied h' ls op x t ts c h
step_on (KindRead o k) t ts c h = kind_on o k t ts c h
step_on (ElementsOpened o k) t ts c h = elements_opened_on o k t ts c h
step_on (ElementDue o k es) t ts c h = elements_on o k es t ts c h
step_on (FunctionClosed o k es) t ts c h = function_closed_on o k es t ts c h
step_on (ConditionOpened w) t ts c h = colon_on w t ts c h
step_on (LiteralDue b) t ts c h = due_on b t ts c h
step_on (SignRead b) t ts c h = sign_on b t ts c h
step_on (NameRead b negated n) t ts c h = name_goes b negated n t ts c h
step_on (ArgumentsOpened b negated n) t ts c h = open_goes b negated n t ts c h
step_on (ArgumentsRead b negated n xs) t ts c h = args_on b negated n xs t ts c h
step_on (OperandDue s m k K B) t ts c h = operand_on s m k K B c t ts h
step_on (SymbolRead s m k K B n) t ts c h = symbol_on s m k K B n t ts c h
step_on (CallOpened s m k K B n) t ts c h = call_on s m k K B n t ts c h
step_on (OperandRead s x K B) t ts c h = chain_on s x K B t ts c h
step_on (Ended h' ls) t ts c h = absurd cc

pub step_back : (s : State) (t : Terminal) (ts : List Terminal) (c : Clause) (st : State) → step s t ≡ Some st → Leads st ts c → Leads s (t ∷ ts) c
step_back Starting t ts c st e l = start_back t ts c st e l
step_back (BodyOpened h) t ts c st e l = body_back h t ts c st e l
step_back (BraceDue l) t ts c st e d = brace_due_back l t ts c st e d
step_back (BraceOpened l) t ts c st e d = brace_opened_back l t ts c st e d
step_back (BraceClosed l es) t ts c st e d = closed_back l es t ts c st e d
step_back (CompareRead denied h ls op x) t ts c st e d = compare_back denied h ls op x t ts c st e d
step_back (KindRead o k) t ts c st e d = kind_back o k t ts c st e d
step_back (ElementsOpened o k) t ts c st e d = elements_opened_back o k t ts c st e d
step_back (ElementDue o k es) t ts c st e d = elements_back o k es t ts c st e d
step_back (FunctionClosed o k es) t ts c st e d = function_closed_back o k es t ts c st e d
step_back (ConditionOpened w) t ts c st e d = colon_from w t ts c st e d
step_back (LiteralDue b) t ts c st e l = due_back b t ts c st e l
step_back (SignRead b) t ts c st e l = sign_back b t ts c st e l
step_back (NameRead b negated n) t ts c st e l = name_back b negated n t ts c st e l
step_back (ArgumentsOpened b negated n) t ts c st e l = open_back b negated n t ts c st e l
step_back (ArgumentsRead b negated n xs) t ts c st e l = args_back b negated n xs t ts c st e l
step_back (OperandDue s m k K B) t ts c st e l = operand_back s m k K B c t ts st e l
step_back (SymbolRead s m k K B n) t ts c st e l = symbol_back s m k K B n t ts c st e l
step_back (CallOpened s m k K B n) t ts c st e l = call_back s m k K B n t ts c st e l
step_back (OperandRead s x K B) t ts c st e l = chain_back s x K B t ts c st e l
step_back (Ended h' ls) t ts c st e l = absurd (none_some e)
