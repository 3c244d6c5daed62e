-- The first faulty token: what a loop over the tokens keeps, and that one answer always comes, and only one.
use Rattle.asp_syntax.specs.declared.tree.Term.TheVariants as term
use Rattle.std.proofs.Common.{◌≡◌, ℕ, zero, suc, ◌+◌, ◌<◌, ◌≤◌, arith, Bool, true, false, List, [], ◌∷◌, ◌++◌, length, take, get_or, ◌⊎◌, inl, inr, refl, sym, ap, subst, ◌∙◌, true≢false}
use Rattle.std.specs.Prelude.{Option, Some, None, slice_get}
use Rattle.std.proofs.lemmas.List.{take_more, take_all}
use Rattle.std.proofs.lemmas.Option.{slice_get_cases, slice_get_within, get_or_from_slice_get}
use Rattle.std.proofs.lemmas.Bool.{cases_lt, cases_eq, cases_order, cases_Bool}
use Rattle.asp_syntax.specs.declared.token.Token.{Token}
use Rattle.asp_syntax.specs.declared.token.Token.TheVariants as token
use Rattle.asp_syntax.specs.declared.what.What.{What}
use Rattle.asp_syntax.specs.declared.token.Spanned.{Spanned}
use Rattle.asp_syntax.specs.declared.token.Place.{Place}
use Rattle.asp_syntax.specs.declared.tree.CompareOp.{CompareOp}
use Rattle.asp_syntax.specs.declared.tree.Term.{Term}
use Rattle.asp_syntax.specs.declared.tree.Atom.{Atom}
use Rattle.asp_syntax.specs.declared.tree.Literal.TheVariants as literal
use Rattle.asp_syntax.specs.declared.tree.Item.{Item}
use Rattle.asp_syntax.specs.declared.tree.Element.{Element}
use Rattle.asp_syntax.specs.declared.tree.AggKind.{AggKind}
use Rattle.asp_syntax.specs.declared.tree.Guard.{Guard}
use Rattle.asp_syntax.specs.declared.tree.Head.{Head}
use Rattle.asp_syntax.specs.declared.tree.Statement.{Statement}
use Rattle.asp_syntax.specs.declared.tree.Program.{Program}
use Rattle.asp_grammar.specs.declared.state.Opening.{Opening}
use Rattle.asp_grammar.specs.declared.state.LiteralRole.{LiteralRole}
use Rattle.asp_grammar.specs.declared.state.LiteralRole.TheVariants.{AsHead, AsDenied, AsItem, AsChosen, InCondition, DeniedInCondition}
use Rattle.asp_grammar.specs.declared.state.TermRole.{TermRole}
use Rattle.asp_grammar.specs.declared.state.Purpose.TheVariants.{ForTerm}
use Rattle.asp_grammar.specs.declared.state.State.{State}
use Rattle.asp_grammar.specs.declared.state.State.TheVariants.{Starting, BodyOpened, BraceDue, BraceOpened, BraceClosed, CompareRead, KindRead, ElementsOpened, ElementDue, FunctionClosed, ConditionOpened, LiteralDue, SignRead, NameRead, ArgumentsOpened, ArgumentsRead, OperandDue, SymbolRead, CallOpened, OperandRead, Ended}
use Rattle.asp_grammar.specs.declared.state.Progress.{Progress}
use Rattle.asp_grammar.specs.declared.state.Progress.TheVariants as at
use Rattle.asp_grammar.specs.Terminals.{Terminal, terminal_of, anonymous_after}
use Rattle.asp_grammar.specs.Terminals as terminal
use Rattle.asp_grammar.specs.Machine.{join, minuses, call_term, signed, atom_of, term_role, literal_next, or_else, term_part, arguments_next, term_begins, due_next, second_next, unguarded_next, step}
use Rattle.asp_grammar.specs.Programs.{IsProgram, program_of, IsViable}
use Rattle.asp_grammar.specs.Reading.{settle, advance_of, signs_of, signs_in}
use Rattle.asp_syntax.specs.WellFormed.{largest}
use Rattle.asp_grammar.specs.Nesting.{Levels, one_level, closed, levels_after, levels_through, outer_depth, depth, nesting}
use Rattle.asp_grammar.specs.Faults.{what_of, Cause, unsupported, syntax, too_deep, number_too_large, IsFaulty, named, broken, deep, large, rank, IsCleanUpTo, IsFaultless, FirstFault, FaultAt, at_token, at_end, Parsed}
use Rattle.asp_grammar.proofs.TermLemmas.{none_some, some_is, foreign, condition_refuses, term_refuses}
use Rattle.asp_grammar.proofs.ProgramLemmas.{viable_between, viable_inside}
use Rattle.asp_grammar.proofs.ReadingLemmas.{Stands, stands_first, stands_on, stands_broken, stands_whole, stands_only, stands_stopped}
use Rattle.asp_grammar.proofs.SignLemmas.{Marks, marks_first, marks_on, pending, pending_in}

-- A named construct goes on nowhere.
foreign_named : (t : Token) (x : What) (k : ℕ) → what_of t ≡ Some x → terminal_of k t ≡ terminal.Foreign
foreign_named token.Bar x k e = refl
foreign_named token.DotDot x k e = refl
foreign_named token.Backslash x k e = refl
foreign_named token.WeakIf x k e = refl
foreign_named token.Question x k e = refl
foreign_named token.MinMax x k e = refl
foreign_named token.Directive x k e = refl
foreign_named token.At x k e = refl
foreign_named token.OpenBracket x k e = refl
foreign_named token.CloseBracket x k e = refl
foreign_named token.Ampersand x k e = refl
foreign_named _ x k e = absurd (none_some e)

or_nothing : (o q : Option State) → o ≡ None → q ≡ None → or_else o q ≡ None
or_nothing None q e f = f
or_nothing (Some s) q e f = e

literal_foreign : (q : LiteralRole) (a : Atom) → literal_next q a terminal.Foreign ≡ None
literal_foreign AsHead a = refl
literal_foreign (AsChosen l es) a = refl
literal_foreign (InCondition w ls) a = condition_refuses w (ls ++ literal.Positive a ∷ []) foreign
literal_foreign (DeniedInCondition w ls) a = condition_refuses w (ls ++ literal.Negative a ∷ []) foreign
literal_foreign (AsDenied h ls) a = refl
literal_foreign (AsItem h ls) a = refl

part_foreign : (o : Option TermRole) (negated : Bool) (n : List ℕ) (xs : List Term) → term_part o negated n xs terminal.Foreign ≡ None
part_foreign None negated n xs = refl
part_foreign (Some b) negated n xs = term_refuses [] (ForTerm b) (signed negated (call_term n xs)) foreign

args_foreign : (q : LiteralRole) (negated : Bool) (n : List ℕ) (xs : List Term) → arguments_next q negated n xs terminal.Foreign ≡ None
args_foreign q negated n xs = or_nothing (literal_next q (atom_of negated n xs) terminal.Foreign) (term_part (term_role q) negated n xs terminal.Foreign) (literal_foreign q (atom_of negated n xs)) (part_foreign (term_role q) negated n xs)

begins_foreign : (o : Option TermRole) (k : ℕ) → term_begins o k terminal.Foreign ≡ None
begins_foreign None k = refl
begins_foreign (Some b) k = refl

due_foreign : (q : LiteralRole) → due_next q terminal.Foreign ≡ None
due_foreign AsHead = refl
due_foreign (AsChosen l es) = refl
due_foreign (InCondition w ls) = refl
due_foreign (DeniedInCondition w ls) = refl
due_foreign (AsDenied h ls) = refl
due_foreign (AsItem h ls) = refl

second_foreign : (denied : Bool) (h : Head) (ls : List Item) (op : CompareOp) (x : Term) → second_next denied h ls op x terminal.Foreign ≡ None
second_foreign true h ls op x = refl
second_foreign false h ls op x = refl

unguarded_foreign : (l : Option Guard) (o : Opening) (k : AggKind) (es : List Element) → unguarded_next l o k es terminal.Foreign ≡ None
unguarded_foreign None o k es = refl
unguarded_foreign (Some x) o k es = refl

step_foreign : (s : State) → step s terminal.Foreign ≡ None
step_foreign Starting = refl
step_foreign (BodyOpened h) = refl
step_foreign (BraceDue l) = refl
step_foreign (BraceOpened l) = refl
step_foreign (BraceClosed l es) = refl
step_foreign (CompareRead denied h ls op x) = second_foreign denied h ls op x
step_foreign (KindRead o k) = refl
step_foreign (ElementsOpened o k) = refl
step_foreign (ElementDue o k es) = refl
step_foreign (FunctionClosed o k es) = unguarded_foreign o.left o k es
step_foreign (ConditionOpened w) = refl
step_foreign (LiteralDue q) = due_foreign q
step_foreign (SignRead q) = begins_foreign (term_role q) 1
step_foreign (NameRead q negated n) = args_foreign q negated n []
step_foreign (ArgumentsOpened q negated n) = refl
step_foreign (ArgumentsRead q negated n xs) = args_foreign q negated n xs
step_foreign (OperandDue s m k K B) = refl
step_foreign (SymbolRead s m k K B n) = term_refuses K B (join s (join m (minuses k (term.Symbol n)))) foreign
step_foreign (CallOpened s m k K B n) = refl
step_foreign (OperandRead s x K B) = term_refuses K B (join s x) foreign
step_foreign (Ended h ls) = refl

pub advance_foreign : (w : Progress) (k : ℕ) (t : Spanned) (x : What) → what_of t.token ≡ Some x → advance_of w k t ≡ None
advance_foreign (at.Between done) k t x e = ap (settle done t.line) (ap (step Starting) (foreign_named t.token x k e) ∙ step_foreign Starting)
advance_foreign (at.Inside done line s) k t x e = ap (settle done line) (ap (step s) (foreign_named t.token x k e) ∙ step_foreign s)

-- A sign is pending exactly where one is counted.
pending_counted : (s : State) → pending s ≡ true → signs_of s ≡ 0 → ⊥
pending_counted (SignRead q) e f = absurd (omega arith)
pending_counted (OperandDue s m zero K B) e f = true≢false (sym e)
pending_counted (OperandDue s m (suc k) K B) e f = absurd (omega arith)
pending_counted _ e f = true≢false (sym e)

pub pending_signs : (w : Progress) → pending_in w ≡ true → signs_in w ≡ 0 → ⊥
pending_signs (at.Between done) e f = true≢false (sym e)
pending_signs (at.Inside done line s) e f = pending_counted s e f

-- A token makes the nesting greater by at most one.
pub levels_more : (d : Levels) (ts : List Spanned) (t : Spanned) → levels_through d (ts ++ t ∷ []) ≡ levels_after (levels_through d ts) t.token
levels_more d [] t = refl
levels_more d (u ∷ ts) t = levels_more (levels_after d u.token) ts t

closed_depth : (n : ℕ) (ns : List ℕ) → depth (closed n ns) ≤ suc (n + outer_depth ns)
closed_depth n [] = omega arith
closed_depth n (m ∷ ns) = omega arith

depth_more : (d : Levels) (t : Token) → depth (levels_after d t) ≤ suc (depth d)
depth_more d token.Open = omega arith
depth_more d token.Close = closed_depth d.now d.outside
depth_more d token.Plus = omega arith
depth_more d token.Minus = omega arith
depth_more d token.Star = omega arith
depth_more d token.Slash = omega arith
depth_more d token.Comma = omega arith
depth_more d token.Semicolon = omega arith
depth_more d token.Colon = omega arith
depth_more d token.OpenBrace = omega arith
depth_more d token.CloseBrace = omega arith
depth_more d token.If = omega arith
depth_more d token.Dot = omega arith
depth_more d (token.Compare op) = omega arith
depth_more d _ = omega arith

pub nesting_more : (ts : List Spanned) (t : Spanned) → nesting (ts ++ t ∷ []) ≤ suc (nesting ts)
nesting_more ts t = subst (λ v. depth v ≤ suc (nesting ts)) (sym (levels_more one_level ts t)) (depth_more (levels_through one_level ts) t.token)

-- a number makes no nesting, so it isn't too deep and too large at once
pub deep_large_apart : (ts : List Spanned) (t : Spanned) → IsFaulty ts t too_deep → IsFaulty ts t number_too_large → ⊥
deep_large_apart ts t (deep low high) (large is sign) =
    let same : nesting (ts ++ t ∷ []) ≡ nesting ts = ap depth (levels_more one_level ts t ∙ ap (levels_after (levels_through one_level ts)) is) in
    absurd (omega arith)

pub viable_of : (front : List Spanned) (k : ℕ) (w : Progress) → Stands front k w → IsViable front
viable_of front k (at.Between done) st = viable_between front k done st.reads
viable_of front k (at.Inside done line s) st = viable_inside front k done line s st.reads

pub take_on : (tokens : List Spanned) (i : ℕ) (t : Spanned) → slice_get tokens i ≡ Some t → take (i + 1) tokens ≡ take i tokens ++ t ∷ []
take_on tokens i t e = take_more tokens i t (slice_get_within tokens i t e) ∙ ap (λ v. take i tokens ++ v ∷ []) (get_or_from_slice_get tokens i t t e)

-- What a loop keeps that has read i tokens, and k `_` among them.
pub record Sound (tokens : List Spanned) (i k : ℕ) (w : Progress) : Type 0 where
  pub stands : Stands (take i tokens) k w
  pub marks : Marks (take i tokens) w
  pub clean : IsCleanUpTo tokens i
  pub shallow : nesting (take i tokens) ≤ 200

pub sound_first : (tokens : List Spanned) → Sound tokens 0 0 (at.Between [])
sound_first tokens = record { stands = stands_first; marks = marks_first; clean = λ j u other lt e h. absurd (omega arith); shallow = omega arith }

no_named : (ts : List Spanned) (t : Spanned) (w : What) → what_of t.token ≡ None → IsFaulty ts t (unsupported w) → ⊥
no_named ts t w e (named f v) = none_some (sym e ∙ f)

no_broken : (ts : List Spanned) (t : Spanned) → IsViable (ts ++ t ∷ []) → IsFaulty ts t syntax → ⊥
no_broken ts t v (broken b) = b.through v

no_deep : (ts : List Spanned) (t : Spanned) → nesting (ts ++ t ∷ []) ≤ 200 → IsFaulty ts t too_deep → ⊥
no_deep ts t le (deep low high) = absurd (omega arith)

no_large : (ts : List Spanned) (t : Spanned) (w : Progress) → Marks ts w → (t.token ≡ token.Number largest → pending_in w ≡ true) → IsFaulty ts t number_too_large → ⊥
no_large ts t w m f (large is sign) = true≢false (sym (f is) ∙ m.pending_same ∙ sign)

below_syntax : (ts : List Spanned) (t : Spanned) → what_of t.token ≡ None → (other : Cause) → rank other < 1 → ¬ IsFaulty ts t other
below_syntax ts t e (unsupported w) lt h = no_named ts t w e h
below_syntax ts t e syntax lt h = absurd (omega arith)
below_syntax ts t e too_deep lt h = absurd (omega arith)
below_syntax ts t e number_too_large lt h = absurd (omega arith)

below_deep : (ts : List Spanned) (t : Spanned) → what_of t.token ≡ None → IsViable (ts ++ t ∷ []) → (other : Cause) → rank other < 2 → ¬ IsFaulty ts t other
below_deep ts t e v (unsupported w) lt h = no_named ts t w e h
below_deep ts t e v syntax lt h = no_broken ts t v h
below_deep ts t e v too_deep lt h = absurd (omega arith)
below_deep ts t e v number_too_large lt h = absurd (omega arith)

below_large : (ts : List Spanned) (t : Spanned) → what_of t.token ≡ None → IsViable (ts ++ t ∷ []) → nesting (ts ++ t ∷ []) ≤ 200 → (other : Cause) → rank other < 3 → ¬ IsFaulty ts t other
below_large ts t e v le (unsupported w) lt h = no_named ts t w e h
below_large ts t e v le syntax lt h = no_broken ts t v h
below_large ts t e v le too_deep lt h = no_deep ts t le h
below_large ts t e v le number_too_large lt h = absurd (omega arith)

not_named : (w w' : Progress) (k : ℕ) (t : Spanned) → advance_of w k t ≡ Some w' → what_of t.token ≡ None
not_named w w' k t e = go (what_of t.token) refl
  where
    go : (o : Option What) → what_of t.token ≡ o → what_of t.token ≡ None
    go None f = f
    go (Some x) f = absurd (none_some (sym (advance_foreign w k t x f) ∙ e))

clean_on : (tokens : List Spanned) (i : ℕ) (t : Spanned) → IsCleanUpTo tokens i → slice_get tokens i ≡ Some t → ((other : Cause) → ¬ IsFaulty (take i tokens) t other) → IsCleanUpTo tokens (i + 1)
clean_on tokens i t c here f j u other lt e h = go (cases_lt j i)
  where
    go : (j < i) ⊎ (i ≤ j) → ⊥
    go (inl q) = c j u other q e h
    go (inr q) =
        let same : j ≡ i = omega arith in
        let what : u ≡ t = some_is (sym e ∙ ap (slice_get tokens) same ∙ here) in
        f other (subst (λ v. IsFaulty (take i tokens) v other) what (subst (λ v. IsFaulty (take v tokens) u other) same h))

-- The loop's five ways at a token.
module _ (tokens : List Spanned) (i k : ℕ) (w : Progress) (t : Spanned) (so : Sound tokens i k w) (here : slice_get tokens i ≡ Some t) where
  pub named_first : (x : What) → what_of t.token ≡ Some x → FirstFault tokens i t (unsupported x)
  named_first x e = record { here = here; faulty = named e (viable_of (take i tokens) k w so.stands); lowest = λ other lt h. absurd (omega arith); before = so.clean }

  pub broken_first : what_of t.token ≡ None → advance_of w k t ≡ None → FirstFault tokens i t syntax
  broken_first n e = record { here = here; faulty = broken (stands_broken (take i tokens) k t w so.stands e); lowest = below_syntax (take i tokens) t n; before = so.clean }

  viable_next : (w' : Progress) → advance_of w k t ≡ Some w' → IsViable (take i tokens ++ t ∷ [])
  viable_next w' e = viable_of (take i tokens ++ t ∷ []) (anonymous_after k t.token) w' (stands_on (take i tokens) k t w w' so.stands e)

  pub deep_first : (w' : Progress) → advance_of w k t ≡ Some w' → 200 < nesting (take i tokens ++ t ∷ []) → FirstFault tokens i t too_deep
  deep_first w' e gt =
      let low = so.shallow in
      let one = nesting_more (take i tokens) t in
      let exact : nesting (take i tokens ++ t ∷ []) ≡ 201 = omega arith in
      record { here = here; faulty = deep low exact; lowest = below_deep (take i tokens) t (not_named w w' k t e) (viable_next w' e); before = so.clean }

  pub large_first : (w' : Progress) → advance_of w k t ≡ Some w' → nesting (take i tokens ++ t ∷ []) ≤ 200 → t.token ≡ token.Number largest → pending_in w ≡ false → FirstFault tokens i t number_too_large
  large_first w' e le is p =
      record { here = here; faulty = large is (sym so.marks.pending_same ∙ p); lowest = below_large (take i tokens) t (not_named w w' k t e) (viable_next w' e) le; before = so.clean }

  nothing_faulty : (w' : Progress) → advance_of w k t ≡ Some w' → nesting (take i tokens ++ t ∷ []) ≤ 200 → (t.token ≡ token.Number largest → pending_in w ≡ true) → (other : Cause) → ¬ IsFaulty (take i tokens) t other
  nothing_faulty w' e le f (unsupported x) h = no_named (take i tokens) t x (not_named w w' k t e) h
  nothing_faulty w' e le f syntax h = no_broken (take i tokens) t (viable_next w' e) h
  nothing_faulty w' e le f too_deep h = no_deep (take i tokens) t le h
  nothing_faulty w' e le f number_too_large h = no_large (take i tokens) t w so.marks f h

  pub sound_on : (w' : Progress) → advance_of w k t ≡ Some w' → nesting (take i tokens ++ t ∷ []) ≤ 200 → (t.token ≡ token.Number largest → pending_in w ≡ true) → Sound tokens (i + 1) (anonymous_after k t.token) w'
  sound_on w' e le f =
      let more = sym (take_on tokens i t here) in
      record {
        stands = subst (λ v. Stands v (anonymous_after k t.token) w') more (stands_on (take i tokens) k t w w' so.stands e);
        marks = subst (λ v. Marks v w') more (marks_on (take i tokens) k t w w' so.marks e);
        clean = clean_on tokens i t so.clean here (nothing_faulty w' e le f);
        shallow = subst (λ v. nesting v ≤ 200) more le;
      }

-- The end of the tokens.
faultless_of : (tokens : List Spanned) (i : ℕ) → length tokens ≤ i → IsCleanUpTo tokens i → IsFaultless tokens
faultless_of tokens i le c j u other e h = let lt = slice_get_within tokens j u e in c j u other (omega arith) e h

pub sound_parsed : (tokens : List Spanned) (i k : ℕ) (done : List Statement) → length tokens ≤ i → Sound tokens i k (at.Between done) → Parsed tokens (program_of done)
sound_parsed tokens i k done le so = record {
  whole = stands_whole tokens k done (subst (λ v. Stands v k (at.Between done)) (take_all i tokens le) so.stands);
  faultless = faultless_of tokens i le so.clean;
}

pub sound_only : (tokens : List Spanned) (i k : ℕ) (done : List Statement) (q : Program) → length tokens ≤ i → Sound tokens i k (at.Between done) → IsProgram tokens q → q ≡ program_of done
sound_only tokens i k done q le so h = stands_only tokens k done q (subst (λ v. Stands v k (at.Between done)) (take_all i tokens le) so.stands) h

pub sound_stopped : (tokens : List Spanned) (end : Place) (i k : ℕ) (done : List Statement) (line : ℕ) (s : State) → length tokens ≤ i → Sound tokens i k (at.Inside done line s) → FaultAt tokens end syntax end
sound_stopped tokens end i k done line s le so =
    at_end (stands_stopped tokens k done line s (subst (λ v. Stands v k (at.Inside done line s)) (take_all i tokens le) so.stands)) (faultless_of tokens i le so.clean)

-- One answer always comes.
abbrev pub Outcome : List Spanned → Place → Type 0
Outcome tokens end = ((p : Program) × Parsed tokens p × ((q : Program) → IsProgram tokens q → q ≡ p)) ⊎ ((cause : Cause) × (place : Place) × FaultAt tokens end cause place)

is_large : (t : Token) → (t ≡ token.Number largest) ⊎ (t ≡ token.Number largest → ⊥)
is_large (token.Number n) = go (cases_eq n largest)
  where
    go : (n ≡ largest) ⊎ (n ≡ largest → ⊥) → (token.Number n ≡ token.Number largest) ⊎ (token.Number n ≡ token.Number largest → ⊥)
    go (inl e) = inl (ap token.Number e)
    go (inr f) = inr (λ e. f cc)
is_large _ = inr (λ e. cc)

finish : (tokens : List Spanned) (end : Place) (i k : ℕ) (w : Progress) → length tokens ≤ i → Sound tokens i k w → Outcome tokens end
finish tokens end i k (at.Between done) le so = inl (program_of done, sound_parsed tokens i k done le so, λ q h. sound_only tokens i k done q le so h)
finish tokens end i k (at.Inside done line s) le so = inr (syntax, end, sound_stopped tokens end i k done line s le so)

one_token : (tokens : List Spanned) (end : Place) (i k : ℕ) (w : Progress) (t : Spanned) → Sound tokens i k w → slice_get tokens i ≡ Some t → ((w' : Progress) → Sound tokens (i + 1) (anonymous_after k t.token) w' → Outcome tokens end) → Outcome tokens end
one_token tokens end i k w t so here rec = by_name (what_of t.token) refl
  where
    by_sign : (w' : Progress) → advance_of w k t ≡ Some w' → nesting (take i tokens ++ t ∷ []) ≤ 200 → t.token ≡ token.Number largest → (pending_in w ≡ true) ⊎ (pending_in w ≡ false) → Outcome tokens end
    by_sign w' e le is (inl p) = rec w' (sound_on tokens i k w t so here w' e le (λ h. p))
    by_sign w' e le is (inr p) = inr (number_too_large, t.at, at_token (large_first tokens i k w t so here w' e le is p))

    by_number : (w' : Progress) → advance_of w k t ≡ Some w' → nesting (take i tokens ++ t ∷ []) ≤ 200 → (t.token ≡ token.Number largest) ⊎ (t.token ≡ token.Number largest → ⊥) → Outcome tokens end
    by_number w' e le (inl is) = by_sign w' e le is (cases_Bool (pending_in w))
    by_number w' e le (inr f) = rec w' (sound_on tokens i k w t so here w' e le (λ h. absurd (f h)))

    by_depth : (w' : Progress) → advance_of w k t ≡ Some w' → (200 < nesting (take i tokens ++ t ∷ [])) ⊎ (nesting (take i tokens ++ t ∷ []) ≤ 200) → Outcome tokens end
    by_depth w' e (inl gt) = inr (too_deep, t.at, at_token (deep_first tokens i k w t so here w' e gt))
    by_depth w' e (inr le) = by_number w' e le (is_large t.token)

    by_step : (o : Option Progress) → what_of t.token ≡ None → advance_of w k t ≡ o → Outcome tokens end
    by_step None n e = inr (syntax, t.at, at_token (broken_first tokens i k w t so here n e))
    by_step (Some w') n e = by_depth w' e (cases_lt 200 (nesting (take i tokens ++ t ∷ [])))

    by_name : (o : Option What) → what_of t.token ≡ o → Outcome tokens end
    by_name (Some x) n = inr (unsupported x, t.at, at_token (named_first tokens i k w t so here x n))
    by_name None n = by_step (advance_of w k t) n refl

comes_from : (tokens : List Spanned) (end : Place) (n i k : ℕ) (w : Progress) → length tokens ≤ i + n → Sound tokens i k w → Outcome tokens end
comes_from tokens end zero i k w le so = finish tokens end i k w (omega arith) so
comes_from tokens end (suc n) i k w le so = go (slice_get_cases tokens i).1 (λ k' w' so'. comes_from tokens end n (i + 1) k' w' (omega arith) so')
  where
    go : ((x : Spanned) × (i < length tokens) × (slice_get tokens i ≡ Some x) × (get_or tokens i x ≡ x)) ⊎ ((length tokens ≤ i) × (slice_get tokens i ≡ None)) → ((k' : ℕ) (w' : Progress) → Sound tokens (i + 1) k' w' → Outcome tokens end) → Outcome tokens end
    go (inl (t, lt, here, same)) rec = one_token tokens end i k w t so here (λ w' so'. rec (anonymous_after k t.token) w' so')
    go (inr (past, none)) rec = finish tokens end i k w past so

pub comes : (tokens : List Spanned) (end : Place) → Outcome tokens end
comes tokens end = comes_from tokens end (length tokens) 0 0 (at.Between []) (omega arith) (sound_first tokens)

-- Only one answer is right.
pub apart : (tokens : List Spanned) (end : Place) (p : Program) (cause : Cause) (place : Place) → Parsed tokens p → FaultAt tokens end cause place → ⊥
apart tokens end p cause place h (at_token {index = k} {t = t} f) = h.faultless k t cause f.here f.faulty
apart tokens end p cause place h (at_end stops c) = stops.whole p h.whole

pub parsed_once : (tokens : List Spanned) (end : Place) (p q : Program) → Parsed tokens p → Parsed tokens q → p ≡ q
parsed_once tokens end p q a b = go (comes tokens end)
  where
    go : Outcome tokens end → p ≡ q
    go (inl (r, h, only)) = only p a.whole ∙ sym (only q b.whole)
    go (inr (cause, place, f)) = absurd (apart tokens end p cause place a f)

same_rank : (ts : List Spanned) (t : Spanned) (a b : Cause) → rank a ≡ rank b → IsFaulty ts t a → IsFaulty ts t b → a ≡ b
same_rank ts t (unsupported w) (unsupported v) e (named f h) (named g q) = ap unsupported (some_is (sym f ∙ g))
same_rank ts t syntax syntax e f g = refl
same_rank ts t too_deep too_deep e f g = refl
same_rank ts t number_too_large number_too_large e f g = refl
same_rank ts t _ _ e f g = absurd (omega arith)

same_kind : (tokens : List Spanned) (k : ℕ) (t : Spanned) (a b : Cause) → FirstFault tokens k t a → FirstFault tokens k t b → a ≡ b
same_kind tokens k t a b f g = go (cases_order (rank a) (rank b))
  where
    go : (rank a ≡ rank b) ⊎ ((rank a < rank b) ⊎ (rank b < rank a)) → a ≡ b
    go (inl e) = same_rank (take k tokens) t a b e f.faulty g.faulty
    go (inr (inl lt)) = absurd (g.lowest a lt f.faulty)
    go (inr (inr lt)) = absurd (f.lowest b lt g.faulty)

same_fault : (tokens : List Spanned) (k j : ℕ) (t u : Spanned) (a b : Cause) → FirstFault tokens k t a → FirstFault tokens j u b → (a ≡ b) × (t ≡ u)
same_fault tokens k j t u a b f g = go (cases_order k j)
  where
    go : (k ≡ j) ⊎ ((k < j) ⊎ (j < k)) → (a ≡ b) × (t ≡ u)
    go (inl e) =
        let same : t ≡ u = some_is (sym f.here ∙ ap (slice_get tokens) e ∙ g.here) in
        (same_kind tokens j u a b (subst (λ v. FirstFault tokens j v a) same (subst (λ v. FirstFault tokens v t a) e f)) g, same)
    go (inr (inl lt)) = absurd (g.before k t a lt f.here f.faulty)
    go (inr (inr lt)) = absurd (f.before j u b lt g.here g.faulty)

pub fault_once : (tokens : List Spanned) (end : Place) (a b : Cause) (x y : Place) → FaultAt tokens end a x → FaultAt tokens end b y → (a ≡ b) × (x ≡ y)
fault_once tokens end a b x y (at_token {index = k} {t = t} f) (at_token {index = j} {t = u} g) = let d = same_fault tokens k j t u a b f g in (d.0, ap (λ v. v.at) d.1)
fault_once tokens end a b x y (at_token {index = k} {t = t} f) (at_end stops c) = absurd (c k t a f.here f.faulty)
fault_once tokens end a b x y (at_end stops c) (at_token {index = k} {t = t} f) = absurd (c k t b f.here f.faulty)
fault_once tokens end a b x y (at_end stops c) (at_end other d) = (refl, refl)

pub answer_comes : (tokens : List Spanned) (end : Place) → ((p : Program) × Parsed tokens p) ⊎ ((cause : Cause) × (place : Place) × FaultAt tokens end cause place)
answer_comes tokens end = go (comes tokens end)
  where
    go : Outcome tokens end → ((p : Program) × Parsed tokens p) ⊎ ((cause : Cause) × (place : Place) × FaultAt tokens end cause place)
    go (inl (p, h, only)) = inl (p, h)
    go (inr f) = inr f
