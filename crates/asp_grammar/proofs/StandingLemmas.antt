-- The machine passes just the tokens with which a program begins, and reads just the programs.
use Rattle.std.proofs.Common.{◌≡◌, ℕ, zero, suc, ◌+◌, ◌<◌, ◌≤◌, arith, Bool, true, false, List, [], ◌∷◌, ◌++◌, length, take, get_or, ◌⊎◌, inl, inr, refl, sym, ap, subst, ◌∙◌, append_assoc, true≢false, append-nil}
use Rattle.std.specs.Prelude.{Option, Some, None, slice_get, ◌↔◌}
use Rattle.std.proofs.lemmas.Option.{slice_get_cases, slice_get_within}
use Rattle.asp_syntax.specs.declared.token.Spanned.{Spanned}
use Rattle.asp_syntax.specs.declared.what.What.{What}
use Rattle.asp_syntax.specs.declared.tree.Program.{Program}
use Rattle.asp_grammar.specs.declared.state.State.{State}
use Rattle.asp_grammar.specs.declared.state.State.TheVariants.{Starting, SignRead, OperandDue, Ended}
use Rattle.asp_grammar.specs.declared.state.Progress.{Progress}
use Rattle.asp_grammar.specs.declared.state.Progress.TheVariants as at
use Rattle.asp_grammar.specs.Terminals.{Terminal, anonymous_after}
use Rattle.asp_grammar.specs.Grammar.{Clause, IsClause}
use Rattle.asp_grammar.specs.Machine.{step}
use Rattle.asp_grammar.specs.Continuations.{Leads}
use Rattle.asp_grammar.specs.Programs.{lined_from, terminals, program_of, IsProgram, IsViable, Breaks, Stops}
use Rattle.asp_grammar.specs.Reading.{advance_of, passed, standing, program_at, read, IsInside, signs_of, signs_in}
use Rattle.asp_grammar.specs.UnaryMinus.{ends_in_unary_minus}
use Rattle.asp_grammar.specs.Faults.{what_of, Cause, unsupported, syntax, too_deep, number_too_large, IsFaulty, named, broken, IsCleanUpTo, FirstFault}
use Rattle.asp_grammar.proofs.TermLemmas.{none_some, some_is, Goes}
use Rattle.asp_grammar.proofs.StepLemmas.{step_on, step_back}
use Rattle.asp_grammar.proofs.ProgramLemmas.{live, leads_none}
use Rattle.asp_grammar.proofs.ReadingLemmas.{Stands, stands_first, stands_on, stands_broken, stands_whole, stands_only, stands_stopped}
use Rattle.asp_grammar.proofs.SignLemmas.{Marks, marks_first, marks_on, pending, pending_in}
use Rattle.asp_grammar.proofs.FaultLemmas.{viable_of, take_on, pending_signs}

viable_front : (front rest : List Spanned) → IsViable (front ++ rest) → IsViable front
viable_front front rest v =
    record { rest = rest ++ v.rest; program = v.program; whole = subst (λ w. IsProgram w v.program) (append_assoc front rest v.rest) v.whole }

passed_none : (k : ℕ) (ts : List Spanned) → passed None k ts ≡ None
passed_none k [] = refl
passed_none k (t ∷ ts) = refl

-- ---- tokens that are passed, and tokens that are not

passed_stands : (front rest : List Spanned) (k : ℕ) (w w' : Progress) → Stands front k w → Marks front w → passed (Some w) k rest ≡ Some w' → (k' : ℕ) × Stands (front ++ rest) k' w' × Marks (front ++ rest) w'
passed_stands front [] k w w' st m e =
    let same = sym (append-nil front) in
    (k, subst (λ v. Stands (front ++ []) k v) (some_is e) (subst (λ v. Stands v k w) same st), subst (λ v. Marks (front ++ []) v) (some_is e) (subst (λ v. Marks v w) same m))
passed_stands front (t ∷ ts) k w w' st m e = go (advance_of w k t) refl e (λ v st' m' e'. passed_stands (front ++ t ∷ []) ts (anonymous_after k t.token) v w' st' m' e')
  where
    go : (o : Option Progress) → advance_of w k t ≡ o → passed o (anonymous_after k t.token) ts ≡ Some w'
        → ((v : Progress) → Stands (front ++ t ∷ []) (anonymous_after k t.token) v → Marks (front ++ t ∷ []) v → passed (Some v) (anonymous_after k t.token) ts ≡ Some w' → (k' : ℕ) × Stands ((front ++ t ∷ []) ++ ts) k' w' × Marks ((front ++ t ∷ []) ++ ts) w')
        → (k' : ℕ) × Stands (front ++ t ∷ ts) k' w' × Marks (front ++ t ∷ ts) w'
    go None f e rec = absurd (none_some (sym (passed_none (anonymous_after k t.token) ts) ∙ e))
    go (Some v) f e rec =
        let q = rec v (stands_on front k t w v st f) (marks_on front k t w v m f) e in
        let same = append_assoc front (t ∷ []) ts in
        (q.0, subst (λ u. Stands u q.0 w') same q.1, subst (λ u. Marks u w') same q.2)

refused_not : (front rest : List Spanned) (k : ℕ) (w : Progress) → Stands front k w → passed (Some w) k rest ≡ None → IsViable (front ++ rest) → ⊥
refused_not front [] k w st e v = none_some (sym e)
refused_not front (t ∷ ts) k w st e v = go (advance_of w k t) refl e (λ w' st' e'. refused_not (front ++ t ∷ []) ts (anonymous_after k t.token) w' st' e' longer)
  where
    longer : IsViable ((front ++ t ∷ []) ++ ts)
    longer = subst IsViable (sym (append_assoc front (t ∷ []) ts)) v

    go : (o : Option Progress) → advance_of w k t ≡ o → passed o (anonymous_after k t.token) ts ≡ None → ((w' : Progress) → Stands (front ++ t ∷ []) (anonymous_after k t.token) w' → passed (Some w') (anonymous_after k t.token) ts ≡ None → ⊥) → ⊥
    go None f e rec = (stands_broken front k t w st f).through (viable_front (front ++ t ∷ []) ts longer)
    go (Some w') f e rec = rec w' (stands_on front k t w w' st f) e

stands_now : (tokens : List Spanned) (w : Progress) → standing tokens ≡ Some w → (k : ℕ) × Stands tokens k w × Marks tokens w
stands_now tokens w e = passed_stands [] tokens 0 (at.Between []) w stands_first marks_first e

pub passed_viable : (tokens : List Spanned) (w : Progress) → standing tokens ≡ Some w → IsViable tokens
passed_viable tokens w e = let q = stands_now tokens w e in viable_of tokens q.0 w q.1

pub refused_none : (tokens : List Spanned) → standing tokens ≡ None → ¬ IsViable tokens
refused_none tokens e v = refused_not [] tokens 0 (at.Between []) stands_first e v

pub tried : (tokens : List Spanned) → IsViable tokens ⊎ (¬ IsViable tokens)
tried tokens = go (standing tokens) refl
  where
    go : (o : Option Progress) → standing tokens ≡ o → IsViable tokens ⊎ (¬ IsViable tokens)
    go None e = inr (refused_none tokens e)
    go (Some w) e = inl (passed_viable tokens w e)

pub refused_breaks : (front : List Spanned) (t : Spanned) (w : Progress) → standing front ≡ Some w → standing (front ++ t ∷ []) ≡ None → Breaks front t
refused_breaks front t w e f = record { before = passed_viable front w e; through = refused_none (front ++ t ∷ []) f }

pub breaks_refused : (front : List Spanned) (t : Spanned) → Breaks front t → standing (front ++ t ∷ []) ≡ None
breaks_refused front t b = go (standing (front ++ t ∷ [])) refl
  where
    go : (o : Option Progress) → standing (front ++ t ∷ []) ≡ o → standing (front ++ t ∷ []) ≡ None
    go None e = e
    go (Some w) e = absurd (b.through (passed_viable (front ++ t ∷ []) w e))

-- ---- the end

pub read_program : (tokens : List Spanned) (p : Program) → read tokens ≡ Some p → IsProgram tokens p
read_program tokens p e = go (standing tokens) refl e
  where
    go : (o : Option Progress) → standing tokens ≡ o → program_at o ≡ Some p → IsProgram tokens p
    go (Some (at.Between done)) f e = let q = stands_now tokens (at.Between done) f in subst (IsProgram tokens) (some_is e) (stands_whole tokens q.0 done q.1)
    go _ f e = absurd (none_some e)

program_viable : (tokens : List Spanned) (p : Program) → IsProgram tokens p → IsViable tokens
program_viable tokens p h = record { rest = []; program = p; whole = subst (λ v. IsProgram v p) (sym (append-nil tokens)) h }

pub program_read : (tokens : List Spanned) (p : Program) → IsProgram tokens p → read tokens ≡ Some p
program_read tokens p h = go (standing tokens) refl
  where
    go : (o : Option Progress) → standing tokens ≡ o → read tokens ≡ Some p
    go None e = absurd (refused_none tokens e (program_viable tokens p h))
    go (Some (at.Between done)) e = let q = stands_now tokens (at.Between done) e in ap program_at e ∙ ap Some (sym (stands_only tokens q.0 done p q.1 h))
    go (Some (at.Inside done line s)) e = let q = stands_now tokens (at.Inside done line s) e in absurd ((stands_stopped tokens q.0 done line s q.1).whole p h)

pub reads_just : (tokens : List Spanned) (p : Program) → (read tokens ≡ Some p) ↔ IsProgram tokens p
reads_just tokens p = (read_program tokens p, program_read tokens p)

pub one_tree : (tokens : List Spanned) (p q : Program) → IsProgram tokens p → IsProgram tokens q → p ≡ q
one_tree tokens p q a b = some_is (sym (program_read tokens p a) ∙ program_read tokens q b)

pub inside_stops : (tokens : List Spanned) → IsInside (standing tokens) → Stops tokens
inside_stops tokens h = go (standing tokens) refl h
  where
    go : (o : Option Progress) → standing tokens ≡ o → IsInside o → Stops tokens
    go None e h = absurd h
    go (Some (at.Between done)) e h = absurd h
    go (Some (at.Inside done line s)) e h = let q = stands_now tokens (at.Inside done line s) e in stands_stopped tokens q.0 done line s q.1

pub stops_inside : (tokens : List Spanned) → Stops tokens → IsInside (standing tokens)
stops_inside tokens h = go (standing tokens) refl
  where
    go : (o : Option Progress) → standing tokens ≡ o → IsInside (standing tokens)
    go None e = absurd (refused_none tokens e h.before)
    go (Some (at.Between done)) e = let q = stands_now tokens (at.Between done) e in absurd (h.whole (program_of done) (stands_whole tokens q.0 done q.1))
    go (Some (at.Inside done line s)) e = subst IsInside (sym e) tt

-- ---- unary minuses

no_signs : (s : State) → pending s ≡ false → signs_of s ≡ 0
no_signs (SignRead role) e = absurd (true≢false e)
no_signs (OperandDue sum product zero frames purpose) e = refl
no_signs (OperandDue sum product (suc signs) frames purpose) e = absurd (true≢false e)
no_signs _ e = refl

no_signs_in : (w : Progress) → pending_in w ≡ false → signs_in w ≡ 0
no_signs_in (at.Between done) e = refl
no_signs_in (at.Inside done line s) e = no_signs s e

-- without signs that wait no operand is pending
pub none_pending : (w : Progress) → signs_in w ≡ 0 → pending_in w ≡ false
none_pending w e = go (pending_in w) refl
  where
    go : (p : Bool) → pending_in w ≡ p → pending_in w ≡ false
    go false f = f
    go true f = absurd (pending_signs w f e)

pub signs_told : (tokens : List Spanned) (w : Progress) → standing tokens ≡ Some w → (signs_in w ≡ 0) ↔ (ends_in_unary_minus false tokens ≡ false)
signs_told tokens w e =
    let q = stands_now tokens w e in
    (λ f. sym q.2.pending_same ∙ none_pending w f, λ f. no_signs_in w (q.2.pending_same ∙ f))

-- ---- what stands before the first fault

clean_stands : (tokens : List Spanned) (n : ℕ) → n ≤ length tokens → IsCleanUpTo tokens n → (k : ℕ) × (w : Progress) × Stands (take n tokens) k w
clean_stands tokens zero le clean = (0, at.Between [], stands_first)
clean_stands tokens (suc n) le clean =
    let before = clean_stands tokens n (omega arith) (λ j u other lt here h. clean j u other (omega arith) here h) in
    token before.0 before.1 before.2 (slice_get_cases tokens n).1
  where
    go : (k : ℕ) (w : Progress) → Stands (take n tokens) k w → (t : Spanned) → slice_get tokens n ≡ Some t → (o : Option Progress) → advance_of w k t ≡ o → (k' : ℕ) × (w' : Progress) × Stands (take (suc n) tokens) k' w'
    go k w st t here None e = absurd (clean n t syntax (omega arith) here (broken (stands_broken (take n tokens) k t w st e)))
    go k w st t here (Some w') e =
        let plus : suc n ≡ n + 1 = omega arith in
        let same : take (suc n) tokens ≡ take n tokens ++ t ∷ [] = ap (λ v. take v tokens) plus ∙ take_on tokens n t here in
        (anonymous_after k t.token, w', subst (λ v. Stands v (anonymous_after k t.token) w') (sym same) (stands_on (take n tokens) k t w w' st e))

    token : (k : ℕ) (w : Progress) → Stands (take n tokens) k w → ((x : Spanned) × (n < length tokens) × (slice_get tokens n ≡ Some x) × (get_or tokens n x ≡ x)) ⊎ ((length tokens ≤ n) × (slice_get tokens n ≡ None)) → (k' : ℕ) × (w' : Progress) × Stands (take (suc n) tokens) k' w'
    token k w st (inl (t, lt, here, same)) = go k w st t here (advance_of w k t) refl
    token k w st (inr (past, none)) = absurd (omega arith)

pub viable_before : (tokens : List Spanned) (k : ℕ) (t : Spanned) (cause : Cause) → FirstFault tokens k t cause → IsViable (take k tokens)
viable_before tokens k t cause f =
    let within = slice_get_within tokens k t f.here in
    let q = clean_stands tokens k (omega arith) f.before in
    viable_of (take k tokens) q.0 q.1 q.2

pub named_unsupported : (tokens : List Spanned) (k : ℕ) (t : Spanned) (cause : Cause) (what : What) → FirstFault tokens k t cause → what_of t.token ≡ Some what → cause ≡ unsupported what
named_unsupported tokens k t (unsupported other) what f e = go f.faulty
  where
    go : IsFaulty (take k tokens) t (unsupported other) → unsupported other ≡ unsupported what
    go (named g v) = ap unsupported (some_is (sym g ∙ e))
named_unsupported tokens k t syntax what f e = absurd (f.lowest (unsupported what) (omega arith) (named e (viable_before tokens k t syntax f)))
named_unsupported tokens k t too_deep what f e = absurd (f.lowest (unsupported what) (omega arith) (named e (viable_before tokens k t too_deep f)))
named_unsupported tokens k t number_too_large what f e = absurd (f.lowest (unsupported what) (omega arith) (named e (viable_before tokens k t number_too_large f)))

-- ---- single steps

pub step_keeps : (s : State) (t : Terminal) (ts : List Terminal) (c : Clause) → Leads s (t ∷ ts) c ↔ ((next : State) × (step s t ≡ Some next) × Leads next ts c)
step_keeps s t ts c = (λ h. go (step_on s t ts c h), λ h. step_back s t ts c h.0 h.1 h.2)
  where
    go : Goes (step s t) ts c → (next : State) × (step s t ≡ Some next) × Leads next ts c
    go (next, e, l) = (next, e, l)

pub completed : (s : State) (count : ℕ) → (ts : List Spanned) × (c : Clause) × Leads s (terminals (lined_from count ts)) c
completed s count = live s count

pub end_stops : (tokens : List Spanned) → IsInside (standing tokens) ↔ Stops tokens
end_stops tokens = (inside_stops tokens, stops_inside tokens)

-- what leads on from a state leads to one statement
leads_once : (s : State) (ts : List Terminal) (c d : Clause) → Leads s ts c → Leads s ts d → c ≡ d
leads_once (Ended h items) [] c d l m = sym l.1 ∙ m.1
leads_once s [] c d l m = absurd (leads_none s c refl l)
leads_once s (t ∷ ts) c d l m =
    let p = step_on s t ts c l in
    let q = step_on s t ts d m in
    leads_once p.0 ts c d p.2 (subst (λ v. Leads v ts d) (some_is (sym q.1 ∙ p.1)) q.2)

pub one_clause : (ts : List Terminal) (c d : Clause) → IsClause ts c → IsClause ts d → c ≡ d
one_clause ts c d h k = leads_once Starting ts c d h k
