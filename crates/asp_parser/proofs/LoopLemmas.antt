-- What the loop over the tokens keeps, token by token.
use Rattle.std.proofs.Common.{◌≡◌, ◌≢◌, ℕ, zero, suc, ◌+◌, ◌<◌, ◌≤◌, arith, Bool, true, false, List, [], ◌∷◌, ◌++◌, length, take, refl, sym, ap, subst, ◌∙◌}
use Rattle.std.specs.Prelude.{Option, Some, None, slice_get, is_some}
use Rattle.asp_syntax.specs.declared.token.Token.{Token}
use Rattle.asp_syntax.specs.declared.token.Token.TheVariants as token
use Rattle.asp_syntax.specs.declared.token.Place.{Place}
use Rattle.asp_syntax.specs.declared.token.Spanned.{Spanned}
use Rattle.asp_syntax.specs.declared.tree.Program.{Program}
use Rattle.asp_syntax.specs.WellFormed.{largest}
use Rattle.asp_grammar.specs.declared.state.State.{State}
use Rattle.asp_grammar.specs.declared.state.State.TheVariants.{SignRead, OperandDue}
use Rattle.asp_grammar.specs.declared.state.Progress.{Progress}
use Rattle.asp_grammar.specs.declared.state.Progress.TheVariants as at
use Rattle.asp_grammar.specs.Terminals.{anonymous_after}
use Rattle.asp_grammar.specs.Reading.{advance_of, program_at, signs_of, signs_in}
use Rattle.asp_grammar.specs.Nesting.{Levels, one_level, levels_after, levels_through, depth, nesting, deepest}
use Rattle.asp_grammar.specs.Faults.{syntax, too_deep, FaultAt, at_token, Parsed}
use Rattle.asp_grammar.proofs.TermLemmas.{none_some, some_is}
use Rattle.asp_grammar.proofs.SignLemmas.{pending, pending_in}
use Rattle.asp_grammar.proofs.StandingLemmas.{none_pending}
use Rattle.asp_grammar.proofs.FaultLemmas.{Sound, sound_on, sound_parsed, sound_stopped, named_first, broken_first, deep_first, large_first, pending_signs, levels_more, take_on}
use Rattle.asp_parser.specs.declared.fault.ParseFault.{ParseFault}
use Rattle.asp_parser.specs.declared.fault.ParseFault.TheVariants as fault
use Rattle.asp_parser.specs.Taking.{IsTaken, IsRefused}
use Rattle.asp_parser.specs.Answer.{IsFault}

-- ---- minuses

-- where minuses are counted, one is pending
counted_pending : (s : State) → signs_of s ≢ 0 → pending s ≡ true
counted_pending (SignRead role) h = refl
counted_pending (OperandDue sum product zero frames purpose) h = absurd (h refl)
counted_pending (OperandDue sum product (suc signs) frames purpose) h = refl
counted_pending _ h = absurd (h refl)

counted_pending_in : (w : Progress) → signs_in w ≢ 0 → pending_in w ≡ true
counted_pending_in (at.Between done) h = absurd (h refl)
counted_pending_in (at.Inside done line s) h = counted_pending s h

-- ---- nesting

-- the nesting through a token, by its levels
pub nested_through : (front : List Spanned) (t : Spanned) (before after : Levels) → before ≡ levels_through one_level front
    → after ≡ levels_after before t.token → after ≡ levels_through one_level (front ++ t ∷ [])
nested_through front t before after e f = f ∙ ap (λ v. levels_after v t.token) e ∙ sym (levels_more one_level front t)

-- a number nests nothing
number_nesting : (front : List Spanned) (t : Spanned) (n : ℕ) → t.token ≡ token.Number n → nesting (front ++ t ∷ []) ≡ nesting front
number_nesting front t n e = ap depth (levels_more one_level front t ∙ ap (levels_after (levels_through one_level front)) e)

is_there : {A : Type 0} (o : Option A) → is_some o ≡ true → (x : A) × (o ≡ Some x)
is_there None e = absurd cc
is_there (Some x) e = (x, refl)

-- ---- one token after those that are sound

module _ (tokens : List Spanned) (i k : ℕ) (w : Progress) (t : Spanned) (so : Sound tokens i k w) (here : slice_get tokens i ≡ Some t) where
  large_fault : (end : Place) → t.token ≡ token.Number largest → signs_in w ≡ 0 → (next : Progress) × (advance_of w k t ≡ Some next) → IsFault tokens end (fault.NumberTooLarge t.at)
  large_fault end is unsigned (next, e) =
      let shallow : nesting (take i tokens ++ t ∷ []) ≤ 200 = subst (λ v. v ≤ 200) (sym (number_nesting (take i tokens) t largest is)) so.shallow in
      at_token (large_first tokens i k w t so here next e shallow is (none_pending w unsigned))

  -- a token that is refused is the first fault
  pub refused_first : (end : Place) (f : ParseFault) → IsRefused w k t f → IsFault tokens end f
  refused_first end (fault.Unsupported at what) (same, e) =
      subst (λ v. IsFault tokens end (fault.Unsupported v what)) (sym same) (at_token (named_first tokens i k w t so here what e))
  refused_first end (fault.Syntax at) (same, n, e) =
      subst (λ v. IsFault tokens end (fault.Syntax v)) (sym same) (at_token (broken_first tokens i k w t so here n e))
  refused_first end (fault.TooDeep at) h = absurd h
  refused_first end (fault.NumberTooLarge at) (same, is, unsigned, some) =
      subst (λ v. IsFault tokens end (fault.NumberTooLarge v)) (sym same) (large_fault end is unsigned (is_there (advance_of w k t) some))
  refused_first end fault.OutOfMemory h = tt

  -- a token that is taken and nested too deep is the first fault
  pub deep_fault : (end : Place) (next : Progress) → IsTaken w k t next → deepest < nesting (take i tokens ++ t ∷ []) → FaultAt tokens end too_deep t.at
  deep_fault end next taken gt = at_token (deep_first tokens i k w t so here next taken.goes_on gt)

  -- a token that is taken and not nested too deep has no fault
  pub taken_sound : (next : Progress) → IsTaken w k t next → nesting (take i tokens ++ t ∷ []) ≤ deepest → Sound tokens (i + 1) (anonymous_after k t.token) next
  taken_sound next taken le = sound_on tokens i k w t so here next taken.goes_on le (λ is. counted_pending_in w (taken.fits is))

  -- with the number of `_` after it
  pub next_sound : (next : Progress) (count : ℕ) → count ≡ anonymous_after k t.token → IsTaken w k t next
      → nesting (take i tokens ++ t ∷ []) ≤ deepest → Sound tokens (i + 1) count next
  next_sound next count e taken le = subst (λ v. Sound tokens (i + 1) v next) (sym e) (taken_sound next taken le)

-- the levels after one token more
pub next_levels : (tokens : List Spanned) (i : ℕ) (t : Spanned) → slice_get tokens i ≡ Some t → (after : Levels)
    → after ≡ levels_through one_level (take i tokens ++ t ∷ []) → after ≡ levels_through one_level (take (i + 1) tokens)
next_levels tokens i t here after e = e ∙ ap (levels_through one_level) (sym (take_on tokens i t here))

anonymous_most : (count : ℕ) (t : Token) → anonymous_after count t ≤ count + 1
anonymous_most count token.Anonymous = omega arith
anonymous_most count _ = omega arith

-- there are no more `_` than tokens
pub next_count : (count i : ℕ) (t : Token) (after : ℕ) → after ≡ anonymous_after count t → count ≤ i → after ≤ i + 1
next_count count i t after e le = let most = anonymous_most count t in omega arith

-- ---- the end of the tokens

pub ended_parsed : (tokens : List Spanned) (i k : ℕ) (w : Progress) (p : Program) → length tokens ≤ i → Sound tokens i k w → program_at (Some w) ≡ Some p → Parsed tokens p
ended_parsed tokens i k (at.Between done) p le so e = subst (Parsed tokens) (some_is e) (sound_parsed tokens i k done le so)
ended_parsed tokens i k (at.Inside done line s) p le so e = absurd (none_some e)

pub ended_stopped : (tokens : List Spanned) (end : Place) (i k : ℕ) (w : Progress) → length tokens ≤ i → Sound tokens i k w → program_at (Some w) ≡ None → FaultAt tokens end syntax end
ended_stopped tokens end i k (at.Between done) le so e = absurd (none_some (sym e))
ended_stopped tokens end i k (at.Inside done line s) le so e = sound_stopped tokens end i k done line s le so
