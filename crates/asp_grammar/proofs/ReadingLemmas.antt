-- What a loop over the tokens keeps.
use Rattle.std.proofs.Common.{◌≡◌, ℕ, false, List, [], ◌∷◌, ◌++◌, refl, sym, ap, subst}
use Rattle.std.specs.Prelude.{Option, Some, None}
use Rattle.asp_syntax.specs.declared.token.Spanned.{Spanned}
use Rattle.asp_syntax.specs.declared.tree.Statement.{Statement}
use Rattle.asp_syntax.specs.declared.tree.Program.{Program}
use Rattle.asp_grammar.specs.declared.state.State.{State}
use Rattle.asp_grammar.specs.declared.state.State.TheVariants.{Starting, Ended}
use Rattle.asp_grammar.specs.declared.state.Progress.{Progress}
use Rattle.asp_grammar.specs.declared.state.Progress.TheVariants as at
use Rattle.asp_grammar.specs.Terminals.{terminal_of, anonymous_after}
use Rattle.asp_grammar.specs.Machine.{step}
use Rattle.asp_grammar.specs.Programs.{Lined, program_of, IsProgram, Breaks, Stops}
use Rattle.asp_grammar.specs.Reading.{settled, settle, advance_of}
use Rattle.asp_grammar.proofs.TermLemmas.{none_some, some_is}
use Rattle.asp_grammar.proofs.ProgramLemmas.{Inside, Between, Reads, is_ended, reads_start, reads_begin, reads_inside, reads_end, reads_whole, reads_only, breaks_between, breaks_inside, stops_inside}

-- what leads on from where the parser stands
abbrev pub Onward : Progress → List Lined → List Statement → Type 0
Onward (at.Between done) ts all = Between done ts all
Onward (at.Inside done line s) ts all = Inside done line s ts all

abbrev pub IsOpen : Progress → Type 0
IsOpen (at.Between done) = Unit {0}
IsOpen (at.Inside done line s) = is_ended s ≡ false

-- After the tokens front, with k `_` among them, the parser stands so.
pub record Stands (front : List Spanned) (k : ℕ) (w : Progress) : Type 0 where
  pub reads : Reads front k (Onward w)
  pub still : IsOpen w

pub stands_first : Stands [] 0 (at.Between [])
stands_first = record { reads = reads_start; still = tt }

settled_stands : (front : List Spanned) (k : ℕ) (done : List Statement) (line : ℕ) (s : State) → Reads front k (Inside done line s) → Stands front k (settled done line s)
settled_stands front k done line (Ended h ls) r = record { reads = reads_end front k done line h ls r; still = tt }
settled_stands front k done line _ r = record { reads = r; still = refl }

settle_some : (done : List Statement) (line : ℕ) (o : Option State) (w : Progress) → settle done line o ≡ Some w → (s : State) × (o ≡ Some s) × (w ≡ settled done line s)
settle_some done line None w e = absurd (none_some e)
settle_some done line (Some s) w e = (s, refl, sym (some_is e))

settle_none : (done : List Statement) (line : ℕ) (o : Option State) → settle done line o ≡ None → o ≡ None
settle_none done line None e = refl
settle_none done line (Some s) e = absurd (none_some (sym e))

-- A token that is taken.
pub stands_on : (front : List Spanned) (k : ℕ) (t : Spanned) (w w' : Progress) → Stands front k w → advance_of w k t ≡ Some w' → Stands (front ++ t ∷ []) (anonymous_after k t.token) w'
stands_on front k t (at.Between done) w' st e =
    let d = settle_some done t.line (step Starting (terminal_of k t.token)) w' e in
    subst (λ v. Stands (front ++ t ∷ []) (anonymous_after k t.token) v) (sym d.2) (settled_stands (front ++ t ∷ []) (anonymous_after k t.token) done t.line d.0 (reads_begin front k t done d.0 d.1 st.reads))
stands_on front k t (at.Inside done line s) w' st e =
    let d = settle_some done line (step s (terminal_of k t.token)) w' e in
    subst (λ v. Stands (front ++ t ∷ []) (anonymous_after k t.token) v) (sym d.2) (settled_stands (front ++ t ∷ []) (anonymous_after k t.token) done line d.0 (reads_inside front k t done line s d.0 st.still d.1 st.reads))

-- A token that is refused.
pub stands_broken : (front : List Spanned) (k : ℕ) (t : Spanned) (w : Progress) → Stands front k w → advance_of w k t ≡ None → Breaks front t
stands_broken front k t (at.Between done) st e = breaks_between front k t done (settle_none done t.line (step Starting (terminal_of k t.token)) e) st.reads
stands_broken front k t (at.Inside done line s) st e = breaks_inside front k t done line s st.still (settle_none done line (step s (terminal_of k t.token)) e) st.reads

-- The end of the tokens.
pub stands_whole : (front : List Spanned) (k : ℕ) (done : List Statement) → Stands front k (at.Between done) → IsProgram front (program_of done)
stands_whole front k done st = reads_whole front k done st.reads

pub stands_only : (front : List Spanned) (k : ℕ) (done : List Statement) (q : Program) → Stands front k (at.Between done) → IsProgram front q → q ≡ program_of done
stands_only front k done q st h = ap program_of (reads_only front k done q st.reads h)

pub stands_stopped : (front : List Spanned) (k : ℕ) (done : List Statement) (line : ℕ) (s : State) → Stands front k (at.Inside done line s) → Stops front
stands_stopped front k done line s st = stops_inside front k done line s st.still st.reads
