-- Lines are read back from bytes.
use Rattle.std.proofs.Common.{◌≡◌, inl, inr, refl, sym, ap, ◌∙◌, ℕ, ◌==◌, cond, Bool, true, false, List, [], ◌∷◌, ◌++◌, filter, eqb-true}
use Rattle.asp_meaning.specs.Output.{before_first, whole_lines, begins_with_brace, set_lines}
use Rattle.asp_laws.specs.Laws.{ALineEndsAtItsLineFeed, NoLineWithoutALineFeed, ASetLineIsReadBack}

-- a byte that is no line feed goes before what follows
no_feed : (b : ℕ) (bytes : List ℕ) → ¬ (10 ≡ b) → whole_lines (b ∷ bytes) ≡ before_first b (whole_lines bytes)
no_feed b bytes other = go (b == 10) refl
  where
    go : (t : Bool) → (b == 10) ≡ t → cond t ((b ∷ []) ∷ whole_lines bytes) (before_first b (whole_lines bytes)) ≡ before_first b (whole_lines bytes)
    go true e = absurd (other (sym (eqb-true b 10 e)))
    go false e = refl

pub a_line_ends : ALineEndsAtItsLineFeed
a_line_ends [] rest none = refl
a_line_ends (b ∷ text) rest none = no_feed b (text ++ (10 ∷ rest)) (λ e. none (inl e)) ∙ ap (before_first b) (a_line_ends text rest (λ k. none (inr k)))

pub no_line : NoLineWithoutALineFeed
no_line [] none = refl
no_line (b ∷ text) none = no_feed b text (λ e. none (inl e)) ∙ ap (before_first b) (no_line text (λ k. none (inr k)))

pub a_set_line_is_read_back : ASetLineIsReadBack
a_set_line_is_read_back I text rest line none =
    let brace : begins_with_brace (text ++ (10 ∷ [])) ≡ true = ap begins_with_brace line.text in
    ap (filter begins_with_brace) (a_line_ends text rest none)
    ∙ (λ i. cond (brace i) ((text ++ (10 ∷ [])) ∷ set_lines rest) (set_lines rest))
