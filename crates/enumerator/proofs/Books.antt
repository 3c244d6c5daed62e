-- The sets of a book.
use Rattle.std.proofs.Common.{ℕ, List, [], ◌∷◌, sym, subst, refl, inl, inr}
use Rattle.lists.specs.Lists.{◌∈◌, Each}
use Rattle.asp_meaning.specs.Atoms.{Atom}
use Rattle.asp_meaning.specs.Lines.{IsSetLine}
use Rattle.asp_meaning.specs.Readable.{IsReadable}
use Rattle.after_book.specs.Listed.{IsCanonical, AreLinesOf}
use Rattle.after_book.proofs.SetsOfLines.{sets_of_lines}
use Rattle.search_journals.specs.Search.{AreLinesOfSets}

-- each set has its line
line_in : (A : List (List Atom)) (lines : List (List ℕ)) → AreLinesOf A lines → (I : List Atom) → I ∈ A
    → (line : List ℕ) × (line ∈ lines) × Each IsReadable I × IsSetLine I line
line_in [] [] are I i = absurd i
line_in [] (line ∷ lines) are I i = absurd i
line_in (J ∷ A) [] are I i = absurd are
line_in (J ∷ A) (line ∷ lines) are I (inl e) =
    (line, inl refl, subst (λ z. Each IsReadable z) (sym e) are.0, subst (λ z. IsSetLine z line) (sym e) are.1)
line_in (J ∷ A) (line ∷ lines) are I (inr i) = let w = line_in A lines are.2 I i in (w.0, inr w.1, w.2, w.3)

-- and each line its set
set_in : (A : List (List Atom)) (lines : List (List ℕ)) → AreLinesOf A lines → (line : List ℕ) → line ∈ lines
    → (I : List Atom) × (I ∈ A) × Each IsReadable I × IsSetLine I line
set_in [] [] are line i = absurd i
set_in [] (l ∷ lines) are line i = absurd are
set_in (J ∷ A) [] are line i = absurd i
set_in (J ∷ A) (l ∷ lines) are line (inl e) = (J, inl refl, are.0, subst (λ z. IsSetLine J z) (sym e) are.1)
set_in (J ∷ A) (l ∷ lines) are line (inr i) = let w = set_in A lines are.2 line i in (w.0, inr w.1, w.2, w.3)

-- the lines of a book are those of some sets
pub book_lists : (book : List (List ℕ)) → Each IsCanonical book → (A : List (List Atom)) × AreLinesOfSets book A
book_lists book each =
    let w = sets_of_lines book each in
    (w.0, record { line_of = λ I i. line_in w.0 book w.2 I i; set_of = λ line i. set_in w.0 book w.2 line i })
