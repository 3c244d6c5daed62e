-- Canonical lines are those of sets.
use Rattle.std.proofs.Common.{◌≡◌, refl, ap, ℕ, suc, List, [], ◌∷◌, length}
use Rattle.lists.specs.Lists.{Each}
use Rattle.asp_meaning.specs.Atoms.{Atom}
use Rattle.after_book.specs.Listed.{IsCanonical, AreLinesOf}

-- canonical lines are those of as many sets of readable atoms, one by one
pub sets_of_lines : (lines : List (List ℕ)) → Each IsCanonical lines → (A : List (List Atom)) × (length A ≡ length lines) × AreLinesOf A lines
sets_of_lines [] h = ([], refl, tt)
sets_of_lines (line ∷ lines) h =
    let more = sets_of_lines lines h.1 in
    (h.0.0 ∷ more.0, ap suc more.1, (h.0.1, h.0.2, more.2))
