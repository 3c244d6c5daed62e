-- Lines that list nothing.
use Rattle.std.proofs.Common.{◌≡◌, ◌⊎◌, ◌↔◌, inl, inr, refl, sym, ap, subst, ◌∙◌, ℕ, suc, ◌+◌, ◌<◌, Bool, true, false, ◌==◌, ◌&&◌, IsTrue, List, [], ◌∷◌, ◌++◌, length, drop, get_or, drop-cons, arith, true≢false, eq-eqb, eqb-true}
use Rattle.std.specs.List.{list_all}
use Rattle.answer_printer.specs.Sets.{is_set_blank, AreBlanks}
use Rattle.after_book.specs.Parts.{IsEmptyLine, IsComment}

-- the line is empty or a comment
abbrev pub ListsNothing : List ℕ → Type 0
ListsNothing line = IsEmptyLine line ⊎ IsComment line

abbrev head_or : List ℕ → ℕ
head_or [] = 0
head_or (x ∷ xs) = x

abbrev tail : List ℕ → List ℕ
tail [] = []
tail (x ∷ xs) = xs

-- blanks behind one that is a blank
blanks_on : (b : ℕ) (bs : List ℕ) → is_set_blank b ≡ true → AreBlanks bs → AreBlanks (b ∷ bs)
blanks_on b bs e h = ap (λ t. t && list_all is_set_blank bs) e ∙ h

-- the first of blanks is a blank
first_blank : (b : ℕ) (bs : List ℕ) → AreBlanks (b ∷ bs) → is_set_blank b ≡ true
first_blank b bs h = by (is_set_blank b) h
  where
    by : (t : Bool) → t && list_all is_set_blank bs ≡ true → t ≡ true
    by true h = refl
    by false h = h

-- and what is behind it are blanks
blanks_off : (b : ℕ) (bs : List ℕ) → AreBlanks (b ∷ bs) → AreBlanks bs
blanks_off b bs h = ap (λ t. t && list_all is_set_blank bs) (sym (first_blank b bs h)) ∙ h

-- a comment, by its blanks and its first byte
comment_off : (b : ℕ) (bs blanks rest : List ℕ) → is_set_blank b ≡ true → AreBlanks blanks → b ∷ bs ≡ blanks ++ 37 ∷ rest → IsComment bs
comment_off b bs [] rest e h is = absurd (true≢false (sym e ∙ ap (λ l. is_set_blank (head_or l)) is))
comment_off b bs (x ∷ xs) rest e h is = (xs, rest, blanks_off x xs h, ap tail is)

-- a blank before a line makes no difference
pub blank_first : (b : ℕ) (bs : List ℕ) → is_set_blank b ≡ true → ListsNothing (b ∷ bs) ↔ ListsNothing bs
blank_first b bs e = (to, back)
  where
    to : ListsNothing (b ∷ bs) → ListsNothing bs
    to (inl h) = inl (blanks_off b bs h)
    to (inr h) = inr (comment_off b bs h.0 h.1 e h.2 h.3)

    back : ListsNothing bs → ListsNothing (b ∷ bs)
    back (inl h) = inl (blanks_on b bs e h)
    back (inr h) = inr (b ∷ h.0, h.1, blanks_on b h.0 e h.2, ap (λ l. b ∷ l) h.3)

percent_first : (b : ℕ) (bs blanks rest : List ℕ) → is_set_blank b ≡ false → AreBlanks blanks → b ∷ bs ≡ blanks ++ 37 ∷ rest → b ≡ 37
percent_first b bs [] rest e h is = ap head_or is
percent_first b bs (x ∷ xs) rest e h is =
    absurd (true≢false (sym (first_blank x xs h) ∙ sym (ap (λ l. is_set_blank (head_or l)) is) ∙ e))

-- another byte tells
pub other_first : (b : ℕ) (bs : List ℕ) → is_set_blank b ≡ false → IsTrue (b == 37) ↔ ListsNothing (b ∷ bs)
other_first b bs e = (to, back)
  where
    to : IsTrue (b == 37) → ListsNothing (b ∷ bs)
    to h = inr ([], bs, refl, ap (λ x. x ∷ bs) (eqb-true b 37 h))

    back : ListsNothing (b ∷ bs) → IsTrue (b == 37)
    back (inl h) = absurd (true≢false (sym (first_blank b bs h) ∙ e))
    back (inr h) = eq-eqb b 37 (percent_first b bs h.0 h.1 e h.2 h.3)

-- ---- a loop over the bytes

-- the byte at a place stands first in what is left from it on
drop_read : (xs : List ℕ) (i : ℕ) → i < length xs → drop i xs ≡ get_or xs i 0 ∷ drop (i + 1) xs
drop_read xs i lt = let next : suc i ≡ i + 1 = omega arith in drop-cons xs i 0 lt ∙ ap (λ n. get_or xs i 0 ∷ drop n xs) next

-- a blank is passed over
pub through : (line : List ℕ) (i : ℕ) → i < length line → is_set_blank (get_or line i 0) ≡ true
    → ListsNothing (drop i line) ↔ ListsNothing line → ListsNothing (drop (i + 1) line) ↔ ListsNothing line
through line i lt e h =
    let at = drop_read line i lt in
    let step = blank_first (get_or line i 0) (drop (i + 1) line) e in
    (λ k. h.0 (subst ListsNothing (sym at) (step.1 k)), λ k. step.0 (subst ListsNothing at (h.1 k)))

-- another byte stands first in what is left
pub told : (line : List ℕ) (i : ℕ) → i < length line → is_set_blank (get_or line i 0) ≡ false
    → ListsNothing (drop i line) ↔ ListsNothing line → IsTrue (get_or line i 0 == 37) ↔ ListsNothing line
told line i lt e h =
    let at = drop_read line i lt in
    let here = other_first (get_or line i 0) (drop (i + 1) line) e in
    (λ k. h.0 (subst ListsNothing (sym at) (here.0 k)), λ k. here.1 (subst ListsNothing at (h.1 k)))
