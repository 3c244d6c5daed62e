-- The whole lines of an output that is made of lines.
use Rattle.std.proofs.Common.{◌≡◌, ◌⊎◌, inl, inr, refl, sym, ap, ◌∙◌, ℕ, zero, suc, Bool, true, false, ◌==◌, cond, List, [], ◌∷◌, ◌++◌, filter, take, append_assoc, append-nil, arith}
use Rattle.lists.specs.Lists.{◌∈◌, Each, concat}
use Rattle.lists.proofs.Places.{∈-take}
use Rattle.asp_meaning.specs.Output.{before_first, whole_lines, begins_with_brace, set_lines, IsBraceLine}

-- other numbers are told apart
differs : (b c : ℕ) → ¬ (b ≡ c) → (b == c) ≡ false
differs b c apart = by_case (b == c) refl
  where
    by_case : (v : Bool) → (b == c) ≡ v → (b == c) ≡ false
    by_case true e = absurd (apart (grind (arith, e)))
    by_case false e = e

-- a whole line stands first
pub whole_lines-line : (front rest : List ℕ) → ¬ (10 ∈ front) → whole_lines (front ++ (10 ∷ rest)) ≡ (front ++ (10 ∷ [])) ∷ whole_lines rest
whole_lines-line [] rest none = refl
whole_lines-line (b ∷ front) rest none =
    ap (λ v. cond v ((b ∷ []) ∷ whole_lines (front ++ (10 ∷ rest))) (before_first b (whole_lines (front ++ (10 ∷ rest))))) (differs b 10 (λ e. none (inl (sym e))))
    ∙ ap (before_first b) (whole_lines-line front rest (λ among. none (inr among)))

-- bytes without a line feed have no whole line
pub whole_lines-part : (front : List ℕ) → ¬ (10 ∈ front) → whole_lines front ≡ []
whole_lines-part [] none = refl
whole_lines-part (b ∷ front) none =
    ap (λ v. cond v ((b ∷ []) ∷ whole_lines front) (before_first b (whole_lines front))) (differs b 10 (λ e. none (inl (sym e))))
    ∙ ap (before_first b) (whole_lines-part front (λ among. none (inr among)))

-- a whole line that begins with `{` is the first set line
pub set_lines-line : (line rest : List ℕ) → IsBraceLine line → set_lines (line ++ rest) ≡ line ∷ set_lines rest
set_lines-line line rest is =
    let none : ¬ (10 ∈ (123 ∷ is.inner)) = (λ among. elim among [ inl e ↦ absurd (omega (arith, e)) | inr more ↦ is.no_feed more ]) in
    let split : line ++ rest ≡ (123 ∷ is.inner) ++ (10 ∷ rest) = ap (λ xs. xs ++ rest) is.is ∙ append_assoc (123 ∷ is.inner) (10 ∷ []) rest in
    ap set_lines split ∙ ap (filter begins_with_brace) (whole_lines-line (123 ∷ is.inner) rest none) ∙ ap (λ xs. xs ∷ set_lines rest) (sym is.is)

-- set lines, and then whatever comes
pub set_lines-concat : (lines : List (List ℕ)) (rest : List ℕ) → Each IsBraceLine lines
    → set_lines (concat lines ++ rest) ≡ lines ++ set_lines rest
set_lines-concat [] rest whole = refl
set_lines-concat (line ∷ lines) rest whole =
    ap set_lines (append_assoc line (concat lines) rest) ∙ set_lines-line line (concat lines ++ rest) whole.0 ∙ ap (λ xs. line ∷ xs) (set_lines-concat lines rest whole.1)

-- a front of nothing
take-nil : (n : ℕ) → take {A = ℕ} n [] ≡ []
take-nil zero = refl
take-nil (suc n) = refl

-- a front of a line is without its line feed, or whole
part_or_whole : (n : ℕ) (front : List ℕ)
    → ((k : ℕ) × (take n (front ++ (10 ∷ [])) ≡ take k front)) ⊎ (take n (front ++ (10 ∷ [])) ≡ front ++ (10 ∷ []))
part_or_whole zero front = inl (0, refl)
part_or_whole (suc n) [] = inr (ap (λ xs. 10 ∷ xs) (take-nil n))
part_or_whole (suc n) (b ∷ front) = elim (part_or_whole n front) [
  | inl part ↦ inl (suc part.0, ap (λ xs. b ∷ xs) part.1)
  | inr whole ↦ inr (ap (λ xs. b ∷ xs) whole)
]

-- a front that is no whole line has no set line
no_lines-take : (k : ℕ) (front : List ℕ) → ¬ (10 ∈ front) → set_lines (take k front) ≡ []
no_lines-take k front none = ap (filter begins_with_brace) (whole_lines-part (take k front) (λ among. none (∈-take k front 10 among)))

-- of a front of a set line nothing is a set line, or the whole of it
pub set_lines-take : (n : ℕ) (line : List ℕ) → IsBraceLine line → (set_lines (take n line) ≡ []) ⊎ (set_lines (take n line) ≡ line ∷ [])
set_lines-take n line is =
    let none : ¬ (10 ∈ (123 ∷ is.inner)) = (λ among. elim among [ inl e ↦ absurd (omega (arith, e)) | inr more ↦ is.no_feed more ]) in
    elim (part_or_whole n (123 ∷ is.inner)) [
      | inl part ↦ inl (ap (λ xs. set_lines (take n xs)) is.is ∙ ap set_lines part.1 ∙ no_lines-take part.0 (123 ∷ is.inner) none)
      | inr whole ↦ inr (ap (λ xs. set_lines (take n xs)) is.is ∙ ap set_lines (whole ∙ sym is.is ∙ sym (append-nil line)) ∙ set_lines-line line [] is)
    ]

-- bytes that are one whole line which begins otherwise
pub record IsOtherLine (line : List ℕ) : Type 0 where
  pub first : ℕ
  pub inner : List ℕ
  pub is : line ≡ first ∷ (inner ++ (10 ∷ []))
  pub other : (first == 123) ≡ false
  pub no_feed : ¬ (10 ∈ (first ∷ inner))

-- another line, or a front of it, has no set line
pub set_lines-other : (n : ℕ) (line : List ℕ) → IsOtherLine line → set_lines (take n line) ≡ []
set_lines-other n line is = elim (part_or_whole n (is.first ∷ is.inner)) [
  | inl part ↦ ap (λ xs. set_lines (take n xs)) is.is ∙ ap set_lines part.1 ∙ no_lines-take part.0 (is.first ∷ is.inner) is.no_feed
  | inr whole ↦
      ap (λ xs. set_lines (take n xs)) is.is ∙ ap set_lines whole
      ∙ ap (filter begins_with_brace) (whole_lines-line (is.first ∷ is.inner) [] is.no_feed)
      ∙ ap (λ v. cond v ((is.first ∷ (is.inner ++ (10 ∷ []))) ∷ []) []) is.other
]
