-- A book after one more line.
use Rattle.std.proofs.Common.{◌≡◌, ◌↔◌, inl, inr, refl, sym, ap, subst, ◌∙◌, ℕ, Bool, true, false, ◌||◌, nat_eq, List, [], ◌∷◌, ◌++◌, map, IsTrue, IfOk, Result, Ok, Err, if◌then◌else◌, true≢false}
use Rattle.std.specs.Cmp.Lexicographic.{pointwise, bytes_decides}
use Rattle.std.specs.List.{list_any}
use Rattle.std.proofs.lemmas.List.{map-append}
use Rattle.indexmap.specs.IndexSet.{insert_key}
use Rattle.lists.specs.Lists.{◌∈◌, Each, HasNoRepeats}
use Rattle.lists.proofs.ListLemmas.{AtLeastOne-from, Each-append, HasNoRepeats-last, ∈-append_left, ∈-append_right, ∈-append_cases}
use Rattle.asp_meaning.specs.Atoms.{Atom}
use Rattle.asp_meaning.specs.Lines.{IsSetLine}
use Rattle.answer_printer.specs.declared.fault.SetFault.{SetFault}
use Rattle.answer_printer.specs.Answers.{IsAnswer}
use Rattle.answer_printer.specs.Sets.{IsSetText}
use Rattle.after_book.specs.Listed.{IsCanonical}
use Rattle.after_book.specs.Book.{IsAdded, TakesUp}
use Rattle.after_book.proofs.ReadableLemmas.{set_is_readable}

-- ---- keys, each with its line

module _ {K : Type 0} (line_of : K → List ℕ) where
  -- the keys that have the line are those that the test finds
  pub found : (line : List ℕ) (keys : List K) → list_any (λ k. pointwise nat_eq line (line_of k)) keys ≡ true → line ∈ map line_of keys
  found line [] h = absurd (true≢false (sym h))
  found line (k ∷ keys) h = by (pointwise nat_eq line (line_of k)) refl h (found line keys)
    where
      by : (t : Bool) → pointwise nat_eq line (line_of k) ≡ t → t || list_any (λ x. pointwise nat_eq line (line_of x)) keys ≡ true
          → (list_any (λ x. pointwise nat_eq line (line_of x)) keys ≡ true → line ∈ map line_of keys) → line ∈ map line_of (k ∷ keys)
      by true e h rest = inl ((bytes_decides line (line_of k)).0 e)
      by false e h rest = inr (rest h)

  -- and the test finds each
  pub finds : (line : List ℕ) (keys : List K) → line ∈ map line_of keys → list_any (λ k. pointwise nat_eq line (line_of k)) keys ≡ true
  finds line [] h = absurd h
  finds line (k ∷ keys) (inl e) = ap (λ t. t || list_any (λ x. pointwise nat_eq line (line_of x)) keys) ((bytes_decides line (line_of k)).1 e)
  finds line (k ∷ keys) (inr h) = ap (λ t. pointwise nat_eq line (line_of k) || t) (finds line keys h) ∙ or_true (pointwise nat_eq line (line_of k))
    where
      or_true : (t : Bool) → t || true ≡ true
      or_true true = refl
      or_true false = refl

  -- whether a book has a line
  pub has_line : (keys : List K) (lines : List (List ℕ)) (line : List ℕ) (t : Bool) → map line_of keys ≡ lines
      → t ≡ list_any (λ k. pointwise nat_eq line (line_of k)) keys → IsTrue t ↔ (line ∈ lines)
  has_line keys lines line t are e = (
    λ h. subst (λ ls. line ∈ ls) are (found line keys (sym e ∙ h)),
    λ h. e ∙ finds line keys (subst (λ ls. line ∈ ls) (sym are) h),
  )

  -- a line that is not there goes last
  pub line_inserted : (keys after : List K) (key : K) (lines : List (List ℕ)) (line : List ℕ) → map line_of keys ≡ lines → line_of key ≡ line
      → ¬ (line ∈ lines) → after ≡ insert_key (λ x y. pointwise nat_eq (line_of x) (line_of y)) keys key → map line_of after ≡ lines ++ line ∷ []
  line_inserted keys after key lines line are is none e = by (list_any (λ k. pointwise nat_eq (line_of key) (line_of k)) keys) refl e
    where
      by : (t : Bool) → list_any (λ k. pointwise nat_eq (line_of key) (line_of k)) keys ≡ t → after ≡ (if t then keys else keys ++ key ∷ [])
          → map line_of after ≡ lines ++ line ∷ []
      by true there e = absurd (none (subst (λ ls. line ∈ ls) are (subst (λ l. l ∈ map line_of keys) is (found (line_of key) keys there))))
      by false there e = ap (map line_of) e ∙ map-append line_of keys (key ∷ []) ∙ (λ i. are i ++ is i ∷ [])

-- ---- what a book promises

abbrev pub IsBook : List (List ℕ) → Type 0
IsBook lines = Each IsCanonical lines × HasNoRepeats lines

-- so after a new line
pub book_with : (lines after : List (List ℕ)) (line : List ℕ) → IsBook lines → IsCanonical line → ¬ (line ∈ lines) → after ≡ lines ++ line ∷ [] → IsBook after
book_with lines after line h is none e =
    subst IsBook (sym e) (Each-append IsCanonical lines (line ∷ []) h.0 (is, tt), HasNoRepeats-last lines line h.1 none)

-- ---- texts that are taken up

-- the line of a set text is canonical
pub canonical_line : (text line : List ℕ) → (atoms : List Atom) × IsSetText text atoms × IsSetLine atoms line → IsCanonical line
canonical_line text line h = (h.0, set_is_readable text h.0 h.1, h.2)

-- so where a text has been read
pub canonical_read : (text : List ℕ) (r : Result (List ℕ) SetFault) → IsAnswer text r → IfOk r IsCanonical
canonical_read text (Ok line) h = canonical_line text line h
canonical_read text (Err fault) h = tt

-- a text is taken up by its line
pub taken_up : (old new : List (List ℕ)) (text line : List ℕ) (t : Bool) → (atoms : List Atom) × IsSetText text atoms × IsSetLine atoms line
    → ((xs ys : List Atom) → IsSetText text xs → IsSetText text ys → xs ≡ ys) → IsAdded old new line t → TakesUp old new text
taken_up old new text line true h one added = record {
  kept = λ l there. subst (λ ls. l ∈ ls) (sym added.1) (∈-append_left l old (line ∷ []) there);
  all = λ atoms set. AtLeastOne-from (IsSetLine atoms) new line (subst (λ ls. line ∈ ls) (sym added.1) (∈-append_right line old (line ∷ []) (inl refl)))
      (subst (λ xs. IsSetLine xs line) (one h.0 atoms h.1 set) h.2);
  only = λ l there. elim (∈-append_cases l old (line ∷ []) (subst (λ ls. l ∈ ls) added.1 there)) [
    | inl before ↦ inl before
    | inr last ↦ elim last [
      | inl same ↦ inr (h.0, h.1, subst (IsSetLine h.0) (sym same) h.2)
      | inr none ↦ absurd none
    ]
  ];
}
taken_up old new text line false h one added = record {
  kept = λ l there. subst (λ ls. l ∈ ls) (sym added.1) there;
  all = λ atoms set. AtLeastOne-from (IsSetLine atoms) new line (subst (λ ls. line ∈ ls) (sym added.1) added.0)
      (subst (λ xs. IsSetLine xs line) (one h.0 atoms h.1 set) h.2);
  only = λ l there. inl (subst (λ ls. l ∈ ls) added.1 there);
}
