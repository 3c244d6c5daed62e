-- Texts with separators between them, one text at a time.
use Rattle.std.proofs.Common.{◌≡◌, ℕ, ◌+◌, ◌-◌, ◌<◌, List, [], ◌∷◌, ◌++◌, length, get_or, map, take, drop, refl, sym, ap, ◌∙◌, append_assoc, arith, false, ◌==◌, true≢false, append-nil}
use Rattle.std.proofs.lemmas.List.{map-append, take_more, take_all}
use Rattle.asp_meaning.specs.Lines.{each_after, joined, call_text}

each_after-push : (between : List ℕ) (xs : List (List ℕ)) (x : List ℕ) → each_after between (xs ++ x ∷ []) ≡ each_after between xs ++ (between ++ x)
each_after-push between [] x = ap (λ l. between ++ l) (append-nil x)
each_after-push between (y ∷ ys) x =
    ap (λ l. between ++ (y ++ l)) (each_after-push between ys x)
    ∙ ap (λ l. between ++ l) (sym (append_assoc y (each_after between ys) (between ++ x)))
    ∙ sym (append_assoc between (y ++ each_after between ys) (between ++ x))

-- a step of a loop that writes a separator and then an item
pub one_more : (f : ℕ → List ℕ) (between : List ℕ) (items : List ℕ) (k a : ℕ) (start before mid after : List ℕ) → k < length items → a ≡ get_or items k a
    → before ≡ start ++ each_after between (map f (take k items)) → mid ≡ before ++ between → after ≡ mid ++ f a
    → after ≡ start ++ each_after between (map f (take (k + 1) items))
one_more f between items k a start before mid after lt at e s t =
    t ∙ ap (λ l. l ++ f a) (s ∙ ap (λ l. l ++ between) e)
    ∙ append_assoc (start ++ each_after between (map f (take k items))) between (f a)
    ∙ append_assoc start (each_after between (map f (take k items))) (between ++ f a)
    ∙ ap (λ l. start ++ l) (sym more)
  where
    more : each_after between (map f (take (k + 1) items)) ≡ each_after between (map f (take k items)) ++ (between ++ f a)
    more = ap (λ l. each_after between (map f l)) (take_more items k a lt ∙ ap (λ y. take k items ++ y ∷ []) (sym at))
        ∙ ap (each_after between) (map-append f (take k items) (a ∷ []))
        ∙ each_after-push between (map f (take k items)) (f a)

-- what the test of an empty list says
pub not_empty : (xs : List ℕ) → false ≡ (length xs == 0) → 0 < length xs
not_empty [] e = absurd (true≢false (sym e))
not_empty (x ∷ xs) e = omega arith

-- the first item, and then each later one after a separator
pub first_and_more : (f : ℕ → List ℕ) (between : List ℕ) (items : List ℕ) (a : ℕ) (start mid after : List ℕ) → 0 < length items → a ≡ get_or items 0 a
    → mid ≡ start ++ f a → after ≡ mid ++ each_after between (map f (take (length items - 1) (drop 1 items))) → after ≡ start ++ joined between (map f items)
first_and_more f between [] a start mid after lt at s t = absurd (omega (arith, lt))
first_and_more f between (x ∷ xs) a start mid after lt at s t =
    t ∙ ap (λ l. mid ++ each_after between (map f l)) (take_all (length (x ∷ xs) - 1) xs (omega arith))
    ∙ ap (λ l. l ++ each_after between (map f xs)) (s ∙ ap (λ y. start ++ f y) at) ∙ append_assoc start (f x) (each_after between (map f xs))

-- the name stands before what is in parentheses
pub name_and_arguments : (f : List ℕ) (ts : List (List ℕ)) → f ++ call_text [] ts ≡ call_text f ts
name_and_arguments f [] = append-nil f
name_and_arguments f (x ∷ xs) = refl
