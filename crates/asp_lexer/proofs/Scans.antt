-- The loops that look for the end of a string and of a block comment, and that read a number.
use Rattle.std.proofs.Common.{◌≡◌, refl, sym, ap, subst, ◌∙◌, ℕ, suc, ◌+◌, ◌-◌, ◌*◌, ◌<◌, ◌≤◌, true, false, Option, Some, None, List, [], ◌∷◌, length, drop, get_or, arith}
use Rattle.std.specs.Prelude.{nat_le}
use Rattle.std.specs.Option.{option_map}
use Rattle.std.proofs.lemmas.Bool.{cond-true, cond-false, cond_both, le-leb, lt-leb, leb-true, leb-false}
use Rattle.std.proofs.lemmas.List.{drop_more}
use Rattle.asp_syntax.specs.WellFormed.{largest}
use Rattle.asp_lexer.specs.Tokens.{value_from, decimal}
use Rattle.asp_lexer.specs.Lexemes.{is_block_end, block_length, fitting}

-- ---- what the loops keep

-- a length that was found after some bytes, with theirs
abbrev pub after : ℕ → Option ℕ → Option ℕ
after i None = None
after i (Some k) = Some (i + k)

pub after-suc : (i : ℕ) (o : Option ℕ) → after i (option_map suc o) ≡ after (i + 1) o
after-suc i None = refl
after-suc i (Some k) = ap Some (omega arith)

-- one turn of the loop that looks for the end of a block comment: on, or found
pub block_more : (bs : List ℕ) (i p : ℕ) → i < length bs → is_block_end p (get_or bs i 0) ≡ false → after i (block_length p (drop i bs)) ≡ after (i + 1) (block_length (get_or bs i 0) (drop (i + 1) bs))
block_more bs i p lt ends =
    ap (λ xs. after i (block_length p xs)) (drop_more bs i 0 lt) ∙ ap (after i) (cond-false _ _ _ ends) ∙ after-suc i _

pub block_here : (bs : List ℕ) (i p : ℕ) → i < length bs → is_block_end p (get_or bs i 0) ≡ true → after i (block_length p (drop i bs)) ≡ Some (i + 1)
block_here bs i p lt ends =
    ap (λ xs. after i (block_length p xs)) (drop_more bs i 0 lt) ∙ ap (after i) (cond-true _ _ _ ends)

-- ---- numbers

-- the value with one more digit
pub value-more : (xs : List ℕ) (i n : ℕ) → i < length xs → value_from n (drop i xs) ≡ value_from (n * 10 + (get_or xs i 0 - 48)) (drop (i + 1) xs)
value-more xs i n lt = ap (value_from n) (drop_more xs i 0 lt)

-- more digits make no number smaller
pub value-grows : (n : ℕ) (ds : List ℕ) → n ≤ value_from n ds
value-grows n [] = omega arith
value-grows n (d ∷ ds) = omega (arith, value-grows (n * 10 + (d - 48)) ds)

-- a number that is not too large, and one that is
pub fitting_yes : (n : ℕ) → n ≤ largest → fitting n ≡ Some n
fitting_yes n h = cond-true _ _ _ (le-leb n largest h)

pub fitting_no : (n : ℕ) → largest < n → fitting n ≡ None
fitting_no n h = cond-false _ _ _ (lt-leb n largest h)

-- what it says of a number that it is not too large, or is
abbrev pub IsFitting : ℕ → Option ℕ → Type 0
IsFitting n None = largest < n
IsFitting n (Some m) = (m ≡ n) × (n ≤ largest)

pub fitting_is : (n : ℕ) → IsFitting n (fitting n)
fitting_is n = cond_both (nat_le n largest) (Some n) None (IsFitting n) (λ e. (refl, leb-true n largest e)) (λ e. leb-false n largest e)

-- a number that is too large after some digits is too large after all
pub large_stays : (xs : List ℕ) (i n : ℕ) → i < length xs → value_from n (drop i xs) ≡ decimal xs → None ≡ fitting (n * 10 + (get_or xs i 0 - 48)) → None ≡ fitting (decimal xs)
large_stays xs i n lt all none =
    let v = n * 10 + (get_or xs i 0 - 48) in
    let large : largest < v = subst (IsFitting v) (sym none) (fitting_is v) in
    let grows : v ≤ value_from v (drop (i + 1) xs) = value-grows v (drop (i + 1) xs) in
    let same : value_from v (drop (i + 1) xs) ≡ decimal xs = sym (value-more xs i n lt) ∙ all in
    let past : largest < decimal xs = subst (λ m. largest < m) same (omega (arith, large, grows)) in
    sym (fitting_no (decimal xs) past)
