-- The parts of bytes.
use Rattle.std.proofs.Common.{◌≡◌, refl, sym, ap, ◌∙◌, ℕ, ◌+◌, ◌-◌, ◌<◌, ◌≤◌, ◌==◌, not, cond, Bool, true, false, List, [], ◌∷◌, ◌++◌, length, take, drop, position, Some, None, nat_lt, length-drop, arith}
use Rattle.std.specs.List.{onto_first, position_or_len}
use Rattle.std.proofs.lemmas.List.{take_all}
use Rattle.std.proofs.lemmas.List.Quantifiers.{position-Some}
use Rattle.std.proofs.lemmas.List.Splits.{slice_split_first}
use Rattle.std.proofs.lemmas.List.Sums.{position_or_len_is}
use Rattle.after_book.specs.Parts.{parts, all_but_last, ended_lines}

-- the test for a line feed
abbrev is_feed : ℕ → Bool
is_feed b = b == 10

-- there is a first part
pub some_part : (bytes : List ℕ) → (first : List ℕ) × (more : List (List ℕ)) × (parts bytes ≡ first ∷ more)
some_part [] = ([], [], refl)
some_part (b ∷ bytes) = by (b == 10) (some_part bytes)
  where
    by : (t : Bool) → ((first : List ℕ) × (more : List (List ℕ)) × (parts bytes ≡ first ∷ more))
        → (first : List ℕ) × (more : List (List ℕ)) × (cond t ([] ∷ parts bytes) (onto_first b (parts bytes)) ≡ first ∷ more)
    by true h = ([], parts bytes, refl)
    by false h = (b ∷ h.0, h.1, ap (onto_first b) h.2)

-- a line before parts is ended where there is one of these
ended_before : (line : List ℕ) (all : List (List ℕ)) (first : List ℕ) (more : List (List ℕ)) → all ≡ first ∷ more
    → all_but_last (line ∷ all) ≡ line ∷ all_but_last all
ended_before line all first more e = ap (λ xs. all_but_last (line ∷ xs)) e ∙ ap (λ xs. line ∷ all_but_last xs) (sym e)

-- a part stands behind other parts
some_later : (xs : List (List ℕ)) (bytes : List ℕ) → (first : List ℕ) × (more : List (List ℕ)) × (xs ++ parts bytes ≡ first ∷ more)
some_later [] bytes = some_part bytes
some_later (x ∷ xs) bytes = (x, xs ++ parts bytes, refl)

-- lines before the parts of what is left
pub ended_behind : (done : List (List ℕ)) (rest : List ℕ) → all_but_last (done ++ parts rest) ≡ done ++ ended_lines rest
ended_behind [] rest = refl
ended_behind (line ∷ done) rest =
    let some = some_later done rest in
    ended_before line (done ++ parts rest) some.0 some.1 some.2 ∙ ap (λ xs. line ∷ xs) (ended_behind done rest)

-- a line before what is left is ended
pub ended_line : (rest line behind : List ℕ) → parts rest ≡ line ∷ parts behind → ended_lines rest ≡ line ∷ ended_lines behind
ended_line rest line behind e = let some = some_part behind in ap all_but_last e ∙ ended_before line (parts behind) some.0 some.1 some.2

-- where no byte is a line feed there is one part
one_part : (bytes : List ℕ) → length bytes ≤ position_or_len is_feed bytes → parts bytes ≡ bytes ∷ []
one_part [] h = refl
one_part (b ∷ bytes) h = by (b == 10) h (one_part bytes)
  where
    by : (t : Bool) → length (b ∷ bytes) ≤ cond (not t) (1 + position_or_len is_feed bytes) 0
        → (length bytes ≤ position_or_len is_feed bytes → parts bytes ≡ bytes ∷ [])
        → cond t ([] ∷ parts bytes) (onto_first b (parts bytes)) ≡ (b ∷ bytes) ∷ []
    by true h rest = absurd (omega arith)
    by false h rest = ap (onto_first b) (rest (omega arith))

-- so there is where no line feed is found
pub no_feed : (bytes : List ℕ) → position is_feed bytes ≡ None → parts bytes ≡ bytes ∷ []
no_feed bytes e = one_part bytes (by (nat_lt (position_or_len is_feed bytes) (length bytes)) refl e)
  where
    by : (t : Bool) → nat_lt (position_or_len is_feed bytes) (length bytes) ≡ t
        → cond t (Some (position_or_len is_feed bytes)) None ≡ None → length bytes ≤ position_or_len is_feed bytes
    by true lt e = absurd (grind (arith, e))
    by false lt e = grind (arith, lt)

-- and else the first line ends at the first line feed
pub at_feed : (bytes : List ℕ) (end : ℕ) → position is_feed bytes ≡ Some end
    → parts bytes ≡ take end bytes ∷ parts (take (length bytes - (end + 1)) (drop (end + 1) bytes))
at_feed bytes end e =
    let found = position-Some is_feed bytes end 0 e in
    let there : position_or_len is_feed bytes ≡ end = position_or_len_is is_feed bytes end 0 (omega (arith, found.0)) found.2 (λ _. found.1) in
    let within : position_or_len is_feed bytes < length bytes = omega (arith, there, found.0) in
    let behind : take (length bytes - (end + 1)) (drop (end + 1) bytes) ≡ drop (end + 1) bytes =
    take_all (length bytes - (end + 1)) (drop (end + 1) bytes) (omega (arith, length-drop (end + 1) bytes)) in
    slice_split_first is_feed bytes 0 within ∙ (λ i. take (there i) bytes ∷ parts (drop (there i + 1) bytes))
    ∙ ap (λ xs. take end bytes ∷ parts xs) (sym behind)
