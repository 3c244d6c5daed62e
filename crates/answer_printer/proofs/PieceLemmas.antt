-- The text of pieces that are put onto a stack.
use Rattle.std.proofs.Common.{◌≡◌, ℕ, ◌+◌, ◌*◌, ◌<◌, List, [], ◌∷◌, ◌++◌, map, refl, sym, ap, ◌∙◌, append_assoc, arith, append-nil}
use Rattle.std.specs.Prelude.{codes, All}
use Rattle.std.proofs.lemmas.List.Elements.{All-head, All-tail}
use Rattle.alpha_outside.specs.declared.node.Node.{Node}
use Rattle.asp_meaning.specs.Lines.{joined, each_after}
use Rattle.term_pool.specs.Nodes.{value_at, value_size}
use Rattle.answer_printer.specs.declared.terms.Piece.{Piece}
use Rattle.answer_printer.specs.declared.terms.Piece.TheVariants.{Term, Next}
use Rattle.answer_printer.specs.Pieces.{term_text, piece_text, rest_text, piece_weight, weight, IsWithin, AreWithin, nexts, pieces}

pub rest-append : (ns : List Node) (ss ts : List Piece) → rest_text ns (ss ++ ts) ≡ rest_text ns ts ++ rest_text ns ss
rest-append ns [] ts = sym (append-nil (rest_text ns ts))
rest-append ns (s ∷ ss) ts = ap (λ l. l ++ piece_text ns s) (rest-append ns ss ts) ∙ append_assoc (rest_text ns ts) (rest_text ns ss) (piece_text ns s)

rest-nexts : (ns : List Node) (xs : List ℕ) → rest_text ns (nexts xs) ≡ each_after (codes ",") (map (term_text ns) xs)
rest-nexts ns [] = refl
rest-nexts ns (x ∷ xs) =
    rest-append ns (nexts xs) (Next x ∷ []) ∙ append_assoc (codes ",") (term_text ns x) (rest_text ns (nexts xs))
    ∙ ap (λ l. codes "," ++ (term_text ns x ++ l)) (rest-nexts ns xs)

-- the parts with commas between, and then the end
pub rest-pieces : (ns : List Node) (ss : List Piece) (x : ℕ) (xs : List ℕ) → rest_text ns (ss ++ pieces (x ∷ xs))
    ≡ joined (codes ",") (map (term_text ns) (x ∷ xs)) ++ (codes ")" ++ rest_text ns ss)
rest-pieces ns ss x xs =
    rest-append ns ss (pieces (x ∷ xs))
    ∙ append_assoc (rest_text ns (nexts xs ++ Term x ∷ [])) (codes ")") (rest_text ns ss)
    ∙ ap (λ l. l ++ (codes ")" ++ rest_text ns ss)) (rest-append ns (nexts xs) (Term x ∷ []) ∙ ap (λ l. term_text ns x ++ l) (rest-nexts ns xs))

weight-append : (ns : List Node) (ss ts : List Piece) → weight ns (ss ++ ts) ≡ weight ns ss + weight ns ts
weight-append ns [] ts = omega arith
weight-append ns (s ∷ ss) ts = omega (arith, weight-append ns ss ts)

abbrev pub size_at : List Node → ℕ → ℕ
size_at ns a = value_size (value_at ns a)

abbrev pub sizes : List Node → List ℕ → ℕ
sizes ns [] = 0
sizes ns (x ∷ xs) = size_at ns x + sizes ns xs

weight-nexts : (ns : List Node) (xs : List ℕ) → weight ns (nexts xs) ≡ 2 * sizes ns xs
weight-nexts ns [] = omega arith
weight-nexts ns (x ∷ xs) = omega (arith, weight-append ns (nexts xs) (Next x ∷ []), weight-nexts ns xs)

pub weight-pieces : (ns : List Node) (ss : List Piece) (x : ℕ) (xs : List ℕ) → weight ns (ss ++ pieces (x ∷ xs)) ≡ weight ns ss + (1 + 2 * sizes ns (x ∷ xs))
weight-pieces ns ss x xs = omega (arith, weight-append ns ss (pieces (x ∷ xs)), weight-append ns (nexts xs) (Term x ∷ []), weight-nexts ns xs)

within-append : (n : ℕ) (ss ts : List Piece) → AreWithin n ss → AreWithin n ts → AreWithin n (ss ++ ts)
within-append n [] ts h k = k
within-append n (s ∷ ss) ts h k = (h.0, within-append n ss ts h.1 k)

within-nexts : (n : ℕ) (xs : List ℕ) → All (λ a. a < n) xs → AreWithin n (nexts xs)
within-nexts n [] h = tt
within-nexts n (x ∷ xs) h = within-append n (nexts xs) (Next x ∷ []) (within-nexts n xs (All-tail (λ a. a < n) x xs h)) (All-head (λ a. a < n) x xs h, tt)

pub within-pieces : (n : ℕ) (ss : List Piece) (x : ℕ) (xs : List ℕ) → AreWithin n ss → All (λ a. a < n) (x ∷ xs) → AreWithin n (ss ++ pieces (x ∷ xs))
within-pieces n ss x xs h k =
    within-append n ss (pieces (x ∷ xs)) h (tt, within-append n (nexts xs) (Term x ∷ []) (within-nexts n xs (All-tail (λ a. a < n) x xs k)) (All-head (λ a. a < n) x xs k, tt))

-- taking the last piece off
pub rest-pop : (ns : List Node) (ss : List Piece) (p : Piece) → rest_text ns (ss ++ p ∷ []) ≡ piece_text ns p ++ rest_text ns ss
rest-pop ns ss p = rest-append ns ss (p ∷ [])

pub weight-pop : (ns : List Node) (ss : List Piece) (p : Piece) → weight ns (ss ++ p ∷ []) ≡ weight ns ss + piece_weight ns p
weight-pop ns ss p = omega (arith, weight-append ns ss (p ∷ []))

pub within-pop : (n : ℕ) (ss : List Piece) (p : Piece) → AreWithin n (ss ++ p ∷ []) → AreWithin n ss × IsWithin n p
within-pop n [] p h = (tt, h.0)
within-pop n (s ∷ ss) p h = let r = within-pop n ss p h.1 in ((h.0, r.0), r.1)
