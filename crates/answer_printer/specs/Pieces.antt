-- What is left to write of a term: a stack of pieces, the next one last.
use Rattle.std.specs.Prelude.{◌≡◌, ℕ, ◌+◌, ◌*◌, ◌<◌, List, [], ◌∷◌, ◌++◌, length, codes}
use Rattle.alpha_outside.specs.declared.node.Node.{Node}
use Rattle.alpha_outside.specs.declared.node.Node.TheVariants as node
use Rattle.asp_meaning.specs.Lines.{integer_text, value_text}
use Rattle.term_pool.specs.Nodes.{value_at, value_size}
use Rattle.answer_printer.specs.declared.terms.Piece.{Piece}
use Rattle.answer_printer.specs.declared.terms.Piece.TheVariants.{Term, Next, Close}

-- the text of the term at a place
abbrev pub term_text : List Node → ℕ → List ℕ
term_text ns id = value_text (value_at ns id)

-- the text of a piece: a comma stands before each argument but the first
abbrev pub piece_text : List Node → Piece → List ℕ
piece_text ns (Term id) = term_text ns id
piece_text ns (Next id) = codes "," ++ term_text ns id
piece_text ns Close = codes ")"

-- the text of a stack of pieces, whose last is written first
abbrev pub rest_text : List Node → List Piece → List ℕ
rest_text ns [] = []
rest_text ns (p ∷ ps) = rest_text ns ps ++ piece_text ns p

-- how much work a piece is at most
abbrev pub piece_weight : List Node → Piece → ℕ
piece_weight ns (Term id) = 2 * value_size (value_at ns id)
piece_weight ns (Next id) = 2 * value_size (value_at ns id)
piece_weight ns Close = 1

-- how much work the pieces are at most
abbrev pub weight : List Node → List Piece → ℕ
weight ns [] = 0
weight ns (p ∷ ps) = piece_weight ns p + weight ns ps

-- the term of the piece is one of so many
abbrev pub IsWithin : ℕ → Piece → Type 0
IsWithin n (Term id) = id < n
IsWithin n (Next id) = id < n
IsWithin n Close = Unit {0}

-- so are those of all pieces
abbrev pub AreWithin : ℕ → List Piece → Type 0
AreWithin n [] = Unit {0}
AreWithin n (p ∷ ps) = IsWithin n p × AreWithin n ps

-- the pieces of the later parts
abbrev pub nexts : List ℕ → List Piece
nexts [] = []
nexts (x ∷ xs) = nexts xs ++ Next x ∷ []

-- the pieces of all parts and the end
abbrev pub pieces : List ℕ → List Piece
pieces [] = []
pieces (x ∷ xs) = Close ∷ (nexts xs ++ Term x ∷ [])

-- some of the piece was written, and what is left of it lies on the stack
pub record IsPrinted (ns : List Node) (p : Piece) (text : List ℕ) (stack : List Piece) (text_after : List ℕ) (stack_after : List Piece) : Type 0 where
  pub text_is : text_after ++ rest_text ns stack_after ≡ text ++ (piece_text ns p ++ rest_text ns stack)
  pub within : AreWithin (length ns) stack_after
  pub less : weight ns stack_after < piece_weight ns p + weight ns stack

-- the name is written, and the parts lie on the stack
abbrev pub IsCallWritten : List ℕ → List ℕ → List ℕ → List Piece → List ℕ → List Piece → Type 0
IsCallWritten f [] t s t' s' = (t' ≡ t ++ f) × (s' ≡ s)
IsCallWritten f (x ∷ xs) t s t' s' = (t' ≡ t ++ (f ++ codes "(")) × (s' ≡ s ++ pieces (x ∷ xs))

-- the outermost symbol is written, and the parts lie on the stack
abbrev pub IsNodeWritten : Node → List ℕ → List Piece → List ℕ → List Piece → Type 0
IsNodeWritten (node.Int n) t s t' s' = (t' ≡ t ++ integer_text n) × (s' ≡ s)
IsNodeWritten (node.Symbol x) t s t' s' = (t' ≡ t ++ x) × (s' ≡ s)
IsNodeWritten (node.Text x) t s t' s' = (t' ≡ t ++ (codes "\"" ++ (x ++ codes "\""))) × (s' ≡ s)
IsNodeWritten (node.Fun f args) t s t' s' = IsCallWritten f args t s t' s'
