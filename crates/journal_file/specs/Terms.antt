-- The text of a term of a pattern, and what is left to write of one: a stack of arguments of open calls, the innermost call last.
use Rattle.std.specs.Prelude.{◌≡◌, ℕ, ◌+◌, ◌*◌, ◌<◌, Bool, true, false, List, [], ◌∷◌, ◌++◌, map, sum, codes}
use Rattle.std.specs.Fmt.{decimal}
use Rattle.alpha_outside.specs.declared.pattern.PatternTerm.{PatternTerm}
use Rattle.alpha_outside.specs.declared.pattern.PatternTerm.TheOpen.{PatternTerm-F}
use Rattle.alpha_outside.specs.declared.pattern.PatternTerm.TheOpen as layer
use Rattle.alpha_outside.specs.declared.pattern.PatternTerm.TheFolds.{fold-PatternTerm}
use Rattle.journal_file.specs.declared.terms.OpenCall.{OpenCall}

-- ---- the text

-- a comma stands before each argument but the first
abbrev pub comma : Bool → List ℕ
comma false = []
comma true = codes ","

-- arguments, of which the first stands behind another one or doesn't, and the parenthesis that ends them
abbrev pub arguments_text : Bool → List (List ℕ) → List ℕ
arguments_text begun [] = codes ")"
arguments_text begun (x ∷ xs) = comma begun ++ (x ++ arguments_text true xs)

-- a name and its arguments, in parentheses with commas between them
abbrev pub call_text : List ℕ → List (List ℕ) → List ℕ
call_text f args = f ++ (codes "(" ++ arguments_text false args)

-- a hole is `?` and its number, a known term is `#` and its id
abbrev pub term_text_step : PatternTerm-F (List ℕ) → List ℕ
term_text_step (layer.Hole number) = codes "?" ++ decimal number
term_text_step (layer.Known id) = codes "#" ++ decimal id
term_text_step (layer.Fun f args) = call_text f args

-- the text of a term of a pattern
abbrev pub term_text : PatternTerm → List ℕ
term_text = fold-PatternTerm (List ℕ) term_text_step

-- ---- what is left of it

-- what is left of an open call
abbrev pub open_text : OpenCall → List ℕ
open_text c = arguments_text c.begun (map term_text c.args.now)

-- what is left of open calls, of which the last is the innermost
abbrev pub rest_text : List OpenCall → List ℕ
rest_text [] = []
rest_text (c ∷ cs) = rest_text cs ++ open_text c

abbrev pub term_size_step : PatternTerm-F ℕ → ℕ
term_size_step (layer.Hole number) = 1
term_size_step (layer.Known id) = 1
term_size_step (layer.Fun f args) = 1 + sum args

-- how many symbols a term has
abbrev pub term_size : PatternTerm → ℕ
term_size = fold-PatternTerm ℕ term_size_step

-- how much work terms are at most, with the parenthesis that ends them
abbrev pub terms_weight : List PatternTerm → ℕ
terms_weight ts = 1 + 2 * sum (map term_size ts)

-- how much work open calls are at most
abbrev pub weight : List OpenCall → ℕ
weight [] = 0
weight (c ∷ cs) = terms_weight c.args.now + weight cs

-- the outermost symbol of a term was written, and what is left of it lies on the stack
pub record IsTermWritten (t : PatternTerm) (text : List ℕ) (stack : List OpenCall) (text_after : List ℕ) (stack_after : List OpenCall) : Type 0 where
  pub text_is : text_after ++ rest_text stack_after ≡ text ++ (term_text t ++ rest_text stack)
  pub less : weight stack_after < 2 * term_size t + weight stack

-- some of the open call was written, and what is left of it lies on the stack
pub record IsCallWritten (c : OpenCall) (text : List ℕ) (stack : List OpenCall) (text_after : List ℕ) (stack_after : List OpenCall) : Type 0 where
  pub text_is : text_after ++ rest_text stack_after ≡ text ++ (open_text c ++ rest_text stack)
  pub less : weight stack_after < terms_weight c.args.now + weight stack
