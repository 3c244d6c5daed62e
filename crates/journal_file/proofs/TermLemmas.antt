-- The text and the size of a term of a pattern, by its outermost symbol, and stacks of open calls.
use Rattle.std.proofs.Common.{◌≡◌, ℕ, ◌+◌, List, [], ◌∷◌, ◌++◌, map, refl, sym, ap, ◌∙◌, append_assoc, arith}
use Rattle.std.specs.Prelude.{codes, sum}
use Rattle.std.specs.Fmt.{decimal}
use Rattle.alpha_outside.specs.declared.pattern.PatternTerm.{PatternTerm}
use Rattle.alpha_outside.specs.declared.pattern.PatternTerm.TheOpen as layer
use Rattle.alpha_outside.specs.declared.pattern.PatternTerm.TheVariants as pattern
use Rattle.alpha_outside.specs.declared.pattern.PatternTerm.TheFolds.{fold-roll-PatternTerm}
use Rattle.journal_file.specs.declared.terms.OpenCall.{OpenCall}
use Rattle.journal_file.specs.Terms.{call_text, term_text, term_text_step, term_size, term_size_step, terms_weight, open_text, rest_text, weight}

-- ---- terms

pub text-Hole : (n : ℕ) → term_text (pattern.Hole n) ≡ codes "?" ++ decimal n
text-Hole n = ap term_text (sym (pattern.rolls-Hole n)) ∙ fold-roll-PatternTerm (List ℕ) term_text_step (layer.Hole n)

pub text-Known : (id : ℕ) → term_text (pattern.Known id) ≡ codes "#" ++ decimal id
text-Known id = ap term_text (sym (pattern.rolls-Known id)) ∙ fold-roll-PatternTerm (List ℕ) term_text_step (layer.Known id)

pub text-Fun : (f : List ℕ) (args : List PatternTerm) → term_text (pattern.Fun f args) ≡ call_text f (map term_text args)
text-Fun f args = ap term_text (sym (pattern.rolls-Fun f args)) ∙ fold-roll-PatternTerm (List ℕ) term_text_step (layer.Fun f args)

pub size-Hole : (n : ℕ) → term_size (pattern.Hole n) ≡ 1
size-Hole n = ap term_size (sym (pattern.rolls-Hole n)) ∙ fold-roll-PatternTerm ℕ term_size_step (layer.Hole n)

pub size-Known : (id : ℕ) → term_size (pattern.Known id) ≡ 1
size-Known id = ap term_size (sym (pattern.rolls-Known id)) ∙ fold-roll-PatternTerm ℕ term_size_step (layer.Known id)

pub size-Fun : (f : List ℕ) (args : List PatternTerm) → term_size (pattern.Fun f args) ≡ 1 + sum (map term_size args)
size-Fun f args = ap term_size (sym (pattern.rolls-Fun f args)) ∙ fold-roll-PatternTerm ℕ term_size_step (layer.Fun f args)

-- ---- stacks of open calls

-- nothing behind a text
pub append-nil : (l : List ℕ) → l ++ [] ≡ l
append-nil [] = refl
append-nil (x ∷ xs) = ap (λ r. x ∷ r) (append-nil xs)

-- what lies on top is written first
rest-append : (cs ds : List OpenCall) → rest_text (cs ++ ds) ≡ rest_text ds ++ rest_text cs
rest-append [] ds = sym (append-nil (rest_text ds))
rest-append (c ∷ cs) ds = ap (λ l. l ++ open_text c) (rest-append cs ds) ∙ append_assoc (rest_text ds) (rest_text cs) (open_text c)

-- the work of two stacks is the sum of theirs
weight-append : (cs ds : List OpenCall) → weight (cs ++ ds) ≡ weight cs + weight ds
weight-append [] ds = omega arith
weight-append (c ∷ cs) ds = omega (arith, weight-append cs ds)

-- with one more call on top
pub rest-push : (cs : List OpenCall) (c : OpenCall) → rest_text (cs ++ c ∷ []) ≡ open_text c ++ rest_text cs
rest-push cs c = rest-append cs (c ∷ [])

-- and its work
pub weight-push : (cs : List OpenCall) (c : OpenCall) → weight (cs ++ c ∷ []) ≡ weight cs + terms_weight c.args.now
weight-push cs c = omega (arith, weight-append cs (c ∷ []))
