-- What is above the names and numbers of variables, part by part.
use Rattle.std.proofs.Common.{◌≡◌, ◌<◌, ◌-◌, sym, ap, ◌∙◌, ℕ, zero, suc, max, List, [], ◌∷◌, ◌++◌, map, arith}
use Rattle.lists.specs.Lists.{concat}
use Rattle.alpha_outside.specs.declared.kinds.ArithOp.{ArithOp}
use Rattle.asp_syntax.specs.declared.tree.Term.{Term}
use Rattle.asp_syntax.specs.declared.tree.Term.TheVariants as tree
use Rattle.asp_syntax.specs.declared.tree.Term.TheOpen as layer
use Rattle.asp_syntax.specs.declared.tree.Term.TheFolds.{fold-roll-Term}
use Rattle.asp_meaning.specs.Terms.{Variable, named, anonymous}
use Rattle.asp_meaning.specs.Variables.{variables, variables_step}
use Rattle.single_rules.specs.Renaming.{mark, marked, marks_above, numbers_above}

-- the variables of an operation
variables_Arith : (op : ArithOp) (l r t : Term) → t ≡ tree.Arith op l r → variables t ≡ variables l ++ variables r
variables_Arith op l r t is =
    ap variables (is ∙ sym (tree.rolls-Arith op l r)) ∙ fold-roll-Term (List Variable) variables_step (layer.Arith op l r)

-- ---- marks

-- what is above two lists of variables is above both
marks_both : (vs ws : List Variable) → marks_above (vs ++ ws) ≡ max (marks_above vs) (marks_above ws)
marks_both [] ws = omega arith
marks_both (named x ∷ vs) ws = omega (arith, marks_both vs ws)
marks_both (anonymous k ∷ vs) ws = marks_both vs ws

-- one turn of a loop that goes over items with variables
pub marks_on : {A : Type 0} (f : A → List Variable) (old left : List A) (x : A) (above here more whole : ℕ) → old ≡ x ∷ left
    → here ≡ marks_above (f x) → more ≡ max above here
    → max above (marks_above (concat (map f old))) ≡ whole → max more (marks_above (concat (map f left))) ≡ whole
marks_on f old left x above here more whole at e m h =
    let split : marks_above (concat (map f old)) ≡ max (marks_above (f x)) (marks_above (concat (map f left))) =
    ap (λ xs. marks_above (concat (map f xs))) at ∙ marks_both (f x) (concat (map f left)) in
    omega arith

-- at the end of the loop
pub marks_done : {A : Type 0} (f : A → List Variable) (old : List A) (above whole : ℕ) → old ≡ []
    → max above (marks_above (concat (map f old))) ≡ whole → above ≡ whole
marks_done f old above whole e h =
    let none : marks_above (concat (map f old)) ≡ 0 = ap (λ xs. marks_above (concat (map f xs))) e in
    omega arith

-- so it is with the two sides of an operation
pub marks_Arith : (op : ArithOp) (l r t : Term) → t ≡ tree.Arith op l r
    → marks_above (variables t) ≡ max (marks_above (variables l)) (marks_above (variables r))
marks_Arith op l r t is = ap marks_above (variables_Arith op l r t is) ∙ marks_both (variables l) (variables r)

-- ---- numbers

-- the same of numbers
numbers_both : (vs ws : List Variable) → numbers_above (vs ++ ws) ≡ max (numbers_above vs) (numbers_above ws)
numbers_both [] ws = omega arith
numbers_both (named x ∷ vs) ws = numbers_both vs ws
numbers_both (anonymous k ∷ vs) ws = omega (arith, numbers_both vs ws)

-- one turn of a loop that goes over items with variables
pub numbers_on : {A : Type 0} (f : A → List Variable) (old left : List A) (x : A) (above here more whole : ℕ) → old ≡ x ∷ left
    → here ≡ numbers_above (f x) → more ≡ max above here
    → max above (numbers_above (concat (map f old))) ≡ whole → max more (numbers_above (concat (map f left))) ≡ whole
numbers_on f old left x above here more whole at e m h =
    let split : numbers_above (concat (map f old)) ≡ max (numbers_above (f x)) (numbers_above (concat (map f left))) =
    ap (λ xs. numbers_above (concat (map f xs))) at ∙ numbers_both (f x) (concat (map f left)) in
    omega arith

-- at the end of the loop
pub numbers_done : {A : Type 0} (f : A → List Variable) (old : List A) (above whole : ℕ) → old ≡ []
    → max above (numbers_above (concat (map f old))) ≡ whole → above ≡ whole
numbers_done f old above whole e h =
    let none : numbers_above (concat (map f old)) ≡ 0 = ap (λ xs. numbers_above (concat (map f xs))) e in
    omega arith

-- and of the two sides of an operation
pub numbers_Arith : (op : ArithOp) (l r t : Term) → t ≡ tree.Arith op l r
    → numbers_above (variables t) ≡ max (numbers_above (variables l)) (numbers_above (variables r))
numbers_Arith op l r t is = ap numbers_above (variables_Arith op l r t is) ∙ numbers_both (variables l) (variables r)

-- ---- names

-- one mark less is to be put before a name
pub marked_less : (n : ℕ) (name : List ℕ) → 0 < n → marked n name ≡ mark ∷ marked (n - 1) name
marked_less zero name more = absurd (omega (arith, more))
marked_less (suc n) name more = let e : suc n - 1 ≡ n = omega arith in ap (λ k. mark ∷ marked k name) (sym e)
