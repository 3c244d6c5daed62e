-- The value of a term under a substitution (ASP-Core-2, "Terms" and "Arithmetic terms").
use Rattle.std.specs.Prelude.{ℕ, ℤ, pos, ◌+ℤ◌, ◌-ℤ◌, ◌*ℤ◌, int_div, List, [], ◌∷◌, Option, Some, None, zero, map}
use Rattle.alpha_outside.specs.declared.kinds.ArithOp.{ArithOp}
use Rattle.alpha_outside.specs.declared.kinds.ArithOp.TheVariants.{Add, Sub, Mul, Div}
use Rattle.asp_syntax.specs.declared.tree.Term.{Term}
use Rattle.asp_syntax.specs.declared.tree.Term.TheOpen.{Term-F}
use Rattle.asp_syntax.specs.declared.tree.Term.TheOpen as term
use Rattle.asp_syntax.specs.declared.tree.Term.TheFolds.{fold-Term}
use Rattle.asp_meaning.specs.declared.value.Value.{Value}
use Rattle.asp_meaning.specs.declared.value.Value.TheVariants as value

-- a variable by its name, or an anonymous one by its number
pub data Variable : Type 0 where
  named : List ℕ → Variable
  anonymous : ℕ → Variable

-- a value for each variable
abbrev pub Substitution : Type 0
Substitution = Variable → Value

-- the result of an operation on integers without bound, where it has one: division cuts towards zero, and not by 0
abbrev pub arithmetic : ArithOp → ℤ → ℤ → Option ℤ
arithmetic Add x y = Some (x +ℤ y)
arithmetic Sub x y = Some (x -ℤ y)
arithmetic Mul x y = Some (x *ℤ y)
arithmetic Div x (pos zero) = None
arithmetic Div x y = Some (int_div x y)

abbrev pub integer : Option ℤ → Option Value
integer None = None
integer (Some z) = Some (value.Int z)

-- an operation on values: it has a result on integers alone
abbrev pub operation : ArithOp → Option Value → Option Value → Option Value
operation op (Some (value.Int x)) (Some (value.Int y)) = integer (arithmetic op x y)
operation op _ _ = None

abbrev pub before : {A : Type 0} → A → Option (List A) → Option (List A)
before x None = None
before x (Some xs) = Some (x ∷ xs)

-- what each of the list is, where none is missing
abbrev pub all_of : {A : Type 0} → List (Option A) → Option (List A)
all_of [] = Some []
all_of (None ∷ xs) = None
all_of (Some x ∷ xs) = before x (all_of xs)

-- the functional term of these arguments; without arguments it is the symbol
abbrev pub functional : List ℕ → List Value → Value
functional f [] = value.Symbol f
functional f (x ∷ xs) = value.Fun f x xs

abbrev pub functional_of : List ℕ → Option (List Value) → Option Value
functional_of f None = None
functional_of f (Some args) = Some (functional f args)

-- the value of a term, from the values of its parts
abbrev pub eval_step : Substitution → Term-F (Option Value) → Option Value
eval_step s (term.Int n) = Some (value.Int n)
eval_step s (term.Variable x) = Some (s (named x))
eval_step s (term.Anonymous k) = Some (s (anonymous k))
eval_step s (term.Symbol x) = Some (value.Symbol x)
eval_step s (term.Text x) = Some (value.Text x)
eval_step s (term.Fun f args) = functional_of f (all_of args)
eval_step s (term.Minus t) = operation Sub (Some (value.Int (pos 0))) t
eval_step s (term.Arith op l r) = operation op l r

-- the value of a term under a substitution, or none where its arithmetic is undefined
abbrev pub eval : Substitution → Term → Option Value
eval s = fold-Term (Option Value) (eval_step s)

-- the values of terms, where each has one
abbrev pub eval_all : Substitution → List Term → Option (List Value)
eval_all s ts = all_of (map (eval s) ts)
