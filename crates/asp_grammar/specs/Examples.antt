-- Tokens of small programs, and the trees that they stand for.
use Rattle.std.specs.Prelude.{ℕ, zero, suc, true, false, List, [], ◌∷◌, ◌++◌, Option, Some, codes}
use Rattle.asp_syntax.specs.declared.token.Token.{Token}
use Rattle.asp_syntax.specs.declared.token.Token.TheVariants as token
use Rattle.asp_syntax.specs.declared.token.Spanned.{Spanned}
use Rattle.asp_syntax.specs.declared.tree.Atom.{Atom}
use Rattle.asp_syntax.specs.declared.tree.CompareOp.{CompareOp}
use Rattle.asp_syntax.specs.declared.tree.Guard.{Guard}
use Rattle.asp_syntax.specs.declared.tree.Term.{Term}
use Rattle.asp_syntax.specs.declared.tree.Literal.{Literal}
use Rattle.asp_syntax.specs.declared.tree.Literal.TheVariants as literal
use Rattle.asp_syntax.specs.declared.tree.Item.{Item}
use Rattle.asp_syntax.specs.declared.tree.Item.TheVariants as item
use Rattle.asp_syntax.specs.declared.tree.ChoiceElement.{ChoiceElement}
use Rattle.asp_syntax.specs.declared.tree.Element.{Element}
use Rattle.asp_syntax.specs.declared.tree.Head.{Head}
use Rattle.asp_syntax.specs.declared.tree.Head.TheVariants as head
use Rattle.asp_syntax.specs.declared.tree.Program.{Program}
use Rattle.asp_grammar.specs.Programs.{program_of}

-- ---- names: four of atoms and symbols, one of a predicate with arguments, and one of a variable

abbrev pub a : List ℕ
a = codes "a"

abbrev pub b : List ℕ
b = codes "b"

abbrev pub c : List ℕ
c = codes "c"

abbrev pub f : List ℕ
f = codes "f"

abbrev pub p : List ℕ
p = codes "p"

abbrev pub x : List ℕ
x = codes "X"

-- ---- tokens

-- a token on a line; where it stands there doesn't matter to the grammar
abbrev pub on : ℕ → Token → Spanned
on line t = record { token = t; at = record { 0 = 0 }; line = line }

-- tokens on the first line
abbrev pub on_line : List Token → List Spanned
on_line [] = []
on_line (t ∷ ts) = on 1 t ∷ on_line ts

-- the tokens so many times
abbrev pub times : ℕ → List Token → List Token
times zero ts = []
times (suc count) ts = ts ++ times count ts

-- the tokens as the arguments of a fact: `p(` before them, and `).` after
abbrev pub in_p : List Token → List Spanned
in_p ts = on_line (token.Id p ∷ token.Open ∷ (ts ++ (token.Close ∷ token.Dot ∷ [])))

-- the tokens as the body of a constraint: `:-` before them, and `.` after
abbrev pub in_body : List Token → List Spanned
in_body ts = on_line (token.If ∷ (ts ++ (token.Dot ∷ [])))

-- ---- trees

-- a name with arguments
abbrev pub atom : List ℕ → List Term → Atom
atom name terms = record { negated = false; name = name; args = terms }

-- the same under strong negation
abbrev pub negated_atom : List ℕ → List Term → Atom
negated_atom name terms = record { negated = true; name = name; args = terms }

-- a bound
abbrev pub guard : CompareOp → Term → Option Guard
guard op term = Some (record { op = op; term = term })

-- a statement of this head and body on the first line, alone
abbrev pub rule : Head → List Item → Program
rule head items = program_of (record { line = 1; head = head; body = items } ∷ [])

-- a fact of `p` with these arguments
abbrev pub p_of : List Term → Program
p_of terms = rule (head.Single (atom p terms)) []

-- a constraint of this body
abbrev pub constraint : List Item → Program
constraint items = rule head.Absent items

-- the atom without arguments, as an item
abbrev pub holds : List ℕ → Item
holds name = item.Plain (literal.Positive (atom name []))

-- the atom without arguments, as an element of a choice under a condition
abbrev pub choosing : List ℕ → List Literal → ChoiceElement
choosing name condition = record { atom = atom name []; condition = condition }

-- an element of an aggregate
abbrev pub element : List Term → List Literal → Element
element terms condition = record { terms = terms; condition = condition }
