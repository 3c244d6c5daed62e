-- The line of a set of atoms: `{`, its atoms in order with a comma and a blank between them, `}`, and a line feed.
use Rattle.std.specs.Prelude.{◌≡◌, ℕ, ℤ, pos, negsuc, suc, Bool, true, false, List, [], ◌∷◌, ◌++◌, map, codes, length}
use Rattle.std.specs.declared.cmp.Ordering.{Ordering}
use Rattle.std.specs.declared.cmp.Ordering.TheVariants.{Less, Equal, Greater}
use Rattle.std.specs.Ordering.{nat_cmp, ordering_then}
use Rattle.std.specs.Fmt.{digits_onto}
use Rattle.lists.specs.Lists.{Each, SameSet}
use Rattle.asp_meaning.specs.declared.value.Value.{Value}
use Rattle.asp_meaning.specs.declared.value.Value.TheOpen.{Value-F}
use Rattle.asp_meaning.specs.declared.value.Value.TheOpen as value
use Rattle.asp_meaning.specs.declared.value.Value.TheFolds.{fold-Value}
use Rattle.asp_meaning.specs.Orders.{bytes_cmp, values_cmp}
use Rattle.asp_meaning.specs.Atoms.{Atom}

-- each text after the separator
abbrev pub each_after : List ℕ → List (List ℕ) → List ℕ
each_after between [] = []
each_after between (x ∷ xs) = between ++ (x ++ each_after between xs)

-- texts with the separator between them
abbrev pub joined : List ℕ → List (List ℕ) → List ℕ
joined between [] = []
joined between (x ∷ xs) = x ++ each_after between xs

-- a name and its arguments: in parentheses, with commas without blanks, or nothing where there are none
abbrev pub call_text : List ℕ → List (List ℕ) → List ℕ
call_text f [] = f
call_text f (x ∷ xs) = f ++ (codes "(" ++ (joined (codes ",") (x ∷ xs) ++ codes ")"))

-- the decimal digits of a number of any size, which has at most n + 1 of them
abbrev pub natural_text : ℕ → List ℕ
natural_text n = digits_onto (suc n) 10 false n []

-- an integer of any size; a negative one with its sign
abbrev pub integer_text : ℤ → List ℕ
integer_text (pos n) = natural_text n
integer_text (negsuc n) = codes "-" ++ natural_text (suc n)

abbrev pub value_text_step : Value-F (List ℕ) → List ℕ
value_text_step (value.Int n) = integer_text n
value_text_step (value.Symbol x) = x
value_text_step (value.Text x) = codes "\"" ++ (x ++ codes "\"")
value_text_step (value.Fun f first rest) = call_text f (first ∷ rest)

-- the text of a value; a string has its quotes and its raw bytes
abbrev pub value_text : Value → List ℕ
value_text = fold-Value (List ℕ) value_text_step

abbrev pub sign_text : Bool → List ℕ
sign_text false = []
sign_text true = codes "-"

-- the text of an atom
abbrev pub atom_text : Atom → List ℕ
atom_text a = sign_text a.negated ++ call_text a.name (map value_text a.args)

-- the positive one first
abbrev pub sign_cmp : Bool → Bool → Ordering
sign_cmp false true = Less
sign_cmp true false = Greater
sign_cmp _ _ = Equal

-- the order of atoms in a line: by name, number of arguments, arguments from the left, sign
abbrev pub atom_cmp : Atom → Atom → Ordering
atom_cmp a b =
    ordering_then (bytes_cmp a.name b.name)
    (ordering_then (nat_cmp (length a.args) (length b.args))
    (ordering_then (values_cmp a.args b.args) (sign_cmp a.negated b.negated)))

-- each atom is below all that come after it
abbrev pub IsInOrder : List Atom → Type 0
IsInOrder [] = Unit {0}
IsInOrder (a ∷ more) = Each (λ b. atom_cmp a b ≡ Less) more × IsInOrder more

-- the line of a list of atoms, as they stand in the list
abbrev pub line_of : List Atom → List ℕ
line_of atoms = codes "{" ++ (joined (codes ", ") (map atom_text atoms) ++ (codes "}" ++ (10 ∷ [])))

-- the line of a set: that of its atoms in order
pub record IsSetLine (I : List Atom) (line : List ℕ) : Type 0 where
  pub sorted : List Atom
  pub same : SameSet I sorted
  pub in_order : IsInOrder sorted
  pub text : line ≡ line_of sorted
