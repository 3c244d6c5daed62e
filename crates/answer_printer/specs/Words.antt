-- The words of a set: its text but for the blanks. A word is given by its bytes, and a set of atoms by its words.
use Rattle.std.specs.Prelude.{ℕ, ℤ, pos, negsuc, ◌^◌, ◌<◌, Bool, true, false, List, [], ◌∷◌, ◌++◌, map, codes}
use Rattle.asp_syntax.specs.WellFormed.{IsId, IsText}
use Rattle.asp_meaning.specs.declared.value.Value.{Value}
use Rattle.asp_meaning.specs.declared.value.Value.TheOpen.{Value-F}
use Rattle.asp_meaning.specs.declared.value.Value.TheOpen as value
use Rattle.asp_meaning.specs.declared.value.Value.TheFolds.{fold-Value}
use Rattle.asp_meaning.specs.Atoms.{Atom}
use Rattle.asp_meaning.specs.Lines.{integer_text}
use Rattle.answer_printer.specs.declared.words.Word.{Word}
use Rattle.answer_printer.specs.declared.words.Word.TheVariants.{Id, Integer, Text, Minus, Comma, Open, Close, OpenBrace, CloseBrace}

-- the bytes of a word. An integer has its decimal digits without a needless `0`, and `-` directly before them where it is negative
abbrev pub spelling : Word → List ℕ
spelling (Id name) = name
spelling (Integer z) = integer_text z
spelling (Text inside) = codes "\"" ++ (inside ++ codes "\"")
spelling Minus = codes "-"
spelling Comma = codes ","
spelling Open = codes "("
spelling Close = codes ")"
spelling OpenBrace = codes "{"
spelling CloseBrace = codes "}"

-- an integer of 64 bits
abbrev pub IsInRange : ℤ → Type 0
IsInRange (pos n) = n < 2 ^ 63
IsInRange (negsuc n) = n < 2 ^ 63

-- a word of the language: a name is an ID other than `not`, an integer has 64 bits, a text may stand between quotes
abbrev pub Fits : Word → Type 0
Fits (Id name) = IsId name
Fits (Integer z) = IsInRange z
Fits (Text inside) = IsText inside
Fits _ = Unit {0}

-- the words of each part after a comma
abbrev pub words_after : List (List Word) → List Word
words_after [] = []
words_after (x ∷ xs) = Comma ∷ (x ++ words_after xs)

-- the words of parts with commas between them
abbrev pub words_joined : List (List Word) → List Word
words_joined [] = []
words_joined (x ∷ xs) = x ++ words_after xs

-- a name, and its arguments in parentheses, if it has any
abbrev pub call_words : List ℕ → List (List Word) → List Word
call_words f [] = Id f ∷ []
call_words f (x ∷ xs) = Id f ∷ Open ∷ (words_joined (x ∷ xs) ++ Close ∷ [])

abbrev pub value_words_step : Value-F (List Word) → List Word
value_words_step (value.Int z) = Integer z ∷ []
value_words_step (value.Symbol x) = Id x ∷ []
value_words_step (value.Text x) = Text x ∷ []
value_words_step (value.Fun f first rest) = call_words f (first ∷ rest)

-- the words of a value
abbrev pub value_words : Value → List Word
value_words = fold-Value (List Word) value_words_step

abbrev pub sign_words : Bool → List Word
sign_words false = []
sign_words true = Minus ∷ []

-- the words of an atom
abbrev pub atom_words : Atom → List Word
atom_words a = sign_words a.negated ++ call_words a.name (map value_words a.args)

-- the words of a set: its atoms in braces, with commas between them
abbrev pub set_words : List Atom → List Word
set_words atoms = OpenBrace ∷ (words_joined (map atom_words atoms) ++ CloseBrace ∷ [])
