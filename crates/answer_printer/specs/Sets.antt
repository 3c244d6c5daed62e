-- Which text is which set: its words, with any blanks before, between and after them. The atoms may stand in any order, and repeat.
use Rattle.std.specs.Prelude.{◌≡◌, ℕ, Bool, ◌||◌, ◌==◌, List, [], ◌∷◌, ◌++◌, IsTrue}
use Rattle.std.specs.List.{list_all}
use Rattle.lists.specs.Lists.{Each}
use Rattle.asp_meaning.specs.Atoms.{Atom}
use Rattle.answer_printer.specs.declared.words.Word.{Word}
use Rattle.answer_printer.specs.Words.{spelling, Fits, atom_words, set_words}

-- space, tab or carriage return; a line has no line feed
abbrev pub is_set_blank : ℕ → Bool
is_set_blank byte = ((byte == 32) || (byte == 9)) || (byte == 13)

abbrev pub AreBlanks : List ℕ → Type 0
AreBlanks bytes = IsTrue (list_all is_set_blank bytes)

-- the bytes are the words, each behind any blanks, and then any blanks
abbrev pub IsSpaced : List Word → List ℕ → Type 0
IsSpaced [] bytes = AreBlanks bytes
IsSpaced (w ∷ words) bytes =
    (blanks : List ℕ) × (rest : List ℕ) × AreBlanks blanks × (bytes ≡ blanks ++ (spelling w ++ rest)) × IsSpaced words rest

-- the bytes are this set, as its atoms stand there
pub record IsSetText (bytes : List ℕ) (atoms : List Atom) : Type 0 where
  pub fit : Each Fits (set_words atoms)
  pub spaced : IsSpaced (set_words atoms) bytes

-- the atom can stand in a set line: its names, integers and texts are those of the language
abbrev pub CanBeRead : Atom → Type 0
CanBeRead a = Each Fits (atom_words a)
