-- The files of a command line, and the text that those of the program make.
use Rattle.std.specs.Prelude.{◌≡◌, ℕ, ◌+◌, ◌<◌, ◌≤◌, List, [], ◌∷◌, ◌++◌, length, Option, Some}

-- the files, where a shelf tells them
abbrev pub Told : Type 0
Told = Option (List ℕ → Option (List ℕ))

-- the most bytes that the program's files have together
abbrev pub most_bytes : ℕ
most_bytes = 16777216

-- the most bytes of the file of the sets that are not to be printed again
abbrev pub most_listed_bytes : ℕ
most_listed_bytes = 268435456

-- the bytes of each file, each followed by a line feed
abbrev pub joined_text : List (List ℕ) → List ℕ
joined_text [] = []
joined_text (bytes ∷ contents) = bytes ++ (10 ∷ joined_text contents)

-- how many bytes the files have together
abbrev pub total : List (List ℕ) → ℕ
total [] = 0
total (bytes ∷ contents) = length bytes + total contents

-- the files of these names are there, and these are their bytes, one by one
abbrev pub AreFiles : (List ℕ → Option (List ℕ)) → List (List ℕ) → List (List ℕ) → Type 0
AreFiles files [] [] = Unit {0}
AreFiles files (name ∷ names) (bytes ∷ contents) = (files name ≡ Some bytes) × AreFiles files names contents
AreFiles files _ _ = ⊥

-- the files of these names are there, have no more bytes than they may, and this is their text
pub record IsJoinedText (files : List ℕ → Option (List ℕ)) (names : List (List ℕ)) (text : List ℕ) : Type 0 where
  pub contents : List (List ℕ)
  pub there : AreFiles files names contents
  pub within : total contents ≤ most_bytes
  pub text_is : text ≡ joined_text contents

-- this file is one of these, and those before it are there and have no more bytes than they may
pub record IsReached (files : List ℕ → Option (List ℕ)) (names : List (List ℕ)) (name : List ℕ) : Type 0 where
  pub before : List (List ℕ)
  pub after : List (List ℕ)
  pub contents : List (List ℕ)
  pub names_are : names ≡ before ++ (name ∷ after)
  pub there : AreFiles files before contents
  pub within : total contents ≤ most_bytes

-- this file is there, and with it the files have more bytes than they may, while those before it don't
pub record MakesTooLong (files : List ℕ → Option (List ℕ)) (names : List (List ℕ)) (name : List ℕ) : Type 0 where
  pub reached : IsReached files names name
  pub bytes : List ℕ
  pub file : files name ≡ Some bytes
  pub above : most_bytes < total reached.contents + length bytes

-- the file is there, and longer than this
pub record IsLonger (files : List ℕ → Option (List ℕ)) (at_most : ℕ) (name : List ℕ) : Type 0 where
  pub bytes : List ℕ
  pub file : files name ≡ Some bytes
  pub above : at_most < length bytes
