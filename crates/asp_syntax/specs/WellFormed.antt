-- Which names, texts and numbers a token or a tree may have.
use Rattle.std.specs.Prelude.{Bool, ◌≡◌, ◌≢◌, ℕ, ◌≤◌, List, [], ◌∷◌, IsTrue, codes}
use Rattle.std.specs.List.{list_all}
use Rattle.asp_syntax.specs.declared.token.Token.{Token}
use Rattle.asp_syntax.specs.declared.token.Token.TheVariants as token
use Rattle.asp_syntax.specs.Bytes.{line_feed, quote, backslash, is_lower, is_upper, is_word}

-- a first byte that passes a test, then letters, digits or `_`
abbrev pub IsName : (ℕ → Bool) → List ℕ → Type 0
IsName first [] = ⊥
IsName first (byte ∷ more) = IsTrue (first byte) × IsTrue (list_all is_word more)

-- an ID other than `not`: a lower-case letter, then letters, digits or `_`
abbrev pub IsId : List ℕ → Type 0
IsId name = IsName is_lower name × (name ≢ codes "not")

-- an upper-case letter, then letters, digits or `_`
abbrev pub IsVariable : List ℕ → Type 0
IsVariable name = IsName is_upper name

-- what may stand between a byte and a quote that ends a string: no line feed, a quote only directly after a backslash, and no
-- backslash at the end
abbrev pub IsInside : ℕ → List ℕ → Type 0
IsInside previous [] = previous ≢ backslash
IsInside previous (byte ∷ more) = (byte ≢ line_feed) × (byte ≡ quote → previous ≡ backslash) × IsInside byte more

-- what may stand between the quotes of a string
abbrev pub IsText : List ℕ → Type 0
IsText bytes = IsInside quote bytes

-- the largest number that a token may have: a minus sign before it gives the least integer of 64 bits
abbrev pub largest : ℕ
largest = 9223372036854775808

-- a token as a text can have it: an ID is an ID other than `not`, a variable begins with an upper-case letter, a text may stand between
-- quotes, and a number is not too large
abbrev pub IsWellFormed : Token → Type 0
IsWellFormed (token.Id name) = IsId name
IsWellFormed (token.Variable name) = IsVariable name
IsWellFormed (token.Text inside) = IsText inside
IsWellFormed (token.Number number) = number ≤ largest
IsWellFormed _ = Unit {0}
