-- How deep tokens are nested. It is counted on the tokens, and not on a tree.
use Rattle.std.specs.Prelude.{ℕ, suc, ◌+◌, List, [], ◌∷◌}
use Rattle.asp_syntax.specs.declared.token.Token.{Token}
use Rattle.asp_syntax.specs.declared.token.Token.TheVariants as token
use Rattle.asp_syntax.specs.declared.token.Spanned.{Spanned}

-- How many of `+`, `-`, `*` and `/` stand in a level since its last separator: in the innermost level, and in each level outside it,
-- the inner one first. A `(` opens a level, and its `)` ends it.
pub record Levels : Type 0 where
  pub now : ℕ
  pub outside : List ℕ

-- levels with these numbers
abbrev pub levels_of : ℕ → List ℕ → Levels
levels_of now outside = record { now = now; outside = outside }

-- the outermost level alone
abbrev pub one_level : Levels
one_level = record { now = 0; outside = [] }

-- one operator more in the innermost level
abbrev pub with_operator : Levels → Levels
with_operator levels = record { now = suc levels.now; outside = levels.outside }

-- a separator in the innermost level
abbrev pub separated : Levels → Levels
separated levels = record { now = 0; outside = levels.outside }

-- a new innermost level
abbrev pub opened : Levels → Levels
opened levels = record { now = 0; outside = levels.now ∷ levels.outside }

-- without the innermost level; a `)` without its `(` ends nothing
abbrev pub closed : ℕ → List ℕ → Levels
closed now [] = record { now = now; outside = [] }
closed now (outer ∷ others) = record { now = outer; outside = others }

-- the levels after a token. Separators are `,` `;` `:` `{` `}` `:-` `.` and the comparisons.
abbrev pub levels_after : Levels → Token → Levels
levels_after levels token.Open = opened levels
levels_after levels token.Close = closed levels.now levels.outside
levels_after levels token.Plus = with_operator levels
levels_after levels token.Minus = with_operator levels
levels_after levels token.Star = with_operator levels
levels_after levels token.Slash = with_operator levels
levels_after levels token.Comma = separated levels
levels_after levels token.Semicolon = separated levels
levels_after levels token.Colon = separated levels
levels_after levels token.OpenBrace = separated levels
levels_after levels token.CloseBrace = separated levels
levels_after levels token.If = separated levels
levels_after levels token.Dot = separated levels
levels_after levels (token.Compare op) = separated levels
levels_after levels _ = levels

-- the levels after the tokens
abbrev pub levels_through : Levels → List Spanned → Levels
levels_through levels [] = levels
levels_through levels (t ∷ ts) = levels_through (levels_after levels t.token) ts

-- each open `(`, and the operators of the level that it stands in
abbrev pub outer_depth : List ℕ → ℕ
outer_depth [] = 0
outer_depth (operators ∷ others) = suc operators + outer_depth others

-- the number of open `(`, and of the operators that count in all levels
abbrev pub depth : Levels → ℕ
depth levels = levels.now + outer_depth levels.outside

-- the nesting after the tokens
abbrev pub nesting : List Spanned → ℕ
nesting tokens = depth (levels_through one_level tokens)

-- the deepest nesting that a program may have
abbrev pub deepest : ℕ
deepest = 200
