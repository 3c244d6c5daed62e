-- Which statements are built, and the first that isn't.
use Rattle.std.specs.Prelude.{ℕ, Bool, true, false, ◌&&◌, if◌then◌else◌, List, [], ◌∷◌, Option, Some, None}
use Rattle.std.specs.List.{list_all}
use Rattle.asp_syntax.specs.declared.tree.Item.{Item}
use Rattle.asp_syntax.specs.declared.tree.Item.TheVariants as item
use Rattle.asp_syntax.specs.declared.tree.Head.{Head}
use Rattle.asp_syntax.specs.declared.tree.Head.TheVariants as head
use Rattle.asp_syntax.specs.declared.tree.Statement.{Statement}

-- every item but an aggregate
abbrev pub is_built_item : Item → Bool
is_built_item (item.Plain l) = true
is_built_item (item.Aggregate denied g) = false

-- every head but a choice with bounds
abbrev pub is_built_head : Head → Bool
is_built_head head.Absent = true
is_built_head (head.Single a) = true
is_built_head (head.Choice None elements None) = true
is_built_head (head.Choice None elements (Some right)) = false
is_built_head (head.Choice (Some left) elements right) = false

-- a statement with such a head and such a body
abbrev pub is_built : Statement → Bool
is_built s = is_built_head s.head && list_all is_built_item s.body

-- the line of the first statement that isn't built
abbrev pub unbuilt : List Statement → Option ℕ
unbuilt [] = None
unbuilt (s ∷ more) = if is_built s then unbuilt more else Some s.line
