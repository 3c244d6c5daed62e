-- Variables as the code holds them: when two are the same, and what a hash reads of one.
use Rattle.std.specs.Prelude.{ℕ, Bool, false, nat_eq, List, [], ◌∷◌, ◌++◌}
use Rattle.std.specs.Cmp.Lexicographic.{pointwise}
use Rattle.std.specs.Hash as fed
use Rattle.asp_meaning.specs.Terms.{Variable, named, anonymous}
use Rattle.asp_safety.specs.declared.key.Kind.{Kind}
use Rattle.asp_safety.specs.declared.key.Kind.TheVariants as kind

abbrev pub variable_in : Kind → Variable
variable_in (kind.Named x) = named x
variable_in (kind.Anonymous k) = anonymous k

abbrev pub variable_eq : Variable → Variable → Bool
variable_eq (named x) (named y) = pointwise nat_eq x y
variable_eq (anonymous j) (anonymous k) = nat_eq j k
variable_eq _ _ = false

abbrev pub variable_writes : Variable → List (List ℕ)
variable_writes (named x) = fed.u8 0 ++ fed.slice fed.u8 x
variable_writes (anonymous k) = fed.u8 1 ++ fed.u32 k

-- how a fault names a variable: an anonymous one is written `_`
abbrev pub spelled : Variable → List ℕ
spelled (named x) = x
spelled (anonymous k) = 95 ∷ []
