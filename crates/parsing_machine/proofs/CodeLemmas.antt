-- What the code of the steps needs.
use Rattle.std.proofs.Common.{◌≡◌, ℕ, Bool, List, [], refl, ◌∙◌}
use Rattle.std.specs.Prelude.{Option, Some, None, Result, Ok, Err, IfOk}
use Rattle.asp_syntax.specs.declared.token.Token.{Token}
use Rattle.asp_syntax.specs.declared.token.Token.TheVariants as token
use Rattle.asp_grammar.specs.declared.state.LiteralRole.{LiteralRole}
use Rattle.asp_grammar.specs.declared.state.State.{State}
use Rattle.asp_grammar.specs.Terminals.{terminal_of}
use Rattle.asp_grammar.specs.Machine.{or_else, arguments_next, name_next}

-- Nothing is there after nothing else.
pub or_else_none : (o : Option State) → or_else o None ≡ o
or_else_none None = refl
or_else_none (Some s) = refl

-- Without `(` a name has no arguments.
pub name_same :
    (role : LiteralRole) (negated : Bool) (name : List ℕ) (count : ℕ) (t : Token) → (t ≡ token.Open → ⊥)
    → arguments_next role negated name [] (terminal_of count t) ≡ name_next role negated name (terminal_of count t)
name_same role negated name count token.Open h = absurd (h refl)
name_same role negated name count _ h = refl

-- Equal states are the same answer.
pub ok_same : {E : Type 0} (r : Result (Option State) E) (a b : Option State) → a ≡ b → IfOk r (λ v. v ≡ a) → IfOk r (λ v. v ≡ b)
ok_same (Ok v) a b e h = h ∙ e
ok_same (Err x) a b e h = h
