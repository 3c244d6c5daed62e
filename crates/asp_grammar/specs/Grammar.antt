-- The grammar, a relation for each of its parts. Each says: the first tokens begin with those of this tree, and the others follow.
--
-- A line of the grammar stands above its relation: what is in `[ ]` may be missing, what is in `{ }` may come any number of times.
-- That chains of operators group from the left is in `ContinuesProduct` and `ContinuesTerm`: what is read so far is the left side.
use Rattle.std.specs.Prelude.{◌≡◌, ℕ, pos, ◌-ℤ◌, Bool, true, false, List, [], ◌∷◌, Option, Some, None}
use Rattle.alpha_outside.specs.declared.kinds.ArithOp.{ArithOp}
use Rattle.alpha_outside.specs.declared.kinds.ArithOp.TheVariants.{Add, Sub, Mul, Div}
use Rattle.asp_syntax.specs.declared.tree.CompareOp.{CompareOp}
use Rattle.asp_syntax.specs.declared.tree.CompareOp.TheVariants.{LessEqual}
use Rattle.asp_syntax.specs.declared.tree.Term.{Term}
use Rattle.asp_syntax.specs.declared.tree.Term.TheVariants as term
use Rattle.asp_syntax.specs.declared.tree.Atom.{Atom}
use Rattle.asp_syntax.specs.declared.tree.Literal.{Literal}
use Rattle.asp_syntax.specs.declared.tree.Literal.TheVariants as literal
use Rattle.asp_syntax.specs.declared.tree.Item.{Item}
use Rattle.asp_syntax.specs.declared.tree.Item.TheVariants as item
use Rattle.asp_syntax.specs.declared.tree.ChoiceElement.{ChoiceElement}
use Rattle.asp_syntax.specs.declared.tree.Guard.{Guard}
use Rattle.asp_syntax.specs.declared.tree.Element.{Element}
use Rattle.asp_syntax.specs.declared.tree.Aggregate.{Aggregate}
use Rattle.asp_syntax.specs.declared.tree.AggKind.{AggKind}
use Rattle.asp_syntax.specs.declared.tree.AggKind.TheVariants as kind
use Rattle.asp_syntax.specs.declared.tree.Head.{Head}
use Rattle.asp_syntax.specs.declared.tree.Head.TheVariants as head
use Rattle.asp_grammar.specs.Terminals.{Terminal}
use Rattle.asp_grammar.specs.Terminals as terminal

-- ---- terms

-- the first token is a number
abbrev pub begins_number : List Terminal → Bool
begins_number (terminal.Number n ∷ ts) = true
begins_number _ = false

-- the signs between the products of a term
pub data IsSumSign : Terminal → ArithOp → Type 0 where
  plus : IsSumSign terminal.Plus Add
  minus : IsSumSign terminal.Minus Sub

-- the signs between the factors of a product
pub data IsProductSign : Terminal → ArithOp → Type 0 where
  star : IsProductSign terminal.Star Mul
  slash : IsProductSign terminal.Slash Div

mutual
  -- unary = "-" unary | "(" term ")" | ID [ "(" [ terms ] ")" ] | NUMBER | STRING | VARIABLE | ANONYMOUS
  -- A minus directly before a number gives the negative integer, and `f()` is the symbol `f`.
  pub data IsUnary : List Terminal → List Terminal → Term → Type 0 where
    negative : {n : ℕ} {r : List Terminal} → IsUnary (terminal.Minus ∷ terminal.Number n ∷ r) r (term.Int (pos 0 -ℤ pos n))
    minus : {ts r : List Terminal} {x : Term} → begins_number ts ≡ false → IsUnary ts r x → IsUnary (terminal.Minus ∷ ts) r (term.Minus x)
    group : {ts r : List Terminal} {x : Term} → IsTerm ts (terminal.Close ∷ r) x → IsUnary (terminal.Open ∷ ts) r x
    symbol : {n : List ℕ} {r : List Terminal} → IsUnary (terminal.Id n ∷ r) r (term.Symbol n)
    empty_call : {n : List ℕ} {r : List Terminal} → IsUnary (terminal.Id n ∷ terminal.Open ∷ terminal.Close ∷ r) r (term.Symbol n)
    call :
        {n : List ℕ} {ts r : List Terminal} {xs : List Term} → AreTerms ts (terminal.Close ∷ r) xs
        → IsUnary (terminal.Id n ∷ terminal.Open ∷ ts) r (term.Fun n xs)
    number : {n : ℕ} {r : List Terminal} → IsUnary (terminal.Number n ∷ r) r (term.Int (pos n))
    text : {n : List ℕ} {r : List Terminal} → IsUnary (terminal.Text n ∷ r) r (term.Text n)
    variable : {n : List ℕ} {r : List Terminal} → IsUnary (terminal.Variable n ∷ r) r (term.Variable n)
    anonymous : {n : ℕ} {r : List Terminal} → IsUnary (terminal.Anonymous n ∷ r) r (term.Anonymous n)

  -- product = unary { ( "*" | "/" ) unary }
  pub data IsProduct : List Terminal → List Terminal → Term → Type 0 where
    product : {ts r s : List Terminal} {x y : Term} → IsUnary ts r x → ContinuesProduct x r s y → IsProduct ts s y

  -- { ( "*" | "/" ) unary }: the product so far, and what follows makes the last term of it
  pub data ContinuesProduct : Term → List Terminal → List Terminal → Term → Type 0 where
    no_factor : {x : Term} {ts : List Terminal} → ContinuesProduct x ts ts x
    factor :
        {t : Terminal} {op : ArithOp} {x y z : Term} {ts r s : List Terminal} → IsProductSign t op → IsUnary ts r y
        → ContinuesProduct (term.Arith op x y) r s z → ContinuesProduct x (t ∷ ts) s z

  -- term = product { ( "+" | "-" ) product }
  pub data IsTerm : List Terminal → List Terminal → Term → Type 0 where
    sum : {ts r s : List Terminal} {x y : Term} → IsProduct ts r x → ContinuesTerm x r s y → IsTerm ts s y

  -- { ( "+" | "-" ) product }: the term so far, and what follows makes the last term of it
  pub data ContinuesTerm : Term → List Terminal → List Terminal → Term → Type 0 where
    no_summand : {x : Term} {ts : List Terminal} → ContinuesTerm x ts ts x
    summand :
        {t : Terminal} {op : ArithOp} {x y z : Term} {ts r s : List Terminal} → IsSumSign t op → IsProduct ts r y
        → ContinuesTerm (term.Arith op x y) r s z → ContinuesTerm x (t ∷ ts) s z

  -- terms = term { "," term }
  pub data AreTerms : List Terminal → List Terminal → List Term → Type 0 where
    last : {ts r : List Terminal} {x : Term} → IsTerm ts r x → AreTerms ts r (x ∷ [])
    another :
        {ts r s : List Terminal} {x : Term} {xs : List Term} → IsTerm ts (terminal.Comma ∷ r) x → AreTerms r s xs
        → AreTerms ts s (x ∷ xs)

-- ---- literals

-- [ "(" [ terms ] ")" ]
pub data AreArguments : List Terminal → List Terminal → List Term → Type 0 where
  none : {r : List Terminal} → AreArguments r r []
  empty : {r : List Terminal} → AreArguments (terminal.Open ∷ terminal.Close ∷ r) r []
  some : {ts r : List Terminal} {xs : List Term} → AreTerms ts (terminal.Close ∷ r) xs → AreArguments (terminal.Open ∷ ts) r xs

-- literal = [ "-" ] ID [ "(" [ terms ] ")" ]
pub data IsLiteral : List Terminal → List Terminal → Atom → Type 0 where
  plain :
      {n : List ℕ} {ts r : List Terminal} {xs : List Term} → AreArguments ts r xs
      → IsLiteral (terminal.Id n ∷ ts) r (record { negated = false; name = n; args = xs })
  negated :
      {n : List ℕ} {ts r : List Terminal} {xs : List Term} → AreArguments ts r xs
      → IsLiteral (terminal.Minus ∷ terminal.Id n ∷ ts) r (record { negated = true; name = n; args = xs })

-- naf = [ "not" ] literal | term compare term
pub data IsNaf : List Terminal → List Terminal → Literal → Type 0 where
  positive : {ts r : List Terminal} {a : Atom} → IsLiteral ts r a → IsNaf ts r (literal.Positive a)
  negative : {ts r : List Terminal} {a : Atom} → IsLiteral ts r a → IsNaf (terminal.Not ∷ ts) r (literal.Negative a)
  compare :
      {ts r s : List Terminal} {op : CompareOp} {x y : Term} → IsTerm ts (terminal.Compare op ∷ r) x → IsTerm r s y
      → IsNaf ts s (literal.Compare op x y)

-- nafs = naf { "," naf }
pub data AreNafs : List Terminal → List Terminal → List Literal → Type 0 where
  lone : {ts r : List Terminal} {l : Literal} → IsNaf ts r l → AreNafs ts r (l ∷ [])
  further :
      {ts r s : List Terminal} {l : Literal} {ls : List Literal} → IsNaf ts (terminal.Comma ∷ r) l → AreNafs r s ls
      → AreNafs ts s (l ∷ ls)

-- [ ":" [ nafs ] ]
pub data IsCondition : List Terminal → List Terminal → List Literal → Type 0 where
  absent : {r : List Terminal} → IsCondition r r []
  bare : {r : List Terminal} → IsCondition (terminal.Colon ∷ r) r []
  given : {ts r : List Terminal} {ls : List Literal} → AreNafs ts r ls → IsCondition (terminal.Colon ∷ ts) r ls

-- ---- aggregates

-- element = terms [ ":" [ nafs ] ] | ":" [ nafs ]
pub data IsElement : List Terminal → List Terminal → Element → Type 0 where
  tuple :
      {ts r s : List Terminal} {xs : List Term} {ls : List Literal} → AreTerms ts r xs → IsCondition r s ls
      → IsElement ts s (record { terms = xs; condition = ls })
  colon_alone : {r : List Terminal} → IsElement (terminal.Colon ∷ r) r (record { terms = []; condition = [] })
  untupled :
      {ts r : List Terminal} {ls : List Literal} → AreNafs ts r ls
      → IsElement (terminal.Colon ∷ ts) r (record { terms = []; condition = ls })

-- element { ";" element }
pub data AreElements : List Terminal → List Terminal → List Element → Type 0 where
  sole : {ts r : List Terminal} {e : Element} → IsElement ts r e → AreElements ts r (e ∷ [])
  besides :
      {ts r s : List Terminal} {e : Element} {es : List Element} → IsElement ts (terminal.Semicolon ∷ r) e → AreElements r s es
      → AreElements ts s (e ∷ es)

-- "#count" | "#sum"
pub data IsKindSign : Terminal → AggKind → Type 0 where
  count : IsKindSign terminal.Count kind.Count
  total : IsKindSign terminal.Sum kind.Sum

-- function = ( "#count" | "#sum" ) "{" [ element { ";" element } ] "}"
pub data IsFunction : List Terminal → List Terminal → AggKind → List Element → Type 0 where
  of_none :
      {t : Terminal} {r : List Terminal} {k : AggKind} → IsKindSign t k
      → IsFunction (t ∷ terminal.OpenBrace ∷ terminal.CloseBrace ∷ r) r k []
  of_some :
      {t : Terminal} {ts r : List Terminal} {k : AggKind} {es : List Element} → IsKindSign t k
      → AreElements ts (terminal.CloseBrace ∷ r) es → IsFunction (t ∷ terminal.OpenBrace ∷ ts) r k es

-- aggregate = term compare function [ compare term ] | function compare term
pub data IsAggregate : List Terminal → List Terminal → Aggregate → Type 0 where
  at_left :
      {ts r s : List Terminal} {op : CompareOp} {x : Term} {k : AggKind} {es : List Element}
      → IsTerm ts (terminal.Compare op ∷ r) x → IsFunction r s k es
      → IsAggregate ts s (record { kind = k; elements = es; left = Some (record { op = op; term = x }); right = None })
  at_both :
      {ts r s q : List Terminal} {op right_op : CompareOp} {x y : Term} {k : AggKind} {es : List Element}
      → IsTerm ts (terminal.Compare op ∷ r) x → IsFunction r (terminal.Compare right_op ∷ s) k es → IsTerm s q y
      → IsAggregate ts q
      (record { kind = k; elements = es; left = Some (record { op = op; term = x }); right = Some (record { op = right_op; term = y }) })
  at_right :
      {ts r s : List Terminal} {op : CompareOp} {y : Term} {k : AggKind} {es : List Element}
      → IsFunction ts (terminal.Compare op ∷ r) k es → IsTerm r s y
      → IsAggregate ts s (record { kind = k; elements = es; left = None; right = Some (record { op = op; term = y }) })

-- ---- bodies

-- item = naf | [ "not" ] aggregate
pub data IsItem : List Terminal → List Terminal → Item → Type 0 where
  plain_item : {ts r : List Terminal} {l : Literal} → IsNaf ts r l → IsItem ts r (item.Plain l)
  aggregate : {ts r : List Terminal} {a : Aggregate} → IsAggregate ts r a → IsItem ts r (item.Aggregate false a)
  denied_aggregate :
      {ts r : List Terminal} {a : Aggregate} → IsAggregate ts r a → IsItem (terminal.Not ∷ ts) r (item.Aggregate true a)

-- body = item { "," item }
pub data IsBody : List Terminal → List Terminal → List Item → Type 0 where
  one : {ts r : List Terminal} {i : Item} → IsItem ts r i → IsBody ts r (i ∷ [])
  more :
      {ts r s : List Terminal} {i : Item} {is : List Item} → IsItem ts (terminal.Comma ∷ r) i → IsBody r s is → IsBody ts s (i ∷ is)

-- ---- heads

-- chosen = literal [ ":" [ nafs ] ]
pub data IsChosen : List Terminal → List Terminal → ChoiceElement → Type 0 where
  chosen :
      {ts r s : List Terminal} {a : Atom} {ls : List Literal} → IsLiteral ts r a → IsCondition r s ls
      → IsChosen ts s (record { atom = a; condition = ls })

-- chosen { ";" chosen }
pub data AreChosen : List Terminal → List Terminal → List ChoiceElement → Type 0 where
  final : {ts r : List Terminal} {e : ChoiceElement} → IsChosen ts r e → AreChosen ts r (e ∷ [])
  next :
      {ts r s : List Terminal} {e : ChoiceElement} {es : List ChoiceElement} → IsChosen ts (terminal.Semicolon ∷ r) e
      → AreChosen r s es → AreChosen ts s (e ∷ es)

-- "{" [ chosen { ";" chosen } ] "}"
pub data IsBraced : List Terminal → List Terminal → List ChoiceElement → Type 0 where
  hollow : {r : List Terminal} → IsBraced (terminal.OpenBrace ∷ terminal.CloseBrace ∷ r) r []
  filled : {ts r : List Terminal} {es : List ChoiceElement} → AreChosen ts (terminal.CloseBrace ∷ r) es → IsBraced (terminal.OpenBrace ∷ ts) r es

-- [ term [ compare ] ], where a term alone means `<=`
pub data IsLeftBound : List Terminal → List Terminal → Option Guard → Type 0 where
  free : {r : List Terminal} → IsLeftBound r r None
  at_least : {ts r : List Terminal} {x : Term} → IsTerm ts r x → IsLeftBound ts r (Some (record { op = LessEqual; term = x }))
  bounded :
      {ts r : List Terminal} {op : CompareOp} {x : Term} → IsTerm ts (terminal.Compare op ∷ r) x
      → IsLeftBound ts r (Some (record { op = op; term = x }))

-- [ [ compare ] term ], where a term alone means `<=`
pub data IsRightBound : List Terminal → List Terminal → Option Guard → Type 0 where
  unbounded : {r : List Terminal} → IsRightBound r r None
  at_most : {ts r : List Terminal} {x : Term} → IsTerm ts r x → IsRightBound ts r (Some (record { op = LessEqual; term = x }))
  bound :
      {ts r : List Terminal} {op : CompareOp} {x : Term} → IsTerm ts r x
      → IsRightBound (terminal.Compare op ∷ ts) r (Some (record { op = op; term = x }))

-- choice = [ term [ compare ] ] "{" [ chosen { ";" chosen } ] "}" [ [ compare ] term ]
pub data IsChoice : List Terminal → List Terminal → Head → Type 0 where
  choice :
      {ts r s q : List Terminal} {l : Option Guard} {es : List ChoiceElement} {g : Option Guard}
      → IsLeftBound ts r l → IsBraced r s es → IsRightBound s q g → IsChoice ts q (head.Choice l es g)

-- head = literal | choice
pub data IsHead : List Terminal → List Terminal → Head → Type 0 where
  single : {ts r : List Terminal} {a : Atom} → IsLiteral ts r a → IsHead ts r (head.Single a)
  choosing : {ts r : List Terminal} {h : Head} → IsChoice ts r h → IsHead ts r h

-- ---- statements

-- a statement without its line
pub record Clause : Type 0 where
  pub head : Head
  pub body : List Item

-- statement = ":-" [ body ] "." | head [ ":-" [ body ] ] "."
-- The tokens are those of this statement, and no others follow.
pub data IsClause : List Terminal → Clause → Type 0 where
  empty_constraint : IsClause (terminal.If ∷ terminal.Dot ∷ []) (record { head = head.Absent; body = [] })
  constraint :
      {ts : List Terminal} {ls : List Item} → IsBody ts (terminal.Dot ∷ []) ls
      → IsClause (terminal.If ∷ ts) (record { head = head.Absent; body = ls })
  fact : {ts : List Terminal} {h : Head} → IsHead ts (terminal.Dot ∷ []) h → IsClause ts (record { head = h; body = [] })
  empty_rule :
      {ts : List Terminal} {h : Head} → IsHead ts (terminal.If ∷ terminal.Dot ∷ []) h → IsClause ts (record { head = h; body = [] })
  rule :
      {ts r : List Terminal} {h : Head} {ls : List Item} → IsHead ts (terminal.If ∷ r) h → IsBody r (terminal.Dot ∷ []) ls
      → IsClause ts (record { head = h; body = ls })
