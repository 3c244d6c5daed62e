-- Small programs that the laws speak of. Each is there for any names.
use Rattle.std.specs.Prelude.{ℕ, ℤ, pos, negsuc, true, false, List, [], ◌∷◌, Option, Some, None, codes}
use Rattle.alpha_outside.specs.declared.kinds.ArithOp.TheVariants.{Add}
use Rattle.asp_syntax.specs.declared.tree.AggKind.TheVariants as kind
use Rattle.asp_syntax.specs.declared.tree.Aggregate.{Aggregate}
use Rattle.asp_syntax.specs.declared.tree.Atom as syntax
use Rattle.asp_syntax.specs.declared.tree.Literal.{Literal}
use Rattle.asp_syntax.specs.declared.tree.Literal.TheVariants as literal
use Rattle.asp_syntax.specs.declared.tree.CompareOp.TheVariants as op
use Rattle.asp_syntax.specs.declared.tree.Guard.{Guard}
use Rattle.asp_syntax.specs.declared.tree.Item.TheVariants as item
use Rattle.asp_syntax.specs.declared.tree.Head.TheVariants as head
use Rattle.asp_syntax.specs.declared.tree.Statement.{Statement}
use Rattle.asp_syntax.specs.declared.tree.Term.{Term}
use Rattle.asp_syntax.specs.declared.tree.Term.TheVariants as term
use Rattle.asp_meaning.specs.declared.value.Value.{Value}
use Rattle.asp_meaning.specs.declared.value.Value.TheVariants as value
use Rattle.asp_meaning.specs.Atoms.{Atom}

-- the atom of a name without arguments, as it is written
abbrev pub written : List ℕ → syntax.Atom
written a = record { negated = false; name = a; args = [] }

-- the atom of a name without arguments
abbrev pub atom : List ℕ → Atom
atom a = record { negated = false; name = a; args = [] }

-- a.
abbrev pub fact : List ℕ → Statement
fact a = record { line = 1; head = head.Single (written a); body = [] }

-- a :- b.
abbrev pub rule : List ℕ → List ℕ → Statement
rule a b = record { line = 1; head = head.Single (written a); body = item.Plain (literal.Positive (written b)) ∷ [] }

-- a :- not b.
abbrev pub rule_without : List ℕ → List ℕ → Statement
rule_without a b = record { line = 1; head = head.Single (written a); body = item.Plain (literal.Negative (written b)) ∷ [] }

-- :- not a.
abbrev pub must_be : List ℕ → Statement
must_be a = record { line = 1; head = head.Absent; body = item.Plain (literal.Negative (written a)) ∷ [] }

-- {a}.
abbrev pub may_be : List ℕ → Statement
may_be a = record { line = 1; head = head.Choice None (record { atom = written a; condition = [] } ∷ []) None; body = [] }

-- {a : b}.
abbrev pub may_be_where : List ℕ → List ℕ → Statement
may_be_where a b = record {
  line = 1;
  head = head.Choice None (record { atom = written a; condition = literal.Positive (written b) ∷ [] } ∷ []) None;
  body = [];
}

-- {a; b} = 1.
abbrev pub one_of : List ℕ → List ℕ → Statement
one_of a b = record {
  line = 1;
  head = head.Choice None (record { atom = written a; condition = [] } ∷ record { atom = written b; condition = [] } ∷ [])
      (Some (record { op = op.Equal; term = term.Int (pos 1) }));
  body = [];
}

-- -a.
abbrev pub denied : List ℕ → Statement
denied a = record { line = 1; head = head.Single (record { negated = true; name = a; args = [] }); body = [] }

-- ---- weights

-- the atom w(n,x)
abbrev pub weighs : ℤ → List ℕ → Atom
weighs n x = record { negated = false; name = codes "w"; args = value.Int n ∷ value.Symbol x ∷ [] }

-- w(3,a), w(3,b) and w(-2,c)
abbrev pub weights : List Atom
weights = weighs (pos 3) (codes "a") ∷ weighs (pos 3) (codes "b") ∷ weighs (negsuc 1) (codes "c") ∷ []

-- a sum over w(W,I) of these tuples, with these guards
abbrev pub sum_over : List Term → Option Guard → Option Guard → Aggregate
sum_over tuple left right = record {
  kind = kind.Sum;
  elements = record {
    terms = tuple;
    condition = literal.Positive (record { negated = false; name = codes "w"; args = term.Variable (codes "W") ∷ term.Variable (codes "I") ∷ [] }) ∷ [];
  } ∷ [];
  left = left;
  right = right;
}

-- the tuple W, and the tuple W,I
abbrev pub weight_alone : List Term
weight_alone = term.Variable (codes "W") ∷ []

abbrev pub weight_and_name : List Term
weight_and_name = term.Variable (codes "W") ∷ term.Variable (codes "I") ∷ []

-- ---- two elements with a variable of the same name

-- the literal p(X), for the name p
abbrev pub of_variable : List ℕ → Literal
of_variable p = literal.Positive (record { negated = false; name = p; args = term.Variable (codes "X") ∷ [] })

-- the atom p(x), for the name p and a value x
abbrev pub value_of : List ℕ → Value → Atom
value_of p x = record { negated = false; name = p; args = x ∷ [] }

-- the tuple of one number
abbrev pub tuple_of : ℕ → List Value
tuple_of n = value.Int (pos n) ∷ []

-- #count{1 : p(X); 2 : q(X)} with these guards, for the names p and q
abbrev pub two_elements : List ℕ → List ℕ → Option Guard → Option Guard → Aggregate
two_elements p q left right = record {
  kind = kind.Count;
  elements = record { terms = term.Int (pos 1) ∷ []; condition = of_variable p ∷ [] }
      ∷ record { terms = term.Int (pos 2) ∷ []; condition = of_variable q ∷ [] } ∷ [];
  left = left;
  right = right;
}

-- ---- counting

-- the atom n(t), as it is written
abbrev pub n_of : Term → syntax.Atom
n_of t = record { negated = false; name = codes "n"; args = t ∷ [] }

-- the atom n(k)
abbrev pub number : ℤ → Atom
number k = record { negated = false; name = codes "n"; args = value.Int k ∷ [] }

-- n(0).
abbrev pub start : Statement
start = record { line = 1; head = head.Single (n_of (term.Int (pos 0))); body = [] }

-- n(X+1) :- n(X), X < 3.
abbrev pub step : Statement
step = record {
  line = 2;
  head = head.Single (n_of (term.Arith Add (term.Variable (codes "X")) (term.Int (pos 1))));
  body = item.Plain (literal.Positive (n_of (term.Variable (codes "X"))))
      ∷ item.Plain (literal.Compare op.Less (term.Variable (codes "X")) (term.Int (pos 3))) ∷ [];
}

-- ---- a line

-- the atoms v and -v with these arguments
abbrev pub v_of : List Value → Atom
v_of args = record { negated = false; name = codes "v"; args = args }

abbrev pub minus_v_of : List Value → Atom
minus_v_of args = record { negated = true; name = codes "v"; args = args }

-- v(f(1)), v("b"), v(a), v(-1), v(f(0,0)), v(g), v and -v(2)
abbrev pub vs : List Atom
vs =
    v_of (value.Fun (codes "f") (value.Int (pos 1)) [] ∷ []) ∷ v_of (value.Text (codes "b") ∷ []) ∷ v_of (value.Symbol (codes "a") ∷ [])
    ∷ v_of (value.Int (negsuc 0) ∷ []) ∷ v_of (value.Fun (codes "f") (value.Int (pos 0)) (value.Int (pos 0) ∷ []) ∷ [])
    ∷ v_of (value.Symbol (codes "g") ∷ []) ∷ v_of [] ∷ minus_v_of (value.Int (pos 2) ∷ []) ∷ []
