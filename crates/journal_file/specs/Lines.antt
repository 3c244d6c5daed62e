-- The line of an event in a journal: words with a blank between two of them, and a line feed. Ids are decimal numbers.
use Rattle.std.specs.Prelude.{ℕ, ℤ, Bool, true, false, List, [], ◌∷◌, ◌++◌, map, codes}
use Rattle.std.specs.Fmt.{decimal, signed_decimal}
use Rattle.lists.specs.Lists.{concat}
use Rattle.alpha_outside.specs.declared.event.Event.{Event}
use Rattle.alpha_outside.specs.declared.event.Event.TheVariants as event
use Rattle.alpha_outside.specs.declared.event.How.{How}
use Rattle.alpha_outside.specs.declared.event.How.TheVariants.{Analysed, Justified, Decisions, Enumerated}
use Rattle.alpha_outside.specs.declared.literal.Lit.{Lit}
use Rattle.alpha_outside.specs.declared.literal.Value.{Value}
use Rattle.alpha_outside.specs.declared.literal.Value.TheVariants.{True, MustBe, False}
use Rattle.alpha_outside.specs.declared.maker.Maker.{Maker}
use Rattle.alpha_outside.specs.declared.maker.Maker.TheVariants as maker
use Rattle.alpha_outside.specs.declared.maker.Step.{Step}
use Rattle.alpha_outside.specs.declared.maker.Step.TheVariants as step
use Rattle.alpha_outside.specs.declared.node.Node.{Node}
use Rattle.alpha_outside.specs.declared.node.Node.TheVariants as node
use Rattle.alpha_outside.specs.declared.pattern.Pattern.{Pattern}
use Rattle.alpha_outside.specs.declared.pred.Pred.{Pred}
use Rattle.alpha_outside.specs.declared.pred.Pred.TheVariants as pred
use Rattle.journal_file.specs.Terms.{term_text}

-- each word after a blank
abbrev pub behind : List (List ℕ) → List ℕ
behind [] = []
behind (w ∷ ws) = codes " " ++ (w ++ behind ws)

-- words with a blank between two of them
abbrev pub spaced : List (List ℕ) → List ℕ
spaced [] = []
spaced (w ∷ ws) = w ++ behind ws

-- ids, each as a word
abbrev pub id_words : List ℕ → List (List ℕ)
id_words = map decimal

-- ---- terms, predicates and makers

-- a term by its outermost symbol: what it is, and then its value, or its name and the ids of its arguments
abbrev pub node_words : Node → List (List ℕ)
node_words (node.Int n) = codes "int" ∷ signed_decimal n ∷ []
node_words (node.Symbol name) = codes "sym" ∷ name ∷ []
node_words (node.Text text) = codes "str" ∷ (codes "\"" ++ (text ++ codes "\"")) ∷ []
node_words (node.Fun name args) = codes "fun" ∷ name ∷ id_words args

-- a side of an aggregate: the positive weights, or the negative ones
abbrev pub side_text : Bool → List ℕ
side_text true = codes "+"
side_text false = codes "-"

-- the mark of strong negation, where it stands
abbrev pub sign_text : Bool → List ℕ
sign_text true = codes "-"
sign_text false = []

-- a predicate of an aggregate's side
abbrev pub sided_text : List ℕ → ℕ → Bool → List ℕ
sided_text word agg plus = word ++ (decimal agg ++ (codes "." ++ side_text plus))

-- a predicate: its name, or `#`, what it says of an aggregate, and the aggregate's number, with the side where there are two
abbrev pub pred_text : Pred → List ℕ
pred_text (pred.User negated name arity) = sign_text negated ++ name
pred_text (pred.Domain agg arity) = codes "#dom." ++ decimal agg
pred_text (pred.Member agg arity) = codes "#mem." ++ decimal agg
pred_text (pred.Total agg arity) = codes "#total." ++ decimal agg
pred_text (pred.Grid agg plus arity) = sided_text (codes "#grid.") agg plus
pred_text (pred.Reach agg plus arity) = sided_text (codes "#reach.") agg plus
pred_text (pred.Above agg plus arity) = sided_text (codes "#above.") agg plus

-- what a step does, its aggregate and the side
abbrev pub side_words : List ℕ → ℕ → Bool → List (List ℕ)
side_words word agg plus = word ∷ decimal agg ∷ side_text plus ∷ []

-- the number of a member and a sum, and then the aggregate's key
abbrev pub member_words : ℕ → ℤ → List ℕ → List (List ℕ)
member_words k sum key = decimal k ∷ signed_decimal sum ∷ id_words key

-- two sums, and then the aggregate's key
abbrev pub sum_words : ℤ → ℤ → List ℕ → List (List ℕ)
sum_words x y key = signed_decimal x ∷ signed_decimal y ∷ id_words key

-- a step of an aggregate, with its key last
abbrev pub step_words : Step → List (List ℕ)
step_words (step.Zero agg plus key) = side_words (codes "zero") agg plus ++ id_words key
step_words (step.Skip agg plus k sum key) = side_words (codes "skip") agg plus ++ member_words k sum key
step_words (step.Add agg plus k sum key) = side_words (codes "add") agg plus ++ member_words k sum key
step_words (step.Reach agg plus k sum key) = side_words (codes "reach") agg plus ++ member_words k sum key
step_words (step.Above agg plus low high key) = side_words (codes "above") agg plus ++ sum_words low high key
step_words (step.Total agg up down key) = codes "total" ∷ decimal agg ∷ sum_words up down key

-- what makes an instance: a core rule with the values of its variables in order, or a step
abbrev pub maker_words : Maker → List (List ℕ)
maker_words (maker.Rule rule binding) = codes "rule" ∷ decimal rule ∷ id_words binding
maker_words (maker.Step s) = step_words s

-- ---- nogoods

-- a literal: `+` or `-`, and its atom
abbrev pub lit_text : Lit → List ℕ
lit_text l = side_text l.positive ++ decimal l.atom

-- how a nogood was learned
abbrev pub how_text : How → List ℕ
how_text Analysed = codes "analysed"
how_text Justified = codes "justified"
how_text Decisions = codes "decisions"
how_text Enumerated = codes "enumerated"

-- a pattern: a bar, its predicate, its arguments, a slash, and the ids of the atoms that it does not cover
abbrev pub pattern_words : Pattern → List (List ℕ)
pattern_words p = codes "|" ∷ pred_text p.pred ∷ (map term_text p.args ++ (codes "/" ∷ id_words p.except))

-- ---- events

abbrev pub value_text : Value → List ℕ
value_text True = codes "T"
value_text MustBe = codes "M"
value_text False = codes "F"

-- a decision makes its body true or false
abbrev pub decision_text : Bool → List ℕ
decision_text true = codes "T"
decision_text false = codes "F"

-- an event: what happened, to which id, and what is said of it
abbrev pub event_words : Event → List (List ℕ)
event_words (event.Term id n) = codes "term" ∷ decimal id ∷ node_words n
event_words (event.Atom id p args) = codes "atom" ∷ decimal id ∷ pred_text p ∷ id_words args
event_words (event.Body id inst) = codes "body" ∷ decimal id ∷ decimal inst ∷ []
event_words (event.Numbered atom number) = codes "number" ∷ decimal atom ∷ decimal number ∷ []
event_words (event.Made inst m) = codes "made" ∷ decimal inst ∷ maker_words m
event_words (event.Put atom value by) = codes "put" ∷ decimal atom ∷ value_text value ∷ decimal by ∷ []
event_words (event.Chosen body up) = codes "choose" ∷ decimal body ∷ decision_text up ∷ []
event_words (event.Closed atom) = codes "close" ∷ decimal atom ∷ []
event_words (event.Struck nogood) = codes "struck" ∷ decimal nogood ∷ []
event_words (event.Kept nogood) = codes "kept" ∷ decimal nogood ∷ []
event_words (event.Learned nogood how lits cover) =
    codes "learned" ∷ decimal nogood ∷ how_text how ∷ (map lit_text lits ++ concat (map pattern_words cover))
event_words (event.Back level) = codes "back" ∷ decimal level ∷ []
event_words (event.Wide atom count) = codes "wide" ∷ decimal atom ∷ decimal count ∷ []
event_words (event.Shown atoms) = codes "shown" ∷ id_words atoms
event_words (event.Passed atoms) = codes "passed" ∷ id_words atoms

-- the line of an event
abbrev pub event_line : Event → List ℕ
event_line e = spaced (event_words e) ++ codes "\n"
