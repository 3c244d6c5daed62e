-- Bodies without aggregates, taken apart.
use Rattle.std.proofs.Common.{◌≡◌, inl, inr, subst, true, List, [], ◌∷◌, map, Some}
use Rattle.lists.specs.Lists.{◌∈◌, Each, concat}
use Rattle.lists.proofs.ListLemmas.{Each-append, ∈-append_left, ∈-append_right}
use Rattle.asp_syntax.specs.declared.tree.Term.{Term}
use Rattle.asp_syntax.specs.declared.tree.Atom as syntax
use Rattle.asp_syntax.specs.declared.tree.Literal.TheVariants as literal
use Rattle.asp_syntax.specs.declared.tree.Item.{Item}
use Rattle.asp_syntax.specs.declared.tree.Item.TheVariants as item
use Rattle.asp_meaning.specs.declared.value.Value.{Value}
use Rattle.asp_meaning.specs.Terms.{Variable, Substitution, eval}
use Rattle.asp_meaning.specs.Orders.{value_cmp, passes}
use Rattle.asp_meaning.specs.Variables.{item_terms}
use Rattle.asp_meaning.specs.Atoms.{Atom}
use Rattle.asp_meaning.specs.Bodies.{ItemHolds}
use Rattle.asp_meaning.specs.Programs.{HasValue, ItemRests}
use Rattle.rewriting.specs.Parts.{IsLiteral, Comparison, positives, negatives, comparisons}
use Rattle.rewriting.proofs.Grounding.{Has, terms-have}

-- the comparison is true
abbrev pub IsTrueOf : Substitution → Comparison → Type 0
IsTrueOf s c = (x : Value) × (y : Value) × (eval s c.left ≡ Some x) × (eval s c.right ≡ Some y) × (passes c.op (value_cmp x y) ≡ true)

-- positive atoms become ones of which In holds, negative ones such of which Out holds, and comparisons are true
pub record Taken (s : Substitution) (In Out : Atom → Type 0) (body : List Item) : Type 0 where
  pub pos : Each (Has s In) (positives body)
  pub neg : Each (Has s Out) (negatives body)
  pub tests : Each (IsTrueOf s) (comparisons body)

-- a body that holds, taken apart
pub body_taken : (vs : List Variable) (s : Substitution) (I : List Atom) (is : List Item) → Each IsLiteral is → Each (ItemHolds vs s I) is → Taken s (λ a. a ∈ I) (λ a. ¬ (a ∈ I)) is
body_taken vs s I [] plain h = record { pos = tt; neg = tt; tests = tt }
body_taken vs s I (item.Plain (literal.Positive p) ∷ is) plain h =
    let rest = body_taken vs s I is plain.1 h.1 in record { pos = (h.0, rest.pos); neg = rest.neg; tests = rest.tests }
body_taken vs s I (item.Plain (literal.Negative p) ∷ is) plain h =
    let rest = body_taken vs s I is plain.1 h.1 in record { pos = rest.pos; neg = (h.0, rest.neg); tests = rest.tests }
body_taken vs s I (item.Plain (literal.Compare op l r) ∷ is) plain h =
    let rest = body_taken vs s I is plain.1 h.1 in record { pos = rest.pos; neg = rest.neg; tests = (h.0, rest.tests) }
body_taken vs s I (item.Aggregate denied g ∷ is) plain h = absurd plain.0

-- where it is so, the body holds
pub body_given : (vs : List Variable) (s : Substitution) (I : List Atom) (is : List Item) → Each IsLiteral is → Taken s (λ a. a ∈ I) (λ a. ¬ (a ∈ I)) is → Each (ItemHolds vs s I) is
body_given vs s I [] plain h = tt
body_given vs s I (item.Plain (literal.Positive p) ∷ is) plain h =
    (h.pos.0, body_given vs s I is plain.1 (record { pos = h.pos.1; neg = h.neg; tests = h.tests }))
body_given vs s I (item.Plain (literal.Negative p) ∷ is) plain h =
    (h.neg.0, body_given vs s I is plain.1 (record { pos = h.pos; neg = h.neg.1; tests = h.tests }))
body_given vs s I (item.Plain (literal.Compare op l r) ∷ is) plain h =
    (h.tests.0, body_given vs s I is plain.1 (record { pos = h.pos; neg = h.neg; tests = h.tests.1 }))
body_given vs s I (item.Aggregate denied g ∷ is) plain h = absurd plain.0

-- a body rests on what its positive atoms become
pub rests_taken : (s : Substitution) (earlier : List Atom) (is : List Item) → Each IsLiteral is → Each (ItemRests s earlier) is → Each (Has s (λ a. a ∈ earlier)) (positives is)
rests_taken s earlier [] plain h = tt
rests_taken s earlier (item.Plain (literal.Positive p) ∷ is) plain h = (h.0, rests_taken s earlier is plain.1 h.1)
rests_taken s earlier (item.Plain (literal.Negative p) ∷ is) plain h = rests_taken s earlier is plain.1 h.1
rests_taken s earlier (item.Plain (literal.Compare op l r) ∷ is) plain h = rests_taken s earlier is plain.1 h.1
rests_taken s earlier (item.Aggregate denied g ∷ is) plain h = absurd plain.0

-- and on nothing else
pub rests_given : (s : Substitution) (earlier : List Atom) (is : List Item) → Each IsLiteral is → Each (Has s (λ a. a ∈ earlier)) (positives is) → Each (ItemRests s earlier) is
rests_given s earlier [] plain h = tt
rests_given s earlier (item.Plain (literal.Positive p) ∷ is) plain h = (h.0, rests_given s earlier is plain.1 h.1)
rests_given s earlier (item.Plain (literal.Negative p) ∷ is) plain h = (tt, rests_given s earlier is plain.1 h)
rests_given s earlier (item.Plain (literal.Compare op l r) ∷ is) plain h = (tt, rests_given s earlier is plain.1 h)
rests_given s earlier (item.Aggregate denied g ∷ is) plain h = absurd plain.0

-- the terms of such a body have values
pub terms_given : (s : Substitution) (In Out : Atom → Type 0) (is : List Item) → Each IsLiteral is → Taken s In Out is → Each (HasValue s) (concat (map item_terms is))
terms_given s In Out [] plain h = tt
terms_given s In Out (item.Plain (literal.Positive p) ∷ is) plain h =
    Each-append (HasValue s) p.args (concat (map item_terms is)) (terms-have s p h.pos.0.0 h.pos.0.1)
    (terms_given s In Out is plain.1 (record { pos = h.pos.1; neg = h.neg; tests = h.tests }))
terms_given s In Out (item.Plain (literal.Negative p) ∷ is) plain h =
    Each-append (HasValue s) p.args (concat (map item_terms is)) (terms-have s p h.neg.0.0 h.neg.0.1)
    (terms_given s In Out is plain.1 (record { pos = h.pos; neg = h.neg.1; tests = h.tests }))
terms_given s In Out (item.Plain (literal.Compare op l r) ∷ is) plain h =
    ((h.tests.0.0, h.tests.0.2), ((h.tests.0.1, h.tests.0.3), terms_given s In Out is plain.1 (record { pos = h.pos; neg = h.neg; tests = h.tests.1 })))
terms_given s In Out (item.Aggregate denied g ∷ is) plain h = absurd plain.0

-- the terms of positive atoms are among those of the body
pub positive_terms : (is : List Item) (p : syntax.Atom) → p ∈ positives is → (t : Term) → t ∈ p.args → t ∈ concat (map item_terms is)
positive_terms [] p among t i = absurd among
positive_terms (item.Plain (literal.Positive q) ∷ is) p (inl e) t i = ∈-append_left t q.args (concat (map item_terms is)) (subst (λ (a : syntax.Atom). t ∈ a.args) e i)
positive_terms (item.Plain (literal.Positive q) ∷ is) p (inr among) t i = ∈-append_right t q.args (concat (map item_terms is)) (positive_terms is p among t i)
positive_terms (item.Plain (literal.Negative q) ∷ is) p among t i = ∈-append_right t q.args (concat (map item_terms is)) (positive_terms is p among t i)
positive_terms (item.Plain (literal.Compare op l r) ∷ is) p among t i = inr (inr (positive_terms is p among t i))
positive_terms (item.Aggregate denied g ∷ is) p among t i =
    ∈-append_right t (item_terms (item.Aggregate denied g)) (concat (map item_terms is)) (positive_terms is p among t i)
