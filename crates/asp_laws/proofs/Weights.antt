-- Which tuples a sum has.
use Rattle.std.proofs.Common.{◌≡◌, ◌⊎◌, inl, inr, refl, sym, ap, ◌∙◌, ℕ, ◌==◌, cond, ℤ, pos, negsuc, ◌+ℤ◌, List, [], ◌∷◌, Option, Some, codes, false, arith}
use Rattle.std.proofs.lemmas.Option.{same_Some}
use Rattle.lists.specs.Lists.{◌∈◌, AtLeastOne}
use Rattle.asp_syntax.specs.declared.tree.Guard.{Guard}
use Rattle.asp_syntax.specs.declared.tree.Literal.{Literal}
use Rattle.asp_syntax.specs.declared.tree.Literal.TheVariants as literal
use Rattle.asp_syntax.specs.declared.tree.Term.TheOpen as layer
use Rattle.asp_syntax.specs.declared.tree.Term.TheVariants as term
use Rattle.asp_syntax.specs.declared.tree.Term.TheFolds.{fold-roll-Term}
use Rattle.asp_meaning.specs.declared.value.Value.{Value}
use Rattle.asp_meaning.specs.declared.value.Value.TheVariants as value
use Rattle.asp_meaning.specs.Terms.{named, anonymous, Substitution, all_of, eval, eval_step, eval_all}
use Rattle.asp_meaning.specs.Atoms.{Atom}
use Rattle.asp_meaning.specs.Bodies.{LiteralHolds, Gives, weight}
use Rattle.asp_laws.proofs.Arithmetic.{Symbol-one, weight-Int}
use Rattle.asp_laws.specs.Examples.{weighs, weights, sum_over, weight_alone, weight_and_name}
use Rattle.asp_laws.specs.Laws.{EqualTuplesCountOnce, OtherTuplesCountEach}

pub eval-Variable : (s : Substitution) (x : List ℕ) → eval s (term.Variable x) ≡ Some (s (named x))
eval-Variable s x = ap (eval s) (sym (term.rolls-Variable x)) ∙ fold-roll-Term (Option Value) (eval_step s) (layer.Variable x)

pub eval_one : (s : Substitution) (x : List ℕ) → eval_all s (term.Variable x ∷ []) ≡ Some (s (named x) ∷ [])
eval_one s x = λ i. all_of (eval-Variable s x i ∷ [])

eval_two : (s : Substitution) (x y : List ℕ) → eval_all s (term.Variable x ∷ term.Variable y ∷ []) ≡ Some (s (named x) ∷ s (named y) ∷ [])
eval_two s x y = λ i. all_of (eval-Variable s x i ∷ eval-Variable s y i ∷ [])

-- W is n, and every other variable is x
abbrev weighing : ℤ → List ℕ → Substitution
weighing n x (named []) = value.Symbol x
weighing n x (named (c ∷ cs)) = cond (c == 87) (value.Int n) (value.Symbol x)
weighing n x (anonymous k) = value.Symbol x

-- w(W,I)
abbrev w : Literal
w = literal.Positive (record { negated = false; name = codes "w"; args = term.Variable (codes "W") ∷ term.Variable (codes "I") ∷ [] })

w_holds : (n : ℤ) (x : List ℕ) → weighs n x ∈ weights → LiteralHolds (weighing n x) weights w
w_holds n x among = (weighs n x, (refl, refl, eval_two (weighing n x) (codes "W") (codes "I")), among)

-- W and I are these
abbrev Reads : Substitution → ℤ → List ℕ → Type 0
Reads t n x = (t (named (codes "W")) ≡ value.Int n) × (t (named (codes "I")) ≡ value.Symbol x)

parts : (x y u v : Value) → Some (x ∷ y ∷ []) ≡ Some (u ∷ v ∷ []) → (x ≡ u) × (y ≡ v)
parts x y u v e = (cc, cc)

w_reads : (t : Substitution) → LiteralHolds t weights w → Reads t (pos 3) (codes "a") ⊎ Reads t (pos 3) (codes "b") ⊎ Reads t (negsuc 1) (codes "c")
w_reads t h = go h.2
  where
    at : (n : ℤ) (x : List ℕ) → h.0 ≡ weighs n x → Reads t n x
    at n x e =
        parts (t (named (codes "W"))) (t (named (codes "I"))) (value.Int n) (value.Symbol x)
        (sym (eval_two t (codes "W") (codes "I")) ∙ h.1.2 ∙ ap (λ (a : Atom). Some a.args) e)

    go : h.0 ∈ weights → Reads t (pos 3) (codes "a") ⊎ Reads t (pos 3) (codes "b") ⊎ Reads t (negsuc 1) (codes "c")
    go (inl e) = inl (at (pos 3) (codes "a") e)
    go (inr (inl e)) = inr (inl (at (pos 3) (codes "b") e))
    go (inr (inr (inl e))) = inr (inr (at (negsuc 1) (codes "c") e))
    go (inr (inr (inr k))) = absurd k

three_is_not_minus_two : (xs ys : List Value) → ¬ (value.Int (pos 3) ∷ xs ≡ value.Int (negsuc 1) ∷ ys)
three_is_not_minus_two xs ys e = let f : pos 3 ≡ negsuc 1 = sym (weight-Int (pos 3) xs) ∙ ap weight e ∙ weight-Int (negsuc 1) ys in cc

-- ---- #sum{W : w(W,I)}

abbrev alone : List (List Value)
alone = (value.Int (pos 3) ∷ []) ∷ (value.Int (negsuc 1) ∷ []) ∷ []

alone_given : (s : Substitution) (left right : Option Guard) (n : ℤ) (x : List ℕ) → weighs n x ∈ weights → (tuple : List Value) → tuple ≡ value.Int n ∷ []
    → AtLeastOne (Gives [] s weights tuple) (sum_over weight_alone left right).elements
alone_given s left right n x among tuple e = inl (weighing n x, tt, eval_one (weighing n x) (codes "W") ∙ ap (λ (v : List Value). Some v) (sym e), (w_holds n x among, tt))

other_weight : ¬ (value.Int (pos 3) ∷ [] ≡ value.Int (negsuc 1) ∷ [])
other_weight e = three_is_not_minus_two [] [] e

pub equal_tuples : EqualTuplesCountOnce
equal_tuples s left right = (
  record {
    once = ((λ k. elim k [ inl e ↦ other_weight e | inr none ↦ none ]), ((λ k. k), tt));
    given = given;
    all_given = λ tuple some. elim some [ inl gives ↦ back tuple gives.0 gives.2 (w_reads gives.0 gives.3.0) | inr none ↦ absurd none ];
  },
  (λ i. weight-Int (pos 3) [] i +ℤ (weight-Int (negsuc 1) [] i +ℤ pos 0)),
)
  where
    given : (tuple : List Value) → tuple ∈ alone → AtLeastOne (Gives [] s weights tuple) (sum_over weight_alone left right).elements
    given tuple (inl e) = alone_given s left right (pos 3) (codes "a") (inl refl) tuple e
    given tuple (inr (inl e)) = alone_given s left right (negsuc 1) (codes "c") (inr (inr (inl refl))) tuple e
    given tuple (inr (inr k)) = absurd k

    is : (tuple : List Value) (t : Substitution) (n : ℤ) → eval_all t weight_alone ≡ Some tuple → t (named (codes "W")) ≡ value.Int n → tuple ≡ value.Int n ∷ []
    is tuple t n e f = same_Some tuple (value.Int n ∷ []) (sym e ∙ eval_one t (codes "W") ∙ (λ i. Some (f i ∷ [])))

    back : (tuple : List Value) (t : Substitution) → eval_all t weight_alone ≡ Some tuple
        → Reads t (pos 3) (codes "a") ⊎ Reads t (pos 3) (codes "b") ⊎ Reads t (negsuc 1) (codes "c") → tuple ∈ alone
    back tuple t e (inl r) = inl (is tuple t (pos 3) e r.0)
    back tuple t e (inr (inl r)) = inl (is tuple t (pos 3) e r.0)
    back tuple t e (inr (inr r)) = inr (inl (is tuple t (negsuc 1) e r.0))

-- ---- #sum{W,I : w(W,I)}

abbrev pair : ℤ → List ℕ → List Value
pair n x = value.Int n ∷ value.Symbol x ∷ []

abbrev pairs : List (List Value)
pairs = pair (pos 3) (codes "a") ∷ pair (pos 3) (codes "b") ∷ pair (negsuc 1) (codes "c") ∷ []

pair_given : (s : Substitution) (left right : Option Guard) (n : ℤ) (x : List ℕ) → weighs n x ∈ weights → (tuple : List Value) → tuple ≡ pair n x
    → AtLeastOne (Gives [] s weights tuple) (sum_over weight_and_name left right).elements
pair_given s left right n x among tuple e =
    inl (weighing n x, tt, eval_two (weighing n x) (codes "W") (codes "I") ∙ ap (λ (v : List Value). Some v) (sym e), (w_holds n x among, tt))

other_pair : (x y : List ℕ) → ¬ (pair (pos 3) x ≡ pair (negsuc 1) y)
other_pair x y e = three_is_not_minus_two (value.Symbol x ∷ []) (value.Symbol y ∷ []) e

one_byte : (x y : ℕ) → x ∷ [] ≡ y ∷ [] → x ≡ y
one_byte x y e = cc

other_name : ¬ (pair (pos 3) (codes "a") ≡ pair (pos 3) (codes "b"))
other_name e =
    let f : value.Symbol (codes "a") ≡ value.Symbol (codes "b") = (parts _ _ _ _ (ap (λ (v : List Value). Some v) e)).1 in
    let g : codes "a" ≡ codes "b" = Symbol-one (codes "a") (codes "b") f in
    absurd (omega (arith, one_byte 97 98 g))

pub other_tuples : OtherTuplesCountEach
other_tuples s left right = (
  record {
    once = (
      (λ k. elim k [ inl e ↦ other_name e | inr j ↦ elim j [ inl e ↦ other_pair (codes "a") (codes "c") e | inr none ↦ none ] ]),
      ((λ k. elim k [ inl e ↦ other_pair (codes "b") (codes "c") e | inr none ↦ none ]), ((λ k. k), tt)),
    );
    given = given;
    all_given = λ tuple some. elim some [ inl gives ↦ back tuple gives.0 gives.2 (w_reads gives.0 gives.3.0) | inr none ↦ absurd none ];
  },
  (λ i. weight-Int (pos 3) (value.Symbol (codes "a") ∷ []) i
      +ℤ (weight-Int (pos 3) (value.Symbol (codes "b") ∷ []) i +ℤ (weight-Int (negsuc 1) (value.Symbol (codes "c") ∷ []) i +ℤ pos 0))),
)
  where
    given : (tuple : List Value) → tuple ∈ pairs → AtLeastOne (Gives [] s weights tuple) (sum_over weight_and_name left right).elements
    given tuple (inl e) = pair_given s left right (pos 3) (codes "a") (inl refl) tuple e
    given tuple (inr (inl e)) = pair_given s left right (pos 3) (codes "b") (inr (inl refl)) tuple e
    given tuple (inr (inr (inl e))) = pair_given s left right (negsuc 1) (codes "c") (inr (inr (inl refl))) tuple e
    given tuple (inr (inr (inr k))) = absurd k

    is : (tuple : List Value) (t : Substitution) (n : ℤ) (x : List ℕ) → eval_all t weight_and_name ≡ Some tuple → Reads t n x → tuple ≡ pair n x
    is tuple t n x e f = same_Some tuple (pair n x) (sym e ∙ eval_two t (codes "W") (codes "I") ∙ (λ i. Some (f.0 i ∷ f.1 i ∷ [])))

    back : (tuple : List Value) (t : Substitution) → eval_all t weight_and_name ≡ Some tuple
        → Reads t (pos 3) (codes "a") ⊎ Reads t (pos 3) (codes "b") ⊎ Reads t (negsuc 1) (codes "c") → tuple ∈ pairs
    back tuple t e (inl r) = inl (is tuple t (pos 3) (codes "a") e r)
    back tuple t e (inr (inl r)) = inr (inl (is tuple t (pos 3) (codes "b") e r))
    back tuple t e (inr (inr r)) = inr (inr (inl (is tuple t (negsuc 1) (codes "c") e r)))
