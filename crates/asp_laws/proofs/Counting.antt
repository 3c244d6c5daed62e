-- `n(0). n(X+1) :- n(X), X < 3.` counts to 3.
use Rattle.std.proofs.Common.{◌≡◌, inl, inr, refl, sym, ap, subst, ◌∙◌, ℤ, pos, ◌+ℤ◌, true, false, not, List, [], ◌∷◌, Some, codes}
use Rattle.std.specs.declared.cmp.Ordering.TheVariants.{Less}
use Rattle.std.specs.Ordering.{int_cmp}
use Rattle.std.proofs.lemmas.Option.{same_Some}
use Rattle.alpha_outside.specs.declared.kinds.ArithOp.TheVariants.{Add}
use Rattle.lists.specs.Lists.{◌∈◌, HasNoRepeats, Each}
use Rattle.lists.proofs.ListLemmas.{SameSet-refl, SameSet-sym}
use Rattle.asp_syntax.specs.declared.tree.CompareOp.TheVariants as op
use Rattle.asp_syntax.specs.declared.tree.Statement.{Statement}
use Rattle.asp_syntax.specs.declared.tree.Term.{Term}
use Rattle.asp_syntax.specs.declared.tree.Term.TheVariants as term
use Rattle.asp_meaning.specs.declared.value.Value.{Value}
use Rattle.asp_meaning.specs.declared.value.Value.TheVariants as value
use Rattle.asp_meaning.specs.Terms.{named, Substitution, all_of, operation, eval}
use Rattle.asp_meaning.specs.Orders.{value_cmp, passes}
use Rattle.asp_meaning.specs.Atoms.{Atom, Becomes, strong_negation}
use Rattle.asp_meaning.specs.Bodies.{weight}
use Rattle.asp_meaning.specs.Programs.{BodyHolds, HeadIsMet, LicensesFrom, IsFoundedList, IsAnswerSet}
use Rattle.asp_laws.specs.Words.{IsPositive}
use Rattle.asp_laws.specs.Examples.{n_of, number, start, step}
use Rattle.asp_laws.specs.Laws.{CountingStops}
use Rattle.asp_laws.proofs.Arithmetic.{eval-Int, eval-Arith, weight-Int}
use Rattle.asp_laws.proofs.Weights.{eval-Variable, eval_one}
use Rattle.asp_meaning.proofs.ValueOrder.{cmp-Int}
use Rattle.asp_meaning.proofs.AtomOrder.{atom_from_parts}
use Rattle.asp_laws.proofs.Foundations.{a_positive_program_has_at_most_one}
use Rattle.asp_laws.proofs.Moves.{order_of_atoms}

abbrev x : Term
x = term.Variable (codes "X")

one_value : (u v : Value) → Some (u ∷ []) ≡ Some (v ∷ []) → u ≡ v
one_value u v e = cc

-- ---- what an instance of the second rule says

-- where n(X) is n(k), X is k
variable_is : (s : Substitution) (k : ℤ) (a : Atom) → Becomes s (n_of x) a → a ≡ number k → s (named (codes "X")) ≡ value.Int k
variable_is s k a b e =
    one_value (s (named (codes "X"))) (value.Int k) (sym (eval_one s (codes "X")) ∙ b.2 ∙ ap (λ (y : Atom). Some y.args) e)

next_value : (s : Substitution) (k : ℤ) → s (named (codes "X")) ≡ value.Int k → eval s (term.Arith Add x (term.Int (pos 1))) ≡ Some (value.Int (k +ℤ pos 1))
next_value s k e =
    let left : eval s x ≡ Some (value.Int k) = eval-Variable s (codes "X") ∙ ap (λ v. Some v) e in
    eval-Arith s Add x (term.Int (pos 1)) ∙ (λ i. operation Add (left i) (eval-Int s (pos 1) i))

-- then the head is n(k+1)
next_is : (s : Substitution) (k : ℤ) (b : Atom) → s (named (codes "X")) ≡ value.Int k → Becomes s (n_of (term.Arith Add x (term.Int (pos 1)))) b → b ≡ number (k +ℤ pos 1)
next_is s k b e c =
    let same : Some (value.Int (k +ℤ pos 1) ∷ []) ≡ Some b.args = (λ i. all_of (sym (next_value s k e) i ∷ [])) ∙ c.2 in
    let args : value.Int (k +ℤ pos 1) ∷ [] ≡ b.args = cc in
    atom_from_parts b (number (k +ℤ pos 1)) c.0 c.1 (sym args)

-- and the test says that k is below 3
is_below : (s : Substitution) (k : ℤ) (u v : Value) → s (named (codes "X")) ≡ value.Int k → eval s x ≡ Some u → eval s (term.Int (pos 3)) ≡ Some v
    → passes op.Less (value_cmp u v) ≡ true → passes op.Less (int_cmp k (pos 3)) ≡ true
is_below s k u v e f g h =
    let left : u ≡ value.Int k = same_Some u (value.Int k) (sym f ∙ eval-Variable s (codes "X") ∙ ap (λ w. Some w) e) in
    let right : v ≡ value.Int (pos 3) = same_Some v (value.Int (pos 3)) (sym g ∙ eval-Int s (pos 3)) in
    ap (passes op.Less) (sym (cmp-Int k (pos 3))) ∙ (λ i. passes op.Less (value_cmp (sym left i) (sym right i))) ∙ h

-- ---- the answer set

abbrev counted : List Atom
counted = number (pos 3) ∷ number (pos 2) ∷ number (pos 1) ∷ number (pos 0) ∷ []

other_number : (j k : ℤ) → ¬ (j ≡ k) → ¬ (number j ≡ number k)
other_number j k other e =
    let args : value.Int j ∷ [] ≡ value.Int k ∷ [] = ap (λ (a : Atom). a.args) e in
    other (sym (weight-Int j []) ∙ ap weight args ∙ weight-Int k [])

once : HasNoRepeats counted
once = (
  out3,
  (
    (λ k. elim k [ inl e ↦ other_number (pos 2) (pos 1) (λ f. cc) e | inr j ↦ elim j [ inl e ↦ other_number (pos 2) (pos 0) (λ f. cc) e | inr none ↦ none ] ]),
    ((λ k. elim k [ inl e ↦ other_number (pos 1) (pos 0) (λ f. cc) e | inr none ↦ none ]), ((λ k. k), tt)),
  ),
)
  where
    out3 : ¬ (number (pos 3) ∈ (number (pos 2) ∷ number (pos 1) ∷ number (pos 0) ∷ []))
    out3 (inl e) = other_number (pos 3) (pos 2) (λ f. cc) e
    out3 (inr (inl e)) = other_number (pos 3) (pos 1) (λ f. cc) e
    out3 (inr (inr (inl e))) = other_number (pos 3) (pos 0) (λ f. cc) e
    out3 (inr (inr (inr k))) = k

positive_sign : (a : Atom) → a ∈ counted → a.negated ≡ false
positive_sign a (inl e) = ap (λ (y : Atom). y.negated) e
positive_sign a (inr (inl e)) = ap (λ (y : Atom). y.negated) e
positive_sign a (inr (inr (inl e))) = ap (λ (y : Atom). y.negated) e
positive_sign a (inr (inr (inr (inl e)))) = ap (λ (y : Atom). y.negated) e
positive_sign a (inr (inr (inr (inr k)))) = absurd k

consistent : (a : Atom) → a ∈ counted → ¬ (strong_negation a ∈ counted)
consistent a k n =
    let p : a.negated ≡ false = positive_sign a k in
    let q : not a.negated ≡ false = positive_sign (strong_negation a) n in
    let r : not a.negated ≡ true = ap not p in
    (cc)

step_met : (s : Substitution) → BodyHolds step s counted → HeadIsMet step s counted step.head
step_met s body b head = go body.0.2
  where
    at : (k : ℤ) → body.0.0 ≡ number k → b ≡ number (k +ℤ pos 1)
    at k e = next_is s k b (variable_is s k body.0.0 body.0.1 e) head

    go : body.0.0 ∈ counted → b ∈ counted
    go (inl e) = let below = is_below s (pos 3) body.1.0.0 body.1.0.1 (variable_is s (pos 3) body.0.0 body.0.1 e) body.1.0.2 body.1.0.3 body.1.0.4 in let bad : false ≡ true = below in absurd (cc)
    go (inr (inl e)) = inl (at (pos 2) e)
    go (inr (inr (inl e))) = inr (inl (at (pos 1) e))
    go (inr (inr (inr (inl e)))) = inr (inr (inl (at (pos 0) e)))
    go (inr (inr (inr (inr k)))) = absurd k

start_is : (s : Substitution) (b : Atom) → Becomes s (n_of (term.Int (pos 0))) b → b ≡ number (pos 0)
start_is s b c =
    let same : Some (value.Int (pos 0) ∷ []) ≡ Some b.args = (λ i. all_of (sym (eval-Int s (pos 0)) i ∷ [])) ∙ c.2 in
    let args : value.Int (pos 0) ∷ [] ≡ b.args = cc in
    atom_from_parts b (number (pos 0)) c.0 c.1 (sym args)

-- X is k, as is every other variable
abbrev all_are : ℤ → Substitution
all_are k v = value.Int k

n_becomes : (k : ℤ) → Becomes (all_are k) (n_of x) (number k)
n_becomes k = (refl, refl, eval_one (all_are k) (codes "X"))

step_licenses : (k : ℤ) (I earlier : List Atom) → number k ∈ I → number k ∈ earlier → int_cmp k (pos 3) ≡ Less → LicensesFrom step (all_are k) (number (k +ℤ pos 1)) I earlier
step_licenses k I earlier among before less = record {
  instance = ((value.Int (k +ℤ pos 1), next_value (all_are k) k refl), ((value.Int k, eval-Variable (all_are k) (codes "X")), ((value.Int k, eval-Variable (all_are k) (codes "X")), ((value.Int (pos 3), eval-Int (all_are k) (pos 3)), tt))));
  body = ((number k, n_becomes k, among), ((value.Int k, value.Int (pos 3), eval-Variable (all_are k) (codes "X"), eval-Int (all_are k) (pos 3), ap (passes op.Less) (cmp-Int k (pos 3) ∙ less)), tt));
  head = (refl, refl, (λ i. all_of (next_value (all_are k) k refl i ∷ [])));
  rests = ((number k, n_becomes k, before), (tt, tt));
}

start_licenses : (I : List Atom) → LicensesFrom start (all_are (pos 0)) (number (pos 0)) I []
start_licenses I = record {
  instance = ((value.Int (pos 0), eval-Int (all_are (pos 0)) (pos 0)), tt);
  body = tt;
  head = (refl, refl, (λ i. all_of (eval-Int (all_are (pos 0)) (pos 0) i ∷ [])));
  rests = tt;
}

founded : IsFoundedList (start ∷ step ∷ []) counted counted
founded = (
  inr (inl (all_are (pos 2), step_licenses (pos 2) counted _ (inr (inl refl)) (inl refl) refl)),
  (
    inr (inl (all_are (pos 1), step_licenses (pos 1) counted _ (inr (inr (inl refl))) (inl refl) refl)),
    (inr (inl (all_are (pos 0), step_licenses (pos 0) counted _ (inr (inr (inr (inl refl)))) (inl refl) refl)), (inl (all_are (pos 0), start_licenses counted), tt)),
  ),
)

counted_answers : IsAnswerSet (start ∷ step ∷ []) counted
counted_answers = record {
  set = once;
  closed = record { met = λ r k s i. met r s k; consistent = consistent };
  founded = record { order = counted; once = once; same = SameSet-refl counted; founded = founded };
}
  where
    met : (r : Statement) (s : Substitution) → r ∈ (start ∷ step ∷ []) → BodyHolds r s counted → HeadIsMet r s counted r.head
    met r s (inl e) = subst (λ (q : Statement). BodyHolds q s counted → HeadIsMet q s counted q.head) (sym e) (λ body b head. inr (inr (inr (inl (start_is s b head)))))
    met r s (inr (inl e)) = subst (λ (q : Statement). BodyHolds q s counted → HeadIsMet q s counted q.head) (sym e) (step_met s)
    met r s (inr (inr k)) = absurd k

pub counting_stops : CountingStops
counting_stops I set = (
  λ h. a_positive_program_has_at_most_one (start ∷ step ∷ []) I counted positive h counted_answers,
  λ same. order_of_atoms (start ∷ step ∷ []) counted I set (SameSet-sym I counted same) counted_answers,
)
  where
    positive : Each IsPositive (start ∷ step ∷ [])
    positive = (record { head = tt; body = tt }, (record { head = tt; body = (tt, (tt, tt)) }, tt))
