-- The test of predicates is equality.
use Rattle.std.proofs.Common.{◌≡◌, ℕ, Bool, true, false, ◌&&◌, nat_eq, List, refl, sym, ap, ◌∙◌, true≢false}
use mathlib.Core.Bool.{beq as bool_eq}
use Rattle.std.specs.Bool.{Decides}
use Rattle.std.proofs.lemmas.Bool.Decides.{Decides-eqb}
use Rattle.std.specs.Cmp.{IsEquivalence, both_ways}
use Rattle.std.specs.Cmp.Lexicographic.{pointwise, pointwise_decides}
use Rattle.asp_strata.specs.declared.predicate.Predicate.{Predicate}
use Rattle.asp_strata.specs.Predicates.{predicate_eq}

bytes : (xs ys : List ℕ) → Decides (pointwise nat_eq xs ys) (xs ≡ ys)
bytes = pointwise_decides Decides-eqb

flags : (x y : Bool) → bool_eq x y ≡ true → x ≡ y
flags true true e = refl
flags true false e = sym e
flags false true e = e
flags false false e = refl

flag_itself : (x : Bool) → bool_eq x x ≡ true
flag_itself true = refl
flag_itself false = refl

both : (a b : Bool) → a ≡ true → b ≡ true → a && b ≡ true
both a b p q = ap (λ x. x && b) p ∙ q

left : (a b : Bool) → a && b ≡ true → a ≡ true
left true b e = refl
left false b e = e

right : (a b : Bool) → a && b ≡ true → b ≡ true
right true b e = e
right false b e = absurd (true≢false (sym e))

-- predicates that pass the test are the same
pub predicate_same : (p q : Predicate) → predicate_eq p q ≡ true → p ≡ q
predicate_same p q e =
    let front = left (bool_eq p.negated q.negated && nat_eq p.arity q.arity) (pointwise nat_eq p.name q.name) e in
    let signs : p.negated ≡ q.negated = flags p.negated q.negated (left (bool_eq p.negated q.negated) (nat_eq p.arity q.arity) front) in
    let arities : p.arity ≡ q.arity = (Decides-eqb p.arity q.arity).0 (right (bool_eq p.negated q.negated) (nat_eq p.arity q.arity) front) in
    let names : p.name ≡ q.name = (bytes p.name q.name).0 (right (bool_eq p.negated q.negated && nat_eq p.arity q.arity) (pointwise nat_eq p.name q.name) e) in
    λ i. record { negated = signs i; name = names i; arity = arities i }

pub predicate_itself : (p : Predicate) → predicate_eq p p ≡ true
predicate_itself p =
    both (bool_eq p.negated p.negated && nat_eq p.arity p.arity) (pointwise nat_eq p.name p.name)
    (both (bool_eq p.negated p.negated) (nat_eq p.arity p.arity) (flag_itself p.negated) ((Decides-eqb p.arity p.arity).1 refl))
    ((bytes p.name p.name).1 refl)

pub predicate_equal : (p q : Predicate) → p ≡ q → predicate_eq p q ≡ true
predicate_equal p q e = ap (predicate_eq p) (sym e) ∙ predicate_itself p

pub predicate_equivalence : IsEquivalence predicate_eq
predicate_equivalence = record {
  refl = predicate_itself;
  symm = λ p q. both_ways (predicate_eq p q) (predicate_eq q p) (λ e. predicate_equal q p (sym (predicate_same p q e))) (λ e. predicate_equal p q (sym (predicate_same q p e)));
  congr = λ p q r e. ap (λ x. predicate_eq x r) (predicate_same p q e);
}
