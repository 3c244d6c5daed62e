-- The answers of `check` exclude one another.
use Rattle.std.proofs.Common.{◌≡◌, ◌≢◌, inl, refl, sym, ap, subst, ◌∙◌, ℕ, List, [], ◌∷◌, ◌++◌}
use Rattle.lists.specs.Lists.{◌∈◌, Each}
use Rattle.lists.proofs.ListLemmas.{Each-at, ∈-append_right}
use Rattle.asp_syntax.specs.declared.tree.Statement.{Statement}
use Rattle.asp_safety.specs.declared.fault.SafetyFault.{SafetyFault}
use Rattle.asp_safety.specs.declared.fault.SafetyFault.TheVariants as fault
use Rattle.asp_safety.specs.Keys.{spelled}
use Rattle.asp_safety.specs.Binding.{Occurrence, IsBoundThere, IsSafe, occurrences}
use Rattle.asp_strata.specs.Recursion.{DependsOnHead, HasNoRecursion, element_predicates, written}
use Rattle.asp_strata.specs.Firsts.{IsFirstBad, FirstDependent, FirstRecursive}
use Rattle.asp_safety.specs.Firsts.{FirstUnbound, FirstUnsafe}
use Rattle.asp_safety.specs.Faults.{IsFault, IsAccepted}

module _ {A : Type 0} (Good : A → Type 0) where
  -- a list with a bad member isn't all good
  not_all : (xs : List A) (x : A) → IsFirstBad Good xs x → ¬ Each Good xs
  not_all xs x f each = f.bad (Each-at Good xs x each (subst (λ ys. x ∈ ys) (sym f.stands) (∈-append_right x f.front (x ∷ f.back) (inl refl))))

  same_first : (x y : A) (xs ys us vs : List A) → xs ++ x ∷ us ≡ ys ++ y ∷ vs → Each Good xs → Each Good ys → ¬ Good x → ¬ Good y → x ≡ y
  same_first x y [] [] us vs e g h b c = cc
  same_first x y [] (z ∷ ys) us vs e g h b c = let same : z ≡ x = cc in absurd (b (subst Good same h.0))
  same_first x y (z ∷ xs) [] us vs e g h b c = let same : z ≡ y = cc in absurd (c (subst Good same g.0))
  same_first x y (z ∷ xs) (w ∷ ys) us vs e g h b c = let rest : xs ++ x ∷ us ≡ ys ++ y ∷ vs = cc in same_first x y xs ys us vs rest g.1 h.1 b c

  -- there is one first bad member
  one_first : (xs : List A) (x y : A) → IsFirstBad Good xs x → IsFirstBad Good xs y → x ≡ y
  one_first xs x y f g = same_first x y f.front g.front f.back g.back (sym f.stands ∙ g.stands) f.good g.good f.bad g.bad

one_unbound : (s : Statement) (v w : List ℕ) → FirstUnbound s v → FirstUnbound s w → v ≡ w
one_unbound s v w (o, f, e) (p, g, d) = e ∙ ap (λ (q : Occurrence). spelled q.variable) (one_first (IsBoundThere s) (occurrences s) o p f g) ∙ sym d

one_dependent : (P : List Statement) (s : Statement) (v w : List ℕ) → FirstDependent P s v → FirstDependent P s w → v ≡ w
one_dependent P s v w (p, f, a, e) (q, g, b, d) = e ∙ ap written (one_first (λ r. ¬ DependsOnHead P s r) (element_predicates s) p q f g) ∙ sym d

same_unsafe : (P : List Statement) (l m : ℕ) (v w : List ℕ) → FirstUnsafe P l v → FirstUnsafe P m w → fault.Unsafe l v ≡ fault.Unsafe m w
same_unsafe P l m v w (s, f, e, u) (t, g, d, x) =
    let same : s ≡ t = one_first IsSafe P s t f g in
    let lines : l ≡ m = e ∙ ap (λ (r : Statement). r.line) same ∙ sym d in
    let names : v ≡ w = one_unbound t v w (subst (λ r. FirstUnbound r v) same u) x in
    λ i. fault.Unsafe (lines i) (names i)

same_recursive : (P : List Statement) (l m : ℕ) (v w : List ℕ) → FirstRecursive P l v → FirstRecursive P m w → fault.AggregateRecursive l v ≡ fault.AggregateRecursive m w
same_recursive P l m v w (s, f, e, u) (t, g, d, x) =
    let same : s ≡ t = one_first (HasNoRecursion P) P s t f g in
    let lines : l ≡ m = e ∙ ap (λ (r : Statement). r.line) same ∙ sym d in
    let names : v ≡ w = one_dependent P t v w (subst (λ r. FirstDependent P r v) same u) x in
    λ i. fault.AggregateRecursive (lines i) (names i)

pub one_fault : (P : List Statement) (f g : SafetyFault) → IsFault P f → IsFault P g → f ≢ fault.OutOfMemory → g ≢ fault.OutOfMemory → f ≡ g
one_fault P (fault.Unsafe l v) (fault.Unsafe m w) a b n o = same_unsafe P l m v w a b
one_fault P (fault.Unsafe l v) (fault.AggregateRecursive m w) a b n o = absurd (not_all IsSafe P a.0 a.1 b.0)
one_fault P (fault.Unsafe l v) fault.OutOfMemory a b n o = absurd (o refl)
one_fault P (fault.AggregateRecursive l v) (fault.Unsafe m w) a b n o = absurd (not_all IsSafe P b.0 b.1 a.0)
one_fault P (fault.AggregateRecursive l v) (fault.AggregateRecursive m w) a b n o = same_recursive P l m v w a.1 b.1
one_fault P (fault.AggregateRecursive l v) fault.OutOfMemory a b n o = absurd (o refl)
one_fault P fault.OutOfMemory g a b n o = absurd (n refl)

pub no_fault : (P : List Statement) (f : SafetyFault) → IsAccepted P → IsFault P f → f ≡ fault.OutOfMemory
no_fault P (fault.Unsafe l v) a b = absurd (not_all IsSafe P b.0 b.1 a.0)
no_fault P (fault.AggregateRecursive l v) a b = absurd (not_all (HasNoRecursion P) P b.1.0 b.1.1 a.1)
no_fault P fault.OutOfMemory a b = refl
