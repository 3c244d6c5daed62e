-- Walks over occurrences of variables, part by part.
use Rattle.std.proofs.Common.{◌≡◌, ◌⊎◌, ◌↔◌, inl, inr, refl, sym, ap, subst, ◌∙◌, ℕ, List, [], ◌∷◌, ◌++◌, map, Option, Some, None}
use Rattle.lists.specs.Lists.{◌∈◌, Each, concat}
use Rattle.lists.proofs.ListLemmas.{Each-at, Each-append, ∈-append_right}
use Rattle.asp_syntax.specs.declared.tree.Literal.{Literal}
use Rattle.asp_syntax.specs.declared.tree.Statement.{Statement}
use Rattle.asp_meaning.specs.Terms.{Variable}
use Rattle.asp_safety.specs.Keys.{spelled}
use Rattle.asp_safety.specs.Binding.{Occurrence, occur, IsBound, IsBoundAt, IsBoundThere, IsSafe, occurrences}
use Rattle.asp_strata.specs.Firsts.{IsFirstBad}
use Rattle.asp_safety.specs.Firsts.{FirstUnbound, FirstUnsafe}
use Rattle.asp_strata.proofs.FirstBad.{first_left, first_right, first_here, first_later}
use Rattle.asp_safety.specs.Walks.{Misses, Finds}

-- ---- what is missing

pub misses_here : (given bound : List Variable) (v : Variable) (vs : List Variable) (name : List ℕ) → ¬ ((v ∈ given) ⊎ (v ∈ bound)) → name ≡ spelled v → Misses given bound (v ∷ vs) (Some name)
misses_here given bound v vs name bad e = (v, first_here (λ w. (w ∈ given) ⊎ (w ∈ bound)) v vs bad, e)

pub misses_on : (given bound : List Variable) (v : Variable) (vs : List Variable) → (v ∈ given) ⊎ (v ∈ bound) → (o : Option (List ℕ)) → Misses given bound vs o → Misses given bound (v ∷ vs) o
misses_on given bound v vs good None h = (good, h)
misses_on given bound v vs good (Some name) h = (h.0, first_later (λ w. (w ∈ given) ⊎ (w ∈ bound)) v h.0 vs good h.1, h.2)

-- ---- what is found

occur-append : (within : Option (List Literal)) (xs ys : List Variable) → occur within (xs ++ ys) ≡ occur within xs ++ occur within ys
occur-append within [] ys = refl
occur-append within (x ∷ xs) ys = ap (λ zs. record { within = within; variable = x } ∷ zs) (occur-append within xs ys)

module _ (s : Statement) (within : Option (List Literal)) (given bound : List Variable) (are : (v : Variable) → ((v ∈ given) ⊎ (v ∈ bound)) ↔ IsBoundAt s within v) where
  all_good : (vs : List Variable) → Each (λ v. (v ∈ given) ⊎ (v ∈ bound)) vs → Each (IsBoundThere s) (occur within vs)
  all_good [] h = tt
  all_good (v ∷ vs) h = ((are v).0 h.0, all_good vs h.1)

  pub found : (vs : List Variable) (o : Option (List ℕ)) → Misses given bound vs o → Finds s (occur within vs) o
  found vs None h = all_good vs h
  found vs (Some name) (v, first, e) = (
    record { within = within; variable = v },
    record {
      front = occur within first.front;
      back = occur within first.back;
      stands = ap (occur within) first.stands ∙ occur-append within first.front (v ∷ first.back);
      good = all_good first.front first.good;
      bad = λ b. first.bad ((are v).1 b);
    },
    e,
  )

pub twice : (s : Statement) (bound : List Variable) → ((v : Variable) → (v ∈ bound) ↔ IsBound s v) → (v : Variable) → ((v ∈ bound) ⊎ (v ∈ bound)) ↔ IsBound s v
twice s bound are v = (λ k. elim k [ inl k ↦ (are v).0 k | inr k ↦ (are v).0 k ], λ b. inl ((are v).1 b))

pub finds_left : (s : Statement) (xs ys : List Occurrence) (name : List ℕ) → Finds s xs (Some name) → Finds s (xs ++ ys) (Some name)
finds_left s xs ys name (o, first, e) = (o, first_left (IsBoundThere s) xs ys o first, e)

pub finds_right : (s : Statement) (xs ys : List Occurrence) (o : Option (List ℕ)) → Finds s xs None → Finds s ys o → Finds s (xs ++ ys) o
finds_right s xs ys None good h = Each-append (IsBoundThere s) xs ys good h
finds_right s xs ys (Some name) good (o, first, e) = (o, first_right (IsBoundThere s) xs ys o good first, e)

-- a walk over what is left of a list answers for the whole
abbrev pub Answers : {A : Type 0} → Statement → (A → List Occurrence) → List A → List A → Type 0
Answers s f left whole = (o : Option (List ℕ)) → Finds s (concat (map f left)) o → Finds s (concat (map f whole)) o

pub answers_some : {A : Type 0} (s : Statement) (f : A → List Occurrence) (xs left whole : List A) (x : A) (name : List ℕ) → left ≡ x ∷ xs → Answers s f left whole
    → Finds s (f x) (Some name) → Finds s (concat (map f whole)) (Some name)
answers_some s f xs left whole x name e h here = h (Some name) (subst (λ ys. Finds s (concat (map f ys)) (Some name)) (sym e) (finds_left s (f x) (concat (map f xs)) name here))

pub answers_on : {A : Type 0} (s : Statement) (f : A → List Occurrence) (xs left whole : List A) (x : A) → left ≡ x ∷ xs → Answers s f left whole
    → Finds s (f x) None → Answers s f xs whole
answers_on s f xs left whole x e h here o k = h o (subst (λ ys. Finds s (concat (map f ys)) o) (sym e) (finds_right s (f x) (concat (map f xs)) o here k))

pub answers_none : {A : Type 0} (s : Statement) (f : A → List Occurrence) (left whole : List A) → left ≡ [] → Answers s f left whole → Finds s (concat (map f whole)) None
answers_none s f left whole e h = h None (subst (λ ys. Finds s (concat (map f ys)) None) (sym e) tt)

-- ---- unsafe statements

pub not_each : {A : Type 0} (Good : A → Type 0) (xs : List A) (x : A) → IsFirstBad Good xs x → ¬ Each Good xs
not_each Good xs x f all = f.bad (Each-at Good xs x all (subst (λ ys. x ∈ ys) (sym f.stands) (∈-append_right x f.front (x ∷ f.back) (inl refl))))

pub is_unsafe : (s : Statement) (name : List ℕ) → FirstUnbound s name → ¬ IsSafe s
is_unsafe s name (o, first, e) = not_each (IsBoundThere s) (occurrences s) o first

pub unsafe_here : (s : Statement) (xs left whole : List Statement) (line : ℕ) (name : List ℕ) → left ≡ s ∷ xs
    → ((l : ℕ) (n : List ℕ) → FirstUnsafe left l n → FirstUnsafe whole l n) → (¬ IsSafe s) × (line ≡ s.line) × FirstUnbound s name → FirstUnsafe whole line name
unsafe_here s xs left whole line name at h (bad, same, unbound) =
    h line name (subst (λ ys. FirstUnsafe ys line name) (sym at) (s, first_here IsSafe s xs bad, same, unbound))

pub unsafe_on : (s : Statement) (xs left whole : List Statement) → left ≡ s ∷ xs → IsSafe s
    → ((l : ℕ) (n : List ℕ) → FirstUnsafe left l n → FirstUnsafe whole l n) → (l : ℕ) (n : List ℕ) → FirstUnsafe xs l n → FirstUnsafe whole l n
unsafe_on s xs left whole at good h l n u = h l n (subst (λ ys. FirstUnsafe ys l n) (sym at) (u.0, first_later IsSafe s u.0 xs good u.1, u.2, u.3))
