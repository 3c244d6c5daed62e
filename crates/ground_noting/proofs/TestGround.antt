-- The ground of the test can be noted.
use Rattle.std.proofs.Common.{◌≡◌, ℕ, zero, suc, ◌<◌, ◌⊎◌, List, [], ◌∷◌, length, refl, sym, ◌∙◌, ap, subst, inl, inr, arith}
use Rattle.std.specs.Prelude.{Some, None, slice_get}
use Rattle.std.proofs.lemmas.List.Elements.{All-nil}
use Rattle.alpha_outside.specs.declared.kinds.RuleKind.TheVariants as rule
use Rattle.alpha_outside.specs.declared.maker.Maker.TheVariants.{Rule}
use Rattle.alpha_outside.specs.declared.node.Node.{Node}
use Rattle.atom_pool.specs.declared.atom.AtomNode.{AtomNode}
use Rattle.atom_pool.specs.declared.atom.AtomNode.TheVariants.{Named, Body}
use Rattle.atom_pool.specs.declared.ground.Ground.{Ground}
use Rattle.atom_pool.specs.declared.instances.Made.{Made}
use Rattle.atom_pool.specs.Meanings.{HasArgumentsBelow}
use Rattle.atom_pool.specs.Pools.{Pool}
use Rattle.ground_noting.specs.Instances.{IsWithin, HasTermsBelow}
use Rattle.ground_noting.specs.Notings.{IsNotable, IsBodyOf}

-- what stands in a list of two
two_cases : {A : Type 0} (xs : List A) (a b : A) → xs ≡ a ∷ b ∷ [] → (i : ℕ) (x : A) → slice_get xs i ≡ Some x
    → ((i ≡ 0) × (x ≡ a)) ⊎ ((i ≡ 1) × (x ≡ b))
two_cases {A} xs a b e i x at = go i (subst (λ (l : List A). slice_get l i ≡ Some x) e at)
  where
    go : (i : ℕ) → slice_get (a ∷ b ∷ []) i ≡ Some x → ((i ≡ 0) × (x ≡ a)) ⊎ ((i ≡ 1) × (x ≡ b))
    go zero at = inl (refl, cc)
    go (suc zero) at = inr (refl, cc)
    go (suc (suc n)) at = cc

-- the fact
abbrev fact : Made
fact = record { maker = Rule 0 []; kind = rule.Plain; head = Some 0; pos = []; neg = []; body = None }

-- the choice
abbrev choice : Made
choice = record { maker = Rule 1 []; kind = rule.Choice; head = Some 0; pos = []; neg = []; body = Some 1 }

-- the same number
same_number : (m n : ℕ) → Some m ≡ Some n → m ≡ n
same_number m n e = cc

-- the fact has the first atom
fact_within : (n : ℕ) → 0 < n → IsWithin n fact
fact_within n low = record {
  head = λ h e. subst (λ m. m < n) (same_number 0 h e) low;
  pos = λ a i. absurd i;
  neg = λ a i. absurd i;
  body = λ b e. cc;
}

-- the choice has the first two
choice_within : (n : ℕ) → 1 < n → IsWithin n choice
choice_within n low =
    record {
      head = λ h e. subst (λ m. m < n) (same_number 0 h e) (omega (arith, low));
      pos = λ a i. absurd i;
      neg = λ a i. absurd i;
      body = λ b e. subst (λ m. m < n) (same_number 1 b e) low;
    }

-- a body isn't a named atom
body_is : (i : ℕ) → Body i ≡ Body 1 → i ≡ 1
body_is i e = cc

module _ (terms : List Node) (pool : Pool) (made : List Made) (atoms : pool.atoms ≡ Named 0 [] ∷ Body 1 ∷ [])
    (instances : made ≡ fact ∷ choice ∷ []) where
  abbrev ground : Ground
  ground = record { terms = terms; atoms = pool; instances = made }

  many : length pool.atoms ≡ 2
  many = ap length atoms

  -- the only body is the second atom, and that of the second instance
  only_body : (b i : ℕ) → IsBodyOf ground b i → (b ≡ 1) × (i ≡ 1)
  only_body b i at = elim (two_cases pool.atoms (Named 0 []) (Body 1) atoms b (Body i) at) [
    | inl first ↦ (let e : Body i ≡ Named 0 [] = first.1 in cc)
    | inr last ↦ (last.0, body_is i last.1)
  ]

  -- the ground of the test can be noted
  pub is_notable : IsNotable ground
  is_notable = record {
    beside = λ id a at. elim (two_cases pool.atoms (Named 0 []) (Body 1) atoms id a at) [
      | inl first ↦ subst (HasArgumentsBelow (length terms)) (sym first.1) (All-nil (λ t. t < length terms))
      | inr last ↦ subst (HasArgumentsBelow (length terms)) (sym last.1) tt
    ];
    within = λ i k at. elim (two_cases made fact choice instances i k at) [
      | inl first ↦ subst (IsWithin (length pool.atoms)) (sym first.1) (fact_within (length pool.atoms) (omega (arith, many)))
      | inr last ↦ subst (IsWithin (length pool.atoms)) (sym last.1) (choice_within (length pool.atoms) (omega (arith, many)))
    ];
    makers = λ i k at. elim (two_cases made fact choice instances i k at) [
      | inl first ↦ subst (λ (l : Made). HasTermsBelow (length terms) l.maker) (sym first.1) tt
      | inr last ↦ subst (λ (l : Made). HasTermsBelow (length terms) l.maker) (sym last.1) tt
    ];
    bodies = λ b i at. (
      choice,
      ap (λ (l : List Made). slice_get l i) instances ∙ ap (λ n. slice_get (fact ∷ choice ∷ []) n) (only_body b i at).1,
      ap (λ (n : ℕ). Some n) (sym (only_body b i at).0),
    );
    has_body = λ i k at b e. elim (two_cases made fact choice instances i k at) [
      | inl first ↦ (let none : None ≡ Some b = sym (ap (λ (l : Made). l.body) first.1) ∙ e in cc)
      | inr last ↦ (let some : 1 ≡ b = same_number 1 b (sym (ap (λ (l : Made). l.body) last.1) ∙ e) in
          ap (λ (l : List AtomNode). slice_get l b) atoms ∙ ap (λ n. slice_get (Named 0 [] ∷ Body 1 ∷ []) n) (sym some) ∙ ap
          (λ n. Some (Body n)) (sym last.0))
    ];
    in_order = λ i j k before at b body. elim (two_cases made fact choice instances i k at) [
      | inl first ↦ subst (IsWithin b) (sym first.1) (fact_within b (let one = (only_body b j body).0 in omega (arith, one)))
      | inr last ↦ absurd (let one = (only_body b j body).1 in let other = last.0 in omega (arith, one, other, before))
    ];
  }
