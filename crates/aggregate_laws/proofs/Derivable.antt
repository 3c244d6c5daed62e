-- A founded list is the same as a derivation of each atom.
use Rattle.std.proofs.Common.{◌≡◌, ◌⊎◌, Bool, true, false, List, [], ◌∷◌, refl, sym, ◌∙◌, subst, inl, inr}
use Rattle.std.specs.Prelude.{Option, Some}
use Rattle.lists.specs.Lists.{◌∈◌}
use Rattle.search_values.specs.Instances.{Plain, Instance, IsHead, KindHolds, body_holds, IsFounded}
use Rattle.search_values.proofs.Basics.{BodyParts, body_parts, body_from}
use Rattle.aggregate_laws.specs.Rules.{IsFoundedSet}
use Rattle.aggregate_laws.proofs.Sameness.{Decides, decide_member}

-- an instance whose head is the atom and whose body holds
pub record Licence {A K : Type 0} (core : K → Option (Instance A)) (c : A → Bool) (a : A) : Type 0 where
  pub maker : K
  pub inst : Instance A
  pub is : core maker ≡ Some inst
  pub head : IsHead inst.kind a
  pub body : BodyParts c inst

licence_from : {A K : Type 0} (core : K → Option (Instance A)) (c : A → Bool) (a : A) {P : Instance A → Type 0}
    → (m : K) × (i : Instance A) × (core m ≡ Some i) × IsHead i.kind a × (body_holds c i ≡ true) × P i → Licence core c a
licence_from core c a f = record { maker = f.0; inst = f.1; is = f.2; head = f.3; body = body_parts c f.1 f.4 }

-- what an instance whose body holds asks of a closed set
pub closed_at : {A K : Type 0} {core : K → Option (Instance A)} {c : A → Bool} → IsFoundedSet core c → (m : K) (i : Instance A) → core m ≡ Some i → BodyParts c i → KindHolds c i.kind
closed_at {c = c} set m i e b = set.closed m i e (body_from c i b)

-- an atom of the set that has a licence whose positive atoms are derivable
pub data Derivable {A K : Type 0} (core : K → Option (Instance A)) (c : A → Bool) : A → Type 0 where
  by : {a : A} (l : Licence core c a) → c a ≡ true → ((p : A) → (p ∈ l.inst.pos) → Derivable core c p) → Derivable core c a

pub derivable_true : {A K : Type 0} {core : K → Option (Instance A)} {c : A → Bool} {a : A} → Derivable core c a → c a ≡ true
derivable_true (by l t d) = t

-- each atom of a founded list
pub derivable_in : {A K : Type 0} (core : K → Option (Instance A)) (c : A → Bool) (order : List A) → IsFounded core c order → (a : A) → (a ∈ order) → Derivable core c a
unfolding licence_from
derivable_in core c [] f a i = absurd i
derivable_in {A} core c (b ∷ order) f a (inr i) = derivable_in core c order f.3 a i
derivable_in {A} core c (b ∷ order) f a (inl e) =
    subst (λ x. Derivable core c x) (sym e) (by (licence_from core c b {P = λ i. (p : A) → p ∈ i.pos → p ∈ order} f.0) f.2 (λ p j. derivable_in core c order f.3 p (f.0.5 p j)))

-- each atom of a founded set is derivable
pub derivable : {A K : Type 0} {core : K → Option (Instance A)} {c : A → Bool} → IsFoundedSet core c → (a : A) → c a ≡ true → Derivable core c a
derivable {core = core} {c = c} s a h = derivable_in core c s.order s.founded a (s.all_there a h)

-- a founded list that has all of another
pub record Longer {A K : Type 0} (core : K → Option (Instance A)) (c : A → Bool) (order : List A) : Type 0 where
  pub list : List A
  pub founded : IsFounded core c list
  pub keeps : (x : A) → (x ∈ order) → (x ∈ list)

module _ {A K : Type 0} (core : K → Option (Instance A)) (c : A → Bool) (same : Decides A) where
  -- a founded list that has all of this one, and the atom too
  With : A → List A → Type 0
  With a order = (l : Longer core c order) × (a ∈ l.list)

  -- all of these can be added in turn
  add_all : (xs : List A) → ((p : A) → (p ∈ xs) → (order : List A) → IsFounded core c order → With p order)
      → (order : List A) → IsFounded core c order → (l : Longer core c order) × ((p : A) → (p ∈ xs) → (p ∈ l.list))
  unfolding With
  add_all [] f order o = (record { list = order; founded = o; keeps = λ x i. i }, λ p i. absurd i)
  add_all (x ∷ xs) f order o =
      let one = f x (inl refl) order o in
      let rest = add_all xs (λ p i. f p (inr i)) one.0.list one.0.founded in (
        record { list = rest.0.list; founded = rest.0.founded; keeps = λ y i. rest.0.keeps y (one.0.keeps y i) },
        λ p i. elim i [
          | inl e ↦ subst (λ y. (y ∈ rest.0.list)) (sym e) (rest.0.keeps x one.1)
          | inr j ↦ rest.1 p j
        ],
      )

  add : (a : A) → Derivable core c a → (order : List A) → IsFounded core c order → With a order
  unfolding With
  add a (by l t d) order o =
      let below = add_all l.inst.pos (λ p i order o. add p (d p i) order o) order o in
      elim (decide_member same a below.0.list) [
        | inl i ↦ (below.0, i)
        | inr n ↦ (
          record {
            list = a ∷ below.0.list;
            founded = ((l.maker, l.inst, l.is, l.head, body_from c l.inst l.body, below.1), n, t, below.0.founded);
            keeps = λ x i. inr (below.0.keeps x i);
          },
          inl refl,
        )
      ]

  -- a set that is within a list, and whose atoms are derivable, is founded
  pub founded_by : (cover : List A) → ((a : A) → c a ≡ true → (a ∈ cover)) → ((a : A) → c a ≡ true → Derivable core c a)
      → (order : List A) × ((a : A) → c a ≡ true → (a ∈ order)) × IsFounded core c order
  unfolding With
  founded_by cover covers der =
      let r = go cover [] tt in
      (r.0.list, (λ a t. r.1 a t (covers a t)), r.0.founded)
    where
      cases : (b : Bool) → (b ≡ true) ⊎ (b ≡ false)
      cases true = inl refl
      cases false = inr refl

      go : (xs : List A) (order : List A) → IsFounded core c order → (l : Longer core c order) × ((a : A) → c a ≡ true → (a ∈ xs) → (a ∈ l.list))
      go [] order o = (record { list = order; founded = o; keeps = λ x i. i }, λ a t i. absurd i)
      go (x ∷ xs) order o = elim (cases (c x)) [
        | inl t ↦ (let one = add x (der x t) order o in
            let rest = go xs one.0.list one.0.founded in (
              record { list = rest.0.list; founded = rest.0.founded; keeps = λ y i. rest.0.keeps y (one.0.keeps y i) },
              λ a u i. elim i [ inl e ↦ subst (λ y. (y ∈ rest.0.list)) (sym e) (rest.0.keeps x one.1) | inr j ↦ rest.1 a u j ],
            ))
        | inr n ↦ (let rest = go xs order o in (
          record { list = rest.0.list; founded = rest.0.founded; keeps = rest.0.keeps },
          λ a u i. elim i [ inl e ↦ (let v : c x ≡ true = subst (λ y. c y ≡ true) e u in let wrong : true ≡ false = sym v ∙ n in cc) | inr j ↦ rest.1 a u j ],
        ))
      ]

-- Two closed and founded sets that agree on some atoms agree on all that come from them.
pub data Rests {A K : Type 0} (core : K → Option (Instance A)) (IsGiven : A → Type 0) : A → Type 0 where
  given : {a : A} → IsGiven a → Rests core IsGiven a
  from : {a : A}
      → ((m : K) (i : Instance A) → core m ≡ Some i → IsHead i.kind a → i.kind ≡ Plain a)
      → ((m : K) (i : Instance A) → core m ≡ Some i → IsHead i.kind a → (b : A) → (b ∈ i.pos) ⊎ (b ∈ i.neg) → Rests core IsGiven b)
      → Rests core IsGiven a

-- the licence by which it is derived
pub licence : {A K : Type 0} {core : K → Option (Instance A)} {c : A → Bool} {a : A} → Derivable core c a → Licence core c a
licence (by l t d) = l

-- where sets agree on the bodies of all instances with this head, what is in the first is in the second
pub one_way : {A K : Type 0} (core : K → Option (Instance A)) (c d : A → Bool) → IsFoundedSet core c → IsFoundedSet core d → (a : A)
    → ((m : K) (i : Instance A) → core m ≡ Some i → IsHead i.kind a → i.kind ≡ Plain a)
    → ((m : K) (i : Instance A) → core m ≡ Some i → IsHead i.kind a → (b : A) → (b ∈ i.pos) ⊎ (b ∈ i.neg) → c b ≡ d b)
    → c a ≡ true → d a ≡ true
one_way core c d sc sd a plain agree t =
    let l = licence (derivable sc a t) in
    let body : BodyParts d l.inst = record {
      pos = λ p i. sym (agree l.maker l.inst l.is l.head p (inl i)) ∙ l.body.pos p i;
      neg = λ p i. sym (agree l.maker l.inst l.is l.head p (inr i)) ∙ l.body.neg p i;
    } in
    subst (λ k. KindHolds d k) (plain l.maker l.inst l.is l.head) (closed_at sd l.maker l.inst l.is body)

-- two tests that follow from each other are the same
pub both_ways : (a b : Bool) → (a ≡ true → b ≡ true) → (b ≡ true → a ≡ true) → a ≡ b
both_ways true b f back = sym (f refl)
both_ways false true f back = back refl
both_ways false false f back = refl

-- sets that agree on the given atoms agree on those that rest on them
pub agree_on : {A K : Type 0} (core : K → Option (Instance A)) (IsGiven : A → Type 0) (c d : A → Bool) → IsFoundedSet core c → IsFoundedSet core d
    → ((a : A) → IsGiven a → c a ≡ d a) → (a : A) → Rests core IsGiven a → c a ≡ d a
agree_on core IsGiven c d sc sd on a (given known) = on a known
agree_on core IsGiven c d sc sd on a (from plain below) = both_ways (c a) (d a)
    (one_way core c d sc sd a plain (λ m i e h b j. agree_on core IsGiven c d sc sd on b (below m i e h b j)))
    (one_way core d c sd sc a plain (λ m i e h b j. sym (agree_on core IsGiven c d sc sd on b (below m i e h b j))))
