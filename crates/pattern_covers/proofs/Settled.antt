-- In a settled state an instance whose positive atoms are true, and whose head isn't, is kept from deriving it by a literal.
use Rattle.std.proofs.Common.{◌≡◌, ◌⊎◌, inl, inr, ℕ, Bool, true, false, List, [], ◌∷◌, ◌++◌, refl, sym, ap, subst, ◌∙◌}
use Rattle.std.specs.Prelude.{Option, Some, None}
use Rattle.lists.specs.Lists.{◌∈◌}
use Rattle.lists.proofs.ListLemmas.{∈-append_left, ∈-append_right}
use Rattle.search_values.specs.declared.entry.Entry.{Entry}
use Rattle.search_values.specs.Values.{Value, True, MustBe, False, Lit, lit, is_up, value_of, full_value, Holds, HoldsFully}
use Rattle.search_values.specs.Nogoods.{Nogood, NoneStruck, NoneUnit}
use Rattle.search_values.specs.Instances.{Kind, Plain, Choice, Constraint, IsHead}
use Rattle.search_values.specs.Tables.{Made, BodyFits, lits_of, once, set_of, each_with, with_body, table_of, nogoods_of}
use Rattle.search_values.proofs.Tables.{set_of-or_clash, once-from, in_lits_of, head_rises}
use Rattle.journal_theory.specs.States.{State, IsUp, NoneActive}

-- ---- values

-- an atom is true, or isn't
true_or_not : (o : Option Value) → (o ≡ Some True) ⊎ (¬ (o ≡ Some True))
true_or_not None = inr (λ e. cc)
true_or_not (Some True) = inl refl
true_or_not (Some MustBe) = inr (λ e. cc)
true_or_not (Some False) = inr (λ e. cc)

-- one of the atoms is true, or none is
one_true : (stack : List Entry) (ns : List ℕ) → ((n : ℕ) × (n ∈ ns) × (value_of stack n ≡ Some True)) ⊎ ((n : ℕ) → n ∈ ns → ¬ (value_of stack n ≡ Some True))
one_true stack [] = inr (λ n i e. i)
one_true stack (x ∷ ns) = elim (true_or_not (value_of stack x)) [
  | inl e ↦ inl (x, inl refl, e)
  | inr not ↦ elim (one_true stack ns) [
    | inl found ↦ inl (found.0, inr found.1, found.2)
    | inr none ↦ inr (λ n i e. elim i [ inl same ↦ not (ap (value_of stack) (sym same) ∙ e) | inr later ↦ none n later e ])
  ]
]

-- a literal that holds fully holds
fully_holds : (stack : List Entry) (l : Lit) → HoldsFully stack l → Holds stack l
fully_holds stack l full = (full_value l.positive, full, up l.positive)
  where
    up : (b : Bool) → is_up (full_value b) ≡ b
    up true = refl
    up false = refl

-- ---- the head

-- where all other literals of its nogood hold fully, and nothing is struck, the head isn't false
head_not_false : (stack : List Entry) (ngs : List Nogood) → NoneStruck stack ngs → (h : ℕ) (ls : List Lit)
    → ((ng : Nogood) → ng ∈ set_of (Some h) (lit h false ∷ ls) → ng ∈ ngs) → ((l : Lit) → l ∈ ls → HoldsFully stack l)
    → ¬ (value_of stack h ≡ Some False)
head_not_false stack ngs none h ls stored others e = elim (set_of-or_clash (Some h) (lit h false ∷ ls)) [
  | inl kept ↦ none _ (stored _ kept) (λ l i. elim (once-from (lit h false ∷ ls) l i) [
    | inl same ↦ subst (Holds stack) (sym same) (False, e, refl)
    | inr later ↦ fully_holds stack l (others l later)
  ])
  | inr c ↦ elim c.positive [
    | inl f ↦ absurd (let w : true ≡ false = ap (λ (k : Lit). k.positive) f in cc)
    | inr f ↦ (let t : value_of stack c.atom ≡ Some True = others (lit c.atom true) f in elim c.negative [
      | inl same ↦ absurd (let at : c.atom ≡ h = ap (λ (k : Lit). k.atom) same in let u = ap (value_of stack) (sym at) ∙ t in let q = sym u ∙ e in cc)
      | inr d ↦ absurd (let u : value_of stack c.atom ≡ Some False = others (lit c.atom false) d in let q = sym t ∙ u in cc)
    ])
  ]
]

-- so it is true, where nothing is unit either
head_true : (stack : List Entry) (ngs : List Nogood) → NoneStruck stack ngs → NoneUnit stack ngs → (h : ℕ) (ls : List Lit)
    → ((ng : Nogood) → ng ∈ set_of (Some h) (lit h false ∷ ls) → ng ∈ ngs) → ((l : Lit) → l ∈ ls → HoldsFully stack l)
    → value_of stack h ≡ Some True
head_true stack ngs none quiet h ls stored others = head_rises stack ngs quiet h ls stored others (head_not_false stack ngs none h ls stored others)

-- ---- a body with a negative atom that has to be true

-- both literals once
abbrev both_of : ℕ → ℕ → Nogood
both_of b n = record { lits = once (lit b true ∷ lit n true ∷ []); head = None }

-- two positive literals don't clash
two_stored : (ngs : List Nogood) (b n : ℕ) → ((ng : Nogood) → ng ∈ set_of None (lit b true ∷ lit n true ∷ []) → ng ∈ ngs) → both_of b n ∈ ngs
two_stored ngs b n stored = elim (set_of-or_clash None (lit b true ∷ lit n true ∷ [])) [
  | inl kept ↦ stored _ kept
  | inr c ↦ elim c.negative [
    | inl f ↦ absurd (let w : false ≡ true = ap (λ (k : Lit). k.positive) f in cc)
    | inr more ↦ elim more [
      | inl f ↦ absurd (let w : false ≡ true = ap (λ (k : Lit). k.positive) f in cc)
      | inr nothing ↦ absurd nothing
    ]
  ]
]

-- it has these alone
two_alone : (b n : ℕ) (l : Lit) → l ∈ once (lit b true ∷ lit n true ∷ []) → (l ≡ lit b true) ⊎ (l ≡ lit n true)
two_alone b n l i = elim (once-from (lit b true ∷ lit n true ∷ []) l i) [ inl e ↦ inl e | inr more ↦ elim more [ inl e ↦ inr e | inr nothing ↦ absurd nothing ] ]

-- the body atom is false then
denied : (stack : List Entry) (ngs : List Nogood) → NoneStruck stack ngs → NoneUnit stack ngs → (b n : ℕ)
    → ((ng : Nogood) → ng ∈ set_of None (lit b true ∷ lit n true ∷ []) → ng ∈ ngs) → (v : Value) → value_of stack n ≡ Some v → is_up v ≡ true
    → value_of stack b ≡ Some False
denied stack ngs none quiet b n stored v is up = go (value_of stack b) refl
  where
    there : both_of b n ∈ ngs
    there = two_stored ngs b n stored

    other : Holds stack (lit n true)
    other = (v, is, up)

    struck : (w : Value) → value_of stack b ≡ Some w → is_up w ≡ true → ⊥
    struck w e u = none (both_of b n) there (λ l i. elim (two_alone b n l i) [ inl f ↦ subst (Holds stack) (sym f) (w, e, u) | inr f ↦ subst (Holds stack) (sym f) other ])

    go : (o : Option Value) → value_of stack b ≡ o → value_of stack b ≡ Some False
    go None e = absurd (quiet (both_of b n) there b False (record {
      among = inl refl;
      unassigned = e;
      others = λ l i. elim (two_alone b n l i) [ inl f ↦ inl f | inr f ↦ inr (subst (Holds stack) (sym f) other) ];
    }))
    go (Some True) e = absurd (struck True e refl)
    go (Some MustBe) e = absurd (struck MustBe e refl)
    go (Some False) e = e

-- the nogood of the body and one of the atoms is among those of all
one_of_each : (b : ℕ) (positive : Bool) (ids : List ℕ) (a : ℕ) (ng : Nogood) → a ∈ ids → ng ∈ set_of None (lit b true ∷ lit a positive ∷ []) → ng ∈ each_with b positive ids
one_of_each b positive [] a ng i here = absurd i
one_of_each b positive (x ∷ ids) a ng (inl e) here =
    ∈-append_left ng (set_of None (lit b true ∷ lit x positive ∷ [])) (each_with b positive ids) (subst (λ z. ng ∈ set_of None (lit b true ∷ lit z positive ∷ [])) e here)
one_of_each b positive (x ∷ ids) a ng (inr i) here =
    ∈-append_right ng (set_of None (lit b true ∷ lit x positive ∷ [])) (each_with b positive ids) (one_of_each b positive ids a ng i here)

-- ---- an instance

-- its body was false, or a negative atom of it true
abbrev pub IsKept : {K : Type 0} → List Entry → Made K → Type 0
IsKept stack k = ((b : ℕ) × (k.body ≡ Some b) × (value_of stack b ≡ Some False)) ⊎ ((n : ℕ) × (n ∈ k.inst.neg) × (value_of stack n ≡ Some True))

module _ {N A K : Type 0} (s : State N A K) (none : NoneStruck s.stack s.nogoods) (quiet : NoneUnit s.stack s.nogoods) (idle : NoneActive s) (k : Made K) (among : k ∈ s.made)
    (pos : (p : ℕ) → p ∈ k.inst.pos → value_of s.stack p ≡ Some True) where
  -- with a body atom
  kept_body : (chosen : List Lit) (h b : ℕ) → k.body ≡ Some b → ((ng : Nogood) → ng ∈ with_body b chosen k.inst h → ng ∈ s.nogoods)
      → ¬ (value_of s.stack h ≡ Some True) → IsKept s.stack k
  kept_body chosen h b has stored not_true = elim (one_true s.stack k.inst.neg) [
    | inl found ↦ inr found
    | inr none_true ↦ go none_true (value_of s.stack b) refl
  ]
    where
      first : List Nogood
      first = set_of (Some b) (lit b false ∷ chosen ++ lits_of true k.inst.pos ++ lits_of false k.inst.neg)

      each : (n : ℕ) → n ∈ k.inst.neg → (ng : Nogood) → ng ∈ set_of None (lit b true ∷ lit n true ∷ []) → ng ∈ s.nogoods
      each n i ng here =
          stored ng
          (∈-append_left ng (set_of (Some b) (lit b false ∷ chosen ++ lits_of true k.inst.pos ++ lits_of false k.inst.neg) ++ each_with b false k.inst.pos ++ each_with b true k.inst.neg) (set_of (Some h) (lit h false ∷ lit b true ∷ []))
          (∈-append_right ng (set_of (Some b) (lit b false ∷ chosen ++ lits_of true k.inst.pos ++ lits_of false k.inst.neg) ++ each_with b false k.inst.pos) (each_with b true k.inst.neg)
          (one_of_each b true k.inst.neg n ng i here)))

      last : (ng : Nogood) → ng ∈ set_of (Some h) (lit h false ∷ lit b true ∷ []) → ng ∈ s.nogoods
      last ng here =
          stored ng
          (∈-append_right ng (set_of (Some b) (lit b false ∷ chosen ++ lits_of true k.inst.pos ++ lits_of false k.inst.neg) ++ each_with b false k.inst.pos ++ each_with b true k.inst.neg) (set_of (Some h) (lit h false ∷ lit b true ∷ [])) here)

      none_up : ¬ (value_of s.stack b ≡ Some False) → (n : ℕ) → n ∈ k.inst.neg → ¬ IsUp s n
      none_up not_false n i up = not_false (denied s.stack s.nogoods none quiet b n (each n i) up.0 up.1 up.2)

      go : ((n : ℕ) → n ∈ k.inst.neg → ¬ (value_of s.stack n ≡ Some True)) → (o : Option Value) → value_of s.stack b ≡ o → IsKept s.stack k
      go none_true None e = absurd (idle k among b (record { has_body = has; not_yet = inl e; pos_true = pos; neg_not_up = none_up (λ f. let q = sym e ∙ f in cc) }))
      go none_true (Some MustBe) e = absurd (idle k among b (record { has_body = has; not_yet = inr e; pos_true = pos; neg_not_up = none_up (λ f. let q = sym e ∙ f in cc) }))
      go none_true (Some False) e = inl (b, has, e)
      go none_true (Some True) e =
          absurd (not_true (head_true s.stack s.nogoods none quiet h (lit b true ∷ []) last (λ l i. elim i [ inl f ↦ subst (HoldsFully s.stack) (sym f) e | inr f ↦ absurd f ])))

  -- by its kind
  kept_by : (kind : Kind ℕ) (neg : List ℕ) (body : Option ℕ) → k.body ≡ body → BodyFits kind neg body → ((ng : Nogood) → ng ∈ table_of kind body k.inst → ng ∈ s.nogoods)
      → (h : ℕ) → IsHead kind h → ¬ (value_of s.stack h ≡ Some True) → IsKept s.stack k
  kept_by (Plain g) neg None has fits stored h head not_true =
      absurd (not_true (subst (λ x. value_of s.stack x ≡ Some True) head
      (head_true s.stack s.nogoods none quiet g (lits_of true k.inst.pos) stored
      (λ l i. let r = in_lits_of true k.inst.pos l i in pos l.atom r.0 ∙ ap (λ (u : Bool). Some (full_value u)) (sym r.1)))))
  kept_by (Plain g) neg (Some b) has fits stored h head not_true =
      kept_body [] g b has stored (λ e. not_true (subst (λ x. value_of s.stack x ≡ Some True) head e))
  kept_by (Choice g) neg None has fits stored h head not_true = absurd (let w = fits.1 in cc)
  kept_by (Choice g) neg (Some b) has fits stored h head not_true =
      kept_body (lit g true ∷ []) g b has stored (λ e. not_true (subst (λ x. value_of s.stack x ≡ Some True) head e))
  kept_by Constraint neg body has fits stored h head not_true = absurd head

  -- an instance whose head isn't true is kept from deriving it
  pub is_kept : BodyFits k.inst.kind k.inst.neg k.body → ((ng : Nogood) → ng ∈ nogoods_of k → ng ∈ s.nogoods) → (h : ℕ) → IsHead k.inst.kind h → ¬ (value_of s.stack h ≡ Some True)
      → IsKept s.stack k
  is_kept fits stored h head not_true = kept_by k.inst.kind k.inst.neg k.body refl fits stored h head not_true
