-- Where nothing is unit or struck, a body atom whose instance has only true and false atoms is itself true or false.
use Rattle.std.proofs.Common.{◌≡◌, ℕ, ◌⊎◌, Bool, true, false, List, [], ◌∷◌, ◌++◌, refl, sym, ◌∙◌, ap, subst, inl, inr}
use Rattle.std.specs.Prelude.{Option, Some, None}
use Rattle.lists.specs.Lists.{◌∈◌}
use Rattle.lists.proofs.ListLemmas.{∈-append_left, ∈-append_right, ∈-append_cases}
use Rattle.search_values.specs.Values.{Value, True, MustBe, False, Lit, lit, value_of, Holds, HoldsFully, full_value}
use Rattle.search_values.specs.declared.entry.Entry.{Entry}
use Rattle.search_values.specs.Nogoods.{Nogood, NoneStruck, NoneUnit}
use Rattle.search_values.specs.Instances.{Kind, Plain, Choice, Constraint, Instance}
use Rattle.search_values.specs.Tables.{BodyFits, lits_of, set_of, each_with, with_body, table_of}
use Rattle.search_values.proofs.Tables.{once-from, once-to, set_of-or_clash, in_lits_of, head_rises}

-- the atom is true or false
abbrev pub IsTrueOrFalse : List Entry → ℕ → Type 0
IsTrueOrFalse stack x = (value_of stack x ≡ Some True) ⊎ (value_of stack x ≡ Some False)

module _ (stack : List Entry) (ngs : List Nogood) (quiet : NoneUnit stack ngs) (calm : NoneStruck stack ngs) where
  -- the atom has no value, or must be true
  abbrev IsOpen : ℕ → Type 0
  IsOpen x = (value_of stack x ≡ None) ⊎ (value_of stack x ≡ Some MustBe)

  -- all true, or one of them false
  all_true : (ids : List ℕ) → ((x : ℕ) → x ∈ ids → IsTrueOrFalse stack x) → ((x : ℕ) → x ∈ ids → value_of stack x ≡ Some True) ⊎ ((x : ℕ) × (x ∈ ids) × (value_of stack x ≡ Some False))
  all_true [] full = inl (λ x i. absurd i)
  all_true (y ∷ ids) full = elim (full y (inl refl)) [
    | inr f ↦ inr (y, inl refl, f)
    | inl t ↦ elim (all_true ids (λ x i. full x (inr i))) [
      | inr w ↦ inr (w.0, inr w.1, w.2)
      | inl all ↦ inl (λ x i. elim i [ inl e ↦ subst (λ z. value_of stack z ≡ Some True) (sym e) t | inr j ↦ all x j ])
    ]
  ]

  -- all false, or one of them true
  all_false : (ids : List ℕ) → ((x : ℕ) → x ∈ ids → IsTrueOrFalse stack x) → ((x : ℕ) → x ∈ ids → value_of stack x ≡ Some False) ⊎ ((x : ℕ) × (x ∈ ids) × (value_of stack x ≡ Some True))
  all_false [] full = inl (λ x i. absurd i)
  all_false (y ∷ ids) full = elim (full y (inl refl)) [
    | inl t ↦ inr (y, inl refl, t)
    | inr f ↦ elim (all_false ids (λ x i. full x (inr i))) [
      | inr w ↦ inr (w.0, inr w.1, w.2)
      | inl all ↦ inl (λ x i. elim i [ inl e ↦ subst (λ z. value_of stack z ≡ Some False) (sym e) f | inr j ↦ all x j ])
    ]
  ]

  -- a nogood whose other literals hold would make an open body false, or be struck
  not_open : (b : ℕ) (ng : Nogood) → ng ∈ ngs → lit b true ∈ ng.lits → ((l : Lit) → l ∈ ng.lits → (l ≡ lit b true) ⊎ Holds stack l) → ¬ IsOpen b
  not_open b ng i among others (inl none) = quiet ng i b False (record { among = among; unassigned = none; others = others })
  not_open b ng i among others (inr must) = calm ng i (λ l j. elim (others l j) [
    | inl e ↦ subst (λ (k : Lit). Holds stack k) (sym e) (MustBe, must, refl)
    | inr h ↦ h
  ])

  -- so a literal that stands beside the body alone doesn't hold
  beside_fails : (b : ℕ) (l : Lit) → ((ng : Nogood) → ng ∈ set_of None (lit b true ∷ l ∷ []) → ng ∈ ngs) → ¬ (l.atom ≡ b) → Holds stack l → ¬ IsOpen b
  beside_fails b l stored other holds = elim (set_of-or_clash None (lit b true ∷ l ∷ [])) [
    | inl kept ↦ not_open b _ (stored _ kept) (inl refl) (λ k j. elim (once-from (lit b true ∷ l ∷ []) k j) [
      | inl e ↦ inl e
      | inr m ↦ elim m [ inl e ↦ inr (subst (λ (z : Lit). Holds stack z) (sym e) holds) | inr none ↦ absurd none ]
    ])
    | inr c ↦ absurd (clash c.atom c.positive c.negative)
  ]
    where
      clash : (a : ℕ) → lit a true ∈ (lit b true ∷ l ∷ []) → lit a false ∈ (lit b true ∷ l ∷ []) → ⊥
      clash a (inl p) (inl n) = (let w : false ≡ true = ap (λ (k : Lit). k.positive) n in cc)
      clash a (inl p) (inr (inl n)) = other (sym (ap (λ (k : Lit). k.atom) n) ∙ ap (λ (k : Lit). k.atom) p)
      clash a (inl p) (inr (inr n)) = n
      clash a (inr (inl p)) (inl n) = (let w : false ≡ true = ap (λ (k : Lit). k.positive) n in cc)
      clash a (inr (inl p)) (inr (inl n)) = (let w : true ≡ false = ap (λ (k : Lit). k.positive) (p ∙ sym n) in cc)
      clash a (inr (inl p)) (inr (inr n)) = n
      clash a (inr (inr p)) n = p

  -- and so the head isn't false
  head_holds : (b h : ℕ) → ((ng : Nogood) → ng ∈ set_of (Some h) (lit h false ∷ lit b true ∷ []) → ng ∈ ngs) → ¬ (h ≡ b) → value_of stack h ≡ Some False → ¬ IsOpen b
  head_holds b h stored other false_head = elim (set_of-or_clash (Some h) (lit h false ∷ lit b true ∷ [])) [
    | inl kept ↦ not_open b _ (stored _ kept) (once-to (lit h false ∷ lit b true ∷ []) (lit b true) (inr (inl refl))) (λ k j. elim (once-from (lit h false ∷ lit b true ∷ []) k j) [
      | inl e ↦ inr (subst (λ (z : Lit). Holds stack z) (sym e) (False, false_head, refl))
      | inr m ↦ elim m [ inl e ↦ inl e | inr none ↦ absurd none ]
    ])
    | inr c ↦ absurd (clash c.atom c.positive c.negative)
  ]
    where
      clash : (a : ℕ) → lit a true ∈ (lit h false ∷ lit b true ∷ []) → lit a false ∈ (lit h false ∷ lit b true ∷ []) → ⊥
      clash a (inl p) n = (let w : true ≡ false = ap (λ (k : Lit). k.positive) p in cc)
      clash a (inr (inl p)) (inl n) = other (sym (ap (λ (k : Lit). k.atom) n) ∙ ap (λ (k : Lit). k.atom) p)
      clash a (inr (inl p)) (inr (inl n)) = (let w : false ≡ true = ap (λ (k : Lit). k.positive) n in cc)
      clash a (inr (inl p)) (inr (inr n)) = n
      clash a (inr (inr p)) n = p

  -- the nogood of one of the atoms is among those of all
  each_in : (b : ℕ) (positive : Bool) (ids : List ℕ) (x : ℕ) → x ∈ ids → (ng : Nogood) → ng ∈ set_of None (lit b true ∷ lit x positive ∷ []) → ng ∈ each_with b positive ids
  each_in b positive [] x i ng j = absurd i
  each_in b positive (y ∷ ids) x (inl e) ng j =
      ∈-append_left ng (set_of None (lit b true ∷ lit y positive ∷ [])) (each_with b positive ids) (subst (λ z. ng ∈ set_of None (lit b true ∷ lit z positive ∷ [])) e j)
  each_in b positive (y ∷ ids) x (inr i) ng j = ∈-append_right ng (set_of None (lit b true ∷ lit y positive ∷ [])) (each_with b positive ids) (each_in b positive ids x i ng j)

  -- the nogood of the head is in the table of a body
  last_in : (b h : ℕ) (head : List Lit) (i : Instance ℕ) (ng : Nogood) → ng ∈ set_of (Some h) (lit h false ∷ lit b true ∷ []) → ng ∈ with_body b head i h
  last_in b h head i ng j = ∈-append_right ng (set_of (Some b) (lit b false ∷ head ++ lits_of true i.pos ++ lits_of false i.neg) ++ each_with b false i.pos ++ each_with b true i.neg)
      (set_of (Some h) (lit h false ∷ lit b true ∷ [])) j

  -- literals of atoms with their full values hold fully
  lits_full : (positive : Bool) (ids : List ℕ) → ((x : ℕ) → x ∈ ids → value_of stack x ≡ Some (full_value positive)) → (l : Lit) → l ∈ lits_of positive ids → HoldsFully stack l
  lits_full positive ids full l i =
      let r = in_lits_of positive ids l i in
      full l.atom r.0 ∙ ap (λ p. Some (full_value p)) (sym r.1)

  -- what is known of the atoms beside a body atom: they are true or false, and none is the body atom
  abbrev pub AreBeside : ℕ → List ℕ → Type 0
  AreBeside b ids = (x : ℕ) → x ∈ ids → IsTrueOrFalse stack x × (¬ (x ≡ b))

  module _ (b h : ℕ) (head : List Lit) (i : Instance ℕ) (stored : (ng : Nogood) → ng ∈ with_body b head i h → ng ∈ ngs) (pos : AreBeside b i.pos) (neg : AreBeside b i.neg)
      (heads : ((l : Lit) → l ∈ head → HoldsFully stack l) ⊎ (¬ IsOpen b)) where
    abbrev first : List Nogood
    first = set_of (Some b) (lit b false ∷ head ++ lits_of true i.pos ++ lits_of false i.neg)

    abbrev last : List Nogood
    last = set_of (Some h) (lit h false ∷ lit b true ∷ [])

    first_stored : (ng : Nogood) → ng ∈ first → ng ∈ ngs
    first_stored ng j = stored ng (∈-append_left ng (first ++ each_with b false i.pos ++ each_with b true i.neg) last
        (∈-append_left ng (first ++ each_with b false i.pos) (each_with b true i.neg) (∈-append_left ng first (each_with b false i.pos) j)))

    pos_stored : (ng : Nogood) → ng ∈ each_with b false i.pos → ng ∈ ngs
    pos_stored ng j = stored ng (∈-append_left ng (first ++ each_with b false i.pos ++ each_with b true i.neg) last
        (∈-append_left ng (first ++ each_with b false i.pos) (each_with b true i.neg) (∈-append_right ng first (each_with b false i.pos) j)))

    neg_stored : (ng : Nogood) → ng ∈ each_with b true i.neg → ng ∈ ngs
    neg_stored ng j = stored ng (∈-append_left ng (first ++ each_with b false i.pos ++ each_with b true i.neg) last
        (∈-append_right ng (first ++ each_with b false i.pos) (each_with b true i.neg) j))

    -- the body atom has a value, where it is open
    rises : IsOpen b → IsTrueOrFalse stack b
    rises open_body = elim (all_true i.pos (λ x j. (pos x j).0)) [
      | inr w ↦ absurd (beside_fails b (lit w.0 false) (λ ng j. pos_stored ng (each_in b false i.pos w.0 w.1 ng j)) (pos w.0 w.1).1 (False, w.2, refl) open_body)
      | inl trues ↦ elim (all_false i.neg (λ x j. (neg x j).0)) [
        | inr w ↦ absurd (beside_fails b (lit w.0 true) (λ ng j. neg_stored ng (each_in b true i.neg w.0 w.1 ng j)) (neg w.0 w.1).1 (True, w.2, refl) open_body)
        | inl falses ↦ elim heads [
          | inr closed ↦ absurd (closed open_body)
          | inl taken ↦ inl (head_rises stack ngs quiet b (head ++ lits_of true i.pos ++ lits_of false i.neg) first_stored (all taken trues falses) (λ e. elim open_body [
            | inl n ↦ (let w : None ≡ Some False = sym n ∙ e in cc)
            | inr m ↦ (let w : Some MustBe ≡ Some False = sym m ∙ e in cc)
          ]))
        ]
      ]
    ]
      where
        all : ((l : Lit) → l ∈ head → HoldsFully stack l) → ((x : ℕ) → x ∈ i.pos → value_of stack x ≡ Some True) → ((x : ℕ) → x ∈ i.neg → value_of stack x ≡ Some False)
            → (l : Lit) → l ∈ (head ++ lits_of true i.pos ++ lits_of false i.neg) → HoldsFully stack l
        all taken trues falses l j = elim (∈-append_cases l (head ++ lits_of true i.pos) (lits_of false i.neg) j) [
          | inr m ↦ lits_full false i.neg falses l m
          | inl m ↦ elim (∈-append_cases l head (lits_of true i.pos) m) [
            | inl n ↦ taken l n
            | inr n ↦ lits_full true i.pos trues l n
          ]
        ]

    pub body_valued : IsTrueOrFalse stack b
    body_valued = go (value_of stack b) refl
      where
        go : (v : Option Value) → value_of stack b ≡ v → IsTrueOrFalse stack b
        go None e = rises (inl e)
        go (Some MustBe) e = rises (inr e)
        go (Some True) e = inl e
        go (Some False) e = inr e

  -- The body atom of an instance is true or false.
  pub body_full : (b : ℕ) (kind : Kind ℕ) (i : Instance ℕ) → BodyFits kind i.neg (Some b) → ((ng : Nogood) → ng ∈ table_of kind (Some b) i → ng ∈ ngs)
      → AreBeside b i.pos → AreBeside b i.neg → ((h : ℕ) → kind ≡ Choice h → IsTrueOrFalse stack h × (¬ (h ≡ b))) → IsTrueOrFalse stack b
  body_full b (Plain h) i fits stored pos neg head = body_valued b h [] i stored pos neg (inl (λ l j. absurd j))
  body_full b (Choice h) i fits stored pos neg head = body_valued b h (lit h true ∷ []) i stored pos neg (by_head (head h refl).0)
    where
      by_head : IsTrueOrFalse stack h → ((l : Lit) → l ∈ (lit h true ∷ []) → HoldsFully stack l) ⊎ (¬ IsOpen b)
      by_head (inl t) = inl (λ l j. elim j [ inl e ↦ subst (λ (z : Lit). HoldsFully stack z) (sym e) t | inr none ↦ absurd none ])
      by_head (inr f) = inr (head_holds b h (λ ng j. stored ng (last_in b h (lit h true ∷ []) i ng j)) (head h refl).1 f)
  body_full b Constraint i fits stored pos neg head = cc
