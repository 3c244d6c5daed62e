-- A settled state whose named atoms have values other than must-be-true is full.
use Rattle.std.proofs.Common.{◌≡◌, ℕ, ◌⊎◌, Bool, true, false, not, ◌&&◌, ◌||◌, cond, List, [], ◌∷◌, ◌++◌, refl, sym, ◌∙◌, ap, subst, inl, inr}
use Rattle.std.specs.Prelude.{Option, Some, None, slice_get, nat_eq}
use Rattle.lists.specs.Lists.{◌∈◌}
use Rattle.lists.proofs.ListLemmas.{∈-append_left, ∈-append_right}
use Rattle.alpha_outside.specs.declared.literal.Value.{Value}
use Rattle.alpha_outside.specs.declared.literal.Value.TheVariants.{True, MustBe, False}
use Rattle.alpha_outside.specs.declared.literal.Lit.{Lit}
use Rattle.search_values.specs.declared.entry.Entry.{Entry}
use Rattle.search_values.specs.Values.{is_up, lit, value_of, Holds}
use Rattle.search_values.specs.Nogoods.{Nogood}
use Rattle.search_values.specs.Instances.{Kind, Plain, Choice, Constraint, Instance, Rules}
use Rattle.search_values.specs.Tables.{Made, BodyFits, lits_of, once, set_of, each_with, with_body, table_of}
use Rattle.search_values.specs.Ids.{AtomNode, Named, BodyOf}
use Rattle.journal_theory.specs.States.{IsName, IsSettled, IsFull}
use Rattle.search_values.proofs.Basics.{get_in, value_cases, nat_eq-true}
use Rattle.search_values.proofs.Tables.{nogood, Clash, set_of-or_clash}
use Rattle.journal_theory.proofs.Stack.{Good}
use Rattle.journal_theory.proofs.Meaning.{OfAtom, OfBody, Known}
use Rattle.journal_theory.proofs.Central.{GoodMade, Valid, names_in}
use Rattle.core_meaning.specs.Atoms.{GroundAtom}
use Rattle.search_rules.specs.Tests.{Maker}
use Rattle.search_rules.specs.Rules.{Numbers, Reached}

-- two literals of different atoms both stand
once_pair : (x p : ℕ) (up : Bool) → ¬ (x ≡ p) → once (lit x true ∷ lit p up ∷ []) ≡ lit x true ∷ lit p up ∷ []
once_pair x p up differ = go (nat_eq x p) refl
  where
    go : (b : Bool) → nat_eq x p ≡ b → once (lit x true ∷ lit p up ∷ []) ≡ lit x true ∷ lit p up ∷ []
    go true e = absurd (differ (nat_eq-true x p e))
    go false e = ap (λ z. lit x true ∷ cond (z && ((true && up) || (false && not up))) [] (lit p up ∷ [])) e

module _ (rules : Rules Numbers GroundAtom Maker) (s : Reached) (valid : Valid rules s) (settled : IsSettled rules s)
    (must : (x : ℕ) (a : GroundAtom) → IsName s x a → ¬ (value_of s.stack x ≡ Some MustBe))
    (free : (x : ℕ) (a : GroundAtom) → IsName s x a → ¬ (value_of s.stack x ≡ None))
    (bodies : (x j : ℕ) → slice_get s.names x ≡ Some (BodyOf j)
    → (k : Made Maker) × (slice_get s.made j ≡ Some k) × (k.body ≡ Some x)) where
  -- a named atom is true or false
  named_value : (x : ℕ) (a : GroundAtom) → IsName s x a → (value_of s.stack x ≡ Some True) ⊎ (value_of s.stack x ≡ Some False)
  named_value x a n = go (value_of s.stack x) refl
    where
      go : (v : Option Value) → value_of s.stack x ≡ v → (value_of s.stack x ≡ Some True) ⊎ (value_of s.stack x ≡ Some False)
      go None e = absurd (free x a n e)
      go (Some MustBe) e = absurd (must x a n e)
      go (Some True) e = inl e
      go (Some False) e = inr e

  -- all of these have this value, or one has the other
  all_or : (ids : List ℕ) → ((x : ℕ) → (x ∈ ids) → (value_of s.stack x ≡ Some True) ⊎ (value_of s.stack x ≡ Some False))
      → (((x : ℕ) → (x ∈ ids) → value_of s.stack x ≡ Some True) ⊎ ((x : ℕ) × (x ∈ ids) × (value_of s.stack x ≡ Some False)))
      × (((x : ℕ) → (x ∈ ids) → value_of s.stack x ≡ Some False) ⊎ ((x : ℕ) × (x ∈ ids) × (value_of s.stack x ≡ Some True)))
  all_or [] h = (inl (λ x i. absurd i), inl (λ x i. absurd i))
  all_or (y ∷ ids) h =
      let r = all_or ids (λ x i. h x (inr i)) in
      elim (h y (inl refl)) [
        | inl t ↦ (
          elim r.0 [
            | inl all ↦ inl (λ x i. elim i [ inl e ↦ subst (λ z. value_of s.stack z ≡ Some True) (sym e) t | inr j ↦ all x j ])
            | inr w ↦ inr (w.0, inr w.1, w.2)
          ],
          inr (y, inl refl, t),
        )
        | inr f ↦ (
          inr (y, inl refl, f),
          elim r.1 [
            | inl all ↦ inl (λ x i. elim i [ inl e ↦ subst (λ z. value_of s.stack z ≡ Some False) (sym e) f | inr j ↦ all x j ])
            | inr w ↦ inr (w.0, inr w.1, w.2)
          ],
        )
      ]

  -- the nogood of an atom is among those of all
  in_each : (b : ℕ) (up : Bool) (ids : List ℕ) (a : ℕ) → (a ∈ ids) → (ng : Nogood) → (ng ∈ (set_of None (lit b true ∷ lit a up ∷ [])))
      → (ng ∈ (each_with b up ids))
  in_each b up [] a i ng k = absurd i
  in_each b up (y ∷ ids) a (inl e) ng k = ∈-append_left ng (set_of None (lit b true ∷ lit y up ∷ [])) (each_with b up ids)
      (subst (λ z. (ng ∈ (set_of None (lit b true ∷ lit z up ∷ [])))) e k)
  in_each b up (y ∷ ids) a (inr j) ng k = ∈-append_right ng (set_of None (lit b true ∷ lit y up ∷ [])) (each_with b up ids)
      (in_each b up ids a j ng k)

  -- and among those of the body
  in_body : (b : ℕ) (head : List Lit) (i : Instance ℕ) (h : ℕ) (ng : Nogood)
      → (ng ∈ (each_with b false i.pos)) ⊎ (ng ∈ (each_with b true i.neg)) → (ng ∈ (with_body b head i h))
  in_body b head i h ng (inl k) =
      ∈-append_left ng (set_of (Some b)
      (lit b false ∷ head ++ lits_of true i.pos ++ lits_of false i.neg) ++ each_with b false i.pos ++ each_with b true i.neg)
      (set_of (Some h) (lit h false ∷ lit b true ∷ []))
      (∈-append_left ng (set_of (Some b) (lit b false ∷ head ++ lits_of true i.pos ++ lits_of false i.neg) ++ each_with b false i.pos)
      (each_with b true i.neg)
      (∈-append_right ng (set_of (Some b) (lit b false ∷ head ++ lits_of true i.pos ++ lits_of false i.neg)) (each_with b false i.pos) k))
  in_body b head i h ng (inr k) =
      ∈-append_left ng (set_of (Some b)
      (lit b false ∷ head ++ lits_of true i.pos ++ lits_of false i.neg) ++ each_with b false i.pos ++ each_with b true i.neg)
      (set_of (Some h) (lit h false ∷ lit b true ∷ []))
      (∈-append_right ng (set_of (Some b) (lit b false ∷ head ++ lits_of true i.pos ++ lits_of false i.neg) ++ each_with b false i.pos)
      (each_with b true i.neg) k)

  -- and among those of the instance
  in_table : (kind : Kind ℕ) (body : Option ℕ) (i : Instance ℕ) (x : ℕ) → body ≡ Some x → BodyFits kind i.neg body → (ng : Nogood)
      → (ng ∈ (each_with x false i.pos)) ⊎ (ng ∈ (each_with x true i.neg)) → (ng ∈ (table_of kind body i))
  in_table (Plain h) None i x e fits ng k = cc
  in_table (Plain h) (Some b) i x e fits ng k = let q : x ≡ b =
      cc in in_body b [] i h ng (subst (λ z. (ng ∈ (each_with z false i.pos)) ⊎ (ng ∈ (each_with z true i.neg))) q k)
  in_table (Choice h) None i x e fits ng k = cc
  in_table (Choice h) (Some b) i x e fits ng k = let q : x ≡ b =
      cc in in_body b (lit h true ∷ []) i h ng (subst (λ z. (ng ∈ (each_with z false i.pos)) ⊎ (ng ∈ (each_with z true i.neg))) q k)
  in_table Constraint body i x e fits ng k = let bad : None ≡ Some x = sym fits ∙ e in cc

  -- a body whose nogood has a literal that holds is false
  blocked : (x : ℕ) (l : Lit) → (nogood None (lit x true ∷ l ∷ []) ∈ s.nogoods) → Holds s.stack l → value_of s.stack x ≡ Some False
  blocked x l i h = go (value_of s.stack x) refl
    where
      go : (v : Option Value) → value_of s.stack x ≡ v → value_of s.stack x ≡ Some False
      go None e = absurd (settled.none_unit (nogood None (lit x true ∷ l ∷ [])) i x False (record {
        among = inl refl;
        unassigned = e;
        others = λ k m. elim m [
          | inl q ↦ inl q
          | inr n ↦ elim n [ inl q ↦ inr (subst (λ (z : Lit). Holds s.stack z) (sym q) h) | inr a ↦ absurd a ]
        ];
      }))
      go (Some True) e = absurd (settled.none_struck (nogood None (lit x true ∷ l ∷ [])) i
          (λ k m. elim m [
            | inl q ↦ subst (λ (z : Lit). Holds s.stack z) (sym q) (True, e, refl)
            | inr n ↦ elim n [ inl q ↦ subst (λ (z : Lit). Holds s.stack z) (sym q) h | inr a ↦ absurd a ]
          ]))
      go (Some MustBe) e = absurd (settled.none_struck (nogood None (lit x true ∷ l ∷ [])) i
          (λ k m. elim m [
            | inl q ↦ subst (λ (z : Lit). Holds s.stack z) (sym q) (MustBe, e, refl)
            | inr n ↦ elim n [ inl q ↦ subst (λ (z : Lit). Holds s.stack z) (sym q) h | inr a ↦ absurd a ]
          ]))
      go (Some False) e = e

  -- a body and a named atom don't clash
  no_clash : (x p : ℕ) (up : Bool) → (x ≡ p → ⊥) → Clash (lit x true ∷ lit p up ∷ []) → ⊥
  no_clash x p up differ c = elim c.negative [
    | inl d ↦ (let u : false ≡ true = ap (λ (z : Lit). z.positive) d in cc)
    | inr m ↦ elim m [
      | inl d ↦ elim c.positive [
        | inl u ↦ differ (sym (ap (λ (z : Lit). z.atom) u) ∙ ap (λ (z : Lit). z.atom) d)
        | inr n ↦ elim n [
          | inl u ↦ (let w : true ≡ up = ap (λ (z : Lit). z.positive) u in let v : false ≡ up = ap
              (λ (z : Lit). z.positive) d in let bad : true ≡ false = w ∙ sym v in cc)
          | inr a ↦ a
        ]
      ]
      | inr a ↦ a
    ]
  ]

  -- each body has a value, and not must-be-true
  body_value : (x j : ℕ) → slice_get s.names x ≡ Some (BodyOf j) → (value_of s.stack x ≡ Some True) ⊎ (value_of s.stack x ≡ Some False)
  body_value x j n = elim pos_or [
    | inr w ↦ inr (blocked x (lit w.0 false) (stored w.0 false (inl (w.1, refl)) (pos_named w.0 w.1)) (False, w.2, refl))
    | inl all_true ↦ elim neg_or [
      | inr w ↦ inr (blocked x (lit w.0 true) (stored w.0 true (inr (w.1, refl)) (neg_named w.0 w.1)) (True, w.2, refl))
      | inl all_false ↦ active all_true all_false (value_of s.stack x) refl
    ]
  ]
    where
      b : (k : Made Maker) × (slice_get s.made j ≡ Some k) × (k.body ≡ Some x)
      b = bodies x j n

      k : Made Maker
      k = b.0

      among : (k ∈ s.made)
      among = get_in s.made j k b.1

      g : GoodMade rules s k
      g = valid.made k among

      pos_named : (p : ℕ) → (p ∈ k.inst.pos) → (a : GroundAtom) × IsName s p a
      pos_named p i = let r = names_in s.names k.inst.pos g.inst.pos g.denotes.pos p i in (r.0, r.2)

      neg_named : (p : ℕ) → (p ∈ k.inst.neg) → (a : GroundAtom) × IsName s p a
      neg_named p i = let r = names_in s.names k.inst.neg g.inst.neg g.denotes.neg p i in (r.0, r.2)

      pos_or : ((y : ℕ) → (y ∈ k.inst.pos) → value_of s.stack y ≡ Some True)
          ⊎ ((y : ℕ) × (y ∈ k.inst.pos) × (value_of s.stack y ≡ Some False))
      pos_or = (all_or k.inst.pos (λ y i. let w = pos_named y i in named_value y w.0 w.1)).0

      neg_or : ((y : ℕ) → (y ∈ k.inst.neg) → value_of s.stack y ≡ Some False)
          ⊎ ((y : ℕ) × (y ∈ k.inst.neg) × (value_of s.stack y ≡ Some True))
      neg_or = (all_or k.inst.neg (λ y i. let w = neg_named y i in named_value y w.0 w.1)).1

      each : (p : ℕ) (up : Bool) → ((up ≡ false) × (p ∈ k.inst.pos)) ⊎ ((up ≡ true) × (p ∈ k.inst.neg)) → (ng : Nogood)
          → (ng ∈ (set_of None (lit x true ∷ lit p up ∷ []))) → (ng ∈ (each_with x false k.inst.pos)) ⊎ (ng ∈ (each_with x true k.inst.neg))
      each p up (inl w) ng i = inl (in_each x false k.inst.pos p w.1 ng
          (subst (λ z. (ng ∈ (set_of None (lit x true ∷ lit p z ∷ [])))) w.0 i))
      each p up (inr w) ng i = inr (in_each x true k.inst.neg p w.1 ng
          (subst (λ z. (ng ∈ (set_of None (lit x true ∷ lit p z ∷ [])))) w.0 i))

      differs : (p : ℕ) → (a : GroundAtom) × IsName s p a → x ≡ p → ⊥
      differs p w e = let bad : Some (BodyOf j) ≡ Some (Named w.0) = sym n ∙ ap (slice_get s.names) e ∙ w.1 in cc

      stored_by : (p : ℕ) (up : Bool) → ((up ≡ false) × (p ∈ k.inst.pos)) ⊎ ((up ≡ true) × (p ∈ k.inst.neg))
          → (a : GroundAtom) × IsName s p a → (nogood None (lit x true ∷ lit p up ∷ []) ∈ s.nogoods)
      stored_by p up i w = elim (set_of-or_clash None (lit x true ∷ lit p up ∷ [])) [
        | inl m ↦ subst (λ (ls : List Lit). nogood None ls ∈ s.nogoods) (once_pair x p up (differs p w))
            (g.stored (nogood None (once (lit x true ∷ lit p up ∷ [])))
            (in_table k.inst.kind k.body k.inst x b.2 g.fits _ (each p up i _ m)))
        | inr c ↦ absurd (no_clash x p up (differs p w) c)
      ]

      stored : (p : ℕ) (up : Bool) → ((p ∈ k.inst.pos) × (up ≡ false)) ⊎ ((p ∈ k.inst.neg) × (up ≡ true)) → (a : GroundAtom) × IsName s p a
          → (nogood None (lit x true ∷ lit p up ∷ []) ∈ s.nogoods)
      stored p up (inl w) n' = stored_by p up (inl (w.1, w.0)) n'
      stored p up (inr w) n' = stored_by p up (inr (w.1, w.0)) n'

      active : ((y : ℕ) → (y ∈ k.inst.pos) → value_of s.stack y ≡ Some True)
          → ((y : ℕ) → (y ∈ k.inst.neg) → value_of s.stack y ≡ Some False) → (v : Option Value) → value_of s.stack x ≡ v
          → (value_of s.stack x ≡ Some True) ⊎ (value_of s.stack x ≡ Some False)
      active at af None e = absurd (settled.none_active k among x
          (record {
            has_body = b.2;
            not_yet = inl e;
            pos_true = at;
            neg_not_up = λ y i u. let f = af y i in let q : Some u.0 ≡ Some False = sym u.1 ∙ f in let v : u.0 ≡ False =
                cc in let w : false ≡ true = sym (ap is_up v) ∙ u.2 in cc;
          }))
      active at af (Some MustBe) e =
          absurd (settled.none_active k among x
          (record {
            has_body = b.2;
            not_yet = inr e;
            pos_true = at;
            neg_not_up = λ y i u. let f = af y i in let q : Some u.0 ≡ Some False = sym u.1 ∙ f in let v : u.0 ≡ False =
                cc in let w : false ≡ true = sym (ap is_up v) ∙ u.2 in cc;
          }))
      active at af (Some True) e = inl e
      active at af (Some False) e = inr e

  -- each id stands for something true or false
  named_node : (x : ℕ) (n : AtomNode GroundAtom) → slice_get s.names x ≡ Some n
      → (value_of s.stack x ≡ Some True) ⊎ (value_of s.stack x ≡ Some False)
  named_node x (Named a) e = named_value x a e
  named_node x (BodyOf j) e = body_value x j e

  -- so it has a value
  some_value : (x : ℕ) → (value_of s.stack x ≡ Some True) ⊎ (value_of s.stack x ≡ Some False) → (v : Value) × (value_of s.stack x ≡ Some v)
  some_value x (inl e) = (True, e)
  some_value x (inr e) = (False, e)

  -- an atom with a value is known
  valued_known : (stack : List Entry) → Good rules s stack → (x : ℕ) (v : Value) → value_of stack x ≡ Some v → Known s x
  valued_known [] g x v e = cc
  valued_known (y ∷ rest) g x v e = elim (value_cases y rest x) [
    | inl c ↦ subst (λ z. Known s z) c.0 g.0.known
    | inr c ↦ valued_known rest g.1 x v (sym c.1 ∙ e)
  ]

  -- no atom is must-be-true and true or false
  not_both : (x : ℕ) → value_of s.stack x ≡ Some MustBe → (value_of s.stack x ≡ Some True) ⊎ (value_of s.stack x ≡ Some False) → ⊥
  not_both x e (inl f) = cc
  not_both x e (inr f) = cc

  -- so none is must-be-true
  at_node : (x : ℕ) → value_of s.stack x ≡ Some MustBe → Known s x → ⊥
  at_node x e (OfAtom a, h) = must x a h e
  at_node x e (OfBody i, h) = not_both x e (body_value x h.number h.node)

  -- the state is full
  pub full_of : IsFull rules s
  full_of = record {
    all_valued = λ x n e. some_value x (named_node x n e);
    none_must_be = λ x e. at_node x e (valued_known s.stack valid.good x MustBe e);
    none_struck = settled.none_struck;
    none_due = settled.none_due;
    none_waiting = settled.none_waiting;
  }
