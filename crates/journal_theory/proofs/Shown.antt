-- In a full state the true atoms are a core answer set.
use Rattle.std.proofs.Common.{◌≡◌, ℕ, ◌⊎◌, Bool, true, false, ◌||◌, List, [], ◌∷◌, ◌++◌, refl, sym, ◌∙◌, ap, subst, inl, inr}
use Rattle.std.specs.Prelude.{Option, Some, None, slice_get}
use Rattle.std.specs.List.{list_any}
use Rattle.lists.specs.Lists.{◌∈◌}
use Rattle.lists.proofs.ListLemmas.{∈-append_left, ∈-append_right, ∈-append_cases}
use Rattle.search_values.specs.declared.entry.Entry.{Entry}
use Rattle.search_values.specs.Values.{Value, True, MustBe, False, Lit, is_up, lit, value_of, Holds}
use Rattle.search_values.specs.Nogoods.{Nogood}
use Rattle.search_values.specs.Instances.{Kind, Plain, Choice, Constraint, Instance, body_holds, IsHead, KindHolds, IsFounded, Rules, IsAnswerUnder}
use Rattle.search_values.specs.Tables.{Made, BodyFits, lits_of, once, set_of, each_with, with_body, table_of}
use Rattle.search_values.specs.Ids.{AtomNode, Named, BodyOf, Names, KindNames, Denotes}
use Rattle.journal_theory.specs.States.{State, IsName, IsFull}
use Rattle.search_values.proofs.Basics.{bool_cases, BodyParts, body_parts, body_from, value_cases}
use Rattle.journal_theory.proofs.Stack.{Good, true_stays}
use Rattle.search_values.proofs.Tables.{nogood, once-from, set_of-or_clash, in_lits_of}
use Rattle.journal_theory.proofs.Central.{GoodMade, Valid, names_in, true_at}
use Rattle.journal_theory.proofs.Support.{SupportOf, Supported, Founds}

-- the atom of a true entry, before the others
abbrev pub atom_of : {A : Type 0} → Value → Option (AtomNode A) → List A → List A
atom_of True (Some (Named a)) rest = a ∷ rest
atom_of True (Some (BodyOf k)) rest = rest
atom_of True None rest = rest
atom_of MustBe n rest = rest
atom_of False n rest = rest

-- the named atoms that are true, the newest first
abbrev pub true_atoms : {A : Type 0} → List (AtomNode A) → List Entry → List A
true_atoms names [] = []
true_atoms names (e ∷ rest) = atom_of e.value (slice_get names e.atom) (true_atoms names rest)

module _ {N A K : Type 0} (core : Rules N A K) (s : State N A K) (valid : Valid core s) (founds : Founds s) (full : IsFull core s) where
  atom_cases : (v : Value) (n : Option (AtomNode A)) (rest : List A) (a : A) → a ∈ atom_of v n rest → ((v ≡ True) × (n ≡ Some (Named a))) ⊎ (a ∈ rest)
  atom_cases True (Some (Named b)) rest a (inl e) = inl (refl, ap (λ z. Some (Named z)) (sym e))
  atom_cases True (Some (Named b)) rest a (inr i) = inr i
  atom_cases True (Some (BodyOf k)) rest a i = inr i
  atom_cases True None rest a i = inr i
  atom_cases MustBe n rest a i = inr i
  atom_cases False n rest a i = inr i

  atom_keeps : (v : Value) (n : Option (AtomNode A)) (rest : List A) (a : A) → a ∈ rest → a ∈ atom_of v n rest
  atom_keeps True (Some (Named b)) rest a i = inr i
  atom_keeps True (Some (BodyOf k)) rest a i = i
  atom_keeps True None rest a i = i
  atom_keeps MustBe n rest a i = i
  atom_keeps False n rest a i = i

  atom_here : (v : Value) (n : Option (AtomNode A)) (rest : List A) (a : A) → v ≡ True → n ≡ Some (Named a) → a ∈ atom_of v n rest
  atom_here True (Some (Named b)) rest a e f = inl (cc)
  atom_here True (Some (BodyOf k)) rest a e f = cc
  atom_here True None rest a e f = cc
  atom_here MustBe n rest a e f = cc
  atom_here False n rest a e f = cc

  -- an id of the atom is true on the stack
  abbrev pub IsTrueOn : List Entry → A → Type 0
  IsTrueOn stack a = (x : ℕ) × IsName s x a × (value_of stack x ≡ Some True)

  from_true : (stack : List Entry) → Good core s stack → (a : A) → a ∈ true_atoms s.names stack → IsTrueOn stack a
  from_true [] g a i = absurd i
  from_true (e ∷ rest) g a i = elim (atom_cases e.value (slice_get s.names e.atom) (true_atoms s.names rest) a i) [
    | inl w ↦ (e.atom, w.1, elim (value_cases e rest e.atom) [ inl c ↦ (c.1 ∙ ap (λ z. Some z) w.0) | inr c ↦ absurd (c.0 refl) ])
    | inr j ↦ (let r = from_true rest g.1 a j in (r.0, r.1, true_stays core s e rest g.0 r.0 r.2))
  ]

  to_true : (stack : List Entry) → (x : ℕ) (a : A) → IsName s x a → value_of stack x ≡ Some True → a ∈ true_atoms s.names stack
  to_true [] x a n h = cc
  to_true (e ∷ rest) x a n h = elim (value_cases e rest x) [
    | inl c ↦ (let w : Some e.value ≡ Some True = sym c.1 ∙ h in let v : e.value ≡ True = cc in
        atom_here e.value (slice_get s.names e.atom) (true_atoms s.names rest) a v (subst (λ z. slice_get s.names z ≡ Some (Named a)) (sym c.0) n))
    | inr c ↦ atom_keeps e.value (slice_get s.names e.atom) (true_atoms s.names rest) a (to_true rest x a n (sym c.1 ∙ h))
  ]

  -- the set
  abbrev pub true_set : A → Bool
  true_set a = list_any (core.same_atom a) (true_atoms s.names s.stack)

  or_split : (p q : Bool) → (p || q) ≡ true → (p ≡ true) ⊎ (q ≡ true)
  or_split true q h = inl refl
  or_split false q h = inr h

  any_in : (xs : List A) (a : A) → list_any (core.same_atom a) xs ≡ true → a ∈ xs
  any_in [] a h = cc
  any_in (b ∷ xs) a h = elim (or_split (core.same_atom a b) (list_any (core.same_atom a) xs) h) [ inl e ↦ inl (core.atoms_same a b e) | inr k ↦ inr (any_in xs a k) ]

  in_any : (xs : List A) (a : A) → a ∈ xs → list_any (core.same_atom a) xs ≡ true
  in_any [] a i = absurd i
  in_any (b ∷ xs) a (inl e) = ap (λ z. z || list_any (core.same_atom a) xs) (subst (λ z. core.same_atom a z ≡ true) e (core.atom_itself a))
  in_any (b ∷ xs) a (inr i) = or_right (core.same_atom a b) (list_any (core.same_atom a) xs) (in_any xs a i)
    where
      or_right : (p q : Bool) → q ≡ true → (p || q) ≡ true
      or_right true q h = refl
      or_right false q h = h

  -- an atom of the set is true
  pub set_true : (a : A) → true_set a ≡ true → IsTrueOn s.stack a
  set_true a h = from_true s.stack valid.good a (any_in (true_atoms s.names s.stack) a h)

  -- a true atom is in the set
  pub true_in_set : (x : ℕ) (a : A) → IsName s x a → value_of s.stack x ≡ Some True → true_set a ≡ true
  true_in_set x a n h = in_any (true_atoms s.names s.stack) a (to_true s.stack x a n h)

  -- a named atom that is not in the set is false
  pub out_false : (x : ℕ) (a : A) → IsName s x a → true_set a ≡ false → value_of s.stack x ≡ Some False
  out_false x a n h = go (full.all_valued x (Named a) n)
    where
      go : (v : Value) × (value_of s.stack x ≡ Some v) → value_of s.stack x ≡ Some False
      go (True, e) = (let t = true_in_set x a n e in cc)
      go (MustBe, e) = absurd (full.none_must_be x e)
      go (False, e) = e

  not_both : (x : ℕ) → Holds s.stack (lit x true) → Holds s.stack (lit x false) → ⊥
  not_both x p q =
      let e : Some p.0 ≡ Some q.0 = sym p.1 ∙ q.1 in
      let f : p.0 ≡ q.0 = cc in
      let u = p.2 in
      let w : is_up p.0 ≡ false = ap is_up f ∙ q.2 in
      cc

  -- the literals of a nogood of the table do not all hold
  pub not_all : (head : Option ℕ) (ls : List Lit) → ((ng : Nogood) → ng ∈ set_of head ls → ng ∈ s.nogoods) → ((l : Lit) → l ∈ ls → Holds s.stack l) → ⊥
  not_all head ls stored holds = elim (set_of-or_clash head ls) [
    | inl k ↦ full.none_struck (nogood head (once ls)) (stored (nogood head (once ls)) k) (λ l i. holds l (once-from ls l i))
    | inr c ↦ not_both c.atom (holds (lit c.atom true) c.positive) (holds (lit c.atom false) c.negative)
  ]

  -- a true atom's positive literal holds
  pub hold_true : (x : ℕ) → value_of s.stack x ≡ Some True → Holds s.stack (lit x true)
  hold_true x e = (True, e, refl)

  -- a false atom's negative literal holds
  pub hold_false : (x : ℕ) → value_of s.stack x ≡ Some False → Holds s.stack (lit x false)
  hold_false x e = (False, e, refl)

  -- a literal holds as its atom and sign do
  pub holds_at : (l : Lit) (x : ℕ) (b : Bool) → l.atom ≡ x → l.positive ≡ b → Holds s.stack (lit x b) → Holds s.stack l
  holds_at l x b p q h = (h.0, ap (value_of s.stack) p ∙ h.1, h.2 ∙ sym q)

  -- literals hold as their ids do
  pub lits_hold : (up : Bool) (ids : List ℕ) → ((x : ℕ) → x ∈ ids → Holds s.stack (lit x up)) → (l : Lit) → l ∈ lits_of up ids → Holds s.stack l
  lits_hold up ids h l i = let r = in_lits_of up ids l i in holds_at l l.atom up refl r.1 (h l.atom r.0)

  -- a literal that is this one holds as it does
  pub one_holds : (x : ℕ) (b : Bool) → Holds s.stack (lit x b) → (l : Lit) → l ≡ lit x b → Holds s.stack l
  one_holds x b h l e = subst (λ (z : Lit). Holds s.stack z) (sym e) h

  -- a value that is not false is true
  pub is_true : (x : ℕ) → (v : Value) × (value_of s.stack x ≡ Some v) → (value_of s.stack x ≡ Some False → ⊥) → value_of s.stack x ≡ Some True
  is_true x (True, e) h = e
  is_true x (MustBe, e) h = absurd (full.none_must_be x e)
  is_true x (False, e) h = absurd (h e)

  -- closed

  abbrev PosTrue : Made K → Type 0
  PosTrue k = (p : ℕ) → p ∈ k.inst.pos → value_of s.stack p ≡ Some True

  abbrev NegFalse : Made K → Type 0
  NegFalse k = (n : ℕ) → n ∈ k.inst.neg → value_of s.stack n ≡ Some False

  table_closed : (k : Made K) (g : GoodMade core s k) → PosTrue k → NegFalse k
      → (kind : Kind ℕ) (ki : Kind A) → KindNames s.names kind ki → (neg : List ℕ) → k.inst.neg ≡ neg → (body : Option ℕ) → k.body ≡ body → BodyFits kind neg body
      → ((ng : Nogood) → ng ∈ table_of kind body k.inst → ng ∈ s.nogoods)
      → KindHolds true_set ki
  table_closed k g pos neg (Plain h) (Plain a) d ns ne None be fits stored =
      true_in_set h a d (is_true h (full.all_valued h (Named a) d) (λ f.
      not_all (Some h) (lit h false ∷ lits_of true k.inst.pos) stored (λ l i. elim i [
        | inl e ↦ one_holds h false (hold_false h f) l e
        | inr j ↦ lits_hold true k.inst.pos (λ x m. hold_true x (pos x m)) l j
      ])))
  table_closed k g pos neg (Plain h) (Plain a) d ns ne (Some b) be fits stored =
      true_in_set h a d (is_true h (full.all_valued h (Named a) d) (λ f.
      not_all (Some h) (lit h false ∷ lit b true ∷ []) (λ ng i. stored ng (∈-append_right ng (first ++ each_with b false k.inst.pos ++ each_with b true k.inst.neg) (set_of (Some h) (lit h false ∷ lit b true ∷ [])) i)) (λ l i. elim i [
        | inl e ↦ one_holds h false (hold_false h f) l e
        | inr j ↦ elim j [ inl e ↦ one_holds b true (hold_true b body_is_true) l e | inr z ↦ absurd z ]
      ])))
    where
      first_lits : List Lit
      first_lits = lit b false ∷ [] ++ lits_of true k.inst.pos ++ lits_of false k.inst.neg

      first : List Nogood
      first = set_of (Some b) (lit b false ∷ [] ++ lits_of true k.inst.pos ++ lits_of false k.inst.neg)

      node : (j : ℕ) × (slice_get s.names b ≡ Some (BodyOf j)) × (slice_get s.made j ≡ Some k)
      node = g.body b be

      body_is_true : value_of s.stack b ≡ Some True
      body_is_true = is_true b (full.all_valued b (BodyOf node.0) node.1) (λ f.
          not_all (Some b) (lit b false ∷ [] ++ lits_of true k.inst.pos ++ lits_of false k.inst.neg)
          (λ ng i. stored ng (∈-append_left ng (first ++ each_with b false k.inst.pos ++ each_with b true k.inst.neg) (set_of (Some h) (lit h false ∷ lit b true ∷ [])) (∈-append_left ng (first ++ each_with b false k.inst.pos) (each_with b true k.inst.neg) (∈-append_left ng first (each_with b false k.inst.pos) i))))
          (λ l i. elim i [
            | inl e ↦ one_holds b false (hold_false b f) l e
            | inr j ↦ elim (∈-append_cases l (lits_of true k.inst.pos) (lits_of false k.inst.neg) j) [
              | inl m ↦ lits_hold true k.inst.pos (λ x q. hold_true x (pos x q)) l m
              | inr m ↦ lits_hold false k.inst.neg (λ x q. hold_false x (neg x q)) l m
            ]
          ]))
  table_closed k g pos neg (Choice h) (Choice a) d ns ne body be fits stored = tt
  table_closed k g pos neg Constraint Constraint d ns ne body be fits stored =
      not_all None (lits_of true k.inst.pos ++ lits_of false k.inst.neg) stored (λ l i. elim (∈-append_cases l (lits_of true k.inst.pos) (lits_of false k.inst.neg) i) [
        | inl m ↦ lits_hold true k.inst.pos (λ x q. hold_true x (pos x q)) l m
        | inr m ↦ lits_hold false k.inst.neg (λ x q. hold_false x (neg x q)) l m
      ])
  table_closed k g pos neg (Plain h) (Choice a) d ns ne body be fits stored = absurd d
  table_closed k g pos neg (Plain h) Constraint d ns ne body be fits stored = absurd d
  table_closed k g pos neg (Choice h) (Plain a) d ns ne body be fits stored = absurd d
  table_closed k g pos neg (Choice h) Constraint d ns ne body be fits stored = absurd d
  table_closed k g pos neg Constraint (Plain a) d ns ne body be fits stored = absurd d
  table_closed k g pos neg Constraint (Choice a) d ns ne body be fits stored = absurd d

  set_closed : (m : K) (i : Instance A) → core.instance_of s.numbers m ≡ Some i → body_holds true_set i ≡ true → KindHolds true_set i.kind
  set_closed m i e holds =
      let parts : BodyParts true_set i = body_parts true_set i holds in
      let due = full.none_due m i e (λ a j. let r = set_true a (parts.pos a j) in (r.0, r.1, (True, r.2, refl))) in
      let k : Made K = due.0 in
      let g : GoodMade core s k = valid.made k due.1 in
      let p : core.instance_of s.numbers k.maker ≡ Some g.inst = g.of_core in
      let q : core.instance_of s.numbers k.maker ≡ core.instance_of s.numbers m = core.makers_same s.numbers k.maker m due.2 in
      let r : Some g.inst ≡ Some i = sym p ∙ q ∙ e in
      let same : g.inst ≡ i = cc in
      let d : Denotes s.names k.inst i = subst (λ (z : Instance A). Denotes s.names k.inst z) same g.denotes in
      table_closed k g
      (λ x j. let n = names_in s.names k.inst.pos i.pos d.pos x j in let t = set_true n.0 (parts.pos n.0 n.1) in
      true_at s.stack t.0 x (valid.once t.0 x n.0 t.1 n.2) t.2)
      (λ x j. let n = names_in s.names k.inst.neg i.neg d.neg x j in out_false x n.0 n.2 (parts.neg n.0 n.1))
      k.inst.kind i.kind d.kind k.inst.neg refl k.body refl g.fits g.stored

  -- founded

  in_list_of : (xs : List ℕ) → xs ≡ [] → (n : ℕ) → n ∈ xs → ⊥
  in_list_of xs e n i = let z : n ∈ [] = subst (λ zs. (n ∈ zs)) e i in z

  each_struck : (b : ℕ) (ids : List ℕ) → ((ng : Nogood) → ng ∈ each_with b true ids → ng ∈ s.nogoods) → value_of s.stack b ≡ Some True → (n : ℕ) → n ∈ ids → value_of s.stack n ≡ Some True → ⊥
  each_struck b [] stored bt n i t = i
  each_struck b (x ∷ ids) stored bt n (inl e) t =
      not_all None (lit b true ∷ lit x true ∷ []) (λ ng j. stored ng (∈-append_left ng (set_of None (lit b true ∷ lit x true ∷ [])) (each_with b true ids) j)) (λ l j. elim j [
        | inl f ↦ one_holds b true (hold_true b bt) l f
        | inr g ↦ elim g [ inl f ↦ one_holds x true (hold_true x (subst (λ z. value_of s.stack z ≡ Some True) e t)) l f | inr z ↦ absurd z ]
      ])
  each_struck b (x ∷ ids) stored bt n (inr i) t = each_struck b ids (λ ng j. stored ng (∈-append_right ng (set_of None (lit b true ∷ lit x true ∷ [])) (each_with b true ids) j)) bt n i t

  body_neg : (k : Made K) (b : ℕ) (head : List Lit) (h : ℕ) → ((ng : Nogood) → ng ∈ with_body b head k.inst h → ng ∈ s.nogoods) → value_of s.stack b ≡ Some True → (n : ℕ) → n ∈ k.inst.neg → value_of s.stack n ≡ Some True → ⊥
  body_neg k b head h stored bt = each_struck b k.inst.neg
      (λ ng j. stored ng (∈-append_left ng (set_of (Some b) (lit b false ∷ head ++ lits_of true k.inst.pos ++ lits_of false k.inst.neg) ++ each_with b false k.inst.pos ++ each_with b true k.inst.neg) (set_of (Some h) (lit h false ∷ lit b true ∷ []))
      (∈-append_right ng (set_of (Some b) (lit b false ∷ head ++ lits_of true k.inst.pos ++ lits_of false k.inst.neg) ++ each_with b false k.inst.pos) (each_with b true k.inst.neg) j)))
      bt

  -- the negative atoms of an instance that gave a head are false in the end
  neg_false : (k : Made K) → (g : GoodMade core s k) → (kind : Kind ℕ) → k.inst.kind ≡ kind → (neg : List ℕ) → k.inst.neg ≡ neg → (body : Option ℕ) → k.body ≡ body → BodyFits kind neg body
      → (h : ℕ) → IsHead kind h
      → ((ng : Nogood) → ng ∈ table_of kind body k.inst → ng ∈ s.nogoods)
      → ((b : ℕ) → k.body ≡ Some b → value_of s.stack b ≡ Some True)
      → (n : ℕ) → n ∈ k.inst.neg → value_of s.stack n ≡ Some True → ⊥
  neg_false k g (Plain h) ke [] ne body be fits hh same stored bt n i t = in_list_of k.inst.neg ne n i
  neg_false k g (Plain h) ke (m ∷ ms) ne None be fits hh same stored bt n i t = let w : None ≡ Some fits.0 = fits.1 in cc
  neg_false k g (Plain h) ke (m ∷ ms) ne (Some b) be fits hh same stored bt n i t = body_neg k b [] h stored (bt b be) n i t
  neg_false k g (Choice h) ke ns ne None be fits hh same stored bt n i t = let w : None ≡ Some fits.0 = fits.1 in cc
  neg_false k g (Choice h) ke ns ne (Some b) be fits hh same stored bt n i t = body_neg k b (lit h true ∷ []) h stored (bt b be) n i t
  neg_false k g Constraint ke ns ne body be fits hh same stored bt n i t = same

  kind_back : (kd : Kind ℕ) (ki : Kind A) → KindNames s.names kd ki → (x : ℕ) (a : A) → IsHead kd x → IsName s x a → IsHead ki a
  kind_back (Plain y) (Plain b) d x a h n = let w : Some (Named b) ≡ Some (Named a) = sym d ∙ ap (slice_get s.names) h ∙ n in cc
  kind_back (Choice y) (Choice b) d x a h n = let w : Some (Named b) ≡ Some (Named a) = sym d ∙ ap (slice_get s.names) h ∙ n in cc
  kind_back Constraint Constraint d x a h n = h
  kind_back (Plain y) (Choice b) d x a h n = absurd d
  kind_back (Plain y) Constraint d x a h n = absurd d
  kind_back (Choice y) (Plain b) d x a h n = absurd d
  kind_back (Choice y) Constraint d x a h n = absurd d
  kind_back Constraint (Plain b) d x a h n = absurd d
  kind_back Constraint (Choice b) d x a h n = absurd d

  abbrev Behind : A → List A → Type 0
  Behind a earlier = (m : K) × (i : Instance A) × (core.instance_of s.numbers m ≡ Some i) × IsHead i.kind a × (body_holds true_set i ≡ true) × ((p : A) → p ∈ i.pos → p ∈ earlier)

  behind : (rest : List Entry) → ((x : ℕ) → value_of rest x ≡ Some True → value_of s.stack x ≡ Some True) → (x : ℕ) (a : A) → IsName s x a → SupportOf s x rest → Behind a (true_atoms s.names rest)
  behind rest up x a n sup =
      let k : Made K = sup.0 in
      let g : GoodMade core s k = valid.made k sup.1 in
      elim sup.3 [
        | inl is_body ↦ (let w = g.body x is_body in let bad = sym n ∙ w.1 in cc)
        | inr hd ↦ (
          k.maker,
          g.inst,
          g.of_core,
          kind_back k.inst.kind g.inst.kind g.denotes.kind x a hd.0 n,
          body_from true_set g.inst (record {
            pos = λ p j. let r = back_in k g p j in true_in_set r.0 p r.2 (up r.0 (sup.2 r.0 r.1));
            neg = λ q j. elim (bool_cases (true_set q)) [
              | inl t ↦ (let r = neg_in k g q j in let v = set_true q t in
                  absurd (neg_false k g k.inst.kind refl k.inst.neg refl k.body refl g.fits x hd.0 g.stored (λ b e. up b (hd.1 b e)) r.0 r.1 (subst (λ z. value_of s.stack z ≡ Some True) (valid.once v.0 r.0 q v.1 r.2) v.2)))
              | inr f ↦ f
            ];
          }),
          (λ p j. let r = back_in k g p j in to_true rest r.0 p r.2 (sup.2 r.0 r.1)),
        )
      ]
    where
      names_back : (xs : List ℕ) (atoms : List A) → Names s.names xs atoms → (a : A) → a ∈ atoms → (x : ℕ) × (x ∈ xs) × IsName s x a
      names_back [] [] h a i = absurd i
      names_back [] (b ∷ atoms) h a i = absurd h
      names_back (y ∷ xs) [] h a i = absurd h
      names_back (y ∷ xs) (b ∷ atoms) h a (inl e) = (y, inl refl, subst (λ z. IsName s y z) (sym e) h.0)
      names_back (y ∷ xs) (b ∷ atoms) h a (inr i) = let r = names_back xs atoms h.1 a i in (r.0, inr r.1, r.2)

      back_in : (k : Made K) (g : GoodMade core s k) (p : A) → p ∈ g.inst.pos → (x : ℕ) × (x ∈ k.inst.pos) × IsName s x p
      back_in k g p j = names_back k.inst.pos g.inst.pos g.denotes.pos p j

      neg_in : (k : Made K) (g : GoodMade core s k) (p : A) → p ∈ g.inst.neg → (x : ℕ) × (x ∈ k.inst.neg) × IsName s x p
      neg_in k g p j = names_back k.inst.neg g.inst.neg g.denotes.neg p j

  founded_entry : (v : Value) (x : ℕ) (node : Option (AtomNode A)) → slice_get s.names x ≡ node → (rest : List Entry)
      → (v ≡ True → SupportOf s x rest)
      → ((y : ℕ) → value_of rest y ≡ Some True → value_of s.stack y ≡ Some True)
      → (v ≡ True → value_of s.stack x ≡ Some True)
      → (v ≡ True → value_of rest x ≡ Some True → ⊥)
      → Good core s rest
      → IsFounded (core.instance_of s.numbers) true_set (true_atoms s.names rest)
      → IsFounded (core.instance_of s.numbers) true_set (atom_of v node (true_atoms s.names rest))
  founded_entry True x (Some (Named a)) n rest sup up here fresh g f = (
    behind rest up x a n (sup refl),
    (λ i. let r = from_true rest g a i in fresh refl (subst (λ z. value_of rest z ≡ Some True) (valid.once r.0 x a r.1 n) r.2)),
    true_in_set x a n (here refl),
    f,
  )
  founded_entry True x (Some (BodyOf k)) n rest sup up here fresh g f = f
  founded_entry True x None n rest sup up here fresh g f = f
  founded_entry MustBe x nd n rest sup up here fresh g f = f
  founded_entry False x nd n rest sup up here fresh g f = f

  founded_stack : (stack : List Entry) → Good core s stack → Supported s stack → ((y : ℕ) → value_of stack y ≡ Some True → value_of s.stack y ≡ Some True) → IsFounded (core.instance_of s.numbers) true_set (true_atoms s.names stack)
  founded_stack [] g h up = tt
  founded_stack (e ∷ rest) g h up =
      founded_entry e.value e.atom (slice_get s.names e.atom) refl rest h.0
      (λ y t. up y (true_stays core s e rest g.0 y t))
      (λ t. up e.atom (elim (value_cases e rest e.atom) [ inl c ↦ (c.1 ∙ ap (λ z. Some z) t) | inr c ↦ absurd (c.0 refl) ]))
      (λ t w. elim g.0.may_push [ inl n ↦ cc | inr m ↦ (let q = m.0 in cc) ])
      g.1
      (founded_stack rest g.1 h.1 (λ y t. up y (true_stays core s e rest g.0 y t)))

  -- law: the true atoms of a full state are a core answer set
  pub true_set_answers : IsAnswerUnder core s.numbers true_set
  true_set_answers = record {
    closed = set_closed;
    order = true_atoms s.names s.stack;
    all_there = λ a h. any_in (true_atoms s.names s.stack) a h;
    numbered = λ a h. let r = set_true a h in full.none_waiting r.0 a r.1 (True, r.2, refl);
    founded = founded_stack s.stack valid.good founds.supported (λ y t. t);
  }
