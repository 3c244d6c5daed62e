-- In a full state the set of the true atoms agrees with every value, those of bodies too.
use Rattle.std.proofs.Common.{◌≡◌, ℕ, Bool, true, false, not, List, [], ◌∷◌, ◌++◌, refl, sym, ◌∙◌, ap, subst, inl, inr}
use Rattle.std.specs.Prelude.{Option, Some, None}
use Rattle.lists.specs.Lists.{◌∈◌}
use Rattle.lists.proofs.ListLemmas.{∈-append_left, ∈-append_right, ∈-append_cases}
use Rattle.search_values.specs.Values.{Value, True, MustBe, False, Lit, is_up, lit, value_of, Holds, full_value}
use Rattle.search_values.specs.Nogoods.{Nogood}
use Rattle.search_values.specs.Instances.{Kind, Plain, Choice, Constraint, Instance, body_holds, head_taken, body_true, Rules}
use Rattle.search_values.specs.Tables.{Made, BodyFits, lits_of, set_of, each_with, with_body, table_of, nogoods_of}
use Rattle.search_values.specs.Ids.{Named, KindNames, Denotes}
use Rattle.journal_theory.specs.States.{State, IsName, truth, IsFull}
use Rattle.search_values.proofs.Basics.{get_in, and_left, and_right, and_intro, bool_cases, BodyParts, body_parts, body_from}
use Rattle.journal_theory.proofs.Meaning.{OfAtom, OfBody, truth_means, Known}
use Rattle.journal_theory.proofs.Central.{Valid, names_in}
use Rattle.journal_theory.proofs.Instances.{names_back}
use Rattle.journal_theory.proofs.Support.{Founds}
use Rattle.journal_theory.proofs.Shown.{true_set, set_true, true_in_set, not_all, lits_hold, out_false}
use Rattle.journal_theory.proofs.BodyNames.{BodyNames}

module _ {N A K : Type 0} (core : Rules N A K) (s : State N A K) (valid : Valid core s) (founds : Founds s) (bodies : BodyNames s) (full : IsFull core s) where
  abbrev the_set : A → Bool
  the_set = true_set core s valid founds full

  -- a named atom that is false is not in the set
  false_out : (x : ℕ) (a : A) → IsName s x a → value_of s.stack x ≡ Some False → the_set a ≡ false
  false_out x a n f = elim (bool_cases (the_set a)) [
    | inl t ↦ (let r = set_true core s valid founds full a t in
        let w : value_of s.stack x ≡ Some True = subst (λ z. value_of s.stack z ≡ Some True) (valid.once r.0 x a r.1 n) r.2 in cc)
    | inr e ↦ e
  ]

  atom_agrees : (x : ℕ) (a : A) → IsName s x a → (v : Value) → value_of s.stack x ≡ Some v → the_set a ≡ is_up v
  atom_agrees x a n True e = true_in_set core s valid founds full x a n e
  atom_agrees x a n MustBe e = absurd (full.none_must_be x e)
  atom_agrees x a n False e = false_out x a n e

  -- the literal of an atom beside a true body does not hold
  each_fails : (b : ℕ) (positive : Bool) (ids : List ℕ) → ((ng : Nogood) → ng ∈ each_with b positive ids → ng ∈ s.nogoods) → value_of s.stack b ≡ Some True
      → (x : ℕ) → x ∈ ids → ¬ Holds s.stack (lit x positive)
  each_fails b positive [] stored bt x i holds = i
  each_fails b positive (y ∷ ids) stored bt x (inl e) holds =
      not_all core s valid founds full None (lit b true ∷ lit y positive ∷ []) (λ ng j. stored ng (∈-append_left ng (set_of None (lit b true ∷ lit y positive ∷ [])) (each_with b positive ids) j)) pair
    where
      pair : (l : Lit) → l ∈ (lit b true ∷ lit y positive ∷ []) → Holds s.stack l
      pair l (inl f) = subst (λ (z : Lit). Holds s.stack z) (sym f) (True, bt, refl)
      pair l (inr (inl f)) = subst (λ (z : Lit). Holds s.stack z) (sym f) (subst (λ z. Holds s.stack (lit z positive)) e holds)
      pair l (inr (inr f)) = absurd f
  each_fails b positive (y ∷ ids) stored bt x (inr i) holds =
      each_fails b positive ids (λ ng j. stored ng (∈-append_right ng (set_of None (lit b true ∷ lit y positive ∷ [])) (each_with b positive ids) j)) bt x i holds

  -- what is stored of an instance with a body atom
  record Stored (k : Made K) (b : ℕ) (head : List Lit) (h : ℕ) : Type 0 where
    first : (ng : Nogood) → ng ∈ set_of (Some b) (lit b false ∷ head ++ lits_of true k.inst.pos ++ lits_of false k.inst.neg) → ng ∈ s.nogoods
    poss : (ng : Nogood) → ng ∈ each_with b false k.inst.pos → ng ∈ s.nogoods
    negs : (ng : Nogood) → ng ∈ each_with b true k.inst.neg → ng ∈ s.nogoods
    last : (ng : Nogood) → ng ∈ set_of (Some h) (lit h false ∷ lit b true ∷ []) → ng ∈ s.nogoods

  stored_parts : (k : Made K) (b : ℕ) (head : List Lit) (h : ℕ) → ((ng : Nogood) → ng ∈ with_body b head k.inst h → ng ∈ s.nogoods) → Stored k b head h
  stored_parts k b head h stored = record {
    first = λ ng i. stored ng (∈-append_left ng (one ++ two ++ three) four (∈-append_left ng (one ++ two) three (∈-append_left ng one two i)));
    poss = λ ng i. stored ng (∈-append_left ng (one ++ two ++ three) four (∈-append_left ng (one ++ two) three (∈-append_right ng one two i)));
    negs = λ ng i. stored ng (∈-append_left ng (one ++ two ++ three) four (∈-append_right ng (one ++ two) three i));
    last = λ ng i. stored ng (∈-append_right ng (one ++ two ++ three) four i);
  }
    where
      one : List Nogood
      one = set_of (Some b) (lit b false ∷ head ++ lits_of true k.inst.pos ++ lits_of false k.inst.neg)

      two : List Nogood
      two = each_with b false k.inst.pos

      three : List Nogood
      three = each_with b true k.inst.neg

      four : List Nogood
      four = set_of (Some h) (lit h false ∷ lit b true ∷ [])

  -- a value that is not this one is the other
  value_is : (x : ℕ) (a : A) → IsName s x a → (b : Bool) → ¬ Holds s.stack (lit x b) → value_of s.stack x ≡ Some (full_value (not b))
  value_is x a n b out = go (full.all_valued x (Named a) n) b out
    where
      go : (v : Value) × (value_of s.stack x ≡ Some v) → (b : Bool) → ¬ Holds s.stack (lit x b) → value_of s.stack x ≡ Some (full_value (not b))
      go (True, e) true out = absurd (out (True, e, refl))
      go (True, e) false out = e
      go (MustBe, e) b out = absurd (full.none_must_be x e)
      go (False, e) true out = e
      go (False, e) false out = absurd (out (False, e, refl))

  -- the body of a true body atom holds in the set
  true_body_holds : (k : Made K) (i : Instance A) → Denotes s.names k.inst i → (b : ℕ) (head : List Lit) (h : ℕ) → Stored k b head h → value_of s.stack b ≡ Some True → body_holds the_set i ≡ true
  true_body_holds k i d b head h st bt = body_from the_set i (record {
    pos = λ a j. let r = names_back s.names k.inst.pos i.pos d.pos a j in
        true_in_set core s valid founds full r.0 a r.2 (value_is r.0 a r.2 false (each_fails b false k.inst.pos st.poss bt r.0 r.1));
    neg = λ a j. let r = names_back s.names k.inst.neg i.neg d.neg a j in
        false_out r.0 a r.2 (value_is r.0 a r.2 true (each_fails b true k.inst.neg st.negs bt r.0 r.1));
  })

  -- the literals of a body that holds in the set hold
  body_lits_hold : (k : Made K) (i : Instance A) → Denotes s.names k.inst i → body_holds the_set i ≡ true → (l : Lit) → l ∈ (lits_of true k.inst.pos ++ lits_of false k.inst.neg) → Holds s.stack l
  body_lits_hold k i d bh l j = elim (∈-append_cases l (lits_of true k.inst.pos) (lits_of false k.inst.neg) j) [
    | inl m ↦ lits_hold core s valid founds full true k.inst.pos (λ x q. let r = names_in s.names k.inst.pos i.pos d.pos x q in
        let t = set_true core s valid founds full r.0 (parts.pos r.0 r.1) in
        (True, subst (λ z. value_of s.stack z ≡ Some True) (valid.once t.0 x r.0 t.1 r.2) t.2, refl)) l m
    | inr m ↦ lits_hold core s valid founds full false k.inst.neg (λ x q. let r = names_in s.names k.inst.neg i.neg d.neg x q in
        (False, out_false core s valid founds full x r.0 r.2 (parts.neg r.0 r.1), refl)) l m
  ]
    where
      parts : BodyParts the_set i
      parts = body_parts the_set i bh

  -- a false body atom is not true in the set
  false_body : (k : Made K) (i : Instance A) → Denotes s.names k.inst i → (b : ℕ) (head : List Lit) (h : ℕ) → Stored k b head h
      → (head_taken the_set i.kind ≡ true → (l : Lit) → l ∈ head → Holds s.stack l)
      → value_of s.stack b ≡ Some False → body_true the_set i ≡ false
  false_body k i d b head h st heads bf = elim (bool_cases (body_true the_set i)) [
    | inr f ↦ f
    | inl t ↦ absurd (not_all core s valid founds full (Some b) (lit b false ∷ head ++ lits_of true k.inst.pos ++ lits_of false k.inst.neg) st.first (all t))
  ]
    where
      all : body_true the_set i ≡ true → (l : Lit) → l ∈ (lit b false ∷ head ++ lits_of true k.inst.pos ++ lits_of false k.inst.neg) → Holds s.stack l
      all t l (inl e) = subst (λ (z : Lit). Holds s.stack z) (sym e) (False, bf, refl)
      all t l (inr j) = elim (∈-append_cases l (head ++ lits_of true k.inst.pos) (lits_of false k.inst.neg) j) [
        | inl m ↦ elim (∈-append_cases l head (lits_of true k.inst.pos) m) [
          | inl n ↦ heads (and_right (body_holds the_set i) (head_taken the_set i.kind) t) l n
          | inr n ↦ body_lits_hold k i d (and_left (body_holds the_set i) (head_taken the_set i.kind) t) l (∈-append_left l (lits_of true k.inst.pos) (lits_of false k.inst.neg) n)
        ]
        | inr m ↦ body_lits_hold k i d (and_left (body_holds the_set i) (head_taken the_set i.kind) t) l (∈-append_right l (lits_of true k.inst.pos) (lits_of false k.inst.neg) m)
      ]

  body_agrees : (x : ℕ) (k : Made K) (i : Instance A) → Denotes s.names k.inst i → ((ng : Nogood) → ng ∈ nogoods_of k → ng ∈ s.nogoods) → k.body ≡ Some x
      → (kind : Kind ℕ) (kind' : Kind A) → k.inst.kind ≡ kind → i.kind ≡ kind' → KindNames s.names kind kind' → (body : Option ℕ) → k.body ≡ body → (neg : List ℕ) → BodyFits kind neg body
      → (v : Value) → value_of s.stack x ≡ Some v → body_true the_set i ≡ is_up v
  body_agrees x k i d stored has kind kind' ke ie nm None be neg fits v e = (let w : None ≡ Some x = sym be ∙ has in cc)
  body_agrees x k i d stored has kind kind' ke ie nm (Some b) be neg fits MustBe e = absurd (full.none_must_be x e)
  body_agrees x k i d stored has (Plain h) (Plain a) ke ie nm (Some b) be neg fits True e =
      and_intro (body_holds the_set i) (head_taken the_set i.kind) (true_body_holds k i d x [] h st e) (ap (head_taken the_set) ie)
    where
      st : Stored k x [] h
      st = stored_parts k x [] h (λ ng j. stored ng (subst (λ z. ng ∈ table_of z k.body k.inst) (sym ke) (subst (λ z. ng ∈ table_of (Plain h) z k.inst) (sym has) j)))
  body_agrees x k i d stored has (Plain h) (Plain a) ke ie nm (Some b) be neg fits False e = false_body k i d x [] h st (λ t l j. absurd j) e
    where
      st : Stored k x [] h
      st = stored_parts k x [] h (λ ng j. stored ng (subst (λ z. ng ∈ table_of z k.body k.inst) (sym ke) (subst (λ z. ng ∈ table_of (Plain h) z k.inst) (sym has) j)))
  body_agrees x k i d stored has (Choice h) (Choice a) ke ie nm (Some b) be neg fits True e =
      and_intro (body_holds the_set i) (head_taken the_set i.kind) (true_body_holds k i d x (lit h true ∷ []) h st e) (ap (head_taken the_set) ie ∙ true_in_set core s valid founds full h a nm head_true)
    where
      st : Stored k x (lit h true ∷ []) h
      st = stored_parts k x (lit h true ∷ []) h (λ ng j. stored ng (subst (λ z. ng ∈ table_of z k.body k.inst) (sym ke) (subst (λ z. ng ∈ table_of (Choice h) z k.inst) (sym has) j)))

      pair : Holds s.stack (lit h false) → (l : Lit) → l ∈ (lit h false ∷ lit x true ∷ []) → Holds s.stack l
      pair f l (inl q) = subst (λ (z : Lit). Holds s.stack z) (sym q) f
      pair f l (inr (inl q)) = subst (λ (z : Lit). Holds s.stack z) (sym q) (True, e, refl)
      pair f l (inr (inr q)) = absurd q

      head_true : value_of s.stack h ≡ Some True
      head_true = value_is h a nm false (λ f. not_all core s valid founds full (Some h) (lit h false ∷ lit x true ∷ []) st.last (pair f))
  body_agrees x k i d stored has (Choice h) (Choice a) ke ie nm (Some b) be neg fits False e = false_body k i d x (lit h true ∷ []) h st heads e
    where
      st : Stored k x (lit h true ∷ []) h
      st = stored_parts k x (lit h true ∷ []) h (λ ng j. stored ng (subst (λ z. ng ∈ table_of z k.body k.inst) (sym ke) (subst (λ z. ng ∈ table_of (Choice h) z k.inst) (sym has) j)))

      heads : head_taken the_set i.kind ≡ true → (l : Lit) → l ∈ (lit h true ∷ []) → Holds s.stack l
      heads t l (inl q) =
          let r = set_true core s valid founds full a (sym (ap (head_taken the_set) ie) ∙ t) in
          subst (λ (z : Lit). Holds s.stack z) (sym q) (True, subst (λ z. value_of s.stack z ≡ Some True) (valid.once r.0 h a r.1 nm) r.2, refl)
      heads t l (inr q) = absurd q
  body_agrees x k i d stored has Constraint Constraint ke ie nm (Some b) be neg fits True e = cc
  body_agrees x k i d stored has Constraint Constraint ke ie nm (Some b) be neg fits False e = cc
  body_agrees x k i d stored has (Plain h) (Choice a) ke ie nm (Some b) be neg fits True e = absurd nm
  body_agrees x k i d stored has (Plain h) (Choice a) ke ie nm (Some b) be neg fits False e = absurd nm
  body_agrees x k i d stored has (Plain h) Constraint ke ie nm (Some b) be neg fits True e = absurd nm
  body_agrees x k i d stored has (Plain h) Constraint ke ie nm (Some b) be neg fits False e = absurd nm
  body_agrees x k i d stored has (Choice h) (Plain a) ke ie nm (Some b) be neg fits True e = absurd nm
  body_agrees x k i d stored has (Choice h) (Plain a) ke ie nm (Some b) be neg fits False e = absurd nm
  body_agrees x k i d stored has (Choice h) Constraint ke ie nm (Some b) be neg fits True e = absurd nm
  body_agrees x k i d stored has (Choice h) Constraint ke ie nm (Some b) be neg fits False e = absurd nm
  body_agrees x k i d stored has Constraint (Plain a) ke ie nm (Some b) be neg fits True e = absurd nm
  body_agrees x k i d stored has Constraint (Plain a) ke ie nm (Some b) be neg fits False e = absurd nm
  body_agrees x k i d stored has Constraint (Choice a) ke ie nm (Some b) be neg fits True e = absurd nm
  body_agrees x k i d stored has Constraint (Choice a) ke ie nm (Some b) be neg fits False e = absurd nm

  -- the set agrees with every value of what is known
  pub full_agrees : (x : ℕ) → Known s x → (v : Value) → value_of s.stack x ≡ Some v → truth s the_set x ≡ is_up v
  full_agrees x (OfAtom a, h) v e = truth_means s the_set x (OfAtom a) h ∙ atom_agrees x a h v e
  full_agrees x (OfBody i, h) v e =
      let g = valid.made h.made (get_in s.made h.number h.made h.is_made) in
      truth_means s the_set x (OfBody i) h
      ∙ body_agrees x h.made i h.denotes g.stored (bodies.are x h.number h.made h.node h.is_made) h.made.inst.kind i.kind refl refl h.denotes.kind h.made.body refl h.made.inst.neg g.fits v e
