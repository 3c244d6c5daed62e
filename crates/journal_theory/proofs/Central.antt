-- In a settled state the true atoms are all that an open set can have.
use Rattle.std.proofs.Common.{◌≡◌, ℕ, Bool, true, false, List, [], ◌∷◌, ◌++◌, refl, sym, ◌∙◌, ap, subst, inl, inr}
use Rattle.std.specs.Prelude.{Option, Some, None, slice_get}
use Rattle.lists.specs.Lists.{◌∈◌}
use Rattle.lists.proofs.ListLemmas.{∈-append_right}
use Rattle.search_values.specs.declared.entry.Entry.{Entry}
use Rattle.search_values.specs.Values.{Value, True, MustBe, False, Lit, is_up, lit, value_of, full_value, HoldsFully}
use Rattle.search_values.specs.Nogoods.{Nogood, NoneUnit}
use Rattle.search_values.specs.Instances.{Kind, Plain, Choice, Constraint, Instance, body_holds, head_taken, IsHead, IsOrdered, Rules, IsExtension}
use Rattle.search_values.specs.Tables.{Made, BodyFits, lits_of, set_of, each_with, with_body, table_of, nogoods_of}
use Rattle.search_values.specs.Ids.{AtomNode, Named, BodyOf, Names, KindNames, Denotes}
use Rattle.journal_theory.specs.States.{State, IsName, truth, IsSound, IsUp, NoneActive, NoneDue, NoneWaiting}
use Rattle.search_values.proofs.Basics.{and_intro, BodyParts, body_parts}
use Rattle.journal_theory.proofs.Meaning.{OfAtom, OfBody, IsBody, truth_means, AllKnown}
use Rattle.journal_theory.proofs.Stack.{Complete, Good, agrees_all}
use Rattle.search_values.proofs.Tables.{in_lits_of, head_rises}

-- what is known of an instance that was made
pub record GoodMade {N A K : Type 0} (core : Rules N A K) (s : State N A K) (k : Made K) : Type 0 where
  pub inst : Instance A
  pub of_core : core.instance_of s.numbers k.maker ≡ Some inst
  pub denotes : Denotes s.names k.inst inst
  pub fits : BodyFits k.inst.kind k.inst.neg k.body
  pub body : (b : ℕ) → k.body ≡ Some b → (j : ℕ) × (slice_get s.names b ≡ Some (BodyOf j)) × (slice_get s.made j ≡ Some k)
  pub stored : (ng : Nogood) → ng ∈ nogoods_of k → ng ∈ s.nogoods

-- what is known of a state: names are given once, instances are those of the core, nogoods are sound, and values follow
pub record Valid {N A K : Type 0} (core : Rules N A K) (s : State N A K) : Type 0 where
  pub once : (x y : ℕ) (a : A) → IsName s x a → IsName s y a → x ≡ y
  pub made : (k : Made K) → k ∈ s.made → GoodMade core s k
  pub known : (ng : Nogood) → ng ∈ s.nogoods → AllKnown s ng.lits
  pub sound : (ng : Nogood) → ng ∈ s.nogoods → IsSound core s ng.lits
  pub good : Good core s s.stack
  pub speak : (x : ℕ) (a : A) → IsName s x a → core.may_be_named s.numbers a ≡ true

-- an id of the list names an atom of the list
pub names_in : {A : Type 0} (names : List (AtomNode A)) (xs : List ℕ) (atoms : List A) → Names names xs atoms → (x : ℕ) → x ∈ xs → (a : A) × (a ∈ atoms) × (slice_get names x ≡ Some (Named a))
names_in names [] [] h x i = absurd i
names_in names [] (a ∷ atoms) h x i = absurd i
names_in names (y ∷ xs) [] h x i = absurd h
names_in names (y ∷ xs) (a ∷ atoms) h x (inl e) = (a, inl refl, subst (λ z. slice_get names z ≡ Some (Named a)) (sym e) h.0)
names_in names (y ∷ xs) (a ∷ atoms) h x (inr i) = let r = names_in names xs atoms h.1 x i in (r.0, inr r.1, r.2)

-- a body that has a value, and is not false, gives the head
body_gives : {N A K : Type 0} (s : State N A K) → NoneUnit s.stack s.nogoods → NoneActive s → (k : Made K) → k ∈ s.made
    → (head : List Lit) (h b : ℕ) → k.body ≡ Some b
    → ((ng : Nogood) → ng ∈ with_body b head k.inst h → ng ∈ s.nogoods)
    → ((p : ℕ) → p ∈ k.inst.pos → value_of s.stack p ≡ Some True)
    → ((n : ℕ) → n ∈ k.inst.neg → IsUp s n → ⊥)
    → (value_of s.stack b ≡ Some False → ⊥)
    → (value_of s.stack h ≡ Some False → ⊥)
    → value_of s.stack h ≡ Some True
body_gives s quiet idle k is_made head h b has stored pos neg body_up head_up = go (value_of s.stack b) refl
  where
    last : (ng : Nogood) → (ng ∈ (set_of (Some h) (lit h false ∷ lit b true ∷ []))) → ng ∈ s.nogoods
    last ng i = stored ng (∈-append_right ng (set_of (Some b) (lit b false ∷ head ++ lits_of true k.inst.pos ++ lits_of false k.inst.neg) ++ each_with b false k.inst.pos ++ each_with b true k.inst.neg) (set_of (Some h) (lit h false ∷ lit b true ∷ [])) i)

    go : (v : Option Value) → value_of s.stack b ≡ v → value_of s.stack h ≡ Some True
    go None e = absurd (idle k is_made b (record { has_body = has; not_yet = inl e; pos_true = pos; neg_not_up = neg }))
    go (Some MustBe) e = absurd (idle k is_made b (record { has_body = has; not_yet = inr e; pos_true = pos; neg_not_up = neg }))
    go (Some False) e = absurd (body_up e)
    go (Some True) e = head_rises s.stack s.nogoods quiet h (lit b true ∷ []) last
        (λ l i. elim i [ inl f ↦ subst (λ (z : Lit). HoldsFully s.stack z) (sym f) e | inr f ↦ absurd f ])
        head_up

-- the head of a made instance whose positive atoms are true and whose negative ones are not up
head_true : {N A K : Type 0} (s : State N A K) → NoneUnit s.stack s.nogoods → NoneActive s → (k : Made K) → k ∈ s.made
    → (kind : Kind ℕ) → k.inst.kind ≡ kind → (neg : List ℕ) → k.inst.neg ≡ neg → (body : Option ℕ) → k.body ≡ body
    → BodyFits kind neg body
    → ((ng : Nogood) → ng ∈ table_of kind body k.inst → ng ∈ s.nogoods)
    → ((p : ℕ) → p ∈ k.inst.pos → value_of s.stack p ≡ Some True)
    → ((n : ℕ) → n ∈ k.inst.neg → IsUp s n → ⊥)
    → ((b : ℕ) → k.body ≡ Some b → value_of s.stack b ≡ Some False → ⊥)
    → (h : ℕ) → IsHead kind h
    → (value_of s.stack h ≡ Some False → ⊥)
    → value_of s.stack h ≡ Some True
head_true s quiet idle k is_made (Plain g) ke neg ne None be fits stored pos negs body_up h same head_up =
    let up : value_of s.stack g ≡ Some False → ⊥ = (λ w. head_up (subst (λ z. value_of s.stack z ≡ Some False) same w)) in
    subst (λ z. value_of s.stack z ≡ Some True) same
    (head_rises s.stack s.nogoods quiet g (lits_of true k.inst.pos) stored (λ l i. let r = in_lits_of true k.inst.pos l i in all_up l r.0 r.1) up)
  where
    all_up : (l : Lit) → l.atom ∈ k.inst.pos → l.positive ≡ true → HoldsFully s.stack l
    all_up l i e = pos l.atom i ∙ ap (λ (u : Bool). Some (full_value u)) (sym e)
head_true s quiet idle k is_made (Plain g) ke neg ne (Some b) be fits stored pos negs body_up h same head_up =
    let up : value_of s.stack g ≡ Some False → ⊥ = (λ w. head_up (subst (λ z. value_of s.stack z ≡ Some False) same w)) in
    subst (λ z. value_of s.stack z ≡ Some True) same (body_gives s quiet idle k is_made [] g b be stored pos negs (body_up b be) up)
head_true s quiet idle k is_made (Choice g) ke neg ne None be fits stored pos negs body_up h same head_up =
    let w : None ≡ Some fits.0 = fits.1 in cc
head_true s quiet idle k is_made (Choice g) ke neg ne (Some b) be fits stored pos negs body_up h same head_up =
    let up : value_of s.stack g ≡ Some False → ⊥ = (λ w. head_up (subst (λ z. value_of s.stack z ≡ Some False) same w)) in
    subst (λ z. value_of s.stack z ≡ Some True) same (body_gives s quiet idle k is_made (lit g true ∷ []) g b be stored pos negs (body_up b be) up)
head_true s quiet idle k is_made Constraint ke neg ne body be fits stored pos negs body_up h same head_up = absurd same

-- the id of an instance's head
head_id : {A : Type 0} (names : List (AtomNode A)) (k : Kind ℕ) (i : Kind A) (a : A) → KindNames names k i → IsHead i a → (h : ℕ) × IsHead k h × (slice_get names h ≡ Some (Named a))
head_id names (Plain x) (Plain b) a d e = (x, refl, subst (λ z. slice_get names x ≡ Some (Named z)) e d)
head_id names (Choice x) (Choice b) a d e = (x, refl, subst (λ z. slice_get names x ≡ Some (Named z)) e d)
head_id names Constraint Constraint a d e = absurd e
head_id names (Plain x) (Choice b) a d e = absurd d
head_id names (Plain x) Constraint a d e = absurd d
head_id names (Choice x) (Plain b) a d e = absurd d
head_id names (Choice x) Constraint a d e = absurd d
head_id names Constraint (Plain b) a d e = absurd d
head_id names Constraint (Choice b) a d e = absurd d

head_taken_in : {A : Type 0} (c : A → Bool) (k : Kind A) (a : A) → IsHead k a → c a ≡ true → head_taken c k ≡ true
head_taken_in c (Plain h) a e t = refl
head_taken_in c (Choice h) a e t = ap c e ∙ t
head_taken_in c Constraint a e t = refl

-- the same atom has the same value
pub true_at : (stack : List Entry) (x y : ℕ) → x ≡ y → value_of stack x ≡ Some True → value_of stack y ≡ Some True
true_at stack x y e h = subst (λ z. value_of stack z ≡ Some True) e h

module _ {N A K : Type 0} (core : Rules N A K) (s : State N A K) (valid : Valid core s) where
  -- which id is true for the atom
  pub IsTrueAtom : A → Type 0
  IsTrueAtom a = (x : ℕ) × IsName s x a × (value_of s.stack x ≡ Some True)

  same_inst : (m : K) (i : Instance A) (k : Made K) (g : GoodMade core s k) → core.instance_of s.numbers m ≡ Some i → core.same_maker k.maker m ≡ true → g.inst ≡ i
  same_inst m i k g e f =
      let p : core.instance_of s.numbers k.maker ≡ Some g.inst = g.of_core in
      let q : core.instance_of s.numbers k.maker ≡ core.instance_of s.numbers m = core.makers_same s.numbers k.maker m f in
      let r : Some g.inst ≡ Some i = sym p ∙ q ∙ e in
      cc

  step : NoneUnit s.stack s.nogoods → NoneActive s → NoneDue core s
      → (c : A → Bool) → ((x : ℕ) (v : Value) → value_of s.stack x ≡ Some v → truth s c x ≡ is_up v)
      → (a : A) (m : K) (i : Instance A) → core.instance_of s.numbers m ≡ Some i → IsHead i.kind a → body_holds c i ≡ true → c a ≡ true
      → ((p : A) → p ∈ i.pos → (x : ℕ) × IsName s x p × (value_of s.stack x ≡ Some True))
      → (x : ℕ) × IsName s x a × (value_of s.stack x ≡ Some True)
  step quiet idle none_due c agrees a m i e heads holds taken below =
      let due = none_due m i e (λ p j. let r = below p j in (r.0, r.1, (True, r.2, refl))) in
      let k : Made K = due.0 in
      let g : GoodMade core s k = valid.made k due.1 in
      let same : g.inst ≡ i = same_inst m i k g e due.2 in
      let d : Denotes s.names k.inst i = subst (λ (z : Instance A). Denotes s.names k.inst z) same g.denotes in
      let parts : BodyParts c i = body_parts c i holds in
      let hd = head_id s.names k.inst.kind i.kind a d.kind heads in (
        hd.0,
        hd.2,
        head_true s quiet idle k due.1 k.inst.kind refl k.inst.neg refl k.body refl g.fits g.stored
            (λ p j. let n = names_in s.names k.inst.pos i.pos d.pos p j in let r = below n.0 n.1 in
            true_at s.stack r.0 p (valid.once r.0 p n.0 r.1 n.2) r.2)
            (λ n j up. let w = names_in s.names k.inst.neg i.neg d.neg n j in
            let t : truth s c n ≡ true = agrees n up.0 up.1 ∙ up.2 in
            let f : truth s c n ≡ false = truth_means s c n (OfAtom w.0) w.2 ∙ parts.neg w.0 w.1 in cc)
            (λ b has f. let w = g.body b has in
            let mean : IsBody s b i = record { number = w.0; made = k; node = w.1; is_made = w.2; denotes = d } in
            let t : truth s c b ≡ true = truth_means s c b (OfBody i) mean ∙ and_intro (body_holds c i) (head_taken c i.kind) holds (head_taken_in c i.kind a heads taken) in
            let u : truth s c b ≡ false = agrees b False f in cc)
            hd.0 hd.1
            (λ f. let u : truth s c hd.0 ≡ false = agrees hd.0 False f in let t : truth s c hd.0 ≡ true = truth_means s c hd.0 (OfAtom a) hd.2 ∙ taken in cc),
      )

  founded_true : NoneUnit s.stack s.nogoods → NoneActive s → NoneDue core s → NoneWaiting core s
      → (n : N) (c : A → Bool) → IsExtension core s.numbers n c → ((x : ℕ) (v : Value) → value_of s.stack x ≡ Some v → truth s c x ≡ is_up v)
      → (order : List A) → IsOrdered (core.instance_of n) (core.uses n) c order → (a : A) → a ∈ order → (x : ℕ) × IsName s x a × (value_of s.stack x ≡ Some True)
  founded_true quiet idle none_due none_waits n c ext agrees [] f a i = absurd i
  founded_true quiet idle none_due none_waits n c ext agrees (b ∷ earlier) f a (inl e) =
      let t : c a ≡ true = ap c e ∙ f.1 in
      let h : IsHead f.0.1.kind a = subst (λ z. IsHead f.0.1.kind z) (sym e) f.0.3 in
      let m : core.instance_of s.numbers f.0.0 ≡ Some f.0.1 = core.made_before s.numbers n c f.0.0 f.0.1 ext f.0.2
      (λ u j t. let r = founded_true quiet idle none_due none_waits n c ext agrees earlier f.2 u (f.0.6 u j t) in none_waits r.0 u r.1 (True, r.2, refl)) in
      step quiet idle none_due c agrees a f.0.0 f.0.1 m h f.0.4 t
      (λ p j. founded_true quiet idle none_due none_waits n c ext agrees earlier f.2 p (f.0.5 p j))
  founded_true quiet idle none_due none_waits n c ext agrees (b ∷ earlier) f a (inr i) = founded_true quiet idle none_due none_waits n c ext agrees earlier f.2 a i

  -- the central law
  pub central : NoneUnit s.stack s.nogoods → NoneActive s → NoneDue core s → NoneWaiting core s → Complete core s s.stack
  central quiet idle none_due none_waits c o h a t =
      let r = core.ordered o.numbering c o.answers in
      founded_true quiet idle none_due none_waits o.numbering c o.extending (agrees_all core s s.stack valid.good c o h) r.0 r.2 a (r.1 a t)
