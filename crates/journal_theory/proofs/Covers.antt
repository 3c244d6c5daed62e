-- A nogood that is justified by a cover is sound, and new.
use Rattle.std.proofs.Common.{◌≡◌, ℕ, ◌⊎◌, Bool, true, false, ◌&&◌, List, [], ◌∷◌, refl, sym, ◌∙◌, ap, subst, inl, inr}
use Rattle.std.specs.Prelude.{Option, Some, None}
use Rattle.lists.specs.Lists.{◌∈◌, ◌⊆◌}
use Rattle.alpha_outside.specs.declared.pattern.Pattern.{Pattern}
use Rattle.search_values.specs.Values.{Value, MustBe, Lit, lit, value_of, Holds}
use Rattle.search_values.specs.Nogoods.{Nogood}
use Rattle.search_values.specs.Instances.{Kind, Plain, Choice, Constraint, Instance, body_holds, head_taken, IsHead, IsOrdered, Rules, IsExtension}
use Rattle.search_values.specs.Tables.{Made, BodyFits}
use Rattle.search_values.specs.Ids.{AtomNode, Names, KindNames, Denotes}
use Rattle.journal_theory.specs.States.{Free, State, IsName, truth, Agrees, IsSound, IsStuck}
use Rattle.journal_theory.specs.Covers.{Covers, IsBlocked, needs_one, lacks, is_denied, has_false_body, uses_one, uses_lacking, IsCover, MayJustify, CanBeRuledOut}
use Rattle.search_values.proofs.Basics.{and_intro, body_parts}
use Rattle.journal_theory.proofs.Meaning.{OfAtom, OfBody, IsBody, truth_means, AllKnown}
use Rattle.journal_theory.proofs.Stack.{value_known}
use Rattle.journal_theory.proofs.Explaining.{holds_before}
use Rattle.journal_theory.proofs.Central.{GoodMade, Valid}
use Rattle.journal_theory.proofs.Instances.{instance_kept}

-- an atom that can be ruled out has no value
pub valueless : {N A K : Type 0} (core : Rules N A K) (s : State N A K) {x : ℕ} {v : Value} → CanBeRuledOut core s x → ¬ (value_of s.stack x ≡ Some v)
valueless core s can e = let q = sym can.no_value ∙ e in cc

module _ {N A K : Type 0} (core : Rules N A K) (s : State N A K) (valid : Valid core s) where
  -- a head that is in the set is taken
  head_in : (c : A → Bool) (kind : Kind A) (a : A) → IsHead kind a → c a ≡ true → head_taken c kind ≡ true
  head_in c (Plain h) a e t = refl
  head_in c (Choice h) a e t = ap c e ∙ t
  head_in c Constraint a e t = absurd e

  -- an instance that was made is the same under a later numbering
  made_is : (n : N) (c : A → Bool) → IsExtension core s.numbers n c → (k : Made K) (g : GoodMade core s k) (m : K) (i : Instance A)
      → core.same_maker k.maker m ≡ true → core.instance_of n m ≡ Some i → g.inst ≡ i
  made_is n c ext k g m i same is =
      let e : Some g.inst ≡ Some i = sym (instance_kept core s.numbers n c k.maker g.inst ext g.of_core) ∙ core.makers_same n k.maker m same ∙ is in cc

  -- where the literals are true in a set, a blocked instance that derives an atom of the set needs one that is covered, or uses its number
  needs : (n : N) (c : A → Bool) → IsExtension core s.numbers n c → (patterns : List Pattern) (lits : List Lit) → Agrees s c lits
      → (m : K) (i : Instance A) → core.instance_of n m ≡ Some i → (a : A) → IsHead i.kind a → c a ≡ true → body_holds c i ≡ true
      → IsBlocked core s patterns lits n m i → (p : A) × (Covers core s patterns p) × ((p ∈ i.pos) ⊎ ((p ∈ core.uses n m) × (c p ≡ true)))
  needs n c ext patterns lits agrees m i is a head taken holds (needs_one p j q) = (p, q, inl j)
  needs n c ext patterns lits agrees m i is a head taken holds (lacks p x j named l) =
      let t : c p ≡ true = (body_parts c i holds).pos p j in
      let f : truth s c x ≡ false = agrees (lit x false) l in
      let e : truth s c x ≡ c p = truth_means s c x (OfAtom p) named in cc
  needs n c ext patterns lits agrees m i is a head taken holds (is_denied p x j named l) =
      let f : c p ≡ false = (body_parts c i holds).neg p j in
      let t : truth s c x ≡ true = agrees (lit x true) l in
      let e : truth s c x ≡ c p = truth_means s c x (OfAtom p) named in cc
  needs n c ext patterns lits agrees m i is a head taken holds (has_false_body k b j same has l) =
      let g : GoodMade core s k = valid.made k j in
      let w = g.body b has in
      let mean : IsBody s b g.inst = record { number = w.0; made = k; node = w.1; is_made = w.2; denotes = g.denotes } in
      let one : g.inst ≡ i = made_is n c ext k g m i same is in
      let t : truth s c b ≡ true = truth_means s c b (OfBody g.inst) mean ∙ ap (λ (z : Instance A). body_holds c z && head_taken c z.kind) one
      ∙ and_intro (body_holds c i) (head_taken c i.kind) holds (head_in c i.kind a head taken) in
      let f : truth s c b ≡ false = agrees (lit b false) l in cc
  needs n c ext patterns lits agrees m i is a head taken holds (uses_one u j waits q) = (u, q, inr (j, core.used_is_in s.numbers n c m i u ext is j waits))
  needs n c ext patterns lits agrees m i is a head taken holds (uses_lacking u x j waits named l) =
      let t : c u ≡ true = core.used_is_in s.numbers n c m i u ext is j waits in
      let f : truth s c x ≡ false = agrees (lit x false) l in
      let e : truth s c x ≡ c u = truth_means s c x (OfAtom u) named in cc

  -- no atom that is covered is in a list in which members stand before their sums
  none_ordered : (n : N) (c : A → Bool) → IsExtension core s.numbers n c → (patterns : List Pattern) (lits : List Lit) → IsCover core s patterns lits → Agrees s c lits
      → (order : List A) → IsOrdered (core.instance_of n) (core.uses n) c order → (a : A) → a ∈ order → Covers core s patterns a → ⊥
  none_ordered n c ext patterns lits cover agrees [] f a i j = absurd i
  none_ordered n c ext patterns lits cover agrees (b ∷ earlier) f a (inl e) j =
      let m = f.0.0 in
      let inst = f.0.1 in
      let head : IsHead inst.kind a = subst (λ z. IsHead inst.kind z) (sym e) f.0.3 in
      let r = needs n c ext patterns lits agrees m inst f.0.2 a head (ap c e ∙ f.1) f.0.4 (cover n c ext m inst f.0.2 a j head) in
      none_ordered n c ext patterns lits cover agrees earlier f.2 r.0 (elim r.2 [ inl p ↦ f.0.5 r.0 p | inr p ↦ f.0.6 r.0 p.0 p.1 ]) r.1
  none_ordered n c ext patterns lits cover agrees (b ∷ earlier) f a (inr i) j = none_ordered n c ext patterns lits cover agrees earlier f.2 a i j

  -- the atoms of the literals mean something
  pub justified_known : (patterns : List Pattern) (ls : List Lit) → MayJustify core s patterns ls → AllKnown s ls
  justified_known patterns ls may = subst (λ z. AllKnown s z) (sym may.lits_are) known
    where
      known : AllKnown s (lit may.id true ∷ may.reasons)
      known l (inl e) = (OfAtom may.atom, subst (λ (z : Lit). IsName s z.atom may.atom) (sym e) may.named)
      known l (inr i) = let h = holds_before core s s.stack valid.good l (may.before l i) in value_known core s s.stack valid.good l.atom h.0 h.1

  -- the nogood is sound
  pub justified_sound : (patterns : List Pattern) (ls : List Lit) → MayJustify core s patterns ls → IsSound core s ls
  justified_sound patterns ls may c o agrees =
      let all : Agrees s c (lit may.id true ∷ may.reasons) = subst (λ z. Agrees s c z) may.lits_are agrees in
      let t : c may.atom ≡ true = sym (truth_means s c may.id (OfAtom may.atom) may.named) ∙ all (lit may.id true) (inl refl) in
      let r = core.ordered o.numbering c o.answers in
      none_ordered o.numbering c o.extending patterns may.reasons may.covers (λ l i. all l (inr i)) r.0 r.2 may.atom
      (r.1 may.atom t) (subst (λ z. Covers core s z may.atom) (sym may.patterns_are) (inl may.covered))

  -- the literals of a nogood that is justified for a stuck atom all hold
  pub justified_struck : (patterns : List Pattern) (ls : List Lit) (may : MayJustify core s patterns ls) → value_of s.stack may.id ≡ Some MustBe → (l : Lit) → l ∈ ls → Holds s.stack l
  justified_struck patterns ls may must l i = elim (subst (λ z. l ∈ z) may.lits_are i) [
    | inl e ↦ (MustBe, ap (λ (z : Lit). value_of s.stack z.atom) e ∙ must, ap (λ (z : Lit). z.positive) (sym e))
    | inr k ↦ holds_before core s s.stack valid.good l (may.before l k)
  ]

  -- the nogood that is justified for a stuck atom is a superset of no earlier one, which would be struck
  pub stuck_is_new : (patterns : List Pattern) (ls : List Lit) (may : MayJustify core s patterns ls) → IsStuck core s may.id → (ng : Nogood) → ng ∈ s.nogoods → ¬ (ng.lits ⊆ ls)
  stuck_is_new patterns ls may stuck ng i sub =
      stuck.none_struck ng i (λ l j. justified_struck patterns ls may stuck.must_be l (sub l j))

-- a plain instance without negative atoms has no body atom
no_body : {A : Type 0} (names : List (AtomNode A)) (k : Instance ℕ) (body : Option ℕ) (a : A) (pos : List A) → Denotes names k (record { kind = Plain a; pos = pos; neg = [] })
    → BodyFits k.kind k.neg body → (b : ℕ) → ¬ (body ≡ Some b)
no_body {A} names k body a pos d fits b has = by_kind k.kind k.neg d.kind d.neg fits
  where
    by_kind : (kind : Kind ℕ) (neg : List ℕ) → KindNames names kind (Plain a) → Names names neg [] → BodyFits kind neg body → ⊥
    by_kind (Plain h) [] kd ns f = (let e : None ≡ Some b = sym f ∙ has in cc)
    by_kind (Plain h) (x ∷ xs) kd ns f = absurd ns
    by_kind (Choice h) neg kd ns f = absurd kd
    by_kind Constraint neg kd ns f = absurd kd

-- a plain instance without negative atoms that is blocked has a positive atom that is covered or false, for it has no body atom
pub not_left_out : {N A K : Type 0} (core : Rules N A K) (s : State N A K) → Valid core s → (m : K) (a : A) (pos : List A)
    → core.instance_of s.numbers m ≡ Some (record { kind = Plain a; pos = pos; neg = [] }) → (patterns : List Pattern) (lits : List Lit) → IsCover core s patterns lits
    → Covers core s patterns a → ¬ ((p : A) → p ∈ pos → (¬ Covers core s patterns p) × ((x : ℕ) → IsName s x p → ¬ (lit x false ∈ lits)))
not_left_out {N} {A} {K} core s valid m a pos is patterns lits cover among free =
    by_block (cover s.numbers (λ x. false) same_numbers m (record { kind = Plain a; pos = pos; neg = [] }) is a among refl)
  where
    same_numbers : IsExtension core s.numbers s.numbers (λ x. false)
    same_numbers = record { members = []; may = tt; is = refl }

    by_block : IsBlocked core s patterns lits s.numbers m (record { kind = Plain a; pos = pos; neg = [] }) → ⊥
    by_block (needs_one p i j) = (free p i).0 j
    by_block (lacks p x i named l) = (free p i).1 x named l
    by_block (is_denied p x i named l) = i
    by_block (has_false_body k b i same has l) =
        let g : GoodMade core s k = valid.made k i in
        let one : Some g.inst ≡ Some (record { kind = Plain a; pos = pos; neg = [] }) = sym g.of_core ∙ core.makers_same s.numbers k.maker m same ∙ is in
        let e : g.inst ≡ record { kind = Plain a; pos = pos; neg = [] } = same_inst one in
        no_body s.names k.inst k.body a pos (subst (λ (z : Instance A). Denotes s.names k.inst z) e g.denotes) g.fits b has
      where
        same_inst : {x y : Instance A} → Some x ≡ Some y → x ≡ y
        same_inst e = cc
    by_block (uses_one u j waits q) = (let t : false ≡ true = core.used_is_in s.numbers s.numbers (λ x. false) m _ u same_numbers is j waits in cc)
    by_block (uses_lacking u x j waits named l) = (let t : false ≡ true = core.used_is_in s.numbers s.numbers (λ x. false) m _ u same_numbers is j waits in cc)
