-- Each nogood of an instance is sound, and its ids are known.
use Rattle.std.proofs.Common.{◌≡◌, ℕ, Bool, true, false, List, [], ◌∷◌, ◌++◌, refl, sym, ◌∙◌, ap, subst, inl, inr}
use Rattle.std.specs.Prelude.{Option, Some, None, slice_get}
use Rattle.lists.specs.Lists.{◌∈◌}
use Rattle.lists.proofs.ListLemmas.{∈-append_left, ∈-append_right, ∈-append_cases}
use Rattle.search_values.specs.Values.{Lit, lit}
use Rattle.search_values.specs.Nogoods.{Nogood}
use Rattle.search_values.specs.Instances.{Kind, Plain, Choice, Constraint, Instance, body_holds, head_taken, body_true, KindHolds, give_all, MayGet, Rules, IsExtension}
use Rattle.search_values.specs.Tables.{Made, BodyFits, lits_of, set_of, each_with, with_body, table_of, nogoods_of}
use Rattle.search_values.specs.Ids.{AtomNode, Named, Names, KindNames, Denotes}
use Rattle.journal_theory.specs.States.{State, truth, Agrees, IsSound}
use Rattle.search_values.proofs.Basics.{and_left, and_right, and_intro, body_parts, body_from}
use Rattle.journal_theory.proofs.Meaning.{OfAtom, OfBody, IsBody, truth_means}
use Rattle.search_values.proofs.Tables.{set_of-all, lits_of-in}
use Rattle.journal_theory.proofs.Central.{names_in}

-- how the truths of an instance's ids relate in a core answer set
record Truths {N A K : Type 0} (s : State N A K) (c : A → Bool) (k : Instance ℕ) (i : Instance A) : Type 0 where
  body : ((p : ℕ) → p ∈ k.pos → truth s c p ≡ true) → ((n : ℕ) → n ∈ k.neg → truth s c n ≡ false) → body_holds c i ≡ true
  pos : body_holds c i ≡ true → (p : ℕ) → p ∈ k.pos → truth s c p ≡ true
  neg : body_holds c i ≡ true → (n : ℕ) → n ∈ k.neg → truth s c n ≡ false

-- an atom of the instance has an id in the list over ids
pub names_back : {A : Type 0} (names : List (AtomNode A)) (xs : List ℕ) (atoms : List A) → Names names xs atoms → (a : A) → a ∈ atoms → (x : ℕ) × (x ∈ xs) × (slice_get names x ≡ Some (Named a))
names_back names [] [] h a i = absurd i
names_back names [] (b ∷ atoms) h a i = absurd h
names_back names (y ∷ xs) [] h a i = absurd h
names_back names (y ∷ xs) (b ∷ atoms) h a (inl e) = (y, inl refl, subst (λ z. slice_get names y ≡ Some (Named z)) (sym e) h.0)
names_back names (y ∷ xs) (b ∷ atoms) h a (inr i) = let r = names_back names xs atoms h.1 a i in (r.0, inr r.1, r.2)

truths : {N A K : Type 0} (s : State N A K) (c : A → Bool) (k : Instance ℕ) (i : Instance A) → Denotes s.names k i → Truths s c k i
truths s c k i d = record {
  body = λ p n. body_from c i (record {
    pos = λ a j. let r = names_back s.names k.pos i.pos d.pos a j in sym (truth_means s c r.0 (OfAtom a) r.2) ∙ p r.0 r.1;
    neg = λ a j. let r = names_back s.names k.neg i.neg d.neg a j in sym (truth_means s c r.0 (OfAtom a) r.2) ∙ n r.0 r.1;
  });
  pos = λ h x j. let r = names_in s.names k.pos i.pos d.pos x j in let parts = body_parts c i h in truth_means s c x (OfAtom r.0) r.2 ∙ parts.pos r.0 r.1;
  neg = λ h x j. let r = names_in s.names k.neg i.neg d.neg x j in let parts = body_parts c i h in truth_means s c x (OfAtom r.0) r.2 ∙ parts.neg r.0 r.1;
}

-- not all of these literals are true
abbrev NotAll : {N A K : Type 0} → State N A K → (A → Bool) → List Lit → Type 0
NotAll s c ls = Agrees s c ls → ⊥

-- giving numbers to members of a set takes no instance away
pub instance_kept : {N A K : Type 0} (core : Rules N A K) (n n' : N) (c : A → Bool) (m : K) (i : Instance A) → IsExtension core n n' c → core.instance_of n m ≡ Some i → core.instance_of n' m ≡ Some i
instance_kept {N} {A} core n n' c m i ext e = subst (λ z. core.instance_of z m ≡ Some i) ext.is (go ext.members n ext.may e)
  where
    go : (members : List A) (n : N) → MayGet core.give core.is_numbered n c members → core.instance_of n m ≡ Some i → core.instance_of (give_all core.give n members) m ≡ Some i
    go [] n may e = e
    go (a ∷ later) n may e = go later (core.give n a) may.2 (core.instance_given n a m i may.0 e)

-- a nogood of literals that are not all true has not all literals true
kept : {N A K : Type 0} (s : State N A K) (c : A → Bool) (ls : List Lit) (h : Option ℕ) → NotAll s c ls → (ng : Nogood) → ng ∈ set_of h ls → NotAll s c ng.lits
kept s c ls h never ng i agrees = never (λ l j. agrees l (set_of-all h ls ng i l j))

pair_no : {N A K : Type 0} (s : State N A K) (c : A → Bool) (a b : ℕ) (u v : Bool) → (truth s c a ≡ u → truth s c b ≡ v → ⊥) → NotAll s c (lit a u ∷ lit b v ∷ [])
pair_no s c a b u v never h = never (h (lit a u) (inl refl)) (h (lit b v) (inr (inl refl)))

each_no : {N A K : Type 0} (s : State N A K) (c : A → Bool) (b : ℕ) (up : Bool) (ids : List ℕ) → ((x : ℕ) → x ∈ ids → truth s c b ≡ true → truth s c x ≡ up → ⊥)
    → (ng : Nogood) → ng ∈ each_with b up ids → NotAll s c ng.lits
each_no s c b up [] never ng i = absurd i
each_no s c b up (x ∷ ids) never ng i = elim (∈-append_cases ng (set_of None (lit b true ∷ lit x up ∷ [])) (each_with b up ids) i) [
  | inl j ↦ kept s c (lit b true ∷ lit x up ∷ []) None (pair_no s c b x true up (never x (inl refl))) ng j
  | inr j ↦ each_no s c b up ids (λ y m. never y (inr m)) ng j
]

lits_agree : {N A K : Type 0} (s : State N A K) (c : A → Bool) (up : Bool) (ids : List ℕ) → Agrees s c (lits_of up ids) → (x : ℕ) → x ∈ ids → truth s c x ≡ up
lits_agree s c up ids h x i = h (lit x up) (lits_of-in up ids x i)

with_body_no : {N A K : Type 0} (s : State N A K) (c : A → Bool) (k : Instance ℕ) (i : Instance A) → Denotes s.names k i
    → (b : ℕ) (head : List Lit) (h : ℕ)
    → truth s c b ≡ body_true c i
    → (Agrees s c head → head_taken c i.kind ≡ true)
    → (body_true c i ≡ true → truth s c h ≡ true)
    → (ng : Nogood) → ng ∈ with_body b head k h → NotAll s c ng.lits
with_body_no s c k i d b head h of_body of_head takes ng j =
    elim (∈-append_cases ng (first ++ each_with b false k.pos ++ each_with b true k.neg) last j) [
      | inl m ↦ elim (∈-append_cases ng (first ++ each_with b false k.pos) (each_with b true k.neg) m) [
        | inl n ↦ elim (∈-append_cases ng first (each_with b false k.pos) n) [
          | inl o ↦ kept s c (lit b false ∷ head ++ lits_of true k.pos ++ lits_of false k.neg) (Some b) no_first ng o
          | inr o ↦ each_no s c b false k.pos (λ x q t u. let w : truth s c x ≡ true = tr.pos (holds t) x q in cc) ng o
        ]
        | inr n ↦ each_no s c b true k.neg (λ x q t u. let w : truth s c x ≡ false = tr.neg (holds t) x q in cc) ng n
      ]
      | inr m ↦ kept s c (lit h false ∷ lit b true ∷ []) (Some h) (pair_no s c h b false true (λ f t. let w : truth s c h ≡ true = takes (sym of_body ∙ t) in cc)) ng m
    ]
  where
    first : List Nogood
    first = set_of (Some b) (lit b false ∷ head ++ lits_of true k.pos ++ lits_of false k.neg)

    last : List Nogood
    last = set_of (Some h) (lit h false ∷ lit b true ∷ [])

    tr : Truths s c k i
    tr = truths s c k i d

    holds : truth s c b ≡ true → body_holds c i ≡ true
    holds t = and_left (body_holds c i) (head_taken c i.kind) (sym of_body ∙ t)

    no_first : NotAll s c (lit b false ∷ head ++ lits_of true k.pos ++ lits_of false k.neg)
    no_first g =
        let rest : Agrees s c (head ++ lits_of true k.pos ++ lits_of false k.neg) = (λ l m. g l (inr m)) in
        let p : Agrees s c (lits_of true k.pos) = (λ l m. rest l (∈-append_left l (head ++ lits_of true k.pos) (lits_of false k.neg) (∈-append_right l head (lits_of true k.pos) m))) in
        let n : Agrees s c (lits_of false k.neg) = (λ l m. rest l (∈-append_right l (head ++ lits_of true k.pos) (lits_of false k.neg) m)) in
        let hd : Agrees s c head = (λ l m. rest l (∈-append_left l (head ++ lits_of true k.pos) (lits_of false k.neg) (∈-append_left l head (lits_of true k.pos) m))) in
        let bh : body_holds c i ≡ true = tr.body (lits_agree s c true k.pos p) (lits_agree s c false k.neg n) in
        let t : truth s c b ≡ true = of_body ∙ and_intro (body_holds c i) (head_taken c i.kind) bh (of_head hd) in
        let f : truth s c b ≡ false = g (lit b false) (inl refl) in
        cc

body_empty : {A : Type 0} (names : List (AtomNode A)) (atoms : List A) → Names names [] atoms → atoms ≡ []
body_empty names [] h = refl
body_empty names (a ∷ atoms) h = absurd h

-- law: each nogood of an instance of the core is true of every core answer set
table_no : {N A K : Type 0} (core : K → Option (Instance A)) (s : State N A K) (c : A → Bool) → ((m : K) (i : Instance A) → core m ≡ Some i → body_holds c i ≡ true → KindHolds c i.kind)
    → (m : K) (k : Instance ℕ) (i : Instance A) → core m ≡ Some i → Denotes s.names k i
    → (kind : Kind ℕ) (kind' : Kind A) → k.kind ≡ kind → i.kind ≡ kind' → KindNames s.names kind kind'
    → (neg : List ℕ) → k.neg ≡ neg → (body : Option ℕ)
    → BodyFits kind neg body
    → ((b : ℕ) → body ≡ Some b → truth s c b ≡ body_true c i)
    → (ng : Nogood) → ng ∈ table_of kind body k → NotAll s c ng.lits
table_no core s c ans m k i e d (Plain h) (Plain a) ke ie nm [] ne None fits mean ng j =
    kept s c (lit h false ∷ lits_of true k.pos) (Some h) never ng j
  where
    never : NotAll s c (lit h false ∷ lits_of true k.pos)
    never g =
        let tr : Truths s c k i = truths s c k i d in
        let bh : body_holds c i ≡ true = tr.body (lits_agree s c true k.pos (λ l q. g l (inr q))) (λ n q. let z : n ∈ [] = subst (λ zs. n ∈ zs) ne q in absurd z) in
        let kh : KindHolds c i.kind = ans m i e bh in
        let t : c a ≡ true = subst (λ z. KindHolds c z) ie kh in
        let u : truth s c h ≡ true = truth_means s c h (OfAtom a) nm ∙ t in
        let f : truth s c h ≡ false = g (lit h false) (inl refl) in
        cc
table_no core s c ans m k i e d (Plain h) (Plain a) ke ie nm [] ne (Some b) fits mean ng j = cc
table_no core s c ans m k i e d (Plain h) (Plain a) ke ie nm (n ∷ ns) ne None fits mean ng j = let w : None ≡ Some fits.0 = fits.1 in cc
table_no core s c ans m k i e d (Plain h) (Plain a) ke ie nm (n ∷ ns) ne (Some b) fits mean ng j =
    with_body_no s c k i d b [] h (mean b refl)
    (λ g. ap (λ z. head_taken c z) ie)
    (λ t. let kh : KindHolds c i.kind = ans m i e (and_left (body_holds c i) (head_taken c i.kind) t) in
    truth_means s c h (OfAtom a) nm ∙ subst (λ z. KindHolds c z) ie kh)
    ng j
table_no core s c ans m k i e d (Choice h) (Choice a) ke ie nm neg ne None fits mean ng j = let w : None ≡ Some fits.0 = fits.1 in cc
table_no core s c ans m k i e d (Choice h) (Choice a) ke ie nm neg ne (Some b) fits mean ng j =
    with_body_no s c k i d b (lit h true ∷ []) h (mean b refl)
    (λ g. ap (λ z. head_taken c z) ie ∙ sym (truth_means s c h (OfAtom a) nm) ∙ g (lit h true) (inl refl))
    (λ t. truth_means s c h (OfAtom a) nm ∙ sym (ap (λ z. head_taken c z) ie) ∙ and_right (body_holds c i) (head_taken c i.kind) t)
    ng j
table_no core s c ans m k i e d Constraint Constraint ke ie nm neg ne body fits mean ng j =
    kept s c (lits_of true k.pos ++ lits_of false k.neg) None never ng j
  where
    never : NotAll s c (lits_of true k.pos ++ lits_of false k.neg)
    never g =
        let tr : Truths s c k i = truths s c k i d in
        let bh : body_holds c i ≡ true = tr.body
        (lits_agree s c true k.pos (λ l q. g l (∈-append_left l (lits_of true k.pos) (lits_of false k.neg) q)))
        (lits_agree s c false k.neg (λ l q. g l (∈-append_right l (lits_of true k.pos) (lits_of false k.neg) q))) in
        let kh : KindHolds c i.kind = ans m i e bh in
        let w : ⊥ = subst (λ z. KindHolds c z) ie kh in
        w
table_no core s c ans m k i e d (Plain h) (Choice a) ke ie nm neg ne body fits mean ng j = absurd nm
table_no core s c ans m k i e d (Plain h) Constraint ke ie nm neg ne body fits mean ng j = absurd nm
table_no core s c ans m k i e d (Choice h) (Plain a) ke ie nm neg ne body fits mean ng j = absurd nm
table_no core s c ans m k i e d (Choice h) Constraint ke ie nm neg ne body fits mean ng j = absurd nm
table_no core s c ans m k i e d Constraint (Plain a) ke ie nm neg ne body fits mean ng j = absurd nm
table_no core s c ans m k i e d Constraint (Choice a) ke ie nm neg ne body fits mean ng j = absurd nm

-- the table's nogoods are sound, where the instance's body atom means the instance
pub table_sound : {N A K : Type 0} (core : Rules N A K) (s : State N A K) (k : Made K) (i : Instance A)
    → core.instance_of s.numbers k.maker ≡ Some i → Denotes s.names k.inst i → BodyFits k.inst.kind k.inst.neg k.body
    → ((b : ℕ) → k.body ≡ Some b → IsBody s b i)
    → (ng : Nogood) → ng ∈ nogoods_of k → IsSound core s ng.lits
table_sound core s k i e d fits bodies ng j c o =
    table_no (core.instance_of o.numbering) s c o.answers.closed k.maker k.inst i (instance_kept core s.numbers o.numbering c k.maker i o.extending e) d k.inst.kind i.kind refl refl d.kind k.inst.neg refl k.body fits
    (λ b q. truth_means s c b (OfBody i) (bodies b q)) ng j
