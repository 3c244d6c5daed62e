-- A set that is shown is a core answer set: the order in which its atoms became true is the order that founds it.
use Rattle.std.proofs.Common.{◌≡◌, ℕ, ◌+◌, ◌⊎◌, Bool, true, false, cond, List, [], ◌∷◌, ◌++◌, length, refl, sym, ◌∙◌, ap, subst, inl, inr}
use Rattle.std.specs.Prelude.{Option, Some, None, nat_le, slice_get}
use Rattle.lists.specs.Lists.{◌∈◌}
use Rattle.lists.proofs.ListLemmas.{∈-append_left, ∈-append_right, ∈-append_cases}
use Rattle.search_values.specs.declared.entry.Entry.{Entry}
use Rattle.search_values.specs.Values.{Value, True, MustBe, False, Lit, lit, value_of, HoldsFully, opened, level_of, back_to, explain}
use Rattle.search_values.specs.Nogoods.{Nogood, Rises, Gives}
use Rattle.search_values.specs.Instances.{Kind, Plain, Choice, Constraint, IsHead, Rules}
use Rattle.search_values.specs.Tables.{Made, lits_of, once, set_of, each_with, with_body, table_of, nogoods_of}
use Rattle.search_values.specs.Ids.{Named, BodyOf, KindNames}
use Rattle.journal_theory.specs.States.{State, IsName}
use Rattle.journal_theory.specs.Events.{Event, NameTerm, NameAtom, NameBody, Number, Make, Put, Choose, Close, Strike, Keep, Learn, Justify, CallWide, Back, Show, Pass, explain_first, happens, Allowed}
use Rattle.journal_theory.specs.Journals.{replay, Legal}
use Rattle.search_values.proofs.Basics.{in_single, get_in, value_cases}
use Rattle.journal_theory.proofs.Stack.{Good, true_stays}
use Rattle.search_values.proofs.Tables.{nogood, once-to, set_of-is, lits_of-in}
use Rattle.journal_theory.proofs.Central.{Valid}
use Rattle.journal_theory.proofs.Explaining.{value_explain}
use Rattle.journal_theory.proofs.Events.{legal_safe}

-- an instance whose positive atoms are true stands behind a true atom or body
abbrev pub SupportOf : {N A K : Type 0} → State N A K → ℕ → List Entry → Type 0
SupportOf {N} {A} {K} s a stack =
    (k : Made K) × (k ∈ s.made) × ((p : ℕ) → p ∈ k.inst.pos → value_of stack p ≡ Some True)
    × ((k.body ≡ Some a) ⊎ (IsHead k.inst.kind a × ((b : ℕ) → k.body ≡ Some b → value_of stack b ≡ Some True)))

-- each true entry has an instance behind it
abbrev pub Supported : {N A K : Type 0} → State N A K → List Entry → Type 0
Supported s [] = Unit {0}
Supported s (e ∷ rest) = (e.value ≡ True → SupportOf s e.atom rest) × Supported s rest

-- only nogoods of instances have a head
abbrev pub HeadsMade : {N A K : Type 0} → State N A K → Type 0
HeadsMade {N} {A} {K} s = (ng : Nogood) → ng ∈ s.nogoods → (a : ℕ) → ng.head ≡ Some a → (k : Made K) × (k ∈ s.made) × (ng ∈ nogoods_of k)

-- heads come from instances, and true atoms have an instance behind them
pub record Founds {N A K : Type 0} (s : State N A K) : Type 0 where
  pub heads : HeadsMade s
  pub supported : Supported s s.stack

supported_more : {N A K : Type 0} (s s' : State N A K) → ((k : Made K) → k ∈ s.made → k ∈ s'.made) → (stack : List Entry) → Supported s stack → Supported s' stack
supported_more s s' more [] h = tt
supported_more s s' more (e ∷ rest) h = ((λ t. let r = h.0 t in (r.0, more r.0 r.1, r.2, r.3)), supported_more s s' more rest h.1)

supported_pick : {N A K : Type 0} (s : State N A K) (b : Bool) (stack other : List Entry) → Supported s stack → Supported s other → Supported s (cond b stack other)
supported_pick s true stack other g h = g
supported_pick s false stack other g h = h

supported_back : {N A K : Type 0} (s : State N A K) (l : ℕ) (stack : List Entry) → Supported s stack → Supported s (back_to l stack)
supported_back s l [] h = tt
supported_back s l (e ∷ rest) h = supported_pick s (nat_le (level_of rest + opened e.why) l) (e ∷ rest) (back_to l rest) h (supported_back s l rest h.1)

supported_explain : {N A K : Type 0} (s : State N A K) (a n : ℕ) (stack : List Entry) → Supported s stack → Supported s (explain a n stack)
supported_explain s a n [] h = tt
supported_explain s a n (e ∷ rest) h = (
  (λ t. let r = h.0 t in (
    r.0,
    r.1,
    (λ p i. value_explain a n rest p ∙ r.2 p i),
    elim r.3 [ inl b ↦ inl b | inr w ↦ inr (w.0, (λ b has. value_explain a n rest b ∙ w.1 b has)) ],
  )),
  supported_explain s a n rest h.1,
)

supported_first : {N A K : Type 0} (s : State N A K) (ls : List Lit) (n : ℕ) (stack : List Entry) → Supported s stack → Supported s (explain_first ls n stack)
supported_first s [] n stack h = h
supported_first s (l ∷ ls) n stack h = supported_explain s l.atom n stack h

-- a head that rises has an instance behind it

abbrev pos_fully : List Entry → List ℕ → Type 0
pos_fully stack ps = (p : ℕ) → p ∈ ps → value_of stack p ≡ Some True

pub up_differs : (a b : ℕ) → lit a true ≡ lit b false → ⊥
up_differs a b e = let f : true ≡ false = ap (λ (k : Lit). k.positive) e in cc

-- the positive atoms are true where the nogood's literals but the head's hold fully
pos_of : (stack : List Entry) (h : ℕ) (ls : List Lit) (ps : List ℕ) → ((l : Lit) → l ∈ lits_of true ps → l ∈ ls) → ((l : Lit) → l ∈ ls → (l ≡ lit h false) ⊎ HoldsFully stack l) → pos_fully stack ps
pos_of stack h ls ps sub others p i = elim (others (lit p true) (sub (lit p true) (lits_of-in true ps p i))) [
  | inl e ↦ absurd (up_differs p h e)
  | inr k ↦ k
]

pub none_head : (a : ℕ) → None ≡ Some a → ⊥
none_head a e = cc

pub each_head : (b : ℕ) (up : Bool) (ids : List ℕ) (ng : Nogood) → ng ∈ each_with b up ids → (a : ℕ) → ng.head ≡ Some a → ⊥
each_head b up [] ng i a e = absurd i
each_head b up (x ∷ ids) ng i a e = elim (∈-append_cases ng (set_of None (lit b true ∷ lit x up ∷ [])) (each_with b up ids) i) [
  | inl j ↦ none_head a (sym (ap (λ (z : Nogood). z.head) (set_of-is None (lit b true ∷ lit x up ∷ []) ng j)) ∙ e)
  | inr j ↦ each_head b up ids ng j a e
]

pub head_same : (h a : ℕ) (ls : List Lit) (ng : Nogood) → ng ≡ nogood (Some h) ls → ng.head ≡ Some a → h ≡ a
head_same h a ls ng e f = let w : Some h ≡ Some a = sym (ap (λ (z : Nogood). z.head) e) ∙ f in cc

module _ {N A K : Type 0} (core : Rules N A K) (s : State N A K) (valid : Valid core s) (founds : Founds s) where
  -- a body that is true has positive atoms that are true
  body_support : (stack : List Entry) → Good core s stack → Supported s stack → (k : Made K) → k ∈ s.made → (b : ℕ) → k.body ≡ Some b → value_of stack b ≡ Some True → pos_fully stack k.inst.pos
  body_support [] g h k i b has e p j = cc
  body_support (t ∷ rest) g h k i b has e p j = elim (value_cases t rest b) [
    | inl w ↦ (let tv : Some t.value ≡ Some True = sym w.1 ∙ e in
        let tt' : t.value ≡ True = cc in
        let sup = h.0 tt' in
        elim sup.3 [
          | inl same ↦ (let other : Made K = sup.0 in
              let hb : other.body ≡ Some b = same ∙ ap (λ z. Some z) w.0 in
              let p1 = (valid.made k i).body b has in
              let p2 = (valid.made other sup.1).body b hb in
              let jj = sym p1.1 ∙ p2.1 in
              let nn : p1.0 ≡ p2.0 = cc in
              let mm : slice_get s.made p1.0 ≡ Some other = subst (λ z. slice_get s.made z ≡ Some other) (sym nn) p2.2 in
              let oo : Some k ≡ Some other = sym p1.2 ∙ mm in
              let kk : k ≡ other = cc in
              true_stays core s t rest g.0 p (sup.2 p (subst (λ (z : Made K). (p ∈ z.inst.pos)) kk j)))
          | inr hd ↦ absurd (head_not_body sup.0 sup.1 (subst (λ z. IsHead sup.0.inst.kind z) w.0 hd.0))
        ])
    | inr w ↦ true_stays core s t rest g.0 p (body_support rest g.1 h.1 k i b has (sym w.1 ∙ e) p j)
  ]
    where
      kind_named : (kd : Kind ℕ) (ki : Kind A) → KindNames s.names kd ki → IsHead kd b → (a : A) × IsName s b a
      kind_named (Plain x) (Plain a) d e = (a, subst (λ z. slice_get s.names z ≡ Some (Named a)) e d)
      kind_named (Choice x) (Choice a) d e = (a, subst (λ z. slice_get s.names z ≡ Some (Named a)) e d)
      kind_named Constraint Constraint d e = absurd e
      kind_named (Plain x) (Choice a) d e = absurd d
      kind_named (Plain x) Constraint d e = absurd d
      kind_named (Choice x) (Plain a) d e = absurd d
      kind_named (Choice x) Constraint d e = absurd d
      kind_named Constraint (Plain a) d e = absurd d
      kind_named Constraint (Choice a) d e = absurd d

      head_not_body : (o : Made K) → o ∈ s.made → IsHead o.inst.kind b → ⊥
      head_not_body o io hd =
          let gm = valid.made o io in
          let n = kind_named o.inst.kind gm.inst.kind gm.denotes.kind hd in
          let q = (valid.made k i).body b has in
          let w : Some (Named n.0) ≡ Some (BodyOf q.0) = sym n.1 ∙ q.1 in
          cc

  with_body_support : (stack : List Entry) → Good core s stack → Supported s stack → (k : Made K) → k ∈ s.made → (b : ℕ) (head : List Lit) (h : ℕ) → k.body ≡ Some b → IsHead k.inst.kind h
      → (ng : Nogood) → ng ∈ with_body b head k.inst h → (a : ℕ) → Rises stack ng a → SupportOf s a stack
  with_body_support stack g sup k i b head h has hd ng j a r =
      elim (∈-append_cases ng (first ++ each_with b false k.inst.pos ++ each_with b true k.inst.neg) last j) [
        | inl m ↦ elim (∈-append_cases ng (first ++ each_with b false k.inst.pos) (each_with b true k.inst.neg) m) [
          | inl n ↦ elim (∈-append_cases ng first (each_with b false k.inst.pos) n) [
            | inl o ↦ by_body (set_of-is (Some b) first_lits ng o)
            | inr o ↦ absurd (each_head b false k.inst.pos ng o a r.heads)
          ]
          | inr n ↦ absurd (each_head b true k.inst.neg ng n a r.heads)
        ]
        | inr m ↦ by_head (set_of-is (Some h) (lit h false ∷ lit b true ∷ []) ng m)
      ]
    where
      first_lits : List Lit
      first_lits = lit b false ∷ head ++ lits_of true k.inst.pos ++ lits_of false k.inst.neg

      first : List Nogood
      first = set_of (Some b) first_lits

      last : List Nogood
      last = set_of (Some h) (lit h false ∷ lit b true ∷ [])

      by_body : ng ≡ nogood (Some b) (once first_lits) → SupportOf s a stack
      by_body e =
          let same : b ≡ a = head_same b a (once first_lits) ng e r.heads in (
            k,
            i,
            pos_of stack a ng.lits k.inst.pos (λ l q. subst (λ (z : Nogood). l ∈ z.lits) (sym e) (once-to first_lits l (inr (∈-append_left l (head ++ lits_of true k.inst.pos) (lits_of false k.inst.neg) (∈-append_right l head (lits_of true k.inst.pos) q))))) r.others,
            inl (has ∙ ap (λ z. Some z) same),
          )

      by_head : ng ≡ nogood (Some h) (once (lit h false ∷ lit b true ∷ [])) → SupportOf s a stack
      by_head e =
          let same : h ≡ a = head_same h a (once (lit h false ∷ lit b true ∷ [])) ng e r.heads in
          let bt : value_of stack b ≡ Some True = elim (r.others (lit b true) (subst (λ (z : Nogood). lit b true ∈ z.lits) (sym e) (once-to (lit h false ∷ lit b true ∷ []) (lit b true) (inr (inl refl))))) [
            | inl q ↦ absurd (up_differs b a q)
            | inr q ↦ q
          ] in (
            k,
            i,
            body_support stack g sup k i b has bt,
            inr (subst (λ z. IsHead k.inst.kind z) same hd, (λ c q. let w : Some b ≡ Some c = sym has ∙ q in let f : b ≡ c = cc in subst (λ z. value_of stack z ≡ Some True) f bt)),
          )

  table_support : (stack : List Entry) → Good core s stack → Supported s stack → (k : Made K) → k ∈ s.made → (kind : Kind ℕ) → k.inst.kind ≡ kind → (body : Option ℕ) → k.body ≡ body
      → (ng : Nogood) → ng ∈ table_of kind body k.inst → (a : ℕ) → Rises stack ng a → SupportOf s a stack
  table_support stack g sup k i (Plain h) ke None be ng j a r =
      let ls : List Lit = lit h false ∷ lits_of true k.inst.pos in
      let e : ng ≡ nogood (Some h) (once (lit h false ∷ lits_of true k.inst.pos)) = set_of-is (Some h) (lit h false ∷ lits_of true k.inst.pos) ng j in
      let same : h ≡ a = head_same h a (once (lit h false ∷ lits_of true k.inst.pos)) ng e r.heads in (
        k,
        i,
        pos_of stack a ng.lits k.inst.pos (λ l q. subst (λ (z : Nogood). l ∈ z.lits) (sym e) (once-to (lit h false ∷ lits_of true k.inst.pos) l (inr q))) r.others,
        inr (subst (λ z. IsHead z a) (sym ke) same, (λ b q. let w : None ≡ Some b = sym be ∙ q in cc)),
      )
  table_support stack g sup k i (Plain h) ke (Some b) be ng j a r = with_body_support stack g sup k i b [] h be (subst (λ z. IsHead z h) (sym ke) refl) ng j a r
  table_support stack g sup k i (Choice h) ke None be ng j a r = absurd j
  table_support stack g sup k i (Choice h) ke (Some b) be ng j a r = with_body_support stack g sup k i b (lit h true ∷ []) h be (subst (λ z. IsHead z h) (sym ke) refl) ng j a r
  table_support stack g sup k i Constraint ke body be ng j a r =
      absurd (none_head a (sym (ap (λ (z : Nogood). z.head) (set_of-is None (lits_of true k.inst.pos ++ lits_of false k.inst.neg) ng j)) ∙ r.heads))

  pub rises_support : (ng : Nogood) → ng ∈ s.nogoods → (a : ℕ) → Rises s.stack ng a → SupportOf s a s.stack
  rises_support ng i a r =
      let h = founds.heads ng i a r.heads in
      table_support s.stack valid.good founds.supported h.0 h.1 h.0.inst.kind refl h.0.body refl ng h.2 a r

  -- a learned nogood has no head
  heads_learned : (ls : List Lit) → (ng : Nogood) → ng ∈ (s.nogoods ++ nogood None ls ∷ []) → (a : ℕ) → ng.head ≡ Some a → (k : Made K) × (k ∈ s.made) × (ng ∈ nogoods_of k)
  heads_learned ls ng i a h = elim (∈-append_cases ng s.nogoods (nogood None ls ∷ []) i) [
    | inl j ↦ founds.heads ng j a h
    | inr j ↦ absurd (none_head a (sym (ap (λ (z : Nogood). z.head) (in_single j)) ∙ h))
  ]

  -- each event keeps it
  founds_keep : (listed : List (List A)) (e : Event A K) → Allowed core listed s e → Founds (happens core s e)
  founds_keep listed (NameTerm node) ok = record { heads = founds.heads; supported = supported_more s (happens core s (NameTerm node)) (λ k i. i) s.stack founds.supported }
  founds_keep listed (Number x a number) ok = record { heads = founds.heads; supported = supported_more s (happens core s (Number x a number)) (λ k i. i) s.stack founds.supported }
  founds_keep listed (NameAtom a) ok = record { heads = founds.heads; supported = supported_more s (happens core s (NameAtom a)) (λ k i. i) s.stack founds.supported }
  founds_keep listed NameBody ok = record { heads = founds.heads; supported = supported_more s (happens core s NameBody) (λ k i. i) s.stack founds.supported }
  founds_keep listed (Make k) ok = record {
    heads = λ ng i a h. elim (∈-append_cases ng s.nogoods (nogoods_of k) i) [
      | inl j ↦ (let r = founds.heads ng j a h in (r.0, ∈-append_left r.0 s.made (k ∷ []) r.1, r.2))
      | inr j ↦ (k, ∈-append_right k s.made (k ∷ []) (inl refl), j)
    ];
    supported = supported_more s (happens core s (Make k)) (λ m i. ∈-append_left m s.made (k ∷ []) i) s.stack founds.supported;
  }
  founds_keep listed (Put a v n) ok = record {
    heads = founds.heads;
    supported = ((λ t. by v t ok.1.2), supported_more s (happens core s (Put a v n)) (λ k i. i) s.stack founds.supported);
  }
    where
      by : (v : Value) → v ≡ True → Gives s.stack ok.1.0 a v → SupportOf s a s.stack
      by True t r = rises_support ok.1.0 (get_in s.nogoods n ok.1.0 ok.1.1) a r
      by MustBe t r = cc
      by False t r = cc
  founds_keep listed (Choose b up) ok = record {
    heads = founds.heads;
    supported = ((λ t. let act = ok.3.2 in (ok.3.0, ok.3.1, act.pos_true, inl act.has_body)), supported_more s (happens core s (Choose b up)) (λ k i. i) s.stack founds.supported);
  }
  founds_keep listed (Close x) ok = record {
    heads = founds.heads;
    supported = ((λ t. cc), supported_more s (happens core s (Close x)) (λ k i. i) s.stack founds.supported);
  }
  founds_keep listed (Strike n) ok = record { heads = founds.heads; supported = supported_more s (happens core s (Strike n)) (λ k i. i) s.stack founds.supported }
  founds_keep listed (Keep n) ok = record { heads = founds.heads; supported = supported_more s (happens core s (Keep n)) (λ k i. i) s.stack founds.supported }
  founds_keep listed (CallWide x) ok = record { heads = founds.heads; supported = supported_more s (happens core s (CallWide x)) (λ k i. i) s.stack founds.supported }
  founds_keep listed (Learn how ls) ok = record { heads = heads_learned ls; supported = supported_more s (happens core s (Learn how ls)) (λ k i. i) s.stack founds.supported }
  founds_keep listed (Justify patterns ls) ok = record {
    heads = heads_learned ls;
    supported = supported_more s (happens core s (Justify patterns ls)) (λ k i. i) (explain_first ls (length s.nogoods) s.stack) (supported_first s ls (length s.nogoods) s.stack founds.supported);
  }
  founds_keep listed (Back l) ok = record { heads = founds.heads; supported = supported_more s (happens core s (Back l)) (λ k i. i) (back_to l s.stack) (supported_back s l s.stack founds.supported) }
  founds_keep listed (Show ids) ok = record { heads = founds.heads; supported = supported_more s (happens core s (Show ids)) (λ k i. i) s.stack founds.supported }
  founds_keep listed (Pass ids) ok = record { heads = founds.heads; supported = supported_more s (happens core s (Pass ids)) (λ k i. i) s.stack founds.supported }

-- a legal journal leads to a state in which each true atom has an instance behind it
pub legal_founds : {N A K : Type 0} (core : Rules N A K) (listed : List (List A)) (events : List (Event A K)) → Legal core listed events → Founds (replay core events)
legal_founds core listed [] h = record { heads = λ ng i. absurd i; supported = tt }
legal_founds core listed (e ∷ earlier) h =
    let inv = legal_safe core listed earlier h.0 in
    founds_keep core (replay core earlier) inv.valid (legal_founds core listed earlier h.0) listed e h.1
