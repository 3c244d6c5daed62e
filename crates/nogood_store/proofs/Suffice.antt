-- Watches that suffice, as the stack grows, as more of it is taken up, and after a visit.
use Rattle.std.proofs.Common.{◌≡◌, ℕ, ◌⊎◌, Bool, true, false, cond, List, [], ◌∷◌, refl, sym, ◌∙◌, ap, subst, inl, inr}
use Rattle.std.specs.Prelude.{Option, Some, None, nat_eq, map}
use Rattle.lists.specs.Lists.{◌∈◌}
use Rattle.lists.proofs.ListLemmas.{∈-map}
use Rattle.search_values.specs.declared.entry.Entry.{Entry}
use Rattle.search_values.specs.Values.{Value, True, MustBe, False, Lit, lit, is_up, full_value, value_of, Holds, HoldsFully}
use Rattle.search_values.specs.Nogoods.{Nogood, IsStruck, IsLeft, Rises, Gives}
use Rattle.search_values.proofs.Basics.{nat_eq-same, value_cases}
use Rattle.trail.specs.Assigning.{MayBecome}
use Rattle.nogood_store.specs.declared.watching.Watches.{Watches}
use Rattle.nogood_store.specs.Stored.{Stored, HasNoAtomTwice, IsHeadOf, atom_of, head_atom, nogood_of}
use Rattle.nogood_store.specs.Visits.{VisitIs}
use Rattle.nogood_store.specs.Watched.{AreWatches, IsMissing, OneMissing, ThirdIsDull, AreMoved}
use Rattle.nogood_store.specs.Matching.{Fails, Suffices, OtherFails, HeadIsTrue, HeadMustBe, TwoAreMissing, SufficesAfter}
use Rattle.nogood_store.specs.declared.looking.Visit.{Visit}
use Rattle.nogood_store.specs.declared.looking.Visit.TheVariants.{Idle, Unit as Forces, Struck}
use Rattle.nogood_store.proofs.Look.{head_among}
use Rattle.nogood_store.proofs.Weighing.{same_or_not}

-- ---- values of a stack with one more entry

-- an entry that may come gives its atom a first value, or raises it from must-be-true
pub grows : (e : Entry) (rest : List Entry) → MayBecome (value_of rest e.atom) e.value → (a : ℕ) (v : Value) → value_of rest a ≡ Some v
    → (value_of (e ∷ rest) a ≡ Some v) ⊎ ((v ≡ MustBe) × (value_of (e ∷ rest) a ≡ Some True))
grows e rest may a v h = elim (value_cases e rest a) [
  | inl k ↦ elim may [
    | inl n ↦ (let w : value_of rest a ≡ None = subst (λ z. value_of rest z ≡ None) k.0 n in cc)
    | inr m ↦ (let w : value_of rest a ≡ Some MustBe = subst (λ z. value_of rest z ≡ Some MustBe) k.0 m.0 in inr (cc, k.1 ∙ ap (λ (x : Value). Some x) m.1))
  ]
  | inr k ↦ inl (k.1 ∙ h)
]

-- a literal that holds goes on to hold
pub holds_on : (e : Entry) (rest : List Entry) → MayBecome (value_of rest e.atom) e.value → (l : Lit) → Holds rest l → Holds (e ∷ rest) l
holds_on e rest may l h = elim (grows e rest may l.atom h.0 h.1) [
  | inl k ↦ (h.0, k, h.2)
  | inr k ↦ (True, k.1, sym (ap is_up k.0) ∙ h.2)
]

-- so does one that holds fully
pub full_on : (e : Entry) (rest : List Entry) → MayBecome (value_of rest e.atom) e.value → (l : Lit) → HoldsFully rest l → HoldsFully (e ∷ rest) l
full_on e rest may l h = elim (grows e rest may l.atom (full_value l.positive) h) [
  | inl k ↦ k
  | inr k ↦ absurd (never l.positive k.0)
]
  where
    never : (b : Bool) → full_value b ≡ MustBe → ⊥
    never true e = cc
    never false e = cc

-- one that fails goes on to fail
pub fails_on : (e : Entry) (rest : List Entry) → MayBecome (value_of rest e.atom) e.value → (l : Lit) → Fails rest l → Fails (e ∷ rest) l
fails_on e rest may l h = elim (grows e rest may l.atom h.0 h.1) [
  | inl k ↦ (h.0, k, h.2)
  | inr k ↦ (True, k.1, (λ u. h.2 (ap is_up k.0 ∙ u)))
]

-- ---- as the stack grows

-- watches that suffice do so with one more entry that isn't taken up
pub suffices_on : (taken rest : List Entry) (e : Entry) (s : Stored) → MayBecome (value_of rest e.atom) e.value → Suffices taken rest s → Suffices taken (e ∷ rest) s
suffices_on taken rest e s may (OtherFails l i n f) = OtherFails l i n (fails_on e rest may l f)
suffices_on taken rest e s may (HeadIsTrue a h i v) = elim (grows e rest may a True v) [
  | inl k ↦ HeadIsTrue a h i k
  | inr k ↦ absurd (let w = k.0 in cc)
]
suffices_on taken rest e s may (HeadMustBe a l h i v w j n d) = elim (grows e rest may a MustBe v) [
  | inl k ↦ HeadMustBe a l h i k w j n d
  | inr k ↦ HeadIsTrue a h i k.1
]
suffices_on taken rest e s may (TwoAreMissing l k f g i j n p q) = TwoAreMissing l k f g i j n p q

-- where less is taken up, watches suffice that do where more is
pub suffices_less : (less more stack : List Entry) (s : Stored) → ((l : Lit) → Holds less l → Holds more l) → ((l : Lit) → HoldsFully less l → HoldsFully more l) → Suffices more stack s → Suffices less stack s
suffices_less less more stack s holds full (OtherFails l i n f) = OtherFails l i n f
suffices_less less more stack s holds full (HeadIsTrue a h i v) = HeadIsTrue a h i v
suffices_less less more stack s holds full (HeadMustBe a l h i v w j n d) = HeadMustBe a l h i v w j n (λ x. d (full l x))
suffices_less less more stack s holds full (TwoAreMissing l k f g i j n p q) = TwoAreMissing l k f g i j n (λ x. p (holds l x)) (λ x. q (holds k x))

-- ---- where all is taken up, the nogood says nothing

-- a literal that fails doesn't hold
pub fails_not : (stack : List Entry) (l : Lit) → Fails stack l → Holds stack l → ⊥
fails_not stack l f h = let same : Some f.0 ≡ Some h.0 = sym f.1 ∙ h.1 in let v : f.0 ≡ h.0 = cc in f.2 (ap is_up v ∙ h.2)

pub full_holds : (stack : List Entry) (l : Lit) → HoldsFully stack l → Holds stack l
full_holds stack l h = (full_value l.positive, h, go l.positive)
  where
    go : (b : Bool) → is_up (full_value b) ≡ b
    go true = refl
    go false = refl

-- where a nogood gives a value, all literals hold but that of the atom
pub gives_left : (stack : List Entry) (ng : Nogood) (a : ℕ) (v : Value) → Gives stack ng a v → (b : Bool) × ((l : Lit) → l ∈ ng.lits → (l ≡ lit a b) ⊎ Holds stack l)
gives_left stack ng a True r = (false, (λ l i. elim (r.others l i) [ inl e ↦ inl e | inr h ↦ inr (full_holds stack l h) ]))
gives_left stack ng a MustBe r = (false, r.0.others)
gives_left stack ng a False r = (true, r.others)

-- what a nogood says where its watches suffice and all is taken up: nothing
pub says_nothing : (stack : List Entry) (s : Stored) → Suffices stack stack s → (IsStruck stack (nogood_of s) → ⊥) × ((a : ℕ) (v : Value) → Gives stack (nogood_of s) a v → ⊥)
says_nothing stack s (OtherFails l i n f) = (
  (λ struck. fails_not stack l f (struck l i)),
  (λ a v g. gives a v g),
)
  where
    unassigned : (k : Lit) → l ≡ k → value_of stack k.atom ≡ None → ⊥
    unassigned k e u = let w : value_of stack l.atom ≡ None = subst (λ (z : Lit). value_of stack z.atom ≡ None) (sym e) u in let x = f.1 in cc

    gives : (a : ℕ) (v : Value) → Gives stack (nogood_of s) a v → ⊥
    gives a True r = elim (r.others l i) [
      | inl e ↦ n (r.heads ∙ ap (λ (z : Lit). Some z.atom) (sym e))
      | inr h ↦ fails_not stack l f (full_holds stack l h)
    ]
    gives a MustBe r = elim (r.0.others l i) [ inl e ↦ unassigned (lit a false) e r.0.unassigned | inr h ↦ fails_not stack l f h ]
    gives a False r = elim (r.others l i) [ inl e ↦ unassigned (lit a true) e r.unassigned | inr h ↦ fails_not stack l f h ]
says_nothing stack s (HeadIsTrue a h i v) = (
  (λ struck. down (struck (lit a false) i)),
  (λ b w g. gives b w g),
)
  where
    down : Holds stack (lit a false) → ⊥
    down k = let same : Some True ≡ Some k.0 = sym v ∙ k.1 in let w : True ≡ k.0 = cc in let u : true ≡ false = ap is_up w ∙ k.2 in cc

    at : (b : ℕ) (c : Bool) → (lit a false) ≡ (lit b c) → value_of stack b ≡ Some True
    at b c e = subst (λ (z : Lit). value_of stack z.atom ≡ Some True) e v

    gives : (b : ℕ) (w : Value) → Gives stack (nogood_of s) b w → ⊥
    gives b True r = elim (r.others (lit a false) i) [
      | inl e ↦ (let x = at b false e in elim r.not_yet [ inl n ↦ cc | inr m ↦ cc ])
      | inr k ↦ down (full_holds stack (lit a false) k)
    ]
    gives b MustBe r = elim (r.0.others (lit a false) i) [ inl e ↦ (let x = at b false e in let y = r.0.unassigned in cc) | inr k ↦ down k ]
    gives b False r = elim (r.others (lit a false) i) [ inl e ↦ (let x = at b true e in let y = r.unassigned in cc) | inr k ↦ down k ]
says_nothing stack s (HeadMustBe a l h i v t j n d) = (
  (λ struck. down (struck (lit a false) i)),
  (λ b w g. gives b w g),
)
  where
    down : Holds stack (lit a false) → ⊥
    down k = let same : Some MustBe ≡ Some k.0 = sym v ∙ k.1 in let w : MustBe ≡ k.0 = cc in let u : true ≡ false = ap is_up w ∙ k.2 in cc

    at : (b : ℕ) (c : Bool) → (lit a false) ≡ (lit b c) → value_of stack b ≡ Some MustBe
    at b c e = subst (λ (z : Lit). value_of stack z.atom ≡ Some MustBe) e v

    gives : (b : ℕ) (w : Value) → Gives stack (nogood_of s) b w → ⊥
    gives b True r = elim (r.others l j) [
      | inl e ↦ (let q : Some a ≡ Some b = sym h ∙ r.heads in let same : a ≡ b = cc in n (ap (λ (z : Lit). z.atom) e ∙ sym same))
      | inr k ↦ d k
    ]
    gives b MustBe r = elim (r.0.others (lit a false) i) [ inl e ↦ (let x = at b false e in let y = r.0.unassigned in cc) | inr k ↦ down k ]
    gives b False r = elim (r.others (lit a false) i) [ inl e ↦ (let x = at b true e in let y = r.unassigned in cc) | inr k ↦ down k ]
says_nothing stack s (TwoAreMissing l k f g i j n p q) = (
  (λ struck. p (struck l i)),
  (λ a v r. let w = gives_left stack (nogood_of s) a v r in
      elim (w.1 l i) [
        | inl e ↦ elim (w.1 k j) [ inl d ↦ n (e ∙ sym d) | inr h ↦ q h ]
        | inr h ↦ p h
      ]),
)

-- ---- after a visit

-- a literal holds, or it doesn't
pub holds_or_not : (stack : List Entry) (l : Lit) → Holds stack l ⊎ (Holds stack l → ⊥)
holds_or_not stack l = go (value_of stack l.atom) refl
  where
    signs : (v : Value) → value_of stack l.atom ≡ Some v → (b c : Bool) → is_up v ≡ b → l.positive ≡ c → Holds stack l ⊎ (Holds stack l → ⊥)
    signs v e true true p q = inl (v, e, p ∙ sym q)
    signs v e false false p q = inl (v, e, p ∙ sym q)
    signs v e true false p q = inr (λ h. let s : Some v ≡ Some h.0 = sym e ∙ h.1 in let w : v ≡ h.0 = cc in let u : true ≡ false = sym p ∙ ap is_up w ∙ h.2 ∙ q in cc)
    signs v e false true p q = inr (λ h. let s : Some v ≡ Some h.0 = sym e ∙ h.1 in let w : v ≡ h.0 = cc in let u : false ≡ true = sym p ∙ ap is_up w ∙ h.2 ∙ q in cc)

    go : (o : Option Value) → value_of stack l.atom ≡ o → Holds stack l ⊎ (Holds stack l → ⊥)
    go None e = inr (λ h. let w = h.1 in cc)
    go (Some v) e = signs v e (is_up v) l.positive refl refl

-- it holds fully, or it doesn't
pub full_or_not : (stack : List Entry) (l : Lit) → HoldsFully stack l ⊎ (HoldsFully stack l → ⊥)
full_or_not stack l = go (value_of stack l.atom) (full_value l.positive)
  where
    go : (o : Option Value) (v : Value) → (o ≡ Some v) ⊎ (o ≡ Some v → ⊥)
    go None v = inr (λ e. cc)
    go (Some True) True = inl refl
    go (Some True) MustBe = inr (λ e. cc)
    go (Some True) False = inr (λ e. cc)
    go (Some MustBe) True = inr (λ e. cc)
    go (Some MustBe) MustBe = inl refl
    go (Some MustBe) False = inr (λ e. cc)
    go (Some False) True = inr (λ e. cc)
    go (Some False) MustBe = inr (λ e. cc)
    go (Some False) False = inl refl

-- all literals hold, or one doesn't
pub one_or_all : (stack : List Entry) (ls : List Lit) → ((l : Lit) × (l ∈ ls) × (Holds stack l → ⊥)) ⊎ ((l : Lit) → l ∈ ls → Holds stack l)
one_or_all stack [] = inr (λ l i. absurd i)
one_or_all stack (k ∷ ks) = elim (holds_or_not stack k) [
  | inl h ↦ elim (one_or_all stack ks) [
    | inl w ↦ inl (w.0, inr w.1, w.2)
    | inr all ↦ inr (λ l i. elim i [ inl e ↦ subst (λ (z : Lit). Holds stack z) (sym e) h | inr j ↦ all l j ])
  ]
  | inr n ↦ inl (k, inl refl, n)
]

-- all literals but that of the atom hold fully, or another doesn't
pub dull_or_full : (stack : List Entry) (a : ℕ) (ls : List Lit) → ((l : Lit) × (l ∈ ls) × (l.atom ≡ a → ⊥) × (HoldsFully stack l → ⊥)) ⊎ ((l : Lit) → l ∈ ls → (l.atom ≡ a) ⊎ HoldsFully stack l)
dull_or_full stack a [] = inr (λ l i. absurd i)
dull_or_full stack a (k ∷ ks) = elim (same_or_not k.atom a) [
  | inl e ↦ later (dull_or_full stack a ks) (inl e)
  | inr n ↦ elim (full_or_not stack k) [ inl f ↦ later (dull_or_full stack a ks) (inr f) | inr d ↦ inl (k, inl refl, n, d) ]
]
  where
    later : ((l : Lit) × (l ∈ ks) × (l.atom ≡ a → ⊥) × (HoldsFully stack l → ⊥)) ⊎ ((l : Lit) → l ∈ ks → (l.atom ≡ a) ⊎ HoldsFully stack l) → (k.atom ≡ a) ⊎ HoldsFully stack k → ((l : Lit) × (l ∈ (k ∷ ks)) × (l.atom ≡ a → ⊥) × (HoldsFully stack l → ⊥)) ⊎ ((l : Lit) → l ∈ (k ∷ ks) → (l.atom ≡ a) ⊎ HoldsFully stack l)
    later rest here = elim rest [
      | inl w ↦ inl (w.0, inr w.1, w.2, w.3)
      | inr all ↦ inr (λ l i. elim i [ inl e ↦ subst (λ (z : Lit). (z.atom ≡ a) ⊎ HoldsFully stack z) (sym e) here | inr j ↦ all l j ])
    ]

-- two literals of one atom are the same
pub no_twice : (ls : List Lit) → HasNoAtomTwice ls → (l k : Lit) → l ∈ ls → k ∈ ls → l.atom ≡ k.atom → l ≡ k
no_twice [] h l k i j e = absurd i
no_twice (x ∷ xs) h l k (inl p) (inl q) e = p ∙ sym q
no_twice (x ∷ xs) h l k (inl p) (inr j) e = absurd (h.0 (subst (λ n. n ∈ map atom_of xs) (sym e ∙ ap atom_of p) (∈-map atom_of k xs j)))
no_twice (x ∷ xs) h l k (inr i) (inl q) e = absurd (h.0 (subst (λ n. n ∈ map atom_of xs) (e ∙ ap atom_of q) (∈-map atom_of l xs i)))
no_twice (x ∷ xs) h l k (inr i) (inr j) e = no_twice xs h.1 l k i j e

-- the head is this atom, or not
head_or_not : (h : Option ℕ) (a : ℕ) → (h ≡ Some a) ⊎ (h ≡ Some a → ⊥)
head_or_not None a = inr (λ e. cc)
head_or_not (Some b) a = elim (same_or_not b a) [ inl e ↦ inl (ap (λ z. Some z) e) | inr n ↦ inr (λ (q : Some b ≡ Some a). let w : b ≡ a = cc in n w) ]

-- the value of the newest entry
value_here : (e : Entry) (stack : List Entry) (a : ℕ) → e.atom ≡ a → value_of (e ∷ stack) a ≡ Some e.value
value_here e stack a same = ap (λ b. cond b (Some e.value) (value_of stack a)) (subst (λ z. nat_eq e.atom z ≡ true) same (nat_eq-same e.atom))

module _ (stack : List Entry) (s : Stored) (once : HasNoAtomTwice s.lits) (negative : IsHeadOf s.lits s.head) (w : AreWatches s.lits (head_atom s.lits s.head) s.watches)
    (one : OneMissing stack s.lits) (third : ThirdIsDull stack s.lits (head_atom s.lits s.head) s.watches) where
  head_in : (a : ℕ) → head_atom s.lits s.head ≡ Some a → lit a false ∈ s.lits
  head_in a h = head_among s.lits s.head negative a h

  -- where the head is must-be-true and doesn't rise, the third watch suffices
  by_third : (above : List Entry) (a : ℕ) → head_atom s.lits s.head ≡ Some a → value_of above a ≡ Some MustBe → ((value_of stack a ≡ None) ⊎ (value_of stack a ≡ Some MustBe))
      → (Rises stack (nogood_of s) a → ⊥) → Suffices stack above s
  by_third above a h v not_yet rests = elim (dull_or_full stack a s.lits) [
    | inl d ↦ (let t = third a h d.0 d.1 d.2 d.3 in
        HeadMustBe a t.0 h (head_in a h) v t.1 (w.third_in t.0 t.1) (λ e. w.third_beside t.0 t.1 (h ∙ ap (λ z. Some z) (sym e))) t.2)
    | inr full ↦ absurd (rests (record {
      heads = h;
      among = head_in a h;
      not_yet = not_yet;
      others = λ l i. elim (full l i) [ inl e ↦ inl (no_twice s.lits once l (lit a false) i (head_in a h) e) | inr f ↦ inr f ];
    }))
  ]

  -- where nothing is unit or struck
  idle : (IsStruck stack (nogood_of s) → ⊥) → ((a : ℕ) (v : Value) → Gives stack (nogood_of s) a v → ⊥) → Suffices stack stack s
  idle not_struck gives_none = elim (one_or_all stack s.lits) [
    | inl m ↦ by_value m.0 m.1 m.2 (value_of stack m.0.atom) refl
    | inr all ↦ absurd (not_struck all)
  ]
    where
      others : (x : Lit) → x ∈ s.lits → (Holds stack x → ⊥) → (l : Lit) → l ∈ s.lits → (l ≡ x) ⊎ Holds stack l
      others x i n l j = elim (holds_or_not stack l) [ inl h ↦ inr h | inr k ↦ inl (one l x j i k n) ]

      left : (x : Lit) (i : x ∈ s.lits) (n : Holds stack x → ⊥) (b : Bool) → x.positive ≡ b → value_of stack x.atom ≡ None → IsLeft stack (nogood_of s) (lit x.atom b)
      left x i n b p e = let same : x ≡ lit x.atom b = λ j. record { atom = x.atom; positive = p j } in record {
        among = subst (λ (z : Lit). z ∈ s.lits) same i;
        unassigned = e;
        others = λ l j. elim (others x i n l j) [ inl q ↦ inl (q ∙ same) | inr h ↦ inr h ];
      }

      unassigned : (x : Lit) (i : x ∈ s.lits) (n : Holds stack x → ⊥) (b : Bool) → x.positive ≡ b → value_of stack x.atom ≡ None → ⊥
      unassigned x i n true p e = gives_none x.atom False (left x i n true p e)
      unassigned x i n false p e = gives_none x.atom MustBe (left x i n false p e, (λ r. gives_none x.atom True r))

      by_head : (x : Lit) (i : x ∈ s.lits) (n : Holds stack x → ⊥) (v : Value) → value_of stack x.atom ≡ Some v → head_atom s.lits s.head ≡ Some x.atom → Suffices stack stack s
      by_head x i n True e h = HeadIsTrue x.atom h (head_in x.atom h) e
      by_head x i n MustBe e h = by_third stack x.atom h e (inr e) (gives_none x.atom True)
      by_head x i n False e h =
          let same : x ≡ lit x.atom false = no_twice s.lits once x (lit x.atom false) i (head_in x.atom h) refl in
          absurd (n (False, e, ap (λ (z : Lit). z.positive) (sym same)))

      by_value : (x : Lit) (i : x ∈ s.lits) (n : Holds stack x → ⊥) (o : Option Value) → value_of stack x.atom ≡ o → Suffices stack stack s
      by_value x i n None e = absurd (unassigned x i n x.positive refl e)
      by_value x i n (Some v) e = elim (head_or_not (head_atom s.lits s.head) x.atom) [
        | inl h ↦ by_head x i n v e h
        | inr k ↦ OtherFails x i k (v, e, (λ u. n (v, e, u)))
      ]

  -- where it is unit, after the value
  forced : (a : ℕ) (v : Value) → Gives stack (nogood_of s) a v → (e : Entry) → e.atom ≡ a → e.value ≡ v → Suffices stack (e ∷ stack) s
  forced a True r e at is = HeadIsTrue a r.heads r.among (value_here e stack a at ∙ ap (λ (x : Value). Some x) is)
  forced a MustBe r e at is = elim (head_or_not (head_atom s.lits s.head) a) [
    | inl h ↦ by_third (e ∷ stack) a h (value_here e stack a at ∙ ap (λ (x : Value). Some x) is) (inl r.0.unassigned) r.1
    | inr n ↦ OtherFails (lit a false) r.0.among n (MustBe, value_here e stack a at ∙ ap (λ (x : Value). Some x) is, (λ u. cc))
  ]
  forced a False r e at is = OtherFails (lit a true) r.among (λ h. let same : lit a true ≡ lit a false = no_twice s.lits once (lit a true) (lit a false) r.among (head_in a h) refl in
      let u : true ≡ false = ap (λ (z : Lit). z.positive) same in cc) (False, value_here e stack a at ∙ ap (λ (x : Value). Some x) is, (λ u. cc))

-- after a visit the watches suffice once the answer is carried out
pub suffices_after : (stack : List Entry) (s : Stored) → HasNoAtomTwice s.lits → IsHeadOf s.lits s.head → (before : Watches) → AreMoved stack s.lits (head_atom s.lits s.head) before s.watches
    → (answer : Visit) → VisitIs stack s answer → SufficesAfter stack s answer
suffices_after stack s once negative before m answer exact = elim m.enough [
  | inl two ↦ by_two two.0 two.1 answer
  | inr rest ↦ by_one rest.0 rest.1 answer exact
]
  where
    w : AreWatches s.lits (head_atom s.lits s.head) s.watches
    w = m.are_watches

    both : IsMissing stack s.watches.first → IsMissing stack s.watches.second → (above : List Entry) → Suffices stack above s
    both f g above = TwoAreMissing f.0 g.0 f.1 g.1 (w.first_in f.0 f.1) (w.second_in g.0 g.1) (λ e. w.differ f.0 f.1 (g.1 ∙ ap (λ (z : Lit). Some z) (sym e))) f.2 g.2

    by_two : IsMissing stack s.watches.first → IsMissing stack s.watches.second → (answer : Visit) → SufficesAfter stack s answer
    by_two f g Idle = both f g stack
    by_two f g (Forces place v) = λ l e at a b. both f g (e ∷ stack)
    by_two f g Struck = tt

    by_one : OneMissing stack s.lits → ThirdIsDull stack s.lits (head_atom s.lits s.head) s.watches → (answer : Visit) → VisitIs stack s answer → SufficesAfter stack s answer
    by_one one third Idle x = idle stack s once negative w one third x.0 x.1
    by_one one third (Forces place v) x = λ l e at a b.
        let q : Some x.0 ≡ Some l = sym x.1 ∙ at in let same : x.0 ≡ l = cc in
        forced stack s once negative w one third x.0.atom v x.2 e (a ∙ ap (λ (z : Lit). z.atom) (sym same)) b
    by_one one third Struck x = tt
