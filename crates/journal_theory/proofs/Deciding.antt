-- Tests by which a state of a worked example is shown to have nothing struck, unit or active.
use Rattle.std.proofs.Common.{◌≡◌, ℕ, ◌⊎◌, Bool, true, false, not, ◌&&◌, ◌||◌, List, [], ◌∷◌, refl, sym, ◌∙◌, ap, subst, inl, inr}
use Rattle.std.specs.Prelude.{Option, Some, None, nat_eq, is_none}
use Rattle.std.specs.List.{list_any}
use Rattle.lists.specs.Lists.{◌∈◌}
use Rattle.search_values.specs.declared.entry.Entry.{Entry}
use Rattle.search_values.specs.Values.{Value, True, MustBe, False, Lit, is_up, lit, value_of, Holds, full_value, HoldsFully}
use Rattle.search_values.specs.Nogoods.{Nogood, IsLeft, Rises, Gives, NoneStruck, NoneUnit}
use Rattle.search_values.specs.Instances.{all_in, none_in}
use Rattle.search_values.specs.Tables.{Made, same_lit}
use Rattle.journal_theory.specs.States.{State, NoneActive}
use Rattle.journal_theory.specs.Events.{IsNew}
use Rattle.search_values.proofs.Basics.{or_left, or_right, any_from, and_intro, all_in-from, none_in-at, none_in-from, nat_eq-same, value_cases}

-- whether the value is up, or down, as asked
abbrev pub up_is : Option Value → Bool → Bool
up_is None b = false
up_is (Some v) true = is_up v
up_is (Some v) false = not (is_up v)

-- whether the literal holds
abbrev pub holds_test : List Entry → Lit → Bool
holds_test stack l = up_is (value_of stack l.atom) l.positive

up_is-holds : (o : Option Value) (b : Bool) (v : Value) → o ≡ Some v → is_up v ≡ b → up_is o b ≡ true
up_is-holds None b v e f = cc
up_is-holds (Some w) true v e f = let g : w ≡ v = cc in ap is_up g ∙ f
up_is-holds (Some w) false v e f = let g : w ≡ v = cc in ap not (ap is_up g ∙ f)

-- a literal that holds passes the test
pub holds_test-from : (stack : List Entry) (l : Lit) → Holds stack l → holds_test stack l ≡ true
holds_test-from stack l h = up_is-holds (value_of stack l.atom) l.positive h.0 h.1 h.2

-- whether this is the value
abbrev pub value_is : Option Value → Value → Bool
value_is None v = false
value_is (Some True) True = true
value_is (Some True) MustBe = false
value_is (Some True) False = false
value_is (Some MustBe) True = false
value_is (Some MustBe) MustBe = true
value_is (Some MustBe) False = false
value_is (Some False) True = false
value_is (Some False) MustBe = false
value_is (Some False) False = true

value_itself : (v : Value) → value_is (Some v) v ≡ true
value_itself True = refl
value_itself MustBe = refl
value_itself False = refl

-- whether the literal holds fully
abbrev pub fully_test : List Entry → Lit → Bool
fully_test stack l = value_is (value_of stack l.atom) (full_value l.positive)

-- a literal that holds fully passes the test
pub fully_test-from : (stack : List Entry) (l : Lit) → HoldsFully stack l → fully_test stack l ≡ true
fully_test-from stack l h = ap (λ o. value_is o (full_value l.positive)) h ∙ value_itself (full_value l.positive)

-- ---- struck

-- whether none of these nogoods is struck
abbrev pub none_struck_test : List Entry → List Nogood → Bool
none_struck_test stack ngs = none_in (λ ng. all_in (holds_test stack) ng.lits) ngs

-- the test shows that none is struck
pub none_struck : (stack : List Entry) (ngs : List Nogood) → none_struck_test stack ngs ≡ true → NoneStruck stack ngs
none_struck stack ngs test ng i struck =
    let t : all_in (holds_test stack) ng.lits ≡ true = all_in-from (holds_test stack) ng.lits (λ l j. holds_test-from stack l (struck l j)) in
    let f : all_in (holds_test stack) ng.lits ≡ false = none_in-at (λ (g : Nogood). all_in (holds_test stack) g.lits) ngs test ng i in
    cc

-- ---- unit

pub same_itself : (l : Lit) → same_lit l l ≡ true
same_itself l = and_intro (nat_eq l.atom l.atom) _ (nat_eq-same l.atom) (go l.positive)
  where
    go : (b : Bool) → ((b && b) || (not b && not b)) ≡ true
    go true = refl
    go false = refl

same_from : (l k : Lit) → l ≡ k → same_lit l k ≡ true
same_from l k e = subst (λ z. same_lit l z ≡ true) e (same_itself l)

-- whether all literals but this one hold, and its atom is unassigned
abbrev pub left_test : List Entry → Nogood → Lit → Bool
left_test stack ng l = is_none (value_of stack l.atom) && all_in (λ k. same_lit k l || holds_test stack k) ng.lits

left_from : (stack : List Entry) (ng : Nogood) (l : Lit) → IsLeft stack ng l → left_test stack ng l ≡ true
left_from stack ng l h = and_intro (is_none (value_of stack l.atom)) _ (ap is_none h.unassigned)
    (all_in-from (λ k. same_lit k l || holds_test stack k) ng.lits (λ k j. elim (h.others k j) [
      | inl e ↦ or_left (same_lit k l) (holds_test stack k) (same_from k l e)
      | inr w ↦ or_right (same_lit k l) (holds_test stack k) (holds_test-from stack k w)
    ]))

-- whether the atom is unassigned or must-be-true
abbrev pub may_rise : Option Value → Bool
may_rise None = true
may_rise (Some True) = false
may_rise (Some MustBe) = true
may_rise (Some False) = false

may_rise-from : (o : Option Value) → (o ≡ None) ⊎ (o ≡ Some MustBe) → may_rise o ≡ true
may_rise-from o (inl e) = ap may_rise e
may_rise-from o (inr e) = ap may_rise e

-- whether the head becomes true
abbrev pub rise_test : List Entry → Nogood → Option ℕ → Bool
rise_test stack ng None = false
rise_test stack ng (Some a) = may_rise (value_of stack a) && all_in (λ k. same_lit k (lit a false) || fully_test stack k) ng.lits

rise_from : (stack : List Entry) (ng : Nogood) (a : ℕ) → Rises stack ng a → rise_test stack ng ng.head ≡ true
rise_from stack ng a h = subst (λ z. rise_test stack ng z ≡ true) (sym h.heads) (and_intro (may_rise (value_of stack a)) _ (may_rise-from (value_of stack a) h.not_yet)
    (all_in-from (λ k. same_lit k (lit a false) || fully_test stack k) ng.lits (λ k j. elim (h.others k j) [
      | inl e ↦ or_left (same_lit k (lit a false)) (fully_test stack k) (same_from k (lit a false) e)
      | inr w ↦ or_right (same_lit k (lit a false)) (fully_test stack k) (fully_test-from stack k w)
    ])))

-- whether the nogood is unit
abbrev pub unit_test : List Entry → Nogood → Bool
unit_test stack ng = list_any (left_test stack ng) ng.lits || rise_test stack ng ng.head

gives_test : (stack : List Entry) (ng : Nogood) (a : ℕ) (v : Value) → Gives stack ng a v → unit_test stack ng ≡ true
gives_test stack ng a True h = or_right (list_any (left_test stack ng) ng.lits) (rise_test stack ng ng.head) (rise_from stack ng a h)
gives_test stack ng a MustBe h = or_left (list_any (left_test stack ng) ng.lits) (rise_test stack ng ng.head) (any_from (left_test stack ng) ng.lits (lit a false) h.0.among (left_from stack ng (lit a false) h.0))
gives_test stack ng a False h = or_left (list_any (left_test stack ng) ng.lits) (rise_test stack ng ng.head) (any_from (left_test stack ng) ng.lits (lit a true) h.among (left_from stack ng (lit a true) h))

-- whether none of these nogoods is unit
abbrev pub none_unit_test : List Entry → List Nogood → Bool
none_unit_test stack ngs = none_in (unit_test stack) ngs

-- the test shows that none is unit
pub none_unit : (stack : List Entry) (ngs : List Nogood) → none_unit_test stack ngs ≡ true → NoneUnit stack ngs
none_unit stack ngs test ng i a v gives =
    let t : unit_test stack ng ≡ true = gives_test stack ng a v gives in
    let f : unit_test stack ng ≡ false = none_in-at (unit_test stack) ngs test ng i in
    cc

-- ---- active

-- whether there is a body atom that is unassigned or must-be-true
abbrev pub body_may : List Entry → Option ℕ → Bool
body_may stack None = false
body_may stack (Some b) = may_rise (value_of stack b)

-- whether the instance is active
abbrev pub active_test : {K : Type 0} → List Entry → Made K → Bool
active_test stack k = body_may stack k.body && (all_in (λ p. fully_test stack (lit p true)) k.inst.pos && none_in (λ n. holds_test stack (lit n true)) k.inst.neg)

not_holds : (stack : List Entry) (x : ℕ) → ¬ Holds stack (lit x true) → holds_test stack (lit x true) ≡ false
not_holds stack x out = go (value_of stack x) refl
  where
    go : (o : Option Value) → value_of stack x ≡ o → up_is o true ≡ false
    go None e = refl
    go (Some True) e = absurd (out (True, e, refl))
    go (Some MustBe) e = absurd (out (MustBe, e, refl))
    go (Some False) e = refl

-- the test shows that none is active
pub none_active : {N A K : Type 0} (s : State N A K) → none_in (active_test s.stack) s.made ≡ true → NoneActive s
none_active s test k i b act =
    let may : body_may s.stack k.body ≡ true = subst (λ z. body_may s.stack z ≡ true) (sym act.has_body) (may_rise-from (value_of s.stack b) act.not_yet) in
    let pos : all_in (λ p. fully_test s.stack (lit p true)) k.inst.pos ≡ true = all_in-from (λ p. fully_test s.stack (lit p true)) k.inst.pos (λ p j. fully_test-from s.stack (lit p true) (act.pos_true p j)) in
    let neg : none_in (λ n. holds_test s.stack (lit n true)) k.inst.neg ≡ true = none_in-from (λ n. holds_test s.stack (lit n true)) k.inst.neg (λ n j. not_holds s.stack n (act.neg_not_up n j)) in
    let t : active_test s.stack k ≡ true = and_intro (body_may s.stack k.body) _ may (and_intro (all_in (λ p. fully_test s.stack (lit p true)) k.inst.pos) (none_in (λ n. holds_test s.stack (lit n true)) k.inst.neg) pos neg) in
    let f : active_test s.stack k ≡ false = none_in-at (active_test s.stack) s.made test k i in
    cc

-- ---- new

-- whether these literals are a superset of none of these nogoods
abbrev pub new_test : List Nogood → List Lit → Bool
new_test ngs ls = none_in (λ ng. all_in (λ l. list_any (same_lit l) ls) ng.lits) ngs

-- the test shows that the literals are new
pub is_new : (ngs : List Nogood) (ls : List Lit) → new_test ngs ls ≡ true → IsNew ngs ls
is_new ngs ls test ng i sub =
    let t : all_in (λ l. list_any (same_lit l) ls) ng.lits ≡ true = all_in-from (λ l. list_any (same_lit l) ls) ng.lits (λ l j. any_from (same_lit l) ls l (sub l j) (same_itself l)) in
    let f : all_in (λ l. list_any (same_lit l) ls) ng.lits ≡ false = none_in-at (λ (g : Nogood). all_in (λ l. list_any (same_lit l) ls) g.lits) ngs test ng i in
    cc

-- ---- must-be-true

-- an atom with a value has an entry
has_entry : (stack : List Entry) (x : ℕ) (v : Value) → value_of stack x ≡ Some v → (e : Entry) × (e ∈ stack) × (e.atom ≡ x)
has_entry [] x v h = cc
has_entry (e ∷ rest) x v h = elim (value_cases e rest x) [
  | inl k ↦ (e, inl refl, k.0)
  | inr k ↦ (let r = has_entry rest x v (sym k.1 ∙ h) in (r.0, inr r.1, r.2))
]

-- the test shows that no atom is must-be-true
pub none_must : (stack : List Entry) → none_in (λ e. value_is (value_of stack e.atom) MustBe) stack ≡ true → (x : ℕ) → ¬ (value_of stack x ≡ Some MustBe)
none_must stack test x h =
    let r = has_entry stack x MustBe h in
    let t : value_is (value_of stack r.0.atom) MustBe ≡ true = ap (λ o. value_is o MustBe) (ap (value_of stack) r.2 ∙ h) in
    let f : value_is (value_of stack r.0.atom) MustBe ≡ false = none_in-at (λ (e : Entry). value_is (value_of stack e.atom) MustBe) stack test r.0 r.1 in
    cc

-- ---- what is left of a nogood of one literal or two

-- the one literal of a nogood is left
pub left_only : (stack : List Entry) (head : Option ℕ) (b : Lit) → value_of stack b.atom ≡ None → IsLeft stack (record { lits = b ∷ []; head = head }) b
left_only stack head b free = record { among = inl refl; unassigned = free; others = λ l i. elim i [ inl e ↦ inl e | inr z ↦ absurd z ] }

-- the second literal of two is left where the first holds
pub left_second : (stack : List Entry) (head : Option ℕ) (a b : Lit) → Holds stack a → value_of stack b.atom ≡ None → IsLeft stack (record { lits = a ∷ b ∷ []; head = head }) b
left_second stack head a b holds free = record {
  among = inr (inl refl);
  unassigned = free;
  others = λ l i. elim i [
    | inl e ↦ inr (subst (λ (z : Lit). Holds stack z) (sym e) holds)
    | inr j ↦ elim j [ inl e ↦ inl e | inr z ↦ absurd z ]
  ];
}

-- the first literal of two is left where the second holds
pub left_first : (stack : List Entry) (head : Option ℕ) (a b : Lit) → Holds stack b → value_of stack a.atom ≡ None → IsLeft stack (record { lits = a ∷ b ∷ []; head = head }) a
left_first stack head a b holds free = record {
  among = inl refl;
  unassigned = free;
  others = λ l i. elim i [
    | inl e ↦ inl e
    | inr j ↦ elim j [ inl e ↦ inr (subst (λ (z : Lit). Holds stack z) (sym e) holds) | inr z ↦ absurd z ]
  ];
}

-- a head beside one literal becomes true where that holds fully
pub rises_pair : (stack : List Entry) (a : ℕ) (b : Lit) → (value_of stack a ≡ None) ⊎ (value_of stack a ≡ Some MustBe) → HoldsFully stack b
    → Rises stack (record { lits = lit a false ∷ b ∷ []; head = Some a }) a
rises_pair stack a b not_yet holds = record {
  heads = refl;
  among = inl refl;
  not_yet = not_yet;
  others = λ l i. elim i [
    | inl e ↦ inl e
    | inr j ↦ elim j [ inl e ↦ inr (subst (λ (z : Lit). HoldsFully stack z) (sym e) holds) | inr z ↦ absurd z ]
  ];
}
