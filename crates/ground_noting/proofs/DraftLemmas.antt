-- Literals that stand once each, and the nogoods made of them.
use Rattle.std.proofs.Common.{◌≡◌, ℕ, suc, ◌+◌, ◌<◌, ◌⊎◌, Bool, true, false, not, ◌&&◌, ◌||◌, cond, if◌then◌else◌, List, [], ◌∷◌, ◌++◌, map, length, take, drop, get_or, drop-cons, refl, sym, ◌∙◌, ap, subst, inl, inr, append_assoc, arith}
use Rattle.std.specs.Prelude.{Option, Some, None, nat_eq, slice_get}
use Rattle.std.specs.List.{list_any}
use Rattle.std.specs.Option.{option_map}
use Rattle.std.proofs.Math.Seq.{take-length}
use Rattle.std.proofs.lemmas.List.{map-append, take_more, take-append-drop}
use Rattle.std.proofs.lemmas.Option.{slice_get-get_or, get_or_from_slice_get, slice_get-map}
use Rattle.std.proofs.Math.Bool.{beq}
use Rattle.lists.specs.Lists.{◌∈◌, Each, HasNoRepeats}
use Rattle.lists.proofs.ListLemmas.{Each-append, ∈-append_left, ∈-append_right, ∈-append_cases, ∈-map}
use Rattle.search_values.specs.Values.{Lit, lit}
use Rattle.search_values.specs.Nogoods.{Nogood}
use Rattle.search_values.specs.Tables.{other_sign, same_lit, both_signs, without, once, set_of, lits_of, each_with}
use Rattle.search_values.proofs.Basics.{in_single, get_in, and_left, and_right, and_intro, bool_cases, nat_eq-same, nat_eq-true, or_left, or_right, lit_is, any_to, any_from}
use Rattle.search_values.proofs.Tables.{Clash, nogood, set_of-or_clash, once-from, once-to, in_lits_of}
use Rattle.nogood_store.specs.Stored.{HasNoAtomTwice, IsHeadOf, atom_of, LitsAreBelow}
use Rattle.ground_noting.specs.Instances.{AreBelow}
use Rattle.ground_noting.specs.declared.drafting.Draft.{Draft}
use Rattle.ground_noting.specs.Drafts.{IsDraft, StartsWith, place_of, head_lits, AddsOnce}

-- ---- both signs of an atom

-- the two literals of an atom have other signs
other_here : (a : ℕ) (sign : Bool) → other_sign (lit a sign) (lit a (not sign)) ≡ true
other_here a true = and_intro (nat_eq a a) true (nat_eq-same a) refl
other_here a false = and_intro (nat_eq a a) true (nat_eq-same a) refl

-- the test finds an atom of which both signs stand in the list
clash_both : (ls : List Lit) → Clash ls → both_signs ls ≡ true
clash_both [] c = absurd c.positive
clash_both (l ∷ ls) c = elim c.positive [
  | inl e ↦ elim c.negative [
    | inl f ↦ (let w : true ≡ false = ap (λ (k : Lit). k.positive) (e ∙ sym f) in cc)
    | inr j ↦ or_left (list_any (other_sign l) ls) (both_signs ls)
        (any_from (other_sign l) ls (lit c.atom false) j (subst (λ k. other_sign k (lit c.atom false) ≡ true) e (other_here c.atom true)))
  ]
  | inr i ↦ elim c.negative [
    | inl f ↦ or_left (list_any (other_sign l) ls) (both_signs ls)
        (any_from (other_sign l) ls (lit c.atom true) i (subst (λ k. other_sign k (lit c.atom true) ≡ true) f (other_here c.atom false)))
    | inr j ↦ or_right (list_any (other_sign l) ls) (both_signs ls) (clash_both ls (record { atom = c.atom; positive = i; negative = j }))
  ]
]

-- and it finds none where there is none
no_both_signs : (ls : List Lit) → ¬ Clash ls → both_signs ls ≡ false
no_both_signs ls none = elim (bool_cases (both_signs ls)) [ inl e ↦ absurd (none (found e)) | inr e ↦ e ]
  where
    found : both_signs ls ≡ true → Clash ls
    found e = elim (set_of-or_clash None ls) [
      | inl i ↦ absurd
          (subst (λ b. nogood None (once ls) ∈ cond b [] (nogood None (once ls) ∷ [])) e i)
      | inr c ↦ c
    ]

-- an atom whose two literals stand in the list
clash_from : (ls : List Lit) (a : ℕ) (sign : Bool) → lit a sign ∈ ls → lit a (not sign) ∈ ls → Clash ls
clash_from ls a true i j = record { atom = a; positive = i; negative = j }
clash_from ls a false i j = record { atom = a; positive = j; negative = i }

-- ---- one literal more

-- a sign is itself
sign_itself : (b : Bool) → ((b && b) || (not b && not b)) ≡ true
sign_itself true = refl
sign_itself false = refl

-- the test of signs is right
signs_same : (a b : Bool) → ((a && b) || (not a && not b)) ≡ true → a ≡ b
signs_same true true h = refl
signs_same true false h = cc
signs_same false true h = cc
signs_same false false h = refl

-- the test of literals says that a literal is itself
same_itself : (l : Lit) → same_lit l l ≡ true
same_itself l = and_intro (nat_eq l.atom l.atom) ((l.positive && l.positive) || (not l.positive && not l.positive)) (nat_eq-same l.atom)
    (sign_itself l.positive)

-- it says that they have one atom
same_atom : (l k : Lit) → same_lit l k ≡ true → l.atom ≡ k.atom
same_atom l k h = nat_eq-true l.atom k.atom
    (and_left (nat_eq l.atom k.atom) ((l.positive && k.positive) || (not l.positive && not k.positive)) h)

-- and that they are equal
same_is : (l k : Lit) → same_lit l k ≡ true → l ≡ k
same_is l k h = sym (lit_is l k.atom k.positive (same_atom l k h)
    (signs_same l.positive k.positive
    (and_right (nat_eq l.atom k.atom) ((l.positive && k.positive) || (not l.positive && not k.positive)) h)))

-- it says so of two in either order
same_flip : (l k : Lit) (b : Bool) → same_lit l k ≡ b → same_lit k l ≡ b
same_flip l k true h = subst (λ z. same_lit z l ≡ true) (same_is l k h) (same_itself l)
same_flip l k false h = elim (bool_cases (same_lit k l)) [
  | inl e ↦ (let w : same_lit l k ≡ true = subst (λ z. same_lit z k ≡ true) (same_is k l e) (same_itself k) in cc)
  | inr e ↦ e
]

-- a literal that is taken away is taken from the end too
without-append : (x l : Lit) (ys : List Lit) (b : Bool) → same_lit x l ≡ b
    → without x (ys ++ l ∷ []) ≡ cond b (without x ys) (without x ys ++ l ∷ [])
without-append x l [] b e = ap (λ v. cond v [] (l ∷ [])) e
without-append x l (y ∷ ys) b e = ap (λ w. cond (same_lit x y) w (y ∷ w)) (without-append x l ys b e) ∙ push b (same_lit x y) (without x ys)
  where
    push : (b s : Bool) (w : List Lit)
        → cond s (cond b w (w ++ l ∷ [])) (y ∷ cond b w (w ++ l ∷ [])) ≡ cond b (cond s w (y ∷ w)) (cond s w (y ∷ w) ++ l ∷ [])
    push true true w = refl
    push true false w = refl
    push false true w = refl
    push false false w = refl

-- a literal is among the others as before, where another one is taken away
any-without : (x l : Lit) (ys : List Lit) → same_lit l x ≡ false → list_any (same_lit l) (without x ys) ≡ list_any (same_lit l) ys
any-without x l [] e = refl
any-without x l (y ∷ ys) e = go (same_lit x y) refl (any-without x l ys e)
  where
    go : (s : Bool) → same_lit x y ≡ s → list_any (same_lit l) (without x ys) ≡ list_any (same_lit l) ys
        → list_any (same_lit l) (cond s (without x ys) (y ∷ without x ys)) ≡ (same_lit l y || list_any (same_lit l) ys)
    go true h below =
        let f : same_lit l y ≡ false = subst (λ z. same_lit l z ≡ false) (same_is x y h) e in
        below ∙ sym (ap (λ v. v || list_any (same_lit l) ys) f)
    go false h below = ap (λ v. same_lit l y || v) below

-- a literal at the end is kept where it comes first there
once-append : (xs : List Lit) (l : Lit) → once (xs ++ l ∷ []) ≡ cond (list_any (same_lit l) (once xs)) (once xs) (once xs ++ l ∷ [])
once-append [] l = refl
once-append (x ∷ xs) l = ap (λ ys. x ∷ without x ys) (once-append xs l) ∙ go (list_any (same_lit l) (once xs)) refl (same_lit l x) refl
  where
    go : (a : Bool) → list_any (same_lit l) (once xs) ≡ a → (s : Bool) → same_lit l x ≡ s
        → (x ∷ without x (cond a (once xs) (once xs ++ l ∷ []))) ≡ cond (s || list_any (same_lit l) (without x (once xs)))
        (x ∷ without x (once xs)) (x ∷ (without x (once xs) ++ l ∷ []))
    go true h true e = refl
    go false h true e = ap (λ ys. x ∷ ys) (without-append x l (once xs) true (same_flip l x true e))
    go true h false e = sym
        (ap (λ v. cond v (x ∷ without x (once xs)) (x ∷ (without x (once xs) ++ l ∷ []))) (any-without x l (once xs) e ∙ h))
    go false h false e =
        ap (λ ys. x ∷ ys) (without-append x l (once xs) false (same_flip l x false e))
        ∙ sym (ap (λ v. cond v (x ∷ without x (once xs)) (x ∷ (without x (once xs) ++ l ∷ []))) (any-without x l (once xs) e ∙ h))

-- a literal that stands there already isn't added
once-there : (xs : List Lit) (l : Lit) → l ∈ once xs → once (xs ++ l ∷ []) ≡ once xs
once-there xs l i = once-append xs l ∙ ap (λ v. cond v (once xs) (once xs ++ l ∷ [])) (any_from (same_lit l) (once xs) l i (same_itself l))

-- a literal of a new atom goes last
once-new : (xs : List Lit) (l : Lit) → ¬ (l.atom ∈ map atom_of (once xs)) → once (xs ++ l ∷ []) ≡ once xs ++ l ∷ []
once-new xs l new = once-append xs l ∙ ap (λ v. cond v (once xs) (once xs ++ l ∷ [])) absent
  where
    found : list_any (same_lit l) (once xs) ≡ true → l.atom ∈ map atom_of (once xs)
    found h = let r = any_to (same_lit l) (once xs) h in subst (λ a. a ∈ map atom_of (once xs)) (sym (same_atom l r.0 r.2))
        (∈-map atom_of r.0 (once xs) r.1)

    absent : list_any (same_lit l) (once xs) ≡ false
    absent = elim (bool_cases (list_any (same_lit l) (once xs))) [ inl e ↦ absurd (new (found e)) | inr e ↦ e ]

-- a member that is new goes last in a list without repeats
no_repeats-append : (xs : List ℕ) (x : ℕ) → HasNoRepeats xs → ¬ (x ∈ xs) → HasNoRepeats (xs ++ x ∷ [])
no_repeats-append [] x r new = ((λ i. i), tt)
no_repeats-append (y ∷ ys) x r new = (
  (λ i. elim (∈-append_cases y ys (x ∷ []) i) [ inl j ↦ r.0 j | inr j ↦ new (inl (sym (in_single j))) ]),
  no_repeats-append ys x r.1
      (λ i. new (inr i)),
)

-- ---- the literals kept of those seen

-- the literals seen stand once each among those kept, and no atom has both signs
pub record Kept (seen kept : List Lit) : Type 0 where
  pub each_once : kept ≡ once seen
  pub no_clash : ¬ Clash seen
  pub no_atom_twice : HasNoAtomTwice kept

-- of none, none is kept
pub kept_none : Kept [] []
kept_none = record { each_once = refl; no_clash = λ c. c.positive; no_atom_twice = tt }

-- a literal that stands in the longer list stands in the shorter, or it is the last
in_more : (seen : List Lit) (l k : Lit) → k ∈ (seen ++ l ∷ []) → (k ∈ seen) ⊎ (k ≡ l)
in_more seen l k i = elim (∈-append_cases k seen (l ∷ []) i) [ inl j ↦ inl j | inr j ↦ inr (in_single j) ]

-- a literal was seen before
kept_there : (seen kept now : List Lit) (l : Lit) → Kept seen kept → l ∈ kept → now ≡ kept → Kept (seen ++ l ∷ []) now
kept_there seen kept now l k i e = record {
  each_once = e ∙ k.each_once ∙ sym (once-there seen l among);
  no_clash = λ c. k.no_clash
      (record { atom = c.atom; positive = back (lit c.atom true) c.positive; negative = back (lit c.atom false) c.negative });
  no_atom_twice = subst HasNoAtomTwice (sym e) k.no_atom_twice;
}
  where
    among : l ∈ once seen
    among = subst (λ ls. l ∈ ls) k.each_once i

    back : (m : Lit) → m ∈ (seen ++ l ∷ []) → m ∈ seen
    back m j = elim (in_more seen l m j) [ inl h ↦ h | inr h ↦ subst (λ z. z ∈ seen) (sym h) (once-from seen l among) ]

-- a literal of a new atom was kept
kept_new : (seen kept now : List Lit) (l : Lit) → Kept seen kept → ¬ (l.atom ∈ map atom_of kept) → now ≡ kept ++ l ∷ []
    → Kept (seen ++ l ∷ []) now
kept_new seen kept now l k new e = record {
  each_once = e ∙ ap (λ ls. ls ++ l ∷ []) k.each_once ∙ sym (once-new seen l absent);
  no_clash = none;
  no_atom_twice = subst HasNoAtomTwice (sym e)
      (subst HasNoRepeats (sym (map-append atom_of kept (l ∷ []))) (no_repeats-append (map atom_of kept) l.atom k.no_atom_twice new));
}
  where
    absent : ¬ (l.atom ∈ map atom_of (once seen))
    absent i = new (subst (λ ls. l.atom ∈ map atom_of ls) (sym k.each_once) i)

    seen_not : (m : Lit) → m ∈ seen → ¬ (l.atom ≡ m.atom)
    seen_not m i h = absent (subst (λ a. a ∈ map atom_of (once seen)) (sym h) (∈-map atom_of m (once seen) (once-to seen m i)))

    none : ¬ Clash (seen ++ l ∷ [])
    none c = elim (in_more seen l (lit c.atom true) c.positive) [
      | inl i ↦ elim (in_more seen l (lit c.atom false) c.negative) [
        | inl j ↦ k.no_clash (record { atom = c.atom; positive = i; negative = j })
        | inr f ↦ seen_not (lit c.atom true) i (ap (λ (z : Lit). z.atom) (sym f))
      ]
      | inr e ↦ elim (in_more seen l (lit c.atom false) c.negative) [
        | inl j ↦ seen_not (lit c.atom false) j (ap (λ (z : Lit). z.atom) (sym e))
        | inr f ↦ (let w : true ≡ false = ap (λ (z : Lit). z.positive) (e ∙ sym f) in cc)
      ]
    ]

-- one literal more was seen
kept_more : (seen kept now : List Lit) (l : Lit) → Kept seen kept → AddsOnce true kept l now → Kept (seen ++ l ∷ []) now
kept_more seen kept now l k (inl h) = kept_there seen kept now l k h.0 h.1
kept_more seen kept now l k (inr h) = kept_new seen kept now l k h.0 h.1

-- the other sign of a literal was seen
kept_stop : (seen kept rest now : List Lit) (l : Lit) → Kept seen kept → AddsOnce false kept l now → both_signs (seen ++ l ∷ rest) ≡ true
kept_stop seen kept rest now l k h = clash_both (seen ++ l ∷ rest) (clash_from (seen ++ l ∷ rest) l.atom l.positive
    (∈-append_right l seen (l ∷ rest) (inl refl))
    (∈-append_left other seen (l ∷ rest) (once-from seen other (subst (λ ls. other ∈ ls) k.each_once h))))
  where
    other : Lit
    other = lit l.atom (not l.positive)

-- ---- the nogood of the literals

-- the head literal is negative
negative : (head : Option ℕ) (lits : List Lit) → StartsWith head lits → IsHeadOf (once lits) (place_of head)
negative None lits s = tt
negative (Some h) lits s = subst (λ ls. IsHeadOf (once ls) (Some 0)) (sym s.1) (h, refl)

-- the nogood of these literals was added
pub record Pushes (head : Option ℕ) (lits : List Lit) (before : List Draft) (d : Draft) (now : List Draft) : Type 0 where
  pub starts : StartsWith head lits
  pub free : both_signs lits ≡ false
  pub each_once : d.lits.items ≡ once lits
  pub no_atom_twice : HasNoAtomTwice d.lits.items
  pub place : d.head ≡ place_of head
  pub pushed : now ≡ before ++ d ∷ []

-- what was added may be stored
pub pushed_drafts : (head : Option ℕ) (lits : List Lit) (before : List Draft) (d : Draft) (now : List Draft) → Pushes head lits before d now
    → (n : ℕ) → LitsAreBelow n lits → Each (IsDraft n) before → Each (IsDraft n) now
pushed_drafts head lits before d now p n below each =
    subst (Each (IsDraft n)) (sym p.pushed) (Each-append (IsDraft n) before (d ∷ []) each (draft, tt))
  where
    draft : IsDraft n d
    draft = record {
      below = λ l i. below l (once-from lits l (subst (λ ls. l ∈ ls) p.each_once i));
      no_atom_twice = p.no_atom_twice;
      negative = subst (λ ls. IsHeadOf ls d.head) (sym p.each_once)
          (subst (IsHeadOf (once lits)) (sym p.place) (negative head lits p.starts));
    }

-- ---- ids below n

-- a literal for each of these atoms
pub below_lits_of : (n : ℕ) (sign : Bool) (atoms : List ℕ) → AreBelow n atoms → LitsAreBelow n (lits_of sign atoms)
below_lits_of n sign atoms below l i = below l.atom (in_lits_of sign atoms l i).0

-- the literals of two lists
pub below_append : (n : ℕ) (xs ys : List Lit) → LitsAreBelow n xs → LitsAreBelow n ys → LitsAreBelow n (xs ++ ys)
below_append n xs ys front back l i = elim (∈-append_cases l xs ys i) [ inl j ↦ front l j | inr j ↦ back l j ]

-- one literal more
pub below_more : (n : ℕ) (l : Lit) (ls : List Lit) → l.atom < n → LitsAreBelow n ls → LitsAreBelow n (l ∷ ls)
below_more n l ls here rest k (inl e) = subst (λ (z : Lit). z.atom < n) (sym e) here
below_more n l ls here rest k (inr i) = rest k i

-- no literals
below_none : (n : ℕ) → LitsAreBelow n []
below_none n l i = absurd i

-- the head that may have to be chosen
pub below_head_lits : (n : ℕ) (chosen : Bool) (h : ℕ) → h < n → LitsAreBelow n (head_lits chosen h)
below_head_lits n true h here = below_more n (lit h true) [] here (below_none n)
below_head_lits n false h here = below_none n

-- two literals
pub below_two : (n a : ℕ) (sign : Bool) (b : ℕ) (other : Bool) → a < n → b < n → LitsAreBelow n (lit a sign ∷ lit b other ∷ [])
below_two n a sign b other first last =
    below_more n (lit a sign) (lit b other ∷ []) first (below_more n (lit b other) [] last (below_none n))

-- ---- loops over the literals and over atoms

-- the next literal is kept
pub kept_next : (all kept now : List Lit) (i : ℕ) (l : Lit) → i < length all → l ≡ get_or all i l → Kept (take i all) kept
    → AddsOnce true kept l now → Kept (take (i + 1) all) now
kept_next all kept now i l h e k a =
    subst (λ ls. Kept ls now) (sym (take_more all i l h ∙ ap (λ z. take i all ++ z ∷ []) (sym e))) (kept_more (take i all) kept now l k a)

-- the rest of a list begins with what stands at the place
cut : {X : Type 0} (all : List X) (i : ℕ) (x : X) → i < length all → x ≡ get_or all i x → drop i all ≡ x ∷ drop (i + 1) all
cut all i x h e = drop-cons all i x h ∙ ap (λ k. get_or all i x ∷ drop k all) (suc-is i) ∙ ap (λ z. z ∷ drop (i + 1) all) (sym e)
  where
    suc-is : (k : ℕ) → suc k ≡ k + 1
    suc-is k = omega arith

-- or its other sign was seen
pub kept_clash : (all kept now : List Lit) (i : ℕ) (l : Lit) → i < length all → l ≡ get_or all i l → Kept (take i all) kept
    → AddsOnce false kept l now → both_signs all ≡ true
kept_clash all kept now i l h e k a =
    subst (λ ls. both_signs ls ≡ true) (ap (λ ls. take i all ++ ls) (sym (cut all i l h e)) ∙ take-append-drop i all)
    (kept_stop (take i all) kept (drop (i + 1) all) now l k a)

-- all were seen
pub kept_all : (all kept : List Lit) (i : ℕ) → i ≡ length all → Kept (take i all) kept
    → (both_signs all ≡ false) × (kept ≡ once all) × HasNoAtomTwice kept
kept_all all kept i e k = go (subst (λ ls. Kept ls kept) (ap (λ n. take n all) e ∙ take-length all) k)
  where
    go : Kept all kept → (both_signs all ≡ false) × (kept ≡ once all) × HasNoAtomTwice kept
    go s = (no_both_signs all s.no_clash, s.each_once, s.no_atom_twice)

-- what stands at a place is a member
pub member_at : {X : Type 0} (all : List X) (i : ℕ) (x : X) → i < length all → x ≡ get_or all i x → x ∈ all
member_at all i x h e = subst (λ z. z ∈ all) (sym e) (get_in all i (get_or all i x) (slice_get-get_or all i x h))

-- the nogood of one atom more
pub each_step : (b : ℕ) (sign : Bool) (atoms : List ℕ) (i a : ℕ) (before now total : List Nogood) (lits : List Lit)
    → i < length atoms → a ≡ get_or atoms i a → lits ≡ lit b true ∷ lit a sign ∷ [] → now ≡ before ++ set_of None lits
    → before ++ each_with b sign (drop i atoms) ≡ total → now ++ each_with b sign (drop (i + 1) atoms) ≡ total
each_step b sign atoms i a before now total lits h e same more old =
    ap (λ ngs. ngs ++ each_with b sign (drop (i + 1) atoms)) (more ∙ ap (λ ls. before ++ set_of None ls) same)
    ∙ append_assoc before (set_of None (lit b true ∷ lit a sign ∷ [])) (each_with b sign (drop (i + 1) atoms))
    ∙ ap (λ rest. before ++ each_with b sign rest) (sym (cut atoms i a h e))
    ∙ old

-- ---- one literal and the set of atoms

-- a key that was added wasn't there
pub added_new : (keys atoms : List ℕ) (a : ℕ) (added : Bool) → keys ≡ atoms → added ≡ not (list_any (nat_eq a) keys) → added ≡ true
    → ¬ (a ∈ atoms)
added_new keys atoms a added same is held i =
    let there : list_any (nat_eq a) keys ≡ true = any_from (nat_eq a) keys a (subst (λ ls. a ∈ ls) (sym same) i) (nat_eq-same a) in
    let w : true ≡ false = sym held ∙ is ∙ ap not there in cc

-- the place of a key that was there is that of the atom's literal
pub adds_at : (kept : List Lit) (keys now : List ℕ) (place : ℕ) (l m : Lit) (added : Bool) → keys ≡ map atom_of kept
    → added ≡ not (list_any (nat_eq l.atom) keys) → added ≡ false
    → now ≡ (if list_any (nat_eq l.atom) keys then keys else (keys ++ l.atom ∷ []))
    → ((x : ℕ) × (slice_get now place ≡ Some x) × (nat_eq l.atom x ≡ true))
    → m ≡ get_or kept place m → AddsOnce (beq m.positive l.positive) kept l kept
adds_at kept keys now place l m added same is failed after stored at = go m.positive refl l.positive refl
  where
    there : list_any (nat_eq l.atom) keys ≡ true
    there = elim (bool_cases (list_any (nat_eq l.atom) keys)) [
      | inl e ↦ e
      | inr e ↦ (let w : true ≡ false = sym (ap not e) ∙ sym is ∙ failed in cc)
    ]

    are : now ≡ map atom_of kept
    are = after ∙ ap (λ v. if v then keys else (keys ++ l.atom ∷ [])) there ∙ same

    got : (o : Option Lit) → option_map atom_of o ≡ Some stored.0 → (k : Lit) × (o ≡ Some k) × (k.atom ≡ stored.0)
    got None e = cc
    got (Some k) e = (k, refl, cc)

    found : (k : Lit) × (slice_get kept place ≡ Some k) × (k.atom ≡ stored.0)
    found = got (slice_get kept place) (sym (slice_get-map atom_of kept place) ∙ ap (λ ks. slice_get ks place) (sym are) ∙ stored.1)

    is_found : m ≡ found.0
    is_found = at ∙ get_or_from_slice_get kept place found.0 m found.1

    among : m ∈ kept
    among = subst (λ z. z ∈ kept) (sym is_found) (get_in kept place found.0 found.1)

    atoms : l.atom ≡ m.atom
    atoms = nat_eq-true l.atom stored.0 stored.2 ∙ sym found.2 ∙ sym (ap (λ (z : Lit). z.atom) is_found)

    made : (s : Bool) → s ≡ m.positive → lit l.atom s ∈ kept
    made s e = subst (λ z. z ∈ kept) (sym (lit_is m l.atom s (sym atoms) (sym e))) among

    go : (s : Bool) → m.positive ≡ s → (t : Bool) → l.positive ≡ t → AddsOnce (beq s t) kept l kept
    go true p true q = inl (made l.positive (q ∙ sym p), refl)
    go false p false q = inl (made l.positive (q ∙ sym p), refl)
    go true p false q = made (not l.positive) (ap not q ∙ sym p)
    go false p true q = made (not l.positive) (ap not q ∙ sym p)
