-- One entry is taken up.
use Rattle.std.proofs.Common.{◌≡◌, ℕ, suc, zero, ◌+◌, ◌<◌, ◌≤◌, ◌⊎◌, Bool, true, false, ◌||◌, List, [], ◌∷◌, ◌++◌, length, reverse, refl, sym, ◌∙◌, ap, subst, inl, inr, arith}
use Rattle.std.specs.Prelude.{Option, Some, slice_get, Result, Ok, Err, IfOk, ⊤}
use Rattle.std.proofs.lemmas.List.{reverse-append, length-reverse}
use Rattle.lists.specs.Lists.{◌∈◌}
use Rattle.alpha_outside.specs.declared.event.Event.{Event}
use Rattle.search_values.specs.declared.entry.Entry.{Entry}
use Rattle.search_values.specs.Values.{Lit, lit, is_up, full_value, Holds, HoldsFully}
use Rattle.search_values.specs.Nogoods.{Nogood}
use Rattle.search_values.proofs.Basics.{value_cases}
use Rattle.trail.specs.Assigning.{IsStackOf}
use Rattle.nogood_store.specs.declared.watching.Watches.{Watches}
use Rattle.nogood_store.specs.Stored.{Stored}
use Rattle.nogood_store.specs.Watched.{is_at, is_watched, Watching}
use Rattle.nogood_store.specs.Matching.{taken_up, Suffices, OtherFails, HeadIsTrue, HeadMustBe, TwoAreMissing}
use Rattle.nogood_store.proofs.Weighing.{is_at-same, same_or_not}
use Rattle.nogood_store.proofs.Suffice.{suffices_less}
use Rattle.nogood_store.proofs.Matched.{taken_all, taken_below}
use Rattle.nogood_store.proofs.Visiting.{lower_taken}
use Rattle.propagation.specs.Runs.{literal_of, Puts, Nothing, Then, TheseSuffice, OthersStay}
use Rattle.propagation.proofs.Running.{puts_suffices}

-- what two facts of a result say together
pub if_ok : {A E : Type 0} (r : Result A E) (P Q R : A → Type 0) → IfOk r P → IfOk r Q → ((x : A) → P x → Q x → R x) → IfOk r R
if_ok (Ok x) P Q R p q f = f x p q
if_ok (Err e) P Q R p q f = tt

-- ---- watched literals

watched_first : (w : Watches) (l : Lit) → w.first ≡ Some l → is_watched w l ≡ true
watched_first w l e = ap (λ (o : Option Lit). (is_at o l || is_at w.second l) || is_at w.third l) e ∙ ap (λ b. (b || is_at w.second l) || is_at w.third l) (is_at-same l)

or_true : (b : Bool) → (b || true) ≡ true
or_true true = refl
or_true false = refl

watched_second : (w : Watches) (l : Lit) → w.second ≡ Some l → is_watched w l ≡ true
watched_second w l e = ap (λ (o : Option Lit). (is_at w.first l || is_at o l) || is_at w.third l) e ∙ ap (λ b. (is_at w.first l || b) || is_at w.third l) (is_at-same l)
    ∙ ap (λ b. b || is_at w.third l) (or_true (is_at w.first l))

watched_third : (w : Watches) (l : Lit) → w.third ≡ Some l → is_watched w l ≡ true
watched_third w l e = ap (λ (o : Option Lit). (is_at w.first l || is_at w.second l) || is_at o l) e ∙ ap (λ b. (is_at w.first l || is_at w.second l) || b) (is_at-same l) ∙ or_true (is_at w.first l || is_at w.second l)

-- ---- an entry that is taken up

alike : {l : Lit} {a : ℕ} {b : Bool} → a ≡ l.atom → b ≡ l.positive → l ≡ lit a b
alike p q = let s = sym p in let t = sym q in λ i. record { atom = s i; positive = t i }

up_full : (b : Bool) → is_up (full_value b) ≡ b
up_full true = refl
up_full false = refl

-- a literal other than the entry's holds with it only if it did without
held_before : (e : Entry) (taken : List Entry) (l : Lit) → (l ≡ literal_of e → ⊥) → Holds (e ∷ taken) l → Holds taken l
held_before e taken l other h = elim (value_cases e taken l.atom) [
  | inl k ↦ (let q : Some h.0 ≡ Some e.value = sym h.1 ∙ k.1 in let same : h.0 ≡ e.value = cc in absurd (other (alike k.0 (sym (ap is_up same) ∙ h.2))))
  | inr k ↦ (h.0, sym k.1 ∙ h.1, h.2)
]

full_before : (e : Entry) (taken : List Entry) (l : Lit) → (l ≡ literal_of e → ⊥) → HoldsFully (e ∷ taken) l → HoldsFully taken l
full_before e taken l other h = elim (value_cases e taken l.atom) [
  | inl k ↦ (let q : Some e.value ≡ Some (full_value l.positive) = sym k.1 ∙ h in let same : e.value ≡ full_value l.positive = cc in absurd (other (alike k.0 (ap is_up same ∙ up_full l.positive))))
  | inr k ↦ sym k.1 ∙ h
]

-- watches that suffice do so after an entry is taken up whose literal isn't watched
pub unwatched : (e : Entry) (taken stack : List Entry) (s : Stored) → (is_watched s.watches (literal_of e) ≡ true → ⊥) → Suffices taken stack s → Suffices (e ∷ taken) stack s
unwatched e taken stack s not (OtherFails l i n f) = OtherFails l i n f
unwatched e taken stack s not (HeadIsTrue a h i v) = HeadIsTrue a h i v
unwatched e taken stack s not (HeadMustBe a l h i v t j n d) = HeadMustBe a l h i v t j n
    (λ x. d (full_before e taken l (λ q. not (subst (λ (z : Lit). is_watched s.watches z ≡ true) q (watched_third s.watches l t))) x))
unwatched e taken stack s not (TwoAreMissing l k f g i j n p q) = TwoAreMissing l k f g i j n
    (λ x. p (held_before e taken l (λ r. not (subst (λ (z : Lit). is_watched s.watches z ≡ true) r (watched_first s.watches l f))) x))
    (λ x. q (held_before e taken k (λ r. not (subst (λ (z : Lit). is_watched s.watches z ≡ true) r (watched_second s.watches k g))) x))

-- ---- places

-- what was taken up stays as values are given
pub puts_taken : (ngs : List Nogood) (a b : List Entry) (es : List Event) (k : ℕ) → Puts ngs a es b → k ≤ length a → (taken_up k b ≡ taken_up k a) × (length a ≤ length b)
puts_taken ngs a _ _ k Nothing h = (refl, omega arith)
puts_taken ngs a _ _ k (Then events stack p n x v ng at g) h =
    let w = puts_taken ngs a stack events k p h in
    (taken_below k _ stack (let l = w.1 in omega (arith, h, l)) ∙ w.0, (let l = w.1 in omega (arith, l)))

front_of : (xs ys : List Entry) (i : ℕ) → i < length xs → slice_get (xs ++ ys) i ≡ slice_get xs i
front_of [] ys i h = absurd (omega (arith, h))
front_of (x ∷ xs) ys zero h = refl
front_of (x ∷ xs) ys (suc i) h = front_of xs ys i (omega (arith, h))

last_of : (xs : List Entry) (y : Entry) → slice_get (xs ++ y ∷ []) (length xs) ≡ Some y
last_of [] y = refl
last_of (x ∷ xs) y = last_of xs y

below_or_not : (a b : ℕ) → (a < b) ⊎ (b ≤ a)
below_or_not a b = grind arith

-- the entry at a place stands on what was taken up before it
pub taken_split : (stack : List Entry) (k : ℕ) (e : Entry) → slice_get (reverse stack) k ≡ Some e → k < length stack → taken_up (k + 1) stack ≡ e ∷ taken_up k stack
taken_split [] k e at low = absurd (omega (arith, low))
taken_split (x ∷ rest) k e at low = elim (below_or_not k (length rest)) [
  | inl h ↦ (taken_below (k + 1) x rest (omega (arith, h))
      ∙ taken_split rest k e (sym (front_of (reverse rest) (x ∷ []) k (omega (arith, h, length-reverse rest))) ∙ turned) h
      ∙ ap (λ (s : List Entry). e ∷ s) (sym (taken_below k x rest (omega (arith, h)))))
  | inr h ↦ (let n : length (reverse rest) ≡ k = omega (arith, h, low, length-reverse rest) in
      let q : Some x ≡ Some e = sym (subst (λ i. slice_get (reverse rest ++ x ∷ []) i ≡ Some x) n (last_of (reverse rest) x)) ∙ turned in
      let same : x ≡ e = cc in
      taken_all (k + 1) (x ∷ rest) (omega (arith, h)) ∙ ap (λ (y : Entry). y ∷ rest) same ∙ ap (λ (s : List Entry). e ∷ s) (sym (taken_below k x rest (omega (arith, h, low)) ∙ taken_all k rest h)))
]
  where
    turned : slice_get (reverse rest ++ x ∷ []) k ≡ Some e
    turned = subst (λ (s : List Entry). slice_get s k ≡ Some e) (reverse-append (x ∷ []) rest) at

in_or_not : (n : ℕ) (ids : List ℕ) → (n ∈ ids) ⊎ (n ∈ ids → ⊥)
in_or_not n [] = inr (λ h. h)
in_or_not n (x ∷ xs) = elim (same_or_not n x) [
  | inl e ↦ inl (inl e)
  | inr k ↦ elim (in_or_not n xs) [ inl h ↦ inl (inr h) | inr h ↦ inr (λ i. elim i [ inl e ↦ k e | inr j ↦ h j ]) ]
]

-- after an entry was taken up
pub taken_suffices : (atoms : ℕ) (a b : List Entry) (ngs : List Nogood) (es : List Event) (place : ℕ) (e : Entry) (ids : List ℕ) (store store' : List Stored)
    → IsStackOf atoms a → Puts ngs a es b → slice_get (reverse a) place ≡ Some e → place < length a → TheseSuffice (λ n. ⊤) (taken_up place a) a store
    → TheseSuffice (λ n. n ∈ ids) a b store' → OthersStay (λ n. n ∈ ids) store store' → ((n : ℕ) → Watching store (literal_of e) n → n ∈ ids)
    → TheseSuffice (λ n. ⊤) (taken_up (place + 1) b) b store'
taken_suffices atoms a b ngs es place e ids store store' lawful p at low old new stay which n s u here =
    let same = (puts_taken ngs a b es (place + 1) p (omega (arith, low))).0 in
    let lower = lower_taken atoms (place + 1) a lawful in
    subst (λ (t : List Entry). Suffices t b s) (sym same) (elim (in_or_not n ids) [
      | inl i ↦ suffices_less (taken_up (place + 1) a) a b s lower.holds lower.full (new n s i here)
      | inr k ↦ (let before : slice_get store n ≡ Some s = sym (stay n k) ∙ here in
          puts_suffices ngs (taken_up (place + 1) a) a b es s p
          (subst (λ (t : List Entry). Suffices t a s) (sym (taken_split a place e at low)) (unwatched e (taken_up place a) a s (λ w. k (which n (s, before, w))) (old n s u before))))
    ])
