-- Closed atoms, reasons, and what comes of the literal of an entry.
use Rattle.std.proofs.Common.{◌≡◌, ℕ, ◌<◌, ◌≤◌, ◌⊎◌, Bool, true, false, not, ◌&&◌, cond, List, [], ◌∷◌, ◌++◌, length, refl, sym, ◌∙◌, ap, subst, inl, inr, arith}
use Rattle.std.specs.Prelude.{Some, None, nat_eq, nat_lt, slice_get}
use Rattle.lists.specs.Lists.{◌∈◌}
use Rattle.alpha_outside.specs.declared.literal.Lit.{Lit}
use Rattle.alpha_outside.specs.declared.literal.Value.{Value}
use Rattle.alpha_outside.specs.declared.literal.Value.TheVariants.{True, MustBe, False}
use Rattle.search_values.specs.declared.entry.Entry.{Entry}
use Rattle.search_values.specs.declared.entry.Why.{Why}
use Rattle.search_values.specs.declared.entry.Why.TheVariants.{Given, Chosen, Closed}
use Rattle.search_values.specs.Values.{lit, is_up, value_of, Holds, full_value, HoldsFully, opened, is_closed, any_closed, IsClosed, before_closed}
use Rattle.search_values.specs.Nogoods.{Nogood, Gives}
use Rattle.search_values.proofs.Basics.{and_right}
use Rattle.trail.specs.Assigning.{MayClose, IsEntryOf, IsStackOf}
use Rattle.journal_theory.specs.Resolution.{opposite, IsReasonOf, RestsOn, EachRests}
use Rattle.conflict_learning.specs.Pending.{lit_of, treatment_of, IsFirstAt}
use Rattle.conflict_learning.specs.declared.analysis.Treatment.TheVariants.{Keep, Resolve, Missing}
use Rattle.conflict_learning.proofs.Stacks.{holds_more, first_valued}

-- ---- entries

-- what an entry rests on, where it stands on the whole stack
pub rests_at : (ngs : List Nogood) (above rest : List Entry) (e : Entry) → EachRests ngs (above ++ e ∷ rest) → RestsOn ngs e rest e.why
rests_at ngs [] rest e h = h.0
rests_at ngs (f ∷ above) rest e h = rests_at ngs above rest e h.1

-- an entry is among those around it
pub entry_in : (above rest : List Entry) (e : Entry) → e ∈ (above ++ e ∷ rest)
entry_in [] rest e = inl refl
entry_in (f ∷ above) rest e = inr (entry_in above rest e)

-- a first value is that of one entry
pub first_once : (stack : List Entry) (p q : ℕ) (f g : Entry) → IsFirstAt stack p f → IsFirstAt stack q g → f.atom ≡ g.atom → f ≡ g
first_once [] p q f g h k same = absurd h
first_once (e ∷ rest) p q f g (inl h) (inl k) same = h.1 ∙ sym k.1
first_once (e ∷ rest) p q f g (inl h) (inr k) same =
    let w = first_valued rest q g k in
    let z : value_of rest g.atom ≡ None = ap (value_of rest) (sym same ∙ ap (λ (x : Entry). x.atom) h.1) ∙ h.2 in
    (let y = sym w.1 ∙ z in cc)
first_once (e ∷ rest) p q f g (inr h) (inl k) same =
    let w = first_valued rest p f h in
    let z : value_of rest f.atom ≡ None = ap (value_of rest) (same ∙ ap (λ (x : Entry). x.atom) k.1) ∙ k.2 in
    (let y = sym w.1 ∙ z in cc)
first_once (e ∷ rest) p q f g (inr h) (inr k) same = first_once rest p q f g h k same

-- an entry that is closed gave its atom the first value
closed_free : (atoms : ℕ) (e : Entry) (rest : List Entry) → IsEntryOf atoms e rest → is_closed e.why ≡ true → value_of rest e.atom ≡ None
closed_free atoms e rest is c = go e.why c is.closes
  where
    go : (w : Why) → is_closed w ≡ true → MayClose (value_of rest e.atom) e.value w → value_of rest e.atom ≡ None
    go (Given n) t h = cc
    go Chosen t h = cc
    go (Closed reason) t h = h.0

-- so a closed entry stands at the place of its atom
pub closed_first : (atoms : ℕ) (stack : List Entry) → IsStackOf atoms stack → (f : Entry) → f ∈ stack → is_closed f.why ≡ true → (p : ℕ)
    × IsFirstAt stack p f
closed_first atoms [] are f i c = absurd i
closed_first atoms (e ∷ rest) are f (inl q) c = (
  length rest,
  inl
      (refl, q, closed_free atoms e rest are.0 (ap (λ (x : Entry). is_closed x.why) (sym q) ∙ c)),
)
closed_first atoms (e ∷ rest) are f (inr i) c = let r = closed_first atoms rest are.1 f i c in (r.0, inr r.1)

-- an atom whose first value isn't closed isn't closed
pub open_first : (atoms : ℕ) (stack : List Entry) → IsStackOf atoms stack → (p : ℕ) (f : Entry) → IsFirstAt stack p f
    → is_closed f.why ≡ false → ¬ IsClosed stack f.atom
open_first atoms stack are p f h c z =
    let r = closed_first atoms stack are z.0 z.1 z.3 in
    let same : f ≡ z.0 = first_once stack p r.0 f z.0 h r.1 (sym z.2) in
    let both : true ≡ false = sym z.3 ∙ ap (λ (x : Entry). is_closed x.why) (sym same) ∙ c in
    cc

-- what stands at a place is on the stack
pub first_in : (stack : List Entry) (p : ℕ) (f : Entry) → IsFirstAt stack p f → f ∈ stack
first_in [] p f h = absurd h
first_in (e ∷ rest) p f (inl h) = inl h.1
first_in (e ∷ rest) p f (inr h) = inr (first_in rest p f h)

-- ---- reasons

-- what held before the first closed entry holds now
before_holds : (atoms : ℕ) (stack : List Entry) → IsStackOf atoms stack → (l : Lit) → Holds (before_closed stack) l → Holds stack l
before_holds atoms [] are l h = h
before_holds atoms (e ∷ rest) are l h = go (any_closed rest) (is_closed e.why) h (before_holds atoms rest are.1 l)
  where
    go : (b c : Bool) → Holds (cond b (before_closed rest) (cond c rest (e ∷ rest))) l → (Holds (before_closed rest) l → Holds rest l)
        → Holds (e ∷ rest) l
    go true c h below = holds_more atoms e rest are.0 l (below h)
    go false true h below = holds_more atoms e rest are.0 l h
    go false false h below = h

-- what held before the first closed entry held below this one
before_closed_holds : (atoms : ℕ) (e : Entry) (rest : List Entry) → IsStackOf atoms (e ∷ rest) → is_closed e.why ≡ true → (l : Lit)
    → Holds (before_closed (e ∷ rest)) l → Holds rest l
before_closed_holds atoms e rest are closed l h = go (any_closed rest) (before_holds atoms rest are.1 l)
    (subst (λ c. Holds (cond (any_closed rest) (before_closed rest) (cond c rest (e ∷ rest))) l) closed h)
  where
    go : (b : Bool) → (Holds (before_closed rest) l → Holds rest l) → Holds (cond b (before_closed rest) rest) l → Holds rest l
    go true below k = below k
    go false below k = k

-- what holds fully holds
full_up : (b : Bool) → is_up (full_value b) ≡ b
full_up true = refl
full_up false = refl

-- a literal that holds fully holds
fully_holds : (stack : List Entry) (l : Lit) → HoldsFully stack l → Holds stack l
fully_holds stack l h = (full_value l.positive, h, full_up l.positive)

-- the reason of an entry, which has the opposite of its literal, and whose other literals hold below
pub record HasReason (ngs : List Nogood) (stack rest : List Entry) (e : Entry) (n : ℕ) : Type 0 where
  pub reason : Nogood
  pub there : slice_get ngs n ≡ Some reason
  pub is : IsReasonOf ngs stack e.atom reason
  pub denied : opposite (lit_of e) ∈ reason.lits
  pub others : (l : Lit) → l ∈ reason.lits → (l ≡ opposite (lit_of e)) ⊎ Holds rest l

-- a nogood that gives a value has the opposite of its literal, and its other literals hold
pub given_reason : (rest : List Entry) (ng : Nogood) (a : ℕ) (v : Value) → Gives rest ng a v
    → (lit a (not (is_up v)) ∈ ng.lits) × ((l : Lit) → l ∈ ng.lits → (l ≡ lit a (not (is_up v))) ⊎ Holds rest l)
given_reason rest ng a True h = (h.among, λ l i. elim (h.others l i) [ inl q ↦ inl q | inr k ↦ inr (fully_holds rest l k) ])
given_reason rest ng a MustBe h = (h.0.among, h.0.others)
given_reason rest ng a False h = (h.among, h.others)

module _ (ngs : List Nogood) (stack rest : List Entry) (e : Entry) (atoms : ℕ) (below : IsStackOf atoms (e ∷ rest))
    (among : e ∈ stack) where
  -- the reason that the entry is resolved with, and why it is resolved
  pub reason_of : (top count n : ℕ) (w : Why) → e.why ≡ w → RestsOn ngs e rest w → treatment_of w e.level top count ≡ Resolve n
      → HasReason ngs stack rest e n × ((is_closed e.why ≡ true) ⊎ (1 < count))
  reason_of top count n (Given m) why rests is = go (nat_eq e.level top && nat_lt 1 count) refl is
    where
      go : (b : Bool) → (nat_eq e.level top && nat_lt 1 count) ≡ b → cond b (Resolve m) Keep ≡ Resolve n → HasReason ngs stack rest e n
          × ((is_closed e.why ≡ true) ⊎ (1 < count))
      go true t k =
          let same : m ≡ n = cc in
          let gave = given_reason rest rests.0 e.atom e.value rests.2 in (
            record {
              reason = rests.0;
              there = subst (λ x. slice_get ngs x ≡ Some rests.0) same rests.1;
              is = record { entry = e; among = among; atom_is = refl; id = m; why = inl why; there = rests.1 };
              denied = gave.0;
              others = gave.1;
            },
            inr (let many = and_right (nat_eq e.level top) (nat_lt 1 count) t in grind (arith, many)),
          )
      go false t k = cc
  reason_of top count n Chosen why rests is = cc
  reason_of top count n (Closed None) why rests is = cc
  reason_of top count n (Closed (Some m)) why rests is =
      let same : m ≡ n = cc in
      let closed : is_closed e.why ≡ true = ap is_closed why in
      let flipped : lit e.atom true ≡ opposite (lit_of e) = ap (λ (v : Value). lit e.atom (not (is_up v))) (sym rests.1) in (
        record {
          reason = rests.2.0;
          there = subst (λ x. slice_get ngs x ≡ Some rests.2.0) same rests.2.1;
          is = record { entry = e; among = among; atom_is = refl; id = m; why = inr why; there = rests.2.1 };
          denied = subst (λ (l : Lit). l ∈ rests.2.0.lits) flipped rests.2.2.among;
          others = λ l i. elim (rests.2.2.others l i) [
            | inl q ↦ inl (q ∙ flipped)
            | inr h ↦ inr (before_closed_holds atoms e rest below closed l h)
          ];
        },
        inl closed,
      )

-- why a literal is kept: its entry isn't closed, and is a decision, or isn't at the highest level, or no other open one is left there
pub record MayKeep (e : Entry) (top count : ℕ) : Type 0 where
  pub plain : is_closed e.why ≡ false
  pub alone : (opened e.why ≡ 1) ⊎ ((¬ (e.level ≡ top)) ⊎ (count ≤ 1))

-- a literal that is kept may be kept
pub may_keep : (e : Entry) (top count : ℕ) (w : Why) → e.why ≡ w → treatment_of w e.level top count ≡ Keep → MayKeep e top count
may_keep e top count (Given n) why is = record {
  plain = ap is_closed why;
  alone = inr (go (nat_eq e.level top) refl (nat_lt 1 count) refl is);
}
  where
    go : (b : Bool) → nat_eq e.level top ≡ b → (c : Bool) → nat_lt 1 count ≡ c → cond (b && c) (Resolve n) Keep ≡ Keep → (¬ (e.level ≡ top))
        ⊎ (count ≤ 1)
    go true p true q k = cc
    go true p false q k = inr (grind (arith, q))
    go false p c q k = inl (λ same. grind (arith, p, same))
may_keep e top count Chosen why is = record { plain = ap is_closed why; alone = inl (ap opened why) }
may_keep e top count (Closed None) why is = cc
may_keep e top count (Closed (Some n)) why is = cc

-- an entry whose reason is missing is closed without one, and false
pub missing : (ngs : List Nogood) (rest : List Entry) (e : Entry) (top count : ℕ) (w : Why) → e.why ≡ w → RestsOn ngs e rest w
    → treatment_of w e.level top count ≡ Missing
    → (e.why ≡ Closed None) × (e.value ≡ False)
missing ngs rest e top count (Given n) why rests is = go (nat_eq e.level top && nat_lt 1 count) is
  where
    go : (b : Bool) → cond b (Resolve n) Keep ≡ Missing → (e.why ≡ Closed None) × (e.value ≡ False)
    go true k = cc
    go false k = cc
missing ngs rest e top count Chosen why rests is = cc
missing ngs rest e top count (Closed None) why rests is = (why, rests.1)
missing ngs rest e top count (Closed (Some n)) why rests is = cc
