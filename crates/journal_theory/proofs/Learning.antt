-- What follows by resolution from sound nogoods is sound.
use Rattle.std.proofs.Common.{◌≡◌, ℕ, ◌⊎◌, Bool, true, false, not, List, refl, sym, ◌∙◌, ap, subst, inl, inr}
use Rattle.std.specs.Prelude.{nat_eq}
use Rattle.lists.specs.Lists.{◌∈◌}
use Rattle.search_values.specs.declared.entry.Entry.{Entry}
use Rattle.search_values.specs.Values.{Lit}
use Rattle.search_values.specs.Nogoods.{Nogood}
use Rattle.search_values.specs.Instances.{Rules}
use Rattle.journal_theory.specs.Resolution.{opposite, IsResolvent, Follows, is_nogood, resolved, Arises, itself, by_reason, IsAnalysed}
use Rattle.journal_theory.specs.States.{State, truth, Agrees, IsSound}
use Rattle.search_values.proofs.Basics.{get_in, nat_eq-same, nat_eq-true}
use Rattle.journal_theory.proofs.Meaning.{AllKnown}
use Rattle.journal_theory.proofs.Stack.{value_known}
use Rattle.journal_theory.proofs.Central.{Valid}
use Rattle.journal_theory.specs.Laws.{ClosedIsNotLearned, UnimpliedIsNotLearned}

bool_is : (p b : Bool) → (p ≡ b) ⊎ (p ≡ not b)
bool_is true true = inl refl
bool_is true false = inr refl
bool_is false true = inr refl
bool_is false false = inl refl

-- two literals are the same or not
pub lit_same : (k l : Lit) → (k ≡ l) ⊎ (¬ (k ≡ l))
lit_same k l = go (nat_eq k.atom l.atom) refl (bool_is k.positive l.positive)
  where
    go : (b : Bool) → nat_eq k.atom l.atom ≡ b → ((k.positive ≡ l.positive) ⊎ (k.positive ≡ not l.positive)) → (k ≡ l) ⊎ (¬ (k ≡ l))
    go true e (inl q) = inl (let a = nat_eq-true k.atom l.atom e in λ i. record { atom = a i; positive = q i })
    go true e (inr q) = inr (λ w. not_self l.positive (sym (ap (λ (z : Lit). z.positive) w) ∙ q))
      where
        not_self : (b : Bool) → ¬ (b ≡ not b)
        not_self true h = cc
        not_self false h = cc
    go false e q = inr (λ w. let t : nat_eq l.atom l.atom ≡ false = subst (λ z. nat_eq z l.atom ≡ false) (ap (λ (z : Lit). z.atom) w) e in let u = nat_eq-same l.atom in cc)

module _ {N A K : Type 0} (core : Rules N A K) (s : State N A K) where
  -- a set that makes a resolvent true makes one of the two nogoods true
  pub resolvent_agrees : (c : A → Bool) (l : Lit) (ls ms result : List Lit) → IsResolvent l ls ms result → Agrees s c result → Agrees s c ls ⊎ Agrees s c ms
  resolvent_agrees c l ls ms result r h = elim (bool_is (truth s c l.atom) l.positive) [
    | inl t ↦ inl (λ k i. elim (lit_same k l) [
      | inl e ↦ (ap (λ (z : Lit). truth s c z.atom) e ∙ t ∙ ap (λ (z : Lit). z.positive) (sym e))
      | inr d ↦ h k (r.left k i d)
    ])
    | inr t ↦ inr (λ k i. elim (lit_same k (opposite l)) [
      | inl e ↦ (ap (λ (z : Lit). truth s c z.atom) e ∙ t ∙ ap (λ (z : Lit). z.positive) (sym e))
      | inr d ↦ h k (r.added k i d)
    ])
  ]

  -- what follows by resolution is sound
  pub follows_sound : ((ng : Nogood) → ng ∈ s.nogoods → IsSound core s ng.lits) → (ls : List Lit) → Follows s.nogoods ls → IsSound core s ls
  follows_sound sound ls (is_nogood ng _ i same) c o h = sound ng i c o (λ l j. h l (same.to l j))
  follows_sound sound result (resolved l ls ms _ f g r) c o h = elim (resolvent_agrees c l ls ms result r h) [
    | inl k ↦ follows_sound sound ls f c o k
    | inr k ↦ follows_sound sound ms g c o k
  ]

  -- what analysis gives is sound
  pub analysed_sound : Valid core s → (ls : List Lit) → IsAnalysed s.nogoods s.stack ls → IsSound core s ls
  analysed_sound valid ls h = follows_sound valid.sound ls h.follows

  -- and its atoms mean something
  pub analysed_known : Valid core s → (ls : List Lit) → IsAnalysed s.nogoods s.stack ls → AllKnown s ls
  analysed_known valid ls h l i = let v = h.hold l i in value_known core s s.stack valid.good l.atom v.0 v.1

-- what arises from a nogood by resolving with reasons follows by resolution
pub arises_follows : (ngs : List Nogood) (stack : List Entry) (struck : Nogood) → struck ∈ ngs → (ls : List Lit) → Arises ngs stack struck.lits ls → Follows ngs ls
arises_follows ngs stack struck i ls (itself _ same) = is_nogood struck ls i same
arises_follows ngs stack struck i result (by_reason l ng ls _ a r w) =
    resolved l ls ng.lits result (arises_follows ngs stack struck i ls a) (is_nogood ng ng.lits (get_in ngs r.id ng r.there) (record { to = λ x j. j; back = λ x j. j })) w

-- what follows by resolution is implied: values that make all its literals true make all those of a nogood true
pub follows_implied : (ngs : List Nogood) (values : ℕ → Bool) → ((ng : Nogood) → ng ∈ ngs → ¬ ((l : Lit) → l ∈ ng.lits → values l.atom ≡ l.positive))
    → (ls : List Lit) → Follows ngs ls → ¬ ((l : Lit) → l ∈ ls → values l.atom ≡ l.positive)
follows_implied ngs values none ls (is_nogood ng _ i same) all = none ng i (λ l j. all l (same.to l j))
follows_implied ngs values none result (resolved l ls ms _ f g r) all = elim (bool_is (values l.atom) l.positive) [
  | inl t ↦ follows_implied ngs values none ls f (λ k i. elim (lit_same k l) [
    | inl e ↦ (ap (λ (z : Lit). values z.atom) e ∙ t ∙ ap (λ (z : Lit). z.positive) (sym e))
    | inr d ↦ all k (r.left k i d)
  ])
  | inr t ↦ follows_implied ngs values none ms g (λ k i. elim (lit_same k (opposite l)) [
    | inl e ↦ (ap (λ (z : Lit). values z.atom) e ∙ t ∙ ap (λ (z : Lit). z.positive) (sym e))
    | inr d ↦ all k (r.added k i d)
  ])
]

-- law: analysis learns no literal of a closed atom
pub closed_is_not_learned : {N A K : Type 0} → ClosedIsNotLearned N A K
closed_is_not_learned core listed s ls l i closed ok = ok.0.1.none_closed l i closed

-- law: analysis learns nothing that isn't implied
pub unimplied_is_not_learned : {N A K : Type 0} → UnimpliedIsNotLearned N A K
unimplied_is_not_learned core listed s ls values none all ok = follows_implied s.nogoods values none ls ok.0.1.follows all
