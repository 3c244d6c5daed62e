-- After the last literal chosen is taken back, the nogood of the literals chosen is unit.
use Rattle.std.proofs.Common.{◌≡◌, ℕ, ◌+◌, ◌≤◌, ◌<◌, true, false, cond, List, [], ◌∷◌, refl, sym, ◌∙◌, ap, subst, inl, inr, arith}
use Rattle.std.specs.Prelude.{Option, Some, None, nat_le}
use Rattle.search_values.specs.declared.entry.Why.{Why}
use Rattle.search_values.specs.declared.entry.Why.TheVariants.{Given, Chosen, Closed}
use Rattle.search_values.specs.declared.entry.Entry.{Entry}
use Rattle.search_values.specs.Values.{Value, Lit, is_up, lit, value_of, opened, level_of, back_to, chosen_with, chosen}
use Rattle.search_values.specs.Nogoods.{IsLeft}
use Rattle.search_values.specs.Instances.{Rules}
use Rattle.journal_theory.specs.States.{State}
use Rattle.journal_theory.proofs.Stack.{Good}
use Rattle.search_values.proofs.Levels.{back_above, back_here}
use Rattle.search_values.proofs.Tables.{nogood}
use Rattle.journal_theory.proofs.Central.{Valid}
use Rattle.journal_theory.proofs.Fresh.{NewlyChosen, ChosenAreBodies, chosen_holds}

module _ {N A K : Type 0} (core : Rules N A K) (s : State N A K) (valid : Valid core s) (bodies : ChosenAreBodies s) (newly : NewlyChosen s) where
  -- the nogood of some literals is unit on the stack below the last of them
  abbrev pub JumpsTo : List Entry → List Lit → Type 0
  JumpsTo stack ls = (l : ℕ) × (l < level_of stack) × (left : Lit) × IsLeft (back_to l stack) (nogood None ls) left

  skips : (e : Entry) (rest : List Entry) (ls : List Lit) → JumpsTo rest ls → JumpsTo (e ∷ rest) ls
  skips e rest ls j =
      let low : j.0 < level_of rest + opened e.why = (let k = j.1 in omega arith) in
      let same = back_above j.0 e rest low in
      (j.0, low, j.2, subst (λ st. IsLeft st (nogood None ls) j.2) (sym same) j.3)

  last : (e : Entry) (rest : List Entry) → Good core s rest → value_of rest e.atom ≡ None → opened e.why ≡ 1 → JumpsTo (e ∷ rest) (lit e.atom (is_up e.value) ∷ chosen rest)
  last e rest g free one =
      let low : level_of rest < level_of rest + opened e.why = omega (arith, one) in
      let same : back_to (level_of rest) (e ∷ rest) ≡ rest = back_above (level_of rest) e rest low ∙ back_here rest in (
        level_of rest,
        low,
        lit e.atom (is_up e.value),
        subst (λ st. IsLeft st (nogood None (lit e.atom (is_up e.value) ∷ chosen rest)) (lit e.atom (is_up e.value))) (sym same) (record {
          among = inl refl;
          unassigned = free;
          others = λ l i. elim i [ inl q ↦ inl q | inr j ↦ inr (chosen_holds core s valid bodies newly rest g l j) ];
        }),
      )

  -- where literals are chosen, their nogood is unit at some level below
  pub jump_exists : (stack : List Entry) → Good core s stack → (chosen stack ≡ [] → ⊥) → JumpsTo stack (chosen stack)
  jump_exists [] g n = absurd (n refl)
  jump_exists (e ∷ rest) g n = go e.why refl (value_of rest e.atom) refl (jump_exists rest g.1) n
    where
      go : (w : Why) → e.why ≡ w → (v : Option Value) → value_of rest e.atom ≡ v → ((chosen rest ≡ [] → ⊥) → JumpsTo rest (chosen rest))
          → (chosen_with w v (lit e.atom (is_up e.value)) (chosen rest) ≡ [] → ⊥) → JumpsTo (e ∷ rest) (chosen_with w v (lit e.atom (is_up e.value)) (chosen rest))
      go (Given k) q v f ih m = skips e rest (chosen rest) (ih m)
      go Chosen q None f ih m = last e rest g.1 f (ap opened q)
      go Chosen q (Some v) f ih m = skips e rest (chosen rest) (ih m)
      go (Closed reason) q v f ih m = skips e rest (chosen rest) (ih m)
