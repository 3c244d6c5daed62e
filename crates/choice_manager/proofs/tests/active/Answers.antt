use Rattle.std.proofs.Common.{◌≡◌, ℕ, List, [], ◌∷◌, ◌++◌, length, slice_get, Option, None, Some, inl, inr, ap, subst, ◌∙◌, arith}
use Rattle.lists.specs.Lists.{◌∈◌}
use Rattle.atom_pool.specs.declared.instances.Made.{Made}
use Rattle.choice_manager.specs.Active.{with_noted, AreThere}
use Rattle.choice_manager.proofs.tests.active.Goals as goal

-- what is noted of one instance is that instance
is_it : (inst i : ℕ) (body : Option ℕ) → i ∈ with_noted [] inst body → i ≡ inst
is_it inst i None among = absurd among
is_it inst i (Some b) (inl e) = e
is_it inst i (Some b) (inr none) = absurd none

-- the first instance is there
first_there : (old made : List Made) (before noted : List ℕ) (inst : ℕ) (k : Made) → old ≡ [] → before ≡ [] → made ≡ old ++ k ∷ [] → inst ≡ length old
    → ((l : Made) → slice_get made inst ≡ Some l → noted ≡ with_noted before inst l.body) → AreThere made noted
first_there old made before noted inst k none empty more first then i among =
    let only : made ≡ k ∷ [] = more ∙ ap (λ l. l ++ k ∷ []) none in
    let zero_th : inst ≡ 0 = first ∙ ap length none in
    let at : slice_get made inst ≡ Some k = λ j. slice_get (only j) (zero_th j) in
    let same : i ≡ inst = is_it inst i k.body (subst (λ l. i ∈ l) (then k at ∙ ap (λ l. with_noted l inst k.body) empty) among) in
    let one : length made ≡ 1 = ap length only in
    omega arith

pub next_active-requires-clause-there : goal.next_active-requires-clause-there
next_active-requires-clause-there c =
    first_there c.new-instances.result c.add.new.self c.new-choices.result c.note_instance.new.self c.in_ok-inst.inst _ c.new-instances.ensures c.new-choices.ensures c.in_ok-inst.ensures.ok
    c.in_ok-inst.ensures.id c.in_ok-note_instance.ensures.ok
