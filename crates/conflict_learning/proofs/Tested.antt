-- The conflict of the test: atom 0 was chosen, and makes atom 1 must-be-true, but the two can't be true together.
use Rattle.std.proofs.Common.{◌≡◌, ℕ, ◌+◌, true, false, List, [], ◌∷◌, ◌++◌, length, map, refl, sym, ◌∙◌, ap, subst, inl, inr}
use Rattle.std.specs.Prelude.{Some, None}
use Rattle.lists.specs.Lists.{◌∈◌}
use Rattle.search_values.specs.Values.{Value, is_up, True, MustBe, Lit, lit, Holds, decision, entry_on}
use Rattle.search_values.specs.declared.entry.Entry.{Entry}
use Rattle.search_values.specs.declared.entry.Why.TheVariants.{Given, Chosen}
use Rattle.search_values.specs.Nogoods.{Nogood, IsStruck, Gives}
use Rattle.trail.specs.Assigning.{Trailed, assigned}
use Rattle.nogood_store.specs.Stored.{Stored, nogood_of}
use Rattle.nogood_store.specs.Watched.{first_watches}
use Rattle.journal_theory.specs.Resolution.{EachRests}
use Rattle.journal_theory.specs.Events.{lits_at}
use Rattle.conflict_learning.specs.Analysing.{IsUnitBelow, IsUnitWhereOneIs}

-- atom 1 is true where atom 0 is, and isn't
abbrev pub two : List Nogood
two = record { lits = lit 0 true ∷ lit 1 false ∷ []; head = None } ∷ record { lits = lit 0 true ∷ lit 1 true ∷ []; head = None } ∷ []

-- the entry of the choice
abbrev pub choice : Entry
choice = record { atom = 0; value = True; level = 1; why = Chosen }

-- the entry above it
abbrev pub given : Entry
given = record { atom = 1; value = MustBe; level = 1; why = Given 0 }

-- the trail that this comes to
pub stack_is : (none one_atom both_atoms decided given_one : Trailed) (n : ℕ) → none.stack ≡ []
    → one_atom ≡ record none { atoms = none.atoms + 1 }
    → both_atoms ≡ record one_atom { atoms = one_atom.atoms + 1 } → decided ≡ assigned both_atoms 0 (decision true) Chosen
    → given_one ≡ assigned decided 1 MustBe (Given n) → n ≡ 0 → given_one.stack ≡ given ∷ choice ∷ []
stack_is none one_atom both_atoms decided given_one n empty first second third fourth zero =
    ap (λ (t : Trailed). t.stack) fourth
    ∙ ap (λ st. entry_on st 1 MustBe (Given n) ∷ st) (ap (λ (t : Trailed). t.stack) third
    ∙ ap (λ st. entry_on st 0 True Chosen ∷ st) (ap (λ (t : Trailed). t.stack) second ∙ ap (λ (t : Trailed). t.stack) first ∙ empty))
    ∙ ap (λ m. entry_on (choice ∷ []) 1 MustBe (Given m) ∷ choice ∷ []) zero

-- the nogoods that are stored
pub nogoods_are : (none one both : List Stored) (a b c d : Lit) → none ≡ []
    → one ≡ none ++ record { lits = a ∷ b ∷ []; head = None; watches = first_watches (a ∷ b ∷ []) } ∷ []
    → both ≡ one ++ record { lits = c ∷ d ∷ []; head = None; watches = first_watches (c ∷ d ∷ []) } ∷ []
    → a ≡ lit 0 true → b ≡ lit 1 false → c ≡ lit 0 true → d ≡ lit 1 true → map nogood_of both ≡ two
nogoods_are none one both a b c d empty first second a_is b_is c_is d_is =
    ap (map nogood_of) (second ∙ ap (λ (store : List Stored). store ++ stored c d ∷ [])
    (first ∙ ap (λ (store : List Stored). store ++ stored a b ∷ []) empty))
    ∙ (λ i. record { lits = a_is i ∷ b_is i ∷ []; head = None } ∷ record { lits = c_is i ∷ d_is i ∷ []; head = None } ∷ [])
  where
    stored : Lit → Lit → Stored
    stored x y = record { lits = x ∷ y ∷ []; head = None; watches = first_watches (x ∷ y ∷ []) }

-- after the first was stored there is one
pub one_there : (none one : List Stored) (s : Stored) → none ≡ [] → one ≡ none ++ s ∷ [] → length one ≡ 1
one_there none one s empty first = ap length (first ∙ ap (λ (store : List Stored). store ++ s ∷ []) empty)

-- atom 0 holds by the choice
choice_holds : (l : Lit) → l ≡ lit 0 true → Holds (choice ∷ []) l
choice_holds l q = subst (λ (x : Lit). Holds (choice ∷ []) x) (sym q) (True, refl, refl)

-- the first nogood gave atom 1 its value
gave : Gives (choice ∷ []) (record { lits = lit 0 true ∷ lit 1 false ∷ []; head = None }) 1 MustBe
gave = (
  record {
    among = inr (inl refl);
    unassigned = refl;
    others = λ l i. elim i [ inl q ↦ inr (choice_holds l q) | inr j ↦ elim j [ inl q ↦ inl q | inr z ↦ absurd z ] ];
  },
  λ r. (let z = r.heads in cc),
)

-- each entry rests on what it should
pub all_rest : (ngs : List Nogood) (stack : List Entry) → ngs ≡ two → stack ≡ given ∷ choice ∷ [] → EachRests ngs stack
all_rest ngs stack ngs_are stack_are = subst (λ (xs : List Nogood). EachRests xs stack) (sym ngs_are)
    (subst (λ (es : List Entry). EachRests two es) (sym stack_are)
    ((record { lits = lit 0 true ∷ lit 1 false ∷ []; head = None }, refl, gave), (tt, tt)))

-- the first nogood isn't struck
not_struck : ¬ IsStruck (given ∷ choice ∷ []) (record { lits = lit 0 true ∷ lit 1 false ∷ []; head = None })
not_struck struck =
    let h = struck (lit 1 false) (inr (inl refl)) in
    let same : Some MustBe ≡ Some h.0 = h.1 in
    elim_up h.0 same h.2
  where
    elim_up : (v : Value) → Some MustBe ≡ Some v → is_up v ≡ false → ⊥
    elim_up v e f = (let q : MustBe ≡ v = cc in let w : true ≡ false = ap is_up q ∙ f in cc)

-- so the second is the only one
pub only_one : (ngs : List Nogood) (stack : List Entry) (struck : ℕ) → ngs ≡ two → stack ≡ given ∷ choice ∷ [] → struck ≡ 1
    → IsUnitWhereOneIs ngs stack (lits_at ngs struck)
only_one ngs stack struck ngs_are stack_are struck_is ng i holds same unit =
    subst (λ (ls : List Lit). IsUnitBelow stack ls) lits_are unit
  where
    among : (ng ∈ two) → ng ≡ record { lits = lit 0 true ∷ lit 1 true ∷ []; head = None }
    among (inl q) = absurd (not_struck
        (subst (λ (es : List Entry). IsStruck es (record { lits = lit 0 true ∷ lit 1 false ∷ []; head = None })) stack_are
        (subst (λ (x : Nogood). IsStruck stack x) q holds)))
    among (inr (inl q)) = q
    among (inr (inr z)) = absurd z

    lits_are : ng.lits ≡ lits_at ngs struck
    lits_are = ap (λ (x : Nogood). x.lits) (among (subst (λ (xs : List Nogood). ng ∈ xs) ngs_are i))
        ∙ sym (ap (λ (xs : List Nogood). lits_at xs struck) ngs_are ∙ ap (λ (n : ℕ). lits_at two n) struck_is)
