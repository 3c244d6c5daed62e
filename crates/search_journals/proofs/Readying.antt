-- A search that is ready is so after a value has come.
use Rattle.std.proofs.Common.{◌≡◌, ◌⊎◌, ℕ, ◌+◌, ◌<◌, ◌≤◌, Bool, true, false, List, [], ◌∷◌, length, refl, sym, ap, subst, inl, inr, arith}
use Rattle.std.specs.Prelude.{Some, None, cond, min, nat_le}
use Rattle.lists.specs.Lists.{◌∈◌}
use Rattle.alpha_outside.specs.declared.literal.Value.{Value}
use Rattle.alpha_outside.specs.declared.literal.Value.TheVariants.{True, MustBe, False}
use Rattle.search_values.specs.declared.entry.Why.{Why}
use Rattle.search_values.specs.declared.entry.Why.TheVariants.{Given, Chosen, Closed}
use Rattle.search_values.specs.declared.entry.Entry.{Entry}
use Rattle.search_values.specs.Values.{value_of, opened, level_of, back_to, entry_on}
use Rattle.search_values.specs.Nogoods.{Nogood, NoneStruck, Gives}
use Rattle.journal_theory.specs.Laws.{NoneEmpty}
use Rattle.trail.specs.Assigning.{MayBecome, MayClose, IsStackOf, full_by}
use Rattle.ground_noting.specs.declared.telling.Told.{Told}
use Rattle.search_state.specs.Searching.{Searching, ids, assigned, taken_back}
use Rattle.search_state.specs.Grounding.{HasLawfulStack}
use Rattle.search_journals.specs.Standing.{IsKept, IsReady}
use Rattle.search_journals.proofs.Choosing.{back_among}
use Rattle.search_state.proofs.JoinLemmas.{more_is_joined, less_is_joined}

-- an empty list has no members
no_members : {X : Type 0} (x : X) (xs : List X) → xs ≡ [] → ¬ (x ∈ xs)
no_members x xs e i = subst (λ z. x ∈ z) e i

-- where nothing is struck, no nogood is empty
pub none_empty : (stack : List Entry) (ngs : List Nogood) → NoneStruck stack ngs → NoneEmpty ngs
none_empty stack ngs h ng i e = h ng i (λ l j. absurd (no_members l ng.lits e j))

-- where all that there is was told, each atom has an id
pub ids_are : (v : Searching) → IsKept v → ids v ≡ length v.ground.atoms.atoms
ids_are v k = ap (λ (t : Told). t.atoms) k.told

-- ---- what an entry may be

-- a value comes for this reason, and may come over the one that the atom has
pub record MayCome (v : Searching) (a : ℕ) (value : Value) (why : Why) : Type 0 where
  pub there : a < ids v
  pub may : MayBecome (value_of v.stack a) value
  pub opens_full : opened why ≤ full_by value
  pub closes : MayClose (value_of v.stack a) value why

-- a value that a nogood gives may
gives_may : (stack : List Entry) (ng : Nogood) (a : ℕ) (value : Value) → Gives stack ng a value → MayBecome (value_of stack a) value
gives_may stack ng a True g = elim g.not_yet [ inl e ↦ inl e | inr e ↦ inr (e, refl) ]
gives_may stack ng a MustBe g = inl g.0.unassigned
gives_may stack ng a False g = inl g.unassigned

-- so it may come
pub put_may : (v : Searching) (ng : Nogood) (n a : ℕ) (value : Value) → a < ids v → Gives v.stack ng a value → MayCome v a value (Given n)
put_may v ng n a value low g = record { there = low; may = gives_may v.stack ng a value g; opens_full = omega arith; closes = tt }

-- so does a decision for a body that isn't true or false
pub choose_may : (v : Searching) (b : ℕ) → b < ids v → (value_of v.stack b ≡ None) ⊎ (value_of v.stack b ≡ Some MustBe)
    → MayCome v b True Chosen
choose_may v b low h = record { there = low; may = elim h [ inl e ↦ inl e | inr e ↦ inr (e, refl) ]; opens_full = omega arith; closes = tt }

-- and a closed atom
pub close_may : (v : Searching) (x : ℕ) → x < ids v → value_of v.stack x ≡ None → MayCome v x False (Closed None)
close_may v x low e = record { there = low; may = inl e; opens_full = omega arith; closes = (e, refl) }

-- ---- stacks

-- with more places for atoms a stack is one
more_places : (n m : ℕ) (stack : List Entry) → n ≤ m → IsStackOf n stack → IsStackOf m stack
more_places n m [] low h = tt
more_places n m (e ∷ rest) low h = (
  record {
    placed = (let p = h.0.placed in omega (arith, p, low));
    may = h.0.may;
    level_told = h.0.level_told;
    opens_full = h.0.opens_full;
    closes = h.0.closes;
  },
  more_places n m rest low h.1,
)

-- what is left after going back is one
back_stack : (n level : ℕ) (stack : List Entry) → IsStackOf n stack → IsStackOf n (back_to level stack)
back_stack n level [] h = tt
back_stack n level (e ∷ rest) h = go (nat_le (level_of rest + opened e.why) level) (back_stack n level rest h.1)
  where
    go : (b : Bool) → IsStackOf n (back_to level rest) → IsStackOf n (cond b (e ∷ rest) (back_to level rest))
    go true under = h
    go false under = under

-- ---- an entry more

-- one entry more has an id
placed_more : (n : ℕ) (e : Entry) (stack : List Entry) → e.atom < n → ((x : Entry) → x ∈ stack → x.atom < n) → (x : Entry)
    → x ∈ (e ∷ stack) → x.atom < n
placed_more n e stack low old x (inl q) = subst (λ (z : Entry). z.atom < n) (sym q) low
placed_more n e stack low old x (inr i) = old x i

module _ (v : Searching) (a : ℕ) (value : Value) (why : Why) (closing : Bool) (may : MayCome v a value why) where
  -- the search with the value
  abbrev with_value : Searching
  with_value = record (assigned v a value why) { closing = closing }

  -- the stack stays lawful
  stack_assigned : IsKept v → HasLawfulStack with_value
  stack_assigned k = record {
    fronts = (k.stack.fronts.0, (let low = k.stack.fronts.1 in omega (arith, low)));
    placed = placed_more (length v.ground.atoms.atoms) (entry_on v.stack a value why) v.stack
        (subst (λ n. a < n) (ids_are v k) may.there) k.stack.placed;
    places = k.stack.places + a + 1;
    is_stack = (
      record { placed = omega arith; may = may.may; level_told = refl; opens_full = may.opens_full; closes = may.closes },
      more_places k.stack.places (k.stack.places + a + 1) v.stack (omega arith) k.stack.is_stack,
    );
  }

  -- and all that is kept is kept
  kept_assigned : IsKept v → IsKept with_value
  kept_assigned k = record {
    searchable = k.searchable;
    lawful = k.lawful;
    told = k.told;
    noted = k.noted;
    placed = placed_more (ids v) (entry_on v.stack a value why) v.stack may.there k.placed;
    stack = stack_assigned k;
    joined = more_is_joined v (entry_on v.stack a value why ∷ []) closing v.phase
        (let a = k.stack.fronts.0 in let b = k.stack.fronts.1 in omega (arith, a, b)) k.joined;
  }

-- a value that a nogood gives opens no level
pub ready_put : (v : Searching) (a n : ℕ) (value : Value) → MayCome v a value (Given n) → IsReady v → IsReady (assigned v a value (Given n))
ready_put v a n value may r = record {
  kept = kept_assigned v a value (Given n) v.closing may r.kept;
  free = r.free;
  grounded = elim r.grounded [ inl z ↦ inl (omega (arith, z)) | inr g ↦ inr g ];
}

-- a level is opened where nothing is struck
pub ready_opened : (v : Searching) (a : ℕ) (value : Value) (why : Why) (closing : Bool) → MayCome v a value why → IsReady v
    → NoneStruck v.stack v.nogoods
    → let w : Searching = record (assigned v a value why) { closing = closing } in IsReady w
ready_opened v a value why closing may r quiet = record {
  kept = kept_assigned v a value why closing may r.kept;
  free = r.free;
  grounded = inr (none_empty v.stack v.nogoods quiet);
}

-- ---- levels taken away

-- all that is kept is kept as levels are taken away
pub kept_back : (v : Searching) (level : ℕ) → IsKept v → IsKept (taken_back v level)
kept_back v level k = record {
  searchable = k.searchable;
  lawful = k.lawful;
  told = k.told;
  noted = k.noted;
  placed = λ e i. k.placed e (back_among level v.stack e i);
  stack = record {
    fronts = (
      (let low = k.stack.fronts.0 in min_less v.joined v.risen (length (back_to level v.stack)) low),
      min_right v.risen
          (length (back_to level v.stack)),
    );
    placed = λ e i. k.stack.placed e (back_among level v.stack e i);
    places = k.stack.places;
    is_stack = back_stack k.stack.places level v.stack k.stack.is_stack;
  };
  joined = less_is_joined v level k.joined;
}
  where
    min_less : (a b c : ℕ) → a ≤ b → min a c ≤ min b c
    min_less a b c low = omega (arith, low)

    min_right : (a b : ℕ) → min a b ≤ b
    min_right a b = omega arith

-- ---- what is kept whatever the phase, and with more nogoods

-- it changes nothing
pub kept_with : (v v' : Searching) → (v' ≡ record v { nogoods = v'.nogoods; phase = v'.phase }) → IsKept v → IsKept v'
kept_with v v' is k = subst (λ (z : Searching). IsKept z) (sym is) (record {
  searchable = k.searchable;
  lawful = k.lawful;
  told = k.told;
  noted = k.noted;
  placed = k.placed;
  stack = record { fronts = k.stack.fronts; placed = k.stack.placed; places = k.stack.places; is_stack = k.stack.is_stack };
  joined = k.joined;
})
