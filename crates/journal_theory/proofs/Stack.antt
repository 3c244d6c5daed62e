-- What every entry of the stack says of the open sets.
use Rattle.std.proofs.Common.{◌≡◌, ℕ, ◌+◌, ◌≤◌, ◌⊎◌, Bool, true, false, ◌&&◌, cond, List, [], ◌∷◌, refl, sym, ◌∙◌, ap, subst, inl, inr, arith}
use Rattle.std.specs.Prelude.{Option, Some, None, nat_eq, nat_le, is_none}
use Rattle.lists.specs.Lists.{◌∈◌}
use Rattle.search_values.specs.declared.entry.Why.{Why}
use Rattle.search_values.specs.declared.entry.Why.TheVariants.{Given, Chosen, Closed}
use Rattle.search_values.specs.declared.entry.Entry.{Entry}
use Rattle.search_values.specs.Values.{HasClosed, MustSinceClosed, Value, True, MustBe, False, Lit, is_up, lit, value_of, Holds, full_value, HoldsFully, opened, level_of, entry_on, back_to, first_level, all_at_0, chosen_with, chosen}
use Rattle.search_values.specs.Nogoods.{Nogood, IsStruck, Gives}
use Rattle.search_values.specs.Instances.{Rules}
use Rattle.search_values.specs.Tables.{once}
use Rattle.search_values.specs.Ids.{Named}
use Rattle.journal_theory.specs.States.{State, IsName, truth, Agrees, IsOpen, IsSound}
use Rattle.search_values.specs.Values.{decision}
use Rattle.search_values.proofs.Basics.{and_left, and_right, and_intro, bool_cases, nat_eq-same, nat_eq-true, value_cases}
use Rattle.journal_theory.proofs.Meaning.{OfAtom, truth_means, Known, known_grows, Later, SameSets, AllKnown, agrees_earlier}

-- each open set that agrees with what is chosen has only atoms that are true
abbrev pub Complete : {N A K : Type 0} → Rules N A K → State N A K → List Entry → Type 0
Complete {A} core s stack =
    (c : A → Bool) → IsOpen core s c → Agrees s c (chosen stack) → (a : A) → c a ≡ true → (x : ℕ) × IsName s x a × (value_of stack x ≡ Some True)

-- each open set that agrees with what is chosen agrees with the newest entry
abbrev pub Follows : {N A K : Type 0} → Rules N A K → State N A K → Entry → List Entry → Type 0
Follows {A} core s e rest = (c : A → Bool) → IsOpen core s c → Agrees s c (chosen (e ∷ rest)) → truth s c e.atom ≡ is_up e.value

-- what is known of an entry: its atom had no value or was must-be-true, means something, its value follows, below a closed entry the true atoms are
-- all, a decision isn't must-be-true, and a closed atom is false
pub record GoodEntry {N A K : Type 0} (core : Rules N A K) (s : State N A K) (e : Entry) (rest : List Entry) : Type 0 where
  pub may_push : (value_of rest e.atom ≡ None) ⊎ ((value_of rest e.atom ≡ Some MustBe) × (e.value ≡ True))
  pub known : Known s e.atom
  pub follows : Follows core s e rest
  pub full : (reason : Option ℕ) → e.why ≡ Closed reason → Complete core s rest
  pub decided : e.why ≡ Chosen → ¬ (e.value ≡ MustBe)
  pub closed_down : (reason : Option ℕ) → e.why ≡ Closed reason → e.value ≡ False

-- each entry of the stack is good
abbrev pub Good : {N A K : Type 0} → Rules N A K → State N A K → List Entry → Type 0
Good core s [] = Unit {0}
Good core s (e ∷ rest) = GoodEntry core s e rest × Good core s rest

-- an entry keeps the literals chosen
pub chosen_with-more : (w : Why) (v : Option Value) (k : Lit) (ls : List Lit) (l : Lit) → l ∈ ls → l ∈ chosen_with w v k ls
chosen_with-more (Given n) v k ls l h = h
chosen_with-more Chosen None k ls l h = inr h
chosen_with-more Chosen (Some v) k ls l h = h
chosen_with-more (Closed reason) v k ls l h = h

-- a literal chosen is that of the entry, or was chosen before
pub chosen_with-cases : (w : Why) (v : Option Value) (k : Lit) (ls : List Lit) (l : Lit) → l ∈ chosen_with w v k ls → (l ≡ k) ⊎ (l ∈ ls)
chosen_with-cases (Given n) v k ls l h = inr h
chosen_with-cases Chosen None k ls l h = h
chosen_with-cases Chosen (Some v) k ls l h = inr h
chosen_with-cases (Closed reason) v k ls l h = inr h

module _ {N A K : Type 0} (core : Rules N A K) (s : State N A K) where
  agrees_below : (c : A → Bool) (e : Entry) (rest : List Entry) → Agrees s c (chosen (e ∷ rest)) → Agrees s c (chosen rest)
  agrees_below c e rest h l i = h l (chosen_with-more e.why (value_of rest e.atom) (lit e.atom (is_up e.value)) (chosen rest) l i)

  -- an open set that agrees with what is chosen agrees with the whole stack
  pub agrees_all : (stack : List Entry) → Good core s stack → (c : A → Bool) → IsOpen core s c → Agrees s c (chosen stack) → (a : ℕ) (v : Value) → value_of stack a ≡ Some v → truth s c a ≡ is_up v
  agrees_all [] g c o h a v e = cc
  agrees_all (t ∷ rest) g c o h a v e = elim (value_cases t rest a) [
    | inl k ↦ (let f = g.0.follows c o h in let w : Some v ≡ Some t.value = sym e ∙ k.1 in let b : v ≡ t.value = cc in ap (truth s c) (sym k.0) ∙ f ∙ ap is_up (sym b))
    | inr k ↦ agrees_all rest g.1 c o (agrees_below c t rest h) a v (sym k.1 ∙ e)
  ]

  -- an open set that agrees with what is chosen makes true each literal that holds
  pub agrees_holds : (stack : List Entry) → Good core s stack → (c : A → Bool) → IsOpen core s c → Agrees s c (chosen stack) → (l : Lit) → Holds stack l → truth s c l.atom ≡ l.positive
  agrees_holds stack g c o h l k = agrees_all stack g c o h l.atom k.0 k.1 ∙ k.2

  fully : (stack : List Entry) (l : Lit) → HoldsFully stack l → Holds stack l
  fully stack l h = (full_value l.positive, h, go l.positive)
    where
      go : (b : Bool) → is_up (full_value b) ≡ b
      go true = refl
      go false = refl

  -- a struck nogood that is sound leaves no open set
  pub struck_blocks : (stack : List Entry) → Good core s stack → (ng : Nogood) → IsSound core s ng.lits → IsStruck stack ng → (c : A → Bool) → IsOpen core s c → Agrees s c (chosen stack) → ⊥
  struck_blocks stack g ng sound struck c o h = sound c o (λ l i. agrees_holds stack g c o h l (struck l i))

  -- all literals but one hold, so the one is false in an open set
  left_false : (stack : List Entry) → Good core s stack → (ng : Nogood) (left : Lit) → IsSound core s ng.lits → ((l : Lit) → l ∈ ng.lits → (l ≡ left) ⊎ Holds stack l)
      → (c : A → Bool) → IsOpen core s c → Agrees s c (chosen stack) → truth s c left.atom ≡ left.positive → ⊥
  left_false stack g ng left sound others c o h t = sound c o (λ l i. elim (others l i) [
    | inl e ↦ (ap (λ (k : Lit). truth s c k.atom) e ∙ t ∙ ap (λ (k : Lit). k.positive) (sym e))
    | inr k ↦ agrees_holds stack g c o h l k
  ])

  -- a value that a sound unit nogood gives follows
  pub put_follows : (stack : List Entry) → Good core s stack → (ng : Nogood) → IsSound core s ng.lits → (a : ℕ) (v : Value) (n : ℕ) → Gives stack ng a v
      → Follows core s (entry_on stack a v (Given n)) stack
  put_follows stack g ng sound a True n r c o h = elim (bool_cases (truth s c a)) [
    | inl t ↦ t
    | inr f ↦ absurd (left_false stack g ng (lit a false) sound (λ l i. elim (r.others l i) [ inl e ↦ inl e | inr k ↦ inr (fully stack l k) ]) c o h f)
  ]
  put_follows stack g ng sound a MustBe n r c o h = elim (bool_cases (truth s c a)) [
    | inl t ↦ t
    | inr f ↦ absurd (left_false stack g ng (lit a false) sound r.0.others c o h f)
  ]
  put_follows stack g ng sound a False n r c o h = elim (bool_cases (truth s c a)) [
    | inl t ↦ absurd (left_false stack g ng (lit a true) sound r.others c o h t)
    | inr f ↦ f
  ]

  -- a chosen literal follows, since it is chosen; a body that must be true follows from what is below
  pub choose_follows : (stack : List Entry) → Good core s stack → (b : ℕ) (up : Bool)
      → ((value_of stack b ≡ None) ⊎ ((value_of stack b ≡ Some MustBe) × (up ≡ true)))
      → Follows core s (entry_on stack b (decision up) Chosen) stack
  choose_follows stack g b up (inl free) c o h =
      h (lit b (is_up (decision up))) (go (value_of stack b) free)
    where
      go : (v : Option Value) → v ≡ None → ((lit b (is_up (decision up))) ∈ (chosen_with Chosen v (lit b (is_up (decision up))) (chosen stack)))
      go None e = inl refl
      go (Some v) e = cc
  choose_follows stack g b up (inr must) c o h =
      agrees_all stack g c o (agrees_below c (entry_on stack b (decision up) Chosen) stack h) b MustBe must.0
      ∙ ap (λ (u : Bool). is_up (decision u)) (sym must.1)

  -- a guess that an atom is false is right where the true atoms are all that a set can have
  pub close_follows : (stack : List Entry) → Complete core s stack → ((x y : ℕ) (a : A) → IsName s x a → IsName s y a → x ≡ y)
      → (x : ℕ) (a : A) → IsName s x a → value_of stack x ≡ None
      → Follows core s (entry_on stack x False (Closed None)) stack
  close_follows stack full once x a named free c o h = elim (bool_cases (c a)) [
    | inl t ↦ (let f = full c o h a t in let e : f.0 ≡ x = once f.0 x a f.1 named in let w = f.2 in absurd (none_some stack x (f.0) e free f.2))
    | inr f ↦ (known_name x a named c ∙ f)
  ]
    where
      none_some : (stack : List Entry) (x y : ℕ) → y ≡ x → value_of stack x ≡ None → value_of stack y ≡ Some True → ⊥
      none_some stack x y e p q = let w : value_of stack x ≡ Some True = subst (λ z. value_of stack z ≡ Some True) e q in cc

      known_name : (x : ℕ) (a : A) → IsName s x a → (c : A → Bool) → truth s c x ≡ c a
      known_name x a n c = truth_means s c x (OfAtom a) n

  good_pick : (b : Bool) (stack other : List Entry) → Good core s stack → Good core s other → Good core s (cond b stack other)
  good_pick true stack other g h = g
  good_pick false stack other g h = h

  -- a stack from which levels are taken away is good
  pub good_back : (l : ℕ) (stack : List Entry) → Good core s stack → Good core s (back_to l stack)
  good_back l [] g = tt
  good_back l (e ∷ rest) g = good_pick (nat_le (level_of rest + opened e.why) l) (e ∷ rest) (back_to l rest) g (good_back l rest g.1)

  -- what stays true stays so as the stack grows
  pub true_stays : (e : Entry) (rest : List Entry) → GoodEntry core s e rest → (x : ℕ) → value_of rest x ≡ Some True → value_of (e ∷ rest) x ≡ Some True
  true_stays e rest g x h = elim (value_cases e rest x) [
    | inl k ↦ elim g.may_push [
      | inl n ↦ (let w : value_of rest x ≡ None = subst (λ z. value_of rest z ≡ None) k.0 n in cc)
      | inr m ↦ (let w : value_of rest x ≡ Some MustBe = subst (λ z. value_of rest z ≡ Some MustBe) k.0 m.0 in cc)
    ]
    | inr k ↦ (k.1 ∙ h)
  ]

  -- where the true atoms are all, they are so with one more entry
  pub complete_more : (e : Entry) (rest : List Entry) → GoodEntry core s e rest → Complete core s rest → Complete core s (e ∷ rest)
  complete_more e rest g full c o h a t =
      let f = full c o (agrees_below c e rest h) a t in
      (f.0, f.1, true_stays e rest g f.0 f.2)

  -- above a closed entry the true atoms are all that an open set can have
  pub closed_complete : (stack : List Entry) → Good core s stack → (e : Entry) → e ∈ stack → (reason : Option ℕ) → e.why ≡ Closed reason → Complete core s stack
  closed_complete [] g e i reason w = absurd i
  closed_complete (t ∷ rest) g e (inl same) reason w = complete_more t rest g.0 (g.0.full reason (ap (λ (k : Entry). k.why) (sym same) ∙ w))
  closed_complete (t ∷ rest) g e (inr i) reason w = complete_more t rest g.0 (closed_complete rest g.1 e i reason w)

  -- the atoms of the literals chosen mean something
  pub chosen_known : (stack : List Entry) → Good core s stack → AllKnown s (chosen stack)
  chosen_known [] g l i = absurd i
  chosen_known (e ∷ rest) g l i = elim (chosen_with-cases e.why (value_of rest e.atom) (lit e.atom (is_up e.value)) (chosen rest) l i) [
    | inl k ↦ (let f : lit e.atom (is_up e.value) ≡ l = sym k in subst (λ (z : Lit). Known s z.atom) f g.0.known)
    | inr k ↦ chosen_known rest g.1 l k
  ]

-- the stack stays good as the journal grows
pub good_later : {N A K : Type 0} (core : Rules N A K) (s s' : State N A K) (later : Later core s s') (stack : List Entry)
    → (SameSets core s s' later ⊎ ((e : Entry) → e ∈ stack → (reason : Option ℕ) → ¬ (e.why ≡ Closed reason)))
    → Good core s stack → Good core s' stack
good_later core s s' later [] same g = tt
good_later core s s' later (e ∷ rest) same g = (
  record {
    may_push = g.0.may_push;
    known = known_grows s s' later.grows e.atom g.0.known;
    follows = λ c o h. let r = later.earlier c o in
        sym (r.2 e.atom g.0.known)
        ∙ g.0.follows r.0 r.1 (agrees_earlier s s' c r.0 r.2 (chosen (e ∷ rest)) (chosen_known core s (e ∷ rest) g) h);
    full = λ reason w c o h a t. elim same [
      | inl keeps ↦ (let r = later.earlier c o in
          let f = g.0.full reason w r.0 r.1 (agrees_earlier s s' c r.0 r.2 (chosen rest) (chosen_known core s rest g.1) h) a (keeps c o a t) in
          (f.0, later.grows.names f.0 (Named a) f.1, f.2))
      | inr none ↦ absurd (none e (inl refl) reason w)
    ];
    decided = g.0.decided;
    closed_down = g.0.closed_down;
  },
  good_later core s s' later rest (elim same [ inl k ↦ inl k | inr none ↦ inr (λ d i reason w. none d (inr i) reason w) ]) g.1,
)

-- levels

level_zero : (m n : ℕ) → m + n ≡ 0 → (m ≡ 0) × (n ≡ 0)
level_zero m n h = (omega arith, omega arith)

-- nothing is chosen at level 0
pub chosen_at_0 : (stack : List Entry) → level_of stack ≡ 0 → chosen stack ≡ []
chosen_at_0 [] h = refl
chosen_at_0 (e ∷ rest) h =
    let z = level_zero (level_of rest) (opened e.why) h in
    go e.why (value_of rest e.atom) (lit e.atom (is_up e.value)) (chosen rest) z.1 ∙ chosen_at_0 rest z.0
  where
    go : (w : Why) (v : Option Value) (k : Lit) (ls : List Lit) → opened w ≡ 0 → chosen_with w v k ls ≡ ls
    go (Given n) v k ls e = refl
    go Chosen v k ls e = cc
    go (Closed reason) v k ls e = cc

level_pick : (b : Bool) (l : ℕ) (stack other : List Entry) → (b ≡ true → level_of stack ≤ l) → level_of other ≤ l → level_of (cond b stack other) ≤ l
level_pick true l stack other g h = g refl
level_pick false l stack other g h = h

nat_le-true : (a b : ℕ) → nat_le a b ≡ true → a ≤ b
nat_le-true a b h = grind arith

-- going back leaves at most so many levels
pub level_back : (l : ℕ) (stack : List Entry) → level_of (back_to l stack) ≤ l
level_back l [] = omega arith
level_back l (e ∷ rest) = level_pick (nat_le (level_of rest + opened e.why) l) l (e ∷ rest) (back_to l rest) (nat_le-true _ l) (level_back l rest)

-- a nogood that is struck by the entries of level 0 and sound leaves no open set
pub struck_at_0_blocks : {N A K : Type 0} (core : Rules N A K) (s : State N A K) (stack : List Entry) → Good core s stack
    → (ng : Nogood) → IsSound core s ng.lits → IsStruck (back_to 0 stack) ng → (c : A → Bool) → IsOpen core s c → ⊥
struck_at_0_blocks core s stack g ng sound struck c o =
    let low : level_of (back_to 0 stack) ≤ 0 = level_back 0 stack in
    let none : chosen (back_to 0 stack) ≡ [] = chosen_at_0 (back_to 0 stack) (omega arith) in
    struck_blocks core s (back_to 0 stack) (good_back core s 0 stack g) ng sound struck c o (rw none (λ l i. absurd i))

-- ---- literals that stand at level 0 by the first values of their atoms

-- the atom has a value here on the same side
abbrev pub SameSide : List Entry → ℕ → Value → Type 0
SameSide stack a v = (w : Value) × (value_of stack a ≡ Some w) × (is_up w ≡ is_up v)

-- an atom that was raised from must-be-true to true was up before
raised : (o : Option Value) (v w : Value) → o ≡ Some w → (o ≡ None) ⊎ ((o ≡ Some MustBe) × (v ≡ True)) → is_up w ≡ is_up v
raised o v w e (inl n) = cc
raised o v w e (inr (m, t)) = let f : w ≡ MustBe = cc in ap is_up f ∙ sym (ap is_up t)

first_step : {N A K : Type 0} (core : Rules N A K) (s : State N A K) (e : Entry) (rest : List Entry) → GoodEntry core s e rest → (l : ℕ) (a : ℕ) (v : Value)
    → value_of (e ∷ rest) a ≡ Some v
    → ((w : Value) → value_of rest a ≡ Some w → first_level rest a ≤ l → SameSide (back_to l rest) a w)
    → ¬ (level_of (e ∷ rest) ≤ l)
    → first_level (e ∷ rest) a ≤ l
    → SameSide (back_to l rest) a v
first_step core s e rest g l a v val ih high low = go (value_of rest a) refl
  where
    go : (o : Option Value) → value_of rest a ≡ o → SameSide (back_to l rest) a v
    go None n = elim (value_cases e rest a) [
      | inl k ↦ (
          let t : nat_eq e.atom a ≡ true = subst (λ z. nat_eq e.atom z ≡ true) k.0 (nat_eq-same e.atom) in
          let b : (nat_eq e.atom a && is_none (value_of rest a)) ≡ true = and_intro (nat_eq e.atom a) (is_none (value_of rest a)) t (ap is_none n) in
          let f : first_level (e ∷ rest) a ≡ level_of (e ∷ rest) = ap (λ z. cond z (level_of rest + opened e.why) (first_level rest a)) b in
          absurd (high (subst (λ z. z ≤ l) f low)))
      | inr k ↦ (let w : Some v ≡ None = sym val ∙ k.1 ∙ n in cc)
    ]
    go (Some w) n =
        let b : (nat_eq e.atom a && is_none (value_of rest a)) ≡ false = and_right_false (nat_eq e.atom a) (is_none (value_of rest a)) (ap is_none n) in
        let f : first_level (e ∷ rest) a ≡ first_level rest a = ap (λ z. cond z (level_of rest + opened e.why) (first_level rest a)) b in
        let r = ih w n (subst (λ z. z ≤ l) f low) in
        (r.0, r.1, r.2 ∙ side)
      where
        and_right_false : (p q : Bool) → q ≡ false → (p && q) ≡ false
        and_right_false true q h = h
        and_right_false false q h = refl

        side : is_up w ≡ is_up v
        side = elim (value_cases e rest a) [
          | inl k ↦ (let same : value_of rest e.atom ≡ Some w = ap (value_of rest) k.0 ∙ n in
              let x : Some v ≡ Some e.value = sym val ∙ k.1 in let y : v ≡ e.value = cc in
              raised (value_of rest e.atom) e.value w same g.may_push ∙ ap is_up (sym y))
          | inr k ↦ (let x : Some w ≡ Some v = sym n ∙ sym k.1 ∙ val in let y : w ≡ v = cc in ap is_up y)
        ]

-- an atom whose first value stands at this level or below has a value there, and is up there where it is up now
pub at_level : {N A K : Type 0} (core : Rules N A K) (s : State N A K) (l : ℕ) (stack : List Entry) → Good core s stack → (a : ℕ) (v : Value)
    → value_of stack a ≡ Some v → first_level stack a ≤ l → SameSide (back_to l stack) a v
at_level core s l [] g a v e low = cc
at_level core s l (e ∷ rest) g a v val low = go (at_level core s l rest g.1 a) (nat_le (level_of rest + opened e.why) l) refl
  where
    not_so : (n : ℕ) → nat_le n l ≡ false → ¬ (n ≤ l)
    not_so n h z = grind arith

    go : ((w : Value) → value_of rest a ≡ Some w → first_level rest a ≤ l → SameSide (back_to l rest) a w)
        → (b : Bool) → nat_le (level_of rest + opened e.why) l ≡ b → SameSide (cond b (e ∷ rest) (back_to l rest)) a v
    go below true h = (v, val, refl)
    go below false h = first_step core s e rest g.0 l a v val below (not_so (level_of (e ∷ rest)) h) low

-- literals that hold, and all stand at level 0, hold where the levels above it are taken away
pub all_at_0-hold : {N A K : Type 0} (core : Rules N A K) (s : State N A K) (stack : List Entry) → Good core s stack → (ls : List Lit)
    → ((l : Lit) → l ∈ ls → Holds stack l) → all_at_0 stack ls ≡ true → (l : Lit) → l ∈ ls → Holds (back_to 0 stack) l
all_at_0-hold core s stack g [] holds all l i = absurd i
all_at_0-hold core s stack g (k ∷ ls) holds all l (inl e) =
    let h = holds k (inl refl) in
    let z : first_level stack k.atom ≡ 0 = nat_eq-true (first_level stack k.atom) 0 (and_left (nat_eq (first_level stack k.atom) 0) (all_at_0 stack ls) all) in
    let r = at_level core s 0 stack g k.atom h.0 h.1 (omega (z, arith)) in
    subst (λ (x : Lit). Holds (back_to 0 stack) x) (sym e) (r.0, r.1, r.2 ∙ h.2)
all_at_0-hold core s stack g (k ∷ ls) holds all l (inr i) =
    all_at_0-hold core s stack g ls (λ m j. holds m (inr j)) (and_right (nat_eq (first_level stack k.atom) 0) (all_at_0 stack ls) all) l i

-- where an atom is must-be-true since a Closed, there is one on the stack
pub since_closed : (stack : List Entry) (x : ℕ) → MustSinceClosed stack x → HasClosed stack
since_closed [] x h = absurd h
since_closed (e ∷ rest) x (inl h) = let c = h.2 in (c.0, inr c.1, c.2)
since_closed (e ∷ rest) x (inr h) = let c = since_closed rest x h.1 in (c.0, inr c.1, c.2)

-- an atom with a value means something
pub value_known : {N A K : Type 0} (core : Rules N A K) (s : State N A K) (stack : List Entry) → Good core s stack → (x : ℕ) (v : Value) → value_of stack x ≡ Some v → Known s x
value_known core s [] g x v h = cc
value_known core s (e ∷ rest) g x v h = elim (value_cases e rest x) [
  | inl k ↦ subst (λ z. Known s z) k.0 g.0.known
  | inr k ↦ value_known core s rest g.1 x v (sym k.1 ∙ h)
]
