-- What an id means, which stays as the state grows.
use Rattle.std.proofs.Common.{◌≡◌, ℕ, Bool, true, List, [], ◌∷◌, refl, sym, ◌∙◌, ap}
use Rattle.std.specs.Prelude.{Some, slice_get}
use Rattle.lists.specs.Lists.{◌∈◌}
use Rattle.search_values.specs.Values.{Lit}
use Rattle.search_values.specs.Instances.{Kind, Plain, Choice, Constraint, Instance, all_in, none_in, body_holds, head_taken, body_true, Rules}
use Rattle.search_values.specs.Tables.{Made}
use Rattle.search_values.specs.Ids.{AtomNode, Named, BodyOf, named_in, named_true, made_true, node_true, Names, KindNames, Denotes}
use Rattle.journal_theory.specs.States.{State, IsName, truth, Agrees, IsOpen, IsSound}

pub data Meaning (A : Type 0) : Type 0 where
  OfAtom : A → Meaning A
  OfBody : Instance A → Meaning A

-- whether what an id means is true in the set
abbrev pub meaning_true : {A : Type 0} → (A → Bool) → Meaning A → Bool
meaning_true c (OfAtom a) = c a
meaning_true c (OfBody i) = body_true c i

-- the id is that of the body of this instance
pub record IsBody {N A K : Type 0} (s : State N A K) (x : ℕ) (i : Instance A) : Type 0 where
  pub number : ℕ
  pub made : Made K
  pub node : slice_get s.names x ≡ Some (BodyOf number)
  pub is_made : slice_get s.made number ≡ Some made
  pub denotes : Denotes s.names made.inst i

-- the id means this
abbrev pub Means : {N A K : Type 0} → State N A K → ℕ → Meaning A → Type 0
Means s x (OfAtom a) = IsName s x a
Means s x (OfBody i) = IsBody s x i

-- ids are all in a set as their atoms are
pub names_all_in : {A : Type 0} (names : List (AtomNode A)) (c : A → Bool) (xs : List ℕ) (atoms : List A) → Names names xs atoms → all_in (named_true names c) xs ≡ all_in c atoms
names_all_in names c [] [] h = refl
names_all_in names c [] (a ∷ atoms) h = absurd h
names_all_in names c (x ∷ xs) [] h = absurd h
names_all_in names c (x ∷ xs) (a ∷ atoms) h =
    let e : named_true names c x ≡ c a = ap (named_in c) h.0 in
    let r = names_all_in names c xs atoms h.1 in
    cc

-- ids are none of a set as their atoms are
pub names_none_in : {A : Type 0} (names : List (AtomNode A)) (c : A → Bool) (xs : List ℕ) (atoms : List A) → Names names xs atoms → none_in (named_true names c) xs ≡ none_in c atoms
names_none_in names c [] [] h = refl
names_none_in names c [] (a ∷ atoms) h = absurd h
names_none_in names c (x ∷ xs) [] h = absurd h
names_none_in names c (x ∷ xs) (a ∷ atoms) h =
    let e : named_true names c x ≡ c a = ap (named_in c) h.0 in
    let r = names_none_in names c xs atoms h.1 in
    cc

-- the head over ids is taken as that over atoms
pub kind_head_taken : {A : Type 0} (names : List (AtomNode A)) (c : A → Bool) (k : Kind ℕ) (i : Kind A) → KindNames names k i → head_taken (named_true names c) k ≡ head_taken c i
kind_head_taken names c (Plain x) (Plain a) h = refl
kind_head_taken names c (Choice x) (Choice a) h = ap (named_in c) h
kind_head_taken names c Constraint Constraint h = refl
kind_head_taken names c (Plain x) (Choice a) h = absurd h
kind_head_taken names c (Plain x) Constraint h = absurd h
kind_head_taken names c (Choice x) (Plain a) h = absurd h
kind_head_taken names c (Choice x) Constraint h = absurd h
kind_head_taken names c Constraint (Plain a) h = absurd h
kind_head_taken names c Constraint (Choice a) h = absurd h

-- the body over ids holds as that over atoms
pub denotes_holds : {A : Type 0} (names : List (AtomNode A)) (c : A → Bool) (k : Instance ℕ) (i : Instance A) → Denotes names k i → body_holds (named_true names c) k ≡ body_holds c i
denotes_holds names c k i d =
    let p = names_all_in names c k.pos i.pos d.pos in
    let n = names_none_in names c k.neg i.neg d.neg in
    cc

-- the body atom over ids is true as that over atoms
pub denotes_true : {A : Type 0} (names : List (AtomNode A)) (c : A → Bool) (k : Instance ℕ) (i : Instance A) → Denotes names k i → body_true (named_true names c) k ≡ body_true c i
denotes_true names c k i d =
    let p = denotes_holds names c k i d in
    let h = kind_head_taken names c k.kind i.kind d.kind in
    cc

-- an id is as true in a set as what it means
pub truth_means : {N A K : Type 0} (s : State N A K) (c : A → Bool) (x : ℕ) (m : Meaning A) → Means s x m → truth s c x ≡ meaning_true c m
truth_means s c x (OfAtom a) h = ap (node_true (named_true s.names c) s.made c) h
truth_means s c x (OfBody i) h =
    ap (node_true (named_true s.names c) s.made c) h.node
    ∙ ap (made_true (named_true s.names c)) h.is_made
    ∙ denotes_true s.names c h.made.inst i h.denotes

-- names and instances stay
pub record Grows {N A K : Type 0} (s s' : State N A K) : Type 0 where
  pub names : (x : ℕ) (n : AtomNode A) → slice_get s.names x ≡ Some n → slice_get s'.names x ≡ Some n
  pub made : (j : ℕ) (k : Made K) → slice_get s.made j ≡ Some k → slice_get s'.made j ≡ Some k

-- ids go on to name their atoms
pub names_grows : {N A K : Type 0} (s s' : State N A K) → Grows s s' → (xs : List ℕ) (atoms : List A) → Names s.names xs atoms → Names s'.names xs atoms
names_grows s s' g [] [] h = tt
names_grows s s' g [] (a ∷ atoms) h = absurd h
names_grows s s' g (x ∷ xs) [] h = absurd h
names_grows s s' g (x ∷ xs) (a ∷ atoms) h = (g.names x (Named a) h.0, names_grows s s' g xs atoms h.1)

-- a kind goes on to be the one over atoms
pub kind_grows : {N A K : Type 0} (s s' : State N A K) → Grows s s' → (k : Kind ℕ) (i : Kind A) → KindNames s.names k i → KindNames s'.names k i
kind_grows s s' g (Plain x) (Plain a) h = g.names x (Named a) h
kind_grows s s' g (Choice x) (Choice a) h = g.names x (Named a) h
kind_grows s s' g Constraint Constraint h = tt
kind_grows s s' g (Plain x) (Choice a) h = absurd h
kind_grows s s' g (Plain x) Constraint h = absurd h
kind_grows s s' g (Choice x) (Plain a) h = absurd h
kind_grows s s' g (Choice x) Constraint h = absurd h
kind_grows s s' g Constraint (Plain a) h = absurd h
kind_grows s s' g Constraint (Choice a) h = absurd h

-- an instance goes on to be the one over atoms
pub denotes_grows : {N A K : Type 0} (s s' : State N A K) → Grows s s' → (k : Instance ℕ) (i : Instance A) → Denotes s.names k i → Denotes s'.names k i
denotes_grows s s' g k i d = record {
  kind = kind_grows s s' g k.kind i.kind d.kind;
  pos = names_grows s s' g k.pos i.pos d.pos;
  neg = names_grows s s' g k.neg i.neg d.neg;
}

-- an id goes on to mean what it meant
pub means_grows : {N A K : Type 0} (s s' : State N A K) → Grows s s' → (x : ℕ) (m : Meaning A) → Means s x m → Means s' x m
means_grows s s' g x (OfAtom a) h = g.names x (Named a) h
means_grows s s' g x (OfBody i) h = record {
  number = h.number;
  made = h.made;
  node = g.names x (BodyOf h.number) h.node;
  is_made = g.made h.number h.made h.is_made;
  denotes = denotes_grows s s' g h.made.inst i h.denotes;
}

-- the id means something
abbrev pub Known : {N A K : Type 0} → State N A K → ℕ → Type 0
Known {A} s x = (m : Meaning A) × Means s x m

-- an id that means something goes on to
pub known_grows : {N A K : Type 0} (s s' : State N A K) → Grows s s' → (x : ℕ) → Known s x → Known s' x
known_grows s s' g x h = (h.0, means_grows s s' g x h.0 h.1)

-- an id that means something is as true later as before
pub truth_grows : {N A K : Type 0} (s s' : State N A K) → Grows s s' → (c : A → Bool) (x : ℕ) → Known s x → truth s' c x ≡ truth s c x
truth_grows s s' g c x h = truth_means s' c x h.0 (means_grows s s' g x h.0 h.1) ∙ sym (truth_means s c x h.0 h.1)

-- a state that has grown: each set that is open was open before, but for atoms that no id named
pub record Later {N A K : Type 0} (core : Rules N A K) (s s' : State N A K) : Type 0 where
  pub grows : Grows s s'
  pub earlier : (c : A → Bool) → IsOpen core s' c → (c1 : A → Bool) × IsOpen core s c1 × ((x : ℕ) → Known s x → truth s c1 x ≡ truth s' c x)

-- the open sets are the same
abbrev pub SameSets : {N A K : Type 0} (core : Rules N A K) (s s' : State N A K) → Later core s s' → Type 0
SameSets {N} {A} core s s' later = (c : A → Bool) (o : IsOpen core s' c) (a : A) → c a ≡ true → (later.earlier c o).0 a ≡ true

-- the atom of each literal means something
abbrev pub AllKnown : {N A K : Type 0} → State N A K → List Lit → Type 0
AllKnown s ls = (l : Lit) → l ∈ ls → Known s l.atom

-- a set agrees later as the earlier one did
pub agrees_earlier : {N A K : Type 0} (s s' : State N A K) (c c1 : A → Bool) → ((x : ℕ) → Known s x → truth s c1 x ≡ truth s' c x) → (ls : List Lit) → AllKnown s ls → Agrees s' c ls → Agrees s c1 ls
agrees_earlier s s' c c1 t ls k h l i = t l.atom (k l i) ∙ h l i

-- soundness stays as the journal grows
pub sound_later : {N A K : Type 0} (core : Rules N A K) (s s' : State N A K) → Later core s s' → (ls : List Lit) → AllKnown s ls → IsSound core s ls → IsSound core s' ls
sound_later core s s' later ls k h c o a = let r = later.earlier c o in h r.0 r.1 (agrees_earlier s s' c r.0 r.2 ls k a)
