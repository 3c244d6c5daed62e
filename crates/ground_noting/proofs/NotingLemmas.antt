-- Notes of a ground, one part after another, and what they keep.
use Rattle.std.proofs.Common.{◌≡◌, ℕ, zero, suc, ◌+◌, ◌<◌, ◌≤◌, ◌⊎◌, List, [], ◌∷◌, ◌++◌, length, refl, sym, ◌∙◌, ap, subst, inl, inr, arith, append_assoc}
use Rattle.std.specs.Prelude.{Option, Some, None, option_map, slice_get, Result, Ok, IfOk, All}
use Rattle.std.proofs.lemmas.List.{append-nil}
use Rattle.std.proofs.lemmas.List.Elements.{All-head, All-tail}
use Rattle.std.proofs.lemmas.Option.{slice_get_within}
use Rattle.lists.specs.Lists.{Each}
use Rattle.alpha_outside.specs.Outside.{Journal, with_event}
use Rattle.alpha_outside.specs.declared.event.Event.{Event}
use Rattle.alpha_outside.specs.declared.event.Event.TheVariants as say
use Rattle.alpha_outside.specs.declared.maker.Maker.{Maker}
use Rattle.alpha_outside.specs.declared.node.Node.{Node}
use Rattle.alpha_outside.specs.declared.pred.Pred.{Pred}
use Rattle.nogood_store.proofs.Weighing.{same_or_not}
use Rattle.propagation.proofs.Running.{tells_none, tells_on}
use Rattle.atom_pool.specs.declared.atom.AtomNode.{AtomNode}
use Rattle.atom_pool.specs.declared.atom.AtomNode.TheVariants as node
use Rattle.atom_pool.specs.declared.ground.Ground.{Ground}
use Rattle.atom_pool.specs.declared.instances.Made.{Made}
use Rattle.atom_pool.specs.Pools.{Fits}
use Rattle.ground_noting.specs.declared.telling.Told.{Told}
use Rattle.ground_noting.specs.Instances.{IsWithin, HasTermsBelow}
use Rattle.ground_noting.specs.Notings.{IsBodyOf, IsNotable, IsTold, BodyIsNext, Notes, Nothing, NextTerm, NextAtom, NextBody, NextMade, Noted}

-- ---- one part after another

-- events that note one part, and then those that note the next
pub notes_on : (g : Ground) (a b c : Told) (es fs : List Event) → Notes g a es b → Notes g b fs c → Notes g a (es ++ fs) c
notes_on g a b _ es _ p Nothing = subst (λ (l : List Event). Notes g a l b) (sym (append-nil es)) p
notes_on g a b _ es _ p (NextTerm fs u q n at) =
    subst (λ (l : List Event). Notes g a l (record u { terms = u.terms + 1 })) (append_assoc es fs (say.Term u.terms n ∷ []))
    (NextTerm (es ++ fs) u (notes_on g a b u es fs p q) n at)
notes_on g a b _ es _ p (NextAtom fs u q i args pred at there low) =
    subst (λ (l : List Event). Notes g a l (record u { atoms = u.atoms + 1 })) (append_assoc es fs (say.Atom u.atoms pred args ∷ []))
    (NextAtom (es ++ fs) u (notes_on g a b u es fs p q) i args pred at there low)
notes_on g a b _ es _ p (NextBody fs u q at none) =
    subst (λ (l : List Event). Notes g a l (record u { atoms = u.atoms + 1 })) (append_assoc es fs (say.Body u.atoms u.instances ∷ []))
    (NextBody (es ++ fs) u (notes_on g a b u es fs p q) at none)
notes_on g a b _ es _ p (NextMade fs u q k at within low next) =
    subst (λ (l : List Event). Notes g a l (record u { instances = u.instances + 1 }))
    (append_assoc es fs (say.Made u.instances k.maker ∷ []))
    (NextMade (es ++ fs) u (notes_on g a b u es fs p q) k at within low next)

-- nothing was noted
pub noted_none : (g : Ground) (u : Told) (told told' : Option Journal) → told' ≡ told → Noted g u u told told'
noted_none g u told told' e = record { events = []; notes = Nothing; tells = e ∙ tells_none told }

-- one event was noted
pub noted_one : {E : Type 0} (g : Ground) (u u' : Told) (told told' : Option Journal) (r : Result Event E)
    → IfOk r (λ e. Notes g u (e ∷ []) u')
    → ((e : Event) × (r ≡ Ok e) × (told' ≡ option_map (with_event e) told)) → Noted g u u' told told'
noted_one {E} g u u' told told' r notes t = record {
  events = t.0 ∷ [];
  notes = subst (λ (z : Result Event E). IfOk z (λ e. Notes g u (e ∷ []) u')) t.1 notes;
  tells = t.2;
}

-- two parts were noted
pub noted_on : (g : Ground) (a b c : Told) (x y z : Option Journal) → Noted g a b x y → Noted g b c y z → Noted g a c x z
noted_on g a b c x y z p q = record {
  events = p.events ++ q.events;
  notes = notes_on g a b c p.events q.events p.notes q.notes;
  tells = tells_on p.events q.events x y z p.tells q.tells;
}

-- ---- the next event

-- the next term
pub next_term : (g : Ground) (u : Told) (n copy : Node) → slice_get g.terms u.terms ≡ Some n → copy ≡ n
    → Notes g u (say.Term u.terms copy ∷ []) (record u { terms = u.terms + 1 })
next_term g u n copy at same = NextTerm [] u Nothing copy (at ∙ ap Some (sym same))

-- what holds of all holds of each
each_of : (P : ℕ → Type 0) (xs : List ℕ) → All P xs → Each P xs
each_of P [] all = tt
each_of P (x ∷ xs) all = (All-head P x xs all, each_of P xs (All-tail P x xs all))

-- the next atom, where all terms were noted
pub next_atom : (g : Ground) (u : Told) (p : ℕ) (args copied : List ℕ) (pred copy : Pred) → IsNotable g → u.terms ≡ length g.terms
    → slice_get g.atoms.atoms u.atoms ≡ Some (node.Named p args)
    → slice_get g.atoms.preds p ≡ Some pred → copy ≡ pred → copied ≡ args
    → Notes g u (say.Atom u.atoms copy copied ∷ []) (record u { atoms = u.atoms + 1 })
next_atom g u p args copied pred copy is all at there same are =
    subst (λ l. Notes g u (say.Atom u.atoms copy l ∷ []) (record u { atoms = u.atoms + 1 })) (sym are)
    (NextAtom [] u Nothing p args copy at (there ∙ ap Some (sym same))
    (subst (λ n. Each (λ t. t < n) args) (sym all) (each_of (λ t. t < length g.terms) args (is.beside u.atoms (node.Named p args) at))))

-- the predicate of an atom is there
pub pred_there : (g : Ground) (p : ℕ) (args : List ℕ) → Fits g.atoms.preds (node.Named p args) → p < length g.atoms.preds
pred_there g p args fits = slice_get_within g.atoms.preds p fits.0 fits.1

-- an instance has one body atom
one_body : (g : Ground) → IsNotable g → (a b i : ℕ) → IsBodyOf g a i → IsBodyOf g b i → a ≡ b
one_body g is a b i p q =
    let k = is.bodies a i p in
    let l = is.bodies b i q in
    let same : Some k.0 ≡ Some l.0 = sym k.1 ∙ l.1 in
    let one : k.0 ≡ l.0 = cc in
    let body : Some a ≡ Some b = sym k.2 ∙ ap (λ (z : Made). z.body) one ∙ l.2 in cc

-- the next atom, where it is the body of the next instance
pub next_body : (g : Ground) (u : Told) → IsNotable g → IsBodyOf g u.atoms u.instances
    → Notes g u (say.Body u.atoms u.instances ∷ []) (record u { atoms = u.atoms + 1 })
next_body g u is at =
    NextBody [] u Nothing at (λ b low here. let same = one_body g is b u.atoms u.instances here at in omega (arith, low, same))

-- the body atom of the next instance was noted
body_is_next : (g : Ground) (u : Told) (k : Made) → IsNotable g → slice_get g.instances u.instances ≡ Some k → IsWithin u.atoms k
    → (body : Option ℕ) → k.body ≡ body → BodyIsNext g u body
body_is_next g u k is at within None e = λ b low here.
    let l = is.bodies b u.instances here in
    let same : Some k ≡ Some l.0 = sym at ∙ l.1 in
    let one : k ≡ l.0 = cc in
    let body : None ≡ Some b = sym e ∙ ap (λ (z : Made). z.body) one ∙ l.2 in cc
body_is_next g u k is at within (Some b) e = (within.body b e, is.has_body u.instances k at b e)

-- the next instance, where all terms were noted
pub next_made : (g : Ground) (u : Told) (k : Made) (copy : Maker) → IsNotable g → u.terms ≡ length g.terms
    → slice_get g.instances u.instances ≡ Some k → IsWithin u.atoms k → copy ≡ k.maker
    → Notes g u (say.Made u.instances copy ∷ []) (record u { instances = u.instances + 1 })
next_made g u k copy is all at within same =
    subst (λ m. Notes g u (say.Made u.instances m ∷ []) (record u { instances = u.instances + 1 })) (sym same)
    (NextMade [] u Nothing k at within (subst (λ n. HasTermsBelow n k.maker) (sym all) (is.makers u.instances k at))
    (body_is_next g u k is at within k.body refl))

-- ---- what was noted goes on to be consistent

-- ids below n are below more
within_more : (n m : ℕ) (k : Made) → n ≤ m → IsWithin n k → IsWithin m k
within_more n m k more w = record {
  head = λ h e. let l = w.head h e in omega (arith, l, more);
  pos = λ a i. let l = w.pos a i in omega (arith, l, more);
  neg = λ a i. let l = w.neg a i in omega (arith, l, more);
  body = λ b e. let l = w.body b e in omega (arith, l, more);
}

-- a number below n + 1 is below n, or n
last_or_before : (i n : ℕ) → i < n + 1 → (i < n) ⊎ (i ≡ n)
last_or_before i n low = elim (same_or_not i n) [
  | inl same ↦ inr same
  | inr other ↦ inl (omega (arith, low, other))
]

-- one atom more was noted, which is the body of no later instance than the next
told_atom : (g : Ground) (u : Told) (x : AtomNode) → slice_get g.atoms.atoms u.atoms ≡ Some x
    → ((i : ℕ) → x ≡ node.Body i → i ≤ u.instances) → IsTold g u → IsTold g (record u { atoms = u.atoms + 1 })
told_atom g u x at next t = record {
  terms = t.terms;
  atoms = let l = slice_get_within g.atoms.atoms u.atoms x at in omega (arith, l);
  instances = t.instances;
  within = λ i k low here. within_more u.atoms (u.atoms + 1) k (omega arith) (t.within i k low here);
  bodies = λ b i low here. elim (last_or_before b u.atoms low) [
    | inl before ↦ t.bodies b i before here
    | inr same ↦ (let e : Some x ≡ Some (node.Body i) = sym at ∙ subst
        (λ n. slice_get g.atoms.atoms n ≡ Some (node.Body i)) same here in next i (cc))
  ];
}

-- one instance more was noted
told_made : (g : Ground) (u : Told) (k : Made) → slice_get g.instances u.instances ≡ Some k → IsWithin u.atoms k → IsTold g u
    → IsTold g (record u { instances = u.instances + 1 })
told_made g u k at within t = record {
  terms = t.terms;
  atoms = t.atoms;
  instances = let l = slice_get_within g.instances u.instances k at in omega (arith, l);
  within = λ i l low here. elim (last_or_before i u.instances low) [
    | inl before ↦ t.within i l before here
    | inr same ↦ (let e : Some k ≡ Some l = sym at ∙ subst
        (λ n. slice_get g.instances n ≡ Some l) same here in let one : k ≡ l = cc in subst (IsWithin u.atoms) one within)
  ];
  bodies = λ b i low here. let l = t.bodies b i low here in omega (arith, l);
}

-- a named atom is no body
named_no_body : (p : ℕ) (args : List ℕ) (i n : ℕ) → node.Named p args ≡ node.Body i → i ≤ n
named_no_body p args i n e = cc

-- the body of an instance is that of no other
same_body : (i n : ℕ) → node.Body n ≡ node.Body i → i ≤ n
same_body i n e = let same : n ≡ i = cc in omega (arith, same)

-- what was noted is consistent after each event
pub told_on : (g : Ground) (a b : Told) (es : List Event) → Notes g a es b → IsTold g a → IsTold g b
told_on g a _ _ Nothing t = t
told_on g a _ _ (NextTerm es u p n at) t = go (told_on g a u es p t)
  where
    go : IsTold g u → IsTold g (record u { terms = u.terms + 1 })
    go s = record {
      terms = let l = slice_get_within g.terms u.terms n at in omega (arith, l);
      atoms = s.atoms;
      instances = s.instances;
      within = s.within;
      bodies = s.bodies;
    }
told_on g a _ _ (NextAtom es u p i args pred at there low) t =
    told_atom g u (node.Named i args) at (λ n e. named_no_body i args n u.instances e) (told_on g a u es p t)
told_on g a _ _ (NextBody es u p at none) t =
    told_atom g u (node.Body u.instances) at (λ i e. same_body i u.instances e) (told_on g a u es p t)
told_on g a _ _ (NextMade es u p k at within low next) t = told_made g u k at within (told_on g a u es p t)

-- no instance is taken back
pub instances_rise : (g : Ground) (a b : Told) (es : List Event) → Notes g a es b → a.instances ≤ b.instances
instances_rise g a _ _ Nothing = omega arith
instances_rise g a _ _ (NextTerm es u p n at) = instances_rise g a u es p
instances_rise g a _ _ (NextAtom es u p i args pred at there low) = instances_rise g a u es p
instances_rise g a _ _ (NextBody es u p at none) = instances_rise g a u es p
instances_rise g a _ _ (NextMade es u p k at within low next) = let l = instances_rise g a u es p in omega (arith, l)

-- the same of what a trace tells
pub told_noted : (g : Ground) (a b : Told) (x y : Option Journal) → Noted g a b x y → IsTold g a → IsTold g b
told_noted g a b x y p t = told_on g a b p.events p.notes t

-- a body was noted after instances were
pub body_noted : {E : Type 0} (g : Ground) (u u' : Told) (i j : ℕ) (x y z : Option Journal) (r : Result Event E) → IsNotable g
    → u' ≡ record u { instances = i } → i ≡ j → IsBodyOf g u.atoms j → Noted g u u' x y
    → r ≡ Ok (say.Body u'.atoms j) → ((e : Event) × (r ≡ Ok e) × (z ≡ option_map (with_event e) y))
    → Noted g u (record u' { atoms = u'.atoms + 1 }) x z
body_noted {E} g u u' i j x y z r is same one at p e t =
    noted_on g u u' (record u' { atoms = u'.atoms + 1 }) x y z p (noted_one g u' (record u' { atoms = u'.atoms + 1 }) y z r next t)
  where
    number : u'.instances ≡ j
    number = ap (λ (w : Told). w.instances) same ∙ one

    here : IsBodyOf g u'.atoms u'.instances
    here = subst (λ n. IsBodyOf g n u'.instances) (sym (ap (λ (w : Told). w.atoms) same))
        (subst (λ n. IsBodyOf g u.atoms n) (sym number) at)

    next : IfOk r (λ f. Notes g u' (f ∷ []) (record u' { atoms = u'.atoms + 1 }))
    next = subst (λ (w : Result Event E). IfOk w (λ f. Notes g u' (f ∷ []) (record u' { atoms = u'.atoms + 1 }))) (sym e)
        (subst (λ n. Notes g u' (say.Body u'.atoms n ∷ []) (record u' { atoms = u'.atoms + 1 })) number (next_body g u' is here))

-- ---- as the ground grows

-- before anything is noted
pub told_nothing : (g : Ground) → IsTold g (record { terms = 0; atoms = 0; instances = 0 })
told_nothing g = record {
  terms = omega arith;
  atoms = omega arith;
  instances = omega arith;
  within = λ i k low at. absurd (none_below i low);
  bodies = λ b i low at. absurd (none_below b low);
}
  where
    none_below : (n : ℕ) → ¬ (n < 0)
    none_below n low = omega (arith, low)

-- a list that has what another one has, at the same places, is as long
longer : {A : Type 0} (xs ys : List A) → ((i : ℕ) (x : A) → slice_get xs i ≡ Some x → slice_get ys i ≡ Some x) → length xs ≤ length ys
longer [] ys more = omega arith
longer (x ∷ xs) [] more = let e = more 0 x refl in cc
longer (x ∷ xs) (y ∷ ys) more = let l = longer xs ys (λ i z at. more (suc i) z at) in omega (arith, l)

-- something stands at each place of a list
something_at : {A : Type 0} (xs : List A) (i : ℕ) → i < length xs → (x : A) × (slice_get xs i ≡ Some x)
something_at [] i low = absurd (omega (arith, low))
something_at (x ∷ xs) zero low = (x, refl)
something_at (x ∷ xs) (suc i) low = something_at xs i (omega (arith, low))

-- what stands in both at a place is the same
same_there : {A : Type 0} (xs ys : List A) → ((i : ℕ) (x : A) → slice_get xs i ≡ Some x → slice_get ys i ≡ Some x) → (i : ℕ) (y : A)
    → i < length xs → slice_get ys i ≡ Some y → slice_get xs i ≡ Some y
same_there xs ys more i y low at = let here = something_at xs i low in here.1 ∙ sym (more i here.0 here.1) ∙ at

-- what was noted of a ground was noted of one that grew out of it
pub told_grown : (g h : Ground) (u : Told) → length g.terms ≤ length h.terms
    → ((x : ℕ) (n : AtomNode) → slice_get g.atoms.atoms x ≡ Some n → slice_get h.atoms.atoms x ≡ Some n)
    → ((i : ℕ) (k : Made) → slice_get g.instances i ≡ Some k → slice_get h.instances i ≡ Some k) → IsTold g u → IsTold h u
told_grown g h u terms atoms instances t = record {
  terms = let l = t.terms in omega (arith, l, terms);
  atoms = let l = t.atoms in let m = longer g.atoms.atoms h.atoms.atoms atoms in omega (arith, l, m);
  instances = let l = t.instances in let m = longer g.instances h.instances instances in omega (arith, l, m);
  within = λ i k low at. t.within i k low
      (same_there g.instances h.instances instances i k (let l = t.instances in omega (arith, l, low)) at);
  bodies = λ b i low at. t.bodies b i low
      (same_there g.atoms.atoms h.atoms.atoms atoms b (node.Body i) (let l = t.atoms in omega (arith, l, low)) at);
}
