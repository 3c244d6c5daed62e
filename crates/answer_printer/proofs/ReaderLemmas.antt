-- What the steps of a reader leave, as states of the machine.
use Rattle.std.proofs.Common.{◌≡◌, ◌⊎◌, inl, inr, refl, sym, ap, subst, ◌∙◌, ℕ, zero, suc, ◌+◌, ◌<◌, ◌≤◌, Bool, false, List, [], ◌∷◌, ◌++◌, length, map, slice_get, length-append, arith}
use Rattle.std.specs.Prelude.{All}
use Rattle.std.proofs.lemmas.List.{map-append}
use Rattle.std.proofs.lemmas.List.Elements.{All-weaker, All-head, All-tail, All-cons}
use Rattle.std.proofs.lemmas.Option.{slice_get_within}
use Rattle.lists.specs.Lists.{◌∈◌}
use Rattle.lists.proofs.ListLemmas.{∈-append_left, ∈-append_right, ∈-append_cases}
use Rattle.alpha_outside.specs.declared.node.Node.{Node}
use Rattle.alpha_outside.specs.declared.pred.Pred.TheVariants as pred
use Rattle.asp_meaning.specs.declared.value.Value.{Value}
use Rattle.asp_meaning.specs.Atoms.{Atom}
use Rattle.term_pool.specs.Interning.{IsInterned}
use Rattle.term_pool.specs.Nodes.{value_at, IsPool, KeepsValues}
use Rattle.term_pool.proofs.PlaceLemmas.{map-same}
use Rattle.atom_pool.specs.declared.atom.AtomNode.TheVariants.{Named}
use Rattle.atom_pool.specs.Pools.{Pool, IsAtomPool}
use Rattle.atom_pool.specs.Meanings.{atom_at, IsUserAtom, IsBeside}
use Rattle.atom_pool.proofs.Beside.{interned_kept, beside_more, beside_interned, user_kept, user_kept_by_pred, user_interned}
use Rattle.answer_printer.specs.declared.phase.Phase.{Phase}
use Rattle.answer_printer.specs.declared.phase.Phase.TheVariants.{Whole}
use Rattle.answer_printer.specs.declared.reader.OpenCall.{OpenCall}
use Rattle.answer_printer.specs.declared.reader.Reader.{Reader}
use Rattle.answer_printer.specs.Machine.{Call, State, at_phase, with_argument, with_value, ended}
use Rattle.answer_printer.specs.Readers.{call_of, calls_onto, AreCallsBelow, AreAtomsOf, StandsIn}
use Rattle.answer_printer.proofs.AtomLemmas.{at_pred, at_user}

-- ---- calls

pub calls_onto-last : (ns : List Node) (cs : List OpenCall) (c : OpenCall) (outer : List Call) → calls_onto ns (cs ++ c ∷ []) outer ≡ call_of ns c ∷ calls_onto ns cs outer
calls_onto-last ns [] c outer = refl
calls_onto-last ns (d ∷ ds) c outer = calls_onto-last ns ds c (call_of ns d ∷ outer)

pub below-last : (n : ℕ) (cs : List OpenCall) (c : OpenCall) → AreCallsBelow n cs → All (λ a. a < n) c.args → AreCallsBelow n (cs ++ c ∷ [])
below-last n [] c h k = (k, tt)
below-last n (d ∷ ds) c h k = (h.0, below-last n ds c h.1 k)

pub below-front : (n : ℕ) (cs : List OpenCall) (c : OpenCall) → AreCallsBelow n (cs ++ c ∷ []) → AreCallsBelow n cs × All (λ a. a < n) c.args
below-front n [] c h = (tt, h.0)
below-front n (d ∷ ds) c h = let r = below-front n ds c h.1 in ((h.0, r.0), r.1)

below-more : (m n : ℕ) (cs : List OpenCall) → m ≤ n → AreCallsBelow m cs → AreCallsBelow n cs
below-more m n [] le h = tt
below-more m n (c ∷ cs) le h = (All-weaker (λ a. a < m) (λ a. a < n) (λ a lt. omega (arith, lt, le)) c.args h.0, below-more m n cs le h.1)

-- arguments keep their values
args_keep : (ns ms : List Node) (args : List ℕ) → KeepsValues ns ms → All (λ a. a < length ns) args → map (value_at ms) args ≡ map (value_at ns) args
args_keep ns ms args kept h = map-same (value_at ms) (value_at ns) args (All-weaker (λ a. a < length ns) (λ a. value_at ms a ≡ value_at ns a) (λ a lt. kept.1 a lt) args h)

calls_keep : (ns ms : List Node) (cs : List OpenCall) (outer : List Call) → KeepsValues ns ms → AreCallsBelow (length ns) cs → calls_onto ms cs outer ≡ calls_onto ns cs outer
calls_keep ns ms [] outer kept h = refl
calls_keep ns ms (c ∷ cs) outer kept h =
    ap (λ vs. calls_onto ms cs (record { name = c.name; args = vs } ∷ outer)) (args_keep ns ms c.args kept h.0)
    ∙ calls_keep ns ms cs (call_of ns c ∷ outer) kept h.1

-- ---- more terms

-- the atom of a user's id, by what stands in the pool
atom_keeps : (ns ms : List Node) (pool : Pool) (id : ℕ) → KeepsValues ns ms → IsBeside pool (length ns) → IsUserAtom pool id → atom_at ms pool id ≡ atom_at ns pool id
atom_keeps ns ms pool id kept beside u =
    at_user ms pool id u
    ∙ ap (λ vs. record { negated = u.negated; name = u.name; args = vs }) (args_keep ns ms u.args kept (beside id (Named u.pred_id u.args) u.node))
    ∙ sym (at_user ns pool id u)

pub terms_grow : (r : Reader) (s : State) (ms : List Node) → StandsIn r s → IsPool ms → KeepsValues r.terms ms
    → StandsIn (record { terms = ms; atoms = r.atoms; negated = r.negated; calls = r.calls; phase = r.phase }) s
terms_grow r s ms h pool kept = record {
  pool = pool;
  atom_pool = h.atom_pool;
  beside = beside_more r.atoms (length r.terms) (length ms) kept.0 h.beside;
  users = h.users;
  below = below-more (length r.terms) (length ms) r.calls kept.0 h.below;
  atoms = record {
    each_has_an_id = λ a among. let k = h.atoms.each_has_an_id a among in (k.0, k.1, k.2 ∙ sym (atom_keeps r.terms ms r.atoms k.0 kept h.beside (h.users k.0 k.1)));
    each_is_there = λ id lt. subst (λ a. a ∈ s.atoms) (sym (atom_keeps r.terms ms r.atoms id kept h.beside (h.users id lt))) (h.atoms.each_is_there id lt);
  };
  negated = h.negated;
  calls = h.calls ∙ sym (calls_keep r.terms ms r.calls [] kept h.below);
  phase = h.phase;
}

-- ---- an argument ends

-- one more id at the end of a list
all-last : (n : ℕ) (xs : List ℕ) (x : ℕ) → All (λ a. a < n) xs → x < n → All (λ a. a < n) (xs ++ x ∷ [])
all-last n [] x h lt = All-cons (λ a. a < n) x [] lt (λ k d short. absurd (omega (arith, short)))
all-last n (y ∷ ys) x h lt = All-cons (λ a. a < n) y (ys ++ x ∷ []) (All-head (λ a. a < n) y ys h) (all-last n ys x (All-tail (λ a. a < n) y ys h) lt)

pub value_ends : (r : Reader) (s : State) (v : Value) (id : ℕ) (cs : List OpenCall) (c : OpenCall) (args : List ℕ) (calls : List OpenCall)
    → StandsIn r s → id < length r.terms → value_at r.terms id ≡ v → r.calls ≡ cs ++ c ∷ [] → args ≡ c.args ++ id ∷ [] → calls ≡ cs ++ record { name = c.name; args = args } ∷ []
    → StandsIn (record { terms = r.terms; atoms = r.atoms; negated = r.negated; calls = calls; phase = Whole }) (with_value v s.calls s)
value_ends r s v id cs c args calls h lt is split more now = record {
  pool = h.pool;
  atom_pool = h.atom_pool;
  beside = h.beside;
  users = h.users;
  below = subst (AreCallsBelow (length r.terms)) (sym now) (below-last (length r.terms) cs (record { name = c.name; args = args }) front.0
      (subst (All (λ a. a < length r.terms)) (sym more) (all-last (length r.terms) c.args id front.1 lt)));
  atoms = h.atoms;
  negated = h.negated;
  calls =
      ap (with_argument v) (h.calls ∙ ap (λ l. calls_onto r.terms l []) split ∙ calls_onto-last r.terms cs c [])
      ∙ ap (λ vs. record { name = c.name; args = vs } ∷ calls_onto r.terms cs [])
      ((λ i. map (value_at r.terms) c.args ++ sym is i ∷ []) ∙ sym (map-append (value_at r.terms) c.args (id ∷ [])) ∙ ap (map (value_at r.terms)) (sym more))
      ∙ sym (calls_onto-last r.terms cs (record { name = c.name; args = args }) [])
      ∙ ap (λ l. calls_onto r.terms l []) (sym now);
  phase = refl;
}
  where
    front : AreCallsBelow (length r.terms) cs × All (λ a. a < length r.terms) c.args
    front = below-front (length r.terms) cs c (subst (AreCallsBelow (length r.terms)) split h.below)

pub value_ends_outside : (r : Reader) (s : State) (v : Value) (calls : List OpenCall) → StandsIn r s → r.calls ≡ [] → calls ≡ []
    → StandsIn (record { terms = r.terms; atoms = r.atoms; negated = r.negated; calls = calls; phase = Whole }) (with_value v s.calls s)
value_ends_outside r s v calls h none now = record {
  pool = h.pool;
  atom_pool = h.atom_pool;
  beside = h.beside;
  users = h.users;
  below = subst (AreCallsBelow (length r.terms)) (sym now) tt;
  atoms = h.atoms;
  negated = h.negated;
  calls = ap (with_argument v) (h.calls ∙ ap (λ l. calls_onto r.terms l []) none) ∙ ap (λ l. calls_onto r.terms l []) (sym now);
  phase = refl;
}

-- ---- an atom ends

module _ (ns : List Node) (old mid new : Pool) (negated : Bool) (name : List ℕ) (arity pred_id : ℕ) (args : List ℕ) (id : ℕ)
    (p : IsInterned old.preds mid.preds (pred.User negated name arity) pred_id) (atoms : mid.atoms ≡ old.atoms)
    (a : IsInterned mid.atoms new.atoms (Named pred_id args) id) (preds : new.preds ≡ mid.preds) where
  -- an atom that was there is what it was
  atom_stays : (k : ℕ) → IsUserAtom old k → atom_at ns new k ≡ atom_at ns old k
  atom_stays k u =
      at_pred ns new k u.pred_id u.args (pred.User u.negated u.name u.arity)
      (interned_kept mid.atoms new.atoms (Named pred_id args) id a k (Named u.pred_id u.args) (ap (λ l. slice_get l k) atoms ∙ u.node))
      (ap (λ l. slice_get l u.pred_id) preds ∙ interned_kept old.preds mid.preds (pred.User negated name arity) pred_id p u.pred_id (pred.User u.negated u.name u.arity) u.user)
      ∙ sym (at_user ns old k u)

  -- the atom that was added, or found
  atom_added : atom_at ns new id ≡ record { negated = negated; name = name; args = map (value_at ns) args }
  atom_added = at_pred ns new id pred_id args (pred.User negated name arity) a.there (ap (λ l. slice_get l pred_id) preds ∙ p.there)

  -- each id is an old one or the one that was added
  old_or_added : (k : ℕ) → k < length new.atoms → (k < length old.atoms) ⊎ (k ≡ id)
  old_or_added k lt = elim a.grown [
    | inl same ↦ inl (omega (arith, lt, ap length same, ap length atoms))
    | inr more ↦
        let last : id ≡ length mid.atoms = (a.added (λ i e. omega (arith, ap length (a.known i e).0, ap length more, length-append mid.atoms (Named pred_id args ∷ [])))).1 in
        below_or (omega (arith, lt, ap length more, length-append mid.atoms (Named pred_id args ∷ []))) last
  ]
    where
      cases : (m n : ℕ) → m < n + 1 → (m < n) ⊎ (m ≡ n)
      cases zero zero h = inr refl
      cases zero (suc n) h = inl (omega arith)
      cases (suc m) zero h = absurd (omega (arith, h))
      cases (suc m) (suc n) h = elim (cases m n (omega (arith, h))) [ inl g ↦ inl (omega (arith, g)) | inr e ↦ inr (ap suc e) ]

      below_or : k < length mid.atoms + 1 → id ≡ length mid.atoms → (k < length old.atoms) ⊎ (k ≡ id)
      below_or h last = elim (cases k (length mid.atoms) h) [ inl g ↦ inl (omega (arith, g, ap length atoms)) | inr e ↦ inr (e ∙ sym last) ]

  stays_within : (k : ℕ) → k < length old.atoms → k < length new.atoms
  stays_within k lt = elim a.grown [
    | inl same ↦ omega (arith, lt, ap length same, ap length atoms)
    | inr more ↦ omega (arith, lt, ap length more, ap length atoms, length-append mid.atoms (Named pred_id args ∷ []))
  ]

  pub users_stay : ((k : ℕ) → k < length old.atoms → IsUserAtom old k) → (k : ℕ) → k < length new.atoms → IsUserAtom new k
  users_stay before k lt = elim (old_or_added k lt) [
    | inl h ↦ user_kept mid new (Named pred_id args) id k a preds (user_kept_by_pred old mid (pred.User negated name arity) pred_id k p atoms (before k h))
    | inr e ↦ subst (IsUserAtom new) (sym e) (user_interned mid new pred_id args id negated name arity a (ap (λ ps. slice_get ps pred_id) preds ∙ p.there))
  ]

  one_more_atom : (xs : List Atom) → ((k : ℕ) → k < length old.atoms → IsUserAtom old k) → AreAtomsOf ns old xs
      → AreAtomsOf ns new (xs ++ record { negated = negated; name = name; args = map (value_at ns) args } ∷ [])
  one_more_atom xs users h = record {
    each_has_an_id = λ x among. elim (∈-append_cases x xs (the_new ∷ []) among) [
      | inl left ↦ let k = h.each_has_an_id x left in (k.0, stays_within k.0 k.1, k.2 ∙ sym (atom_stays k.0 (users k.0 k.1)))
      | inr right ↦ elim right [ inl e ↦ (id, slice_get_within new.atoms id (Named pred_id args) a.there, e ∙ sym atom_added) | inr none ↦ absurd none ]
    ];
    each_is_there = λ k lt. elim (old_or_added k lt) [
      | inl g ↦ ∈-append_left (atom_at ns new k) xs (the_new ∷ []) (subst (λ x. x ∈ xs) (sym (atom_stays k (users k g))) (h.each_is_there k g))
      | inr e ↦ ∈-append_right (atom_at ns new k) xs (the_new ∷ []) (inl (ap (atom_at ns new) e ∙ atom_added))
    ];
  }
    where
      the_new : Atom
      the_new = record { negated = negated; name = name; args = map (value_at ns) args }

pub atom_ends : (r : Reader) (s : State) (mid new : Pool) (name : List ℕ) (arity pred_id : ℕ) (args : List ℕ) (id : ℕ)
    → IsInterned r.atoms.preds mid.preds (pred.User r.negated name arity) pred_id → mid.atoms ≡ r.atoms.atoms → IsInterned mid.atoms new.atoms (Named pred_id args) id → new.preds ≡ mid.preds
    → IsAtomPool new → All (λ a. a < length r.terms) args → r.calls ≡ [] → StandsIn r s
    → StandsIn (record { terms = r.terms; atoms = new; negated = false; calls = r.calls; phase = Whole }) (ended name (map (value_at r.terms) args) [] s)
atom_ends r s mid new name arity pred_id args id p atoms a preds lawful low none h = record {
  pool = h.pool;
  atom_pool = lawful;
  beside = beside_interned mid new (Named pred_id args) id (length r.terms) a low (λ k x e. h.beside k x (ap (λ l. slice_get l k) (sym atoms) ∙ e));
  users = users_stay r.terms r.atoms mid new r.negated name arity pred_id args id p atoms a preds h.users;
  below = h.below;
  atoms = subst (λ (n : Bool). AreAtomsOf r.terms new (s.atoms ++ record { negated = n; name = name; args = map (value_at r.terms) args } ∷ [])) (sym h.negated)
      (one_more_atom r.terms r.atoms mid new r.negated name arity pred_id args id p atoms a preds s.atoms h.users h.atoms);
  negated = refl;
  calls = ap (λ l. calls_onto r.terms l []) (sym none);
  phase = refl;
}

-- ---- another phase

pub phase_set : (r : Reader) (s : State) (p : Phase) → StandsIn r s → StandsIn (record { terms = r.terms; atoms = r.atoms; negated = r.negated; calls = r.calls; phase = p }) (at_phase s p)
phase_set r s p h = record {
  pool = h.pool;
  atom_pool = h.atom_pool;
  beside = h.beside;
  users = h.users;
  below = h.below;
  atoms = h.atoms;
  negated = h.negated;
  calls = h.calls;
  phase = refl;
}
