-- The steps of a reader are those of the machine.
use Rattle.std.proofs.Common.{◌≡◌, ◌≢◌, refl, sym, ap, subst, ◌∙◌, ℕ, ◌+◌, ◌<◌, true, false, List, [], ◌∷◌, ◌++◌, length, map, Option, Some, None, arith}
use Rattle.std.specs.Prelude.{All}
use Rattle.alpha_outside.specs.declared.node.Node.{Node}
use Rattle.asp_meaning.specs.declared.value.Value.{Value}
use Rattle.asp_meaning.specs.Terms.{functional}
use Rattle.term_pool.specs.Nodes.{value_at}
use Rattle.answer_printer.specs.declared.phase.Phase.{Phase}
use Rattle.answer_printer.specs.declared.phase.Phase.TheVariants.{Start, First, Due, Signed, Named, Whole, End}
use Rattle.answer_printer.specs.declared.reader.OpenCall.{OpenCall}
use Rattle.answer_printer.specs.declared.reader.Reader.{Reader}
use Rattle.answer_printer.specs.Machine.{Call, State, at_phase, with_value, ended, settled_in, settled, takes_name, takes_atom, takes_end, is_start, is_due, is_whole, on_name, on_value, signed, on_minus, on_comma, on_open, on_close, on_open_brace, on_close_brace}
use Rattle.answer_printer.specs.Readers.{call_of, calls_onto, AreCallsBelow, StandsIn}
use Rattle.answer_printer.proofs.ReaderLemmas.{calls_onto-last, below-front, below-last, phase_set}

-- the reader with other calls and another phase
abbrev pub with_calls : Reader → List OpenCall → Phase → Reader
with_calls r calls p = record { terms = r.terms; atoms = r.atoms; negated = r.negated; calls = calls; phase = p }

-- ---- no calls are open in a reader where none are in its state

length-calls : (ns : List Node) (cs : List OpenCall) (outer : List Call) → length (calls_onto ns cs outer) ≡ length cs + length outer
length-calls ns [] outer = omega arith
length-calls ns (c ∷ cs) outer = length-calls ns cs (call_of ns c ∷ outer) ∙ omega arith

no_calls : {A : Type 0} (xs : List A) → length xs ≡ 0 → xs ≡ []
no_calls [] e = refl
no_calls (x ∷ xs) e = absurd (omega (arith, e))

pub calls_none : (r : Reader) (s : State) → StandsIn r s → r.calls ≡ [] → s.calls ≡ []
calls_none r s h none = h.calls ∙ ap (λ l. calls_onto r.terms l []) none

pub calls_some : (r : Reader) (s : State) → StandsIn r s → r.calls ≢ [] → s.calls ≢ []
calls_some r s h some e = some (no_calls r.calls (omega (arith, length-calls r.terms r.calls [], ap length (sym h.calls ∙ e))))

-- ---- when a word may come

name_may : (x : List ℕ) (p : Phase) (s : State) → takes_name p ≡ true → on_name x p s ≡ Some (at_phase s (Named x))
name_may x Start s e = absurd (cc)
name_may x First s e = refl
name_may x Due s e = refl
name_may x Signed s e = refl
name_may x (Named y) s e = absurd (cc)
name_may x Whole s e = absurd (cc)
name_may x End s e = absurd (cc)

value_may : (v : Value) (p : Phase) (calls : List Call) (s : State) → is_due p ≡ true → calls ≢ [] → on_value v p calls s ≡ Some (with_value v calls s)
value_may v Due [] s e some = absurd (some refl)
value_may v Due (c ∷ cs) s e some = refl
value_may v Start calls s e some = absurd (cc)
value_may v First calls s e some = absurd (cc)
value_may v Signed calls s e some = absurd (cc)
value_may v (Named y) calls s e some = absurd (cc)
value_may v Whole calls s e some = absurd (cc)
value_may v End calls s e some = absurd (cc)

minus_may : (p : Phase) (calls : List Call) (s : State) → takes_atom p ≡ true → calls ≡ [] → on_minus p calls s ≡ Some (signed s)
minus_may p (c ∷ cs) s e none = absurd (cc)
minus_may First [] s e none = refl
minus_may Due [] s e none = refl
minus_may Start [] s e none = absurd (cc)
minus_may Signed [] s e none = absurd (cc)
minus_may (Named y) [] s e none = absurd (cc)
minus_may Whole [] s e none = absurd (cc)
minus_may End [] s e none = absurd (cc)

minus_not : (p : Phase) (calls : List Call) (s : State) → takes_atom p ≡ false → on_minus p calls s ≡ None
minus_not First calls s e = absurd (cc)
minus_not Due calls s e = absurd (cc)
minus_not Start calls s e = refl
minus_not Signed calls s e = refl
minus_not (Named y) calls s e = refl
minus_not Whole calls s e = refl
minus_not End calls s e = refl

minus_not_within : (p : Phase) (calls : List Call) (s : State) → calls ≢ [] → on_minus p calls s ≡ None
minus_not_within p [] s some = absurd (some refl)
minus_not_within First (c ∷ cs) s some = refl
minus_not_within Due (c ∷ cs) s some = refl
minus_not_within Start (c ∷ cs) s some = refl
minus_not_within Signed (c ∷ cs) s some = refl
minus_not_within (Named y) (c ∷ cs) s some = refl
minus_not_within Whole (c ∷ cs) s some = refl
minus_not_within End (c ∷ cs) s some = refl

comma_may : (p : Phase) (s : State) → is_whole p ≡ true → on_comma p s ≡ Some (at_phase s Due)
comma_may Whole s e = refl
comma_may Start s e = absurd (cc)
comma_may First s e = absurd (cc)
comma_may Due s e = absurd (cc)
comma_may Signed s e = absurd (cc)
comma_may (Named y) s e = absurd (cc)
comma_may End s e = absurd (cc)

close_may : (p : Phase) (c : Call) (cs : List Call) (s : State) → is_whole p ≡ true → on_close p (c ∷ cs) s ≡ Some (ended c.name c.args cs s)
close_may Whole c cs s e = refl
close_may Start c cs s e = absurd (cc)
close_may First c cs s e = absurd (cc)
close_may Due c cs s e = absurd (cc)
close_may Signed c cs s e = absurd (cc)
close_may (Named y) c cs s e = absurd (cc)
close_may End c cs s e = absurd (cc)

open_brace_may : (p : Phase) (s : State) → is_start p ≡ true → on_open_brace p s ≡ Some (at_phase s First)
open_brace_may Start s e = refl
open_brace_may First s e = absurd (cc)
open_brace_may Due s e = absurd (cc)
open_brace_may Signed s e = absurd (cc)
open_brace_may (Named y) s e = absurd (cc)
open_brace_may Whole s e = absurd (cc)
open_brace_may End s e = absurd (cc)

end_may : (p : Phase) (calls : List Call) (s : State) → takes_end p ≡ true → calls ≡ [] → on_close_brace p calls s ≡ Some (at_phase s End)
end_may p (c ∷ cs) s e none = absurd (cc)
end_may First [] s e none = refl
end_may Whole [] s e none = refl
end_may Start [] s e none = absurd (cc)
end_may Due [] s e none = absurd (cc)
end_may Signed [] s e none = absurd (cc)
end_may (Named y) [] s e none = absurd (cc)
end_may End [] s e none = absurd (cc)

end_not : (p : Phase) (calls : List Call) (s : State) → takes_end p ≡ false → on_close_brace p calls s ≡ None
end_not First calls s e = absurd (cc)
end_not Whole calls s e = absurd (cc)
end_not Start calls s e = refl
end_not Due calls s e = refl
end_not Signed calls s e = refl
end_not (Named y) calls s e = refl
end_not End calls s e = refl

end_not_within : (p : Phase) (calls : List Call) (s : State) → calls ≢ [] → on_close_brace p calls s ≡ None
end_not_within p [] s some = absurd (some refl)
end_not_within First (c ∷ cs) s some = refl
end_not_within Whole (c ∷ cs) s some = refl
end_not_within Start (c ∷ cs) s some = refl
end_not_within Due (c ∷ cs) s some = refl
end_not_within Signed (c ∷ cs) s some = refl
end_not_within (Named y) (c ∷ cs) s some = refl
end_not_within End (c ∷ cs) s some = refl

-- ---- the steps

-- what a step comes to: a state in which the reader stands
abbrev pub Comes : Option State → Reader → Type 0
Comes o r = (t : State) × (o ≡ Some t) × StandsIn r t

pub name_comes : (r : Reader) (s : State) (x : List ℕ) → takes_name r.phase ≡ true → StandsIn r s → Comes (on_name x s.phase s) (with_calls r r.calls (Named x))
name_comes r s x e h = (at_phase s (Named x), name_may x s.phase s (ap takes_name h.phase ∙ e), phase_set r s (Named x) h)

pub value_comes : (r r' : Reader) (s : State) (v : Value) → is_due r.phase ≡ true → r.calls ≢ [] → StandsIn r s → StandsIn r' (with_value v s.calls s) → Comes (on_value v s.phase s.calls s) r'
value_comes r r' s v e some h k = (with_value v s.calls s, value_may v s.phase s.calls s (ap is_due h.phase ∙ e) (calls_some r s h some), k)

pub minus_comes : (r : Reader) (s : State) → takes_atom r.phase ≡ true → r.calls ≡ [] → StandsIn r s
    → Comes (on_minus s.phase s.calls s) (record { terms = r.terms; atoms = r.atoms; negated = true; calls = r.calls; phase = Signed })
minus_comes r s e none h = (
  signed s,
  minus_may s.phase s.calls s (ap takes_atom h.phase ∙ e) (calls_none r s h none),
  record {
    pool = h.pool;
    atom_pool = h.atom_pool;
    beside = h.beside;
    users = h.users;
    below = h.below;
    atoms = h.atoms;
    negated = refl;
    calls = ap (λ l. calls_onto r.terms l []) (sym none);
    phase = refl;
  },
)

pub minus_refused : (r : Reader) (s : State) → takes_atom r.phase ≡ false → StandsIn r s → on_minus s.phase s.calls s ≡ None
minus_refused r s e h = minus_not s.phase s.calls s (ap takes_atom h.phase ∙ e)

pub minus_refused_within : (r : Reader) (s : State) → r.calls ≢ [] → StandsIn r s → on_minus s.phase s.calls s ≡ None
minus_refused_within r s some h = minus_not_within s.phase s.calls s (calls_some r s h some)

pub comma_comes : (r : Reader) (t : State) → is_whole r.phase ≡ true → StandsIn r t → Comes (on_comma t.phase t) (with_calls r r.calls Due)
comma_comes r t e h = (at_phase t Due, comma_may t.phase t (ap is_whole h.phase ∙ e), phase_set r t Due h)

pub open_comes : (r : Reader) (s : State) (x : List ℕ) (calls : List OpenCall) (p : Phase) → r.phase ≡ Named x → p ≡ Due → calls ≡ r.calls ++ record { name = x; args = [] } ∷ [] → StandsIn r s
    → Comes (on_open s.phase s) (with_calls r calls p)
open_comes r s x calls p e d more h = (
  record { atoms = s.atoms; negated = s.negated; calls = record { name = x; args = [] } ∷ s.calls; phase = Due },
  ap (λ q. on_open q s) (h.phase ∙ e),
  record {
    pool = h.pool;
    atom_pool = h.atom_pool;
    beside = h.beside;
    users = h.users;
    below = subst (AreCallsBelow (length r.terms)) (sym more) (below-last (length r.terms) r.calls (record { name = x; args = [] }) h.below (λ k b lt. absurd (omega (arith, lt))));
    atoms = h.atoms;
    negated = h.negated;
    calls =
        ap (λ cs. record { name = x; args = [] } ∷ cs) h.calls
        ∙ sym (calls_onto-last r.terms r.calls (record { name = x; args = [] }) []) ∙ ap (λ l. calls_onto r.terms l []) (sym more);
    phase = sym d;
  },
)

-- what has ended doesn't rest on what stands last, or on the calls but those that it is told
pub ended_alike : (f : List ℕ) (args : List Value) (cs calls : List Call) (s : State) (p : Phase)
    → ended f args cs (record { atoms = s.atoms; negated = s.negated; calls = calls; phase = p }) ≡ ended f args cs s
ended_alike f args [] calls s p = refl
ended_alike f args (c ∷ cs) calls s p = refl

-- a reader without its innermost call
pub without_last : (r : Reader) (t : State) (c : OpenCall) (calls : List OpenCall) → r.calls ≡ calls ++ c ∷ [] → StandsIn r t
    → StandsIn (with_calls r calls r.phase) (record { atoms = t.atoms; negated = t.negated; calls = calls_onto r.terms calls []; phase = t.phase })
without_last r t c calls split h = record {
  pool = h.pool;
  atom_pool = h.atom_pool;
  beside = h.beside;
  users = h.users;
  below = (below-front (length r.terms) calls c (subst (AreCallsBelow (length r.terms)) split h.below)).0;
  atoms = h.atoms;
  negated = h.negated;
  calls = refl;
  phase = h.phase;
}

pub last_below : (r : Reader) (t : State) (c : OpenCall) (calls : List OpenCall) → r.calls ≡ calls ++ c ∷ [] → StandsIn r t → All (λ a. a < length r.terms) c.args
last_below r t c calls split h = (below-front (length r.terms) calls c (subst (AreCallsBelow (length r.terms)) split h.below)).1

pub close_comes : (r r' : Reader) (t : State) (c : OpenCall) (calls : List OpenCall) → is_whole r.phase ≡ true → r.calls ≡ calls ++ c ∷ [] → StandsIn r t
    → StandsIn r' (ended c.name (map (value_at r.terms) c.args) (calls_onto r.terms calls []) (record { atoms = t.atoms; negated = t.negated; calls = calls_onto r.terms calls []; phase = t.phase }))
    → Comes (on_close t.phase t.calls t) r'
close_comes r r' t c calls e split h k = (
  ended c.name (map (value_at r.terms) c.args) (calls_onto r.terms calls []) t,
  ap (λ cs. on_close t.phase cs t) (h.calls ∙ ap (λ l. calls_onto r.terms l []) split ∙ calls_onto-last r.terms calls c [])
      ∙ close_may t.phase (call_of r.terms c) (calls_onto r.terms calls []) t (ap is_whole h.phase ∙ e),
  subst (StandsIn r') (ended_alike c.name (map (value_at r.terms) c.args) (calls_onto r.terms calls []) (calls_onto r.terms calls []) t t.phase) k,
)

pub open_brace_comes : (r : Reader) (s : State) → is_start r.phase ≡ true → StandsIn r s → Comes (on_open_brace s.phase s) (with_calls r r.calls First)
open_brace_comes r s e h = (at_phase s First, open_brace_may s.phase s (ap is_start h.phase ∙ e), phase_set r s First h)

pub end_comes : (r : Reader) (t : State) → takes_end r.phase ≡ true → r.calls ≡ [] → StandsIn r t → Comes (on_close_brace t.phase t.calls t) (with_calls r r.calls End)
end_comes r t e none h = (at_phase t End, end_may t.phase t.calls t (ap takes_end h.phase ∙ e) (calls_none r t h none), phase_set r t End h)

pub end_refused : (r : Reader) (t : State) → takes_end r.phase ≡ false → StandsIn r t → on_close_brace t.phase t.calls t ≡ None
end_refused r t e h = end_not t.phase t.calls t (ap takes_end h.phase ∙ e)

pub end_refused_within : (r : Reader) (t : State) → r.calls ≢ [] → StandsIn r t → on_close_brace t.phase t.calls t ≡ None
end_refused_within r t some h = end_not_within t.phase t.calls t (calls_some r t h some)

-- ---- a name that ends

pub settled_name : (r r' : Reader) (s : State) (x : List ℕ) (p : Phase) → r.phase ≡ Named x → StandsIn r s
    → StandsIn r' (ended x [] s.calls (at_phase s p)) → StandsIn r' (settled s)
settled_name r r' s x p e h k = subst (StandsIn r') (ended_alike x [] s.calls s.calls s p ∙ ap (λ q. settled_in q s) (sym (h.phase ∙ e))) k

-- within a call a name ends as an argument
pub within_ends : (r : Reader) (s : State) (f : List ℕ) (args : List Value) → StandsIn r s → r.calls ≢ [] → with_value (functional f args) s.calls s ≡ ended f args s.calls s
within_ends r s f args h some = go s.calls (calls_some r s h some)
  where
    go : (cs : List Call) → cs ≢ [] → with_value (functional f args) cs s ≡ ended f args cs s
    go [] bad = absurd (bad refl)
    go (c ∷ cs) bad = refl
