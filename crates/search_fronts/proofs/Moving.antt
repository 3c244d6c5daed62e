-- How fronts stand as entries come and go, as they move on, and as the ground grows.
use Rattle.std.proofs.Common.{◌≡◌, ℕ, ◌+◌, ◌<◌, ◌≤◌, List, ◌∷◌, ◌++◌, length, sym, ◌∙◌, ap, subst, inl, inr, arith, length-append}
use Rattle.std.specs.Prelude.{min, Some, None, slice_get}
use Rattle.std.proofs.lemmas.Option.{same_Some, none-some}
use borrow.Author.Count.{below_more}
use Rattle.alpha_outside.specs.declared.literal.Value.TheVariants.{True, MustBe}
use Rattle.search_values.specs.declared.entry.Entry.{Entry}
use Rattle.search_values.specs.Values.{value_of, before_closed}
use Rattle.search_values.proofs.Basics.{value_cases}
use Rattle.trail.specs.Assigning.{IsStackOf, MayRise}
use Rattle.term_pool.proofs.PlaceLemmas.{get-before}
use Rattle.atom_pool.specs.declared.atom.AtomNode.{AtomNode}
use Rattle.atom_pool.specs.declared.atom.AtomNode.TheVariants as node
use Rattle.atom_pool.specs.declared.instances.Made.{Made}
use Rattle.search_fronts.specs.declared.fronts.Fronts.{Fronts}
use Rattle.search_fronts.specs.Fronts.{AreFronts, IsNamedAt, HaveBodies, HasSettledBody}
use Rattle.search_fronts.proofs.Closing.{unclosed_less}

-- ---- an entry comes

pub with_entry : (atoms : List AtomNode) (made : List Made) (places : ℕ) (e : Entry) (rest : List Entry) (f g : Fronts)
    → IsStackOf places (e ∷ rest) → AreFronts atoms made rest f
    → g.assigned ≡ f.assigned → g.settled ≡ f.settled → g.not_must ≤ f.not_must → (e.value ≡ MustBe → g.not_must ≤ e.atom)
    → g.unclosed ≡ length (before_closed (e ∷ rest)) → AreFronts atoms made (e ∷ rest) g
with_entry atoms made places e rest f g are old a s fewer low unclosed = record {
  assigned_within = let w = old.assigned_within in omega (arith, w, a);
  not_must_within = let w = old.not_must_within in omega (arith, w, fewer);
  settled_within = let w = old.settled_within in omega (arith, w, s);
  assigned = λ x before named none. elim (value_cases e rest x) [
    | inl c ↦ none-some e.value (sym none ∙ c.1)
    | inr c ↦ old.assigned x (omega (arith, before, a)) named (sym c.1 ∙ none)
  ];
  not_must = λ x before named must. elim (value_cases e rest x) [
    | inl c ↦ (let k = low (same_Some e.value MustBe (sym c.1 ∙ must)) in let at = c.0 in omega (arith, k, at, before))
    | inr c ↦ old.not_must x (omega (arith, before, fewer)) named (sym c.1 ∙ must)
  ];
  settled = λ i k before at b has may. elim (value_cases e rest b) [
    | inl c ↦ old.settled i k (omega (arith, before, s)) at b has (subst (λ x. MayRise (value_of rest x)) c.0 (elim are.0.may [
      | inl none ↦ inl none
      | inr must ↦ inr must.0
    ]))
    | inr c ↦ old.settled i k (omega (arith, before, s)) at b has (subst MayRise c.1 may)
  ];
  unclosed = unclosed;
}

-- ---- the newest entry goes

pub without_entry : (atoms : List AtomNode) (made : List Made) (places : ℕ) (e : Entry) (rest : List Entry) (f g : Fronts)
    → HaveBodies atoms made → IsStackOf places (e ∷ rest) → AreFronts atoms made (e ∷ rest) f
    → g.assigned ≤ f.assigned → g.not_must ≤ f.not_must → g.settled ≤ f.settled
    → (IsNamedAt atoms e.atom → g.assigned ≤ e.atom) → (IsNamedAt atoms e.atom → e.value ≡ True → g.not_must ≤ e.atom)
    → ((i : ℕ) → slice_get atoms e.atom ≡ Some (node.Body i) → g.settled ≤ i)
    → g.unclosed ≡ min f.unclosed (length rest) → AreFronts atoms made rest g
without_entry atoms made places e rest f g bodies are old a m s by_name by_truth by_body cut = record {
  assigned_within = let w = old.assigned_within in omega (arith, w, a);
  not_must_within = let w = old.not_must_within in omega (arith, w, m);
  settled_within = let w = old.settled_within in omega (arith, w, s);
  assigned = λ x before named none. elim (value_cases e rest x) [
    | inl c ↦ (let k = by_name (subst (IsNamedAt atoms) (sym c.0) named) in let at = c.0 in omega (arith, k, at, before))
    | inr c ↦ old.assigned x (omega (arith, before, a)) named (c.1 ∙ none)
  ];
  not_must = λ x before named must. elim (value_cases e rest x) [
    | inl c ↦ elim are.0.may [
      | inl none ↦ none-some MustBe (sym none ∙ ap (value_of rest) c.0 ∙ must)
      | inr rises ↦ (let k = by_truth (subst (IsNamedAt atoms) (sym c.0) named) rises.1 in let at = c.0 in omega (arith, k, at, before))
    ]
    | inr c ↦ old.not_must x (omega (arith, before, m)) named (c.1 ∙ must)
  ];
  settled = λ i k before at b has may. elim (value_cases e rest b) [
    | inl c ↦ (let low = by_body i (ap (slice_get atoms) c.0 ∙ bodies i b k at has) in omega (arith, low, before))
    | inr c ↦ old.settled i k (omega (arith, before, s)) at b has (subst MayRise (sym c.1) may)
  ];
  unclosed = unclosed_less e rest f.unclosed g.unclosed old.unclosed cut;
}

-- ---- a front moves on

pub assigned_on : (atoms : List AtomNode) (made : List Made) (stack : List Entry) (f : Fronts) → f.assigned < length atoms
    → (IsNamedAt atoms f.assigned → ¬ (value_of stack f.assigned ≡ None)) → AreFronts atoms made stack f
    → AreFronts atoms made stack (record f { assigned = f.assigned + 1 })
assigned_on atoms made stack f low here old = record {
  assigned_within = omega (arith, low);
  not_must_within = old.not_must_within;
  settled_within = old.settled_within;
  assigned = below_more (λ x. IsNamedAt atoms x → ¬ (value_of stack x ≡ None)) f.assigned old.assigned here;
  not_must = old.not_must;
  settled = old.settled;
  unclosed = old.unclosed;
}

pub not_must_on : (atoms : List AtomNode) (made : List Made) (stack : List Entry) (f : Fronts) → f.not_must < length atoms
    → (IsNamedAt atoms f.not_must → ¬ (value_of stack f.not_must ≡ Some MustBe)) → AreFronts atoms made stack f
    → AreFronts atoms made stack (record f { not_must = f.not_must + 1 })
not_must_on atoms made stack f low here old = record {
  assigned_within = old.assigned_within;
  not_must_within = omega (arith, low);
  settled_within = old.settled_within;
  assigned = old.assigned;
  not_must = below_more (λ x. IsNamedAt atoms x → ¬ (value_of stack x ≡ Some MustBe)) f.not_must old.not_must here;
  settled = old.settled;
  unclosed = old.unclosed;
}

pub settled_on : (atoms : List AtomNode) (made : List Made) (stack : List Entry) (f : Fronts) (k : Made) → f.settled < length made
    → slice_get made f.settled ≡ Some k → HasSettledBody stack k → AreFronts atoms made stack f
    → AreFronts atoms made stack (record f { settled = f.settled + 1 })
settled_on atoms made stack f k low at_it here old = record {
  assigned_within = old.assigned_within;
  not_must_within = old.not_must_within;
  settled_within = omega (arith, low);
  assigned = old.assigned;
  not_must = old.not_must;
  settled = λ i l before. below_more (λ n. slice_get made n ≡ Some l → HasSettledBody stack l) f.settled (λ n low. old.settled n l low)
      (λ at. subst (HasSettledBody stack) (same_Some k l (sym at_it ∙ at)) here) i before;
  unclosed = old.unclosed;
}

-- ---- the ground grows

pub fronts_grown : (atoms more : List AtomNode) (made others : List Made) (stack : List Entry) (f : Fronts) → AreFronts atoms made stack f
    → AreFronts (atoms ++ more) (made ++ others) stack f
fronts_grown atoms more made others stack f old =
    let a = length-append atoms more in
    let m = length-append made others in
    let below = old.assigned_within in
    let under = old.not_must_within in
    let within = old.settled_within in record {
      assigned_within = omega (arith, a, below);
      not_must_within = omega (arith, a, under);
      settled_within = omega (arith, m, within);
      assigned = λ x before named. old.assigned x before
          (named.0, named.1, sym (get-before atoms more x (omega (arith, before, below))) ∙ named.2);
      not_must = λ x before named. old.not_must x before
          (named.0, named.1, sym (get-before atoms more x (omega (arith, before, under))) ∙ named.2);
      settled = λ i k before at. old.settled i k before (sym (get-before made others i (omega (arith, before, within))) ∙ at);
      unclosed = old.unclosed;
    }
