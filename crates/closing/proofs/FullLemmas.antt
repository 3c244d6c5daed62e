-- Where nothing is unit or struck, and each named atom has a value and none is must-be-true, so it is of all atoms.
use Rattle.std.proofs.Common.{◌≡◌, ℕ, ◌<◌, List, length, sym, ◌∙◌, ap, subst, inl, inr}
use Rattle.std.specs.Prelude.{Option, Some, None, slice_get}
use Rattle.lists.specs.Lists.{◌∈◌}
use Rattle.lists.proofs.Places.{get_below}
use Rattle.alpha_outside.specs.declared.kinds.RuleKind.{RuleKind}
use Rattle.alpha_outside.specs.declared.kinds.RuleKind.TheVariants as rule
use Rattle.search_values.specs.declared.entry.Entry.{Entry}
use Rattle.search_values.specs.Values.{Value, True, MustBe, False, value_of}
use Rattle.search_values.specs.Nogoods.{Nogood, NoneStruck, NoneUnit}
use Rattle.search_values.specs.Instances.{Choice}
use Rattle.search_values.specs.Tables.{BodyFits, table_of}
use Rattle.search_values.proofs.Basics.{get_in}
use Rattle.nogood_store.specs.Stored.{Stored}
use Rattle.trail.specs.Assigning.{Trailed}
use Rattle.propagation.specs.Runs.{nogoods_of, FixIs}
use Rattle.propagation.specs.declared.fixpoint.Fix.TheVariants.{Quiet}
use Rattle.atom_pool.specs.declared.atom.AtomNode.{AtomNode}
use Rattle.atom_pool.specs.declared.atom.AtomNode.TheVariants as node
use Rattle.atom_pool.specs.declared.ground.Ground.{Ground}
use Rattle.atom_pool.specs.declared.instances.Made.{Made}
use Rattle.ground_noting.specs.Instances.{kind_of, instance_of}
use Rattle.closing.specs.Closable.{IsNamed, IsClosable, HoldsAll, NoneMustBe, IsFull}
use Rattle.closing.proofs.BodyValues.{IsTrueOrFalse, body_full}
use Rattle.closing.proofs.Values.{HasValue, named_below}

-- the head of a choice is that of the instance
choice_head : (r : RuleKind) (head : Option ℕ) (h : ℕ) → kind_of r head ≡ Choice h → head ≡ Some h
choice_head rule.Plain (Some a) h e = cc
choice_head rule.Choice (Some a) h e = (let same : a ≡ h = cc in ap (λ (x : ℕ). Some x) same)
choice_head rule.Constraint (Some a) h e = cc
choice_head rule.Plain None h e = cc
choice_head rule.Choice None h e = cc
choice_head rule.Constraint None h e = cc

module _ (g : Ground) (stack : List Entry) (ngs : List Nogood) (closable : IsClosable g) (holds : HoldsAll g ngs) (none_unit : NoneUnit stack ngs) (none_struck : NoneStruck stack ngs)
    (none_must : NoneMustBe g stack) (valued : (x : ℕ) → IsNamed g x → HasValue stack x) where
  named_full : (x : ℕ) → IsNamed g x → IsTrueOrFalse stack x
  named_full x named = go (valued x named).0 (valued x named).1
    where
      go : (v : Value) → value_of stack x ≡ Some v → IsTrueOrFalse stack x
      go True e = inl e
      go MustBe e = absurd (none_must x named e)
      go False e = inr e

  -- a named atom is no body atom
  not_body : (b i x : ℕ) → slice_get g.atoms.atoms b ≡ Some (node.Body i) → IsNamed g x → ¬ (x ≡ b)
  not_body b i x at named e = other named.0 named.1 (sym named.2 ∙ ap (slice_get g.atoms.atoms) e ∙ at)
    where
      other : (p : ℕ) (args : List ℕ) → Some (node.Named p args) ≡ Some (node.Body i) → ⊥
      other p args w = cc

  beside : (b i : ℕ) → slice_get g.atoms.atoms b ≡ Some (node.Body i) → (x : ℕ) → IsNamed g x → IsTrueOrFalse stack x × (¬ (x ≡ b))
  beside b i at x named = (named_full x named, not_body b i x at named)

  of_body : (b i : ℕ) → slice_get g.atoms.atoms b ≡ Some (node.Body i) → (k : Made) → slice_get g.instances i ≡ Some k → k.body ≡ Some b → IsTrueOrFalse stack b
  of_body b i at k there has = body_full stack ngs none_unit none_struck b (kind_of k.kind k.head) (instance_of k)
      (subst (BodyFits (kind_of k.kind k.head) k.neg) has (closable.fits k among))
      (λ ng j. holds k among ng (subst (λ (z : Option ℕ). ng ∈ table_of (kind_of k.kind k.head) z (instance_of k)) (sym has) j))
      (λ x j. beside b i at x ((closable.named k among).pos x j))
      (λ x j. beside b i at x ((closable.named k among).neg x j))
      (λ h e. beside b i at h ((closable.named k among).head h (choice_head k.kind k.head h e)))
    where
      among : k ∈ g.instances
      among = get_in g.instances i k there

  all_full : (x : ℕ) → x < length g.atoms.atoms → IsTrueOrFalse stack x
  all_full x low = go (get_below g.atoms.atoms x low).0 (get_below g.atoms.atoms x low).1
    where
      go : (a : AtomNode) → slice_get g.atoms.atoms x ≡ Some a → IsTrueOrFalse stack x
      go (node.Named p args) at = named_full x (p, args, at)
      go (node.Body i) at = let w = closable.bodies x i at in of_body x i at w.0 w.1 w.2

  pub is_full : IsFull g stack
  is_full = record {
    all_valued = λ x low. elim (all_full x low) [ inl t ↦ (True, t) | inr f ↦ (False, f) ];
    none_must_be = λ x low must. elim (all_full x low) [
      | inl t ↦ (let w : Some True ≡ Some MustBe = sym t ∙ must in cc)
      | inr f ↦ (let w : Some False ≡ Some MustBe = sym f ∙ must in cc)
    ];
  }

-- at the end of the loop
pub full_end : (g : Ground) (s0 s : List Stored) (t0 t : Trailed) (same : nogoods_of s ≡ nogoods_of s0) → IsClosable g → HoldsAll g (nogoods_of s0) → FixIs s t Quiet → NoneMustBe g t.stack
    → ((x : ℕ) → x < length g.atoms.atoms → IsNamed g x → HasValue t.stack x) → IsFull g t.stack
full_end g s0 s t0 t same closable holds quiet none valued =
    is_full g t.stack (nogoods_of s) closable (subst (HoldsAll g) (sym same) holds) quiet.1 quiet.0 none (λ x named. valued x (named_below g x named) named)
