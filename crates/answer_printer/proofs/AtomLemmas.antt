-- What the atoms of a pool stand for, and that different ids stand for different atoms.
use Rattle.std.proofs.Common.{◌≡◌, ℕ, ◌<◌, Bool, false, List, [], ◌++◌, length, map, append_assoc, slice_get, Some, refl, sym, ap, subst, ◌∙◌, arith}
use Rattle.std.specs.Prelude.{All}
use Rattle.std.proofs.lemmas.Option.{get_or_from_slice_get, same_Some}
use Rattle.alpha_outside.specs.declared.node.Node.{Node}
use Rattle.alpha_outside.specs.declared.pred.Pred.{Pred}
use Rattle.alpha_outside.specs.declared.pred.Pred.TheVariants as pred
use Rattle.asp_meaning.specs.Atoms.{Atom}
use Rattle.asp_meaning.specs.declared.value.Value.{Value}
use Rattle.term_pool.specs.Nodes.{value_at, values, IsPool}
use Rattle.asp_meaning.specs.Lines.{atom_text, call_text, sign_text, value_text}
use Rattle.term_pool.proofs.PlaceLemmas.{map-map}
use Rattle.term_pool.proofs.PoolLemmas.{length-values}
use Rattle.term_pool.proofs.OnceLemmas.{same_parts, values_once}
use Rattle.atom_pool.specs.declared.atom.AtomNode.{AtomNode}
use Rattle.atom_pool.specs.declared.atom.AtomNode.TheVariants.{Named, Body}
use Rattle.atom_pool.specs.Pools.{Pool, IsAtomPool, arity_of}
use Rattle.answer_printer.specs.Pieces.{term_text}
use Rattle.answer_printer.proofs.SeparatorLemmas.{name_and_arguments}
use Rattle.atom_pool.specs.Meanings.{no_atom, atom_of, atom_from, atom_at, IsUserAtom, IsBeside}

pub at_node : (terms : List Node) (pool : Pool) (id : ℕ) (a : AtomNode) → slice_get pool.atoms id ≡ Some a → atom_at terms pool id ≡ atom_from terms pool.preds a
at_node terms pool id a there = ap (atom_from terms pool.preds) (get_or_from_slice_get pool.atoms id a (Body 0) there)

pub at_pred : (terms : List Node) (pool : Pool) (id k : ℕ) (args : List ℕ) (p : Pred) → slice_get pool.atoms id ≡ Some (Named k args) → slice_get pool.preds k ≡ Some p
    → atom_at terms pool id ≡ atom_of p (map (value_at terms) args)
at_pred terms pool id k args p there is =
    at_node terms pool id (Named k args) there ∙ ap (λ q. atom_of q (map (value_at terms) args)) (get_or_from_slice_get pool.preds k p (pred.Domain 0 0) is)

no_user : (p : Pred) (args : List Value) → ((negated : Bool) (name : List ℕ) (arity : ℕ) → p ≡ pred.User negated name arity → ⊥) → atom_of p args ≡ no_atom
no_user (pred.User negated name arity) args other = absurd (other negated name arity refl)
no_user (pred.Domain agg arity) args other = refl
no_user (pred.Member agg arity) args other = refl
no_user (pred.Total agg arity) args other = refl
no_user (pred.Grid agg plus arity) args other = refl
no_user (pred.Reach agg plus arity) args other = refl
no_user (pred.Above agg plus arity) args other = refl

pub at_other : (terms : List Node) (pool : Pool) (id k : ℕ) (args : List ℕ) (p : Pred) → slice_get pool.atoms id ≡ Some (Named k args) → slice_get pool.preds k ≡ Some p
    → ((negated : Bool) (name : List ℕ) (arity : ℕ) → p ≡ pred.User negated name arity → ⊥) → atom_at terms pool id ≡ no_atom
at_other terms pool id k args p there is other = at_pred terms pool id k args p there is ∙ no_user p (map (value_at terms) args) other

-- the atom of a user's id
pub at_user : (terms : List Node) (pool : Pool) (id : ℕ) (u : IsUserAtom pool id) → atom_at terms pool id ≡ record { negated = u.negated; name = u.name; args = map (value_at terms) u.args }
at_user terms pool id u = at_pred terms pool id u.pred_id u.args (pred.User u.negated u.name u.arity) u.node u.user

-- different ids stand for different atoms
pub same_atom : (terms : List Node) (pool : Pool) (a b : ℕ) → IsPool terms → IsAtomPool pool → IsBeside pool (length terms) → IsUserAtom pool a → IsUserAtom pool b
    → atom_at terms pool a ≡ atom_at terms pool b → a ≡ b
same_atom terms pool a b t p beside u v e =
    let is : record { negated = u.negated; name = u.name; args = map (value_at terms) u.args } ≡ record { negated = v.negated; name = v.name; args = map (value_at terms) v.args } =
    sym (at_user terms pool a u) ∙ e ∙ at_user terms pool b v in
    let low : (args : List ℕ) → All (λ k. k < length terms) args → All (λ k. k < length (values terms)) args = λ args h. subst (λ n. All (λ k. k < n) args) (sym (length-values terms)) h in
    let args : u.args ≡ v.args = same_parts (values terms) (values_once terms t) u.args v.args (low u.args (beside a (Named u.pred_id u.args) u.node)) (low v.args (beside b (Named v.pred_id v.args) v.node)) (ap (λ (x : Atom). x.args) is) in
    let left = p.fit a (Named u.pred_id u.args) u.node in
    let right = p.fit b (Named v.pred_id v.args) v.node in
    let left_arity : u.arity ≡ length u.args = ap arity_of (same_Some (pred.User u.negated u.name u.arity) left.0 (sym u.user ∙ left.1)) ∙ left.2 in
    let right_arity : v.arity ≡ length v.args = ap arity_of (same_Some (pred.User v.negated v.name v.arity) right.0 (sym v.user ∙ right.1)) ∙ right.2 in
    let arity : u.arity ≡ v.arity = left_arity ∙ ap length args ∙ sym right_arity in
    let preds : u.pred_id ≡ v.pred_id = p.preds_once u.pred_id v.pred_id (pred.User u.negated u.name u.arity) u.user
    (v.user ∙ (λ i. Some (pred.User (sym (ap (λ (x : Atom). x.negated) is) i) (sym (ap (λ (x : Atom). x.name) is) i) (sym arity i)))) in
    p.atoms_once a b (Named u.pred_id u.args) u.node (v.node ∙ (λ i. Some (Named (sym preds i) (sym args i))))

-- the text of an atom, written by its parts
pub atom_written : (terms : List Node) (pool : Pool) (id : ℕ) (negated : Bool) (name args : List ℕ) (before signed named after : List ℕ)
    → atom_at terms pool id ≡ record { negated = negated; name = name; args = map (value_at terms) args }
    → signed ≡ before ++ sign_text negated → named ≡ signed ++ name → after ≡ named ++ call_text [] (map (term_text terms) args) → after ≡ before ++ atom_text (atom_at terms pool id)
atom_written terms pool id negated name args before signed named after is s t u =
    let rest : List ℕ = call_text [] (map (term_text terms) args) in
    u ∙ ap (λ l. l ++ rest) (t ∙ ap (λ l. l ++ name) s ∙ append_assoc before (sign_text negated) name)
    ∙ append_assoc before (sign_text negated ++ name) rest
    ∙ ap (λ l. before ++ l) (append_assoc (sign_text negated) name rest
    ∙ ap (λ l. sign_text negated ++ l) (name_and_arguments name (map (term_text terms) args) ∙ ap (call_text name) (sym (map-map value_text (value_at terms) args))))
    ∙ ap (λ a. before ++ atom_text a) (sym is)

-- what is printed where there is no user's atom
pub nothing_is : (terms : List Node) (negated : Bool) (name args : List ℕ) → negated ≡ false → name ≡ [] → args ≡ [] → no_atom ≡ record { negated = negated; name = name; args = map (value_at terms) args }
nothing_is terms negated name args n m a = λ i. record { negated = sym n i; name = sym m i; args = map (value_at terms) (sym a i) }

pub none_below : (n : ℕ) (args : List ℕ) → args ≡ [] → All (λ a. a < n) args
none_below n args e = subst (λ l. All (λ a. a < n) l) (sym e) (λ k d lt. absurd (omega (arith, lt)))
