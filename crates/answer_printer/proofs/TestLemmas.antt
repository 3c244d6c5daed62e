-- What a step of the tests leaves of what they make.
use Rattle.std.proofs.Common.{◌≡◌, ℕ, ◌<◌, Bool, List, [], ◌∷◌, ◌++◌, length, slice_get, sym, ap, subst, ◌∙◌, arith}
use Rattle.std.specs.Prelude.{All}
use Rattle.std.proofs.lemmas.List.Elements.{All-push, All-weaker}
use Rattle.alpha_outside.specs.declared.node.Node.{Node}
use Rattle.alpha_outside.specs.declared.pred.Pred.TheVariants as pred
use Rattle.term_pool.specs.Interning.{IsInterned}
use Rattle.term_pool.specs.Nodes.{KeepsValues}
use Rattle.atom_pool.specs.declared.atom.AtomNode.TheVariants.{Named}
use Rattle.atom_pool.specs.Pools.{Pool}
use Rattle.atom_pool.proofs.Beside.{beside_more, beside_interned}
use Rattle.atom_pool.specs.Meanings.{IsUserAtom}
use Rattle.lists.specs.Lists.{Each}
use Rattle.lists.proofs.ListLemmas.{Each-from}
use Rattle.answer_printer.specs.Made.{AreMade}
use Rattle.answer_printer.specs.Readers.{below}
use Rattle.answer_printer.proofs.TurnLemmas.{in_below}
use Rattle.answer_printer.proofs.ReadTermsLemmas.{interned_within}
use Rattle.answer_printer.proofs.ReaderLemmas.{users_stay}

pub term_made : (old new : List Node) (atoms : Pool) (stack grown : List ℕ) (n : Node) (id : ℕ) → IsInterned old new n id → KeepsValues old new → grown ≡ stack ++ id ∷ []
    → AreMade old atoms stack → AreMade new atoms grown
term_made old new atoms stack grown n id h kept e m = record {
  within = subst (All (λ a. a < length new)) (sym e) (All-push (λ a. a < length new) stack id
      (All-weaker (λ a. a < length old) (λ a. a < length new) (λ a lt. omega (arith, lt, kept.0)) stack m.within) (interned_within old new n id h));
  beside = beside_more atoms (length old) (length new) kept.0 m.beside;
  users = m.users;
}

pub atom_made : (terms : List Node) (old mid new : Pool) (stack : List ℕ) (negated : Bool) (name : List ℕ) (arity pred_id : ℕ) (args : List ℕ) (id : ℕ)
    → IsInterned old.preds mid.preds (pred.User negated name arity) pred_id → mid.atoms ≡ old.atoms → IsInterned mid.atoms new.atoms (Named pred_id args) id → new.preds ≡ mid.preds
    → All (λ a. a < length terms) args → AreMade terms old stack → AreMade terms new stack
atom_made terms old mid new stack negated name arity pred_id args id p atoms a preds low m = record {
  within = m.within;
  beside = beside_interned mid new (Named pred_id args) id (length terms) a low (λ k x e. m.beside k x (ap (λ l. slice_get l k) (sym atoms) ∙ e));
  users = users_stay terms old mid new negated name arity pred_id args id p atoms a preds m.users;
}

-- all ids of the pool are those of a user's atoms
pub users_below : (pool : Pool) → ((id : ℕ) → id < length pool.atoms → IsUserAtom pool id) → Each (IsUserAtom pool) (below (length pool.atoms))
users_below pool users = Each-from (IsUserAtom pool) (below (length pool.atoms)) (λ id among. users id (in_below (length pool.atoms) id among))
