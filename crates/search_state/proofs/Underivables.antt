-- Atoms that no rule gives: the nogood that says so, and the pattern of such an atom.
use Rattle.std.proofs.Common.{◌≡◌, ℕ, ◌<◌, true, nat_eq, List, [], ◌∷◌, map, take, length, Some, slice_get, refl, sym, ap, subst, ◌∙◌, inl, inr}
use Rattle.std.proofs.lemmas.Option.{same_Some, get_or_from_slice_get}
use Rattle.std.proofs.Math.Seq.{take-length}
use Rattle.std.specs.Prelude.{slice_index_or, All}
use Rattle.std.proofs.lemmas.List.Elements.{All-head, All-tail}
use Rattle.lists.specs.Lists.{Each}
use Rattle.alpha_outside.specs.declared.literal.Lit.{Lit}
use Rattle.alpha_outside.specs.declared.node.Node.{Node}
use Rattle.alpha_outside.specs.declared.pattern.Pattern.{Pattern}
use Rattle.alpha_outside.specs.declared.pattern.PatternTerm.TheVariants.{Known}
use Rattle.alpha_outside.specs.declared.pred.Pred.{Pred}
use Rattle.alpha_outside.specs.declared.pred.Pred.TheVariants as pred
use Rattle.asp_meaning.specs.declared.value.Value as meaning
use Rattle.core_rules.specs.declared.rules.CoreAggregate.{CoreAggregate}
use Rattle.core_rules.specs.declared.rules.Core.{Core}
use Rattle.core_rules.specs.CoreForm as core
use Rattle.core_meaning.specs.Atoms.{GroundAtom, User, ground_atom}
use Rattle.search_values.specs.Ids.{Named}
use Rattle.search_values.proofs.Basics.{nat_eq-same, and_intro}
use Rattle.search_rules.specs.Tests.{same_atom}
use Rattle.search_rules.specs.Rules.{names_atom, is_this}
use Rattle.search_rules.specs.Sameness.{atom_itself}
use Rattle.nogood_store.specs.Stored.{HasNoAtomTwice}
use Rattle.term_pool.specs.Nodes.{value_at}
use Rattle.atom_pool.specs.declared.atom.AtomNode as arena
use Rattle.atom_pool.specs.declared.atom.AtomNode.TheVariants as node
use Rattle.atom_pool.specs.Meanings.{atom_of}
use Rattle.atom_pool.specs.Pools as pools
use Rattle.lazy_grounder.specs.Grounds.{names_of}
use Rattle.lazy_grounder.specs.Lawful.{IsBuilt}
use Rattle.ground_noting.specs.declared.telling.Told.{Told}
use Rattle.justification.specs.Heads as heads
use Rattle.search_state.specs.Searching.{Searching, IsAllTold, ids, terms, LitsAreBelow}
use Rattle.search_state.specs.Moves.{IsNamed}
use Rattle.search_state.specs.Underivable.{IsUnderivable, justified_lits, IsPatternAt}
use Rattle.search_state.proofs.Takes.{take_get}
use Rattle.search_state.proofs.Listing.{name_at, named_told, named_node, name_user, user_pred}

-- ---- the nogood

-- no atom stands in two literals
pub justified_once : (x : ℕ) → HasNoAtomTwice (justified_lits x)
justified_once x = ((λ i. i), tt)

-- its atom has an id
pub justified_low : (v : Searching) (x : ℕ) → IsUnderivable v x → LitsAreBelow (ids v) (justified_lits x)
justified_low v x is l (inl e) = subst (λ (z : Lit). z.atom < ids v) (sym e) (named_told v x (is.atom, is.named))
justified_low v x is l (inr none) = absurd none

-- ---- what is found

-- a named atom is one in the ground
pub is_node : (v : Searching) (x : ℕ) → IsNamed v x → heads.IsNamed v.ground x
is_node v x named = named_node v x named.0 named.1

-- an atom of the ground that nothing gives is underivable
pub none_gives_it : (v : Searching) (x : ℕ) → IsNamed v x → heads.NothingGives v.core v.ground x → IsUnderivable v x
none_gives_it v x named none = record {
  atom = named.0;
  named = named.1;
  none_gives = none named.0 (take_get v.told.atoms (names_of v.core.aggregates v.ground) x (Named named.0) named.1).1;
}

-- ---- the pattern

-- the atom of a predicate of the program
ground_user : (aggs : List CoreAggregate) (q : Pred) (vs : List meaning.Value) (negated : _) (name : List ℕ) (arity : ℕ)
    → q ≡ pred.User negated name arity → ground_atom aggs q vs ≡ Some (User (atom_of q vs))
ground_user aggs q vs negated name arity is =
    let at : (z : Pred) → Type 0 = λ z. ground_atom aggs z vs ≡ Some (User (atom_of z vs)) in
    subst at (sym is) refl

-- both count the arguments of a predicate of the program alike
same_arity : (q : Pred) (negated : _) (name : List ℕ) (arity : ℕ) → q ≡ pred.User negated name arity → core.arity_of q ≡ pools.arity_of q
same_arity q negated name arity is = ap core.arity_of is ∙ sym (ap pools.arity_of is)

-- what holds of all holds of each
each_all : {A : Type 0} (P : A → Type 0) (xs : List A) → All P xs → Each P xs
each_all P [] h = tt
each_all P (x ∷ xs) h = (All-head P x xs h, each_all P xs (All-tail P x xs h))

-- the predicate and the terms name the atom that they make
names_user : (c : Core) (nodes : List Node) (q : Pred) (args : List ℕ) (g : GroundAtom)
    → ground_atom c.aggregates q (map (value_at nodes) args) ≡ Some (User (atom_of q (map (value_at nodes) args)))
    → g ≡ User (atom_of q (map (value_at nodes) args)) → core.arity_of q ≡ length args → names_atom c nodes q args g ≡ true
names_user c nodes q args g made is many =
    let atom : GroundAtom = User (atom_of q (map (value_at nodes) args)) in
    let this : is_this g (ground_atom c.aggregates q (map (value_at nodes) args)) ≡ true =
    ap (is_this g) made ∙ ap (λ z. same_atom atom z) is ∙ atom_itself atom in
    let as_many : nat_eq (core.arity_of q) (length args) ≡ true = ap (λ n. nat_eq n (length args)) many ∙ nat_eq-same (length args) in
    and_intro (nat_eq (core.arity_of q) (length args)) (is_this g (ground_atom c.aggregates q (map (value_at nodes) args))) as_many this

module _ (v : Searching) (all : IsAllTold v) (built : IsBuilt v.core v.ground) (none : v.core.aggregates ≡ []) where
  -- a pattern of the predicate and the terms of an atom's node is that of the atom
  pub pattern_is : (x p : ℕ) (args : List ℕ) (q : Pred) (n : arena.AtomNode) → slice_get v.ground.atoms.atoms x ≡ Some n → n ≡ node.Named p args
      → pools.Fits v.ground.atoms.preds n → slice_get v.ground.atoms.preds p ≡ Some q → (r : Pattern) → r.pred ≡ q → r.args ≡ map Known args
      → r.except ≡ [] → IsPatternAt v x r
  pattern_is x p args q n here is fits there r pred_is args_are no_except g named =
      let nodes = v.ground.terms in
      let at : slice_get v.ground.atoms.atoms x ≡ Some (node.Named p args) = here ∙ ap Some is in
      let has = subst (λ z. pools.Fits v.ground.atoms.preds z) is fits in
      let user = user_pred v.core.aggregates none q (built.atoms x p args q at there) in
      let arity : core.arity_of q ≡ length args = same_arity q user.0 user.1 user.2 user.3
      ∙ ap pools.arity_of (same_Some q has.0 (sym there ∙ has.1)) ∙ has.2 in
      let made = ground_user v.core.aggregates q (map (value_at nodes) args) user.0 user.1 user.2 user.3 in
      let name = name_at v x (node.Named p args) (named_told v x (g, named)) at in
      let whole : slice_index_or v.ground.atoms.preds p (pred.Domain 0 0) ≡ q =
      get_or_from_slice_get v.ground.atoms.preds p q (pred.Domain 0 0) there in
      let atom = name_user v.core.aggregates nodes (slice_index_or v.ground.atoms.preds p (pred.Domain 0 0)) user.0 user.1 user.2
      (map (value_at nodes) args) (whole ∙ user.3) in
      let one : g ≡ User (atom_of q (map (value_at nodes) args)) =
      (let e : Some (Named g) ≡ Some (Named _) = sym named ∙ name in cc) ∙ atom ∙ ap (λ z. User (atom_of z (map (value_at nodes) args))) whole in
      let terms_are : terms v ≡ nodes = ap (λ (u : Told). take u.terms nodes) all ∙ take-length nodes in (
        args,
        args_are,
        no_except,
        subst (λ ns. Each (λ t. t < length ns) args) (sym terms_are) (each_all (λ t. t < length nodes) args
            (built.whole.beside x (node.Named p args) at)),
        subst (λ ns. names_atom v.core ns r.pred args g ≡ true) (sym terms_are)
            (subst (λ z. names_atom v.core nodes z args g ≡ true) (sym pred_is) (names_user v.core nodes q args g made one arity)),
      )
