-- The named atoms of a search, and those of them that are true.
use Rattle.std.proofs.Common.{◌≡◌, ℕ, ◌+◌, ◌<◌, ◌≤◌, Bool, true, false, true≢false, List, [], ◌∷◌, ◌++◌, length, map, Option, Some, slice_get, get_or, refl, sym, ap, subst, ◌∙◌, inl, inr, arith}
use Rattle.std.specs.Prelude.{is_some, slice_index_or, Result, Ok, Err, IfOk}
use Rattle.std.specs.Option.{option_map}
use Rattle.std.specs.declared.cmp.Ordering.TheVariants.{Less, Equal}
use Rattle.std.specs.Cmp.{tied_itself}
use Rattle.std.proofs.lemmas.Option.{slice_get-map, slice_get-get_or, get_or_from_slice_get, none-some}
use borrow.Author.Count.{below_more}
use Rattle.lists.specs.Lists.{◌∈◌, Each, HasNoRepeats, SameSet}
use Rattle.lists.proofs.ListLemmas.{Each-at, Each-from, ∈-append_left, ∈-append_right, ∈-append_cases}
use Rattle.alpha_outside.specs.declared.node.Node.{Node}
use Rattle.alpha_outside.specs.declared.pred.Pred.{Pred}
use Rattle.alpha_outside.specs.declared.pred.Pred.TheVariants as pred
use Rattle.asp_meaning.specs.declared.value.Value as meaning
use Rattle.asp_meaning.specs.Atoms.{Atom}
use Rattle.asp_meaning.specs.Lines.{IsInOrder, atom_cmp}
use Rattle.asp_meaning.proofs.AtomOrder.{atom_cmp_total}
use Rattle.core_rules.specs.declared.rules.CoreAggregate.{CoreAggregate}
use Rattle.core_rules.specs.CoreForm.{MayStand}
use Rattle.core_meaning.specs.Atoms.{GroundAtom, User, ground_atom}
use Rattle.search_values.specs.Values.{True, value_of}
use Rattle.search_values.specs.Ids.{AtomNode, Named, Names}
use Rattle.search_values.proofs.Basics.{in_single}
use Rattle.term_pool.specs.Nodes.{value_at}
use Rattle.atom_pool.specs.declared.atom.AtomNode as arena
use Rattle.atom_pool.specs.declared.atom.AtomNode.TheVariants as node
use Rattle.atom_pool.specs.Atoms.{pred_of}
use Rattle.atom_pool.specs.Pools.{IsAtomPool}
use Rattle.atom_pool.specs.Meanings.{IsUserAtom, atom_of, atom_at}
use Rattle.answer_printer.proofs.AtomLemmas.{at_node}
use Rattle.lazy_grounder.specs.Grounds.{name_of, atom_or_none}
use Rattle.lazy_grounder.specs.Lawful.{IsBuilt}
use Rattle.search_state.specs.Searching.{Searching, ids, names}
use Rattle.search_state.specs.Moves.{IsNamed, AreTrueNames, AreTrueIds}
use Rattle.search_state.proofs.Takes.{take_get, get_take, get_mapped}

-- one that isn't there yet goes last
pub repeats_more : (xs : List ℕ) (x : ℕ) → HasNoRepeats xs → ¬ (x ∈ xs) → HasNoRepeats (xs ++ x ∷ [])
repeats_more [] x once new = (λ i. i, tt)
repeats_more (y ∷ xs) x once new = (
  λ i. elim (∈-append_cases y xs (x ∷ []) i) [ inl j ↦ once.0 j | inr j ↦ new (inl (sym (in_single j))) ],
  repeats_more xs x once.1 (λ i. new (inr i)),
)

-- what follows from what two clauses say of an answer
pub both_ok : {A E : Type 0} {P Q R : A → Type 0} (r : Result A E) → IfOk r P → IfOk r Q → ((x : A) → P x → Q x → R x) → IfOk r R
both_ok (Ok x) p q f = f x p q
both_ok (Err e) p q f = p

-- ---- the true ones below a number

-- there is none below 0
pub names_none : (v : Searching) → AreTrueNames v 0 []
names_none v = record { all_there = λ x low. absurd (omega arith); each_true = λ x i. absurd i; once = tt }

-- the next id is that of a named atom that is true
pub names_more : (v : Searching) (n : ℕ) (atoms : List ℕ) → AreTrueNames v n atoms → IsNamed v n → value_of v.stack n ≡ Some True
    → AreTrueNames v (n + 1) (atoms ++ n ∷ [])
names_more v n atoms old named here = record {
  all_there = below_more (λ x. IsNamed v x → value_of v.stack x ≡ Some True → x ∈ (atoms ++ n ∷ [])) n
      (λ x low is has. ∈-append_left x atoms (n ∷ []) (old.all_there x low is has))
      (λ is has. ∈-append_right n atoms (n ∷ []) (inl refl));
  each_true = λ x i. elim (∈-append_cases x atoms (n ∷ []) i) [
    | inl j ↦ (let t = old.each_true x j in ((let k = t.0 in omega arith), t.1, t.2))
    | inr j ↦ (let e : x ≡ n = in_single j in (
      omega arith,
      subst (IsNamed v) (sym e) named,
      subst (λ z. value_of v.stack z ≡ Some True)
          (sym e) here,
    ))
  ];
  once = repeats_more atoms n old.once (λ i. let low = (old.each_true n i).0 in omega arith);
}

-- the next id is of no such atom
pub names_same : (v : Searching) (n : ℕ) (atoms : List ℕ) → AreTrueNames v n atoms → (IsNamed v n → ¬ (value_of v.stack n ≡ Some True))
    → AreTrueNames v (n + 1) atoms
names_same v n atoms old here = record {
  all_there = below_more (λ x. IsNamed v x → value_of v.stack x ≡ Some True → x ∈ atoms) n old.all_there (λ is has. absurd (here is has));
  each_true = λ x i. let t = old.each_true x i in ((let k = t.0 in omega arith), t.1, t.2);
  once = old.once;
}

-- an atom of the program as the search names it
same_named : (a b : Atom) → (let wrap : Atom → Option (AtomNode GroundAtom) = λ z. Some (Named (User z)) in wrap a ≡ wrap b) → a ≡ b
same_named a b e = cc

-- ids that name atoms name them one by one
names_member : (names : List (AtomNode GroundAtom)) (xs : List ℕ) (set : List Atom) (x : ℕ) → Names names xs (map User set) → x ∈ xs →
    (b : Atom) × (b ∈ set) × (slice_get names x ≡ Some (Named (User b)))
names_member names [] set x are among = absurd among
names_member names (y ∷ xs) [] x are among = absurd are
names_member names (y ∷ xs) (a ∷ set) x are (inl e) = (a, inl refl, ap (slice_get names) e ∙ are.0)
names_member names (y ∷ xs) (a ∷ set) x are (inr later) = let found = names_member names xs set x are.1 later in
    (found.0, inr found.1, found.2)

-- in the order of a line no id stands twice
pub once_in_order : (names : List (AtomNode GroundAtom)) (xs : List ℕ) (set : List Atom) → Names names xs (map User set) → IsInOrder set
    → HasNoRepeats xs
once_in_order names [] set are ordered = tt
once_in_order names (x ∷ xs) [] are ordered = absurd are
once_in_order names (x ∷ xs) (a ∷ set) are ordered = (
  λ again.
      let found = names_member names xs set x are.1 again in
      let same : a ≡ found.0 = same_named a found.0 (sym are.0 ∙ found.2) in
      let less : atom_cmp a found.0 ≡ Less = Each-at (λ b. atom_cmp a b ≡ Less) set found.0 ordered.0 found.1 in
      let tied : atom_cmp a found.0 ≡ Equal = ap (atom_cmp a) (sym same) ∙ tied_itself atom_cmp_total a in
      let bad : Less ≡ Equal = sym less ∙ tied in
      cc,
  once_in_order names xs set are.1 ordered.1,
)

-- ---- ids and what stands in the arena

-- an atom of a predicate of the program stands for an atom of the program
pub name_user : (aggs : List CoreAggregate) (nodes : List Node) (q : Pred) (negated : Bool) (name : List ℕ) (arity : ℕ)
    (args : List meaning.Value) → q ≡ pred.User negated name arity
    → atom_or_none (ground_atom aggs q args) ≡ User (atom_of q args)
name_user aggs nodes q negated name arity args is = ap (λ p. atom_or_none (ground_atom aggs p args)) is ∙ sym
    (ap (λ p. User (atom_of p args)) is)

-- a predicate that may stand in a core without aggregates is one of the program
pub user_pred : (aggs : List CoreAggregate) → aggs ≡ [] → (q : Pred) → MayStand aggs q → (negated : Bool) × (name : List ℕ) × (arity : ℕ) ×
    (q ≡ pred.User negated name arity)
user_pred aggs none (pred.User negated name arity) stands = (negated, name, arity, refl)
user_pred aggs none (pred.Domain agg arity) stands = absurd (none-some stands.0
    (ap (λ (gs : List CoreAggregate). slice_get gs agg) (sym none) ∙ stands.1))
user_pred aggs none (pred.Member agg arity) stands = absurd (none-some stands.0
    (ap (λ (gs : List CoreAggregate). slice_get gs agg) (sym none) ∙ stands.1))
user_pred aggs none (pred.Total agg arity) stands = absurd (none-some stands.0
    (ap (λ (gs : List CoreAggregate). slice_get gs agg) (sym none) ∙ stands.1))
user_pred aggs none (pred.Grid agg plus arity) stands = absurd stands
user_pred aggs none (pred.Reach agg plus arity) stands = absurd stands
user_pred aggs none (pred.Above agg plus arity) stands = absurd stands

module _ (v : Searching) where
  -- what an atom of the arena stands for here
  abbrev here : arena.AtomNode → AtomNode GroundAtom
  here = name_of v.core.aggregates v.ground.terms v.ground.atoms.preds

  -- what an id that was told stands for
  pub name_at : (x : ℕ) (n : arena.AtomNode) → x < ids v → slice_get v.ground.atoms.atoms x ≡ Some n → slice_get (names v) x ≡ Some (here n)
  name_at x n low at =
      get_take v.told.atoms (map here v.ground.atoms.atoms) x (here n) low
      (slice_get-map here v.ground.atoms.atoms x ∙ ap (option_map here) at)

  -- an id that names an atom was told
  pub named_told : (x : ℕ) → IsNamed v x → x < ids v
  named_told x named = (take_get v.told.atoms (map here v.ground.atoms.atoms) x (Named named.0) named.1).0

  -- a named atom has a predicate and arguments
  pub named_node : (x : ℕ) (a : GroundAtom) → slice_get (names v) x ≡ Some (Named a) → (p : ℕ) × (args : List ℕ) ×
      (slice_get v.ground.atoms.atoms x ≡ Some (node.Named p args))
  named_node x a named = (let from = get_mapped here v.ground.atoms.atoms x (Named a)
      (take_get v.told.atoms (map here v.ground.atoms.atoms) x (Named a) named).1 in by_node from.0 from.1 from.2)
    where
      by_node : (n : arena.AtomNode) → slice_get v.ground.atoms.atoms x ≡ Some n
          → name_of v.core.aggregates v.ground.terms v.ground.atoms.preds n ≡ Named a
          → (p : ℕ) × (args : List ℕ) × (slice_get v.ground.atoms.atoms x ≡ Some (node.Named p args))
      by_node (node.Named p args) at e = (p, args, at)
      by_node (node.Body inst) at e = absurd (cc)

  -- where the predicate is asked for, an atom with one is named, and one without is not
  pub has_pred : v.told.atoms ≤ length v.ground.atoms.atoms → (x : ℕ) (o : Option ℕ) → x < ids v →
      ((n : arena.AtomNode) → slice_get v.ground.atoms.atoms x ≡ Some n → o ≡ pred_of n) → is_some o ≡ true → IsNamed v x
  has_pred few x o low told has =
      (let at = slice_get-get_or v.ground.atoms.atoms x (node.Body 0) (omega (arith, low, few)) in by_node
      (get_or v.ground.atoms.atoms x (node.Body 0)) at (told (get_or v.ground.atoms.atoms x (node.Body 0)) at))
    where
      by_node : (n : arena.AtomNode) → slice_get v.ground.atoms.atoms x ≡ Some n → o ≡ pred_of n → IsNamed v x
      by_node (node.Named p args) at t = (
        atom_or_none (ground_atom v.core.aggregates (slice_index_or v.ground.atoms.preds p
            (pred.Domain 0 0)) (map (value_at v.ground.terms) args)),
        name_at x (node.Named p args) low at,
      )
      by_node (node.Body inst) at t = absurd (true≢false (sym has ∙ ap is_some t))

  -- nor is one without a predicate
  pub has_no_pred : (x : ℕ) (o : Option ℕ) → ((n : arena.AtomNode) → slice_get v.ground.atoms.atoms x ≡ Some n → o ≡ pred_of n)
      → is_some o ≡ false → ¬ IsNamed v x
  has_no_pred x o told lacks named =
      let at = named_node x named.0 named.1 in
      let bad : true ≡ false = sym (ap is_some (told (node.Named at.0 at.1) at.2)) ∙ lacks in
      true≢false bad

  module _ (whole : IsAtomPool v.ground.atoms) (built : IsBuilt v.core v.ground) (none : v.core.aggregates ≡ []) where
    -- an id that names an atom is one of a predicate that the program has
    pub named_user : (x : ℕ) → IsNamed v x → IsUserAtom v.ground.atoms x
    named_user x named =
        let at = named_node x named.0 named.1 in
        let fit = whole.fit x (node.Named at.0 at.1) at.2 in
        let user = user_pred v.core.aggregates none fit.0 (built.atoms x at.0 at.1 fit.0 at.2 fit.1) in
        record { pred_id = at.0; args = at.1; negated = user.0; name = user.1; arity = user.2; node = at.2; user = fit.1 ∙ ap Some user.3 }

    -- so are all that name atoms
    pub named_users : (xs : List ℕ) → ((x : ℕ) → x ∈ xs → IsNamed v x) → Each (IsUserAtom v.ground.atoms) xs
    named_users xs named = Each-from (IsUserAtom v.ground.atoms) xs (λ x among. named_user x (named x among))

    -- it names the atom that it stands for
    pub user_name : (x : ℕ) → x < ids v → IsUserAtom v.ground.atoms x → slice_get (names v) x ≡ Some
        (Named (User (atom_at v.ground.terms v.ground.atoms x)))
    user_name x low u =
        name_at x (node.Named u.pred_id u.args) low u.node
        ∙ ap (λ a. Some (Named a)) (name_user v.core.aggregates v.ground.terms
        (slice_index_or v.ground.atoms.preds u.pred_id (pred.Domain 0 0)) u.negated u.name u.arity (map (value_at v.ground.terms) u.args)
        (get_or_from_slice_get v.ground.atoms.preds u.pred_id (pred.User u.negated u.name u.arity) (pred.Domain 0 0) u.user))
        ∙ ap (λ a. Some (Named (User a))) (sym (at_node v.ground.terms v.ground.atoms x (node.Named u.pred_id u.args) u.node))

    -- so do ids one by one
    names_at : (xs : List ℕ) → Each (IsNamed v) xs → Names (names v) xs (map User (map (atom_at v.ground.terms v.ground.atoms) xs))
    names_at [] named = tt
    names_at (x ∷ xs) named = (user_name x (named_told x named.0) (named_user x named.0), names_at xs named.1)

    -- and they name nothing else
    pub names_are : (xs : List ℕ) (set : List Atom) → Names (names v) xs (map User set) → map
        (atom_at v.ground.terms v.ground.atoms) xs ≡ set
    names_are [] [] are = refl
    names_are [] (a ∷ set) are = absurd are
    names_are (x ∷ xs) [] are = absurd are
    names_are (x ∷ xs) (a ∷ set) are =
        let named : IsNamed v x = (User a, are.0) in
        let first : atom_at v.ground.terms v.ground.atoms x ≡ a = same_named (atom_at v.ground.terms v.ground.atoms x) a
        (sym (user_name x (named_told x named) (named_user x named)) ∙ are.0) in
        let rest = names_are xs set are.1 in
        λ i. first i ∷ rest i

    -- the true ones in the order of a line
    pub true_in_order : (all sorted : List ℕ) → AreTrueNames v (ids v) all → SameSet all sorted → IsInOrder
        (map (atom_at v.ground.terms v.ground.atoms) sorted) → AreTrueIds v sorted
    true_in_order all sorted are same ordered = record {
      all_there = λ x named is_true. same.to x (are.all_there x (named_told x named) named is_true);
      each_true = λ x among. let t = are.each_true x (same.back x among) in
          (atom_at v.ground.terms v.ground.atoms x, user_name x t.0 (named_user x t.1), t.2);
      set = map (atom_at v.ground.terms v.ground.atoms) sorted;
      names = names_at sorted (Each-from (IsNamed v) sorted (λ x among. (are.each_true x (same.back x among)).1));
      ordered = ordered;
    }
