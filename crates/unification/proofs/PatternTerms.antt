-- Induction over terms of patterns, and what is said of one by its outermost symbol.
use Rattle.std.proofs.Common.{◌≡◌, inl, inr, ◌⊎◌, ℕ, ◌<◌, List, [], ◌∷◌, ◌++◌, length, map, refl, sym, ap, subst, ◌∙◌, arith}
use Rattle.lists.specs.Lists.{◌∈◌, Each, concat}
use Rattle.lists.proofs.ListLemmas.{∈-concat_map, ∈-concat_map_from, Each-at, Each-from}
use Rattle.asp_syntax.specs.Trees.{name, no_arguments, IsAllowed}
use Rattle.alpha_outside.specs.declared.node.Node.{Node}
use Rattle.alpha_outside.specs.declared.pattern.PatternTerm.{PatternTerm, map-PatternTerm}
use Rattle.alpha_outside.specs.declared.pattern.PatternTerm.TheOpen.{PatternTerm-F}
use Rattle.alpha_outside.specs.declared.pattern.PatternTerm.TheOpen as layer
use Rattle.alpha_outside.specs.declared.pattern.PatternTerm.TheVariants as pattern
use Rattle.alpha_outside.specs.declared.pattern.PatternTerm.TheViews.{roll-PatternTerm}
use Rattle.alpha_outside.specs.declared.pattern.PatternTerm.TheFolds.{ind-PatternTerm, fold-roll-PatternTerm}
use Rattle.asp_meaning.specs.declared.value.Value.{Value}
use Rattle.asp_meaning.specs.Terms.{functional}
use Rattle.term_pool.specs.Nodes.{value_at}
use Rattle.unification.specs.Patterns.{Piece, hole, known, part, call_pieces, pieces, pieces_step, IsFine, IsPatternTerm, HasHole, Holes, fill, fill_step, put, put_step}

-- ---- induction

-- the terms that stand right in a term
abbrev pub children : PatternTerm-F PatternTerm → List PatternTerm
children (layer.Hole x) = []
children (layer.Known id) = []
children (layer.Fun f args) = args

module _ (P : PatternTerm → Type 0) where
  -- what holds of each of a list holds of a member
  of_list : (es : List ((t : PatternTerm) × P t)) → (u : PatternTerm) → u ∈ map (λ e. e.0) es → P u
  of_list [] u k = absurd k
  of_list (e ∷ es) u (inl same) = subst P (sym same) e.1
  of_list (e ∷ es) u (inr k) = of_list es u k

  -- what holds of the terms in a layer holds of each child
  of_children : (y : PatternTerm-F ((t : PatternTerm) × P t)) → (u : PatternTerm) → u ∈ children (map-PatternTerm ((t : PatternTerm) × P t) PatternTerm (λ e. e.0) y) → P u
  of_children (layer.Hole x) u k = absurd k
  of_children (layer.Known id) u k = absurd k
  of_children (layer.Fun f args) u k = of_list args u k

  by_children : ((y : PatternTerm-F PatternTerm) → ((u : PatternTerm) → u ∈ children y → P u) → P (roll-PatternTerm y)) → (t : PatternTerm) → P t
  by_children step = ind-PatternTerm P (λ x y is. subst (λ z. P (roll-PatternTerm z)) is (step (map-PatternTerm ((t : PatternTerm) × P t) PatternTerm (λ e. e.0) y) (of_children y)))

  -- what holds of holes and known terms, and of a functional term where it holds of its arguments, holds of every term
  pub by_terms : ((x : ℕ) → P (pattern.Hole x)) → ((id : ℕ) → P (pattern.Known id)) → ((f : List ℕ) (args : List PatternTerm) → ((u : PatternTerm) → u ∈ args → P u) → P (pattern.Fun f args))
      → (t : PatternTerm) → P t
  by_terms on_hole on_known on_call = by_children step
    where
      step : (y : PatternTerm-F PatternTerm) → ((u : PatternTerm) → u ∈ children y → P u) → P (roll-PatternTerm y)
      step (layer.Hole x) ih = subst P (sym (pattern.rolls-Hole x)) (on_hole x)
      step (layer.Known id) ih = subst P (sym (pattern.rolls-Known id)) (on_known id)
      step (layer.Fun f args) ih = subst P (sym (pattern.rolls-Fun f args)) (on_call f args ih)

-- ---- what a term becomes

module _ (nodes : List Node) (h : Holes) where
  pub fill-Hole : (x : ℕ) → fill nodes h (pattern.Hole x) ≡ h x
  fill-Hole x = ap (fill nodes h) (sym (pattern.rolls-Hole x)) ∙ fold-roll-PatternTerm Value (fill_step nodes h) (layer.Hole x)

  pub fill-Known : (id : ℕ) → fill nodes h (pattern.Known id) ≡ value_at nodes id
  fill-Known id = ap (fill nodes h) (sym (pattern.rolls-Known id)) ∙ fold-roll-PatternTerm Value (fill_step nodes h) (layer.Known id)

  pub fill-Fun : (f : List ℕ) (args : List PatternTerm) → fill nodes h (pattern.Fun f args) ≡ functional f (map (fill nodes h) args)
  fill-Fun f args = ap (fill nodes h) (sym (pattern.rolls-Fun f args)) ∙ fold-roll-PatternTerm Value (fill_step nodes h) (layer.Fun f args)

-- ---- terms in place of holes

module _ (s : ℕ → PatternTerm) where
  pub put-Hole : (x : ℕ) → put s (pattern.Hole x) ≡ s x
  put-Hole x = ap (put s) (sym (pattern.rolls-Hole x)) ∙ fold-roll-PatternTerm PatternTerm (put_step s) (layer.Hole x)

  pub put-Known : (id : ℕ) → put s (pattern.Known id) ≡ pattern.Known id
  put-Known id = ap (put s) (sym (pattern.rolls-Known id)) ∙ fold-roll-PatternTerm PatternTerm (put_step s) (layer.Known id)

  pub put-Fun : (f : List ℕ) (args : List PatternTerm) → put s (pattern.Fun f args) ≡ pattern.Fun f (map (put s) args)
  put-Fun f args = ap (put s) (sym (pattern.rolls-Fun f args)) ∙ fold-roll-PatternTerm PatternTerm (put_step s) (layer.Fun f args)

-- ---- what stands in a term

pub pieces-Hole : (x : ℕ) → pieces (pattern.Hole x) ≡ hole x ∷ []
pieces-Hole x = ap pieces (sym (pattern.rolls-Hole x)) ∙ fold-roll-PatternTerm (List Piece) pieces_step (layer.Hole x)

pub pieces-Known : (id : ℕ) → pieces (pattern.Known id) ≡ known id ∷ []
pieces-Known id = ap pieces (sym (pattern.rolls-Known id)) ∙ fold-roll-PatternTerm (List Piece) pieces_step (layer.Known id)

pub pieces-Fun : (f : List ℕ) (args : List PatternTerm) → pieces (pattern.Fun f args) ≡ call_pieces f (map pieces args)
pieces-Fun f args = ap pieces (sym (pattern.rolls-Fun f args)) ∙ fold-roll-PatternTerm (List Piece) pieces_step (layer.Fun f args)

hole_in_call : (x : ℕ) (f : List ℕ) (args : List PatternTerm) → hole x ∈ call_pieces f (map pieces args) → (u : PatternTerm) × (u ∈ args) × HasHole u x
hole_in_call x f [] (inl e) = absurd (cc)
hole_in_call x f [] (inr k) = absurd k
hole_in_call x f (u ∷ us) (inl e) = absurd (cc)
hole_in_call x f (u ∷ us) (inr k) = ∈-concat_map_from pieces (u ∷ us) (hole x) k

-- a hole of a functional term is one of an argument
pub hole_of_call : (x : ℕ) (f : List ℕ) (args : List PatternTerm) → HasHole (pattern.Fun f args) x → (u : PatternTerm) × (u ∈ args) × HasHole u x
hole_of_call x f args k = hole_in_call x f args (subst (λ ps. hole x ∈ ps) (pieces-Fun f args) k)

in_call : (q : Piece) (f : List ℕ) (args : List PatternTerm) (u : PatternTerm) → u ∈ args → q ∈ pieces u → q ∈ call_pieces f (map pieces args)
in_call q f [] u k i = absurd k
in_call q f (v ∷ us) u k i = inr (∈-concat_map pieces u (v ∷ us) q k i)

-- and the other way round
pub of_argument : (q : Piece) (f : List ℕ) (args : List PatternTerm) (u : PatternTerm) → u ∈ args → q ∈ pieces u → q ∈ pieces (pattern.Fun f args)
of_argument q f args u k i = subst (λ ps. q ∈ ps) (sym (pieces-Fun f args)) (in_call q f args u k i)

-- a hole has just itself
pub hole_of_hole : (x y : ℕ) → HasHole (pattern.Hole x) y → y ≡ x
hole_of_hole x y k = elim (subst (λ ps. hole y ∈ ps) (pieces-Hole x) k) [ inl e ↦ same_hole e | inr j ↦ absurd j ]
  where
    same_hole : hole y ≡ hole x → y ≡ x
    same_hole e = cc

pub its_own_hole : (x : ℕ) → HasHole (pattern.Hole x) x
its_own_hole x = subst (λ ps. hole x ∈ ps) (sym (pieces-Hole x)) (inl refl)

-- a known term has none
pub no_hole_known : (id x : ℕ) → ¬ HasHole (pattern.Known id) x
no_hole_known id x k = elim (subst (λ ps. hole x ∈ ps) (pieces-Known id) k) [ inl e ↦ absurd (differ e) | inr j ↦ absurd j ]
  where
    differ : hole x ≡ known id → ⊥
    differ e = cc

-- ---- terms beside a pool

pub fine_hole : (n x : ℕ) → IsPatternTerm n (pattern.Hole x)
fine_hole n x = subst (Each (IsFine n)) (sym (pieces-Hole x)) (tt, tt)

pub fine_known : (n id : ℕ) → id < n → IsPatternTerm n (pattern.Known id)
fine_known n id lt = subst (Each (IsFine n)) (sym (pieces-Known id)) (lt, tt)

pub known_below : (n id : ℕ) → IsPatternTerm n (pattern.Known id) → id < n
known_below n id fine = (subst (Each (IsFine n)) (pieces-Known id) fine).0

pub fine_argument : (n : ℕ) (f : List ℕ) (args : List PatternTerm) → IsPatternTerm n (pattern.Fun f args) → (u : PatternTerm) → u ∈ args → IsPatternTerm n u
fine_argument n f args fine u k = Each-from (IsFine n) (pieces u) (λ q i. Each-at (IsFine n) (pieces (pattern.Fun f args)) q fine (of_argument q f args u k i))

some_in_call : (n : ℕ) (f : List ℕ) (args : List PatternTerm) → Each (IsFine n) (call_pieces f (map pieces args)) → (0 < length args) × IsAllowed (name f)
some_in_call n f [] fine = absurd fine.0
some_in_call n f (u ∷ us) fine = (omega arith, fine.0)

-- a functional term has arguments and a name
pub has_some : (n : ℕ) (f : List ℕ) (args : List PatternTerm) → IsPatternTerm n (pattern.Fun f args) → (0 < length args) × IsAllowed (name f)
has_some n f args fine = some_in_call n f args (subst (Each (IsFine n)) (pieces-Fun f args) fine)

fine_in_call : (n : ℕ) (f : List ℕ) (args : List PatternTerm) → 0 < length args → IsAllowed (name f) → ((u : PatternTerm) → u ∈ args → IsPatternTerm n u) → Each (IsFine n) (call_pieces f (map pieces args))
fine_in_call n f [] some named each = absurd (omega (arith, some))
fine_in_call n f (v ∷ us) some named each = (
  named,
  Each-from (IsFine n) (concat (map pieces (v ∷ us))) (λ q i.
      let r = ∈-concat_map_from pieces (v ∷ us) q i in Each-at (IsFine n) (pieces r.0) q (each r.0 r.1) r.2),
)

pub fine_call : (n : ℕ) (f : List ℕ) (args : List PatternTerm) → 0 < length args → IsAllowed (name f) → ((u : PatternTerm) → u ∈ args → IsPatternTerm n u) → IsPatternTerm n (pattern.Fun f args)
fine_call n f args some named each = subst (Each (IsFine n)) (sym (pieces-Fun f args)) (fine_in_call n f args some named each)
