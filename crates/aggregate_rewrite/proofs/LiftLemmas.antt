-- Arithmetic that goes out of one thing after another.
use Rattle.std.proofs.Common.{◌≡◌, refl, sym, ap, subst, ◌∙◌, ℕ, List, [], ◌∷◌, ◌++◌, map, append_assoc, append-nil}
use Rattle.std.proofs.lemmas.List.{map-append}
use Rattle.alpha_outside.specs.declared.kinds.ArithOp.{ArithOp}
use Rattle.asp_syntax.specs.declared.tree.CompareOp.TheVariants.{Equal}
use Rattle.asp_syntax.specs.declared.tree.Term.{Term}
use Rattle.asp_syntax.specs.declared.tree.Term.TheVariants as tree
use Rattle.asp_syntax.specs.declared.tree.Term.TheOpen as layer
use Rattle.rewriting.specs.Parts.{Comparison}
use Rattle.rewriting.specs.Lifting.{Lifted, lift_each, lift_term, goes_out, call_with, equation_test}
use Rattle.rewriting.proofs.LiftedTerms.{lift_roll}

module _ {A B : Type 0} (f : A → ℕ → Lifted B) where
  -- where what is left is still to be lifted from k on, the whole comes out
  pub record IsLifting (left : List A) (k : ℕ) (done : List B) (equations : List Comparison) (whole : Lifted (List B)) (first : List Comparison) : Type 0 where
    pub lifted : done ++ (lift_each f left k).lifted ≡ whole.lifted
    pub equations_are : equations ++ map equation_test (lift_each f left k).equations ≡ first ++ map equation_test whole.equations
    pub next : (lift_each f left k).next ≡ whole.next

  -- ---- two lists, one after another

  -- what comes out
  lifted_both : (xs ys : List A) (k : ℕ) → (lift_each f (xs ++ ys) k).lifted ≡ (lift_each f xs k).lifted ++ (lift_each f ys (lift_each f xs k).next).lifted
  lifted_both [] ys k = refl
  lifted_both (x ∷ xs) ys k = ap (λ zs. (f x k).lifted ∷ zs) (lifted_both xs ys (f x k).next)

  -- the equations
  equations_both : (xs ys : List A) (k : ℕ) → (lift_each f (xs ++ ys) k).equations ≡ (lift_each f xs k).equations ++ (lift_each f ys (lift_each f xs k).next).equations
  equations_both [] ys k = refl
  equations_both (x ∷ xs) ys k =
      ap (λ es. (f x k).equations ++ es) (equations_both xs ys (f x k).next)
      ∙ sym (append_assoc (f x k).equations (lift_each f xs (f x k).next).equations (lift_each f ys (lift_each f xs (f x k).next).next).equations)

  -- the next number
  next_both : (xs ys : List A) (k : ℕ) → (lift_each f (xs ++ ys) k).next ≡ (lift_each f ys (lift_each f xs k).next).next
  next_both [] ys k = refl
  next_both (x ∷ xs) ys k = next_both xs ys (f x k).next

  -- ---- the turns of a loop

  -- what stands first in what is left is lifted
  pub lift_front : (old_left xs left : List A) (k next : ℕ) (done more : List B) (old new : List Comparison) (whole : Lifted (List B)) (first : List Comparison)
      → old_left ≡ xs ++ left → more ≡ done ++ (lift_each f xs k).lifted → new ≡ old ++ map equation_test (lift_each f xs k).equations → next ≡ (lift_each f xs k).next
      → IsLifting old_left k done old whole first → IsLifting left next more new whole first
  lift_front old_left xs left k next done more old new whole first at m n e start =
      let h = subst (λ ls. IsLifting ls k done old whole first) at start in
      let here = lift_each f xs k in
      let rest = lift_each f left here.next in
      record {
        lifted =
            (λ i. m i ++ (lift_each f left (e i)).lifted)
            ∙ append_assoc done here.lifted rest.lifted
            ∙ sym (ap (λ zs. done ++ zs) (lifted_both xs left k))
            ∙ h.lifted;
        equations_are =
            (λ i. n i ++ map equation_test (lift_each f left (e i)).equations)
            ∙ append_assoc old (map equation_test here.equations) (map equation_test rest.equations)
            ∙ sym (ap (λ zs. old ++ zs) (ap (map equation_test) (equations_both xs left k) ∙ map-append equation_test here.equations rest.equations))
            ∙ h.equations_are;
        next = ap (λ n. (lift_each f left n).next) e ∙ sym (next_both xs left k) ∙ h.next;
      }

  -- the same for one item
  pub lift_one : (old_left left : List A) (x : A) (k next : ℕ) (done more : List B) (old new : List Comparison) (whole : Lifted (List B)) (first : List Comparison)
      → old_left ≡ x ∷ left → more ≡ done ++ (f x k).lifted ∷ [] → new ≡ old ++ map equation_test (f x k).equations → next ≡ (f x k).next
      → IsLifting old_left k done old whole first → IsLifting left next more new whole first
  lift_one old_left left x k next done more old new whole first at m n e h =
      lift_front old_left (x ∷ []) left k next done more old new whole first at m (n ∙ ap (λ es. old ++ map equation_test es) (sym (append-nil (f x k).equations))) e h

  -- at the end of the loop
  pub lift_none : (left : List A) (k : ℕ) (done : List B) (old : List Comparison) (whole : Lifted (List B)) (first : List Comparison) → left ≡ []
      → IsLifting left k done old whole first → (done ≡ whole.lifted) × (old ≡ first ++ map equation_test whole.equations) × (k ≡ whole.next)
  lift_none left k done old whole first at h =
      let end = subst (λ xs. IsLifting xs k done old whole first) at h in
      (sym (append-nil done) ∙ end.lifted, sym (append-nil old) ∙ end.equations_are, end.next)

-- ---- terms

-- a functional term is lifted part by part
pub lift_Fun : (name : List ℕ) (args : List Term) (t : Term) (k : ℕ) → t ≡ tree.Fun name args → lift_term t k ≡ call_with name (lift_each lift_term args k)
lift_Fun name args t k is = ap (λ u. lift_term u k) (is ∙ sym (tree.rolls-Fun name args)) ∙ lift_roll (layer.Fun name args) k

-- a term with a minus sign goes out whole
pub lift_Minus : (u t : Term) (k : ℕ) → t ≡ tree.Minus u → lift_term t k ≡ (goes_out t).from k
lift_Minus u t k is =
    ap (λ v. lift_term v k) (is ∙ sym (tree.rolls-Minus u)) ∙ lift_roll (layer.Minus u) k ∙ ap (λ v. (goes_out v).from k) (tree.rolls-Minus u ∙ sym is)

-- the same for an operation of two terms
pub lift_Arith : (op : ArithOp) (l r t : Term) (k : ℕ) → t ≡ tree.Arith op l r → lift_term t k ≡ (goes_out t).from k
lift_Arith op l r t k is =
    ap (λ v. lift_term v k) (is ∙ sym (tree.rolls-Arith op l r)) ∙ lift_roll (layer.Arith op l r) k ∙ ap (λ v. (goes_out v).from k) (tree.rolls-Arith op l r ∙ sym is)

-- the equation for a term that went out
pub one_equation : (t copied : Term) (k : ℕ) (old new : List Comparison) → copied ≡ t → new ≡ old ++ record { op = Equal; left = tree.Anonymous k; right = copied } ∷ []
    → lift_term t k ≡ (goes_out t).from k → new ≡ old ++ map equation_test (lift_term t k).equations
one_equation t copied k old new c n e =
    n
    ∙ (λ i. old ++ record { op = Equal; left = sym (tree.rolls-Anonymous k) i; right = c i } ∷ [])
    ∙ ap (λ (l : Lifted Term). old ++ map equation_test l.equations) (sym e)
