-- Writing a node writes its term, but for the parts that lie on the stack.
use Rattle.std.proofs.Common.{◌≡◌, ℕ, ◌+◌, ◌<◌, List, [], ◌∷◌, ◌++◌, length, map, Result, Ok, Err, refl, sym, ap, subst, ◌∙◌, append_assoc, arith}
use Rattle.std.specs.Prelude.{codes, All, sum, IfOk, OnOk}
use Rattle.std.proofs.lemmas.List.Sums.{sum-map, sum_by-cons}
use Rattle.alpha_outside.specs.declared.node.Node.{Node}
use Rattle.alpha_outside.specs.declared.node.Node.TheVariants as node
use Rattle.asp_meaning.specs.Terms.{functional}
use Rattle.asp_meaning.specs.Lines.{value_text, call_text, joined}
use Rattle.term_pool.specs.Nodes.{value_at, value_from, values, value_size, PartsBelow}
use Rattle.term_pool.proofs.PlaceLemmas.{map-map}
use Rattle.term_pool.proofs.PoolLemmas.{PartsBelow-more}
use Rattle.asp_meaning.proofs.Layers.{text-Int, text-Symbol, text-Text, text-functional}
use Rattle.term_pool.proofs.ValueLemmas.{size-Int, size-Symbol, size-Text, size-functional}
use Rattle.answer_printer.specs.declared.terms.Piece.{Piece}
use Rattle.answer_printer.specs.declared.terms.Piece.TheVariants.{Term, Next}
use Rattle.answer_printer.specs.Pieces.{term_text, rest_text, weight, AreWithin, IsPrinted, IsCallWritten, IsNodeWritten}
use Rattle.answer_printer.proofs.PieceLemmas.{rest-pieces, weight-pieces, within-pieces, sizes, size_at}

pub on_ok : {A E P Q : Type 0} (r : Result A E) → (P → Q) → OnOk r P → OnOk r Q
on_ok (Ok x) f h = f h
on_ok (Err e) f h = tt

pub if_ok : {A E : Type 0} {P Q : A → Type 0} (r : Result A E) → ((a : A) → P a → Q a) → IfOk r P → IfOk r Q
if_ok (Ok a) f h = f a h
if_ok (Err e) f h = tt

-- a term that leaves nothing on the stack
leaf : (ns : List Node) (id : ℕ) (w t : List ℕ) (s : List Piece) (t' : List ℕ) (s' : List Piece) (k : ℕ) → AreWithin (length ns) s → term_text ns id ≡ w → value_size (value_at ns id) ≡ 1 + k
    → t' ≡ t ++ w → s' ≡ s → IsPrinted ns (Term id) t s t' s'
leaf ns id w t s t' s' k within text size e f = record {
  text_is = (λ i. e i ++ rest_text ns (f i)) ∙ append_assoc t w (rest_text ns s) ∙ ap (λ l. t ++ (l ++ rest_text ns s)) (sym text);
  within = subst (AreWithin (length ns)) (sym f) within;
  less = omega (arith, size, ap (weight ns) f);
}

sum-cons : (k : ℕ) (ks : List ℕ) → sum (k ∷ ks) ≡ k + sum ks
sum-cons k ks = ap (λ l. sum (k ∷ l)) (sym (same ks)) ∙ sum-map (λ (n : ℕ). n) (k ∷ ks) ∙ sum_by-cons (λ (n : ℕ). n) k ks ∙ ap (λ n. k + n) (sym (sum-map (λ (n : ℕ). n) ks) ∙ ap sum (same ks))
  where
    same : (xs : List ℕ) → map (λ n. n) xs ≡ xs
    same [] = refl
    same (x ∷ xs) = ap (λ l. x ∷ l) (same xs)

sizes-sum : (ns : List Node) (xs : List ℕ) → sizes ns xs ≡ sum (map value_size (map (value_at ns) xs))
sizes-sum ns [] = refl
sizes-sum ns (x ∷ xs) = ap (λ k. size_at ns x + k) (sizes-sum ns xs) ∙ sym (sum-cons (size_at ns x) (map value_size (map (value_at ns) xs)))

call : (ns : List Node) (id : ℕ) (f : List ℕ) (args : List ℕ) (t : List ℕ) (s : List Piece) (t' : List ℕ) (s' : List Piece) → AreWithin (length ns) s → All (λ a. a < length ns) args
    → value_at ns id ≡ functional f (map (value_at ns) args) → IsCallWritten f args t s t' s' → IsPrinted ns (Term id) t s t' s'
call ns id f [] t s t' s' within low is h =
    leaf ns id f t s t' s' (sum (map value_size [])) within (ap value_text is ∙ text-functional f []) (ap value_size is ∙ size-functional f []) h.0 h.1
call ns id f (x ∷ xs) t s t' s' within low is h = record {
  text_is =
      (λ i. h.0 i ++ rest_text ns (h.1 i)) ∙ ap (λ l. (t ++ (f ++ codes "(")) ++ l) (rest-pieces ns s x xs)
      ∙ append_assoc t (f ++ codes "(") (inner ++ (codes ")" ++ rest_text ns s))
      ∙ ap (λ l. t ++ l) (append_assoc f (codes "(") (inner ++ (codes ")" ++ rest_text ns s)) ∙ sym regroup)
      ∙ ap (λ l. t ++ (l ++ rest_text ns s)) (sym text);
  within = subst (AreWithin (length ns)) (sym h.1) (within-pieces (length ns) s x xs within low);
  less = omega (arith, ap (weight ns) h.1, weight-pieces ns s x xs, ap value_size is ∙ size-functional f (map (value_at ns) (x ∷ xs)), sizes-sum ns (x ∷ xs));
}
  where
    inner : List ℕ
    inner = joined (codes ",") (map (term_text ns) (x ∷ xs))

    text : term_text ns id ≡ f ++ (codes "(" ++ (inner ++ codes ")"))
    text = ap value_text is ∙ text-functional f (map (value_at ns) (x ∷ xs)) ∙ ap (call_text f) (map-map value_text (value_at ns) (x ∷ xs))

    regroup : (f ++ (codes "(" ++ (inner ++ codes ")"))) ++ rest_text ns s ≡ f ++ (codes "(" ++ (inner ++ (codes ")" ++ rest_text ns s)))
    regroup = append_assoc f (codes "(" ++ (inner ++ codes ")")) (rest_text ns s) ∙ ap (λ l. f ++ (codes "(" ++ l)) (append_assoc inner (codes ")") (rest_text ns s))

pub node_printed : (ns : List Node) (id : ℕ) (n : Node) (t : List ℕ) (s : List Piece) (t' : List ℕ) (s' : List Piece) → id < length ns → PartsBelow id n → value_at ns id ≡ value_from (values ns) n
    → AreWithin (length ns) s → IsNodeWritten n t s t' s' → IsPrinted ns (Term id) t s t' s'
node_printed ns id (node.Int x) t s t' s' lt low is within h = leaf ns id _ t s t' s' 0 within (ap value_text is ∙ text-Int x) (ap value_size is ∙ size-Int x) h.0 h.1
node_printed ns id (node.Symbol x) t s t' s' lt low is within h = leaf ns id _ t s t' s' 0 within (ap value_text is ∙ text-Symbol x) (ap value_size is ∙ size-Symbol x) h.0 h.1
node_printed ns id (node.Text x) t s t' s' lt low is within h = leaf ns id _ t s t' s' 0 within (ap value_text is ∙ text-Text x) (ap value_size is ∙ size-Text x) h.0 h.1
node_printed ns id (node.Fun f args) t s t' s' lt low is within h =
    call ns id f args t s t' s' within (PartsBelow-more id (length ns) (node.Fun f args) (omega (arith, lt)) low) is h

-- a comma before it
pub after_comma : (ns : List Node) (id : ℕ) (t t1 : List ℕ) (s : List Piece) (t' : List ℕ) (s' : List Piece) → t1 ≡ t ++ codes "," → IsPrinted ns (Term id) t1 s t' s' → IsPrinted ns (Next id) t s t' s'
after_comma ns id t t1 s t' s' e h = record {
  text_is = h.text_is ∙ ap (λ l. l ++ (term_text ns id ++ rest_text ns s)) e ∙ append_assoc t (codes ",") (term_text ns id ++ rest_text ns s);
  within = h.within;
  less = h.less;
}
