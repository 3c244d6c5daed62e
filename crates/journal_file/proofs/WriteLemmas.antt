-- What is written of a term, together with what is left of it on the stack, is its text.
use Rattle.std.proofs.Common.{◌≡◌, ℕ, ◌+◌, ◌*◌, true, false, List, [], ◌∷◌, ◌++◌, map, refl, sym, ap, ◌∙◌, append_assoc, arith}
use Rattle.std.specs.Prelude.{codes, sum}
use Rattle.std.proofs.lemmas.List.Sums.{sum-map, sum_by-cons}
use Rattle.std.specs.Fmt.{decimal}
use Rattle.alpha_outside.specs.declared.pattern.PatternTerm.{PatternTerm}
use Rattle.alpha_outside.specs.declared.pattern.PatternTerm.TheVariants as pattern
use Rattle.journal_file.specs.declared.terms.OpenCall.{OpenCall}
use Rattle.journal_file.specs.Terms.{comma, arguments_text, term_text, term_size, terms_weight, rest_text, weight, IsTermWritten, IsCallWritten}
use Rattle.journal_file.proofs.TermLemmas.{text-Hole, text-Known, text-Fun, size-Hole, size-Known, size-Fun, rest-push, weight-push}

-- a term that leaves nothing on the stack
pub leaf : (x : PatternTerm) (w t : List ℕ) (s : List OpenCall) (t' : List ℕ) (s' : List OpenCall) (k : ℕ) → term_text x ≡ w → term_size x ≡ 1 + k → t' ≡ t ++ w → s' ≡ s → IsTermWritten x t s t' s'
leaf x w t s t' s' k text size e f = record {
  text_is = (λ i. e i ++ rest_text (f i)) ∙ append_assoc t w (rest_text s) ∙ ap (λ l. t ++ (l ++ rest_text s)) (sym text);
  less = omega (arith, size, ap weight f);
}

-- a hole
pub hole_written : (n : ℕ) (t : List ℕ) (s : List OpenCall) (t' : List ℕ) (s' : List OpenCall) → t' ≡ t ++ (codes "?" ++ decimal n) → s' ≡ s → IsTermWritten (pattern.Hole n) t s t' s'
hole_written n t s t' s' e f = leaf (pattern.Hole n) (codes "?" ++ decimal n) t s t' s' 0 (text-Hole n) (size-Hole n) e f

-- a known term
pub known_written : (id : ℕ) (t : List ℕ) (s : List OpenCall) (t' : List ℕ) (s' : List OpenCall) → t' ≡ t ++ (codes "#" ++ decimal id) → s' ≡ s → IsTermWritten (pattern.Known id) t s t' s'
known_written id t s t' s' e f = leaf (pattern.Known id) (codes "#" ++ decimal id) t s t' s' 0 (text-Known id) (size-Known id) e f

-- a functional term, whose arguments lie on the stack
pub call_opened : (f : List ℕ) (args : List PatternTerm) (t : List ℕ) (s : List OpenCall) (c : OpenCall) (t' : List ℕ) (s' : List OpenCall)
    → c.args.now ≡ args → c.begun ≡ false → t' ≡ t ++ (f ++ codes "(") → s' ≡ s ++ c ∷ [] → IsTermWritten (pattern.Fun f args) t s t' s'
call_opened f args t s c t' s' a b e r = record {
  text_is =
      (λ i. e i ++ rest_text (r i)) ∙ ap (λ l. (t ++ (f ++ codes "(")) ++ l) (rest-push s c ∙ (λ i. arguments_text (b i) (map term_text (a i)) ++ rest_text s))
      ∙ append_assoc t (f ++ codes "(") (inner ++ rest_text s)
      ∙ ap (λ l. t ++ l) (append_assoc f (codes "(") (inner ++ rest_text s) ∙ sym (append_assoc f (codes "(" ++ inner) (rest_text s)) ∙ ap (λ l. l ++ rest_text s) (sym (text-Fun f args)));
  less = omega (arith, ap weight r, weight-push s c, ap terms_weight a, size-Fun f args);
}
  where
    inner : List ℕ
    inner = arguments_text false (map term_text args)

-- the work for terms of which one is first
weight-cons : (x : PatternTerm) (xs : List PatternTerm) → terms_weight (x ∷ xs) ≡ 2 * term_size x + terms_weight xs
weight-cons x xs = omega (arith, sum-cons (term_size x) (map term_size xs))
  where
    same : (ks : List ℕ) → map (λ n. n) ks ≡ ks
    same [] = refl
    same (k ∷ ks) = ap (λ l. k ∷ l) (same ks)

    sum-cons : (k : ℕ) (ks : List ℕ) → sum (k ∷ ks) ≡ k + sum ks
    sum-cons k ks = ap (λ l. sum (k ∷ l)) (sym (same ks)) ∙ sum-map (λ (n : ℕ). n) (k ∷ ks) ∙ sum_by-cons (λ (n : ℕ). n) k ks ∙ ap (λ n. k + n) (sym (sum-map (λ (n : ℕ). n) ks) ∙ ap sum (same ks))

-- the end of an open call without further arguments
pub end_written : (c : OpenCall) (t : List ℕ) (s : List OpenCall) (t' : List ℕ) (s' : List OpenCall) → c.args.now ≡ [] → t' ≡ t ++ codes ")" → s' ≡ s → IsCallWritten c t s t' s'
end_written c t s t' s' a e r = record {
  text_is = (λ i. e i ++ rest_text (r i)) ∙ append_assoc t (codes ")") (rest_text s) ∙ ap (λ (xs : List PatternTerm). t ++ (arguments_text c.begun (map term_text xs) ++ rest_text s)) (sym a);
  less = omega (arith, ap weight r, ap terms_weight a);
}

-- an argument, after its comma, of a call whose further arguments lie on the stack
pub argument_written : (c : OpenCall) (x : PatternTerm) (xs : List PatternTerm) (t t1 : List ℕ) (s : List OpenCall) (next : OpenCall) (s1 : List OpenCall) (t' : List ℕ) (s' : List OpenCall)
    → c.args.now ≡ x ∷ xs → t1 ≡ t ++ comma c.begun → next.args.now ≡ xs → next.begun ≡ true → s1 ≡ s ++ next ∷ [] → IsTermWritten x t1 s1 t' s' → IsCallWritten c t s t' s'
argument_written c x xs t t1 s next s1 t' s' a e n b r h = record {
  text_is =
      h.text_is ∙ (λ i. e i ++ (term_text x ++ rest_text (r i)))
      ∙ ap (λ l. (t ++ comma c.begun) ++ (term_text x ++ l)) (rest-push s next ∙ (λ i. arguments_text (b i) (map term_text (n i)) ++ rest_text s))
      ∙ append_assoc t (comma c.begun) (term_text x ++ (later ++ rest_text s))
      ∙ ap (λ l. t ++ l) (ap (λ l. comma c.begun ++ l) (sym (append_assoc (term_text x) later (rest_text s))) ∙ sym (append_assoc (comma c.begun) (term_text x ++ later) (rest_text s)))
      ∙ ap (λ (ys : List PatternTerm). t ++ (arguments_text c.begun (map term_text ys) ++ rest_text s)) (sym a);
  less = omega (arith, h.less, ap weight r, weight-push s next, ap terms_weight n, ap terms_weight a, weight-cons x xs);
}
  where
    later : List ℕ
    later = arguments_text true (map term_text xs)
