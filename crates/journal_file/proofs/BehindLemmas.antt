-- Words behind blanks, written one list after the other.
use Rattle.std.proofs.Common.{◌≡◌, ℕ, ◌+◌, ◌<◌, List, [], ◌∷◌, ◌++◌, length, get_or, map, drop, Result, Ok, Err, refl, ap, sym, ◌∙◌, append_assoc}
use Rattle.std.specs.Prelude.{codes, OnOk}
use Rattle.std.proofs.lemmas.List.{at_drop_more}
use Rattle.lists.specs.Lists.{concat}
use Rattle.alpha_outside.specs.declared.pattern.Pattern.{Pattern}
use Rattle.journal_file.specs.Terms.{term_text}
use Rattle.journal_file.specs.Lines.{behind, id_words, pred_text, pattern_words}

-- what is promised of Ok follows from what is known there
pub on_ok : {A E P Q : Type 0} (r : Result A E) → (P → Q) → OnOk r P → OnOk r Q
on_ok (Ok x) f h = f h
on_ok (Err e) f h = tt

-- the words of two lists stand one after the other
pub behind_append : (vs ws : List (List ℕ)) → behind (vs ++ ws) ≡ behind vs ++ behind ws
behind_append [] ws = refl
behind_append (v ∷ vs) ws =
    ap (λ l. codes " " ++ (v ++ l)) (behind_append vs ws) ∙ ap (λ l. codes " " ++ l) (sym (append_assoc v (behind vs) (behind ws)))
    ∙ sym (append_assoc (codes " ") (v ++ behind vs) (behind ws))

-- two lists of words were written
pub both_written : (vs ws : List (List ℕ)) (t t1 t2 : List ℕ) → t1 ≡ t ++ behind vs → t2 ≡ t1 ++ behind ws → t2 ≡ t ++ behind (vs ++ ws)
both_written vs ws t t1 t2 e f = f ∙ ap (λ l. l ++ behind ws) e ∙ append_assoc t (behind vs) (behind ws) ∙ ap (λ l. t ++ l) (sym (behind_append vs ws))

-- a bar, a predicate, arguments, a slash and exceptions are a pattern
pub pattern_written : (p : Pattern) (t t1 t2 t3 t4 t5 : List ℕ) → t1 ≡ t ++ (codes " " ++ codes "|") → t2 ≡ t1 ++ (codes " " ++ pred_text p.pred) → t3 ≡ t2 ++ behind (map term_text p.args)
    → t4 ≡ t3 ++ (codes " " ++ codes "/") → t5 ≡ t4 ++ behind (id_words p.except) → t5 ≡ t ++ behind (pattern_words p)
pattern_written p t t1 t2 t3 t4 t5 a b c d e =
    e ∙ (λ i. d i ++ ids) ∙ append_assoc t3 slash ids ∙ (λ i. c i ++ (slash ++ ids)) ∙ append_assoc t2 args (slash ++ ids)
    ∙ ap (λ l. t2 ++ l) (sym (behind_append (map term_text p.args) (codes "/" ∷ id_words p.except)))
    ∙ (λ i. b i ++ rest) ∙ append_assoc t1 name rest ∙ (λ i. a i ++ (name ++ rest)) ∙ append_assoc t (codes " |") (name ++ rest)
    ∙ ap (λ l. t ++ (codes " |" ++ l)) (append_assoc (codes " ") (pred_text p.pred) rest)
  where
    ids : List ℕ
    ids = behind (id_words p.except)

    args : List ℕ
    args = behind (map term_text p.args)

    slash : List ℕ
    slash = codes " " ++ codes "/"

    name : List ℕ
    name = codes " " ++ pred_text p.pred

    rest : List ℕ
    rest = behind (map term_text p.args ++ (codes "/" ∷ id_words p.except))

-- a step of a loop that writes one pattern after the other
pub one_more_pattern : (ps : List Pattern) (i : ℕ) (p : Pattern) (start before after : List ℕ) → i < length ps → p ≡ get_or ps i p
    → before ++ behind (concat (map pattern_words (drop i ps))) ≡ start ++ behind (concat (map pattern_words ps)) → after ≡ before ++ behind (pattern_words p)
    → after ++ behind (concat (map pattern_words (drop (i + 1) ps))) ≡ start ++ behind (concat (map pattern_words ps))
one_more_pattern ps i p start before after lt at h e =
    (λ k. e k ++ behind later) ∙ append_assoc before (behind (pattern_words p)) (behind later) ∙ ap (λ l. before ++ l) (sym (behind_append (pattern_words p) later))
    ∙ ap (λ q. before ++ behind (pattern_words q ++ later)) at
    ∙ ap (λ l. before ++ l) (sym (at_drop_more (λ qs. behind (concat (map pattern_words qs))) ps i p lt)) ∙ h
  where
    later : List (List ℕ)
    later = concat (map pattern_words (drop (i + 1) ps))
