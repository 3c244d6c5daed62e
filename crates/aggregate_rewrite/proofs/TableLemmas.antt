-- Tables of variables, and the places in them.
use Rattle.std.proofs.Common.{◌≡◌, refl, sym, ap, ◌∙◌, ℕ, suc, ◌≤◌, Bool, true, false, cond, nat_lt, List, [], ◌∷◌, ◌++◌, map, length, position, Some, None, append-nil, arith}
use Rattle.std.specs.List.{position_or_len}
use Rattle.std.proofs.lemmas.List.Recursion.{is_position_or_len}
use Rattle.std.proofs.lemmas.List.Sums.{prefix_len-le-length}
use Rattle.std.proofs.lemmas.Option.{none-some, same_Some}
use Rattle.lists.specs.Lists.{concat}
use Rattle.alpha_outside.specs.declared.kinds.ArithOp.{ArithOp}
use Rattle.asp_syntax.specs.declared.tree.Term.{Term}
use Rattle.asp_syntax.specs.declared.tree.Term.TheVariants as tree
use Rattle.asp_syntax.specs.declared.tree.Term.TheOpen as layer
use Rattle.asp_syntax.specs.declared.tree.Term.TheFolds.{fold-roll-Term}
use Rattle.asp_meaning.specs.Terms.{Variable}
use Rattle.asp_meaning.specs.Variables.{variables, variables_step}
use Rattle.asp_safety.specs.Keys.{variable_eq}
use Rattle.asp_safety.specs.KeyLaws.{variable_equivalence}
use Rattle.asp_safety.specs.Binding.{variables_of}
use Rattle.asp_safety.proofs.TermLemmas.{concat_map-append}
use Rattle.rewriting.specs.Numbering.{with_variable, with_variables, place}

-- ---- variables that are put in

-- variables from two lists
pub with_both : (table vs ws : List Variable) → with_variables table (vs ++ ws) ≡ with_variables (with_variables table vs) ws
with_both table [] ws = refl
with_both table (v ∷ vs) ws = with_both (with_variable table v) vs ws

-- one turn of a loop that goes over items with variables
pub with_on : {A : Type 0} (f : A → List Variable) (old left : List A) (x : A) (table more whole : List Variable) → old ≡ x ∷ left → more ≡ with_variables table (f x)
    → with_variables table (concat (map f old)) ≡ whole → with_variables more (concat (map f left)) ≡ whole
with_on f old left x table more whole at e h =
    ap (λ t. with_variables t (concat (map f left))) e
    ∙ sym (with_both table (f x) (concat (map f left)))
    ∙ sym (ap (λ xs. with_variables table (concat (map f xs))) at)
    ∙ h

-- the variables of the operands of an operation
pub with_Arith : (op : ArithOp) (l r t : Term) (table more whole : List Variable) → t ≡ tree.Arith op l r → more ≡ with_variables table (variables l) → whole ≡ with_variables more (variables r)
    → whole ≡ with_variables table (variables t)
with_Arith op l r t table more whole is first second =
    second
    ∙ ap (λ vs. with_variables vs (variables r)) first
    ∙ sym (with_both table (variables l) (variables r))
    ∙ ap (with_variables table) (sym (ap variables (is ∙ sym (tree.rolls-Arith op l r)) ∙ fold-roll-Term (List Variable) variables_step (layer.Arith op l r)))

-- the variables of two terms
pub with_pair : (l r : Term) (table more whole : List Variable) → more ≡ with_variables table (variables l) → whole ≡ with_variables more (variables r)
    → whole ≡ with_variables table (variables_of (l ∷ r ∷ []))
with_pair l r table more whole first second =
    second
    ∙ ap (λ vs. with_variables vs (variables r)) first
    ∙ sym (with_both table (variables l) (variables r))
    ∙ ap (λ vs. with_variables table (variables l ++ vs)) (sym (append-nil (variables r)))

-- the variables of terms from two lists
pub with_terms : (table : List Variable) (ts us : List Term) → with_variables table (variables_of (ts ++ us)) ≡ with_variables (with_variables table (variables_of ts)) (variables_of us)
with_terms table ts us = ap (with_variables table) (concat_map-append variables ts us) ∙ with_both table (variables_of ts) (variables_of us)

-- one turn of a loop that goes over items with terms
pub with_terms_on : {A : Type 0} (f : A → List Term) (old left : List A) (x : A) (table more whole : List Variable) → old ≡ x ∷ left → more ≡ with_variables table (variables_of (f x))
    → with_variables table (variables_of (concat (map f old))) ≡ whole → with_variables more (variables_of (concat (map f left))) ≡ whole
with_terms_on f old left x table more whole at e h =
    ap (λ t. with_variables t (variables_of (concat (map f left)))) e
    ∙ sym (with_terms table (f x) (concat (map f left)))
    ∙ sym (ap (λ xs. with_variables table (variables_of (concat (map f xs)))) at)
    ∙ h

-- the terms of five lists, one after another
pub with_five : (t a b c d e : List Variable) (ta tb tc td te : List Term) → a ≡ with_variables t (variables_of ta) → b ≡ with_variables a (variables_of tb) → c ≡ with_variables b (variables_of tc)
    → d ≡ with_variables c (variables_of td) → e ≡ with_variables d (variables_of te) → e ≡ with_variables t (variables_of (ta ++ tb ++ tc ++ td ++ te))
with_five t a b c d e ta tb tc td te ea eb ec ed ee =
    let step = λ (x y : List Variable) (ts : List Term) (h : x ≡ y). ap (λ z. with_variables z (variables_of ts)) h in
    let ab = eb ∙ step a _ tb ea ∙ sym (with_terms t ta tb) in
    let abc = ec ∙ step b _ tc ab ∙ sym (with_terms t (ta ++ tb) tc) in
    let abcd = ed ∙ step c _ td abc ∙ sym (with_terms t (ta ++ tb ++ tc) td) in
    ee ∙ step d _ te abcd ∙ sym (with_terms t (ta ++ tb ++ tc ++ td) te)

-- ---- places

-- the place of a variable is where the test first succeeds
place_is : (v : Variable) (table : List Variable) → place table v ≡ position_or_len (variable_eq v) table
place_is v = is_position_or_len (λ table. place table v) (variable_eq v) refl (λ w ws.
    ap (λ b. cond b 0 (suc (place ws v))) (variable_equivalence.symm w v) ∙ ap (λ n. cond (variable_eq v w) 0 n) (omega arith))

-- where the look-up finds a variable is its place
pub place_found : (v : Variable) (table : List Variable) (i : ℕ) → position (variable_eq v) table ≡ Some i → i ≡ place table v
place_found v table i e = by_case (nat_lt (position_or_len (variable_eq v) table) (length table)) refl e
  where
    by_case : (b : Bool) → nat_lt (position_or_len (variable_eq v) table) (length table) ≡ b → cond b (Some (position_or_len (variable_eq v) table)) None ≡ Some i → i ≡ place table v
    by_case true lt e = sym (place_is v table ∙ same_Some (position_or_len (variable_eq v) table) i e)
    by_case false lt e = absurd (none-some i e)

-- where it finds none, the place is behind the last
pub place_missed : (v : Variable) (table : List Variable) → position (variable_eq v) table ≡ None → length table ≡ place table v
place_missed v table e = by_case (nat_lt (position_or_len (variable_eq v) table) (length table)) refl e
  where
    by_case : (b : Bool) → nat_lt (position_or_len (variable_eq v) table) (length table) ≡ b → cond b (Some (position_or_len (variable_eq v) table)) None ≡ None → length table ≡ place table v
    by_case true lt e = absurd (none-some (position_or_len (variable_eq v) table) (sym e))
    by_case false lt e =
        let within : position_or_len (variable_eq v) table ≤ length table = prefix_len-le-length _ table in
        let least : length table ≡ position_or_len (variable_eq v) table = grind (arith, lt, within) in
        least ∙ sym (place_is v table)
