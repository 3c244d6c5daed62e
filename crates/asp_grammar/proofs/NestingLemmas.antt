-- What nesting comes to on some kinds of tokens.
use Rattle.std.proofs.Common.{◌≡◌, ℕ, zero, suc, ◌+◌, arith, List, [], ◌∷◌, ◌++◌, refl, ap, ◌∙◌}
use Rattle.asp_syntax.specs.declared.token.Token.{Token}
use Rattle.asp_syntax.specs.declared.token.Token.TheVariants as token
use Rattle.asp_syntax.specs.declared.token.Spanned.{Spanned}
use Rattle.lists.specs.Lists.{Each}
use Rattle.asp_grammar.specs.Nesting.{Levels, levels_of, one_level, opened, closed, levels_after, levels_through, outer_depth, depth, nesting, deepest}
use Rattle.asp_grammar.specs.Faults.{IsFaulty, deep, too_deep}
use Rattle.asp_grammar.specs.Examples.{on, on_line, times}
use Rattle.asp_grammar.specs.Laws.{IsParenthesis}

levels_append : (d : Levels) (ts us : List Spanned) → levels_through d (ts ++ us) ≡ levels_through (levels_through d ts) us
levels_append d [] us = refl
levels_append d (t ∷ ts) us = levels_append (levels_after d t.token) ts us

-- tokens other than parentheses leave the levels outside alone
flat_after : (d : Levels) (t : Token) → ¬ IsParenthesis t → (levels_after d t).outside ≡ d.outside
flat_after d token.Open h = absurd (h tt)
flat_after d token.Close h = absurd (h tt)
flat_after d token.Plus h = refl
flat_after d token.Minus h = refl
flat_after d token.Star h = refl
flat_after d token.Slash h = refl
flat_after d token.Comma h = refl
flat_after d token.Semicolon h = refl
flat_after d token.Colon h = refl
flat_after d token.OpenBrace h = refl
flat_after d token.CloseBrace h = refl
flat_after d token.If h = refl
flat_after d token.Dot h = refl
flat_after d (token.Compare op) h = refl
flat_after d _ h = refl

flat_through : (d : Levels) (ts : List Spanned) → Each (λ t. ¬ IsParenthesis t.token) ts → (levels_through d ts).outside ≡ d.outside
flat_through d [] h = refl
flat_through d (t ∷ ts) h = flat_through (levels_after d t.token) ts h.1 ∙ flat_after d t.token h.0

closed_again : (d e : Levels) → e.outside ≡ d.now ∷ d.outside → closed e.now e.outside ≡ d
closed_again d e h = ap (closed e.now) h

pub group_ends : (front inside : List Spanned) (open_ close_ : Spanned) → open_.token ≡ token.Open → close_.token ≡ token.Close → Each (λ t. ¬ IsParenthesis t.token) inside → nesting (front ++ open_ ∷ (inside ++ close_ ∷ [])) ≡ nesting front
group_ends front inside open_ close_ e f flat =
    let d : Levels = levels_through one_level front in
    let within : Levels = levels_through (opened d) inside in
    let first : levels_through one_level (front ++ open_ ∷ (inside ++ close_ ∷ [])) ≡ levels_through (levels_after d open_.token) (inside ++ close_ ∷ []) = levels_append one_level front (open_ ∷ (inside ++ close_ ∷ [])) in
    let second : levels_through (levels_after d open_.token) (inside ++ close_ ∷ []) ≡ levels_through (opened d) (inside ++ close_ ∷ []) = ap (λ v. levels_through (levels_after d v) (inside ++ close_ ∷ [])) e in
    let third : levels_through (opened d) (inside ++ close_ ∷ []) ≡ levels_after within close_.token = levels_append (opened d) inside (close_ ∷ []) in
    let fourth : levels_after within close_.token ≡ closed within.now within.outside = ap (levels_after within) f in
    let last : closed within.now within.outside ≡ d = closed_again d within (flat_through (opened d) inside flat) in
    ap depth (first ∙ second ∙ third ∙ fourth ∙ last)

-- each `(` counts
opens_from : (d : Levels) (n : ℕ) → depth (levels_through d (on_line (times n (token.Open ∷ [])))) ≡ depth d + n
opens_from d zero = omega arith
opens_from d (suc n) = let rest = opens_from (opened d) n in omega arith

pub parentheses_count : (n : ℕ) → nesting (on_line (times n (token.Open ∷ []))) ≡ n
parentheses_count n = let all = opens_from one_level n in omega arith

-- each operator counts
operators_from : (now : ℕ) (outside : List ℕ) (n m : ℕ) → depth (levels_through (levels_of now outside) (on_line (times n (token.Plus ∷ token.Number m ∷ [])))) ≡ (now + n) + outer_depth outside
operators_from now outside zero m = omega arith
operators_from now outside (suc n) m = let rest = operators_from (suc now) outside n m in omega arith

pub operators_count : (n m : ℕ) → nesting (on_line (token.Number m ∷ times n (token.Plus ∷ token.Number m ∷ []))) ≡ n
operators_count n m = let all = operators_from 0 [] n m in omega arith

-- a separator ends a chain of operators
pub separator_ends : (front : List Spanned) (comma : Spanned) → comma.token ≡ token.Comma → Each (λ t. ¬ IsParenthesis t.token) front → nesting (front ++ comma ∷ []) ≡ 0
separator_ends front comma e flat =
    let d : Levels = levels_through one_level front in
    let same : levels_through one_level (front ++ comma ∷ []) ≡ levels_of 0 d.outside = levels_append one_level front (comma ∷ []) ∙ ap (levels_after d) e in
    let flat_outside : outer_depth d.outside ≡ 0 = ap outer_depth (flat_through one_level front flat) in
    let now : nesting (front ++ comma ∷ []) ≡ depth (levels_of 0 d.outside) = ap depth same in
    omega arith

-- ---- too deep

one_deeper : (front : List Spanned) (t : Spanned) → nesting front ≡ deepest → depth (levels_after (levels_through one_level front) t.token) ≡ suc (nesting front) → IsFaulty front t too_deep
one_deeper front t e f =
    let more : nesting (front ++ t ∷ []) ≡ depth (levels_after (levels_through one_level front) t.token) = ap depth (levels_append one_level front (t ∷ [])) in
    deep (omega arith) (omega arith)

plus_deeper : (d : Levels) → depth (levels_after d token.Plus) ≡ suc (depth d)
plus_deeper d = omega arith

open_deeper : (d : Levels) → depth (levels_after d token.Open) ≡ suc (depth d)
open_deeper d = omega arith

pub sum_too_deep : (n : ℕ) → IsFaulty (on_line (token.Number n ∷ times deepest (token.Plus ∷ token.Number n ∷ []))) (on 1 token.Plus) too_deep
sum_too_deep n =
    let front = on_line (token.Number n ∷ times deepest (token.Plus ∷ token.Number n ∷ [])) in
    one_deeper front (on 1 token.Plus) (operators_count deepest n) (plus_deeper (levels_through one_level front))

pub parentheses_too_deep : IsFaulty (on_line (times deepest (token.Open ∷ []))) (on 1 token.Open) too_deep
parentheses_too_deep =
    let front = on_line (times deepest (token.Open ∷ [])) in
    one_deeper front (on 1 token.Open) (parentheses_count deepest) (open_deeper (levels_through one_level front))
