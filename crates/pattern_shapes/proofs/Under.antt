-- What a term of a rule is, where its variables are terms with holes.
use Rattle.std.proofs.Common.{◌≡◌, ℕ, ◌+◌, ◌<◌, ◌≤◌, true, false, List, [], ◌∷◌, ◌++◌, length, map, take, get_or, slice_get, Some, refl, sym, ap, subst, ◌∙◌, inl, inr, arith}
use Rattle.std.specs.Option.{option_map}
use Rattle.std.proofs.Math.Seq.{take-length}
use Rattle.std.proofs.lemmas.List.{take_more, map-append, get_or_past}
use Rattle.std.proofs.lemmas.Option.{slice_get-map, slice_get-get_or, slice_get_cases, get_or_from_slice_get}
use Rattle.lists.specs.Lists.{◌∈◌, Each}
use Rattle.lists.proofs.ListLemmas.{Each-at, Each-map, Each-append}
use Rattle.alpha_outside.specs.declared.node.Node.{Node}
use Rattle.alpha_outside.specs.declared.pattern.PatternTerm.{PatternTerm}
use Rattle.alpha_outside.specs.declared.pattern.PatternTerm.TheVariants as pattern
use Rattle.core_rules.specs.declared.rules.CoreTerm.{CoreTerm}
use Rattle.core_rules.specs.Variables.{has_arithmetic, variables}
use Rattle.asp_meaning.specs.declared.value.Value.{Value}
use Rattle.asp_meaning.specs.Terms.{all_of, before}
use Rattle.core_meaning.specs.Terms.{eval, eval_all}
use Rattle.search_values.proofs.Basics.{get_in}
use Rattle.term_pool.specs.Nodes.{KeepsValues}
use Rattle.term_eval.proofs.Kept.{kept_on}
use Rattle.unification.specs.Patterns.{Holes, fill, HasHole, IsPatternTerm, put, at_places}
use Rattle.unification.specs.Opening.{as_values, VariablesBelow, IsOpened}
use Rattle.unification.specs.Unifiers.{MayBe}
use Rattle.unification.proofs.PatternTerms.{fine_hole}
use Rattle.unification.proofs.Putting.{fill_put, fine_put}
use Rattle.unification.proofs.Openings.{may_same, opened_kept, fine_kept}
use Rattle.unification.proofs.Exactness.{may_value}
use Rattle.pattern_shapes.specs.Shapes.{IsTermUnder, AreTermsUnder}

-- what stands at a place, where something does
at_place : (terms : List PatternTerm) (x : ℕ) → x < length terms → slice_get terms x ≡ Some (at_places terms x)
at_place terms x low = slice_get-get_or terms x (pattern.Hole x) low

-- each is a term beside the pool
places_fine : (n : ℕ) (terms : List PatternTerm) → Each (IsPatternTerm n) terms → (x : ℕ) → IsPatternTerm n (at_places terms x)
places_fine n terms fine x = elim (slice_get_cases terms x).1 [
  | inl c ↦ subst (IsPatternTerm n) (sym (get_or_from_slice_get terms x c.0 (pattern.Hole x) c.2))
      (Each-at (IsPatternTerm n) terms c.0 fine (get_in terms x c.0 c.2))
  | inr c ↦ subst (IsPatternTerm n) (sym (get_or_past terms x (pattern.Hole x) c.0)) (fine_hole n x)
]

-- the opened term with the terms in place of its variables
pub under_value : (pool : List Node) (terms : List PatternTerm) (from to : ℕ) (t : CoreTerm) (p q : PatternTerm) → from ≡ length terms
    → has_arithmetic t ≡ false → VariablesBelow (length terms) t → IsOpened pool from to t p → q ≡ put (at_places terms) p
    → IsTermUnder pool terms t q
under_value pool terms from to t p q many plain below o is nodes kept h =
    let k : Holes = λ x. fill nodes h (at_places terms x) in
    let may : MayBe (as_values k) t (fill nodes k p) = (opened_kept pool nodes kept from to t p o).sound k in
    let agree : (x : ℕ) → x ∈ variables t → as_values k x ≡ slice_get (map (fill nodes h) terms) x
    = λ x among. sym (slice_get-map (fill nodes h) terms x ∙ ap (option_map (fill nodes h)) (at_place terms x (below x among))) in
    may_value (map (fill nodes h) terms) t plain (fill nodes k p)
    (may_same (as_values k) (slice_get (map (fill nodes h) terms)) t (fill nodes k p) agree may)
    ∙ ap Some (sym (ap (fill nodes h) is ∙ fill_put nodes h (at_places terms) p))

-- it is a term beside the pool
pub under_fine : (old new : List Node) (terms : List PatternTerm) (from to : ℕ) (t : CoreTerm) (p q : PatternTerm) → KeepsValues old new
    → Each (IsPatternTerm (length old)) terms → IsOpened new from to t p → q ≡ put (at_places terms) p → IsPatternTerm (length new) q
under_fine old new terms from to t p q kept fine o is =
    subst (IsPatternTerm (length new)) (sym is) (fine_put (length new) (at_places terms) p o.formed
    (λ x has. fine_kept old new kept (at_places terms x) (places_fine (length old) terms fine x)))

-- ---- one after another

-- the first so many, each with its value
abbrev pub AreFirst : List Node → List PatternTerm → List CoreTerm → List PatternTerm → Type 0
AreFirst pool terms ts ps =
    (nodes : List Node) → KeepsValues pool nodes → (h : Holes) → map (eval (map (fill nodes h) terms)) ts ≡ map Some (map (fill nodes h) ps)

-- none yet
pub none_first : (pool : List Node) (terms ps : List PatternTerm) → ps ≡ [] → AreFirst pool terms [] ps
none_first pool terms ps none nodes keeps h = sym (ap (λ l. map Some (map (fill nodes h) l)) none)

pub none_formed : (pool : List Node) (ps : List PatternTerm) → ps ≡ [] → Each (IsPatternTerm (length pool)) ps
none_formed pool ps none = subst (Each (IsPatternTerm (length pool))) (sym none) tt

-- terms beside a pool stay such as it grows
pub all_fine : (old new : List Node) → KeepsValues old new → (ts : List PatternTerm) → Each (IsPatternTerm (length old)) ts
    → Each (IsPatternTerm (length new)) ts
all_fine old new kept ts fine = Each-map (IsPatternTerm (length old)) (IsPatternTerm (length new)) (fine_kept old new kept) ts fine

-- and one more is one too
pub one_fine : (old new : List Node) → KeepsValues old new → (ps : List PatternTerm) (p : PatternTerm) (qs : List PatternTerm)
    → Each (IsPatternTerm (length old)) ps → IsPatternTerm (length new) p → qs ≡ ps ++ p ∷ [] → Each (IsPatternTerm (length new)) qs
one_fine old new kept ps p qs fine one more =
    subst (Each (IsPatternTerm (length new))) (sym more)
    (Each-append (IsPatternTerm (length new)) ps (p ∷ []) (all_fine old new kept ps fine) (one, tt))

-- one more
pub one_more : (old new : List Node) (terms : List PatternTerm) (ts : List CoreTerm) (ps qs : List PatternTerm) (i : ℕ) (t : CoreTerm) (p : PatternTerm)
    → i < length ts → t ≡ get_or ts i t → KeepsValues old new → AreFirst old terms (take i ts) ps → IsTermUnder new terms t p → qs ≡ ps ++ p ∷ []
    → AreFirst new terms (take (i + 1) ts) qs
one_more old new terms ts ps qs i t p low here kept first is more nodes keeps h =
    let b = map (fill nodes h) terms in
    let one : Value → List Value = λ v. v ∷ [] in
    ap (map (eval b)) (take_more ts i t low ∙ ap (λ (u : CoreTerm). take i ts ++ u ∷ []) (sym here))
    ∙ map-append (eval b) (take i ts) (t ∷ [])
    ∙ ap (λ os. os ++ eval b t ∷ []) (first nodes (kept_on old new nodes kept keeps) h)
    ∙ ap (λ o. map Some (map (fill nodes h) ps) ++ o ∷ []) (is nodes keeps h)
    ∙ sym (ap (λ l. map Some (map (fill nodes h) l)) more
    ∙ ap (map Some) (map-append (fill nodes h) ps (p ∷ []))
    ∙ map-append Some (map (fill nodes h) ps) (fill nodes h p ∷ []))

-- values, all of them
all_some : (vs : List Value) → all_of (map Some vs) ≡ Some vs
all_some [] = refl
all_some (v ∷ vs) = ap (before v) (all_some vs)

-- all of them
pub all_under : (pool : List Node) (terms : List PatternTerm) (ts : List CoreTerm) (ps : List PatternTerm) (i : ℕ) → i ≤ length ts → length ts ≤ i
    → AreFirst pool terms (take i ts) ps → AreTermsUnder pool terms ts ps
all_under pool terms ts ps i low all first nodes keeps h =
    let whole : i ≡ length ts = omega (arith, low, all) in
    ap all_of (ap (map (eval (map (fill nodes h) terms))) (sym (ap (λ n. take n ts) whole ∙ take-length ts)) ∙ first nodes keeps h)
    ∙ all_some (map (fill nodes h) ps)
