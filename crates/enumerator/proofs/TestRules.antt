-- The tests' rules are in core form, and make a core that can be searched.
use Rattle.std.proofs.Common.{◌≡◌, ℕ, arith, List, [], ◌∷◌, ◌++◌, map, Option, Some, None, refl, sym, ap, subst, ◌∙◌}
use Rattle.std.specs.Prelude.{◌↔◌, slice_get}
use Rattle.lists.specs.Lists.{◌∈◌, Each, concat}
use Rattle.lists.proofs.ListLemmas.{Each-map, Each-append}
use Rattle.alpha_outside.specs.declared.pred.Pred.TheVariants as pred
use Rattle.alpha_outside.specs.declared.kinds.RuleKind.{RuleKind}
use Rattle.alpha_outside.specs.declared.kinds.RuleKind.TheVariants.{Constraint}
use Rattle.core_rules.specs.declared.rules.CoreTerm.{CoreTerm}
use Rattle.core_rules.specs.declared.rules.CoreAtom.{CoreAtom}
use Rattle.core_rules.specs.declared.rules.CoreAggregate.{CoreAggregate}
use Rattle.core_rules.specs.declared.rules.Test.{Test}
use Rattle.core_rules.specs.declared.rules.CoreRule.{CoreRule}
use Rattle.core_rules.specs.Variables.{atom_variables, head_variables, rule_variables}
use Rattle.core_rules.specs.CoreForm.{MayStand, IsFitting, HasNoArithmetic, IsHead, IsRuleForm, IsBelowTotal}
use Rattle.core_rules.specs.Names.{IsNamedAtom, IsNamedHead, IsNamedRule}
use Rattle.search_rules.specs.Stage.{IsSearchable}

-- an atom without variables and arithmetic, of a predicate of the program
abbrev IsGround : CoreAtom → Type 0
IsGround a = IsFitting [] a × HasNoArithmetic a × IsNamedAtom a × (atom_variables a ≡ [])

-- the same for a head
abbrev IsGroundHead : Option CoreAtom → Type 0
IsGroundHead h = IsHead [] h × IsNamedHead h × (head_variables h ≡ [])

-- and for a rule
abbrev Fits : CoreRule → Type 0
Fits r = IsRuleForm [] r × IsNamedRule r

-- ground atoms have no variables
none_vary : (xs : List CoreAtom) → Each IsGround xs → concat (map atom_variables xs) ≡ []
none_vary [] each = refl
none_vary (x ∷ xs) each = ap (λ vs. vs ++ concat (map atom_variables xs)) each.0.3 ∙ none_vary xs each.1

-- empty lists, one after another
all_empty : (a b c : List ℕ) → a ≡ [] → b ≡ [] → c ≡ [] → (a ++ b ++ c ++ [] ++ []) ≡ []
all_empty a b c ea eb ec = ap (λ x. x ++ b ++ c ++ [] ++ []) ea ∙ ap (λ (y : List ℕ). y ++ c ++ [] ++ []) eb ∙ ap (λ (z : List ℕ). z ++ [] ++ []) ec

module _ (kind : RuleKind) (head : Option CoreAtom) (pos neg : List CoreAtom) (line : ℕ) where
  -- the rule of these parts
  abbrev of : CoreRule
  of = record { kind = kind; head = head; pos = pos; neg = neg; tests = []; defined = []; variables = 0; line = line }

  module _ (good : IsGroundHead head) (over : Each IsGround pos) (under : Each IsGround neg) where
    -- it has no variables
    none : rule_variables of ≡ []
    none = all_empty (head_variables head) (concat (map atom_variables pos)) (concat (map atom_variables neg)) good.2 (none_vary pos over) (none_vary neg under)

    -- so it is in core form
    of_fits : ((head ≡ None) ↔ (kind ≡ Constraint)) → Fits of
    of_fits constraint = (
      record {
        below = λ v i. absurd (subst (λ (vs : List ℕ). v ∈ vs) none i);
        bound = λ v l. absurd (omega (arith, l));
        lifted = Each-map IsGround HasNoArithmetic (λ a h. h.1) pos over;
        fitting = Each-map IsGround (IsFitting []) (λ a h. h.0) (pos ++ neg) (Each-append IsGround pos neg over under);
        head = good.0;
        constraint = constraint;
      },
      record {
        head = good.1;
        pos = Each-map IsGround IsNamedAtom (λ a h. h.2) pos over;
        neg = Each-map IsGround IsNamedAtom (λ a h. h.2) neg under;
        tests = tt;
        defined = tt;
      },
    )

    -- a rule of ground atoms is in core form
    pub rule_fits : (tests : List Test) (defined : List CoreTerm) → tests ≡ [] → defined ≡ [] → ((head ≡ None) ↔ (kind ≡ Constraint))
        → Fits (record { kind = kind; head = head; pos = pos; neg = neg; tests = tests; defined = defined; variables = 0; line = line })
    rule_fits tests defined no_tests none_defined constraint =
        subst (λ (ts : List Test). Fits (record of { tests = ts; defined = defined })) (sym no_tests)
        (subst (λ (ds : List CoreTerm). Fits (record of { defined = ds })) (sym none_defined) (of_fits constraint))

-- without aggregates none is a member of one
no_member : (h : Option CoreAtom) (a : CoreAtom) (agg arity : ℕ) → h ≡ Some a → a.pred ≡ pred.Member agg arity → ¬ IsHead [] h
no_member h a agg arity is e good =
    let of : IsHead [] (Some a) = subst (IsHead []) is good in
    let stands : MayStand [] (pred.Member agg arity) = subst (MayStand []) e of.0.0 in
    nothing agg stands.0 stands.1
  where
    nothing : (agg : ℕ) (g : CoreAggregate) → ¬ (slice_get [] agg ≡ Some g)
    nothing agg g e = cc

-- such rules alone make a core that can be searched
alone_fits : (rules : List CoreRule) → Each Fits rules → IsSearchable (record { rules = rules; aggregates = [] })
alone_fits rules each = record {
  form = record {
    rules = Each-map Fits (IsRuleForm []) (λ r h. h.0) rules each;
    members = Each-map Fits (IsBelowTotal (record { rules = rules; aggregates = [] })) (λ r h a b agg arity arity' is e among apart. absurd (no_member r.head a agg arity is e h.0.head)) rules each;
  };
  names = Each-map Fits IsNamedRule (λ r h. h.1) rules each;
  no_aggregates = refl;
}

-- so they do with an empty list of aggregates
pub core_fits : (rules : List CoreRule) (aggregates : List CoreAggregate) → aggregates ≡ [] → Each Fits rules → IsSearchable (record { rules = rules; aggregates = aggregates })
core_fits rules aggregates none each = subst (λ (aggs : List CoreAggregate). IsSearchable (record { rules = rules; aggregates = aggs })) (sym none) (alone_fits rules each)
