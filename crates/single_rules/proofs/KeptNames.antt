-- Single rules are well-formed where the statements are.
use Rattle.std.proofs.Common.{◌≡◌, ◌≢◌, inl, inr, refl, sym, ap, subst, ◌∙◌, ℕ, zero, suc, Bool, true, false, true≢false, cond, if◌then◌else◌, ◌&&◌, IsTrue, List, [], ◌∷◌, map, Option, Some, None, arith}
use Rattle.std.specs.List.{list_all}
use Rattle.lists.specs.Lists.{◌∈◌, Each, concat}
use Rattle.lists.proofs.ListLemmas.{Each-at, Each-from, Each-append, ∈-append_cases, ∈-map_from}
use Rattle.asp_syntax.specs.declared.tree.Term.{Term}
use Rattle.asp_syntax.specs.declared.tree.Term.TheVariants as tree
use Rattle.asp_syntax.specs.declared.tree.Atom as syntax
use Rattle.asp_syntax.specs.declared.tree.Guard.{Guard}
use Rattle.asp_syntax.specs.declared.tree.Literal.{Literal}
use Rattle.asp_syntax.specs.declared.tree.Literal.TheVariants as literal
use Rattle.asp_syntax.specs.declared.tree.Item.{Item}
use Rattle.asp_syntax.specs.declared.tree.Item.TheVariants as item
use Rattle.asp_syntax.specs.declared.tree.ChoiceElement.{ChoiceElement}
use Rattle.asp_syntax.specs.declared.tree.Head.{Head}
use Rattle.asp_syntax.specs.declared.tree.Head.TheVariants as head
use Rattle.asp_syntax.specs.declared.tree.Statement.{Statement}
use Rattle.asp_syntax.specs.Bytes.{is_lower, is_word, quote, backslash, line_feed}
use Rattle.asp_syntax.specs.WellFormed.{IsId, IsName, IsText, IsInside}
use Rattle.asp_syntax.specs.Trees.{IsAllowed, IsWellFormedTerm, IsWellFormedAtom, IsWellFormedLiteral, IsWellFormedElement, HasGuard, IsWellFormedAggregate, IsWellFormedItem, IsWellFormedChoice, IsWellFormedHead, IsWellFormedStatement}
use Rattle.asp_meaning.specs.Terms.{Variable, anonymous}
use Rattle.asp_strata.specs.declared.predicate.Predicate.{Predicate}
use Rattle.asp_strata.specs.Recursion.{written, predicate_of, literal_predicates, condition_predicates, element_of}
use Rattle.single_rules.specs.declared.single.SingleRule.{SingleRule}
use Rattle.single_rules.specs.SingleRules.{IsWellFormedRule}
use Rattle.single_rules.specs.Renaming.{new_name, renamed, renamed_atom, renamed_literal}
use Rattle.single_rules.specs.Signs.{choice_in_text, head_in_text, item_in_text, statement_in_text, predicates_in_text, later_signs, has_predicate, opposite, variables_from, sign_rule, sign_rules}
use Rattle.single_rules.specs.Splitting.{condition_item, element_rule, counted, count_of, bound_rule, bound_rules, rules_with, rules_of, singles_of}
use Rattle.single_rules.proofs.Parts.{∈-concat_map_from, Each-concat}
use Rattle.single_rules.proofs.Bounds.{globals_well_formed}
use Rattle.single_rules.proofs.Renamed.{parts_renamed, parts_variable, parts_text}

-- ---- terms

-- a well-formed term with new names is well-formed
term_renamed : (r : Variable → Variable) (t : Term) → IsWellFormedTerm t → IsWellFormedTerm (renamed r t)
term_renamed r t h = subst (Each IsAllowed) (sym (parts_renamed r t)) h

-- and so are terms
terms_kept : (r : Variable → Variable) (ts : List Term) → Each IsWellFormedTerm ts → Each IsWellFormedTerm (map (renamed r) ts)
terms_kept r [] h = tt
terms_kept r (t ∷ ts) h = (term_renamed r t h.0, terms_kept r ts h.1)

-- so is an atom
atom_renamed : (r : Variable → Variable) (a : syntax.Atom) → IsWellFormedAtom a → IsWellFormedAtom (renamed_atom r a)
atom_renamed r a h = (h.0, terms_kept r a.args h.1)

-- so is a literal
literal_kept : (r : Variable → Variable) (l : Literal) → IsWellFormedLiteral l → IsWellFormedLiteral (renamed_literal r l)
literal_kept r (literal.Positive a) h = atom_renamed r a h
literal_kept r (literal.Negative a) h = atom_renamed r a h
literal_kept r (literal.Compare op x y) h = (term_renamed r x h.0, term_renamed r y h.1)

-- ---- a name as a text

-- a byte that passes a test is not one that doesn't
not_byte : (test : ℕ → Bool) (b c : ℕ) → IsTrue (test b) → test c ≡ false → b ≢ c
not_byte test b c holds fails e = true≢false (sym holds ∙ ap test e ∙ fails)

-- where two tests are both passed, the first one is
first_true : (a b : Bool) → IsTrue (a && b) → IsTrue a
first_true true b h = refl
first_true false b h = h

-- and the second one
rest_true : (a b : Bool) → IsTrue (a && b) → IsTrue b
rest_true true b h = h
rest_true false b h = absurd (true≢false (sym h))

-- letters, digits and `_` may stand in a text, behind a byte that is no backslash
inside_words : (previous : ℕ) (bytes : List ℕ) → previous ≢ backslash → IsTrue (list_all is_word bytes) → IsInside previous bytes
inside_words previous [] apart words = apart
inside_words previous (b ∷ bytes) apart words =
    let here : IsTrue (is_word b) = first_true (is_word b) (list_all is_word bytes) words in (
      not_byte is_word b line_feed here refl,
      λ e. absurd (not_byte is_word b quote here refl e),
      inside_words b bytes (not_byte is_word b backslash here refl) (rest_true (is_word b) (list_all is_word bytes) words),
    )

-- a name may stand inside a text
inside_id : (previous : ℕ) (name : List ℕ) → IsName is_lower name → IsInside previous name
inside_id previous [] h = absurd h
inside_id previous (b ∷ bytes) h = (
  not_byte is_lower b line_feed h.0 refl,
  λ e. absurd (not_byte is_lower b quote h.0 refl e),
  inside_words b bytes
      (not_byte is_lower b backslash h.0 refl) h.1,
)

-- a minus is no line feed
minus_no_line_feed : 45 ≢ line_feed
minus_no_line_feed e = absurd (omega (arith, e))

-- and no quote
minus_no_quote : 45 ≡ quote → quote ≡ backslash
minus_no_quote e = absurd (omega (arith, e))

-- a name with its sign may stand between quotes
written_text : (p : Predicate) → IsId p.name → IsText (written p)
written_text p h = by_sign p.negated
  where
    by_sign : (b : Bool) → IsText (if b then 45 ∷ p.name else p.name)
    by_sign false = inside_id quote p.name h.0
    by_sign true = (minus_no_line_feed, minus_no_quote, inside_id 45 p.name h.0)

-- a text that may be one is a well-formed term
text_term : (t : List ℕ) → IsText t → IsWellFormedTerm (tree.Text t)
text_term t h = subst (Each IsAllowed) (sym (parts_text t)) (h, tt)

-- ---- rules

-- the rule of an element is well-formed
element_kept : (x : Statement) (e : ChoiceElement) → IsWellFormedStatement x → IsWellFormedChoice e → IsWellFormedRule (element_rule x e)
element_kept x e h good = (
  (
    atom_renamed (new_name x) e.atom good.0,
    Each-append IsWellFormedItem x.body (map (condition_item x) e.condition) h.1
        (Each-from IsWellFormedItem (map (condition_item x) e.condition) (λ i k.
        let f = ∈-map_from (condition_item x) i e.condition k in
        subst IsWellFormedItem (sym f.2) (literal_kept (new_name x) f.0 (Each-at IsWellFormedLiteral e.condition f.0 good.1 f.1)))),
  ),
  globals_well_formed x h,
)

-- a counted tuple is
counted_kept : (e : ChoiceElement) → IsWellFormedChoice e → IsWellFormedElement (counted e)
counted_kept e good =
    ((text_term (written (predicate_of e.atom)) (written_text (predicate_of e.atom) good.0.0), good.0.1), (good.0, good.1))

-- the constraint for bounds is
bound_kept : (x : Statement) (left right : Option Guard) (elements : List ChoiceElement) → IsWellFormedStatement x
    → x.head ≡ head.Choice left elements right → HasGuard left right
    → IsWellFormedRule (bound_rule x (count_of left elements right))
bound_kept x left right elements h is guarded =
    let good = subst IsWellFormedHead is h.0 in
    let count : IsWellFormedAggregate (count_of left elements right) = record {
      elements = Each-from IsWellFormedElement (map counted elements) (λ a k.
          let f = ∈-map_from counted a elements k in
          subst IsWellFormedElement (sym f.2) (counted_kept f.0 (Each-at IsWellFormedChoice elements f.0 good.1 f.1)));
      left = good.0;
      right = good.2;
      guarded = guarded;
    } in (
      (
        tt,
        Each-append IsWellFormedItem x.body (item.Aggregate true (count_of left elements right) ∷ []) h.1
            (count, tt),
      ),
      globals_well_formed x h,
    )

-- whether or not there are bounds
bounds_kept : (x : Statement) (left right : Option Guard) (elements : List ChoiceElement) → IsWellFormedStatement x
    → x.head ≡ head.Choice left elements right
    → (r : SingleRule) → r ∈ bound_rules x left elements right → IsWellFormedRule r
bounds_kept x None None elements h is r k = absurd k
bounds_kept x None (Some right) elements h is r (inl e) = subst IsWellFormedRule (sym e) (bound_kept x None (Some right) elements h is tt)
bounds_kept x None (Some right) elements h is r (inr none) = absurd none
bounds_kept x (Some left) right elements h is r (inl e) = subst IsWellFormedRule (sym e) (bound_kept x (Some left) right elements h is tt)
bounds_kept x (Some left) right elements h is r (inr none) = absurd none

-- each rule of a well-formed statement is well-formed
rule_kept : (x : Statement) (g : Head) → x.head ≡ g → IsWellFormedStatement x → (r : SingleRule) → r ∈ rules_with x g → IsWellFormedRule r
rule_kept x head.Absent is h r (inl e) = subst IsWellFormedRule (sym e) ((tt, h.1), globals_well_formed x h)
rule_kept x head.Absent is h r (inr none) = absurd none
rule_kept x (head.Single a) is h r (inl e) = subst IsWellFormedRule (sym e) ((subst IsWellFormedHead is h.0, h.1), globals_well_formed x h)
rule_kept x (head.Single a) is h r (inr none) = absurd none
rule_kept x (head.Choice left elements right) is h r k =
    elim (∈-append_cases r (map (element_rule x) elements) (bound_rules x left elements right) k) [
      | inl j ↦ let f = ∈-map_from (element_rule x) r elements j in
          subst IsWellFormedRule (sym f.2)
          (element_kept x f.0 h (Each-at IsWellFormedChoice elements f.0 (subst IsWellFormedHead is h.0).1 f.1))
      | inr j ↦ bounds_kept x left right elements h is r j
    ]

-- ---- the constraints for both signs

-- the predicate has a name
abbrev HasId : Predicate → Type 0
HasId p = IsId p.name

-- the predicates of a well-formed literal have names
literal_names : (l : Literal) → IsWellFormedLiteral l → Each HasId (literal_predicates l)
literal_names (literal.Positive a) h = (h.0, tt)
literal_names (literal.Negative a) h = (h.0, tt)
literal_names (literal.Compare op x y) h = tt

-- those of a condition have
condition_names : (ls : List Literal) → Each IsWellFormedLiteral ls → Each HasId (condition_predicates ls)
condition_names ls h = Each-concat literal_predicates IsWellFormedLiteral HasId literal_names ls h

-- those of an item have
item_names : (i : Item) → IsWellFormedItem i → Each HasId (item_in_text i)
item_names (item.Plain l) h = literal_names l h
item_names (item.Aggregate denied g) h =
    Each-concat element_of IsWellFormedElement HasId (λ e good. condition_names e.condition good.1) g.elements h.elements

-- those of a head have
head_names : (g : Head) → IsWellFormedHead g → Each HasId (head_in_text g)
head_names head.Absent h = tt
head_names (head.Single a) h = (h.0, tt)
head_names (head.Choice left elements right) h =
    Each-concat choice_in_text IsWellFormedChoice HasId (λ e good. (good.0.0, condition_names e.condition good.1)) elements h.1

-- those of a statement have
statement_names : (x : Statement) → IsWellFormedStatement x → Each HasId (statement_in_text x)
statement_names x h = Each-append HasId (head_in_text x.head) (concat (map item_in_text x.body)) (head_names x.head h.0)
    (Each-concat item_in_text IsWellFormedItem HasId item_names x.body h.1)

-- a later sign is a predicate of the text
later_among : (seen ps : List Predicate) (p : Predicate) → p ∈ later_signs seen ps → p ∈ ps
later_among seen [] p k = absurd k
later_among seen (q ∷ ps) p k =
    by_case (has_predicate seen q) (has_predicate seen (opposite q)) k (later_among seen ps p) (later_among (q ∷ seen) ps p)
  where
    by_case : (b c : Bool) → p ∈ (cond b (later_signs seen ps) (cond c (q ∷ later_signs (q ∷ seen) ps) (later_signs (q ∷ seen) ps)))
        → (p ∈ later_signs seen ps → p ∈ ps) → (p ∈ later_signs (q ∷ seen) ps → p ∈ ps) → p ∈ (q ∷ ps)
    by_case true c k passed put = inr (passed k)
    by_case false true (inl e) passed put = inl e
    by_case false true (inr k) passed put = inr (put k)
    by_case false false k passed put = inr (put k)

-- variables are well-formed
variables_kept : (k n : ℕ) → Each IsWellFormedTerm (variables_from k n)
variables_kept k zero = tt
variables_kept k (suc n) = (subst (Each IsAllowed) (sym (parts_variable (anonymous k))) tt, variables_kept (suc k) n)

-- the constraint for both signs of a name is well-formed
sign_kept : (p : Predicate) → IsId p.name → IsWellFormedRule (sign_rule p)
sign_kept p h = ((tt, ((h, variables_kept 0 p.arity), ((h, variables_kept 0 p.arity), tt))), tt)

-- so are those for strong negation in a well-formed program
signs_kept : (P : List Statement) → Each IsWellFormedStatement P → (p : Predicate) → p ∈ later_signs [] (predicates_in_text P)
    → IsWellFormedRule (sign_rule p)
signs_kept P h p k = sign_kept p (Each-at HasId (predicates_in_text P) p
    (Each-concat statement_in_text IsWellFormedStatement HasId statement_names P h) (later_among [] (predicates_in_text P) p k))

-- all single rules of a well-formed program are well-formed
pub names_kept : (P : List Statement) → Each IsWellFormedStatement P → Each IsWellFormedRule (singles_of P)
names_kept P h = Each-append IsWellFormedRule (concat (map rules_of P)) (sign_rules P)
    (Each-from IsWellFormedRule (concat (map rules_of P)) (λ r k.
    let f = ∈-concat_map_from rules_of P r k in rule_kept f.0 f.0.head refl (Each-at IsWellFormedStatement P f.0 h f.1) r f.2))
    (Each-from IsWellFormedRule (sign_rules P) (λ r k.
    let f = ∈-map_from sign_rule r (later_signs [] (predicates_in_text P)) k in subst IsWellFormedRule (sym f.2) (signs_kept P h f.0 f.1)))
