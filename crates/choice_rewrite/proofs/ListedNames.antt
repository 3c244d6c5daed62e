-- Names by another list of the global variables.
use Rattle.std.proofs.Common.{◌≡◌, ◌↔◌, inl, inr, sym, ap, subst, ◌∙◌, ℕ, cond, ◌<◌, ◌-◌, List, [], ◌∷◌, ◌++◌, append_assoc}
use Rattle.lists.specs.Lists.{◌∈◌}
use Rattle.asp_syntax.specs.declared.tree.Term.{Term}
use Rattle.asp_syntax.specs.declared.tree.Statement.{Statement}
use Rattle.asp_meaning.specs.Terms.{Variable}
use Rattle.asp_meaning.specs.Variables.{global_terms, global_variables}
use Rattle.asp_safety.specs.ClauseLists.{is_among}
use Rattle.asp_safety.specs.Binding.{variables_of}
use Rattle.single_rules.specs.Renaming.{mark, marked, all_terms, all_variables, marks_above, numbers_above, fresh_by, name_by, new_name}
use Rattle.choice_rewrite.proofs.AboveLemmas.{marked_less}
use Rattle.single_rules.proofs.Names.{is_or_not, among_true, among_false}

-- lists of the same variables give the same test
same_test : (keys globals : List Variable) → ((v : Variable) → (v ∈ keys) ↔ (v ∈ globals)) → (v : Variable)
    → is_among keys v ≡ is_among globals v
same_test keys globals same v = elim (is_or_not v globals) [
  | inl k ↦ among_true v keys ((same v).1 k) ∙ sym (among_true v globals k)
  | inr out ↦ among_false v keys (λ k. out ((same v).0 k)) ∙ sym (among_false v globals out)
]

-- the names by what the code finds are the new names
pub found_names : (s : Statement) (defined terms : List Term) (keys pushed empty : List Variable) (marks numbers : ℕ)
    → defined ≡ global_terms s → empty ≡ [] → pushed ≡ empty ++ variables_of defined
    → ((v : Variable) → (v ∈ keys) ↔ (v ∈ pushed)) → terms ≡ all_terms s → marks ≡ marks_above (variables_of terms)
    → numbers ≡ numbers_above (variables_of terms)
    → name_by keys marks numbers ≡ new_name s
found_names s defined terms keys pushed empty marks numbers d none p same t m n =
    let globals : pushed ≡ global_variables s = p ∙ ap (λ vs. vs ++ variables_of defined) none ∙ ap variables_of d in
    let all : variables_of terms ≡ all_variables s = ap variables_of t in
    let marks_same = m ∙ ap marks_above all in
    let numbers_same = n ∙ ap numbers_above all in
    let tests = same_test keys (global_variables s) (subst (λ vs. (v : Variable) → (v ∈ keys) ↔ (v ∈ vs)) globals same) in
    λ i v. cond (tests v i) v (fresh_by (marks_same i) (numbers_same i) v)

-- ---- marks before a name

-- one turn of the loop that puts marks before a name
pub one_mark : (old new : List ℕ) (n : ℕ) (name whole : List ℕ) → new ≡ old ++ mark ∷ [] → 0 < n → old ++ marked n name ≡ whole
    → new ++ marked (n - 1) name ≡ whole
one_mark old new n name whole e more h =
    ap (λ xs. xs ++ marked (n - 1) name) e ∙ append_assoc old (mark ∷ []) (marked (n - 1) name)
    ∙ ap (λ xs. old ++ xs) (sym (marked_less n name more)) ∙ h
