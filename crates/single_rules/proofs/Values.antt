-- Literals under two substitutions that give their terms the same values.
use Rattle.std.proofs.Common.{◌≡◌, inl, inr, refl, sym, ap, ◌∙◌, ℤ, List, [], ◌∷◌, map, Option, Some, None}
use Rattle.lists.specs.Lists.{◌∈◌, Each}
use Rattle.lists.proofs.ListLemmas.{Each-from}
use Rattle.asp_syntax.specs.declared.tree.Atom as syntax
use Rattle.asp_syntax.specs.declared.tree.Term.{Term}
use Rattle.asp_syntax.specs.declared.tree.Guard.{Guard}
use Rattle.asp_syntax.specs.declared.tree.Literal.{Literal}
use Rattle.asp_syntax.specs.declared.tree.Literal.TheVariants as literal
use Rattle.asp_meaning.specs.declared.value.Value.{Value}
use Rattle.asp_meaning.specs.Terms.{Variable, Substitution, all_of, before, eval, eval_all}
use Rattle.asp_meaning.specs.Variables.{variables, literal_terms, guard_terms}
use Rattle.asp_meaning.specs.Atoms.{Atom, Becomes}
use Rattle.asp_meaning.specs.Bodies.{LiteralHolds, LeftHolds, RightHolds}
use Rattle.asp_meaning.specs.Programs.{HasValue, Rests}
use Rattle.asp_laws.proofs.Globals.{eval_same, AreSame}
use Rattle.single_rules.specs.Renaming.{renamed, renamed_atom, renamed_literal}

-- substitutions that agree on the variables of terms
pub same_by_variables : (s t : Substitution) (ts : List Term) → ((u : Term) → u ∈ ts → (v : Variable) → v ∈ variables u → t v ≡ s v)
    → AreSame s t ts
same_by_variables s t ts h u k = eval_same s t u (h u k)

-- terms with values keep them
pub values_same : (s t : Substitution) (ts : List Term) → AreSame s t ts → ((u : Term) → u ∈ ts → HasValue s u) → Each (HasValue t) ts
values_same s t ts h k = Each-from (HasValue t) ts (λ u among. let v = k u among in (v.0, h u among ∙ v.1))

-- ---- terms with other names

module _ (r : Variable → Variable) (s t : Substitution) where
  -- each of these terms has under t the value that it has under s with other names
  abbrev pub AreCarried : List Term → Type 0
  AreCarried ts = (u : Term) → u ∈ ts → eval s (renamed r u) ≡ eval t u

  -- so their values together are the same
  pub all_carried : (ts : List Term) → AreCarried ts → eval_all s (map (renamed r) ts) ≡ eval_all t ts
  all_carried ts h = ap all_of (values ts h)
    where
      values : (us : List Term) → AreCarried us → map (eval s) (map (renamed r) us) ≡ map (eval t) us
      values [] h = refl
      values (u ∷ us) h = let first = h u (inl refl) in let rest = values us (λ w k. h w (inr k)) in λ i. first i ∷ rest i

  -- the renamed atom becomes what the atom becomes
  pub becomes_to : (p : syntax.Atom) (a : Atom) → AreCarried p.args → Becomes t p a → Becomes s (renamed_atom r p) a
  becomes_to p a h b = (b.0, b.1, all_carried p.args h ∙ b.2)

  -- and back
  pub becomes_back : (p : syntax.Atom) (a : Atom) → AreCarried p.args → Becomes s (renamed_atom r p) a → Becomes t p a
  becomes_back p a h b = (b.0, b.1, sym (all_carried p.args h) ∙ b.2)

  -- the renamed literal holds where the literal does
  pub literal_to : (I : List Atom) (l : Literal) → AreCarried (literal_terms l) → LiteralHolds t I l
      → LiteralHolds s I (renamed_literal r l)
  literal_to I (literal.Positive p) h k = (k.0, becomes_to p k.0 h k.1, k.2)
  literal_to I (literal.Negative p) h k = (k.0, becomes_to p k.0 h k.1, k.2)
  literal_to I (literal.Compare op x y) h k = (k.0, k.1, h x (inl refl) ∙ k.2, h y (inr (inl refl)) ∙ k.3, k.4)

  -- and back
  pub literal_back : (I : List Atom) (l : Literal) → AreCarried (literal_terms l) → LiteralHolds s I (renamed_literal r l)
      → LiteralHolds t I l
  literal_back I (literal.Positive p) h k = (k.0, becomes_back p k.0 h k.1, k.2)
  literal_back I (literal.Negative p) h k = (k.0, becomes_back p k.0 h k.1, k.2)
  literal_back I (literal.Compare op x y) h k = (k.0, k.1, sym (h x (inl refl)) ∙ k.2, sym (h y (inr (inl refl))) ∙ k.3, k.4)

  -- it rests on what the literal rests on
  pub rests_to : (earlier : List Atom) (l : Literal) → AreCarried (literal_terms l) → Rests t earlier l
      → Rests s earlier (renamed_literal r l)
  rests_to earlier (literal.Positive p) h k = (k.0, becomes_to p k.0 h k.1, k.2)
  rests_to earlier (literal.Negative p) h k = tt
  rests_to earlier (literal.Compare op x y) h k = tt

  -- and back
  pub rests_back : (earlier : List Atom) (l : Literal) → AreCarried (literal_terms l) → Rests s earlier (renamed_literal r l)
      → Rests t earlier l
  rests_back earlier (literal.Positive p) h k = (k.0, becomes_back p k.0 h k.1, k.2)
  rests_back earlier (literal.Negative p) h k = tt
  rests_back earlier (literal.Compare op x y) h k = tt

-- ---- values of what holds

-- nothing is no value
pub option_apart : {A : Type 0} {x : A} → ¬ (None ≡ Some x)
option_apart e = absurd (cc)

-- where all have values, each has
pub each_value : (s : Substitution) (ts : List Term) (xs : List Value) → eval_all s ts ≡ Some xs → (u : Term) → u ∈ ts → HasValue s u
each_value s [] xs e u among = absurd among
each_value s (t ∷ ts) xs e u among = by_case (eval s t) refl (all_of (map (eval s) ts)) refl (each_value s ts)
  where
    by_case : (o : Option Value) → eval s t ≡ o → (rest : Option (List Value)) → all_of (map (eval s) ts) ≡ rest
        → ((ys : List Value) → eval_all s ts ≡ Some ys → (w : Term) → w ∈ ts → HasValue s w) → HasValue s u
    by_case None is rest others later = absurd (option_apart (sym (ap (λ o. all_of (o ∷ map (eval s) ts)) is) ∙ e))
    by_case (Some x) is None others later =
        absurd (option_apart (sym (ap (λ o. all_of (o ∷ map (eval s) ts)) is ∙ ap (before x) others) ∙ e))
    by_case (Some x) is (Some ys) others later = elim among [ inl same ↦ (x, ap (eval s) same ∙ is) | inr k ↦ later ys others u k ]

-- the terms of an atom that becomes one have values
pub becomes_values : (s : Substitution) (p : syntax.Atom) (a : Atom) → Becomes s p a → (u : Term) → u ∈ p.args → HasValue s u
becomes_values s p a b = each_value s p.args a.args b.2

-- the terms of a literal that holds have values
pub literal_values : (s : Substitution) (I : List Atom) (l : Literal) → LiteralHolds s I l → (u : Term) → u ∈ literal_terms l → HasValue s u
literal_values s I (literal.Positive p) k u among = becomes_values s p k.0 k.1 u among
literal_values s I (literal.Negative p) k u among = becomes_values s p k.0 k.1 u among
literal_values s I (literal.Compare op x y) k u (inl e) = (k.0, ap (eval s) e ∙ k.2)
literal_values s I (literal.Compare op x y) k u (inr (inl e)) = (k.1, ap (eval s) e ∙ k.3)
literal_values s I (literal.Compare op x y) k u (inr (inr none)) = absurd none
