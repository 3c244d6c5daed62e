-- Each body atom is named once, and is that of its instance.
use Rattle.std.proofs.Common.{◌≡◌, ℕ, List, [], ◌∷◌, ◌++◌, length, refl, sym, ◌∙◌, ap, subst, inl, inr}
use Rattle.std.specs.Prelude.{Option, Some, None, slice_get}
use Rattle.search_values.specs.Instances.{Rules}
use Rattle.search_values.specs.Tables.{Made}
use Rattle.search_values.specs.Ids.{AtomNode, Named, BodyOf}
use Rattle.journal_theory.specs.States.{State, IsPending}
use Rattle.journal_theory.specs.Events.{Event, NameTerm, NameAtom, NameBody, Number, Make, Put, Choose, Close, Strike, Keep, Learn, Justify, CallWide, Back, Show, Pass, happens, BodyIsNext, Allowed}
use Rattle.journal_theory.specs.Journals.{replay, Legal}
use Rattle.search_values.proofs.Basics.{get_none, get_snoc}

-- no body atom has two names, and an instance with a name for its body atom has that body atom
pub record BodyNames {N A K : Type 0} (s : State N A K) : Type 0 where
  pub once : (x y j : ℕ) → slice_get s.names x ≡ Some (BodyOf j) → slice_get s.names y ≡ Some (BodyOf j) → x ≡ y
  pub are : (x j : ℕ) (k : Made K) → slice_get s.names x ≡ Some (BodyOf j) → slice_get s.made j ≡ Some k → k.body ≡ Some x

module _ {N A K : Type 0} (core : Rules N A K) (s : State N A K) (h : BodyNames s) where
  -- each event keeps it
  pub body_names_keep : (listed : List (List A)) (e : Event A K) → Allowed core listed s e → BodyNames (happens core s e)
  body_names_keep listed (NameTerm node) ok = record { once = h.once; are = h.are }
  body_names_keep listed (NameAtom a) ok = record {
    once = λ x y j p q. h.once x y j (old x j p) (old y j q);
    are = λ x j k p q. h.are x j k (old x j p) q;
  }
    where
      old : (x j : ℕ) → slice_get (s.names ++ Named a ∷ []) x ≡ Some (BodyOf j) → slice_get s.names x ≡ Some (BodyOf j)
      old x j p = elim (get_snoc s.names (Named a) x (BodyOf j) p) [ inl q ↦ q | inr q ↦ (let w = q.1 in cc) ]
  body_names_keep listed NameBody ok = record {
    once = λ x y j p q. elim (get_snoc s.names (BodyOf (length s.made)) x (BodyOf j) p) [
      | inl m ↦ elim (get_snoc s.names (BodyOf (length s.made)) y (BodyOf j) q) [
        | inl n ↦ h.once x y j m n
        | inr n ↦ absurd (pending x j (BodyOf (length s.made)) refl m n.1)
      ]
      | inr m ↦ elim (get_snoc s.names (BodyOf (length s.made)) y (BodyOf j) q) [
        | inl n ↦ absurd (pending y j (BodyOf (length s.made)) refl n m.1)
        | inr n ↦ (m.0 ∙ sym n.0)
      ]
    ];
    are = λ x j k p q. elim (get_snoc s.names (BodyOf (length s.made)) x (BodyOf j) p) [
      | inl m ↦ h.are x j k m q
      | inr m ↦ absurd (get_none s.made k (subst (λ z. slice_get s.made z ≡ Some k) (number j (BodyOf (length s.made)) m.1 refl) q))
    ];
  }
    where
      number : (j : ℕ) (n : AtomNode A) → BodyOf j ≡ n → n ≡ BodyOf (length s.made) → j ≡ length s.made
      number j n e f = cc

      pending : (x j : ℕ) (n : AtomNode A) → n ≡ BodyOf (length s.made) → slice_get s.names x ≡ Some (BodyOf j) → ¬ (BodyOf j ≡ n)
      pending x j n f m e = ok.1 x (m ∙ ap (λ (z : AtomNode A). Some z) (e ∙ f))
  body_names_keep listed (Number x a number) ok = record { once = h.once; are = h.are }
  body_names_keep listed (Make k) ok = record {
    once = h.once;
    are = λ x j m p q. elim (get_snoc s.made k j m q) [
      | inl old ↦ h.are x j m p old
      | inr new ↦ subst (λ (z : Made K). z.body ≡ Some x) (sym new.1) (body_is k.body ok.5 x (subst (λ z. slice_get s.names x ≡ Some (BodyOf z)) new.0 p))
    ];
  }
    where
      body_is : (body : Option ℕ) → BodyIsNext s body → (x : ℕ) → IsPending s x → body ≡ Some x
      body_is None next x p = absurd (next x p)
      body_is (Some b) next x p = ap (λ z. Some z) (h.once b x (length s.made) next p)
  body_names_keep listed (Put a v n) ok = record { once = h.once; are = h.are }
  body_names_keep listed (Choose b up) ok = record { once = h.once; are = h.are }
  body_names_keep listed (Close x) ok = record { once = h.once; are = h.are }
  body_names_keep listed (Strike n) ok = record { once = h.once; are = h.are }
  body_names_keep listed (Learn how ls) ok = record { once = h.once; are = h.are }
  body_names_keep listed (Justify patterns ls) ok = record { once = h.once; are = h.are }
  body_names_keep listed (Keep n) ok = record { once = h.once; are = h.are }
  body_names_keep listed (CallWide x) ok = record { once = h.once; are = h.are }
  body_names_keep listed (Back level) ok = record { once = h.once; are = h.are }
  body_names_keep listed (Show ids) ok = record { once = h.once; are = h.are }
  body_names_keep listed (Pass ids) ok = record { once = h.once; are = h.are }

-- a legal journal names each body atom once, for its instance
pub legal_body_names : {N A K : Type 0} (core : Rules N A K) (listed : List (List A)) (journal : List (Event A K)) → Legal core listed journal → BodyNames (replay core journal)
legal_body_names core listed [] legal = record { once = λ x y j p q. cc; are = λ x j k p q. cc }
legal_body_names core listed (e ∷ journal) legal = body_names_keep core (replay core journal) (legal_body_names core listed journal legal.0) listed e legal.1
