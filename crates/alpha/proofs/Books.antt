-- The book of a file of sets has the lines of the sets that the file lists.
use Rattle.std.proofs.Common.{◌≡◌, ℕ, List, [], ◌∷◌, ◌++◌, inl, inr, refl, sym, subst}
use Rattle.lists.specs.Lists.{◌∈◌, Each, AtLeastOne, SameSet}
use Rattle.lists.proofs.ListLemmas.{Each-at, Each-from}
use Rattle.asp_meaning.specs.Atoms.{Atom}
use Rattle.asp_meaning.specs.Lines.{IsSetLine}
use Rattle.asp_meaning.specs.Readable.{IsReadable}
use Rattle.asp_laws.proofs.Readable.{one_line_for_the_same_set, lines_tell_their_sets}
use Rattle.answer_printer.specs.Sets.{IsSetText}
use Rattle.after_book.specs.Listed.{Lists, IsListed}
use Rattle.after_book.proofs.ReadableLemmas.{set_is_readable}
use Rattle.alpha.specs.Journals.{AreListed}
use Rattle.alpha.specs.Outcomes.{IsBookOf}

-- a list is the same set as itself
same_itself : {X : Type 0} (xs : List X) → SameSet xs xs
same_itself xs = record { to = λ x i. i; back = λ x i. i }

-- and the same the other way round
same_back : {X : Type 0} (xs ys : List X) → SameSet xs ys → SameSet ys xs
same_back xs ys same = record { to = same.back; back = same.to }

-- the member of which it is so
one_member : {X : Type 0} (Q : X → Type 0) (xs : List X) → AtLeastOne Q xs → (x : X) × (x ∈ xs) × Q x
one_member Q [] one = absurd one
one_member Q (x ∷ xs) (inl q) = (x, inl refl, q)
one_member Q (x ∷ xs) (inr more) = let w = one_member Q xs more in (w.0, inr w.1, w.2)

-- a set can be read back as each list of its atoms
readable_same : (I J : List Atom) → SameSet I J → Each IsReadable I → Each IsReadable J
readable_same I J same each = Each-from IsReadable J (λ a i. Each-at IsReadable I a each (same.back a i))

-- the bytes list a set with this line
abbrev IsOne : List ℕ → List ℕ → Type 0
IsOne bytes line = (atoms : List Atom) × Lists bytes atoms × IsSetLine atoms line

-- the sets of lines
abbrev sets_of : (bytes : List ℕ) (book : List (List ℕ)) → Each (IsOne bytes) book → List (List Atom)
sets_of bytes [] only = []
sets_of bytes (line ∷ book) only = only.0.0 ∷ sets_of bytes book only.1

-- each is listed
set_is : (bytes : List ℕ) (book : List (List ℕ)) (only : Each (IsOne bytes) book) (I : List Atom) → I ∈ sets_of bytes book only → Lists bytes I
set_is bytes [] only I i = absurd i
set_is bytes (line ∷ book) only I (inl e) = subst (λ z. Lists bytes z) (sym e) only.0.1
set_is bytes (line ∷ book) only I (inr i) = set_is bytes book only.1 I i

-- and each line is that of one
set_there : (bytes : List ℕ) (book : List (List ℕ)) (only : Each (IsOne bytes) book) (line : List ℕ) → line ∈ book
    → (I : List Atom) × (I ∈ sets_of bytes book only) × IsSetLine I line
set_there bytes [] only line i = absurd i
set_there bytes (l ∷ book) only line (inl e) = (only.0.0, inl refl, subst (λ z. IsSetLine only.0.0 z) (sym e) only.0.2)
set_there bytes (l ∷ book) only line (inr i) = let w = set_there bytes book only.1 line i in (w.0, inr w.1, w.2)

module _ (bytes : List ℕ) (book : List (List ℕ)) (listed : (atoms : List Atom) → Lists bytes atoms → AtLeastOne (IsSetLine atoms) book)
    (only : Each (IsOne bytes) book) where
  -- a set that is listed can be read back, and has its line in the book
  line_there : (I : List Atom) → IsListed bytes I → (line : List ℕ) × (line ∈ book) × Each IsReadable I × IsSetLine I line
  line_there I is =
      let w = one_member (IsSetLine is.0) book (listed is.0 is.1) in (
        w.0,
        w.1,
        readable_same is.0 I is.2 (set_is_readable is.1.0 is.0 is.1.2),
        one_line_for_the_same_set I is.0 w.0 (same_back is.0 I is.2) w.2,
      )

  -- the sets of the book's lines are those that are listed
  some : AreListed bytes (sets_of bytes book only)
  some = record {
    each = λ I i. (I, set_is bytes book only I i, same_itself I);
    all = λ I is.
        let w = line_there I is in
        let v = set_there bytes book only w.0 w.1 in
        let l = set_is bytes book only v.0 v.1 in
        (v.0, v.1, lines_tell_their_sets I v.0 w.0 w.2 (set_is_readable l.0 v.0 l.2) w.3 v.2);
  }

  -- so the book is that of the file
  pub book_is : IsBookOf bytes book
  book_is = record {
    some = (sets_of bytes book only, some);
    each = λ A are. record {
      line_of = λ I i. line_there I (are.each I i);
      set_of = λ line i.
          let w = Each-at (IsOne bytes) book line only i in
          let J = are.all w.0 (w.0, w.1, same_itself w.0) in (
            J.0,
            J.1,
            readable_same w.0 J.0 J.2 (set_is_readable w.1.0 w.0 w.1.2),
            one_line_for_the_same_set J.0 w.0 line (same_back w.0 J.0 J.2) w.2,
          );
    };
  }

-- no set has an empty text
no_text : (atoms : List Atom) → ¬ IsSetText [] atoms
no_text atoms is = front is.spaced.0 is.spaced.1 is.spaced.3
  where
    front : (blanks rest : List ℕ) → [] ≡ blanks ++ 123 ∷ rest → ⊥
    front [] rest e = cc
    front (b ∷ blanks) rest e = cc

-- an empty file lists none
empty_lists : (atoms : List Atom) → ¬ Lists [] atoms
empty_lists atoms l = elim l.1 [ inl e ↦ no_text atoms (subst (λ t. IsSetText t atoms) e l.2) | inr none ↦ none ]

-- so its book has no line
pub empty_book : IsBookOf [] []
empty_book = book_is [] [] (λ atoms l. absurd (empty_lists atoms l)) tt
