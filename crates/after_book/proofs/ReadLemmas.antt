-- What was read of an after file, and what follows at its end.
use Rattle.std.proofs.Common.{◌≡◌, ◌↔◌, inl, inr, refl, sym, ap, subst, ◌∙◌, ℕ, ◌+◌, ◌<◌, ◌≤◌, List, [], ◌∷◌, ◌++◌, length, append_assoc, append-nil, length-append, Err, arith}
use Rattle.lists.specs.Lists.{◌∈◌, AtLeastOne, Each}
use Rattle.lists.proofs.ListLemmas.{AtLeastOne-at, AtLeastOne-from, Each-append, Each-from, SameSet-sym, ∈-append_left, ∈-append_right, ∈-append_cases}
use Rattle.asp_meaning.specs.Atoms.{Atom}
use Rattle.asp_meaning.specs.Lines.{IsSetLine}
use Rattle.asp_meaning.specs.Readable.{IsReadable}
use Rattle.asp_laws.proofs.Lines.{a_set_has_one_line}
use Rattle.asp_laws.proofs.Readable.{lines_tell_their_sets, one_line_for_the_same_set}
use Rattle.answer_printer.specs.Sets.{IsSetText}
use Rattle.after_book.specs.Parts.{parts, all_but_last, ended_lines, IsFine}
use Rattle.after_book.specs.Listed.{Lists, IsListed, IsFirstRefused}
use Rattle.after_book.specs.declared.fault.AfterFault.{AfterFault}
use Rattle.after_book.specs.declared.fault.AfterFault.TheVariants as fault
use Rattle.after_book.specs.Book.{IsDueFault, IsLineRead, TakesUp}
use Rattle.after_book.proofs.PartsLemmas.{ended_behind, ended_line}
use Rattle.after_book.proofs.ReadableLemmas.{set_is_readable}

-- the book has the lines of the sets among these texts, and no others
pub record AreTaken (texts book : List (List ℕ)) : Type 0 where
  pub all : (text : List ℕ) (atoms : List Atom) → text ∈ texts → IsSetText text atoms → AtLeastOne (IsSetLine atoms) book
  pub only : (line : List ℕ) → line ∈ book → (text : List ℕ) × (atoms : List Atom) × (text ∈ texts) × IsSetText text atoms × IsSetLine atoms line

-- so with one text more
pub taken_with : (texts book after : List (List ℕ)) (text : List ℕ) → AreTaken texts book → TakesUp book after text → AreTaken (texts ++ text ∷ []) after
taken_with texts book after text h step = record { all = all; only = only }
  where
    still : (atoms : List Atom) → AtLeastOne (IsSetLine atoms) book → AtLeastOne (IsSetLine atoms) after
    still atoms some =
        let one = AtLeastOne-at (IsSetLine atoms) book some in
        AtLeastOne-from (IsSetLine atoms) after one.0 (step.kept one.0 one.1) one.2

    all : (t : List ℕ) (atoms : List Atom) → t ∈ (texts ++ text ∷ []) → IsSetText t atoms → AtLeastOne (IsSetLine atoms) after
    all t atoms among set = elim (∈-append_cases t texts (text ∷ []) among) [
      | inl before ↦ still atoms (h.all t atoms before set)
      | inr last ↦ elim last [
        | inl same ↦ step.all atoms (subst (λ x. IsSetText x atoms) same set)
        | inr none ↦ absurd none
      ]
    ]

    only : (line : List ℕ) → line ∈ after
        → (t : List ℕ) × (atoms : List Atom) × (t ∈ (texts ++ text ∷ [])) × IsSetText t atoms × IsSetLine atoms line
    only line there = elim (step.only line there) [
      | inl before ↦ let old = h.only line before in (old.0, old.1, ∈-append_left old.0 texts (text ∷ []) old.2, old.3, old.4)
      | inr new ↦ (text, new.0, ∈-append_right text texts (text ∷ []) (inl refl), new.1, new.2)
    ]

-- so many lines were read, and the rest is left
pub record IsReading (bytes rest : List ℕ) (number : ℕ) (book : List (List ℕ)) : Type 0 where
  pub done : List (List ℕ)
  pub behind : parts bytes ≡ done ++ parts rest
  pub counted : number ≡ length done
  pub few : number + length rest ≤ length bytes
  pub fine : Each IsFine done
  pub taken : AreTaken done book

pub begun : (bytes : List ℕ) → IsReading bytes bytes 0 []
begun bytes = record {
  done = [];
  behind = refl;
  counted = refl;
  few = omega arith;
  fine = tt;
  taken = record { all = λ text atoms among set. absurd among; only = λ line there. absurd there };
}

-- one line more
pub read_on : (bytes rest line behind : List ℕ) (number : ℕ) (book after : List (List ℕ)) → IsReading bytes rest number book
    → parts rest ≡ line ∷ parts behind → length behind < length rest → IsFine line → TakesUp book after line → IsReading bytes behind (number + 1) after
read_on bytes rest line behind number book after h split less fine step = record {
  done = h.done ++ line ∷ [];
  behind = h.behind ∙ ap (λ xs. h.done ++ xs) split ∙ sym (append_assoc h.done (line ∷ []) (parts behind));
  counted = omega (arith, h.counted, length-append h.done (line ∷ []));
  few = omega (arith, h.few, less);
  fine = Each-append IsFine h.done (line ∷ []) h.fine (fine, tt);
  taken = taken_with h.done book after line h.taken step;
}

-- the lines are those that were read, and those that are left
lines_of_both : (bytes rest : List ℕ) (number : ℕ) (book : List (List ℕ)) → (h : IsReading bytes rest number book) → ended_lines bytes ≡ h.done ++ ended_lines rest
lines_of_both bytes rest number book h = ap all_but_last h.behind ∙ ended_behind h.done rest

-- the next line is the first that is refused
refused_next : (bytes rest line behind : List ℕ) (number n : ℕ) (book : List (List ℕ)) → IsReading bytes rest number book
    → parts rest ≡ line ∷ parts behind → n ≡ number + 1 → ¬ IsFine line → IsFirstRefused bytes n
refused_next bytes rest line behind number n book h split counted refused = record {
  before = h.done;
  line = line;
  behind = ended_lines behind;
  lines = lines_of_both bytes rest number book h ∙ ap (λ xs. h.done ++ xs) (ended_line rest line behind split);
  counted = omega (arith, counted, h.counted);
  fine = h.fine;
  refused = refused;
}

-- a line that is refused is due
pub due_fault : (bytes rest line behind : List ℕ) (number : ℕ) (book after : List (List ℕ)) (f : AfterFault) → IsReading bytes rest number book
    → parts rest ≡ line ∷ parts behind → IsLineRead book after line (number + 1) (Err f) → IsDueFault bytes f
due_fault bytes rest line behind number book after (fault.Refused n) h split refused =
    refused_next bytes rest line behind number n book h split refused.0 refused.1
due_fault bytes rest line behind number book after fault.OutOfMemory h split refused = tt

-- ---- the end

-- all parts were taken up, and all lines are fine
pub record IsWhole (bytes : List ℕ) (book : List (List ℕ)) : Type 0 where
  pub taken : AreTaken (parts bytes) book
  pub fine : Each IsFine (ended_lines bytes)

pub whole : (bytes rest : List ℕ) (number : ℕ) (book after : List (List ℕ)) → IsReading bytes rest number book
    → parts rest ≡ rest ∷ [] → TakesUp book after rest → IsWhole bytes after
whole bytes rest number book after h last step =
    let all : parts bytes ≡ h.done ++ rest ∷ [] = h.behind ∙ ap (λ xs. h.done ++ xs) last in
    let lines : ended_lines bytes ≡ h.done = lines_of_both bytes rest number book h ∙ ap (λ xs. h.done ++ all_but_last xs) last ∙ append-nil h.done in
    record {
      taken = subst (λ xs. AreTaken xs after) (sym all) (taken_with h.done book after rest h.taken step);
      fine = subst (Each IsFine) (sym lines) h.fine;
    }

module _ (bytes : List ℕ) (book : List (List ℕ)) (h : IsWhole bytes book) where
  pub all_listed : (atoms : List Atom) → Lists bytes atoms → AtLeastOne (IsSetLine atoms) book
  all_listed atoms listed = h.taken.all listed.0 atoms listed.1 listed.2

  pub only_listed : Each (λ line. (atoms : List Atom) × Lists bytes atoms × IsSetLine atoms line) book
  only_listed = Each-from (λ line. (atoms : List Atom) × Lists bytes atoms × IsSetLine atoms line) book
      (λ line there. let from = h.taken.only line there in (from.1, (from.0, from.2, from.3), from.4))

  -- the book has the line of a set of readable atoms exactly where the set is listed
  pub exactly_listed : (I : List Atom) (line : List ℕ) → Each IsReadable I → IsSetLine I line → (line ∈ book) ↔ IsListed bytes I
  exactly_listed I line readable is = (to, back)
    where
      to : line ∈ book → IsListed bytes I
      to there =
          let from = h.taken.only line there in
          (from.1, (from.0, from.2, from.3), lines_tell_their_sets from.1 I line (set_is_readable from.0 from.1 from.3) readable from.4 is)

      back : IsListed bytes I → line ∈ book
      back listed =
          let one = AtLeastOne-at (IsSetLine listed.0) book (all_listed listed.0 listed.1) in
          let own : IsSetLine I one.0 = one_line_for_the_same_set I listed.0 one.0 (SameSet-sym listed.0 I listed.2) one.2 in
          subst (λ l. l ∈ book) (a_set_has_one_line I one.0 line own is) one.1
