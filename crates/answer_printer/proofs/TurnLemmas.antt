-- The turns in which a line is read.
use Rattle.std.proofs.Common.{◌≡◌, ◌⊎◌, inl, inr, refl, sym, ap, subst, ◌∙◌, ℕ, zero, suc, ◌+◌, ◌<◌, ◌≤◌, true, false, List, [], ◌∷◌, length, drop, map, Some, Ok, Err, arith, true≢false}
use Rattle.std.specs.Prelude.{slice_index}
use Rattle.std.proofs.lemmas.Option.{none-some, same_Some}
use Rattle.lists.specs.Lists.{◌∈◌, HasNoRepeats}
use Rattle.lists.proofs.ListLemmas.{∈-append_left, ∈-append_right, ∈-append_cases, ∈-map, ∈-map_from, HasNoRepeats-last}
use Rattle.alpha_outside.specs.declared.node.Node.{Node}
use Rattle.asp_meaning.specs.Atoms.{Atom}
use Rattle.asp_meaning.specs.Lines.{IsSetLine}
use Rattle.atom_pool.specs.Pools.{Pool}
use Rattle.atom_pool.specs.Meanings.{atom_at}
use Rattle.answer_printer.specs.declared.fault.SetFault.{SetFault}
use Rattle.answer_printer.specs.declared.fault.SetFault.TheVariants.{NotASet, OutOfMemory}
use Rattle.answer_printer.specs.declared.words.Word.{Word as AWord}
use Rattle.answer_printer.specs.declared.words.Found.TheVariants.{Word, Nothing}
use Rattle.answer_printer.specs.declared.phase.Phase.{Phase}
use Rattle.answer_printer.specs.declared.phase.Phase.TheVariants.{Start, First, Due, Signed, Named, Whole, End}
use Rattle.answer_printer.specs.declared.reader.Reader.{Reader}
use Rattle.answer_printer.specs.Sets.{is_set_blank, IsSetText}
use Rattle.answer_printer.specs.Machine.{State, start, step, is_end}
use Rattle.answer_printer.specs.Found.{found}
use Rattle.answer_printer.specs.Reading.{Leads}
use Rattle.answer_printer.specs.Readers.{StandsIn, Gives, LeadAlike, Turns, HasRead, AreAtomsOf, below}
use Rattle.answer_printer.proofs.FoundLemmas.{Stands, found_stands}
use Rattle.answer_printer.proofs.LeadsLemmas.{text_leads, leads_text, skip_to, skip_back, nothing_leads, word_leads, word_back, end_leads, end_back}

-- ---- a turn

-- some of the bytes were read
abbrev pub Turned : State → List ℕ → Reader → ℕ → Type 0
Turned s bytes r n = (0 < n) × (n ≤ length bytes) × (t : State) × StandsIn r t × LeadAlike s bytes t (drop n bytes)

pub blank_turns : (bytes : List ℕ) (s : State) (r : Reader) → 0 < length bytes → is_set_blank (slice_index bytes 0) ≡ true → StandsIn r s → Turned s bytes r 1
blank_turns [] s r some h k = absurd (omega (arith, some))
blank_turns (b ∷ bs) s r some h k = (omega arith, omega arith, s, k, λ atoms. (skip_to s b bs atoms h, skip_back s b bs atoms h))

pub nothing_turns : (bytes : List ℕ) (s : State) → 0 < length bytes → is_set_blank (slice_index bytes 0) ≡ false → found bytes ≡ Nothing → (atoms : List Atom) → ¬ Leads s bytes atoms
nothing_turns [] s some h is atoms l = absurd (omega (arith, some))
nothing_turns (b ∷ bs) s some h is atoms l = nothing_leads s b bs atoms h is l

pub word_turns : (bytes : List ℕ) (s : State) (r : Reader) (w : AWord) (n : ℕ) → 0 < length bytes → is_set_blank (slice_index bytes 0) ≡ false → found bytes ≡ Word w n
    → (t : State) × (step w s ≡ Some t) × StandsIn r t → Turned s bytes r n
word_turns [] s r w n some h is k = absurd (omega (arith, some))
word_turns (b ∷ bs) s r w n some h is k =
    let stands : Stands (b ∷ bs) (Word w n) = subst (Stands (b ∷ bs)) is (found_stands (b ∷ bs)) in (
      stands.2,
      stands.3,
      k.0,
      k.2,
      λ atoms. (
        λ l. let g = word_leads s b bs atoms w n h is l in subst (λ t. Leads t (drop n (b ∷ bs)) atoms) (same g.0 (sym k.1 ∙ g.1)) g.2,
        λ l. word_back s k.0 b bs atoms w n is k.1 l,
      ),
    )
  where
    same : (t : State) → Some k.0 ≡ Some t → t ≡ k.0
    same t e = sym (same_Some k.0 t e)

pub fault_turns : (bytes : List ℕ) (s : State) (r : Reader) (w : AWord) (n : ℕ) (fault : SetFault) → 0 < length bytes → is_set_blank (slice_index bytes 0) ≡ false → found bytes ≡ Word w n
    → Gives (step w s) r (Err fault) → Turns s bytes r (Err fault)
fault_turns [] s r w n fault some h is k = absurd (omega (arith, some))
fault_turns (b ∷ bs) s r w n NotASet some h is k = λ atoms l. let g = word_leads s b bs atoms w n h is l in none-some g.0 (sym k ∙ g.1)
fault_turns (b ∷ bs) s r w n OutOfMemory some h is k = tt

-- ---- the turns together

-- what the reader has read of a line, and what is left of it, are the line
abbrev pub IsOnTheWay : List ℕ → ℕ → Reader → Type 0
IsOnTheWay line at r = (at ≤ length line) × (s : State) × StandsIn r s × LeadAlike start line s (drop at line)

drop-twice : (at n : ℕ) (xs : List ℕ) → drop n (drop at xs) ≡ drop (at + n) xs
drop-twice zero n xs = ap (λ k. drop k xs) (omega arith)
drop-twice (suc at) n [] = ap (λ (xs : List ℕ). xs) (none n ∙ sym (none (suc at + n)))
  where
    none : (k : ℕ) → drop {A = ℕ} k [] ≡ []
    none zero = refl
    none (suc k) = refl
drop-twice (suc at) n (x ∷ xs) = drop-twice at n xs ∙ ap (λ k. drop k (x ∷ xs)) {x = suc (at + n)} (omega arith)

length-left : (at : ℕ) (xs : List ℕ) → at ≤ length xs → length (drop at xs) + at ≡ length xs
length-left zero xs le = omega arith
length-left (suc at) [] le = absurd (omega (arith, le))
length-left (suc at) (x ∷ xs) le = omega (arith, length-left at xs (omega (arith, le)))

pub on_the_way : (line rest : List ℕ) (at n : ℕ) (r : Reader) (s : State) → rest ≡ drop at line → at < length line → LeadAlike start line s (drop at line) → Turned s rest r n → IsOnTheWay line (at + n) r
on_the_way line rest at n r s is lt alike turned = (
  omega (arith, turned.1, ap length is, length-left at line (omega (arith, lt))),
  turned.2,
  turned.3,
  λ atoms. (
    λ l. subst (λ xs. Leads turned.2 xs atoms) left ((turned.4 atoms).0 (subst (λ xs. Leads s xs atoms) (sym is) ((alike atoms).0 l))),
    λ l. (alike atoms).1 (subst (λ xs. Leads s xs atoms) is ((turned.4 atoms).1 (subst (λ xs. Leads turned.2 xs atoms) (sym left) l))),
  ),
)
  where
    left : drop n rest ≡ drop (at + n) line
    left = ap (drop n) is ∙ drop-twice at n line

pub refused_on_the_way : (line rest : List ℕ) (at : ℕ) (r : Reader) (s : State) (fault : SetFault) → rest ≡ drop at line → LeadAlike start line s (drop at line) → Turns s rest r (Err fault)
    → HasRead line (Err fault)
refused_on_the_way line rest at r s NotASet is alike h = λ atoms set. h atoms (subst (λ xs. Leads s xs atoms) (sym is) ((alike atoms).0 (text_leads line atoms set)))
refused_on_the_way line rest at r s OutOfMemory is alike h = tt

nothing_left : (at : ℕ) (xs : List ℕ) → length xs ≤ at → at ≤ length xs → drop at xs ≡ []
nothing_left at xs le ge = empty (drop at xs) (omega (arith, length-left at xs ge, le))
  where
    empty : (ys : List ℕ) → length ys ≡ 0 → ys ≡ []
    empty [] e = refl
    empty (y ∷ ys) e = absurd (omega (arith, e))

is_the_end : (p : Phase) → is_end p ≡ true → p ≡ End
is_the_end End e = refl
is_the_end Start e = absurd (cc)
is_the_end First e = absurd (cc)
is_the_end Due e = absurd (cc)
is_the_end Signed e = absurd (cc)
is_the_end (Named y) e = absurd (cc)
is_the_end Whole e = absurd (cc)

pub whole_line : (line : List ℕ) (at : ℕ) (r : Reader) → length line ≤ at → IsOnTheWay line at r → is_end r.phase ≡ true → HasRead line (Ok r)
whole_line line at r le way e = (
  way.1,
  way.2,
  leads_text line way.1.atoms ((way.3 way.1.atoms).1 (subst (λ xs. Leads way.1 xs way.1.atoms) (sym (nothing_left at line le way.0))
      (end_back way.1 (way.2.phase ∙ is_the_end r.phase e)))),
)

pub part_of_a_line : (line : List ℕ) (at : ℕ) (r : Reader) → length line ≤ at → IsOnTheWay line at r → is_end r.phase ≡ false → (atoms : List Atom) → ¬ IsSetText line atoms
part_of_a_line line at r le way e atoms set =
    let l : Leads way.1 [] atoms = subst (λ xs. Leads way.1 xs atoms) (nothing_left at line le way.0) ((way.3 atoms).0 (text_leads line atoms set)) in
    true≢false (sym (ap is_end (sym way.2.phase ∙ (end_leads way.1 atoms l).0)) ∙ e)

-- ---- all atoms of a pool

pub in_below : (n k : ℕ) → k ∈ below n → k < n
in_below zero k among = absurd among
in_below (suc n) k among = elim (∈-append_cases k (below n) (n ∷ []) among) [
  | inl left ↦ omega (arith, in_below n k left)
  | inr right ↦ elim right [ inl e ↦ omega (arith, e) | inr none ↦ absurd none ]
]

all_below : (n k : ℕ) → k < n → k ∈ below n
all_below zero k lt = absurd (omega (arith, lt))
all_below (suc n) k lt = elim (last_or k n (omega (arith, lt))) [
  | inl less ↦ ∈-append_left k (below n) (n ∷ []) (all_below n k less)
  | inr e ↦ ∈-append_right k (below n) (n ∷ []) (inl e)
]
  where
    last_or : (a b : ℕ) → a < b + 1 → (a < b) ⊎ (a ≡ b)
    last_or zero zero h = inr refl
    last_or zero (suc b) h = inl (omega arith)
    last_or (suc a) zero h = absurd (omega (arith, h))
    last_or (suc a) (suc b) h = elim (last_or a b (omega (arith, h))) [ inl g ↦ inl (omega (arith, g)) | inr e ↦ inr (ap suc e) ]

pub below_once : (n : ℕ) → HasNoRepeats (below n)
below_once zero = tt
below_once (suc n) = HasNoRepeats-last (below n) n (below_once n) (λ among. absurd (omega (arith, in_below n n among)))

-- the atoms that were read have the line of all atoms of the pool
pub line_of_atoms : (terms : List Node) (pool : Pool) (atoms : List Atom) (line : List ℕ) → AreAtomsOf terms pool atoms
    → IsSetLine (map (atom_at terms pool) (below (length pool.atoms))) line → IsSetLine atoms line
line_of_atoms terms pool atoms line h is = record {
  sorted = is.sorted;
  same = record {
    to = λ a among.
        let k = h.each_has_an_id a among in
        is.same.to a (subst (λ x. x ∈ map (atom_at terms pool) (below (length pool.atoms))) (sym k.2) (∈-map (atom_at terms pool) k.0 (below (length pool.atoms)) (all_below (length pool.atoms) k.0 k.1)));
    back = λ a among.
        let g = ∈-map_from (atom_at terms pool) a (below (length pool.atoms)) (is.same.back a among) in
        subst (λ x. x ∈ atoms) (sym g.2) (h.each_is_there g.0 (in_below (length pool.atoms) g.0 g.1));
  };
  in_order = is.in_order;
  text = is.text;
}
