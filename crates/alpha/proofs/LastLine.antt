-- The last line is one whole line that is no set line.
use Rattle.std.proofs.Common.{◌≡◌, inl, inr, refl, sym, ap, subst, ◌∙◌, ℕ, zero, suc, ◌+◌, ◌/◌, ◌%◌, ◌==◌, ◌||◌, Bool, true, false, List, [], ◌∷◌, ◌++◌, append_assoc, arith, nat_lt}
use Rattle.std.specs.Prelude.{codes, if◌then◌else◌}
use Rattle.std.specs.Fmt.{decimal, digits, digits_onto, digit_glyph}
use Rattle.lists.specs.Lists.{◌∈◌}
use Rattle.lists.proofs.ListLemmas.{∈-append_cases}
use Rattle.asp_meaning.proofs.LineLemmas.{IsOtherLine}
use Rattle.alpha.specs.declared.status.BudgetKind.{BudgetKind}
use Rattle.alpha.specs.declared.status.BudgetKind.TheVariants as budget
use Rattle.alpha.specs.declared.status.Status.{Status}
use Rattle.alpha.specs.declared.status.Status.TheVariants as status
use Rattle.alpha.specs.Texts.{printed_text, finished_line, limit_line, budget_line, too_large_line, overflow_line, last_line_of}
use Rattle.alpha.specs.Promises.{HasPrinted, IsLastLine}

glyph_is_no_feed : (d : ℕ) → ¬ (10 ≡ digit_glyph false d)
glyph_is_no_feed d = by_case (nat_lt d 10)
  where
    by_case : (v : Bool) → ¬ (10 ≡ (if v then 48 + d else 87 + d))
    by_case true e = absurd (omega (arith, e))
    by_case false e = absurd (omega (arith, e))

digits_no_feed : (k n : ℕ) (acc : List ℕ) → ¬ (10 ∈ acc) → ¬ (10 ∈ digits_onto k 10 false n acc)
digits_no_feed zero n acc none = none
digits_no_feed (suc k) n acc none =
    let more : ¬ (10 ∈ (digit_glyph false (n % 10) ∷ acc)) = (λ among. elim among [ inl e ↦ glyph_is_no_feed (n % 10) e | inr rest ↦ none rest ]) in
    by_case (n / 10 == 0) more (digits_no_feed k (n / 10) (digit_glyph false (n % 10) ∷ acc) more)
  where
    by_case : (v : Bool) → ¬ (10 ∈ (digit_glyph false (n % 10) ∷ acc)) → ¬ (10 ∈ digits_onto k 10 false (n / 10) (digit_glyph false (n % 10) ∷ acc)) → ¬ (10 ∈ (if v then digit_glyph false (n % 10) ∷ acc else digits_onto k 10 false (n / 10) (digit_glyph false (n % 10) ∷ acc)))
    by_case true first second = first
    by_case false first second = second

decimal_no_feed : (n : ℕ) → ¬ (10 ∈ decimal n)
unfolding digits
decimal_no_feed n = digits_no_feed 64 n [] (λ none. none)

has_feed : List ℕ → Bool
has_feed [] = false
has_feed (b ∷ bytes) = (b == 10) || has_feed bytes

no_feed : (bytes : List ℕ) → has_feed bytes ≡ false → ¬ (10 ∈ bytes)
unfolding has_feed
no_feed [] e among = among
no_feed (b ∷ bytes) e (inl same) =
    let is : (b == 10) ≡ true = sym (ap (λ c. c == 10) same) in
    let found : has_feed (b ∷ bytes) ≡ true = ap (λ v. v || has_feed bytes) is in
    (cc)
no_feed (b ∷ bytes) e (inr among) = no_feed bytes (second (b == 10) (has_feed bytes) e) among
  where
    second : (v w : Bool) → (v || w) ≡ false → w ≡ false
    second true w e = absurd (cc)
    second false w e = e

after_no_feed : ¬ (10 ∈ codes " printed")
unfolding has_feed
after_no_feed = no_feed (codes " printed") refl

no_feed-append : (xs ys : List ℕ) → ¬ (10 ∈ xs) → ¬ (10 ∈ ys) → ¬ (10 ∈ (xs ++ ys))
no_feed-append xs ys first second among = elim (∈-append_cases 10 xs ys among) [ inl left ↦ first left | inr right ↦ second right ]

-- what stands before the line feed of each last line
printed_inner : ℕ → List ℕ
printed_inner printed = decimal printed ++ codes " printed"

inner_no_feed : (printed : ℕ) → ¬ (10 ∈ printed_inner printed)
unfolding printed_inner
inner_no_feed printed = no_feed-append (decimal printed) (codes " printed") (decimal_no_feed printed) after_no_feed

inner_is : (printed : ℕ) → printed_text printed ≡ printed_inner printed ++ (10 ∷ [])
unfolding printed_inner
inner_is printed = sym (append_assoc (decimal printed) (codes " printed") (10 ∷ []))

-- the last line of a run that finished
finished_is_other : (printed : ℕ) → IsOtherLine (finished_line printed)
unfolding has_feed
finished_is_other printed = record {
  first = 37;
  inner = codes " complete, " ++ printed_inner printed;
  is = ap (λ xs. codes "% complete, " ++ xs) (inner_is printed);
  other = refl;
  no_feed = no_feed-append (codes "% complete, ") (printed_inner printed) (no_feed (codes "% complete, ") refl) (inner_no_feed printed);
}

-- of one that reached its limit
limit_is_other : (printed : ℕ) → IsOtherLine (limit_line printed)
unfolding has_feed
limit_is_other printed = record {
  first = 37;
  inner = codes " limit, " ++ printed_inner printed;
  is = ap (λ xs. codes "% limit, " ++ xs) (inner_is printed);
  other = refl;
  no_feed = no_feed-append (codes "% limit, ") (printed_inner printed) (no_feed (codes "% limit, ") refl) (inner_no_feed printed);
}

-- of one that spent its budget
number_inner : ℕ → ℕ → List ℕ
number_inner number printed = decimal number ++ (codes ", " ++ printed_inner printed)

number_no_feed : (number printed : ℕ) → ¬ (10 ∈ number_inner number printed)
unfolding number_inner has_feed
number_no_feed number printed =
    no_feed-append (decimal number) (codes ", " ++ printed_inner printed) (decimal_no_feed number)
    (no_feed-append (codes ", ") (printed_inner printed) (no_feed (codes ", ") refl) (inner_no_feed printed))

number_is : (number printed : ℕ) → decimal number ++ (codes ", " ++ printed_text printed) ≡ number_inner number printed ++ (10 ∷ [])
unfolding number_inner
number_is number printed =
    ap (λ xs. decimal number ++ (codes ", " ++ xs)) (inner_is printed) ∙ sym (append_assoc (decimal number) (codes ", " ++ printed_inner printed) (10 ∷ []))

budget_is_other : (kind : BudgetKind) (number printed : ℕ) → IsOtherLine (budget_line kind number printed)
unfolding has_feed
budget_is_other budget.Conflicts number printed = record {
  first = 37;
  inner = codes " budget conflicts " ++ number_inner number printed;
  is = ap (λ xs. codes "% budget conflicts " ++ xs) (number_is number printed);
  other = refl;
  no_feed = no_feed-append (codes "% budget conflicts ") (number_inner number printed) (no_feed (codes "% budget conflicts ") refl) (number_no_feed number printed);
}
budget_is_other budget.Instances number printed = record {
  first = 37;
  inner = codes " budget instances " ++ number_inner number printed;
  is = ap (λ xs. codes "% budget instances " ++ xs) (number_is number printed);
  other = refl;
  no_feed = no_feed-append (codes "% budget instances ") (number_inner number printed) (no_feed (codes "% budget instances ") refl) (number_no_feed number printed);
}

-- of one that met a term that is too large
too_large_is_other : (line printed : ℕ) → IsOtherLine (too_large_line line printed)
unfolding has_feed
too_large_is_other line printed = record {
  first = 37;
  inner = codes " term too large line " ++ number_inner line printed;
  is = ap (λ xs. codes "% term too large line " ++ xs) (number_is line printed);
  other = refl;
  no_feed = no_feed-append (codes "% term too large line ") (number_inner line printed) (no_feed (codes "% term too large line ") refl) (number_no_feed line printed);
}

-- of one that met an operation without a place in 64 bits
overflow_is_other : (line printed : ℕ) → IsOtherLine (overflow_line line printed)
unfolding has_feed
overflow_is_other line printed = record {
  first = 37;
  inner = codes " overflow line " ++ number_inner line printed;
  is = ap (λ xs. codes "% overflow line " ++ xs) (number_is line printed);
  other = refl;
  no_feed = no_feed-append (codes "% overflow line ") (number_inner line printed) (no_feed (codes "% overflow line ") refl) (number_no_feed line printed);
}

-- each last line has one line feed, at its end, and does not begin with `{`
status_is_other : (n : ℕ) (s : Status) → HasPrinted n s → IsOtherLine (last_line_of s)
status_is_other n (status.Finished printed) has = finished_is_other printed
status_is_other n (status.LimitReached printed) has = limit_is_other printed
status_is_other n (status.BudgetSpent kind number printed) has = budget_is_other kind number printed
status_is_other n (status.TermTooLarge line size printed) has = too_large_is_other line printed
status_is_other n (status.Overflow line op left right printed) has = overflow_is_other line printed
status_is_other n status.Usage has = absurd has
status_is_other n (status.Refused r) has = absurd has
status_is_other n (status.TextTooLong name) has = absurd has
status_is_other n (status.ReadFault name) has = absurd has
status_is_other n (status.AfterRefused line) has = absurd has
status_is_other n status.WriteFault has = absurd has
status_is_other n status.TraceFault has = absurd has
status_is_other n status.OutOfMemory has = absurd has

pub last_line_is_other : (n : ℕ) (line : List ℕ) → IsLastLine n line → IsOtherLine line
last_line_is_other n line is = subst IsOtherLine (sym is.2) (status_is_other n is.0 is.1)
