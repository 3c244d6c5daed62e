-- What words ask for has its bounds: some set may be written, and there are not too many files.
use Rattle.std.proofs.Common.{◌≡◌, ℕ, ◌+◌, ◌*◌, ◌<◌, ◌≤◌, Bool, true, false, not, ◌&&◌, ◌==◌, nat_lt, nat_le, if◌then◌else◌, List, [], ◌∷◌, length, Option, Some, None, codes, arith, refl, ap, subst}
use Rattle.std.specs.Prelude.{option_and_then}
use Rattle.std.specs.List.{list_all}
use Rattle.std.specs.Str.{bytes_eq}
use Rattle.std.specs.Char.{digit_value}
use Rattle.std.specs.Str.Parse.{digits_value, digits_value_after}
use Rattle.clap.specs.Words.{Kinds, Row, all_of, first_of, fault_of, matches_of}
use Rattle.search_settings.specs.Defaults.{most_sets, most_conflicts, most_instances}
use Rattle.search_settings.specs.declared.Settings.{Settings}
use Rattle.command_line.specs.Numbers.{number_of, number_or, has_number_form, is_digit, most_number}
use Rattle.command_line.specs.Requests.{most_files, settings_from, settings_of, few, files_of, request_from, request_of}
use Rattle.command_line.specs.Commands.{asked, asked_by, asked_of_solve, solve_command}
use Rattle.command_line.specs.declared.request.Solve.{Solve}

-- ---- numbers

-- more digits make no number smaller
digits_grow : (n : ℕ) (cs : List ℕ) → n ≤ digits_value_after 10 n cs
digits_grow n [] = omega arith
digits_grow n (c ∷ cs) = let r = digits_grow (n * 10 + digit_value c) cs in omega (arith, r)

-- a digit other than `0` has a value
digit_some : (c : ℕ) → nat_lt (digit_value c) 10 ≡ true → (c == 48) ≡ false → 0 < digit_value c
digit_some c low other = grind arith

-- both tests hold
both : (a b : Bool) → (a && b) ≡ true → (a ≡ true) × (b ≡ true)
both true true e = (refl, refl)
both true false e = cc
both false b e = cc

-- a test that is denied doesn't hold
denied : (a : Bool) → not a ≡ true → a ≡ false
denied true e = cc
denied false e = refl

-- what a test gives holds only where the test does
if_some : {X : Type 0} (b : Bool) (x y : X) → (let o : Option X = Some x in let n : Option X = None in if b then o else n) ≡ Some y → (b ≡ true) × (x ≡ y)
if_some true x y e = (refl, (cc))
if_some false x y e = absurd (cc)

-- the number of a text isn't 0
number_some : (text : List ℕ) (n : ℕ) → number_of text ≡ Some n → 0 < n
number_some [] n e = cc
number_some (c ∷ cs) n e =
    let w = if_some (has_number_form (c ∷ cs) && nat_le (digits_value 10 (c ∷ cs)) most_number) (digits_value 10 (c ∷ cs)) n e in
    let form = both (has_number_form (c ∷ cs)) (nat_le (digits_value 10 (c ∷ cs)) most_number) w.0 in
    let first = both (nat_lt 0 (length (c ∷ cs))) (nat_le (length (c ∷ cs)) 13 && (not (c == 48) && list_all is_digit (c ∷ cs))) form.0 in
    let second = both (nat_le (length (c ∷ cs)) 13) (not (c == 48) && list_all is_digit (c ∷ cs)) first.1 in
    let third = both (not (c == 48)) (list_all is_digit (c ∷ cs)) second.1 in
    let fourth = both (is_digit c) (list_all is_digit cs) third.1 in
    let some = digit_some c fourth.0 (denied (c == 48) third.0) in
    let grown = digits_grow (0 * 10 + digit_value c) cs in
    let is : digits_value_after 10 (0 * 10 + digit_value c) cs ≡ n = w.1 in
    omega (arith, some, grown, is)

-- nor is the one of an option
option_some : (default : ℕ) (o : Option (List ℕ)) (n : ℕ) → 0 < default → number_or default o ≡ Some n → 0 < n
option_some default None n some e = let same : default ≡ n = (cc) in omega (arith, some, same)
option_some default (Some text) n some e = number_some text n e

-- ---- requests

-- settings have the limit that was read
limit_of : (l c i : Option ℕ) (s : Settings) → settings_from l c i ≡ Some s → l ≡ Some s.limit
limit_of (Some l) (Some c) (Some i) s e =
    let same : (let t : Settings = record { limit = l; conflicts = c; instances = i } in t ≡ s) = (cc) in
    ap Some (ap (λ (z : Settings). z.limit) same)
limit_of None c i s e = absurd (cc)
limit_of (Some l) None i s e = absurd (cc)
limit_of (Some l) (Some c) None s e = absurd (cc)

-- a request has the settings and files that were read
parts_of : (s : Option Settings) (fs : Option (List (List ℕ))) (a t : Option (List ℕ)) (r : Solve) → request_from s fs a t ≡ Some r
    → (s ≡ Some r.settings) × (fs ≡ Some r.files)
parts_of (Some s) (Some fs) a t r e =
    let same : (let q : Solve = record { files = fs; after = a; trace = t; settings = s } in q ≡ r) = (cc) in
    (ap Some (ap (λ (z : Solve). z.settings) same), ap Some (ap (λ (z : Solve). z.files) same))
parts_of None fs a t r e = absurd (cc)
parts_of (Some s) None a t r e = absurd (cc)

-- files that are few are so
few_is : (o : Option (List (List ℕ))) (fs : List (List ℕ)) → option_and_then few o ≡ Some fs → length fs ≤ most_files
few_is None fs e = absurd (cc)
few_is (Some xs) fs e =
    let w = if_some (nat_le (length xs) most_files) xs fs e in
    let low : length xs ≤ most_files = (let t : nat_le (length xs) most_files ≡ true = w.0 in grind arith) in
    subst (λ ys. length ys ≤ most_files) w.1 low

-- what a test leaves is there only where the test holds
if_there : (b : Bool) (o : Option Solve) (r : Solve) → (let n : Option Solve = None in if b then o else n) ≡ Some r → o ≡ Some r
if_there true o r e = e
if_there false o r e = absurd (cc)

-- what is asked for is asked by matches, and no step of the parse failed
by_rows : (kinds : Kinds) (rows : List Row) (r : Solve) → asked_by kinds rows ≡ Some r → request_of rows ≡ Some r
by_rows [] rows r e = e
by_rows (k ∷ kinds) rows r e = absurd (cc)

-- some matches ask for what words behind `solve` ask for
of_matches : (words : List (List ℕ)) (r : Solve) → asked_of_solve words ≡ Some r → (rows : List Row) × (request_of rows ≡ Some r)
unfolding asked_of_solve
of_matches words r e = (matches_of solve_command words, by_rows (fault_of solve_command words) (matches_of solve_command words) r e)

-- so the request of words does
pub asked_is_bounded : (words : List (List ℕ)) (r : Solve) → asked words ≡ Some r → (0 < r.settings.limit) × (length r.files ≤ most_files)
asked_is_bounded [] r e = absurd (cc)
asked_is_bounded (command ∷ rest) r e =
    let w = of_matches rest r (if_there (bytes_eq command (codes "solve")) (asked_of_solve rest) r e) in
    let rows = w.0 in
    let p = parts_of (settings_of rows) (files_of rows) (first_of (codes "after") rows) (first_of (codes "trace") rows) r w.1 in
    let l = limit_of (number_or most_sets (first_of (codes "limit") rows)) (number_or most_conflicts (first_of (codes "conflicts") rows))
    (number_or most_instances (first_of (codes "instances") rows)) r.settings p.0 in
    (option_some most_sets (first_of (codes "limit") rows) r.settings.limit (omega arith) l, few_is (all_of (codes "files") rows) r.files p.1)
