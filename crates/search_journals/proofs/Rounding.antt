-- Round after round: each leaves less to learn, and what they carry on is carried on.
use Rattle.std.proofs.Common.{◌≡◌, ℕ, zero, suc, ◌+◌, ◌<◌, ◌≤◌, Bool, true, false, cond, List, [], ◌∷◌, length, sym, ◌∙◌, ap, subst, inl, inr, arith}
use Rattle.std.specs.Prelude.{Option, Some, None}
use Rattle.std.specs.List.{list_any}
use Rattle.alpha_outside.specs.declared.literal.Lit.{Lit}
use Rattle.lists.specs.Lists.{◌∈◌, ◌⊆◌}
use Rattle.alpha_outside.specs.Outside as outside
use Rattle.alpha_outside.specs.declared.literal.Value.{Value}
use Rattle.search_values.specs.Values.{is_up, lit, value_of, chosen, Holds}
use Rattle.search_values.specs.Nogoods.{Nogood}
use Rattle.journal_theory.specs.States.{State, Free}
use Rattle.journal_theory.specs.Journals.{replay}
use Rattle.search_values.specs.declared.entry.Entry.{Entry}
use Rattle.journal_theory.proofs.Fresh.{superset_of_none}
use Rattle.search_state.specs.Searching.{Searching}
use Rattle.search_rules.specs.Rules.{Reached, search_rules}
use Rattle.search_journals.specs.Measures.{id_count, candidates, blocks, open_of, still_open, rounds_left}
use Rattle.search_journals.specs.Runs.{Runs}
use Rattle.search_journals.specs.Standing as standing
use Rattle.search_journals.specs.Standing.{Carries, CarriesOver, Leaves}
use Rattle.search_journals.specs.Settling.{HasLearnedChosen, IsLess, StandsSomewhere, EndsFrom, LeavesFrom}
use Rattle.search_journals.specs.declared.ends.SearchFault.{SearchFault}
use Rattle.search_journals.specs.declared.ends.SearchFault.TheVariants.{WriteFault, TraceFault, OutOfMemory}
use Rattle.search_journals.specs.declared.ends.Finish.{Finish}
use Rattle.search_journals.proofs.Standing.{rose_on}
use Rattle.search_journals.proofs.Counting.{HasOneSign, learned_falls, open_less}
use Rattle.search_journals.proofs.Learning.{told_at, chosen_hold}

-- ---- each round leaves less to learn

-- whether a value is there, and is true or must-be-true
abbrev up_in : Option Value → Bool
up_in None = false
up_in (Some v) = is_up v

-- no atom holds both ways
holds_once : (stack : List Entry) (x : ℕ) → Holds stack (lit x true) → ¬ Holds stack (lit x false)
holds_once stack x h k =
    let a : up_in (value_of stack x) ≡ true = ap up_in h.1 ∙ h.2 in
    let b : up_in (value_of stack x) ≡ false = ap up_in k.1 ∙ k.2 in
    let bad : true ≡ false = sym a ∙ b in
    cc

-- no more sets of literals are open than there are
open_few : (ngs : List Nogood) (ks : List (List Lit)) → open_of ngs ks ≤ length ks
open_few ngs [] = omega arith
open_few ngs (k ∷ ks) = one (list_any (blocks k) ngs) (open_few ngs ks)
  where
    one : (b : Bool) → open_of ngs ks ≤ length ks → cond b 0 1 + open_of ngs ks ≤ suc (length ks)
    one true h = omega (arith, h)
    one false h = omega (arith, h)

-- where fewer nogoods may be struck there is less to come
fewer_strikes : (r' r n' n : ℕ) → r' < r → n' ≤ length (candidates id_count) → rounds_left r' n' < rounds_left r n
fewer_strikes zero zero n' n low few = absurd (omega (arith, low))
fewer_strikes zero (suc r) n' n low few = omega (arith, few)
fewer_strikes (suc r') zero n' n low few = absurd (omega (arith, low))
fewer_strikes (suc r') (suc r) n' n low few = let less = fewer_strikes r' r n' n (omega (arith, low)) few in omega (arith, less)

-- and so where as many may be, and fewer sets of literals
fewer_sets : (r n' n : ℕ) → n' < n → rounds_left r n' < rounds_left r n
fewer_sets zero n' n low = low
fewer_sets (suc r) n' n low = let less = fewer_sets r n' n low in omega (arith, less)

-- after literals chosen were learned there are fewer
sets_fall : (book : List (List ℕ)) (v v1 v2 : Searching) (told told1 : Option outside.Journal) (held : Option (List ℕ)) (left rest : ℕ)
    → StandsSomewhere book v told held left rest → Runs v v1 told told1 → HasLearnedChosen v1 v2 → still_open v2.nogoods < still_open v.nogoods
sets_fall book v v1 v2 told told1 held left rest somewhere runs learned =
    let g = somewhere.given in
    let s = runs.carries held left rest g somewhere.fits somewhere.stands in
    let known = told_at g v1 told1 held left rest s.0 s.1 in
    let r : Reached = replay (search_rules g.core) s.0 in
    let free : State.phase r ≡ Free = sym (ap (λ (z : Reached). z.phase) s.1.is) ∙ runs.ready.free in
    let one : HasOneSign (chosen v1.stack) = subst (λ (z : Reached). HasOneSign (chosen z.stack)) (sym s.1.is)
    (λ x up down. holds_once (State.stack r) x (chosen_hold g.core r known (lit x true) up)
    (chosen_hold g.core r known (lit x false) down)) in
    let none : (ng : Nogood) → ng ∈ v1.nogoods → ng.lits ⊆ chosen v1.stack
    → ng.lits ≡ [] = subst (λ (z : Reached). (ng : Nogood) → ng ∈ z.nogoods → ng.lits ⊆ chosen z.stack → ng.lits ≡ []) (sym s.1.is)
    (λ ng i sub. superset_of_none (search_rules g.core) r known.valid known.bodies known.newly (inl free) ng i sub) in
    let less = learned_falls v1.nogoods v2.nogoods (chosen v1.stack) learned.learned learned.some one learned.low none in
    let before = open_less v.nogoods v1.nogoods runs.stays (candidates id_count) in
    omega (arith, less, before)

-- a round leaves less to come
pub round_falls : (book : List (List ℕ)) (v v1 v2 : Searching) (told told1 : Option outside.Journal) (held : Option (List ℕ)) (left rest rest' : ℕ)
    → StandsSomewhere book v told held left rest → Runs v v1 told told1 → IsLess v1 v2 rest rest'
    → rounds_left rest' (still_open v2.nogoods) < rounds_left rest (still_open v.nogoods)
round_falls book v v1 v2 told told1 held left rest rest' somewhere runs (inl fewer) =
    fewer_strikes rest' rest (still_open v2.nogoods) (still_open v.nogoods) fewer (open_few v2.nogoods (candidates id_count))
round_falls book v v1 v2 told told1 held left rest rest' somewhere runs (inr same) =
    subst (λ n. rounds_left n (still_open v2.nogoods) < rounds_left rest (still_open v.nogoods)) (sym same.0)
    (fewer_sets rest (still_open v2.nogoods) (still_open v.nogoods)
    (sets_fall book v v1 v2 told told1 held left rest somewhere runs same.1))

-- ---- what rounds carry on

-- a round more
pub carries_on : (book : List (List ℕ)) (v v1 v2 : Searching) (told told1 told2 : Option outside.Journal) (held held1 held2 : Option (List ℕ))
    (a b c : ℕ × ℕ) → v1.core ≡ v.core → CarriesOver book v v1 told told1 held held1 a b → CarriesOver book v1 v2 told1 told2 held1 held2 b c
    → CarriesOver book v v2 told told2 held held2 a c
carries_on book v v1 v2 told told1 told2 held held1 held2 a b c core first next g fits lists s =
    next g (core ∙ fits) lists (first g fits lists s)

-- what carries a search on whatever is listed does so where these are
pub carries_over : (book : List (List ℕ)) (v v1 : Searching) (told told1 : Option outside.Journal) (held held1 : Option (List ℕ)) (a b : ℕ × ℕ)
    → Carries v v1 told told1 held held1 a b → CarriesOver book v v1 told told1 held held1 a b
carries_over book v v1 told told1 held held1 a b carries g fits lists s = carries g fits s

-- the search still stands
pub stands_still : (book : List (List ℕ)) (v v1 : Searching) (told told1 : Option outside.Journal) (held held1 : Option (List ℕ))
    (left rest left1 rest1 : ℕ) → v1.core ≡ v.core → CarriesOver book v v1 told told1 held held1 (left, rest) (left1, rest1)
    → StandsSomewhere book v told held left rest → StandsSomewhere book v1 told1 held1 left1 rest1
stands_still book v v1 told told1 held held1 left rest left1 rest1 core carries s =
    record { given = s.given; fits = core ∙ s.fits; lists = s.lists; stands = carries s.given s.fits s.lists s.stands }

-- the last round ends the search
pub ends_on : (book : List (List ℕ)) (v v1 : Searching) (told told1 told2 : Option outside.Journal) (held held1 held2 : Option (List ℕ)) (a b c : ℕ × ℕ)
    (how : Finish) → v1.core ≡ v.core → CarriesOver book v v1 told told1 held held1 a b
    → EndsFrom book v1 told1 told2 held1 held2 b c how → EndsFrom book v told told2 held held2 a c how
ends_on book v v1 told told1 told2 held held1 held2 a b c how core carries ends g fits lists s =
    ends g (core ∙ fits) lists (carries g fits lists s)

-- a count that rose later rose since before
pub leaves_later : (g : standing.Given) (told : Option outside.Journal) (held : Option (List ℕ)) (o m n t k l : ℕ) (fault : SearchFault)
    → o ≤ m → t ≤ k → Leaves g told held (m, n) (k, l) fault → Leaves g told held (o, n) (t, l) fault
leaves_later g told held o m n t k l WriteFault first second w = (rose_on o m n first w.0, w.1)
leaves_later g told held o m n t k l TraceFault first second w = (rose_on t k l second w.0, w.1)
leaves_later g told held o m n t k l OutOfMemory first second w = w

-- or it ends by a fault
pub leaves_on : (book : List (List ℕ)) (v v1 : Searching) (told told1 told2 : Option outside.Journal) (held held1 held2 : Option (List ℕ)) (a b : ℕ × ℕ)
    (o m n t k l : ℕ) (fault : SearchFault) → v1.core ≡ v.core → CarriesOver book v v1 told told1 held held1 a b → o ≤ m → t ≤ k
    → LeavesFrom book v1 told1 told2 held1 held2 b (m, n) (k, l) fault → LeavesFrom book v told told2 held held2 a (o, n) (t, l) fault
leaves_on book v v1 told told1 told2 held held1 held2 a b o m n t k l fault core carries first second leaves g fits lists s =
    leaves_later g told2 held2 o m n t k l fault first second (leaves g (core ∙ fits) lists (carries g fits lists s))
