-- What the answer for tokens comes to.
use Rattle.std.proofs.Common.{◌≡◌, ℕ, ◌+◌, ◌≤◌, arith, List, [], ◌∷◌, length, inl, inr, refl, ap, ◌∙◌}
use Rattle.std.specs.Prelude.{Result, Ok, Err, IfOk, IfErr}
use Rattle.lists.specs.Lists.{Each}
use Rattle.asp_syntax.specs.Places.{IsRising}
use Rattle.asp_syntax.specs.WellFormed.{IsWellFormed}
use Rattle.asp_syntax.specs.Trees.{IsWellFormedProgram}
use Rattle.asp_syntax.specs.declared.token.Place.{Place}
use Rattle.asp_syntax.specs.declared.token.Spanned.{Spanned}
use Rattle.asp_syntax.specs.declared.tree.Program.{Program}
use Rattle.asp_grammar.specs.Programs.{IsProgram}
use Rattle.asp_grammar.specs.Faults.{Cause, unsupported, syntax, too_deep, number_too_large, FaultAt, Parsed}
use Rattle.asp_grammar.proofs.FaultLemmas.{answer_comes, parsed_once, fault_once, apart}
use Rattle.asp_grammar.proofs.StandingLemmas.{one_tree}
use Rattle.asp_parser.specs.declared.fault.ParseFault.{ParseFault}
use Rattle.asp_parser.specs.declared.fault.ParseFault.TheVariants.{Unsupported, Syntax, TooDeep, NumberTooLarge, OutOfMemory}
use Rattle.asp_parser.proofs.TreeLemmas.{program_fine}
use Rattle.asp_parser.specs.Answer.{IsFault, IsOnly, IsAnswer, fault_of, Gives, HasOneAnswer}

-- ---- how many tokens there may be

rising_within : (from_ end : ℕ) (tokens : List Spanned) → from_ ≤ end → IsRising from_ end tokens → from_ + length tokens ≤ end
rising_within from_ end [] le h = omega arith
rising_within from_ end (t ∷ ts) le h =
    let place = h.0 in
    let below = h.1 in
    let rest = rising_within (t.at.0 + 1) end ts (omega arith) h.2 in
    omega arith

-- no more than there are places before the end
pub rising_few : (end : ℕ) (tokens : List Spanned) → IsRising 0 end tokens → length tokens ≤ end
rising_few end tokens h = let within = rising_within 0 end tokens (omega arith) h in omega arith

-- ---- what an answer says

pub answer_program : (tokens : List Spanned) (end : Place) (r : Result Program ParseFault) → IsAnswer tokens end r → IfOk r (IsProgram tokens)
answer_program tokens end (Ok p) h = h.whole
answer_program tokens end (Err f) h = tt

pub answer_only : (tokens : List Spanned) (end : Place) (r : Result Program ParseFault) → IsAnswer tokens end r → IfOk r (IsOnly tokens)
answer_only tokens end (Ok p) h = λ other g. one_tree tokens other p g h.whole
answer_only tokens end (Err f) h = tt

pub answer_faultless : (tokens : List Spanned) (end : Place) (r : Result Program ParseFault) → IsAnswer tokens end r → IfOk r (Parsed tokens)
answer_faultless tokens end (Ok p) h = h
answer_faultless tokens end (Err f) h = tt

pub answer_well_formed : (tokens : List Spanned) (end : Place) (r : Result Program ParseFault) → Each (λ t. IsWellFormed t.token) tokens
    → IsAnswer tokens end r → IfOk r IsWellFormedProgram
answer_well_formed tokens end (Ok p) fine h = program_fine tokens p fine h.whole
answer_well_formed tokens end (Err f) fine h = tt

pub answer_fault : (tokens : List Spanned) (end : Place) (r : Result Program ParseFault) → IsAnswer tokens end r → IfErr r (IsFault tokens end)
answer_fault tokens end (Ok p) h = tt
answer_fault tokens end (Err f) h = h

-- ---- that it says it of all tokens

-- where the tokens are a program without a fault, a fault can only be want of memory
fault_with_program : (tokens : List Spanned) (end : Place) (f : ParseFault) (p : Program) → IsFault tokens end f → Parsed tokens p → Gives (Err f) (Ok p)
fault_with_program tokens end (Unsupported at what) p h g = absurd (apart tokens end p (unsupported what) at g h)
fault_with_program tokens end (Syntax at) p h g = absurd (apart tokens end p syntax at g h)
fault_with_program tokens end (TooDeep at) p h g = absurd (apart tokens end p too_deep at g h)
fault_with_program tokens end (NumberTooLarge at) p h g = absurd (apart tokens end p number_too_large at g h)
fault_with_program tokens end OutOfMemory p h g = inr refl

pub answer_each_program : (tokens : List Spanned) (end : Place) (r : Result Program ParseFault) → IsAnswer tokens end r
    → (p : Program) → Parsed tokens p → Gives r (Ok p)
answer_each_program tokens end (Ok q) h p g = inl (ap Ok (one_tree tokens q p h.whole g.whole))
answer_each_program tokens end (Err f) h p g = fault_with_program tokens end f p h g

-- one cause at one place is one fault
same_answer : (cause other : Cause) (place there : Place) → (cause ≡ other) × (place ≡ there)
    → Gives (Err (fault_of cause place)) (Err (fault_of other there))
same_answer cause other place there (e, f) = inl (ap Err (ap (λ v. fault_of v place) e ∙ ap (fault_of other) f))

fault_with_fault : (tokens : List Spanned) (end : Place) (f : ParseFault) (cause : Cause) (place : Place) → IsFault tokens end f
    → FaultAt tokens end cause place → Gives (Err f) (Err (fault_of cause place))
fault_with_fault tokens end (Unsupported at what) cause place h g =
    same_answer (unsupported what) cause at place (fault_once tokens end (unsupported what) cause at place h g)
fault_with_fault tokens end (Syntax at) cause place h g = same_answer syntax cause at place (fault_once tokens end syntax cause at place h g)
fault_with_fault tokens end (TooDeep at) cause place h g = same_answer too_deep cause at place (fault_once tokens end too_deep cause at place h g)
fault_with_fault tokens end (NumberTooLarge at) cause place h g =
    same_answer number_too_large cause at place (fault_once tokens end number_too_large cause at place h g)
fault_with_fault tokens end OutOfMemory cause place h g = inr refl

pub answer_each_fault : (tokens : List Spanned) (end : Place) (r : Result Program ParseFault) → IsAnswer tokens end r
    → (cause : Cause) (place : Place) → FaultAt tokens end cause place → Gives r (Err (fault_of cause place))
answer_each_fault tokens end (Ok p) h cause place g = absurd (apart tokens end p cause place h g)
answer_each_fault tokens end (Err f) h cause place g = fault_with_fault tokens end f cause place h g

-- ---- of the tokens alone

pub one_answer : (tokens : List Spanned) (end : Place) → HasOneAnswer tokens end
one_answer tokens end = record {
  some = answer_comes tokens end;
  one_program = λ p q. parsed_once tokens end p q;
  one_fault = λ a b x y. fault_once tokens end a b x y;
  not_both = λ p cause place. apart tokens end p cause place;
}
