-- A text is one program, or is refused for one reason.
use Rattle.std.proofs.Common.{◌≡◌, ◌≢◌, inl, inr, refl, sym, ap, subst, ◌∙◌, ℕ, List, Option, Some, None}
use Rattle.asp_syntax.specs.declared.token.Place.{Place}
use Rattle.asp_syntax.specs.declared.token.Spanned.{Spanned}
use Rattle.asp_syntax.specs.declared.tree.Program.{Program}
use Rattle.asp_syntax.specs.declared.tree.Statement.{Statement}
use Rattle.asp_safety.specs.declared.fault.SafetyFault.{SafetyFault}
use Rattle.asp_safety.specs.declared.fault.SafetyFault.TheVariants as fault
use Rattle.asp_safety.specs.Faults.{IsFault, IsAccepted}
use Rattle.asp_safety.proofs.Exclusion as safety
use Rattle.asp_lexer.specs.Lexing.{AreTokens, IsFirstBad, IsFirstTooLarge}
use Rattle.asp_lexer.proofs.OneAnswer.{one_list}
use Rattle.asp_lexer.proofs.OneAnswer as lexer
use Rattle.asp_grammar.specs.Programs.{program_of}
use Rattle.asp_grammar.specs.Faults.{Cause, unsupported, syntax, too_deep, number_too_large, FaultAt, Parsed}
use Rattle.asp_parser.proofs.AnswerLemmas as parser
use Rattle.alpha.specs.Built.{unbuilt}
use Rattle.alpha.specs.TextAnswers.{IsBuiltText, IsProgramText, end_of, IsFaultyText, IsUnacceptedText, IsRefusedText, IsStopOf, IsFaultOf, safety_status}
use Rattle.alpha.specs.declared.status.Refusal.{Refusal}
use Rattle.alpha.specs.declared.status.Refusal.TheVariants.{Lex, NumberTooLarge, Syntax, TooDeep, Unsupported, NotYet, Unsafe, AggregateRecursive}
use Rattle.alpha.specs.declared.status.Status.{Status}
use Rattle.alpha.specs.declared.status.Status.TheVariants as status

-- ---- one program

module _ (text : List ℕ) where
  -- programs of the text's tokens are the same
  one_tree : (tokens others : List Spanned) (P Q : List Statement) → AreTokens text tokens → AreTokens text others → Parsed tokens (program_of P) → Parsed others (program_of Q) → P ≡ Q
  one_tree tokens others P Q x y p q =
      let same : others ≡ tokens = one_list text others tokens y x in
      ap Program.statements ((parser.one_answer tokens (end_of text)).one_program (program_of P) (program_of Q) p (subst (λ ts. Parsed ts (program_of Q)) same q))

  -- a program's tokens are not refused
  no_fault : (tokens others : List Spanned) (P : List Statement) (cause : Cause) (at : Place) → AreTokens text tokens → AreTokens text others → Parsed tokens (program_of P) → FaultAt others (end_of text) cause at → ⊥
  no_fault tokens others P cause at x y p f =
      let same : others ≡ tokens = one_list text others tokens y x in
      (parser.one_answer tokens (end_of text)).not_both (program_of P) cause at p (subst (λ ts. FaultAt ts (end_of text) cause at) same f)

  -- tokens are refused for one cause at one place
  one_fault : (tokens others : List Spanned) (cause other : Cause) (at there : Place) → AreTokens text tokens → AreTokens text others → FaultAt tokens (end_of text) cause at → FaultAt others (end_of text) other there → (cause ≡ other) × (at ≡ there)
  one_fault tokens others cause other at there x y f g =
      let same : others ≡ tokens = one_list text others tokens y x in
      (parser.one_answer tokens (end_of text)).one_fault cause other at there f (subst (λ ts. FaultAt ts (end_of text) other there) same g)

  pub one_program : (P Q : List Statement) → IsProgramText text P → IsProgramText text Q → P ≡ Q
  one_program P Q p q = one_tree p.tokens q.tokens P Q p.lexed q.lexed p.parsed q.parsed

-- ---- one refusal

-- the refusal for a cause at a place
refusal_of : Cause → Place → Refusal
refusal_of (unsupported what) at = Unsupported at what
refusal_of syntax at = Syntax at
refusal_of too_deep at = TooDeep at
refusal_of number_too_large at = NumberTooLarge at

lex_at : ℕ → Refusal
lex_at at = Lex (record { 0 = at })

large_at : ℕ → Refusal
large_at at = NumberTooLarge (record { 0 = at })

-- why a program is refused: a statement isn't built, or all are and it has a fault
data IsOut (P : List Statement) (r : Refusal) : Type 0 where
  not_built : (line : ℕ) → unbuilt P ≡ Some line → r ≡ NotYet line → IsOut P r
  unaccepted : (f : SafetyFault) → f ≢ fault.OutOfMemory → unbuilt P ≡ None → IsFault P f → status.Refused r ≡ safety_status f → IsOut P r

-- the text is that of a program, which is refused
record IsOutText (text : List ℕ) (r : Refusal) : Type 0 where
  pub tokens : List Spanned
  pub lexed : AreTokens text tokens
  pub program : List Statement
  pub parsed : Parsed tokens (program_of program)
  pub out : IsOut program r

-- what is refused: bytes, a number, a token, or a program
data Found (text : List ℕ) (r : Refusal) : Type 0 where
  bad : (at : ℕ) → IsFirstBad text at → r ≡ lex_at at → Found text r
  large : (at : ℕ) → IsFirstTooLarge text at → r ≡ large_at at → Found text r
  faulty : (cause : Cause) (at : Place) → IsFaultyText text cause at → r ≡ refusal_of cause at → Found text r
  whole : IsOutText text r → Found text r

unaccepted_text : (text : List ℕ) (r : Refusal) (f : SafetyFault) → f ≢ fault.OutOfMemory → status.Refused r ≡ safety_status f → IsUnacceptedText text f → Found text r
unaccepted_text text r f n e is = whole (record {
  tokens = IsBuiltText.tokens is.built;
  lexed = IsBuiltText.lexed is.built;
  program = is.program;
  parsed = IsBuiltText.parsed is.built;
  out = unaccepted f n (IsBuiltText.built is.built) is.faulty e;
})

found : (text : List ℕ) (r : Refusal) → IsRefusedText text r → Found text r
unfolding lex_at large_at refusal_of
found text (Lex at) is = bad at.0 is refl
found text (NumberTooLarge at) (inl is) = large at.0 is refl
found text (NumberTooLarge at) (inr is) = faulty number_too_large at is refl
found text (Syntax at) is = faulty syntax at is refl
found text (TooDeep at) is = faulty too_deep at is refl
found text (Unsupported at what) is = faulty (unsupported what) at is refl
found text (NotYet line) is = whole (record { tokens = is.tokens; lexed = is.lexed; program = is.program; parsed = is.parsed; out = not_built line is.first refl })
found text (Unsafe line variable) is = unaccepted_text text (Unsafe line variable) (fault.Unsafe line variable) (λ e. cc) refl is
found text (AggregateRecursive line name) is = unaccepted_text text (AggregateRecursive line name) (fault.AggregateRecursive line name) (λ e. cc) refl is

none_some : (line : ℕ) (o : Option ℕ) → o ≡ None → o ≡ Some line → ⊥
none_some line o e f = cc

same_line : (k l : ℕ) (o : Option ℕ) → o ≡ Some k → o ≡ Some l → k ≡ l
same_line k l o e f = let both : Some k ≡ Some l = sym e ∙ f in cc

same_refusal : (r q : Refusal) → status.Refused r ≡ status.Refused q → r ≡ q
same_refusal r q e = cc

-- a program is refused for one reason
one_out : (P : List Statement) (r q : Refusal) → IsOut P r → IsOut P q → r ≡ q
one_out P r q (not_built k x e) (not_built l y f) = e ∙ (ap NotYet (same_line k l (unbuilt P) x y) ∙ sym f)
one_out P r q (not_built k x e) (unaccepted g n none y f) = absurd (none_some k (unbuilt P) none x)
one_out P r q (unaccepted f n none x e) (not_built l y d) = absurd (none_some l (unbuilt P) none y)
one_out P r q (unaccepted f n none x e) (unaccepted g m again y d) = same_refusal r q (e ∙ (ap safety_status (safety.one_fault P f g x y n m) ∙ sym d))

one_found : (text : List ℕ) (r q : Refusal) → Found text r → Found text q → r ≡ q
one_found text r q (bad a x e) (bad b y f) = e ∙ (ap lex_at ((lexer.one_answer text).one_bad a b x y) ∙ sym f)
one_found text r q (bad a x e) (large b y f) = absurd ((lexer.one_answer text).bad_not_too_large a b x y)
one_found text r q (bad a x e) (faulty cause at y f) = absurd ((lexer.one_answer text).tokens_not_bad y.tokens a y.lexed x)
one_found text r q (bad a x e) (whole y) = absurd ((lexer.one_answer text).tokens_not_bad y.tokens a y.lexed x)
one_found text r q (large a x e) (bad b y f) = absurd ((lexer.one_answer text).bad_not_too_large b a y x)
one_found text r q (large a x e) (large b y f) = e ∙ (ap large_at ((lexer.one_answer text).one_too_large a b x y) ∙ sym f)
one_found text r q (large a x e) (faulty cause at y f) = absurd ((lexer.one_answer text).tokens_not_too_large y.tokens a y.lexed x)
one_found text r q (large a x e) (whole y) = absurd ((lexer.one_answer text).tokens_not_too_large y.tokens a y.lexed x)
one_found text r q (faulty cause at x e) (bad b y f) = absurd ((lexer.one_answer text).tokens_not_bad x.tokens b x.lexed y)
one_found text r q (faulty cause at x e) (large b y f) = absurd ((lexer.one_answer text).tokens_not_too_large x.tokens b x.lexed y)
one_found text r q (faulty cause at x e) (faulty other there y f) =
    let one = one_fault text x.tokens y.tokens cause other at there x.lexed y.lexed x.fault y.fault in
    e ∙ (ap (λ c. refusal_of c at) one.0 ∙ (ap (refusal_of other) one.1 ∙ sym f))
one_found text r q (faulty cause at x e) (whole y) = absurd (no_fault text y.tokens x.tokens y.program cause at y.lexed x.lexed y.parsed x.fault)
one_found text r q (whole x) (bad b y f) = absurd ((lexer.one_answer text).tokens_not_bad x.tokens b x.lexed y)
one_found text r q (whole x) (large b y f) = absurd ((lexer.one_answer text).tokens_not_too_large x.tokens b x.lexed y)
one_found text r q (whole x) (faulty cause at y f) = absurd (no_fault text x.tokens y.tokens x.program cause at x.lexed y.lexed x.parsed y.fault)
one_found text r q (whole x) (whole y) =
    let programs = one_tree text x.tokens y.tokens x.program y.program x.lexed y.lexed x.parsed y.parsed in
    one_out y.program r q (subst (λ P. IsOut P r) programs x.out) y.out

pub one_refusal : (text : List ℕ) (r q : Refusal) → IsRefusedText text r → IsRefusedText text q → r ≡ q
one_refusal text r q x y = one_found text r q (found text r x) (found text q y)

-- ---- not both

-- a program that is accepted isn't refused
not_out : (P : List Statement) (r : Refusal) → unbuilt P ≡ None → IsAccepted P → IsOut P r → ⊥
not_out P r none accepted (not_built line x e) = none_some line (unbuilt P) none x
not_out P r none accepted (unaccepted f n again x e) = n (safety.no_fault P f accepted x)

not_found : (text : List ℕ) (P : List Statement) (r : Refusal) → IsProgramText text P → Found text r → ⊥
not_found text P r p (bad a x e) = (lexer.one_answer text).tokens_not_bad p.tokens a p.lexed x
not_found text P r p (large a x e) = (lexer.one_answer text).tokens_not_too_large p.tokens a p.lexed x
not_found text P r p (faulty cause at x e) = no_fault text p.tokens x.tokens P cause at p.lexed x.lexed p.parsed x.fault
not_found text P r p (whole x) =
    let programs = one_tree text p.tokens x.tokens P x.program p.lexed x.lexed p.parsed x.parsed in
    not_out P r p.built p.accepted (subst (λ Q. IsOut Q r) (sym programs) x.out)

pub not_refused : (text : List ℕ) (P : List Statement) (r : Refusal) → IsProgramText text P → IsRefusedText text r → ⊥
not_refused text P r p x = not_found text P r p (found text r x)

-- ---- a program that was read

-- the text of a program that is accepted
pub program_text : (text : List ℕ) (P : List Statement) → IsBuiltText text P → IsAccepted P → IsProgramText text P
program_text text P b accepted = record { tokens = b.tokens; lexed = b.lexed; parsed = b.parsed; built = b.built; accepted = accepted }

by_fault : (text : List ℕ) (P : List Statement) (f : SafetyFault) → IsBuiltText text P → IsFault P f → IsStopOf text (safety_status f)
by_fault text P (fault.Unsafe line variable) b x = record { program = P; built = b; faulty = x }
by_fault text P (fault.AggregateRecursive line name) b x = record { program = P; built = b; faulty = x }
by_fault text P fault.OutOfMemory b x = tt

-- the status of one that isn't
pub fault_text : (text : List ℕ) (P : List Statement) (s : Status) → IsBuiltText text P → IsFaultOf P s → IsStopOf text s
fault_text text P s b x = subst (IsStopOf text) (sym x.2) (by_fault text P x.0 b x.1)
