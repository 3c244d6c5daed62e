-- The steps at literals and where terms begin are exact.
use Rattle.std.proofs.Common.{◌≡◌, ℕ, Bool, true, false, List, [], ◌∷◌, ◌++◌, inl, inr, refl, sym, ap, subst}
use Rattle.std.specs.Prelude.{Option, Some, None}
use Rattle.asp_syntax.specs.declared.tree.Term.{Term}
use Rattle.asp_syntax.specs.declared.tree.Atom.{Atom}
use Rattle.asp_syntax.specs.declared.tree.Literal.TheVariants as literal
use Rattle.asp_syntax.specs.declared.tree.Item.TheVariants as item
use Rattle.asp_syntax.specs.declared.tree.Head.TheVariants as head
use Rattle.asp_grammar.specs.Terminals.{Terminal}
use Rattle.asp_grammar.specs.Terminals as terminal
use Rattle.asp_grammar.specs.Grammar.{Clause, IsClause, IsHead, IsBraced, IsRightBound, AreChosen, AreNafs, IsCondition, IsLiteral, IsNaf, IsItem, IsAggregate, IsFunction, IsKindSign, AreElements, IsElement, IsUnary, IsTerm, AreTerms, AreArguments, IsBody}
use Rattle.asp_grammar.specs.Grammar as g
use Rattle.asp_grammar.specs.declared.state.Pending.TheVariants.{Nothing}
use Rattle.asp_grammar.specs.declared.state.Owner.TheVariants.{Chosen}
use Rattle.asp_grammar.specs.declared.state.LiteralRole.{LiteralRole}
use Rattle.asp_grammar.specs.declared.state.LiteralRole.TheVariants.{AsHead, AsDenied, AsItem, AsChosen, InCondition, DeniedInCondition}
use Rattle.asp_grammar.specs.declared.state.TermRole.{TermRole}
use Rattle.asp_grammar.specs.declared.state.TermRole.TheVariants.{BodyLeft, HeadLeft, ConditionLeft}
use Rattle.asp_grammar.specs.declared.state.Purpose.TheVariants.{ForTerm, ForArguments}
use Rattle.asp_grammar.specs.declared.state.State.{State}
use Rattle.asp_grammar.specs.declared.state.State.TheVariants.{SignRead, NameRead, ArgumentsOpened, ArgumentsRead}
use Rattle.asp_grammar.specs.Machine.{call_term, signed, atom_of, term_role, operand, literal_next, or_else, term_part, arguments_next, name_next, opened_next, term_begins, sign_next, begin_next}
use Rattle.asp_grammar.specs.Continuations.{AfterLiteral, AfterWholeTerm, Chain, TermPart, AfterArguments, TermBegins, Begins, Leads, Named, Opened}
use Rattle.asp_grammar.proofs.TermLemmas.{none_some, moved, Goes, arrives, item_on, item_back, head_on, head_back, owned_on, owned_back, condition_on, condition_back, chain_on, chain_back, operand_on, operand_back, called_with, unary_with, name_on, name_plain, name_open, open_on, NameGoes, OpenGoes, never}

-- after a literal
pub literal_on : (b : LiteralRole) (a : Atom) (t : Terminal) (ts : List Terminal) (c : Clause) → AfterLiteral b a (t ∷ ts) c → Goes (literal_next b a t) ts c
literal_on AsHead a t ts c p = head_on (head.Single a) t ts c p
literal_on (AsChosen l es) a t ts c p = owned_on (Chosen l es a) t ts c p
literal_on (InCondition w ls) a t ts c p = condition_on w (ls ++ literal.Positive a ∷ []) t ts c p
literal_on (DeniedInCondition w ls) a t ts c p = condition_on w (ls ++ literal.Negative a ∷ []) t ts c p
literal_on (AsDenied h ls) a t ts c p = item_on h (ls ++ item.Plain (literal.Negative a) ∷ []) t ts c p
literal_on (AsItem h ls) a t ts c p = item_on h (ls ++ item.Plain (literal.Positive a) ∷ []) t ts c p

pub literal_back : (b : LiteralRole) (a : Atom) (t : Terminal) (ts : List Terminal) (c : Clause) (st : State) → literal_next b a t ≡ Some st → Leads st ts c → AfterLiteral b a (t ∷ ts) c
literal_back AsHead a t ts c st e l = head_back (head.Single a) t ts c st e l
literal_back (AsChosen l es) a t ts c st e d = owned_back (Chosen l es a) t ts c st e d
literal_back (InCondition w ls) a t ts c st e d = condition_back w (ls ++ literal.Positive a ∷ []) t ts c st e d
literal_back (DeniedInCondition w ls) a t ts c st e d = condition_back w (ls ++ literal.Negative a ∷ []) t ts c st e d
literal_back (AsDenied h ls) a t ts c st e l = item_back h (ls ++ item.Plain (literal.Negative a) ∷ []) t ts c st e l
literal_back (AsItem h ls) a t ts c st e l = item_back h (ls ++ item.Plain (literal.Positive a) ∷ []) t ts c st e l

pub or_first : (o q : Option State) (st : State) → o ≡ Some st → or_else o q ≡ Some st
or_first o q st e = ap (λ v. or_else v q) e

pub or_none : (o : Option State) (st : State) → or_else o None ≡ Some st → o ≡ Some st
or_none None st e = e
or_none (Some s) st e = e

-- A token that goes on a term doesn't follow a literal.
pub term_apart : (b : LiteralRole) (negated : Bool) (n : List ℕ) (xs : List Term) (t : Terminal) (st : State) → term_part (term_role b) negated n xs t ≡ Some st → arguments_next b negated n xs t ≡ Some st
term_apart AsHead negated n xs terminal.Dot st e = absurd (none_some e)
term_apart AsHead negated n xs terminal.If st e = absurd (none_some e)
term_apart AsHead negated n xs _ st e = e
term_apart (AsDenied h ls) negated n xs terminal.Comma st e = absurd (none_some e)
term_apart (AsDenied h ls) negated n xs terminal.Dot st e = absurd (none_some e)
term_apart (AsDenied h ls) negated n xs _ st e = e
term_apart (AsItem h ls) negated n xs terminal.Comma st e = absurd (none_some e)
term_apart (AsItem h ls) negated n xs terminal.Dot st e = absurd (none_some e)
term_apart (AsItem h ls) negated n xs _ st e = e
term_apart (AsChosen l es) negated n xs t st e = absurd (none_some e)
term_apart (InCondition w ls) negated n xs terminal.Comma st e = absurd (none_some e)
term_apart (InCondition w ls) negated n xs terminal.Semicolon st e = absurd (none_some e)
term_apart (InCondition w ls) negated n xs terminal.CloseBrace st e = absurd (none_some e)
term_apart (InCondition w ls) negated n xs _ st e = e
term_apart (DeniedInCondition w ls) negated n xs t st e = absurd (none_some e)

pub part_on : (o : Option TermRole) (negated : Bool) (n : List ℕ) (xs : List Term) (t : Terminal) (ts : List Terminal) (c : Clause) → TermPart o negated n xs (t ∷ ts) c → Goes (term_part o negated n xs t) ts c
part_on None negated n xs t ts c h = absurd h
part_on (Some b) negated n xs t ts c h = chain_on Nothing (signed negated (call_term n xs)) [] (ForTerm b) t ts c h

pub args_on : (b : LiteralRole) (negated : Bool) (n : List ℕ) (xs : List Term) (t : Terminal) (ts : List Terminal) (c : Clause) → AfterArguments b negated n xs (t ∷ ts) c → Goes (arguments_next b negated n xs t) ts c
args_on b negated n xs t ts c (inl h) = go (literal_on b (atom_of negated n xs) t ts c h)
  where
    go : Goes (literal_next b (atom_of negated n xs) t) ts c → Goes (arguments_next b negated n xs t) ts c
    go (st, e, l) = (st, or_first (literal_next b (atom_of negated n xs) t) (term_part (term_role b) negated n xs t) st e, l)
args_on b negated n xs t ts c (inr h) = go (part_on (term_role b) negated n xs t ts c h)
  where
    go : Goes (term_part (term_role b) negated n xs t) ts c → Goes (arguments_next b negated n xs t) ts c
    go (st, e, l) = (st, term_apart b negated n xs t st e, l)

pub args_back : (b : LiteralRole) (negated : Bool) (n : List ℕ) (xs : List Term) (t : Terminal) (ts : List Terminal) (c : Clause) (st : State) → arguments_next b negated n xs t ≡ Some st → Leads st ts c → AfterArguments b negated n xs (t ∷ ts) c
args_back AsHead negated n xs terminal.Dot ts c st e l' = inl (literal_back AsHead (atom_of negated n xs) terminal.Dot ts c st e l')
args_back AsHead negated n xs terminal.If ts c st e l' = inl (literal_back AsHead (atom_of negated n xs) terminal.If ts c st e l')
args_back AsHead negated n xs t ts c st e l' = inr (chain_back Nothing (signed negated (call_term n xs)) [] (ForTerm HeadLeft) t ts c st e l')
args_back (AsDenied h ls) negated n xs terminal.Comma ts c st e q = inl (literal_back (AsDenied h ls) (atom_of negated n xs) terminal.Comma ts c st e q)
args_back (AsDenied h ls) negated n xs terminal.Dot ts c st e q = inl (literal_back (AsDenied h ls) (atom_of negated n xs) terminal.Dot ts c st e q)
args_back (AsDenied h ls) negated n xs t ts c st e q = inr (chain_back Nothing (signed negated (call_term n xs)) [] (ForTerm (BodyLeft true h ls)) t ts c st e q)
args_back (AsItem h ls) negated n xs terminal.Comma ts c st e q = inl (literal_back (AsItem h ls) (atom_of negated n xs) terminal.Comma ts c st e q)
args_back (AsItem h ls) negated n xs terminal.Dot ts c st e q = inl (literal_back (AsItem h ls) (atom_of negated n xs) terminal.Dot ts c st e q)
args_back (AsItem h ls) negated n xs t ts c st e q = inr (chain_back Nothing (signed negated (call_term n xs)) [] (ForTerm (BodyLeft false h ls)) t ts c st e q)
args_back (InCondition w ls) negated n xs terminal.Comma ts c st e q = inl (literal_back (InCondition w ls) (atom_of negated n xs) terminal.Comma ts c st e q)
args_back (InCondition w ls) negated n xs terminal.Semicolon ts c st e q = inl (literal_back (InCondition w ls) (atom_of negated n xs) terminal.Semicolon ts c st e q)
args_back (InCondition w ls) negated n xs terminal.CloseBrace ts c st e q = inl (literal_back (InCondition w ls) (atom_of negated n xs) terminal.CloseBrace ts c st e q)
args_back (InCondition w ls) negated n xs t ts c st e q = inr (chain_back Nothing (signed negated (call_term n xs)) [] (ForTerm (ConditionLeft w ls)) t ts c st e q)
args_back (AsChosen l es) negated n xs t ts c st e q = inl (literal_back (AsChosen l es) (atom_of negated n xs) t ts c st (or_none (literal_next (AsChosen l es) (atom_of negated n xs) t) st e) q)
args_back (DeniedInCondition w ls) negated n xs t ts c st e q = inl (literal_back (DeniedInCondition w ls) (atom_of negated n xs) t ts c st (or_none (literal_next (DeniedInCondition w ls) (atom_of negated n xs) t) st e) q)

-- after a name
pub no_open_args : (b : LiteralRole) (negated : Bool) (n : List ℕ) (xs : List Term) → arguments_next b negated n xs terminal.Open ≡ None
no_open_args AsHead negated n xs = refl
no_open_args (AsDenied h ls) negated n xs = refl
no_open_args (AsItem h ls) negated n xs = refl
no_open_args (AsChosen l es) negated n xs = refl
no_open_args (InCondition w ls) negated n xs = refl
no_open_args (DeniedInCondition w ls) negated n xs = refl

module _ (b : LiteralRole) (negated : Bool) (n : List ℕ) where
  pub name_agrees : (t : Terminal) (st : State) → arguments_next b negated n [] t ≡ Some st → name_next b negated n t ≡ Some st
  name_agrees terminal.Open st e = never (no_open_args b negated n []) e
  name_agrees _ st e = e

  pub name_goes : (t : Terminal) (ts : List Terminal) (c : Clause) → Named (AfterArguments b negated n) (t ∷ ts) c → Goes (name_next b negated n t) ts c
  name_goes t ts c h = go (name_on (AfterArguments b negated n) t ts c h)
    where
      plain : Goes (arguments_next b negated n [] t) ts c → Goes (name_next b negated n t) ts c
      plain (st, e, l) = (st, name_agrees t st e, l)

      go : NameGoes (AfterArguments b negated n) t ts c → Goes (name_next b negated n t) ts c
      go (inl q) = plain (args_on b negated n [] t ts c q)
      go (inr p) = subst (λ t. Goes (name_next b negated n t) ts c) (sym p.0) (ArgumentsOpened b negated n, refl, p.1)

  pub name_back : (t : Terminal) (ts : List Terminal) (c : Clause) (st : State) → name_next b negated n t ≡ Some st → Leads st ts c → Named (AfterArguments b negated n) (t ∷ ts) c
  name_back terminal.Open ts c st e l = name_open (AfterArguments b negated n) ts c (arrives ts c e l)
  name_back t ts c st e l = name_plain (AfterArguments b negated n) (t ∷ ts) c (args_back b negated n [] t ts c st e l)

  pub open_agrees : (t : Terminal) (st : State) → operand Nothing Nothing 0 [] (ForArguments b negated n []) t ≡ Some st → opened_next b negated n t ≡ Some st
  open_agrees terminal.Close st e = absurd (none_some e)
  open_agrees _ st e = e

  pub open_goes : (t : Terminal) (ts : List Terminal) (c : Clause) → Opened (AfterArguments b negated n) (t ∷ ts) c → Goes (opened_next b negated n t) ts c
  open_goes t ts c h = go (open_on (AfterArguments b negated n) t ts c h)
    where
      more : Goes (operand Nothing Nothing 0 [] (ForArguments b negated n []) t) ts c → Goes (opened_next b negated n t) ts c
      more (st, e, l) = (st, open_agrees t st e, l)

      go : OpenGoes (AfterArguments b negated n) t ts c → Goes (opened_next b negated n t) ts c
      go (inl p) = subst (λ t. Goes (opened_next b negated n t) ts c) (sym p.0) (ArgumentsRead b negated n [], refl, p.1)
      go (inr f) = more (operand_on Nothing Nothing 0 [] (ForArguments b negated n []) c t ts f)

  pub open_back : (t : Terminal) (ts : List Terminal) (c : Clause) (st : State) → opened_next b negated n t ≡ Some st → Leads st ts c → Opened (AfterArguments b negated n) (t ∷ ts) c
  open_back terminal.Close ts c st e l = inl (ts, refl, arrives ts c e l)
  open_back t ts c st e l = inr (operand_back Nothing Nothing 0 [] (ForArguments b negated n []) c t ts st e l)

-- what a name begins, a literal or a term
pub minus_called : (n : List ℕ) {ts r : List Terminal} {x : Term} → IsUnary (terminal.Minus ∷ terminal.Id n ∷ ts) r x → (xs : List Term) × AreArguments ts r xs × (x ≡ signed true (call_term n xs))
minus_called n (g.minus f u) = let d = called_with u in (d.0, d.1, ap (signed true) d.2)

pub begins_named : (o : Option TermRole) (n : List ℕ) (ts : List Terminal) (c : Clause) → TermBegins o 0 (terminal.Id n ∷ ts) c → Named (TermPart o false n) ts c
begins_named None n ts c h = absurd h
begins_named (Some b) n ts c (x, r, u, h) = let d = called_with u in (r, d.0, d.1, subst (λ v. Chain (AfterWholeTerm b) Nothing v r c) d.2 h)

pub begins_negated : (o : Option TermRole) (n : List ℕ) (ts : List Terminal) (c : Clause) → TermBegins o 0 (terminal.Minus ∷ terminal.Id n ∷ ts) c → Named (TermPart o true n) ts c
begins_negated None n ts c h = absurd h
begins_negated (Some b) n ts c (x, r, u, h) = let d = minus_called n u in (r, d.0, d.1, subst (λ v. Chain (AfterWholeTerm b) Nothing v r c) d.2 h)

pub named_begins : (o : Option TermRole) (n : List ℕ) (ts r : List Terminal) (xs : List Term) (c : Clause) → AreArguments ts r xs → TermPart o false n xs r c → TermBegins o 0 (terminal.Id n ∷ ts) c
named_begins None n ts r xs c a h = absurd h
named_begins (Some b) n ts r xs c a h = (call_term n xs, r, unary_with a, h)

pub negated_begins : (o : Option TermRole) (n : List ℕ) (ts r : List Terminal) (xs : List Term) (c : Clause) → AreArguments ts r xs → TermPart o true n xs r c → TermBegins o 0 (terminal.Minus ∷ terminal.Id n ∷ ts) c
negated_begins None n ts r xs c a h = absurd h
negated_begins (Some b) n ts r xs c a h = (signed true (call_term n xs), r, g.minus refl (unary_with a), h)

pub plain_literal : (n : List ℕ) {ts r : List Terminal} {a : Atom} → IsLiteral (terminal.Id n ∷ ts) r a → (xs : List Term) × AreArguments ts r xs × (a ≡ atom_of false n xs)
plain_literal n (g.plain {xs = xs} args) = (xs, args, refl)

pub negated_literal : (n : List ℕ) {ts r : List Terminal} {a : Atom} → IsLiteral (terminal.Minus ∷ terminal.Id n ∷ ts) r a → (xs : List Term) × AreArguments ts r xs × (a ≡ atom_of true n xs)
negated_literal n (g.negated {xs = xs} args) = (xs, args, refl)

pub named_plain : (b : LiteralRole) (n : List ℕ) (ts : List Terminal) (c : Clause) → Begins b (terminal.Id n ∷ ts) c → Named (AfterArguments b false n) ts c
named_plain b n ts c (inl (a, r, lit, h)) = let d = plain_literal n lit in (r, d.0, d.1, inl (subst (λ v. AfterLiteral b v r c) d.2 h))
named_plain b n ts c (inr h) = let d = begins_named (term_role b) n ts c h in (d.0, d.1, d.2, inr d.3)

pub plain_named : (b : LiteralRole) (n : List ℕ) (ts : List Terminal) (c : Clause) → Named (AfterArguments b false n) ts c → Begins b (terminal.Id n ∷ ts) c
plain_named b n ts c (r, xs, a, inl h) = inl (atom_of false n xs, r, g.plain a, h)
plain_named b n ts c (r, xs, a, inr h) = inr (named_begins (term_role b) n ts r xs c a h)

pub named_negated : (b : LiteralRole) (n : List ℕ) (ts : List Terminal) (c : Clause) → Begins b (terminal.Minus ∷ terminal.Id n ∷ ts) c → Named (AfterArguments b true n) ts c
named_negated b n ts c (inl (a, r, lit, h)) = let d = negated_literal n lit in (r, d.0, d.1, inl (subst (λ v. AfterLiteral b v r c) d.2 h))
named_negated b n ts c (inr h) = let d = begins_negated (term_role b) n ts c h in (d.0, d.1, d.2, inr d.3)

pub negated_named : (b : LiteralRole) (n : List ℕ) (ts : List Terminal) (c : Clause) → Named (AfterArguments b true n) ts c → Begins b (terminal.Minus ∷ terminal.Id n ∷ ts) c
negated_named b n ts c (r, xs, a, inl h) = inl (atom_of true n xs, r, g.negated a, h)
negated_named b n ts c (r, xs, a, inr h) = inr (negated_begins (term_role b) n ts r xs c a h)

-- where a term begins, after k signs
pub begins_on_of : (o : Option TermRole) (k : ℕ) (t : Terminal) (ts : List Terminal) (c : Clause) → TermBegins o k (t ∷ ts) c → Goes (term_begins o k t) ts c
begins_on_of None k t ts c h = absurd h
begins_on_of (Some b) k t ts c h = operand_on Nothing Nothing k [] (ForTerm b) c t ts h

pub begins_back_of : (o : Option TermRole) (k : ℕ) (t : Terminal) (ts : List Terminal) (c : Clause) (st : State) → term_begins o k t ≡ Some st → Leads st ts c → TermBegins o k (t ∷ ts) c
begins_back_of None k t ts c st e l = absurd (none_some e)
begins_back_of (Some b) k t ts c st e l = operand_back Nothing Nothing k [] (ForTerm b) c t ts st e l

pub begins_on : (b : LiteralRole) (k : ℕ) (t : Terminal) (ts : List Terminal) (c : Clause) → TermBegins (term_role b) k (t ∷ ts) c → Goes (term_begins (term_role b) k t) ts c
begins_on b k t ts c h = begins_on_of (term_role b) k t ts c h

pub begins_back : (b : LiteralRole) (k : ℕ) (t : Terminal) (ts : List Terminal) (c : Clause) (st : State) → term_begins (term_role b) k t ≡ Some st → Leads st ts c → TermBegins (term_role b) k (t ∷ ts) c
begins_back b k t ts c st e l = begins_back_of (term_role b) k t ts c st e l

pub sign_in_of : (o : Option TermRole) (us : List Terminal) (c : Clause) → TermBegins o 0 (terminal.Minus ∷ us) c → TermBegins o 1 us c
sign_in_of None us c h = h
sign_in_of (Some b) us c h = h

pub sign_out_of : (o : Option TermRole) (us : List Terminal) (c : Clause) → TermBegins o 1 us c → TermBegins o 0 (terminal.Minus ∷ us) c
sign_out_of None us c h = h
sign_out_of (Some b) us c h = h

pub sign_in : (b : LiteralRole) (us : List Terminal) (c : Clause) → TermBegins (term_role b) 0 (terminal.Minus ∷ us) c → TermBegins (term_role b) 1 us c
sign_in b us c h = sign_in_of (term_role b) us c h

pub sign_out : (b : LiteralRole) (us : List Terminal) (c : Clause) → TermBegins (term_role b) 1 us c → TermBegins (term_role b) 0 (terminal.Minus ∷ us) c
sign_out b us c h = sign_out_of (term_role b) us c h

module _ (b : LiteralRole) where
  pub sign_of : (t : Terminal) (ts : List Terminal) (c : Clause) → Begins b (terminal.Minus ∷ t ∷ ts) c → Goes (term_begins (term_role b) 1 t) ts c → Goes (sign_next b t) ts c
  sign_of (terminal.Id n) ts c w q = (NameRead b true n, refl, named_negated b n ts c w)
  sign_of _ ts c w q = q

  pub sign_literal : {us r : List Terminal} {a : Atom} → IsLiteral us r a → (t : Terminal) (ts : List Terminal) (c : Clause) → terminal.Minus ∷ t ∷ ts ≡ us → Begins b (terminal.Minus ∷ t ∷ ts) c → Goes (sign_next b t) ts c
  sign_literal (g.plain args) t ts c e w = absurd cc
  sign_literal (g.negated {n = n} {ts = us} args) t ts c e w =
      let f : t ∷ ts ≡ terminal.Id n ∷ us = cc in
      moved (λ t ts. Begins b (terminal.Minus ∷ t ∷ ts) c → Goes (sign_next b t) ts c) f (λ w. (NameRead b true n, refl, named_negated b n us c w)) w

  pub sign_on : (t : Terminal) (ts : List Terminal) (c : Clause) → Begins b (terminal.Minus ∷ t ∷ ts) c → Goes (sign_next b t) ts c
  sign_on t ts c (inl (a, r, lit, h)) = sign_literal lit t ts c refl (inl (a, r, lit, h))
  sign_on t ts c (inr h) = sign_of t ts c (inr h) (begins_on b 1 t ts c (sign_in b (t ∷ ts) c h))

  pub sign_back : (t : Terminal) (ts : List Terminal) (c : Clause) (st : State) → sign_next b t ≡ Some st → Leads st ts c → Begins b (terminal.Minus ∷ t ∷ ts) c
  sign_back (terminal.Id n) ts c st e l = negated_named b n ts c (arrives ts c e l)
  sign_back t ts c st e l = inr (sign_out b (t ∷ ts) c (begins_back b 1 t ts c st e l))

  pub begin_of : (t : Terminal) (ts : List Terminal) (c : Clause) → Begins b (t ∷ ts) c → Goes (term_begins (term_role b) 0 t) ts c → Goes (begin_next b t) ts c
  begin_of (terminal.Id n) ts c w q = (NameRead b false n, refl, named_plain b n ts c w)
  begin_of terminal.Minus ts c w q = (SignRead b, refl, w)
  begin_of _ ts c w q = q

  pub begin_literal : {us r : List Terminal} {a : Atom} → IsLiteral us r a → (t : Terminal) (ts : List Terminal) (c : Clause) → t ∷ ts ≡ us → Begins b us c → Goes (begin_next b t) ts c
  begin_literal (g.plain {n = n} {ts = us} args) t ts c e w = moved (λ t ts. Goes (begin_next b t) ts c) e (NameRead b false n, refl, named_plain b n us c w)
  begin_literal (g.negated {n = n} {ts = us} args) t ts c e w = moved (λ t ts. Goes (begin_next b t) ts c) e (SignRead b, refl, w)

  pub begin_on : (t : Terminal) (ts : List Terminal) (c : Clause) → Begins b (t ∷ ts) c → Goes (begin_next b t) ts c
  begin_on t ts c (inl (a, r, lit, h)) = begin_literal lit t ts c refl (inl (a, r, lit, h))
  begin_on t ts c (inr h) = begin_of t ts c (inr h) (begins_on b 0 t ts c h)

  pub begin_back : (t : Terminal) (ts : List Terminal) (c : Clause) (st : State) → begin_next b t ≡ Some st → Leads st ts c → Begins b (t ∷ ts) c
  begin_back (terminal.Id n) ts c st e l = plain_named b n ts c (arrives ts c e l)
  begin_back terminal.Minus ts c st e l = arrives ts c e l
  begin_back t ts c st e l = inr (begins_back b 0 t ts c st e l)
