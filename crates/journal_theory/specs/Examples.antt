-- Worked examples: a search that chooses, shows both sets and ends by a stuck atom; one that closes an atom, gives it its reason and analyses; and one
-- that calls an atom wide.
use Rattle.std.specs.Prelude.{◌≡◌, ℕ, zero, suc, ◌+◌, Bool, true, false, ◌&&◌, nat_eq, nat_lt, List, [], ◌∷◌, Option, Some, None, length}
use Rattle.std.proofs.Common.{refl, ap}
use Rattle.std.proofs.lemmas.Bool.Decides.{Decides-eqb}
use Rattle.alpha_outside.specs.declared.pred.Pred.TheVariants.{User}
use Rattle.alpha_outside.specs.declared.maker.Maker.{Maker}
use Rattle.alpha_outside.specs.declared.pattern.Pattern.{Pattern}
use Rattle.alpha_outside.specs.declared.maker.Maker.TheVariants as maker
use Rattle.alpha_outside.specs.declared.event.Event as outside
use Rattle.alpha_outside.specs.declared.event.Event.TheVariants as say
use Rattle.alpha_outside.specs.Preds.{pred_eq}
use Rattle.search_values.specs.Values.{True, MustBe, False, lit}
use Rattle.search_values.specs.Instances.{Plain, Instance, Rules}
use Rattle.journal_theory.specs.States.{MustLearn, State}
use Rattle.journal_theory.specs.Events.{Event, Learn, Analysed, Justified, Decisions, Enumerated, Allowed}
use Rattle.journal_theory.specs.Journals.{replay, Legal, EachIsWide, SaysAll, IsFinished}
use Rattle.search_values.specs.Numberless.{Ground, numberless}

-- the instances of the two rules; atom 0 is a, and atom 1 is b
abbrev pub example_instance : ℕ → Option (Instance ℕ)
example_instance zero = Some (record { kind = Plain 0; pos = []; neg = 1 ∷ [] })
example_instance (suc zero) = Some (record { kind = Plain 1; pos = []; neg = 0 ∷ [] })
example_instance (suc (suc n)) = None

-- whether the maker is this rule
abbrev pub is_rule : Maker → ℕ → Bool
is_rule (maker.Rule rule binding) m = nat_eq rule m
is_rule (maker.Step step) m = false

-- whether each number is below the next
abbrev pub rising : List ℕ → Bool
rising [] = true
rising (x ∷ []) = true
rising (x ∷ y ∷ ys) = nat_lt x y && rising (y ∷ ys)

-- the test on numbers is right
pub nat_itself : (n : ℕ) → nat_eq n n ≡ true
nat_itself n = (Decides-eqb n n).1 refl

-- and so in the other direction
pub nats_same : (m n : ℕ) → nat_eq m n ≡ true → m ≡ n
nats_same m n = (Decides-eqb m n).0

-- what a journal says of atoms and of rules with these instances: the names are one letter, a for 0
abbrev pub letters : (ℕ → Option (Instance ℕ)) → Ground ℕ ℕ
letters instance_of = record {
  instance_of = instance_of;
  same_maker = nat_eq;
  same_atom = nat_eq;
  is_user = λ a. true;
  in_line_order = rising;
  names_atom = λ terms pred args a. pred_eq pred (User false ((97 + a) ∷ []) 0);
  names_maker = λ terms maker m. is_rule maker m;
  fits = λ terms p a. nat_eq (length p.args) 0 && pred_eq p.pred (User false ((97 + a) ∷ []) 0);
  atom_itself = nat_itself;
  atoms_same = nats_same;
  makers_same = λ m n same. ap instance_of (nats_same m n same);
}

-- the rules of the search
abbrev pub example_rules : Rules (Unit {0}) ℕ ℕ
example_rules = numberless (letters example_instance)

-- the pattern of a
abbrev pub of_a : Pattern
of_a = record { pred = User false (97 ∷ []) 0; args = []; except = [] }

-- the events of a search
abbrev pub example_events : List outside.Event
example_events =
    -- the atoms, and the instances with their bodies; their nogoods are {F 2, F 1}, {T 2, T 1}, {F 0, T 2}, {F 3, F 0}, {T 3, T 0}, {F 1, T 3}
    say.Atom 0 (User false (97 ∷ []) 0) [] ∷
    say.Atom 1 (User false (98 ∷ []) 0) [] ∷
    say.Body 2 0 ∷
    say.Made 0 (maker.Rule 0 []) ∷
    say.Body 3 1 ∷
    say.Made 1 (maker.Rule 1 []) ∷
    -- the first body is chosen, and every value follows
    say.Chosen 2 true ∷
    say.Put 1 False 1 ∷
    say.Put 0 True 2 ∷
    say.Put 3 False 4 ∷
    -- the set {a} is shown, and its choice ruled out
    say.Shown (0 ∷ []) ∷
    say.Learned 6 Enumerated (lit 2 true ∷ []) [] ∷
    say.Back 0 ∷
    -- without it b must be true, and the second body is chosen
    say.Put 2 False 6 ∷
    say.Put 1 MustBe 0 ∷
    say.Chosen 3 true ∷
    say.Put 1 True 5 ∷
    say.Put 0 False 4 ∷
    -- the set {b} is shown, and its choice ruled out
    say.Shown (1 ∷ []) ∷
    say.Learned 7 Enumerated (lit 3 true ∷ []) [] ∷
    say.Back 0 ∷
    -- b is must-be-true again, and then a is: both are stuck while nothing is chosen. The one rule for a has a false body, so it is justified that
    -- a is false, which is struck at level 0
    say.Put 3 False 7 ∷
    say.Put 0 MustBe 3 ∷
    say.Learned 8 Justified (lit 0 true ∷ lit 2 false ∷ []) (of_a ∷ []) ∷
    say.Struck 8 ∷
    []

-- they are a legal journal, which shows {a} and then {b}, and after which the search is finished
abbrev pub ExampleIsLegal : Type 0
ExampleIsLegal =
    (journal : List (Event ℕ ℕ)) × Legal example_rules [] journal × SaysAll example_rules example_events journal
    × (State.shown (replay example_rules journal) ≡ (1 ∷ []) ∷ (0 ∷ []) ∷ [])
    × IsFinished (replay example_rules journal)

-- ---- an atom is closed

-- the instance of a :- not b, not c.
abbrev pub closing_instance : ℕ → Option (Instance ℕ)
closing_instance zero = Some (record { kind = Plain 0; pos = []; neg = 1 ∷ 2 ∷ [] })
closing_instance (suc n) = None

-- the rules of the search
abbrev pub closing_rules : Rules (Unit {0}) ℕ ℕ
closing_rules = numberless (letters closing_instance)

-- the patterns of b and of c
abbrev pub of_b : Pattern
of_b = record { pred = User false (98 ∷ []) 0; args = []; except = [] }

abbrev pub of_c : Pattern
of_c = record { pred = User false (99 ∷ []) 0; args = []; except = [] }

-- the events of a search
abbrev pub closing_events : List outside.Event
closing_events =
    -- the atoms, and the instance with its body; its nogoods are {F 3, F 1, F 2}, {T 3, T 1}, {T 3, T 2}, {F 0, T 3}
    say.Atom 0 (User false (97 ∷ []) 0) [] ∷
    say.Atom 1 (User false (98 ∷ []) 0) [] ∷
    say.Atom 2 (User false (99 ∷ []) 0) [] ∷
    say.Body 3 0 ∷
    say.Made 0 (maker.Rule 0 []) ∷
    -- the body is chosen false; the state is settled, and b is closed
    say.Chosen 3 false ∷
    say.Closed 1 ∷
    -- then c must be true, and is stuck. No rule gives it, so it is justified that it is false, which is struck
    say.Put 2 MustBe 0 ∷
    say.Learned 4 Justified (lit 2 true ∷ []) (of_c ∷ []) ∷
    say.Struck 4 ∷
    -- nogood 0 gave c, so b stands in a resolvent. No rule gives it either: that is its reason, with which it is resolved away
    say.Learned 5 Justified (lit 1 true ∷ []) (of_b ∷ []) ∷
    say.Learned 6 Analysed (lit 3 false ∷ []) [] ∷
    say.Back 0 ∷
    -- b and c are false, so the body is true, and a
    say.Put 2 False 4 ∷
    say.Put 1 False 5 ∷
    say.Put 3 True 0 ∷
    say.Put 0 True 3 ∷
    -- the set {a} is shown while no literal is chosen
    say.Shown (0 ∷ []) ∷
    []

-- they are a legal journal, which shows {a}, and after which the search is finished
abbrev pub ClosingIsLegal : Type 0
ClosingIsLegal =
    (journal : List (Event ℕ ℕ)) × Legal closing_rules [] journal × SaysAll closing_rules closing_events journal
    × (State.shown (replay closing_rules journal) ≡ (0 ∷ []) ∷ [])
    × IsFinished (replay closing_rules journal)

-- before b has its reason, analysis may learn neither the resolvent with the literal of b nor that without it
abbrev pub ClosedIsRefused : Type 0
ClosedIsRefused =
    (journal : List (Event ℕ ℕ)) × Legal closing_rules [] journal × (State.phase (replay closing_rules journal) ≡ MustLearn 4)
    × (¬ Allowed closing_rules [] (replay closing_rules journal) (Learn Analysed (lit 3 false ∷ lit 1 false ∷ [])))
    × (¬ Allowed closing_rules [] (replay closing_rules journal) (Learn Analysed (lit 3 false ∷ [])))

-- ---- an atom is called wide

-- the events of a search over the same rules, that looks for no cover of c
abbrev pub wide_events : List outside.Event
wide_events =
    say.Atom 0 (User false (97 ∷ []) 0) [] ∷
    say.Atom 1 (User false (98 ∷ []) 0) [] ∷
    say.Atom 2 (User false (99 ∷ []) 0) [] ∷
    say.Body 3 0 ∷
    say.Made 0 (maker.Rule 0 []) ∷
    say.Chosen 3 false ∷
    say.Closed 1 ∷
    say.Put 2 MustBe 0 ∷
    -- c is stuck and called wide: the literal chosen is learned and struck, and since it stands alone at its level it is kept
    say.Wide 2 256 ∷
    say.Learned 4 Decisions (lit 3 false ∷ []) [] ∷
    say.Struck 4 ∷
    say.Kept 4 ∷
    say.Back 0 ∷
    -- so the body must be true, then b and c are false, and the body is true by its instance
    say.Put 3 MustBe 4 ∷
    say.Put 1 False 1 ∷
    say.Put 2 False 2 ∷
    say.Put 3 True 0 ∷
    say.Put 0 True 3 ∷
    say.Shown (0 ∷ []) ∷
    []

-- the second atom after a is said to be wide
abbrev pub c_is_wide : State (Unit {0}) ℕ ℕ → ℕ → Type 0
c_is_wide s x = x ≡ 2

-- they are a legal journal where c is wide, which shows {a}, and after which the search is finished
abbrev pub WideIsLegal : Type 0
WideIsLegal =
    (journal : List (Event ℕ ℕ)) × Legal closing_rules [] journal × EachIsWide closing_rules c_is_wide journal × SaysAll closing_rules wide_events journal
    × (State.shown (replay closing_rules journal) ≡ (0 ∷ []) ∷ [])
    × IsFinished (replay closing_rules journal)
