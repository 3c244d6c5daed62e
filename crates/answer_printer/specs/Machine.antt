-- The machine that reads a set, word by word.
use Rattle.std.specs.Prelude.{ℕ, Bool, true, false, List, [], ◌∷◌, ◌++◌, Option, Some, None}
use Rattle.asp_meaning.specs.declared.value.Value.{Value}
use Rattle.asp_meaning.specs.declared.value.Value.TheVariants as value
use Rattle.asp_meaning.specs.Terms.{functional}
use Rattle.asp_meaning.specs.Atoms.{Atom}
use Rattle.answer_printer.specs.declared.words.Word.{Word}
use Rattle.answer_printer.specs.declared.words.Word.TheVariants.{Id, Integer, Text, Minus, Comma, Open, Close, OpenBrace, CloseBrace}
use Rattle.answer_printer.specs.declared.phase.Phase.{Phase}
use Rattle.answer_printer.specs.declared.phase.Phase.TheVariants.{Start, First, Due, Signed, Named, Whole, End}

-- an atom or a functional term whose arguments are being read, with those that have ended
pub record Call : Type 0 where
  pub name : List ℕ
  pub args : List Value

-- the atoms that have ended, the sign of the one that is being read, the calls that are open in it, the innermost first, and what
-- stands last
pub record State : Type 0 where
  pub atoms : List Atom
  pub negated : Bool
  pub calls : List Call
  pub phase : Phase

-- nothing has been read
abbrev pub start : State
start = record { atoms = []; negated = false; calls = []; phase = Start }

abbrev pub at_phase : State → Phase → State
at_phase s p = record { atoms = s.atoms; negated = s.negated; calls = s.calls; phase = p }

-- one more argument of the innermost call
abbrev pub with_argument : Value → List Call → List Call
with_argument v [] = []
with_argument v (c ∷ cs) = record { name = c.name; args = c.args ++ v ∷ [] } ∷ cs

-- an argument has ended
abbrev pub with_value : Value → List Call → State → State
with_value v calls s = record { atoms = s.atoms; negated = s.negated; calls = with_argument v calls; phase = Whole }

-- a name with these arguments has ended: outside of all calls it is an atom, and else an argument
abbrev pub ended : List ℕ → List Value → List Call → State → State
ended f args [] s = record { atoms = s.atoms ++ record { negated = s.negated; name = f; args = args } ∷ []; negated = false; calls = []; phase = Whole }
ended f args (c ∷ cs) s = with_value (functional f args) (c ∷ cs) s

-- a name without arguments ends where no `(` comes
abbrev pub settled_in : Phase → State → State
settled_in (Named x) s = ended x [] s.calls s
settled_in _ s = s

abbrev pub settled : State → State
settled s = settled_in s.phase s

-- where a name may come
abbrev pub takes_name : Phase → Bool
takes_name First = true
takes_name Due = true
takes_name Signed = true
takes_name _ = false

-- where an atom may come
abbrev pub takes_atom : Phase → Bool
takes_atom First = true
takes_atom Due = true
takes_atom _ = false

-- where a set may end
abbrev pub takes_end : Phase → Bool
takes_end First = true
takes_end Whole = true
takes_end _ = false

abbrev pub is_start : Phase → Bool
is_start Start = true
is_start _ = false

abbrev pub is_due : Phase → Bool
is_due Due = true
is_due _ = false

abbrev pub is_whole : Phase → Bool
is_whole Whole = true
is_whole _ = false

abbrev pub is_end : Phase → Bool
is_end End = true
is_end _ = false

abbrev pub on_name : List ℕ → Phase → State → Option State
on_name x First s = Some (at_phase s (Named x))
on_name x Due s = Some (at_phase s (Named x))
on_name x Signed s = Some (at_phase s (Named x))
on_name x _ s = None

abbrev pub on_value : Value → Phase → List Call → State → Option State
on_value v Due (c ∷ cs) s = Some (with_value v (c ∷ cs) s)
on_value v _ _ s = None

abbrev pub signed : State → State
signed s = record { atoms = s.atoms; negated = true; calls = []; phase = Signed }

abbrev pub on_minus : Phase → List Call → State → Option State
on_minus First [] s = Some (signed s)
on_minus Due [] s = Some (signed s)
on_minus _ _ s = None

abbrev pub on_comma : Phase → State → Option State
on_comma Whole s = Some (at_phase s Due)
on_comma _ s = None

abbrev pub on_open : Phase → State → Option State
on_open (Named x) s = Some (record { atoms = s.atoms; negated = s.negated; calls = record { name = x; args = [] } ∷ s.calls; phase = Due })
on_open _ s = None

abbrev pub on_close : Phase → List Call → State → Option State
on_close Whole (c ∷ cs) s = Some (ended c.name c.args cs s)
on_close _ _ s = None

abbrev pub on_open_brace : Phase → State → Option State
on_open_brace Start s = Some (at_phase s First)
on_open_brace _ s = None

abbrev pub on_close_brace : Phase → List Call → State → Option State
on_close_brace First [] s = Some (at_phase s End)
on_close_brace Whole [] s = Some (at_phase s End)
on_close_brace _ _ s = None

-- the state after a word, where it may come
abbrev pub step : Word → State → Option State
step (Id x) s = on_name x s.phase s
step (Integer z) s = on_value (value.Int z) s.phase s.calls s
step (Text x) s = on_value (value.Text x) s.phase s.calls s
step Minus s = on_minus s.phase s.calls s
step Comma s = on_comma (settled s).phase (settled s)
step Open s = on_open s.phase s
step Close s = on_close (settled s).phase (settled s).calls (settled s)
step OpenBrace s = on_open_brace s.phase s
step CloseBrace s = on_close_brace (settled s).phase (settled s).calls (settled s)

-- on with the state that there is
abbrev pub on_state : (State → Option State) → Option State → Option State
on_state f None = None
on_state f (Some s) = f s

-- the state after words, where they may come
abbrev pub run : List Word → State → Option State
run [] s = Some s
run (w ∷ ws) s = on_state (run ws) (step w s)
