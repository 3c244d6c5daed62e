-- The machine reads the words of a set as that set.
use Rattle.std.proofs.Common.{◌≡◌, refl, sym, ap, subst, ◌∙◌, ℕ, ℤ, Bool, true, false, List, [], ◌∷◌, ◌++◌, map, Some, append_assoc, append-nil}
use Rattle.lists.specs.Lists.{Each}
use Rattle.asp_meaning.specs.declared.value.Value.{Value}
use Rattle.asp_meaning.specs.declared.value.Value.TheOpen.{Value-F}
use Rattle.asp_meaning.specs.declared.value.Value.TheOpen as layer
use Rattle.asp_meaning.specs.declared.value.Value.TheVariants as value
use Rattle.asp_meaning.specs.declared.value.Value.TheViews.{roll-Value}
use Rattle.asp_meaning.specs.declared.value.Value.TheFolds.{fold-roll-Value, ind-Value, map-Value}
use Rattle.asp_meaning.specs.Terms.{functional}
use Rattle.asp_meaning.specs.Atoms.{Atom}
use Rattle.answer_printer.specs.declared.words.Word.{Word}
use Rattle.answer_printer.specs.declared.words.Word.TheVariants.{Id, Integer, Text, Minus, Comma, Open, Close, CloseBrace}
use Rattle.answer_printer.specs.declared.phase.Phase.{Phase}
use Rattle.answer_printer.specs.declared.phase.Phase.TheVariants.{First, Due, Signed, Named, Whole, End}
use Rattle.answer_printer.specs.Words.{words_after, words_joined, call_words, value_words_step, value_words, sign_words, atom_words, set_words}
use Rattle.answer_printer.specs.Machine.{Call, State, start, with_value, ended, step, on_state, run}

-- ---- the words of a value, by its outermost symbol

pub words-Int : (z : ℤ) → value_words (value.Int z) ≡ Integer z ∷ []
words-Int z = ap value_words (sym (value.rolls-Int z)) ∙ fold-roll-Value (List Word) value_words_step (layer.Int z)

pub words-Symbol : (x : List ℕ) → value_words (value.Symbol x) ≡ Id x ∷ []
words-Symbol x = ap value_words (sym (value.rolls-Symbol x)) ∙ fold-roll-Value (List Word) value_words_step (layer.Symbol x)

pub words-Text : (x : List ℕ) → value_words (value.Text x) ≡ Text x ∷ []
words-Text x = ap value_words (sym (value.rolls-Text x)) ∙ fold-roll-Value (List Word) value_words_step (layer.Text x)

pub words-functional : (f : List ℕ) (args : List Value) → value_words (functional f args) ≡ call_words f (map value_words args)
words-functional f [] = words-Symbol f
words-functional f (x ∷ xs) = ap value_words (sym (value.rolls-Fun f x xs)) ∙ fold-roll-Value (List Word) value_words_step (layer.Fun f x xs)

-- ---- states

abbrev pub st : List Atom → Bool → List Call → Phase → State
st atoms negated calls phase = record { atoms = atoms; negated = negated; calls = calls; phase = phase }

abbrev pub call : List ℕ → List Value → Call
call f args = record { name = f; args = args }

-- a word before which a name without arguments ends
abbrev Settles : Word → Type 0
Settles m = (x : List ℕ) (atoms : List Atom) (negated : Bool) (calls : List Call)
    → step m (st atoms negated calls (Named x)) ≡ step m (ended x [] calls (st atoms negated calls (Named x)))

comma_settles : Settles Comma
comma_settles x atoms negated [] = refl
comma_settles x atoms negated (c ∷ cs) = refl

close_settles : Settles Close
close_settles x atoms negated [] = refl
close_settles x atoms negated (c ∷ cs) = refl

close_brace_settles : Settles CloseBrace
close_brace_settles x atoms negated [] = refl
close_brace_settles x atoms negated (c ∷ cs) = refl

-- ---- values

-- the words of the value are read as one more argument, where a word comes before which a name ends
abbrev Reads : Value → Type 0
Reads v = (m : Word) → Settles m → (ws : List Word) (atoms : List Atom) (negated : Bool) (c : Call) (cs : List Call)
    → run (value_words v ++ m ∷ ws) (st atoms negated (c ∷ cs) Due) ≡ run (m ∷ ws) (with_value v (c ∷ cs) (st atoms negated (c ∷ cs) Due))

-- arguments are read up to the parenthesis
args_read : (v : Value) (vs : List Value) → Reads v → Each Reads vs → (f : List ℕ) (done : List Value) (ws : List Word) (atoms : List Atom) (negated : Bool) (cs : List Call)
    → run (words_joined (map value_words (v ∷ vs)) ++ Close ∷ ws) (st atoms negated (call f done ∷ cs) Due) ≡ run (Close ∷ ws) (st atoms negated (call f (done ++ v ∷ vs) ∷ cs) Whole)
args_read v [] h each f done ws atoms negated cs =
    ap (λ w. run (w ++ Close ∷ ws) (st atoms negated (call f done ∷ cs) Due)) (append-nil (value_words v)) ∙ h Close close_settles ws atoms negated (call f done) cs
args_read v (u ∷ us) h each f done ws atoms negated cs =
    ap (λ w. run w (st atoms negated (call f done ∷ cs) Due)) (append_assoc (value_words v) (words_after (map value_words (u ∷ us))) (Close ∷ ws))
    ∙ h Comma comma_settles (words_joined (map value_words (u ∷ us)) ++ Close ∷ ws) atoms negated (call f done) cs
    ∙ args_read u us each.0 each.1 f (done ++ v ∷ []) ws atoms negated cs
    ∙ ap (λ all. run (Close ∷ ws) (st atoms negated (call f all ∷ cs) Whole)) (append_assoc done (v ∷ []) (u ∷ us))

reads_Fun : (f : List ℕ) (v : Value) (vs : List Value) → Reads v → Each Reads vs → Reads (value.Fun f v vs)
reads_Fun f v vs h each m settles ws atoms negated c cs =
    ap (λ w. run (w ++ m ∷ ws) (st atoms negated (c ∷ cs) Due)) (words-functional f (v ∷ vs))
    ∙ ap (λ w. run w (st atoms negated (call f [] ∷ c ∷ cs) Due)) (append_assoc (words_joined (map value_words (v ∷ vs))) (Close ∷ []) (m ∷ ws))
    ∙ args_read v vs h each f [] (m ∷ ws) atoms negated (c ∷ cs)

abbrev Reading : Type 0
Reading = (v : Value) × Reads v

each_reads : (es : List Reading) → Each Reads (map (λ e. e.0) es)
each_reads [] = tt
each_reads (e ∷ es) = (e.1, each_reads es)

layer_reads : (y : Value-F Reading) → Reads (roll-Value (map-Value Reading Value (λ e. e.0) y))
layer_reads (layer.Int z) = subst Reads (sym (value.rolls-Int z)) (λ m settles ws atoms negated c cs.
    ap (λ w. run (w ++ m ∷ ws) (st atoms negated (c ∷ cs) Due)) (words-Int z))
layer_reads (layer.Symbol x) = subst Reads (sym (value.rolls-Symbol x)) (λ m settles ws atoms negated c cs.
    ap (λ w. run (w ++ m ∷ ws) (st atoms negated (c ∷ cs) Due)) (words-Symbol x) ∙ ap (on_state (run ws)) (settles x atoms negated (c ∷ cs)))
layer_reads (layer.Text x) = subst Reads (sym (value.rolls-Text x)) (λ m settles ws atoms negated c cs.
    ap (λ w. run (w ++ m ∷ ws) (st atoms negated (c ∷ cs) Due)) (words-Text x))
layer_reads (layer.Fun f e es) = subst Reads (sym (value.rolls-Fun f e.0 (map (λ p. p.0) es))) (reads_Fun f e.0 (map (λ p. p.0) es) e.1 (each_reads es))

value_reads : (v : Value) → Reads v
value_reads = ind-Value Reads (λ x y is. subst (λ z. Reads (roll-Value z)) is (layer_reads y))

values_read : (vs : List Value) → Each Reads vs
values_read [] = tt
values_read (v ∷ vs) = (value_reads v, values_read vs)

-- ---- atoms

-- the name of an atom and its arguments
call_reads : (f : List ℕ) (args : List Value) (m : Word) → Settles m → (ws : List Word) (atoms : List Atom) (negated : Bool) (phase : Phase)
    → step (Id f) (st atoms negated [] phase) ≡ Some (st atoms negated [] (Named f))
    → run (call_words f (map value_words args) ++ m ∷ ws) (st atoms negated [] phase)
    ≡ run (m ∷ ws) (st (atoms ++ record { negated = negated; name = f; args = args } ∷ []) false [] Whole)
call_reads f [] m settles ws atoms negated phase named = ap (on_state (run (m ∷ ws))) named ∙ ap (on_state (run ws)) (settles f atoms negated [])
call_reads f (v ∷ vs) m settles ws atoms negated phase named =
    ap (on_state (run (Open ∷ ((words_joined (map value_words (v ∷ vs)) ++ Close ∷ []) ++ m ∷ ws)))) named
    ∙ ap (λ w. run w (st atoms negated (call f [] ∷ []) Due)) (append_assoc (words_joined (map value_words (v ∷ vs))) (Close ∷ []) (m ∷ ws))
    ∙ args_read v vs (value_reads v) (values_read vs) f [] (m ∷ ws) atoms negated []

-- a phase in which an atom may begin
abbrev Begins : Phase → Type 0
Begins p = (atoms : List Atom) →
    ((f : List ℕ) → step (Id f) (st atoms false [] p) ≡ Some (st atoms false [] (Named f))) × (step Minus (st atoms false [] p) ≡ Some (st atoms true [] Signed))

first_begins : Begins First
first_begins atoms = (λ f. refl, refl)

due_begins : Begins Due
due_begins atoms = (λ f. refl, refl)

atom_reads : (a : Atom) (p : Phase) → Begins p → (m : Word) → Settles m → (ws : List Word) (atoms : List Atom)
    → run (atom_words a ++ m ∷ ws) (st atoms false [] p) ≡ run (m ∷ ws) (st (atoms ++ a ∷ []) false [] Whole)
atom_reads a p begins m settles ws atoms = by_sign a.negated
  where
    by_sign : (negated : Bool) → run ((sign_words negated ++ call_words a.name (map value_words a.args)) ++ m ∷ ws) (st atoms false [] p)
        ≡ run (m ∷ ws) (st (atoms ++ record { negated = negated; name = a.name; args = a.args } ∷ []) false [] Whole)
    by_sign false = call_reads a.name a.args m settles ws atoms false p ((begins atoms).0 a.name)
    by_sign true =
        ap (on_state (run (call_words a.name (map value_words a.args) ++ m ∷ ws))) (begins atoms).1
        ∙ call_reads a.name a.args m settles ws atoms true Signed refl

-- atoms are read up to the brace
atoms_read : (a : Atom) (more : List Atom) (p : Phase) → Begins p → (atoms : List Atom)
    → run (words_joined (map atom_words (a ∷ more)) ++ CloseBrace ∷ []) (st atoms false [] p) ≡ Some (st (atoms ++ a ∷ more) false [] End)
atoms_read a [] p begins atoms =
    ap (λ w. run (w ++ CloseBrace ∷ []) (st atoms false [] p)) (append-nil (atom_words a)) ∙ atom_reads a p begins CloseBrace close_brace_settles [] atoms
atoms_read a (b ∷ more) p begins atoms =
    ap (λ w. run w (st atoms false [] p)) (append_assoc (atom_words a) (words_after (map atom_words (b ∷ more))) (CloseBrace ∷ []))
    ∙ atom_reads a p begins Comma comma_settles (words_joined (map atom_words (b ∷ more)) ++ CloseBrace ∷ []) atoms
    ∙ atoms_read b more Due due_begins (atoms ++ a ∷ [])
    ∙ ap (λ all. Some (st all false [] End)) (append_assoc atoms (a ∷ []) (b ∷ more))

-- the words of a set are read as this set
pub set_reads : (atoms : List Atom) → run (set_words atoms) start ≡ Some (st atoms false [] End)
set_reads [] = refl
set_reads (a ∷ more) = atoms_read a more First first_begins []
