-- What the machine has read are the words of what it has.
use Rattle.std.proofs.Common.{◌≡◌, ◌≢◌, refl, sym, ap, subst, ◌∙◌, ℕ, false, List, [], ◌∷◌, ◌++◌, map, Option, Some, None, append_assoc, append-nil}
use Rattle.std.proofs.lemmas.List.{map-append}
use Rattle.std.proofs.lemmas.Option.{same_Some, none-some}
use Rattle.asp_meaning.specs.declared.value.Value.{Value}
use Rattle.asp_meaning.specs.declared.value.Value.TheVariants as value
use Rattle.asp_meaning.specs.Terms.{functional}
use Rattle.asp_meaning.specs.Atoms.{Atom}
use Rattle.answer_printer.specs.declared.words.Word.{Word}
use Rattle.answer_printer.specs.declared.words.Word.TheVariants.{Id, Integer, Text, Minus, Comma, Open, Close, OpenBrace, CloseBrace}
use Rattle.answer_printer.specs.declared.phase.Phase.{Phase}
use Rattle.answer_printer.specs.declared.phase.Phase.TheVariants.{Start, First, Due, Signed, Named, Whole, End}
use Rattle.answer_printer.specs.Words.{words_after, words_joined, call_words, value_words, sign_words, atom_words, set_words}
use Rattle.answer_printer.specs.Machine.{Call, State, start, with_value, ended, settled, settled_in, on_name, on_value, on_minus, on_comma, on_open, on_close, on_open_brace, on_close_brace, step, on_state, run}
use Rattle.answer_printer.proofs.MachineLemmas.{words-Int, words-Text, words-functional}

-- ---- words before a rest

-- parts, each with a comma behind it
abbrev followed : List (List Word) → List Word → List Word
followed [] rest = rest
followed (x ∷ xs) rest = x ++ Comma ∷ followed xs rest

abbrev front : List Atom → List Word → List Word
front atoms rest = OpenBrace ∷ followed (map atom_words atoms) rest

-- the calls that are open, with the arguments that have ended and their commas
abbrev opened : List Call → List Word → List Word
opened [] rest = rest
opened (c ∷ cs) rest = opened cs (Id c.name ∷ Open ∷ followed (map value_words c.args) rest)

-- up to where a part is due
abbrev due : State → List Word → List Word
due s rest = front s.atoms (sign_words s.negated ++ opened s.calls rest)

-- a comma behind the parts
joined-comma : (x : List Word) (xs : List (List Word)) (rest : List Word) → words_joined (x ∷ xs) ++ Comma ∷ rest ≡ followed (x ∷ xs) rest
joined-comma x [] rest = ap (λ w. w ++ Comma ∷ rest) (append-nil x)
joined-comma x (y ∷ ys) rest = append_assoc x (words_after (y ∷ ys)) (Comma ∷ rest) ∙ ap (λ w. x ++ Comma ∷ w) (joined-comma y ys rest)

-- one more part
joined-last : (xs : List (List Word)) (x rest : List Word) → words_joined (xs ++ x ∷ []) ++ rest ≡ followed xs (x ++ rest)
joined-last [] x rest = ap (λ w. w ++ rest) (append-nil x)
joined-last (y ∷ []) x rest = append_assoc y (Comma ∷ (x ++ [])) rest ∙ ap (λ w. y ++ Comma ∷ (w ++ rest)) (append-nil x)
joined-last (y ∷ z ∷ zs) x rest = append_assoc y (words_after ((z ∷ zs) ++ x ∷ [])) rest ∙ ap (λ w. y ++ Comma ∷ w) (joined-last (z ∷ zs) x rest)

-- ---- what has been read in each phase

-- the words that end with a whole atom or argument
abbrev wholes : State → List Call → List Word → List Word
wholes s [] rest = OpenBrace ∷ (words_joined (map atom_words s.atoms) ++ rest)
wholes s (c ∷ cs) rest = front s.atoms (sign_words s.negated ++ opened cs (Id c.name ∷ Open ∷ (words_joined (map value_words c.args) ++ rest)))

-- there is something that has ended
abbrev HasWhole : State → List Call → Type 0
HasWhole s [] = (s.atoms ≢ []) × (s.negated ≡ false)
HasWhole s (c ∷ cs) = c.args ≢ []

-- outside of calls there is no sign
abbrev Unsigned : State → List Call → Type 0
Unsigned s [] = s.negated ≡ false
Unsigned s (c ∷ cs) = Unit {0}

abbrev TakenIn : Phase → State → List Word → Type 0
TakenIn Start s ws = (ws ≡ []) × (s.atoms ≡ []) × (s.calls ≡ []) × (s.negated ≡ false)
TakenIn First s ws = (ws ≡ OpenBrace ∷ []) × (s.atoms ≡ []) × (s.calls ≡ []) × (s.negated ≡ false)
TakenIn Due s ws = ((rest : List Word) → ws ++ rest ≡ due s rest) × Unsigned s s.calls
TakenIn Signed s ws = ((rest : List Word) → ws ++ rest ≡ due s rest)
TakenIn (Named x) s ws = ((rest : List Word) → ws ++ rest ≡ due s (Id x ∷ rest))
TakenIn Whole s ws = ((rest : List Word) → ws ++ rest ≡ wholes s s.calls rest) × HasWhole s s.calls
TakenIn End s ws = ws ≡ set_words s.atoms

-- the words lead to the state
abbrev Taken : State → List Word → Type 0
Taken s ws = TakenIn s.phase s ws

-- ---- parts that end

not_nil : {A : Type 0} (xs : List A) (x : A) → xs ++ x ∷ [] ≢ []
not_nil [] x e = cc
not_nil (y ∷ ys) x e = cc

-- an argument ends
value_ended : (s : State) (c : Call) (cs : List Call) (v : Value) (ws : List Word)
    → ((rest : List Word) → ws ++ rest ≡ front s.atoms (sign_words s.negated ++ opened (c ∷ cs) (value_words v ++ rest)))
    → Taken (with_value v (c ∷ cs) s) ws
value_ended s c cs v ws h = (
  λ rest. h rest ∙ ap (λ w. front s.atoms (sign_words s.negated ++ opened cs (Id c.name ∷ Open ∷ w)))
      (sym (ap (λ xs. words_joined xs ++ rest) (map-append value_words c.args (v ∷ [])) ∙ joined-last (map value_words c.args) (value_words v) rest)),
  not_nil c.args v,
)

-- a name ends, with its arguments
name_ended : (s : State) (f : List ℕ) (args : List Value) (cs : List Call) (ws : List Word)
    → ((rest : List Word) → ws ++ rest ≡ front s.atoms (sign_words s.negated ++ opened cs (call_words f (map value_words args) ++ rest)))
    → Taken (ended f args cs s) ws
name_ended s f args (c ∷ cs) ws h =
    value_ended s c cs (functional f args) ws (λ rest. h rest ∙ ap (λ w. front s.atoms (sign_words s.negated ++ opened (c ∷ cs) (w ++ rest))) (sym (words-functional f args)))
name_ended s f args [] ws h = (
  λ rest. h rest
      ∙ ap (front s.atoms) (sym (append_assoc (sign_words s.negated) (call_words f (map value_words args)) rest))
      ∙ ap (λ w. OpenBrace ∷ w) (sym (ap (λ xs. words_joined xs ++ rest) (map-append atom_words s.atoms (a ∷ [])) ∙ joined-last (map atom_words s.atoms) (atom_words a) rest)),
  (not_nil s.atoms a, refl),
)
  where
    a : Atom
    a = record { negated = s.negated; name = f; args = args }

-- a name ends where no parenthesis comes
settles_in : (p : Phase) (s : State) (ws : List Word) → s.phase ≡ p → TakenIn p s ws → Taken (settled_in p s) ws
settles_in Start s ws e h = subst (λ q. TakenIn q s ws) (sym e) h
settles_in First s ws e h = subst (λ q. TakenIn q s ws) (sym e) h
settles_in Due s ws e h = subst (λ q. TakenIn q s ws) (sym e) h
settles_in Signed s ws e h = subst (λ q. TakenIn q s ws) (sym e) h
settles_in (Named x) s ws e h = name_ended s x [] s.calls ws h
settles_in Whole s ws e h = subst (λ q. TakenIn q s ws) (sym e) h
settles_in End s ws e h = subst (λ q. TakenIn q s ws) (sym e) h

settles : (s : State) (ws : List Word) → Taken s ws → Taken (settled s) ws
settles s ws h = settles_in s.phase s ws refl h

-- ---- one word more

abbrev Goes : State → List Word → Word → Option State → Type 0
Goes s ws w None = Unit {0}
Goes s ws w (Some t) = Taken t (ws ++ w ∷ [])

-- words, one more and a rest
one_more : (ws : List Word) (w : Word) (rest : List Word) → (ws ++ w ∷ []) ++ rest ≡ ws ++ w ∷ rest
one_more ws w rest = append_assoc ws (w ∷ []) rest

-- the brace alone
begun : (s : State) (ws : List Word) → (ws ≡ OpenBrace ∷ []) × (s.atoms ≡ []) × (s.calls ≡ []) × (s.negated ≡ false) → (rest : List Word) → ws ++ rest ≡ due s rest
begun s ws h rest = ap (λ w. w ++ rest) h.0 ∙ (λ i. front (sym h.1 i) (sign_words (sym h.3 i) ++ opened (sym h.2 i) rest))

on_name_goes : (p : Phase) (x : List ℕ) (s : State) (ws : List Word) → TakenIn p s ws → Goes s ws (Id x) (on_name x p s)
on_name_goes Start x s ws h = tt
on_name_goes First x s ws h = λ rest. one_more ws (Id x) rest ∙ begun s ws h (Id x ∷ rest)
on_name_goes Due x s ws h = λ rest. one_more ws (Id x) rest ∙ h.0 (Id x ∷ rest)
on_name_goes Signed x s ws h = λ rest. one_more ws (Id x) rest ∙ h (Id x ∷ rest)
on_name_goes (Named y) x s ws h = tt
on_name_goes Whole x s ws h = tt
on_name_goes End x s ws h = tt

on_value_goes : (p : Phase) (calls : List Call) (w : Word) (v : Value) (s : State) (ws : List Word) → value_words v ≡ w ∷ [] → s.calls ≡ calls → TakenIn p s ws → Goes s ws w (on_value v p calls s)
on_value_goes Start calls w v s ws e c h = tt
on_value_goes First calls w v s ws e c h = tt
on_value_goes Due [] w v s ws e c h = tt
on_value_goes Due (d ∷ ds) w v s ws e c h =
    value_ended s d ds v (ws ++ w ∷ []) (λ rest. one_more ws w rest ∙ h.0 (w ∷ rest) ∙ (λ i. front s.atoms (sign_words s.negated ++ opened (c i) (sym e i ++ rest))))
on_value_goes Signed calls w v s ws e c h = tt
on_value_goes (Named y) calls w v s ws e c h = tt
on_value_goes Whole calls w v s ws e c h = tt
on_value_goes End calls w v s ws e c h = tt

-- a sign before an atom
signed_goes : (s : State) (ws : List Word) → s.calls ≡ [] → s.negated ≡ false → ((rest : List Word) → ws ++ rest ≡ due s rest)
    → (rest : List Word) → (ws ++ Minus ∷ []) ++ rest ≡ front s.atoms (Minus ∷ rest)
signed_goes s ws c n h rest = one_more ws Minus rest ∙ h (Minus ∷ rest) ∙ (λ i. front s.atoms (sign_words (n i) ++ opened (c i) (Minus ∷ rest)))

on_minus_goes : (p : Phase) (calls : List Call) (s : State) (ws : List Word) → s.calls ≡ calls → TakenIn p s ws → Goes s ws Minus (on_minus p calls s)
on_minus_goes Start calls s ws c h = tt
on_minus_goes First [] s ws c h = signed_goes s ws c h.3 (begun s ws h)
on_minus_goes First (d ∷ ds) s ws c h = tt
on_minus_goes Due [] s ws c h = signed_goes s ws c (subst (Unsigned s) c h.1) h.0
on_minus_goes Due (d ∷ ds) s ws c h = tt
on_minus_goes Signed calls s ws c h = tt
on_minus_goes (Named y) calls s ws c h = tt
on_minus_goes Whole calls s ws c h = tt
on_minus_goes End calls s ws c h = tt

-- a comma behind something that has ended
comma_goes : (calls : List Call) (s : State) (ws : List Word) → s.calls ≡ calls → ((rest : List Word) → ws ++ rest ≡ wholes s calls rest) → HasWhole s calls
    → ((rest : List Word) → (ws ++ Comma ∷ []) ++ rest ≡ due s rest) × Unsigned s calls
comma_goes [] s ws c h has = (
  λ rest. one_more ws Comma rest ∙ h (Comma ∷ rest) ∙ ap (λ w. OpenBrace ∷ w) (behind rest s.atoms has.0)
      ∙ (λ i. front s.atoms (sign_words (sym has.1 i) ++ opened (sym c i) rest)),
  has.1,
)
  where
    behind : (rest : List Word) → (atoms : List Atom) → atoms ≢ [] → words_joined (map atom_words atoms) ++ Comma ∷ rest ≡ followed (map atom_words atoms) rest
    behind rest [] some = absurd (some refl)
    behind rest (a ∷ more) some = joined-comma (atom_words a) (map atom_words more) rest
comma_goes (d ∷ ds) s ws c h has = (
  λ rest. one_more ws Comma rest ∙ h (Comma ∷ rest)
      ∙ ap (λ w. front s.atoms (sign_words s.negated ++ opened ds (Id d.name ∷ Open ∷ w))) (behind rest d.args has)
      ∙ (λ i. front s.atoms (sign_words s.negated ++ opened (sym c i) rest)),
  tt,
)
  where
    behind : (rest : List Word) → (args : List Value) → args ≢ [] → words_joined (map value_words args) ++ Comma ∷ rest ≡ followed (map value_words args) rest
    behind rest [] some = absurd (some refl)
    behind rest (a ∷ more) some = joined-comma (value_words a) (map value_words more) rest

on_comma_goes : (p : Phase) (s : State) (ws : List Word) → TakenIn p s ws → Goes s ws Comma (on_comma p s)
on_comma_goes Start s ws h = tt
on_comma_goes First s ws h = tt
on_comma_goes Due s ws h = tt
on_comma_goes Signed s ws h = tt
on_comma_goes (Named y) s ws h = tt
on_comma_goes Whole s ws h = comma_goes s.calls s ws refl h.0 h.1
on_comma_goes End s ws h = tt

on_open_goes : (p : Phase) (s : State) (ws : List Word) → TakenIn p s ws → Goes s ws Open (on_open p s)
on_open_goes Start s ws h = tt
on_open_goes First s ws h = tt
on_open_goes Due s ws h = tt
on_open_goes Signed s ws h = tt
on_open_goes (Named y) s ws h = (λ rest. one_more ws Open rest ∙ h (Open ∷ rest), tt)
on_open_goes Whole s ws h = tt
on_open_goes End s ws h = tt

on_close_goes : (p : Phase) (calls : List Call) (s : State) (ws : List Word) → s.calls ≡ calls → TakenIn p s ws → Goes s ws Close (on_close p calls s)
on_close_goes Start calls s ws c h = tt
on_close_goes First calls s ws c h = tt
on_close_goes Due calls s ws c h = tt
on_close_goes Signed calls s ws c h = tt
on_close_goes (Named y) calls s ws c h = tt
on_close_goes Whole [] s ws c h = tt
on_close_goes Whole (d ∷ ds) s ws c h =
    name_ended s d.name d.args ds (ws ++ Close ∷ [])
    (λ rest. one_more ws Close rest ∙ h.0 (Close ∷ rest) ∙ ap (λ cs. wholes s cs (Close ∷ rest)) c ∙ ap (λ w. front s.atoms (sign_words s.negated ++ opened ds w)) (called rest d.args (subst (HasWhole s) c h.1)))
  where
    called : (rest : List Word) → (args : List Value) → args ≢ []
        → Id d.name ∷ Open ∷ (words_joined (map value_words args) ++ Close ∷ rest) ≡ call_words d.name (map value_words args) ++ rest
    called rest [] some = absurd (some refl)
    called rest (a ∷ more) some = ap (λ w. Id d.name ∷ Open ∷ w) (sym (append_assoc (words_joined (map value_words (a ∷ more))) (Close ∷ []) rest))
on_close_goes End calls s ws c h = tt

on_open_brace_goes : (p : Phase) (s : State) (ws : List Word) → TakenIn p s ws → Goes s ws OpenBrace (on_open_brace p s)
on_open_brace_goes Start s ws h = (ap (λ w. w ++ OpenBrace ∷ []) h.0, h.1, h.2, h.3)
on_open_brace_goes First s ws h = tt
on_open_brace_goes Due s ws h = tt
on_open_brace_goes Signed s ws h = tt
on_open_brace_goes (Named y) s ws h = tt
on_open_brace_goes Whole s ws h = tt
on_open_brace_goes End s ws h = tt

on_close_brace_goes : (p : Phase) (calls : List Call) (s : State) (ws : List Word) → s.calls ≡ calls → TakenIn p s ws → Goes s ws CloseBrace (on_close_brace p calls s)
on_close_brace_goes Start calls s ws c h = tt
on_close_brace_goes First [] s ws c h = ap (λ w. w ++ CloseBrace ∷ []) h.0 ∙ ap set_words (sym h.1)
on_close_brace_goes First (d ∷ ds) s ws c h = tt
on_close_brace_goes Due calls s ws c h = tt
on_close_brace_goes Signed calls s ws c h = tt
on_close_brace_goes (Named y) calls s ws c h = tt
on_close_brace_goes Whole [] s ws c h = h.0 (CloseBrace ∷ []) ∙ ap (λ cs. wholes s cs (CloseBrace ∷ [])) c
on_close_brace_goes Whole (d ∷ ds) s ws c h = tt
on_close_brace_goes End calls s ws c h = tt

goes : (w : Word) (s : State) (ws : List Word) → Taken s ws → Goes s ws w (step w s)
goes (Id x) s ws h = on_name_goes s.phase x s ws h
goes (Integer z) s ws h = on_value_goes s.phase s.calls (Integer z) (value.Int z) s ws (words-Int z) refl h
goes (Text x) s ws h = on_value_goes s.phase s.calls (Text x) (value.Text x) s ws (words-Text x) refl h
goes Minus s ws h = on_minus_goes s.phase s.calls s ws refl h
goes Comma s ws h = on_comma_goes (settled s).phase (settled s) ws (settles s ws h)
goes Open s ws h = on_open_goes s.phase s ws h
goes Close s ws h = on_close_goes (settled s).phase (settled s).calls (settled s) ws refl (settles s ws h)
goes OpenBrace s ws h = on_open_brace_goes s.phase s ws h
goes CloseBrace s ws h = on_close_brace_goes (settled s).phase (settled s).calls (settled s) ws refl (settles s ws h)

-- words after words
taken_on : (ws : List Word) (s t : State) (before : List Word) → Taken s before → run ws s ≡ Some t → Taken t (before ++ ws)
taken_on [] s t before h e = subst (λ w. Taken t w) (sym (append-nil before)) (subst (λ u. Taken u before) (same_Some s t e) h)
taken_on (w ∷ ws) s t before h e = by_step (λ u g f. taken_on ws u t (before ++ w ∷ []) g f) (step w s) (goes w s before h) e
  where
    by_step : ((u : State) → Taken u (before ++ w ∷ []) → run ws u ≡ Some t → Taken t ((before ++ w ∷ []) ++ ws)) → (o : Option State) → Goes s before w o → on_state (run ws) o ≡ Some t → Taken t (before ++ w ∷ ws)
    by_step on None g f = absurd (none-some t f)
    by_step on (Some u) g f = subst (Taken t) (append_assoc before (w ∷ []) ws) (on u g f)

-- what is read as a set are its words
pub set_taken : (ws : List Word) (t : State) → run ws start ≡ Some t → t.phase ≡ End → ws ≡ set_words t.atoms
set_taken ws t e ends = subst (λ p. TakenIn p t ws) ends (taken_on ws start t [] (refl, refl, refl, refl) e)
