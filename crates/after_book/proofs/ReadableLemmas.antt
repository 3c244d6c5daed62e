-- An atom that can stand in a set text is readable.
use Rattle.std.proofs.Common.{◌≡◌, sym, ap, subst, ◌∙◌, ℕ, List, [], ◌∷◌, ◌++◌, map}
use Rattle.lists.specs.Lists.{Each, concat}
use Rattle.lists.proofs.ListLemmas.{Each-append}
use Rattle.asp_syntax.specs.WellFormed.{IsId}
use Rattle.asp_syntax.specs.Trees.{Part, name, text, IsAllowed}
use Rattle.asp_meaning.specs.declared.value.Value.{Value}
use Rattle.asp_meaning.specs.declared.value.Value.TheOpen.{Value-F}
use Rattle.asp_meaning.specs.declared.value.Value.TheOpen as layer
use Rattle.asp_meaning.specs.declared.value.Value.TheVariants as value
use Rattle.asp_meaning.specs.declared.value.Value.TheViews.{roll-Value}
use Rattle.asp_meaning.specs.declared.value.Value.TheFolds.{fold-roll-Value, ind-Value, map-Value}
use Rattle.asp_meaning.specs.Atoms.{Atom}
use Rattle.asp_meaning.specs.Readable.{value_parts_step, value_parts, IsReadableValue, IsReadable}
use Rattle.answer_printer.specs.declared.words.Word.{Word}
use Rattle.answer_printer.specs.declared.words.Word.TheVariants.{Close, CloseBrace}
use Rattle.answer_printer.specs.Words.{Fits, words_after, words_joined, call_words, value_words, sign_words, atom_words}
use Rattle.answer_printer.specs.Sets.{IsSetText, CanBeRead}
use Rattle.answer_printer.proofs.MachineLemmas.{words-Symbol, words-Text, words-functional}

-- what holds of each member of two lists together holds of each of the first
each_left : (P : Word → Type 0) (xs ys : List Word) → Each P (xs ++ ys) → Each P xs
each_left P [] ys h = tt
each_left P (x ∷ xs) ys h = (h.0, each_left P xs ys h.1)

-- and of each of the second
each_right : (P : Word → Type 0) (xs ys : List Word) → Each P (xs ++ ys) → Each P ys
each_right P [] ys h = h
each_right P (x ∷ xs) ys h = each_right P xs ys h.1

-- ---- values

-- the value is readable where its words are those of the language
abbrev Reads : Value → Type 0
Reads v = Each Fits (value_words v) → IsReadableValue v

parts-Symbol : (x : List ℕ) → value_parts (value.Symbol x) ≡ name x ∷ []
parts-Symbol x = ap value_parts (sym (value.rolls-Symbol x)) ∙ fold-roll-Value (List Part) value_parts_step (layer.Symbol x)

parts-Text : (x : List ℕ) → value_parts (value.Text x) ≡ text x ∷ []
parts-Text x = ap value_parts (sym (value.rolls-Text x)) ∙ fold-roll-Value (List Part) value_parts_step (layer.Text x)

parts-Fun : (f : List ℕ) (x : Value) (xs : List Value) → value_parts (value.Fun f x xs) ≡ name f ∷ concat (map value_parts (x ∷ xs))
parts-Fun f x xs = ap value_parts (sym (value.rolls-Fun f x xs)) ∙ fold-roll-Value (List Part) value_parts_step (layer.Fun f x xs)

reads_Int : (z : _) → Reads (value.Int z)
reads_Int z h = subst (Each IsAllowed) (sym (ap value_parts (sym (value.rolls-Int z)) ∙ fold-roll-Value (List Part) value_parts_step (layer.Int z))) tt

reads_Symbol : (x : List ℕ) → Reads (value.Symbol x)
reads_Symbol x h = subst (Each IsAllowed) (sym (parts-Symbol x)) ((subst (Each Fits) (words-Symbol x) h).0, tt)

reads_Text : (x : List ℕ) → Reads (value.Text x)
reads_Text x h = subst (Each IsAllowed) (sym (parts-Text x)) ((subst (Each Fits) (words-Text x) h).0, tt)

-- arguments behind others
after_readable : (vs : List Value) → Each Reads vs → Each Fits (words_after (map value_words vs)) → Each IsReadableValue vs
after_readable [] reads h = tt
after_readable (v ∷ vs) reads h = (
  reads.0 (each_left Fits (value_words v) (words_after (map value_words vs)) h.1),
  after_readable vs reads.1 (each_right Fits (value_words v) (words_after (map value_words vs)) h.1),
)

-- all arguments
joined_readable : (vs : List Value) → Each Reads vs → Each Fits (words_joined (map value_words vs)) → Each IsReadableValue vs
joined_readable [] reads h = tt
joined_readable (v ∷ vs) reads h = (
  reads.0 (each_left Fits (value_words v) (words_after (map value_words vs)) h),
  after_readable vs reads.1 (each_right Fits (value_words v) (words_after (map value_words vs)) h),
)

-- a name and its arguments
call_readable : (f : List ℕ) (vs : List Value) → Each Reads vs → Each Fits (call_words f (map value_words vs)) → IsId f × Each IsReadableValue vs
call_readable f [] reads h = (h.0, tt)
call_readable f (v ∷ vs) reads h =
    (h.0, joined_readable (v ∷ vs) reads (each_left Fits (words_joined (map value_words (v ∷ vs))) (Close ∷ []) h.1.1))

-- the parts of readable values are allowed
parts_allowed : (vs : List Value) → Each IsReadableValue vs → Each IsAllowed (concat (map value_parts vs))
parts_allowed [] h = tt
parts_allowed (v ∷ vs) h = Each-append IsAllowed (value_parts v) (concat (map value_parts vs)) h.0 (parts_allowed vs h.1)

reads_Fun : (f : List ℕ) (v : Value) (vs : List Value) → Each Reads (v ∷ vs) → Reads (value.Fun f v vs)
reads_Fun f v vs reads h =
    let called = call_readable f (v ∷ vs) reads (subst (Each Fits) (words-functional f (v ∷ vs)) h) in
    subst (Each IsAllowed) (sym (parts-Fun f v vs)) (called.0, parts_allowed (v ∷ vs) called.1)

abbrev Reading : Type 0
Reading = (v : Value) × Reads v

each_reads : (es : List Reading) → Each Reads (map (λ e. e.0) es)
each_reads [] = tt
each_reads (e ∷ es) = (e.1, each_reads es)

layer_reads : (y : Value-F Reading) → Reads (roll-Value (map-Value Reading Value (λ e. e.0) y))
layer_reads (layer.Int z) = subst Reads (sym (value.rolls-Int z)) (reads_Int z)
layer_reads (layer.Symbol x) = subst Reads (sym (value.rolls-Symbol x)) (reads_Symbol x)
layer_reads (layer.Text x) = subst Reads (sym (value.rolls-Text x)) (reads_Text x)
layer_reads (layer.Fun f e es) =
    subst Reads (sym (value.rolls-Fun f e.0 (map (λ p. p.0) es))) (reads_Fun f e.0 (map (λ p. p.0) es) (e.1, each_reads es))

value_reads : (v : Value) → Reads v
value_reads = ind-Value Reads (λ x y is. subst (λ z. Reads (roll-Value z)) is (layer_reads y))

values_read : (vs : List Value) → Each Reads vs
values_read [] = tt
values_read (v ∷ vs) = (value_reads v, values_read vs)

-- ---- atoms

-- an atom that can stand in a set text is readable
pub read_is_readable : (a : Atom) → CanBeRead a → IsReadable a
read_is_readable a h =
    let called = call_readable a.name a.args (values_read a.args) (each_right Fits (sign_words a.negated) (call_words a.name (map value_words a.args)) h) in
    record { named = called.0; arguments = called.1 }

atoms_after : (atoms : List Atom) → Each Fits (words_after (map atom_words atoms)) → Each IsReadable atoms
atoms_after [] h = tt
atoms_after (a ∷ more) h = (
  read_is_readable a (each_left Fits (atom_words a) (words_after (map atom_words more)) h.1),
  atoms_after more (each_right Fits (atom_words a) (words_after (map atom_words more)) h.1),
)

atoms_joined : (atoms : List Atom) → Each Fits (words_joined (map atom_words atoms)) → Each IsReadable atoms
atoms_joined [] h = tt
atoms_joined (a ∷ more) h = (
  read_is_readable a (each_left Fits (atom_words a) (words_after (map atom_words more)) h),
  atoms_after more (each_right Fits (atom_words a) (words_after (map atom_words more)) h),
)

-- the atoms of a set text are readable
pub set_is_readable : (bytes : List ℕ) (atoms : List Atom) → IsSetText bytes atoms → Each IsReadable atoms
set_is_readable bytes atoms set = atoms_joined atoms (each_left Fits (words_joined (map atom_words atoms)) (CloseBrace ∷ []) set.fit.1)
