-- The line of a set, read without its line feed, is that set.
use Rattle.std.proofs.Common.{◌≡◌, refl, sym, ap, subst, ◌∙◌, ℕ, Bool, true, false, List, [], ◌∷◌, ◌++◌, map, Result, Ok, Err, append_assoc, append-nil}
use Rattle.std.specs.Prelude.{codes, IfOk}
use Rattle.lists.specs.Lists.{Each}
use Rattle.lists.proofs.ListLemmas.{Each-at, Each-from, Each-append}
use Rattle.asp_meaning.specs.declared.value.Value.{Value}
use Rattle.asp_meaning.specs.declared.value.Value.TheOpen.{Value-F}
use Rattle.asp_meaning.specs.declared.value.Value.TheOpen as layer
use Rattle.asp_meaning.specs.declared.value.Value.TheVariants as value
use Rattle.asp_meaning.specs.declared.value.Value.TheViews.{roll-Value}
use Rattle.asp_meaning.specs.declared.value.Value.TheFolds.{ind-Value, map-Value}
use Rattle.asp_meaning.specs.Terms.{functional}
use Rattle.asp_meaning.specs.Atoms.{Atom}
use Rattle.asp_meaning.specs.Lines.{each_after, joined, call_text, value_text, sign_text, atom_text, line_of, IsSetLine}
use Rattle.asp_laws.proofs.Lines.{a_set_has_one_line}
use Rattle.asp_meaning.proofs.Layers.{text-Int, text-Symbol, text-Text, text-functional}
use Rattle.answer_printer.specs.declared.fault.SetFault.{SetFault}
use Rattle.answer_printer.specs.declared.fault.SetFault.TheVariants.{NotASet, OutOfMemory}
use Rattle.answer_printer.specs.declared.words.Word.{Word}
use Rattle.answer_printer.specs.declared.words.Word.TheVariants.{Id, Integer, Text, Minus, Comma, Open, Close, OpenBrace, CloseBrace}
use Rattle.answer_printer.specs.Words.{spelling, Fits, words_after, words_joined, call_words, value_words, sign_words, atom_words, set_words}
use Rattle.answer_printer.specs.Sets.{IsSpaced, IsSetText, CanBeRead}
use Rattle.answer_printer.specs.Answers.{IsAnswer, ReadsAsItself}
use Rattle.answer_printer.specs.Readers.{HasRead}
use Rattle.answer_printer.proofs.MachineLemmas.{words-Int, words-Symbol, words-Text, words-functional}
use Rattle.answer_printer.proofs.LeadsLemmas.{one_set, spaced_more}

-- ---- what is printed is spaced

-- words that are printed before a rest
abbrev Prints : List Word → List ℕ → Type 0
Prints words text = (more : List Word) (rest : List ℕ) → IsSpaced more rest → IsSpaced (words ++ more) (text ++ rest)

one_word : (w : Word) → Prints (w ∷ []) (spelling w)
one_word w more rest h = ([], rest, refl, refl, h)

nothing : Prints [] []
nothing more rest h = h

both : (ws us : List Word) (ts ss : List ℕ) → Prints ws ts → Prints us ss → Prints (ws ++ us) (ts ++ ss)
both ws us ts ss h k more rest l =
    subst (λ w. IsSpaced w ((ts ++ ss) ++ rest)) (sym (append_assoc ws us more))
    (subst (IsSpaced (ws ++ (us ++ more))) (sym (append_assoc ts ss rest)) (h (us ++ more) (ss ++ rest) (k more rest l)))

-- a blank before what is printed
behind_blank : (ws : List Word) (ts : List ℕ) → Prints ws ts → Prints ws (32 ∷ ts)
behind_blank ws ts h more rest l = spaced_more (ws ++ more) 32 (ts ++ rest) refl (h more rest l)

-- ---- values

abbrev ValuePrints : Value → Type 0
ValuePrints v = Prints (value_words v) (value_text v)

after_prints : (vs : List Value) → Each ValuePrints vs → Prints (words_after (map value_words vs)) (each_after (codes ",") (map value_text vs))
after_prints [] each = nothing
after_prints (v ∷ vs) each =
    both (Comma ∷ []) (value_words v ++ words_after (map value_words vs)) (codes ",") (value_text v ++ each_after (codes ",") (map value_text vs)) (one_word Comma)
    (both (value_words v) (words_after (map value_words vs)) (value_text v) (each_after (codes ",") (map value_text vs)) each.0 (after_prints vs each.1))

call_prints : (f : List ℕ) (args : List Value) → Each ValuePrints args → Prints (call_words f (map value_words args)) (call_text f (map value_text args))
call_prints f [] each = one_word (Id f)
call_prints f (v ∷ vs) each =
    let ws : List Word = words_joined (map value_words (v ∷ vs)) in
    let ts : List ℕ = joined (codes ",") (map value_text (v ∷ vs)) in
    let inside : Prints ws ts = both (value_words v) (words_after (map value_words vs)) (value_text v) (each_after (codes ",") (map value_text vs)) each.0 (after_prints vs each.1) in
    both (Id f ∷ []) (Open ∷ (ws ++ Close ∷ [])) f (codes "(" ++ (ts ++ codes ")")) (one_word (Id f))
    (both (Open ∷ []) (ws ++ Close ∷ []) (codes "(") (ts ++ codes ")") (one_word Open)
    (both ws (Close ∷ []) ts (codes ")") inside (one_word Close)))

abbrev Printing : Type 0
Printing = (v : Value) × ValuePrints v

each_prints : (es : List Printing) → Each ValuePrints (map (λ e. e.0) es)
each_prints [] = tt
each_prints (e ∷ es) = (e.1, each_prints es)

prints_as : (v : Value) (ws : List Word) (ts : List ℕ) → value_words v ≡ ws → value_text v ≡ ts → Prints ws ts → ValuePrints v
prints_as v ws ts e f h = subst (λ w. Prints w (value_text v)) (sym e) (subst (Prints ws) (sym f) h)

layer_prints : (y : Value-F Printing) → ValuePrints (roll-Value (map-Value Printing Value (λ e. e.0) y))
layer_prints (layer.Int z) = subst ValuePrints (sym (value.rolls-Int z)) (prints_as (value.Int z) (Integer z ∷ []) (spelling (Integer z)) (words-Int z) (text-Int z) (one_word (Integer z)))
layer_prints (layer.Symbol x) = subst ValuePrints (sym (value.rolls-Symbol x)) (prints_as (value.Symbol x) (Id x ∷ []) (spelling (Id x)) (words-Symbol x) (text-Symbol x) (one_word (Id x)))
layer_prints (layer.Text x) = subst ValuePrints (sym (value.rolls-Text x)) (prints_as (value.Text x) (Text x ∷ []) (spelling (Text x)) (words-Text x) (text-Text x) (one_word (Text x)))
layer_prints (layer.Fun f e es) =
    let vs : List Value = e.0 ∷ map (λ p. p.0) es in
    subst ValuePrints (sym (value.rolls-Fun f e.0 (map (λ p. p.0) es)))
    (prints_as (functional f vs) (call_words f (map value_words vs)) (call_text f (map value_text vs)) (words-functional f vs) (text-functional f vs) (call_prints f vs (e.1, each_prints es)))

value_prints : (v : Value) → ValuePrints v
value_prints = ind-Value ValuePrints (λ x y is. subst (λ z. ValuePrints (roll-Value z)) is (layer_prints y))

values_print : (vs : List Value) → Each ValuePrints vs
values_print [] = tt
values_print (v ∷ vs) = (value_prints v, values_print vs)

-- ---- atoms

sign_prints : (negated : Bool) → Prints (sign_words negated) (sign_text negated)
sign_prints false = nothing
sign_prints true = one_word Minus

atom_prints : (a : Atom) → Prints (atom_words a) (atom_text a)
atom_prints a =
    both (sign_words a.negated) (call_words a.name (map value_words a.args)) (sign_text a.negated) (call_text a.name (map value_text a.args))
    (sign_prints a.negated) (call_prints a.name a.args (values_print a.args))

atoms_after : (atoms : List Atom) → Prints (words_after (map atom_words atoms)) (each_after (codes ", ") (map atom_text atoms))
atoms_after [] = nothing
atoms_after (a ∷ more) =
    both (Comma ∷ []) (atom_words a ++ words_after (map atom_words more)) (codes ",") (32 ∷ (atom_text a ++ each_after (codes ", ") (map atom_text more))) (one_word Comma)
    (behind_blank (atom_words a ++ words_after (map atom_words more)) (atom_text a ++ each_after (codes ", ") (map atom_text more))
    (both (atom_words a) (words_after (map atom_words more)) (atom_text a) (each_after (codes ", ") (map atom_text more)) (atom_prints a) (atoms_after more)))

atoms_print : (atoms : List Atom) → Prints (words_joined (map atom_words atoms)) (joined (codes ", ") (map atom_text atoms))
atoms_print [] = nothing
atoms_print (a ∷ more) = both (atom_words a) (words_after (map atom_words more)) (atom_text a) (each_after (codes ", ") (map atom_text more)) (atom_prints a) (atoms_after more)

-- the line but for its line feed
abbrev braced : List Atom → List ℕ
braced atoms = codes "{" ++ (joined (codes ", ") (map atom_text atoms) ++ codes "}")

set_prints : (atoms : List Atom) → Prints (set_words atoms) (braced atoms)
set_prints atoms =
    both (OpenBrace ∷ []) (words_joined (map atom_words atoms) ++ CloseBrace ∷ []) (codes "{") (joined (codes ", ") (map atom_text atoms) ++ codes "}") (one_word OpenBrace)
    (both (words_joined (map atom_words atoms)) (CloseBrace ∷ []) (joined (codes ", ") (map atom_text atoms)) (codes "}") (atoms_print atoms) (one_word CloseBrace))

-- ---- words that fit

fit_after : (atoms : List Atom) → Each CanBeRead atoms → Each Fits (words_after (map atom_words atoms))
fit_after [] h = tt
fit_after (a ∷ more) h = (tt, Each-append Fits (atom_words a) (words_after (map atom_words more)) h.0 (fit_after more h.1))

fit_joined : (atoms : List Atom) → Each CanBeRead atoms → Each Fits (words_joined (map atom_words atoms))
fit_joined [] h = tt
fit_joined (a ∷ more) h = Each-append Fits (atom_words a) (words_after (map atom_words more)) h.0 (fit_after more h.1)

set_fits : (atoms : List Atom) → Each CanBeRead atoms → Each Fits (set_words atoms)
set_fits atoms h = (tt, Each-append Fits (words_joined (map atom_words atoms)) (CloseBrace ∷ []) (fit_joined atoms h) (tt, tt))

-- ---- the line of a set

-- lists that end in the same
front_of : (xs ys : List ℕ) (b : ℕ) → xs ++ b ∷ [] ≡ ys ++ b ∷ [] → xs ≡ ys
front_of xs ys b e = sym (dropped xs) ∙ ap init e ∙ dropped ys
  where
    init : List ℕ → List ℕ
    init [] = []
    init (x ∷ []) = []
    init (x ∷ y ∷ zs) = x ∷ init (y ∷ zs)

    dropped : (zs : List ℕ) → init (zs ++ b ∷ []) ≡ zs
    dropped [] = refl
    dropped (z ∷ []) = refl
    dropped (z ∷ y ∷ zs) = ap (λ l. z ∷ l) (dropped (y ∷ zs))

pub printed_is_read : (text : List ℕ) (atoms : List Atom) → Each CanBeRead atoms → text ++ 10 ∷ [] ≡ line_of atoms → IsSetText text atoms
printed_is_read text atoms h e =
    let whole : braced atoms ++ 10 ∷ [] ≡ line_of atoms =
    append_assoc (codes "{") (joined (codes ", ") (map atom_text atoms) ++ codes "}") (10 ∷ []) ∙ ap (λ l. codes "{" ++ l) (append_assoc (joined (codes ", ") (map atom_text atoms)) (codes "}") (10 ∷ [])) in
    let is : text ≡ braced atoms = front_of text (braced atoms) 10 (e ∙ sym whole) in
    record {
      fit = set_fits atoms h;
      spaced = subst (IsSpaced (set_words atoms)) (append-nil (braced atoms) ∙ sym is) (subst (λ ws. IsSpaced ws (braced atoms ++ [])) (append-nil (set_words atoms)) (set_prints atoms [] [] refl));
    }

-- a set is answered by its line
pub canonical : (text : List ℕ) (r : Result (List ℕ) SetFault) (atoms : List Atom) → IsAnswer text r → IsSetText text atoms → IfOk r (IsSetLine atoms)
canonical text (Ok line) atoms h set = subst (λ xs. IsSetLine xs line) (one_set text h.0 atoms h.1 set) h.2
canonical text (Err f) atoms h set = tt

-- the line of a set that can be read is answered by itself
pub itself : (text : List ℕ) (r : Result (List ℕ) SetFault) (atoms : List Atom) → IsAnswer text r → Each CanBeRead atoms → IsSetLine atoms (text ++ 10 ∷ []) → ReadsAsItself text r
itself text r atoms h can is = by_answer r h
  where
    set : IsSetText text is.sorted
    set = printed_is_read text is.sorted (Each-from CanBeRead is.sorted (λ a among. Each-at CanBeRead atoms a can (is.same.back a among))) is.text

    by_answer : (q : Result (List ℕ) SetFault) → IsAnswer text q → ReadsAsItself text q
    by_answer (Ok line) k =
        let own : IsSetLine is.sorted line = subst (λ xs. IsSetLine xs line) (one_set text k.0 is.sorted k.1 set) k.2 in
        a_set_has_one_line is.sorted line (text ++ 10 ∷ []) own (record { sorted = is.sorted; same = record { to = λ a among. among; back = λ a among. among }; in_order = is.in_order; text = is.text })
    by_answer (Err NotASet) k = k is.sorted set
    by_answer (Err OutOfMemory) k = tt

-- a fault of reading is that of the answer
pub same_fault : (text : List ℕ) (fault : SetFault) → HasRead text (Err fault) → IsAnswer text (Err fault)
same_fault text NotASet h = h
same_fault text OutOfMemory h = tt
