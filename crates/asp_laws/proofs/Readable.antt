-- A line tells its set, where the names and texts in it are those of the language.
use Rattle.std.proofs.Common.{◌≡◌, ◌≢◌, refl, sym, ap, subst, ◌∙◌, ℕ, ℤ, ◌≤◌, Bool, true, false, List, [], ◌∷◌, ◌++◌, map, codes, append_assoc, arith}
use Rattle.lists.specs.Lists.{Each, SameSet, concat}
use Rattle.lists.proofs.ListLemmas.{Each-at, Each-from, SameSet-trans, SameSet-sym}
use Rattle.asp_syntax.specs.WellFormed.{IsId, IsText}
use Rattle.asp_syntax.specs.Trees.{Part, IsAllowed}
use Rattle.asp_meaning.specs.declared.value.Value.{Value}
use Rattle.asp_meaning.specs.declared.value.Value.TheVariants as value
use Rattle.asp_meaning.specs.declared.value.Value.TheOpen.{Value-F}
use Rattle.asp_meaning.specs.declared.value.Value.TheOpen as layer
use Rattle.asp_meaning.specs.declared.value.Value.TheViews.{out-Value, roll-Value, roll-out-Value}
use Rattle.asp_meaning.specs.declared.value.Value.TheFolds.{fold-roll-Value, ind-Value, map-Value}
use Rattle.asp_meaning.specs.Terms.{functional}
use Rattle.asp_meaning.specs.Atoms.{Atom}
use Rattle.asp_meaning.specs.Lines.{each_after, joined, call_text, integer_text, value_text, sign_text, atom_text, line_of}
use Rattle.asp_meaning.specs.Readable.{value_parts_step, value_parts, IsReadableValue, IsReadable}
use Rattle.asp_meaning.proofs.Layers.{text-functional}
use Rattle.asp_meaning.proofs.AtomOrder.{atom_from_parts}
use Rattle.asp_laws.specs.ReadableAtoms.{LinesTellTheirSets, OneLineForTheSameSet}
use Rattle.asp_laws.proofs.Numerals.{integers_have_their_own_text}
use Rattle.asp_laws.proofs.Written.{each_kind_is_written}
use Rattle.asp_laws.proofs.Endings.{first, rest_same, IsPart, IsApart, split, Ends, at_close, at_comma, at_brace, id_parts, id_first, integer_parts, no_name, closes}

-- a line of a set is one of the same set
pub one_line_for_the_same_set : OneLineForTheSameSet
one_line_for_the_same_set I J line same h = record { sorted = h.sorted; same = SameSet-trans I J h.sorted same h.same; in_order = h.in_order; text = h.text }

-- ---- readable values

-- a value by what its text begins with
data Shape : Value → Type 0 where
  whole : (z : ℤ) → Shape (value.Int z)
  quoted : (x : List ℕ) → IsText x → Shape (value.Text x)
  called : (f : List ℕ) (args : List Value) → IsId f → Each IsReadableValue args → Shape (functional f args)

-- what holds of all parts holds of those on the left, and of those on the right
each_left : (xs ys : List Part) → Each IsAllowed (xs ++ ys) → Each IsAllowed xs
each_left [] ys h = tt
each_left (x ∷ xs) ys h = (h.0, each_left xs ys h.1)

each_right : (xs ys : List Part) → Each IsAllowed (xs ++ ys) → Each IsAllowed ys
each_right [] ys h = h
each_right (x ∷ xs) ys h = each_right xs ys h.1

-- each argument is readable where all their parts are allowed
pub each_readable : (vs : List Value) → Each IsAllowed (concat (map value_parts vs)) → Each IsReadableValue vs
each_readable [] h = tt
each_readable (v ∷ vs) h =
    (each_left (value_parts v) (concat (map value_parts vs)) h, each_readable vs (each_right (value_parts v) (concat (map value_parts vs)) h))

-- the names and texts of a value, by its outermost symbol
layer_parts : (y : Value-F Value) → IsReadableValue (roll-Value y) → Each IsAllowed (value_parts_step (map-Value Value (List Part) value_parts y))
layer_parts y h = subst (Each IsAllowed) (fold-roll-Value (List Part) value_parts_step y) h

-- a readable value has one of the three shapes
layer_shape : (y : Value-F Value) → IsReadableValue (roll-Value y) → Shape (roll-Value y)
layer_shape (layer.Int z) h = subst Shape (sym (value.rolls-Int z)) (whole z)
layer_shape (layer.Symbol x) h = subst Shape (sym (value.rolls-Symbol x)) (called x [] (layer_parts (layer.Symbol x) h).0 tt)
layer_shape (layer.Text x) h = subst Shape (sym (value.rolls-Text x)) (quoted x (layer_parts (layer.Text x) h).0)
layer_shape (layer.Fun f v vs) h =
    let parts = layer_parts (layer.Fun f v vs) h in
    subst Shape (sym (value.rolls-Fun f v vs)) (called f (v ∷ vs) parts.0 (each_readable (v ∷ vs) parts.1))

-- so does each readable value
shape : (v : Value) → IsReadableValue v → Shape v
shape v h = subst Shape (roll-out-Value v) (layer_shape (out-Value v) (subst IsReadableValue (sym (roll-out-Value v)) h))

-- ---- the text of a call

-- arguments that follow others, the parenthesis, and the rest
abbrev further_args : List Value → List ℕ → List ℕ
further_args [] r = 41 ∷ r
further_args (v ∷ vs) r = 44 ∷ (value_text v ++ further_args vs r)

-- arguments in parentheses, and the rest
abbrev arguments : List Value → List ℕ → List ℕ
arguments [] r = r
arguments (v ∷ vs) r = 40 ∷ (value_text v ++ further_args vs r)

-- the text of further arguments before a rest
further_text : (vs : List Value) (r : List ℕ) → ((each_after (codes ",") (map value_text vs) ++ codes ")") ++ r) ≡ further_args vs r
further_text [] r = refl
further_text (v ∷ vs) r =
    ap (λ l. 44 ∷ l) (
    ap (λ l. l ++ r) (append_assoc (value_text v) (each_after (codes ",") (map value_text vs)) (codes ")"))
    ∙ append_assoc (value_text v) (each_after (codes ",") (map value_text vs) ++ codes ")") r
    ∙ ap (λ l. value_text v ++ l) (further_text vs r))

-- the text of a call before a rest
call_is : (f : List ℕ) (vs : List Value) (r : List ℕ) → (call_text f (map value_text vs) ++ r) ≡ (f ++ arguments vs r)
call_is f [] r = refl
call_is f (v ∷ vs) r =
    append_assoc f (codes "(" ++ (joined (codes ",") (map value_text (v ∷ vs)) ++ codes ")")) r
    ∙ ap (λ l. f ++ 40 ∷ l) (rest_same 44 44 _ _ (further_text (v ∷ vs) r))

-- the text of a value of each shape before a rest
functional_is : (f : List ℕ) (vs : List Value) (r : List ℕ) → (value_text (functional f vs) ++ r) ≡ (f ++ arguments vs r)
functional_is f vs r = ap (λ l. l ++ r) (text-functional f vs) ∙ call_is f vs r

quoted_is : (x r : List ℕ) → (value_text (value.Text x) ++ r) ≡ (34 ∷ (x ++ 34 ∷ r))
quoted_is x r = ap (λ l. l ++ r) (each_kind_is_written.2 x) ∙ ap (λ l. 34 ∷ l) (append_assoc x (34 ∷ []) r)

whole_is : (z : ℤ) (r : List ℕ) → (value_text (value.Int z) ++ r) ≡ (integer_text z ++ r)
whole_is z r = ap (λ l. l ++ r) (each_kind_is_written.0 z)

-- a value ends before further arguments
further_ends : (vs : List Value) (r : List ℕ) → Ends (further_args vs r)
further_ends [] r = at_close r
further_ends (v ∷ vs) r = at_comma (value_text v ++ further_args vs r)

-- a name ends before its arguments, and no quote follows it
arguments_begin : (vs : List Value) (r : List ℕ) → Ends r → IsApart (arguments vs r) × (first (arguments vs r) ≢ 34)
arguments_begin [] r h = (h.apart, h.no_text)
arguments_begin (v ∷ vs) r h = (λ k. omega arith, λ e. omega arith)

-- ---- a text before what may end it tells the value

-- the value is the only one with its text, and the rest the only rest
abbrev Told : Value → Type 0
Told v = IsReadableValue v → (w : Value) → Shape w → (r s : List ℕ) → Ends r → Ends s → (value_text v ++ r) ≡ (value_text w ++ s) → (v ≡ w) × (r ≡ s)

-- no name and no integer begins or ends with a quote
no_quote : {A : Type 0} (x r s : List ℕ) → Each IsPart x → IsApart r → first r ≢ 34 → (x ++ r) ≡ (34 ∷ s) → A
no_quote x r s part apart other e = absurd (other (ap first (split x [] r (34 ∷ s) part tt apart (λ k. omega arith) e).1))

-- arguments up to the parenthesis are told where each is
further_told : (vs ws : List Value) → Each Told vs → Each IsReadableValue vs → Each IsReadableValue ws → (r s : List ℕ) → further_args vs r ≡ further_args ws s → (vs ≡ ws) × (r ≡ s)
further_told [] [] told h k r s e = (refl, rest_same 41 41 r s e)
further_told [] (w ∷ ws) told h k r s e = let same = ap first e in absurd (omega (arith, same))
further_told (v ∷ vs) [] told h k r s e = let same = ap first e in absurd (omega (arith, same))
further_told (v ∷ vs) (w ∷ ws) told h k r s e =
    let one = told.0 h.0 w (shape w k.0) (further_args vs r) (further_args ws s) (further_ends vs r) (further_ends ws s)
    (rest_same 44 44 (value_text v ++ further_args vs r) (value_text w ++ further_args ws s) e) in
    let more = further_told vs ws told.1 h.1 k.1 r s one.1 in
    ((λ i. one.0 i ∷ more.0 i), more.1)

-- so are arguments in parentheses, or the lack of them
arguments_told : (vs ws : List Value) → Each Told vs → Each IsReadableValue vs → Each IsReadableValue ws → (r s : List ℕ) → Ends r → Ends s → arguments vs r ≡ arguments ws s → (vs ≡ ws) × (r ≡ s)
arguments_told [] [] told h k r s p q e = (refl, e)
arguments_told [] (w ∷ ws) told h k r s p q e = absurd (p.no_arguments (ap first e))
arguments_told (v ∷ vs) [] told h k r s p q e = absurd (q.no_arguments (ap first (sym e)))
arguments_told (v ∷ vs) (w ∷ ws) told h k r s p q e =
    further_told (v ∷ vs) (w ∷ ws) told h k r s (ap (λ l. 44 ∷ l) (rest_same 40 40 (value_text v ++ further_args vs r) (value_text w ++ further_args ws s) e))

-- a call, as its name and its arguments
call_told : (f g : List ℕ) (vs ws : List Value) → IsId f → IsId g → Each Told vs → Each IsReadableValue vs → Each IsReadableValue ws → (r s : List ℕ) → Ends r → Ends s
    → (f ++ arguments vs r) ≡ (g ++ arguments ws s) → (f ≡ g) × (vs ≡ ws) × (r ≡ s)
call_told f g vs ws i j told h k r s p q e =
    let names = split f g (arguments vs r) (arguments ws s) (id_parts f i) (id_parts g j) (arguments_begin vs r p).0 (arguments_begin ws s q).0 e in
    let rest = arguments_told vs ws told h k r s p q names.1 in
    (names.0, rest.0, rest.1)

-- an integer is told
whole_told : (z : ℤ) {w : Value} → Shape w → (r s : List ℕ) → Ends r → Ends s → (value_text (value.Int z) ++ r) ≡ (value_text w ++ s) → (value.Int z ≡ w) × (r ≡ s)
whole_told z (whole u) r s p q e =
    let both = split (integer_text z) (integer_text u) r s (integer_parts z) (integer_parts u) p.apart q.apart (sym (whole_is z r) ∙ e ∙ whole_is u s) in
    (ap value.Int (integers_have_their_own_text z u both.0), both.1)
whole_told z (quoted x k) r s p q e = no_quote (integer_text z) r (x ++ 34 ∷ s) (integer_parts z) p.apart p.no_text (sym (whole_is z r) ∙ e ∙ quoted_is x s)
whole_told z (called f args i k) r s p q e =
    no_name z f i (split (integer_text z) f r (arguments args s) (integer_parts z) (id_parts f i) p.apart (arguments_begin args s q).0 (sym (whole_is z r) ∙ e ∙ functional_is f args s)).0

-- a text is told
quoted_told : (x : List ℕ) → IsText x → {w : Value} → Shape w → (r s : List ℕ) → Ends r → Ends s → (value_text (value.Text x) ++ r) ≡ (value_text w ++ s) → (value.Text x ≡ w) × (r ≡ s)
quoted_told x h (whole u) r s p q e = no_quote (integer_text u) s (x ++ 34 ∷ r) (integer_parts u) q.apart q.no_text (sym (whole_is u s) ∙ sym e ∙ quoted_is x r)
quoted_told x h (quoted y k) r s p q e =
    let both = closes 34 x y r s h k (rest_same 34 34 (x ++ 34 ∷ r) (y ++ 34 ∷ s) (sym (quoted_is x r) ∙ e ∙ quoted_is y s)) in
    (ap value.Text both.0, both.1)
quoted_told x h (called f args i k) r s p q e =
    let begin = arguments_begin args s q in
    no_quote f (arguments args s) (x ++ 34 ∷ r) (id_parts f i) begin.0 begin.1 (sym (functional_is f args s) ∙ sym e ∙ quoted_is x r)

-- a symbol or a functional term is told, where its arguments are
called_told : (f : List ℕ) (args : List Value) → IsId f → Each Told args → Each IsReadableValue args → {w : Value} → Shape w → (r s : List ℕ) → Ends r → Ends s
    → (value_text (functional f args) ++ r) ≡ (value_text w ++ s) → (functional f args ≡ w) × (r ≡ s)
called_told f args j told h (whole u) r s p q e =
    no_name u f j (split (integer_text u) f s (arguments args r) (integer_parts u) (id_parts f j) q.apart (arguments_begin args r p).0 (sym (whole_is u s) ∙ sym e ∙ functional_is f args r)).0
called_told f args j told h (quoted x k) r s p q e =
    let begin = arguments_begin args r p in
    no_quote f (arguments args r) (x ++ 34 ∷ s) (id_parts f j) begin.0 begin.1 (sym (functional_is f args r) ∙ e ∙ quoted_is x s)
called_told f args j told h (called g more i k) r s p q e =
    let both = call_told f g args more j i told h k r s p q (sym (functional_is f args r) ∙ e ∙ functional_is g more s) in
    ((λ i. functional (both.0 i) (both.1 i)), both.2)

-- a value that is told
abbrev Proved : Type 0
Proved = (v : Value) × Told v

each_told : (es : List Proved) → Each Told (map (λ e. e.0) es)
each_told [] = tt
each_told (e ∷ es) = (e.1, each_told es)

-- a value is told where those in it are
layer_told : (y : Value-F Proved) → Told (roll-Value (map-Value Proved Value (λ e. e.0) y))
layer_told (layer.Int z) = subst Told (sym (value.rolls-Int z)) (λ h w k. whole_told z k)
layer_told (layer.Symbol x) = λ h. subst (λ v. Told v) (sym (value.rolls-Symbol x)) (λ j w k. called_told x [] (layer_parts (layer.Symbol x) h).0 tt tt k) h
layer_told (layer.Text x) = λ h. subst (λ v. Told v) (sym (value.rolls-Text x)) (λ j w k. quoted_told x (layer_parts (layer.Text x) h).0 k) h
layer_told (layer.Fun f e es) = λ h.
    let vs : List Value = map (λ (p : Proved). p.0) es in
    let parts = layer_parts (layer.Fun f e.0 vs) h in
    subst (λ v. Told v) (sym (value.rolls-Fun f e.0 vs)) (λ j w k. called_told f (e.0 ∷ vs) parts.0 (e.1, each_told es) (each_readable (e.0 ∷ vs) parts.1) k) h

-- so each value is told
value_told : (v : Value) → Told v
value_told = ind-Value Told (λ x y is. subst (λ z. Told (roll-Value z)) is (layer_told y))

values_told : (vs : List Value) → Each Told vs
values_told [] = tt
values_told (v ∷ vs) = (value_told v, values_told vs)

-- ---- atoms

-- the text of an atom before a rest
atom_is : (sign : Bool) (f : List ℕ) (vs : List Value) (r : List ℕ) → ((sign_text sign ++ call_text f (map value_text vs)) ++ r) ≡ (sign_text sign ++ (f ++ arguments vs r))
atom_is sign f vs r = append_assoc (sign_text sign) (call_text f (map value_text vs)) r ∙ ap (λ l. sign_text sign ++ l) (call_is f vs r)

-- no name begins with a minus sign
no_sign : {A : Type 0} (f t s : List ℕ) → IsId f → (f ++ t) ≡ (45 ∷ s) → A
no_sign f t s h e = let same : first (f ++ t) ≡ 45 = ap first e in let range = (id_first f t h).0 in absurd (omega arith)

-- a sign before a name is told
signs_told : (p q : Bool) (f g t u : List ℕ) → IsId f → IsId g → (sign_text p ++ (f ++ t)) ≡ (sign_text q ++ (g ++ u)) → (p ≡ q) × ((f ++ t) ≡ (g ++ u))
signs_told false false f g t u h k e = (refl, e)
signs_told false true f g t u h k e = no_sign f t (g ++ u) h e
signs_told true false f g t u h k e = no_sign g u (f ++ t) k (sym e)
signs_told true true f g t u h k e = (refl, rest_same 45 45 (f ++ t) (g ++ u) e)

-- an atom is told
atom_told : (a b : Atom) → IsReadable a → IsReadable b → (r s : List ℕ) → Ends r → Ends s → (atom_text a ++ r) ≡ (atom_text b ++ s) → (a ≡ b) × (r ≡ s)
atom_told a b h k r s p q e =
    let signs = signs_told a.negated b.negated a.name b.name (arguments a.args r) (arguments b.args s) h.named k.named (sym (atom_is a.negated a.name a.args r) ∙ e ∙ atom_is b.negated b.name b.args s) in
    let call = call_told a.name b.name a.args b.args h.named k.named (values_told a.args) h.arguments k.arguments r s p q signs.1 in
    (atom_from_parts a b signs.0 call.0 call.1, call.2)

-- an atom does not begin with a brace
atom_first : (a : Atom) (r : List ℕ) → IsReadable a → first (atom_text a ++ r) ≤ 122
atom_first a r h = subst (λ l. first l ≤ 122) (sym (atom_is a.negated a.name a.args r)) (by_sign a.negated)
  where
    by_sign : (sign : Bool) → first (sign_text sign ++ (a.name ++ arguments a.args r)) ≤ 122
    by_sign false = (id_first a.name (arguments a.args r) h.named).1
    by_sign true = omega arith

-- ---- lines

-- atoms that follow others, and what ends the line
abbrev further : List Atom → List ℕ
further [] = 125 ∷ 10 ∷ []
further (a ∷ more) = 44 ∷ 32 ∷ (atom_text a ++ further more)

-- all after the opening brace
abbrev inside : List Atom → List ℕ
inside [] = 125 ∷ 10 ∷ []
inside (a ∷ more) = atom_text a ++ further more

-- the text of further atoms and the end of the line
further_is : (atoms : List Atom) → (each_after (codes ", ") (map atom_text atoms) ++ (125 ∷ 10 ∷ [])) ≡ further atoms
further_is [] = refl
further_is (a ∷ more) =
    ap (λ l. 44 ∷ 32 ∷ l) (append_assoc (atom_text a) (each_after (codes ", ") (map atom_text more)) (125 ∷ 10 ∷ []) ∙ ap (λ l. atom_text a ++ l) (further_is more))

-- the text of a line is a brace and what stands after it
line_is : (atoms : List Atom) → line_of atoms ≡ (123 ∷ inside atoms)
line_is [] = refl
line_is (a ∷ more) =
    ap (λ l. 123 ∷ l) (append_assoc (atom_text a) (each_after (codes ", ") (map atom_text more)) (125 ∷ 10 ∷ []) ∙ ap (λ l. atom_text a ++ l) (further_is more))

-- an atom ends before further ones, and before the brace
ends_atom : (atoms : List Atom) → Ends (further atoms)
ends_atom [] = at_brace (10 ∷ [])
ends_atom (a ∷ more) = at_comma (32 ∷ (atom_text a ++ further more))

-- atoms up to the brace are told
atoms_told : (xs ys : List Atom) → Each IsReadable xs → Each IsReadable ys → further xs ≡ further ys → xs ≡ ys
atoms_told [] [] h k e = refl
atoms_told [] (b ∷ ys) h k e = let same = ap first e in absurd (omega (arith, same))
atoms_told (a ∷ xs) [] h k e = let same = ap first e in absurd (omega (arith, same))
atoms_told (a ∷ xs) (b ∷ ys) h k e =
    let after = rest_same 44 44 (32 ∷ (atom_text a ++ further xs)) (32 ∷ (atom_text b ++ further ys)) e in
    let one = atom_told a b h.0 k.0 (further xs) (further ys) (ends_atom xs) (ends_atom ys) (rest_same 32 32 (atom_text a ++ further xs) (atom_text b ++ further ys) after) in
    let rest : xs ≡ ys = atoms_told xs ys h.1 k.1 one.1 in
    λ i. one.0 i ∷ rest i

-- where a line ends no atom begins
ends_there : {A : Type 0} (b : Atom) (ys : List Atom) → IsReadable b → inside [] ≡ inside (b ∷ ys) → A
ends_there b ys k e = let same : 125 ≡ first (atom_text b ++ further ys) = ap first e in let range = atom_first b (further ys) k in absurd (omega arith)

-- so is all after the opening brace
inside_told : (xs ys : List Atom) → Each IsReadable xs → Each IsReadable ys → inside xs ≡ inside ys → xs ≡ ys
inside_told [] [] h k e = refl
inside_told [] (b ∷ ys) h k e = ends_there b ys k.0 e
inside_told (a ∷ xs) [] h k e = ends_there a xs h.0 (sym e)
inside_told (a ∷ xs) (b ∷ ys) h k e = atoms_told (a ∷ xs) (b ∷ ys) h k (ap (λ l. 44 ∷ 32 ∷ l) e)

-- lists of readable atoms with one line are the same
line_told : (xs ys : List Atom) → Each IsReadable xs → Each IsReadable ys → line_of xs ≡ line_of ys → xs ≡ ys
line_told xs ys h k e = inside_told xs ys h k (rest_same 123 123 (inside xs) (inside ys) (sym (line_is xs) ∙ e ∙ line_is ys))

-- a set of readable atoms has only such in its order
pub sorted_readable : (I sorted : List Atom) → SameSet I sorted → Each IsReadable I → Each IsReadable sorted
sorted_readable I sorted same h = Each-from IsReadable sorted (λ a k. Each-at IsReadable I a h (same.back a k))

-- sets of readable atoms with one line are the same set
pub lines_tell_their_sets : LinesTellTheirSets
lines_tell_their_sets I J line i j h k =
    let one : h.sorted ≡ k.sorted =
    line_told h.sorted k.sorted (sorted_readable I h.sorted h.same i) (sorted_readable J k.sorted k.same j) (sym h.text ∙ k.text) in
    SameSet-trans I h.sorted J h.same (subst (λ xs. SameSet xs J) (sym one) (SameSet-sym J k.sorted k.same))
