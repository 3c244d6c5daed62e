-- The line of a set of readable atoms is one whole line: its only line feed stands at its end.
use Rattle.std.proofs.Common.{◌≢◌, refl, sym, ap, subst, ◌∙◌, ℕ, Bool, true, false, List, [], ◌∷◌, ◌++◌, map, codes, append_assoc, arith}
use Rattle.lists.specs.Lists.{Each}
use Rattle.lists.proofs.ListLemmas.{Each-at, Each-map, Each-append}
use Rattle.asp_syntax.specs.WellFormed.{IsId, IsInside}
use Rattle.asp_syntax.specs.Trees.{Part, IsAllowed}
use Rattle.asp_meaning.specs.declared.value.Value.{Value}
use Rattle.asp_meaning.specs.declared.value.Value.TheOpen.{Value-F}
use Rattle.asp_meaning.specs.declared.value.Value.TheOpen as layer
use Rattle.asp_meaning.specs.declared.value.Value.TheViews.{roll-Value}
use Rattle.asp_meaning.specs.declared.value.Value.TheFolds.{fold-roll-Value, ind-Value, map-Value}
use Rattle.asp_meaning.specs.Atoms.{Atom}
use Rattle.asp_meaning.specs.Lines.{each_after, joined, call_text, integer_text, value_text_step, value_text, sign_text, atom_text}
use Rattle.asp_meaning.specs.Readable.{value_parts_step, value_parts, IsReadableValue, IsReadable}
use Rattle.asp_laws.specs.ReadableAtoms.{LinesOfReadableAtomsAreWhole}
use Rattle.asp_laws.proofs.Endings.{IsPart, id_parts, integer_parts}
use Rattle.asp_laws.proofs.Readable.{each_readable, sorted_readable}

-- ---- bytes without a line feed

-- the byte is no line feed
abbrev IsNoFeed : ℕ → Type 0
IsNoFeed b = b ≢ 10

-- no line feed is among the bytes
abbrev HasNoFeed : List ℕ → Type 0
HasNoFeed bytes = Each IsNoFeed bytes

-- a mark alone
mark_no_feed : (b : ℕ) → b ≢ 10 → HasNoFeed (b ∷ [])
mark_no_feed b other = (other, tt)

-- bytes of names and integers
parts_no_feed : (bytes : List ℕ) → Each IsPart bytes → HasNoFeed bytes
parts_no_feed = Each-map IsPart IsNoFeed (λ b part e. omega arith)

-- what stands between quotes, after a byte
inside_no_feed : (previous : ℕ) (bytes : List ℕ) → IsInside previous bytes → HasNoFeed bytes
inside_no_feed previous [] is = tt
inside_no_feed previous (b ∷ more) is = (is.0, inside_no_feed b more is.2)

-- two parts, one after the other
both_no_feed : (xs ys : List ℕ) → HasNoFeed xs → HasNoFeed ys → HasNoFeed (xs ++ ys)
both_no_feed = Each-append IsNoFeed

-- each text after the separator
after_no_feed : (between : List ℕ) (xs : List (List ℕ)) → HasNoFeed between → Each HasNoFeed xs → HasNoFeed (each_after between xs)
after_no_feed between [] h each = tt
after_no_feed between (x ∷ xs) h each =
    both_no_feed between (x ++ each_after between xs) h (both_no_feed x (each_after between xs) each.0 (after_no_feed between xs h each.1))

-- texts with the separator between them
joined_no_feed : (between : List ℕ) (xs : List (List ℕ)) → HasNoFeed between → Each HasNoFeed xs → HasNoFeed (joined between xs)
joined_no_feed between [] h each = tt
joined_no_feed between (x ∷ xs) h each = both_no_feed x (each_after between xs) each.0 (after_no_feed between xs h each.1)

-- a name with its arguments
call_no_feed : (f : List ℕ) (xs : List (List ℕ)) → IsId f → Each HasNoFeed xs → HasNoFeed (call_text f xs)
call_no_feed f [] is each = parts_no_feed f (id_parts f is)
call_no_feed f (x ∷ xs) is each =
    both_no_feed f (40 ∷ (joined (codes ",") (x ∷ xs) ++ codes ")")) (parts_no_feed f (id_parts f is)) (
      λ e. omega arith,
      both_no_feed (joined (codes ",") (x ∷ xs)) (codes ")") (joined_no_feed (codes ",") (x ∷ xs) (mark_no_feed 44 (λ e. omega arith)) each) (mark_no_feed 41 (λ e. omega arith)),
    )

-- ---- values

-- the text of the value has no line feed where its names and texts are those of the language
abbrev IsWhole : Value → Type 0
IsWhole v = IsReadableValue v → HasNoFeed (value_text v)

-- a value with its proof
abbrev Proved : Type 0
Proved = (v : Value) × IsWhole v

-- texts of arguments
each_no_feed : (vs : List Value) → Each IsWhole vs → Each IsReadableValue vs → Each HasNoFeed (map value_text vs)
each_no_feed [] whole h = tt
each_no_feed (v ∷ vs) whole h = (whole.0 h.0, each_no_feed vs whole.1 h.1)

-- values with their proofs
each_whole : (es : List Proved) → Each IsWhole (map (λ e. e.0) es)
each_whole [] = tt
each_whole (e ∷ es) = (e.1, each_whole es)

-- a value, by its outermost symbol
by_layer : (y : Value-F Value)
    → (Each IsAllowed (value_parts_step (map-Value Value (List Part) value_parts y)) → HasNoFeed (value_text_step (map-Value Value (List ℕ) value_text y)))
    → IsWhole (roll-Value y)
by_layer y step h =
    subst HasNoFeed (sym (fold-roll-Value (List ℕ) value_text_step y)) (step (subst (Each IsAllowed) (fold-roll-Value (List Part) value_parts_step y) h))

-- a value of each kind, where what it is made of is proved
layer_whole : (y : Value-F Proved) → IsWhole (roll-Value (map-Value Proved Value (λ e. e.0) y))
layer_whole (layer.Int z) = by_layer (layer.Int z) (λ h. parts_no_feed (integer_text z) (integer_parts z))
layer_whole (layer.Symbol x) = by_layer (layer.Symbol x) (λ h. parts_no_feed x (id_parts x h.0))
layer_whole (layer.Text x) =
    by_layer (layer.Text x) (λ h. (λ e. omega arith, both_no_feed x (codes "\"") (inside_no_feed 34 x h.0) (mark_no_feed 34 (λ e. omega arith))))
layer_whole (layer.Fun f e es) =
    let vs : List Value = map (λ (p : Proved). p.0) es in
    by_layer (layer.Fun f e.0 vs) (λ h.
    call_no_feed f (map value_text (e.0 ∷ vs)) h.0 (each_no_feed (e.0 ∷ vs) (e.1, each_whole es) (each_readable (e.0 ∷ vs) h.1)))

-- every value, by induction over what it is made of
value_whole : (v : Value) → IsWhole v
value_whole = ind-Value IsWhole (λ x y is. subst (λ z. IsWhole (roll-Value z)) is (layer_whole y))

-- every list of values
values_whole : (vs : List Value) → Each IsWhole vs
values_whole [] = tt
values_whole (v ∷ vs) = (value_whole v, values_whole vs)

-- ---- atoms and lines

-- the sign of an atom
sign_no_feed : (sign : Bool) → HasNoFeed (sign_text sign)
sign_no_feed false = tt
sign_no_feed true = mark_no_feed 45 (λ e. omega arith)

-- the text of an atom
atom_no_feed : (a : Atom) → IsReadable a → HasNoFeed (atom_text a)
atom_no_feed a h =
    both_no_feed (sign_text a.negated) (call_text a.name (map value_text a.args)) (sign_no_feed a.negated)
    (call_no_feed a.name (map value_text a.args) h.named (each_no_feed a.args (values_whole a.args) h.arguments))

-- the texts of atoms
atoms_no_feed : (atoms : List Atom) → Each IsReadable atoms → Each HasNoFeed (map atom_text atoms)
atoms_no_feed [] h = tt
atoms_no_feed (a ∷ atoms) h = (atom_no_feed a h.0, atoms_no_feed atoms h.1)

-- the line of a set of readable atoms is one whole line, which begins with `{`
pub lines_of_readable_atoms_are_whole : LinesOfReadableAtomsAreWhole
lines_of_readable_atoms_are_whole I line each set =
    let texts : List ℕ = joined (codes ", ") (map atom_text set.sorted) in
    let readable = sorted_readable I set.sorted set.same each in
    let whole : HasNoFeed (texts ++ codes "}") =
    both_no_feed texts (codes "}") (joined_no_feed (codes ", ") (map atom_text set.sorted) (λ e. omega arith, mark_no_feed 32 (λ e. omega arith)) (atoms_no_feed set.sorted readable))
    (mark_no_feed 125 (λ e. omega arith)) in
    record {
      inner = texts ++ codes "}";
      is = set.text ∙ ap (λ xs. 123 ∷ xs) (sym (append_assoc texts (codes "}") (10 ∷ [])));
      no_feed = λ among. Each-at IsNoFeed (texts ++ codes "}") 10 whole among refl;
    }
