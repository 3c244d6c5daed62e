-- The measures of a table are those of its values.
use Rattle.std.proofs.Common.{◌≡◌, ℕ, pos, ◌+◌, ◌^◌, ◌<◌, ◌≤◌, Bool, true, false, not, cond, List, [], ◌∷◌, ◌++◌, length, get_or, map, slice_get, sum_by, Some, None, refl, sym, ap, subst, ◌∙◌, length-append, arith, true≢false, is_some}
use borrow.Author.Tests.{ltb-true, ltb-false}
use Rattle.std.specs.List.{position_or_len}
use Rattle.std.specs.Prelude.{sum, All, codes, position, nat_lt}
use Rattle.std.specs.Map.{keys_of, values_of}
use Rattle.std.proofs.lemmas.List.{map-append}
use Rattle.std.proofs.lemmas.List.Sums.{sum-map, sum_by-cons, prefix_len_stops, prefix_len_passes}
use Rattle.std.proofs.lemmas.List.Elements.{All-weaker, All-push}
use Rattle.std.proofs.lemmas.Option.{cond_some, slice_get-get_or, get_or_from_slice_get, slice_get_within}
use Rattle.alpha_outside.specs.declared.node.Node.{Node}
use Rattle.alpha_outside.specs.declared.node.Node.TheVariants as node
use Rattle.alpha_outside.specs.Nodes.{node_eq}
use Rattle.alpha_outside.specs.NodeLaws.{node_same, node_itself}
use Rattle.asp_meaning.specs.declared.value.Value.{Value}
use Rattle.asp_meaning.specs.declared.value.Value.TheVariants as value
use Rattle.asp_meaning.specs.Lines.{value_text, call_text, joined, each_after}
use Rattle.term_pool.specs.declared.measure.Measure.{Measure}
use Rattle.term_pool.specs.Nodes.{most_symbols, part, value_from, values, value_at, value_size, text_len_of, PartsBelow, HasArguments, IsPool}
use Rattle.asp_meaning.proofs.Layers.{text-Int, text-Symbol, text-Text, text-functional}
use Rattle.term_pool.specs.Table.{Entries, nothing, measure_at, size_at, text_len_at, node_size, node_text_len, marks, IsTable}
use Rattle.term_pool.specs.Measured.{IsMeasured}
use Rattle.term_pool.proofs.Sums.{measure_there}
use Rattle.term_pool.proofs.PlaceLemmas.{get_or-any, get_or-mapped, map-map, length-map, sum_by-same}
use Rattle.term_pool.proofs.PoolLemmas.{values-push, length-values, IsPool-push}
use Rattle.term_pool.proofs.ValueLemmas.{size-Int, size-Symbol, size-Text, size-functional}

-- a column of measures that is a column of values agrees with it at each place
column : (es : Entries) (of : Measure → ℕ) (is : Value → ℕ) (e : ℕ) → of nothing ≡ e
    → map of (values_of es) ≡ map is (values (keys_of es)) → (a : ℕ) → a < length es → of (measure_at es a) ≡ is (part (values (keys_of es)) a)
column es of is e z same a lt =
    sym (get_or-mapped of (values_of es) a nothing)
    ∙ ap (λ xs. get_or xs a (of nothing)) same
    ∙ get_or-any (map is (values (keys_of es))) a (of nothing) (is (value.Int (pos 0))) (subst (λ n. a < n) (sym size) lt)
    ∙ get_or-mapped is (values (keys_of es)) a (value.Int (pos 0))
  where
    size : length (map is (values (keys_of es))) ≡ length es
    size = length-map is (values (keys_of es)) ∙ length-values (keys_of es) ∙ length-map (λ (x : Node × Measure). x.0) es

pub size-there : (es : Entries) → IsTable es → (a : ℕ) → a < length es → size_at es a ≡ value_size (value_at (keys_of es) a)
size-there es t a lt = column es (λ m. m.size) value_size 0 refl t.sizes a lt

pub text_len-there : (es : Entries) → IsTable es → (a : ℕ) → a < length es → text_len_at es a ≡ text_len_of (value_at (keys_of es) a)
text_len-there es t a lt = column es (λ m. m.text_len) text_len_of 0 refl t.text_lens a lt

sum-mapped : {A B : Type 0} (f : B → ℕ) (g : A → B) (xs : List A) → sum (map f (map g xs)) ≡ sum_by (λ x. f (g x)) xs
sum-mapped f g xs = ap sum (map-map f g xs) ∙ sum-map (λ x. f (g x)) xs

pub node_size-is : (es : Entries) (n : Node) → IsTable es → PartsBelow (length es) n → node_size (size_at es) n ≡ value_size (value_from (values (keys_of es)) n)
node_size-is es (node.Int x) t h = sym (size-Int x)
node_size-is es (node.Symbol x) t h = sym (size-Symbol x)
node_size-is es (node.Text x) t h = sym (size-Text x)
node_size-is es (node.Fun f args) t h =
    let vs : List Value = values (keys_of es) in
    let same : sum_by (size_at es) args ≡ sum_by (λ a. value_size (part vs a)) args =
    sum_by-same (size_at es) (λ a. value_size (part vs a)) args (All-weaker (λ a. a < length es) (λ a. size_at es a ≡ value_size (part vs a)) (size-there es t) args h) in
    ap (λ k. 1 + k) (same ∙ sym (sum-mapped value_size (part vs) args)) ∙ sym (size-functional f (map (part vs) args))

after-length : (xs : List (List ℕ)) → length (each_after (codes ",") xs) ≡ length xs + sum (map length xs)
after-length [] = refl
after-length (x ∷ xs) = omega (arith, length-append x (each_after (codes ",") xs), after-length xs, sum_by-cons (λ (y : List ℕ). length y) x xs, sum-map (λ (y : List ℕ). length y) (x ∷ xs), sum-map (λ (y : List ℕ). length y) xs)

call-length : (f : List ℕ) (ts : List (List ℕ)) → length (call_text f ts) ≡ length f + (marks ts + sum (map length ts))
call-length f [] = omega arith
call-length f (x ∷ xs) =
    omega (
      arith,
      length-append f (codes "(" ++ (joined (codes ",") (x ∷ xs) ++ codes ")")),
      length-append (joined (codes ",") (x ∷ xs)) (codes ")"),
      length-append x (each_after (codes ",") xs),
      after-length xs,
      sum_by-cons (λ (y : List ℕ). length y) x xs,
      sum-map (λ (y : List ℕ). length y) (x ∷ xs),
      sum-map (λ (y : List ℕ). length y) xs,
    )

marks-map : {A B : Type 0} (g : A → B) (xs : List A) → marks (map g xs) ≡ marks xs
marks-map g [] = refl
marks-map g (x ∷ xs) = ap (λ k. 2 + k) (length-map g xs)

pub node_text_len-is : (es : Entries) (n : Node) → IsTable es → PartsBelow (length es) n → node_text_len (text_len_at es) n ≡ text_len_of (value_from (values (keys_of es)) n)
node_text_len-is es (node.Int x) t h = sym (ap length (text-Int x))
node_text_len-is es (node.Symbol x) t h = sym (ap length (text-Symbol x))
node_text_len-is es (node.Text x) t h = omega (arith, ap length (text-Text x), length-append x (codes "\""))
node_text_len-is es (node.Fun f args) t h =
    let vs : List Value = values (keys_of es) in
    let ts : List (List ℕ) = map value_text (map (part vs) args) in
    let same : sum_by (text_len_at es) args ≡ sum_by (λ a. text_len_of (part vs a)) args =
    sum_by-same (text_len_at es) (λ a. text_len_of (part vs a)) args (All-weaker (λ a. a < length es) (λ a. text_len_at es a ≡ text_len_of (part vs a)) (text_len-there es t) args h) in
    let sums : sum (map length ts) ≡ sum_by (λ a. text_len_of (part vs a)) args =
    ap sum (map-map length value_text (map (part vs) args)) ∙ sum-mapped text_len_of (part vs) args in
    let round : marks ts ≡ marks args = marks-map value_text (map (part vs) args) ∙ marks-map (part vs) args in
    ap (λ k. length f + k) (λ i. sym round i + (same ∙ sym sums) i) ∙ sym (call-length f ts) ∙ sym (ap length (text-functional f (map (part vs) args)))

-- a table with one more node
pub IsTable-push : (es : Entries) (n : Node) (m : Measure) → IsTable es → PartsBelow (length es) n → HasArguments n → ((i : ℕ) → slice_get (keys_of es) i ≡ Some n → ⊥)
    → IsMeasured es n m → length es + 1 < 2 ^ 32 → IsTable (es ++ (n, m) ∷ [])
IsTable-push es n m t low has new is few = record {
  pool = subst IsPool (sym keys) (IsPool-push (keys_of es) n t.pool (subst (λ k. PartsBelow k n) (sym (length-map (λ (x : Node × Measure). x.0) es)) low) has new);
  sizes = grown (λ k. k.size) value_size t.sizes (is.size ∙ node_size-is es n t low);
  text_lens = grown (λ k. k.text_len) text_len_of t.text_lens (is.text_len ∙ node_text_len-is es n t low);
  small = subst (All (λ k. k.size ≤ most_symbols)) (sym vals) (All-push (λ (k : Measure). k.size ≤ most_symbols) (values_of es) m t.small is.small);
  few = omega (arith, length-append es ((n, m) ∷ []));
}
  where
    keys : keys_of (es ++ (n, m) ∷ []) ≡ keys_of es ++ n ∷ []
    keys = map-append (λ (x : Node × Measure). x.0) es ((n, m) ∷ [])

    vals : values_of (es ++ (n, m) ∷ []) ≡ values_of es ++ m ∷ []
    vals = map-append (λ (x : Node × Measure). x.1) es ((n, m) ∷ [])

    grown : (of : Measure → ℕ) (is : Value → ℕ) → map of (values_of es) ≡ map is (values (keys_of es)) → of m ≡ is (value_from (values (keys_of es)) n)
        → map of (values_of (es ++ (n, m) ∷ [])) ≡ map is (values (keys_of (es ++ (n, m) ∷ [])))
    grown of is same here =
        ap (map of) vals ∙ map-append of (values_of es) (m ∷ []) ∙ (λ i. same i ++ here i ∷ [])
        ∙ sym (map-append is (values (keys_of es)) (value_from (values (keys_of es)) n ∷ []))
        ∙ ap (map is) (sym (values-push (keys_of es) n)) ∙ ap (λ ks. map is (values ks)) (sym keys)

differs_not : (b : Bool) → not b ≡ false → b ≡ true
differs_not true e = refl
differs_not false e = absurd (true≢false e)

same_not : (b : Bool) → not b ≡ true → b ≡ true → ⊥
same_not true e f = absurd (true≢false (sym e))
same_not false e f = absurd (true≢false (sym f))

none_false : (b : Bool) (k : ℕ) → cond b (Some k) None ≡ None → b ≡ false
none_false true k e = absurd (true≢false (ap is_some e))
none_false false k e = refl

-- what a search of the nodes says
pub found : (ns : List Node) (n : Node) (i : ℕ) → position (node_eq n) ns ≡ Some i → slice_get ns i ≡ Some n
found ns n i e =
    let k : ℕ = position_or_len (node_eq n) ns in
    let both : (nat_lt k (length ns) ≡ true) × (k ≡ i) = cond_some (nat_lt k (length ns)) k i e in
    let lt : k < length ns = ltb-true k (length ns) both.0 in
    let is : n ≡ get_or ns k n = node_same n (get_or ns k n) (differs_not (node_eq n (get_or ns k n)) (prefix_len_stops (λ x. not (node_eq n x)) ns n lt)) in
    ap (slice_get ns) (sym both.1) ∙ slice_get-get_or ns k n lt ∙ ap Some (sym is)

pub absent : (ns : List Node) (n : Node) → position (node_eq n) ns ≡ None → (i : ℕ) → slice_get ns i ≡ Some n → ⊥
absent ns n e i at =
    let k : ℕ = position_or_len (node_eq n) ns in
    let past : length ns ≤ k = ltb-false k (length ns) (none_false (nat_lt k (length ns)) k e) in
    let lt : i < length ns = slice_get_within ns i n at in
    let apart : not (node_eq n (get_or ns i n)) ≡ true = prefix_len_passes (λ x. not (node_eq n x)) ns i n (omega (arith, past, lt)) in
    same_not (node_eq n (get_or ns i n)) apart (ap (node_eq n) (get_or_from_slice_get ns i n n at) ∙ node_itself n)

pub size-answer : (es : Entries) (ns : List Node) (id place : ℕ) (m : Measure) → IsTable es → keys_of es ≡ ns → place ≡ id → id < length ns
    → slice_get (values_of es) place ≡ Some m → m.size ≡ value_size (value_at ns id)
size-answer es ns id place m t keys at lt is =
    ap (λ (k : Measure). k.size) (sym (measure_there es place m is)) ∙ ap (size_at es) at
    ∙ size-there es t id (omega (arith, lt, ap length keys, length-map (λ (x : Node × Measure). x.0) es)) ∙ ap (λ ks. value_size (value_at ks id)) keys

pub text_len-answer : (es : Entries) (ns : List Node) (id place : ℕ) (m : Measure) → IsTable es → keys_of es ≡ ns → place ≡ id → id < length ns
    → slice_get (values_of es) place ≡ Some m → m.text_len ≡ text_len_of (value_at ns id)
text_len-answer es ns id place m t keys at lt is =
    ap (λ (k : Measure). k.text_len) (sym (measure_there es place m is)) ∙ ap (text_len_at es) at
    ∙ text_len-there es t id (omega (arith, lt, ap length keys, length-map (λ (x : Node × Measure). x.0) es)) ∙ ap (λ ks. text_len_of (value_at ks id)) keys
