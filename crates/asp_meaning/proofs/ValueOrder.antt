-- The order of values: those that compare as equal are equal, each is equal to itself, and the order is total.
use Rattle.std.proofs.Common.{◌≡◌, ℕ, suc, ℤ, List, [], ◌∷◌, length, map, refl, sym, ap, subst, ◌∙◌, true≢false, arith}
use Rattle.std.specs.declared.cmp.Ordering.{Ordering}
use Rattle.std.specs.declared.cmp.Ordering.TheVariants.{Less, Equal, Greater}
use Rattle.std.specs.Ordering.{nat_cmp, int_cmp, ordering_then, ordering_reverse, is_eq, is_lt}
use Rattle.std.specs.Cmp.{Equal-is}
use Rattle.std.specs.Cmp.{IsTotalOrder}
use Rattle.std.proofs.lemmas.Cmp.{ranked, int_ranked, nat_cmp_total, int_cmp_total, nat_list_cmp_total}
use Rattle.std.proofs.lemmas.Slice.Eq.{bytes_eq-Decides}
use Rattle.std.proofs.lemmas.Map.Text.{is_eq-slice_cmp}
use Rattle.asp_meaning.specs.declared.value.Value.{Value}
use Rattle.asp_meaning.specs.declared.value.Value.TheVariants as value
use Rattle.asp_meaning.specs.declared.value.Value.TheOpen.{Value-F}
use Rattle.asp_meaning.specs.declared.value.Value.TheOpen as layer
use Rattle.asp_meaning.specs.declared.value.Value.TheViews.{out-Value, roll-Value, out-roll-Value, roll-out-Value}
use Rattle.asp_meaning.specs.declared.value.Value.TheFolds.{fold-roll-Value, ind-Value, map-Value}
use Rattle.asp_meaning.specs.Orders.{bytes_cmp, args_cmp, layer_cmp, value_cmp}

-- what is below is not level
pub less_equal : {A : Type 0} → Less ≡ Equal → A
less_equal e = absurd (true≢false (sym (ap is_eq e)))

-- what is above is not level
pub greater_equal : {A : Type 0} → Greater ≡ Equal → A
greater_equal e = absurd (true≢false (sym (ap is_eq e)))

-- where two orders leave two level, the first does
pub then_first : (r s : Ordering) → ordering_then r s ≡ Equal → r ≡ Equal
then_first Less s e = e
then_first Equal s e = refl
then_first Greater s e = e

-- and the second does
pub then_second : (r s : Ordering) → ordering_then r s ≡ Equal → s ≡ Equal
then_second Less s e = less_equal e
then_second Equal s e = e
then_second Greater s e = greater_equal e

-- bytes that compare as equal are equal
pub bytes_same : (xs ys : List ℕ) → bytes_cmp xs ys ≡ Equal → xs ≡ ys
bytes_same xs ys e = (bytes_eq-Decides xs ys).0 (sym (is_eq-slice_cmp xs ys) ∙ ap is_eq e)

-- bytes are level with themselves
pub bytes_itself : (xs : List ℕ) → bytes_cmp xs xs ≡ Equal
bytes_itself xs = (Equal-is (bytes_cmp xs xs)).0 (is_eq-slice_cmp xs xs ∙ (bytes_eq-Decides xs xs).1 refl)

-- what stays as it is when it is turned round is level
turned : (r : Ordering) → r ≡ ordering_reverse r → r ≡ Equal
turned Less e = absurd (true≢false (ap is_lt e))
turned Equal e = refl
turned Greater e = absurd (true≢false (sym (ap is_lt e)))

-- numbers that compare as equal are equal
pub nat_same : (x y : ℕ) → nat_cmp x y ≡ Equal → x ≡ y
nat_same x y e = ranked x y Equal (sym e)

-- a number is level with itself
pub nat_itself : (x : ℕ) → nat_cmp x x ≡ Equal
nat_itself x = turned (nat_cmp x x) (nat_cmp_total.antisymm x x)

-- integers that compare as equal are equal
pub int_same : (x y : ℤ) → int_cmp x y ≡ Equal → x ≡ y
int_same x y e = int_ranked x y Equal (sym e)

-- an integer is level with itself
pub int_itself : (x : ℤ) → int_cmp x x ≡ Equal
int_itself x = turned (int_cmp x x) (int_cmp_total.antisymm x x)

-- the order of two values that are given by their outermost layers
pub cmp_roll : (x y : Value-F Value)
    → value_cmp (roll-Value x) (roll-Value y) ≡ layer_cmp (map-Value Value (Value → Ordering) value_cmp x) y
cmp_roll x y = ap (λ (f : Value → Ordering). f (roll-Value y)) (fold-roll-Value (Value → Ordering) (λ u v. layer_cmp u (out-Value v)) x)
    ∙ ap (layer_cmp (map-Value Value (Value → Ordering) value_cmp x)) (out-roll-Value y)

-- the order of two values, by their outermost layers
pub by_layers : (v w : Value) (x y : Value-F Value) → roll-Value x ≡ v → roll-Value y ≡ w
    → value_cmp v w ≡ layer_cmp (map-Value Value (Value → Ordering) value_cmp x) y
by_layers v w x y p q = (λ i. value_cmp (sym p i) (sym q i)) ∙ cmp_roll x y

-- integers stand to one another as values as they do as integers
pub cmp-Int : (m n : ℤ) → value_cmp (value.Int m) (value.Int n) ≡ int_cmp m n
cmp-Int m n = by_layers (value.Int m) (value.Int n) (layer.Int m) (layer.Int n) (value.rolls-Int m) (value.rolls-Int n)

abbrev OnlyItself : Value → Type 0
OnlyItself v = (w : Value) → value_cmp v w ≡ Equal → v ≡ w

abbrev Proved : Type 0
Proved = (v : Value) × OnlyItself v

args_same : (es : List Proved) (ys : List Value) → length es ≡ length ys → args_cmp (map value_cmp (map (λ e. e.0) es)) ys ≡ Equal
    → map (λ e. e.0) es ≡ ys
args_same [] [] l e = refl
args_same [] (y ∷ ys) l e = absurd (omega arith)
args_same (x ∷ es) [] l e = absurd (omega arith)
args_same (x ∷ es) (y ∷ ys) l e =
    let first : x.0 ≡ y = x.1 y (then_first (value_cmp x.0 y) (args_cmp (map value_cmp (map (λ (p : Proved). p.0) es)) ys) e) in
    let rest : map (λ (p : Proved). p.0) es ≡ ys = args_same es ys (omega arith) (then_second (value_cmp x.0 y) (args_cmp (map value_cmp (map (λ (p : Proved). p.0) es)) ys) e) in
    λ i. first i ∷ rest i

length-firsts : (es : List Proved) → length (map value_cmp (map (λ e. e.0) es)) ≡ length es
length-firsts [] = refl
length-firsts (e ∷ es) = ap suc (length-firsts es)

layer_same : (x : Value-F Proved) (y : Value-F Value)
    → layer_cmp (map-Value Value (Value → Ordering) value_cmp (map-Value Proved Value (λ e. e.0) x)) y ≡ Equal
    → map-Value Proved Value (λ e. e.0) x ≡ y
layer_same (layer.Int m) (layer.Int n) e = ap layer.Int (int_same m n e)
layer_same (layer.Int m) (layer.Symbol t) e = less_equal e
layer_same (layer.Int m) (layer.Text t) e = less_equal e
layer_same (layer.Int m) (layer.Fun g y ys) e = less_equal e
layer_same (layer.Symbol s) (layer.Int n) e = greater_equal e
layer_same (layer.Symbol s) (layer.Symbol t) e = ap layer.Symbol (bytes_same s t e)
layer_same (layer.Symbol s) (layer.Text t) e = less_equal e
layer_same (layer.Symbol s) (layer.Fun g y ys) e = less_equal e
layer_same (layer.Text s) (layer.Int n) e = greater_equal e
layer_same (layer.Text s) (layer.Symbol t) e = greater_equal e
layer_same (layer.Text s) (layer.Text t) e = ap layer.Text (bytes_same s t e)
layer_same (layer.Text s) (layer.Fun g y ys) e = less_equal e
layer_same (layer.Fun f x xs) (layer.Int n) e = greater_equal e
layer_same (layer.Fun f x xs) (layer.Symbol t) e = greater_equal e
layer_same (layer.Fun f x xs) (layer.Text t) e = greater_equal e
layer_same (layer.Fun f x xs) (layer.Fun g y ys) e =
    let fs : List (Value → Ordering) = map value_cmp (map (λ (p : Proved). p.0) (x ∷ xs)) in
    let more : List (Value → Ordering) = map value_cmp (map (λ (p : Proved). p.0) xs) in
    let lengths : Ordering = nat_cmp (length fs) (length (y ∷ ys)) in
    let rest : Ordering = ordering_then (bytes_cmp f g) (args_cmp fs (y ∷ ys)) in
    let by_rest : rest ≡ Equal = then_second lengths rest e in
    let name : f ≡ g = bytes_same f g (then_first (bytes_cmp f g) (args_cmp fs (y ∷ ys)) by_rest) in
    let longer : length (x ∷ xs) ≡ length (y ∷ ys) = sym (length-firsts (x ∷ xs)) ∙ nat_same (length fs) (length (y ∷ ys)) (then_first lengths rest e) in
    let size : length xs ≡ length ys = omega arith in
    let by_args : args_cmp fs (y ∷ ys) ≡ Equal = then_second (bytes_cmp f g) (args_cmp fs (y ∷ ys)) by_rest in
    let first : x.0 ≡ y = x.1 y (then_first (value_cmp x.0 y) (args_cmp more ys) by_args) in
    let args : map (λ (p : Proved). p.0) xs ≡ ys = args_same xs ys size (then_second (value_cmp x.0 y) (args_cmp more ys) by_args) in
    λ i. layer.Fun (name i) (first i) (args i)

-- values that compare as equal are equal
pub value_same : (v w : Value) → value_cmp v w ≡ Equal → v ≡ w
value_same = ind-Value OnlyItself (λ x y is. subst (λ z. OnlyItself (roll-Value z)) is (λ w e.
    ap roll-Value (layer_same y (out-Value w) (sym (cmp_roll (map-Value Proved Value (λ e. e.0) y) (out-Value w)) ∙ ap (value_cmp (roll-Value (map-Value Proved Value (λ e. e.0) y))) (roll-out-Value w) ∙ e)) ∙ roll-out-Value w))

abbrev Itself : Value → Type 0
Itself v = value_cmp v v ≡ Equal

args_itself : (es : List ((v : Value) × Itself v)) → args_cmp (map value_cmp (map (λ e. e.0) es)) (map (λ e. e.0) es) ≡ Equal
args_itself [] = refl
args_itself (e ∷ es) =
    ap (λ r. ordering_then r (args_cmp (map value_cmp (map (λ (p : (v : Value) × Itself v). p.0) es)) (map (λ (p : (v : Value) × Itself v). p.0) es))) e.1 ∙ args_itself es

lists_itself : (fs : List (Value → Ordering)) (ys : List Value) (f g : List ℕ) → f ≡ g → length fs ≡ length ys → args_cmp fs ys ≡ Equal
    → ordering_then (nat_cmp (length fs) (length ys)) (ordering_then (bytes_cmp f g) (args_cmp fs ys)) ≡ Equal
lists_itself fs ys f g name size rest =
    ap (λ r. ordering_then r (ordering_then (bytes_cmp f g) (args_cmp fs ys))) (ap (nat_cmp (length fs)) (sym size) ∙ nat_itself (length fs))
    ∙ ap (λ r. ordering_then r (args_cmp fs ys)) (ap (bytes_cmp f) (sym name) ∙ bytes_itself f) ∙ rest

-- as many functions as values
pub length-compared : (xs : List Value) → length (map value_cmp xs) ≡ length xs
length-compared [] = refl
length-compared (x ∷ xs) = ap suc (length-compared xs)

abbrev ItsOwn : Type 0
ItsOwn = (v : Value) × Itself v

layer_itself : (x : Value-F ItsOwn)
    → layer_cmp (map-Value Value (Value → Ordering) value_cmp (map-Value ItsOwn Value (λ e. e.0) x)) (map-Value ItsOwn Value (λ e. e.0) x) ≡ Equal
layer_itself (layer.Int n) = int_itself n
layer_itself (layer.Symbol t) = bytes_itself t
layer_itself (layer.Text t) = bytes_itself t
layer_itself (layer.Fun f e es) =
    let vs : List Value = map (λ (p : ItsOwn). p.0) (e ∷ es) in lists_itself (map value_cmp vs) vs f f refl (length-compared vs) (args_itself (e ∷ es))

-- each value is level with itself
pub value_itself : (v : Value) → value_cmp v v ≡ Equal
value_itself = ind-Value Itself (λ x y is. subst (λ z. Itself (roll-Value z)) is
    (cmp_roll (map-Value ItsOwn Value (λ e. e.0) y) (map-Value ItsOwn Value (λ e. e.0) y) ∙ layer_itself y))

-- ---- the order is total

-- what is above is not below
pub greater_less : {A : Type 0} → Greater ≡ Less → A
greater_less e = absurd (true≢false (sym (ap is_lt e)))

-- what is level is not below
pub equal_less : {A : Type 0} → Equal ≡ Less → A
equal_less e = absurd (true≢false (sym (ap is_lt e)))

-- one order and then another, of three values in turn
then_less : (a b c p q r : Ordering) → (a ≡ Less → b ≡ Less → c ≡ Less) → (a ≡ Less → b ≡ Equal → c ≡ Less) → (a ≡ Equal → c ≡ b)
    → (a ≡ Equal → b ≡ Equal → p ≡ Less → q ≡ Less → r ≡ Less) → ordering_then a p ≡ Less → ordering_then b q ≡ Less → ordering_then c r ≡ Less
then_less Less Less c p q r f g h k u v = ap (λ o. ordering_then o r) (f refl refl)
then_less Less Equal c p q r f g h k u v = ap (λ o. ordering_then o r) (g refl refl)
then_less Less Greater c p q r f g h k u v = greater_less v
then_less Equal Less c p q r f g h k u v = ap (λ o. ordering_then o r) (h refl)
then_less Equal Equal c p q r f g h k u v = ap (λ o. ordering_then o r) (h refl) ∙ k refl refl u v
then_less Equal Greater c p q r f g h k u v = greater_less v
then_less Greater b c p q r f g h k u v = greater_less u

then_reverse : (a b p q : Ordering) → a ≡ ordering_reverse b → p ≡ ordering_reverse q
    → ordering_then a p ≡ ordering_reverse (ordering_then b q)
then_reverse a Less p q e f = ap (λ o. ordering_then o p) e
then_reverse a Equal p q e f = ap (λ o. ordering_then o p) e ∙ f
then_reverse a Greater p q e f = ap (λ o. ordering_then o p) e

abbrev Turns : Value → Type 0
Turns v = (w : Value) → value_cmp v w ≡ ordering_reverse (value_cmp w v)

abbrev Turned : Type 0
Turned = (v : Value) × Turns v

args_turn : (es : List Turned) (ys : List Value)
    → args_cmp (map value_cmp (map (λ e. e.0) es)) ys ≡ ordering_reverse (args_cmp (map value_cmp ys) (map (λ e. e.0) es))
args_turn [] [] = refl
args_turn [] (y ∷ ys) = refl
args_turn (e ∷ es) [] = refl
args_turn (e ∷ es) (y ∷ ys) =
    then_reverse (value_cmp e.0 y) (value_cmp y e.0) (args_cmp (map value_cmp (map (λ (p : Turned). p.0) es)) ys) (args_cmp (map value_cmp ys) (map (λ (p : Turned). p.0) es)) (e.1 y) (args_turn es ys)

sizes_turn : (us vs : List Value)
    → nat_cmp (length (map value_cmp us)) (length vs) ≡ ordering_reverse (nat_cmp (length (map value_cmp vs)) (length us))
sizes_turn us vs =
    (λ i. nat_cmp (length-compared us i) (length vs)) ∙ nat_cmp_total.antisymm (length us) (length vs)
    ∙ (λ i. ordering_reverse (nat_cmp (sym (length-compared vs) i) (length us)))

layer_turn : (x : Value-F Turned) (y : Value-F Value)
    → layer_cmp (map-Value Value (Value → Ordering) value_cmp (map-Value Turned Value (λ e. e.0) x)) y
    ≡ ordering_reverse (layer_cmp (map-Value Value (Value → Ordering) value_cmp y) (map-Value Turned Value (λ e. e.0) x))
layer_turn (layer.Int x) (layer.Int y) = int_cmp_total.antisymm x y
layer_turn (layer.Int x) (layer.Symbol y) = refl
layer_turn (layer.Int x) (layer.Text y) = refl
layer_turn (layer.Int x) (layer.Fun yf y ys) = refl
layer_turn (layer.Symbol x) (layer.Int y) = refl
layer_turn (layer.Symbol x) (layer.Symbol y) = nat_list_cmp_total.antisymm x y
layer_turn (layer.Symbol x) (layer.Text y) = refl
layer_turn (layer.Symbol x) (layer.Fun yf y ys) = refl
layer_turn (layer.Text x) (layer.Int y) = refl
layer_turn (layer.Text x) (layer.Symbol y) = refl
layer_turn (layer.Text x) (layer.Text y) = nat_list_cmp_total.antisymm x y
layer_turn (layer.Text x) (layer.Fun yf y ys) = refl
layer_turn (layer.Fun xf x xs) (layer.Int y) = refl
layer_turn (layer.Fun xf x xs) (layer.Symbol y) = refl
layer_turn (layer.Fun xf x xs) (layer.Text y) = refl
layer_turn (layer.Fun xf x xs) (layer.Fun yf y ys) =
    let us : List Value = map (λ (p : Turned). p.0) (x ∷ xs) in
    let vs : List Value = y ∷ ys in
    then_reverse (nat_cmp (length (map value_cmp us)) (length vs)) (nat_cmp (length (map value_cmp vs)) (length us))
    (ordering_then (bytes_cmp xf yf) (args_cmp (map value_cmp us) vs)) (ordering_then (bytes_cmp yf xf) (args_cmp (map value_cmp vs) us)) (sizes_turn us vs)
    (then_reverse (bytes_cmp xf yf) (bytes_cmp yf xf) (args_cmp (map value_cmp us) vs) (args_cmp (map value_cmp vs) us) (nat_list_cmp_total.antisymm xf yf) (args_turn (x ∷ xs) vs))

value_turns : (v w : Value) → value_cmp v w ≡ ordering_reverse (value_cmp w v)
value_turns = ind-Value Turns (λ x y is. subst (λ z. Turns (roll-Value z)) is (λ w.
    let u : Value-F Value = map-Value Turned Value (λ e. e.0) y in
    ap (value_cmp (roll-Value u)) (sym (roll-out-Value w)) ∙ cmp_roll u (out-Value w) ∙ layer_turn y (out-Value w) ∙ ap ordering_reverse (sym (cmp_roll (out-Value w) u) ∙ ap (λ k. value_cmp k (roll-Value u)) (roll-out-Value w))))

abbrev Passes : Value → Type 0
Passes v = (y z : Value) → value_cmp v y ≡ Less → value_cmp y z ≡ Less → value_cmp v z ≡ Less

abbrev Passing : Type 0
Passing = (v : Value) × Passes v

length-passing : (es : List Passing) → length (map value_cmp (map (λ e. e.0) es)) ≡ length es
length-passing [] = refl
length-passing (e ∷ es) = ap suc (length-passing es)

args_pass : (es : List Passing) (ys zs : List Value) → length es ≡ length ys → length ys ≡ length zs
    → args_cmp (map value_cmp (map (λ e. e.0) es)) ys ≡ Less → args_cmp (map value_cmp ys) zs ≡ Less
    → args_cmp (map value_cmp (map (λ e. e.0) es)) zs ≡ Less
args_pass [] ys zs l m p q = equal_less p
args_pass (e ∷ es) [] zs l m p q = absurd (omega arith)
args_pass (e ∷ es) (y ∷ ys) [] l m p q = absurd (omega arith)
args_pass (e ∷ es) (y ∷ ys) (z ∷ zs) l m p q =
    let us : List Value = map (λ (p : Passing). p.0) es in
    then_less (value_cmp e.0 y) (value_cmp y z) (value_cmp e.0 z) (args_cmp (map value_cmp us) ys) (args_cmp (map value_cmp ys) zs) (args_cmp (map value_cmp us) zs)
    (e.1 y z) (λ f g. ap (value_cmp e.0) (sym (value_same y z g)) ∙ f) (λ f. ap (λ k. value_cmp k z) (value_same e.0 y f)) (λ _ _. args_pass es ys zs (omega arith) (omega arith)) p q

calls_pass : (f g h : List ℕ) (xs : List Passing) (ys zs : List Value)
    → ordering_then (nat_cmp (length (map value_cmp (map (λ e. e.0) xs))) (length ys)) (ordering_then (bytes_cmp f g) (args_cmp (map value_cmp (map (λ e. e.0) xs)) ys)) ≡ Less
    → ordering_then (nat_cmp (length (map value_cmp ys)) (length zs)) (ordering_then (bytes_cmp g h) (args_cmp (map value_cmp ys) zs)) ≡ Less
    → ordering_then (nat_cmp (length (map value_cmp (map (λ e. e.0) xs))) (length zs)) (ordering_then (bytes_cmp f h) (args_cmp (map value_cmp (map (λ e. e.0) xs)) zs)) ≡ Less
calls_pass f g h xs ys zs p q =
    let us : List Value = map (λ (k : Passing). k.0) xs in
    let many : length (map value_cmp ys) ≡ length ys = length-compared ys in
    then_less (nat_cmp (length (map value_cmp us)) (length ys)) (nat_cmp (length (map value_cmp ys)) (length zs)) (nat_cmp (length (map value_cmp us)) (length zs))
    (ordering_then (bytes_cmp f g) (args_cmp (map value_cmp us) ys)) (ordering_then (bytes_cmp g h) (args_cmp (map value_cmp ys) zs)) (ordering_then (bytes_cmp f h) (args_cmp (map value_cmp us) zs))
    (λ a b. nat_cmp_total.trans (length (map value_cmp us)) (length ys) (length zs) a (ap (λ n. nat_cmp n (length zs)) (sym many) ∙ b))
    (λ a b. ap (nat_cmp (length (map value_cmp us))) (sym (sym many ∙ nat_same (length (map value_cmp ys)) (length zs) b)) ∙ a)
    (λ a. ap (λ n. nat_cmp n (length zs)) (nat_same (length (map value_cmp us)) (length ys) a ∙ sym many))
    (λ a b. then_less (bytes_cmp f g) (bytes_cmp g h) (bytes_cmp f h) (args_cmp (map value_cmp us) ys) (args_cmp (map value_cmp ys) zs) (args_cmp (map value_cmp us) zs)
    (nat_list_cmp_total.trans f g h) (λ u v. ap (bytes_cmp f) (sym (bytes_same g h v)) ∙ u) (λ u. ap (λ k. bytes_cmp k h) (bytes_same f g u))
    (λ _ _. args_pass xs ys zs (sym (length-passing xs) ∙ nat_same (length (map value_cmp us)) (length ys) a) (sym many ∙ nat_same (length (map value_cmp ys)) (length zs) b)))
    p q

layer_pass : (x : Value-F Passing) (y z : Value-F Value)
    → layer_cmp (map-Value Value (Value → Ordering) value_cmp (map-Value Passing Value (λ e. e.0) x)) y ≡ Less
    → layer_cmp (map-Value Value (Value → Ordering) value_cmp y) z ≡ Less
    → layer_cmp (map-Value Value (Value → Ordering) value_cmp (map-Value Passing Value (λ e. e.0) x)) z ≡ Less
layer_pass (layer.Int x) (layer.Int y) (layer.Int z) p q = int_cmp_total.trans x y z p q
layer_pass (layer.Int x) (layer.Int y) (layer.Symbol z) p q = refl
layer_pass (layer.Int x) (layer.Int y) (layer.Text z) p q = refl
layer_pass (layer.Int x) (layer.Int y) (layer.Fun zf z zs) p q = refl
layer_pass (layer.Int x) (layer.Symbol y) (layer.Int z) p q = greater_less q
layer_pass (layer.Int x) (layer.Symbol y) (layer.Symbol z) p q = refl
layer_pass (layer.Int x) (layer.Symbol y) (layer.Text z) p q = refl
layer_pass (layer.Int x) (layer.Symbol y) (layer.Fun zf z zs) p q = refl
layer_pass (layer.Int x) (layer.Text y) (layer.Int z) p q = greater_less q
layer_pass (layer.Int x) (layer.Text y) (layer.Symbol z) p q = refl
layer_pass (layer.Int x) (layer.Text y) (layer.Text z) p q = refl
layer_pass (layer.Int x) (layer.Text y) (layer.Fun zf z zs) p q = refl
layer_pass (layer.Int x) (layer.Fun yf y ys) (layer.Int z) p q = greater_less q
layer_pass (layer.Int x) (layer.Fun yf y ys) (layer.Symbol z) p q = refl
layer_pass (layer.Int x) (layer.Fun yf y ys) (layer.Text z) p q = refl
layer_pass (layer.Int x) (layer.Fun yf y ys) (layer.Fun zf z zs) p q = refl
layer_pass (layer.Symbol x) (layer.Int y) (layer.Int z) p q = greater_less p
layer_pass (layer.Symbol x) (layer.Int y) (layer.Symbol z) p q = greater_less p
layer_pass (layer.Symbol x) (layer.Int y) (layer.Text z) p q = refl
layer_pass (layer.Symbol x) (layer.Int y) (layer.Fun zf z zs) p q = refl
layer_pass (layer.Symbol x) (layer.Symbol y) (layer.Int z) p q = greater_less q
layer_pass (layer.Symbol x) (layer.Symbol y) (layer.Symbol z) p q = nat_list_cmp_total.trans x y z p q
layer_pass (layer.Symbol x) (layer.Symbol y) (layer.Text z) p q = refl
layer_pass (layer.Symbol x) (layer.Symbol y) (layer.Fun zf z zs) p q = refl
layer_pass (layer.Symbol x) (layer.Text y) (layer.Int z) p q = greater_less q
layer_pass (layer.Symbol x) (layer.Text y) (layer.Symbol z) p q = greater_less q
layer_pass (layer.Symbol x) (layer.Text y) (layer.Text z) p q = refl
layer_pass (layer.Symbol x) (layer.Text y) (layer.Fun zf z zs) p q = refl
layer_pass (layer.Symbol x) (layer.Fun yf y ys) (layer.Int z) p q = greater_less q
layer_pass (layer.Symbol x) (layer.Fun yf y ys) (layer.Symbol z) p q = greater_less q
layer_pass (layer.Symbol x) (layer.Fun yf y ys) (layer.Text z) p q = refl
layer_pass (layer.Symbol x) (layer.Fun yf y ys) (layer.Fun zf z zs) p q = refl
layer_pass (layer.Text x) (layer.Int y) (layer.Int z) p q = greater_less p
layer_pass (layer.Text x) (layer.Int y) (layer.Symbol z) p q = greater_less p
layer_pass (layer.Text x) (layer.Int y) (layer.Text z) p q = greater_less p
layer_pass (layer.Text x) (layer.Int y) (layer.Fun zf z zs) p q = refl
layer_pass (layer.Text x) (layer.Symbol y) (layer.Int z) p q = greater_less p
layer_pass (layer.Text x) (layer.Symbol y) (layer.Symbol z) p q = greater_less p
layer_pass (layer.Text x) (layer.Symbol y) (layer.Text z) p q = greater_less p
layer_pass (layer.Text x) (layer.Symbol y) (layer.Fun zf z zs) p q = refl
layer_pass (layer.Text x) (layer.Text y) (layer.Int z) p q = greater_less q
layer_pass (layer.Text x) (layer.Text y) (layer.Symbol z) p q = greater_less q
layer_pass (layer.Text x) (layer.Text y) (layer.Text z) p q = nat_list_cmp_total.trans x y z p q
layer_pass (layer.Text x) (layer.Text y) (layer.Fun zf z zs) p q = refl
layer_pass (layer.Text x) (layer.Fun yf y ys) (layer.Int z) p q = greater_less q
layer_pass (layer.Text x) (layer.Fun yf y ys) (layer.Symbol z) p q = greater_less q
layer_pass (layer.Text x) (layer.Fun yf y ys) (layer.Text z) p q = greater_less q
layer_pass (layer.Text x) (layer.Fun yf y ys) (layer.Fun zf z zs) p q = refl
layer_pass (layer.Fun xf x xs) (layer.Int y) (layer.Int z) p q = greater_less p
layer_pass (layer.Fun xf x xs) (layer.Int y) (layer.Symbol z) p q = greater_less p
layer_pass (layer.Fun xf x xs) (layer.Int y) (layer.Text z) p q = greater_less p
layer_pass (layer.Fun xf x xs) (layer.Int y) (layer.Fun zf z zs) p q = greater_less p
layer_pass (layer.Fun xf x xs) (layer.Symbol y) (layer.Int z) p q = greater_less p
layer_pass (layer.Fun xf x xs) (layer.Symbol y) (layer.Symbol z) p q = greater_less p
layer_pass (layer.Fun xf x xs) (layer.Symbol y) (layer.Text z) p q = greater_less p
layer_pass (layer.Fun xf x xs) (layer.Symbol y) (layer.Fun zf z zs) p q = greater_less p
layer_pass (layer.Fun xf x xs) (layer.Text y) (layer.Int z) p q = greater_less p
layer_pass (layer.Fun xf x xs) (layer.Text y) (layer.Symbol z) p q = greater_less p
layer_pass (layer.Fun xf x xs) (layer.Text y) (layer.Text z) p q = greater_less p
layer_pass (layer.Fun xf x xs) (layer.Text y) (layer.Fun zf z zs) p q = greater_less p
layer_pass (layer.Fun xf x xs) (layer.Fun yf y ys) (layer.Int z) p q = greater_less q
layer_pass (layer.Fun xf x xs) (layer.Fun yf y ys) (layer.Symbol z) p q = greater_less q
layer_pass (layer.Fun xf x xs) (layer.Fun yf y ys) (layer.Text z) p q = greater_less q
layer_pass (layer.Fun xf x xs) (layer.Fun yf y ys) (layer.Fun zf z zs) p q = calls_pass xf yf zf (x ∷ xs) (y ∷ ys) (z ∷ zs) p q

value_passes : (v y z : Value) → value_cmp v y ≡ Less → value_cmp y z ≡ Less → value_cmp v z ≡ Less
value_passes = ind-Value Passes (λ x y is. subst (λ z. Passes (roll-Value z)) is (λ w z p q.
    let u : Value-F Value = map-Value Passing Value (λ e. e.0) y in
    let at : (k : Value) → value_cmp (roll-Value u) k ≡ layer_cmp (map-Value Value (Value → Ordering) value_cmp u) (out-Value k) = λ k. ap (value_cmp (roll-Value u)) (sym (roll-out-Value k)) ∙ cmp_roll u (out-Value k) in
    let next : value_cmp w z ≡ layer_cmp (map-Value Value (Value → Ordering) value_cmp (out-Value w)) (out-Value z) =
    (λ i. value_cmp (sym (roll-out-Value w) i) (sym (roll-out-Value z) i)) ∙ cmp_roll (out-Value w) (out-Value z) in
    at z ∙ layer_pass y (out-Value w) (out-Value z) (sym (at w) ∙ p) (sym next ∙ q)))

pub value_cmp_total : IsTotalOrder value_cmp
value_cmp_total = record { antisymm = value_turns; trans = value_passes; congr = λ x y z e. ap (λ k. value_cmp k z) (value_same x y e) }
