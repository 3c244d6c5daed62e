-- What `intern` leaves.
use Rattle.std.proofs.Common.{◌≡◌, inl, inr, ℕ, ◌<◌, ◌≤◌, List, [], ◌∷◌, ◌++◌, length, slice_get, Some, None, Result, Ok, Err, IfOk, refl, sym, ap, subst, ◌∙◌, arith}
use Rattle.std.specs.Prelude.{position}
use Rattle.std.specs.Map.{keys_of, values_of}
use Rattle.std.proofs.lemmas.List.{map-append}
use Rattle.std.proofs.lemmas.List.Elements.{All-get_or}
use Rattle.alpha_outside.specs.declared.node.Node.{Node}
use Rattle.alpha_outside.specs.Nodes.{node_eq}
use Rattle.term_pool.specs.declared.measure.Measure.{Measure}
use Rattle.term_pool.specs.declared.fault.PoolFault.{PoolFault}
use Rattle.term_pool.specs.declared.fault.PoolFault.TheVariants as fault
use Rattle.term_pool.specs.Interning.{IsInterned}
use Rattle.term_pool.specs.Nodes.{most_symbols, values, value_at, value_from, value_size, PartsBelow, HasArguments, IsPool, KeepsValues}
use Rattle.term_pool.specs.Table.{Entries, nothing, measure_at, IsTable}
use Rattle.term_pool.specs.Measured.{IsMeasured, Measures, IsAdded}
use Rattle.term_pool.specs.Refusals.{IsRefusal}
use Rattle.std.proofs.lemmas.Option.{slice_get_within}
use Rattle.term_pool.proofs.PlaceLemmas.{get-last, length-map}
use Rattle.term_pool.proofs.PoolLemmas.{value_here, value_at-last, KeepsValues-push}
use Rattle.term_pool.proofs.TableLemmas.{IsTable-push, node_size-is, size-there, found, absent}

length-keys : (es : Entries) → length (keys_of es) ≡ length es
length-keys es = length-map (λ (x : Node × Measure). x.0) es

parts_here : (es : Entries) (n : Node) → PartsBelow (length (keys_of es)) n → PartsBelow (length es) n
parts_here es n h = subst (λ k. PartsBelow k n) (length-keys es) h

pub IsTable-added : (es fs : Entries) (n : Node) (m : Measure) (r : Result ℕ PoolFault) → IsTable es → PartsBelow (length (keys_of es)) n → HasArguments n
    → position (node_eq n) (keys_of es) ≡ None → IsMeasured es n m → IsAdded es fs n m r → IsTable fs
IsTable-added es fs n m (Ok id) t low has none is h = subst IsTable (sym h.2) (IsTable-push es n m t (parts_here es n low) has (absent (keys_of es) n none) is h.1)
IsTable-added es fs n m (Err f) t low has none is h = subst IsTable (sym h.1) t

pub known_before : (ns : List Node) (n : Node) (i : ℕ) → IsPool ns → position (node_eq n) ns ≡ Some i → IsInterned ns ns n i
known_before ns n i p e = record {
  there = found ns n i e;
  grown = inl refl;
  known = λ j at. (refl, p.once i j n (found ns n i e) at);
  added = λ none. absurd (none i (found ns n i e));
}

new_keys : (es fs : Entries) (n : Node) (m : Measure) → fs ≡ es ++ (n, m) ∷ [] → keys_of fs ≡ keys_of es ++ n ∷ []
new_keys es fs n m e = ap keys_of e ∙ map-append (λ (x : Node × Measure). x.0) es ((n, m) ∷ [])

pub new_last : (es fs : Entries) (n : Node) (m : Measure) (r : Result ℕ PoolFault) → position (node_eq n) (keys_of es) ≡ None → IsAdded es fs n m r
    → IfOk r (λ id. IsInterned (keys_of es) (keys_of fs) n id)
new_last es fs n m (Err f) none h = tt
new_last es fs n m (Ok id) none h = record {
  there = ap (λ ks. slice_get ks id) keys ∙ ap (slice_get (keys_of es ++ n ∷ [])) place ∙ get-last (keys_of es) n;
  grown = inr keys;
  known = λ i at. absurd (absent (keys_of es) n none i at);
  added = λ other. (keys, place);
}
  where
    keys : keys_of fs ≡ keys_of es ++ n ∷ []
    keys = new_keys es fs n m h.2

    place : id ≡ length (keys_of es)
    place = h.0 ∙ sym (length-keys es)

pub refused : (es : Entries) (n : Node) (f : PoolFault) → IsTable es → PartsBelow (length (keys_of es)) n → Measures es n (Err f) → IsRefusal (keys_of es) (keys_of es) n f
refused es n (fault.TooLarge size) t low h = (refl, h.0 ∙ node_size-is es n t (parts_here es n low), h.1)
refused es n fault.OutOfMemory t low h = refl

-- no term of a table is too large
pub small_there : (es : Entries) (ns : List Node) (i : ℕ) → IsTable es → keys_of es ≡ ns → i < length ns → value_size (value_at ns i) ≤ most_symbols
small_there es ns i t keys lt =
    let within : i < length es = omega (arith, lt, ap length keys, length-keys es) in
    let some : i < length (values_of es) = omega (arith, within, length-map (λ (x : Node × Measure). x.1) es) in
    let small : (measure_at es i).size ≤ most_symbols = All-get_or (λ (m : Measure). m.size ≤ most_symbols) (values_of es) i nothing some t.small in
    subst (λ ks. value_size (value_at ks i) ≤ most_symbols) keys (omega (arith, size-there es t i within, small))

-- the value of a node that was there before
pub known_value : (ns : List Node) (n : Node) (i : ℕ) → IsPool ns → position (node_eq n) ns ≡ Some i → value_at ns i ≡ value_from (values ns) n
known_value ns n i p e = value_here ns p i n (found ns n i e)

pub known_small : (es : Entries) (n : Node) (i : ℕ) → IsTable es → position (node_eq n) (keys_of es) ≡ Some i → value_size (value_from (values (keys_of es)) n) ≤ most_symbols
known_small es n i t e =
    subst (λ v. value_size v ≤ most_symbols) (known_value (keys_of es) n i t.pool e)
    (small_there es (keys_of es) i t refl (slice_get_within (keys_of es) i n (found (keys_of es) n i e)))

-- the value of a node that was added
pub new_value : (es fs : Entries) (n : Node) (m : Measure) (r : Result ℕ PoolFault) → IsAdded es fs n m r → IfOk r (λ id. value_at (keys_of fs) id ≡ value_from (values (keys_of es)) n)
new_value es fs n m (Err f) h = tt
new_value es fs n m (Ok id) h =
    ap (λ ks. value_at ks id) (new_keys es fs n m h.2)
    ∙ ap (value_at (keys_of es ++ n ∷ [])) (h.0 ∙ sym (length-keys es))
    ∙ value_at-last (keys_of es) n

pub new_kept : (es fs : Entries) (n : Node) (m : Measure) (r : Result ℕ PoolFault) → IsAdded es fs n m r → KeepsValues (keys_of es) (keys_of fs)
new_kept es fs n m (Ok id) h = subst (KeepsValues (keys_of es)) (sym (new_keys es fs n m h.2)) (KeepsValues-push (keys_of es) n)
new_kept es fs n m (Err f) h = subst (KeepsValues (keys_of es)) (sym (ap keys_of h.1)) (omega arith, λ i lt. refl)

pub new_small : (es : Entries) (n : Node) (m : Measure) (r : Result ℕ PoolFault) → IsTable es → PartsBelow (length (keys_of es)) n → IsMeasured es n m
    → IfOk r (λ _. value_size (value_from (values (keys_of es)) n) ≤ most_symbols)
new_small es n m (Err f) t low is = tt
new_small es n m (Ok id) t low is = omega (arith, is.small, is.size, node_size-is es n t (parts_here es n low))
