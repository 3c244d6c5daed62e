-- What measuring a node answers.
use Rattle.std.specs.Prelude.{◌≡◌, ℕ, ◌+◌, ◌^◌, ◌<◌, ◌≤◌, Result, Ok, Err, [], ◌∷◌, ◌++◌, length}
use Rattle.alpha_outside.specs.declared.node.Node.{Node}
use Rattle.term_pool.specs.declared.measure.Measure.{Measure}
use Rattle.term_pool.specs.declared.fault.PoolFault.{PoolFault}
use Rattle.term_pool.specs.declared.fault.PoolFault.TheVariants as fault
use Rattle.term_pool.specs.Nodes.{most_symbols}
use Rattle.term_pool.specs.Table.{Entries, size_at, text_len_at, node_size, node_text_len}

-- these are the measures of a node that stands on this table
pub record IsMeasured (es : Entries) (n : Node) (m : Measure) : Type 0 where
  pub size : m.size ≡ node_size (size_at es) n
  pub text_len : m.text_len ≡ node_text_len (text_len_at es) n
  pub small : m.size ≤ most_symbols

-- the answer gives the measures; it refuses a term for its size only where that is too large, and says it
abbrev pub Measures : Entries → Node → Result Measure PoolFault → Type 0
Measures es n (Ok m) = IsMeasured es n m
Measures es n (Err (fault.TooLarge size)) = (size ≡ node_size (size_at es) n) × (most_symbols < size)
Measures es n (Err fault.OutOfMemory) = Unit {0}

-- the node stands last, or the table is as it was for want of memory
abbrev pub IsAdded : Entries → Entries → Node → Measure → Result ℕ PoolFault → Type 0
IsAdded old new n m (Ok id) = (id ≡ length old) × (length old + 1 < 2 ^ 32) × (new ≡ old ++ (n, m) ∷ [])
IsAdded old new n m (Err f) = (f ≡ fault.OutOfMemory) × (new ≡ old)
