-- What a pool says of a node that it does not take. The pool stays as it was.
use Rattle.std.specs.Prelude.{◌≡◌, ◌<◌, List}
use Rattle.alpha_outside.specs.declared.node.Node.{Node}
use Rattle.term_pool.specs.declared.fault.PoolFault.{PoolFault}
use Rattle.term_pool.specs.declared.fault.PoolFault.TheVariants as fault
use Rattle.term_pool.specs.Nodes.{most_symbols, values, value_from, value_size}

-- a term is refused for its size only where that is too large, and the answer says it
abbrev pub IsRefusal : List Node → List Node → Node → PoolFault → Type 0
IsRefusal old new n (fault.TooLarge size) = (new ≡ old) × (size ≡ value_size (value_from (values old) n)) × (most_symbols < size)
IsRefusal old new n fault.OutOfMemory = new ≡ old
