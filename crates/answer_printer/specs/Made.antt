-- What the tests make: terms on a stack, and a pool of atoms beside their terms.
use Rattle.std.specs.Prelude.{ℕ, ◌<◌, List, All, length}
use Rattle.alpha_outside.specs.declared.node.Node.{Node}
use Rattle.atom_pool.specs.Pools.{Pool}
use Rattle.atom_pool.specs.Meanings.{IsUserAtom, IsBeside}

-- the terms of the stack are there, the pool of atoms is beside their pool, and all its atoms are a user's
pub record AreMade (terms : List Node) (atoms : Pool) (stack : List ℕ) : Type 0 where
  pub within : All (λ a. a < length terms) stack
  pub beside : IsBeside atoms (length terms)
  pub users : (id : ℕ) → id < length atoms.atoms → IsUserAtom atoms id
