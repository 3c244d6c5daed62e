-- What a reader of sets has read, as a state of the machine.
use Rattle.std.specs.Prelude.{◌≡◌, ℕ, zero, suc, ◌<◌, ◌≤◌, List, [], ◌∷◌, ◌++◌, map, length, drop, All, Option, Some, None, Result, Ok, Err}
use Rattle.lists.specs.Lists.{◌∈◌}
use Rattle.alpha_outside.specs.declared.node.Node.{Node}
use Rattle.asp_meaning.specs.Atoms.{Atom}
use Rattle.term_pool.specs.Nodes.{value_at, IsPool}
use Rattle.atom_pool.specs.Pools.{Pool, IsAtomPool}
use Rattle.atom_pool.specs.Meanings.{atom_at, IsUserAtom, IsBeside}
use Rattle.answer_printer.specs.declared.fault.SetFault.{SetFault}
use Rattle.answer_printer.specs.declared.fault.SetFault.TheVariants.{NotASet, OutOfMemory}
use Rattle.answer_printer.specs.declared.reader.OpenCall.{OpenCall}
use Rattle.answer_printer.specs.declared.reader.Reader.{Reader}
use Rattle.answer_printer.specs.Machine.{Call, State}
use Rattle.answer_printer.specs.Sets.{IsSetText}
use Rattle.answer_printer.specs.Reading.{Leads}

-- an open call, whose arguments are terms of a pool
abbrev pub call_of : List Node → OpenCall → Call
call_of ns c = record { name = c.name; args = map (value_at ns) c.args }

-- open calls, whose last is the innermost, onto those outside of them
abbrev pub calls_onto : List Node → List OpenCall → List Call → List Call
calls_onto ns [] outer = outer
calls_onto ns (c ∷ cs) outer = calls_onto ns cs (call_of ns c ∷ outer)

-- the arguments of open calls stand before this place
abbrev pub AreCallsBelow : ℕ → List OpenCall → Type 0
AreCallsBelow n [] = Unit {0}
AreCallsBelow n (c ∷ cs) = All (λ a. a < n) c.args × AreCallsBelow n cs

-- the numbers below this one, in their order
abbrev pub below : ℕ → List ℕ
below zero = []
below (suc n) = below n ++ n ∷ []

-- the atoms of a pool are these
pub record AreAtomsOf (terms : List Node) (pool : Pool) (atoms : List Atom) : Type 0 where
  pub each_has_an_id : (a : Atom) → a ∈ atoms → (id : ℕ) × (id < length pool.atoms) × (a ≡ atom_at terms pool id)
  pub each_is_there : (id : ℕ) → id < length pool.atoms → atom_at terms pool id ∈ atoms

-- the reader stands in this state
pub record StandsIn (r : Reader) (s : State) : Type 0 where
  pub pool : IsPool r.terms
  pub atom_pool : IsAtomPool r.atoms
  pub beside : IsBeside r.atoms (length r.terms)
  pub users : (id : ℕ) → id < length r.atoms.atoms → IsUserAtom r.atoms id
  pub below : AreCallsBelow (length r.terms) r.calls
  pub atoms : AreAtomsOf r.terms r.atoms s.atoms
  pub negated : s.negated ≡ r.negated
  pub calls : s.calls ≡ calls_onto r.terms r.calls []
  pub phase : s.phase ≡ r.phase

-- the reader stands in the state that there is, or there is none
abbrev pub Gives : Option State → Reader → Result Unit SetFault → Type 0
Gives o r (Ok _) = (t : State) × (o ≡ Some t) × StandsIn r t
Gives o r (Err NotASet) = o ≡ None
Gives o r (Err OutOfMemory) = Unit {0}

-- bytes lead to the same sets from one state as other bytes from another
abbrev pub LeadAlike : State → List ℕ → State → List ℕ → Type 0
LeadAlike s bytes t rest = (atoms : List Atom) → (Leads s bytes atoms → Leads t rest atoms) × (Leads t rest atoms → Leads s bytes atoms)

-- some of the bytes were read, or they are the front of no set
abbrev pub Turns : State → List ℕ → Reader → Result ℕ SetFault → Type 0
Turns s bytes r (Ok n) = (0 < n) × (n ≤ length bytes) × (t : State) × StandsIn r t × LeadAlike s bytes t (drop n bytes)
Turns s bytes r (Err NotASet) = (atoms : List Atom) → ¬ Leads s bytes atoms
Turns s bytes r (Err OutOfMemory) = Unit {0}

-- what has been read is this set, up to order and repeats
abbrev pub HasRead : List ℕ → Result Reader SetFault → Type 0
HasRead text (Ok r) = (s : State) × StandsIn r s × IsSetText text s.atoms
HasRead text (Err NotASet) = (atoms : List Atom) → ¬ IsSetText text atoms
HasRead text (Err OutOfMemory) = Unit {0}
