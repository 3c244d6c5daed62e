-- What a ground's instances and body atoms are in the state of a search that has told all.
use Rattle.std.proofs.Common.{◌≡◌, ℕ, zero, suc, ◌<◌, ◌∷◌, [], List, map, length, take, sym, ◌∙◌, ap, arith}
use Rattle.std.specs.Prelude.{Some, slice_get}
use Rattle.std.proofs.Math.Seq.{take-length}
use Rattle.std.proofs.lemmas.Option.{same_Some, slice_get_within}
use Rattle.std.proofs.lemmas.List.{length-map}
use Rattle.alpha_outside.specs.declared.node.Node.{Node}
use Rattle.alpha_outside.specs.declared.pred.Pred.{Pred}
use Rattle.core_rules.specs.declared.rules.CoreAggregate.{CoreAggregate}
use Rattle.core_meaning.specs.Atoms.{GroundAtom}
use Rattle.search_values.specs.Ids.{AtomNode, Named, BodyOf}
use Rattle.atom_pool.specs.declared.atom.AtomNode as arena
use Rattle.atom_pool.specs.declared.atom.AtomNode.TheVariants as node
use Rattle.ground_noting.specs.declared.telling.Told.{Told}
use Rattle.lazy_grounder.specs.Grounds.{name_of, names_of}
use Rattle.lazy_grounder.specs.Lawful.{IsLawful}
use Rattle.search_state.specs.Searching.{Searching, IsAllTold, names, made, made_of}
use Rattle.search_journals.proofs.Names.{front_at}

-- where all was told, all instances were noted
pub all_made : (v : Searching) → IsAllTold v → made v ≡ map (made_of v.ground.terms) v.ground.instances
all_made v told = ap (λ n. take n (map (made_of v.ground.terms) v.ground.instances)) count
    ∙ take-length (map (made_of v.ground.terms) v.ground.instances)
  where
    count : v.told.instances ≡ length (map (made_of v.ground.terms) v.ground.instances)
    count = ap (λ (t : Told). t.instances) told ∙ sym (length-map v.ground.instances (made_of v.ground.terms))

-- as many as there are
pub made_length : (v : Searching) → IsAllTold v → length (made v) ≡ length v.ground.instances
made_length v told = ap length (all_made v told) ∙ length-map v.ground.instances (made_of v.ground.terms)

-- ---- body atoms

-- an id that stands for a body is that of one
body_node : (aggs : List CoreAggregate) (nodes : List Node) (preds : List Pred) (atoms : List arena.AtomNode) (x j : ℕ)
    → slice_get (map (name_of aggs nodes preds) atoms) x ≡ Some (BodyOf j) → slice_get atoms x ≡ Some (node.Body j)
body_node aggs nodes preds [] x j e = absurd (cc)
body_node aggs nodes preds (node.Named p args ∷ atoms) zero j e = absurd (no_name _ j e)
  where
    no_name : (a : GroundAtom) (j : ℕ) → let n : AtomNode GroundAtom = BodyOf j in ¬ (Some (Named a) ≡ Some n)
    no_name a j q = cc
body_node aggs nodes preds (node.Body inst ∷ atoms) zero j e = ap (λ n. Some (node.Body n)) (same_number inst j e)
  where
    number_of : AtomNode GroundAtom → ℕ
    number_of (Named a) = 0
    number_of (BodyOf n) = n

    same_number : (i j : ℕ) → (let n : AtomNode GroundAtom = BodyOf i in let m : AtomNode GroundAtom = BodyOf j in Some n ≡ Some m) → i ≡ j
    same_number i j q = ap number_of (same_Some (BodyOf i) (BodyOf j) q)
body_node aggs nodes preds (n ∷ atoms) (suc x) j e = body_node aggs nodes preds atoms x j e

-- each body atom that was noted is that of an instance that was noted
abbrev pub BodiesAreMade : Searching → Type 0
BodiesAreMade v = (x j : ℕ) → slice_get (names v) x ≡ Some (BodyOf j) → j < length (made v)

-- so it is
pub bodies_made : (v : Searching) → IsLawful v.core v.ground → IsAllTold v → BodiesAreMade v
bodies_made v lawful told x j e =
    let there = lawful.bodies x j
    (body_node v.core.aggregates v.ground.terms v.ground.atoms.preds v.ground.atoms.atoms x j
    (front_at v.told.atoms (names_of v.core.aggregates v.ground) x (BodyOf j) e)) in
    let low = slice_get_within v.ground.instances j there.0 there.1 in
    let count = made_length v told in
    omega (arith, low, count)
