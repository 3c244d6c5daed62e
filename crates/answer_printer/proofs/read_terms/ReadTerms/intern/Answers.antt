use Rattle.std.proofs.Common.{◌≡◌, sym, subst, IfOk, length}
use Rattle.alpha_outside.specs.Nodes.{node_eq}
use Rattle.alpha_outside.specs.NodeLaws.{node_same, node_itself}
use Rattle.term_pool.specs.Interning.{IsInterned}
use Rattle.term_pool.specs.Nodes.{PartsBelow, KeepsValues, value_at, value_from, values}
use Rattle.atom_pool.proofs.Gains.{gains}
use Rattle.answer_printer.proofs.ReadTermsLemmas.{IsKept, interned_value, changed, unchanged}
use Rattle.answer_printer.proofs.read_terms.ReadTerms.intern.Goals as goal
use Rattle.answer_printer.proofs.read_terms.ReadTerms.intern.Goals.{in-Ok, in-Err}

kept : (c : goal.Joined-intern) → IsKept c.self.inside.nodes.keys c.intern.new.keys.keys
kept c = elim c.match-intern.branch [
  | in-Ok w ↦ changed c.self.inside.nodes.keys c.intern.new.keys.keys c.args.node w.in-Ok.place
      (gains node_eq node_same node_itself c.self.inside.nodes.keys c.intern.new.keys.keys c.args.node w.in-Ok.place w.in-Ok.ensures.keys w.in-Ok.ensures.stored c.self.invariant.once)
      c.self.invariant (subst (λ ns. PartsBelow (length ns) c.args.node) (sym c.self.view_is) c.requires.parts) c.requires.arguments
  | in-Err w ↦ unchanged c.self.inside.nodes.keys c.intern.new.keys.keys w.in-Err.ensures.err c.self.invariant
]

pub invariant_of-self : goal.invariant_of-self
invariant_of-self c = (kept c).pool

pub returns-clause-ok : goal.returns-clause-ok
returns-clause-ok c = elim c.match-intern.branch [
  | in-Ok w ↦ subst (λ r. IfOk r (λ id. IsInterned c.args.self.now c.intern.new.keys.keys c.args.node id)) (sym w.result-is)
      (subst (λ ns. IsInterned ns c.intern.new.keys.keys c.args.node w.in-Ok.place) c.self.view_is
      (gains node_eq node_same node_itself c.self.inside.nodes.keys c.intern.new.keys.keys c.args.node w.in-Ok.place w.in-Ok.ensures.keys w.in-Ok.ensures.stored c.self.invariant.once))
  | in-Err w ↦ subst (λ r. IfOk r (λ id. IsInterned c.args.self.now c.intern.new.keys.keys c.args.node id)) (sym w.result-is) tt
]

pub returns-clause-value : goal.returns-clause-value
returns-clause-value c = elim c.match-intern.branch [
  | in-Ok w ↦ subst (λ r. IfOk r (λ id. value_at c.intern.new.keys.keys id ≡ value_from (values c.args.self.now) c.args.node)) (sym w.result-is)
      (subst (λ ns. value_at c.intern.new.keys.keys w.in-Ok.place ≡ value_from (values ns) c.args.node) c.self.view_is
      (interned_value c.self.inside.nodes.keys c.intern.new.keys.keys c.args.node w.in-Ok.place
      (gains node_eq node_same node_itself c.self.inside.nodes.keys c.intern.new.keys.keys c.args.node w.in-Ok.place w.in-Ok.ensures.keys w.in-Ok.ensures.stored c.self.invariant.once)
      c.self.invariant))
  | in-Err w ↦ subst (λ r. IfOk r (λ id. value_at c.intern.new.keys.keys id ≡ value_from (values c.args.self.now) c.args.node)) (sym w.result-is) tt
]

pub returns-clause-kept : goal.returns-clause-kept
returns-clause-kept c = subst (λ ns. KeepsValues ns c.intern.new.keys.keys) c.self.view_is (kept c).kept

pub returns-clause-pool : goal.returns-clause-pool
returns-clause-pool c = (kept c).pool
