use Rattle.std.proofs.Common.{◌≡◌, sym, ◌∙◌, arith, subst}
use Rattle.lists.proofs.Places.{∈-get_or}
use Rattle.conflict_learning.proofs.Calls.{valued_place}
use Rattle.std.proofs.lemmas.List.{take_all}
use Rattle.conflict_learning.proofs.Highest.{AreSoFar, second_found, closed_found, next_lower, next_top, so_far_end}
use Rattle.conflict_learning.specs.Analysing.{level_at}
use Rattle.conflict_learning.proofs.levels.is_unit_below.Goals.{then-level-top+else-found, else-level-top}
use Rattle.conflict_learning.proofs.levels.is_unit_below.Goals as goal

pub is_closed_atom-requires-clause-placed : goal.is_closed_atom-requires-clause-placed
is_closed_atom-requires-clause-placed c =
    let h = c.requires.hold c.l-item.result (∈-get_or c.args.lits.now c.loop-l.l-index c.l-item.result c.loop-l-test.true c.l-item.is) in
    valued_place c.args.trail.now.atoms c.args.trail.now.stack c.entries.ensures.is_stack c.l-item.result.atom h.0 h.1

pub level-requires : goal.level-requires
level-requires c =
    let h = c.requires.hold c.l-item.result (∈-get_or c.args.lits.now c.loop-l.l-index c.l-item.result c.loop-l-test.true c.l-item.is) in
    record { holds = (h.0, h.1) }

pub returns-then-is_closed_atom-clause-no : goal.returns-then-is_closed_atom-clause-no
returns-then-is_closed_atom-clause-no c trivial =
    closed_found c.args.trail.now.stack c.args.lits.now c.args.top c.loop-l.l-index c.l-item.result c.loop-l-test.true c.l-item.is
    (c.is_closed_atom.ensures.yes c.if-is_closed_atom.true)

pub returns-then-found-clause-no : goal.returns-then-found-clause-no
returns-then-found-clause-no c trivial =
    let at : level_at c.args.trail.now.stack c.l-item.result ≡ c.args.top = sym c.level.ensures ∙ c.if-level-top.true in
    second_found c.args.trail.now.stack c.args.lits.now c.args.top c.loop-l.l-index c.l-item.result c.loop-l-test.true c.l-item.is
    c.requires.once c.requires.top_is c.loop-l.found c.if-found.true c.loop-l.invariant at

pub loop-l-preserved : goal.loop-l-preserved
loop-l-preserved c = elim c.if-level-top.branch [
  | then-level-top+else-found w ↦ (
      let at : level_at c.args.trail.now.stack c.l-item.result ≡ c.args.top = sym c.level.ensures ∙ w.if-level-top.true in
      let h = next_top c.args.trail.now.stack c.args.lits.now c.args.top c.loop-l.l-index c.l-item.result c.loop-l-test.true c.l-item.is
      c.loop-l.found w.if-found.false c.loop-l.invariant
      (c.is_closed_atom.ensures.no c.if-is_closed_atom.false) at in
      rw (w.found-is) h)
  | else-level-top w ↦ (
      let h = next_lower c.args.trail.now.stack c.args.lits.now c.args.top c.loop-l.l-index c.l-item.result c.loop-l-test.true c.l-item.is
      c.loop-l.found c.loop-l.invariant
      (c.is_closed_atom.ensures.no c.if-is_closed_atom.false) (λ q. w.if-level-top.false (c.level.ensures ∙ q)) in
      rw (w.found-is) h)
]

pub returns-clause-yes : goal.returns-clause-yes
returns-clause-yes c trivial =
    let all = take_all c.loop-l.l-index c.args.lits.now (let h = c.loop-l-test.false in omega (arith, h)) in
    so_far_end c.args.trail.now.stack c.args.lits.now c.args.top c.requires.top_is c.requires.above_0 c.loop-l.found
    (subst (AreSoFar c.args.trail.now.stack c.args.top c.loop-l.found) all c.loop-l.invariant)
