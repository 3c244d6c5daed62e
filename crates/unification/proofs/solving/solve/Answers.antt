use Rattle.std.proofs.Common.{rules, ◌≡◌, sym, subst}
use Rattle.unification.specs.Solving.{TakenOrNot}
use Rattle.unification.proofs.Applying.{all_taken, popped_formed, rest_formed, way_on, no_way}
use Rattle.unification.proofs.solving.solve.Goals as goal

pub returns-in-None : goal.returns-in-None
returns-in-None c = all_taken c.args.pool.now c.args.terms.now.items c.args.todo.now.items c.loop.terms.items c.loop.todo.items c.loop.invariant (search rules)

pub advance-requires-clause-formed : goal.advance-requires-clause-formed
advance-requires-clause-formed c =
    popped_formed c.args.pool.now c.args.terms.now.items c.args.todo.now.items c.loop.terms.items c.loop.todo.items c.loop.invariant c.pop.new.self.items c.in-Some.next c.in-Some.ensures.items

pub returns-then-not-branch : goal.returns-then-not-branch
returns-then-not-branch c =
    no_way c.args.pool.now c.args.terms.now.items c.args.todo.now.items c.loop.terms.items c.loop.todo.items c.loop.invariant c.pop.new.self.items c.in-Some.next c.in-Some.ensures.items
    (subst (TakenOrNot c.args.pool.now c.in-Some.next c.loop.terms.items c.pop.new.self.items c.advance.new.terms.items c.advance.new.todo.items) c.if-not-branch.true c.in_ok-advance-in-Some.ensures)

pub loop-preserved : goal.loop-preserved
loop-preserved c =
    way_on c.args.pool.now c.args.terms.now.items c.args.todo.now.items c.loop.terms.items c.loop.todo.items c.loop.invariant c.pop.new.self.items c.in-Some.next c.in-Some.ensures.items
    c.advance.new.terms.items c.advance.new.todo.items
    (subst (TakenOrNot c.args.pool.now c.in-Some.next c.loop.terms.items c.pop.new.self.items c.advance.new.terms.items c.advance.new.todo.items) c.if-not-branch.false c.in_ok-advance-in-Some.ensures)
