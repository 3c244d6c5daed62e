use Rattle.std.proofs.Common.{◌≡◌, length, sym, subst}
use Rattle.std.proofs.lemmas.Result.{IfOk-weaker}
use Rattle.unification.specs.Solving.{IsFree, IsTermOf}
use Rattle.unification.proofs.Applying.{applied_free, applied_formed, taken_as}
use Rattle.unification.proofs.solving.advance.Goals as goal

pub take-requires-clause-formed : goal.take-requires-clause-formed
take-requires-clause-formed c = (
  subst (IsTermOf (length c.args.terms.now.items) (length c.args.pool.now)) (sym c.in_ok-left.ensures) (applied_formed c.args.pool.now c.args.terms.now.items c.requires.known c.args.next.now.left c.requires.formed.0),
  subst (IsTermOf (length c.args.terms.now.items) (length c.args.pool.now)) (sym c.in_ok-right.ensures) (applied_formed c.args.pool.now c.args.terms.now.items c.requires.known c.args.next.now.right c.requires.formed.1),
)

pub take-requires-clause-left_free : goal.take-requires-clause-left_free
take-requires-clause-left_free c =
    subst (IsFree c.args.terms.now.items) (sym c.in_ok-left.ensures) (applied_free c.args.pool.now c.args.terms.now.items c.requires.known c.args.next.now.left c.requires.formed.0.0)

pub take-requires-clause-right_free : goal.take-requires-clause-right_free
take-requires-clause-right_free c =
    subst (IsFree c.args.terms.now.items) (sym c.in_ok-right.ensures) (applied_free c.args.pool.now c.args.terms.now.items c.requires.known c.args.next.now.right c.requires.formed.1.0)

pub returns : goal.returns
returns c = IfOk-weaker c.take.result _ _ (λ found k.
    taken_as c.args.pool.now c.args.terms.now.items c.requires.known c.args.next.now c.requires.formed c.in_ok-left.left c.in_ok-right.right c.args.todo.now.items _ _ found
    c.in_ok-left.ensures c.in_ok-right.ensures k) c.take.ensures
