use Rattle.std.proofs.Common.{rules, ◌≡◌, length, sym, subst}
use Rattle.std.proofs.lemmas.Result.{IfOk-weaker}
use Rattle.lists.specs.Lists.{Each}
use Rattle.unification.specs.Solving.{IsEquationOf, SolvedOrNot}
use Rattle.pattern_fitting.proofs.FittingLemmas.{own_known, todo_formed, exactly}
use Rattle.pattern_fitting.proofs.fitting.can_become.Goals as goal

pub solve-requires-clause-known : goal.solve-requires-clause-known
solve-requires-clause-known c =
    own_known c.args.pool.now c.args.holes c.in_ok-known.known.items c.in_ok-known.ensures

pub solve-requires-clause-formed : goal.solve-requires-clause-formed
solve-requires-clause-formed c =
    let many : length c.args.terms.now ≡ length c.args.ids.now = search rules in
    subst (Each (IsEquationOf (length c.in_ok-known.known.items) (length c.args.pool.now))) (sym c.in_ok-todo.ensures)
    (todo_formed c.args.pool.now c.args.holes c.in_ok-known.known.items c.args.terms.now c.args.ids.now c.in_ok-known.ensures c.requires.formed
    c.requires.below c.requires.there many)

pub returns : goal.returns
returns c =
    let many : length c.args.terms.now ≡ length c.args.ids.now = search rules in
    record {
      exact = IfOk-weaker c.solve.result _ _ (λ found k.
          exactly c.args.pool.now c.args.holes c.in_ok-known.known.items c.args.terms.now c.args.ids.now c.in_ok-known.ensures c.requires.formed
          c.requires.below c.requires.there many c.solve.new.terms.items found
          (subst (λ es. SolvedOrNot c.args.pool.now c.in_ok-known.known.items es c.solve.new.terms.items found) c.in_ok-todo.ensures k)) c.solve.ensures;
    }
