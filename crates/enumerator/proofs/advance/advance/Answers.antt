use Rattle.std.proofs.Common.{arith, subst}
use Rattle.std.proofs.lemmas.Result.{err_from_is_err_and}
use Rattle.search_journals.specs.Runs.{Stepped}
use Rattle.search_journals.proofs.Stepping.{runs_none, runs_on, runs_further, fault_on}
use Rattle.enumerator.proofs.advance.advance.Goals as goal

pub stepping-init : goal.stepping-init
stepping-init g c = record { runs = runs_none c.args.search.now _ c.requires.ready; later = omega arith }

pub returns-in_err-found-clause-err : goal.returns-in_err-found-clause-err
returns-in_err-found-clause-err g c =
    let p = err_from_is_err_and c.from_residual.result c.from_residual.ensures.1 in
    rw (p.1, p.2) (fault_on c.args.search.now c.stepping.search _ _ _ _ _ _ _ c.stepping.invariant.runs c.stepping.invariant.later
    c.in_err-found.ensures.err)

pub returns-then-is_halt-clause-runs : goal.returns-then-is_halt-clause-runs
returns-then-is_halt-clause-runs g c =
    runs_on c.args.search.now c.stepping.search c.next_move.new.search _ _ _ c.stepping.invariant.runs c.in_ok-found.ensures.goes_on.0

pub returns-in_err-halt-clause-err : goal.returns-in_err-halt-clause-err
returns-in_err-halt-clause-err g c =
    let p = err_from_is_err_and c.from_residual-in_err-halt.result c.from_residual-in_err-halt.ensures.1 in
    let a = c.stepping.invariant.later in
    let b = c.next_move.ensures.later in
    rw (p.1, p.2) (fault_on c.args.search.now c.next_move.new.search _ _ _ _ _ _ _
    (runs_on c.args.search.now c.stepping.search c.next_move.new.search _ _ _ c.stepping.invariant.runs c.in_ok-found.ensures.goes_on.0)
    (omega (arith, a, b)) c.in_err-halt.ensures.err)

pub returns-in-Some-clause-runs : goal.returns-in-Some-clause-runs
returns-in-Some-clause-runs g c =
    let stepped = subst (λ o. Stepped c.next_move.new.search c.step.new.search (g.T.Trace.journal c.next_move.new.trace)
    (g.T.Trace.journal c.step.new.trace) o) c.in-Some.is c.in_ok-halt.ensures.ok in
    runs_on c.args.search.now c.next_move.new.search c.step.new.search _ _ _
    (runs_on c.args.search.now c.stepping.search c.next_move.new.search _ _ _ c.stepping.invariant.runs c.in_ok-found.ensures.goes_on.0)
    stepped.0

pub stepping-smaller : goal.stepping-smaller
stepping-smaller g c =
    let less = (subst (λ o. Stepped c.next_move.new.search c.step.new.search (g.T.Trace.journal c.next_move.new.trace)
    (g.T.Trace.journal c.step.new.trace) o) c.in_default.is c.in_ok-halt.ensures.ok).1 in
    let no_more = c.in_ok-found.ensures.goes_on.1 in
    omega (arith, less, no_more)

pub stepping-preserved : goal.stepping-preserved
stepping-preserved g c =
    let a = c.stepping.invariant.later in
    let b = c.next_move.ensures.later in
    let d = c.step.ensures.later in
    record {
      runs = runs_further c.args.search.now c.next_move.new.search c.step.new.search _ _ _ _
          (runs_on c.args.search.now c.stepping.search c.next_move.new.search _ _ _ c.stepping.invariant.runs
          c.in_ok-found.ensures.goes_on.0) c.in_default.is c.in_ok-halt.ensures.ok;
      later = omega (arith, a, b, d);
    }
