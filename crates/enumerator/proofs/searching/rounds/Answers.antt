use Rattle.std.proofs.Common.{◌∙◌, subst, arith}
use Rattle.std.proofs.lemmas.Result.{err_from_is_err_and}
use Rattle.search_journals.specs.Settling.{Outcome}
use Rattle.search_journals.proofs.Standing.{round_fault}
use Rattle.search_journals.proofs.Ending.{leaves_fault}
use Rattle.search_journals.proofs.Rounding.{carries_on, stands_still, ends_on, leaves_on, round_falls}
use Rattle.enumerator.proofs.searching.rounds.Goals as goal

pub returns-in_err-found-clause-err : goal.returns-in_err-found-clause-err
returns-in_err-found-clause-err g c =
    let p = err_from_is_err_and c.from_residual.result c.from_residual.ensures.1 in
    rw (p.1, p.2) (leaves_on c.args.book.now c.args.search.now c.rounds.search _ _ _ _ _ _ _ _ _ _ _ _ _ _ _ c.rounds.invariant.core
    c.rounds.invariant.carries c.rounds.invariant.out_later c.rounds.invariant.later
    (λ g' fits lists s. leaves_fault c.rounds.search _ _ _ _ _ _ _
    (round_fault c.rounds.search _ _ _ _ _ _ c.in_err-found.ensures.err) g' fits _ _ c.rounds.invariant.room s))

pub settle-requires-clause-stands : goal.settle-requires-clause-stands
settle-requires-clause-stands g c =
    stands_still c.args.book.now c.args.search.now c.advance.new.search _ (g.T.Trace.journal c.advance.new.trace) _ _ _ _ c.rounds.left c.rounds.rest
    (c.in_ok-found.ensures.runs.core ∙ c.rounds.invariant.core)
    (carries_on c.args.book.now c.args.search.now c.rounds.search c.advance.new.search _ (g.T.Trace.journal c.rounds.trace) _ _
    (g.O.Sink.held c.rounds.out) _ _ (c.rounds.left, c.rounds.rest) _ c.rounds.invariant.core c.rounds.invariant.carries
    (λ g' fits lists s. c.in_ok-found.ensures.runs.carries (g.O.Sink.held c.rounds.out) c.rounds.left c.rounds.rest g' fits s))
    c.requires.stands

pub returns-in_err-finish-clause-err : goal.returns-in_err-finish-clause-err
returns-in_err-finish-clause-err g c =
    let p = err_from_is_err_and c.from_residual-in_err-finish.result c.from_residual-in_err-finish.ensures.1 in
    rw (p.1, p.2) (leaves_on c.args.book.now c.args.search.now c.advance.new.search _ (g.T.Trace.journal c.advance.new.trace) _ _
    (g.O.Sink.held c.rounds.out) _ _ (c.rounds.left, c.rounds.rest) _ _ _ _ _ _ _
    (c.in_ok-found.ensures.runs.core ∙ c.rounds.invariant.core)
    (carries_on c.args.book.now c.args.search.now c.rounds.search c.advance.new.search _ (g.T.Trace.journal c.rounds.trace) _ _
    (g.O.Sink.held c.rounds.out) _ _ (c.rounds.left, c.rounds.rest) _ c.rounds.invariant.core c.rounds.invariant.carries
    (λ g' fits lists s. c.in_ok-found.ensures.runs.carries (g.O.Sink.held c.rounds.out) c.rounds.left c.rounds.rest g' fits s))
    c.rounds.invariant.out_later (let a = c.rounds.invariant.later in let b = c.advance.ensures.later in omega (arith, a, b))
    c.in_err-finish.ensures.err)

pub returns-in-Some-clause-ok : goal.returns-in-Some-clause-ok
returns-in-Some-clause-ok g c =
    ends_on c.args.book.now c.args.search.now c.advance.new.search _ (g.T.Trace.journal c.advance.new.trace) _ _ (g.O.Sink.held c.rounds.out) _ _
    (c.rounds.left, c.rounds.rest) _ c.in-Some.how (c.in_ok-found.ensures.runs.core ∙ c.rounds.invariant.core)
    (carries_on c.args.book.now c.args.search.now c.rounds.search c.advance.new.search _ (g.T.Trace.journal c.rounds.trace) _ _
    (g.O.Sink.held c.rounds.out) _ _ (c.rounds.left, c.rounds.rest) _ c.rounds.invariant.core c.rounds.invariant.carries
    (λ g' fits lists s. c.in_ok-found.ensures.runs.carries (g.O.Sink.held c.rounds.out) c.rounds.left c.rounds.rest g' fits s))
    (subst (λ end. Outcome c.args.book.now c.advance.new.search c.settle.new.search (g.T.Trace.journal c.advance.new.trace)
    (g.T.Trace.journal c.settle.new.trace) (g.O.Sink.held c.rounds.out) (g.O.Sink.held c.settle.new.out) (c.rounds.left, c.rounds.rest)
    (c.settle.new.left, c.settle.new.rest) end) c.in-Some.is c.in_ok-finish.ensures.ok)

pub rounds-smaller : goal.rounds-smaller
rounds-smaller g c =
    let w = subst (λ end. Outcome c.args.book.now c.advance.new.search c.settle.new.search (g.T.Trace.journal c.advance.new.trace)
    (g.T.Trace.journal c.settle.new.trace) (g.O.Sink.held c.rounds.out) (g.O.Sink.held c.settle.new.out) (c.rounds.left, c.rounds.rest)
    (c.settle.new.left, c.settle.new.rest) end) c.in-None.is c.in_ok-finish.ensures.ok in
    round_falls c.args.book.now c.rounds.search c.advance.new.search c.settle.new.search _ _ _ _ c.rounds.rest c.settle.new.rest
    (stands_still c.args.book.now c.args.search.now c.rounds.search _ _ _ _ _ _ _ _ c.rounds.invariant.core c.rounds.invariant.carries c.requires.stands)
    c.in_ok-found.ensures.runs w.2

pub rounds-preserved : goal.rounds-preserved
rounds-preserved g c =
    let w = subst (λ end. Outcome c.args.book.now c.advance.new.search c.settle.new.search (g.T.Trace.journal c.advance.new.trace)
    (g.T.Trace.journal c.settle.new.trace) (g.O.Sink.held c.rounds.out) (g.O.Sink.held c.settle.new.out) (c.rounds.left, c.rounds.rest)
    (c.settle.new.left, c.settle.new.rest) end) c.in-None.is c.in_ok-finish.ensures.ok in
    record {
      ready = w.0.ready;
      room = w.1;
      core = w.0.core ∙ c.in_ok-found.ensures.runs.core ∙ c.rounds.invariant.core;
      carries = carries_on c.args.book.now c.args.search.now c.advance.new.search c.settle.new.search _ (g.T.Trace.journal c.advance.new.trace) _ _
          (g.O.Sink.held c.rounds.out) _ _ (c.rounds.left, c.rounds.rest) _ (c.in_ok-found.ensures.runs.core ∙ c.rounds.invariant.core)
          (carries_on c.args.book.now c.args.search.now c.rounds.search c.advance.new.search _ (g.T.Trace.journal c.rounds.trace) _ _
          (g.O.Sink.held c.rounds.out) _ _ (c.rounds.left, c.rounds.rest) _ c.rounds.invariant.core c.rounds.invariant.carries
          (λ g' fits lists s. c.in_ok-found.ensures.runs.carries (g.O.Sink.held c.rounds.out) c.rounds.left c.rounds.rest g' fits s))
          w.3;
      fewer = (let a = c.rounds.invariant.fewer in let b = c.settle.ensures.fewer in omega (arith, a, b));
      out_later = (let a = c.rounds.invariant.out_later in let b = c.settle.ensures.out_later in omega (arith, a, b));
      later = (let a = c.rounds.invariant.later in let b = c.advance.ensures.later in let d = c.settle.ensures.later in omega
          (arith, a, b, d));
    }
