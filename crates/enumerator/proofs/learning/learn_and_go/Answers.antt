use Rattle.std.proofs.Common.{ap}
use Rattle.std.proofs.lemmas.Result.{err_from_is_err_and}
use Rattle.search_state.specs.Searching.{Searching}
use Rattle.search_journals.proofs.Ending.{turned_back, fault_then}
use Rattle.search_journals.proofs.Conflicts.{may_learn_new, new_low, new_once, new_jumps, new_firm, new_kept}
use Rattle.enumerator.proofs.learning.learn_and_go.Goals as goal

pub learn-requires-clause-may : goal.learn-requires-clause-may
learn-requires-clause-may g c = may_learn_new c.args.search.now c.args.struck c.requires.next c.args.lits c.args.level c.requires.new

pub learn-requires-clause-below : goal.learn-requires-clause-below
learn-requires-clause-below g c = new_low c.args.search.now c.args.struck c.requires.next c.args.lits c.args.level c.requires.new

pub learn-requires-clause-once : goal.learn-requires-clause-once
learn-requires-clause-once g c = new_once c.args.search.now c.args.struck c.requires.next c.args.lits c.args.level c.requires.new

pub returns-in_err-learn-clause-err : goal.returns-in_err-learn-clause-err
returns-in_err-learn-clause-err g c =
    let p = err_from_is_err_and c.from_residual.result c.from_residual.ensures.1 in
    rw (p.1, p.2) c.in_err-learn.ensures.err

pub back-requires-clause-kept : goal.back-requires-clause-kept
back-requires-clause-kept g c =
    new_kept c.args.search.now c.args.struck c.requires.next c.args.lits c.args.level c.requires.new c.learn.new.search
    c.in_ok-learn.ensures.learned

pub back-requires-clause-jumps : goal.back-requires-clause-jumps
back-requires-clause-jumps g c =
    let w = new_jumps c.args.search.now c.args.struck c.requires.next c.args.lits c.args.level c.requires.new c.learn.new.search
    c.in_ok-learn.ensures.learned in
    (_, w.0, w.1)

pub returns-in-Ok-clause-ok : goal.returns-in-Ok-clause-ok
returns-in-Ok-clause-ok g c =
    turned_back c.args.search.now c.learn.new.search c.back.new.search _ _ _ c.args.level
    (ap (λ (z : Searching). z.core) c.in_ok-learn.ensures.learned) c.in-Ok.ensures.back
    (new_firm c.args.search.now c.args.struck c.requires.next c.args.lits c.args.level c.requires.new c.learn.new.search
    c.in_ok-learn.ensures.learned)
    (new_kept c.args.search.now c.args.struck c.requires.next c.args.lits c.args.level c.requires.new c.learn.new.search
    c.in_ok-learn.ensures.learned)
    c.in_ok-learn.ensures.carries c.in-Ok.ensures.carries

pub returns-in-Err-clause-err : goal.returns-in-Err-clause-err
returns-in-Err-clause-err g c =
    fault_then c.args.search.now c.learn.new.search _ _ _ _ _ _ c.in-Err.fault (ap (λ (z : Searching). z.core) c.in_ok-learn.ensures.learned)
    c.in_ok-learn.ensures.later c.in_ok-learn.ensures.carries c.in-Err.ensures.err
