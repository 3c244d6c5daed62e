use Rattle.std.proofs.Common.{ap}
use Rattle.std.proofs.lemmas.Result.{err_from_is_err_and}
use Rattle.search_state.specs.Searching.{Searching}
use Rattle.search_journals.proofs.Ending.{turned_back, fault_then}
use Rattle.search_journals.proofs.Conflicts.{kept_kept, kept_jumps, kept_firm}
use Rattle.enumerator.proofs.learning.keep_and_go.Goals as goal

pub returns-in_err-keep-clause-err : goal.returns-in_err-keep-clause-err
returns-in_err-keep-clause-err g c =
    let p = err_from_is_err_and c.from_residual.result c.from_residual.ensures.1 in
    rw (p.1, p.2) c.in_err-keep.ensures.err

pub keep-requires-clause-jumps : goal.keep-requires-clause-jumps
keep-requires-clause-jumps g c = (c.args.level, c.requires.jumps)

pub back-requires-clause-kept : goal.back-requires-clause-kept
back-requires-clause-kept g c = kept_kept c.args.search.now c.keep.new.search c.args.nogood c.in_ok-keep.ensures.kept_by c.requires.kept

pub back-requires-clause-jumps : goal.back-requires-clause-jumps
back-requires-clause-jumps g c =
    kept_jumps c.args.search.now c.keep.new.search c.args.nogood c.in_ok-keep.ensures.kept_by c.args.level c.requires.jumps

pub returns-in-Ok-clause-ok : goal.returns-in-Ok-clause-ok
returns-in-Ok-clause-ok g c =
    turned_back c.args.search.now c.keep.new.search c.back.new.search _ _ _ c.args.level
    (ap (λ (z : Searching). z.core) c.in_ok-keep.ensures.kept_by) c.in-Ok.ensures.back
    (kept_firm c.args.search.now c.keep.new.search c.args.nogood c.in_ok-keep.ensures.kept_by c.requires.firm)
    (kept_kept c.args.search.now c.keep.new.search c.args.nogood c.in_ok-keep.ensures.kept_by c.requires.kept)
    c.in_ok-keep.ensures.carries c.in-Ok.ensures.carries

pub returns-in-Err-clause-err : goal.returns-in-Err-clause-err
returns-in-Err-clause-err g c =
    fault_then c.args.search.now c.keep.new.search _ _ _ _ _ _ c.in-Err.fault (ap (λ (z : Searching). z.core) c.in_ok-keep.ensures.kept_by)
    c.in_ok-keep.ensures.later c.in_ok-keep.ensures.carries c.in-Err.ensures.err
