use Rattle.std.proofs.Common.{subst}
use Rattle.propagation.specs.Runs.{IsCause}
use Rattle.propagation.specs.declared.putting.PropFault.{PropFault}
use Rattle.search_journals.specs.declared.ends.SearchFault.TheVariants.{TraceFault, OutOfMemory}
use Rattle.search_journals.proofs.ValueRuns.{propagated_on, noted_fault_on}
use Rattle.enumerator.proofs.propagating.propagate.Goals as goal

pub returns-in-Ok-clause-goes_on : goal.returns-in-Ok-clause-goes_on
returns-in-Ok-clause-goes_on g c =
    propagated_on c.args.search.now _ c.requires
    (c.propagate.ensures.placed c.requires.kept.told) c.propagate.ensures.ids_fit c.propagate.new.self _ c.in-Ok.ensures.values

pub returns-in-Err-TraceFault-clause-err : goal.returns-in-Err-TraceFault-clause-err
returns-in-Err-TraceFault-clause-err g c =
    noted_fault_on c.args.search.now _ c.requires (c.propagate.ensures.placed c.requires.kept.told) c.propagate.ensures.ids_fit _
    (g.T.Trace.faults c.args.trace.now) (g.T.Trace.faults c.propagate.new.trace) TraceFault c.in-Err-TraceFault.ensures.err
    (subst (λ (f : PropFault). IsCause (g.T.Trace.faults c.args.trace.now)
    (g.T.Trace.faults c.propagate.new.trace) f) c.in-Err-TraceFault.field-0-is c.in-Err-TraceFault.ensures.cause)

pub returns-in-Err-OutOfMemory-clause-err : goal.returns-in-Err-OutOfMemory-clause-err
returns-in-Err-OutOfMemory-clause-err g c =
    noted_fault_on c.args.search.now _ c.requires (c.propagate.ensures.placed c.requires.kept.told) c.propagate.ensures.ids_fit _
    (g.T.Trace.faults c.args.trace.now) (g.T.Trace.faults c.propagate.new.trace) OutOfMemory c.in-Err-OutOfMemory.ensures.err tt
