use Rattle.std.proofs.Common.{◌∙◌, ap, List, ℕ}
use Rattle.std.specs.Prelude.{option_map}
use Rattle.std.proofs.lemmas.Result.{on_ok_weaker}
use Rattle.alpha_outside.specs.declared.event.Event.TheVariants as say
use Rattle.alpha_outside.specs.Outside.{with_event}
use Rattle.search_journals.proofs.Stepping.{err_both}
use Rattle.search_journals.proofs.Showing.{carries_pass, leaves_unpassed}
use Rattle.enumerator.proofs.showing.pass.Goals as goal

pub returns-clause-carries : goal.returns-clause-carries
returns-clause-carries g c = on_ok_weaker c.noted.result
    (λ t book among held left rest. carries_pass book c.args.search.now c.show.new.self _ _ held c.args.ids.items c.args.line.now c.requires.ready
    c.requires.full c.requires.atoms.0 c.requires.atoms.1 among c.show.ensures
    (t ∙ ap (λ (xs : List ℕ). option_map (with_event (say.Passed xs)) (g.T.Trace.journal c.args.trace.now)) c.from_vec-atoms.ensures) left rest)
    c.noted.ensures.ok

pub returns-clause-err : goal.returns-clause-err
returns-clause-err g c = err_both c.noted.result
    (λ f same cause g' fits held left rest room s sink. leaves_unpassed c.args.search.now _ _ held sink _ _ f same cause g' fits left rest room s)
    c.noted.ensures.unchanged c.noted.ensures.cause
