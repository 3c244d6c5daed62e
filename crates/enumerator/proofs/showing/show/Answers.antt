use Rattle.std.proofs.Common.{◌∙◌, ap, refl, List, ℕ}
use Rattle.std.specs.Prelude.{option_map}
use Rattle.std.proofs.lemmas.Result.{on_ok_weaker}
use Rattle.alpha_outside.specs.declared.event.Event.TheVariants as say
use Rattle.alpha_outside.specs.Outside.{with_event}
use Rattle.search_journals.proofs.Stepping.{err_both}
use Rattle.search_journals.proofs.Showing.{carries_show, leaves_now, halts_within, leaves_behind, failed_answer, wanting_answer}
use Rattle.enumerator.proofs.showing.show.Goals as goal

pub returns-in-Err-Failed-clause-err : goal.returns-in-Err-Failed-clause-err
returns-in-Err-Failed-clause-err g c =
    let failed = failed_answer c.args.line.now _ _ _ _ c.in-Err-Failed.field-0 c.in-Err-Failed.field-0-is
    c.in-Err-Failed.ensures.answer in
    λ book out g' fits lists left rest room s. (
      failed.0,
      halts_within book c.args.search.now _ _ _ _ c.args.ids.items c.args.line.now c.requires.ready c.requires.full c.requires.atoms.0
          c.requires.atoms.1 out g' fits lists left rest failed.1.0 refl failed.1.1 room s,
    )

pub returns-in-Err-OutOfMemory-clause-err : goal.returns-in-Err-OutOfMemory-clause-err
returns-in-Err-OutOfMemory-clause-err g c =
    λ book out g' fits lists left rest room s. leaves_now c.args.search.now _ _ _ (0, 0) (0, 0) g' fits left rest
    (wanting_answer c.args.line.now _ _ _ _ c.in-Err-OutOfMemory.field-0 c.in-Err-OutOfMemory.field-0-is
    c.in-Err-OutOfMemory.ensures.answer) room s

pub returns-clause-carries : goal.returns-clause-carries
returns-clause-carries g c = on_ok_weaker c.noted.result
    (λ t book out left rest. carries_show book c.args.search.now c.show.new.self _ _ _ _ c.args.ids.items c.args.line.now c.requires.ready
    c.requires.full c.requires.atoms.0 c.requires.atoms.1 out c.in-Ok.ensures.answer c.show.ensures
    (t ∙ ap (λ (xs : List ℕ). option_map (with_event (say.Shown xs)) (g.T.Trace.journal c.args.trace.now)) c.from_vec-atoms.ensures) left rest)
    c.noted.ensures.ok

pub returns-clause-err : goal.returns-clause-err
returns-clause-err g c = err_both c.noted.result
    (λ f same cause book out g' fits lists left rest room s. leaves_behind book c.args.search.now _ _ _ _ c.args.ids.items c.args.line.now
    c.requires.ready c.requires.full c.requires.atoms.0 c.requires.atoms.1 out g' fits lists left rest (_, _) _ _ f same cause
    c.in-Ok.ensures.answer room s)
    c.noted.ensures.unchanged c.noted.ensures.cause
