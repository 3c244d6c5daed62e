-- What a trace is told, event by event.
use Rattle.std.proofs.Common.{◌≡◌, List, [], ◌∷◌, ◌++◌, refl, ◌∙◌, ap, append_assoc}
use Rattle.std.specs.Prelude.{Option, Some, None, option_map}
use Rattle.alpha_outside.specs.declared.event.Event as event
use Rattle.alpha_outside.specs.Outside as outside
use Rattle.alpha_outside.specs.Outside.{with_event}
use Rattle.journal_theory.specs.Journals.{Says, replay}
use Rattle.core_rules.specs.declared.rules.Core.{Core}
use Rattle.search_rules.specs.Rules.{search_rules}
use Rattle.search_journals.specs.Journals.{Step, Adds, Tells}

-- one event more was told
added_on : (told0 told told' : Option outside.Journal) (events : List event.Event) (ev : event.Event) → Adds told0 told events
    → told' ≡ option_map (with_event ev) told → Adds told0 told' (events ++ ev ∷ [])
added_on None told told' events ev adds t = t ∙ ap (option_map (with_event ev)) adds
added_on (Some j) told told' events ev adds t = t ∙ ap (option_map (with_event ev)) adds
    ∙ ap (λ (z : List event.Event). let k : outside.Journal = record j { events = z } in Some k) (append_assoc j.events events (ev ∷ []))

-- one event more, which says the next of the journal
pub tells_on : (core : Core) (told0 told told' : Option outside.Journal) (journal : List Step) (e : Step) (ev : event.Event)
    → Tells core told0 told journal → Says (search_rules core) (replay (search_rules core) journal) ev e
    → told' ≡ option_map (with_event ev) told → Tells core told0 told' (e ∷ journal)
tells_on core told0 told told' journal e ev tells says t =
    (tells.0 ++ ev ∷ [], added_on told0 told told' tells.0 ev tells.1 t, (tells.0, ev, refl, tells.2, says))
