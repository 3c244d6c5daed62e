use Rattle.std.proofs.Common.{ap, ◌∙◌, Some}
use Rattle.std.specs.Option.{option_eq}
use lib.Dec.{eqb}
use Rattle.search_state.proofs.Chosen.{choice_is}
use Rattle.search_state.proofs.finding.is_choice.Goals as goal

pub returns-in-Chosen : goal.returns-in-Chosen
returns-in-Chosen c = λ above rest cut.
    c.eq.ensures ∙ ap (λ o. option_eq eqb o (Some c.args.entry.now.level)) c.level_of.ensures
    ∙ choice_is c.args.trail.now.atoms c.args.trail.now.stack above rest c.args.entry.now c.requires.stack cut c.in-Chosen.is
