use Rattle.std.proofs.Common.{sym, ap, ◌∙◌}
use Rattle.std.specs.Prelude.{min}
use Rattle.std.proofs.lemmas.Option.{same_Some}
use Rattle.search_fronts.proofs.Moving.{without_entry}
use Rattle.search_fronts.proofs.fronts.Fronts.fall.Goals as goal

pub returns : goal.returns
returns c = λ made places rest bodies counts are old.
    without_entry c.args.atoms.now.atoms made places c.args.entry.now rest c.args.self.now _ bodies are old
    c.below_named-self.ensures.fewer c.below_risen-self.ensures.fewer c.below_instance-self.ensures.fewer
    (λ named. c.below_named-self.ensures.low named.0 named.1 (same_Some _ _ (sym c.get-node.ensures.there ∙ named.2)))
    (λ named rises. c.below_risen-self.ensures.low rises named.0 named.1 (same_Some _ _ (sym c.get-node.ensures.there ∙ named.2)))
    (λ i body. c.below_instance-self.ensures.low i (same_Some _ _ (sym c.get-node.ensures.there ∙ body)))
    (c.min-self.ensures ∙ ap (min c.args.self.now.unclosed) (sym counts))
