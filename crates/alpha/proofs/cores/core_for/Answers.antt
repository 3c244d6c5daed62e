use Rattle.alpha.proofs.CoreLemmas.{can_rewrite, its_core_is_searchable, its_answer_sets}
use Rattle.alpha.proofs.cores.core_for.Goals as goal

pub rewrite-requires-clause-built : goal.rewrite-requires-clause-built
rewrite-requires-clause-built c = can_rewrite _ _ c.in-Ok.ensures.statements c.requires.built _ c.in-Ok-split.ensures.rules

pub returns-in-Ok-rewrite-clause-searchable : goal.returns-in-Ok-rewrite-clause-searchable
returns-in-Ok-rewrite-clause-searchable c =
    its_core_is_searchable _ _ c.in-Ok.ensures.statements c.requires.built _ c.in-Ok-split.ensures.rules _ c.in-Ok-rewrite.ensures.core c.in-Ok-rewrite.ensures.form c.in-Ok-rewrite.ensures.names

pub returns-in-Ok-rewrite-clause-answer_sets : goal.returns-in-Ok-rewrite-clause-answer_sets
returns-in-Ok-rewrite-clause-answer_sets c =
    its_answer_sets c.args.program.statements c.in-Ok.safe.statements c.in-Ok.ensures.statements c.requires.built c.in-Ok-split.rules c.in-Ok-split.ensures.rules c.in-Ok-rewrite.core c.in-Ok-rewrite.ensures.core
    c.in-Ok-split.ensures.answer_sets c.in-Ok-rewrite.ensures.answer_sets
