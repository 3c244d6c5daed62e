use Rattle.std.proofs.Common.{sym, subst}
use Rattle.std.proofs.lemmas.Result.{IfOk-weaker}
use Rattle.journal_theory.specs.Events.{lits_at}
use Rattle.journal_theory.specs.Resolution.{EachRests}
use Rattle.conflict_learning.specs.Analysing.{AllHold, HasOpenHighest, CameFirst, IsUnitWhereOneIs, IsAnalysis}
use Rattle.search_state.specs.Searching.{Searching}
use Rattle.search_state.proofs.search.Search.analyse.Goals as goal

pub analyse-requires-clause-holds : goal.analyse-requires-clause-holds
analyse-requires-clause-holds c = subst (λ (v : Searching). AllHold v.stack (lits_at v.nogoods c.args.struck)) (sym c.self.view_is) c.requires.holds

pub analyse-requires-clause-rests : goal.analyse-requires-clause-rests
analyse-requires-clause-rests c = subst (λ (v : Searching). EachRests v.nogoods v.stack) (sym c.self.view_is) c.requires.rests

pub analyse-requires-clause-open_highest : goal.analyse-requires-clause-open_highest
analyse-requires-clause-open_highest c = subst (λ (v : Searching). HasOpenHighest v.stack (lits_at v.nogoods c.args.struck)) (sym c.self.view_is) c.requires.open_highest

pub analyse-requires-clause-first : goal.analyse-requires-clause-first
analyse-requires-clause-first c = subst (λ (v : Searching). CameFirst v.nogoods v.stack (lits_at v.nogoods c.args.struck)) (sym c.self.view_is) c.requires.first

pub analyse-requires-clause-preferred : goal.analyse-requires-clause-preferred
analyse-requires-clause-preferred c = subst (λ (v : Searching). IsUnitWhereOneIs v.nogoods v.stack (lits_at v.nogoods c.args.struck)) (sym c.self.view_is) c.requires.preferred

pub returns : goal.returns
returns c = IfOk-weaker c.analyse.result _ _
    (λ found is. subst (λ (v : Searching). IsAnalysis v.nogoods v.stack c.args.struck found) c.self.view_is is) c.analyse.ensures.analysis
