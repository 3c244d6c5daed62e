use Rattle.std.proofs.Common.{◌≡◌, ◌∙◌, sym, subst, IfOk, length, ◌≤◌}
use Rattle.std.specs.Map.{keys_of}
use Rattle.term_pool.specs.Interning.{IsInterned}
use Rattle.term_pool.specs.Nodes.{most_symbols, value_at, value_from, values, value_size, PartsBelow, KeepsValues}
use Rattle.term_pool.specs.Refusals.{IsRefusal}
use Rattle.term_pool.proofs.InternLemmas.{IsTable-added, known_before, known_value, known_small, new_last, new_value, new_kept, new_small, refused}
use Rattle.term_pool.proofs.pool.TermPool.intern.Goals as goal

pub invariant_of-self : goal.invariant_of-self
invariant_of-self c =
    IsTable-added c.self.inside.table.entries c.add.new.table.entries c.args.node c.in-Ok.measure c.add.result c.self.invariant
    (subst (λ ns. PartsBelow (length ns) c.args.node) (sym c.self.view_is) c.requires.parts) c.requires.arguments (sym c.get_index_of.ensures.index ∙ c.in-None.is) c.in-Ok.ensures c.add.ensures

pub returns-in-Some-clause-ok : goal.returns-in-Some-clause-ok
returns-in-Some-clause-ok c =
    subst (λ ns. IsInterned ns ns c.args.node c.in-Some.place) c.self.view_is
    (known_before (keys_of c.self.inside.table.entries) c.args.node c.in-Some.place c.self.invariant.pool (sym c.get_index_of.ensures.index ∙ c.in-Some.is))

pub returns-in-Err-clause-refused : goal.returns-in-Err-clause-refused
returns-in-Err-clause-refused c =
    subst (λ ns. IsRefusal ns ns c.args.node c.in-Err.fault) c.self.view_is
    (refused c.self.inside.table.entries c.args.node c.in-Err.fault c.self.invariant
    (subst (λ ns. PartsBelow (length ns) c.args.node) (sym c.self.view_is) c.requires.parts) c.in-Err.ensures)

pub returns-in-Ok-clause-ok : goal.returns-in-Ok-clause-ok
returns-in-Ok-clause-ok c =
    subst (λ ns. IfOk c.add.result (λ id. IsInterned ns (keys_of c.add.new.table.entries) c.args.node id)) c.self.view_is
    (new_last c.self.inside.table.entries c.add.new.table.entries c.args.node c.in-Ok.measure c.add.result (sym c.get_index_of.ensures.index ∙ c.in-None.is) c.add.ensures)

pub returns-in-Ok-clause-pool : goal.returns-in-Ok-clause-pool
returns-in-Ok-clause-pool c =
    (IsTable-added c.self.inside.table.entries c.add.new.table.entries c.args.node c.in-Ok.measure c.add.result c.self.invariant
    (subst (λ ns. PartsBelow (length ns) c.args.node) (sym c.self.view_is) c.requires.parts) c.requires.arguments (sym c.get_index_of.ensures.index ∙ c.in-None.is) c.in-Ok.ensures c.add.ensures).pool

pub returns-in-Some-clause-value : goal.returns-in-Some-clause-value
returns-in-Some-clause-value c =
    subst (λ ns. value_at ns c.in-Some.place ≡ value_from (values ns) c.args.node) c.self.view_is
    (known_value (keys_of c.self.inside.table.entries) c.args.node c.in-Some.place c.self.invariant.pool (sym c.get_index_of.ensures.index ∙ c.in-Some.is))

pub returns-in-Some-clause-small : goal.returns-in-Some-clause-small
returns-in-Some-clause-small c =
    subst (λ ns. value_size (value_from (values ns) c.args.node) ≤ most_symbols) c.self.view_is
    (known_small c.self.inside.table.entries c.args.node c.in-Some.place c.self.invariant (sym c.get_index_of.ensures.index ∙ c.in-Some.is))

pub returns-in-Ok-clause-value : goal.returns-in-Ok-clause-value
returns-in-Ok-clause-value c =
    subst (λ ns. IfOk c.add.result (λ id. value_at (keys_of c.add.new.table.entries) id ≡ value_from (values ns) c.args.node)) c.self.view_is
    (new_value c.self.inside.table.entries c.add.new.table.entries c.args.node c.in-Ok.measure c.add.result c.add.ensures)

pub returns-in-Ok-clause-kept : goal.returns-in-Ok-clause-kept
returns-in-Ok-clause-kept c =
    subst (λ ns. KeepsValues ns (keys_of c.add.new.table.entries)) c.self.view_is
    (new_kept c.self.inside.table.entries c.add.new.table.entries c.args.node c.in-Ok.measure c.add.result c.add.ensures)

pub returns-in-Ok-clause-small : goal.returns-in-Ok-clause-small
returns-in-Ok-clause-small c =
    subst (λ ns. IfOk c.add.result (λ _. value_size (value_from (values ns) c.args.node) ≤ most_symbols)) c.self.view_is
    (new_small c.self.inside.table.entries c.args.node c.in-Ok.measure c.add.result c.self.invariant
    (subst (λ ns. PartsBelow (length ns) c.args.node) (sym c.self.view_is) c.requires.parts) c.in-Ok.ensures)
