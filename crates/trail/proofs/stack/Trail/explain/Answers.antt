use Rattle.std.proofs.Common.{◌≡◌, ◌∙◌, ap, List}
use Rattle.search_values.specs.declared.entry.Entry.{Entry}
use Rattle.trail.specs.Assigning.{Trailed}
use Rattle.trail.proofs.Explaining.{newest_is_all}
use Rattle.trail.proofs.stack.Trail.explain.Goals as goal

pub returns : goal.returns
returns c =
    let t : Trailed = c.args.self.now in
    c.explain_newest.ensures ∙ ap (λ (s : List Entry). (let u : Trailed = record t { stack = s } in u)) (newest_is_all t.atoms c.args.a c.args.by t.stack c.entries.ensures.is_stack)
