use Rattle.std.proofs.Common.{◌≡◌, reverse, set, vec_capacity, sym, ◌∙◌, ap, subst, List}
use Rattle.search_values.specs.declared.entry.Entry.{Entry}
use Rattle.trail.specs.Assigning.{explained_newest}
use Rattle.trail.specs.Slots.{Keeps}
use Rattle.trail.proofs.Explaining.{keeps_explained}
use Rattle.trail.proofs.stack.Trail.explain_newest.Goals as goal

pub invariant_of-self : goal.invariant_of-self
invariant_of-self c =
    let became : reverse (set c.self.inside.entries.items c.in-Some.place c.with_reason.result) ≡ explained_newest c.args.a c.args.by (reverse c.self.inside.entries.items)
    = ap (λ (e : Entry). reverse (set c.self.inside.entries.items c.in-Some.place e)) c.with_reason.ensures ∙ c.in-Some.ensures.some.1 c.index.result.now c.index.ensures c.args.by in
    subst (λ (s : List Entry). Keeps s c.self.inside.slots.items c.self.inside.levels.items c.self.inside.trues c.self.inside.kept (vec_capacity c.self.inside.entries) (vec_capacity c.self.inside.levels)) (sym became)
    (keeps_explained c.args.a c.args.by (reverse c.self.inside.entries.items) c.self.inside.slots.items c.self.inside.levels.items c.self.inside.trues c.self.inside.kept (vec_capacity c.self.inside.entries) (vec_capacity c.self.inside.levels) c.self.invariant)
