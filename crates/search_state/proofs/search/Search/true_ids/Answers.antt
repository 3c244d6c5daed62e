use Rattle.std.proofs.Common.{◌≡◌, ◌∙◌, Some, ap, sym, subst, arith}
use Rattle.search_values.specs.Values.{True, value_of}
use Rattle.search_state.specs.Searching.{Searching, ids}
use Rattle.search_state.specs.Moves.{IsNamed, AreTrueNames}
use Rattle.search_state.proofs.Listing.{names_none, names_more, names_same}
use Rattle.search_state.proofs.search.Search.true_ids.Goals as goal
use Rattle.search_state.proofs.search.Search.true_ids.Goals.{then-is_true+then-is_named+in_ok-push, else-is_true, else-is_true-via-then-is_true+else-is_named, else-is_true-via-else-is_true}

pub loop-x-init : goal.loop-x-init
loop-x-init c = rw c.new-atoms.ensures.items (names_none c.args.self.now)

pub loop-x-preserved : goal.loop-x-preserved
loop-x-preserved c = elim c.if-is_true.branch [
  | then-is_true+then-is_named+in_ok-push w ↦ (
      let here : value_of c.args.self.now.stack c.loop-x.x ≡ Some True = ap (λ (v : Searching). value_of v.stack c.loop-x.x)
      (sym c.self.view_is) ∙ sym c.value.ensures ∙ c.is_true.ensures.yes w.if-is_true.true in
      let more = names_more c.args.self.now c.loop-x.x c.loop-x.atoms.items c.loop-x.invariant
      (w.is_named.ensures.yes w.if-is_named.true) here in
      rw (w.atoms-is, w.in_ok-push.ensures.items) more)
  | else-is_true w ↦ (
      let passed : IsNamed c.args.self.now c.loop-x.x → ¬ (value_of c.args.self.now.stack c.loop-x.x ≡ Some True) =
      elim w.else-is_true.branch [
        | else-is_true-via-then-is_true+else-is_named u ↦ (λ named is. u.is_named.ensures.no u.if-is_named.false named)
        | else-is_true-via-else-is_true u ↦ (λ named is. c.is_true.ensures.no u.if-is_true.false
            (c.value.ensures ∙ ap (λ (v : Searching). value_of v.stack c.loop-x.x) c.self.view_is ∙ is))
      ] in
      let same = names_same c.args.self.now c.loop-x.x c.loop-x.atoms.items c.loop-x.invariant passed in
      rw w.atoms-is same)
]

pub returns : goal.returns
returns c =
    let count = ap (λ (v : Searching). ids v) c.self.view_is in
    let past = c.loop-x-test.false in
    let within = c.loop-x.auto.x-end in
    let whole : c.loop-x.x ≡ ids c.args.self.now = omega (arith, count, past, within) in
    subst (λ n. AreTrueNames c.args.self.now n c.loop-x.atoms.items) whole c.loop-x.invariant
