use Rattle.std.proofs.Common.{◌≡◌, [], Some, ap, sym, ◌∙◌, length, arith}
use Rattle.std.specs.Map.{lookup, set_value}
use Rattle.std.specs.Option.{option_copied_mut}
use Rattle.asp_safety.specs.Keys.{variable_eq}
use Rattle.asp_safety.specs.Settling.{waiting_count}
use Rattle.asp_safety.proofs.Rows.{set_count}
use Rattle.asp_safety.proofs.waiting.Waiting.take.Goals.{in-None, in-Some}
use Rattle.asp_safety.proofs.waiting.Waiting.take.Goals as goal

pub returns-clause-count : goal.returns-clause-count
returns-clause-count c =
    let rows = c.self.inside.rows.entries in
    let test = variable_eq c.args.key.now in
    elim c.match-get_mut.branch [
      | in-None w ↦
          let now : c.match-get_mut.self-inside.rows.entries ≡ rows = ap (λ x. x.rows.entries) w.self-inside-is ∙ ap (λ m. m.entries) c.get_mut.follows.holds-at-none in
          omega (arith, ap waiting_count now, ap length (w.result-is ∙ w.new.ensures), ap waiting_count c.self.view_is)
      | in-Some w ↦
          let found : lookup test rows ≡ Some w.in-Some.row.now = sym c.get_mut.ensures.value ∙ ap option_copied_mut w.in-Some.is in
          let written = (c.get_mut.follows.holds w.replace.new.dest).0 in
          let empty : w.replace.new.dest ≡ [] = w.replace.ensures.after ∙ w.new-in-Some.ensures in
          let now : c.match-get_mut.self-inside.rows.entries ≡ set_value test rows [] = ap (λ x. x.rows.entries) w.self-inside-is ∙ written ∙ ap (set_value test rows) empty in
          omega (arith, ap waiting_count now, set_count test rows w.in-Some.row.now found, ap length (w.result-is ∙ w.replace.ensures.value), ap waiting_count c.self.view_is)
    ]
