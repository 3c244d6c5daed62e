use Rattle.std.proofs.Common.{◌≡◌, ◌+◌, ◌⊎◌, ◌↔◌, [], ◌∷◌, ◌++◌, length, ap, ◌∙◌, subst, arith, length-append, rules}
use Rattle.indexmap.specs.Entry.{map_with_value}
use Rattle.asp_safety.specs.Settling.{Waits, waiting_count}
use Rattle.asp_safety.proofs.Rows.{row_of, put_waits, insert_count}
use Rattle.asp_safety.proofs.waiting.Waiting.put.Goals as goal

pub returns : goal.returns
returns c =
    let rows = c.self.inside.rows.entries in
    let key = c.args.key in
    let clause = c.args.clause in
    let new = map_with_value c.in_ok-self-inside.field-0 c.push.new.self in
    let update = c.in_ok-self-inside.ensures.update in
    let value = c.in_ok-self-inside.ensures.value in
    let row : c.or_insert-row.result.now ≡ row_of rows key = cc in
    let longer : c.push.new.self ≡ row_of rows key ++ clause ∷ [] = c.in_ok-push.ensures.ok ∙ ap (λ xs. xs ++ clause ∷ []) row in
    let size : length c.push.new.self ≡ length (row_of rows key) + 1 = ap length longer ∙ length-append (row_of rows key) (clause ∷ []) in
    let waits = put_waits rows new.entries key c.push.new.self clause longer (update.0 c.push.new.self).0 in
    let count : waiting_count new.entries ≡ waiting_count rows + 1 = omega (arith, ap waiting_count (update.1 c.push.new.self), insert_count key c.push.new.self rows, size) in
    record {
      waits = λ v d. subst (λ now. Waits now v d ↔ (Waits c.args.self.now v d ⊎ ((v ≡ key) × (d ≡ clause)))) (search rules)
          (subst (λ old. Waits new.entries v d ↔ (Waits old v d ⊎ ((v ≡ key) × (d ≡ clause)))) c.self.view_is (waits v d));
      count = search (rules, count);
    }
