use Rattle.std.proofs.Common.{◌≡◌, ◌∙◌, refl}
use Rattle.std.specs.Prelude.{slice_index}
use Rattle.command_line.proofs.NumberLemmas.{number_read, number_refused}
use Rattle.command_line.proofs.number.number_of.Goals as goal

pub returns-in-Ok : goal.returns-in-Ok
returns-in-Ok c =
    let first : c.in_ok-first.first.now ≡ slice_index c.args.text.now 0 = c.in_ok-first.ensures.item.3.1 0
    ∙ (rw c.as_bytes.ensures.value refl) in
    number_read c.args.text.now c.in-Ok.number c.parse.result c.in-Ok.is c.parse.ensures.value.0 (λ e. c.if-first-eq48.false (first ∙ e))
    (λ e. c.if-first-eq43.false (first ∙ e))
    c.if-text-gt-MOST_DIGITS.false c.if-number-le-MOST_NUMBER.true

pub returns-in_default-2 : goal.returns-in_default-2
returns-in_default-2 c =
    let first : c.in_ok-first.first.now ≡ slice_index c.args.text.now 0 = c.in_ok-first.ensures.item.3.1 0
    ∙ (rw c.as_bytes.ensures.value refl) in
    number_refused c.args.text.now c.in_default.field-0 c.in_default.ensures.value.0 (λ e. c.if-first-eq43.false (first ∙ e))
