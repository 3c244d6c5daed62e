use Rattle.std.proofs.Common.{[], ap, ◌∙◌}
use Rattle.asp_grammar.specs.Terminals.{terminal_of}
use Rattle.asp_grammar.specs.Machine.{arguments_next, name_next}
use Rattle.parsing_machine.proofs.CodeLemmas.{name_same, ok_same}
use Rattle.parsing_machine.proofs.literals.name_next.Goals as goal

pub returns-in_default : goal.returns-in_default
returns-in_default c =
    let t = terminal_of c.args.number c.args.token.now in
    ok_same c.bare_name.result (arguments_next c.into_inner.result c.args.negated c.args.name [] t) (name_next c.args.role c.args.negated c.args.name t)
    (ap (λ b. arguments_next b c.args.negated c.args.name [] t) c.into_inner.ensures ∙ name_same c.args.role c.args.negated c.args.name c.args.number c.args.token.now c.in_default.not-Open)
    c.bare_name.ensures
