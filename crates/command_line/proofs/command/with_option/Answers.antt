use Rattle.std.proofs.Common.{rules}
use Rattle.command_line.specs.Commands.{option_rule}
use Rattle.command_line.proofs.CommandLemmas.{adds}
use Rattle.command_line.proofs.command.with_option.Goals as goal

pub returns : goal.returns
returns c =
    adds c.args.command c.long-option.result (option_rule c.args.name.now) c.arg.result c.arg.ensures (search rules) (search rules)
