use Rattle.std.proofs.Common.{rules}
use Rattle.command_line.specs.Commands.{files_rule}
use Rattle.command_line.proofs.CommandLemmas.{adds, files_are}
use Rattle.command_line.proofs.command.with_files.Goals as goal

pub returns : goal.returns
returns c =
    adds c.args.command c.required-files.result files_rule c.arg.result c.arg.ensures (search rules)
    (files_are c.new.result c.num_args.result c.required-files.result c.new.ensures.rule c.num_args.ensures.0 c.num_args.ensures.1
    c.required-files.ensures)
