use Rattle.command_line.proofs.CommandLemmas.{bare_is}
use Rattle.command_line.proofs.command.bare_command.Goals as goal

pub returns : goal.returns
returns c =
    bare_is c.new.result c.no_binary_name.result c.disable_help_flag.result c.disable_version_flag.result c.new.ensures.app
    c.no_binary_name.ensures
    c.disable_help_flag.ensures c.disable_version_flag.ensures
