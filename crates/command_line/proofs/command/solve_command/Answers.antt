use Rattle.command_line.proofs.CommandLemmas.{all_are}
use Rattle.command_line.proofs.command.solve_command.Goals as goal

pub returns : goal.returns
returns c =
    all_are c.bare_command-command.result c.in_ok-command.command c.in_ok-command-2.command c.in_ok-command-3.command
    c.in_ok-command-4.command c.in_ok-command-5.command
    c.with_files.result c.bare_command-command.ensures c.in_ok-command.ensures c.in_ok-command-2.ensures c.in_ok-command-3.ensures
    c.in_ok-command-4.ensures
    c.in_ok-command-5.ensures c.with_files.ensures
