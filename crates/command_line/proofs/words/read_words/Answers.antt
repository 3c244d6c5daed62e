use Rattle.std.proofs.Common.{map, string_bytes}
use Rattle.command_line.proofs.PlainLemmas.{plain_asks}
use Rattle.command_line.proofs.words.read_words.Goals as goal

pub returns-in-Some-clause-plain : goal.returns-in-Some-clause-plain
returns-in-Some-clause-plain c = plain_asks (map string_bytes c.args.words.now)
