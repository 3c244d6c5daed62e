use Rattle.std.proofs.Common.{rules}
use Rattle.asp_safety.proofs.Sets.{∈-insert_key}
use Rattle.asp_safety.proofs.bound.add.Goals as goal

pub returns : goal.returns
returns c = search (rules, ∈-insert_key)
