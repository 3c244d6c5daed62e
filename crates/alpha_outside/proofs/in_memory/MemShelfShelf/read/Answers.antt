use Rattle.std.proofs.Common.{rules}
use Rattle.alpha_outside.proofs.in_memory.MemShelfShelf.read.Goals as goal

pub returns-in-Err-clause-fails : goal.returns-in-Err-clause-fails
returns-in-Err-clause-fails c = record {
  files = search rules;
  numbered = search rules;
  answer = (search rules, (c.in-Some.bytes.now, search rules));
}
