use Rattle.std.proofs.Common.{◌∙◌, sym}
use Rattle.asp_safety.proofs.Sets.{∈-from_test, test-from_∈}
use Rattle.asp_safety.proofs.bound.is_in.Goals as goal

pub returns-clause-member : goal.returns-clause-member
returns-clause-member c = (
  λ found. ∈-from_test c.args.key.now c.args.set.now.keys (sym c.contains.ensures ∙ found),
  λ among. c.contains.ensures ∙ test-from_∈ c.args.key.now c.args.set.now.keys among,
)
