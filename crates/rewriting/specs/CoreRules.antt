-- The core rules of single rules without aggregates.
use Rattle.std.specs.Prelude.{List, [], map, length}
use Rattle.core_rules.specs.declared.rules.CoreRule.{CoreRule}
use Rattle.core_rules.specs.declared.rules.Core.{Core}
use Rattle.asp_meaning.specs.Terms.{Variable}
use Rattle.single_rules.specs.declared.single.SingleRule.{SingleRule}
use Rattle.rewriting.specs.Lifting.{LiftedRule, lift_rule}
use Rattle.rewriting.specs.Numbering.{table_of, numbered, numbered_atom, numbered_head, numbered_test}

abbrev pub rule_by : List Variable → LiftedRule → CoreRule
rule_by table r = record {
  kind = r.kind;
  head = numbered_head table r.head;
  pos = map (numbered_atom table) r.pos;
  neg = map (numbered_atom table) r.neg;
  tests = map (numbered_test table) r.tests;
  defined = map (numbered table) r.defined;
  variables = length table;
  line = r.line;
}

-- a lifted rule with numbers for its variables
abbrev pub number_rule : LiftedRule → CoreRule
number_rule r = rule_by (table_of r) r

-- the core rule of a single rule
abbrev pub core_rule_of : SingleRule → CoreRule
core_rule_of r = number_rule (lift_rule r)

-- the core of single rules, rule by rule
abbrev pub core_of : List SingleRule → Core
core_of rules = record { rules = map core_rule_of rules; aggregates = [] }
