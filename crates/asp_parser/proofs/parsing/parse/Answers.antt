use Rattle.asp_parser.proofs.AnswerLemmas.{rising_few, answer_program, answer_only, answer_faultless, answer_well_formed, answer_fault, answer_each_program, answer_each_fault, one_answer}
use Rattle.asp_parser.proofs.parsing.parse.Goals as goal

pub read_all-requires-clause-few : goal.read_all-requires-clause-few
read_all-requires-clause-few c = rising_few c.args.end.0 c.args.tokens.now c.requires.rising

pub returns : goal.returns
returns c =
    let tokens = c.args.tokens.now in
    let end = c.args.end in
    let answer = c.read_all.ensures in
    record {
      program = answer_program tokens end c.read_all.result answer;
      only = answer_only tokens end c.read_all.result answer;
      faultless = answer_faultless tokens end c.read_all.result answer;
      tree = answer_well_formed tokens end c.read_all.result c.requires.well_formed answer;
      fault = answer_fault tokens end c.read_all.result answer;
      each_program = answer_each_program tokens end c.read_all.result answer;
      each_fault = answer_each_fault tokens end c.read_all.result answer;
      one_answer = one_answer tokens end;
    }
