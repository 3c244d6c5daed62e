use Rattle.asp_lexer.proofs.OneAnswer.{exact_tokens, exact_bad, exact_too_large, one_list, one_answer}
use Rattle.asp_lexer.proofs.ForParser.{answer_rises, answer_well_formed}
use Rattle.asp_lexer.proofs.lexer.lex.Goals as goal

pub returns-clause-all_tokens : goal.returns-clause-all_tokens
returns-clause-all_tokens c = exact_tokens c.args.text.now c.read_all.result c.read_all.ensures

pub returns-clause-each_bad : goal.returns-clause-each_bad
returns-clause-each_bad c = exact_bad c.args.text.now c.read_all.result c.read_all.ensures

pub returns-clause-each_too_large : goal.returns-clause-each_too_large
returns-clause-each_too_large c = exact_too_large c.args.text.now c.read_all.result c.read_all.ensures

pub returns-clause-rising : goal.returns-clause-rising
returns-clause-rising c = answer_rises c.args.text.now c.read_all.result c.read_all.ensures

pub returns-clause-well_formed : goal.returns-clause-well_formed
returns-clause-well_formed c = answer_well_formed c.args.text.now c.read_all.result c.read_all.ensures

pub returns-clause-one_list : goal.returns-clause-one_list
returns-clause-one_list c = one_list c.args.text.now

pub returns-clause-one_answer : goal.returns-clause-one_answer
returns-clause-one_answer c = one_answer c.args.text.now
