use Rattle.std.proofs.Common.{◌∙◌, map, string_bytes}
use Rattle.std.proofs.lemmas.Result.{IfErr-weaker, IfOk-weaker}
use Rattle.clap.specs.Words.{found_of, rows_of}
use Rattle.command_line.proofs.CommandLemmas.{asked_by_rows, asked_for_none}
use Rattle.command_line.proofs.words.read_solve.Goals as goal

pub returns-in-Ok-clause-request : goal.returns-in-Ok-clause-request
returns-in-Ok-clause-request c =
    let read = c.in-Ok.ensures.matches in
    let are = asked_by_rows (map string_bytes c.args.words.now) (rows_of (found_of c.in-Ok.matches)) read.0 read.1 in
    IfOk-weaker c.request_of.result _ _ (λ r h. are ∙ h) c.request_of.ensures.request

pub returns-in-Ok-clause-usage : goal.returns-in-Ok-clause-usage
returns-in-Ok-clause-usage c =
    let read = c.in-Ok.ensures.matches in
    let are = asked_by_rows (map string_bytes c.args.words.now) (rows_of (found_of c.in-Ok.matches)) read.0 read.1 in
    IfErr-weaker c.request_of.result _ _ (λ e h is. are ∙ h is) c.request_of.ensures.usage

pub returns-in-Err-clause-usage : goal.returns-in-Err-clause-usage
returns-in-Err-clause-usage c = λ is. asked_for_none (map string_bytes c.args.words.now) (c.in-Err.ensures.usage is)
