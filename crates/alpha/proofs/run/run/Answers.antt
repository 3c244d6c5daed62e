use Rattle.std.proofs.Common.{sym, subst, ◌<◌, map, string_bytes}
use Rattle.alpha.proofs.Clauses.{reported, output, output_appends, events_appended, name_is, unnoted, caused, refused_words}
use Rattle.alpha.proofs.Accepted.{too_long_comes, refusal_comes, list_too_long_comes, list_refusal_comes, accepted_ends, shown_are_answer_sets, shown_once, finished_is_complete, finished_has_ended, limit_is_reached, journal_is_legal, budget_is_spent, overflow_in_rule, term_too_large, lines_are_shown_events}
use Rattle.search_settings.specs.declared.Settings.{Settings}
use Rattle.command_line.proofs.Bounds.{asked_is_bounded}
use Rattle.command_line.proofs.PlainLemmas.{plain_asks}
use Rattle.alpha.proofs.run.run.Goals as goal

pub returns-clause-shown_are_answer_sets : goal.returns-clause-shown_are_answer_sets
returns-clause-shown_are_answer_sets g c = λ k b a is.
    shown_are_answer_sets _ _ _ _ _ k a c.report.result (reported _ _ _ _ _ _ _ c.work-status.ensures.outcome c.report.ensures.same) b is

pub returns-clause-shown_once : goal.returns-clause-shown_once
returns-clause-shown_once g c = λ k b a is.
    shown_once _ _ _ _ _ k a c.report.result (reported _ _ _ _ _ _ _ c.work-status.ensures.outcome c.report.ensures.same) b is

pub returns-clause-finished_is_complete : goal.returns-clause-finished_is_complete
returns-clause-finished_is_complete g c = λ k b printed a is e.
    finished_is_complete _ _ _ _ _ k a c.report.result (reported _ _ _ _ _ _ _ c.work-status.ensures.outcome c.report.ensures.same) b is printed e

pub returns-clause-finished_has_ended : goal.returns-clause-finished_has_ended
returns-clause-finished_has_ended g c = λ k E printed a noted e.
    finished_has_ended _ _ _ _ _ k a c.report.result (reported _ _ _ _ _ _ _ c.work-status.ensures.outcome c.report.ensures.same) E noted printed e

pub returns-clause-limit_is_reached : goal.returns-clause-limit_is_reached
returns-clause-limit_is_reached g c = λ k E a noted all write.
    limit_is_reached _ _ _ _ _ k a c.report.result (reported _ _ _ _ _ _ _ c.work-status.ensures.outcome c.report.ensures.same) E noted
    (subst (λ (z : Settings). 0 < z.limit) (sym a.settings) (asked_is_bounded (map string_bytes c.args.words.now) a.request a.asked).0) all write

pub returns-clause-journal_is_legal : goal.returns-clause-journal_is_legal
returns-clause-journal_is_legal g c = λ k E a noted.
    journal_is_legal _ _ _ _ _ k a c.report.result (reported _ _ _ _ _ _ _ c.work-status.ensures.outcome c.report.ensures.same) E noted

pub returns-clause-lines_are_shown_events : goal.returns-clause-lines_are_shown_events
returns-clause-lines_are_shown_events g c = λ k b E a is noted.
    lines_are_shown_events _ _ _ _ _ k a c.report.result (reported _ _ _ _ _ _ _ c.work-status.ensures.outcome c.report.ensures.same) E noted b is

pub returns-clause-budget_is_spent : goal.returns-clause-budget_is_spent
returns-clause-budget_is_spent g c = λ k E kind number printed a noted e.
    budget_is_spent _ _ _ _ _ k a c.report.result (reported _ _ _ _ _ _ _ c.work-status.ensures.outcome c.report.ensures.same) E noted kind number printed e

pub returns-clause-overflow_in_rule : goal.returns-clause-overflow_in_rule
returns-clause-overflow_in_rule g c = λ k E line op left right printed a noted e.
    overflow_in_rule _ _ _ _ _ k a c.report.result (reported _ _ _ _ _ _ _ c.work-status.ensures.outcome c.report.ensures.same) E noted line op left right printed e

pub returns-clause-term_too_large : goal.returns-clause-term_too_large
returns-clause-term_too_large g c = λ k E line size printed a noted e.
    term_too_large _ _ _ _ _ k a c.report.result (reported _ _ _ _ _ _ _ c.work-status.ensures.outcome c.report.ensures.same) E noted line size printed e

pub returns-clause-output_is_appended : goal.returns-clause-output_is_appended
returns-clause-output_is_appended g c =
    output_appends _ _ _ _ _ c.report.result (reported _ _ _ _ _ _ _ c.work-status.ensures.outcome c.report.ensures.same)

pub returns-clause-output_bytes : goal.returns-clause-output_bytes
returns-clause-output_bytes g c = λ b is.
    output _ _ _ _ b is _ c.report.result (reported _ _ _ _ _ _ _ c.work-status.ensures.outcome c.report.ensures.same)

pub returns-clause-events_are_appended : goal.returns-clause-events_are_appended
returns-clause-events_are_appended g c =
    events_appended _ _ _ _ _ c.report.result (reported _ _ _ _ _ _ _ c.work-status.ensures.outcome c.report.ensures.same)

pub returns-clause-nothing_is_noted : goal.returns-clause-nothing_is_noted
returns-clause-nothing_is_noted g c = λ un.
    unnoted _ _ _ _ _ c.report.result (reported _ _ _ _ _ _ _ c.work-status.ensures.outcome c.report.ensures.same) un

pub returns-clause-causes : goal.returns-clause-causes
returns-clause-causes g c =
    caused _ _ _ _ _ c.report.result (reported _ _ _ _ _ _ _ c.work-status.ensures.outcome c.report.ensures.same)

pub returns-clause-refused_words : goal.returns-clause-refused_words
returns-clause-refused_words g c =
    refused_words _ _ _ _ _ c.report.result (reported _ _ _ _ _ _ _ c.work-status.ensures.outcome c.report.ensures.same)

pub returns-clause-plain_words : goal.returns-clause-plain_words
returns-clause-plain_words g c =
    plain_asks (map string_bytes c.args.words.now)

pub returns-clause-each_refusal : goal.returns-clause-each_refusal
returns-clause-each_refusal g c = λ reason a read.
    refusal_comes _ _ _ _ reason _ a c.report.result (reported _ _ _ _ _ _ _ c.work-status.ensures.outcome c.report.ensures.same) read

pub returns-clause-each_list_too_long : goal.returns-clause-each_list_too_long
returns-clause-each_list_too_long g c = λ name a read.
    list_too_long_comes _ _ _ _ name a.0 _ a.1 a.2 c.report.result (reported _ _ _ _ _ _ _ c.work-status.ensures.outcome c.report.ensures.same) read

pub returns-clause-each_list_refusal : goal.returns-clause-each_list_refusal
returns-clause-each_list_refusal g c = λ line a read.
    list_refusal_comes _ _ _ _ a.0 a.1 _ a.2 a.3 line a.4 c.report.result (reported _ _ _ _ _ _ _ c.work-status.ensures.outcome c.report.ensures.same) read

pub returns-clause-accepted_ends : goal.returns-clause-accepted_ends
returns-clause-accepted_ends g c = λ k a read write note.
    accepted_ends _ _ _ _ _ k a c.report.result (reported _ _ _ _ _ _ _ c.work-status.ensures.outcome c.report.ensures.same) read write note

pub returns-clause-each_too_long : goal.returns-clause-each_too_long
returns-clause-each_too_long g c = λ name a read.
    too_long_comes _ _ _ _ name _ a c.report.result (reported _ _ _ _ _ _ _ c.work-status.ensures.outcome c.report.ensures.same) read

pub returns-clause-message_and_trace_name : goal.returns-clause-message_and_trace_name
returns-clause-message_and_trace_name g c = (c.report.ensures.message, name_is _ _ _ _ _ c.report.result (reported _ _ _ _ _ _ _ c.work-status.ensures.outcome c.report.ensures.same))
