-- What the reports and the texts of worked histories compute with: a proof that names one of these opens all that its line
-- names.
use Rattle.std.specs.Prelude.{ℕ}
use Rattle.std.specs.Fmt.{digits}
use Rattle.e3_report.specs.lines.Texts.{line_end, after_comma, sites_text, after_bar, txn_text, key_text, dir_text, state_text, leave_text, kept_text}
use Rattle.e3_report.specs.lines.Items.{begin_text, read_text, write_text, expire_text, elect_text, stop_text, recover_text, split_text, item_text, item_line}
use Rattle.e3_report.specs.lines.Records.{row_line, birth_row_line, birth_lines, read_line, write_line, op_line, vote_lines, inc_line, join_line, attempt_line, decision_line, record_lines}
use Rattle.e3_report.specs.lines.Events.{answer_text, ended_text, doom_text, refusal_text, block_text, verdict_text, op_text, election_text, began_text, died_text, refused_text, kept_state_text, told_of, why_text, at_site, word_line, told_text, told_line, rise_line, failure_text, failed_rise_line, fall_line, act_lines}
use Rattle.e3_report.specs.lines.Inputs.{operation_text, begin_input, do_input, elect_input, input_text}
use Rattle.e3_report.specs.lines.Messages.{txn_and_number, txn_and_call, txn_and_attempt, do_message, done_message, died_message, last_message, report_message, votereq_message, yes_text, vote_message, decide_message, message_text}
use Rattle.e3_report.specs.lines.Entries.{parts_form, step_form, fall_form, rise_form, failed_rise_form, form_text, input_line, packet_line, told_mark_line, lines_behind, entry_trace}
use Rattle.e3_report.specs.Skips.{not_begun_line, input_skip, power_skip}
use Rattle.e3_report.specs.Steps.{event_lines, start_lines, step_heading, step_lines}
use Rattle.e3_report.specs.Report.{txn_line, order_lines, site_heading, log_lines, site_lines, trace_lines}
use Rattle.std.specs.Float.Numeral.{scan_numeral}
use Rattle.std.specs.Char.{encode_utf8}
use Rattle.std.specs.Str.{is_utf8, chars}
use Rattle.toml_parser.specs.Lexical.{skip_ws, skip_from}
use Rattle.toml_parser.specs.Numbers.{underscore_fits, prefixed_integer, decimal_number, plain_number, number, word_value, word_len, unquoted}
use Rattle.toml_parser.specs.Strings.{hex_escape, escape_char, escape, special, body, one_line, quoted, simple_key, key_after}
use Rattle.toml.specs.Parse.{after_element, key_equals, items, members, atom, val, header_key, expression, line, lines, skip_bom, parse_document}
use Rattle.toml.specs.Tables.{along_header, along_dots, at_key, define}
use Rattle.e3_types.specs.Sites.{bits_of}
use Rattle.e3_scenario.specs.Documents.{is_known}
use Rattle.e3_scenario.specs.Faults.{begin_fault, operation_fault, expire_fault, elect_fault, recover_fault, split_fault, site_fault, stop_fault}
use Rattle.e3_scenario.specs.Items.{begin_of, read_of, write_of, commit_of, cancel_of, expire_of, elect_of, recover_of, split_of, merge_of, crash_of, restart_of, stop_of, transaction_item, site_item, item_by, item_of}
use Rattle.e3_scenario.specs.Parts.{sites_of, leave_of, parts_of}

-- reports, with their traces
unfoldable pub report_opens : ℕ
unfolding digits line_end after_comma sites_text after_bar txn_text key_text dir_text state_text leave_text kept_text begin_text read_text write_text expire_text elect_text stop_text recover_text split_text item_text item_line row_line birth_row_line birth_lines read_line write_line op_line vote_lines inc_line join_line attempt_line decision_line record_lines answer_text ended_text doom_text refusal_text block_text verdict_text op_text election_text began_text died_text refused_text kept_state_text told_of why_text at_site word_line told_text told_line rise_line failure_text failed_rise_line fall_line act_lines operation_text begin_input do_input elect_input input_text txn_and_number txn_and_call txn_and_attempt do_message done_message died_message last_message report_message votereq_message yes_text vote_message decide_message message_text parts_form step_form fall_form rise_form failed_rise_form form_text input_line packet_line told_mark_line lines_behind entry_trace not_begun_line input_skip power_skip event_lines start_lines step_heading step_lines txn_line order_lines site_heading log_lines site_lines trace_lines
report_opens = 0

-- texts of scenarios
unfoldable pub text_opens : ℕ
unfolding digits scan_numeral encode_utf8 is_utf8 chars skip_ws skip_from underscore_fits prefixed_integer decimal_number plain_number number word_value word_len unquoted hex_escape escape_char escape special body one_line quoted simple_key key_after after_element key_equals items members atom val header_key expression line lines skip_bom parse_document along_header along_dots at_key define bits_of is_known begin_fault operation_fault expire_fault elect_fault recover_fault split_fault site_fault stop_fault begin_of read_of write_of commit_of cancel_of expire_of elect_of recover_of split_of merge_of crash_of restart_of stop_of transaction_item site_item item_by item_of sites_of leave_of parts_of
text_opens = 0
