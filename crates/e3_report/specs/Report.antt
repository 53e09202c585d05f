-- The report of a scenario and a history, and the trace behind it.
use Rattle.std.specs.Prelude.{◌++◌, [], List, ℕ, Bool, true, false, Option, Some, None, codes, fold}
use Rattle.std.specs.Fmt.{decimal}
use Rattle.std.specs.List.{flat_map}
use Rattle.e3_types.specs.declared.entries.Act.{Act}
use Rattle.e3_types.specs.declared.entries.Act.TheVariants.{Fall, Rise, RiseFall, Miss, Cut}
use Rattle.e3_types.specs.declared.entries.Entry.{Entry}
use Rattle.e3_types.specs.declared.records.Record.{Record}
use Rattle.e3_types.specs.declared.scenarios.Scenario.{Scenario}
use Rattle.e3_types.specs.declared.transactions.Txn.{Txn}
use Rattle.e3_world.specs.Logs.{table_of}
use Rattle.e3_world.specs.Moves.{Placed, own_entries, log_of, trail_of, all_records}
use Rattle.e3_world.specs.Packets.{all_sites}
use Rattle.e3_world.specs.Serial.{commit_order}
use Rattle.e3_report.specs.lines.Records.{record_lines, row_line}
use Rattle.e3_report.specs.Steps.{start_lines, steps_after}
use Rattle.e3_report.specs.lines.Texts.{line_end, txn_text}
use Rattle.e3_report.specs.lines.Entries.{trace_of}

-- a transaction's line
unfoldable pub txn_line : Txn → List ℕ
txn_line t = txn_text t ++ line_end

-- `order`, and the committed transactions by the places of their last votes
unfoldable pub order_lines : List Placed → List ℕ
order_lines records = codes "order" ++ line_end ++ flat_map txn_line (commit_order records)

-- the incarnation in which a site is up behind an act, none where it is down
abbrev pub inc_by : Option ℕ → Act → Option ℕ
inc_by was (Rise kept inc) = Some inc
inc_by was (RiseFall kept inc why) = None
inc_by was Miss = None
inc_by was Cut = None
inc_by was (Fall inputs records why) = None
inc_by was _ = was

-- the incarnation in which a site with these entries is up: that of its last rise, where no fall, cut, failed or missed
-- rise stands behind it
abbrev pub present_inc : List Entry → Option ℕ
present_inc mine = fold (λ was e. inc_by was e.act) None mine

-- `site S up I` or `site S down`
unfoldable pub site_heading : ℕ → Option ℕ → List ℕ
site_heading site (Some inc) = codes "site " ++ decimal site ++ codes " up " ++ decimal inc ++ line_end
site_heading site None = codes "site " ++ decimal site ++ codes " down" ++ line_end

-- `log` and the records of a log, `rows` and the rows of its table in byte order of their names
unfoldable pub log_lines : List Record → List ℕ
log_lines records =
    codes "log" ++ line_end ++ flat_map (record_lines []) records ++ codes "rows" ++ line_end ++ flat_map row_line (table_of records)

-- a site: its heading, its log and its rows
unfoldable pub site_lines : Scenario → List Entry → ℕ → List ℕ
site_lines sc history site = site_heading site (present_inc (own_entries site history)) ++ log_lines (log_of sc history site)

-- The report without a trace: the start, the steps, the order, each site in ascending order, and `end`.
abbrev pub report_without_trace : Scenario → List Entry → List ℕ
report_without_trace sc history =
    start_lines sc history ++ steps_after sc [] history ++ order_lines (all_records (trail_of sc history))
    ++ flat_map (site_lines sc history) (all_sites sc) ++ codes "end" ++ line_end

-- the trace where it is asked for: the history, entry by entry, and a second `end`
unfoldable pub trace_lines : List Entry → Bool → List ℕ
trace_lines history true = trace_of history ++ codes "end" ++ line_end
trace_lines history false = []

-- The report of a scenario and a history; where the trace is asked for it stands behind.
abbrev pub report_of : Scenario → List Entry → Bool → List ℕ
report_of sc history trace = report_without_trace sc history ++ trace_lines history trace
