-- The summary of a history: how much of what there is in it.
use Rattle.std.specs.Prelude.{◌++◌, ◌∷◌, [], ◌+◌, ◌-◌, if◌then◌else◌, ℕ, Bool, true, false, List, codes, count_by, fold, length}
use Rattle.std.specs.Fmt.{decimal}
use Rattle.std.specs.List.{flat_map, list_any}
use Rattle.e3_types.specs.declared.entries.Act.{Act}
use Rattle.e3_types.specs.declared.entries.Act.TheVariants.{Cut, Fall, Line, Rise, Step}
use Rattle.e3_types.specs.declared.entries.Entry.{Entry}
use Rattle.e3_types.specs.declared.entries.Told.{Told}
use Rattle.e3_types.specs.declared.entries.Told.TheVariants.{Began}
use Rattle.e3_types.specs.declared.records.Record.{Record}
use Rattle.e3_types.specs.declared.records.Record.TheVariants.{Decision}
use Rattle.e3_types.specs.declared.scenarios.Scenario.{Scenario}
use Rattle.e3_types.specs.declared.transactions.Dir.TheVariants.{Abort}
use Rattle.e3_types.specs.declared.transactions.Txn.{Txn}
use Rattle.e3_types.specs.Same.{same_txn}
use Rattle.e3_world.specs.Moves.{Placed, trail_of, all_records}
use Rattle.e3_world.specs.Serial.{commit_order}
use Rattle.e3_report.specs.lines.Texts.{line_end}
use Rattle.e3_report.specs.declared.summing.Kind.{Kind}
use Rattle.e3_report.specs.declared.summing.Kind.TheVariants as kind

-- these transactions, each once
abbrev pub each_once : List Txn → List Txn
each_once txns = fold (λ seen t. if list_any (same_txn t) seen then seen else seen ++ t ∷ []) [] txns

-- the transaction that a record aborts
abbrev pub aborted_by : Record → List Txn
aborted_by (Decision t Abort) = t ∷ []
aborted_by _ = []

-- the transaction that is told to be begun
abbrev pub begun_by : Told → List Txn
begun_by (Began t) = t ∷ []
begun_by _ = []

-- what an act tells
abbrev pub events_of : Act → List Told
events_of (Step i records outs events) = events
events_of _ = []

-- how many transactions are committed
abbrev pub committed : List Placed → ℕ
committed records = length (commit_order records)

-- how many transactions some log aborts
abbrev pub aborted : List Placed → ℕ
aborted records = length (each_once (flat_map (λ p. aborted_by p.entered) records))

-- how many transactions a client was told to be begun
abbrev pub begun : List Entry → ℕ
begun history = length (each_once (flat_map (λ e. flat_map begun_by (events_of e.act)) history))

-- the kinds of entries that are counted
abbrev pub is_step : Act → Bool
is_step (Line number) = true
is_step _ = false

abbrev pub is_cut : Act → Bool
is_cut Cut = true
is_cut _ = false

abbrev pub is_fall : Act → Bool
is_fall (Fall inputs records why) = true
is_fall _ = false

abbrev pub is_rise : Act → Bool
is_rise (Rise kept inc) = true
is_rise _ = false

-- whether an act is of a kind
abbrev pub is_kind : Kind → Act → Bool
is_kind kind.Step act = is_step act
is_kind kind.Cut act = is_cut act
is_kind kind.Fall act = is_fall act
is_kind kind.Rise act = is_rise act

-- how many entries of a kind there are
abbrev pub count_of : (Act → Bool) → List Entry → ℕ
count_of is history = count_by (λ e. is e.act) history

-- a word, a number behind it, and the end of the line
unfoldable pub count_line : List ℕ → ℕ → List ℕ
count_line word number = word ++ codes " " ++ decimal number ++ line_end

-- The summary with this number and these counts of transactions: how many are committed, are aborted, and were begun.
abbrev pub summary_with : ℕ → ℕ → ℕ → ℕ → List Entry → List ℕ
summary_with n ended stopped started history =
    count_line (codes "drill") n ++ count_line (codes "steps") (count_of is_step history)
    ++ count_line (codes "committed") ended ++ count_line (codes "aborted") stopped
    ++ count_line (codes "undecided") (started - (ended + stopped))
    ++ count_line (codes "cuts") (count_of is_cut history) ++ count_line (codes "falls") (count_of is_fall history)
    ++ count_line (codes "rises") (count_of is_rise history) ++ codes "end" ++ line_end

-- The summary of the drill with this number, where these are the records of all logs: its number; how many steps began;
-- how many transactions are committed, are aborted, and were begun and are neither; how many cuts, falls and rises there
-- were; and `end`.
abbrev pub summary_over : ℕ → List Placed → List Entry → List ℕ
summary_over n records history = summary_with n (committed records) (aborted records) (begun history) history

-- the summary of the drill with this number, and with this scenario and history
abbrev pub summary_of : ℕ → Scenario → List Entry → List ℕ
summary_of n sc history = summary_over n (all_records (trail_of sc history)) history
