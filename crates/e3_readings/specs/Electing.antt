-- The election of a transaction in progress behind one more step, by what the site's log says of the transaction before the step:
-- its own report, and the number of the last election that it joined.
use Rattle.std.specs.Prelude.{◌∷◌, [], if◌then◌else◌, ℕ, List, Option, Some, None}
use Rattle.std.specs.List.{list_any}
use Rattle.e3_types.specs.declared.messages.Message.{Message}
use Rattle.e3_types.specs.declared.messages.Packet.{Packet}
use Rattle.e3_types.specs.declared.records.Record.{Record}
use Rattle.e3_types.specs.declared.transactions.Call.{Call}
use Rattle.e3_types.specs.declared.transactions.Txn.{Txn}
use Rattle.e3_types.specs.declared.verdicts.SiteReport.{SiteReport}
use Rattle.e3_types.specs.declared.messages.Message.TheVariants as msg
use Rattle.e3_types.specs.Same.{same_txn}
use Rattle.e3_world.specs.Gatherings.{Election}
use Rattle.e3_world.specs.Elections.{is_join, all_heard, begun, hear, take_report, joined_in, or_same}
use Rattle.e3_world.specs.Logs.{state_of, last_attempt}

-- what a site reports of the transaction by its log
abbrev pub report_by : ℕ → Txn → List Record → SiteReport
report_by site t log = record { site = site; state = state_of t log; attempt = last_attempt t log }

-- the election behind a step in which an answer was heard: once the whole group was heard the site joins in that step,
-- with its own report, or the election ends
abbrev pub heard_all : Txn → SiteReport → List Record → Election → Option Election
heard_all t of_elector records e = if all_heard e then by (joined_in t records) else Some e
  where
    by : Option ℕ → Option Election
    by None = None
    by (Some n) = Some (record e { number = Some n; reports = of_elector ∷ [] })

-- the election behind an answer: where it is one of this call, the site may join
abbrev pub heard_one : Txn → SiteReport → List Record → Election → Option Election → Option Election
heard_one t of_elector records e None = Some e
heard_one t of_elector records e (Some more) = heard_all t of_elector records more

-- the election behind a step that took this message of site f
abbrev pub election_taking : Txn → SiteReport → List Record → ℕ → Message → Election → Option Election
election_taking t of_elector records f (msg.LastElected u call elected) e =
    if same_txn t u then heard_one t of_elector records e (hear e f call elected) else Some e
election_taking t of_elector records f (msg.Report u n st a) e =
    if same_txn t u then or_same e (take_report e n (record { site = f; state = st; attempt = a })) else Some e
election_taking t of_elector records f (msg.Elected u n) e = if list_any (is_join t) records then None else Some e
election_taking t of_elector records f _ e = Some e

-- the election behind a packet, where one is in progress
abbrev pub election_behind : Txn → SiteReport → List Record → Packet → Option Election → Option Election
election_behind t of_elector records packet None = None
election_behind t of_elector records packet (Some e) = election_taking t of_elector records packet.«from» packet.msg e

-- the election that begins in a step, under this call
abbrev pub election_anew : Txn → SiteReport → ℕ → List Record → Call → List ℕ → Option Election
election_anew t of_elector elected records call group = heard_all t of_elector records (begun of_elector.site call group elected)
