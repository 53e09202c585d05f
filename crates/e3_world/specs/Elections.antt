-- The election of a transaction that is in progress at a site, read off its steps of the present incarnation.
use Rattle.std.specs.Prelude.{◌==◌, ◌&&◌, ◌||◌, ◌++◌, ◌∷◌, [], if◌then◌else◌, ℕ, suc, max, Bool, true, false, not, List, length, fold, count_by, Option, Some, None}
use Rattle.std.specs.List.{list_any}
use Rattle.e3_types.specs.declared.transactions.Call.{Call}
use Rattle.e3_types.specs.declared.entries.Input.{Input}
use Rattle.e3_types.specs.declared.messages.Message.{Message}
use Rattle.e3_types.specs.declared.records.Record.{Record}
use Rattle.e3_types.specs.declared.verdicts.SiteReport.{SiteReport}
use Rattle.e3_types.specs.declared.entries.Told.{Told}
use Rattle.e3_types.specs.declared.transactions.Txn.{Txn}
use Rattle.e3_types.specs.declared.entries.Input.TheVariants as input
use Rattle.e3_types.specs.declared.records.Record.TheVariants as log
use Rattle.e3_types.specs.declared.messages.Message.TheVariants as msg
use Rattle.e3_types.specs.declared.entries.Told.TheVariants as told
use Rattle.e3_types.specs.Same.{same_txn, same_call}
use Rattle.e3_types.specs.Sets.{has_site}
use Rattle.e3_world.specs.declared.lives.Moment.{Moment}
use Rattle.e3_world.specs.Gatherings.{Election, Elections}
use Rattle.e3_world.specs.Logs.{last_elected, last_attempt, state_of}

-- the record is a decision of the transaction
abbrev pub is_decision : Txn → Record → Bool
is_decision t (log.Decision u dir) = same_txn t u
is_decision t _ = false

-- the record is a join of the transaction
abbrev pub is_join : Txn → Record → Bool
is_join t (log.Join u n) = same_txn t u
is_join t _ = false

-- a message and its sender
pub record Heard : Type 0 where
  pub «from» : ℕ
  pub msg : Message

-- the message that a step takes, if it takes one
abbrev pub heard_in : Moment → Option Heard
heard_in m = by m.input
  where
    by : Input → Option Heard
    by (input.Deliver packet) = Some (record { «from» = packet.«from»; msg = packet.msg })
    by _ = None

-- the whole group was heard
abbrev pub all_heard : Election → Bool
all_heard e = length e.heard == length e.group

-- the whole group has reported
abbrev pub all_reported : Election → Bool
all_reported e = length e.reports == length e.group

-- the greatest number that was heard
abbrev pub greatest_heard : Election → ℕ
greatest_heard e = fold (λ n h. max n h.elected) 0 e.heard

-- an election that begins has heard its own site
abbrev pub begun : ℕ → Call → List ℕ → ℕ → Election
begun site call group elected = record {
  call = call;
  group = group;
  heard = record { site = site; elected = elected } ∷ [];
  number = None;
  reports = [];
}

-- the election with an answer to its call by a member that was not heard yet; None where it is none
abbrev pub hear : Election → ℕ → Call → ℕ → Option Election
hear e f call elected =
    if same_call e.call call && has_site e.group f && not (list_any (λ h. h.site == f) e.heard)
    then Some (record e { heard = e.heard ++ record { site = f; elected = elected } ∷ [] }) else None

-- the election with a report of its number by a member that has not reported yet; None where it is none
abbrev pub take_report : Election → ℕ → SiteReport → Option Election
take_report e n report = by e.number
  where
    by : Option ℕ → Option Election
    by None = None
    by (Some k) =
        if n == k && has_site e.group report.site && not (list_any (λ r. r.site == report.site) e.reports)
        then Some (record e { reports = e.reports ++ report ∷ [] }) else None

-- the number of a join of the transaction among these records
abbrev pub joined_in : Txn → List Record → Option ℕ
joined_in t [] = None
joined_in t (log.Join u n ∷ rest) = if same_txn t u then Some n else joined_in t rest
joined_in t (r ∷ rest) = joined_in t rest

-- the event tells a verdict over the transaction
abbrev pub tells_verdict : Txn → Told → Bool
tells_verdict t (told.Verdict u n v) = same_txn t u
tells_verdict t _ = false

-- the step ends the election in progress: it decides the transaction, or tells its verdict
abbrev pub ends_election : Txn → Moment → Bool
ends_election t m = list_any (is_decision t) m.records || list_any (tells_verdict t) m.told

-- the election behind a step in which an answer was heard: once the whole group was heard the site joins in that step,
-- with its own report, or the election ends
abbrev pub after_heard : ℕ → Txn → Moment → Election → Option Election
after_heard site t m e = if all_heard e then by (joined_in t m.records) else Some e
  where
    by : Option ℕ → Option Election
    by None = None
    by (Some n) = Some (record e {
      number = Some n;
      reports = record { site = site; state = state_of t m.before; attempt = last_attempt t m.before } ∷ [];
    })

-- the election as it was, where nothing new was taken
abbrev pub or_same : Election → Option Election → Option Election
or_same e None = Some e
or_same e (Some more) = Some more

-- the election behind an answer: where it is one of this call, the site may join
abbrev pub heard_more : ℕ → Txn → Moment → Election → Option Election → Option Election
heard_more site t m e None = Some e
heard_more site t m e (Some more) = after_heard site t m more

-- the election behind a step that took this message
abbrev pub election_with : ℕ → Txn → Moment → Election → ℕ → Message → Option Election
election_with site t m e f (msg.LastElected u call elected) =
    if same_txn t u then heard_more site t m e (hear e f call elected) else Some e
election_with site t m e f (msg.Report u n st a) =
    if same_txn t u then or_same e (take_report e n (record { site = f; state = st; attempt = a })) else Some e
election_with site t m e f (msg.Elected u n) = if list_any (is_join t) m.records then None else Some e
election_with site t m e f _ = Some e

-- the elections behind one more step
abbrev pub election_by : ℕ → ℕ → Txn → Elections → Moment → Elections
election_by site inc t was m = by m.input
  where
    still : Option Election → Option Election
    still e = if ends_election t m then None else e

    by_heard : Option Heard → Option Election → Option Election
    by_heard (Some h) (Some e) = election_with site t m e h.«from» h.msg
    by_heard _ e = e

    calls : ℕ
    calls = suc was.calls

    by : Input → Elections
    by (input.Elect u group) = record {
      calls = calls;
      now = still (if same_txn t u
          then after_heard site t m (begun site (record { inc = inc; seq = calls }) group (last_elected t m.before)) else was.now);
    }
    by _ = record { calls = was.calls; now = still (by_heard (heard_in m) was.now) }

-- the election of a transaction in progress at a site, in this incarnation
abbrev pub election_in_progress : ℕ → ℕ → Txn → List Moment → Option Election
election_in_progress site inc t steps = (fold (election_by site inc t) (record { calls = 0; now = None }) steps).now

-- the step took an Elect
abbrev pub is_elect : Moment → Bool
is_elect m = by m.input
  where
    by : Input → Bool
    by (input.Elect u group) = true
    by _ = false

-- the call of an Elect that comes now: the incarnation, and the count of Elects in it with this one
abbrev pub next_call : ℕ → List Moment → Call
next_call inc steps = record { inc = inc; seq = suc (count_by is_elect steps) }
