-- What a site does in an election: it hears, joins, reports, and concludes.
use Rattle.e3_world.specs.declared.lives.Made.{Made}
use Rattle.e3_world.specs.declared.lives.At.{At}
use Rattle.std.specs.Prelude.{◌&&◌, ◌∷◌, [], if◌then◌else◌, ℕ, suc, nat_lt, nat_le, Bool, true, false, List, Option, Some, None}
use Rattle.e3_types.specs.declared.transactions.Call.{Call}
use Rattle.e3_types.specs.declared.transactions.Dir.{Dir}
use Rattle.e3_types.specs.declared.transactions.Dir.TheVariants.{Abort, Commit}
use Rattle.e3_types.specs.declared.verdicts.SiteReport.{SiteReport}
use Rattle.e3_types.specs.declared.transactions.Txn.{Txn}
use Rattle.e3_types.specs.declared.verdicts.Verdict.{Verdict}
use Rattle.e3_types.specs.declared.records.Record.TheVariants as log
use Rattle.e3_types.specs.declared.messages.Message.TheVariants as msg
use Rattle.e3_types.specs.declared.entries.Told.TheVariants as told
use Rattle.e3_types.specs.declared.verdicts.Verdict.TheVariants as verdict
use Rattle.e3_types.specs.Sets.{others}
use Rattle.e3_types.specs.Verdicts.{verdict_of}
use Rattle.e3_world.specs.Gatherings.{Election}
use Rattle.e3_world.specs.Elections.{all_heard, all_reported, greatest_heard, hear, take_report, election_in_progress}
use Rattle.e3_world.specs.Making.{state_now, elected_now, attempt_now, may_decide, and_record, and_tell, and_send, and_cast, and_decide, and_attempt}

-- the verdict over the reports of the whole group, told, and what it asks for
abbrev pub and_verdict : At → Txn → ℕ → List ℕ → List SiteReport → Made → Made
and_verdict a t n group reports made = by (verdict_of a.weights t.sites reports)
  where
    telling : Verdict → Made
    telling v = and_tell (told.Verdict t n v) made

    decided : Dir → Made → Made
    decided dir more = and_cast a group (msg.Decide t dir) (if may_decide a t dir more then and_decide a t dir more else more)

    by : Verdict → Made
    by verdict.Abort = decided Abort (telling verdict.Abort)
    by verdict.Commit = decided Commit (telling verdict.Commit)
    by verdict.PreCommit = and_attempt a t n Commit group (telling verdict.PreCommit)
    by verdict.PreAbort = and_attempt a t n Abort group (telling verdict.PreAbort)
    by (verdict.Block have total) = telling (verdict.Block have total)

-- the whole group was heard: the site joins the greatest number plus one, unless it is not above its own or too great
abbrev pub and_join : At → Txn → Election → Made → Made
and_join a t e made = by (all_heard e && nat_lt (greatest_heard e) 4294967295 && nat_le (elected_now a t made) (greatest_heard e))
  where
    n : ℕ
    n = suc (greatest_heard e)

    report : SiteReport
    report = record { site = a.site; state = state_now a t made; attempt = attempt_now a t made }

    alone : List ℕ → Made → Made
    alone [] more = and_verdict a t n e.group (report ∷ []) more
    alone (s ∷ ss) more = more

    by : Bool → Made
    by true = alone (others a.site e.group) (and_cast a e.group (msg.Elected t n) (and_record (log.Join t n) made))
    by false = made

-- an answer to the call of the election in progress: with the last one the site joins
abbrev pub on_last : At → ℕ → Txn → Call → ℕ → Made → Made
on_last a f t call elected made = by (election_in_progress a.site a.life.inc t a.life.steps)
  where
    heard : Option Election → Made
    heard None = made
    heard (Some e) = and_join a t e made

    by : Option Election → Made
    by None = made
    by (Some e) = heard (hear e f call elected)

-- a greater number: the site joins it and reports
abbrev pub on_elected : At → ℕ → Txn → ℕ → Made → Made
on_elected a f t n made = by (nat_lt (elected_now a t made) n)
  where
    by : Bool → Made
    by true = and_send a f (msg.Report t n (state_now a t made) (attempt_now a t made)) (and_record (log.Join t n) made)
    by false = made

-- a report to the elector: with the last one it has a verdict
abbrev pub on_report : At → Txn → ℕ → SiteReport → Made → Made
on_report a t n report made = by (election_in_progress a.site a.life.inc t a.life.steps)
  where
    reported : Option Election → Made
    reported None = made
    reported (Some e) = if all_reported e then and_verdict a t n e.group e.reports made else made

    by : Option Election → Made
    by None = made
    by (Some e) = reported (take_report e n report)
