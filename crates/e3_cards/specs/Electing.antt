-- The election of a transaction in progress, with what was seen of the transaction in place of the log before a step.
use Rattle.std.specs.Prelude.{◌||◌, if◌then◌else◌, ℕ, List, Option, None}
use Rattle.std.specs.List.{list_any}
use Rattle.e3_types.specs.declared.entries.Input.{Input}
use Rattle.e3_types.specs.declared.entries.Input.TheVariants as input
use Rattle.e3_types.specs.declared.records.Record.{Record}
use Rattle.e3_types.specs.declared.transactions.Call.{Call}
use Rattle.e3_types.specs.declared.transactions.Txn.{Txn}
use Rattle.e3_types.specs.declared.verdicts.SiteReport.{SiteReport}
use Rattle.e3_types.specs.Same.{same_txn}
use Rattle.e3_world.specs.Gatherings.{Election}
use Rattle.e3_world.specs.declared.lives.SiteStep.{SiteStep}
use Rattle.e3_world.specs.Elections.{is_decision, tells_verdict}
use Rattle.e3_readings.specs.Electing.{election_anew, election_behind}
use Rattle.e3_cards.specs.declared.seen.Seen.{Seen}
use Rattle.e3_cards.specs.Seeing.{seen_state}

-- what a site that has seen this of the transaction reports of it
abbrev pub seen_report : ℕ → Seen → SiteReport
seen_report site seen = record { site = site; state = seen_state seen; attempt = seen.attempt }

-- the election behind an input: an Elect of the transaction begins one, under this call
abbrev pub election_upon : ℕ → Call → Txn → Seen → List Record → Option Election → Input → Option Election
election_upon site call t seen records was (input.Elect u group) =
    if same_txn t u then election_anew t (seen_report site seen) seen.elected records call group else was
election_upon site call t seen records was (input.Deliver packet) = election_behind t (seen_report site seen) records packet was
election_upon site call t seen records was _ = was

-- the election behind one more step, which ends it by a decision or by a verdict
abbrev pub election_now : ℕ → Call → Txn → Seen → Option Election → SiteStep → Option Election
election_now site call t seen was s =
    if list_any (is_decision t) s.records || list_any (tells_verdict t) s.told then None
    else election_upon site call t seen s.records was s.input
