use Rattle.std.proofs.Common.{◌≡◌, fold, take}
use Rattle.e3_report.specs.Summary.{begun_by}
use Rattle.e3_report.specs.Tallies.{with_txns}
use Rattle.e3_report.proofs.tallies.add_begun.Given as goal

abbrev pub invariant-loop-event : goal.invariant-loop-event
invariant-loop-event l = l.begun ≡ fold (λ keys event. with_txns keys (begun_by event)) l.initial.begun (take l.event-index l.events)
