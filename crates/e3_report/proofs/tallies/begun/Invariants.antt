use Rattle.std.proofs.Common.{◌≡◌, [], fold, take}
use Rattle.std.specs.List.{flat_map}
use Rattle.e3_report.specs.Summary.{begun_by, events_of}
use Rattle.e3_report.specs.Tallies.{with_txns}
use Rattle.e3_report.proofs.tallies.begun.Given as goal

abbrev pub invariant-loop-e : goal.invariant-loop-e
invariant-loop-e l = l.begun ≡ fold (λ keys e. with_txns keys (flat_map begun_by (events_of e.act))) [] (take l.e-index l.history)
