use Rattle.std.proofs.Common.{◌≡◌, take, fold}
use Rattle.std.specs.List.{flat_map}
use Rattle.e3_laws.specs.rounds.Rounds.{verdict_in}
use Rattle.e3_play.specs.Reports.{later}
use Rattle.e3_play.proofs.reporting.verdict_after.Given as goal

abbrev pub invariant-loop-event : goal.invariant-loop-event
invariant-loop-event l = l.last ≡ fold later l.fn.was (flat_map (verdict_in l.txn) (take l.event-index l.told))
