use Rattle.std.proofs.Common.{◌≡◌, take}
use Rattle.e3_readings.specs.Bindings.{bound_behind}
use Rattle.e3_judge.specs.audit.Seats.{Stands}
use Rattle.e3_judge.proofs.audit.walking.walk_with.Given as goal

abbrev pub invariant-loop-at : goal.invariant-loop-at
invariant-loop-at l = record {
  stands : Stands l.scenario (take l.at l.history) l.auditor;
  bound : l.binding ≡ bound_behind l.scenario (take l.at l.history);
}
