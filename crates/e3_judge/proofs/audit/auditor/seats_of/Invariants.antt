use Rattle.std.proofs.Common.{◌≡◌, [], length}
use Rattle.e3_types.specs.declared.scenarios.Scenario.{Scenario}
use Rattle.e3_judge.specs.audit.Seats.{SeatsStand}
use Rattle.e3_judge.proofs.audit.auditor.seats_of.Given as goal

abbrev pub invariant-loop-made : goal.invariant-loop-made
invariant-loop-made l = record {
  count : length l.seats ≡ l.made;
  stand : (sc : Scenario) → SeatsStand sc [] l.seats;
}
