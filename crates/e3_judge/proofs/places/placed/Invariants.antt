use Rattle.std.proofs.Common.{◌≡◌, take}
use Rattle.e3_world.specs.Moves.{all_records, trail_of}
use Rattle.e3_judge.proofs.places.placed.Given as goal

abbrev pub invariant-loop-at : goal.invariant-loop-at
invariant-loop-at l = l.out ≡ all_records (trail_of l.scenario (take l.at l.history))
