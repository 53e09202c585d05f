use Rattle.std.proofs.Common.{◌≡◌, take, fold, None}
use Rattle.e3_world.specs.Elections.{election_by}
use Rattle.e3_readings.proofs.elections.election_in_progress.Given as goal

abbrev pub invariant-loop-m : goal.invariant-loop-m
invariant-loop-m l = record { calls = l.elections.calls; now = l.elections.now } ≡ fold (election_by l.site l.inc l.t) (record { calls = 0; now = None }) (take l.m-index l.steps)
