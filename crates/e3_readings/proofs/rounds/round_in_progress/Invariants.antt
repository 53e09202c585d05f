use Rattle.std.proofs.Common.{◌≡◌, take, fold, [], None}
use Rattle.e3_world.specs.Rounds.{round_by}
use Rattle.e3_readings.proofs.rounds.round_in_progress.Given as goal

abbrev pub invariant-loop-m : goal.invariant-loop-m
invariant-loop-m l = l.rounds ≡ fold (round_by l.site l.t) (record { group = []; now = None }) (take l.m-index l.steps)
