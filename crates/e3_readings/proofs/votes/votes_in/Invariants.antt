use Rattle.std.proofs.Common.{◌≡◌, take, fold, None}
use Rattle.e3_world.specs.Votes.{yes_by}
use Rattle.e3_readings.specs.Gathering.{missing_yes}
use Rattle.e3_readings.proofs.votes.votes_in.Given as goal

abbrev pub invariant-loop-m : goal.invariant-loop-m
invariant-loop-m l = l.votes ≡ missing_yes l.site l.t (fold (yes_by l.t) None (take l.m-index l.steps))
