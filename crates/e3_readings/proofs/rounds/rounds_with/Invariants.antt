use Rattle.std.proofs.Common.{◌≡◌, take, fold}
use Rattle.e3_world.specs.Rounds.{round_by_record}
use Rattle.e3_readings.proofs.rounds.rounds_with.Given as goal

abbrev pub invariant-loop-r : goal.invariant-loop-r
invariant-loop-r l = l.round ≡ fold (round_by_record l.site l.t l.group) l.fn.first (take l.r-index l.records)
