use Rattle.std.proofs.Common.{◌≡◌, take, filter}
use Rattle.std.specs.List.{flat_map}
use Rattle.e3_types.specs.Sets.{has_site}
use Rattle.e3_readings.specs.RoundOf.{round_of}
use Rattle.e3_readings.proofs.recovery_rounds.rounds_in_turn.Given as goal

abbrev pub invariant-loop-t : goal.invariant-loop-t
invariant-loop-t l = l.rounds ≡ flat_map (λ t. round_of t (filter (has_site t.sites) l.up)) (take l.t-index l.txns)
