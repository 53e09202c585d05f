use Rattle.std.proofs.Common.{◌≡◌, ◌++◌, take}
use Rattle.std.specs.List.{flat_map}
use Rattle.e3_readings.specs.Answering.{answered_txns}
use Rattle.e3_places.proofs.touching.add_all_sent.Given as goal

abbrev pub invariant-loop-packet : goal.invariant-loop-packet
invariant-loop-packet l = l.out ≡ l.initial.out ++ flat_map answered_txns (take l.packet-index l.outs)
