use Rattle.std.proofs.Common.{◌≡◌, take, fold}
use Rattle.std.specs.List.{flat_map}
use Rattle.e3_readings.specs.Answering.{answered_txns}
use Rattle.e3_cards.specs.Tables.{add_once}
use Rattle.e3_cards.proofs.touched.add_packets.Given as goal

abbrev pub invariant-loop-packet : goal.invariant-loop-packet
invariant-loop-packet l = l.out ≡ fold add_once l.initial.out (flat_map answered_txns (take l.packet-index l.outs))
