-- The packets of one entry that have a copy left.
use Rattle.std.specs.Prelude.{nat_lt, List, filter}
use Rattle.e3_types.specs.declared.entries.Entry.{Entry}
use Rattle.e3_types.specs.declared.messages.Packet.{Packet}
use Rattle.e3_types.specs.declared.scenarios.Scenario.{Scenario}
use Rattle.e3_world.specs.Fate.{copies_of}
use Rattle.e3_world.specs.Packets.{fate_of, outs_of, taken}

-- of the packets of an entry behind these: those of which fewer copies were taken in the whole history than their fate gives
unfoldable pub left_of : Scenario → List Entry → List Entry → Entry → List Packet
left_of sc all before e = filter (λ p. nat_lt (taken p.number all) (copies_of (fate_of sc before p))) (outs_of e.act)
