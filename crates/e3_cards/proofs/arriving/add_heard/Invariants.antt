use Rattle.std.proofs.Common.{◌≡◌, ◌++◌, take}
use Rattle.std.specs.List.{flat_map}
use Rattle.e3_cards.specs.Arriving.{heard_told, heard_sent}
use Rattle.e3_cards.proofs.arriving.add_heard.Given as goal

abbrev pub invariant-loop-e : goal.invariant-loop-e
invariant-loop-e l = l.out ≡ l.initial.out ++ flat_map (heard_told l.t) (take l.e-index l.events)

abbrev pub invariant-loop-packet : goal.invariant-loop-packet
invariant-loop-packet l = l.out ≡ l.initial.out ++ flat_map (heard_sent l.t) (take l.packet-index l.outs)
