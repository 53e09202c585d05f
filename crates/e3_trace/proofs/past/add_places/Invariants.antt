-- the places of the packets so far
use Rattle.std.proofs.Common.{◌++◌, ◌∷◌, [], take}
use Rattle.e3_world.specs.Packets.{outs_of, sent}
use Rattle.e3_trace.specs.Past.{ArePlaces, by_number}
use Rattle.e3_trace.proofs.past.add_places.Given as goal

abbrev pub invariant-loop-i : goal.invariant-loop-i
invariant-loop-i l =
    ArePlaces (l.entries.entries ++ l.entry ∷ []) l.places.entries (by_number (sent l.entries.entries ++ take l.i (outs_of l.entry.act)))
