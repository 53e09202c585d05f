use Rattle.std.proofs.Common.{ap, sym}
use Rattle.e3_types.specs.declared.messages.Packet.{Packet}
use Rattle.e3_trace.proofs.Standing.{places_begun, place_next}
use Rattle.e3_trace.proofs.past.add_places.Goals as goal

pub loop-i-init : goal.loop-i-init
loop-i-init c = places_begun c.args.entries.now.entries c.args.entry.now c.args.places.now.entries c.requires

pub loop-i-preserved : goal.loop-i-preserved
loop-i-preserved c =
    rw c.in_ok-put.ensures (
    place_next c.args.entries.now.entries c.args.entry.now c.loop-i.places.entries c.loop-i.i c.len-at.result _ c.index-outs-i.result c.outs-outs.result.now
    (ap (λ (p : Packet). p.number) (sym c.index-outs-i.is)) c.outs-outs.ensures c.len-at.ensures c.loop-i-test.true c.index-outs-i.is c.loop-i.invariant
    )
