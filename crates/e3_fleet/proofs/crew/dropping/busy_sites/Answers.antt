use Rattle.std.proofs.Common.{◌≡◌, Option, Some, None, true, false, refl, sym, ◌∙◌}
use Rattle.std.specs.Option.{is_some}
use Rattle.e3_types.specs.declared.messages.Packet.{Packet}
use Rattle.e3_wire.specs.Marks.{entries_of, scenario_of}
use Rattle.e3_world.specs.Packets.{pending}
use Rattle.e3_world.proofs.Guards.{nothing_first}
use Rattle.e3_fleet.proofs.crew.dropping.busy_sites.Goals as goal

none_of : (first : Option Packet) → is_some first ≡ false → first ≡ None
none_of None is = refl
none_of (Some packet) is = absurd (let both : true ≡ false = is in cc)

pub returns-then-is_none : goal.returns-then-is_none
returns-then-is_none g c = λ zero.
    let none : c.first.result ≡ None = none_of c.first.result (rw c.if-is_none.true at c.is_none.ensures) in
    nothing_first (pending (scenario_of c.args.shared.now) (entries_of c.args.shared.now)) (sym c.first.ensures ∙ none)
