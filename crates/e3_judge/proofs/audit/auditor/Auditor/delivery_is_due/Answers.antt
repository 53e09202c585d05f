use Rattle.std.proofs.Common.{◌≡◌, ◌∙◌, ap, sym, Some, arith}
use Rattle.std.specs.List.{list_all}
use Rattle.e3_judge.specs.Equal.{same_packet}
use Rattle.e3_judge.proofs.SameParts.{exact_packet, exact_some}
use Rattle.e3_net.specs.Traffic.{packet_to}
use Rattle.e3_judge.specs.audit.Seats.{is_done}
use Rattle.e3_judge.proofs.audit.Entered.{delivery_is_due, in_order}
use Rattle.e3_judge.proofs.audit.Through.{all_done}
use Rattle.e3_judge.proofs.audit.auditor.Auditor.delivery_is_due.Goals as goal

pub returns-clause-due : goal.returns-clause-due
returns-clause-due c = λ yes.
    let sc = c.args.prefix.now.scenario.now in
    let h = c.args.prefix.now.entries.now in
    let a = c.args.self.now in
    let next : packet_to c.args.site a.net.traffic ≡ Some c.args.packet.now =
    (exact_some same_packet exact_packet (packet_to c.args.site a.net.traffic) c.args.packet.now).0 (sym c.is_next_to.ensures ∙ c.if-not-is_next_to.false) in
    delivery_is_due sc h c.args.site c.args.packet.now a.net.traffic c.requires.net (omega arith)
    (in_order sc h c.args.packet.now a c.requires (sym c.is_in_order.ensures ∙ c.if-not-is_in_order.false)) next
    (all_done sc h a.seats.items c.requires.seats c.requires.count (sym (c.are_done.ensures ∙ ap (list_all is_done) c.as_slice.ensures.value) ∙ yes))

pub returns-clause-next : goal.returns-clause-next
returns-clause-next c = λ yes.
    let a = c.args.self.now in
    let to : c.args.packet.now.to ≡ c.args.site = omega arith in
    ap (λ n. packet_to n a.net.traffic) to
    ∙ (exact_some same_packet exact_packet (packet_to c.args.site a.net.traffic) c.args.packet.now).0 (sym c.is_next_to.ensures ∙ c.if-not-is_next_to.false)
