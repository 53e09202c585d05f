use Rattle.std.proofs.Common.{◌∙◌, subst, sym}
use Rattle.e3_judge.specs.Equal.{same_packet}
use Rattle.e3_judge.proofs.SameParts.{exact_packet, exact_some}
use Rattle.e3_net.proofs.Entering.{item_next}
use Rattle.e3_net.specs.Stands.{IsNext}
use Rattle.e3_net.specs.Traffic.{packet_to}
use Rattle.e3_types.specs.declared.entries.Input.{Input}
use Rattle.e3_judge.proofs.audit.Entered.{no_delivery}
use Rattle.e3_judge.proofs.audit.several.is_next.Goals as goal

pub returns-in-Deliver : goal.returns-in-Deliver
returns-in-Deliver c = λ yes.
    let p = c.in-Deliver.packet in
    let net = c.args.net.now.traffic in
    subst (λ (i : Input). IsNext net i) (sym c.in-Deliver.is)
    ((exact_some same_packet exact_packet (packet_to p.to net) p).0 (sym c.is_next_to.ensures ∙ yes))

pub returns-in_default : goal.returns-in_default
returns-in_default c = λ yes. item_next c.args.net.now.traffic c.args.input.now (no_delivery c.args.input.now (λ p is. c.in_default.not-Deliver p is))
