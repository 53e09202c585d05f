use Rattle.std.proofs.Common.{◌∙◌, length, refl, sym, arith}
use Rattle.std.proofs.lemmas.Option.{slice_get_read}
use Rattle.e3_judge.proofs.audit.FallsAndRises.{lost_here}
use Rattle.e3_judge.proofs.audit.auditor.Auditor.is_lost.Goals as goal

pub returns-in-Some : goal.returns-in-Some
returns-in-Some c = λ yes.
    let items = c.args.self.now.seats.items in
    let seat = c.index.result.now in
    lost_here c.args.prefix.now.scenario.now c.args.prefix.now.entries.now c.args.self.now c.args.number c.args.at seat c.in-Some.packet.now c.requires.stands
    (slice_get_read items (length items) c.args.at seat refl (omega arith) c.index.ensures) (sym c.is_down.ensures ∙ c.if-not-is_down.false)
    (sym c.in-Some.ensures) (sym c.may_lose.ensures ∙ yes)
