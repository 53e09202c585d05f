use Rattle.std.proofs.Common.{◌≡◌, ◌∙◌, ◌-◌, sym, length, refl, false, arith}
use Rattle.std.proofs.lemmas.Option.{slice_get_read}
use Rattle.e3_net.proofs.Entering.{item_next}
use Rattle.e3_world.specs.Items.{is_delivery}
use Rattle.e3_judge.proofs.audit.Entered.{item_is_due, no_delivery}
use Rattle.e3_judge.proofs.audit.Through.{seat_at}
use Rattle.e3_judge.proofs.audit.auditor.Auditor.input_is_due.Goals as goal

pub returns-in_default : goal.returns-in_default
returns-in_default c =
    let sc = c.args.prefix.now.scenario.now in
    let h = c.args.prefix.now.entries.now in
    let items = c.args.self.now.seats.items in
    let count = c.requires.stands.count in
    let seat = c.index.result.now in
    let none : is_delivery c.args.input.now ≡ false = no_delivery c.args.input.now (λ p is. c.in_default.not-Deliver p is) in
    let there = slice_get_read items (length items) (c.args.site - 1) seat refl (omega (arith, count)) c.index.ensures in
    record {
      due = λ yes. item_is_due sc h c.args.site c.args.input.now seat (seat_at sc h items c.args.site seat c.requires.stands.seats c.requires.some there) none
          (sym c.is_next_item.ensures ∙ yes);
      next = λ yes. item_next c.args.self.now.net.traffic c.args.input.now none;
    }
