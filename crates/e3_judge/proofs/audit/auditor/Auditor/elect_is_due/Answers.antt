use Rattle.std.proofs.Common.{◌≡◌, ◌∙◌, ◌-◌, ap, sym, length, refl, false, subst, arith}
use Rattle.std.proofs.lemmas.Option.{slice_get_read}
use Rattle.std.proofs.lemmas.Result.{IfOk-weaker}
use Rattle.e3_types.specs.declared.entries.Input.{Input}
use Rattle.e3_world.specs.Items.{is_delivery}
use Rattle.e3_world.specs.Legal.{IsDue}
use Rattle.e3_judge.proofs.audit.Entered.{item_is_due, round_due}
use Rattle.e3_judge.proofs.audit.Through.{seat_at}
use Rattle.e3_judge.proofs.audit.auditor.Auditor.elect_is_due.Goals as goal

pub returns-then-is_next_item : goal.returns-then-is_next_item
returns-then-is_next_item c = λ yes.
    let sc = c.args.prefix.now.scenario.now in
    let h = c.args.prefix.now.entries.now in
    let items = c.args.self.now.seats.items in
    let count = c.requires.stands.count in
    let seat = c.index.result.now in
    let there = slice_get_read items (length items) (c.args.site - 1) seat refl (omega (arith, count)) c.index.ensures in
    let none : is_delivery c.args.input.now ≡ false = ap is_delivery c.requires.elect in
    subst (λ (i : Input). IsDue sc h c.args.site i) c.requires.elect
    (item_is_due sc h c.args.site c.args.input.now seat (seat_at sc h items c.args.site seat c.requires.stands.seats c.requires.some there) none
    (sym c.is_next_item.ensures ∙ c.if-is_next_item.true))

pub returns : goal.returns
returns c = IfOk-weaker c.round_is_due.result _ _ (λ b both yes.
    round_due c.args.prefix.now.scenario.now c.args.prefix.now.entries.now c.args.site c.args.txn.now c.args.group c.args.self.now.net.traffic c.requires.stands.net
    (both yes).0 (both yes).1) c.round_is_due.ensures
