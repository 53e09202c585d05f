use Rattle.std.proofs.Common.{◌≡◌, ◌∙◌, ◌++◌, ◌∷◌, [], List, ap, length, refl, subst, sym}
use Rattle.std.proofs.lemmas.List.{with_items_is}
use Rattle.std.proofs.lemmas.Result.{IfOk-weaker}
use Rattle.std.specs.Vec.{with_items}
use Rattle.e3_world.specs.Packets.{is_calm}
use Rattle.e3_judge.specs.audit.Seats.{SeatsStand, line_of}
use Rattle.e3_judge.specs.declared.audit.seat.Seat.{Seat}
use Rattle.e3_judge.proofs.audit.Entered.{begun}
use Rattle.e3_judge.proofs.audit.auditor.Auditor.begin.Goals as goal

pub returns : goal.returns
returns c =
    let seats = c.ask_all.new.seats in
    let same : (with_items c.args.self.now.seats seats).items ≡ seats = with_items_is c.args.self.now.seats seats (c.ask_all.ensures.count ∙ c.deref_mut.ensures.len) in
    IfOk-weaker c.ask_all.result _ _ (λ u stand.
    begun c.args.prefix.now.scenario.now c.args.prefix.now.entries.now c.args.number c.args.self.now
    (record { lines = c.args.number; net = c.calm.new.self; seats = with_items c.args.self.now.seats seats }) c.requires.stands c.requires.due refl
    (c.calm.ensures.traffic ∙ ap (λ b. record c.args.self.now.net.traffic { calm = b }) (c.is_calm.ensures ∙ ap is_calm c.step_items.ensures))
    (ap length same ∙ c.ask_all.ensures.count ∙ ap length c.deref_mut.ensures.value)
    (subst (λ (l : List Seat). SeatsStand c.args.prefix.now.scenario.now (c.args.prefix.now.entries.now ++ line_of c.args.number ∷ []) l) (sym same) stand)) c.ask_all.ensures.stand
