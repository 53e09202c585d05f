use Rattle.std.proofs.Common.{rules, ◌≡◌}
use Rattle.e3_turn.proofs.Tickets.{has_slot, saw, grown_along}
use Rattle.e3_turn.proofs.lock.TurnLock.take.Goals as goal

pub exchange-requires : goal.exchange-requires
exchange-requires g c = (search rules, has_slot g.V.Chronicle.marks g.V.Chronicle.belongs 0 c.draw-ticket.new.pass.me c.wait.new.pass.me c.wait.ensures.turn)

pub returns-clause-grew : goal.returns-clause-grew
returns-clause-grew g c =
    let e : c.wait.new.pass.me.0.seen ≡ g.V.Chronicle.marks c.in-Some.value = search rules in
    grown_along g.V.Chronicle.marks g.V.Chronicle.belongs 0 c.args.pass.now.me c.draw-ticket.new.pass.me _ _ c.draw-ticket.ensures.same.owners c.draw-ticket.ensures.same.last c.draw-ticket.ensures.seen e (saw g.V.Chronicle.marks g.V.Chronicle.belongs 0 c.draw-ticket.new.pass.me c.wait.new.pass.me c.wait.ensures.turn)
