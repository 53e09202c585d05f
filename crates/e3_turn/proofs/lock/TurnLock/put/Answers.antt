use Rattle.std.proofs.Common.{rules, ◌∙◌, sym}
use Rattle.e3_turn.proofs.Tickets.{put_as}
use Rattle.e3_turn.proofs.lock.TurnLock.put.Goals as goal

pub fetch_add-ticket-requires : goal.fetch_add-ticket-requires
fetch_add-ticket-requires g c = (c.exchange.ensures.0 ∙ c.requires.turn.of_lock ∙ sym c.self.view_is, search rules, put_as _ _ _ _ _ _ _ c.args.value c.requires.turn.served c.exchange.ensures.3 c.requires.grew)
