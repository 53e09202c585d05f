use Rattle.std.proofs.Common.{rules, ◌∙◌, sym}
use Rattle.e3_turn.proofs.Tickets.{draws_as}
use Rattle.e3_turn.proofs.lock.TurnLock.draw.Goals as goal

pub fetch_add-requires : goal.fetch_add-requires
fetch_add-requires g c = (c.requires.of_lock ∙ sym c.self.view_is, search rules, draws_as _ _ _ _ _ _ c.requires.rests)
