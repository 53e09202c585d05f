use Rattle.std.proofs.Common.{rules, ◌∙◌, sym}
use Rattle.e3_turn.proofs.Tickets.{looks_as}
use Rattle.e3_turn.proofs.lock.TurnLock.look.Goals as goal

pub load-found-requires : goal.load-found-requires
load-found-requires g c = (c.requires.of_lock ∙ sym c.self.view_is, search rules, looks_as _ _ _ _ _ _ c.requires.waits.0)
