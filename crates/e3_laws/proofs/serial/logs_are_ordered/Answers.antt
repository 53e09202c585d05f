use Rattle.e3_world.specs.Moves.{trail_of}
use Rattle.e3_laws.proofs.serial.Site.Serial.{ordered, legal_members}
use Rattle.e3_laws.proofs.serial.logs_are_ordered.Goals as goal

pub returns : goal.returns
returns c = λ sc h given legal. ordered sc (trail_of sc h) (c.trails_are_sound.ensures.sound sc h given legal)
    (c.histories_agree.ensures.agree sc h given legal) (c.histories_agree.ensures.voted sc h given legal)
    (legal_members c.records_suit_their_site.ensures.records c.trails_are_sound.ensures.logs sc h given legal)
