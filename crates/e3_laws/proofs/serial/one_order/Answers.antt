use Rattle.e3_world.specs.Moves.{trail_of}
use Rattle.e3_laws.proofs.serial.Told.ToldReads.{one_order}
use Rattle.e3_laws.proofs.serial.one_order.Goals as goal

pub returns : goal.returns
returns c = λ sc h given legal. one_order sc (trail_of sc h) (c.trails_are_sound.ensures.sound sc h given legal) (c.histories_agree.ensures.voted sc h given legal)
    (c.legal_histories_replay.ensures.tables sc h given legal) (c.legal_histories_replay.ensures.votes sc h given legal)
