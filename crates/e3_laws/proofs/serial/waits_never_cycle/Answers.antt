use Rattle.e3_laws.proofs.serial.Waits.Cycles.{older_waits, no_cycle}
use Rattle.e3_laws.proofs.serial.waits_never_cycle.Goals as goal

pub returns-clause-older : goal.returns-clause-older
returns-clause-older c = older_waits c.trails_are_sound.ensures.sound

pub returns-clause-none : goal.returns-clause-none
returns-clause-none c = no_cycle (older_waits c.trails_are_sound.ensures.sound)
