use Rattle.e3_laws.proofs.steps.Suits.Laws.{trails_sound, logs_of_trails, silent_end}
use Rattle.e3_laws.proofs.steps.trails_are_sound.Goals as goal

pub returns-clause-sound : goal.returns-clause-sound
returns-clause-sound c = trails_sound

pub returns-clause-logs : goal.returns-clause-logs
returns-clause-logs c = logs_of_trails

pub returns-clause-silent : goal.returns-clause-silent
returns-clause-silent c = silent_end
