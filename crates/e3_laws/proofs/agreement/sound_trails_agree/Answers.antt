use Rattle.e3_laws.proofs.agreement.Refinement.Sounding.{sound_made, sound_agrees, sound_voted}
use Rattle.e3_laws.proofs.agreement.sound_trails_agree.Goals as goal

pub returns-clause-made : goal.returns-clause-made
returns-clause-made c = sound_made

pub returns-clause-agree : goal.returns-clause-agree
returns-clause-agree c = sound_agrees

pub returns-clause-voted : goal.returns-clause-voted
returns-clause-voted c = sound_voted
