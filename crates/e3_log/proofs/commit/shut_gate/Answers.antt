use Rattle.e3_log.proofs.Tearing.{only_torn}
use Rattle.e3_log.proofs.commit.shut_gate.Goals as goal

pub returns-clause-images : goal.returns-clause-images
returns-clause-images g c = λ only image at. only_torn _ _ _ _ _ only c.set_gate.ensures.images image at
