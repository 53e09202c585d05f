use Rattle.e3_log.proofs.Looking.{looks_both}
use Rattle.e3_log.proofs.prepare.read_fronts.Goals as goal

pub returns-clause-looks : goal.returns-clause-looks
returns-clause-looks g c = looks_both c.in_ok-first.ensures.looks c.in_ok-second.ensures.looks
