use Rattle.e3_log.proofs.Looking.{looks_ok}
use Rattle.e3_log.proofs.open.read_body.Goals as goal

pub returns-clause-looks : goal.returns-clause-looks
returns-clause-looks g c = looks_ok c.in_ok-read_in.ensures.looks
