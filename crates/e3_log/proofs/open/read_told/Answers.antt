use Rattle.e3_log.proofs.HandedOut.{told_few}
use Rattle.e3_log.proofs.Looking.{looks_ok}
use Rattle.e3_log.proofs.open.read_told.Goals as goal

pub returns-clause-looks : goal.returns-clause-looks
returns-clause-looks g c = looks_ok c.in_ok-read_in.ensures.looks

pub returns-then-size-lt5-clause-told : goal.returns-then-size-lt5-clause-told
returns-then-size-lt5-clause-told g c = told_few _ _ c.if-size-lt5.true
