use Rattle.e3_laws.proofs.local.Laws.{local, local_keeps_legal}
use Rattle.e3_laws.proofs.local.entries_are_local.Goals as goal

pub returns-clause-local : goal.returns-clause-local
returns-clause-local c = local

pub returns-clause-legal : goal.returns-clause-legal
returns-clause-legal c = local_keeps_legal
