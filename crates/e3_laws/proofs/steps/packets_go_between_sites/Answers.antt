use Rattle.e3_laws.proofs.steps.Suits.Laws.{go_between, was_sent}
use Rattle.e3_laws.proofs.steps.packets_go_between_sites.Goals as goal

pub returns-clause-between : goal.returns-clause-between
returns-clause-between c = go_between

pub returns-clause-pending : goal.returns-clause-pending
returns-clause-pending c = was_sent
