use Rattle.e3_laws.proofs.local.Least.{first_is_least, least_is_pending, least_stays}
use Rattle.e3_laws.proofs.local.least_packets_stay.Goals as goal

pub returns-clause-stay : goal.returns-clause-stay
returns-clause-stay c = least_stays

pub returns-clause-pending : goal.returns-clause-pending
returns-clause-pending c = least_is_pending

pub returns-clause-first : goal.returns-clause-first
returns-clause-first c = first_is_least
