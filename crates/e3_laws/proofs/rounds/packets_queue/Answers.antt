use Rattle.e3_laws.proofs.rounds.Deliveries.Counted.{is_counted}
use Rattle.e3_laws.proofs.rounds.Deliveries.Queue.{queue_begins, queue_is_pending, delivery_shifts}
use Rattle.e3_laws.proofs.rounds.packets_queue.Goals as goal

pub returns-clause-counted : goal.returns-clause-counted
returns-clause-counted c = is_counted

pub returns-clause-begins : goal.returns-clause-begins
returns-clause-begins c = queue_begins

pub returns-clause-pending : goal.returns-clause-pending
returns-clause-pending c = queue_is_pending

pub returns-clause-shifts : goal.returns-clause-shifts
returns-clause-shifts c = delivery_shifts
