use Rattle.e3_laws.proofs.local.Working.{due_may, items_stay, next_item, readings_stay}
use Rattle.e3_laws.proofs.local.workers_know_their_site.Goals as goal

pub returns-clause-readings : goal.returns-clause-readings
returns-clause-readings c = readings_stay

pub returns-clause-items : goal.returns-clause-items
returns-clause-items c = items_stay

pub returns-clause-next : goal.returns-clause-next
returns-clause-next c = next_item

pub returns-clause-due : goal.returns-clause-due
returns-clause-due c = due_may
