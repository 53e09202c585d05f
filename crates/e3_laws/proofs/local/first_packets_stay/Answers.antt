use Rattle.e3_laws.proofs.local.Queues.{first_are_waiting, front_is_least, queue_goes_on, queue_stays}
use Rattle.e3_laws.proofs.local.first_packets_stay.Goals as goal

pub returns-clause-stay : goal.returns-clause-stay
returns-clause-stay c = queue_stays

pub returns-clause-least : goal.returns-clause-least
returns-clause-least c = front_is_least

pub returns-clause-goes_on : goal.returns-clause-goes_on
returns-clause-goes_on c = queue_goes_on

pub returns-clause-waiting : goal.returns-clause-waiting
returns-clause-waiting c = first_are_waiting
