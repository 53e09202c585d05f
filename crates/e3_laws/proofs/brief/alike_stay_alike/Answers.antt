use Rattle.e3_laws.proofs.brief.Alike.Laws as laws
use Rattle.e3_laws.proofs.brief.alike_stay_alike.Goals as goal

pub returns-clause-rise : goal.returns-clause-rise
returns-clause-rise c = laws.rises_alike

pub returns-clause-turned : goal.returns-clause-turned
returns-clause-turned c = laws.turned_alike

pub returns-clause-on : goal.returns-clause-on
returns-clause-on c = laws.go_on

pub returns-clause-logs : goal.returns-clause-logs
returns-clause-logs c = laws.logs_alike

pub returns-clause-orders : goal.returns-clause-orders
returns-clause-orders c = laws.orders_alike
