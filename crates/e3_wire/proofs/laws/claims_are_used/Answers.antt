use Rattle.e3_wire.proofs.Spending.{claims_are_used, entries_promise_nothing}
use Rattle.e3_wire.proofs.laws.claims_are_used.Goals as goal

pub returns-clause-driver : goal.returns-clause-driver
returns-clause-driver c = entries_promise_nothing

pub returns-clause-site : goal.returns-clause-site
returns-clause-site c = claims_are_used
