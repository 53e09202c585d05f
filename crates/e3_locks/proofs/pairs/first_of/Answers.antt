-- those from the first pair on do not come before the transaction
use Rattle.e3_locks.proofs.Pairing.{from_at, from_gap}
use Rattle.e3_locks.proofs.pairs.first_of.Goals as goal

pub returns-in-Ok-clause-from : goal.returns-in-Ok-clause-from
returns-in-Ok-clause-from c = from_at c.args.t.now c.args.pairs.now c.in-Ok.at c.in-Ok.ensures

pub returns-in-Err-clause-from : goal.returns-in-Err-clause-from
returns-in-Err-clause-from c = from_gap c.args.t.now c.args.pairs.now c.in-Err.at c.in-Err.ensures
