-- the fault of the numbers is the one that was found
use Rattle.std.proofs.Common.{sym}
use Rattle.e3_quorum.proofs.Faults.{refuses}
use Rattle.e3_quorum.proofs.weights.Weights.new.Goals as goal

pub returns-in-Some-clause-err : goal.returns-in-Some-clause-err
returns-in-Some-clause-err c = refuses c.args.weights.now c.in-Some.fault (sym c.in-Some.ensures)
