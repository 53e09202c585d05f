use Rattle.std.proofs.Common.{◌≡◌, take}
use Rattle.e3_judge.specs.Clashes.{owners}
use Rattle.e3_judge.proofs.logs.owners.Given as goal

abbrev pub invariant-loop-e : goal.invariant-loop-e
invariant-loop-e l = l.all ≡ owners (take l.e-index l.history)
