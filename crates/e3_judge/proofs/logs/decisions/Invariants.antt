use Rattle.std.proofs.Common.{◌≡◌, take}
use Rattle.std.specs.List.{flat_map}
use Rattle.e3_judge.specs.Clashes.{decided_at, owners}
use Rattle.e3_judge.proofs.logs.decisions.Given as goal

abbrev pub invariant-loop-s : goal.invariant-loop-s
invariant-loop-s l = l.out ≡ flat_map (decided_at l.history) (take l.s-index (owners l.history))
