use Rattle.std.proofs.Common.{◌≡◌, ◌++◌, take}
use Rattle.std.specs.List.{flat_map}
use Rattle.e3_judge.specs.Clashes.{decisions_in}
use Rattle.e3_judge.proofs.logs.add_decisions.Given as goal

abbrev pub invariant-loop-r : goal.invariant-loop-r
invariant-loop-r l = l.out ≡ l.initial.out ++ flat_map decisions_in (take l.r-index l.records)
