use Rattle.std.proofs.Common.{◌≡◌, ◌++◌, take, filter}
use Rattle.e3_world.specs.Logs.{is_undecided}
use Rattle.e3_readings.proofs.opens.add_undecided.Given as goal

abbrev pub invariant-loop-t : goal.invariant-loop-t
invariant-loop-t l = l.out ≡ l.initial.out ++ filter (λ t. is_undecided t l.log) (take l.t-index l.txns)
