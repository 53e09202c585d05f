use Rattle.std.proofs.Common.{◌≡◌, take, fold, []}
use Rattle.e3_world.specs.Operations.{arrived_by}
use Rattle.e3_readings.proofs.operations.arrivals.Given as goal

abbrev pub invariant-loop-i : goal.invariant-loop-i
invariant-loop-i l = fold (arrived_by l.site) (record { steps = []; asked = [] }) (take l.i l.steps) ≡ record { steps = take l.i l.steps; asked = l.asked }
