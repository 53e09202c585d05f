use Rattle.std.proofs.Common.{◌≡◌, ◌++◌, take}
use Rattle.std.specs.List.{flat_map}
use Rattle.e3_readings.proofs.lives.present_log.Given as goal

abbrev pub invariant-loop-s : goal.invariant-loop-s
invariant-loop-s l = l.log ≡ l.rose ++ flat_map (λ s. s.records) (take l.s-index l.since)
